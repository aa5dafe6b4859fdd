-- The report of document 02's E7 about a file: for each block, in solving order, its number and its columns, then the verdict and the rank, in lines as those
-- of document 01; or the one line of a refusal. Definitions only.
use Rattle.std.specs.Prelude.{ℕ, zero, suc, ◌+◌, ◌*◌, ◌&&◌, List, Result, [], ◌++◌, eqb, ltb, length, get_or}
use Rattle.counting.specs.Sets.{Set}
use Rattle.columns.specs.Columns.{width}
use Rattle.rank.specs.Layered.Rank.{rank, verdict}
use Rattle.text.specs.Text.{ascii, line, item, column_items, verdict_line}
use Rattle.format.specs.declared.refusals.Refusal.{Refusal}
use Rattle.format.specs.File.Format.{judge}
use Rattle.layered.specs.FileModel.{file_model}
use Rattle.blocks.specs.Answers.{BlocksAnswered}
use Rattle.blocks.specs.Shown.{Blocks}
use Rattle.report.specs.FileReport.{Reports}

-- the columns of block k: those whose number is k
unfoldable pub block_columns : (numbers : List ℕ) (k : ℕ) → Set
block_columns numbers k x = ltb x (length numbers) && eqb (get_or numbers x 0) k

-- the word and the block's number, and its columns, ascending
unfoldable pub block_line : (numbers : List ℕ) (k : ℕ) → List ℕ
block_line numbers k = line (ascii "block" ++ item k) (column_items (block_columns numbers k))

-- the lines of so many blocks, from block k on
unfoldable pub block_lines : (numbers : List ℕ) (count k : ℕ) → List ℕ
block_lines numbers zero k = []
block_lines numbers (suc count) k = block_line numbers k ++ block_lines numbers count (suc k)

-- the lines of the blocks, then the verdict and the rank
unfoldable pub blocks_text : (verdict rank : ℕ) → Blocks → List ℕ
blocks_text verdict rank r = block_lines r.numbers r.count 0 ++ (verdict_line verdict ++ line (ascii "rank") (item rank))

-- as many blocks as a byte can count, since the code prints any such number
abbrev pub most_blocks : ℕ
most_blocks = 255

-- how many bytes the longest report has at most: 28 for the verdict and the rank, 10 for each block without its columns, and 4 for each column, which is in
-- one block
abbrev pub longest_blocks_report : ℕ
longest_blocks_report = 28 + 10 * most_blocks + 4 * width

-- the report: of the file's refusal, or the lines of the blocks of its model, and of the model's verdict and rank
abbrev pub BlocksFileReport : (file area : List ℕ) (r : Result ℕ Refusal) (area' : List ℕ) → Type 0
BlocksFileReport file area r area' =
    Reports (judge file) (BlocksAnswered (file_model file)) (blocks_text (verdict (file_model file)) (rank (file_model file))) area r area'
