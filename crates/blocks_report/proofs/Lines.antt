-- The lines of blocks: what they are made of, and how long they are. Assumes nothing.
use Prim.Native.Nat.{ℕ, zero, suc, ◌+◌, ◌-◌, ◌*◌, ◌≤◌, ◌<◌}
use mathlib.Core.Path.{◌≡◌, refl}
use mathlib.Core.Bool.{true, Bool-discrete}
use mathlib.Core.Logic.{by_cases}
use mathlib.Core.List.{List, [], ◌++◌, flat_map, append_assoc}
use native.Mathlib.Omega.{arith}
use native.Mathlib.Numerals.{add-one}
use lib.Dec.{eqb, leb, ltb}
use lib.ListN.{length, get_or, length-append}
use borrow.Author.Tests.{eqb-true, leb-true, le-leb}
use Rattle.counting.specs.Bools.{not_true, and_right}
use Rattle.counting.specs.Sets.{Set, ◌∈◌, ◌⊆◌}
use Rattle.columns.specs.Columns.{width}
use Rattle.text.specs.Text.{ascii, line, item, columns_from, column_items}
use Rattle.text.specs.TextLaws.{item_length, column_items_length, line_length, verdict_line_length}
use Rattle.blocks.specs.Shown.{Blocks}
use Rattle.blocks_report.specs.BlocksReport.{block_columns, block_line, block_lines, blocks_text, most_blocks, longest_blocks_report}

-- ---- what they are made of

-- the word, the number, and a line of the columns that has no word
pub block_line_is : (numbers : List ℕ) (k : ℕ) (S : Set) → S ≡ block_columns numbers k → block_line numbers k ≡ ascii "block" ++ (item k ++ line [] (column_items S))
unfolding block_line line
block_line_is numbers k S e = rw e (append_assoc (ascii "block") (item k) (column_items (block_columns numbers k) ++ ascii "\n"))

pub lines_next : (numbers : List ℕ) (count k : ℕ) → k < count → block_lines numbers (count - k) k ≡ block_line numbers k ++ block_lines numbers (count - (k + 1)) (k + 1)
unfolding block_lines
lines_next numbers count k h =
    let left : count - k ≡ suc (count - (k + 1)) = omega arith in
    rw (left, add-one k) refl

pub lines_none : (numbers : List ℕ) (count k : ℕ) → count ≤ k → block_lines numbers (count - k) k ≡ []
unfolding block_lines
lines_none numbers count k h =
    let left : count - k ≡ zero = omega arith in
    rw left refl

-- ---- how long they are

-- the bytes of the columns of S among the w columns from x on
abbrev bytes : (w x : ℕ) → Set → ℕ
bytes w x S = length (flat_map item (columns_from w x S))

bytes_none : (x : ℕ) (S : Set) → bytes zero x S ≡ 0
unfolding columns_from flat_map
bytes_none x S = refl

bytes_with : (w x : ℕ) (S : Set) → x ∈ S → bytes (suc w) x S ≡ length (item x) + bytes w (suc x) S
unfolding columns_from flat_map
bytes_with w x S e = rw e (length-append (item x) (flat_map item (columns_from w (suc x) S)))

bytes_without : (w x : ℕ) (S : Set) → (x ∈ S → ⊥) → bytes (suc w) x S ≡ bytes w (suc x) S
unfolding columns_from
bytes_without w x S ne = rw (not_true (S x) ne) refl

-- of two sets that have no column in common, within a third
bytes_apart : (w x : ℕ) (S T U : Set) → S ⊆ U → T ⊆ U → ((y : ℕ) → y ∈ S → y ∈ T → ⊥) → bytes w x S + bytes w x T ≤ bytes w x U
bytes_apart zero x S T U f g d = omega (arith, bytes_none x S, bytes_none x T)
bytes_apart (suc w) x S T U f g d =
    let next = bytes_apart w (suc x) S T U f g d in
    by_cases (Bool-discrete (S x) true)
    (λ s. omega (arith, next, bytes_with w x S s, bytes_without w x T (d x s), bytes_with w x U (f x s)))
    (λ ns. by_cases (Bool-discrete (T x) true)
    (λ t. omega (arith, next, bytes_without w x S ns, bytes_with w x T t, bytes_with w x U (g x t)))
    (λ nt. by_cases (Bool-discrete (U x) true)
    (λ u. omega (arith, next, bytes_without w x S ns, bytes_without w x T nt, bytes_with w x U u))
    (λ nu. omega (arith, next, bytes_without w x S ns, bytes_without w x T nt, bytes_without w x U nu))))

-- the columns whose number is k or more
numbered_from : (numbers : List ℕ) (k : ℕ) → Set
numbered_from numbers k x = leb k (get_or numbers x 0)

numbered_in : (numbers : List ℕ) (k x : ℕ) → k ≤ get_or numbers x 0 → x ∈ numbered_from numbers k
unfolding numbered_from
numbered_in numbers k x h = le-leb k (get_or numbers x 0) h

numbered_has : (numbers : List ℕ) (k x : ℕ) → x ∈ numbered_from numbers k → k ≤ get_or numbers x 0
unfolding numbered_from
numbered_has numbers k x h = leb-true k (get_or numbers x 0) h

block_has : (numbers : List ℕ) (k x : ℕ) → x ∈ block_columns numbers k → get_or numbers x 0 ≡ k
unfolding block_columns
block_has numbers k x h = eqb-true (get_or numbers x 0) k (and_right (ltb x (length numbers)) (eqb (get_or numbers x 0) k) h)

-- the columns of block k, and those of the blocks behind it
items_behind : (numbers : List ℕ) (k : ℕ)
    → length (column_items (block_columns numbers k)) + length (column_items (numbered_from numbers (suc k))) ≤ length (column_items (numbered_from numbers k))
unfolding column_items
items_behind numbers k = bytes_apart width 0 (block_columns numbers k) (numbered_from numbers (suc k)) (numbered_from numbers k)
    (λ x h. numbered_in numbers k x (omega (arith, block_has numbers k x h)))
    (λ x h. numbered_in numbers k x (omega (arith, numbered_has numbers (suc k) x h)))
    (λ x h g. omega (arith, block_has numbers k x h, numbered_has numbers (suc k) x g))

-- a block's number has at most three digits
block_line_length : (numbers : List ℕ) (k : ℕ) → k < 1000 → length (block_line numbers k) ≤ 10 + length (column_items (block_columns numbers k))
unfolding block_line ascii
block_line_length numbers k h = rw (line_length, length-append) (omega (arith, item_length 2 k (omega arith)))

block_lines_length : (numbers : List ℕ) (count k : ℕ) → k + count ≤ 1000 → length (block_lines numbers count k) ≤ 10 * count + length (column_items (numbered_from numbers k))
unfolding block_lines
block_lines_length numbers zero k h = omega arith
block_lines_length numbers (suc count) k h =
    let first = block_line_length numbers k (omega arith) in
    let others = block_lines_length numbers count (suc k) (omega arith) in
    rw length-append (omega (arith, first, others, items_behind numbers k))

pub blocks_text_length : (v k : ℕ) (r : Blocks) → k < 1000 → r.count ≤ most_blocks → length (blocks_text v k r) ≤ longest_blocks_report
unfolding blocks_text ascii
blocks_text_length v k r h g =
    let bs = block_lines_length r.numbers r.count 0 (omega arith) in
    let cs = column_items_length (numbered_from r.numbers 0) in
    let l = verdict_line_length v in
    let i = item_length 2 k (omega arith) in
    simp (length-append, line_length) (omega arith)
