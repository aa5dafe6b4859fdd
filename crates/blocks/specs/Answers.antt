-- Document 02, E7: what the call about blocks promises, for a model handed over and for the model in a file. Definitions only.
use Rattle.std.specs.Prelude.{ℕ, ◌≡◌, cond, List, ltb, replicate}
use Rattle.std.proofs.Math.Option.{Option}
use Rattle.limits.specs.Limits.{most_columns, no_column}
use Rattle.listed_models.specs.ListedModel.{listed_model}
use Rattle.rank.specs.Layered.Model.{Model}
use Rattle.dependence.specs.Listing.{listing}
use Rattle.listings.specs.Blocks.{block_count, block_number}
use Rattle.models.specs.Lent.{constants_lent, rows_lent, numbers_lent}
use Rattle.models.specs.declared.LentModel.{LentModel}
use Rattle.format.specs.Refusals.{refusal}
use Rattle.format.specs.File.Format.{judge}
use Rattle.layered.specs.Answers.{RankCall}
use Rattle.layered.specs.FileModel.{file_model}
use Rattle.blocks.specs.Shown.{Blocks}

-- what is shown of column x, of a model whose columns are all offered: the number of its block in the listing, and 255 past the last column
unfoldable pub shown_number : Model → ℕ → ℕ
shown_number M x = cond (ltb x M.n) (block_number M x) no_column

-- a refusal has no blocks
pub record BlocksRefused (r : Blocks) : Type 0 where
  pub no_blocks : r.count ≡ 0
  pub no_numbers : r.numbers ≡ replicate most_columns no_column

-- the answer: how many blocks M has, and for each column that a model may have what is shown of it
pub record BlocksAnswered (M : Model) (r : Blocks) : Type 0 where
  pub count_is : r.count ≡ block_count M
  pub numbers_are : r.numbers ≡ listing most_columns (shown_number M)

-- the question about a model that is judged, which refuses nothing
pub record BlocksAsked (M : Model) (r : Blocks) : Type 0 where
  pub no_refusal : r.refusal ≡ 0
  pub answer : BlocksAnswered M r

-- the call for a model handed over: judged as a rank call is, and no more
abbrev pub BlocksCall : (p n a b : ℕ) (cs ws : List ℕ) → Option (List ℕ) → Blocks → Type 0
BlocksCall p n a b cs ws ns r = RankCall (refusal p n a b cs ws ns) r.refusal (BlocksRefused r) (BlocksAnswered (listed_model p n a b cs ws) r)

-- the same of a model that is lent,
abbrev pub BlocksModelCall : LentModel → Blocks → Type 0
BlocksModelCall m r = BlocksCall m.p m.n m.a m.b (constants_lent m) (rows_lent m) (numbers_lent m) r

-- and for the model in a file
abbrev pub BlocksFileCall : (file : List ℕ) → Blocks → Type 0
BlocksFileCall file r = RankCall (judge file) r.refusal (BlocksRefused r) (BlocksAnswered (file_model file) r)
