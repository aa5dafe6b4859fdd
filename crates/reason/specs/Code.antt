-- What the private functions of the crate take and give. Definitions only.
use Rattle.std.specs.Prelude.{ℕ, ◌<◌, ◌≡◌, false, List}
use Rattle.std.proofs.Math.Option.{none}
use Rattle.columns.specs.Columns.{members}
use Rattle.columns.specs.ColumnSets.{whole}
use Rattle.columns.specs.declared.ColumnSet.{ColumnSet}
use Rattle.listed_models.specs.ListedModel.{listed_model}
use Rattle.rank.specs.Layered.Rank.{placed}
use Rattle.format.specs.TestLaws.{Accepted}
use Rattle.reason.specs.Shown.{Reason}
use Rattle.reason.specs.Answers.{ReasonAnswered}

-- an accepted model, its placed columns, and a column of it that is not one of them
pub record Unplaced (p n a b : ℕ) (cs ws : List ℕ) (the_placed : ColumnSet) (x : ℕ) : Type 0 where
  pub accepted : Accepted p n a b cs ws none
  pub below : x < n
  pub are_placed : (y : ℕ) → members (whole the_placed) y ≡ placed (listed_model p n a b cs ws) y
  pub unplaced : placed (listed_model p n a b cs ws) x ≡ false

-- an answer that is no refusal
pub record Explained (p n a b : ℕ) (cs ws : List ℕ) (x : ℕ) (r : Reason) : Type 0 where
  pub no_refusal : r.refusal ≡ 0
  pub answer : ReasonAnswered p n a b cs ws x r
