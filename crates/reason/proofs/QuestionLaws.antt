-- What the question about the reason for a column asks of the column, test by test. Assumes nothing.
use Prim.Native.Nat.{ℕ, ◌≤◌, ◌<◌}
use mathlib.Core.Path.{◌≡◌, ap}
use mathlib.Core.Bool.{true, false, not}
use borrow.Author.Tests.{le-ltb}
use Rattle.rank.specs.Layered.Model.{Model}
use Rattle.rank.specs.Layered.Rank.{placed}
use Rattle.format.specs.Refusals.{first_refusal, column_beyond, column_placed, column_test}
use Rattle.format.specs.RefusalLaws.{first_fails, first_passes, first_none}
use Rattle.format.specs.TestLaws.{column_reads}
use Rattle.reason.specs.Answers.{reason_question}

module _ (M : Model) (x : ℕ) where
  pub beyond_refused : M.n ≤ x → 11 ≡ first_refusal (reason_question M x)
  unfolding column_test
  beyond_refused l = first_fails _ column_beyond _ (le-ltb x M.n l)

  module _ (l : x < M.n) where
    pub placed_refused : placed M x ≡ true → 12 ≡ first_refusal (reason_question M x)
    placed_refused e = first_passes _ column_beyond _ 12 ((column_reads x M.n).1 l) (first_fails _ column_placed _ (ap not e))

    pub unplaced_passes : placed M x ≡ false → 0 ≡ first_refusal (reason_question M x)
    unplaced_passes e = first_passes _ column_beyond _ 0 ((column_reads x M.n).1 l) (first_passes _ column_placed _ 0 (ap not e) first_none)
