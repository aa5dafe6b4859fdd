-- Two answers that agree in all that the promises fix: in everything but the results that the documents leave open. Definitions only.
use Rattle.std.specs.Prelude.{◌≡◌}
use Rattle.columns.specs.ColumnSets.{whole}
use Rattle.layered.specs.Shown.{Answer}
use Rattle.mixed.specs.Shown.{MixedAnswer}
use Rattle.reason.specs.Shown.{Reason}
use Rattle.acceptance.specs.Shown.{Acceptance}
use Rattle.blocks.specs.Shown.{Blocks}
use Rattle.degree.specs.Shown.{Degree}

-- layered answers; open is which side and row a placed column takes
pub record SameAnswer (r s : Answer) : Type 0 where
  pub same_refusal : r.refusal ≡ s.refusal
  pub same_verdict : r.verdict ≡ s.verdict
  pub same_rank : r.rank ≡ s.rank
  pub same_placed : whole r.placed ≡ whole s.placed
  pub same_short : whole r.short ≡ whole s.short

-- the same of what bytes and text show of two answers
pub record SameShown (r s : Answer) : Type 0 where
  pub same_verdict : r.verdict ≡ s.verdict
  pub same_rank : r.rank ≡ s.rank
  pub same_placed : whole r.placed ≡ whole s.placed
  pub same_short : whole r.short ≡ whole s.short

-- mixed answers; open is which rows I and columns J are shown
pub record SameMixed (r s : MixedAnswer) : Type 0 where
  pub same_refusal : r.refusal ≡ s.refusal
  pub same_verdict : r.verdict ≡ s.verdict
  pub same_rank : r.rank ≡ s.rank
  pub same_short : whole r.short ≡ whole s.short

pub record SameMixedShown (r s : MixedAnswer) : Type 0 where
  pub same_verdict : r.verdict ≡ s.verdict
  pub same_rank : r.rank ≡ s.rank
  pub same_short : whole r.short ≡ whole s.short

-- answers about the reason for a column; nothing is open
pub record SameReason (r s : Reason) : Type 0 where
  pub same_refusal : r.refusal ≡ s.refusal
  pub same_set : whole r.set ≡ whole s.set
  pub same_given : r.given ≡ s.given
  pub same_multipliers : r.multipliers ≡ s.multipliers

-- answers about a claim; nothing is open
pub record SameAcceptance (r s : Acceptance) : Type 0 where
  pub same_refusal : r.refusal ≡ s.refusal
  pub same_accepted : r.accepted ≡ s.accepted

-- answers about blocks; nothing is open
pub record SameBlocks (r s : Blocks) : Type 0 where
  pub same_refusal : r.refusal ≡ s.refusal
  pub same_count : r.count ≡ s.count
  pub same_numbers : r.numbers ≡ s.numbers

-- answers about the degree; open is which assignment that reaches it is shown
pub record SameDegree (r s : Degree) : Type 0 where
  pub same_refusal : r.refusal ≡ s.refusal
  pub same_degree : r.degree ≡ s.degree

-- two results show two answers that agree so
pub record TwoShown {A : Type 0} (Same : A → A → Type 0) (Shows Also : A → Type 0) : Type 0 where
  pub first : A
  pub second : A
  pub is_same : Same first second
  pub first_shown : Shows first
  pub second_shown : Also second
