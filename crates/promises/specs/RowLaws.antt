-- What an answer shows of the rows, by its verdict: determined, every row is used; surplus, one is left over. Assumes nothing.
use Rattle.std.specs.Prelude.{ℕ, ◌<◌, ◌≡◌, ◌⊎◌, get_or}
use Rattle.std.proofs.Common.{sym, ◌∙◌, inl, inr}
use Rattle.limits.specs.Limits.{no_column}
use Rattle.counting.specs.Sets.{#, Some}
use Rattle.counting.specs.Counts.{#-ext}
use Rattle.columns.specs.Columns.{members}
use Rattle.columns.specs.ColumnSets.{whole}
use Rattle.rank.specs.Layered.Model.{Model, Assignment, constants}
use Rattle.rank.specs.Layered.Rank.{rank}
use Rattle.rank.specs.Layered.RowUse.{PlacesAll}
use Rattle.rank.proofs.Layered.ColumnOrder.{placed_size}
use Rattle.rank.proofs.Layered.Verdicts.{places_all_iff, verdict_1_iff, verdict_2_iff, determined_uses_all, surplus_leaves_over}
use Rattle.exchange.specs.Solution.{shown}
use Rattle.layered.specs.Answers.{Answered}
use Rattle.layered.specs.Shown.{Answer}

module _ (M : Model) (r : Answer) (answer : Answered M r) where
  open M use {a, b, n, E}

  -- the assignment shown
  abbrev A : Assignment
  A = shown n b (members (whole r.constants)) r.rows

  shown_all : rank M ≡ # n E → PlacesAll M A
  shown_all e = (places_all_iff M A answer.solved.is_legal).1 (#-ext n _ _ (λ x l. answer.solved.places_it x) ∙ placed_size M ∙ e)

  side_size : # n (members (whole r.constants)) ≡ # n (constants A)
  side_size = #-ext n _ _ (λ x l. answer.solved.side_shown x)

  pub determined_rows : r.verdict ≡ 1 → (# n (members (whole r.constants)) ≡ a) × ((i : ℕ) → i < b → get_or r.rows i 0 < n)
  determined_rows v =
      let e = sym answer.is_verdict ∙ v in
      let u = determined_uses_all M e A answer.solved.is_legal (shown_all ((verdict_1_iff M).0 e).0) in
      (side_size ∙ u.constant_rows, λ i l. elim (answer.solved.rows_shown i l) [ inl w ↦ w.0 | inr w ↦ let x = u.parameter_rows i l in absurd (w.1 x.0 x.2) ])

  pub surplus_rows : r.verdict ≡ 2 → (# n (members (whole r.constants)) < a) ⊎ Some b (λ i. get_or r.rows i 0 ≡ no_column)
  surplus_rows v =
      let e = sym answer.is_verdict ∙ v in
      elim (surplus_leaves_over M e A answer.solved.is_legal (shown_all ((verdict_2_iff M).0 e).0)) [
        | inl l ↦ inl (rw side_size l)
        | inr w ↦ inr (w.0, w.1, elim (answer.solved.rows_shown w.0 w.1) [ inl k ↦ absurd (w.2 _ k.1) | inr k ↦ k.0 ])
      ]
