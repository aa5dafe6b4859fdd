-- What the verdict says of a mixed model: whether the rows I and columns J that reach the rank use every row. Assumes nothing.
use Rattle.std.specs.Prelude.{ℕ, ◌+◌, ◌≤◌, ◌<◌, ◌≡◌, refl, ◌↔◌, true, not}
use Rattle.std.proofs.Common.{sym, ◌∙◌, ap, true≢false, arith}
use Rattle.std.proofs.Math.Logic.{inl, inr}
use Rattle.std.proofs.Math.Decide.{dec_lt}
use Rattle.counting.specs.Bools.{and_left, not_true, true?}
use Rattle.counting.specs.Sets.{#, Set, ◌∈◌, touching, ∁}
use Rattle.counting.specs.Counts.{#-all, #-∁, touching_iff}
use Rattle.counting.specs.Injections.{Injects, inj_count, #-mono}
use Rattle.counting.specs.Choices.{Part, largest_part}
use Rattle.counting.specs.ChoiceLaws.{part_at}
use Rattle.rank.specs.Linear.Kernels.{hits, hits_iff, same_refl}
use Rattle.rank.specs.VerdictLaws.{number_0_iff, number_1_iff, number_2_iff}
use Rattle.rank.specs.Layered.Model.{Assignment, Legal, is_constant, is_placed, placing, row, size}
use Rattle.rank.specs.Layered.Rank.{constant_rank, matching}
use Rattle.rank.proofs.Layered.Meaning.{Outside, matching_at, seat_cases}
use Rattle.rank.proofs.Layered.RankRows.{constant_rank_rows}
use Rattle.rank.proofs.Layered.Verdicts.{rank_le_columns}
use Rattle.mixed_models.specs.Mixed.{Mixed, divided, layered_form, mixed_rank, mixed_sum, mixed_verdict, rows_in}
use Rattle.mixed_models.specs.MixedRowUse.{LeavesRow, UsesEveryRow}
use Rattle.mixed_models.proofs.MixedTheorem.{form_rank}
use Rattle.mixed_models.proofs.MixedTheorem.Form.{rows_no}

module _ (X : Mixed) where
  open X use {K, m, n, Q, T}

  -- ---- no more than the rows

  module _ (I J : Set) where
    -- a constant row that touches a column is in I
    touching_in : (i : ℕ) → i < m → i ∈ touching n (hits K (rows_in K I Q)) J → i ∈ I
    touching_in i l e = elim (true? (I i)) [
      | yes t ↦ t
      | no nt ↦ let w = (touching_iff n (hits K (rows_in K I Q)) J i).0 e in absurd ((hits_iff K (rows_in K I Q) i w.0).0 w.2.1 (rows_no K I Q i w.0 (not_true (I i) nt)))
    ]

    constants_most : constant_rank (divided X I) J ≤ # m I
    constants_most = omega (arith, constant_rank_rows (divided X I) (rows_in K I Q) same_refl J, #-mono m (touching n (hits K (rows_in K I Q)) J) I touching_in)

    -- each column that a matching places has a row of its own that is not in I
    row_of : (A : Assignment) → Legal (divided X I) A → Outside (divided X I) J A → Injects n (placing A) m (∁ I) (λ x r. A x ≡ row r)
    row_of A h o = record {
      total = λ x l p. seat_cases (A x)
          (λ d. absurd (true≢false (sym p ∙ ap is_placed d)))
          (λ d. absurd (true≢false (sym (ap is_constant d) ∙ (o x p).1)))
          (λ r d. let w = h.parameter x r d in (r, w.0, (and_left (not (I r)) (T r x) w.1, d)));
      one_one = λ x y r l l' lr e e'. h.one_each x y r e e';
    }

    parameters_most : matching (divided X I) J ≤ # m (∁ I)
    parameters_most =
        let w : (A : Assignment) × Legal (divided X I) A × Outside (divided X I) J A × (size (divided X I) A ≡ matching (divided X I) J) = matching_at (divided X I) J in
        omega (arith, w.3, inj_count n m (placing w.0) (∁ I) (λ x r. w.0 x ≡ row r) (row_of w.0 w.1 w.2))

    sum_le_rows : mixed_sum X I J ≤ m
    unfolding mixed_sum
    sum_le_rows = omega (arith, constants_most, parameters_most, #-∁ m I)

    sum_uses : mixed_sum X I J ≡ m → UsesEveryRow X I J
    unfolding mixed_sum
    sum_uses e = record { constant_rows = omega (arith, constants_most, parameters_most, #-∁ m I); parameter_rows = omega (arith, constants_most, parameters_most, #-∁ m I) }

    sum_leaves : mixed_sum X I J < m → LeavesRow X I J
    unfolding mixed_sum
    sum_leaves l = elim (dec_lt (constant_rank (divided X I) J) (# m I)) [ yes k ↦ inl k | no nk ↦ inr (omega (arith, #-∁ m I)) ]

  -- some I and J reach the rank
  pub mixed_rank_at : (I : Set) × (J : Set) × (mixed_sum X I J ≡ mixed_rank X)
  unfolding mixed_rank
  mixed_rank_at =
      let outer : (I : Set) × Part m (λ i. true) I × (largest_part n (λ x. true) (λ J. mixed_sum X I J) ≡ mixed_rank X) = part_at m (λ i. true) (λ I. largest_part n (λ x. true) (λ J. mixed_sum X I J)) in
      let inner : (J : Set) × Part n (λ x. true) J × (mixed_sum X outer.0 J ≡ largest_part n (λ x. true) (λ J. mixed_sum X outer.0 J)) = part_at n (λ x. true) (λ J. mixed_sum X outer.0 J) in
      (outer.0, inner.0, inner.2 ∙ outer.2)

  pub mixed_rank_le_rows : mixed_rank X ≤ m
  mixed_rank_le_rows = let w = mixed_rank_at in omega (arith, w.2, sum_le_rows w.0 w.1)

  pub mixed_rank_le_columns : mixed_rank X ≤ n
  mixed_rank_le_columns = omega (arith, form_rank X, rank_le_columns (layered_form X), #-all (m + n) (λ x. true) (λ x l. refl))

  -- ---- the verdict

  -- 1 exactly where the rank is n and m, 2 exactly where it is n and rows are more, 0 exactly where it is below n
  pub mixed_verdict_reads : ((mixed_verdict X ≡ 1) ↔ ((mixed_rank X ≡ n) × (mixed_rank X ≡ m))) × ((mixed_verdict X ≡ 2) ↔ ((mixed_rank X ≡ n) × (n < m))) × ((mixed_verdict X ≡ 0) ↔ (mixed_rank X < n))
  unfolding mixed_verdict
  mixed_verdict_reads = (number_1_iff (mixed_rank X) n m, number_2_iff (mixed_rank X) n m, number_0_iff (mixed_rank X) n m mixed_rank_le_columns mixed_rank_le_rows)

  -- where it is 1, all I and J that reach the rank use every row,
  pub mixed_determined_uses_every_row : mixed_verdict X ≡ 1 → (I J : Set) → mixed_sum X I J ≡ mixed_rank X → UsesEveryRow X I J
  mixed_determined_uses_every_row v I J e = sum_uses I J (e ∙ (mixed_verdict_reads.0.0 v).1)

  -- and where it is 2, all leave a row over
  pub mixed_surplus_leaves_a_row : mixed_verdict X ≡ 2 → (I J : Set) → mixed_sum X I J ≡ mixed_rank X → LeavesRow X I J
  mixed_surplus_leaves_a_row v I J e = let w = mixed_verdict_reads.1.0 v in sum_leaves I J (omega arith)
