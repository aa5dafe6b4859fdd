-- A mixed model: the legal assignments of the model divided by a set of rows are those of its table. Assumes nothing.
use Rattle.std.specs.Prelude.{ℕ, ◌≤◌, ◌≡◌, refl, true, false, not}
use Rattle.std.proofs.Common.{sym, ◌∙◌}
use Rattle.std.proofs.Math.Path.{ap}
use Rattle.std.proofs.Math.Bool.{cond}
use Rattle.std.proofs.lemmas.Bool.{false≢true}
use native.Mathlib.Omega.{arith}
use Rattle.residue.specs.Fields.{zero_mul}
use Rattle.counting.specs.Bools.{and_in, and_left, and_right, not_in, not_of, not_true, true?}
use Rattle.counting.specs.ChoiceLaws.{part_at, part_le}
use Rattle.counting.specs.Choices.{Part}
use Rattle.counting.specs.Sets.{Set, ◌∈◌}
use Rattle.rank.proofs.Layered.Duality.{rank_reached, size_le_rank}
use Rattle.rank.specs.Layered.Model.{Assignment, Legal, size}
use Rattle.rank.specs.Layered.Rank.{rank}
use Rattle.rank.specs.Linear.Independence.{dot}
use Rattle.rank.specs.Linear.Sums.{dot_zero}
use Rattle.mixed_models.specs.Mixed.{Mixed, divided, mixed_rank, mixed_sum, rows_in}
use Rattle.determinants.specs.ModelTables.{MixedOrder}
use Rattle.determinants.specs.Assignments.FromDeterminant.{legal_of_order}
use Rattle.determinants.specs.Assignments.ToDeterminant.{order_of_legal}
use Rattle.determinants.specs.Assignments.Legal.{LegalOfSize, LegalOn}

module _ (X : Mixed) where
  open X use {K, m, n, Q, T}
  open K use {𝟘}

  row_in : (I : Set) (i : ℕ) → i ∈ I → rows_in K I Q i ≡ Q i
  unfolding rows_in
  row_in I i e = ap (λ b x. cond b (Q i x) 𝟘) e

  row_out : (I : Set) (i : ℕ) → I i ≡ false → rows_in K I Q i ≡ (λ x. 𝟘)
  unfolding rows_in
  row_out I i e = ap (λ b x. cond b (Q i x) 𝟘) e

  on_of_legal : (I : Set) (A : Assignment) → Part m (λ i. true) I → Legal (divided X I) A → LegalOn K m n Q T (λ x. true) I A
  on_of_legal I A within h = record {
    columns = h.offered;
    rows = λ i e. (within i e).0;
    independent = record {
      only_zero = λ c s z. h.independent.only_zero c s (λ i l. elim (true? (I i)) [
        | yes e ↦ ap (λ f. dot K n f c) (row_in I i e) ∙ z i e
        | no ne ↦ ap (λ f. dot K n f c) (row_out I i (not_true (I i) ne)) ∙ dot_zero K n (λ x. 𝟘) c (λ j _. zero_mul K (c j))
      ]);
    };
    parameter = λ x r e. let p = h.parameter x r e in
        (p.0, and_right (not (I r)) (T r x) p.1, λ y. false≢true (sym (not_in (I r) (and_left (not (I r)) (T r x) p.1)) ∙ y));
    one_each = h.one_each;
  }

  legal_of_on : (I : Set) (A : Assignment) → LegalOn K m n Q T (λ x. true) I A → Legal (divided X I) A
  legal_of_on I A h = record {
    offered = h.columns;
    independent = record {
      only_zero = λ c s z. h.independent.only_zero c s (λ i e. ap (λ f. dot K n f c) (sym (row_in I i e)) ∙ z i (h.rows i e));
    };
    parameter = λ x r e. let p = h.parameter x r e in (p.0, and_in (not_of (I r) p.2) p.1);
    one_each = h.one_each;
  }

  -- the mixed rank is the largest rank of the model divided by a set of rows
  abbrev divided_rank : Set → ℕ
  divided_rank I = rank (divided X I)

  pub mixed_reached : MixedOrder X (mixed_rank X)
  unfolding mixed_rank mixed_sum rank
  mixed_reached =
      let I : (I : Set) × Part m (λ i. true) I × (divided_rank I ≡ mixed_rank X) = part_at m (λ i. true) divided_rank in
      let w : (A : Assignment) × Legal (divided X I.0) A × (size (divided X I.0) A ≡ divided_rank I.0) = rank_reached (divided X I.0) in
      order_of_legal K m n Q T (λ x. true) (mixed_rank X) (record {
        rows = I.0;
        seats = w.0;
        legal = on_of_legal I.0 w.0 I.1 w.1;
        size = w.2 ∙ I.2;
      })

  pub mixed_bound : (k : ℕ) → MixedOrder X k → k ≤ mixed_rank X
  unfolding mixed_rank mixed_sum rank
  mixed_bound k p =
      let h : LegalOfSize K m n Q T (λ x. true) k = legal_of_order K m n Q T (λ x. true) k p in
      omega (
        arith,
        h.size,
        size_le_rank (divided X h.rows) h.seats (legal_of_on h.rows h.seats h.legal),
        part_le m (λ i. true) divided_rank h.rows (λ i e. (h.legal.rows i e, refl)),
      )
