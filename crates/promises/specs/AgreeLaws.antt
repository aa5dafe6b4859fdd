-- Models that agree in their rows and columns have the same answers, whatever stands elsewhere. Assumes nothing.
use Rattle.std.specs.Prelude.{ℕ, zero, suc, ◌+◌, ◌≤◌, ◌<◌, ◌≡◌, Bool, ◌&&◌}
use Rattle.std.proofs.Common.{sym, ◌∙◌, arith}
use Rattle.std.proofs.Math.Path.{ap, ap₂, fun_ext}
use Rattle.std.proofs.Math.Bool.{true, cond, decide}
use Rattle.std.proofs.Math.Decide.{dec_lt}
use Rattle.residue.specs.Arithmetic.{Prime}
use Rattle.residue.specs.Residues.{residues}
use Rattle.counting.specs.Bools.{iff_eq}
use Rattle.counting.specs.Sets.{Set, ◌∈◌, ◌∩◌, ∁, #, set, touching}
use Rattle.counting.specs.Counts.{◌⊖◌, #-ext, touching_iff}
use Rattle.counting.specs.Choices.{largest_part}
use Rattle.rank.specs.Verdict.{verdict_number}
use Rattle.rank.specs.Linear.Independence.{dot, Indep}
use Rattle.rank.specs.Linear.Sums.{Σ-cong}
use Rattle.rank.proofs.IndependentLaws.{independent_iff}
use Rattle.rank.specs.Independent.{independent}
use Rattle.listed_models.specs.ModelModulo.{model_modulo}
use Rattle.rank.specs.Layered.Model.{Model, Assignment, placing, Legal, size}
use Rattle.rank.specs.Layered.Rank.{constant_rank, sum, rank, placeable, placed, short, verdict}
use Rattle.rank.proofs.Layered.Meaning.{placeable_iff, short_iff}
use Rattle.rank.proofs.Layered.Duality.{size_le_rank, rank_reached}
use Rattle.rank.proofs.Layered.ColumnOrder.{placed_below, placed_legal, placed_first}
use Rattle.blocking.specs.Reason.{drawn_from, reason, untouched}
use Rattle.blocking.specs.ReasonLaws.{untouched_count}

-- the constants agree in the a rows and n columns, the parameters in the b rows and n columns
pub record Agree (q : ℕ) (P : Prime q) (n a b : ℕ) (Q Q' : ℕ → ℕ → (residues q P).F) (T T' : ℕ → ℕ → Bool) : Type 0 where
  pub constants : (i x : ℕ) → i < a → x < n → Q i x ≡ Q' i x
  pub parameters : (r x : ℕ) → r < b → x < n → T r x ≡ T' r x

pub agree_sym : {q : ℕ} {P : Prime q} {n a b : ℕ} {Q Q' : ℕ → ℕ → (residues q P).F} {T T' : ℕ → ℕ → Bool}
    → Agree q P n a b Q Q' T T' → Agree q P n a b Q' Q T' T
agree_sym e = record { constants = λ i x l m. sym (e.constants i x l m); parameters = λ r x l m. sym (e.parameters r x l m) }

module _ (q : ℕ) (P : Prime q) (n a b : ℕ) (E : Set) where
  -- ---- one way

  module _ (Q Q' : ℕ → ℕ → (residues q P).F) (T T' : ℕ → ℕ → Bool) (e : Agree q P n a b Q Q' T T') where
    abbrev M : Model
    M = model_modulo q P n a b Q T E

    abbrev M' : Model
    M' = model_modulo q P n a b Q' T' E

    row_same : (i : ℕ) (c : ℕ → (residues q P).F) → i < a → dot (residues q P) n (Q i) c ≡ dot (residues q P) n (Q' i) c
    unfolding dot
    row_same i c l = Σ-cong (residues q P) n _ _ (λ j lj. ap (λ (x : (residues q P).F). (residues q P).◌·◌ x (c j)) (e.constants i j l lj))

    indep_to : (S : Set) → Indep (residues q P) a n Q S → Indep (residues q P) a n Q' S
    indep_to S h = record { only_zero = λ c s k. h.only_zero c s (λ i l. row_same i c l ∙ k i l) }

    pub legal_to : (A : Assignment) → Legal M A → Legal M' A
    legal_to A h = record {
      offered = h.offered;
      independent = indep_to _ h.independent;
      parameter = λ x r f.
          let g = h.parameter x r f in
          let o = h.offered x (ap (λ s. placing (λ _. s) x) f) in
          (g.0, sym (e.parameters r x g.0 o.0) ∙ g.1);
      one_each = h.one_each;
    }

    rank_to : rank M ≤ rank M'
    rank_to =
        let r : (A : Assignment) × Legal M A × (size M A ≡ rank M) = rank_reached M in
        omega (arith, r.2, size_le_rank M' r.0 (legal_to r.0 r.1))

    indep_test_to : (S : Set) → independent q P a n Q S ≡ true → independent q P a n Q' S ≡ true
    indep_test_to S t = (independent_iff q P a n Q' S).1 (indep_to S ((independent_iff q P a n Q S).0 t))

    touching_to : (J : Set) (r : ℕ) → r < b → touching n T J r ≡ true → touching n T' J r ≡ true
    touching_to J r l t =
        let w = (touching_iff n T J r).0 t in
        (touching_iff n T' J r).1 (w.0, w.1, (w.2.0, sym (e.parameters r w.0 l w.1) ∙ w.2.1))

    -- column x of the placed set, where the columns before it agree
    placed_to : (x : ℕ) → x < n → ((y : ℕ) → y < x → placed M y ≡ placed M' y) → x ∈ placed M → x ∈ placed M'
    placed_to x l same h =
        let t : (A : Assignment) × Legal M A × ((x : ℕ) → x < n → placing A x ≡ placed M x) = placed_legal M in
        placed_first M' t.0 (legal_to t.0 t.1) x l (λ y ly. t.2 y (omega arith) ∙ same y ly) (t.2 x l ∙ h)

    placeable_to : (D : Set) → placeable M D ≡ true → placeable M' D ≡ true
    placeable_to D t = let w = (placeable_iff M D).0 t in (placeable_iff M' D).1 (w.0, legal_to w.0 w.1, w.2)

  -- ---- both ways

  module _ (Q Q' : ℕ → ℕ → (residues q P).F) (T T' : ℕ → ℕ → Bool) (e : Agree q P n a b Q Q' T T') where
    abbrev N : Model
    N = model_modulo q P n a b Q T E

    abbrev N' : Model
    N' = model_modulo q P n a b Q' T' E

    pub rank_same : rank N ≡ rank N'
    rank_same = omega (arith, rank_to Q Q' T T' e, rank_to Q' Q T' T (agree_sym e))

    pub verdict_same : verdict N ≡ verdict N'
    unfolding verdict
    verdict_same = ap (λ (k : ℕ). verdict_number k (# n E) (a + b)) rank_same

    placed_upto : (k x : ℕ) → k ≤ n → x < k → placed N x ≡ placed N' x
    placed_upto zero x l h = absurd (omega arith)
    placed_upto (suc k) x l h = elim (dec_lt x k) [
      | yes m ↦ placed_upto k x (omega arith) m
      | no nm ↦
          let at : k ≡ x = omega arith in
          let same : (y : ℕ) → y < x → placed N y ≡ placed N' y = λ y ly. placed_upto k y (omega arith) (omega arith) in
          iff_eq _ _ (placed_to Q Q' T T' e x (omega arith) same) (placed_to Q' Q T' T (agree_sym e) x (omega arith) (λ y ly. sym (same y ly)))
    ]

    pub placed_same : (x : ℕ) → placed N x ≡ placed N' x
    placed_same x =
        iff_eq _ _
        (λ h. sym (placed_upto n x (omega arith) (placed_below N x h)) ∙ h)
        (λ h. placed_upto n x (omega arith) (placed_below N' x h) ∙ h)

    indep_same : independent q P a n Q ≡ independent q P a n Q'
    indep_same = fun_ext (λ S. iff_eq _ _ (indep_test_to Q Q' T T' e S) (indep_test_to Q' Q T' T (agree_sym e) S))

    touched_same : (J : Set) → # b (touching n T J) ≡ # b (touching n T' J)
    touched_same J = #-ext b (touching n T J) (touching n T' J) (λ r l. iff_eq _ _ (touching_to Q Q' T T' e J r l) (touching_to Q' Q T' T (agree_sym e) J r l))

    pub sum_same : (J : Set) → sum N J ≡ sum N' J
    unfolding sum constant_rank
    sum_same J = ap₂ (λ (f : Set → Bool) (k : ℕ). largest_part n J (λ S. cond (f S) (# n S) 0) + k + # n (∁ J ∩ E)) indep_same (touched_same J)

    pub short_same : (x : ℕ) → short N x ≡ short N' x
    short_same x =
        iff_eq _ _
        (λ h. (short_iff N' x).1 (λ J p s. (short_iff N x).0 h J p (sum_same J ∙ s ∙ sym rank_same)))
        (λ h. (short_iff N x).1 (λ J p s. (short_iff N' x).0 h J p (sym (sum_same J) ∙ s ∙ rank_same)))

    placeable_same : (D : Set) → placeable N D ≡ placeable N' D
    placeable_same D = iff_eq _ _ (placeable_to Q Q' T T' e D) (placeable_to Q' Q T' T (agree_sym e) D)

    pub reason_same : (x y : ℕ) → reason N x y ≡ reason N' x y
    unfolding reason
    reason_same x y = ap (λ (S : Set). decide (dec_lt y n) && set S x true y && placeable N (set S x true ⊖ y)) (fun_ext placed_same)
        ∙ ap (λ (t : Bool). decide (dec_lt y n) && drawn_from N' x y && t) (placeable_same (drawn_from N' x ⊖ y))

    pub untouched_same : (D : Set) → untouched N D ≡ untouched N' D
    untouched_same D = iff_eq _ _
        (λ t. (untouched_count N' D).1 (sym (touched_same D) ∙ (untouched_count N D).0 t))
        (λ t. (untouched_count N D).1 (touched_same D ∙ (untouched_count N' D).0 t))
