-- What the test and the numbers of `Multipliers` say modulo a prime, and which outcome they make. Assumes nothing.
use Prim.Native.Nat.{ℕ, ◌≤◌, ◌<◌}
use Rattle.std.specs.Prelude.{◌≡◌, true, false, ◌≢◌, ◌↔◌, ◌⊎◌}
use Rattle.std.proofs.Math.Path.{refl, sym}
use Rattle.std.proofs.Common.{◌∙◌, ap, true≢false, mod-eq_of_lt}
use Rattle.std.proofs.Math.Bool.{cond, decide, decide_iff}
use Rattle.std.proofs.Math.Logic.{inl, inr}
use native.Mathlib.Omega.{arith}
use Rattle.std.proofs.Math.Nat.{zero-mod}
use Rattle.residue.specs.Arithmetic.{Prime}
use Rattle.residue.specs.Residues.{residues, res, num_of, num_of_below, num_of_res, res_num_of, res_zero, res_one}
use Rattle.counting.specs.Bools.{true?, not_true, iff_eq}
use Rattle.counting.specs.Sets.{Set, ◌∈◌, ◌⊆◌, set}
use Rattle.counting.specs.Counts.{all_iff}
use Rattle.counting.specs.Choices.{largest}
use Rattle.counting.specs.ChoiceLaws.{Chosen, largest_le, largest_at, some_iff, cond_true, cond_false}
use Rattle.rank.specs.Linear.Independence.{dot, Indep}
use Rattle.rank.specs.Linear.Sums.{dot_cong}
use Rattle.rank.specs.Linear.Kernels.{Same, same_indep, same_sym}
use Rattle.rank.specs.Linear.Tableaus.{Tableau, owned}
use Rattle.rank.specs.Independent.{last_coefficient, independent}
use Rattle.rank.proofs.IndependentLaws.{cut, cut_below, cut_chosen, chosen_in, independent_iff}
use Rattle.dependence.specs.Multipliers.{Depends, sums_to, depends, multiplier, outcome, given}
use Rattle.dependence.specs.MultiplierLaws.{unit, unique, depends_same, depends_not, entries_same, held_depends, zero_depends, unit_at, unit_other}
use Rattle.dependence.specs.TableauLaws.{owned_columns_independent, tableau_shows_multipliers, tableau_shows_independence}

num_of_zero : (q : ℕ) (P : Prime q) → num_of q P (residues q P).𝟘 ≡ 0
num_of_zero q P = ap (num_of q P) (sym (res_zero q P)) ∙ num_of_res q P 0 ∙ zero-mod q

module _ (q : ℕ) (P : Prime q) (a n : ℕ) (Q : ℕ → ℕ → (residues q P).F) (H : Set) (x : ℕ) where
  open residues q P use {F, 𝟘}

  sums_iff : (c : ℕ → F) → (sums_to q P a n Q x c ≡ true) ↔ ((i : ℕ) → i < a → dot (residues q P) n (Q i) c ≡ Q i x)
  unfolding sums_to
  sums_iff c = (
    λ e i l. (decide_iff ((residues q P).decide (dot (residues q P) n (Q i) c) (Q i x))).0
        ((all_iff a (λ i. decide ((residues q P).decide (dot (residues q P) n (Q i) c) (Q i x)))).0 e i l),
    λ h. (all_iff a (λ i. decide ((residues q P).decide (dot (residues q P) n (Q i) c) (Q i x)))).1
        (λ i l. (decide_iff ((residues q P).decide (dot (residues q P) n (Q i) c) (Q i x))).1 (h i l)),
  )

  tried_depends : (c : ℕ → F) → Chosen (res q P) (last_coefficient q H) n c → sums_to q P a n Q x c ≡ true → Depends (residues q P) a n Q H x c
  tried_depends c h e = record { only_held = chosen_in q P a n Q H c h; sums = (sums_iff c).0 e }

  cut_sums : (c : ℕ → F) → Depends (residues q P) a n Q H x c → sums_to q P a n Q x (cut q P n c) ≡ true
  cut_sums c m = (sums_iff (cut q P n c)).1 (λ i l. dot_cong (residues q P) n (Q i) (cut q P n c) c (cut_below q P n c) ∙ m.sums i l)

  pub depends_iff : (depends q P a n Q H x ≡ true) ↔ ((c : ℕ → F) × Depends (residues q P) a n Q H x c)
  unfolding depends
  depends_iff = (
    λ e.
        let w : (c : ℕ → F) × Chosen (res q P) (last_coefficient q H) n c × (sums_to q P a n Q x c ≡ true)
        = (some_iff (res q P) (last_coefficient q H) n (sums_to q P a n Q x)).0 e in
        (w.0, tried_depends w.0 w.1 w.2),
    λ w. (some_iff (res q P) (last_coefficient q H) n (sums_to q P a n Q x)).1
        (cut q P n w.0, cut_chosen q P a n Q H w.0 w.1.only_held, cut_sums w.0 w.1),
  )

  -- where x depends on the held columns the number at j is that of some multipliers, and else it is 0
  pub multiplier_cases : (j : ℕ) → ((c : ℕ → F) × Depends (residues q P) a n Q H x c × (multiplier q P a n Q H x j ≡ num_of q P (c j)))
      ⊎ ((depends q P a n Q H x ≡ false) × (multiplier q P a n Q H x j ≡ 0))
  unfolding multiplier
  multiplier_cases j = elim (true? (sums_to q P a n Q x w.0)) [
    | yes e ↦ inl (w.0, tried_depends w.0 w.1 e, sym w.2 ∙ cond_true (sums_to q P a n Q x w.0) (num_of q P (w.0 j)) 0 e)
    | no ne ↦ elim (true? (depends q P a n Q H x)) [
      | no nd ↦ inr (not_true (depends q P a n Q H x) nd, none ne)
      | yes d ↦
          let m : (c : ℕ → F) × Depends (residues q P) a n Q H x c = depends_iff.0 d in
          let c : ℕ → F = cut q P n m.0 in
          inl (
            c,
            tried_depends c (cut_chosen q P a n Q H m.0 m.1.only_held) (cut_sums m.0 m.1),
            omega (
              arith,
              none ne,
              cond_true (sums_to q P a n Q x c) (num_of q P (c j)) 0 (cut_sums m.0 m.1),
              largest_le (res q P) (last_coefficient q H) n value c (cut_chosen q P a n Q H m.0 m.1.only_held),
            ),
          )
    ]
  ]
    where
      value : (ℕ → F) → ℕ
      value c = cond (sums_to q P a n Q x c) (num_of q P (c j)) 0

      w : (c : ℕ → F) × Chosen (res q P) (last_coefficient q H) n c × (value c ≡ largest (res q P) (last_coefficient q H) n value)
      w = largest_at (res q P) (last_coefficient q H) n value

      none : (sums_to q P a n Q x w.0 ≡ true → ⊥) → largest (res q P) (last_coefficient q H) n value ≡ 0
      none ne = sym w.2 ∙ cond_false (sums_to q P a n Q x w.0) (num_of q P (w.0 j)) 0 ne

  -- it is below q,
  pub multiplier_below : (j : ℕ) → multiplier q P a n Q H x j < q
  multiplier_below j = elim (multiplier_cases j) [
    | inl w ↦ omega (arith, w.2, num_of_below q P (w.0 j))
    | inr w ↦ omega (arith, w.1, num_of_below q P 𝟘)
  ]

  -- 0 at a column that is not held,
  pub multiplier_not_held : (j : ℕ) → (j ∈ H → ⊥) → multiplier q P a n Q H x j ≡ 0
  multiplier_not_held j nj = elim (multiplier_cases j) [
    | inl w ↦ w.2 ∙ ap (num_of q P) (w.1.only_held j nj) ∙ num_of_zero q P
    | inr w ↦ w.1
  ]

  -- and 0 everywhere where x does not depend on the held columns
  pub multiplier_none : depends q P a n Q H x ≡ false → (j : ℕ) → multiplier q P a n Q H x j ≡ 0
  multiplier_none d j = elim (multiplier_cases j) [
    | inl w ↦ absurd (true≢false (sym (depends_iff.1 (w.0, w.1)) ∙ d))
    | inr w ↦ w.1
  ]

  -- the held columns are independent
  module _ (i : Indep (residues q P) a n Q H) where
    -- the numbers are those of any multipliers that there are,
    pub multipliers_are : (c : ℕ → F) → Depends (residues q P) a n Q H x c → (j : ℕ) → j < n → multiplier q P a n Q H x j ≡ num_of q P (c j)
    multipliers_are c m j l = elim (multiplier_cases j) [
      | inl w ↦ w.2 ∙ ap (num_of q P) (unique Q H x w.0 c i w.1 m j l)
      | inr w ↦ absurd (true≢false (sym (depends_iff.1 (c, m)) ∙ w.0))
    ]

    -- and where x depends on the held columns they are its multipliers
    pub multipliers_sum : depends q P a n Q H x ≡ true → Depends (residues q P) a n Q H x (λ j. res q P (multiplier q P a n Q H x j))
    multipliers_sum d =
        let w : (c : ℕ → F) × Depends (residues q P) a n Q H x c = depends_iff.0 d in
        record {
          only_held = λ j nj. ap (res q P) (multiplier_not_held j nj) ∙ res_zero q P;
          sums = λ k lk. dot_cong (residues q P) n (Q k) (λ j. res q P (multiplier q P a n Q H x j)) w.0
              (λ j l. ap (res q P) (multipliers_are w.0 w.1 j l) ∙ res_num_of q P (w.0 j)) ∙ w.1.sums k lk;
        }

-- a tableau modulo q that owns the held columns and no others
module _ (q : ℕ) (P : Prime q) (a n : ℕ) (Q T : ℕ → ℕ → (residues q P).F) (base : ℕ → ℕ) (same : Same (residues q P) a n Q T)
    (t : Tableau (residues q P) a n T base) (H : Set) (own : H ⊆ owned a base) (held : (h : ℕ) → h < a → base h < n → base h ∈ H)
    (below : (j : ℕ) → j ∈ H → j < n) (x : ℕ) (l : x < n) where
  open residues q P use {F, 𝟘}

  -- a column that is 0 in every free row depends on them, and the multiplier of the owner of a row is its entry there
  pub tableau_shows_the_numbers : ((h : ℕ) → h < a → n ≤ base h → T h x ≡ 𝟘)
      → (depends q P a n Q H x ≡ true) × ((h : ℕ) → h < a → base h ∈ H → multiplier q P a n Q H x (base h) ≡ num_of q P (T h x))
  tableau_shows_the_numbers z =
      let w : (c : ℕ → F) × Depends (residues q P) a n Q H x c × ((h : ℕ) → h < a → base h ∈ H → c (base h) ≡ T h x)
      = tableau_shows_multipliers Q T base same t H own held below x l z in (
        (depends_iff q P a n Q H x).1 (w.0, w.1),
        λ h lh e. multipliers_are q P a n Q H x (owned_columns_independent Q T base same t H own) w.0 w.1 (base h) (below (base h) e)
            ∙ ap (num_of q P) (w.2 h lh e),
      )

  -- one that is not 0 in some free row does not
  pub tableau_shows_no_dependence : (h : ℕ) → h < a → n ≤ base h → T h x ≢ 𝟘 → depends q P a n Q H x ≡ false
  tableau_shows_no_dependence h lh f nz =
      let k : (x ∈ H → ⊥) × Indep (residues q P) a n Q (set H x true) = tableau_shows_independence Q T base same t H own held below x l h lh f nz in
      not_true (depends q P a n Q H x) (λ e.
      let w : (c : ℕ → F) × Depends (residues q P) a n Q H x c = (depends_iff q P a n Q H x).0 e in depends_not Q H x w.0 l k.0 w.1 k.1)

-- ---- the outcome, and the multipliers given with it

module _ (q : ℕ) (P : Prime q) (a n : ℕ) (Q : ℕ → ℕ → (residues q P).F) (H : Set) (x : ℕ) where
  -- where the held columns are dependent
  module _ (d : independent q P a n Q H ≡ false) where
    pub outcome_dependent : outcome q P a n Q H x ≡ 2
    unfolding outcome
    outcome_dependent = rw d refl

    pub none_given : (j : ℕ) → given q P a n Q H x j ≡ 0
    unfolding given
    none_given j = rw d refl

  -- where they are independent
  module _ (i : independent q P a n Q H ≡ true) where
    pub outcome_depends : depends q P a n Q H x ≡ true → outcome q P a n Q H x ≡ 1
    unfolding outcome
    outcome_depends e = rw (i, e) refl

    pub outcome_independent : depends q P a n Q H x ≡ false → outcome q P a n Q H x ≡ 0
    unfolding outcome
    outcome_independent e = rw (i, e) refl

    pub multiplier_given : (j : ℕ) → given q P a n Q H x j ≡ multiplier q P a n Q H x j
    unfolding given
    multiplier_given j = rw i refl

    -- a held column depends by itself, and a column that is zero in every row by nothing
    pub outcome_held : x < n → x ∈ H → (outcome q P a n Q H x ≡ 1) × (given q P a n Q H x x ≡ 1) × ((j : ℕ) → j < n → j ≢ x → given q P a n Q H x j ≡ 0)
    outcome_held l e =
        let m = held_depends {K = residues q P} {a = a} {n = n} Q H x l e in
        let are : (j : ℕ) → j < n → given q P a n Q H x j ≡ num_of q P (unit (residues q P) x j) = λ j lj. multiplier_given j ∙ multipliers_are q P a n Q H x ((independent_iff q P a n Q H).0 i) _ m j lj in (
          outcome_depends ((depends_iff q P a n Q H x).1 (_, m)),
          are x l ∙ ap (num_of q P) (unit_at (residues q P) x ∙ sym (res_one q P)) ∙ num_of_res q P 1 ∙ mod-eq_of_lt P.least,
          λ j lj ne. are j lj ∙ ap (num_of q P) (unit_other (residues q P) x j ne) ∙ num_of_zero q P,
        )

    pub outcome_zero : ((k : ℕ) → k < a → Q k x ≡ (residues q P).𝟘) → (outcome q P a n Q H x ≡ 1) × ((j : ℕ) → j < n → given q P a n Q H x j ≡ 0)
    outcome_zero z =
        let m = zero_depends {K = residues q P} {a = a} {n = n} Q H x z in (
          outcome_depends ((depends_iff q P a n Q H x).1 (_, m)),
          λ j lj. multiplier_given j ∙ multipliers_are q P a n Q H x ((independent_iff q P a n Q H).0 i) _ m j lj ∙ num_of_zero q P,
        )

  -- what each outcome says
  abbrev Reads : ℕ → Type 0
  Reads k = ((k ≡ 2) × (independent q P a n Q H ≡ false)) ⊎ (((k ≡ 1) × (independent q P a n Q H ≡ true) × (depends q P a n Q H x ≡ true)) ⊎ ((k ≡ 0) × (independent q P a n Q H ≡ true) × (depends q P a n Q H x ≡ false)))

  pub outcome_reads : Reads (outcome q P a n Q H x)
  outcome_reads = elim (true? (independent q P a n Q H)) [
    | no ni ↦ let e = not_true (independent q P a n Q H) ni in inl (outcome_dependent e, e)
    | yes e ↦ elim (true? (depends q P a n Q H x)) [
      | yes d ↦ inr (inl (outcome_depends e d, e, d))
      | no nd ↦ let f = not_true (depends q P a n Q H x) nd in inr (inr (outcome_independent e f, e, f))
    ]
  ]

  -- a multiplier that is given is below q, and 0 at a column that is not held
  pub given_below : (j : ℕ) → given q P a n Q H x j < q
  given_below j = elim (true? (independent q P a n Q H)) [
    | yes e ↦ omega (arith, multiplier_given e j, multiplier_below q P a n Q H x j)
    | no ne ↦ omega (arith, none_given (not_true (independent q P a n Q H) ne) j, multiplier_below q P a n Q H x j)
  ]

  pub given_not_held : (j : ℕ) → (j ∈ H → ⊥) → given q P a n Q H x j ≡ 0
  given_not_held j nj = elim (true? (independent q P a n Q H)) [
    | yes e ↦ multiplier_given e j ∙ multiplier_not_held q P a n Q H x j nj
    | no ne ↦ none_given (not_true (independent q P a n Q H) ne) j
  ]

-- constants with the same entries in the rows and columns
module _ (q : ℕ) (P : Prime q) (a n : ℕ) (Q R : ℕ → ℕ → (residues q P).F) (agree : (i j : ℕ) → i < a → j < n → Q i j ≡ R i j) (H : Set) (x : ℕ) (l : x < n) where
  same : Same (residues q P) a n R Q
  same = entries_same {K = residues q P} Q R agree

  independent_same : independent q P a n Q H ≡ independent q P a n R H
  independent_same = iff_eq (independent q P a n Q H) (independent q P a n R H)
      (λ e. (independent_iff q P a n R H).1 (same_indep (same_sym same) ((independent_iff q P a n Q H).0 e)))
      (λ e. (independent_iff q P a n Q H).1 (same_indep same ((independent_iff q P a n R H).0 e)))

  depends_there : (c : ℕ → (residues q P).F) → Depends (residues q P) a n Q H x c → Depends (residues q P) a n R H x c
  depends_there c = depends_same same H x c l

  depends_both : depends q P a n Q H x ≡ depends q P a n R H x
  depends_both = iff_eq (depends q P a n Q H x) (depends q P a n R H x)
      (λ e. let m = (depends_iff q P a n Q H x).0 e in (depends_iff q P a n R H x).1 (m.0, depends_there m.0 m.1))
      (λ e. let m = (depends_iff q P a n R H x).0 e in (depends_iff q P a n Q H x).1 (m.0, depends_same (same_sym same) H x m.0 l m.1))

  -- have the same outcome,
  pub outcome_same : outcome q P a n Q H x ≡ outcome q P a n R H x
  unfolding outcome
  outcome_same = rw (independent_same, depends_both) refl

  -- and the same multipliers
  pub given_same : (j : ℕ) → j < n → given q P a n Q H x j ≡ given q P a n R H x j
  given_same j lj = elim (outcome_reads q P a n Q H x) [
    | inl w ↦ none_given q P a n Q H x w.1 j ∙ sym (none_given q P a n R H x (sym independent_same ∙ w.1) j)
    | inr v ↦ elim v [
      | inl w ↦
          let m = (depends_iff q P a n Q H x).0 w.2 in
          let i = sym independent_same ∙ w.1 in
          multiplier_given q P a n Q H x w.1 j ∙ multipliers_are q P a n Q H x ((independent_iff q P a n Q H).0 w.1) m.0 m.1 j lj
          ∙ sym (multiplier_given q P a n R H x i j ∙ multipliers_are q P a n R H x ((independent_iff q P a n R H).0 i) m.0 (depends_there m.0 m.1) j lj)
      | inr w ↦ multiplier_given q P a n Q H x w.1 j ∙ multiplier_none q P a n Q H x w.2 j
          ∙ sym (multiplier_given q P a n R H x (sym independent_same ∙ w.1) j ∙ multiplier_none q P a n R H x (sym depends_both ∙ w.2) j)
    ]
  ]
