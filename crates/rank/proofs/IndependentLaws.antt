-- The test of `Independent` is true of the independent sets and of nothing else. Assumes nothing.
use Rattle.std.specs.Prelude.{ℕ, ◌-◌, ◌≤◌, ◌<◌, ◌≡◌, ◌↔◌, ◌||◌}
use Rattle.std.proofs.Math.Path.{refl, sym, ap}
use Rattle.std.proofs.Common.{◌∙◌}
use Rattle.std.proofs.Math.Bool.{true, not, decide_iff}
use native.Mathlib.Omega.{arith}
use Rattle.std.proofs.Math.Decide.{dec_lt}
use Rattle.residue.specs.Arithmetic.{Prime}
use Rattle.residue.specs.Residues.{residues, res, num_of, num_of_below, res_num_of, res_zero}
use Rattle.counting.specs.Bools.{true?, implies, implied}
use Rattle.counting.specs.Sets.{Set, all, choose}
use Rattle.counting.specs.Counts.{all_iff}
use Rattle.counting.specs.ChoiceLaws.{Chosen, every_iff, cond_true, cond_false}
use Rattle.rank.specs.Linear.Independence.{dot, In, InKernel, Indep}
use Rattle.rank.specs.Linear.Sums.{dot_cong}
use Rattle.rank.specs.Independent.{is_zero, last_coefficient, in_kernel, independent}

module _ (q : ℕ) (P : Prime q) (n : ℕ) where
  open residues q P use {F}

  -- the coefficients c below n, and 0 from n on
  pub cut : (ℕ → F) → ℕ → F
  cut c x = choose (dec_lt x n) (c x) (res q P 0)

  pub cut_below : (c : ℕ → F) (x : ℕ) → x < n → cut c x ≡ c x
  unfolding cut choose
  cut_below c x l = elim (dec_lt x n) as (λ d. choose d (c x) (res q P 0) ≡ c x) [ yes m ↦ refl | no nm ↦ absurd (nm l) ]

  pub cut_beyond : (c : ℕ → F) (x : ℕ) → n ≤ x → cut c x ≡ res q P 0
  unfolding cut choose
  cut_beyond c x l = elim (dec_lt x n) as (λ d. choose d (c x) (res q P 0) ≡ res q P 0) [ yes m ↦ absurd (omega arith) | no nm ↦ refl ]

module _ (q : ℕ) (P : Prime q) (a n : ℕ) (Q : ℕ → ℕ → (residues q P).F) where
  open residues q P use {F, 𝟘}

  zero_iff : (x : F) → (is_zero q P x ≡ true) ↔ (x ≡ 𝟘)
  unfolding is_zero
  zero_iff x = decide_iff ((residues q P).decide x 𝟘)

  pub kernel_iff : (c : ℕ → F) → (in_kernel q P a n Q c ≡ true) ↔ InKernel (residues q P) a n Q c
  unfolding in_kernel
  kernel_iff c = (
    λ e i l. (zero_iff _).0 ((all_iff a (λ i. is_zero q P (dot (residues q P) n (Q i) c))).0 e i l),
    λ k. (all_iff a (λ i. is_zero q P (dot (residues q P) n (Q i) c))).1 (λ i l. (zero_iff _).1 (k i l)),
  )

  module _ (S : Set) where
    -- the coefficients that the test runs over are those that are zero outside S
    pub cut_chosen : (c : ℕ → F) → In (residues q P) S c → Chosen (res q P) (last_coefficient q S) n (cut q P n c)
    unfolding last_coefficient
    cut_chosen c h = record {
      inside = λ x l. elim (true? (S x)) [
        | yes s ↦ (
          num_of q P (c x),
          omega (arith, cond_true (S x) (q - 1) 0 s, num_of_below q P (c x)),
          cut_below q P n c x l ∙ sym (res_num_of q P (c x)),
        )
        | no ns ↦ (0, omega arith, cut_below q P n c x l ∙ h x ns ∙ sym (res_zero _ P))
      ];
      beyond = λ x l. cut_beyond q P n c x l;
    }

    pub chosen_in : (c : ℕ → F) → Chosen (res q P) (last_coefficient q S) n c → In (residues q P) S c
    unfolding last_coefficient
    chosen_in c h x ns = elim (dec_lt x n) [
      | no nl ↦ h.beyond x (omega arith) ∙ res_zero _ P
      | yes l ↦
          let w : (i : ℕ) × (i ≤ last_coefficient q S x) × (c x ≡ res q P i) = h.inside x l in
          let z : w.0 ≡ 0 = omega (arith, cond_false (S x) (q - 1) 0 ns) in
          w.2 ∙ ap (res q P) z ∙ res_zero _ P
    ]

    pub independent_iff : (independent q P a n Q S ≡ true) ↔ Indep (residues q P) a n Q S
    unfolding independent
    independent_iff = (
      λ e. record {
        only_zero = λ c h k j l.
            let t : (not (in_kernel q P a n Q (cut q P n c)) || all n (λ j. is_zero q P (cut q P n c j))) ≡ true
            = (every_iff (res q P) (last_coefficient q S) n (λ c. not (in_kernel q P a n Q c) || all n (λ j. is_zero q P (c j)))).0 e (cut q P n c) (cut_chosen c h) in
            let kc : in_kernel q P a n Q (cut q P n c) ≡ true = (kernel_iff (cut q P n c)).1 (λ i li. dot_cong (residues q P) n (Q i) (cut q P n c) c (cut_below q P n c) ∙ k i li) in
            sym (cut_below q P n c j l) ∙ (zero_iff _).0 ((all_iff n (λ j. is_zero q P (cut q P n c j))).0
            (implied (in_kernel q P a n Q (cut q P n c)) (all n (λ j. is_zero q P (cut q P n c j))) t kc) j l);
      },
      λ i. (every_iff (res q P) (last_coefficient q S) n (λ c. not (in_kernel q P a n Q c) || all n (λ j. is_zero q P (c j)))).1 (λ c h.
          implies (in_kernel q P a n Q c) (all n (λ j. is_zero q P (c j)))
          (λ k. (all_iff n (λ j. is_zero q P (c j))).1 (λ j l. (zero_iff _).1 (i.only_zero c (chosen_in c h) ((kernel_iff c).0 k) j l)))),
    )
