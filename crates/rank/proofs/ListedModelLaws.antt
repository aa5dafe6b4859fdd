-- The independence of constant columns, in plain numbers. Assumes nothing.
use Prim.Native.Nat.{ℕ, zero, suc, ◌+◌, ◌*◌, ◌%◌, ◌<◌}
use Rattle.std.specs.Prelude.{◌≡◌, ◌≢◌, true, List, get_or}
use Rattle.std.proofs.Common.{sym, ◌∙◌, arith}
use Rattle.std.proofs.Math.Path.{ap₂}
use Rattle.std.proofs.Math.Decide.{dec_lt}
use Rattle.residue.specs.Arithmetic.{Prime}
use Rattle.residue.specs.Residues.{residues, res, num_of, res_num_of, res_zero, res_is_zero, res_add, res_mul}
use Rattle.counting.specs.Sets.{Set}
use Rattle.rank.specs.Linear.Independence.{Σ, dot, In, Indep}
use Rattle.rank.specs.Linear.Sums.{dot_cong}
use Rattle.rank.specs.ListedModel.{constant_at}
use Rattle.rank.specs.Totals.{total, OnlyZero}
use Rattle.rank.proofs.IndependentLaws.{cut, cut_below, cut_beyond}

module _ (q : ℕ) (P : Prime q) where
  open residues q P use {F, 𝟘}

  -- the residue of a sum of products
  pub res_total : (n : ℕ) (r c : ℕ → ℕ) → res q P (total n (λ j. r j * c j)) ≡ dot (residues q P) n (λ j. res q P (r j)) (λ j. res q P (c j))
  unfolding total dot Σ
  res_total zero r c = res_zero q P
  res_total (suc n) r c = res_add q P _ _ ∙ ap₂ (residues q P).◌+◌ (res_total n r c) (res_mul q P (r n) (c n))

  module _ (n a : ℕ) (cs : List ℕ) (S : Set) where
    -- the constants
    abbrev Q : ℕ → ℕ → F
    Q = constant_at q P n cs

    row_total : (i : ℕ) (c : ℕ → ℕ) → res q P (total n (λ j. get_or cs (i * n + j) 0 * c j)) ≡ dot (residues q P) n (Q i) (λ j. res q P (c j))
    row_total i c = res_total n (λ j. get_or cs (i * n + j) 0) c

    pub numbers : Indep (residues q P) a n Q S → OnlyZero q n a cs S
    numbers h = record { all_zero = λ c s z j l. (res_is_zero q P (c j)).0 (sym (cut_below q P n (c_of c) j l) ∙ h.only_zero (cut q P n (c_of c)) (inside c s) (killed c z) j l) }
      where
        c_of : (ℕ → ℕ) → ℕ → F
        c_of c j = res q P (c j)

        inside : (c : ℕ → ℕ) → ((j : ℕ) → j < n → S j ≢ true → c j % q ≡ 0) → In (residues q P) S (cut q P n (c_of c))
        inside c s j ns = elim (dec_lt j n) [
          | yes l ↦ cut_below q P n (c_of c) j l ∙ (res_is_zero q P (c j)).1 (s j l ns)
          | no nl ↦ cut_beyond q P n (c_of c) j (omega arith) ∙ res_zero q P
        ]

        killed : (c : ℕ → ℕ) → ((i : ℕ) → i < a → total n (λ j. get_or cs (i * n + j) 0 * c j) % q ≡ 0)
            → (i : ℕ) → i < a → dot (residues q P) n (Q i) (cut q P n (c_of c)) ≡ 𝟘
        killed c z i l = dot_cong (residues q P) n (Q i) (cut q P n (c_of c)) (c_of c) (cut_below q P n (c_of c)) ∙ sym (row_total i c) ∙ (res_is_zero q P _).1 (z i l)

    pub residues_too : OnlyZero q n a cs S → Indep (residues q P) a n Q S
    residues_too h = record {
      only_zero = λ c s z j l. sym (res_num_of q P (c j)) ∙ (res_is_zero q P (num_of q P (c j))).1 (h.all_zero (λ k. num_of q P (c k))
          (λ k lk ns. (res_is_zero q P (num_of q P (c k))).0 (res_num_of q P (c k) ∙ s k ns))
          (λ i li. (res_is_zero q P _).0 (row_total i (λ k. num_of q P (c k)) ∙ dot_cong (residues q P) n (Q i) (λ k. res q P (num_of q P (c k))) c (λ k lk. res_num_of q P (c k)) ∙ z i li))
          j l);
    }
