-- Multipliers in plain numbers: what it means that whole numbers are multipliers of a column, and that this is what the definitions over residues say.
-- Assumes nothing.
use Rattle.std.specs.Prelude.{ℕ, ◌+◌, ◌*◌, ◌%◌, ◌<◌, ◌≡◌, ◌≢◌, true, List, get_or}
use Rattle.std.proofs.Common.{sym, ◌∙◌, arith}
use Rattle.std.proofs.Math.Decide.{dec_lt}
use Rattle.residue.specs.Arithmetic.{Prime}
use Rattle.residue.specs.Residues.{residues, res, res_zero, res_is_zero, res_same, same_res}
use Rattle.counting.specs.Sets.{Set}
use Rattle.rank.specs.Linear.Independence.{dot}
use Rattle.rank.specs.Linear.Sums.{dot_cong}
use Rattle.rank.proofs.IndependentLaws.{cut, cut_below, cut_beyond}
use Rattle.rank.specs.ListedModel.{constant_at}
use Rattle.rank.specs.Totals.{total}
use Rattle.rank.proofs.ListedModelLaws.{res_total}
use Rattle.dependence.specs.Multipliers.{Depends}

-- The whole numbers c are multipliers of column x modulo p: they are 0 modulo p at the columns that are not in H, and in each constant row the sum of
-- constant times number is the constant of x modulo p.
pub record SumsTo (p n a : ℕ) (cs : List ℕ) (H : Set) (x : ℕ) (c : ℕ → ℕ) : Type 0 where
  pub elsewhere : (j : ℕ) → j < n → H j ≢ true → c j % p ≡ 0
  pub sums : (i : ℕ) → i < a → total n (λ j. get_or cs (i * n + j) 0 * c j) % p ≡ get_or cs (i * n + x) 0 % p

module _ (q : ℕ) (P : Prime q) (n a : ℕ) (cs : List ℕ) (H : Set) (x : ℕ) (c : ℕ → ℕ) where
  open residues q P use {F}

  row_total : (i : ℕ) → res q P (total n (λ j. get_or cs (i * n + j) 0 * c j)) ≡ dot (residues q P) n (constant_at q P n cs i) (λ j. res q P (c j))
  row_total i = res_total q P n (λ j. get_or cs (i * n + j) 0) c

  pub plain_multipliers : Depends (residues q P) a n (constant_at q P n cs) H x (λ j. res q P (c j)) → SumsTo q n a cs H x c
  plain_multipliers m = record {
    elsewhere = λ j l nj. (res_is_zero q P (c j)).0 (m.only_held j nj);
    sums = λ i l. same_res q P _ _ (row_total i ∙ m.sums i l);
  }

  pub residue_multipliers : SumsTo q n a cs H x c → Depends (residues q P) a n (constant_at q P n cs) H x (cut q P n (λ j. res q P (c j)))
  residue_multipliers s = record {
    only_held = λ j nj. elim (dec_lt j n) [
      | yes l ↦ cut_below q P n (λ k. res q P (c k)) j l ∙ (res_is_zero q P (c j)).1 (s.elsewhere j l nj)
      | no nl ↦ cut_beyond q P n (λ k. res q P (c k)) j (omega arith) ∙ res_zero q P
    ];
    sums = λ i l. dot_cong (residues q P) n (constant_at q P n cs i) _ _ (cut_below q P n (λ k. res q P (c k))) ∙ sym (row_total i) ∙ res_same q P _ _ (s.sums i l);
  }
