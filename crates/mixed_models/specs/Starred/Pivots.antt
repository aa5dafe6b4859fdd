-- Lists of pivots: they keep the kernel of a matrix and make it a tableau. Assumes nothing.
use Rattle.std.specs.Prelude.{ℕ, ◌≡◌, Bool, ◌&&◌}
use Rattle.std.proofs.Math.Bool.{true, decide, decide_iff}
use mathlib.Core.List.{List, [], ◌∷◌}
use Rattle.std.proofs.Math.Decide.{ℕ_discrete, dec_lt}
use Rattle.residue.specs.Fields.{Field}
use Rattle.counting.specs.Bools.{and_left, and_right}
use Rattle.counting.specs.Sets.{any, Some, Set, ◌∈◌, set}
use Rattle.counting.specs.Counts.{any_iff}
use Rattle.rank.specs.Linear.Kernels.{Same, hits, hits_iff, same_refl, same_trans}
use Rattle.rank.specs.Linear.Tableaus.{Tableau, owned, owned_iff, pivot, pivot_same, pivot_tableau}

-- pivots at (row, column), one after another
abbrev pub Pivots : Type 0
Pivots = List (ℕ × ℕ)

module _ (K : Field) where
  open K use {F, 𝟘}

  -- the matrix after the pivots
  unfoldable pub pivoted_tableau : Pivots → (ℕ → ℕ → F) → ℕ → ℕ → F
  pivoted_tableau [] P = P
  pivoted_tableau (p ∷ l) P = pivoted_tableau l (pivot K P p.0 p.1)

  -- the owners of the rows after the pivots
  unfoldable pub owners : Pivots → (ℕ → ℕ) → ℕ → ℕ
  owners [] o = o
  owners (p ∷ l) o = owners l (set o p.0 p.1)

  -- each at a row below a and an entry that is not zero
  unfoldable pub proper : ℕ → Pivots → (ℕ → ℕ → F) → Bool
  proper a [] P = true
  proper a (p ∷ l) P = (decide (dec_lt p.0 a) && hits K P p.0 p.1) && proper a l (pivot K P p.0 p.1)

  pub proper_same : (a n : ℕ) (l : Pivots) (P : ℕ → ℕ → F) → proper a l P ≡ true → Same K a n P (pivoted_tableau l P)
  unfolding pivoted_tableau proper
  proper_same a n [] P e = same_refl
  proper_same a n (p ∷ l) P e =
      let f : (decide (dec_lt p.0 a) && hits K P p.0 p.1) ≡ true = and_left (decide (dec_lt p.0 a) && hits K P p.0 p.1) (proper a l (pivot K P p.0 p.1)) e in
      same_trans (pivot_same P p.0 p.1 ((decide_iff (dec_lt p.0 a)).0 (and_left (decide (dec_lt p.0 a)) (hits K P p.0 p.1) f)) ((hits_iff K P p.0 p.1).0 (and_right (decide (dec_lt p.0 a)) (hits K P p.0 p.1) f)))
      (proper_same a n l (pivot K P p.0 p.1) (and_right (decide (dec_lt p.0 a) && hits K P p.0 p.1) (proper a l (pivot K P p.0 p.1)) e))

  pub proper_tableau : (a n : ℕ) (l : Pivots) (P : ℕ → ℕ → F) (o : ℕ → ℕ) → Tableau K a n P o → proper a l P ≡ true → Tableau K a n (pivoted_tableau l P) (owners l o)
  unfolding pivoted_tableau owners proper
  proper_tableau a n [] P o t e = t
  proper_tableau a n (p ∷ l) P o t e =
      let f : (decide (dec_lt p.0 a) && hits K P p.0 p.1) ≡ true = and_left (decide (dec_lt p.0 a) && hits K P p.0 p.1) (proper a l (pivot K P p.0 p.1)) e in
      proper_tableau a n l (pivot K P p.0 p.1) (set o p.0 p.1)
      (pivot_tableau t p.0 p.1 ((decide_iff (dec_lt p.0 a)).0 (and_left (decide (dec_lt p.0 a)) (hits K P p.0 p.1) f)) ((hits_iff K P p.0 p.1).0 (and_right (decide (dec_lt p.0 a)) (hits K P p.0 p.1) f)))
      (and_right (decide (dec_lt p.0 a) && hits K P p.0 p.1) (proper a l (pivot K P p.0 p.1)) e)

-- some row below a has owner x
unfoldable pub owns : ℕ → (ℕ → ℕ) → Set
owns a o x = any a (λ h. decide (ℕ_discrete (o h) x))

pub owns_owned : (a : ℕ) (o : ℕ → ℕ) (x : ℕ) → x ∈ owns a o → x ∈ owned a o
unfolding owns
owns_owned a o x e = let w : Some a (λ h. decide (ℕ_discrete (o h) x) ≡ true) = (any_iff a (λ h. decide (ℕ_discrete (o h) x))).0 e in (owned_iff a o x).1 (w.0, w.1, (decide_iff (ℕ_discrete (o w.0) x)).0 w.2)
