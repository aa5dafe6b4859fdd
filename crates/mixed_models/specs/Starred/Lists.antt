-- Column sets and assignments written as lists. Assumes nothing.
use Rattle.std.specs.Prelude.{ℕ, zero, suc, ◌≤◌, ◌≡◌, refl, Bool, true, false, ◌||◌, List, [], ◌∷◌}
use Rattle.std.proofs.Math.Bool.{decide}
use Rattle.std.proofs.lemmas.Bool.{false≢true}
use Rattle.std.proofs.Common.{arith}
use Rattle.std.proofs.Math.Decide.{ℕ_discrete}
use Rattle.counting.specs.Sets.{Set}
use Rattle.rank.specs.Layered.Model.{Seat, out, Assignment}

-- the columns listed
unfoldable pub among : List ℕ → Set
among [] x = false
among (y ∷ l) x = decide (ℕ_discrete x y) || among l x

-- seats listed from column 0 on
unfoldable pub seats : List Seat → Assignment
seats [] x = out
seats (s ∷ l) zero = s
seats (s ∷ l) (suc x) = seats l x

-- the list is no longer than n
unfoldable pub all_below_n : List Seat → ℕ → Bool
all_below_n [] n = true
all_below_n (s ∷ l) zero = false
all_below_n (s ∷ l) (suc n) = all_below_n l n

pub seats_beyond : (l : List Seat) (n x : ℕ) → all_below_n l n ≡ true → n ≤ x → seats l x ≡ out
unfolding seats all_below_n
seats_beyond [] n x e h = refl
seats_beyond (s ∷ l) zero x e h = absurd (false≢true e)
seats_beyond (s ∷ l) (suc n) zero e h = absurd (omega arith)
seats_beyond (s ∷ l) (suc n) (suc x) e h = seats_beyond l n x e (omega arith)
