-- Laws of `listing`: its length, its elements, and which lists it is. Assumes nothing.
use Rattle.std.specs.Prelude.{ℕ, zero, suc, ◌<◌, ◌≡◌, refl, List, [], ◌∷◌, length, get_or, replicate}
use Rattle.std.proofs.Common.{sym, ◌∙◌, ap, ap₂, arith}
use Rattle.dependence.specs.Listing.{listing}

pub listed : (k : ℕ) (f : ℕ → ℕ) (l : List ℕ) → length l ≡ k → ((j : ℕ) → j < k → get_or l j 0 ≡ f j) → l ≡ listing k f
unfolding listing
listed zero f [] e h = refl
listed zero f (v ∷ l) e h = absurd (omega arith)
listed (suc k) f [] e h = absurd (omega arith)
listed (suc k) f (v ∷ l) e h = ap₂ ◌∷◌ (h 0 (omega arith)) (listed k (λ j. f (suc j)) l (omega arith) (λ j m. h (suc j) (omega arith)))

pub listing_at : (k : ℕ) (f : ℕ → ℕ) (j : ℕ) → j < k → get_or (listing k f) j 0 ≡ f j
unfolding listing
listing_at zero f j l = absurd (omega arith)
listing_at (suc k) f zero l = refl
listing_at (suc k) f (suc j) l = listing_at k (λ i. f (suc i)) j (omega arith)

pub listing_length : (k : ℕ) (f : ℕ → ℕ) → length (listing k f) ≡ k
unfolding listing
listing_length zero f = refl
listing_length (suc k) f = ap suc (listing_length k (λ j. f (suc j)))

pub listing_same : (k : ℕ) (f g : ℕ → ℕ) → ((j : ℕ) → j < k → f j ≡ g j) → listing k f ≡ listing k g
listing_same k f g h = listed k g (listing k f) (listing_length k f) (λ j l. listing_at k f j l ∙ h j l)

pub zeros_listed : (k : ℕ) (f : ℕ → ℕ) → ((j : ℕ) → j < k → f j ≡ 0) → replicate k 0 ≡ listing k f
unfolding listing
zeros_listed zero f h = refl
zeros_listed (suc k) f h = ap₂ ◌∷◌ (sym (h 0 (omega arith))) (zeros_listed k (λ j. f (suc j)) (λ j m. h (suc j) (omega arith)))
