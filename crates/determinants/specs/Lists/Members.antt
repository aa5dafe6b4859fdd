-- The members of a list of numbers, and the list of a set. Assumes nothing.
use Rattle.std.specs.Prelude.{ℕ, zero, suc, ◌+◌, ◌<◌, ◌≡◌, refl, Bool, true, false, cond, List, [], ◌∷◌, ◌≢◌, length, get_or}
use Rattle.std.proofs.Common.{sym, ap, ◌∙◌, arith}
use Rattle.std.proofs.lemmas.Bool.{false≢true}
use Rattle.std.proofs.Math.Logic.{by_cases}
use Rattle.std.proofs.Math.Decide.{ℕ_discrete}
use Rattle.counting.specs.Counts.{set_same, set_other, #-insert, #-none}
use Rattle.counting.specs.Sets.{Set, ◌∈◌, ◌⊆◌, indicator, #}
use Rattle.determinants.specs.Statements.{members, Distinct, none, more}

pub member_head : (j : ℕ) (S : List ℕ) → j ∈ members (j ∷ S)
unfolding members
member_head j S = set_same (members S) j true

pub member_tail : (j : ℕ) (S : List ℕ) → members S ⊆ members (j ∷ S)
unfolding members
member_tail j S k e = by_cases (ℕ_discrete k j) (λ d. rw d (set_same (members S) j true)) (λ nd. set_other (members S) j true k nd ∙ e)

pub member_other : (j : ℕ) (S : List ℕ) (k : ℕ) → k ≢ j → k ∈ members (j ∷ S) → k ∈ members S
unfolding members
member_other j S k nd e = sym (set_other (members S) j true k nd) ∙ e

pub member_more : (j : ℕ) (R S : List ℕ) → members R ⊆ members S → members (j ∷ R) ⊆ members (j ∷ S)
member_more j R S h k m = by_cases (ℕ_discrete k j) (λ d. rw d (member_head j S)) (λ nd. member_tail j S k (h k (member_other j R k nd m)))

pub not_member : (k : ℕ) → members [] k ≢ true
unfolding members
not_member k e = false≢true e

-- the members lie below n
abbrev pub Below : ℕ → List ℕ → Type 0
Below n J = (j : ℕ) → j ∈ members J → j < n

-- how many members a list has
pub #-members : (n : ℕ) (J : List ℕ) → Distinct J → Below n J → # n (members J) ≡ length J
unfolding members
#-members n [] none b = #-none n
#-members n (j ∷ J) (more nm d) b =
    #-insert n (members J) j (b j (member_head j J)) nm ∙ ap suc (#-members n J d (λ k m. b k (member_tail j J k m)))

-- its members are those that stand at its numbers
pub number_member : (I : List ℕ) (s : ℕ) → s < length I → get_or I s 0 ∈ members I
number_member [] s l = absurd (omega arith)
number_member (i ∷ I) zero l = member_head i I
number_member (i ∷ I) (suc s) l = member_tail i I (get_or I s 0) (number_member I s (omega arith))

pub member_number : (I : List ℕ) (i : ℕ) → i ∈ members I → (s : ℕ) × (s < length I) × (get_or I s 0 ≡ i)
member_number [] i m = absurd (not_member i m)
member_number (j ∷ I) i m = by_cases (ℕ_discrete i j)
    (λ e. (0, omega arith, sym e))
    (λ ne. let w = member_number I i (member_other j I i ne m) in (suc w.0, omega (arith, w.1), w.2))

-- the numbers below n in S, as a list, the largest first
pub list : ℕ → Set → List ℕ
list zero S = []
list (suc n) S = cond (S n) (n ∷ list n S) (list n S)

pub list_below : (n : ℕ) (S : Set) → Below n (list n S)
unfolding list
list_below zero S k m = absurd (not_member k m)
list_below (suc n) S k m = go (S n) m (list_below n S k)
  where
    go : (b : Bool) → k ∈ members (cond b (n ∷ list n S) (list n S)) → (k ∈ members (list n S) → k < n) → k < suc n
    go true m r = by_cases (ℕ_discrete k n) (λ e. omega arith) (λ ne. omega (arith, r (member_other n (list n S) k ne m)))
    go false m r = omega (arith, r m)

pub list_of : (n : ℕ) (S : Set) (k : ℕ) → k ∈ members (list n S) → k ∈ S
unfolding list
list_of zero S k m = absurd (not_member k m)
list_of (suc n) S k m = go (S n) refl m (list_of n S k)
  where
    go : (b : Bool) → S n ≡ b → k ∈ members (cond b (n ∷ list n S) (list n S)) → (k ∈ members (list n S) → k ∈ S) → k ∈ S
    go true e m r = by_cases (ℕ_discrete k n) (λ q. ap S q ∙ e) (λ nq. r (member_other n (list n S) k nq m))
    go false e m r = r m

pub list_distinct : (n : ℕ) (S : Set) → Distinct (list n S)
unfolding list
list_distinct zero S = none
list_distinct (suc n) S = go (S n) (list_distinct n S)
  where
    go : (b : Bool) → Distinct (list n S) → Distinct (cond b (n ∷ list n S) (list n S))
    go true d = more (λ (m : n ∈ members (list n S)). omega (arith, list_below n S n m)) d
    go false d = d

pub list_length : (n : ℕ) (S : Set) → length (list n S) ≡ # n S
unfolding list # indicator
list_length zero S = refl
list_length (suc n) S = go (S n) (list_length n S)
  where
    go : (b : Bool) → length (list n S) ≡ # n S → length (cond b (n ∷ list n S) (list n S)) ≡ indicator b + # n S
    go true e = omega arith
    go false e = omega arith
