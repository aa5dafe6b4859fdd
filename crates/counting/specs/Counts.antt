-- The laws of sets and counts: bounded choices and tests, updates, and how counts change with the set. Assumes nothing.
use Rattle.std.specs.Prelude.{ℕ, zero, suc, ◌+◌, ◌≤◌, ◌<◌, ◌≡◌, refl, Bool, true, false, not, ◌&&◌, ◌||◌, ◌≢◌, ◌↔◌, eqb}
use Rattle.std.proofs.Common.{sym, ◌∙◌, ap, true≢false, inl, inr, arith, zero-add, add-one, ne_eqb}
use Rattle.std.proofs.Math.Path.{fun_ext}
use Rattle.std.proofs.Math.Bool.{or-true, or-false}
use Rattle.std.proofs.lemmas.Bool.{false≢true}
use Rattle.std.proofs.Math.Logic.{by_cases}
use Rattle.std.proofs.Math.Decide.{ℕ_discrete}
use Rattle.counting.specs.Sets.{Set, ◌∈◌, ◌∩◌, ∁, indicator, #, all, any, Some, choose, set, touching}
use Rattle.counting.specs.Bools.{true?, not_true, and_in, and_left, and_right, or_left, or_right, or_split}

-- ---- decisions

pub some? : (n : ℕ) (P : ℕ → Type 0) → ((i : ℕ) → Dec (P i)) → Dec (Some n P)
some? zero P d = no (λ h. omega arith)
some? (suc n) P d = go (d n) (some? n P d)
  where
    go : Dec (P n) → Dec (Some n P) → Dec (Some (suc n) P)
    go (yes p) r = yes (n, omega arith, p)
    go (no np) (yes r) = yes (r.0, omega arith, r.2)
    go (no np) (no nr) = no (λ h. elim (ℕ_discrete h.0 n) [ yes e ↦ np (rw e at h.2) | no ne ↦ nr (h.0, omega arith, h.2) ])

pub both? : {A B : Type 0} → Dec A → Dec B → Dec (A × B)
both? (yes a) (yes b) = yes (a, b)
both? (yes a) (no nb) = no (λ h. nb h.1)
both? (no na) b = no (λ h. na h.0)

pub not? : {A : Type 0} → Dec A → Dec (A → ⊥)
not? (yes a) = no (λ h. h a)
not? (no na) = yes na

-- ---- tests over all numbers below n

pub any_iff : (n : ℕ) (P : ℕ → Bool) → (any n P ≡ true) ↔ Some n (λ x. P x ≡ true)
unfolding any
any_iff zero P = (λ e. absurd (false≢true e), λ w. absurd (omega arith))
any_iff (suc n) P = (
  λ e. elim (or_split (any n P) (P n) e) [
    | inl p ↦ let w : Some n (λ x. P x ≡ true) = (any_iff n P).0 p in (w.0, omega arith, w.2)
    | inr q ↦ (n, omega arith, q)
  ],
  λ w. elim (ℕ_discrete w.0 n) [
    | yes d ↦ or_right (any n P) (P n) (rw d at w.2)
    | no nd ↦ or_left (any n P) (P n) ((any_iff n P).1 (w.0, omega arith, w.2))
  ],
)

pub all_iff : (n : ℕ) (P : ℕ → Bool) → (all n P ≡ true) ↔ ((x : ℕ) → x < n → P x ≡ true)
unfolding all
all_iff zero P = (λ e x l. absurd (omega arith), λ h. refl)
all_iff (suc n) P = (
  λ e x l. elim (ℕ_discrete x n) [ yes d ↦ rw d (and_right (all n P) (P n) e) | no nd ↦ (all_iff n P).0 (and_left (all n P) (P n) e) x (omega arith) ],
  λ h. and_in ((all_iff n P).1 (λ x l. h x (omega arith))) (h n (omega arith)),
)

-- a set has a member below n where its size is not 0
pub size_any : (n : ℕ) (S : Set) → not (eqb (# n S) 0) ≡ any n S
unfolding # any indicator
size_any zero S = refl
size_any (suc n) S = step (S n) (any n S) (size_any n S)
  where
    step : (b c : Bool) → not (eqb (# n S) 0) ≡ c → not (eqb (indicator b + # n S) 0) ≡ (c || b)
    step true c e = ap not (ne_eqb (1 + # n S) 0 (λ z. omega arith)) ∙ sym (or-true c)
    step false c e = ap (λ (m : ℕ). not (eqb m 0)) (zero-add (# n S)) ∙ e ∙ sym (or-false c)

-- row q touches a column of K
abbrev pub Touching : ℕ → (ℕ → ℕ → Bool) → Set → ℕ → Type 0
Touching n touch K q = Some n (λ x. (x ∈ K) × (touch q x ≡ true))

pub touching_iff : (n : ℕ) (touch : ℕ → ℕ → Bool) (K : Set) (q : ℕ) → (q ∈ touching n touch K) ↔ Touching n touch K q
unfolding touching
touching_iff n touch K q = (
  λ e. let w : Some n (λ x. (K x && touch q x) ≡ true) = (any_iff n (λ x. K x && touch q x)).0 e in (w.0, w.1, (and_left (K w.0) (touch q w.0) w.2, and_right (K w.0) (touch q w.0) w.2)),
  λ w. (any_iff n (λ x. K x && touch q x)).1 (w.0, w.1, and_in w.2.0 w.2.1),
)

-- ---- one value changed

pub set_same : {A : Type 0} (f : ℕ → A) (j : ℕ) (v : A) → set f j v j ≡ v
unfolding set choose
set_same f j v = elim (ℕ_discrete j j) as (λ d. choose d v (f j) ≡ v) [ yes e ↦ refl | no ne ↦ absurd (ne refl) ]

pub set_other : {A : Type 0} (f : ℕ → A) (j : ℕ) (v : A) (k : ℕ) → k ≢ j → set f j v k ≡ f k
unfolding set choose
set_other f j v k h = elim (ℕ_discrete k j) as (λ d. choose d v (f k) ≡ f k) [ yes e ↦ absurd (h e) | no ne ↦ refl ]

-- two members may be put in in either order
pub set_set : (S : Set) (i a : ℕ) → set (set S i true) a true ≡ set (set S a true) i true
set_set S i a = fun_ext (λ k. by_cases (ℕ_discrete k i)
    (λ e. rw e (by_cases (ℕ_discrete i a)
    (λ q. ap (set (set S i true) a true) q ∙ set_same _ a true ∙ sym (set_same _ i true))
    (λ nq. set_other _ a true i nq ∙ set_same S i true ∙ sym (set_same _ i true))))
    (λ ne. by_cases (ℕ_discrete k a)
    (λ q. rw q (set_same _ a true ∙ sym (set_other _ i true a (λ w. ne (q ∙ w)) ∙ set_same S a true)))
    (λ nq. set_other _ a true k nq ∙ set_other S i true k ne ∙ sym (set_other _ i true k ne ∙ set_other S a true k nq))))

-- S without j
infixl 60 ◌⊖◌
abbrev pub ◌⊖◌ : Set → ℕ → Set
S ⊖ j = set S j false

pub ⊖-at : (S : Set) (j : ℕ) → (S ⊖ j) j ≡ false
⊖-at S j = set_same S j false

pub ⊖-other : (S : Set) (j i : ℕ) → i ≢ j → (S ⊖ j) i ≡ S i
⊖-other S j i h = set_other S j false i h

pub ⊖-in : (S : Set) (j i : ℕ) → i ∈ S ⊖ j → (i ∈ S) × (i ≢ j)
⊖-in S j i e =
    let ne : i ≢ j = λ d. true≢false (sym e ∙ ap (S ⊖ j) d ∙ ⊖-at S j) in
    (sym (⊖-other S j i ne) ∙ e, ne)

-- ---- counts

-- one number more
pub #-next : (n : ℕ) (S : Set) (b : Bool) → S n ≡ b → # (n + 1) S ≡ indicator b + # n S
unfolding #
#-next n S b e = ap (λ (k : ℕ). # k S) (add-one n) ∙ ap (λ c. indicator c + # n S) e

pub #-ext : (n : ℕ) (S T : Set) → ((i : ℕ) → i < n → S i ≡ T i) → # n S ≡ # n T
unfolding #
#-ext zero S T h = refl
#-ext (suc n) S T h = omega (arith, ap indicator (h n (omega arith)), #-ext n S T (λ i l. h i (omega arith)))

pub #-⊖ : (n : ℕ) (S : Set) (j : ℕ) → j < n → j ∈ S → # n S ≡ suc (# n (S ⊖ j))
unfolding # indicator
#-⊖ zero S j l h = omega arith
#-⊖ (suc n) S j l h = elim (ℕ_discrete n j) [ yes e ↦ here e | no ne ↦ omega (arith, ap indicator (⊖-other S j n ne), #-⊖ n S j (omega arith) h) ]
  where
    here : n ≡ j → indicator (S n) + # n S ≡ suc (indicator ((S ⊖ j) n) + # n (S ⊖ j))
    here e = omega (arith, ap indicator (ap S e ∙ h), ap indicator (ap (S ⊖ j) e ∙ ⊖-at S j), #-ext n (S ⊖ j) S (λ i li. ⊖-other S j i (omega arith)))

-- a member more
pub #-insert : (n : ℕ) (S : Set) (j : ℕ) → j < n → (j ∈ S → ⊥) → # n (set S j true) ≡ suc (# n S)
#-insert n S j l nj = omega (arith, #-⊖ n (set S j true) j l (set_same S j true), #-ext n (set S j true ⊖ j) S same)
  where
    same : (i : ℕ) → i < n → (set S j true ⊖ j) i ≡ S i
    same i li = elim (ℕ_discrete i j) [
      | yes e ↦ rw (e, ⊖-at (set S j true) j) (sym (not_true (S j) nj))
      | no ne ↦ ⊖-other (set S j true) j i ne ∙ set_other S j true i ne
    ]

-- counts of a part and the rest
indicator_split : (a b : Bool) → indicator a ≡ indicator (b && a) + indicator (not b && a)
unfolding indicator
indicator_split true true = refl
indicator_split true false = refl
indicator_split false true = refl
indicator_split false false = refl

pub #-split : (n : ℕ) (K S : Set) → # n S ≡ # n (K ∩ S) + # n (∁ K ∩ S)
unfolding #
#-split zero K S = refl
#-split (suc n) K S = omega (arith, indicator_split (S n) (K n), #-split n K S)

indicator_not : (b : Bool) → indicator b + indicator (not b) ≡ 1
unfolding indicator
indicator_not true = refl
indicator_not false = refl

pub #-∁ : (n : ℕ) (K : Set) → # n K + # n (∁ K) ≡ n
unfolding #
#-∁ zero K = refl
#-∁ (suc n) K = omega (arith, indicator_not (K n), #-∁ n K)

pub #-le : (n : ℕ) (S : Set) → # n S ≤ n
#-le n S = omega (arith, #-∁ n S)

pub #-pick : (n : ℕ) (S : Set) → 0 < # n S → Some n (λ j. j ∈ S)
unfolding # indicator
#-pick zero S h = absurd (omega arith)
#-pick (suc n) S h = elim (true? (S n)) [
  | yes s ↦ (n, omega arith, s)
  | no ns ↦ let r : Some n (λ j. j ∈ S) = #-pick n S (omega (arith, ap indicator (not_true (S n) ns))) in (r.0, omega arith, r.2)
]

pub #-none : (n : ℕ) → # n (λ x. false) ≡ 0
unfolding # indicator
#-none zero = refl
#-none (suc n) = omega (arith, #-none n)

pub #-all : (n : ℕ) (S : Set) → ((i : ℕ) → i < n → i ∈ S) → # n S ≡ n
#-all n S h = omega (arith, #-ext n S (λ i. true) h, #-∁ n (λ i. true), #-none n)
