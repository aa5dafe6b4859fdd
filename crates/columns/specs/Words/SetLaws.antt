-- The laws of the set operations that the contracts of `columns` cite: what loops over a set, and sets that grow, go by. Assumes nothing.
use Rattle.std.specs.Prelude.{ℕ, zero, suc, ◌+◌, ◌≤◌, ◌<◌, ◌≡◌, refl, true, false, not, ◌&&◌, cond, ◌≢◌, ◌⊎◌, eqb, ltb}
use Rattle.std.proofs.Common.{sym, ap, ◌∙◌, inl, inr, arith, add-one, eq-eqb, ne_eqb, eqb-true, lt-ltb, ltb-true}
use Rattle.std.proofs.Math.Decide.{ℕ_discrete}
use Rattle.std.proofs.lemmas.Bool.{eqb-false}
use Rattle.counting.specs.Bools.{true?, not_true, iff_eq, and_in, and_left, and_right, or_left, or_right, or_split, in_not, not_in, not_both}
use Rattle.counting.specs.Sets.{Set, ◌∈◌, ◌⊆◌, ◌∩◌, ◌∪◌, ∁, #, any, Some, set}
use Rattle.counting.specs.Counts.{set_same, set_other, ⊖-in, #-⊖, #-pick, size_any}
use Rattle.counting.specs.Injections.{#-strict}
use Rattle.columns.specs.Columns.{width, none, upto_in, upto, inserted_in, inserted, removed, least, last_member}
use Rattle.columns.specs.Words.Operations.{least_in, least_first}

-- ---- a column put in

pub inserted_same : (S : Set) (j : ℕ) → j < width → j ∈ inserted S j
unfolding inserted_in
inserted_same S j l = or_right (S j) (eqb j j && ltb j width) (and_in (eq-eqb j j refl) (lt-ltb j width l))

pub inserted_old : (S : Set) (j : ℕ) → S ⊆ inserted S j
unfolding inserted_in
inserted_old S j x e = or_left (S x) (eqb x j && ltb j width) e

pub inserted_split : (S : Set) (j x : ℕ) → x ∈ inserted S j → (x ≡ j) ⊎ (x ∈ S)
unfolding inserted_in
inserted_split S j x e = elim (or_split (S x) (eqb x j && ltb j width) e) [
  | inl o ↦ inr o
  | inr w ↦ inl (eqb-true x j (and_left (eqb x j) (ltb j width) w))
]

pub inserted_set : (S : Set) (j x : ℕ) → j < width → inserted S j x ≡ set S j true x
inserted_set S j x l = iff_eq (inserted S j x) (set S j true x)
    (λ e. elim (ℕ_discrete x j) [
      | yes d ↦ rw d (set_same S j true)
      | no nd ↦ set_other S j true x nd ∙ elim (inserted_split S j x e) [ inl d ↦ absurd (nd d) | inr s ↦ s ]
    ])
    (λ e. elim (ℕ_discrete x j) [
      | yes d ↦ rw d (inserted_same S j l)
      | no nd ↦ inserted_old S j x (sym (set_other S j true x nd) ∙ e)
    ])

-- ---- a column taken out

pub removed_old : (S : Set) (j : ℕ) → removed S j ⊆ S
unfolding removed
removed_old S j x e = and_left (S x) (not (eqb x j)) e

pub removed_gone : (S : Set) (j x : ℕ) → x ∈ removed S j → x ≢ j
unfolding removed
removed_gone S j x e d = not_both (eqb x j) (and_right (S x) (not (eqb x j)) e) (eq-eqb x j d)

pub removed_other : (S : Set) (j x : ℕ) → x ∈ S → x ≢ j → x ∈ removed S j
unfolding removed
removed_other S j x e d = and_in e (in_not (eqb x j) (ne_eqb x j d))

pub removed_set : (S : Set) (j x : ℕ) → removed S j x ≡ set S j false x
removed_set S j x = iff_eq (removed S j x) (set S j false x)
    (λ e. set_other S j false x (removed_gone S j x e) ∙ removed_old S j x e)
    (λ e. let w : (x ∈ S) × (x ≢ j) = ⊖-in S j x e in removed_other S j x w.0 w.1)

-- a set gets smaller by the loss of a column
pub removed_less : (n : ℕ) (S : Set) (j : ℕ) → j < n → j ∈ S → # n (removed S j) < # n S
removed_less n S j l e = #-strict n (removed S j) S (λ x h m. removed_old S j x m) j l e (λ m. removed_gone S j j m refl)

-- ---- the least column of a set that is not empty

pub least_there : (n : ℕ) (S : Set) → # n S ≢ 0 → (least n S < n) × (least n S ∈ S)
least_there n S h =
    let w : Some n (λ j. j ∈ S) = #-pick n S (omega arith) in
    let l : least n S < n = omega (arith, least_first n S w.0 w.1 w.2) in
    (l, least_in n S l)

pub least_any : (n : ℕ) (S : Set) → any n S ≡ true → (least n S < n) × (least n S ∈ S)
least_any n S e = least_there n S (eqb-false (# n S) 0 (not_in (eqb (# n S) 0) (size_any n S ∙ e)))

-- ---- the greatest member of a set

pub last_member_is : (d n k : ℕ) (S : Set) → k < n → k ∈ S → ((x : ℕ) → k < x → x < n → S x ≡ false) → last_member d n S ≡ k
unfolding last_member
last_member_is d zero k S l e h = absurd (omega arith)
last_member_is d (suc n) k S l e h = elim (ℕ_discrete k n) [
  | yes z ↦ ap (λ b. cond b n (last_member d n S)) (rw z at e) ∙ sym z
  | no nz ↦ ap (λ b. cond b n (last_member d n S)) (h n (omega arith) (omega arith)) ∙ last_member_is d n k S (omega arith) e (λ x lx hx. h x lx (omega arith))
]

pub last_member_none : (d n : ℕ) (S : Set) → ((x : ℕ) → x < n → S x ≡ false) → last_member d n S ≡ d
unfolding last_member
last_member_none d zero S h = refl
last_member_none d (suc n) S h = ap (λ b. cond b n (last_member d n S)) (h n (omega arith)) ∙ last_member_none d n S (λ x l. h x (omega arith))

-- the last number below n is the greatest member where it is in the set, and else may be left out
pub last_found : (d n k : ℕ) (S : Set) → n ≡ k + 1 → S k ≡ true → last_member d n S ≡ k
unfolding last_member
last_found d n k S e m = rw (e, add-one k) (ap (λ b. cond b k (last_member d k S)) m)

pub last_passed : (d n k : ℕ) (S : Set) → n ≡ k + 1 → S k ≡ false → last_member d n S ≡ last_member d k S
unfolding last_member
last_passed d n k S e m = rw (e, add-one k) (ap (λ b. cond b k (last_member d k S)) m)

pub last_nowhere : (d n : ℕ) (S : Set) → n ≡ 0 → last_member d n S ≡ d
unfolding last_member
last_nowhere d n S e = rw e refl

-- numbers that are not in the set may be left out at the end
pub last_member_cut : (d k n : ℕ) (S : Set) → k ≤ n → ((x : ℕ) → k ≤ x → x < n → S x ≡ false) → last_member d n S ≡ last_member d k S
unfolding last_member
last_member_cut d k zero S l h = let e : k ≡ 0 = omega arith in rw e refl
last_member_cut d k (suc n) S l h = elim (ℕ_discrete k (suc n)) [
  | yes e ↦ rw e refl
  | no ne ↦ ap (λ b. cond b n (last_member d n S)) (h n (omega arith) (omega arith)) ∙ last_member_cut d k n S (omega arith) (λ x lx hx. h x lx (omega arith))
]

-- it is in the set, and no later one is; or there is none
pub record LastMember (n k : ℕ) (S : Set) : Type 0 where
  pub inside : k < n → k ∈ S
  pub last : k < n → (x : ℕ) → k < x → x < n → S x ≡ false
  pub no_member : n ≤ k → (x : ℕ) → x < n → S x ≡ false

pub last_member_reads : (n : ℕ) (S : Set) → LastMember n (last_member n n S) S
last_member_reads n S = from n (λ x l m. absurd (omega arith)) (omega arith)
  where
    from : (m : ℕ) → ((x : ℕ) → m ≤ x → x < n → S x ≡ false) → m ≤ n → LastMember n (last_member n n S) S
    from zero h l = rw (last_member_none n n S (λ x lx. h x (omega arith) lx)) (record { inside = λ k. absurd (omega arith); last = λ k. absurd (omega arith); no_member = λ k x lx. h x (omega arith) lx })
    from (suc m) h l = elim (true? (S m)) [
      | yes e ↦ rw (last_member_is n n m S (omega arith) e (λ x lx hx. h x (omega arith) hx))
          (record { inside = λ k. e; last = λ k x lx hx. h x (omega arith) hx; no_member = λ k. absurd (omega arith) })
      | no ne ↦ from m (λ x lx hx. elim (ℕ_discrete x m) [ yes z ↦ rw z (not_true (S m) ne) | no nz ↦ h x (omega arith) hx ]) (omega arith)
    ]

-- ---- sets that grow

pub nothing_in : (n : ℕ) (S : Set) → # n S ≡ 0 → (x : ℕ) → x < n → x ∈ S → ⊥
nothing_in n S e x l m = omega (arith, #-⊖ n S x l m)

-- there is nothing in the set with no column
pub nothing_in_none : (S : Set) → S ≡ none → (x : ℕ) → x ∈ S → ⊥
nothing_in_none S e x m = cc (m, ap (λ (T : Set). T x) e)

-- a union with something new is larger
pub union_more : (n : ℕ) (S T : Set) → # n (T ∩ ∁ S) ≢ 0 → # n S < # n (S ∪ T)
union_more n S T h =
    let w : Some n (λ j. j ∈ T ∩ ∁ S) = #-pick n (T ∩ ∁ S) (omega arith) in
    let new : w.0 ∈ T = and_left (T w.0) (not (S w.0)) w.2 in
    #-strict n S (S ∪ T) (λ x l m. or_left (S x) (T x) m) w.0 w.1 (or_right (S w.0) (T w.0) new)
    (not_both (S w.0) (and_right (T w.0) (not (S w.0)) w.2))

-- ---- all columns below n

pub upto_iff : (n x : ℕ) → n ≤ width → (x ∈ upto n → x < n) × (x < n → x ∈ upto n)
unfolding upto_in
upto_iff n x h = (λ e. ltb-true x n (and_left (ltb x n) (ltb x width) e), λ l. and_in (lt-ltb x n l) (lt-ltb x width (omega arith)))
