-- Injections between sets, as relations: they compare counts, and one that misses a member compares them strictly. Assumes nothing.
use Rattle.std.specs.Prelude.{ℕ, zero, suc, ◌+◌, ◌≤◌, ◌<◌, ◌≡◌, refl, Bool}
use Rattle.std.proofs.Common.{◌∙◌, ap, arith}
use Rattle.counting.specs.Sets.{Set, ◌∈◌, ◌⊆◌, indicator, #, Some, touching}
use Rattle.counting.specs.Bools.{true?, not_true}
use Rattle.counting.specs.Counts.{◌⊖◌, ⊖-other, #-⊖, Touching, both?, some?, touching_iff}

-- an injection, as a relation: every member of S (below n) is related to a member of T (below m),
-- and no two members of S are related to the same one
pub record Injects (n : ℕ) (S : Set) (m : ℕ) (T : Set) (R : ℕ → ℕ → Type 0) : Type 0 where
  pub total : (i : ℕ) → i < n → i ∈ S → Some m (λ j. (j ∈ T) × R i j)
  pub one_one : (i i' j : ℕ) → i < n → i' < n → j < m → R i j → R i' j → i ≡ i'

-- if no member of S is related to j then the injection goes into T ⊖ j
avoid : {n m : ℕ} {S T : Set} {R : ℕ → ℕ → Type 0} (j : ℕ) → Injects n S m T R
    → ((i : ℕ) → i < n → i ∈ S → R i j → ⊥) → Injects n S m (T ⊖ j) R
avoid {n} {m} {S} {T} {R} j f h = record { total = tot; one_one = f.one_one }
  where
    tot : (i : ℕ) → i < n → i ∈ S → Some m (λ k. (k ∈ T ⊖ j) × R i k)
    tot i l s =
        let t : Some m (λ k. (k ∈ T) × R i k) = f.total i l s in
        (t.0, t.1, (⊖-other T j t.0 (λ e. h i l s (rw e at t.2.1)) ∙ t.2.0, t.2.1))

pub inj_count : (n m : ℕ) (S T : Set) (R : ℕ → ℕ → Type 0) → Injects n S m T R → # n S ≤ # m T
unfolding # indicator
inj_count zero m S T R f = omega arith
inj_count (suc n) m S T R f = elim (true? (S n)) [ yes s ↦ have s (λ U g. inj_count n m S U R g) | no ns ↦ omega (arith, ap indicator (not_true (S n) ns), inj_count n m S T R less) ]
  where
    less : Injects n S m T R
    less = record { total = λ i l s. f.total i (omega arith) s; one_one = λ i i' j l l' lj r r'. f.one_one i i' j (omega arith) (omega arith) lj r r' }

    have : n ∈ S → ((U : Set) → Injects n S m U R → # n S ≤ # m U) → indicator (S n) + # n S ≤ # m T
    have s ih =
        let t : Some m (λ j. (j ∈ T) × R n j) = f.total n (omega arith) s in
        let j : ℕ = t.0 in
        let g : Injects n S m (T ⊖ j) R = avoid j less (λ i l si r. omega (arith, f.one_one i n j (omega arith) (omega arith) t.1 r t.2.1)) in
        omega (arith, ap indicator s, #-⊖ m T j t.1 t.2.0, ih (T ⊖ j) g)

-- an injection that misses a member is strict
pub inj_miss : (n m : ℕ) (S T : Set) (R : ℕ → ℕ → Type 0) → Injects n S m T R
    → (j : ℕ) → j < m → j ∈ T → ((i : ℕ) → i < n → i ∈ S → R i j → ⊥) → # n S < # m T
inj_miss n m S T R f j l t h = omega (arith, #-⊖ m T j l t, inj_count n m S (T ⊖ j) R (avoid j f h))

-- where T has no more members than S, each member of T is related to one of S
pub inj_onto : (n m : ℕ) (S T : Set) (R : ℕ → ℕ → Type 0) → Injects n S m T R → ((i j : ℕ) → Dec (R i j)) → # m T ≤ # n S
    → (j : ℕ) → j < m → j ∈ T → Some n (λ i. (i ∈ S) × R i j)
inj_onto n m S T R f d e j l t = elim (some? n (λ i. (i ∈ S) × R i j) (λ i. both? (true? (S i)) (d i j))) [
  | yes w ↦ w
  | no nw ↦ absurd (omega (arith, inj_miss n m S T R f j l t (λ i li s r. nw (i, li, (s, r)))))
]

pub #-mono : (n : ℕ) (S T : Set) → ((i : ℕ) → i < n → i ∈ S → i ∈ T) → # n S ≤ # n T
#-mono n S T h = inj_count n n S T (λ i j. i ≡ j) (record { total = λ i l s. (i, l, (h i l s, refl)); one_one = λ i i' j l l' lj r r'. cc })

pub #-strict : (n : ℕ) (S T : Set) → ((i : ℕ) → i < n → i ∈ S → i ∈ T) → (j : ℕ) → j < n → j ∈ T → (j ∈ S → ⊥) → # n S < # n T
#-strict n S T h j l t ns = inj_miss n n S T (λ i j. i ≡ j) (record { total = λ i l s. (i, l, (h i l s, refl)); one_one = λ i i' j l l' lj r r'. cc }) j l t
    (λ i li s e. ns (rw e at s))

-- more columns are touched by more rows
pub touching_mono : (n m : ℕ) (touch : ℕ → ℕ → Bool) (I J : Set) → I ⊆ J → # m (touching n touch I) ≤ # m (touching n touch J)
touching_mono n m touch I J s = #-mono m (touching n touch I) (touching n touch J)
    (λ q l e. let w : Touching n touch I q = (touching_iff n touch I q).0 e in (touching_iff n touch J q).1 (w.0, w.1, (s w.0 w.2.0, w.2.1)))
