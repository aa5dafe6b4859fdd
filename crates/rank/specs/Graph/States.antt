-- Which column owns which row: states, placed and terminal columns, arcs; a column that moves to a free row, and one that enters. Assumes nothing.
use Rattle.std.specs.Prelude.{ℕ, ◌≤◌, ◌<◌, Bool, true, false, ◌≢◌, ◌↔◌, ◌≡◌}
use Rattle.std.proofs.Math.Bool.{decide, decide_iff}
use Rattle.std.proofs.Common.{sym, ◌∙◌, ap, arith}
use Rattle.std.proofs.Math.Decide.{ℕ_discrete, dec_le, dec_lt}
use Rattle.counting.specs.Bools.{true?}
use Rattle.counting.specs.Sets.{Set, Some, ◌∈◌}
use Rattle.counting.specs.Counts.{both?, some?}

-- n columns, N rows; a row whose owner is not below n is free
pub record State (n N : ℕ) : Type 0 where
  pub touch : ℕ → ℕ → Bool
  pub owner : ℕ → ℕ
  pub touches_owner : (q : ℕ) → q < N → owner q < n → touch q (owner q) ≡ true
  pub owns_one : (q r : ℕ) → q < N → r < N → owner q < n → owner q ≡ owner r → q ≡ r

-- column x is placed: it owns a row
abbrev pub Placed : {n N : ℕ} → State n N → ℕ → Type 0
Placed {n} {N} s x = Some N (λ q. s.owner q ≡ x)

-- column x is terminal: it touches a free row
abbrev pub Terminal : {n N : ℕ} → State n N → ℕ → Type 0
Terminal {n} {N} s x = Some N (λ q. (n ≤ s.owner q) × (s.touch q x ≡ true))

-- an arc from x to y: x touches a row that y owns
abbrev pub Arc : {n N : ℕ} → State n N → ℕ → ℕ → Type 0
Arc {n} {N} s x y = (y < n) × Some N (λ q. (s.touch q x ≡ true) × (s.owner q ≡ y))

pub placed? : {n N : ℕ} (s : State n N) (x : ℕ) → Dec (Placed s x)
placed? {n} {N} s x = some? N (λ q. s.owner q ≡ x) (λ q. ℕ_discrete (s.owner q) x)

pub terminal? : {n N : ℕ} (s : State n N) (x : ℕ) → Dec (Terminal s x)
terminal? {n} {N} s x = some? N (λ q. (n ≤ s.owner q) × (s.touch q x ≡ true)) (λ q. both? (dec_le n (s.owner q)) (true? (s.touch q x)))

pub arc? : {n N : ℕ} (s : State n N) (x y : ℕ) → Dec (Arc s x y)
arc? {n} {N} s x y = both? (dec_lt y n) (some? N (λ q. (s.touch q x ≡ true) × (s.owner q ≡ y)) (λ q. both? (true? (s.touch q x)) (ℕ_discrete (s.owner q) y)))

-- the placed columns, as a set
pub placed_of : {n N : ℕ} → State n N → Set
placed_of s x = decide (placed? s x)

pub placed_iff : {n N : ℕ} (s : State n N) (x : ℕ) → (x ∈ placed_of s) ↔ Placed s x
unfolding placed_of
placed_iff s x = decide_iff (placed? s x)

-- column t moves from row q' to the free row q: a pivot at (q, t) changes only the columns that touch q
pub record Moved {n N : ℕ} (s s' : State n N) (t q q' : ℕ) : Type 0 where
  pub column : t < n
  pub new_row : q < N
  pub new_free : n ≤ s.owner q
  pub old_row : q' < N
  pub old_owned : s.owner q' ≡ t
  pub now_owned : s'.owner q ≡ t
  pub now_free : n ≤ s'.owner q'
  pub others : (r : ℕ) → r < N → r ≢ q → r ≢ q' → s'.owner r ≡ s.owner r
  pub untouched : (z : ℕ) → s.touch q z ≡ false → (r : ℕ) → r < N → s'.touch r z ≡ s.touch r z

-- the two states place the same columns
abbrev pub SamePlaced : {n N : ℕ} → State n N → State n N → Type 0
SamePlaced {n} s s' = (z : ℕ) → z < n → Placed s z ↔ Placed s' z

-- a move keeps the placed columns
pub moved_placed : {n N : ℕ} (s s' : State n N) (t q q' : ℕ) → Moved s s' t q q' → SamePlaced s s'
moved_placed {n} {N} s s' t q q' m z l = (there, back)
  where
    there : Placed s z → Placed s' z
    there w = elim (ℕ_discrete z t) [
      | yes e ↦ (q, m.new_row, cc)
      | no ne ↦ (w.0, w.1, m.others w.0 w.1 (λ e. omega (arith, ap s.owner e)) (λ e. ne (cc)) ∙ w.2)
    ]

    back : Placed s' z → Placed s z
    back w = elim (ℕ_discrete w.0 q) [
      | yes e ↦ (q', m.old_row, cc)
      | no nq ↦ elim (ℕ_discrete w.0 q') [
        | yes e ↦ absurd (omega (arith, ap s'.owner e))
        | no nq' ↦ (w.0, w.1, sym (m.others w.0 w.1 nq nq') ∙ w.2)
      ]
    ]

-- an unplaced column x enters the free row q
pub record Entered {n N : ℕ} (s s' : State n N) (x q : ℕ) : Type 0 where
  pub column : x < n
  pub row : q < N
  pub was_free : n ≤ s.owner q
  pub now_owned : s'.owner q ≡ x
  pub others : (r : ℕ) → r < N → r ≢ q → s'.owner r ≡ s.owner r
