-- Closed sets of columns: no arc leaves them and none of their columns is terminal. The rows that touch such a set are as many as its placed columns.
-- Assumes nothing.
use Rattle.std.specs.Prelude.{ℕ, ◌+◌, ◌-◌, ◌<◌, Bool, true, false, not, ◌&&◌, ◌≡◌, refl}
use Rattle.std.proofs.lemmas.Bool.{false≢true}
use Rattle.std.proofs.Common.{sym, ◌∙◌, arith}
use Rattle.std.proofs.Math.Decide.{dec_lt}
use Rattle.counting.specs.Bools.{and_in, and_left, and_right}
use Rattle.counting.specs.Sets.{#, Set, Some, ◌∈◌, ◌∩◌, touching, ∁}
use Rattle.counting.specs.Counts.{#-ext, #-split, #-∁, Touching, touching_iff}
use Rattle.counting.specs.Injections.{Injects, inj_count}
use Rattle.rank.specs.Graph.States.{Arc, Placed, State, Terminal, placed_iff, placed_of, placed?}

-- K has no terminal column, and no arc leaves it
pub record Closed {n N : ℕ} (s : State n N) (K : Set) : Type 0 where
  pub no_terminal : (x : ℕ) → x < n → x ∈ K → Terminal s x → ⊥
  pub closed : (x y : ℕ) → x < n → x ∈ K → Arc s x y → y ∈ K

-- column x owns row q
abbrev Owns : {n N : ℕ} → State n N → ℕ → ℕ → Type 0
Owns s x q = s.owner q ≡ x

-- the placed columns of any K inject into the rows that touch K
pub placed_in_rows : {n N : ℕ} (s : State n N) (K : Set) → Injects n (K ∩ placed_of s) N (touching n s.touch K) (Owns s)
placed_in_rows {n} {N} s K = record { total = tot; one_one = λ x x' q l l' lq o o'. cc }
  where
    tot : (x : ℕ) → x < n → x ∈ K ∩ placed_of s → Some N (λ q. (q ∈ touching n s.touch K) × Owns s x q)
    tot x l h =
        let w : Placed s x = (placed_iff s x).0 (and_right (K x) (placed_of s x) h) in
        let t : s.touch w.0 x ≡ true = cc (s.touches_owner w.0 w.1 (omega arith)) in
        (w.0, w.1, ((touching_iff n s.touch K w.0).1 (x, l, (and_left (K x) (placed_of s x) h, t)), w.2))

-- the rows that touch a closed K inject into its placed columns
rows_in_placed : {n N : ℕ} (s : State n N) (K : Set) → Closed s K → Injects N (touching n s.touch K) n (K ∩ placed_of s) (λ q x. Owns s x q)
rows_in_placed {n} {N} s K c = record { total = tot; one_one = λ q q' x l l' lx o o'. s.owns_one q q' l l' (omega arith) (cc) }
  where
    tot : (q : ℕ) → q < N → q ∈ touching n s.touch K → Some n (λ x. (x ∈ K ∩ placed_of s) × Owns s x q)
    tot q l h =
        let w : Touching n s.touch K q = (touching_iff n s.touch K q).0 h in
        elim (dec_lt (s.owner q) n) [
          | yes lo ↦ (s.owner q, lo, (and_in (c.closed w.0 (s.owner q) w.1 w.2.0 (lo, (q, l, (w.2.1, refl)))) ((placed_iff s (s.owner q)).1 (q, l, refl)), refl))
          | no nlo ↦ absurd (c.no_terminal w.0 w.1 w.2.0 (q, l, (omega arith, w.2.1)))
        ]

-- so they are as many
pub closed_count : {n N : ℕ} (s : State n N) (K : Set) → Closed s K → # N (touching n s.touch K) ≡ # n (K ∩ placed_of s)
closed_count {n} {N} s K c = omega (arith, inj_count n N (K ∩ placed_of s) (touching n s.touch K) (Owns s) (placed_in_rows s K), inj_count N n (touching n s.touch K) (K ∩ placed_of s) (λ q x. Owns s x q) (rows_in_placed s K c))

absorb : (a b : Bool) → (a ≡ false → b ≡ true) → (not a && b) ≡ not a
absorb true b h = refl
absorb false b h = h refl

-- all unplaced columns are in K
abbrev pub UnplacedIn : {n N : ℕ} → State n N → Set → Type 0
UnplacedIn {n} {N} s K = (x : ℕ) → x < n → (Placed s x → ⊥) → x ∈ K

-- outside K every column is placed
rest_placed : {n N : ℕ} (s : State n N) (K : Set) → UnplacedIn s K → # n (∁ K ∩ placed_of s) ≡ # n (∁ K)
rest_placed {n} {N} s K u = #-ext n (∁ K ∩ placed_of s) (∁ K) same
  where
    same : (x : ℕ) → x < n → (not (K x) && placed_of s x) ≡ not (K x)
    same x l = absorb (K x) (placed_of s x) (λ f. elim (placed? s x) [ yes p ↦ (placed_iff s x).1 p | no np ↦ absurd (false≢true (sym f ∙ u x l np)) ])

pub closed_total : {n N : ℕ} (s : State n N) (K : Set) → Closed s K → UnplacedIn s K → # N (touching n s.touch K) + (n - # n K) ≡ # n (placed_of s)
closed_total {n} {N} s K c u = omega (arith, closed_count s K c, rest_placed s K u, #-split n K (placed_of s), #-∁ n K)

-- what can be reached from the unplaced columns
pub data Reached {n N : ℕ} (s : State n N) : ℕ → Type 0 where
  start : {x : ℕ} → x < n → (Placed s x → ⊥) → Reached s x
  along : {x y : ℕ} → Reached s x → Arc s x y → Reached s y

pub reached_below : {n N : ℕ} {s : State n N} {x : ℕ} → Reached s x → x < n
reached_below (start l u) = l
reached_below (along r a) = a.0

pub reached_in : {n N : ℕ} (s : State n N) (K : Set) → UnplacedIn s K → ((x y : ℕ) → x < n → x ∈ K → Arc s x y → y ∈ K) → {x : ℕ} → Reached s x → x ∈ K
reached_in s K u c (start {x} l h) = u x l h
reached_in s K u c (along {x} {y} r a) = c x y (reached_below r) (reached_in s K u c r) a
