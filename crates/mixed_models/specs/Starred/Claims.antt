-- A claim about a layered model, with evidence that a computation tests: a legal assignment of the rank's size that places the placed set, pivots that
-- bound the sum of the short set, for each short column a legal assignment of that size without it, and for each column not placed a set that shows
-- why. What the tests show stands in `Checked`. Definitions only; assumes nothing.
use Rattle.std.specs.Prelude.{ℕ, ◌+◌, Bool, true, false, not, ◌&&◌, ◌||◌, List, [], ◌∷◌}
use Rattle.std.proofs.Math.Bool.{decide, Bool-discrete}
use Rattle.std.proofs.Math.Decide.{ℕ_discrete, dec_le, dec_lt}
use Rattle.counting.specs.Sets.{all, Set, ◌∩◌, ∁, #, touching}
use Rattle.rank.specs.Linear.Kernels.{hits}
use Rattle.rank.specs.Layered.Model.{Model, Seat, out, constant, row, Assignment, placing, same_row, size}
use Rattle.mixed_models.specs.Starred.Lists.{among, seats, all_below_n}
use Rattle.mixed_models.specs.Starred.Pivots.{Pivots, pivoted_tableau, owners, proper, owns}

-- seats, and pivots that show that the constant side is independent
pub record Evidence : Type 0 where
  pub its_seats : List Seat
  pub its_pivots : Pivots

-- column its-column is refused: with columns placed before it, it makes up a set with more columns than rows are left after the pivots
pub record Refusal : Type 0 where
  pub its_column : ℕ
  pub its_set : List ℕ
  pub its_cut : Pivots

-- what is claimed of a model, with the evidence
pub record Claim : Type 0 where
  pub the_rank : ℕ
  pub the_placed : List ℕ
  pub the_short : List ℕ
  pub witness : Evidence
  pub cut : Pivots
  pub spare : List Evidence
  pub refused : List Refusal

-- column u, or one listed before it
unfoldable pub earlier : List ℕ → ℕ → Set
earlier L u y = decide (ℕ_discrete y u) || (decide (dec_lt y u) && among L y)

module _ (M : Model) where
  open M use {K, a, b, n, Q, T, E}

  -- the seat is one that the column may have; own are the columns that the pivots show independent
  unfoldable pub sits : Set → ℕ → Seat → Bool
  sits own x out = true
  sits own x constant = E x && own x
  sits own x (row r) = (E x && decide (dec_lt r b)) && T r x

  -- no two columns are on one row
  unfoldable pub apart : Assignment → Bool
  apart A = all n (λ x. all x (λ y. not (same_row (A y) (A x))))

  -- the seats are a legal assignment
  unfoldable pub sound : Evidence → Bool
  sound e = (all_below_n e.its_seats n && proper K a e.its_pivots Q)
      && (all n (λ x. sits (owns a (owners K e.its_pivots (λ h. n))) x (seats e.its_seats x)) && apart (seats e.its_seats))

  -- the rows that touch J after the pivots l
  unfoldable pub rows_left : Pivots → Set → ℕ
  rows_left l J = # a (touching n (hits K (pivoted_tableau K l Q)) J) + # b (touching n T J)

  -- e places r columns and not x
  unfoldable pub spares : ℕ → ℕ → Evidence → Bool
  spares r x e = (sound e && decide (ℕ_discrete (size M (seats e.its_seats)) r)) && not (placing (seats e.its_seats) x)

  -- one for each column listed
  unfoldable pub spared : ℕ → List ℕ → List Evidence → Bool
  spared r [] es = true
  spared r (x ∷ l) [] = false
  spared r (x ∷ l) (e ∷ es) = spares r x e && spared r l es

  -- I lies in J
  unfoldable pub within_set : Set → Set → Bool
  within_set I J = all n (λ y. not (I y) || J y)

  -- f shows why column u is not placed, where those of L before it are
  unfoldable pub refuses : List ℕ → ℕ → Refusal → Bool
  refuses L u f = (decide (ℕ_discrete u f.its_column) && proper K a f.its_cut Q)
      && (within_set (among f.its_set) (earlier L u) && decide (dec_lt (rows_left f.its_cut (among f.its_set)) (# n (among f.its_set))))

  -- one of them does
  unfoldable pub refused_by : List ℕ → ℕ → List Refusal → Bool
  refused_by L u [] = false
  refused_by L u (f ∷ fs) = refuses L u f || refused_by L u fs

  -- e places exactly the columns of L
  unfoldable pub places_all : List ℕ → Evidence → Bool
  places_all L e = all n (λ x. decide (Bool-discrete (placing (seats e.its_seats) x) (among L x)))

  -- all are offered columns
  unfoldable pub below_all : List ℕ → Bool
  below_all [] = true
  below_all (x ∷ l) = (decide (dec_lt x n) && E x) && below_all l

  -- the test of a claim
  unfoldable pub passes : Claim → Bool
  passes c = sound c.witness
      && (places_all c.the_placed c.witness
      && (decide (ℕ_discrete (# n (among c.the_placed)) c.the_rank)
      && (below_all c.the_placed
      && (below_all c.the_short
      && (proper K a c.cut Q
      && (decide (dec_le (rows_left c.cut (among c.the_short) + # n (∁ (among c.the_short) ∩ E)) c.the_rank)
      && (spared c.the_rank c.the_short c.spare
      && all n (λ u. among c.the_placed u || refused_by c.the_placed u c.refused))))))))
