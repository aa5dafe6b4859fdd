-- What the code's arrays mean while the degree is sought. Definitions only.
use Rattle.format.specs.Refused.{refusal_number}
use Rattle.format.specs.declared.refusals.Refusal.{Refusal}
use Rattle.std.specs.Prelude.{ℕ, ◌⊎◌, ◌+◌, ◌*◌, ◌≤◌, ◌<◌, ◌≡◌, ◌≢◌, Bool, true, not, ◌&&◌, ◌||◌, cond, List, eqb, leb, length, get_or}
use Rattle.limits.specs.Limits.{most_columns}
use Rattle.residue.specs.Arithmetic.{is_prime}
use Rattle.counting.specs.Sets.{Set, Some, all, ◌∈◌}
use Rattle.columns.specs.Columns.{members, within}
use Rattle.rank.specs.Modulus.{modulus, field_of}
use Rattle.rank.specs.ListedModel.{constant_at, parameter_at}
use Rattle.rank.specs.Layered.Model.{Model}
use Rattle.rank.specs.Layered.Rank.{rank}
use Rattle.degrees.specs.Degrees.{listed_powers}
use Rattle.degrees.specs.Dynamics.{Dynamic, dynamic_modulo, layered}
use Rattle.degrees.specs.Levels.{AfterRounds, tight}
use Rattle.degree.specs.Answers.{most_power}

-- t is the largest f x of the columns that S has below n; 0 where that is 0 or there are none
pub record Top (n : ℕ) (S : ℕ → Type 0) (f : ℕ → ℕ) (t : ℕ) : Type 0 where
  pub bounds : (x : ℕ) → x < n → S x → f x ≤ t
  pub reached : 0 < t → Some n (λ x. S x × (f x ≡ t))

-- the top of each row over a set of columns: of the constants that are not 0, by the weights of their columns; and of the parameters in the set, by
-- their powers and heights
pub record Tops (n a b : ℕ) (cs ws pp : List ℕ) (set : Set) (weights heights tops : List ℕ) : Type 0 where
  pub constants : (h : ℕ) → h < a → Top n (λ x. get_or cs (h * n + x) 0 ≢ 0) (λ x. get_or weights x 0) (get_or tops h 0)
  pub parameters : (r : ℕ) → r < b
      → Top n (λ x. (x ∈ members (get_or ws r 0)) × (x ∈ set)) (λ x. get_or pp (r * n + x) 0 + get_or heights x 0) (get_or tops (a + r) 0)

-- t is that of row q, of both kinds
abbrev pub LineTop : (n a : ℕ) (cs ws pp : List ℕ) (set : Set) (weights heights : List ℕ) (q t : ℕ) → Type 0
LineTop n a cs ws pp set weights heights q t =
    (q < a → Top n (λ x. get_or cs (q * n + x) 0 ≢ 0) (λ x. get_or weights x 0) t)
    × ((r : ℕ) → q ≡ a + r → Top n (λ x. (x ∈ members (get_or ws r 0)) × (x ∈ set)) (λ x. get_or pp (r * n + x) 0 + get_or heights x 0) t)

-- the rows of both kinds, a and b of them, with their powers; and weights and heights of the columns
pub record Lines (n a b : ℕ) (cs ws pp weights heights : List ℕ) : Type 0 where
  pub columns : n ≤ most_columns
  pub lines : a + b ≤ most_columns
  pub constants_lent : a * n ≤ length cs
  pub rows_within : (r : ℕ) → r < b → within n (get_or ws r 0) ≡ true
  pub powers_lent : b * n ≤ length pp
  pub weights_lent : n ≤ length weights
  pub heights_lent : n ≤ length heights
  pub heights_low : (x : ℕ) → x < n → get_or heights x 0 ≤ 60000

-- a row of parameters, whose powers stand from a place on, below the heights of its columns
pub record ParameterRow (n : ℕ) (row from : ℕ) (pp heights : List ℕ) : Type 0 where
  pub columns : n ≤ most_columns
  pub row_within : within n row ≡ true
  pub powers_lent : from + n ≤ length pp
  pub heights_lent : n ≤ length heights
  pub heights_low : (x : ℕ) → x < n → get_or heights x 0 ≤ 60000

-- the weights of columns: their powers and heights on a set, and 0 elsewhere
abbrev pub Weighed : (n : ℕ) (set : Set) (powers heights weights : List ℕ) → Type 0
Weighed n set powers heights weights = (x : ℕ) → x < n → get_or weights x 0 ≡ cond (set x) (get_or powers x 0 + get_or heights x 0) 0

-- a row of this level touches the set over which it has this top
unfoldable pub touches : (level top : ℕ) → Bool
touches level top = not (eqb top 0) && eqb top level

-- the heights can be raised so far: a row that does not touch the set, and is not without entries there, stays below its level
pub record Rise (lines : ℕ) (levels tops : List ℕ) (rise : ℕ) : Type 0 where
  pub some : 1 ≤ rise
  pub room : (q : ℕ) → q < lines → 0 < get_or tops q 0 → get_or tops q 0 < get_or levels q 0 → get_or tops q 0 + rise ≤ get_or levels q 0

-- the levels of the rows that touch the set have been raised,
pub record LevelsRaised (lines : ℕ) (tops : List ℕ) (rise : ℕ) (levels levels' : List ℕ) : Type 0 where
  pub same_length : length levels' ≡ length levels
  pub each : (q : ℕ) → q < lines → get_or levels' q 0 ≡ cond (touches (get_or levels q 0) (get_or tops q 0)) (get_or levels q 0 + rise) (get_or levels q 0)

-- and the heights on it
pub record HeightsRaised (n : ℕ) (set : Set) (rise : ℕ) (heights heights' : List ℕ) : Type 0 where
  pub same_length : length heights' ≡ length heights
  pub each : (x : ℕ) → x < n → get_or heights' x 0 ≡ cond (set x) (get_or heights x 0 + rise) (get_or heights x 0)

-- the tight entries of a row of constants that stands from a place on have been written there, and nothing else
pub record TightRow (n from level : ℕ) (cs weights out out' : List ℕ) : Type 0 where
  pub same_length : length out' ≡ length out
  pub done : (x : ℕ) → x < n → get_or out' (from + x) 0 ≡ cond (eqb (get_or weights x 0) level) (get_or cs (from + x) 0) 0
  pub before : (k : ℕ) → k < from → get_or out' k 0 ≡ get_or out k 0
  pub behind : (k : ℕ) → from + n ≤ k → get_or out' k 0 ≡ get_or out k 0

-- the columns of a row of parameters whose powers and heights are the level
abbrev pub AtLevel : (n from level : ℕ) (pp heights : List ℕ) (row kept : Set) → Type 0
AtLevel n from level pp heights row kept = (x : ℕ) → x < n → kept x ≡ (row x && eqb (get_or pp (from + x) 0 + get_or heights x 0) level)

-- the tight entries: of the constants,
abbrev pub TightConstants : (n a : ℕ) (cs weights levels out : List ℕ) → Type 0
TightConstants n a cs weights levels out =
    (h x : ℕ) → h < a → x < n → get_or out (h * n + x) 0 ≡ cond (eqb (get_or weights x 0) (get_or levels h 0)) (get_or cs (h * n + x) 0) 0

-- and of the parameters
abbrev pub TightParameters : (n a b : ℕ) (ws pp heights levels out : List ℕ) → Type 0
TightParameters n a b ws pp heights levels out =
    (r x : ℕ) → r < b → x < n
    → members (get_or out r 0) x ≡ (members (get_or ws r 0) x && eqb (get_or pp (r * n + x) 0 + get_or heights x 0) (get_or levels (a + r) 0))

-- heights from 1 to 16
abbrev pub Low : (n : ℕ) → List ℕ → Type 0
Low n heights = (x : ℕ) → x < n → (1 ≤ get_or heights x 0) × (get_or heights x 0 ≤ 16)

-- no power that is read is above the largest, by lists
unfoldable pub lists_low : (n a b : ℕ) (ws rp cp pp : List ℕ) → Bool
lists_low n a b ws rp cp pp =
    all a (λ h. leb (get_or rp h 0) most_power)
    && all n (λ x. leb (get_or cp x 0) most_power)
    && all b (λ r. all n (λ x. not (parameter_at ws r x) || leb (get_or pp (r * n + x) 0) most_power))

-- the largest level and height at the start
abbrev pub first_most : ℕ
first_most = 31

-- the model with its powers: the constants Q, and all else in lists
abbrev pub model_with : (p n a b : ℕ) (Q : ℕ → ℕ → (field_of p).F) (ws rp cp pp : List ℕ) → Dynamic
model_with p n a b Q ws rp cp pp = dynamic_modulo (modulus p).0 (modulus p).1 n a b Q (parameter_at ws) (listed_powers n rp cp pp)

-- what the descent needs of its numbers and areas: as many rows as columns, and no power above the largest where it is read
pub record Ready (p n a b : ℕ) (cs ws rp cp pp : List ℕ) : Type 0 where
  pub prime : is_prime p ≡ true
  pub p_small : p < 65536
  pub columns : n ≤ most_columns
  pub square : a + b ≡ n
  pub constants_lent : a * n ≤ length cs
  pub constants_below : (k : ℕ) → k < a * n → get_or cs k 0 < p
  pub rows_lent : b ≤ length ws
  pub rows_within : (r : ℕ) → r < b → within n (get_or ws r 0) ≡ true
  pub row_powers_lent : a ≤ length rp
  pub column_powers_lent : n ≤ length cp
  pub powers_lent : b * n ≤ length pp
  pub row_powers_low : (h : ℕ) → h < a → get_or rp h 0 ≤ 15
  pub column_powers_low : (x : ℕ) → x < n → get_or cp x 0 ≤ 15
  pub powers_low : (r x : ℕ) → r < b → x < n → x ∈ members (get_or ws r 0) → get_or pp (r * n + x) 0 ≤ 15

-- the tableau that the constants show
abbrev pub tableau_of : (p n : ℕ) (cs : List ℕ) → ℕ → ℕ → (field_of p).F
tableau_of p n cs = constant_at (modulus p).0 (modulus p).1 n cs

-- the arrays hold a state of the descent, whose rounds have raised by k together
pub record Descending (p n a b : ℕ) (Q : ℕ → ℕ → (field_of p).F) (ws rp cp pp cs levels heights : List ℕ) (k : ℕ) : Type 0 where
  pub ready : Ready p n a b cs ws rp cp pp
  pub full : rank (layered (model_with p n a b Q ws rp cp pp)) ≡ n
  pub after : AfterRounds (model_with p n a b Q ws rp cp pp) first_most k (tableau_of p n cs) (λ q. get_or levels q 0) (λ x. get_or heights x 0)
  pub positive : (x : ℕ) → x < n → 0 < get_or heights x 0
  pub level_count : length levels ≡ most_columns
  pub height_count : length heights ≡ most_columns

-- the tight part of that state
abbrev pub tight_part : (p n a b : ℕ) (Q : ℕ → ℕ → (field_of p).F) (ws rp cp pp cs levels heights : List ℕ) → Model
tight_part p n a b Q ws rp cp pp cs levels heights =
    tight (model_with p n a b Q ws rp cp pp) (tableau_of p n cs) (λ q. get_or levels q 0) (λ x. get_or heights x 0)

-- the constants Q stand in the list, row by row
abbrev pub ConstantsShown : (p n a : ℕ) (Q : ℕ → ℕ → (field_of p).F) (cs : List ℕ) → Type 0
ConstantsShown p n a Q cs = (i x : ℕ) → i < a → x < n → Q i x ≡ tableau_of p n cs i x

-- numbers that can be summed: the powers of rows, the levels and the heights
pub record Summed (n a : ℕ) (rp levels heights : List ℕ) : Type 0 where
  pub columns : n ≤ most_columns
  pub rows : a ≤ most_columns
  pub powers_lent : a ≤ length rp
  pub powers_low : (h : ℕ) → h < a → get_or rp h 0 ≤ 15
  pub levels_lent : n ≤ length levels
  pub levels_low : (q : ℕ) → q < n → get_or levels q 0 ≤ 65535
  pub heights_lent : n ≤ length heights
  pub heights_low : (x : ℕ) → x < n → get_or heights x 0 ≤ 65535

-- the number k is that of the refusal, which is of p or of the sizes
pub record FirstRefusal (e : Refusal) (k : ℕ) : Type 0 where
  pub is_number : refusal_number e ≡ k
  pub is_first : (k ≡ 3) ⊎ (k ≡ 4)
