-- Laws about reading a set of columns off the code's arrays, row by row. Assumes nothing.
use Prim.Native.Nat.{ℕ, ◌+◌, ◌-◌, ◌≤◌, ◌<◌}
use mathlib.Core.Path.{◌≡◌, sym, ap, ◌∙◌}
use mathlib.Core.Logic.{◌≢◌, inl, inr}
use mathlib.Core.Bool.{Bool, true, false, not, cond, true≢false, false≢true}
use mathlib.Core.List.{List}
use native.Mathlib.Omega.{arith}
use native.Mathlib.Decide.{ℕ_discrete, dec_lt}
use lib.ListN.{get_or}
use lib.Dec.{eqb}
use borrow.Author.Tests.{eq-eqb, ne_eqb, lt-ltb, le-ltb}
use Rattle.counting.specs.Bools.{or_left, or_right, or_split}
use Rattle.counting.specs.Sets.{Set, ◌∈◌, ◌∪◌, ◌⊆◌}
use Rattle.counting.specs.Counts.{touching_iff}
use Rattle.columns.specs.Columns.{width, members, none, inserted}
use Rattle.columns.specs.ColumnSets.{rows_touching}
use Rattle.columns.specs.Words.SetLaws.{inserted_same, inserted_old, inserted_split}
use Rattle.exchange.specs.Code.Cells.{cell}
use Rattle.exchange.specs.Code.Scanning.{touched, RowRead, RowsRead, Owners, AllOwned}

pub touched_constant : (a : ℕ) (t ws : List ℕ) (q x : ℕ) → q < a → touched a t ws q x ≡ not (eqb (cell t q x) 0)
unfolding touched
touched_constant a t ws q x l = ap (λ b. cond b (not (eqb (cell t q x) 0)) (members (get_or ws (q - a) 0) x)) (lt-ltb q a l)

pub touched_parameter : (a : ℕ) (t ws : List ℕ) (q x : ℕ) → a ≤ q → touched a t ws q x ≡ members (get_or ws (q - a) 0) x
unfolding touched
touched_parameter a t ws q x l = ap (λ b. cond b (not (eqb (cell t q x) 0)) (members (get_or ws (q - a) 0) x)) (le-ltb q a l)

-- a constant row touches the columns where it is not zero, and no others
pub touched_nonzero : (a : ℕ) (t ws : List ℕ) (q x : ℕ) → q < a → cell t q x ≢ 0 → touched a t ws q x ≡ true
touched_nonzero a t ws q x l nz = touched_constant a t ws q x l ∙ ap not (ne_eqb (cell t q x) 0 nz)

pub not_touched_zero : (a : ℕ) (t ws : List ℕ) (q x : ℕ) → q < a → cell t q x ≡ 0 → touched a t ws q x ≡ true → ⊥
not_touched_zero a t ws q x l z e = true≢false (sym e ∙ touched_constant a t ws q x l ∙ ap not (eq-eqb (cell t q x) 0 z))

-- parameter row r touches the columns of its number; where it touches no column of a set, none of these is in the set
pub touched_row : (a : ℕ) (t ws : List ℕ) (r x : ℕ) → x ∈ members (get_or ws r 0) → touched a t ws (a + r) x ≡ true
touched_row a t ws r x e = let at : a + r - a ≡ r = omega arith in touched_parameter a t ws (a + r) x (omega arith) ∙ ap (λ (k : ℕ). members (get_or ws k 0) x) at ∙ e

pub not_touched_apart : (a : ℕ) (t ws : List ℕ) (q : ℕ) (F : Set) (x : ℕ) → a ≤ q → rows_touching ws F (q - a) ≡ false → x < width → x ∈ F
    → touched a t ws q x ≡ true → ⊥
not_touched_apart a t ws q F x l z w e d =
    true≢false (sym ((touching_iff width (λ r. members (get_or ws r 0)) F (q - a)).1 (x, w, (e, sym (touched_parameter a t ws q x l) ∙ d))) ∙ z)

module _ (n N : ℕ) (tch : ℕ → ℕ → Bool) (own : ℕ → ℕ) where
  pub rows_kept : (next more : Set) (x l m : ℕ) → next ⊆ more → RowsRead n N tch own next x l m → RowsRead n N tch own more x l m
  rows_kept next more x l m h r k lk mk e = let w : (own k < n) × (own k ∈ next) = r k lk mk e in (w.0, h (own k) w.1)

  -- one row more, and those between that do not touch x
  pub rows_past : (next : Set) (x l k m : ℕ) → RowRead n N tch own next x l → ((i : ℕ) → l < i → i < k → tch i x ≡ true → ⊥) → RowsRead n N tch own next x k m → RowsRead n N tch own next x l m
  rows_past next x l k m h no_touch r i li mi e = elim (ℕ_discrete i l) [
    | yes d ↦ rw d (h (rw d at e))
    | no nd ↦ elim (dec_lt i k) [ yes lk ↦ absurd (no_touch i (omega arith) lk e) | no nk ↦ r i (omega arith) mi e ]
  ]

  -- one row more
  pub rows_down : (next : Set) (x l m : ℕ) → RowRead n N tch own next x l → RowsRead n N tch own next x (l + 1) m → RowsRead n N tch own next x l m
  rows_down next x l m h r = rows_past next x l (l + 1) m h (λ i li ki. absurd (omega arith)) r

  pub owners_none : (front : Set) → Owners n N tch own front none
  owners_none front y e = absurd (false≢true e)

  pub owners_more : (front next : Set) (x q : ℕ) → Owners n N tch own front next → x ∈ front → q < N → tch q x ≡ true → own q < n → Owners n N tch own front (inserted next (own q))
  owners_more front next x q h i l e o y d = elim (inserted_split next (own q) y d) [
    | inl w ↦ record { column = x; row = q; inside = i; below = l; touches = e; owns = sym w; taken = omega arith }
    | inr m ↦ h y m
  ]

  -- what two readings say together
  pub owned_both : (front : Set) (a : ℕ) (more next : Set) → AllOwned n N tch own front a N more → AllOwned n N tch own front 0 a next → AllOwned n N tch own front 0 N (more ∪ next)
  owned_both front a more next h k = record {
    rows = λ x e i li mi t. elim (dec_lt i a) [
      | yes low ↦ let w : (own i < n) × (own i ∈ next) = k.rows x e i li low t in (w.0, or_right (more (own i)) (next (own i)) w.1)
      | no high ↦ let w : (own i < n) × (own i ∈ more) = h.rows x e i (omega arith) mi t in (w.0, or_left (more (own i)) (next (own i)) w.1)
    ];
    from = λ y e. elim (or_split (more y) (next y) e) [ inl o ↦ h.from y o | inr f ↦ k.from y f ];
  }

  -- nothing has been read
  pub owned_start : (front : Set) (m : ℕ) (next : Set) → next ≡ none → AllOwned n N tch own front m m next
  owned_start front m next e = record { rows = λ x i k l h. absurd (omega arith); from = rw e (owners_none front) }

  -- row l has been read besides, which touches no column of front and so do those up to k
  pub owned_past : (front next : Set) (l k m : ℕ) → ((i x : ℕ) → l ≤ i → i < k → x ∈ front → tch i x ≡ true → ⊥) → AllOwned n N tch own front k m next → AllOwned n N tch own front l m next
  owned_past front next l k m apart h = record {
    rows = λ x e i li mi t. elim (dec_lt i k) [ yes lk ↦ absurd (apart i x li lk e t) | no nk ↦ h.rows x e i (omega arith) mi t ];
    from = h.from;
  }

  -- or touches x in front, and is owned
  pub owned_more : (front next : Set) (x q m : ℕ) → n ≤ width → x ∈ front → q < N → tch q x ≡ true → own q < n → AllOwned n N tch own front (q + 1) m next
      → AllOwned n N tch own front q m (inserted next (own q))
  owned_more front next x q m hn i l e o h = record {
    rows = λ z f. rows_down (inserted next (own q)) z q m (λ t. (o, inserted_same next (own q) (omega arith)))
        (rows_kept next (inserted next (own q)) z (q + 1) m (inserted_old next (own q)) (h.rows z f));
    from = owners_more front next x q h.from i l e o;
  }
