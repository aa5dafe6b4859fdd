-- The search for all that a column leads to: what has been found, what of it has still to be read, and what a turn does. Assumes nothing.
use Prim.Native.Nat.{ℕ, ◌<◌}
use mathlib.Core.Path.{◌≡◌, refl, sym, ◌∙◌}
use mathlib.Core.Bool.{Bool, true, false, not, ◌||◌}
use mathlib.Core.Logic.{◌⊎◌, inl, inr}
use native.Mathlib.Decide.{ℕ_discrete}
use Rattle.counting.specs.Bools.{true?, and_in, and_left, and_right, or_left, or_right, or_split, not_true, not_both, not_of}
use Rattle.counting.specs.Sets.{Set, ◌∈◌, ◌⊆◌, ◌∩◌, ◌∪◌, ∁, #}
use Rattle.counting.specs.Injections.{#-strict}
use Rattle.columns.specs.Columns.{width, inserted, removed}
use Rattle.columns.specs.Words.SetLaws.{inserted_same, inserted_old, inserted_split, removed_old, removed_gone, removed_other}
use Rattle.relation.specs.Closures.{HasAll, LeadsTo, DoneRow}

-- what x leads to has been found up to what the columns in front lead to
pub record Reaching (R : ℕ → Set) (x : ℕ) (found front : Set) : Type 0 where
  pub itself : x ∈ found
  pub in_found : front ⊆ found
  pub read : (z : ℕ) → z ∈ found → (z ∈ front) ⊎ ((y : ℕ) → y ∈ R z → y ∈ found)
  pub least : (K : Set) → HasAll R x K → found ⊆ K

-- what is left of a front when the row of its column y has been read
pub record Ahead (front found row : Set) (y : ℕ) (known : Bool) (left : Set) : Type 0 where
  pub if_done : known ≡ true → left ≡ removed (front ∩ ∁ row) y
  pub if_not : known ≡ false → left ≡ removed (front ∪ (row ∩ ∁ found)) y

-- what has not been read: what is not found, and the front
abbrev pub unread : Set → Set → Set
unread found front z = not (found z) || front z

module _ (R : ℕ → Set) (x : ℕ) where
  pub reaching_start : x < width → (row : Set) → ((y : ℕ) → row y ≡ R x y) → Reaching R x (inserted row x) (removed row x)
  reaching_start l row same = record {
    itself = inserted_same row x l;
    in_found = λ z e. inserted_old row x z (removed_old row x z e);
    read = λ z e. elim (ℕ_discrete z x) [
      | yes d ↦ inr (λ y h. inserted_old row x y (same y ∙ rw d at h))
      | no nd ↦ elim (inserted_split row x z e) [ inl d ↦ absurd (nd d) | inr h ↦ inl (removed_other row x z h nd) ]
    ];
    least = λ K h z e. elim (inserted_split row x z e) [
      | inl d ↦ rw d h.itself
      | inr w ↦ h.steps x z h.itself (sym (same z) ∙ w)
    ];
  }

  -- nothing is left to be read
  pub reaching_done : (found front : Set) → Reaching R x found front → ((z : ℕ) → z ∈ front → ⊥) → LeadsTo R x found
  reaching_done found front r none = record {
    has_all = record { itself = r.itself; steps = λ z y ez ey. elim (r.read z ez) [ inl f ↦ absurd (none z f) | inr h ↦ h y ey ] };
    least = r.least;
  }

  module _ (found front row : Set) (y : ℕ) (r : Reaching R x found front) (ey : y ∈ front) where
    -- a row that is done
    module _ (d : DoneRow R y row) where
      -- it has all that a column of it, or y, leads to
      by_row : (z v : ℕ) → (z ≡ y) ⊎ (z ∈ row) → v ∈ R z → v ∈ found ∪ row
      by_row z v ez ev = elim (d.steps z v ez ev) [
        | inl e ↦ or_left (found v) (row v) (rw e (r.in_found y ey))
        | inr e ↦ or_right (found v) (row v) e
      ]

      unless_row : (z : ℕ) → z ∈ front → (z ∈ removed (front ∩ ∁ row) y) ⊎ ((v : ℕ) → v ∈ R z → v ∈ found ∪ row)
      unless_row z f = elim (ℕ_discrete z y) [
        | yes e ↦ inr (λ v. by_row z v (inl e))
        | no ne ↦ elim (true? (row z)) [
          | yes w ↦ inr (λ v. by_row z v (inr w))
          | no nw ↦ inl (removed_other (front ∩ ∁ row) y z (and_in f (not_of (row z) nw)) ne)
        ]
      ]

      done_more : Reaching R x (found ∪ row) (removed (front ∩ ∁ row) y)
      done_more = record {
        itself = or_left (found x) (row x) r.itself;
        in_found = λ z e. or_left (found z) (row z) (r.in_found z (and_left (front z) (not (row z)) (removed_old (front ∩ ∁ row) y z e)));
        read = λ z e. elim (or_split (found z) (row z) e) [
          | inl o ↦ elim (r.read z o) [ inl f ↦ unless_row z f | inr h ↦ inr (λ v ev. or_left (found v) (row v) (h v ev)) ]
          | inr w ↦ inr (λ v. by_row z v (inr w))
        ];
        least = λ K h z e. elim (or_split (found z) (row z) e) [
          | inl o ↦ r.least K h z o
          | inr w ↦ d.least K (record { itself = r.least K h y (r.in_found y ey); steps = h.steps }) z w
        ];
      }

    -- the row of a column that has not been read
    module _ (same : (v : ℕ) → row v ≡ R y v) where
      front_or_y : (z : ℕ) → z ∈ front ∪ (row ∩ ∁ found) → (z ∈ removed (front ∪ (row ∩ ∁ found)) y) ⊎ ((v : ℕ) → v ∈ R z → v ∈ found ∪ row)
      front_or_y z f = elim (ℕ_discrete z y) [
        | yes e ↦ inr (λ v ev. or_right (found v) (row v) (same v ∙ rw e at ev))
        | no ne ↦ inl (removed_other (front ∪ (row ∩ ∁ found)) y z f ne)
      ]

      new_more : Reaching R x (found ∪ row) (removed (front ∪ (row ∩ ∁ found)) y)
      new_more = record {
        itself = or_left (found x) (row x) r.itself;
        in_found = λ z e. elim (or_split (front z) _ (removed_old (front ∪ (row ∩ ∁ found)) y z e)) [
          | inl f ↦ or_left (found z) (row z) (r.in_found z f)
          | inr w ↦ or_right (found z) (row z) (and_left (row z) (not (found z)) w)
        ];
        read = λ z e. elim (true? (found z)) [
          | yes o ↦ elim (r.read z o) [
            | inl f ↦ front_or_y z (or_left (front z) _ f)
            | inr h ↦ inr (λ v ev. or_left (found v) (row v) (h v ev))
          ]
          | no no' ↦ elim (or_split (found z) (row z) e) [
            | inl o ↦ absurd (no' o)
            | inr w ↦ front_or_y z (or_right (front z) _ (and_in w (not_of (found z) no')))
          ]
        ];
        least = λ K h z e. elim (or_split (found z) (row z) e) [
          | inl o ↦ r.least K h z o
          | inr w ↦ h.steps y z (r.least K h y (r.in_found y ey)) (sym (same z) ∙ w)
        ];
      }

  -- a turn
  pub reaching_more : (found front row left : Set) (y : ℕ) (known : Bool) → Reaching R x found front → y ∈ front → (known ≡ true → DoneRow R y row)
      → (known ≡ false → (v : ℕ) → row v ≡ R y v) → Ahead front found row y known left → Reaching R x (found ∪ row) left
  reaching_more found front row left y known r ey d same a = elim (true? known) [
    | yes e ↦ rw (a.if_done e) (done_more found front row y r ey (d e))
    | no ne ↦ rw (a.if_not (not_true known ne)) (new_more found front row y r ey (same (not_true known ne)))
  ]

-- the front is found, whatever the rows mean
pub inside_start : (row : Set) (x : ℕ) → removed row x ⊆ inserted row x
inside_start row x z e = inserted_old row x z (removed_old row x z e)

pub inside_more : (found front row left : Set) (y : ℕ) (known : Bool) → front ⊆ found → Ahead front found row y known left → left ⊆ found ∪ row
inside_more found front row left y known inside a z e = elim (true? known) [
  | yes d ↦ or_left (found z) (row z) (inside z (and_left (front z) (not (row z)) (removed_old (front ∩ ∁ row) y z (rw (a.if_done d) at e))))
  | no nd ↦ elim (or_split (front z) _ (removed_old (front ∪ (row ∩ ∁ found)) y z (rw (a.if_not (not_true known nd)) at e))) [
    | inl f ↦ or_left (found z) (row z) (inside z f)
    | inr w ↦ or_right (found z) (row z) (and_left (row z) (not (found z)) w)
  ]
]

-- a turn leaves less to be read
pub unread_less : (found front row left : Set) (y : ℕ) (known : Bool) → y < width → y ∈ front → front ⊆ found → Ahead front found row y known left
    → # width (unread (found ∪ row) left) < # width (unread found front)
unread_less found front row left y known l ey inside a = #-strict width (unread (found ∪ row) left) (unread found front) kept y l (or_right (not (found y)) (front y) ey) gone
  where
    -- what is left was in front or not found
    before : (z : ℕ) → z ∈ left → z ∈ unread found front
    before z e = elim (true? known) [
      | yes d ↦ or_right (not (found z)) (front z) (and_left (front z) (not (row z)) (removed_old (front ∩ ∁ row) y z (rw (a.if_done d) at e)))
      | no nd ↦ elim (or_split (front z) _ (removed_old (front ∪ (row ∩ ∁ found)) y z (rw (a.if_not (not_true known nd)) at e))) [
        | inl f ↦ or_right (not (found z)) (front z) f
        | inr w ↦ or_left (not (found z)) (front z) (and_right (row z) (not (found z)) w)
      ]
    ]

    kept : (z : ℕ) → z < width → z ∈ unread (found ∪ row) left → z ∈ unread found front
    kept z lz e = elim (or_split (not (found z || row z)) (left z) e) [
      | inl n ↦ or_left (not (found z)) (front z) (not_of (found z) (λ o. not_both (found z || row z) n (or_left (found z) (row z) o)))
      | inr w ↦ before z w
    ]

    not_left : y ∈ left → ⊥
    not_left e = elim (true? known) [
      | yes d ↦ removed_gone (front ∩ ∁ row) y y (rw (a.if_done d) at e) refl
      | no nd ↦ removed_gone (front ∪ (row ∩ ∁ found)) y y (rw (a.if_not (not_true known nd)) at e) refl
    ]

    gone : y ∈ unread (found ∪ row) left → ⊥
    gone e = elim (or_split (not (found y || row y)) (left y) e) [
      | inl n ↦ not_both (found y || row y) n (or_left (found y) (row y) (inside y ey))
      | inr w ↦ not_left w
    ]
