-- The rows of an area while those of some columns are joined or closed, one after another. Assumes nothing.
use Prim.Native.Nat.{ℕ, ◌+◌, ◌*◌, ◌≤◌, ◌<◌}
use mathlib.Core.Path.{◌≡◌, refl, sym, ◌∙◌, ap}
use mathlib.Core.Bool.{Bool, true, false, ◌&&◌, ◌||◌, cond, true≢false}
use mathlib.Core.Logic.{◌≢◌, ◌⊎◌, inl, inr}
use mathlib.Core.List.{List}
use native.Mathlib.Omega.{arith}
use native.Mathlib.Decide.{ℕ_discrete, dec_lt}
use lib.ListN.{length, get_or, set}
use lib.Seq.{get_or-set_other}
use Rattle.counting.specs.Bools.{true?, not_true}
use Rattle.counting.specs.Sets.{Set, ◌∈◌, ◌⊆◌, ◌∪◌}
use Rattle.columns.specs.Columns.{width, members, removed, inserted, none}
use Rattle.columns.specs.ColumnSets.{row_words, low_word, high_word, row_numbers, with_row}
use Rattle.columns.specs.Words.Rows.{with_row_length, with_row_there, with_row_past}
use Rattle.columns.specs.Words.SetLaws.{removed_old, removed_gone, removed_other, inserted_same, inserted_old, inserted_split}
use Rattle.relation.specs.Relations.{row_of, closure, HasRow, SameRest, Joined, ClosedOver}
use Rattle.relation.specs.RowLaws.{put_same, put_other, no_row, put_past, same_rows}
use Rattle.relation.specs.Closures.{LeadsTo, DoneRow, Partly, closure_is}

-- ---- what is no row

rest_same : (ws : List ℕ) → SameRest ws ws
rest_same ws = record { same_length = refl; behind = λ i l. refl }

rest_more : (ws₀ ws : List ℕ) (x w : ℕ) → SameRest ws₀ ws → SameRest ws₀ (with_row ws x w)
rest_more ws₀ ws x w r = record {
  same_length = with_row_length ws x w ∙ r.same_length;
  behind = λ i l. behind_row i l ∙ r.behind i l;
}
  where
    behind_row : (i : ℕ) → row_words * length (row_numbers ws₀) ≤ i → get_or (with_row ws x w) i 0 ≡ get_or ws i 0
    behind_row i l = elim (dec_lt x (length (row_numbers ws))) [
      | no nl ↦ ap (λ (v : List ℕ). get_or v i 0) (with_row_past ws x w (omega arith))
      | yes lx ↦
          let k : length (row_numbers ws) ≡ length (row_numbers ws₀) = same_rows ws₀ ws r.same_length in
          ap (λ (v : List ℕ). get_or v i 0) (with_row_there ws x w lx)
          ∙ get_or-set_other (set ws (row_words * x) (low_word w)) (row_words * x + 1) i (high_word w) 0 (λ e. omega (arith, k))
          ∙ get_or-set_other ws (row_words * x) i (low_word w) 0 (λ e. omega (arith, k))
    ]

-- ---- joining

-- the rows of the columns in `at` that are not in `rest` have been joined
pub record Joining (at rest set : Set) (ws₀ ws : List ℕ) : Type 0 where
  pub others : SameRest ws₀ ws
  pub inside : rest ⊆ at
  pub joined : (x y : ℕ) → HasRow ws₀ x → x ∈ at → rest x ≡ false → row_of ws x y ≡ (row_of ws₀ x y || set y)
  pub left : (x y : ℕ) → (at x ≡ false) ⊎ (x ∈ rest) → row_of ws x y ≡ row_of ws₀ x y

pub joining_start : (at set : Set) (ws : List ℕ) → Joining at at set ws ws
joining_start at set ws = record {
  others = rest_same ws;
  inside = λ x e. e;
  joined = λ x y l e n. absurd (true≢false (sym e ∙ n));
  left = λ x y e. refl;
}

module _ (at rest set : Set) (ws₀ ws : List ℕ) (j : Joining at rest set ws₀ ws) (x : ℕ) (ex : x ∈ rest) where
  gone : (z : ℕ) → z ≢ x → removed rest x z ≡ false → rest z ≡ false
  gone z nz e = not_true (rest z) (λ k. true≢false (sym (removed_other rest x z k nz) ∙ e))

  here : HasRow ws₀ x → HasRow ws x
  here l = omega (arith, same_rows ws₀ ws j.others.same_length)

  pub joining_more : (w : ℕ) → members w ≡ row_of ws x ∪ set → Joining at (removed rest x) set ws₀ (with_row ws x w)
  joining_more w e = record {
    others = rest_more ws₀ ws x w j.others;
    inside = λ z k. j.inside z (removed_old rest x z k);
    joined = λ z y l k n. elim (ℕ_discrete z x) [
      | yes d ↦ rw d (ap (λ (S : Set). S y) (put_same ws x w (here (rw d at l)) ∙ e) ∙ ap (λ (b : Bool). b || set y) (j.left x y (inr ex)))
      | no nd ↦ ap (λ (S : Set). S y) (put_other ws x w z nd) ∙ j.joined z y l k (gone z nd n)
    ];
    left = λ z y k. elim (ℕ_discrete z x) [
      | yes d ↦ absurd (elim k [
        | inl n ↦ true≢false (sym (j.inside x ex) ∙ rw d at n)
        | inr n ↦ removed_gone rest x z n d
      ])
      | no nd ↦ ap (λ (S : Set). S y) (put_other ws x w z nd) ∙ j.left z y (elim k [ inl n ↦ inl n | inr n ↦ inr (removed_old rest x z n) ])
    ];
  }

pub joining_done : (at rest set : Set) (ws₀ ws : List ℕ) → Joining at rest set ws₀ ws → ((x : ℕ) → x ∈ rest → ⊥) → Joined at set ws₀ ws
joining_done at rest set ws₀ ws j none_left = record {
  rest = j.others;
  rows = λ x y l. elim (true? (at x)) [
    | yes e ↦ j.joined x y l e (not_true (rest x) (none_left x)) ∙ ap (λ (b : Bool). row_of ws₀ x y || (b && set y)) (sym e)
    | no ne ↦
        let e : at x ≡ false = not_true (at x) ne in
        j.left x y (inl e) ∙ sym (or_false (row_of ws₀ x y)) ∙ ap (λ (b : Bool). row_of ws₀ x y || (b && set y)) (sym e)
  ];
}
  where
    or_false : (b : Bool) → (b || false) ≡ b
    or_false true = refl
    or_false false = refl

-- ---- closing

-- the rows of the columns in `done` have been closed, which are those of `over` that are not in `rest`
pub record Closing (over rest done : Set) (ws₀ ws : List ℕ) : Type 0 where
  pub others : SameRest ws₀ ws
  pub partly : Partly (row_of ws₀) done ws
  pub inside : rest ⊆ over
  pub apart : (x : ℕ) → x ∈ rest → done x ≡ false
  pub either : (x : ℕ) → x ∈ over → (x ∈ rest) ⊎ (x ∈ done)
  pub of_over : done ⊆ over
  pub own : (x : ℕ) → x ∈ done → HasRow ws₀ x → (x ∈ row_of ws x) × ((y : ℕ) → y ∈ row_of ws x → y < width)

pub closing_start : (over done : Set) (ws : List ℕ) → done ≡ none → Closing over over done ws ws
closing_start over done ws e = record {
  others = rest_same ws;
  partly = record { finished = λ z k. absurd (true≢false (sym k ∙ ap (λ (S : Set). S z) e)); left = λ z k y. refl };
  inside = λ x k. k;
  apart = λ x k. ap (λ (S : Set). S x) e;
  either = λ x k. inl k;
  of_over = λ x k. absurd (true≢false (sym k ∙ ap (λ (S : Set). S x) e));
  own = λ x k. absurd (true≢false (sym k ∙ ap (λ (S : Set). S x) e));
}

module _ (over rest done : Set) (ws₀ ws : List ℕ) (c : Closing over rest done ws₀ ws) (x : ℕ) (lx : x < width) (ex : x ∈ rest) (w : ℕ)
    (h : LeadsTo (row_of ws₀) x (members w)) (room : (y : ℕ) → y ∈ members w → y < width) where
  rows_same : length (row_numbers ws) ≡ length (row_numbers ws₀)
  rows_same = same_rows ws₀ ws c.others.same_length

  -- the row that was written, or, where there is none, that column alone
  own_row : DoneRow (row_of ws₀) x (row_of (with_row ws x w) x)
  own_row = elim (dec_lt x (length (row_numbers ws))) [
    | yes l ↦ rw (put_same ws x w l) (record {
      steps = λ z v e k. inr (h.has_all.steps z v (elim e [ inl d ↦ rw d h.has_all.itself | inr m ↦ m ]) k);
      least = h.least;
    })
    | no nl ↦
        let empty : (y : ℕ) → row_of (with_row ws x w) x y ≡ false = λ y. ap (λ (S : Set). S y) (put_past ws x w x (omega arith))
        ∙ c.partly.left x (c.apart x ex) y ∙ ap (λ (S : Set). S y) (no_row ws₀ x (omega (arith, rows_same))) in
        record {
          steps = λ z v e k. elim e [
            | inl d ↦ absurd (true≢false (sym k ∙ rw d (ap (λ (S : Set). S v) (no_row ws₀ x (omega (arith, rows_same))))))
            | inr m ↦ absurd (true≢false (sym m ∙ empty z))
          ];
          least = λ K k y m. absurd (true≢false (sym m ∙ empty y));
        }
  ]

  not_new : (z : ℕ) → z ≢ x → inserted done x z ≡ false → done z ≡ false
  not_new z nz e = not_true (done z) (λ k. true≢false (sym (inserted_old done x z k) ∙ e))

  pub closing_more : Closing over (removed rest x) (inserted done x) ws₀ (with_row ws x w)
  closing_more = record {
    others = rest_more ws₀ ws x w c.others;
    partly = record {
      finished = λ z k. elim (ℕ_discrete z x) [
        | yes d ↦ rw d own_row
        | no nd ↦ elim (inserted_split done x z k) [ inl d ↦ absurd (nd d) | inr m ↦ rw (put_other ws x w z nd) (c.partly.finished z m) ]
      ];
      left = λ z k y. elim (ℕ_discrete z x) [
        | yes d ↦ absurd (true≢false (sym (inserted_same done x lx) ∙ rw d at k))
        | no nd ↦ ap (λ (S : Set). S y) (put_other ws x w z nd) ∙ c.partly.left z (not_new z nd k) y
      ];
    };
    inside = λ z k. c.inside z (removed_old rest x z k);
    apart = λ z k. not_true (inserted done x z) (λ m. elim (inserted_split done x z m) [
      | inl d ↦ removed_gone rest x z k d
      | inr o ↦ true≢false (sym o ∙ c.apart z (removed_old rest x z k))
    ]);
    either = λ z k. elim (ℕ_discrete z x) [
      | yes d ↦ inr (rw d (inserted_same done x lx))
      | no nd ↦ elim (c.either z k) [ inl m ↦ inl (removed_other rest x z m nd) | inr m ↦ inr (inserted_old done x z m) ]
    ];
    of_over = λ z k. elim (inserted_split done x z k) [ inl d ↦ rw d (c.inside x ex) | inr m ↦ c.of_over z m ];
    own = λ z k l. elim (ℕ_discrete z x) [
      | yes d ↦ rw (d, put_same ws x w (omega (arith, rows_same, l))) (h.has_all.itself, room)
      | no nd ↦ elim (inserted_split done x z k) [ inl d ↦ absurd (nd d) | inr m ↦ rw (put_other ws x w z nd) (c.own z m l) ]
    ];
  }

-- a done row with its own column is all that the column leads to
leads_to : (R : ℕ → Set) (x : ℕ) (W : Set) → DoneRow R x W → x ∈ W → LeadsTo R x W
leads_to R x W d e = record {
  has_all = record { itself = e; steps = λ z y ez ey. elim (d.steps z y (inr ez) ey) [ inl k ↦ rw k e | inr k ↦ k ] };
  least = d.least;
}

pub closing_done : (over rest done : Set) (ws₀ ws : List ℕ) → Closing over rest done ws₀ ws → ((x : ℕ) → x ∈ rest → ⊥) → ClosedOver over ws₀ ws
closing_done over rest done ws₀ ws c none_left = record {
  rest = c.others;
  rows = λ x y l. elim (true? (over x)) [
    | yes e ↦ elim (c.either x e) [
      | inl m ↦ absurd (none_left x m)
      | inr m ↦ closure_is width (row_of ws₀) x (row_of ws x) (c.own x m l).1 (leads_to (row_of ws₀) x (row_of ws x) (c.partly.finished x m) (c.own x m l).0) y
          ∙ ap (λ (b : Bool). cond b (closure width (row_of ws₀) x y) (row_of ws₀ x y)) (sym e)
    ]
    | no ne ↦ c.partly.left x (not_true (done x) (λ m. ne (c.of_over x m))) y
        ∙ ap (λ (b : Bool). cond b (closure width (row_of ws₀) x y) (row_of ws₀ x y)) (sym (not_true (over x) ne))
  ];
}
