-- Laws about reading the arcs, row by row. Assumes nothing.
use Prim.Native.Nat.{ℕ, ◌+◌, ◌≤◌, ◌<◌}
use mathlib.Core.Path.{◌≡◌, refl, sym, ap, ◌∙◌}
use mathlib.Core.Logic.{◌≢◌, ◌↔◌, inl, inr}
use mathlib.Core.Bool.{Bool, true, ◌||◌, false≢true}
use mathlib.Core.List.{List}
use native.Mathlib.Omega.{arith}
use native.Mathlib.Decide.{ℕ_discrete}
use Rattle.counting.specs.Bools.{or_left, or_right, or_split}
use Rattle.counting.specs.Sets.{Set, ◌∈◌, ◌∪◌}
use Rattle.columns.specs.Columns.{width, members, none, inserted}
use Rattle.columns.specs.ColumnSets.{with_row}
use Rattle.columns.specs.Words.Rows.{with_row_length}
use Rattle.columns.specs.Words.SetLaws.{inserted_same, inserted_old, inserted_split}
use Rattle.relation.specs.Relations.{row_of, HasRow}
use Rattle.relation.specs.RowLaws.{put_same, put_other, same_rows}
use Rattle.exchange.specs.Code.Cells.{cell}
use Rattle.exchange.specs.Code.Arcs.{TouchesFree, Noted, Linked}

-- ---- the columns that a constant row touches

-- those below x
abbrev pub Support : (t : List ℕ) (q x : ℕ) → Set → Type 0
Support t q x S = (z : ℕ) → (z ∈ S) ↔ ((z < x) × (cell t q z ≢ 0))

pub support_none : (t : List ℕ) (q : ℕ) → Support t q 0 none
support_none t q z = ((λ e. absurd (false≢true e)), λ w. absurd (omega (arith, w.0)))

module _ (t : List ℕ) (q x : ℕ) (S : Set) (h : Support t q x S) where
  old : (z : ℕ) → z ∈ S → (z < x + 1) × (cell t q z ≢ 0)
  old z e = let w : (z < x) × (cell t q z ≢ 0) = (h z).0 e in (omega (arith, w.0), w.1)

  pub support_more : x < width → cell t q x ≢ 0 → Support t q (x + 1) (inserted S x)
  support_more l nz z = (
    (λ e. elim (inserted_split S x z e) [ inl d ↦ rw d (omega arith, nz) | inr k ↦ old z k ]),
    λ w. elim (ℕ_discrete z x) [ yes d ↦ rw d (inserted_same S x l) | no nd ↦ inserted_old S x z ((h z).1 (omega (arith, w.0), w.1)) ],
  )

  pub support_skip : cell t q x ≡ 0 → Support t q (x + 1) S
  support_skip e z = (old z, λ w. (h z).1 (elim (ℕ_discrete z x) [ yes d ↦ absurd (w.1 (ap (cell t q) d ∙ e)) | no nd ↦ omega (arith, w.0) ], w.1))

-- ---- one row

module _ (n y : ℕ) (touching : Set) (ws : List ℕ) (ends : Set) where
  pub noted_owned : (w : ℕ) → y < n → members w ≡ row_of ws y ∪ touching → Noted n y touching ws (with_row ws y w) ends ends
  noted_owned w l e = record {
    same_length = with_row_length ws y w;
    rows = λ z x hz. elim (ℕ_discrete z y) [
      | yes d ↦
          let at : row_of (with_row ws y w) z x ≡ (row_of ws z x || touching x) = rw d (ap (λ (S : Set). S x) (put_same ws y w (rw d at hz) ∙ e)) in (
            (λ k. elim (or_split (row_of ws z x) (touching x) (sym at ∙ k)) [ inl o ↦ inl o | inr m ↦ inr (d, l, m) ]),
            λ k. at ∙ elim k [ inl o ↦ or_left (row_of ws z x) (touching x) o | inr m ↦ or_right (row_of ws z x) (touching x) m.2 ],
          )
      | no nd ↦
          let at : row_of (with_row ws y w) z x ≡ row_of ws z x = ap (λ (S : Set). S x) (put_other ws y w z nd) in
          ((λ k. inl (sym at ∙ k)), λ k. at ∙ elim k [ inl o ↦ o | inr m ↦ absurd (nd m.0) ])
    ];
    are_ends = λ x. ((λ k. inl k), λ k. elim k [ inl o ↦ o | inr m ↦ absurd (omega (arith, m.0)) ]);
  }

  pub noted_free : n ≤ y → Noted n y touching ws ws ends (ends ∪ touching)
  noted_free l = record {
    same_length = refl;
    rows = λ z x hz. ((λ k. inl k), λ k. elim k [ inl o ↦ o | inr m ↦ absurd (omega (arith, m.1)) ]);
    are_ends = λ x. (
      (λ k. elim (or_split (ends x) (touching x) k) [ inl o ↦ inl o | inr m ↦ inr (l, m) ]),
      λ k. elim k [ inl o ↦ or_left (ends x) (touching x) o | inr m ↦ or_right (ends x) (touching x) m.1 ],
    );
  }

-- ---- the rows one after another

module _ (n : ℕ) (tch : ℕ → ℕ → Bool) (own : ℕ → ℕ) (offered : Set) where
  pub linked_none : (ws : List ℕ) → Linked n tch own offered 0 ws ws none
  linked_none ws = record {
    same_length = refl;
    into = λ y x l. ((λ e. inl e), λ w. elim w [ inl e ↦ e | inr k ↦ absurd (omega (arith, k.2.1)) ]);
    are_ends = λ x. ((λ e. absurd (false≢true e)), λ w. absurd (omega (arith, w.1.1)));
  }

  pub linked_more : (m : ℕ) (ws₀ ws ws' : List ℕ) (ends ends' touching : Set) → Linked n tch own offered m ws₀ ws ends
      → ((x : ℕ) → (x ∈ touching) ↔ ((x ∈ offered) × (tch m x ≡ true))) → Noted n (own m) touching ws ws' ends ends' → Linked n tch own offered (m + 1) ws₀ ws' ends'
  linked_more m ws₀ ws ws' ends ends' touching h s k = record {
    same_length = k.same_length ∙ h.same_length;
    into = λ y x l. (
      (λ e. elim ((k.rows y x (has y l)).0 e) [
        | inl o ↦ elim ((h.into y x l).0 o) [ inl z ↦ inl z | inr w ↦ inr (w.0, w.1, (w.2.0, omega (arith, w.2.1), w.2.2)) ]
        | inr w ↦ let v : (x ∈ offered) × (tch m x ≡ true) = (s x).0 w.2 in inr (v.0, rw w.0 w.1, (m, omega arith, (v.1, sym w.0)))
      ]),
      λ w. (k.rows y x (has y l)).1 (elim w [
        | inl z ↦ inl ((h.into y x l).1 (inl z))
        | inr v ↦ elim (ℕ_discrete v.2.0 m) [
          | yes d ↦
              let own_m : own m ≡ y = sym (ap own d) ∙ v.2.2.1 in
              inr (sym own_m, rw own_m v.1, (s x).1 (v.0, ap (λ (q : ℕ). tch q x) (sym d) ∙ v.2.2.0))
          | no nd ↦ inl ((h.into y x l).1 (inr (v.0, v.1, (v.2.0, omega (arith, v.2.1), v.2.2))))
        ]
      ]),
    );
    are_ends = λ x. (
      (λ e. elim ((k.are_ends x).0 e) [
        | inl o ↦ let w : TouchesFree n tch own offered m x = (h.are_ends x).0 o in (w.0, (w.1.0, omega (arith, w.1.1), w.1.2))
        | inr w ↦ let v : (x ∈ offered) × (tch m x ≡ true) = (s x).0 w.1 in (v.0, (m, omega arith, (w.0, v.1)))
      ]),
      λ w. (k.are_ends x).1 (elim (ℕ_discrete w.1.0 m) [
        | yes d ↦ inr (omega (arith, ap own d, w.1.2.0), (s x).1 (w.0, ap (λ (q : ℕ). tch q x) (sym d) ∙ w.1.2.1))
        | no nd ↦ inl ((h.are_ends x).1 (w.0, (w.1.0, omega (arith, w.1.1), w.1.2)))
      ]),
    );
  }
    where
      has : (y : ℕ) → HasRow ws₀ y → HasRow ws y
      has y l = omega (arith, same_rows ws₀ ws h.same_length)
