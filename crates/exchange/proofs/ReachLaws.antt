-- What reaches each column, by the arcs that were read when all columns have been offered. Assumes nothing.
use Prim.Native.Nat.{ℕ, ◌+◌, ◌≤◌, ◌<◌}
use mathlib.Core.Path.{◌≡◌, refl, sym, ap, ◌∙◌}
use mathlib.Core.Logic.{◌↔◌, ◌⊎◌, inl, inr}
use mathlib.Core.Bool.{Bool, false, not, ◌&&◌, ◌||◌, cond, true≢false, false≢true}
use mathlib.Core.List.{List}
use native.Mathlib.Omega.{arith}
use native.Mathlib.Decide.{dec_lt}
use lib.ListN.{length, replicate}
use Rattle.limits.specs.Limits.{most_columns, most_rows}
use Rattle.counting.specs.Bools.{true?, not_true, and_in, and_left, and_right, or_left, or_right, or_split, not_of, not_both}
use Rattle.counting.specs.Sets.{Set, ◌∈◌, ◌∩◌, ∁}
use Rattle.columns.specs.Columns.{width}
use Rattle.columns.specs.ColumnSets.{most_words}
use Rattle.columns.specs.Words.Rows.{most_words_rows}
use Rattle.rank.specs.Graph.States.{State}
use Rattle.rank.specs.Layered.Model.{Model}
use Rattle.rank.proofs.Layered.Offers.{finished}
use Rattle.relation.specs.Relations.{row_of, HasRow, closure, Joined, ClosedOver}
use Rattle.relation.specs.RowLaws.{no_row, no_rows, same_rows}
use Rattle.relation.specs.Closures.{closure_leads}
use Rattle.listings.specs.Offered.{offered, offered_iff}
use Rattle.listings.specs.Blocks.{earlier}
use Rattle.listings.specs.Direct.{Direct, closure_is_earlier}
use Rattle.exchange.specs.ReachCall.{ReachShown}
use Rattle.exchange.specs.Code.Scanning.{touched, owner_at}
use Rattle.exchange.specs.Code.Searching.{Shows}
use Rattle.exchange.specs.Code.Held.{Given, model_of}
use Rattle.exchange.specs.Code.Offering.{Offered-all}
use Rattle.exchange.specs.Code.Arcs.{Touches, TouchesFree, Linked}

module _ (p n a b : ℕ) (ws : List ℕ) (G : Given p n b ws) (t o : List ℕ) (in_set : Set) (d : Offered-all p n a b ws G t o in_set) (all : Set)
    (m : (x : ℕ) → (x ∈ all) ↔ ((x < n) × (x ∈ G.E))) (hn : n ≤ most_columns) (h : Shows G.E d.held.s (touched a t ws) (owner_at o))
    (ends : Set) (rows₁ rows₂ rows₃ rows₄ : List ℕ) (started : Joined (all ∩ ∁ in_set) all (replicate most_words 0) rows₁)
    (linked : Linked n (touched a t ws) (owner_at o) all (a + b) rows₁ rows₂ ends) (joined : Joined all ends rows₂ rows₃) (closed : ClosedOver all rows₃ rows₄) where
  abbrev M : Model
  M = model_of p n a b ws G

  abbrev s : State n (a + b)
  s = d.held.s

  -- every area has a row for each column that a model has
  long₁ : length rows₁ ≡ most_words
  long₁ = started.rest.same_length

  long₂ : length rows₂ ≡ most_words
  long₂ = linked.same_length ∙ long₁

  long₃ : length rows₃ ≡ most_words
  long₃ = joined.rest.same_length ∙ long₂

  -- the columns of the model, as set of the definitions
  all_offered : (x : ℕ) → (x ∈ all) ↔ (x ∈ offered n G.E)
  all_offered x = ((λ e. (offered_iff n G.E x).1 ((m x).0 e)), λ e. (m x).1 ((offered_iff n G.E x).0 e))

  has_row : (ws' : List ℕ) → length ws' ≡ most_words → (x : ℕ) → x < most_rows → HasRow ws' x
  has_row ws' e x l = omega (arith, most_words_rows ws' e)

  -- what stands in a row before it is closed
  abbrev Stands : ℕ → ℕ → Type 0
  Stands x y = ((x ∈ all ∩ ∁ in_set) × (y ∈ all)) ⊎ (Touches n (touched a t ws) (owner_at o) all (a + b) x y ⊎ ((x ∈ all) × TouchesFree n (touched a t ws) (owner_at o) all (a + b) y))

  row_stands : (x y : ℕ) → x < most_rows → (y ∈ row_of rows₃ x) ↔ Stands x y
  row_stands x y l = (
    (λ e. elim (or_split (row_of rows₂ x y) (all x && ends y) (sym at₃ ∙ e)) [
      | inl e₂ ↦ elim ((linked.into x y (has_row rows₁ long₁ x l)).0 e₂) [
        | inl e₁ ↦ elim (or_split (row_of (replicate most_words 0) x y) ((all ∩ ∁ in_set) x && all y) (sym at₁ ∙ e₁)) [
          | inl e₀ ↦ absurd (false≢true (sym (ap (λ (S : Set). S y) (no_rows most_words x)) ∙ e₀))
          | inr w ↦ inl (and_left ((all ∩ ∁ in_set) x) (all y) w, and_right ((all ∩ ∁ in_set) x) (all y) w)
        ]
        | inr w ↦ inr (inl w)
      ]
      | inr w ↦ inr (inr (and_left (all x) (ends y) w, (linked.are_ends y).0 (and_right (all x) (ends y) w)))
    ]),
    λ w. at₃ ∙ elim w [
      | inl k ↦ or_left (row_of rows₂ x y) (all x && ends y) ((linked.into x y (has_row rows₁ long₁ x l)).1
          (inl (at₁ ∙ or_right (row_of (replicate most_words 0) x y) ((all ∩ ∁ in_set) x && all y) (and_in k.0 k.1))))
      | inr k ↦ elim k [
        | inl v ↦ or_left (row_of rows₂ x y) (all x && ends y) ((linked.into x y (has_row rows₁ long₁ x l)).1 (inr v))
        | inr v ↦ or_right (row_of rows₂ x y) (all x && ends y) (and_in v.0 ((linked.are_ends y).1 v.1))
      ]
    ],
  )
    where
      at₁ : row_of rows₁ x y ≡ (row_of (replicate most_words 0) x y || ((all ∩ ∁ in_set) x && all y))
      at₁ = started.rows x y (has_row (replicate most_words 0) refl x l)

      at₃ : row_of rows₃ x y ≡ (row_of rows₂ x y || (all x && ends y))
      at₃ = joined.rows x y (has_row rows₂ long₂ x l)

  -- all of it is offered, and so is the column of a row that is not empty
  stands_offered : (x y : ℕ) → Stands x y → (x ∈ all) × (y ∈ all)
  stands_offered x y w = elim w [
    | inl k ↦ (and_left (all x) (not (in_set x)) k.0, k.1)
    | inr k ↦ elim k [
      | inl v ↦
          let q : ℕ = v.2.0 in
          let own : owner_at o q ≡ s.owner q = h.owner q v.2.1 in
          let is_x : s.owner q ≡ x = sym own ∙ v.2.2.1 in
          ((m x).1 (v.1, rw is_x at (h.offered q v.2.1 (rw is_x v.1))), v.0)
      | inr v ↦ (v.0, v.1.0)
    ]
  ]

  -- what stands in a row stands directly before its column
  stands_direct : (x y : ℕ) → x ∈ all → Stands x y ↔ Direct M s x y
  stands_direct x y ox = (to, from)
    where
      touch : (q : ℕ) → q < a + b → y ∈ all → touched a t ws q y ≡ s.touch q y
      touch q l oy = h.touch q y l ((m y).0 oy).0 ((m y).0 oy).1

      to : Stands x y → Direct M s x y
      to w = (
        (all_offered y).0 (stands_offered x y w).1,
        elim w [
          | inl k ↦ inr (inr (λ p. not_both (in_set x) (and_right (all x) (not (in_set x)) k.0) ((d.are_placed x).1 (((m x).0 ox).0, p))))
          | inr k ↦ elim k [
            | inl v ↦ inl (v.1, (v.2.0, v.2.1, (sym (touch v.2.0 v.2.1 v.0) ∙ v.2.2.0, sym (h.owner v.2.0 v.2.1) ∙ v.2.2.1)))
            | inr v ↦ inr (inl (v.1.1.0, v.1.1.1, (omega (arith, h.owner v.1.1.0 v.1.1.1, v.1.1.2.0), sym (touch v.1.1.0 v.1.1.1 v.1.0) ∙ v.1.1.2.1)))
          ]
        ],
      )

      from : Direct M s x y → Stands x y
      from w = let oy : y ∈ all = (all_offered y).1 w.0 in elim w.1 [
        | inl k ↦ inr (inl (oy, k.0, (k.1.0, k.1.1, (touch k.1.0 k.1.1 oy ∙ k.1.2.0, h.owner k.1.0 k.1.1 ∙ k.1.2.1))))
        | inr k ↦ elim k [
          | inl v ↦ inr (inr (ox, (oy, (v.0, v.1, (omega (arith, h.owner v.0 v.1, v.2.0), touch v.0 v.1 oy ∙ v.2.1)))))
          | inr v ↦ inl (and_in ox (not_of (in_set x) (λ e. v ((d.are_placed x).0 e).1)), oy)
        ]
      ]

  row_below : (x y : ℕ) → y ∈ row_of rows₃ x → y < width
  row_below x y e = elim (dec_lt x most_rows) [
    | yes l ↦ omega (arith, ((m y).0 (stands_offered x y ((row_stands x y l).0 e)).1).0)
    | no nl ↦ absurd (false≢true (sym (ap (λ (S : Set). S y) (no_row rows₃ x (omega (arith, most_words_rows rows₃ long₃)))) ∙ e))
  ]

  -- The rows show what must come before each column, or shares its block.
  pub reach_shown : ReachShown M rows₄
  unfolding earlier
  reach_shown x y = elim (true? (all x)) [
    | yes e ↦
        let l : x < n = ((m x).0 e).0 in
        closed.rows x y (has_row rows₃ long₃ x (omega arith)) ∙ ap (λ (k : Bool). cond k (closure width (row_of rows₃) x y) (row_of rows₃ x y)) e
        ∙ closure_is_earlier M s d.held.good (finished M s d.held.good d.all_offered) (row_of rows₃)
        (λ z oz v. let oz' : z ∈ all = (all_offered z).1 oz in let lz : z < n = ((m z).0 oz').0 in (
          (λ k. (stands_direct z v oz').0 ((row_stands z v (omega arith)).0 k)),
          λ k. (row_stands z v (omega arith)).1 ((stands_direct z v oz').1 k),
        ))
        x ((all_offered x).0 e) (closure width (row_of rows₃) x) (closure_leads width (row_of rows₃) x (omega arith) row_below) y
    | no ne ↦ nothing x y (not_true (all x) ne) ∙ sym (not_earlier x y ne)
  ]
    where
      nothing : (x y : ℕ) → all x ≡ false → row_of rows₄ x y ≡ false
      nothing x y e = elim (dec_lt x most_rows) [
        | yes l ↦ closed.rows x y (has_row rows₃ long₃ x l) ∙ ap (λ (k : Bool). cond k (closure width (row_of rows₃) x y) (row_of rows₃ x y)) e
            ∙ not_true (row_of rows₃ x y) (λ k. true≢false (sym (stands_offered x y ((row_stands x y l).0 k)).0 ∙ e))
        | no nl ↦ ap (λ (S : Set). S y) (no_row rows₄ x (omega (arith, same_rows rows₃ rows₄ closed.rest.same_length, most_words_rows rows₃ long₃)))
      ]

      not_earlier : (x y : ℕ) → (x ∈ all → ⊥) → earlier M x y ≡ false
      not_earlier x y ne = not_true (earlier M x y) (λ e. ne ((all_offered x).1
          (and_left (offered n G.E x) (offered n G.E y) (and_left (offered n G.E x && offered n G.E y) _ e))))
