-- The answer, read off the arrays when all columns have been offered. Assumes nothing.
use Prim.Native.Nat.{ℕ, zero, suc, ◌+◌, ◌-◌, ◌≤◌, ◌<◌}
use mathlib.Core.Path.{◌≡◌, sym, ap, ◌∙◌, fun_ext}
use mathlib.Core.Logic.{◌≢◌, ◌↔◌, inl, inr}
use mathlib.Core.Bool.{false, not, cond, true≢false, false≢true}
use mathlib.Core.List.{List}
use native.Mathlib.Omega.{arith}
use native.Mathlib.Decide.{ℕ_discrete, dec_lt}
use lib.ListN.{get_or}
use borrow.Author.Tests.{lt-ltb, le-ltb}
use Rattle.limits.specs.Limits.{no_column}
use Rattle.counting.specs.Bools.{true?, not_true, iff_eq, and_in, and_left, and_right, not_of, not_both}
use Rattle.counting.specs.Sets.{Set, ◌∈◌, ◌∩◌, ∁, Some, #}
use Rattle.counting.specs.Counts.{some?, #-ext, #-none}
use Rattle.counting.specs.Blocks.{#-plus}
use Rattle.columns.specs.Columns.{width, none, inserted}
use Rattle.columns.specs.Words.SetLaws.{inserted_same, inserted_old, inserted_split}
use Rattle.rank.specs.Graph.States.{State, Placed, placed_of, placed_iff}
use Rattle.rank.specs.Graph.Layers.{grow_old, grow_arc, grow_split, layer, layer_start, layer_next, unplaced_iff}
use Rattle.rank.specs.Layered.Model.{Model, Seat, out, constant, is_placed, is_constant, placing, constants}
use Rattle.rank.specs.Layered.Rank.{rank, placed, short}
use Rattle.rank.proofs.Layered.Meaning.{seat_cases}
use Rattle.rank.proofs.Layered.Assignments.{row_seat_low, row_seat_high, assignment, assignment_owned, assignment_places, constant_owner, row_owner}
use Rattle.rank.proofs.Layered.Optimal.{open_columns, open_columns_iff, reach_open, reach_iff}
use Rattle.rank.proofs.Layered.ColumnOrder.{placed_below}
use Rattle.rank.proofs.Layered.Offers.{finished, StateAnswers, state_answers}
use Rattle.exchange.specs.Solution.{shown_row, shown, ShowsRow, Solved}
use Rattle.exchange.specs.Code.Scanning.{owner_at}
use Rattle.exchange.specs.Code.Searching.{Ended, Final}
use Rattle.exchange.proofs.SearchingLaws.{in_last}
use Rattle.exchange.specs.Code.Held.{Given, model_of}
use Rattle.exchange.specs.Code.Offering.{Offered-all}
use Rattle.exchange.specs.Code.Answer.{Side, shown_column, RowsShown}

-- ---- the constant side

pub side_none : (n : ℕ) (o : List ℕ) → Side n 0 o none
side_none n o x = ((λ e. absurd (false≢true e)), λ w. absurd (omega (arith, w.1.1)))

module _ (n m : ℕ) (o : List ℕ) (side : Set) (h : Side n m o side) where
  old_owner : (x : ℕ) → x ∈ side → (x < n) × Some (m + 1) (λ q. owner_at o q ≡ x)
  old_owner x e = let w : (x < n) × Some m (λ q. owner_at o q ≡ x) = (h x).0 e in (w.0, (w.1.0, omega (arith, w.1.1), w.1.2))

  from_owner : (x : ℕ) → x ≢ owner_at o m → x < n → Some (m + 1) (λ q. owner_at o q ≡ x) → x ∈ side
  from_owner x ne l w = (h x).1 (l, (w.0, elim (ℕ_discrete w.0 m) [ yes z ↦ absurd (ne (sym (sym (ap (owner_at o) z) ∙ w.2))) | no nz ↦ omega (arith, w.1) ], w.2))

  pub side_more : n ≤ width → owner_at o m < n → Side n (m + 1) o (inserted side (owner_at o m))
  side_more hn l x = (
    (λ e. elim (inserted_split side (owner_at o m) x e) [ inl z ↦ (rw z l, (m, omega arith, sym z)) | inr k ↦ old_owner x k ]),
    λ w. elim (ℕ_discrete x (owner_at o m)) [
      | yes z ↦ rw z (inserted_same side (owner_at o m) (omega arith))
      | no nz ↦ inserted_old side (owner_at o m) x (from_owner x nz w.0 w.1)
    ],
  )

  pub side_skip : n ≤ owner_at o m → Side n (m + 1) o side
  side_skip l x = (old_owner x, λ w. from_owner x (λ z. omega (arith, w.0)) w.0 w.1)

-- ---- the rows

pub shown_low : (n y : ℕ) → y < n → shown_column n y ≡ y
unfolding shown_column
shown_low n y l = ap (λ t. cond t y no_column) (lt-ltb y n l)

pub shown_high : (n y : ℕ) → n ≤ y → shown_column n y ≡ no_column
unfolding shown_column
shown_high n y l = ap (λ t. cond t y no_column) (le-ltb y n l)

-- ---- sources that agree below n give layers that agree there

module _ {n N : ℕ} (s : State n N) where
  layer_within : (S S' : Set) → ((x : ℕ) → x < n → x ∈ S → x ∈ S') → (i x : ℕ) → x < n → x ∈ layer s S i → x ∈ layer s S' i
  layer_within S S' h zero x l e = rw (layer_start s S') (h x l (rw (layer_start s S) at e))
  layer_within S S' h (suc i) x l e = rw (layer_next s S' i) (elim (grow_split s (layer s S i) x (rw (layer_next s S i) at e)) [
    | inl o ↦ grow_old s (layer s S' i) x (layer_within S S' h i x l o)
    | inr f ↦ grow_arc s (layer s S' i) f.0 x f.1 (layer_within S S' h i f.0 f.1 f.2.0) f.2.1
  ])

  layer_below : (S : Set) → ((x : ℕ) → x ∈ S → x < n) → (i x : ℕ) → x ∈ layer s S i → x < n
  layer_below S h zero x e = h x (rw (layer_start s S) at e)
  layer_below S h (suc i) x e = elim (grow_split s (layer s S i) x (rw (layer_next s S i) at e)) [ inl o ↦ layer_below S h i x o | inr f ↦ f.2.1.0 ]

-- ---- the answer

module _ (p n a b : ℕ) (ws : List ℕ) (G : Given p n b ws) (t o : List ℕ) (in_set : Set) (d : Offered-all p n a b ws G t o in_set) where
  abbrev M : Model
  M = model_of p n a b ws G

  abbrev s : State n (a + b)
  s = d.held.s

  the_answer : StateAnswers M d.held.s d.held.good d.all_offered
  the_answer = state_answers M d.held.s d.held.good d.all_offered

  module _ (offered : Set) (m : (x : ℕ) → (x ∈ offered) ↔ ((x < n) × (x ∈ G.E))) where
    abbrev missing : Set
    missing = offered ∩ ∁ in_set

    pub missing_below : (x : ℕ) → x ∈ missing → (x < n) × (x ∈ G.E)
    missing_below x e = (m x).0 (and_left (offered x) (not (in_set x)) e)

    missing_open : (x : ℕ) → x < n → x ∈ missing → x ∈ open_columns M s d.held.good
    missing_open x l e = (open_columns_iff M s d.held.good x).1 (
      (unplaced_iff s x).1 (λ w. not_both (in_set x) (and_right (offered x) (not (in_set x)) e) ((d.are_placed x).1 (l, w))),
      (missing_below x e).1,
    )

    open_missing : (x : ℕ) → x < n → x ∈ open_columns M s d.held.good → x ∈ missing
    open_missing x l e =
        let w = (open_columns_iff M s d.held.good x).0 e in
        and_in ((m x).1 (l, w.1)) (not_of (in_set x) (λ k. (unplaced_iff s x).0 w.0 ((d.are_placed x).0 k).1))

    -- the last search finds no free row
    pub no_free_row : (column q depth : ℕ) → Ended s missing column q depth → ⊥
    no_free_row column q depth e =
        let k : column ∈ layer s (open_columns M s d.held.good) n = in_last s (open_columns M s d.held.good) depth column (layer_within s missing (open_columns M s d.held.good) missing_open depth column e.below e.inside) in
        (finished M d.held.s d.held.good d.all_offered).no_terminal column e.below
        ((reach_iff M s d.held.good column).0 (reach_open M s d.held.good column e.below ∙ k)).1
        (q, e.is_row, (e.is_free, e.touches))

    short_is : (reached : Set) → Final s missing reached → (x : ℕ) → reached x ≡ short M x
    short_is reached v x =
        iff_eq (reached x) (short M x)
        (λ e.
        let k : x ∈ layer s missing n = (v.same x).0 e in
        let l : x < n = layer_below s missing (λ y w. (missing_below y w).0) n x k in
        the_answer.is_short x ∙ reach_open M s d.held.good x l ∙ layer_within s missing (open_columns M s d.held.good) missing_open n x l k)
        (λ e.
        let l : x < n = ((reach_iff M s d.held.good x).0 (sym (the_answer.is_short x) ∙ e)).0 in
        (v.same x).1 (layer_within s (open_columns M s d.held.good) missing open_missing n x l (sym (reach_open M s d.held.good x l) ∙ sym (the_answer.is_short x) ∙ e)))

    placed_is : (x : ℕ) → in_set x ≡ placed M x
    placed_is x = iff_eq (in_set x) (placed M x)
        (λ e. let k : (x < n) × Placed s x = (d.are_placed x).0 e in the_answer.is_placed_set x k.0 ∙ (placed_iff s x).1 k.1)
        (λ e. let l : x < n = placed_below M x e in (d.are_placed x).1 (l, (placed_iff s x).0 (sym (the_answer.is_placed_set x l) ∙ e)))

    rank_is : n ≤ width → # width in_set ≡ rank M
    rank_is hn =
        let z : n + (width - n) ≡ width = omega arith in
        ap (λ (k : ℕ). # k in_set) (sym z) ∙ #-plus n (width - n) in_set
        ∙ ap (λ (k : ℕ). # n in_set + k) (#-ext (width - n) (λ r. in_set (n + r)) none (λ r l. not_true (in_set (n + r)) (λ e. omega (arith, ((d.are_placed (n + r)).0 e).0))) ∙ #-none (width - n))
        ∙ plus_zero (# n in_set)
        ∙ #-ext n in_set (placed_of s) (λ x l. placed_is x ∙ the_answer.is_placed_set x l)
        ∙ sym the_answer.is_rank
      where
        plus_zero : (k : ℕ) → k + 0 ≡ k
        plus_zero k = omega arith

    -- the assignment shown is that of the state
    module _ (side : Set) (rows : List ℕ) (hn : n ≤ width) (constant_side : Side n a o side) (row-columns : RowsShown n a b o rows) where
      owner_row : (x r : ℕ) → x < n → r < b → (get_or rows r 0 ≡ x) ↔ (s.owner (a + r) ≡ x)
      owner_row x r lx lr = elim (dec_lt (owner_at o (a + r)) n) [
        | yes l ↦ let e : get_or rows r 0 ≡ s.owner (a + r) = row-columns.owners r lr ∙ shown_low n (owner_at o (a + r)) l ∙ d.held.owners (a + r) (omega arith) in
            ((λ z. sym e ∙ z), λ z. e ∙ z)
        | no nl ↦ let e : get_or rows r 0 ≡ no_column = row-columns.owners r lr ∙ shown_high n (owner_at o (a + r)) (omega arith) in
            ((λ z. absurd (omega arith)), λ z. absurd (omega (arith, d.held.owners (a + r) (omega arith))))
      ]

      not_placed : (x : ℕ) → x < n → (Placed s x → ⊥) → assignment M s x ≡ out
      not_placed x l np = let e : placing (assignment M s) x ≡ false = assignment_places M s x l ∙ not_true (placed_of s x) (λ k. np ((placed_iff s x).0 k)) in
          seat_cases (assignment M s x) (λ z. z) (λ z. absurd (true≢false (sym (ap is_placed z) ∙ e))) (λ r z. absurd (true≢false (sym (ap is_placed z) ∙ e)))

      beyond : (x : ℕ) → n ≤ x → assignment M s x ≡ out
      beyond x l = seat_cases (assignment M s x) (λ z. z)
          (λ z. absurd (omega (arith, (the_answer.is_legal.offered x (ap is_placed z)).0)))
          (λ r z. absurd (omega (arith, (the_answer.is_legal.offered x (ap is_placed z)).0)))

      row_is : (x : ℕ) → x < n → (Some a (λ q. owner_at o q ≡ x) → ⊥) → (q : Dec (Some b (λ r. get_or rows r 0 ≡ x))) → shown_row b rows x q ≡ assignment M s x
      unfolding shown_row
      row_is x l nc (yes v) = sym (assignment_owned M s x (a + v.0) l (omega (arith, v.1)) ((owner_row x v.0 l v.1).0 v.2) ∙ row_seat_high M v.0)
      row_is x l nc (no nv) = sym (not_placed x l (λ k. elim (dec_lt k.0 a) [
        | yes lq ↦ nc (k.0, lq, d.held.owners k.0 k.1 ∙ k.2)
        | no nq ↦ let z : a + (k.0 - a) ≡ k.0 = omega arith in
            let lk : k.0 - a < b = omega (arith, k.1) in nv (k.0 - a, lk, (owner_row x (k.0 - a) l lk).1 (ap s.owner z ∙ k.2))
      ]))

      abbrev found : ℕ → Seat
      found x = shown_row b rows x (some? b (λ r. get_or rows r 0 ≡ x) (λ r. ℕ_discrete (get_or rows r 0) x))

      inside : (x : ℕ) → x < n → cond (side x) constant (found x) ≡ assignment M s x
      inside x l = elim (true? (side x)) [
        | yes e ↦ let k : (x < n) × Some a (λ q. owner_at o q ≡ x) = (constant_side x).0 e in
            let q : ℕ = k.1.0 in
            ap (λ t. cond t constant (found x)) e ∙ sym (assignment_owned M s x q l (omega (arith, k.1.1)) (sym (d.held.owners q (omega (arith, k.1.1))) ∙ k.1.2) ∙ row_seat_low M q k.1.1)
        | no ne ↦ ap (λ t. cond t constant (found x)) (not_true (side x) ne) ∙ row_is x l (λ k. ne ((constant_side x).1 (l, k))) _
      ]

      shown_is : shown n b side rows ≡ assignment M s
      unfolding shown
      shown_is = fun_ext (λ x. elim (dec_lt x n) [
        | no nl ↦ ap (λ t. cond t (cond (side x) constant (found x)) out) (le-ltb x n (omega arith)) ∙ sym (beyond x (omega arith))
        | yes l ↦ ap (λ t. cond t (cond (side x) constant (found x)) out) (lt-ltb x n l) ∙ inside x l
      ])

      side_at : (x : ℕ) → side x ≡ constants (assignment M s) x
      side_at x = iff_eq (side x) (constants (assignment M s) x)
          (λ e. let k : (x < n) × Some a (λ q. owner_at o q ≡ x) = (constant_side x).0 e in
          ap is_constant (assignment_owned M s x k.1.0 k.0 (omega (arith, k.1.1)) (sym (d.held.owners k.1.0 (omega (arith, k.1.1))) ∙ k.1.2) ∙ row_seat_low M k.1.0 k.1.1))
          (λ e. let k : (x < n) × Some a (λ q. s.owner q ≡ x) = constant_owner M s x e in
          (constant_side x).1 (k.0, (k.1.0, k.1.1, d.held.owners k.1.0 (omega (arith, k.1.1)) ∙ k.1.2)))

      rows_at : (r : ℕ) → r < b → ShowsRow n b side rows r
      rows_at r lr = elim (dec_lt (owner_at o (a + r)) n) [
        | yes l ↦
            let e : get_or rows r 0 ≡ owner_at o (a + r) = row-columns.owners r lr ∙ shown_low n (owner_at o (a + r)) l in
            inl (rw e l, ap (λ f. f (get_or rows r 0)) shown_is ∙ assignment_owned M s (get_or rows r 0) (a + r) (rw e l) (omega arith) (sym (d.held.owners (a + r) (omega arith)) ∙ sym e) ∙ row_seat_high M r)
        | no nl ↦ inr (
          row-columns.owners r lr ∙ shown_high n (owner_at o (a + r)) (omega arith),
          λ x z. let k : (x < n) × (r < b) × (s.owner (a + r) ≡ x) = row_owner M s x r (sym (ap (λ f. f x) shown_is) ∙ z) in
              absurd (omega (arith, d.held.owners (a + r) (omega arith), k.0, k.2)),
        )
      ]

      pub solved : (reached : Set) → Final s missing reached → Solved M (# width in_set) in_set side reached rows
      solved reached f = record {
        is_rank = rank_is hn;
        is_placed = placed_is;
        is_short = short_is reached f;
        is_legal = rw shown_is the_answer.is_legal;
        places_it = λ x. rw shown_is (elim (dec_lt x n) [
          | yes l ↦ the_answer.places_it x l
          | no nl ↦ ap is_placed (beyond x (omega arith)) ∙ sym (not_true (placed M x) (λ e. nl (placed_below M x e)))
        ]);
        side_shown = λ x. rw shown_is (side_at x);
        rows_shown = rows_at;
        past_rows = row-columns.past;
      }
