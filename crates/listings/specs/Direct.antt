-- What must come before what, by the arcs of a valid state whose search from all unplaced columns meets no terminal column: a column stands directly
-- before another where an arc leads there, and besides every terminal column before all, and every column before the unplaced ones. What the steps lead
-- to is `before`. Assumes nothing.
use Rattle.std.specs.Prelude.{ℕ, ◌<◌, ◌≡◌, not, ◌&&◌, ◌↔◌, ◌⊎◌}
use Rattle.std.proofs.Math.Bool.{true}
use Rattle.std.proofs.Common.{inl, inr}
use Rattle.counting.specs.Bools.{true?, iff_eq, and_in, and_left, and_right, not_both, not_of}
use Rattle.counting.specs.Sets.{Set, ◌∈◌, ◌⊆◌, ◌∩◌, ∁}
use Rattle.rank.specs.Graph.States.{Placed, Terminal, Arc}
use Rattle.rank.specs.Graph.Closed.{Closed}
use Rattle.rank.specs.Graph.Layers.{layer, unplaced}
use Rattle.rank.specs.Layered.Model.{Model}
use Rattle.rank.specs.Layered.Seating.{Good}
use Rattle.rank.proofs.Layered.Assignments.{offered_owner}
use Rattle.rank.proofs.Layered.Augmenting.{StateOf}
use Rattle.relation.specs.Closures.{LeadsTo}
use Rattle.listings.specs.Offered.{offered, offered_iff}
use Rattle.listings.specs.Blocks.{before, earlier}
use Rattle.listings.specs.BlockLaws.{before_iff, before_self, before_via}
use Rattle.listings.specs.TightSets.{Shut, tight_shut, shut_tight}

module _ (M : Model) (s : StateOf M) where
  open M use {n, E}

  -- y stands directly before x
  abbrev pub Direct : ℕ → ℕ → Type 0
  Direct x y = (y ∈ offered n E) × (Arc s y x ⊎ (Terminal s y ⊎ (Placed s x → ⊥)))

  module _ (g : Good M s) (c : Closed s (layer s (unplaced s) n)) (R : ℕ → Set) (h : (x : ℕ) → x ∈ offered n E → (y : ℕ) → (y ∈ R x) ↔ Direct x y) where
    -- one step
    direct_before : (x y : ℕ) → x ∈ offered n E → Direct x y → before M y x ≡ true
    direct_before x y o d =
        let w : (x < n) × (x ∈ E) = (offered_iff n E x).0 o in
        let v : (y < n) × (y ∈ E) = (offered_iff n E y).0 d.0 in
        (before_iff M y x).1 (λ J t e. let u : Shut M s g J = tight_shut M s g c J t in elim d.1 [
          | inl k ↦ u.along_arcs y x v.0 e k
          | inr k ↦ elim k [ inl l ↦ absurd (u.no_terminal y e l) | inr l ↦ u.has_unplaced x w.0 w.1 l ]
        ])

    module _ (x : ℕ) (o : x ∈ offered n E) (C : Set) (q : LeadsTo R x C) where
      -- all that the steps lead to is offered
      closure_offered : C ⊆ offered n E
      closure_offered = q.least (offered n E) (record { itself = o; steps = λ z y oz e. ((h z oz y).0 e).0 })

      -- and comes before x
      closure_before : (y : ℕ) → y ∈ C → before M y x ≡ true
      closure_before y e = and_right (offered n E y) (before M y x) (q.least (λ z. offered n E z && before M z x) (record {
        itself = and_in o (before_self M x);
        steps = λ z w ez ew.
            let oz : z ∈ offered n E = and_left (offered n E z) (before M z x) ez in
            and_in ((h z oz w).0 ew).0 (before_via M w z x (direct_before z w oz ((h z oz w).0 ew)) (and_right (offered n E z) (before M z x) ez));
      }) y e)

      -- what is not among it
      abbrev rest : Set
      rest = offered n E ∩ ∁ C

      not_direct : (z y : ℕ) → z ∈ C → y ∈ rest → Direct z y → ⊥
      not_direct z y ez ey d =
          not_both (C y) (and_right (offered n E y) (not (C y)) ey) (q.has_all.steps z y ez ((h z (closure_offered z ez) y).1 d))

      -- is a set whose sum is the rank, where it has a column
      rest_shut : (y : ℕ) → y ∈ rest → Shut M s g rest
      rest_shut y ey = record {
        columns = λ z e. (offered_iff n E z).0 (and_left (offered n E z) (not (C z)) e);
        has_unplaced = λ z l oz new. and_in ((offered_iff n E z).1 (l, oz)) (not_of (C z) (λ ez. not_direct z y ez ey (and_left (offered n E y) (not (C y)) ey, inr (inr new))));
        along_arcs = λ z w l e k. and_in
            ((offered_iff n E w).1 (k.0, rw k.1.2.1 at (offered_owner M s g k.1.0 k.1.1 (rw k.1.2.1 k.0))))
            (not_of (C w) (λ ew. not_direct w z ew e (and_left (offered n E z) (not (C z)) e, inl k)));
        no_terminal = λ z e t. not_direct x z q.has_all.itself e (and_left (offered n E z) (not (C z)) e, inr (inl t));
      }

      before_closure : (y : ℕ) → y ∈ offered n E → before M y x ≡ true → y ∈ C
      before_closure y oy e = elim (true? (C y)) [
        | yes ey ↦ ey
        | no ny ↦
            let ry : y ∈ rest = and_in oy (not_of (C y) ny) in
            let rx : x ∈ rest = (before_iff M y x).0 e rest (shut_tight M s g c rest (rest_shut y ry)) ry in
            absurd (not_both (C x) (and_right (offered n E x) (not (C x)) rx) q.has_all.itself)
      ]

      -- What the steps lead to from x is what must come before it, or shares its block.
      pub closure_is_earlier : (y : ℕ) → C y ≡ earlier M x y
      unfolding earlier
      closure_is_earlier y = iff_eq (C y) (earlier M x y)
          (λ e. and_in (and_in o (closure_offered y e)) (closure_before y e))
          (λ e.
          let d : (offered n E x && offered n E y) ≡ true = and_left (offered n E x && offered n E y) (before M y x) e in
          before_closure y (and_right (offered n E x) (offered n E y) d) (and_right (offered n E x && offered n E y) (before M y x) e))
