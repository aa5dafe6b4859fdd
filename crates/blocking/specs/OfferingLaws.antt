-- Models with fewer columns offered, and the short set of one that is offered a column too many. Assumes nothing.
use Rattle.std.specs.Prelude.{ℕ, suc, ◌+◌, ◌≤◌, ◌<◌, ◌≡◌, true, false, not, ◌&&◌, ◌↔◌}
use Rattle.std.proofs.Common.{sym, ◌∙◌, ap, true≢false}
use native.Mathlib.Omega.{arith}
use Rattle.std.proofs.Math.Decide.{ℕ_discrete, dec_lt}
use Rattle.counting.specs.Bools.{true?, not_true, iff_eq, and_in, and_left, and_right, in_not}
use Rattle.counting.specs.Sets.{Set, ◌∈◌, ◌∩◌, ∁, #, touching}
use Rattle.counting.specs.Counts.{◌⊖◌, ⊖-at, ⊖-other, ⊖-in, #-ext, #-⊖, #-split}
use Rattle.counting.specs.Injections.{#-mono, #-strict}
use Rattle.counting.specs.Choices.{Part}
use Rattle.rank.specs.Layered.Model.{Model, Assignment, is_placed, placing, Legal, size}
use Rattle.rank.specs.Layered.Rank.{constant_rank, sum, rank, placeable, short}
use Rattle.rank.proofs.Layered.Meaning.{placeable_iff, short_iff}
use Rattle.rank.proofs.Layered.Restricting.{legal_less, restrict, restrict_less, restrict_in, restrict_out}
use Rattle.rank.proofs.Layered.Duality.{placed_in, size_lt_sum, rank_reached}
use Rattle.rank.proofs.Layered.Minimax.{short_of_E, sum_short, rank_le_sum}
use Rattle.blocking.specs.Offering.{offering}

module _ (M : Model) where
  open M use {n, E}

  -- what a legal assignment places, and each part of it, has a legal assignment
  part_placeable : (D : Set) (A : Assignment) → Legal M A → ((y : ℕ) → y < n → y ∈ D → y ∈ placing A) → placeable M D ≡ true
  part_placeable D A h inside = (placeable_iff M D).1 (
    restrict D A,
    legal_less M (restrict D A) A (restrict_less D A) h,
    λ y l. elim (true? (D y)) [
      | yes d ↦ ap is_placed (restrict_in D A y d) ∙ inside y l d ∙ sym d
      | no nd ↦ ap is_placed (restrict_out D A y (not_true (D y) nd)) ∙ sym (not_true (D y) nd)
    ],
  )

  pub smaller_placeable : (D S : Set) → placeable M S ≡ true → ((y : ℕ) → y < n → y ∈ D → y ∈ S) → placeable M D ≡ true
  smaller_placeable D S e inside =
      let w : (A : Assignment) × Legal M A × ((y : ℕ) → y < n → placing A y ≡ S y) = (placeable_iff M S).0 e in
      part_placeable D w.0 w.1 (λ y l d. w.2 y l ∙ inside y l d)

  -- only the columns of S are offered
  module _ (S : Set) (part : Part n E S) where
    pub offering_legal : (A : Assignment) → Legal (offering M S) A → Legal M A
    offering_legal A h = record {
      offered = λ y p. part y (h.offered y p).1;
      independent = h.independent;
      parameter = h.parameter;
      one_each = h.one_each;
    }

    pub legal_offering : (A : Assignment) → Legal M A → ((y : ℕ) → y < n → y ∈ placing A → y ∈ S) → Legal (offering M S) A
    legal_offering A h inside = record {
      offered = λ y p. ((h.offered y p).0, inside y (h.offered y p).0 p);
      independent = h.independent;
      parameter = h.parameter;
      one_each = h.one_each;
    }

    -- where they have no legal assignment, the rank is less than their number
    offering_less : placeable M S ≡ false → rank (offering M S) < # n S
    offering_less none =
        let r : (A : Assignment) × Legal (offering M S) A × (size (offering M S) A ≡ rank (offering M S)) = rank_reached (offering M S) in
        elim (dec_lt (rank (offering M S)) (# n S)) [
          | yes l ↦ l
          | no nl ↦ absurd (true≢false (sym (part_placeable S r.0 (offering_legal r.0 r.1) (all_of r (omega arith))) ∙ none))
        ]
      where
        all_of : (r : (A : Assignment) × Legal (offering M S) A × (size (offering M S) A ≡ rank (offering M S))) → # n S ≤ rank (offering M S)
            → (y : ℕ) → y < n → y ∈ S → y ∈ placing r.0
        all_of r l y ly e = elim (true? (placing r.0 y)) [
          | yes p ↦ p
          | no np ↦ absurd (omega (arith, r.2, #-strict n (placing r.0) S (λ z lz p. (r.1.offered z p).1) y ly e np))
        ]

    -- the sum of a set, with one more column offered that the set lacks
    module _ (y : ℕ) (l : y < n) (e : y ∈ S) (J : Set) (p : Part n (S ⊖ y) J) where
      lacks : J y ≡ false
      lacks = not_true (J y) (λ j. true≢false (sym (p y j).1 ∙ ⊖-at S y))

      rest_same : (z : ℕ) → z < n → ((∁ J ∩ S) ⊖ y) z ≡ (∁ J ∩ (S ⊖ y)) z
      rest_same z lz = elim (ℕ_discrete z y) [
        | yes d ↦ rw d (⊖-at (∁ J ∩ S) y ∙ sym (not_true ((∁ J ∩ (S ⊖ y)) y) (λ k. true≢false (sym (and_right (not (J y)) ((S ⊖ y) y) k) ∙ ⊖-at S y))))
        | no nd ↦ ⊖-other (∁ J ∩ S) y z nd ∙ ap (λ t. not (J z) && t) (sym (⊖-other S y z nd))
      ]

      pub sum_one_more : sum (offering M S) J ≡ suc (sum (offering M (S ⊖ y)) J)
      unfolding sum constant_rank
      sum_one_more = omega (arith, #-⊖ n (∁ J ∩ S) y l (and_in (in_not (J y) lacks) e), #-ext n ((∁ J ∩ S) ⊖ y) (∁ J ∩ (S ⊖ y)) rest_same)

-- the columns of C have no legal assignment, and are only one more than the rank of the model that is offered them
module _ (M : Model) (C : Set) (part : Part M.n M.E C) (none : placeable M C ≡ false) (enough : # M.n C ≤ suc (rank (offering M C))) where
  open M use {n, E, b, T}

  pub offering_rank : suc (rank (offering M C)) ≡ # n C
  offering_rank = omega (arith, enough, offering_less M C part none)

  -- a column lies in the short set exactly if all the others have a legal assignment
  pub short_offering : (y : ℕ) → (y ∈ short (offering M C)) ↔ ((y < n) × (y ∈ C) × (placeable M (C ⊖ y) ≡ true))
  short_offering y = (
    λ e. let w : (y < n) × (y ∈ C) = short_of_E (offering M C) y e in (w.0, w.1, room y e w.0 w.1),
    λ w. (short_iff (offering M C) y).1 (λ J p t. elim (true? (J y)) [ yes j ↦ j | no nj ↦ absurd (smaller y w.0 w.1 w.2 J t (not_true (J y) nj)) ]),
  )
    where
      smaller : (y : ℕ) → y < n → y ∈ C → placeable M (C ⊖ y) ≡ true → (J : Set) → sum (offering M C) J ≡ rank (offering M C) → J y ≡ false → ⊥
      smaller y l e k J t nj =
          let w : (A : Assignment) × Legal M A × ((z : ℕ) → z < n → placing A z ≡ (C ⊖ y) z) = (placeable_iff M (C ⊖ y)).0 k in
          let h : Legal (offering M C) w.0 = legal_offering M C part w.0 w.1 (λ z lz p. (⊖-in C y z (sym (w.2 z lz) ∙ p)).0) in
          omega (
            arith,
            t,
            offering_rank,
            #-⊖ n C y l e,
            #-ext n (placing w.0) (C ⊖ y) w.2,
            size_lt_sum (offering M C) w.0 h J y l e nj (w.2 y l ∙ ⊖-at C y),
          )

      room : (y : ℕ) → y ∈ short (offering M C) → y < n → y ∈ C → placeable M (C ⊖ y) ≡ true
      room y e l k = elim (true? (placeable M (C ⊖ y))) [
        | yes t ↦ t
        | no nt ↦
            let J : Set = short (offering M (C ⊖ y)) in
            let p : Part n (C ⊖ y) J = short_of_E (offering M (C ⊖ y)) in
            let tight : sum (offering M C) J ≡ rank (offering M C) = omega (
              arith,
              sum_one_more M C part y l k J p,
              sum_short (offering M (C ⊖ y)),
              offering_less M (C ⊖ y) (λ z d. part z (⊖-in C y z d).0) (not_true _ nt),
              #-⊖ n C y l k,
              offering_rank,
              rank_le_sum (offering M C) J,
            ) in
            absurd (true≢false (sym (p y ((short_iff (offering M C) y).0 e J (λ z j. ((p z j).0, (⊖-in C y z (p z j).1).0)) tight)).1 ∙ ⊖-at C y))
      ]

  -- the short set has no legal assignment
  pub short_none : placeable M (short (offering M C)) ≡ false
  unfolding sum constant_rank
  short_none = not_true _ (λ e.
      let R : Set = short (offering M C) in
      let w : (A : Assignment) × Legal M A × ((z : ℕ) → z < n → placing A z ≡ R z) = (placeable_iff M R).0 e in
      omega (
        arith,
        offering_rank,
        sum_short (offering M C),
        #-split n R C,
        #-mono n (R ∩ C) (R ∩ placing w.0) (λ z l d. and_in (and_left (R z) (C z) d) (w.2 z l ∙ and_left (R z) (C z) d)),
        placed_in M w.0 w.1 R,
      ))

  -- its constant rank and the rows that touch it are together one less than its columns
  pub short_lacks_one : suc (constant_rank M (short (offering M C)) + # b (touching n T (short (offering M C)))) ≡ # n (short (offering M C))
  unfolding sum constant_rank
  short_lacks_one =
      let R : Set = short (offering M C) in
      omega (
        arith,
        offering_rank,
        sum_short (offering M C),
        #-split n R C,
        #-ext n (R ∩ C) R (λ z l. iff_eq ((R ∩ C) z) (R z) (and_left (R z) (C z)) (λ e. and_in e (short_of_E (offering M C) z e).1)),
      )
