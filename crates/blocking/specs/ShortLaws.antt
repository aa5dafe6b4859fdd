-- Each column of the short set is in the reason for some unplaced column: together the reasons are the short set. Assumes nothing.
use Rattle.std.specs.Prelude.{ℕ, ◌≤◌, ◌<◌, ◌≡◌, Bool, true, not, ◌&&◌, ◌≢◌, ◌↔◌}
use Rattle.std.proofs.Common.{sym, ap, ◌∙◌, true≢false}
use Rattle.std.proofs.Math.Bool.{decide, decide_iff}
use native.Mathlib.Omega.{arith}
use Rattle.std.proofs.Math.Decide.{ℕ_discrete, dec_lt}
use Rattle.counting.specs.Bools.{true?, iff_eq, and_in, and_left, and_right}
use Rattle.counting.specs.Sets.{Set, ◌∈◌, ◌∩◌, ∁}
use Rattle.counting.specs.Counts.{◌⊖◌, ⊖-in, ⊖-at, ⊖-other, set_same, set_other, #-ext, #-⊖}
use Rattle.counting.specs.Choices.{Part}
use Rattle.rank.specs.Layered.Model.{Model, Assignment, OneMoreThan, placing, Legal}
use Rattle.rank.specs.Layered.Rank.{constant_rank, sum, rank, placed, short}
use Rattle.rank.proofs.Layered.Meaning.{placeable_iff, short_iff}
use Rattle.rank.proofs.Layered.Minimax.{short_of_E, sum_short, rank_le_sum, extends}
use Rattle.rank.proofs.Layered.ColumnOrder.{placed_legal, placed_size}
use Rattle.blocking.specs.Offering.{offering}
use Rattle.blocking.specs.Reason.{drawn_from, BlockedWith}
use Rattle.blocking.specs.OfferingLaws.{smaller_placeable, offering_legal, legal_offering, sum_one_more}
use Rattle.blocking.specs.ReasonLaws.{reason_iff, reason_self}

module _ (M : Model) where
  open M use {n, E}

  -- the offered columns below n
  F : Set
  F z = decide (dec_lt z n) && E z

  F_iff : (z : ℕ) → (z ∈ F) ↔ ((z < n) × (z ∈ E))
  unfolding F
  F_iff z = (
    λ e. ((decide_iff (dec_lt z n)).0 (and_left (decide (dec_lt z n)) (E z) e), and_right (decide (dec_lt z n)) (E z) e),
    λ w. and_in ((decide_iff (dec_lt z n)).1 w.0) w.1,
  )

  -- y is a placed column of the short set
  module _ (y : ℕ) (s : y ∈ short M) (p : y ∈ placed M) where
    l : y < n
    l = (short_of_E M y s).0

    -- the model without y
    abbrev N : Model
    N = offering M (F ⊖ y)

    part : Part n E (F ⊖ y)
    part z e = (F_iff z).0 (⊖-in F y z e).0

    -- has the same rank: else its short set, to which y is one more, would be a set of M without y whose sum is the rank
    same_rank : rank M ≤ rank N
    unfolding sum constant_rank
    same_rank = elim (dec_lt (rank N) (rank M)) [
      | no nl ↦ omega arith
      | yes lt ↦ absurd (true≢false (sym (J_part y ((short_iff M y).0 s J (λ z j. part z (J_part z j).1) (tight lt))).1 ∙ ⊖-at F y))
    ]
      where
        J : Set
        J = short N

        J_part : Part n (F ⊖ y) J
        J_part = short_of_E N

        tight : rank N < rank M → sum M J ≡ rank M
        tight lt = omega (
          arith,
          rank_le_sum M J,
          sum_one_more M F (λ z e. (F_iff z).0 e) y l ((F_iff y).1 (l, (short_of_E M y s).1)) J J_part,
          sum_short N,
          #-ext n (∁ J ∩ F) (∁ J ∩ E) (λ z lz. ap (λ (t : Bool). not (J z) && t) (iff_eq (F z) (E z) (λ e. ((F_iff z).0 e).1) (λ e. (F_iff z).1 (lz, e)))),
        )

    -- so the placed columns without y can take one more in it
    others : (A : Assignment) × Legal M A × ((z : ℕ) → z < n → placing A z ≡ (placed M ⊖ y) z)
    others = (placeable_iff M (placed M ⊖ y)).0 (smaller_placeable M (placed M ⊖ y) (placed M) ((placeable_iff M (placed M)).1 (placed_legal M)) (λ z lz e. (⊖-in (placed M) y z e).0))

    others_legal : Legal N others.0
    others_legal = legal_offering M (F ⊖ y) part others.0 others.1 (λ z lz e.
        let w : (z ∈ placed M) × (z ≢ y) = ⊖-in (placed M) y z (sym (others.2 z lz) ∙ e) in
        ⊖-other F y z w.1 ∙ (F_iff z).1 (others.1.offered z e))

    more : OneMoreThan N others.0
    more = extends N others.0 others_legal (omega (arith, same_rank, placed_size M, #-⊖ n (placed M) y l p, #-ext n (placing others.0) (placed M ⊖ y) others.2))

    -- that column is unplaced, and its reason has y
    abbrev c : ℕ
    c = more.column

    taken : (c < n) × (c ∈ F ⊖ y)
    taken = more.is_legal.offered c (more.places c ∙ set_same (placing others.0) c true)

    apart : c ≢ y
    apart = (⊖-in F y c taken.1).1

    out : c ∈ placed M → ⊥
    out e = true≢false (sym e ∙ sym (⊖-other (placed M) y c apart) ∙ sym (others.2 c taken.0) ∙ more.was_out)

    with_c : (z : ℕ) → z < n → placing more.larger z ≡ (drawn_from M c ⊖ y) z
    with_c z lz = more.places z ∙ elim (ℕ_discrete z c) [
      | yes d ↦ rw d (set_same (placing others.0) c true ∙ sym (⊖-other (drawn_from M c) y c apart ∙ set_same (placed M) c true))
      | no nd ↦ set_other (placing others.0) c true z nd ∙ others.2 z lz ∙ elim (ℕ_discrete z y) [
        | yes d ↦ rw d (⊖-at (placed M) y ∙ sym (⊖-at (drawn_from M c) y))
        | no ny ↦ ⊖-other (placed M) y z ny ∙ sym (⊖-other (drawn_from M c) y z ny ∙ set_other (placed M) c true z nd)
      ]
    ]

    placed_blocked : BlockedWith M y
    placed_blocked = record {
      column = c;
      below = taken.0;
      is_offered = (part c taken.1).1;
      unplaced = out;
      in_reason = (reason_iff M c y).1 (
        l,
        set_other (placed M) c true y (λ d. apart (sym d)) ∙ p,
        (placeable_iff M (drawn_from M c ⊖ y)).1 (more.larger, offering_legal M (F ⊖ y) part more.larger more.is_legal, with_c),
      );
    }

  pub short_blocked : (y : ℕ) → y ∈ short M → BlockedWith M y
  short_blocked y s = elim (true? (placed M y)) [
    | yes p ↦ placed_blocked y s p
    | no np ↦
        let w : (y < n) × (y ∈ E) = short_of_E M y s in
        record { column = y; below = w.0; is_offered = w.1; unplaced = np; in_reason = reason_self M y w.0 w.1 np }
  ]
