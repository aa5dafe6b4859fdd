-- The reason for an unplaced column, by way of the short set of the model that is offered it and the placed columns alone. Assumes nothing.
use Rattle.std.specs.Prelude.{ℕ, zero, suc, ◌+◌, ◌≤◌, ◌<◌, ◌≡◌, false, ◌&&◌, ◌≢◌, ◌↔◌}
use Rattle.std.proofs.Common.{sym, ◌∙◌, ap, true≢false, arith}
use Rattle.std.proofs.Math.Path.{fun_ext}
use Rattle.std.proofs.Math.Bool.{true, not, decide, decide_iff}
use Rattle.std.proofs.Math.Decide.{ℕ_discrete, dec_lt}
use Rattle.counting.specs.Bools.{true?, not_true, not_both, in_not, iff_eq, and_in, and_left, and_right}
use Rattle.counting.specs.Sets.{Set, ◌∈◌, ◌⊆◌, #, touching}
use Rattle.counting.specs.Counts.{◌⊖◌, ⊖-in, ⊖-at, ⊖-other, set_same, set_other, all_iff, #-ext, #-none, #-⊖, #-insert}
use Rattle.counting.specs.Choices.{Part}
use Rattle.rank.specs.Layered.Model.{Model, Assignment, placing, Legal}
use Rattle.rank.specs.Layered.Rank.{constant_rank, rank, placeable, placed, short}
use Rattle.rank.proofs.Layered.Meaning.{placeable_iff, short_iff}
use Rattle.rank.proofs.Layered.Duality.{size_le_rank, size_lt_sum}
use Rattle.rank.proofs.Layered.ColumnOrder.{placed_below, placed_legal, placed_first, placed_size}
use Rattle.blocking.specs.Offering.{offering}
use Rattle.blocking.specs.Reason.{drawn_from, Blocking, reason, untouched}
use Rattle.blocking.specs.OfferingLaws.{smaller_placeable, offering_legal, legal_offering, offering_rank, short_offering, short_none, short_lacks_one}

module _ (M : Model) where
  open M use {b, n, T}

  -- the model of a second call: x and the placed columns are offered, and no others
  abbrev pub second_call : ℕ → Model
  second_call x = offering M (drawn_from M x)

  pub reason_iff : (x y : ℕ) → (y ∈ reason M x) ↔ ((y < n) × (y ∈ drawn_from M x) × (placeable M (drawn_from M x ⊖ y) ≡ true))
  unfolding reason
  reason_iff x y = (
    λ e. let d : (decide (dec_lt y n) && drawn_from M x y) ≡ true = and_left (decide (dec_lt y n) && drawn_from M x y) (placeable M (drawn_from M x ⊖ y)) e in (
      (decide_iff (dec_lt y n)).0 (and_left _ _ d),
      and_right (decide (dec_lt y n)) _ d,
      and_right (decide (dec_lt y n) && drawn_from M x y) _ e,
    ),
    λ w. and_in (and_in ((decide_iff (dec_lt y n)).1 w.0) w.1) w.2,
  )

  -- no parameter row touches a set exactly if none is counted
  pub untouched_count : (D : Set) → (untouched M D ≡ true) ↔ (# b (touching n T D) ≡ 0)
  unfolding untouched
  untouched_count D = (
    λ e. #-ext b (touching n T D) (λ r. false) (λ r l. not_true (touching n T D r) (λ t. not_both (touching n T D r) ((all_iff b (λ r. not (touching n T D r))).0 e r l) t)) ∙ #-none b,
    λ z. (all_iff b (λ r. not (touching n T D r))).1 (λ r l. in_not (touching n T D r) (not_true (touching n T D r) (λ t. omega (arith, z, #-⊖ b (touching n T D) r l t)))),
  )

-- x is an unplaced column
module _ (M : Model) (x : ℕ) (l : x < M.n) (o : x ∈ M.E) (unplaced : x ∈ placed M → ⊥) where
  open M use {b, n, T, E}

  ours : (A : Assignment) × Legal M A × ((y : ℕ) → y < n → placing A y ≡ placed M y)
  ours = placed_legal M

  placed_drawn : placed M ⊆ drawn_from M x
  placed_drawn y e = set_other (placed M) x true y (λ d. unplaced (rw d at e)) ∙ e

  drawn_part : Part n E (drawn_from M x)
  drawn_part y e = elim (ℕ_discrete y x) [
    | yes d ↦ rw d (l, o)
    | no nd ↦
        let p : y ∈ placed M = sym (set_other (placed M) x true y nd) ∙ e in
        (placed_below M y p, (ours.1.offered y (ours.2 y (placed_below M y p) ∙ p)).1)
  ]

  drawn_count : # n (drawn_from M x) ≡ suc (rank M)
  drawn_count = omega (arith, #-insert n (placed M) x l unplaced, placed_size M)

  drawn_none : placeable M (drawn_from M x) ≡ false
  drawn_none = not_true _ (λ e.
      let w : (A : Assignment) × Legal M A × ((y : ℕ) → y < n → placing A y ≡ drawn_from M x y) = (placeable_iff M (drawn_from M x)).0 e in
      omega (arith, size_le_rank M w.0 w.1, #-ext n (placing w.0) (drawn_from M x) w.2, drawn_count))

  ours_offered : Legal (second_call M x) ours.0
  ours_offered = legal_offering M (drawn_from M x) drawn_part ours.0 ours.1 (λ y ly p. placed_drawn y (sym (ours.2 y ly) ∙ p))

  enough : # n (drawn_from M x) ≤ suc (rank (second_call M x))
  enough = omega (arith, drawn_count, placed_size M, size_le_rank (second_call M x) ours.0 ours_offered, #-ext n (placing ours.0) (placed M) ours.2)

  -- the reason is the short set of the second call,
  pub reason_short : (y : ℕ) → reason M x y ≡ short (second_call M x) y
  reason_short y = iff_eq (reason M x y) (short (second_call M x) y)
      (λ e. (short_offering M (drawn_from M x) drawn_part drawn_none enough y).1 ((reason_iff M x y).0 e))
      (λ e. (reason_iff M x y).1 ((short_offering M (drawn_from M x) drawn_part drawn_none enough y).0 e))

  -- which has the same rank
  pub second_rank : rank (second_call M x) ≡ rank M
  second_rank = omega (arith, offering_rank M (drawn_from M x) drawn_part drawn_none enough, drawn_count)

  -- and the same placed set
  pub second_placed : (y : ℕ) → y < n → placed (second_call M x) y ≡ placed M y
  second_placed y ly = same_upto (suc y) y ly (omega arith)
    where
      theirs : (A : Assignment) × Legal (second_call M x) A × ((y : ℕ) → y < n → placing A y ≡ placed (second_call M x) y)
      theirs = placed_legal (second_call M x)

      same_upto : (i y : ℕ) → y < n → y < i → placed (second_call M x) y ≡ placed M y
      same_upto zero y ly li = absurd (omega arith)
      same_upto (suc i) y ly li = iff_eq (placed (second_call M x) y) (placed M y)
          (λ e. placed_first M theirs.0 (offering_legal M (drawn_from M x) drawn_part theirs.0 theirs.1) y ly
          (λ z lz. theirs.2 z (omega arith) ∙ same_upto i z (omega arith) (omega arith)) (theirs.2 y ly ∙ e))
          (λ e. placed_first (second_call M x) ours.0 ours_offered y ly
          (λ z lz. ours.2 z (omega arith) ∙ sym (same_upto i z (omega arith) (omega arith))) (ours.2 y ly ∙ e))

  -- it blocks x,
  pub reason_blocking : Blocking M x (reason M x)
  reason_blocking = record {
    drawn = λ y e. let w : (y < n) × (y ∈ drawn_from M x) × (placeable M (drawn_from M x ⊖ y) ≡ true) = (reason_iff M x y).0 e in (w.0, w.1);
    has_none = ap (placeable M) (fun_ext reason_short) ∙ short_none M (drawn_from M x) drawn_part drawn_none enough;
    dropping_one = λ y e. smaller_placeable M (reason M x ⊖ y) (drawn_from M x ⊖ y) ((reason_iff M x y).0 e).2 (λ z lz d.
        let w : (z ∈ reason M x) × (z ≢ y) = ⊖-in (reason M x) y z d in ⊖-other (drawn_from M x) y z w.1 ∙ ((reason_iff M x z).0 w.0).1);
  }

  -- lacks one equation,
  pub reason_lacks_one : suc (constant_rank M (reason M x) + # b (touching n T (reason M x))) ≡ # n (reason M x)
  reason_lacks_one = ap (λ (R : Set). suc (constant_rank M R + # b (touching n T R))) (fun_ext reason_short) ∙ short_lacks_one M (drawn_from M x) drawn_part drawn_none enough ∙ ap (# n) (sym (fun_ext reason_short))

  -- and nothing else does
  pub blocking_unique : (D : Set) → Blocking M x D → (y : ℕ) → D y ≡ reason M x y
  blocking_unique D h y = iff_eq (D y) (reason M x y)
      (λ d. elim (true? (reason M x y)) [
        | yes r ↦ r
        | no nr ↦ absurd (true≢false (sym (smaller_placeable M (reason M x) (D ⊖ y) (h.dropping_one y d)
            (λ z lz r. ⊖-other D y z (λ f. nr (rw f at r)) ∙ inside z r)) ∙ reason_blocking.has_none))
      ])
      (inside y)
    where
      inside : (z : ℕ) → z ∈ reason M x → z ∈ D
      inside z r = elim (true? (D z)) [
        | yes d ↦ d
        | no nd ↦ absurd (true≢false (sym (smaller_placeable M D (drawn_from M x ⊖ z) ((reason_iff M x z).0 r).2
            (λ u lu d. ⊖-other (drawn_from M x) z u (λ f. nd (rw f at d)) ∙ (h.drawn u d).1)) ∙ h.has_none))
      ]

  -- it has x itself,
  pub reason_self : x ∈ reason M x
  reason_self = (reason_iff M x x).1 (
    l,
    set_same (placed M) x true,
    smaller_placeable M (drawn_from M x ⊖ x) (placed M) placed_placeable
        (λ y ly e. let w : (y ∈ drawn_from M x) × (y ≢ x) = ⊖-in (drawn_from M x) x y e in sym (set_other (placed M) x true y w.1) ∙ w.0),
  )
    where
      placed_placeable : placeable M (placed M) ≡ true
      placed_placeable = (placeable_iff M (placed M)).1 ours

  -- and lies in the short set of the whole model
  pub reason_in_short : reason M x ⊆ short M
  reason_in_short y e =
      let k : (y < n) × (y ∈ drawn_from M x) × (placeable M (drawn_from M x ⊖ y) ≡ true) = (reason_iff M x y).0 e in
      let w : (A : Assignment) × Legal M A × ((z : ℕ) → z < n → placing A z ≡ (drawn_from M x ⊖ y) z) = (placeable_iff M (drawn_from M x ⊖ y)).0 k.2 in
      (short_iff M y).1 (λ J p t. elim (true? (J y)) [
        | yes j ↦ j
        | no nj ↦ absurd (omega (
          arith,
          t,
          drawn_count,
          #-⊖ n (drawn_from M x) y k.0 k.1,
          #-ext n (placing w.0) (drawn_from M x ⊖ y) w.2,
          size_lt_sum M w.0 w.1 J y k.0 (drawn_part y k.1).1 (not_true (J y) nj) (w.2 y k.0 ∙ ⊖-at (drawn_from M x) y),
        ))
      ])
