-- The answer about an unplaced column: the short set of the second call is the reason, and the multipliers are those of E1. Assumes nothing.
use Prim.Native.Nat.{ℕ, ◌<◌}
use mathlib.Core.Path.{◌≡◌, refl, sym, ap, ◌∙◌, fun_ext}
use mathlib.Core.Logic.{◌≢◌}
use mathlib.Core.Bool.{true, false, true≢false}
use mathlib.Core.List.{List}
use native.Mathlib.Omega.{arith}
use native.Mathlib.Decide.{ℕ_discrete}
use lib.ListN.{replicate}
use Rattle.limits.specs.Limits.{most_columns}
use Rattle.counting.specs.Bools.{not_true}
use Rattle.counting.specs.Sets.{Set, ◌∈◌, set}
use Rattle.counting.specs.Counts.{◌⊖◌, ⊖-in, set_other}
use Rattle.columns.specs.Columns.{width, members, inserted, removed, word_of, within}
use Rattle.columns.specs.ColumnSets.{whole, Fits}
use Rattle.columns.specs.declared.ColumnSet.{ColumnSet}
use Rattle.columns.specs.Words.Sets.{whole_below}
use Rattle.columns.specs.Words.Operations.{within_iff, word_members}
use Rattle.columns.specs.Words.SetLaws.{inserted_set, removed_set}
use Rattle.rank.specs.Modulus.{modulus}
use Rattle.listed_models.specs.ListedModel.{listed_model}
use Rattle.rank.specs.Layered.Model.{Model}
use Rattle.rank.specs.Layered.Rank.{placed}
use Rattle.rank.proofs.Layered.ColumnOrder.{placed_below}
use Rattle.dependence.specs.Multipliers.{outcome, given}
use Rattle.dependence.specs.Listing.{listing}
use Rattle.dependence.specs.ListingLaws.{listing_same, zeros_listed}
use Rattle.blocking.specs.Reason.{drawn_from, reason, untouched, reason_multiplier}
use Rattle.blocking.specs.ReasonLaws.{second_call, untouched_count, reason_short, reason_blocking}
use Rattle.blocking.proofs.MultiplierLaws.{untouched_multiplier, touched_multiplier, reason_numbers}
use Rattle.touching.specs.RowCount.{touching_count}
use Rattle.exchange.specs.Solve.{admissible, Shown, SolvedBy}
use Rattle.exchange.specs.declared.Solution.{Solution}
use Rattle.exchange.specs.DependenceCall.{ListedDependenceShown}
use Rattle.layered.proofs.AnswerLaws.{accepted_admissible}
use Rattle.reason.specs.Code.{Unplaced}

-- ---- the second call

module _ {p n a b : ℕ} {cs ws : List ℕ} {the_placed : ColumnSet} {x : ℕ} (u : Unplaced p n a b cs ws the_placed x) where
  abbrev M : Model
  M = listed_model p n a b cs ws

  not_placed : x ∈ placed M → ⊥
  not_placed e = true≢false (sym e ∙ u.unplaced)

  small : x < width
  small = omega (arith, u.below, u.accepted.n_most)

  -- x and the placed columns are offered
  module _ (drawn : ColumnSet) (d : members (whole drawn) ≡ inserted (members (whole the_placed)) x) where
    drawn_are : (y : ℕ) → members (whole drawn) y ≡ drawn_from M x y
    drawn_are y = ap (λ (S : Set). S y) d ∙ inserted_set (members (whole the_placed)) x y small ∙ ap (λ (S : Set). set S x true y) (fun_ext u.are_placed)

    drawn_below : (y : ℕ) → y ∈ drawn_from M x → y < n
    drawn_below y e = elim (ℕ_discrete y x) [
      | yes s ↦ rw s u.below
      | no ns ↦ placed_below M y (sym (set_other (placed M) x true y ns) ∙ e)
    ]

    pub drawn_taken : admissible p n a b (whole drawn) cs ws ≡ true
    drawn_taken = accepted_admissible u.accepted (whole drawn) ((within_iff n (whole drawn)).1 (λ y l e. drawn_below y (sym (drawn_are y) ∙ e)))

    pub drawn_shown : Shown p n a b (whole drawn) cs ws M.Q M.T (drawn_from M x)
    drawn_shown = record { constants = λ i y li ly. refl; parameters = λ r y lr ly. refl; columns = λ y l. sym (drawn_are y) }

  -- the short set of its answer
  module _ (s : Solution) (fits : Fits s.short) (h : SolvedBy (second_call M x) s) where
    pub reason_is : (y : ℕ) → members (whole s.short) y ≡ reason M x y
    reason_is y = h.is_short y ∙ sym (reason_short M x u.below refl not_placed y)

    the_reason : members (whole s.short) ≡ reason M x
    the_reason = fun_ext reason_is

    pub reason_number : whole s.short ≡ word_of width (reason M x)
    reason_number = word_members width (whole s.short) (whole_below s.short fits) ∙ ap (word_of width) the_reason

    -- the rows that touch it are counted
    module _ (rows : ℕ) (count : rows ≡ touching_count n b ws (members (whole s.short))) where
      counted : rows ≡ touching_count n b ws (reason M x)
      counted = count ∙ ap (touching_count n b ws) the_reason

      pub touched : rows ≢ 0 → false ≡ untouched M (reason M x)
      touched nz = sym (not_true (untouched M (reason M x)) (λ e. nz (counted ∙ (untouched_count M (reason M x)).0 e)))

      pub not_touched : rows ≡ 0 → true ≡ untouched M (reason M x)
      not_touched z = sym ((untouched_count M (reason M x)).1 (sym counted ∙ z))

    -- the multipliers: none where a row touches it,
    pub no_multipliers : false ≡ untouched M (reason M x) → replicate most_columns 0 ≡ listing most_columns (reason_multiplier (modulus p).0 (modulus p).1 n a b M.Q M.T M.E x)
    no_multipliers e = zeros_listed most_columns _ (λ j l. touched_multiplier (modulus p).0 (modulus p).1 n a b M.Q M.T M.E x (λ t. true≢false (sym t ∙ sym e)) j)

    -- else those of x by the others
    module _ (others : ColumnSet) (o : members (whole others) ≡ removed (members (whole s.short)) x) where
      the_others : members (whole others) ≡ reason M x ⊖ x
      the_others = o ∙ fun_ext (removed_set (members (whole s.short)) x) ∙ ap (λ (S : Set). S ⊖ x) the_reason

      pub others_below : within n (whole others) ≡ true
      others_below = (within_iff n (whole others)).1 (λ y l e. ((reason_blocking M x u.below refl not_placed).drawn y (⊖-in (reason M x) x y (sym (ap (λ (S : Set). S y) the_others) ∙ e)).0).0)

      -- on which it depends
      pub depends_on_them : true ≡ untouched M (reason M x) → {the-outcome : ℕ} {ms : List ℕ} → ListedDependenceShown p n a cs (members (whole others)) x the-outcome ms → the-outcome ≡ 1
      unfolding outcome
      depends_on_them e d =
          let w = reason_numbers (modulus p).0 (modulus p).1 n a b M.Q M.T M.E x u.below refl not_placed (sym e) in
          d.outcome_is ∙ rw (the_others, w.0, w.1) refl

      pub their_multipliers : true ≡ untouched M (reason M x) → {the-outcome : ℕ} {ms : List ℕ} → ListedDependenceShown p n a cs (members (whole others)) x the-outcome ms
          → ms ≡ listing most_columns (reason_multiplier (modulus p).0 (modulus p).1 n a b M.Q M.T M.E x)
      their_multipliers e d = d.multipliers_are ∙ listing_same most_columns _ _ (λ j l.
          ap (λ (H : Set). given (modulus p).0 (modulus p).1 a n M.Q H x j) the_others ∙ sym (untouched_multiplier (modulus p).0 (modulus p).1 n a b M.Q M.T M.E x (sym e) j))
