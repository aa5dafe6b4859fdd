-- What an accepted call about the reason for a column says: of the set that it shows, and of the multipliers in plain numbers. Assumes nothing.
use Rattle.std.specs.Prelude.{ℕ, suc, ◌+◌, ◌<◌, ◌≡◌, refl, ◌≢◌, ◌↔◌, true, false, List, length, get_or}
use Rattle.std.proofs.Common.{sym, ap, ◌∙◌, subst, true≢false, arith}
use Rattle.std.proofs.Math.Path.{fun_ext}
use Rattle.std.proofs.Math.Bool.{not}
use Rattle.std.proofs.Math.Option.{Option}
use Rattle.std.proofs.Math.Decide.{dec_lt}
use Rattle.std.proofs.Math.ListN.{get_or-eq_default}
use Rattle.limits.specs.Limits.{most_columns}
use Rattle.counting.specs.Bools.{not_both, in_not, not_true}
use Rattle.counting.specs.Sets.{Set, ◌∈◌, ◌⊆◌, #, touching}
use Rattle.counting.specs.Counts.{◌⊖◌, ⊖-in, ⊖-other, all_iff, touching_iff}
use Rattle.columns.specs.Columns.{members}
use Rattle.columns.specs.ColumnSets.{whole}
use Rattle.columns.specs.declared.ColumnSet.{ColumnSet}
use Rattle.columns.specs.Words.Operations.{within_iff}
use Rattle.rank.specs.Modulus.{modulus}
use Rattle.listed_models.specs.ListedModel.{listed_model}
use Rattle.rank.specs.Layered.Model.{Model}
use Rattle.rank.specs.Layered.Rank.{constant_rank, placed, short}
use Rattle.dependence.specs.Multipliers.{outcome, given}
use Rattle.dependence.proofs.NumberLaws.{multiplier_given}
use Rattle.dependence.specs.Listing.{listing}
use Rattle.dependence.specs.ListingLaws.{listing_at, listing_length, listing_same}
use Rattle.dependence.proofs.Theorems.{outcome_1}
use Rattle.blocking.specs.Reason.{Blocking, reason, untouched, reason_multiplier}
use Rattle.blocking.proofs.MultiplierLaws.{untouched_multiplier, touched_multiplier}
use Rattle.blocking.proofs.Theorems as Theory
use Rattle.exchange.specs.DependenceCall.{ListedDependenceShown}
use Rattle.format.specs.Refusals.{unless, first_refusal, column_placed, named_column, held_columns, column_beyond, column_test, model_tests, refusal}
use Rattle.format.specs.RefusalLaws.{then_zero, zero_then, unless_zero, zero_unless}
use Rattle.format.specs.TestLaws.{Accepted, model_accepted, column_reads}
use Rattle.layered.specs.Answers.{LayeredCall}
use Rattle.layered.specs.Shown.{Answer}
use Rattle.multipliers.specs.Answers.{column_question, MultipliersCall}
use Rattle.multipliers.specs.Shown.{Multipliers}
use Rattle.reason.specs.Answers.{reason_question, ReasonAnswered, ReasonCall}
use Rattle.reason.specs.Shown.{Reason}
use Rattle.promises.specs.DependenceLaws.{Says}

-- a call that is accepted
module _ (p n a b : ℕ) (cs ws : List ℕ) (ns : Option (List ℕ)) (x : ℕ) (r : Reason) (call : ReasonCall p n a b cs ws ns x r) (ok : r.refusal ≡ 0) where
  abbrev M : Model
  M = listed_model p n a b cs ws

  -- the set shown
  abbrev R : Set
  R = members (whole r.set)

  each : (first_refusal (model_tests p n a b cs ws ns) ≡ 0) × (first_refusal (reason_question M x) ≡ 0)
  each = then_zero (model_tests p n a b cs ws ns) (reason_question M x) (sym call.is_refusal ∙ ok)

  judged : refusal p n a b cs ws ns ≡ 0
  unfolding refusal
  judged = each.0

  accepted : Accepted p n a b cs ws ns
  accepted = model_accepted p n a b cs ws ns judged

  column : (first_refusal (named_column n x) ≡ 0) × (first_refusal (unless (not (placed M x)) column_placed) ≡ 0)
  column = then_zero (named_column n x) (unless (not (placed M x)) column_placed) each.1

  pub column_below : x < n
  column_below = (column_reads x n).0 (unless_zero (column_test x n) column_beyond column.0)

  not_placed : x ∈ placed M → ⊥
  not_placed = not_both (placed M x) (unless_zero (not (placed M x)) column_placed column.1)

  answer : ReasonAnswered p n a b cs ws x r
  answer = call.if_accepted (sym call.is_refusal ∙ ok)

  the_set : R ≡ reason M x
  the_set = fun_ext answer.set_is

  pub set_blocks : Blocking M x R
  set_blocks = subst (Blocking M x) (sym the_set) (Theory.reason_blocks M x column_below refl not_placed)

  pub set_unique : (D : Set) → Blocking M x D → (y : ℕ) → D y ≡ R y
  set_unique D h y = Theory.reason_unique M x column_below refl not_placed D h y ∙ sym (answer.set_is y)

  pub set_lacks_one : suc (constant_rank M R + # b (touching n M.T R)) ≡ # n R
  set_lacks_one = subst (λ (S : Set). suc (constant_rank M S + # b (touching n M.T S)) ≡ # n S) (sym the_set) (Theory.reason_lacks_one_equation M x column_below refl not_placed)

  pub set_has_the_column : x ∈ R
  set_has_the_column = answer.set_is x ∙ Theory.reason_has_the_column M x column_below refl not_placed

  pub set_inside_short : R ⊆ short M
  set_inside_short y e = Theory.reason_inside_short M x column_below refl not_placed y (sym (answer.set_is y) ∙ e)

  -- of the short set that the layered call reports
  pub set_inside_reported : (s : Answer) → LayeredCall p n a b cs ws ns s → R ⊆ members (whole s.short)
  set_inside_reported s h y e = (h.if_accepted judged).solved.is_short y ∙ set_inside_short y e

  -- ---- multipliers

  free_iff : (untouched M (reason M x) ≡ true) ↔ ((i y : ℕ) → i < b → y ∈ R → y ∈ members (get_or ws i 0) → ⊥)
  unfolding untouched
  free_iff = (
    λ e i y l m t. not_both (touching n M.T (reason M x) i) ((all_iff b (λ i. not (touching n M.T (reason M x) i))).0 e i l)
        ((touching_iff n M.T (reason M x) i).1 (y, (set_blocks.drawn y m).0, (sym (answer.set_is y) ∙ m, t))),
    λ h. (all_iff b (λ i. not (touching n M.T (reason M x) i))).1 (λ i l. in_not (touching n M.T (reason M x) i) (not_true (touching n M.T (reason M x) i)
        (λ t. let w = (touching_iff n M.T (reason M x) i).0 t in h i w.0 l (answer.set_is w.0 ∙ w.2.0) w.2.1))),
  )

  pub given_iff : (r.given ≡ true) ↔ ((i y : ℕ) → i < b → y ∈ R → y ∈ members (get_or ws i 0) → ⊥)
  given_iff = ((λ e. free_iff.0 (sym answer.is_given ∙ e)), λ h. answer.is_given ∙ free_iff.1 h)

  -- each number by its column
  at : (j : ℕ) → j < most_columns → get_or r.multipliers j 0 ≡ reason_multiplier (modulus p).0 (modulus p).1 n a b M.Q M.T M.E x j
  at j l = ap (λ (v : List ℕ). get_or v j 0) answer.multipliers_are ∙ listing_at most_columns _ j l

  pub none_given : r.given ≡ false → (j : ℕ) → get_or r.multipliers j 0 ≡ 0
  none_given e j = elim (dec_lt j most_columns) [
    | yes l ↦ at j l ∙ touched_multiplier (modulus p).0 (modulus p).1 n a b M.Q M.T M.E x (λ t. true≢false (sym t ∙ sym answer.is_given ∙ e)) j
    | no nl ↦ get_or-eq_default r.multipliers 0 (omega (arith, ap (λ (v : List ℕ). length v) answer.multipliers_are, listing_length most_columns (reason_multiplier (modulus p).0 (modulus p).1 n a b M.Q M.T M.E x)))
  ]

  -- where they are given
  module _ (g : r.given ≡ true) where
    free : untouched M (reason M x) ≡ true
    free = sym answer.is_given ∙ g

    -- they say how x depends on the other columns of the set
    pub says : Says p n a cs (R ⊖ x) x 1 r.multipliers
    says = record {
      prime = accepted.prime;
      n_most = accepted.n_most;
      x_below = column_below;
      below = λ j e. (set_blocks.drawn j (⊖-in R x j e).0).0;
      answer = subst (λ (S : Set). ListedDependenceShown p n a cs (S ⊖ x) x 1 r.multipliers) (sym the_set) shown;
    }
      where
        shown : ListedDependenceShown p n a cs (reason M x ⊖ x) x 1 r.multipliers
        shown = record {
          outcome_is = sym ((outcome_1 (modulus p).0 (modulus p).1 a n M.Q (reason M x ⊖ x) x).1 (let w = Theory.reason_depends M x column_below refl not_placed free in (w.0, (w.1.0, w.1.1))));
          multipliers_are = answer.multipliers_are ∙ listing_same most_columns _ _ (λ j l. untouched_multiplier (modulus p).0 (modulus p).1 n a b M.Q M.T M.E x free j);
        }

    -- none of those columns has the multiplier 0
    pub not_zero : (y : ℕ) → y ∈ R → y ≢ x → get_or r.multipliers y 0 ≢ 0
    not_zero y e ne z =
        let below = (set_blocks.drawn y e).0 in
        let w = Theory.reason_has_multipliers (modulus p).0 (modulus p).1 n a b M.Q M.T M.E x column_below refl not_placed free in
        w.2 y (⊖-other (reason M x) x y ne ∙ sym (answer.set_is y) ∙ e)
        (sym (multiplier_given (modulus p).0 (modulus p).1 a n M.Q (reason M x ⊖ x) x w.0 y) ∙ sym (untouched_multiplier (modulus p).0 (modulus p).1 n a b M.Q M.T M.E x free y) ∙ sym (at y (omega (arith, below, accepted.n_most))) ∙ z)

    -- the call about multipliers, with these columns held, is accepted and gives the same
    pub as_multipliers_call : (held : ColumnSet) → ((y : ℕ) → members (whole held) y ≡ (R ⊖ x) y) → (m : Multipliers) → MultipliersCall p n a b cs ws ns held x m
        → (m.refusal ≡ 0) × (m.outcome ≡ 1) × (m.multipliers ≡ r.multipliers)
    as_multipliers_call held same m h =
        let due = zero_then (model_tests p n a b cs ws ns) (column_question n (whole held) x) each.0 (zero_then (named_column n x) (held_columns n (whole held)) column.0
        (zero_unless _ column_beyond ((within_iff n (whole held)).1 (λ y l e. says.below y (sym (same y) ∙ e))))) in
        let d = h.if_accepted due in
        let s = says.answer in
        let H : members (whole held) ≡ R ⊖ x = fun_ext same in (
          h.is_refusal ∙ due,
          d.outcome_is ∙ ap (λ (S : Set). outcome (modulus p).0 (modulus p).1 a n M.Q S x) H ∙ sym s.outcome_is,
          d.multipliers_are ∙ ap (λ (S : Set). listing most_columns (given (modulus p).0 (modulus p).1 a n M.Q S x)) H ∙ sym s.multipliers_are,
        )
