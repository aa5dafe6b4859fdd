-- Document 02, E1: what is proved of multipliers. Assumes nothing.
use Prim.Native.Nat.{ℕ, ◌≤◌, ◌<◌}
use Rattle.std.specs.Prelude.{◌≡◌, Bool, true, false, ◌≢◌, ◌↔◌, ◌⊎◌}
use Rattle.std.proofs.Math.Path.{refl, ap}
use Rattle.std.proofs.Common.{sym, ◌∙◌, true≢false, inl, inr, arith}
use Rattle.residue.specs.Arithmetic.{Prime}
use Rattle.residue.specs.Fields.{Field}
use Rattle.residue.specs.Residues.{residues, res, num_of}
use Rattle.counting.specs.Bools.{not_true}
use Rattle.counting.specs.Sets.{Set, ◌∈◌, ◌⊆◌, #, set}
use Rattle.rank.specs.Linear.Independence.{Indep}
use Rattle.rank.specs.Graph.States.{placed_of}
use Rattle.rank.specs.Linear.Tableaus.{owned, owned_iff}
use Rattle.rank.specs.Layered.Model.{Model, is_constant, constants}
use Rattle.rank.proofs.Layered.Assignments.{row_seat_low, assignment, assignment_owned, constant_owner}
use Rattle.rank.specs.Layered.Rank.{rank, placed}
use Rattle.rank.specs.Layered.Seating.{Good}
use Rattle.rank.proofs.Layered.Augmenting.{StateOf}
use Rattle.rank.specs.Independent.{independent}
use Rattle.rank.proofs.IndependentLaws.{independent_iff}
use Rattle.listed_models.specs.ModelModulo.{model_modulo}
use Rattle.dependence.specs.Constants.{constants_only}
use Rattle.dependence.specs.ConstantSide.{full_rank_places_all, independent_by_rank}
use Rattle.dependence.specs.Multipliers.{Depends, depends, multiplier, outcome, given}
use Rattle.dependence.specs.MultiplierLaws.{unique, depends_not}
use Rattle.dependence.specs.TableauLaws as Tableau
use Rattle.dependence.proofs.NumberLaws as Numbers

-- Independent held columns have only one multiplier each.
pub multipliers_unique : {K : Field} {a n : ℕ} (Q : ℕ → ℕ → K.F) (H : Set) (x : ℕ) (c d : ℕ → K.F) → Indep K a n Q H
    → Depends K a n Q H x c → Depends K a n Q H x d → (j : ℕ) → j < n → c j ≡ d j
multipliers_unique = unique

-- the columns held in H
module _ (M : Model) (H : Set) (below : (j : ℕ) → j ∈ H → j < M.n) where
  open M use {K, a, n, Q}

  -- For the code: they are independent exactly if the rank of the constants alone, offered them, is their number; and then all of them are placed.
  pub held_independent_iff : Indep K a n Q H ↔ (rank (constants_only M H) ≡ # n H)
  held_independent_iff = independent_by_rank M H below

  pub held_all_placed : Indep K a n Q H → (y : ℕ) → y < n → placed (constants_only M H) y ≡ H y
  held_all_placed i = full_rank_places_all (constants_only M H) (held_independent_iff.0 i)

  -- A column depends on independent held columns, or it is not held and independent of them;
  pub depends_or_independent : Indep K a n Q H → (x : ℕ) → x < n → ((c : ℕ → K.F) × Depends K a n Q H x c) ⊎ ((x ∈ H → ⊥) × Indep K a n Q (set H x true))
  depends_or_independent = Tableau.depends_or_independent M H below

  -- not both.
  pub not_both : (x : ℕ) → x < n → (x ∈ H → ⊥) → (c : ℕ → K.F) → Depends K a n Q H x c → Indep K a n Q (set H x true) → ⊥
  not_both x l nx c = depends_not Q H x c l nx

-- Modulo a prime
module _ (q : ℕ) (P : Prime q) (a n : ℕ) (Q : ℕ → ℕ → (residues q P).F) (H : Set) (x : ℕ) where
  -- the test says whether a column depends on the held ones,
  pub depends_reads : (depends q P a n Q H x ≡ true) ↔ ((c : ℕ → (residues q P).F) × Depends (residues q P) a n Q H x c)
  depends_reads = Numbers.depends_iff q P a n Q H x

  -- and where it does not every multiplier is 0.
  pub multiplier_none : depends q P a n Q H x ≡ false → (j : ℕ) → multiplier q P a n Q H x j ≡ 0
  multiplier_none = Numbers.multiplier_none q P a n Q H x

  -- Where the held columns are independent, the numbers of `multiplier` are those of any multipliers that there are,
  pub multipliers_are : Indep (residues q P) a n Q H → (c : ℕ → (residues q P).F) → Depends (residues q P) a n Q H x c
      → (j : ℕ) → j < n → multiplier q P a n Q H x j ≡ num_of q P (c j)
  multipliers_are = Numbers.multipliers_are q P a n Q H x

  -- and where the column depends on them, its multipliers.
  pub multipliers_sum : Indep (residues q P) a n Q H → depends q P a n Q H x ≡ true
      → Depends (residues q P) a n Q H x (λ j. res q P (multiplier q P a n Q H x j))
  multipliers_sum = Numbers.multipliers_sum q P a n Q H x

  -- What each outcome says: 2, the held columns are not independent; 1, they are and the column depends on them; 0, they are and it does not.
  pub outcome_2 : (outcome q P a n Q H x ≡ 2) ↔ (Indep (residues q P) a n Q H → ⊥)
  outcome_2 = (
    λ e i. elim (Numbers.outcome_reads q P a n Q H x) [
      | inl w ↦ true≢false (sym ((independent_iff q P a n Q H).1 i) ∙ w.1)
      | inr v ↦ elim v [ inl w ↦ omega (arith, w.0) | inr w ↦ omega (arith, w.0) ]
    ],
    λ no-i. Numbers.outcome_dependent q P a n Q H x (not_true (independent q P a n Q H) (λ e. no-i ((independent_iff q P a n Q H).0 e))),
  )

  pub outcome_1 : (outcome q P a n Q H x ≡ 1) ↔ (Indep (residues q P) a n Q H × ((c : ℕ → (residues q P).F) × Depends (residues q P) a n Q H x c))
  outcome_1 = (
    λ e. elim (Numbers.outcome_reads q P a n Q H x) [
      | inl w ↦ absurd (omega (arith, w.0))
      | inr v ↦ elim v [ inl w ↦ ((independent_iff q P a n Q H).0 w.1, depends_reads.0 w.2) | inr w ↦ absurd (omega (arith, w.0)) ]
    ],
    λ w. Numbers.outcome_depends q P a n Q H x ((independent_iff q P a n Q H).1 w.0) (depends_reads.1 w.1),
  )

  pub outcome_0 : (outcome q P a n Q H x ≡ 0) ↔ (Indep (residues q P) a n Q H × ((c : ℕ → (residues q P).F) → Depends (residues q P) a n Q H x c → ⊥))
  outcome_0 = (
    λ e. elim (Numbers.outcome_reads q P a n Q H x) [
      | inl w ↦ absurd (omega (arith, w.0))
      | inr v ↦ elim v [
        | inl w ↦ absurd (omega (arith, w.0))
        | inr w ↦ ((independent_iff q P a n Q H).0 w.1, λ c m. true≢false (sym (depends_reads.1 (c, m)) ∙ w.2))
      ]
    ],
    λ w. Numbers.outcome_independent q P a n Q H x ((independent_iff q P a n Q H).1 w.0) (not_true (depends q P a n Q H x) (λ e. let m = depends_reads.0 e in w.1 m.0 m.1)),
  )

  -- Multipliers are given with the outcome 1 alone.
  pub given_with_1_alone : outcome q P a n Q H x ≢ 1 → (j : ℕ) → given q P a n Q H x j ≡ 0
  given_with_1_alone ne j = elim (Numbers.outcome_reads q P a n Q H x) [
    | inl w ↦ Numbers.none_given q P a n Q H x w.1 j
    | inr v ↦ elim v [
      | inl w ↦ absurd (ne w.0)
      | inr w ↦ Numbers.multiplier_given q P a n Q H x w.1 j ∙ multiplier_none w.2 j
    ]
  ]

  -- A held column depends on independent held ones, with the multiplier 1 for itself and 0 for the others;
  pub held_column : Indep (residues q P) a n Q H → x < n → x ∈ H
      → (outcome q P a n Q H x ≡ 1) × (given q P a n Q H x x ≡ 1) × ((j : ℕ) → j < n → j ≢ x → given q P a n Q H x j ≡ 0)
  held_column i = Numbers.outcome_held q P a n Q H x ((independent_iff q P a n Q H).1 i)

  -- so does a column that is zero in every constant row, with 0 for all.
  pub zero_column : Indep (residues q P) a n Q H → ((k : ℕ) → k < a → Q k x ≡ (residues q P).𝟘) → (outcome q P a n Q H x ≡ 1) × ((j : ℕ) → j < n → given q P a n Q H x j ≡ 0)
  zero_column i = Numbers.outcome_zero q P a n Q H x ((independent_iff q P a n Q H).1 i)

-- For the code: a valid state of the model without parameter rows that is offered the held columns and places them all; its owned columns are unit
-- columns.
module _ (q : ℕ) (P : Prime q) (n a : ℕ) (Q : ℕ → ℕ → (residues q P).F) (T : ℕ → ℕ → Bool) (H : Set) (below : (j : ℕ) → j ∈ H → j < n)
    (s : StateOf (model_modulo q P n a 0 Q T H)) (g : Good (model_modulo q P n a 0 Q T H) s) (places : (y : ℕ) → y < n → placed_of s y ≡ H y)
    (x : ℕ) (l : x < n) where
  -- A column that is 0 in every free row depends on the held columns, and the multiplier of the owner of a row is its entry there.
  pub state_shows_multipliers : ((h : ℕ) → h < a → n ≤ s.owner h → g.P h x ≡ (residues q P).𝟘)
      → (depends q P a n Q H x ≡ true) × ((h : ℕ) → h < a → s.owner h < n → multiplier q P a n Q H x (s.owner h) ≡ num_of q P (g.P h x))
  state_shows_multipliers z =
      let w : (depends q P a n Q H x ≡ true) × ((h : ℕ) → h < a → s.owner h ∈ H → multiplier q P a n Q H x (s.owner h) ≡ num_of q P (g.P h x))
      = Numbers.tableau_shows_the_numbers q P a n Q g.P s.owner g.kernel g.tableau H (Tableau.state_owns M H s places below) holds below x l z in
      (w.0, λ h lh lo. w.1 h lh (holds h lh lo))
    where
      M : Model
      M = model_modulo q P n a 0 Q T H

      holds : (h : ℕ) → h < a → s.owner h < n → s.owner h ∈ H
      holds = Tableau.state_holds M H s places

  -- A column that is not 0 in some free row does not depend on them.
  pub state_shows_independence : (h : ℕ) → h < a → n ≤ s.owner h → g.P h x ≢ (residues q P).𝟘 → depends q P a n Q H x ≡ false
  state_shows_independence = Numbers.tableau_shows_no_dependence q P a n Q g.P s.owner g.kernel g.tableau H
      (Tableau.state_owns (model_modulo q P n a 0 Q T H) H s places below) (Tableau.state_holds (model_modulo q P n a 0 Q T H) H s places) below x l

-- For the search: what it reads off the tableau of a valid state, by the columns on the constant side.
module _ (M : Model) (s : StateOf M) (g : Good M s) (x : ℕ) (l : x < M.n) where
  open M use {K, a, n, Q}

  side : Set
  side = constants (assignment M s)

  owns : side ⊆ owned a s.owner
  unfolding side
  owns y e = (owned_iff a s.owner y).1 (constant_owner M s y e).1

  on_side : (h : ℕ) → h < a → s.owner h < n → s.owner h ∈ side
  unfolding side
  on_side h lh lo = ap is_constant (assignment_owned M s (s.owner h) h lo (omega arith) refl ∙ row_seat_low M h lh)

  side_below : (j : ℕ) → j ∈ side → j < n
  unfolding side
  side_below j e = (constant_owner M s j e).0

  -- A column that touches no free constant row depends on the constant side, and the multiplier of the owner of a row is its entry there: so an arc by a
  -- constant row leads to a column whose multiplier is not zero.
  pub search_reads_multipliers : ((h : ℕ) → h < a → n ≤ s.owner h → g.P h x ≡ K.𝟘)
      → (c : ℕ → K.F) × Depends K a n Q (constants (assignment M s)) x c × ((h : ℕ) → h < a → s.owner h < n → c (s.owner h) ≡ g.P h x)
  unfolding side
  search_reads_multipliers z =
      let w : (c : ℕ → K.F) × Depends K a n Q side x c × ((h : ℕ) → h < a → s.owner h ∈ side → c (s.owner h) ≡ g.P h x)
      = Tableau.tableau_shows_multipliers Q g.P s.owner g.kernel g.tableau side owns on_side side_below x l z in
      (w.0, w.1, λ h lh lo. w.2 h lh (on_side h lh lo))

  -- A column that touches a free constant row is not on that side, and independent of it: it can take that row.
  pub search_reads_independence : (h : ℕ) → h < a → n ≤ s.owner h → g.P h x ≢ K.𝟘 → (x ∈ constants (assignment M s) → ⊥) × Indep K a n Q (set (constants (assignment M s)) x true)
  unfolding side
  search_reads_independence = Tableau.tableau_shows_independence Q g.P s.owner g.kernel g.tableau side owns on_side side_below x l
