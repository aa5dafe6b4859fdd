-- A column read off the tableau when the held columns have been placed on the constant rows. Assumes nothing.
use Prim.Native.Nat.{ℕ, ◌+◌, ◌*◌, ◌≤◌, ◌<◌}
use mathlib.Core.Path.{◌≡◌, sym, ap, ◌∙◌}
use mathlib.Core.Logic.{◌≢◌, inl, inr}
use mathlib.Core.Bool.{true, false, not}
use mathlib.Core.List.{List}
use native.Mathlib.Omega.{arith}
use native.Mathlib.Nat.{mod-eq_of_lt}
use native.Mathlib.Decide.{dec_lt}
use lib.ListN.{get_or, replicate, get_or-replicate, length-replicate, get_or-eq_default}
use Rattle.limits.specs.Limits.{most_columns}
use Rattle.residue.specs.Arithmetic.{Prime, is_prime}
use Rattle.residue.specs.Residues.{num_of, num_of_res}
use Rattle.counting.specs.Bools.{true?, not_true, iff_eq, and_in, and_left, and_right, not_of, not_both}
use Rattle.counting.specs.Sets.{Set, ◌∈◌, ◌⊆◌, ◌∩◌, ∁, Some, #}
use Rattle.columns.specs.Columns.{width, least}
use Rattle.columns.specs.Words.SetLaws.{least_there, nothing_in}
use Rattle.rank.specs.Modulus.{modulus, field_of}
use Rattle.rank.specs.ModulusLaws.{modulus_is, residue_zero}
use Rattle.rank.specs.Independent.{independent}
use Rattle.rank.proofs.IndependentLaws.{independent_iff}
use Rattle.rank.specs.Linear.Tableaus.{owned}
use Rattle.rank.specs.Graph.States.{State, Placed, placed_of, placed_iff}
use Rattle.rank.specs.Layered.Model.{Model}
use Rattle.rank.proofs.Layered.Assignments.{offered_owner}
use Rattle.rank.proofs.Layered.Offers.{state_answers}
use Rattle.dependence.specs.Multipliers.{depends, multiplier, given}
use Rattle.dependence.specs.TableauLaws.{owned_columns_independent, state_owns}
use Rattle.dependence.proofs.NumberLaws.{multiplier_not_held, multiplier_none, outcome_dependent, none_given, outcome_depends, outcome_independent, multiplier_given}
use Rattle.dependence.specs.ListingLaws.{listed, zeros_listed}
use Rattle.dependence.proofs.Theorems.{held_all_placed, state_shows_multipliers, state_shows_independence}
use Rattle.exchange.specs.Sizes.{stride}
use Rattle.exchange.specs.DependenceCall.{DependenceShown}
use Rattle.exchange.specs.Code.Cells.{cell, Below}
use Rattle.exchange.specs.Code.Scanning.{owner_at}
use Rattle.exchange.specs.Code.Held.{Given, model_of}
use Rattle.exchange.specs.Code.Offering.{Offered-all}
use Rattle.exchange.specs.Code.Reading.{FreeZero, Entry, EntriesByOwner}

-- ---- the entries of no row

module _ (n x : ℕ) (t o : List ℕ) where
  zeros_at : (k j : ℕ) → get_or {A = ℕ} (replicate k 0) j 0 ≡ 0
  zeros_at k j = elim (dec_lt j k) [ yes l ↦ get_or-replicate {A = ℕ} k j 0 0 l | no nl ↦ get_or-eq_default {A = ℕ} (replicate k 0) 0 (omega (arith, length-replicate {A = ℕ} k 0)) ]

  pub entries_none : EntriesByOwner n 0 x t o (replicate most_columns 0)
  entries_none = record { full = length-replicate {A = ℕ} most_columns 0; each = λ j. inr (zeros_at most_columns j, λ q l. absurd (omega arith)) }

-- ---- held columns that are not among the placed ones

pub one_missing : (H S : Set) → # width (H ∩ ∁ S) ≢ 0 → (y : ℕ) × (y ∈ H) × (y ∈ S → ⊥)
one_missing H S some =
    let y = least width (H ∩ ∁ S) in
    let e : y ∈ (H ∩ ∁ S) = (least_there width (H ∩ ∁ S) some).1 in
    (y, and_left (H y) (not (S y)) e, not_both (S y) (and_right (H y) (not (S y)) e))

pub none_missing : (H S : Set) → # width (H ∩ ∁ S) ≡ 0 → ((y : ℕ) → y ∈ H → y < width) → (y : ℕ) → y ∈ H → y ∈ S
none_missing H S none low y e = elim (true? (S y)) [ yes k ↦ k | no nk ↦ absurd (nothing_in width (H ∩ ∁ S) none y (low y e) (and_in e (not_of (S y) nk))) ]

-- ---- the column

-- the model without parameter rows that is offered the columns in H
abbrev pub offering_held : (p n : ℕ) (ws : List ℕ) (Q : ℕ → ℕ → (field_of p).F) → Set → Given p n 0 ws
offering_held p n ws Q H = record { Q = Q; T = λ r x. false; E = H; parameters = λ r x l. absurd (omega arith) }

module _ (p n a : ℕ) (prime : is_prime p ≡ true) (ws t o : List ℕ) (G : Given p n 0 ws) (in_set : Set) (d : Offered-all p n a 0 ws G t o in_set) (bt : Below p t)
    (below : (j : ℕ) → j ∈ G.E → j < n) (x : ℕ) (lx : x < n) where
  abbrev q : ℕ
  q = (modulus p).0

  abbrev P : Prime q
  P = (modulus p).1

  abbrev M : Model
  M = model_of p n a 0 ws G

  abbrev s : State n (a + 0)
  s = d.held.s

  owner_is : (h : ℕ) → h < a → owner_at o h ≡ s.owner h
  owner_is h l = d.held.owners h (omega arith)

  -- a held column that is not placed: the held columns are dependent
  held_dependent : (y : ℕ) → y ∈ G.E → (y ∈ in_set → ⊥) → independent q P a n G.Q G.E ≡ false
  held_dependent y e out = not_true (independent q P a n G.Q G.E) (λ i.
      let l : y < n = below y e in
      out ((d.are_placed y).1 (
        l,
        (placed_iff s y).0 (sym ((state_answers M s d.held.good d.all_offered).is_placed_set y l)
            ∙ held_all_placed M G.E below ((independent_iff q P a n G.Q G.E).0 i) y l ∙ e),
      )))

  pub held_columns_dependent : (y : ℕ) → y ∈ G.E → (y ∈ in_set → ⊥) → DependenceShown p n a G.Q G.E x 2 (replicate most_columns 0)
  held_columns_dependent y e out =
      let i = held_dependent y e out in
      record {
        outcome_is = sym (outcome_dependent q P a n G.Q G.E x i);
        multipliers_are = zeros_listed most_columns _ (λ j l. none_given q P a n G.Q G.E x i j);
      }

  -- all held columns are placed
  module _ (all : (y : ℕ) → y ∈ G.E → y ∈ in_set) where
    places : (y : ℕ) → y < n → placed_of s y ≡ G.E y
    places y l = iff_eq (placed_of s y) (G.E y)
        (λ e. let w : Placed s y = (placed_iff s y).0 e in rw (sym w.2) (offered_owner M s d.held.good w.0 w.1 (rw w.2 l)))
        (λ e. (placed_iff s y).1 ((d.are_placed y).0 (all y e)).1)

    owns : G.E ⊆ owned a s.owner
    owns = state_owns M G.E s places below

    held_independent : independent q P a n G.Q G.E ≡ true
    held_independent = (independent_iff q P a n G.Q G.E).1
        (owned_columns_independent G.Q d.held.good.P s.owner d.held.good.kernel d.held.good.tableau G.E owns)

    -- the column is not zero in a free row
    pub column_independent : Some a (λ h. (n ≤ owner_at o h) × (cell t h x ≢ 0)) → DependenceShown p n a G.Q G.E x 0 (replicate most_columns 0)
    column_independent f =
        let h : ℕ = f.0 in
        let no_dependence : depends q P a n G.Q G.E x ≡ false
        = state_shows_independence q P n a G.Q G.T G.E below s d.held.good places x lx h f.1 (omega (arith, owner_is h f.1, f.2.0))
        (λ z. f.2.1 ((residue_zero p prime (cell t h x) (bt _)).0 (d.held.cells h x f.1 lx ∙ z))) in
        record {
          outcome_is = sym (outcome_independent q P a n G.Q G.E x held_independent no_dependence);
          multipliers_are = zeros_listed most_columns _
              (λ j l. multiplier_given q P a n G.Q G.E x held_independent j ∙ multiplier_none q P a n G.Q G.E x no_dependence j);
        }

    -- the column is zero in every free row
    module _ (z : FreeZero n a x t o) where
      shown : (depends q P a n G.Q G.E x ≡ true)
          × ((h : ℕ) → h < a → s.owner h < n → multiplier q P a n G.Q G.E x (s.owner h) ≡ num_of q P (d.held.good.P h x))
      shown = state_shows_multipliers q P n a G.Q G.T G.E below s d.held.good places x lx
          (λ h lh f. sym (d.held.cells h x lh lx) ∙ (residue_zero p prime (cell t h x) (bt _)).1 (z h lh (omega (arith, owner_is h lh))))

      -- the multiplier of an owner is the entry in its row
      entry_shown : (h : ℕ) → h < a → owner_at o h < n → multiplier q P a n G.Q G.E x (owner_at o h) ≡ cell t h x
      entry_shown h lh lo = ap (multiplier q P a n G.Q G.E x) (owner_is h lh) ∙ shown.1 h lh (omega (arith, owner_is h lh))
          ∙ ap (num_of q P) (sym (d.held.cells h x lh lx)) ∙ num_of_res q P (cell t h x) ∙ mod-eq_of_lt (omega (arith, modulus_is p prime, bt (h * stride + x)))

      no_owner : (j : ℕ) → ((h : ℕ) → h < a → owner_at o h < n → owner_at o h ≢ j) → j ∈ G.E → ⊥
      no_owner j none e =
          let w : Placed s j = ((d.are_placed j).0 (all j e)).1 in
          let lw : w.0 < a = omega (arith, w.1) in
          none w.0 lw (omega (arith, owner_is w.0 lw, w.2, below j e)) (owner_is w.0 lw ∙ w.2)

      entry_is : (j v : ℕ) → Entry n a x t o j v → v ≡ given q P a n G.Q G.E x j
      entry_is j v e = elim e [
        | inl w ↦ w.2.2 ∙ sym (entry_shown w.0 w.1 w.2.0) ∙ ap (multiplier q P a n G.Q G.E x) w.2.1
            ∙ sym (multiplier_given q P a n G.Q G.E x held_independent j)
        | inr w ↦ w.0 ∙ sym (multiplier_given q P a n G.Q G.E x held_independent j ∙ multiplier_not_held q P a n G.Q G.E x j (no_owner j w.1))
      ]

      pub column_depends : (entries : List ℕ) → EntriesByOwner n a x t o entries → DependenceShown p n a G.Q G.E x 1 entries
      column_depends entries w = record {
        outcome_is = sym (outcome_depends q P a n G.Q G.E x held_independent shown.0);
        multipliers_are = listed most_columns _ entries w.full (λ j l. entry_is j (get_or entries j 0) (w.each j));
      }
