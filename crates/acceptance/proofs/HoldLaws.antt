-- What the tests of a claim come to, one after another: each holds of an accepted claim, and together they make one. Assumes nothing.
use Prim.Native.Nat.{ℕ, ◌<◌, ◌^◌}
use mathlib.Core.Path.{◌≡◌, refl, ◌∙◌, sym}
use mathlib.Core.Logic.{◌↔◌, ◌⊎◌, inl, inr}
use mathlib.Core.Bool.{true, false, false≢true}
use mathlib.Core.List.{List, []}
use Rattle.counting.specs.Sets.{◌∈◌, #}
use Rattle.columns.specs.Columns.{width, members, within}
use Rattle.columns.specs.Words.Operations.{within_iff}
use Rattle.rank.specs.Layered.Model.{Model, placing}
use Rattle.rank.specs.Layered.Rank.{constant_rank, sum}
use Rattle.listed_models.specs.ListedModel.{listed_model}
use Rattle.claims.specs.Claim.{AcceptsClaim}
use Rattle.claims.proofs.ClaimLaws.{Named, placed_shown, Holds, claim_iff}
use Rattle.acceptance.specs.Code.{RowsServe}
use Rattle.acceptance.proofs.SumLaws.{set_below, set_size, independent_where}

-- a claim that is not accepted
pub not_accepted : {X : Type 0} → (X → ⊥) → (false ≡ true) ↔ X
not_accepted no_way = (λ e. absurd (false≢true e), λ h. absurd (no_way h))

-- a model, and a claim of it: the rank r, the number of the side, the rows, and the number of the column set
module _ (p n a b : ℕ) (cs ws : List ℕ) (r side : ℕ) (rows : List ℕ) (set : ℕ) where
  abbrev M : Model
  M = listed_model p n a b cs ws

  abbrev Claimed : Type 0
  Claimed = AcceptsClaim M r (members side) rows (members set)

  -- what it says, of the columns that its assignment places
  said : (c : Claimed) → Holds M r (members side) rows (members set) (placing c.assignment)
  said c = (claim_iff M r (members side) rows (members set) (placing c.assignment) (placed_shown (members side) rows c.is_shown)).0 c

  pub side_inside : Claimed → within n side ≡ true
  side_inside c = (within_iff n side).1 (λ x l e. ((said c).side_columns x e).0)

  pub set_inside : Claimed → within n set ≡ true
  set_inside c = (within_iff n set).1 (λ x l e. ((said c).set_columns x e).0)

  pub rows_fit : Claimed → RowsServe n b ws (members side) rows
  rows_fit c = (said c).rows_serve

  -- where these hold, and the columns with the number all have a seat
  module _ (small : side < 2 ^ width) (inside : within n side ≡ true) (fit : RowsServe n b ws (members side) rows) (all : ℕ) (few : all < 2 ^ width)
      (are : (x : ℕ) → (x ∈ members all) ↔ ((x ∈ members side) ⊎ Named rows x)) where
    seats_inside : within n all ≡ true
    seats_inside = (within_iff n all).1 (λ x l e. elim ((are x).0 e) [ inl o ↦ set_below n side small inside x o | inr w ↦ (fit w.0 x w.2).column_below ])

    holds : Claimed → Holds M r (members side) rows (members set) (members all)
    holds = (claim_iff M r (members side) rows (members set) (members all) are).0

    pub as_many : Claimed → # width (members all) ≡ r
    as_many c = set_size n all few seats_inside ∙ (holds c).as_many

    pub independent : Claimed → constant_rank (listed_model p n a 0 cs []) (members side) ≡ # width (members side)
    independent c = (independent_where n side small inside p a cs b ws).0 (holds c).side_independent

    pub summed : Claimed → sum M (members set) ≡ r
    summed c = (holds c).set_sum

    pub accepted : within n set ≡ true → set < 2 ^ width → # width (members all) ≡ r → constant_rank (listed_model p n a 0 cs []) (members side) ≡ # width (members side) → sum M (members set) ≡ r → Claimed
    accepted set_in set_small many ind total = (claim_iff M r (members side) rows (members set) (members all) are).1 (record {
      side_columns = λ x e. (set_below n side small inside x e, refl);
      rows_serve = fit;
      side_independent = (independent_where n side small inside p a cs b ws).1 ind;
      as_many = sym (set_size n all few seats_inside) ∙ many;
      set_columns = λ x e. (set_below n set set_small set_in x e, refl);
      set_sum = total;
    })
