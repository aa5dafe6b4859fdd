-- What the private functions of the crate give. Definitions only.
use Rattle.std.specs.Prelude.{ℕ, ◌<◌, ◌^◌, ◌≡◌, Bool, true, false, not, ◌&&◌, ◌||◌, ◌≢◌, ◌↔◌, ◌⊎◌, List, ltb, eqb, Option, MatchOption}
use Rattle.limits.specs.Limits.{no_column}
use Rattle.counting.specs.Sets.{Set, ◌∈◌}
use Rattle.columns.specs.Columns.{width, members}
use Rattle.columns.specs.ColumnSets.{whole}
use Rattle.rank.specs.ListedModel.{parameter_at}
use Rattle.claims.specs.Claim.{Names}
use Rattle.claims.proofs.ClaimLaws.{Named, Serves}
use Rattle.columns.specs.declared.ColumnSet.{ColumnSet}

-- parameter row r, one of b with the words ws, can serve column x of n, where the columns in S have a seat
unfoldable pub row_serves : (n b : ℕ) (ws : List ℕ) (S : Set) (r x : ℕ) → Bool
row_serves n b ws S r x = ltb r b && ltb x n && not (S x) && parameter_at ws r x

-- the column c that a row of a claim names, or none, gets its seat, where the columns in S have one: the row names none or can serve c, and T is all columns
-- that then have a seat
pub record RowFits (n b : ℕ) (ws : List ℕ) (S : Set) (r c : ℕ) (T : ColumnSet) : Type 0 where
  pub fits : (eqb c no_column || row_serves n b ws S r c) ≡ true
  pub columns_are : (x : ℕ) → (x ∈ members (whole T)) ↔ ((x ∈ S) ⊎ ((c ≡ x) × (x ≢ no_column)))

-- none where it cannot
abbrev pub RowSeated : (n b : ℕ) (ws : List ℕ) (S : Set) (r c : ℕ) → Option ColumnSet → Type 0
RowSeated n b ws S r c s = MatchOption s ((eqb c no_column || row_serves n b ws S r c) ≡ false) (λ T. RowFits n b ws S r c T)

-- each row of a claim serves the column that it names
abbrev pub RowsServe : (n b : ℕ) (ws : List ℕ) (side : Set) (rows : List ℕ) → Type 0
RowsServe n b ws side rows = (r x : ℕ) → Names rows r x → Serves b n (parameter_at ws) (λ y. true) side rows r x

-- the columns of all rows get their seats beside those of the side, and T is all columns that then have a seat; of a claim that is lent alone it is not known
-- otherwise that the side's number fits its words
pub record RowsFit (n b : ℕ) (ws : List ℕ) (side : ColumnSet) (rows : List ℕ) (T : ColumnSet) : Type 0 where
  pub side_small : whole side < 2 ^ width
  pub serve : RowsServe n b ws (members (whole side)) rows
  pub columns_are : (x : ℕ) → (x ∈ members (whole T)) ↔ ((x ∈ members (whole side)) ⊎ Named rows x)

-- none where they cannot
abbrev pub RowsSeated : (n b : ℕ) (ws : List ℕ) (side : ColumnSet) (rows : List ℕ) → Option ColumnSet → Type 0
RowsSeated n b ws side rows s = MatchOption s (RowsServe n b ws (members (whole side)) rows → ⊥) (λ T. RowsFit n b ws side rows T)
