-- What a model that is handed over holds, as lists. Definitions only.
use Rattle.std.specs.Prelude.{ℕ, List, Option, None, Some}
use Rattle.std.specs.Borrow.{Bor}
use Rattle.std.proofs.Math.Option as lists
use Rattle.columns.specs.ColumnSets.{row_numbers}
use Rattle.models.specs.declared.LentModel.{LentModel}

-- the numbers of the parameters, where they are lent
abbrev pub lent_numbers : Option (Bor (List ℕ)) → lists.Option (List ℕ)
lent_numbers None = lists.none
lent_numbers (Some ks) = lists.some ks.now

-- the constants, the parameter rows as numbers, and the numbers
abbrev pub constants_lent : LentModel → List ℕ
constants_lent m = m.constants.now

abbrev pub rows_lent : LentModel → List ℕ
rows_lent m = row_numbers m.parameters.now

abbrev pub numbers_lent : LentModel → lists.Option (List ℕ)
numbers_lent m = lent_numbers m.numbers

-- the model of these numbers and lent rows, without numbers
abbrev pub unnumbered_lent : (p n a b : ℕ) (constants : Bor (List ℕ)) (parameters : Bor (List ℕ)) → LentModel
unnumbered_lent p n a b cs ws = record { p = p; n = n; a = a; b = b; constants = cs; parameters = ws; numbers = None }
