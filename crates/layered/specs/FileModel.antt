-- The layered model in a file. Definitions only.
use Rattle.std.specs.Prelude.{ℕ}
use mathlib.Core.List.{List, flatten}
use Rattle.rank.specs.Layered.Model.{Model}
use Rattle.listed_models.specs.ListedModel.{listed_model}
use Rattle.format.specs.File.Format.{decode}

-- the model of the numbers, constants and parameter rows that the file has
abbrev pub file_model : List ℕ → Model
file_model s = listed_model (decode s).p (decode s).n (decode s).a (decode s).b (flatten (decode s).constants) (decode s).parameters
