-- What writing a model as a file promises of the length or the refusal that it returns. Definitions only.
use Rattle.std.specs.Prelude.{ℕ, List, Result, Ok, Err}
use Rattle.std.proofs.Math.Option.{Option}
use Rattle.models.specs.declared.LentModel.{LentModel}
use Rattle.models.specs.Lent.{constants_lent, rows_lent, numbers_lent}
use Rattle.format.specs.declared.refusals.Refusal.{Refusal}
use Rattle.format.specs.Refused.{refusal_of}
use Rattle.format.specs.File.Format.{WriteCall}

-- how many bytes were written: none where the writing is refused
abbrev pub length_given : Result ℕ Refusal → ℕ
length_given (Ok length) = length
length_given (Err e) = 0

-- what is returned, and the area afterwards
abbrev pub FileWritten : (p n a b : ℕ) (cs ws : List ℕ) → Option (List ℕ) → List ℕ → Result ℕ Refusal → (out' : List ℕ) → Type 0
FileWritten p n a b cs ws ns out r out' = WriteCall p n a b cs ws ns out (refusal_of r) (length_given r) out'

-- the same of a model that is lent
abbrev pub WriteModelCall : LentModel → List ℕ → Result ℕ Refusal → (out' : List ℕ) → Type 0
WriteModelCall m = FileWritten m.p m.n m.a m.b (constants_lent m) (rows_lent m) (numbers_lent m)
