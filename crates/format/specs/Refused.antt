-- The code's refusals: the cause and the number of each, and the number of what a call gives back; that of a model handed over. Definitions only.
use Rattle.std.specs.Prelude.{ℕ, Result, Ok, Err}
use Rattle.models.specs.Lent.{constants_lent, rows_lent, numbers_lent}
use Rattle.models.specs.declared.LentModel.{LentModel}
use Rattle.format.specs.Refusals.{refusal, Cause, truncated, unexpected, not_prime, sizes_beyond, constant_beyond, parameter_beyond, trailing, area_short, row_beyond, not_mixed, column_beyond, column_placed, number_twice, already_so, no_degree, number_of}
use Rattle.format.specs.declared.refusals.Refusal.{Refusal}
use Rattle.format.specs.declared.refusals.Refusal.TheVariants.{Truncated, Unexpected, NotPrime, SizesBeyond, ConstantBeyond, ParameterBeyond, Trailing, AreaShort, RowBeyond, NotMixed, ColumnBeyond, ColumnPlaced, NumberTwice, AlreadySo, NoDegree}

abbrev pub cause_of : Refusal → Cause
cause_of Truncated = truncated
cause_of Unexpected = unexpected
cause_of NotPrime = not_prime
cause_of SizesBeyond = sizes_beyond
cause_of ConstantBeyond = constant_beyond
cause_of ParameterBeyond = parameter_beyond
cause_of Trailing = trailing
cause_of AreaShort = area_short
cause_of RowBeyond = row_beyond
cause_of NotMixed = not_mixed
cause_of ColumnBeyond = column_beyond
cause_of ColumnPlaced = column_placed
cause_of NumberTwice = number_twice
cause_of AlreadySo = already_so
cause_of NoDegree = no_degree

abbrev pub refusal_number : Refusal → ℕ
refusal_number r = number_of (cause_of r)

-- 0 where something is given, and else the refusal's number
abbrev pub refusal_of : {A : Type 0} → Result A Refusal → ℕ
refusal_of (Ok x) = 0
refusal_of (Err r) = refusal_number r

-- the refusal due of a model that is handed over
abbrev pub model_refusal : LentModel → ℕ
model_refusal m = refusal m.p m.n m.a m.b (constants_lent m) (rows_lent m) (numbers_lent m)
