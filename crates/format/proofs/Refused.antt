-- Every refusal has a number. Assumes nothing.
use Rattle.std.specs.Prelude.{◌≢◌}
use Rattle.std.proofs.Common.{arith}
use Rattle.format.specs.Refused.{refusal_number}
use Rattle.format.specs.declared.refusals.Refusal.{Refusal}
use Rattle.format.specs.declared.refusals.Refusal.TheVariants.{Truncated, Unexpected, NotPrime, SizesBeyond, ConstantBeyond, ParameterBeyond, Trailing, AreaShort, RowBeyond, NotMixed, ColumnBeyond, ColumnPlaced, NumberTwice, AlreadySo, NoDegree}

pub refusal_some : (e : Refusal) → refusal_number e ≢ 0
refusal_some Truncated = λ q. omega arith
refusal_some Unexpected = λ q. omega arith
refusal_some NotPrime = λ q. omega arith
refusal_some SizesBeyond = λ q. omega arith
refusal_some ConstantBeyond = λ q. omega arith
refusal_some ParameterBeyond = λ q. omega arith
refusal_some Trailing = λ q. omega arith
refusal_some AreaShort = λ q. omega arith
refusal_some RowBeyond = λ q. omega arith
refusal_some NotMixed = λ q. omega arith
refusal_some ColumnBeyond = λ q. omega arith
refusal_some ColumnPlaced = λ q. omega arith
refusal_some NumberTwice = λ q. omega arith
refusal_some AlreadySo = λ q. omega arith
refusal_some NoDegree = λ q. omega arith
