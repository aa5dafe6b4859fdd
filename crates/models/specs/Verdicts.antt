-- The verdict on a model as the code has it. Definitions only.
use Rattle.std.specs.Prelude.{ℕ}
use Rattle.models.specs.declared.Verdict.{Verdict}
use Rattle.models.specs.declared.Verdict.TheVariants.{Open, Determined, Surplus}

-- the number of each verdict: 0 "open", 1 "determined", 2 "surplus"
abbrev pub verdict_code : Verdict → ℕ
verdict_code Open = 0
verdict_code Determined = 1
verdict_code Surplus = 2
