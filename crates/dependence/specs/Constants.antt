-- The constants of a model alone: the model without its parameter rows, with the columns of a set offered. Definitions only; assumes nothing.
use Rattle.counting.specs.Sets.{Set}
use Rattle.rank.specs.Layered.Model.{Model}

-- the model without its parameter rows, with the columns in S offered
abbrev pub constants_only : Model → Set → Model
constants_only M S = record { K = M.K; a = M.a; b = 0; n = M.n; Q = M.Q; T = M.T; E = S; indep = M.indep; indep_iff = M.indep_iff }
