-- A model with other columns offered. Definitions only; assumes nothing.
use Rattle.counting.specs.Sets.{Set}
use Rattle.rank.specs.Layered.Model.{Model}

-- the model with the columns in S offered, and no others
abbrev pub offering : Model → Set → Model
offering M S = record { K = M.K; a = M.a; b = M.b; n = M.n; Q = M.Q; T = M.T; E = S; indep = M.indep; indep_iff = M.indep_iff }
