-- The starred bench models of document 01. A parameter row is the word of its columns: 1 is {0}, 2 is {1}, 17 is {0, 4}, 18 is {1, 4}. Definitions only; assumes nothing.
use Rattle.std.specs.Prelude.{[], ◌∷◌}
use Rattle.rank.specs.Layered.Model.{Model}
use Rattle.listed_models.specs.ListedModel.{listed_model}
use Rattle.mixed_models.specs.Mixed.{Mixed, mixed}

-- n 1, a 0, b 0
abbrev pub S1 : Model
S1 = listed_model 1021 1 0 0 [] []

-- the file of document 01: constants 1 0, a parameter row {1}
abbrev pub S2 : Model
S2 = listed_model 1021 2 1 1 (1 ∷ 0 ∷ []) (2 ∷ [])

-- a 2, constants 1 1 and 1 1, b 0
abbrev pub S3 : Model
S3 = listed_model 1021 2 2 0 (1 ∷ 1 ∷ 1 ∷ 1 ∷ []) []

-- 001, Example 3.2
abbrev pub S4 : Model
S4 = listed_model 1021 5 2 2 (1 ∷ 1 ∷ 1 ∷ 1 ∷ 0 ∷ 0 ∷ 2 ∷ 1 ∷ 1 ∷ 0 ∷ []) (17 ∷ 18 ∷ [])

-- p 3, constants 1 2 and 2 1, b 0
abbrev pub S5 : Model
S5 = listed_model 3 2 2 0 (1 ∷ 2 ∷ 2 ∷ 1 ∷ []) []

-- the same at 1,021
abbrev pub S6 : Model
S6 = listed_model 1021 2 2 0 (1 ∷ 2 ∷ 2 ∷ 1 ∷ []) []

-- mixed 1 by 1, constant 1 and a parameter
abbrev pub S7 : Mixed
S7 = mixed 1021 1 1 (1 ∷ []) (1 ∷ [])

-- mixed 2 by 2, all constants 1
abbrev pub S8 : Mixed
S8 = mixed 1021 2 2 (1 ∷ 1 ∷ 1 ∷ 1 ∷ []) (0 ∷ 0 ∷ [])

-- the same with a parameter at row 0, column 0
abbrev pub S9 : Mixed
S9 = mixed 1021 2 2 (1 ∷ 1 ∷ 1 ∷ 1 ∷ []) (1 ∷ 0 ∷ [])

-- n 2, a 0, two parameter rows, both {0}
abbrev pub S10 : Model
S10 = listed_model 1021 2 0 2 [] (1 ∷ 1 ∷ [])

-- n 1, a 0, two parameter rows {0}
abbrev pub S11 : Model
S11 = listed_model 1021 1 0 2 [] (1 ∷ 1 ∷ [])
