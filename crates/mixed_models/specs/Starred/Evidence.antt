-- The evidence for the starred bench models: a claim for each, with the assignments and pivots that a computation tests. Definitions only; assumes nothing.
use Rattle.std.specs.Prelude.{[], ◌∷◌}
use Rattle.rank.specs.Layered.Model.{out, constant, row}
use Rattle.mixed_models.specs.Starred.Claims.{Claim}

abbrev pub claim_S1 : Claim
claim_S1 = record {
  the_rank = 0;
  the_placed = [];
  the_short = 0 ∷ [];
  witness = record { its_seats = []; its_pivots = [] };
  cut = [];
  spare = record { its_seats = []; its_pivots = [] } ∷ [];
  refused = record { its_column = 0; its_set = 0 ∷ []; its_cut = [] } ∷ [];
}

abbrev pub claim_S2 : Claim
claim_S2 = record {
  the_rank = 2;
  the_placed = 0 ∷ 1 ∷ [];
  the_short = [];
  witness = record { its_seats = constant ∷ row 0 ∷ []; its_pivots = (0, 0) ∷ [] };
  cut = [];
  spare = [];
  refused = [];
}

abbrev pub claim_S3 : Claim
claim_S3 = record {
  the_rank = 1;
  the_placed = 0 ∷ [];
  the_short = 0 ∷ 1 ∷ [];
  witness = record { its_seats = constant ∷ []; its_pivots = (0, 0) ∷ [] };
  cut = (0, 0) ∷ [];
  spare = record { its_seats = out ∷ constant ∷ []; its_pivots = (0, 1) ∷ [] }
      ∷ record { its_seats = constant ∷ []; its_pivots = (0, 0) ∷ [] } ∷ [];
  refused = record { its_column = 1; its_set = 0 ∷ 1 ∷ []; its_cut = (0, 0) ∷ [] } ∷ [];
}

abbrev pub claim_S4 : Claim
claim_S4 = record {
  the_rank = 4;
  the_placed = 0 ∷ 1 ∷ 2 ∷ 4 ∷ [];
  the_short = 2 ∷ 3 ∷ [];
  witness = record { its_seats = row 0 ∷ constant ∷ constant ∷ out ∷ row 1 ∷ []; its_pivots = (0, 1) ∷ (1, 2) ∷ [] };
  cut = (0, 2) ∷ [];
  spare = record { its_seats = row 0 ∷ constant ∷ out ∷ constant ∷ row 1 ∷ []; its_pivots = (0, 1) ∷ (1, 3) ∷ [] }
      ∷ record { its_seats = row 0 ∷ constant ∷ constant ∷ out ∷ row 1 ∷ []; its_pivots = (0, 1) ∷ (1, 2) ∷ [] } ∷ [];
  refused = record { its_column = 3; its_set = 2 ∷ 3 ∷ []; its_cut = (0, 2) ∷ [] } ∷ [];
}

abbrev pub claim_S5 : Claim
claim_S5 = claim_S3

abbrev pub claim_S6 : Claim
claim_S6 = record {
  the_rank = 2;
  the_placed = 0 ∷ 1 ∷ [];
  the_short = [];
  witness = record { its_seats = constant ∷ constant ∷ []; its_pivots = (0, 0) ∷ (1, 1) ∷ [] };
  cut = [];
  spare = [];
  refused = [];
}

-- of the layered form
abbrev pub claim_S7 : Claim
claim_S7 = record {
  the_rank = 2;
  the_placed = 0 ∷ 1 ∷ [];
  the_short = [];
  witness = record { its_seats = constant ∷ row 0 ∷ []; its_pivots = (0, 0) ∷ [] };
  cut = [];
  spare = [];
  refused = [];
}

-- of the layered form
abbrev pub claim_S8 : Claim
claim_S8 = record {
  the_rank = 3;
  the_placed = 0 ∷ 1 ∷ 2 ∷ [];
  the_short = 2 ∷ 3 ∷ [];
  witness = record { its_seats = constant ∷ row 1 ∷ constant ∷ out ∷ []; its_pivots = (0, 0) ∷ (1, 2) ∷ [] };
  cut = (0, 2) ∷ [];
  spare = record { its_seats = constant ∷ row 1 ∷ out ∷ constant ∷ []; its_pivots = (0, 0) ∷ (1, 3) ∷ [] }
      ∷ record { its_seats = constant ∷ row 1 ∷ constant ∷ out ∷ []; its_pivots = (0, 0) ∷ (1, 2) ∷ [] } ∷ [];
  refused = record { its_column = 3; its_set = 2 ∷ 3 ∷ []; its_cut = (0, 2) ∷ [] } ∷ [];
}

-- of the layered form
abbrev pub claim_S9 : Claim
claim_S9 = record {
  the_rank = 4;
  the_placed = 0 ∷ 1 ∷ 2 ∷ 3 ∷ [];
  the_short = [];
  witness = record { its_seats = constant ∷ row 1 ∷ row 0 ∷ constant ∷ []; its_pivots = (0, 0) ∷ (1, 3) ∷ [] };
  cut = [];
  spare = [];
  refused = [];
}

abbrev pub claim_S10 : Claim
claim_S10 = record {
  the_rank = 1;
  the_placed = 0 ∷ [];
  the_short = 1 ∷ [];
  witness = record { its_seats = row 0 ∷ []; its_pivots = [] };
  cut = [];
  spare = record { its_seats = row 0 ∷ []; its_pivots = [] } ∷ [];
  refused = record { its_column = 1; its_set = 1 ∷ []; its_cut = [] } ∷ [];
}

abbrev pub claim_S11 : Claim
claim_S11 = record {
  the_rank = 1;
  the_placed = 0 ∷ [];
  the_short = [];
  witness = record { its_seats = row 0 ∷ []; its_pivots = [] };
  cut = [];
  spare = [];
  refused = [];
}
