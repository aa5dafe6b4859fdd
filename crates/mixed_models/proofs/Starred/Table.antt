-- The table of the starred bench models: what the definitions of document 01 give for S1 to S11, for the mixed ones through the mixed theorem.
-- Assumes nothing.
use Rattle.std.specs.Prelude.{ℕ, ◌+◌, ◌≡◌, refl, true, List, [], ◌∷◌}
use Rattle.std.proofs.Common.{ap, ◌∙◌, arith}
use Rattle.std.proofs.Math.Bool.{decide}
use mathlib.Core.Logic.Dec
use Rattle.std.proofs.Math.Decide.{ℕ_discrete, dec_le, dec_lt}
use Rattle.residue.specs.Arithmetic.{Prime, is_prime, undivided, inv_of, last}
use Rattle.residue.specs.Residues.{residues, res, mk, plus, times}
use Rattle.counting.specs.Bools.{true?}
use Rattle.counting.specs.Sets.{#, indicator, all, any, set, choose, touching}
use Rattle.counting.specs.Beside.{beside}
use Rattle.columns.specs.Columns.{members}
use Rattle.rank.specs.Modulus.{modulus, modulus_at}
use Rattle.rank.specs.Verdict.{verdict_number}
use Rattle.rank.specs.Linear.Kernels.{hits}
use Rattle.rank.specs.Linear.Tableaus.{pivot}
use Rattle.rank.specs.Layered.Model.{Model, same_row}
use Rattle.rank.specs.Layered.Rank.{rank, placed, short, verdict}
use Rattle.listed_models.specs.ListedModel.{listed_modulo}
use Rattle.mixed_models.specs.Mixed.{Mixed, mixed_at, unit, mixed_rank, mixed_verdict, layered_form}
use Rattle.mixed_models.proofs.MixedTheorem.{form_rank}
use Rattle.mixed_models.specs.Starred.Lists.{among, seats, all_below_n}
use Rattle.mixed_models.specs.Starred.Pivots.{pivoted_tableau, owners, proper, owns}
use Rattle.mixed_models.specs.Starred.Claims.{Claim, earlier, sits, apart, sound, rows_left, spares, spared, within_set, refuses, refused_by, places_all, below_all, passes}
use Rattle.mixed_models.specs.Starred.Checked.{claimed}
use Rattle.mixed_models.specs.Starred.Models.{S1, S2, S3, S4, S5, S6, S7, S8, S9, S10, S11}
use Rattle.mixed_models.specs.Starred.Evidence.{claim_S1, claim_S2, claim_S3, claim_S4, claim_S5, claim_S6, claim_S7, claim_S8, claim_S9, claim_S10, claim_S11}

-- the answer to a layered model: verdict, rank, placed set, short set
pub record Answers (M : Model) (the-verdict the_rank : ℕ) (the_placed the_short : List ℕ) : Type 0 where
  pub is_verdict : verdict M ≡ the-verdict
  pub is_rank : rank M ≡ the_rank
  pub is_placed : (x : ℕ) → placed M x ≡ among the_placed x
  pub is_short : (x : ℕ) → short M x ≡ among the_short x

-- the answer to a mixed model: verdict, rank, and the short set of the layered form
pub record MixedAnswers (X : Mixed) (the-verdict the_rank : ℕ) (the_short : List ℕ) : Type 0 where
  pub is_verdict : mixed_verdict X ≡ the-verdict
  pub is_rank : mixed_rank X ≡ the_rank
  pub is_short : (x : ℕ) → short (layered_form X) x ≡ among the_short x

-- what document 01 says of S1 to S11, with document 02's E8: verdict, rank, placed set, short set
pub record Table : Type 0 where
  pub s1 : Answers S1 0 0 [] (0 ∷ [])
  pub s2 : Answers S2 1 2 (0 ∷ 1 ∷ []) []
  pub s3 : Answers S3 0 1 (0 ∷ []) (0 ∷ 1 ∷ [])
  pub s4 : Answers S4 0 4 (0 ∷ 1 ∷ 2 ∷ 4 ∷ []) (2 ∷ 3 ∷ [])
  pub s5 : Answers S5 0 1 (0 ∷ []) (0 ∷ 1 ∷ [])
  pub s6 : Answers S6 1 2 (0 ∷ 1 ∷ []) []
  pub s7 : MixedAnswers S7 1 1 []
  pub s8 : MixedAnswers S8 0 1 (2 ∷ 3 ∷ [])
  pub s9 : MixedAnswers S9 1 2 []
  pub s10 : Answers S10 0 1 (0 ∷ []) (1 ∷ [])
  pub s11 : Answers S11 2 1 (0 ∷ []) []

answers : (M : Model) (c : Claim) (v : ℕ) → passes M c ≡ true → verdict_number c.the_rank (# M.n M.E) (M.a + M.b) ≡ v
    → Answers M v c.the_rank c.the_placed c.the_short
unfolding verdict
answers M c v e f = record {
  is_verdict = ap (λ (k : ℕ). verdict_number k (# M.n M.E) (M.a + M.b)) (claimed M c e).0 ∙ f;
  is_rank = (claimed M c e).0;
  is_placed = (claimed M c e).1;
  is_short = (claimed M c e).2;
}

mixed_answers : (X : Mixed) (c : Claim) (v r : ℕ) → passes (layered_form X) c ≡ true → c.the_rank ≡ X.m + r → verdict_number r X.n X.m ≡ v
    → MixedAnswers X v r c.the_short
unfolding mixed_verdict
mixed_answers X c v r e s f =
    let is_r : mixed_rank X ≡ r = omega (arith, form_rank X, (claimed (layered_form X) c e).0) in record {
      is_verdict = ap (λ (k : ℕ). verdict_number k X.n X.m) is_r ∙ f;
      is_rank = is_r;
      is_short = (claimed (layered_form X) c e).2;
    }

-- all that has to be opened to test the evidence
unfoldable run : ℕ
unfolding residues res mk plus times inv_of last members # indicator any all set choose touching beside unit pivot hits same_row among seats all_below_n pivoted_tableau owners proper owns sits apart sound rows_left spares spared earlier within_set refuses refused_by places_all below_all passes decide Dec.not ℕ_discrete dec_le dec_lt
run = 0

-- each claim passes its test: at 1,021, and S5 at 3
record Passing (P : Prime 1021) (R : Prime 3) : Type 0 where
  s1 : passes (listed_modulo 1021 P 1 0 0 [] []) claim_S1 ≡ true
  s2 : passes (listed_modulo 1021 P 2 1 1 (1 ∷ 0 ∷ []) (2 ∷ [])) claim_S2 ≡ true
  s3 : passes (listed_modulo 1021 P 2 2 0 (1 ∷ 1 ∷ 1 ∷ 1 ∷ []) []) claim_S3 ≡ true
  s4 : passes (listed_modulo 1021 P 5 2 2 (1 ∷ 1 ∷ 1 ∷ 1 ∷ 0 ∷ 0 ∷ 2 ∷ 1 ∷ 1 ∷ 0 ∷ []) (17 ∷ 18 ∷ [])) claim_S4 ≡ true
  s5 : passes (listed_modulo 3 R 2 2 0 (1 ∷ 2 ∷ 2 ∷ 1 ∷ []) []) claim_S5 ≡ true
  s6 : passes (listed_modulo 1021 P 2 2 0 (1 ∷ 2 ∷ 2 ∷ 1 ∷ []) []) claim_S6 ≡ true
  s7 : passes (layered_form (mixed_at 1021 P 1 1 (1 ∷ []) (1 ∷ []))) claim_S7 ≡ true
  s8 : passes (layered_form (mixed_at 1021 P 2 2 (1 ∷ 1 ∷ 1 ∷ 1 ∷ []) (0 ∷ 0 ∷ []))) claim_S8 ≡ true
  s9 : passes (layered_form (mixed_at 1021 P 2 2 (1 ∷ 1 ∷ 1 ∷ 1 ∷ []) (1 ∷ 0 ∷ []))) claim_S9 ≡ true
  s10 : passes (listed_modulo 1021 P 2 0 2 [] (1 ∷ 1 ∷ [])) claim_S10 ≡ true
  s11 : passes (listed_modulo 1021 P 1 0 2 [] (1 ∷ 1 ∷ [])) claim_S11 ≡ true

passing : (P : Prime 1021) (R : Prime 3) → Passing P R
unfolding run
passing P R = record { s1 = refl; s2 = refl; s3 = refl; s4 = refl; s5 = refl; s6 = refl; s7 = refl; s8 = refl; s9 = refl; s10 = refl; s11 = refl }

pub table : Table
unfolding modulus modulus_at true? is_prime undivided # indicator verdict_number
table = let holds : Passing (modulus 1021).1 (modulus 3).1 = passing (modulus 1021).1 (modulus 3).1 in record {
  s1 = answers S1 claim_S1 0 holds.s1 refl;
  s2 = answers S2 claim_S2 1 holds.s2 refl;
  s3 = answers S3 claim_S3 0 holds.s3 refl;
  s4 = answers S4 claim_S4 0 holds.s4 refl;
  s5 = answers S5 claim_S5 0 holds.s5 refl;
  s6 = answers S6 claim_S6 1 holds.s6 refl;
  s7 = mixed_answers S7 claim_S7 1 1 holds.s7 refl refl;
  s8 = mixed_answers S8 claim_S8 0 1 holds.s8 refl refl;
  s9 = mixed_answers S9 claim_S9 1 2 holds.s9 refl refl;
  s10 = answers S10 claim_S10 0 holds.s10 refl;
  s11 = answers S11 claim_S11 2 holds.s11 refl;
}
