-- Whether a claim is accepted depends on the first a × n constants and the first b parameter rows alone: two calls with the same ones agree. Assumes nothing.
use Rattle.std.specs.Prelude.{ℕ, ◌*◌, ◌≡◌, true, List, take}
use Rattle.std.proofs.Common.{sym, ◌∙◌}
use Rattle.std.proofs.Math.Logic.{by_cases}
use Rattle.std.proofs.Math.Option.{Option}
use Rattle.std.proofs.Math.Decide.{ℕ_discrete}
use Rattle.counting.specs.Bools.{iff_eq}
use Rattle.rank.specs.Modulus.{modulus}
use Rattle.listed_models.specs.ListedModel.{listed_model}
use Rattle.format.specs.Refusals.{refusal}
use Rattle.acceptance.specs.Answers.{ClaimAccepted, AcceptanceCall}
use Rattle.acceptance.specs.declared.Claim.{Claim}
use Rattle.acceptance.specs.Shown.{Acceptance}
use Rattle.promises.specs.Fixed.{SameAcceptance}
use Rattle.promises.specs.AgreeLaws.{legal_to, sum_same}
use Rattle.promises.specs.AnswerLaws.{agree}

-- one way
accepted_to : (p n a b : ℕ) (cs ds ws vs : List ℕ) → take (a * n) cs ≡ take (a * n) ds → take b ws ≡ take b vs → (c : Claim) → ClaimAccepted (listed_model p n a b cs ws) c → ClaimAccepted (listed_model p n a b ds vs) c
accepted_to p n a b cs ds ws vs ec ew c h =
    let M = listed_model p n a b cs ws in
    let N = listed_model p n a b ds vs in
    let e = agree p n a b cs ds ws vs ec ew in
    let k = h.is_accepted in
    record {
      assignment = h.assignment;
      is_shown = h.is_shown;
      is_accepted = record {
        is_legal = legal_to (modulus p).0 (modulus p).1 n a b (λ y. true) M.Q N.Q M.T N.T e h.assignment k.is_legal;
        as_many = k.as_many;
        columns = k.columns;
        has_sum = sym (sum_same (modulus p).0 (modulus p).1 n a b (λ y. true) M.Q N.Q M.T N.T e _) ∙ k.has_sum;
      };
    }

-- both ways, whatever the numbers, where the refusals are the same
pub acceptance_calls_same : (p n a b : ℕ) (cs ds ws vs : List ℕ) → take (a * n) cs ≡ take (a * n) ds → take b ws ≡ take b vs → (c : Claim) (ns ms : Option (List ℕ)) → refusal p n a b cs ws ns ≡ refusal p n a b ds vs ms
    → (r s : Acceptance) → AcceptanceCall p n a b cs ws ns c r → AcceptanceCall p n a b ds vs ms c s → SameAcceptance r s
acceptance_calls_same p n a b cs ds ws vs ec ew c ns ms e r s h g =
    by_cases (ℕ_discrete (refusal p n a b cs ws ns) 0)
    (λ z.
    let u = h.if_accepted z in
    let v = g.if_accepted (sym e ∙ z) in record {
      same_refusal = first;
      same_accepted = iff_eq r.accepted s.accepted
          (λ t. v.1 (accepted_to p n a b cs ds ws vs ec ew c (u.0 t)))
          (λ t. u.1 (accepted_to p n a b ds cs vs ws (sym ec) (sym ew) c (v.0 t)));
    })
    (λ nz. record { same_refusal = first; same_accepted = h.if_refused nz ∙ sym (g.if_refused (λ z. nz (e ∙ z))) })
  where
    first : r.refusal ≡ s.refusal
    first = h.is_refusal ∙ e ∙ sym g.is_refusal
