-- `layered::unnumbered_rank`: all columns are offered.
use Rattle.std.proofs.Common.{arith, sym, ◌∙◌, true}
use Rattle.std.proofs.Math.Option.{none}
use Rattle.format.specs.TestLaws.{model_accepted}
use Rattle.layered.proofs.AnswerLaws.{all_offered, below_within, offered_all}
use Rattle.layered.proofs.unnumbered_rank.Goals as goal

pub returns : goal.returns
returns c =
    let all = c.below.ensures in
    let h = c.offered_rank.ensures in
    let e = all_offered _ _ _ _ _ _ _ (below_within _ _ all) in
    record {
      is_refusal = h.is_refusal ∙ e;
      if_refused = λ z. h.if_refused (λ y. z (sym e ∙ y));
      if_accepted = λ z. (h.if_accepted (e ∙ z)).over (λ x. true) (offered_all _ _ all (omega (arith, (model_accepted _ _ _ _ _ _ none z).n_most)));
    }
