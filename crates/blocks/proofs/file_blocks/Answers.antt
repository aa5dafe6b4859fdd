-- `blocks::file_blocks`: the answer about what was read is the answer about the file. Assumes nothing.
use Rattle.std.proofs.Common.{rules, refl, subst}
use Rattle.std.proofs.lemmas.Result.{err_from_is_err_and}
use Rattle.columns.specs.Words.Bytes.{AreBytes}
use Rattle.rank.specs.Layered.Model.{Model}
use Rattle.format.specs.TestLaws.{model_accepted}
use Rattle.format.proofs.Refused.{refusal_some}
use Rattle.layered.proofs.FileLaws.{own_refusal, own_accepted, own_model, judged, call_refused, call_answered}
use Rattle.blocks.specs.Answers.{BlocksAnswered}
use Rattle.blocks.specs.Shown.{blocks_shown}
use Rattle.std.specs.Prelude.{Ok}
use Rattle.blocks.proofs.file_blocks.Goals as goal

pub returns-in_err-sizes : goal.returns-in_err-sizes
returns-in_err-sizes c =
    let bytes : AreBytes c.args.file.now = λ i. search (rules, c.type_inv.file i) in
    let p = err_from_is_err_and c.from_residual.result c.from_residual.ensures.1 in
    rw (p.1, p.2) (call_refused (own_refusal bytes c.in_err-sizes.ensures) (refusal_some _) (record { no_blocks = refl; no_numbers = refl }))

pub ask-requires : goal.ask-requires
ask-requires c =
    let bytes : AreBytes c.args.file.now = λ i. search (rules, c.type_inv.file i) in
    rw c.model.ensures (model_accepted _ _ _ _ _ _ _ (own_accepted bytes c.in_ok-sizes.ensures refl))

pub returns : goal.returns
returns c =
    let bytes : AreBytes c.args.file.now = λ i. search (rules, c.type_inv.file i) in
    let call = c.in_ok-sizes.ensures in
    call_answered (judged bytes call refl) refl
    (subst (λ (M : Model). BlocksAnswered M (blocks_shown (Ok c.ask.result))) (own_model bytes call refl) (rw c.model.ensures at c.ask.ensures).answer)
