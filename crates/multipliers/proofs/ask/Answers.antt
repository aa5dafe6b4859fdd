-- `multipliers::ask`: the columns are judged, and the solver says how the named one depends on the held ones.
use Rattle.std.proofs.Common.{arith, ◌≡◌, ◌<◌, true, sym, ◌∙◌}
use mathlib.Core.Bool.{true≢false}
use Rattle.columns.specs.Columns.{within}
use Rattle.columns.specs.ColumnSets.{whole}
use Rattle.format.specs.declared.refusals.Refusal.TheVariants.{ColumnBeyond}
use Rattle.layered.proofs.AnswerLaws.{accepted_askable}
use Rattle.layered.proofs.FileLaws.{call_refused}
use Rattle.multipliers.proofs.AskLaws.{column_refused, held_refused, columns_pass, multipliers_refused}
use Rattle.multipliers.proofs.ask.Goals as goal

pub returns-then-column-model : goal.returns-then-column-model
returns-then-column-model c =
    let m = c.args.model.now in
    call_refused (column_refused m.n (whole c.args.held) c.args.column (omega arith)) (λ z. omega arith) (multipliers_refused ColumnBeyond)

pub returns-then-not-within : goal.returns-then-not-within
returns-then-not-within c =
    let m = c.args.model.now in
    call_refused (held_refused m.n (whole c.args.held) c.args.column (omega arith) (sym c.within.ensures ∙ c.if-not-within.true)) (λ z. omega arith) (multipliers_refused ColumnBeyond)

pub unreachable-requires : goal.unreachable-requires
unreachable-requires c =
    true≢false (sym (accepted_askable c.requires (whole c.args.held) c.args.column (sym c.within.ensures ∙ c.if-not-within.false) (omega arith)) ∙ c.in_default.ensures)

pub returns : goal.returns
returns c =
    let m = c.args.model.now in
    let inside : within m.n (whole c.args.held) ≡ true = sym c.within.ensures ∙ c.if-not-within.false in
    let l : c.args.column < m.n = omega arith in
    let zero = columns_pass m.n (whole c.args.held) c.args.column l inside in
    record {
      is_refusal = zero;
      if_refused = λ z. absurd (z (sym zero));
      if_accepted = λ z. c.in-Some.ensures.is_shown;
    }
