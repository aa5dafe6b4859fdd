-- `layered::offered_rank`: an answer is that of the model, and a model that the solver gives none is refused.
use Rattle.std.proofs.Common.{rules, arith, ◌≡◌, ℕ, ◌<◌, ◌≤◌, length, true, refl, sym, ◌∙◌}
use Rattle.std.proofs.Math.Option.{none}
use Rattle.std.proofs.lemmas.Result.{err_from_is_err_and}
use Rattle.limits.specs.Limits.{most_columns, most_rows}
use Rattle.counting.specs.Sets.{Set}
use Rattle.columns.specs.Columns.{members, within}
use Rattle.columns.specs.Words.Sets.{whole_below}
use Rattle.columns.specs.ColumnSets.{whole, Fits}
use Rattle.models.specs.Lent.{constants_lent, rows_lent}
use Rattle.exchange.specs.Solve.{admissible, SolvedBy}
use Rattle.exchange.specs.SolveLaws.{admissible_reads}
use Rattle.rank.specs.Modulus.{modulus}
use Rattle.listed_models.specs.ListedModel.{listed_at}
use Rattle.format.specs.Refusals.{refusal}
use Rattle.layered.proofs.AnswerLaws.{taken_accepted, offered_passed, shows_offered, offered_count, rank_small, answered}
use Rattle.layered.proofs.FileLaws.{answer_refused}
use Rattle.layered.proofs.offered_rank.Goals.{In-Some}
use Rattle.layered.proofs.offered_rank.Goals as goal

taken : (c : In-Some) → let m = c.args.model.now in admissible m.p m.n m.a m.b (whole c.args.offered) (constants_lent m) (rows_lent m) ≡ true
taken c = c.in-Some.ensures.is_answer.is_admissible

solved_by : (c : In-Some) → let m = c.args.model.now in (E : Set) → ((x : ℕ) → x < m.n → E x ≡ members (whole c.args.offered) x)
    → SolvedBy (listed_at (modulus m.p).0 (modulus m.p).1 m.n m.a m.b (constants_lent m) (rows_lent m) E) c.in-Some.s
solved_by c E e = let m = c.args.model.now in c.in-Some.ensures.is_answer.for_each _ _ E (shows_offered m.p m.n m.a m.b (whole c.args.offered) (constants_lent m) (rows_lent m) E e)

pub overflow_add-model : goal.overflow_add-model
overflow_add-model c = let fits = (admissible_reads _ _ _ _ _ _ _ (taken (goal.at.overflow_add-model c).In-Some)).fits in omega (arith, fits.constant_rows, fits.parameter_rows)

pub overflow_cast-rank : goal.overflow_cast-rank
overflow_cast-rank c =
    let s = (goal.at.overflow_cast-rank c).In-Some in
    let m = c.args.model.now in
    let E = members (whole c.args.offered) in
    let columns : m.n ≤ most_columns = (admissible_reads _ _ _ _ _ _ _ (taken s)).fits.columns in
    omega (arith, (solved_by s E (λ x l. refl)).is_rank, rank_small (listed_at (modulus m.p).0 (modulus m.p).1 m.n m.a m.b (constants_lent m) (rows_lent m) E))

pub returns-in_err-judge_offered : goal.returns-in_err-judge_offered
returns-in_err-judge_offered c =
    let p = err_from_is_err_and c.from_residual.result c.from_residual.ensures.1 in
    rw (p.1, p.2) (answer_refused _ c.in_err-judge_offered.ensures)

pub returns : goal.returns
returns c =
    let given = (goal.at.returns c).In-Some in
    let m = c.args.model.now in
    let offered_fits : Fits c.args.offered = search (rules, c.well_formed) in
    let rows_long : length c.in-Some.s.rows ≡ most_rows = search (rules, c.solution_of.type_inv) in
    let placed_fits : Fits c.in-Some.s.placed = search (rules, c.solution_of.type_inv) in
    let short_fits : Fits c.in-Some.s.short = search (rules, c.solution_of.type_inv) in
    let zero : refusal m.p m.n m.a m.b (constants_lent m) (rows_lent m) none ≡ 0 = taken_accepted m.p m.n m.a m.b (constants_lent m) (rows_lent m) _ c.in-Some.ensures.passes (taken given) in
    let inside : within m.n (whole c.args.offered) ≡ true = (admissible_reads _ _ _ _ _ _ _ (taken given)).inside in
    let none_refused = offered_passed _ _ _ _ _ _ _ zero inside in
    record {
      is_refusal = none_refused;
      if_refused = λ z. absurd (z (sym none_refused));
      if_accepted = λ z. record {
        over = λ E e. answered m.p m.n m.a m.b (constants_lent m) (rows_lent m) E _ _
            (c.size.ensures ∙ offered_count m.n (whole c.args.offered) E (whole_below _ offered_fits) inside e)
            placed_fits short_fits rows_long c.verdict_of-verdict.ensures (solved_by given E e);
      };
    }
