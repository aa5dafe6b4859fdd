-- `blocks::ask`: what reaches each column orders the columns, and the listing is the answer. Assumes nothing.
use Rattle.std.proofs.Common.{arith, refl, sym, ◌∙◌, ◌≡◌, true}
use Rattle.std.proofs.Math.Option.{none}
use mathlib.Core.Bool.{true≢false}
use Rattle.columns.specs.Columns.{members}
use Rattle.columns.specs.ColumnSets.{whole}
use Rattle.listed_models.specs.ListedModel.{listed_model}
use Rattle.models.specs.Lent.{constants_lent, rows_lent}
use Rattle.rank.specs.Layered.Model.{Model}
use Rattle.listings.specs.Blocks.{before, share}
use Rattle.format.specs.TestLaws.{accepted_model}
use Rattle.exchange.specs.Solve.{admits}
use Rattle.layered.proofs.AnswerLaws.{shows_model, accepted_taken}
use Rattle.blocks.specs.Code.{Ordered}
use Rattle.blocks.proofs.AnswerLaws.{reach_orders, listing_answers}
use Rattle.blocks.proofs.ask.Goals.{After-column_reach, In-Some}
use Rattle.blocks.proofs.ask.Goals as goal

admitted : (c : After-column_reach) → admits c.args.model.now c.below-all.result ≡ true
admitted c = accepted_taken _ _ _ _ _ _ _ c.below-all.ensures (accepted_model _ _ _ _ _ _ none c.requires)

abbrev asked : In-Some → Model
asked c = let m = c.args.model.now in listed_model m.p m.n m.a m.b (constants_lent m) (rows_lent m)

-- its answer orders the columns
ordered : (c : In-Some) → Ordered (asked c).n (asked c).E (before (asked c)) (share (asked c)) (members (whole c.below-all.result)) c.in-Some.rows
ordered c =
    let m = c.args.model.now in
    let e = c.below-all.ensures in
    reach_orders (asked c) (members (whole c.below-all.result)) c.in-Some.rows c.requires.n_most e (λ x. refl)
    (c.in-Some.ensures.for_each _ _ _ (shows_model m.p m.n m.a m.b (constants_lent m) (rows_lent m) _ e (omega (arith, c.requires.n_most))))

pub unreachable-requires : goal.unreachable-requires
unreachable-requires c = true≢false (sym (admitted (goal.at.unreachable-requires c).After-column_reach) ∙ c.in_default.ensures)

pub list-requires : goal.list-requires
list-requires c =
    let s = (goal.at.list-requires c).In-Some in
    ((asked s).n, (asked s).E, before (asked s), share (asked s), ordered s, c.all_needs-needs.ensures (asked s).n (asked s).E (before (asked s)) (share (asked s)) (ordered s))

pub returns : goal.returns
returns c =
    let s = (goal.at.returns c).In-Some in
    let M = asked s in
    listing_answers M _ (λ x. refl)
    (c.list.ensures M.n M.E (before M) (share M) (ordered s) (c.all_needs-needs.ensures M.n M.E (before M) (share M) (ordered s)))
