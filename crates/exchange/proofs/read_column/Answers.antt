-- `exchange::read_column` meets its contract, by what its callees ensure. Assumes nothing.
use Rattle.std.proofs.Common.{◌≡◌, ◌≢◌, ◌<◌, ℕ, sym, ap, ◌∙◌, rules, arith}
use borrow.Author.Tests.{eqb-true, eqb-false}
use Rattle.counting.specs.Sets.{Set, ◌∈◌, ◌∩◌, ∁, #}
use Rattle.columns.specs.Columns.{width, members}
use Rattle.columns.specs.ColumnSets.{whole}
use Rattle.columns.specs.Words.Sets.{whole_below}
use Rattle.rank.specs.Modulus.{field_of}
use Rattle.exchange.specs.Code.Offering.{Offered-all}
use Rattle.exchange.specs.Code.Held.{ShowsRows}
use Rattle.exchange.specs.Code.State.{rows_of}
use Rattle.exchange.proofs.OfferingLaws.{none_owned, offers_start}
use Rattle.exchange.proofs.ReadingLaws.{one_missing, none_missing, offering_held, held_columns_dependent, column_independent, column_depends}
use Rattle.exchange.proofs.StateLaws.{below, fresh_some, without_rows}
use Rattle.exchange.proofs.read_column.Goals.{Start, After-offer_all-placed, Else-not-is_empty}
use Rattle.exchange.proofs.read_column.Goals as goal

-- the held columns
abbrev held : Start → Set
held c = members (whole c.args.held)

held_below : (c : Start) (x : ℕ) → x ∈ held c → x < c.args.model.now.n
held_below c = below c.args.model.now.n (whole c.args.held) (whole_below c.args.held (search (rules, c.well_formed))) c.requires.2

-- what has been placed of them
abbrev in_set : After-offer_all-placed → Set
in_set c = members (whole c.offer_all-placed.result)

offered : (c : After-offer_all-placed) → let m = c.args.model.now in (Q : ℕ → ℕ → (field_of m.p).F) → ShowsRows m.p m.n m.a Q c.args.state.now.cells
    → Offered-all m.p m.n m.a 0 (rows_of m) (offering_held m.p m.n (rows_of m) Q (members (whole c.args.held))) c.offer_all-placed.new.state.cells c.offer_all-placed.new.state.owner (in_set c)
offered c Q sh =
    let m = c.args.model.now in
    let k = (goal.at.After-offer_all-placed c).Start in
    let G = offering_held m.p m.n (rows_of m) Q (held k) in
    let f = c.requires.0 in
    without_rows c.requires.1 c.offer_all-placed.ensures.1 G
    (offers_start m.p m.n m.a 0 (rows_of m) c.args.state.now.cells c.args.state.now.owner (λ q l. rw f.free (none_owned m.n m.a (omega (arith, f.ready.lengths.constant_rows)) q (omega arith)))
    (held k) G sh (λ x. ((λ e. (held_below k x e, e)), λ w. w.1)))

-- where none of the held columns is missing, all are placed
all_placed : (c : Else-not-is_empty) → (y : ℕ) → y ∈ members (whole c.args.held) → y ∈ members (whole c.offer_all-placed.result)
all_placed c y e =
    let H = members (whole c.args.held) in
    let S = members (whole c.offer_all-placed.result) in
    let k = (goal.at.Else-not-is_empty c).Start in
    let gone : # width (H ∩ ∁ S) ≡ 0 = ap (# width) (sym c.difference-missing.ensures) ∙ eqb-true _ 0 (sym c.is_empty.ensures ∙ c.if-not-is_empty.false) in
    none_missing H S gone (λ x i. omega (arith, held_below k x i, c.requires.0.ready.lengths.columns)) y e

pub offer_all-placed-requires : goal.offer_all-placed-requires
offer_all-placed-requires c = (c.requires.0.ready, c.requires.0.inverses, fresh_some c.requires.0 (whole c.args.held) (whole_below c.args.held (search (rules, c.well_formed))) c.requires.2)

pub returns-then-not-is_empty : goal.returns-then-not-is_empty
returns-then-not-is_empty c =
    let m = c.args.model.now in
    let o = (goal.at.returns-then-not-is_empty c).After-offer_all-placed in
    let k = (goal.at.returns-then-not-is_empty c).Start in
    let some : # width (held k ∩ ∁ (in_set o)) ≢ 0 = λ z. eqb-false _ 0 (sym c.is_empty.ensures ∙ c.if-not-is_empty.true) (ap (# width) c.difference-missing.ensures ∙ z) in
    let y = one_missing (held k) (in_set o) some in
    λ Q sh. held_columns_dependent m.p m.n m.a c.requires.0.ready.prime (rows_of m) _ _ (offering_held m.p m.n (rows_of m) Q (held k)) (in_set o) (offered o Q sh) c.offer_all-placed.ensures.0.below
    (held_below k) c.args.x c.requires.3 y.0 y.1 y.2

pub returns-then-not-is_zero_where_free : goal.returns-then-not-is_zero_where_free
returns-then-not-is_zero_where_free c =
    let m = c.args.model.now in
    let at = goal.at.returns-then-not-is_zero_where_free c in
    let o = at.After-offer_all-placed in
    λ Q sh. column_independent m.p m.n m.a c.requires.0.ready.prime (rows_of m) _ _ (offering_held m.p m.n (rows_of m) Q (held at.Start)) (in_set o) (offered o Q sh) c.offer_all-placed.ensures.0.below
    (held_below at.Start) c.args.x c.requires.3 (all_placed at.Else-not-is_empty) (c.is_zero_where_free.ensures.if_false c.if-not-is_zero_where_free.true)

pub returns : goal.returns
returns c =
    let m = c.args.model.now in
    let at = goal.at.returns c in
    let o = at.After-offer_all-placed in
    λ Q sh. column_depends m.p m.n m.a c.requires.0.ready.prime (rows_of m) _ _ (offering_held m.p m.n (rows_of m) Q (held at.Start)) (in_set o) (offered o Q sh) c.offer_all-placed.ensures.0.below
    (held_below at.Start) c.args.x c.requires.3 (all_placed at.Else-not-is_empty) (c.is_zero_where_free.ensures.if_true c.if-not-is_zero_where_free.false) _ c.entries_by_owner.ensures
