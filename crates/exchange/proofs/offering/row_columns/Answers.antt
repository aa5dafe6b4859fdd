-- `exchange::offering::row_columns` meets its contract. Assumes nothing.
use Rattle.std.proofs.Common.{◌≡◌, ◌+◌, ◌<◌, length, get_or, set, refl, ◌∙◌, rules, arith}
use borrow.Author.Count.{below_more}
use lib.ListN.{get_or-replicate}
use lib.Seq.{get_or-set_same, get_or-set_other}
use Rattle.limits.specs.Limits.{most_rows, no_column}
use Rattle.exchange.specs.Code.Scanning.{owner_at}
use Rattle.exchange.specs.Code.Answer.{shown_column}
use Rattle.exchange.proofs.offering.row_columns.Goals as goal

pub loop-r-init : goal.loop-r-init
loop-r-init c = (refl, record { owners = λ k l. absurd (omega arith); past = λ k l m. get_or-replicate most_rows k no_column 0 m })

pub loop-r-preserved : goal.loop-r-preserved
loop-r-preserved c =
    let l = c.loop-r in
    let a = c.args in
    let v = c.column_shown.result in
    let inside : l.r < length l.rows = omega arith in (
      search rules,
      record {
        owners = below_more (λ k. get_or (set l.rows l.r v) k 0 ≡ shown_column a.model.now.n (owner_at a.state.now.owner (a.model.now.a + k))) l.r
            (λ k m. get_or-set_other l.rows l.r k v 0 (λ z. omega arith) ∙ l.invariant.1.owners k m)
            (get_or-set_same l.rows l.r v 0 inside ∙ c.column_shown.ensures);
        past = λ k m h. get_or-set_other l.rows l.r k v 0 (λ z. omega arith) ∙ l.invariant.1.past k (omega arith) h;
      },
    )

pub returns : goal.returns
returns c =
    let l = c.loop-r in
    (search rules, record { owners = λ k m. l.invariant.1.owners k (omega arith); past = λ k m h. l.invariant.1.past k (omega arith) h })
