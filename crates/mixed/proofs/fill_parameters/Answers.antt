-- `mixed::fill_parameters` meets its contract. Assumes nothing.
use Rattle.std.proofs.Common.{ℕ, ◌≡◌, ◌<◌, length, get_or, ap, ◌∙◌, arith}
use borrow.Author.Count.{below_more}
use lib.ListN.{set, length-set}
use lib.Seq.{get_or-set_same, get_or-set_other}
use Rattle.counting.specs.Sets.{Set}
use Rattle.columns.specs.Columns.{members, inserted, moved_up}
use Rattle.columns.specs.ColumnSets.{whole, row_numbers}
use Rattle.columns.specs.Words.Rows.{rows_with_row, with_row_length}
use Rattle.mixed.specs.MixedForm.{form_row}
use Rattle.mixed.proofs.fill_parameters.Goals as goal

pub loop-i-preserved : goal.loop-i-preserved
loop-i-preserved c =
    let l = c.loop-i in
    let a = c.args in
    let ws = row_numbers l.words in
    let w = whole c.with.result in
    let rows_are : row_numbers c.put_row.new.words ≡ set ws l.i w = ap row_numbers c.put_row.ensures ∙ rows_with_row l.words l.i w in
    let inside : l.i < length ws = omega arith in
    let is_made : members w ≡ form_row a.m (members (get_or (row_numbers a.parameters.now) l.i 0)) l.i = c.with.ensures ∙ ap (λ (S : Set). inserted S l.i) (c.raised-own.ensures ∙ ap (λ (v : ℕ). moved_up (members v) a.m) c.row.ensures) in
    record {
      same_rows = ap length rows_are ∙ length-set ws l.i w ∙ l.invariant.same_rows;
      made = rw rows_are (below_more (λ k. members (get_or (set ws l.i w) k 0) ≡ form_row a.m (members (get_or (row_numbers a.parameters.now) k 0)) k) l.i
          (λ k m. ap members (get_or-set_other ws l.i k w 0 (λ z. omega arith)) ∙ l.invariant.made k m)
          (ap members (get_or-set_same ws l.i w 0 inside) ∙ is_made));
      same_length = ap length c.put_row.ensures ∙ with_row_length l.words l.i w ∙ l.invariant.same_length;
    }
