-- `read::read_file` meets its contract. Assumes nothing.
use Rattle.std.proofs.Common.{sym, ◌∙◌}
use Rattle.std.proofs.lemmas.Result.{err_from_is_err_and}
use Rattle.loader.proofs.Reading.{file_refused, file_short, rows_refused, room_enough, numbers_read, unnumbered_read}
use Rattle.loader.proofs.read.read_file.Goals as goal

pub returns-in_err-sizes : goal.returns-in_err-sizes
returns-in_err-sizes c = let p = err_from_is_err_and c.from_residual.result c.from_residual.ensures.1 in rw (p.1, p.2) (file_refused _ _ _ _ _ c.in_err-sizes.ensures)

pub returns-then-not-numbers_held : goal.returns-then-not-numbers_held
returns-then-not-numbers_held c = file_short _ _ _ _ c.in_ok-sizes.ensures (sym c.numbers_held.ensures ∙ c.if-not-numbers_held.true)

pub returns-in_err-fill_rows : goal.returns-in_err-fill_rows
returns-in_err-fill_rows c =
    let p = err_from_is_err_and c.from_residual-in_err-fill_rows.result c.from_residual-in_err-fill_rows.ensures.1 in rw (p.1, p.2) (rows_refused _ _ _ _ c.in_ok-sizes.ensures (sym c.numbers_held.ensures ∙ c.if-not-numbers_held.false) _ c.in_err-fill_rows.ensures)

pub put_numbers-requires : goal.put_numbers-requires
put_numbers-requires c =
    (c.in_ok-sizes.ensures.a_small, room_enough c.in_ok-sizes.ensures _ (sym c.numbers_held.ensures ∙ c.if-not-numbers_held.false) c.if-sizes.true)

pub returns-then-sizes : goal.returns-then-sizes
returns-then-sizes c =
    numbers_read _ _ _ _ c.in_ok-sizes.ensures (sym c.numbers_held.ensures ∙ c.if-not-numbers_held.false) c.in_ok-fill_rows.ensures c.if-sizes.true c.put_numbers.ensures

pub returns-else-sizes : goal.returns-else-sizes
returns-else-sizes c =
    unnumbered_read _ _ _ _ c.in_ok-sizes.ensures (sym c.numbers_held.ensures ∙ c.if-not-numbers_held.false) c.in_ok-fill_rows.ensures c.if-sizes.false
