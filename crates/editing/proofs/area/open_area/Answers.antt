-- `area::open_area`: the file is read, and its model written behind the columns present.
use Rattle.std.proofs.Common.{rules, refl}
use Rattle.std.proofs.lemmas.Result.{err_from_is_err_and}
use Rattle.columns.specs.ColumnSets.{Fits}
use Rattle.columns.specs.Words.Bytes.{AreBytes}
use Rattle.format.proofs.Refused.{refusal_some}
use Rattle.editing.proofs.OpenAreaLaws.{open_refused, open_short, unwritten, opens}
use Rattle.editing.proofs.area.open_area.Goals as goal

pub returns-in_err-sizes : goal.returns-in_err-sizes
returns-in_err-sizes c =
    let bytes : AreBytes c.args.file.now = λ i. search (rules, c.type_inv.file i) in
    let p = err_from_is_err_and c.from_residual.result c.from_residual.ensures.1 in
    rw (p.1, p.2) (open_refused c.args.file.now c.args.area.now bytes c.in_err-sizes.ensures (refusal_some _))

pub returns-then-area-lt-SET_BYTES : goal.returns-then-area-lt-SET_BYTES
returns-then-area-lt-SET_BYTES c =
    let bytes : AreBytes c.args.file.now = λ i. search (rules, c.type_inv.file i) in
    open_short c.args.file.now c.args.area.now bytes c.in_ok-sizes.ensures refl c.if-area-lt-SET_BYTES.true

pub returns-in_err-write_file : goal.returns-in_err-write_file
returns-in_err-write_file c =
    let bytes : AreBytes c.args.file.now = λ i. search (rules, c.type_inv.file i) in
    let p = err_from_is_err_and c.from_residual-in_err-write_file.result c.from_residual-in_err-write_file.ensures.1 in
    rw (p.1, p.2)
    (unwritten c.args.file.now c.args.area.now bytes c.in_ok-sizes.ensures refl c.if-area-lt-SET_BYTES.false (rw c.model-model.ensures at c.in_err-write_file.ensures) (refusal_some _))

pub returns : goal.returns
returns c =
    let bytes : AreBytes c.args.file.now = λ i. search (rules, c.type_inv.file i) in
    let fits : Fits c.below.result = search (rules, c.below.type_inv) in
    let w = rw c.model-model.ensures at c.in_ok-write_file.ensures in
    let long = c.if-area-lt-SET_BYTES.false in
    opens c.args.file.now c.args.area.now bytes c.in_ok-sizes.ensures refl long w refl fits c.below.ensures c.put_set.ensures
