-- `text::put_bytes` meets its contract. Assumes nothing.
use Rattle.std.proofs.Common.{[], ◌∷◌, get_or, drop_of_length-le}
use Rattle.std.proofs.lemmas.List.{drop_more}
use Rattle.text.specs.PutLaws.{putting_none, putting_next, putting_all}
use Rattle.text.proofs.put_bytes.Goals as goal

pub loop-x-init : goal.loop-x-init
loop-x-init c = putting_none _ _ _

pub loop-x-preserved : goal.loop-x-preserved
loop-x-preserved c =
    let l = c.loop-x in
    putting_next (get_or c.args.text.now l.x-index 0 ∷ []) _ l.invariant (drop_more _ _ 0 c.loop-x-test.true) c.put_byte-place.ensures

pub returns : goal.returns
returns c = putting_all c.loop-x.invariant (drop_of_length-le _ c.loop-x-test.false)
