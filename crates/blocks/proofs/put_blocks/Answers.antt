-- `blocks::put_blocks` meets its contract. Assumes nothing.
use Rattle.std.proofs.Common.{[], append-nil, refl, sym, arith, rules, length, ◌≡◌}
use Rattle.limits.specs.Limits.{most_columns}
use Rattle.format.specs.OverLaws.{wrote_none, wrote_set, wrote_all}
use Rattle.host.proofs.AreaLaws.{put_refused, put_done, wrote_copied}
use Rattle.std.specs.Prelude.{Ok}
use Rattle.blocks.specs.Shown.{blocks_shown}
use Rattle.blocks.specs.Bytes.{blocks_length, blocks_bytes}
use Rattle.blocks.proofs.put_blocks.Goals as goal

pub returns-then-out-lt-BLOCKS_LENGTH : goal.returns-then-out-lt-BLOCKS_LENGTH
returns-then-out-lt-BLOCKS_LENGTH c = put_refused blocks_length _ _ c.if-out-lt-BLOCKS_LENGTH.true

pub returns : goal.returns
returns c =
    let b = c.args.answer.now in
    let room = c.if-out-lt-BLOCKS_LENGTH.false in
    let long : length b.numbers ≡ most_columns = search rules in
    let bytes = blocks_bytes (blocks_shown (Ok b)) in
    let w = wrote_set b.count b.numbers (wrote_none bytes c.args.out.now (omega arith)) refl in
    put_done blocks_length bytes _ room (wrote_all (wrote_copied b.numbers [] _ most_columns w (sym (append-nil b.numbers)) c.copy_from_slice.ensures.after long) refl)
