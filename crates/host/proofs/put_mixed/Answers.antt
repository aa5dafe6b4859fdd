-- `host::put_mixed` meets its contract. Assumes nothing.
use Rattle.host.specs.AnswerBytes.{mixed_length}
use Rattle.host.proofs.AreaLaws.{put_refused, put_done}
use Rattle.host.proofs.put_mixed.Goals as goal

pub returns-then-out-lt-MIXED_LENGTH : goal.returns-then-out-lt-MIXED_LENGTH
returns-then-out-lt-MIXED_LENGTH c = put_refused mixed_length _ _ c.if-out-lt-MIXED_LENGTH.true

pub returns : goal.returns
returns c = put_done mixed_length _ _ c.if-out-lt-MIXED_LENGTH.false c.put_front.ensures
