-- `judge::judge_head` meets its contract. Assumes nothing.
use Rattle.std.proofs.Common.{arith, ◌≡◌, ◌-◌, refl, sym, ap, ◌∙◌, length, length-drop, le-leb}
use Rattle.std.proofs.lemmas.Bool.{lt-leb}
use Rattle.std.proofs.lemmas.List.{length-take-le}
use Rattle.std.proofs.Common.{take}
use Rattle.format.specs.Refusals.{head_bytes, body_test}
use Rattle.format.proofs.Parts.{ends_drop, part_next}
use Rattle.format.proofs.Judging.{refuses, gives, head_none, head_undue, head_cut, head_whole}
use Rattle.format.proofs.judge.judge_head.Goals as goal

pub returns-then-rest-lt-HEAD_BYTES : goal.returns-then-rest-lt-HEAD_BYTES
returns-then-rest-lt-HEAD_BYTES c = refuses (head_none _ _ _ c.if-rest-lt-HEAD_BYTES.true)

pub returns-then-not-due : goal.returns-then-not-due
returns-then-not-due c = refuses (head_undue _ _ _ c.if-rest-lt-HEAD_BYTES.false (sym c.is_due-due.ensures ∙ c.if-not-due.true))

pub returns-then-not-whole : goal.returns-then-not-whole
unfolding body_test
returns-then-not-whole c =
    let b : length c.past_head-behind.result.now ≡ length c.args.rest.now - head_bytes = ap length c.past_head-behind.ensures.bytes_are ∙ length-drop head_bytes c.args.rest.now in
    refuses (head_cut _ _ _ c.if-rest-lt-HEAD_BYTES.false (sym c.is_due-due.ensures ∙ c.if-not-due.false) (lt-leb _ _ (omega arith)))

pub returns : goal.returns
unfolding body_test
returns c =
    let s = c.args.rest in
    let behind = c.past_head-behind in
    let b : length behind.result.now ≡ length s.now - head_bytes = ap length behind.ensures.bytes_are ∙ length-drop head_bytes s.now in
    gives (sym (head_whole _ _ _ c.if-rest-lt-HEAD_BYTES.false (sym c.is_due-due.ensures ∙ c.if-not-due.false) (le-leb _ _ (omega arith)))) (record {
      body_is = ap (take c.args.size) behind.ensures.bytes_are;
      body_length = length-take-le c.args.size behind.result.now (omega arith);
      rest_is = part_next behind.ensures (ends_drop head_bytes s.now) c.args.size (omega arith) refl refl refl refl;
    })
