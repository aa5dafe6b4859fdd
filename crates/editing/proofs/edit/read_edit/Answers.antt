-- `edit::read_edit`: too few bytes are refused first.
use Rattle.std.proofs.Common.{arith, ◌≡◌, refl, sym, ap, ◌∙◌, ℕ, get_or}
use borrow.Author.Tests.{lt-leb, le-leb}
use Rattle.format.specs.Refusals.{first_refusal, where_accepted, truncated}
use Rattle.format.specs.RefusalLaws.{first_fails, first_passes, where_refused}
use Rattle.open_models.specs.Open.{take_off}
use Rattle.editing.specs.Edits.{kind_tests, byte_tests, edit_of}
use Rattle.editing.proofs.edit.read_edit.Goals as goal

pub returns-then-bytes-lt-EDIT_BYTES : goal.returns-then-bytes-lt-EDIT_BYTES
unfolding byte_tests
returns-then-bytes-lt-EDIT_BYTES c =
    let bytes = c.args.bytes.now in
    let z : 1 ≡ first_refusal (byte_tests bytes) = first_fails _ truncated (kind_tests (get_or bytes 0 0)) (lt-leb _ _ c.if-bytes-lt-EDIT_BYTES.true) in
    record { is_refusal = z; is_edit = sym (where_refused 1 z (λ e. omega arith) (edit_of bytes) (take_off 0)) }

pub returns : goal.returns
unfolding byte_tests edit_of
returns c =
    let h = rw (c.from.ensures, c.from-2.ensures) at c.name_edit.ensures in
    let bytes = c.args.bytes.now in
    let same = first_passes _ truncated (kind_tests (get_or bytes 0 0)) _ (le-leb _ _ c.if-bytes-lt-EDIT_BYTES.false) refl in
    record { is_refusal = h.is_refusal ∙ same; is_edit = h.is_edit ∙ ap (λ (k : ℕ). where_accepted k (edit_of bytes) (take_off 0)) same }
