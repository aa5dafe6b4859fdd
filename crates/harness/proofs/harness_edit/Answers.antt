-- `harness::harness_edit` meets its contract, by what the calls ensure. Assumes nothing.
use Prim.Native.Nat.{ℕ, ◌≤◌}
use mathlib.Core.Path.{◌≡◌, refl, sym, ap, ◌∙◌}
use mathlib.Core.List.{List}
use native.Mathlib.Omega.{arith}
use lib.ListN.{length, take}
use lib.Seq.{take_all, length-take-le}
use borrow.Author.Tests.{lt-leb}
use Rattle.std.specs.Prelude.{Ok}
use Rattle.limits.specs.Limits.{set_bytes}
use Rattle.columns.specs.Bytes.{number}
use Rattle.columns.specs.Columns.{room_bytes}
use Rattle.format.specs.Refusals.{area_test}
use Rattle.format.specs.RefusalLaws.{accepted_value}
use Rattle.format.proofs.Refused.{refusal_some}
use Rattle.editing.specs.Shown.{edit_shown}
use Rattle.editing.specs.Edits.{meant, edit_by, EditNamed}
use Rattle.editing.specs.declared.edit.Edit.{Edit}
use Rattle.harness.proofs.OpenLaws.{kind_refused, area_refused, edit_refused, edit_put}
use Rattle.harness.proofs.harness_edit.Goals as goal

-- the edit is the one named, and the set the one that the area shows
named : {kind row column : ℕ} {e : Edit} → EditNamed kind row column (edit_shown (Ok e)) → meant e ≡ edit_by kind row column
named h = h.is_edit ∙ accepted_value 0 h.is_refusal refl _ _

shown : (present : List ℕ) → set_bytes ≤ length present → number (take room_bytes (take set_bytes present)) ≡ number (take set_bytes present)
shown present long = ap number (take_all room_bytes (take set_bytes present) (omega (arith, length-take-le set_bytes present long)))

pub returns-in-Err : goal.returns-in-Err
returns-in-Err c = rw c.from.ensures (kind_refused _ _ _ _ _ _ _ _ _ _ _ c.in-Err.ensures.is_refusal (refusal_some c.in-Err.refusal))

pub returns-then-present-lt-SET_BYTES : goal.returns-then-present-lt-SET_BYTES
unfolding area_test
returns-then-present-lt-SET_BYTES c = rw c.from-then-present-lt-SET_BYTES.ensures (area_refused _ _ _ _ _ _ _ _ _ _ (sym c.in-Ok.ensures.is_refusal) (lt-leb _ _ c.if-present-lt-SET_BYTES.true))

pub returns-in-Ok-edit_model : goal.returns-in-Ok-edit_model
returns-in-Ok-edit_model c =
    let long = c.if-present-lt-SET_BYTES.false in
    let held = c.of_bytes-set.ensures.is_number ∙ shown c.args.present.now long in
    rw c.number.ensures (edit_put _ _ _ _ _ _ _ _ _ _ (sym c.in-Ok.ensures.is_refusal) long _ held c.in-Ok.edit (named c.in-Ok.ensures) c.in-Ok-edit_model.ensures refl _ c.put_set.ensures)

pub returns-in-Err-edit_model : goal.returns-in-Err-edit_model
returns-in-Err-edit_model c =
    let long = c.if-present-lt-SET_BYTES.false in
    let held = c.of_bytes-set.ensures.is_number ∙ shown c.args.present.now long in
    rw c.from-in-Err-edit_model.ensures
    (edit_refused _ _ _ _ _ _ _ _ _ _ (sym c.in-Ok.ensures.is_refusal) long _ held c.in-Ok.edit (named c.in-Ok.ensures) c.in-Err-edit_model.ensures (refusal_some c.in-Err-edit_model.refusal))
