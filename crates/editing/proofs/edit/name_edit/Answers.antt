-- `edit::name_edit`: each kind names its edit, and another is refused.
use Rattle.std.proofs.Common.{arith, refl, sym, []}
use Rattle.format.specs.Refusals.{first_refusal, unexpected}
use Rattle.format.specs.RefusalLaws.{first_fails, where_refused}
use Rattle.editing.specs.Edits.{edit_by}
use Rattle.editing.proofs.EditLaws.{no_kind}
use Rattle.editing.proofs.edit.name_edit.Goals as goal

pub returns-in-1 : goal.returns-in-1
unfolding first_refusal edit_by
returns-in-1 c = rw c.in-1.is (record { is_refusal = refl; is_edit = refl })

pub returns-in-2 : goal.returns-in-2
unfolding first_refusal edit_by
returns-in-2 c = rw c.in-2.is (record { is_refusal = refl; is_edit = refl })

pub returns-in-3 : goal.returns-in-3
unfolding first_refusal edit_by
returns-in-3 c = rw c.in-3.is (record { is_refusal = refl; is_edit = refl })

pub returns-in-4 : goal.returns-in-4
unfolding first_refusal edit_by
returns-in-4 c = rw c.in-4.is (record { is_refusal = refl; is_edit = refl })

pub returns-in_default : goal.returns-in_default
returns-in_default c =
    let z = first_fails _ unexpected [] (no_kind c.args.kind (omega arith) (omega arith) (omega arith) (omega arith)) in
    record { is_refusal = z; is_edit = sym (where_refused _ z (λ e. omega arith) _ _) }
