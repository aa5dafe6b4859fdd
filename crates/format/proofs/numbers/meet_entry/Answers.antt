-- `numbers::meet_entry` meets its contract. Assumes nothing.
use Rattle.std.proofs.Common.{ℕ, arith, subst, ◌+◌, ◌*◌, ◌/◌, ◌%◌, ◌≡◌, ◌∷◌, [], true, false, sym, ◌∙◌}
use Rattle.columns.specs.Columns.{members}
use Rattle.columns.specs.ColumnSets.{whole}
use Rattle.format.specs.NumberTable.{Meets, entry_at}
use Rattle.format.specs.NumberLaws.{meets_none}
use Rattle.format.proofs.numbers.meet_entry.Goals as goal

pub returns-then-not-contains : goal.returns-then-not-contains
unfolding entry_at
returns-then-not-contains c =
    let t : members (whole c.args.set) c.args.c ≡ false = sym c.contains.ensures ∙ c.if-not-contains.true in
    rw t (meets_none c.args.table.now)

pub returns : goal.returns
unfolding entry_at
returns c =
    let t : members (whole c.args.set) c.args.c ≡ true = sym c.contains.ensures ∙ c.if-not-contains.false in
    let k = c.args.number in
    let q : k % 256 + 256 * (k / 256 % 256) ≡ k = omega (arith, c.ranges.number) in
    rw t (subst (λ (i : ℕ). Meets (i ∷ []) c.args.table.now c.meet.new.table c.meet.result) q (rw c.to_le_bytes.ensures at c.meet.ensures))
