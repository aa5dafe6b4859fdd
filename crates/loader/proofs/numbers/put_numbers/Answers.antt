-- `numbers::put_numbers` meets its contract. Assumes nothing.
use Rattle.std.specs.Prelude.{ℕ, List, ◌+◌, ◌-◌, ◌*◌, ◌≤◌, ◌≡◌, length, take, drop}
use Rattle.std.proofs.Common.{add-one, suc-mul, arith, ap, ◌∙◌, length-drop}
use native.Mathlib.Nat.{zero-mul}
use Rattle.std.proofs.Math.Seq.{length-take-le}
use Rattle.format.specs.Lists.{over}
use Rattle.format.specs.File.Steps.{row_entries_said, numbers_said}
use Rattle.format.specs.OverLaws.{wrote_none, wrote_all}
use Rattle.format.proofs.Puts.{room_left}
use Rattle.loader.proofs.Reading.{numbers_next, numbers_done, numbers_said_length, row_entries_length, wrote_part}
use Rattle.loader.proofs.numbers.put_numbers.Goals as goal

pub loop-r-init : goal.loop-r-init
loop-r-init c =
    let all : c.args.sizes.b - 0 ≡ c.args.sizes.b = omega arith in
    rw (all, zero-mul) (wrote_none _ _ (omega (arith, numbers_said_length c.args.sizes.n c.args.sizes.b c.after_fields-rest.result.now, c.requires.1)))

pub slice_bounds-put_row-end : goal.slice_bounds-put_row-end
slice_bounds-put_row-end c =
    let l = c.loop-r in
    let n = c.args.sizes.n in
    let r : l.r * n + length (row_entries_said n l.rest.now) ≤ length l.out = (room_left (row_entries_said n l.rest.now) _ l.invariant (numbers_next c.args.sizes.b l.r l.rest.now n c.loop-r-test.true)).0 in
    omega (arith, r, row_entries_length n l.rest.now)

pub loop-r-preserved : goal.loop-r-preserved
loop-r-preserved c =
    let l = c.loop-r in
    let n = c.args.sizes.n in
    let s = l.rest.now in
    let at = l.r * n in
    let next = numbers_next c.args.sizes.b l.r s n c.loop-r-test.true in
    let long = row_entries_length n s in
    let room : at + n ≤ length l.out = omega (arith, (room_left (row_entries_said n s) _ l.invariant next).0, long) in
    let k : at + n - at ≡ n = omega arith in
    let m : length (take n (drop at l.out)) ≡ n = length-take-le n (drop at l.out) (rw length-drop (omega arith)) in
    let e : c.put_row.new.out ≡ row_entries_said n s = c.put_row.ensures ∙ ap (λ (j : ℕ). row_entries_said j s) (ap (λ (j : ℕ). length (take j (drop at l.out))) k ∙ m) in
    let end : (l.r + 1) * n ≡ at + n = rw add-one (suc-mul l.r n) in
    rw (k, e, c.after_fields-rest-in-loop-r.ensures, end) (wrote_part (row_entries_said n s) _ n l.invariant next long)

pub returns : goal.returns
returns c = wrote_all c.loop-r.invariant (numbers_done c.args.sizes.b c.loop-r.r c.loop-r.rest.now c.args.sizes.n c.loop-r-test.false) ∙ ap (λ (t : List ℕ). over (numbers_said c.args.sizes.n c.args.sizes.b t) c.args.out.now) c.after_fields-rest.ensures
