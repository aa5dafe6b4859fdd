-- `read::read_entries` meets its contract. Assumes nothing.
use Rattle.std.specs.Prelude.{ℕ, ◌+◌, ◌*◌, ◌≡◌, ◌∷◌, length, get_or}
use Rattle.std.proofs.Common.{arith, sym, ap, ◌∙◌}
use Rattle.std.specs.Slice.Iter.{chunks_exact_rest}
use Rattle.std.specs.Iterator.Adapters.{enumerate_source}
use Rattle.format.specs.File.Format.{entries}
use Rattle.format.specs.OverLaws.{wrote_none, wrote_set, wrote_all}
use Rattle.format.proofs.Entries.{entries_done}
use Rattle.loader.proofs.Reading.{entries_taken, entries_count}
use Rattle.loader.proofs.read.read_entries.Goals as goal

pub loop-i-init : goal.loop-i-init
loop-i-init c =
    let e = c.into_iter-i-iterator.ensures.into_iter_gives in
    let n = c.enumerate-i-items.ensures in
    let x = c.chunks_exact.ensures in
    record { put = rw (e, n.source, n.count, x.rest) (wrote_none _ _ c.requires); by_two = rw (e, n.source) x.size }

pub bounds-out-i : goal.bounds-out-i
bounds-out-i c =
    let s = c.in-Some.ensures.steps in
    let n = entries_taken _ _ _ s.0.1.0 (s.0.1.1 ∙ c.loop-i.invariant.by_two) in
    omega (arith, ap length n, s.1, c.loop-i.invariant.put.room)

pub loop-i-preserved : goal.loop-i-preserved
loop-i-preserved c =
    let s = c.in-Some.ensures.steps in
    let x = c.in-Some.pair.now in
    let t = chunks_exact_rest (enumerate_source c.next.new.self) in
    let e : get_or x 0 0 + 256 * get_or x 1 0 ≡ c.from_le_bytes.result = omega arith in
    let n = entries_taken _ x t s.0.1.0 (s.0.1.1 ∙ c.loop-i.invariant.by_two) ∙ ap (λ (y : ℕ). y ∷ entries t) e in
    record { put = rw (s.1, s.2) (wrote_set _ _ c.loop-i.invariant.put n); by_two = s.0.0 ∙ c.loop-i.invariant.by_two }

pub returns : goal.returns
returns c =
    let s = c.in-None.ensures.steps in
    let short : entries (chunks_exact_rest (enumerate_source c.loop-i.i-iterator)) ≡ _ = entries_done _ (rw c.loop-i.invariant.by_two at s.0.1.0) in
    record { many_is = sym (entries_count c.args.body.now); bytes_are = wrote_all c.loop-i.invariant.put short }
