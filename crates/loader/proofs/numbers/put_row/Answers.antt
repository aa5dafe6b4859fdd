-- `numbers::put_row` meets its contract. Assumes nothing.
use Rattle.std.specs.Prelude.{ℕ, List, ◌+◌, ◌-◌, ◌*◌, ◌<◌, ◌≡◌, ◌++◌, [], ◌∷◌, length, get_or, take}
use Rattle.std.proofs.Common.{arith, refl, sym, ap, ◌∙◌, append-nil, take_all}
use Rattle.std.specs.Slice.Iter.{chunks_exact_rest}
use Rattle.columns.specs.Bytes.{number}
use Rattle.columns.specs.Columns.{room_bytes, members}
use Rattle.columns.specs.ColumnSets.{whole}
use Rattle.format.specs.Numbers.{spread}
use Rattle.format.specs.File.Format.{entries}
use Rattle.format.specs.File.Piece.{said_body}
use Rattle.format.specs.File.Steps.{row_entries_said}
use Rattle.format.proofs.Entries.{entries_done}
use Rattle.loader.proofs.Reading.{given_nothing, entries_taken, spread_taken, spread_out, spread_passed, spread_stored}
use Rattle.loader.proofs.numbers.put_row.Goals.{then-contains+in-Some, then-contains+in_default, else-contains}
use Rattle.loader.proofs.numbers.put_row.Goals as goal

pub loop-c-preserved : goal.loop-c-preserved
loop-c-preserved c =
    let l = c.loop-c in
    let S = members (whole c.of_bytes-set.result) in
    let below : l.c < length l.out = omega (arith, l.auto.out, c.loop-c-test.true) in
    elim c.if-contains.branch [
      | then-contains+in-Some w ↦
          let s = w.in-Some.ensures.steps in
          let x = w.in-Some.pair.now in
          let t = chunks_exact_rest w.next.new.self in
          let e : get_or x 0 0 + 256 * get_or x 1 0 ≡ w.from_le_bytes.result = omega arith in
          let n = entries_taken _ x t s.1.0 (s.1.1 ∙ l.invariant.by_two) ∙ ap (λ (y : ℕ). y ∷ entries t) e in
          record {
            put = rw (w.out-is, w.numbers-is) (spread_stored S l.out l.c _ _ _ _ below (rw n at l.invariant.put) (spread_taken S l.c (length l.out) below _ _ (sym c.contains.ensures ∙ w.if-contains.true)));
            by_two = rw w.numbers-is (s.0 ∙ l.invariant.by_two);
          }
      | then-contains+in_default w ↦
          let s = w.next.ensures.steps in
          let none = given_nothing _ _ w.in_default.not-Some s.1 in
          let short = entries_done _ (rw l.invariant.by_two at none.0) in
          record {
            put = rw (w.out-is, w.numbers-is, none.1) (rw short (spread_stored S l.out l.c 0 _ _ _ below (rw short at l.invariant.put) (spread_out S l.c (length l.out) below (sym c.contains.ensures ∙ w.if-contains.true))));
            by_two = rw w.numbers-is (s.0 ∙ l.invariant.by_two);
          }
      | else-contains w ↦
          record {
            put = rw (w.out-is, w.numbers-is) (spread_stored S l.out l.c 0 _ _ _ below l.invariant.put (spread_passed S l.c (length l.out) below _ (sym c.contains.ensures ∙ w.if-contains.false)));
            by_two = rw w.numbers-is l.invariant.by_two;
          }
    ]

pub returns : goal.returns
unfolding row_entries_said spread
returns c =
    let l = c.loop-c in
    let n : length l.out - l.c ≡ 0 = omega (arith, l.auto.out, c.loop-c-test.false) in
    let all : take l.c l.out ≡ l.out = take_all l.c l.out (omega (arith, l.auto.out, c.loop-c-test.false)) in
    let w : whole c.of_bytes-set.result ≡ number (take room_bytes (said_body c.args.row.now)) = c.of_bytes-set.ensures.is_number ∙ ap (λ (t : List ℕ). number (take room_bytes t)) c.said_body.ensures.bytes_are in
    let body = c.chunks_exact-numbers.ensures.rest ∙ c.said_body-2.ensures.bytes_are ∙ ap said_body c.said_rest.ensures.bytes_are in
    let p : l.out ++ [] ≡ spread (members (whole c.of_bytes-set.result)) 0 (length l.out) (entries (chunks_exact_rest c.chunks_exact-numbers.result)) = rw (n, all) at l.invariant.put in
    sym (append-nil l.out) ∙ p ∙ rw (w, body, l.auto.out) refl
