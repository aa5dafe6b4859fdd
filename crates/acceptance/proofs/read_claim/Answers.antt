-- `acceptance::read_claim` meets its contract: each part of the claim, by what its reading ensures. Assumes nothing.
use Rattle.std.proofs.Common.{ℕ, ◌+◌, ◌≡◌, List, refl, ap, ◌∙◌, arith, take, drop, length-take, take_all}
use Rattle.limits.specs.Limits.{most_rows, set_bytes}
use Rattle.columns.specs.Bytes.{number}
use Rattle.columns.specs.Columns.{room_bytes}
use Rattle.acceptance.specs.Bytes.{no_claim}
use Rattle.acceptance.proofs.read_claim.Goals as goal

-- a set's bytes are no more than a set has room for
set_cut : (bs : List ℕ) → number (take room_bytes (take set_bytes bs)) ≡ number (take set_bytes bs)
set_cut bs = ap number (take_all room_bytes (take set_bytes bs) (omega (arith, length-take set_bytes bs)))

pub returns-then-bytes-lt-CLAIM_LENGTH : goal.returns-then-bytes-lt-CLAIM_LENGTH
unfolding no_claim
returns-then-bytes-lt-CLAIM_LENGTH c = record {
  if_short = λ l. rw (c.empty.ensures, c.empty-then-bytes-lt-CLAIM_LENGTH.ensures) refl;
  if_long = λ l. absurd (omega (arith, l, c.if-bytes-lt-CLAIM_LENGTH.true));
}

pub returns : goal.returns
returns c =
    let bytes = c.args.bytes.now in
    record {
      if_short = λ l. absurd (omega (arith, l, c.if-bytes-lt-CLAIM_LENGTH.false));
      if_long = λ l. record {
        rank_is = refl;
        side_is = c.of_bytes-constants.ensures.is_number ∙ set_cut (drop 1 bytes);
        rows_are = c.copy_from_slice.ensures.after;
        set_is = c.of_bytes-set.ensures.is_number ∙ set_cut (drop (1 + set_bytes + most_rows) bytes);
      };
    }
