-- How long the body of a parameter row is: never longer than a set's bytes, and with a bit for each column of a model. Assumes nothing.
use Rattle.std.specs.Prelude.{ℕ, ◌+◌, ◌*◌, ◌≤◌, ◌<◌, ◌≡◌, cond}
use Rattle.std.proofs.Common.{ap, mul-le-mul, arith, le-leb}
use Rattle.std.proofs.Math.Decide.{dec_lt}
use Rattle.std.proofs.lemmas.Bool.{lt-leb}
use Rattle.limits.specs.Limits.{most_columns, most_rows, set_bytes}
use Rattle.format.specs.Refusals.{head_bytes}
use Rattle.format.specs.File.Format.{narrow_columns, narrow_bytes, parameter_size}

pub narrow_size : (n : ℕ) → n ≤ narrow_columns → parameter_size n ≡ narrow_bytes
unfolding parameter_size
narrow_size n h = ap (λ b. cond b narrow_bytes set_bytes) (le-leb n narrow_columns h)

pub wide_size : (n : ℕ) → narrow_columns < n → parameter_size n ≡ set_bytes
unfolding parameter_size
wide_size n h = ap (λ b. cond b narrow_bytes set_bytes) (lt-leb n narrow_columns h)

pub parameter_size_most : (n : ℕ) → parameter_size n ≤ set_bytes
parameter_size_most n = elim (dec_lt narrow_columns n) [ yes h ↦ omega (arith, wide_size n h) | no h ↦ omega (arith, narrow_size n (omega arith)) ]

-- the bytes of the most rows
pub parameter_rows_most : (b n : ℕ) → b ≤ most_rows → b * (head_bytes + parameter_size n) ≤ most_rows * (head_bytes + set_bytes)
parameter_rows_most b n l = mul-le-mul l (let w : head_bytes + parameter_size n ≤ head_bytes + set_bytes = omega (arith, parameter_size_most n) in w)

pub parameter_room : (n : ℕ) → n ≤ most_columns → n ≤ 8 * parameter_size n
parameter_room n l = elim (dec_lt narrow_columns n) [ yes h ↦ omega (arith, wide_size n h) | no h ↦ omega (arith, narrow_size n (omega arith)) ]
