-- `area::file_in` meets its contract: what is behind the bytes of the columns, or the empty part at the end. Assumes nothing.
use Rattle.std.proofs.Common.{ℕ, ◌≡◌, ◌∙◌, List, length, drop, min, sym, ap, arith}
use native.Mathlib.Decide.{dec_lt}
use lib.ListN.{drop_of_length-le}
use lib.Seq.{drop-length}
use Rattle.limits.specs.Limits.{set_bytes}
use Rattle.format.specs.ListLaws.{tail_part}
use Rattle.editing.specs.Areas.{area_file}
use Rattle.editing.proofs.area.file_in.Goals as goal

-- behind the last byte there is nothing, from wherever it is read
cut : (k m : ℕ) (area : List ℕ) → m ≡ min (length area) k → drop m area ≡ drop k area
cut k m area e = elim (dec_lt (length area) k) [
  | yes l ↦
      let all : m ≡ length area = omega arith in
      ap (λ (i : ℕ). drop i area) all ∙ drop-length area ∙ sym (drop_of_length-le area {i = k} (omega arith))
  | no nl ↦
      let front : m ≡ k = omega arith in
      ap (λ (i : ℕ). drop i area) front
]

pub returns : goal.returns
unfolding area_file
returns c = tail_part c.min-at.result c.args.area.now ∙ cut set_bytes c.min-at.result c.args.area.now c.min-at.ensures
