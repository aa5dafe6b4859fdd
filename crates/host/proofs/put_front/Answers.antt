-- `host::put_front` meets its contract: part after part, each into what is left of the area. Assumes nothing.
use Rattle.std.proofs.Common.{[], ◌∷◌, ◌++◌, append-nil, refl, sym}
use Rattle.limits.specs.Limits.{set_bytes}
use Rattle.columns.specs.Bytes.{bytes_of}
use Rattle.columns.specs.ColumnSets.{whole}
use Rattle.host.specs.AnswerBytes.{front_bytes}
use Rattle.format.specs.OverLaws.{wrote_none, wrote_set, wrote_room, wrote_all}
use Rattle.host.proofs.put_front.Goals as goal

pub returns : goal.returns
unfolding front_bytes
returns c =
    let a = c.args in
    let first = bytes_of set_bytes (whole a.first) in
    let second = bytes_of set_bytes (whole a.second) in
    let third = bytes_of set_bytes (whole a.third) in
    let w₀ = wrote_none (front_bytes a.verdict a.rank (whole a.first) (whole a.second) (whole a.third)) a.out.now c.requires in
    let w₁ = wrote_set a.rank (first ++ (second ++ third)) (wrote_set a.verdict (a.rank ∷ (first ++ (second ++ third))) w₀ refl) refl in
    let w₂ = wrote_room first (second ++ third) _ set_bytes w₁ refl c.put_set.ensures.bytes_are refl in
    let w₃ = wrote_room second third _ set_bytes w₂ refl c.put_set-2.ensures.bytes_are refl in
    wrote_all (wrote_room third [] _ set_bytes w₃ (sym (append-nil third)) c.put_set-3.ensures.bytes_are refl) refl
