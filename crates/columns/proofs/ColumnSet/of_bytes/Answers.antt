-- The high word is that of the bytes behind those of the low word, and the bits are by the bit law. Assumes nothing.
use Rattle.std.proofs.Common.{rules, arith, ℕ, refl, ◌+◌, ◌-◌, ◌<◌, ◌≤◌, ◌⊎◌, inl, inr, ◌≡◌, sym, ap, ◌∙◌, List, [], length, take, drop, length-drop, take_all, drop_of_length-le, Option, None, Some, MatchOption, Bor}
use Rattle.std.specs.List.{slice_range}
use Rattle.std.specs.Option.{unwrap_or}
use Rattle.columns.specs.Bytes.{number}
use Rattle.columns.specs.Words.Bytes.{AreBytes, bits_shown, bytes_both}
use Rattle.columns.specs.Columns.{word_bytes, room_bytes, bit}
use Rattle.columns.specs.ColumnSets.{whole, ReadFrom}
use Rattle.columns.specs.declared.ColumnSet.{ColumnSet}
use Rattle.columns.proofs.ColumnSet.of_bytes.Goals as goal

read_from : (bs : List ℕ) (s : ColumnSet) → AreBytes bs → whole s ≡ number (take room_bytes bs) → ReadFrom bs s
read_from bs s b e = record { is_number = e; bits = λ c l. ap (λ (w : ℕ). bit w c) e ∙ bits_shown room_bytes bs c b (omega arith) }

-- the bytes behind the low word's, none where there are none
behind : (bs : List ℕ) (o : Option (Bor (List ℕ))) (d : Bor (List ℕ)) → d.now ≡ []
    → MatchOption o ((length bs < 8) ⊎ (length bs < length bs)) (λ x. (8 ≤ length bs) × (length bs ≤ length bs) × (x.now ≡ slice_range bs 8 (length bs)) × (length x.now + 8 ≡ length bs))
    → (unwrap_or o d).now ≡ drop word_bytes bs
behind bs None d e m = e ∙ sym (drop_of_length-le bs {i = 8} (elim m [ inl l ↦ omega (arith, l) | inr l ↦ omega (arith, l) ]))
behind bs (Some x) d e m = m.2 ∙ take_all (length bs - 8) (drop 8 bs) (omega (arith, length-drop 8 bs))

pub returns : goal.returns
unfolding whole
returns c = let bs = c.args.bytes.now in
    let high = c.of_bytes-2.ensures ∙ ap (λ (x : Bor (List ℕ)). number (take word_bytes x.now)) c.unwrap_or.ensures
    ∙ ap (λ (t : List ℕ). number (take word_bytes t)) (behind bs c.get.result (record { ref_ptr = _; now = [] }) refl c.get.ensures.lookup.0) in
    read_from bs _ (λ i. search (rules, c.type_inv.bytes i)) (bytes_both bs c.of_bytes.result c.of_bytes-2.result c.of_bytes.ensures high)
