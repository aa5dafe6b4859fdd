-- The bytes of an area whose file is accepted: they are those of the open model in it, and what an edit changes there gives those of the model that is held
-- after it. Assumes nothing.
use Prim.Native.Nat.{ℕ, zero, suc, ◌+◌, ◌-◌, ◌*◌, ◌/◌, ◌%◌, ◌^◌, ◌≤◌, ◌<◌}
use mathlib.Core.Path.{◌≡◌, refl, sym, ap, ap₂, ◌∙◌}
use mathlib.Core.Bool.{Bool, true, false}
use mathlib.Core.Option.{Option, none}
use mathlib.Core.List.{List, [], ◌∷◌, ◌++◌, append_assoc, append-nil, flatten}
use native.Mathlib.Omega.{arith}
use native.Mathlib.Nat.{lt_of_lt_of_le, le_of_eq}
use lib.ListN.{length, get_or, take, drop, length-take, length-drop, length-set, take-append-drop, drop_of_length-le}
use lib.Seq.{get_or-drop, take_all, take-add, drop-drop}
use lib.Pow.{pow_mono}
use borrow.Author.Tests.{ltb-true}
use Rattle.limits.specs.Limits.{set_bytes}
use Rattle.columns.specs.Bytes.{number, bytes_of}
use Rattle.columns.specs.Columns.{room_bytes, width, members, word_of, within}
use Rattle.columns.specs.Words.Bytes.{AreBytes, bytes_of_length, number_bytes, number_below, bytes_front}
use Rattle.columns.specs.Words.Operations.{word_members, within_pow}
use Rattle.format.specs.Lists.{rows_of, over, over_room}
use Rattle.format.specs.ListLaws.{all_at, tail_part}
use Rattle.format.specs.OverLaws.{over_room_fits}
use Rattle.format.specs.Numbers.{numbers_of}
use Rattle.format.specs.Refusals.{first_refusal, row_beyond}
use Rattle.format.specs.RefusalLaws.{unless_zero}
use Rattle.format.specs.TestLaws.{row_reads}
use Rattle.format.specs.File.Format.{FileModel, ValidModel, parameter_size, prime_field, decode, encode, handed_over}
use Rattle.format.specs.File.FormatLaws.{decoded_valid, encode_decode}
use Rattle.format.specs.File.RowSizes.{parameter_room}
use Rattle.format.specs.File.Unnumbered.{unnumbered_judge, row_start, with_row}
use Rattle.format.specs.File.UnnumberedLaws.{unnumbered_iff, encode_unnumbered, row_read, row_written, row_within}
use Rattle.format.proofs.Rows.{rows_of_flat}
use Rattle.open_models.specs.Open.{Edit, take_off, put_back, set_place, clear_place, row_tests, with_place, rows_done, present_done, done}
use Rattle.editing.specs.Edits.{place_done, columns_done}
use Rattle.editing.specs.Areas.{open_bytes, area_file, area_open, row_done, bytes_done, EditRoom}

-- ---- bytes and numbers

-- the first bytes are those of the number that they show
bytes_shown : (k : ℕ) (s : List ℕ) → AreBytes s → k ≤ length s → bytes_of k (number (take k s)) ≡ take k s
bytes_shown zero s h l = refl
bytes_shown (suc k) [] h l = absurd (omega arith)
bytes_shown (suc k) (x ∷ s) h l =
    let here = h 0 in
    let lo : (x + 256 * number (take k s)) % 256 ≡ x = omega arith in
    let hi : (x + 256 * number (take k s)) / 256 ≡ number (take k s) = omega arith in
    let i = bytes_shown k s (λ j. h (suc j)) (omega arith) in
    rw (lo, hi, i)

-- the set read from a part no longer than a set's bytes has the number that they show
pub part_shown : (size : ℕ) (s : List ℕ) → size ≤ set_bytes → number (take room_bytes (take size s)) ≡ number (take size s)
part_shown size s k = ap number (take_all room_bytes (take size s) (omega (arith, length-take size s)))

-- what comes back from a row that was lent from its start on, to have its first bytes put anew
pub row_put : (at size : ℕ) (area part : List ℕ) (c : ℕ) (v : Bool) (w x : ℕ) → at + size ≤ length area → size ≤ set_bytes
    → w ≡ number (take room_bytes (take (at + size - at) (drop at area))) → x ≡ place_done w c v
    → part ≡ over_room (take size (bytes_of set_bytes x)) (take (length area - at) (drop at area))
    → take at area ++ (part ++ drop (length area - at) (drop at area)) ≡ row_done at size area c v
unfolding row_done
row_put at size area part c v w x l k e f g =
    let same : at + size - at ≡ size = omega arith in
    let read : w ≡ number (take size (drop at area)) = e ∙ ap (λ (j : ℕ). number (take room_bytes (take j (drop at area)))) same ∙ part_shown size (drop at area) k in
    let fits : length (bytes_of size x) ≤ length (drop at area) = omega (arith, bytes_of_length size x, length-drop at area) in
    let put : part ≡ over (bytes_of size x) (drop at area) = g ∙ ap₂ over_room (bytes_front size set_bytes x k) (tail_part at area) ∙ over_room_fits (bytes_of size x) (drop at area) fits in
    let behind : drop (length area - at) (drop at area) ≡ [] = drop_of_length-le (drop at area) (le_of_eq (length-drop at area)) in
    ap₂ (λ (p t : List ℕ). take at area ++ (p ++ t)) put behind
    ∙ ap (λ (t : List ℕ). take at area ++ t) (append-nil (over (bytes_of size x) (drop at area)))
    ∙ ap (λ (y : ℕ). take at area ++ over (bytes_of size y) (drop at area)) (f ∙ ap (λ (y : ℕ). place_done y c v) read)

-- ---- a model of a file, handed over with other parameter rows

unnumbered : (n : ℕ) (ws : List ℕ) → numbers_of n ws none ≡ none
unfolding numbers_of
unnumbered n [] = refl
unnumbered n (w ∷ ws) = refl

-- by its rows in areas
pub handed_as : (m : FileModel) (cs ws us : List ℕ) → rows_of m.n m.a cs ≡ m.constants → take m.b ws ≡ us
    → handed_over m.p m.n m.a m.b cs ws none
    ≡ record { p = m.p; n = m.n; a = m.a; b = m.b; constants = m.constants; parameters = us; numbers = none }
unfolding handed_over
handed_as m cs ws us e f = rw (e, f, unnumbered m.n us) refl

pub handed_rows : (m : FileModel) → ValidModel m → (ws : List ℕ) → length ws ≡ m.b
    → handed_over m.p m.n m.a m.b (flatten m.constants) ws none
    ≡ record { p = m.p; n = m.n; a = m.a; b = m.b; constants = m.constants; parameters = ws; numbers = none }
handed_rows m v ws l =
    let rows : rows_of m.n m.a (flatten m.constants) ≡ m.constants =
    ap₂ (λ (k : ℕ) (xs : List ℕ). rows_of m.n k xs) (sym v.constant_rows) (sym (append-nil (flatten m.constants)))
    ∙ rows_of_flat (λ c. c < m.p) m.n m.constants [] v.constants_below in
    handed_as m (flatten m.constants) ws ws rows (take_all m.b ws (omega arith))

-- ---- an area whose file is accepted

pub file_bytes : (area : List ℕ) → AreBytes area → AreBytes (area_file area)
unfolding area_file
file_bytes area h i = rw get_or-drop (h (set_bytes + i))

module _ (area : List ℕ) (bytes : AreBytes area) (ok : unnumbered_judge (area_file area) ≡ 0) where
  abbrev model : FileModel
  model = decode (area_file area)

  no_numbers : model.numbers ≡ none
  no_numbers = ((unnumbered_iff (area_file area)).0 ok).1

  pub held_valid : ValidModel model
  held_valid = decoded_valid (area_file area) (file_bytes area bytes) ((unnumbered_iff (area_file area)).0 ok).0

  file_again : encode model ≡ area_file area
  file_again = encode_decode (area_file area) (file_bytes area bytes) ((unnumbered_iff (area_file area)).0 ok).0

  -- the file has bytes, and they stand behind those of the columns present
  pub area_long : set_bytes < length area
  unfolding area_file prime_field
  area_long =
      let e : length (encode model) ≡ length area - set_bytes = ap length file_again ∙ length-drop set_bytes area in
      let f = ap length (encode_unnumbered model no_numbers) in
      omega arith

  columns_again : bytes_of set_bytes (word_of width (members (number (take set_bytes area)))) ≡ take set_bytes area
  columns_again =
      let room : 2 ^ (8 * set_bytes) ≤ 2 ^ width = pow_mono {i = 8 * set_bytes} {j = width} (omega arith) in
      let small : number (take set_bytes area) < 2 ^ width = lt_of_lt_of_le (number_below set_bytes area bytes) room in
      ap (bytes_of set_bytes) (sym (word_members width (number (take set_bytes area)) small)) ∙ bytes_shown set_bytes area bytes (omega (arith, area_long))

  -- the file handed over and written again
  handed_again : encode (handed_over model.p model.n model.a model.b (flatten model.constants) model.parameters none) ≡ area_file area
  handed_again =
      ap encode (handed_rows model held_valid model.parameters held_valid.parameter_rows
      ∙ ap (λ (ns : Option (List (List ℕ))). record { p = model.p; n = model.n; a = model.a; b = model.b; constants = model.constants; parameters = model.parameters; numbers = ns }) (sym no_numbers))
      ∙ file_again

  pub area_again : open_bytes (area_open area) ≡ area
  unfolding open_bytes area_open area_file
  area_again = ap₂ (λ (f t : List ℕ). f ++ t) columns_again handed_again ∙ take-append-drop set_bytes area

  -- ---- a parameter row in it

  module _ (r : ℕ) (l : r < model.b) where
    abbrev at : ℕ
    at = row_start model.n model.a r

    abbrev size : ℕ
    size = parameter_size model.n

    abbrev word : ℕ
    word = get_or model.parameters r 0

    lent : r < length model.parameters
    lent = omega (arith, held_valid.parameter_rows)

    row_inside : set_bytes + at + size ≤ length area
    unfolding area_file
    row_inside = omega (arith, row_within model held_valid no_numbers r lent, ap length file_again, length-drop set_bytes area, area_long)

    word_small : word < 2 ^ (8 * size)
    word_small =
        let w = all_at (λ w. (w < 2 ^ width) × (within model.n w ≡ true)) model.parameters 0 held_valid.parameters_within r lent in
        let room : 2 ^ model.n ≤ 2 ^ (8 * size) = pow_mono {i = model.n} {j = 8 * size} (parameter_room model.n held_valid.n_most) in
        lt_of_lt_of_le (ltb-true word (2 ^ model.n) (sym (within_pow width model.n word w.0) ∙ w.1)) room

    row_behind : drop (set_bytes + at) area ≡ drop at (encode model)
    unfolding area_file
    row_behind = sym (drop-drop at set_bytes area) ∙ ap (drop at) (sym file_again)

    row_front : take (set_bytes + at) area ≡ take set_bytes area ++ take at (encode model)
    unfolding area_file
    row_front = take-add set_bytes at area ∙ ap (λ (t : List ℕ). take set_bytes area ++ take at t) (sym file_again)

    row_shown : number (take size (drop (set_bytes + at) area)) ≡ word
    row_shown = ap (λ (t : List ℕ). number (take size t)) row_behind ∙ ap number (row_read model held_valid no_numbers r lent) ∙ number_bytes size word word_small

    -- with a place of it changed
    row_changed : (c : ℕ) (v : Bool) → row_done (set_bytes + at) size area c v ≡ take set_bytes area ++ encode (with_row model r (place_done word c v))
    unfolding row_done over
    row_changed c v =
        let bs = bytes_of size (place_done word c v) in
        let file = encode model in
        ap (λ (w : ℕ). take (set_bytes + at) area ++ over (bytes_of size (place_done w c v)) (drop (set_bytes + at) area)) row_shown
        ∙ ap₂ (λ (f t : List ℕ). f ++ over bs t) row_front row_behind
        ∙ append_assoc (take set_bytes area) (take at file) (over bs (drop at file))
        ∙ ap (λ (k : ℕ). take set_bytes area ++ (take at file ++ (bs ++ drop k (drop at file)))) (bytes_of_length size (place_done word c v))
        ∙ ap (λ (t : List ℕ). take set_bytes area ++ (take at file ++ (bs ++ t))) (drop-drop size at file)
        ∙ ap (λ (t : List ℕ). take set_bytes area ++ t) (row_written model held_valid no_numbers r lent (place_done word c v))

    place_held : (c : ℕ) (v : Bool) → row_done (set_bytes + at) size area c v
        ≡ bytes_of set_bytes (word_of width (members (number (take set_bytes area))))
        ++ encode (handed_over model.p model.n model.a model.b (flatten model.constants) (with_place model.parameters r c v) none)
    unfolding with_place place_done
    place_held c v =
        row_changed c v
        ∙ ap₂ (λ (f t : List ℕ). f ++ t) (sym columns_again)
        (ap encode (sym (handed_rows model held_valid (with_place model.parameters r c v) (length-set model.parameters r (place_done word c v) ∙ held_valid.parameter_rows))))

  -- ---- an edit in it

  columns_held : (w : ℕ) → over (bytes_of set_bytes w) area
      ≡ bytes_of set_bytes w ++ encode (handed_over model.p model.n model.a model.b (flatten model.constants) model.parameters none)
  unfolding over area_file
  columns_held w = ap (λ (k : ℕ). bytes_of set_bytes w ++ drop k area) (bytes_of_length set_bytes w) ∙ ap (λ (t : List ℕ). bytes_of set_bytes w ++ t) (sym handed_again)

  -- the bytes that it changes are those of what is held after it
  pub edit_held : (e : Edit) → first_refusal (row_tests (area_open area) e) ≡ 0
      → bytes_done model.n model.a (number (take set_bytes area)) area e ≡ open_bytes (done (area_open area) e)
  unfolding bytes_done columns_done open_bytes area_open done rows_done present_done row_tests
  edit_held (take_off c) e = columns_held _
  edit_held (put_back c) e = columns_held _
  edit_held (set_place r c) e = place_held r ((row_reads r model.b).0 (unless_zero _ row_beyond e)) c true
  edit_held (clear_place r c) e = place_held r ((row_reads r model.b).0 (unless_zero _ row_beyond e)) c false

  -- and stand within the area
  pub edit_inside : (e : Edit) → first_refusal (row_tests (area_open area) e) ≡ 0 → EditRoom model.n model.a area e
  unfolding area_open row_tests
  edit_inside (take_off c) e = omega (arith, area_long)
  edit_inside (put_back c) e = omega (arith, area_long)
  edit_inside (set_place r c) e = let l = (row_reads r model.b).0 (unless_zero _ row_beyond e) in (omega (arith, held_valid.b_most), row_inside r l)
  edit_inside (clear_place r c) e = let l = (row_reads r model.b).0 (unless_zero _ row_beyond e) in (omega (arith, held_valid.b_most), row_inside r l)
