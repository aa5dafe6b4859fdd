-- An edit of the model in an area changes one bit of the area's bytes at most. Assumes nothing.
use Rattle.std.specs.Prelude.{ℕ, ◌+◌, ◌-◌, ◌*◌, ◌/◌, ◌%◌, ◌^◌, ◌≤◌, ◌<◌, ◌≡◌, refl, ◌≢◌, Bool, true, false, List, ◌++◌, take, drop, eqb}
use Rattle.std.proofs.Common.{sym, ◌∙◌, subst, length-append, length-drop, get_or-take, length-take-le}
use Rattle.std.proofs.Math.Path.{ap}
use native.Mathlib.Omega.{arith}
use Rattle.std.proofs.Math.Decide.{ℕ_discrete, dec_lt}
use Rattle.std.proofs.Math.ListN.{length, get_or, get_or-append}
use Rattle.std.proofs.Math.Seq.{get_or-drop, get_or-append-add}
use Rattle.counting.specs.Sets.{Set, set}
use Rattle.counting.specs.Counts.{set_other}
use Rattle.limits.specs.Limits.{set_bytes}
use Rattle.columns.specs.Bytes.{number, bytes_of, bit_shown}
use Rattle.columns.specs.Columns.{width, bit, members, word_of, moved_down}
use Rattle.columns.specs.Words.Bytes.{AreBytes, bytes_of_length, byte_at, bits_shown}
use Rattle.columns.specs.Words.Operations.{members_mod, members_down}
use Rattle.columns.specs.Words.WordOf.{members_word}
use Rattle.format.specs.Lists.{over}
use Rattle.format.specs.Refusals.{first_refusal}
use Rattle.format.specs.RefusalLaws.{then_zero}
use Rattle.format.specs.File.Piece.{closed}
use Rattle.format.specs.File.Format.{decode, parameter_size}
use Rattle.format.specs.File.RowSizes.{parameter_size_most}
use Rattle.format.specs.File.Unnumbered.{unnumbered_fields, unnumbered_judge, row_start}
use Rattle.open_models.specs.Open.{Edit, take_off, put_back, set_place, clear_place, row_tests, own_tests, present_done}
use Rattle.editing.specs.Edits.{place_done, columns_done, byte_tests, edit_of}
use Rattle.editing.specs.Areas.{area_file, area_open, edit_area_tests, EditAreaCall, row_done, bytes_done, EditRoom}
use Rattle.editing.proofs.AreaLaws.{edit_held, edit_inside}

-- all bits but bit d of byte i are as they were, and there are as many bytes
pub record OneBit (i d : ℕ) (area area' : List ℕ) : Type 0 where
  pub same_length : length area' ≡ length area
  pub others : (j f : ℕ) → f < 8 → (j ≡ i → f ≡ d → ⊥) → members (get_or area' j 0) f ≡ members (get_or area j 0) f

-- ---- the bits of a run of bytes

written_bit : (k w j f : ℕ) → j < k → f < 8 → members (get_or (bytes_of k w) j 0) f ≡ members w (8 * j + f)
unfolding moved_down
written_bit k w j f lj lf =
    ap (λ (x : ℕ). members x f) (byte_at k j w lj) ∙ members_mod 8 (w / 2 ^ (8 * j)) f lf ∙ ap (λ (S : Set). S f) (members_down w (8 * j))

bit_at : (s : List ℕ) (c j f : ℕ) → c / 8 ≡ j → c % 8 ≡ f → bit_shown s c ≡ bit (get_or s j 0) f
bit_at s c j f e g = rw (e, g) refl

shown_bit : (k : ℕ) (s : List ℕ) → AreBytes s → (j f : ℕ) → j < k → f < 8 → members (number (take k s)) (8 * j + f) ≡ members (get_or s j 0) f
unfolding members
shown_bit k s h j f lj lf =
    ap (λ (b : ℕ). eqb b 1) (bits_shown k s (8 * j + f) h (omega arith) ∙ bit_at s (8 * j + f) j f (omega arith) (omega arith))

-- ---- a run written anew

module _ (at : ℕ) (bs area : List ℕ) (l : at + length bs ≤ length area) where
  abbrev anew : List ℕ
  anew = take at area ++ over bs (drop at area)

  front_long : length (take at area) ≡ at
  front_long = length-take-le at area (omega arith)

  anew_length : length anew ≡ length area
  unfolding over
  anew_length = simp (length-append, length-drop) (omega (arith, front_long))

  anew_front : (j : ℕ) → j < at → get_or anew j 0 ≡ get_or area j 0
  anew_front j h = get_or-append (take at area) (over bs (drop at area)) 0 j (omega (arith, front_long)) ∙ get_or-take at area j 0 h

  anew_run : (j : ℕ) → j < length bs → get_or anew (at + j) 0 ≡ get_or bs j 0
  unfolding over
  anew_run j h =
      let e : at + j ≡ length (take at area) + j = omega (arith, front_long) in
      ap (λ (i : ℕ). get_or anew i 0) e ∙ get_or-append-add (take at area) (over bs (drop at area)) j 0 ∙ get_or-append bs (drop (length bs) (drop at area)) 0 j h

  anew_behind : (j : ℕ) → at + length bs ≤ j → get_or anew j 0 ≡ get_or area j 0
  unfolding over
  anew_behind j h =
      let k = j - (at + length bs) in
      let e : j ≡ length (take at area) + (length bs + k) = omega (arith, front_long) in
      let f : at + (length bs + k) ≡ j = omega arith in
      ap (λ (i : ℕ). get_or anew i 0) e ∙ get_or-append-add (take at area) (over bs (drop at area)) (length bs + k) 0
      ∙ get_or-append-add bs (drop (length bs) (drop at area)) k 0 ∙ get_or-drop (length bs) (drop at area) k 0 ∙ get_or-drop at area (length bs + k) 0
      ∙ ap (λ (i : ℕ). get_or area i 0) f

-- ---- a place

place_bit : (at size : ℕ) (area : List ℕ) (c : ℕ) (v : Bool) → AreBytes area → at + size ≤ length area → size ≤ set_bytes → OneBit (at + c / 8) (c % 8) area (row_done at size area c v)
unfolding row_done place_done
place_bit at size area c v h l few =
    record {
      same_length = anew_length at bs area room;
      others = λ j f lf ne. elim (dec_lt j at) [
        | yes before ↦ ap (λ (x : ℕ). members x f) (anew_front at bs area room j before)
        | no nb ↦ elim (dec_lt j (at + size)) [
          | no behind ↦ ap (λ (x : ℕ). members x f) (anew_behind at bs area room j (omega (arith, long)))
          | yes inside ↦
              let i = j - at in
              let e : j ≡ at + i = omega arith in
              let other : 8 * i + f ≢ c = λ q. ne (omega arith) (omega arith) in
              ap (λ (x : ℕ). members (get_or (row_done at size area c v) x 0) f) e
              ∙ ap (λ (x : ℕ). members x f) (anew_run at bs area room i (omega (arith, long)))
              ∙ written_bit size (word_of width (set (members w) c v)) i f (omega arith) lf
              ∙ members_word width (set (members w) c v) (8 * i + f) (omega arith)
              ∙ set_other (members w) c v (8 * i + f) other
              ∙ shown_bit size (drop at area) (λ k. rw get_or-drop (h (at + k))) i f (omega arith) lf
              ∙ ap (λ (x : ℕ). members x f) (get_or-drop at area i 0 ∙ ap (λ (x : ℕ). get_or area x 0) (sym e))
        ]
      ];
    }
  where
    w : ℕ
    w = number (take size (drop at area))

    bs : List ℕ
    bs = bytes_of size (place_done (number (take size (drop at area))) c v)

    long : length (bytes_of size (place_done (number (take size (drop at area))) c v)) ≡ size
    long = bytes_of_length size (place_done (number (take size (drop at area))) c v)

    room : at + length (bytes_of size (place_done (number (take size (drop at area))) c v)) ≤ length area
    room = omega (arith, bytes_of_length size (place_done (number (take size (drop at area))) c v))

-- ---- an edit

abbrev pub SomeBit : List ℕ → List ℕ → Type 0
SomeBit area area' = (i : ℕ) × (d : ℕ) × OneBit i d area area'

done_bit : (n a : ℕ) (area : List ℕ) → AreBytes area → (e : Edit) → EditRoom n a area e → SomeBit area (bytes_done n a (number (take set_bytes area)) area e)
unfolding bytes_done columns_done present_done row_done place_done
done_bit n a area h (take_off c) r = (0 + c / 8, c % 8, place_bit 0 set_bytes area c false h (omega arith) (omega arith))
done_bit n a area h (put_back c) r = (0 + c / 8, c % 8, place_bit 0 set_bytes area c true h (omega arith) (omega arith))
done_bit n a area h (set_place q c) r =
    let at = set_bytes + row_start n a q in
    (at + c / 8, c % 8, place_bit at (parameter_size n) area c true h r.1 (parameter_size_most n))
done_bit n a area h (clear_place q c) r =
    let at = set_bytes + row_start n a q in
    (at + c / 8, c % 8, place_bit at (parameter_size n) area c false h r.1 (parameter_size_most n))

pub one_bit_at_most : (area bs : List ℕ) (k : ℕ) (area' : List ℕ) → AreBytes area → EditAreaCall area bs k area' → SomeBit area area'
unfolding unnumbered_judge own_tests
one_bit_at_most area bs k area' h c = elim (ℕ_discrete (first_refusal (edit_area_tests area bs)) 0) [
  | no nz ↦ let e = c.if_refused nz in (0, 0, record { same_length = ap length e; others = λ j f _ _. ap (λ (t : List ℕ). members (get_or t j 0) f) e })
  | yes z ↦
      let t = then_zero (closed unnumbered_fields (area_file area)) _ z in
      let u = then_zero (byte_tests bs) _ t.1 in
      let row = (then_zero (row_tests (area_open area) (edit_of bs)) _ u.1).0 in
      let m = decode (area_file area) in
      let d = done_bit m.n m.a area h (edit_of bs) (edit_inside area h t.0 (edit_of bs) row) in
      let e = edit_held area h t.0 (edit_of bs) row ∙ sym (c.if_accepted z) in
      subst (SomeBit area) e d
]
