-- How the opening of a file's model in an area is answered, from what was read of the file, what was written behind the bytes of the columns present, and
-- their writing. Assumes nothing.
use Prim.Native.Nat.{ℕ, ◌+◌, ◌-◌, ◌≤◌, ◌<◌}
use mathlib.Core.Path.{◌≡◌, refl, sym, ap, ap₂, ◌∙◌, subst}
use mathlib.Core.Logic.{◌≢◌}
use mathlib.Core.Bool.{Bool, false}
use mathlib.Core.Option.{none}
use mathlib.Core.List.{List, [], ◌++◌, append_assoc, append-nil, flatten}
use native.Mathlib.Omega.{arith}
use native.Mathlib.Nat.{le_of_eq}
use native.Mathlib.Decide.{dec_lt}
use lib.ListN.{length, take, drop, length-append, length-drop, take-append-drop, drop_of_length-le}
use lib.Seq.{length-take-le, drop_at, drop-drop}
use lib.Dec.{ltb}
use borrow.Author.Tests.{lt-leb}
use Rattle.limits.specs.Limits.{set_bytes}
use Rattle.columns.specs.Bytes.{bytes_of}
use Rattle.columns.specs.Columns.{width, members, upto, word_of}
use Rattle.columns.specs.ColumnSets.{whole, Fits}
use Rattle.columns.specs.declared.ColumnSet.{ColumnSet}
use Rattle.columns.specs.Words.Bytes.{AreBytes, bytes_of_length}
use Rattle.format.specs.Lists.{over}
use Rattle.format.specs.ListLaws.{tail_part}
use Rattle.format.specs.OverLaws.{over_none, over_room_fits}
use Rattle.format.specs.Refusals.{first_refusal, unless, where_accepted, area_short, area_test, PutRoom, model_tests, refusal}
use Rattle.format.specs.RefusalLaws.{first_fails, first_none, then_passed, zero_then, zero_unless, where_refused, accepted_value}
use Rattle.format.specs.TestLaws.{area_reads}
use Rattle.format.specs.File.Piece.{closed}
use Rattle.format.specs.File.Format.{FileModel, ValidModel, fields, judge, decode, encode, no_model, read_model, rows_refusal, RowsCall, handed_over, write_refusal, bytes_written, WriteCall}
use Rattle.format.specs.File.FormatLaws.{decoded_valid}
use Rattle.format.proofs.Rows.{over_front, rows_of_over}
use Rattle.layered.proofs.FileLaws.{own_constants, own_parameters, own_refusal, judged, own_accepted, own_sizes}
use Rattle.host.specs.AreaCall.{area_refusal}
use Rattle.host.proofs.AreaLaws.{refused_before, refused_short}
use Rattle.editing.specs.Areas.{open_bytes, file_opened, OpenAreaCall}
use Rattle.editing.proofs.EditLaws.{below_shown}
use Rattle.editing.proofs.AreaLaws.{handed_as, handed_rows}

-- the file of s was read into areas of the call's own
module _ (s area : List ℕ) (bytes : AreBytes s) {k p n a b : ℕ} {t : Bool} {cs ws : List ℕ} (r : RowsCall s own_constants own_parameters k p n a b t cs ws) where
  pub open_refused : k ≢ 0 → OpenAreaCall s area k area
  unfolding judge
  open_refused z = refused_before (closed fields s) [] (length (open_bytes (file_opened s))) (λ d d'. d' ≡ over (open_bytes (file_opened s)) d) area k (own_refusal bytes r) z

  module _ (ok : k ≡ 0) where
    abbrev model : FileModel
    model = decode s

    -- the file of the model as it is opened
    abbrev file : List ℕ
    file = encode (handed_over model.p model.n model.a model.b (flatten model.constants) model.parameters none)

    abbrev columns : List ℕ
    columns = bytes_of set_bytes (word_of width (λ x. ltb x model.n))

    valid : ValidModel model
    valid = decoded_valid s bytes (judged bytes r ok)

    file_accepted : first_refusal (closed fields s) ≡ 0
    unfolding judge
    file_accepted = judged bytes r ok

    open_length : length (open_bytes (file_opened s)) ≡ set_bytes + length file
    unfolding open_bytes file_opened
    open_length = length-append columns file ∙ ap (λ (j : ℕ). j + length file) (bytes_of_length set_bytes (word_of width (λ x. ltb x model.n)))

    too_short : length area < set_bytes + length file → OpenAreaCall s area 8 area
    too_short l =
        refused_short (closed fields s) [] (length (open_bytes (file_opened s))) (λ d d'. d' ≡ over (open_bytes (file_opened s)) d) area (omega (arith, open_length)) 8
        (then_passed (closed fields s) (unless false area_short) 8 file_accepted (first_fails false area_short [] refl))

    pub open_short : length area < set_bytes → OpenAreaCall s area 8 area
    open_short l = too_short (omega arith)

    -- what was read is what was opened
    read_same : encode (handed_over p n a b cs ws none) ≡ file
    unfolding read_model
    read_same =
        let all : read_model (rows_refusal s own_constants own_parameters) s ≡ model = ap (λ (j : ℕ). where_accepted j model no_model) (sym r.refusal_is ∙ ok) in
        let flat = flatten model.constants in
        let rows = rows_of_over (λ c. c < model.p) model.n model.constants model.a own_constants valid.constant_rows valid.constants_below in
        let front = over_front model.parameters own_parameters model.b valid.parameter_rows in
        ap encode (rw (r.p_is, r.n_is, r.a_is, r.b_is, r.constants_are, r.parameters_are, all) (handed_as model (over flat own_constants) (over model.parameters own_parameters) model.parameters rows front)
        ∙ sym (handed_rows model valid model.parameters valid.parameter_rows))

    -- it was written behind the bytes of the columns present; x is the writing's refusal, and part what was lent to it afterwards
    module _ (long : set_bytes ≤ length area) {x len : ℕ} {part : List ℕ} (w : WriteCall p n a b cs ws none (take (length area - set_bytes) (drop set_bytes area)) x len part) where
      part_is : take (length area - set_bytes) (drop set_bytes area) ≡ drop set_bytes area
      part_is = tail_part set_bytes area

      room_is : length (take (length area - set_bytes) (drop set_bytes area)) ≡ length area - set_bytes
      room_is = ap length part_is ∙ length-drop set_bytes area

      write_is : x ≡ first_refusal (unless (area_test (length file) (length area - set_bytes)) area_short)
      unfolding write_refusal refusal
      write_is =
          w.refusal_is
          ∙ sym (then_passed (model_tests p n a b cs ws none) (unless (area_test (length (encode (handed_over p n a b cs ws none))) (length (take (length area - set_bytes) (drop set_bytes area)))) area_short) _ (own_accepted bytes r ok) refl)
          ∙ ap₂ (λ (f : List ℕ) (j : ℕ). first_refusal (unless (area_test (length f) j) area_short)) read_same room_is

      behind : drop (length area - set_bytes) (drop set_bytes area) ≡ []
      behind = drop_of_length-le (drop set_bytes area) (le_of_eq (length-drop set_bytes area))

      -- what comes back
      abbrev back : List ℕ
      back = take set_bytes area ++ (part ++ drop (length area - set_bytes) (drop set_bytes area))

      back_is : back ≡ take set_bytes area ++ part
      back_is = ap (λ (u : List ℕ). take set_bytes area ++ (part ++ u)) behind ∙ ap (λ (u : List ℕ). take set_bytes area ++ u) (append-nil part)

      pub unwritten : x ≢ 0 → OpenAreaCall s area x back
      unfolding bytes_written area_test
      unwritten z = elim (dec_lt (length area - set_bytes) (length file)) [
        | no nl ↦ absurd (z (write_is ∙ zero_unless (area_test (length file) (length area - set_bytes)) area_short ((area_reads (length file) (length area - set_bytes)).1 (omega arith))))
        | yes l ↦
            let same : part ≡ drop set_bytes area = w.bytes_are ∙ ap (λ (bs : List ℕ). over bs (take (length area - set_bytes) (drop set_bytes area))) (where_refused x w.refusal_is z (encode (handed_over p n a b cs ws none)) [])
            ∙ sym (over_none (take (length area - set_bytes) (drop set_bytes area))) ∙ part_is in
            let number : 8 ≡ x = first_fails _ area_short [] (lt-leb (length file) (length area - set_bytes) l) ∙ sym write_is in
            let whole_again : area ≡ back = sym (back_is ∙ ap (λ (u : List ℕ). take set_bytes area ++ u) same ∙ take-append-drop set_bytes area) in
            subst (λ (d : List ℕ). OpenAreaCall s area x d) whole_again (subst (λ (j : ℕ). OpenAreaCall s area j area) number (too_short (omega arith)))
      ]

      module _ (written : x ≡ 0) where
        fits : length file ≤ length area - set_bytes
        unfolding area_test
        fits = elim (dec_lt (length area - set_bytes) (length file)) [
          | no nl ↦ omega arith
          | yes l ↦ absurd (let e : 8 ≡ 0 = first_fails _ area_short [] (lt-leb (length file) (length area - set_bytes) l) ∙ sym write_is ∙ written in omega arith)
        ]

        part_holds : part ≡ over file (drop set_bytes area)
        unfolding bytes_written
        part_holds = w.bytes_are ∙ ap₂ over (accepted_value x w.refusal_is written (encode (handed_over p n a b cs ws none)) [] ∙ read_same) part_is

        front_length : length (take set_bytes area) ≡ set_bytes
        front_length = length-take-le set_bytes area long

        back_long : set_bytes ≤ length back
        back_long = omega (arith, length-append (take set_bytes area) (part ++ drop (length area - set_bytes) (drop set_bytes area)), front_length)

        -- then the columns present are put
        pub opens : {set : ColumnSet} {y : ℕ} {area' : List ℕ} → Fits set → members (whole set) ≡ upto n → PutRoom (bytes_of set_bytes (whole set)) back area' y → OpenAreaCall s area y area'
        unfolding area_refusal open_bytes file_opened over
        opens {set} {y} {area'} f m put =
            let size = (own_sizes bytes r ok).0 in
            let shown : whole set ≡ word_of width (λ x. ltb x model.n) =
            (below_shown n set f (omega (arith, valid.n_most)) m).is_number ∙ ap (λ (j : ℕ). word_of width (λ x. ltb x j)) size in
            let bs = bytes_of set_bytes (whole set) in
            let count = bytes_of_length set_bytes (whole set) in
            let enough : length bs ≤ length back = omega (arith, back_long) in
            let zero : y ≡ 0 = put.refusal_is ∙ zero_unless _ area_short ((area_reads _ _).1 enough) in
            let due : area_refusal (closed fields s) [] (length (open_bytes (file_opened s))) area ≡ 0 =
            zero_then (closed fields s) _ file_accepted (zero_then (unless (area_test (length (open_bytes (file_opened s))) (length area)) area_short) [] (zero_unless _ area_short ((area_reads _ _).1 (omega (arith, open_length, fits)))) (sym first_none)) in
            let front : area' ≡ bs ++ drop set_bytes back = put.bytes_are ∙ over_room_fits bs back enough ∙ ap (λ (j : ℕ). bs ++ drop j back) count in
            let rest : drop set_bytes back ≡ file ++ drop (length file) (drop set_bytes area) = ap (drop set_bytes) back_is ∙ drop_at (take set_bytes area) part set_bytes front_length ∙ part_holds in
            record {
              is_number = zero ∙ sym due;
              if_refused = λ z. absurd (z due);
              if_accepted = λ _.
                  front ∙ ap (λ (u : List ℕ). bs ++ u) rest
                  ∙ ap (λ (u : List ℕ). bs ++ (file ++ u)) (drop-drop (length file) set_bytes area)
                  ∙ sym (append_assoc bs file _)
                  ∙ ap₂ (λ (v j : ℕ). (bytes_of set_bytes v ++ file) ++ drop j area) shown (sym open_length);
            }
