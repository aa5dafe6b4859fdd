-- How an edit of the model in an area is answered, from what each step says: the file's header, the bytes of the edit, its own tests. Assumes nothing.
use Prim.Native.Nat.{ℕ, ◌≤◌}
use mathlib.Core.Path.{◌≡◌, refl, sym, ap, ap₂, ◌∙◌}
use mathlib.Core.Logic.{◌≢◌}
use mathlib.Core.List.{List}
use lib.ListN.{take}
use native.Mathlib.Omega.{arith}
use Rattle.limits.specs.Limits.{most_columns, most_rows, set_bytes}
use Rattle.columns.specs.Bytes.{number}
use Rattle.columns.specs.Columns.{room_bytes}
use Rattle.columns.specs.Words.Bytes.{AreBytes}
use Rattle.format.specs.Refusals.{first_refusal}
use Rattle.format.specs.RefusalLaws.{then_refused, then_passed, then_zero, accepted_value}
use Rattle.format.specs.File.Piece.{closed}
use Rattle.format.specs.File.Format.{decode}
use Rattle.format.specs.File.Unnumbered.{unnumbered_fields, unnumbered_judge}
use Rattle.open_models.specs.Open.{take_off, row_tests, own_tests}
use Rattle.editing.specs.Shown.{NamedEdit}
use Rattle.editing.specs.Edits.{meant, own_refusal, byte_tests, edit_of, EditRead}
use Rattle.editing.specs.Areas.{area_file, area_open, edit_area_tests, EditAreaCall, bytes_done, EditRoom}
use Rattle.editing.proofs.EditLaws.{own_same}
use Rattle.editing.proofs.AreaLaws.{part_shown, held_valid, edit_held, edit_inside}

-- an edit of the model in an area, by these bytes
module _ (area : List ℕ) (bs : List ℕ) where
  refused : (r : ℕ) → r ≡ first_refusal (edit_area_tests area bs) → r ≢ 0 → EditAreaCall area bs r area
  refused r e z = record { is_number = e; if_refused = λ _. refl; if_accepted = λ y. absurd (z (e ∙ y)) }

  -- the file's own refusal
  pub refused_file : (k : ℕ) → k ≡ unnumbered_judge (area_file area) → k ≢ 0 → EditAreaCall area bs k area
  unfolding unnumbered_judge
  refused_file k e z = refused k (then_refused (closed unnumbered_fields (area_file area)) _ k e z) z

  -- n, a and b are what the header of the area's file says
  module _ (file_accepted : unnumbered_judge (area_file area) ≡ 0) {n a b : ℕ} (n_is : n ≡ (decode (area_file area)).n) (a_is : a ≡ (decode (area_file area)).a) (b_is : b ≡ (decode (area_file area)).b) where
    -- r is the edit that the bytes name
    module _ {r : NamedEdit} (named : EditRead bs r) where
      pub refused_bytes : r.refusal ≢ 0 → EditAreaCall area bs r.refusal area
      unfolding unnumbered_judge
      refused_bytes z =
          refused r.refusal (then_passed (closed unnumbered_fields (area_file area)) _ r.refusal file_accepted (then_refused (byte_tests bs) _ r.refusal named.is_refusal z)) z

      module _ (good : r.refusal ≡ 0) where
        is_named : meant r.edit ≡ edit_of bs
        is_named = named.is_edit ∙ accepted_value r.refusal named.is_refusal good (edit_of bs) (take_off 0)

        -- w is the number of the columns present, and k what the edit's own tests say
        module _ {w k : ℕ} (shown : w ≡ number (take room_bytes (take set_bytes area))) (own : k ≡ own_refusal n b w (meant r.edit)) where
          is_shown : w ≡ number (take set_bytes area)
          is_shown = shown ∙ part_shown set_bytes area (omega arith)

          own_is : k ≡ first_refusal (own_tests (area_open area) (edit_of bs))
          unfolding area_open
          own_is =
              own
              ∙ ap₂ (λ (x y : ℕ). own_refusal x y w (meant r.edit)) n_is b_is
              ∙ ap (λ (v : ℕ). own_refusal (decode (area_file area)).n (decode (area_file area)).b v (meant r.edit)) is_shown
              ∙ ap (own_refusal (decode (area_file area)).n (decode (area_file area)).b (number (take set_bytes area))) is_named
              ∙ own_same (area_open area) (number (take set_bytes area)) refl (edit_of bs)

          after_file : k ≡ first_refusal (edit_area_tests area bs)
          unfolding unnumbered_judge
          after_file =
              then_passed (closed unnumbered_fields (area_file area)) _ k file_accepted
              (then_passed (byte_tests bs) (own_tests (area_open area) (edit_of bs)) k (sym named.is_refusal ∙ good) own_is)

          pub refused_own : k ≢ 0 → EditAreaCall area bs k area
          refused_own z = refused k after_file z

          module _ (bytes : AreBytes area) (passed : k ≡ 0) where
            row_passed : first_refusal (row_tests (area_open area) (edit_of bs)) ≡ 0
            unfolding own_tests
            row_passed = (then_zero (row_tests (area_open area) (edit_of bs)) _ (sym own_is ∙ passed)).0

            -- there is room for what it changes
            pub edit_room : (n ≤ most_columns) × (a ≤ most_rows) × EditRoom n a area (meant r.edit)
            edit_room =
                let v = held_valid area bytes file_accepted in
                let inside = edit_inside area bytes file_accepted (edit_of bs) row_passed in
                rw (n_is, a_is, is_named) (v.n_most, v.a_most, inside)

            -- and it gives the bytes of what is held after it
            pub edit_made : {area' : List ℕ} → area' ≡ bytes_done n a w area (meant r.edit) → EditAreaCall area bs 0 area'
            edit_made e =
                let z = sym after_file ∙ passed in
                record {
                  is_number = sym z;
                  if_refused = λ y. absurd (y z);
                  if_accepted = λ _.
                      e
                      ∙ ap₂ (λ (x y : ℕ). bytes_done x y w area (meant r.edit)) n_is a_is
                      ∙ ap (λ (v : ℕ). bytes_done (decode (area_file area)).n (decode (area_file area)).a v area (meant r.edit)) is_shown
                      ∙ ap (bytes_done (decode (area_file area)).n (decode (area_file area)).a (number (take set_bytes area)) area) is_named
                      ∙ edit_held area bytes file_accepted (edit_of bs) row_passed;
                }
