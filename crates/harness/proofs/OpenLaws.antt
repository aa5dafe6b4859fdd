-- The bytes of a set put into an area, and an edit by its kind, row and column, from what the calls promise. Assumes nothing.
use Prim.Native.Nat.{ℕ, ◌≤◌, ◌<◌}
use mathlib.Core.Path.{◌≡◌, refl, sym, ap, ap₂, ◌∙◌, subst}
use mathlib.Core.Logic.{◌≢◌}
use mathlib.Core.Bool.{false}
use mathlib.Core.List.{List}
use native.Mathlib.Omega.{arith}
use native.Mathlib.Decide.{dec_le}
use lib.ListN.{length, take}
use borrow.Author.Tests.{lt-leb}
use Rattle.limits.specs.Limits.{set_bytes}
use Rattle.columns.specs.Bytes.{number, bytes_of}
use Rattle.columns.specs.Columns.{width, word_of}
use Rattle.columns.specs.ColumnSets.{whole, row_numbers}
use Rattle.columns.specs.declared.ColumnSet.{ColumnSet}
use Rattle.columns.specs.Words.Bytes.{bytes_of_length}
use Rattle.format.specs.Lists.{over}
use Rattle.format.specs.OverLaws.{over_room_fits, over_no_room}
use Rattle.format.specs.Refusals.{first_refusal, where_accepted, area_short, area_test, PutRoom}
use Rattle.format.specs.RefusalLaws.{first_fails, first_passes, then_refused, then_passed, zero_unless, where_refused}
use Rattle.format.specs.TestLaws.{area_reads}
use Rattle.host.specs.AreaCall.{PutOver}
use Rattle.host.proofs.AreaLaws.{put_refused, put_done}
use Rattle.open_models.specs.Open.{Open, Edit, edit_refusal, done}
use Rattle.open_models.proofs.HeldLaws.{after_accepted}
use Rattle.editing.specs.Edits.{meant, kind_tests, edit_by, words_done, columns_done}
use Rattle.editing.specs.Calls.{EditCall}
use Rattle.editing.specs.Shown.{Held}
use Rattle.editing.specs.declared.edit.Edit.{Edit as CodeEdit}
use Rattle.harness.specs.Calls.{holding_columns, edit_due, EditBytes}

-- ---- the bytes of a set

module _ (w : ℕ) {area area' : List ℕ} {r : ℕ} (put : PutRoom (bytes_of set_bytes w) area area' r) where
  -- there is room for them
  module _ (l : set_bytes ≤ length area) where
    enough : length (bytes_of set_bytes w) ≤ length area
    enough = omega (arith, bytes_of_length set_bytes w)

    pub none_refused : r ≡ 0
    none_refused = put.refusal_is ∙ zero_unless _ area_short ((area_reads _ _).1 enough)

    pub set_written : area' ≡ over (bytes_of set_bytes w) area
    set_written = put.bytes_are ∙ over_room_fits (bytes_of set_bytes w) area enough

  pub set_put : PutOver set_bytes (bytes_of set_bytes w) area r area'
  unfolding area_test
  set_put = elim (dec_le set_bytes (length area)) [
    | yes l ↦ subst (λ (k : ℕ). PutOver set_bytes (bytes_of set_bytes w) area k area') (sym (none_refused l)) (put_done set_bytes (bytes_of set_bytes w) area l (set_written l))
    | no nl ↦
        let short : length area < length (bytes_of set_bytes w) = omega (arith, bytes_of_length set_bytes w) in
        let refused : 8 ≡ r = first_fails _ area_short _ (lt-leb _ _ short) ∙ sym put.refusal_is in
        subst (λ (k : ℕ). PutOver set_bytes (bytes_of set_bytes w) area k area') refused
        (subst (PutOver set_bytes (bytes_of set_bytes w) area 8) (over_no_room (bytes_of set_bytes w) area short ∙ sym put.bytes_are) (put_refused set_bytes (bytes_of set_bytes w) area (omega arith)))
  ]

-- ---- an edit

module _ (p n a b : ℕ) (cs words present : List ℕ) (kind row column : ℕ) where
  abbrev O : Open
  O = holding_columns p n a b cs (row_numbers words) (number (take set_bytes present))

  abbrev e : Edit
  e = edit_by kind row column

  -- nothing is changed where it is refused
  unchanged : (r : ℕ) → r ≡ edit_due O (length present) kind row column → r ≢ 0 → EditBytes p n a b cs words present kind row column r words present
  unchanged r q z = record { is_number = q; words_are = sym (where_refused r refl z _ words); present_are = sym (where_refused r refl z _ present) }

  pub kind_refused : (r : ℕ) → r ≡ first_refusal (kind_tests kind) → r ≢ 0 → EditBytes p n a b cs words present kind row column r words present
  kind_refused r q z = unchanged r (then_refused (kind_tests kind) _ r q z) z

  module _ (known : first_refusal (kind_tests kind) ≡ 0) where
    pub area_refused : area_test set_bytes (length present) ≡ false → EditBytes p n a b cs words present kind row column 8 words present
    area_refused t = unchanged 8 (then_passed (kind_tests kind) _ 8 known (first_fails _ area_short _ t)) (λ z. omega arith)

    module _ (long : set_bytes ≤ length present) (s : ColumnSet) (held : whole s ≡ number (take set_bytes present)) (c : CodeEdit) (named : meant c ≡ edit_by kind row column) {r : Held} {words' : List ℕ} (h : EditCall p n a b cs words s c r words') where
      refusal_told : r.refusal ≡ edit_refusal O e
      refusal_told = h.is_refusal ∙ ap₂ (λ (w : ℕ) (f : Edit). edit_refusal (holding_columns p n a b cs (row_numbers words) w) f) held named

      words_told : words' ≡ where_accepted r.refusal (words_done words e) words
      words_told = h.words_are ∙ ap₂ (λ (k : ℕ) (f : Edit). where_accepted k (words_done words f) words) (sym h.is_refusal) named

      due_told : r.refusal ≡ edit_due O (length present) kind row column
      unfolding edit_refusal
      due_told = then_passed (kind_tests kind) _ _ known (first_passes _ area_short _ _ ((area_reads _ _).1 long) refusal_told)

      pub edit_refused : r.refusal ≢ 0 → EditBytes p n a b cs words present kind row column r.refusal words' present
      edit_refused z = record { is_number = due_told; words_are = words_told; present_are = sym (where_refused r.refusal refl z _ present) }

      columns_told : r.refusal ≡ 0 → whole r.present ≡ columns_done (number (take set_bytes present)) e
      unfolding columns_done done
      columns_told z =
          h.present_are.is_number
          ∙ ap (λ (P : Open). word_of width P.present) (after_accepted _ (meant c) (sym h.is_refusal ∙ z))
          ∙ ap₂ (λ (w : ℕ) (f : Edit). columns_done w f) held named

      pub edit_put : r.refusal ≡ 0 → (k : ℕ) {present' : List ℕ} → PutRoom (bytes_of set_bytes (whole r.present)) present present' k → EditBytes p n a b cs words present kind row column k words' present'
      edit_put z k put =
          let same : k ≡ r.refusal = none_refused (whole r.present) put long ∙ sym z in
          record {
            is_number = same ∙ due_told;
            words_are = words_told ∙ ap (λ (j : ℕ). where_accepted j (words_done words e) words) (sym same);
            present_are = set_written (whole r.present) put long ∙ ap (λ (w : ℕ). over (bytes_of set_bytes w) present) (columns_told z)
                ∙ sym (ap (λ (j : ℕ). where_accepted j (over (bytes_of set_bytes (columns_done (number (take set_bytes present)) e)) present) present) (same ∙ z));
          }
