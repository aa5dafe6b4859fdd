-- How a question for the answer to the model in an area is answered, from what was read of its file. Assumes nothing.
use Prim.Native.Nat.{ℕ, ◌+◌, ◌*◌}
use mathlib.Core.Path.{◌≡◌, refl, sym, ap, ap₂, ◌∙◌, subst}
use mathlib.Core.Logic.{◌≢◌}
use mathlib.Core.Bool.{Bool, true, false, true≢false}
use mathlib.Core.List.{List}
use mathlib.Core.Option.{Option, none, some}
use lib.ListN.{take}
use native.Mathlib.Omega.{arith}
use Rattle.residue.specs.Residues.{res}
use Rattle.limits.specs.Limits.{set_bytes}
use Rattle.columns.specs.Bytes.{number}
use Rattle.columns.specs.Columns.{room_bytes, members, within_in}
use Rattle.columns.specs.Words.Bytes.{AreBytes}
use Rattle.rank.specs.Modulus.{modulus}
use Rattle.listed_models.specs.ModelModulo.{model_modulo}
use Rattle.rank.specs.Layered.Model.{Model}
use Rattle.format.specs.Numbers.{is_numbered}
use Rattle.format.specs.Refusals.{first_refusal, unless, ◌then◌, where_accepted, column_beyond, held_columns, model_tests, refusal}
use Rattle.format.specs.RefusalLaws.{then_refused, then_passed}
use Rattle.format.specs.File.Piece.{closed}
use Rattle.format.specs.File.Format.{decode, no_model, read_model, RowsCall}
use Rattle.format.specs.File.Unnumbered.{unnumbered_fields, unnumbered_judge}
use Rattle.format.specs.File.UnnumberedLaws.{unnumbered_iff}
use Rattle.layered.specs.Shown.{Answer}
use Rattle.layered.specs.Answers.{Refused, Answered, offered_refusal, OfferedCall}
use Rattle.layered.proofs.FileLaws.{own_constants, own_parameters, own_refusal, judged, own_accepted, own_sizes, own_made, call_refused, call_as}
use Rattle.open_models.specs.Open.{present_test}
use Rattle.editing.specs.Areas.{area_file, area_open, AnswerAreaCall}
use Rattle.editing.proofs.AreaLaws.{part_shown, file_bytes}

without_numbers : {A : Type 0} (ns : Option A) → is_numbered ns ≡ false → ns ≡ none
unfolding is_numbered
without_numbers none e = refl
without_numbers (some x) e = absurd (true≢false e)

numbers_seen : {A : Type 0} (ns : Option A) → is_numbered ns ≡ true → ns ≢ none
unfolding is_numbered
numbers_seen ns e n = true≢false (sym e ∙ ap is_numbered n)

-- refused with the number of an unnumbered file
pub answer_refused : (area : List ℕ) {k : ℕ} {r : Answer} → k ≡ unnumbered_judge (area_file area) → unnumbered_judge (area_file area) ≢ 0 → (r.refusal ≡ k) × Refused r → AnswerAreaCall area r
unfolding unnumbered_judge
answer_refused area {k} {r} e z h =
    let given : r.refusal ≡ unnumbered_judge (area_file area) = h.0 ∙ e in
    let due = then_refused (closed unnumbered_fields (area_file area)) (unless (present_test (area_open area)) column_beyond) _ refl z in
    call_refused (given ∙ due) (λ y. z (sym given ∙ y)) h.1

-- its file was read into areas of the call's own
module _ (area : List ℕ) (bytes : AreBytes area) {k p n a b : ℕ} {t : Bool} {cs ws : List ℕ} (r : RowsCall (area_file area) own_constants own_parameters k p n a b t cs ws) where
  -- a file that is refused is refused as an unnumbered one
  pub read_refused : k ≢ 0 → unnumbered_judge (area_file area) ≢ 0
  read_refused z e = z (own_refusal (file_bytes area bytes) r ∙ ((unnumbered_iff (area_file area)).0 e).0)

  module _ (ok : k ≡ 0) where
    numbers_told : t ≡ is_numbered (decode (area_file area)).numbers
    unfolding read_model
    numbers_told =
        r.numbered_is ∙ ap (λ (j : ℕ). is_numbered (where_accepted j (decode (area_file area)) no_model).numbers) (sym r.refusal_is ∙ ok)

    -- and so is one with numbers
    pub numbered_refused : t ≡ true → unnumbered_judge (area_file area) ≢ 0
    numbered_refused e z = numbers_seen _ (sym numbers_told ∙ e) ((unnumbered_iff (area_file area)).0 z).1

    module _ (plain : t ≡ false) where
      pub read_accepted : unnumbered_judge (area_file area) ≡ 0
      read_accepted = (unnumbered_iff (area_file area)).1 (judged (file_bytes area bytes) r ok, without_numbers _ (sym numbers_told ∙ plain))

      -- w is the number of the columns present
      module _ {w : ℕ} (shown : w ≡ number (take room_bytes (take set_bytes area))) where
        is_shown : w ≡ number (take set_bytes area)
        is_shown = shown ∙ part_shown set_bytes area (omega arith)

        due_same : offered_refusal p n a b w cs ws ≡ first_refusal (unless (present_test (area_open area)) column_beyond)
        unfolding offered_refusal refusal present_test within_in area_open
        due_same =
            sym (then_passed (model_tests p n a b cs ws none) (held_columns n w) _ (own_accepted (file_bytes area bytes) r ok) refl)
            ∙ ap₂ (λ (j v : ℕ). first_refusal (held_columns j v)) (own_sizes (file_bytes area bytes) r ok).0 is_shown

        due : offered_refusal p n a b w cs ws ≡ first_refusal (closed unnumbered_fields (area_file area) then unless (present_test (area_open area)) column_beyond)
        unfolding unnumbered_judge
        due = then_passed (closed unnumbered_fields (area_file area)) _ _ read_accepted due_same

        -- the model over the columns present
        abbrev by_elements : (p n a b : ℕ) (c v : ℕ → ℕ) → Model
        by_elements p n a b c v =
            model_modulo (modulus p).0 (modulus p).1 n a b (λ i x. res (modulus p).0 (modulus p).1 (c (i * n + x))) (λ r x. members (v r) x)
            (members (number (take set_bytes area)))

        pub answer_given : {q : Answer} → OfferedCall p n a b w cs ws q → AnswerAreaCall area q
        unfolding area_open
        answer_given {q} h =
            call_as due (λ s. subst (λ (M : Model). Answered M q) (own_made (file_bytes area bytes) r ok by_elements)
            (s.over (members (number (take set_bytes area))) (λ x l. ap (λ (v : ℕ). members v x) (sym is_shown)))) h
