-- The call about multipliers on a file is the call on the file's constants handed over, and the call from C is the call on its file; what stands behind the
-- bytes of a held set does not count. Assumes nothing.
use Rattle.std.specs.Prelude.{ℕ, ◌≡◌, refl, Bool, length, take}
use Rattle.std.proofs.Common.{sym, ap, ◌∙◌, subst}
use Rattle.std.proofs.Math.Option.{none}
use mathlib.Core.List.{List, [], flatten}
use Rattle.limits.specs.Limits.{set_bytes}
use Rattle.columns.specs.Bytes.{number}
use Rattle.columns.specs.Columns.{members}
use Rattle.columns.specs.ColumnSets.{whole}
use Rattle.columns.specs.declared.ColumnSet.{ColumnSet}
use Rattle.columns.specs.Words.Bytes.{AreBytes}
use Rattle.format.specs.Lists.{over}
use Rattle.format.specs.Refusals.{unless, ◌then◌, first_refusal, area_short, area_test, model_tests, refusal}
use Rattle.format.specs.RefusalLaws.{then_zero, zero_then}
use Rattle.format.specs.TestLaws.{accepted_model, constants_accepted}
use Rattle.format.specs.File.Piece.{closed}
use Rattle.format.specs.File.Format.{fields, judge, decode}
use Rattle.layered.specs.Answers.{AnswerShown}
use Rattle.host.specs.AreaCall.{area_refusal, AreaCall, WrittenOver}
use Rattle.multipliers.specs.Answers.{column_question, FileAnswered, MultipliersCall, MultipliersFileCall}
use Rattle.multipliers.specs.Bytes.{multipliers_length, multipliers_bytes}
use Rattle.multipliers.specs.Shown.{Multipliers}
use Rattle.solvability.specs.Host.{set_shown, HostMultipliers}
use Rattle.promises.specs.AnswerLaws.{front_area}
use Rattle.promises.specs.FileLaws.{file_accepted}

pub file_call : (s : List ℕ) → AreBytes s → (held : ColumnSet) (x : ℕ) (r : Multipliers) → MultipliersFileCall s held x r → r.refusal ≡ 0
    → MultipliersCall (decode s).p (decode s).n (decode s).a 0 (flatten (decode s).constants) [] none held x r
unfolding judge refusal
file_call s bytes held x r call ok =
    let question = column_question (decode s).n (whole held) x in
    let due = sym call.is_refusal ∙ ok in
    let passed = then_zero (closed fields s) question due in
    let none_due = zero_then (model_tests (decode s).p (decode s).n (decode s).a 0 (flatten (decode s).constants) [] none) question
    (accepted_model _ _ _ _ _ _ none (constants_accepted (file_accepted s bytes passed.0))) passed.1 in
    record { is_refusal = ok ∙ sym none_due; if_refused = λ ne. absurd (ne none_due); if_accepted = λ z. call.if_accepted due }

-- a host's call, by whether the bytes of the held set are enough and by the set's number
abbrev Asks : (s : List ℕ) (x : ℕ) (area : List ℕ) (number : ℕ) (area' : List ℕ) (enough : Bool) (held : ℕ) → Type 0
Asks s x area number area' enough held =
    AreaCall (closed fields s) (unless enough area_short then column_question (decode s).n held x) multipliers_length (WrittenOver (FileAnswered s (members held) x) multipliers_bytes) area number area'

pub host_call : (s held : List ℕ) (set : ColumnSet) → whole set ≡ set_shown held → (x : ℕ) (area area' : List ℕ) → HostMultipliers s held x area 0 area'
    → AnswerShown (λ r. (r.refusal ≡ 0) × MultipliersFileCall s set x r) (λ r. area' ≡ over (multipliers_bytes r) area)
unfolding area_refusal
host_call s held set same x area area' call =
    let shown = call.if_accepted (sym call.is_number) in
    let passed = then_zero (closed fields s) _ (sym call.is_number) in
    let asked = (then_zero (unless (area_test set_bytes (length held)) area_short) (column_question (decode s).n (set_shown held) x) (then_zero (unless (area_test multipliers_length (length area)) area_short) _ passed.1).1).1 in
    let none_due : first_refusal (closed fields s then column_question (decode s).n (whole set) x) ≡ 0 =
    zero_then (closed fields s) _ passed.0 (ap (λ (k : ℕ). first_refusal (column_question (decode s).n k x)) same ∙ asked) in
    record {
      answer = record { refusal = 0; outcome = shown.answer.outcome; multipliers = shown.answer.multipliers };
      is_answer = (
        refl,
        record {
          is_refusal = sym none_due;
          if_refused = λ ne. absurd (ne none_due);
          if_accepted = λ z. subst (λ (k : ℕ). FileAnswered s (members k) x shown.answer) (sym same) shown.is_answer;
        },
      );
      is_shown = shown.is_shown;
    }

pub held_surplus : (s held other : List ℕ) → take set_bytes held ≡ take set_bytes other → (x : ℕ) (area : List ℕ) (the_number : ℕ) (area' : List ℕ)
    → HostMultipliers s held x area the_number area' → HostMultipliers s other x area the_number area'
held_surplus s held other e x area the_number area' call =
    subst (λ (k : ℕ). Asks s x area the_number area' (area_test set_bytes (length other)) k) (ap number e)
    (subst (λ (t : Bool). Asks s x area the_number area' t (set_shown held)) (front_area set_bytes held other e) call)
