-- The call about the reason for a column on a file is the call on the file's model handed over, and the call from C is the call on its file. Assumes nothing.
use Rattle.std.specs.Prelude.{ℕ, ◌≡◌, refl, length}
use Rattle.std.proofs.Common.{sym, ◌∙◌}
use Rattle.std.proofs.Math.Option.{none}
use mathlib.Core.List.{List, flatten}
use Rattle.columns.specs.Words.Bytes.{AreBytes}
use Rattle.format.specs.Lists.{over}
use Rattle.format.specs.Refusals.{unless, ◌then◌, first_refusal, area_short, area_test, model_tests, refusal}
use Rattle.format.specs.RefusalLaws.{then_zero, zero_then}
use Rattle.format.specs.TestLaws.{accepted_model}
use Rattle.format.specs.File.Piece.{closed}
use Rattle.format.specs.File.Format.{fields, judge, decode}
use Rattle.layered.specs.Answers.{AnswerShown}
use Rattle.layered.specs.FileModel.{file_model}
use Rattle.host.specs.AreaCall.{area_refusal}
use Rattle.reason.specs.Answers.{reason_question, ReasonCall, ReasonFileCall}
use Rattle.reason.specs.Bytes.{reason_length, reason_bytes}
use Rattle.reason.specs.Shown.{Reason}
use Rattle.solvability.specs.Host.{HostReason}
use Rattle.promises.specs.FileLaws.{file_accepted}

pub reason_file_call : (s : List ℕ) → AreBytes s → (x : ℕ) (r : Reason) → ReasonFileCall s x r → r.refusal ≡ 0
    → ReasonCall (decode s).p (decode s).n (decode s).a (decode s).b (flatten (decode s).constants) (decode s).parameters none x r
unfolding judge refusal
reason_file_call s bytes x r call ok =
    let due = sym call.is_refusal ∙ ok in
    let passed = then_zero (closed fields s) (reason_question (file_model s) x) due in
    let none_due = zero_then (model_tests (decode s).p (decode s).n (decode s).a (decode s).b (flatten (decode s).constants) (decode s).parameters none) (reason_question (file_model s) x)
    (accepted_model _ _ _ _ _ _ none (file_accepted s bytes passed.0)) passed.1 in
    record { is_refusal = ok ∙ sym none_due; if_refused = λ ne. absurd (ne none_due); if_accepted = λ z. call.if_accepted due }

pub reason_host_call : (s : List ℕ) (x : ℕ) (area area' : List ℕ) → HostReason s x area 0 area'
    → AnswerShown (λ r. (r.refusal ≡ 0) × ReasonFileCall s x r) (λ r. area' ≡ over (reason_bytes r) area)
unfolding area_refusal
reason_host_call s x area area' call =
    let shown = call.if_accepted (sym call.is_number) in
    let t = shown.answer in
    let passed = then_zero (closed fields s) _ (sym call.is_number) in
    let asked = (then_zero (unless (area_test reason_length (length area)) area_short) (reason_question (file_model s) x) passed.1).1 in
    let none_due : first_refusal (closed fields s then reason_question (file_model s) x) ≡ 0 = zero_then (closed fields s) _ passed.0 asked in
    let g = shown.is_answer in
    record {
      answer = record { refusal = 0; set = t.set; given = t.given; multipliers = t.multipliers };
      is_answer = (
        refl,
        record {
          is_refusal = sym none_due;
          if_refused = λ ne. absurd (ne none_due);
          if_accepted = λ z. record { set_number = g.set_number; set_is = g.set_is; is_given = g.is_given; multipliers_are = g.multipliers_are };
        },
      );
      is_shown = shown.is_shown;
    }
