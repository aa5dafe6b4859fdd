-- The report of a rank call, by the answer that it gives. Assumes nothing.
use Rattle.std.specs.Prelude.{ℕ, ◌≤◌, List, length, Result}
use Rattle.std.proofs.Common.{sym, ap, ◌∙◌}
use Rattle.std.proofs.Math.Decide.{ℕ_discrete}
use Rattle.layered.specs.Answers.{RankCall}
use Rattle.format.specs.declared.refusals.Refusal.{Refusal}
use Rattle.text.specs.Text.{refused_line, printed_length, Prints}
use Rattle.text.specs.PutLaws.{prints_as, prints_within}
use Rattle.report.specs.Report.{report_text}
use Rattle.report.specs.ReportLaws.{report_refused, report_answer}
use Rattle.report.specs.FileReport.{Reports}

pub call_reported : {A : Type 0} {Holds : A → Type 0} {text : A → List ℕ} {due : ℕ} {area area' : List ℕ} {r : Result ℕ Refusal} {Refused : Type 0} (t : A) (given : ℕ) → RankCall due given Refused (Holds t)
    → Prints (report_text given (text t)) area r area' → Reports due Holds text area r area'
call_reported t given h w = record {
  if_refused = λ nz. prints_as (report_refused given _ (λ z. nz (sym h.is_refusal ∙ z)) ∙ ap refused_line h.is_refusal) w;
  if_accepted = λ z. record {
    answer = t;
    is_answer = h.if_accepted z;
    is_shown = prints_as (report_answer given _ (h.is_refusal ∙ z)) w;
  };
}

-- a report lies within the area, so that the caller may lend that part on
pub reports_within : {A : Type 0} {Holds : A → Type 0} {text : A → List ℕ} {due : ℕ} {area area' : List ℕ} {r : Result ℕ Refusal} → Reports due Holds text area r area' → printed_length r ≤ length area'
reports_within {due = due} h = elim (ℕ_discrete due 0) [
  | yes z ↦ prints_within (h.if_accepted z).is_shown
  | no nz ↦ prints_within (h.if_refused nz)
]
