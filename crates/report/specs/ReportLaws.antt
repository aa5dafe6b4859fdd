-- What a report says of an answer or a refusal, and how long it is. Assumes nothing.
use Rattle.std.specs.Prelude.{ℕ, ◌≤◌, ◌<◌, ◌≡◌, refl, ◌≢◌, List, length, Result, Ok, Err}
use Rattle.std.proofs.Math.Logic.{by_cases}
use Rattle.std.proofs.Common.{arith, eq-eqb, ne_eqb}
use Rattle.std.proofs.Math.Decide.{ℕ_discrete}
use Rattle.format.proofs.Refused.{refusal_some}
use Rattle.format.specs.Refused.{refusal_number}
use Rattle.format.specs.declared.refusals.Refusal.{Refusal}
use Rattle.format.specs.declared.refusals.Refusal.TheVariants.{Truncated, Unexpected, NotPrime, SizesBeyond, ConstantBeyond, ParameterBeyond, Trailing, AreaShort, RowBeyond, NotMixed, ColumnBeyond, ColumnPlaced, NumberTwice, AlreadySo, NoDegree}
use Rattle.text.specs.Text.{refused_line}
use Rattle.text.specs.TextLaws.{refused_line_length}
use Rattle.report.specs.Report.{report_text}

pub report_refused : (refusal : ℕ) (answer : List ℕ) → refusal ≢ 0 → report_text refusal answer ≡ refused_line refusal
unfolding report_text
report_refused refusal answer ne = rw (ne_eqb refusal 0 ne) refl

pub report_answer : (refusal : ℕ) (answer : List ℕ) → refusal ≡ 0 → report_text refusal answer ≡ answer
unfolding report_text
report_answer refusal answer e = rw (eq-eqb refusal 0 e) refl

-- a report is not longer than its answer may be, since a refusal's number has 32 bits
pub report_length : (refusal : ℕ) (answer : List ℕ) (most : ℕ) → refusal < 4294967296 → 19 ≤ most → length answer ≤ most → length (report_text refusal answer) ≤ most
report_length refusal answer most f s h = by_cases (ℕ_discrete refusal 0)
    (λ e. rw (report_answer refusal answer e) h)
    (λ ne. rw (report_refused refusal answer ne) (omega (arith, refused_line_length refusal f)))

refusal_small : (e : Refusal) → refusal_number e < 4294967296
refusal_small Truncated = omega arith
refusal_small Unexpected = omega arith
refusal_small NotPrime = omega arith
refusal_small SizesBeyond = omega arith
refusal_small ConstantBeyond = omega arith
refusal_small ParameterBeyond = omega arith
refusal_small Trailing = omega arith
refusal_small AreaShort = omega arith
refusal_small RowBeyond = omega arith
refusal_small NotMixed = omega arith
refusal_small ColumnBeyond = omega arith
refusal_small ColumnPlaced = omega arith
refusal_small NumberTwice = omega arith
refusal_small AlreadySo = omega arith
refusal_small NoDegree = omega arith

-- the report of what a call gives is not longer than an answer's may be
pub shown_length : {A B : Type 0} (shown : Result A Refusal → B) (refusal : B → ℕ) (text : B → List ℕ) (most : ℕ) → 19 ≤ most → ((t : A) → refusal (shown (Ok t)) ≡ 0)
    → ((e : Refusal) → refusal (shown (Err e)) ≡ refusal_number e) → (r : Result A Refusal) → ((t : A) → r ≡ Ok t → length (text (shown (Ok t))) ≤ most)
    → length (report_text (refusal (shown r)) (text (shown r))) ≤ most
shown_length shown refusal text most s none some (Ok t) h = rw (report_answer _ (text (shown (Ok t))) (none t)) (h t refl)
shown_length shown refusal text most s none some (Err e) h =
    rw (some e, report_refused _ (text (shown (Err e))) (refusal_some e)) (omega (arith, refused_line_length _ (refusal_small e)))
