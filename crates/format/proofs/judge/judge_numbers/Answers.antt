-- `judge::judge_numbers` meets its contract. Assumes nothing.
use Rattle.std.proofs.Common.{refl, sym, subst, List, ℕ, ◌++◌}
use Rattle.format.specs.NumberTable.{Keeps}
use Rattle.format.specs.RefusalLaws.{first_fails, zero_unless}
use Rattle.format.specs.File.Format.{number_tag, entries, number_body, number_field}
use Rattle.format.proofs.Judging.{handed, refused_then, refuses, gives, content_refused, content_passed}
use Rattle.format.proofs.judge.judge_numbers.Goals as goal

pub returns-in_err-body : goal.returns-in_err-body
unfolding number_field
returns-in_err-body c = record { same_length = refl; judged = λ before h. handed _ c.from_residual.ensures.1 (refused_then _ _ _ c.in_err-body.ensures.refusal_is) }

pub returns-then-not-meet_entries : goal.returns-then-not-meet_entries
unfolding number_field
returns-then-not-meet_entries c =
    let met = c.meet_entries.ensures in
    record {
      same_length = met.same_length;
      judged = λ before h.
          refuses (content_refused number_tag (number_body c.args.count before) c.in_ok-body.ensures _ (first_fails _ _ _ (rw c.if-not-meet_entries.true at (sym (met.told before h)))));
    }

pub returns : goal.returns
unfolding number_field
returns c =
    let met = c.meet_entries.ensures in
    let j = c.in_ok-body.ensures in
    record {
      same_length = met.same_length;
      judged = λ before h.
          gives (content_passed number_tag (number_body c.args.count before) j (zero_unless _ _ (rw c.if-not-meet_entries.false at (sym (met.told before h))))) (
            j.given.rest_is.bytes_are,
            subst (λ (t : List ℕ). Keeps (before ++ entries t) c.meet_entries.new.table) j.given.body_is (met.kept before h c.if-not-meet_entries.false),
          );
    }
