-- What the calls promise of a file that was cut off behind the longest file, they promise of the whole. Assumes nothing.
use Prim.Native.Nat.{ℕ, ◌≤◌, ◌<◌}
use Rattle.std.specs.Prelude.{◌≡◌, Bool, length, take, Result}
use Rattle.std.proofs.Math.Path.{refl, sym, ap, subst}
use Rattle.std.proofs.Common.{◌∙◌, arith, take_all}
use Rattle.std.proofs.Math.Logic.{by_cases}
use mathlib.Core.List.{List, [], flatten}
use Rattle.std.proofs.Math.Decide.{ℕ_discrete}
use Rattle.columns.specs.Columns.{members}
use Rattle.columns.specs.Words.Bytes.{AreBytes}
use Rattle.format.specs.Lists.{over}
use Rattle.limits.specs.Limits.{most_rows, longest_file}
use Rattle.format.specs.Numbers.{number_entries, is_numbered}
use Rattle.format.specs.Refusals.{Tests, unless, ◌then◌, first_refusal, area_short, area_test}
use Rattle.format.specs.RefusalLaws.{then_refused, where_refused}
use Rattle.format.specs.File.Piece.{closed}
use Rattle.format.specs.File.Format.{FileModel, ValidModel, fields, judge, decode, area_tests, number_room, no_model, read_model, RowsRead, rows_refusal, RowsCall, read_refusal, model_read, ReadCall}
use Rattle.format.specs.File.FormatLaws.{decoded_valid, encode_decode}
use Rattle.format.specs.File.RowSizes.{parameter_rows_most}
use Rattle.format.specs.File.WriteLaws.{file_length, numbers_size_most}
use Rattle.layered.specs.Answers.{Answered}
use Rattle.layered.specs.FileModel.{file_model}
use Rattle.mixed.specs.MixedAnswers.{MixedAnswered, file_mixed, mixed_question}
use Rattle.host.specs.AreaCall.{area_refusal, AreaCall, WrittenOver}
use Rattle.host.specs.AnswerBytes.{answer_length, AnswerWritten, mixed_length, MixedWritten}
use Rattle.editing.specs.Areas.{open_bytes, file_opened}
use Rattle.multipliers.specs.Answers.{FileAnswered}
use Rattle.multipliers.specs.Bytes.{multipliers_length, multipliers_bytes}
use Rattle.reason.specs.Answers.{reason_question, FileReason}
use Rattle.reason.specs.Bytes.{reason_length, reason_bytes}
use Rattle.acceptance.specs.Bytes.{claim_question, AcceptanceOf, acceptance_length, acceptance_bytes}
use Rattle.blocks.specs.Answers.{BlocksAnswered}
use Rattle.blocks.specs.Bytes.{blocks_length, blocks_bytes}
use Rattle.degrees.specs.Degrees.{listed_powers}
use Rattle.degree.specs.Answers.{file_question, DegreeAnswered}
use Rattle.degree.specs.Bytes.{degree_length, degree_bytes}
use Rattle.solvability.specs.Host.{HostAnswer, HostMixedAnswer, set_shown, multipliers_question, HostMultipliers, HostReason, HostAccepts, HostBlocks, HostDegree, HostOpen}
use Rattle.text.specs.Text.{refused_line, Prints}
use Rattle.format.specs.declared.refusals.Refusal.{Refusal}
use Rattle.report.specs.Report.{answer_text}
use Rattle.report.specs.FileReport.{Reports, FileReport}
use Rattle.mixed_report.specs.MixedReport.{mixed_answer_text, MixedFileReport}
use Rattle.reason_report.specs.ReasonReport.{reason_text, ReasonFileReport}
use Rattle.blocks_report.specs.BlocksReport.{blocks_text, BlocksFileReport}
use Rattle.rank.specs.Layered.Rank.{rank, verdict}
use Rattle.promises.specs.CutLaws.{rows_most, judge_cut}

-- an accepted file is no longer than the longest
pub accepted_most : (s : List ℕ) → AreBytes s → judge s ≡ 0 → length s ≤ longest_file
accepted_most s bytes e =
    let v = decoded_valid s bytes e in
    let l = sym (ap length (encode_decode s bytes e)) ∙ file_length (decode s) v in
    omega (arith, rows_most (decode s).a (decode s).n v.a_most v.n_most, parameter_rows_most (decode s).b (decode s).n v.b_most, numbers_size_most (decode s).n (decode s).parameters (decode s).numbers, rows_most (length (decode s).parameters) (decode s).n (few (decode s).parameters v) v.n_most)
  where
    few : (ws : List ℕ) → ValidModel (decode s) → length (decode s).parameters ≤ most_rows
    few ws v = omega (arith, v.parameter_rows, v.b_most)

module _ (k : ℕ) (s : List ℕ) (bytes : AreBytes s) (h : longest_file < k) where
  -- an accepted file is not cut
  pub accepted_whole : judge s ≡ 0 → take k s ≡ s
  accepted_whole e = take_all k s (omega (arith, accepted_most s bytes e))

  -- ---- read into areas

  -- of every reading: the file's own number, then those of its areas
  module _ (areas : List ℕ → Tests) where
    abbrev due : List ℕ → ℕ
    due t = first_refusal (closed fields t then areas t)

    due_cut : due (take k s) ≡ due s
    unfolding judge
    due_cut =
        by_cases (ℕ_discrete (judge s) 0)
        (λ z. ap due (accepted_whole z))
        (λ nz. sym (then_refused (closed fields (take k s)) _ (judge s) (sym (judge_cut k s h)) nz) ∙ then_refused (closed fields s) _ (judge s) refl nz)

    model_cut : read_model (due (take k s)) (take k s) ≡ read_model (due s) s
    unfolding read_model judge
    model_cut =
        by_cases (ℕ_discrete (judge s) 0)
        (λ z. ap (λ (t : List ℕ). read_model (due t) t) (accepted_whole z))
        (λ nz.
        let e : judge s ≡ due s = then_refused (closed fields s) _ (judge s) refl nz in
        where_refused (judge s) (e ∙ sym due_cut) nz (decode (take k s)) no_model ∙ sym (where_refused (judge s) e nz (decode s) no_model))

    rows_cut : {cs ws : List ℕ} {r p n a b : ℕ} {u : Bool} {cs' ws' : List ℕ} → RowsRead (due (take k s)) (take k s) cs ws r p n a b u cs' ws' → RowsRead (due s) s cs ws r p n a b u cs' ws'
    rows_cut {cs} {ws} g = record {
      refusal_is = g.refusal_is ∙ due_cut;
      p_is = g.p_is ∙ ap (λ (m : FileModel). m.p) model_cut;
      n_is = g.n_is ∙ ap (λ (m : FileModel). m.n) model_cut;
      a_is = g.a_is ∙ ap (λ (m : FileModel). m.a) model_cut;
      b_is = g.b_is ∙ ap (λ (m : FileModel). m.b) model_cut;
      numbered_is = g.numbered_is ∙ ap (λ (m : FileModel). is_numbered m.numbers) model_cut;
      constants_are = g.constants_are ∙ ap (λ (m : FileModel). over (flatten m.constants) cs) model_cut;
      parameters_are = g.parameters_are ∙ ap (λ (m : FileModel). over m.parameters ws) model_cut;
    }

  pub rows_reading_cut : (cs ws : List ℕ) (r p n a b : ℕ) (u : Bool) (cs' ws' : List ℕ) → RowsCall (take k s) cs ws r p n a b u cs' ws' → RowsCall s cs ws r p n a b u cs' ws'
  unfolding rows_refusal
  rows_reading_cut cs ws r p n a b u cs' ws' g = rows_cut (λ t. area_tests (decode t) cs ws) g

  pub reading_cut : (cs ws ks : List ℕ) (r p n a b : ℕ) (u : Bool) (cs' ws' ks' : List ℕ) → ReadCall (take k s) cs ws ks r p n a b u cs' ws' ks' → ReadCall s cs ws ks r p n a b u cs' ws' ks'
  unfolding read_refusal model_read
  reading_cut cs ws ks r p n a b u cs' ws' ks' g =
      record {
        rows_are = rows_cut (tests cs ws ks) g.rows_are;
        numbers_are = g.numbers_are ∙ ap (λ (m : FileModel). over (number_entries m.n m.parameters m.numbers) ks) (model_cut (tests cs ws ks));
      }
    where
      tests : (cs ws ks : List ℕ) → List ℕ → Tests
      tests cs ws ks t = area_tests (decode t) cs ws then unless (area_test (number_room (decode t)) (length ks)) area_short

  -- ---- the C calls

  -- of every call on a file that lends an area
  module _ (after : List ℕ → Tests) (least : List ℕ → ℕ) (Written : List ℕ → List ℕ → List ℕ → Type 0) where
    abbrev Call : List ℕ → List ℕ → ℕ → List ℕ → Type 0
    Call t = AreaCall (closed fields t) (after t) (least t) (Written t)

    area_cut : (area : List ℕ) (number : ℕ) (area' : List ℕ) → Call (take k s) area number area' → Call s area number area'
    unfolding area_refusal judge
    area_cut area number area' g =
        by_cases (ℕ_discrete (judge s) 0)
        (λ z. subst (λ (t : List ℕ). Call t area number area') (accepted_whole z) g)
        (λ nz.
        let e : judge s ≡ area_refusal (closed fields s) (after s) (least s) area = then_refused (closed fields s) _ (judge s) refl nz in
        let f : judge s ≡ area_refusal (closed fields (take k s)) (after (take k s)) (least (take k s)) area =
        then_refused (closed fields (take k s)) _ (judge s) (sym (judge_cut k s h)) nz in
        record {
          is_number = g.is_number ∙ sym f ∙ e;
          if_refused = λ _. g.if_refused (λ z. nz (f ∙ z));
          if_accepted = λ z. absurd (nz (e ∙ z));
        })

  pub host_cut : (area : List ℕ) (number : ℕ) (area' : List ℕ) → HostAnswer (take k s) area number area' → HostAnswer s area number area'
  host_cut = area_cut (λ t. []) (λ t. answer_length) (λ t. AnswerWritten (file_model t))

  pub host_mixed_cut : (area : List ℕ) (number : ℕ) (area' : List ℕ) → HostMixedAnswer (take k s) area number area' → HostMixedAnswer s area number area'
  host_mixed_cut = area_cut mixed_question (λ t. mixed_length) (λ t. MixedWritten (file_mixed t))

  pub host_multipliers_cut : (held : List ℕ) (x : ℕ) (area : List ℕ) (number : ℕ) (area' : List ℕ) → HostMultipliers (take k s) held x area number area' → HostMultipliers s held x area number area'
  host_multipliers_cut held x = area_cut (λ t. multipliers_question t held x) (λ t. multipliers_length) (λ t. WrittenOver (FileAnswered t (members (set_shown held)) x) multipliers_bytes)

  pub host_reason_cut : (x : ℕ) (area : List ℕ) (number : ℕ) (area' : List ℕ) → HostReason (take k s) x area number area' → HostReason s x area number area'
  host_reason_cut x = area_cut (λ t. reason_question (file_model t) x) (λ t. reason_length) (λ t. WrittenOver (FileReason t x) reason_bytes)

  pub host_accepts_cut : (claim area : List ℕ) (number : ℕ) (area' : List ℕ) → HostAccepts (take k s) claim area number area' → HostAccepts s claim area number area'
  host_accepts_cut claim = area_cut (λ t. claim_question claim) (λ t. acceptance_length) (λ t. WrittenOver (AcceptanceOf (file_model t) claim) acceptance_bytes)

  pub host_blocks_cut : (area : List ℕ) (number : ℕ) (area' : List ℕ) → HostBlocks (take k s) area number area' → HostBlocks s area number area'
  host_blocks_cut = area_cut (λ t. []) (λ t. blocks_length) (λ t. WrittenOver (BlocksAnswered (file_model t)) blocks_bytes)

  pub host_degree_cut : (rp cp pp area : List ℕ) (number : ℕ) (area' : List ℕ) → HostDegree (take k s) rp cp pp area number area' → HostDegree s rp cp pp area number area'
  host_degree_cut rp cp pp = area_cut (λ t. file_question t rp cp pp) (λ t. degree_length) (λ t. WrittenOver (DegreeAnswered (file_model t) (listed_powers (decode t).n rp cp pp)) degree_bytes)

  pub host_open_cut : (area : List ℕ) (number : ℕ) (area' : List ℕ) → HostOpen (take k s) area number area' → HostOpen s area number area'
  host_open_cut = area_cut (λ t. []) (λ t. length (open_bytes (file_opened t))) (λ t area area'. area' ≡ over (open_bytes (file_opened t)) area)

  -- ---- the reports

  -- of every report of a file
  module _ {A : Type 0} (after : List ℕ → Tests) (Holds : List ℕ → A → Type 0) (text : A → List ℕ) where
    abbrev Report : List ℕ → List ℕ → Result ℕ Refusal → List ℕ → Type 0
    Report t = Reports (first_refusal (closed fields t then after t)) (Holds t) text

    reports_cut : (area : List ℕ) (r : Result ℕ Refusal) (area' : List ℕ) → Report (take k s) area r area' → Report s area r area'
    unfolding judge
    reports_cut area r area' g =
        by_cases (ℕ_discrete (judge s) 0)
        (λ z. subst (λ (t : List ℕ). Report t area r area') (accepted_whole z) g)
        (λ nz.
        let e = then_refused (closed fields s) (after s) (judge s) refl nz in
        let f = then_refused (closed fields (take k s)) (after (take k s)) (judge s) (sym (judge_cut k s h)) nz in
        record {
          if_refused = λ _. subst (λ (j : ℕ). Prints (refused_line j) area r area') (sym f ∙ e) (g.if_refused (λ z. nz (f ∙ z)));
          if_accepted = λ z. absurd (nz (e ∙ z));
        })

  -- of those that ask nothing but the file's judgement
  module _ {A : Type 0} (Holds : List ℕ → A → Type 0) (text : List ℕ → A → List ℕ) where
    abbrev Judged : List ℕ → List ℕ → Result ℕ Refusal → List ℕ → Type 0
    Judged t = Reports (judge t) (Holds t) (text t)

    judged_cut : (area : List ℕ) (r : Result ℕ Refusal) (area' : List ℕ) → Judged (take k s) area r area' → Judged s area r area'
    judged_cut area r area' g = record {
      if_refused = λ nz. subst (λ (j : ℕ). Prints (refused_line j) area r area') (judge_cut k s h) (g.if_refused (λ z. nz (sym (judge_cut k s h) ∙ z)));
      if_accepted = λ z. (subst (λ (t : List ℕ). Judged t area r area') (accepted_whole z) g).if_accepted z;
    }

  pub report_cut : (area : List ℕ) (r : Result ℕ Refusal) (area' : List ℕ) → FileReport (take k s) area r area' → FileReport s area r area'
  report_cut = judged_cut (λ t. Answered (file_model t)) (λ t. answer_text)

  pub blocks_report_cut : (area : List ℕ) (r : Result ℕ Refusal) (area' : List ℕ) → BlocksFileReport (take k s) area r area' → BlocksFileReport s area r area'
  blocks_report_cut = judged_cut (λ t. BlocksAnswered (file_model t)) (λ t. blocks_text (verdict (file_model t)) (rank (file_model t)))

  pub mixed_report_cut : (area : List ℕ) (r : Result ℕ Refusal) (area' : List ℕ) → MixedFileReport (take k s) area r area' → MixedFileReport s area r area'
  mixed_report_cut = reports_cut mixed_question (λ t. MixedAnswered (file_mixed t)) mixed_answer_text

  pub reason_report_cut : (x : ℕ) (area : List ℕ) (r : Result ℕ Refusal) (area' : List ℕ) → ReasonFileReport (take k s) x area r area' → ReasonFileReport s x area r area'
  reason_report_cut x = reports_cut (λ t. reason_question (file_model t) x) (λ t. FileReason t x) reason_text
