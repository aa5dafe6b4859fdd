-- How little the promises leave open: two results of one call agree but in the results that the documents leave open, and what holds of those.
-- Assumes nothing.
use Rattle.std.specs.Prelude.{ℕ, zero, suc, ◌-◌, ◌/◌, ◌%◌, ◌≤◌, ◌<◌, ◌≡◌, ◌≢◌, Bool, true, false, eqb, ltb, length, replicate, Result}
use Rattle.std.proofs.Math.Path.{refl, sym, ap, ap₂, fun_ext}
use Rattle.std.proofs.Common.{◌∙◌, subst, inl, inr, true≢false, arith, lit<, eq-eqb, ne_eqb, lt-ltb, le-ltb}
use Rattle.std.proofs.lemmas.Bool.{false≢true}
use Rattle.std.proofs.Math.Bool.{cond}
use mathlib.Core.List.{List, ◌∷◌, ◌++◌, []}
use Rattle.std.proofs.Math.Option.{Option, none}
use Rattle.std.proofs.Math.Decide.{ℕ_discrete, dec_lt}
use Rattle.std.proofs.Math.ListN.{get_or}
use Rattle.std.proofs.lemmas.List.{length-replicate, get_or-replicate}
use Rattle.counting.specs.Bools.{iff_eq, not_true}
use Rattle.counting.specs.Sets.{Set, Some, ◌∈◌, indicator}
use Rattle.columns.specs.Bytes.{bytes_of}
use Rattle.columns.specs.Columns.{members}
use Rattle.columns.specs.ColumnSets.{whole, set_of}
use Rattle.columns.specs.declared.ColumnSet.{ColumnSet}
use Rattle.rank.specs.Layered.Model.{Model, Seat, out, constant, row, Assignment, is_placed, is_constant, Legal, legal}
use Rattle.rank.proofs.Layered.Meaning.{true_legal}
use Rattle.listed_models.specs.ListedModel.{listed_model}
use Rattle.degrees.specs.Degrees.{Powers, AllPlaced, degree, listed_powers, weight}
use Rattle.degrees.proofs.Theorems.{none_exceeds_the_degree}
use Rattle.exchange.specs.Solution.{shown_row, shown, ShowsRow, Solved}
use Rattle.limits.specs.Limits.{most_rows, set_bytes, no_column}
use Rattle.layered.specs.Answers.{Refused, Answered, AnswerShown, RankCall, LayeredCall}
use Rattle.layered.specs.FileModel.{file_model}
use Rattle.layered.specs.Shown.{Answer}
use Rattle.layered.proofs.FileLaws.{call_answered}
use Rattle.format.specs.Refusals.{◌then◌, first_refusal, refusal, mixed_refusal, Tests}
use Rattle.mixed_models.specs.Mixed.{Mixed}
use Rattle.mixed.specs.MixedAnswers.{MixedAnswered, MixedCall, file_mixed}
use Rattle.host.specs.AreaCall.{AreaCall, WrittenOver}
use Rattle.host.specs.AnswerBytes.{answer_bytes, mixed_bytes}
use Rattle.open_models.specs.Open.{answer_refusal, open_model}
use Rattle.editing.specs.Calls.{held, OpenCall, EditCall, AnswerCall}
use Rattle.editing.specs.Areas.{area_open}
use Rattle.editing.specs.Shown.{Held}
use Rattle.editing.specs.declared.edit.Edit.{Edit}
use Rattle.multipliers.specs.Answers.{MultipliersCall}
use Rattle.multipliers.specs.Bytes.{multipliers_bytes}
use Rattle.multipliers.specs.Shown.{Multipliers}
use Rattle.reason.specs.Answers.{reason_question, FileReason, ReasonCall}
use Rattle.reason_report.specs.ReasonReport.{multiplier_line, reason_text, ReasonFileReport}
use Rattle.blocks_report.specs.BlocksReport.{block_lines, blocks_text, BlocksFileReport}
use Rattle.reason.specs.Bytes.{reason_bytes}
use Rattle.reason.specs.Shown.{Reason}
use Rattle.acceptance.specs.Answers.{AcceptanceCall}
use Rattle.acceptance.specs.Bytes.{claim_question, acceptance_bytes}
use Rattle.acceptance.specs.declared.Claim.{Claim}
use Rattle.acceptance.specs.Shown.{Acceptance}
use Rattle.acceptance.proofs.SumLaws.{set_below}
use Rattle.blocks.specs.Answers.{BlocksCall}
use Rattle.blocks.specs.Bytes.{blocks_bytes}
use Rattle.blocks.specs.Shown.{Blocks}
use Rattle.degree.specs.Answers.{DegreeAnswered, DegreeCall}
use Rattle.degree.specs.Shown.{Degree}
use Rattle.solvability.specs.Host.{HostAnswer, HostMixedAnswer, multipliers_question, HostMultipliers, HostReason, HostAccepts, HostBlocks, HostDegree, HostOpen, HostEdit, HostOpenAnswer}
use Rattle.text.specs.Text.{ascii, line, item, column_items, verdict_line, print_refusal, printed, printed_length, Prints}
use Rattle.rank.specs.Layered.Rank.{rank, verdict}
use Rattle.format.specs.Refused.{refusal_of}
use Rattle.format.specs.declared.refusals.Refusal.{Refusal}
use Rattle.report.specs.Report.{answer_text}
use Rattle.report.specs.FileReport.{FileReport}
use Rattle.format.specs.Lists.{over}
use Rattle.format.specs.File.Piece.{closed}
use Rattle.format.specs.File.Format.{fields, entry_bytes, judge}
use Rattle.mixed.specs.Shown.{MixedAnswer}
use Rattle.promises.specs.Fixed.{SameAnswer, SameShown, SameMixed, SameMixedShown, SameReason, SameAcceptance, SameBlocks, SameDegree, TwoShown}
use Rattle.promises.specs.AnswerLaws.{layered_same, mixed_same}
use Rattle.promises.specs.ReasonSameLaws.{reason_calls_same}
use Rattle.promises.specs.AcceptanceSameLaws.{acceptance_calls_same}
use Rattle.promises.specs.BlocksSameLaws.{blocks_calls_same}
use Rattle.promises.specs.DegreeSameLaws.{degree_calls_same, front_powers}
use Rattle.refutations.specs.Dynamic.{run}

-- ---- two results of one call

module _ (p n a b : ℕ) (cs ws : List ℕ) (ns : Option (List ℕ)) where
  -- of the layered call agree in every number and set but the side and the rows,
  pub layered_fixed : {r s : Answer} → LayeredCall p n a b cs ws ns r → LayeredCall p n a b cs ws ns s → SameAnswer r s
  layered_fixed = layered_same p n a b cs cs ws ws refl refl ns ns refl

  -- where it refuses, in these too;
  pub refused_fixed : {r s : Answer} → LayeredCall p n a b cs ws ns r → LayeredCall p n a b cs ws ns s → refusal p n a b cs ws ns ≢ 0
      → (r.constants ≡ s.constants) × (r.rows ≡ s.rows)
  refused_fixed x y ne =
      ((x.if_refused ne).none_on_the_side ∙ sym (y.if_refused ne).none_on_the_side, (x.if_refused ne).no_columns ∙ sym (y.if_refused ne).no_columns)

  -- of the mixed call agree in every number and set but I and J,
  pub mixed_fixed : {r s : MixedAnswer} → MixedCall p n a b cs ws ns r → MixedCall p n a b cs ws ns s → SameMixed r s
  mixed_fixed = mixed_same p n a b cs cs ws ws refl refl ns ns refl

  -- where it refuses, in these too.
  pub mixed_refused_fixed : {r s : MixedAnswer} → MixedCall p n a b cs ws ns r → MixedCall p n a b cs ws ns s → mixed_refusal p n a b cs ws ns ≢ 0
      → (r.rows ≡ s.rows) × (r.columns ≡ s.columns)
  mixed_refused_fixed x y ne = ((x.if_refused ne).no_rows ∙ sym (y.if_refused ne).no_rows, (x.if_refused ne).no_columns ∙ sym (y.if_refused ne).no_columns)

-- of the call about multipliers agree in everything,
pub multipliers_fixed : (p n a b : ℕ) (cs ws : List ℕ) (ns : Option (List ℕ)) (held : ColumnSet) (x : ℕ) {r s : Multipliers} → MultipliersCall p n a b cs ws ns held x r → MultipliersCall p n a b cs ws ns held x s
    → (r.refusal ≡ s.refusal) × (r.outcome ≡ s.outcome) × (r.multipliers ≡ s.multipliers)
multipliers_fixed p n a b cs ws ns held x {r} {s} f g = elim (ℕ_discrete r.refusal 0) [
  | yes z ↦
      let u = f.if_accepted (sym f.is_refusal ∙ z) in
      let v = g.if_accepted (sym f.is_refusal ∙ z) in
      (same, u.outcome_is ∙ sym v.outcome_is, u.multipliers_are ∙ sym v.multipliers_are)
  | no nz ↦
      let u = f.if_refused (λ z. nz (f.is_refusal ∙ z)) in
      let v = g.if_refused (λ z. nz (f.is_refusal ∙ z)) in
      (same, u.no_outcome ∙ sym v.no_outcome, u.no_multipliers ∙ sym v.no_multipliers)
]
  where
    same : r.refusal ≡ s.refusal
    same = f.is_refusal ∙ sym g.is_refusal

-- and so do two of the call about the reason for a column, of the call about a claim, and of the call about blocks
pub reason_fixed : (p n a b : ℕ) (cs ws : List ℕ) (ns : Option (List ℕ)) (x : ℕ) {r s : Reason} → ReasonCall p n a b cs ws ns x r → ReasonCall p n a b cs ws ns x s → SameReason r s
reason_fixed p n a b cs ws ns x = reason_calls_same p n a b cs cs ws ws refl refl x ns ns refl

pub acceptance_fixed : (p n a b : ℕ) (cs ws : List ℕ) (ns : Option (List ℕ)) (c : Claim) (r s : Acceptance) → AcceptanceCall p n a b cs ws ns c r → AcceptanceCall p n a b cs ws ns c s → SameAcceptance r s
acceptance_fixed p n a b cs ws ns c = acceptance_calls_same p n a b cs cs ws ws refl refl c ns ns refl

pub blocks_fixed : (p n a b : ℕ) (cs ws : List ℕ) (ns : Option (List ℕ)) (r s : Blocks) → BlocksCall p n a b cs ws ns r → BlocksCall p n a b cs ws ns s → SameBlocks r s
blocks_fixed p n a b cs ws ns = blocks_calls_same p n a b cs cs ws ws refl refl ns ns refl

-- of the call about the degree agree in the refusal and in the degree,
pub degree_fixed : (p n a b : ℕ) (cs ws : List ℕ) (ns : Option (List ℕ)) (rp cp pp : List ℕ) (r s : Degree) → DegreeCall p n a b cs ws ns rp cp pp r → DegreeCall p n a b cs ws ns rp cp pp s → SameDegree r s
degree_fixed p n a b cs ws ns rp cp pp = degree_calls_same p n a b cs cs ws ws refl refl rp cp pp rp cp pp (front_powers p n a b cs ws rp cp pp rp cp pp refl refl refl) ns ns refl

-- where it refuses, in the side and the rows too
pub degree_refused_fixed : (p n a b : ℕ) (cs ws : List ℕ) (ns : Option (List ℕ)) (rp cp pp : List ℕ) (r s : Degree) → DegreeCall p n a b cs ws ns rp cp pp r → DegreeCall p n a b cs ws ns rp cp pp s → r.refusal ≢ 0
    → (r.constants ≡ s.constants) × (r.rows ≡ s.rows)
degree_refused_fixed p n a b cs ws ns rp cp pp r s f g ne =
    let u = f.if_refused (λ z. ne (f.is_refusal ∙ z)) in
    let v = g.if_refused (λ z. ne (f.is_refusal ∙ z)) in
    (u.none_on_the_side ∙ sym v.none_on_the_side, u.no_columns ∙ sym v.no_columns)

-- of the calls on an open model that is handed over agree in everything, but the answers in the side and the rows,
pub open_fixed : (p n a b : ℕ) (cs ws : List ℕ) (ns : Option (List ℕ)) (r s : Held) → OpenCall p n a b cs ws ns r → OpenCall p n a b cs ws ns s → (r.refusal ≡ s.refusal) × (whole r.present ≡ whole s.present)
open_fixed p n a b cs ws ns r s f g = elim (ℕ_discrete (refusal p n a b cs ws ns) 0) [
  | yes z ↦ (f.is_refusal ∙ sym g.is_refusal, (f.if_accepted z).is_number ∙ sym (g.if_accepted z).is_number)
  | no nz ↦ (f.is_refusal ∙ sym g.is_refusal, ap whole (f.if_refused nz ∙ sym (g.if_refused nz)))
]

pub edit_fixed : (p n a b : ℕ) (cs words : List ℕ) (present : ColumnSet) (e : Edit) (r s : Held) (words' words'' : List ℕ) → EditCall p n a b cs words present e r words' → EditCall p n a b cs words present e s words''
    → (r.refusal ≡ s.refusal) × (words' ≡ words'') × (whole r.present ≡ whole s.present)
edit_fixed p n a b cs words present e r s words' words'' f g =
    (f.is_refusal ∙ sym g.is_refusal, f.words_are ∙ sym g.words_are, f.present_are.is_number ∙ sym g.present_are.is_number)

pub open_answer_fixed : (p n a b : ℕ) (cs ws : List ℕ) (present : ColumnSet) (r s : Answer) → AnswerCall p n a b cs ws present r → AnswerCall p n a b cs ws present s → SameAnswer r s
open_answer_fixed p n a b cs ws present r s = rank_call_fixed (answer_refusal (held p n a b cs ws present)) (open_model (held p n a b cs ws present))
  where
    rank_call_fixed : (k : ℕ) (M : Model) → RankCall k r.refusal (Refused r) (Answered M r) → RankCall k s.refusal (Refused s) (Answered M s) → SameAnswer r s
    rank_call_fixed k M f g = elim (ℕ_discrete k 0) [
      | yes z ↦
          let x = f.if_accepted z in
          let y = g.if_accepted z in
          record {
            same_refusal = f.is_refusal ∙ sym g.is_refusal;
            same_verdict = x.is_verdict ∙ sym y.is_verdict;
            same_rank = x.solved.is_rank ∙ sym y.solved.is_rank;
            same_placed = x.placed_number ∙ sym y.placed_number;
            same_short = x.short_number ∙ sym y.short_number;
          }
      | no nz ↦
          let x = f.if_refused nz in
          let y = g.if_refused nz in
          record {
            same_refusal = f.is_refusal ∙ sym g.is_refusal;
            same_verdict = x.no_verdict ∙ sym y.no_verdict;
            same_rank = x.no_rank ∙ sym y.no_rank;
            same_placed = ap whole (x.none_placed ∙ sym y.none_placed);
            same_short = ap whole (x.none_short ∙ sym y.none_short);
          }
    ]

-- where one is refused, in these too;
pub open_answer_refused_fixed : (p n a b : ℕ) (cs ws : List ℕ) (present : ColumnSet) (r s : Answer) → AnswerCall p n a b cs ws present r → AnswerCall p n a b cs ws present s → r.refusal ≢ 0
    → (r.constants ≡ s.constants) × (r.rows ≡ s.rows)
open_answer_refused_fixed p n a b cs ws present r s f g ne =
    let u = f.if_refused (λ z. ne (f.is_refusal ∙ z)) in
    let v = g.if_refused (λ z. ne (f.is_refusal ∙ z)) in
    (u.none_on_the_side ∙ sym v.none_on_the_side, u.no_columns ∙ sym v.no_columns)

-- of those on one in an area agree in the number and in the area.
pub host_open_fixed : (file area : List ℕ) (k j : ℕ) (area' area'' : List ℕ) → HostOpen file area k area' → HostOpen file area j area'' → (k ≡ j) × (area' ≡ area'')
host_open_fixed file area k j area' area'' f g = elim (ℕ_discrete k 0) [
  | yes z ↦ let e = sym f.is_number ∙ z in (f.is_number ∙ sym g.is_number, f.if_accepted e ∙ sym (g.if_accepted e))
  | no nz ↦ (f.is_number ∙ sym g.is_number, f.if_refused (λ y. nz (f.is_number ∙ y)) ∙ sym (g.if_refused (λ y. nz (f.is_number ∙ y))))
]

pub host_edit_fixed : (area bytes : List ℕ) (k j : ℕ) (area' area'' : List ℕ) → HostEdit area bytes k area' → HostEdit area bytes j area'' → (k ≡ j) × (area' ≡ area'')
host_edit_fixed area bytes k j area' area'' f g = elim (ℕ_discrete k 0) [
  | yes z ↦ let e = sym f.is_number ∙ z in (f.is_number ∙ sym g.is_number, f.if_accepted e ∙ sym (g.if_accepted e))
  | no nz ↦ (f.is_number ∙ sym g.is_number, f.if_refused (λ y. nz (f.is_number ∙ y)) ∙ sym (g.if_refused (λ y. nz (f.is_number ∙ y))))
]

-- ---- two results of one call on a file

answered_fixed : (M : Model) {r s : Answer} → Answered M r → Answered M s → SameShown r s
answered_fixed M x y = record {
  same_verdict = x.is_verdict ∙ sym y.is_verdict;
  same_rank = x.solved.is_rank ∙ sym y.solved.is_rank;
  same_placed = x.placed_number ∙ sym y.placed_number;
  same_short = x.short_number ∙ sym y.short_number;
}

mixed_answered_fixed : (X : Mixed) {r s : MixedAnswer} → MixedAnswered X r → MixedAnswered X s → SameMixedShown r s
mixed_answered_fixed X x y = record {
  same_verdict = x.is_verdict ∙ sym y.is_verdict;
  same_rank = x.is_rank ∙ sym y.is_rank;
  same_short = x.short_number ∙ sym y.short_number;
}

two_shown : {A : Type 0} {Holds Shows Also : A → Type 0} {Same : A → A → Type 0} → ((r s : A) → Holds r → Holds s → Same r s)
    → AnswerShown Holds Shows → AnswerShown Holds Also → TwoShown Same Shows Also
two_shown same x y = record {
  first = x.answer;
  second = y.answer;
  is_same = same x.answer y.answer x.is_answer y.is_answer;
  first_shown = x.is_shown;
  second_shown = y.is_shown;
}

module _ (file area : List ℕ) where
  -- the C calls: the bytes are those of two answers that agree,
  pub host_fixed : (k j : ℕ) (area' area'' : List ℕ) → HostAnswer file area k area' → HostAnswer file area j area'' → k ≡ 0
      → TwoShown SameShown (λ r. area' ≡ over (answer_bytes r) area) (λ r. area'' ≡ over (answer_bytes r) area)
  host_fixed k j area' area'' x y z =
      let e = sym x.is_number ∙ z in two_shown (λ r s. answered_fixed (file_model file)) (x.if_accepted e) (y.if_accepted e)

  pub host_mixed_fixed : (k j : ℕ) (area' area'' : List ℕ) → HostMixedAnswer file area k area' → HostMixedAnswer file area j area'' → k ≡ 0
      → TwoShown SameMixedShown (λ r. area' ≡ over (mixed_bytes r) area) (λ r. area'' ≡ over (mixed_bytes r) area)
  host_mixed_fixed k j area' area'' x y z =
      let e = sym x.is_number ∙ z in two_shown (λ r s. mixed_answered_fixed (file_mixed file)) (x.if_accepted e) (y.if_accepted e)

  -- of that on an open model too: the second list is the area for the answer
  pub host_open_answer_fixed : (k j : ℕ) (area' area'' : List ℕ) → HostOpenAnswer file area k area' → HostOpenAnswer file area j area'' → k ≡ 0
      → TwoShown SameShown (λ r. area' ≡ over (answer_bytes r) area) (λ r. area'' ≡ over (answer_bytes r) area)
  host_open_answer_fixed k j area' area'' x y z =
      let e = sym x.is_number ∙ z in two_shown (λ r s. answered_fixed (open_model (area_open file))) (x.if_accepted e) (y.if_accepted e)

  -- of a call whose answers all have the same bytes they are the same:
  bytes_fixed : {A : Type 0} {Holds : A → Type 0} (bytes : A → List ℕ) (before after : Tests) {least : ℕ} → ((r s : A) → Holds r → Holds s → bytes r ≡ bytes s) → (k j : ℕ) (area' area'' : List ℕ)
      → AreaCall before after least (WrittenOver Holds bytes) area k area' → AreaCall before after least (WrittenOver Holds bytes) area j area'' → area' ≡ area''
  bytes_fixed bytes before after same k j area' area'' f g = elim (ℕ_discrete k 0) [
    | no nk ↦ f.if_refused (λ z. nk (f.is_number ∙ z)) ∙ sym (g.if_refused (λ z. nk (f.is_number ∙ z)))
    | yes z ↦
        let u = f.if_accepted (sym f.is_number ∙ z) in
        let v = g.if_accepted (sym f.is_number ∙ z) in
        u.is_shown ∙ ap (λ (bs : List ℕ). over bs area) (same u.answer v.answer u.is_answer v.is_answer) ∙ sym v.is_shown
  ]

  -- about multipliers,
  pub host_multipliers_fixed : (held : List ℕ) (x k j : ℕ) (area' area'' : List ℕ) → HostMultipliers file held x area k area' → HostMultipliers file held x area j area'' → area' ≡ area''
  host_multipliers_fixed held x = bytes_fixed multipliers_bytes (closed fields file) (multipliers_question file held x)
      (λ r s u v. ap₂ (λ (o : ℕ) (ms : List ℕ). o ∷ entry_bytes ms) (u.outcome_is ∙ sym v.outcome_is) (u.multipliers_are ∙ sym v.multipliers_are))

  -- about the reason for a column,
  pub host_reason_fixed : (x k j : ℕ) (area' area'' : List ℕ) → HostReason file x area k area' → HostReason file x area j area'' → area' ≡ area''
  host_reason_fixed x = bytes_fixed reason_bytes (closed fields file) (reason_question (file_model file) x)
      (λ r s u v. ap₂ (λ (w : ℕ) (t : Bool). bytes_of set_bytes w ++ (indicator t ∷ entry_bytes r.multipliers)) (u.set_number ∙ sym v.set_number) (u.is_given ∙ sym v.is_given)
      ∙ ap (λ (ms : List ℕ). bytes_of set_bytes (whole s.set) ++ (indicator s.given ∷ entry_bytes ms)) (u.multipliers_are ∙ sym v.multipliers_are))

  -- about a claim,
  pub host_accepts_fixed : (claim : List ℕ) (k j : ℕ) (area' area'' : List ℕ) → HostAccepts file claim area k area' → HostAccepts file claim area j area'' → area' ≡ area''
  host_accepts_fixed claim = bytes_fixed acceptance_bytes (closed fields file) (claim_question claim)
      (λ r s u v. ap (λ (t : Bool). indicator t ∷ []) (iff_eq r.accepted s.accepted (λ e. v.1 (u.0 e)) (λ e. u.1 (v.0 e))))

  -- about blocks,
  pub host_blocks_fixed : (k j : ℕ) (area' area'' : List ℕ) → HostBlocks file area k area' → HostBlocks file area j area'' → area' ≡ area''
  host_blocks_fixed = bytes_fixed blocks_bytes (closed fields file) []
      (λ r s u v. ap₂ (λ (c : ℕ) (ns : List ℕ). c ∷ ns) (u.count_is ∙ sym v.count_is) (u.numbers_are ∙ sym v.numbers_are))

  -- of the call about the degree the numbers and the first two bytes are the same,
  pub host_degree_fixed : (rp cp pp : List ℕ) (k j : ℕ) (area' area'' : List ℕ) → HostDegree file rp cp pp area k area' → HostDegree file rp cp pp area j area''
      → (k ≡ j) × (get_or area' 0 0 ≡ get_or area'' 0 0) × (get_or area' 1 0 ≡ get_or area'' 1 0)
  unfolding over
  host_degree_fixed rp cp pp k j area' area'' f g = elim (ℕ_discrete k 0) [
    | no nk ↦
        let e : area' ≡ area'' = f.if_refused (λ z. nk (f.is_number ∙ z)) ∙ sym (g.if_refused (λ z. nk (f.is_number ∙ z))) in
        (same, ap (λ (bs : List ℕ). get_or bs 0 0) e, ap (λ (bs : List ℕ). get_or bs 1 0) e)
    | yes z ↦
        let u = f.if_accepted (sym f.is_number ∙ z) in
        let v = g.if_accepted (sym f.is_number ∙ z) in
        let e : u.answer.degree ≡ v.answer.degree = u.is_answer.is_degree ∙ sym v.is_answer.is_degree in (
          same,
          ap (λ (bs : List ℕ). get_or bs 0 0) u.is_shown ∙ ap (λ (d : ℕ). d % 256) e ∙ sym (ap (λ (bs : List ℕ). get_or bs 0 0) v.is_shown),
          ap (λ (bs : List ℕ). get_or bs 1 0) u.is_shown ∙ ap (λ (d : ℕ). d / 256 % 256) e ∙ sym (ap (λ (bs : List ℕ). get_or bs 1 0) v.is_shown),
        )
  ]
    where
      same : k ≡ j
      same = f.is_number ∙ sym g.is_number

  -- and the text of a report is that of two answers that agree,
  pub report_fixed : (r s : Result ℕ Refusal) (area' area'' : List ℕ) → FileReport file area r area' → FileReport file area s area'' → judge file ≡ 0
      → TwoShown SameShown (λ t. Prints (answer_text t) area r area') (λ t. Prints (answer_text t) area s area'')
  report_fixed r s area' area'' x y e = two_shown (λ t u. answered_fixed (file_model file)) (x.if_accepted e) (y.if_accepted e)

  printed_fixed : {r s : Result ℕ Refusal} {area' area'' t t' : List ℕ} → t ≡ t' → Prints t area r area' → Prints t' area s area'' → (refusal_of r ≡ refusal_of s) × (printed_length r ≡ printed_length s) × (area' ≡ area'')
  printed_fixed e p q = (
    p.refusal_is ∙ ap (λ (t : List ℕ). print_refusal t area) e ∙ sym q.refusal_is,
    p.length_is ∙ ap (λ (t : List ℕ). length (printed t area)) e ∙ sym q.length_is,
    p.bytes_are ∙ ap (λ (t : List ℕ). over (printed t area) area) e ∙ sym q.bytes_are,
  )

  -- whose numbers and bytes are the same where it is that of the blocks
  pub blocks_report_fixed : (r s : Result ℕ Refusal) (area' area'' : List ℕ) → BlocksFileReport file area r area' → BlocksFileReport file area s area''
      → (refusal_of r ≡ refusal_of s) × (printed_length r ≡ printed_length s) × (area' ≡ area'')
  unfolding blocks_text
  blocks_report_fixed r s area' area'' f g = elim (ℕ_discrete (judge file) 0) [
    | no nz ↦ printed_fixed refl (f.if_refused nz) (g.if_refused nz)
    | yes z ↦ let u = f.if_accepted z in let v = g.if_accepted z in
        printed_fixed (ap₂ (λ (ns : List ℕ) (c : ℕ). block_lines ns c 0 ++ (verdict_line (verdict (file_model file)) ++ line (ascii "rank") (item (rank (file_model file)))))
        (u.is_answer.numbers_are ∙ sym v.is_answer.numbers_are) (u.is_answer.count_is ∙ sym v.is_answer.count_is)) u.is_shown v.is_shown
  ]

  -- or of the reason for a column
  pub reason_report_fixed : (x : ℕ) (r s : Result ℕ Refusal) (area' area'' : List ℕ) → ReasonFileReport file x area r area' → ReasonFileReport file x area s area''
      → (refusal_of r ≡ refusal_of s) × (printed_length r ≡ printed_length s) × (area' ≡ area'')
  unfolding reason_text
  reason_report_fixed x r s area' area'' f g = elim (ℕ_discrete (first_refusal (closed fields file then reason_question (file_model file) x)) 0) [
    | no nz ↦ printed_fixed refl (f.if_refused nz) (g.if_refused nz)
    | yes z ↦ let u = f.if_accepted z in let v = g.if_accepted z in printed_fixed (same_text u.answer v.answer u.is_answer v.is_answer) u.is_shown v.is_shown
  ]
    where
      same_text : (t u : Reason) → FileReason file x t → FileReason file x u → reason_text t ≡ reason_text u
      same_text t u h k =
          ap₂ (λ (w : ℕ) (given : Bool). line (ascii "reason") (column_items (members w)) ++ multiplier_line given t.multipliers) (h.set_number ∙ sym k.set_number) (h.is_given ∙ sym k.is_given)
          ∙ ap (λ (ms : List ℕ). line (ascii "reason") (column_items (members (whole u.set))) ++ multiplier_line u.given ms) (h.multipliers_are ∙ sym k.multipliers_are)

-- ---- what holds of the side and the rows that an answer shows

abbrev row_number : Seat → ℕ
row_number out = 0
row_number constant = 0
row_number (row r) = r

constant_is_placed : (s : Seat) → is_constant s ≡ true → is_placed s ≡ true
constant_is_placed out e = absurd (false≢true e)
constant_is_placed constant e = refl
constant_is_placed (row r) e = refl

module _ (M : Model) (the_rank : ℕ) (pl sd sh : Set) (rows : List ℕ) (s : Solved M the_rank pl sd sh rows) where
  -- the side has no stray bit
  pub side_below : (x : ℕ) → x ∈ sd → x < M.n
  side_below x i = (s.is_legal.offered x (constant_is_placed (shown M.n M.b sd rows x) (sym (s.side_shown x) ∙ i))).0

  -- the side lies in the placed set
  pub side_placed : (x : ℕ) → x ∈ sd → x ∈ pl
  side_placed x i = s.is_placed x ∙ sym (s.places_it x) ∙ constant_is_placed (shown M.n M.b sd rows x) (sym (s.side_shown x) ∙ i)

  sits : (q : ℕ) → q < M.b → get_or rows q 0 ≢ no_column → (get_or rows q 0 < M.n) × (shown M.n M.b sd rows (get_or rows q 0) ≡ row q)
  sits q l h = elim (s.rows_shown q l) [ inl w ↦ w | inr w ↦ absurd (h w.0) ]

  -- no column stands in two rows
  pub no_two_rows : (q t : ℕ) → q < M.b → t < M.b → get_or rows q 0 ≢ no_column → get_or rows q 0 ≡ get_or rows t 0 → q ≡ t
  no_two_rows q t l m h e =
      ap row_number (sym (sits q l h).1 ∙ ap (shown M.n M.b sd rows) e ∙ (sits t m (λ d. h (e ∙ d))).1)

  -- no column is on the side and in a row
  pub not_both : (q : ℕ) → q < M.b → get_or rows q 0 ≢ no_column → sd (get_or rows q 0) ≡ false
  not_both q l h = s.side_shown (get_or rows q 0) ∙ ap is_constant (sits q l h).1

  -- a row's column is placed, and the row has a parameter there
  pub row_placed : (q : ℕ) → q < M.b → get_or rows q 0 ≢ no_column → (get_or rows q 0 ∈ pl) × (M.T q (get_or rows q 0) ≡ true)
  row_placed q l h =
      (s.is_placed (get_or rows q 0) ∙ sym (s.places_it (get_or rows q 0)) ∙ ap is_placed (sits q l h).1, (s.is_legal.parameter (get_or rows q 0) q (sits q l h).1).1)

-- ---- which assignment that reaches the degree is shown

-- two columns, a constant row 1 1 and a parameter row with parameters at both, without powers: either column may be on the row
abbrev either : Model
either = listed_model 2 2 1 1 (1 ∷ 1 ∷ []) (3 ∷ [])

abbrev no_powers : Powers
no_powers = listed_powers 2 (0 ∷ []) (0 ∷ 0 ∷ []) (0 ∷ 0 ∷ [])

either_degree : degree either no_powers ≡ 0
unfolding run
either_degree = refl

-- the answer with the columns with a number on the constant side and column c on the row
abbrev pub either_answer : (side c : ℕ) → Degree
either_answer side c = record { refusal = 0; degree = 0; constants = set_of side; rows = c ∷ replicate (most_rows - 1) no_column }

-- the one row shows a column or it does not
by_row : (rows : List ℕ) (x : ℕ) (q : Dec (Some 1 (λ r. get_or rows r 0 ≡ x))) → shown_row 1 rows x q ≡ cond (eqb (get_or rows 0 0) x) (row 0) out
unfolding shown_row
by_row rows x (yes w) =
    let z : w.0 ≡ 0 = omega (arith, w.1) in
    let e : get_or rows 0 0 ≡ x = subst (λ (i : ℕ). get_or rows i 0 ≡ x) z w.2 in
    ap row z ∙ sym (ap (λ (t : Bool). cond t (row 0) out) (eq-eqb (get_or rows 0 0) x e))
by_row rows x (no nw) = sym (ap (λ (t : Bool). cond t (row 0) out) (ne_eqb (get_or rows 0 0) x (λ e. nw (0, lit< tt, e))))

-- a seat by three tests
abbrev tested : (below on_the_side on-the-row : Bool) → Seat
tested below on_the_side on-the-row = cond below (cond on_the_side constant (cond on-the-row (row 0) out)) out

tested_row : (s t u : Bool) (r : ℕ) → tested s t u ≡ row r → r < 1
tested_row true true u r e = absurd (true≢false (ap is_constant e))
tested_row true false true r e = omega (arith, ap row_number e)
tested_row true false false r e = absurd (false≢true (ap is_placed e))
tested_row false t u r e = absurd (false≢true (ap is_placed e))

tested_side : (t u : Bool) → t ≡ is_constant (tested true t u)
tested_side true u = refl
tested_side false true = refl
tested_side false false = refl

module _ (side c : ℕ) (inside : (x : ℕ) → x ∈ members (whole (set_of side)) → x < 2) (column : c < 2) where
  abbrev on_side : Set
  on_side = members (whole (set_of side))

  abbrev rows : List ℕ
  rows = c ∷ replicate (most_rows - 1) no_column

  seats : Assignment
  seats x = tested (ltb x 2) (on_side x) (eqb c x)

  shown_is : shown 2 1 on_side rows ≡ seats
  unfolding shown seats
  shown_is = fun_ext (λ x. ap (λ (s : Seat). cond (ltb x 2) (cond (on_side x) constant s) out) (by_row rows x _))

  seats_past : (x : ℕ) → 2 ≤ x → seats x ≡ out
  unfolding seats
  seats_past x l = ap (λ (t : Bool). tested t (on_side x) (eqb c x)) (le-ltb x 2 l)

  module _ (test : legal either seats ≡ true) (first : is_placed (seats 0) ≡ true) (second : is_placed (seats 1) ≡ true) (sits : seats c ≡ row 0) where
    seats_legal : Legal either seats
    unfolding seats
    seats_legal = true_legal either seats (record {
      offered = λ x e. elim (dec_lt x 2) [ yes l ↦ (l, refl) | no nl ↦ absurd (true≢false (sym e ∙ ap is_placed (seats_past x (omega arith)))) ];
      below = λ x r e. tested_row (ltb x 2) (on_side x) (eqb c x) r e;
    }) test

    seats_all : AllPlaced either seats
    seats_all x l = elim (ℕ_discrete x 0) [ yes z ↦ subst (λ (y : ℕ). is_placed (seats y) ≡ true) (sym z) first | no nz ↦ subst (λ (y : ℕ). is_placed (seats y) ≡ true) (sym (one nz)) second ]
      where
        one : (x ≡ 0 → ⊥) → x ≡ 1
        one h = omega arith

    side_is : (x : ℕ) → on_side x ≡ is_constant (seats x)
    unfolding seats
    side_is x = elim (dec_lt x 2) [
      | yes l ↦ tested_side (on_side x) (eqb c x) ∙ sym (ap (λ (t : Bool). is_constant (tested t (on_side x) (eqb c x))) (lt-ltb x 2 l))
      | no nl ↦ not_true (on_side x) (λ e. nl (inside x e)) ∙ sym (ap is_constant (seats_past x (omega arith)))
    ]

    past : (i : ℕ) → 1 ≤ i → i < most_rows → get_or rows i 0 ≡ no_column
    past zero l m = absurd (omega arith)
    past (suc i) l m = get_or-replicate (most_rows - 1) i no_column 0 (omega arith)

    either_answers : DegreeAnswered either no_powers (either_answer side c)
    either_answers = record {
      is_degree = sym either_degree;
      is_legal = subst (Legal either) (sym shown_is) seats_legal;
      places_all = subst (AllPlaced either) (sym shown_is) seats_all;
      reaches = ap (weight either no_powers) shown_is ∙ omega (arith, either_degree, none_exceeds_the_degree either no_powers seats seats_legal seats_all);
      side_shown = λ x. side_is x ∙ sym (ap (λ (A : Assignment). is_constant (A x)) shown_is);
      rows_shown = λ i l. subst (ShowsRow 2 1 on_side rows) (zero_is i l) (inl (column, ap (λ (A : Assignment). A c) shown_is ∙ sits));
      past_rows = past;
      row_count = ap suc (length-replicate (most_rows - 1) no_column);
    }
      where
        zero_is : (i : ℕ) → i < 1 → 0 ≡ i
        zero_is i l = omega arith

-- column 0 on the constant side and column 1 on the row, or column 1 there and column 0 here: both answers keep the promise, and they differ
pub degree_assignment_open : let Call = DegreeCall 2 2 1 1 (1 ∷ 1 ∷ []) (3 ∷ []) none (0 ∷ []) (0 ∷ 0 ∷ []) (0 ∷ 0 ∷ []) in
    Call (either_answer 1 1) × Call (either_answer 2 0) × ((either_answer 1 1).rows ≢ (either_answer 2 0).rows)
unfolding run whole set_of seats
degree_assignment_open = (
  call_answered refl refl (either_answers 1 1 (set_below 2 1 (lit< tt) refl) (lit< tt) refl refl refl refl),
  call_answered refl refl (either_answers 2 0 (set_below 2 2 (lit< tt) refl) (lit< tt) refl refl refl refl),
  λ e. omega (arith, ap (λ (rs : List ℕ). get_or rs 0 0) e),
)
