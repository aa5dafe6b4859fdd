-- What is proved over the promises of the calls, one theorem after another. Assumes nothing.
use Rattle.std.specs.Prelude.{ℕ, suc, ◌+◌, ◌-◌, ◌*◌, ◌%◌, ◌^◌, ◌≤◌, ◌<◌, ◌≡◌, refl, Bool, true, false, ◌≢◌, ◌↔◌, ◌⊎◌, length, get_or, take, drop, ltb, Result}
use Rattle.std.proofs.Math.Path.{sym}
use Rattle.std.proofs.Common.{ap, ◌∙◌, subst, inl, inr, arith, take-take}
use Rattle.std.proofs.Math.Option.{Option, none, some}
use mathlib.Core.List.{List, [], ◌∷◌, map, flatten}
use Rattle.counting.specs.Sets.{Set, ◌∈◌, ◌⊆◌, #, touching, Some}
use Rattle.counting.specs.Counts.{◌⊖◌}
use Rattle.counting.specs.Choices.{Part}
use Rattle.columns.specs.Columns.{word_width, width, members}
use Rattle.columns.specs.ColumnSets.{whole, empty_set, Fits, row_words, row_numbers}
use Rattle.columns.specs.declared.ColumnSet.{ColumnSet}
use Rattle.columns.specs.Words.Rows.{rows_below}
use Rattle.columns.specs.Words.Bytes.{AreBytes}
use Rattle.rank.specs.Layered.Model.{Model, row, Assignment, constants, Legal, size}
use Rattle.rank.specs.Layered.Rank.{constant_rank, sum, rank, short, verdict}
use Rattle.rank.specs.Modulus.{modulus}
use Rattle.rank.specs.Verdict.{verdict_number}
use Rattle.listed_models.specs.ListedModel.{listed_at, listed_model}
use Rattle.rank.specs.Totals.{OnlyZero}
use Rattle.dependence.specs.PlainNumbers.{SumsTo}
use Rattle.blocking.specs.Reason.{Blocking, BlockedWith}
use Rattle.blocking.proofs.Theorems.{short_is_all_reasons}
use Rattle.claims.specs.Claim.{Shows}
use Rattle.listings.specs.Blocks.{Listing}
use Rattle.degrees.specs.Degrees.{Powers, AllPlaced, listed_powers, weight}
use Rattle.degrees.proofs.Theorems.{none_exceeds_the_degree, degree_without_powers}
use Rattle.mixed_models.specs.Mixed.{Mixed, mixed}
use Rattle.mixed_models.specs.MixedRowUse.{UsesEveryRow, LeavesRow}
use Rattle.mixed_models.proofs.MixedVerdicts.{mixed_determined_uses_every_row, mixed_surplus_leaves_a_row}
use Rattle.mixed_models.specs.Starred.Models.{S2}
use Rattle.determinants.specs.Determinant.{Largest}
use Rattle.determinants.specs.ModelTables.{LayeredOrder, MixedOrder}
use Rattle.determinants.specs.Theorems.{rank_is_largest_order, mixed_rank_is_largest_order}
use Rattle.format.specs.Lists.{over}
use Rattle.format.specs.Refused.{refusal_of}
use Rattle.limits.specs.Limits.{most_columns, most_rows, set_bytes, longest_file, no_column}
use Rattle.format.specs.Numbers.{lent, numbers_of, is_numbered}
use Rattle.format.specs.Refusals.{◌then◌, first_refusal, area_tests, refusal, mixed_refusal}
use Rattle.format.specs.RefusalLaws.{then_refused}
use Rattle.format.specs.TestLaws.{model_accepted, accepted_model, unnumbered_accepted}
use Rattle.format.specs.File.Piece.{closed}
use Rattle.format.specs.File.Unnumbered.{unnumbered_fields}
use Rattle.format.specs.File.Format.{judge, decode, encode, number_room, RowsCall, ReadCall, handed_over, WriteCall}
use Rattle.loader.specs.FileRead.{FileRead, sizes_given}
use Rattle.loader.specs.declared.header.Sizes.{Sizes}
use Rattle.writer.specs.FileWritten.{FileWritten, length_given}
use Rattle.layered.specs.Answers.{AnswerShown, RankCall, Refused, Answered, LayeredCall, LayeredFileCall}
use Rattle.layered.specs.Shown.{Answer}
use Rattle.layered.specs.FileModel.{file_model}
use Rattle.mixed.specs.MixedAnswers.{MixedAnswered, MixedCall, file_mixed}
use Rattle.mixed.specs.Shown.{MixedAnswer}
use Rattle.host.specs.AnswerBytes.{answer_length, AnswerWritten}
use Rattle.open_models.specs.Open.{Open, opened, own_tests, edit_refusal, answer_refusal, after, after_edits, accepted_edits, rows_after, present_after, open_model, AreWords}
use Rattle.open_models.proofs.Theorems.{opened_offers_all, taken_off_and_put_back, put_back_and_taken_off, set_and_cleared, cleared_and_set, set_twice_is_once, cleared_twice_is_once, set_while_the_column_is_out}
use Rattle.editing.specs.Edits.{meant, edit_bytes, byte_tests, edit_of}
use Rattle.editing.specs.Calls.{held, OpenCall, EditCall, AnswerCall}
use Rattle.editing.specs.Areas.{open_bytes, area_file, area_open, file_opened, AnswerAreaCall}
use Rattle.editing.specs.Shown.{Held}
use Rattle.editing.specs.declared.edit.Edit.{Edit}
use Rattle.editing.specs.declared.edit.Edit.TheVariants.{TakeOff, PutBack, SetPlace, ClearPlace}
use Rattle.promises.specs.Fixed.{SameAnswer, SameMixed, SameReason, SameAcceptance, SameBlocks, SameDegree}
use Rattle.multipliers.specs.Answers.{MultipliersCall, MultipliersFileCall}
use Rattle.multipliers.specs.Bytes.{multipliers_bytes}
use Rattle.multipliers.specs.Shown.{Multipliers}
use Rattle.reason.specs.Answers.{ReasonAnswered, ReasonCall, ReasonFileCall}
use Rattle.reason.specs.Bytes.{reason_bytes}
use Rattle.reason.specs.Shown.{Reason}
use Rattle.acceptance.specs.Answers.{AcceptanceCall, AcceptanceFileCall}
use Rattle.acceptance.specs.Bytes.{claim_length, claim_rank, claim_side, claim_rows, claim_set, ClaimShown, acceptance_bytes}
use Rattle.acceptance.specs.declared.Claim.{Claim}
use Rattle.acceptance.specs.Shown.{Acceptance}
use Rattle.blocks.specs.Answers.{BlocksAnswered, BlocksCall, BlocksFileCall}
use Rattle.blocks.specs.Bytes.{blocks_bytes}
use Rattle.blocks.specs.Shown.{Blocks}
use Rattle.degree.specs.Answers.{assignment, DegreeRefused, DegreeAnswered, DegreeCall, DegreeFileCall}
use Rattle.degree.specs.Bytes.{degree_length, degree_bytes}
use Rattle.degree.specs.Shown.{Degree}
use Rattle.solvability.specs.Host.{HostAnswer, HostMixedAnswer, set_shown, HostMultipliers, HostReason, HostAccepts, HostBlocks, HostDegree, HostOpen, HostEdit, HostOpenAnswer}
use Rattle.format.specs.declared.refusals.Refusal.{Refusal}
use Rattle.report.specs.FileReport.{FileReport}
use Rattle.mixed_report.specs.MixedReport.{MixedFileReport}
use Rattle.reason_report.specs.ReasonReport.{ReasonFileReport}
use Rattle.blocks_report.specs.BlocksReport.{BlocksFileReport}
use Rattle.promises.specs.TripLaws.{read_then_written, written_then_read}
use Rattle.promises.specs.CutLaws.{judge_cut}
use Rattle.promises.specs.CutCallLaws.{reading_cut, rows_reading_cut, host_cut, host_mixed_cut, host_multipliers_cut, host_reason_cut, host_accepts_cut, host_blocks_cut, host_degree_cut, host_open_cut, report_cut, mixed_report_cut, reason_report_cut, blocks_report_cut}
use Rattle.promises.specs.AnswerLaws.{refusal_same, mixed_refusal_same, write_same, layered_same, mixed_same}
use Rattle.promises.specs.NumberingLaws.{numbers_front, front_same, named, mixed_unnumbered, picked_same, without_numbers, file_unnumbered}
use Rattle.promises.specs.RowLaws.{determined_rows, surplus_rows}
use Rattle.promises.specs.ShownLaws.{ShownWhole, answer_shown_whole, mixed_shown_whole, reason_shown_whole, degree_shown_whole}
use Rattle.promises.specs.DependenceLaws.{says_dependent, says_depends, says_independent, none_given_otherwise, numbers_sum, numbers_only, number_below_p, number_not_held, held_itself, zero_by_nothing}
use Rattle.promises.specs.MultiplierLaws.{says, constants_decide}
use Rattle.promises.specs.MultiplierCallLaws.{file_call, host_call, held_surplus}
use Rattle.promises.specs.ReasonLaws.{set_blocks, set_unique, set_lacks_one, set_has_the_column, set_inside_short, set_inside_reported, given_iff, none_given, not_zero, as_multipliers_call, says as reason-says}
use Rattle.promises.specs.ReasonCallLaws.{reason_file_call, reason_host_call}
use Rattle.promises.specs.ReasonSameLaws.{reason_calls_same}
use Rattle.promises.specs.AcceptanceLaws.{claim_of, rank_accepted, reported_accepted, own_claim_accepted, any_claim_accepted}
use Rattle.promises.specs.AcceptanceSameLaws.{acceptance_calls_same}
use Rattle.promises.specs.AcceptanceCallLaws.{acceptance_file_call, acceptance_host_call, claim_from_C, own_from_C, any_from_C, host_refused_alike, claim_surplus}
use Rattle.promises.specs.BlocksLaws.{shown_block, InNoSet, past_columns, number_below, count_most, shown_listing, any_listing, number_occurs, same_number, order_shown, PermittedAfter, smallest_next, last_is_short, first_are_in_no_set}
use Rattle.promises.specs.BlocksSameLaws.{blocks_calls_same}
use Rattle.promises.specs.BlocksCallLaws.{blocks_file_call, blocks_host_call, blocks_bytes_read, host_blocks_refused_alike}
use Rattle.promises.specs.DegreeLaws.{PowersLow, PowerAbove, PowersLent, due_accepted, due_0_iff, due_16_iff, due_refused, due_cases, due_short, degree_most, every_row_shown, accepted_as_claim, determined_sizes}
use Rattle.promises.specs.DegreeSameLaws.{SamePowers, degree_calls_same, degree_front_same, degree_lent_same, front_powers}
use Rattle.promises.specs.DegreeCallLaws.{degree_file_call, degree_file_refused, degree_file_16, degree_host_16, degree_host_call, degree_bytes_read, host_degree_refused_alike, powers_surplus}
use Rattle.promises.specs.EditingLaws.{EditedBy, HoldSame, hold_same, edits_hold, holds_after, answered_afresh, refused_leaves, leaves_surplus, verdict_of_present, no_column_answered}
use Rattle.promises.specs.EditingRefusalLaws.{RowPast, ColumnPast, AlreadySo, reads_model, reads_9, reads_11, reads_14, reads_0}
use Rattle.promises.specs.EditingAreaLaws.{InArea, area_holds, edits_in, opened_in, EditedInArea, named_edits, area_number, edits_in_area, opened_judged, opened_front, opened_behind, host_open_refused_alike, asked_of_area, asked_from_C, file_afresh, third_last, edited_alike, opened_alike, area_edit_number, area_answer_call, accepted_holds}
use Rattle.promises.specs.EditingBitLaws.{SomeBit, one_bit_at_most}
use Rattle.promises.specs.FileLaws.{file_accepted}
use Rattle.promises.specs.DocumentFile.{document_file, document_accepted, document_model}

-- ---- read and written, written and read

-- A file that was read is written again as it was, whatever the areas held before; its parameters' numbers are handed over where it is numbered.
pub read_then_write : (s cs ws ks : List ℕ) → AreBytes s → (r : Result Sizes Refusal) (cs' ws' ks' : List ℕ) → FileRead s cs ws ks r cs' ws' ks' → refusal_of r ≡ 0
    → (out : List ℕ) → length s ≤ length out → (w : Result ℕ Refusal) (out' : List ℕ) → FileWritten (sizes_given r).p (sizes_given r).n (sizes_given r).a (sizes_given r).b cs' ws' (lent (sizes_given r).numbered ks') out w out'
    → (refusal_of w ≡ 0) × (length_given w ≡ length s) × (out' ≡ over s out)
read_then_write s cs ws ks bytes r cs' ws' ks' h z out l w out' k =
    read_then_written s cs ws ks bytes (sizes_given r).p (sizes_given r).n (sizes_given r).a (sizes_given r).b (sizes_given r).numbered cs' ws' ks'
    (subst (λ (j : ℕ). ReadCall s cs ws ks j (sizes_given r).p (sizes_given r).n (sizes_given r).a (sizes_given r).b (sizes_given r).numbered cs' ws' ks') z h) out l (refusal_of w) (length_given w) out' k

-- The numbers of parameter rows that an area of words has fit a set's room.
pub rows_of_words_fit : (words : List ℕ) → ((i : ℕ) → get_or words i 0 < 2 ^ word_width) → (r : ℕ) → get_or (row_numbers words) r 0 < 2 ^ width
rows_of_words_fit = rows_below

-- A model that was written is read again as it was, into any areas that hold it, with the numbers of its parameters; the numbers of its parameter rows fit a
-- set's room (`rows_of_words_fit`), and those of its parameters two bytes.
pub write_then_read : (p n a b : ℕ) (cs ws : List ℕ) (ns : Option (List ℕ)) → ((i : ℕ) → get_or ws i 0 < 2 ^ width) → ((ks : List ℕ) → ns ≡ some ks → (i : ℕ) → get_or ks i 0 < 65536)
    → (out : List ℕ) (w : Result ℕ Refusal) (out' : List ℕ) → FileWritten p n a b cs ws ns out w out' → refusal_of w ≡ 0
    → (cs₂ ws₂ ks₂ : List ℕ) → a * n ≤ length cs₂ → b ≤ length ws₂ → number_room (handed_over p n a b cs ws ns) ≤ length ks₂
    → (r : Result Sizes Refusal) (cs₂' ws₂' ks₂' : List ℕ) → FileRead (take (length_given w) out') cs₂ ws₂ ks₂ r cs₂' ws₂' ks₂'
    → (refusal_of r ≡ 0) × ((sizes_given r).p ≡ p) × ((sizes_given r).n ≡ n) × ((sizes_given r).a ≡ a) × ((sizes_given r).b ≡ b) × (take (a * n) cs₂' ≡ take (a * n) cs) × (take b ws₂' ≡ take b ws)
    × ((sizes_given r).numbered ≡ is_numbered (numbers_of n (take b ws) ns)) × (numbers_of n (take b ws) (lent (sizes_given r).numbered ks₂') ≡ numbers_of n (take b ws) ns)
write_then_read p n a b cs ws ns words small out w out' h z cs₂ ws₂ ks₂ fc fw fk r cs₂' ws₂' ks₂' k =
    written_then_read p n a b cs ws ns words small out (length_given w) out' (subst (λ (j : ℕ). WriteCall p n a b cs ws ns out j (length_given w) out') z h) cs₂ ws₂ ks₂ fc fw fk
    (refusal_of r) (sizes_given r).p (sizes_given r).n (sizes_given r).a (sizes_given r).b (sizes_given r).numbered cs₂' ws₂' ks₂' k

-- ---- input cut off

-- A file cut off anywhere behind the longest file is judged as the whole.
pub cut_input : (k : ℕ) (s : List ℕ) → longest_file < k → judge (take k s) ≡ judge s
cut_input = judge_cut

-- One byte more than the longest file, which is what the programs read, is enough.
pub cut_input_behind_the_longest : (s : List ℕ) → judge (take (longest_file + 1) s) ≡ judge s
cut_input_behind_the_longest s = judge_cut (longest_file + 1) s (omega arith)

-- What is promised of the part is promised of the whole: of the reading into areas,
pub cut_input_read : (k : ℕ) (s : List ℕ) → AreBytes s → longest_file < k
    → (cs ws ks : List ℕ) (the-refusal p n a b : ℕ) (numbered : Bool) (cs' ws' ks' : List ℕ)
    → ReadCall (take k s) cs ws ks the-refusal p n a b numbered cs' ws' ks' → ReadCall s cs ws ks the-refusal p n a b numbered cs' ws' ks'
cut_input_read = reading_cut

pub cut_input_rows : (k : ℕ) (s : List ℕ) → AreBytes s → longest_file < k
    → (cs ws : List ℕ) (the-refusal p n a b : ℕ) (numbered : Bool) (cs' ws' : List ℕ)
    → RowsCall (take k s) cs ws the-refusal p n a b numbered cs' ws' → RowsCall s cs ws the-refusal p n a b numbered cs' ws'
cut_input_rows = rows_reading_cut

-- of the C calls,
pub cut_input_host : (k : ℕ) (s : List ℕ) → AreBytes s → longest_file < k
    → (area : List ℕ) (number : ℕ) (area' : List ℕ) → HostAnswer (take k s) area number area' → HostAnswer s area number area'
cut_input_host = host_cut

pub cut_input_host_mixed : (k : ℕ) (s : List ℕ) → AreBytes s → longest_file < k
    → (area : List ℕ) (number : ℕ) (area' : List ℕ) → HostMixedAnswer (take k s) area number area' → HostMixedAnswer s area number area'
cut_input_host_mixed = host_mixed_cut

pub cut_input_host_multipliers : (k : ℕ) (s : List ℕ) → AreBytes s → longest_file < k
    → (held : List ℕ) (x : ℕ) (area : List ℕ) (number : ℕ) (area' : List ℕ) → HostMultipliers (take k s) held x area number area' → HostMultipliers s held x area number area'
cut_input_host_multipliers = host_multipliers_cut

pub cut_input_host_reason : (k : ℕ) (s : List ℕ) → AreBytes s → longest_file < k
    → (x : ℕ) (area : List ℕ) (number : ℕ) (area' : List ℕ) → HostReason (take k s) x area number area' → HostReason s x area number area'
cut_input_host_reason = host_reason_cut

pub cut_input_host_accepts : (k : ℕ) (s : List ℕ) → AreBytes s → longest_file < k
    → (claim area : List ℕ) (number : ℕ) (area' : List ℕ) → HostAccepts (take k s) claim area number area' → HostAccepts s claim area number area'
cut_input_host_accepts = host_accepts_cut

pub cut_input_host_blocks : (k : ℕ) (s : List ℕ) → AreBytes s → longest_file < k
    → (area : List ℕ) (number : ℕ) (area' : List ℕ) → HostBlocks (take k s) area number area' → HostBlocks s area number area'
cut_input_host_blocks = host_blocks_cut

pub cut_input_host_degree : (k : ℕ) (s : List ℕ) → AreBytes s → longest_file < k
    → (rp cp pp area : List ℕ) (number : ℕ) (area' : List ℕ) → HostDegree (take k s) rp cp pp area number area' → HostDegree s rp cp pp area number area'
cut_input_host_degree = host_degree_cut

pub cut_input_host_open : (k : ℕ) (s : List ℕ) → AreBytes s → longest_file < k
    → (area : List ℕ) (number : ℕ) (area' : List ℕ) → HostOpen (take k s) area number area' → HostOpen s area number area'
cut_input_host_open = host_open_cut

-- and of the reports that the programs write.
pub cut_input_report : (k : ℕ) (s : List ℕ) → AreBytes s → longest_file < k
    → (area : List ℕ) (r : Result ℕ Refusal) (area' : List ℕ) → FileReport (take k s) area r area' → FileReport s area r area'
cut_input_report = report_cut

pub cut_input_report_mixed : (k : ℕ) (s : List ℕ) → AreBytes s → longest_file < k
    → (area : List ℕ) (r : Result ℕ Refusal) (area' : List ℕ) → MixedFileReport (take k s) area r area' → MixedFileReport s area r area'
cut_input_report_mixed = mixed_report_cut

pub cut_input_report_reason : (k : ℕ) (s : List ℕ) → AreBytes s → longest_file < k
    → (x : ℕ) (area : List ℕ) (r : Result ℕ Refusal) (area' : List ℕ) → ReasonFileReport (take k s) x area r area' → ReasonFileReport s x area r area'
cut_input_report_reason = reason_report_cut

pub cut_input_report_blocks : (k : ℕ) (s : List ℕ) → AreBytes s → longest_file < k
    → (area : List ℕ) (r : Result ℕ Refusal) (area' : List ℕ) → BlocksFileReport (take k s) area r area' → BlocksFileReport s area r area'
cut_input_report_blocks = blocks_report_cut

-- ---- areas longer than the model

module _ (p n a b : ℕ) (cs ws : List ℕ) (ns : Option (List ℕ)) where
  cut_cs : take (a * n) cs ≡ take (a * n) (take (a * n) cs)
  cut_cs = sym (take-take (a * n) (a * n) cs (omega arith))

  cut_ws : take b ws ≡ take b (take b ws)
  cut_ws = sym (take-take b b ws (omega arith))

  -- the first b × n entries of the numbers
  abbrev front_numbers : Option (List ℕ)
  front_numbers = numbers_front (b * n) ns

  -- What stands in the areas behind the model does not change the refusal,
  pub surplus_not_tested : refusal p n a b cs ws ns ≡ refusal p n a b (take (a * n) cs) (take b ws) front_numbers
  surplus_not_tested = refusal_same p n a b cs (take (a * n) cs) ws (take b ws) cut_cs cut_ws ns front_numbers (front_same n b ws ns)

  pub surplus_not_tested_mixed : mixed_refusal p n a b cs ws ns ≡ mixed_refusal p n a b (take (a * n) cs) (take b ws) front_numbers
  surplus_not_tested_mixed = mixed_refusal_same p n a b cs (take (a * n) cs) ws (take b ws) cut_cs cut_ws ns front_numbers (front_same n b ws ns)

  -- nor what is written of the model,
  pub surplus_not_written : {out out' : List ℕ} {the-refusal len : ℕ}
      → WriteCall p n a b cs ws ns out the-refusal len out' → WriteCall p n a b (take (a * n) cs) (take b ws) front_numbers out the-refusal len out'
  surplus_not_written = write_same p n a b cs (take (a * n) cs) ws (take b ws) cut_cs cut_ws ns front_numbers (front_same n b ws ns)

  -- nor the layered answer in the parts that are fixed,
  pub surplus_not_read : {r s : Answer} → LayeredCall p n a b cs ws ns r → LayeredCall p n a b (take (a * n) cs) (take b ws) front_numbers s → SameAnswer r s
  surplus_not_read = layered_same p n a b cs (take (a * n) cs) ws (take b ws) cut_cs cut_ws ns front_numbers surplus_not_tested

  -- nor the reason for a column,
  pub surplus_not_read_reason : (x : ℕ) {r s : Reason} → ReasonCall p n a b cs ws ns x r → ReasonCall p n a b (take (a * n) cs) (take b ws) front_numbers x s → SameReason r s
  surplus_not_read_reason x = reason_calls_same p n a b cs (take (a * n) cs) ws (take b ws) cut_cs cut_ws x ns front_numbers surplus_not_tested

  -- nor whether a claim is accepted,
  pub surplus_not_read_acceptance : (c : Claim) (r s : Acceptance) → AcceptanceCall p n a b cs ws ns c r → AcceptanceCall p n a b (take (a * n) cs) (take b ws) front_numbers c s → SameAcceptance r s
  surplus_not_read_acceptance c = acceptance_calls_same p n a b cs (take (a * n) cs) ws (take b ws) cut_cs cut_ws c ns front_numbers surplus_not_tested

  -- nor the blocks,
  pub surplus_not_read_blocks : (r s : Blocks) → BlocksCall p n a b cs ws ns r → BlocksCall p n a b (take (a * n) cs) (take b ws) front_numbers s → SameBlocks r s
  surplus_not_read_blocks = blocks_calls_same p n a b cs (take (a * n) cs) ws (take b ws) cut_cs cut_ws ns front_numbers surplus_not_tested

  -- nor the degree, whatever stands behind the powers too,
  pub surplus_not_read_degree : (rp cp pp : List ℕ) (r s : Degree) → DegreeCall p n a b cs ws ns rp cp pp r → DegreeCall p n a b (take (a * n) cs) (take b ws) front_numbers (take a rp) (take n cp) (take (b * n) pp) s → SameDegree r s
  surplus_not_read_degree rp cp pp = degree_front_same p n a b cs (take (a * n) cs) ws (take b ws) cut_cs cut_ws ns front_numbers (front_same n b ws ns) rp cp pp (take a rp) (take n cp) (take (b * n) pp)
      (sym (take-take a a rp (omega arith))) (sym (take-take n n cp (omega arith))) (sym (take-take (b * n) (b * n) pp (omega arith)))

  -- nor the mixed answer.
  pub surplus_not_read_mixed : {r s : MixedAnswer} → MixedCall p n a b cs ws ns r → MixedCall p n a b (take (a * n) cs) (take b ws) front_numbers s → SameMixed r s
  surplus_not_read_mixed = mixed_same p n a b cs (take (a * n) cs) ws (take b ws) cut_cs cut_ws ns front_numbers surplus_not_tested_mixed

-- ---- numbered parameters

module _ (p n a b : ℕ) (cs ws ks : List ℕ) where
  -- In a numbered model that is accepted, a number names one place: two parameters with the same number are the same parameter.
  pub numbers_name_parameters : refusal p n a b cs ws (some ks) ≡ 0 → (r x r' x' : ℕ) → r < b → x < n → r' < b → x' < n
      → x ∈ members (get_or ws r 0) → x' ∈ members (get_or ws r' 0) → get_or ks (r * n + x) 0 ≡ get_or ks (r' * n + x') 0 → (r ≡ r') × (x ≡ x')
  numbers_name_parameters e = named p n a b cs ws ks e

  -- So its parameters are independent, as those of an unnumbered model are: it is accepted without its numbers too,
  pub numbers_only_refuse : refusal p n a b cs ws (some ks) ≡ 0 → refusal p n a b cs ws none ≡ 0
  numbers_only_refuse e = accepted_model p n a b cs ws none (unnumbered_accepted (model_accepted p n a b cs ws (some ks) e))

  -- with the same layered answer in the parts that are fixed, each with a legal assignment of the same model and demand 3 (`Answered`),
  pub numbers_change_no_answer : refusal p n a b cs ws (some ks) ≡ 0 → {r s : Answer} → LayeredCall p n a b cs ws (some ks) r → LayeredCall p n a b cs ws none s
      → SameAnswer r s × Answered (listed_model p n a b cs ws) r × Answered (listed_model p n a b cs ws) s
  numbers_change_no_answer e h g =
      let f = numbers_only_refuse e in
      (layered_same p n a b cs cs ws ws refl refl (some ks) none (e ∙ sym f) h g, h.if_accepted e, g.if_accepted f)

  -- and the same mixed one.
  pub numbers_change_no_mixed_answer : mixed_refusal p n a b cs ws (some ks) ≡ 0 → {r s : MixedAnswer} → MixedCall p n a b cs ws (some ks) r → MixedCall p n a b cs ws none s
      → SameMixed r s × MixedAnswered (mixed p a n cs ws) r × MixedAnswered (mixed p a n cs ws) s
  numbers_change_no_mixed_answer e h g =
      let f = mixed_unnumbered p n a b cs ws ks e in
      (mixed_same p n a b cs cs ws ws refl refl (some ks) none (e ∙ sym f) h g, h.if_accepted e, g.if_accepted f)

  -- No reason for a column changes either.
  pub numbers_change_no_reason : refusal p n a b cs ws (some ks) ≡ 0 → (x : ℕ) {r s : Reason} → ReasonCall p n a b cs ws (some ks) x r → ReasonCall p n a b cs ws none x s → SameReason r s
  numbers_change_no_reason e x = reason_calls_same p n a b cs cs ws ws refl refl x (some ks) none (e ∙ sym (numbers_only_refuse e))

  -- The same claims are accepted.
  pub numbers_change_no_acceptance : refusal p n a b cs ws (some ks) ≡ 0 → (c : Claim) (r s : Acceptance) → AcceptanceCall p n a b cs ws (some ks) c r → AcceptanceCall p n a b cs ws none c s → SameAcceptance r s
  numbers_change_no_acceptance e c = acceptance_calls_same p n a b cs cs ws ws refl refl c (some ks) none (e ∙ sym (numbers_only_refuse e))

  -- The blocks are the same.
  pub numbers_change_no_blocks : refusal p n a b cs ws (some ks) ≡ 0 → (r s : Blocks) → BlocksCall p n a b cs ws (some ks) r → BlocksCall p n a b cs ws none s → SameBlocks r s
  numbers_change_no_blocks e = blocks_calls_same p n a b cs cs ws ws refl refl (some ks) none (e ∙ sym (numbers_only_refuse e))

  -- The degree is the same.
  pub numbers_change_no_degree : refusal p n a b cs ws (some ks) ≡ 0 → (rp cp pp : List ℕ) (r s : Degree) → DegreeCall p n a b cs ws (some ks) rp cp pp r → DegreeCall p n a b cs ws none rp cp pp s → SameDegree r s
  numbers_change_no_degree e rp cp pp = degree_calls_same p n a b cs cs ws ws refl refl rp cp pp rp cp pp (front_powers p n a b cs ws rp cp pp rp cp pp refl refl refl) (some ks) none
      (due_accepted p n a b cs ws (some ks) rp cp pp e ∙ sym (due_accepted p n a b cs ws none rp cp pp (numbers_only_refuse e)))

  -- An entry without a parameter is not read: another area with the same numbers at the parameters is refused alike,
  module _ (js : List ℕ) (rows : b ≤ length ws) (room : b * n ≤ length ks) (room' : b * n ≤ length js)
      (same : (r x : ℕ) → r < b → x < n → x ∈ members (get_or ws r 0) → get_or ks (r * n + x) 0 ≡ get_or js (r * n + x) 0) where
    pub other_entries_not_tested : refusal p n a b cs ws (some ks) ≡ refusal p n a b cs ws (some js)
    other_entries_not_tested = refusal_same p n a b cs cs ws ws refl refl (some ks) (some js) (picked_same n b ws ks js rows room room' same)

    pub other_entries_not_tested_mixed : mixed_refusal p n a b cs ws (some ks) ≡ mixed_refusal p n a b cs ws (some js)
    other_entries_not_tested_mixed = mixed_refusal_same p n a b cs cs ws ws refl refl (some ks) (some js) (picked_same n b ws ks js rows room room' same)

    -- and written alike.
    pub other_entries_not_written : {out out' : List ℕ} {the-refusal len : ℕ}
        → WriteCall p n a b cs ws (some ks) out the-refusal len out' → WriteCall p n a b cs ws (some js) out the-refusal len out'
    other_entries_not_written = write_same p n a b cs cs ws ws refl refl (some ks) (some js) (picked_same n b ws ks js rows room room' same)

-- The file of a model without its numbers, made of a numbered one, is accepted and has the same layered and mixed model, of which the calls on files speak.
pub unnumbered_file : (s : List ℕ) → AreBytes s → judge s ≡ 0 → let s' = encode (without_numbers (decode s)) in (judge s' ≡ 0) × (file_model s' ≡ file_model s) × (file_mixed s' ≡ file_mixed s)
unnumbered_file = file_unnumbered

-- ---- multipliers

-- A call about multipliers that is accepted, of held columns and a named column x
module _ (p n a b : ℕ) (cs ws : List ℕ) (ns : Option (List ℕ)) (held : ColumnSet) (fits : Fits held) (x : ℕ) (r : Multipliers)
    (call : MultipliersCall p n a b cs ws ns held x r) (ok : r.refusal ≡ 0) where
  -- What each outcome says, in plain numbers: 2, the held columns are dependent modulo p; 1, they are not, and some numbers are multipliers of the named
  -- column; 0, they are not, and no numbers are.
  pub outcome_2_says : (r.outcome ≡ 2) ↔ (OnlyZero p n a cs (members (whole held)) → ⊥)
  outcome_2_says = says_dependent (says p n a b cs ws ns held fits x r call ok)

  pub outcome_1_says : (r.outcome ≡ 1) ↔ (OnlyZero p n a cs (members (whole held)) × ((c : ℕ → ℕ) × SumsTo p n a cs (members (whole held)) x c))
  outcome_1_says = says_depends (says p n a b cs ws ns held fits x r call ok)

  pub outcome_0_says : (r.outcome ≡ 0) ↔ (OnlyZero p n a cs (members (whole held)) × ((c : ℕ → ℕ) → SumsTo p n a cs (members (whole held)) x c → ⊥))
  outcome_0_says = says_independent (says p n a b cs ws ns held fits x r call ok)

  -- Multipliers are given with the outcome 1 alone.
  pub multipliers_with_1_alone : r.outcome ≢ 1 → (j : ℕ) → get_or r.multipliers j 0 ≡ 0
  multipliers_with_1_alone = none_given_otherwise (says p n a b cs ws ns held fits x r call ok)

  -- Those given are the multipliers of the named column, in plain numbers,
  pub multipliers_sum_to_the_column : r.outcome ≡ 1 → SumsTo p n a cs (members (whole held)) x (λ j. get_or r.multipliers j 0)
  multipliers_sum_to_the_column = numbers_sum (says p n a b cs ws ns held fits x r call ok)

  -- and the only ones modulo p.
  pub multipliers_only_these : r.outcome ≡ 1 → (c : ℕ → ℕ) → SumsTo p n a cs (members (whole held)) x c → (j : ℕ) → j < n → get_or r.multipliers j 0 ≡ c j % p
  multipliers_only_these = numbers_only (says p n a b cs ws ns held fits x r call ok)

  -- Each is below p, and 0 at a column that is not held.
  pub multipliers_below_p : (j : ℕ) → get_or r.multipliers j 0 < p
  multipliers_below_p = number_below_p (says p n a b cs ws ns held fits x r call ok)

  pub multipliers_of_held_columns : (j : ℕ) → (j ∈ members (whole held) → ⊥) → get_or r.multipliers j 0 ≡ 0
  multipliers_of_held_columns = number_not_held (says p n a b cs ws ns held fits x r call ok)

  -- A held column has the multiplier 1 for itself and 0 for the others; one that is zero in every constant row has 0 for all.
  pub held_column_by_itself : OnlyZero p n a cs (members (whole held)) → x ∈ members (whole held)
      → (r.outcome ≡ 1) × (get_or r.multipliers x 0 ≡ 1) × ((j : ℕ) → j < n → j ≢ x → get_or r.multipliers j 0 ≡ 0)
  held_column_by_itself = held_itself (says p n a b cs ws ns held fits x r call ok)

  pub zero_column_by_nothing : OnlyZero p n a cs (members (whole held)) → ((k : ℕ) → k < a → get_or cs (k * n + x) 0 ≡ 0)
      → (r.outcome ≡ 1) × ((j : ℕ) → j < n → get_or r.multipliers j 0 ≡ 0)
  zero_column_by_nothing = zero_by_nothing (says p n a b cs ws ns held fits x r call ok)

-- Two calls with the same constants say the same, whatever the parameter rows, their numbers, and what stands behind the constants.
pub constants_alone_decide : (p n a : ℕ) (cs ds : List ℕ) → take (a * n) cs ≡ take (a * n) ds → (held : ColumnSet) → Fits held → (x b b' : ℕ) (ws ws' : List ℕ) (ns ns' : Option (List ℕ))
    (r s : Multipliers) → MultipliersCall p n a b cs ws ns held x r → MultipliersCall p n a b' ds ws' ns' held x s → r.refusal ≡ 0 → s.refusal ≡ 0
    → (r.outcome ≡ s.outcome) × (r.multipliers ≡ s.multipliers)
constants_alone_decide = constants_decide

-- All this holds of files and from C too. A call on a file that is accepted is the call on the file's constants, handed over without parameter rows;
pub file_call_is_of_its_constants : (s : List ℕ) → AreBytes s → (held : ColumnSet) (x : ℕ) (r : Multipliers) → MultipliersFileCall s held x r → r.refusal ≡ 0
    → MultipliersCall (decode s).p (decode s).n (decode s).a 0 (flatten (decode s).constants) [] none held x r
file_call_is_of_its_constants = file_call

-- a host's call that is accepted writes the bytes of an answer of the call on its file, with the set that the held bytes show;
pub host_call_is_of_its_file : (s held : List ℕ) (set : ColumnSet) → whole set ≡ set_shown held → (x : ℕ) (area area' : List ℕ) → HostMultipliers s held x area 0 area'
    → AnswerShown (λ r. (r.refusal ≡ 0) × MultipliersFileCall s set x r) (λ r. area' ≡ over (multipliers_bytes r) area)
host_call_is_of_its_file = host_call

-- and what stands in the held area behind a set's bytes changes nothing.
pub held_surplus_not_read : (s held other : List ℕ) → take set_bytes held ≡ take set_bytes other → (x : ℕ) (area : List ℕ) (number : ℕ) (area' : List ℕ)
    → HostMultipliers s held x area number area' → HostMultipliers s other x area number area'
held_surplus_not_read = held_surplus

-- ---- the reason for an unplaced column

-- A call about the reason for column x that is accepted
module _ (p n a b : ℕ) (cs ws : List ℕ) (ns : Option (List ℕ)) (x : ℕ) (r : Reason) (call : ReasonCall p n a b cs ws ns x r) (ok : r.refusal ≡ 0) where
  -- The set shown is drawn from x and the placed columns, it has no legal assignment, and dropping any one column leaves a set that has one;
  pub shown_reason_blocks : Blocking (listed_model p n a b cs ws) x (members (whole r.set))
  shown_reason_blocks = set_blocks p n a b cs ws ns x r call ok

  -- it is the only such set,
  pub shown_reason_unique : (D : Set) → Blocking (listed_model p n a b cs ws) x D → (y : ℕ) → D y ≡ members (whole r.set) y
  shown_reason_unique = set_unique p n a b cs ws ns x r call ok

  -- its constant rank and the number of parameter rows that touch it are together one less than the number of its columns,
  pub shown_reason_lacks_one_equation : let M = listed_model p n a b cs ws in suc (constant_rank M (members (whole r.set)) + # b (touching n M.T (members (whole r.set)))) ≡ # n (members (whole r.set))
  shown_reason_lacks_one_equation = set_lacks_one p n a b cs ws ns x r call ok

  -- it has x itself,
  pub shown_reason_has_the_column : x ∈ members (whole r.set)
  shown_reason_has_the_column = set_has_the_column p n a b cs ws ns x r call ok

  -- and lies in the model's short set, and so in the one that the layered call reports.
  pub shown_reason_inside_short : members (whole r.set) ⊆ short (listed_model p n a b cs ws)
  shown_reason_inside_short = set_inside_short p n a b cs ws ns x r call ok

  pub shown_reason_inside_reported : (s : Answer) → LayeredCall p n a b cs ws ns s → members (whole r.set) ⊆ members (whole s.short)
  shown_reason_inside_reported = set_inside_reported p n a b cs ws ns x r call ok

  -- Multipliers are given exactly where no parameter row has a parameter in the set; elsewhere all are 0.
  pub reason_multipliers_given : (r.given ≡ true) ↔ ((i y : ℕ) → i < b → y ∈ members (whole r.set) → y ∈ members (get_or ws i 0) → ⊥)
  reason_multipliers_given = given_iff p n a b cs ws ns x r call ok

  pub reason_multipliers_none : r.given ≡ false → (j : ℕ) → get_or r.multipliers j 0 ≡ 0
  reason_multipliers_none = none_given p n a b cs ws ns x r call ok

  -- Where they are given, the other columns of the set are independent, the numbers are the multipliers of x by them,
  pub reason_multipliers_sum : r.given ≡ true → OnlyZero p n a cs (members (whole r.set) ⊖ x) × SumsTo p n a cs (members (whole r.set) ⊖ x) x (λ j. get_or r.multipliers j 0)
  reason_multipliers_sum g = let s = reason-says p n a b cs ws ns x r call ok g in (((says_depends s).0 refl).0, numbers_sum s refl)

  -- the only ones modulo p, each below p,
  pub reason_multipliers_only_these : r.given ≡ true → (c : ℕ → ℕ) → SumsTo p n a cs (members (whole r.set) ⊖ x) x c → (j : ℕ) → j < n → get_or r.multipliers j 0 ≡ c j % p
  reason_multipliers_only_these g = numbers_only (reason-says p n a b cs ws ns x r call ok g) refl

  pub reason_multipliers_below_p : r.given ≡ true → (j : ℕ) → get_or r.multipliers j 0 < p
  reason_multipliers_below_p g = number_below_p (reason-says p n a b cs ws ns x r call ok g)

  -- not 0 at those columns, and 0 at all others.
  pub reason_multipliers_not_zero : r.given ≡ true → (y : ℕ) → y ∈ members (whole r.set) → y ≢ x → get_or r.multipliers y 0 ≢ 0
  reason_multipliers_not_zero = not_zero p n a b cs ws ns x r call ok

  pub reason_multipliers_elsewhere : r.given ≡ true → (j : ℕ) → (j ∈ members (whole r.set) ⊖ x → ⊥) → get_or r.multipliers j 0 ≡ 0
  reason_multipliers_elsewhere g = number_not_held (reason-says p n a b cs ws ns x r call ok g)

  -- They are those of E1: its call, with the other columns of the set held, gives the same.
  pub reason_multipliers_are_those_of_the_call : r.given ≡ true → (held : ColumnSet) → ((y : ℕ) → members (whole held) y ≡ (members (whole r.set) ⊖ x) y) → (m : Multipliers) → MultipliersCall p n a b cs ws ns held x m
      → (m.refusal ≡ 0) × (m.outcome ≡ 1) × (m.multipliers ≡ r.multipliers)
  reason_multipliers_are_those_of_the_call = as_multipliers_call p n a b cs ws ns x r call ok

-- The short set that the layered call reports is all reasons together.
pub reported_short_is_all_reasons : (M : Model) (r : Answer) → Answered M r → (y : ℕ) → (y ∈ members (whole r.short)) ↔ BlockedWith M y
reported_short_is_all_reasons M r h y =
    let w = short_is_all_reasons M y in ((λ e. w.0 (sym (h.solved.is_short y) ∙ e)), λ e. h.solved.is_short y ∙ w.1 e)

-- All this holds of files and from C too. A call on a file that is accepted is the call on the file's model, handed over;
pub reason_file_call_is_of_its_model : (s : List ℕ) → AreBytes s → (x : ℕ) (r : Reason) → ReasonFileCall s x r → r.refusal ≡ 0
    → ReasonCall (decode s).p (decode s).n (decode s).a (decode s).b (flatten (decode s).constants) (decode s).parameters none x r
reason_file_call_is_of_its_model = reason_file_call

-- a host's call that is accepted writes the bytes of an answer of the call on its file.
pub reason_host_call_is_of_its_file : (s : List ℕ) (x : ℕ) (area area' : List ℕ) → HostReason s x area 0 area'
    → AnswerShown (λ r. (r.refusal ≡ 0) × ReasonFileCall s x r) (λ r. area' ≡ over (reason_bytes r) area)
reason_host_call_is_of_its_file = reason_host_call

-- ---- claims

-- A call about a claim
module _ (p n a b : ℕ) (cs ws : List ℕ) (ns : Option (List ℕ)) (c : Claim) (r : Acceptance) (call : AcceptanceCall p n a b cs ws ns c r) where
  -- An accepted rank is the model's rank, whoever sent it,
  pub accepted_claim_has_the_rank : r.accepted ≡ true → c.rank ≡ rank (listed_model p n a b cs ws)
  accepted_claim_has_the_rank = rank_accepted c r call

  -- and so the one that the layered call reports; and the accepted set has every column that it reports as short.
  pub accepted_claim_agrees_with_the_answer : r.accepted ≡ true → (s : Answer) → LayeredCall p n a b cs ws ns s → (s.refusal ≡ 0) × (c.rank ≡ s.rank) × (members (whole s.short) ⊆ members (whole c.set))
  accepted_claim_agrees_with_the_answer e s answer = reported_accepted c r call s answer e

  -- The answer that the layered call gives is accepted as a claim,
  pub own_answer_accepted : (s : Answer) → LayeredCall p n a b cs ws ns s → s.refusal ≡ 0 → c ≡ claim_of s → (r.refusal ≡ 0) × (r.accepted ≡ true)
  own_answer_accepted s answer ok = let h = model_accepted p n a b cs ws ns (sym answer.is_refusal ∙ ok) in own_claim_accepted c r call s answer ok h.n_most h.b_most

  -- and so are its rank and its short set with any legal assignment of that size.
  pub any_legal_assignment_accepted : (s : Answer) → LayeredCall p n a b cs ws ns s → s.refusal ≡ 0 → c.rank ≡ s.rank → whole c.set ≡ whole s.short
      → (A : Assignment) → Shows (members (whole c.constants)) c.rows A → Legal (listed_model p n a b cs ws) A → size (listed_model p n a b cs ws) A ≡ s.rank → (r.refusal ≡ 0) × (r.accepted ≡ true)
  any_legal_assignment_accepted s answer ok = any_claim_accepted c r call s answer ok

  -- The model is refused as the layered call refuses it, with the same number.
  pub refused_like_a_rank_call : (s : Answer) → LayeredCall p n a b cs ws ns s → r.refusal ≡ s.refusal
  refused_like_a_rank_call s answer = call.is_refusal ∙ sym answer.is_refusal

-- The same of the model in a file, of which all columns are offered too,
module _ (file : List ℕ) (bytes : AreBytes file) (c : Claim) (r : Acceptance) (call : AcceptanceFileCall file c r) where
  pub file_claim_has_the_rank : r.accepted ≡ true → c.rank ≡ rank (file_model file)
  file_claim_has_the_rank = rank_accepted c r call

  pub file_claim_agrees_with_the_answer : r.accepted ≡ true → (s : Answer) → LayeredFileCall file s → (s.refusal ≡ 0) × (c.rank ≡ s.rank) × (members (whole s.short) ⊆ members (whole c.set))
  file_claim_agrees_with_the_answer e s answer = reported_accepted c r call s answer e

  pub file_answer_accepted : (s : Answer) → LayeredFileCall file s → s.refusal ≡ 0 → c ≡ claim_of s → (r.refusal ≡ 0) × (r.accepted ≡ true)
  file_answer_accepted s answer ok = let h = file_accepted file bytes (sym answer.is_refusal ∙ ok) in own_claim_accepted c r call s answer ok h.n_most h.b_most

  pub file_any_legal_assignment_accepted : (s : Answer) → LayeredFileCall file s → s.refusal ≡ 0 → c.rank ≡ s.rank → whole c.set ≡ whole s.short
      → (A : Assignment) → Shows (members (whole c.constants)) c.rows A → Legal (file_model file) A → size (file_model file) A ≡ s.rank → (r.refusal ≡ 0) × (r.accepted ≡ true)
  file_any_legal_assignment_accepted s answer ok = any_claim_accepted c r call s answer ok

  pub file_refused_like_a_rank_call : (s : Answer) → LayeredFileCall file s → r.refusal ≡ s.refusal
  file_refused_like_a_rank_call s answer = call.is_refusal ∙ sym answer.is_refusal

  -- which is the call on the file's model, handed over;
  pub acceptance_file_call_is_of_its_model : r.refusal ≡ 0 → AcceptanceCall (decode file).p (decode file).n (decode file).a (decode file).b (flatten (decode file).constants) (decode file).parameters none c r
  acceptance_file_call_is_of_its_model = acceptance_file_call file bytes c r call

-- and from C. A host's call that is accepted writes the byte of an answer of the call on its file, about the claim that the bytes show;
pub acceptance_host_call_is_of_its_file : (s claim area area' : List ℕ) → HostAccepts s claim area 0 area' → (c : Claim) → ClaimShown claim c
    → AnswerShown (λ r. (r.refusal ≡ 0) × AcceptanceFileCall s c r) (λ r. area' ≡ over (acceptance_bytes r) area)
acceptance_host_call_is_of_its_file = acceptance_host_call

-- where that byte is 1, the rank in the claim's bytes is the rank of the file's model, and its set has every short column;
pub accepted_from_C_has_the_rank : (s claim area area' : List ℕ) → HostAccepts s claim area 0 area' → get_or area' 0 0 ≡ 1 → (claim_rank claim ≡ rank (file_model s)) × (short (file_model s) ⊆ members (claim_set claim))
accepted_from_C_has_the_rank = claim_from_C

-- it is 1 where a host takes the rank and the short set out of the bytes that the layered call wrote, with the side and the rows that it wrote,
module _ (s : List ℕ) (bytes : AreBytes s) (area area' : List ℕ) (answer : HostAnswer s area 0 area') (claim out out' : List ℕ) (call : HostAccepts s claim out 0 out')
    (same_rank : claim_rank claim ≡ get_or area' 1 0) (same_set : take set_bytes (drop (1 + set_bytes + most_rows) claim) ≡ take set_bytes (drop (2 + 2 * set_bytes) area')) where
  pub own_answer_accepted_from_C : take set_bytes (drop 1 claim) ≡ take set_bytes (drop (2 + set_bytes) area') → claim_rows claim ≡ take most_rows (drop (2 + 3 * set_bytes) area') → out' ≡ over (1 ∷ []) out
  own_answer_accepted_from_C = own_from_C s bytes area area' answer claim out out' call same_rank same_set

  -- or with any legal assignment of that size;
  pub any_legal_assignment_accepted_from_C : (A : Assignment) → Shows (members (claim_side claim)) (claim_rows claim) A → Legal (file_model s) A → size (file_model s) A ≡ get_or area' 1 0 → out' ≡ over (1 ∷ []) out
  any_legal_assignment_accepted_from_C = any_from_C s bytes area area' answer claim out out' call same_rank same_set

-- and a file that the layered call refuses is refused with the same number.
pub host_refused_like_a_rank_call : (s claim area area' out out' : List ℕ) (k j : ℕ) → HostAnswer s area k area' → HostAccepts s claim out j out' → judge s ≢ 0 → (k ≡ judge s) × (j ≡ judge s)
host_refused_like_a_rank_call = host_refused_alike

-- What stands in the area behind a claim's bytes changes nothing.
pub claim_surplus_not_read : (s claim other : List ℕ) → take claim_length claim ≡ take claim_length other → (area : List ℕ) (number : ℕ) (area' : List ℕ)
    → HostAccepts s claim area number area' → HostAccepts s other area number area'
claim_surplus_not_read = claim_surplus

-- ---- blocks in solving order

-- A call about blocks that is accepted
module _ (p n a b : ℕ) (cs ws : List ℕ) (ns : Option (List ℕ)) (r : Blocks) (call : BlocksCall p n a b cs ws ns r) (ok : r.refusal ≡ 0) where
  abbrev M : Model
  M = listed_model p n a b cs ws

  answered : BlocksAnswered M r
  answered = call.if_accepted (sym call.is_refusal ∙ ok)

  few : n ≤ most_columns
  few = (model_accepted p n a b cs ws ns (sym call.is_refusal ∙ ok)).n_most

  -- Each column has the number of a block,
  pub shown_number_below : (x : ℕ) → x < n → get_or r.numbers x 0 < r.count
  shown_number_below = number_below M (λ x. refl) few r answered

  -- of which there are no more than columns;
  pub no_more_blocks_than_columns : r.count ≤ n
  no_more_blocks_than_columns = count_most M (λ x. refl) few r answered

  -- what is no column has 255,
  pub past_columns_unnumbered : (x : ℕ) → n ≤ x → x < most_columns → get_or r.numbers x 0 ≡ no_column
  past_columns_unnumbered = past_columns M (λ x. refl) few r answered

  -- and no block is empty.
  pub every_number_occurs : (i : ℕ) → i < r.count → Some n (λ x. get_or r.numbers x 0 ≡ i)
  every_number_occurs = number_occurs M (λ x. refl) few r answered

  -- Two columns are in the same block exactly if every set of columns whose sum equals the rank has both or neither;
  pub same_number_iff_shared : (x y : ℕ) → x < n → y < n → (get_or r.numbers x 0 ≡ get_or r.numbers y 0) ↔ ((J : Set) → Part n (λ z. true) J → sum M J ≡ rank M → J x ≡ J y)
  same_number_iff_shared = same_number M (λ x. refl) few r answered

  -- where each such set that has x has y, the block of x does not come after that of y.
  pub order_of_numbers_kept : (x y : ℕ) → x < n → y < n → ((J : Set) → Part n (λ z. true) J → sum M J ≡ rank M → x ∈ J → y ∈ J) → get_or r.numbers x 0 ≤ get_or r.numbers y 0
  order_of_numbers_kept = order_shown M (λ x. refl) few r answered

  -- Block i has the smallest of the columns whose blocks are permitted after the first i: always next is the permitted block with the smallest column.
  pub smallest_permitted_is_next : (i : ℕ) → i < r.count → Some n (λ x. (get_or r.numbers x 0 ≡ i) × PermittedAfter M r i x × ((y : ℕ) → y < n → PermittedAfter M r i y → x ≤ y))
  smallest_permitted_is_next = smallest_next M (λ x. refl) few r answered

  -- The blocks shown are a listing that keeps every rule,
  pub shown_listing_keeps_the_rules : Listing M r.count (shown_block n r)
  shown_listing_keeps_the_rules = shown_listing M (λ x. refl) few r answered

  -- and every listing that keeps the rules is the one shown.
  pub any_listing_is_the_shown_one : (m : ℕ) (B : ℕ → Set) → Listing M m B → (m ≡ r.count) × ((i x : ℕ) → i < m → (x ∈ B i) ↔ ((x < n) × (get_or r.numbers x 0 ≡ i)))
  any_listing_is_the_shown_one = any_listing M (λ x. refl) few r answered

  -- The short set that the layered call reports is the last block, where it has a column,
  pub short_set_is_the_last_block : (s : Answer) → LayeredCall p n a b cs ws ns s → (x : ℕ) → x ∈ members (whole s.short) → (y : ℕ) → y < n → (y ∈ members (whole s.short)) ↔ (get_or r.numbers y 0 ≡ r.count - 1)
  short_set_is_the_last_block s answer = last_is_short M (λ x. refl) few r answered s (answer.if_accepted (sym call.is_refusal ∙ ok))

  -- and the columns that no set has whose sum equals the rank are the first, where there are any.
  pub columns_of_no_set_are_first : (x : ℕ) → x < n → InNoSet M x → (y : ℕ) → y < n → InNoSet M y ↔ (get_or r.numbers y 0 ≡ 0)
  columns_of_no_set_are_first = first_are_in_no_set M (λ x. refl) few r answered

-- The model is refused as the layered call refuses it, with the same number.
pub blocks_refused_like_a_rank_call : (p n a b : ℕ) (cs ws : List ℕ) (ns : Option (List ℕ)) (r : Blocks) → BlocksCall p n a b cs ws ns r → (s : Answer) → LayeredCall p n a b cs ws ns s → r.refusal ≡ s.refusal
blocks_refused_like_a_rank_call p n a b cs ws ns r call s answer = call.is_refusal ∙ sym answer.is_refusal

-- All this holds of files and from C too. A call on a file that is accepted is the call on the file's model, handed over;
pub blocks_file_call_is_of_its_model : (s : List ℕ) → AreBytes s → (r : Blocks) → BlocksFileCall s r → r.refusal ≡ 0
    → BlocksCall (decode s).p (decode s).n (decode s).a (decode s).b (flatten (decode s).constants) (decode s).parameters none r
blocks_file_call_is_of_its_model = blocks_file_call

pub blocks_file_refused_like_a_rank_call : (file : List ℕ) (r : Blocks) → BlocksFileCall file r → (s : Answer) → LayeredFileCall file s → r.refusal ≡ s.refusal
blocks_file_refused_like_a_rank_call file r call s answer = call.is_refusal ∙ sym answer.is_refusal

-- a host's call that is accepted writes the bytes of an answer of the call on its file;
pub blocks_host_call_is_of_its_file : (s area area' : List ℕ) → HostBlocks s area 0 area'
    → AnswerShown (λ r. (r.refusal ≡ 0) × BlocksFileCall s r) (λ r. area' ≡ over (blocks_bytes r) area)
blocks_host_call_is_of_its_file = blocks_host_call

-- so byte 0 is the number of blocks and byte 1 + x the number of column x, or 255;
pub blocks_from_C_are_the_numbers : (s area area' : List ℕ) → HostBlocks s area 0 area' → (r : Blocks) → BlocksFileCall s r → r.refusal ≡ 0
    → (get_or area' 0 0 ≡ r.count) × ((x : ℕ) → x < most_columns → get_or area' (suc x) 0 ≡ get_or r.numbers x 0)
blocks_from_C_are_the_numbers = blocks_bytes_read

-- and a file that the layered call refuses is refused with the same number.
pub host_blocks_refused_like_a_rank_call : (s area area' out out' : List ℕ) (k j : ℕ) → HostAnswer s area k area' → HostBlocks s out j out' → judge s ≢ 0 → (k ≡ judge s) × (j ≡ judge s)
host_blocks_refused_like_a_rank_call = host_blocks_refused_alike

-- ---- the degree of the determinant in s

-- A call about the degree, with powers of constant rows, columns and parameters
module _ (p n a b : ℕ) (cs ws : List ℕ) (ns : Option (List ℕ)) (rp cp pp : List ℕ) (r : Degree) (call : DegreeCall p n a b cs ws ns rp cp pp r) where
  abbrev X : Model
  X = listed_model p n a b cs ws

  abbrev W : Powers
  W = listed_powers n rp cp pp

  -- that is accepted
  module _ (ok : r.refusal ≡ 0) where
    taken : (refusal p n a b cs ws ns ≡ 0) × PowersLent n a b rp cp pp × (verdict X ≡ 1) × PowersLow X W
    taken = (due_0_iff p n a b cs ws ns rp cp pp).0 (sym call.is_refusal ∙ ok)

    degree_answered : DegreeAnswered X W r
    degree_answered = call.if_accepted (sym call.is_refusal ∙ ok)

    -- The verdict of the model is 1, so its rank is n and it has n rows, and no power that is read is above 15.
    pub accepted_is_determined : (verdict X ≡ 1) × (rank X ≡ n) × (a + b ≡ n) × PowersLow X W
    accepted_is_determined = let d = determined_sizes X (λ x. refl) taken.2 in (taken.2, d.0, d.1, taken.3)

    -- No legal assignment that places all n columns exceeds the degree,
    pub none_exceeds_the_shown_degree : (A : Assignment) → Legal X A → AllPlaced X A → weight X W A ≤ r.degree
    none_exceeds_the_shown_degree A l f = omega (arith, degree_answered.is_degree, none_exceeds_the_degree X W A l f)

    -- and the one shown reaches it: it is legal, places all n columns, and its total is the degree.
    pub shown_assignment_reaches_the_degree : Legal X (assignment X r) × AllPlaced X (assignment X r) × (weight X W (assignment X r) ≡ r.degree)
    shown_assignment_reaches_the_degree = let h = degree_answered in (h.is_legal, h.places_all, h.reaches ∙ sym h.is_degree)

    -- It shows a columns on the constant side, and a column for each parameter row;
    pub shown_assignment_uses_every_row : (# n (members (whole r.constants)) ≡ a) × ((i : ℕ) → i < b → (get_or r.rows i 0 < n) × (assignment X r (get_or r.rows i 0) ≡ row i))
    shown_assignment_uses_every_row = every_row_shown X W r degree_answered taken.2

    -- the side has no other column, and no other row has one.
    pub shown_assignment_and_nothing_else : ((x : ℕ) → members (whole r.constants) x ≡ constants (assignment X r) x) × ((i : ℕ) → b ≤ i → i < most_rows → get_or r.rows i 0 ≡ no_column)
    shown_assignment_and_nothing_else = (degree_answered.side_shown, degree_answered.past_rows)

    -- With every power 0 the degree is 0.
    pub degree_without_powers_is_0 : ((h : ℕ) → h < a → get_or rp h 0 ≡ 0) → ((x : ℕ) → x < n → get_or cp x 0 ≡ 0) → ((i x : ℕ) → i < b → x < n → x ∈ members (get_or ws i 0) → get_or pp (i * n + x) 0 ≡ 0)
        → r.degree ≡ 0
    degree_without_powers_is_0 no_rows no_columns no-parameters = degree_answered.is_degree ∙ degree_without_powers X W no_rows no_columns no-parameters

    -- It is never above 15 for each constant row and each column.
    pub degree_at_most : r.degree ≤ 15 * a + 15 * n
    degree_at_most = degree_most X W r degree_answered taken.3

    -- The assignment shown, with the rank n and the empty set, is accepted as a claim.
    pub shown_assignment_accepted_as_a_claim : (c : Claim) → c.rank ≡ n → c.constants ≡ r.constants → c.rows ≡ r.rows → whole c.set ≡ 0
        → (t : Acceptance) → AcceptanceCall p n a b cs ws ns c t → (t.refusal ≡ 0) × (t.accepted ≡ true)
    shown_assignment_accepted_as_a_claim c er ec ew es t claim =
        let h = model_accepted p n a b cs ws ns taken.0 in
        (claim.is_refusal ∙ taken.0, (claim.if_accepted taken.0).1 (rw (er, ec, ew, es) (accepted_as_claim X W r degree_answered (λ x. refl) h.n_most h.b_most)))

  -- The model is refused as the layered call refuses it, with the same number, where the areas of powers hold theirs;
  pub degree_refused_like_a_rank_call : PowersLent n a b rp cp pp → (s : Answer) → LayeredCall p n a b cs ws ns s → s.refusal ≢ 0 → r.refusal ≡ s.refusal
  degree_refused_like_a_rank_call lent s answer nz = call.is_refusal ∙ due_refused p n a b cs ws ns rp cp pp lent (λ z. nz (answer.is_refusal ∙ z)) ∙ sym answer.is_refusal

  -- one that the layered call accepts gets 0 or 16.
  pub accepted_by_a_rank_call_gets_0_or_16 : PowersLent n a b rp cp pp → (s : Answer) → LayeredCall p n a b cs ws ns s → s.refusal ≡ 0 → (r.refusal ≡ 0) ⊎ (r.refusal ≡ 16)
  accepted_by_a_rank_call_gets_0_or_16 lent s answer ok = elim (due_cases p n a b cs ws ns rp cp pp lent (sym answer.is_refusal ∙ ok)) [ inl e ↦ inl (call.is_refusal ∙ e) | inr e ↦ inr (call.is_refusal ∙ e) ]

  -- It is accepted where all earlier tests pass, the verdict is 1 and no power that is read is above 15;
  pub determined_is_accepted : refusal p n a b cs ws ns ≡ 0 → PowersLent n a b rp cp pp → verdict X ≡ 1 → PowersLow X W → r.refusal ≡ 0
  determined_is_accepted z lent v low = call.is_refusal ∙ (due_0_iff p n a b cs ws ns rp cp pp).1 (z, lent, v, low)

  -- 16 is given exactly where they pass, and the verdict is not 1 or a power that is read is above 15.
  pub refused_16_reads : (r.refusal ≡ 16) ↔ ((refusal p n a b cs ws ns ≡ 0) × PowersLent n a b rp cp pp × ((verdict X ≢ 1) ⊎ PowerAbove X W))
  refused_16_reads = let w = due_16_iff p n a b cs ws ns rp cp pp in ((λ e. w.0 (sym call.is_refusal ∙ e)), λ k. call.is_refusal ∙ w.1 k)

  -- The areas of powers are judged with the model's own: where these hold and one of those does not, 8 is given, whatever stands in them.
  pub short_powers_refused_as_8 : first_refusal (area_tests p n a b cs ws ns) ≡ 0 → (PowersLent n a b rp cp pp → ⊥) → r.refusal ≡ 8
  short_powers_refused_as_8 z short = call.is_refusal ∙ due_short p n a b cs ws ns rp cp pp z short

  -- A refusal has degree 0 and shows no column on the side or on a row.
  pub refused_shows_no_degree : r.refusal ≢ 0 → DegreeRefused r
  refused_shows_no_degree nz = call.if_refused (λ z. nz (call.is_refusal ∙ z))

  -- A power that is not read changes nothing: of an entry without a parameter, or behind those of the model.
  pub surplus_powers_not_read : (rq cq pq : List ℕ) → PowersLent n a b rp cp pp → PowersLent n a b rq cq pq → SamePowers X W (listed_powers n rq cq pq) → (s : Degree) → DegreeCall p n a b cs ws ns rq cq pq s → SameDegree r s
  surplus_powers_not_read rq cq pq lent held same s other = degree_lent_same p n a b cs ws rp cp pp rq cq pq lent held same ns r s call other

-- All this holds of files and from C too. A call on a file that is accepted is the call on the file's model, handed over;
pub degree_file_call_is_of_its_model : (s rp cp pp : List ℕ) → AreBytes s → (r : Degree) → DegreeFileCall s rp cp pp r → r.refusal ≡ 0
    → DegreeCall (decode s).p (decode s).n (decode s).a (decode s).b (flatten (decode s).constants) (decode s).parameters none rp cp pp r
degree_file_call_is_of_its_model = degree_file_call

pub degree_file_refused_like_a_rank_call : (s rp cp pp : List ℕ) (r : Degree) → DegreeFileCall s rp cp pp r → (t : Answer) → LayeredFileCall s t → t.refusal ≢ 0 → r.refusal ≡ t.refusal
degree_file_refused_like_a_rank_call = degree_file_refused

pub file_refused_16_reads : (s rp cp pp : List ℕ) → judge s ≡ 0 → (r : Degree) → DegreeFileCall s rp cp pp r
    → (r.refusal ≡ 16) ↔ (PowersLent (decode s).n (decode s).a (decode s).b rp cp pp × ((verdict (file_model s) ≢ 1) ⊎ PowerAbove (file_model s) (listed_powers (decode s).n rp cp pp)))
file_refused_16_reads = degree_file_16

-- a host's call that is accepted writes the bytes of an answer of the call on its file;
pub degree_host_call_is_of_its_file : (s rp cp pp area area' : List ℕ) → HostDegree s rp cp pp area 0 area'
    → AnswerShown (λ r. (r.refusal ≡ 0) × DegreeFileCall s rp cp pp r) (λ r. area' ≡ over (degree_bytes r) area)
degree_host_call_is_of_its_file = degree_host_call

-- so the first two bytes, the low one first, are the degree;
pub degree_from_C_is_the_degree : (s rp cp pp area area' : List ℕ) → HostDegree s rp cp pp area 0 area' → AreBytes s → (r : Degree) → DegreeFileCall s rp cp pp r → r.refusal ≡ 0
    → get_or area' 0 0 + 256 * get_or area' 1 0 ≡ r.degree
degree_from_C_is_the_degree = degree_bytes_read

-- 16 is given as of the call on the file, where the area is long enough;
pub host_refused_16_reads : (s rp cp pp : List ℕ) → judge s ≡ 0 → (area : List ℕ) → degree_length ≤ length area → (k : ℕ) (area' : List ℕ) → HostDegree s rp cp pp area k area'
    → (k ≡ 16) ↔ (PowersLent (decode s).n (decode s).a (decode s).b rp cp pp × ((verdict (file_model s) ≢ 1) ⊎ PowerAbove (file_model s) (listed_powers (decode s).n rp cp pp)))
host_refused_16_reads = degree_host_16

-- and a file that the layered call refuses is refused with the same number.
pub host_degree_refused_like_a_rank_call : (s rp cp pp area area' out out' : List ℕ) (k j : ℕ) → HostAnswer s area k area' → HostDegree s rp cp pp out j out' → judge s ≢ 0 → (k ≡ judge s) × (j ≡ judge s)
host_degree_refused_like_a_rank_call = host_degree_refused_alike

-- What stands in the areas of powers where none is read changes nothing.
pub powers_not_read_from_C : (s rp cp pp rq cq pq : List ℕ) → PowersLent (decode s).n (decode s).a (decode s).b rp cp pp → PowersLent (decode s).n (decode s).a (decode s).b rq cq pq
    → SamePowers (file_model s) (listed_powers (decode s).n rp cp pp) (listed_powers (decode s).n rq cq pq)
    → (area : List ℕ) (number : ℕ) (area' : List ℕ) → HostDegree s rp cp pp area number area' → HostDegree s rq cq pq area number area'
powers_not_read_from_C = powers_surplus

-- ---- a model held open and edited

-- A model that is handed over to be opened
module _ (p n a b : ℕ) (cs words : List ℕ) (ns : Option (List ℕ)) (o : Held) (opening : OpenCall p n a b cs (row_numbers words) ns o) where
  -- is refused as the layered call refuses it, with the same number,
  pub opening_refused_like_a_rank_call : (r : Answer) → LayeredCall p n a b cs (row_numbers words) ns r → o.refusal ≡ r.refusal
  opening_refused_like_a_rank_call r call = opening.is_refusal ∙ sym call.is_refusal

  -- and then no column is present.
  pub opening_refused_holds_no_column : o.refusal ≢ 0 → o.present ≡ empty_set
  opening_refused_holds_no_column nz = opening.if_refused (λ z. nz (opening.is_refusal ∙ z))

  -- Where it is accepted, every column is.
  pub opening_holds_every_column : o.refusal ≡ 0 → (x : ℕ) → (x ∈ members (whole o.present)) ↔ (x < n)
  opening_holds_every_column ok x =
      let e = (opening.if_accepted (sym opening.is_refusal ∙ ok)).columns x in
      let all = opened_offers_all p n a b cs (row_numbers words) x in
      (λ h. all.0 (sym e ∙ h), λ l. e ∙ all.1 l)

  -- After any edits, refused ones among them, each of whose calls takes the words and the set that the last one left,
  module _ (ok : o.refusal ≡ 0) (l : List Edit) (words' : List ℕ) (s' : ColumnSet) (calls : EditedBy p n a b cs words o.present l words' s') where
    abbrev left : Open
    left = after_edits (opened p n a b cs (row_numbers words)) (map meant l)

    -- the words and the set hold what the edits leave,
    pub calls_hold_what_the_edits_leave : (row_numbers words' ≡ left.ws) × ((x : ℕ) → members (whole s') x ≡ left.present x)
    calls_hold_what_the_edits_leave =
        let e = holds_after p n a b cs words ns o opening ok l words' s' calls in
        (ap (λ (O : Open). O.ws) e, λ x. ap (λ (O : Open). O.present x) e)

    -- and the answer is that of the model worked out afresh: it is given, and verdict, rank, placed set and short set are those of the definitions over the
    -- columns present, under their numbers as opened, with a legal assignment and demand 3 (`Answered`).
    pub answer_after_edits : (r : Answer) → AnswerCall p n a b cs (row_numbers words') s' r
        → let L = accepted_edits (opened p n a b cs (row_numbers words)) (map meant l) in
        (r.refusal ≡ 0) × Answered (listed_at (modulus p).0 (modulus p).1 n a b cs (rows_after (row_numbers words) L) (present_after (λ x. ltb x n) L)) r
    answer_after_edits = answered_afresh p n a b cs words ns o opening ok l words' s' calls

    -- The n of its verdict is the number of columns present;
    pub verdict_goes_by_the_columns_present : (r : Answer) → AnswerCall p n a b cs (row_numbers words') s' r → r.verdict ≡ verdict_number r.rank (# n (members (whole s'))) (a + b)
    verdict_goes_by_the_columns_present r call = verdict_of_present (held p n a b cs (row_numbers words') s') r (call.if_accepted (sym call.is_refusal ∙ (answer_after_edits r call).0))

    -- with none present the rank is 0, both sets are empty, and the verdict is 1 where there are no rows and 2 where there are.
    pub answer_with_no_column_present : ((x : ℕ) → members (whole s') x ≡ false) → (r : Answer) → AnswerCall p n a b cs (row_numbers words') s' r
        → (r.rank ≡ 0) × (whole r.placed ≡ 0) × (whole r.short ≡ 0) × (r.verdict ≡ verdict_number 0 0 (a + b))
    answer_with_no_column_present out r call = no_column_answered (held p n a b cs (row_numbers words') s') out r (call.if_accepted (sym call.is_refusal ∙ (answer_after_edits r call).0))

-- One edit of what is held, whatever that is,
module _ (p n a b : ℕ) (cs words : List ℕ) (s : ColumnSet) (e : Edit) (r : Held) (words' : List ℕ) (call : EditCall p n a b cs words s e r words') where
  abbrev was : Open
  was = held p n a b cs (row_numbers words) s

  -- changes nothing where it is refused: no word, and no column of the set;
  pub refused_edit_changes_nothing : r.refusal ≢ 0 → (words' ≡ words) × ((x : ℕ) → members (whole r.present) x ≡ members (whole s) x) × (Fits s → whole r.present ≡ whole s)
  refused_edit_changes_nothing = refused_leaves p n a b cs words s e r words' call

  -- it never changes words behind the b rows.
  pub words_behind_the_rows_stay : (drop (row_words * b) words' ≡ drop (row_words * b) words) × (length words' ≡ length words)
  words_behind_the_rows_stay = leaves_surplus p n a b cs words s e r words' call

  -- It is refused as a layered call refuses the rows as they are, with the same number,
  pub edit_refused_like_a_rank_call : (t : Answer) → LayeredCall p n a b cs (row_numbers words) none t → t.refusal ≢ 0 → r.refusal ≡ t.refusal
  edit_refused_like_a_rank_call t answer nz = call.is_refusal ∙ reads_model was (meant e) (λ z. nz (answer.is_refusal ∙ z)) ∙ sym answer.is_refusal

  -- then with 9 for a row of b or more,
  pub edit_refused_9_reads : (r.refusal ≡ 9) ↔ ((refusal p n a b cs (row_numbers words) none ≡ 0) × RowPast b (meant e))
  edit_refused_9_reads = let w = reads_9 was (meant e) in ((λ q. w.0 (sym call.is_refusal ∙ q)), λ h. call.is_refusal ∙ w.1 h)

  -- then with 11 for a column, named or held as present, of n or more,
  pub edit_refused_11_reads : (r.refusal ≡ 11) ↔ ((refusal p n a b cs (row_numbers words) none ≡ 0) × (RowPast b (meant e) → ⊥) × ColumnPast n (members (whole s)) (meant e))
  edit_refused_11_reads = let w = reads_11 was (meant e) in ((λ q. w.0 (sym call.is_refusal ∙ q)), λ h. call.is_refusal ∙ w.1 h)

  -- then with 14 for taking off a column that is out or putting back one that is in,
  pub edit_refused_14_reads : (r.refusal ≡ 14)
      ↔ ((refusal p n a b cs (row_numbers words) none ≡ 0) × (RowPast b (meant e) → ⊥) × (ColumnPast n (members (whole s)) (meant e) → ⊥) × AlreadySo (members (whole s)) (meant e))
  edit_refused_14_reads = let w = reads_14 was (meant e) in ((λ q. w.0 (sym call.is_refusal ∙ q)), λ h. call.is_refusal ∙ w.1 h)

  -- and else it is accepted.
  pub edit_accepted_reads : (r.refusal ≡ 0)
      ↔ ((refusal p n a b cs (row_numbers words) none ≡ 0) × (RowPast b (meant e) → ⊥) × (ColumnPast n (members (whole s)) (meant e) → ⊥) × (AlreadySo (members (whole s)) (meant e) → ⊥))
  edit_accepted_reads = let w = reads_0 was (meant e) in ((λ q. w.0 (sym call.is_refusal ∙ q)), λ h. call.is_refusal ∙ w.1 h)

-- Two edits, the second of which undoes the first, which is accepted
module _ (p n a b : ℕ) (cs words : List ℕ) (s : ColumnSet) (words' : List ℕ) (s' : ColumnSet) where
  -- leave what was held, and so the same answers: a column taken off and put back,
  pub off_and_back_answers : (c : ℕ) (calls : EditedBy p n a b cs words s (TakeOff c ∷ PutBack c ∷ []) words' s') → calls.0.refusal ≡ 0 → HoldSame p n a b cs words s words' s'
  off_and_back_answers c calls ok =
      hold_same p n a b cs words s words' s' (edits_hold p n a b cs (TakeOff c ∷ PutBack c ∷ []) words s words' s' calls ∙ taken_off_and_put_back (held p n a b cs (row_numbers words) s) c (sym calls.2.is_refusal ∙ ok))

  -- put back and taken off,
  pub back_and_off_answers : (c : ℕ) (calls : EditedBy p n a b cs words s (PutBack c ∷ TakeOff c ∷ []) words' s') → calls.0.refusal ≡ 0 → HoldSame p n a b cs words s words' s'
  back_and_off_answers c calls ok =
      hold_same p n a b cs words s words' s' (edits_hold p n a b cs (PutBack c ∷ TakeOff c ∷ []) words s words' s' calls ∙ put_back_and_taken_off (held p n a b cs (row_numbers words) s) c (sym calls.2.is_refusal ∙ ok))

  module _ (fit : (i : ℕ) → get_or words i 0 < 2 ^ word_width) (i c : ℕ) where
    rows_fit : AreWords (row_numbers words)
    rows_fit = record { below = rows_below words fit }

    -- a clear place set and cleared,
    pub set_and_clear_answers : members (get_or (row_numbers words) i 0) c ≡ false → (calls : EditedBy p n a b cs words s (SetPlace i c ∷ ClearPlace i c ∷ []) words' s') → calls.0.refusal ≡ 0
        → HoldSame p n a b cs words s words' s'
    set_and_clear_answers was calls ok =
        hold_same p n a b cs words s words' s' (edits_hold p n a b cs (SetPlace i c ∷ ClearPlace i c ∷ []) words s words' s' calls ∙ set_and_cleared (held p n a b cs (row_numbers words) s) rows_fit i c (sym calls.2.is_refusal ∙ ok) was)

    -- a set place cleared and set.
    pub clear_and_set_answers : members (get_or (row_numbers words) i 0) c ≡ true → (calls : EditedBy p n a b cs words s (ClearPlace i c ∷ SetPlace i c ∷ []) words' s') → calls.0.refusal ≡ 0
        → HoldSame p n a b cs words s words' s'
    clear_and_set_answers was calls ok =
        hold_same p n a b cs words s words' s' (edits_hold p n a b cs (ClearPlace i c ∷ SetPlace i c ∷ []) words s words' s' calls ∙ cleared_and_set (held p n a b cs (row_numbers words) s) rows_fit i c (sym calls.2.is_refusal ∙ ok) was)

    -- Setting a set place and clearing a clear one change nothing either.
    pub set_again_answers : members (get_or (row_numbers words) i 0) c ≡ true → EditedBy p n a b cs words s (SetPlace i c ∷ []) words' s' → HoldSame p n a b cs words s words' s'
    unfolding after_edits
    set_again_answers was calls =
        hold_same p n a b cs words s words' s' (edits_hold p n a b cs (SetPlace i c ∷ []) words s words' s' calls ∙ set_twice_is_once (held p n a b cs (row_numbers words) s) rows_fit i c was)

    pub clear_again_answers : members (get_or (row_numbers words) i 0) c ≡ false → EditedBy p n a b cs words s (ClearPlace i c ∷ []) words' s' → HoldSame p n a b cs words s words' s'
    unfolding after_edits
    clear_again_answers was calls =
        hold_same p n a b cs words s words' s' (edits_hold p n a b cs (ClearPlace i c ∷ []) words s words' s' calls ∙ cleared_twice_is_once (held p n a b cs (row_numbers words) s) rows_fit i c was)

  -- A place that is set while its column is out counts once the column returns: it is held as if it had been set with the column in.
  pub set_while_out_counts : (i c : ℕ) (calls : EditedBy p n a b cs words s (TakeOff c ∷ SetPlace i c ∷ PutBack c ∷ []) words' s') → calls.0.refusal ≡ 0
      → (words'' : List ℕ) (s'' : ColumnSet) (call : EditedBy p n a b cs words s (SetPlace i c ∷ []) words'' s'') → call.0.refusal ≡ 0 → HoldSame p n a b cs words'' s'' words' s'
  unfolding after_edits
  set_while_out_counts i c calls ok words'' s'' call fine =
      hold_same p n a b cs words'' s'' words' s'
      (edits_hold p n a b cs (TakeOff c ∷ SetPlace i c ∷ PutBack c ∷ []) words s words' s' calls
      ∙ set_while_the_column_is_out (held p n a b cs (row_numbers words) s) i c (sym calls.2.is_refusal ∙ ok) (sym call.2.is_refusal ∙ fine)
      ∙ sym (edits_hold p n a b cs (SetPlace i c ∷ []) words s words'' s'' call))

-- ---- a model held open in an area, from C

-- A host opens a file in an area:
module _ (s : List ℕ) (bytes : AreBytes s) (area : List ℕ) (k : ℕ) (area' : List ℕ) (opening : HostOpen s area k area') where
  -- it is refused as the layered call refuses the file,
  pub host_open_refused_like_a_rank_call : (out out' : List ℕ) (j : ℕ) → HostAnswer s out j out' → judge s ≢ 0 → (k ≡ judge s) × (j ≡ judge s)
  host_open_refused_like_a_rank_call out out' j = host_open_refused_alike s area area' out out' k j opening

  module _ (ok : k ≡ 0) where
    abbrev room : ℕ
    room = length (open_bytes (file_opened s))

    -- or its open model, all columns present, is in the front part of the area, and the bytes behind it are as they were; what is handed to later calls is that part.
    pub opened_area_holds_the_model : (take room area' ≡ open_bytes (file_opened s)) × (area_open (take room area') ≡ file_opened s) × (drop room area' ≡ drop room area)
    opened_area_holds_the_model =
        let e = opened_front s bytes area k area' opening ok in
        (e, ap area_open e ∙ area_holds (file_opened s) (opened_in s bytes (opened_judged s bytes area k area' opening ok).0), opened_behind s bytes area k area' opening ok)

    -- After any calls with any bytes,
    module _ (l : List (List ℕ)) (area'' : List ℕ) (calls : EditedInArea (take room area') l area'') where
      abbrev kept : Open
      kept = after_edits (file_opened s) (named_edits l)

      kept_in : InArea kept
      kept_in = edits_in (named_edits l) (file_opened s) (opened_in s bytes (opened_judged s bytes area k area' opening ok).0)

      -- the area is the bytes of what the edits that these name leave; bytes that name none change nothing;
      pub area_holds_what_the_edits_leave : (area'' ≡ open_bytes kept) × (area_open area'' ≡ kept)
      area_holds_what_the_edits_leave =
          let e = edits_in_area l (file_opened s) (opened_in s bytes (opened_judged s bytes area k area' opening ok).0) area''
          (subst (λ (part : List ℕ). EditedInArea part l area'') (opened_front s bytes area k area' opening ok) calls) in
          (e, ap area_open e ∙ area_holds kept kept_in)

      -- a further call is judged by its bytes, and then by its edit's own tests, 9, 11 and 14, alone;
      pub later_edit_judged : (bs : List ℕ) (j : ℕ) (area''' : List ℕ) → HostEdit area'' bs j area''' → j ≡ first_refusal (byte_tests bs then own_tests kept (edit_of bs))
      later_edit_judged bs j area''' call = (subst (λ (t : List ℕ). HostEdit t bs j area''') area_holds_what_the_edits_leave.0 call).is_number ∙ area_number kept kept_in bs

      -- and the answer is that of the model worked out afresh, where the area for it is long enough.
      pub answer_from_C_after_edits : (answer : List ℕ) (j : ℕ) (answer' : List ℕ) → HostOpenAnswer area'' answer j answer' → answer_length ≤ length answer
          → let m = decode s in let L = accepted_edits (file_opened s) (named_edits l) in
          (j ≡ 0) × AnswerWritten (listed_at (modulus m.p).0 (modulus m.p).1 m.n m.a m.b (flatten m.constants) (rows_after m.parameters L) (present_after (λ x. ltb x m.n) L)) answer answer'
      answer_from_C_after_edits answer j answer' call long =
          let c = subst (λ (t : List ℕ). HostOpenAnswer t answer j answer') area_holds_what_the_edits_leave.0 call in
          let w = asked_from_C kept kept_in answer j answer' c long in
          (w.0, subst (λ (M : Model). AnswerWritten M answer answer') (file_afresh s (named_edits l)) w.1)

      -- So is that of the call in Rattle.
      pub answer_of_the_area_after_edits : (r : Answer) → AnswerAreaCall area'' r
          → let m = decode s in let L = accepted_edits (file_opened s) (named_edits l) in
          (r.refusal ≡ 0) × Answered (listed_at (modulus m.p).0 (modulus m.p).1 m.n m.a m.b (flatten m.constants) (rows_after m.parameters L) (present_after (λ x. ltb x m.n) L)) r
      answer_of_the_area_after_edits r call =
          let c = subst (λ (t : List ℕ). AnswerAreaCall t r) area_holds_what_the_edits_leave.0 call in
          let w = asked_of_area kept kept_in r c in
          (w.0, subst (λ (M : Model). Answered M r) (file_afresh s (named_edits l)) w.1)

-- Numbers are judged, and then dropped: the file without them opens to the same bytes.
pub numbers_dropped : (s : List ℕ) → AreBytes s → judge s ≡ 0 → (area : List ℕ) (k : ℕ) (area' : List ℕ) → HostOpen s area k area' → HostOpen (encode (without_numbers (decode s))) area k area'
numbers_dropped = opened_alike

-- One call with any bytes on any area, whoever wrote it,
module _ (area : List ℕ) (bytes : AreBytes area) (bs : List ℕ) (k : ℕ) (area' : List ℕ) (call : HostEdit area bs k area') where
  -- changes one bit at most,
  pub edit_changes_one_bit_at_most : SomeBit area area'
  edit_changes_one_bit_at_most = one_bit_at_most area bs k area' bytes call

  -- and no byte where it is refused.
  pub refused_edit_changes_no_byte : k ≢ 0 → area' ≡ area
  refused_edit_changes_no_byte nz = call.if_refused (λ z. nz (call.is_number ∙ z))

  -- An area that a file's test refuses is refused so, whatever the bytes;
  pub edit_refused_as_its_file : first_refusal (closed unnumbered_fields (area_file area)) ≢ 0 → k ≡ first_refusal (closed unnumbered_fields (area_file area))
  edit_refused_as_its_file nz = call.is_number ∙ sym (then_refused (closed unnumbered_fields (area_file area)) _ _ refl nz)

  -- one that it accepts is judged as a model handed over, where the bytes name an edit, so that 9, 11 and 14 read as there;
  pub area_edit_judged_as_handed_over : first_refusal (closed unnumbered_fields (area_file area)) ≡ 0 → first_refusal (byte_tests bs) ≡ 0 → k ≡ edit_refusal (area_open area) (edit_of bs)
  area_edit_judged_as_handed_over ok = area_edit_number area bytes ok bs k area' call

  -- where it is accepted, the bytes are those of what the area holds, and the edit is made in that.
  pub edit_accepted_holds_the_model : k ≡ 0 → (open_bytes (area_open area) ≡ area) × (edit_refusal (area_open area) (edit_of bs) ≡ 0) × (area_open area' ≡ after (area_open area) (edit_of bs))
  edit_accepted_holds_the_model = accepted_holds area bytes bs k area' call

  -- Bytes behind the third are not read.
  pub edit_bytes_behind_the_third_not_read : HostEdit area (take edit_bytes bs) k area'
  edit_bytes_behind_the_third_not_read = let e = third_last bs in edited_alike area bs (take edit_bytes bs) (sym e.0) (sym e.1) k area' call

-- So is its answer: that of the model handed over, over the columns present.
pub area_answer_as_handed_over : (area : List ℕ) → AreBytes area → first_refusal (closed unnumbered_fields (area_file area)) ≡ 0 → (r : Answer) → AnswerAreaCall area r
    → RankCall (answer_refusal (area_open area)) r.refusal (Refused r) (Answered (open_model (area_open area)) r)
area_answer_as_handed_over = area_answer_call

-- ---- rows used and left over

-- A layered answer that says "determined" shows as many columns on the constant side as there are constant rows, and a column for every parameter row;
pub determined_shows_every_row : (M : Model) (r : Answer) → Answered M r → r.verdict ≡ 1
    → (# M.n (members (whole r.constants)) ≡ M.a) × ((i : ℕ) → i < M.b → get_or r.rows i 0 < M.n)
determined_shows_every_row = determined_rows

-- one that says "surplus" shows fewer columns there, or a parameter row without a column.
pub surplus_shows_a_row_left : (M : Model) (r : Answer) → Answered M r → r.verdict ≡ 2
    → (# M.n (members (whole r.constants)) < M.a) ⊎ Some M.b (λ i. get_or r.rows i 0 ≡ no_column)
surplus_shows_a_row_left = surplus_rows

-- The rows I and columns J of a mixed answer that says "determined" use every row,
pub mixed_determined_shows_every_row : (X : Mixed) (r : MixedAnswer) → MixedAnswered X r → r.verdict ≡ 1 → UsesEveryRow X (members (whole r.rows)) (members (whole r.columns))
mixed_determined_shows_every_row X r h v = mixed_determined_uses_every_row X (sym h.is_verdict ∙ v) _ _ h.they_reach

-- and those of one that says "surplus" leave a row over.
pub mixed_surplus_shows_a_row_left : (X : Mixed) (r : MixedAnswer) → MixedAnswered X r → r.verdict ≡ 2 → LeavesRow X (members (whole r.rows)) (members (whole r.columns))
mixed_surplus_shows_a_row_left X r h v = mixed_surplus_leaves_a_row X (sym h.is_verdict ∙ v) _ _ h.they_reach

-- ---- the bytes of sets

-- A set has room for more columns than the bytes that show it have bits. They lose none: read back, they give the number of each set of a layered answer,
pub answer_sets_are_shown_whole : (M : Model) (r : Answer) → M.n ≤ most_columns → Answered M r → ShownWhole (whole r.placed) × ShownWhole (whole r.constants) × ShownWhole (whole r.short)
answer_sets_are_shown_whole = answer_shown_whole

-- of a mixed one,
pub mixed_sets_are_shown_whole : (X : Mixed) (r : MixedAnswer) → X.m + X.n ≤ most_columns → MixedAnswered X r → ShownWhole (whole r.rows) × ShownWhole (whole r.columns) × ShownWhole (whole r.short)
mixed_sets_are_shown_whole = mixed_shown_whole

-- of the constant side of an answer about the degree,
pub degree_side_is_shown_whole : (M : Model) (W : Powers) (r : Degree) → M.n ≤ most_columns → DegreeAnswered M W r → ShownWhole (whole r.constants)
degree_side_is_shown_whole = degree_shown_whole

-- and of the reason for a column.
pub reason_set_is_shown_whole : (p n a b : ℕ) (cs ws : List ℕ) (x : ℕ) (r : Reason) → n ≤ most_columns → ReasonAnswered p n a b cs ws x r → ShownWhole (whole r.set)
reason_set_is_shown_whole = reason_shown_whole

-- ---- the rank of textbooks

-- The rank of a layered answer is the largest order of a square part of its model whose determinant is not zero,
pub answer_is_largest_order : (M : Model) (r : Answer) → Answered M r → Largest (LayeredOrder M) r.rank
answer_is_largest_order M r h = subst (Largest (LayeredOrder M)) (sym h.solved.is_rank) (rank_is_largest_order M)

-- and so is that of a mixed answer.
pub mixed_answer_is_largest_order : (X : Mixed) (r : MixedAnswer) → MixedAnswered X r → Largest (MixedOrder X) r.rank
mixed_answer_is_largest_order X r h = subst (Largest (MixedOrder X)) (sym h.is_rank) (mixed_rank_is_largest_order X)

-- ---- document 01's file

-- It is accepted, and its model is S2 of the starred table.
pub S2_is_the_file : (judge document_file ≡ 0) × (file_model document_file ≡ S2)
S2_is_the_file = (document_accepted, document_model)
