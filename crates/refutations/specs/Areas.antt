-- What a call does to lent areas, from its promise alone: a refused one changes nothing and gives zeros, an accepted one leaves the surplus.
-- Assumes nothing.
use Rattle.std.specs.Prelude.{ℕ, zero, suc, ◌≤◌, ◌<◌, ◌≡◌, refl, ◌≢◌, ◌⊎◌, Bool, true, false, drop, leb, Result}
use Rattle.std.proofs.Common.{sym, ◌∙◌, inl, inr, true≢false, arith}
use Rattle.std.proofs.Math.Path.{ap}
use Rattle.std.proofs.lemmas.Bool.{false≢true, lt-leb}
use Rattle.std.proofs.Math.Option.{Option, none, some}
use mathlib.Core.List.{List, [], ◌∷◌, ◌++◌, flatten}
use Rattle.std.proofs.Math.ListN.{length}
use Rattle.limits.specs.Limits.{most_columns, set_bytes}
use Rattle.format.specs.Lists.{all_pass, over}
use Rattle.format.specs.Numbers.{number_entries, is_numbered}
use Rattle.format.specs.Refusals.{Tests, unless, ◌then◌, first_refusal, where_accepted, area_short, area_test}
use Rattle.format.specs.RefusalLaws.{then_passed, then_refused, then_zero, zero_then, zero_unless}
use Rattle.format.specs.TestLaws.{area_reads}
use Rattle.format.specs.File.Piece.{closed}
use Rattle.format.specs.File.Format.{FileModel, fields, judge, decode, no_model, read_model, model_read, read_refusal, ReadCall, write_refusal, bytes_written, WriteCall, lookup_refusal, lookup_length, lookup_start}
use Rattle.text.specs.Text.{print_refusal, printed, printed_length, Prints}
use Rattle.format.specs.declared.refusals.Refusal.{Refusal}
use Rattle.host.specs.AreaCall.{area_refusal, AreaCall, WrittenOver}
use Rattle.format.specs.File.Unnumbered.{unnumbered_fields}
use Rattle.host.specs.AnswerBytes.{answer_length}
use Rattle.editing.specs.Areas.{open_bytes, area_file, file_opened}
use Rattle.multipliers.specs.Bytes.{multipliers_length}
use Rattle.reason.specs.Bytes.{reason_length}
use Rattle.acceptance.specs.Bytes.{claim_length, acceptance_length}
use Rattle.blocks.specs.Bytes.{blocks_length}
use Rattle.degree.specs.Answers.{power_areas}
use Rattle.degree.specs.Bytes.{degree_length}
use Rattle.solvability.specs.Host.{HostAnswer, HostMixedAnswer, HostMultipliers, HostReason, HostAccepts, HostBlocks, HostDegree, HostOpen, HostOpenAnswer}
use Rattle.promises.specs.DegreeLaws.{PowersLent, given_alike, lent_iff}

where_refused : {A : Type 0} (k : ℕ) (x o : A) → k ≢ 0 → where_accepted k x o ≡ o
where_refused zero x o h = absurd (h refl)
where_refused (suc k) x o h = refl

drop_front : (xs ys : List ℕ) → drop (length xs) (xs ++ ys) ≡ ys
drop_front [] ys = refl
drop_front (x ∷ xs) ys = drop_front xs ys

surplus : (xs area : List ℕ) → drop (length xs) (over xs area) ≡ drop (length xs) area
unfolding over
surplus xs area = drop_front xs (drop (length xs) area)

-- the entries that a read writes over the area of the numbers
abbrev entries_read : FileModel → List ℕ
entries_read m = number_entries m.n m.parameters m.numbers

-- a refused read changes no lent element and gives no number
pub read_refused : (s cs ws ks : List ℕ) (k p n a b : ℕ) (numbered : Bool) (cs' ws' ks' : List ℕ) → ReadCall s cs ws ks k p n a b numbered cs' ws' ks'
    → read_refusal s cs ws ks ≢ 0 → (cs' ≡ cs) × (ws' ≡ ws) × (ks' ≡ ks) × (p ≡ 0) × (n ≡ 0) × (a ≡ 0) × (b ≡ 0) × (numbered ≡ false)
unfolding over model_read read_model number_entries is_numbered flatten
read_refused s cs ws ks k p n a b numbered cs' ws' ks' x h =
    let e : model_read s cs ws ks ≡ no_model = where_refused (read_refusal s cs ws ks) (decode s) no_model h in
    let r = x.rows_are in (
      r.constants_are ∙ ap (λ (m : FileModel). over (flatten m.constants) cs) e,
      r.parameters_are ∙ ap (λ (m : FileModel). over m.parameters ws) e,
      x.numbers_are ∙ ap (λ (m : FileModel). over (entries_read m) ks) e,
      r.p_is ∙ ap (λ (m : FileModel). m.p) e,
      r.n_is ∙ ap (λ (m : FileModel). m.n) e,
      r.a_is ∙ ap (λ (m : FileModel). m.a) e,
      r.b_is ∙ ap (λ (m : FileModel). m.b) e,
      r.numbered_is ∙ ap (λ (m : FileModel). is_numbered m.numbers) e,
    )

-- an accepted read leaves what is behind the constants, the parameter rows and the numbers
pub read_surplus : (s cs ws ks : List ℕ) (k p n a b : ℕ) (numbered : Bool) (cs' ws' ks' : List ℕ) → ReadCall s cs ws ks k p n a b numbered cs' ws' ks'
    → (drop (length (flatten (model_read s cs ws ks).constants)) cs' ≡ drop (length (flatten (model_read s cs ws ks).constants)) cs)
    × (drop (length (model_read s cs ws ks).parameters) ws' ≡ drop (length (model_read s cs ws ks).parameters) ws)
    × (drop (length (entries_read (model_read s cs ws ks))) ks' ≡ drop (length (entries_read (model_read s cs ws ks))) ks)
unfolding model_read
read_surplus s cs ws ks k p n a b numbered cs' ws' ks' x =
    let m = model_read s cs ws ks in (
      ap (drop (length (flatten m.constants))) x.rows_are.constants_are ∙ surplus (flatten m.constants) cs,
      ap (drop (length m.parameters)) x.rows_are.parameters_are ∙ surplus m.parameters ws,
      ap (drop (length (entries_read m))) x.numbers_are ∙ surplus (entries_read m) ks,
    )

unwritten : (n : ℕ) (ws ks : List ℕ) (ns : Option (List (List ℕ))) → is_numbered ns ≡ false → over (number_entries n ws ns) ks ≡ ks
unfolding over number_entries is_numbered
unwritten n ws ks none e = refl
unwritten n ws ks (some kss) e = absurd (false≢true (sym e))

-- an unnumbered file, so one without parameter rows too, leaves the area of the numbers as it was
pub unnumbered_read : (s cs ws ks : List ℕ) (k p n a b : ℕ) (cs' ws' ks' : List ℕ) → ReadCall s cs ws ks k p n a b false cs' ws' ks' → ks' ≡ ks
unfolding model_read
unnumbered_read s cs ws ks k p n a b cs' ws' ks' x =
    let m = model_read s cs ws ks in x.numbers_are ∙ unwritten m.n m.parameters ks m.numbers (sym x.rows_are.numbered_is)

module _ (p n a b : ℕ) (cs ws : List ℕ) (ns : Option (List ℕ)) (out : List ℕ) (k len : ℕ) (out' : List ℕ) (x : WriteCall p n a b cs ws ns out k len out') where
  pub write_refused : write_refusal p n a b cs ws ns out ≢ 0 → (out' ≡ out) × (len ≡ 0)
  unfolding over bytes_written
  write_refused h =
      let e : bytes_written p n a b cs ws ns out ≡ [] = where_refused (write_refusal p n a b cs ws ns out) _ [] h in
      (x.bytes_are ∙ ap (λ (l : List ℕ). over l out) e, x.length_is ∙ ap (λ (l : List ℕ). length l) e)

  -- the length returned is that of what is written, and nothing behind it changes
  pub write_surplus : drop len out' ≡ drop len out
  write_surplus =
      let bytes = bytes_written p n a b cs ws ns out in
      ap (λ (j : ℕ). drop j out') x.length_is ∙ ap (drop (length bytes)) x.bytes_are ∙ surplus bytes out ∙ ap (λ (j : ℕ). drop j out) (sym x.length_is)

-- a refused printing changes no byte and gives no length
pub print_refused : (text area : List ℕ) (r : Result ℕ Refusal) (area' : List ℕ) → Prints text area r area' → print_refusal text area ≢ 0 → (area' ≡ area) × (printed_length r ≡ 0)
unfolding over printed
print_refused text area r area' x h =
    let e : printed text area ≡ [] = where_refused (print_refusal text area) text [] h in
    (x.bytes_are ∙ ap (λ (l : List ℕ). over l area) e, x.length_is ∙ ap (λ (l : List ℕ). length l) e)

pub print_surplus : (text area : List ℕ) (r : Result ℕ Refusal) (area' : List ℕ) → Prints text area r area' → drop (printed_length r) area' ≡ drop (printed_length r) area
print_surplus text area r area' x =
    ap (λ (j : ℕ). drop j area') x.length_is ∙ ap (drop (length (printed text area))) x.bytes_are ∙ surplus (printed text area) area ∙ ap (λ (j : ℕ). drop j area) (sym x.length_is)

-- two results of one call on a file agree in the number, and where it refuses the area is as it was
module _ (before after : Tests) (least : ℕ) (Shown : List ℕ → List ℕ → Type 0) (area : List ℕ) where
  area_number : (k k' : ℕ) (area' area'' : List ℕ) → AreaCall before after least Shown area k area' → AreaCall before after least Shown area k' area'' → k ≡ k'
  area_number k k' area' area'' x y = x.is_number ∙ sym y.is_number

  area_refused : (k : ℕ) (area' : List ℕ) → AreaCall before after least Shown area k area' → k ≢ 0 → area' ≡ area
  area_refused k area' x h = x.if_refused (λ e. h (x.is_number ∙ e))

-- the layered call,
pub host_number : (file area : List ℕ) (k k' : ℕ) (area' area'' : List ℕ) → HostAnswer file area k area' → HostAnswer file area k' area'' → k ≡ k'
host_number file area = area_number _ _ _ _ area

pub host_refused : (file area : List ℕ) (k : ℕ) (area' : List ℕ) → HostAnswer file area k area' → k ≢ 0 → area' ≡ area
host_refused file area = area_refused _ _ _ _ area

-- the mixed one,
pub host_mixed_number : (file area : List ℕ) (k k' : ℕ) (area' area'' : List ℕ) → HostMixedAnswer file area k area' → HostMixedAnswer file area k' area'' → k ≡ k'
host_mixed_number file area = area_number _ _ _ _ area

pub host_mixed_refused : (file area : List ℕ) (k : ℕ) (area' : List ℕ) → HostMixedAnswer file area k area' → k ≢ 0 → area' ≡ area
host_mixed_refused file area = area_refused _ _ _ _ area

-- the one about multipliers,
pub host_multipliers_number : (file held : List ℕ) (x : ℕ) (area : List ℕ) (k k' : ℕ) (area' area'' : List ℕ) → HostMultipliers file held x area k area' → HostMultipliers file held x area k' area'' → k ≡ k'
host_multipliers_number file held x area = area_number _ _ _ _ area

pub host_multipliers_refused : (file held : List ℕ) (x : ℕ) (area : List ℕ) (k : ℕ) (area' : List ℕ) → HostMultipliers file held x area k area' → k ≢ 0 → area' ≡ area
host_multipliers_refused file held x area = area_refused _ _ _ _ area

-- of two areas one is too short
two_areas : (t u : Bool) (us : Tests) → (t ≡ false) ⊎ (u ≡ false) → first_refusal (unless t area_short then (unless u area_short then us)) ≡ 8
unfolding first_refusal
two_areas false u us e = refl
two_areas true false us e = refl
two_areas true true us e = absurd (elim e [ inl z ↦ true≢false z | inr z ↦ true≢false z ])

-- which refuses too short an area, of either kind, before it looks at the columns;
pub areas_before_columns : (file held : List ℕ) (x : ℕ) (area : List ℕ) (k : ℕ) (area' : List ℕ) → HostMultipliers file held x area k area' → judge file ≡ 0
    → (length area < multipliers_length) ⊎ (length held < set_bytes) → k ≡ 8
unfolding area_refusal area_test judge
areas_before_columns file held x area k area' h ok short =
    h.is_number ∙ sym (then_passed (closed fields file) _ 8 ok (sym (two_areas (leb multipliers_length (length area)) (leb set_bytes (length held)) _ (elim short [ inl l ↦ inl (lt-leb _ _ l) | inr l ↦ inr (lt-leb _ _ l) ]))))

-- and the one about the reason for a column,
pub host_reason_number : (file : List ℕ) (x : ℕ) (area : List ℕ) (k k' : ℕ) (area' area'' : List ℕ) → HostReason file x area k area' → HostReason file x area k' area'' → k ≡ k'
host_reason_number file x area = area_number _ _ _ _ area

pub host_reason_refused : (file : List ℕ) (x : ℕ) (area : List ℕ) (k : ℕ) (area' : List ℕ) → HostReason file x area k area' → k ≢ 0 → area' ≡ area
host_reason_refused file x area = area_refused _ _ _ _ area

-- which refuses too short an area before it looks at the column
pub area_before_column : (file : List ℕ) (x : ℕ) (area : List ℕ) (k : ℕ) (area' : List ℕ) → HostReason file x area k area' → judge file ≡ 0 → length area < reason_length → k ≡ 8
unfolding area_refusal area_test judge first_refusal
area_before_column file x area k area' h ok short = h.is_number ∙ sym (then_passed (closed fields file) _ 8 ok (rw (lt-leb reason_length (length area) short) refl))

-- and the one about a claim,
pub host_accepts_number : (file claim area : List ℕ) (k k' : ℕ) (area' area'' : List ℕ) → HostAccepts file claim area k area' → HostAccepts file claim area k' area'' → k ≡ k'
host_accepts_number file claim area = area_number _ _ _ _ area

pub host_accepts_refused : (file claim area : List ℕ) (k : ℕ) (area' : List ℕ) → HostAccepts file claim area k area' → k ≢ 0 → area' ≡ area
host_accepts_refused file claim area = area_refused _ _ _ _ area

-- which refuses too short an area of either kind, behind the file's own numbers, and nothing else
pub claim_areas_refused : (file claim area : List ℕ) (k : ℕ) (area' : List ℕ) → HostAccepts file claim area k area' → judge file ≡ 0
    → (length area < acceptance_length) ⊎ (length claim < claim_length) → k ≡ 8
unfolding area_refusal area_test judge
claim_areas_refused file claim area k area' h ok short =
    h.is_number ∙ sym (then_passed (closed fields file) _ 8 ok (sym (two_areas (leb acceptance_length (length area)) (leb claim_length (length claim)) [] (elim short [ inl l ↦ inl (lt-leb _ _ l) | inr l ↦ inr (lt-leb _ _ l) ]))))

pub claims_never_refused : (file claim area : List ℕ) (k : ℕ) (area' : List ℕ) → HostAccepts file claim area k area' → judge file ≡ 0
    → acceptance_length ≤ length area → claim_length ≤ length claim → k ≡ 0
unfolding area_refusal judge
claims_never_refused file claim area k area' h ok l m =
    h.is_number ∙ zero_then (closed fields file) _ ok (zero_then (unless (area_test acceptance_length (length area)) area_short) (unless (area_test claim_length (length claim)) area_short)
    (zero_unless _ area_short ((area_reads _ _).1 l)) (zero_unless _ area_short ((area_reads _ _).1 m)))

-- and the one about blocks,
pub host_blocks_number : (file area : List ℕ) (k k' : ℕ) (area' area'' : List ℕ) → HostBlocks file area k area' → HostBlocks file area k' area'' → k ≡ k'
host_blocks_number file area = area_number _ _ _ _ area

pub host_blocks_refused : (file area : List ℕ) (k : ℕ) (area' : List ℕ) → HostBlocks file area k area' → k ≢ 0 → area' ≡ area
host_blocks_refused file area = area_refused _ _ _ _ area

-- which refuses too short an area, behind the file's own numbers, so one with a byte for each column and none for the number of blocks, and nothing else
pub blocks_area_refused : (file area : List ℕ) (k : ℕ) (area' : List ℕ) → HostBlocks file area k area' → judge file ≡ 0 → length area < blocks_length → k ≡ 8
unfolding area_refusal area_test judge first_refusal
blocks_area_refused file area k area' h ok short = h.is_number ∙ sym (then_passed (closed fields file) _ 8 ok (rw (lt-leb blocks_length (length area) short) refl))

pub blocks_area_without_the_count : (file area : List ℕ) (k : ℕ) (area' : List ℕ) → HostBlocks file area k area' → judge file ≡ 0 → length area ≡ most_columns → k ≡ 8
blocks_area_without_the_count file area k area' h ok e = blocks_area_refused file area k area' h ok (omega (arith, e))

pub blocks_never_refused : (file area : List ℕ) (k : ℕ) (area' : List ℕ) → HostBlocks file area k area' → judge file ≡ 0 → blocks_length ≤ length area → k ≡ 0
unfolding area_refusal judge first_refusal
blocks_never_refused file area k area' h ok l =
    h.is_number ∙ zero_then (closed fields file) _ ok (zero_then (unless (area_test blocks_length (length area)) area_short) [] (zero_unless _ area_short ((area_reads _ _).1 l)) refl)

-- and the one about the degree,
pub host_degree_number : (file rp cp pp area : List ℕ) (k k' : ℕ) (area' area'' : List ℕ) → HostDegree file rp cp pp area k area' → HostDegree file rp cp pp area k' area'' → k ≡ k'
host_degree_number file rp cp pp area = area_number _ _ _ _ area

pub host_degree_refused : (file rp cp pp area : List ℕ) (k : ℕ) (area' : List ℕ) → HostDegree file rp cp pp area k area' → k ≢ 0 → area' ≡ area
host_degree_refused file rp cp pp area = area_refused _ _ _ _ area

-- which refuses too short an area, behind the file's own numbers and before it looks at the verdict and the powers, so one of 109 bytes
pub degree_area_refused : (file rp cp pp area : List ℕ) (k : ℕ) (area' : List ℕ) → HostDegree file rp cp pp area k area' → judge file ≡ 0 → length area < degree_length → k ≡ 8
unfolding area_refusal area_test judge first_refusal
degree_area_refused file rp cp pp area k area' h ok short = h.is_number ∙ sym (then_passed (closed fields file) _ 8 ok (rw (lt-leb degree_length (length area) short) refl))

pub degree_area_of_109 : (file rp cp pp area : List ℕ) (k : ℕ) (area' : List ℕ) → HostDegree file rp cp pp area k area' → judge file ≡ 0 → length area ≡ 109 → k ≡ 8
degree_area_of_109 file rp cp pp area k area' h ok e = degree_area_refused file rp cp pp area k area' h ok (omega (arith, e))

-- and too short an area of powers alike
pub power_areas_refused : (file rp cp pp area : List ℕ) (k : ℕ) (area' : List ℕ) → HostDegree file rp cp pp area k area' → judge file ≡ 0
    → (PowersLent (decode file).n (decode file).a (decode file).b rp cp pp → ⊥) → k ≡ 8
unfolding area_refusal judge all_pass
power_areas_refused file rp cp pp area k area' h ok short =
    let own = unless (area_test degree_length (length area)) area_short in
    let of-powers = power_areas (decode file).n (decode file).a (decode file).b rp cp pp in
    let ne : first_refusal (own then of-powers) ≢ 0 = λ e. short ((lent_iff (decode file).n (decode file).a (decode file).b rp cp pp).0 (then_zero own of-powers e).1) in
    h.is_number ∙ sym (then_passed (closed fields file) _ 8 ok (then_refused (own then of-powers) _ 8 (sym (given_alike 8 (own then of-powers) refl ne)) (λ e. omega (arith, e))))

-- and those on an open model: opening,
pub host_open_number : (file area : List ℕ) (k k' : ℕ) (area' area'' : List ℕ) → HostOpen file area k area' → HostOpen file area k' area'' → k ≡ k'
host_open_number file area = area_number _ _ _ _ area

pub host_open_refused : (file area : List ℕ) (k : ℕ) (area' : List ℕ) → HostOpen file area k area' → k ≢ 0 → area' ≡ area
host_open_refused file area = area_refused _ _ _ _ area

-- which refuses an area too short for this very model, behind the file's own numbers, and nothing else,
pub open_area_refused : (file area : List ℕ) (k : ℕ) (area' : List ℕ) → HostOpen file area k area' → judge file ≡ 0 → length area < length (open_bytes (file_opened file)) → k ≡ 8
unfolding area_refusal area_test judge first_refusal
open_area_refused file area k area' h ok short = h.is_number ∙ sym (then_passed (closed fields file) _ 8 ok (rw (lt-leb (length (open_bytes (file_opened file))) (length area) short) refl))

pub open_never_refused : (file area : List ℕ) (k : ℕ) (area' : List ℕ) → HostOpen file area k area' → judge file ≡ 0 → length (open_bytes (file_opened file)) ≤ length area → k ≡ 0
unfolding area_refusal judge first_refusal
open_never_refused file area k area' h ok l =
    h.is_number ∙ zero_then (closed fields file) _ ok (zero_then (unless (area_test (length (open_bytes (file_opened file))) (length area)) area_short) [] (zero_unless _ area_short ((area_reads _ _).1 l)) refl)

-- and the answer,
pub host_open_answer_number : (area answer : List ℕ) (k k' : ℕ) (answer' answer'' : List ℕ) → HostOpenAnswer area answer k answer' → HostOpenAnswer area answer k' answer'' → k ≡ k'
host_open_answer_number area answer = area_number _ _ _ _ answer

pub host_open_answer_refused : (area answer : List ℕ) (k : ℕ) (answer' : List ℕ) → HostOpenAnswer area answer k answer' → k ≢ 0 → answer' ≡ answer
host_open_answer_refused area answer = area_refused _ _ _ _ answer

-- which refuses too short an area for the answer before it looks at the columns present
pub answer_area_before_columns : (area answer : List ℕ) (k : ℕ) (answer' : List ℕ) → HostOpenAnswer area answer k answer' → first_refusal (closed unnumbered_fields (area_file area)) ≡ 0 → length answer < answer_length → k ≡ 8
unfolding area_refusal area_test first_refusal
answer_area_before_columns area answer k answer' h ok short = h.is_number ∙ sym (then_passed (closed unnumbered_fields (area_file area)) _ 8 ok (rw (lt-leb answer_length (length answer) short) refl))

-- the bytes behind an answer are as they were
pub written_surplus : {A : Type 0} (Holds : A → Type 0) (bytes : A → List ℕ) (area area' : List ℕ) (w : WrittenOver Holds bytes area area')
    → drop (length (bytes w.answer)) area' ≡ drop (length (bytes w.answer)) area
written_surplus Holds bytes area area' w = ap (drop (length (bytes w.answer))) w.is_shown ∙ surplus (bytes w.answer) area

pub lookup_refused : (s : List ℕ) (i : ℕ) → lookup_refusal s i ≢ 0 → (lookup_length s i ≡ 0) × (lookup_start s i ≡ 0)
unfolding lookup_length lookup_start
lookup_refused s i h = (where_refused (lookup_refusal s i) _ 0 h, where_refused (lookup_refusal s i) _ 0 h)
