-- An open model in the bytes of an area: what the bytes hold, how they are judged, and what is in the area after calls one after another. Assumes nothing.
use Rattle.std.specs.Prelude.{ℕ, suc, ◌*◌, ◌^◌, ◌≤◌, ◌<◌, ◌≡◌, ◌≢◌, Bool, true, false, length, take, drop, ltb}
use Rattle.std.proofs.Math.Path.{refl, sym, ap, ap₂, subst, fun_ext}
use Rattle.std.proofs.Common.{◌∙◌, arith, pow_pos, pow_mono, lt_of_lt_of_le, ltb-true, le-leb}
use Rattle.std.proofs.Math.Logic.{by_cases}
use mathlib.Core.List.{List, [], ◌∷◌, flatten}
use Rattle.std.proofs.Math.Option.{none, some-ne-none}
use Rattle.std.proofs.Math.Decide.{ℕ_discrete, dec_lt}
use Rattle.std.proofs.Math.ListN.{get_or-eq_default}
use Rattle.std.proofs.Math.Seq.{take_all, take_at, drop_at}
use Rattle.counting.specs.Bools.{not_true}
use Rattle.counting.specs.Sets.{Set, ◌∈◌}
use Rattle.limits.specs.Limits.{set_bytes}
use Rattle.columns.specs.Bytes.{number, bytes_of}
use Rattle.columns.specs.Columns.{width, members, word_of, within}
use Rattle.columns.specs.Words.Bytes.{AreBytes, bytes_of_length, number_bytes, number_below}
use Rattle.columns.specs.Words.Operations.{members_beyond, members_below, within_iff, within_pow}
use Rattle.columns.specs.Words.WordOf.{members_word, word_below}
use Rattle.format.specs.Lists.{over}
use Rattle.format.specs.ListLaws.{all_at}
use Rattle.format.specs.Numbers.{numbers_of}
use Rattle.format.specs.Refusals.{Tests, unless, ◌then◌, first_refusal, where_accepted, truncated, column_beyond, area_short, area_test, named_column, refusal}
use Rattle.format.specs.RefusalLaws.{then_passed, then_refused, then_zero, zero_then, unless_zero, zero_unless, where_refused, accepted_value}
use Rattle.format.specs.TestLaws.{Accepted, accepted_model, area_reads}
use Rattle.format.specs.File.Piece.{closed}
use Rattle.format.specs.File.Format.{FileModel, ValidModel, fields, judge, decode, encode, handed_over}
use Rattle.format.specs.File.FormatLaws.{decoded_valid, decode_encode, encoded_accepted}
use Rattle.format.specs.File.Unnumbered.{unnumbered_fields, unnumbered_judge}
use Rattle.format.specs.File.UnnumberedLaws.{unnumbered_iff, unnumbered_encoded}
use Rattle.format.proofs.Rows.{over_front, flat_of_rows, flat_length}
use Rattle.writer.specs.HandedLaws.{handed_over_valid}
use Rattle.layered.specs.Shown.{Answer}
use Rattle.layered.specs.Answers.{RankCall, Refused, Answered}
use Rattle.layered.proofs.FileLaws.{call_as}
use Rattle.host.specs.AreaCall.{area_refusal}
use Rattle.host.specs.AnswerBytes.{answer_length, AnswerWritten}
use Rattle.rank.specs.Modulus.{modulus}
use Rattle.listed_models.specs.ListedModel.{listed_at}
use Rattle.open_models.specs.Open.{Open, opened, Edit, take_off, put_back, set_place, clear_place, column_of, held_tests, row_tests, present_test, own_tests, edit_tests, edit_refusal, answer_tests, answer_refusal, rows_done, done, after, after_edits, accepted_edits, rows_after, present_after, open_model, AreWords}
use Rattle.open_models.specs.RowLaws.{place_length, place_words}
use Rattle.open_models.proofs.JudgeLaws.{edit_accepted, held_accepted, present_reads, done_held, done_present}
use Rattle.open_models.proofs.HeldLaws.{after_accepted, after_refused}
use Rattle.open_models.proofs.Theorems.{worked_out_afresh}
use Rattle.editing.specs.Edits.{kind_tests, edit_bytes, byte_tests, edit_of}
use Rattle.editing.specs.Areas.{open_bytes, area_file, of_file, area_open, file_opened, edit_area_tests, EditAreaCall, AnswerAreaCall}
use Rattle.editing.proofs.AreaLaws.{file_bytes, area_again}
use Rattle.solvability.specs.Host.{HostAnswer, HostOpen, HostEdit, HostOpenAnswer}
use Rattle.promises.specs.FileLaws.{file_accepted}
use Rattle.promises.specs.NumberingLaws.{without_numbers, without_valid}

-- ---- an open model as an area holds it

-- accepted, with as many constants and rows as the model has, words that fit a set's room, and columns present that there are
pub record InArea (O : Open) : Type 0 where
  pub accepted : first_refusal (held_tests O) ≡ 0
  pub constants_all : length O.cs ≡ O.a * O.n
  pub rows_all : length O.ws ≡ O.b
  pub words : AreWords O.ws
  pub inside : (x : ℕ) → x ∈ O.present → x < O.n

no_numbers : (n : ℕ) (ws : List ℕ) → numbers_of n ws none ≡ none
unfolding numbers_of
no_numbers n [] = refl
no_numbers n (w ∷ ws) = refl

module _ (O : Open) (h : InArea O) where
  abbrev file_of : FileModel
  file_of = handed_over O.p O.n O.a O.b O.cs O.ws none

  is_accepted : Accepted O.p O.n O.a O.b O.cs O.ws none
  is_accepted = held_accepted O h.accepted

  file_valid : ValidModel file_of
  file_valid = handed_over_valid O.p O.n O.a O.b O.cs O.ws none h.words.below (λ ks e. absurd (some-ne-none ks (sym e))) (accepted_model _ _ _ _ _ _ none is_accepted)

  file_part : area_file (open_bytes O) ≡ encode file_of
  unfolding area_file open_bytes
  file_part = drop_at (bytes_of set_bytes (word_of width O.present)) (encode file_of) set_bytes (bytes_of_length set_bytes (word_of width O.present))

  present_part : take set_bytes (open_bytes O) ≡ bytes_of set_bytes (word_of width O.present)
  unfolding open_bytes
  present_part = take_at (bytes_of set_bytes (word_of width O.present)) (encode file_of) set_bytes (bytes_of_length set_bytes (word_of width O.present))

  -- its bytes are judged as a file without numbers is that is accepted
  area_judged : first_refusal (closed unnumbered_fields (area_file (open_bytes O))) ≡ 0
  unfolding unnumbered_judge handed_over
  area_judged = ap (λ (s : List ℕ). first_refusal (closed unnumbered_fields s)) file_part ∙ unnumbered_encoded file_of file_valid (no_numbers O.n (take O.b O.ws))

  -- the columns present
  present_shown : members (number (take set_bytes (open_bytes O))) ≡ O.present
  present_shown = ap (λ (s : List ℕ). members (number s)) present_part ∙ ap members (number_bytes set_bytes w small) ∙ fun_ext at
    where
      w : ℕ
      w = word_of width O.present

      few : O.n ≤ 96
      few = is_accepted.n_most

      small : word_of width O.present < 2 ^ 96
      small = ltb-true (word_of width O.present) (2 ^ 96) (sym (within_pow width 96 (word_of width O.present) (word_below width O.present))
          ∙ (within_iff 96 (word_of width O.present)).1 (λ x l m. omega (arith, few, h.inside x (sym (members_word width O.present x l) ∙ m))))

      at : (x : ℕ) → members (word_of width O.present) x ≡ O.present x
      at x = elim (dec_lt x width) [
        | yes l ↦ members_word width O.present x l
        | no nl ↦ members_beyond width (word_of width O.present) x (word_below width O.present) (omega arith) ∙ sym (not_true (O.present x) (λ m. omega (arith, few, h.inside x m)))
      ]

  -- and hold it
  pub area_holds : area_open (open_bytes O) ≡ O
  unfolding area_open handed_over
  area_holds =
      ap₂ (λ (m : FileModel) (S : Set). of_file m S) (ap decode file_part ∙ decode_encode file_of file_valid) present_shown
      ∙ ap₂ (λ (cs ws : List ℕ). record { p = O.p; n = O.n; a = O.a; b = O.b; cs = cs; ws = ws; present = O.present })
      (flat_of_rows O.n O.a O.cs ∙ take_all (O.a * O.n) O.cs (omega (arith, h.constants_all))) (take_all O.b O.ws (omega (arith, h.rows_all)))

-- ---- it stays so

rows_long : (ws : List ℕ) (e : Edit) → length (rows_done ws e) ≡ length ws
unfolding rows_done
rows_long ws (take_off c) = refl
rows_long ws (put_back c) = refl
rows_long ws (set_place r c) = place_length ws r c true
rows_long ws (clear_place r c) = place_length ws r c false

rows_words : (ws : List ℕ) → AreWords ws → (e : Edit) → AreWords (rows_done ws e)
unfolding rows_done
rows_words ws h (take_off c) = h
rows_words ws h (put_back c) = h
rows_words ws h (set_place r c) = place_words ws r c true h
rows_words ws h (clear_place r c) = place_words ws r c false h

done_in : (O : Open) (e : Edit) → edit_refusal O e ≡ 0 → InArea O → InArea (done O e)
unfolding done
done_in O e z h =
    let g = edit_accepted O e z in
    record {
      accepted = done_held O e g;
      constants_all = h.constants_all;
      rows_all = rows_long O.ws e ∙ h.rows_all;
      words = rows_words O.ws h.words e;
      inside = done_present O e g.column h.inside;
    }

after_in : (O : Open) (e : Edit) → InArea O → InArea (after O e)
after_in O e h =
    by_cases (ℕ_discrete (edit_refusal O e) 0)
    (λ z. subst InArea (sym (after_accepted O e z)) (done_in O e z h))
    (λ nz. subst InArea (sym (after_refused O e nz)) h)

pub edits_in : (l : List Edit) (O : Open) → InArea O → InArea (after_edits O l)
unfolding after_edits
edits_in [] O h = h
edits_in (e ∷ l) O h = edits_in l (after O e) (after_in O e h)

-- a file's model, with columns present that there are; so as it is opened,
file_in : (s : List ℕ) → AreBytes s → judge s ≡ 0 → (S : Set) → ((x : ℕ) → x ∈ S → x < (decode s).n) → InArea (of_file (decode s) S)
unfolding held_tests refusal
file_in s bytes ok S inside =
    let v = decoded_valid s bytes ok in
    let m = decode s in
    record {
      accepted = accepted_model _ _ _ _ _ _ none (file_accepted s bytes ok);
      constants_all = flat_length (λ c. c < m.p) m.n m.constants v.constants_below ∙ ap (λ (k : ℕ). k * m.n) v.constant_rows;
      rows_all = v.parameter_rows;
      words = record {
        below = λ r. elim (dec_lt r (length m.parameters)) [
          | yes l ↦ (all_at (λ w. (w < 2 ^ width) × (within m.n w ≡ true)) m.parameters 0 v.parameters_within r l).0
          | no nl ↦ let past : length m.parameters ≤ r = omega arith in rw (get_or-eq_default m.parameters 0 past) (pow_pos width)
        ];
      };
      inside = inside;
    }

pub opened_in : (s : List ℕ) → AreBytes s → judge s ≡ 0 → InArea (file_opened s)
unfolding file_opened
opened_in s bytes ok = file_in s bytes ok (λ x. ltb x (decode s).n) (λ x. ltb-true x (decode s).n)

-- and so in any area of bytes whose file and whose columns present are accepted, whoever wrote it
area_in : (area : List ℕ) → AreBytes area → first_refusal (closed unnumbered_fields (area_file area)) ≡ 0 → present_test (area_open area) ≡ true → InArea (area_open area)
unfolding area_open unnumbered_judge
area_in area bytes ok t =
    let w = number (take set_bytes area) in
    let small : w < 2 ^ width = lt_of_lt_of_le (number_below set_bytes area bytes) (pow_mono {i = 8 * set_bytes} {j = width} (omega arith)) in
    file_in (area_file area) (file_bytes area bytes) ((unnumbered_iff (area_file area)).0 ok).0 (members w) (λ x m. (present_reads (area_open area)).0 t x (members_below w x small m) m)

-- ---- calls one after another

-- a call for each of these bytes; each takes the area that the last one left
abbrev pub EditedInArea : List ℕ → List (List ℕ) → List ℕ → Type 0
EditedInArea area [] area' = area' ≡ area
EditedInArea area (bs ∷ l) area' = (k : ℕ) × (mid : List ℕ) × EditAreaCall area bs k mid × EditedInArea mid l area'

-- the edits that they name; bytes that are refused as such, with 1 or 2, name none
unfoldable pub named_edits : List (List ℕ) → List Edit
named_edits [] = []
named_edits (bs ∷ l) = where_accepted (first_refusal (byte_tests bs)) (edit_of bs ∷ named_edits l) (named_edits l)

module _ (O : Open) (h : InArea O) (bs : List ℕ) where
  -- the number: of the bytes, and then of the edit
  pub area_number : first_refusal (edit_area_tests (open_bytes O) bs) ≡ first_refusal (byte_tests bs then own_tests O (edit_of bs))
  area_number =
      sym (then_passed (closed unnumbered_fields (area_file (open_bytes O))) _ _ (area_judged O h) refl)
      ∙ ap (λ (P : Open). first_refusal (byte_tests bs then own_tests P (edit_of bs))) (area_holds O h)

  area_number_named : first_refusal (byte_tests bs) ≡ 0 → first_refusal (edit_area_tests (open_bytes O) bs) ≡ edit_refusal O (edit_of bs)
  unfolding edit_refusal edit_tests
  area_number_named z =
      area_number ∙ sym (then_passed (byte_tests bs) (own_tests O (edit_of bs)) _ z refl)
      ∙ then_passed (held_tests O) (own_tests O (edit_of bs)) (first_refusal (own_tests O (edit_of bs))) h.accepted refl

  module _ (k : ℕ) (area' : List ℕ) (call : EditAreaCall (open_bytes O) bs k area') where
    -- bytes that name none change nothing,
    unnamed_leaves : first_refusal (byte_tests bs) ≢ 0 → area' ≡ open_bytes O
    unnamed_leaves nz =
        let q : first_refusal (byte_tests bs) ≡ first_refusal (edit_area_tests (open_bytes O) bs) = then_refused (byte_tests bs) (own_tests O (edit_of bs)) _ refl nz ∙ sym area_number in
        call.if_refused (λ z. nz (q ∙ z))

    -- and those that name one leave what it leaves
    named_leaves : first_refusal (byte_tests bs) ≡ 0 → (k ≡ edit_refusal O (edit_of bs)) × (area' ≡ open_bytes (after O (edit_of bs)))
    named_leaves z =
        let q = area_number_named z in (
          call.is_number ∙ q,
          by_cases (ℕ_discrete (edit_refusal O (edit_of bs)) 0)
              (λ y. call.if_accepted (q ∙ y) ∙ ap (λ (P : Open). open_bytes (done P (edit_of bs))) (area_holds O h) ∙ ap open_bytes (sym (after_accepted O (edit_of bs) y)))
              (λ ny. call.if_refused (λ y. ny (sym q ∙ y)) ∙ ap open_bytes (sym (after_refused O (edit_of bs) ny))),
        )

pub edits_in_area : (l : List (List ℕ)) (O : Open) → InArea O → (area' : List ℕ) → EditedInArea (open_bytes O) l area' → area' ≡ open_bytes (after_edits O (named_edits l))
unfolding after_edits named_edits
edits_in_area [] O h area' c = c
edits_in_area (bs ∷ l) O h area' c =
    by_cases (ℕ_discrete (first_refusal (byte_tests bs)) 0)
    (λ z.
    let next = (named_leaves O h bs c.0 c.1 c.2 z).1 in
    edits_in_area l (after O (edit_of bs)) (after_in O (edit_of bs) h) area' (subst (λ (mid : List ℕ). EditedInArea mid l area') next c.3)
    ∙ ap (λ (L : List Edit). open_bytes (after_edits O L)) (sym (accepted_value (first_refusal (byte_tests bs)) refl z (edit_of bs ∷ named_edits l) (named_edits l))))
    (λ nz.
    let next = unnamed_leaves O h bs c.0 c.1 c.2 nz in
    edits_in_area l O h area' (subst (λ (mid : List ℕ). EditedInArea mid l area') next c.3)
    ∙ ap (λ (L : List Edit). open_bytes (after_edits O L)) (sym (where_refused (first_refusal (byte_tests bs)) refl nz (edit_of bs ∷ named_edits l) (named_edits l))))

-- ---- opening

module _ (s : List ℕ) (bytes : AreBytes s) (area : List ℕ) (k : ℕ) (area' : List ℕ) (call : HostOpen s area k area') where
  pub opened_judged : k ≡ 0 → (judge s ≡ 0) × (length (open_bytes (file_opened s)) ≤ length area)
  unfolding area_refusal judge
  opened_judged ok =
      let z = then_zero (closed fields s) _ (sym call.is_number ∙ ok) in
      (z.0, (area_reads _ _).0 (unless_zero _ area_short (then_zero (unless (area_test (length (open_bytes (file_opened s))) (length area)) area_short) [] z.1).0))

  -- the front of the area is the bytes of the model as it is opened
  pub opened_front : k ≡ 0 → take (length (open_bytes (file_opened s))) area' ≡ open_bytes (file_opened s)
  opened_front ok = ap (take (length (open_bytes (file_opened s)))) (call.if_accepted (sym call.is_number ∙ ok)) ∙ over_front (open_bytes (file_opened s)) area (length (open_bytes (file_opened s))) refl

  -- and what stands behind them is as it was
  pub opened_behind : k ≡ 0 → drop (length (open_bytes (file_opened s))) area' ≡ drop (length (open_bytes (file_opened s))) area
  unfolding over
  opened_behind ok =
      let bs = open_bytes (file_opened s) in
      ap (drop (length bs)) (call.if_accepted (sym call.is_number ∙ ok)) ∙ drop_at bs (drop (length bs) area) (length bs) refl

-- a file that is refused
pub host_open_refused_alike : (s area area' out out' : List ℕ) (k j : ℕ) → HostOpen s area k area' → HostAnswer s out j out' → judge s ≢ 0 → (k ≡ judge s) × (j ≡ judge s)
unfolding area_refusal judge
host_open_refused_alike s area area' out out' k j call answer nz =
    (call.is_number ∙ sym (then_refused (closed fields s) _ (judge s) refl nz), answer.is_number ∙ sym (then_refused (closed fields s) _ (judge s) refl nz))

-- ---- the answer

module _ (O : Open) (h : InArea O) where
  inside_test : present_test O ≡ true
  inside_test = (present_reads O).1 (λ x _ m. h.inside x m)

  pub asked_of_area : (r : Answer) → AnswerAreaCall (open_bytes O) r → (r.refusal ≡ 0) × Answered (open_model O) r
  asked_of_area r c =
      let z : first_refusal (closed unnumbered_fields (area_file (open_bytes O)) then unless (present_test (area_open (open_bytes O))) column_beyond) ≡ 0 =
      zero_then (closed unnumbered_fields (area_file (open_bytes O))) _ (area_judged O h) (zero_unless _ column_beyond (ap present_test (area_holds O h) ∙ inside_test)) in
      (c.is_refusal ∙ z, subst (λ (P : Open). Answered (open_model P) r) (area_holds O h) (c.if_accepted z))

  pub asked_from_C : (answer : List ℕ) (k : ℕ) (answer' : List ℕ) → HostOpenAnswer (open_bytes O) answer k answer' → answer_length ≤ length answer
      → (k ≡ 0) × AnswerWritten (open_model O) answer answer'
  unfolding area_refusal
  asked_from_C answer k answer' c l =
      let z : area_refusal (closed unnumbered_fields (area_file (open_bytes O))) (unless (present_test (area_open (open_bytes O))) column_beyond) answer_length answer ≡ 0 =
      zero_then (closed unnumbered_fields (area_file (open_bytes O))) _ (area_judged O h)
      (zero_then (unless (area_test answer_length (length answer)) area_short) _ (zero_unless _ area_short ((area_reads _ _).1 l)) (zero_unless _ column_beyond (ap present_test (area_holds O h) ∙ inside_test))) in
      (c.is_number ∙ z, subst (λ (P : Open). AnswerWritten (open_model P) answer answer') (area_holds O h) (c.if_accepted z))

-- from the opening of a file on: the model worked out afresh
pub file_afresh : (s : List ℕ) (l : List Edit) → let m = decode s in let L = accepted_edits (file_opened s) l in
    open_model (after_edits (file_opened s) l) ≡ listed_at (modulus m.p).0 (modulus m.p).1 m.n m.a m.b (flatten m.constants) (rows_after m.parameters L) (present_after (λ x. ltb x m.n) L)
unfolding file_opened
file_afresh s l = worked_out_afresh (decode s).p (decode s).n (decode s).a (decode s).b (flatten (decode s).constants) (decode s).parameters l

-- ---- any area

-- the model in an area whose file is accepted is accepted handed over; so its edits and its answer are judged as of a model handed over
module _ (area : List ℕ) (bytes : AreBytes area) (ok : first_refusal (closed unnumbered_fields (area_file area)) ≡ 0) where
  held_accepts : first_refusal (held_tests (area_open area)) ≡ 0
  unfolding area_open held_tests refusal unnumbered_judge
  held_accepts = accepted_model _ _ _ _ _ _ none (file_accepted (area_file area) (file_bytes area bytes) ((unnumbered_iff (area_file area)).0 ok).0)

  pub area_edit_number : (bs : List ℕ) (k : ℕ) (area' : List ℕ) → HostEdit area bs k area' → first_refusal (byte_tests bs) ≡ 0 → k ≡ edit_refusal (area_open area) (edit_of bs)
  unfolding edit_refusal edit_tests
  area_edit_number bs k area' call z =
      let own = own_tests (area_open area) (edit_of bs) in
      call.is_number ∙ sym (then_passed (closed unnumbered_fields (area_file area)) (byte_tests bs then own) _ ok (then_passed (byte_tests bs) own _ z refl))
      ∙ then_passed (held_tests (area_open area)) own (first_refusal own) held_accepts refl

  pub area_answer_call : (r : Answer) → AnswerAreaCall area r → RankCall (answer_refusal (area_open area)) r.refusal (Refused r) (Answered (open_model (area_open area)) r)
  unfolding answer_refusal answer_tests
  area_answer_call r call =
      let last = unless (present_test (area_open area)) column_beyond in
      call_as (sym (then_passed (closed unnumbered_fields (area_file area)) last _ ok refl) ∙ then_passed (held_tests (area_open area)) last (first_refusal last) held_accepts refl) (λ h. h) call

module _ (area : List ℕ) (bytes : AreBytes area) (bs : List ℕ) (k : ℕ) (area' : List ℕ) (call : HostEdit area bs k area') where
  pub accepted_holds : k ≡ 0 → (open_bytes (area_open area) ≡ area) × (edit_refusal (area_open area) (edit_of bs) ≡ 0) × (area_open area' ≡ after (area_open area) (edit_of bs))
  unfolding own_tests unnumbered_judge
  accepted_holds ok =
      let O = area_open area in
      let e = edit_of bs in
      let z = sym call.is_number ∙ ok in
      let t = then_zero (closed unnumbered_fields (area_file area)) _ z in
      let u = then_zero (byte_tests bs) _ t.1 in
      let c = then_zero (named_column O.n (column_of e)) _ (then_zero (row_tests O e) _ u.1).1 in
      let h = area_in area bytes t.0 (unless_zero _ column_beyond (then_zero (unless (present_test O) column_beyond) _ c.1).0) in
      let again = area_again area bytes t.0 in
      let w = named_leaves O h bs k area' (subst (λ (s : List ℕ). EditAreaCall s bs k area') (sym again) call) u.0 in
      (again, sym w.0 ∙ ok, ap area_open w.1 ∙ area_holds (after O e) (after_in O e h))

-- ---- what is not read

-- numbers are judged and then dropped: without them the file opens to the same bytes
opened_without_numbers : (s : List ℕ) → AreBytes s → judge s ≡ 0 → file_opened (encode (without_numbers (decode s))) ≡ file_opened s
unfolding file_opened without_numbers
opened_without_numbers s bytes ok = ap (λ (m : FileModel). opened m.p m.n m.a m.b (flatten m.constants) m.parameters) (decode_encode (without_numbers (decode s)) (without_valid (decode s) (decoded_valid s bytes ok)))

-- bytes behind the third
pub third_last : (bs : List ℕ) → (byte_tests (take edit_bytes bs) ≡ byte_tests bs) × (edit_of (take edit_bytes bs) ≡ edit_of bs)
unfolding byte_tests edit_of
third_last [] = (refl, refl)
third_last (x ∷ []) = (refl, refl)
third_last (x ∷ y ∷ []) = (refl, refl)
third_last (x ∷ y ∷ z ∷ bs) = (ap (λ (t : Bool). (t, truncated) ∷ kind_tests x) (sym (le-leb edit_bytes (suc (suc (suc (length bs)))) (omega arith))), refl)

-- bytes that are judged alike and name the same edit do the same
pub edited_alike : (area bs cs : List ℕ) → byte_tests bs ≡ byte_tests cs → edit_of bs ≡ edit_of cs → (k : ℕ) (area' : List ℕ) → EditAreaCall area bs k area' → EditAreaCall area cs k area'
edited_alike area bs cs et ee k area' c =
    let q : first_refusal (edit_area_tests area bs) ≡ first_refusal (edit_area_tests area cs) =
    ap₂ (λ (ts : Tests) (e : Edit). first_refusal (closed unnumbered_fields (area_file area) then ts then own_tests (area_open area) e)) et ee in
    record {
      is_number = c.is_number ∙ q;
      if_refused = λ nz. c.if_refused (λ z. nz (sym q ∙ z));
      if_accepted = λ z. c.if_accepted (q ∙ z) ∙ ap (λ (e : Edit). open_bytes (done (area_open area) e)) ee;
    }

-- the call that opens the file without its numbers does what the call on the file does
pub opened_alike : (s : List ℕ) → AreBytes s → judge s ≡ 0 → (area : List ℕ) (k : ℕ) (area' : List ℕ) → HostOpen s area k area' → HostOpen (encode (without_numbers (decode s))) area k area'
unfolding area_refusal judge
opened_alike s bytes ok area k area' c =
    let s' = encode (without_numbers (decode s)) in
    let e : open_bytes (file_opened s) ≡ open_bytes (file_opened s') = ap open_bytes (sym (opened_without_numbers s bytes ok)) in
    let room : List ℕ → Tests = λ bs. unless (area_test (length bs) (length area)) area_short in
    let q : area_refusal (closed fields s) [] (length (open_bytes (file_opened s))) area ≡ area_refusal (closed fields s') [] (length (open_bytes (file_opened s'))) area =
    sym (then_passed (closed fields s) (room (open_bytes (file_opened s)) then []) _ ok refl)
    ∙ ap (λ (bs : List ℕ). first_refusal (room bs then [])) e
    ∙ then_passed (closed fields s') (room (open_bytes (file_opened s')) then []) _ (encoded_accepted (without_numbers (decode s)) (without_valid (decode s) (decoded_valid s bytes ok))) refl in
    record {
      is_number = c.is_number ∙ q;
      if_refused = λ nz. c.if_refused (λ z. nz (sym q ∙ z));
      if_accepted = λ z. c.if_accepted (q ∙ z) ∙ ap (λ (bs : List ℕ). over bs area) e;
    }
