-- The call about the degree on a file is the call on the file's model handed over, the call from C is the call on its file, its first two bytes are the
-- degree, what the layered call refuses it refuses alike, and a power that is not read changes nothing. Assumes nothing.
use Rattle.std.specs.Prelude.{ℕ, ◌+◌, ◌*◌, ◌/◌, ◌%◌, ◌≤◌, ◌≡◌, ◌≢◌, ◌↔◌, ◌⊎◌, length}
use Rattle.std.proofs.Math.Path.{refl, sym, ap}
use Rattle.std.proofs.Common.{◌∙◌, arith}
use Rattle.std.proofs.Math.Option.{none}
use mathlib.Core.List.{List, flatten}
use Rattle.std.proofs.Math.ListN.{get_or}
use Rattle.columns.specs.Words.Bytes.{AreBytes}
use Rattle.rank.specs.Layered.Rank.{verdict}
use Rattle.degrees.specs.Degrees.{Powers, listed_powers}
use Rattle.format.specs.Lists.{over}
use Rattle.format.specs.Refusals.{Tests, unless, ◌then◌, first_refusal, area_short, area_test}
use Rattle.format.specs.RefusalLaws.{then_passed, then_refused, then_zero, zero_then, zero_unless}
use Rattle.format.specs.TestLaws.{accepted_model, area_reads}
use Rattle.format.specs.File.Piece.{closed}
use Rattle.format.specs.File.Format.{fields, judge, decode}
use Rattle.layered.specs.Answers.{AnswerShown, LayeredFileCall}
use Rattle.layered.specs.Shown.{Answer}
use Rattle.layered.specs.FileModel.{file_model}
use Rattle.layered.proofs.FileLaws.{call_answered}
use Rattle.host.specs.AreaCall.{area_refusal}
use Rattle.degree.specs.Answers.{power_areas, file_question, degree_question, DegreeAnswered, DegreeCall, DegreeFileCall}
use Rattle.degree.specs.Bytes.{degree_length, degree_bytes}
use Rattle.degree.specs.Shown.{Degree}
use Rattle.solvability.specs.Host.{HostAnswer, HostDegree}
use Rattle.promises.specs.FileLaws.{file_accepted}
use Rattle.promises.specs.DegreeLaws.{PowerAbove, PowersLent, asked_16_iff, degree_most, due_accepted, question_0_iff}
use Rattle.promises.specs.DegreeSameLaws.{SamePowers, answered_same, asked_same}

module _ (s rp cp pp : List ℕ) where
  -- the powers of the file's model
  abbrev W : Powers
  W = listed_powers (decode s).n rp cp pp

  pub degree_file_call : AreBytes s → (r : Degree) → DegreeFileCall s rp cp pp r → r.refusal ≡ 0
      → DegreeCall (decode s).p (decode s).n (decode s).a (decode s).b (flatten (decode s).constants) (decode s).parameters none rp cp pp r
  unfolding judge
  degree_file_call bytes r call ok =
      let due = sym call.is_refusal ∙ ok in
      let w = then_zero (closed fields s) (file_question s rp cp pp) due in
      call_answered (due_accepted _ _ _ _ _ _ none rp cp pp (accepted_model _ _ _ _ _ _ none (file_accepted s bytes w.0)) ∙ w.1) ok (call.if_accepted due)

  pub degree_file_refused : (r : Degree) → DegreeFileCall s rp cp pp r → (t : Answer) → LayeredFileCall s t → t.refusal ≢ 0 → r.refusal ≡ t.refusal
  unfolding judge
  degree_file_refused r call t answer nz = call.is_refusal ∙ sym (then_refused (closed fields s) (file_question s rp cp pp) t.refusal answer.is_refusal nz)

  -- 16, of an accepted file
  pub degree_file_16 : judge s ≡ 0 → (r : Degree) → DegreeFileCall s rp cp pp r
      → (r.refusal ≡ 16) ↔ (PowersLent (decode s).n (decode s).a (decode s).b rp cp pp × ((verdict (file_model s) ≢ 1) ⊎ PowerAbove (file_model s) W))
  unfolding judge
  degree_file_16 z r call =
      let e : r.refusal ≡ first_refusal (file_question s rp cp pp) = call.is_refusal ∙ sym (then_passed (closed fields s) (file_question s rp cp pp) _ z refl) in
      let w = asked_16_iff (file_model s) W rp cp pp in
      ((λ d. w.0 (sym e ∙ d)), λ k. e ∙ w.1 k)

  -- and from C, with an area that is long enough
  pub degree_host_16 : judge s ≡ 0 → (area : List ℕ) → degree_length ≤ length area → (k : ℕ) (area' : List ℕ) → HostDegree s rp cp pp area k area'
      → (k ≡ 16) ↔ (PowersLent (decode s).n (decode s).a (decode s).b rp cp pp × ((verdict (file_model s) ≢ 1) ⊎ PowerAbove (file_model s) W))
  unfolding area_refusal judge
  degree_host_16 z area long k area' call =
      let own = unless (area_test degree_length (length area)) area_short in
      let held : first_refusal (closed fields s then own then file_question s rp cp pp) ≡ first_refusal (file_question s rp cp pp) =
      sym (then_passed (closed fields s) (own then file_question s rp cp pp) _ z (then_passed own (file_question s rp cp pp) _ (zero_unless _ area_short ((area_reads _ _).1 long)) refl)) in
      let e : k ≡ first_refusal (file_question s rp cp pp) = call.is_number ∙ held in
      let w = asked_16_iff (file_model s) W rp cp pp in
      ((λ d. w.0 (sym e ∙ d)), λ j. e ∙ w.1 j)

  module _ (area area' : List ℕ) (call : HostDegree s rp cp pp area 0 area') where
    -- the tests that it passed
    passed : (judge s ≡ 0) × (first_refusal (file_question s rp cp pp) ≡ 0)
    unfolding area_refusal judge
    passed =
        let w = then_zero (closed fields s) (unless (area_test degree_length (length area)) area_short then file_question s rp cp pp) (sym call.is_number) in
        (w.0, (then_zero (unless (area_test degree_length (length area)) area_short) (file_question s rp cp pp) w.1).1)

    pub degree_host_call : AnswerShown (λ r. (r.refusal ≡ 0) × DegreeFileCall s rp cp pp r) (λ r. area' ≡ over (degree_bytes r) area)
    unfolding judge
    degree_host_call =
        let shown = call.if_accepted (sym call.is_number) in
        let t : Degree = shown.answer in
        let g : DegreeAnswered (file_model s) W t = shown.is_answer in
        record {
          answer = record { refusal = 0; degree = t.degree; constants = t.constants; rows = t.rows };
          is_answer = (
            refl,
            call_answered (zero_then (closed fields s) (file_question s rp cp pp) passed.0 passed.1) refl (record {
              is_degree = g.is_degree;
              is_legal = g.is_legal;
              places_all = g.places_all;
              reaches = g.reaches;
              side_shown = g.side_shown;
              rows_shown = g.rows_shown;
              past_rows = g.past_rows;
              row_count = g.row_count;
            }),
          );
          is_shown = shown.is_shown;
        }

    -- the first two bytes, the low one first, are the degree that every answer of the call on the file has
    pub degree_bytes_read : AreBytes s → (r : Degree) → DegreeFileCall s rp cp pp r → r.refusal ≡ 0 → get_or area' 0 0 + 256 * get_or area' 1 0 ≡ r.degree
    unfolding over
    degree_bytes_read bytes r answer ok =
        let shown = call.if_accepted (sym call.is_number) in
        let t : Degree = shown.answer in
        let g : DegreeAnswered (file_model s) W t = shown.is_answer in
        let h : DegreeAnswered (file_model s) W r = answer.if_accepted (sym answer.is_refusal ∙ ok) in
        let low = ((question_0_iff (file_model s) W).0 (then_zero (power_areas (decode s).n (decode s).a (decode s).b rp cp pp) (degree_question (file_model s) W) passed.1).1).1 in
        let k = file_accepted s bytes passed.0 in
        let e : get_or area' 0 0 ≡ t.degree % 256 = ap (λ (bs : List ℕ). get_or bs 0 0) shown.is_shown in
        let d : get_or area' 1 0 ≡ t.degree / 256 % 256 = ap (λ (bs : List ℕ). get_or bs 1 0) shown.is_shown in
        omega (arith, e, d, degree_most (file_model s) W t g low, k.a_most, k.n_most, g.is_degree, h.is_degree)

-- a file that is refused
pub host_degree_refused_alike : (s rp cp pp area area' out out' : List ℕ) (k j : ℕ) → HostAnswer s area k area' → HostDegree s rp cp pp out j out' → judge s ≢ 0 → (k ≡ judge s) × (j ≡ judge s)
unfolding area_refusal judge
host_degree_refused_alike s rp cp pp area area' out out' k j answer call nz =
    (answer.is_number ∙ sym (then_refused (closed fields s) _ (judge s) refl nz), call.is_number ∙ sym (then_refused (closed fields s) _ (judge s) refl nz))

-- a power that is not read
pub powers_surplus : (s rp cp pp rq cq pq : List ℕ) → PowersLent (decode s).n (decode s).a (decode s).b rp cp pp → PowersLent (decode s).n (decode s).a (decode s).b rq cq pq
    → SamePowers (file_model s) (listed_powers (decode s).n rp cp pp) (listed_powers (decode s).n rq cq pq)
    → (area : List ℕ) (number : ℕ) (area' : List ℕ) → HostDegree s rp cp pp area number area' → HostDegree s rq cq pq area number area'
powers_surplus s rp cp pp rq cq pq l m e area number area' call =
    let flat = flatten (decode s).constants in
    let d : area_refusal (closed fields s) (file_question s rp cp pp) degree_length area ≡ area_refusal (closed fields s) (file_question s rq cq pq) degree_length area =
    ap (λ (ts : Tests). area_refusal (closed fields s) ts degree_length area) (asked_same (decode s).p (decode s).n (decode s).a (decode s).b flat (decode s).parameters rp cp pp rq cq pq l m e) in
    record {
      is_number = call.is_number ∙ d;
      if_refused = λ nz. call.if_refused (λ z. nz (sym d ∙ z));
      if_accepted = λ z.
          let u = call.if_accepted (d ∙ z) in
          record {
            answer = u.answer;
            is_answer = answered_same (decode s).p (decode s).n (decode s).a (decode s).b flat (decode s).parameters rp cp pp rq cq pq l m e u.answer u.is_answer;
            is_shown = u.is_shown;
          };
    }
