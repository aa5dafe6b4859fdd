-- The call about a claim on a file is the call on the file's model handed over, and the call from C is the call on its file; what stands behind a claim's
-- bytes does not count; and the bytes of a claim of ours are accepted. Assumes nothing.
use Rattle.std.specs.Prelude.{ℕ, zero, suc, ◌+◌, ◌≤◌, ◌*◌, ◌≡◌, refl, Bool, true, false, ◌≢◌, ◌↔◌, length, get_or, take, drop}
use Rattle.std.proofs.Common.{sym, ◌∙◌, arith, take-take, take_at, drop_at, drop-drop, get_or-take}
use Rattle.std.proofs.Math.Path.{ap, subst}
use Rattle.std.proofs.Math.Option.{none}
use mathlib.Core.List.{List, [], ◌∷◌, ◌++◌, flatten, append_assoc}
use Rattle.limits.specs.Limits.{most_columns, most_rows, set_bytes}
use Rattle.counting.specs.Sets.{indicator, ◌⊆◌}
use Rattle.columns.specs.Bytes.{number, bytes_of}
use Rattle.columns.specs.Columns.{members}
use Rattle.columns.specs.ColumnSets.{whole}
use Rattle.columns.specs.Words.Bytes.{AreBytes, bytes_of_length}
use Rattle.format.specs.Lists.{over}
use Rattle.format.specs.Refusals.{unless, area_short, area_test}
use Rattle.format.specs.RefusalLaws.{then_zero, then_refused}
use Rattle.format.specs.TestLaws.{accepted_model}
use Rattle.format.specs.File.Piece.{closed}
use Rattle.format.specs.File.Format.{fields, judge, decode}
use Rattle.rank.specs.Layered.Rank.{rank, short}
use Rattle.claims.specs.Claim.{AcceptsClaim, Shows}
use Rattle.claims.proofs.Theorems.{accepted_is_the_rank, short_in_accepted}
use Rattle.layered.specs.Answers.{AnswerShown, Answered}
use Rattle.layered.specs.Shown.{Answer}
use Rattle.layered.specs.FileModel.{file_model}
use Rattle.layered.proofs.FileLaws.{call_answered}
use Rattle.host.specs.AnswerBytes.{answer_bytes, front_bytes}
use Rattle.host.specs.AreaCall.{area_refusal, AreaCall, WrittenOver}
use Rattle.acceptance.specs.Answers.{AcceptanceCall, AcceptanceFileCall}
use Rattle.acceptance.specs.Bytes.{claim_length, claim_rank, claim_side, claim_rows, claim_set, ClaimShown, AcceptanceOf, acceptance_length, acceptance_bytes}
use Rattle.acceptance.proofs.ByteLaws.{claim_same}
use Rattle.acceptance.specs.declared.Claim.{Claim}
use Rattle.acceptance.specs.Shown.{Acceptance}
use Rattle.solvability.specs.Host.{HostAnswer, HostAccepts}
use Rattle.rank.specs.Layered.Model.{Assignment, Legal, size}
use Rattle.promises.specs.AnswerLaws.{front_area}
use Rattle.promises.specs.FileLaws.{file_accepted}
use Rattle.promises.specs.ShownLaws.{ShownWhole, answer_shown_whole}
use Rattle.promises.specs.AcceptanceLaws.{own_assignment, any_accepted, own_size, own_shown}

pub acceptance_file_call : (s : List ℕ) → AreBytes s → (c : Claim) (r : Acceptance) → AcceptanceFileCall s c r → r.refusal ≡ 0
    → AcceptanceCall (decode s).p (decode s).n (decode s).a (decode s).b (flatten (decode s).constants) (decode s).parameters none c r
acceptance_file_call s bytes c r call ok =
    let due = sym call.is_refusal ∙ ok in
    let none_due = accepted_model _ _ _ _ _ _ none (file_accepted s bytes due) in
    record { is_refusal = ok ∙ sym none_due; if_refused = λ ne. absurd (ne none_due); if_accepted = λ z. call.if_accepted due }

-- ---- from C

-- bytes have the rank, the constant side, the rows and the short set of an answer where its bytes have them
pub record PartsOf (t : Answer) (bs : List ℕ) : Type 0 where
  pub rank_there : get_or bs 1 0 ≡ t.rank
  pub side_there : take set_bytes (drop (2 + set_bytes) bs) ≡ bytes_of set_bytes (whole t.constants)
  pub rows_there : take most_rows (drop (2 + 3 * set_bytes) bs) ≡ t.rows
  pub short_there : take set_bytes (drop (2 + 2 * set_bytes) bs) ≡ bytes_of set_bytes (whole t.short)

-- so they have, whatever stands behind them
parts_of_answer : (t : Answer) → length t.rows ≡ most_rows → (rest : List ℕ) → PartsOf t (answer_bytes t ++ rest)
unfolding front_bytes
parts_of_answer t long rest =
    let placed = bytes_of set_bytes (whole t.placed) in
    let side = bytes_of set_bytes (whole t.constants) in
    let short = bytes_of set_bytes (whole t.short) in
    let all = ((placed ++ (side ++ short)) ++ t.rows) ++ rest in
    let apart : all ≡ placed ++ (side ++ (short ++ (t.rows ++ rest))) = append_assoc (placed ++ (side ++ short)) t.rows rest ∙ append_assoc placed (side ++ short) (t.rows ++ rest)
    ∙ ap (λ (z : List ℕ). placed ++ z) (append_assoc side short (t.rows ++ rest)) in
    let first : drop set_bytes all ≡ side ++ (short ++ (t.rows ++ rest)) = ap (drop set_bytes) apart ∙ drop_at placed _ set_bytes (bytes_of_length set_bytes (whole t.placed)) in
    let second : drop (set_bytes + set_bytes) all ≡ short ++ (t.rows ++ rest) = sym (drop-drop set_bytes set_bytes all) ∙ ap (drop set_bytes) first ∙ drop_at side _ set_bytes (bytes_of_length set_bytes (whole t.constants)) in
    let third : drop (set_bytes + set_bytes + set_bytes) all ≡ t.rows ++ rest = sym (drop-drop set_bytes (set_bytes + set_bytes) all) ∙ ap (drop set_bytes) second ∙ drop_at short _ set_bytes (bytes_of_length set_bytes (whole t.short)) in
    record {
      rank_there = refl;
      side_there = ap (take set_bytes) first ∙ take_at side (short ++ (t.rows ++ rest)) set_bytes (bytes_of_length set_bytes (whole t.constants));
      rows_there = ap (take most_rows) third ∙ take_at t.rows rest most_rows long;
      short_there = ap (take set_bytes) second ∙ take_at short (t.rows ++ rest) set_bytes (bytes_of_length set_bytes (whole t.short));
    }

-- a host's call that is accepted
module _ (s claim area area' : List ℕ) (call : HostAccepts s claim area 0 area') where
  accepted_file : judge s ≡ 0
  unfolding area_refusal judge
  accepted_file = (then_zero (closed fields s) _ (sym call.is_number)).0

  written : AnswerShown (AcceptanceOf (file_model s) claim) (λ r. area' ≡ over (acceptance_bytes r) area)
  written = call.if_accepted (sym call.is_number)

  -- writes the byte of an answer of the call on its file
  pub acceptance_host_call : (c : Claim) → ClaimShown claim c → AnswerShown (λ r. (r.refusal ≡ 0) × AcceptanceFileCall s c r) (λ r. area' ≡ over (acceptance_bytes r) area)
  acceptance_host_call c shows =
      let t = written.answer in
      record {
        answer = record { refusal = 0; accepted = t.accepted };
        is_answer = (
          refl,
          call_answered accepted_file refl (subst (λ (X : Type 0). (t.accepted ≡ true) ↔ X) (sym (claim_same shows)) written.is_answer),
        );
        is_shown = written.is_shown;
      }

  -- 1 where the claim that it shows is accepted
  accepted_written : AcceptsClaim (file_model s) (claim_rank claim) (members (claim_side claim)) (claim_rows claim) (members (claim_set claim)) → area' ≡ over (1 ∷ []) area
  unfolding indicator
  accepted_written h = written.is_shown ∙ ap (λ (u : Bool). over (indicator u ∷ []) area) (written.is_answer.1 h)

-- ---- what stands behind a claim

part_of_front : (n m k : ℕ) (l : List ℕ) → n + m ≤ k → take m (drop n (take k l)) ≡ take m (drop n l)
part_of_front zero m k l h = take-take m k l (omega arith)
part_of_front (suc n) m zero l h = absurd (omega arith)
part_of_front (suc n) m (suc k) [] h = refl
part_of_front (suc n) m (suc k) (x ∷ l) h = part_of_front n m k l (omega arith)

-- a host's call, by whether the bytes of the claim are enough, and by what they show
abbrev Asks : (s : List ℕ) (enough : Bool) (the_rank side : ℕ) (rows : List ℕ) (set : ℕ) → List ℕ → ℕ → List ℕ → Type 0
Asks s enough the_rank side rows set =
    AreaCall (closed fields s) (unless enough area_short) acceptance_length (WrittenOver (λ (r : Acceptance). (r.accepted ≡ true) ↔ AcceptsClaim (file_model s) the_rank (members side) rows (members set)) acceptance_bytes)

front_same : (s claim : List ℕ) → HostAccepts s (take claim_length claim) ≡ HostAccepts s claim
front_same s claim =
    let front = take claim_length claim in
    let enough = area_test claim_length (length claim) in
    ap (λ (t : Bool). Asks s t (claim_rank front) (claim_side front) (claim_rows front) (claim_set front)) (front_area claim_length front claim (take-take claim_length claim_length claim (omega arith)))
    ∙ ap (λ (k : ℕ). Asks s enough k (claim_side front) (claim_rows front) (claim_set front)) (get_or-take claim_length claim 0 0 (omega arith))
    ∙ ap (λ (xs : List ℕ). Asks s enough (claim_rank claim) (number xs) (claim_rows front) (claim_set front)) (part_of_front 1 set_bytes claim_length claim (omega arith))
    ∙ ap (λ (xs : List ℕ). Asks s enough (claim_rank claim) (claim_side claim) xs (claim_set front)) (part_of_front (1 + set_bytes) most_rows claim_length claim (omega arith))
    ∙ ap (λ (xs : List ℕ). Asks s enough (claim_rank claim) (claim_side claim) (claim_rows claim) (number xs)) (part_of_front (1 + set_bytes + most_rows) set_bytes claim_length claim (omega arith))

pub claim_surplus : (s claim other : List ℕ) → take claim_length claim ≡ take claim_length other → (area : List ℕ) (the_number : ℕ) (area' : List ℕ)
    → HostAccepts s claim area the_number area' → HostAccepts s other area the_number area'
claim_surplus s claim other e area the_number area' =
    subst (λ (Call : List ℕ → ℕ → List ℕ → Type 0). Call area the_number area') (sym (front_same s claim) ∙ ap (HostAccepts s) e ∙ front_same s other)

-- ---- from C, beside the layered call

-- where the byte is 1, the claim's rank is the rank, and its set has every short column
pub claim_from_C : (s claim area area' : List ℕ) → HostAccepts s claim area 0 area' → get_or area' 0 0 ≡ 1 → (claim_rank claim ≡ rank (file_model s)) × (short (file_model s) ⊆ members (claim_set claim))
unfolding over indicator
claim_from_C s claim area area' call e =
    let w = written s claim area area' call in
    let h = (w.is_answer.0 (one w.answer.accepted (sym (ap (λ (xs : List ℕ). get_or xs 0 0) w.is_shown) ∙ e))).is_accepted in
    (accepted_is_the_rank (file_model s) h, short_in_accepted (file_model s) h)
  where
    one : (t : Bool) → indicator t ≡ 1 → t ≡ true
    one true d = refl
    one false d = absurd (omega (arith, d))

-- an answer, its bytes in an area, and a claim with its rank and its short set
module _ (s : List ℕ) (bytes : AreBytes s) (area area' : List ℕ) (answer : HostAnswer s area 0 area') (claim out out' : List ℕ) (call : HostAccepts s claim out 0 out') where
  shown : AnswerShown (Answered (file_model s)) (λ t. area' ≡ over (answer_bytes t) area)
  shown = answer.if_accepted (sym answer.is_number)

  few : ((file_model s).n ≤ most_columns) × ((file_model s).b ≤ most_rows)
  few = let h = file_accepted s bytes (accepted_file s claim out out' call) in (h.n_most, h.b_most)

  abbrev t : Answer
  t = shown.answer

  parts : PartsOf t area'
  unfolding over
  parts = subst (PartsOf t) (sym shown.is_shown) (parts_of_answer t shown.is_answer.row_count (drop (length (answer_bytes t)) area))

  module _ (same_rank : claim_rank claim ≡ get_or area' 1 0) (same_set : take set_bytes (drop (1 + set_bytes + most_rows) claim) ≡ take set_bytes (drop (2 + 2 * set_bytes) area')) where
    whole_sets : ShownWhole (whole t.placed) × ShownWhole (whole t.constants) × ShownWhole (whole t.short)
    whole_sets = answer_shown_whole (file_model s) t few.0 shown.is_answer

    set_is : claim_set claim ≡ whole t.short
    set_is = ap number (same_set ∙ parts.short_there) ∙ whole_sets.2

    -- with any legal assignment of that size it is accepted,
    pub any_from_C : (A : Assignment) → Shows (members (claim_side claim)) (claim_rows claim) A → Legal (file_model s) A → size (file_model s) A ≡ get_or area' 1 0 → out' ≡ over (1 ∷ []) out
    any_from_C A shows legal many = accepted_written s claim out out' call (any_accepted (file_model s) t shown.is_answer (claim_rank claim) (claim_set claim) (same_rank ∙ parts.rank_there) set_is (claim_side claim) (claim_rows claim) A shows legal (many ∙ parts.rank_there))

    -- so with the answer's own
    pub own_from_C : take set_bytes (drop 1 claim) ≡ take set_bytes (drop (2 + set_bytes) area') → claim_rows claim ≡ take most_rows (drop (2 + 3 * set_bytes) area') → out' ≡ over (1 ∷ []) out
    own_from_C same-side same_rows =
        let h = shown.is_answer in
        let side_is : claim_side claim ≡ whole t.constants = ap number (same-side ∙ parts.side_there) ∙ whole_sets.1 in
        let A = own_assignment (file_model s) t in
        any_from_C A (rw (side_is, same_rows ∙ parts.rows_there) (own_shown (file_model s) t h few.0 few.1)) h.solved.is_legal (own_size (file_model s) t h ∙ sym parts.rank_there)

-- ---- a file that is refused

pub host_refused_alike : (s claim area area' out out' : List ℕ) (k j : ℕ) → HostAnswer s area k area' → HostAccepts s claim out j out' → judge s ≢ 0 → (k ≡ judge s) × (j ≡ judge s)
unfolding area_refusal judge
host_refused_alike s claim area area' out out' k j answer call nz =
    (answer.is_number ∙ sym (then_refused (closed fields s) _ (judge s) refl nz), call.is_number ∙ sym (then_refused (closed fields s) _ (judge s) refl nz))
