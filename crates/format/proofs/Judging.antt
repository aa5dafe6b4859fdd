-- The judgement of a file step by step, as the code makes it: a field's head, a repetition, and one piece after another. Assumes nothing.
use Prim.Native.Nat.{ℕ, zero, suc, ◌+◌, ◌-◌, ◌≤◌, ◌<◌}
use mathlib.Core.Path.{◌≡◌, refl, sym, ap, ◌∙◌}
use mathlib.Core.Logic.{◌≢◌}
use mathlib.Core.Bool.{true, false}
use mathlib.Core.List.{List, [], append_assoc}
use native.Mathlib.Omega.{arith}
use Rattle.std.specs.Prelude.{Result, Ok, Err, IsErrAnd}
use Rattle.std.proofs.lemmas.Result.{err_from_is_err_and}
use denote.Ref.{Bor}
use lib.ListN.{length, take, drop}
use borrow.Author.Tests.{le-leb, lt-leb}
use Rattle.format.specs.declared.refusals.Refusal.{Refusal}
use Rattle.format.specs.Refused.{cause_of, refusal_number, refusal_of}
use Rattle.format.specs.Refusals.{truncated, unexpected, number_of, Tests, ◌then◌, head_bytes, first_refusal, head_test, due_test, body_test}
use Rattle.format.specs.RefusalLaws.{number_pos, first_fails, first_passes, first_none, then_refused, then_passed, zero_then}
use Rattle.format.specs.File.Piece.{Body, Piece, field, head_tests, many_tests, many_rest, chain_tests, chain_rest, seq, closed, Judgement, PieceJudged, FieldParts, said_body, said_rest, many}
use Rattle.format.specs.File.PieceLaws.{head_good}

-- ---- a judgement: refused, or something is given

pub refused_some : (e : Refusal) → refusal_number e ≢ 0
refused_some e z = let l = number_pos (cause_of e) in omega arith

module _ {A : Type 0} {ts : Tests} {Is : A → Type 0} where
  pub refuses : {e : Refusal} → refusal_number e ≡ first_refusal ts → Judgement ts Is (Err e)
  refuses q = record { refusal_is = q; given = tt }

  pub gives : {x : A} → first_refusal ts ≡ 0 → Is x → Judgement ts Is (Ok x)
  gives q i = record { refusal_is = sym q; given = i }

-- the exit of a `?` hands the refusal on
pub handed_number : {A : Type 0} {k : ℕ} (r : Result A Refusal) (e : Refusal) → IsErrAnd r (λ d. d ≡ e) → refusal_number e ≡ k → refusal_of r ≡ k
handed_number r e h q = let p = err_from_is_err_and r h in rw p.1 (ap refusal_number p.2 ∙ q)

pub handed : {A : Type 0} {ts : Tests} {Is : A → Type 0} {r : Result A Refusal} (e : Refusal) → IsErrAnd r (λ d. d ≡ e) → refusal_number e ≡ first_refusal ts → Judgement ts Is r
handed {r = r} e h q = let p = err_from_is_err_and r h in rw p.1 (refuses (ap refusal_number p.2 ∙ q))

-- a refusal is handed on, whatever else would be tested
pub refused_then : (ts us : Tests) (e : Refusal) → refusal_number e ≡ first_refusal ts → refusal_number e ≡ first_refusal (ts then us)
refused_then ts us e q = then_refused ts us (refusal_number e) q (refused_some e)

-- ---- a field's head, from the tests that a reader makes

module _ (tag size : ℕ) (s : List ℕ) where
  pub head_none : length s < head_bytes → number_of truncated ≡ first_refusal (head_tests tag size s)
  unfolding head_tests head_test
  head_none l = first_fails _ _ _ (lt-leb head_bytes (length s) l)

  module _ (l : head_bytes ≤ length s) where
    pub head_undue : due_test tag size s ≡ false → number_of unexpected ≡ first_refusal (head_tests tag size s)
    unfolding head_tests head_test
    head_undue d = first_passes _ _ _ _ (le-leb head_bytes (length s) l) (first_fails _ _ _ d)

    module _ (d : due_test tag size s ≡ true) where
      pub head_cut : body_test size s ≡ false → number_of truncated ≡ first_refusal (head_tests tag size s)
      unfolding head_tests head_test
      head_cut e = first_passes _ _ _ _ (le-leb head_bytes (length s) l) (first_passes _ _ _ _ d (first_fails _ _ _ e))

      pub head_whole : body_test size s ≡ true → 0 ≡ first_refusal (head_tests tag size s)
      unfolding head_tests head_test
      head_whole e = first_passes _ _ _ _ (le-leb head_bytes (length s) l) (first_passes _ _ _ _ d (first_passes _ _ _ _ e first_none))

  -- a head that is not refused says the length that is due
  module _ (e : first_refusal (head_tests tag size s) ≡ 0) where
    pub body_due : said_body s ≡ take size (drop head_bytes s)
    unfolding said_body
    body_due = ap (λ (k : ℕ). take k (drop head_bytes s)) (head_good tag size s e).2

    pub rest_due : said_rest s ≡ drop size (drop head_bytes s)
    unfolding said_rest
    rest_due = ap (λ (k : ℕ). drop k (drop head_bytes s)) (head_good tag size s e).2

-- tests after those that passed
pub after_passed : (ts : Tests) {A : Type 0} {us : Tests} {Is : A → Type 0} {r : Result A Refusal} → first_refusal ts ≡ 0 → Judgement us Is r → Judgement (ts then us) Is r
after_passed ts {us = us} {r = r} e j = record { refusal_is = then_passed ts us (refusal_of r) e j.refusal_is; given = j.given }

-- a field whose head passed, by the tests of its body
module _ {A : Type 0} (tag : ℕ) (B : Body A) {s b next : Bor (List ℕ)} (j : Judgement (head_tests tag B.size s.now) (FieldParts B.size s) (Ok (b, next))) where
  pub content_refused : (k : ℕ) → k ≡ first_refusal (B.tests b.now) → k ≡ first_refusal ((field tag B).tests s.now)
  content_refused k q = then_passed _ _ k (sym j.refusal_is) (q ∙ ap (λ (t : List ℕ). first_refusal (B.tests t)) j.given.body_is)

  pub content_passed : first_refusal (B.tests b.now) ≡ 0 → first_refusal ((field tag B).tests s.now) ≡ 0
  content_passed q = zero_then _ _ (sym j.refusal_is) (ap (λ (t : List ℕ). first_refusal (B.tests t)) (sym j.given.body_is) ∙ q)

-- ---- a repetition, as a loop judges it: its refusal and what follows it are those of the pieces still to judge, in the unread rest

pub record Todo {A : Type 0} (P : Piece A) (k : ℕ) (s : List ℕ) (todo : ℕ) (rest : List ℕ) : Type 0 where
  pub same_refusal : first_refusal (many_tests P k s) ≡ first_refusal (many_tests P todo rest)
  pub same_rest : many_rest P k s ≡ many_rest P todo rest

module _ {A : Type 0} {P : Piece A} {k todo : ℕ} {s rest : List ℕ} (t : Todo P k s todo rest) where
  todo_next : 0 < todo → (next : List ℕ) → first_refusal (P.tests rest) ≡ 0 → next ≡ P.rest rest → Todo P k s (todo - 1) next
  todo_next l next e q = step todo l t
    where
      step : (j : ℕ) → 0 < j → Todo P k s j rest → Todo P k s (j - 1) next
      step zero l t = absurd (omega arith)
      step (suc j) l t =
          let m : suc j - 1 ≡ j = omega arith in
          rw (m, q) (record { same_refusal = t.same_refusal ∙ sym (then_passed (P.tests rest) _ _ e refl); same_rest = t.same_rest })

  todo_refused : 0 < todo → (e : Refusal) → refusal_number e ≡ first_refusal (P.tests rest) → refusal_number e ≡ first_refusal (many_tests P k s)
  todo_refused l e q = first todo l ∙ sym t.same_refusal
    where
      first : (i : ℕ) → 0 < i → refusal_number e ≡ first_refusal (many_tests P i rest)
      first zero l = absurd (omega arith)
      first (suc i) l = refused_then (P.tests rest) _ e q

  todo_done : todo ≤ 0 → (first_refusal (many_tests P k s) ≡ 0) × (many_rest P k s ≡ rest)
  todo_done l = (t.same_refusal ∙ none todo l, t.same_rest ∙ over todo l)
    where
      none : (i : ℕ) → i ≤ 0 → first_refusal (many_tests P i rest) ≡ 0
      none zero l = sym first_none
      none (suc i) l = absurd (omega arith)

      over : (i : ℕ) → i ≤ 0 → many_rest P i rest ≡ rest
      over zero l = refl
      over (suc i) l = absurd (omega arith)

-- i of k pieces are judged, and the rest is what follows these
module _ {A : Type 0} {P : Piece A} {k i : ℕ} {s rest : List ℕ} (t : Todo P k s (k - i) rest) where
  pub rows_next : {next : List ℕ} → i < k → first_refusal (P.tests rest) ≡ 0 → next ≡ P.rest rest → Todo P k s (k - (i + 1)) next
  rows_next {next} l e q = let m : k - (i + 1) ≡ k - i - 1 = omega arith in rw m (todo_next t (omega arith) next e q)

  pub rows_refused : (e : Refusal) → i < k → refusal_number e ≡ first_refusal (P.tests rest) → refusal_number e ≡ first_refusal (many_tests P k s)
  rows_refused e l q = todo_refused t (omega arith) e q

  pub rows_done : k ≤ i → (first_refusal (many_tests P k s) ≡ 0) × (many_rest P k s ≡ rest)
  rows_done l = todo_done t (omega arith)

pub rows_all : {A : Type 0} {P : Piece A} {k : ℕ} {s : List ℕ} → Todo P k s (k - 0) s
rows_all {k = k} = let q : k - 0 ≡ k = omega arith in rw q (record { same_refusal = refl; same_rest = refl })

-- a piece without its value, by which a repetition is judged
abbrev pub bare : {A : Type 0} → Piece A → Piece (Unit {0})
bare P = record { tests = P.tests; dec = λ s. tt; rest = P.rest; enc = λ x. [] }

module _ {A : Type 0} (P : Piece A) where
  bare_tests : (k : ℕ) (s : List ℕ) → many_tests (bare P) k s ≡ many_tests P k s
  bare_tests zero s = refl
  bare_tests (suc k) s = ap (λ (ts : Tests). P.tests s then ts) (bare_tests k (P.rest s))

  bare_rest : (k : ℕ) (s : List ℕ) → many_rest (bare P) k s ≡ many_rest P k s
  bare_rest zero s = refl
  bare_rest (suc k) s = bare_rest k (P.rest s)

  pub bare_judged : (k : ℕ) (s : List ℕ) {r : Result (Bor (List ℕ)) Refusal} → PieceJudged (many k (bare P)) s r → PieceJudged (many k P) s r
  bare_judged k s j = rw (bare_tests k s, bare_rest k s) at j

-- the same of pieces that go by those before
pub record ChainTodo {S A : Type 0} (P : S → Piece A) (step : S → A → S) (k : ℕ) (x₀ : S) (s : List ℕ) (todo : ℕ) (x : S) (rest : List ℕ) : Type 0 where
  pub same_refusal : first_refusal (chain_tests P step k x₀ s) ≡ first_refusal (chain_tests P step todo x rest)
  pub same_rest : chain_rest P step k x₀ s ≡ chain_rest P step todo x rest

module _ {S A : Type 0} {P : S → Piece A} {step : S → A → S} {k : ℕ} {x₀ : S} {s : List ℕ} {todo : ℕ} {x : S} {rest : List ℕ} (t : ChainTodo P step k x₀ s todo x rest) where
  chain_next : 0 < todo → (next : List ℕ) → first_refusal ((P x).tests rest) ≡ 0 → next ≡ (P x).rest rest → ChainTodo P step k x₀ s (todo - 1) (step x ((P x).dec rest)) next
  chain_next l next e q = go todo l t
    where
      go : (j : ℕ) → 0 < j → ChainTodo P step k x₀ s j x rest → ChainTodo P step k x₀ s (j - 1) (step x ((P x).dec rest)) next
      go zero l t = absurd (omega arith)
      go (suc j) l t =
          let m : suc j - 1 ≡ j = omega arith in
          rw (m, q) (record { same_refusal = t.same_refusal ∙ sym (then_passed ((P x).tests rest) _ _ e refl); same_rest = t.same_rest })

  chain_refused : 0 < todo → (e : Refusal) → refusal_number e ≡ first_refusal ((P x).tests rest) → refusal_number e ≡ first_refusal (chain_tests P step k x₀ s)
  chain_refused l e q = first todo l ∙ sym t.same_refusal
    where
      first : (i : ℕ) → 0 < i → refusal_number e ≡ first_refusal (chain_tests P step i x rest)
      first zero l = absurd (omega arith)
      first (suc i) l = refused_then ((P x).tests rest) _ e q

  chain_done : todo ≤ 0 → (first_refusal (chain_tests P step k x₀ s) ≡ 0) × (chain_rest P step k x₀ s ≡ rest)
  chain_done l = (t.same_refusal ∙ none todo l, t.same_rest ∙ over todo l)
    where
      none : (i : ℕ) → i ≤ 0 → first_refusal (chain_tests P step i x rest) ≡ 0
      none zero l = sym first_none
      none (suc i) l = absurd (omega arith)

      over : (i : ℕ) → i ≤ 0 → chain_rest P step i x rest ≡ rest
      over zero l = refl
      over (suc i) l = absurd (omega arith)

module _ {S A : Type 0} {P : S → Piece A} {step : S → A → S} {k i : ℕ} {x₀ x : S} {s rest : List ℕ} (t : ChainTodo P step k x₀ s (k - i) x rest) where
  pub chain_rows_next : {next : List ℕ} → i < k → first_refusal ((P x).tests rest) ≡ 0 → next ≡ (P x).rest rest → ChainTodo P step k x₀ s (k - (i + 1)) (step x ((P x).dec rest)) next
  chain_rows_next {next} l e q = let m : k - (i + 1) ≡ k - i - 1 = omega arith in rw m (chain_next t (omega arith) next e q)

  pub chain_rows_refused : (e : Refusal) → i < k → refusal_number e ≡ first_refusal ((P x).tests rest) → refusal_number e ≡ first_refusal (chain_tests P step k x₀ s)
  chain_rows_refused e l q = chain_refused t (omega arith) e q

  pub chain_rows_done : k ≤ i → (first_refusal (chain_tests P step k x₀ s) ≡ 0) × (chain_rest P step k x₀ s ≡ rest)
  chain_rows_done l = chain_done t (omega arith)

pub chain_rows_all : {S A : Type 0} {P : S → Piece A} {step : S → A → S} {k : ℕ} {x : S} {s : List ℕ} → ChainTodo P step k x s (k - 0) x s
chain_rows_all {k = k} = let q : k - 0 ≡ k = omega arith in rw q (record { same_refusal = refl; same_rest = refl })

-- ---- one piece after another, to the end

module _ {A B : Type 0} (P : Piece A) (Q : A → Piece B) (s : List ℕ) (r : ℕ) where
  pub seq_refused : r ≡ first_refusal (P.tests s) → r ≢ 0 → r ≡ first_refusal (closed (seq P Q) s)
  unfolding closed
  seq_refused e h = then_refused _ _ r (then_refused (P.tests s) _ r e h) h

  pub seq_passed : first_refusal (P.tests s) ≡ 0 → r ≡ first_refusal (closed (Q (P.dec s)) (P.rest s)) → r ≡ first_refusal (closed (seq P Q) s)
  unfolding closed
  seq_passed e h = then_passed (P.tests s) _ r e h ∙ ap first_refusal (sym (append_assoc (P.tests s) _ _))
