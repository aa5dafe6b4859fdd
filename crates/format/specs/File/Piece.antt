-- Pieces of a file: what is tested in a piece, how it is read and written, and how pieces are put together.
-- Reading is total, and says something only where no test fails. A piece says itself what follows it, so that no other place knows how
-- long it is. Definitions only; PieceLaws has one law for each combinator.
use Rattle.std.specs.Prelude.{ℕ, zero, suc, ◌+◌, ◌-◌, ◌/◌, ◌%◌, ◌≡◌, Bool, cond, ◌⊎◌, Result, IfOk, length, take, drop}
use mathlib.Core.List.{List, [], ◌∷◌, ◌++◌, flat_map}
use Rattle.std.proofs.Common.{inl, inr, ⊎_elim}
use Rattle.std.specs.Borrow.{Bor}
use Rattle.format.specs.declared.refusals.Refusal.{Refusal}
use Rattle.format.specs.Refused.{refusal_of}
use Rattle.format.specs.Refusals.{Tests, unless, ◌then◌, first_refusal, truncated, unexpected, trailing, head_bytes, said_length, head_test, due_test, body_test, end_test}

-- a field's body, of a size that is known
pub record Body (A : Type 0) : Type 0 where
  pub size : ℕ
  pub tests : List ℕ → Tests
  pub dec : List ℕ → A
  pub enc : A → List ℕ

-- what stands first in a list: its tests, its value, what follows it, and how it is written
pub record Piece (A : Type 0) : Type 0 where
  pub tests : List ℕ → Tests
  pub dec : List ℕ → A
  pub rest : List ℕ → List ℕ
  pub enc : A → List ℕ

-- a field's head, its tag and length, and that its body is there
unfoldable pub head_tests : ℕ → ℕ → List ℕ → Tests
head_tests tag size s =
    unless (head_test s) truncated
    then unless (due_test tag size s) unexpected
    then unless (body_test size s) truncated

-- a one-byte tag, a two-byte length, and the body
abbrev pub field_bytes : ℕ → ℕ → List ℕ → List ℕ
field_bytes tag size body = tag ∷ size % 256 ∷ size / 256 ∷ body

abbrev pub field : {A : Type 0} → ℕ → Body A → Piece A
field tag B =
    record {
      tests = λ s. head_tests tag B.size s then B.tests (take B.size (drop head_bytes s));
      dec = λ s. B.dec (take B.size (drop head_bytes s));
      rest = λ s. drop B.size (drop head_bytes s);
      enc = λ x. field_bytes tag B.size (B.enc x);
    }

abbrev pub many_tests : {A : Type 0} → Piece A → ℕ → List ℕ → Tests
many_tests P zero s = []
many_tests P (suc k) s = P.tests s then many_tests P k (P.rest s)

abbrev pub many_dec : {A : Type 0} → Piece A → ℕ → List ℕ → List A
many_dec P zero s = []
many_dec P (suc k) s = P.dec s ∷ many_dec P k (P.rest s)

abbrev pub many_rest : {A : Type 0} → Piece A → ℕ → List ℕ → List ℕ
many_rest P zero s = s
many_rest P (suc k) s = many_rest P k (P.rest s)

-- the piece k times
abbrev pub many : {A : Type 0} → ℕ → Piece A → Piece (List A)
many k P = record { tests = many_tests P k; dec = many_dec P k; rest = many_rest P k; enc = flat_map P.enc }

-- k pieces, each of them by what those before said, which begins with x and goes on by step
abbrev pub chain_tests : {S A : Type 0} → (S → Piece A) → (S → A → S) → ℕ → S → List ℕ → Tests
chain_tests P step zero x s = []
chain_tests P step (suc k) x s = (P x).tests s then chain_tests P step k (step x ((P x).dec s)) ((P x).rest s)

abbrev pub chain_dec : {S A : Type 0} → (S → Piece A) → (S → A → S) → ℕ → S → List ℕ → List A
chain_dec P step zero x s = []
chain_dec P step (suc k) x s = (P x).dec s ∷ chain_dec P step k (step x ((P x).dec s)) ((P x).rest s)

abbrev pub chain_rest : {S A : Type 0} → (S → Piece A) → (S → A → S) → ℕ → S → List ℕ → List ℕ
chain_rest P step zero x s = s
chain_rest P step (suc k) x s = chain_rest P step k (step x ((P x).dec s)) ((P x).rest s)

abbrev pub chain_enc : {S A : Type 0} → (S → Piece A) → (S → A → S) → S → List A → List ℕ
chain_enc P step x [] = []
chain_enc P step x (y ∷ ys) = (P x).enc y ++ chain_enc P step (step x y) ys

abbrev pub chain : {S A : Type 0} → ℕ → S → (S → Piece A) → (S → A → S) → Piece (List A)
chain k x P step = record { tests = chain_tests P step k x; dec = chain_dec P step k x; rest = chain_rest P step k x; enc = chain_enc P step x }

-- one of two pieces, the second where the test of what stands there passes
abbrev pub either : {A B : Type 0} → (List ℕ → Bool) → Piece A → Piece B → Piece (A ⊎ B)
either f P Q =
    record {
      tests = λ s. cond (f s) (Q.tests s) (P.tests s);
      dec = λ s. cond (f s) (inr (Q.dec s)) (inl (P.dec s));
      rest = λ s. cond (f s) (Q.rest s) (P.rest s);
      enc = ⊎_elim P.enc Q.enc;
    }

-- one piece, and after it one that goes by the first one's value
abbrev pub seq : {A B : Type 0} → Piece A → (A → Piece B) → Piece (A × B)
seq P Q =
    record {
      tests = λ s. P.tests s then (Q (P.dec s)).tests (P.rest s);
      dec = λ s. (P.dec s, (Q (P.dec s)).dec (P.rest s));
      rest = λ s. (Q (P.dec s)).rest (P.rest s);
      enc = λ x. P.enc x.0 ++ (Q x.0).enc x.1;
    }

-- the piece, and nothing after it
unfoldable pub closed : {A : Type 0} → Piece A → List ℕ → Tests
closed P s = P.tests s then unless (end_test (P.rest s)) trailing

-- ---- by the length that a head says, as a file that is accepted is walked

-- the body of the field in front, and what follows the field
unfoldable pub said_body : List ℕ → List ℕ
said_body s = take (said_length s) (drop head_bytes s)

unfoldable pub said_rest : List ℕ → List ℕ
said_rest s = drop (said_length s) (drop head_bytes s)

-- the bodies of the k fields in front, and what follows these
unfoldable pub said_bodies : ℕ → List ℕ → List (List ℕ)
said_bodies zero s = []
said_bodies (suc k) s = said_body s ∷ said_bodies k (said_rest s)

unfoldable pub said_rests : ℕ → List ℕ → List ℕ
said_rests zero s = s
said_rests (suc k) s = said_rests k (said_rest s)

-- ---- a part of bytes that are lent, handed back

-- r is the part that starts there, and holds these: where it lies among the bytes lent, and how long it is
pub record PartAt (start : ℕ) (holds : List ℕ) (lent r : Bor (List ℕ)) : Type 0 where
  pub bytes_are : r.now ≡ holds
  pub same_area : r.ref_ptr.0 ≡ lent.ref_ptr.0
  pub start_is : r.ref_ptr.1 ≡ start + lent.ref_ptr.1
  pub length_is : length r.now ≡ length holds

-- the last part, which holds these
abbrev pub LastPart : List ℕ → Bor (List ℕ) → Bor (List ℕ) → Type 0
LastPart holds lent r = PartAt (length lent.now - length holds) holds lent r

-- ---- a piece judged

-- the refusal of the first test that fails, or what is given where none does
pub record Judgement {A : Type 0} (tests : Tests) (Is : A → Type 0) (r : Result A Refusal) : Type 0 where
  pub refusal_is : refusal_of r ≡ first_refusal tests
  pub given : IfOk r Is

-- of a piece that stands first, what follows it is given
abbrev pub PieceJudged : {A : Type 0} → Piece A → List ℕ → Result (Bor (List ℕ)) Refusal → Type 0
PieceJudged P s = Judgement (P.tests s) (λ r. r.now ≡ P.rest s)

-- what a judging function says of each call judges the piece
abbrev pub JudgesEach : {A : Type 0} → (Bor (List ℕ) → Result (Bor (List ℕ)) Refusal → Type 0) → Piece A → Type 0
JudgesEach post P = (s : Bor (List ℕ)) (r : Result (Bor (List ℕ)) Refusal) → post s r → PieceJudged P s.now r

-- of a field up to its content, its body and what follows it
pub record FieldParts (size : ℕ) (s : Bor (List ℕ)) (parts : Bor (List ℕ) × Bor (List ℕ)) : Type 0 where
  pub body_is : parts.0.now ≡ take size (drop head_bytes s.now)
  pub body_length : length parts.0.now ≡ size
  pub rest_is : LastPart (drop size (drop head_bytes s.now)) s parts.1
