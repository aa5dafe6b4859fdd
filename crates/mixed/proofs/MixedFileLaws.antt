-- The mixed model in a file, read into areas of a call's own: the answer to what was read is the answer to the file. Assumes nothing.
use Prim.Native.Nat.{ℕ, ◌+◌, ◌*◌}
use mathlib.Core.Path.{◌≡◌, refl, sym, ◌∙◌, subst}
use mathlib.Core.Logic.{◌≢◌}
use mathlib.Core.Bool.{Bool}
use mathlib.Core.Option.{none}
use mathlib.Core.List.{List}
use Rattle.residue.specs.Residues.{residues, res}
use Rattle.columns.specs.Columns.{members}
use Rattle.columns.specs.Words.Bytes.{AreBytes}
use Rattle.rank.specs.Modulus.{modulus}
use Rattle.rank.specs.Independent.{independent}
use Rattle.rank.proofs.IndependentLaws.{independent_iff}
use Rattle.mixed_models.specs.Mixed.{Mixed}
use Rattle.format.specs.Refusals.{unless, ◌then◌, first_refusal, not_mixed, mixed_test, mixed_tests, mixed_refusal, model_tests, refusal}
use Rattle.format.specs.RefusalLaws.{then_refused, then_passed}
use Rattle.format.specs.File.Piece.{closed}
use Rattle.format.specs.File.Format.{fields, judge, RowsCall}
use Rattle.layered.proofs.FileLaws.{own_constants, own_parameters, own_refusal, own_accepted, own_sizes, own_made, judged, call_refused, call_as}
use Rattle.mixed.specs.Shown.{MixedAnswer}
use Rattle.mixed.specs.MixedAnswers.{MixedRefused, MixedAnswered, MixedCall, mixed_question, MixedFileCall}

-- the number of the question alone
abbrev question : (n a b : ℕ) → ℕ
question n a b = first_refusal (unless (mixed_test n a b) not_mixed)

same_question : {n n' a a' b b' : ℕ} → n ≡ n' → a ≡ a' → b ≡ b' → question n a b ≡ question n' a' b'
same_question e f g = cc

module _ {s : List ℕ} (bytes : AreBytes s) {k p n a b : ℕ} {u : Bool} {cs' ws' : List ℕ} (r : RowsCall s own_constants own_parameters k p n a b u cs' ws') where
  pub mixed_file_refused : k ≢ 0 → (t : MixedAnswer) → t.refusal ≡ k → MixedRefused t → MixedFileCall s t
  unfolding judge
  mixed_file_refused h t e m = call_refused (e ∙ then_refused (closed fields s) (mixed_question s) k (own_refusal bytes r) h) (λ z. h (sym e ∙ z)) m

  module _ (ok : k ≡ 0) where
    same_refusal : mixed_refusal p n a b cs' ws' none ≡ first_refusal (closed fields s then mixed_question s)
    unfolding judge refusal mixed_refusal mixed_tests
    same_refusal =
        let z = own_sizes bytes r ok in
        sym (then_passed (model_tests p n a b cs' ws' none) _ (question n a b) (own_accepted bytes r ok) refl) ∙ then_passed (closed fields s) (mixed_question s) (question n a b) (judged bytes r ok) (same_question z.0 z.1 z.2)

    pub mixed_file_answered : (t : MixedAnswer) → MixedCall p n a b cs' ws' none t → MixedFileCall s t
    mixed_file_answered t h = call_as same_refusal (subst (λ (X : Mixed). MixedAnswered X t) (own_made bytes r ok by_elements)) h
      where
        by_elements : (p n a b : ℕ) (c w : ℕ → ℕ) → Mixed
        by_elements p n a b c w = record {
          K = residues (modulus p).0 (modulus p).1;
          m = a;
          n = n;
          Q = λ i x. res (modulus p).0 (modulus p).1 (c (i * n + x));
          T = λ r x. members (w r) x;
          indep = λ a n Q. independent (modulus p).0 (modulus p).1 a n Q;
          indep_iff = λ a n Q. independent_iff (modulus p).0 (modulus p).1 a n Q;
        }
