-- A file read into a call's own areas: the question about what was read, and its answer, are those of the file's model. Assumes nothing.
use Prim.Native.Nat.{ℕ, ◌+◌, ◌*◌}
use mathlib.Core.Path.{◌≡◌, ap, subst}
use mathlib.Core.Bool.{Bool}
use mathlib.Core.List.{List}
use Rattle.residue.specs.Residues.{res}
use Rattle.columns.specs.Columns.{members}
use Rattle.columns.specs.Words.Bytes.{AreBytes}
use Rattle.rank.specs.Modulus.{modulus}
use Rattle.listed_models.specs.ListedModel.{listed_model}
use Rattle.rank.specs.Layered.Model.{Model}
use Rattle.format.specs.Refusals.{first_refusal}
use Rattle.format.specs.File.Format.{RowsCall}
use Rattle.layered.specs.FileModel.{file_model}
use Rattle.layered.proofs.FileLaws.{own_constants, own_parameters, own_made, own_model}
use Rattle.reason.specs.Shown.{Reason}
use Rattle.reason.specs.Answers.{reason_question, ReasonShown, ReasonAnswered, FileReason}

module _ {s : List ℕ} (bytes : AreBytes s) {k p n a b : ℕ} {t : Bool} {cs' ws' : List ℕ} (call : RowsCall s own_constants own_parameters k p n a b t cs' ws') (ok : k ≡ 0) (x : ℕ) where
  pub own_question : first_refusal (reason_question (listed_model p n a b cs' ws') x) ≡ first_refusal (reason_question (file_model s) x)
  own_question = ap (λ (M : Model). first_refusal (reason_question M x)) (own_model bytes call ok)

  pub own_shown : (r : Reason) → ReasonAnswered p n a b cs' ws' x r → FileReason s x r
  own_shown r = subst (λ (X : Type 0). X) (own_made bytes call ok by_elements)
    where
      by_elements : (p n a b : ℕ) (c w : ℕ → ℕ) → Type 0
      by_elements p n a b c w = ReasonShown p n a b (λ i y. res (modulus p).0 (modulus p).1 (c (i * n + y))) (λ i y. members (w i) y) x r
