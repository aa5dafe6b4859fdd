-- A file read into a call's own areas: the question about what was read, and its answer, are those of the file's model. Assumes nothing.
use Prim.Native.Nat.{ℕ, ◌+◌, ◌*◌}
use mathlib.Core.Path.{◌≡◌, refl, subst}
use mathlib.Core.Bool.{Bool, true}
use mathlib.Core.List.{List}
use Rattle.residue.specs.Residues.{res}
use Rattle.columns.specs.Columns.{members}
use Rattle.columns.specs.Words.Bytes.{AreBytes}
use Rattle.rank.specs.Modulus.{modulus}
use Rattle.listed_models.specs.ModelModulo.{model_modulo}
use Rattle.listed_models.specs.ListedModel.{listed_model}
use Rattle.rank.specs.Layered.Model.{Model}
use Rattle.degrees.specs.Degrees.{listed_powers}
use Rattle.format.specs.Refusals.{◌then◌, first_refusal}
use Rattle.format.specs.RefusalLaws.{then_passed}
use Rattle.format.specs.File.Piece.{closed}
use Rattle.format.specs.File.Format.{RowsCall, fields, judge}
use Rattle.layered.specs.Answers.{RankCall}
use Rattle.layered.proofs.FileLaws.{call_as, judged, own_constants, own_parameters, own_made}
use Rattle.std.specs.Prelude.{Err}
use Rattle.format.specs.declared.refusals.Refusal.{Refusal}
use Rattle.degree.specs.Shown.{Degree, degree_shown}
use Rattle.degree.specs.Answers.{power_areas, degree_question, file_question, DegreeRefused, DegreeAnswered, DegreeFileCall}

-- a refusal says nothing else
pub degree_refused : (e : Refusal) → DegreeRefused (degree_shown (Err e))
degree_refused e = record { no_degree = refl; none_on_the_side = refl; no_columns = refl }

-- the call about a model of which the sizes and the areas' elements are read
abbrev pub ReadCall : (M : Model) (rp cp pp : List ℕ) → Degree → Type 0
ReadCall M rp cp pp r =
    RankCall (first_refusal (power_areas M.n M.a M.b rp cp pp then degree_question M (listed_powers M.n rp cp pp))) r.refusal (DegreeRefused r)
    (DegreeAnswered M (listed_powers M.n rp cp pp) r)

module _ {s : List ℕ} (bytes : AreBytes s) {k p n a b : ℕ} {t : Bool} {cs' ws' : List ℕ} (call : RowsCall s own_constants own_parameters k p n a b t cs' ws') (ok : k ≡ 0)
    (rp cp pp : List ℕ) (r : Degree) where
  -- is the call about the file
  pub own_call : ReadCall (listed_model p n a b cs' ws') rp cp pp r → DegreeFileCall s rp cp pp r
  unfolding judge
  own_call c = call_as (then_passed (closed fields s) (file_question s rp cp pp) _ (judged bytes call ok) refl) (λ x. x) (subst (λ (X : Type 0). X) (own_made bytes call ok by_elements) c)
    where
      by_elements : (p n a b : ℕ) (c w : ℕ → ℕ) → Type 0
      by_elements p n a b c w = ReadCall (model_modulo (modulus p).0 (modulus p).1 n a b (λ i y. res (modulus p).0 (modulus p).1 (c (i * n + y))) (λ i y. members (w i) y) (λ x. true)) rp cp pp r
