-- The idle rows of a form, gathered row by row. Assumes nothing.
use Rattle.std.proofs.Common.{ℕ, List, ◌+◌, ◌<◌, get_or, arith}
use mathlib.Core.Logic.{◌↔◌, inl, inr}
use native.Mathlib.Decide.{ℕ_discrete}
use Rattle.counting.specs.Sets.{Set, ◌∈◌}
use Rattle.columns.specs.Columns.{width, inserted}
use Rattle.columns.specs.Words.SetLaws.{inserted_same, inserted_old, inserted_split}
use Rattle.mixed.specs.MixedForm.{serves}

-- the idle rows below k
abbrev pub Idle : ℕ → List ℕ → ℕ → Set → Type 0
Idle m rows k S = (i : ℕ) → (i ∈ S) ↔ ((i < k) × (serves m (get_or rows i 0) → ⊥))

pub idle_more : (m : ℕ) (rows : List ℕ) (k : ℕ) (S : Set) → k < width → (serves m (get_or rows k 0) → ⊥) → Idle m rows k S → Idle m rows (k + 1) (inserted S k)
idle_more m rows k S l idle h i = (
  (λ e. elim (inserted_split S k i e) [ inl z ↦ rw z (omega arith, idle) | inr o ↦ let w = (h i).0 o in (omega (arith, w.0), w.1) ]),
  λ w. elim (ℕ_discrete i k) [ yes z ↦ rw z (inserted_same S k l) | no nz ↦ inserted_old S k i ((h i).1 (omega (arith, w.0), w.1)) ],
)

pub idle_same : (m : ℕ) (rows : List ℕ) (k : ℕ) (S : Set) → serves m (get_or rows k 0) → Idle m rows k S → Idle m rows (k + 1) S
idle_same m rows k S busy h i = (
  (λ e. let w = (h i).0 e in (omega (arith, w.0), w.1)),
  λ w. (h i).1 (elim (ℕ_discrete i k) [ yes z ↦ absurd (w.1 (rw z busy)) | no nz ↦ omega (arith, w.0) ], w.1),
)
