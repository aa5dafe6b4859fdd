-- The mixed rank is the rank of the layered form less m, and a largest assignment of the form shows an I and a J that reach it. Assumes nothing.
use Rattle.std.specs.Prelude.{◌+◌, ◌≤◌, ◌≡◌}
use Rattle.std.proofs.Common.{arith}
use Rattle.rank.specs.Layered.Model.{Assignment, Legal, size}
use Rattle.rank.specs.Layered.Rank.{rank}
use Rattle.rank.proofs.Layered.Duality.{rank_reached}
use Rattle.mixed_models.specs.Mixed.{Mixed, mixed_sum, mixed_rank, layered_form, shown_I, shown_J}
use Rattle.mixed_models.proofs.MixedTheorem.FromRows.{form_at_least}
use Rattle.mixed_models.proofs.MixedTheorem.FromForm.{form_bound, shown_le}
pub mod Form
pub mod FromRows
pub mod FromForm

module _ (X : Mixed) where
  open X use {m}

  pub form_at_most : rank (layered_form X) ≤ m + mixed_rank X
  form_at_most =
      let r : (A : Assignment) × Legal (layered_form X) A × (size (layered_form X) A ≡ rank (layered_form X)) = rank_reached (layered_form X) in
      omega (arith, r.2, form_bound X r.0 r.1, shown_le X r.0 r.1)

  -- the mixed rank is the form's rank less m
  pub form_rank : rank (layered_form X) ≡ m + mixed_rank X
  form_rank = omega (arith, form_at_least X, form_at_most)

  -- and a largest assignment of the form shows an I and a J that reach it
  pub shown_reach : (A : Assignment) → Legal (layered_form X) A → size (layered_form X) A ≡ rank (layered_form X)
      → mixed_sum X (shown_I X A) (shown_J X A) ≡ mixed_rank X
  shown_reach A h e = omega (arith, form_rank, form_bound X A h, shown_le X A h)
