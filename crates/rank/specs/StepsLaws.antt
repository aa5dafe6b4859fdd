-- What the tests of `Steps` say: which seats a step may name, and which steps are not refused. Assumes nothing.
use Rattle.std.specs.Prelude.{ℕ, ◌<◌, ◌≡◌, false, not, ◌&&◌, ◌↔◌, ◌⊎◌}
use Rattle.std.proofs.Math.Path.{refl, ap}
use Rattle.std.proofs.Math.Bool.{true, decide, decide_iff}
use Rattle.std.proofs.lemmas.Bool.{false≢true}
use Rattle.std.proofs.Math.Logic.{inl, inr}
use Rattle.std.proofs.Math.Decide.{dec_lt}
use Rattle.counting.specs.Bools.{and_in, and_left, and_right, not_in, in_not}
use Rattle.rank.specs.Layered.Model.{Model, Seat, out, constant, row, Assignment, is_placed, is_constant, placing}
use Rattle.rank.specs.Steps.{place, remove, move, named, accepted}

module _ (M : Model) where
  open M use {b, n}

  -- a step names the constant side, or a row below b
  pub named_iff : (s : Seat) → (named M s ≡ true) ↔ ((s ≡ constant) ⊎ ((r : ℕ) × (r < b) × (s ≡ row r)))
  unfolding named
  named_iff out = (λ e. absurd (false≢true e), λ w. elim w [ inl e ↦ ap is_placed e | inr v ↦ ap is_placed v.2 ])
  named_iff constant = (λ e. inl refl, λ w. refl)
  named_iff (row q) = (
    λ e. inr (q, (decide_iff (dec_lt q b)).0 e, refl),
    λ w. elim w [ inl e ↦ absurd (false≢true (ap is_constant e)) | inr v ↦ let d : q ≡ v.0 = cc in (decide_iff (dec_lt q b)).1 (rw d v.1) ],
  )

  -- a step that places is not refused where its column is below n and out, and it names a seat
  pub place_iff : (x : ℕ) (s : Seat) (A : Assignment) → (accepted M (place x s) A ≡ true) ↔ ((x < n) × (named M s ≡ true) × (placing A x ≡ false))
  unfolding accepted
  place_iff x s A = (
    λ e. let f : (decide (dec_lt x n) && named M s) ≡ true = and_left (decide (dec_lt x n) && named M s) (not (placing A x)) e in
        ((decide_iff (dec_lt x n)).0 (and_left (decide (dec_lt x n)) (named M s) f), and_right (decide (dec_lt x n)) (named M s) f, not_in (placing A x) (and_right (decide (dec_lt x n) && named M s) (not (placing A x)) e)),
    λ w. and_in (and_in ((decide_iff (dec_lt x n)).1 w.0) w.1) (in_not (placing A x) w.2),
  )

  -- one that removes, where its column is below n and placed
  pub remove_iff : (x : ℕ) (A : Assignment) → (accepted M (remove x) A ≡ true) ↔ ((x < n) × (placing A x ≡ true))
  unfolding accepted
  remove_iff x A = (
    λ e. ((decide_iff (dec_lt x n)).0 (and_left (decide (dec_lt x n)) (placing A x) e), and_right (decide (dec_lt x n)) (placing A x) e),
    λ w. and_in ((decide_iff (dec_lt x n)).1 w.0) w.1,
  )

  -- one that moves, where its column is below n and placed, and it names a seat
  pub move_iff : (x : ℕ) (s : Seat) (A : Assignment) → (accepted M (move x s) A ≡ true) ↔ ((x < n) × (named M s ≡ true) × (placing A x ≡ true))
  unfolding accepted
  move_iff x s A = (
    λ e. let f : (decide (dec_lt x n) && named M s) ≡ true = and_left (decide (dec_lt x n) && named M s) (placing A x) e in
        ((decide_iff (dec_lt x n)).0 (and_left (decide (dec_lt x n)) (named M s) f), and_right (decide (dec_lt x n)) (named M s) f, and_right (decide (dec_lt x n) && named M s) (placing A x) e),
    λ w. and_in (and_in ((decide_iff (dec_lt x n)).1 w.0) w.1) w.2,
  )
