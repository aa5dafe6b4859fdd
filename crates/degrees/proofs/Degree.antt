-- What the definition of the degree says: it bounds every total, and a legal assignment that places all columns reaches it. Assumes nothing.
use Rattle.std.specs.Prelude.{ℕ, ◌<◌, ◌≤◌, ◌&&◌, Bool, cond, true, ◌⊎◌, refl, ◌≡◌}
use Rattle.std.proofs.Math.Logic.{inl, inr}
use Rattle.std.proofs.Common.{⊎_elim, ◌∙◌}
use Rattle.std.proofs.Math.Path.{ap, sym}
use native.Mathlib.Omega.{arith}
use Rattle.counting.specs.Bools.{and_in, and_left, and_right, true?}
use Rattle.counting.specs.ChoiceLaws.{Chosen, cond_false, cond_true, largest_at, largest_le}
use Rattle.counting.specs.Counts.{#-le, all_iff}
use Rattle.counting.specs.Injections.{#-strict}
use Rattle.counting.specs.Sets.{all}
use Rattle.rank.proofs.Layered.Duality.{rank_reached}
use Rattle.rank.specs.Layered.Model.{Model, Assignment, Legal, Seat, legal, placing, size}
use Rattle.rank.specs.Layered.Rank.{largest_assignment, last_seat, rank, seat}
use Rattle.rank.proofs.Layered.Meaning.{chosen_seats, legal_seats, legal_true, seat_cases, seats_chosen, true_legal}
use Rattle.degrees.specs.Degrees.{Powers, AllPlaced, degree, power_at, weight}
use Rattle.degrees.specs.Totals.{total_ext, total_zero}

module _ (M : Model) (W : Powers) where
  open M use {b, n, T}

  -- as many columns as there are
  pub size_full : (A : Assignment) → size M A ≡ n → AllPlaced M A
  size_full A e x l = elim (true? (placing A x)) [
    | yes s ↦ s
    | no ns ↦ absurd (omega (arith, #-strict n (placing A) (λ y. true) (λ y m s. refl) x l refl ns, #-le n (λ y. true)))
  ]

  -- what the test of the definition tests
  abbrev test : Assignment → Bool
  test A = legal M A && all n (placing A)

  abbrev tested : Assignment → ℕ
  tested A = cond (test A) (weight M W A) 0

  pub degree_bounds : (A : Assignment) → Legal M A → AllPlaced M A → weight M W A ≤ degree M W
  unfolding degree largest_assignment
  degree_bounds A l f = omega (
    arith,
    largest_le seat (last_seat M) n tested A (seats_chosen M A (legal_seats M A l)),
    cond_true (test A) (weight M W A) 0 (and_in (legal_true M A l) ((all_iff n (placing A)).1 f)),
  )

  abbrev pub Reached : Type 0
  Reached = (A : Assignment) × Legal M A × AllPlaced M A × (weight M W A ≡ degree M W)

  -- such an assignment reaches it, or there is none
  pub degree_cases : Reached ⊎ (degree M W ≡ 0)
  unfolding degree largest_assignment
  degree_cases =
      let m : (A : Assignment) × Chosen seat (last_seat M) n A × (tested A ≡ degree M W) = largest_at seat (last_seat M) n tested in
      let A : Assignment = m.0 in
      elim (true? (test A)) [
        | yes t ↦ inl (
          A,
          true_legal M A (chosen_seats M A m.1) (and_left (legal M A) (all n (placing A)) t),
          (all_iff n (placing A)).0 (and_right (legal M A) (all n (placing A)) t),
          sym (cond_true (test A) (weight M W A) 0 t) ∙ m.2,
        )
        | no nt ↦ inr (sym m.2 ∙ cond_false (test A) (weight M W A) 0 nt)
      ]

  pub degree_reached : rank M ≡ n → Reached
  degree_reached e =
      let w : (A : Assignment) × Legal M A × (size M A ≡ rank M) = rank_reached M in
      let f : AllPlaced M w.0 = size_full w.0 (w.2 ∙ e) in
      ⊎_elim (λ r. r) (λ z. (w.0, w.1, f, omega (arith, degree_bounds w.0 w.1 f))) degree_cases

  -- without powers no legal assignment has a total
  module _ (no_rows : (h : ℕ) → h < M.a → W.row_power h ≡ 0) (no_columns : (x : ℕ) → x < n → W.column_power x ≡ 0)
      (no-parameters : (r x : ℕ) → r < b → x < n → T r x ≡ true → W.power r x ≡ 0) where
    no_power : (A : Assignment) → Legal M A → (x : ℕ) → x < n → power_at W x (A x) ≡ 0
    unfolding power_at
    no_power A l x lx = seat_cases (A x)
        (λ e. ap (λ (s : Seat). power_at W x s) e)
        (λ e. ap (λ (s : Seat). power_at W x s) e ∙ no_columns x lx)
        (λ r e. ap (λ (s : Seat). power_at W x s) e ∙ no-parameters r x (l.parameter x r e).0 lx (l.parameter x r e).1)

    no_weight : (A : Assignment) → Legal M A → weight M W A ≡ 0
    unfolding weight
    no_weight A l = omega (
      arith,
      total_ext M.a W.row_power (λ h. 0) no_rows,
      total_ext n (λ x. power_at W x (A x)) (λ x. 0) (no_power A l),
      total_zero M.a,
      total_zero n,
    )

    pub degree_zero : degree M W ≡ 0
    degree_zero = ⊎_elim (λ w. sym w.3 ∙ no_weight w.0 w.1) (λ e. e) degree_cases
