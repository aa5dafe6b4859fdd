-- The constant rank of a set is the least number of rows that touch it, over the tableaus with the kernel of the constants. Assumes nothing.
use Rattle.std.specs.Prelude.{ℕ, ◌≤◌, ◌<◌, true, ◌≢◌, ◌≡◌, refl}
use Rattle.std.proofs.Common.{true≢false, sym, ◌∙◌, ap, subst, arith}
use Rattle.std.proofs.Math.Decide.{ℕ_discrete, dec_lt}
use Rattle.counting.specs.Bools.{true?}
use Rattle.counting.specs.Sets.{#, Set, Some, ◌∈◌, ◌⊆◌, set, touching}
use Rattle.counting.specs.Counts.{#-insert, Touching, set_other, touching_iff}
use Rattle.counting.specs.Injections.{inj_count}
use Rattle.counting.specs.Choices.{Part}
use Rattle.rank.specs.Linear.Independence.{Indep}
use Rattle.rank.specs.Linear.Kernels.{Same, hits, hits_iff, indep_count, indep_sub, same_indep, same_sym}
use Rattle.rank.specs.Linear.Tableaus.{exchange_indep, owned, owned_iff}
use Rattle.rank.specs.Layered.Model.{Assignment, Legal, Model, constant, is_constant, is_placed, row}
use Rattle.rank.specs.Layered.Rank.{constant_rank}
use Rattle.rank.proofs.Layered.Meaning.{constant_rank_at, constant_rank_le}
use Rattle.rank.proofs.Layered.Restricting.{constant_placed, keep, keep_placed, keep_true}
use Rattle.rank.specs.Layered.Seating.{Good}
use Rattle.rank.proofs.Layered.Assignments.{assignment, assignment_owned, constant_owner, row_seat_placed}
use Rattle.rank.proofs.Layered.Augmenting.{StateOf}
use Rattle.rank.proofs.Layered.Realise.{realise_exactly}

module _ (M : Model) where
  open M use {K, a, b, n, Q, T, E}
  open K use {F}

  -- the constant rank of J is at most the number of rows that touch J, in any tableau
  pub constant_rank_rows : (P : ℕ → ℕ → F) → Same K a n Q P → (J : Set) → constant_rank M J ≤ # a (touching n (hits K P) J)
  constant_rank_rows P same J =
      let S : (S : Set) × Part n J S × Indep K a n Q S × (# n S ≡ constant_rank M J) = constant_rank_at M J in
      omega (arith, S.3, indep_count {P = P} {S = S.0} {T = J} (same_indep same S.2) (λ x e. (S.1 x e).1))

-- a tableau in which the rows that touch J are no more than the constant rank of J
module _ (M : Model) (J : Set) (p : Part M.n M.E J) where
  open M use {K, a, b, n, Q, T, E}
  open K use {F, 𝟘, 𝟙}

  pub rank_tableau : (P : ℕ → ℕ → F) × Same K a n Q P × (# a (touching n (hits K P) J) ≤ constant_rank M J)
  rank_tableau = (
    g.P,
    g.kernel,
    omega (
      arith,
      B.3,
      inj_count a n (touching n (hits K g.P) J) S (λ q x. s.owner q ≡ x)
          (record { total = total; one_one = λ q r x lq lr lx e e'. s.owns_one q r (omega arith) (omega arith) (omega arith) (e ∙ sym e') }),
    ),
  )
    where
      B : (S : Set) × Part n J S × Indep K a n Q S × (# n S ≡ constant_rank M J)
      B = constant_rank_at M J

      S : Set
      S = B.0

      A : Assignment
      A x = keep (S x) constant

      A_in : (x : ℕ) → is_placed (A x) ≡ true → x ∈ S
      A_in x e = (keep_placed (S x) constant e).0

      A_at : (x : ℕ) → x ∈ S → A x ≡ constant
      A_at x e = keep_true (S x) constant e

      no_row : (x r : ℕ) → A x ≡ row r → ⊥
      no_row x r e = true≢false (ap is_constant (sym (A_at x (A_in x (ap is_placed e))) ∙ e))

      h : Legal M A
      h = record {
        offered = λ x e. ((B.1 x (A_in x e)).0, (p x (B.1 x (A_in x e)).1).1);
        independent = indep_sub {T = S} (λ x e. A_in x (constant_placed (A x) e)) B.2;
        parameter = λ x r e. absurd (no_row x r e);
        one_each = λ x y r e. absurd (no_row x r e);
      }

      real : (s : StateOf M) × Good M s × ((x : ℕ) → assignment M s x ≡ A x)
      real = realise_exactly M A h

      s : StateOf M
      s = real.0

      g : Good M s
      g = real.1

      owner_of : (x : ℕ) → x ∈ S → Some a (λ q. s.owner q ≡ x)
      owner_of x e = (constant_owner M s x (ap is_constant (real.2 x ∙ A_at x e))).1

      S_owned : S ⊆ owned a s.owner
      S_owned x e = (owned_iff a s.owner x).1 (owner_of x e)

      part : (x : ℕ) → x < n → x ∈ J → Part n J (set S x true)
      part x l j y e = elim (ℕ_discrete y x) [ yes d ↦ rw d (l, j) | no nd ↦ B.1 y (sym (set_other S x true y nd) ∙ e) ]

      -- a row that touches J has an owner
      taken_row : (q x : ℕ) → q < a → x < n → x ∈ J → g.P q x ≢ 𝟘 → s.owner q < n
      taken_row q x lq lx j nz = elim (dec_lt (s.owner q) n) [
        | yes lo ↦ lo
        | no nlo ↦ elim (true? (S x)) [
          | yes e ↦
              let w : Some a (λ q. s.owner q ≡ x) = owner_of x e in
              elim (ℕ_discrete q w.0) [
                | yes d ↦ absurd (nlo (rw (d, w.2) lx))
                | no nd ↦ absurd (nz (subst (λ (z : ℕ). g.P q z ≡ 𝟘) w.2 (g.tableau.off w.0 q w.1 lq (rw w.2 lx) nd)))
              ]
          | no ne ↦ absurd (omega (
            arith,
            B.3,
            #-insert n S x lx ne,
            constant_rank_le M J (set S x true) (part x lx j) (same_indep (same_sym g.kernel) (exchange_indep g.tableau S S_owned q x lq lx nz (λ e. nlo (B.1 (s.owner q) e).0))),
          ))
        ]
      ]

      total : (q : ℕ) → q < a → q ∈ touching n (hits K g.P) J → Some n (λ x. (x ∈ S) × (s.owner q ≡ x))
      total q lq e =
          let w : Touching n (hits K g.P) J q = (touching_iff n (hits K g.P) J q).0 e in
          let lo : s.owner q < n = taken_row q w.0 lq w.1 w.2.0 ((hits_iff K g.P q w.0).0 w.2.1) in
          (s.owner q, lo, (A_in (s.owner q) (ap is_placed (sym (real.2 (s.owner q)) ∙ assignment_owned M s (s.owner q) q lo (omega arith) refl) ∙ row_seat_placed M q), refl))
