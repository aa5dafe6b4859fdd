-- Every legal assignment is the result of some list of steps, so demand 3 speaks of them all. Assumes nothing.
use Prim.Native.Nat.{ℕ, zero, suc, ◌≤◌, ◌<◌}
use Rattle.std.specs.Prelude.{◌≡◌, true}
use Rattle.std.proofs.Math.Path.{refl, ap}
use Rattle.std.proofs.Common.{sym, ◌∙◌, true≢false, inl, inr, arith}
use Rattle.std.proofs.Math.Bool.{false≢true}
use mathlib.Core.List.{List, [], ◌∷◌, ◌++◌}
use Rattle.std.proofs.Math.Decide.{ℕ_discrete, dec_lt}
use Rattle.counting.specs.Bools.{true?}
use Rattle.counting.specs.Sets.{◌∈◌, set}
use Rattle.counting.specs.Counts.{set_same, set_other}
use Rattle.counting.specs.ChoiceLaws.{cond_true, cond_false}
use Rattle.rank.specs.Layered.Model.{Model, out, Assignment, is_placed, placing, Legal}
use Rattle.rank.proofs.Layered.Meaning.{seat_cases}
use Rattle.rank.specs.StepsLaws.{named_iff, place_iff}
use Rattle.rank.specs.Steps.{Step, place, named, accepted, done, after, after_list, result}

module _ (M : Model) where
  open M use {b, n}

  after_last : (l : List Step) (t : Step) (A : Assignment) → after_list M (l ++ (t ∷ [])) A ≡ after M t (after_list M l A)
  unfolding after_list
  after_last [] t A = refl
  after_last (u ∷ l) t A = after_last l t (after M u A)

  module _ (A : Assignment) (h : Legal M A) where
    -- place the columns below m, from 0 upward, where A has them
    steps : ℕ → List Step
    steps zero = []
    steps (suc m) = steps m ++ (place m (A m) ∷ [])

    named_placed : (x : ℕ) → x ∈ placing A → named M (A x) ≡ true
    named_placed x p = (named_iff M (A x)).1 (seat_cases (A x) (λ e. absurd (true≢false (sym p ∙ ap is_placed e))) (λ e. inl e) (λ r e. inr (r, (h.parameter x r e).0, e)))

    -- after m steps the columns below m have their seats
    record Ready (m : ℕ) (B : Assignment) : Type 0 where
      ready : (x : ℕ) → x < m → B x ≡ A x
      rest : (x : ℕ) → m ≤ x → B x ≡ out

    next_placed : (m : ℕ) (B : Assignment) → Ready m B → m ∈ placing A → after M (place m (A m)) B ≡ set B m (A m)
    unfolding after done
    next_placed m B r p = cond_true (accepted M (place m (A m)) B) (set B m (A m)) B ((place_iff M m (A m) B).1 ((h.offered m p).0, named_placed m p, ap is_placed (r.rest m (omega arith))))

    next_out : (m : ℕ) (B : Assignment) → A m ≡ out → after M (place m (A m)) B ≡ B
    unfolding after done named
    next_out m B o = cond_false (accepted M (place m (A m)) B) (set B m (A m)) B (λ e. false≢true (sym (ap (named M) o) ∙ ((place_iff M m (A m) B).0 e).1))

    next : (m : ℕ) (B : Assignment) → Ready m B → Ready (suc m) (after M (place m (A m)) B)
    next m B r = elim (true? (placing A m)) [
      | yes p ↦ rw (next_placed m B r p) (record {
        ready = λ x l. elim (ℕ_discrete x m) [ yes d ↦ rw (d, set_same) | no nd ↦ set_other B m (A m) x nd ∙ r.ready x (omega arith) ];
        rest = λ x l. set_other B m (A m) x (omega arith) ∙ r.rest x (omega arith);
      })
      | no np ↦
          let o : A m ≡ out = seat_cases (A m) (λ e. e) (λ e. absurd (np (ap is_placed e))) (λ r e. absurd (np (ap is_placed e))) in
          rw (next_out m B o) (record {
            ready = λ x l. elim (ℕ_discrete x m) [ yes d ↦ rw d (r.rest m (omega arith) ∙ sym o) | no nd ↦ r.ready x (omega arith) ];
            rest = λ x l. r.rest x (omega arith);
          })
    ]

    all_ready : (m : ℕ) → Ready m (result M (steps m))
    unfolding steps after_list
    all_ready zero = record { ready = λ x l. absurd (omega arith); rest = λ x l. refl }
    all_ready (suc m) = rw (after_last (steps m) (place m (A m)) (λ x. out)) (next m (result M (steps m)) (all_ready m))

    pub reached_by : (l : List Step) × ((x : ℕ) → result M l x ≡ A x)
    reached_by = (
      steps n,
      λ x. elim (dec_lt x n) [
        | yes l ↦ (all_ready n).ready x l
        | no nl ↦ (all_ready n).rest x (omega arith)
            ∙ sym (seat_cases (A x) (λ e. e) (λ e. absurd (nl (h.offered x (ap is_placed e)).0)) (λ r e. absurd (nl (h.offered x (ap is_placed e)).0)))
      ],
    )
