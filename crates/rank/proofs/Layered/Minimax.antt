-- The rank is the least sum, the short set has it, and a legal assignment with fewer columns than the rank can take one more. Assumes nothing.
use Rattle.std.specs.Prelude.{ℕ, ◌≤◌, ◌<◌, true, ◌≡◌}
use Rattle.std.proofs.Common.{inl, inr, sym, ◌∙◌, arith}
use Rattle.std.proofs.Math.Path.{fun_ext}
use Rattle.std.proofs.Math.Decide.{ℕ_discrete, dec_lt}
use Rattle.counting.specs.Bools.{not_true}
use Rattle.counting.specs.Sets.{Set}
use Rattle.counting.specs.Counts.{#-ext, set_other, set_same}
use Rattle.counting.specs.Choices.{Part}
use Rattle.rank.specs.Graph.States.{Placed, placed_iff, placed_of}
use Rattle.rank.specs.Graph.Closed.{Closed}
use Rattle.rank.specs.Graph.Layers.{layer, unplaced, unplaced_iff}
use Rattle.rank.specs.Graph.Search.{RouteFrom, found}
use Rattle.rank.specs.Layered.Model.{Assignment, Legal, Model, OneMoreThan, placing, size}
use Rattle.rank.specs.Layered.Rank.{placed, rank, short, sum}
use Rattle.rank.proofs.Layered.Duality.{rank_reached, size_le_sum}
use Rattle.rank.specs.Layered.Seating.{Good}
use Rattle.rank.proofs.Layered.Assignments.{assignment, assignment_legal, assignment_places}
use Rattle.rank.proofs.Layered.Augmenting.{OneMore, StateOf, augment}
use Rattle.rank.proofs.Layered.Realise.{realise}
use Rattle.rank.proofs.Layered.Optimal.{rank_placed, reach, reach_part, short_reach, sum_reach}
use Rattle.rank.proofs.Layered.ColumnOrder.{placed_legal}
use Rattle.rank.proofs.Layered.Offers.{finished}

module _ (M : Model) where
  open M use {K, a, b, n, Q, T, E}

  -- a valid state that places the placed set: its search from all unplaced columns meets no terminal column
  pub optimal : (s : StateOf M) × Good M s × Closed s (layer s (unplaced s) n)
  unfolding placed
  optimal =
      let p : (A : Assignment) × Legal M A × ((x : ℕ) → x < n → placing A x ≡ placed M x) = placed_legal M in
      let r : (s : StateOf M) × Good M s × ((x : ℕ) → x < n → placed_of s x ≡ placing p.0 x) = realise M p.0 p.1 in
      (r.0, r.1, finished M r.0 r.1 (λ x l. r.2 x l ∙ p.2 x l))

  short_is : short M ≡ reach M optimal.0 optimal.1
  short_is = fun_ext (short_reach M optimal.0 optimal.1 optimal.2)

  pub short_of_E : Part n E (short M)
  short_of_E = rw short_is (reach_part M optimal.0 optimal.1)

  pub sum_short : sum M (short M) ≡ rank M
  sum_short = rw short_is (sum_reach M optimal.0 optimal.1 optimal.2 ∙ sym (rank_placed M optimal.0 optimal.1 optimal.2))

  pub rank_le_sum : (J : Set) → rank M ≤ sum M J
  rank_le_sum J = let r : (A : Assignment) × Legal M A × (size M A ≡ rank M) = rank_reached M in omega (arith, r.2, size_le_sum M r.0 r.1 J)

  -- a legal assignment that places fewer columns than the rank is not the last word
  pub extends : (A : Assignment) → Legal M A → size M A < rank M → OneMoreThan M A
  extends A h l =
      let r : (s : StateOf M) × Good M s × ((x : ℕ) → x < n → placed_of s x ≡ placing A x) = realise M A h in
      elim (found r.0 (unplaced r.0)) [
        | inr c ↦ absurd (omega (arith, rank_placed M r.0 r.1 c, #-ext n (placed_of r.0) (placing A) r.2))
        | inl f ↦ more r f
      ]
    where
      more : (r : (s : StateOf M) × Good M s × ((x : ℕ) → x < n → placed_of s x ≡ placing A x)) → RouteFrom r.0 (unplaced r.0) → OneMoreThan M A
      more r f =
          let x : ℕ = f.source in
          let new : Placed r.0 x → ⊥ = (unplaced_iff r.0 x).0 f.is_source in
          let v : (s' : StateOf M) × Good M s' × OneMore r.0 s' x = augment M r.0 r.1 x f.length f.below new f.route in
          let B : Assignment = assignment M v.0 in
          let k : Legal M B = assignment_legal M v.0 v.1 in
          record {
            larger = B;
            is_legal = k;
            column = x;
            was_out = not_true (placing A x) (λ e. new ((placed_iff r.0 x).0 (r.2 x f.below ∙ e)));
            places = λ z. elim (dec_lt z n) [
              | yes lz ↦ assignment_places M v.0 z lz ∙ v.2 z lz ∙ elim (ℕ_discrete z x) [
                | yes e ↦ rw e (set_same (placed_of r.0) x true ∙ sym (set_same (placing A) x true))
                | no ne ↦ set_other (placed_of r.0) x true z ne ∙ r.2 z lz ∙ sym (set_other (placing A) x true z ne)
              ]
              | no nz ↦ not_true (placing B z) (λ e. nz (k.offered z e).0) ∙ sym (not_true (placing A z) (λ e. nz (h.offered z e).0))
                  ∙ sym (set_other (placing A) x true z (λ e. nz (rw e f.below)))
            ];
          }
