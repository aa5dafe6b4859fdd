-- For the program: what holds of its state after each column that is offered, and at the end. Assumes nothing.
use Rattle.std.specs.Prelude.{ℕ, suc, ◌<◌, ◌≡◌}
use Rattle.std.proofs.Math.Bool.{true}
use Rattle.std.proofs.Math.Logic.{inl, inr}
use Rattle.std.proofs.Math.Path.{sym}
use Rattle.std.proofs.Common.{◌∙◌, ap}
use Rattle.std.proofs.Math.Decide.{ℕ_discrete}
use native.Mathlib.Omega.{arith}
use Rattle.counting.specs.Bools.{iff_eq, not_true}
use Rattle.counting.specs.Sets.{#, Set, set}
use Rattle.counting.specs.Counts.{#-ext, set_other, set_same}
use Rattle.counting.specs.Injections.{#-strict}
use Rattle.rank.specs.Graph.States.{Placed, SamePlaced, placed_iff, placed_of}
use Rattle.rank.specs.Graph.Closed.{Closed}
use Rattle.rank.specs.Graph.Layers.{layer, unplaced, unplaced_iff}
use Rattle.rank.specs.Graph.Search.{found}
use Rattle.rank.specs.Layered.Model.{Assignment, Legal, Model, placing}
use Rattle.rank.specs.Layered.Rank.{placeable, placed, rank, short, taken}
use Rattle.rank.proofs.Layered.Meaning.{placeable_iff}
use Rattle.rank.proofs.Layered.Duality.{size_le_rank}
use Rattle.rank.specs.Layered.Valid.{state}
use Rattle.rank.specs.Layered.Seating.{Good, empty_valid}
use Rattle.rank.proofs.Layered.Assignments.{assignment, assignment_legal, assignment_places, assignment_size}
use Rattle.rank.proofs.Layered.Augmenting.{OneMore, StateOf, augment, failing, only}
use Rattle.rank.proofs.Layered.Optimal.{rank_placed, reach, short_reach}
use Rattle.rank.proofs.Layered.ColumnOrder.{placed_size, taken_below, taken_no, taken_yes}

module _ (M : Model) where
  open M use {K, a, b, n, Q, T, E}

  -- s places what is taken of the columns below j
  abbrev pub Offered : StateOf M → ℕ → Type 0
  Offered s j = (x : ℕ) → x < n → placed_of s x ≡ taken M j x

  pub offered_none : Offered (state M Q (λ q. n) (empty_valid M)) 0
  unfolding state taken
  offered_none x l = not_true _ (λ e. let w : Placed (state M Q (λ q. n) (empty_valid M)) x = (placed_iff (state M Q (λ q. n) (empty_valid M)) x).0 e in omega (arith, w.2))

  -- moves change nothing
  pub offered_same : (s s' : StateOf M) (j : ℕ) → SamePlaced s s' → Offered s j → Offered s' j
  offered_same s s' j p o x l = iff_eq (placed_of s' x) (placed_of s x) (λ e. (placed_iff s x).1 ((p x l).1 ((placed_iff s' x).0 e))) (λ e. (placed_iff s' x).1 ((p x l).0 ((placed_iff s x).0 e))) ∙ o x l

  pub offered_new : (s : StateOf M) (j : ℕ) → j < n → Offered s j → Placed s j → ⊥
  offered_new s j l o w = omega (arith, taken_below M j j (sym (o j l) ∙ (placed_iff s j).1 w))

  module _ (s : StateOf M) (g : Good M s) (j : ℕ) (l : j < n) (o : Offered s j) where
    -- column j was placed besides
    pub took : (s' : StateOf M) → Good M s' → OneMore s s' j → Offered s' (suc j)
    took s' g' m x lx = same x lx ∙ sym (ap (λ (S : Set). S x) (taken_yes M j there))
      where
        same : (x : ℕ) → x < n → placed_of s' x ≡ set (taken M j) j true x
        same x lx = m x lx ∙ elim (ℕ_discrete x j) [
          | yes e ↦ rw e (set_same (placed_of s) j true ∙ sym (set_same (taken M j) j true))
          | no ne ↦ set_other (placed_of s) j true x ne ∙ o x lx ∙ sym (set_other (taken M j) j true x ne)
        ]

        there : placeable M (set (taken M j) j true) ≡ true
        there = (placeable_iff M (set (taken M j) j true)).1 (assignment M s', assignment_legal M s' g', λ x lx. assignment_places M s' x lx ∙ same x lx)

    -- the search from column j ended without a terminal
    pub passed : Closed s (layer s (only j) n) → Offered s (suc j)
    passed c x lx = o x lx ∙ sym (ap (λ (S : Set). S x) (taken_no M j (not_true _ (λ e.
        let w : (A : Assignment) × Legal M A × ((x : ℕ) → x < n → placing A x ≡ set (taken M j) j true x) = (placeable_iff M (set (taken M j) j true)).0 e in
        failing M s g j l (offered_new s j l o) c w.0 w.1
        (λ y ly p. w.2 y ly ∙ set_other (taken M j) j true y (λ d. offered_new s j l o (rw d at p)) ∙ sym (o y ly) ∙ (placed_iff s y).1 p)
        (w.2 j l ∙ set_same (taken M j) j true)))))

  -- after the last column
  module _ (s : StateOf M) (g : Good M s) (o : Offered s n) where
    pub finished : Closed s (layer s (unplaced s) n)
    unfolding placed
    finished = elim (found s (unplaced s)) [
      | inr c ↦ c
      | inl f ↦
          let v : (s' : StateOf M) × Good M s' × OneMore s s' f.source = augment M s g f.source f.length f.below ((unplaced_iff s f.source).0 f.is_source) f.route in
          absurd (omega (
            arith,
            size_le_rank M (assignment M v.0) (assignment_legal M v.0 v.1),
            assignment_size M v.0,
            placed_size M,
            #-ext n (placed_of s) (placed M) o,
            #-strict n (placed_of s) (placed_of v.0) (λ x l e. v.2 x l ∙ elim (ℕ_discrete x f.source) [ yes d ↦ rw (d, set_same) | no nd ↦ set_other (placed_of s) f.source true x nd ∙ e ])
                f.source f.below (v.2 f.source f.below ∙ set_same (placed_of s) f.source true) (λ e. (unplaced_iff s f.source).0 f.is_source ((placed_iff s f.source).0 e)),
          ))
    ]

    -- the answer, read off the state
    pub record StateAnswers : Type 0 where
      pub is_rank : rank M ≡ # n (placed_of s)
      pub is_placed_set : (x : ℕ) → x < n → placed M x ≡ placed_of s x
      pub is_legal : Legal M (assignment M s)
      pub places_it : (x : ℕ) → x < n → placing (assignment M s) x ≡ placed M x
      pub is_short : (x : ℕ) → short M x ≡ reach M s g x

    pub state_answers : StateAnswers
    unfolding placed
    state_answers = record {
      is_rank = rank_placed M s g finished;
      is_placed_set = λ x l. sym (o x l);
      is_legal = assignment_legal M s g;
      places_it = λ x l. assignment_places M s x l ∙ o x l;
      is_short = short_reach M s g finished;
    }
