-- Document 02, E14: what is proved of the degree, of every model over any field, and of the descent that finds it. Assumes nothing.
use Rattle.std.specs.Prelude.{◌*◌, ◌+◌, ◌<◌, ℕ, ◌≤◌, true, List, ◌≢◌, ◌≡◌}
use Rattle.std.proofs.Math.Path.{fun_ext}
use Rattle.std.proofs.Common.{subst, sym, ◌∙◌, arith}
use Rattle.counting.specs.Counts.{#-ext}
use Rattle.counting.specs.Sets.{Set}
use Rattle.rank.proofs.Layered.ColumnOrder.{placed_size}
use Rattle.rank.specs.Layered.Model.{Model, Assignment, Legal, placing, size}
use Rattle.rank.specs.Layered.Rank.{placed, rank, sum}
use Rattle.exchange.specs.Reduction.{reduced}
use Rattle.exchange.specs.Solution.{Solved, shown}
use Rattle.degrees.specs.Bound.{bound, reached}
use Rattle.degrees.proofs.Degree.{Reached, degree_bounds, degree_reached, degree_zero, size_full}
use Rattle.rank.specs.Totals.{total}
use Rattle.degrees.specs.Degrees.{Powers, AllPlaced, degree, weight}
use Rattle.degrees.specs.Dynamics.{Dynamic, layered, powers}
use Rattle.degrees.specs.Elimination.{Marked, eliminate, eliminated_as}
use Rattle.degrees.specs.Levels.{AfterRounds, Eliminated, Levelled, Room, raised, tight, touched}
use Rattle.degrees.specs.Pivots.{Agree}
use Rattle.degrees.proofs.Rounds.{last_weight, rounds_few, rounds_next, rounds_start, short_below}
use Rattle.degrees.specs.TightPart.{tight_legal}

module _ (M : Model) (W : Powers) where
  -- No legal assignment that places all n columns exceeds the degree,
  pub none_exceeds_the_degree : (A : Assignment) → Legal M A → AllPlaced M A → weight M W A ≤ degree M W
  none_exceeds_the_degree = degree_bounds M W

  -- and where the rank is n one reaches it.
  pub degree_is_reached : rank M ≡ M.n → (A : Assignment) × Legal M A × AllPlaced M A × (weight M W A ≡ degree M W)
  degree_is_reached = degree_reached M W

  -- With every power 0 the degree is 0.
  pub degree_without_powers : ((h : ℕ) → h < M.a → W.row_power h ≡ 0) → ((x : ℕ) → x < M.n → W.column_power x ≡ 0)
      → ((r x : ℕ) → r < M.b → x < M.n → M.T r x ≡ true → W.power r x ≡ 0) → degree M W ≡ 0
  degree_without_powers = degree_zero M W

module _ (X : Dynamic) where
  open X use {K, a, b, n, row_power}
  open K use {F}

  -- The bound: where no entry stands above its row's level, no legal assignment that places all n columns has a total above the levels less the heights.
  pub levels_bound_every_total : (P : ℕ → ℕ → F) (L z : ℕ → ℕ) → Levelled X P L z
      → (A : Assignment) → Legal (layered X) A → AllPlaced (layered X) A → weight (layered X) (powers X) A + total n z ≤ total a row_power + total (a + b) L
  levels_bound_every_total = bound X

  -- The descent starts with levels and heights up to some number.
  pub descent_starts : (c : ℕ) (P : ℕ → ℕ → F) (L z : ℕ → ℕ) → Levelled X P L z → ((x : ℕ) → x < n → z x ≤ c) → ((q : ℕ) → q < a + b → L q ≤ c)
      → AfterRounds X c 0 P L z
  descent_starts = rounds_start X

  module _ (c k : ℕ) (P : ℕ → ℕ → F) (L z : ℕ → ℕ) (h : AfterRounds X c k P L z) where
    -- A round, on a set of columns whose sum in the tight part is below n: the rows are reduced at the tight entries of the set; then the levels of the rows
    -- that touch it and the heights on it are raised, by as much as there is room. No entry stands above its row's level, and levels less heights have fallen.
    pub round_goes_on : (J : Set) → sum (tight X P L z) J < n → (weight level : ℕ → ℕ) → Marked X P L z J weight level
        → (R : ℕ → ℕ → F) → Agree K a n (reduced K n weight level P a) R
        → Levelled X R L z × ((rise : ℕ) → Room X L z J rise R → AfterRounds X c (k + rise) R (raised rise L (touched X L z J R)) (raised rise z J))
    round_goes_on J small weight level m R e =
        let w : (o : ℕ → ℕ) × Eliminated X L z J P a (reduced K n weight level P a) o = eliminate X P L z J weight level m h.levelled a (omega arith) in
        let v : Eliminated X L z J P a R w.0 = eliminated_as X P L z J (reduced K n weight level P a) R w.0 a e w.1 in
        (v.levelled, rounds_next X c k P L z h J small R w.0 v)

    -- The solver's answer to the tight part
    module _ (the_rank : ℕ) (the_placed the-side the_short : Set) (the-rows : List ℕ) (s : Solved (tight X P L z) the_rank the_placed the-side the_short the-rows) where
      -- where its rank is not n, the short set is such a set;
      pub short_set_is_small : the_rank ≢ n → sum (tight X P L z) the_short < n
      short_set_is_small ne = subst (λ J. sum (tight X P L z) J < n) (sym (fun_ext s.is_short)) (short_below X P L z (λ e. ne (s.is_rank ∙ e)))

      -- where its rank is n, the assignment is legal in the whole model, places all n columns, and its total is the degree: levels less heights.
      pub last_round_reaches_the_degree : a + b ≡ n → the_rank ≡ n → let A : Assignment = shown n b the-side the-rows in
          Legal (layered X) A × AllPlaced (layered X) A × (weight (layered X) (powers X) A ≡ degree (layered X) (powers X))
          × (degree (layered X) (powers X) + total n z ≡ total a row_power + total (a + b) L)
      last_round_reaches_the_degree e r =
          let A : Assignment = shown n b the-side the-rows in
          let placed_all : size (tight X P L z) A ≡ n =
          #-ext n (placing A) (placed (tight X P L z)) (λ x l. s.places_it x) ∙ placed_size (tight X P L z) ∙ sym s.is_rank ∙ r in
          let f : AllPlaced (layered X) A = size_full (layered X) (powers X) A placed_all in
          let d : weight (layered X) (powers X) A ≡ degree (layered X) (powers X) = last_weight X P L z h.levelled e A s.is_legal f in
          (tight_legal X P L z h.levelled A s.is_legal, f, d, omega (arith, reached X P L z h.levelled e A s.is_legal f))

  -- Where the rank is n, the rounds raise by c (a + b) at most, and each by 1 at least, so the descent ends.
  pub rise_is_small : rank (layered X) ≡ n → (c k : ℕ) (P : ℕ → ℕ → F) (L z : ℕ → ℕ) → AfterRounds X c k P L z → k ≤ c * (a + b)
  rise_is_small e c k P L z h = let w : Reached (layered X) (powers X) = degree_reached (layered X) (powers X) e in rounds_few X c k P L z h w.0 w.1 w.2
