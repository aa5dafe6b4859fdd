-- What is proved of the definitions of document 01, one theorem for each sentence, over any layered model. Assumes nothing.
use Rattle.std.specs.Prelude.{ℕ, ◌+◌, ◌≤◌, ◌<◌, ◌≡◌, cond, List, ◌↔◌}
use Rattle.std.proofs.Math.Path.{fun_ext}
use Rattle.counting.specs.Sets.{Set, ◌∈◌, ◌⊆◌, #}
use Rattle.counting.specs.Choices.{Part}
use Rattle.rank.specs.Graph.States.{Placed, placed_of}
use Rattle.rank.specs.Graph.Closed.{Closed}
use Rattle.rank.specs.Graph.Layers.{layer, unplaced}
use Rattle.rank.specs.Layered.Model.{Model, Assignment, placing, Legal, legal, size, OneMoreThan}
use Rattle.rank.specs.Layered.Rank.{largest_assignment, sum, rank, placed, short, verdict}
use Rattle.rank.specs.Layered.RowUse.{PlacesAll, UsesAll, LeavesOver}
use Rattle.rank.proofs.Layered.Meaning.{short_iff}
use Rattle.rank.proofs.Layered.Duality.{size_le_sum, size_le_rank, rank_reached, rank_largest}
use Rattle.rank.specs.Layered.Seating.{Good}
use Rattle.rank.proofs.Layered.Assignments.{assignment, assignment_places, assignment_legal}
use Rattle.rank.proofs.Layered.Augmenting.{only, StateOf, Covers, failing}
use Rattle.rank.proofs.Layered.Optimal.{reach, rank_placed, short_reach}
use Rattle.rank.proofs.Layered.ColumnOrder.{placed_legal, placed_first, placed_size}
use Rattle.rank.proofs.Layered.Minimax.{short_of_E, sum_short, rank_le_sum, extends}
use Rattle.rank.proofs.Layered.Verdicts as Verdicts
use Rattle.rank.specs.Steps.{Step, result, Demand3}
use Rattle.rank.proofs.Demand as Demand
use Rattle.rank.proofs.StepsReach.{reached_by}

module _ (M : Model) where
  open M use {a, b, n, E}

  -- Every legal assignment has at most sum K columns, for every column set K.
  pub legal_at_most_every_sum : (A : Assignment) → Legal M A → (K : Set) → size M A ≤ sum M K
  legal_at_most_every_sum = size_le_sum M

  -- The rank is the largest number of columns in a legal assignment.
  pub rank_is_the_largest_legal_size : ((A : Assignment) → Legal M A → size M A ≤ rank M) × ((A : Assignment) × Legal M A × (size M A ≡ rank M))
  rank_is_the_largest_legal_size = (size_le_rank M, rank_reached M)

  -- The same as an equation: the largest size over all assignments that pass the test of legality.
  pub rank_equals_the_largest_legal_size : rank M ≡ largest_assignment M (λ A. cond (legal M A) (size M A) 0)
  rank_equals_the_largest_legal_size = rank_largest M

  -- The rank is the least sum.
  pub rank_is_the_least_sum : ((K : Set) → rank M ≤ sum M K) × ((K : Set) × Part n E K × (sum M K ≡ rank M))
  rank_is_the_least_sum = (rank_le_sum M, (short M, short_of_E M, sum_short M))

  -- The short set is a column set, its sum is the rank, and it lies in every column set with that sum: it is the smallest of them.
  pub short_is_the_smallest : Part n E (short M) × (sum M (short M) ≡ rank M) × ((K : Set) → Part n E K → sum M K ≡ rank M → short M ⊆ K)
  short_is_the_smallest = (short_of_E M, sum_short M, λ K p e x s. (short_iff M x).0 s K p e)

  -- The placed set has the rank's size,
  pub placed_has_the_rank : # n (placed M) ≡ rank M
  placed_has_the_rank = placed_size M

  -- it has a legal assignment,
  pub placed_has_a_legal_assignment : (A : Assignment) × Legal M A × ((x : ℕ) → x < n → placing A x ≡ placed M x)
  placed_has_a_legal_assignment = placed_legal M

  -- and it comes first in column order among the sets that have one: at the first column where another differs from it, the other lacks that column.
  pub placed_comes_first : (A : Assignment) → Legal M A → (x : ℕ) → x < n → ((y : ℕ) → y < x → placing A y ≡ placed M y) → x ∈ placing A → x ∈ placed M
  placed_comes_first = placed_first M

  -- The verdict is 1 exactly where the rank is the number of columns and of rows, 2 exactly where it is the number of columns and rows are more, and 0
  -- exactly where the rank is below the number of columns.
  pub verdict_reads : ((verdict M ≡ 1) ↔ ((rank M ≡ # n E) × (rank M ≡ a + b))) × ((verdict M ≡ 2) ↔ ((rank M ≡ # n E) × (# n E < a + b))) × ((verdict M ≡ 0) ↔ (rank M < # n E))
  verdict_reads = (Verdicts.verdict_1_iff M, Verdicts.verdict_2_iff M, Verdicts.verdict_0_iff M)

  -- Where the verdict is 1, some legal assignment places all columns, and every one that does has a columns on the constant side and uses every
  -- parameter row: no equation is left over.
  pub determined_leaves_nothing_over : verdict M ≡ 1 → ((A : Assignment) × Legal M A × PlacesAll M A) × ((A : Assignment) → Legal M A → PlacesAll M A → UsesAll M A)
  determined_leaves_nothing_over v = let w = (Verdicts.determined_iff M).0 v in ((w.0, w.1, w.2), Verdicts.determined_uses_all M v)

  -- Where it is 2, some legal assignment places all columns, and every one that does has fewer than a columns on the constant side or leaves a parameter
  -- row unused.
  pub surplus_leaves_an_equation_over : verdict M ≡ 2 → ((A : Assignment) × Legal M A × PlacesAll M A) × ((A : Assignment) → Legal M A → PlacesAll M A → LeavesOver M A)
  surplus_leaves_an_equation_over v = let w = (Verdicts.surplus_iff M).0 v in ((w.0, w.1, w.2), Verdicts.surplus_leaves_over M v)

  -- The verdict by legal assignments alone: 0 where none places all columns, 1 where one places all and leaves no equation over, 2 where one places all
  -- and leaves an equation over.
  pub verdict_by_assignments : ((verdict M ≡ 0) ↔ ((A : Assignment) → Legal M A → PlacesAll M A → ⊥))
      × ((verdict M ≡ 1) ↔ ((A : Assignment) × Legal M A × PlacesAll M A × UsesAll M A)) × ((verdict M ≡ 2) ↔ ((A : Assignment) × Legal M A × PlacesAll M A × LeavesOver M A))
  verdict_by_assignments = (Verdicts.open_iff M, Verdicts.determined_iff M, Verdicts.surplus_iff M)

  -- With no column offered, a model without rows is determined and one with rows is surplus.
  pub verdict_of_none_offered : # n E ≡ 0 → ((a + b ≡ 0) → verdict M ≡ 1) × ((0 < a + b) → verdict M ≡ 2)
  verdict_of_none_offered = Verdicts.none_offered M

  -- Every legal assignment with fewer columns than the rank can take one more, keeping its columns.
  pub fewer_can_take_one_more : (A : Assignment) → Legal M A → size M A < rank M → OneMoreThan M A
  fewer_can_take_one_more = extends M

  -- Demand 3, over every list of steps.
  pub demand3 : Demand3 M (rank M) (short M)
  demand3 = Demand.demand3 M

  -- And the lists of steps reach every legal assignment.
  pub steps_reach_every_legal_assignment : (A : Assignment) → Legal M A → (l : List Step) × (result M l ≡ A)
  steps_reach_every_legal_assignment A h = let r : (l : List Step) × ((x : ℕ) → result M l x ≡ A x) = reached_by M A h in (r.0, fun_ext r.1)

  -- For the code: from a valid state whose search from the unplaced columns closes without meeting a free row, the rank, the short set and a legal
  -- assignment follow.
  pub closed_search_answers : (s : StateOf M) (g : Good M s) → Closed s (layer s (unplaced s) n)
      → (rank M ≡ # n (placed_of s)) × ((x : ℕ) → short M x ≡ reach M s g x) × Legal M (assignment M s) × ((x : ℕ) → x < n → placing (assignment M s) x ≡ placed_of s x)
  closed_search_answers s g c = (rank_placed M s g c, short_reach M s g c, assignment_legal M s g, assignment_places M s)

  -- A search that closes on the offered column shows that it cannot be placed besides.
  pub closed_search_refuses : (s : StateOf M) → Good M s → (j : ℕ) → j < n → (Placed s j → ⊥) → Closed s (layer s (only j) n)
      → (A : Assignment) → Legal M A → Covers M A s → j ∈ placing A → ⊥
  closed_search_refuses = failing M
