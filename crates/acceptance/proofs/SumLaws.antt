-- The sum of a column set and the independence of a constant side, by the solver's answers about the constants alone. Assumes nothing.
use Prim.Native.Nat.{ℕ, ◌+◌, ◌-◌, ◌<◌, ◌≤◌, ◌^◌}
use mathlib.Core.Path.{◌≡◌, refl, sym, ◌∙◌}
use mathlib.Core.Logic.{◌↔◌}
use mathlib.Core.Bool.{true}
use mathlib.Core.List.{List, []}
use native.Mathlib.Omega.{arith}
use Rattle.counting.specs.Sets.{◌∈◌, ◌∩◌, ∁, #}
use Rattle.counting.specs.Counts.{#-ext, #-∁, #-le}
use Rattle.columns.specs.Columns.{width, members, within}
use Rattle.columns.specs.Words.Operations.{members_below, and_true, within_iff}
use Rattle.rank.specs.Linear.Independence.{Indep}
use Rattle.rank.specs.Layered.Rank.{constant_rank, sum}
use Rattle.rank.proofs.Layered.Meaning.{constant_rank_at}
use Rattle.listed_models.specs.ListedModel.{listed_model}
use Rattle.dependence.specs.Constants.{constants_only}
use Rattle.dependence.specs.ConstantSide.{constant_rank_is_a_rank, independent_by_rank}
use Rattle.touching.specs.RowCount.{touching_count}
use Rattle.touching.specs.RowCountLaws.{middle_term}
use Rattle.exchange.specs.Solve.{Shown, SolvedBy}
use Rattle.exchange.specs.declared.Solution.{Solution}
use Rattle.format.specs.NumberLaws.{count_within}
use Rattle.format.specs.Numbers.{parameter_count}

-- the columns with a number, all below n
module _ (n w : ℕ) (small : w < 2 ^ width) (inside : within n w ≡ true) where
  pub set_below : (x : ℕ) → x ∈ members w → x < n
  set_below x e = (within_iff n w).0 inside x (members_below w x small e) e

  pub set_size : # width (members w) ≡ # n (members w)
  unfolding parameter_count
  set_size = count_within n w small inside

  pub size_most : # width (members w) ≤ n
  size_most = omega (arith, set_size, #-le n (members w))

  outside : # n (∁ (members w) ∩ (λ x. true)) ≡ n - # width (members w)
  outside = omega (arith, set_size, #-∁ n (members w), #-ext n (∁ (members w) ∩ (λ x. true)) (∁ (members w)) (λ x l. sym (and_true (∁ (members w) x))))

  module _ (p a : ℕ) (cs : List ℕ) where
    -- the set is offered to the constants alone, and their rank is the constant rank
    pub constants_shown : Shown p n a 0 w cs [] (listed_model p n a 0 cs []).Q (listed_model p n a 0 cs []).T (members w)
    constants_shown = record { constants = λ i x li lx. refl; parameters = λ r x lr lx. refl; columns = λ x l. refl }

    pub rank_shown : (s : Solution) → SolvedBy (constants_only (listed_model p n a 0 cs []) (members w)) s → s.rank ≡ constant_rank (listed_model p n a 0 cs []) (members w)
    rank_shown s h = h.is_rank ∙ sym (constant_rank_is_a_rank (listed_model p n a 0 cs []) (members w))

    pub rank_most : constant_rank (listed_model p n a 0 cs []) (members w) ≤ n
    rank_most = let s = constant_rank_at (listed_model p n a 0 cs []) (members w) in omega (arith, s.3, #-le n s.0)

    -- parameter rows play no part in it
    module _ (b : ℕ) (ws : List ℕ) where
      same_constants : constant_rank (listed_model p n a 0 cs []) (members w) ≡ constant_rank (listed_model p n a b cs ws) (members w)
      unfolding constant_rank
      same_constants = refl

      -- the three terms of the sum
      pub sum_added : {r t : ℕ} → r ≡ constant_rank (listed_model p n a 0 cs []) (members w) → t ≡ touching_count n b ws (members w)
          → r + t + (n - # width (members w)) ≡ sum (listed_model p n a b cs ws) (members w)
      sum_added e f = omega (arith, e, f, same_constants, outside, middle_term p n a b cs ws (members w))

      -- the columns are independent exactly where their constant rank is their number
      pub independent_where : let M = listed_model p n a b cs ws in Indep M.K a n M.Q (members w) ↔ (constant_rank (listed_model p n a 0 cs []) (members w) ≡ # width (members w))
      independent_where =
          let M = listed_model p n a b cs ws in
          let k = constant_rank_is_a_rank M (members w) in
          let i = independent_by_rank M (members w) set_below in
          (λ h. omega (arith, k, same_constants, set_size, i.0 h), λ e. i.1 (omega (arith, k, same_constants, set_size, e)))
