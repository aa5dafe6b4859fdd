-- The first numbers of a list: their sum, and a test of each of them. Assumes nothing.
use Rattle.std.proofs.Common.{ℕ, zero, suc, ◌+◌, ◌≤◌, ◌≡◌, refl, ◌∙◌, ap, Bool, ◌&&◌, List, length, get_or, take, arith, add-one}
use Rattle.std.specs.List.{sum_by, list_all}
use Rattle.std.proofs.lemmas.List.Sums.{sum_by_more}
use Rattle.std.proofs.lemmas.List.Folds.{list_all_more}
use Rattle.counting.specs.Sets.{all}
use Rattle.rank.specs.Totals.{total}

pub sum_is_total : (xs : List ℕ) (k : ℕ) → k ≤ length xs → sum_by (λ (x : ℕ). x) (take k xs) ≡ total k (λ i. get_or xs i 0)
unfolding total
sum_is_total xs zero h = refl
sum_is_total xs (suc k) h =
    let more = rw add-one at (sum_by_more (λ (x : ℕ). x) xs k 0 (omega arith)) in
    more ∙ ap (λ (s : ℕ). s + get_or xs k 0) (sum_is_total xs k (omega arith))

pub first_pass : (test : ℕ → Bool) (xs : List ℕ) (k : ℕ) → k ≤ length xs → list_all test (take k xs) ≡ all k (λ i. test (get_or xs i 0))
unfolding all
first_pass test xs zero h = refl
first_pass test xs (suc k) h =
    let more = rw add-one at (list_all_more test xs k 0 (omega arith)) in
    more ∙ ap (λ (b : Bool). b && test (get_or xs k 0)) (first_pass test xs k (omega arith))
