-- The definitions compute: outcomes and multipliers modulo 3, answered by running the definitions, with nothing of what is proved of them. Assumes nothing.
use Rattle.std.specs.Prelude.{ℕ, ◌+◌, ◌*◌, ◌≡◌, List, [], ◌∷◌, get_or}
use Rattle.std.proofs.Math.Path.{refl}
use Rattle.std.proofs.Math.Bool.{decide}
use Rattle.std.proofs.Math.Decide.{ℕ_discrete, dec_lt}
use Rattle.residue.specs.Arithmetic.{Prime}
use Rattle.residue.specs.Residues.{residues, res, num_of, mk, plus, times}
use Rattle.counting.specs.Sets.{indicator, all, choose, set}
use Rattle.counting.specs.Choices.{greatest, largest, some, every}
use Rattle.columns.specs.Columns.{members}
use Rattle.rank.specs.Linear.Independence.{Σ, dot}
use Rattle.rank.specs.Independent.{is_zero, last_coefficient, in_kernel, independent}
use Rattle.dependence.specs.Multipliers.{sums_to, depends, multiplier, outcome, given}

-- all that has to be opened to run the definitions
unfoldable run : ℕ
unfolding members indicator all choose set greatest largest some every decide ℕ_discrete dec_lt residues res num_of mk plus times Σ dot is_zero last_coefficient in_kernel independent sums_to depends multiplier outcome given
run = 0

module _ (P : Prime 3) where
  -- how column 2 of two constant rows depends on columns 0 and 1: the outcome, and their multipliers
  abbrev of_last : List ℕ → ℕ × ℕ × ℕ
  of_last cs =
      let Q : ℕ → ℕ → (residues 3 P).F = λ i x. res 3 P (get_or cs (i * 3 + x) 0) in
      (outcome 3 P 2 3 Q (members 3) 2, given 3 P 2 3 Q (members 3) 2 0, given 3 P 2 3 Q (members 3) 2 1)

  -- the column 2 1 is twice the first unit column and once the second; the zero column has the multipliers 0; held columns 1 1 and 1 1 are dependent, and no
  -- multipliers are given even where there are some
  depends_on_both : of_last (1 ∷ 0 ∷ 2 ∷ 0 ∷ 1 ∷ 1 ∷ []) ≡ (1, 2, 1)
  unfolding run
  depends_on_both = refl

  zero_depends : of_last (1 ∷ 0 ∷ 0 ∷ 0 ∷ 1 ∷ 0 ∷ []) ≡ (1, 0, 0)
  unfolding run
  zero_depends = refl

  held_dependent : of_last (1 ∷ 1 ∷ 2 ∷ 1 ∷ 1 ∷ 2 ∷ []) ≡ (2, 0, 0)
  unfolding run
  held_dependent = refl

  -- column 0 alone is held of 1 0 0 and 0 1 0: column 1 does not depend on it
  independent_of_first : (let Q : ℕ → ℕ → (residues 3 P).F = λ i x. res 3 P (get_or (1 ∷ 0 ∷ 0 ∷ 0 ∷ 1 ∷ 0 ∷ []) (i * 3 + x) 0) in outcome 3 P 2 3 Q (members 1) 1) ≡ 0
  unfolding run
  independent_of_first = refl
