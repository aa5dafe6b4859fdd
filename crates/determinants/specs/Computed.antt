-- The definitions compute: determinants of order 0 to 3 modulo small primes and 1,021, by running the definitions, with nothing of the theory. Assumes nothing.
use Rattle.std.specs.Prelude.{ℕ, ◌≡◌, refl, Bool, true, length}
use Rattle.std.proofs.Math.Bool.{decide}
use mathlib.Core.List.{List, [], ◌∷◌, flat_map}
use Rattle.std.proofs.Math.Decide.{ℕ_discrete, dec_lt}
use Rattle.residue.specs.Arithmetic.{Prime}
use Rattle.residue.specs.Residues.{residues, res, mk, plus, times}
use Rattle.counting.specs.Sets.{indicator}
use Rattle.columns.specs.Columns.{members}
use Rattle.rank.specs.ListedModel.{constant_at, parameter_at}
use Rattle.determinants.specs.Determinant.{insertions, arrangements, smaller, inversions, sign, Letter, same_letters, collect, product, determinant}
use Rattle.determinants.specs.Determinant.{coefficient_at}

-- rows and columns of a square table
abbrev one : List ℕ
one = 0 ∷ []

abbrev two : List ℕ
two = 0 ∷ 1 ∷ []

abbrev three : List ℕ
three = 0 ∷ 1 ∷ 2 ∷ []

-- modulo the prime q, in the square table with rows and columns I, the constants cs row by row and letters at the columns in the words ws, the determinant's
-- coefficient at the letters l is v
abbrev coefficient_is : (q : ℕ) → Prime q → (I cs ws : List ℕ) → List Letter → ℕ → Bool
coefficient_is q P I cs ws l v = decide ((residues q P).decide (coefficient_at (residues q P) (constant_at q P (length I) cs) (parameter_at ws) l I I) (res q P v))

-- all that has to be opened to run the definitions
unfoldable run : ℕ
unfolding residues res mk plus times members indicator decide ℕ_discrete dec_lt flat_map insertions arrangements smaller inversions sign same_letters collect product determinant
run = 0

-- order 0: the determinant is 1
order_0 : (P : Prime 5) → coefficient_is 5 P [] [] [] [] 1 ≡ true
unfolding run
order_0 P = refl

-- order 1: a constant; a letter; a place with both
order_1 : (P : Prime 5) → (coefficient_is 5 P one (3 ∷ []) [] [] 3 ≡ true)
    × (coefficient_is 5 P one (0 ∷ []) (1 ∷ []) [] 0 ≡ true) × (coefficient_is 5 P one (0 ∷ []) (1 ∷ []) ((0, 0) ∷ []) 1 ≡ true)
    × (coefficient_is 5 P one (3 ∷ []) (1 ∷ []) [] 3 ≡ true) × (coefficient_is 5 P one (3 ∷ []) (1 ∷ []) ((0, 0) ∷ []) 1 ≡ true)
unfolding run
order_1 P = (refl, refl, refl, refl, refl)

-- order 2, constants alone: 1 2 and 3 4 give 4 − 6; the rows 1 1 and 1 1 of S3 give 0 at 1,021; 1 2 and 2 1, of S5 and S6, give 0 modulo 3, not at 1,021
constants_alone : (P : Prime 5) (R : Prime 3) (S : Prime 1021) → (coefficient_is 5 P two (1 ∷ 2 ∷ 3 ∷ 4 ∷ []) [] [] 3 ≡ true)
    × (coefficient_is 1021 S two (1 ∷ 1 ∷ 1 ∷ 1 ∷ []) [] [] 0 ≡ true) × (coefficient_is 3 R two (1 ∷ 2 ∷ 2 ∷ 1 ∷ []) [] [] 0 ≡ true)
    × (coefficient_is 1021 S two (1 ∷ 2 ∷ 2 ∷ 1 ∷ []) [] [] 1018 ≡ true)
unfolding run
constants_alone P R S = (refl, refl, refl, refl)

-- 1 and 2 + x, y and 3: 3 − 2 y − x y
places_with_both : (P : Prime 5) → let d : List Letter → ℕ → Bool = coefficient_is 5 P two (1 ∷ 2 ∷ 0 ∷ 3 ∷ []) (2 ∷ 1 ∷ []) in
    (d [] 3 ≡ true) × (d ((1, 0) ∷ []) 3 ≡ true) × (d ((0, 1) ∷ []) 0 ≡ true) × (d ((1, 0) ∷ (0, 1) ∷ []) 4 ≡ true)
unfolding run
places_with_both P = (refl, refl, refl, refl)

-- 1 + x and 1, 1 and 1, as S9: the constants cancel, and x stays
constants_cancel : (P : Prime 1021) → let d : List Letter → ℕ → Bool = coefficient_is 1021 P two (1 ∷ 1 ∷ 1 ∷ 1 ∷ []) (1 ∷ []) in
    (d [] 0 ≡ true) × (d ((0, 0) ∷ []) 1 ≡ true)
unfolding run
constants_cancel P = (refl, refl)

-- four letters: x y less z w, two products of their own that do not cancel
letters_alone : (P : Prime 5) → let d : List Letter → ℕ → Bool = coefficient_is 5 P two [] (3 ∷ 3 ∷ []) in
    (d ((0, 0) ∷ (1, 1) ∷ []) 1 ≡ true) × (d ((1, 0) ∷ (0, 1) ∷ []) 4 ≡ true) × (d [] 0 ≡ true)
unfolding run
letters_alone P = (refl, refl, refl)

-- order 3, constant rows 1 1 1 and 1 1 2 over a row of letters x, y, z: x − y, for two terms with z cancel by their signs
terms_cancel : (P : Prime 5) → let d : List Letter → ℕ → Bool = coefficient_is 5 P three (1 ∷ 1 ∷ 1 ∷ 1 ∷ 1 ∷ 2 ∷ []) (0 ∷ 0 ∷ 7 ∷ []) in
    (d ((2, 0) ∷ []) 1 ≡ true) × (d ((2, 1) ∷ []) 4 ≡ true) × (d ((2, 2) ∷ []) 0 ≡ true) × (d [] 0 ≡ true)
unfolding run
terms_cancel P = (refl, refl, refl, refl)

-- order 3, constants alone: 1 2 3, 0 1 4 and 5 6 0 give 1
order_3 : (P : Prime 1021) → coefficient_is 1021 P three (1 ∷ 2 ∷ 3 ∷ 0 ∷ 1 ∷ 4 ∷ 5 ∷ 6 ∷ 0 ∷ []) [] [] 1 ≡ true
unfolding run
order_3 P = refl
