-- Wrong determinants: by each of these definitions the largest order is not the rank of a small model, or a coefficient is not the minor. Assumes nothing.
use Rattle.std.specs.Prelude.{ℕ, zero, suc, ◌+◌, ◌≤◌, ◌<◌, ◌≡◌, refl, Bool, true, false, ◌&&◌, cond, ◌≢◌, ◌↔◌, length}
use Rattle.std.proofs.Common.{sym, ap, ap₂, subst, ◌∙◌, true≢false, ⊎_elim, arith}
use Rattle.std.proofs.Math.Bool.{decide, decide_iff}
use mathlib.Core.List.{List, [], ◌∷◌, map, flat_map}
use Rattle.residue.specs.Arithmetic.{Prime, is_prime, undivided}
use Rattle.residue.specs.Residues.{residues, res}
use Rattle.counting.specs.Beside.{beside}
use Rattle.counting.specs.Bools.{true?}
use Rattle.rank.specs.Modulus.{modulus, modulus_at}
use Rattle.rank.specs.Independent.{is_zero}
use Rattle.rank.specs.Layered.Model.{Model}
use Rattle.rank.specs.Layered.Rank.{rank}
use Rattle.listed_models.specs.ListedModel.{listed_model, listed_modulo}
use Rattle.mixed_models.specs.Mixed.{Mixed, mixed_at, mixed_rank}
use Rattle.mixed_models.specs.Starred.Models.{S1, S3, S7, S9, S11}
use Rattle.mixed_models.proofs.Starred.Table.{table}
use Rattle.determinants.specs.Determinant.{insertions, arrangements, smaller, inversions, sign, Letter, same_letters, Term, by_number, collect, product, determinant, coefficient_at, NotZero}
use Rattle.determinants.specs.Determinant.{Each, done, both, Ascending, SquarePart, NonzeroOrder, Largest}
use Rattle.determinants.specs.Statements.{UpToSign}
use Rattle.determinants.specs.Lists.Each.{each_imp}
use Rattle.determinants.specs.ModelTables.{all_constants, all_letters, LayeredOrder}
use Rattle.determinants.specs.Theorems.{rank_is_largest_order}
use Rattle.refutations.specs.Computing.{computing}

-- the orders of a model's square parts that pass as not zero by N
abbrev Orders : (M : Model) → (List ℕ → List ℕ → Type 0) → ℕ → Type 0
Orders M N k = (S : SquarePart (M.a + M.b) M.n M.E k) × N S.rows S.columns

-- the whole of a table of two rows and two columns
whole : SquarePart 2 2 (λ x. true) 2
whole = record {
  rows = 0 ∷ 1 ∷ [];
  columns = 0 ∷ 1 ∷ [];
  rows_ascend = (both {x = 1} (omega arith) done, (done, tt));
  columns_ascend = (both {x = 1} (omega arith) done, (done, tt));
  rows_within = both {x = 0} (omega arith) (both {x = 1} (omega arith) done);
  columns_within = both {x = 0} (omega arith, refl) (both {x = 1} (omega arith, refl) done);
  k_rows = refl;
  k_columns = refl;
}

-- wrong arrangements: a row is put first or second, but nowhere further
abbrev first_or_second : ℕ → List ℕ → List (List ℕ)
first_or_second i [] = (i ∷ []) ∷ []
first_or_second i (x ∷ π) = (i ∷ x ∷ π) ∷ (x ∷ i ∷ π) ∷ []

abbrev some_arrangements : List ℕ → List (List ℕ)
some_arrangements [] = [] ∷ []
some_arrangements (i ∷ I) = flat_map (first_or_second i) (some_arrangements I)

-- all that has to be opened to run the definitions
unfoldable run : ℕ
unfolding computing flat_map beside insertions arrangements smaller inversions sign same_letters collect product determinant
run = 0

is_zero_iff : (q : ℕ) (P : Prime q) (x : (residues q P).F) → (is_zero q P x ≡ true) ↔ (x ≡ (residues q P).𝟘)
unfolding is_zero
is_zero_iff q P x = decide_iff ((residues q P).decide x (residues q P).𝟘)

-- the n numbers from s on
abbrev from : ℕ → ℕ → List ℕ
from s zero = []
from s (suc n) = s ∷ from (suc s) n

-- ascending numbers below u need room,
room : (u i : ℕ) (I : List ℕ) → Ascending (i ∷ I) → Each (λ x. x < u) (i ∷ I) → i + length (i ∷ I) ≤ u
room u i [] a (both p w) = omega (arith, p)
room u i (j ∷ I) (both l h, a) (both p w) = omega (arith, l, room u j I a w)

-- so n of them from s on, below s + n, are all
all_numbers : (n s : ℕ) (I : List ℕ) → Ascending I → Each (λ x. s ≤ x) I → Each (λ x. x < s + n) I → length I ≡ n → I ≡ from s n
all_numbers zero s [] a g w e = refl
all_numbers zero s (i ∷ I) a g w e = absurd (omega arith)
all_numbers (suc n) s [] a g w e = absurd (omega arith)
all_numbers (suc n) s (i ∷ I) a (both p g) (both q w) e =
    let r = room (s + suc n) i I a (both q w) in
    let first : i ≡ s = omega (arith, r, p, e) in
    ap₂ ◌∷◌ first (all_numbers n (suc s) I a.1 (each_imp (λ x (l : i < x). omega (arith, l, first)) I a.0) (each_imp (λ x (l : x < s + suc n). omega (arith, l)) I w) (omega (arith, e)))

-- so the whole is the one part of order k of a table of k rows and k columns
only_whole : (k : ℕ) (N : List ℕ → List ℕ → Type 0) → (N (from 0 k) (from 0 k) → ⊥) → (j : ℕ) → j ≡ k
    → (S : SquarePart k k (λ x. true) j) × N S.rows S.columns → ⊥
only_whole k N never j e (S, w) = never (subst (λ I. N I (from 0 k)) (are_all S.rows S.rows_ascend S.rows_within (S.k_rows ∙ e))
    (subst (N S.rows) (are_all S.columns S.columns_ascend (each_imp (λ x h. h.0) S.columns S.columns_within) (S.k_columns ∙ e)) w))
  where
    are_all : (I : List ℕ) → Ascending I → Each (λ x. x < k) I → length I ≡ k → I ≡ from 0 k
    are_all I a w e = all_numbers k 0 I a (each_imp (λ x (l : x < k). omega arith) I w) (each_imp (λ x (l : x < k). omega (arith, l)) I w) e

module _ (M : Model) where
  open M use {K}
  open K use {𝟘}

  -- the terms of the determinant,
  abbrev terms : List ℕ → List ℕ → List (Term K)
  terms = determinant K (all_constants M) (all_letters M)

  -- without the signs of the arrangements,
  abbrev unsigned : List ℕ → List ℕ → List (Term K)
  unsigned I J = flat_map (λ π. product K (all_constants M) (all_letters M) π J) (arrangements I)

  -- of some arrangements alone,
  abbrev some_terms : List ℕ → List ℕ → List (Term K)
  some_terms I J = flat_map (λ π. map (by_number K (sign K (inversions π))) (product K (all_constants M) (all_letters M) π J)) (some_arrangements I)

  -- and with one letter for all parameters of a row
  abbrev shared : List ℕ → List ℕ → List (Term K)
  shared I J = map (λ t. record { coefficient = t.coefficient; letters = map (λ x. (x.0, 0)) t.letters }) (terms I J)

  -- the terms of the part, collected, are not all zero
  abbrev Collected : (List ℕ → List ℕ → List (Term K)) → List ℕ → List ℕ → Type 0
  Collected ts I J = (l : List Letter) × (collect K l (ts I J) ≢ 𝟘)

  -- the terms of the part, as they stand, are not all zero
  abbrev Uncollected : List ℕ → List ℕ → Type 0
  Uncollected I J = ¬ Each (λ t. t.coefficient ≡ 𝟘) (terms I J)

-- by the determinant's own terms, collected, the largest order is the rank; so what follows differs from it in the terms alone
own_terms : (M : Model) → Largest (Orders M (Collected M (terms M))) (rank M)
own_terms = rank_is_largest_order

-- ---- S3, constants 1 1 and 1 1, whose rank is 1: signs left out give 2; its two terms, 1 and −1, are not zero

abbrev S3_modulo : Prime 1021 → Model
S3_modulo P = listed_modulo 1021 P 2 2 0 (1 ∷ 1 ∷ 1 ∷ 1 ∷ []) []

unsigned_sum : (P : Prime 1021) → is_zero 1021 P (collect (residues 1021 P) [] (unsigned (S3_modulo P) (0 ∷ 1 ∷ []) (0 ∷ 1 ∷ []))) ≡ false
unfolding run
unsigned_sum P = refl

pub signs_left_out : Largest (Orders S3 (Collected S3 (unsigned S3))) (rank S3) → ⊥
unfolding modulus modulus_at true? is_prime undivided whole
signs_left_out h = let P : Prime 1021 = (modulus 1021).1 in
    let b : 2 ≤ rank S3 = h.bound 2 (whole, ([], λ z. true≢false (sym ((is_zero_iff 1021 P _).1 z) ∙ unsigned_sum P))) in
    let r = table.s3.is_rank in omega arith

first_term : (P : Prime 1021) → ¬ Each (λ t. t.coefficient ≡ (residues 1021 P).𝟘) (terms (S3_modulo P) (0 ∷ 1 ∷ []) (0 ∷ 1 ∷ []))
unfolding run
first_term P (both e h) = true≢false (sym ((decide_iff ((residues 1021 P).decide _ _)).1 e))

pub terms_not_collected : Largest (Orders S3 (Uncollected S3)) (rank S3) → ⊥
unfolding modulus modulus_at true? is_prime undivided whole
terms_not_collected h = let b : 2 ≤ rank S3 = h.bound 2 (whole, first_term (modulus 1021).1) in
    let r = table.s3.is_rank in omega arith

-- ---- constants 1 1 over a parameter row {0, 1}, modulo 3: the rank is 2, for the determinant is y − x; with one letter for both it would be 0

abbrev two_parameters : Model
two_parameters = listed_model 3 2 1 1 (1 ∷ 1 ∷ []) (3 ∷ [])

two_parameters_rank : rank two_parameters ≡ 2
unfolding computing
two_parameters_rank = refl

-- the terms 0, x, 0 and −x, collected where their letters are those asked for
cancels : (P : Prime 3) (u v : Bool) → let at : Bool → ℕ → (residues 3 P).F = λ w k. cond w (res 3 P k) (residues 3 P).𝟘 in
    is_zero 3 P ((residues 3 P).◌+◌ (at u 0) ((residues 3 P).◌+◌ (at v 1) ((residues 3 P).◌+◌ (at u 0) ((residues 3 P).◌+◌ (at v 2) (residues 3 P).𝟘)))) ≡ true
unfolding run
cancels P true true = refl
cancels P true false = refl
cancels P false true = refl
cancels P false false = refl

shared_sum : (P : Prime 3) (l : List Letter)
    → is_zero 3 P (collect (residues 3 P) l (shared (listed_modulo 3 P 2 1 1 (1 ∷ 1 ∷ []) (3 ∷ [])) (0 ∷ 1 ∷ []) (0 ∷ 1 ∷ []))) ≡ true
unfolding run
shared_sum P l = cancels P (same_letters [] l) (same_letters ((1, 0) ∷ []) l)

pub letters_shared : Largest (Orders two_parameters (Collected two_parameters (shared two_parameters))) (rank two_parameters) → ⊥
unfolding modulus modulus_at true? is_prime undivided
letters_shared h = let P : Prime 3 = (modulus 3).1 in only_whole 2 (Collected two_parameters (shared two_parameters))
    (λ w. w.1 ((is_zero_iff 3 P _).0 (shared_sum P w.0))) (rank two_parameters) two_parameters_rank h.reached

-- ---- arrangements left out: constants 1 at row 1, column 0, at row 2, column 1 and at row 0, column 2, modulo 2; row 0 would never come last

abbrev cycle : Model
cycle = listed_model 2 3 3 0 (0 ∷ 0 ∷ 1 ∷ 1 ∷ 0 ∷ 0 ∷ 0 ∷ 1 ∷ 0 ∷ []) []

cycle_rank : rank cycle ≡ 3
unfolding computing
cycle_rank = refl

-- four terms 0, collected where no letters are asked for
four_zeros : (P : Prime 2) (u : Bool) → let at : (residues 2 P).F = cond u (res 2 P 0) (residues 2 P).𝟘 in
    is_zero 2 P ((residues 2 P).◌+◌ at ((residues 2 P).◌+◌ at ((residues 2 P).◌+◌ at ((residues 2 P).◌+◌ at (residues 2 P).𝟘)))) ≡ true
unfolding run
four_zeros P true = refl
four_zeros P false = refl

some_sum : (P : Prime 2) (l : List Letter)
    → is_zero 2 P (collect (residues 2 P) l (some_terms (listed_modulo 2 P 3 3 0 (0 ∷ 0 ∷ 1 ∷ 1 ∷ 0 ∷ 0 ∷ 0 ∷ 1 ∷ 0 ∷ []) []) (from 0 3) (from 0 3))) ≡ true
unfolding run
some_sum P l = four_zeros P (same_letters [] l)

pub arrangements_left_out : Largest (Orders cycle (Collected cycle (some_terms cycle))) (rank cycle) → ⊥
unfolding modulus modulus_at true? is_prime undivided
arrangements_left_out h = let P : Prime 2 = (modulus 2).1 in only_whole 3 (Collected cycle (some_terms cycle))
    (λ w. w.1 ((is_zero_iff 2 P _).0 (some_sum P w.0))) (rank cycle) cycle_rank h.reached

-- ---- order 0 counted as zero: S1, whose rank is 0, would have no rank

pub order_zero_is_zero : (k : ℕ) → Largest (λ j. (0 < j) × LayeredOrder S1 j) k → ⊥
order_zero_is_zero k h = let b : k ≤ rank S1 = (rank_is_largest_order S1).bound k h.reached.1 in let r = table.s1.is_rank in omega (arith, h.reached.0)

-- ---- square parts of the constant rows alone: S11 has none of order 1, and its rank is 1

pub constant_rows_alone : Largest (NonzeroOrder S11.K (all_constants S11) (all_letters S11) S11.a S11.n S11.E) (rank S11) → ⊥
constant_rows_alone h = let r = table.s11.is_rank in none h.reached.0.rows h.reached.0.rows_within (h.reached.0.k_rows ∙ r)
  where
    none : (I : List ℕ) → Each (λ i. i < 0) I → length I ≡ 1 → ⊥
    none [] done e = omega arith
    none (i ∷ I) (both l w) e = omega arith

-- ---- a place with both holds its constant alone: S9, whose rank is 2, would have the determinant 1 − 1

-- letters only where the constant is 0
abbrev lone_letters : (X : Mixed) → ℕ → ℕ → Bool
lone_letters X i x = X.T i x && decide (X.K.decide (X.Q i x) X.K.𝟘)

abbrev S9_modulo : Prime 1021 → Mixed
S9_modulo P = mixed_at 1021 P 2 2 (1 ∷ 1 ∷ 1 ∷ 1 ∷ []) (1 ∷ 0 ∷ [])

-- the terms 1 and −1, collected where no letters are asked for
ones_cancel : (P : Prime 1021) (u : Bool) → let at : ℕ → (residues 1021 P).F = λ k. cond u (res 1021 P k) (residues 1021 P).𝟘 in
    is_zero 1021 P ((residues 1021 P).◌+◌ (at 1) ((residues 1021 P).◌+◌ (at 1020) (residues 1021 P).𝟘)) ≡ true
unfolding run
ones_cancel P true = refl
ones_cancel P false = refl

lone_sum : (P : Prime 1021) (l : List Letter)
    → is_zero 1021 P (coefficient_at (residues 1021 P) (S9_modulo P).Q (lone_letters (S9_modulo P)) l (0 ∷ 1 ∷ []) (0 ∷ 1 ∷ [])) ≡ true
unfolding run
lone_sum P l = ones_cancel P (same_letters [] l)

pub letter_beside_a_constant_dropped : Largest (NonzeroOrder S9.K S9.Q (lone_letters S9) S9.m S9.n (λ x. true)) (mixed_rank S9) → ⊥
unfolding modulus modulus_at true? is_prime undivided
letter_beside_a_constant_dropped h = let P : Prime 1021 = (modulus 1021).1 in only_whole 2 (NotZero S9.K S9.Q (lone_letters S9))
    (λ w. w.1 ((is_zero_iff 1021 P _).0 (lone_sum P w.0))) (mixed_rank S9) table.s9.is_rank h.reached

-- ---- a place with both holds its letter alone: no rank can tell, but at no letters S7, a 1 beside a letter, would have the coefficient 0, where
-- `coefficient_is_minor` says 1 or −1

-- constants only where no letter stands
abbrev lone_constants : (X : Mixed) → ℕ → ℕ → X.K.F
lone_constants X i x = cond (X.T i x) X.K.𝟘 (X.Q i x)

abbrev S7_modulo : Prime 1021 → Mixed
S7_modulo P = mixed_at 1021 P 1 1 (1 ∷ []) (1 ∷ [])

-- the coefficient at no letters of row 0 and column 0
abbrev at_none : (X : Mixed) → (ℕ → ℕ → X.K.F) → (ℕ → ℕ → Bool) → X.K.F
at_none X Q T = coefficient_at X.K Q T [] (0 ∷ []) (0 ∷ [])

without_its_constant : (P : Prime 1021) → let X : Mixed = S7_modulo P in let c : (residues 1021 P).F = at_none X X.Q (λ i x. false) in
    (is_zero 1021 P (at_none X (lone_constants X) X.T) ≡ true) × (is_zero 1021 P c ≡ false) × (is_zero 1021 P ((residues 1021 P).neg c) ≡ false)
unfolding run
without_its_constant P = (refl, refl, refl)

pub constant_beside_a_letter_dropped : UpToSign S7.K (at_none S7 (lone_constants S7) S7.T) (at_none S7 S7.Q (λ i x. false)) → ⊥
unfolding modulus modulus_at true? is_prime undivided
constant_beside_a_letter_dropped h = let P : Prime 1021 = (modulus 1021).1 in let w = without_its_constant P in
    ⊎_elim (λ e. true≢false (sym w.0 ∙ ap (is_zero 1021 P) e ∙ w.1)) (λ e. true≢false (sym w.0 ∙ ap (is_zero 1021 P) e ∙ w.2)) h
