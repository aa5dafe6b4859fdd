-- What each test of a model, a file, an area, a row or a column says, and what holds of a model handed over that is accepted. Assumes nothing.
use Rattle.std.specs.Prelude.{ℕ, ◌-◌, ◌*◌, ◌≤◌, ◌<◌, ◌≡◌, refl, ◌↔◌, Bool, true, ◌&&◌, List, [], length, get_or, take, leb, ltb, eqb}
use Rattle.std.proofs.Math.Option.{Option, none}
use Rattle.std.proofs.Common.{arith, get_or-take, length-take-le, leb-true, ltb-true, eqb-true, le-leb, lt-ltb, eq-eqb}
use Rattle.residue.specs.Arithmetic.{is_prime, Prime}
use Rattle.residue.specs.Primes.{is_prime_reads}
use Rattle.columns.specs.Columns.{within}
use Rattle.counting.specs.Bools.{and_in, and_left, and_right}
use Rattle.format.specs.Lists.{All}
use Rattle.format.specs.ListLaws.{all_pass_all, all_at}
use Rattle.limits.specs.Limits.{largest_prime, most_columns, most_rows}
use Rattle.format.specs.Refusals.{head_bytes, said_length, head_test, body_test, due_test, prime_test, size_test, constant_test, parameter_test, end_test, area_test, row_test, column_test, numbers_room, number_test, model_tests, refusal}
use Rattle.format.specs.RefusalLaws.{acceptance_reads}

leb_reads : (x y : ℕ) → (leb x y ≡ true) ↔ (x ≤ y)
leb_reads x y = (leb-true x y, le-leb x y)

and_reads : {P Q : Type 0} (s t : Bool) → (s ≡ true) ↔ P → (t ≡ true) ↔ Q → ((s && t) ≡ true) ↔ (P × Q)
and_reads s t f g = ((λ e. (f.0 (and_left s t e), g.0 (and_right s t e))), (λ v. and_in (f.1 v.0) (g.1 v.1)))

-- 1
pub head_reads : (s : List ℕ) → (head_test s ≡ true) ↔ (head_bytes ≤ length s)
unfolding head_test
head_reads s = leb_reads head_bytes (length s)

pub body_reads : (size : ℕ) (s : List ℕ) → (body_test size s ≡ true) ↔ (size ≤ length s - head_bytes)
unfolding body_test
body_reads size s = leb_reads size (length s - head_bytes)

-- 2
pub due_reads : (tag size : ℕ) (s : List ℕ) → (due_test tag size s ≡ true) ↔ ((get_or s 0 0 ≡ tag) × (said_length s ≡ size))
unfolding due_test
due_reads tag size s = and_reads (eqb (get_or s 0 0) tag) (eqb (said_length s) size) (eqb-true _ _, eq-eqb _ _) (eqb-true _ _, eq-eqb _ _)

-- 3
pub prime_reads : (p : ℕ) → (prime_test p ≡ true) ↔ ((p ≤ largest_prime) × Prime p)
unfolding prime_test
prime_reads p = and_reads (leb p largest_prime) (is_prime p) (leb_reads p largest_prime) (is_prime_reads p)

-- 4
pub size_reads : (n a b : ℕ) → (size_test n a b ≡ true) ↔ ((1 ≤ n) × (n ≤ most_columns) × (a ≤ most_rows) × (b ≤ most_rows))
unfolding size_test
size_reads n a b =
    let three = and_reads (leb 1 n && leb n most_columns) (leb a most_rows) (and_reads (leb 1 n) (leb n most_columns) (leb_reads 1 n) (leb_reads n most_columns)) (leb_reads a most_rows) in
    let four = and_reads (leb 1 n && leb n most_columns && leb a most_rows) (leb b most_rows) three (leb_reads b most_rows) in
    ((λ e. let v = four.0 e in (v.0.0.0, v.0.0.1, v.0.1, v.1)), (λ v. four.1 (((v.0, v.1), v.2), v.3)))

-- 5
pub constant_reads : (p : ℕ) (cs : List ℕ) → (constant_test p cs ≡ true) ↔ All (λ c. c < p) cs
unfolding constant_test
constant_reads p cs = all_pass_all (λ c. ltb c p) (λ c. c < p) (λ c. (ltb-true c p, lt-ltb c p)) cs

-- 6
pub parameter_reads : (n : ℕ) (ws : List ℕ) → (parameter_test n ws ≡ true) ↔ All (λ w. within n w ≡ true) ws
unfolding parameter_test
parameter_reads n ws = all_pass_all (within n) (λ w. within n w ≡ true) (λ w. ((λ e. e), (λ e. e))) ws

-- 7
pub end_reads : (s : List ℕ) → (end_test s ≡ true) ↔ (length s ≡ 0)
unfolding end_test
end_reads s = (eqb-true _ _, eq-eqb _ _)

-- 8
pub area_reads : (k len : ℕ) → (area_test k len ≡ true) ↔ (k ≤ len)
unfolding area_test
area_reads k len = leb_reads k len

-- 9
pub row_reads : (i a : ℕ) → (row_test i a ≡ true) ↔ (i < a)
unfolding row_test
row_reads i a = (ltb-true i a, lt-ltb i a)

-- 11
pub column_reads : (x n : ℕ) → (column_test x n ≡ true) ↔ (x < n)
unfolding column_test
column_reads x n = (ltb-true x n, lt-ltb x n)

-- ---- a model handed over

pub record Accepted (p n a b : ℕ) (cs ws : List ℕ) (ns : Option (List ℕ)) : Type 0 where
  pub prime : Prime p
  pub p_most : p ≤ largest_prime
  pub n_least : 1 ≤ n
  pub n_most : n ≤ most_columns
  pub a_most : a ≤ most_rows
  pub b_most : b ≤ most_rows
  pub constants_lent : a * n ≤ length cs
  pub parameters_lent : b ≤ length ws
  pub numbers_lent : numbers_room (b * n) ns ≡ true
  pub constants_below : All (λ c. c < p) (take (a * n) cs)
  pub parameters_within : All (λ w. within n w ≡ true) (take b ws)
  pub numbers_once : number_test n (take b ws) ns ≡ true

module _ (p n a b : ℕ) (cs ws : List ℕ) (ns : Option (List ℕ)) where
  pub model_accepted : refusal p n a b cs ws ns ≡ 0 → Accepted p n a b cs ws ns
  unfolding refusal model_tests
  model_accepted e =
      let v = (acceptance_reads (model_tests p n a b cs ws ns)).0 e in
      let q = (prime_reads p).0 v.0 in
      let z = (size_reads n a b).0 v.1.0 in
      record {
        prime = q.1;
        p_most = q.0;
        n_least = z.0;
        n_most = z.1;
        a_most = z.2;
        b_most = z.3;
        constants_lent = (area_reads _ _).0 v.1.1.0;
        parameters_lent = (area_reads _ _).0 v.1.1.1.0;
        numbers_lent = v.1.1.1.1.0;
        constants_below = (constant_reads _ _).0 v.1.1.1.1.1.0;
        parameters_within = (parameter_reads _ _).0 v.1.1.1.1.1.1.0;
        numbers_once = v.1.1.1.1.1.1.1.0;
      }

  pub accepted_model : Accepted p n a b cs ws ns → refusal p n a b cs ws ns ≡ 0
  unfolding refusal model_tests
  accepted_model h =
      (acceptance_reads (model_tests p n a b cs ws ns)).1 (
        (prime_reads p).1 (h.p_most, h.prime),
        (
          (size_reads n a b).1 (h.n_least, h.n_most, h.a_most, h.b_most),
          (
            (area_reads _ _).1 h.constants_lent,
            (
              (area_reads _ _).1 h.parameters_lent,
              (
                h.numbers_lent,
                ((constant_reads _ _).1 h.constants_below, ((parameter_reads _ _).1 h.parameters_within, (h.numbers_once, tt))),
              ),
            ),
          ),
        ),
      )

-- a numbered model that is accepted is accepted without its numbers
pub unnumbered_accepted : {p n a b : ℕ} {cs ws : List ℕ} {ns : Option (List ℕ)} → Accepted p n a b cs ws ns → Accepted p n a b cs ws none
unfolding numbers_room number_test
unnumbered_accepted h =
    record {
      prime = h.prime;
      p_most = h.p_most;
      n_least = h.n_least;
      n_most = h.n_most;
      a_most = h.a_most;
      b_most = h.b_most;
      constants_lent = h.constants_lent;
      parameters_lent = h.parameters_lent;
      numbers_lent = refl;
      constants_below = h.constants_below;
      parameters_within = h.parameters_within;
      numbers_once = refl;
    }

-- constant k and parameter row r by their places
module _ {p n a b : ℕ} {cs ws : List ℕ} {ns : Option (List ℕ)} (h : Accepted p n a b cs ws ns) where
  pub constant_below : (k : ℕ) → k < a * n → get_or cs k 0 < p
  constant_below k l =
      let len = length-take-le (a * n) cs h.constants_lent in
      rw (get_or-take (a * n) cs k 0 l) at (all_at (λ c. c < p) (take (a * n) cs) 0 h.constants_below k (omega arith))

-- the constants of an accepted model, without its parameter rows
pub constants_accepted : {p n a b : ℕ} {cs ws : List ℕ} {ns : Option (List ℕ)} → Accepted p n a b cs ws ns → Accepted p n a 0 cs [] none
unfolding numbers_room number_test
constants_accepted h = record {
  prime = h.prime;
  p_most = h.p_most;
  n_least = h.n_least;
  n_most = h.n_most;
  a_most = h.a_most;
  b_most = omega arith;
  constants_lent = h.constants_lent;
  parameters_lent = omega arith;
  numbers_lent = refl;
  constants_below = h.constants_below;
  parameters_within = tt;
  numbers_once = refl;
}
