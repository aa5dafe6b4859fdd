-- The laws of the tests of `Solve`: how the code comes to them, and what they say. Assumes nothing.
use Rattle.std.specs.Prelude.{ℕ, ◌*◌, ◌≤◌, ◌<◌, ◌≡◌, false, ◌&&◌, List, length, get_or}
use Rattle.std.proofs.Math.Path.{refl}
use Rattle.std.proofs.Math.Bool.{true}
use Rattle.std.proofs.Math.Dec.{leb, ltb}
use borrow.Author.Tests.{leb-true, lt-ltb, ltb-true}
use Rattle.limits.specs.Limits.{most_columns, most_rows}
use Rattle.residue.specs.Arithmetic.{is_prime}
use Rattle.counting.specs.Bools.{and_left, and_right}
use Rattle.counting.specs.Counts.{all_iff}
use Rattle.columns.specs.Columns.{within}
use Rattle.exchange.specs.Solve.{all_below, fitting, admissible}

pub all_below_iff : (p k : ℕ) (cs : List ℕ) → (all_below p k cs ≡ true → (i : ℕ) → i < k → get_or cs i 0 < p) × (((i : ℕ) → i < k → get_or cs i 0 < p) → all_below p k cs ≡ true)
unfolding all_below
all_below_iff p k cs = (
  (λ e i l. ltb-true (get_or cs i 0) p ((all_iff k (λ i. ltb (get_or cs i 0) p)).0 e i l)),
  λ h. (all_iff k (λ i. ltb (get_or cs i 0) p)).1 (λ i l. lt-ltb (get_or cs i 0) p (h i l)),
)

pub record Fitting (n a b c w : ℕ) : Type 0 where
  pub columns : n ≤ most_columns
  pub constant_rows : a ≤ most_rows
  pub parameter_rows : b ≤ most_rows
  pub constants_lent : a * n ≤ c
  pub parameters_lent : b ≤ w

module _ (n a b c w : ℕ) (e : fitting n a b c w ≡ true) where
  pub fitting_reads : Fitting n a b c w
  unfolding fitting
  fitting_reads =
      let s1 : (leb n most_columns && leb a most_rows && leb b most_rows && leb (a * n) c) ≡ true = and_left (leb n most_columns && leb a most_rows && leb b most_rows && leb (a * n) c) (leb b w) e in
      let s2 : (leb n most_columns && leb a most_rows && leb b most_rows) ≡ true = and_left (leb n most_columns && leb a most_rows && leb b most_rows) (leb (a * n) c) s1 in
      let s3 : (leb n most_columns && leb a most_rows) ≡ true = and_left (leb n most_columns && leb a most_rows) (leb b most_rows) s2 in
      record {
        columns = leb-true n most_columns (and_left (leb n most_columns) (leb a most_rows) s3);
        constant_rows = leb-true a most_rows (and_right (leb n most_columns) (leb a most_rows) s3);
        parameter_rows = leb-true b most_rows (and_right (leb n most_columns && leb a most_rows) (leb b most_rows) s2);
        constants_lent = leb-true (a * n) c (and_right (leb n most_columns && leb a most_rows && leb b most_rows) (leb (a * n) c) s1);
        parameters_lent = leb-true b w (and_right (leb n most_columns && leb a most_rows && leb b most_rows && leb (a * n) c) (leb b w) e);
      }

-- the tests one after another
module _ (p n a b offered : ℕ) (cs ws : List ℕ) where
  pub at_fitting : fitting n a b (length cs) (length ws) ≡ false → false ≡ admissible p n a b offered cs ws
  unfolding admissible
  at_fitting e = rw e refl

  module _ (f : fitting n a b (length cs) (length ws) ≡ true) where
    pub at_inside : within n offered ≡ false → false ≡ admissible p n a b offered cs ws
    unfolding admissible
    at_inside e = rw (f, e) refl

    module _ (i : within n offered ≡ true) where
      pub at_short : ltb p 65536 ≡ false → false ≡ admissible p n a b offered cs ws
      unfolding admissible
      at_short e = rw (f, i, e) refl

      module _ (s : ltb p 65536 ≡ true) where
        pub at_prime : is_prime p ≡ false → false ≡ admissible p n a b offered cs ws
        unfolding admissible
        at_prime e = rw (f, i, s, e) refl

        pub at_last : is_prime p ≡ true → all_below p (a * n) cs ≡ admissible p n a b offered cs ws
        unfolding admissible
        at_last e = rw (f, i, s, e) refl

-- what holds of a model that is admissible
pub record Admissible (p n a b offered : ℕ) (cs ws : List ℕ) : Type 0 where
  pub fits : Fitting n a b (length cs) (length ws)
  pub inside : within n offered ≡ true
  pub short_prime : p < 65536
  pub prime : is_prime p ≡ true
  pub low : all_below p (a * n) cs ≡ true

module _ (p n a b offered : ℕ) (cs ws : List ℕ) (e : admissible p n a b offered cs ws ≡ true) where
  pub admissible_reads : Admissible p n a b offered cs ws
  unfolding admissible
  admissible_reads =
      let f = fitting n a b (length cs) (length ws) in
      let s1 : (f && within n offered && ltb p 65536 && is_prime p) ≡ true = and_left (f && within n offered && ltb p 65536 && is_prime p) (all_below p (a * n) cs) e in
      let s2 : (f && within n offered && ltb p 65536) ≡ true = and_left (f && within n offered && ltb p 65536) (is_prime p) s1 in
      let s3 : (f && within n offered) ≡ true = and_left (f && within n offered) (ltb p 65536) s2 in
      record {
        fits = fitting_reads n a b (length cs) (length ws) (and_left f (within n offered) s3);
        inside = and_right f (within n offered) s3;
        short_prime = ltb-true p 65536 (and_right (f && within n offered) (ltb p 65536) s2);
        prime = and_right (f && within n offered && ltb p 65536) (is_prime p) s1;
        low = and_right (f && within n offered && ltb p 65536 && is_prime p) (all_below p (a * n) cs) e;
      }
