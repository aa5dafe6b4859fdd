-- The law of each field's body: what passes its tests is of the stated form, and reading and writing undo one another. Assumes nothing.
use Rattle.std.specs.Prelude.{ℕ, zero, suc, ◌+◌, ◌*◌, ◌/◌, ◌%◌, ◌^◌, ◌≤◌, ◌<◌, ◌≡◌, refl, true, List, [], ◌∷◌, ◌++◌, length, get_or}
use Rattle.std.proofs.Common.{sym, ap, ◌∙◌, arith, lt_of_lt_of_le, take_all, pow_mono, ltb-true}
use Rattle.residue.specs.Arithmetic.{Prime}
use Rattle.columns.specs.Bytes.{number, bytes_of}
use Rattle.columns.specs.Columns.{width, within}
use Rattle.columns.specs.Words.Bytes.{AreBytes, bytes_of_length, number_bytes, number_below}
use Rattle.columns.specs.Words.Operations.{within_pow}
use Rattle.format.specs.Lists.{All}
use Rattle.format.specs.Numbers.{once}
use Rattle.limits.specs.Limits.{largest_prime, most_columns, most_rows}
use Rattle.format.specs.Refusals.{first_refusal}
use Rattle.format.specs.RefusalLaws.{unless_zero, zero_unless}
use Rattle.format.specs.TestLaws.{prime_reads, size_reads, constant_reads}
use Rattle.format.specs.File.Format.{parameter_size, entries, entry_bytes, prime_body, sizes_body, constant_body, parameter_body, number_body, end_body}
use Rattle.format.specs.File.PieceLaws.{BodyLaw}
use Rattle.format.specs.File.RowSizes.{parameter_size_most, parameter_room}

-- ---- numbers

bytes_number : (k : ℕ) (b : List ℕ) → AreBytes b → length b ≡ k → bytes_of k (number b) ≡ b
bytes_number zero [] h e = refl
bytes_number zero (x ∷ b) h e = absurd (omega arith)
bytes_number (suc k) [] h e = absurd (omega arith)
bytes_number (suc k) (x ∷ b) h e =
    let hx = h 0 in
    let lo : (x + 256 * number b) % 256 ≡ x = omega arith in
    let hi : (x + 256 * number b) / 256 ≡ number b = omega arith in
    let i = bytes_number k b (λ j. h (suc j)) (omega arith) in
    rw (lo, hi, i)

-- ---- p, and n, a, b

abbrev pub IsPrime : ℕ → Type 0
IsPrime p = (p ≤ largest_prime) × Prime p

pub prime_law : BodyLaw prime_body IsPrime
prime_law =
    record {
      small = omega arith;
      good = λ b h l e. ((prime_reads (number b)).0 (unless_zero _ _ e), bytes_number 2 b h l);
      back = λ p v.
          let q : number (bytes_of 2 p) ≡ p = number_bytes 2 p (omega arith) in
          (refl, zero_unless _ _ ((prime_reads (number (bytes_of 2 p))).1 (rw q v)), q);
    }

abbrev pub IsSizes : ℕ × ℕ × ℕ → Type 0
IsSizes z = (1 ≤ z.0) × (z.0 ≤ most_columns) × (z.1 ≤ most_rows) × (z.2 ≤ most_rows)

three : (b : List ℕ) → length b ≡ 3 → (get_or b 0 0 ∷ get_or b 1 0 ∷ get_or b 2 0 ∷ []) ≡ b
three [] l = absurd (omega arith)
three (x ∷ []) l = absurd (omega arith)
three (x ∷ y ∷ []) l = absurd (omega arith)
three (x ∷ y ∷ z ∷ []) l = refl
three (x ∷ y ∷ z ∷ u ∷ b) l = absurd (omega arith)

pub sizes_law : BodyLaw sizes_body IsSizes
sizes_law =
    record {
      small = omega arith;
      good = λ b h l e. ((size_reads _ _ _).0 (unless_zero _ _ e), three b l);
      back = λ z v. (refl, zero_unless _ _ ((size_reads z.0 z.1 z.2).1 v), refl);
    }

-- ---- rows

entries_good : (n : ℕ) (b : List ℕ) → AreBytes b → length b ≡ 2 * n → (length (entries b) ≡ n) × (entry_bytes (entries b) ≡ b)
unfolding entries entry_bytes
entries_good n [] h l = (omega arith, refl)
entries_good n (x ∷ []) h l = absurd (omega arith)
entries_good zero (x ∷ y ∷ b) h l = absurd (omega arith)
entries_good (suc n) (x ∷ y ∷ b) h l =
    let hx = h 0 in
    let i = entries_good n b (λ j. h (suc (suc j))) (omega arith) in
    let lo : (x + 256 * y) % 256 ≡ x = omega arith in
    let hi : (x + 256 * y) / 256 ≡ y = omega arith in
    (ap suc i.0, rw (lo, hi, i.1))

pub entries_back : (cs : List ℕ) → (length (entry_bytes cs) ≡ 2 * length cs) × (entries (entry_bytes cs) ≡ cs)
unfolding entries entry_bytes
entries_back [] = (refl, refl)
entries_back (c ∷ cs) =
    let i = entries_back cs in
    let q : c % 256 + 256 * (c / 256) ≡ c = omega arith in
    (omega arith, rw (q, i.1))

abbrev pub IsConstants : ℕ → ℕ → List ℕ → Type 0
IsConstants p n r = (length r ≡ n) × All (λ c. c < p) r

pub constant_law : (p n : ℕ) → n ≤ most_columns → BodyLaw (constant_body p n) (IsConstants p n)
constant_law p n k =
    record {
      small = omega arith;
      good = λ b h l e. let g = entries_good n b h l in ((g.0, (constant_reads p (entries b)).0 (unless_zero _ _ e)), g.1);
      back = λ cs v. let g = entries_back cs in (omega arith, zero_unless _ _ ((constant_reads p (entries (entry_bytes cs))).1 (rw g.1 v.1)), g.1);
    }

abbrev pub IsParameters : ℕ → ℕ → Type 0
IsParameters n w = (w < 2 ^ width) × (within n w ≡ true)

pub parameter_law : (n : ℕ) → n ≤ most_columns → BodyLaw (parameter_body n) (IsParameters n)
parameter_law n k =
    record {
      small = omega (arith, parameter_size_most n);
      good = λ b h l e.
          let below = number_below (parameter_size n) b h in
          let all = take_all (parameter_size n) b (omega arith) in
          ((lt_of_lt_of_le (rw all at below) room, unless_zero _ _ e), bytes_number (parameter_size n) b h l);
      back = λ w v.
          let q : number (bytes_of (parameter_size n) w) ≡ w = number_bytes (parameter_size n) w (lt_of_lt_of_le (in_n w v) enough) in
          (bytes_of_length (parameter_size n) w, zero_unless _ _ (ap (within n) q ∙ v.1), q);
    }
  where
    -- a set has room for the body's bits, and the body has one for each column
    room : 2 ^ (8 * parameter_size n) ≤ 2 ^ width
    room = pow_mono {i = 8 * parameter_size n} {j = width} (omega (arith, parameter_size_most n))

    enough : 2 ^ n ≤ 2 ^ (8 * parameter_size n)
    enough = pow_mono {i = n} {j = 8 * parameter_size n} (parameter_room n k)

    in_n : (w : ℕ) → IsParameters n w → w < 2 ^ n
    in_n w v = ltb-true w (2 ^ n) (sym (within_pow width n w v.0) ∙ v.1)

-- ---- numbers of parameters

abbrev pub IsNumbers : ℕ → List ℕ → List ℕ → Type 0
IsNumbers k before ks = (length ks ≡ k) × All (λ x. x < 65536) ks × (once (before ++ ks) ≡ true)

entries_small : (b : List ℕ) → AreBytes b → All (λ x. x < 65536) (entries b)
unfolding entries
entries_small [] h = tt
entries_small (x ∷ []) h = tt
entries_small (x ∷ y ∷ b) h = let hx = h 0 in let hy = h 1 in (omega arith, entries_small b (λ j. h (suc (suc j))))

pub number_law : (k : ℕ) (before : List ℕ) → 2 * k < 65536 → BodyLaw (number_body k before) (IsNumbers k before)
number_law k before l =
    record {
      small = l;
      good = λ b h m e. let g = entries_good k b h m in ((g.0, entries_small b h, unless_zero _ _ e), g.1);
      back = λ ks v. let g = entries_back ks in (omega arith, zero_unless _ _ (ap (λ (t : List ℕ). once (before ++ t)) g.1 ∙ v.2), g.1);
    }

pub end_law : BodyLaw end_body (λ x. Unit {0})
unfolding first_refusal
end_law =
    record {
      small = omega arith;
      good = λ b h l e. (tt, nil b l);
      back = λ x v. (refl, refl, refl);
    }
  where
    nil : (b : List ℕ) → length b ≡ 0 → [] ≡ b
    nil [] l = refl
    nil (x ∷ b) l = absurd (omega arith)
