-- A model handed over: where it is accepted it is of the stated form, so its file is accepted and read back. Assumes nothing.
use Rattle.std.specs.Prelude.{ℕ, zero, suc, ◌+◌, ◌*◌, ◌^◌, ◌≤◌, ◌<◌, ◌≡◌, refl, true, List, [], ◌∷◌, ◌++◌, length, get_or, take, drop}
use Rattle.std.proofs.Common.{sym, ap, ◌∙◌, subst, arith, suc-mul, length-drop, take-add}
use Rattle.std.proofs.Math.Option.{Option, none, some, some-injective, some-ne-none}
use Rattle.std.proofs.Math.Seq.{length-take-le}
use Rattle.columns.specs.Columns.{width, within}
use Rattle.format.specs.Lists.{All, rows_of}
use Rattle.format.specs.Numbers.{numbers_in, numbers_of}
use Rattle.format.specs.NumberLaws.{numbers_length, numbers_count}
use Rattle.format.specs.Refusals.{numbers_room, number_test, refusal}
use Rattle.format.specs.TestLaws.{area_reads, model_accepted}
use Rattle.format.specs.File.Format.{ValidNumbers, ValidModel, judge, decode, encode, handed_over}
use Rattle.format.specs.File.FormatLaws.{decode_encode, encoded_accepted}

-- ---- an accepted model is of the stated form

all_append : {A : Type 0} (Is : A → Type 0) (xs ys : List A) → All Is (xs ++ ys) → All Is xs × All Is ys
all_append Is [] ys v = (tt, v)
all_append Is (x ∷ xs) ys v = let i = all_append Is xs ys v.1 in ((v.0, i.0), i.1)

rows_all : (Is : ℕ → Type 0) (n k : ℕ) (s : List ℕ) → k * n ≤ length s → All Is (take (k * n) s) → (length (rows_of n k s) ≡ k) × All (λ r. (length r ≡ n) × All Is r) (rows_of n k s)
unfolding rows_of
rows_all Is n zero s h v = (refl, tt)
rows_all Is n (suc k) s h v =
    let m : suc k * n ≡ n + k * n = suc-mul k n ∙ omega arith in
    let cut : take (suc k * n) s ≡ take n s ++ take (k * n) (drop n s) = ap (λ (j : ℕ). take j s) m ∙ take-add n (k * n) s in
    let w = all_append Is (take n s) _ (rw cut at v) in
    let i = rows_all Is n k (drop n s) (rw length-drop (omega arith)) w.1 in
    (ap suc i.0, ((length-take-le n s (omega arith), w.0), i.1))

words_all : (n k : ℕ) (s : List ℕ) → ((i : ℕ) → get_or s i 0 < 2 ^ width) → All (λ w. within n w ≡ true) (take k s) → All (λ w. (w < 2 ^ width) × (within n w ≡ true)) (take k s)
words_all n zero s h v = tt
words_all n (suc k) [] h v = tt
words_all n (suc k) (w ∷ s) h v = ((h 0, v.0), words_all n k s (λ i. h (suc i)) v.1)

-- the numbers of rows that an area holds, each of them met once
numbers_valid : (n : ℕ) (ws : List ℕ) (ns : Option (List ℕ)) → numbers_room (length ws * n) ns ≡ true → number_test n ws ns ≡ true
    → ((ks : List ℕ) → ns ≡ some ks → (i : ℕ) → get_or ks i 0 < 65536) → (kss : List (List ℕ)) → numbers_of n ws ns ≡ some kss → ValidNumbers n ws kss
unfolding numbers_of numbers_room number_test
numbers_valid n [] ns r t small kss q = absurd (some-ne-none kss (sym q))
numbers_valid n (w ∷ ws) none r t small kss q = absurd (some-ne-none kss (sym q))
numbers_valid n (w ∷ ws) (some ks) r t small kss q =
    subst (ValidNumbers n (w ∷ ws)) (some-injective (numbers_in n (w ∷ ws) ks) kss q) (record {
      some_row = omega arith;
      number_rows = numbers_length n (w ∷ ws) ks;
      rows_numbered = numbers_count n (w ∷ ws) ks ((area_reads _ _).0 r) (small ks refl);
      all_once = t;
    })

module _ (p n a b : ℕ) (cs ws : List ℕ) (ns : Option (List ℕ)) (words : (i : ℕ) → get_or ws i 0 < 2 ^ width) (small : (ks : List ℕ) → ns ≡ some ks → (i : ℕ) → get_or ks i 0 < 65536)
    (e : refusal p n a b cs ws ns ≡ 0) where
  pub handed_over_valid : ValidModel (handed_over p n a b cs ws ns)
  unfolding handed_over
  handed_over_valid =
      let h = model_accepted p n a b cs ws ns e in
      let r = rows_all (λ c. c < p) n a cs h.constants_lent h.constants_below in
      record {
        prime = h.prime;
        p_most = h.p_most;
        n_least = h.n_least;
        n_most = h.n_most;
        a_most = h.a_most;
        b_most = h.b_most;
        constant_rows = r.0;
        constants_below = r.1;
        parameter_rows = length-take-le b ws h.parameters_lent;
        parameters_within = words_all n b ws words h.parameters_within;
        numbers_are = numbers_valid n (take b ws) ns (ap (λ (k : ℕ). numbers_room (k * n) ns) (length-take-le b ws h.parameters_lent) ∙ h.numbers_lent) h.numbers_once small;
      }

  -- what is written of it is accepted, and read back
  pub written_accepted : judge (encode (handed_over p n a b cs ws ns)) ≡ 0
  written_accepted = encoded_accepted _ handed_over_valid

  pub written_read : decode (encode (handed_over p n a b cs ws ns)) ≡ handed_over p n a b cs ws ns
  written_read = decode_encode _ handed_over_valid
