-- The tests of a model with powers, beside those of the model alone: which number is given, as the code finds it. Assumes nothing.
use Prim.Native.Nat.{ℕ, ◌*◌, ◌≤◌}
use mathlib.Core.Path.{◌≡◌, refl, sym, ◌∙◌}
use mathlib.Core.Logic.{◌≢◌, ◌⊎◌, inl, inr}
use mathlib.Core.Bool.{Bool, true, false, ◌&&◌, true≢false}
use mathlib.Core.List.{List, [], ◌∷◌}
use mathlib.Core.Option.{Option}
use native.Mathlib.Omega.{arith}
use lib.Dec.{leb}
use lib.ListN.{length, take}
use borrow.Author.Tests.{leb-true}
use Rattle.counting.specs.Bools.{and_left, and_right}
use Rattle.format.specs.Refusals.{Tests, unless, ◌then◌, first_refusal, not_prime, sizes_beyond, constant_beyond, parameter_beyond, area_short, number_twice, prime_test, size_test, constant_test, parameter_test, area_test, numbers_room, number_test, area_tests, content_tests, model_tests, refusal}
use Rattle.format.specs.RefusalLaws.{then_refused, then_passed, zero_then, zero_unless}
use Rattle.format.specs.TestLaws.{area_reads}
use Rattle.listed_models.specs.ListedModel.{listed_model}
use Rattle.degrees.specs.Degrees.{listed_powers}
use Rattle.degree.specs.Answers.{power_areas, dynamic_tests, degree_question}

-- tests that pass between others change nothing
between : (ts us vs : Tests) → first_refusal us ≡ 0 → first_refusal (ts then us then vs) ≡ first_refusal (ts then vs)
unfolding first_refusal
between [] us vs e = sym (then_passed us vs (first_refusal vs) e refl)
between ((true, c) ∷ ts) us vs e = between ts us vs e
between ((false, c) ∷ ts) us vs e = refl

-- an area that is too short among six gives 8
short_areas : (t u v x y z : Bool) (ts : Tests) → (x && y && z) ≡ false
    → 8 ≡ first_refusal (unless t area_short then unless u area_short then unless v area_short then unless x area_short then unless y area_short then unless z area_short then ts)
unfolding first_refusal
short_areas false u v x y z ts e = refl
short_areas true false v x y z ts e = refl
short_areas true true false x y z ts e = refl
short_areas true true true false y z ts e = refl
short_areas true true true true false z ts e = refl
short_areas true true true true true false ts e = refl
short_areas true true true true true true ts e = absurd (true≢false e)

-- neither 3 nor 4 comes from the areas or from what stands in them
later : (t u v x y z : Bool) → let k = first_refusal (unless t area_short then unless u area_short then unless v area_short then unless x constant_beyond then unless y parameter_beyond then unless z number_twice) in
    (k ≢ 3) × (k ≢ 4)
unfolding first_refusal
later false u v x y z = (λ e. omega arith, λ e. omega arith)
later true false v x y z = (λ e. omega arith, λ e. omega arith)
later true true false x y z = (λ e. omega arith, λ e. omega arith)
later true true true false y z = (λ e. omega arith, λ e. omega arith)
later true true true true false z = (λ e. omega arith, λ e. omega arith)
later true true true true true false = (λ e. omega arith, λ e. omega arith)
later true true true true true true = (λ e. omega arith, λ e. omega arith)

module _ (t u : Bool) (ts us : Tests) where
  -- the first two tests alone give 3 and 4,
  first_two : (k : ℕ) → (first_refusal ts ≢ 3) × (first_refusal ts ≢ 4) → k ≡ first_refusal (unless t not_prime then unless u sizes_beyond then ts) → ((k ≡ 3) ⊎ (k ≡ 4))
      → k ≡ first_refusal (unless t not_prime then unless u sizes_beyond then us)
  unfolding first_refusal
  first_two k none e w = go t u e
    where
      go : (t u : Bool) → k ≡ first_refusal (unless t not_prime then unless u sizes_beyond then ts) → k ≡ first_refusal (unless t not_prime then unless u sizes_beyond then us)
      go false u q = q
      go true false q = q
      go true true q = elim w [ inl z ↦ absurd (none.0 (sym q ∙ z)) | inr z ↦ absurd (none.1 (sym q ∙ z)) ]

  -- so another number says that they pass
  two_pass : (k : ℕ) → k ≡ first_refusal (unless t not_prime then unless u sizes_beyond then ts) → k ≢ 3 → k ≢ 4 → (t ≡ true) × (u ≡ true)
  unfolding first_refusal
  two_pass k e n3 n4 = go t u e
    where
      go : (t u : Bool) → k ≡ first_refusal (unless t not_prime then unless u sizes_beyond then ts) → (t ≡ true) × (u ≡ true)
      go false u q = absurd (n3 q)
      go true false q = absurd (n4 q)
      go true true q = (refl, refl)

module _ (n a b : ℕ) (rp cp pp : List ℕ) where
  -- the areas of powers hold them
  abbrev hold : Bool
  hold = leb a (length rp) && leb n (length cp) && leb (b * n) (length pp)

  pub hold_reads : hold ≡ true → (a ≤ length rp) × (n ≤ length cp) × (b * n ≤ length pp)
  hold_reads h =
      let w : (leb a (length rp) && leb n (length cp)) ≡ true = and_left (leb a (length rp) && leb n (length cp)) (leb (b * n) (length pp)) h in (
        leb-true a (length rp) (and_left (leb a (length rp)) (leb n (length cp)) w),
        leb-true n (length cp) (and_right (leb a (length rp)) (leb n (length cp)) w),
        leb-true (b * n) (length pp) (and_right (leb a (length rp) && leb n (length cp)) (leb (b * n) (length pp)) h),
      )

  hold_passes : hold ≡ true → first_refusal (power_areas n a b rp cp pp) ≡ 0
  hold_passes h = let w = hold_reads h in
      zero_then _ _ (zero_unless _ area_short ((area_reads _ _).1 w.0)) (zero_then _ _ (zero_unless _ area_short ((area_reads _ _).1 w.1)) (zero_unless _ area_short ((area_reads _ _).1 w.2)))

  -- beside a file they alone are judged before the question
  pub areas_short : (ts : Tests) → hold ≡ false → 8 ≡ first_refusal (power_areas n a b rp cp pp then ts)
  unfolding area_test first_refusal
  areas_short ts h = short_areas true true true (leb a (length rp)) (leb n (length cp)) (leb (b * n) (length pp)) ts h

  pub areas_passed : (ts : Tests) → hold ≡ true → first_refusal ts ≡ first_refusal (power_areas n a b rp cp pp then ts)
  areas_passed ts h = then_passed (power_areas n a b rp cp pp) ts _ (hold_passes h) refl

module _ (p n a b : ℕ) (cs ws : List ℕ) (ns : Option (List ℕ)) (rp cp pp : List ℕ) where
  abbrev question : Tests
  question = degree_question (listed_model p n a b cs ws) (listed_powers n rp cp pp)

  abbrev all_tests : Tests
  all_tests = dynamic_tests p n a b cs ws ns rp cp pp

  module _ (k : ℕ) (e : k ≡ refusal p n a b cs ws ns) where
    -- 3 and 4 as of the model,
    pub sizes_refused : ((k ≡ 3) ⊎ (k ≡ 4)) → k ≡ first_refusal all_tests
    unfolding refusal model_tests
    sizes_refused = first_two (prime_test p) (size_test n a b) _ _ k (later (area_test (a * n) (length cs)) (area_test b (length ws)) (numbers_room (b * n) ns)
        (constant_test p (take (a * n) cs)) (parameter_test n (take b ws)) (number_test n (take b ws) ns)) e

    pub sizes_pass : k ≢ 3 → k ≢ 4 → (prime_test p ≡ true) × (size_test n a b ≡ true)
    unfolding refusal model_tests
    sizes_pass = two_pass (prime_test p) (size_test n a b) _ [] k e

    -- then 8 for the areas of powers,
    pub areas_refused : k ≢ 3 → k ≢ 4 → hold n a b rp cp pp ≡ false → 8 ≡ first_refusal all_tests
    unfolding area_test first_refusal
    areas_refused n3 n4 h = let w : (prime_test p ≡ true) × (size_test n a b ≡ true) = sizes_pass n3 n4 in
        rw (w.0, w.1) (short_areas (leb (a * n) (length cs)) (leb b (length ws)) (numbers_room (b * n) ns) (leb a (length rp)) (leb n (length cp)) (leb (b * n) (length pp)) (content_tests p n a b cs ws ns then question) h)

    -- then what else is refused of the model,
    pub model_refused : hold n a b rp cp pp ≡ true → k ≢ 0 → k ≡ first_refusal all_tests
    unfolding refusal model_tests
    model_refused h nz = then_refused (area_tests p n a b cs ws ns then content_tests p n a b cs ws ns) question k e nz
        ∙ sym (between (area_tests p n a b cs ws ns) (power_areas n a b rp cp pp) (content_tests p n a b cs ws ns then question) (hold_passes n a b rp cp pp h))

    -- and then the question alone
    pub question_left : hold n a b rp cp pp ≡ true → k ≡ 0 → first_refusal question ≡ first_refusal all_tests
    unfolding refusal model_tests
    question_left h z = then_passed (area_tests p n a b cs ws ns then content_tests p n a b cs ws ns) question _ (sym e ∙ z) refl
        ∙ sym (between (area_tests p n a b cs ws ns) (power_areas n a b rp cp pp) (content_tests p n a b cs ws ns then question) (hold_passes n a b rp cp pp h))
