-- How refusals read: number k is given exactly where cause k holds and none that is judged before it; 0, where none holds.
-- Stated once over a list of tests; then what each test says, and what holds of a model that is accepted. Assumes nothing.
use Rattle.std.specs.Prelude.{ℕ, zero, suc, ◌<◌, ◌≡◌, refl, ◌≢◌, ◌↔◌, Bool, true, false, [], ◌∷◌}
use Rattle.std.proofs.Common.{sym, ap, ◌∙◌, arith}
use Rattle.std.proofs.lemmas.Bool.{false≢true}
use Rattle.format.specs.Lists.{All}
use Rattle.format.specs.Refusals.{Cause, truncated, unexpected, not_prime, sizes_beyond, constant_beyond, parameter_beyond, trailing, area_short, row_beyond, not_mixed, column_beyond, column_placed, number_twice, already_so, no_degree, number_of, Tests, unless, ◌then◌, first_refusal, where_accepted}

-- ---- the reading of a number

-- some test that gives k fails, and all before it pass
pub record Caused (ts : Tests) (k : ℕ) : Type 0 where
  pub before : Tests
  pub cause : Cause
  pub after : Tests
  pub order : ts ≡ (before then unless false cause then after)
  pub passed : All (λ t. t.0 ≡ true) before
  pub number : number_of cause ≡ k

pub number_pos : (c : Cause) → 0 < number_of c
number_pos truncated = omega arith
number_pos unexpected = omega arith
number_pos not_prime = omega arith
number_pos sizes_beyond = omega arith
number_pos constant_beyond = omega arith
number_pos parameter_beyond = omega arith
number_pos trailing = omega arith
number_pos area_short = omega arith
number_pos row_beyond = omega arith
number_pos not_mixed = omega arith
number_pos column_beyond = omega arith
number_pos column_placed = omega arith
number_pos number_twice = omega arith
number_pos already_so = omega arith
number_pos no_degree = omega arith

caused_by_first : (ts : Tests) (k : ℕ) → k ≢ 0 → first_refusal ts ≡ k → Caused ts k
unfolding first_refusal
caused_by_first [] k h e = absurd (h (sym e))
caused_by_first ((true, c) ∷ ts) k h e =
    let i = caused_by_first ts k h e in
    record {
      before = (true, c) ∷ i.before;
      cause = i.cause;
      after = i.after;
      order = ap (λ (us : Tests). (true, c) ∷ us) i.order;
      passed = (refl, i.passed);
      number = i.number;
    }
caused_by_first ((false, c) ∷ ts) k h e = record { before = []; cause = c; after = ts; order = refl; passed = tt; number = e }

first_caused : (before after : Tests) (c : Cause) → All (λ t. t.0 ≡ true) before → first_refusal (before then unless false c then after) ≡ number_of c
unfolding first_refusal
first_caused [] after c v = refl
first_caused ((true, d) ∷ ts) after c v = first_caused ts after c v.1
first_caused ((false, d) ∷ ts) after c v = absurd (false≢true v.0)

pub refusal_reads : (ts : Tests) (k : ℕ) → k ≢ 0 → (first_refusal ts ≡ k) ↔ Caused ts k
refusal_reads ts k h = (
  caused_by_first ts k h,
  λ x. ap first_refusal x.order ∙ first_caused x.before x.after x.cause x.passed ∙ x.number,
)

pub acceptance_reads : (ts : Tests) → (first_refusal ts ≡ 0) ↔ All (λ t. t.0 ≡ true) ts
unfolding first_refusal
acceptance_reads ts = (to ts, from ts)
  where
    to : (ts : Tests) → first_refusal ts ≡ 0 → All (λ t. t.0 ≡ true) ts
    to [] e = tt
    to ((true, c) ∷ ts) e = (refl, to ts e)
    to ((false, c) ∷ ts) e = absurd (omega (arith, number_pos c))

    from : (ts : Tests) → All (λ t. t.0 ≡ true) ts → first_refusal ts ≡ 0
    from [] v = refl
    from ((true, c) ∷ ts) v = from ts v.1
    from ((false, c) ∷ ts) v = absurd (false≢true v.0)

-- ---- tests in their order, as code makes them

pub first_fails : (t : Bool) (c : Cause) (ts : Tests) → t ≡ false → number_of c ≡ first_refusal (unless t c then ts)
unfolding first_refusal
first_fails t c ts e = rw e refl

pub first_passes : (t : Bool) (c : Cause) (ts : Tests) (r : ℕ) → t ≡ true → r ≡ first_refusal ts → r ≡ first_refusal (unless t c then ts)
unfolding first_refusal
first_passes t c ts r e h = rw e h

pub first_none : 0 ≡ first_refusal []
unfolding first_refusal
first_none = refl

-- a refusal is handed on; after tests that passed the others are made
pub then_refused : (ts us : Tests) (r : ℕ) → r ≡ first_refusal ts → r ≢ 0 → r ≡ first_refusal (ts then us)
unfolding first_refusal
then_refused [] us r e h = absurd (h e)
then_refused ((true, c) ∷ ts) us r e h = then_refused ts us r e h
then_refused ((false, c) ∷ ts) us r e h = e

pub then_passed : (ts us : Tests) (r : ℕ) → first_refusal ts ≡ 0 → r ≡ first_refusal us → r ≡ first_refusal (ts then us)
unfolding first_refusal
then_passed [] us r e h = h
then_passed ((true, c) ∷ ts) us r e h = then_passed ts us r e h
then_passed ((false, c) ∷ ts) us r e h = absurd (omega (arith, number_pos c))

-- where nothing is refused, all tests pass
pub then_zero : (ts us : Tests) → first_refusal (ts then us) ≡ 0 → (first_refusal ts ≡ 0) × (first_refusal us ≡ 0)
unfolding first_refusal
then_zero [] us e = (refl, e)
then_zero ((true, c) ∷ ts) us e = then_zero ts us e
then_zero ((false, c) ∷ ts) us e = absurd (omega (arith, number_pos c))

pub zero_then : (ts us : Tests) → first_refusal ts ≡ 0 → first_refusal us ≡ 0 → first_refusal (ts then us) ≡ 0
zero_then ts us e h = sym (then_passed ts us 0 e (sym h))

pub unless_zero : (t : Bool) (c : Cause) → first_refusal (unless t c) ≡ 0 → t ≡ true
unless_zero t c e = ((acceptance_reads (unless t c)).0 e).0

pub zero_unless : (t : Bool) (c : Cause) → t ≡ true → first_refusal (unless t c) ≡ 0
zero_unless t c e = sym (first_passes t c [] 0 e first_none)

-- a last test that passes changes nothing
pub last_passed : (ts : Tests) (t : Bool) (c : Cause) → t ≡ true → first_refusal ts ≡ first_refusal (ts then unless t c)
unfolding first_refusal
last_passed [] t c e = sym (zero_unless t c e)
last_passed ((true, d) ∷ ts) t c e = last_passed ts t c e
last_passed ((false, d) ∷ ts) t c e = refl

-- ---- a result where nothing was refused, or what stands for it

module _ {A : Type 0} {k : ℕ} (r : ℕ) (e : r ≡ k) where
  pub where_refused : r ≢ 0 → (x other : A) → where_accepted k x other ≡ other
  where_refused h x other = go k e
    where
      go : (j : ℕ) → r ≡ j → where_accepted j x other ≡ other
      go zero q = absurd (h q)
      go (suc j) q = refl

  pub accepted_value : r ≡ 0 → (x other : A) → where_accepted k x other ≡ x
  accepted_value z x other = rw (← e, z) refl
