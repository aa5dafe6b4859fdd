-- A model is accepted, with the columns of a set offered, exactly where the solver takes it and the tests that the solver does not make pass; and what then
-- holds of the answer.
-- Assumes nothing.
use Prim.Native.Nat.{ℕ, zero, suc, ◌+◌, ◌*◌, ◌^◌, ◌≤◌, ◌<◌}
use mathlib.Core.Path.{◌≡◌, refl, sym, ap, ap₂, ◌∙◌, fun_ext}
use mathlib.Core.Logic.{◌≢◌}
use mathlib.Core.Bool.{true, false, ◌&&◌}
use mathlib.Core.List.{List, [], ◌∷◌}
use mathlib.Core.Option.{Option, none}
use native.Mathlib.Omega.{arith}
use lib.ListN.{length, get_or, take}
use lib.Dec.{leb, ltb}
use borrow.Author.Tests.{le-leb, lt-ltb, leb-true, ltb-true}
use Rattle.residue.specs.Primes.{prime→test}
use Rattle.counting.specs.Bools.{and_in, and_left, and_right}
use Rattle.counting.specs.Sets.{Set, #}
use Rattle.counting.specs.Counts.{#-le, #-ext}
use Rattle.columns.specs.Columns.{width, members, upto_in, upto, word_of, within}
use Rattle.columns.specs.ColumnSets.{whole, Fits}
use Rattle.columns.specs.Words.Sets.{whole_below}
use Rattle.columns.specs.Words.Operations.{within_iff, word_members}
use Rattle.columns.specs.Words.SetLaws.{upto_iff}
use Rattle.rank.specs.Verdict.{verdict_number}
use Rattle.rank.specs.Layered.Model.{Model}
use Rattle.rank.specs.Layered.Rank.{rank, placed, verdict}
use Rattle.rank.proofs.Layered.ColumnOrder.{placed_size}
use Rattle.exchange.specs.Solution.{Solved}
use Rattle.exchange.specs.Solve.{fitting, admissible, Shown}
use Rattle.exchange.specs.DependenceCall.{askable}
use Rattle.exchange.specs.SolveLaws.{all_below_iff, admissible_reads}
use Rattle.rank.specs.Modulus.{modulus}
use Rattle.listed_models.specs.ListedModel.{listed_at, listed_model}
use Rattle.rank.proofs.Demand.{demand3_reported}
use Rattle.format.specs.Lists.{All}
use Rattle.limits.specs.Limits.{largest_prime, most_columns, most_rows}
use Rattle.format.specs.Numbers.{parameter_count}
use Rattle.format.specs.NumberLaws.{count_within}
use Rattle.format.specs.Refusals.{number_of, column_beyond, held_columns, prime_test, parameter_test, numbers_room, number_test, model_tests, refusal}
use Rattle.format.specs.RefusalLaws.{first_fails, first_passes, first_none, then_refused, then_passed, then_zero, unless_zero, last_passed}
use Rattle.format.specs.TestLaws.{prime_reads, parameter_reads, Accepted, model_accepted, accepted_model, constant_below}
use Rattle.layered.specs.Shown.{Answer}
use Rattle.layered.specs.Answers.{Answered, offered_refusal}
use Rattle.layered.specs.Beforehand.{beforehand}

-- what holds of the first k elements
pub all_taken : (Is : ℕ → Type 0) (k : ℕ) (xs : List ℕ) (d : ℕ) → k ≤ length xs → ((i : ℕ) → i < k → Is (get_or xs i d)) → All Is (take k xs)
all_taken Is zero xs d l h = tt
all_taken Is (suc k) [] d l h = absurd (omega arith)
all_taken Is (suc k) (x ∷ xs) d l h = (h 0 (omega arith), all_taken Is k xs d (omega arith) (λ i m. h (suc i) (omega arith)))

pub accepted_beforehand : (p n a b : ℕ) (cs ws : List ℕ) → refusal p n a b cs ws none ≡ 0 → beforehand p n b ws ≡ true
unfolding beforehand
accepted_beforehand p n a b cs ws e =
    let h = model_accepted p n a b cs ws none e in
    and_in (and_in (le-leb p largest_prime h.p_most) (le-leb 1 n h.n_least)) ((parameter_reads n (take b ws)).1 h.parameters_within)

-- the solver takes it with any of its columns offered
pub accepted_admissible : {p n a b : ℕ} {cs ws : List ℕ} {ns : Option (List ℕ)} → Accepted p n a b cs ws ns → (offered : ℕ) → within n offered ≡ true → admissible p n a b offered cs ws ≡ true
unfolding admissible fitting
accepted_admissible {p} {n} {a} {b} {cs} {ws} h offered inside =
    and_in
    (and_in
    (and_in
    (and_in
    (and_in (and_in (and_in (and_in (le-leb n most_columns h.n_most) (le-leb a most_rows h.a_most)) (le-leb b most_rows h.b_most)) (le-leb (a * n) (length cs) h.constants_lent)) (le-leb b (length ws) h.parameters_lent))
    inside)
    (lt-ltb p 65536 (omega (arith, h.p_most))))
    (prime→test p h.prime))
    ((all_below_iff p (a * n) cs).1 (constant_below h))

-- and its constants alone, asked how a column depends on others
pub accepted_askable : {p n a : ℕ} {cs : List ℕ} → Accepted p n a 0 cs [] none → (held x : ℕ) → within n held ≡ true → x < n → askable p n a held x cs ≡ true
unfolding askable
accepted_askable {p} {n} h held x inside l = and_in (accepted_admissible h held inside) (lt-ltb x n l)

-- ---- the tests of a model and of the columns offered, in their order

module _ (p n a b offered : ℕ) (cs ws : List ℕ) where
  pub offered_refused : (r : ℕ) → r ≡ refusal p n a b cs ws none → r ≢ 0 → r ≡ offered_refusal p n a b offered cs ws
  unfolding offered_refusal refusal
  offered_refused r e h = then_refused (model_tests p n a b cs ws none) (held_columns n offered) r e h

  module _ (e : refusal p n a b cs ws none ≡ 0) where
    pub offered_beyond : within n offered ≡ false → number_of column_beyond ≡ offered_refusal p n a b offered cs ws
    unfolding offered_refusal refusal
    offered_beyond w = then_passed (model_tests p n a b cs ws none) (held_columns n offered) _ e (first_fails _ _ [] w)

    pub offered_passed : within n offered ≡ true → 0 ≡ offered_refusal p n a b offered cs ws
    unfolding offered_refusal refusal
    offered_passed w = then_passed (model_tests p n a b cs ws none) (held_columns n offered) 0 e (first_passes _ _ [] 0 w first_none)

  pub offered_accepted : offered_refusal p n a b offered cs ws ≡ 0 → (refusal p n a b cs ws none ≡ 0) × (within n offered ≡ true)
  unfolding offered_refusal refusal
  offered_accepted e = let z = then_zero (model_tests p n a b cs ws none) (held_columns n offered) e in (z.0, unless_zero _ _ z.1)

  -- a set with no column from n on adds no refusal
  pub all_offered : within n offered ≡ true → offered_refusal p n a b offered cs ws ≡ refusal p n a b cs ws none
  unfolding offered_refusal refusal
  all_offered w = sym (last_passed (model_tests p n a b cs ws none) (within n offered) column_beyond w)

pub taken_accepted : (p n a b : ℕ) (cs ws : List ℕ) (offered : ℕ) → beforehand p n b ws ≡ true → admissible p n a b offered cs ws ≡ true → refusal p n a b cs ws none ≡ 0
unfolding beforehand prime_test numbers_room number_test
taken_accepted p n a b cs ws offered e f =
    let g = admissible_reads p n a b offered cs ws f in
    let z = g.fits in
    let low : (leb p largest_prime && leb 1 n) ≡ true = and_left (leb p largest_prime && leb 1 n) (parameter_test n (take b ws)) e in
    let q = (prime_reads p).0 (and_in (and_left (leb p largest_prime) (leb 1 n) low) g.prime) in
    accepted_model p n a b cs ws none (record {
      prime = q.1;
      p_most = q.0;
      n_least = leb-true 1 n (and_right (leb p largest_prime) (leb 1 n) low);
      n_most = z.columns;
      a_most = z.constant_rows;
      b_most = z.parameter_rows;
      constants_lent = z.constants_lent;
      parameters_lent = z.parameters_lent;
      numbers_lent = refl;
      constants_below = all_taken (λ c. c < p) (a * n) cs 0 z.constants_lent ((all_below_iff p (a * n) cs).0 g.low);
      parameters_within = (parameter_reads n (take b ws)).0 (and_right (leb p largest_prime && leb 1 n) (parameter_test n (take b ws)) e);
      numbers_once = refl;
    })

-- ---- all columns are offered

-- the columns below n are columns that the model has
pub below_within : (n offered : ℕ) → members offered ≡ upto n → within n offered ≡ true
unfolding upto_in
below_within n offered m = (within_iff n offered).1 (λ x l e. ltb-true x n (and_left (ltb x n) (ltb x width) (sym (ap (λ (S : Set). S x) m) ∙ e)))

pub offered_all : (n offered : ℕ) → members offered ≡ upto n → n ≤ width → (x : ℕ) → x < n → true ≡ members offered x
offered_all n offered m h x l = sym (ap (λ (S : Set). S x) m ∙ (upto_iff n x h).1 l)

module _ (p n a b : ℕ) (cs ws : List ℕ) (offered : ℕ) (m : members offered ≡ upto n) where
  -- the model is the one that the numbers show
  pub shows_model : n ≤ width → Shown p n a b offered cs ws (listed_model p n a b cs ws).Q (listed_model p n a b cs ws).T (λ x. true)
  shows_model h = record { constants = λ i x li lx. refl; parameters = λ r x lr lx. refl; columns = offered_all n offered m h }

  pub accepted_taken : refusal p n a b cs ws none ≡ 0 → admissible p n a b offered cs ws ≡ true
  accepted_taken e = let h = model_accepted p n a b cs ws none e in accepted_admissible h offered (below_within n offered m)

-- ---- the answer

-- the rank is at most n
pub rank_small : (M : Model) → rank M ≤ M.n
rank_small M = omega (arith, placed_size M, #-le M.n (placed M))

-- the numbers show every model that offers these columns
pub shows_offered : (p n a b offered : ℕ) (cs ws : List ℕ) (E : Set) → ((x : ℕ) → x < n → E x ≡ members offered x) → let M = listed_at (modulus p).0 (modulus p).1 n a b cs ws E in
    Shown p n a b offered cs ws M.Q M.T E
shows_offered p n a b offered cs ws E e = record { constants = λ i x li lx. refl; parameters = λ r x lr lx. refl; columns = e }

-- how many columns are offered, by the size of their set
pub offered_count : (n offered : ℕ) (E : Set) → offered < 2 ^ width → within n offered ≡ true → ((x : ℕ) → x < n → E x ≡ members offered x) → # width (members offered) ≡ # n E
unfolding parameter_count
offered_count n offered E l w e = count_within n offered l w ∙ sym (#-ext n E (members offered) e)

pub answered : (p n a b : ℕ) (cs ws : List ℕ) (E : Set) (r : Answer) (count : ℕ) → count ≡ # n E → Fits r.placed → Fits r.short → length r.rows ≡ most_rows
    → let M = listed_at (modulus p).0 (modulus p).1 n a b cs ws E in
    r.verdict ≡ verdict_number r.rank count (a + b) → Solved M r.rank (members (whole r.placed)) (members (whole r.constants)) (members (whole r.short)) r.rows
    → Answered M r
unfolding verdict
answered p n a b cs ws E r count hc hp hs k hv s =
    let M = listed_at (modulus p).0 (modulus p).1 n a b cs ws E in
    record {
      is_verdict = hv ∙ ap₂ (λ (k c : ℕ). verdict_number k c (a + b)) s.is_rank hc;
      placed_number = word_members width (whole r.placed) (whole_below r.placed hp) ∙ ap (word_of width) (fun_ext s.is_placed);
      short_number = word_members width (whole r.short) (whole_below r.short hs) ∙ ap (word_of width) (fun_ext s.is_short);
      row_count = k;
      solved = s;
      demand = demand3_reported M r.rank (members (whole r.short)) s.is_rank s.is_short;
    }
