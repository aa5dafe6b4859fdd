-- What the judgement, the solver and the descent say, put together as the answer about the degree. Assumes nothing.
use Prim.Native.Nat.{ℕ, ◌+◌, ◌*◌, ◌≤◌, ◌<◌}
use mathlib.Core.Path.{◌≡◌, refl, sym, ap, ◌∙◌}
use mathlib.Core.Logic.{◌≢◌, ◌↔◌}
use mathlib.Core.Bool.{Bool, true, false, not, ◌&&◌, ◌||◌, true≢false}
use mathlib.Core.List.{List, []}
use mathlib.Core.Option.{Option, none}
use native.Mathlib.Omega.{arith}
use lib.Dec.{eqb, leb}
use lib.ListN.{length, get_or, take}
use lib.Seq.{get_or-take, length-take-le}
use borrow.Author.Tests.{eq-eqb, eqb-true, leb-true}
use Rattle.limits.specs.Limits.{most_rows}
use Rattle.residue.specs.Primes.{prime→test}
use Rattle.counting.specs.Bools.{and_in, and_left, and_right, not_true}
use Rattle.counting.specs.Counts.{#-all, all_iff}
use Rattle.counting.specs.Sets.{#, all}
use Rattle.columns.specs.Columns.{members, within}
use Rattle.columns.specs.ColumnSets.{whole}
use Rattle.rank.specs.Modulus.{field_of}
use Rattle.rank.specs.ListedModel.{parameter_at}
use Rattle.rank.specs.VerdictLaws.{number_1_iff}
use Rattle.rank.specs.Layered.Model.{Model, Legal}
use Rattle.rank.specs.Layered.Rank.{rank, verdict}
use Rattle.rank.specs.Totals.{total}
use Rattle.degrees.specs.Degrees.{Powers, AllPlaced, degree, listed_powers, weight}
use Rattle.degrees.specs.Dynamics.{layered}
use Rattle.degrees.proofs.Theorems.{last_round_reaches_the_degree}
use Rattle.degrees.specs.Totals.{total_below}
use Rattle.exchange.specs.Solution.{shown}
use Rattle.exchange.specs.Solve.{SolvedBy}
use Rattle.exchange.specs.declared.Solution.{Solution}
use Rattle.format.specs.ListLaws.{all_at}
use Rattle.format.specs.Refusals.{first_refusal, no_degree, numbers_room, number_test}
use Rattle.format.specs.RefusalLaws.{first_fails, first_passes, first_none}
use Rattle.format.specs.TestLaws.{Accepted, constant_below}
use Rattle.layered.proofs.AnswerLaws.{all_taken}
use Rattle.degree.specs.Shown.{Degree}
use Rattle.degree.specs.Answers.{most_power, powers_low, degree_question, DegreeAnswered}
use Rattle.degree.specs.Code.{first_most, lists_low, model_with, Ready, Descending, tight_part, tableau_of}

-- ---- the end of the descent

module _ (p n a b : ℕ) (Q : ℕ → ℕ → (field_of p).F) (ws rp cp pp cs levels heights : List ℕ) (k : ℕ)
    (d : Descending p n a b Q ws rp cp pp cs levels heights k) (s : Solution) (h : SolvedBy (tight_part p n a b Q ws rp cp pp cs levels heights) s) (r : s.rank ≡ n) where
  abbrev M : Model
  M = layered (model_with p n a b Q ws rp cp pp)

  abbrev W : Powers
  W = listed_powers n rp cp pp

  last : let A = shown n b (members (whole s.constants)) s.rows in Legal M A × AllPlaced M A × (weight M W A ≡ degree M W)
      × (degree M W + total n (λ x. get_or heights x 0) ≡ total a (λ h. get_or rp h 0) + total (a + b) (λ q. get_or levels q 0))
  last = last_round_reaches_the_degree (model_with p n a b Q ws rp cp pp) first_most k (tableau_of p n cs) (λ q. get_or levels q 0) (λ x. get_or heights x 0) d.after
      s.rank (members (whole s.placed)) (members (whole s.constants)) (members (whole s.short)) s.rows h d.ready.square r

  -- the degree is levels less heights, and the constant rows' powers
  pub degree_by_levels : degree M W + total n (λ x. get_or heights x 0) ≡ total a (λ i. get_or rp i 0) + total n (λ q. get_or levels q 0)
  degree_by_levels = omega (arith, last.3, ap (λ (m : ℕ). total m (λ q. get_or levels q 0)) d.ready.square)

  pub degree_small : degree M W < 65536
  degree_small = omega (
    arith,
    degree_by_levels,
    d.after.fallen,
    ap (λ (m : ℕ). total m (λ q. get_or levels q 0)) d.ready.square,
    total_below a 15 (λ i. get_or rp i 0) d.ready.row_powers_low,
    d.ready.square,
    d.ready.columns,
  )

  pub answer_found : (t : Degree) → length t.rows ≡ most_rows → t.degree ≡ degree M W → t.constants ≡ s.constants → t.rows ≡ s.rows → DegreeAnswered M W t
  answer_found t long e c w = record {
    is_degree = e;
    is_legal = rw (c, w) last.0;
    places_all = rw (c, w) last.1;
    reaches = rw (c, w) last.2;
    side_shown = rw (c, w) h.side_shown;
    rows_shown = rw (c, w) h.rows_shown;
    past_rows = rw w h.past_rows;
    row_count = long;
  }

-- ---- the question

module _ (p n a b : ℕ) (Q : ℕ → ℕ → (field_of p).F) (ws rp cp pp : List ℕ) where
  abbrev asked : Model
  asked = layered (model_with p n a b Q ws rp cp pp)

  abbrev asked_powers : Powers
  asked_powers = listed_powers n rp cp pp

  -- the verdict is 1 exactly if the rank is n, and there are as many rows
  verdict_reads : (verdict asked ≡ 1) ↔ ((rank asked ≡ n) × (rank asked ≡ a + b))
  unfolding verdict
  verdict_reads = let w = number_1_iff (rank asked) (# n (λ x. true)) (a + b) in (
    λ e. ((w.0 e).0 ∙ every, (w.0 e).1),
    λ v. w.1 (v.0 ∙ sym every, v.1),
  )
    where
      every : # n (λ x. true) ≡ n
      every = #-all n (λ x. true) (λ i l. refl)

  refused : ((eqb (verdict asked) 1 && powers_low asked asked_powers) ≡ true → ⊥) → 16 ≡ first_refusal (degree_question asked asked_powers)
  refused f = first_fails _ no_degree [] (not_true _ f)

  -- 16 where rows are not as many as columns, where a power is too large, and where the rank is not n
  pub rows_refused : a + b ≢ n → 16 ≡ first_refusal (degree_question asked asked_powers)
  rows_refused ne = refused (λ e. let v = verdict_reads.0 (eqb-true (verdict asked) 1 (and_left _ (powers_low asked asked_powers) e)) in ne (sym v.1 ∙ v.0))

  pub rank_refused : rank asked ≢ n → 16 ≡ first_refusal (degree_question asked asked_powers)
  rank_refused ne = refused (λ e. ne (verdict_reads.0 (eqb-true (verdict asked) 1 (and_left _ (powers_low asked asked_powers) e))).0)

  pub powers_refused : lists_low n a b ws rp cp pp ≡ false → 16 ≡ first_refusal (degree_question asked asked_powers)
  unfolding lists_low powers_low
  powers_refused h = refused (λ e. true≢false (sym (and_right (eqb (verdict asked) 1) _ e) ∙ h))

  -- else nothing is refused
  pub question_passes : a + b ≡ n → lists_low n a b ws rp cp pp ≡ true → rank asked ≡ n → 0 ≡ first_refusal (degree_question asked asked_powers)
  unfolding lists_low powers_low
  question_passes e h r = first_passes _ no_degree [] 0 (and_in (eq-eqb (verdict asked) 1 (verdict_reads.1 (r, r ∙ sym e))) h) first_none

-- ---- a model that is judged

-- a row of an accepted model has no parameter past its columns
pub accepted_within : {p n a b : ℕ} {cs ws : List ℕ} {ns : Option (List ℕ)} → Accepted p n a b cs ws ns → (r : ℕ) → r < b → within n (get_or ws r 0) ≡ true
accepted_within {p} {n} {a} {b} {cs} {ws} h r l =
    rw (get_or-take b ws r 0 l) at (all_at (λ w. within n w ≡ true) (take b ws) 0 h.parameters_within r (omega (arith, length-take-le b ws h.parameters_lent)))

pub accepted_ready : {p n a b : ℕ} {cs ws rp cp pp : List ℕ} → Accepted p n a b cs ws none → a ≤ length rp → n ≤ length cp → b * n ≤ length pp
    → a + b ≡ n → lists_low n a b ws rp cp pp ≡ true → Ready p n a b cs ws rp cp pp
unfolding lists_low
accepted_ready {p} {n} {a} {b} {cs} {ws} {rp} {cp} {pp} h lr lc lp e low = record {
  prime = prime→test p h.prime;
  p_small = omega (arith, h.p_most);
  columns = h.n_most;
  square = e;
  constants_lent = h.constants_lent;
  constants_below = constant_below h;
  rows_lent = h.parameters_lent;
  rows_within = accepted_within h;
  row_powers_lent = lr;
  column_powers_lent = lc;
  powers_lent = lp;
  row_powers_low = λ i l. leb-true _ _ ((all_iff a _).0 rows i l);
  column_powers_low = λ x l. leb-true _ _ ((all_iff n _).0 columns x l);
  powers_low = λ r x lr lx t. leb-true _ _ (either (parameter_at ws r x) _ t ((all_iff n _).0 ((all_iff b _).0 parameters r lr) x lx));
}
  where
    either : (t u : Bool) → t ≡ true → (not t || u) ≡ true → u ≡ true
    either true u e h = h
    either false u e h = absurd (true≢false (sym e))

    rows : all a (λ i. leb (get_or rp i 0) most_power) ≡ true
    rows = and_left _ _ (and_left _ _ low)

    columns : all n (λ x. leb (get_or cp x 0) most_power) ≡ true
    columns = and_right (all a (λ i. leb (get_or rp i 0) most_power)) _ (and_left _ _ low)

    parameters : all b (λ r. all n (λ x. not (parameter_at ws r x) || leb (get_or pp (r * n + x) 0) most_power)) ≡ true
    parameters = and_right (all a (λ i. leb (get_or rp i 0) most_power) && all n (λ x. leb (get_or cp x 0) most_power)) _ low

-- a copy of the constants is accepted as they are
pub accepted_copy : {p n a b : ℕ} {cs cs' ws : List ℕ} {ns : Option (List ℕ)} → Accepted p n a b cs ws ns → a * n ≤ length cs' → ((i : ℕ) → i < a * n → get_or cs' i 0 ≡ get_or cs i 0)
    → Accepted p n a b cs' ws none
unfolding numbers_room number_test
accepted_copy {p} {n} {a} {b} {cs} {cs'} {ws} h l e = record {
  prime = h.prime;
  p_most = h.p_most;
  n_least = h.n_least;
  n_most = h.n_most;
  a_most = h.a_most;
  b_most = h.b_most;
  constants_lent = l;
  parameters_lent = h.parameters_lent;
  numbers_lent = refl;
  constants_below = all_taken (λ c. c < p) (a * n) cs' 0 l (λ i m. rw (e i m) (constant_below h i m));
  parameters_within = h.parameters_within;
  numbers_once = refl;
}
