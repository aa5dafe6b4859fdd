-- What the calls about the degree say: when 0, 8 and 16 are given, and which powers that reads; how large the degree can be, which rows an answer shows,
-- and that what it shows is accepted as a claim. Assumes nothing.
use Rattle.std.specs.Prelude.{ℕ, ◌+◌, ◌*◌, ◌≤◌, ◌<◌, ◌≡◌, ◌≢◌, ◌↔◌, ◌⊎◌, true, false, ◌&&◌, ◌||◌, eqb, ltb, length, get_or}
use Rattle.std.proofs.Math.Path.{refl, sym, ap}
use Rattle.std.proofs.Common.{◌∙◌, inl, inr}
use Rattle.std.proofs.Math.Logic.{by_cases}
use Rattle.std.proofs.lemmas.Bool.{false≢true}
use Rattle.std.proofs.Math.Bool.{not}
use Rattle.std.proofs.Math.Option.{Option}
use mathlib.Core.List.{List, [], ◌∷◌}
use native.Mathlib.Omega.{arith}
use Rattle.std.proofs.Math.Decide.{ℕ_discrete, dec_lt}
use Rattle.std.proofs.Math.Dec.{leb}
use borrow.Author.Tests.{eqb-true, eq-eqb, leb-true, le-leb, ltb-true}
use Rattle.limits.specs.Limits.{most_columns, most_rows}
use Rattle.counting.specs.Bools.{and_in, and_left, and_right, implied, implies, in_not, not_true, true?}
use Rattle.counting.specs.Sets.{#, ∁, Set, Some, ◌∩◌, all, touching}
use Rattle.counting.specs.Counts.{#-all, #-ext, #-none, all_iff, both?, some?, touching_iff}
use Rattle.columns.specs.Columns.{members}
use Rattle.columns.specs.ColumnSets.{whole}
use Rattle.columns.specs.Words.Operations.{members_zero}
use Rattle.listed_models.specs.ListedModel.{listed_model}
use Rattle.rank.specs.Layered.Model.{Model, Seat, row}
use Rattle.rank.specs.Layered.Rank.{rank, sum, verdict}
use Rattle.rank.proofs.Layered.Meaning.{constant_rank_at, seat_cases}
use Rattle.rank.proofs.Layered.Verdicts.{determined_uses_all, verdict_1_iff}
use Rattle.claims.specs.Claim.{AcceptsClaim}
use Rattle.degrees.specs.Degrees.{Powers, listed_powers, power_at, weight}
use Rattle.degrees.specs.Totals.{total_below}
use Rattle.format.specs.Lists.{all_pass}
use Rattle.format.specs.Refusals.{Tests, unless, ◌then◌, first_refusal, number_of, no_degree, area_short, area_test, area_tests, content_tests, model_tests, refusal}
use Rattle.format.specs.RefusalLaws.{first_fails, then_passed, then_refused, then_zero, zero_then, unless_zero, zero_unless}
use Rattle.format.specs.TestLaws.{area_reads}
use Rattle.degree.specs.Answers.{most_power, powers_low, degree_question, power_areas, dynamic_tests, assignment, DegreeAnswered}
use Rattle.degree.specs.Shown.{Degree}
use Rattle.promises.specs.AcceptanceLaws.{assignment_shown}

-- ---- tests in their order

-- tests between others, all of which pass, change nothing
without_passed : (ts us vs : Tests) → first_refusal us ≡ 0 → first_refusal (ts then us then vs) ≡ first_refusal (ts then vs)
unfolding first_refusal
without_passed [] us vs e = sym (then_passed us vs (first_refusal vs) e refl)
without_passed ((true, c) ∷ ts) us vs e = without_passed ts us vs e
without_passed ((false, c) ∷ ts) us vs e = refl

-- a number above those that the tests before give
given_later : (k : ℕ) (ts us : Tests) → all_pass (λ t. ltb (number_of t.1) k) ts ≡ true → first_refusal (ts then us) ≡ k → (first_refusal ts ≡ 0) × (first_refusal us ≡ k)
unfolding first_refusal all_pass
given_later k [] us v e = (refl, e)
given_later k ((true, c) ∷ ts) us v e = given_later k ts us (and_right (ltb (number_of c) k) (all_pass (λ t. ltb (number_of t.1) k) ts) v) e
given_later k ((false, c) ∷ ts) us v e = absurd (omega (arith, e, ltb-true (number_of c) k (and_left (ltb (number_of c) k) (all_pass (λ t. ltb (number_of t.1) k) ts) v)))

-- tests that all give the same number
pub given_alike : (k : ℕ) (ts : Tests) → all_pass (λ t. eqb (number_of t.1) k) ts ≡ true → first_refusal ts ≢ 0 → first_refusal ts ≡ k
unfolding first_refusal all_pass
given_alike k [] v ne = absurd (ne refl)
given_alike k ((true, c) ∷ ts) v ne = given_alike k ts (and_right (eqb (number_of c) k) (all_pass (λ t. eqb (number_of t.1) k) ts) v) ne
given_alike k ((false, c) ∷ ts) v ne = eqb-true (number_of c) k (and_left (eqb (number_of c) k) (all_pass (λ t. eqb (number_of t.1) k) ts) v)

-- ---- the powers that are read

-- none is above the largest
pub record PowersLow (M : Model) (W : Powers) : Type 0 where
  pub rows_low : (h : ℕ) → h < M.a → W.row_power h ≤ most_power
  pub columns_low : (x : ℕ) → x < M.n → W.column_power x ≤ most_power
  pub parameters_low : (r x : ℕ) → r < M.b → x < M.n → M.T r x ≡ true → W.power r x ≤ most_power

-- one is: of a constant row, of a column, or of a parameter
abbrev pub PowerAbove : Model → Powers → Type 0
PowerAbove M W = Some M.a (λ h. most_power < W.row_power h) ⊎ (Some M.n (λ x. most_power < W.column_power x) ⊎ Some M.b (λ r. Some M.n (λ x. (M.T r x ≡ true) × (most_power < W.power r x))))

-- the areas of powers hold one for each constant row, each column, and each place of a parameter row
pub record PowersLent (n a b : ℕ) (rp cp pp : List ℕ) : Type 0 where
  pub rows_lent : a ≤ length rp
  pub columns_lent : n ≤ length cp
  pub parameters_lent : b * n ≤ length pp

pub lent_iff : (n a b : ℕ) (rp cp pp : List ℕ) → (first_refusal (power_areas n a b rp cp pp) ≡ 0) ↔ PowersLent n a b rp cp pp
lent_iff n a b rp cp pp = (
  λ e.
      let u = then_zero (unless (area_test a (length rp)) area_short) (unless (area_test n (length cp)) area_short then unless (area_test (b * n) (length pp)) area_short) e in
      let v = then_zero (unless (area_test n (length cp)) area_short) (unless (area_test (b * n) (length pp)) area_short) u.1 in
      record {
        rows_lent = (area_reads _ _).0 (unless_zero _ _ u.0);
        columns_lent = (area_reads _ _).0 (unless_zero _ _ v.0);
        parameters_lent = (area_reads _ _).0 (unless_zero _ _ v.1);
      },
  λ l. zero_then (unless (area_test a (length rp)) area_short) _ (zero_unless _ _ ((area_reads _ _).1 l.rows_lent))
      (zero_then (unless (area_test n (length cp)) area_short) _ (zero_unless _ _ ((area_reads _ _).1 l.columns_lent)) (zero_unless _ _ ((area_reads _ _).1 l.parameters_lent))),
)

module _ (M : Model) (W : Powers) where
  open M use {a, b, n, T}

  pub low_iff : (powers_low M W ≡ true) ↔ PowersLow M W
  unfolding powers_low
  low_iff =
      let of-rows = all a (λ h. leb (W.row_power h) most_power) in
      let of_columns = all n (λ x. leb (W.column_power x) most_power) in
      let of-parameters = all b (λ r. all n (λ x. not (T r x) || leb (W.power r x) most_power)) in (
        λ e. record {
          rows_low = λ h l. leb-true _ _ ((all_iff a _).0 (and_left of-rows of_columns (and_left (of-rows && of_columns) of-parameters e)) h l);
          columns_low = λ x l. leb-true _ _ ((all_iff n _).0 (and_right of-rows of_columns (and_left (of-rows && of_columns) of-parameters e)) x l);
          parameters_low = λ r x l m t. leb-true _ _ (implied (T r x) _ ((all_iff n _).0 ((all_iff b _).0 (and_right (of-rows && of_columns) of-parameters e) r l) x m) t);
        },
        λ h. and_in (and_in
            ((all_iff a _).1 (λ i l. le-leb _ _ (h.rows_low i l)))
            ((all_iff n _).1 (λ x l. le-leb _ _ (h.columns_low x l))))
            ((all_iff b _).1 (λ r l. (all_iff n _).1 (λ x m. implies (T r x) _ (λ t. le-leb _ _ (h.parameters_low r x l m t))))),
      )

  low_or_above : PowersLow M W ⊎ PowerAbove M W
  low_or_above = elim (some? a (λ h. most_power < W.row_power h) (λ h. dec_lt most_power (W.row_power h))) [
    | yes w ↦ inr (inl w)
    | no nr ↦ elim (some? n (λ x. most_power < W.column_power x) (λ x. dec_lt most_power (W.column_power x))) [
      | yes w ↦ inr (inr (inl w))
      | no nc ↦ elim (some? b (λ r. Some n (λ x. (T r x ≡ true) × (most_power < W.power r x))) (λ r. some? n (λ x. (T r x ≡ true) × (most_power < W.power r x)) (λ x. both? (true? (T r x)) (dec_lt most_power (W.power r x))))) [
        | yes w ↦ inr (inr (inr w))
        | no np ↦ inl (record {
          rows_low = λ h l. elim (dec_lt most_power (W.row_power h)) [ yes m ↦ absurd (nr (h, l, m)) | no nm ↦ omega arith ];
          columns_low = λ x l. elim (dec_lt most_power (W.column_power x)) [ yes m ↦ absurd (nc (x, l, m)) | no nm ↦ omega arith ];
          parameters_low = λ r x l k t. elim (dec_lt most_power (W.power r x)) [ yes m ↦ absurd (np (r, l, (x, k, (t, m)))) | no nm ↦ omega arith ];
        })
      ]
    ]
  ]

  pub above_not_low : PowerAbove M W → PowersLow M W → ⊥
  above_not_low w h = elim w [
    | inl u ↦ omega (arith, h.rows_low u.0 u.1, u.2)
    | inr v ↦ elim v [
      | inl u ↦ omega (arith, h.columns_low u.0 u.1, u.2)
      | inr u ↦ omega (arith, h.parameters_low u.0 u.2.0 u.1 u.2.1 u.2.2.0, u.2.2.1)
    ]
  ]

  -- ---- 16

  pub question_0_iff : (first_refusal (degree_question M W) ≡ 0) ↔ ((verdict M ≡ 1) × PowersLow M W)
  question_0_iff = (
    λ e. let t = unless_zero _ _ e in (eqb-true (verdict M) 1 (and_left (eqb (verdict M) 1) (powers_low M W) t), low_iff.0 (and_right (eqb (verdict M) 1) (powers_low M W) t)),
    λ w. zero_unless _ _ (and_in (eq-eqb (verdict M) 1 w.0) (low_iff.1 w.1)),
  )

  pub question_cases : (first_refusal (degree_question M W) ≡ 0) ⊎ (first_refusal (degree_question M W) ≡ 16)
  question_cases = elim (true? (eqb (verdict M) 1 && powers_low M W)) [
    | yes t ↦ inl (zero_unless _ _ t)
    | no nt ↦ inr (sym (first_fails (eqb (verdict M) 1 && powers_low M W) no_degree [] (not_true _ nt)))
  ]

  pub question_16_iff : (first_refusal (degree_question M W) ≡ 16) ↔ ((verdict M ≢ 1) ⊎ PowerAbove M W)
  question_16_iff = (
    λ e. by_cases (ℕ_discrete (verdict M) 1)
        (λ v. elim low_or_above [ inl h ↦ absurd (omega (arith, e, question_0_iff.1 (v, h))) | inr w ↦ inr w ])
        (λ nv. inl nv),
    λ w. elim question_cases [
      | inl z ↦ let k = question_0_iff.0 z in elim w [ inl nv ↦ absurd (nv k.0) | inr u ↦ absurd (above_not_low u k.1) ]
      | inr e ↦ e
    ],
  )

  -- beside a file, behind the areas of powers
  pub asked_16_iff : (rp cp pp : List ℕ) → (first_refusal (power_areas n a b rp cp pp then degree_question M W) ≡ 16) ↔ (PowersLent n a b rp cp pp × ((verdict M ≢ 1) ⊎ PowerAbove M W))
  unfolding all_pass
  asked_16_iff rp cp pp = (
    λ e. let u = given_later 16 (power_areas n a b rp cp pp) (degree_question M W) refl e in ((lent_iff n a b rp cp pp).0 u.0, question_16_iff.0 u.1),
    λ w. without_passed [] (power_areas n a b rp cp pp) (degree_question M W) ((lent_iff n a b rp cp pp).1 w.0) ∙ question_16_iff.1 w.1,
  )

-- ---- the number that is due

module _ (p n a b : ℕ) (cs ws : List ℕ) (ns : Option (List ℕ)) (rp cp pp : List ℕ) where
  abbrev M : Model
  M = listed_model p n a b cs ws

  abbrev W : Powers
  W = listed_powers n rp cp pp

  abbrev due : ℕ
  due = first_refusal (dynamic_tests p n a b cs ws ns rp cp pp)

  -- where the areas of powers hold, their test changes nothing
  due_lent : PowersLent n a b rp cp pp → due ≡ first_refusal (model_tests p n a b cs ws ns then degree_question M W)
  unfolding model_tests
  due_lent l = without_passed (area_tests p n a b cs ws ns) (power_areas n a b rp cp pp) (content_tests p n a b cs ws ns then degree_question M W) ((lent_iff n a b rp cp pp).1 l)

  -- where a rank call accepts the model, theirs and 16 are left
  pub due_accepted : refusal p n a b cs ws ns ≡ 0 → due ≡ first_refusal (power_areas n a b rp cp pp then degree_question M W)
  unfolding refusal model_tests
  due_accepted z =
      let w = then_zero (area_tests p n a b cs ws ns) (content_tests p n a b cs ws ns) z in
      without_passed [] (area_tests p n a b cs ws ns) (power_areas n a b rp cp pp then content_tests p n a b cs ws ns then degree_question M W) w.0
      ∙ without_passed (power_areas n a b rp cp pp) (content_tests p n a b cs ws ns) (degree_question M W) w.1

  -- what passes before 16
  passed_before : (first_refusal (area_tests p n a b cs ws ns then power_areas n a b rp cp pp then content_tests p n a b cs ws ns) ≡ 0) → (refusal p n a b cs ws ns ≡ 0) × PowersLent n a b rp cp pp
  unfolding refusal model_tests
  passed_before z =
      let u = then_zero (area_tests p n a b cs ws ns) (power_areas n a b rp cp pp then content_tests p n a b cs ws ns) z in
      let v = then_zero (power_areas n a b rp cp pp) (content_tests p n a b cs ws ns) u.1 in
      (zero_then (area_tests p n a b cs ws ns) (content_tests p n a b cs ws ns) u.0 v.1, (lent_iff n a b rp cp pp).0 v.0)

  due_at : refusal p n a b cs ws ns ≡ 0 → PowersLent n a b rp cp pp → due ≡ first_refusal (degree_question M W)
  due_at z l = due_accepted z ∙ without_passed [] (power_areas n a b rp cp pp) (degree_question M W) ((lent_iff n a b rp cp pp).1 l)

  pub due_0_iff : (due ≡ 0) ↔ ((refusal p n a b cs ws ns ≡ 0) × PowersLent n a b rp cp pp × (verdict M ≡ 1) × PowersLow M W)
  due_0_iff = (
    λ z.
        let u = then_zero (area_tests p n a b cs ws ns then power_areas n a b rp cp pp then content_tests p n a b cs ws ns) (degree_question M W) z in
        let v = passed_before u.0 in
        let w = (question_0_iff M W).0 u.1 in
        (v.0, v.1, w.0, w.1),
    λ k. due_at k.0 k.1 ∙ (question_0_iff M W).1 (k.2, k.3),
  )

  pub due_16_iff : (due ≡ 16) ↔ ((refusal p n a b cs ws ns ≡ 0) × PowersLent n a b rp cp pp × ((verdict M ≢ 1) ⊎ PowerAbove M W))
  unfolding all_pass
  due_16_iff = (
    λ e.
        let u = given_later 16 (area_tests p n a b cs ws ns then power_areas n a b rp cp pp then content_tests p n a b cs ws ns) (degree_question M W) refl e in
        let v = passed_before u.0 in
        (v.0, v.1, (question_16_iff M W).0 u.1),
    λ w. due_at w.0 w.1 ∙ (question_16_iff M W).1 w.2,
  )

  -- a model that a rank call refuses is refused alike
  pub due_refused : PowersLent n a b rp cp pp → refusal p n a b cs ws ns ≢ 0 → due ≡ refusal p n a b cs ws ns
  unfolding refusal
  due_refused l nz = due_lent l ∙ sym (then_refused (model_tests p n a b cs ws ns) (degree_question M W) (refusal p n a b cs ws ns) refl nz)

  pub due_cases : PowersLent n a b rp cp pp → refusal p n a b cs ws ns ≡ 0 → (due ≡ 0) ⊎ (due ≡ 16)
  due_cases l z = elim (question_cases M W) [ inl e ↦ inl (due_at z l ∙ e) | inr e ↦ inr (due_at z l ∙ e) ]

  -- the areas of powers are judged with the model's own, before what stands in them
  pub due_short : first_refusal (area_tests p n a b cs ws ns) ≡ 0 → (PowersLent n a b rp cp pp → ⊥) → due ≡ 8
  unfolding all_pass
  due_short z short =
      let later = content_tests p n a b cs ws ns then degree_question M W in
      let ne : first_refusal (power_areas n a b rp cp pp) ≢ 0 = λ e. short ((lent_iff n a b rp cp pp).0 e) in
      sym (then_passed (area_tests p n a b cs ws ns) (power_areas n a b rp cp pp then later) 8 z
      (then_refused (power_areas n a b rp cp pp) later 8 (sym (given_alike 8 (power_areas n a b rp cp pp) refl ne)) (λ e. omega (arith, e))))

-- ---- an answer

-- the empty set of a model of which every column is offered
empty_sum : (M : Model) → ((x : ℕ) → M.E x ≡ true) → sum M (members 0) ≡ M.n
unfolding sum
empty_sum M every =
    let nobody : (x : ℕ) → members 0 x ≡ false = λ x. ap (λ (S : Set). S x) members_zero in
    let w = constant_rank_at M (members 0) in
    let none_independent : # M.n w.0 ≡ 0 = #-ext M.n w.0 (λ x. false) (λ x l. not_true _ (λ e. false≢true (sym (nobody x) ∙ (w.1 x e).1))) ∙ #-none M.n in
    let none_touched : # M.b (touching M.n M.T (members 0)) ≡ 0 =
    #-ext M.b _ (λ r. false) (λ r l. not_true _ (λ t. let u = (touching_iff M.n M.T (members 0) r).0 t in false≢true (sym (nobody u.0) ∙ u.2.0))) ∙ #-none M.b in
    let all_outside : # M.n (∁ (members 0) ∩ M.E) ≡ M.n = #-all M.n _ (λ x l. and_in (in_not _ (nobody x)) (every x)) in
    omega (arith, w.3, none_independent, none_touched, all_outside)

module _ (M : Model) (W : Powers) (r : Degree) (h : DegreeAnswered M W r) where
  open M use {a, b, n}

  -- with no power above the largest it is small
  pub degree_most : PowersLow M W → r.degree ≤ most_power * a + most_power * n
  unfolding weight power_at
  degree_most low = omega (
    arith,
    h.is_degree,
    h.reaches,
    total_below a most_power W.row_power low.rows_low,
    total_below n most_power (λ x. power_at W x (assignment M r x)) at,
  )
    where
      at : (x : ℕ) → x < n → power_at W x (assignment M r x) ≤ most_power
      at x l = seat_cases (assignment M r x)
          (λ e. omega (arith, ap (λ (s : Seat). power_at W x s) e))
          (λ e. omega (arith, ap (λ (s : Seat). power_at W x s) e, low.columns_low x l))
          (λ i e. omega (arith, ap (λ (s : Seat). power_at W x s) e, low.parameters_low i x (h.is_legal.parameter x i e).0 l (h.is_legal.parameter x i e).1))

  -- in a determined model it shows a columns on the constant side, and a column for every parameter row
  pub every_row_shown : verdict M ≡ 1 → (# n (members (whole r.constants)) ≡ a) × ((i : ℕ) → i < b → (get_or r.rows i 0 < n) × (assignment M r (get_or r.rows i 0) ≡ row i))
  every_row_shown v =
      let u = determined_uses_all M v (assignment M r) h.is_legal (λ x l o. h.places_all x l) in (
        #-ext n _ _ (λ x l. h.side_shown x) ∙ u.constant_rows,
        λ i l. elim (h.rows_shown i l) [ inl w ↦ w | inr w ↦ let x = u.parameter_rows i l in absurd (w.1 x.0 x.2) ],
      )

  -- with the rank n and the empty set, its side and rows are accepted as a claim
  pub accepted_as_claim : ((x : ℕ) → M.E x ≡ true) → n ≤ most_columns → b ≤ most_rows → AcceptsClaim M n (members (whole r.constants)) r.rows (members 0)
  accepted_as_claim every few few_rows = record {
    assignment = assignment M r;
    is_shown = assignment_shown M (members (whole r.constants)) r.rows few few_rows h.row_count h.is_legal h.side_shown h.rows_shown h.past_rows;
    is_accepted = record {
      is_legal = h.is_legal;
      as_many = #-all n _ h.places_all;
      columns = λ x e. absurd (false≢true (sym (ap (λ (S : Set). S x) members_zero) ∙ e));
      has_sum = empty_sum M every;
    };
  }

-- a determined model, of which every column is offered, has as many columns as rows, and that rank
pub determined_sizes : (M : Model) → ((x : ℕ) → M.E x ≡ true) → verdict M ≡ 1 → (rank M ≡ M.n) × (M.a + M.b ≡ M.n)
determined_sizes M every v =
    let w = (verdict_1_iff M).0 v in
    let e = #-all M.n M.E (λ x l. every x) in
    (w.0 ∙ e, sym w.1 ∙ w.0 ∙ e)
