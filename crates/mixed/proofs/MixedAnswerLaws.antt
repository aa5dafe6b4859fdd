-- The layered form in numbers is the layered form; and the answer to a mixed model is read off the answer to its form. Assumes nothing.
use Prim.Native.Nat.{ℕ, zero, suc, ◌+◌, ◌-◌, ◌*◌, ◌/◌, ◌%◌, ◌≤◌, ◌<◌}
use mathlib.Core.Path.{◌≡◌, refl, sym, ap, ◌∙◌, fun_ext}
use mathlib.Core.Logic.{◌≢◌, ◌↔◌, inl, inr}
use mathlib.Core.Bool.{Bool, true, false, ◌&&◌, cond, decide, decide_iff, true≢false}
use mathlib.Core.Option.{Option}
use mathlib.Core.List.{List, []}
use native.Mathlib.Omega.{arith}
use native.Mathlib.Decide.{ℕ_discrete}
use native.Mathlib.Nat.{mul-add-div_right, mul-add-mod_self_right, mod-lt, mod-eq_of_lt, mod-add-div', div-eq_of_lt, div-lt_iff_lt-mul, mul-zero, mul-le-mul}
use lib.ListN.{length, get_or}
use lib.Dec.{eqb, leb, ltb}
use borrow.Author.Tests.{eq-eqb, ne_eqb, eqb-true, le-leb, lt-leb, leb-true, lt-ltb}
use Rattle.residue.specs.Primes.{prime→test}
use Rattle.residue.specs.Residues.{res_zero, res_one}
use Rattle.counting.specs.Bools.{not_true, iff_eq, and_in, and_left, and_right}
use Rattle.counting.specs.Sets.{Set, ◌∈◌, indicator}
use Rattle.counting.specs.Counts.{#-ext}
use Rattle.counting.specs.Beside.{beside}
use Rattle.counting.specs.Blocks.{beside_low, beside_high, low_or_high}
use Rattle.columns.specs.Columns.{width, members, upto, moved_up_in, moved_up, word_of}
use Rattle.columns.specs.ColumnSets.{whole, Fits}
use Rattle.columns.specs.Words.Sets.{whole_below}
use Rattle.columns.specs.Words.Operations.{within_iff, word_members}
use Rattle.columns.specs.Words.SetLaws.{upto_iff, inserted_same, inserted_old, inserted_split}
use Rattle.rank.specs.Modulus.{modulus, field_of, residue_of}
use Rattle.rank.specs.Verdict.{verdict_number}
use Rattle.rank.specs.Layered.Model.{Assignment, placing, size}
use Rattle.rank.specs.Layered.Rank.{rank, placed}
use Rattle.rank.proofs.Layered.Restricting.{constant_placed}
use Rattle.rank.proofs.Layered.ColumnOrder.{placed_size}
use Rattle.exchange.specs.Solution.{shown, Solved}
use Rattle.exchange.specs.Solve.{fitting, admissible, Shown}
use Rattle.exchange.specs.SolveLaws.{all_below_iff}
use Rattle.mixed_models.specs.Mixed.{Mixed, unit, mixed_rank, mixed_verdict, form_constants, form_parameters, layered_form, served, shown_I, shown_J, mixed}
use Rattle.mixed_models.proofs.MixedTheorem.{form_rank, shown_reach}
use Rattle.mixed_models.proofs.MixedTheorem.Form.{served_iff, shown_I_iff}
use Rattle.mixed.specs.MixedForm.{form_entry, form_row, serves}
use Rattle.limits.specs.Limits.{most_columns, most_rows, most_constants, no_column}
use Rattle.format.specs.Refusals.{unless, not_mixed, mixed_test, mixed_tests, mixed_refusal, model_tests, refusal}
use Rattle.format.specs.RefusalLaws.{first_fails, then_refused, then_passed, then_zero, zero_then, unless_zero, zero_unless}
use Rattle.format.specs.TestLaws.{Accepted, model_accepted, constant_below}
use Rattle.mixed.specs.Shown.{MixedAnswer}
use Rattle.mixed.specs.MixedAnswers.{MixedAnswered}

one_at_most : (b : Bool) → indicator b ≤ 1
unfolding indicator
one_at_most true = omega arith
one_at_most false = omega arith

-- ---- the form in numbers

module _ (p m n : ℕ) (cs ws : List ℕ) where
  abbrev X : Mixed
  X = mixed p m n cs ws

  place_row : (i x : ℕ) → x < m + n → (i * (m + n) + x) / (m + n) ≡ i
  place_row i x l = mul-add-div_right {m = m + n} (omega arith) i x ∙ ap (λ (k : ℕ). i + k) (div-eq_of_lt l) ∙ plus_zero i
    where
      plus_zero : (k : ℕ) → k + 0 ≡ k
      plus_zero k = omega arith

  place_column : (i x : ℕ) → x < m + n → (i * (m + n) + x) % (m + n) ≡ x
  place_column i x l = mul-add-mod_self_right i (m + n) x ∙ mod-eq_of_lt l

  entry_at : (i x : ℕ) → x < m + n → form_entry m n cs (i * (m + n) + x) ≡ beside m (λ j. indicator (eqb i j)) (λ y. get_or cs (i * n + y) 0) x
  unfolding form_entry
  entry_at i x l = rw (place_row i x l, place_column i x l) refl

  entry_low : (i x : ℕ) → x < m → form_entry m n cs (i * (m + n) + x) ≡ indicator (eqb i x)
  entry_low i x l = entry_at i x (omega arith) ∙ beside_low m (λ j. indicator (eqb i j)) (λ y. get_or cs (i * n + y) 0) x l

  entry_high : (i y : ℕ) → y < n → form_entry m n cs (i * (m + n) + (m + y)) ≡ get_or cs (i * n + y) 0
  entry_high i y l = entry_at i (m + y) (omega arith) ∙ beside_high m (λ j. indicator (eqb i j)) (λ y. get_or cs (i * n + y) 0) y

  unit_at : (i x : ℕ) → unit (field_of p) i x ≡ residue_of p (indicator (eqb i x))
  unfolding unit indicator decide
  unit_at i x = elim (ℕ_discrete i x) as (λ d. cond (decide d) (field_of p).𝟙 (field_of p).𝟘 ≡ residue_of p (indicator (eqb i x))) [
    | yes e ↦ sym (ap (λ b. residue_of p (indicator b)) (eq-eqb i x e) ∙ res_one (modulus p).0 (modulus p).1)
    | no ne ↦ sym (ap (λ b. residue_of p (indicator b)) (ne_eqb i x ne) ∙ res_zero (modulus p).0 (modulus p).1)
  ]

  pub constants_at : (i x : ℕ) → x < m + n → form_constants X i x ≡ residue_of p (form_entry m n cs (i * (m + n) + x))
  constants_at i x l = low_or_high m x
      (λ lx. beside_low m (unit (field_of p) i) (X.Q i) x lx ∙ unit_at i x ∙ ap (residue_of p) (sym (entry_low i x lx)))
      (λ y e. rw e (beside_high m (unit (field_of p) i) (X.Q i) y ∙ ap (residue_of p) (sym (entry_high i y (omega arith)))))

  pub parameters_at : m + n ≤ width → (i x : ℕ) → i < m → x < m + n → form_parameters X i x ≡ form_row m (members (get_or ws i 0)) i x
  unfolding moved_up_in
  parameters_at h i x li l = low_or_high m x
      (λ lx. beside_low m (λ j. decide (ℕ_discrete i j)) (X.T i) x lx ∙ iff_eq (decide (ℕ_discrete i x)) (form_row m (members (get_or ws i 0)) i x)
      (λ e. let d : i ≡ x = (decide_iff (ℕ_discrete i x)).0 e in rw d (inserted_same (moved_up (members (get_or ws x 0)) m) x (omega arith)))
      (λ e. elim (inserted_split (moved_up (members (get_or ws i 0)) m) i x e) [
        | inl z ↦ (decide_iff (ℕ_discrete i x)).1 (sym z)
        | inr u ↦ absurd (true≢false (sym (and_left (leb m x) (members (get_or ws i 0) (x - m)) (and_left (leb m x && members (get_or ws i 0) (x - m)) (ltb x width) u)) ∙ lt-leb m x lx))
      ]))
      (λ y e. rw e (beside_high m (λ j. decide (ℕ_discrete i j)) (X.T i) y ∙ iff_eq (members (get_or ws i 0) y) (form_row m (members (get_or ws i 0)) i (m + y))
      (λ d. inserted_old (moved_up (members (get_or ws i 0)) m) i (m + y) (and_in (and_in (le-leb m (m + y) (omega arith)) (ap (members (get_or ws i 0)) (back y) ∙ d)) (lt-ltb (m + y) width (omega arith))))
      (λ d. elim (inserted_split (moved_up (members (get_or ws i 0)) m) i (m + y) d) [
        | inl z ↦ absurd (omega arith)
        | inr u ↦ ap (members (get_or ws i 0)) (sym (back y)) ∙ and_right (leb m (m + y)) (members (get_or ws i 0) (m + y - m)) (and_left (leb m (m + y) && members (get_or ws i 0) (m + y - m)) (ltb (m + y) width) u)
      ])))
    where
      back : (y : ℕ) → m + y - m ≡ y
      back y = omega arith

  -- what the call hands to the solver
  module _ {ns : Option (List ℕ)} (h : Accepted p n m m cs ws ns) (room : m + n ≤ most_columns) (form words : List ℕ) (offered : ℕ) (lf : length form ≡ most_constants) (lw : length words ≡ most_rows)
      (entries-are : (k : ℕ) → k < m * (m + n) → get_or form k 0 ≡ form_entry m n cs k) (all_offered : members offered ≡ upto (m + n)) where
    wide_enough : m + n ≤ width
    wide_enough = omega arith

    in_form : (i x : ℕ) → i < m → x < m + n → i * (m + n) + x < m * (m + n)
    in_form i x li lx = let g : (i + 1) * (m + n) ≤ m * (m + n) = mul-le-mul {n₂ = m} {m₂ = m + n} (omega arith) (omega arith) in omega arith

    entry_below : (i x : ℕ) → i < m → x < m + n → form_entry m n cs (i * (m + n) + x) < p
    entry_below i x li lx = low_or_high m x
        (λ l. rw (entry_low i x l) (omega (arith, one_at_most (eqb i x), h.prime.least)))
        (λ y e. rw (e, entry_high i y (omega arith)) (constant_below h (i * n + y) (row_inside i y li (omega arith))))
      where
        row_inside : (i y : ℕ) → i < m → y < n → i * n + y < m * n
        row_inside i y li ly = let g : (i + 1) * n ≤ m * n = mul-le-mul {n₂ = m} {m₂ = n} (omega arith) (omega arith) in omega arith

    -- every entry, by its place
    all_entries_below : (k : ℕ) → k < m * (m + n) → get_or form k 0 < p
    all_entries_below k l =
        let w : 0 < m + n = wide (m + n) k l in
        let x : k % (m + n) < m + n = mod-lt k w in
        let i : k / (m + n) < m = (div-lt_iff_lt-mul {k = m + n} {x = k} {y = m} w).1 l in
        rw (entries-are k l) (rw (at_place k) at (entry_below (k / (m + n)) (k % (m + n)) i x))
      where
        wide : (v k : ℕ) → k < m * v → 0 < v
        wide zero k l = absurd (omega (arith, mul-zero m))
        wide (suc v) k l = omega arith

        at_place : (k : ℕ) → k / (m + n) * (m + n) + k % (m + n) ≡ k
        at_place k = omega (arith, mod-add-div' k (m + n))

    pub form_admissible : admissible p (m + n) m m offered form words ≡ true
    unfolding admissible fitting
    form_admissible =
        let area : m * (m + n) ≤ most_constants = mul-le-mul {n₂ = most_rows} {m₂ = most_columns} h.a_most room in
        and_in
        (and_in
        (and_in
        (and_in
        (and_in (and_in (and_in (and_in (le-leb (m + n) most_columns room) (le-leb m most_rows h.a_most)) (le-leb m most_rows h.a_most)) (le-leb (m * (m + n)) (length form) (omega arith))) (le-leb m (length words) (omega (arith, h.a_most))))
        ((within_iff (m + n) offered).1 (λ x l e. (upto_iff (m + n) x wide_enough).0 (sym (ap (λ (S : Set). S x) all_offered) ∙ e))))
        (lt-ltb p 65536 (omega (arith, h.p_most))))
        (prime→test p h.prime))
        ((all_below_iff p (m * (m + n)) form).1 all_entries_below)

    pub shows_form : ((i : ℕ) → i < m → members (get_or words i 0) ≡ form_row m (members (get_or ws i 0)) i)
        → Shown p (m + n) m m offered form words (form_constants X) (form_parameters X) (λ x. true)
    shows_form rows_are = record {
      constants = λ i x li lx. constants_at i x lx ∙ ap (residue_of p) (sym (entries-are (i * (m + n) + x) (in_form i x li lx)));
      parameters = λ i x li lx. parameters_at wide_enough i x li lx ∙ sym (ap (λ (S : Set). S x) (rows_are i li));
      columns = λ x l. sym (ap (λ (S : Set). S x) all_offered ∙ (upto_iff (m + n) x wide_enough).1 l);
    }

-- ---- the answer

module _ (X : Mixed) (the_rank : ℕ) (placed-set side short-set : Set) (rows : List ℕ) (s : Solved (layered_form X) the_rank placed-set side short-set rows) where
  open X use {m, n}

  A : Assignment
  A = shown (m + n) m side rows

  pub rank_of_form : the_rank ≡ m + mixed_rank X
  rank_of_form = s.is_rank ∙ form_rank X

  full_size : size (layered_form X) A ≡ rank (layered_form X)
  unfolding A
  full_size = #-ext (m + n) (placing (shown (m + n) m side rows)) (placed (layered_form X)) (λ x l. s.places_it x) ∙ placed_size (layered_form X)

  -- a row serves an original column where it shows one
  served_shown : (i : ℕ) → i < m → m + n < no_column → (i ∈ served X A) ↔ serves m (get_or rows i 0)
  unfolding A
  served_shown i li small = (
    (λ e.
        let w = (served_iff X (shown (m + n) m side rows) i).0 e in
        elim (s.rows_shown i li) [
          | inl r ↦ let same : m + w.0 ≡ get_or rows i 0 = s.is_legal.one_each (m + w.0) (get_or rows i 0) i w.2 r.1 in (omega arith, omega (arith, r.0))
          | inr r ↦ absurd (r.1 (m + w.0) w.2)
        ]),
    λ w. elim (s.rows_shown i li) [
      | inl r ↦
          let y = get_or rows i 0 - m in
          let back : m + (get_or rows i 0 - m) ≡ get_or rows i 0 = omega (arith, w.0) in
          (served_iff X (shown (m + n) m side rows) i).1 (get_or rows i 0 - m, omega (arith, r.0, w.0), ap (shown (m + n) m side rows) back ∙ r.1)
      | inr r ↦ absurd (omega (arith, r.0, w.1))
    ],
  )

  pub mixed_answered : (t : MixedAnswer) → m + n < no_column → Fits t.short → t.rank ≡ the_rank - m → t.verdict ≡ verdict_number t.rank n m
      → ((i : ℕ) → (i ∈ members (whole t.rows)) ↔ ((i < m) × (serves m (get_or rows i 0) → ⊥))) → ((x : ℕ) → members (whole t.columns) x ≡ side (m + x)) → ((x : ℕ) → members (whole t.short) x ≡ short-set x)
      → MixedAnswered X t
  unfolding A mixed_verdict
  mixed_answered t small hs hr hv rows_are columns_are short-are =
      let r : t.rank ≡ mixed_rank X = omega (arith, rank_of_form) in
      let I : members (whole t.rows) ≡ shown_I X (shown (m + n) m side rows) = fun_ext (λ i. iff_eq (members (whole t.rows) i) (shown_I X (shown (m + n) m side rows) i)
      (λ e. let w = (rows_are i).0 e in (shown_I_iff X (shown (m + n) m side rows) i).1 (w.0, not_true _ (λ k. w.1 ((served_shown i w.0 small).0 k))))
      (λ e. let w = (shown_I_iff X (shown (m + n) m side rows) i).0 e in (rows_are i).1 (w.0, λ k. true≢false (sym ((served_shown i w.0 small).1 k) ∙ w.1)))) in
      let J : members (whole t.columns) ≡ shown_J X (shown (m + n) m side rows) = fun_ext (λ x. columns_are x ∙ s.side_shown (m + x)) in
      record {
        is_verdict = hv ∙ ap (λ (k : ℕ). verdict_number k n m) r;
        is_rank = r;
        rows_below = λ i e. ((rows_are i).0 e).0;
        columns_below = λ x e. omega (arith, (s.is_legal.offered (m + x) (constant_placed (shown (m + n) m side rows (m + x)) (sym (s.side_shown (m + x)) ∙ sym (columns_are x) ∙ e))).0);
        they_reach = rw (I, J) (shown_reach X (shown (m + n) m side rows) s.is_legal full_size);
        short_number = word_members width (whole t.short) (whole_below t.short hs) ∙ ap (word_of width) (fun_ext (λ x. short-are x ∙ s.is_short x));
      }

-- ---- the judgement

module _ (p n a b : ℕ) (cs ws : List ℕ) (ns : Option (List ℕ)) where
  pub at_model : (r : ℕ) → r ≡ refusal p n a b cs ws ns → r ≢ 0 → r ≡ mixed_refusal p n a b cs ws ns
  unfolding refusal mixed_refusal mixed_tests
  at_model r e h = then_refused (model_tests p n a b cs ws ns) (unless (mixed_test n a b) not_mixed) r e h

  pub at_mixed : refusal p n a b cs ws ns ≡ 0 → mixed_test n a b ≡ false → 10 ≡ mixed_refusal p n a b cs ws ns
  unfolding refusal mixed_refusal mixed_tests
  at_mixed z e = then_passed (model_tests p n a b cs ws ns) (unless (mixed_test n a b) not_mixed) 10 z (first_fails (mixed_test n a b) not_mixed [] e)

  pub at_none : refusal p n a b cs ws ns ≡ 0 → mixed_test n a b ≡ true → 0 ≡ mixed_refusal p n a b cs ws ns
  unfolding refusal mixed_refusal mixed_tests
  at_none z e = sym (zero_then (model_tests p n a b cs ws ns) (unless (mixed_test n a b) not_mixed) z (zero_unless (mixed_test n a b) not_mixed e))

  pub mixed_reads : (mixed_test n a b ≡ true) ↔ ((a ≡ b) × (a + n ≤ most_columns))
  unfolding mixed_test
  mixed_reads = (
    (λ e. (eqb-true a b (and_left (eqb a b) (leb (a + n) most_columns) e), leb-true (a + n) most_columns (and_right (eqb a b) (leb (a + n) most_columns) e))),
    λ w. and_in (eq-eqb a b w.0) (le-leb (a + n) most_columns w.1),
  )

  pub mixed_accepted : mixed_refusal p n a b cs ws ns ≡ 0 → Accepted p n a a cs ws ns × (a + n ≤ most_columns)
  unfolding refusal mixed_refusal mixed_tests
  mixed_accepted e =
      let z = then_zero (model_tests p n a b cs ws ns) (unless (mixed_test n a b) not_mixed) e in
      let w = mixed_reads.0 (unless_zero (mixed_test n a b) not_mixed z.1) in
      let h : Accepted p n a b cs ws ns = model_accepted p n a b cs ws ns z.0 in
      (rw (sym w.0) at h, w.1)
