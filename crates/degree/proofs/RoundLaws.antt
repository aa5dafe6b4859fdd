-- The arrays of the descent from round to round: how it starts, what a round makes of them, and how it ends. Assumes nothing.
use Prim.Native.Nat.{ℕ, ◌+◌, ◌-◌, ◌*◌, ◌≤◌, ◌<◌}
use mathlib.Core.Path.{◌≡◌, refl, sym, ap, ◌∙◌}
use mathlib.Core.Logic.{◌≢◌, ◌↔◌}
use mathlib.Core.Bool.{Bool, true, false, not, cond, true≢false}
use mathlib.Core.List.{List}
use native.Mathlib.Decide.{dec_lt}
use native.Mathlib.Omega.{arith}
use lib.Dec.{eqb}
use lib.ListN.{length, get_or}
use borrow.Author.Tests.{eq-eqb, eqb-true, eqb-false, le-leb, lt-ltb}
use Rattle.limits.specs.Limits.{most_columns, most_rows}
use Rattle.counting.specs.Bools.{true?, iff_eq, and_in, and_left, and_right, not_in, not_of, not_true}
use Rattle.counting.specs.Counts.{Touching, touching_iff}
use Rattle.counting.specs.Sets.{Set, Some, ◌∈◌, indicator}
use Rattle.columns.specs.Columns.{members, upto}
use Rattle.columns.specs.Words.Operations.{members_zero, within_iff}
use Rattle.residue.specs.Arithmetic.{is_prime}
use Rattle.residue.specs.Residues.{num_of_below, res, res_num_of}
use Rattle.rank.specs.Modulus.{modulus, field_of}
use Rattle.rank.specs.ModulusLaws.{modulus_is, residue_zero}
use Rattle.rank.specs.Layered.Rank.{rank, sum}
use Rattle.rank.specs.Linear.Kernels.{hits, hits_iff}
use Rattle.degrees.specs.Dynamics.{Dynamic, layered}
use Rattle.degrees.specs.Elimination.{Marked}
use Rattle.degrees.specs.Levels.{AfterRounds, Levelled, Room, raised, tight_constants, tight_parameters, touched}
use Rattle.degrees.specs.Pivots.{Agree, agree_same}
use Rattle.degrees.specs.Raising.{constant_touched, parameter_touched}
use Rattle.degrees.proofs.Rounds.{rounds_as}
use Rattle.degrees.proofs.Theorems.{descent_starts, rise_is_small, round_goes_on}
use Rattle.degrees.specs.TightEntries.{tight_at, tight_nonzero, tight_row, row_tight}
use Rattle.exchange.specs.Reduction.{RowsShown, reduced, reducible}
use Rattle.exchange.specs.Solve.{admissible, fitting}
use Rattle.exchange.specs.SolveLaws.{all_below_iff}
use Rattle.degree.specs.Code.{Top, Tops, Weighed, touches, Rise, LevelsRaised, HeightsRaised, Low, first_most, model_with, Ready, tableau_of, Descending, tight_part, ConstantsShown}
use Rattle.degree.proofs.TightLaws.{Place, all_in, place_below, place_split}

-- ---- a row by its top

module _ (n : ℕ) (S : ℕ → Type 0) (f : ℕ → ℕ) (t level : ℕ) (top : Top n S f t) (low : (x : ℕ) → x < n → S x → f x ≤ level) (pos : (x : ℕ) → x < n → S x → 0 < f x) where
  top_low : t ≤ level
  top_low = elim (dec_lt 0 t) [
    | yes l ↦ let w : Some n (λ x. S x × (f x ≡ t)) = top.reached l in omega (arith, low w.0 w.1 w.2.0, w.2.1)
    | no nl ↦ omega arith
  ]

  -- a row touches the set exactly if an entry there stands at its level
  pub touches_reads : (touches level t ≡ true) ↔ Some n (λ x. S x × (f x ≡ level))
  unfolding touches
  touches_reads = (
    λ e.
        let nz : t ≢ 0 = eqb-false t 0 (not_in (eqb t 0) (and_left (not (eqb t 0)) (eqb t level) e)) in
        let q : t ≡ level = eqb-true t level (and_right (not (eqb t 0)) (eqb t level) e) in
        let w : Some n (λ x. S x × (f x ≡ t)) = top.reached (omega arith) in
        (w.0, w.1, (w.2.0, w.2.1 ∙ q)),
    λ w.
        let g : f w.0 ≤ t = top.bounds w.0 w.1 w.2.0 in
        let h : 0 < f w.0 = pos w.0 w.1 w.2.0 in
        and_in (not_of (eqb t 0) (λ e. omega (arith, eqb-true t 0 e))) (eq-eqb t level (omega (arith, top_low, w.2.1))),
  )

  -- a row that does not leaves room
  pub untouched_room : (rise : ℕ) → (0 < t → t < level → t + rise ≤ level) → (touches level t ≡ true → ⊥) → (x : ℕ) → x < n → S x → f x + rise ≤ level
  unfolding touches
  untouched_room rise room nt x lx s =
      let g : f x ≤ t = top.bounds x lx s in
      let h : 0 < f x = pos x lx s in
      let ne : t ≢ level = λ e. nt (and_in (not_of (eqb t 0) (λ q. omega (arith, eqb-true t 0 q))) (eq-eqb t level e)) in
      omega (arith, top_low, room (omega arith) (omega (arith, top_low)))

-- the weights are 0 outside the set
pub top_inside : (n : ℕ) (S : ℕ → Type 0) (J : Set) (cp heights weights : List ℕ) (t : ℕ) → Weighed n J cp heights weights → Top n S (λ x. get_or weights x 0) t
    → Top n (λ x. S x × (x ∈ J)) (λ x. get_or cp x 0 + get_or heights x 0) t
top_inside n S J cp heights weights t w top = record {
  bounds = λ x lx s. omega (arith, inside x lx s.1, top.bounds x lx s.0);
  reached = λ l. let v : Some n (λ x. S x × (get_or weights x 0 ≡ t)) = top.reached l in elim (true? (J v.0)) [
    | yes j ↦ (v.0, v.1, ((v.2.0, j), sym (inside v.0 v.1 j) ∙ v.2.1))
    | no nj ↦ absurd (omega (arith, v.2.1, w v.0 v.1, ap (λ (c : Bool). cond c (get_or cp v.0 0 + get_or heights v.0 0) 0) (not_true (J v.0) nj)))
  ];
}
  where
    inside : (x : ℕ) → x < n → x ∈ J → get_or weights x 0 ≡ get_or cp x 0 + get_or heights x 0
    inside x lx j = w x lx ∙ ap (λ (c : Bool). cond c (get_or cp x 0 + get_or heights x 0) 0) j

-- ---- the constants that a list shows

module _ (p n a : ℕ) (cs : List ℕ) (prime : is_prime p ≡ true) (below : (k : ℕ) → k < a * n → get_or cs k 0 < p) where
  pub shown_nonzero : (h x : ℕ) → h < a → x < n → (get_or cs (h * n + x) 0 ≢ 0) ↔ (tableau_of p n cs h x ≢ (field_of p).𝟘)
  shown_nonzero h x lh lx =
      let w = residue_zero p prime (get_or cs (h * n + x) 0) (below (h * n + x) (place_below n a h x lh lx)) in
      (λ nz e. nz (w.0 e), λ nz e. nz (w.1 e))

-- rows that are shown by a list: its numbers are below p, and read back they are the rows
module _ (p n a : ℕ) (R : ℕ → ℕ → (field_of p).F) (cs cs' : List ℕ) (s : RowsShown p n a R cs cs') where
  pub shown_below : is_prime p ≡ true → (k : ℕ) → k < a * n → get_or cs' k 0 < p
  shown_below prime k l = let w : Place n a k = place_split n a k l in
      rw w.is_place (omega (arith, s.rows w.row w.column w.row_below w.column_below, num_of_below (modulus p).0 (modulus p).1 (R w.row w.column), modulus_is p prime))

  pub shown_agrees : Agree (field_of p) a n R (tableau_of p n cs')
  shown_agrees h x lh lx = sym (ap (res (modulus p).0 (modulus p).1) (s.rows h x lh lx) ∙ res_num_of (modulus p).0 (modulus p).1 (R h x))

-- ---- a round

module _ (p n a b : ℕ) (Q : ℕ → ℕ → (field_of p).F) (ws rp cp pp cs levels heights : List ℕ) (k : ℕ)
    (d : Descending p n a b Q ws rp cp pp cs levels heights k) where
  abbrev X : Dynamic
  X = model_with p n a b Q ws rp cp pp

  abbrev L : ℕ → ℕ
  L q = get_or levels q 0

  abbrev z : ℕ → ℕ
  z x = get_or heights x 0

  -- the rounds have not raised much, so levels and heights stay small
  pub risen_small : k ≤ 2976
  risen_small = omega (arith, rise_is_small X d.full first_most k (tableau_of p n cs) L z d.after, d.ready.square, d.ready.columns)

  pub heights_small : (x : ℕ) → x < n → z x ≤ 10000
  heights_small x l = omega (arith, d.after.low_heights x l, risen_small)

  pub levels_small : (q : ℕ) → q < n → L q ≤ 10000
  levels_small q l = omega (arith, d.after.low_levels q (omega (arith, d.ready.square)), risen_small)

  -- the rows can be reduced
  pub reduction_taken : (weights : List ℕ) → n ≤ length weights → reducible p n a weights levels cs ≡ true
  unfolding reducible admissible fitting
  reduction_taken weights lw = let r : Ready p n a b cs ws rp cp pp = d.ready in
      and_in
      (and_in
      (and_in
      (and_in
      (and_in
      (and_in
      (and_in (and_in (and_in (and_in (le-leb n most_columns r.columns) (le-leb a most_rows (omega (arith, r.square, r.columns)))) (le-leb 0 most_rows (omega arith))) (le-leb (a * n) (length cs) r.constants_lent)) (le-leb 0 0 (omega arith)))
      ((within_iff n 0).1 (λ x l e. absurd (true≢false (sym e ∙ ap (λ (S : Set). S x) members_zero)))))
      (lt-ltb p 65536 r.p_small))
      r.prime)
      ((all_below_iff p (a * n) cs).1 r.constants_below))
      (le-leb n (length weights) lw))
      (le-leb a (length levels) (omega (arith, d.level_count, r.square, r.columns)))

  module _ (J : Set) (weights : List ℕ) (w : Weighed n J cp heights weights) where
    pub marked : Marked X (tableau_of p n cs) L z J (λ x. get_or weights x 0) (λ h. get_or levels h 0)
    marked = record {
      inside = λ x lx j. w x lx ∙ ap (λ (c : Bool). cond c (get_or cp x 0 + get_or heights x 0) 0) j;
      outside = λ x lx nj. w x lx ∙ ap (λ (c : Bool). cond c (get_or cp x 0 + get_or heights x 0) 0) (not_true (J x) nj);
      levels = λ h lh. refl;
      positive = d.positive;
    }

    module _ (small : sum (tight_part p n a b Q ws rp cp pp cs levels heights) J < n) (cs' tops : List ℕ)
        (s : RowsShown p n a (reduced (field_of p) n (λ x. get_or weights x 0) (λ h. get_or levels h 0) (tableau_of p n cs) a) cs cs')
        (t : Tops n a b cs' ws pp J weights heights tops) where
      abbrev P' : ℕ → ℕ → (field_of p).F
      P' = tableau_of p n cs'

      goes_on : Levelled X P' L z × ((rise : ℕ) → Room X L z J rise P' → AfterRounds X first_most (k + rise) P' (raised rise L (touched X L z J P')) (raised rise z J))
      goes_on = round_goes_on X first_most k (tableau_of p n cs) L z d.after J small _ _ marked P' (shown_agrees p n a _ cs cs' s)

      below' : (i : ℕ) → i < a * n → get_or cs' i 0 < p
      below' = shown_below p n a _ cs cs' s d.ready.prime

      -- the entries of a row in the set, and its top
      abbrev Constant : ℕ → ℕ → Type 0
      Constant h x = (get_or cs' (h * n + x) 0 ≢ 0) × (x ∈ J)

      abbrev Parameter : ℕ → ℕ → Type 0
      Parameter r x = (x ∈ members (get_or ws r 0)) × (x ∈ J)

      constant_tops : (h : ℕ) → h < a → Top n (Constant h) (λ x. get_or cp x 0 + z x) (get_or tops h 0)
      constant_tops h lh = top_inside n (λ x. get_or cs' (h * n + x) 0 ≢ 0) J cp heights weights (get_or tops h 0) w (t.constants h lh)

      constant_low : (h : ℕ) → h < a → (x : ℕ) → x < n → Constant h x → get_or cp x 0 + z x ≤ L h
      constant_low h lh x lx c = goes_on.0.constant_le h x lh lx ((shown_nonzero p n a cs' d.ready.prime below' h x lh lx).0 c.0)

      parameter_low : (r : ℕ) → r < b → (x : ℕ) → x < n → Parameter r x → get_or pp (r * n + x) 0 + z x ≤ L (a + r)
      parameter_low r lr x lx c = goes_on.0.row_le r x lr lx c.0

      positive : (v x : ℕ) → x < n → 0 < v + z x
      positive v x lx = omega (arith, d.positive x lx)

      constant_touches : (h : ℕ) → h < a → touches (L h) (get_or tops h 0) ≡ touched X L z J P' h
      constant_touches h lh = iff_eq (touches (L h) (get_or tops h 0)) (touched X L z J P' h)
          (λ e. let v = reads.0 e in constant_touched X L z J P' h lh ∙ (touching_iff n (hits (field_of p) (tight_constants X P' L z)) J h).1
          (v.0, v.1, (v.2.0.1, (hits_iff (field_of p) (tight_constants X P' L z) h v.0).1 (rw (tight_at X P' L z h v.0 v.2.1) ((nonzero v.0 v.1).0 v.2.0.0)))))
          (λ e. let v : Touching n (hits (field_of p) (tight_constants X P' L z)) J h = (touching_iff n (hits (field_of p) (tight_constants X P' L z)) J h).0 (sym (constant_touched X L z J P' h lh) ∙ e) in
          let u = tight_nonzero X P' L z h v.0 ((hits_iff (field_of p) (tight_constants X P' L z) h v.0).0 v.2.1) in
          reads.1 (v.0, v.1, (((nonzero v.0 v.1).1 u.1, v.2.0), u.0)))
        where
          reads : (touches (L h) (get_or tops h 0) ≡ true) ↔ Some n (λ x. Constant h x × (get_or cp x 0 + z x ≡ L h))
          reads = touches_reads n (Constant h) (λ x. get_or cp x 0 + z x) (get_or tops h 0) (L h) (constant_tops h lh) (constant_low h lh) (λ x lx c. positive (get_or cp x 0) x lx)

          nonzero : (x : ℕ) → x < n → (get_or cs' (h * n + x) 0 ≢ 0) ↔ (P' h x ≢ (field_of p).𝟘)
          nonzero x lx = shown_nonzero p n a cs' d.ready.prime below' h x lh lx

      parameter_touches : (r : ℕ) → r < b → touches (L (a + r)) (get_or tops (a + r) 0) ≡ touched X L z J P' (a + r)
      parameter_touches r lr = iff_eq (touches (L (a + r)) (get_or tops (a + r) 0)) (touched X L z J P' (a + r))
          (λ e. let v = reads.0 e in parameter_touched X L z J P' r ∙ (touching_iff n (tight_parameters X L z) J r).1 (v.0, v.1, (v.2.0.1, row_tight X L z r v.0 v.2.0.0 v.2.1)))
          (λ e. let v : Touching n (tight_parameters X L z) J r = (touching_iff n (tight_parameters X L z) J r).0 (sym (parameter_touched X L z J P' r) ∙ e) in
          let u = tight_row X L z r v.0 v.2.1 in reads.1 (v.0, v.1, ((u.0, v.2.0), u.1)))
        where
          reads : (touches (L (a + r)) (get_or tops (a + r) 0) ≡ true) ↔ Some n (λ x. Parameter r x × (get_or pp (r * n + x) 0 + z x ≡ L (a + r)))
          reads = touches_reads n (Parameter r) (λ x. get_or pp (r * n + x) 0 + z x) (get_or tops (a + r) 0) (L (a + r)) (t.parameters r lr) (parameter_low r lr) (λ x lx c. positive (get_or pp (r * n + x) 0) x lx)

      -- the rows that touch the set, of both kinds
      line_touches : (q : ℕ) → q < a + b → touches (L q) (get_or tops q 0) ≡ touched X L z J P' q
      line_touches q l = elim (dec_lt q a) [
        | yes lh ↦ constant_touches q lh
        | no nh ↦ let e : a + (q - a) ≡ q = omega arith in rw e at (parameter_touches (q - a) (omega arith))
      ]

      module _ (rise : ℕ) (u : Rise n levels tops rise) where
        room : Room X L z J rise P'
        room = record {
          constant_room = λ h x lh lx j nz nr. untouched_room n (Constant h) (λ y. get_or cp y 0 + z y) (get_or tops h 0) (L h) (constant_tops h lh) (constant_low h lh)
              (λ y ly c. positive (get_or cp y 0) y ly) rise (u.room h (omega (arith, d.ready.square))) (λ e. nr (sym (constant_touches h lh) ∙ e)) x lx
              ((shown_nonzero p n a cs' d.ready.prime below' h x lh lx).1 nz, j);
          row_room = λ r x lr lx j e nr. untouched_room n (Parameter r) (λ y. get_or pp (r * n + y) 0 + z y) (get_or tops (a + r) 0) (L (a + r)) (t.parameters r lr) (parameter_low r lr)
              (λ y ly c. positive (get_or pp (r * n + y) 0) y ly) rise (u.room (a + r) (omega (arith, d.ready.square))) (λ q. nr (sym (parameter_touches r lr) ∙ q)) x lx (e, j);
        }

        next : AfterRounds X first_most (k + rise) P' (raised rise L (touched X L z J P')) (raised rise z J)
        next = goes_on.1 rise room

        -- so nothing is too large for its type
        pub rise_fits : ((q : ℕ) → q < n → L q + rise < 65536) × ((x : ℕ) → x < n → z x + rise < 65536) × (k + rise ≤ 2976)
        rise_fits =
            let f : k + rise ≤ first_most * (a + b) = rise_is_small X d.full first_most (k + rise) P' (raised rise L (touched X L z J P')) (raised rise z J) next in (
              λ q l. omega (arith, f, d.after.low_levels q (omega (arith, d.ready.square)), d.ready.square, d.ready.columns),
              λ x l. omega (arith, f, d.after.low_heights x l, d.ready.square, d.ready.columns),
              omega (arith, f, d.ready.square, d.ready.columns),
            )

        by_indicator : (t : Bool) (v : ℕ) → v + rise * indicator t ≡ cond t (v + rise) v
        unfolding indicator
        by_indicator true v = omega arith
        by_indicator false v = omega arith

        pub round_done : (levels' heights' : List ℕ) → LevelsRaised n tops rise levels levels' → HeightsRaised n J rise heights heights'
            → Descending p n a b Q ws rp cp pp cs' levels' heights' (k + rise)
        round_done levels' heights' rl rh = record {
          ready = record {
            prime = d.ready.prime;
            p_small = d.ready.p_small;
            columns = d.ready.columns;
            square = d.ready.square;
            constants_lent = omega (arith, s.same_length, d.ready.constants_lent);
            constants_below = below';
            rows_lent = d.ready.rows_lent;
            rows_within = d.ready.rows_within;
            row_powers_lent = d.ready.row_powers_lent;
            column_powers_lent = d.ready.column_powers_lent;
            powers_lent = d.ready.powers_lent;
            row_powers_low = d.ready.row_powers_low;
            column_powers_low = d.ready.column_powers_low;
            powers_low = d.ready.powers_low;
          };
          full = d.full;
          after = rounds_as X first_most (k + rise) P' _ _ next (λ q. get_or levels' q 0) (λ x. get_or heights' x 0)
              (λ q l. by_indicator (touched X L z J P' q) (L q) ∙ ap (λ (c : Bool). cond c (L q + rise) (L q)) (sym (line_touches q l)) ∙ sym (rl.each q (omega (arith, d.ready.square))))
              (λ x l. by_indicator (J x) (z x) ∙ sym (rh.each x l));
          positive = λ x l. omega (arith, d.positive x l, rh.each x l, by_indicator (J x) (z x));
          level_count = rl.same_length ∙ d.level_count;
          height_count = rh.same_length ∙ d.height_count;
        }

-- ---- the start

module _ (p n a b : ℕ) (Q : ℕ → ℕ → (field_of p).F) (cs ws rp cp pp : List ℕ) (r : Ready p n a b cs ws rp cp pp) (shown : ConstantsShown p n a Q cs)
    (full : rank (layered (model_with p n a b Q ws rp cp pp)) ≡ n) (all : Set) (m : all ≡ upto n) (levels heights weights : List ℕ)
    (low : Low n heights) (w : Weighed n all cp heights weights) (t : Tops n a b cs ws pp all weights heights levels) where
  inside : (x : ℕ) → x < n → x ∈ all
  inside = all_in m r.columns

  tops_constant : (h : ℕ) → h < a → Top n (λ x. (get_or cs (h * n + x) 0 ≢ 0) × (x ∈ all)) (λ x. get_or cp x 0 + get_or heights x 0) (get_or levels h 0)
  tops_constant h lh = top_inside n (λ x. get_or cs (h * n + x) 0 ≢ 0) all cp heights weights (get_or levels h 0) w (t.constants h lh)

  level_low : (q : ℕ) → q < a + b → get_or levels q 0 ≤ first_most
  level_low q l = elim (dec_lt 0 (get_or levels q 0)) [
    | no nl ↦ omega arith
    | yes pos ↦ elim (dec_lt q a) [
      | yes lh ↦ let v = (tops_constant q lh).reached pos in omega (arith, v.2.1, r.column_powers_low v.0 v.1, (low v.0 v.1).1)
      | no nh ↦
          let e : a + (q - a) ≡ q = omega arith in
          let lr : q - a < b = omega arith in
          let v = (t.parameters (q - a) lr).reached (rw e pos) in
          omega (arith, ap (λ (i : ℕ). get_or levels i 0) e, v.2.1, r.powers_low (q - a) v.0 lr v.1 v.2.0.0, (low v.0 v.1).1)
    ]
  ]

  pub descending_starts : length levels ≡ most_columns → length heights ≡ most_columns → Descending p n a b Q ws rp cp pp cs levels heights 0
  descending_starts ll lz = record {
    ready = r;
    full = full;
    after = descent_starts (model_with p n a b Q ws rp cp pp) first_most (tableau_of p n cs) (λ q. get_or levels q 0) (λ x. get_or heights x 0)
        (record {
          kernel = agree_same (field_of p) a n Q (tableau_of p n cs) shown;
          constant_le = λ h x lh lx nz. (tops_constant h lh).bounds x lx ((shown_nonzero p n a cs r.prime r.constants_below h x lh lx).1 nz, inside x lx);
          row_le = λ i x li lx e. (t.parameters i li).bounds x lx (e, inside x lx);
        })
        (λ x l. omega (arith, (low x l).1)) level_low;
    positive = λ x l. omega (arith, (low x l).0);
    level_count = ll;
    height_count = lz;
  }
