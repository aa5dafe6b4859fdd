-- The refusal and the answers of a model depend on the first a × n constants, the first b parameter rows and the numbers of their parameters alone. Assumes nothing.
use Rattle.std.specs.Prelude.{ℕ, suc, ◌+◌, ◌*◌, ◌≤◌, ◌<◌, ◌≡◌, true, length, get_or, eqb, leb}
use Rattle.std.proofs.Common.{sym, ◌∙◌, arith, suc-mul, mul-le-mul_right, get_or-take}
use Rattle.std.proofs.Math.Path.{ap, ap₂, fun_ext}
use Rattle.std.proofs.Math.Logic.{by_cases}
use Rattle.std.proofs.Math.Bool.{decide}
use mathlib.Core.List.{List, []}
use Rattle.std.proofs.Math.Option.{Option}
use Rattle.std.proofs.Math.Decide.{ℕ_discrete}
use Rattle.std.proofs.Math.ListN.{take}
use borrow.Author.Tests.{eqb-true}
use Rattle.residue.specs.Residues.{res}
use Rattle.counting.specs.Bools.{iff_eq, and_left}
use Rattle.counting.specs.Sets.{Set}
use Rattle.counting.specs.Blocks.{beside_low, beside_high, low_or_high}
use Rattle.columns.specs.Columns.{width, members, word_of}
use Rattle.columns.specs.ColumnSets.{whole}
use Rattle.rank.specs.Modulus.{modulus}
use Rattle.rank.specs.Verdict.{verdict_number}
use Rattle.rank.specs.Layered.Rank.{rank, short}
use Rattle.listed_models.specs.ListedModel.{listed_model}
use Rattle.mixed_models.specs.Mixed.{Mixed, unit, mixed_rank, mixed_verdict, form_constants, form_parameters, layered_form, mixed}
use Rattle.mixed_models.proofs.MixedTheorem.{form_rank}
use Rattle.limits.specs.Limits.{most_columns}
use Rattle.format.specs.Lists.{rows_of, over}
use Rattle.format.specs.Numbers.{numbers_of}
use Rattle.format.specs.Refusals.{Tests, unless, ◌then◌, first_refusal, where_accepted, area_short, not_mixed, area_test, numbers_room, number_test, model_tests, refusal, mixed_test, mixed_tests, mixed_refusal}
use Rattle.format.specs.File.Format.{FileModel, encode, handed_over, write_refusal, bytes_written, WriteCall}
use Rattle.format.specs.RefusalLaws.{then_zero, unless_zero}
use Rattle.format.specs.TestLaws.{area_reads}
use Rattle.layered.specs.Answers.{LayeredCall}
use Rattle.layered.specs.Shown.{Answer}
use Rattle.mixed.specs.MixedAnswers.{MixedCall}
use Rattle.mixed.specs.Shown.{MixedAnswer}
use Rattle.promises.specs.Fixed.{SameAnswer, SameMixed}
use Rattle.promises.specs.CutLaws.{front_least}
use Rattle.format.proofs.Rows.{rows_of_take}
use Rattle.promises.specs.AgreeLaws.{Agree, rank_same, verdict_same, placed_same, short_same}

-- ---- two lists with the same front

module _ (k : ℕ) (xs ys : List ℕ) (e : take k xs ≡ take k ys) where
  pub front_at : (i : ℕ) → i < k → get_or xs i 0 ≡ get_or ys i 0
  front_at i l = sym (get_or-take k xs i 0 l) ∙ ap (λ (t : List ℕ). get_or t i 0) e ∙ get_or-take k ys i 0 l

  pub front_area : area_test k (length xs) ≡ area_test k (length ys)
  front_area =
      let f = front_least k k xs (omega arith) in
      let g = front_least k k ys (omega arith) in
      let l : length (take k xs) ≡ length (take k ys) = ap length e in
      iff_eq _ _
      (λ t. (area_reads k (length ys)).1 (g.1 (let m = f.0 ((area_reads k (length xs)).0 t) in omega arith)))
      (λ t. (area_reads k (length xs)).1 (f.1 (let m = g.0 ((area_reads k (length ys)).0 t) in omega arith)))

-- constants with the same front, row by row
pub constant_same : (n a : ℕ) (cs ds : List ℕ) → take (a * n) cs ≡ take (a * n) ds → (i x : ℕ) → i < a → x < n → get_or cs (i * n + x) 0 ≡ get_or ds (i * n + x) 0
constant_same n a cs ds e i x l m =
    let h : suc i * n ≤ a * n = mul-le-mul_right n l in
    let k : suc i * n ≡ i * n + n = suc-mul i n in
    front_at (a * n) cs ds e (i * n + x) (omega arith)

-- two areas of numbers, or none, from which the parameters of b rows have the same numbers
pub record SameNumbers (n b : ℕ) (ws : List ℕ) (ns ms : Option (List ℕ)) : Type 0 where
  pub room_same : numbers_room (b * n) ns ≡ numbers_room (b * n) ms
  pub test_same : number_test n (take b ws) ns ≡ number_test n (take b ws) ms
  pub rows_same : numbers_of n (take b ws) ns ≡ numbers_of n (take b ws) ms

module _ (p n a b : ℕ) (cs ds ws vs : List ℕ) (ec : take (a * n) cs ≡ take (a * n) ds) (ew : take b ws ≡ take b vs) where
  module _ (ns ms : Option (List ℕ)) (en : SameNumbers n b ws ns ms) where
    -- ---- refusals

    tests_same : model_tests p n a b cs ws ns ≡ model_tests p n a b ds vs ms
    unfolding model_tests
    tests_same = rw (front_area (a * n) cs ds ec, front_area b ws vs ew, ec, en.room_same, en.test_same, ew)

    pub refusal_same : refusal p n a b cs ws ns ≡ refusal p n a b ds vs ms
    unfolding refusal
    refusal_same = ap first_refusal tests_same

    pub mixed_refusal_same : mixed_refusal p n a b cs ws ns ≡ mixed_refusal p n a b ds vs ms
    unfolding mixed_refusal mixed_tests
    mixed_refusal_same = ap (λ (ts : Tests). first_refusal (ts then unless (mixed_test n a b) not_mixed)) tests_same

    -- ---- the file written

    handed_same : handed_over p n a b cs ws ns ≡ handed_over p n a b ds vs ms
    unfolding handed_over
    handed_same =
        ap (λ (rs : List (List ℕ)). record { p = p; n = n; a = a; b = b; constants = rs; parameters = take b ws; numbers = numbers_of n (take b ws) ns })
        (sym (rows_of_take n a cs) ∙ ap (rows_of n a) ec ∙ rows_of_take n a ds)
        ∙ ap (λ (x : Option (List (List ℕ))). record { p = p; n = n; a = a; b = b; constants = rows_of n a ds; parameters = take b ws; numbers = x }) en.rows_same
        ∙ ap (λ (us : List ℕ). record { p = p; n = n; a = a; b = b; constants = rows_of n a ds; parameters = us; numbers = numbers_of n us ms }) ew

    write_refusal_same : (out : List ℕ) → write_refusal p n a b cs ws ns out ≡ write_refusal p n a b ds vs ms out
    unfolding write_refusal
    write_refusal_same out = ap₂ (λ (ts : Tests) (m : FileModel). first_refusal (ts then unless (area_test (length (encode m)) (length out)) area_short)) tests_same handed_same

    bytes_same : (out : List ℕ) → bytes_written p n a b cs ws ns out ≡ bytes_written p n a b ds vs ms out
    unfolding bytes_written
    bytes_same out = ap₂ (λ (k : ℕ) (m : FileModel). where_accepted k (encode m) []) (write_refusal_same out) handed_same

    pub write_same : {out out' : List ℕ} {k len : ℕ} → WriteCall p n a b cs ws ns out k len out' → WriteCall p n a b ds vs ms out k len out'
    write_same {out} h = record {
      refusal_is = h.refusal_is ∙ write_refusal_same out;
      length_is = h.length_is ∙ ap length (bytes_same out);
      bytes_are = h.bytes_are ∙ ap (λ (bs : List ℕ). over bs out) (bytes_same out);
    }

  -- ---- the layered answer

  pub agree : Agree (modulus p).0 (modulus p).1 n a b (listed_model p n a b cs ws).Q (listed_model p n a b ds vs).Q (listed_model p n a b cs ws).T (listed_model p n a b ds vs).T
  agree = record {
    constants = λ i x l m. ap (res (modulus p).0 (modulus p).1) (constant_same n a cs ds ec i x l m);
    parameters = λ r x l m. ap (λ (w : ℕ). members w x) (front_at b ws vs ew r l);
  }

  -- whatever the numbers, where the refusals are the same
  pub layered_same : (ns ms : Option (List ℕ)) → refusal p n a b cs ws ns ≡ refusal p n a b ds vs ms → {r s : Answer} → LayeredCall p n a b cs ws ns r → LayeredCall p n a b ds vs ms s → SameAnswer r s
  layered_same ns ms e h g =
      let first = h.is_refusal ∙ e ∙ sym g.is_refusal in
      by_cases (ℕ_discrete (refusal p n a b cs ws ns) 0)
      (λ z.
      let x = h.if_accepted z in
      let y = g.if_accepted (sym e ∙ z) in
      let Q = (listed_model p n a b cs ws).Q in
      let Q' = (listed_model p n a b ds vs).Q in
      let T = (listed_model p n a b cs ws).T in
      let T' = (listed_model p n a b ds vs).T in
      let E : Set = λ (x : ℕ). true in record {
        same_refusal = first;
        same_verdict = x.is_verdict ∙ verdict_same (modulus p).0 (modulus p).1 n a b E Q Q' T T' agree ∙ sym y.is_verdict;
        same_rank = x.solved.is_rank ∙ rank_same (modulus p).0 (modulus p).1 n a b E Q Q' T T' agree ∙ sym y.solved.is_rank;
        same_placed = x.placed_number ∙ ap (word_of width) (fun_ext (placed_same (modulus p).0 (modulus p).1 n a b E Q Q' T T' agree)) ∙ sym y.placed_number;
        same_short = x.short_number ∙ ap (word_of width) (fun_ext (short_same (modulus p).0 (modulus p).1 n a b E Q Q' T T' agree)) ∙ sym y.short_number;
      })
      (λ nz.
      let x = h.if_refused nz in
      let y = g.if_refused (λ z. nz (e ∙ z)) in record {
        same_refusal = first;
        same_verdict = x.no_verdict ∙ sym y.no_verdict;
        same_rank = x.no_rank ∙ sym y.no_rank;
        same_placed = ap whole (x.none_placed ∙ sym y.none_placed);
        same_short = ap whole (x.none_short ∙ sym y.none_short);
      })

  -- ---- the mixed answer

  equal_rows : (ns : Option (List ℕ)) → mixed_refusal p n a b cs ws ns ≡ 0 → a ≡ b
  unfolding mixed_refusal mixed_tests mixed_test
  equal_rows ns z = eqb-true a b (and_left (eqb a b) (leb (a + n) most_columns) (unless_zero _ _ (then_zero (model_tests p n a b cs ws ns) _ z).1))

  module _ (ab : a ≡ b) where
    abbrev X : Mixed
    X = mixed p a n cs ws

    abbrev Y : Mixed
    Y = mixed p a n ds vs

    form_agree : Agree (modulus p).0 (modulus p).1 (a + n) a a (form_constants X) (form_constants Y) (form_parameters X) (form_parameters Y)
    form_agree = record {
      constants = λ i x l m. low_or_high a x
          (λ j. beside_low a (unit X.K i) (X.Q i) x j ∙ sym (beside_low a (unit Y.K i) (Y.Q i) x j))
          (λ y f. let my : y < n = omega arith in
          rw f (beside_high a (unit X.K i) (X.Q i) y ∙ ap (res (modulus p).0 (modulus p).1) (constant_same n a cs ds ec i y l my)
          ∙ sym (beside_high a (unit Y.K i) (Y.Q i) y)));
      parameters = λ r x l m. low_or_high a x
          (λ j. beside_low a (λ j. decide (ℕ_discrete r j)) (X.T r) x j ∙ sym (beside_low a (λ j. decide (ℕ_discrete r j)) (Y.T r) x j))
          (λ y f.
          rw f (beside_high a (λ j. decide (ℕ_discrete r j)) (X.T r) y ∙ ap (λ (w : ℕ). members w y) (front_at b ws vs ew r (omega arith))
          ∙ sym (beside_high a (λ j. decide (ℕ_discrete r j)) (Y.T r) y)));
    }

    form_rank_same : rank (layered_form X) ≡ rank (layered_form Y)
    form_rank_same =
        rank_same (modulus p).0 (modulus p).1 (a + n) a a (λ x. true)
        (form_constants X) (form_constants Y) (form_parameters X) (form_parameters Y) form_agree

    form_short_same : (x : ℕ) → short (layered_form X) x ≡ short (layered_form Y) x
    form_short_same =
        short_same (modulus p).0 (modulus p).1 (a + n) a a (λ x. true)
        (form_constants X) (form_constants Y) (form_parameters X) (form_parameters Y) form_agree

    mixed_rank_same : mixed_rank X ≡ mixed_rank Y
    mixed_rank_same = omega (arith, form_rank X, form_rank Y, form_rank_same)

    mixed_verdict_same : mixed_verdict X ≡ mixed_verdict Y
    unfolding mixed_verdict
    mixed_verdict_same = ap (λ (k : ℕ). verdict_number k n a) mixed_rank_same

  pub mixed_same : (ns ms : Option (List ℕ)) → mixed_refusal p n a b cs ws ns ≡ mixed_refusal p n a b ds vs ms → {r s : MixedAnswer} → MixedCall p n a b cs ws ns r → MixedCall p n a b ds vs ms s → SameMixed r s
  mixed_same ns ms e h g =
      let first = h.is_refusal ∙ e ∙ sym g.is_refusal in
      by_cases (ℕ_discrete (mixed_refusal p n a b cs ws ns) 0)
      (λ z.
      let x = h.if_accepted z in
      let y = g.if_accepted (sym e ∙ z) in
      let ab = equal_rows ns z in record {
        same_refusal = first;
        same_verdict = x.is_verdict ∙ mixed_verdict_same ab ∙ sym y.is_verdict;
        same_rank = x.is_rank ∙ mixed_rank_same ab ∙ sym y.is_rank;
        same_short = x.short_number ∙ ap (word_of width) (fun_ext (form_short_same ab)) ∙ sym y.short_number;
      })
      (λ nz.
      let x = h.if_refused nz in
      let y = g.if_refused (λ z. nz (e ∙ z)) in
      record {
        same_refusal = first;
        same_verdict = x.no_verdict ∙ sym y.no_verdict;
        same_rank = x.no_rank ∙ sym y.no_rank;
        same_short = ap whole (x.none_short ∙ sym y.none_short);
      })
