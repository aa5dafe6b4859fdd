-- The degree depends on the first a × n constants, the first b parameter rows and the powers that are read alone: two calls with the same ones agree in the
-- refusal and in the degree. Assumes nothing.
use Prim.Native.Nat.{ℕ, ◌+◌, ◌*◌, ◌≤◌, ◌<◌}
use Rattle.std.specs.Prelude.{◌≡◌, refl, Bool, true, ◌&&◌, List, eqb, length, take}
use Rattle.std.proofs.Math.Path.{sym, ap, ap₂}
use Rattle.std.proofs.Common.{◌∙◌, ⊎_elim, arith}
use Rattle.std.proofs.Math.Logic.{by_cases}
use Rattle.std.proofs.Math.Option.{Option}
use Rattle.std.proofs.Math.Decide.{ℕ_discrete}
use Rattle.counting.specs.Bools.{iff_eq}
use Rattle.rank.specs.Modulus.{modulus}
use Rattle.listed_models.specs.ListedModel.{listed_model}
use Rattle.rank.specs.Layered.Model.{Model, Assignment, Legal}
use Rattle.rank.proofs.Layered.Meaning.{seat_cases}
use Rattle.degrees.specs.Degrees.{Powers, degree, listed_powers, power_at, weight}
use Rattle.degrees.proofs.Degree.{degree_bounds, degree_cases}
use Rattle.degrees.specs.Totals.{total_ext}
use Rattle.format.specs.Refusals.{unless, ◌then◌, first_refusal, no_degree, area_test}
use Rattle.format.specs.TestLaws.{area_reads}
use Rattle.degree.specs.Answers.{powers_low, degree_question, power_areas, dynamic_tests, DegreeAnswered, DegreeCall}
use Rattle.degree.specs.Shown.{Degree}
use Rattle.promises.specs.Fixed.{SameDegree}
use Rattle.promises.specs.AgreeLaws.{legal_to, verdict_same}
use Rattle.promises.specs.AnswerLaws.{agree, constant_same, front_area, front_at, SameNumbers}
use Rattle.promises.specs.DegreeLaws.{PowersLow, PowersLent, low_iff}

-- the powers agree where they are read: of the constant rows, of the columns, and of the parameters
pub record SamePowers (M : Model) (W U : Powers) : Type 0 where
  pub rows_same : (h : ℕ) → h < M.a → W.row_power h ≡ U.row_power h
  pub columns_same : (x : ℕ) → x < M.n → W.column_power x ≡ U.column_power x
  pub parameters_same : (r x : ℕ) → r < M.b → x < M.n → M.T r x ≡ true → W.power r x ≡ U.power r x

module _ (p n a b : ℕ) where
  -- ---- one way

  module _ (cs ds ws vs : List ℕ) (ec : take (a * n) cs ≡ take (a * n) ds) (ew : take b ws ≡ take b vs) (W U : Powers) (e : SamePowers (listed_model p n a b cs ws) W U) where
    abbrev M : Model
    M = listed_model p n a b cs ws

    abbrev N : Model
    N = listed_model p n a b ds vs

    turned : SamePowers N U W
    turned = record {
      rows_same = λ h l. sym (e.rows_same h l);
      columns_same = λ x l. sym (e.columns_same x l);
      parameters_same = λ r x l m t. sym (e.parameters_same r x l m ((agree p n a b cs ds ws vs ec ew).parameters r x l m ∙ t));
    }

    weight_along : (A : Assignment) → Legal M A → weight M W A ≡ weight N U A
    unfolding weight power_at
    weight_along A l = ap₂ ◌+◌ (total_ext a W.row_power U.row_power e.rows_same) (total_ext n (λ x. power_at W x (A x)) (λ x. power_at U x (A x)) (λ x lx. seat_cases (A x)
        (λ s. ap (power_at W x) s ∙ sym (ap (power_at U x) s))
        (λ s. ap (power_at W x) s ∙ e.columns_same x lx ∙ sym (ap (power_at U x) s))
        (λ r s. ap (power_at W x) s ∙ e.parameters_same r x (l.parameter x r s).0 lx (l.parameter x r s).1 ∙ sym (ap (power_at U x) s))))

    degree_along : degree M W ≤ degree N U
    degree_along = ⊎_elim
        (λ w.
        let f : Legal N w.0 = legal_to (modulus p).0 (modulus p).1 n a b (λ y. true) M.Q N.Q M.T N.T (agree p n a b cs ds ws vs ec ew) w.0 w.1 in
        omega (arith, w.3, weight_along w.0 w.1, degree_bounds N U w.0 f w.2))
        (λ z. omega (arith, z))
        (degree_cases M W)

    low_along : PowersLow M W → PowersLow N U
    low_along h = record {
      rows_low = λ i l. omega (arith, e.rows_same i l, h.rows_low i l);
      columns_low = λ x l. omega (arith, e.columns_same x l, h.columns_low x l);
      parameters_low = λ r x l m t. let s = (agree p n a b cs ds ws vs ec ew).parameters r x l m ∙ t in omega (arith, e.parameters_same r x l m s, h.parameters_low r x l m s);
    }

  -- ---- both ways

  module _ (cs ds ws vs : List ℕ) (ec : take (a * n) cs ≡ take (a * n) ds) (ew : take b ws ≡ take b vs) (W U : Powers) (e : SamePowers (listed_model p n a b cs ws) W U) where
    degree_same : degree (listed_model p n a b cs ws) W ≡ degree (listed_model p n a b ds vs) U
    degree_same = omega (arith, degree_along cs ds ws vs ec ew W U e, degree_along ds cs vs ws (sym ec) (sym ew) U W (turned cs ds ws vs ec ew W U e))

    abbrev X : Model
    X = listed_model p n a b cs ws

    abbrev Y : Model
    Y = listed_model p n a b ds vs

    question_same : degree_question X W ≡ degree_question Y U
    question_same =
        ap₂ (λ (v : ℕ) (t : Bool). unless (eqb v 1 && t) no_degree)
        (verdict_same (modulus p).0 (modulus p).1 n a b (λ y. true) X.Q Y.Q X.T Y.T (agree p n a b cs ds ws vs ec ew))
        (iff_eq (powers_low X W) (powers_low Y U)
        (λ t. (low_iff Y U).1 (low_along cs ds ws vs ec ew W U e ((low_iff X W).0 t)))
        (λ t. (low_iff X W).1 (low_along ds cs vs ws (sym ec) (sym ew) U W (turned cs ds ws vs ec ew W U e) ((low_iff Y U).0 t))))

  -- whatever the numbers and the surplus, where the refusals are the same
  module _ (cs ds ws vs : List ℕ) (ec : take (a * n) cs ≡ take (a * n) ds) (ew : take b ws ≡ take b vs) (rp cp pp rq cq pq : List ℕ)
      (e : SamePowers (listed_model p n a b cs ws) (listed_powers n rp cp pp) (listed_powers n rq cq pq)) (ns ms : Option (List ℕ)) where
    pub degree_calls_same : first_refusal (dynamic_tests p n a b cs ws ns rp cp pp) ≡ first_refusal (dynamic_tests p n a b ds vs ms rq cq pq)
        → (r s : Degree) → DegreeCall p n a b cs ws ns rp cp pp r → DegreeCall p n a b ds vs ms rq cq pq s → SameDegree r s
    degree_calls_same d r s h g = record {
      same_refusal = h.is_refusal ∙ d ∙ sym g.is_refusal;
      same_degree =
          by_cases (ℕ_discrete (first_refusal (dynamic_tests p n a b cs ws ns rp cp pp)) 0)
          (λ z. (h.if_accepted z).is_degree ∙ degree_same cs ds ws vs ec ew (listed_powers n rp cp pp) (listed_powers n rq cq pq) e ∙ sym (g.if_accepted (sym d ∙ z)).is_degree)
          (λ nz. (h.if_refused nz).no_degree ∙ sym (g.if_refused (λ z. nz (d ∙ z))).no_degree);
    }

    -- which they are where the numbers are the same and the areas are long enough alike
    due_same : SameNumbers n b ws ns ms → area_test a (length rp) ≡ area_test a (length rq) → area_test n (length cp) ≡ area_test n (length cq) → area_test (b * n) (length pp) ≡ area_test (b * n) (length pq)
        → first_refusal (dynamic_tests p n a b cs ws ns rp cp pp) ≡ first_refusal (dynamic_tests p n a b ds vs ms rq cq pq)
    due_same en er el ep = ap first_refusal (rw (front_area (a * n) cs ds ec, front_area b ws vs ew, ec, en.room_same, en.test_same, ew, er, el, ep, question_same cs ds ws vs ec ew (listed_powers n rp cp pp) (listed_powers n rq cq pq) e) refl)

-- powers with the same fronts
pub front_powers : (p n a b : ℕ) (cs ws rp cp pp rq cq pq : List ℕ) → take a rp ≡ take a rq → take n cp ≡ take n cq → take (b * n) pp ≡ take (b * n) pq
    → SamePowers (listed_model p n a b cs ws) (listed_powers n rp cp pp) (listed_powers n rq cq pq)
front_powers p n a b cs ws rp cp pp rq cq pq er el ep = record {
  rows_same = front_at a rp rq er;
  columns_same = front_at n cp cq el;
  parameters_same = λ r x l m t. constant_same n b pp pq ep r x l m;
}

-- calls whose areas have the same fronts
pub degree_front_same : (p n a b : ℕ) (cs ds ws vs : List ℕ) → take (a * n) cs ≡ take (a * n) ds → take b ws ≡ take b vs → (ns ms : Option (List ℕ)) → SameNumbers n b ws ns ms
    → (rp cp pp rq cq pq : List ℕ) → take a rp ≡ take a rq → take n cp ≡ take n cq → take (b * n) pp ≡ take (b * n) pq
    → (r s : Degree) → DegreeCall p n a b cs ws ns rp cp pp r → DegreeCall p n a b ds vs ms rq cq pq s → SameDegree r s
degree_front_same p n a b cs ds ws vs ec ew ns ms en rp cp pp rq cq pq er el ep =
    let e = front_powers p n a b cs ws rp cp pp rq cq pq er el ep in
    degree_calls_same p n a b cs ds ws vs ec ew rp cp pp rq cq pq e ns ms
    (due_same p n a b cs ds ws vs ec ew rp cp pp rq cq pq e ns ms en (front_area a rp rq er) (front_area n cp cq el) (front_area (b * n) pp pq ep))

-- ---- one model, with areas of powers that hold theirs

module _ (p n a b : ℕ) (cs ws rp cp pp rq cq pq : List ℕ) (l : PowersLent n a b rp cp pp) (m : PowersLent n a b rq cq pq)
    (e : SamePowers (listed_model p n a b cs ws) (listed_powers n rp cp pp) (listed_powers n rq cq pq)) where
  both : {k i j : ℕ} → k ≤ i → k ≤ j → area_test k i ≡ area_test k j
  both {k} {i} {j} u v = (area_reads k i).1 u ∙ sym ((area_reads k j).1 v)

  pub degree_lent_same : (ns : Option (List ℕ)) (r s : Degree) → DegreeCall p n a b cs ws ns rp cp pp r → DegreeCall p n a b cs ws ns rq cq pq s → SameDegree r s
  degree_lent_same ns =
      degree_calls_same p n a b cs cs ws ws refl refl rp cp pp rq cq pq e ns ns
      (due_same p n a b cs cs ws ws refl refl rp cp pp rq cq pq e ns ns (record { room_same = refl; test_same = refl; rows_same = refl })
      (both l.rows_lent m.rows_lent) (both l.columns_lent m.columns_lent) (both l.parameters_lent m.parameters_lent))

  -- what is asked beside a file
  pub asked_same : (power_areas n a b rp cp pp then degree_question (listed_model p n a b cs ws) (listed_powers n rp cp pp))
      ≡ (power_areas n a b rq cq pq then degree_question (listed_model p n a b cs ws) (listed_powers n rq cq pq))
  asked_same = rw (both l.rows_lent m.rows_lent, both l.columns_lent m.columns_lent, both l.parameters_lent m.parameters_lent, question_same p n a b cs cs ws ws refl refl (listed_powers n rp cp pp) (listed_powers n rq cq pq) e) refl

  -- what is answered
  pub answered_same : (r : Degree) → DegreeAnswered (listed_model p n a b cs ws) (listed_powers n rp cp pp) r → DegreeAnswered (listed_model p n a b cs ws) (listed_powers n rq cq pq) r
  answered_same r h =
      let d = degree_same p n a b cs cs ws ws refl refl (listed_powers n rp cp pp) (listed_powers n rq cq pq) e in
      record {
        is_degree = h.is_degree ∙ d;
        is_legal = h.is_legal;
        places_all = h.places_all;
        reaches = sym (weight_along p n a b cs cs ws ws refl refl (listed_powers n rp cp pp) (listed_powers n rq cq pq) e _ h.is_legal) ∙ h.reaches ∙ d;
        side_shown = h.side_shown;
        rows_shown = h.rows_shown;
        past_rows = h.past_rows;
        row_count = h.row_count;
      }
