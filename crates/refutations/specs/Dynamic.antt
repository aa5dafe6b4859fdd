-- What the promise of the call about the degree rules out: of every model, and on small models modulo 2. Assumes nothing.
use Rattle.std.specs.Prelude.{ℕ, suc, ◌<◌, ◌≡◌, refl, ◌≢◌, List, [], ◌∷◌, get_or, replicate}
use Rattle.std.proofs.Common.{sym, ap, ◌∙◌, subst, true≢false, arith, lit<}
use Rattle.std.proofs.Math.Option.{Option, none}
use Rattle.limits.specs.Limits.{most_rows, no_column}
use Rattle.counting.specs.Sets.{◌∈◌}
use Rattle.columns.specs.Columns.{members}
use Rattle.columns.specs.ColumnSets.{whole, empty_set}
use Rattle.listed_models.specs.ListedModel.{listed_model}
use Rattle.rank.specs.Layered.Model.{Model, Assignment, Legal, out, constant, row, is_placed}
use Rattle.rank.specs.Layered.Rank.{verdict}
use Rattle.claims.proofs.ClaimLaws.{constant_seat}
use Rattle.rank.specs.Totals.{total}
use Rattle.degrees.specs.Degrees.{Powers, AllPlaced, degree, listed_powers, power_at, weight}
use Rattle.format.specs.Refusals.{first_refusal, refusal}
use Rattle.format.specs.TestLaws.{model_accepted}
use Rattle.degree.specs.Answers.{dynamic_tests, powers_low, assignment, DegreeCall}
use Rattle.degree.specs.Shown.{Degree}
use Rattle.promises.specs.DegreeLaws.{PowerAbove, PowersLent, PowersLow, above_not_low, due_0_iff}
use Rattle.promises.specs.Theorems as Promised
use Rattle.refutations.specs.Computing.{computing}
use Rattle.refutations.specs.Accepted.{judging}

-- ---- of every model

module _ (p n a b : ℕ) (cs ws : List ℕ) (ns : Option (List ℕ)) (rp cp pp : List ℕ) (r : Degree) (call : DegreeCall p n a b cs ws ns rp cp pp r) where
  abbrev M : Model
  M = listed_model p n a b cs ws

  abbrev W : Powers
  W = listed_powers n rp cp pp

  -- the call refuses although the model is determined and no power is above 15
  pub degree_refused : refusal p n a b cs ws ns ≡ 0 → PowersLent n a b rp cp pp → verdict M ≡ 1 → PowersLow M W → r.refusal ≢ 0 → ⊥
  degree_refused z lent v low ne = ne (Promised.determined_is_accepted p n a b cs ws ns rp cp pp r call z lent v low)

  -- a degree, a side or rows are shown although the call refuses
  pub degree_although_refused : r.refusal ≢ 0 → r.degree ≢ 0 → ⊥
  degree_although_refused ne d = d (Promised.refused_shows_no_degree p n a b cs ws ns rp cp pp r call ne).no_degree

  pub side_although_refused : r.refusal ≢ 0 → r.constants ≢ empty_set → ⊥
  side_although_refused ne d = d (Promised.refused_shows_no_degree p n a b cs ws ns rp cp pp r call ne).none_on_the_side

  pub rows_although_refused : r.refusal ≢ 0 → r.rows ≢ replicate most_rows no_column → ⊥
  rows_although_refused ne d = d (Promised.refused_shows_no_degree p n a b cs ws ns rp cp pp r call ne).no_columns

  module _ (ok : r.refusal ≡ 0) where
    -- a model that is not determined is accepted
    pub undetermined_accepted : verdict M ≢ 1 → ⊥
    undetermined_accepted ne = ne (Promised.accepted_is_determined p n a b cs ws ns rp cp pp r call ok).0

    -- a power above 15 is
    pub power_above_accepted : PowerAbove M W → ⊥
    power_above_accepted above = above_not_low M W above (Promised.accepted_is_determined p n a b cs ws ns rp cp pp r call ok).3

    -- the degree is larger than every total
    pub degree_too_large : ((A : Assignment) → Legal M A → AllPlaced M A → weight M W A < r.degree) → ⊥
    degree_too_large below =
        let w = Promised.shown_assignment_reaches_the_degree p n a b cs ws ns rp cp pp r call ok in
        omega (arith, below (assignment M r) w.0 w.1, w.2)

    -- it is smaller than some total
    pub degree_too_small : (A : Assignment) → Legal M A → AllPlaced M A → r.degree < weight M W A → ⊥
    degree_too_small A l f above = omega (arith, above, Promised.none_exceeds_the_shown_degree p n a b cs ws ns rp cp pp r call ok A l f)

    -- it is one too large, or one too small
    pub degree_one_too_large : r.degree ≡ suc (degree M W) → ⊥
    degree_one_too_large e = omega (arith, e, (call.if_accepted (sym call.is_refusal ∙ ok)).is_degree)

    pub degree_one_too_small : suc r.degree ≡ degree M W → ⊥
    degree_one_too_small e = omega (arith, e, (call.if_accepted (sym call.is_refusal ∙ ok)).is_degree)

    -- the assignment shown does not reach it,
    pub shown_total_differs : weight M W (assignment M r) ≢ r.degree → ⊥
    shown_total_differs ne = ne (Promised.shown_assignment_reaches_the_degree p n a b cs ws ns rp cp pp r call ok).2

    -- or leaves a column out
    pub shown_leaves_out : (x : ℕ) → x < n → assignment M r x ≡ out → ⊥
    shown_leaves_out x l e = true≢false (sym ((Promised.shown_assignment_reaches_the_degree p n a b cs ws ns rp cp pp r call ok).1 x l) ∙ ap is_placed e)

    -- a parameter row shows no column
    pub row_without_a_column : (i : ℕ) → i < b → get_or r.rows i 0 ≡ no_column → ⊥
    row_without_a_column i l e =
        let few = (model_accepted p n a b cs ws ns ((due_0_iff p n a b cs ws ns rp cp pp).0 (sym call.is_refusal ∙ ok)).0).n_most in
        omega (arith, e, few, ((Promised.shown_assignment_uses_every_row p n a b cs ws ns rp cp pp r call ok).1 i l).0)

-- ---- small models

-- all that has to be opened to run the definitions, and to judge a model with its powers
unfoldable pub run : ℕ
unfolding computing judging total power_at weight degree powers_low
run = 0

-- a constant row 1 1 of power 6, columns of powers 3 and 1, and a parameter row with parameters of powers 5 and 4: the totals are 6 + 3 + 4 and 6 + 1 + 5
abbrev Each : Degree → Type 0
Each r = DegreeCall 2 2 1 1 (1 ∷ 1 ∷ []) (3 ∷ []) none (6 ∷ []) (3 ∷ 1 ∷ []) (5 ∷ 4 ∷ []) r

abbrev each : Model
each = listed_model 2 2 1 1 (1 ∷ 1 ∷ []) (3 ∷ [])

abbrev each_powers : Powers
each_powers = listed_powers 2 (6 ∷ []) (3 ∷ 1 ∷ []) (5 ∷ 4 ∷ [])

each_judged : first_refusal (dynamic_tests 2 2 1 1 (1 ∷ 1 ∷ []) (3 ∷ []) none (6 ∷ []) (3 ∷ 1 ∷ []) (5 ∷ 4 ∷ [])) ≡ 0
unfolding run
each_judged = refl

each_degree : degree each each_powers ≡ 13
unfolding run
each_degree = refl

each_shown : (r : Degree) → Each r → r.degree ≡ 13
each_shown r s = (s.if_accepted each_judged).is_degree ∙ each_degree

-- the powers of the constant rows are left out: the larger of 3 + 4 and 1 + 5
pub row_powers_left_out : (r : Degree) → Each r → r.degree ≡ 7 → ⊥
row_powers_left_out r s e = omega (arith, e, each_shown r s)

-- those of the columns: the larger of 6 + 4 and 6 + 5
pub column_powers_left_out : (r : Degree) → Each r → r.degree ≡ 11 → ⊥
column_powers_left_out r s e = omega (arith, e, each_shown r s)

-- those of the parameters: the larger of 6 + 3 and 6 + 1
pub parameter_powers_left_out : (r : Degree) → Each r → r.degree ≡ 9 → ⊥
parameter_powers_left_out r s e = omega (arith, e, each_shown r s)

-- a column's power is counted although it sits on a parameter row: the larger of 6 + 3 + 4 + 1 and 6 + 1 + 5 + 3
pub column_power_on_a_row : (r : Degree) → Each r → r.degree ≡ 15 → ⊥
column_power_on_a_row r s e = omega (arith, e, each_shown r s)

-- the smallest total is given
pub smallest_total : (r : Degree) → Each r → r.degree ≡ 12 → ⊥
smallest_total r s e = omega (arith, e, each_shown r s)

-- the assignment with that total is shown: column 1 on the constant side, column 0 on the parameter row
pub smallest_shown : (r : Degree) → Each r → 1 ∈ members (whole r.constants) → get_or r.rows 0 0 ≡ 0 → ⊥
unfolding total power_at weight
smallest_shown r s side e =
    let h = s.if_accepted each_judged in
    let ok = s.is_refusal ∙ each_judged in
    let sits : assignment each r 0 ≡ row 0 = subst (λ (x : ℕ). assignment each r x ≡ row 0) e ((Promised.shown_assignment_uses_every_row 2 2 1 1 (1 ∷ 1 ∷ []) (3 ∷ []) none (6 ∷ []) (3 ∷ 1 ∷ []) (5 ∷ 4 ∷ []) r s ok).1 0 (lit< tt)).1 in
    let beside : assignment each r 1 ≡ constant = constant_seat _ (sym (h.side_shown 1) ∙ side) in
    let low : power_at each_powers 0 (assignment each r 0) ≡ 5 = ap (power_at each_powers 0) sits in
    let high : power_at each_powers 1 (assignment each r 1) ≡ 1 = ap (power_at each_powers 1) beside in
    omega (arith, low, high, h.reaches, each_degree)

-- a constant row 0 0 1 and two parameter rows with parameters everywhere, without powers but for one of 5, in row 1 at column 1
abbrev Wide : Degree → Type 0
Wide r = DegreeCall 2 3 1 2 (0 ∷ 0 ∷ 1 ∷ []) (7 ∷ 7 ∷ []) none (0 ∷ []) (0 ∷ 0 ∷ 0 ∷ []) (0 ∷ 0 ∷ 0 ∷ 0 ∷ 5 ∷ 0 ∷ []) r

wide_shown : (r : Degree) → Wide r → r.degree ≡ 5
unfolding run
wide_shown r s = (s.if_accepted refl).is_degree

-- the powers of parameters are read column by column: the 5 would be in row 0 at column 2, which sits on the constant side
pub powers_read_by_columns : (r : Degree) → Wide r → r.degree ≡ 0 → ⊥
powers_read_by_columns r s e = omega (arith, e, wide_shown r s)

-- one column and two parameter rows: verdict 2
pub surplus_accepted : (r : Degree) → DegreeCall 2 1 0 2 [] (1 ∷ 1 ∷ []) none [] (0 ∷ []) (0 ∷ 0 ∷ []) r → r.refusal ≡ 0 → ⊥
unfolding run
surplus_accepted r s e = omega (arith, e, s.is_refusal)

-- two columns and one constant row: verdict 0
pub open_accepted : (r : Degree) → DegreeCall 2 2 1 0 (1 ∷ 1 ∷ []) [] none (0 ∷ []) (0 ∷ 0 ∷ []) [] r → r.refusal ≡ 0 → ⊥
unfolding run
open_accepted r s e = omega (arith, e, s.is_refusal)

-- a constant row 0 1 and a parameter row with a parameter at column 0 alone; powers of the row, the columns and the places of the parameter row
abbrev Apart : (h x y k j : ℕ) → Degree → Type 0
Apart h x y k j r = DegreeCall 2 2 1 1 (0 ∷ 1 ∷ []) (1 ∷ []) none (h ∷ []) (x ∷ y ∷ []) (k ∷ j ∷ []) r

-- a power of 16 is accepted: of the constant row,
pub row_of_16_accepted : (r : Degree) → Apart 16 0 0 0 0 r → r.refusal ≡ 0 → ⊥
unfolding run
row_of_16_accepted r s e = omega (arith, e, s.is_refusal)

-- of a column, although it can sit on the parameter row alone,
pub column_of_16_accepted : (r : Degree) → Apart 0 16 0 0 0 r → r.refusal ≡ 0 → ⊥
unfolding run
column_of_16_accepted r s e = omega (arith, e, s.is_refusal)

-- of a parameter
pub parameter_of_16_accepted : (r : Degree) → Apart 0 0 0 16 0 r → r.refusal ≡ 0 → ⊥
unfolding run
parameter_of_16_accepted r s e = omega (arith, e, s.is_refusal)

-- 16 is given for powers of 15,
pub powers_of_15_refused : (r : Degree) → Apart 15 15 15 15 15 r → r.refusal ≡ 16 → ⊥
unfolding run
powers_of_15_refused r s e = omega (arith, e, s.is_refusal)

-- for the power of an entry without a parameter,
pub other_entry_refused : (r : Degree) → Apart 0 0 0 0 16 r → r.refusal ≡ 16 → ⊥
unfolding run
other_entry_refused r s e = omega (arith, e, s.is_refusal)

-- or for one behind those of the model
pub power_behind_refused : (r : Degree) → DegreeCall 2 2 1 1 (0 ∷ 1 ∷ []) (1 ∷ []) none (0 ∷ 16 ∷ []) (0 ∷ 0 ∷ 16 ∷ []) (0 ∷ 0 ∷ 16 ∷ []) r → r.refusal ≡ 16 → ⊥
unfolding run
power_behind_refused r s e = omega (arith, e, s.is_refusal)

-- an entry without a parameter is counted: its power of 9 would be in column 1, which sits on the constant side
pub other_entry_counted : (r : Degree) → Apart 0 0 0 0 9 r → r.degree ≢ 0 → ⊥
unfolding run
other_entry_counted r s ne = ne (s.if_accepted refl).is_degree

-- the constant 2 and too short an area of powers, of rows, columns or parameters: 5 is given before 8
abbrev Short : (rp cp pp : List ℕ) → Degree → Type 0
Short rp cp pp r = DegreeCall 2 2 1 1 (0 ∷ 2 ∷ []) (1 ∷ []) none rp cp pp r

pub constants_before_row_powers : (r : Degree) → Short [] (0 ∷ 0 ∷ []) (0 ∷ 0 ∷ []) r → r.refusal ≡ 5 → ⊥
unfolding run
constants_before_row_powers r s e = omega (arith, e, s.is_refusal)

pub constants_before_column_powers : (r : Degree) → Short (0 ∷ []) (0 ∷ []) (0 ∷ 0 ∷ []) r → r.refusal ≡ 5 → ⊥
unfolding run
constants_before_column_powers r s e = omega (arith, e, s.is_refusal)

pub constants_before_parameter_powers : (r : Degree) → Short (0 ∷ []) (0 ∷ 0 ∷ []) (0 ∷ []) r → r.refusal ≡ 5 → ⊥
unfolding run
constants_before_parameter_powers r s e = omega (arith, e, s.is_refusal)
