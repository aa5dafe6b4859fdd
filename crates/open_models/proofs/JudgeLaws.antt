-- What an accepted edit says of the open model, and that what it leaves is accepted. Assumes nothing.
use Rattle.std.specs.Prelude.{ℕ, ◌≤◌, ◌<◌, ◌≡◌, refl, ◌↔◌, Bool, true, false, not, ◌||◌, List, length, get_or, take, ltb}
use Rattle.std.proofs.Common.{sym, ap, ◌∙◌, arith, get_or-take, length-take-le, lt-ltb, ltb-true}
use Rattle.std.proofs.Math.Option.{Option, none}
use Rattle.std.proofs.Math.Decide.{ℕ_discrete}
use Rattle.counting.specs.Bools.{implied, implies}
use Rattle.counting.specs.Sets.{Set, ◌∈◌, set}
use Rattle.counting.specs.Counts.{all_iff, set_other}
use Rattle.columns.specs.Columns.{width, within}
use Rattle.format.specs.Lists.{All}
use Rattle.format.specs.ListLaws.{all_at}
use Rattle.format.specs.Refusals.{unless, first_refusal, column_beyond, row_beyond, row_test, named_column, number_test, model_tests, refusal}
use Rattle.format.specs.RefusalLaws.{acceptance_reads, then_zero, zero_then, unless_zero, zero_unless}
use Rattle.format.specs.TestLaws.{row_reads, column_reads, area_reads, parameter_reads, Accepted, model_accepted, accepted_model, unnumbered_accepted}
use Rattle.open_models.specs.Open.{Open, opened, holding, Edit, take_off, put_back, set_place, clear_place, column_of, held_tests, row_tests, present_test, presence_tests, own_tests, edit_tests, edit_refusal, answer_tests, answer_refusal, with_place, rows_done, present_done, done}
use Rattle.open_models.specs.RowLaws.{place_length, place_within}

-- ---- the parts of a judgement

pub record EditAccepted (O : Open) (e : Edit) : Type 0 where
  pub held : first_refusal (held_tests O) ≡ 0
  pub row : first_refusal (row_tests O e) ≡ 0
  pub column : column_of e < O.n
  pub inside : present_test O ≡ true
  pub presence : first_refusal (presence_tests O e) ≡ 0

pub edit_accepted : (O : Open) (e : Edit) → edit_refusal O e ≡ 0 → EditAccepted O e
unfolding edit_refusal edit_tests own_tests
edit_accepted O e z =
    let h = then_zero (held_tests O) _ z in
    let r = then_zero (row_tests O e) _ h.1 in
    let c = then_zero (named_column O.n (column_of e)) _ r.1 in
    let i = then_zero (unless (present_test O) column_beyond) _ c.1 in
    record {
      held = h.0;
      row = r.0;
      column = (column_reads _ _).0 (unless_zero _ column_beyond c.0);
      inside = unless_zero _ column_beyond i.0;
      presence = i.1;
    }

pub edit_accepts : (O : Open) (e : Edit) → EditAccepted O e → edit_refusal O e ≡ 0
unfolding edit_refusal edit_tests own_tests
edit_accepts O e h =
    zero_then (held_tests O) _ h.held
    (zero_then (row_tests O e) _ h.row
    (zero_then (named_column O.n (column_of e)) _ (zero_unless _ column_beyond ((column_reads _ _).1 h.column))
    (zero_then (unless (present_test O) column_beyond) _ (zero_unless _ column_beyond h.inside) h.presence)))

pub answer_accepts : (O : Open) → (answer_refusal O ≡ 0) ↔ ((first_refusal (held_tests O) ≡ 0) × (present_test O ≡ true))
unfolding answer_refusal answer_tests
answer_accepts O = (
  λ z. let h = then_zero (held_tests O) _ z in (h.0, unless_zero _ column_beyond h.1),
  λ h. zero_then (held_tests O) _ h.0 (zero_unless _ column_beyond h.1),
)

-- a place of a row and a column that there are can be set and cleared, whatever it is and whether or not its column is present
pub place_accepted : (O : Open) (r c : ℕ) → answer_refusal O ≡ 0 → r < O.b → c < O.n
    → (edit_refusal O (set_place r c) ≡ 0) × (edit_refusal O (clear_place r c) ≡ 0)
unfolding row_tests presence_tests column_of first_refusal
place_accepted O r c z lr lc =
    let h = (answer_accepts O).0 z in
    let in_range : first_refusal (unless (row_test r O.b) row_beyond) ≡ 0 = zero_unless _ row_beyond ((row_reads r O.b).1 lr) in (
      edit_accepts O (set_place r c) (record { held = h.0; row = in_range; column = lc; inside = h.1; presence = refl }),
      edit_accepts O (clear_place r c) (record { held = h.0; row = in_range; column = lc; inside = h.1; presence = refl }),
    )

pub held_accepted : (O : Open) → first_refusal (held_tests O) ≡ 0 → Accepted O.p O.n O.a O.b O.cs O.ws none
unfolding held_tests refusal
held_accepted O z = model_accepted O.p O.n O.a O.b O.cs O.ws none z

pub present_reads : (O : Open) → (present_test O ≡ true) ↔ ((x : ℕ) → x < width → x ∈ O.present → x < O.n)
unfolding present_test
present_reads O = (
  λ t x l m. ltb-true x O.n (implied (O.present x) (ltb x O.n) ((all_iff width (λ x. not (O.present x) || ltb x O.n)).0 t x l) m),
  λ h. (all_iff width (λ x. not (O.present x) || ltb x O.n)).1 (λ x l. implies (O.present x) (ltb x O.n) (λ m. lt-ltb x O.n (h x l m))),
)

-- ---- what is left is accepted

-- with other rows, as many and within n
rows_held : (O : Open) (ws : List ℕ) (S : Set) → first_refusal (held_tests O) ≡ 0 → length ws ≡ length O.ws
    → All (λ w. within O.n w ≡ true) (take O.b ws)
    → first_refusal (held_tests (holding O ws S)) ≡ 0
unfolding held_tests model_tests number_test
rows_held O ws S z e h =
    let v = (acceptance_reads (held_tests O)).0 z in
    let lent : O.b ≤ length ws = omega (arith, (area_reads _ _).0 v.1.1.1.0) in
    (acceptance_reads (held_tests (holding O ws S))).1
    (v.0, (v.1.0, (v.1.1.0, ((area_reads _ _).1 lent, (v.1.1.1.1.0, (v.1.1.1.1.1.0, ((parameter_reads _ _).1 h, (refl, tt))))))))

place_held : (O : Open) (r c : ℕ) (v : Bool) (S : Set) → first_refusal (held_tests O) ≡ 0 → r < O.b → c < O.n
    → first_refusal (held_tests (holding O (with_place O.ws r c v) S)) ≡ 0
place_held O r c v S z lr lc =
    let A = held_accepted O z in
    let len = length-take-le O.b O.ws A.parameters_lent in
    let here : within O.n (get_or O.ws r 0) ≡ true =
    ap (within O.n) (sym (get_or-take O.b O.ws r 0 lr))
    ∙ all_at (λ w. within O.n w ≡ true) (take O.b O.ws) 0 A.parameters_within r (omega arith) in
    rows_held O (with_place O.ws r c v) S z (place_length O.ws r c v)
    (place_within O.ws r c v O.n O.b lc A.parameters_within here)

pub done_held : (O : Open) (e : Edit) → EditAccepted O e → first_refusal (held_tests (done O e)) ≡ 0
unfolding done rows_done present_done row_tests column_of held_tests
done_held O (take_off c) h = h.held
done_held O (put_back c) h = h.held
done_held O (set_place r c) h = place_held O r c true O.present h.held ((row_reads r O.b).0 (unless_zero _ row_beyond h.row)) h.column
done_held O (clear_place r c) h = place_held O r c false O.present h.held ((row_reads r O.b).0 (unless_zero _ row_beyond h.row)) h.column

-- columns held as present stay below n; so do those that are In something
present_set : (In : ℕ → Type 0) (n c : ℕ) (S : Set) (v : Bool) → c < n → ((x : ℕ) → In x → x ∈ S → x < n) → (x : ℕ) → In x → x ∈ set S c v → x < n
present_set In n c S v l h x i m = elim (ℕ_discrete x c) [ yes d ↦ omega arith | no nd ↦ h x i (sym (set_other S c v x nd) ∙ m) ]

present_step : (In : ℕ → Type 0) (O : Open) (e : Edit) → column_of e < O.n → ((x : ℕ) → In x → x ∈ O.present → x < O.n)
    → (x : ℕ) → In x → x ∈ present_done O.present e → x < O.n
unfolding present_done column_of
present_step In O (take_off c) l h = present_set In O.n c O.present false l h
present_step In O (put_back c) l h = present_set In O.n c O.present true l h
present_step In O (set_place r c) l h = h
present_step In O (clear_place r c) l h = h

pub done_present : (O : Open) (e : Edit) → column_of e < O.n → ((x : ℕ) → x ∈ O.present → x < O.n) → (x : ℕ) → x ∈ (done O e).present → x < (done O e).n
unfolding done
done_present O e l h x m = present_step (λ y. Unit {0}) O e l (λ y i. h y) x tt m

pub done_inside : (O : Open) (e : Edit) → EditAccepted O e → present_test (done O e) ≡ true
unfolding done
done_inside O e h = (present_reads (done O e)).1 (present_step (λ y. y < width) O e h.column ((present_reads O).0 h.inside))

-- so an accepted edit leaves what can be asked
pub done_asked : (O : Open) (e : Edit) → edit_refusal O e ≡ 0 → answer_refusal (done O e) ≡ 0
done_asked O e z = let h = edit_accepted O e z in (answer_accepts (done O e)).1 (done_held O e h, done_inside O e h)

-- and a model that opens can be asked, without its numbers
pub opened_asked : (p n a b : ℕ) (cs ws : List ℕ) (ns : Option (List ℕ)) → refusal p n a b cs ws ns ≡ 0 → answer_refusal (opened p n a b cs ws) ≡ 0
unfolding held_tests refusal
opened_asked p n a b cs ws ns z =
    (answer_accepts (opened p n a b cs ws)).1 (
      accepted_model p n a b cs ws none (unnumbered_accepted (model_accepted p n a b cs ws ns z)),
      (present_reads (opened p n a b cs ws)).1 (λ x l m. ltb-true x n m),
    )
