-- A file read into areas of a call's own: its model is accepted and is the model of the file, so that the answer to what was read is the answer to the file.
-- Assumes nothing.
use Prim.Native.Nat.{ℕ, zero, suc, ◌+◌, ◌-◌, ◌*◌, ◌≤◌, ◌<◌}
use mathlib.Core.Path.{◌≡◌, refl, sym, ap, ap₂, ◌∙◌, subst, fun_ext}
use mathlib.Core.Logic.{◌≢◌}
use mathlib.Core.Bool.{Bool, true}
use mathlib.Core.Option.{none}
use mathlib.Core.List.{List, ◌++◌, flatten}
use native.Mathlib.Omega.{arith}
use native.Mathlib.Nat.{mul-le-mul, le_of_eq}
use native.Mathlib.Decide.{dec_lt}
use lib.ListN.{length, get_or, drop, replicate, length-replicate, get_or-append, get_or-eq_default}
use lib.Seq.{get_or-append-add, get_or-drop}
use Rattle.residue.specs.Residues.{res}
use Rattle.columns.specs.Columns.{members, within}
use Rattle.columns.specs.ColumnSets.{most_words, row_numbers}
use Rattle.columns.specs.Words.Rows.{rows_zeros}
use Rattle.columns.specs.Words.Bytes.{AreBytes}
use Rattle.rank.specs.Modulus.{modulus}
use Rattle.listed_models.specs.ModelModulo.{model_modulo}
use Rattle.listed_models.specs.ListedModel.{listed_model}
use Rattle.rank.specs.Layered.Model.{Model}
use Rattle.format.specs.Lists.{All, over}
use Rattle.format.proofs.Rows.{over_front, flat_length, flat_all, all_second}
use Rattle.format.specs.OverLaws.{over_length}
use Rattle.limits.specs.Limits.{most_rows, most_constants}
use Rattle.format.specs.Refusals.{where_accepted, numbers_room, number_test, refusal}
use Rattle.format.specs.RefusalLaws.{then_refused, zero_then, zero_unless}
use Rattle.format.specs.TestLaws.{area_reads, accepted_model}
use Rattle.format.specs.File.Piece.{closed}
use Rattle.format.specs.File.Format.{FileModel, ValidModel, fields, judge, decode, area_tests, no_model, read_model, rows_refusal, RowsCall}
use Rattle.format.specs.File.FormatLaws.{decoded_valid}
use Rattle.std.specs.Prelude.{Err}
use Rattle.format.specs.Refused.{refusal_number}
use Rattle.format.specs.declared.refusals.Refusal.{Refusal}
use Rattle.format.proofs.Refused.{refusal_some}
use Rattle.layered.specs.Shown.{Answer, answer_shown}
use Rattle.layered.specs.FileModel.{file_model}
use Rattle.layered.specs.Answers.{Refused, Answered, RankCall, LayeredCall, LayeredFileCall}

-- ---- areas of zeros

-- zeros behind a list add nothing
zeros_default : (m k : ℕ) → ◌≡◌ {A = ℕ} (get_or (replicate m 0) k 0) 0
zeros_default zero k = refl
zeros_default (suc m) zero = refl
zeros_default (suc m) (suc k) = zeros_default m k

over_zeros : (xs : List ℕ) (m k : ℕ) → get_or (over xs (replicate m 0)) k 0 ≡ get_or xs k 0
unfolding over
over_zeros xs m k = elim (dec_lt k (length xs)) [
  | yes l ↦ get_or-append xs (drop (length xs) (replicate m 0)) 0 k l
  | no nl ↦
      let at : length xs + (k - length xs) ≡ k = omega arith in
      ap (λ (j : ℕ). get_or (xs ++ drop (length xs) (replicate m 0)) j 0) (sym at) ∙ get_or-append-add xs (drop (length xs) (replicate m 0)) (k - length xs) 0
      ∙ get_or-drop (length xs) (replicate m 0) (k - length xs) 0 ∙ zeros_default m (length xs + (k - length xs)) ∙ sym (get_or-eq_default xs 0 (omega arith))
]

-- ---- a file that is accepted

module _ (s : List ℕ) (bytes : AreBytes s) (ok : judge s ≡ 0) where
  valid : ValidModel (decode s)
  valid = decoded_valid s bytes ok

  constants_length : length (flatten (decode s).constants) ≡ (decode s).a * (decode s).n
  constants_length = flat_length (λ c. c < (decode s).p) (decode s).n (decode s).constants valid.constants_below ∙ ap (λ (k : ℕ). k * (decode s).n) valid.constant_rows

  few_constants : (decode s).a * (decode s).n ≤ most_constants
  few_constants = mul-le-mul valid.a_most valid.n_most

  -- its model is accepted from areas that it was read into
  file_accepted : (cs ws : List ℕ) → most_constants ≤ length cs → most_rows ≤ length ws
      → refusal (decode s).p (decode s).n (decode s).a (decode s).b (over (flatten (decode s).constants) cs) (over (decode s).parameters ws) none ≡ 0
  unfolding numbers_room number_test
  file_accepted cs ws l m =
      let few = few_constants in
      let some = valid.b_most in
      let flat = flatten (decode s).constants in
      let rows = (decode s).parameters in
      let len = constants_length in
      let count = valid.parameter_rows in
      accepted_model _ _ _ _ _ _ none (record {
        prime = valid.prime;
        p_most = valid.p_most;
        n_least = valid.n_least;
        n_most = valid.n_most;
        a_most = valid.a_most;
        b_most = valid.b_most;
        constants_lent = omega (arith, over_length flat cs (omega arith));
        parameters_lent = omega (arith, over_length rows ws (omega arith));
        numbers_lent = refl;
        constants_below = subst (All (λ c. c < (decode s).p)) (sym (over_front flat cs _ len)) (flat_all _ _ _ valid.constants_below);
        parameters_within = subst (All (λ w. within (decode s).n w ≡ true)) (sym (over_front rows ws _ count)) (all_second _ _ rows valid.parameters_within);
        numbers_once = refl;
      })

-- ---- a file read

module _ (s : List ℕ) (bytes : AreBytes s) (cs ws : List ℕ) (l : most_constants ≤ length cs) (m : most_rows ≤ length ws) where
  -- areas of the largest size hold every model
  read_accepted : judge s ≡ 0 → rows_refusal s cs ws ≡ 0
  unfolding rows_refusal area_tests judge
  read_accepted ok =
      let few = few_constants s bytes ok in
      let some = (valid s bytes ok).b_most in
      zero_then _ _ ok (zero_then _ _ (zero_unless _ _ ((area_reads _ _).1 (omega arith))) (zero_unless _ _ ((area_reads _ _).1 (omega arith))))

  read_judged : rows_refusal s cs ws ≡ judge s
  unfolding rows_refusal area_tests judge
  read_judged = at (judge s) refl
    where
      at : (k : ℕ) → judge s ≡ k → rows_refusal s cs ws ≡ judge s
      at zero e = read_accepted e ∙ sym e
      at (suc k) e = sym (then_refused (closed fields s) _ (judge s) refl (λ z. omega (arith, e, z)))

  -- what was read is the file's model
  read_all : rows_refusal s cs ws ≡ 0 → read_model (rows_refusal s cs ws) s ≡ decode s
  unfolding read_model
  read_all ok = ap (λ (k : ℕ). where_accepted k (decode s) no_model) ok

-- ---- a file read into a call's own areas

-- the areas, before the reading
abbrev pub own_constants : List ℕ
own_constants = replicate most_constants 0

abbrev pub own_parameters : List ℕ
own_parameters = row_numbers (replicate most_words 0)

own_length : most_constants ≤ length own_constants
own_length = le_of_eq (sym (length-replicate {A = ℕ} most_constants 0))

own_count : most_rows ≤ length own_parameters
own_count = rw rows_zeros (le_of_eq (sym (length-replicate {A = ℕ} most_rows 0)))

module _ {s : List ℕ} (bytes : AreBytes s) {k p n a b : ℕ} {t : Bool} {cs' ws' : List ℕ} (r : RowsCall s own_constants own_parameters k p n a b t cs' ws') where
  -- the areas are never too short
  pub own_refusal : k ≡ judge s
  own_refusal = r.refusal_is ∙ read_judged s bytes own_constants own_parameters own_length own_count

  module _ (ok : k ≡ 0) where
    pub judged : judge s ≡ 0
    judged = sym own_refusal ∙ ok

    all : read_model (rows_refusal s own_constants own_parameters) s ≡ decode s
    all = read_all s bytes own_constants own_parameters own_length own_count (sym r.refusal_is ∙ ok)

    -- what was read is accepted
    pub own_accepted : refusal p n a b cs' ws' none ≡ 0
    own_accepted =
        rw (r.p_is, r.n_is, r.a_is, r.b_is, r.constants_are, r.parameters_are, all)
        (file_accepted s bytes judged own_constants own_parameters own_length own_count)

    -- the sizes are the file's
    pub own_sizes : (n ≡ (decode s).n) × (a ≡ (decode s).a) × (b ≡ (decode s).b)
    own_sizes = (r.n_is ∙ ap (λ (m : FileModel). m.n) all, r.a_is ∙ ap (λ (m : FileModel). m.a) all, r.b_is ∙ ap (λ (m : FileModel). m.b) all)

    -- whatever is made of the numbers and of the areas' elements is made of the file's
    pub own_made : {X : Type 1} (make : (p n a b : ℕ) (c w : ℕ → ℕ) → X) → make p n a b (λ i. get_or cs' i 0) (λ i. get_or ws' i 0)
        ≡ make (decode s).p (decode s).n (decode s).a (decode s).b (λ i. get_or (flatten (decode s).constants) i 0) (λ i. get_or (decode s).parameters i 0)
    own_made make =
        rw (r.p_is, r.n_is, r.a_is, r.b_is, r.constants_are, r.parameters_are, all)
        (ap₂ (make (decode s).p (decode s).n (decode s).a (decode s).b) (fun_ext (over_zeros (flatten (decode s).constants) most_constants)) (fun_ext (λ k. ap (λ (z : List ℕ). get_or (over (decode s).parameters z) k 0) rows_zeros ∙ over_zeros (decode s).parameters most_rows k)))

    -- its model is the file's
    pub own_model : listed_model p n a b cs' ws' ≡ file_model s
    own_model = own_made by_elements
      where
        by_elements : (p n a b : ℕ) (c w : ℕ → ℕ) → Model
        by_elements p n a b c w = model_modulo (modulus p).0 (modulus p).1 n a b (λ i x. res (modulus p).0 (modulus p).1 (c (i * n + x))) (λ r x. members (w r) x) (λ x. true)

-- ---- the answer to it

-- a refusal that is due says nothing else
pub answer_refused : {due : ℕ} {A : Type 0} (e : Refusal) → refusal_number e ≡ due → RankCall due (refusal_number e) (Refused (answer_shown (Err e))) A
answer_refused e h = record {
  is_refusal = h;
  if_refused = λ _. record { no_verdict = refl; no_rank = refl; none_placed = refl; none_on_the_side = refl; none_short = refl; no_columns = refl };
  if_accepted = λ z. absurd (refusal_some e (h ∙ z));
}

module _ {due given : ℕ} {R A : Type 0} where
  pub call_refused : given ≡ due → given ≢ 0 → R → RankCall due given R A
  call_refused e h x = record { is_refusal = e; if_refused = λ _. x; if_accepted = λ z. absurd (h (e ∙ z)) }

  pub call_answered : due ≡ 0 → given ≡ 0 → A → RankCall due given R A
  call_answered e h x = record { is_refusal = h ∙ sym e; if_refused = λ z. absurd (z e); if_accepted = λ _. x }

  -- the same call by another name
  pub call_as : {due' : ℕ} {A' : Type 0} → due ≡ due' → (A → A') → RankCall due given R A → RankCall due' given R A'
  call_as e f h = record { is_refusal = h.is_refusal ∙ e; if_refused = λ z. h.if_refused (λ y. z (sym e ∙ y)); if_accepted = λ z. f (h.if_accepted (e ∙ z)) }

pub file_answered : {s : List ℕ} (bytes : AreBytes s) {k p n a b : ℕ} {u : Bool} {cs' ws' : List ℕ} → RowsCall s own_constants own_parameters k p n a b u cs' ws' → k ≡ 0
    → (t : Answer) → LayeredCall p n a b cs' ws' none t → LayeredFileCall s t
file_answered bytes r ok t h = call_as (own_accepted bytes r ok ∙ sym (judged bytes r ok)) (subst (λ (M : Model). Answered M t) (own_model bytes r ok)) h
