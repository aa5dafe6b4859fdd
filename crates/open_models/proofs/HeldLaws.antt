-- What is held after one edit, after two, and after a list of edits. Assumes nothing.
use Prim.Native.Nat.{ℕ, zero, suc, ◌<◌}
use Rattle.std.specs.Prelude.{◌≡◌, refl, ◌≢◌, Bool, true, false, not, cond, List, [], ◌∷◌, length, get_or, eqb}
use Rattle.std.proofs.Common.{sym, ap, ◌∙◌, subst, arith, eq-eqb, ne_eqb}
use Rattle.std.proofs.Math.Path.{fun_ext}
use Rattle.std.proofs.Math.Logic.{by_cases}
use Rattle.std.proofs.Math.Decide.{ℕ_discrete}
use Rattle.counting.specs.Bools.{in_not, not_in}
use Rattle.counting.specs.Sets.{Set, ◌∈◌, set}
use Rattle.counting.specs.Counts.{set_same, set_other}
use Rattle.columns.specs.Columns.{width, members}
use Rattle.format.specs.Refusals.{unless, first_refusal, where_accepted, row_test, row_beyond, already_so}
use Rattle.format.specs.RefusalLaws.{accepted_value, where_refused, unless_zero, zero_unless}
use Rattle.format.specs.TestLaws.{row_reads}
use Rattle.open_models.specs.Open.{Open, holding, Edit, take_off, put_back, set_place, clear_place, column_of, held_tests, row_tests, presence_tests, edit_refusal, answer_refusal, with_place, rows_done, present_done, done, after, after_edits, accepted_edits, rows_after, present_after, place_done, place_after, column_done, column_after, AreWords}
use Rattle.open_models.specs.RowLaws.{place_at, place_words, place_old, place_twice}
use Rattle.open_models.proofs.JudgeLaws.{EditAccepted, edit_accepted, edit_accepts, held_accepted, done_held, done_inside, done_present, done_asked}

-- ---- one edit

pub after_accepted : (O : Open) (e : Edit) → edit_refusal O e ≡ 0 → after O e ≡ done O e
unfolding after
after_accepted O e z = accepted_value (edit_refusal O e) refl z (done O e) O

pub after_refused : (O : Open) (e : Edit) → edit_refusal O e ≢ 0 → after O e ≡ O
unfolding after
after_refused O e h = where_refused (edit_refusal O e) refl h (done O e) O

-- what every accepted edit keeps is kept by a list
list_keeps : (Is : Open → Type 0) → ((O : Open) (e : Edit) → edit_refusal O e ≡ 0 → Is O → Is (done O e))
    → (l : List Edit) (O : Open) → Is O → Is (after_edits O l)
unfolding after_edits
list_keeps Is h [] O i = i
list_keeps Is h (e ∷ l) O i = list_keeps Is h l (after O e) (by_cases (ℕ_discrete (edit_refusal O e) 0)
    (λ z. subst Is (sym (after_accepted O e z)) (h O e z i))
    (λ nz. subst Is (sym (after_refused O e nz)) i))

pub asked_after : (l : List Edit) (O : Open) → answer_refusal O ≡ 0 → answer_refusal (after_edits O l) ≡ 0
asked_after = list_keeps (λ O. answer_refusal O ≡ 0) (λ O e z i. done_asked O e z)

done_words : (O : Open) (e : Edit) → edit_refusal O e ≡ 0 → AreWords O.ws → AreWords (done O e).ws
unfolding done rows_done
done_words O (take_off c) z h = h
done_words O (put_back c) z h = h
done_words O (set_place r c) z h = place_words O.ws r c true h
done_words O (clear_place r c) z h = place_words O.ws r c false h

pub words_after : (l : List Edit) (O : Open) → AreWords O.ws → AreWords (after_edits O l).ws
words_after = list_keeps (λ O. AreWords O.ws) done_words

-- ---- what is held after a list

module _ (e : Edit) (l : List Edit) where
  held_step : ((P : Open) → after_edits P l ≡ holding P (rows_after P.ws (accepted_edits P l)) (present_after P.present (accepted_edits P l)))
      → (k : ℕ) (O : Open)
      → let P : Open = where_accepted k (done O e) O in
      let L : List Edit = where_accepted k (e ∷ accepted_edits P l) (accepted_edits P l) in
      after_edits P l ≡ holding O (rows_after O.ws L) (present_after O.present L)
  unfolding done rows_after present_after
  held_step next zero O = next (done O e)
  held_step next (suc k) O = next O

pub held_after : (l : List Edit) (O : Open)
    → after_edits O l ≡ holding O (rows_after O.ws (accepted_edits O l)) (present_after O.present (accepted_edits O l))
unfolding after_edits accepted_edits after rows_after present_after
held_after [] O = refl
held_after (e ∷ l) O = held_step e l (held_after l) (edit_refusal O e) O

-- columns present stay below n
pub inside_after : (l : List Edit) (O : Open) → ((x : ℕ) → x ∈ O.present → x < O.n) → (x : ℕ) → x ∈ (after_edits O l).present → x < O.n
inside_after l O i x m =
    let inside : x < (after_edits O l).n = list_keeps (λ (P : Open). (y : ℕ) → y ∈ P.present → y < P.n) (λ P e z. done_present P e (edit_accepted P e z).column) l O i x m in
    omega (arith, ap (λ (P : Open). P.n) (held_after l O))

-- ---- one place and one column after a list

-- the row that an accepted edit names is lent
row_lent : (O : Open) (r : ℕ) → first_refusal (held_tests O) ≡ 0 → first_refusal (unless (row_test r O.b) row_beyond) ≡ 0 → r < length O.ws
row_lent O r h l = omega (arith, (row_reads r O.b).0 (unless_zero _ row_beyond l), (held_accepted O h).parameters_lent)

place_step : (O : Open) (e : Edit) → EditAccepted O e → (q x : ℕ) → x < width
    → members (get_or (rows_done O.ws e) q 0) x ≡ place_done q x (members (get_or O.ws q 0) x) e
unfolding rows_done place_done row_tests
place_step O (take_off c) h q x lx = refl
place_step O (put_back c) h q x lx = refl
place_step O (set_place r c) h q x lx = place_at O.ws r c true (row_lent O r h.held h.row) q x lx
place_step O (clear_place r c) h q x lx = place_at O.ws r c false (row_lent O r h.held h.row) q x lx

place_list : (q x : ℕ) → x < width → (e : Edit) (l : List Edit)
    → ((P : Open) → members (get_or (after_edits P l).ws q 0) x ≡ place_after q x (members (get_or P.ws q 0) x) (accepted_edits P l))
    → (k : ℕ) (O : Open) → edit_refusal O e ≡ k
    → let P : Open = where_accepted k (done O e) O in
    let L : List Edit = where_accepted k (e ∷ accepted_edits P l) (accepted_edits P l) in
    members (get_or (after_edits P l).ws q 0) x ≡ place_after q x (members (get_or O.ws q 0) x) L
unfolding done place_after
place_list q x lx e l next zero O z =
    next (done O e) ∙ ap (λ (v : Bool). place_after q x v (accepted_edits (done O e) l)) (place_step O e (edit_accepted O e z) q x lx)
place_list q x lx e l next (suc k) O z = next O

pub places_after : (q x : ℕ) → x < width → (l : List Edit) (O : Open)
    → members (get_or (after_edits O l).ws q 0) x ≡ place_after q x (members (get_or O.ws q 0) x) (accepted_edits O l)
unfolding after_edits accepted_edits after place_after
places_after q x lx [] O = refl
places_after q x lx (e ∷ l) O = place_list q x lx e l (places_after q x lx l) (edit_refusal O e) O refl

set_at : (S : Set) (c : ℕ) (v : Bool) (x : ℕ) → set S c v x ≡ cond (eqb x c) v (S x)
set_at S c v x = by_cases (ℕ_discrete x c)
    (λ d. rw (eq-eqb x c d) (ap (set S c v) d ∙ set_same S c v))
    (λ nd. rw (ne_eqb x c nd) (set_other S c v x nd))

column_step : (S : Set) (e : Edit) (x : ℕ) → present_done S e x ≡ column_done x (S x) e
unfolding present_done column_done
column_step S (take_off c) x = set_at S c false x
column_step S (put_back c) x = set_at S c true x
column_step S (set_place r c) x = refl
column_step S (clear_place r c) x = refl

pub columns_after : (x : ℕ) (l : List Edit) (S : Set) → present_after S l x ≡ column_after x (S x) l
unfolding present_after column_after
columns_after x [] S = refl
columns_after x (e ∷ l) S = columns_after x l (present_done S e) ∙ ap (λ (v : Bool). column_after x v l) (column_step S e x)

-- ---- two edits, the second of which undoes the first

after_two : (O : Open) (e f : Edit) → edit_refusal O e ≡ 0 → edit_refusal (done O e) f ≡ 0 → after_edits O (e ∷ f ∷ []) ≡ done (done O e) f
unfolding after_edits
after_two O e f z y = ap (λ (P : Open). after P f) (after_accepted O e z) ∙ after_accepted (done O e) f y

-- after an accepted edit another is accepted by its own row, column and presence
next_accepted : (O : Open) (e f : Edit) → edit_refusal O e ≡ 0 → first_refusal (row_tests (done O e) f) ≡ 0 → column_of f < O.n
    → first_refusal (presence_tests (done O e) f) ≡ 0 → edit_refusal (done O e) f ≡ 0
unfolding done
next_accepted O e f z r c s =
    let h = edit_accepted O e z in
    edit_accepts (done O e) f (record { held = done_held O e h; row = r; column = c; inside = done_inside O e h; presence = s })

set_back : (S : Set) (c : ℕ) (v : Bool) → set (set S c v) c (S c) ≡ S
set_back S c v = fun_ext (λ x. by_cases (ℕ_discrete x c)
    (λ d. ap (set (set S c v) c (S c)) d ∙ set_same (set S c v) c (S c) ∙ ap S (sym d))
    (λ nd. set_other (set S c v) c (S c) x nd ∙ set_other S c v x nd))

pub off_and_back : (O : Open) (c : ℕ) → edit_refusal O (take_off c) ≡ 0 → after_edits O (take_off c ∷ put_back c ∷ []) ≡ O
unfolding done rows_done present_done row_tests presence_tests column_of first_refusal
off_and_back O c z =
    let h = edit_accepted O (take_off c) z in
    let here : O.present c ≡ true = unless_zero (O.present c) already_so h.presence in
    after_two O (take_off c) (put_back c) z
    (next_accepted O (take_off c) (put_back c) z refl h.column (zero_unless _ already_so (in_not _ (set_same O.present c false))))
    ∙ ap (λ (v : Bool). holding O O.ws (set (set O.present c false) c v)) (sym here)
    ∙ ap (λ (S : Set). holding O O.ws S) (set_back O.present c false)

pub back_and_off : (O : Open) (c : ℕ) → edit_refusal O (put_back c) ≡ 0 → after_edits O (put_back c ∷ take_off c ∷ []) ≡ O
unfolding done rows_done present_done row_tests presence_tests column_of first_refusal
back_and_off O c z =
    let h = edit_accepted O (put_back c) z in
    let here : O.present c ≡ false = not_in (O.present c) (unless_zero (not (O.present c)) already_so h.presence) in
    after_two O (put_back c) (take_off c) z
    (next_accepted O (put_back c) (take_off c) z refl h.column (zero_unless _ already_so (set_same O.present c true)))
    ∙ ap (λ (v : Bool). holding O O.ws (set (set O.present c true) c v)) (sym here)
    ∙ ap (λ (S : Set). holding O O.ws S) (set_back O.present c true)

-- a place changed twice, from what it was and back
module _ (O : Open) (r c : ℕ) (words : AreWords O.ws) (u v : Bool) (was : members (get_or O.ws r 0) c ≡ v) where
  same_place : with_place O.ws r c v ≡ O.ws
  same_place = ap (with_place O.ws r c) (sym was) ∙ place_old O.ws r c words

  place_back : r < length O.ws → with_place (with_place O.ws r c u) r c v ≡ O.ws
  place_back l = place_twice O.ws r c u v l ∙ same_place

pub set_and_clear : (O : Open) (r c : ℕ) → AreWords O.ws → edit_refusal O (set_place r c) ≡ 0 → members (get_or O.ws r 0) c ≡ false
    → after_edits O (set_place r c ∷ clear_place r c ∷ []) ≡ O
unfolding done rows_done present_done row_tests presence_tests column_of first_refusal
set_and_clear O r c words z was =
    let h = edit_accepted O (set_place r c) z in
    after_two O (set_place r c) (clear_place r c) z (next_accepted O (set_place r c) (clear_place r c) z h.row h.column refl)
    ∙ ap (λ (ws : List ℕ). holding O ws O.present) (place_back O r c words true false was (row_lent O r h.held h.row))

pub clear_and_set : (O : Open) (r c : ℕ) → AreWords O.ws → edit_refusal O (clear_place r c) ≡ 0 → members (get_or O.ws r 0) c ≡ true
    → after_edits O (clear_place r c ∷ set_place r c ∷ []) ≡ O
unfolding done rows_done present_done row_tests presence_tests column_of first_refusal
clear_and_set O r c words z was =
    let h = edit_accepted O (clear_place r c) z in
    after_two O (clear_place r c) (set_place r c) z (next_accepted O (clear_place r c) (set_place r c) z h.row h.column refl)
    ∙ ap (λ (ws : List ℕ). holding O ws O.present) (place_back O r c words false true was (row_lent O r h.held h.row))

-- an edit that says what is so changes nothing
after_same : (O : Open) (e : Edit) → done O e ≡ O → after O e ≡ O
after_same O e d = by_cases (ℕ_discrete (edit_refusal O e) 0) (λ z. after_accepted O e z ∙ d) (after_refused O e)

pub set_again : (O : Open) (r c : ℕ) → AreWords O.ws → members (get_or O.ws r 0) c ≡ true → after O (set_place r c) ≡ O
unfolding done rows_done present_done
set_again O r c words was = after_same O (set_place r c) (ap (λ (ws : List ℕ). holding O ws O.present) (same_place O r c words true true was))

pub clear_again : (O : Open) (r c : ℕ) → AreWords O.ws → members (get_or O.ws r 0) c ≡ false → after O (clear_place r c) ≡ O
unfolding done rows_done present_done
clear_again O r c words was = after_same O (clear_place r c) (ap (λ (ws : List ℕ). holding O ws O.present) (same_place O r c words false false was))

-- a place set while its column is out is set when the column is back
pub set_while_out : (O : Open) (r c : ℕ) → edit_refusal O (take_off c) ≡ 0 → edit_refusal O (set_place r c) ≡ 0
    → after_edits O (take_off c ∷ set_place r c ∷ put_back c ∷ []) ≡ after O (set_place r c)
unfolding after_edits done rows_done present_done row_tests presence_tests column_of first_refusal
set_while_out O r c z y =
    let h = edit_accepted O (take_off c) z in
    let g = edit_accepted O (set_place r c) y in
    let here : O.present c ≡ true = unless_zero (O.present c) already_so h.presence in
    let P : Open = done O (take_off c) in
    let second : edit_refusal P (set_place r c) ≡ 0 = next_accepted O (take_off c) (set_place r c) z g.row g.column refl in
    let third : edit_refusal (done P (set_place r c)) (put_back c) ≡ 0 =
    next_accepted P (set_place r c) (put_back c) second refl g.column (zero_unless _ already_so (in_not _ (set_same O.present c false))) in
    ap (λ (R : Open). after (after R (set_place r c)) (put_back c)) (after_accepted O (take_off c) z)
    ∙ ap (λ (R : Open). after R (put_back c)) (after_accepted P (set_place r c) second)
    ∙ after_accepted (done P (set_place r c)) (put_back c) third
    ∙ ap (λ (v : Bool). holding O (with_place O.ws r c true) (set (set O.present c false) c v)) (sym here)
    ∙ ap (λ (S : Set). holding O (with_place O.ws r c true) S) (set_back O.present c false)
    ∙ sym (after_accepted O (set_place r c) y)
