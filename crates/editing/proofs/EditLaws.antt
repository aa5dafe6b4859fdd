-- Laws of edits: their tests in the order in which code makes them, what they change as numbers, and the bytes that name one. Assumes nothing.
use Prim.Native.Nat.{ℕ, ◌^◌, ◌≤◌, ◌<◌}
use mathlib.Core.Path.{◌≡◌, refl, sym, ap, ◌∙◌, fun_ext, subst}
use mathlib.Core.Logic.{◌≢◌}
use mathlib.Core.Bool.{Bool, true, false, ◌&&◌}
use mathlib.Core.Option.{none as none'}
use mathlib.Core.List.{List}
use native.Mathlib.Omega.{arith}
use native.Mathlib.Decide.{dec_lt}
use lib.ListN.{get_or}
use lib.Dec.{leb, ltb}
use borrow.Author.Tests.{lt-ltb, le-ltb, ltb-true, leb-true}
use Rattle.counting.specs.Bools.{iff_eq, and_left, and_right, not_true as not_so}
use Rattle.counting.specs.Sets.{Set, ◌∈◌, set}
use Rattle.counting.specs.Counts.{set_other}
use Rattle.columns.specs.Columns.{width, members, upto, inserted, removed, word_of, within_in, within}
use Rattle.columns.specs.ColumnSets.{whole, Fits, row_numbers, with_row}
use Rattle.columns.specs.declared.ColumnSet.{ColumnSet}
use Rattle.columns.specs.Words.Sets.{whole_below, columns_below}
use Rattle.columns.specs.Words.Operations.{word_members, members_beyond, inserted_beyond}
use Rattle.columns.specs.Words.WordOf.{members_word, word_same}
use Rattle.columns.specs.Words.SetLaws.{inserted_set, removed_set, upto_iff}
use Rattle.columns.specs.Words.Rows.{rows_with_row}
use Rattle.format.specs.Refusals.{unless, first_refusal, number_of, column_beyond, column_test, named_column, refusal}
use Rattle.format.specs.RefusalLaws.{first_fails, then_refused, then_passed, zero_unless, where_refused, accepted_value}
use Rattle.open_models.specs.Open.{Open, Edit, take_off, put_back, set_place, clear_place, column_of, held_tests, row_tests, present_test, presence_tests, own_tests, edit_tests, edit_refusal, with_place, rows_done, present_done, done, after}
use Rattle.open_models.proofs.JudgeLaws.{edit_accepted, held_accepted, present_reads, done_present}
use Rattle.open_models.proofs.HeldLaws.{after_accepted, after_refused}
use Rattle.editing.specs.Edits.{meant, of_sizes, own_refusal, row_refusal, presence_refusal, place_done, columns_done, words_done}
use Rattle.editing.specs.Calls.{held, ShowsColumns, EditCall}
use Rattle.editing.specs.declared.edit.Edit.{Edit as CodeEdit}

-- ---- what changes, as numbers

module _ (w w' c : ℕ) (low : w' < 2 ^ width) where
  pub with_column : members w' ≡ inserted (members w) c → w' ≡ place_done w c true
  unfolding place_done
  with_column e = word_members width w' low ∙ ap (word_of width) e ∙ word_same width (inserted (members w) c) (set (members w) c true) at
    where
      at : (x : ℕ) → x < width → inserted (members w) c x ≡ set (members w) c true x
      at x l = elim (dec_lt c width) [
        | yes m ↦ inserted_set (members w) c x m
        | no nm ↦ sym (ap (λ (S : Set). S x) (inserted_beyond width (members w) c (omega arith))) ∙ sym (set_other (members w) c true x (λ e. omega arith))
      ]

  pub without_column : members w' ≡ removed (members w) c → w' ≡ place_done w c false
  unfolding place_done
  without_column e = word_members width w' low ∙ ap (word_of width) (e ∙ fun_ext (λ x. removed_set (members w) c x))

-- a row written with a column put in or taken out
pub row_changed : (words : List ℕ) (r c old new : ℕ) (v : Bool) → old ≡ get_or (row_numbers words) r 0 → new ≡ place_done old c v
    → with_row words r new ≡ with_row words r (place_done (get_or (row_numbers words) r 0) c v)
row_changed words r c old new v e f = ap (with_row words r) (f ∙ ap (λ (w : ℕ). place_done w c v) e)

-- the rows that the words show are those after the edit
pub words_rows : (words : List ℕ) (e : Edit) → row_numbers (words_done words e) ≡ rows_done (row_numbers words) e
unfolding words_done rows_done with_place place_done
words_rows words (take_off c) = refl
words_rows words (put_back c) = refl
words_rows words (set_place r c) = rows_with_row words r _
words_rows words (clear_place r c) = rows_with_row words r _

-- ---- the tests of an edit

-- they look at n, b and the columns present alone
pub own_same : (O : Open) (w : ℕ) → O.present ≡ members w → (e : Edit) → own_refusal O.n O.b w e ≡ first_refusal (own_tests O e)
unfolding own_refusal own_tests row_tests presence_tests present_test
own_same O w p (take_off c) = ap (λ (S : Set). first_refusal (own_tests (of_sizes O.n O.b S) (take_off c))) (sym p)
own_same O w p (put_back c) = ap (λ (S : Set). first_refusal (own_tests (of_sizes O.n O.b S) (put_back c))) (sym p)
own_same O w p (set_place r c) = ap (λ (S : Set). first_refusal (own_tests (of_sizes O.n O.b S) (set_place r c))) (sym p)
own_same O w p (clear_place r c) = ap (λ (S : Set). first_refusal (own_tests (of_sizes O.n O.b S) (clear_place r c))) (sym p)

module _ (n b w : ℕ) (e : Edit) where
  abbrev O : Open
  O = of_sizes n b (members w)

  row_any : (e : Edit) → row_refusal b e ≡ first_refusal (row_tests (of_sizes n b (members w)) e)
  unfolding row_refusal row_tests
  row_any (take_off c) = refl
  row_any (put_back c) = refl
  row_any (set_place r c) = refl
  row_any (clear_place r c) = refl

  presence_any : (e : Edit) → presence_refusal w e ≡ first_refusal (presence_tests (of_sizes n b (members w)) e)
  unfolding presence_refusal presence_tests
  presence_any (take_off c) = refl
  presence_any (put_back c) = refl
  presence_any (set_place r c) = refl
  presence_any (clear_place r c) = refl

  pub own_at_row : (r : ℕ) → r ≡ row_refusal b e → r ≢ 0 → r ≡ own_refusal n b w e
  unfolding own_refusal own_tests
  own_at_row r h z = then_refused (row_tests O e) _ r (h ∙ row_any e) z

  module _ (row : row_refusal b e ≡ 0) where
    row_zero : first_refusal (row_tests O e) ≡ 0
    row_zero = sym (row_any e) ∙ row

    pub own_at_column : n ≤ column_of e → number_of column_beyond ≡ own_refusal n b w e
    unfolding own_refusal own_tests column_test
    own_at_column l = then_passed (row_tests O e) _ _ row_zero (first_fails _ _ _ (le-ltb (column_of e) n l))

    module _ (column : column_of e < n) where
      column_zero : first_refusal (named_column n (column_of e)) ≡ 0
      unfolding column_test
      column_zero = zero_unless _ _ (lt-ltb (column_of e) n column)

      pub own_at_present : within n w ≡ false → number_of column_beyond ≡ own_refusal n b w e
      unfolding own_refusal own_tests present_test within_in
      own_at_present h = then_passed (row_tests O e) _ _ row_zero (then_passed (named_column n (column_of e)) _ _ column_zero (first_fails _ _ _ h))

      pub own_at_presence : within n w ≡ true → (r : ℕ) → r ≡ presence_refusal w e → r ≡ own_refusal n b w e
      unfolding own_refusal own_tests present_test within_in
      own_at_presence h r q =
          then_passed (row_tests O e) _ r row_zero
          (then_passed (named_column n (column_of e)) _ r column_zero
          (then_passed (unless (present_test O) column_beyond) _ r (zero_unless _ _ h) (q ∙ presence_any e)))

-- ---- the calls on models handed over

-- the set of all columns below n shows those of a model that is opened
pub below_shown : (n : ℕ) (s : ColumnSet) → Fits s → n ≤ width → members (whole s) ≡ upto n → ShowsColumns (λ x. ltb x n) s
below_shown n s f l m = record { is_number = word_members width (whole s) (whole_below s f) ∙ ap (word_of width) (m ∙ fun_ext at); columns = λ x. ap (λ (S : Set). S x) m ∙ at x }
  where
    at : (x : ℕ) → upto n x ≡ ltb x n
    at x = iff_eq (upto n x) (ltb x n) (λ e. lt-ltb x n ((upto_iff n x l).0 e)) (λ e. (upto_iff n x l).1 (ltb-true x n e))

module _ (p n a b : ℕ) (cs words : List ℕ) (s : ColumnSet) (fits : Fits s) (e : CodeEdit) where
  -- what is held before the edit
  abbrev P : Open
  P = held p n a b cs (row_numbers words) s

  pub model_refused : (k : ℕ) → k ≡ refusal p n a b cs (row_numbers words) none' → k ≢ 0 → k ≡ edit_refusal P (meant e)
  unfolding edit_refusal edit_tests held_tests refusal
  model_refused k q z = then_refused (held_tests P) (own_tests P (meant e)) k q z

  pub own_refused : refusal p n a b cs (row_numbers words) none' ≡ 0 → (k : ℕ) → k ≡ own_refusal n b (whole s) (meant e) → k ≡ edit_refusal P (meant e)
  unfolding edit_refusal edit_tests held_tests refusal
  own_refused ok k q = then_passed (held_tests P) (own_tests P (meant e)) k ok (q ∙ own_same P (whole s) refl (meant e))

  shown : ShowsColumns (members (whole s)) s
  shown = record { is_number = word_members width (whole s) (whole_below s fits); columns = λ x. refl }

  pub edit_refused : (k : ℕ) → k ≡ edit_refusal P (meant e) → k ≢ 0 → EditCall p n a b cs words s e (record { refusal = k; present = s }) words
  edit_refused k q z =
      let same : after P (meant e) ≡ P = after_refused P (meant e) (λ y. z (q ∙ y)) in
      record {
        is_refusal = q;
        words_are = sym (where_refused k q z (words_done words (meant e)) words);
        rows_are = sym (ap (λ (O : Open). O.ws) same);
        present_are = subst (λ (O : Open). ShowsColumns O.present s) (sym same) shown;
      }

  module _ (ok : edit_refusal P (meant e) ≡ 0) where
    -- no column that a set has no room for is present after it
    present_below : (x : ℕ) → x ∈ present_done (members (whole s)) (meant e) → x < width
    unfolding done
    present_below x m =
        let h = edit_accepted P (meant e) ok in
        let l : x < n = done_present P (meant e) h.column (λ y k. (present_reads P).0 h.inside y (columns_below s y fits k) k) x m in
        omega (arith, (held_accepted P h.held).n_most)

    pub edit_made : (s' : ColumnSet) → Fits s' → whole s' ≡ columns_done (whole s) (meant e) → (words' : List ℕ) → words' ≡ words_done words (meant e)
        → EditCall p n a b cs words s e (record { refusal = 0; present = s' }) words'
    unfolding columns_done done
    edit_made s' f q words' w =
        let made : after P (meant e) ≡ done P (meant e) = after_accepted P (meant e) ok in
        record {
          is_refusal = sym ok;
          words_are = w ∙ sym (accepted_value 0 (sym ok) refl (words_done words (meant e)) words);
          rows_are = ap row_numbers w ∙ words_rows words (meant e) ∙ sym (ap (λ (O : Open). O.ws) made);
          present_are = subst (λ (O : Open). ShowsColumns O.present s') (sym made) (record { is_number = q; columns = at });
        }
      where
        T : Set
        T = present_done (members (whole s)) (meant e)

        at : (x : ℕ) → members (whole s') x ≡ present_done (members (whole s)) (meant e) x
        at x = elim (dec_lt x width) [
          | yes l ↦ ap (λ (v : ℕ). members v x) q ∙ members_word width T x l
          | no nl ↦ members_beyond width (whole s') x (whole_below s' f) (omega arith) ∙ sym (not_so (T x) (λ m. nl (present_below x m)))
        ]

-- ---- edits named by numbers and bytes

pub no_kind : (k : ℕ) → k ≢ 1 → k ≢ 2 → k ≢ 3 → k ≢ 4 → (leb 1 k && leb k 4) ≡ false
no_kind k h1 h2 h3 h4 = not_so (leb 1 k && leb k 4) (λ e.
    let low : 1 ≤ k = leb-true 1 k (and_left (leb 1 k) (leb k 4) e) in
    let high : k ≤ 4 = leb-true k 4 (and_right (leb 1 k) (leb k 4) e) in
    omega arith)
