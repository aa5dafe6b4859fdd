-- Document 02, E5: what is proved of open models and lists of edits. Assumes nothing.
use Rattle.std.specs.Prelude.{ℕ, ◌+◌, ◌<◌, ◌≡◌, refl, ◌≢◌, ◌↔◌, true, false, List, [], ◌∷◌, get_or, ltb}
use Rattle.std.proofs.Common.{sym, ap, ◌∙◌, true≢false, arith, lt-ltb, ltb-true}
use Rattle.std.proofs.Math.Path.{ap₂, fun_ext}
use Rattle.std.proofs.Math.Option.{Option}
use Rattle.counting.specs.Bools.{not_true}
use Rattle.counting.specs.Sets.{◌∈◌, #}
use Rattle.counting.specs.Counts.{#-none}
use Rattle.counting.specs.Injections.{#-mono}
use Rattle.columns.specs.Columns.{width, members}
use Rattle.rank.specs.Modulus.{modulus}
use Rattle.rank.specs.Verdict.{verdict_number}
use Rattle.rank.specs.VerdictLaws.{number_determined, number_surplus}
use Rattle.rank.specs.Layered.Model.{Model, Assignment, placing, Legal}
use Rattle.rank.specs.Layered.Rank.{rank, placed, short, verdict}
use Rattle.rank.proofs.Theorems.{placed_has_the_rank, placed_has_a_legal_assignment, short_is_the_smallest}
use Rattle.listed_models.specs.ListedModel.{listed_at}
use Rattle.format.specs.Refusals.{refusal}
use Rattle.format.specs.RefusalLaws.{Caused, refusal_reads}
use Rattle.open_models.specs.Open.{Open, opened, holding, Edit, take_off, put_back, set_place, clear_place, edit_tests, edit_refusal, answer_tests, answer_refusal, after, after_edits, accepted_edits, rows_after, present_after, place_after, column_after, open_model, AreWords}
use Rattle.open_models.proofs.JudgeLaws.{place_accepted, opened_asked}
use Rattle.open_models.proofs.HeldLaws.{after_refused, asked_after, words_after, inside_after, held_after, places_after, columns_after, off_and_back, back_and_off, set_and_clear, clear_and_set, set_again, clear_again, set_while_out}

-- ---- any open model

module _ (O : Open) where
  -- A number is given exactly where its cause holds and none that is judged before it.
  pub edit_refusal_reads : (e : Edit) (k : ℕ) → k ≢ 0 → (edit_refusal O e ≡ k) ↔ Caused (edit_tests O e) k
  unfolding edit_refusal
  edit_refusal_reads e k h = refusal_reads (edit_tests O e) k h

  pub answer_refusal_reads : (k : ℕ) → k ≢ 0 → (answer_refusal O ≡ k) ↔ Caused (answer_tests O) k
  unfolding answer_refusal
  answer_refusal_reads k h = refusal_reads (answer_tests O) k h

  -- A refused edit changes nothing.
  pub refused_changes_nothing : (e : Edit) → edit_refusal O e ≢ 0 → after O e ≡ O
  refused_changes_nothing = after_refused O

  -- What is held after a list: sizes and constants are untouched, the parameter rows are those after the accepted edits that set and clear, the columns
  -- present those after the accepted edits that take off and put back.
  pub what_is_held : (l : List Edit) → after_edits O l ≡ holding O (rows_after O.ws (accepted_edits O l)) (present_after O.present (accepted_edits O l))
  what_is_held l = held_after l O

  -- Each place and each column is as the last accepted edit that names it says, or as it was.
  pub each_place : (l : List Edit) (r x : ℕ) → x < width
      → members (get_or (after_edits O l).ws r 0) x ≡ place_after r x (members (get_or O.ws r 0) x) (accepted_edits O l)
  each_place l r x lx = places_after r x lx l O

  pub each_column : (l : List Edit) (x : ℕ) → (after_edits O l).present x ≡ column_after x (O.present x) (accepted_edits O l)
  each_column l x = ap (λ (P : Open). P.present x) (held_after l O) ∙ columns_after x (accepted_edits O l) O.present

  -- What can be asked for its answer can be asked after any list of edits.
  pub stays_accepted : answer_refusal O ≡ 0 → (l : List Edit) → answer_refusal (after_edits O l) ≡ 0
  stays_accepted z l = asked_after l O z

  -- Taking a column off and putting it back gives back what was held, and so the same answers; the other way round too.
  pub taken_off_and_put_back : (c : ℕ) → edit_refusal O (take_off c) ≡ 0 → after_edits O (take_off c ∷ put_back c ∷ []) ≡ O
  taken_off_and_put_back = off_and_back O

  pub put_back_and_taken_off : (c : ℕ) → edit_refusal O (put_back c) ≡ 0 → after_edits O (put_back c ∷ take_off c ∷ []) ≡ O
  put_back_and_taken_off = back_and_off O

  module _ (words : AreWords O.ws) (r c : ℕ) where
    -- So does setting a place that was clear and clearing it, and the other way round.
    pub set_and_cleared : edit_refusal O (set_place r c) ≡ 0 → members (get_or O.ws r 0) c ≡ false → after_edits O (set_place r c ∷ clear_place r c ∷ []) ≡ O
    set_and_cleared = set_and_clear O r c words

    pub cleared_and_set : edit_refusal O (clear_place r c) ≡ 0 → members (get_or O.ws r 0) c ≡ true → after_edits O (clear_place r c ∷ set_place r c ∷ []) ≡ O
    cleared_and_set = clear_and_set O r c words

    -- Setting a set place and clearing a clear one change nothing.
    pub set_twice_is_once : members (get_or O.ws r 0) c ≡ true → after O (set_place r c) ≡ O
    set_twice_is_once = set_again O r c words

    pub cleared_twice_is_once : members (get_or O.ws r 0) c ≡ false → after O (clear_place r c) ≡ O
    cleared_twice_is_once = clear_again O r c words

  -- They are accepted: any place of a row and a column that there are can be set and cleared, whatever it is and whether or not its column is present.
  pub places_can_be_set_and_cleared : (r c : ℕ) → answer_refusal O ≡ 0 → r < O.b → c < O.n
      → (edit_refusal O (set_place r c) ≡ 0) × (edit_refusal O (clear_place r c) ≡ 0)
  places_can_be_set_and_cleared = place_accepted O

  -- A place that is set while its column is out counts once the column returns.
  pub set_while_the_column_is_out : (r c : ℕ) → edit_refusal O (take_off c) ≡ 0 → edit_refusal O (set_place r c) ≡ 0
      → after_edits O (take_off c ∷ set_place r c ∷ put_back c ∷ []) ≡ after O (set_place r c)
  set_while_the_column_is_out = set_while_out O

  -- Rows that are words stay words.
  pub words_stay : AreWords O.ws → (l : List Edit) → AreWords (after_edits O l).ws
  words_stay h l = words_after l O h

-- ---- a model with no column offered

module _ (M : Model) (out : (x : ℕ) → M.E x ≡ false) where
  -- With none present the rank is 0, the short set empty and the verdict that of no columns (E8): 1 where there are no rows, 2 where there are.
  pub none_present_rank : rank M ≡ 0
  none_present_rank =
      let w : (A : Assignment) × Legal M A × ((x : ℕ) → x < M.n → placing A x ≡ placed M x) = placed_has_a_legal_assignment M in
      omega (
        arith,
        placed_has_the_rank M,
        #-none M.n,
        #-mono M.n (placed M) (λ x. false) (λ x l p. absurd (true≢false (sym (w.1.offered x (w.2 x l ∙ p)).1 ∙ out x))),
      )

  pub none_present_short : (x : ℕ) → short M x ≡ false
  none_present_short x = not_true (short M x) (λ s. true≢false (sym ((short_is_the_smallest M).0 x s).1 ∙ out x))

  pub none_present_verdict : verdict M ≡ verdict_number 0 0 (M.a + M.b)
  unfolding verdict
  none_present_verdict = ap₂ (λ (r c : ℕ). verdict_number r c (M.a + M.b)) none_present_rank (ap (# M.n) (fun_ext out) ∙ #-none M.n)

  pub none_present_no_rows : M.a + M.b ≡ 0 → verdict M ≡ 1
  none_present_no_rows e = none_present_verdict ∙ number_determined 0 0 (M.a + M.b) refl (sym e)

  pub none_present_some_rows : 0 < M.a + M.b → verdict M ≡ 2
  none_present_some_rows l = none_present_verdict ∙ number_surplus 0 0 (M.a + M.b) refl l

-- ---- a model as it is opened, and any list of edits from there

module _ (p n a b : ℕ) (cs ws : List ℕ) where
  -- As it is opened its model offers every column that there is.
  pub opened_offers_all : (x : ℕ) → ((open_model (opened p n a b cs ws)).E x ≡ true) ↔ (x < n)
  opened_offers_all x = (ltb-true x n, lt-ltb x n)

  module _ (l : List Edit) where
    -- No column at n or later is ever present,
    pub present_below_n : (x : ℕ) → x ∈ (after_edits (opened p n a b cs ws) l).present → x < n
    present_below_n = inside_after l (opened p n a b cs ws) (λ y. ltb-true y n)

    -- every question is answered where the model opens, with its parameters numbered or not,
    pub always_accepted : (ns : Option (List ℕ)) → refusal p n a b cs ws ns ≡ 0 → answer_refusal (after_edits (opened p n a b cs ws) l) ≡ 0
    always_accepted ns opens = asked_after l (opened p n a b cs ws) (opened_asked p n a b cs ws ns opens)

    -- and the model asked about is worked out afresh, from the numbers as opened, the parameters as edited and the columns present.
    pub worked_out_afresh : let L : List Edit = accepted_edits (opened p n a b cs ws) l in
        open_model (after_edits (opened p n a b cs ws) l)
        ≡ listed_at (modulus p).0 (modulus p).1 n a b cs (rows_after ws L) (present_after (λ x. ltb x n) L)
    worked_out_afresh = ap open_model (held_after l (opened p n a b cs ws))
