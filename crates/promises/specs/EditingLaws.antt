-- A model handed over, held open: calls one after another, what they hold, and the answer to it. Assumes nothing.
use Rattle.std.specs.Prelude.{ℕ, ◌+◌, ◌*◌, ◌≤◌, ◌<◌, ◌≡◌, refl, ◌≢◌, ◌↔◌, true, false, length, get_or, drop, set, ltb}
use Rattle.std.proofs.Common.{sym, ◌∙◌, subst, true≢false, arith, drop-set-lt, pow_pos}
use Rattle.std.proofs.Math.Path.{ap, ap₂, fun_ext}
use Rattle.std.proofs.Math.Logic.{by_cases}
use mathlib.Core.List.{List, [], ◌∷◌, map}
use Rattle.std.proofs.Math.Option.{Option}
use Rattle.std.proofs.Math.Decide.{ℕ_discrete}
use Rattle.counting.specs.Bools.{not_true}
use Rattle.counting.specs.Sets.{Set, #}
use Rattle.columns.specs.Columns.{width, members, word_of}
use Rattle.columns.specs.ColumnSets.{whole, Fits, low_word, high_word, row_words, row_numbers, with_row}
use Rattle.columns.specs.declared.ColumnSet.{ColumnSet}
use Rattle.columns.specs.Words.Operations.{members_zero, word_members}
use Rattle.columns.specs.Words.Rows.{with_row_there, with_row_length}
use Rattle.columns.specs.Words.Sets.{whole_below}
use Rattle.rank.specs.Modulus.{modulus}
use Rattle.rank.specs.Verdict.{verdict_number}
use Rattle.rank.specs.Layered.Model.{Model, Assignment, placing, Legal}
use Rattle.rank.specs.Layered.Rank.{placed, verdict}
use Rattle.rank.proofs.Theorems.{placed_has_a_legal_assignment}
use Rattle.rank.proofs.Layered.ColumnOrder.{placed_below}
use Rattle.listed_models.specs.ListedModel.{listed_at}
use Rattle.format.specs.Refusals.{unless, first_refusal, row_beyond, row_test}
use Rattle.format.specs.RefusalLaws.{where_refused, accepted_value, unless_zero}
use Rattle.format.specs.TestLaws.{row_reads}
use Rattle.layered.specs.Shown.{Answer}
use Rattle.layered.specs.Answers.{RankCall, Refused, Answered}
use Rattle.open_models.specs.Open as Open
use Rattle.open_models.specs.Open.{Open, opened, holding, take_off, put_back, set_place, clear_place, row_tests, edit_refusal, answer_refusal, done, after, after_edits, accepted_edits, rows_after, present_after, open_model}
use Rattle.open_models.proofs.JudgeLaws.{edit_accepted, held_accepted}
use Rattle.open_models.proofs.HeldLaws.{after_accepted, after_refused}
use Rattle.open_models.proofs.Theorems.{none_present_rank, none_present_short, none_present_verdict, always_accepted, worked_out_afresh}
use Rattle.editing.specs.Edits.{meant, place_done, words_done}
use Rattle.editing.specs.Calls.{held, OpenCall, EditCall, AnswerCall}
use Rattle.editing.specs.Shown.{Held}
use Rattle.editing.specs.declared.edit.Edit.{Edit}

-- ---- calls one after another

-- a call for each edit of a list; each takes the words and the set that the last one left
abbrev pub EditedBy : (p n a b : ℕ) (cs words : List ℕ) → ColumnSet → List Edit → List ℕ → ColumnSet → Type 0
EditedBy p n a b cs words s [] words' s' = (words' ≡ words) × (s' ≡ s)
EditedBy p n a b cs words s (e ∷ l) words' s' =
    (r : Held) × (mid : List ℕ) × EditCall p n a b cs words s e r mid × EditedBy p n a b cs mid r.present l words' s'

-- an edit leaves sizes and constants
after_holding : (O : Open) (e : Open.Edit) → after O e ≡ holding O (after O e).ws (after O e).present
unfolding done
after_holding O e =
    by_cases (ℕ_discrete (edit_refusal O e) 0)
    (λ z. let q = after_accepted O e z in q ∙ ap (λ (P : Open). holding O P.ws P.present) (sym q))
    (λ nz. let q = after_refused O e nz in q ∙ ap (λ (P : Open). holding O P.ws P.present) (sym q))

module _ (p n a b : ℕ) (cs : List ℕ) where
  abbrev of : List ℕ → ColumnSet → Open
  of words s = held p n a b cs (row_numbers words) s

  edit_holds : {words : List ℕ} {s : ColumnSet} {e : Edit} {r : Held} {words' : List ℕ} → EditCall p n a b cs words s e r words' → of words' r.present ≡ after (of words s) (meant e)
  edit_holds {words} {s} {e} c =
      ap₂ (holding (of words s)) c.rows_are (fun_ext c.present_are.columns) ∙ sym (after_holding (of words s) (meant e))

  -- what they hold is what the edits leave
  pub edits_hold : (l : List Edit) (words : List ℕ) (s : ColumnSet) (words' : List ℕ) (s' : ColumnSet) → EditedBy p n a b cs words s l words' s' → of words' s' ≡ after_edits (of words s) (map meant l)
  unfolding after_edits
  edits_hold [] words s words' s' h = ap₂ (λ (us : List ℕ) (t : ColumnSet). of us t) h.0 h.1
  edits_hold (e ∷ l) words s words' s' h =
      edits_hold l h.1 h.0.present words' s' h.3 ∙ ap (λ (P : Open). after_edits P (map meant l)) (edit_holds h.2)

  open_holds : (ws : List ℕ) (ns : Option (List ℕ)) (r : Held) → OpenCall p n a b cs ws ns r → r.refusal ≡ 0 → held p n a b cs ws r.present ≡ opened p n a b cs ws
  open_holds ws ns r c ok = ap (λ (S : Set). holding (opened p n a b cs ws) ws S) (fun_ext (c.if_accepted (sym c.is_refusal ∙ ok)).columns)

  -- calls that hold the same are answered alike
  answered_alike : (ws vs : List ℕ) (s t : ColumnSet) → held p n a b cs ws s ≡ held p n a b cs vs t → (r : Answer) → AnswerCall p n a b cs ws s r → AnswerCall p n a b cs vs t r
  answered_alike ws vs s t e r c = subst (λ (O : Open). RankCall (answer_refusal O) r.refusal (Refused r) (Answered (open_model O) r)) e c

  -- words and a set hold what others do, so that every answer to the one is an answer to the other
  abbrev pub HoldSame : List ℕ → ColumnSet → List ℕ → ColumnSet → Type 0
  HoldSame words s words' s' =
      (row_numbers words' ≡ row_numbers words) × ((x : ℕ) → members (whole s') x ≡ members (whole s) x)
      × ((r : Answer) → AnswerCall p n a b cs (row_numbers words') s' r ↔ AnswerCall p n a b cs (row_numbers words) s r)

  pub hold_same : (words : List ℕ) (s : ColumnSet) (words' : List ℕ) (s' : ColumnSet) → of words' s' ≡ of words s → HoldSame words s words' s'
  hold_same words s words' s' e = (
    ap (λ (O : Open). O.ws) e,
    λ x. ap (λ (O : Open). O.present x) e,
    λ r. (answered_alike (row_numbers words') (row_numbers words) s' s e r, answered_alike (row_numbers words) (row_numbers words') s s' (sym e) r),
  )

-- ---- from opening

module _ (p n a b : ℕ) (cs words : List ℕ) (ns : Option (List ℕ)) (o : Held) (opening : OpenCall p n a b cs (row_numbers words) ns o) (ok : o.refusal ≡ 0)
    (l : List Edit) (words' : List ℕ) (s' : ColumnSet) (calls : EditedBy p n a b cs words o.present l words' s') where
  abbrev start : Open
  start = opened p n a b cs (row_numbers words)

  pub holds_after : held p n a b cs (row_numbers words') s' ≡ after_edits start (map meant l)
  holds_after = edits_hold p n a b cs l words o.present words' s' calls ∙ ap (λ (O : Open). after_edits O (map meant l)) (open_holds p n a b cs (row_numbers words) ns o opening ok)

  -- the answer is that of the model worked out afresh
  pub answered_afresh : (r : Answer) → AnswerCall p n a b cs (row_numbers words') s' r
      → let L = accepted_edits start (map meant l) in
      (r.refusal ≡ 0) × Answered (listed_at (modulus p).0 (modulus p).1 n a b cs (rows_after (row_numbers words) L) (present_after (λ x. ltb x n) L)) r
  answered_afresh r c =
      let z : answer_refusal (held p n a b cs (row_numbers words') s') ≡ 0 =
      ap answer_refusal holds_after ∙ always_accepted p n a b cs (row_numbers words) (map meant l) ns (sym opening.is_refusal ∙ ok) in (
        c.is_refusal ∙ z,
        subst (λ (M : Model). Answered M r) (ap open_model holds_after ∙ worked_out_afresh p n a b cs (row_numbers words) (map meant l)) (c.if_accepted z),
      )

-- ---- one call

-- an edit of one of b rows that an area has leaves the words behind them
module _ (O : Open) (words : List ℕ) (lent : O.b ≤ length (row_numbers words)) where
  abbrev Leaves : List ℕ → Type 0
  Leaves us = (drop (row_words * O.b) us ≡ drop (row_words * O.b) words) × (length us ≡ length words)

  row_leaves : (i w : ℕ) → first_refusal (unless (row_test i O.b) row_beyond) ≡ 0 → Leaves (with_row words i w)
  row_leaves i w z =
      let l : i < O.b = (row_reads i O.b).0 (unless_zero _ row_beyond z) in (
        ap (drop (row_words * O.b)) (with_row_there words i w (omega arith))
            ∙ drop-set-lt (row_words * O.b) (set words (row_words * i) (low_word w)) (row_words * i + 1) (high_word w) (omega arith)
            ∙ drop-set-lt (row_words * O.b) words (row_words * i) (low_word w) (omega arith),
        with_row_length words i w,
      )

  words_leave : (f : Open.Edit) → first_refusal (row_tests O f) ≡ 0 → Leaves (words_done words f)
  unfolding words_done row_tests
  words_leave (take_off c) z = (refl, refl)
  words_leave (put_back c) z = (refl, refl)
  words_leave (set_place i c) z = row_leaves i (place_done (get_or (row_numbers words) i 0) c true) z
  words_leave (clear_place i c) z = row_leaves i (place_done (get_or (row_numbers words) i 0) c false) z

module _ (p n a b : ℕ) (cs words : List ℕ) (s : ColumnSet) (e : Edit) (r : Held) (words' : List ℕ) (call : EditCall p n a b cs words s e r words') where
  abbrev was : Open
  was = held p n a b cs (row_numbers words) s

  -- a refused edit leaves the words and the set
  pub refused_leaves : r.refusal ≢ 0 → (words' ≡ words) × ((x : ℕ) → members (whole r.present) x ≡ members (whole s) x) × (Fits s → whole r.present ≡ whole s)
  refused_leaves nz =
      let ne : edit_refusal was (meant e) ≢ 0 = λ z. nz (call.is_refusal ∙ z) in
      let same : (after was (meant e)).present ≡ members (whole s) = ap (λ (O : Open). O.present) (after_refused was (meant e) ne) in (
        call.words_are ∙ where_refused (edit_refusal was (meant e)) refl ne (words_done words (meant e)) words,
        λ x. call.present_are.columns x ∙ ap (λ (S : Set). S x) same,
        λ fits. call.present_are.is_number ∙ ap (word_of width) same ∙ sym (word_members width (whole s) (whole_below s fits)),
      )

  -- the words behind the rows stay, and there are as many
  pub leaves_surplus : (drop (row_words * b) words' ≡ drop (row_words * b) words) × (length words' ≡ length words)
  leaves_surplus =
      by_cases (ℕ_discrete (edit_refusal was (meant e)) 0)
      (λ z.
      let q = call.words_are ∙ accepted_value (edit_refusal was (meant e)) refl z (words_done words (meant e)) words in
      let h = edit_accepted was (meant e) z in
      let d = words_leave was words (held_accepted was h.held).parameters_lent (meant e) h.row in
      (ap (drop (row_words * b)) q ∙ d.0, ap length q ∙ d.1))
      (λ nz.
      let q = call.words_are ∙ where_refused (edit_refusal was (meant e)) refl nz (words_done words (meant e)) words in
      (ap (drop (row_words * b)) q, ap length q))

-- ---- with no column present

module _ (M : Model) (out : (x : ℕ) → M.E x ≡ false) where
  none_placed : (x : ℕ) → placed M x ≡ false
  none_placed x = not_true (placed M x) (λ h.
      let w : (A : Assignment) × Legal M A × ((y : ℕ) → y < M.n → placing A y ≡ placed M y) = placed_has_a_legal_assignment M in
      let l = placed_below M x h in
      true≢false (sym (w.1.offered x (w.2 x l ∙ h)).1 ∙ out x))

pub no_column_answered : (O : Open) → ((x : ℕ) → O.present x ≡ false) → (r : Answer) → Answered (open_model O) r
    → (r.rank ≡ 0) × (whole r.placed ≡ 0) × (whole r.short ≡ 0) × (r.verdict ≡ verdict_number 0 0 (O.a + O.b))
no_column_answered O out r h =
    let M = open_model O in
    let nothing : word_of width (λ x. false) ≡ 0 = ap (word_of width) (sym members_zero) ∙ sym (word_members width 0 (pow_pos width)) in (
      h.solved.is_rank ∙ none_present_rank M out,
      h.placed_number ∙ ap (word_of width) (fun_ext (none_placed M out)) ∙ nothing,
      h.short_number ∙ ap (word_of width) (fun_ext (none_present_short M out)) ∙ nothing,
      h.is_verdict ∙ none_present_verdict M out,
    )

-- the n of the verdict is the number of columns present
pub verdict_of_present : (O : Open) (r : Answer) → Answered (open_model O) r → r.verdict ≡ verdict_number r.rank (# O.n O.present) (O.a + O.b)
unfolding verdict
verdict_of_present O r h = h.is_verdict ∙ ap (λ (k : ℕ). verdict_number k (# O.n O.present) (O.a + O.b)) (sym h.solved.is_rank)
