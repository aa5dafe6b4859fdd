-- What the promise of the call about a claim rules out: of every model, and on small models modulo 2. Assumes nothing.
use Rattle.std.specs.Prelude.{ℕ, zero, suc, ◌≤◌, ◌≡◌, refl, ◌≢◌, ◌↔◌, ◌⊎◌, true, false, List, [], ◌∷◌, get_or, replicate}
use Rattle.std.proofs.Common.{sym, ◌∙◌, inl, inr, true≢false, arith, lit<}
use Rattle.std.proofs.Math.Option.{Option, none}
use Rattle.limits.specs.Limits.{most_rows, no_column}
use Rattle.counting.specs.Sets.{◌∈◌, #}
use Rattle.columns.specs.Columns.{members}
use Rattle.columns.specs.ColumnSets.{whole, set_of}
use Rattle.rank.specs.ListedModel.{parameter_at}
use Rattle.listed_models.specs.ListedModel.{listed_model}
use Rattle.rank.specs.Layered.Model.{row}
use Rattle.rank.specs.Layered.Rank.{sum}
use Rattle.claims.specs.Claim.{Names}
use Rattle.claims.proofs.ClaimLaws.{Named, claim_iff}
use Rattle.claims.proofs.Theorems as Theory
use Rattle.format.specs.Refusals.{refusal}
use Rattle.acceptance.specs.Answers.{ClaimAccepted, AcceptanceCall}
use Rattle.acceptance.specs.declared.Claim.{Claim}
use Rattle.acceptance.specs.Shown.{Acceptance}
use Rattle.acceptance.proofs.SumLaws.{set_below}
use Rattle.promises.specs.AcceptanceLaws.{claim_accepted}
use Rattle.refutations.specs.Computing.{computing}
use Rattle.refutations.specs.Accepted.{judging}

-- ---- of every model

module _ (p n a b : ℕ) (cs ws : List ℕ) (ns : Option (List ℕ)) (c : Claim) (r : Acceptance) (call : AcceptanceCall p n a b cs ws ns c r) where
  -- a claim is refused although the model is not
  pub claim_refused : refusal p n a b cs ws ns ≡ 0 → r.refusal ≢ 0 → ⊥
  claim_refused z ne = ne (call.is_refusal ∙ z)

  -- it is accepted although the model is refused
  pub accepted_although_refused : r.refusal ≢ 0 → r.accepted ≡ true → ⊥
  accepted_although_refused ne e = true≢false (sym e ∙ call.if_refused (λ z. ne (call.is_refusal ∙ z)))

  module _ (yes-accepted : r.accepted ≡ true) where
    abbrev holds : ClaimAccepted (listed_model p n a b cs ws) c
    holds = (claim_accepted c r call yes-accepted).1

    -- a row serves two columns, x and y, in the assignment that is accepted; in the claim itself a row names one column (`names_one`)
    pub row_serves_two_columns : (x y q : ℕ) → holds.assignment x ≡ row q → holds.assignment y ≡ row q → x ≢ y → ⊥
    row_serves_two_columns x y q e f ne = ne (holds.is_accepted.is_legal.one_each x y q e f)

    -- a column is on the constant side and on a row, or on two rows
    pub column_on_both_sides : (x q : ℕ) → x ∈ members (whole c.constants) → Names c.rows q x → ⊥
    column_on_both_sides x q o h = (Theory.no_column_twice (listed_model p n a b cs ws) holds x q h).0 o

    pub column_on_two_rows : (x q t : ℕ) → q ≢ t → Names c.rows q x → Names c.rows t x → ⊥
    column_on_two_rows x q t ne h k = ne ((Theory.no_column_twice (listed_model p n a b cs ws) holds x t k).1 q h)

    -- column n or a later one is named, by the side, by a row, or by the set
    pub column_past_the_last : (x : ℕ) → n ≤ x → (x ∈ members (whole c.constants) → ⊥) × ((q : ℕ) → Names c.rows q x → ⊥) × (x ∈ members (whole c.set) → ⊥)
    column_past_the_last = Theory.no_column_from_n_on (listed_model p n a b cs ws) holds

    -- row b or a later one names a column
    pub row_past_the_last : (q x : ℕ) → b ≤ q → Names c.rows q x → ⊥
    row_past_the_last = Theory.no_row_from_b_on (listed_model p n a b cs ws) holds

    -- a row has no parameter at the column that it names
    pub row_without_a_parameter : (q x : ℕ) → Names c.rows q x → parameter_at ws q x ≡ false → ⊥
    row_without_a_parameter q x h e = true≢false (sym (holds.is_accepted.is_legal.parameter x q ((holds.is_shown.on_rows x q).1 h)).1 ∙ e)

-- ---- small models

-- all that has to be opened to run the definitions, to judge a model, and to read a set
unfoldable run : ℕ
unfolding computing judging whole set_of
run = 0

-- no row has a column
unfoldable pub no_rows : List ℕ
no_rows = replicate most_rows no_column

none_there : (k r : ℕ) → get_or (replicate k no_column) r no_column ≡ no_column
none_there zero r = refl
none_there (suc k) zero = refl
none_there (suc k) (suc r) = none_there k r

nobody_named : (q x : ℕ) → Names no_rows q x → ⊥
unfolding no_rows
nobody_named q x m = m.1 (sym m.0 ∙ none_there most_rows q)

nothing_named : (x : ℕ) → Named no_rows x → ⊥
nothing_named x w = nobody_named w.0 x w.2

-- the claim of a rank, the columns with a number on the constant side, no row, and a column set with a number
abbrev claim : (the_rank side set : ℕ) → Claim
claim the_rank side set = record { rank = the_rank; constants = set_of side; rows = no_rows; set = set_of set }

-- one column of one constant row, 1; it has rank 1, and so has either set of columns
abbrev One : Acceptance → Claim → Type 0
One r c = AcceptanceCall 2 1 1 0 (1 ∷ []) [] none c r

one_judged : refusal 2 1 1 0 (1 ∷ []) [] none ≡ 0
unfolding run
one_judged = refl

-- the columns that such a claim places are those of the side
alone : (side x : ℕ) → (x ∈ members (whole (set_of side))) ↔ ((x ∈ members (whole (set_of side))) ⊎ Named no_rows x)
alone side x = (inl, λ w. elim w [ inl o ↦ o | inr v ↦ absurd (nothing_named x v) ])

one_none : # 1 (members (whole (set_of 0))) ≡ 0
unfolding run
one_none = refl

-- the rank is not checked against the assignment: it places no column, and the rank and the sum of the empty set are 1
pub rank_not_checked : (r : Acceptance) → One r (claim 1 0 0) → r.accepted ≡ true → ⊥
rank_not_checked r s e =
    let h = (s.if_accepted one_judged).0 e in
    let k = (claim_iff (listed_model 2 1 1 0 (1 ∷ []) []) 1 (members (whole (set_of 0))) no_rows (members (whole (set_of 0))) (members (whole (set_of 0))) (alone 0)).0 h in
    omega (arith, k.as_many, one_none)

one_sum : sum (listed_model 2 1 1 0 (1 ∷ []) []) (members (whole (set_of 0))) ≡ 1
unfolding run
one_sum = refl

-- a sum above the rank is accepted: it places no column, its rank is 0, and the sum of the empty set is 1
pub sum_above_the_rank : (r : Acceptance) → One r (claim 0 0 0) → r.accepted ≡ true → ⊥
sum_above_the_rank r s e = omega (arith, ((s.if_accepted one_judged).0 e).is_accepted.has_sum, one_sum)

-- two equal columns of one constant row, both on the constant side; the empty set has the sum 2
abbrev Equal : Acceptance → Claim → Type 0
Equal r c = AcceptanceCall 2 2 1 0 (1 ∷ 1 ∷ []) [] none c r

equal_judged : refusal 2 2 1 0 (1 ∷ 1 ∷ []) [] none ≡ 0
unfolding run
equal_judged = refl

equal_dependent : (listed_model 2 2 1 0 (1 ∷ 1 ∷ []) []).indep (members (whole (set_of 3))) ≡ false
unfolding run
equal_dependent = refl

-- the constants of the side are not tested for independence
pub dependent_side : (r : Acceptance) → Equal r (claim 2 3 0) → r.accepted ≡ true → ⊥
dependent_side r s e =
    let M = listed_model 2 2 1 0 (1 ∷ 1 ∷ []) [] in
    let h = (s.if_accepted equal_judged).0 e in
    let k = (claim_iff M 2 (members (whole (set_of 3))) no_rows (members (whole (set_of 0))) (members (whole (set_of 3))) (alone 3)).0 h in
    true≢false (sym ((M.indep_iff (members (whole (set_of 3)))).1 k.side_independent) ∙ equal_dependent)

-- a column set that is not the smallest: column 0 is on the constant side, and is the set
sound : ClaimAccepted (listed_model 2 1 1 0 (1 ∷ []) []) (claim 1 1 1)
unfolding run
sound = (claim_iff (listed_model 2 1 1 0 (1 ∷ []) []) 1 (members 1) no_rows (members 1) (members 1) (alone 1)).1 (record {
  side_columns = λ x e. (set_below 1 1 (lit< tt) refl x e, refl);
  rows_serve = λ q x m. absurd (nobody_named q x m);
  side_independent = ((listed_model 2 1 1 0 (1 ∷ []) []).indep_iff (members 1)).0 refl;
  as_many = refl;
  set_columns = λ x e. (set_below 1 1 (lit< tt) refl x e, refl);
  set_sum = refl;
})

-- it is not accepted
pub larger_set_not_accepted : (r : Acceptance) → One r (claim 1 1 1) → r.accepted ≡ false → ⊥
larger_set_not_accepted r s e = true≢false (sym ((s.if_accepted one_judged).1 sound) ∙ e)
