-- An accepted call about multipliers says how the named column depends on the held ones, and nothing but the constants counts. Assumes nothing.
use Rattle.std.specs.Prelude.{ℕ, ◌*◌, ◌<◌, ◌≡◌, List, take}
use Rattle.std.proofs.Common.{sym, ap, ◌∙◌}
use Rattle.std.proofs.Math.Option.{Option}
use Rattle.std.proofs.Math.Decide.{dec_lt}
use Rattle.limits.specs.Limits.{most_columns}
use Rattle.residue.specs.Residues.{res}
use Rattle.counting.specs.Sets.{Set, ◌∈◌}
use Rattle.columns.specs.Columns.{members, within}
use Rattle.columns.specs.ColumnSets.{whole, Fits}
use Rattle.columns.specs.declared.ColumnSet.{ColumnSet}
use Rattle.columns.specs.Words.Operations.{within_iff}
use Rattle.columns.specs.Words.Sets.{columns_below}
use Rattle.rank.specs.Modulus.{modulus}
use Rattle.rank.specs.ListedModel.{constant_at}
use Rattle.dependence.specs.Multipliers.{given}
use Rattle.dependence.proofs.NumberLaws.{given_not_held, outcome_same, given_same}
use Rattle.dependence.specs.ListingLaws.{listing_same}
use Rattle.exchange.specs.DependenceCall.{ListedDependenceShown}
use Rattle.format.specs.Refusals.{unless, first_refusal, column_beyond, column_test, model_tests, refusal}
use Rattle.format.specs.RefusalLaws.{then_zero, unless_zero}
use Rattle.format.specs.TestLaws.{Accepted, model_accepted, column_reads}
use Rattle.multipliers.specs.Answers.{column_question, MultipliersCall}
use Rattle.multipliers.specs.Shown.{Multipliers}
use Rattle.promises.specs.AnswerLaws.{constant_same}
use Rattle.promises.specs.DependenceLaws.{Says}

-- a call that is accepted
module _ (p n a b : ℕ) (cs ws : List ℕ) (ns : Option (List ℕ)) (held : ColumnSet) (fits : Fits held) (x : ℕ) (r : Multipliers)
    (call : MultipliersCall p n a b cs ws ns held x r) (ok : r.refusal ≡ 0) where
  abbrev H : Set
  H = members (whole held)

  each : (first_refusal (model_tests p n a b cs ws ns) ≡ 0) × (first_refusal (column_question n (whole held) x) ≡ 0)
  each = then_zero (model_tests p n a b cs ws ns) (column_question n (whole held) x) (sym call.is_refusal ∙ ok)

  pub model_judged : Accepted p n a b cs ws ns
  unfolding refusal
  model_judged = model_accepted p n a b cs ws ns each.0

  columns : (first_refusal (unless (column_test x n) column_beyond) ≡ 0) × (first_refusal (unless (within n (whole held)) column_beyond) ≡ 0)
  columns = then_zero (unless (column_test x n) column_beyond) (unless (within n (whole held)) column_beyond) each.1

  pub column_below : x < n
  column_below = (column_reads x n).0 (unless_zero (column_test x n) column_beyond columns.0)

  pub held_below : (j : ℕ) → j ∈ H → j < n
  held_below j e = (within_iff n (whole held)).0 (unless_zero (within n (whole held)) column_beyond columns.1) j (columns_below held j fits e) e

  answer : ListedDependenceShown p n a cs H x r.outcome r.multipliers
  answer = call.if_accepted (sym call.is_refusal ∙ ok)

  -- so its numbers say how x depends on the held columns
  pub says : Says p n a cs H x r.outcome r.multipliers
  says = record { prime = model_judged.prime; n_most = model_judged.n_most; x_below = column_below; below = held_below; answer = answer }

-- two calls with the same constants, whatever the parameter rows, their numbers, and what stands behind the constants
module _ (p n a : ℕ) (cs ds : List ℕ) (same : take (a * n) cs ≡ take (a * n) ds) (held : ColumnSet) (fits : Fits held) (x : ℕ) (b b' : ℕ) (ws ws' : List ℕ) (ns ns' : Option (List ℕ))
    (r s : Multipliers) (call : MultipliersCall p n a b cs ws ns held x r) (other : MultipliersCall p n a b' ds ws' ns' held x s) (ok : r.refusal ≡ 0) (ok' : s.refusal ≡ 0) where
  agree : (i j : ℕ) → i < a → j < n → constant_at (modulus p).0 (modulus p).1 n cs i j ≡ constant_at (modulus p).0 (modulus p).1 n ds i j
  agree i j li lj = ap (res (modulus p).0 (modulus p).1) (constant_same n a cs ds same i j li lj)

  same_given : (j : ℕ) → given (modulus p).0 (modulus p).1 a n (constant_at (modulus p).0 (modulus p).1 n cs) (members (whole held)) x j
      ≡ given (modulus p).0 (modulus p).1 a n (constant_at (modulus p).0 (modulus p).1 n ds) (members (whole held)) x j
  same_given j = elim (dec_lt j n) [
    | yes l ↦ given_same (modulus p).0 (modulus p).1 a n _ _ agree (members (whole held)) x (column_below p n a b cs ws ns held fits x r call ok) j l
    | no nl ↦
        let out : j ∈ members (whole held) → ⊥ = λ e. nl (held_below p n a b cs ws ns held fits x r call ok j e) in
        given_not_held (modulus p).0 (modulus p).1 a n _ (members (whole held)) x j out ∙ sym (given_not_held (modulus p).0 (modulus p).1 a n _ (members (whole held)) x j out)
  ]

  pub constants_decide : (r.outcome ≡ s.outcome) × (r.multipliers ≡ s.multipliers)
  constants_decide =
      let first = answer p n a b cs ws ns held fits x r call ok in
      let second = answer p n a b' ds ws' ns' held fits x s other ok' in (
        first.outcome_is ∙ outcome_same (modulus p).0 (modulus p).1 a n _ _ agree (members (whole held)) x (column_below p n a b cs ws ns held fits x r call ok) ∙ sym second.outcome_is,
        first.multipliers_are ∙ listing_same most_columns _ _ (λ j l. same_given j) ∙ sym second.multipliers_are,
      )
