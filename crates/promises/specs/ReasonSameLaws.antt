-- The reason for a column depends on the first a × n constants and the first b parameter rows alone: two calls with the same ones agree in everything.
-- Assumes nothing.
use Rattle.std.specs.Prelude.{ℕ, ◌*◌, ◌<◌, ◌≡◌, Bool, not, true, List, take}
use Rattle.std.proofs.Math.Path.{refl, sym, ap₂, fun_ext}
use Rattle.std.proofs.Common.{ap, ◌∙◌}
use Rattle.std.proofs.Math.Logic.{by_cases}
use Rattle.std.proofs.Math.Bool.{cond}
use Rattle.std.proofs.Math.Option.{Option}
use Rattle.std.proofs.Math.Decide.{ℕ_discrete, dec_lt}
use Rattle.limits.specs.Limits.{most_columns}
use Rattle.counting.specs.Sets.{Set}
use Rattle.counting.specs.Counts.{◌⊖◌, ⊖-in}
use Rattle.columns.specs.Columns.{width, word_of}
use Rattle.columns.specs.ColumnSets.{whole}
use Rattle.rank.specs.Modulus.{modulus}
use Rattle.listed_models.specs.ListedModel.{listed_model}
use Rattle.rank.specs.Layered.Model.{Model}
use Rattle.dependence.specs.Multipliers.{given}
use Rattle.dependence.proofs.NumberLaws.{given_not_held, given_same}
use Rattle.dependence.specs.ListingLaws.{listing_same}
use Rattle.blocking.specs.Reason.{reason, untouched, reason_multiplier}
use Rattle.blocking.specs.ReasonLaws.{reason_iff}
use Rattle.format.specs.Refusals.{unless, ◌then◌, first_refusal, column_placed, named_column, model_tests, refusal}
use Rattle.format.specs.RefusalLaws.{then_refused, then_passed}
use Rattle.reason.specs.Answers.{reason_question, ReasonAnswered, ReasonCall}
use Rattle.reason.specs.Shown.{Reason}
use Rattle.promises.specs.Fixed.{SameReason}
use Rattle.promises.specs.AgreeLaws.{placed_same, reason_same, untouched_same}
use Rattle.promises.specs.AnswerLaws.{agree}
use Rattle.promises.specs.ReasonLaws.{column_below}

module _ (p n a b : ℕ) (cs ds ws vs : List ℕ) (ec : take (a * n) cs ≡ take (a * n) ds) (ew : take b ws ≡ take b vs) (x : ℕ) where
  abbrev M : Model
  M = listed_model p n a b cs ws

  abbrev N : Model
  N = listed_model p n a b ds vs

  same_reason : reason M x ≡ reason N x
  same_reason = fun_ext (reason_same (modulus p).0 (modulus p).1 n a b (λ y. true) M.Q N.Q M.T N.T (agree p n a b cs ds ws vs ec ew) x)

  same_untouched : untouched M (reason M x) ≡ untouched N (reason N x)
  same_untouched = untouched_same (modulus p).0 (modulus p).1 n a b (λ y. true) M.Q N.Q M.T N.T (agree p n a b cs ds ws vs ec ew) (reason M x) ∙ ap (untouched N) same_reason

  -- multipliers of x by columns of the reason
  same_given : x < n → (j : ℕ) → given (modulus p).0 (modulus p).1 a n M.Q (reason M x ⊖ x) x j ≡ given (modulus p).0 (modulus p).1 a n N.Q (reason N x ⊖ x) x j
  same_given l j = elim (dec_lt j n) [
    | yes lj ↦ given_same (modulus p).0 (modulus p).1 a n M.Q N.Q (agree p n a b cs ds ws vs ec ew).constants (reason M x ⊖ x) x l j lj ∙ ap (λ (S : Set). given (modulus p).0 (modulus p).1 a n N.Q (S ⊖ x) x j) same_reason
    | no nj ↦ given_not_held (modulus p).0 (modulus p).1 a n M.Q (reason M x ⊖ x) x j (λ e. nj ((reason_iff M x j).0 (⊖-in (reason M x) x j e).0).0)
        ∙ sym (given_not_held (modulus p).0 (modulus p).1 a n N.Q (reason N x ⊖ x) x j (λ e. nj ((reason_iff N x j).0 (⊖-in (reason N x) x j e).0).0))
  ]

  same_multiplier : x < n → (j : ℕ) → reason_multiplier (modulus p).0 (modulus p).1 n a b M.Q M.T M.E x j ≡ reason_multiplier (modulus p).0 (modulus p).1 n a b N.Q N.T N.E x j
  unfolding reason_multiplier
  same_multiplier l j = ap₂ (λ (t : Bool) (k : ℕ). cond t k 0) same_untouched (same_given l j)

  same_question : first_refusal (reason_question M x) ≡ first_refusal (reason_question N x)
  same_question = ap (λ (t : Bool). first_refusal (named_column n x then unless (not t) column_placed)) (placed_same (modulus p).0 (modulus p).1 n a b (λ y. true) M.Q N.Q M.T N.T (agree p n a b cs ds ws vs ec ew) x)

  -- whatever the numbers, where the refusals are the same
  module _ (ns ms : Option (List ℕ)) (e : refusal p n a b cs ws ns ≡ refusal p n a b ds vs ms) where
    same_due : first_refusal (model_tests p n a b cs ws ns then reason_question M x) ≡ first_refusal (model_tests p n a b ds vs ms then reason_question N x)
    unfolding refusal
    same_due = by_cases (ℕ_discrete (refusal p n a b cs ws ns) 0)
        (λ z. sym (then_passed (model_tests p n a b cs ws ns) (reason_question M x) _ z refl) ∙ same_question ∙ then_passed (model_tests p n a b ds vs ms) (reason_question N x) _ (sym e ∙ z) refl)
        (λ nz. sym (then_refused (model_tests p n a b cs ws ns) (reason_question M x) _ refl nz) ∙ e ∙ then_refused (model_tests p n a b ds vs ms) (reason_question N x) _ refl (λ z. nz (e ∙ z)))

    pub reason_calls_same : {r s : Reason} → ReasonCall p n a b cs ws ns x r → ReasonCall p n a b ds vs ms x s → SameReason r s
    reason_calls_same {r} {s} h g =
        by_cases (ℕ_discrete r.refusal 0)
        (λ z.
        let u : ReasonAnswered p n a b cs ws x r = h.if_accepted (sym h.is_refusal ∙ z) in
        let v : ReasonAnswered p n a b ds vs x s = g.if_accepted (sym g.is_refusal ∙ sym first ∙ z) in record {
          same_refusal = first;
          same_set = u.set_number ∙ ap (word_of width) same_reason ∙ sym v.set_number;
          same_given = u.is_given ∙ same_untouched ∙ sym v.is_given;
          same_multipliers = u.multipliers_are ∙ listing_same most_columns _ _ (λ j l. same_multiplier (column_below p n a b cs ws ns x r h z) j) ∙ sym v.multipliers_are;
        })
        (λ nz.
        let u = h.if_refused (λ z. nz (h.is_refusal ∙ z)) in
        let v = g.if_refused (λ z. nz (first ∙ g.is_refusal ∙ z)) in record {
          same_refusal = first;
          same_set = ap whole (u.no_set ∙ sym v.no_set);
          same_given = u.not_given ∙ sym v.not_given;
          same_multipliers = u.no_multipliers ∙ sym v.no_multipliers;
        })
      where
        first : r.refusal ≡ s.refusal
        first = h.is_refusal ∙ same_due ∙ sym g.is_refusal
