-- What an accepted claim says of the answers that the layered call gives; and that a claim made of such an answer is accepted. Assumes nothing.
use Rattle.std.specs.Prelude.{ℕ, ◌<◌, ◌≤◌, ◌≡◌, true, List, length, get_or}
use Rattle.std.proofs.Common.{sym, ap, ◌∙◌, subst, inl, inr, true≢false, arith}
use Rattle.std.proofs.Math.Path.{fun_ext}
use Rattle.std.proofs.Math.Logic.{by_cases}
use Rattle.std.proofs.Math.Decide.{ℕ_discrete, dec_lt}
use Rattle.limits.specs.Limits.{most_columns, most_rows, no_column}
use Rattle.counting.specs.Sets.{Set, ◌⊆◌}
use Rattle.counting.specs.Counts.{#-ext}
use Rattle.columns.specs.Columns.{members}
use Rattle.columns.specs.ColumnSets.{whole}
use Rattle.rank.specs.Layered.Model.{Model, row, Assignment, is_constant, constants, placing, Legal, size}
use Rattle.rank.specs.Layered.Rank.{sum, rank, placed, short}
use Rattle.rank.proofs.Theorems.{short_is_the_smallest, placed_has_the_rank}
use Rattle.claims.specs.Claim.{Shows, AcceptsClaim}
use Rattle.claims.proofs.ClaimLaws.{constant_seat, named_below, read_below}
use Rattle.claims.proofs.Theorems.{accepted_is_the_rank, short_in_accepted}
use Rattle.exchange.specs.Solution.{ShowsRow, shown}
use Rattle.layered.specs.Answers.{Refused, Answered, RankCall}
use Rattle.layered.specs.Shown.{Answer}
use Rattle.acceptance.specs.Answers.{ClaimAccepted, AcceptanceRefused, AcceptanceAnswered}
use Rattle.acceptance.specs.declared.Claim.{Claim}
use Rattle.acceptance.specs.Shown.{Acceptance}

-- the claim that an answer makes: its rank, its assignment and its short set
abbrev pub claim_of : Answer → Claim
claim_of s = record { rank = s.rank; constants = s.constants; rows = s.rows; set = s.short }

-- ---- an answer's side and rows

-- where they show nothing but a legal assignment, it is the one that a claim with them shows
module _ (M : Model) (side : Set) (rows : List ℕ) where
  abbrev A : Assignment
  A = shown M.n M.b side rows

  pub assignment_shown : M.n ≤ most_columns → M.b ≤ most_rows → length rows ≡ most_rows → Legal M A → ((x : ℕ) → side x ≡ constants A x)
      → ((r : ℕ) → r < M.b → ShowsRow M.n M.b side rows r) → ((r : ℕ) → M.b ≤ r → r < most_rows → get_or rows r 0 ≡ no_column) → Shows side rows A
  assignment_shown few few_rows long legal side_shown rows_shown past_rows = record {
    on_the_side = λ x. ((λ e. side_shown x ∙ ap is_constant e), λ o. constant_seat (A x) (sym (side_shown x) ∙ o));
    on_rows = λ x r. (
      λ e.
          let p = legal.parameter x r e in
          elim (rows_shown r p.0) [
            | inl w ↦ let d : get_or rows r 0 ≡ x = legal.one_each (get_or rows r 0) x r w.1 e in (at r (omega (arith, p.0)) ∙ d, λ z. omega (arith, z, d, w.0))
            | inr w ↦ absurd (w.1 x e)
          ],
      λ m.
          let l : r < most_rows = omega (arith, long, named_below rows r x m) in
          elim (dec_lt r M.b) [
            | yes below ↦ elim (rows_shown r below) [
              | inl w ↦ subst (λ (y : ℕ). A y ≡ row r) (sym (at r l) ∙ m.0) w.1
              | inr w ↦ absurd (m.1 (sym m.0 ∙ at r l ∙ w.0))
            ]
            | no nb ↦ absurd (m.1 (sym m.0 ∙ at r l ∙ past_rows r (omega arith) l))
          ],
    );
  }
    where
      at : (r : ℕ) → r < most_rows → get_or rows r no_column ≡ get_or rows r 0
      at r l = read_below rows r no_column 0 (omega (arith, long))

-- ---- an answer of ours

-- the assignment that it shows
abbrev pub own_assignment : Model → Answer → Assignment
own_assignment M s = shown M.n M.b (members (whole s.constants)) s.rows

module _ (M : Model) (s : Answer) (h : Answered M s) where
  -- its rank and short set, with any legal assignment of that size
  pub any_accepted : (the_rank set : ℕ) → the_rank ≡ s.rank → set ≡ whole s.short → (side : ℕ) (rows : List ℕ) (A : Assignment) → Shows (members side) rows A → Legal M A → size M A ≡ s.rank
      → AcceptsClaim M the_rank (members side) rows (members set)
  any_accepted the_rank set er es side rows A shows legal many =
      let solved = h.solved in
      let set_is : members set ≡ short M = ap members es ∙ fun_ext solved.is_short in
      record {
        assignment = A;
        is_shown = shows;
        is_accepted = record {
          is_legal = legal;
          as_many = many ∙ sym er;
          columns = λ x e. (short_is_the_smallest M).0 x (sym (ap (λ (S : Set). S x) set_is) ∙ e);
          has_sum = ap (sum M) set_is ∙ (short_is_the_smallest M).1 ∙ sym solved.is_rank ∙ sym er;
        };
      }

  pub own_size : size M (own_assignment M s) ≡ s.rank
  own_size = #-ext M.n (placing (own_assignment M s)) (placed M) (λ x l. h.solved.places_it x) ∙ placed_has_the_rank M ∙ sym h.solved.is_rank

  -- its own assignment is the one that its side and rows show
  pub own_shown : M.n ≤ most_columns → M.b ≤ most_rows → Shows (members (whole s.constants)) s.rows (own_assignment M s)
  own_shown few few_rows = let v = h.solved in assignment_shown M (members (whole s.constants)) s.rows few few_rows h.row_count v.is_legal v.side_shown v.rows_shown v.past_rows

-- ---- the call about a claim, beside the layered call on the same model

module _ {due : ℕ} {M : Model} (c : Claim) (r : Acceptance) (call : RankCall due r.refusal (AcceptanceRefused r) (AcceptanceAnswered M c r)) where
  pub claim_accepted : r.accepted ≡ true → (due ≡ 0) × ClaimAccepted M c
  claim_accepted e = by_cases (ℕ_discrete due 0) (λ z. (z, (call.if_accepted z).0 e)) (λ nz. absurd (true≢false (sym e ∙ call.if_refused nz)))

  pub rank_accepted : r.accepted ≡ true → c.rank ≡ rank M
  rank_accepted e = accepted_is_the_rank M (claim_accepted e).1.is_accepted

  module _ (s : Answer) (answer : RankCall due s.refusal (Refused s) (Answered M s)) where
    pub reported_accepted : r.accepted ≡ true → (s.refusal ≡ 0) × (c.rank ≡ s.rank) × (members (whole s.short) ⊆ members (whole c.set))
    reported_accepted e =
        let w = claim_accepted e in
        let h = answer.if_accepted w.0 in
        (answer.is_refusal ∙ w.0, rank_accepted e ∙ sym h.solved.is_rank, λ x m. short_in_accepted M w.1.is_accepted x (sym (h.solved.is_short x) ∙ m))

    module _ (ok : s.refusal ≡ 0) where
      zero_due : due ≡ 0
      zero_due = sym answer.is_refusal ∙ ok

      -- with its rank and short set, and any legal assignment of that size
      pub any_claim_accepted : c.rank ≡ s.rank → whole c.set ≡ whole s.short → (A : Assignment) → Shows (members (whole c.constants)) c.rows A → Legal M A → size M A ≡ s.rank
          → (r.refusal ≡ 0) × (r.accepted ≡ true)
      any_claim_accepted er es A shows legal many =
          (call.is_refusal ∙ zero_due, (call.if_accepted zero_due).1 (any_accepted M s (answer.if_accepted zero_due) c.rank (whole c.set) er es (whole c.constants) c.rows A shows legal many))

      pub own_claim_accepted : M.n ≤ most_columns → M.b ≤ most_rows → c ≡ claim_of s → (r.refusal ≡ 0) × (r.accepted ≡ true)
      own_claim_accepted few few_rows e =
          let h = answer.if_accepted zero_due in
          any_claim_accepted (ap (λ (d : Claim). d.rank) e) (ap (λ (d : Claim). whole d.set) e) (own_assignment M s)
          (subst (λ (d : Claim). Shows (members (whole d.constants)) d.rows (own_assignment M s)) (sym e) (own_shown M s h few few_rows)) h.solved.is_legal (own_size M s h)
