-- Document 02, E12: what is proved of accepted claims. Assumes nothing.
use Rattle.std.specs.Prelude.{ℕ, ◌≤◌, ◌≡◌, refl, List, length}
use Rattle.std.proofs.Common.{arith}
use Rattle.limits.specs.Limits.{no_column}
use Rattle.counting.specs.Sets.{Set, ◌∈◌, ◌⊆◌}
use Rattle.counting.specs.Choices.{Part}
use Rattle.rank.specs.Layered.Model.{Model, Assignment, constants, Legal, size}
use Rattle.rank.specs.Layered.Rank.{sum, rank, short}
use Rattle.rank.proofs.Theorems.{rank_is_the_largest_legal_size, rank_is_the_least_sum, short_is_the_smallest}
use Rattle.claims.specs.Claim.{Names, Shows, Accepts, AcceptsClaim}
use Rattle.claims.proofs.ClaimLaws.{shown_once, legal_shown}

module _ (M : Model) where
  open M use {b, n, E}

  -- An accepted rank is the model's rank, whoever sent it.
  pub accepted_is_the_rank : {r : ℕ} {A : Assignment} {J : Set} → Accepts M r A J → r ≡ rank M
  accepted_is_the_rank {r} {A} {J} h = omega (arith, h.as_many, h.has_sum, (rank_is_the_largest_legal_size M).0 A h.is_legal, (rank_is_the_least_sum M).0 J)

  -- The column set need not be the smallest: any whose sum is the rank is accepted, with any legal assignment of that size.
  pub any_such_set_accepted : (A : Assignment) (J : Set) → Legal M A → size M A ≡ rank M → Part n E J → sum M J ≡ rank M → Accepts M (rank M) A J
  any_such_set_accepted A J h e p t = record { is_legal = h; as_many = e; columns = p; has_sum = t }

  -- The rank and the short set of the definitions are accepted, with any legal assignment of that size.
  pub ours_accepted : (A : Assignment) → Legal M A → size M A ≡ rank M → Accepts M (rank M) A (short M)
  ours_accepted A h e = any_such_set_accepted A (short M) h e (short_is_the_smallest M).0 (short_is_the_smallest M).1

  -- An accepted set has every short column.
  pub short_in_accepted : {r : ℕ} {A : Assignment} {J : Set} → Accepts M r A J → short M ⊆ J
  short_in_accepted {r} {A} {J} h = (short_is_the_smallest M).2 J h.columns (omega (arith, h.has_sum, accepted_is_the_rank h))

  -- What an accepted claim cannot name: a column at n or later,
  module _ {r : ℕ} {side : Set} {rows : List ℕ} {J : Set} (h : AcceptsClaim M r side rows J) where
    pub no_column_from_n_on : (x : ℕ) → n ≤ x → (x ∈ side → ⊥) × ((q : ℕ) → Names rows q x → ⊥) × (x ∈ J → ⊥)
    no_column_from_n_on x l =
        let A = h.assignment in
        let below = h.is_accepted.is_legal.offered in (
          λ o. omega (arith, (below x (rw ((h.is_shown.on_the_side x).1 o) refl)).0),
          λ q m. omega (arith, (below x (rw ((h.is_shown.on_rows x q).1 m) refl)).0),
          λ j. omega (arith, (h.is_accepted.columns x j).0),
        )

    -- a row at b or later,
    pub no_row_from_b_on : (q x : ℕ) → b ≤ q → Names rows q x → ⊥
    no_row_from_b_on q x l m = omega (arith, (h.is_accepted.is_legal.parameter x q ((h.is_shown.on_rows x q).1 m)).0)

    -- or one column twice: on the constant side and a row, or on two rows
    pub no_column_twice : (x q : ℕ) → Names rows q x → (x ∈ side → ⊥) × ((q' : ℕ) → Names rows q' x → q' ≡ q)
    no_column_twice x q m = let u = shown_once side rows h.is_shown in (u.one_side q x m, λ q' m'. u.one_row q' q x m' m)

  -- There is a claim for every legal assignment: its constant side, and as many rows as there is room for, show it.
  pub every_legal_assignment_is_shown : (A : Assignment) → Legal M A → n ≤ no_column → (k : ℕ) → b ≤ k → (rows : List ℕ) × (length rows ≡ k) × Shows (constants A) rows A
  every_legal_assignment_is_shown = legal_shown M
