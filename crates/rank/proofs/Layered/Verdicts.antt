-- What the verdict says of the legal assignments that place all columns: whether there are any, and whether they leave an equation over. Assumes nothing.
use Rattle.std.specs.Prelude.{ℕ, ◌+◌, ◌≤◌, ◌<◌, ◌≡◌, refl, ◌↔◌, true}
use Rattle.std.proofs.Common.{sym, ◌∙◌, ap, inl, inr, arith}
use Rattle.std.proofs.Math.Decide.{dec_lt}
use Rattle.counting.specs.Bools.{and_in, and_left, in_not, true?}
use Rattle.counting.specs.Sets.{#, Set, Some, ◌∈◌, ◌∩◌, touching, ∁}
use Rattle.counting.specs.Counts.{#-all, #-le, #-split, not?, some?}
use Rattle.counting.specs.Injections.{Injects, inj_count, inj_miss, inj_onto, #-mono, #-strict}
use Rattle.rank.specs.Linear.Kernels.{hits, indep_count}
use Rattle.rank.specs.VerdictLaws.{number_0_iff, number_1_iff, number_2_iff}
use Rattle.rank.specs.Layered.Model.{Assignment, Legal, Model, constants, is_constant, is_placed, placing, row, size}
use Rattle.rank.specs.Layered.Rank.{rank, verdict}
use Rattle.rank.specs.Layered.RowUse.{LeavesOver, PlacesAll, UsesAll}
use Rattle.rank.proofs.Layered.Meaning.{row?}
use Rattle.rank.proofs.Layered.Restricting.{constant_placed, row_part_injects}
use Rattle.rank.proofs.Layered.Duality.{rank_reached, size_le_rank}

module _ (M : Model) where
  open M use {K, a, b, n, Q, E}

  -- ---- a legal assignment and the rows

  module _ (A : Assignment) (h : Legal M A) where
    -- the columns on rows
    abbrev on_rows : Set
    on_rows = ∁ (constants A) ∩ placing A

    both_sides : size M A ≡ # n (constants A) + # n on_rows
    both_sides = omega (
      arith,
      #-split n (constants A) (placing A),
      #-mono n (constants A) (constants A ∩ placing A) (λ x l e. and_in e (constant_placed (A x) e)),
      #-mono n (constants A ∩ placing A) (constants A) (λ x l e. and_left (constants A x) (placing A x) e),
    )

    constants_most : # n (constants A) ≤ a
    constants_most = omega (arith, indep_count {P = Q} {S = constants A} {T = constants A} h.independent (λ x e. e), #-le a (touching n (hits K Q) (constants A)))

    -- each column on a row has a row of its own below b
    row_of : Injects n on_rows b (λ r. true) (λ x r. A x ≡ row r)
    row_of = let own = row_part_injects M A h (λ x. true) in record { total = λ x l e. let w = own.total x l e in (w.0, w.1, (refl, w.2.1)); one_one = own.one_one }

    all_rows : # b (λ r. true) ≡ b
    all_rows = #-all b (λ r. true) (λ r l. refl)

    rows_most : # n on_rows ≤ b
    rows_most = omega (arith, inj_count n b on_rows (λ r. true) (λ x r. A x ≡ row r) row_of, all_rows)

    -- a column on row r
    column_on : (x r : ℕ) → A x ≡ row r → (x < n) × (x ∈ on_rows)
    column_on x r e = ((h.offered x (ap is_placed e)).0, and_in (in_not (constants A x) (ap is_constant e)) (ap is_placed e))

    -- where every row is used, as many columns are on rows
    used_count : ((r : ℕ) → r < b → Some n (λ x. A x ≡ row r)) → b ≤ # n on_rows
    used_count u = omega (
      arith,
      all_rows,
      inj_count b n (λ r. true) on_rows (λ r x. A x ≡ row r) (record {
        total = λ r l e. let w = u r l in (w.0, w.1, ((column_on w.0 r w.2).1, w.2));
        one_one = λ r q x l l' lx e e'. let same : row r ≡ row q = sym e ∙ e' in cc;
      }),
    )

    pub size_le_rows : size M A ≤ a + b
    size_le_rows = omega (arith, both_sides, constants_most, rows_most)

    -- it leaves no equation over exactly where it has as many columns as there are rows,
    pub uses_all_iff : UsesAll M A ↔ (size M A ≡ a + b)
    uses_all_iff = (
      λ u. omega (arith, both_sides, rows_most, u.constant_rows, used_count u.parameter_rows),
      λ e. record {
        constant_rows = omega (arith, both_sides, constants_most, rows_most);
        parameter_rows = λ r l.
            let w = inj_onto n b on_rows (λ r. true) (λ x r. A x ≡ row r) row_of (λ x r. row? (A x) r) (omega (arith, both_sides, constants_most, all_rows)) r l refl in
            (w.0, w.1, w.2.1);
      },
    )

    -- and leaves one over exactly where it has fewer
    pub leaves_over_iff : LeavesOver M A ↔ (size M A < a + b)
    leaves_over_iff = (
      λ u. elim u [
        | inl l ↦ omega (arith, both_sides, rows_most)
        | inr w ↦ omega (arith, both_sides, constants_most, all_rows, inj_miss n b on_rows (λ r. true) (λ x r. A x ≡ row r) row_of w.0 w.1 refl (λ x l e d. w.2 x d))
      ],
      λ l. elim (dec_lt (# n (constants A)) a) [
        | yes k ↦ inl k
        | no nk ↦ elim (some? b (λ r. Some n (λ x. A x ≡ row r) → ⊥) (λ r. not? (some? n (λ x. A x ≡ row r) (λ x. row? (A x) r)))) [
          | yes w ↦ inr (w.0, w.1, λ x e. w.2 (x, (column_on x w.0 e).0, e))
          | no nw ↦ absurd (omega (arith, both_sides, used_count (λ r lr. elim (some? n (λ x. A x ≡ row r) (λ x. row? (A x) r)) [ yes u ↦ u | no nu ↦ absurd (nw (r, lr, nu)) ])))
        ]
      ],
    )

    -- it places all columns exactly where it has as many as are offered
    size_le_columns : size M A ≤ # n E
    size_le_columns = #-mono n (placing A) E (λ x l e. (h.offered x e).1)

    pub places_all_iff : PlacesAll M A ↔ (size M A ≡ # n E)
    places_all_iff = (
      λ p. omega (arith, size_le_columns, #-mono n E (placing A) (λ x l o. p x l o)),
      λ e x l o. elim (true? (placing A x)) [
        | yes p ↦ p
        | no np ↦ absurd (omega (arith, #-strict n (placing A) E (λ x l e. (h.offered x e).1) x l o np))
      ],
    )

  -- ---- the rank and the rows

  pub rank_le_rows : rank M ≤ a + b
  rank_le_rows = let w : (A : Assignment) × Legal M A × (size M A ≡ rank M) = rank_reached M in omega (arith, w.2, size_le_rows w.0 w.1)

  pub rank_le_columns : rank M ≤ # n E
  rank_le_columns = let w : (A : Assignment) × Legal M A × (size M A ≡ rank M) = rank_reached M in omega (arith, w.2, size_le_columns w.0 w.1)

  -- some legal assignment places all columns where the rank is their number
  all_placed : rank M ≡ # n E → (A : Assignment) × Legal M A × PlacesAll M A
  all_placed e = let w : (A : Assignment) × Legal M A × (size M A ≡ rank M) = rank_reached M in (w.0, w.1, (places_all_iff w.0 w.1).1 (w.2 ∙ e))

  -- and the rank is their number where one does
  all_columns : (A : Assignment) → Legal M A → PlacesAll M A → rank M ≡ # n E
  all_columns A h p = omega (arith, rank_le_columns, size_le_rank M A h, (places_all_iff A h).0 p)

  -- ---- the verdict

  pub verdict_1_iff : (verdict M ≡ 1) ↔ ((rank M ≡ # n E) × (rank M ≡ a + b))
  unfolding verdict
  verdict_1_iff = number_1_iff (rank M) (# n E) (a + b)

  pub verdict_2_iff : (verdict M ≡ 2) ↔ ((rank M ≡ # n E) × (# n E < a + b))
  unfolding verdict
  verdict_2_iff = number_2_iff (rank M) (# n E) (a + b)

  pub verdict_0_iff : (verdict M ≡ 0) ↔ (rank M < # n E)
  unfolding verdict
  verdict_0_iff = number_0_iff (rank M) (# n E) (a + b) rank_le_columns rank_le_rows

  -- 1: every legal assignment that places all columns leaves no equation over
  pub determined_uses_all : verdict M ≡ 1 → (A : Assignment) → Legal M A → PlacesAll M A → UsesAll M A
  determined_uses_all v A h p = let w = verdict_1_iff.0 v in (uses_all_iff A h).1 ((places_all_iff A h).0 p ∙ sym w.0 ∙ w.1)

  -- 2: every one leaves an equation over
  pub surplus_leaves_over : verdict M ≡ 2 → (A : Assignment) → Legal M A → PlacesAll M A → LeavesOver M A
  surplus_leaves_over v A h p = let w = verdict_2_iff.0 v in (leaves_over_iff A h).1 (omega (arith, (places_all_iff A h).0 p))

  -- the verdict by legal assignments alone: it is 0 where none places all columns, 1 where one places all and leaves no equation over, 2 where one
  -- places all and leaves an equation over
  pub open_iff : (verdict M ≡ 0) ↔ ((A : Assignment) → Legal M A → PlacesAll M A → ⊥)
  open_iff = (
    λ v A h p. omega (arith, verdict_0_iff.0 v, all_columns A h p),
    λ none. verdict_0_iff.1 (elim (dec_lt (rank M) (# n E)) [
      | yes l ↦ l
      | no nl ↦ let w = all_placed (omega (arith, rank_le_columns)) in absurd (none w.0 w.1 w.2)
    ]),
  )

  pub determined_iff : (verdict M ≡ 1) ↔ ((A : Assignment) × Legal M A × PlacesAll M A × UsesAll M A)
  determined_iff = (
    λ v. let w = all_placed (verdict_1_iff.0 v).0 in (w.0, w.1, w.2, determined_uses_all v w.0 w.1 w.2),
    λ w. let e = all_columns w.0 w.1 w.2 in
        verdict_1_iff.1 (e, e ∙ sym ((places_all_iff w.0 w.1).0 w.2) ∙ (uses_all_iff w.0 w.1).0 w.3),
  )

  pub surplus_iff : (verdict M ≡ 2) ↔ ((A : Assignment) × Legal M A × PlacesAll M A × LeavesOver M A)
  surplus_iff = (
    λ v. let w = all_placed (verdict_2_iff.0 v).0 in (w.0, w.1, w.2, surplus_leaves_over v w.0 w.1 w.2),
    λ w. verdict_2_iff.1 (all_columns w.0 w.1 w.2, omega (arith, (places_all_iff w.0 w.1).0 w.2, (leaves_over_iff w.0 w.1).0 w.3)),
  )

  -- with no column offered the model is determined where it has no rows, and surplus where it has some
  pub none_offered : # n E ≡ 0 → ((a + b ≡ 0) → verdict M ≡ 1) × ((0 < a + b) → verdict M ≡ 2)
  none_offered e = (λ z. verdict_1_iff.1 (omega (arith, rank_le_columns), omega (arith, rank_le_columns)), λ l. verdict_2_iff.1 (omega (arith, rank_le_columns), omega arith))
