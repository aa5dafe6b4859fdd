-- Multipliers read off a tableau that owns the held columns, and states that have such a tableau. Assumes nothing.
use Rattle.std.specs.Prelude.{ℕ, ◌≤◌, ◌<◌, ◌≡◌, true, ◌≢◌, ◌⊎◌}
use Rattle.std.proofs.Math.Path.{refl, ap}
use Rattle.std.proofs.Common.{sym, ◌∙◌, inl, inr, arith}
use Rattle.std.proofs.Math.Logic.{by_cases}
use Rattle.std.proofs.Math.Decide.{ℕ_discrete, dec_le, dec_lt}
use Rattle.residue.specs.Fields.{Field, mul_zero, zero_mul, one_mul}
use Rattle.counting.specs.Bools.{true?}
use Rattle.counting.specs.Sets.{Set, ◌∈◌, ◌⊆◌, Some, set}
use Rattle.counting.specs.Counts.{some?, both?, not?}
use Rattle.rank.specs.Linear.Independence.{In, Indep}
use Rattle.rank.specs.Linear.Sums.{dot_zero}
use Rattle.rank.specs.Linear.Kernels.{Same, same_indep, same_sym}
use Rattle.rank.specs.Linear.Tableaus.{Tableau, owned, owned_iff, away, alone, owned_indep, exchange_indep}
use Rattle.rank.specs.Graph.States.{Placed, placed_of, placed_iff}
use Rattle.rank.specs.Layered.Model.{Model, is_placed}
use Rattle.rank.specs.Layered.Seating.{Good}
use Rattle.rank.proofs.Layered.Augmenting.{StateOf}
use Rattle.rank.proofs.Layered.Realise.{realise}
use Rattle.dependence.specs.Constants.{constants_only}
use Rattle.dependence.specs.ConstantSide.{all_constant, all_constant_places, all_constant_legal}
use Rattle.dependence.specs.Multipliers.{Depends}
use Rattle.dependence.specs.MultiplierLaws.{depends_same}

-- a tableau that owns the columns held in H: the multipliers of x are its entries in their rows
module _ {K : Field} {a n : ℕ} (P : ℕ → ℕ → K.F) (base : ℕ → ℕ) (t : Tableau K a n P base) (H : Set) (own : H ⊆ owned a base)
    (below : (j : ℕ) → j ∈ H → j < n) (x : ℕ) where
  open K use {F, 𝟘, 𝟙}

  -- no column owns two rows
  one_row : (h k : ℕ) → h < a → k < a → base h < n → base h ≡ base k → h ≡ k
  one_row h k l m b e = by_cases (ℕ_discrete h k) (λ d. d) (λ nd. absurd (K.one_ne
      (sym (t.own k m (rw e at b)) ∙ ap (P k) (sym e) ∙ t.off h k l m b (λ d. nd (sym d)))))

  entry_at : (j : ℕ) → Dec (Some a (λ h. (base h ≡ j) × (j ∈ H))) → F
  entry_at j (yes w) = P w.0 x
  entry_at j (no nw) = 𝟘

  -- the entry of column x in the row of each held column, and 0 elsewhere
  pub entries : ℕ → F
  entries j = entry_at j (some? a (λ h. (base h ≡ j) × (j ∈ H)) (λ h. both? (ℕ_discrete (base h) j) (true? (H j))))

  entries_held : In K H entries
  unfolding entries entry_at
  entries_held j nj = elim (some? a (λ h. (base h ≡ j) × (j ∈ H)) (λ h. both? (ℕ_discrete (base h) j) (true? (H j)))) as (λ d. entry_at j d ≡ 𝟘) [
    | yes w ↦ absurd (nj w.2.1)
    | no nw ↦ refl
  ]

  pub entries_at : (h : ℕ) → h < a → base h ∈ H → entries (base h) ≡ P h x
  unfolding entries entry_at
  entries_at h l e = elim (some? a (λ k. (base k ≡ base h) × (base h ∈ H)) (λ k. both? (ℕ_discrete (base k) (base h)) (true? (H (base h)))))
      as (λ d. entry_at (base h) d ≡ P h x) [
        | yes w ↦ ap (λ (k : ℕ). P k x) (one_row w.0 h w.1 l (rw w.2.0 (below (base h) e)) w.2.0)
        | no nw ↦ absurd (nw (h, l, (refl, e)))
      ]

  pub entries_depend : ((h : ℕ) → h < a → (base h ∈ H → ⊥) → P h x ≡ 𝟘) → Depends K a n P H x entries
  entries_depend z = record {
    only_held = entries_held;
    sums = λ h l. by_cases (true? (H (base h)))
        (λ e. alone t H own h (base h) l (below (base h) e) entries (λ i d ni. entries_held i ni) (λ i d y f. d (sym f))
        ∙ rw (t.own h l (below (base h) e)) (one_mul K (entries (base h))) ∙ entries_at h l e)
        (λ ne. dot_zero K n (P h) entries (λ j lj. by_cases (true? (H j))
        (λ y. rw (away t H own h j l lj y (λ f. ne (rw f y))) (zero_mul K (entries j)))
        (λ ny. rw (entries_held j ny) (mul_zero K (P h j)))) ∙ sym (z h l ne));
  }

-- a tableau P with the kernel of the constants Q owns the columns held in H and no others
module _ {K : Field} {a n : ℕ} (Q P : ℕ → ℕ → K.F) (base : ℕ → ℕ) (same : Same K a n Q P) (t : Tableau K a n P base) (H : Set)
    (own : H ⊆ owned a base) where
  open K use {F, 𝟘}

  pub owned_columns_independent : Indep K a n Q H
  owned_columns_independent = same_indep (same_sym same) (owned_indep t H own)

  module _ (held : (h : ℕ) → h < a → base h < n → base h ∈ H) (below : (j : ℕ) → j ∈ H → j < n) (x : ℕ) (l : x < n) where
    -- a column that is 0 in every free row depends on them, and its multipliers are its entries in their rows
    pub tableau_shows_multipliers : ((h : ℕ) → h < a → n ≤ base h → P h x ≡ 𝟘)
        → (c : ℕ → F) × Depends K a n Q H x c × ((h : ℕ) → h < a → base h ∈ H → c (base h) ≡ P h x)
    tableau_shows_multipliers z = (
      entries P base t H own below x,
      depends_same same H x (entries P base t H own below x) l (entries_depend P base t H own below x (λ h lh nh. elim (dec_lt (base h) n) [
        | yes lo ↦ absurd (nh (held h lh lo))
        | no nlo ↦ z h lh (omega arith)
      ])),
      entries_at P base t H own below x,
    )

    -- a column that is not 0 in some free row is not held, and independent of them
    pub tableau_shows_independence : (h : ℕ) → h < a → n ≤ base h → P h x ≢ 𝟘 → (x ∈ H → ⊥) × Indep K a n Q (set H x true)
    tableau_shows_independence h lh f nz = (
      λ e. nz (away t H own h x lh l e (omega arith)),
      same_indep (same_sym same) (exchange_indep t H own h x lh l nz (λ e. omega (arith, below (base h) e))),
    )

-- a state of the constants alone that places exactly the columns held in H owns them and no others
module _ (M : Model) (H : Set) (s : StateOf (constants_only M H)) (places : (y : ℕ) → y < M.n → placed_of s y ≡ H y) where
  open M use {a, n}

  pub state_owns : ((j : ℕ) → j ∈ H → j < n) → H ⊆ owned a s.owner
  state_owns below y e = let w : Placed s y = (placed_iff s y).0 (places y (below y e) ∙ e) in (owned_iff a s.owner y).1 (w.0, omega (arith, w.1), w.2)

  pub state_holds : (h : ℕ) → h < a → s.owner h < n → s.owner h ∈ H
  state_holds h l lo = sym (places (s.owner h) lo) ∙ (placed_iff s (s.owner h)).1 (h, omega arith, refl)

module _ (M : Model) (H : Set) (below : (j : ℕ) → j ∈ H → j < M.n) (i : Indep M.K M.a M.n M.Q H) (x : ℕ) (l : x < M.n) where
  open M use {K, a, n, Q}
  open K use {F, 𝟘}

  -- a column depends on independent held columns, or it is not held and independent of them
  pub depends_or_independent : ((c : ℕ → F) × Depends K a n Q H x c) ⊎ ((x ∈ H → ⊥) × Indep K a n Q (set H x true))
  depends_or_independent = elim (some? a (λ h. (n ≤ base h) × (P h x ≡ 𝟘 → ⊥)) (λ h. both? (dec_le n (base h)) (not? (K.decide (P h x) 𝟘)))) [
    | yes w ↦ inr (tableau_shows_independence Q P base r.1.kernel r.1.tableau H own held below x l w.0 w.1 w.2.0 w.2.1)
    | no none ↦
        let m : (c : ℕ → F) × Depends K a n Q H x c × ((h : ℕ) → h < a → base h ∈ H → c (base h) ≡ P h x)
        = tableau_shows_multipliers Q P base r.1.kernel r.1.tableau H own held below x l
        (λ h lh f. elim (K.decide (P h x) 𝟘) [ yes e ↦ e | no ne ↦ absurd (none (h, lh, (f, ne))) ]) in
        inl (m.0, m.1)
  ]
    where
      r : (s : StateOf (constants_only M H)) × Good (constants_only M H) s × ((y : ℕ) → y < n → placed_of s y ≡ H y)
      r =
          let w : (s : StateOf (constants_only M H)) × Good (constants_only M H) s × ((y : ℕ) → y < n → placed_of s y ≡ is_placed (all_constant H y))
          = realise (constants_only M H) (all_constant H) (all_constant_legal (constants_only M H) H (λ y e. (below y e, e)) i) in
          (w.0, w.1, λ y ly. w.2 y ly ∙ all_constant_places H y)

      P : ℕ → ℕ → F
      P = r.1.P

      base : ℕ → ℕ
      base = r.0.owner

      own : H ⊆ owned a base
      own = state_owns M H r.0 r.2 below

      held : (h : ℕ) → h < a → base h < n → base h ∈ H
      held = state_holds M H r.0 r.2
