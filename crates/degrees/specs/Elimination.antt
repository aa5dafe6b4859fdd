-- Rows are reduced at tight entries in a set, one after another; then the rows that touch the set are no more than its constant rank. Assumes nothing.
use Prim.Native.Nat.{◌+◌, ◌<◌, suc, zero, ℕ, ◌≤◌}
use Rattle.std.specs.Prelude.{◌&&◌, ◌↔◌, ◌≢◌, refl, ◌≡◌, eqb, ltb}
use Rattle.std.proofs.Math.Bool.{decide, decide_iff}
use Rattle.std.proofs.Math.Logic.{by_cases}
use Rattle.std.proofs.Common.{ap, sym, ◌∙◌, arith}
use Rattle.std.proofs.Math.Decide.{dec_lt, ℕ_discrete}
use borrow.Author.Tests.{eq-eqb, eqb-true, lt-ltb, ltb-true}
use Rattle.residue.specs.Fields.{Field, ring}
use Rattle.columns.specs.Columns.{least}
use Rattle.columns.specs.Words.Operations.{least_first, least_in}
use Rattle.counting.specs.Bools.{and_in, and_left, and_right, true?}
use Rattle.counting.specs.ChoiceLaws.{cond_false, cond_true}
use Rattle.counting.specs.Choices.{Part}
use Rattle.counting.specs.Counts.{Touching, set_other, set_same, touching_iff}
use Rattle.counting.specs.Injections.{inj_count}
use Rattle.counting.specs.Sets.{#, Set, Some, set, touching, ◌∈◌}
use Rattle.rank.specs.Layered.Rank.{constant_rank}
use Rattle.rank.proofs.Layered.Meaning.{constant_rank_le}
use Rattle.rank.specs.Linear.Kernels.{hits, hits_iff, same_indep, same_refl, same_sym, same_trans}
use Rattle.rank.specs.Linear.Tableaus.{Tableau, owned, owned_iff, owned_indep, pivot, pivot_other, pivot_same, pivot_tableau}
use Rattle.degrees.specs.Dynamics.{Dynamic}
use Rattle.exchange.specs.Reduction.{at_level, reduced, reduced_row}
use Rattle.degrees.specs.Levels.{Eliminated, Levelled, tight, tight_constants}
use Rattle.degrees.specs.TightEntries.{tight_at, tight_nonzero}
use Rattle.degrees.specs.Pivots.{Agree, agree_levelled, agree_same, agree_tableau, agree_tight, pivot_levelled, pivot_tight}

-- no column owns two rows
tableau_one : {K : Field} {a n : ℕ} {P : ℕ → ℕ → K.F} {o : ℕ → ℕ} → Tableau K a n P o → (h k : ℕ) → h < a → k < a → o h < n → o h ≡ o k → h ≡ k
tableau_one {K} {a} {n} {P} {o} t h k l m b e = by_cases (ℕ_discrete h k) (λ d. d) (λ nd. absurd (K.one_ne
    (sym (t.own k m (rw e at b)) ∙ ap (P k) (sym e) ∙ t.off h k l m b (λ d. nd (sym d)))))

module _ (X : Dynamic) (P₀ : ℕ → ℕ → X.K.F) (L z : ℕ → ℕ) (J : Set) where
  open X use {K, a, n, column_power}
  open K use {F, 𝟘}

  eliminated_none : Levelled X P₀ L z → Eliminated X L z J P₀ 0 P₀ (λ h. n)
  eliminated_none d = record {
    levelled = d;
    same = same_refl;
    tableau = record { own = λ h l lo. absurd (omega arith); off = λ h k l m lo. absurd (omega arith) };
    owners = λ h l lo. absurd (omega arith);
    none_free = λ h y lh ly lt. absurd (omega arith);
    later_free = λ h l. omega arith;
  }

  module _ (h : ℕ) (P : ℕ → ℕ → F) (o : ℕ → ℕ) (c : Eliminated X L z J P₀ h P o) where
    -- row h has no tight entry in J
    eliminated_skip : ((x : ℕ) → x < n → x ∈ J → tight_constants X P L z h x ≡ 𝟘) → Eliminated X L z J P₀ (suc h) P o
    eliminated_skip g = record {
      levelled = c.levelled;
      same = c.same;
      tableau = c.tableau;
      owners = c.owners;
      none_free = λ k y lk ly lt j f. by_cases (ℕ_discrete k h)
          (λ q. rw q (g y ly j))
          (λ nq. c.none_free k y lk ly (omega arith) j f);
      later_free = λ k l. c.later_free k (omega arith);
    }

    -- row h has a tight entry in column x of J: a pivot there
    module _ (lh : h < a) (x : ℕ) (lx : x < n) (j : x ∈ J) (nz : tight_constants X P L z h x ≢ 𝟘) where
      agree : Agree K a n (pivot K (tight_constants X P L z) h x) (tight_constants X (pivot K P h x) L z)
      agree = pivot_tight X P L z c.levelled h x lh lx nz

      -- a row that has no tight entry in column x keeps its tight entries
      kept : (k y : ℕ) → k < a → y < n → k ≢ h → tight_constants X P L z k x ≡ 𝟘 → tight_constants X (pivot K P h x) L z k y ≡ tight_constants X P L z k y
      kept k y lk ly ne e = sym (agree k y lk ly) ∙ rw (pivot_other K (tight_constants X P L z) h x k ne, e) (simp ring)

      eliminated_take : Eliminated X L z J P₀ (suc h) (pivot K P h x) (set o h x)
      eliminated_take = record {
        levelled = pivot_levelled X P L z c.levelled h x lh lx nz;
        same = same_trans c.same (same_trans (pivot_same (tight_constants X P L z) h x lh nz) (agree_same K a n _ _ agree));
        tableau = agree_tableau K a n _ _ (set o h x) agree (pivot_tableau c.tableau h x lh nz);
        owners = λ k lk lo. by_cases (ℕ_discrete k h)
            (λ q. rw (q, set_same) j)
            (λ nq. let q : set o h x k ≡ o k = set_other o h x k nq in rw q (c.owners k lk (rw q at lo)));
        none_free = λ k y lk ly lt i f.
            let nk : k ≢ h = λ q. omega (arith, ap (set o h x) q, set_same o h x) in
            let free : n ≤ o k = rw (set_other o h x k nk) at f in
            kept k y lk ly nk (c.none_free k x lk lx (omega arith) j free) ∙ c.none_free k y lk ly (omega arith) i free;
        later_free = λ k l. let nk : k ≢ h = λ q. omega arith in rw (set_other o h x k nk) (c.later_free k (omega arith));
      }

  -- The weights and levels by which the rows are reduced: on J a column's power and height, and elsewhere 0, which no height is
  pub record Marked (weight level : ℕ → ℕ) : Type 0 where
    pub inside : (x : ℕ) → x < n → x ∈ J → weight x ≡ column_power x + z x
    pub outside : (x : ℕ) → x < n → (x ∈ J → ⊥) → weight x ≡ 0
    pub levels : (h : ℕ) → h < a → level h ≡ L h
    pub positive : (x : ℕ) → x < n → 0 < z x

  module _ (weight level : ℕ → ℕ) (m : Marked weight level) where
    -- the entries that stand at their row's level are the tight ones in J
    at_level_tight : (P : ℕ → ℕ → F) → Levelled X P L z → (h x : ℕ) → h < a → x < n → x ∈ at_level K n weight level P h
        → (x ∈ J) × (tight_constants X P L z h x ≢ 𝟘)
    unfolding at_level
    at_level_tight P d h x lh lx e =
        let nz : P h x ≢ 𝟘 = (hits_iff K P h x).0 (and_left (hits K P h x) (eqb (weight x) (level h)) e) in
        let q : weight x ≡ level h = eqb-true (weight x) (level h) (and_right (hits K P h x) (eqb (weight x) (level h)) e) in
        elim (true? (J x)) [
          | yes j ↦ (j, λ t. nz (sym (tight_at X P L z h x (omega (arith, m.inside x lx j, m.levels h lh))) ∙ t))
          | no nj ↦ absurd (omega (arith, m.outside x lx nj, m.levels h lh, m.positive x lx, d.constant_le h x lh lx nz))
        ]

    tight_at_level : (P : ℕ → ℕ → F) (h x : ℕ) → h < a → x < n → x ∈ J → tight_constants X P L z h x ≢ 𝟘 → x ∈ at_level K n weight level P h
    unfolding at_level
    tight_at_level P h x lh lx j nz = let w = tight_nonzero X P L z h x nz in
        and_in ((hits_iff K P h x).1 w.1) (eq-eqb (weight x) (level h) (omega (arith, w.0, m.inside x lx j, m.levels h lh)))

    -- the rows below k, for every k up to a
    abbrev Elimination : ℕ → Type 0
    Elimination k = (o : ℕ → ℕ) × Eliminated X L z J P₀ k (reduced K n weight level P₀ k) o

    eliminate_next : (h : ℕ) → h < a → Elimination h → Elimination (suc h)
    unfolding reduced reduced_row
    eliminate_next h lh (o, c) =
        let P : ℕ → ℕ → F = reduced K n weight level P₀ h in
        let x : ℕ = least n (at_level K n weight level P h) in
        elim (true? (ltb x n)) [
          | yes t ↦
              let lx : x < n = ltb-true x n t in
              let w = at_level_tight P c.levelled h x lh lx (least_in n (at_level K n weight level P h) lx) in
              (set o h x, rw (cond_true (ltb x n) (pivot K P h x) P t) (eliminated_take h P o c lh x lx w.0 w.1))
          | no nt ↦ (
            o,
            rw (cond_false (ltb x n) (pivot K P h x) P nt) (eliminated_skip h P o c (λ y ly j.
                by_cases (K.decide (tight_constants X P L z h y) 𝟘) (λ e. e)
                (λ ne. absurd (nt (lt-ltb x n (omega (arith, least_first n (at_level K n weight level P h) y ly (tight_at_level P h y lh ly j ne)))))))),
          )
        ]

    pub eliminate : Levelled X P₀ L z → (k : ℕ) → k ≤ a → Elimination k
    unfolding reduced
    eliminate d zero l = (λ h. n, eliminated_none d)
    eliminate d (suc k) l = eliminate_next k (omega arith) (eliminate d k (omega arith))

  -- a table that agrees with the reduced one does as well
  pub eliminated_as : (P R : ℕ → ℕ → F) (o : ℕ → ℕ) (k : ℕ) → Agree K a n P R → Eliminated X L z J P₀ k P o → Eliminated X L z J P₀ k R o
  eliminated_as P R o k e c =
      let t : Agree K a n (tight_constants X P L z) (tight_constants X R L z) = agree_tight X P R L z e in
      record {
        levelled = agree_levelled X P R L z e c.levelled;
        same = same_trans c.same (agree_same K a n _ _ t);
        tableau = agree_tableau K a n _ _ o t c.tableau;
        owners = c.owners;
        none_free = λ h x lh lx lt j f. sym (t h x lh lx) ∙ c.none_free h x lh lx lt j f;
        later_free = c.later_free;
      }

  -- when all rows have been reduced
  module _ (P : ℕ → ℕ → F) (o : ℕ → ℕ) (c : Eliminated X L z J P₀ a P o) where
    -- the rows that touch J are the rows with an owner
    pub touching_owned : (h : ℕ) → h < a → (h ∈ touching n (hits K (tight_constants X P L z)) J) ↔ (o h < n)
    touching_owned h l = (
      λ e. let w : Touching n (hits K (tight_constants X P L z)) J h = (touching_iff n (hits K (tight_constants X P L z)) J h).0 e in
          by_cases (dec_lt (o h) n) (λ m. m)
          (λ nl. absurd ((hits_iff K (tight_constants X P L z) h w.0).0 w.2.1 (c.none_free h w.0 l w.1 l w.2.0 (omega arith)))),
      λ lo. (touching_iff n (hits K (tight_constants X P L z)) J h).1
          (o h, lo, (c.owners h l lo, (hits_iff K (tight_constants X P L z) h (o h)).1 (rw (c.tableau.own h l lo) K.one_ne))),
    )

    -- the columns that own a row
    owning : Set
    owning x = decide (dec_lt x n) && owned a o x

    owning_out : (x : ℕ) → x ∈ owning → (x < n) × (x ∈ owned a o)
    unfolding owning
    owning_out x e = ((decide_iff (dec_lt x n)).0 (and_left (decide (dec_lt x n)) (owned a o x) e), and_right (decide (dec_lt x n)) (owned a o x) e)

    owning_in : (h : ℕ) → h < a → o h < n → o h ∈ owning
    unfolding owning
    owning_in h l lo = and_in ((decide_iff (dec_lt (o h) n)).1 lo) ((owned_iff a o (o h)).1 (h, l, refl))

    owning_part : Part n J owning
    owning_part x e = let w : Some a (λ h. o h ≡ x) = (owned_iff a o x).0 (owning_out x e).1 in
        ((owning_out x e).0, rw w.2 at (c.owners w.0 w.1 (rw w.2 (owning_out x e).0)))

    pub constant_rows : # a (touching n (hits K (tight_constants X P L z)) J) ≤ constant_rank (tight X P₀ L z) J
    constant_rows = omega (
      arith,
      constant_rank_le (tight X P₀ L z) J owning owning_part
          (same_indep (same_sym c.same) (owned_indep c.tableau owning (λ x e. (owning_out x e).1))),
      inj_count a n (touching n (hits K (tight_constants X P L z)) J) owning (λ h x. o h ≡ x) (record {
        total = λ h lh e. let lo : o h < n = (touching_owned h lh).0 e in (o h, lo, (owning_in h lh lo, refl));
        one_one = λ h k x lh lk lx e e'. tableau_one c.tableau h k lh lk (omega arith) (e ∙ sym e');
      }),
    )
