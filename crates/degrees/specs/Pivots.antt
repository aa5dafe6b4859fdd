-- A pivot at a tight entry keeps every entry below its row's level, and is a pivot of the tight entries. Assumes nothing.
use Rattle.std.specs.Prelude.{◌+◌, ◌<◌, ℕ, ◌≢◌, ◌≡◌}
use Rattle.std.proofs.Math.Logic.{by_cases}
use Rattle.std.proofs.Math.Path.{ap}
use Rattle.std.proofs.Common.{sym, ◌∙◌, arith}
use Rattle.std.proofs.Math.Decide.{ℕ_discrete}
use Rattle.residue.specs.Fields.{Field, mul_zero, ring}
use Rattle.rank.specs.Linear.Independence.{dot}
use Rattle.rank.specs.Linear.Kernels.{Same, same_trans}
use Rattle.rank.specs.Linear.Sums.{Σ-cong}
use Rattle.rank.specs.Linear.Tableaus.{Tableau, pivot, pivot_other, pivot_row, pivot_same}
use Rattle.degrees.specs.Dynamics.{Dynamic}
use Rattle.degrees.specs.Levels.{Levelled, tight_constants}
use Rattle.degrees.specs.TightEntries.{tight_at, tight_nonzero, tight_off}

-- tables that agree on the rows below a and the columns below n
module _ (K : Field) (a n : ℕ) where
  open K use {F, ◌·◌}

  abbrev pub Agree : (ℕ → ℕ → F) → (ℕ → ℕ → F) → Type 0
  Agree P R = (h x : ℕ) → h < a → x < n → P h x ≡ R h x

  pub agree_same : (P R : ℕ → ℕ → F) → Agree P R → Same K a n P R
  unfolding dot
  agree_same P R e = record {
    kernel = λ c. (
      λ k h l. Σ-cong K n _ _ (λ x lx. ap (λ (v : F). v · c x) (sym (e h x l lx))) ∙ k h l,
      λ k h l. Σ-cong K n _ _ (λ x lx. ap (λ (v : F). v · c x) (e h x l lx)) ∙ k h l,
    );
  }

  pub agree_tableau : (P R : ℕ → ℕ → F) (o : ℕ → ℕ) → Agree P R → Tableau K a n P o → Tableau K a n R o
  agree_tableau P R o e t = record {
    own = λ h l b. sym (e h (o h) l b) ∙ t.own h l b;
    off = λ h k l m b ne. sym (e k (o h) m b) ∙ t.off h k l m b ne;
  }

-- tables that agree have the same tight entries, and no entry of the one stands above its row's level where none of the other does
module _ (X : Dynamic) (P R : ℕ → ℕ → X.K.F) (L z : ℕ → ℕ) (e : Agree X.K X.a X.n P R) where
  open X use {K, a, n, column_power}

  pub agree_tight : Agree K a n (tight_constants X P L z) (tight_constants X R L z)
  agree_tight h x lh lx = by_cases (ℕ_discrete (column_power x + z x) (L h))
      (λ q. tight_at X P L z h x q ∙ e h x lh lx ∙ sym (tight_at X R L z h x q))
      (λ nq. tight_off X P L z h x nq ∙ sym (tight_off X R L z h x nq))

  pub agree_levelled : Levelled X P L z → Levelled X R L z
  agree_levelled d = record {
    kernel = same_trans d.kernel (agree_same K a n P R e);
    constant_le = λ h x lh lx nz. d.constant_le h x lh lx (λ q. nz (sym (e h x lh lx) ∙ q));
    row_le = d.row_le;
  }

module _ (X : Dynamic) (P : ℕ → ℕ → X.K.F) (L z : ℕ → ℕ) (d : Levelled X P L z) (h x : ℕ) (lh : h < X.a) (lx : x < X.n)
    (nz : tight_constants X P L z h x ≢ X.K.𝟘) where
  open X use {K, a, n, column_power}
  open K use {𝟘}

  level : column_power x + z x ≡ L h
  level = (tight_nonzero X P L z h x nz).0

  entry : P h x ≢ 𝟘
  entry = (tight_nonzero X P L z h x nz).1

  -- an entry that is new comes from row h
  pub pivot_levelled : Levelled X (pivot K P h x) L z
  pivot_levelled = record {
    kernel = same_trans d.kernel (pivot_same P h x lh entry);
    constant_le = λ k j lk lj ne. by_cases (ℕ_discrete k h)
        (λ q. by_cases (K.decide (P h j) 𝟘)
        (λ p. absurd (ne (rw (q, pivot_row K P h x, p) (mul_zero K _))))
        (λ np. rw q (d.constant_le h j lh lj np)))
        (λ nq. by_cases (K.decide (P k j) 𝟘)
        (λ p. by_cases (K.decide (P h j) 𝟘)
        (λ p'. absurd (ne (rw (pivot_other K P h x k nq, p, p') (simp ring))))
        (λ np'. by_cases (K.decide (P k x) 𝟘)
        (λ p''. absurd (ne (rw (pivot_other K P h x k nq, p, p'') (simp ring))))
        (λ np''. omega (arith, level, d.constant_le h j lh lj np', d.constant_le k x lk lx np''))))
        (λ np. d.constant_le k j lk lj np));
    row_le = d.row_le;
  }

  pub pivot_tight : Agree K a n (pivot K (tight_constants X P L z) h x) (tight_constants X (pivot K P h x) L z)
  pivot_tight k j lk lj = by_cases (ℕ_discrete k h) (λ q. rw q here) (λ nq. other nq)
    where
      at_x : tight_constants X P L z h x ≡ P h x
      at_x = tight_at X P L z h x level

      here : pivot K (tight_constants X P L z) h x h j ≡ tight_constants X (pivot K P h x) L z h j
      here = by_cases (ℕ_discrete (column_power j + z j) (L h))
          (λ q. rw (tight_at X (pivot K P h x) L z h j q, pivot_row K P h x, pivot_row K (tight_constants X P L z) h x, at_x, tight_at X P L z h j q))
          (λ nq. rw (tight_off X (pivot K P h x) L z h j nq, pivot_row K (tight_constants X P L z) h x, tight_off X P L z h j nq) (mul_zero K _))

      other : k ≢ h → pivot K (tight_constants X P L z) h x k j ≡ tight_constants X (pivot K P h x) L z k j
      other ne = rw (pivot_other K (tight_constants X P L z) h x k ne, at_x) (by_cases (ℕ_discrete (column_power j + z j) (L k))
          (λ q. rw (tight_at X (pivot K P h x) L z k j q, pivot_other K P h x k ne, tight_at X P L z k j q)
          (by_cases (ℕ_discrete (column_power x + z x) (L k))
          (λ p. rw (tight_at X P L z k x p, tight_at X P L z h j (omega (arith, level))))
          (λ np. rw (tight_off X P L z k x np) (by_cases (K.decide (P k x) 𝟘)
          (λ u. rw u (simp ring))
          (λ nu. by_cases (K.decide (P h j) 𝟘)
          (λ v. rw v (simp ring))
          (λ nv. absurd (omega (arith, level, d.constant_le h j lh lj nv, d.constant_le k x lk lx nu))))))))
          (λ nq. rw (tight_off X (pivot K P h x) L z k j nq, tight_off X P L z k j nq) (by_cases (ℕ_discrete (column_power x + z x) (L k))
          (λ p. rw (tight_off X P L z h j (λ s. nq (omega (arith, level)))) (simp ring))
          (λ np. rw (tight_off X P L z k x np) (simp ring)))))
