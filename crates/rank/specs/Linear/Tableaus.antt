-- A tableau: rows that own unit columns. Pivots keep the kernel, owned columns are independent, and a column may take the place of one that it needs.
-- Assumes nothing.
use Rattle.std.specs.Prelude.{ℕ, ◌<◌, ◌+◌, Bool, true, ◌≢◌, ◌↔◌, ◌≡◌}
use Rattle.std.proofs.Math.Bool.{Bool-discrete, decide, decide_iff}
use Rattle.std.proofs.Math.Logic.{by_cases}
use Rattle.std.proofs.Common.{sym, ap, subst, ◌∙◌, arith}
use Rattle.std.proofs.Math.Decide.{ℕ_discrete}
use Rattle.residue.specs.Fields.{Field, ring, mul_zero, zero_mul, one_mul, unmul}
use Rattle.counting.specs.Sets.{Some, ◌⊆◌, set}
use Rattle.counting.specs.Counts.{set_other, set_same, some?}
use Rattle.rank.specs.Linear.Independence.{Indep, InKernel, dot}
use Rattle.rank.specs.Linear.Sums.{dot_one, dot_plus, dot_scale}
use Rattle.rank.specs.Linear.Kernels.{Same}

module _ (K : Field) (a n : ℕ) where
  open K use {F, 𝟘, 𝟙}

  -- base h < n: row h owns the column base h, where it has 1 and the other rows 0
  pub record Tableau (P : ℕ → ℕ → F) (base : ℕ → ℕ) : Type 0 where
    pub own : (h : ℕ) → h < a → base h < n → P h (base h) ≡ 𝟙
    pub off : (h k : ℕ) → h < a → k < a → base h < n → k ≢ h → P k (base h) ≡ 𝟘

-- row h scaled to have 1 in column x, and that column cleared in the other rows
module _ (K : Field) (P : ℕ → ℕ → K.F) (h x : ℕ) where
  open K use {F, 𝟘, 𝟙, ◌+◌, ◌·◌, neg, inv}

  unfoldable pub pivot : ℕ → ℕ → F
  pivot = set (λ k j. P k j + neg (P k x) · (inv (P h x) · P h j)) h (λ j. inv (P h x) · P h j)

  pub pivot_row : pivot h ≡ (λ j. inv (P h x) · P h j)
  unfolding pivot
  pivot_row = set_same _ h _

  pub pivot_other : (k : ℕ) → k ≢ h → pivot k ≡ (λ j. P k j + neg (P k x) · (inv (P h x) · P h j))
  unfolding pivot
  pivot_other k = set_other _ h _ k

  pivot_row_dot : (n : ℕ) (c : ℕ → F) → dot K n (pivot h) c ≡ inv (P h x) · dot K n (P h) c
  pivot_row_dot n c = rw pivot_row (dot_scale K n _ (P h) c)

  pivot_other_dot : (n : ℕ) (c : ℕ → F) (k : ℕ) → k ≢ h → dot K n (pivot k) c ≡ dot K n (P k) c + neg (P k x) · (inv (P h x) · dot K n (P h) c)
  pivot_other_dot n c k ne = rw (pivot_other k ne, dot_plus K n (P k) (neg (P k x)) (λ j. inv (P h x) · P h j) c, dot_scale K n (inv (P h x)) (P h) c)

-- the columns that a row of base owns
unfoldable pub owned : ℕ → (ℕ → ℕ) → ℕ → Bool
owned a base j = decide (some? a (λ h. base h ≡ j) (λ h. ℕ_discrete (base h) j))

pub owned_iff : (a : ℕ) (base : ℕ → ℕ) (j : ℕ) → (owned a base j ≡ true) ↔ Some a (λ h. base h ≡ j)
unfolding owned
owned_iff a base j = decide_iff (some? a (λ h. base h ≡ j) (λ h. ℕ_discrete (base h) j))

pub owner : (a : ℕ) (base : ℕ → ℕ) (j : ℕ) → owned a base j ≡ true → Some a (λ h. base h ≡ j)
owner a base j = (owned_iff a base j).0

module _ {K : Field} {a n : ℕ} where
  open K use {F, 𝟘, 𝟙, ◌+◌, ◌·◌, neg, inv}

  pub pivot_same : (P : ℕ → ℕ → F) (h x : ℕ) → h < a → P h x ≢ 𝟘 → Same K a n P (pivot K P h x)
  pivot_same P h x l nz = record { kernel = λ c. (to c, from c) }
    where
      to : (c : ℕ → F) → InKernel K a n P c → InKernel K a n (pivot K P h x) c
      to c z i m = by_cases (ℕ_discrete i h)
          (λ e. rw (e, pivot_row_dot, z h l) (mul_zero K _))
          (λ ne. rw (pivot_other_dot K P h x n c i ne, z h l, z i m) (simp ring))

      from : (c : ℕ → F) → InKernel K a n (pivot K P h x) c → InKernel K a n P c
      from c z i m =
          let p : F = P h x in let d : F = dot K n (P h) c in
          let zh : d ≡ 𝟘 = cc (z h l, pivot_row_dot K P h x n c, K.mul_assoc p (inv p) d, K.mul_inv p nz, one_mul K d, mul_zero K p) in
          by_cases (ℕ_discrete i h) (λ e. rw e zh) (λ ne. simp (zh, ring) at (sym (pivot_other_dot K P h x n c i ne) ∙ z i m))

  module _ {P : ℕ → ℕ → F} {base : ℕ → ℕ} (t : Tableau K a n P base) (S : ℕ → Bool) (o : S ⊆ owned a base) where
    -- an owned column is zero in the rows that do not own it
    pub away : (h j : ℕ) → h < a → j < n → S j ≡ true → base h ≢ j → P h j ≡ 𝟘
    away h j l m s ne = let k = owner a base j (o j s) in
        subst (λ y. P h y ≡ 𝟘) k.2 (t.off k.0 h k.1 l (omega (arith, k.2)) (λ e. ne (ap base e ∙ k.2)))

    -- of coefficients in S and at j, row h sees that at j alone
    pub alone : (h j : ℕ) → h < a → j < n → (c : ℕ → F) → ((i : ℕ) → i ≢ j → S i ≢ true → c i ≡ 𝟘)
        → ((i : ℕ) → i ≢ j → S i ≡ true → base h ≢ i) → dot K n (P h) c ≡ P h j · c j
    alone h j l m c s ne = dot_one K n (P h) c j m (λ i q d. by_cases (Bool-discrete (S i) true)
        (λ y. rw (away h i l q y (ne i d y)) (zero_mul K (c i))) (λ ny. rw (s i d ny) (mul_zero K (P h i))))

    pub owned_indep : Indep K a n P S
    owned_indep = record {
      only_zero = λ c s z j l. by_cases (Bool-discrete (S j) true) (λ y.
          let k = owner a base j (o j y) in
          let one : P k.0 j ≡ 𝟙 = subst (λ i. P k.0 i ≡ 𝟙) k.2 (t.own k.0 k.1 (omega (arith, k.2))) in
          cc (
            one,
            one_mul K (c j),
            z k.0 k.1,
            alone k.0 j k.1 l c (λ i d. s i) (λ i d y e. d (sym e ∙ k.2)),
          )) (s j);
    }

    pub exchange_indep : (h x : ℕ) → h < a → x < n → P h x ≢ 𝟘 → S (base h) ≢ true → Indep K a n P (set S x true)
    exchange_indep h x l m nz nb = record {
      only_zero = λ c s z.
          let out : (i : ℕ) → i ≢ x → S i ≢ true → c i ≡ 𝟘 = λ i d ni. s i (rw (set_other S x true i) ni) in
          let zx : c x ≡ 𝟘 = unmul K (P h x) (c x) nz (sym (alone h x l m c out (λ i d y e. nb (rw e y))) ∙ z h l) in
          owned_indep.only_zero c (λ j nj. by_cases (ℕ_discrete j x) (λ e. rw e zx) (λ ne. out j ne nj)) z;
    }

  pub pivot_tableau : {P : ℕ → ℕ → F} {base : ℕ → ℕ} → Tableau K a n P base → (h x : ℕ) → h < a → P h x ≢ 𝟘
      → Tableau K a n (pivot K P h x) (set base h x)
  pivot_tableau {P} {base} t h x l nz =
      let unit : inv (P h x) · P h x ≡ 𝟙 = K.mul_comm _ _ ∙ K.mul_inv (P h x) nz in record {
        own = λ k lk b. by_cases (ℕ_discrete k h)
            (λ e. rw (e, set_same, pivot_row) unit)
            (λ ne. let bk : base k < n = rw (set_other base h x k ne) at b in
            rw (set_other base h x k ne, pivot_other K P h x k ne) (simp (t.own k lk bk, t.off k h lk l bk (λ e. ne (sym e)), ring)));
        off = λ k i lk li b d. by_cases (ℕ_discrete k h)
            (λ e. rw (e, set_same, pivot_other K P h x i (λ q. d (q ∙ sym e)), unit) (simp ring))
            (λ ne. let bk : base k < n = rw (set_other base h x k ne) at b in
            let z : P h (base k) ≡ 𝟘 = t.off k h lk l bk (λ e. ne (sym e)) in
            rw (set_other base h x k ne) (by_cases (ℕ_discrete i h)
            (λ q. rw (q, pivot_row, z) (mul_zero K _))
            (λ nq. rw (pivot_other K P h x i nq) (simp (z, t.off k i lk li bk d, ring)))));
      }

  -- fewer owners
  pub tableau_less : {P : ℕ → ℕ → K.F} {o : ℕ → ℕ} (o' : ℕ → ℕ) → ((h : ℕ) → h < a → o' h < n → o' h ≡ o h) → Tableau K a n P o → Tableau K a n P o'
  tableau_less {P} {o} o' e t = record {
    own = λ h l b. let d : o' h ≡ o h = e h l b in rw d (t.own h l (rw d at b));
    off = λ h k l m b ne. let d : o' h ≡ o h = e h l b in rw d (t.off h k l m (rw d at b) ne);
  }

-- a column that is zero in the pivot's row stays
pub pivot_keeps : (K : Field) (P : ℕ → ℕ → K.F) (h x z : ℕ) → P h z ≡ K.𝟘 → (r : ℕ) → pivot K P h x r z ≡ P r z
pivot_keeps K P h x z e r = elim (ℕ_discrete r h) [
  | yes d ↦ rw (d, pivot_row K P h x, e) (mul_zero K _)
  | no nd ↦ rw (pivot_other K P h x r nd, e) (simp ring)
]
