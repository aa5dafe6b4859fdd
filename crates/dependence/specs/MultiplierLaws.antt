-- Multipliers over any field: they are known by the kernel of the constants. Assumes nothing.
use Rattle.std.specs.Prelude.{ℕ, ◌<◌, ◌≡◌, true, ◌≢◌}
use Rattle.std.proofs.Math.Path.{refl, ap}
use Rattle.std.proofs.Common.{sym, ◌∙◌}
use Rattle.std.proofs.Math.Logic.{by_cases}
use Rattle.std.proofs.Math.Decide.{ℕ_discrete}
use Rattle.residue.specs.Fields.{Field, ring, mul_zero, one_mul, unadd}
use Rattle.counting.specs.Sets.{Set, ◌∈◌, set}
use Rattle.counting.specs.Counts.{set_same, set_other}
use Rattle.rank.specs.Linear.Independence.{dot, In, InKernel, Indep}
use Rattle.rank.specs.Linear.Sums.{Σ-cong, dot_zero, dot_unit, dot_mix}
use Rattle.rank.specs.Linear.Kernels.{Same}
use Rattle.dependence.specs.Multipliers.{Depends}

module _ (K : Field) where
  open K use {F, 𝟘, 𝟙, ◌+◌, ◌·◌, neg}

  -- the coefficients 1 at x and 0 elsewhere
  pub unit : ℕ → ℕ → F
  unit x = set (λ j. 𝟘) x 𝟙

  pub unit_at : (x : ℕ) → unit x x ≡ 𝟙
  unfolding unit
  unit_at x = set_same (λ k. 𝟘) x 𝟙

  pub unit_other : (x j : ℕ) → j ≢ x → unit x j ≡ 𝟘
  unfolding unit
  unit_other x j ne = set_other (λ k. 𝟘) x 𝟙 j ne

  -- rows that agree
  dot_rows : (n : ℕ) (r t c : ℕ → F) → ((j : ℕ) → j < n → r j ≡ t j) → dot K n r c ≡ dot K n t c
  unfolding dot
  dot_rows n r t c e = Σ-cong K n _ _ (λ j l. ap (λ z. z · c j) (e j l))

  -- c less d
  less : (ℕ → F) → (ℕ → F) → ℕ → F
  less c d j = 𝟙 · c j + neg 𝟙 · d j

  dot_at : (n : ℕ) (r : ℕ → F) (x : ℕ) → x < n → dot K n r (unit x) ≡ r x
  unfolding unit
  dot_at n r x l = dot_unit K n r x 𝟙 l ∙ K.mul_one (r x)

  dot_less : (n : ℕ) (r c d : ℕ → F) → dot K n r (less c d) ≡ dot K n r c + neg 𝟙 · dot K n r d
  unfolding less
  dot_less n r c d = dot_mix K n r 𝟙 (neg 𝟙) c d ∙ rw (one_mul K (dot K n r c)) refl

  -- a difference is zero exactly where both are equal
  equal : (x y : F) → x + neg 𝟙 · y ≡ 𝟘 → x ≡ y
  equal x y e = unadd K (neg 𝟙 · y) x y (K.add_comm _ _ ∙ e ∙ sym (simp ring))

  equal_back : (x y : F) → x ≡ y → x + neg 𝟙 · y ≡ 𝟘
  equal_back x y e = rw e (simp ring)

  -- the difference of two coefficients
  less_zero : (c d : ℕ → F) (j : ℕ) → less c d j ≡ 𝟘 → c j ≡ d j
  unfolding less
  less_zero c d j e = equal (c j) (d j) (ap (λ z. z + neg 𝟙 · d j) (sym (one_mul K (c j))) ∙ e)

  zero_less : (c d : ℕ → F) (j : ℕ) → c j ≡ d j → less c d j ≡ 𝟘
  unfolding less
  zero_less c d j e = ap (λ z. z + neg 𝟙 · d j) (one_mul K (c j)) ∙ equal_back (c j) (d j) e

module _ {K : Field} {a n : ℕ} where
  open K use {F, 𝟘, 𝟙}

  -- independent columns have only one
  pub unique : (Q : ℕ → ℕ → F) (H : Set) (x : ℕ) (c d : ℕ → F) → Indep K a n Q H → Depends K a n Q H x c → Depends K a n Q H x d → (j : ℕ) → j < n → c j ≡ d j
  unique Q H x c d i m m' j l = less_zero K c d j (i.only_zero (less K c d)
      (λ k nk. zero_less K c d k (m.only_held k nk ∙ sym (m'.only_held k nk)))
      (λ k lk. dot_less K n (Q k) c d ∙ equal_back K _ _ (m.sums k lk ∙ sym (m'.sums k lk))) j l)

  -- c are multipliers of x exactly if c less 1 at x is in the kernel
  depends_kernel : (Q : ℕ → ℕ → F) (H : Set) (x : ℕ) (c : ℕ → F) → x < n → Depends K a n Q H x c → InKernel K a n Q (less K c (unit K x))
  depends_kernel Q H x c l m k lk = dot_less K n (Q k) c (unit K x) ∙ equal_back K _ _ (m.sums k lk ∙ sym (dot_at K n (Q k) x l))

  kernel_depends : (Q : ℕ → ℕ → F) (H : Set) (x : ℕ) (c : ℕ → F) → x < n → In K H c → InKernel K a n Q (less K c (unit K x)) → Depends K a n Q H x c
  kernel_depends Q H x c l s z = record {
    only_held = s;
    sums = λ k lk. equal K _ _ (sym (dot_less K n (Q k) c (unit K x)) ∙ z k lk) ∙ dot_at K n (Q k) x l;
  }

  -- so matrices with the same kernel have the same multipliers
  pub depends_same : {P Q : ℕ → ℕ → F} → Same K a n Q P → (H : Set) (x : ℕ) (c : ℕ → F) → x < n → Depends K a n P H x c → Depends K a n Q H x c
  depends_same {P} {Q} e H x c l m = kernel_depends Q H x c l m.only_held ((e.kernel (less K c (unit K x))).1 (depends_kernel P H x c l m))

  -- no independent set has x and all that x depends on
  pub lacks_one : (Q : ℕ → ℕ → F) (H S : Set) (x : ℕ) (c : ℕ → F) → x < n → Depends K a n Q H x c → Indep K a n Q S → x ∈ S → In K S c → c x ≡ 𝟘 → ⊥
  lacks_one Q H S x c l m i sx s z = K.one_ne (sym (unit_at K x) ∙ sym (less_zero K c (unit K x) x (i.only_zero (less K c (unit K x))
      (λ j nj. zero_less K c (unit K x) j (s j nj ∙ sym (unit_other K x j (λ d. nj (rw d sx)))))
      (depends_kernel Q H x c l m) x l)) ∙ z)

  -- a column that depends on others is not independent of them
  pub depends_not : (Q : ℕ → ℕ → F) (H : Set) (x : ℕ) (c : ℕ → F) → x < n → (x ∈ H → ⊥) → Depends K a n Q H x c → Indep K a n Q (set H x true) → ⊥
  depends_not Q H x c l nx m i = lacks_one Q H (set H x true) x c l m i (set_same H x true)
      (λ j nj. m.only_held j (λ e. by_cases (ℕ_discrete j x) (λ d. nx (rw d at e)) (λ nd. nj (set_other H x true j nd ∙ e)))) (m.only_held x nx)

  -- a held column depends on the held ones by itself,
  pub held_depends : (Q : ℕ → ℕ → F) (H : Set) (x : ℕ) → x < n → x ∈ H → Depends K a n Q H x (unit K x)
  held_depends Q H x l e = record { only_held = λ j nj. unit_other K x j (λ d. nj (rw d e)); sums = λ i li. dot_at K n (Q i) x l }

  -- and a column that is zero in every row by nothing
  pub zero_depends : (Q : ℕ → ℕ → F) (H : Set) (x : ℕ) → ((i : ℕ) → i < a → Q i x ≡ 𝟘) → Depends K a n Q H x (λ j. 𝟘)
  zero_depends Q H x z = record { only_held = λ j nj. refl; sums = λ i l. dot_zero K n (Q i) (λ j. 𝟘) (λ j lj. mul_zero K (Q i j)) ∙ sym (z i l) }

  -- entries outside the rows and columns do not count
  pub entries_same : (P Q : ℕ → ℕ → F) → ((i j : ℕ) → i < a → j < n → P i j ≡ Q i j) → Same K a n Q P
  entries_same P Q e = record {
    kernel = λ c. ((λ z i l. sym (at c i l) ∙ z i l), λ z i l. at c i l ∙ z i l);
  }
    where
      at : (c : ℕ → F) (i : ℕ) → i < a → dot K n (Q i) c ≡ dot K n (P i) c
      at c i l = dot_rows K n (Q i) (P i) c (λ j lj. sym (e i j l lj))
