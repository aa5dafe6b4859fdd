-- What the runs of `Choices` say: the largest value is reached and bounds the others, `some` and `every` are the quantifiers. Assumes nothing.
use Prim.Native.Nat.{ℕ, zero, suc, ◌≤◌, ◌<◌}
use Rattle.std.specs.Prelude.{Bool, false, cond, ◌↔◌, ◌≡◌}
use Rattle.std.proofs.Math.Bool.{true, not, decide_iff}
use Rattle.std.proofs.lemmas.Bool.{false≢true}
use Rattle.std.proofs.Math.Path.{refl, ap, fun_ext}
use Rattle.std.proofs.Common.{sym, ◌∙◌}
use Rattle.std.proofs.Math.Decide.{ℕ_discrete, dec_le, dec_lt}
use native.Mathlib.Omega.{arith}
use Rattle.counting.specs.Bools.{not_in, not_true, true?}
use Rattle.counting.specs.Sets.{Set, ◌∈◌, indicator, set}
use Rattle.counting.specs.Counts.{set_other, set_same}
use Rattle.counting.specs.Choices.{Part, every, every_part, greatest, largest, largest_part, membership, some}

-- a value under a test
pub cond_true : {A : Type 0} (t : Bool) (x y : A) → t ≡ true → cond t x y ≡ x
cond_true true x y e = refl
cond_true false x y e = absurd (false≢true e)

pub cond_false : {A : Type 0} (t : Bool) (x y : A) → (t ≡ true → ⊥) → cond t x y ≡ y
cond_false true x y e = absurd (e refl)
cond_false false x y e = refl

greatest_le : (g : ℕ → ℕ) (m i : ℕ) → i ≤ m → g i ≤ greatest g m
unfolding greatest
greatest_le g zero i l = let e : i ≡ 0 = omega arith in rw e (omega arith)
greatest_le g (suc m) i l = elim (ℕ_discrete i (suc m)) [ yes e ↦ rw e (omega arith) | no ne ↦ omega (arith, greatest_le g m i (omega arith)) ]

-- where the greatest is reached
abbrev GreatestAt : (ℕ → ℕ) → ℕ → Type 0
GreatestAt g m = (i : ℕ) × (i ≤ m) × (g i ≡ greatest g m)

greatest_at : (g : ℕ → ℕ) (m : ℕ) → GreatestAt g m
unfolding greatest
greatest_at g zero = (0, omega arith, refl)
greatest_at g (suc m) =
    let t : GreatestAt g m = greatest_at g m in
    elim (dec_le (g (suc m)) (greatest g m)) [ yes l ↦ (t.0, omega arith, omega arith) | no nl ↦ (suc m, omega arith, omega arith) ]

-- column x has the choices at 0 .. at (last x); from n on every function is at 0
-- f chooses for each column x below n one of at 0 .. at (last x), and at 0 from n on
module _ {A : Type 0} (at : ℕ → A) (last : ℕ → ℕ) where
  pub record Chosen (n : ℕ) (f : ℕ → A) : Type 0 where
    pub inside : (x : ℕ) → x < n → (i : ℕ) × (i ≤ last x) × (f x ≡ at i)
    pub beyond : (x : ℕ) → n ≤ x → f x ≡ at 0

  cut : (n : ℕ) (f : ℕ → A) → Chosen (suc n) f → Chosen n (set f n (at 0))
  cut n f c = record {
    inside = λ x l. rw (set_other f n (at 0) x (omega arith)) (c.inside x (omega arith));
    beyond = λ x l. elim (ℕ_discrete x n) [ yes e ↦ rw (e, set_same) | no ne ↦ rw (set_other f n (at 0) x ne) (c.beyond x (omega arith)) ];
  }

  uncut : (n : ℕ) (f : ℕ → A) (v : A) → f n ≡ v → set (set f n (at 0)) n v ≡ f
  uncut n f v e = fun_ext (λ x. elim (ℕ_discrete x n) [
    | yes d ↦ rw (d, set_same) (sym e)
    | no nd ↦ set_other (set f n (at 0)) n v x nd ∙ set_other f n (at 0) x nd
  ])

  put : (n : ℕ) (f : ℕ → A) (i : ℕ) → i ≤ last n → Chosen n f → Chosen (suc n) (set f n (at i))
  put n f i l c = record {
    inside = λ x lx. elim (ℕ_discrete x n) [
      | yes e ↦ rw e (i, l, set_same f n (at i))
      | no ne ↦ rw (set_other f n (at i) x ne) (c.inside x (omega arith))
    ];
    beyond = λ x lx. set_other f n (at i) x (omega arith) ∙ c.beyond x (omega arith);
  }

  pub largest_le : (n : ℕ) (F : (ℕ → A) → ℕ) (f : ℕ → A) → Chosen n f → F f ≤ largest at last n F
  unfolding largest
  largest_le zero F f c = let e : f ≡ (λ x. at 0) = fun_ext (λ x. c.beyond x (omega arith)) in rw e (omega arith)
  largest_le (suc n) F f c =
      let w : (i : ℕ) × (i ≤ last n) × (f n ≡ at i) = c.inside n (omega arith) in
      omega (
        arith,
        ap F (uncut n f (at w.0) w.2),
        largest_le n (λ g. F (set g n (at w.0))) (set f n (at 0)) (cut n f c),
        greatest_le (λ i. largest at last n (λ g. F (set g n (at i)))) (last n) w.0 w.1,
      )

  -- where the largest value is reached
  abbrev LargestAt : ℕ → ((ℕ → A) → ℕ) → Type 0
  LargestAt n F = (f : ℕ → A) × Chosen n f × (F f ≡ largest at last n F)

  pub largest_at : (n : ℕ) (F : (ℕ → A) → ℕ) → LargestAt n F
  unfolding largest
  largest_at zero F = (λ x. at 0, record { inside = λ x l. absurd (omega arith); beyond = λ x l. refl }, refl)
  largest_at (suc n) F =
      let t : GreatestAt (λ i. largest at last n (λ g. F (set g n (at i)))) (last n) = greatest_at (λ i. largest at last n (λ g. F (set g n (at i)))) (last n) in
      let r : LargestAt n (λ g. F (set g n (at t.0))) = largest_at n (λ g. F (set g n (at t.0))) in
      (set r.0 n (at t.0), put n r.0 t.0 t.1 r.1, r.2 ∙ t.2)

  pub some_iff : (n : ℕ) (P : (ℕ → A) → Bool) → (some at last n P ≡ true) ↔ ((f : ℕ → A) × Chosen n f × (P f ≡ true))
  unfolding some indicator
  some_iff n P = (there, λ w. (decide_iff (dec_lt 0 (largest at last n (λ f. indicator (P f))))).1 (omega (arith, largest_le n (λ f. indicator (P f)) w.0 w.1, ap indicator w.2)))
    where
      there : some at last n P ≡ true → (f : ℕ → A) × Chosen n f × (P f ≡ true)
      there e =
          let l : 0 < largest at last n (λ f. indicator (P f)) = (decide_iff (dec_lt 0 (largest at last n (λ f. indicator (P f))))).0 e in
          let r : LargestAt n (λ f. indicator (P f)) = largest_at n (λ f. indicator (P f)) in
          (r.0, r.1, elim (true? (P r.0)) [ yes p ↦ p | no np ↦ absurd (omega (arith, r.2, ap indicator (not_true (P r.0) np))) ])

  pub every_iff : (n : ℕ) (P : (ℕ → A) → Bool) → (every at last n P ≡ true) ↔ ((f : ℕ → A) → Chosen n f → P f ≡ true)
  unfolding every
  every_iff n P = (there, back)
    where
      there : every at last n P ≡ true → (f : ℕ → A) → Chosen n f → P f ≡ true
      there e f c = elim (true? (P f)) [
        | yes p ↦ p
        | no np ↦ absurd (false≢true (sym (not_in (some at last n (λ f. not (P f))) e) ∙ (some_iff n (λ f. not (P f))).1 (f, c, ap not (not_true (P f) np))))
      ]

      back : ((f : ℕ → A) → Chosen n f → P f ≡ true) → every at last n P ≡ true
      back h = ap not (not_true (some at last n (λ f. not (P f))) (λ e.
          let w : (f : ℕ → A) × Chosen n f × (not (P f) ≡ true) = (some_iff n (λ f. not (P f))).0 e in
          false≢true (sym (ap not (h w.0 w.1)) ∙ w.2)))

module _ (n : ℕ) (U : Set) where
  part_chosen : (S : Set) → Part n U S → Chosen membership (λ x. indicator (U x)) n S
  unfolding membership indicator
  part_chosen S h = record {
    inside = λ x l. elim (true? (S x)) [
      | yes s ↦ (1, omega (arith, ap indicator (h x s).1), s)
      | no ns ↦ (0, omega arith, not_true (S x) ns)
    ];
    beyond = λ x l. not_true (S x) (λ s. omega (arith, (h x s).0));
  }

  chosen_part : (S : Set) → Chosen membership (λ x. indicator (U x)) n S → Part n U S
  unfolding membership indicator
  chosen_part S c x s = elim (dec_lt x n) [
    | yes l ↦ (l, go (c.inside x l).0 (c.inside x l).1 (c.inside x l).2)
    | no nl ↦ absurd (false≢true (sym (c.beyond x (omega arith)) ∙ s))
  ]
    where
      go : (i : ℕ) → i ≤ indicator (U x) → S x ≡ membership i → x ∈ U
      go zero l e = absurd (false≢true (sym e ∙ s))
      go (suc i) l e = elim (true? (U x)) [ yes u ↦ u | no nu ↦ absurd (omega (arith, ap indicator (not_true (U x) nu))) ]

  pub part_le : (F : Set → ℕ) (S : Set) → Part n U S → F S ≤ largest_part n U F
  unfolding largest_part
  part_le F S h = largest_le membership (λ x. indicator (U x)) n F S (part_chosen S h)

  pub part_at : (F : Set → ℕ) → (S : Set) × Part n U S × (F S ≡ largest_part n U F)
  unfolding largest_part
  part_at F = let r : LargestAt membership (λ x. indicator (U x)) n F = largest_at membership (λ x. indicator (U x)) n F in (r.0, chosen_part r.0 r.1, r.2)

  pub every_part_iff : (P : Set → Bool) → (every_part n U P ≡ true) ↔ ((S : Set) → Part n U S → P S ≡ true)
  unfolding every_part
  every_part_iff P = (
    λ e S h. (every_iff membership (λ x. indicator (U x)) n P).0 e S (part_chosen S h),
    λ h. (every_iff membership (λ x. indicator (U x)) n P).1 (λ S c. h S (chosen_part S c)),
  )
