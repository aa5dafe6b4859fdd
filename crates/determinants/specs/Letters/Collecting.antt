-- The laws of collecting terms by their letters. Assumes nothing.
use Rattle.std.specs.Prelude.{◌≡◌, Bool, true, false, ◌&&◌, cond, ◌≢◌}
use Rattle.std.proofs.Math.Path.{refl, ap, subst, fun_ext}
use Rattle.std.proofs.Common.{sym, ap₂, ◌∙◌}
use Rattle.std.proofs.Math.Bool.{decide, decide_iff}
use Rattle.std.proofs.lemmas.Bool.{false≢true}
use mathlib.Core.List.{List, [], ◌∷◌, ◌++◌, map}
use Rattle.std.proofs.Math.Logic.{by_cases}
use Rattle.std.proofs.Math.Decide.{ℕ_discrete}
use Rattle.residue.specs.Fields.{Field, add_zero, mul_zero, one_mul, zero_mul}
use Rattle.counting.specs.Bools.{true?, and_left, and_right}
use Rattle.counting.specs.ChoiceLaws.{cond_false}
use Rattle.determinants.specs.Determinant.{Letter, same_letters, Term, by_number, by_letter, collect, Each, done, both}
use Rattle.determinants.specs.Expansion.Totals.{total, total_append, total_map, total_scale, total_zero}

same_true : (l m : List Letter) → same_letters l m ≡ true → l ≡ m
unfolding same_letters
same_true [] [] e = refl
same_true [] (y ∷ m) e = absurd (false≢true e)
same_true (x ∷ l) [] e = absurd (false≢true e)
same_true (x ∷ l) (y ∷ m) e =
    let u : Bool = decide (ℕ_discrete x.0 y.0) in
    let v : Bool = decide (ℕ_discrete x.1 y.1) in
    let place : (u && v) ≡ true = and_left (u && v) (same_letters l m) e in
    let r : x.0 ≡ y.0 = (decide_iff (ℕ_discrete x.0 y.0)).0 (and_left u v place) in
    let c : x.1 ≡ y.1 = (decide_iff (ℕ_discrete x.1 y.1)).0 (and_right u v place) in
    ap₂ ◌∷◌ (λ i. (r i, c i)) (same_true l m (and_right (u && v) (same_letters l m) e))

same_cons : (x : Letter) (l m : List Letter) → same_letters (x ∷ l) (x ∷ m) ≡ same_letters l m
unfolding same_letters
same_cons x l m = ap₂ (λ a b. a && b && same_letters l m) ((decide_iff (ℕ_discrete x.0 x.0)).1 refl)
    ((decide_iff (ℕ_discrete x.1 x.1)).1 refl)

module _ (K : Field) where
  open K use {F, 𝟘, 𝟙, ◌+◌, ◌·◌}

  -- what a term gives to the coefficient at l
  abbrev pub contribution : List Letter → Term K → F
  contribution l t = cond (same_letters t.letters l) t.coefficient 𝟘

  contribution_no : (l : List Letter) (t : Term K) → t.letters ≢ l → contribution l t ≡ 𝟘
  contribution_no l t ne = cond_false (same_letters t.letters l) _ _ (λ e. ne (same_true t.letters l e))

  pub collect_total : (l : List Letter) (ts : List (Term K)) → collect K l ts ≡ total K (contribution l) ts
  unfolding collect total
  collect_total l [] = refl
  collect_total l (t ∷ ts) = ap (λ z. contribution l t + z) (collect_total l ts)

  contribution_by_number : (l : List Letter) (q : F) (t : Term K) → contribution l (by_number K q t) ≡ q · contribution l t
  contribution_by_number l q t = go (same_letters t.letters l)
    where
      go : (b : Bool) → cond b (q · t.coefficient) 𝟘 ≡ q · cond b t.coefficient 𝟘
      go true = refl
      go false = sym (mul_zero K q)

  contribution_by_letter : (l : List Letter) (x : Letter) (t : Term K) → contribution (x ∷ l) (by_letter K x t) ≡ contribution l t
  contribution_by_letter l x t = ap (λ b. cond b t.coefficient 𝟘) (same_cons x t.letters l)

  pub collect_by_number : (l : List Letter) (q : F) (ts : List (Term K)) → collect K l (map (by_number K q) ts) ≡ q · collect K l ts
  collect_by_number l q ts = collect_total l (map (by_number K q) ts)
      ∙ total_map K (contribution l) (by_number K q) ts ∙ ap (λ g. total K g ts) (fun_ext (contribution_by_number l q))
      ∙ total_scale K q (contribution l) ts ∙ ap (λ z. q · z) (sym (collect_total l ts))

  pub collect_append : (l : List Letter) (ts us : List (Term K)) → collect K l (ts ++ us) ≡ collect K l ts + collect K l us
  collect_append l ts us = collect_total l (ts ++ us) ∙ total_append K (contribution l) ts us ∙ ap₂ ◌+◌ (sym (collect_total l ts)) (sym (collect_total l us))

  -- a coefficient that is not zero has a term with its letters
  pub collect_some : (P : List Letter → Type 0) (l : List Letter) (ts : List (Term K)) → Each (λ t. P t.letters) ts → collect K l ts ≢ 𝟘 → P l
  unfolding collect
  collect_some P l [] done nz = absurd (nz refl)
  collect_some P l (t ∷ ts) (both p h) nz = by_cases (true? (same_letters t.letters l))
      (λ e. subst P (same_true t.letters l e) p)
      (λ ne. collect_some P l ts h (λ z. nz (ap₂ ◌+◌ (cond_false (same_letters t.letters l) _ _ ne) z ∙ add_zero K 𝟘)))

  pub collect_nothing : (l : List Letter) → collect K l [] ≡ 𝟘
  unfolding collect
  collect_nothing l = refl

  pub collect_unit : (l : List Letter) → l ≢ [] → collect K l (record { coefficient = 𝟙; letters = [] } ∷ []) ≡ 𝟘
  unfolding collect
  collect_unit l ne = ap (λ z. z + 𝟘) (contribution_no l (record { coefficient = 𝟙; letters = [] }) (λ e. ne (sym e))) ∙ add_zero K 𝟘

  pub collect_one : collect K [] (record { coefficient = 𝟙; letters = [] } ∷ []) ≡ 𝟙
  unfolding collect same_letters
  collect_one = add_zero K 𝟙

  -- the terms times a letter, where there is one
  abbrev pub with_letter : Bool → Letter → List (Term K) → List (Term K)
  with_letter b x ts = cond b (map (by_letter K x) ts) []

  pub collect_with : (b : Bool) (x : Letter) (l : List Letter) (ts : List (Term K)) → collect K (x ∷ l) (with_letter b x ts) ≡ cond b 𝟙 𝟘 · collect K l ts
  collect_with true x l ts = collect_total (x ∷ l) (map (by_letter K x) ts) ∙ total_map K (contribution (x ∷ l)) (by_letter K x) ts
      ∙ ap (λ g. total K g ts) (fun_ext (contribution_by_letter l x)) ∙ sym (collect_total l ts) ∙ sym (one_mul K _)
  collect_with false x l ts = collect_nothing (x ∷ l) ∙ sym (zero_mul K _)

  pub collect_without : (b : Bool) (x : Letter) (l : List Letter) (ts : List (Term K)) → ((m : List Letter) → l ≢ x ∷ m)
      → collect K l (with_letter b x ts) ≡ 𝟘
  collect_without true x l ts ne = collect_total l (map (by_letter K x) ts) ∙ total_map K (contribution l) (by_letter K x) ts
      ∙ total_zero K _ (λ t. contribution_no l (by_letter K x t) (λ e. ne t.letters (sym e))) ts
  collect_without false x l ts ne = collect_nothing l
