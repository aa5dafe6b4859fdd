-- Lists with some of their numbers taken out. Assumes nothing.
use Rattle.std.specs.Prelude.{ℕ, ◌<◌, ◌≡◌, refl, true, List, [], ◌∷◌, ◌≢◌}
use Rattle.std.proofs.Common.{sym, ap, subst, ◌∙◌}
use Rattle.std.proofs.Math.Logic.{by_cases}
use Rattle.std.proofs.Math.Decide.{ℕ_discrete}
use Rattle.counting.specs.Sets.{◌∈◌, ◌⊆◌, choose}
use Rattle.determinants.specs.Determinant.{Ascending}
use Rattle.determinants.specs.Statements.{members, Distinct, none, more, without, rest}
use Rattle.determinants.specs.Lists.Members.{member_head, member_tail, member_other, member_more, not_member}
use Rattle.determinants.specs.Lists.Order.{each_members, members_each, ascending_distinct}

pub without_head : (i : ℕ) (I : List ℕ) → without i (i ∷ I) ≡ I
unfolding without choose
without_head i I = elim (ℕ_discrete i i) as (λ d. choose d I (i ∷ without i I) ≡ I) [ yes e ↦ refl | no ne ↦ absurd (ne refl) ]

pub without_tail : (i x : ℕ) (I : List ℕ) → x ≢ i → without i (x ∷ I) ≡ x ∷ without i I
unfolding without choose
without_tail i x I h = elim (ℕ_discrete x i) as (λ d. choose d I (x ∷ without i I) ≡ x ∷ without i I) [ yes e ↦ absurd (h e) | no ne ↦ refl ]

-- a statement about a list without i, of its two cases
pub without_cases : (P : List ℕ → Type 0) (i x : ℕ) (I : List ℕ) → (x ≡ i → P I) → (x ≢ i → P (x ∷ without i I)) → P (without i (x ∷ I))
without_cases P i x I f g = by_cases (ℕ_discrete x i)
    (λ e. subst (λ y. P (without i (y ∷ I))) (sym e) (subst P (sym (without_head i I)) (f e)))
    (λ ne. subst P (sym (without_tail i x I ne)) (g ne))

without_in : (i : ℕ) (I : List ℕ) → members (without i I) ⊆ members I
without_in i [] k = unfold without in λ m. m
without_in i (x ∷ I) k = without_cases (λ L. k ∈ members L → k ∈ members (x ∷ I)) i x I
    (λ e m. member_tail x I k m)
    (λ ne m. member_more x (without i I) I (without_in i I) k m)

pub without_other : (i : ℕ) (I : List ℕ) (k : ℕ) → k ≢ i → k ∈ members I → k ∈ members (without i I)
without_other i [] k nk m = absurd (not_member k m)
without_other i (x ∷ I) k nk m = without_cases (λ L. k ∈ members L) i x I
    (λ e. member_other x I k (λ d. nk (d ∙ e)) m)
    (λ ne. by_cases (ℕ_discrete k x) (λ d. rw d (member_head x (without i I))) (λ nd. member_tail x (without i I) k (without_other i I k nk (member_other x I k nd m))))

pub without_apart : (i : ℕ) (I : List ℕ) → Distinct I → members (without i I) i ≢ true
without_apart i [] d = unfold without in not_member i
without_apart i (x ∷ I) (more nx d) = without_cases (λ L. members L i ≢ true) i x I
    (λ e m. nx (ap (members I) e ∙ m))
    (λ ne m. without_apart i I d (member_other x (without i I) i (λ e. ne (sym e)) m))

pub without_distinct : (i : ℕ) (I : List ℕ) → Distinct I → Distinct (without i I)
without_distinct i [] d = unfold without in none
without_distinct i (x ∷ I) (more nx d) = without_cases Distinct i x I (λ e. d) (λ ne. more (λ m. nx (without_in i I x m)) (without_distinct i I d))

without_ascending : (i : ℕ) (I : List ℕ) → Ascending I → Ascending (without i I)
without_ascending i [] a = unfold without in tt
without_ascending i (x ∷ I) a = without_cases Ascending i x I
    (λ e. a.1)
    (λ ne. (members_each (λ y. x < y) (without i I) (λ k m. each_members (λ y. x < y) I a.0 k (without_in i I k m)), without_ascending i I a.1))

-- without several

pub rest_in : (R I : List ℕ) → members (rest R I) ⊆ members I
unfolding rest
rest_in [] I k m = m
rest_in (r ∷ R) I k m = without_in r I k (rest_in R (without r I) k m)

pub rest_other : (R I : List ℕ) (k : ℕ) → k ∈ members I → members R k ≢ true → k ∈ members (rest R I)
unfolding rest
rest_other [] I k m nk = m
rest_other (r ∷ R) I k m nk = rest_other R (without r I) k (without_other r I k (λ e. nk (rw e (member_head r R))) m) (λ h. nk (member_tail r R k h))

pub rest_ascending : (R I : List ℕ) → Ascending I → Ascending (rest R I)
unfolding rest
rest_ascending [] I a = a
rest_ascending (r ∷ R) I a = rest_ascending R (without r I) (without_ascending r I a)

pub rest_apart : (R I : List ℕ) → Ascending I → (k : ℕ) → k ∈ members (rest R I) → members R k ≢ true
unfolding rest
rest_apart [] I a k m h = not_member k h
rest_apart (r ∷ R) I a k m h = by_cases (ℕ_discrete k r)
    (λ e. without_apart r I (ascending_distinct I a) (ap (members (without r I)) (sym e) ∙ rest_in R (without r I) k m))
    (λ ne. rest_apart R (without r I) (without_ascending r I a) k m (member_other r R k ne h))
