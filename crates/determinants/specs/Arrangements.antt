-- The arrangements of rows are all lists of these rows in some order, each once. Assumes nothing.
use Rattle.std.specs.Prelude.{ℕ, ◌≡◌, refl, ◌≢◌, ◌⊎◌}
use Rattle.std.proofs.Common.{sym, ap, subst, ◌∙◌, inl, inr, ⊎_elim}
use Rattle.std.proofs.Math.Path.{fun_ext}
use Rattle.std.proofs.Math.Bool.{true}
use mathlib.Core.List.{List, [], ◌∷◌, ◌++◌, map, flat_map, head-eq_of_cons-eq, tail-eq_of_cons-eq}
use Rattle.std.proofs.Math.Logic.{⊎_map, by_cases}
use Rattle.std.proofs.Math.Decide.{ℕ_discrete}
use Rattle.counting.specs.Bools.{not_true}
use Rattle.counting.specs.Counts.{set_other, set_set}
use Rattle.counting.specs.Sets.{set}
use Rattle.determinants.specs.Determinant.{insertions, arrangements, Each, done, both}
use Rattle.determinants.specs.Statements.{members, Distinct, none, more, Rearranged, Among, Different, without}
use Rattle.determinants.specs.Lists.Each.{each_flat, each_imp, each_map}
use Rattle.determinants.specs.Lists.Members.{member_head, member_tail, member_other, not_member}
use Rattle.determinants.specs.Lists.Among.{each_among}
use Rattle.determinants.specs.Lists.Without.{without_head, without_tail, without_cases, without_apart, without_distinct}

-- ρ has i besides the members of π, and none twice
record Inserted (i : ℕ) (π ρ : List ℕ) : Type 0 where
  distinct : Distinct ρ
  same : members ρ ≡ set (members π) i true

inserted_each : (i : ℕ) (π : List ℕ) → members π i ≢ true → Distinct π → Each (Inserted i π) (insertions i π)
unfolding insertions members
inserted_each i [] ni none = both (record { distinct = more ni none; same = refl }) done
inserted_each i (x ∷ π) ni (more nx d) = both (record { distinct = more ni (more nx d); same = refl })
    (each_map (λ ρ. x ∷ ρ) step (insertions i π) (inserted_each i π (λ m. ni (member_tail x π i m)) d))
  where
    step : (ρ : List ℕ) → Inserted i π ρ → Inserted i (x ∷ π) (x ∷ ρ)
    step ρ h = record {
      distinct = more (λ m. nx (member_other i π x (λ e. ni (ap (members (x ∷ π)) (sym e) ∙ member_head x π))
          (sym (ap (λ S. S x) h.same) ∙ m))) h.distinct;
      same = ap (λ S. set S x true) h.same ∙ set_set (members π) i x;
    }

pub arranged : (I : List ℕ) → Distinct I → Each (Rearranged I) (arrangements I)
unfolding arrangements members
arranged [] none = both (record { distinct = none; same = refl }) done
arranged (i ∷ I) (more ni d) = each_flat (insertions i) (λ π h. each_imp
    (λ ρ p. record { distinct = p.distinct; same = p.same ∙ ap (λ S. set S i true) h.same })
    (insertions i π) (inserted_each i π (λ m. ni (sym (ap (λ S. S i) h.same) ∙ m)) h.distinct)) (arrangements I) (arranged I d)

among_left : (π : List ℕ) (L M : List (List ℕ)) → Among π L → Among π (L ++ M)
among_left π [] M a = absurd a
among_left π (ρ ∷ L) M (inl e) = inl e
among_left π (ρ ∷ L) M (inr a) = inr (among_left π L M a)

among_right : (π : List ℕ) (L M : List (List ℕ)) → Among π M → Among π (L ++ M)
among_right π [] M a = a
among_right π (ρ ∷ L) M a = inr (among_right π L M a)

among_append : (π : List ℕ) (L M : List (List ℕ)) → Among π (L ++ M) → Among π L ⊎ Among π M
among_append π [] M a = inr a
among_append π (ρ ∷ L) M (inl e) = inl (inl e)
among_append π (ρ ∷ L) M (inr a) = ⊎_map inr (λ b. b) (among_append π L M a)

among_map : (x : ℕ) (π : List ℕ) (L : List (List ℕ)) → Among π L → Among (x ∷ π) (map (λ ρ. x ∷ ρ) L)
among_map x π [] a = absurd a
among_map x π (ρ ∷ L) (inl e) = inl (ap (λ σ. x ∷ σ) e)
among_map x π (ρ ∷ L) (inr a) = inr (among_map x π L a)

-- what is in the mapped list begins with x
among_unmap : (x : ℕ) (π : List ℕ) (L : List (List ℕ)) → Among π (map (λ ρ. x ∷ ρ) L) → (ρ : List ℕ) × (π ≡ x ∷ ρ) × Among ρ L
among_unmap x π [] a = absurd a
among_unmap x π (ρ ∷ L) (inl e) = (ρ, e, inl refl)
among_unmap x π (ρ ∷ L) (inr a) = let h = among_unmap x π L a in (h.0, h.1, inr h.2)

among_flat : (g : List ℕ → List (List ℕ)) (π ρ : List ℕ) (L : List (List ℕ)) → Among ρ L → Among π (g ρ) → Among π (flat_map g L)
unfolding flat_map
among_flat g π ρ [] b a = absurd b
among_flat g π ρ (σ ∷ L) (inl e) a = among_left π (g σ) (flat_map g L) (subst (λ τ. Among π (g τ)) e a)
among_flat g π ρ (σ ∷ L) (inr b) a = among_right π (g σ) (flat_map g L) (among_flat g π ρ L b a)

among_unflat : (g : List ℕ → List (List ℕ)) (π : List ℕ) (L : List (List ℕ)) → Among π (flat_map g L) → (ρ : List ℕ) × Among ρ L × Among π (g ρ)
unfolding flat_map
among_unflat g π [] a = absurd a
among_unflat g π (σ ∷ L) a = go (among_append π (g σ) (flat_map g L) a) (among_unflat g π L)
  where
    go : Among π (g σ) ⊎ Among π (flat_map g L) → (Among π (flat_map g L) → (ρ : List ℕ) × Among ρ L × Among π (g ρ))
        → (ρ : List ℕ) × Among ρ (σ ∷ L) × Among π (g ρ)
    go (inl b) r = (σ, inl refl, b)
    go (inr b) r = let h = r b in (h.0, inr h.1, h.2)

front : (i : ℕ) (π : List ℕ) → Among (i ∷ π) (insertions i π)
unfolding insertions
front i [] = inl refl
front i (x ∷ π) = inl refl

-- i taken out of π and put back
put_back : (i : ℕ) (π : List ℕ) → members π i ≡ true → Among π (insertions i (without i π))
unfolding insertions
put_back i [] m = absurd (not_member i m)
put_back i (x ∷ π) m = without_cases (λ L. Among (x ∷ π) (insertions i L)) i x π
    (λ e. subst (λ y. Among (y ∷ π) (insertions i π)) (sym e) (front i π))
    (λ ne. inr (among_map x π (insertions i (without i π)) (put_back i π (member_other x π i (λ e. ne (sym e)) m))))

-- every rearrangement is there
pub complete : (I π : List ℕ) → Distinct I → Rearranged I π → Among π (arrangements I)
unfolding arrangements
complete [] [] none h = inl refl
complete [] (x ∷ π) none h = absurd (not_member x (sym (ap (λ S. S x) h.same) ∙ member_head x π))
complete (i ∷ I) π (more ni d) h =
    let w : List ℕ = without i π in
    let a : Among π (insertions i w) = put_back i π (ap (λ S. S i) h.same ∙ member_head i I) in
    let nw : members w i ≢ true = without_apart i π h.distinct in
    let p = each_among π (insertions i w) (inserted_each i w nw (without_distinct i π h.distinct)) a in
    among_flat (insertions i) π w (arrangements I) (complete I w d (record {
      distinct = without_distinct i π h.distinct;
      same = fun_ext (λ k. by_cases (ℕ_discrete k i)
          (λ e. rw e (not_true (members w i) nw ∙ sym (not_true (members I i) ni)))
          (λ ne. sym (set_other (members w) i true k ne) ∙ sym (ap (λ S. S k) p.same) ∙ ap (λ S. S k) h.same ∙ tail k ne));
    })) a
  where
    tail : (k : ℕ) → k ≢ i → members (i ∷ I) k ≡ members I k
    tail k ne = unfold members in set_other (members I) i true k ne

-- taking i out gives back what it was put into
without_each : (i : ℕ) (π : List ℕ) → members π i ≢ true → Each (λ ρ. without i ρ ≡ π) (insertions i π)
unfolding insertions
without_each i [] ni = both (without_head i []) done
without_each i (x ∷ π) ni = both (without_head i (x ∷ π)) (each_map (λ ρ. x ∷ ρ)
    (λ ρ e. without_tail i x ρ (λ d. ni (ap (members (x ∷ π)) (sym d) ∙ member_head x π)) ∙ ap (λ σ. x ∷ σ) e)
    (insertions i π) (without_each i π (λ m. ni (member_tail x π i m))))

different_append : (L M : List (List ℕ)) → Different L → Different M → ((π : List ℕ) → Among π L → ¬ Among π M) → Different (L ++ M)
different_append [] M d e f = e
different_append (π ∷ L) M d e f = (λ a. ⊎_elim d.0 (f π (inl refl)) (among_append π L M a), different_append L M d.1 e (λ ρ a. f ρ (inr a)))

different_map : (x : ℕ) (L : List (List ℕ)) → Different L → Different (map (λ ρ. x ∷ ρ) L)
different_map x [] d = tt
different_map x (π ∷ L) d = (
  λ a. let h = among_unmap x (x ∷ π) L a in d.0 (subst (λ σ. Among σ L) (sym (tail-eq_of_cons-eq h.1)) h.2),
  different_map x L d.1,
)

insertions_different : (i : ℕ) (π : List ℕ) → members π i ≢ true → Different (insertions i π)
unfolding insertions
insertions_different i [] ni = (λ a. a, tt)
insertions_different i (x ∷ π) ni = (
  λ a. let h = among_unmap x (i ∷ x ∷ π) (insertions i π) a in ni (ap (members (x ∷ π)) (head-eq_of_cons-eq h.1) ∙ member_head x π),
  different_map x (insertions i π) (insertions_different i π (λ m. ni (member_tail x π i m))),
)

flat_different : (i : ℕ) (L : List (List ℕ)) → Each (λ π. members π i ≢ true) L → Different L → Different (flat_map (insertions i) L)
unfolding flat_map
flat_different i [] done d = tt
flat_different i (π ∷ L) (both ni h) d = different_append (insertions i π) (flat_map (insertions i) L)
    (insertions_different i π ni) (flat_different i L h d.1)
    (λ ρ a b. let u = among_unflat (insertions i) ρ L b in
    let e : without i ρ ≡ π = each_among ρ (insertions i π) (without_each i π ni) a in
    let f : without i ρ ≡ u.0 = each_among ρ (insertions i u.0) (without_each i u.0 (each_among u.0 L h u.1)) u.2 in
    d.0 (subst (λ σ. Among σ L) (sym f ∙ e) u.1))

-- no arrangement comes twice
pub once : (I : List ℕ) → Distinct I → Different (arrangements I)
unfolding arrangements
once [] none = (λ a. a, tt)
once (i ∷ I) (more ni d) = flat_different i (arrangements I)
    (each_imp (λ π h m. ni (sym (ap (λ S. S i) h.same) ∙ m)) (arrangements I) (arranged I d)) (once I d)
