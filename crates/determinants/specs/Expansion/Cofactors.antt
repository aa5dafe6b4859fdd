-- Where an expansion is not zero the columns are independent on the rows, and independent columns have as many rows on which it is not zero. Assumes nothing.
use Prim.Native.Nat.{ℕ, suc, ◌<◌}
use Rattle.std.specs.Prelude.{◌≡◌, Bool, true, ◌≢◌, length}
use Rattle.std.proofs.Math.Path.{refl, sym, ap, fun_ext}
use Rattle.std.proofs.Common.{ap₂, ◌∙◌}
use mathlib.Core.List.{List, [], ◌∷◌}
use Rattle.std.proofs.Math.Logic.{by_cases}
use Rattle.std.proofs.Math.Decide.{ℕ_discrete}
use Rattle.residue.specs.Fields.{Field, mul_zero, neg_mul, neg_neg, neg_zero, one_mul, ring, unmul, zero_add, zero_mul}
use Rattle.counting.specs.Counts.{some?, both?, not?, set_same, set_other}
use Rattle.counting.specs.Bools.{true?}
use Rattle.counting.specs.Sets.{◌⊆◌, set}
use Rattle.rank.specs.Linear.Independence.{dot, In}
use Rattle.rank.specs.Linear.Sums.{dot_unit, dot_mix, dot_zero}
use Rattle.determinants.specs.Statements.{members, Distinct, none, more}
use Rattle.determinants.specs.Lists.Members.{member_head, member_tail, member_other, member_more, not_member, Below}
use Rattle.determinants.specs.Expansion.Rows.{expansion, along, along_swap, along_twice, along_zero, no_rows}

module _ (K : Field) where
  open K use {F, 𝟘, 𝟙, ◌+◌, ◌·◌, neg}

  -- the coefficients with which `along` takes the entries of a row
  unfoldable cofactor : (List ℕ → F) → List ℕ → ℕ → F
  cofactor f [] k = 𝟘
  cofactor f (j ∷ S) k = set (λ _. 𝟘) j (f S) k + neg (cofactor (λ R. f (j ∷ R)) S k)

  cofactor_skip : (f : List ℕ → F) (j : ℕ) (S : List ℕ) (k : ℕ) → k ≢ j → cofactor f (j ∷ S) k ≡ neg (cofactor (λ R. f (j ∷ R)) S k)
  unfolding cofactor
  cofactor_skip f j S k nd = ap (λ z. z + neg (cofactor (λ R. f (j ∷ R)) S k)) (set_other (λ _. 𝟘) j (f S) k nd) ∙ zero_add K _

  cofactor_in : (f : List ℕ → F) (J : List ℕ) → In K (members J) (cofactor f J)
  cofactor_in f [] k nm = unfold cofactor in refl
  cofactor_in f (j ∷ S) k nm = cofactor_skip f j S k (λ d. nm (rw d (member_head j S)))
      ∙ ap neg (cofactor_in (λ R. f (j ∷ R)) S k (λ m. nm (member_tail j S k m))) ∙ neg_zero K

  cofactor_at : (f : List ℕ → F) (j : ℕ) (S : List ℕ) → cofactor f (j ∷ S) j ≡ f S + neg (cofactor (λ R. f (j ∷ R)) S j)
  unfolding cofactor
  cofactor_at f j S = ap (λ z. z + neg (cofactor (λ R. f (j ∷ R)) S j)) (set_same (λ _. 𝟘) j (f S))

  cofactor_head : (f : List ℕ → F) (j : ℕ) (S : List ℕ) → members S j ≢ true → cofactor f (j ∷ S) j ≡ f S
  cofactor_head f j S nm = cofactor_at f j S ∙ simp (cofactor_in (λ R. f (j ∷ R)) S j nm, ring)

  -- what is left when x is taken out
  record Remaining (f : List ℕ → F) (J : List ℕ) (x : ℕ) : Type 0 where
    columns : List ℕ
    sub : members columns ⊆ members J
    covers : (k : ℕ) → k ≢ x → members J k ≡ true → members columns k ≡ true
    value : f columns ≢ 𝟘

  cofactor_rest : (f : List ℕ → F) (J : List ℕ) (x : ℕ) → cofactor f J x ≢ 𝟘 → Remaining f J x
  cofactor_rest f [] x nz = absurd (nz (unfold cofactor in refl))
  cofactor_rest f (j ∷ S) x nz = by_cases (K.decide (cofactor (λ R. f (j ∷ R)) S x) 𝟘)
      (λ z. by_cases (ℕ_discrete x j)
      (λ d. record {
        columns = S;
        sub = member_tail j S;
        covers = λ k nk m. member_other j S k (λ e. nk (e ∙ sym d)) m;
        value = λ w. nz (ap (cofactor f (j ∷ S)) d ∙ cofactor_at f j S ∙ simp (w, ap (cofactor (λ R. f (j ∷ R)) S) (sym d) ∙ z, ring));
      })
      (λ nd. absurd (nz (cofactor_skip f j S x nd ∙ ap neg z ∙ neg_zero K))))
      (λ nz'. let r = cofactor_rest (λ R. f (j ∷ R)) S x nz' in record {
        columns = j ∷ r.columns;
        sub = member_more j r.columns S r.sub;
        covers = λ k nk m. by_cases (ℕ_discrete k j) (λ d. rw d (member_head j r.columns))
            (λ nd. member_tail j r.columns k (r.covers k nk (member_other j S k nd m)));
        value = r.value;
      })

  dot_take : (n : ℕ) (a : ℕ → F) (j : ℕ) (v : F) (c : ℕ → F) → j < n → dot K n a (λ k. set (λ _. 𝟘) j v k + neg (c k)) ≡ a j · v + neg (dot K n a c)
  dot_take n a j v c l = ap (dot K n a) (fun_ext (λ k. ones (set (λ _. 𝟘) j v k) (c k))) ∙ dot_mix K n a 𝟙 (neg 𝟙) (set (λ _. 𝟘) j v) c
      ∙ ap₂ ◌+◌ (one_mul K _ ∙ dot_unit K n a j v l) (neg_mul K 𝟙 _ ∙ ap neg (one_mul K _))
    where
      ones : (x y : F) → x + neg y ≡ 𝟙 · x + neg 𝟙 · y
      ones x y = simp ring

  -- columns S are independent on the rows R of Q
  pub record IndependentOn (n : ℕ) (Q : ℕ → ℕ → F) (R S : ℕ → Bool) : Type 0 where
    pub only_zero : (c : ℕ → F) → In K S c → ((i : ℕ) → R i ≡ true → dot K n (Q i) c ≡ 𝟘) → (j : ℕ) → j < n → c j ≡ 𝟘

  module _ (n : ℕ) (Q : ℕ → ℕ → F) where
    along_dot : (i : ℕ) (f : List ℕ → F) (J : List ℕ) → Below n J → along K Q i f J ≡ dot K n (Q i) (cofactor f J)
    unfolding along cofactor
    along_dot i f [] b = sym (dot_zero K n (Q i) (λ k. 𝟘) (λ k l. mul_zero K (Q i k)))
    along_dot i f (j ∷ S) b = ap (λ z. Q i j · f S + neg z) (along_dot i (λ R. f (j ∷ R)) S (λ k m. b k (member_tail j S k m)))
        ∙ sym (dot_take n (Q i) j (f S) (cofactor (λ R. f (j ∷ R)) S) (b j (member_head j S)))

    -- a row that is in I already
    row_twice : (i : ℕ) (I : List ℕ) → members I i ≡ true → (J : List ℕ) → along K Q i (expansion K Q I) J ≡ 𝟘
    unfolding expansion
    row_twice i [] m J = absurd (not_member i m)
    row_twice i (a ∷ I) m J = by_cases (ℕ_discrete i a)
        (λ d. rw d (along_twice K Q a (expansion K Q I) J))
        (λ nd. along_swap K Q i a (expansion K Q I) J ∙ ap neg (along_zero K Q a _ (row_twice i I (member_other a I i nd m)) J) ∙ neg_zero K)

    -- if x can be taken out so that the others are independent on I, and row i times the cofactors is not zero
    independent_step : (i : ℕ) (I J : List ℕ) (d : ℕ → F) → In K (members J) d → ((h : ℕ) → members I h ≡ true → dot K n (Q h) d ≡ 𝟘)
        → (x : ℕ) → x < n → d x ≢ 𝟘 → dot K n (Q i) d ≢ 𝟘 → (S : ℕ → Bool) → ((k : ℕ) → k ≢ x → members J k ≡ true → S k ≡ true)
        → IndependentOn n Q (members I) S → IndependentOn n Q (members (i ∷ I)) (members J)
    independent_step i I J d din zeros x l nx nz S covers fr = record {
      only_zero = λ c s z j m.
          let e : ℕ → F = λ k. d x · c k + neg (c x) · d k in
          let ein : In K S e = λ k nk. by_cases (ℕ_discrete k x)
          (λ q. rw q (still (d x) (c x)))
          (λ nq. gone (d x) (c x) (c k) (d k) (s k (λ mk. nk (covers k nq mk))) (din k (λ mk. nk (covers k nq mk)))) in
          let zero_at : (k : ℕ) → k < n → e k ≡ 𝟘 = fr.only_zero e ein (λ h mh. dot_mix K n (Q h) (d x) (neg (c x)) c d
          ∙ gone (d x) (c x) _ _ (z h (member_tail i I h mh)) (zeros h mh)) in
          let ex : dot K n (Q i) e ≡ 𝟘 = dot_zero K n (Q i) e (λ k lk. ap (λ y. Q i k · y) (zero_at k lk) ∙ mul_zero K (Q i k)) in
          let cx : c x ≡ 𝟘 = solved (d x) (c x) (dot K n (Q i) c) (dot K n (Q i) d) nz (z i (member_head i I))
          (sym (dot_mix K n (Q i) (d x) (neg (c x)) c d) ∙ ex) in
          unmul K (d x) (c j) nx (ending (d x) (c x) (c j) (d j) cx (zero_at j m));
    }
      where
        still : (x y : F) → x · y + neg y · x ≡ 𝟘
        still x y = simp ring

        gone : (x y u v : F) → u ≡ 𝟘 → v ≡ 𝟘 → x · u + neg y · v ≡ 𝟘
        gone x y u v p q = rw (p, q) (simp ring)

        solved : (x y u v : F) → v ≢ 𝟘 → u ≡ 𝟘 → x · u + neg y · v ≡ 𝟘 → y ≡ 𝟘
        solved x y u v nv p q = unmul K v y nv (cc (simp (p, ring) at q, K.mul_comm v y, neg_neg K (v · y), neg_zero K))

        ending : (x y u v : F) → y ≡ 𝟘 → x · u + neg y · v ≡ 𝟘 → x · u ≡ 𝟘
        ending x y u v p q = simp (p, neg_zero K, zero_mul K, K.add_zero) at q

    pub independent_of_nonzero : (I J : List ℕ) → Below n J → expansion K Q I J ≢ 𝟘 → IndependentOn n Q (members I) (members J)
    independent_of_nonzero [] [] b nz = record { only_zero = λ c s z j l. s j (not_member j) }
    independent_of_nonzero [] (j ∷ S) b nz = absurd (nz (unfold expansion in unfold no_rows in refl))
    independent_of_nonzero (i ∷ I) J b nz =
        let d : ℕ → F = cofactor (expansion K Q I) J in
        let e : expansion K Q (i ∷ I) J ≡ dot K n (Q i) d = unfold expansion in along_dot i (expansion K Q I) J b in
        by_cases (some? n (λ j. d j ≢ 𝟘) (λ j. not? (K.decide (d j) 𝟘)))
        (λ h. let r = cofactor_rest (expansion K Q I) J h.0 h.2 in
        independent_step i I J d (cofactor_in (expansion K Q I) J) (λ g m. sym (along_dot g (expansion K Q I) J b) ∙ row_twice g I m J)
        h.0 h.1 h.2 (λ z. nz (e ∙ z)) (members r.columns) r.covers
        (independent_of_nonzero I r.columns (λ k m. b k (r.sub k m)) r.value))
        (λ nh. absurd (nz (e ∙ dot_zero K n (Q i) d (λ j l. by_cases (K.decide (d j) 𝟘) (λ z. rw z (mul_zero K (Q i j))) (λ y. absurd (nh ((j, l, y))))))))

    -- rows in R, as many as the columns J, on which the expansion is not zero
    pub record ChosenRows (R : ℕ → Bool) (J : List ℕ) : Type 0 where
      pub I : List ℕ
      pub size : length I ≡ length J
      pub distinct : Distinct I
      pub among : members I ⊆ R
      pub value : expansion K Q I J ≢ 𝟘

    pub independent_sub : (R S T : ℕ → Bool) → S ⊆ T → IndependentOn n Q R T → IndependentOn n Q R S
    independent_sub R S T e f = record { only_zero = λ c s. f.only_zero c (λ j nt. s j (λ m. nt (e j m))) }

    pub nonzero_of_independent : (a : ℕ) (R : ℕ → Bool) → ((i : ℕ) → R i ≡ true → i < a)
        → (J : List ℕ) → Below n J → Distinct J → IndependentOn n Q R (members J) → ChosenRows R J
    unfolding expansion
    nonzero_of_independent a R ra [] b none f = record { I = []; size = refl; distinct = none; among = λ k m. absurd (not_member k m); value = unfold no_rows in K.one_ne }
    nonzero_of_independent a R ra (x ∷ S) b (more nm ds) f =
        let o = nonzero_of_independent a R ra S (λ k m. b k (member_tail x S k m)) ds (independent_sub R (members S) (members (x ∷ S)) (member_tail x S) f) in
        let g : List ℕ → F = expansion K Q o.I in
        let d : ℕ → F = cofactor g (x ∷ S) in
        by_cases (some? a (λ i. (R i ≡ true) × (dot K n (Q i) d ≢ 𝟘)) (λ i. both? (true? (R i)) (not? (K.decide (dot K n (Q i) d) 𝟘))))
        (λ h. record {
          I = h.0 ∷ o.I;
          size = ap suc o.size;
          distinct = more (λ m. h.2.1 (sym (along_dot h.0 g (x ∷ S) b) ∙ row_twice h.0 o.I m (x ∷ S))) o.distinct;
          among = λ k m. by_cases (ℕ_discrete k h.0) (λ e. rw e h.2.0) (λ ne. o.among k (member_other h.0 o.I k ne m));
          value = λ z. h.2.1 (sym (along_dot h.0 g (x ∷ S) b) ∙ z);
        })
        (λ nh. absurd (o.value (sym (cofactor_head g x S nm) ∙ f.only_zero d (cofactor_in g (x ∷ S))
        (λ i r. by_cases (K.decide (dot K n (Q i) d) 𝟘) (λ z. z) (λ nz. absurd (nh ((i, ra i r, (r, nz))))))
        x (b x (member_head x S)))))
