-- A unit column is struck out together with its row, and so are several: what stays is a minor, up to sign. Assumes nothing.
use Prim.Native.Nat.{ℕ}
use Rattle.std.specs.Prelude.{◌≡◌, ◌≢◌}
use Rattle.std.proofs.Math.Path.{refl, sym, ap, ap₂}
use Rattle.std.proofs.Common.{◌∙◌}
use mathlib.Core.List.{List, [], ◌∷◌}
use Rattle.std.proofs.Math.Logic.{inl, by_cases}
use Rattle.std.proofs.Math.Decide.{ℕ_discrete}
use Rattle.residue.specs.Fields.{Field, one_mul, ring}
use Rattle.counting.specs.Sets.{◌∈◌, ◌⊆◌}
use Rattle.determinants.specs.Determinant.{Letter, Each, done, both}
use Rattle.determinants.specs.Statements.{members, Distinct, none, more, without, rest, rows_of, columns_of}
use Rattle.determinants.specs.Lists.Members.{member_head, member_tail, member_other, member_more, not_member}
use Rattle.determinants.specs.Lists.Without.{without_head, without_tail, without_other, without_apart, without_distinct}
use Rattle.determinants.specs.Expansion.Rows.{expansion, along, along_zero, no_rows}
use Rattle.determinants.specs.Expansion.Signs.{Signed, sign_times, sign_neg, front_row}

module _ (K : Field) (Q : ℕ → ℕ → K.F) where
  open K use {F, 𝟘, 𝟙, ◌+◌, ◌·◌, neg}

  along_zero_column : (i j : ℕ) (f : List ℕ → F) → Q i j ≡ 𝟘 → ((R : List ℕ) → j ∈ members R → f R ≡ 𝟘) → (J : List ℕ) → j ∈ members J → along K Q i f J ≡ 𝟘
  unfolding along
  along_zero_column i j f z h [] m = refl
  along_zero_column i j f z h (k ∷ S) m = by_cases (ℕ_discrete j k)
      (λ e. ap₂ (λ u v. u · f S + neg v) (ap (Q i) (sym e) ∙ z)
      (along_zero K Q i (λ R. f (k ∷ R)) (λ R. h (k ∷ R) (ap (members (k ∷ R)) e ∙ member_head k R)) S) ∙ simp ring)
      (λ ne. let s : j ∈ members S = member_other k S j ne m in
      ap₂ (λ u v. Q i k · u + neg v) (h S s) (along_zero_column i j (λ R. f (k ∷ R)) z (λ R r. h (k ∷ R) (member_tail k R j r)) S s) ∙ simp ring)

  -- a column that is zero in all rows
  zero_column : (j : ℕ) (I J : List ℕ) → ((i : ℕ) → i ∈ members I → Q i j ≡ 𝟘) → j ∈ members J → expansion K Q I J ≡ 𝟘
  unfolding expansion no_rows
  zero_column j [] [] z m = absurd (not_member j m)
  zero_column j [] (k ∷ S) z m = refl
  zero_column j (i ∷ I) J z m = along_zero_column i j (expansion K Q I) (z i (member_head i I))
      (λ R r. zero_column j I R (λ h s. z h (member_tail i I h s)) r) J m

  unit_along : (r j : ℕ) (f : List ℕ → F) → Q r j ≡ 𝟙 → ((R : List ℕ) → j ∈ members R → f R ≡ 𝟘)
      → (J : List ℕ) → j ∈ members J → Signed K (along K Q r f J) (f (without j J))
  unfolding along
  unit_along r j f u h [] m = absurd (not_member j m)
  unit_along r j f u h (k ∷ S) m = by_cases (ℕ_discrete k j)
      (λ e. (
        𝟙,
        inl refl,
        ap₂ (λ v w. v · f S + neg w) (ap (Q r) e ∙ u)
            (along_zero K Q r (λ R. f (k ∷ R)) (λ R. h (k ∷ R) (ap (members (k ∷ R)) (sym e) ∙ member_head k R)) S) ∙ clear (f S)
            ∙ ap (λ L. 𝟙 · f L) (sym (ap (λ y. without j (y ∷ S)) e ∙ without_head j S)),
      ))
      (λ ne. let s : j ∈ members S = member_other k S j (λ e. ne (sym e)) m in
      let w : Signed K (along K Q r (λ R. f (k ∷ R)) S) (f (k ∷ without j S)) = unit_along r j (λ R. f (k ∷ R)) u (λ R t. h (k ∷ R) (member_tail k R j t)) S s in (
        neg w.0,
        sign_neg K w.0 w.1,
        ap₂ (λ v z. Q r k · v + neg z) (h S s) w.2 ∙ turn _ _ _
            ∙ ap (λ L. neg w.0 · f L) (sym (without_tail j k S ne)),
      ))
    where
      clear : (x : F) → 𝟙 · x + neg 𝟘 ≡ 𝟙 · x
      clear x = simp ring

      turn : (x s y : F) → x · 𝟘 + neg (s · y) ≡ neg s · y
      turn x s y = simp ring

  -- column j is a unit column with its 1 in row r
  abbrev pub UnitColumn : ℕ → ℕ → Type 0
  UnitColumn r j = (Q r j ≡ 𝟙) × ((i : ℕ) → i ≢ r → Q i j ≡ 𝟘)

  strike : (r j : ℕ) (I J : List ℕ) → UnitColumn r j → Distinct I → r ∈ members I → j ∈ members J
      → Signed K (expansion K Q I J) (expansion K Q (without r I) (without j J))
  unfolding expansion
  strike r j I J u d mr mj =
      let e = front_row K Q r I mr in
      let w : Signed K (along K Q r (expansion K Q (without r I)) J) (expansion K Q (without r I) (without j J))
      = unit_along r j (expansion K Q (without r I)) u.0
      (λ R t. zero_column j (without r I) R (λ i s. u.1 i (λ q. without_apart r I d (ap (members (without r I)) (sym q) ∙ s))) t) J mj in (
        e.factor · w.0,
        sign_times K e.factor w.0 e.is_sign w.1,
        e.same J ∙ ap (λ z. e.factor · z) w.2 ∙ sym (K.mul_assoc _ _ _),
      )

  -- the unit columns of some letters
  pub minor : (l : List Letter) (I J : List ℕ) → Each (λ x. UnitColumn x.0 x.1) l → Distinct I → Distinct (rows_of l) → Distinct (columns_of l)
      → members (rows_of l) ⊆ members I → members (columns_of l) ⊆ members J
      → Signed K (expansion K Q I J) (expansion K Q (rest (rows_of l) I) (rest (columns_of l) J))
  unfolding rest
  minor [] I J done d none none hr hc = (𝟙, inl refl, sym (one_mul K _))
  minor (x ∷ l) I J (both u us) d (more nr dr) (more nc dc) hr hc =
      let r : ℕ = x.0 in
      let j : ℕ = x.1 in
      let w = strike r j I J u d (hr r (member_head r (rows_of l))) (hc j (member_head j (columns_of l))) in
      let v = minor l (without r I) (without j J) us (without_distinct r I d) dr dc
      (λ k m. without_other r I k (λ e. nr (ap (members (rows_of l)) (sym e) ∙ m)) (hr k (member_tail r (rows_of l) k m)))
      (λ k m. without_other j J k (λ e. nc (ap (members (columns_of l)) (sym e) ∙ m)) (hc k (member_tail j (columns_of l) k m))) in
      (w.0 · v.0, sign_times K w.0 v.0 w.1 v.1, w.2 ∙ ap (λ z. w.0 · z) v.2 ∙ sym (K.mul_assoc _ _ _))

-- the expansion knows the entries where its rows and columns meet, and nothing else
module _ (K : Field) (P Q : ℕ → ℕ → K.F) where
  open K use {F, ◌+◌, ◌·◌, neg}

  along_ext : (i : ℕ) (f g : List ℕ → F) (J : List ℕ) → ((j : ℕ) → j ∈ members J → P i j ≡ Q i j)
      → ((R : List ℕ) → members R ⊆ members J → f R ≡ g R) → along K P i f J ≡ along K Q i g J
  unfolding along
  along_ext i f g [] h e = refl
  along_ext i f g (k ∷ S) h e = ap₂ (λ u v. u + neg v) (ap₂ ◌·◌ (h k (member_head k S)) (e S (member_tail k S)))
      (along_ext i (λ R. f (k ∷ R)) (λ R. g (k ∷ R)) S (λ j m. h j (member_tail k S j m)) (λ R s. e (k ∷ R) (member_more k R S s)))

  pub expansion_ext : (I J : List ℕ) → ((i j : ℕ) → i ∈ members I → j ∈ members J → P i j ≡ Q i j) → expansion K P I J ≡ expansion K Q I J
  unfolding expansion no_rows
  expansion_ext [] [] h = refl
  expansion_ext [] (j ∷ S) h = refl
  expansion_ext (i ∷ I) J h = along_ext i (expansion K P I) (expansion K Q I) J (λ j m. h i j (member_head i I) m)
      (λ R s. expansion_ext I R (λ k j mk mj. h k j (member_tail i I k mk) (s j mj)))
