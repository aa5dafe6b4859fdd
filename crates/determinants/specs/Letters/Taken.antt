-- The letters that an assignment takes. Assumes nothing.
use Rattle.std.specs.Prelude.{ℕ, ◌<◌, ◌≡◌, refl, Bool, true, ◌≢◌}
use Rattle.std.proofs.Math.Path.{sym, ap}
use Rattle.std.proofs.Common.{ap₂, subst, ◌∙◌, true≢false, arith}
use Rattle.std.proofs.lemmas.Bool.{false≢true}
use mathlib.Core.List.{List, [], ◌∷◌}
use Rattle.std.proofs.Math.Logic.{inl, inr, by_cases}
use Rattle.std.proofs.Math.Decide.{ℕ_discrete}
use Rattle.counting.specs.Counts.{set_same, set_other}
use Rattle.counting.specs.Sets.{◌∈◌, ◌⊆◌, set}
use Rattle.rank.specs.Layered.Model.{Seat, out, constant, row, Assignment, is_placed, is_constant, placing}
use Rattle.determinants.specs.Determinant.{Letter, Each, done, both, Ascending}
use Rattle.determinants.specs.Statements.{members, Among, columns_of, LettersOf}
use Rattle.determinants.specs.Lists.Each.{each_imp}
use Rattle.determinants.specs.Lists.Members.{member_head, member_tail, member_other, not_member}
use Rattle.determinants.specs.Lists.Order.{each_members, member_map, above_apart}

-- the letters that an assignment takes at the columns J
abbrev pub letter_taken : Seat → ℕ → List Letter → List Letter
letter_taken out j l = l
letter_taken constant j l = l
letter_taken (row r) j l = (r, j) ∷ l

unfoldable pub letters_taken : Assignment → List ℕ → List Letter
letters_taken A [] = []
letters_taken A (j ∷ J) = letter_taken (A j) j (letters_taken A J)

taken_other : (A : Assignment) (j : ℕ) (s : Seat) (J : List ℕ) → members J j ≢ true → letters_taken (set A j s) J ≡ letters_taken A J
unfolding letters_taken
taken_other A j s [] nm = refl
taken_other A j s (k ∷ J) nm = ap₂ (λ u v. letter_taken u k v) (set_other A j s k (λ e. nm (ap (members (k ∷ J)) (sym e) ∙ member_head k J)))
    (taken_other A j s J (λ m. nm (member_tail k J j m)))

-- l are the letters that an assignment of exactly the columns J takes
pub record Taken (J : List ℕ) (l : List Letter) : Type 0 where
  pub seats : Assignment
  pub takes : l ≡ letters_taken seats J
  pub places : (j : ℕ) → placing seats j ≡ members J j

taken_more : (j : ℕ) (J : List ℕ) (l : List Letter) (s : Seat) → is_placed s ≡ true → members J j ≢ true → Taken J l → Taken (j ∷ J) (letter_taken s j l)
unfolding letters_taken members
taken_more j J l s p nm h = record {
  seats = set h.seats j s;
  takes = ap₂ (λ u v. letter_taken u j v) (sym (set_same h.seats j s)) (h.takes ∙ sym (taken_other h.seats j s J nm));
  places = λ k. by_cases (ℕ_discrete k j)
      (λ e. rw e (ap is_placed (set_same h.seats j s) ∙ p ∙ sym (set_same (members J) j true)))
      (λ ne. ap is_placed (set_other h.seats j s k ne) ∙ h.places k ∙ sym (set_other (members J) j true k ne));
}

-- with every column on the constant side none is taken
pub taken_constant : (J : List ℕ) → letters_taken (λ _. constant) J ≡ []
unfolding letters_taken
taken_constant [] = refl
taken_constant (j ∷ J) = taken_constant J

-- a column takes its letter, or none
taken_cases : (P : List Letter → Type 0) (s : Seat) (j : ℕ) (l : List Letter) → (((r : ℕ) → s ≢ row r) → P l) → ((r : ℕ) → s ≡ row r → P ((r, j) ∷ l)) → P (letter_taken s j l)
taken_cases P out j l f g = f (λ r e. false≢true (ap is_placed e))
taken_cases P constant j l f g = f (λ r e. true≢false (ap is_constant e))
taken_cases P (row r) j l f g = g r refl

module _ (A : Assignment) where
  -- the letters taken stand at columns of J, each in its column's row,
  taken_seats : (J : List ℕ) → Each (λ x. (A x.1 ≡ row x.0) × (x.1 ∈ members J)) (letters_taken A J)
  unfolding letters_taken
  taken_seats [] = done
  taken_seats (j ∷ J) =
      let tail : Each (λ x. (A x.1 ≡ row x.0) × (x.1 ∈ members (j ∷ J))) (letters_taken A J)
      = each_imp (λ x h. (h.0, member_tail j J x.1 h.1)) (letters_taken A J) (taken_seats J) in
      taken_cases (Each (λ x. (A x.1 ≡ row x.0) × (x.1 ∈ members (j ∷ J)))) (A j) j (letters_taken A J)
      (λ nr. tail)
      (λ r e. both {x = (r, j)} (e, member_head j J) tail)

  taken_columns : (J : List ℕ) → members (columns_of (letters_taken A J)) ⊆ members J
  taken_columns J k m = let w = member_map (λ x. x.1) (letters_taken A J) (taken_seats J) k m in subst (λ y. y ∈ members J) w.2 w.1.1

  pub first_column : (J : List ℕ) (i j : ℕ) (l : List Letter) → letters_taken A J ≡ (i, j) ∷ l → j ∈ members J
  first_column J i j l e = taken_columns J j (ap (λ m. members (columns_of m) j) e ∙ member_head j (columns_of l))

  -- and all columns on rows have theirs
  taken_among : (J : List ℕ) (j r : ℕ) → j ∈ members J → A j ≡ row r → Among (r, j) (letters_taken A J)
  unfolding letters_taken
  taken_among [] j r m e = absurd (not_member j m)
  taken_among (k ∷ J) j r m e = taken_cases (Among (r, j)) (A k) k (letters_taken A J)
      (λ nr. taken_among J j r (member_other k J j (λ q. nr r (ap A (sym q) ∙ e)) m) e)
      (λ q d. by_cases (ℕ_discrete j k)
      (λ w. let same : row r ≡ row q = sym e ∙ ap A w ∙ d in let p : r ≡ q = cc in inl (λ i. (p i, w i)))
      (λ nw. inr (taken_among J j r (member_other k J j nw m) e)))

-- the same of letters that some assignment takes
module _ (J : List ℕ) (l : List Letter) (t : Taken J l) where
  pub letters_seated : Each (λ x. t.seats x.1 ≡ row x.0) l
  letters_seated = subst (Each (λ x. t.seats x.1 ≡ row x.0)) (sym t.takes) (each_imp (λ x e. e.0) (letters_taken t.seats J) (taken_seats t.seats J))

  pub seated_letter : (x r : ℕ) → x ∈ members J → t.seats x ≡ row r → Among (r, x) l
  seated_letter x r m e = subst (Among (r, x)) (sym t.takes) (taken_among t.seats J x r m e)

-- letters by ascending column, at columns of J, are those of an assignment
taken_by : (J : List ℕ) (l : List Letter) → Ascending J → Ascending (columns_of l) → members (columns_of l) ⊆ members J → Taken J l
unfolding letters_taken members
taken_by [] [] a c h = record { seats = λ _. out; takes = refl; places = λ j. refl }
taken_by [] (x ∷ l) a c h = absurd (not_member x.1 (h x.1 (member_head x.1 (columns_of l))))
taken_by (j ∷ J) [] a c h = taken_more j J [] constant refl (above_apart j J a.0) (taken_by J [] a.1 tt (λ k m. absurd (not_member k m)))
taken_by (j ∷ J) (x ∷ l) a c h = by_cases (ℕ_discrete x.1 j)
    (λ e. subst (λ y. Taken (j ∷ J) (y ∷ l)) (λ i. (x.0, sym e i)) (taken_more j J l (row x.0) refl (above_apart j J a.0)
    (taken_by J l a.1 c.1 (λ k m. member_other j J k (λ d. above_apart x.1 (columns_of l) c.0 (ap (members (columns_of l)) (e ∙ sym d) ∙ m))
    (h k (member_tail x.1 (columns_of l) k m))))))
    (λ ne. taken_more j J (x ∷ l) constant refl (above_apart j J a.0) (taken_by J (x ∷ l) a.1 c (λ k m. member_other j J k (behind ne k m) (h k m))))
  where
    first : x.1 ≢ j → j < x.1
    first ne = each_members (λ y. j < y) J a.0 x.1 (member_other j J x.1 ne (h x.1 (member_head x.1 (columns_of l))))

    behind : x.1 ≢ j → (k : ℕ) → k ∈ members (columns_of (x ∷ l)) → k ≢ j
    behind ne k m d = by_cases (ℕ_discrete k x.1) (λ e. ne (sym e ∙ d))
        (λ nk. omega (arith, first ne, d, each_members (λ y. x.1 < y) (columns_of l) c.0 k (member_other x.1 (columns_of l) k nk m)))

pub taken_of : (T : ℕ → ℕ → Bool) (I J : List ℕ) (l : List Letter) → Ascending J → LettersOf T I J l → Taken J l
taken_of T I J l a h = taken_by J l a h.columns_ascend h.columns_within
