-- The letters of each term of a determinant: letters of its part, by ascending column, no two in one row. So the same letters are the same list, and there are
-- no other coefficients. Assumes nothing.
use Rattle.std.specs.Prelude.{ℕ, ◌<◌, ◌≡◌, Bool, true, false, cond, ◌≢◌}
use Rattle.std.proofs.Math.Path.{refl}
use Rattle.std.proofs.Common.{sym, ap, ◌∙◌}
use mathlib.Core.List.{List, [], ◌∷◌, map}
use Rattle.residue.specs.Fields.{Field}
use Rattle.determinants.specs.Determinant.{arrangements, inversions, sign, Letter, Term, by_number, by_letter, product, determinant, coefficient_at}
use Rattle.determinants.specs.Determinant.{Each, done, both, Ascending}
use Rattle.determinants.specs.Statements.{members, Distinct, none, more, Rearranged, Among, rows_of, columns_of, LettersOf}
use Rattle.determinants.specs.Lists.Among.{each_among, same_list}
use Rattle.determinants.specs.Lists.Each.{each_append, each_flat, each_map}
use Rattle.determinants.specs.Lists.Members.{member_tail, member_more, not_member}
use Rattle.determinants.specs.Lists.Order.{each_members, members_each, ascending_distinct}
use Rattle.determinants.specs.Arrangements.{arranged}
use Rattle.determinants.specs.Letters.Collecting.{collect_some}

module _ (T : ℕ → ℕ → Bool) where
  nothing : (I J : List ℕ) → LettersOf T I J []
  nothing I J = record {
    are_letters = done;
    columns_ascend = tt;
    rows_differ = none;
    rows_within = λ k m. absurd (not_member k m);
    columns_within = λ k m. absurd (not_member k m);
  }

  -- a place more: its constant,
  skipped : (i j : ℕ) (I J : List ℕ) (l : List Letter) → LettersOf T I J l → LettersOf T (i ∷ I) (j ∷ J) l
  skipped i j I J l h = record {
    are_letters = h.are_letters;
    columns_ascend = h.columns_ascend;
    rows_differ = h.rows_differ;
    rows_within = λ k m. member_tail i I k (h.rows_within k m);
    columns_within = λ k m. member_tail j J k (h.columns_within k m);
  }

  -- or its letter
  added : (i j : ℕ) (I J : List ℕ) (l : List Letter) → T i j ≡ true → members I i ≢ true → Each (λ x. j < x) J → LettersOf T I J l
      → LettersOf T (i ∷ I) (j ∷ J) ((i, j) ∷ l)
  added i j I J l t ni a h = record {
    are_letters = both {x = (i, j)} t h.are_letters;
    columns_ascend = (members_each (λ x. j < x) (columns_of l) (λ k m. each_members (λ x. j < x) J a k (h.columns_within k m)), h.columns_ascend);
    rows_differ = more (λ m. ni (h.rows_within i m)) h.rows_differ;
    rows_within = member_more i (rows_of l) I h.rows_within;
    columns_within = member_more j (columns_of l) J h.columns_within;
  }

  arranged_back : (I π J : List ℕ) (l : List Letter) → Rearranged I π → LettersOf T π J l → LettersOf T I J l
  arranged_back I π J l r h = record {
    are_letters = h.are_letters;
    columns_ascend = h.columns_ascend;
    rows_differ = h.rows_differ;
    rows_within = λ k m. sym (ap (λ S. S k) r.same) ∙ h.rows_within k m;
    columns_within = h.columns_within;
  }

module _ (K : Field) (Q : ℕ → ℕ → K.F) (T : ℕ → ℕ → Bool) where
  open K use {𝟘, 𝟙}

  -- the letters of a term are those of the part with rows I and columns J
  abbrev Fits : List ℕ → List ℕ → Term K → Type 0
  Fits I J t = LettersOf T I J t.letters

  product_letters : (π J : List ℕ) → Distinct π → Ascending J → Each (Fits π J) (product K Q T π J)
  unfolding product
  product_letters [] [] d a = both {x = record { coefficient = 𝟙; letters = [] }} (nothing T [] []) done
  product_letters [] (j ∷ J) d a = done
  product_letters (i ∷ π) [] d a = done
  product_letters (i ∷ π) (j ∷ J) (more ni d) a = let h = product_letters π J d a.1 in
      each_append (each_map {P = Fits (i ∷ π) (j ∷ J)} {R = Fits π J} (by_number K (Q i j)) (λ t. skipped T i j π J t.letters) ts h) (go (T i j) refl h)
    where
      ts : List (Term K)
      ts = product K Q T π J

      go : (b : Bool) → T i j ≡ b → Each (Fits π J) ts → Each (Fits (i ∷ π) (j ∷ J)) (cond b (map (by_letter K (i, j)) ts) [])
      go true e h = each_map {P = Fits (i ∷ π) (j ∷ J)} {R = Fits π J} (by_letter K (i, j)) (λ t. added T i j π J t.letters e ni a.0) ts h
      go false e h = done

  term_letters : (I J : List ℕ) → Ascending I → Ascending J → Each (Fits I J) (determinant K Q T I J)
  unfolding determinant
  term_letters I J ia ja = each_flat (λ π. map (by_number K (sign K (inversions π))) (product K Q T π J))
      (λ π r. each_map {P = Fits I J} {R = Fits π J} (by_number K (sign K (inversions π))) (λ t. arranged_back T I π J t.letters r) (product K Q T π J)
      (product_letters π J r.distinct ja)) (arrangements I) (arranged I (ascending_distinct I ia))

  -- there are no coefficients at other letters
  pub only_letters : (I J : List ℕ) → Ascending I → Ascending J → (l : List Letter) → coefficient_at K Q T l I J ≢ 𝟘 → LettersOf T I J l
  only_letters I J ia ja l = collect_some K (LettersOf T I J) l (determinant K Q T I J) (term_letters I J ia ja)

  -- and terms with the same letters have the same list of them
  pub same_lists : (I J : List ℕ) → Ascending I → Ascending J → (t u : Term K) → Among t (determinant K Q T I J) → Among u (determinant K Q T I J)
      → ((x : Letter) → Among x t.letters → Among x u.letters) → ((x : Letter) → Among x u.letters → Among x t.letters) → t.letters ≡ u.letters
  same_lists I J ia ja t u mt mu = same_list (λ x. x.1) t.letters u.letters (ascends t mt) (ascends u mu)
    where
      ascends : (t : Term K) → Among t (determinant K Q T I J) → Ascending (columns_of t.letters)
      ascends t m = (each_among t (determinant K Q T I J) (term_letters I J ia ja) m).columns_ascend
