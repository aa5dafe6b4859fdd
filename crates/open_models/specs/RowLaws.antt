-- A place set or cleared in a list of rows: what each place says afterwards, and that the rows stay within n. Assumes nothing.
use Rattle.std.specs.Prelude.{ℕ, zero, suc, ◌^◌, ◌<◌, ◌≡◌, ◌≢◌, Bool, ◌&&◌, cond, List, [], ◌∷◌, length, get_or, take, set as store, eqb}
use Rattle.std.proofs.Math.Path.{sym, ap}
use Rattle.std.proofs.Common.{◌∙◌, get_or-set_same, set-set, eq-eqb, ne_eqb}
use Rattle.std.proofs.Math.Logic.{by_cases}
use Rattle.std.proofs.Math.Bool.{true}
use native.Mathlib.Omega.{arith}
use Rattle.std.proofs.Math.Decide.{ℕ_discrete}
use Rattle.std.proofs.Math.ListN.{length-set}
use Rattle.std.proofs.Math.Seq.{get_or-set_other}
use Rattle.std.proofs.lemmas.List.{set-get_or}
use Rattle.counting.specs.Sets.{Set, set}
use Rattle.counting.specs.Counts.{set_same, set_other}
use Rattle.columns.specs.Columns.{width, members, word_of, within}
use Rattle.columns.specs.Words.Operations.{word_members, within_iff}
use Rattle.columns.specs.Words.WordOf.{members_word, word_below, word_same}
use Rattle.format.specs.Lists.{All}
use Rattle.open_models.specs.Open.{with_place, AreWords}

-- ---- a store

store_all : (Is : ℕ → Type 0) (b : ℕ) (ws : List ℕ) (r w : ℕ) → Is w → All Is (take b ws) → All Is (take b (store ws r w))
store_all Is zero ws r w h v = tt
store_all Is (suc b) [] r w h v = tt
store_all Is (suc b) (u ∷ ws) zero w h v = (h, v.1)
store_all Is (suc b) (u ∷ ws) (suc r) w h v = (v.0, store_all Is b ws r w h v.1)

store_below : (ws : List ℕ) (r q w : ℕ) → w < 2 ^ width → get_or ws q 0 < 2 ^ width → get_or (store ws r w) q 0 < 2 ^ width
store_below [] r q w hw hq = hq
store_below (v ∷ ws) zero zero w hw hq = hw
store_below (v ∷ ws) zero (suc q) w hw hq = hq
store_below (v ∷ ws) (suc r) zero w hw hq = hq
store_below (v ∷ ws) (suc r) (suc q) w hw hq = store_below ws r q w hw hq

-- ---- a place

module _ (ws : List ℕ) (r c : ℕ) (v : Bool) where
  pub place_length : length (with_place ws r c v) ≡ length ws
  unfolding with_place
  place_length = length-set ws r (word_of width (set (members (get_or ws r 0)) c v))

  -- the place is as the edit says,
  place_same : r < length ws → c < width → members (get_or (with_place ws r c v) r 0) c ≡ v
  unfolding with_place
  place_same l lc =
      ap (λ (w : ℕ). members w c) (get_or-set_same ws r (word_of width (set (members (get_or ws r 0)) c v)) 0 l)
      ∙ members_word width (set (members (get_or ws r 0)) c v) c lc ∙ set_same (members (get_or ws r 0)) c v

  -- the others of its row and those of other rows as before
  place_row : r < length ws → (x : ℕ) → x < width → x ≢ c → members (get_or (with_place ws r c v) r 0) x ≡ members (get_or ws r 0) x
  unfolding with_place
  place_row l x lx ne =
      ap (λ (w : ℕ). members w x) (get_or-set_same ws r (word_of width (set (members (get_or ws r 0)) c v)) 0 l)
      ∙ members_word width (set (members (get_or ws r 0)) c v) x lx ∙ set_other (members (get_or ws r 0)) c v x ne

  place_other : (q : ℕ) → q ≢ r → get_or (with_place ws r c v) q 0 ≡ get_or ws q 0
  unfolding with_place
  place_other q ne = get_or-set_other ws r q (word_of width (set (members (get_or ws r 0)) c v)) 0 ne

  pub place_words : AreWords ws → AreWords (with_place ws r c v)
  unfolding with_place
  place_words h = record { below = λ q. store_below ws r q _ (word_below width (set (members (get_or ws r 0)) c v)) (h.below q) }

  -- rows within n stay within n
  pub place_within : (n b : ℕ) → c < n → All (λ w. within n w ≡ true) (take b ws) → within n (get_or ws r 0) ≡ true
      → All (λ w. within n w ≡ true) (take b (with_place ws r c v))
  unfolding with_place
  place_within n b lc h hr = store_all (λ w. within n w ≡ true) b ws r (word_of width (set (members (get_or ws r 0)) c v)) inside h
    where
      inside : within n (word_of width (set (members (get_or ws r 0)) c v)) ≡ true
      inside = (within_iff n (word_of width (set (members (get_or ws r 0)) c v))).1 (λ x lx m. elim (ℕ_discrete x c) [
        | yes d ↦ omega arith
        | no nd ↦
            (within_iff n (get_or ws r 0)).0 hr x lx
            (sym (set_other (members (get_or ws r 0)) c v x nd) ∙ sym (members_word width (set (members (get_or ws r 0)) c v) x lx) ∙ m)
      ])

-- every place afterwards
pub place_at : (ws : List ℕ) (r c : ℕ) (v : Bool) → r < length ws → (q x : ℕ) → x < width
    → members (get_or (with_place ws r c v) q 0) x ≡ cond (eqb q r && eqb x c) v (members (get_or ws q 0) x)
place_at ws r c v l q x lx = by_cases (ℕ_discrete q r)
    (λ d. by_cases (ℕ_discrete x c)
    (λ d'. rw (eq-eqb q r d, eq-eqb x c d', d, d') (place_same ws r c v l (rw d' at lx)))
    (λ nd'. rw (eq-eqb q r d, ne_eqb x c nd', d) (place_row ws r c v l x lx nd')))
    (λ nd. rw (ne_eqb q r nd) (ap (λ (w : ℕ). members w x) (place_other ws r c v q nd)))

-- a place put to what it is changes nothing
pub place_old : (ws : List ℕ) (r c : ℕ) → AreWords ws → with_place ws r c (members (get_or ws r 0) c) ≡ ws
unfolding with_place
place_old ws r c h =
    ap (λ (w : ℕ). store ws r w) (word_same width (set S c (S c)) S (λ x l. same x (ℕ_discrete x c)) ∙ sym (word_members width (get_or ws r 0) (h.below r)))
    ∙ set-get_or ws r 0
  where
    S : Set
    S = members (get_or ws r 0)

    same : (x : ℕ) → Dec (x ≡ c) → set (members (get_or ws r 0)) c (members (get_or ws r 0) c) x ≡ members (get_or ws r 0) x
    same x (yes e) = rw e (set_same (members (get_or ws r 0)) c (members (get_or ws r 0) c))
    same x (no ne) = set_other (members (get_or ws r 0)) c (members (get_or ws r 0) c) x ne

-- the last word on a place counts
pub place_twice : (ws : List ℕ) (r c : ℕ) (u v : Bool) → r < length ws → with_place (with_place ws r c u) r c v ≡ with_place ws r c v
unfolding with_place
place_twice ws r c u v l =
    set-set ws r W (word_of width (set (members (get_or (store ws r W) r 0)) c v))
    ∙ ap (λ (w : ℕ). store ws r w)
    (word_same width (set (members (get_or (store ws r W) r 0)) c v) (set (members (get_or ws r 0)) c v) (λ x lx. same x lx (ℕ_discrete x c)))
  where
    W : ℕ
    W = word_of width (set (members (get_or ws r 0)) c u)

    same : (x : ℕ) → x < width → Dec (x ≡ c) → set (members (get_or (store ws r W) r 0)) c v x ≡ set (members (get_or ws r 0)) c v x
    same x lx (yes e) = rw e (set_same (members (get_or (store ws r W) r 0)) c v ∙ sym (set_same (members (get_or ws r 0)) c v))
    same x lx (no ne) =
        set_other (members (get_or (store ws r W) r 0)) c v x ne
        ∙ ap (λ (w : ℕ). members w x) (get_or-set_same ws r W 0 l)
        ∙ members_word width (set (members (get_or ws r 0)) c u) x lx ∙ set_other (members (get_or ws r 0)) c u x ne
        ∙ sym (set_other (members (get_or ws r 0)) c v x ne)
