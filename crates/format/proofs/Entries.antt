-- The entries of a row's body one by one, as loops read, test and write them. Assumes nothing.
use Prim.Native.Nat.{ℕ, zero, suc, ◌+◌, ◌-◌, ◌*◌, ◌/◌, ◌%◌, ◌≤◌, ◌<◌}
use mathlib.Core.Path.{◌≡◌, refl, sym, ap, ◌∙◌}
use mathlib.Core.List.{List, [], ◌∷◌, ◌++◌}
use native.Mathlib.Omega.{arith}
use mathlib.Core.Bool.{Bool, true, false, ◌&&◌}
use denote.Ref.{Bor}
use denote.Param.Members.{Mut}
use lib.ListN.{length, get_or, drop, length-append}
use Rattle.std.proofs.Math.Seq.{drop-append-add}
use Rattle.std.specs.Prelude.{Option, Some, None}
use Rattle.std.specs.Fn.{Called}
use Rattle.std.specs.Option.{MatchOption}
use Rattle.std.specs.List.{FoldsTo}
use Rattle.std.specs.Iterator.{Yields, YieldsThen}
use Rattle.std.specs.Slice.Iter.{chunks_exact_rest, chunks_exact_size, chunks_exact_steps, chunks_rest, chunks_size, chunks_steps}
use Rattle.std.proofs.lemmas.Iterator.{YieldsList}
use Rattle.std.proofs.lemmas.Iterator.Splits.{YieldsList-from_shown_while}
use Rattle.format.specs.Lists.{all_pass}
use Rattle.format.specs.ListLaws.{nothing, all_pass_append, all_pass_done}
use Rattle.format.specs.File.Format.{entries, entry_bytes}

-- ---- read

pub entries_next : (s : List ℕ) → 2 ≤ length s → entries s ≡ (get_or s 0 0 + 256 * get_or s 1 0) ∷ entries (drop 2 s)
unfolding entries
entries_next [] h = absurd (omega arith)
entries_next (x ∷ []) h = absurd (omega arith)
entries_next (x ∷ y ∷ s) h = refl

pub entries_done : (s : List ℕ) → length s < 2 → entries s ≡ []
unfolding entries
entries_done [] h = refl
entries_done (x ∷ []) h = refl
entries_done (x ∷ y ∷ s) h = absurd (omega arith)

-- by their places
pub entry_there : (i : ℕ) (s : List ℕ) → 2 * i + 1 < length s → get_or (entries s) i 0 ≡ get_or s (2 * i) 0 + 256 * get_or s (2 * i + 1) 0
unfolding entries
entry_there i [] h = absurd (omega arith)
entry_there i (x ∷ []) h = absurd (omega arith)
entry_there zero (x ∷ y ∷ s) h = refl
entry_there (suc i) (x ∷ y ∷ s) h =
    let p : 2 * suc i ≡ suc (suc (2 * i)) = omega arith in
    let q : 2 * suc i + 1 ≡ suc (suc (2 * i + 1)) = omega arith in
    rw q (rw p (entry_there i s (omega arith)))

pub entry_past : (i : ℕ) (s : List ℕ) → length s ≤ 2 * i + 1 → get_or (entries s) i 0 ≡ 0
unfolding entries
entry_past i [] h = refl
entry_past i (x ∷ []) h = refl
entry_past zero (x ∷ y ∷ s) h = absurd (omega arith)
entry_past (suc i) (x ∷ y ∷ s) h = entry_past i s (omega arith)

pub entries_length : (n : ℕ) (s : List ℕ) → length s ≡ 2 * n → length (entries s) ≡ n
unfolding entries
entries_length zero [] h = refl
entries_length (suc n) [] h = absurd (omega arith)
entries_length n (x ∷ []) h = absurd (omega arith)
entries_length zero (x ∷ y ∷ s) h = absurd (omega arith)
entries_length (suc n) (x ∷ y ∷ s) h = ap suc (entries_length n s (omega arith))

-- ---- written

pub entry_bytes_next : (s : List ℕ) → 0 < length s → entry_bytes s ≡ (get_or s 0 0 % 256 ∷ get_or s 0 0 / 256 ∷ []) ++ entry_bytes (drop 1 s)
unfolding entry_bytes
entry_bytes_next [] h = absurd (omega arith)
entry_bytes_next (c ∷ s) h = refl

pub entry_bytes_done : (s : List ℕ) → length s ≤ 0 → entry_bytes s ≡ []
unfolding entry_bytes
entry_bytes_done [] h = refl
entry_bytes_done (c ∷ s) h = absurd (omega arith)

pub entry_bytes_append : (xs ys : List ℕ) → entry_bytes (xs ++ ys) ≡ entry_bytes xs ++ entry_bytes ys
unfolding entry_bytes
entry_bytes_append [] ys = refl
entry_bytes_append (x ∷ xs) ys = ap (λ (t : List ℕ). x % 256 ∷ x / 256 ∷ t) (entry_bytes_append xs ys)

-- ---- in pairs, as a slice is cut into chunks

pub entries_pair : (x s : List ℕ) → length x ≡ 2 → entries (x ++ s) ≡ (get_or x 0 0 + 256 * get_or x 1 0) ∷ entries s
unfolding entries
entries_pair [] s h = absurd (omega arith)
entries_pair (a ∷ []) s h = absurd (omega arith)
entries_pair (a ∷ b ∷ []) s h = refl
entries_pair (a ∷ b ∷ d ∷ x) s h = absurd (omega arith)

-- four pairs
pub entries_four : (x s : List ℕ) → length x ≡ 8
    → (entries x ≡ (get_or x 0 0 + 256 * get_or x 1 0) ∷ (get_or x 2 0 + 256 * get_or x 3 0) ∷ (get_or x 4 0 + 256 * get_or x 5 0) ∷ (get_or x 6 0 + 256 * get_or x 7 0) ∷ [])
    × (entries (x ++ s) ≡ entries x ++ entries s)
unfolding entries
entries_four [] s h = absurd (omega arith)
entries_four (x₁ ∷ []) s h = absurd (omega arith)
entries_four (x₁ ∷ x₂ ∷ []) s h = absurd (omega arith)
entries_four (x₁ ∷ x₂ ∷ x₃ ∷ []) s h = absurd (omega arith)
entries_four (x₁ ∷ x₂ ∷ x₃ ∷ x₄ ∷ []) s h = absurd (omega arith)
entries_four (x₁ ∷ x₂ ∷ x₃ ∷ x₄ ∷ x₅ ∷ []) s h = absurd (omega arith)
entries_four (x₁ ∷ x₂ ∷ x₃ ∷ x₄ ∷ x₅ ∷ x₆ ∷ []) s h = absurd (omega arith)
entries_four (x₁ ∷ x₂ ∷ x₃ ∷ x₄ ∷ x₅ ∷ x₆ ∷ x₇ ∷ []) s h = absurd (omega arith)
entries_four (x₁ ∷ x₂ ∷ x₃ ∷ x₄ ∷ x₅ ∷ x₆ ∷ x₇ ∷ x₈ ∷ []) s h = (refl, refl)
entries_four (x₁ ∷ x₂ ∷ x₃ ∷ x₄ ∷ x₅ ∷ x₆ ∷ x₇ ∷ x₈ ∷ x₉ ∷ x) s h = absurd (omega arith)

-- the bytes at the end that make no four
abbrev pub no_eight : List ℕ → List ℕ
no_eight s = drop (length s - length s % 8) s

pub no_eight_next : (x s : List ℕ) → length x ≡ 8 → no_eight (x ++ s) ≡ no_eight s
no_eight_next x s h =
    let e : length (x ++ s) - length (x ++ s) % 8 ≡ length x + (length s - length s % 8) = omega (arith, length-append x s) in
    rw e (drop-append-add x s (length s - length s % 8))

pub no_eight_done : (s : List ℕ) → length s < 8 → no_eight s ≡ s
no_eight_done s h =
    let e : length s - length s % 8 ≡ 0 = omega arith in
    rw e refl

pub pairs : (s : _) → chunks_exact_size s ≡ 2 → YieldsList (chunks_exact_steps {A = ℕ}) (λ x. get_or x.now 0 0 + 256 * get_or x.now 1 0) s (entries (chunks_exact_rest s))
pairs s h =
    YieldsList-from_shown_while (chunks_exact_steps {A = ℕ}) (λ x. get_or x.now 0 0 + 256 * get_or x.now 1 0) (λ t. entries (chunks_exact_rest t)) (λ t. chunks_exact_size t ≡ 2)
    (λ t u p e. ap length (entries_done (chunks_exact_rest t) (omega (arith, e.1.0))))
    (λ t x u p e. (e.0 ∙ p, ap entries e.1.0 ∙ entries_pair x.now (chunks_exact_rest u) (e.1.1 ∙ p))) s h

-- ---- in parts, as `chunks` cuts a slice: what `all` says of a test of the parts, where it is one of each element

passes_parts : (f : ℕ → Bool) (x s t : List ℕ) → s ≡ x ++ t → all_pass f x ≡ true → all_pass f s ≡ all_pass f t
passes_parts f x s t e h = ap (all_pass f) e ∙ all_pass_append f x t ∙ ap (λ b. b && all_pass f t) h

fails_parts : (f : ℕ → Bool) (x s t : List ℕ) → s ≡ x ++ t → all_pass f x ≡ false → all_pass f s ≡ false
fails_parts f x s t e h = ap (all_pass f) e ∙ all_pass_append f x t ∙ ap (λ b. b && all_pass f t) h

module _ {F : Type 0} {g : Mut F (Bor (List ℕ) × Unit {0}) Bool} (f : ℕ → Bool) (c : F) (r : Bool)
    (one : (x : Bor (List ℕ)) (b : Bool) (q : F) → 0 < length x.now → Called g c (x, tt) b q → (q ≡ c) × (b ≡ all_pass f x.now)) where
  parts_from : (xs : List (Bor (List ℕ))) (s t u : _) (o : Option (Bor (List ℕ))) (d j : F) → d ≡ c → 0 < chunks_size s
      → Yields chunks_steps s xs t → chunks_steps t o u → FoldsTo (λ p x q. Called g p (x, tt) true q) d xs j
      → MatchOption o (r ≡ true) (λ x. (r ≡ false) × ((h : F) × Called g j (x, tt) false h)) → r ≡ all_pass f (chunks_rest s)
  parts_from [] s t u None d j e z y w v m =
      m ∙ sym (ap (all_pass f) (ap chunks_rest y ∙ nothing (chunks_rest t) (omega (arith, w.1.0))) ∙ all_pass_done f)
  parts_from [] s t u (Some x) d j e z y w v m =
      let h = rw (← v, e) at m.1.1 in
      m.0 ∙ sym (fails_parts f x.now (chunks_rest s) (chunks_rest u) (ap chunks_rest y ∙ w.1.0) (sym (one x false _ (omega (arith, ap chunks_size y, w.1.1, w.1.2)) h).1))
  parts_from (x ∷ xs) s t u o d j e z y w v m =
      let k = one x true v.0 (omega (arith, y.1.1.1, y.1.1.2)) (rw e at v.1) in
      parts_from xs y.0 t u o v.0 j k.0 (omega (arith, y.1.0)) y.2 w v.2 m ∙ sym (passes_parts f x.now (chunks_rest s) (chunks_rest y.0) y.1.1.0 (sym k.1))

  pub all_from_parts : (s u : _) → 0 < chunks_size s
      → (xs : List (Bor (List ℕ))) × (o : Option (Bor (List ℕ))) × (j : F) × YieldsThen chunks_steps s xs o u × FoldsTo (λ p x q. Called g p (x, tt) true q) c xs j × MatchOption o (r ≡ true) (λ x. (r ≡ false) × ((h : F) × Called g j (x, tt) false h))
      → r ≡ all_pass f (chunks_rest s)
  all_from_parts s u z (xs, o, j, y, v, m) = parts_from xs s y.0 u o c j refl z y.1 y.2 v m
