-- The placed set: it has a legal assignment, comes first in column order, and its size is the rank. Assumes nothing.
use Prim.Native.Nat.{ℕ, zero, suc, ◌+◌, ◌-◌, ◌≤◌, ◌<◌}
use Rattle.std.proofs.Math.Bool.{true}
use Rattle.std.specs.Prelude.{false, ◌≢◌, ◌≡◌, refl}
use Rattle.std.proofs.lemmas.Bool.{false≢true}
use Rattle.std.proofs.Common.{inl, inr, ◌∙◌, ap}
use Rattle.std.proofs.Math.Path.{sym}
use Rattle.std.proofs.Math.Decide.{ℕ_discrete}
use native.Mathlib.Omega.{arith}
use Rattle.counting.specs.Bools.{not_true, true?}
use Rattle.counting.specs.Sets.{#, Set, ◌∈◌, set}
use Rattle.counting.specs.Counts.{#-ext, set_other, set_same}
use Rattle.rank.specs.Graph.States.{Placed, placed_iff, placed_of}
use Rattle.rank.specs.Graph.Layers.{unplaced, unplaced_iff}
use Rattle.rank.specs.Graph.Search.{found}
use Rattle.rank.specs.Layered.Model.{Assignment, Legal, Model, is_placed, out, placing}
use Rattle.rank.specs.Layered.Rank.{placeable, placed, rank, taken}
use Rattle.rank.proofs.Layered.Meaning.{empty_legal, placeable_iff}
use Rattle.rank.proofs.Layered.Restricting.{legal_less, restrict, restrict_in, restrict_less, restrict_out}
use Rattle.rank.specs.Layered.Seating.{Good}
use Rattle.rank.proofs.Layered.Assignments.{assignment, assignment_legal, assignment_places}
use Rattle.rank.proofs.Layered.Augmenting.{OneMore, StateOf, augment}
use Rattle.rank.proofs.Layered.Realise.{realise}
use Rattle.rank.proofs.Layered.Optimal.{rank_placed}

module _ (M : Model) where
  open M use {K, a, b, n, Q, T, E}

  pub taken_yes : (j : ℕ) → placeable M (set (taken M j) j true) ≡ true → taken M (suc j) ≡ set (taken M j) j true
  unfolding taken
  taken_yes j e = rw (e, taken)

  pub taken_no : (j : ℕ) → placeable M (set (taken M j) j true) ≡ false → taken M (suc j) ≡ taken M j
  unfolding taken
  taken_no j e = rw (e, taken)

  -- only columns that were offered so far are taken, and what is decided stays
  pub taken_below : (j x : ℕ) → x ∈ taken M j → x < j
  unfolding taken
  taken_below zero x e = absurd (false≢true e)
  taken_below (suc j) x e = elim (true? (placeable M (set (taken M j) j true))) [
    | yes t ↦ elim (ℕ_discrete x j) [
      | yes d ↦ omega arith
      | no nd ↦ omega (arith, taken_below j x (sym (set_other (taken M j) j true x nd) ∙ sym (ap (λ (S : Set). S x) (taken_yes j t)) ∙ e))
    ]
    | no nt ↦ omega (arith, taken_below j x (sym (ap (λ (S : Set). S x) (taken_no j (not_true _ nt))) ∙ e))
  ]

  taken_step : (j x : ℕ) → x ≢ j → taken M (suc j) x ≡ taken M j x
  taken_step j x ne = elim (true? (placeable M (set (taken M j) j true))) [
    | yes t ↦ ap (λ (S : Set). S x) (taken_yes j t) ∙ set_other (taken M j) j true x ne
    | no nt ↦ ap (λ (S : Set). S x) (taken_no j (not_true _ nt))
  ]

  taken_stays : (d i x : ℕ) → x < i → taken M (i + d) x ≡ taken M i x
  taken_stays zero i x l = let e : i + 0 ≡ i = omega arith in rw e
  taken_stays (suc d) i x l = let e : i + suc d ≡ suc (i + d) = omega arith in rw e (taken_step (i + d) x (omega arith) ∙ taken_stays d i x l)

  pub placed_taken : (i x : ℕ) → i ≤ n → x < i → placed M x ≡ taken M i x
  unfolding placed
  placed_taken i x l lx = let e : i + (n - i) ≡ n = omega arith in rw e at (taken_stays (n - i) i x lx)

  pub placed_below : (x : ℕ) → x ∈ placed M → x < n
  unfolding placed
  placed_below x e = taken_below n x e

  -- S is the placed set of a legal assignment if one places all of S
  placeable_sub : (S : Set) (A : Assignment) → Legal M A → ((x : ℕ) → x < n → x ∈ S → x ∈ placing A) → placeable M S ≡ true
  placeable_sub S A h c = (placeable_iff M S).1 (restrict S A, legal_less M (restrict S A) A (restrict_less S A) h, λ x l. kept x l)
    where
      kept : (x : ℕ) → x < n → placing (restrict S A) x ≡ S x
      kept x l = elim (true? (S x)) [
        | yes e ↦ ap is_placed (restrict_in S A x e) ∙ c x l e ∙ sym e
        | no ne ↦ ap is_placed (restrict_out S A x (not_true (S x) ne)) ∙ sym (not_true (S x) ne)
      ]

  -- what is taken has a legal assignment
  taken_legal : (j : ℕ) → (A : Assignment) × Legal M A × ((x : ℕ) → x < n → placing A x ≡ taken M j x)
  unfolding taken
  taken_legal zero = (λ x. out, empty_legal M, λ x l. refl)
  taken_legal (suc j) = go (taken_legal j)
    where
      go : (A : Assignment) × Legal M A × ((x : ℕ) → x < n → placing A x ≡ taken M j x) → (A : Assignment) × Legal M A × ((x : ℕ) → x < n → placing A x ≡ taken M (suc j) x)
      go w = elim (true? (placeable M (set (taken M j) j true))) [
        | yes t ↦ let v : (A : Assignment) × Legal M A × ((x : ℕ) → x < n → placing A x ≡ set (taken M j) j true x) = (placeable_iff M (set (taken M j) j true)).0 t in
            (v.0, v.1, λ x l. v.2 x l ∙ sym (ap (λ (S : Set). S x) (taken_yes j t)))
        | no nt ↦ (w.0, w.1, λ x l. w.2 x l ∙ sym (ap (λ (S : Set). S x) (taken_no j (not_true _ nt))))
      ]

  pub placed_legal : (A : Assignment) × Legal M A × ((x : ℕ) → x < n → placing A x ≡ placed M x)
  unfolding placed
  placed_legal = taken_legal n

  -- column i, offered when a legal assignment places it and all that was taken before, is taken
  pub taken_if : (i : ℕ) → i < n → (A : Assignment) → Legal M A → ((x : ℕ) → x < i → x ∈ placed M → x ∈ placing A) → i ∈ placing A → i ∈ placed M
  taken_if i l A h c e = placed_taken (suc i) i l (omega arith) ∙ ap (λ (S : Set). S i) (taken_yes i yes_there) ∙ set_same (taken M i) i true
    where
      yes_there : placeable M (set (taken M i) i true) ≡ true
      yes_there = placeable_sub (set (taken M i) i true) A h (λ x lx d. elim (ℕ_discrete x i) [
        | yes k ↦ rw k e
        | no nk ↦
            let t : x ∈ taken M i = sym (set_other (taken M i) i true x nk) ∙ d in
            c x (taken_below i x t) (placed_taken i x (omega arith) (taken_below i x t) ∙ t)
      ])

  -- it comes first: where what a legal assignment places first differs from it, the assignment lacks a column that is taken
  pub placed_first : (A : Assignment) → Legal M A → (i : ℕ) → i < n → ((x : ℕ) → x < i → placing A x ≡ placed M x) → i ∈ placing A → i ∈ placed M
  placed_first A h i l same e = taken_if i l A h (λ x lx p. same x lx ∙ p) e

  -- and its size is the rank
  pub placed_size : # n (placed M) ≡ rank M
  placed_size =
      let t : (A : Assignment) × Legal M A × ((x : ℕ) → x < n → placing A x ≡ placed M x) = placed_legal in
      let r : (s : StateOf M) × Good M s × ((x : ℕ) → x < n → placed_of s x ≡ placing t.0 x) = realise M t.0 t.1 in
      let same : (x : ℕ) → x < n → placed M x ≡ placed_of r.0 x = λ x l. sym (t.2 x l) ∙ sym (r.2 x l) in
      elim (found r.0 (unplaced r.0)) [
        | inr c ↦ #-ext n (placed M) (placed_of r.0) same ∙ sym (rank_placed M r.0 r.1 c)
        | inl f ↦
            let x : ℕ = f.source in
            let new : Placed r.0 x → ⊥ = (unplaced_iff r.0 x).0 f.is_source in
            let v : (s' : StateOf M) × Good M s' × OneMore r.0 s' x = augment M r.0 r.1 x f.length f.below new f.route in
            let B : Assignment = assignment M v.0 in
            let places : (y : ℕ) → y < n → placing B y ≡ set (placed_of r.0) x true y = λ y l. assignment_places M v.0 y l ∙ v.2 y l in
            let t' : x ∈ placed M = taken_if x f.below B (assignment_legal M v.0 v.1)
            (λ y ly e. places y (omega (arith, f.below)) ∙ set_other (placed_of r.0) x true y (omega arith) ∙ sym (same y (omega (arith, f.below))) ∙ e)
            (places x f.below ∙ set_same (placed_of r.0) x true) in
            absurd (new ((placed_iff r.0 x).0 (sym (same x f.below) ∙ t')))
      ]
