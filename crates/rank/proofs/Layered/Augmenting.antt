-- One more column: a route from an unplaced column places it besides; a search from it that closes shows that it cannot be placed. Assumes nothing.
use Rattle.std.specs.Prelude.{ℕ, ◌+◌, ◌<◌, true, ◌≢◌, ◌↔◌, ◌≡◌, refl}
use Rattle.std.proofs.Math.Bool.{decide, decide_iff}
use Rattle.std.proofs.Common.{inl, inr, sym, ◌∙◌, ap, arith}
use Rattle.std.proofs.Math.Decide.{ℕ_discrete}
use Rattle.counting.specs.Bools.{and_in, and_left, and_right, iff_eq}
use Rattle.counting.specs.Sets.{Set, ◌∈◌, ◌∩◌, set}
use Rattle.counting.specs.Counts.{set_other, set_same}
use Rattle.counting.specs.Injections.{#-mono, #-strict}
use Rattle.rank.specs.Graph.States.{Entered, Placed, SamePlaced, State, Terminal, placed_iff, placed_of}
use Rattle.rank.specs.Graph.Routes.{Route}
use Rattle.rank.specs.Graph.Closed.{Closed, closed_count}
use Rattle.rank.specs.Graph.Layers.{layer, layer_placed, source_in_layer}
use Rattle.rank.specs.Graph.Augment.{drive}
use Rattle.rank.specs.Layered.Model.{Assignment, Legal, Model, placing}
use Rattle.rank.specs.Layered.Seating.{Good, pivoting}
use Rattle.rank.proofs.Layered.Assignments.{legal_in}

-- the set of j alone
pub only : ℕ → Set
only j x = decide (ℕ_discrete x j)

pub only_iff : (j x : ℕ) → (x ∈ only j) ↔ (x ≡ j)
unfolding only
only_iff j x = decide_iff (ℕ_discrete x j)

-- x is placed besides
abbrev pub OneMore : {n N : ℕ} → State n N → State n N → ℕ → Type 0
OneMore {n} s s' x = (z : ℕ) → z < n → placed_of s' z ≡ set (placed_of s) x true z

pub entered_more : {n N : ℕ} (s s₁ s₂ : State n N) (x q : ℕ) → SamePlaced s s₁ → Entered s₁ s₂ x q → OneMore s s₂ x
entered_more {n} {N} s s₁ s₂ x q same m z l = elim (ℕ_discrete z x) [
  | yes e ↦ rw (e, set_same) ((placed_iff s₂ x).1 (q, m.row, m.now_owned))
  | no ne ↦ iff_eq (placed_of s₂ z) (placed_of s z) (there ne) (back ne) ∙ sym (set_other (placed_of s) x true z ne)
]
  where
    there : z ≢ x → placed_of s₂ z ≡ true → placed_of s z ≡ true
    there ne p =
        let w : Placed s₂ z = (placed_iff s₂ z).0 p in
        (placed_iff s z).1 ((same z l).1 (w.0, w.1, sym (m.others w.0 w.1 (λ e. ne (cc))) ∙ w.2))

    back : z ≢ x → placed_of s z ≡ true → placed_of s₂ z ≡ true
    back ne p =
        let w : Placed s₁ z = (same z l).0 ((placed_iff s z).0 p) in
        (placed_iff s₂ z).1 (w.0, w.1, m.others w.0 w.1 (λ e. omega (arith, ap s₁.owner e)) ∙ w.2)

module _ (M : Model) where
  open M use {K, a, b, n, Q, T, E}

  -- the states of the model: a + b rows
  abbrev pub StateOf : Type 0
  StateOf = State n (a + b)

  -- a route from an unplaced column: moves along it, and the column enters
  pub augment : (s : StateOf) → Good M s → (x k : ℕ) → x < n → (Placed s x → ⊥) → Route s x k → (s' : StateOf) × Good M s' × OneMore s s' x
  augment s g x k l new p =
      let d : (s' : StateOf) × Good M s' × Terminal s' x × SamePlaced s s' = drive (Good M) (pivoting M) k s x k (omega arith) g p in
      let t : Terminal d.0 x = d.2 in
      let e : (s' : StateOf) × Good M s' × Entered d.0 s' x t.0 = (pivoting M).enter d.0 x t.0 d.1 l (λ w. new ((d.3 x l).1 w)) t.1 t.2.0 t.2.1 in
      (e.0, e.1, entered_more s d.0 e.0 x t.0 d.3 e.2)

  -- A places all that s places
  abbrev pub Covers : Assignment → StateOf → Type 0
  Covers A s = (x : ℕ) → x < n → Placed s x → x ∈ placing A

  -- a search from j that closes without a terminal: the rows that it met are fewer than the columns, so no legal assignment places j besides
  pub failing : (s : StateOf) → Good M s → (j : ℕ) → j < n → (Placed s j → ⊥) → Closed s (layer s (only j) n)
      → (A : Assignment) → Legal M A → Covers A s → j ∈ placing A → ⊥
  failing s g j lj new c A h cov pj =
      let L : Set = layer s (only j) n in
      let jL : j ∈ L = source_in_layer s (only j) n j ((only_iff j j).1 refl) in
      let in_A : (x : ℕ) → x < n → x ∈ L → x ∈ placing A = λ x l e. elim (layer_placed s (only j) n x e) [ inl o ↦ rw ((only_iff j x).0 o) pj | inr p ↦ cov x l p ] in
      omega (
        arith,
        #-mono n L (L ∩ placing A) (λ x l e. and_in e (in_A x l e)),
        legal_in M s g A h L,
        closed_count s L c,
        #-strict n (L ∩ placed_of s) L (λ x l e. and_left (L x) (placed_of s x) e) j lj jL (λ e. new ((placed_iff s j).0 (and_right (L j) (placed_of s j) e))),
      )
