-- Placing one column: search, seat, search again; what each turn does to the state that is held. Assumes nothing.
use Prim.Native.Nat.{ℕ, suc, ◌+◌, ◌-◌, ◌≤◌, ◌<◌}
use mathlib.Core.Path.{◌≡◌, sym, ◌∙◌, fun_ext}
use mathlib.Core.Logic.{inl, inr}
use mathlib.Core.Bool.{true, false, true≢false, false≢true}
use mathlib.Core.List.{List}
use native.Mathlib.Omega.{arith}
use native.Mathlib.Decide.{dec_le}
use Rattle.counting.specs.Bools.{iff_eq}
use Rattle.counting.specs.Sets.{Set, ◌∈◌}
use Rattle.columns.specs.Columns.{width, none, inserted}
use Rattle.columns.specs.Words.SetLaws.{inserted_same, inserted_split}
use Rattle.rank.specs.Graph.States.{State, Placed, Terminal, SamePlaced, moved_placed}
use Rattle.rank.specs.Graph.Layers.{layer_start, layer_placed}
use Rattle.rank.specs.Graph.Search.{Hit, fall}
use Rattle.rank.proofs.Layered.Augmenting.{only, only_iff, OneMore, entered_more}
use Rattle.columns.specs.declared.ColumnSet.{ColumnSet}
use Rattle.exchange.specs.declared.search.Found.{Found}
use Rattle.exchange.specs.declared.search.Found.TheVariants.{Free, Reached}
use Rattle.exchange.specs.Code.Scanning.{Arrays, touched, owner_at}
use Rattle.exchange.specs.Code.Searching.{Shows, Ended, Searched}
use Rattle.exchange.specs.Code.Placing.{Placing}
use Rattle.exchange.specs.Code.Held.{Given, Held, Vacated, Taken, Sat}
use Rattle.exchange.proofs.HeldLaws.{vacated_other, held_shows, Seated, seat_held}

-- how many turns are left where a search has ended so
abbrev pub steps : Found → ℕ
steps (Free column row depth) = suc depth
steps (Reached reached) = 0

-- the set of column j alone, as the code makes it
pub only_inserted : (j : ℕ) → j < width → inserted none j ≡ only j
only_inserted j l = fun_ext (λ x. iff_eq (inserted none j x) (only j x)
    (λ m. (only_iff j x).1 (elim (inserted_split none j x m) [ inl d ↦ d | inr o ↦ absurd (false≢true o) ]))
    (λ m. let d : x ≡ j = (only_iff j x).0 m in rw d (inserted_same none j l)))

pub same_placed_refl : {n N : ℕ} (s : State n N) → SamePlaced s s
same_placed_refl s z l = (λ w. w, λ w. w)

pub same_placed_trans : {n N : ℕ} (s r u : State n N) → SamePlaced s r → SamePlaced r u → SamePlaced s u
same_placed_trans s r u e f z l = (λ w. (f z l).0 ((e z l).0 w), λ w. (e z l).1 ((f z l).1 w))

-- after a move there is a terminal one layer nearer, so the next search ends there or before
pub nearer : {n N : ℕ} (s : State n N) (S : Set) (i : ℕ) (f : Found) → Hit s S i → Searched s S f → steps f ≤ suc i
nearer s S i (Free column row depth) t d = elim (dec_le depth i) [ yes l ↦ omega arith | no nl ↦ absurd (d.no_earlier i (omega arith) t) ]
nearer s S i (Reached reached) t d = omega arith

module _ (p n a b : ℕ) (ws : List ℕ) (G : Given p n b ws) (S : Set) (t o t' o' : List ℕ) (w : Arrays p n a b t o) (h : Held p n a b ws G t o) where
  -- a column found in a later layer moves
  pub moves : (x q i : ℕ) → Ended h.s S x q (suc i) → Sat p n a (a + b) x q t o t' o' → (h' : Held p n a b ws G t' o') × SamePlaced h.s h'.s × Hit h'.s S i
  moves x q i e d =
      let term : Terminal h.s x = (q, e.is_row, (e.is_free, e.touches)) in
      let v : Seated p n a b ws G t o t' o' x q h = seat_held p n a b ws G t o t' o' x q w h e.below e.is_row e.is_free e.touches d in
      elim v.1 [
        | inl m ↦ (v.0, moved_placed h.s v.0.s x q m.0 m.1, fall h.s v.0.s S i x q m.0 e.inside term (λ k l. e.no_earlier k (omega arith)) m.1)
        | inr u ↦ absurd (elim (layer_placed h.s S (suc i) x e.inside) [
          | inl k ↦ e.no_earlier 0 (omega arith) (x, e.below, (rw (layer_start h.s S) k, term))
          | inr k ↦ u.0 k
        ])
      ]

  pub moves_nearer : (x q depth : ℕ) → 0 < depth → Ended h.s S x q depth → Sat p n a (a + b) x q t o t' o' → (h' : Held p n a b ws G t' o') × SamePlaced h.s h'.s × Hit h'.s S (depth - 1)
  moves_nearer x q depth l e d = let z : depth ≡ suc (depth - 1) = omega arith in moves x q (depth - 1) (rw z at e) d

  -- a column found in the first layer is placed besides
  pub enters : (s₀ : State n (a + b)) (x q : ℕ) → SamePlaced s₀ h.s → (Placed s₀ x → ⊥) → Ended h.s S x q 0 → Taken p n a x q t o t' o' → (h' : Held p n a b ws G t' o') × OneMore s₀ h'.s x
  enters s₀ x q same new e d =
      let unseated : Vacated n (a + b) x o o = λ r lr. sym (vacated_other x n (owner_at o r) (λ z. new ((same x e.below).1 (r, lr, sym (h.owners r lr) ∙ z)))) in
      let sat : Sat p n a (a + b) x q t o t' o' = record { middle = o; full = w.lengths.owners; vacated = unseated; taken = d } in
      let v : Seated p n a b ws G t o t' o' x q h = seat_held p n a b ws G t o t' o' x q w h e.below e.is_row e.is_free e.touches sat in
      elim v.1 [
        | inl m ↦ absurd (new ((same x e.below).1 (m.0, m.1.old_row, m.1.old_owned)))
        | inr u ↦ (v.0, entered_more s₀ h.s v.0.s x q same u.1)
      ]

-- the column found in the first layer of the search from j is j
first_is : {n N : ℕ} (s : State n N) (j x q depth : ℕ) → depth ≤ 0 → Ended s (only j) x q depth → Ended s (only j) j q 0
first_is s j x q depth l d =
    let z : depth ≡ 0 = omega arith in
    let d0 : Ended s (only j) x q 0 = rw z at d in
    let k : x ≡ j = (only_iff j x).0 (rw (layer_start s (only j)) at d0.inside) in
    rw k at d0

-- ---- the loop

-- what a search from j says of every state that the arrays show
pub record Seeks (n a b : ℕ) (ws : List ℕ) (j : ℕ) (t o : List ℕ) (f : Found) : Type 0 where
  pub says : (E : Set) (s : State n (a + b)) → Shows E s (touched a t ws) (owner_at o) → j ∈ E → Searched s (only j) f

pub seeks : {n a b : ℕ} {ws : List ℕ} {j : ℕ} {t o : List ℕ} (f : Found) (start : Set) → j < n → n ≤ width → start ≡ inserted none j
    → ((E : Set) (s : State n (a + b)) → Shows E s (touched a t ws) (owner_at o) → ((y : ℕ) → y ∈ start → (y < n) × (y ∈ E)) → Searched s start f)
    → Seeks n a b ws j t o f
seeks {j = j} f start l w e found = record {
  says = λ E s h i.
      let same : start ≡ only j = e ∙ only_inserted j (omega arith) in
      rw same at (found E s h (λ y m. let d : y ≡ j = (only_iff j y).0 (rw same at m) in rw d (l, i)));
}

-- the arrays t and o hold a state that places what the first did
pub record Holds (p n a b : ℕ) (ws : List ℕ) (j : ℕ) (t₀ o₀ t o : List ℕ) : Type 0 where
  pub now_held : (G : Given p n b ws) (h : Held p n a b ws G t₀ o₀) → j ∈ G.E → (h' : Held p n a b ws G t o) × SamePlaced h.s h'.s

pub holds_first : {p n a b : ℕ} {ws : List ℕ} {j : ℕ} {t o : List ℕ} → Holds p n a b ws j t o t o
holds_first = record { now_held = λ G h e. (h, same_placed_refl h.s) }

module _ {p n a b : ℕ} {ws : List ℕ} {j : ℕ} {t₀ o₀ t o : List ℕ} (w : Arrays p n a b t o) (H : Holds p n a b ws j t₀ o₀ t o) where
  -- what the search found, of the state that is held
  says_held : {f : Found} → Seeks n a b ws j t o f → (G : Given p n b ws) (h : Held p n a b ws G t₀ o₀) (e : j ∈ G.E) → Searched (H.now_held G h e).0.s (only j) f
  says_held R G h e = R.says G.E (H.now_held G h e).0.s (held_shows p n a b ws G t o w (H.now_held G h e).0) e

  -- nothing that is reached has a free row
  pub blocked : {reached : ColumnSet} → Seeks n a b ws j t o (Reached reached) → (G : Given p n b ws) (h : Held p n a b ws G t₀ o₀) → j ∈ G.E → Placing p n a b ws G t₀ o₀ t o j false h
  blocked R G h e = ((H.now_held G h e).0, (λ d. absurd (false≢true d)), λ d. ((H.now_held G h e).1, (says_held R G h e).is_closed))

  module _ {x q depth : ℕ} (R : Seeks n a b ws j t o (Free x q depth)) where
    pub found_below : (G : Given p n b ws) → Held p n a b ws G t₀ o₀ → j ∈ G.E → (x < n) × (q < a + b)
    found_below G h e = let d = says_held R G h e in (d.below, d.is_row)

    -- one turn: the column found is seated, and the next search from j ends nearer
    module _ {t' o' : List ℕ} (pos : 0 < depth) (d : Sat p n a (a + b) x q t o t' o') where
      turned : (G : Given p n b ws) (h : Held p n a b ws G t₀ o₀) (e : j ∈ G.E) → (h' : Held p n a b ws G t' o') × SamePlaced (H.now_held G h e).0.s h'.s × Hit h'.s (only j) (depth - 1)
      turned G h e = moves_nearer p n a b ws G (only j) t o t' o' w (H.now_held G h e).0 x q depth pos (says_held R G h e) d

      pub turn_holds : Holds p n a b ws j t₀ o₀ t' o'
      turn_holds = record { now_held = λ G h e. let v = turned G h e in (v.0, same_placed_trans h.s (H.now_held G h e).0.s v.0.s (H.now_held G h e).1 v.1) }

      pub turn_nearer : {f' : Found} → Arrays p n a b t' o' → Seeks n a b ws j t' o' f' → (G : Given p n b ws) → Held p n a b ws G t₀ o₀ → j ∈ G.E → steps f' ≤ depth
      turn_nearer {f'} w' R' G h e =
          let v = turned G h e in
          omega (arith, nearer v.0.s (only j) (depth - 1) f' v.2 (R'.says G.E v.0.s (held_shows p n a b ws G t' o' w' v.0) e))

    -- at the end j itself takes the row
    pub last_turn : (t' o' : List ℕ) → depth ≡ 0 → Taken p n a j q t o t' o' → (G : Given p n b ws) (h : Held p n a b ws G t₀ o₀) → j ∈ G.E → (Placed h.s j → ⊥) → Placing p n a b ws G t₀ o₀ t' o' j true h
    last_turn t' o' l d G h e new =
        let w = enters p n a b ws G (only j) t o t' o' w (H.now_held G h e).0 h.s j q (H.now_held G h e).1 new (first_is (H.now_held G h e).0.s j x q depth (omega arith) (says_held R G h e)) d in
        (w.0, (λ z. w.1), λ z. absurd (true≢false z))
