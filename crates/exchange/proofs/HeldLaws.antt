-- The arrays that hold a state show it to the search, and hold the next one when a column is seated. Assumes nothing.
use Prim.Native.Nat.{ℕ, ◌+◌, ◌-◌, ◌*◌, ◌≤◌, ◌<◌}
use mathlib.Core.Path.{◌≡◌, refl, sym, ap, ◌∙◌}
use mathlib.Core.Logic.{◌≢◌, ◌↔◌, ◌⊎◌, inl, inr}
use mathlib.Core.Bool.{Bool, true, not, ◌&&◌, cond, true≢false}
use mathlib.Core.List.{List}
use native.Mathlib.Omega.{arith}
use native.Mathlib.Decide.{ℕ_discrete, dec_lt}
use lib.ListN.{length}
use lib.ListN as ListN
use lib.Dec.{eqb}
use lib.Seq.{get_or-set_same, get_or-set_other}
use borrow.Author.Tests.{ne_eqb, eq-eqb}
use Rattle.residue.specs.Arithmetic.{is_prime}
use Rattle.counting.specs.Bools.{iff_eq}
use Rattle.counting.specs.Sets.{◌∈◌, set}
use Rattle.counting.specs.Counts.{some?, set_same, set_other}
use Rattle.rank.specs.Modulus.{field_of, residue_of}
use Rattle.rank.specs.ModulusLaws.{residue_zero}
use Rattle.rank.specs.Linear.Kernels.{hits, hits_iff}
use Rattle.rank.specs.Graph.States.{Placed, Moved, Entered}
use Rattle.rank.specs.Layered.Model.{Model}
use Rattle.rank.specs.Layered.Valid.{touch, touch_constant, touch_row, Valid, state, seated, seated_constant, seated_row, seat_valid}
use Rattle.rank.specs.Layered.Seating.{good_valid, freed, moved_valid, moved}
use Rattle.rank.proofs.Layered.Assignments.{offered_owner}
use Rattle.exchange.specs.Sizes.{stride, lines}
use Rattle.exchange.specs.Code.Cells.{cell, Below, Pivoted}
use Rattle.exchange.specs.Code.Scanning.{Arrays, touched, owner_at}
use Rattle.exchange.proofs.ScanningLaws.{touched_constant, touched_parameter}
use Rattle.exchange.specs.Code.Searching.{Shows}
use Rattle.exchange.specs.Code.Held.{vacated_owner, Sat, Given, model_of, ShowsRows, Held}
use Rattle.exchange.proofs.PivotLaws.{pivoted_cells}

-- the owner of a row that x leaves, and that of another
pub vacated_same : (x n y : ℕ) → y ≡ x → vacated_owner x n y ≡ n
unfolding vacated_owner
vacated_same x n y e = ap (λ c. cond c n y) (eq-eqb y x e)

pub vacated_other : (x n y : ℕ) → y ≢ x → vacated_owner x n y ≡ y
unfolding vacated_owner
vacated_other x n y ne = ap (λ c. cond c n y) (ne_eqb y x ne)

module _ (p n a b : ℕ) (ws : List ℕ) (G : Given p n b ws) where
  abbrev M : Model
  M = model_of p n a b ws G

  module _ (prime : is_prime p ≡ true) where
    nonzero : (v : ℕ) → v < p → (not (eqb v 0) ≡ true) ↔ (residue_of p v ≢ (field_of p).𝟘)
    nonzero v l = (
      λ e z. true≢false (sym e ∙ ap not (eq-eqb v 0 ((residue_zero p prime v l).0 z))),
      λ nz. ap not (ne_eqb v 0 (λ z. nz ((residue_zero p prime v l).1 z))),
    )

    shows : (t o : List ℕ) → Below p t → (h : Held p n a b ws G t o) → Shows G.E h.s (touched a t ws) (owner_at o)
    shows t o bt h = record {
      touch = λ q x l m e. at q x l m e ∙ sym (h.good.reads q x);
      owner = h.owners;
      offered = offered_owner M h.s h.good;
    }
      where
        all_offered : (b : Bool) {x : ℕ} → x ∈ G.E → (G.E x && b) ≡ b
        all_offered b e = ap (λ c. c && b) e

        at : (q x : ℕ) → q < a + b → x < n → x ∈ G.E → touched a t ws q x ≡ touch M h.good.P q x
        at q x l m o = elim (dec_lt q a) [
          | no nl ↦
              touched_parameter a t ws q x (omega arith) ∙ sym (G.parameters (q - a) x (omega arith) m)
              ∙ sym (touch_row M h.good.P q x (omega arith) ∙ all_offered _ o)
          | yes lq ↦
              let e : residue_of p (cell t q x) ≡ h.good.P q x = h.cells q x lq m in
              touched_constant a t ws q x lq
              ∙ iff_eq (not (eqb (cell t q x) 0)) (hits (field_of p) h.good.P q x)
              (λ d. (hits_iff (field_of p) h.good.P q x).1 (rw (sym e) ((nonzero (cell t q x) (bt (q * stride + x))).0 d)))
              (λ d. (nonzero (cell t q x) (bt (q * stride + x))).1 (rw e ((hits_iff (field_of p) h.good.P q x).0 d)))
              ∙ sym (touch_constant M h.good.P q x lq ∙ all_offered _ o)
        ]

    seated_cells : (t u : List ℕ) (P : ℕ → ℕ → (field_of p).F) (q x : ℕ) → Below p t → ShowsRows p n a P t
        → x < n → (q < a → Pivoted p n a q x t u) → (a ≤ q → u ≡ t) → ShowsRows p n a (seated M P q x) u
    seated_cells t u P q x bt e lx d k r c lr lc = elim (dec_lt q a) [
      | yes l ↦ pivoted_cells p prime n a t u P q x bt e l lx (d l) r c lr lc ∙ sym (ap (λ f. f r c) (seated_constant M P q x l))
      | no nl ↦ ap (λ v. residue_of p (cell v r c)) (k (omega arith)) ∙ e r c lr lc ∙ sym (ap (λ f. f r c) (seated_row M P q x (omega arith)))
    ]

  pub held_shows : (t o : List ℕ) → Arrays p n a b t o → (h : Held p n a b ws G t o) → Shows G.E h.s (touched a t ws) (owner_at o)
  held_shows t o w h = shows w.prime t o w.below h

  -- a store to the owners
  stored : (o : List ℕ) (f : ℕ → ℕ) (q v : ℕ) → length o ≡ lines → a + b ≤ lines → q < a + b → ((r : ℕ) → r < a + b → owner_at o r ≡ f r) → (r : ℕ) → r < a + b → owner_at (ListN.set o q v) r ≡ set f q v r
  stored o f q v lo lab lq e r lr = elim (ℕ_discrete r q) [
    | yes d ↦ rw (d, set_same) (get_or-set_same o q v 0 (omega arith))
    | no nd ↦ get_or-set_other o q r v 0 nd ∙ e r lr ∙ sym (set_other f q v r nd)
  ]

  -- what seating gives: a state held by the new lists, to which x moved from its row, or which it entered
  abbrev pub Seated : (t o t' o' : List ℕ) (x q : ℕ) → Held p n a b ws G t o → Type 0
  Seated t o t' o' x q h = (h' : Held p n a b ws G t' o') × (((q' : ℕ) × Moved h.s h'.s x q q') ⊎ ((Placed h.s x → ⊥) × Entered h.s h'.s x q))

  module _ (t o t' o' : List ℕ) (x q : ℕ) (w : Arrays p n a b t o) (h : Held p n a b ws G t o)
      (lx : x < n) (lq : q < a + b) (fq : n ≤ h.s.owner q) (tq : h.s.touch q x ≡ true) (d : Sat p n a (a + b) x q t o t' o') where
    -- who owns the rows between, when x has left its own
    abbrev MiddleOwners : (ℕ → ℕ) → Type 0
    MiddleOwners f = (r : ℕ) → r < a + b → owner_at d.middle r ≡ f r

    middle_owner : (r : ℕ) → r < a + b → owner_at d.middle r ≡ vacated_owner x n (h.s.owner r)
    middle_owner r lr = d.vacated r lr ∙ ap (vacated_owner x n) (h.owners r lr)

    middle_moved : (q' : ℕ) → q' < a + b → h.s.owner q' ≡ x → MiddleOwners (set h.s.owner q' n)
    middle_moved q' lq' so r lr = elim (ℕ_discrete r q') [
      | yes e ↦ middle_owner r lr ∙ vacated_same x n (h.s.owner r) (ap h.s.owner e ∙ so) ∙ sym (rw e (set_same h.s.owner q' n))
      | no ne ↦ middle_owner r lr
          ∙ vacated_other x n (h.s.owner r) (λ z. ne (sym (h.s.owns_one q' r lq' lr (omega (arith, so)) (so ∙ sym z))))
          ∙ sym (set_other h.s.owner q' n r ne)
    ]

    middle_new : ((r : ℕ) → r < a + b → h.s.owner r ≢ x) → MiddleOwners h.s.owner
    middle_new new r lr = middle_owner r lr ∙ vacated_other x n (h.s.owner r) (new r lr)

    after : (f : ℕ → ℕ) → MiddleOwners f → (r : ℕ) → r < a + b → owner_at o' r ≡ set f q x r
    after f e r lr = ap (λ l. owner_at l r) d.taken.owners ∙ stored d.middle f q x d.full w.lengths.all_rows lq e r lr

    moving : (q' : ℕ) → q' < a + b → h.s.owner q' ≡ x → Seated t o t' o' x q h
    unfolding state freed
    moving q' lq' so =
        let w0 : Valid M (seated M h.good.P q x) (set (set h.s.owner q' n) q x) = moved_valid M h.s h.good x q q' lx lq fq tq lq' so in (
          record {
            s = state M (seated M h.good.P q x) (set (set h.s.owner q' n) q x) w0;
            good = record { P = seated M h.good.P q x; reads = λ r z. refl; kernel = w0.kernel; tableau = w0.tableau };
            cells = seated_cells w.prime t t' h.good.P q x w.below h.cells lx d.taken.pivoted d.taken.kept;
            owners = after (set h.s.owner q' n) (middle_moved q' lq' so);
          },
          inl (q', moved M h.s h.good x q q' lx lq fq tq lq' so),
        )

    entering : ((r : ℕ) → r < a + b → h.s.owner r ≢ x) → Seated t o t' o' x q h
    unfolding state
    entering none =
        let w0 : Valid M (seated M h.good.P q x) (set h.s.owner q x)
        = seat_valid M h.good.P h.s.owner (good_valid M h.s h.good) q x lx none lq (sym (h.good.reads q x) ∙ tq) in (
          record {
            s = state M (seated M h.good.P q x) (set h.s.owner q x) w0;
            good = record { P = seated M h.good.P q x; reads = λ r z. refl; kernel = w0.kernel; tableau = w0.tableau };
            cells = seated_cells w.prime t t' h.good.P q x w.below h.cells lx d.taken.pivoted d.taken.kept;
            owners = after h.s.owner (middle_new none);
          },
          inr (
            λ v. none v.0 v.1 v.2,
            record { column = lx; row = lq; was_free = fq; now_owned = set_same h.s.owner q x; others = λ r l ne. set_other h.s.owner q x r ne },
          ),
        )

    pub seat_held : Seated t o t' o' x q h
    seat_held = elim (some? (a + b) (λ r. h.s.owner r ≡ x) (λ r. ℕ_discrete (h.s.owner r) x)) [
      | yes v ↦ moving v.0 v.1 v.2
      | no nv ↦ entering (λ r lr e. nv (r, lr, e))
    ]
