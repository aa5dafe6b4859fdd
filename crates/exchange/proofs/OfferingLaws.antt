-- Offering the columns of a set, from the least upward: what holds after each. Assumes nothing.
use Prim.Native.Nat.{ℕ, zero, suc, ◌+◌, ◌-◌, ◌≤◌, ◌<◌}
use mathlib.Core.Path.{◌≡◌, refl, sym, ap, ◌∙◌}
use mathlib.Core.Logic.{◌↔◌, inl, inr}
use mathlib.Core.Bool.{Bool, true, false, false≢true}
use mathlib.Core.List.{List}
use lib.ListN.{get_or, replicate, get_or-replicate}
use native.Mathlib.Omega.{arith}
use native.Mathlib.Decide.{ℕ_discrete}
use Rattle.counting.specs.Bools.{not_true}
use Rattle.counting.specs.Sets.{Set, ◌∈◌, set}
use Rattle.counting.specs.Counts.{set_same, set_other}
use Rattle.columns.specs.Columns.{width, members, none, inserted, removed}
use Rattle.columns.specs.Words.SetLaws.{inserted_same, inserted_old, inserted_split, removed_old, removed_gone, removed_other}
use Rattle.rank.specs.Graph.States.{Placed, SamePlaced, placed_of, placed_iff}
use Rattle.rank.specs.Layered.Model.{Model, Assignment, placing, Legal}
use Rattle.rank.specs.Layered.Rank.{taken}
use Rattle.rank.proofs.Layered.Meaning.{placeable_iff}
use Rattle.rank.proofs.Layered.Augmenting.{StateOf, OneMore}
use Rattle.rank.proofs.Layered.ColumnOrder.{taken_no}
use Rattle.rank.proofs.Layered.Offers.{Offered, offered_none, offered_same, offered_new, took, passed}
use Rattle.rank.specs.Modulus.{residue_of}
use Rattle.rank.specs.Layered.Valid.{state}
use Rattle.rank.specs.Layered.Seating.{empty_valid}
use Rattle.exchange.specs.Sizes.{lines}
use Rattle.exchange.specs.Code.Cells.{cell}
use Rattle.exchange.specs.Code.Scanning.{owner_at}
use Rattle.exchange.specs.Code.Held.{Given, model_of, ShowsConstants, Held}
use Rattle.exchange.specs.Code.Placing.{Placing}
use Rattle.exchange.specs.Code.Offering.{Offers, Offered-all}

-- ---- columns that are not offered are passed over

module _ (M : Model) (s : StateOf M) where
  open M use {n, E}

  offered_skip : (j : ℕ) → j < n → (j ∈ E → ⊥) → Offered M s j → Offered M s (suc j)
  offered_skip j l no-offer o x lx = o x lx ∙ sym (ap (λ (S : Set). S x) (taken_no M j (not_true _ (λ e.
      let w : (A : Assignment) × Legal M A × ((x : ℕ) → x < n → placing A x ≡ set (taken M j) j true x) = (placeable_iff M (set (taken M j) j true)).0 e in
      no-offer (w.1.offered j (w.2 j l ∙ set_same (taken M j) j true)).1))))

  pub offered_until : (i j k : ℕ) → j ≡ k + i → j ≤ n → ((x : ℕ) → i ≤ x → x < j → x ∈ E → ⊥) → Offered M s i → Offered M s j
  offered_until i j zero e l none_there o = let d : j ≡ i = omega arith in rw d o
  offered_until i j (suc k) e l none_there o =
      let d : j ≡ suc (k + i) = omega arith in
      rw d (offered_skip (k + i) (omega arith) (none_there (k + i) (omega arith) (omega arith)) (offered_until i (k + i) k refl (omega arith) (λ x h m. none_there x h (omega arith)) o))

-- ---- the loop

-- the offered columns below `next` have been offered; `rest` has the others, `placed` those that are placed
pub record Offering (p n a b : ℕ) (ws : List ℕ) (G : Given p n b ws) (t o : List ℕ) (rest placed : Set) : Type 0 where
  pub held : Held p n a b ws G t o
  pub next : ℕ
  pub low : next ≤ n
  pub so_far : Offered (model_of p n a b ws G) held.s next
  pub left : (x : ℕ) → (x ∈ rest) ↔ ((x < n) × (x ∈ G.E) × (next ≤ x))
  pub are_placed : (x : ℕ) → (x ∈ placed) ↔ ((x < n) × Placed held.s x)

module _ {p n a b : ℕ} {ws : List ℕ} {G : Given p n b ws} where
  pub offering_start : {t o : List ℕ} {offered : Set} → Offers p n a b ws offered t o G → Offering p n a b ws G t o offered none
  unfolding taken
  offering_start m = record {
    held = m.held;
    next = 0;
    low = omega arith;
    so_far = m.none_yet;
    left = λ x. ((λ e. let w = (m.columns x).0 e in (w.0, w.1, omega arith)), λ w. (m.columns x).1 (w.0, w.1));
    are_placed = λ x. ((λ e. absurd (false≢true e)), λ w. absurd (false≢true (sym (m.none_yet x w.0) ∙ (placed_iff m.held.s x).1 w.1)));
  }

  module _ {t o : List ℕ} {rest placed : Set} (d : Offering p n a b ws G t o rest placed) (j : ℕ) (there : j ∈ rest) (first : (x : ℕ) → x ∈ rest → j ≤ x) where
    pub next_below : j < n
    next_below = ((d.left j).0 there).0

    pub next_offered : j ∈ G.E
    next_offered = ((d.left j).0 there).1

    at_next : Offered (model_of p n a b ws G) d.held.s j
    at_next =
        let l : d.next ≤ j = ((d.left j).0 there).2 in
        offered_until (model_of p n a b ws G) d.held.s d.next j (j - d.next) (omega arith) (omega (arith, next_below))
        (λ x h m e. omega (arith, first x ((d.left x).1 (omega (arith, next_below), e, h)))) d.so_far

    pub next_new : Placed d.held.s j → ⊥
    next_new = offered_new (model_of p n a b ws G) d.held.s j next_below at_next

    left_after : (x : ℕ) → (x ∈ removed rest j) ↔ ((x < n) × (x ∈ G.E) × (suc j ≤ x))
    left_after x = (
      (λ e. let w = (d.left x).0 (removed_old rest j x e) in (w.0, w.1, omega (arith, first x (removed_old rest j x e), removed_gone rest j x e))),
      λ w. removed_other rest j x ((d.left x).1 (w.0, w.1, omega (arith, ((d.left j).0 there).2))) (omega arith),
    )

    pub offering_yes : {t' o' : List ℕ} {r : Bool} → n ≤ width → r ≡ true → Placing p n a b ws G t o t' o' j r d.held → Offering p n a b ws G t' o' (removed rest j) (inserted placed j)
    offering_yes hn placed-it v =
        let s = d.held.s in
        let s' = v.0.s in
        let more : OneMore s s' j = v.1 placed-it in
        let here : Placed s' j = (placed_iff s' j).0 (more j next_below ∙ set_same (placed_of s) j true) in
        record {
          held = v.0;
          next = suc j;
          low = next_below;
          so_far = took (model_of p n a b ws G) s d.held.good j next_below at_next s' v.0.good more;
          left = left_after;
          are_placed = λ x. (
            (λ e. elim (inserted_split placed j x e) [
              | inl z ↦ rw z (next_below, here)
              | inr k ↦ let w = (d.are_placed x).0 k in (
                w.0,
                elim (ℕ_discrete x j) [
                  | yes z ↦ rw z here
                  | no nz ↦ (placed_iff s' x).0 (more x w.0 ∙ set_other (placed_of s) j true x nz ∙ (placed_iff s x).1 w.1)
                ],
              )
            ]),
            λ w. elim (ℕ_discrete x j) [
              | yes z ↦ rw z (inserted_same placed j (omega (arith, next_below)))
              | no nz ↦ inserted_old placed j x ((d.are_placed x).1 (w.0, (placed_iff s x).0 (sym (set_other (placed_of s) j true x nz) ∙ sym (more x w.0) ∙ (placed_iff s' x).1 w.1)))
            ],
          );
        }

    pub offering_no : {t' o' : List ℕ} {r : Bool} → r ≡ false → Placing p n a b ws G t o t' o' j r d.held → Offering p n a b ws G t' o' (removed rest j) placed
    offering_no blocked v =
        let same : SamePlaced d.held.s v.0.s = (v.2 blocked).0 in
        record {
          held = v.0;
          next = suc j;
          low = next_below;
          so_far = passed (model_of p n a b ws G) v.0.s v.0.good j next_below (offered_same (model_of p n a b ws G) d.held.s v.0.s j same at_next) (v.2 blocked).1;
          left = left_after;
          are_placed = λ x. (
            (λ e. let w = (d.are_placed x).0 e in (w.0, (same x w.0).0 w.1)),
            λ w. (d.are_placed x).1 (w.0, (same x w.0).1 w.1),
          );
        }

  -- the last column has been offered
  pub offering_done : {t o : List ℕ} {rest placed : Set} → Offering p n a b ws G t o rest placed → ((x : ℕ) → x ∈ rest → ⊥) → Offered-all p n a b ws G t o placed
  offering_done d none_left = record {
    held = d.held;
    all_offered = offered_until (model_of p n a b ws G) d.held.s d.next n (n - d.next) (omega (arith, d.low)) (omega arith) (λ x h l e. none_left x ((d.left x).1 (l, e, h))) d.so_far;
    are_placed = d.are_placed;
  }

-- ---- nothing is placed at first

-- every row is free
pub none_owned : (n N : ℕ) → N ≤ lines → (q : ℕ) → q < N → owner_at (replicate lines n) q ≡ n
none_owned n N h q l = get_or-replicate lines q n 0 (omega arith)

module _ (p n a b : ℕ) (ws : List ℕ) (t o : List ℕ) (free : (q : ℕ) → q < a + b → owner_at o q ≡ n) where
  pub offers_start : (offered : Set) (G : Given p n b ws) → ShowsConstants p n a b ws G t → ((x : ℕ) → (x ∈ offered) ↔ ((x < n) × (x ∈ G.E))) → Offers p n a b ws offered t o G
  unfolding state
  offers_start offered G h m =
      let M = model_of p n a b ws G in
      record {
        held = record {
          s = state M G.Q (λ q. n) (empty_valid M);
          good = record { P = G.Q; reads = λ q x. refl; kernel = (empty_valid M).kernel; tableau = (empty_valid M).tableau };
          cells = h;
          owners = free;
        };
        none_yet = offered_none M;
        columns = m;
      }

  -- the model that the arrays themselves show
  pub offers_some : (offered : Set) → ((x : ℕ) → x ∈ offered → x < n) → (G : Given p n b ws) × Offers p n a b ws offered t o G
  offers_some offered l =
      let G : Given p n b ws = record { Q = λ i x. residue_of p (cell t i x); T = λ r x. members (get_or ws r 0) x; E = offered; parameters = λ r x lr lx. refl } in
      (G, offers_start offered G (λ i x li lx. refl) (λ x. ((λ e. (l x e, e)), λ w. w.1)))
