-- The blocks behind a cut of the listing: together they are a set whose sum equals the rank, so that a block between two cuts has as many equations of its
-- own as columns. Assumes nothing.
use Rattle.std.specs.Prelude.{ℕ, ◌+◌, ◌-◌, ◌≤◌, ◌<◌, ◌≡◌, Bool, true, ◌&&◌, ◌↔◌, leb}
use Rattle.std.proofs.Common.{sym, ◌∙◌}
use Rattle.std.proofs.Math.Path.{ap}
use Rattle.std.proofs.Math.Bool.{false, not, true≢false}
use native.Mathlib.Omega.{arith}
use Rattle.std.proofs.Math.Decide.{ℕ_discrete, dec_lt}
use borrow.Author.Tests.{le-leb, leb-true}
use Rattle.counting.specs.Bools.{not_true, iff_eq, and_in, and_left, and_right, not_both, not_of}
use Rattle.counting.specs.Sets.{Set, ◌∈◌, ◌∩◌, ∁, #, touching}
use Rattle.counting.specs.Counts.{#-ext, #-split, #-none, #-le, Touching, touching_iff}
use Rattle.counting.specs.Choices.{Part}
use Rattle.rank.specs.Graph.Closed.{Closed}
use Rattle.rank.specs.Graph.Layers.{layer, unplaced}
use Rattle.rank.specs.Layered.Seating.{Good}
use Rattle.rank.proofs.Layered.Augmenting.{StateOf}
use Rattle.rank.specs.Layered.Model.{Model}
use Rattle.rank.specs.Layered.Rank.{constant_rank, sum, rank, short, verdict}
use Rattle.rank.specs.Linear.Independence.{Indep}
use Rattle.rank.specs.Linear.Kernels.{hits, indep_count}
use Rattle.rank.proofs.Layered.Meaning.{constant_rank_at}
use Rattle.rank.proofs.Theorems.{verdict_reads}
use Rattle.rank.proofs.Layered.Assignments.{offered_owner}
use Rattle.rank.proofs.Layered.Minimax.{optimal, short_of_E, sum_short, rank_le_sum}
use Rattle.listings.specs.Offered.{offered, offered_iff}
use Rattle.listings.specs.Blocks.{in_no_set, blocks, block_count, block_number}
use Rattle.listings.specs.BlockLaws.{Tight, before_iff, in_no_set_iff}
use Rattle.listings.specs.TightSets.{Shut, tight_shut, shut_tight}
use Rattle.listings.specs.Theorems.{the_blocks_are_listed, number_in_every_listing, number_of_its_block, order_kept, short_is_the_last_block, columns_of_no_set_are_the_first_block}

module _ (M : Model) where
  open M use {K, a, b, n, Q, T, E}

  -- the columns of the blocks from i on
  unfoldable pub from_block : ℕ → Set
  from_block i x = offered n E x && leb i (block_number M x)

  from_iff : (i x : ℕ) → (x ∈ from_block i) ↔ ((x ∈ offered n E) × (i ≤ block_number M x))
  unfolding from_block
  from_iff i x = (
    (λ e. (and_left (offered n E x) (leb i (block_number M x)) e, leb-true i (block_number M x) (and_right (offered n E x) (leb i (block_number M x)) e))),
    λ w. and_in w.0 (le-leb i (block_number M x) w.1),
  )

  abbrev s : StateOf M
  s = (optimal M).0

  abbrev g : Good M (optimal M).0
  g = (optimal M).1

  abbrev c : Closed (optimal M).0 (layer (optimal M).0 (unplaced (optimal M).0) n)
  c = (optimal M).2

  from_shut : (i : ℕ) → 0 < i → i < block_count M → Shut M (optimal M).0 (optimal M).1 (from_block i)
  from_shut i l m = record {
    columns = λ x e. (offered_iff n E x).0 ((from_iff i x).0 e).0;
    has_unplaced = λ y ly oy new.
        let e : y ∈ short M = (tight_shut M s g c (short M) (record { columns = short_of_E M; has_sum = sum_short M })).has_unplaced y ly oy new in
        let w : (y ∈ offered n E) × (block_number M y ≡ block_count M - 1) = (short_is_the_last_block M y e y).0 e in
        (from_iff i y).1 (w.0, omega (arith, w.1));
    along_arcs = λ y z ly e k.
        let oz : z ∈ offered n E = (offered_iff n E z).1 (k.0, rw k.1.2.1 at (offered_owner M s g k.1.0 k.1.1 (rw k.1.2.1 k.0))) in
        let w : (y ∈ offered n E) × (i ≤ block_number M y) = (from_iff i y).0 e in
        (from_iff i z).1 (oz, omega (arith, w.1, order_kept M y z w.0 oz ((before_iff M y z).1 (λ J t h. (tight_shut M s g c J t).along_arcs y z ly h k))));
    no_terminal = λ y e t.
        let w : (y ∈ offered n E) × (i ≤ block_number M y) = (from_iff i y).0 e in
        let none : y ∈ in_no_set M = (in_no_set_iff M y).1 (w.0, λ J u h. (tight_shut M s g c J u).no_terminal y h t) in
        omega (arith, w.1, ((columns_of_no_set_are_the_first_block M y none y).0 none).1);
  }

  -- Any block but the first, with all later ones, is a set whose sum equals the rank.
  pub later_blocks_are_tight : (i : ℕ) → 0 < i → i < block_count M → Part n E (from_block i) × (sum M (from_block i) ≡ rank M)
  later_blocks_are_tight i l m = let t : Tight M (from_block i) = shut_tight M s g c (from_block i) (from_shut i l m) in (t.columns, t.has_sum)

  -- what is in the blocks from i on and not in those after it is block i
  between : (i : ℕ) → i < block_count M → (x : ℕ) → (from_block i ∩ (∁ (from_block (i + 1)) ∩ E)) x ≡ blocks M i x
  between i m x = iff_eq ((from_block i ∩ (∁ (from_block (i + 1)) ∩ E)) x) (blocks M i x)
      (λ e.
      let w : (x ∈ offered n E) × (i ≤ block_number M x) = (from_iff i x).0 (and_left (from_block i x) _ e) in
      let k : not (from_block (i + 1) x) ≡ true = and_left (not (from_block (i + 1) x)) (E x) (and_right (from_block i x) _ e) in
      let d : block_number M x ≡ i = elim (dec_lt i (block_number M x)) [
        | yes l ↦ absurd (not_both (from_block (i + 1) x) k ((from_iff (i + 1) x).1 (w.0, omega arith)))
        | no nl ↦ omega (arith, w.1)
      ] in
      rw d at (number_of_its_block M x w.0).1)
      (λ e.
      let o : x ∈ offered n E = (the_blocks_are_listed M).only_offered i x m e in
      let d : block_number M x ≡ i = number_in_every_listing M (block_count M) (blocks M) (the_blocks_are_listed M) i x m e in
      and_in ((from_iff i x).1 (o, omega (arith, d))) (and_in (not_of (from_block (i + 1) x) (λ k. omega (arith, d, ((from_iff (i + 1) x).0 k).1))) ((offered_iff n E x).0 o).1))

  outside : (i x : ℕ) → (∁ (from_block i) ∩ (∁ (from_block (i + 1)) ∩ E)) x ≡ (∁ (from_block i) ∩ E) x
  outside i x = iff_eq ((∁ (from_block i) ∩ (∁ (from_block (i + 1)) ∩ E)) x) ((∁ (from_block i) ∩ E) x)
      (λ e. and_in (and_left (not (from_block i x)) _ e) (and_right (not (from_block (i + 1) x)) (E x) (and_right (not (from_block i x)) _ e)))
      (λ e. and_in (and_left (not (from_block i x)) (E x) e) (and_in (not_of (from_block (i + 1) x) (λ k.
      let w : (x ∈ offered n E) × (i + 1 ≤ block_number M x) = (from_iff (i + 1) x).0 k in
      not_both (from_block i x) (and_left (not (from_block i x)) (E x) e) ((from_iff i x).1 (w.0, omega (arith, w.1))))) (and_right (not (from_block i x)) (E x) e)))

  -- what a block adds to the rank of the constants of the later blocks, and the parameter rows that touch it and no later block, are as many as its columns
  abbrev pub HasItsEquations : ℕ → Type 0
  HasItsEquations i = constant_rank M (from_block i) + # b (touching n T (from_block i)) ≡ constant_rank M (from_block (i + 1)) + # b (touching n T (from_block (i + 1))) + # n (blocks M i)

  by_two_cuts : (i : ℕ) → i < block_count M → sum M (from_block i) ≡ rank M → sum M (from_block (i + 1)) ≡ rank M → HasItsEquations i
  unfolding sum
  by_two_cuts i m e f = omega (
    arith,
    e,
    f,
    #-split n (from_block i) (∁ (from_block (i + 1)) ∩ E),
    #-ext n (from_block i ∩ (∁ (from_block (i + 1)) ∩ E)) (blocks M i) (λ x k. between i m x),
    #-ext n (∁ (from_block i) ∩ (∁ (from_block (i + 1)) ∩ E)) (∁ (from_block i) ∩ E) (λ x k. outside i x),
  )

  -- So a block that is neither the first nor the last has as many equations of its own as columns.
  pub middle_block_has_its_equations : (i : ℕ) → 0 < i → i + 1 < block_count M → HasItsEquations i
  middle_block_has_its_equations i l m = by_two_cuts i (omega arith) (later_blocks_are_tight i l (omega arith)).1 (later_blocks_are_tight (i + 1) (omega arith) m).1

  -- ---- determined models

  -- no block: the sum is the number of columns
  none_tight : rank M ≡ # n E → sum M (from_block (block_count M)) ≡ rank M
  unfolding sum
  none_tight e =
      let J : Set = from_block (block_count M) in
      let empty : (x : ℕ) → J x ≡ false = λ x. not_true (J x) (λ k. let w : (x ∈ offered n E) × (block_count M ≤ block_number M x) = (from_iff (block_count M) x).0 k in omega (arith, w.1, (number_of_its_block M x w.0).0)) in
      let S : (S : Set) × Part n J S × Indep K a n Q S × (# n S ≡ constant_rank M J) = constant_rank_at M J in
      omega (
        arith,
        e,
        S.3,
        #-ext n S.0 (λ x. false) (λ x l. not_true (S.0 x) (λ k. true≢false (sym (S.1 x k).1 ∙ empty x))),
        #-none n,
        #-ext b (touching n T J) (λ q. false) (λ q l. not_true (touching n T J q) (λ k. let w : Touching n T J q = (touching_iff n T J q).0 k in true≢false (sym w.2.0 ∙ empty w.0))),
        #-none b,
        #-ext n (∁ J ∩ E) E (λ x l. ap (λ (v : Bool). not v && E x) (empty x)),
      )

  -- all blocks: no sum is below the rank, and this one is at most the number of rows
  all_tight : rank M ≡ a + b → sum M (from_block 0) ≡ rank M
  unfolding sum
  all_tight e =
      let J : Set = from_block 0 in
      let S : (S : Set) × Part n J S × Indep K a n Q S × (# n S ≡ constant_rank M J) = constant_rank_at M J in
      omega (
        arith,
        e,
        rank_le_sum M J,
        S.3,
        indep_count {P = Q} {S = S.0} {T = J} S.2 (λ x k. (S.1 x k).1),
        #-le a (touching n (hits K Q) J),
        #-le b (touching n T J),
        #-ext n (∁ J ∩ E) (λ x. false) (λ x l. not_true ((∁ J ∩ E) x) (λ k. not_both (J x) (and_left (not (J x)) (E x) k) ((from_iff 0 x).1 ((offered_iff n E x).1 (l, and_right (not (J x)) (E x) k), omega arith)))),
        #-none n,
      )

  -- In a determined model every block has as many equations of its own as columns.
  pub determined_blocks_have_their_equations : verdict M ≡ 1 → (i : ℕ) → i < block_count M → HasItsEquations i
  determined_blocks_have_their_equations v i m = by_two_cuts i m (cut i (omega arith)) (cut (i + 1) (omega arith))
    where
      reads : (rank M ≡ # n E) × (rank M ≡ a + b)
      reads = (verdict_reads M).0.0 v

      cut : (k : ℕ) → k ≤ block_count M → sum M (from_block k) ≡ rank M
      cut k l = elim (ℕ_discrete k 0) [
        | yes z ↦ rw z (all_tight reads.1)
        | no nz ↦ elim (ℕ_discrete k (block_count M)) [ yes z ↦ rw z (none_tight reads.0) | no nc ↦ (later_blocks_are_tight k (omega arith) (omega arith)).1 ]
      ]
