-- What the numbers of an answer about blocks say of the model and of its listings, and beside the short set of the layered call; the blocks that they
-- show are the model's listing. Assumes nothing.
use Prim.Native.Nat.{ℕ, zero, suc, ◌-◌, ◌≤◌, ◌<◌}
use Rattle.std.specs.Prelude.{◌≡◌, ◌≢◌, ◌↔◌, Bool, ◌&&◌, ◌||◌, List, get_or}
use Rattle.std.proofs.Math.Path.{refl, ap, ap₂, fun_ext}
use Rattle.std.proofs.Common.{sym, ◌∙◌, subst, arith, lt-ltb, le-ltb}
use Rattle.std.proofs.Math.Bool.{cond, decide, decide_iff}
use Rattle.std.proofs.Math.Decide.{ℕ_discrete, dec_lt}
use Rattle.limits.specs.Limits.{most_columns, no_column}
use Rattle.counting.specs.Bools.{iff_eq, and_in, and_left, and_right}
use Rattle.counting.specs.Sets.{Set, ◌∈◌, Some, any}
use Rattle.counting.specs.Counts.{any_iff}
use Rattle.counting.specs.Choices.{Part}
use Rattle.columns.specs.Columns.{members}
use Rattle.columns.specs.ColumnSets.{whole}
use Rattle.columns.specs.Words.Operations.{least_le}
use Rattle.rank.specs.Layered.Model.{Model}
use Rattle.rank.specs.Layered.Rank.{sum, rank}
use Rattle.dependence.specs.ListingLaws.{listing_at}
use Rattle.listings.specs.Offered.{offered, offered_iff}
use Rattle.listings.specs.Blocks.{share, before, in_no_set, first_of, permitted, Listing, block_count_by, blocks, block_count, block_number}
use Rattle.listings.specs.Listings.Tests.{block_iff, permitted_iff, Next}
use Rattle.listings.specs.BlockLaws.{share_both, before_self, in_no_set_iff}
use Rattle.listings.specs.Theorems.{share_reads, before_reads, the_blocks_are_listed, listing_unique, no_block_is_empty, number_in_every_listing, number_of_its_block, same_number_iff_share, order_kept, short_is_the_last_block, columns_of_no_set_are_the_first_block}
use Rattle.layered.specs.Answers.{Answered}
use Rattle.layered.specs.Shown.{Answer}
use Rattle.blocks.specs.Answers.{shown_number, BlocksAnswered}
use Rattle.blocks.specs.Shown.{Blocks}

-- the columns below n that an answer shows in block i
unfoldable pub shown_block : ℕ → Blocks → ℕ → Set
shown_block n r i x = decide (dec_lt x n) && decide (ℕ_discrete (get_or r.numbers x 0) i)

pub shown_block_iff : (n : ℕ) (r : Blocks) (i x : ℕ) → (x ∈ shown_block n r i) ↔ ((x < n) × (get_or r.numbers x 0 ≡ i))
unfolding shown_block
shown_block_iff n r i x =
    let below = decide (dec_lt x n) in
    let there = decide (ℕ_discrete (get_or r.numbers x 0) i) in (
      λ e. ((decide_iff (dec_lt x n)).0 (and_left below there e), (decide_iff (ℕ_discrete (get_or r.numbers x 0) i)).0 (and_right below there e)),
      λ w. and_in ((decide_iff (dec_lt x n)).1 w.0) ((decide_iff (ℕ_discrete (get_or r.numbers x 0) i)).1 w.1),
    )

-- no set of offered columns whose sum equals the rank has x
abbrev pub InNoSet : Model → ℕ → Type 0
InNoSet M x = (J : Set) → Part M.n M.E J → sum M J ≡ rank M → x ∈ J → ⊥

-- after the first i blocks that r shows, that of y is permitted: it is none of them, and each other block that must come before it is
pub record PermittedAfter (M : Model) (r : Blocks) (i y : ℕ) : Type 0 where
  pub not_yet : i ≤ get_or r.numbers y 0
  pub earlier : (z : ℕ) → z < M.n → get_or r.numbers z 0 ≢ get_or r.numbers y 0 → ((J : Set) → Part M.n M.E J → sum M J ≡ rank M → z ∈ J → y ∈ J) → get_or r.numbers z 0 < i

-- sets that are those of a listing are a listing
module _ (M : Model) (m : ℕ) (B B' : ℕ → Set) (same : (i : ℕ) → i < m → (x : ℕ) → B i x ≡ B' i x) where
  open M use {n, E}

  first_along : (i : ℕ) → i ≤ m → first_of B i ≡ first_of B' i
  unfolding first_of any
  first_along zero l = refl
  first_along (suc i) l =
      let e : first_of B i ≡ first_of B' i = first_along i (omega arith) in
      fun_ext (λ x. ap₂ (λ (s t : Bool). s || t) (ap (λ (D : Set). D x) e) (same i l x))

  listing_along : Listing M m B → Listing M m B'
  listing_along f = record {
    in_one = λ x o. let w : Some m (λ i. x ∈ B i) = f.in_one x o in (w.0, w.1, sym (same w.0 w.1 x) ∙ w.2);
    in_no_other = λ i j x l k e d. f.in_no_other i j x l k (same i l x ∙ e) (same j k x ∙ d);
    only_offered = λ i x l e. f.only_offered i x l (same i l x ∙ e);
    in_order = λ i j x y l k e d b. f.in_order i j x y l k (same i l x ∙ e) (same j k y ∙ d) b;
    is_next = λ i l.
        let w = f.is_next i l in
        let e : first_of B i ≡ first_of B' i = first_along i (omega arith) in (
          w.0,
          w.1,
          (
            subst (λ (D : Set). w.0 ∈ permitted n E (before M) (share M) D) e w.2.0,
            λ y ly q. w.2.1 y ly (subst (λ (D : Set). y ∈ permitted n E (before M) (share M) D) (sym e) q),
            λ y. sym (same i l y) ∙ w.2.2 y,
          ),
        );
  }

-- an answer about a model of which every column is offered
module _ (M : Model) (every : (x : ℕ) → x ∈ M.E) (few : M.n ≤ most_columns) (r : Blocks) (h : BlocksAnswered M r) where
  open M use {n, E}

  -- the number that it shows of a column
  abbrev at : ℕ → ℕ
  at x = get_or r.numbers x 0

  shown_at : (x : ℕ) → x < most_columns → at x ≡ shown_number M x
  shown_at x l = ap (λ (ns : List ℕ). get_or ns x 0) h.numbers_are ∙ listing_at most_columns (shown_number M) x l

  is_number : (x : ℕ) → x < n → at x ≡ block_number M x
  unfolding shown_number
  is_number x l = shown_at x (omega arith) ∙ ap (λ (t : Bool). cond t (block_number M x) no_column) (lt-ltb x n l)

  pub past_columns : (x : ℕ) → n ≤ x → x < most_columns → at x ≡ no_column
  unfolding shown_number
  past_columns x l k = shown_at x k ∙ ap (λ (t : Bool). cond t (block_number M x) no_column) (le-ltb x n l)

  of_columns : (x : ℕ) → x < n → x ∈ offered n E
  of_columns x l = (offered_iff n E x).1 (l, every x)

  pub number_below : (x : ℕ) → x < n → at x < r.count
  number_below x l = omega (arith, (number_of_its_block M x (of_columns x l)).0, is_number x l, h.count_is)

  pub count_most : r.count ≤ n
  unfolding block_count block_count_by
  count_most = let l : block_count M ≤ n = least_le n _ in omega (arith, l, h.count_is)

  -- ---- the blocks

  in_block : (i x : ℕ) → i < r.count → x ∈ blocks M i → (x < n) × (at x ≡ i)
  in_block i x l e =
      let li : i < block_count M = omega (arith, h.count_is) in
      let lx : x < n = ((offered_iff n E x).0 ((the_blocks_are_listed M).only_offered i x li e)).0 in
      (lx, is_number x lx ∙ number_in_every_listing M (block_count M) (blocks M) (the_blocks_are_listed M) i x li e)

  block_of : (i x : ℕ) → x < n → at x ≡ i → x ∈ blocks M i
  block_of i x l e = subst (λ (k : ℕ). x ∈ blocks M k) (sym (is_number x l) ∙ e) (number_of_its_block M x (of_columns x l)).1

  block_shown : (i : ℕ) → i < r.count → (x : ℕ) → blocks M i x ≡ shown_block n r i x
  block_shown i l x = iff_eq (blocks M i x) (shown_block n r i x)
      (λ e. (shown_block_iff n r i x).1 (in_block i x l e))
      (λ e. let w = (shown_block_iff n r i x).0 e in block_of i x w.0 w.1)

  pub shown_listing : Listing M r.count (shown_block n r)
  shown_listing = listing_along M r.count (blocks M) (shown_block n r) block_shown (subst (λ (m : ℕ). Listing M m (blocks M)) (sym h.count_is) (the_blocks_are_listed M))

  pub any_listing : (m : ℕ) (B : ℕ → Set) → Listing M m B → (m ≡ r.count) × ((i x : ℕ) → i < m → (x ∈ B i) ↔ ((x < n) × (at x ≡ i)))
  any_listing m B f =
      let u = listing_unique M m r.count B (shown_block n r) f shown_listing in
      (u.0, λ i x l. ((λ e. (shown_block_iff n r i x).0 (sym (u.1 i l x) ∙ e)), λ w. u.1 i l x ∙ (shown_block_iff n r i x).1 w))

  pub number_occurs : (i : ℕ) → i < r.count → Some n (λ x. at x ≡ i)
  number_occurs i l =
      let w : Some n (λ x. x ∈ shown_block n r i) = no_block_is_empty M r.count (shown_block n r) shown_listing i l in
      (w.0, w.1, ((shown_block_iff n r i w.0).0 w.2).1)

  -- ---- two columns

  module _ (x y : ℕ) (lx : x < n) (ly : y < n) where
    pub same_number : (at x ≡ at y) ↔ ((J : Set) → Part n E J → sum M J ≡ rank M → J x ≡ J y)
    same_number =
        let w = same_number_iff_share M x y (of_columns x lx) (of_columns y ly) in
        let v = share_reads M x y in (
          λ e. v.0 (w.0 (sym (is_number x lx) ∙ e ∙ is_number y ly)),
          λ g. is_number x lx ∙ w.1 (v.1 g) ∙ sym (is_number y ly),
        )

    pub order_shown : ((J : Set) → Part n E J → sum M J ≡ rank M → x ∈ J → y ∈ J) → at x ≤ at y
    order_shown g = omega (arith, is_number x lx, is_number y ly, order_kept M x y (of_columns x lx) (of_columns y ly) ((before_reads M x y).1 g))

  -- ---- which block is next

  listed_iff : (i z : ℕ) → (z ∈ first_of (shown_block n r) i) ↔ ((z < n) × (at z < i))
  unfolding first_of
  listed_iff i z =
      let w = any_iff i (λ k. shown_block n r k z) in (
        λ e. let v = w.0 e in let u = (shown_block_iff n r v.0 z).0 v.2 in (u.0, omega (arith, u.1, v.1)),
        λ u. w.1 (at z, u.1, (shown_block_iff n r (at z) z).1 (u.0, refl)),
      )

  permitted_shown : (i y : ℕ) → y < n → PermittedAfter M r i y → y ∈ permitted n E (before M) (share M) (first_of (shown_block n r) i)
  permitted_shown i y l k = (permitted_iff n E (before M) (share M) (first_of (shown_block n r) i) y).1 (record {
    is_offered = of_columns y l;
    not_listed = λ e. omega (arith, ((listed_iff i y).0 e).1, k.not_yet);
    earlier = λ z w.
        let lz : z < n = ((offered_iff n E z).0 w.is_offered).0 in
        (listed_iff i z).1 (lz, k.earlier z lz (λ e. w.apart ((share_reads M z y).1 ((same_number z y lz l).0 e))) ((before_reads M z y).0 w.is_before));
  })

  pub smallest_next : (i : ℕ) → i < r.count → Some n (λ x. (at x ≡ i) × PermittedAfter M r i x × ((y : ℕ) → y < n → PermittedAfter M r i y → x ≤ y))
  smallest_next i l =
      let w : Next n E (before M) (share M) (shown_block n r) i = shown_listing.is_next i l in
      let o = of_columns w.0 w.1 in
      let itself : w.0 ∈ shown_block n r i = w.2.2 w.0 ∙ (block_iff n E (before M) (share M) w.0 w.0).1 (record { at = o; of = o; with = (share_both M w.0 w.0).1 (before_self M w.0, before_self M w.0) }) in
      let e : at w.0 ≡ i = ((shown_block_iff n r i w.0).0 itself).1 in (
        w.0,
        w.1,
        (
          e,
          record { not_yet = omega (arith, e); earlier = λ z lz ne g. omega (arith, ne, e, order_shown z w.0 lz w.1 g) },
          λ y ly k. w.2.1 y ly (permitted_shown i y ly k),
        ),
      )

  -- ---- the last block and the first

  pub last_is_short : (s : Answer) → Answered M s → (x : ℕ) → x ∈ members (whole s.short) → (y : ℕ) → y < n → (y ∈ members (whole s.short)) ↔ (at y ≡ r.count - 1)
  last_is_short s answer x e y l =
      let v = answer.solved.is_short in
      let w = short_is_the_last_block M x (sym (v x) ∙ e) y in (
        λ f. let d = (w.0 (sym (v y) ∙ f)).1 in omega (arith, d, is_number y l, h.count_is),
        λ d. v y ∙ w.1 (of_columns y l, omega (arith, d, is_number y l, h.count_is)),
      )

  no_set_iff : (x : ℕ) → x < n → (x ∈ in_no_set M) ↔ InNoSet M x
  no_set_iff x l =
      let w = in_no_set_iff M x in (
        λ e J p t. (w.0 e).1 J (record { columns = p; has_sum = t }),
        λ g. w.1 (of_columns x l, λ J t. g J t.columns t.has_sum),
      )

  pub first_are_in_no_set : (x : ℕ) → x < n → InNoSet M x → (y : ℕ) → y < n → InNoSet M y ↔ (at y ≡ 0)
  first_are_in_no_set x lx g y ly =
      let w = columns_of_no_set_are_the_first_block M x ((no_set_iff x lx).1 g) y in (
        λ f. is_number y ly ∙ (w.0 ((no_set_iff y ly).1 f)).1,
        λ d. (no_set_iff y ly).0 (w.1 (of_columns y ly, sym (is_number y ly) ∙ d)),
      )
