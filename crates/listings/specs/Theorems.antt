-- Document 02, E7: the blocks are listed by the rules, there is no other listing, each column is in exactly one block, the order is kept, the short set
-- is the last block and the columns of no such set are the first. Assumes nothing.
use Rattle.std.specs.Prelude.{ℕ, ◌-◌, ◌≤◌, ◌<◌, ◌≡◌, true, ◌↔◌}
use Rattle.std.proofs.Math.Path.{sym}
use Rattle.std.proofs.Common.{◌∙◌, subst, arith}
use Rattle.counting.specs.Sets.{Set, ◌∈◌, Some}
use Rattle.counting.specs.Choices.{Part}
use Rattle.columns.specs.Words.Operations.{least_in, least_first}
use Rattle.rank.specs.Layered.Model.{Model}
use Rattle.rank.specs.Layered.Rank.{sum, rank, short}
use Rattle.rank.proofs.Layered.Minimax.{short_of_E}
use Rattle.listings.specs.Offered.{offered, offered_iff}
use Rattle.listings.specs.Blocks.{share, before, in_no_set, first_of, block, permitted, Listing, blocks, block_count, block_number}
use Rattle.listings.specs.Listings.Tests.{Block, block_iff, permitted_iff, Next}
use Rattle.listings.specs.Listings.Unique.{same_listing}
use Rattle.listings.specs.Listings.Made.{the_listing, permitted_whole}
use Rattle.listings.specs.BlockLaws.{share_iff, before_iff, share_both, before_self, before_via, in_no_set_iff, short_before, short_shares, in_no_set_before, in_no_set_shares}

module _ (M : Model) where
  open M use {n, E}

  -- Two columns share a block exactly if every set whose sum equals the rank has both or neither.
  pub share_reads : (x y : ℕ) → (share M x y ≡ true) ↔ ((J : Set) → Part n E J → sum M J ≡ rank M → J x ≡ J y)
  share_reads x y = (
    λ e J p t. (share_iff M x y).0 e J (record { columns = p; has_sum = t }),
    λ h. (share_iff M x y).1 (λ J t. h J t.columns t.has_sum),
  )

  -- The block of x must come before that of y, if it is another, where each such set that has x has y.
  pub before_reads : (x y : ℕ) → (before M x y ≡ true) ↔ ((J : Set) → Part n E J → sum M J ≡ rank M → x ∈ J → y ∈ J)
  before_reads x y = (
    λ e J p t. (before_iff M x y).0 e J (record { columns = p; has_sum = t }),
    λ h. (before_iff M x y).1 (λ J t. h J t.columns t.has_sum),
  )

  -- The blocks are a listing by the rules,
  pub the_blocks_are_listed : Listing M (block_count M) (blocks M)
  unfolding blocks block_count
  the_blocks_are_listed = the_listing n E (before M) (share M) (before_self M) (before_via M) (share_both M)

  -- and two listings of one model that keep the rules are equal.
  pub listing_unique : (m m' : ℕ) (B B' : ℕ → Set) → Listing M m B → Listing M m' B' → (m ≡ m') × ((i : ℕ) → i < m → (x : ℕ) → B i x ≡ B' i x)
  listing_unique = same_listing n E (before M) (share M)

  -- Each column is in exactly one block,
  pub each_column_in_one_block : (x : ℕ) → x ∈ offered n E
      → Some (block_count M) (λ i. (x ∈ blocks M i) × ((j : ℕ) → j < block_count M → x ∈ blocks M j → j ≡ i))
  each_column_in_one_block x o =
      let w : Some (block_count M) (λ i. x ∈ blocks M i) = the_blocks_are_listed.in_one x o in
      (w.0, w.1, (w.2, λ j l e. the_blocks_are_listed.in_no_other j w.0 x l w.1 e w.2))

  module _ (m : ℕ) (B : ℕ → Set) (f : Listing M m B) where
    -- and no block is empty: so the blocks partition the columns.
    pub no_block_is_empty : (i : ℕ) → i < m → Some n (λ x. x ∈ B i)
    no_block_is_empty i l =
        let w : Next n E (before M) (share M) B i = f.is_next i l in
        let o : w.0 ∈ offered n E = ((permitted_iff n E (before M) (share M) (first_of B i) w.0).0 w.2.0).is_offered in (
          w.0,
          w.1,
          w.2.2 w.0 ∙ (block_iff n E (before M) (share M) w.0 w.0).1 (record {
            at = o;
            of = o;
            with = (share_both M w.0 w.0).1 (before_self M w.0, before_self M w.0);
          }),
        )

    -- Columns of a listing are in the same block exactly if they share a block.
    pub same_block_iff_share : (i j x y : ℕ) → i < m → j < m → x ∈ B i → y ∈ B j → (i ≡ j) ↔ (share M x y ≡ true)
    same_block_iff_share i j x y l l' e e' = (
      λ d.
          let w : Next n E (before M) (share M) B i = f.is_next i l in
          let p : Block n E (before M) (share M) w.0 x = (block_iff n E (before M) (share M) w.0 x).0 (sym (w.2.2 x) ∙ e) in
          let q : Block n E (before M) (share M) w.0 y
          = (block_iff n E (before M) (share M) w.0 y).0 (sym (w.2.2 y) ∙ subst (λ (k : ℕ). y ∈ B k) (sym d) e') in
          (share_iff M x y).1 (λ J t. sym ((share_iff M w.0 x).0 p.with J t) ∙ (share_iff M w.0 y).0 q.with J t),
      λ t. omega (arith, f.in_order i j x y l l' e e' ((share_both M x y).0 t).0, f.in_order j i y x l' l e' e ((share_both M x y).0 t).1),
    )

    -- A block is permitted as a whole: so the block of the smallest permitted column is the permitted block with the smallest column.
    pub blocks_are_permitted_whole : (i : ℕ) → i ≤ m → (x y : ℕ) → x ∈ permitted n E (before M) (share M) (first_of B i) → y ∈ block n E (before M) (share M) x
        → y ∈ permitted n E (before M) (share M) (first_of B i)
    blocks_are_permitted_whole = permitted_whole n E (before M) (share M) (before_self M) (before_via M) (share_both M) m B f

  -- The number of a column is that of its block, in every listing that keeps the rules.
  pub number_in_every_listing : (m : ℕ) (B : ℕ → Set) → Listing M m B → (i x : ℕ) → i < m → x ∈ B i → block_number M x ≡ i
  unfolding block_number
  number_in_every_listing m B f i x l e =
      let u : (m ≡ block_count M) × ((i : ℕ) → i < m → (x : ℕ) → B i x ≡ blocks M i x) = listing_unique m (block_count M) B (blocks M) f the_blocks_are_listed in
      let li : i < block_count M = omega (arith, u.0) in
      let ei : x ∈ blocks M i = sym (u.1 i l x) ∙ e in
      let lk : block_number M x < block_count M = omega (arith, least_first (block_count M) (λ i. blocks M i x) i li ei) in
      the_blocks_are_listed.in_no_other (block_number M x) i x lk li (least_in (block_count M) (λ i. blocks M i x) lk) ei

  -- It is below the number of blocks, and the column is in the block that has it.
  pub number_of_its_block : (x : ℕ) → x ∈ offered n E → (block_number M x < block_count M) × (x ∈ blocks M (block_number M x))
  number_of_its_block x o =
      let w : Some (block_count M) (λ i. x ∈ blocks M i) = the_blocks_are_listed.in_one x o in
      let d : block_number M x ≡ w.0 = number_in_every_listing (block_count M) (blocks M) the_blocks_are_listed w.0 x w.1 w.2 in
      (rw d w.1, rw d w.2)

  module _ (x y : ℕ) (o : x ∈ offered n E) (o' : y ∈ offered n E) where
    -- Columns have the same number exactly if they share a block,
    pub same_number_iff_share : (block_number M x ≡ block_number M y) ↔ (share M x y ≡ true)
    same_number_iff_share = same_block_iff_share (block_count M) (blocks M) the_blocks_are_listed (block_number M x) (block_number M y) x y
        (number_of_its_block x o).0 (number_of_its_block y o').0 (number_of_its_block x o).1 (number_of_its_block y o').1

    -- and what must come before has no larger number.
    pub order_kept : before M x y ≡ true → block_number M x ≤ block_number M y
    order_kept = the_blocks_are_listed.in_order (block_number M x) (block_number M y) x y
        (number_of_its_block x o).0 (number_of_its_block y o').0 (number_of_its_block x o).1 (number_of_its_block y o').1

  -- The short set, where it is not empty, is the last block:
  pub short_is_the_last_block : (x : ℕ) → x ∈ short M → (y : ℕ) → (y ∈ short M) ↔ ((y ∈ offered n E) × (block_number M y ≡ block_count M - 1))
  short_is_the_last_block x e y = (
    λ h. (offered_short y h, last y h),
    λ w. short_shares M x y e ((same_number_iff_share x y (offered_short x e) w.0).0 (last x e ∙ sym w.1)),
  )
    where
      offered_short : (z : ℕ) → z ∈ short M → z ∈ offered n E
      offered_short z h = (offered_iff n E z).1 (short_of_E M z h)

      -- every column comes before z, since z is short
      last : (z : ℕ) → z ∈ short M → block_number M z ≡ block_count M - 1
      last z h =
          let l : block_number M z < block_count M = (number_of_its_block z (offered_short z h)).0 in
          let w : Some n (λ x. x ∈ blocks M (block_count M - 1)) = no_block_is_empty (block_count M) (blocks M) the_blocks_are_listed (block_count M - 1) (omega arith) in
          omega (
            arith,
            l,
            the_blocks_are_listed.in_order (block_count M - 1) (block_number M z) w.0 z (omega arith) l w.2
                (number_of_its_block z (offered_short z h)).1 (short_before M w.0 z h),
          )

  -- and the columns of no set whose sum equals the rank are the first, where there are any.
  pub columns_of_no_set_are_the_first_block : (x : ℕ) → x ∈ in_no_set M → (y : ℕ) → (y ∈ in_no_set M) ↔ ((y ∈ offered n E) × (block_number M y ≡ 0))
  columns_of_no_set_are_the_first_block x e y = (
    λ h. (((in_no_set_iff M y).0 h).0, first y h),
    λ w. in_no_set_shares M x y e w.0 ((same_number_iff_share x y ((in_no_set_iff M x).0 e).0 w.0).0 (first x e ∙ sym w.1)),
  )
    where
      first : (z : ℕ) → z ∈ in_no_set M → block_number M z ≡ 0
      first z h =
          let o : z ∈ offered n E = ((in_no_set_iff M z).0 h).0 in
          let l : block_number M z < block_count M = (number_of_its_block z o).0 in
          let w : Some n (λ x. x ∈ blocks M 0) = no_block_is_empty (block_count M) (blocks M) the_blocks_are_listed 0 (omega arith) in
          omega (
            arith,
            the_blocks_are_listed.in_order (block_number M z) 0 z w.0 l (omega arith) (number_of_its_block z o).1 w.2
                (in_no_set_before M z w.0 h),
          )
