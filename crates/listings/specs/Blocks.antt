-- Document 02, E7, "Blocks in solving order": which columns share a block, which block comes before which, and how they are listed. The sets are those
-- of demand 3: sets of offered columns. Definitions only.
use Rattle.std.specs.Prelude.{ℕ, zero, suc, ◌≤◌, ◌<◌, ◌≡◌, Bool, true, false, not, ◌&&◌, ◌||◌}
use Rattle.std.proofs.Math.Bool.{decide, Bool-discrete}
use Rattle.std.proofs.Math.Decide.{ℕ_discrete}
use Rattle.counting.specs.Sets.{Set, ◌∈◌, Some, all, any}
use Rattle.counting.specs.Choices.{every_part}
use Rattle.columns.specs.Columns.{least}
use Rattle.rank.specs.Layered.Model.{Model}
use Rattle.rank.specs.Layered.Rank.{sum, rank}
use Rattle.listings.specs.Offered.{offered}

module _ (M : Model) where
  open M use {n, E}

  -- the sum of J equals the rank
  unfoldable pub tight : Set → Bool
  tight J = decide (ℕ_discrete (sum M J) (rank M))

  -- x and y share a block: every set whose sum equals the rank has both or neither
  unfoldable pub share : ℕ → ℕ → Bool
  share x y = every_part n E (λ J. not (tight J) || decide (Bool-discrete (J x) (J y)))

  -- the block of x must come before that of y, if it is another: each such set that has x has y
  unfoldable pub before : ℕ → ℕ → Bool
  before x y = every_part n E (λ J. not (tight J && J x) || J y)

  -- the columns that share a block with x or must come before it; x and they are offered
  unfoldable pub earlier : ℕ → Set
  earlier x y = offered n E x && offered n E y && before y x

  -- the offered columns that no such set has
  unfoldable pub in_no_set : Set
  in_no_set x = offered n E x && every_part n E (λ J. not (tight J && J x))

-- what the first i of the sets B have
unfoldable pub first_of : (ℕ → Set) → ℕ → Set
first_of B i x = any i (λ k. B k x)

-- how the offered columns among n are listed in blocks, by tests that say what comes before what and what shares a block
module _ (n : ℕ) (E : Set) (comes-before shares : ℕ → ℕ → Bool) where
  -- the block of x
  unfoldable pub block : ℕ → Set
  block x y = offered n E x && offered n E y && shares x y

  -- y is in another block than x, and that must come before the block of x
  unfoldable pub needs : ℕ → ℕ → Bool
  needs x y = offered n E y && comes-before y x && not (shares y x)

  -- where the columns in D are listed, the block of x is permitted: x is not listed, and all that must come before is
  unfoldable pub permitted : Set → Set
  permitted D x = offered n E x && not (D x) && all n (λ y. not (needs x y) || D y)

  -- B 0 .. B (m - 1) is a listing
  pub record ListingBy (m : ℕ) (B : ℕ → Set) : Type 0 where
    -- each offered column is in exactly one block, and no other column is in any
    pub in_one : (x : ℕ) → x ∈ offered n E → Some m (λ i. x ∈ B i)
    pub in_no_other : (i j x : ℕ) → i < m → j < m → x ∈ B i → x ∈ B j → i ≡ j
    pub only_offered : (i x : ℕ) → i < m → x ∈ B i → x ∈ offered n E
    -- what must come before comes before
    pub in_order : (i j x y : ℕ) → i < m → j < m → x ∈ B i → y ∈ B j → comes-before x y ≡ true → i ≤ j
    -- block i is the block of the smallest column that is permitted after the blocks before it
    pub is_next : (i : ℕ) → i < m
        → Some n (λ x. (x ∈ permitted (first_of B i)) × ((y : ℕ) → y < n → y ∈ permitted (first_of B i) → x ≤ y) × ((y : ℕ) → B i y ≡ block x y))

  -- the block to be listed next, where the columns in D are listed
  unfoldable pub next_block : Set → Set
  next_block D = block (least n (permitted D))

  -- the columns that are listed after i rounds
  unfoldable pub listed : ℕ → Set
  listed zero = λ x. false
  listed (suc i) = λ x. listed i x || next_block (listed i) x

  -- block i
  unfoldable pub blocks_by : ℕ → Set
  blocks_by i = next_block (listed i)

  -- the number of blocks: the first round in which no block is permitted
  unfoldable pub block_count_by : ℕ
  block_count_by = least n (λ i. not (any n (permitted (listed i))))

module _ (M : Model) where
  open M use {n, E}

  -- a listing of the blocks of M, by the rules
  abbrev pub Listing : ℕ → (ℕ → Set) → Type 0
  Listing m B = ListingBy n E (before M) (share M) m B

  -- the listing: block i, and the number of blocks; `the_blocks_are_listed` and `listing_unique` say that it is the only one
  unfoldable pub blocks : ℕ → Set
  blocks i = blocks_by n E (before M) (share M) i

  unfoldable pub block_count : ℕ
  block_count = block_count_by n E (before M) (share M)

  -- the number of the block of an offered column x in the listing
  unfoldable pub block_number : ℕ → ℕ
  block_number x = least block_count (λ i. blocks i x)
