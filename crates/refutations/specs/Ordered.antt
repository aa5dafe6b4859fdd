-- What the promise of the call about blocks rules out: of every model, and on small models modulo 2. Assumes nothing.
use Rattle.std.specs.Prelude.{ℕ, ◌≤◌, ◌<◌, ◌≡◌, refl, ◌≢◌, true, false, replicate}
use Rattle.std.proofs.Common.{sym, ◌∙◌, true≢false, arith}
use Rattle.std.proofs.Math.Path.{ap}
use Rattle.std.proofs.Math.Option.{Option, none}
use mathlib.Core.List.{List, [], ◌∷◌}
use Rattle.std.proofs.Math.ListN.{get_or}
use Rattle.limits.specs.Limits.{most_columns, no_column}
use Rattle.counting.specs.Sets.{Set, ◌∈◌}
use Rattle.counting.specs.Choices.{Part}
use Rattle.columns.specs.Columns.{least}
use Rattle.listed_models.specs.ListedModel.{listed_model}
use Rattle.rank.specs.Layered.Model.{Model}
use Rattle.rank.specs.Layered.Rank.{sum, rank}
use Rattle.dependence.specs.Listing.{listing}
use Rattle.listings.specs.Offered.{offered}
use Rattle.listings.specs.Blocks.{tight, share, before, block, needs, permitted, next_block, listed, blocks_by, block_count_by, blocks, block_count, block_number}
use Rattle.format.specs.Refusals.{refusal}
use Rattle.format.specs.TestLaws.{model_accepted}
use Rattle.blocks.specs.Answers.{shown_number, BlocksAnswered, BlocksCall}
use Rattle.blocks.specs.Shown.{Blocks}
use Rattle.promises.specs.BlocksLaws.{PermittedAfter}
use Rattle.promises.specs.Theorems as Promised
use Rattle.refutations.specs.Computing.{computing}
use Rattle.refutations.specs.Accepted.{judging}

-- ---- of every model

module _ (p n a b : ℕ) (cs ws : List ℕ) (ns : Option (List ℕ)) (r : Blocks) (call : BlocksCall p n a b cs ws ns r) where
  -- the call refuses although the model is not refused
  pub blocks_refused : refusal p n a b cs ws ns ≡ 0 → r.refusal ≢ 0 → ⊥
  blocks_refused z ne = ne (call.is_refusal ∙ z)

  -- blocks are shown although the model is refused
  pub blocks_although_refused : r.refusal ≢ 0 → r.count ≢ 0 → ⊥
  blocks_although_refused ne c = c (call.if_refused (λ z. ne (call.is_refusal ∙ z))).no_blocks

  pub numbers_although_refused : r.refusal ≢ 0 → r.numbers ≢ replicate most_columns no_column → ⊥
  numbers_although_refused ne c = c (call.if_refused (λ z. ne (call.is_refusal ∙ z))).no_numbers

  module _ (ok : r.refusal ≡ 0) where
    abbrev M : Model
    M = listed_model p n a b cs ws

    -- one block too many: no column has the number i
    pub too_many_blocks : (i : ℕ) → i < r.count → ((x : ℕ) → x < n → get_or r.numbers x 0 ≢ i) → ⊥
    too_many_blocks i l nobody = let w = Promised.every_number_occurs p n a b cs ws ns r call ok i l in nobody w.0 w.1 w.2

    -- one too few: column x has the number of a block that is not counted
    pub too_few_blocks : (x : ℕ) → x < n → r.count ≤ get_or r.numbers x 0 → ⊥
    too_few_blocks x l m = omega (arith, Promised.shown_number_below p n a b cs ws ns r call ok x l)

    -- the numbers begin with 1
    pub numbers_from_1 : ((x : ℕ) → x < n → 1 ≤ get_or r.numbers x 0) → ⊥
    numbers_from_1 h =
        let l : 0 < n = (model_accepted p n a b cs ws ns (sym call.is_refusal ∙ ok)).n_least in
        let w = Promised.every_number_occurs p n a b cs ws ns r call ok 0 (omega (arith, Promised.shown_number_below p n a b cs ws ns r call ok 0 l)) in
        omega (arith, w.2, h w.0 w.1)

    -- a column has 255
    pub column_without_a_number : (x : ℕ) → x < n → get_or r.numbers x 0 ≡ no_column → ⊥
    column_without_a_number x l e =
        let few = (model_accepted p n a b cs ws ns (sym call.is_refusal ∙ ok)).n_most in
        too_few_blocks x l (omega (arith, e, few, Promised.no_more_blocks_than_columns p n a b cs ws ns r call ok))

    -- what is no column has another number than 255, such as 0
    pub number_past_the_last : (x k : ℕ) → n ≤ x → x < most_columns → k ≢ no_column → get_or r.numbers x 0 ≡ k → ⊥
    number_past_the_last x k l m ne e = ne (sym e ∙ Promised.past_columns_unnumbered p n a b cs ws ns r call ok x l m)

    pub zero_past_the_last : (x : ℕ) → n ≤ x → x < most_columns → get_or r.numbers x 0 ≡ 0 → ⊥
    zero_past_the_last x l m = number_past_the_last x 0 l m (λ e. omega (arith, e))

    -- two columns are in one block although a set whose sum equals the rank has one of them alone
    pub block_joins : (x y : ℕ) → x < n → y < n → (J : Set) → Part n (λ z. true) J → sum M J ≡ rank M → J x ≡ true → J y ≡ false → get_or r.numbers x 0 ≡ get_or r.numbers y 0 → ⊥
    block_joins x y l m J part tight-there e f same = true≢false (sym e ∙ (Promised.same_number_iff_shared p n a b cs ws ns r call ok x y l m).0 same J part tight-there ∙ f)

    -- they are in two although every such set has both or neither
    pub block_parted : (x y : ℕ) → x < n → y < n → ((J : Set) → Part n (λ z. true) J → sum M J ≡ rank M → J x ≡ J y) → get_or r.numbers x 0 ≢ get_or r.numbers y 0 → ⊥
    block_parted x y l m h ne = ne ((Promised.same_number_iff_shared p n a b cs ws ns r call ok x y l m).1 h)

    -- x comes after y although each such set that has x has y
    pub order_turned : (x y : ℕ) → x < n → y < n → ((J : Set) → Part n (λ z. true) J → sum M J ≡ rank M → x ∈ J → y ∈ J) → get_or r.numbers y 0 < get_or r.numbers x 0 → ⊥
    order_turned x y l m h after = omega (arith, Promised.order_of_numbers_kept p n a b cs ws ns r call ok x y l m h)

    -- a block is listed although another is permitted in its place, with a column y below all of its columns
    pub smaller_passed_over : (i y : ℕ) → i < r.count → y < n → PermittedAfter M r i y → ((x : ℕ) → x < n → get_or r.numbers x 0 ≡ i → y < x) → ⊥
    smaller_passed_over i y l m k above =
        let w = Promised.smallest_permitted_is_next p n a b cs ws ns r call ok i l in
        omega (arith, w.2.2 y m k, above w.0 w.1 w.2.0)

-- ---- small models

-- all that has to be opened to run the definitions, and to judge a model
unfoldable run : ℕ
unfolding computing judging least offered tight share before block needs permitted next_block listed blocks_by block_count_by blocks block_count block_number
run = 0

-- what the promise says of the first two columns, by the number of blocks and the numbers that the definitions give
module _ (M : Model) (r : Blocks) (h : BlocksAnswered M r) (c k j : ℕ) where
  shown_two : block_count M ≡ c → shown_number M 0 ≡ k → shown_number M 1 ≡ j → (r.count ≡ c) × (get_or r.numbers 0 0 ≡ k) × (get_or r.numbers 1 0 ≡ j)
  unfolding listing
  shown_two ec ek ej = (h.count_is ∙ ec, ap (λ (ns : List ℕ). get_or ns 0 0) h.numbers_are ∙ ek, ap (λ (ns : List ℕ). get_or ns 1 0) h.numbers_are ∙ ej)

-- a constant row with column 1 alone, and a parameter row with both: column 1 is solved first, then column 0
abbrev Stairs : Blocks → Type 0
Stairs r = BlocksCall 2 2 1 1 (0 ∷ 1 ∷ []) (3 ∷ []) none r

stairs_judged : refusal 2 2 1 1 (0 ∷ 1 ∷ []) (3 ∷ []) none ≡ 0
unfolding run
stairs_judged = refl

abbrev stairs : Model
stairs = listed_model 2 2 1 1 (0 ∷ 1 ∷ []) (3 ∷ [])

stairs_blocks : (block_count stairs ≡ 2) × (shown_number stairs 0 ≡ 1) × (shown_number stairs 1 ≡ 0)
unfolding run shown_number
stairs_blocks = (refl, refl, refl)

stairs_shown : (r : Blocks) → Stairs r → (r.count ≡ 2) × (get_or r.numbers 0 0 ≡ 1) × (get_or r.numbers 1 0 ≡ 0)
stairs_shown r s = shown_two stairs r (s.if_accepted stairs_judged) 2 1 0 stairs_blocks.0 stairs_blocks.1 stairs_blocks.2

-- a way in one direction is enough to join two columns
pub joined_one_way : (r : Blocks) → Stairs r → get_or r.numbers 0 0 ≡ get_or r.numbers 1 0 → ⊥
joined_one_way r s e = let w = stairs_shown r s in omega (arith, e, w.1, w.2)

-- the order is turned: column 0, which depends on column 1, is solved first
pub solved_too_early : (r : Blocks) → Stairs r → get_or r.numbers 0 0 < get_or r.numbers 1 0 → ⊥
solved_too_early r s l = let w = stairs_shown r s in omega (arith, l, w.1, w.2)

-- two columns, each with a parameter row of its own: both are permitted, and column 0 is first
abbrev Apart : Blocks → Type 0
Apart r = BlocksCall 2 2 0 2 [] (1 ∷ 2 ∷ []) none r

apart_judged : refusal 2 2 0 2 [] (1 ∷ 2 ∷ []) none ≡ 0
unfolding run
apart_judged = refl

abbrev apart : Model
apart = listed_model 2 2 0 2 [] (1 ∷ 2 ∷ [])

apart_blocks : (block_count apart ≡ 2) × (shown_number apart 0 ≡ 0) × (shown_number apart 1 ≡ 1)
unfolding run shown_number
apart_blocks = (refl, refl, refl)

apart_shown : (r : Blocks) → Apart r → (r.count ≡ 2) × (get_or r.numbers 0 0 ≡ 0) × (get_or r.numbers 1 0 ≡ 1)
apart_shown r s = shown_two apart r (s.if_accepted apart_judged) 2 0 1 apart_blocks.0 apart_blocks.1 apart_blocks.2

-- of the permitted blocks the one with the largest column is first
pub largest_first : (r : Blocks) → Apart r → get_or r.numbers 1 0 < get_or r.numbers 0 0 → ⊥
largest_first r s l = let w = apart_shown r s in omega (arith, l, w.1, w.2)

-- all columns in one block
pub one_block_for_all : (r : Blocks) → Apart r → r.count ≡ 1 → ⊥
one_block_for_all r s e = let w = apart_shown r s in omega (arith, e, w.0)

-- two columns and no row: none is placed
abbrev Bare : Blocks → Type 0
Bare r = BlocksCall 2 2 0 0 [] [] none r

bare_judged : refusal 2 2 0 0 [] [] none ≡ 0
unfolding run
bare_judged = refl

abbrev bare : Model
bare = listed_model 2 2 0 0 [] []

bare_blocks : (block_count bare ≡ 1) × (shown_number bare 0 ≡ 0) × (shown_number bare 1 ≡ 0)
unfolding run shown_number
bare_blocks = (refl, refl, refl)

bare_shown : (r : Blocks) → Bare r → (r.count ≡ 1) × (get_or r.numbers 0 0 ≡ 0) × (get_or r.numbers 1 0 ≡ 0)
bare_shown r s = shown_two bare r (s.if_accepted bare_judged) 1 0 0 bare_blocks.0 bare_blocks.1 bare_blocks.2

-- each column that is not placed is a block of its own,
pub unplaced_parted : (r : Blocks) → Bare r → get_or r.numbers 0 0 ≢ get_or r.numbers 1 0 → ⊥
unplaced_parted r s ne = let w = bare_shown r s in ne (w.1 ∙ sym w.2)

pub unplaced_counted_each : (r : Blocks) → Bare r → r.count ≡ 2 → ⊥
unplaced_counted_each r s e = let w = bare_shown r s in omega (arith, e, w.0)

-- or in none
pub unplaced_in_no_block : (r : Blocks) → Bare r → get_or r.numbers 1 0 ≡ no_column → ⊥
unplaced_in_no_block r s e = let w = bare_shown r s in omega (arith, e, w.2)

-- two equal columns of one constant row: column 0 is placed, column 1 is not, and they are one block
abbrev Equal : Blocks → Type 0
Equal r = BlocksCall 2 2 1 0 (1 ∷ 1 ∷ []) [] none r

equal_judged : refusal 2 2 1 0 (1 ∷ 1 ∷ []) [] none ≡ 0
unfolding run
equal_judged = refl

abbrev equal : Model
equal = listed_model 2 2 1 0 (1 ∷ 1 ∷ []) []

equal_blocks : (block_count equal ≡ 1) × (shown_number equal 0 ≡ 0) × (shown_number equal 1 ≡ 0)
unfolding run shown_number
equal_blocks = (refl, refl, refl)

equal_shown : (r : Blocks) → Equal r → (r.count ≡ 1) × (get_or r.numbers 0 0 ≡ 0) × (get_or r.numbers 1 0 ≡ 0)
equal_shown r s = shown_two equal r (s.if_accepted equal_judged) 1 0 0 equal_blocks.0 equal_blocks.1 equal_blocks.2

-- a column that is not placed is parted from what blocks it
pub unplaced_from_its_reason : (r : Blocks) → Equal r → get_or r.numbers 0 0 ≢ get_or r.numbers 1 0 → ⊥
unplaced_from_its_reason r s ne = let w = equal_shown r s in ne (w.1 ∙ sym w.2)
