-- What reaches each column gives the order of the blocks, and their listing is the answer about the model. Assumes nothing.
use Prim.Native.Nat.{ℕ, ◌≤◌, ◌<◌}
use mathlib.Core.Path.{◌≡◌, sym, ap, ◌∙◌}
use mathlib.Core.Bool.{Bool, cond}
use mathlib.Core.List.{List}
use native.Mathlib.Omega.{arith}
use native.Mathlib.Decide.{dec_lt}
use lib.ListN.{get_or}
use borrow.Author.Tests.{lt-ltb, le-ltb}
use Rattle.limits.specs.Limits.{most_columns, no_column}
use Rattle.counting.specs.Bools.{iff_eq}
use Rattle.counting.specs.Sets.{Set, ◌∈◌}
use Rattle.columns.specs.Columns.{upto}
use Rattle.columns.specs.Words.SetLaws.{upto_iff}
use Rattle.rank.specs.Layered.Model.{Model}
use Rattle.dependence.specs.ListingLaws.{listed}
use Rattle.listings.specs.Offered.{offered, offered_iff}
use Rattle.listings.specs.Blocks.{before, share, earlier, blocks, block_count, block_number}
use Rattle.listings.specs.BlockLaws.{share_both, before_self, before_via}
use Rattle.listings.specs.Theorems.{the_blocks_are_listed, number_in_every_listing}
use Rattle.exchange.specs.ReachCall.{ReachShown}
use Rattle.blocks.specs.Answers.{shown_number, BlocksAsked}
use Rattle.blocks.specs.Code.{Ordered, ListedBy}
use Rattle.blocks.specs.Shown.{Blocks}

module _ (M : Model) where
  open M use {n, E}

  pub reach_orders : (all : Set) (rows : List ℕ) → n ≤ most_columns → all ≡ upto n → ((x : ℕ) → x ∈ E) → ReachShown M rows → Ordered n E (before M) (share M) all rows
  unfolding earlier
  reach_orders all rows hn is_all every shown = record {
    columns = hn;
    is_all = λ x. ap (λ (S : Set). S x) is_all ∙ iff_eq (upto n x) (offered n E x)
        (λ e. (offered_iff n E x).1 ((upto_iff n x (omega arith)).0 e, every x))
        (λ e. (upto_iff n x (omega arith)).1 ((offered_iff n E x).0 e).0);
    shows = shown;
    self = before_self M;
    via = before_via M;
    both = share_both M;
  }

  pub listing_answers : (r : Blocks) → ((x : ℕ) → x ∈ E) → ListedBy n E (before M) (share M) r → BlocksAsked M r
  unfolding shown_number block_count blocks
  listing_answers r every l = record {
    no_refusal = l.no_refusal;
    answer = record { count_is = l.count_is; numbers_are = listed most_columns (shown_number M) r.numbers l.long number_at };
  }
    where
      number_at : (x : ℕ) → x < most_columns → get_or r.numbers x 0 ≡ shown_number M x
      number_at x lx = elim (dec_lt x n) [
        | yes m ↦
            let w : (get_or r.numbers x 0 < r.count) × (x ∈ blocks M (get_or r.numbers x 0)) = l.in_its_block x ((offered_iff n E x).1 (m, every x)) in
            sym (number_in_every_listing M (block_count M) (blocks M) (the_blocks_are_listed M) (get_or r.numbers x 0) x (omega (arith, w.0, l.count_is)) w.1)
            ∙ sym (ap (λ (v : Bool). cond v (block_number M x) no_column) (lt-ltb x n m))
        | no nm ↦ l.others x lx (λ o. nm ((offered_iff n E x).0 o).0) ∙ sym (ap (λ (v : Bool). cond v (block_number M x) no_column) (le-ltb x n (omega arith)))
      ]
