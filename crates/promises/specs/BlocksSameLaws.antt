-- The blocks depend on the first a × n constants and the first b parameter rows alone: two calls with the same ones agree in everything. Assumes nothing.
use Prim.Native.Nat.{ℕ, ◌*◌}
use Rattle.std.specs.Prelude.{◌≡◌, Bool, true, ◌&&◌, ◌||◌, List, ltb, take}
use Rattle.std.proofs.Common.{sym, ◌∙◌}
use Rattle.std.proofs.Math.Path.{ap, ap₂, fun_ext}
use Rattle.std.proofs.Math.Logic.{by_cases}
use Rattle.std.proofs.Math.Bool.{not, cond, decide, Bool-discrete}
use Rattle.std.proofs.Math.Option.{Option}
use Rattle.std.proofs.Math.Decide.{ℕ_discrete}
use Rattle.limits.specs.Limits.{most_columns, no_column}
use Rattle.counting.specs.Sets.{Set}
use Rattle.counting.specs.Choices.{every_part}
use Rattle.columns.specs.Columns.{least}
use Rattle.rank.specs.Modulus.{modulus}
use Rattle.listed_models.specs.ListedModel.{listed_model}
use Rattle.rank.specs.Layered.Model.{Model}
use Rattle.dependence.specs.ListingLaws.{listing_same}
use Rattle.listings.specs.Blocks.{tight, share, before, blocks_by, block_count_by, blocks, block_count, block_number}
use Rattle.format.specs.Refusals.{refusal}
use Rattle.blocks.specs.Answers.{shown_number, BlocksAnswered, BlocksCall}
use Rattle.blocks.specs.Shown.{Blocks}
use Rattle.promises.specs.Fixed.{SameBlocks}
use Rattle.promises.specs.AgreeLaws.{rank_same, sum_same}
use Rattle.promises.specs.AnswerLaws.{agree}

module _ (p n a b : ℕ) (cs ds ws vs : List ℕ) (ec : take (a * n) cs ≡ take (a * n) ds) (ew : take b ws ≡ take b vs) where
  abbrev M : Model
  M = listed_model p n a b cs ws

  abbrev N : Model
  N = listed_model p n a b ds vs

  same_tight : (J : Set) → tight M J ≡ tight N J
  unfolding tight
  same_tight J =
      let e = agree p n a b cs ds ws vs ec ew in
      ap₂ (λ (j k : ℕ). decide (ℕ_discrete j k)) (sum_same (modulus p).0 (modulus p).1 n a b (λ y. true) M.Q N.Q M.T N.T e J) (rank_same (modulus p).0 (modulus p).1 n a b (λ y. true) M.Q N.Q M.T N.T e)

  same_share : share M ≡ share N
  unfolding share
  same_share = ap (λ (t : Set → Bool). λ (x y : ℕ). every_part n (λ z. true) (λ J. not (t J) || decide (Bool-discrete (J x) (J y)))) (fun_ext same_tight)

  same_before : before M ≡ before N
  unfolding before
  same_before = ap (λ (t : Set → Bool). λ (x y : ℕ). every_part n (λ z. true) (λ J. not (t J && J x) || J y)) (fun_ext same_tight)

  same_count : block_count M ≡ block_count N
  unfolding block_count
  same_count = ap₂ (block_count_by n (λ z. true)) same_before same_share

  same_shown : (x : ℕ) → shown_number M x ≡ shown_number N x
  unfolding shown_number block_number block_count blocks
  same_shown x = ap₂ (λ (t u : ℕ → ℕ → Bool). cond (ltb x n) (least (block_count_by n (λ z. true) t u) (λ i. blocks_by n (λ z. true) t u i x)) no_column) same_before same_share

  -- whatever the numbers, where the refusals are the same
  pub blocks_calls_same : (ns ms : Option (List ℕ)) → refusal p n a b cs ws ns ≡ refusal p n a b ds vs ms → (r s : Blocks) → BlocksCall p n a b cs ws ns r → BlocksCall p n a b ds vs ms s → SameBlocks r s
  blocks_calls_same ns ms e r s h g =
      by_cases (ℕ_discrete (refusal p n a b cs ws ns) 0)
      (λ z.
      let u : BlocksAnswered M r = h.if_accepted z in
      let v : BlocksAnswered N s = g.if_accepted (sym e ∙ z) in record {
        same_refusal = first;
        same_count = u.count_is ∙ same_count ∙ sym v.count_is;
        same_numbers = u.numbers_are ∙ listing_same most_columns (shown_number M) (shown_number N) (λ x l. same_shown x) ∙ sym v.numbers_are;
      })
      (λ nz.
      let u = h.if_refused nz in
      let v = g.if_refused (λ z. nz (e ∙ z)) in record {
        same_refusal = first;
        same_count = u.no_blocks ∙ sym v.no_blocks;
        same_numbers = u.no_numbers ∙ sym v.no_numbers;
      })
    where
      first : r.refusal ≡ s.refusal
      first = h.is_refusal ∙ e ∙ sym g.is_refusal
