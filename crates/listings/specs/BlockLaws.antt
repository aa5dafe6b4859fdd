-- What the tests of `Blocks` say of a model, and that one is a preorder and the other its equivalence. Assumes nothing.
use Rattle.std.specs.Prelude.{ℕ, ◌≡◌, true, ◌&&◌, ◌||◌, ◌↔◌}
use Rattle.std.proofs.Common.{sym, ◌∙◌}
use Rattle.std.proofs.Math.Bool.{not, decide, decide_iff, Bool-discrete}
use Rattle.std.proofs.Math.Decide.{ℕ_discrete}
use Rattle.counting.specs.Bools.{iff_eq, and_in, and_left, and_right, not_both, not_of, implied, implies}
use Rattle.counting.specs.Sets.{Set, ◌∈◌}
use Rattle.counting.specs.Choices.{Part}
use Rattle.counting.specs.ChoiceLaws.{every_part_iff}
use Rattle.rank.specs.Layered.Model.{Model}
use Rattle.rank.specs.Layered.Rank.{sum, rank, short}
use Rattle.rank.proofs.Layered.Minimax.{short_of_E, sum_short}
use Rattle.rank.proofs.Theorems.{short_is_the_smallest}
use Rattle.listings.specs.Offered.{offered}
use Rattle.listings.specs.Blocks.{tight, share, before, in_no_set}

module _ (M : Model) where
  open M use {n, E}

  -- J is a set of offered columns whose sum equals the rank
  pub record Tight (J : Set) : Type 0 where
    pub columns : Part n E J
    pub has_sum : sum M J ≡ rank M

  tight_iff : (J : Set) → (tight M J ≡ true) ↔ (sum M J ≡ rank M)
  unfolding tight
  tight_iff J = decide_iff (ℕ_discrete (sum M J) (rank M))

  pub share_iff : (x y : ℕ) → (share M x y ≡ true) ↔ ((J : Set) → Tight J → J x ≡ J y)
  unfolding share
  share_iff x y = (
    λ e J t. (decide_iff (Bool-discrete (J x) (J y))).0 (implied (tight M J) (decide (Bool-discrete (J x) (J y)))
        ((every_part_iff n E (λ J. not (tight M J) || decide (Bool-discrete (J x) (J y)))).0 e J t.columns) ((tight_iff J).1 t.has_sum)),
    λ h. (every_part_iff n E (λ J. not (tight M J) || decide (Bool-discrete (J x) (J y)))).1 (λ J p. implies (tight M J) (decide (Bool-discrete (J x) (J y)))
        (λ t. (decide_iff (Bool-discrete (J x) (J y))).1 (h J (record { columns = p; has_sum = (tight_iff J).0 t })))),
  )

  pub before_iff : (x y : ℕ) → (before M x y ≡ true) ↔ ((J : Set) → Tight J → x ∈ J → y ∈ J)
  unfolding before
  before_iff x y = (
    λ e J t h. implied (tight M J && J x) (J y) ((every_part_iff n E (λ J. not (tight M J && J x) || J y)).0 e J t.columns)
        (and_in ((tight_iff J).1 t.has_sum) h),
    λ h. (every_part_iff n E (λ J. not (tight M J && J x) || J y)).1 (λ J p. implies (tight M J && J x) (J y)
        (λ t. h J (record { columns = p; has_sum = (tight_iff J).0 (and_left (tight M J) (J x) t) }) (and_right (tight M J) (J x) t))),
  )

  -- two columns share a block exactly if each comes before the other
  pub share_both : (x y : ℕ) → (share M x y ≡ true) ↔ ((before M x y ≡ true) × (before M y x ≡ true))
  share_both x y = (
    λ e. ((before_iff x y).1 (λ J t h. sym ((share_iff x y).0 e J t) ∙ h), (before_iff y x).1 (λ J t h. (share_iff x y).0 e J t ∙ h)),
    λ w. (share_iff x y).1 (λ J t. iff_eq (J x) (J y) ((before_iff x y).0 w.0 J t) ((before_iff y x).0 w.1 J t)),
  )

  pub before_self : (x : ℕ) → before M x x ≡ true
  before_self x = (before_iff x x).1 (λ J t h. h)

  pub before_via : (x y z : ℕ) → before M x y ≡ true → before M y z ≡ true → before M x z ≡ true
  before_via x y z e f = (before_iff x z).1 (λ J t h. (before_iff y z).0 f J t ((before_iff x y).0 e J t h))

  -- every such set has every short column: so these come after all, and share a block
  pub short_before : (x y : ℕ) → y ∈ short M → before M x y ≡ true
  short_before x y e = (before_iff x y).1 (λ J t h. (short_is_the_smallest M).2 J t.columns t.has_sum y e)

  pub short_shares : (x y : ℕ) → x ∈ short M → share M x y ≡ true → y ∈ short M
  short_shares x y e t = sym ((share_iff x y).0 t (short M) (record { columns = short_of_E M; has_sum = sum_short M })) ∙ e

  pub in_no_set_iff : (x : ℕ) → (x ∈ in_no_set M) ↔ ((x ∈ offered n E) × ((J : Set) → Tight J → x ∈ J → ⊥))
  unfolding in_no_set
  in_no_set_iff x = (
    λ e. (
      and_left (offered n E x) _ e,
      λ J t h. not_both (tight M J && J x) ((every_part_iff n E (λ J. not (tight M J && J x))).0 (and_right (offered n E x) _ e) J t.columns)
          (and_in ((tight_iff J).1 t.has_sum) h),
    ),
    λ w. and_in w.0 ((every_part_iff n E (λ J. not (tight M J && J x))).1 (λ J p. not_of (tight M J && J x)
        (λ t. w.1 J (record { columns = p; has_sum = (tight_iff J).0 (and_left (tight M J) (J x) t) }) (and_right (tight M J) (J x) t)))),
  )

  -- the columns of no such set come before all, and share a block
  pub in_no_set_before : (x y : ℕ) → x ∈ in_no_set M → before M x y ≡ true
  in_no_set_before x y e = (before_iff x y).1 (λ J t h. absurd (((in_no_set_iff x).0 e).1 J t h))

  pub in_no_set_shares : (x y : ℕ) → x ∈ in_no_set M → y ∈ offered n E → share M x y ≡ true → y ∈ in_no_set M
  in_no_set_shares x y e o t = (in_no_set_iff y).1 (o, λ J u h. ((in_no_set_iff x).0 e).1 J u ((share_iff x y).0 t J u ∙ h))
