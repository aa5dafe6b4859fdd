-- The tests for blocks and for permission as statements. Assumes nothing.
use Rattle.std.specs.Prelude.{ℕ, ◌≤◌, ◌<◌, ◌≡◌, Bool, ◌&&◌, ◌||◌, ◌↔◌}
use Rattle.std.proofs.Math.Bool.{true, not}
use Rattle.counting.specs.Bools.{and_in, and_left, and_right, not_both, not_of, implied, implies}
use Rattle.counting.specs.Sets.{Set, ◌∈◌, Some, all}
use Rattle.counting.specs.Counts.{all_iff}
use Rattle.listings.specs.Offered.{offered, offered_iff}
use Rattle.listings.specs.Blocks.{first_of, block, needs, permitted}

module _ (n : ℕ) (E : Set) (before share : ℕ → ℕ → Bool) where
  -- x and y are offered and share a block
  pub record Block (x y : ℕ) : Type 0 where
    pub at : x ∈ offered n E
    pub of : y ∈ offered n E
    pub with : share x y ≡ true

  pub block_iff : (x y : ℕ) → (y ∈ block n E before share x) ↔ Block x y
  unfolding block
  block_iff x y = (
    λ e. let d : (offered n E x && offered n E y) ≡ true = and_left (offered n E x && offered n E y) (share x y) e in
        record { at = and_left _ _ d; of = and_right (offered n E x) _ d; with = and_right (offered n E x && offered n E y) _ e },
    λ h. and_in (and_in h.at h.of) h.with,
  )

  -- y is offered, in another block, which must come before
  pub record Needs (x y : ℕ) : Type 0 where
    pub is_offered : y ∈ offered n E
    pub is_before : before y x ≡ true
    pub apart : share y x ≡ true → ⊥

  pub needs_iff : (x y : ℕ) → (needs n E before share x y ≡ true) ↔ Needs x y
  unfolding needs
  needs_iff x y = (
    λ e. let d : (offered n E y && before y x) ≡ true = and_left (offered n E y && before y x) (not (share y x)) e in record {
      is_offered = and_left _ _ d;
      is_before = and_right (offered n E y) _ d;
      apart = not_both (share y x) (and_right (offered n E y && before y x) _ e);
    },
    λ h. and_in (and_in h.is_offered h.is_before) (not_of (share y x) h.apart),
  )

  -- x is offered and not listed, and all that must come before is listed
  pub record Permitted (D : Set) (x : ℕ) : Type 0 where
    pub is_offered : x ∈ offered n E
    pub not_listed : x ∈ D → ⊥
    pub earlier : (y : ℕ) → Needs x y → y ∈ D

  pub permitted_iff : (D : Set) (x : ℕ) → (x ∈ permitted n E before share D) ↔ Permitted D x
  unfolding permitted
  permitted_iff D x = (
    λ e.
        let d : (offered n E x && not (D x)) ≡ true = and_left (offered n E x && not (D x)) (all n (λ y. not (needs n E before share x y) || D y)) e in
        record {
          is_offered = and_left _ _ d;
          not_listed = not_both (D x) (and_right (offered n E x) _ d);
          earlier = λ y w. implied (needs n E before share x y) (D y)
              ((all_iff n (λ y. not (needs n E before share x y) || D y)).0 (and_right (offered n E x && not (D x)) _ e) y
              ((offered_iff n E y).0 w.is_offered).0)
              ((needs_iff x y).1 w);
        },
    λ h. and_in (and_in h.is_offered (not_of (D x) h.not_listed))
        ((all_iff n (λ y. not (needs n E before share x y) || D y)).1
        (λ y l. implies (needs n E before share x y) (D y) (λ e. h.earlier y ((needs_iff x y).0 e)))),
  )

  -- what comes next in a listing
  abbrev pub Next : (ℕ → Set) → ℕ → Type 0
  Next B i = Some n (λ x. (x ∈ permitted n E before share (first_of B i)) × ((y : ℕ) → y < n → y ∈ permitted n E before share (first_of B i) → x ≤ y)
      × ((y : ℕ) → B i y ≡ block n E before share x y))
