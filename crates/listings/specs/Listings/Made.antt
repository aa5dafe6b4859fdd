-- The rounds of `Blocks` make a listing, for tests of which one is a preorder and the other its equivalence. Assumes nothing.
use Prim.Native.Nat.{ℕ, zero, suc, ◌≤◌, ◌<◌}
use Rattle.std.specs.Prelude.{◌≡◌, Bool, ◌&&◌, ◌||◌, ◌↔◌}
use Rattle.std.proofs.Math.Path.{refl, ap, subst, fun_ext}
use Rattle.std.proofs.Common.{sym, ◌∙◌}
use Rattle.std.proofs.Math.Bool.{true, not}
use Rattle.std.proofs.lemmas.Bool.{false≢true}
use Rattle.std.proofs.Math.Logic.{inl, inr}
use native.Mathlib.Omega.{arith}
use Rattle.std.proofs.Math.Decide.{ℕ_discrete, dec_lt}
use Rattle.counting.specs.Bools.{true?, and_in, and_left, and_right, or_left, or_right, or_split, not_both, not_of}
use Rattle.counting.specs.Sets.{Set, ◌∈◌, Some, #, any}
use Rattle.counting.specs.Counts.{some?, both?, not?, any_iff, #-le}
use Rattle.counting.specs.Injections.{#-strict}
use Rattle.columns.specs.Columns.{least}
use Rattle.columns.specs.Words.Operations.{least_le, least_in, least_first}
use Rattle.listings.specs.Offered.{offered, offered_iff}
use Rattle.listings.specs.Blocks.{first_of, block, needs, permitted, ListingBy, next_block, listed, blocks_by, block_count_by}
use Rattle.listings.specs.Listings.Tests.{Block, block_iff, Needs, needs_iff, Permitted, permitted_iff, Next}

module _ (n : ℕ) (E : Set) (before share : ℕ → ℕ → Bool) (self : (x : ℕ) → before x x ≡ true)
    (via : (x y z : ℕ) → before x y ≡ true → before y z ≡ true → before x z ≡ true)
    (both : (x y : ℕ) → (share x y ≡ true) ↔ ((before x y ≡ true) × (before y x ≡ true))) where
  abbrev Open : Set
  Open = offered n E

  abbrev Free : Set → Set
  Free D = permitted n E before share D

  -- ---- one round

  -- among the columns that are not listed some block is permitted
  some_permitted : (fuel : ℕ) (D : Set) (x : ℕ) → # n (λ y. Open y && before y x) < fuel → x ∈ Open → (x ∈ D → ⊥) → Some n (λ y. y ∈ Free D)
  some_permitted zero D x l o nd = absurd (omega arith)
  some_permitted (suc fuel) D x l o nd =
      elim (some? n (λ y. (needs n E before share x y ≡ true) × (y ∈ D → ⊥)) (λ y. both? (true? (needs n E before share x y)) (not? (true? (D y))))) [
        | yes t ↦
            let w : Needs n E before share x t.0 = (needs_iff n E before share x t.0).0 t.2.0 in
            some_permitted fuel D t.0
            (omega (
              arith,
              #-strict n (λ z. Open z && before z t.0) (λ z. Open z && before z x)
                  (λ z lz e. and_in (and_left (Open z) (before z t.0) e) (via z t.0 x (and_right (Open z) (before z t.0) e) w.is_before))
                  x ((offered_iff n E x).0 o).0 (and_in o (self x))
                  (λ e. w.apart ((both t.0 x).1 (w.is_before, and_right (Open x) (before x t.0) e))),
            ))
            w.is_offered t.2.1
        | no none ↦ (
          x,
          ((offered_iff n E x).0 o).0,
          (permitted_iff n E before share D x).1 (record {
            is_offered = o;
            not_listed = nd;
            earlier = λ y w. elim (true? (D y)) [
              | yes d ↦ d
              | no ndy ↦ absurd (none (y, ((offered_iff n E y).0 w.is_offered).0, ((needs_iff n E before share x y).1 w, ndy)))
            ];
          }),
        )
      ]

  pub some_free : (D : Set) (x : ℕ) → x ∈ Open → (x ∈ D → ⊥) → Some n (λ y. y ∈ Free D)
  some_free D x = some_permitted (suc (# n (λ y. Open y && before y x))) D x (omega arith)

  -- the smallest permitted column
  record Taken (D : Set) : Type 0 where
    below : least n (Free D) < n
    may : Permitted n E before share D (least n (Free D))

  taken : (D : Set) → Some n (λ y. y ∈ Free D) → Taken D
  taken D w =
      let l : least n (Free D) < n = omega (arith, w.1, least_first n (Free D) w.0 w.1 w.2) in
      record { below = l; may = (permitted_iff n E before share D (least n (Free D))).0 (least_in n (Free D) l) }

  record In (D : Set) (x : ℕ) : Type 0 where
    by : Taken D
    in_block : Block n E before share (least n (Free D)) x

  in_next : (D : Set) (x : ℕ) → x ∈ next_block n E before share D → In D x
  unfolding next_block
  in_next D x e =
      let w : Block n E before share (least n (Free D)) x = (block_iff n E before share (least n (Free D)) x).0 e in
      let l : least n (Free D) < n = ((offered_iff n E (least n (Free D))).0 w.at).0 in
      record { by = taken D (least n (Free D), l, least_in n (Free D) l); in_block = w }

  -- ---- the rounds

  abbrev L : ℕ → Set
  L = listed n E before share

  abbrev B : ℕ → Set
  B = blocks_by n E before share

  -- what must come before a listed column is listed
  listed_down : (i x y : ℕ) → x ∈ L i → y ∈ Open → before y x ≡ true → y ∈ L i
  unfolding listed next_block
  listed_down zero x y e o b = absurd (false≢true e)
  listed_down (suc i) x y e o b = elim (or_split (L i x) (next_block n E before share (L i) x) e) [
    | inl k ↦ or_left (L i y) (next_block n E before share (L i) y) (listed_down i x y k o b)
    | inr k ↦
        let w : In (L i) x = in_next (L i) x k in
        let f : ℕ = least n (Free (L i)) in
        let b' : before y f ≡ true = via y x f b ((both f x).0 w.in_block.with).1 in
        elim (true? (share y f)) [
          | yes t ↦ or_right (L i y) (next_block n E before share (L i) y) ((block_iff n E before share f y).1 (record {
            at = w.in_block.at;
            of = o;
            with = (both f y).1 (((both y f).0 t).1, b');
          }))
          | no nt ↦ or_left (L i y) (next_block n E before share (L i) y) (w.by.may.earlier y (record { is_offered = o; is_before = b'; apart = nt }))
        ]
  ]

  -- what is listed in round i was not listed
  pub fresh : (i x : ℕ) → x ∈ B i → x ∈ L i → ⊥
  unfolding blocks_by
  fresh i x e k =
      let w : In (L i) x = in_next (L i) x e in
      w.by.may.not_listed (listed_down i x (least n (Free (L i))) k w.in_block.at ((both (least n (Free (L i))) x).0 w.in_block.with).0)

  pub block_offered : (i x : ℕ) → x ∈ B i → x ∈ Open
  unfolding blocks_by
  block_offered i x e = (in_next (L i) x e).in_block.of

  more : (j i x : ℕ) → i ≤ j → x ∈ L i → x ∈ L j
  unfolding listed
  more zero i x l e = let d : i ≡ 0 = omega arith in rw d at e
  more (suc j) i x l e = elim (ℕ_discrete i (suc j)) [
    | yes d ↦ rw d at e
    | no nd ↦ or_left (L j x) (next_block n E before share (L j) x) (more j i x (omega arith) e)
  ]

  pub in_listed : (i j x : ℕ) → i < j → x ∈ B i → x ∈ L j
  unfolding listed blocks_by
  in_listed i j x l e = more j (suc i) x l (or_right (L i x) (next_block n E before share (L i) x) e)

  pub listed_from : (i x : ℕ) → x ∈ L i → Some i (λ k. x ∈ B k)
  unfolding listed blocks_by
  listed_from zero x e = absurd (false≢true e)
  listed_from (suc i) x e = elim (or_split (L i x) (next_block n E before share (L i) x) e) [
    | inl k ↦ let w : Some i (λ k. x ∈ B k) = listed_from i x k in (w.0, omega arith, w.2)
    | inr k ↦ (i, omega arith, k)
  ]

  listed_first : (i : ℕ) → L i ≡ first_of B i
  unfolding listed blocks_by first_of any
  listed_first zero = refl
  listed_first (suc i) = fun_ext (λ x. ap (λ (t : Bool). t || B i x) (ap (λ (D : Set). D x) (listed_first i)))

  itself : (i : ℕ) → Taken (L i) → least n (Free (L i)) ∈ B i
  unfolding blocks_by next_block
  itself i t =
      let f : ℕ = least n (Free (L i)) in
      (block_iff n E before share f f).1 (record { at = t.may.is_offered; of = t.may.is_offered; with = (both f f).1 (self f, self f) })

  grows : (i x : ℕ) → x ∈ Open → (x ∈ L i → ⊥) → i ≤ # n (L i)
  grows zero x o nx = omega arith
  grows (suc i) x o nx =
      let nx' : x ∈ L i → ⊥ = λ k. nx (more (suc i) i x (omega arith) k) in
      let t : Taken (L i) = taken (L i) (some_free (L i) x o nx') in
      let f : ℕ = least n (Free (L i)) in
      omega (
        arith,
        grows i x o nx',
        #-strict n (L i) (L (suc i)) (λ z lz e. more (suc i) i z (omega arith) e) f t.below
            (in_listed i (suc i) f (omega arith) (itself i t)) t.may.not_listed,
      )

  all_listed : (x : ℕ) → x ∈ Open → x ∈ L n
  all_listed x o = elim (true? (L n x)) [
    | yes e ↦ e
    | no ne ↦ absurd (omega (arith, grows n x o ne, #-strict n (L n) (λ z. true) (λ z lz e. refl) x ((offered_iff n E x).0 o).0 refl ne, #-le n (λ z. true)))
  ]

  -- ---- the number of rounds

  -- a block is permitted in round i
  abbrev Found : ℕ → Type 0
  Found i = Some n (λ x. x ∈ Free (L i))

  found_down : (j i : ℕ) → i ≤ j → Found j → Found i
  found_down j i l w =
      let p : Permitted n E before share (L j) w.0 = (permitted_iff n E before share (L j) w.0).0 w.2 in
      some_free (L i) w.0 p.is_offered (λ k. p.not_listed (more j i w.0 l k))

  count_found : (i : ℕ) → i < block_count_by n E before share → Found i
  unfolding block_count_by
  count_found i l = elim (true? (any n (Free (L i)))) [
    | yes e ↦ (any_iff n (Free (L i))).0 e
    | no ne ↦
        let none : Set = λ k. not (any n (Free (L k))) in
        absurd (omega (arith, least_le n none, least_first n none i (omega (arith, least_le n none)) (not_of (any n (Free (L i))) ne)))
  ]

  found_count : (i : ℕ) → i < n → Found i → i < block_count_by n E before share
  unfolding block_count_by
  found_count i l w = elim (dec_lt i (least n (λ k. not (any n (Free (L k)))))) [
    | yes k ↦ k
    | no nk ↦
        let c : ℕ = least n (λ k. not (any n (Free (L k)))) in
        absurd (not_both (any n (Free (L c))) (least_in n (λ k. not (any n (Free (L k)))) (omega arith))
        ((any_iff n (Free (L c))).1 (found_down i c (omega arith) w)))
  ]

  pub the_listing : ListingBy n E before share (block_count_by n E before share) (blocks_by n E before share)
  unfolding blocks_by next_block
  the_listing = record {
    in_one = λ x o.
        let w : Some n (λ k. x ∈ B k) = listed_from n x (all_listed x o) in
        (w.0, found_count w.0 w.1 (round w.0 x w.2), w.2);
    in_no_other = λ i j x l l' e e'. elim (dec_lt i j) [
      | yes k ↦ absurd (fresh j x e' (in_listed i j x k e))
      | no nk ↦ elim (dec_lt j i) [ yes k ↦ absurd (fresh i x e (in_listed j i x k e')) | no nk' ↦ omega arith ]
    ];
    only_offered = λ i x l e. (of_block i x e).in_block.of;
    in_order = λ i j x y l l' e e' b. elim (dec_lt j i) [
      | yes k ↦ absurd (fresh i x e (listed_down i y x (in_listed j i y k e') (of_block i x e).in_block.of b))
      | no nk ↦ omega arith
    ];
    is_next = λ i l.
        let t : Taken (L i) = taken (L i) (count_found i l) in
        subst (λ (D : Set). Some n (λ x. (x ∈ Free D) × ((y : ℕ) → y < n → y ∈ Free D → x ≤ y) × ((y : ℕ) → B i y ≡ block n E before share x y)))
        (listed_first i)
        (least n (Free (L i)), t.below, (least_in n (Free (L i)) t.below, λ y ly e. least_first n (Free (L i)) y ly e, λ y. block_at i y));
  }
    where
      of_block : (i x : ℕ) → x ∈ B i → In (L i) x
      of_block i x e = in_next (L i) x e

      block_at : (i y : ℕ) → B i y ≡ block n E before share (least n (Free (L i))) y
      block_at i y = refl

      round : (i x : ℕ) → x ∈ B i → Found i
      round i x e = let w : In (L i) x = of_block i x e in (least n (Free (L i)), w.by.below, least_in n (Free (L i)) w.by.below)

  -- for a program: the first round in which none is permitted is the number of blocks
  pub count_stops : (i : ℕ) → ((k : ℕ) → k < i → Some n (λ x. x ∈ permitted n E before share (listed n E before share k)))
      → (Some n (λ x. x ∈ permitted n E before share (listed n E before share i)) → ⊥) → block_count_by n E before share ≡ i
  count_stops i some none = elim (dec_lt i (block_count_by n E before share)) [
    | yes l ↦ absurd (none (count_found i l))
    | no nl ↦ elim (dec_lt (block_count_by n E before share) i) [
      | no nl' ↦ omega arith
      | yes l ↦ absurd (past (some (block_count_by n E before share) l))
    ]
  ]
    where
      past : Found (block_count_by n E before share) → ⊥
      past w = elim (dec_lt (block_count_by n E before share) n) [
        | yes l ↦ omega (arith, found_count (block_count_by n E before share) l w)
        | no nl ↦
            let p : Permitted n E before share (L (block_count_by n E before share)) w.0
            = (permitted_iff n E before share (L (block_count_by n E before share)) w.0).0 w.2 in
            p.not_listed (more (block_count_by n E before share) n w.0 (omega arith) (all_listed w.0 p.is_offered))
      ]

  -- permission is a matter of whole blocks: so the smallest permitted column is the smallest column of the permitted blocks
  pub permitted_whole : (m : ℕ) (C : ℕ → Set) → ListingBy n E before share m C → (i : ℕ) → i ≤ m → (x y : ℕ)
      → x ∈ permitted n E before share (first_of C i) → y ∈ block n E before share x → y ∈ permitted n E before share (first_of C i)
  unfolding first_of
  permitted_whole m C f i l x y e k =
      let p : Permitted n E before share (first_of C i) x = (permitted_iff n E before share (first_of C i) x).0 e in
      let w : Block n E before share x y = (block_iff n E before share x y).0 k in
      let xy : (before x y ≡ true) × (before y x ≡ true) = (both x y).0 w.with in
      (permitted_iff n E before share (first_of C i) y).1 (record {
        is_offered = w.of;
        not_listed = λ d. p.not_listed (whole ((any_iff i (λ j. C j y)).0 d) w xy);
        earlier = λ z h. p.earlier z (record {
          is_offered = h.is_offered;
          is_before = via z y x h.is_before xy.1;
          apart = λ t. h.apart ((both z y).1 (h.is_before, via y x z xy.1 ((both z x).0 t).1));
        });
      })
    where
      whole : Some i (λ j. y ∈ C j) → Block n E before share x y → (before x y ≡ true) × (before y x ≡ true) → x ∈ first_of C i
      whole j w xy =
          let v : Next n E before share C j.0 = f.is_next j.0 (omega arith) in
          let q : Block n E before share v.0 y = (block_iff n E before share v.0 y).0 (sym (v.2.2 y) ∙ j.2) in
          let vy : (before v.0 y ≡ true) × (before y v.0 ≡ true) = (both v.0 y).0 q.with in
          (any_iff i (λ j. C j x)).1 (
            j.0,
            j.1,
            v.2.2 x ∙ (block_iff n E before share v.0 x).1 (record {
              at = q.at;
              of = w.at;
              with = (both v.0 x).1 (via v.0 y x vy.0 xy.1, via x y v.0 xy.0 vy.1);
            }),
          )
