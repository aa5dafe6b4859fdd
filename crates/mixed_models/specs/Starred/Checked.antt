-- A claim whose tests pass is true: its rank, its placed set and its short set are those of the model. Assumes nothing.
use Rattle.std.specs.Prelude.{ℕ, zero, suc, ◌+◌, ◌≤◌, ◌<◌, ◌≡◌, false, ◌||◌}
use Rattle.std.proofs.Common.{sym, ◌∙◌, inl, inr}
use Rattle.std.proofs.Math.Bool.{true, decide, decide_iff, Bool-discrete}
use native.Mathlib.Omega.{arith}
use Rattle.std.proofs.Math.Decide.{ℕ_discrete, dec_le, dec_lt}
use Rattle.counting.specs.Bools.{true?, not_true, iff_eq, and_in, and_left, and_right, or_split}
use Rattle.counting.specs.Sets.{all, Set, ◌∈◌, ◌∩◌, ∁, #}
use Rattle.counting.specs.Counts.{all_iff, #-ext}
use Rattle.counting.specs.Injections.{#-mono}
use Rattle.counting.specs.Choices.{Part}
use Rattle.rank.specs.Layered.Model.{Model, Assignment, placing, Legal, size}
use Rattle.rank.specs.Layered.Rank.{sum, rank, short, placed}
use Rattle.rank.proofs.Layered.Meaning.{short_iff}
use Rattle.rank.proofs.Layered.Duality.{placed_in, size_lt_sum, size_le_rank}
use Rattle.rank.proofs.Layered.ColumnOrder.{placed_below, placed_legal, taken_if}
use Rattle.rank.proofs.Layered.Minimax.{rank_le_sum}
use Rattle.mixed_models.specs.Starred.Lists.{among, seats}
use Rattle.mixed_models.specs.Starred.Pivots.{proper}
use Rattle.mixed_models.specs.Starred.Claims.{Claim, sound, rows_left, spared, refused_by, places_all, below_all, passes}
use Rattle.mixed_models.specs.Starred.Sound.{sound_legal, rows_left_bound, spared_is, below_is, Blocked, refused_is}

module _ (M : Model) where
  open M use {K, a, b, n, Q, T, E}

  -- a legal assignment and a column set whose sum is its size settle the rank; assignments of that size that lack a column settle the short set
  record Certificate (r : ℕ) (J : Set) : Type 0 where
    witness : Assignment
    is_legal : Legal M witness
    reaches : size M witness ≡ r
    columns : Part n E J
    bound : sum M J ≤ r
    spare : (x : ℕ) → x ∈ J → (A : Assignment) × Legal M A × (size M A ≡ r) × (placing A x ≡ false)

  module _ (r : ℕ) (J : Set) (c : Certificate r J) where
    certified_rank : rank M ≡ r
    certified_rank = omega (arith, size_le_rank M c.witness c.is_legal, c.reaches, rank_le_sum M J, c.bound)

    certified_sum : sum M J ≡ rank M
    certified_sum = omega (arith, certified_rank, rank_le_sum M J, c.bound)

    certified_short : (x : ℕ) → short M x ≡ J x
    certified_short x = iff_eq (short M x) (J x)
        (λ e. (short_iff M x).0 e J c.columns certified_sum)
        (λ e. (short_iff M x).1 (λ I p t. elim (true? (I x)) [
          | yes i ↦ i
          | no ni ↦ let w : (A : Assignment) × Legal M A × (size M A ≡ r) × (placing A x ≡ false) = c.spare x e in
              absurd (omega (arith, size_lt_sum M w.0 w.1 I x (c.columns x e).0 (c.columns x e).1 (not_true (I x) ni) w.3, w.2, certified_rank))
        ]))

  -- the parts of the test
  record Holds (c : Claim) : Type 0 where
    sound_witness : sound M c.witness ≡ true
    places_them : places_all M c.the_placed c.witness ≡ true
    their_number : # n (among c.the_placed) ≡ c.the_rank
    placed_columns : below_all M c.the_placed ≡ true
    short_columns : below_all M c.the_short ≡ true
    proper_cut : proper K a c.cut Q ≡ true
    small_sum : rows_left M c.cut (among c.the_short) + # n (∁ (among c.the_short) ∩ E) ≤ c.the_rank
    all_spared : spared M c.the_rank c.the_short c.spare ≡ true
    all_refused : all n (λ u. among c.the_placed u || refused_by M c.the_placed u c.refused) ≡ true

  holds : (c : Claim) → passes M c ≡ true → Holds c
  unfolding passes
  holds c e =
      let from_places : _ ≡ true = and_right (sound M c.witness) _ e in
      let from_number : _ ≡ true = and_right (places_all M c.the_placed c.witness) _ from_places in
      let from_placed : _ ≡ true = and_right (decide (ℕ_discrete (# n (among c.the_placed)) c.the_rank)) _ from_number in
      let from_short : _ ≡ true = and_right (below_all M c.the_placed) _ from_placed in
      let from_cut : _ ≡ true = and_right (below_all M c.the_short) _ from_short in
      let from_sum : _ ≡ true = and_right (proper K a c.cut Q) _ from_cut in
      let from_spare : _ ≡ true = and_right (decide (dec_le (rows_left M c.cut (among c.the_short) + # n (∁ (among c.the_short) ∩ E)) c.the_rank)) _ from_sum in record {
        sound_witness = and_left (sound M c.witness) _ e;
        places_them = and_left (places_all M c.the_placed c.witness) _ from_places;
        their_number = (decide_iff (ℕ_discrete (# n (among c.the_placed)) c.the_rank)).0 (and_left _ _ from_number);
        placed_columns = and_left (below_all M c.the_placed) _ from_placed;
        short_columns = and_left (below_all M c.the_short) _ from_short;
        proper_cut = and_left (proper K a c.cut Q) _ from_cut;
        small_sum = (decide_iff (dec_le (rows_left M c.cut (among c.the_short) + # n (∁ (among c.the_short) ∩ E)) c.the_rank)).0 (and_left _ _ from_sum);
        all_spared = and_left (spared M c.the_rank c.the_short c.spare) _ from_spare;
        all_refused = and_right (spared M c.the_rank c.the_short c.spare) _ from_spare;
      }

  module _ (c : Claim) (h : Holds c) where
    A : Assignment
    A = seats c.witness.its_seats

    legal_A : Legal M A
    unfolding A
    legal_A = sound_legal M c.witness h.sound_witness

    places_A : (x : ℕ) → x < n → placing A x ≡ among c.the_placed x
    unfolding A places_all
    places_A x l = (decide_iff (Bool-discrete (placing A x) (among c.the_placed x))).0 ((all_iff n (λ x. decide (Bool-discrete (placing A x) (among c.the_placed x)))).0 h.places_them x l)

    certificate : Certificate c.the_rank (among c.the_short)
    unfolding sum
    certificate = record {
      witness = A;
      is_legal = legal_A;
      reaches = #-ext n (placing A) (among c.the_placed) places_A ∙ h.their_number;
      columns = below_is M c.the_short h.short_columns;
      bound = omega (
        arith,
        rows_left_bound M c.cut h.proper_cut (among c.the_short),
        h.small_sum,
      );
      spare = spared_is M c.the_rank c.the_short c.spare h.all_spared;
    }

    claimed_rank : rank M ≡ c.the_rank
    claimed_rank = certified_rank c.the_rank (among c.the_short) certificate

    claimed_short : (x : ℕ) → short M x ≡ among c.the_short x
    claimed_short = certified_short c.the_rank (among c.the_short) certificate

    placed_upto : (m : ℕ) → m ≤ n → (x : ℕ) → x < m → placed M x ≡ among c.the_placed x
    placed_upto zero l x lx = absurd (omega arith)
    placed_upto (suc m) l x lx = elim (ℕ_discrete x m) [ yes e ↦ rw e (next (placed_upto m (omega arith))) | no ne ↦ placed_upto m (omega arith) x (omega arith) ]
      where
        L : Set
        L = among c.the_placed

        out_of : ((x : ℕ) → x < m → placed M x ≡ L x) → Blocked M c.the_placed m → m ∈ placed M → ⊥
        out_of ih w i =
            let B : (B : Assignment) × Legal M B × ((x : ℕ) → x < n → placing B x ≡ placed M x) = placed_legal M in
            let J : Set = w.0 in
            omega (
              arith,
              w.2,
              placed_in M B.0 B.1 J,
              #-mono n J (J ∩ placing B.0) (λ y ly j. and_in j (B.2 y ly ∙ elim (w.1 y ly j) [ inl d ↦ rw d i | inr k ↦ ih y k.0 ∙ k.1 ])),
            )

        next : ((x : ℕ) → x < m → placed M x ≡ L x) → placed M m ≡ L m
        next ih = elim (true? (L m)) [
          | yes i ↦ taken_if M m l A legal_A (λ x lx p. places_A x (omega arith) ∙ sym (ih x lx) ∙ p) (places_A m l ∙ i) ∙ sym i
          | no ni ↦ not_true (placed M m) (out_of ih (elim (or_split (L m) (refused_by M c.the_placed m c.refused) ((all_iff n (λ u. L u || refused_by M c.the_placed u c.refused)).0 h.all_refused m l)) [
            | inl i ↦ absurd (ni i)
            | inr f ↦ refused_is M c.the_placed m c.refused f
          ])) ∙ sym (not_true (L m) ni)
        ]

    claimed_placed : (x : ℕ) → placed M x ≡ among c.the_placed x
    claimed_placed x = elim (dec_lt x n) [
      | yes l ↦ placed_upto n (omega arith) x l
      | no nl ↦ not_true (placed M x) (λ e. nl (placed_below M x e)) ∙ sym (not_true (among c.the_placed x) (λ e. nl (below_is M c.the_placed h.placed_columns x e).0))
    ]

  -- so the claim is true
  pub claimed : (c : Claim) → passes M c ≡ true
      → (rank M ≡ c.the_rank) × ((x : ℕ) → placed M x ≡ among c.the_placed x) × ((x : ℕ) → short M x ≡ among c.the_short x)
  claimed c e = (claimed_rank c (holds c e), claimed_placed c (holds c e), claimed_short c (holds c e))
