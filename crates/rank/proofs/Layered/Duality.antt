-- No legal assignment is larger than a sum; the rank is the size of the largest. Assumes nothing.
use Prim.Native.Nat.{ℕ, ◌+◌, ◌≤◌, ◌<◌}
use Rattle.std.specs.Prelude.{Bool, true, false, not, ◌≡◌, refl}
use Rattle.std.proofs.Math.Bool.{true≢false, cond}
use Rattle.std.proofs.lemmas.Bool.{false≢true}
use Rattle.std.proofs.Common.{sym, ◌∙◌, ap}
use native.Mathlib.Omega.{arith}
use Rattle.counting.specs.Bools.{and_in, and_left, and_right, in_not, not_in, not_true, true?}
use Rattle.counting.specs.Sets.{#, Set, ◌∈◌, ◌∩◌, touching, ∁}
use Rattle.counting.specs.Counts.{#-split}
use Rattle.counting.specs.Injections.{#-mono, #-strict, touching_mono}
use Rattle.counting.specs.Choices.{Part}
use Rattle.counting.specs.ChoiceLaws.{Chosen, cond_false, cond_true, largest_at, largest_le}
use Rattle.rank.specs.Linear.Independence.{Indep}
use Rattle.rank.specs.Linear.Kernels.{indep_sub}
use Rattle.rank.specs.Layered.Model.{Assignment, Legal, Model, Seat, constant, constants, is_constant, is_placed, legal, out, placing, row, size}
use Rattle.rank.specs.Layered.Rank.{constant_rank, largest_assignment, last_seat, matching, rank, seat, sum}
use Rattle.rank.proofs.Layered.Meaning.{Outside, chosen_seats, constant_rank_at, constant_rank_le, legal_seats, legal_true, matching_at, matching_le, rank_at, rank_le, seats_chosen, true_legal}
use Rattle.rank.proofs.Layered.Restricting.{constant_part, constant_part_indep, constant_part_part, constant_placed, legal_less, parts, restrict, restrict_in, restrict_less, restrict_placed, row_part_count}

-- the constant side if the column is in the set, else s
join : Bool → Seat → Seat
join true s = constant
join false s = s

join_placed : (t : Bool) (s : Seat) → is_placed (join t s) ≡ true → (t ≡ false → is_placed s ≡ true)
unfolding join
join_placed true s e f = absurd (true≢false f)
join_placed false s e f = e

join_row : (t : Bool) (s : Seat) (r : ℕ) → join t s ≡ row r → (t ≡ false) × (s ≡ row r)
unfolding join
join_row true s r e = absurd (true≢false (ap is_constant e))
join_row false s r e = (refl, e)

join_constant : (t : Bool) (s : Seat) → (is_placed s ≡ true → is_constant s ≡ false) → is_constant (join t s) ≡ true → t ≡ true
unfolding join
join_constant true s h e = refl
join_constant false out h e = e
join_constant false constant h e = absurd (true≢false (h refl))
join_constant false (row r) h e = e

join_in : (t : Bool) (s : Seat) → t ≡ true → is_placed (join t s) ≡ true
unfolding join
join_in true s e = refl
join_in false s e = absurd (false≢true e)

join_out : (t : Bool) (s : Seat) → t ≡ false → join t s ≡ s
unfolding join
join_out true s e = absurd (true≢false e)
join_out false s e = refl

module _ (M : Model) where
  open M use {K, a, b, n, Q, T, E, indep, indep_iff}

  -- what a legal assignment places in J is at most the constant rank of J and the rows that touch J
  pub placed_in : (A : Assignment) → Legal M A → (J : Set) → # n (J ∩ placing A) ≤ constant_rank M J + # b (touching n T J)
  placed_in A h J = omega (
    arith,
    parts M A h J,
    constant_rank_le M J (constant_part A J) (λ x e. ((constant_part_part M A h J x e).0, and_left (J x) (E x) (constant_part_part M A h J x e).1)) (constant_part_indep M A h J),
    row_part_count M A h J,
    touching_mono n b T (J ∩ E) J (λ x e. and_left (J x) (E x) e),
  )

  pub rest_offered : (A : Assignment) → Legal M A → (J : Set) (x : ℕ) → x < n → x ∈ ∁ J ∩ placing A → x ∈ ∁ J ∩ E
  rest_offered A h J x l e = and_in (and_left (not (J x)) (placing A x) e) (h.offered x (and_right (not (J x)) (placing A x) e)).1

  -- every legal assignment has at most as many columns as the sum of any set
  pub size_le_sum : (A : Assignment) → Legal M A → (J : Set) → size M A ≤ sum M J
  unfolding sum
  size_le_sum A h J = omega (arith, #-split n J (placing A), placed_in A h J, #-mono n (∁ J ∩ placing A) (∁ J ∩ E) (rest_offered A h J))

  -- and fewer where J leaves out an offered column that is out
  pub size_lt_sum : (A : Assignment) → Legal M A → (J : Set) → (x : ℕ) → x < n → x ∈ E → J x ≡ false → placing A x ≡ false → size M A < sum M J
  unfolding sum
  size_lt_sum A h J x l o nj np = omega (
    arith,
    #-split n J (placing A),
    placed_in A h J,
    #-strict n (∁ J ∩ placing A) (∁ J ∩ E) (rest_offered A h J) x l (and_in (in_not (J x) nj) o) (λ e. true≢false (sym (and_right (not (J x)) (placing A x) e) ∙ np)),
  )

  -- no legal assignment has more columns than the rank,
  pub size_le_rank : (A : Assignment) → Legal M A → size M A ≤ rank M
  size_le_rank A h =
      let J : Set = constants A in
      let R : Assignment = restrict (∁ J) A in
      let lR : Legal M R = legal_less M R A (restrict_less (∁ J) A) h in
      let o : Outside M J R = λ x p. let k : (not (J x) ≡ true) × (R x ≡ A x) = restrict_placed (∁ J) A x p in
      (not_in (J x) k.0, ap is_constant k.1 ∙ not_in (J x) k.0) in
      omega (
        arith,
        #-split n J (placing A),
        #-mono n (J ∩ placing A) J (λ x l e. and_left (J x) (placing A x) e),
        #-mono n (∁ J ∩ placing A) (placing R) (λ x l e. ap is_placed (restrict_in (∁ J) A x (and_left (not (J x)) (placing A x) e)) ∙ and_right (not (J x)) (placing A x) e),
        constant_rank_le M J J (λ x e. ((h.offered x (constant_placed (A x) e)).0, e)) h.independent,
        matching_le M J R lR o,
        rank_le M J (λ x e. h.offered x (constant_placed (A x) e)),
      )

  -- and one has as many
  pub rank_reached : (A : Assignment) × Legal M A × (size M A ≡ rank M)
  rank_reached = (C, legal_C, omega (arith, size_le_rank C legal_C, count))
    where
      w : (J : Set) × Part n E J × (constant_rank M J + matching M J ≡ rank M)
      w = rank_at M

      J : Set
      J = w.0

      s : (S : Set) × Part n J S × Indep K a n Q S × (# n S ≡ constant_rank M J)
      s = constant_rank_at M J

      m : (A : Assignment) × Legal M A × Outside M J A × (size M A ≡ matching M J)
      m = matching_at M J

      S : Set
      S = s.0

      A : Assignment
      A = m.0

      C : Assignment
      C x = join (S x) (A x)

      off : (x : ℕ) → x ∈ placing A → S x ≡ false
      off x p = not_true (S x) (λ e. true≢false (sym (s.1 x e).1 ∙ (m.2 x p).0))

      legal_C : Legal M C
      legal_C = record {
        offered = λ x p. elim (true? (S x)) [ yes e ↦ w.1 x (s.1 x e).1 | no ne ↦ m.1.offered x (join_placed (S x) (A x) p (not_true (S x) ne)) ];
        independent = indep_sub {T = S} (λ x e. join_constant (S x) (A x) (λ p. (m.2 x p).1) e) s.2;
        parameter = λ x r e. m.1.parameter x r (join_row (S x) (A x) r e).1;
        one_each = λ x y r e e'. m.1.one_each x y r (join_row (S x) (A x) r e).1 (join_row (S y) (A y) r e').1;
      }

      count : rank M ≤ size M C
      count = omega (
        arith,
        w.2,
        s.3,
        m.3,
        #-split n S (placing C),
        #-mono n S (S ∩ placing C) (λ x l e. and_in e (join_in (S x) (A x) e)),
        #-mono n (placing A) (∁ S ∩ placing C) (λ x l p. and_in (in_not (S x) (off x p)) (ap is_placed (join_out (S x) (A x) (off x p)) ∙ p)),
      )

  -- so it is the largest number of columns in a legal assignment
  pub rank_largest : rank M ≡ largest_assignment M (λ A. cond (legal M A) (size M A) 0)
  unfolding largest_assignment
  rank_largest = omega (arith, up, down)
    where
      G : Assignment → ℕ
      G A = cond (legal M A) (size M A) 0

      up : rank M ≤ largest_assignment M G
      up = let r : (A : Assignment) × Legal M A × (size M A ≡ rank M) = rank_reached in
          omega (arith, r.2, cond_true (legal M r.0) (size M r.0) 0 (legal_true M r.0 r.1), largest_le seat (last_seat M) n G r.0 (seats_chosen M r.0 (legal_seats M r.0 r.1)))

      down : largest_assignment M G ≤ rank M
      down = let r : (A : Assignment) × Chosen seat (last_seat M) n A × (G A ≡ largest_assignment M G) = largest_at seat (last_seat M) n G in
          elim (true? (legal M r.0)) [
            | yes t ↦ omega (arith, r.2, cond_true (legal M r.0) (size M r.0) 0 t, size_le_rank r.0 (true_legal M r.0 (chosen_seats M r.0 r.1) t))
            | no nt ↦ omega (arith, r.2, cond_false (legal M r.0) (size M r.0) 0 nt)
          ]
