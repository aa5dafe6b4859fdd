-- What the definitions of `Model` and `Rank` say, as statements: each test is true exactly where its statement holds, each largest value is reached and
-- bounds the others. Assumes nothing.
use Prim.Native.Nat.{ℕ, zero, suc, ◌+◌, ◌≤◌, ◌<◌}
use Rattle.std.proofs.Math.Bool.{Bool, true, false, not, decide, decide_iff, Bool-discrete, true≢false, cond}
use Rattle.std.specs.Prelude.{◌&&◌, ◌||◌, ◌↔◌, ◌≡◌, refl}
use Rattle.std.proofs.lemmas.Bool.{false≢true}
use Rattle.std.proofs.Math.Path.{sym, ap}
use Rattle.std.proofs.Common.{◌∙◌}
use Rattle.std.proofs.Math.Decide.{ℕ_discrete, dec_lt}
use native.Mathlib.Omega.{arith}
use Rattle.counting.specs.Bools.{and_in, and_left, and_right, implied, implies, not_both, not_of, not_true, true?}
use Rattle.counting.specs.Sets.{#, Set, ◌∈◌, all}
use Rattle.counting.specs.Counts.{#-none, all_iff}
use Rattle.counting.specs.Choices.{Part}
use Rattle.counting.specs.ChoiceLaws.{Chosen, cond_false, cond_true, every_part_iff, largest_at, largest_le, part_at, part_le, some_iff}
use Rattle.rank.specs.Linear.Independence.{Indep}
use Rattle.rank.specs.Layered.Model.{Assignment, Legal, Model, Seat, constant, constants, has_parameter, is_constant, is_placed, legal, out, placing, row, same_row, size}
use Rattle.rank.specs.Layered.Rank.{constant_rank, largest_assignment, last_seat, matching, placeable, rank, row_outside, seat, short, some_assignment, sum}

-- a seat is out, the constant side, or a row
pub seat_cases : {A : Type 0} (s : Seat) → (s ≡ out → A) → (s ≡ constant → A) → ((r : ℕ) → s ≡ row r → A) → A
seat_cases out f g h = f refl
seat_cases constant f g h = g refl
seat_cases (row r) f g h = h r refl

-- a seat is a certain row, or it is not
pub row? : (s : Seat) (r : ℕ) → Dec (s ≡ row r)
row? out r = no (λ e. false≢true (ap is_placed e))
row? constant r = no (λ e. true≢false (ap is_constant e))
row? (row q) r = elim (ℕ_discrete q r) [ yes e ↦ yes (ap row e) | no ne ↦ no (λ e. ne (cc)) ]

-- both seats are one row
pub same_row_iff : (s t : Seat) → (same_row s t ≡ true) ↔ ((r : ℕ) × (s ≡ row r) × (t ≡ row r))
unfolding same_row
same_row_iff out t = (λ e. absurd (false≢true e), λ w. absurd (true≢false (cc)))
same_row_iff constant t = (λ e. absurd (false≢true e), λ w. absurd (true≢false (cc)))
same_row_iff (row r) out = (λ e. absurd (false≢true e), λ w. absurd (true≢false (cc)))
same_row_iff (row r) constant = (λ e. absurd (false≢true e), λ w. absurd (true≢false (cc)))
same_row_iff (row r) (row q) = (
  λ e. let d : r ≡ q = (decide_iff (ℕ_discrete r q)).0 e in (r, refl, cc),
  λ w. (decide_iff (ℕ_discrete r q)).1 (cc),
)

module _ (M : Model) where
  open M use {K, a, b, n, Q, T, E, indep, indep_iff}

  -- A gives only offered columns a seat, and only rows below b: the definitions run over these assignments
  pub record Seats (A : Assignment) : Type 0 where
    pub offered : (x : ℕ) → x ∈ placing A → (x < n) × (x ∈ E)
    pub below : (x r : ℕ) → A x ≡ row r → r < b

  pub seats_chosen : (A : Assignment) → Seats A → Chosen seat (last_seat M) n A
  unfolding seat last_seat
  seats_chosen A s = record {
    inside = λ x l. seat_cases (A x)
        (λ e. (0, omega arith, e))
        (λ e. (1, rw (s.offered x (ap is_placed e)).1 (omega arith), e))
        (λ r e. (suc (suc r), rw (s.offered x (ap is_placed e)).1 (omega (arith, s.below x r e)), e));
    beyond = λ x l. seat_cases (A x) (λ e. e)
        (λ e. absurd (omega (arith, (s.offered x (ap is_placed e)).0)))
        (λ r e. absurd (omega (arith, (s.offered x (ap is_placed e)).0)));
  }

  pub chosen_seats : (A : Assignment) → Chosen seat (last_seat M) n A → Seats A
  unfolding seat last_seat
  chosen_seats A c = record { offered = λ x p. (near x p, (choose x p).0); below = λ x r e. (choose x (ap is_placed e)).1 r e }
    where
      near : (x : ℕ) → x ∈ placing A → x < n
      near x p = elim (dec_lt x n) [ yes l ↦ l | no nl ↦ absurd (true≢false (sym p ∙ ap is_placed (c.beyond x (omega arith)))) ]

      low : (x : ℕ) (i : ℕ) → i ≤ last_seat M x → A x ≡ seat i → x ∈ placing A → (x ∈ E) × ((r : ℕ) → A x ≡ row r → r < b)
      low x zero l e p = absurd (true≢false (sym p ∙ ap is_placed e))
      low x (suc zero) l e p = elim (true? (E x)) [
        | yes o ↦ (o, λ r d. absurd (true≢false (ap is_constant (sym e ∙ d))))
        | no no' ↦ absurd (omega (arith, cond_false (E x) (suc b) 0 no'))
      ]
      low x (suc (suc q)) l e p = elim (true? (E x)) [
        | yes o ↦ (o, λ r d. let j : q ≡ r = cc in omega (arith, cond_true (E x) (suc b) 0 o))
        | no no' ↦ absurd (omega (arith, cond_false (E x) (suc b) 0 no'))
      ]

      choose : (x : ℕ) → x ∈ placing A → (x ∈ E) × ((r : ℕ) → A x ≡ row r → r < b)
      choose x p = let w : (i : ℕ) × (i ≤ last_seat M x) × (A x ≡ seat i) = c.inside x (near x p) in low x w.0 w.1 w.2 p

  -- a column on a row has a parameter there
  pub parameter_iff : (x : ℕ) (s : Seat) → (has_parameter M x s ≡ true) ↔ ((r : ℕ) → s ≡ row r → T r x ≡ true)
  unfolding has_parameter
  parameter_iff x out = (λ e r d. absurd (false≢true (ap is_placed d)), λ h. refl)
  parameter_iff x constant = (λ e r d. absurd (true≢false (ap is_constant d)), λ h. refl)
  parameter_iff x (row q) = (λ e r d. let j : q ≡ r = cc in rw j at e, λ h. h q refl)

  pub legal_seats : (A : Assignment) → Legal M A → Seats A
  legal_seats A h = record { offered = h.offered; below = λ x r e. (h.parameter x r e).0 }

  -- a legal assignment passes the test
  pub legal_true : (A : Assignment) → Legal M A → legal M A ≡ true
  unfolding legal
  legal_true A h = and_in (and_in ((indep_iff (constants A)).1 h.independent)
      ((all_iff n (λ x. has_parameter M x (A x))).1 (λ x l. (parameter_iff x (A x)).1 (λ r e. (h.parameter x r e).1))))
      ((all_iff n (λ x. all x (λ y. not (same_row (A y) (A x))))).1 (λ x l.
      (all_iff x (λ y. not (same_row (A y) (A x)))).1 (λ y ly. not_of (same_row (A y) (A x)) (λ e.
      let w : (r : ℕ) × (A y ≡ row r) × (A x ≡ row r) = (same_row_iff (A y) (A x)).0 e in
      omega (arith, h.one_each y x w.0 w.1 w.2)))))

  -- the test passes where its parts do
  pub legal_from : (A : Assignment) → Indep K a n Q (constants A) → ((x : ℕ) → x < n → (r : ℕ) → A x ≡ row r → T r x ≡ true)
      → all n (λ x. all x (λ y. not (same_row (A y) (A x)))) ≡ true → legal M A ≡ true
  unfolding legal
  legal_from A i p e = and_in (and_in ((indep_iff (constants A)).1 i) ((all_iff n (λ x. has_parameter M x (A x))).1 (λ x l. (parameter_iff x (A x)).1 (p x l)))) e

  -- and what passes the test is legal
  pub true_legal : (A : Assignment) → Seats A → legal M A ≡ true → Legal M A
  unfolding legal
  true_legal A s e = record {
    offered = s.offered;
    independent = (indep_iff (constants A)).0 (and_left (indep (constants A)) (all n (λ x. has_parameter M x (A x))) one);
    parameter = λ x r d. (s.below x r d, (parameter_iff x (A x)).0 ((all_iff n (λ x. has_parameter M x (A x))).0 (and_right (indep (constants A)) (all n (λ x. has_parameter M x (A x))) one) x (s.offered x (ap is_placed d)).0) r d);
    one_each = λ x y r d d'. elim (ℕ_discrete x y) [
      | yes p ↦ p
      | no np ↦ elim (dec_lt x y) [
        | yes l ↦ absurd (apart y x (s.offered y (ap is_placed d')).0 l r d' d)
        | no nl ↦ absurd (apart x y (s.offered x (ap is_placed d)).0 (omega arith) r d d')
      ]
    ];
  }
    where
      one : (indep (constants A) && all n (λ x. has_parameter M x (A x))) ≡ true
      one = and_left (indep (constants A) && all n (λ x. has_parameter M x (A x))) (all n (λ x. all x (λ y. not (same_row (A y) (A x))))) e

      two : all n (λ x. all x (λ y. not (same_row (A y) (A x)))) ≡ true
      two = and_right (indep (constants A) && all n (λ x. has_parameter M x (A x))) (all n (λ x. all x (λ y. not (same_row (A y) (A x))))) e

      apart : (x y : ℕ) → x < n → y < x → (r : ℕ) → A x ≡ row r → A y ≡ row r → ⊥
      apart x y l ly r d d' = not_both (same_row (A y) (A x))
          ((all_iff x (λ y. not (same_row (A y) (A x)))).0 ((all_iff n (λ x. all x (λ y. not (same_row (A y) (A x))))).0 two x l) y ly)
          ((same_row_iff (A y) (A x)).1 (r, d', d))

  -- of the assignments that give offered columns seats that the model has, the test is true of the legal ones and of no others
  pub legal_iff : (A : Assignment) → Seats A → (legal M A ≡ true) ↔ Legal M A
  legal_iff A s = (true_legal A s, legal_true A)

  -- the empty assignment
  pub empty_indep : Indep K a n Q (λ x. false)
  empty_indep = record { only_zero = λ c i k j l. i j false≢true }

  pub empty_legal : Legal M (λ x. out)
  empty_legal = record {
    offered = λ x p. absurd (false≢true p);
    independent = empty_indep;
    parameter = λ x r e. absurd (false≢true (ap is_placed e));
    one_each = λ x y r e. absurd (false≢true (ap is_placed e));
  }

  -- the constant rank is reached, and no independent part is larger
  pub constant_rank_le : (J S : Set) → Part n J S → Indep K a n Q S → # n S ≤ constant_rank M J
  unfolding constant_rank
  constant_rank_le J S p i = omega (arith, part_le n J (λ S. cond (indep S) (# n S) 0) S p, cond_true (indep S) (# n S) 0 ((indep_iff S).1 i))

  pub constant_rank_at : (J : Set) → (S : Set) × Part n J S × Indep K a n Q S × (# n S ≡ constant_rank M J)
  unfolding constant_rank
  constant_rank_at J =
      let r : (S : Set) × Part n J S × (cond (indep S) (# n S) 0 ≡ constant_rank M J) = part_at n J (λ S. cond (indep S) (# n S) 0) in
      elim (true? (indep r.0)) [
        | yes t ↦ (r.0, r.1, (indep_iff r.0).0 t, sym (cond_true (indep r.0) (# n r.0) 0 t) ∙ r.2)
        | no nt ↦ (λ x. false, λ x e. absurd (false≢true e), empty_indep, #-none n ∙ sym (cond_false (indep r.0) (# n r.0) 0 nt) ∙ r.2)
      ]

  -- A places columns outside J alone, and none of them on the constant side
  abbrev pub Outside : Set → Assignment → Type 0
  Outside J A = (x : ℕ) → x ∈ placing A → (J x ≡ false) × (is_constant (A x) ≡ false)

  -- the test for it
  pub row_outside_iff : (J : Set) (x : ℕ) (s : Seat) → (row_outside J x s ≡ true) ↔ (is_placed s ≡ true → (J x ≡ false) × (is_constant s ≡ false))
  unfolding row_outside
  row_outside_iff J x out = (λ e p. absurd (false≢true p), λ h. refl)
  row_outside_iff J x constant = (λ e. absurd (false≢true e), λ h. absurd (true≢false (h refl).1))
  row_outside_iff J x (row r) = (λ e p. (not_true (J x) (not_both (J x) e), refl), λ h. not_of (J x) (λ j. true≢false (sym j ∙ (h refl).0)))

  -- the largest matching is reached, and no such legal assignment is larger
  pub matching_le : (J : Set) (A : Assignment) → Legal M A → Outside J A → size M A ≤ matching M J
  unfolding matching largest_assignment
  matching_le J A h o = omega (
    arith,
    largest_le seat (last_seat M) n (λ A. cond (legal M A && all n (λ x. row_outside J x (A x))) (size M A) 0) A (seats_chosen A (legal_seats A h)),
    cond_true (legal M A && all n (λ x. row_outside J x (A x))) (size M A) 0
        (and_in (legal_true A h) ((all_iff n (λ x. row_outside J x (A x))).1 (λ x l. (row_outside_iff J x (A x)).1 (o x)))),
  )

  pub matching_at : (J : Set) → (A : Assignment) × Legal M A × Outside J A × (size M A ≡ matching M J)
  unfolding matching largest_assignment
  matching_at J =
      let G : Assignment → ℕ = λ A. cond (legal M A && all n (λ x. row_outside J x (A x))) (size M A) 0 in
      let r : (A : Assignment) × Chosen seat (last_seat M) n A × (G A ≡ matching M J) = largest_at seat (last_seat M) n G in
      let A : Assignment = r.0 in
      elim (true? (legal M A && all n (λ x. row_outside J x (A x)))) [
        | yes t ↦ (
          A,
          true_legal A (chosen_seats A r.1) (and_left _ _ t),
          λ x p. (row_outside_iff J x (A x)).0 ((all_iff n (λ x. row_outside J x (A x))).0 (and_right (legal M A) _ t) x ((chosen_seats A r.1).offered x p).0) p,
          sym (cond_true (legal M A && all n (λ x. row_outside J x (A x))) (size M A) 0 t) ∙ r.2,
        )
        | no nt ↦ (
          λ x. out,
          empty_legal,
          λ x p. absurd (false≢true p),
          #-none n ∙ sym (cond_false (legal M A && all n (λ x. row_outside J x (A x))) (size M A) 0 nt) ∙ r.2,
        )
      ]

  -- the rank is reached, and no such sum of a constant rank and a matching is larger
  pub rank_le : (J : Set) → Part n E J → constant_rank M J + matching M J ≤ rank M
  unfolding rank
  rank_le J p = part_le n E (λ J. constant_rank M J + matching M J) J p

  pub rank_at : (J : Set) × Part n E J × (constant_rank M J + matching M J ≡ rank M)
  unfolding rank
  rank_at = part_at n E (λ J. constant_rank M J + matching M J)

  -- S is what some legal assignment places
  pub placeable_iff : (S : Set) → (placeable M S ≡ true) ↔ ((A : Assignment) × Legal M A × ((x : ℕ) → x < n → placing A x ≡ S x))
  unfolding placeable some_assignment
  placeable_iff S = (
    λ e.
        let w : (A : Assignment) × Chosen seat (last_seat M) n A × (P A ≡ true) = (some_iff seat (last_seat M) n P).0 e in (
          w.0,
          true_legal w.0 (chosen_seats w.0 w.1) (and_left _ _ w.2),
          λ x l. (decide_iff (Bool-discrete (placing w.0 x) (S x))).0 ((all_iff n (λ x. decide (Bool-discrete (placing w.0 x) (S x)))).0 (and_right (legal M w.0) _ w.2) x l),
        ),
    λ w. (some_iff seat (last_seat M) n P).1 (
      w.0,
      seats_chosen w.0 (legal_seats w.0 w.1),
      and_in (legal_true w.0 w.1) ((all_iff n (λ x. decide (Bool-discrete (placing w.0 x) (S x)))).1 (λ x l. (decide_iff (Bool-discrete (placing w.0 x) (S x))).1 (w.2 x l))),
    ),
  )
    where
      P : Assignment → Bool
      P A = legal M A && all n (λ x. decide (Bool-discrete (placing A x) (S x)))

  -- x lies in every column set whose sum is the rank
  pub short_iff : (x : ℕ) → (x ∈ short M) ↔ ((J : Set) → Part n E J → sum M J ≡ rank M → x ∈ J)
  unfolding short
  short_iff x = (
    λ e J p t. implied (decide (ℕ_discrete (sum M J) (rank M))) (J x) ((every_part_iff n E (λ J. not (decide (ℕ_discrete (sum M J) (rank M))) || J x)).0 e J p) ((decide_iff (ℕ_discrete (sum M J) (rank M))).1 t),
    λ h. (every_part_iff n E (λ J. not (decide (ℕ_discrete (sum M J) (rank M))) || J x)).1 (λ J p. implies (decide (ℕ_discrete (sum M J) (rank M))) (J x) (λ t. h J p ((decide_iff (ℕ_discrete (sum M J) (rank M))).0 t))),
  )
