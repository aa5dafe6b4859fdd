-- Every legal assignment is the assignment of a valid state: its columns are seated one after another. Assumes nothing.
use Rattle.std.specs.Prelude.{ℕ, zero, suc, ◌+◌, ◌≤◌, ◌<◌, true, ◌&&◌, ◌≢◌, ◌≡◌, refl}
use Rattle.std.proofs.Math.Bool.{decide, decide_iff}
use Rattle.std.proofs.Common.{true≢false, ◌∙◌, ap, subst, arith}
use Rattle.std.proofs.Math.Path.{sym}
use Rattle.std.proofs.Math.Decide.{ℕ_discrete, dec_le, dec_lt}
use Rattle.counting.specs.Bools.{and_in, and_left, and_right, true?}
use Rattle.counting.specs.Sets.{Set, Some, ◌∈◌, set, touching}
use Rattle.counting.specs.Counts.{#-⊖, Touching, ◌⊖◌, both?, set_other, set_same, some?, touching_iff, ⊖-other}
use Rattle.counting.specs.Injections.{inj_count}
use Rattle.rank.specs.Linear.Independence.{Indep}
use Rattle.rank.specs.Linear.Kernels.{hits, hits_iff, indep_count, indep_sub, same_indep}
use Rattle.rank.specs.Graph.States.{placed_of}
use Rattle.rank.specs.Layered.Model.{Assignment, Legal, Model, Seat, constant, constants, is_constant, is_placed, out, placing, row}
use Rattle.rank.proofs.Layered.Meaning.{seat_cases}
use Rattle.rank.proofs.Layered.Restricting.{constant_placed}
use Rattle.rank.specs.Layered.Valid.{Valid, seat_valid, seated, state, touch, touch_constant, touch_parameter}
use Rattle.rank.specs.Layered.Seating.{Good, empty_valid, valid_good}
use Rattle.rank.proofs.Layered.Assignments.{Seated, assignment, assignment_owned, assignment_places, row_seat, row_seat_constant, row_seat_high, row_seat_low, row_seat_placed, seated_at}
use Rattle.rank.proofs.Layered.Augmenting.{StateOf}

seat_out : (s : Seat) → (is_placed s ≡ true → ⊥) → s ≡ out
seat_out out h = refl
seat_out constant h = absurd (h refl)
seat_out (row r) h = absurd (h refl)

module _ (M : Model) where
  open M use {K, a, b, n, Q, T, E}
  open K use {F}

  -- every legal assignment is that of a valid state; its columns are seated one after another
  module _ (A : Assignment) (h : Legal M A) where
    -- the columns below m have their seats, and no others
    record SeatedTo (m : ℕ) (o : ℕ → ℕ) : Type 0 where
      there : (x : ℕ) → x < m → x ∈ placing A → Some (a + b) (λ q. (o q ≡ x) × (A x ≡ row_seat M q))
      back : (q : ℕ) → q < a + b → o q < n → (o q < m) × (A (o q) ≡ row_seat M q)

    -- a valid state in which they have
    abbrev Upto : ℕ → Type 0
    Upto m = (P : ℕ → ℕ → F) × ((o : ℕ → ℕ) × Valid M P o × SeatedTo m o)

    -- column m takes the free row q
    seat_next : (m : ℕ) → m < n → (P : ℕ → ℕ → F) (o : ℕ → ℕ) → Valid M P o → SeatedTo m o
        → (q : ℕ) → q < a + b → n ≤ o q → touch M P q m ≡ true → A m ≡ row_seat M q → Upto (suc m)
    seat_next m lm P o v i q lq f t e = (
      seated M P q m,
      (
        set o q m,
        seat_valid M P o v q m lm (λ r lr d. omega (arith, (i.back r lr (omega arith)).0)) lq t,
        record {
          there = λ x lx p. elim (ℕ_discrete x m) [
            | yes d ↦ rw d (q, lq, (set_same o q m, e))
            | no nd ↦ let w : Some (a + b) (λ q. (o q ≡ x) × (A x ≡ row_seat M q)) = i.there x (omega arith) p in
                (w.0, w.1, (set_other o q m w.0 (λ c. omega (arith, ap o c, w.2.0)) ∙ w.2.0, w.2.1))
          ];
          back = λ r lr lo. elim (ℕ_discrete r q) [
            | yes d ↦ rw (d, set_same o q m) (omega arith, e)
            | no nd ↦ let k : set o q m r ≡ o r = set_other o q m r nd in
                let w : (o r < m) × (A (o r) ≡ row_seat M r) = i.back r lr (rw k at lo) in rw k (omega arith, w.1)
          ];
        },
      ),
    )

    -- a column on the constant side finds a free constant row: otherwise it would depend on those already in
    constant_row : (m : ℕ) → m < n → (P : ℕ → ℕ → F) (o : ℕ → ℕ) → Valid M P o → SeatedTo m o → A m ≡ constant → Some a (λ q. (n ≤ o q) × (touch M P q m ≡ true))
    constant_row m lm P o v i e = elim (some? a (λ q. (n ≤ o q) × (touch M P q m ≡ true)) (λ q. both? (dec_le n (o q)) (true? (touch M P q m)))) [
      | yes w ↦ w
      | no none ↦ absurd (full none)
    ]
      where
        S : Set
        S x = decide (dec_lt x (suc m)) && constants A x

        S_in : (x : ℕ) → x < suc m → A x ≡ constant → x ∈ S
        S_in x l c = and_in ((decide_iff (dec_lt x (suc m))).1 l) (ap is_constant c)

        S_out : (x : ℕ) → x ∈ S → (x < suc m) × (x ∈ constants A)
        S_out x k = ((decide_iff (dec_lt x (suc m))).0 (and_left (decide (dec_lt x (suc m))) (constants A x) k), and_right (decide (dec_lt x (suc m))) (constants A x) k)

        S_indep : Indep K a n P S
        S_indep = same_indep v.kernel (indep_sub {T = constants A} (λ x k. (S_out x k).1) h.independent)

        -- a constant row that touches S has an owner
        owned_row : (Some a (λ q. (n ≤ o q) × (touch M P q m ≡ true)) → ⊥) → (q x : ℕ) → q < a → x < n → x ∈ S → P q x ≢ K.𝟘 → o q < n
        owned_row none q x lq lx k nz = elim (ℕ_discrete x m) [
          | yes d ↦ elim (dec_lt (o q) n) [
            | yes lo ↦ lo
            | no nlo ↦ absurd (none (q, lq, (omega arith, touch_constant M P q m lq ∙ and_in (h.offered m (ap is_placed e)).1 ((hits_iff K P q m).1 (rw d at nz)))))
          ]
          | no nd ↦
              let w : Some (a + b) (λ q. (o q ≡ x) × (A x ≡ row_seat M q)) = i.there x (omega (arith, (S_out x k).0)) (constant_placed (A x) (S_out x k).1) in
              let lw : w.0 < a = row_seat_constant M w.0 (sym (ap is_constant w.2.1) ∙ (S_out x k).1) in
              elim (ℕ_discrete q w.0) [
                | yes c ↦ rw (c, w.2.0) lx
                | no nc ↦ absurd (nz (subst (λ (z : ℕ). P q z ≡ K.𝟘) w.2.0 (v.tableau.off w.0 q lw lq (rw w.2.0 lx) nc)))
              ]
        ]

        full : (Some a (λ q. (n ≤ o q) × (touch M P q m ≡ true)) → ⊥) → ⊥
        full none = omega (
          arith,
          indep_count {P = P} {S = S} {T = S} S_indep (λ x k. k),
          #-⊖ n S m lm (S_in m (omega arith) e),
          inj_count a n (touching n (hits K P) S) (S ⊖ m) (λ q x. o q ≡ x) (record {
            total = λ q lq k.
                let w : Touching n (hits K P) S q = (touching_iff n (hits K P) S q).0 k in
                let lo : o q < n = owned_row none q w.0 lq w.1 w.2.0 ((hits_iff K P q w.0).0 w.2.1) in
                let u : (o q < m) × (A (o q) ≡ row_seat M q) = i.back q (omega arith) lo in
                (o q, lo, (⊖-other S m (o q) (omega arith) ∙ S_in (o q) (omega arith) (u.1 ∙ row_seat_low M q lq), refl));
            one_one = λ q r x lq lr lx d d'. v.one_row q r (omega arith) (omega arith) (omega arith) (d ∙ sym d');
          }),
        )

    next : (m : ℕ) → m < n → Upto m → Upto (suc m)
    next m lm (P, (o, v, i)) = seat_cases (A m)
        (λ e. (
          P,
          (
            o,
            v,
            record {
              there = λ x lx p. i.there x (elim (ℕ_discrete x m) [ yes d ↦ absurd (true≢false (sym p ∙ ap is_placed (ap A d ∙ e))) | no nd ↦ omega arith ]) p;
              back = λ q lq lo. (omega (arith, (i.back q lq lo).0), (i.back q lq lo).1);
            },
          ),
        ))
        (λ e. let w : Some a (λ q. (n ≤ o q) × (touch M P q m ≡ true)) = constant_row m lm P o v i e in
        seat_next m lm P o v i w.0 (omega arith) w.2.0 w.2.1 (e ∙ sym (row_seat_low M w.0 w.1)))
        (λ r e. let lr : r < b = (h.parameter m r e).0 in
        seat_next m lm P o v i (a + r) (omega arith) (row_free r e) (touch_parameter M P r m ∙ and_in (h.offered m (ap is_placed e)).1 (h.parameter m r e).1) (e ∙ sym (row_seat_high M r)))
      where
        row_free : (r : ℕ) → A m ≡ row r → n ≤ o (a + r)
        row_free r e = elim (dec_lt (o (a + r)) n) [
          | no nlo ↦ omega arith
          | yes lo ↦
              let lr : r < b = (h.parameter m r e).0 in
              let w : (o (a + r) < m) × (A (o (a + r)) ≡ row_seat M (a + r)) = i.back (a + r) (omega arith) lo in
              absurd (omega (arith, w.0, h.one_each (o (a + r)) m r (w.1 ∙ row_seat_high M r) e))
        ]

    upto : (m : ℕ) → m ≤ n → Upto m
    upto zero l = (Q, (λ q. n, empty_valid M, record { there = λ x lx p. absurd (omega arith); back = λ q lq lo. absurd (omega arith) }))
    upto (suc m) l = next m l (upto m (omega arith))

    pub realise_exactly : (s : StateOf M) × Good M s × ((x : ℕ) → assignment M s x ≡ A x)
    unfolding state
    realise_exactly =
        let u : Upto n = upto n (omega arith) in
        let v : Valid M u.0 u.1.0 = u.1.1 in
        let s : StateOf M = state M u.0 u.1.0 v in (
          s,
          valid_good M u.0 u.1.0 v,
          λ x. elim (true? (placing A x)) [
            | yes p ↦
                let lx : x < n = (h.offered x p).0 in
                let w : Some (a + b) (λ q. (u.1.0 q ≡ x) × (A x ≡ row_seat M q)) = u.1.2.there x lx p in
                assignment_owned M s x w.0 lx w.1 w.2.0 ∙ sym w.2.1
            | no np ↦ seat_out (assignment M s x) (λ p.
                let w : Seated M s x = seated_at M s x p in
                np (ap is_placed (subst (λ (y : ℕ). A y ≡ row_seat M w.1.0) w.1.2.0 (u.1.2.back w.1.0 w.1.1 (rw w.1.2.0 w.0)).1) ∙ row_seat_placed M w.1.0))
                ∙ sym (seat_out (A x) np)
          ],
        )

  -- so its placed set is that of a valid state
  pub realise : (A : Assignment) → Legal M A → (s : StateOf M) × Good M s × ((x : ℕ) → x < n → placed_of s x ≡ placing A x)
  realise A h =
      let r : (s : StateOf M) × Good M s × ((x : ℕ) → assignment M s x ≡ A x) = realise_exactly A h in
      (r.0, r.1, λ x l. sym (assignment_places M r.0 x l) ∙ ap is_placed (r.2 x))
