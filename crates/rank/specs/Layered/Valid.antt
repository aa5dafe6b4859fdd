-- Valid states: a tableau with the kernel of the constants, and the owners of its rows. A column takes a free row that touches it. Assumes nothing.
use Rattle.std.specs.Prelude.{ℕ, ◌+◌, ◌-◌, ◌≤◌, ◌<◌, Bool, true, false, ◌&&◌, ◌≢◌, ◌≡◌}
use Rattle.std.proofs.Common.{true≢false, sym, ◌∙◌, ap, arith}
use Rattle.std.proofs.Math.Path.{refl}
use Rattle.std.proofs.Math.Decide.{ℕ_discrete, dec_lt}
use Rattle.counting.specs.Bools.{and_in, and_left, and_right, not_true, true?}
use Rattle.counting.specs.Sets.{◌∈◌, set}
use Rattle.counting.specs.Counts.{set_other, set_same}
use Rattle.rank.specs.Linear.Kernels.{Same, hits, hits_iff, hits_not, same_trans}
use Rattle.rank.specs.Linear.Tableaus.{Tableau, pivot, pivot_keeps, pivot_same, pivot_tableau, tableau_less}
use Rattle.rank.specs.Graph.States.{State}
use Rattle.rank.specs.Layered.Model.{Model}

module _ (M : Model) where
  open M use {K, a, b, n, Q, T, E}
  open K use {F, 𝟘, 𝟙}

  -- the rows below a are the constant rows, as P has them now, and a + r is parameter row r; a column that is not offered touches none
  touch_at : (P : ℕ → ℕ → F) (q x : ℕ) → Dec (q < a) → Bool
  touch_at P q x (yes l) = hits K P q x
  touch_at P q x (no nl) = T (q - a) x

  pub touch : (ℕ → ℕ → F) → ℕ → ℕ → Bool
  touch P q x = E x && touch_at P q x (dec_lt q a)

  pub touch_constant : (P : ℕ → ℕ → F) (q x : ℕ) → q < a → touch P q x ≡ (E x && hits K P q x)
  unfolding touch touch_at
  touch_constant P q x l = elim (dec_lt q a) as (λ d. (E x && touch_at P q x d) ≡ (E x && hits K P q x)) [ yes m ↦ refl | no nm ↦ absurd (nm l) ]

  pub touch_row : (P : ℕ → ℕ → F) (q x : ℕ) → a ≤ q → touch P q x ≡ (E x && T (q - a) x)
  unfolding touch touch_at
  touch_row P q x l = elim (dec_lt q a) as (λ d. (E x && touch_at P q x d) ≡ (E x && T (q - a) x)) [ yes m ↦ absurd (omega arith) | no nm ↦ refl ]

  pub touch_parameter : (P : ℕ → ℕ → F) (r x : ℕ) → touch P (a + r) x ≡ (E x && T r x)
  touch_parameter P r x = let e : a + r - a ≡ r = omega arith in touch_row P (a + r) x (omega arith) ∙ ap (λ (j : ℕ). E x && T j x) e

  pub touch_offered : (P : ℕ → ℕ → F) (q x : ℕ) → touch P q x ≡ true → x ∈ E
  unfolding touch
  touch_offered P q x e = and_left (E x) (touch_at P q x (dec_lt q a)) e

  -- the tableau has the kernel of Q, its owned columns are unit columns, an owned row touches its owner, no column owns two rows
  pub record Valid (P : ℕ → ℕ → F) (o : ℕ → ℕ) : Type 0 where
    pub kernel : Same K a n Q P
    pub tableau : Tableau K a n P o
    pub touches : (q : ℕ) → q < a + b → o q < n → touch P q (o q) ≡ true
    pub one_row : (q r : ℕ) → q < a + b → r < a + b → o q < n → o q ≡ o r → q ≡ r

  -- a valid state as a state of the graph
  unfoldable pub state : (P : ℕ → ℕ → F) (o : ℕ → ℕ) → Valid P o → State n (a + b)
  state P o v = record { touch = touch P; owner = o; touches_owner = v.touches; owns_one = v.one_row }

  -- a row is set free
  pub free : (P : ℕ → ℕ → F) (o : ℕ → ℕ) (q : ℕ) → Valid P o → Valid P (set o q n)
  free P o q v = record {
    kernel = v.kernel;
    tableau = tableau_less (set o q n) (λ h l. same h) v.tableau;
    touches = λ r l b. let d : set o q n r ≡ o r = same r b in rw d (v.touches r l (rw d at b));
    one_row = λ r k l m b e. v.one_row r k l m (rw (same r b) at b) (sym (same r b) ∙ e ∙ same k (omega arith));
  }
    where
      same : (h : ℕ) → set o q n h < n → set o q n h ≡ o h
      same h b = elim (ℕ_discrete h q) [
        | yes d ↦ absurd (omega (arith, ap (set o q n) d, set_same o q n))
        | no nd ↦ set_other o q n h nd
      ]

  -- x takes row q: at a constant row the tableau is pivoted
  seat_at : (P : ℕ → ℕ → F) (q x : ℕ) → Dec (q < a) → ℕ → ℕ → F
  seat_at P q x (yes l) = pivot K P q x
  seat_at P q x (no nl) = P

  pub seated : (ℕ → ℕ → F) → ℕ → ℕ → ℕ → ℕ → F
  seated P q x = seat_at P q x (dec_lt q a)

  pub seated_constant : (P : ℕ → ℕ → F) (q x : ℕ) → q < a → seated P q x ≡ pivot K P q x
  unfolding seated seat_at
  seated_constant P q x l = elim (dec_lt q a) as (λ d. seat_at P q x d ≡ pivot K P q x) [ yes m ↦ refl | no nm ↦ absurd (nm l) ]

  pub seated_row : (P : ℕ → ℕ → F) (q x : ℕ) → a ≤ q → seated P q x ≡ P
  unfolding seated seat_at
  seated_row P q x l = elim (dec_lt q a) as (λ d. seat_at P q x d ≡ P) [ yes m ↦ absurd (omega arith) | no nm ↦ refl ]

  module _ (P : ℕ → ℕ → F) (o : ℕ → ℕ) (v : Valid P o) (q x : ℕ) (lx : x < n) (new : (r : ℕ) → r < a + b → o r ≢ x) (lq : q < a + b) (t : touch P q x ≡ true) where
    one_row_seated : (r k : ℕ) → r < a + b → k < a + b → set o q x r < n → set o q x r ≡ set o q x k → r ≡ k
    one_row_seated r k l m lo e = elim (ℕ_discrete r q) [
      | yes d ↦ elim (ℕ_discrete k q) [
        | yes d' ↦ cc
        | no nd' ↦ absurd (new k m (cc (set_other o q x k nd', set_same o q x)))
      ]
      | no nd ↦ elim (ℕ_discrete k q) [
        | yes d' ↦ absurd (new r l (cc (set_other o q x r nd, set_same o q x)))
        | no nd' ↦ v.one_row r k l m (omega (arith, set_other o q x r nd)) (cc (set_other o q x r nd, set_other o q x k nd'))
      ]
    ]

    -- every owner is offered
    owner_offered : (r : ℕ) → r < a + b → set o q x r < n → set o q x r ∈ E
    owner_offered r l lo = elim (ℕ_discrete r q) [
      | yes d ↦ rw (d, set_same) (touch_offered P q x t)
      | no nd ↦ let e : set o q x r ≡ o r = set_other o q x r nd in rw e (touch_offered P r (o r) (v.touches r l (rw e at lo)))
    ]

    -- at a constant row
    nonzero : q < a → P q x ≢ 𝟘
    nonzero l = (hits_iff K P q x).0 (and_right (E x) (hits K P q x) (sym (touch_constant P q x l) ∙ t))

    unit_touches : (l : q < a) (r : ℕ) → r < a + b → set o q x r < n → touch (pivot K P q x) r (set o q x r) ≡ true
    unit_touches l r lr lo = elim (dec_lt r a) [
      | yes m ↦ touch_constant (pivot K P q x) r (set o q x r) m ∙ and_in (owner_offered r lr lo)
          ((hits_iff K (pivot K P q x) r (set o q x r)).1 (rw ((pivot_tableau v.tableau q x l (nonzero l)).own r m lo) K.one_ne))
      | no nm ↦
          let e : set o q x r ≡ o r = set_other o q x r (omega arith) in
          rw e (touch_row (pivot K P q x) r (o r) (omega arith) ∙ sym (touch_row P r (o r) (omega arith)) ∙ v.touches r lr (rw e at lo))
    ]

    seat_constant : q < a → Valid (pivot K P q x) (set o q x)
    seat_constant l = record {
      kernel = same_trans v.kernel (pivot_same P q x l (nonzero l));
      tableau = pivot_tableau v.tableau q x l (nonzero l);
      touches = unit_touches l;
      one_row = one_row_seated;
    }

    seat_row : a ≤ q → Valid P (set o q x)
    seat_row l = record {
      kernel = v.kernel;
      tableau = tableau_less (set o q x) (λ h lh lo. set_other o q x h (omega arith)) v.tableau;
      touches = λ r lr lo. elim (ℕ_discrete r q) [
        | yes d ↦ rw (d, set_same) t
        | no nd ↦ let e : set o q x r ≡ o r = set_other o q x r nd in rw e (v.touches r lr (rw e at lo))
      ];
      one_row = one_row_seated;
    }

    pub seat_valid : Valid (seated P q x) (set o q x)
    seat_valid = elim (dec_lt q a) [
      | yes l ↦ rw (seated_constant P q x l) (seat_constant l)
      | no nl ↦ rw (seated_row P q x (omega arith)) (seat_row (omega arith))
    ]

  -- and the columns that do not touch row q keep what they touch
  pub seated_keeps : (P : ℕ → ℕ → F) (q x z : ℕ) → touch P q z ≡ false → (r : ℕ) → touch (seated P q x) r z ≡ touch P r z
  seated_keeps P q x z e r = elim (dec_lt q a) [
    | yes l ↦ rw (seated_constant P q x l) (constants l)
    | no nl ↦ rw (seated_row P q x (omega arith)) refl
  ]
    where
      zero_there : q < a → z ∈ E → P q z ≡ 𝟘
      zero_there l o = hits_not K P q z (rw o at (sym (touch_constant P q z l) ∙ e))

      not_offered : (R : ℕ → ℕ → F) → E z ≡ false → touch R r z ≡ false
      not_offered R o = not_true (touch R r z) (λ t. true≢false (sym (touch_offered R r z t) ∙ o))

      constants : q < a → touch (pivot K P q x) r z ≡ touch P r z
      constants l = elim (true? (E z)) [
        | no o ↦ not_offered (pivot K P q x) (not_true (E z) o) ∙ sym (not_offered P (not_true (E z) o))
        | yes o ↦ elim (dec_lt r a) [
          | no m ↦ touch_row (pivot K P q x) r z (omega arith) ∙ sym (touch_row P r z (omega arith))
          | yes m ↦ touch_constant (pivot K P q x) r z m ∙ ap (λ (t : Bool). E z && t) (hits_same (pivot_keeps K P q x z (zero_there l o) r)) ∙ sym (touch_constant P r z m)
        ]
      ]
        where
          hits_same : pivot K P q x r z ≡ P r z → hits K (pivot K P q x) r z ≡ hits K P r z
          hits_same d = elim (true? (hits K P r z)) [
            | yes h ↦ (hits_iff K (pivot K P q x) r z).1 (rw d ((hits_iff K P r z).0 h)) ∙ sym h
            | no nh ↦ not_true _ (λ h. nh ((hits_iff K P r z).1 (rw d at ((hits_iff K (pivot K P q x) r z).0 h)))) ∙ sym (not_true _ nh)
          ]
