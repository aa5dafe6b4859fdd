-- Assignments with some columns taken out, and the two parts of what an assignment places in a set. Assumes nothing.
use Rattle.std.specs.Prelude.{ℕ, ◌+◌, ◌≤◌, ◌<◌, Bool, true, false, not, ◌&&◌, ◌≡◌, refl}
use Rattle.std.proofs.Common.{true≢false, sym, ◌∙◌, ap}
use Rattle.std.proofs.lemmas.Bool.{false≢true}
use Rattle.counting.specs.Bools.{and_in, and_left, and_right, not_in}
use Rattle.counting.specs.Sets.{#, Set, Some, ◌∈◌, ◌∩◌, ◌⊆◌, touching, ∁}
use Rattle.counting.specs.Counts.{#-split, touching_iff}
use Rattle.counting.specs.Injections.{Injects, inj_count}
use Rattle.counting.specs.Choices.{Part}
use Rattle.rank.specs.Linear.Independence.{Indep}
use Rattle.rank.specs.Linear.Kernels.{indep_sub}
use Rattle.rank.specs.Layered.Model.{Assignment, Legal, Model, Seat, constant, constants, is_constant, is_placed, out, placing, row}
use Rattle.rank.proofs.Layered.Meaning.{seat_cases}

-- s if the column is in the set, else out
pub keep : Bool → Seat → Seat
keep true s = s
keep false s = out

pub keep_placed : (t : Bool) (s : Seat) → is_placed (keep t s) ≡ true → (t ≡ true) × (keep t s ≡ s)
unfolding keep
keep_placed true s e = (refl, refl)
keep_placed false s e = absurd (false≢true e)

pub keep_true : (t : Bool) (s : Seat) → t ≡ true → keep t s ≡ s
unfolding keep
keep_true true s e = refl
keep_true false s e = absurd (false≢true e)

pub keep_false : (t : Bool) (s : Seat) → t ≡ false → keep t s ≡ out
unfolding keep
keep_false true s e = absurd (true≢false e)
keep_false false s e = refl

pub constant_placed : (s : Seat) → is_constant s ≡ true → is_placed s ≡ true
constant_placed out e = e
constant_placed constant e = e
constant_placed (row r) e = refl

-- A' is A with some columns taken out
abbrev pub Less : Assignment → Assignment → Type 0
Less A' A = (x : ℕ) → x ∈ placing A' → A' x ≡ A x

-- A on the columns of S alone
pub restrict : Set → Assignment → Assignment
restrict S A x = keep (S x) (A x)

pub restrict_placed : (S : Set) (A : Assignment) (x : ℕ) → x ∈ placing (restrict S A) → (x ∈ S) × (restrict S A x ≡ A x)
unfolding restrict
restrict_placed S A x p = keep_placed (S x) (A x) p

pub restrict_less : (S : Set) (A : Assignment) → Less (restrict S A) A
restrict_less S A x p = (restrict_placed S A x p).1

pub restrict_in : (S : Set) (A : Assignment) (x : ℕ) → x ∈ S → restrict S A x ≡ A x
unfolding restrict
restrict_in S A x e = keep_true (S x) (A x) e

pub restrict_out : (S : Set) (A : Assignment) (x : ℕ) → S x ≡ false → restrict S A x ≡ out
unfolding restrict
restrict_out S A x e = keep_false (S x) (A x) e

-- of the columns placed in J, those on the constant side
abbrev pub constant_part : Assignment → Set → Set
constant_part A J = constants A ∩ (J ∩ placing A)

-- and those on rows
abbrev pub row_part : Assignment → Set → Set
row_part A J = ∁ (constants A) ∩ (J ∩ placing A)

module _ (M : Model) where
  open M use {K, a, b, n, Q, T, E}

  pub legal_less : (A' A : Assignment) → Less A' A → Legal M A → Legal M A'
  legal_less A' A l h = record {
    offered = λ x p. h.offered x (sym (ap is_placed (l x p)) ∙ p);
    independent = indep_sub {T = constants A} (λ x c. sym (ap is_constant (l x (constant_placed (A' x) c))) ∙ c) h.independent;
    parameter = λ x r e. h.parameter x r (sym (l x (ap is_placed e)) ∙ e);
    one_each = λ x y r e e'. h.one_each x y r (sym (l x (ap is_placed e)) ∙ e) (sym (l y (ap is_placed e')) ∙ e');
  }

  module _ (A : Assignment) (h : Legal M A) (J : Set) where
    pub constant_part_sub : constant_part A J ⊆ constants A
    constant_part_sub x e = and_left (constants A x) (J x && placing A x) e

    pub constant_part_part : Part n (J ∩ E) (constant_part A J)
    constant_part_part x e =
        let e' : (J x && placing A x) ≡ true = and_right (constants A x) (J x && placing A x) e in
        let o : (x < n) × (x ∈ E) = h.offered x (and_right (J x) (placing A x) e') in
        (o.0, and_in (and_left (J x) (placing A x) e') o.1)

    pub constant_part_indep : Indep K a n Q (constant_part A J)
    constant_part_indep = indep_sub {T = constants A} constant_part_sub h.independent

    -- the columns on rows sit on rows that touch J
    pub row_part_injects : Injects n (row_part A J) b (touching n T (J ∩ E)) (λ x r. A x ≡ row r)
    row_part_injects = record { total = tot; one_one = λ x y r l l' lr e e'. h.one_each x y r e e' }
      where
        tot : (x : ℕ) → x < n → x ∈ row_part A J → Some b (λ r. (r ∈ touching n T (J ∩ E)) × (A x ≡ row r))
        tot x l e =
            let e' : (J x && placing A x) ≡ true = and_right (not (constants A x)) (J x && placing A x) e in
            let p : x ∈ placing A = and_right (J x) (placing A x) e' in
            seat_cases (A x)
            (λ d. absurd (true≢false (sym p ∙ ap is_placed d)))
            (λ d. absurd (true≢false (sym (ap is_constant d) ∙ not_in (constants A x) (and_left (not (constants A x)) (J x && placing A x) e))))
            (λ r d. let f : (r < b) × (T r x ≡ true) = h.parameter x r d in
            (r, f.0, ((touching_iff n T (J ∩ E) r).1 (x, l, (and_in (and_left (J x) (placing A x) e') (h.offered x p).1, f.1)), d)))

    pub row_part_count : # n (row_part A J) ≤ # b (touching n T (J ∩ E))
    row_part_count = inj_count n b (row_part A J) (touching n T (J ∩ E)) (λ x r. A x ≡ row r) row_part_injects

    pub parts : # n (J ∩ placing A) ≡ # n (constant_part A J) + # n (row_part A J)
    parts = #-split n (constants A) (J ∩ placing A)
