-- The word of a set of columns: its members, its size as a number, and sets that have the same one. Assumes nothing.
use Rattle.std.specs.Prelude.{ℕ, zero, suc, ◌+◌, ◌*◌, ◌/◌, ◌%◌, ◌^◌, ◌<◌, ◌≡◌, refl, Bool, true, false, eqb}
use Rattle.std.proofs.Common.{ap, ◌∙◌, arith, pow-suc}
use Rattle.counting.specs.Sets.{Set, indicator}
use Rattle.columns.specs.Columns.{members, word_of}
use Rattle.columns.specs.Words.Bits.{bit_zero}
use Rattle.columns.specs.Words.Operations.{members_half}

indicator_lt : (v : Bool) → indicator v < 2
unfolding indicator
indicator_lt true = omega arith
indicator_lt false = omega arith

indicator_is : (v : Bool) → eqb (indicator v) 1 ≡ v
unfolding indicator
indicator_is true = refl
indicator_is false = refl

low_member : (v : Bool) (m : ℕ) → members (indicator v + 2 * m) 0 ≡ v
unfolding members
low_member v m =
    let e : (indicator v + 2 * m) % 2 ≡ indicator v = omega (arith, indicator_lt v) in
    ap (λ (d : ℕ). eqb d 1) (bit_zero (indicator v + 2 * m) ∙ e) ∙ indicator_is v

pub members_word : (k : ℕ) (S : Set) (x : ℕ) → x < k → members (word_of k S) x ≡ S x
unfolding word_of
members_word zero S x l = absurd (omega arith)
members_word (suc k) S zero l = low_member (S 0) (word_of k (λ x. S (suc x)))
members_word (suc k) S (suc x) l =
    let e : (indicator (S 0) + 2 * word_of k (λ x. S (suc x))) / 2 ≡ word_of k (λ x. S (suc x)) = omega (arith, indicator_lt (S 0)) in
    members_half (indicator (S 0) + 2 * word_of k (λ x. S (suc x))) x ∙ ap (λ (w : ℕ). members w x) e ∙ members_word k (λ x. S (suc x)) x (omega arith)

pub word_below : (k : ℕ) (S : Set) → word_of k S < 2 ^ k
unfolding word_of
word_below zero S = omega arith
word_below (suc k) S = omega (arith, pow-suc 2 k, indicator_lt (S 0), word_below k (λ x. S (suc x)))

pub word_same : (k : ℕ) (S T : Set) → ((x : ℕ) → x < k → S x ≡ T x) → word_of k S ≡ word_of k T
unfolding word_of
word_same zero S T h = refl
word_same (suc k) S T h = omega (arith, ap indicator (h 0 (omega arith)), word_same k (λ x. S (suc x)) (λ x. T (suc x)) (λ x l. h (suc x) (omega arith)))
