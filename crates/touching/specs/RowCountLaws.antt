-- The count of rows that touch a set is the middle term of the set's sum, by the sum's own definition; and the laws by which the code counts. Assumes
-- nothing.
use Rattle.std.specs.Prelude.{ℕ, ◌+◌, ◌-◌, ◌≤◌, ◌<◌, min, ◌≡◌, refl, false, List, ltb, length}
use Rattle.std.proofs.Common.{sym, ap, ◌∙◌, arith, lt-ltb, ltb-true}
use Rattle.std.proofs.Math.Decide.{dec_le}
use Rattle.counting.specs.Bools.{iff_eq, and_in, and_left, and_right}
use Rattle.counting.specs.Sets.{Set, ◌∈◌, ◌∩◌, ∁, #, touching}
use Rattle.counting.specs.Counts.{Touching, touching_iff, #-ext, #-none}
use Rattle.counting.specs.Blocks.{#-plus}
use Rattle.columns.specs.Columns.{width, upto_in, upto}
use Rattle.columns.specs.ColumnSets.{rows_touching}
use Rattle.columns.specs.Words.Rows.{no_row_touches}
use Rattle.rank.specs.ListedModel.{parameter_at}
use Rattle.listed_models.specs.ListedModel.{listed_model}
use Rattle.rank.specs.Layered.Rank.{constant_rank, sum}
use Rattle.touching.specs.RowCount.{touching_count}

-- THE MIDDLE TERM of the sum of J, in the model of p, n, a, b, constants cs and parameter rows ws
pub middle_term : (p n a b : ℕ) (cs ws : List ℕ) (J : Set) → let M = listed_model p n a b cs ws in
    sum M J ≡ constant_rank M J + touching_count n b ws J + # n (∁ J ∩ M.E)
unfolding sum
middle_term p n a b cs ws J = refl

-- ---- how the code counts

-- a row that has a parameter in J's columns below n touches J at one of these; J has no column that a set has no room for
touches_below : (n : ℕ) (ws : List ℕ) (J : Set) (r : ℕ) → ((x : ℕ) → x ∈ J → x < width) → rows_touching ws (J ∩ upto n) r ≡ touching n (parameter_at ws) J r
unfolding upto_in
touches_below n ws J r room = iff_eq (rows_touching ws (J ∩ upto n) r) (touching n (parameter_at ws) J r)
    (λ e.
    let s : Touching width (parameter_at ws) (J ∩ upto n) r = (touching_iff width (parameter_at ws) (J ∩ upto n) r).0 e in
    let x : ℕ = s.0 in
    let below : x ∈ upto n = and_right (J x) (upto n x) s.2.0 in
    (touching_iff n (parameter_at ws) J r).1 (x, ltb-true x n (and_left (ltb x n) (ltb x width) below), (and_left (J x) (upto n x) s.2.0, s.2.1)))
    (λ e.
    let s : Touching n (parameter_at ws) J r = (touching_iff n (parameter_at ws) J r).0 e in
    let x : ℕ = s.0 in
    let small : x < width = room x s.2.0 in
    (touching_iff width (parameter_at ws) (J ∩ upto n) r).1 (x, small, (and_in s.2.0 (and_in (lt-ltb x n s.1) (lt-ltb x width small)), s.2.1)))

-- rows that an area does not have add nothing
there_or_not : (m k : ℕ) (S : Set) → ((r : ℕ) → m ≤ r → S r ≡ false) → # (m + k) S ≡ # m S
there_or_not m k S h = let rest : # k (λ r. S (m + r)) ≡ 0 = #-ext k (λ r. S (m + r)) (λ r. false) (λ r l. h (m + r) (omega arith)) ∙ #-none k in omega (arith, #-plus m k S)

pub count_touching : (n b : ℕ) (ws : List ℕ) (J : Set) → ((x : ℕ) → x ∈ J → x < width) → # (min b (length ws)) (rows_touching ws (J ∩ upto n)) ≡ touching_count n b ws J
count_touching n b ws J room =
    there (dec_le b (length ws))
    ∙ #-ext b (rows_touching ws (J ∩ upto n)) (touching n (parameter_at ws) J) (λ r l. touches_below n ws J r room)
  where
    S : Set
    S = rows_touching ws (J ∩ upto n)

    there : Dec (b ≤ length ws) → # (min b (length ws)) S ≡ # b S
    there (yes l) = let end : min b (length ws) ≡ b = omega arith in ap (λ (k : ℕ). # k S) end
    there (no nl) =
        let end : min b (length ws) ≡ length ws = omega arith in
        let all : length ws + (b - length ws) ≡ b = omega arith in
        ap (λ (k : ℕ). # k S) end ∙ sym (there_or_not (length ws) (b - length ws) S (λ r l. no_row_touches ws (J ∩ upto n) r l)) ∙ ap (λ (k : ℕ). # k S) all
