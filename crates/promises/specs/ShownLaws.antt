-- The bytes that show a set in an answer show all of it: a set has room for more columns than they have bits, but no set of an answer has a column that
-- its model has not. Assumes nothing.
use Rattle.std.specs.Prelude.{ℕ, zero, suc, ◌+◌, ◌*◌, ◌^◌, ◌≤◌, ◌<◌, ◌≡◌, true, false, List}
use Rattle.std.proofs.Common.{sym, ◌∙◌, pow-suc, lt_of_lt_of_le, arith, lit<, pow_pos, pow_mono, ltb-true}
use Rattle.counting.specs.Bools.{not_true}
use Rattle.counting.specs.Sets.{Set, ◌∈◌, indicator}
use Rattle.limits.specs.Limits.{most_columns, set_bytes}
use Rattle.columns.specs.Bytes.{number, bytes_of}
use Rattle.columns.specs.Columns.{width, members, word_of}
use Rattle.columns.specs.ColumnSets.{whole}
use Rattle.columns.specs.Words.Bytes.{number_bytes}
use Rattle.columns.specs.Words.Operations.{within_in_iff, within_pow}
use Rattle.listed_models.specs.ListedModel.{listed_model}
use Rattle.rank.specs.Layered.Model.{Model}
use Rattle.rank.specs.Layered.Rank.{short}
use Rattle.rank.proofs.Layered.ColumnOrder.{placed_below}
use Rattle.rank.proofs.Layered.Restricting.{constant_placed}
use Rattle.rank.proofs.Theorems.{short_is_the_smallest}
use Rattle.mixed_models.specs.Mixed.{Mixed, layered_form}
use Rattle.exchange.specs.Solution.{shown}
use Rattle.layered.specs.Answers.{Answered}
use Rattle.layered.specs.Shown.{Answer}
use Rattle.blocking.specs.ReasonLaws.{reason_iff}
use Rattle.mixed.specs.MixedAnswers.{MixedAnswered}
use Rattle.mixed.specs.Shown.{MixedAnswer}
use Rattle.reason.specs.Answers.{ReasonAnswered}
use Rattle.reason.specs.Shown.{Reason}
use Rattle.degrees.specs.Degrees.{Powers}
use Rattle.degree.specs.Answers.{assignment, DegreeAnswered}
use Rattle.degree.specs.Shown.{Degree}

below_own_power : (w : ℕ) → w < 2 ^ w
below_own_power zero = lit< tt
below_own_power (suc w) = omega (arith, below_own_power w, pow-suc 2 w)

-- the bytes show the set whole
abbrev pub ShownWhole : ℕ → Type 0
ShownWhole w = number (bytes_of set_bytes w) ≡ w

small_shown : (w n : ℕ) → n ≤ most_columns → w < 2 ^ n → ShownWhole w
small_shown w n l small = number_bytes set_bytes w (lt_of_lt_of_le small (pow_mono {i = n} {j = 8 * set_bytes} (omega arith)))

-- a number whose columns are below the most is shown whole
shown_whole : (w n : ℕ) → n ≤ most_columns → ((x : ℕ) → x ∈ members w → x < n) → ShownWhole w
shown_whole w n l h = small_shown w n l (ltb-true w (2 ^ n) (sym (within_pow w n w (below_own_power w)) ∙ (within_in_iff w n w).1 (λ x lx m. h x m)))

-- and so is that of a set whose columns are
number_small : (k n : ℕ) (S : Set) → ((x : ℕ) → x ∈ S → x < n) → word_of k S < 2 ^ n
unfolding word_of indicator
number_small zero n S h = pow_pos n
number_small (suc k) zero S h =
    let none : S 0 ≡ false = not_true (S 0) (λ e. omega (arith, h 0 e)) in
    rw none (omega (arith, number_small k 0 (λ x. S (suc x)) (λ x e. absurd (omega (arith, h (suc x) e)))))
number_small (suc k) (suc n) S h =
    let rest = number_small k n (λ x. S (suc x)) (λ x e. omega (arith, h (suc x) e)) in
    elim (S 0) as (λ b. indicator b + 2 * word_of k (λ x. S (suc x)) < 2 ^ suc n) [
      | true ↦ omega (arith, rest, pow-suc 2 n)
      | false ↦ omega (arith, rest, pow-suc 2 n)
    ]

pub answer_shown_whole : (M : Model) (r : Answer) → M.n ≤ most_columns → Answered M r → ShownWhole (whole r.placed) × ShownWhole (whole r.constants) × ShownWhole (whole r.short)
answer_shown_whole M r l h =
    let s = h.solved in
    let side = members (whole r.constants) in (
      shown_whole (whole r.placed) M.n l (λ x e. placed_below M x (sym (s.is_placed x) ∙ e)),
      shown_whole (whole r.constants) M.n l (λ x e. (s.is_legal.offered x (constant_placed (shown M.n M.b side r.rows x) (sym (s.side_shown x) ∙ e))).0),
      shown_whole (whole r.short) M.n l (λ x e. (h.demand.short_part x e).0),
    )

pub mixed_shown_whole : (X : Mixed) (r : MixedAnswer) → X.m + X.n ≤ most_columns → MixedAnswered X r → ShownWhole (whole r.rows) × ShownWhole (whole r.columns) × ShownWhole (whole r.short)
mixed_shown_whole X r l h = (
  shown_whole (whole r.rows) X.m (omega arith) h.rows_below,
  shown_whole (whole r.columns) X.n (omega arith) h.columns_below,
  rw h.short_number (small_shown _ (X.m + X.n) l (number_small width (X.m + X.n) (short (layered_form X)) (λ x e. ((short_is_the_smallest (layered_form X)).0 x e).0))),
)

pub reason_shown_whole : (p n a b : ℕ) (cs ws : List ℕ) (x : ℕ) (r : Reason) → n ≤ most_columns → ReasonAnswered p n a b cs ws x r → ShownWhole (whole r.set)
reason_shown_whole p n a b cs ws x r l h = shown_whole (whole r.set) n l (λ y e. ((reason_iff (listed_model p n a b cs ws) x y).0 (sym (h.set_is y) ∙ e)).0)

pub degree_shown_whole : (M : Model) (W : Powers) (r : Degree) → M.n ≤ most_columns → DegreeAnswered M W r → ShownWhole (whole r.constants)
degree_shown_whole M W r l h = shown_whole (whole r.constants) M.n l (λ x e. (h.is_legal.offered x (constant_placed (assignment M r x) (sym (h.side_shown x) ∙ e))).0)
