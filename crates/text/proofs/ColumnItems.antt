-- The columns of a set as items: the least column, then the others. Assumes nothing.
use Prim.Native.Nat.{ℕ, zero, suc, ◌+◌, ◌≤◌, ◌<◌}
use mathlib.Core.Path.{◌≡◌, refl, sym, ap, ◌∙◌}
use mathlib.Core.Bool.{true, false}
use mathlib.Core.Logic.{◌≢◌, by_cases}
use mathlib.Core.List.{List, [], ◌∷◌, ◌++◌, flat_map}
use native.Mathlib.Omega.{arith}
use native.Mathlib.Decide.{ℕ_discrete}
use Rattle.counting.specs.Bools.{not_true, iff_eq}
use Rattle.counting.specs.Sets.{Set, ◌∈◌, #}
use Rattle.columns.specs.Columns.{width, none, removed, least}
use Rattle.columns.specs.Words.SetLaws.{removed_old, removed_gone, removed_other, least_there, nothing_in, nothing_in_none}
use Rattle.columns.specs.Words.Operations.{least_first}
use Rattle.text.specs.Text.{item, columns_from, column_items}

columns_same : (k x : ℕ) (S T : Set) → ((y : ℕ) → x ≤ y → S y ≡ T y) → columns_from k x S ≡ columns_from k x T
unfolding columns_from
columns_same zero x S T h = refl
columns_same (suc k) x S T h =
    let next : columns_from k (suc x) S ≡ columns_from k (suc x) T = columns_same k (suc x) S T (λ y l. h y (omega arith)) in
    rw (h x (omega arith), next) refl

columns_none : (k x : ℕ) (S : Set) → ((y : ℕ) → y < x + k → S y ≡ false) → columns_from k x S ≡ []
unfolding columns_from
columns_none zero x S h = refl
columns_none (suc k) x S h = rw (h x (omega arith)) (columns_none k (suc x) S (λ y l. h y (omega arith)))

removed_elsewhere : (S : Set) (m y : ℕ) → y ≢ m → removed S m y ≡ S y
removed_elsewhere S m y ne = iff_eq (removed S m y) (S y) (removed_old S m y) (λ e. removed_other S m y e ne)

columns_first : (k x m : ℕ) (S : Set) → x ≤ m → m < x + k → m ∈ S → ((y : ℕ) → y < m → S y ≡ false) → columns_from k x S ≡ m ∷ columns_from k x (removed S m)
unfolding columns_from
columns_first zero x m S h g e low = absurd (omega arith)
columns_first (suc k) x m S h g e low = by_cases (ℕ_discrete x m)
    (λ d. (
    let out : removed S m x ≡ false = not_true _ (λ t. removed_gone S m x t d) in
    let here : S x ≡ true = ap S d ∙ e in
    rw (here, out) (ap (λ (c : ℕ). c ∷ columns_from k (suc x) S) d ∙ ap (λ (cs : List ℕ). m ∷ cs) (columns_same k (suc x) S (removed S m) (λ y l. sym (removed_elsewhere S m y (omega arith)))))))
    (λ nd. (
    let none : S x ≡ false = low x (omega arith) in
    let out : removed S m x ≡ false = removed_elsewhere S m x nd ∙ none in
    rw (none, out) (columns_first k (suc x) m S (omega arith) (omega arith) e low)))

-- a set is its least column and the others
pub column_items_next : (S : Set) → # width S ≢ 0 → column_items S ≡ item (least width S) ++ column_items (removed S (least width S))
unfolding column_items flat_map
column_items_next S h =
    let there = least_there width S h in
    let low : (y : ℕ) → y < least width S → S y ≡ false = λ y l. not_true (S y) (λ e. omega (arith, least_first width S y (omega (arith, there.0)) e)) in
    ap (λ (cs : List ℕ). flat_map item cs) (columns_first width 0 (least width S) S (omega arith) there.0 there.1 low)

pub column_items_none : (S : Set) → # width S ≡ 0 → column_items S ≡ []
unfolding column_items flat_map
column_items_none S h = ap (λ (cs : List ℕ). flat_map item cs) (columns_none width 0 S (λ y l. not_true (S y) (nothing_in width S h y l)))

-- the same of the empty set
pub column_items_empty : (S : Set) → S ≡ none → column_items S ≡ []
unfolding column_items flat_map
column_items_empty S e = ap (λ (cs : List ℕ). flat_map item cs) (columns_none width 0 S (λ y l. not_true (S y) (nothing_in_none S e y)))
