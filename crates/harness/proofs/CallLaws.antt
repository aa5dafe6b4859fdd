-- What is promised of the model that is lent is promised of what was handed over; and the number and the bytes that a call about a model comes to.
-- Assumes nothing.
use Prim.Native.Nat.{ℕ}
use mathlib.Core.Path.{◌≡◌, refl, sym, subst}
use mathlib.Core.Logic.{◌≢◌}
use mathlib.Core.Bool.{Bool, true, false}
use mathlib.Core.List.{List, []}
use Rattle.std.specs.Borrow.{Bor}
use Rattle.std.proofs.Math.Option.{Option}
use Rattle.columns.specs.ColumnSets.{row_numbers}
use Rattle.models.specs.Lent.{lent_numbers, constants_lent, rows_lent, numbers_lent}
use Rattle.models.specs.declared.LentModel.{LentModel}
use Rattle.format.specs.Numbers.{lent}
use Rattle.format.specs.Refusals.{Tests, first_refusal}
use Rattle.layered.specs.Answers.{RankCall}
use Rattle.host.specs.AreaCall.{AreaCall, PutOver, WrittenOver}
use Rattle.host.proofs.AreaLaws.{refused_before, answer_put}
use Rattle.harness.specs.Calls.{numbers_told, model_lent}

-- ---- the model that is lent

numbers_same : (numbered : Bool) (ks : Bor (List ℕ)) → lent_numbers (numbers_told numbered ks) ≡ lent numbered ks.now
unfolding lent
numbers_same false ks = refl
numbers_same true ks = refl

pub of_handed : (Q : (p n a b : ℕ) (cs ws : List ℕ) → Option (List ℕ) → Type 0) {p n a b : ℕ} {cs ws : Bor (List ℕ)} (numbered : Bool) (ks : Bor (List ℕ)) {m : LentModel} → m ≡ model_lent p n a b cs ws numbered ks
    → Q m.p m.n m.a m.b (constants_lent m) (rows_lent m) (numbers_lent m) → Q p n a b cs.now (row_numbers ws.now) (lent numbered ks.now)
of_handed Q {p} {n} {a} {b} {cs} {ws} numbered ks e q =
    subst (λ (ns : Option (List ℕ)). Q p n a b cs.now (row_numbers ws.now) ns) (numbers_same numbered ks)
    (subst (λ (m : LentModel). Q m.p m.n m.a m.b (constants_lent m) (rows_lent m) (numbers_lent m)) e q)

-- ---- a call that is refused, and one whose answer is put into the area

pub rank_refused : (before : Tests) (least : ℕ) (Written : List ℕ → List ℕ → Type 0) {area : List ℕ} {r : ℕ} {IfRefused IfAccepted : Type 0} → RankCall (first_refusal before) r IfRefused IfAccepted → r ≢ 0
    → AreaCall before [] least Written area r area
rank_refused before least Written {area} h = refused_before before [] least Written area _ h.is_refusal

pub rank_put : {T : Type 0} {Holds : T → Type 0} (bytes : T → List ℕ) (before : Tests) {least : ℕ} {area : List ℕ} {number : ℕ} {area' : List ℕ} (t : T) {IfRefused : Type 0}
    → RankCall (first_refusal before) 0 IfRefused (Holds t) → PutOver least (bytes t) area number area' → AreaCall before [] least (WrittenOver Holds bytes) area number area'
unfolding first_refusal
rank_put bytes before t h w = answer_put bytes before [] t (h.if_accepted (sym h.is_refusal)) (sym h.is_refusal) refl w
