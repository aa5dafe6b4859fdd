-- Runs of bytes or numbers put one after another, each where the last one says that it ended. Assumes nothing.
use Prim.Native.Nat.{ℕ, ◌+◌, ◌-◌, ◌≤◌}
use mathlib.Core.Path.{◌≡◌, refl, sym, ap, ◌∙◌}
use mathlib.Core.List.{List, [], ◌++◌}
use native.Mathlib.Omega.{arith}
use native.Mathlib.Nat.{le_of_eq}
use lib.ListN.{length, take, drop, length-append, length-drop}
use lib.Seq.{take_all}
use Rattle.format.specs.Refusals.{PutRoom, area_short}
use Rattle.format.specs.RefusalLaws.{zero_unless}
use Rattle.format.specs.TestLaws.{area_reads}
use Rattle.format.specs.OverLaws.{over_room_fits, over_same, lend_next, Wrote, wrote_run, wrote_first, wrote_all}
use Rattle.format.specs.File.Steps.{Put}

-- what is left of an area behind a run
pub left_length : (k : ℕ) (d : List ℕ) → length (take (length d - k) (drop k d)) ≡ length d - k
left_length k d = let n = length-drop k d in ap length (take_all (length d - k) (drop k d) (le_of_eq n)) ∙ n

-- the next run, put into the part after the last one
pub wrote_put : {all todo d₀ d : List ℕ} {at k : ℕ} (bs rest e : List ℕ) → Wrote all todo d₀ d at → todo ≡ bs ++ rest → Put bs (take (length d - at) (drop at d)) e k
    → Wrote all rest d₀ (take at d ++ (e ++ drop (length d - at) (drop at d))) (at + k)
wrote_put {k = k} bs rest e w t p = wrote_run bs rest e k w t p.bytes_are (sym p.many_is)

-- the first run
pub first_put : {d₀ d : List ℕ} {k : ℕ} (all bs rest : List ℕ) → all ≡ bs ++ rest → length all ≤ length d₀ → Put bs d₀ d k → Wrote all rest d₀ d k
first_put {k = k} all bs rest t h p = wrote_first all bs rest k t h p.bytes_are (sym p.many_is)

-- all are put
pub put_all : {all todo d₀ d : List ℕ} {at : ℕ} → Wrote all todo d₀ d at → todo ≡ [] → Put all d₀ d at
put_all {all} {todo} {d₀} {d} {at} w e =
    let l : length (w.done ++ todo) ≡ length all = ap length w.joined in
    let z : length todo ≡ 0 = ap length e in
    record { many_is = omega (arith, w.done_length, simp length-append at l); bytes_are = wrote_all w e }

-- while runs are left, there is room for the next one in the part that is left
pub room_left : {all todo d₀ d : List ℕ} {at : ℕ} (bs rest : List ℕ) → Wrote all todo d₀ d at → todo ≡ bs ++ rest
    → (at + length bs ≤ length d) × (length bs ≤ length (take (length d - at) (drop at d)))
room_left {all} {todo} {d₀} {d} {at} bs rest w t =
    let m : length todo ≡ length bs + length rest = ap length t ∙ length-append bs rest in
    let u = left_length at d in
    let r = w.room in
    (omega arith, omega arith)

-- one run after another, where there are two
pub put_next : {us bs d₀ d e : List ℕ} {k j : ℕ} → Put us d₀ d k → Put bs (take (length d - k) (drop k d)) e j
    → Put (us ++ bs) d₀ (take k d ++ (e ++ drop (length d - k) (drop k d))) (k + j)
put_next {us} {bs} {d₀} {d} {e} {k} {j} p q =
    let l = length-append us bs in
    let m = p.many_is in
    let n = q.many_is in
    record { many_is = omega arith; bytes_are = lend_next us bs d₀ d e k (sym m) p.bytes_are q.bytes_are }

-- a run put by a function that tests for room, where there is room
pub put_room : {bs d e : List ℕ} {r : ℕ} → PutRoom bs d e r → length bs ≤ length d → Put bs d e (length bs)
put_room {bs} {d} p h = record { many_is = refl; bytes_are = p.bytes_are ∙ over_room_fits bs d h }

-- and nothing is refused there
pub room_accepts : {bs d e : List ℕ} {r : ℕ} → PutRoom bs d e r → length bs ≤ length d → r ≡ 0
room_accepts p h = p.refusal_is ∙ zero_unless _ area_short ((area_reads _ _).1 h)

-- an area stays as long as it is
pub put_same : {bs d e : List ℕ} {k : ℕ} → Put bs d e k → length bs ≤ length d → length e ≡ length d
put_same {bs} {d} {e} p h = over_same bs d e p.bytes_are h
