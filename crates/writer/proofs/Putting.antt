-- Bytes put one after another behind those that were put before. Assumes nothing.
use Rattle.std.specs.Prelude.{ℕ, ◌+◌, ◌-◌, ◌≤◌, ◌≡◌, List, [], ◌++◌, length, take, drop}
use Rattle.std.proofs.Common.{arith, refl, sym, ap, ◌∙◌, subst, append_assoc, append-nil, length-append, length-drop, take_at, drop_at, drop-drop, take_all, le_of_eq}
use lib.ListN.{drop_of_length-le}
use Rattle.std.proofs.lemmas.List.{take-append-drop}
use Rattle.std.proofs.Math.Seq.{length-take-le}
use Rattle.writer.specs.declared.pen.Pen.{Pen}
use Rattle.std.specs.Borrow.{MutBor}
use Rattle.format.specs.Lists.{over}
use Rattle.format.specs.File.Steps.{Put}
use Rattle.writer.specs.Putting.{Room, Puts, Opens}

puts_none : (p : Pen) → Puts [] p p
puts_none p =
    let z : p.at + 0 ≡ p.at = omega arith in
    record { same_area = refl; at_is = sym z; bytes_are = rw z (sym (take-append-drop p.at p.area.now)) }

sum : (at : ℕ) (bs cs : List ℕ) → at + length bs + length cs ≡ at + length (bs ++ cs)
sum at bs cs = omega (arith, length-append bs cs)

-- the area stays as long as it is
pub puts_same : {bs : List ℕ} {p q : Pen} → Room bs p → Puts bs p q → length q.area.now ≡ length p.area.now
puts_same {bs} {p} {q} h f =
    let d = p.area.now in
    let l : length (take p.at d) ≡ p.at = length-take-le p.at d (omega arith) in
    rw (f.bytes_are, length-append, length-append, length-drop, l) (omega arith)

puts_both : {bs cs : List ℕ} {p q r : Pen} → Room bs p → Puts bs p q → Puts cs q r → Puts (bs ++ cs) p r
puts_both {bs} {cs} {p} {q} {r} h f g =
    let d = p.area.now in
    let l : length (take p.at d) ≡ p.at = length-take-le p.at d (omega arith) in
    let n : length (take p.at d ++ bs) ≡ q.at = length-append (take p.at d) bs ∙ omega (arith, l, f.at_is) in
    let is : q.area.now ≡ (take p.at d ++ bs) ++ drop (p.at + length bs) d = f.bytes_are ∙ sym (append_assoc (take p.at d) bs (drop (p.at + length bs) d)) in
    let front : take q.at q.area.now ≡ take p.at d ++ bs = ap (take q.at) is ∙ take_at (take p.at d ++ bs) _ q.at n in
    let back : drop q.at q.area.now ≡ drop (p.at + length bs) d = ap (drop q.at) is ∙ drop_at (take p.at d ++ bs) _ q.at n in
    let behind : drop (q.at + length cs) q.area.now ≡ drop (p.at + length (bs ++ cs)) d =
    sym (drop-drop (length cs) q.at q.area.now) ∙ ap (drop (length cs)) back ∙ drop-drop (length cs) (p.at + length bs) d ∙ ap (λ (k : ℕ). drop k d) (sum p.at bs cs) in
    record {
      same_area = g.same_area ∙ f.same_area;
      at_is = g.at_is ∙ ap (λ (k : ℕ). k + length cs) f.at_is ∙ sum p.at bs cs;
      bytes_are = g.bytes_are ∙ rw (front, behind, append_assoc (take p.at d) bs _, append_assoc bs cs) refl;
    }

-- of all these bytes those of `todo` are still to be put
pub record Putting (all todo : List ℕ) (p q : Pen) : Type 0 where
  pub done : List ℕ
  pub puts : Puts done p q
  pub joined : done ++ todo ≡ all
  pub room : Room all p
  pub same : length q.area.now ≡ length p.area.now

pub begun : (all : List ℕ) (p : Pen) → Room all p → Putting all all p p
begun all p h = record { done = []; puts = puts_none p; joined = refl; room = h; same = refl }

module _ {all todo : List ℕ} {p q : Pen} (w : Putting all todo p q) where
  pub room_for : (bs rest : List ℕ) → todo ≡ bs ++ rest → Room bs q
  room_for bs rest t = omega (arith, ap length w.joined, length-append w.done todo, ap length t, length-append bs rest, w.puts.at_is, w.room, w.same)

  pub put_more : (bs rest : List ℕ) {r : Pen} → todo ≡ bs ++ rest → Puts bs q r → Putting all rest p r
  put_more bs rest {r} t g =
      record {
        done = w.done ++ bs;
        puts = puts_both (omega (arith, ap length w.joined, length-append w.done todo, w.room)) w.puts g;
        joined = append_assoc w.done bs rest ∙ ap (λ (x : List ℕ). w.done ++ x) (sym t) ∙ w.joined;
        room = w.room;
        same = puts_same (room_for bs rest t) g ∙ w.same;
      }

  pub put_all : todo ≡ [] → Puts all p q
  put_all t = subst (λ (x : List ℕ). Puts x p q) (sym (append-nil w.done) ∙ ap (λ (x : List ℕ). w.done ++ x) (sym t) ∙ w.joined) w.puts

-- bytes put from the front on stand over the front
pub put_over : {area : MutBor (List ℕ)} {bs out : List ℕ} {p q : Pen} → Opens area p → Puts bs p q → out ≡ q.area.now → out ≡ over bs area.now
unfolding over
put_over {area} {bs} {out} {p} {q} o f e =
    let z : p.at + length bs ≡ length bs = omega (arith, o.at_is) in
    e ∙ f.bytes_are ∙ rw (z, o.at_is, o.bytes_are) refl

pub open_room : {area : MutBor (List ℕ)} (bs : List ℕ) {p : Pen} → Opens area p → length bs ≤ length area.now → Room bs p
open_room {area} bs {p} o h = let l : length p.area.now ≡ length area.now = ap length o.bytes_are in omega (arith, o.at_is)

-- two runs, one behind the other
module _ (bs cs : List ℕ) {all : List ℕ} (e : all ≡ bs ++ cs) (p : Pen) (h : Room all p) where
  pub room_first : Room bs p
  room_first = room_for (begun all p h) bs cs e

  pub room_second : {q : Pen} → Puts bs p q → Room cs q
  room_second f = room_for (put_more (begun all p h) bs cs e f) cs [] (sym (append-nil cs))

  pub puts_two : {q r : Pen} → Puts bs p q → Puts cs q r → Puts all p r
  puts_two f g = put_all (put_more (put_more (begun all p h) bs cs e f) cs [] (sym (append-nil cs)) g) refl

put_long : {area : MutBor (List ℕ)} {bs : List ℕ} {p q : Pen} → Opens area p → Puts bs p q → q.at ≡ length bs
put_long o f = omega (arith, o.at_is, f.at_is)

-- a field put by a pen of its own
pub put_field : {area : MutBor (List ℕ)} {bs out : List ℕ} {p q : Pen} → Opens area p → Puts bs p q → out ≡ q.area.now → Put bs area.now out q.at
put_field o f e = record { many_is = put_long o f; bytes_are = put_over o f e }

-- bytes put over the front of what is left of the area go behind those before
pub put_left : (bs d e : List ℕ) (at : ℕ) → e ≡ over bs (take (length d - at) (drop at d)) → take at d ++ (e ++ drop (length d - at) (drop at d)) ≡ take at d ++ (bs ++ drop (at + length bs) d)
unfolding over
put_left bs d e at q =
    let n = length-drop at d in
    let left : take (length d - at) (drop at d) ≡ drop at d = take_all (length d - at) (drop at d) (le_of_eq n) in
    let none : drop (length d - at) (drop at d) ≡ [] = drop_of_length-le (drop at d) (le_of_eq n) in
    ap (λ (x : List ℕ). take at d ++ x)
    (ap (λ (x : List ℕ). e ++ x) none ∙ append-nil e ∙ q ∙ ap (over bs) left ∙ ap (λ (x : List ℕ). bs ++ x) (drop-drop (length bs) at d))
