-- Writing one run of elements after another into what is left of an area. Assumes nothing.
use Rattle.std.specs.Prelude.{ℕ, suc, ◌+◌, ◌-◌, ◌≤◌, ◌<◌, ◌≡◌, refl, Bool, cond, List, [], ◌∷◌, ◌++◌, length, take, drop, set}
use Rattle.std.proofs.Common.{sym, ap, ◌∙◌, subst, append_assoc, append-nil, arith, length-append, length-drop, drop_of_length-le, le_of_eq, add-one, take_at, drop_at, drop-drop, take_all, le-leb}
use Rattle.std.proofs.lemmas.List.{set_split}
use Rattle.std.proofs.lemmas.Bool.{lt-leb}
use Rattle.format.specs.Lists.{over, over_room}

pub over_none : (d : List ℕ) → d ≡ over [] d
unfolding over
over_none d = refl

pub over_length : (bs d : List ℕ) → length bs ≤ length d → length (over bs d) ≡ length d
unfolding over
over_length bs d h = simp (length-append, length-drop) (omega arith)

pub over_room_fits : (bs d : List ℕ) → length bs ≤ length d → over_room bs d ≡ over bs d
unfolding over_room
over_room_fits bs d h = ap (λ (b : Bool). over (cond b bs []) d) (le-leb _ _ h)

pub over_no_room : (bs d : List ℕ) → length d < length bs → d ≡ over_room bs d
unfolding over_room
over_no_room bs d h = over_none d ∙ sym (ap (λ (b : Bool). over (cond b bs []) d) (lt-leb _ _ h))

-- a list that was written over another is as long
pub over_same : (bs d₀ d : List ℕ) → d ≡ over bs d₀ → length bs ≤ length d₀ → length d ≡ length d₀
over_same bs d₀ d e h = ap length e ∙ over_length bs d₀ h

-- ---- runs, written into the part that is left

-- d holds the run us; the part of d from at on is lent, and comes back as e, with the run bs over its front
pub lend_next : (us bs d₀ d e : List ℕ) (at : ℕ) → length us ≡ at → d ≡ over us d₀ → e ≡ over bs (take (length d - at) (drop at d))
    → take at d ++ (e ++ drop (length d - at) (drop at d)) ≡ over (us ++ bs) d₀
unfolding over
lend_next us bs d₀ d e at l p q =
    let r = drop (length us) d₀ in
    let t : take at d ≡ us = ap (take at) p ∙ take_at us r at l in
    let k : drop at d ≡ r = ap (drop at) p ∙ drop_at us r at l in
    let m : length r ≡ length d - at = ap length (sym k) ∙ length-drop at d in
    let w : take (length d - at) r ≡ r = take_all (length d - at) r (omega arith) in
    let v : length r ≤ length d - at = omega arith in
    let z : drop (length d - at) r ≡ [] = drop_of_length-le r v in
    rw (t, q, k, w, z, length-append, append-nil, append_assoc, drop-drop)

-- Writing run after run: d is d₀ with the first `at` bytes of `all` over its front, and `todo` is what is still to be written
pub record Wrote (all todo d₀ d : List ℕ) (at : ℕ) : Type 0 where
  pub done : List ℕ
  pub done_length : length done ≡ at
  pub is_over : d ≡ over done d₀
  pub joined : done ++ todo ≡ all
  pub same : length d ≡ length d₀
  pub room : at + length todo ≤ length d

pub wrote_none : (all d₀ : List ℕ) → length all ≤ length d₀ → Wrote all all d₀ d₀ 0
wrote_none all d₀ h = record { done = []; done_length = refl; is_over = over_none d₀; joined = refl; same = refl; room = omega arith }

-- the first run, written into the whole area
pub wrote_first : {d₀ d : List ℕ} (all bs rest : List ℕ) (k : ℕ) → all ≡ bs ++ rest → length all ≤ length d₀ → d ≡ over bs d₀ → length bs ≡ k → Wrote all rest d₀ d k
wrote_first {d₀} {d} all bs rest k t h e l =
    let n : length all ≡ length bs + length rest = rw (t, length-append) in
    let s = over_same bs d₀ d e (omega arith) in
    record { done = bs; done_length = l; is_over = e; joined = sym t; same = s; room = omega arith }

-- the next run, written into the part after the last one
pub wrote_next : {all todo d₀ d : List ℕ} {at : ℕ} (bs rest e : List ℕ) → Wrote all todo d₀ d at → todo ≡ bs ++ rest → e ≡ over bs (take (length d - at) (drop at d))
    → Wrote all rest d₀ (take at d ++ (e ++ drop (length d - at) (drop at d))) (at + length bs)
wrote_next {all} {todo} {d₀} {d} {at} bs rest e w t q =
    let next = lend_next w.done bs d₀ d e at w.done_length w.is_over q in
    let n : length (w.done ++ bs) ≡ at + length bs = rw (length-append, w.done_length) in
    let m : length todo ≡ length bs + length rest = rw (t, length-append) in
    let r = w.room in
    let s = w.same in
    let k = over_same (w.done ++ bs) d₀ _ next (omega arith) in
    record {
      done = w.done ++ bs;
      done_length = n;
      is_over = next;
      joined = rw (append_assoc, ← t) w.joined;
      same = k;
      room = omega arith;
    }

-- the same, where the run's length is known by another name
pub wrote_run : {all todo d₀ d : List ℕ} {at : ℕ} (bs rest e : List ℕ) (k : ℕ) → Wrote all todo d₀ d at → todo ≡ bs ++ rest → e ≡ over bs (take (length d - at) (drop at d)) → length bs ≡ k
    → Wrote all rest d₀ (take at d ++ (e ++ drop (length d - at) (drop at d))) (at + k)
wrote_run bs rest e k w t q h = rw h at (wrote_next bs rest e w t q)

-- the same, by a writer that tests for room: there is room for what is still to be written
pub wrote_room : {all todo d₀ d : List ℕ} {at : ℕ} (bs rest e : List ℕ) (k : ℕ) → Wrote all todo d₀ d at → todo ≡ bs ++ rest → e ≡ over_room bs (take (length d - at) (drop at d)) → length bs ≡ k
    → Wrote all rest d₀ (take at d ++ (e ++ drop (length d - at) (drop at d))) (at + k)
wrote_room {all} {todo} {d₀} {d} {at} bs rest e k w t q h =
    let m : length todo ≡ length bs + length rest = rw (t, length-append) in
    let n : length (drop at d) ≡ length d - at = length-drop at d in
    let u : length (take (length d - at) (drop at d)) ≡ length d - at = ap length (take_all (length d - at) (drop at d) (le_of_eq n)) ∙ n in
    wrote_run bs rest e k w t (q ∙ over_room_fits bs _ (omega (arith, w.room))) h

-- the next run is one element, stored where the last one ended
pub wrote_set : {all todo d₀ d : List ℕ} {at : ℕ} (x : ℕ) (rest : List ℕ) → Wrote all todo d₀ d at → todo ≡ x ∷ rest → Wrote all rest d₀ (set d at x) (at + 1)
unfolding over
wrote_set {all} {todo} {d₀} {d} {at} x rest w t =
    let r = w.room in
    let n : length todo ≡ suc (length rest) = ap length t in
    let m : length (drop at d) ≡ length d - at = length-drop at d in
    let z : drop (length d - at) (drop at d) ≡ [] = drop_of_length-le (drop at d) (le_of_eq m) in
    let u : take (length d - at) (drop at d) ≡ drop at d = take_all (length d - at) (drop at d) (le_of_eq m) in
    let e : set d at x ≡ take at d ++ x ∷ drop (suc at) d = set_split d at x (omega arith) in
    let v = wrote_next {d = d} {at = at} (x ∷ []) rest (x ∷ drop (suc at) d) w t (rw (u, drop-drop, add-one)) in
    subst (λ (l : List ℕ). Wrote all rest d₀ l (at + 1))
    (ap (λ (l : List ℕ). take at d ++ ((x ∷ drop (suc at) d) ++ l)) z ∙ ap (λ (l : List ℕ). take at d ++ l) (append-nil (x ∷ drop (suc at) d)) ∙ sym e) v

pub wrote_all : {all todo d₀ d : List ℕ} {at : ℕ} → Wrote all todo d₀ d at → todo ≡ [] → d ≡ over all d₀
wrote_all {all} {todo} {d₀} w e = w.is_over ∙ ap (λ (s : List ℕ). over s d₀) (sym (append-nil w.done) ∙ ap (λ (s : List ℕ). w.done ++ s) (sym e) ∙ w.joined)
