-- The laws of text put into an area: text after text, what a loop has left to put, and a text that has room. Assumes nothing.
use Rattle.std.specs.Prelude.{ℕ, ◌+◌, ◌≤◌, ◌<◌, ◌≡◌, refl, List, [], ◌∷◌, ◌++◌, length, set, take, drop, Result, Ok, Err}
use Rattle.std.proofs.Common.{sym, ap, ◌∙◌, subst, arith, add-zero, zero-add, length-append, length-set, lt-ltb, le-ltb, le-leb}
use Rattle.std.proofs.Math.Logic.{by_cases}
use Rattle.std.proofs.Math.Decide.{dec_lt}
use Rattle.std.proofs.Math.Seq.{take-append_seam, set-append_seam, append_snoc}
use Rattle.std.proofs.lemmas.Bool.{lt-leb}
use Rattle.format.specs.Lists.{over}
use Rattle.format.specs.OverLaws.{over_none}
use Rattle.format.specs.Refusals.{first_refusal, area_test, where_accepted, number_of, area_short}
use Rattle.format.specs.declared.refusals.Refusal.{Refusal}
use Rattle.format.specs.declared.refusals.Refusal.TheVariants.{AreaShort}
use Rattle.text.specs.Text.{put, puts, Puts, print_refusal, printed, printed_length, Prints}

-- ---- one byte

put_room : (x : ℕ) (d : List ℕ) (at : ℕ) → at < length d → put x (d, at) ≡ (set d at x, at + 1)
unfolding put
put_room x d at h = rw (lt-ltb at (length d) h) refl

put_full : (x : ℕ) (d : List ℕ) (at : ℕ) → length d ≤ at → put x (d, at) ≡ (d, at)
unfolding put
put_full x d at h = rw (le-ltb at (length d) h) refl

put_length : (x : ℕ) (s : List ℕ × ℕ) → length (put x s).0 ≡ length s.0
put_length x (d, at) = by_cases (dec_lt at (length d))
    (λ h. ap (λ (s : List ℕ × ℕ). length s.0) (put_room x d at h) ∙ length-set d at x)
    (λ nh. ap (λ (s : List ℕ × ℕ). length s.0) (put_full x d at (omega arith)))

pub puts_room : (x : ℕ) (d : List ℕ) (at : ℕ) → at < length d → Puts (x ∷ []) d at (set d at x) (at + 1)
unfolding puts
puts_room x d at h = record { state_is = sym (put_room x d at h) }

pub puts_full : (x : ℕ) (d : List ℕ) (at : ℕ) → length d ≤ at → Puts (x ∷ []) d at d at
unfolding puts
puts_full x d at h = record { state_is = sym (put_full x d at h) }

-- ---- text after text

puts_append : (xs ys : List ℕ) (s : List ℕ × ℕ) → puts (xs ++ ys) s ≡ puts ys (puts xs s)
unfolding puts
puts_append [] ys s = refl
puts_append (x ∷ xs) ys s = puts_append xs ys (put x s)

puts_length : (xs : List ℕ) (s : List ℕ × ℕ) → length (puts xs s).0 ≡ length s.0
unfolding puts
puts_length [] s = refl
puts_length (x ∷ xs) s = puts_length xs (put x s) ∙ put_length x s

pub puts_none : (d : List ℕ) (at : ℕ) → Puts [] d at d at
unfolding puts
puts_none d at = record { state_is = refl }

pub puts_as : {xs ys d e : List ℕ} {at r : ℕ} → xs ≡ ys → Puts xs d at e r → Puts ys d at e r
puts_as {xs} {ys} {d} {e} {at} {r} t p = subst (λ (l : List ℕ). Puts l d at e r) t p

pub puts_then : {xs ys d e f : List ℕ} {at m r : ℕ} → Puts xs d at e m → Puts ys e m f r → Puts (xs ++ ys) d at f r
puts_then {xs} {ys} {d} {at = at} p q = record { state_is = q.state_is ∙ ap (puts ys) p.state_is ∙ sym (puts_append xs ys (d, at)) }

pub puts_same : {xs d e : List ℕ} {at r : ℕ} → Puts xs d at e r → length e ≡ length d
puts_same {xs} {d} {at = at} p = ap (λ (s : List ℕ × ℕ). length s.0) p.state_is ∙ puts_length xs (d, at)

-- the place stays within the area
put_within : (x : ℕ) (s : List ℕ × ℕ) → s.1 ≤ length s.0 → (put x s).1 ≤ length (put x s).0
put_within x (d, at) h = by_cases (dec_lt at (length d))
    (λ l. rw (put_room x d at l) (omega (arith, length-set d at x)))
    (λ nl. rw (put_full x d at (omega arith)) h)

puts_stay_within : (xs : List ℕ) (s : List ℕ × ℕ) → s.1 ≤ length s.0 → (puts xs s).1 ≤ length (puts xs s).0
unfolding puts
puts_stay_within [] s h = h
puts_stay_within (x ∷ xs) s h = puts_stay_within xs (put x s) (put_within x s h)

pub puts_within : {xs d e : List ℕ} {r : ℕ} → Puts xs d 0 e r → r ≤ length e
puts_within {xs} {d} p = subst (λ (s : List ℕ × ℕ). s.1 ≤ length s.0) (sym p.state_is) (puts_stay_within xs (d, 0) (omega arith))

-- ---- a loop that has `todo` left will have put `all`

pub record Putting (all todo d : List ℕ) (at : ℕ) (e : List ℕ) (r : ℕ) : Type 0 where
  pub ends_as : puts todo (e, r) ≡ puts all (d, at)

pub putting_none : (all d : List ℕ) (at : ℕ) → Putting all all d at d at
putting_none all d at = record { ends_as = refl }

pub putting_next : {all todo d e f : List ℕ} {at m r : ℕ} (xs rest : List ℕ) → Putting all todo d at e m → todo ≡ xs ++ rest → Puts xs e m f r → Putting all rest d at f r
putting_next {e = e} {m = m} xs rest p t q =
    record { ends_as = ap (puts rest) q.state_is ∙ sym (puts_append xs rest (e, m)) ∙ ap (λ (l : List ℕ). puts l (e, m)) (sym t) ∙ p.ends_as }

pub putting_all : {all todo d e : List ℕ} {at m : ℕ} → Putting all todo d at e m → todo ≡ [] → Puts all d at e m
unfolding puts
putting_all {e = e} {m = m} p t = record { state_is = ap (λ (l : List ℕ). puts l (e, m)) (sym t) ∙ p.ends_as }

pub putting_same : {all todo d e : List ℕ} {at m : ℕ} → Putting all todo d at e m → length e ≡ length d
putting_same {all} {todo} {d} {e} {at} {m} p =
    sym (puts_length todo (e, m)) ∙ ap (λ (s : List ℕ × ℕ). length s.0) p.ends_as ∙ puts_length all (d, at)

-- ---- a text that has room

-- behind the elements us it stands over the front of what follows them
puts_behind : (us text rest : List ℕ) → length text ≤ length rest → puts text (us ++ rest, length us) ≡ (us ++ over text rest, length us + length text)
unfolding puts over
puts_behind us [] rest h = ap (λ (n : ℕ). (us ++ rest, n)) (sym (add-zero (length us)))
puts_behind us (x ∷ xs) [] h = absurd (omega arith)
puts_behind us (x ∷ xs) (y ∷ rest) h =
    let next : List ℕ = us ++ (x ∷ []) in
    let n : length next ≡ length us + 1 = length-append us (x ∷ []) in
    let room : length us < length (us ++ y ∷ rest) = omega (arith, length-append us (y ∷ rest)) in
    let stored : set (us ++ y ∷ rest) (length us) x ≡ next ++ rest = set-append_seam us y rest x ∙ sym (append_snoc us x rest) in
    let here : put x (us ++ y ∷ rest, length us) ≡ (next ++ rest, length next) = put_room x (us ++ y ∷ rest) (length us) room ∙ cc in
    let there : next ++ over xs rest ≡ us ++ over (x ∷ xs) (y ∷ rest) = append_snoc us x (over xs rest) in
    let ends : length next + length xs ≡ length us + length (x ∷ xs) = omega arith in
    ap (puts xs) here ∙ puts_behind next xs rest (omega arith) ∙ cc

-- from the front on it stands over the area, and the place is its length
pub puts_over : {text d e : List ℕ} {r : ℕ} → Puts text d 0 e r → length text ≤ length d → e ≡ over text d
puts_over {text} {d} p h = ap (λ (s : List ℕ × ℕ). s.0) (p.state_is ∙ puts_behind [] text d h)

pub puts_place : {text d e : List ℕ} {r : ℕ} → Puts text d 0 e r → length text ≤ length d → r ≡ length text
puts_place {text} {d} p h = let e = ap (λ (s : List ℕ × ℕ). s.1) (p.state_is ∙ puts_behind [] text d h) in e ∙ zero-add (length text)

-- the first bytes of a page that a text was put into are the text
pub puts_page : {text d e : List ℕ} {r : ℕ} → Puts text d 0 e r → length text ≤ length d → take r e ≡ text
unfolding over
puts_page {text} {d} {e} {r} p h = rw (puts_over p h, puts_place p h) (take-append_seam text (drop (length text) d))

-- ---- a whole text printed

print_accepted : (text d : List ℕ) → length text ≤ length d → print_refusal text d ≡ 0
unfolding print_refusal first_refusal area_test
print_accepted text d h = rw (le-leb (length text) (length d) h) refl

print_refused : (text d : List ℕ) → length d < length text → print_refusal text d ≡ number_of area_short
unfolding print_refusal first_refusal area_test
print_refused text d h = rw (lt-leb (length text) (length d) h) refl

printed_whole : (text d : List ℕ) → length text ≤ length d → printed text d ≡ text
unfolding printed
printed_whole text d h = ap (λ (n : ℕ). where_accepted n text []) (print_accepted text d h)

printed_none : (text d : List ℕ) → length d < length text → printed text d ≡ []
unfolding printed
printed_none text d h = ap (λ (n : ℕ). where_accepted n text []) (print_refused text d h)

pub prints_whole : {text d e : List ℕ} {r : ℕ} → Puts text d 0 e r → length text ≤ length d → Prints text d (Ok r) e
prints_whole {text} {d} {e} {r} p h = record {
  refusal_is = sym (print_accepted text d h);
  length_is = puts_place p h ∙ ap length (sym (printed_whole text d h));
  bytes_are = puts_over p h ∙ ap (λ (l : List ℕ). over l d) (sym (printed_whole text d h));
}

pub prints_nothing : (text d : List ℕ) → length d < length text → Prints text d (Err AreaShort) d
prints_nothing text d h = record {
  refusal_is = sym (print_refused text d h);
  length_is = ap length (sym (printed_none text d h));
  bytes_are = over_none d ∙ ap (λ (l : List ℕ). over l d) (sym (printed_none text d h));
}

pub prints_as : {text t d e : List ℕ} {r : Result ℕ Refusal} → text ≡ t → Prints text d r e → Prints t d r e
prints_as {text} {t} {d} {e} {r} q w = subst (λ (l : List ℕ). Prints l d r e) q w

-- what was printed lies within the area, so that the caller may lend that part on
pub prints_within : {text d e : List ℕ} {r : Result ℕ Refusal} → Prints text d r e → printed_length r ≤ length e
unfolding over
prints_within {text} {d} {e} {r} w =
    omega (arith, w.length_is, ap length w.bytes_are ∙ length-append (printed text d) (drop (length (printed text d)) d))
