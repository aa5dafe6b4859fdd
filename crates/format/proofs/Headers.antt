-- What a file says before its rows, field after field, as the code goes through them: what is due next, what each call gives, that all of them together
-- say what the file says, and that a call's refusal is the file's. Assumes nothing.
use Prim.Native.Nat.{ℕ, zero, suc, ◌+◌, ◌*◌}
use mathlib.Core.Path.{◌≡◌, refl, sym, ap, subst, ◌∙◌}
use mathlib.Core.Logic.{◌≢◌, by_cases}
use mathlib.Core.Bool.{Bool, true, false, cond}
use mathlib.Core.List.{List, [], ◌∷◌}
use native.Mathlib.Decide.{ℕ_discrete}
use borrow.Author.Tests.{eq-eqb, ne_eqb}
use native.Mathlib.Omega.{arith}
use denote.Ref.{Bor}
use lib.ListN.{get_or, take}
use Rattle.std.specs.Prelude.{Result, Ok, Err, IsErrAnd, IfOk}
use Rattle.std.proofs.lemmas.Result.{err_from_is_err_and}
use Rattle.columns.specs.Bytes.{number}
use Rattle.format.specs.declared.header.Header.{Header}
use Rattle.format.specs.declared.reader.Reader.{Reader}
use Rattle.format.specs.declared.refusals.Refusal.{Refusal}
use Rattle.format.specs.Refused.{refusal_number, refusal_of}
use Rattle.format.specs.Refusals.{first_refusal}
use Rattle.format.specs.RefusalLaws.{then_zero, unless_zero, where_refused, accepted_value}
use Rattle.format.specs.TestLaws.{prime_reads, size_reads}
use Rattle.format.specs.File.Piece.{Piece, seq, head_tests, closed, Judgement, said_rest}
use Rattle.format.specs.File.Format.{prime_tag, sizes_tag, prime_body, sizes_body, prime_field, sizes_field, row_fields, size_fields, fields, judge, decode, Said, header, refused_header, Says, HeaderRead}
use Rattle.format.specs.File.Steps.{or_refused, prime_said, sizes_said, rows_said, next_said, p_known, all_known, said_of, PrimeRead, SizesRead}
use Rattle.format.proofs.Judging.{rest_due, refused_some, seq_refused, seq_passed}

-- p of its two bytes
pub two_number : (s : List ℕ) → get_or (take 2 s) 0 0 + 256 * get_or (take 2 s) 1 0 ≡ number (take 2 s)
two_number [] = refl
two_number (x ∷ []) = omega arith
two_number (x ∷ y ∷ s) = omega arith

-- ---- a field that is refused, and one that passes

module _ {k : ℕ} (h : Said) (r : ℕ) (e : r ≡ k) where
  pub said_refused : r ≢ 0 → refused_header r ≡ or_refused k h
  said_refused z = ap refused_header e ∙ sym (where_refused r e z h (refused_header k))

  pub said_passed : r ≡ 0 → h ≡ or_refused k h
  said_passed z = sym (accepted_value r e z h (refused_header k))

-- the refusal that a header says
pub said_refusal : (k : ℕ) (h : Said) → h.refusal ≡ 0 → (or_refused k h).refusal ≡ k
unfolding refused_header
said_refusal zero h e = e
said_refusal (suc k) h e = refl

-- ---- what is due next

cond_yes : {A : Type 0} (t : Bool) (x y : A) → t ≡ true → cond t x y ≡ x
cond_yes t x y e = ap (λ (u : Bool). cond u x y) e

cond_no : {A : Type 0} (t : Bool) (x y : A) → t ≡ false → cond t x y ≡ y
cond_no t x y e = ap (λ (u : Bool). cond u x y) e

module _ (s : List ℕ) (h : Said) where
  pub next_handed : h.refusal ≢ 0 → h ≡ next_said s h
  unfolding next_said
  next_handed z = sym (where_refused h.refusal refl z _ h)

  module _ (z : h.refusal ≡ 0) where
    pub next_prime : h.p ≡ 0 → prime_said s ≡ next_said s h
    unfolding next_said
    next_prime e = sym (accepted_value h.refusal refl z _ h ∙ cond_yes _ _ _ (eq-eqb _ _ e))

    module _ (e : h.p ≢ 0) where
      pub next_sizes : h.n ≡ 0 → sizes_said s h ≡ next_said s h
      unfolding next_said
      next_sizes f = sym (accepted_value h.refusal refl z _ h ∙ cond_no _ _ _ (ne_eqb _ _ e) ∙ cond_yes _ _ _ (eq-eqb _ _ f))

      pub next_rows : h.n ≢ 0 → rows_said s h ≡ next_said s h
      unfolding next_said
      next_rows f = sym (accepted_value h.refusal refl z _ h ∙ cond_no _ _ _ (ne_eqb _ _ e) ∙ cond_no _ _ _ (ne_eqb _ _ f))

-- ---- all of them

-- behind the field of the sizes, and that n is one of its limits
sizes_front : (t : List ℕ) → first_refusal (sizes_field.tests t) ≡ 0 → said_rest t ≡ sizes_field.rest t
unfolding sizes_field
sizes_front t e = rest_due sizes_tag sizes_body.size t (then_zero (head_tests sizes_tag sizes_body.size t) _ e).0

n_front : (t : List ℕ) → first_refusal (sizes_field.tests t) ≡ 0 → (sizes_field.dec t).0 ≢ 0
unfolding sizes_field
n_front t e z =
    let v = (size_reads _ _ _).0 (unless_zero _ _ (then_zero (head_tests sizes_tag sizes_body.size t) _ e).1) in
    omega (arith, v.0)

refused_file : (s : List ℕ) (k : ℕ) → k ≡ judge s → k ≢ 0 → refused_header k ≡ header s
unfolding header
refused_file s k e z = said_refused _ k e z

module _ (s : List ℕ) where
  -- what follows the field of p, and that of the sizes
  abbrev pub second : List ℕ
  second = prime_field.rest s

  abbrev pub third : List ℕ
  third = sizes_field.rest second

  abbrev pub p_said : Said
  p_said = record { refusal = 0; p = prime_field.dec s; n = 0; a = 0; b = 0 }

  abbrev pub all_said : Said
  all_said = let z = sizes_field.dec second in record { refusal = 0; p = prime_field.dec s; n = z.0; a = z.1; b = z.2 }

  pub prime_rest : first_refusal (prime_field.tests s) ≡ 0 → said_rest s ≡ second
  unfolding prime_field
  prime_rest e = rest_due prime_tag prime_body.size s (then_zero (head_tests prime_tag prime_body.size s) _ e).0

  pub sizes_rest : first_refusal (sizes_field.tests second) ≡ 0 → said_rest second ≡ third
  sizes_rest e = sizes_front second e

  p_some : first_refusal (prime_field.tests s) ≡ 0 → prime_field.dec s ≢ 0
  unfolding prime_field
  p_some e z =
      let v = ((prime_reads (prime_field.dec s)).0 (unless_zero _ _ (then_zero (head_tests prime_tag prime_body.size s) _ e).1)).1 in
      omega (arith, v.least)

  n_some : first_refusal (sizes_field.tests second) ≡ 0 → (sizes_field.dec second).0 ≢ 0
  n_some e = n_front second e

  -- after a refusal nothing more is said
  stays : (k : ℕ) → k ≢ 0 → (t : List ℕ) → next_said t (refused_header k) ≡ refused_header k
  unfolding refused_header
  stays k z t = sym (next_handed t (refused_header k) z)

  first_said : next_said s (refused_header 0) ≡ prime_said s
  unfolding refused_header
  first_said = sym (next_prime s (refused_header 0) refl refl)

  -- the field of p is refused
  prime_stops : (z : first_refusal (prime_field.tests s) ≢ 0) (t u : List ℕ) → next_said u (next_said t (prime_said s)) ≡ header s
  unfolding prime_said judge fields
  prime_stops z t u =
      let k = first_refusal (prime_field.tests s) in
      ap (λ (h : Said). next_said u (next_said t h)) (sym (said_refused p_said k refl z))
      ∙ ap (next_said u) (stays k z t) ∙ stays k z u
      ∙ refused_file s k (seq_refused prime_field size_fields s k refl z) z

  module _ (e : first_refusal (prime_field.tests s) ≡ 0) where
    pub prime_passes : prime_said s ≡ p_said
    unfolding prime_said
    prime_passes = sym (said_passed p_said 0 (sym e) refl)

    second_said : next_said second p_said ≡ sizes_said second p_said
    second_said = sym (next_sizes second p_said refl (p_some e) refl)

    sizes_stop : first_refusal (sizes_field.tests second) ≢ 0 → (u : List ℕ) → next_said u (sizes_said second p_said) ≡ header s
    unfolding judge fields size_fields sizes_said
    sizes_stop z u =
        let k = first_refusal (sizes_field.tests second) in
        ap (next_said u) (sym (said_refused all_said k refl z)) ∙ stays k z u
        ∙ refused_file s k (seq_passed prime_field size_fields s k e (seq_refused sizes_field (row_fields (prime_field.dec s)) second k refl z)) z

    module _ (f : first_refusal (sizes_field.tests second) ≡ 0) where
      pub sizes_pass : sizes_said second p_said ≡ all_said
      unfolding sizes_said
      sizes_pass = sym (said_passed all_said 0 (sym f) refl)

      judge_rows : judge s ≡ first_refusal (closed (row_fields (prime_field.dec s) (sizes_field.dec second)) third)
      unfolding judge fields size_fields
      judge_rows = sym (seq_passed prime_field size_fields s _ e (seq_passed sizes_field (row_fields (prime_field.dec s)) second _ f refl))

      rows_end : next_said third all_said ≡ header s
      unfolding header decode fields size_fields rows_said
      rows_end = sym (next_rows third all_said refl (p_some e) (n_some f)) ∙ ap (λ (k : ℕ). or_refused k all_said) (sym judge_rows)

  pub file_said : next_said (said_rest (said_rest s)) (next_said (said_rest s) (next_said s (refused_header 0))) ≡ header s
  file_said =
      ap (λ (h : Said). next_said (said_rest (said_rest s)) (next_said (said_rest s) h)) first_said
      ∙ by_cases (ℕ_discrete (first_refusal (prime_field.tests s)) 0)
      (λ e. by_cases (ℕ_discrete (first_refusal (sizes_field.tests second)) 0)
      (λ f. rw (prime_passes e, prime_rest e, sizes_rest f, second_said e, sizes_pass e f) (rows_end e f))
      (λ z. rw (prime_passes e, prime_rest e, second_said e) (sizes_stop e z (said_rest second))))
      (λ z. prime_stops z (said_rest s) (said_rest (said_rest s)))

-- ---- what a header says of its file

pub header_refusal : (s : List ℕ) → (header s).refusal ≡ judge s
unfolding header
header_refusal s = said_refusal (judge s) _ refl

pub header_accepted : (s : List ℕ) → judge s ≡ 0 → header s ≡ record { refusal = 0; p = (decode s).p; n = (decode s).n; a = (decode s).a; b = (decode s).b }
unfolding header
header_accepted s e = sym (said_passed _ 0 (sym e) refl)

-- two bytes as a number
pub two_body : (s b : List ℕ) → b ≡ take 2 s → get_or b 0 0 + 256 * get_or b 1 0 ≡ number b
two_body s b e = rw e (two_number s)

-- ---- what a call gives, in the form of what the fields say

said_so : {A : Type 0} (known : A → Said) {k : ℕ} (h : Said) (r : Result A Refusal) → refusal_of r ≡ k → IfOk r (λ x. known x ≡ h) → said_of known r ≡ or_refused k h
said_so known h (Ok x) q e = e ∙ said_passed h 0 q refl
said_so known h (Err d) q e = said_refused h (refusal_number d) q (refused_some d)

pub prime_so : {A : Type 0} (s : List ℕ) {r : Result (ℕ × A) Refusal} → Judgement (prime_field.tests s) (λ x. x.0 ≡ prime_field.dec s) r → said_of (λ x. p_known x.0) r ≡ prime_said s
unfolding prime_said
prime_so {A} s {r = Ok x} i = said_so {A = ℕ × A} (λ y. p_known y.0) _ (Ok x) i.refusal_is (ap p_known i.given)
prime_so {A} s {r = Err d} i = said_so {A = ℕ × A} (λ y. p_known y.0) _ (Err d) i.refusal_is tt

all_so : (h : Header) (p : ℕ) (z : ℕ × ℕ × ℕ) → h.p ≡ p → (h.n, h.a, h.b) ≡ z → all_known h ≡ record { refusal = 0; p = p; n = z.0; a = z.1; b = z.2 }
all_so h p z q r = rw (← q, ← r) refl

pub sizes_so : {A : Type 0} (p : ℕ) (s : List ℕ) {r : Result (Header × A) Refusal}
    → Judgement (sizes_field.tests s) (λ x. (x.0.p ≡ p) × ((x.0.n, x.0.a, x.0.b) ≡ sizes_field.dec s)) r → said_of (λ x. all_known x.0) r ≡ sizes_said s (p_known p)
unfolding sizes_said
sizes_so {A} p s {r = Ok x} i = said_so {A = Header × A} (λ y. all_known y.0) _ (Ok x) i.refusal_is (all_so x.0 p (sizes_field.dec s) i.given.0 i.given.1)
sizes_so {A} p s {r = Err d} i = said_so {A = Header × A} (λ y. all_known y.0) _ (Err d) i.refusal_is tt

pub rows_so : {A : Type 0} (h : Header) (s : List ℕ) (r : Result A Refusal) → refusal_of r ≡ first_refusal (closed (row_fields h.p (h.n, h.a, h.b)) s)
    → said_of (λ _. all_known h) r ≡ rows_said s (all_known h)
unfolding rows_said
rows_so {A} h s (Ok x) q = said_so {A = A} (λ _. all_known h) _ (Ok x) q refl
rows_so {A} h s (Err d) q = said_so {A = A} (λ _. all_known h) _ (Err d) q tt

-- ---- what the three calls say together is what the file says before its rows

module _ (s : List ℕ) {h₁ h₂ h₃ : Said} where
  pub all_three : h₁ ≡ prime_said s → h₂ ≡ next_said (said_rest s) h₁ → h₃ ≡ next_said (said_rest (said_rest s)) h₂ → h₃ ≡ header s
  all_three e f g =
      let first : next_said s (refused_header 0) ≡ h₁ = first_said s ∙ sym e in
      g ∙ ap (next_said (said_rest (said_rest s))) (f ∙ ap (next_said (said_rest s)) (sym first)) ∙ file_said s

module _ (s : List ℕ) (e : Refusal) where
  -- after a refusal nothing more is said
  pub none_due : refused_header (refusal_number e) ≡ next_said s (refused_header (refusal_number e))
  none_due = sym (stays s (refusal_number e) (refused_some e) s)

module _ (file : Bor (List ℕ)) {p : ℕ} {sizes : Reader} (i : Judgement (prime_field.tests file.now) (PrimeRead file) (Ok (p, sizes))) where
  pub sizes_at : sizes.rest.now ≡ said_rest file.now
  sizes_at = i.given.rest_is.bytes_are ∙ sym (prime_rest file.now (sym i.refusal_is))

  p_given : p ≢ 0
  p_given z = p_some file.now (sym i.refusal_is) (sym i.given.p_is ∙ z)

  -- the field of the sizes is due where p is said
  pub sizes_due : {h : Said} → h ≡ sizes_said sizes.rest.now (p_known p) → h ≡ next_said (said_rest file.now) (p_known p)
  sizes_due e = e ∙ ap (λ t. sizes_said t (p_known p)) sizes_at ∙ next_sizes (said_rest file.now) (p_known p) refl p_given refl

  module _ {h : Header} {behind : Reader} (j : Judgement (sizes_field.tests sizes.rest.now) (SizesRead p sizes.rest) (Ok (h, behind))) where
    pub rows_at : behind.rest.now ≡ said_rest sizes.rest.now
    rows_at = j.given.rest_is.bytes_are ∙ sym (sizes_front sizes.rest.now (sym j.refusal_is))

    n_given : h.n ≢ 0
    n_given z = n_front sizes.rest.now (sym j.refusal_is) (sym (ap (λ (y : ℕ × ℕ × ℕ). y.0) j.given.sizes_are) ∙ z)

    -- the rows are due where the sizes are said
    pub rows_due : {g : Said} → g ≡ rows_said behind.rest.now (all_known h) → g ≡ next_said (said_rest (said_rest file.now)) (all_known h)
    rows_due e =
        e ∙ ap (λ t. rows_said t (all_known h)) (rows_at ∙ ap said_rest sizes_at)
        ∙ next_rows (said_rest (said_rest file.now)) (all_known h) refl (λ z. p_given (sym j.given.p_is ∙ z)) n_given

-- ---- a file judged: the fields of p and of the sizes, and then the rows, whatever fields these have

module _ {A : Type 0} (rows : ℕ → ℕ × ℕ × ℕ → Piece A) (file : Bor (List ℕ)) where
  abbrev s : List ℕ
  s = file.now

  abbrev size_part : ℕ → Piece ((ℕ × ℕ × ℕ) × A)
  size_part p = seq sizes_field (λ z. rows p z)

  abbrev whole_file : Piece (ℕ × ((ℕ × ℕ × ℕ) × A))
  whole_file = seq prime_field size_part

  pub prime_refused : (e : Refusal) → refusal_number e ≡ first_refusal (prime_field.tests s) → refusal_number e ≡ first_refusal (closed whole_file s)
  prime_refused e q = seq_refused prime_field size_part s _ q (refused_some e)

  module _ {p : ℕ} {sizes : Reader} (i : Judgement (prime_field.tests s) (PrimeRead file) (Ok (p, sizes))) where
    pub sizes_refused : (e : Refusal) → refusal_number e ≡ first_refusal (sizes_field.tests sizes.rest.now) → refusal_number e ≡ first_refusal (closed whole_file s)
    sizes_refused e q =
        let r = rw i.given.rest_is.bytes_are at q in
        seq_passed prime_field size_part s _ (sym i.refusal_is) (seq_refused sizes_field (λ z. rows (prime_field.dec s) z) (second s) _ r (refused_some e))

    module _ {h : Header} {behind : Reader} (j : Judgement (sizes_field.tests sizes.rest.now) (SizesRead p sizes.rest) (Ok (h, behind))) where
      pub said_p : h.p ≡ prime_field.dec s
      said_p = j.given.p_is ∙ i.given.p_is

      pub said_sizes : (h.n, h.a, h.b) ≡ sizes_field.dec (second s)
      said_sizes = j.given.sizes_are ∙ ap sizes_field.dec i.given.rest_is.bytes_are

      pub heads_passed : (k : ℕ) → k ≡ first_refusal (closed (rows h.p (h.n, h.a, h.b)) behind.rest.now) → k ≡ first_refusal (closed whole_file s)
      heads_passed k q =
          let t = j.given.rest_is.bytes_are ∙ ap sizes_field.rest i.given.rest_is.bytes_are in
          let z : first_refusal (sizes_field.tests (second s)) ≡ 0 = ap (λ (u : List ℕ). first_refusal (sizes_field.tests u)) (sym i.given.rest_is.bytes_are) ∙ sym j.refusal_is in
          let r : first_refusal (closed (rows h.p (h.n, h.a, h.b)) behind.rest.now) ≡ first_refusal (closed (rows (prime_field.dec s) (sizes_field.dec (second s))) (third s)) =
          rw (said_p, said_sizes, t) refl in
          seq_passed prime_field size_part s k (sym i.refusal_is) (seq_passed sizes_field (λ y. rows (prime_field.dec s) y) (second s) k z (q ∙ r))

-- ---- what is given of what was said

-- a refusal, by the number that was said
pub said_err : {said : Said} {k : ℕ} (e : Refusal) → said.refusal ≡ k → refusal_number e ≡ k → HeaderRead said (Err e)
said_err e l q = record { refusal_is = q ∙ sym l; given = tt }

pub said_handed : {said : Said} {r : Result Header Refusal} (e : Refusal) → IsErrAnd r (λ d. d ≡ e) → refusal_number e ≡ said.refusal → HeaderRead said r
said_handed {r = r} e h q = let p = err_from_is_err_and r h in rw p.1 (said_err _ refl (ap refusal_number p.2 ∙ q))

-- and by all that was said, as a header is
pub refused_given : {said : Said} {r : Result Header Refusal} (e : Refusal) → IsErrAnd r (λ d. d ≡ e) → refused_header (refusal_number e) ≡ said → HeaderRead said r
unfolding refused_header
refused_given e h q = said_handed e h (ap (λ (x : Said). x.refusal) q)

pub known_given : {said : Said} {h : Header} → all_known h ≡ said → HeaderRead said (Ok h)
known_given {h = h} q = subst (λ x. HeaderRead x (Ok h)) q (record { refusal_is = refl; given = record { p_is = refl; n_is = refl; a_is = refl; b_is = refl } })

-- a header, by p and the sizes that were said
pub said_ok : {said : Said} {h : Header} (p : ℕ) (z : ℕ × ℕ × ℕ) → said ≡ record { refusal = 0; p = p; n = z.0; a = z.1; b = z.2 } → h.p ≡ p → (h.n, h.a, h.b) ≡ z → HeaderRead said (Ok h)
said_ok {h = h} p z e q r = known_given (all_so h p z q r ∙ sym e)

-- what a header read says of the file
module _ (s : List ℕ) {h : Header} (r : HeaderRead (header s) (Ok h)) where
  pub read_accepted : judge s ≡ 0
  read_accepted = sym (r.refusal_is ∙ header_refusal s)

  pub read_sizes : Says (record { refusal = 0; p = (decode s).p; n = (decode s).n; a = (decode s).a; b = (decode s).b }) h
  read_sizes = rw (header_accepted s read_accepted) at r.given

pub read_refused : (s : List ℕ) {e : Refusal} → HeaderRead (header s) (Err e) → refusal_number e ≡ judge s
read_refused s r = r.refusal_is ∙ header_refusal s
