-- The laws of fields, repetition and sequence, one for each: what passes its tests is of the stated form and is written as it was read;
-- what is of the stated form passes and is read as it was written. Assumes nothing.
use Rattle.std.specs.Prelude.{ℕ, zero, suc, ◌+◌, ◌-◌, ◌/◌, ◌%◌, ◌≤◌, ◌<◌, ◌≡◌, refl, Bool, true, false, cond, ◌⊎◌, length, get_or, take, drop}
use Rattle.std.proofs.Common.{sym, ap, ◌∙◌, subst, inl, inr, ⊎_elim, arith, length-append, length-drop, take-append-drop, take_at, drop_at, get_or-drop, get_or-append-add, length-take-le}
use mathlib.Core.List.{List, [], ◌∷◌, ◌++◌, append_assoc, flat_map}
use Rattle.columns.specs.Words.Bytes.{AreBytes}
use Rattle.format.specs.Lists.{All}
use Rattle.format.specs.Refusals.{Tests, ◌then◌, head_bytes, said_length, first_refusal}
use Rattle.format.specs.RefusalLaws.{acceptance_reads, then_zero, zero_then}
use Rattle.format.specs.TestLaws.{head_reads, due_reads, body_reads}
use Rattle.format.specs.File.Piece.{Body, Piece, head_tests, field, many, many_tests, many_dec, many_rest, chain, chain_tests, chain_dec, chain_rest, chain_enc, either, seq}

pub record BodyLaw {A : Type 0} (B : Body A) (Is : A → Type 0) : Type 0 where
  pub small : B.size < 65536
  pub good : (b : List ℕ) → AreBytes b → length b ≡ B.size → first_refusal (B.tests b) ≡ 0 → Is (B.dec b) × (B.enc (B.dec b) ≡ b)
  pub back : (x : A) → Is x → (length (B.enc x) ≡ B.size) × (first_refusal (B.tests (B.enc x)) ≡ 0) × (B.dec (B.enc x) ≡ x)

pub record Law {A : Type 0} (P : Piece A) (Is : A → Type 0) : Type 0 where
  pub good : (s : List ℕ) → AreBytes s → first_refusal (P.tests s) ≡ 0 → Is (P.dec s) × (P.enc (P.dec s) ++ P.rest s ≡ s)
  pub back : (x : A) (t : List ℕ) → Is x
      → (first_refusal (P.tests (P.enc x ++ t)) ≡ 0) × (P.dec (P.enc x ++ t) ≡ x) × (P.rest (P.enc x ++ t) ≡ t)

-- ---- bytes of a part

bytes_tail : (u t : List ℕ) → AreBytes (u ++ t) → AreBytes t
bytes_tail u t h i = rw get_or-append-add at (h (length u + i))

bytes_drop : (k : ℕ) (s : List ℕ) → AreBytes s → AreBytes (drop k s)
bytes_drop k s h i = rw get_or-drop (h (k + i))

bytes_take : (k : ℕ) (s : List ℕ) → AreBytes s → AreBytes (take k s)
bytes_take zero s h i = omega arith
bytes_take (suc k) [] h i = omega arith
bytes_take (suc k) (x ∷ s) h zero = h 0
bytes_take (suc k) (x ∷ s) h (suc i) = bytes_take k s (λ j. h (suc j)) i

-- ---- a field

-- what a head that is not refused says
abbrev Head : ℕ → ℕ → List ℕ → Type 0
Head tag size s = (head_bytes ≤ length s) × (get_or s 0 0 ≡ tag) × (said_length s ≡ size) × (size ≤ length s - head_bytes)

pub head_good : (tag size : ℕ) (s : List ℕ) → first_refusal (head_tests tag size s) ≡ 0 → Head tag size s
unfolding head_tests
head_good tag size s e =
    let v = (acceptance_reads (head_tests tag size s)).0 e in
    let d = (due_reads tag size s).0 v.1.0 in
    ((head_reads s).0 v.0, d.0, d.1, (body_reads size s).0 v.1.1.0)

head_back : (tag size : ℕ) (s : List ℕ) → Head tag size s → first_refusal (head_tests tag size s) ≡ 0
unfolding head_tests
head_back tag size s h =
    (acceptance_reads (head_tests tag size s)).1 ((head_reads s).1 h.0, ((due_reads tag size s).1 (h.1, h.2), ((body_reads size s).1 h.3, tt)))

-- the list of a head that is not refused
head_list : (tag size : ℕ) (s : List ℕ) → AreBytes s → Head tag size s → (tag ∷ size % 256 ∷ size / 256 ∷ drop head_bytes s) ≡ s
head_list tag size [] b h = absurd (omega arith)
head_list tag size (x ∷ []) b h = absurd (omega arith)
head_list tag size (x ∷ y ∷ []) b h = absurd (omega arith)
head_list tag size (x ∷ y ∷ z ∷ s) b h =
    let hy = b 1 in
    let lo : size % 256 ≡ y = omega arith in
    let hi : size / 256 ≡ z = omega arith in
    rw (lo, hi, h.1)

pub field_law : {A : Type 0} (tag : ℕ) {B : Body A} {Is : A → Type 0} → BodyLaw B Is → Law (field tag B) Is
field_law {A} tag {B} {Is} L = record { good = good; back = back }
  where
    good : (s : List ℕ) → AreBytes s → first_refusal ((field tag B).tests s) ≡ 0
        → Is ((field tag B).dec s) × ((field tag B).enc ((field tag B).dec s) ++ (field tag B).rest s ≡ s)
    good s h e =
        let z = then_zero (head_tests tag B.size s) _ e in
        let f : Head tag B.size s = head_good tag B.size s z.0 in
        let l : length (take B.size (drop head_bytes s)) ≡ B.size = length-take-le B.size (drop head_bytes s) (simp length-drop f.3) in
        let g = L.good (take B.size (drop head_bytes s)) (bytes_take B.size (drop head_bytes s) (bytes_drop head_bytes s h)) l z.1 in
        (g.0, rw (g.1, take-append-drop) (head_list tag B.size s h f))

    back : (x : A) (t : List ℕ) → Is x
        → (first_refusal ((field tag B).tests ((field tag B).enc x ++ t)) ≡ 0) × ((field tag B).dec ((field tag B).enc x ++ t) ≡ x) × ((field tag B).rest ((field tag B).enc x ++ t) ≡ t)
    back x t v =
        let g = L.back x v in
        let k = L.small in
        let u = B.enc x ++ t in
        let l : length u ≡ B.size + length t = simp (length-append, g.0) in
        let cut : take B.size u ≡ B.enc x = take_at (B.enc x) t B.size g.0 in
        let head = head_back tag B.size ((field tag B).enc x ++ t) (omega arith, refl, omega arith, omega arith) in (
          zero_then _ _ head (ap (λ (b : List ℕ). first_refusal (B.tests b)) cut ∙ g.1),
          ap B.dec cut ∙ g.2,
          drop_at (B.enc x) t B.size g.0,
        )

-- ---- repetition and sequence

pub many_law : {A : Type 0} (k : ℕ) {P : Piece A} {Is : A → Type 0} → Law P Is → Law (many k P) (λ xs. (length xs ≡ k) × All Is xs)
unfolding flat_map first_refusal
many_law {A} k {P} {Is} L = record { good = good k; back = back k }
  where
    good : (k : ℕ) (s : List ℕ) → AreBytes s → first_refusal (many_tests P k s) ≡ 0
        → ((length (many_dec P k s) ≡ k) × All Is (many_dec P k s)) × (flat_map P.enc (many_dec P k s) ++ many_rest P k s ≡ s)
    good zero s h e = ((refl, tt), refl)
    good (suc k) s h e =
        let z = then_zero (P.tests s) _ e in
        let g = L.good s h z.0 in
        let i = good k (P.rest s) (bytes_tail (P.enc (P.dec s)) _ (subst AreBytes (sym g.1) h)) z.1 in
        ((ap suc i.0.0, (g.0, i.0.1)), simp (append_assoc, i.1) g.1)

    back : (k : ℕ) (xs : List A) (t : List ℕ) → (length xs ≡ k) × All Is xs
        → (first_refusal (many_tests P k (flat_map P.enc xs ++ t)) ≡ 0) × (many_dec P k (flat_map P.enc xs ++ t) ≡ xs) × (many_rest P k (flat_map P.enc xs ++ t) ≡ t)
    back zero [] t v = (refl, refl, refl)
    back zero (x ∷ xs) t v = absurd (omega arith)
    back (suc k) [] t v = absurd (omega arith)
    back (suc k) (x ∷ xs) t v =
        let u = flat_map P.enc xs ++ t in
        let g = L.back x u v.1.0 in
        let i = back k xs t (omega arith, v.1.1) in (
          rw append_assoc (zero_then (P.tests (P.enc x ++ u)) (many_tests P k (P.rest (P.enc x ++ u))) g.0 (ap (λ (s : List ℕ). first_refusal (many_tests P k s)) g.2 ∙ i.0)),
          simp (append_assoc, g.1, g.2, i.1),
          simp (append_assoc, g.2) i.2,
        )

-- every value is as stated after those before it
abbrev pub AllFrom : {S A : Type 0} → (S → A → Type 0) → (S → A → S) → S → List A → Type 0
AllFrom Is step x [] = Unit {0}
AllFrom Is step x (y ∷ ys) = Is x y × AllFrom Is step (step x y) ys

pub chain_law : {S A : Type 0} (k : ℕ) (x : S) {P : S → Piece A} (step : S → A → S) {Is : S → A → Type 0} → ((x : S) → Law (P x) (Is x))
    → Law (chain k x P step) (λ ys. (length ys ≡ k) × AllFrom Is step x ys)
unfolding first_refusal
chain_law {S} {A} k x {P} step {Is} L = record { good = good k x; back = back k x }
  where
    good : (k : ℕ) (x : S) (s : List ℕ) → AreBytes s → first_refusal (chain_tests P step k x s) ≡ 0
        → ((length (chain_dec P step k x s) ≡ k) × AllFrom Is step x (chain_dec P step k x s)) × (chain_enc P step x (chain_dec P step k x s) ++ chain_rest P step k x s ≡ s)
    good zero x s h e = ((refl, tt), refl)
    good (suc k) x s h e =
        let z = then_zero ((P x).tests s) _ e in
        let g = (L x).good s h z.0 in
        let i = good k (step x ((P x).dec s)) ((P x).rest s) (bytes_tail ((P x).enc ((P x).dec s)) _ (subst AreBytes (sym g.1) h)) z.1 in
        ((ap suc i.0.0, (g.0, i.0.1)), simp (append_assoc, i.1) g.1)

    back : (k : ℕ) (x : S) (ys : List A) (t : List ℕ) → (length ys ≡ k) × AllFrom Is step x ys
        → (first_refusal (chain_tests P step k x (chain_enc P step x ys ++ t)) ≡ 0) × (chain_dec P step k x (chain_enc P step x ys ++ t) ≡ ys) × (chain_rest P step k x (chain_enc P step x ys ++ t) ≡ t)
    back zero x [] t v = (refl, refl, refl)
    back zero x (y ∷ ys) t v = absurd (omega arith)
    back (suc k) x [] t v = absurd (omega arith)
    back (suc k) x (y ∷ ys) t v =
        let u = chain_enc P step (step x y) ys ++ t in
        let g = (L x).back y u v.1.0 in
        let i = back k (step x y) ys t (omega arith, v.1.1) in
        let next : (f : S → List ℕ → ℕ) → f (step x ((P x).dec ((P x).enc y ++ u))) ((P x).rest ((P x).enc y ++ u)) ≡ f (step x y) u = λ f. rw (g.1, g.2) refl in (
          rw append_assoc (zero_then ((P x).tests ((P x).enc y ++ u)) (chain_tests P step k (step x ((P x).dec ((P x).enc y ++ u))) ((P x).rest ((P x).enc y ++ u))) g.0 (next (λ z s. first_refusal (chain_tests P step k z s)) ∙ i.0)),
          simp (append_assoc, g.1, g.2, i.1),
          simp (append_assoc, g.1, g.2) i.2,
        )

pub seq_law : {A B : Type 0} {P : Piece A} {Q : A → Piece B} {Is : A → Type 0} {On : A → B → Type 0}
    → Law P Is → ((a : A) → Is a → Law (Q a) (On a)) → Law (seq P Q) (λ x. Is x.0 × On x.0 x.1)
seq_law {A} {B} {P} {Q} {Is} {On} L M = record { good = good; back = back }
  where
    good : (s : List ℕ) → AreBytes s → first_refusal ((seq P Q).tests s) ≡ 0
        → (Is (P.dec s) × On (P.dec s) ((Q (P.dec s)).dec (P.rest s))) × ((P.enc (P.dec s) ++ (Q (P.dec s)).enc ((Q (P.dec s)).dec (P.rest s))) ++ (Q (P.dec s)).rest (P.rest s) ≡ s)
    good s h e =
        let z = then_zero (P.tests s) _ e in
        let g = L.good s h z.0 in
        let i = (M (P.dec s) g.0).good (P.rest s) (bytes_tail (P.enc (P.dec s)) _ (subst AreBytes (sym g.1) h)) z.1 in
        ((g.0, i.0), simp (append_assoc, i.1) g.1)

    back : (x : A × B) (t : List ℕ) → Is x.0 × On x.0 x.1
        → (first_refusal ((seq P Q).tests ((seq P Q).enc x ++ t)) ≡ 0) × ((seq P Q).dec ((seq P Q).enc x ++ t) ≡ x) × ((seq P Q).rest ((seq P Q).enc x ++ t) ≡ t)
    back x t v =
        let u = P.enc x.0 ++ ((Q x.0).enc x.1 ++ t) in
        let g = L.back x.0 ((Q x.0).enc x.1 ++ t) v.0 in
        let i = (M x.0 v.0).back x.1 t v.1 in (
          rw append_assoc (zero_then _ _ g.0 (ap (λ (a : A). first_refusal ((Q a).tests (P.rest u))) g.1 ∙ ap (λ (s : List ℕ). first_refusal ((Q x.0).tests s)) g.2 ∙ i.0)),
          simp (append_assoc, g.1, g.2, i.1),
          rw append_assoc (ap (λ (a : A). (Q a).rest (P.rest u)) g.1 ∙ ap (Q x.0).rest g.2 ∙ i.2),
        )

-- one of two pieces, and another behind it, where what stands there tells which of the two was written
pub either_law : {A B C : Type 0} (f : List ℕ → Bool) {P : Piece A} {Q : Piece B} {R : Piece C} {Is : A → Type 0} {On : B → Type 0} {In : C → Type 0}
    → Law P Is → Law Q On → Law R In → (Told : Type 0) → ((s : List ℕ) → f s ≡ true → Told)
    → ((x : A) (z : C) (t : List ℕ) → Is x → In z → f (P.enc x ++ (R.enc z ++ t)) ≡ false)
    → ((y : B) (z : C) (t : List ℕ) → On y → Told → In z → f (Q.enc y ++ (R.enc z ++ t)) ≡ true)
    → Law (seq (either f P Q) (λ _. R)) (λ x. ⊎_elim Is (λ y. On y × Told) x.0 × In x.1)
either_law {A} {B} {C} f {P} {Q} {R} {Is} {On} {In} L M N Told told first second = record { good = λ s h e. good s h (f s) refl e; back = back }
  where
    -- by what the test says
    tests : Bool → List ℕ → Tests
    tests b s = cond b (Q.tests s) (P.tests s) then R.tests (cond b (Q.rest s) (P.rest s))

    value : Bool → List ℕ → (A ⊎ B) × C
    value b s = (cond b (inr (Q.dec s)) (inl (P.dec s)), R.dec (cond b (Q.rest s) (P.rest s)))

    left : Bool → List ℕ → List ℕ
    left b s = R.rest (cond b (Q.rest s) (P.rest s))

    good : (s : List ℕ) → AreBytes s → (b : Bool) → f s ≡ b → first_refusal (tests b s) ≡ 0
        → (⊎_elim Is (λ y. On y × Told) (value b s).0 × In (value b s).1) × ((⊎_elim P.enc Q.enc (value b s).0 ++ R.enc (value b s).1) ++ left b s ≡ s)
    good s h false q e = (seq_law L (λ _ _. N)).good s h e
    good s h true q e = let g = (seq_law M (λ _ _. N)).good s h e in (((g.0.0, told s q), g.0.1), g.1)

    Back : Bool → List ℕ → (A ⊎ B) × C → List ℕ → Type 0
    Back b s x t = (first_refusal (tests b s) ≡ 0) × (value b s ≡ x) × (left b s ≡ t)

    back : (x : (A ⊎ B) × C) (t : List ℕ) → ⊎_elim Is (λ y. On y × Told) x.0 × In x.1
        → let s = (⊎_elim P.enc Q.enc x.0 ++ R.enc x.1) ++ t in Back (f s) s x t
    back (inl x, z) t v =
        let s = (P.enc x ++ R.enc z) ++ t in
        let q : f s ≡ false = ap f (append_assoc (P.enc x) (R.enc z) t) ∙ first x z t v.0 v.1 in
        let g = (seq_law L (λ _ _. N)).back (x, z) t v in
        subst (λ (b : Bool). Back b s (inl x, z) t) (sym q) (g.0, ap (λ (y : A × C). (inl y.0, y.1)) g.1, g.2)
    back (inr y, z) t v =
        let s = (Q.enc y ++ R.enc z) ++ t in
        let q : f s ≡ true = ap f (append_assoc (Q.enc y) (R.enc z) t) ∙ second y z t v.0.0 v.0.1 v.1 in
        let g = (seq_law M (λ _ _. N)).back (y, z) t (v.0.0, v.1) in
        subst (λ (b : Bool). Back b s (inr y, z) t) (sym q) (g.0, ap (λ (x : B × C). (inr x.0, x.1)) g.1, g.2)
