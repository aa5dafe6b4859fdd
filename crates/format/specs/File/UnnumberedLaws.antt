-- A file is accepted as an unnumbered one if and only if it is accepted and its model has no numbers; how its bytes lie, and what they are where one
-- parameter row is written anew. Assumes nothing.
use Prim.Native.Nat.{ℕ, zero, suc, ◌+◌, ◌*◌, ◌%◌, ◌/◌, ◌≤◌, ◌<◌}
use Rattle.std.specs.Prelude.{◌≡◌, ◌≢◌, ◌↔◌, true, false, ltb, length, get_or, set, take, drop}
use Rattle.std.proofs.Math.Path.{refl}
use Rattle.std.proofs.Common.{sym, ap, ap₂, ◌∙◌, length-append, take_at, drop_at, drop-drop, length-take-le, eqb-true}
use Rattle.std.proofs.Math.Bool.{Bool, false≢true}
use Rattle.std.proofs.Math.Option.{Option, none, some-ne-none}
use mathlib.Core.List.{List, [], ◌∷◌, ◌++◌, append_assoc, flat_map}
use native.Mathlib.Omega.{arith}
use Rattle.std.proofs.lemmas.List.{set-get_or}
use Rattle.counting.specs.Bools.{and_right}
use Rattle.columns.specs.Bytes.{bytes_of}
use Rattle.columns.specs.Words.Bytes.{bytes_of_length}
use Rattle.format.specs.Refusals.{head_bytes, unless, trailing, end_test, first_refusal}
use Rattle.format.specs.RefusalLaws.{then_zero, zero_then}
use Rattle.format.specs.File.Piece.{Body, Piece, head_tests, field, many, many_tests, many_rest, either, seq, closed}
use Rattle.format.specs.File.PieceLaws.{head_good}
use Rattle.format.specs.File.Format.{FileModel, ValidModel, ParameterRows, parameter_tag, end_tag, number_tag, parameter_size, parameter_body, end_body, prime_field, sizes_field, constant_row, parameter_row, numbered_rows, numbered_test, parameter_rows, end_field, row_fields, size_fields, fields, size_values, parameter_values, numbers_of_values, judge, decode, encode}
use Rattle.format.specs.File.Unnumbered.{unnumbered_rows, unnumbered_sizes, unnumbered_fields, unnumbered_judge, row_start, with_row}
use Rattle.format.specs.File.FormatLaws.{decode_encode, encoded_accepted}
use Rattle.format.specs.File.Steps.{constant_bytes, parameter_bytes}
use Rattle.format.specs.File.WriteLaws.{length_each, constants_length}

-- ---- one piece after another, to the end

closed_seq : {A B : Type 0} (P : Piece A) (Q : A → Piece B) (s : List ℕ)
    → (first_refusal (closed (seq P Q) s) ≡ 0) ↔ ((first_refusal (P.tests s) ≡ 0) × (first_refusal (closed (Q (P.dec s)) (P.rest s)) ≡ 0))
unfolding closed
closed_seq P Q s =
    let next = Q (P.dec s) in
    let q = ap first_refusal (append_assoc (P.tests s) (next.tests (P.rest s)) (unless (end_test (next.rest (P.rest s))) trailing)) in
    ((λ e. then_zero (P.tests s) _ (sym q ∙ e)), (λ v. q ∙ zero_then (P.tests s) _ v.0 v.1))

-- what is asked of the piece behind, more than of another there, is asked of both
seq_more : {A B C X : Type 0} (P : Piece A) (Q : A → Piece B) (R : A → Piece C) (s : List ℕ)
    → (first_refusal (closed (Q (P.dec s)) (P.rest s)) ≡ 0) ↔ ((first_refusal (closed (R (P.dec s)) (P.rest s)) ≡ 0) × X)
    → (first_refusal (closed (seq P Q) s) ≡ 0) ↔ ((first_refusal (closed (seq P R) s) ≡ 0) × X)
seq_more P Q R s h = (
  (λ e. let v = (closed_seq P Q s).0 e in let x = h.0 v.1 in ((closed_seq P R s).1 (v.0, x.0), x.1)),
  (λ y. let v = (closed_seq P R s).0 y.0 in (closed_seq P Q s).1 (v.0, h.1 (v.1, y.1))),
)

-- ---- the parameter rows

tag_due : {A : Type 0} (tag : ℕ) (B : Body A) (s : List ℕ) → first_refusal ((field tag B).tests s) ≡ 0 → get_or s 0 0 ≡ tag
tag_due tag B s e = (head_good tag B.size s (then_zero (head_tests tag B.size s) _ e).0).1

module _ (n : ℕ) where
  -- a parameter row or the end is due there, and no field of numbers
  no_numbers_due : (k : ℕ) (s : List ℕ) → first_refusal (many_tests (parameter_row n) k s) ≡ 0 → first_refusal (closed end_field (many_rest (parameter_row n) k s)) ≡ 0
      → get_or s 0 0 ≢ number_tag
  unfolding closed parameter_row end_field
  no_numbers_due zero s e f q = let h = tag_due end_tag end_body s (then_zero (end_field.tests s) _ f).0 in omega arith
  no_numbers_due (suc k) s e f q = let h = tag_due parameter_tag (parameter_body n) s (then_zero ((parameter_row n).tests s) _ e).0 in omega arith

  not_numbered : (b : ℕ) (s : List ℕ) → first_refusal (closed (seq (many b (parameter_row n)) (λ _. end_field)) s) ≡ 0 → numbered_test n b s ≢ true
  unfolding numbered_test
  not_numbered zero s e q = false≢true q
  not_numbered (suc k) s e q =
      let v = (closed_seq (many (suc k) (parameter_row n)) (λ _. end_field) s).0 e in
      no_numbers_due k ((parameter_row n).rest s) (then_zero ((parameter_row n).tests s) _ v.0).1 v.1 (eqb-true _ _ (and_right (ltb 0 (suc k)) _ q))

  rows_iff : (b : ℕ) (s : List ℕ) → (first_refusal (closed (seq (many b (parameter_row n)) (λ _. end_field)) s) ≡ 0)
      ↔ ((first_refusal (closed (seq (parameter_rows n b) (λ _. end_field)) s) ≡ 0) × (numbers_of_values ((parameter_rows n b).dec s) ≡ none))
  unfolding closed parameter_rows
  rows_iff b s = by (numbered_test n b s) refl
    where
      -- by what the tag behind the first row says
      rows : Bool → Piece ParameterRows
      rows t = either (λ _. t) (many b (parameter_row n)) (numbered_rows n b)

      by : (t : Bool) → numbered_test n b s ≡ t → (first_refusal (closed (seq (many b (parameter_row n)) (λ _. end_field)) s) ≡ 0)
          ↔ ((first_refusal (closed (seq (rows t) (λ _. end_field)) s) ≡ 0) × (numbers_of_values ((rows t).dec s) ≡ none))
      by false q = ((λ e. (e, refl)), (λ v. v.0))
      by true q = ((λ e. absurd (not_numbered b s e q)), (λ v. absurd (some-ne-none _ v.1)))

-- ---- the theorems

-- a file is accepted as an unnumbered one if and only if it is accepted and its model has no numbers
pub unnumbered_iff : (s : List ℕ) → (unnumbered_judge s ≡ 0) ↔ ((judge s ≡ 0) × ((decode s).numbers ≡ none))
unfolding judge decode fields size_fields row_fields unnumbered_judge unnumbered_fields unnumbered_sizes unnumbered_rows
unnumbered_iff s =
    let p = prime_field.dec s in
    let second = prime_field.rest s in
    let z = sizes_field.dec second in
    let constants = many z.1 (constant_row p z.0) in
    let third = sizes_field.rest second in
    seq_more prime_field unnumbered_sizes size_fields s
    (seq_more sizes_field (unnumbered_rows p) (row_fields p) second
    (seq_more constants (λ _. seq (many z.2 (parameter_row z.0)) (λ _. end_field)) (λ _. seq (parameter_rows z.0 z.2) (λ _. end_field)) third
    (rows_iff z.0 z.2 (constants.rest third))))

-- what is written of a model of the stated form without numbers is accepted
pub unnumbered_encoded : (m : FileModel) → ValidModel m → m.numbers ≡ none → unnumbered_judge (encode m) ≡ 0
unnumbered_encoded m v e = (unnumbered_iff (encode m)).1 (encoded_accepted m v, ap (λ (x : FileModel). x.numbers) (decode_encode m v) ∙ e)

-- ---- how its bytes lie

pub encode_unnumbered : (m : FileModel) → m.numbers ≡ none
    → encode m
    ≡ prime_field.enc m.p
    ++ (sizes_field.enc (size_values m)
    ++ (flat_map (constant_bytes m.n) m.constants
    ++ (flat_map (parameter_bytes m.n) m.parameters
    ++ end_field.enc tt)))
unfolding encode fields size_fields row_fields parameter_rows constant_row parameter_row constant_bytes parameter_bytes
encode_unnumbered m e =
    ap (λ (ns : Option (List (List ℕ))). fields.enc (m.p, (size_values m, (m.constants, (parameter_values m.parameters ns, tt))))) e

flatMap_set : {A : Type 0} (f : A → List ℕ) (xs : List A) (i : ℕ) (x : A) → i < length xs
    → flat_map f (set xs i x) ≡ flat_map f (take i xs) ++ (f x ++ flat_map f (drop (suc i) xs))
unfolding flat_map
flatMap_set f [] i x l = absurd (omega arith)
flatMap_set f (y ∷ ys) zero x l = refl
flatMap_set f (y ∷ ys) (suc i) x l = ap (λ (t : List ℕ). f y ++ t) (flatMap_set f ys i x (omega arith)) ∙ sym (append_assoc (f y) _ _)

-- what stands before the body of parameter row r and behind it, whatever the row is
record RowPlace (m : FileModel) (r : ℕ) : Type 0 where
  front : List ℕ
  behind : List ℕ
  front_length : length front ≡ row_start m.n m.a r
  bytes_are : (w : ℕ) → encode (with_row m r w) ≡ front ++ (bytes_of (parameter_size m.n) w ++ behind)

row_place : (m : FileModel) → ValidModel m → (r : ℕ) → r < length m.parameters → RowPlace m r
unfolding prime_field sizes_field constant_row constant_bytes parameter_bytes
row_place m v r l =
    let ws = m.parameters in
    let size = parameter_size m.n in
    let rows = flat_map (parameter_bytes m.n) in
    let before = rows (take r ws) ++ (parameter_tag ∷ size % 256 ∷ size / 256 ∷ []) in
    let c = constants_length m v in
    let k = length_each (parameter_bytes m.n) (head_bytes + size) (λ w. omega (arith, bytes_of_length size w)) (take r ws) in
    let h : length (take r ws) * (head_bytes + size) ≡ r * (head_bytes + size) = ap (λ (j : ℕ). j * (head_bytes + size)) (length-take-le r ws (omega arith)) in
    record {
      front = prime_field.enc m.p ++ (sizes_field.enc (size_values m) ++ (flat_map (constant_bytes m.n) m.constants ++ before));
      behind = rows (drop (suc r) ws) ++ end_field.enc tt;
      front_length = simp length-append (omega arith);
      bytes_are = λ w. encode_unnumbered (with_row m r w) refl ∙ simp (flatMap_set (parameter_bytes m.n) ws r w l, append_assoc) refl;
    }

-- a list cut around a part
module _ (f b t : List ℕ) {s : List ℕ} {at size : ℕ} (e : s ≡ f ++ (b ++ t)) (l : length f ≡ at) (k : length b ≡ size) where
  part_read : take size (drop at s) ≡ b
  part_read = ap (λ (u : List ℕ). take size (drop at u)) e ∙ ap (take size) (drop_at f (b ++ t) at l) ∙ take_at b t size k

  part_written : (c : List ℕ) → take at s ++ (c ++ drop (at + size) s) ≡ f ++ (c ++ t)
  part_written c =
      let front : take at s ≡ f = ap (take at) e ∙ take_at f (b ++ t) at l in
      let behind : drop (at + size) s ≡ t = sym (drop-drop size at s) ∙ ap (λ (u : List ℕ). drop size (drop at u)) e ∙ ap (drop size) (drop_at f (b ++ t) at l) ∙ drop_at b t size k in
      rw (front, behind) refl

  part_within : at + size ≤ length s
  part_within = let q : length s ≡ length f + (length b + length t) = ap length e ∙ simp length-append refl in omega arith

-- the body of parameter row r: what it holds, the bytes with another there, and that it stands within them
module _ (m : FileModel) (v : ValidModel m) (e : m.numbers ≡ none) (r : ℕ) (l : r < length m.parameters) where
  same_row : with_row m r (get_or m.parameters r 0) ≡ m
  same_row =
      ap₂ (λ (ws : List ℕ) (ns : Option (List (List ℕ))). record { p = m.p; n = m.n; a = m.a; b = m.b; constants = m.constants; parameters = ws; numbers = ns })
      (set-get_or m.parameters r 0) (sym e)

  -- before the row, the row, and behind it
  abbrev place : RowPlace m r
  place = row_place m v r l

  abbrev body : List ℕ
  body = bytes_of (parameter_size m.n) (get_or m.parameters r 0)

  body_length : length body ≡ parameter_size m.n
  body_length = bytes_of_length (parameter_size m.n) (get_or m.parameters r 0)

  cut : encode m ≡ place.front ++ (body ++ place.behind)
  cut = ap encode (sym same_row) ∙ place.bytes_are (get_or m.parameters r 0)

  pub row_read : take (parameter_size m.n) (drop (row_start m.n m.a r) (encode m)) ≡ bytes_of (parameter_size m.n) (get_or m.parameters r 0)
  row_read = part_read place.front body place.behind cut place.front_length body_length

  pub row_written : (w : ℕ) → let at = row_start m.n m.a r in let size = parameter_size m.n in
      take at (encode m) ++ (bytes_of size w ++ drop (at + size) (encode m)) ≡ encode (with_row m r w)
  row_written w = part_written place.front body place.behind cut place.front_length body_length (bytes_of (parameter_size m.n) w) ∙ sym (place.bytes_are w)

  pub row_within : row_start m.n m.a r + parameter_size m.n ≤ length (encode m)
  row_within = part_within place.front body place.behind cut place.front_length body_length
