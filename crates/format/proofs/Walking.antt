-- A file that is accepted, walked by the lengths that its heads say: each field lies where the definition has it. Assumes nothing.
use Prim.Native.Nat.{ℕ, zero, suc, ◌+◌, ◌-◌, ◌*◌, ◌≤◌, ◌<◌}
use mathlib.Core.Path.{◌≡◌, refl, sym, ap, ap₂, ◌∙◌}
use mathlib.Core.Bool.{Bool, true, false, false≢true, cond}
use mathlib.Core.Logic.{inl, inr}
use mathlib.Core.List.{List, [], ◌∷◌, ◌++◌, map, flatten, flat_map}
use native.Mathlib.Omega.{arith}
use lib.ListN.{length, take, drop, length-drop}
use lib.Seq.{length-take-le, take_all}
use Rattle.columns.specs.Bytes.{number}
use Rattle.columns.specs.Columns.{room_bytes, members}
use Rattle.format.specs.Numbers.{parameter_count, spread, entries_for, number_entries, is_numbered}
use Rattle.format.specs.Refusals.{head_bytes, said_length, first_refusal}
use Rattle.format.specs.RefusalLaws.{then_zero}
use Rattle.format.specs.File.Piece.{Body, Piece, head_tests, field, many_tests, many_dec, many_rest, chain_tests, chain_dec, closed, said_body, said_rest, said_bodies, said_rests}
use Rattle.format.specs.File.Format.{entries, prime_tag, sizes_tag, constant_tag, parameter_tag, number_tag, prime_body, sizes_body, constant_body, parameter_body, number_body, prime_field, sizes_field, constant_row, parameter_row, number_field, numbered_row, and_its_numbers, numbered_rows, numbered_test, ParameterRows, parameter_rows, parameters_of_values, numbers_of_values, row_fields, size_fields, fields, judge, decode, rows_part, from_row}
use Rattle.format.specs.File.Steps.{constants_said, fields_of_row, parameters_said, row_entries_said, numbers_said}
use Rattle.format.specs.File.RowSizes.{parameter_size_most}
use Rattle.format.specs.File.PieceLaws.{head_good}
use Rattle.format.proofs.Judging.{body_due, rest_due}

-- ---- the pieces of a repetition that passed

pub many_at : {A : Type 0} (P : Piece A) (k i : ℕ) (s : List ℕ) → first_refusal (many_tests P k s) ≡ 0 → i < k → first_refusal (P.tests (many_rest P i s)) ≡ 0
many_at P zero i s e h = absurd (omega arith)
many_at P (suc k) zero s e h = (then_zero (P.tests s) _ e).0
many_at P (suc k) (suc i) s e h = many_at P k i (P.rest s) (then_zero (P.tests s) _ e).1 (omega arith)

module _ {A : Type 0} (tag : ℕ) (B : Body A) where
  field_rest : (s : List ℕ) → first_refusal ((field tag B).tests s) ≡ 0 → said_rest s ≡ (field tag B).rest s
  field_rest s e = rest_due tag B.size s (then_zero (head_tests tag B.size s) _ e).0

  many_rest_said : (k i : ℕ) (s : List ℕ) → first_refusal (many_tests (field tag B) k s) ≡ 0 → i ≤ k → said_rests i s ≡ many_rest (field tag B) i s
  unfolding said_rests
  many_rest_said k zero s e h = refl
  many_rest_said zero (suc i) s e h = absurd (omega arith)
  many_rest_said (suc k) (suc i) s e h =
      let z = then_zero ((field tag B).tests s) _ e in
      ap (said_rests i) (field_rest s z.0) ∙ many_rest_said k i ((field tag B).rest s) z.1 (omega arith)

  -- a field's body is read as the definition does
  field_body : (s : List ℕ) → first_refusal ((field tag B).tests s) ≡ 0 → (said_body s ≡ take B.size (drop head_bytes s)) × (length (said_body s) ≡ B.size)
  field_body s e =
      let y = (then_zero (head_tests tag B.size s) _ e).0 in
      let q = body_due tag B.size s y in
      (q, ap length q ∙ length-take-le B.size (drop head_bytes s) (rw length-drop (head_good tag B.size s y).3))

  -- f reads a body of that size as the definition does
  many_dec_said : (f : List ℕ → A) → ((b : List ℕ) → length b ≡ B.size → f b ≡ B.dec b) → (k : ℕ) (s : List ℕ) → first_refusal (many_tests (field tag B) k s) ≡ 0
      → map f (said_bodies k s) ≡ many_dec (field tag B) k s
  unfolding said_bodies
  many_dec_said f h zero s e = refl
  many_dec_said f h (suc k) s e =
      let z = then_zero ((field tag B).tests s) _ e in
      let y = (then_zero (head_tests tag B.size s) _ z.0).0 in
      let l : length (take B.size (drop head_bytes s)) ≡ B.size = length-take-le B.size (drop head_bytes s) (rw length-drop (head_good tag B.size s y).3) in
      rw (field_rest s z.0, body_due tag B.size s y, h _ l) (ap (λ (t : List A). B.dec (take B.size (drop head_bytes s)) ∷ t) (many_dec_said f h k ((field tag B).rest s) z.1))

-- ---- a file

pub said_rests_behind : (i : ℕ) (s : List ℕ) → said_rests (2 + i) s ≡ said_rests i (said_rests 2 s)
unfolding said_rests
said_rests_behind i s = let q : 2 + i ≡ suc (suc i) = omega arith in rw q refl

flatten_map : {A : Type 0} (f : A → List ℕ) (xs : List A) → flat_map f xs ≡ flatten (map f xs)
unfolding flat_map flatten
flatten_map f [] = refl
flatten_map f (x ∷ xs) = ap (λ (t : List ℕ). f x ++ t) (flatten_map f xs)

-- ---- parameter rows

module _ (n : ℕ) where
  -- a row's set
  pub row_set : (s : List ℕ) → first_refusal ((parameter_row n).tests s) ≡ 0 → number (take room_bytes (said_body s)) ≡ (parameter_row n).dec s
  unfolding parameter_row
  row_set s e =
      let g = field_body parameter_tag (parameter_body n) s e in
      ap number (take_all room_bytes (said_body s) (omega (arith, parameter_size_most n, g.1)) ∙ g.0)

  row_rest : (s : List ℕ) → first_refusal ((parameter_row n).tests s) ≡ 0 → said_rest s ≡ (parameter_row n).rest s
  unfolding parameter_row
  row_rest s e = field_rest parameter_tag (parameter_body n) s e

  plain_said : (k : ℕ) (s : List ℕ) → first_refusal (many_tests (parameter_row n) k s) ≡ 0 → parameters_said 1 k s ≡ many_dec (parameter_row n) k s
  unfolding parameters_said said_rests
  plain_said zero s e = refl
  plain_said (suc k) s e =
      let z = then_zero ((parameter_row n).tests s) _ e in
      ap₂ (λ (w : ℕ) (ws : List ℕ). w ∷ ws) (row_set s z.0) (ap (parameters_said 1 k) (row_rest s z.0) ∙ plain_said k ((parameter_row n).rest s) z.1)

  module _ (before : List ℕ) (s : List ℕ) (e : first_refusal ((numbered_row n before).tests s) ≡ 0) where
    abbrev behind : List ℕ
    behind = (parameter_row n).rest s

    abbrev own : Body (List ℕ)
    own = number_body (parameter_count n ((parameter_row n).dec s)) before

    row_passed : first_refusal ((parameter_row n).tests s) ≡ 0
    row_passed = (then_zero ((parameter_row n).tests s) _ e).0

    own_passed : first_refusal ((field number_tag own).tests behind) ≡ 0
    unfolding number_field
    own_passed = (then_zero ((parameter_row n).tests s) _ e).1

    numbered_rest : said_rests 2 s ≡ (numbered_row n before).rest s
    unfolding said_rests number_field
    numbered_rest = ap said_rest (row_rest s row_passed) ∙ field_rest number_tag own behind own_passed

    numbered_entries : row_entries_said n s ≡ spread (members ((numbered_row n before).dec s).0) 0 n ((numbered_row n before).dec s).1
    unfolding row_entries_said number_field
    numbered_entries =
        ap₂ (λ (w : ℕ) (ks : List ℕ). spread (members w) 0 n ks) (row_set s row_passed)
        (ap (λ (t : List ℕ). entries (said_body t)) (row_rest s row_passed) ∙ ap entries (field_body number_tag own behind own_passed).0)

  numbered_said : (k : ℕ) (before s : List ℕ) → let xs = chain_dec (numbered_row n) and_its_numbers k before s in
      first_refusal (chain_tests (numbered_row n) and_its_numbers k before s) ≡ 0
      → (parameters_said 2 k s ≡ map (λ x. x.0) xs) × (numbers_said n k s ≡ entries_for n (map (λ x. x.0) xs) (map (λ x. x.1) xs))
  unfolding parameters_said numbers_said entries_for
  numbered_said zero before s e = (refl, refl)
  numbered_said (suc k) before s e =
      let z = then_zero ((numbered_row n before).tests s) _ e in
      let x = (numbered_row n before).dec s in
      let i = numbered_said k (and_its_numbers before x) ((numbered_row n before).rest s) z.1 in
      let q = numbered_rest before s z.0 in (
        ap₂ (λ (w : ℕ) (ws : List ℕ). w ∷ ws) (row_set s (row_passed before s z.0)) (ap (parameters_said 2 k) q ∙ i.0),
        ap₂ (λ (u : List ℕ) (v : List ℕ). u ++ v) (numbered_entries before s z.0) (ap (numbers_said n k) q ∙ i.1),
      )

-- the parameter rows that were judged, by what they are found to be
module _ (n b : ℕ) (s : List ℕ) where
  abbrev rows_read : ParameterRows
  rows_read = (parameter_rows n b).dec s

  pub rows_numbered : is_numbered (numbers_of_values rows_read) ≡ numbered_test n b s
  unfolding parameter_rows is_numbered
  rows_numbered = by (numbered_test n b s)
    where
      by : (t : Bool) → is_numbered (numbers_of_values (cond t (inr ((numbered_rows n b).dec s)) (inl (many_dec (parameter_row n) b s)))) ≡ t
      by true = refl
      by false = refl

  rows_decoded : first_refusal ((parameter_rows n b).tests s) ≡ 0
      → (parameters_said (fields_of_row (numbered_test n b s)) b s ≡ parameters_of_values rows_read)
      × (numbered_test n b s ≡ true → numbers_said n b s ≡ number_entries n (parameters_of_values rows_read) (numbers_of_values rows_read))
  unfolding parameter_rows numbered_rows number_entries
  rows_decoded e = by (numbered_test n b s) e
    where
      by : (t : Bool) → first_refusal (cond t (chain_tests (numbered_row n) and_its_numbers b [] s) (many_tests (parameter_row n) b s)) ≡ 0
          → let r = cond t (inr (chain_dec (numbered_row n) and_its_numbers b [] s)) (inl (many_dec (parameter_row n) b s)) in
          (parameters_said (fields_of_row t) b s ≡ parameters_of_values r) × (t ≡ true → numbers_said n b s ≡ number_entries n (parameters_of_values r) (numbers_of_values r))
      by true e = let g = numbered_said n b [] s e in (g.0, λ _. g.1)
      by false e = (plain_said n b s e, λ t. absurd (false≢true t))

-- ---- a file

module _ (s : List ℕ) (e : judge s ≡ 0) where
  abbrev rows_passed : Type 0
  rows_passed =
      (first_refusal (many_tests (constant_row (decode s).p (decode s).n) (decode s).a (rows_part s)) ≡ 0)
      × (first_refusal ((parameter_rows (decode s).n (decode s).b).tests (many_rest (constant_row (decode s).p (decode s).n) (decode s).a (rows_part s))) ≡ 0)

  heads_passed : (first_refusal (prime_field.tests s) ≡ 0) × (first_refusal (sizes_field.tests (prime_field.rest s)) ≡ 0)
  unfolding judge closed fields size_fields
  heads_passed =
      let z = then_zero (prime_field.tests s) _ (then_zero (fields.tests s) _ e).0 in
      (z.0, (then_zero (sizes_field.tests (prime_field.rest s)) _ z.1).0)

  rows_pass : rows_passed
  unfolding judge closed fields size_fields row_fields decode rows_part
  rows_pass =
      let z = then_zero (prime_field.tests s) _ (then_zero (fields.tests s) _ e).0 in
      let y = then_zero (sizes_field.tests (prime_field.rest s)) _ z.1 in
      let x = then_zero (many_tests (constant_row (decode s).p (decode s).n) (decode s).a (rows_part s)) _ y.1 in
      (x.0, (then_zero ((parameter_rows (decode s).n (decode s).b).tests (many_rest (constant_row (decode s).p (decode s).n) (decode s).a (rows_part s))) _ x.1).0)

  -- the rows stand behind two fields
  pub rows_said : said_rests 2 s ≡ rows_part s
  unfolding said_rests rows_part prime_field sizes_field
  rows_said =
      let h = heads_passed in
      ap said_rest (field_rest prime_tag prime_body s h.0) ∙ field_rest sizes_tag sizes_body (prime_field.rest s) h.1

  pub constants_decoded : constants_said (decode s).a (rows_part s) ≡ flatten (decode s).constants
  unfolding constants_said decode fields size_fields row_fields rows_part constant_row
  constants_decoded =
      flatten_map entries (said_bodies (decode s).a (rows_part s))
      ∙ ap flatten (many_dec_said constant_tag (constant_body (decode s).p (decode s).n) entries (λ b l. refl) (decode s).a (rows_part s) rows_pass.0)

  -- the parameter rows stand behind the constant rows
  pub parameters_part : List ℕ
  parameters_part = many_rest (constant_row (decode s).p (decode s).n) (decode s).a (rows_part s)

  pub parameters_behind : said_rests (decode s).a (rows_part s) ≡ parameters_part
  unfolding constant_row parameters_part
  parameters_behind = many_rest_said constant_tag (constant_body (decode s).p (decode s).n) (decode s).a (decode s).a (rows_part s) rows_pass.0 (omega arith)

  -- whether they are numbered
  pub numbered_decoded : is_numbered (decode s).numbers ≡ numbered_test (decode s).n (decode s).b parameters_part
  unfolding decode fields size_fields row_fields rows_part parameters_part
  numbered_decoded = rows_numbered (decode s).n (decode s).b parameters_part

  pub parameters_decoded : parameters_said (fields_of_row (is_numbered (decode s).numbers)) (decode s).b (said_rests (decode s).a (rows_part s)) ≡ (decode s).parameters
  unfolding decode fields size_fields row_fields rows_part parameters_part
  parameters_decoded =
      ap₂ (λ (t : Bool) (u : List ℕ). parameters_said (fields_of_row t) (decode s).b u) numbered_decoded parameters_behind ∙ (rows_decoded (decode s).n (decode s).b parameters_part rows_pass.1).0

  pub numbers_decoded : is_numbered (decode s).numbers ≡ true
      → numbers_said (decode s).n (decode s).b (said_rests (decode s).a (rows_part s)) ≡ number_entries (decode s).n (decode s).parameters (decode s).numbers
  unfolding decode fields size_fields row_fields rows_part parameters_part
  numbers_decoded t =
      ap (numbers_said (decode s).n (decode s).b) parameters_behind ∙ (rows_decoded (decode s).n (decode s).b parameters_part rows_pass.1).1 (sym numbered_decoded ∙ t)

  -- constant row i stands behind i rows, and its head says its size
  module _ (i : ℕ) (h : i < (decode s).a) where
    pub row_said : said_rests (2 + i) s ≡ from_row s i
    unfolding from_row constant_row
    row_said =
        said_rests_behind i s ∙ ap (said_rests i) rows_said
        ∙ many_rest_said constant_tag (constant_body (decode s).p (decode s).n) (decode s).a i (rows_part s) rows_pass.0 (omega arith)

    pub row_head : (head_bytes ≤ length (from_row s i)) × (said_length (from_row s i) ≡ 2 * (decode s).n) × (2 * (decode s).n ≤ length (from_row s i) - head_bytes)
    unfolding from_row constant_row
    row_head =
        let u = from_row s i in
        let z = many_at (constant_row (decode s).p (decode s).n) (decode s).a i (rows_part s) rows_pass.0 h in
        let g = head_good constant_tag (2 * (decode s).n) u (then_zero (head_tests constant_tag (2 * (decode s).n) u) _ z).0 in
        (g.0, g.2, g.3)
