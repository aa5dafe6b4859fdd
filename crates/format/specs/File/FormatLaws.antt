-- A byte string is accepted if and only if it is the writing of a model of the stated form; reading what was written restores the model;
-- writing what was read restores the bytes. Assumes nothing.
use Rattle.std.specs.Prelude.{ℕ, suc, ◌≤◌, ◌<◌, ◌≡◌, Bool, true, false, ◌&&◌, ◌↔◌, ltb, length, get_or}
use Rattle.std.proofs.Math.Path.{refl, ap}
use Rattle.std.proofs.Common.{sym, ap₂, ◌∙◌, subst, inl, inr, ⊎_elim, le_of_eq, arith}
use Rattle.std.proofs.Math.Option.{Option, none, some, some-injective, some-ne-none}
use mathlib.Core.List.{List, [], ◌∷◌, ◌++◌, append-nil, append_assoc, map, flatten, flat_map, zip, zip_with}
use Rattle.std.proofs.Math.Dec.{eqb}
use Rattle.std.proofs.lemmas.List.{length-map}
use borrow.Author.Tests.{ltb-true, lt-ltb}
use Rattle.counting.specs.Bools.{and_left}
use Rattle.counting.specs.Counts.{#-le}
use Rattle.columns.specs.Columns.{members}
use Rattle.columns.specs.Words.Bytes.{AreBytes}
use Rattle.limits.specs.Limits.{most_columns}
use Rattle.format.specs.Lists.{All}
use Rattle.format.specs.Numbers.{once, parameter_count}
use Rattle.format.specs.NumberLaws.{once_front}
use Rattle.format.specs.ListLaws.{nothing}
use Rattle.format.specs.Refusals.{first_refusal}
use Rattle.format.specs.RefusalLaws.{then_zero, zero_then, unless_zero, zero_unless}
use Rattle.format.specs.TestLaws.{end_reads}
use Rattle.format.specs.File.Piece.{chain_enc, seq, closed}
use Rattle.format.specs.File.Format.{FileModel, ValidNumbers, ValidModel, Values, ParameterRows, Rows, prime_tag, sizes_tag, constant_tag, parameter_tag, number_tag, end_tag, prime_field, sizes_field, constant_row, parameter_row, number_field, numbered_row, and_its_numbers, numbered_rows, numbered_test, parameter_rows, end_field, parameter_values, parameters_of_values, numbers_of_values, row_fields, size_fields, fields, values, of_values, judge, decode, encode}
use Rattle.format.specs.File.PieceLaws.{Law, AllFrom, field_law, many_law, chain_law, seq_law, either_law}
use Rattle.format.specs.File.BodyLaws.{IsPrime, IsSizes, IsConstants, IsParameters, IsNumbers, prime_law, sizes_law, constant_law, parameter_law, number_law, end_law}

-- ---- the parameter rows

-- a numbered row, after the numbers before
abbrev IsNumbered : ℕ → List ℕ → ℕ × List ℕ → Type 0
IsNumbered n before x = IsParameters n x.0 × IsNumbers (parameter_count n x.0) before x.1

abbrev AreParameters : ℕ → ℕ → ParameterRows → Type 0
AreParameters n b =
    ⊎_elim (λ ws. (length ws ≡ b) × All (IsParameters n) ws)
    (λ xs. ((length xs ≡ b) × AllFrom (IsNumbered n) and_its_numbers [] xs) × (0 < b))

ending_law : Law end_field (λ x. Unit {0})
unfolding end_field
ending_law = field_law end_tag end_law

module _ (n : ℕ) (k : n ≤ most_columns) where
  row_law : Law (parameter_row n) (IsParameters n)
  unfolding parameter_row
  row_law = field_law parameter_tag (parameter_law n k)

  numbers_law : (w : ℕ) (before : List ℕ) → Law (number_field (parameter_count n w) before) (IsNumbers (parameter_count n w) before)
  unfolding number_field parameter_count
  numbers_law w before = field_law number_tag (number_law (parameter_count n w) before (omega (arith, #-le n (members w))))

  numbered_law : (before : List ℕ) → Law (numbered_row n before) (IsNumbered n before)
  numbered_law before = seq_law row_law (λ w _. numbers_law w before)

  -- the tag of the field behind the first row
  tag_behind : (b w : ℕ) (t : List ℕ) → 0 < b → IsParameters n w → numbered_test n b ((parameter_row n).enc w ++ t) ≡ eqb (get_or t 0 0) number_tag
  unfolding numbered_test
  tag_behind b w t l v =
      ap (λ (x : Bool). x && eqb (get_or ((parameter_row n).rest ((parameter_row n).enc w ++ t)) 0 0) number_tag) (lt-ltb 0 b l)
      ∙ ap (λ (u : List ℕ). eqb (get_or u 0 0) number_tag) (row_law.back w t v).2

  some_row : (b : ℕ) (s : List ℕ) → numbered_test n b s ≡ true → 0 < b
  unfolding numbered_test
  some_row b s e = ltb-true 0 b (and_left (ltb 0 b) _ e)

  no_rows : (s : List ℕ) → numbered_test n 0 s ≡ false
  unfolding numbered_test
  no_rows s = refl

  unnumbered_seen : (b : ℕ) (ws : List ℕ) (t : List ℕ) → (length ws ≡ b) × All (IsParameters n) ws → numbered_test n b (flat_map (parameter_row n).enc ws ++ (end_field.enc tt ++ t)) ≡ false
  unfolding flat_map parameter_row end_field
  unnumbered_seen b [] t v = ap (λ (j : ℕ). numbered_test n j (end_field.enc tt ++ t)) (sym v.0) ∙ no_rows _
  unnumbered_seen b (w ∷ []) t v = ap (numbered_test n b) (append_assoc ((parameter_row n).enc w) [] _) ∙ tag_behind b w (end_field.enc tt ++ t) (omega (arith, v.0)) v.1.0
  unnumbered_seen b (w ∷ x ∷ ws) t v =
      ap (numbered_test n b) (append_assoc ((parameter_row n).enc w) (flat_map (parameter_row n).enc (x ∷ ws)) _)
      ∙ tag_behind b w (flat_map (parameter_row n).enc (x ∷ ws) ++ (end_field.enc tt ++ t)) (omega (arith, v.0)) v.1.0

  numbered_seen : (b : ℕ) (xs : List (ℕ × List ℕ)) (t : List ℕ) → (length xs ≡ b) × AllFrom (IsNumbered n) and_its_numbers [] xs → 0 < b
      → numbered_test n b (chain_enc (numbered_row n) and_its_numbers [] xs ++ t) ≡ true
  unfolding number_field
  numbered_seen b [] t v l = absurd (omega (arith, v.0))
  numbered_seen b (x ∷ xs) t v l =
      let row = (parameter_row n).enc x.0 in
      let field = (number_field (parameter_count n x.0) []).enc x.1 in
      let others = chain_enc (numbered_row n) and_its_numbers (and_its_numbers [] x) xs in
      ap (numbered_test n b) (append_assoc (row ++ field) others t ∙ append_assoc row field (others ++ t)) ∙ tag_behind b x.0 (field ++ (others ++ t)) l v.1.0.0

  parameters_law : (b : ℕ) → Law (seq (parameter_rows n b) (λ _. end_field)) (λ x. AreParameters n b x.0 × Unit {0})
  unfolding parameter_rows numbered_rows
  parameters_law b =
      either_law (numbered_test n b) (many_law b row_law) (chain_law b [] and_its_numbers numbered_law) ending_law (0 < b) (some_row b)
      (λ ws z t v _. unnumbered_seen b ws t v)
      (λ xs z t v l _. numbered_seen b xs (end_field.enc z ++ t) v l)

abbrev AreRows : ℕ → ℕ × ℕ × ℕ → Rows → Type 0
AreRows p z x =
    ((length x.0 ≡ z.1) × All (IsConstants p z.0) x.0)
    × (AreParameters z.0 z.2 x.1.0 × Unit {0})

rows_law : (p : ℕ) (z : ℕ × ℕ × ℕ) → IsSizes z → Law (row_fields p z) (AreRows p z)
unfolding row_fields constant_row
rows_law p z v =
    seq_law (many_law z.1 (field_law constant_tag (constant_law p z.0 v.1)))
    (λ _ _. parameters_law z.0 v.1 z.2)

abbrev AreValues : ℕ × ((ℕ × ℕ × ℕ) × Rows) → Type 0
AreValues x = IsPrime x.0 × (IsSizes x.1.0 × AreRows x.0 x.1.0 x.1.1)

fields_law : Law fields AreValues
unfolding fields size_fields prime_field sizes_field
fields_law = seq_law (field_law prime_tag prime_law) (λ p _. seq_law (field_law sizes_tag sizes_law) (λ z v. rows_law p z v))

-- ---- numbers of rows, and rows with their numbers

numbers_valid : (n : ℕ) (before : List ℕ) (xs : List (ℕ × List ℕ)) → once before ≡ true → AllFrom (IsNumbered n) and_its_numbers before xs
    → All (IsParameters n) (map (λ x. x.0) xs) × All (λ x. (length x.1 ≡ parameter_count n x.0) × All (λ k. k < 65536) x.1) xs × (once (before ++ flatten (map (λ x. x.1) xs)) ≡ true)
unfolding flatten
numbers_valid n before [] e v = (tt, tt, ap once (append-nil before) ∙ e)
numbers_valid n before (x ∷ xs) e v =
    let i = numbers_valid n (before ++ x.1) xs v.0.1.2 v.1 in
    ((v.0.0, i.0), ((v.0.1.0, v.0.1.1), i.1), ap once (sym (append_assoc before x.1 _)) ∙ i.2)

numbers_values : (n : ℕ) (before ws : List ℕ) (kss : List (List ℕ)) → length kss ≡ length ws → All (IsParameters n) ws
    → All (λ x. (length x.1 ≡ parameter_count n x.0) × All (λ k. k < 65536) x.1) (zip ws kss) → once (before ++ flatten kss) ≡ true
    → AllFrom (IsNumbered n) and_its_numbers before (zip ws kss)
unfolding flatten zip zip_with
numbers_values n before [] kss l v u e = tt
numbers_values n before (w ∷ ws) [] l v u e = absurd (omega arith)
numbers_values n before (w ∷ ws) (ks ∷ kss) l v u e =
    let q : once ((before ++ ks) ++ flatten kss) ≡ true = ap once (append_assoc before ks (flatten kss)) ∙ e in
    ((v.0, (u.0.0, u.0.1, once_front (before ++ ks) (flatten kss) q)), numbers_values n (before ++ ks) ws kss (omega arith) v.1 u.1 q)

zip_length : {A B : Type 0} (xs : List A) (ys : List B) → length ys ≡ length xs → length (zip xs ys) ≡ length xs
unfolding zip zip_with
zip_length [] ys l = refl
zip_length (x ∷ xs) [] l = absurd (omega arith)
zip_length (x ∷ xs) (y ∷ ys) l = ap suc (zip_length xs ys (omega arith))

zip_firsts : {A B : Type 0} (xs : List A) (ys : List B) → length ys ≡ length xs → map (λ z. z.0) (zip xs ys) ≡ xs
unfolding zip zip_with
zip_firsts [] ys l = refl
zip_firsts (x ∷ xs) [] l = absurd (omega arith)
zip_firsts (x ∷ xs) (y ∷ ys) l = ap (λ t. x ∷ t) (zip_firsts xs ys (omega arith))

zip_seconds : {A B : Type 0} (xs : List A) (ys : List B) → length ys ≡ length xs → map (λ z. z.1) (zip xs ys) ≡ ys
unfolding zip zip_with
zip_seconds [] [] l = refl
zip_seconds [] (y ∷ ys) l = absurd (omega arith)
zip_seconds (x ∷ xs) [] l = absurd (omega arith)
zip_seconds (x ∷ xs) (y ∷ ys) l = ap (λ t. y ∷ t) (zip_seconds xs ys (omega arith))

zip_again : {A B : Type 0} (xs : List (A × B)) → zip (map (λ z. z.0) xs) (map (λ z. z.1) xs) ≡ xs
unfolding zip zip_with
zip_again [] = refl
zip_again (x ∷ xs) = ap (λ t. x ∷ t) (zip_again xs)

-- ---- the values of a model

parameters_valid : (n b : ℕ) (r : ParameterRows) → AreParameters n b r
    → (length (parameters_of_values r) ≡ b) × All (IsParameters n) (parameters_of_values r) × ((kss : List (List ℕ)) → numbers_of_values r ≡ some kss → ValidNumbers n (parameters_of_values r) kss)
unfolding once
parameters_valid n b (inl ws) v = (v.0, v.1, (λ kss e. absurd (some-ne-none kss (sym e))))
parameters_valid n b (inr xs) v =
    let ws = map (λ x. x.0) xs in
    let own = map (λ x. x.1) xs in
    let g = numbers_valid n [] xs refl v.0.1 in
    let l : length ws ≡ b = length-map xs (λ x. x.0) ∙ v.0.0 in (
      l,
      g.0,
      (λ kss e. subst (ValidNumbers n ws) (some-injective own kss e) (record {
        some_row = rw l v.1;
        number_rows = length-map xs (λ x. x.1) ∙ sym (length-map xs (λ x. x.0));
        rows_numbered = subst (All (λ x. (length x.1 ≡ parameter_count n x.0) × All (λ k. k < 65536) x.1)) (sym (zip_again xs)) g.1;
        all_once = g.2;
      })),
    )

values_valid : (n b : ℕ) (ws : List ℕ) (ns : Option (List (List ℕ))) → length ws ≡ b → All (IsParameters n) ws → ((kss : List (List ℕ)) → ns ≡ some kss → ValidNumbers n ws kss)
    → AreParameters n b (parameter_values ws ns)
values_valid n b ws none l v u = (l, v)
values_valid n b ws (some kss) l v u =
    let g = u kss refl in
    ((zip_length ws kss g.number_rows ∙ l, numbers_values n [] ws kss g.number_rows v g.rows_numbered g.all_once), rw l at g.some_row)

-- the values of a model of the stated form are those of its fields, and back
values_again : (r : ParameterRows) → parameter_values (parameters_of_values r) (numbers_of_values r) ≡ r
values_again (inl ws) = refl
values_again (inr xs) = ap inr (zip_again xs)

parameters_again : (ws : List ℕ) (ns : Option (List (List ℕ))) → ((kss : List (List ℕ)) → ns ≡ some kss → length kss ≡ length ws)
    → (parameters_of_values (parameter_values ws ns) ≡ ws) × (numbers_of_values (parameter_values ws ns) ≡ ns)
parameters_again ws none l = (refl, refl)
parameters_again ws (some kss) l = (zip_firsts ws kss (l kss refl), ap some (zip_seconds ws kss (l kss refl)))

valid : (x : Values) → AreValues x → ValidModel (of_values x)
valid x v =
    let q = parameters_valid x.1.0.0 x.1.0.2 x.1.1.1.0 v.1.1.1.0 in
    record {
      prime = v.0.1;
      p_most = v.0.0;
      n_least = v.1.0.0;
      n_most = v.1.0.1;
      a_most = v.1.0.2;
      b_most = v.1.0.3;
      constant_rows = v.1.1.0.0;
      constants_below = v.1.1.0.1;
      parameter_rows = q.0;
      parameters_within = q.1;
      numbers_are = q.2;
    }

valid_values : (m : FileModel) → ValidModel m → AreValues (values m)
valid_values m v =
    ((v.p_most, v.prime), ((v.n_least, v.n_most, v.a_most, v.b_most), ((v.constant_rows, v.constants_below), (values_valid m.n m.b m.parameters m.numbers v.parameter_rows v.parameters_within v.numbers_are, tt))))

of_values_again : (m : FileModel) → ValidModel m → of_values (values m) ≡ m
of_values_again m v =
    let q = parameters_again m.parameters m.numbers (λ kss e. (v.numbers_are kss e).number_rows) in
    ap₂ (λ (ws : List ℕ) (ns : Option (List (List ℕ))). record { p = m.p; n = m.n; a = m.a; b = m.b; constants = m.constants; parameters = ws; numbers = ns }) q.0 q.1

values_of_again : (x : Values) → values (of_values x) ≡ x
values_of_again x = ap (λ (r : ParameterRows). (x.0, (x.1.0, (x.1.1.0, (r, tt))))) (values_again x.1.1.1.0)

-- ---- the theorems

pub decoded_valid : (s : List ℕ) → AreBytes s → judge s ≡ 0 → ValidModel (decode s)
unfolding judge decode closed
decoded_valid s h e = valid (fields.dec s) (fields_law.good s h (then_zero (fields.tests s) _ e).0).0

-- writing what was read restores the bytes
pub encode_decode : (s : List ℕ) → AreBytes s → judge s ≡ 0 → encode (decode s) ≡ s
unfolding judge decode encode closed
encode_decode s h e =
    let z = then_zero (fields.tests s) _ e in
    let g = fields_law.good s h z.0 in
    let r : fields.rest s ≡ [] = nothing _ (le_of_eq ((end_reads _).0 (unless_zero _ _ z.1))) in
    ap fields.enc (values_of_again (fields.dec s)) ∙ sym (append-nil _) ∙ ap (λ (t : List ℕ). fields.enc (fields.dec s) ++ t) (sym r) ∙ g.1

encoded : (m : FileModel) → ValidModel m → (first_refusal (fields.tests (encode m)) ≡ 0) × (fields.dec (encode m) ≡ values m) × (fields.rest (encode m) ≡ [])
unfolding encode
encoded m v =
    subst (λ (s : List ℕ). (first_refusal (fields.tests s) ≡ 0) × (fields.dec s ≡ values m) × (fields.rest s ≡ [])) (append-nil (fields.enc (values m)))
    (fields_law.back (values m) [] (valid_values m v))

-- reading what was written restores the model
pub decode_encode : (m : FileModel) → ValidModel m → decode (encode m) ≡ m
unfolding decode
decode_encode m v = ap of_values (encoded m v).1 ∙ of_values_again m v

pub encoded_accepted : (m : FileModel) → ValidModel m → judge (encode m) ≡ 0
unfolding judge closed
encoded_accepted m v =
    let g = encoded m v in
    zero_then _ _ g.0 (zero_unless _ _ ((end_reads (fields.rest (encode m))).1 (ap length g.2)))

-- a byte string is accepted if and only if it is the writing of a model of the stated form
pub accepted_iff : (s : List ℕ) → AreBytes s → (judge s ≡ 0) ↔ ((m : FileModel) × ValidModel m × (encode m ≡ s))
accepted_iff s h = ((λ e. (decode s, decoded_valid s h e, encode_decode s h e)), (λ w. rw w.2 at (encoded_accepted w.0 w.1)))
