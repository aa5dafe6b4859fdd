-- The part handed back by a lookup holds that row of the model. Assumes nothing.
use Rattle.std.specs.Prelude.{ℕ, zero, suc, ◌*◌, ◌-◌, ◌<◌, ◌≡◌, refl, List, [], length, get_or, take, drop}
use Rattle.std.proofs.Common.{sym, ap, ◌∙◌, arith}
use Rattle.format.specs.Refusals.{head_bytes}
use Rattle.format.specs.RefusalLaws.{then_zero, unless_zero, accepted_value}
use Rattle.format.specs.TestLaws.{row_reads}
use Rattle.format.specs.File.Piece.{Piece, many_dec, many_rest, closed}
use Rattle.format.specs.File.Format.{entries, prime_tag, sizes_tag, constant_tag, prime_body, sizes_body, constant_body, prime_field, sizes_field, constant_row, row_fields, size_fields, fields, decode, rows_part, from_row, lookup_refusal, lookup_start, lookup_length, lookup}
use Rattle.format.proofs.Parts.{ends_drop, ends_in, ends_at, field_ends, many_ends}

-- row i of a repetition stands behind i rows
row_at : {A : Type 0} (P : Piece A) (k i : ℕ) (s : List ℕ) (d : A) → i < k → get_or (many_dec P k s) i d ≡ P.dec (many_rest P i s)
row_at P zero i s d h = absurd (omega arith)
row_at P (suc k) zero s d h = refl
row_at P (suc k) (suc i) s d h = row_at P k i (P.rest s) d (omega arith)

pub lookup_is_row : (s : List ℕ) (i : ℕ) → lookup_refusal s i ≡ 0 → entries (lookup s i) ≡ get_or (decode s).constants i []
unfolding lookup lookup_start lookup_length lookup_refusal decode fields size_fields row_fields rows_part from_row constant_row prime_field sizes_field
lookup_is_row s i e =
    let u = from_row s i in
    let row = constant_row (decode s).p (decode s).n in
    let start : lookup_start s i ≡ length s - length (drop head_bytes u) = accepted_value 0 (sym e) refl _ 0 in
    let len : lookup_length s i ≡ 2 * (decode s).n = accepted_value 0 (sym e) refl _ 0 in
    let below : i < (decode s).a = (row_reads i (decode s).a).0 (unless_zero _ _ (then_zero (closed fields s) _ e).1) in
    let rows = ends_in (field_ends sizes_tag sizes_body (prime_field.rest s)) (field_ends prime_tag prime_body s) in
    let ends = ends_in (ends_drop head_bytes u) (ends_in (many_ends row (field_ends constant_tag (constant_body (decode s).p (decode s).n)) i (rows_part s)) rows) in
    ap (λ (k : ℕ). entries (take k (drop (lookup_start s i) s))) len
    ∙ ap (λ (k : ℕ). entries (take (2 * (decode s).n) (drop k s))) start
    ∙ ap (λ (t : List ℕ). entries (take (2 * (decode s).n) t)) (ends_at ends)
    ∙ sym (row_at row (decode s).a i (rows_part s) [] below)
