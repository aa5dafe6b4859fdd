-- `fields::put_file` meets its contract: field after field, each into what is left of the area. Assumes nothing.
use Rattle.std.specs.Prelude.{ℕ, ◌+◌, ◌-◌, ◌≤◌, ◌≡◌, List, [], ◌∷◌, ◌++◌, length, take, drop}
use Rattle.std.proofs.Common.{arith, refl, ap, ◌∙◌, length-append}
use mathlib.Core.List.{flat_map}
use Rattle.columns.specs.Bytes.{bytes_of}
use Rattle.models.specs.declared.LentModel.{LentModel}
use Rattle.models.specs.Lent.{constants_lent, rows_lent, numbers_lent}
use Rattle.format.specs.Lists.{rows_of}
use Rattle.format.specs.OverLaws.{Wrote}
use Rattle.format.specs.File.Piece.{field_bytes}
use Rattle.format.specs.File.Format.{prime_tag, sizes_tag, end_tag}
use Rattle.format.specs.File.Steps.{constant_bytes, rows_bytes, Put}
use Rattle.format.proofs.Puts.{first_put, wrote_put, put_all, room_left}
use Rattle.writer.specs.Putting.{file_of}
use Rattle.writer.proofs.Rows.{handed_over_fields}
use Rattle.writer.proofs.fields.put_file.Goals as goal

-- the fields of a model's file
module _ (m : LentModel) where
  abbrev prime : List ℕ
  prime = field_bytes prime_tag 2 (bytes_of 2 m.p)

  abbrev sizes : List ℕ
  sizes = field_bytes sizes_tag 3 (m.n ∷ m.a ∷ m.b ∷ [])

  abbrev constants : List ℕ
  constants = flat_map (constant_bytes m.n) (rows_of m.n m.a (constants_lent m))

  abbrev rows : List ℕ
  rows = rows_bytes m.n (take m.b (rows_lent m)) (numbers_lent m)

  abbrev end : List ℕ
  end = field_bytes end_tag 0 []

  all_fields : file_of m ≡ prime ++ (sizes ++ (constants ++ (rows ++ end)))
  all_fields = handed_over_fields m.p m.n m.a m.b (constants_lent m) (rows_lent m) (numbers_lent m)

  prime_fits : (k : ℕ) → length (file_of m) ≤ k → length prime ≤ k
  prime_fits k h = omega (arith, ap length all_fields ∙ length-append prime (sizes ++ (constants ++ (rows ++ end))))

  -- an area whose part behind place k was lent and came back as e; and that part
  abbrev back : List ℕ → ℕ → List ℕ → List ℕ
  back d k e = take k d ++ (e ++ drop (length d - k) (drop k d))

  abbrev left : List ℕ → ℕ → List ℕ
  left d k = take (length d - k) (drop k d)

  -- what is written, and what is still to be written, behind each field
  module _ {out d₁ : List ℕ} {k₁ : ℕ} (h : length (file_of m) ≤ length out) (f₁ : Put prime out d₁ k₁) where
    to_sizes : Wrote (file_of m) (sizes ++ (constants ++ (rows ++ end))) out d₁ k₁
    to_sizes = first_put (file_of m) prime _ all_fields h f₁

    module _ {e₂ : List ℕ} {k₂ : ℕ} (f₂ : Put sizes (left d₁ k₁) e₂ k₂) where
      abbrev d₂ : List ℕ
      d₂ = back d₁ k₁ e₂

      to_constants : Wrote (file_of m) (constants ++ (rows ++ end)) out d₂ (k₁ + k₂)
      to_constants = wrote_put sizes _ _ to_sizes refl f₂

      module _ {e₃ : List ℕ} {k₃ : ℕ} (f₃ : Put constants (left d₂ (k₁ + k₂)) e₃ k₃) where
        abbrev d₃ : List ℕ
        d₃ = back d₂ (k₁ + k₂) e₃

        to_rows : Wrote (file_of m) (rows ++ end) out d₃ (k₁ + k₂ + k₃)
        to_rows = wrote_put constants _ _ to_constants refl f₃

        module _ {e₄ : List ℕ} {k₄ : ℕ} (f₄ : Put rows (left d₃ (k₁ + k₂ + k₃)) e₄ k₄) where
          abbrev d₄ : List ℕ
          d₄ = back d₃ (k₁ + k₂ + k₃) e₄

          to_end : Wrote (file_of m) end out d₄ (k₁ + k₂ + k₃ + k₄)
          to_end = wrote_put rows _ _ to_rows refl f₄

          all_put : {e₅ : List ℕ} {k₅ : ℕ} → Put end (left d₄ (k₁ + k₂ + k₃ + k₄)) e₅ k₅ → Wrote (file_of m) [] out (back d₄ (k₁ + k₂ + k₃ + k₄) e₅) (k₁ + k₂ + k₃ + k₄ + k₅)
          all_put f₅ = wrote_put end [] _ to_end refl f₅

pub put_prime-at-requires : goal.put_prime-at-requires
put_prime-at-requires c = prime_fits c.args.model.now _ c.requires.1

pub slice_bounds-put_sizes-count : goal.slice_bounds-put_sizes-count
slice_bounds-put_sizes-count c = omega (arith, (to_sizes c.args.model.now c.requires.1 c.put_prime-at.ensures).room)

pub slice_bounds-put_sizes-start : goal.slice_bounds-put_sizes-start
slice_bounds-put_sizes-start c = omega (arith, (to_sizes c.args.model.now c.requires.1 c.put_prime-at.ensures).room)

pub put_sizes-at-requires : goal.put_sizes-at-requires
put_sizes-at-requires c = (room_left (sizes c.args.model.now) _ (to_sizes c.args.model.now c.requires.1 c.put_prime-at.ensures) refl).1

pub slice_bounds-put_constant_rows-count : goal.slice_bounds-put_constant_rows-count
slice_bounds-put_constant_rows-count c = omega (arith, (to_constants c.args.model.now c.requires.1 c.put_prime-at.ensures c.put_sizes-at.ensures).room)

pub slice_bounds-put_constant_rows-start : goal.slice_bounds-put_constant_rows-start
slice_bounds-put_constant_rows-start c = omega (arith, (to_constants c.args.model.now c.requires.1 c.put_prime-at.ensures c.put_sizes-at.ensures).room)

pub put_constant_rows-at-requires : goal.put_constant_rows-at-requires
put_constant_rows-at-requires c = let h = c.requires.0 in (h.n_least, h.n_most, h.constants_lent, (room_left (constants c.args.model.now) _ (to_constants c.args.model.now c.requires.1 c.put_prime-at.ensures c.put_sizes-at.ensures) refl).1)

pub slice_bounds-put_parameter_rows-count : goal.slice_bounds-put_parameter_rows-count
slice_bounds-put_parameter_rows-count c = omega (arith, (to_rows c.args.model.now c.requires.1 c.put_prime-at.ensures c.put_sizes-at.ensures c.put_constant_rows-at.ensures).room)

pub slice_bounds-put_parameter_rows-start : goal.slice_bounds-put_parameter_rows-start
slice_bounds-put_parameter_rows-start c = omega (arith, (to_rows c.args.model.now c.requires.1 c.put_prime-at.ensures c.put_sizes-at.ensures c.put_constant_rows-at.ensures).room)

pub put_parameter_rows-at-requires : goal.put_parameter_rows-at-requires
put_parameter_rows-at-requires c = let h = c.requires.0 in (h.n_most, h.b_most, h.parameters_lent, h.parameters_within, h.numbers_lent, (room_left (rows c.args.model.now) _ (to_rows c.args.model.now c.requires.1 c.put_prime-at.ensures c.put_sizes-at.ensures c.put_constant_rows-at.ensures) refl).1)

pub overflow_add-at-2 : goal.overflow_add-at-2
overflow_add-at-2 c = let w = to_rows c.args.model.now c.requires.1 c.put_prime-at.ensures c.put_sizes-at.ensures c.put_constant_rows-at.ensures in omega (arith, w.room, w.same, c.well_formed)

pub slice_bounds-put_end-count : goal.slice_bounds-put_end-count
slice_bounds-put_end-count c = omega (arith, (to_end c.args.model.now c.requires.1 c.put_prime-at.ensures c.put_sizes-at.ensures c.put_constant_rows-at.ensures c.put_parameter_rows-at.ensures).room)

pub slice_bounds-put_end-start : goal.slice_bounds-put_end-start
slice_bounds-put_end-start c = omega (arith, (to_end c.args.model.now c.requires.1 c.put_prime-at.ensures c.put_sizes-at.ensures c.put_constant_rows-at.ensures c.put_parameter_rows-at.ensures).room)

pub put_end-at-requires : goal.put_end-at-requires
put_end-at-requires c = (room_left (end c.args.model.now) _ (to_end c.args.model.now c.requires.1 c.put_prime-at.ensures c.put_sizes-at.ensures c.put_constant_rows-at.ensures c.put_parameter_rows-at.ensures) refl).1

pub overflow_add-at-3 : goal.overflow_add-at-3
overflow_add-at-3 c = let w = to_end c.args.model.now c.requires.1 c.put_prime-at.ensures c.put_sizes-at.ensures c.put_constant_rows-at.ensures c.put_parameter_rows-at.ensures in omega (arith, w.room, w.same, c.well_formed)

pub overflow_add-at-4 : goal.overflow_add-at-4
overflow_add-at-4 c = let w = all_put c.args.model.now c.requires.1 c.put_prime-at.ensures c.put_sizes-at.ensures c.put_constant_rows-at.ensures c.put_parameter_rows-at.ensures c.put_end-at.ensures in omega (arith, w.room, w.same, c.well_formed)

pub returns : goal.returns
returns c = put_all (all_put c.args.model.now c.requires.1 c.put_prime-at.ensures c.put_sizes-at.ensures c.put_constant_rows-at.ensures c.put_parameter_rows-at.ensures c.put_end-at.ensures) refl
