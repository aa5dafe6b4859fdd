-- A constant row that is looked up: its refusal, and where it lies in the file. Assumes nothing.
use Prim.Native.Nat.{ℕ, ◌+◌, ◌-◌, ◌≤◌, ◌<◌}
use mathlib.Core.Path.{◌≡◌, refl, sym, ap, ◌∙◌}
use mathlib.Core.Logic.{◌≢◌}
use mathlib.Core.List.{List}
use native.Mathlib.Omega.{arith}
use lib.ListN.{length, take, drop, length-drop}
use borrow.Author.Tests.{lt-ltb, le-ltb}
use mathlib.Core.Bool.{true, false, false≢true}
use Rattle.std.specs.Prelude.{Result, Ok, Err}
use Rattle.std.specs.Result.{is_err}
use Rattle.format.specs.declared.refusals.Refusal.{Refusal}
use Rattle.format.specs.Refused.{refusal_of}
use Rattle.loader.proofs.Reading.{}
use Rattle.format.proofs.Refused.{refusal_some}
use Rattle.format.specs.Refusals.{number_of, row_beyond, head_bytes, said_length, row_test}
use Rattle.format.specs.RefusalLaws.{first_fails, first_passes, first_none, then_refused, then_passed, then_zero, unless_zero, where_refused, accepted_value}
use Rattle.format.specs.TestLaws.{row_reads}
use Rattle.format.specs.File.Piece.{closed, said_rests}
use Rattle.format.specs.File.Format.{fields, judge, decode, from_row, lookup_refusal, lookup_start, lookup_length, lookup}
use Rattle.format.proofs.Parts.{ends_within, said_rests_ends}
use Rattle.format.proofs.Walking.{row_said, row_head}

-- ---- the refusal

pub lookup_refused : (s : List ℕ) (i r : ℕ) → r ≡ judge s → r ≢ 0 → r ≡ lookup_refusal s i
unfolding lookup_refusal judge
lookup_refused s i r e h = then_refused (closed fields s) _ r e h

pub lookup_beyond : (s : List ℕ) (i : ℕ) → judge s ≡ 0 → (decode s).a ≤ i → number_of row_beyond ≡ lookup_refusal s i
unfolding lookup_refusal judge row_test
lookup_beyond s i e h = then_passed (closed fields s) _ _ e (first_fails _ _ _ (le-ltb _ _ h))

pub lookup_passed : (s : List ℕ) (i : ℕ) → judge s ≡ 0 → i < (decode s).a → 0 ≡ lookup_refusal s i
unfolding lookup_refusal judge row_test
lookup_passed s i e h = then_passed (closed fields s) _ 0 e (first_passes _ _ _ _ (lt-ltb _ _ h) first_none)

pub lookup_accepted : (s : List ℕ) (i : ℕ) → lookup_refusal s i ≡ 0 → (judge s ≡ 0) × (i < (decode s).a)
unfolding lookup_refusal judge
lookup_accepted s i e = let z = then_zero (closed fields s) _ e in (z.0, (row_reads i (decode s).a).0 (unless_zero _ _ z.1))

-- nothing is refused where something is given
pub ok_given : {A : Type 0} (r : Result A Refusal) → is_err r ≡ false → refusal_of r ≡ 0
ok_given (Ok x) e = refl
ok_given (Err x) e = absurd (false≢true (sym e))

pub err_given : {A : Type 0} (r : Result A Refusal) → is_err r ≡ true → refusal_of r ≢ 0
err_given (Ok x) e = absurd (false≢true e)
err_given (Err x) e = refusal_some x

-- ---- what is handed back

module _ (s : List ℕ) (i r : ℕ) (e : r ≡ lookup_refusal s i) where
  pub lookup_none : r ≢ 0 → (lookup_start s i ≡ 0) × (lookup_length s i ≡ 0)
  unfolding lookup_start lookup_length
  lookup_none h = (where_refused r e h _ 0, where_refused r e h _ 0)

  module _ (z : r ≡ 0) where
    -- by the number of bytes from the row on, and the length that its head says
    pub lookup_place : (left size : ℕ) → left ≡ length (said_rests (2 + i) s) → size ≡ said_length (said_rests (2 + i) s)
        → (lookup_start s i ≡ length s - left + head_bytes) × (lookup_length s i ≡ size) × (head_bytes + size ≤ left) × (left ≤ length s)
    unfolding lookup_start lookup_length
    lookup_place left size f g =
        let a = lookup_accepted s i (sym e ∙ z) in
        let u = from_row s i in
        let at = row_said s a.0 i a.1 in
        let h = row_head s a.0 i a.1 in
        let l : left ≡ length u = f ∙ ap length at in
        let k : size ≡ said_length u = g ∙ ap said_length at in
        let w : length (said_rests (2 + i) s) ≤ length s = ends_within (said_rests_ends (2 + i) s) in
        let start : length s - length (drop head_bytes u) ≡ length s - left + head_bytes = rw length-drop (omega arith) in
        (accepted_value r e z _ 0 ∙ start, accepted_value r e z _ 0 ∙ sym h.1 ∙ sym k, omega arith, omega arith)

-- the part at that place is what is looked up
pub lookup_part : (s : List ℕ) (i at len : ℕ) → lookup_start s i ≡ at → lookup_length s i ≡ len → take len (drop at s) ≡ lookup s i
unfolding lookup
lookup_part s i at len p q = rw (p, q) refl
