-- What follows a piece is the end of the list in which it stands, so that its length says where it starts. Assumes nothing.
use Prim.Native.Nat.{ℕ, zero, suc, ◌+◌, ◌-◌, ◌≤◌}
use mathlib.Core.Path.{◌≡◌, refl, sym, ap, ◌∙◌}
use mathlib.Core.List.{List, [], ◌∷◌}
use native.Mathlib.Omega.{arith}
use denote.Ref.{Bor}
use lib.ListN.{length, take, drop, length-drop}
use lib.Seq.{drop-drop, drop-nil}
use Rattle.format.specs.ListLaws.{tail_part}
use Rattle.format.specs.Refusals.{head_bytes, said_length}
use mathlib.Core.Bool.{Bool, true, false, cond}
use Rattle.format.specs.Numbers.{parameter_count}
use Rattle.format.specs.File.Format.{parameter_tag, number_tag, parameter_body, number_body, parameter_row, number_field, numbered_row, and_its_numbers, numbered_rows, numbered_test, parameter_rows}
use Rattle.format.specs.File.Piece.{Body, Piece, field, many_rest, chain_rest, said_rest, said_rests, PartAt, LastPart}

-- u is what s holds from some place on
pub record Ends (u s : List ℕ) : Type 0 where
  pub from : ℕ
  pub is_drop : u ≡ drop from s

pub ends_drop : (k : ℕ) (s : List ℕ) → Ends (drop k s) s
ends_drop k s = record { from = k; is_drop = refl }

pub ends_in : {u t s : List ℕ} → Ends u t → Ends t s → Ends u s
ends_in {u} {t} {s} f g = record { from = g.from + f.from; is_drop = f.is_drop ∙ ap (drop f.from) g.is_drop ∙ drop-drop f.from g.from s }

pub ends_within : {u s : List ℕ} → Ends u s → length u ≤ length s
ends_within {u} {s} f = let l = ap length f.is_drop ∙ length-drop f.from s in omega arith

-- it stands where its length says
cut : (j : ℕ) (s : List ℕ) → drop (length s - (length s - j)) s ≡ drop j s
cut zero s = let q : length s - (length s - 0) ≡ 0 = omega arith in rw q
cut (suc j) [] = drop-nil (0 - (0 - suc j))
cut (suc j) (x ∷ s) = let q : suc (length s) - (suc (length s) - suc j) ≡ suc (length s - (length s - j)) = omega arith in rw q (cut j s)

pub ends_at : {u s : List ℕ} → Ends u s → drop (length s - length u) s ≡ u
ends_at {u} {s} f =
    let l : length u ≡ length s - f.from = ap length f.is_drop ∙ length-drop f.from s in
    rw l (cut f.from s ∙ sym f.is_drop)

-- the part that a caller goes on with, by how many bytes are left
pub left_part : {u s : List ℕ} {left : ℕ} → Ends u s → left ≡ length u → take (length s - (length s - left)) (drop (length s - left) s) ≡ u
left_part {u} {s} {left} f e = tail_part (length s - left) s ∙ ap (λ (k : ℕ). drop (length s - k) s) e ∙ ends_at f

-- ---- what follows a field, a repetition, and fields by their heads

pub field_ends : {A : Type 0} (tag : ℕ) (B : Body A) (s : List ℕ) → Ends ((field tag B).rest s) s
field_ends tag B s = ends_in (ends_drop B.size (drop head_bytes s)) (ends_drop head_bytes s)

pub many_ends : {A : Type 0} (P : Piece A) → ((s : List ℕ) → Ends (P.rest s) s) → (k : ℕ) (s : List ℕ) → Ends (many_rest P k s) s
many_ends P h zero s = ends_drop 0 s
many_ends P h (suc k) s = ends_in (many_ends P h k (P.rest s)) (h s)

pub chain_ends : {S A : Type 0} (P : S → Piece A) (step : S → A → S) → ((x : S) (s : List ℕ) → Ends ((P x).rest s) s) → (k : ℕ) (x : S) (s : List ℕ) → Ends (chain_rest P step k x s) s
chain_ends P step h zero x s = ends_drop 0 s
chain_ends P step h (suc k) x s = ends_in (chain_ends P step h k (step x ((P x).dec s)) ((P x).rest s)) (h x s)

pub said_ends : (s : List ℕ) → Ends (said_rest s) s
unfolding said_rest
said_ends s = ends_in (ends_drop (said_length s) (drop head_bytes s)) (ends_drop head_bytes s)

pub said_rests_ends : (k : ℕ) (s : List ℕ) → Ends (said_rests k s) s
unfolding said_rests
said_rests_ends zero s = ends_drop 0 s
said_rests_ends (suc k) s = ends_in (said_rests_ends k (said_rest s)) (said_ends s)

-- how long a front is
pub front_length : (k : ℕ) (s : List ℕ) → length (take k s) ≡ length s - (length s - k)
front_length zero s = omega arith
front_length (suc k) [] = omega arith
front_length (suc k) (x ∷ s) = let i = front_length k s in omega arith

-- ---- a last part, as it lies in the bytes lent

pub part_whole : (s : Bor (List ℕ)) → LastPart s.now s s
part_whole s = record { bytes_are = refl; same_area = refl; start_is = omega arith; length_is = refl }

-- what a last part holds from place k on is a last part
pub part_next : {u holds : List ℕ} {lent m r : Bor (List ℕ)} → LastPart u lent m → Ends u lent.now → (k : ℕ) → k ≤ length m.now → holds ≡ drop k u
    → r.now ≡ take (length m.now - k) (drop k m.now) → r.ref_ptr.0 ≡ m.ref_ptr.0 → r.ref_ptr.1 ≡ k + m.ref_ptr.1 → LastPart holds lent r
part_next {u} {holds} {lent} {m} {r} p f k h e q area start =
    let b : r.now ≡ holds = q ∙ tail_part k m.now ∙ ap (drop k) p.bytes_are ∙ sym e in
    let l : length holds ≡ length u - k = ap length e ∙ length-drop k u in
    let w = ends_within f in
    let j = p.length_is in
    record { bytes_are = b; same_area = area ∙ p.same_area; start_is = omega (arith, p.start_is); length_is = ap length b }

-- a front of a part is a part that starts there
pub part_front : {start : ℕ} {u holds : List ℕ} {lent m r : Bor (List ℕ)} → PartAt start u lent m → r.now ≡ holds → r.ref_ptr.0 ≡ m.ref_ptr.0 → r.ref_ptr.1 ≡ m.ref_ptr.1 → PartAt start holds lent r
part_front p e area start = record { bytes_are = e; same_area = area ∙ p.same_area; start_is = start ∙ p.start_is; length_is = ap length e }

-- what follows parameter rows, numbered or not
module _ (n : ℕ) where
  pub row_ends : (s : List ℕ) → Ends ((parameter_row n).rest s) s
  unfolding parameter_row
  row_ends s = field_ends parameter_tag (parameter_body n) s

  pub numbered_ends : (before s : List ℕ) → Ends ((numbered_row n before).rest s) s
  unfolding number_field
  numbered_ends before s = ends_in (field_ends number_tag (number_body (parameter_count n ((parameter_row n).dec s)) before) ((parameter_row n).rest s)) (row_ends s)

  pub parameter_rows_ends : (b : ℕ) (s : List ℕ) → Ends ((parameter_rows n b).rest s) s
  unfolding parameter_rows numbered_rows
  parameter_rows_ends b s = by (numbered_test n b s)
    where
      by : (t : Bool) → Ends (cond t (chain_rest (numbered_row n) and_its_numbers b [] s) (many_rest (parameter_row n) b s)) s
      by true = chain_ends (numbered_row n) and_its_numbers numbered_ends b [] s
      by false = many_ends (parameter_row n) row_ends b s
