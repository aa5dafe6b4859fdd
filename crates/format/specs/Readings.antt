-- The reading of the refusal numbers 1 to 9 and 13: of a model handed over, and of a file that is judged, read into areas, written or looked up in.
-- A number is given exactly where its cause holds and none that is judged before it. Assumes nothing.
use Rattle.std.specs.Prelude.{ℕ, ◌≡◌, ◌≢◌, ◌↔◌, List, length}
use Rattle.std.proofs.Math.Option.{Option}
use Rattle.format.specs.Refusals.{◌then◌, unless, area_short, row_beyond, area_test, row_test, model_tests, refusal}
use Rattle.format.specs.RefusalLaws.{Caused, refusal_reads}
use Rattle.format.specs.File.Piece.{closed}
use Rattle.format.specs.File.Format.{fields, judge, decode, encode, handed_over, area_tests, number_room, rows_refusal, read_refusal, write_refusal, lookup_refusal}

module _ (k : ℕ) (h : k ≢ 0) where
  pub model_reads : (p n a b : ℕ) (cs ws : List ℕ) (ns : Option (List ℕ)) → (refusal p n a b cs ws ns ≡ k) ↔ Caused (model_tests p n a b cs ws ns) k
  unfolding refusal
  model_reads p n a b cs ws ns = refusal_reads _ k h

  pub file_reads : (s : List ℕ) → (judge s ≡ k) ↔ Caused (closed fields s) k
  unfolding judge
  file_reads s = refusal_reads _ k h

  pub rows_reads : (s cs ws : List ℕ) → (rows_refusal s cs ws ≡ k) ↔ Caused (closed fields s then area_tests (decode s) cs ws) k
  unfolding rows_refusal
  rows_reads s cs ws = refusal_reads _ k h

  pub read_reads : (s cs ws ks : List ℕ) → (read_refusal s cs ws ks ≡ k)
      ↔ Caused (closed fields s then area_tests (decode s) cs ws then unless (area_test (number_room (decode s)) (length ks)) area_short) k
  unfolding read_refusal
  read_reads s cs ws ks = refusal_reads _ k h

  pub write_reads : (p n a b : ℕ) (cs ws : List ℕ) (ns : Option (List ℕ)) (out : List ℕ) → (write_refusal p n a b cs ws ns out ≡ k)
      ↔ Caused (model_tests p n a b cs ws ns then unless (area_test (length (encode (handed_over p n a b cs ws ns))) (length out)) area_short) k
  unfolding write_refusal
  write_reads p n a b cs ws ns out = refusal_reads _ k h

  pub lookup_reads : (s : List ℕ) (i : ℕ) → (lookup_refusal s i ≡ k) ↔ Caused (closed fields s then unless (row_test i (decode s).a) row_beyond) k
  unfolding lookup_refusal
  lookup_reads s i = refusal_reads _ k h
