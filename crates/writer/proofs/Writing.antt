-- The writing of a model handed over into an area: refused, or done. Assumes nothing.
use Prim.Native.Nat.{ℕ, ◌≤◌, ◌<◌}
use mathlib.Core.Path.{◌≡◌, refl, sym, ap, ◌∙◌}
use mathlib.Core.Logic.{◌≢◌}
use mathlib.Core.List.{List, []}
use mathlib.Core.Option.{Option}
use native.Mathlib.Omega.{arith}
use lib.ListN.{length}
use borrow.Author.Tests.{le-leb, lt-leb}
use Rattle.format.specs.Lists.{over}
use Rattle.format.specs.OverLaws.{over_none}
use Rattle.format.specs.Refusals.{area_test, model_tests, refusal}
use Rattle.format.specs.RefusalLaws.{first_fails, first_passes, first_none, then_refused, then_passed, where_refused, accepted_value}
use Rattle.format.specs.File.Format.{encode, handed_over, write_refusal, bytes_written, WriteCall}
use Rattle.std.specs.Prelude.{Ok, Err}
use Rattle.format.specs.declared.refusals.Refusal.{Refusal}
use Rattle.format.specs.declared.refusals.Refusal.TheVariants.{AreaShort}
use Rattle.format.specs.Refused.{refusal_number}
use Rattle.format.proofs.Refused.{refusal_some}
use Rattle.writer.specs.FileWritten.{FileWritten}

module _ (p n a b : ℕ) (cs ws : List ℕ) (ns : Option (List ℕ)) (out : List ℕ) where
  writing_nothing : (r : ℕ) → r ≡ write_refusal p n a b cs ws ns out → r ≢ 0 → WriteCall p n a b cs ws ns out r 0 out
  unfolding bytes_written
  writing_nothing r e h =
      let none = where_refused r e h (encode (handed_over p n a b cs ws ns)) [] in
      record { refusal_is = e; length_is = sym (ap length none); bytes_are = over_none out ∙ ap (λ (bs : List ℕ). over bs out) (sym none) }

  pub writing_refused : (r : Refusal) → refusal_number r ≡ refusal p n a b cs ws ns → FileWritten p n a b cs ws ns out (Err r) out
  unfolding write_refusal refusal
  writing_refused r e = writing_nothing (refusal_number r) (then_refused (model_tests p n a b cs ws ns) _ (refusal_number r) e (refusal_some r)) (refusal_some r)

  module _ (e : refusal p n a b cs ws ns ≡ 0) where
    pub writing_short : length out < length (encode (handed_over p n a b cs ws ns)) → FileWritten p n a b cs ws ns out (Err AreaShort) out
    unfolding write_refusal refusal area_test
    writing_short l = writing_nothing _ (then_passed (model_tests p n a b cs ws ns) _ _ e (first_fails _ _ _ (lt-leb _ _ l))) (λ z. omega arith)

    pub writing_done : {out' : List ℕ} {len : ℕ} → length (encode (handed_over p n a b cs ws ns)) ≤ length out → len ≡ length (encode (handed_over p n a b cs ws ns))
        → out' ≡ over (encode (handed_over p n a b cs ws ns)) out → FileWritten p n a b cs ws ns out (Ok len) out'
    unfolding write_refusal refusal area_test bytes_written
    writing_done l q d =
        let z : 0 ≡ write_refusal p n a b cs ws ns out = then_passed (model_tests p n a b cs ws ns) _ 0 e (first_passes _ _ _ _ (le-leb _ _ l) first_none) in
        let all = accepted_value 0 z refl (encode (handed_over p n a b cs ws ns)) [] in
        record { refusal_is = z; length_is = q ∙ sym (ap length all); bytes_are = d ∙ ap (λ (bs : List ℕ). over bs out) (sym all) }
