-- How a call that lends an area answers, from what it was told of the file or the model. Assumes nothing.
use Prim.Native.Nat.{ℕ, ◌+◌, ◌-◌, ◌≤◌, ◌<◌}
use mathlib.Core.Path.{◌≡◌, refl, sym, ap, ◌∙◌, subst}
use Rattle.std.proofs.Common.{le_of_eq, take_all}
use borrow.Rule.Slice.PartMut.{put_mid}
use mathlib.Core.Logic.{◌≢◌}
use mathlib.Core.Bool.{Bool, true, false, false≢true}
use mathlib.Core.List.{List, [], ◌∷◌, ◌++◌, append-nil}
use lib.ListN.{length, take, drop, length-drop, drop_of_length-le}
use borrow.Author.Tests.{lt-leb}
use Rattle.format.specs.Lists.{over}
use Rattle.format.specs.OverLaws.{Wrote, wrote_run}
use Rattle.format.specs.Refusals.{Cause, Tests, unless, ◌then◌, first_refusal, area_short, area_test}
use Rattle.format.specs.RefusalLaws.{then_refused, then_passed, then_zero, unless_zero}
use Rattle.format.specs.TestLaws.{area_reads}
use Rattle.host.specs.AreaCall.{area_refusal, AreaCall, PutOver, WrittenOver}

-- a test that passes changes nothing
passed_between : (ts us : Tests) (c : Cause) → first_refusal (ts then unless true c then us) ≡ first_refusal (ts then us)
unfolding first_refusal
passed_between [] us c = refl
passed_between ((true, d) ∷ ts) us c = passed_between ts us c
passed_between ((false, d) ∷ ts) us c = refl

-- an area that is long enough is not what is refused
area_passes : (before after : Tests) (least : ℕ) (area : List ℕ) → least ≤ length area → area_refusal before after least area ≡ first_refusal (before then after)
unfolding area_refusal
area_passes before after least area l = rw ((area_reads least (length area)).1 l) (passed_between before after area_short)

-- of a test that fails, those after it change nothing
failed_last : (ts us : Tests) (c : Cause) → first_refusal (ts then unless false c then us) ≡ first_refusal (ts then unless false c)
unfolding first_refusal
failed_last [] us c = refl
failed_last ((true, d) ∷ ts) us c = failed_last ts us c
failed_last ((false, d) ∷ ts) us c = refl

-- an area that is too short
area_fails : (before after : Tests) (least : ℕ) (area : List ℕ) → length area < least → area_refusal before after least area ≡ first_refusal (before then unless false area_short)
unfolding area_refusal area_test
area_fails before after least area u = rw (lt-leb _ _ u) (failed_last before after area_short)

-- where all others pass, the area's test alone is left
alone : (t : Bool) (c : Cause) (us : Tests) → first_refusal us ≡ 0 → first_refusal (unless t c then us) ≡ first_refusal (unless t c)
unfolding first_refusal
alone true c us e = e
alone false c us e = refl

area_alone : (before after : Tests) (least : ℕ) (area : List ℕ) → first_refusal before ≡ 0 → first_refusal after ≡ 0 → area_refusal before after least area ≡ area_refusal [] [] least area
unfolding area_refusal
area_alone before after least area ok ok' = sym (then_passed before _ _ ok refl) ∙ alone (area_test least (length area)) area_short after ok'

module _ (before after : Tests) (least : ℕ) (WrittenOver : List ℕ → List ℕ → Type 0) (area : List ℕ) where
  -- refused: the area is as it was
  refused_as : (r : ℕ) → r ≡ area_refusal before after least area → r ≢ 0 → AreaCall before after least WrittenOver area r area
  refused_as r e h = record { is_number = e; if_refused = λ _. refl; if_accepted = λ z. absurd (h (e ∙ z)) }

  -- by the tests before the area's
  pub refused_before : (r : ℕ) → r ≡ first_refusal before → r ≢ 0 → AreaCall before after least WrittenOver area r area
  unfolding area_refusal
  refused_before r e h = refused_as r (then_refused before _ r e h) h

  -- by the area's, or by those before it
  pub refused_short : length area < least → (r : ℕ) → r ≡ first_refusal (before then unless false area_short) → AreaCall before after least WrittenOver area r area
  refused_short u r e = refused_as r (e ∙ sym (area_fails before after least area u)) (λ z. false≢true (unless_zero false area_short (then_zero before (unless false area_short) (sym e ∙ z)).1))

  -- by the tests before or after it, where the area is long enough
  pub refused_around : least ≤ length area → (r : ℕ) → r ≡ first_refusal (before then after) → r ≢ 0 → AreaCall before after least WrittenOver area r area
  refused_around l r e h = refused_as r (e ∙ sym (area_passes before after least area l)) h

-- a second area, which is read, is too short; or it is long enough
pub refused_beside : (before us : Tests) (t : Bool) (least : ℕ) (WrittenOver : List ℕ → List ℕ → Type 0) (area : List ℕ) → least ≤ length area → t ≡ false
    → (r : ℕ) → r ≡ first_refusal (before then unless false area_short) → AreaCall before (unless t area_short then us) least WrittenOver area r area
refused_beside before us t least WrittenOver area l e r h = rw e (refused_around before (unless false area_short then us) least WrittenOver area l r (h ∙ sym (failed_last before us area_short))
    (λ z. false≢true (unless_zero false area_short (then_zero before (unless false area_short) (sym h ∙ z)).1)))

pub passed_beside : (before us : Tests) (t : Bool) → t ≡ true → first_refusal (before then us) ≡ first_refusal (before then (unless t area_short then us))
passed_beside before us t e = rw e (sym (passed_between before us area_short))

-- the next run of a writer (`Wrote`), copied into the part that it takes
pub wrote_copied : {all todo d₀ d : List ℕ} {at : ℕ} (bs rest e : List ℕ) (k : ℕ) → Wrote all todo d₀ d at → todo ≡ bs ++ rest → e ≡ bs → length bs ≡ k → Wrote all rest d₀ (put_mid at k d e) (at + k)
unfolding over
wrote_copied {all} {todo} {d₀} {d} {at} bs rest e k w t q h =
    let m : length (drop at d) ≡ length d - at = length-drop at d in
    let z : drop (length d - at) (drop at d) ≡ [] = drop_of_length-le (drop at d) (le_of_eq m) in
    let u : take (length d - at) (drop at d) ≡ drop at d = take_all (length d - at) (drop at d) (le_of_eq m) in
    let mid : List ℕ = e ++ drop k (drop at d) in
    let v = wrote_run bs rest mid k w t (rw (u, h, q) refl) h in
    subst (λ (l : List ℕ). Wrote all rest d₀ (take at d ++ l) (at + k)) (ap (λ (l : List ℕ). mid ++ l) z ∙ append-nil mid) v

-- ---- bytes put into an area

module _ (least : ℕ) (bytes area : List ℕ) where
  pub put_refused : length area < least → PutOver least bytes area 8 area
  unfolding first_refusal
  put_refused u = refused_short [] [] least (λ area area'. area' ≡ over bytes area) area u 8 refl

  pub put_done : least ≤ length area → {area' : List ℕ} → area' ≡ over bytes area → PutOver least bytes area 0 area'
  unfolding first_refusal
  put_done l w =
      let q : area_refusal [] [] least area ≡ 0 = area_passes [] [] least area l in
      record { is_number = sym q; if_refused = λ z. absurd (z q); if_accepted = λ _. w }

-- bytes that are put are those of an answer that is the same
pub put_same : {A : Type 0} (bytes : A → List ℕ) {s t : A} {least : ℕ} {area : List ℕ} {number : ℕ} {area' : List ℕ} → s ≡ t → PutOver least (bytes s) area number area' → PutOver least (bytes t) area number area'
put_same bytes {least = least} {area = area} {number = number} {area' = area'} e w = subst (λ t. PutOver least (bytes t) area number area') e w

-- the bytes of an answer, put into the area of a call whose other tests pass
pub answer_put : {A : Type 0} {Holds : A → Type 0} (bytes : A → List ℕ) (before after : Tests) {least : ℕ} {area : List ℕ} {number : ℕ} {area' : List ℕ} (t : A) → Holds t
    → first_refusal before ≡ 0 → first_refusal after ≡ 0 → PutOver least (bytes t) area number area' → AreaCall before after least (WrittenOver Holds bytes) area number area'
answer_put bytes before after {least} {area} t h ok ok' w =
    let e = area_alone before after least area ok ok' in
    record {
      is_number = w.is_number ∙ sym e;
      if_refused = λ z. w.if_refused (λ y. z (e ∙ y));
      if_accepted = λ z. record { answer = t; is_answer = h; is_shown = w.if_accepted (sym e ∙ z) };
    }
