-- A call that lends an area for the bytes of an answer. Definitions only.
use Rattle.std.specs.Prelude.{ℕ, ◌≡◌, ◌≢◌, List, [], length}
use Rattle.format.specs.Lists.{over}
use Rattle.format.specs.Refusals.{Tests, unless, ◌then◌, first_refusal, area_short, area_test}
use Rattle.layered.specs.Answers.{AnswerShown}

-- the tests before it, as of the file or the model; then 8 for an area of fewer bytes than the least; then the call's own tests
unfoldable pub area_refusal : (before after : Tests) → ℕ → List ℕ → ℕ
area_refusal before after least area = first_refusal (before then unless (area_test least (length area)) area_short then after)

-- a call that lends an area: the number; where it refuses, the area is as it was; where not, what is written
pub record AreaCall (before after : Tests) (least : ℕ) (WrittenOver : List ℕ → List ℕ → Type 0) (area : List ℕ) (number : ℕ) (area' : List ℕ) : Type 0 where
  pub is_number : number ≡ area_refusal before after least area
  pub if_refused : area_refusal before after least area ≢ 0 → area' ≡ area
  pub if_accepted : area_refusal before after least area ≡ 0 → WrittenOver area area'

-- bytes put over the front of an area, with no other test than that it holds them
abbrev pub PutOver : (least : ℕ) (bytes area : List ℕ) (number : ℕ) (area' : List ℕ) → Type 0
PutOver least bytes = AreaCall [] [] least (λ area area'. area' ≡ over bytes area)

-- the bytes of an answer of which this holds, over the front of the area
abbrev pub WrittenOver : {A : Type 0} (Holds : A → Type 0) (bytes : A → List ℕ) (area area' : List ℕ) → Type 0
WrittenOver Holds bytes area area' = AnswerShown Holds (λ r. area' ≡ over (bytes r) area)
