-- What reading a file promises of the sizes or the refusal that it returns. Definitions only.
use Rattle.std.specs.Prelude.{ℕ, ◌*◌, ◌<◌, ◌≡◌, Bool, true, false, cond, List, leb, Result, Ok, Err}
use Rattle.format.specs.declared.refusals.Refusal.{Refusal}
use Rattle.format.specs.Refused.{refusal_number, refusal_of}
use Rattle.format.specs.Numbers.{is_numbered}
use Rattle.format.specs.File.Format.{judge, decode, RowsCall, ReadCall}
use Rattle.loader.specs.declared.header.Sizes.{Sizes}

-- the sizes that are returned: none where the file is refused
abbrev pub sizes_given : Result Sizes Refusal → Sizes
sizes_given (Ok z) = z
sizes_given (Err e) = record { p = 0; n = 0; a = 0; b = 0; numbered = false }

-- what is returned, and the areas afterwards: the constants, and the numbers of the parameter rows
abbrev pub RowsReading : (s cs ws : List ℕ) → Result Sizes Refusal → (cs' ws' : List ℕ) → Type 0
RowsReading s cs ws r cs' ws' = let z = sizes_given r in RowsCall s cs ws (refusal_of r) z.p z.n z.a z.b z.numbered cs' ws'

-- the same with the parameters' numbers
abbrev pub FileRead : (s cs ws ks : List ℕ) → Result Sizes Refusal → (cs' ws' ks' : List ℕ) → Type 0
FileRead s cs ws ks r cs' ws' ks' = let z = sizes_given r in ReadCall s cs ws ks (refusal_of r) z.p z.n z.a z.b z.numbered cs' ws' ks'

-- ---- what private functions promise on the way

-- the sizes of an accepted file, before any area is looked at
pub record SizesOf (s : List ℕ) (z : Sizes) : Type 0 where
  pub is_accepted : judge s ≡ 0
  pub p_is : z.p ≡ (decode s).p
  pub n_is : z.n ≡ (decode s).n
  pub a_is : z.a ≡ (decode s).a
  pub b_is : z.b ≡ (decode s).b
  pub numbered_is : z.numbered ≡ is_numbered (decode s).numbers
  pub n_small : z.n < 256
  pub a_small : z.a < 256
  pub b_small : z.b < 256

abbrev pub SizesRead : List ℕ → Result Sizes Refusal → Type 0
SizesRead s (Ok z) = SizesOf s z
SizesRead s (Err e) = refusal_number e ≡ judge s

-- the rows of a file that has these sizes, or the refusal of an area
abbrev pub RowsFilled : (s cs ws : List ℕ) → Sizes → Result Unit Refusal → (cs' ws' : List ℕ) → Type 0
RowsFilled s cs ws z (Ok x) cs' ws' = RowsReading s cs ws (Ok z) cs' ws'
RowsFilled s cs ws z (Err e) cs' ws' = RowsReading s cs ws (Err e) cs' ws'

-- an area of that length holds the numbers
abbrev pub room_test : Sizes → ℕ → Bool
room_test r len = cond r.numbered (leb (r.b * r.n) len) true
