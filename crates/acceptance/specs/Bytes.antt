-- The bytes of a claim and of the answer about it, by the pattern of the calls for a host in C. Definitions only.
use Rattle.std.specs.Prelude.{ℕ, ◌+◌, ◌≤◌, ◌<◌, ◌≡◌, true, ◌↔◌, List, [], ◌∷◌, length, get_or, take, drop, replicate}
use Rattle.limits.specs.Limits.{most_rows, set_bytes, no_column}
use Rattle.counting.specs.Sets.{indicator}
use Rattle.columns.specs.Bytes.{number}
use Rattle.columns.specs.Columns.{members}
use Rattle.columns.specs.ColumnSets.{whole, empty_set}
use Rattle.rank.specs.Layered.Model.{Model}
use Rattle.claims.specs.Claim.{AcceptsClaim}
use Rattle.format.specs.Refusals.{Tests, unless, area_short, area_test}
use Rattle.acceptance.specs.declared.Claim.{Claim}
use Rattle.acceptance.specs.Shown.{Acceptance}

-- ---- a claim

-- a claim's bytes: the rank, the constant side, the column of each parameter row, and the column set
abbrev pub claim_length : ℕ
claim_length = 1 + set_bytes + most_rows + set_bytes

abbrev pub claim_rank : List ℕ → ℕ
claim_rank bs = get_or bs 0 0

abbrev pub claim_side : List ℕ → ℕ
claim_side bs = number (take set_bytes (drop 1 bs))

abbrev pub claim_rows : List ℕ → List ℕ
claim_rows bs = take most_rows (drop (1 + set_bytes) bs)

abbrev pub claim_set : List ℕ → ℕ
claim_set bs = number (take set_bytes (drop (1 + set_bytes + most_rows) bs))

-- the claim that bytes show; what follows its length is not read
pub record ClaimShown (bs : List ℕ) (c : Claim) : Type 0 where
  pub rank_is : c.rank ≡ claim_rank bs
  pub side_is : whole c.constants ≡ claim_side bs
  pub rows_are : c.rows ≡ claim_rows bs
  pub set_is : whole c.set ≡ claim_set bs

-- the claim of rank 0 that places nothing and has no column set
unfoldable pub no_claim : Claim
no_claim = record { rank = 0; constants = empty_set; rows = replicate most_rows no_column; set = empty_set }

-- a claim is read from bytes; too few show none
pub record ClaimRead (bs : List ℕ) (c : Claim) : Type 0 where
  pub if_short : length bs < claim_length → c ≡ no_claim
  pub if_long : claim_length ≤ length bs → ClaimShown bs c

-- what a call asks of the area of a claim: 8 where it has fewer bytes
abbrev pub claim_question : List ℕ → Tests
claim_question bs = unless (area_test claim_length (length bs)) area_short

-- ---- the answer about the claim that bytes show

abbrev pub AcceptanceOf : Model → List ℕ → Acceptance → Type 0
AcceptanceOf M bs r = (r.accepted ≡ true) ↔ AcceptsClaim M (claim_rank bs) (members (claim_side bs)) (claim_rows bs) (members (claim_set bs))

-- how many bytes it has: one,
abbrev pub acceptance_length : ℕ
acceptance_length = 1

-- 1 where the claim is accepted, and 0 where it is not
abbrev pub acceptance_bytes : Acceptance → List ℕ
acceptance_bytes r = indicator r.accepted ∷ []
