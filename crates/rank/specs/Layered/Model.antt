-- Document 01, "The model": layered models over any field, assignments, and which of them are legal. Definitions only; assumes nothing.
use Rattle.std.specs.Prelude.{ℕ, ◌<◌, ◌≡◌, Bool, true, false, not, ◌&&◌, ◌↔◌}
use Rattle.std.proofs.Math.Bool.{decide}
use Rattle.std.proofs.Math.Decide.{ℕ_discrete}
use Rattle.residue.specs.Fields.{Field}
use Rattle.counting.specs.Sets.{Set, ◌∈◌, #, all, set}
use Rattle.rank.specs.Linear.Independence.{Indep}

-- A layered model: n columns; a constant rows, with the constant Q i x in row i at column x; b parameter rows, with a parameter in row r at column x
-- where T r x; E, the columns that are offered: an assignment places no others, and where document 01 says n their number is meant. Its own models
-- offer all. Last a test for independent sets of constant columns, true of them and of no others.
pub record Model : Type 1 where
  pub K : Field
  pub a : ℕ
  pub b : ℕ
  pub n : ℕ
  pub Q : ℕ → ℕ → K.F
  pub T : ℕ → ℕ → Bool
  pub E : Set
  pub indep : Set → Bool
  pub indep_iff : (S : Set) → (indep S ≡ true) ↔ Indep K a n Q S

-- a seat: out, the constant side, or a parameter row
pub data Seat : Type 0 where
  out : Seat
  constant : Seat
  row : ℕ → Seat

-- an assignment gives each column a seat
abbrev pub Assignment : Type 0
Assignment = ℕ → Seat

-- a seat other than out
abbrev pub is_placed : Seat → Bool
is_placed out = false
is_placed constant = true
is_placed (row r) = true

-- the constant side
abbrev pub is_constant : Seat → Bool
is_constant out = false
is_constant constant = true
is_constant (row r) = false

-- both are the same parameter row
unfoldable pub same_row : Seat → Seat → Bool
same_row out t = false
same_row constant t = false
same_row (row r) out = false
same_row (row r) constant = false
same_row (row r) (row q) = decide (ℕ_discrete r q)

-- the columns that A places
abbrev pub placing : Assignment → Set
placing A = λ x. is_placed (A x)

-- the columns that A has on the constant side
abbrev pub constants : Assignment → Set
constants A = λ x. is_constant (A x)

module _ (M : Model) where
  open M use {K, a, b, n, Q, T, E, indep}

  -- A is a legal assignment: it places offered columns, those on the constant side are independent, each of the others has a row with a parameter there,
  -- and no row serves two columns
  pub record Legal (A : Assignment) : Type 0 where
    pub offered : (x : ℕ) → x ∈ placing A → (x < n) × (x ∈ E)
    pub independent : Indep K a n Q (constants A)
    pub parameter : (x r : ℕ) → A x ≡ row r → (r < b) × (T r x ≡ true)
    pub one_each : (x y r : ℕ) → A x ≡ row r → A y ≡ row r → x ≡ y

  -- how many columns A places
  abbrev pub size : Assignment → ℕ
  size A = # n (placing A)

  -- a legal assignment places exactly the columns that A places and one more
  pub record OneMoreThan (A : Assignment) : Type 0 where
    pub larger : Assignment
    pub is_legal : Legal larger
    pub column : ℕ
    pub was_out : placing A column ≡ false
    pub places : (x : ℕ) → placing larger x ≡ set (placing A) column true x

  -- a column on a row has a parameter there
  unfoldable pub has_parameter : ℕ → Seat → Bool
  has_parameter x out = true
  has_parameter x constant = true
  has_parameter x (row r) = T r x

  -- the test for legal assignments, of those that give offered columns seats that the model has; `legal_true` and `true_legal` say what it tests
  unfoldable pub legal : Assignment → Bool
  legal A = indep (constants A) && all n (λ x. has_parameter x (A x)) && all n (λ x. all x (λ y. not (same_row (A y) (A x))))
