-- What the private functions promise that put a file's fields into an area. Definitions only.
use Rattle.std.specs.Prelude.{ℕ, ◌+◌, ◌≤◌, ◌≡◌, List, ◌++◌, length, take, drop}
use Rattle.std.specs.Borrow.{MutBor}
use Rattle.models.specs.declared.LentModel.{LentModel}
use Rattle.models.specs.Lent.{constants_lent, rows_lent, numbers_lent}
use Rattle.format.specs.TestLaws.{Accepted}
use Rattle.format.specs.File.Format.{encode, handed_over}
use Rattle.writer.specs.declared.pen.Pen.{Pen}

-- the area has room for these bytes
abbrev pub Room : List ℕ → Pen → Type 0
Room bs p = p.at + length bs ≤ length p.area.now

-- these bytes were put, and the next ones go behind them
pub record Puts (bs : List ℕ) (p q : Pen) : Type 0 where
  pub same_area : q.area.ghost_name ≡ p.area.ghost_name
  pub at_is : q.at ≡ p.at + length bs
  pub bytes_are : q.area.now ≡ take p.at p.area.now ++ (bs ++ drop (p.at + length bs) p.area.now)

-- nothing was put yet
pub record Opens (area : MutBor (List ℕ)) (p : Pen) : Type 0 where
  pub same_area : p.area.ghost_name ≡ area.ghost_name
  pub at_is : p.at ≡ 0
  pub bytes_are : p.area.now ≡ area.now

-- a model that may be written, and its file
abbrev pub AcceptedModel : LentModel → Type 0
AcceptedModel m = Accepted m.p m.n m.a m.b (constants_lent m) (rows_lent m) (numbers_lent m)

abbrev pub file_of : LentModel → List ℕ
file_of m = encode (handed_over m.p m.n m.a m.b (constants_lent m) (rows_lent m) (numbers_lent m))
