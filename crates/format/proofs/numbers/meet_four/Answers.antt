-- `numbers::meet_four` meets its contract. Assumes nothing.
use Rattle.std.proofs.Common.{ℕ, ◌≡◌, ◌+◌, ◌*◌, Bool, true, false, List, get_or, [], ◌∷◌, ◌++◌}
use Rattle.format.specs.NumberTable.{Meets}
use Rattle.format.specs.NumberLaws.{meets_stop, meets_on}
use Rattle.format.proofs.Entries.{entries_four}
use Rattle.format.proofs.numbers.meet_four.Goals as goal
use Rattle.format.proofs.numbers.meet_four.Goals.{then-meet, else-meet, then-meet-2, else-meet-2}

-- more are met where those before were, and none otherwise
met_more : {ks more table table₁ table₂ : List ℕ} {a r : Bool} → a ≡ true → Meets ks table table₁ a → Meets more table₁ table₂ r → Meets (ks ++ more) table table₂ r
met_more e m n = meets_on (rw e at m) n

met_no_more : {ks table table₁ : List ℕ} {a : Bool} (more : List ℕ) → a ≡ false → Meets ks table table₁ a → Meets (ks ++ more) table table₁ a
met_no_more more e m = rw e (meets_stop more (rw e at m))

pub returns-then-meet-3 : goal.returns-then-meet-3
returns-then-meet-3 c =
    let k : ℕ → ℕ → List ℕ = λ i j. (get_or c.args.four.now i 0 + 256 * get_or c.args.four.now j 0) ∷ [] in
    let two : Meets (k 0 1 ++ k 2 3) c.args.table.now c.if-meet.table c.if-meet.value = elim c.if-meet.branch [
      | then-meet w ↦ rw (w.table-is, w.value-is) (met_more w.if-meet.true c.meet.ensures w.meet-then-meet.ensures)
      | else-meet w ↦ rw (w.table-is, w.value-is) (met_no_more (k 2 3) w.if-meet.false c.meet.ensures)
    ] in
    let three : Meets ((k 0 1 ++ k 2 3) ++ k 4 5) c.args.table.now c.if-meet-2.table c.if-meet-2.value = elim c.if-meet-2.branch [
      | then-meet-2 w ↦ rw (w.table-is, w.value-is) (met_more w.if-meet-2.true two w.meet-then-meet-2.ensures)
      | else-meet-2 w ↦ rw (w.table-is, w.value-is) (met_no_more (k 4 5) w.if-meet-2.false two)
    ] in
    rw (entries_four c.args.four.now [] c.requires.1).0 (met_more c.if-meet-3.true three c.meet-then-meet-3.ensures)

pub returns-else-meet-3 : goal.returns-else-meet-3
returns-else-meet-3 c =
    let k : ℕ → ℕ → List ℕ = λ i j. (get_or c.args.four.now i 0 + 256 * get_or c.args.four.now j 0) ∷ [] in
    let two : Meets (k 0 1 ++ k 2 3) c.args.table.now c.if-meet.table c.if-meet.value = elim c.if-meet.branch [
      | then-meet w ↦ rw (w.table-is, w.value-is) (met_more w.if-meet.true c.meet.ensures w.meet-then-meet.ensures)
      | else-meet w ↦ rw (w.table-is, w.value-is) (met_no_more (k 2 3) w.if-meet.false c.meet.ensures)
    ] in
    let three : Meets ((k 0 1 ++ k 2 3) ++ k 4 5) c.args.table.now c.if-meet-2.table c.if-meet-2.value = elim c.if-meet-2.branch [
      | then-meet-2 w ↦ rw (w.table-is, w.value-is) (met_more w.if-meet-2.true two w.meet-then-meet-2.ensures)
      | else-meet-2 w ↦ rw (w.table-is, w.value-is) (met_no_more (k 4 5) w.if-meet-2.false two)
    ] in
    rw (entries_four c.args.four.now [] c.requires.1).0 (met_no_more (k 6 7) c.if-meet-3.false three)
