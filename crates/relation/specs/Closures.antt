-- What `closure` says; and the least set that has a column and, with each column, all of its row, as a statement. Assumes nothing.
use Rattle.std.specs.Prelude.{ℕ, ◌<◌, ◌≡◌, refl, true, false, ◌&&◌, ◌||◌, ◌↔◌, ◌⊎◌, List}
use Rattle.std.proofs.Math.Bool.{not, decide, decide_iff}
use Rattle.std.proofs.Math.Decide.{dec_lt}
use Rattle.counting.specs.Bools.{iff_eq, and_in, and_left, and_right, implied, implies}
use Rattle.counting.specs.Sets.{Set, ◌∈◌, ◌⊆◌, ◌∩◌, all}
use Rattle.counting.specs.Counts.{all_iff}
use Rattle.counting.specs.ChoiceLaws.{every_part_iff}
use Rattle.relation.specs.Relations.{row_of, keeps_rows, closure}

-- K has x and, with each column, all of its row
pub record HasAll (R : ℕ → Set) (x : ℕ) (K : Set) : Type 0 where
  pub itself : x ∈ K
  pub steps : (z y : ℕ) → z ∈ K → y ∈ R z → y ∈ K

-- C is the least such set
pub record LeadsTo (R : ℕ → Set) (x : ℕ) (C : Set) : Type 0 where
  pub has_all : HasAll R x C
  pub least : (K : Set) → HasAll R x K → C ⊆ K

-- W has all that z leads to, but perhaps z itself
pub record DoneRow (R : ℕ → Set) (z : ℕ) (W : Set) : Type 0 where
  pub steps : (w v : ℕ) → (w ≡ z) ⊎ (w ∈ W) → v ∈ R w → (v ≡ z) ⊎ (v ∈ W)
  pub least : (K : Set) → HasAll R z K → W ⊆ K

-- the rows of an area are those of R, but the done ones have all that they lead to
pub record Partly (R : ℕ → Set) (done : Set) (ws : List ℕ) : Type 0 where
  pub finished : (z : ℕ) → z ∈ done → DoneRow R z (row_of ws z)
  pub left : (z : ℕ) → done z ≡ false → (y : ℕ) → row_of ws z y ≡ R z y

module _ (k : ℕ) (R : ℕ → Set) where
  keeps_rows_iff : (K : Set) → (keeps_rows k R K ≡ true) ↔ ((z y : ℕ) → z < k → y < k → z ∈ K → y ∈ R z → y ∈ K)
  unfolding keeps_rows
  keeps_rows_iff K = (
    λ e z y lz ly ez ey. implied (K z && R z y) (K y)
        ((all_iff k (λ y. not (K z && R z y) || K y)).0 ((all_iff k (λ z. all k (λ y. not (K z && R z y) || K y))).0 e z lz) y ly) (and_in ez ey),
    λ h. (all_iff k (λ z. all k (λ y. not (K z && R z y) || K y))).1 (λ z lz. (all_iff k (λ y. not (K z && R z y) || K y)).1 (λ y ly. implies (K z && R z y) (K y)
        (λ e. h z y lz ly (and_left (K z) (R z y) e) (and_right (K z) (R z y) e)))),
  )

  -- The least such set is `closure`, where its columns are below k.
  pub closure_is : (x : ℕ) (C : Set) → ((y : ℕ) → y ∈ C → y < k) → LeadsTo R x C → (y : ℕ) → C y ≡ closure k R x y
  unfolding closure
  closure_is x C b c y = iff_eq (C y) (closure k R x y)
      (λ e. (every_part_iff k (λ z. true) (λ K. not (K x && keeps_rows k R K) || K y)).1 (λ K p. implies (K x && keeps_rows k R K) (K y)
      (λ h. and_left (K y) (C y) (c.least (K ∩ C) (record {
        itself = and_in (and_left (K x) (keeps_rows k R K) h) c.has_all.itself;
        steps = λ z v ez ev.
            let cz : z ∈ C = and_right (K z) (C z) ez in
            let cv : v ∈ C = c.has_all.steps z v cz ev in
            and_in ((keeps_rows_iff K).0 (and_right (K x) (keeps_rows k R K) h) z v (b z cz) (b v cv) (and_left (K z) (C z) ez) ev) cv;
      }) y e))))
      (λ e. implied (C x && keeps_rows k R C) (C y)
      ((every_part_iff k (λ z. true) (λ K. not (K x && keeps_rows k R K) || K y)).0 e C (λ z ez. (b z ez, refl)))
      (and_in c.has_all.itself ((keeps_rows_iff C).1 (λ z v lz lv ez ev. c.has_all.steps z v ez ev))))

  -- And `closure` is it, where rows have columns below k.
  pub closure_leads : (x : ℕ) → x < k → ((z y : ℕ) → y ∈ R z → y < k) → LeadsTo R x (closure k R x)
  unfolding closure
  closure_leads x lx b = record {
    has_all = record {
      itself = (every_part_iff k (λ z. true) (λ K. not (K x && keeps_rows k R K) || K x)).1 (λ K p. implies (K x && keeps_rows k R K) (K x) (λ h. and_left (K x) (keeps_rows k R K) h));
      steps = λ z y ez ey. (every_part_iff k (λ z. true) (λ K. not (K x && keeps_rows k R K) || K y)).1 (λ K p. implies (K x && keeps_rows k R K) (K y) (λ h.
          let kz : z ∈ K = implied (K x && keeps_rows k R K) (K z) ((every_part_iff k (λ z. true) (λ K. not (K x && keeps_rows k R K) || K z)).0 ez K p) h in
          (keeps_rows_iff K).0 (and_right (K x) (keeps_rows k R K) h) z y (p z kz).0 (b z y ey) kz ey));
    };
    least = λ K h y e. and_left (K y) (below y) (implied ((K ∩ below) x && keeps_rows k R (K ∩ below)) ((K ∩ below) y)
        ((every_part_iff k (λ z. true) (λ K. not (K x && keeps_rows k R K) || K y)).0 e (K ∩ below) (λ z ez. ((decide_iff (dec_lt z k)).0 (and_right (K z) (below z) ez), refl)))
        (and_in (and_in h.itself ((decide_iff (dec_lt x k)).1 lx)) ((keeps_rows_iff (K ∩ below)).1
        (λ z v lz lv ez ev. and_in (h.steps z v (and_left (K z) (below z) ez) ev) ((decide_iff (dec_lt v k)).1 lv)))));
  }
    where
      below : Set
      below z = decide (dec_lt z k)
