-- What placing one column does to the state that is held. Definitions only.
use Rattle.std.specs.Prelude.{ℕ, ◌≡◌, Bool, true, false, List}
use Rattle.rank.specs.Graph.States.{SamePlaced}
use Rattle.rank.specs.Graph.Closed.{Closed}
use Rattle.rank.specs.Graph.Layers.{layer}
use Rattle.rank.proofs.Layered.Augmenting.{only, OneMore}
use Rattle.exchange.specs.Code.Held.{Given, Held}

-- what placing column j gives: it is placed besides, or the search from it ends without a terminal column
abbrev pub Placing : (p n a b : ℕ) (ws : List ℕ) (G : Given p n b ws) (t o t' o' : List ℕ) (j : ℕ) (r : Bool) → Held p n a b ws G t o → Type 0
Placing p n a b ws G t o t' o' j r h = (h' : Held p n a b ws G t' o') × (r ≡ true → OneMore h.s h'.s j) × (r ≡ false → SamePlaced h.s h'.s × Closed h'.s (layer h'.s (only j) n))
