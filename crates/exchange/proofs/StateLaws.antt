-- A state in which nothing has been offered. Assumes nothing.
use Prim.Native.Nat.{ℕ, ◌+◌, ◌<◌, ◌^◌}
use mathlib.Core.Path.{◌≡◌, subst}
use mathlib.Core.Bool.{true}
use mathlib.Core.Logic.{◌↔◌}
use mathlib.Core.List.{List}
use Rattle.counting.specs.Sets.{Set, ◌∈◌}
use Rattle.columns.specs.Columns.{width, members, within}
use Rattle.columns.specs.Words.Operations.{within_iff, members_below}
use Rattle.exchange.specs.Code.Scanning.{owner_at}
use Rattle.exchange.specs.Code.Held.{Given, ShowsConstants}
use Rattle.exchange.specs.Code.Offering.{Offers, Offered-all}
use Rattle.exchange.specs.Code.State.{rows_of, Fresh, Completed}
use Rattle.exchange.specs.declared.state.Admitted.{Admitted}
use Rattle.exchange.specs.declared.state.State.{State}
use Rattle.exchange.proofs.OfferingLaws.{none_owned, offers_start, offers_some}

pub below : (n offered : ℕ) → offered < 2 ^ width → within n offered ≡ true → (x : ℕ) → x ∈ members offered → x < n
below n offered fits inside x e = (within_iff n offered).0 inside x (members_below offered x fits e) e

module _ {m : Admitted} {s : State} (f : Fresh m s) where
  all_free : (q : ℕ) → q < m.a + m.b → owner_at s.owner q ≡ m.n
  all_free q l = rw f.free (none_owned m.n (m.a + m.b) f.ready.lengths.all_rows q l)

  -- the model that the arrays themselves show
  pub fresh_some : (offered : ℕ) → offered < 2 ^ width → within m.n offered ≡ true → (G : Completed m) × Offers m.p m.n m.a m.b (rows_of m) (members offered) s.cells s.owner G
  fresh_some offered fits inside = offers_some m.p m.n m.a m.b (rows_of m) s.cells s.owner all_free (members offered) (below m.n offered fits inside)

  pub fresh_offers : (offered : Set) (G : Completed m) → ShowsConstants m.p m.n m.a m.b (rows_of m) G s.cells → ((x : ℕ) → (x ∈ offered) ↔ ((x < m.n) × (x ∈ G.E)))
      → Offers m.p m.n m.a m.b (rows_of m) offered s.cells s.owner G
  fresh_offers = offers_start m.p m.n m.a m.b (rows_of m) s.cells s.owner all_free

-- what holds of the models with b parameter rows holds of those with none, where b is 0
pub without_rows : {p n a b : ℕ} {ws t o t' o' : List ℕ} {offered placed : Set} → b ≡ 0
    → ((G : Given p n b ws) → Offers p n a b ws offered t o G → Offered-all p n a b ws G t' o' placed)
    → (G : Given p n 0 ws) → Offers p n a 0 ws offered t o G → Offered-all p n a 0 ws G t' o' placed
without_rows {p} {n} {a} {b} {ws} {t} {o} {t'} {o'} {offered} {placed} e h =
    subst (λ (k : ℕ). (G : Given p n k ws) → Offers p n a k ws offered t o G → Offered-all p n a k ws G t' o' placed) e h
