-- Numbers met one after another, as loops meet them: those done are in the table, and others are still to be met. Assumes nothing.
use mathlib.Core.Path.{◌≡◌, refl, sym, ap, ◌∙◌, subst}
use mathlib.Core.Bool.{Bool, true, false, false≢true}
use Rattle.counting.specs.Bools.{not_true}
use Rattle.format.specs.Numbers.{once}
use mathlib.Core.List.{List, [], ◌++◌, append_assoc, append-nil}
use Prim.Native.Nat.{ℕ}
use Rattle.format.specs.NumberTable.{Keeps, Meets}
use Rattle.format.specs.NumberLaws.{once_front, meets_none, meets_stop, meets_on}

pub record Meeting (all todo table₀ table : List ℕ) : Type 0 where
  pub done : List ℕ
  pub met : Meets done table₀ table true
  pub joined : done ++ todo ≡ all

pub meeting_all : {all table : List ℕ} → Meeting all all table table
meeting_all {all} {table} = record { done = []; met = meets_none table; joined = refl }

module _ {all todo table₀ table : List ℕ} (m : Meeting all todo table₀ table) where
  module _ (ks rest : List ℕ) (q : todo ≡ ks ++ rest) where
    joined_next : (m.done ++ ks) ++ rest ≡ all
    joined_next = append_assoc m.done ks rest ∙ ap (λ (t : List ℕ). m.done ++ t) (sym q) ∙ m.joined

    pub meeting_stops : {table' : List ℕ} → Meets ks table table' false → Meets all table₀ table' false
    meeting_stops {table'} n = subst (λ (a : List ℕ). Meets a table₀ table' false) joined_next (meets_stop rest (meets_on m.met n))

    pub meeting_next : {table' : List ℕ} → Meets ks table table' true → Meeting all rest table₀ table'
    meeting_next n = record { done = m.done ++ ks; met = meets_on m.met n; joined = joined_next }

  pub meeting_done : todo ≡ [] → Meets all table₀ table true
  meeting_done q = subst (λ (a : List ℕ). Meets a table₀ table true) (sym (append-nil m.done) ∙ ap (λ (t : List ℕ). m.done ++ t) (sym q) ∙ m.joined) m.met

  -- the others are met at once
  pub meeting_last : {table' : List ℕ} {r : Bool} → Meets todo table table' r → Meets all table₀ table' r
  meeting_last {table'} {r} n = subst (λ (a : List ℕ). Meets a table₀ table' r) m.joined (meets_on m.met n)

-- the same from an empty table on: whether all of them stand once
pub record Met (all todo table : List ℕ) : Type 0 where
  pub done : List ℕ
  pub keeps : Keeps done table
  pub joined : done ++ todo ≡ all

pub met_all : {all table : List ℕ} → Keeps [] table → Met all all table
met_all h = record { done = []; keeps = h; joined = refl }

module _ {all todo table : List ℕ} (m : Met all todo table) where
  module _ (ks rest : List ℕ) (q : todo ≡ ks ++ rest) where
    met_joined : (m.done ++ ks) ++ rest ≡ all
    met_joined = append_assoc m.done ks rest ∙ ap (λ (t : List ℕ). m.done ++ t) (sym q) ∙ m.joined

    pub met_stops : {table' : List ℕ} → Meets ks table table' false → false ≡ once all
    met_stops n = sym (not_true _ (λ e. false≢true (n.told m.done m.keeps ∙ once_front (m.done ++ ks) rest (ap once met_joined ∙ e))))

    pub met_next : {table' : List ℕ} → Meets ks table table' true → Met all rest table'
    met_next n = record { done = m.done ++ ks; keeps = n.kept m.done m.keeps refl; joined = met_joined }

  pub met_done : todo ≡ [] → true ≡ once all
  met_done q = sym (ap once (sym m.joined ∙ ap (λ (t : List ℕ). m.done ++ t) q ∙ append-nil m.done) ∙ m.keeps.met_once)
