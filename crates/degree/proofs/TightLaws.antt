-- The tight part, written to lists: the solver's answer to them is that of the tight part. Assumes nothing.
use Prim.Native.Nat.{ℕ, zero, suc, ◌+◌, ◌-◌, ◌*◌, ◌≤◌, ◌<◌}
use mathlib.Core.Path.{◌≡◌, refl, sym, ap, ◌∙◌}
use mathlib.Core.Logic.{◌≢◌, by_cases}
use mathlib.Core.Bool.{Bool, true, ◌&&◌, cond, decide, decide_iff}
use mathlib.Core.List.{List}
use native.Mathlib.Decide.{ℕ_discrete, dec_lt}
use native.Mathlib.Nat.{mul-le-mul}
use native.Mathlib.Omega.{arith}
use lib.Dec.{eqb}
use lib.ListN.{length, get_or}
use borrow.Author.Tests.{eq-eqb, eqb-true, ne_eqb, le-leb, lt-ltb}
use Rattle.limits.specs.Limits.{most_columns, most_rows, most_constants}
use Rattle.counting.specs.Bools.{iff_eq, and_in}
use Rattle.counting.specs.Sets.{Set, ◌∈◌}
use Rattle.columns.specs.Columns.{members, upto}
use Rattle.columns.specs.Words.Operations.{within_iff}
use Rattle.columns.specs.Words.SetLaws.{upto_iff}
use Rattle.rank.specs.Modulus.{field_of}
use Rattle.rank.specs.ModulusLaws.{residue_zero}
use Rattle.rank.specs.ListedModel.{parameter_at}
use Rattle.degrees.specs.Dynamics.{Dynamic}
use Rattle.degrees.specs.Levels.{tight_constants, tight_parameters}
use Rattle.degrees.specs.TightEntries.{tight_at, tight_off}
use Rattle.exchange.specs.Solve.{admissible, fitting, Shown}
use Rattle.exchange.specs.SolveLaws.{all_below_iff}
use Rattle.degree.specs.Code.{Weighed, TightConstants, TightParameters, Ready, model_with, tableau_of}

-- all columns below n
module _ {n : ℕ} {all : Set} (m : all ≡ upto n) (hn : n ≤ most_columns) where
  pub all_in : (x : ℕ) → x < n → x ∈ all
  all_in x l = ap (λ (S : Set). S x) m ∙ (upto_iff n x (omega arith)).1 l

  pub all_below : (x : ℕ) → x ∈ all → x < n
  all_below x e = (upto_iff n x (omega arith)).0 (sym (ap (λ (S : Set). S x) m) ∙ e)

-- the place of a constant
pub place_below : (n a h x : ℕ) → h < a → x < n → h * n + x < a * n
place_below n a h x lh lx = let q : (h + 1) * n ≤ a * n = mul-le-mul {n₂ = a} {m₂ = n} (omega arith) (omega arith) in omega (arith, q)

pub record Place (n a i : ℕ) : Type 0 where
  pub row : ℕ
  pub column : ℕ
  pub row_below : row < a
  pub column_below : column < n
  pub is_place : i ≡ row * n + column

pub place_split : (n a i : ℕ) → i < a * n → Place n a i
place_split n zero i l = absurd (omega arith)
place_split n (suc a) i l = elim (dec_lt i (a * n)) [
  | yes m ↦ let w : Place n a i = place_split n a i m in
      record { row = w.row; column = w.column; row_below = omega (arith, w.row_below); column_below = w.column_below; is_place = w.is_place }
  | no nm ↦ record { row = a; column = i - a * n; row_below = omega arith; column_below = omega arith; is_place = omega arith }
]

module _ (p n a b : ℕ) (Q : ℕ → ℕ → (field_of p).F) (cs ws rp cp pp : List ℕ) (r : Ready p n a b cs ws rp cp pp) (levels heights weights : List ℕ)
    (all : ℕ) (m : members all ≡ upto n) (weighed : Weighed n (members all) cp heights weights) where
  abbrev X : Dynamic
  X = model_with p n a b Q ws rp cp pp

  abbrev L : ℕ → ℕ
  L q = get_or levels q 0

  abbrev z : ℕ → ℕ
  z x = get_or heights x 0

  weight_is : (x : ℕ) → x < n → get_or weights x 0 ≡ get_or cp x 0 + z x
  weight_is x l = weighed x l ∙ ap (λ (t : Bool). cond t (get_or cp x 0 + z x) 0) (all_in m r.columns x l)

  module _ (tight-cs tight-ws : List ℕ) (tc : TightConstants n a cs weights levels tight-cs) (tp : TightParameters n a b ws pp heights levels tight-ws) where
    constant_is : (h x : ℕ) → h < a → x < n → (get_or cp x 0 + z x ≡ L h → get_or tight-cs (h * n + x) 0 ≡ get_or cs (h * n + x) 0)
        × (get_or cp x 0 + z x ≢ L h → get_or tight-cs (h * n + x) 0 ≡ 0)
    constant_is h x lh lx = (
      λ e. tc h x lh lx ∙ ap (λ (t : Bool). cond t (get_or cs (h * n + x) 0) 0) (eq-eqb (get_or weights x 0) (L h) (weight_is x lx ∙ e)),
      λ ne. tc h x lh lx ∙ ap (λ (t : Bool). cond t (get_or cs (h * n + x) 0) 0) (ne_eqb (get_or weights x 0) (L h) (λ q. ne (sym (weight_is x lx) ∙ q))),
    )

    constant_low : (h x : ℕ) → h < a → x < n → get_or tight-cs (h * n + x) 0 < p
    constant_low h x lh lx = by_cases (ℕ_discrete (get_or cp x 0 + z x) (L h))
        (λ e. rw ((constant_is h x lh lx).0 e) (r.constants_below (h * n + x) (place_below n a h x lh lx)))
        (λ ne. rw ((constant_is h x lh lx).1 ne) (omega (arith, r.constants_below (h * n + x) (place_below n a h x lh lx))))

    pub tight_shown : Shown p n a b all tight-cs tight-ws (tight_constants X (tableau_of p n cs) L z) (tight_parameters X L z) (λ x. true)
    unfolding tight_parameters
    tight_shown = record {
      constants = λ h x lh lx. by_cases (ℕ_discrete (get_or cp x 0 + z x) (L h))
          (λ e. rw ((constant_is h x lh lx).0 e) (tight_at X (tableau_of p n cs) L z h x e))
          (λ ne. rw ((constant_is h x lh lx).1 ne) (tight_off X (tableau_of p n cs) L z h x ne ∙ sym ((residue_zero p r.prime 0
          (omega (arith, r.constants_below (h * n + x) (place_below n a h x lh lx)))).1 refl)));
      parameters = λ i x li lx. sym (tp i x li lx ∙ ap (λ (t : Bool). parameter_at ws i x && t) (eqb_decides (get_or pp (i * n + x) 0 + z x) (L (a + i))));
      columns = λ x l. sym (all_in m r.columns x l);
    }
      where
        eqb_decides : (u v : ℕ) → eqb u v ≡ decide (ℕ_discrete u v)
        eqb_decides u v = iff_eq (eqb u v) (decide (ℕ_discrete u v)) (λ e. (decide_iff (ℕ_discrete u v)).1 (eqb-true u v e)) (λ e. eq-eqb u v ((decide_iff (ℕ_discrete u v)).0 e))

    -- the solver takes them
    pub tight_taken : length tight-cs ≡ most_constants → length tight-ws ≡ most_rows → admissible p n a b all tight-cs tight-ws ≡ true
    unfolding admissible fitting
    tight_taken lc lw =
        and_in
        (and_in
        (and_in
        (and_in
        (and_in (and_in (and_in (and_in (le-leb n most_columns r.columns) (le-leb a most_rows (omega (arith, r.square, r.columns)))) (le-leb b most_rows (omega (arith, r.square, r.columns)))) (le-leb (a * n) (length tight-cs) (omega (arith, lc, room)))) (le-leb b (length tight-ws) (omega (arith, lw, r.square, r.columns))))
        ((within_iff n all).1 (λ x l e. all_below m r.columns x e)))
        (lt-ltb p 65536 r.p_small))
        r.prime)
        ((all_below_iff p (a * n) tight-cs).1 (λ i l. low i l))
      where
        room : a * n ≤ most_rows * most_columns
        room = mul-le-mul {n₂ = most_rows} {m₂ = most_columns} (omega (arith, r.square, r.columns)) r.columns

        low : (i : ℕ) → i < a * n → get_or tight-cs i 0 < p
        low i l = let w : Place n a i = place_split n a i l in rw w.is_place (constant_low w.row w.column w.row_below w.column_below)
