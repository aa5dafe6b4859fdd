-- The rows of a file as loops read them into areas, and what the areas then hold. Assumes nothing.
use Prim.Native.Nat.{ℕ, zero, suc, ◌+◌, ◌*◌, ◌-◌, ◌/◌, ◌≤◌, ◌<◌}
use mathlib.Core.Path.{◌≡◌, refl, sym, ap, ◌∙◌, subst}
use mathlib.Core.Logic.{◌≢◌}
use mathlib.Core.Bool.{Bool, true, false, false≢true, cond}
use lib.Dec.{leb}
use mathlib.Core.Option.{Option, none, some}
use mathlib.Core.List.{List, [], ◌∷◌, ◌++◌, flatten, flat_map}
use native.Mathlib.Omega.{arith}
use native.Mathlib.Nat.{suc-mul, zero-mul}
use Rattle.std.proofs.lemmas.List.{take_more_set}
use lib.ListN.{length, set, get_or, take, drop, length-append, length-drop}
use borrow.Author.Tests.{leb-true, le-leb, lt-leb}
use Rattle.columns.specs.Bytes.{number}
use Rattle.columns.specs.Words.Bytes.{AreBytes}
use Rattle.columns.specs.Columns.{room_bytes}
use Rattle.loader.specs.declared.header.Sizes.{Sizes}
use Rattle.loader.specs.FileRead.{SizesOf, RowsReading, FileRead, room_test}
use Rattle.format.specs.declared.refusals.Refusal.{Refusal}
use Rattle.format.specs.declared.refusals.Refusal.TheVariants.{AreaShort}
use Rattle.format.proofs.Refused.{refusal_some}
use Rattle.format.specs.Refused.{refusal_number}
use Rattle.std.specs.Prelude.{Ok, Err, None, Some}
use Rattle.std.specs.Prelude as opt
use Rattle.std.specs.Option.{MatchOption}
use Rattle.format.specs.Lists.{All, over}
use Rattle.format.specs.OverLaws.{over_none, Wrote, wrote_run}
use Rattle.std.proofs.Common.{add-one, append-nil, append_assoc, length-set, take_all, drop_of_length-le}
use Rattle.format.specs.Numbers.{spread, number_entries, is_numbered}
use Rattle.counting.specs.Sets.{Set}
use Rattle.format.specs.NumberLaws.{spread_length}
use Rattle.format.specs.Refusals.{unless, ◌then◌, first_refusal, number_of, area_short, area_test}
use Rattle.format.specs.RefusalLaws.{first_fails, first_passes, first_none, then_refused, then_passed, last_passed, where_refused, accepted_value}
use Rattle.format.specs.File.Piece.{closed, said_body, said_rest, said_bodies, said_rests}
use Rattle.format.specs.File.Format.{FileModel, entries, fields, judge, decode, rows_part, area_tests, number_room, no_model, read_model, RowsRead, rows_refusal, read_refusal, model_read, ReadCall}
use Rattle.format.specs.File.FormatLaws.{decoded_valid}
use Rattle.format.specs.File.Steps.{constants_said, fields_of_row, parameters_said, row_entries_said, numbers_said}
use Rattle.format.proofs.Walking.{said_rests_behind, rows_said, constants_decoded, parameters_decoded, numbers_decoded}

-- ---- entry after entry, two bytes each

pub entries_taken : (s x t : List ℕ) → s ≡ x ++ t → length x ≡ 2 → entries s ≡ (get_or x 0 0 + 256 * get_or x 1 0) ∷ entries t
unfolding entries
entries_taken s [] t e l = absurd (omega arith)
entries_taken s (a ∷ []) t e l = absurd (omega arith)
entries_taken s (a ∷ b ∷ []) t e l = ap entries e
entries_taken s (a ∷ b ∷ c ∷ x) t e l = absurd (omega arith)

pub entries_count : (s : List ℕ) → length (entries s) ≡ length s / 2
unfolding entries
entries_count [] = refl
entries_count (a ∷ []) = refl
entries_count (a ∷ b ∷ s) = omega (arith, entries_count s)

-- the entry at column c of a row, by whether there is a parameter and a number for it
module _ (S : Set) (c n : ℕ) (h : c < n) where
  pub spread_taken : (k : ℕ) (ks : List ℕ) → S c ≡ true → spread S c (n - c) (k ∷ ks) ≡ k ∷ spread S (c + 1) (n - (c + 1)) ks
  unfolding spread
  spread_taken k ks t = let q : n - c ≡ suc (n - (c + 1)) = omega arith in rw (q, add-one, t) refl

  pub spread_out : S c ≡ true → spread S c (n - c) [] ≡ 0 ∷ spread S (c + 1) (n - (c + 1)) []
  unfolding spread
  spread_out t = let q : n - c ≡ suc (n - (c + 1)) = omega arith in rw (q, add-one, t) refl

  pub spread_passed : (ks : List ℕ) → S c ≡ false → spread S c (n - c) ks ≡ 0 ∷ spread S (c + 1) (n - (c + 1)) ks
  unfolding spread
  spread_passed ks t = let q : n - c ≡ suc (n - (c + 1)) = omega arith in rw (q, add-one, t) refl

-- and the row as it stands with that entry stored
pub spread_stored : (S : Set) (out : List ℕ) (c k : ℕ) (all ks rest : List ℕ) → c < length out → take c out ++ spread S c (length out - c) ks ≡ spread S 0 (length out) all
    → spread S c (length out - c) ks ≡ k ∷ spread S (c + 1) (length out - (c + 1)) rest
    → take (c + 1) (set out c k) ++ spread S (c + 1) (length (set out c k) - (c + 1)) rest ≡ spread S 0 (length (set out c k)) all
spread_stored S out c k all ks rest h e n = rw (length-set, take_more_set out c k h, append_assoc) (rw n at e)

-- what an iterator says that gives nothing
pub given_nothing : {A : Type 0} {o : opt.Option A} (P : Type 0) (Q : A → Type 0) → ((x : A) → o ≡ Some x → ⊥) → MatchOption o P Q → P
given_nothing {A} {o} P Q h m = go o h m
  where
    go : (o : opt.Option A) → ((x : A) → o ≡ Some x → ⊥) → MatchOption o P Q → P
    go None h m = m
    go (Some x) h m = absurd (h x refl)

-- the next run, written over the part that it fills
pub wrote_part : {all todo d₀ d : List ℕ} {at : ℕ} (bs rest : List ℕ) (k : ℕ) → Wrote all todo d₀ d at → todo ≡ bs ++ rest → length bs ≡ k
    → Wrote all rest d₀ (take at d ++ (bs ++ drop k (drop at d))) (at + k)
unfolding over
wrote_part {all} {todo} {d₀} {d} {at} bs rest k w t l =
    let m : length (drop at d) ≡ length d - at = length-drop at d in
    let u : take (length d - at) (drop at d) ≡ drop at d = take_all (length d - at) (drop at d) (omega arith) in
    let z : drop (length d - at) (drop at d) ≡ [] = drop_of_length-le (drop at d) (omega arith) in
    let v = wrote_run {d = d} {at = at} bs rest (bs ++ drop k (drop at d)) k w t (rw (u, l) refl) l in
    subst (λ (x : List ℕ). Wrote all rest d₀ x (at + k)) (ap (λ (x : List ℕ). take at d ++ x) (ap (λ (x : List ℕ). (bs ++ drop k (drop at d)) ++ x) z ∙ append-nil (bs ++ drop k (drop at d)))) v

-- ---- row after row, as loops take them

module _ (k i : ℕ) (s : List ℕ) where
  pub rests_next : i < k → said_rests (k - i) s ≡ said_rests (k - (i + 1)) (said_rest s)
  unfolding said_rests
  rests_next h = let q : k - i ≡ suc (k - (i + 1)) = omega arith in rw q refl

  pub constants_next : i < k → constants_said (k - i) s ≡ entries (said_body s) ++ constants_said (k - (i + 1)) (said_rest s)
  unfolding constants_said said_bodies flat_map
  constants_next h = let q : k - i ≡ suc (k - (i + 1)) = omega arith in rw q refl

  pub parameters_next : (step : ℕ) → i < k → parameters_said step (k - i) s ≡ number (take room_bytes (said_body s)) ∷ parameters_said step (k - (i + 1)) (said_rests step s)
  unfolding parameters_said
  parameters_next step h = let q : k - i ≡ suc (k - (i + 1)) = omega arith in rw q refl

  pub numbers_next : (n : ℕ) → i < k → numbers_said n (k - i) s ≡ row_entries_said n s ++ numbers_said n (k - (i + 1)) (said_rests 2 s)
  unfolding numbers_said
  numbers_next n h = let q : k - i ≡ suc (k - (i + 1)) = omega arith in rw q refl

  pub rests_done : k ≤ i → said_rests (k - i) s ≡ s
  unfolding said_rests
  rests_done h = let q : k - i ≡ 0 = omega arith in rw q refl

  pub constants_done : k ≤ i → constants_said (k - i) s ≡ []
  unfolding constants_said said_bodies flat_map
  constants_done h = let q : k - i ≡ 0 = omega arith in rw q refl

  pub parameters_done : (step : ℕ) → k ≤ i → parameters_said step (k - i) s ≡ []
  unfolding parameters_said
  parameters_done step h = let q : k - i ≡ 0 = omega arith in rw q refl

  pub numbers_done : (n : ℕ) → k ≤ i → numbers_said n (k - i) s ≡ []
  unfolding numbers_said
  numbers_done n h = let q : k - i ≡ 0 = omega arith in rw q refl

pub parameters_length : (step k : ℕ) (s : List ℕ) → length (parameters_said step k s) ≡ k
unfolding parameters_said
parameters_length step zero s = refl
parameters_length step (suc k) s = ap suc (parameters_length step k (said_rests step s))

pub row_entries_length : (n : ℕ) (s : List ℕ) → length (row_entries_said n s) ≡ n
unfolding row_entries_said
row_entries_length n s = spread_length _ 0 n _

pub numbers_said_length : (n k : ℕ) (s : List ℕ) → length (numbers_said n k s) ≡ k * n
unfolding numbers_said
numbers_said_length n zero s = sym (zero-mul n)
numbers_said_length n (suc k) s =
    let m : suc k * n ≡ k * n + n = suc-mul k n in
    omega (arith, length-append (row_entries_said n s) (numbers_said n k (said_rests 2 s)), row_entries_length n s, numbers_said_length n k (said_rests 2 s))

-- ---- how many constants an accepted file has

rows_length : (n : ℕ) (Is : List ℕ → Type 0) (rs : List (List ℕ)) → All (λ r. (length r ≡ n) × Is r) rs → length (flatten rs) ≡ length rs * n
unfolding flatten
rows_length n Is [] v = sym (zero-mul n)
rows_length n Is (r ∷ rs) v =
    let i = rows_length n Is rs v.1 in
    let l = v.0.0 in
    let m : suc (length rs) * n ≡ length rs * n + n = suc-mul (length rs) n in
    rw length-append (omega arith)

constants_count : (s : List ℕ) → AreBytes s → judge s ≡ 0 → length (constants_said (decode s).a (rows_part s)) ≡ (decode s).a * (decode s).n
constants_count s h e =
    let v = decoded_valid s h e in
    ap length (constants_decoded s e) ∙ rows_length (decode s).n _ (decode s).constants v.constants_below ∙ ap (λ (k : ℕ). k * (decode s).n) v.constant_rows

-- an area that holds a rows of n constants holds those of the file
pub constants_fit : {s : List ℕ} {z : Sizes} → AreBytes s → SizesOf s z → (k : ℕ) → z.a * z.n ≤ k → length (constants_said z.a (rows_part s)) ≤ k
constants_fit {s} h x k l = rw (x.a_is, constants_count s h x.is_accepted) (rw (x.a_is, x.n_is) at l)

-- ---- rows read into areas

nothing_read : (due : ℕ) (s cs ws : List ℕ) → due ≢ 0 → RowsRead due s cs ws due 0 0 0 0 false cs ws
unfolding read_model flatten is_numbered
nothing_read due s cs ws h =
    let none = sym (where_refused due refl h (decode s) no_model) in
    record {
      refusal_is = refl;
      p_is = ap (λ (m : FileModel). m.p) none;
      n_is = ap (λ (m : FileModel). m.n) none;
      a_is = ap (λ (m : FileModel). m.a) none;
      b_is = ap (λ (m : FileModel). m.b) none;
      numbered_is = ap (λ (m : FileModel). is_numbered m.numbers) none;
      constants_are = over_none cs ∙ ap (λ (m : FileModel). over (flatten m.constants) cs) none;
      parameters_are = over_none ws ∙ ap (λ (m : FileModel). over m.parameters ws) none;
    }

none_read : (k due : ℕ) (s cs ws : List ℕ) → k ≡ due → k ≢ 0 → RowsRead due s cs ws k 0 0 0 0 false cs ws
none_read k due s cs ws e h = subst (λ (j : ℕ). RowsRead j s cs ws k 0 0 0 0 false cs ws) e (nothing_read k s cs ws h)

module _ (s cs ws : List ℕ) where
  pub reading_refused : (e : Refusal) → refusal_number e ≡ judge s → RowsReading s cs ws (Err e) cs ws
  unfolding rows_refusal judge
  reading_refused e q = none_read (refusal_number e) (rows_refusal s cs ws) s cs ws (then_refused (closed fields s) _ (refusal_number e) q (refusal_some e)) (refusal_some e)

  module _ {z : Sizes} (h : SizesOf s z) where
    short : number_of area_short ≡ rows_refusal s cs ws → RowsReading s cs ws (Err AreaShort) cs ws
    short q = none_read (number_of area_short) (rows_refusal s cs ws) s cs ws q (λ x. omega arith)

    pub constants_short : length cs < z.a * z.n → RowsReading s cs ws (Err AreaShort) cs ws
    unfolding rows_refusal area_tests judge area_test
    constants_short l = short (then_passed (closed fields s) _ _ h.is_accepted (first_fails _ _ _ (lt-leb _ _ (rw (h.a_is, h.n_is) at l))))

    module _ (c : z.a * z.n ≤ length cs) where
      pub parameters_short : length ws < z.b → RowsReading s cs ws (Err AreaShort) cs ws
      unfolding rows_refusal area_tests judge area_test
      parameters_short l =
          short (then_passed (closed fields s) _ _ h.is_accepted (first_passes _ _ _ _ (le-leb _ _ (rw (h.a_is, h.n_is) at c)) (first_fails _ _ _ (lt-leb _ _ (rw h.b_is at l)))))

      pub reading_done : z.b ≤ length ws → (cs' ws' : List ℕ) → cs' ≡ over (constants_said z.a (rows_part s)) cs
          → ws' ≡ over (parameters_said (fields_of_row z.numbered) z.b (said_rests z.a (rows_part s))) ws → RowsReading s cs ws (Ok z) cs' ws'
      unfolding rows_refusal area_tests judge area_test read_model
      reading_done l cs' ws' q r =
          let e = h.is_accepted in
          let due : 0 ≡ rows_refusal s cs ws =
          then_passed (closed fields s) _ 0 e (first_passes _ _ _ _ (le-leb _ _ (rw (h.a_is, h.n_is) at c)) (first_passes _ _ _ _ (le-leb _ _ (rw h.b_is at l)) first_none)) in
          let all = sym (accepted_value 0 due refl (decode s) no_model) in
          let rows : parameters_said (fields_of_row z.numbered) z.b (said_rests z.a (rows_part s)) ≡ (decode s).parameters =
          rw (h.numbered_is, h.b_is, h.a_is) (parameters_decoded s e) in
          record {
            refusal_is = due;
            p_is = h.p_is ∙ ap (λ (m : FileModel). m.p) all;
            n_is = h.n_is ∙ ap (λ (m : FileModel). m.n) all;
            a_is = h.a_is ∙ ap (λ (m : FileModel). m.a) all;
            b_is = h.b_is ∙ ap (λ (m : FileModel). m.b) all;
            numbered_is = h.numbered_is ∙ ap (λ (m : FileModel). is_numbered m.numbers) all;
            constants_are = q ∙ ap (λ (x : List ℕ). over x cs) (ap (λ (k : ℕ). constants_said k (rows_part s)) h.a_is ∙ constants_decoded s e ∙ ap (λ (m : FileModel). flatten m.constants) all);
            parameters_are = r ∙ ap (λ (x : List ℕ). over x ws) (rows ∙ ap (λ (m : FileModel). m.parameters) all);
          }

-- ---- and the numbers

no_numbers : (n : ℕ) (ws : List ℕ) (ns : Option (List (List ℕ))) → is_numbered ns ≡ false → number_entries n ws ns ≡ []
unfolding is_numbered number_entries
no_numbers n ws none e = refl
no_numbers n ws (some kss) e = absurd (false≢true (sym e))

-- one area or the other is short
one_short : (t u : Bool) → number_of area_short ≡ first_refusal (unless t area_short then unless u area_short then unless false area_short)
unfolding first_refusal
one_short true true = refl
one_short true false = refl
one_short false u = refl

-- the test of their area
room_same : (t : Bool) (k len : ℕ) → cond t (leb k len) true ≡ leb (cond t k 0) len
room_same true k len = refl
room_same false k len = sym (le-leb 0 len (omega arith))

module _ {s : List ℕ} {z : Sizes} (h : SizesOf s z) (len : ℕ) where
  pub room_is : room_test z len ≡ area_test (number_room (decode s)) len
  unfolding area_test number_room
  room_is = room_same z.numbered (z.b * z.n) len ∙ rw (h.numbered_is, h.b_is, h.n_is) refl

  pub room_enough : room_test z len ≡ true → z.numbered ≡ true → z.b * z.n ≤ len
  room_enough t n = leb-true _ _ (ap (λ (b : Bool). cond b (leb (z.b * z.n) len) true) (sym n) ∙ t)

module _ (s cs ws ks : List ℕ) where
  -- nothing is stored where nothing is read
  nothing_stored : (k : ℕ) → k ≡ read_refusal s cs ws ks → k ≢ 0 → ReadCall s cs ws ks k 0 0 0 0 false cs ws ks
  unfolding model_read read_model number_entries
  nothing_stored k q h =
      record {
        rows_are = none_read k (read_refusal s cs ws ks) s cs ws q h;
        numbers_are = over_none ks ∙ ap (λ (m : FileModel). over (number_entries m.n m.parameters m.numbers) ks) (sym (where_refused k q h (decode s) no_model));
      }

  pub file_refused : (e : Refusal) → refusal_number e ≡ judge s → FileRead s cs ws ks (Err e) cs ws ks
  unfolding read_refusal judge
  file_refused e q = nothing_stored (refusal_number e) (then_refused (closed fields s) _ (refusal_number e) q (refusal_some e)) (refusal_some e)

  module _ {z : Sizes} (h : SizesOf s z) where
    pub file_short : room_test z (length ks) ≡ false → FileRead s cs ws ks (Err AreaShort) cs ws ks
    unfolding read_refusal judge area_tests
    file_short t =
        let due : number_of area_short ≡ read_refusal s cs ws ks =
        then_passed (closed fields s) _ _ h.is_accepted
        (one_short _ _ ∙ ap (λ (b : Bool). first_refusal (area_tests (decode s) cs ws then unless b area_short)) (sym (sym (room_is h (length ks)) ∙ t))) in
        nothing_stored (number_of area_short) due (λ x. omega arith)

    module _ (t : room_test z (length ks) ≡ true) where
      -- an area that holds them makes no other refusal
      read_same : rows_refusal s cs ws ≡ read_refusal s cs ws ks
      unfolding rows_refusal read_refusal judge
      read_same =
          let e = h.is_accepted in
          let own : first_refusal (area_tests (decode s) cs ws) ≡ first_refusal (area_tests (decode s) cs ws then unless (area_test (number_room (decode s)) (length ks)) area_short) =
          last_passed (area_tests (decode s) cs ws) _ _ (sym (room_is h (length ks)) ∙ t) in
          sym (then_passed (closed fields s) (area_tests (decode s) cs ws) _ e refl) ∙ own ∙ then_passed (closed fields s) _ _ e refl

      pub rows_refused : (e : Refusal) {cs' ws' : List ℕ} → RowsReading s cs ws (Err e) cs' ws' → FileRead s cs ws ks (Err e) cs' ws' ks
      unfolding model_read read_model number_entries
      rows_refused e {cs'} {ws'} r =
          let q : refusal_number e ≡ read_refusal s cs ws ks = r.refusal_is ∙ read_same in
          record {
            rows_are = subst (λ (k : ℕ). RowsRead k s cs ws (refusal_number e) 0 0 0 0 false cs' ws') read_same r;
            numbers_are = over_none ks ∙ ap (λ (m : FileModel). over (number_entries m.n m.parameters m.numbers) ks) (sym (where_refused (refusal_number e) q (refusal_some e) (decode s) no_model));
          }

      module _ {cs' ws' : List ℕ} (r : RowsReading s cs ws (Ok z) cs' ws') where
        -- what is stored of a file that was read
        file_stored : (ks' : List ℕ) → ks' ≡ over (number_entries (decode s).n (decode s).parameters (decode s).numbers) ks → FileRead s cs ws ks (Ok z) cs' ws' ks'
        unfolding model_read read_model
        file_stored ks' q =
            let due : 0 ≡ read_refusal s cs ws ks = r.refusal_is ∙ read_same in
            record {
              rows_are = subst (λ (k : ℕ). RowsRead k s cs ws 0 z.p z.n z.a z.b z.numbered cs' ws') read_same r;
              numbers_are = q ∙ ap (λ (m : FileModel). over (number_entries m.n m.parameters m.numbers) ks) (sym (accepted_value 0 due refl (decode s) no_model));
            }

        pub numbers_read : z.numbered ≡ true → {ks' : List ℕ} → ks' ≡ over (numbers_said z.n z.b (said_rests (2 + z.a) s)) ks → FileRead s cs ws ks (Ok z) cs' ws' ks'
        numbers_read n {ks'} q =
            let e = h.is_accepted in
            let behind : said_rests (2 + (decode s).a) s ≡ said_rests (decode s).a (rows_part s) = said_rests_behind (decode s).a s ∙ ap (said_rests (decode s).a) (rows_said s e) in
            let said : numbers_said z.n z.b (said_rests (2 + z.a) s) ≡ number_entries (decode s).n (decode s).parameters (decode s).numbers =
            rw (h.n_is, h.a_is, h.b_is) (ap (numbers_said (decode s).n (decode s).b) behind ∙ numbers_decoded s e (sym h.numbered_is ∙ n)) in
            file_stored ks' (q ∙ ap (λ (t : List ℕ). over t ks) said)

        pub unnumbered_read : z.numbered ≡ false → FileRead s cs ws ks (Ok z) cs' ws' ks
        unnumbered_read n = file_stored ks (over_none ks ∙ ap (λ (t : List ℕ). over t ks) (sym (no_numbers (decode s).n (decode s).parameters (decode s).numbers (sym h.numbered_is ∙ n))))
