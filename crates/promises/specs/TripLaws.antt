-- What a reading and a writing that are not refused say, in terms of the model. Assumes nothing.
use Rattle.std.specs.Prelude.{ℕ, ◌*◌, ◌^◌, ◌≤◌, ◌<◌, ◌≡◌, Bool, true, get_or, drop}
use Rattle.std.proofs.Math.Path.{refl, sym, ap, ap₂, subst}
use Rattle.std.proofs.Common.{◌∙◌, arith, length-take-le}
use Rattle.std.proofs.Math.Bool.{cond}
use Rattle.std.proofs.Math.Option.{Option, none, some}
use mathlib.Core.List.{List, [], ◌∷◌, flatten}
use Rattle.std.proofs.Math.ListN.{length, take}
use Rattle.columns.specs.Columns.{width, within}
use Rattle.columns.specs.Words.Bytes.{AreBytes}
use Rattle.format.specs.Lists.{All, over}
use Rattle.format.specs.OverLaws.{over_length}
use Rattle.format.specs.Numbers.{once, lent, entries_for, numbers_of, number_entries, is_numbered}
use Rattle.format.specs.NumberLaws.{entries_length, numbers_again}
use Rattle.format.specs.Refusals.{where_accepted, numbers_room, number_test, model_tests, refusal}
use Rattle.format.specs.RefusalLaws.{acceptance_reads, then_zero, zero_then, zero_unless}
use Rattle.format.specs.TestLaws.{area_reads, model_accepted, accepted_model}
use Rattle.format.specs.File.Piece.{closed}
use Rattle.format.specs.File.Format.{FileModel, ValidNumbers, ValidModel, fields, judge, decode, encode, area_tests, number_room, no_model, read_model, read_refusal, model_read, ReadCall}
use Rattle.format.specs.File.Format.{handed_over, write_refusal, bytes_written, WriteCall}
use Rattle.format.specs.File.FormatLaws.{decoded_valid, encode_decode}
use Rattle.writer.specs.HandedLaws.{handed_over_valid, written_accepted, written_read}
use Rattle.format.proofs.Rows.{over_front, flat_length, flat_all, all_second, rows_of_over, flat_of_rows}

-- ---- numbers read into an area, and handed over from there

no_numbers_of : (n : ℕ) (ws : List ℕ) → numbers_of n ws none ≡ none
unfolding numbers_of
no_numbers_of n [] = refl
no_numbers_of n (w ∷ ws) = refl

module _ (n : ℕ) (ws ks : List ℕ) where
  -- they are the numbers that were read,
  pub numbers_back : (ns : Option (List (List ℕ))) → ((kss : List (List ℕ)) → ns ≡ some kss → ValidNumbers n ws kss)
      → numbers_of n ws (lent (is_numbered ns) (over (number_entries n ws ns) ks)) ≡ ns
  unfolding lent is_numbered number_entries numbers_of over
  numbers_back none v = no_numbers_of n ws
  numbers_back (some kss) v = some_back ws kss (v kss refl)
    where
      some_back : (ws : List ℕ) (kss : List (List ℕ)) → ValidNumbers n ws kss → numbers_of n ws (some (over (entries_for n ws kss) ks)) ≡ some kss
      some_back [] kss g = absurd (omega (arith, g.some_row))
      some_back (w ∷ ws) kss g = ap some (numbers_again n (w ∷ ws) kss (drop (length (entries_for n (w ∷ ws) kss)) ks) g.number_rows g.rows_numbered)

  -- and are accepted from there
  numbers_lent : (ns : Option (List (List ℕ))) → ((kss : List (List ℕ)) → ns ≡ some kss → ValidNumbers n ws kss) → cond (is_numbered ns) (length ws * n) 0 ≤ length ks
      → numbers_room (length ws * n) (lent (is_numbered ns) (over (number_entries n ws ns) ks)) ≡ true
  unfolding lent is_numbered number_entries numbers_room
  numbers_lent none v l = refl
  numbers_lent (some kss) v l =
      let e = entries_length n ws kss (v kss refl).number_rows in
      (area_reads _ _).1 (omega (arith, over_length (entries_for n ws kss) ks (omega arith)))

  numbers_apart : (ns : Option (List (List ℕ))) → ((kss : List (List ℕ)) → ns ≡ some kss → ValidNumbers n ws kss)
      → number_test n ws (lent (is_numbered ns) (over (number_entries n ws ns) ks)) ≡ true
  unfolding lent is_numbered number_entries number_test over
  numbers_apart none v = refl
  numbers_apart (some kss) v =
      let g = v kss refl in
      ap (λ (x : List (List ℕ)). once (flatten x)) (numbers_again n ws kss (drop (length (entries_for n ws kss)) ks) g.number_rows g.rows_numbered) ∙ g.all_once

-- ---- a file in areas that hold it

-- the areas hold the constants, the parameter rows and the numbers of a model
pub record AreasHold (m : FileModel) (cs ws ks : List ℕ) : Type 0 where
  pub constants_fit : m.a * m.n ≤ length cs
  pub parameters_fit : m.b ≤ length ws
  pub numbers_fit : number_room m ≤ length ks

module _ (s cs ws ks : List ℕ) where
  pub read_zero : read_refusal s cs ws ks ≡ 0 → (judge s ≡ 0) × AreasHold (decode s) cs ws ks
  unfolding read_refusal area_tests judge
  read_zero e =
      let z = then_zero (closed fields s) _ e in
      let v = (acceptance_reads _).0 z.1 in
      (z.0, record { constants_fit = (area_reads _ _).0 v.0; parameters_fit = (area_reads _ _).0 v.1.0; numbers_fit = (area_reads _ _).0 v.1.1.0 })

  pub zero_read : judge s ≡ 0 → AreasHold (decode s) cs ws ks → read_refusal s cs ws ks ≡ 0
  unfolding read_refusal area_tests judge
  zero_read ok f =
      zero_then _ _ ok ((acceptance_reads _).1 ((area_reads _ _).1 f.constants_fit, ((area_reads _ _).1 f.parameters_fit, ((area_reads _ _).1 f.numbers_fit, tt))))

  pub read_whole : read_refusal s cs ws ks ≡ 0 → model_read s cs ws ks ≡ decode s
  unfolding model_read read_model
  read_whole e = ap (λ (k : ℕ). where_accepted k (decode s) no_model) e

-- what is read, by its two names
opened : (s cs ws ks : List ℕ) → read_model (read_refusal s cs ws ks) s ≡ model_read s cs ws ks
unfolding model_read
opened s cs ws ks = refl

-- ---- a model of the stated form, over the front of areas that hold it

module _ (m : FileModel) (v : ValidModel m) (cs ws ks : List ℕ) (f : AreasHold m cs ws ks) where
  -- the numbers as they are handed over from there
  abbrev pub stored_numbers : Option (List ℕ)
  stored_numbers = lent (is_numbered m.numbers) (over (number_entries m.n m.parameters m.numbers) ks)

  long : length (flatten m.constants) ≡ m.a * m.n
  long = flat_length (λ c. c < m.p) m.n m.constants v.constants_below ∙ ap (λ (k : ℕ). k * m.n) v.constant_rows

  constants_front : take (m.a * m.n) (over (flatten m.constants) cs) ≡ flatten m.constants
  constants_front = over_front (flatten m.constants) cs (m.a * m.n) long

  parameters_front : take m.b (over m.parameters ws) ≡ m.parameters
  parameters_front = over_front m.parameters ws m.b v.parameter_rows

  -- it is accepted from there,
  pub stored_accepted : refusal m.p m.n m.a m.b (over (flatten m.constants) cs) (over m.parameters ws) stored_numbers ≡ 0
  unfolding number_room
  stored_accepted =
      let len = long in
      let count = v.parameter_rows in
      let room = f.constants_fit in
      let more = f.parameters_fit in
      let below = flat_all (λ c. c < m.p) m.n m.constants v.constants_below in
      let inside = all_second _ _ m.parameters v.parameters_within in
      accepted_model _ _ _ _ _ _ stored_numbers (record {
        prime = v.prime;
        p_most = v.p_most;
        n_least = v.n_least;
        n_most = v.n_most;
        a_most = v.a_most;
        b_most = v.b_most;
        constants_lent = omega (arith, over_length (flatten m.constants) cs (omega arith));
        parameters_lent = omega (arith, over_length m.parameters ws (omega arith));
        numbers_lent = ap (λ (k : ℕ). numbers_room (k * m.n) stored_numbers) (sym count)
            ∙ numbers_lent m.n m.parameters ks m.numbers v.numbers_are (subst (λ (k : ℕ). cond (is_numbered m.numbers) (k * m.n) 0 ≤ length ks) (sym count) f.numbers_fit);
        constants_below = subst (All (λ c. c < m.p)) (sym constants_front) below;
        parameters_within = subst (All (λ w. within m.n w ≡ true)) (sym parameters_front) inside;
        numbers_once = ap (λ (us : List ℕ). number_test m.n us stored_numbers) parameters_front ∙ numbers_apart m.n m.parameters ks m.numbers v.numbers_are;
      })

  -- and is the model handed over from there
  pub stored_handed_over : handed_over m.p m.n m.a m.b (over (flatten m.constants) cs) (over m.parameters ws) stored_numbers ≡ m
  unfolding handed_over
  stored_handed_over =
      ap₂ (λ (rows : List (List ℕ)) (words : List ℕ). record { p = m.p; n = m.n; a = m.a; b = m.b; constants = rows; parameters = words; numbers = numbers_of m.n words stored_numbers })
      (rows_of_over (λ c. c < m.p) m.n m.constants m.a cs v.constant_rows v.constants_below)
      parameters_front
      ∙ ap (λ (ns : Option (List (List ℕ))). record { p = m.p; n = m.n; a = m.a; b = m.b; constants = m.constants; parameters = m.parameters; numbers = ns }) (numbers_back m.n m.parameters ks m.numbers v.numbers_are)

-- ---- a model written

module _ (p n a b : ℕ) (cs ws : List ℕ) (ns : Option (List ℕ)) (out : List ℕ) where
  pub zero_write : refusal p n a b cs ws ns ≡ 0 → length (encode (handed_over p n a b cs ws ns)) ≤ length out → write_refusal p n a b cs ws ns out ≡ 0
  unfolding write_refusal refusal
  zero_write e l = zero_then _ _ e (zero_unless _ _ ((area_reads _ _).1 l))

  pub write_zero : write_refusal p n a b cs ws ns out ≡ 0 → refusal p n a b cs ws ns ≡ 0
  unfolding write_refusal refusal
  write_zero e = (then_zero (model_tests p n a b cs ws ns) _ e).0

  pub write_whole : write_refusal p n a b cs ws ns out ≡ 0 → bytes_written p n a b cs ws ns out ≡ encode (handed_over p n a b cs ws ns)
  unfolding bytes_written
  write_whole e = ap (λ (k : ℕ). where_accepted k (encode (handed_over p n a b cs ws ns)) []) e

-- ---- the trips

pub read_then_written : (s cs ws ks : List ℕ) → AreBytes s → (p n a b : ℕ) (u : Bool) (cs' ws' ks' : List ℕ) → ReadCall s cs ws ks 0 p n a b u cs' ws' ks'
    → (out : List ℕ) → length s ≤ length out → (r len : ℕ) (out' : List ℕ) → WriteCall p n a b cs' ws' (lent u ks') out r len out'
    → (r ≡ 0) × (len ≡ length s) × (out' ≡ over s out)
read_then_written s cs ws ks bytes p n a b u cs' ws' ks' h out l r len out' w =
    let g = h.rows_are in
    let z = read_zero s cs ws ks (sym g.refusal_is) in
    let all : model_read s cs ws ks ≡ decode s = read_whole s cs ws ks (sym g.refusal_is) in
    let v = decoded_valid s bytes z.0 in
    let m = decode s in
    let ep : p ≡ m.p = g.p_is ∙ ap (λ (x : FileModel). x.p) (same all) in
    let en : n ≡ m.n = g.n_is ∙ ap (λ (x : FileModel). x.n) (same all) in
    let ea : a ≡ m.a = g.a_is ∙ ap (λ (x : FileModel). x.a) (same all) in
    let eb : b ≡ m.b = g.b_is ∙ ap (λ (x : FileModel). x.b) (same all) in
    let eu : u ≡ is_numbered m.numbers = g.numbered_is ∙ ap (λ (x : FileModel). is_numbered x.numbers) (same all) in
    let ec : cs' ≡ over (flatten m.constants) cs = g.constants_are ∙ ap (λ (x : FileModel). over (flatten x.constants) cs) (same all) in
    let ew : ws' ≡ over m.parameters ws = g.parameters_are ∙ ap (λ (x : FileModel). over x.parameters ws) (same all) in
    let ek : ks' ≡ over (number_entries m.n m.parameters m.numbers) ks = h.numbers_are ∙ ap (λ (x : FileModel). over (number_entries x.n x.parameters x.numbers) ks) all in
    let ns = lent u ks' in
    let taken : refusal p n a b cs' ws' ns ≡ 0 = rw (ep, en, ea, eb, eu, ec, ew, ek) (stored_accepted m v cs ws ks z.1) in
    let handed : handed_over p n a b cs' ws' ns ≡ m = rw (ep, en, ea, eb, eu, ec, ew, ek) (stored_handed_over m v cs ws ks z.1) in
    let whole : encode m ≡ s = encode_decode s bytes z.0 in
    let size : length (encode (handed_over p n a b cs' ws' ns)) ≡ length s = ap length (ap encode handed ∙ whole) in
    let ok : write_refusal p n a b cs' ws' ns out ≡ 0 = zero_write p n a b cs' ws' ns out taken (omega (arith, size, l)) in
    let file : bytes_written p n a b cs' ws' ns out ≡ s = write_whole p n a b cs' ws' ns out ok ∙ ap encode handed ∙ whole in
    (w.refusal_is ∙ ok, w.length_is ∙ ap length file, w.bytes_are ∙ ap (λ (t : List ℕ). over t out) file)
  where
    same : model_read s cs ws ks ≡ decode s → read_model (read_refusal s cs ws ks) s ≡ decode s
    same e = opened s cs ws ks ∙ e

module _ (p n a b : ℕ) (cs ws : List ℕ) (ns : Option (List ℕ)) (words : (i : ℕ) → get_or ws i 0 < 2 ^ width) (small : (ks : List ℕ) → ns ≡ some ks → (i : ℕ) → get_or ks i 0 < 65536) where
  pub written_then_read : (out : List ℕ) (len : ℕ) (out' : List ℕ) → WriteCall p n a b cs ws ns out 0 len out'
      → (cs₂ ws₂ ks₂ : List ℕ) → a * n ≤ length cs₂ → b ≤ length ws₂ → number_room (handed_over p n a b cs ws ns) ≤ length ks₂
      → (k p' n' a' b' : ℕ) (u : Bool) (cs₂' ws₂' ks₂' : List ℕ) → ReadCall (take len out') cs₂ ws₂ ks₂ k p' n' a' b' u cs₂' ws₂' ks₂'
      → (k ≡ 0) × (p' ≡ p) × (n' ≡ n) × (a' ≡ a) × (b' ≡ b) × (take (a * n) cs₂' ≡ take (a * n) cs) × (take b ws₂' ≡ take b ws)
      × (u ≡ is_numbered (numbers_of n (take b ws) ns)) × (numbers_of n (take b ws) (lent u ks₂') ≡ numbers_of n (take b ws) ns)
  unfolding handed_over
  written_then_read out len out' w cs₂ ws₂ ks₂ fc fw fk k p' n' a' b' u cs₂' ws₂' ks₂' h =
      let ok = sym w.refusal_is in
      let taken = write_zero p n a b cs ws ns out ok in
      let m = handed_over p n a b cs ws ns in
      let whole = write_whole p n a b cs ws ns out ok in
      let t = take len out' in
      let file : take len out' ≡ encode m =
      ap (take len) w.bytes_are ∙ over_front (bytes_written p n a b cs ws ns out) out len (sym w.length_is) ∙ whole in
      let good : judge (take len out') ≡ 0 = ap judge file ∙ written_accepted p n a b cs ws ns words small taken in
      let back : decode (take len out') ≡ m = ap decode file ∙ written_read p n a b cs ws ns words small taken in
      let fits : AreasHold (decode t) cs₂ ws₂ ks₂ =
      subst (λ (x : FileModel). AreasHold x cs₂ ws₂ ks₂) (sym back) (record { constants_fit = fc; parameters_fit = fw; numbers_fit = fk }) in
      let none = zero_read t cs₂ ws₂ ks₂ good fits in
      let all : model_read (take len out') cs₂ ws₂ ks₂ ≡ m = read_whole t cs₂ ws₂ ks₂ none ∙ back in
      let same = opened t cs₂ ws₂ ks₂ ∙ all in
      let acc = model_accepted p n a b cs ws ns taken in
      let valid = handed_over_valid p n a b cs ws ns words small taken in
      let g = h.rows_are in
      let ec : cs₂' ≡ over (take (a * n) cs) cs₂ =
      g.constants_are ∙ ap (λ (x : FileModel). over (flatten x.constants) cs₂) same ∙ ap (λ (u : List ℕ). over u cs₂) (flat_of_rows n a cs) in
      let ew : ws₂' ≡ over (take b ws) ws₂ = g.parameters_are ∙ ap (λ (x : FileModel). over x.parameters ws₂) same in
      let eu : u ≡ is_numbered m.numbers = g.numbered_is ∙ ap (λ (x : FileModel). is_numbered x.numbers) same in
      let ek : ks₂' ≡ over (number_entries n (take b ws) m.numbers) ks₂ = h.numbers_are ∙ ap (λ (x : FileModel). over (number_entries x.n x.parameters x.numbers) ks₂) all in (
        g.refusal_is ∙ none,
        g.p_is ∙ ap (λ (x : FileModel). x.p) same,
        g.n_is ∙ ap (λ (x : FileModel). x.n) same,
        g.a_is ∙ ap (λ (x : FileModel). x.a) same,
        g.b_is ∙ ap (λ (x : FileModel). x.b) same,
        ap (take (a * n)) ec ∙ over_front (take (a * n) cs) cs₂ (a * n) (length-take-le (a * n) cs acc.constants_lent),
        ap (take b) ew ∙ over_front (take b ws) ws₂ b (length-take-le b ws acc.parameters_lent),
        eu,
        ap₂ (λ (t : Bool) (ks : List ℕ). numbers_of n (take b ws) (lent t ks)) eu ek ∙ numbers_back n (take b ws) ks₂ m.numbers valid.numbers_are,
      )
