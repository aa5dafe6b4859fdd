-- Bytes as the number of a word or of a set: column c is bit c mod 8 of byte c div 8. Assumes nothing.
use Rattle.std.specs.Prelude.{◌≡◌, refl, List, [], ◌∷◌, ℕ, zero, suc, ◌+◌, ◌-◌, ◌*◌, ◌/◌, ◌%◌, ◌^◌, ◌≤◌, ◌<◌, length, get_or, take, drop}
use Rattle.std.proofs.Common.{sym, ap, ◌∙◌, div-one, mul_assoc, mul-zero, arith, lit<, length-take, get_or-take, pow_pos, pow-add, shr-shr}
use Rattle.std.proofs.Math.Decide.{dec_lt}
use Rattle.std.proofs.Math.ListN.{get_or-eq_default}
use Rattle.std.proofs.Math.Pow.{field, mod-mod-pow}
use Rattle.columns.specs.Bytes.{number, bytes_of, bit_shown}
use Rattle.columns.specs.Columns.{word_width, word_bytes, room_bytes, bit}
use Rattle.columns.specs.ColumnSets.{joined}
use Rattle.columns.specs.Words.Bits.{bit_mod, bit_of_zero}
use Rattle.columns.specs.Words.Halves.{joined_low, joined_high}

-- every element is a byte
abbrev pub AreBytes : List ℕ → Type 0
AreBytes bs = (i : ℕ) → get_or bs i 0 < 256

-- ---- the bit law

low_byte : (x m : ℕ) → x < 256 → (x + 256 * m) % 2 ^ 8 ≡ x
low_byte x m l = omega arith

high_bytes : (x m : ℕ) → x < 256 → (x + 256 * m) / 2 ^ 8 ≡ m
high_bytes x m l = omega arith

number_bit : (bs : List ℕ) (c : ℕ) → AreBytes bs → bit (number bs) c ≡ bit_shown bs c
number_bit [] c b = bit_of_zero c ∙ sym (bit_of_zero (c % 8))
number_bit (x ∷ bs) c b = elim (dec_lt c 8) [
  | yes l ↦
      sym (bit_mod 8 (x + 256 * number bs) c l)
      ∙ ap (λ (m : ℕ). bit m c) (low_byte x (number bs) (b 0))
      ∙ here (c / 8) (c % 8) (omega arith) (omega arith)
  | no nl ↦
      ap (λ (k : ℕ). bit (x + 256 * number bs) k) (back nl)
      ∙ ap (λ (m : ℕ). m % 2) (sym (shr-shr (x + 256 * number bs) 8 (c - 8)))
      ∙ ap (λ (m : ℕ). bit m (c - 8)) (high_bytes x (number bs) (b 0))
      ∙ number_bit bs (c - 8) (λ i. b (suc i))
      ∙ there (c / 8) (c % 8) (omega arith) (omega arith)
]
  where
    back : ¬ (c < 8) → c ≡ 8 + (c - 8)
    back h = omega arith

    here : (q r : ℕ) → q ≡ 0 → r ≡ c → bit x c ≡ bit (get_or (x ∷ bs) q 0) r
    here q r e d = rw (e, d) refl

    there : (q r : ℕ) → q ≡ suc ((c - 8) / 8) → r ≡ (c - 8) % 8 → bit (get_or bs ((c - 8) / 8) 0) ((c - 8) % 8) ≡ bit (get_or (x ∷ bs) q 0) r
    there q r e d = rw (e, d) refl

-- THE BIT LAW of the first k bytes
pub bits_shown : (k : ℕ) (bs : List ℕ) (c : ℕ) → AreBytes bs → c < 8 * k → bit (number (take k bs)) c ≡ bit_shown bs c
bits_shown k bs c b l =
    number_bit (take k bs) c (λ i. taken i)
    ∙ ap (λ (x : ℕ). bit x (c % 8)) (get_or-take k bs (c / 8) 0 (omega arith))
  where
    taken : (i : ℕ) → get_or (take k bs) i 0 < 256
    taken i = elim (dec_lt i k) [
      | yes h ↦ rw (get_or-take k bs i 0 h) (b i)
      | no nh ↦ let past : length (take k bs) ≤ i = omega (arith, length-take k bs) in rw (get_or-eq_default (take k bs) 0 past) (lit< tt)
    ]

-- ---- how large the number of k bytes is

eight_more : (k : ℕ) → 8 * suc k ≡ 8 + 8 * k
eight_more k = omega arith

byte_more : (k : ℕ) → 2 ^ (8 * suc k) ≡ 256 * 2 ^ (8 * k)
byte_more k = ap (λ (m : ℕ). 2 ^ m) (eight_more k) ∙ pow-add 2 8 (8 * k)

pub number_below : (k : ℕ) (bs : List ℕ) → AreBytes bs → number (take k bs) < 2 ^ (8 * k)
number_below zero bs b = lit< tt
number_below (suc k) [] b = pow_pos (8 * suc k)
number_below (suc k) (x ∷ bs) b =
    omega (arith, byte_more k, b 0, number_below k bs (λ i. b (suc i)))

none_left : (m : ℕ) → number (take m []) ≡ 0
none_left zero = refl
none_left (suc m) = refl

-- ---- bytes in two parts

number_parts : (a b : ℕ) (bs : List ℕ) → number (take a bs) + 2 ^ (8 * a) * number (take b (drop a bs)) ≡ number (take (a + b) bs)
number_parts zero b bs = let e : 0 + b ≡ b = omega arith in rw e (omega arith)
number_parts (suc a) b [] = rw (none_left b, none_left (suc a + b)) (omega (arith, mul-zero (2 ^ (8 * suc a))))
number_parts (suc a) b (x ∷ bs) =
    let e : suc a + b ≡ suc (a + b) = omega arith in
    rw e (rw (byte_more a) (omega (arith, mul_assoc 256 (2 ^ (8 * a)) (number (take b (drop a bs))), number_parts a b bs)))

-- a set from its bytes: as many as a word has for the low word, and what is behind them for the high word
pub bytes_both : (bs : List ℕ) (l h : ℕ) → l ≡ number (take word_bytes bs) → h ≡ number (take word_bytes (drop word_bytes bs)) → joined l h ≡ number (take room_bytes bs)
bytes_both bs l h e d = omega (arith, number_parts word_bytes word_bytes bs)

-- ---- the bytes of a number

pub bytes_of_length : (k w : ℕ) → length (bytes_of k w) ≡ k
bytes_of_length zero w = refl
bytes_of_length (suc k) w = ap suc (bytes_of_length k (w / 256))

-- they give it back where it is small enough
pub number_bytes : (k w : ℕ) → w < 2 ^ (8 * k) → number (bytes_of k w) ≡ w
number_bytes zero w h = omega arith
number_bytes (suc k) w h =
    let i = number_bytes k (w / 256) (omega (arith, byte_more k)) in
    rw i (omega arith)

pub byte_at : (k j w : ℕ) → j < k → get_or (bytes_of k w) j 0 ≡ w / 2 ^ (8 * j) % 256
byte_at zero j w l = absurd (omega arith)
byte_at (suc k) zero w l = ap (λ (q : ℕ). q % 256) (sym (div-one w))
byte_at (suc k) (suc j) w l =
    byte_at k j (w / 256) (omega arith)
    ∙ ap (λ (q : ℕ). q % 256) (shr-shr w 8 (8 * j) ∙ ap (λ (m : ℕ). w / 2 ^ m) (sym (eight_more j)))

pub byte_past : (k j w : ℕ) → k ≤ j → get_or (bytes_of k w) j 0 ≡ 0
byte_past zero j w l = refl
byte_past (suc k) zero w l = absurd (omega arith)
byte_past (suc k) (suc j) w l = byte_past k j (w / 256) (omega arith)

-- byte i is the same among few bytes and among many
pub bytes_agree : (j k i w : ℕ) → i < j → i < k → get_or (bytes_of j w) i 0 ≡ get_or (bytes_of k w) i 0
bytes_agree j k i w h l = byte_at j i w h ∙ sym (byte_at k i w l)

-- the first j of k bytes are the j bytes
pub bytes_front : (j k w : ℕ) → j ≤ k → take j (bytes_of k w) ≡ bytes_of j w
bytes_front zero k w l = refl
bytes_front (suc j) zero w l = absurd (omega arith)
bytes_front (suc j) (suc k) w l = ap (λ (t : List ℕ). w % 256 ∷ t) (bytes_front j k (w / 256) (omega arith))

-- ---- the bytes of a set: those of its low word, and behind them those of its high word

pub byte_low : (l h k : ℕ) → l < 2 ^ word_width → k < word_bytes → get_or (bytes_of word_bytes l) k 0 ≡ get_or (bytes_of room_bytes (joined l h)) k 0
byte_low l h k b lk =
    byte_at word_bytes k l lk ∙ ap (λ (w : ℕ). w / 2 ^ (8 * k) % 256) (sym (joined_low l h b) ∙ ap (λ (m : ℕ). joined l h % 2 ^ m) room)
    ∙ ap (λ (w : ℕ). w % 256) (field (joined l h) (56 - 8 * k + 8) (8 * k))
    ∙ mod-mod-pow (joined l h / 2 ^ (8 * k)) (56 - 8 * k) 8
    ∙ sym (byte_at room_bytes k (joined l h) (omega arith))
  where
    room : word_width ≡ 56 - 8 * k + 8 + 8 * k
    room = omega arith

pub byte_high : (l h k : ℕ) → l < 2 ^ word_width → word_bytes ≤ k → get_or (bytes_of word_bytes h) (k - word_bytes) 0 ≡ get_or (bytes_of room_bytes (joined l h)) k 0
byte_high l h k b lk = elim (dec_lt k room_bytes) [
  | yes inside ↦
      byte_at word_bytes (k - word_bytes) h (omega arith) ∙ ap (λ (w : ℕ). w / 2 ^ (8 * (k - word_bytes)) % 256) (sym (joined_high l h b))
      ∙ ap (λ (w : ℕ). w % 256) (shr-shr (joined l h) word_width (8 * (k - word_bytes)) ∙ ap (λ (m : ℕ). joined l h / 2 ^ m) (place inside))
      ∙ sym (byte_at room_bytes k (joined l h) inside)
  | no past ↦ byte_past word_bytes (k - word_bytes) h (omega arith) ∙ sym (byte_past room_bytes k (joined l h) (omega arith))
]
  where
    place : k < room_bytes → word_width + 8 * (k - word_bytes) ≡ 8 * k
    place l = omega arith
