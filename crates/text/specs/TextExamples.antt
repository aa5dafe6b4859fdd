-- Text, computed: decimals at their edges, and numbers below 96 read. Assumes nothing.
use Rattle.std.specs.Prelude.{◌≡◌, refl}
use Rattle.text.specs.Text.{ascii, digits, decimal, is_digit, all_digits, is_number, value, number_below}

decimals : (decimal 0 ≡ ascii "0") × (decimal 9 ≡ ascii "9") × (decimal 10 ≡ ascii "10") × (decimal 100 ≡ ascii "100") × (decimal 999 ≡ ascii "999")
unfolding ascii digits decimal
decimals = (refl, refl, refl, refl, refl)

numbers : (number_below 96 (ascii "0") ≡ 0) × (number_below 96 (ascii "095") ≡ 95) × (number_below 96 (ascii "96") ≡ 96) × (number_below 96 (ascii "18446744073709551616") ≡ 96)
unfolding ascii is_digit all_digits is_number value number_below
numbers = (refl, refl, refl, refl)

no_numbers : (number_below 96 (ascii "") ≡ 96) × (number_below 96 (ascii "-1") ≡ 96) × (number_below 96 (ascii "1 ") ≡ 96) × (number_below 96 (ascii "1/") ≡ 96) × (number_below 96 (ascii "1:") ≡ 96)
unfolding ascii is_digit all_digits is_number value number_below
no_numbers = (refl, refl, refl, refl, refl)
