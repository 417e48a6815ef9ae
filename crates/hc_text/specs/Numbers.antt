-- Numbers in commands.
use Rattle.std.specs.Prelude.{ℕ, ◌+◌, ◌-◌, ◌*◌, ◌==◌, nat_lt, nat_le, ◌&&◌, Bool, true, List, [], ◌∷◌, length, take, drop, if◌then◌else◌, Option, Some, None, option_and_then, option_map, codes}
use Rattle.std.specs.Result.{result_ok}
use Rattle.std.specs.Str.{bytes_eq}
use Rattle.hex.specs.Hex.{decode_of}

-- the value of a digit of either case; 16 for any other byte
abbrev pub digit_of : ℕ → ℕ
digit_of b =
    if nat_le 48 b && nat_le b 57 then b - 48
    else (if nat_le 97 b && nat_le b 102 then b - 87 else (if nat_le 65 b && nat_le b 70 then b - 55 else 16))

-- each byte is a digit of the base
abbrev pub all_digits : ℕ → List ℕ → Bool
all_digits base [] = true
all_digits base (b ∷ bs) = nat_lt (digit_of b) base && all_digits base bs

-- the number of the digits of n and these after them
abbrev pub spelt_number : ℕ → ℕ → List ℕ → ℕ
spelt_number base n [] = n
spelt_number base n (b ∷ bs) = spelt_number base (n * base + digit_of b) bs

-- the number of these digits, if they are digits of the base and it is at most `most`
abbrev pub spelt_within : ℕ → ℕ → ℕ → List ℕ → Option ℕ
spelt_within base most n digits =
    if all_digits base digits && nat_le (spelt_number base n digits) most then Some (spelt_number base n digits) else None

-- the number of some digits, at least one
abbrev pub digits_number : ℕ → ℕ → List ℕ → Option ℕ
digits_number base most digits = if length digits == 0 then None else spelt_within base most 0 digits

-- a number: decimal digits, or `0x` and hexadecimal digits of either case
abbrev pub number_in : ℕ → List ℕ → Option ℕ
number_in most word =
    if bytes_eq (take 2 word) (codes "0x") then digits_number 16 most (drop 2 word) else digits_number 10 most word

-- the number of each word, if each is one of at most `most`
abbrev pub numbers_in : ℕ → List (List ℕ) → Option (List ℕ)
numbers_in most [] = Some []
numbers_in most (word ∷ words) =
    option_and_then (λ number. option_map (λ numbers. number ∷ numbers) (numbers_in most words)) (number_in most word)

-- bytes: two hexadecimal digits of either case each, and at least one byte
abbrev pub bytes_in : List ℕ → Option (List ℕ)
bytes_in word = if length word == 0 then None else result_ok (decode_of word)
