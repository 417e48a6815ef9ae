-- Printed numbers and bytes.
use Rattle.std.specs.Prelude.{ℕ, ◌/◌, ◌%◌, false, List, [], ◌∷◌, ◌++◌, codes}
use Rattle.std.specs.List.{flat_map}
use Rattle.std.specs.Fmt.{digit_glyph}

-- a byte: two lower-case digits
abbrev pub hex_byte : ℕ → List ℕ
hex_byte b = digit_glyph false (b / 16) ∷ digit_glyph false (b % 16) ∷ []

-- a register: `0x` and four digits
unfoldable pub hex_register : ℕ → List ℕ
hex_register n = codes "0x" ++ hex_byte (n / 256) ++ hex_byte (n % 256)

-- a logical address: `0x` and eight digits
unfoldable pub hex_address : ℕ → List ℕ
hex_address n =
    codes "0x"
    ++ hex_byte (n / 16777216)
    ++ hex_byte (n / 65536 % 256)
    ++ hex_byte (n / 256 % 256)
    ++ hex_byte (n % 256)

-- the bytes of a frame: two digits each, without a space
abbrev pub hex_bytes : List ℕ → List ℕ
hex_bytes bytes = flat_map hex_byte bytes

-- a byte of a register block, after a space
abbrev pub spaced_byte : ℕ → List ℕ
spaced_byte b = codes " " ++ hex_byte b

-- printed bytes, a space before each
abbrev pub spaced_bytes : List ℕ → List ℕ
spaced_bytes bytes = flat_map spaced_byte bytes
