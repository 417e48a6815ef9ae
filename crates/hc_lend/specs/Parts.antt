-- A slice in parts, one after another.
use Rattle.std.specs.Prelude.{ℕ, List, ◌++◌}
use Rattle.std.specs.Borrow.{LendsBoth, MutBor, Fml, Array, u8}
use Rattle.hc_lend.specs.declared.parts.Parts.{Parts}

-- after both loans the slice is the part and the rest as they were left, joined
abbrev pub LendsPart : Parts → MutBor (List ℕ) × Parts → Fml
LendsPart parts taken = LendsBoth (Array u8 0) (Array u8 0) (Array u8 0) parts.bytes (taken.0, taken.1.bytes) ◌++◌
