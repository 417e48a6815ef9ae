use Rattle.std.proofs.Common.{◌≡◌, ◌≤◌, ◌+◌, ◌*◌, ◌++◌, take, string_bytes}
use Rattle.std.specs.List.{flat_map}
use Rattle.std.specs.String.{string_capacity, string_len}
use Rattle.hc_text.specs.Printing.{hex_byte}
use Rattle.hc_text.proofs.room.add_bytes.Given as goal

-- the bytes so far are printed, and there is room for the others
abbrev pub invariant-loop-byte : goal.invariant-loop-byte
invariant-loop-byte l = record {
  bytes : string_bytes l.out ≡ string_bytes l.fn.out ++ flat_map hex_byte (take l.byte-index l.bytes);
  len : string_len l.out ≡ string_len l.fn.out + 2 * l.byte-index;
  room : string_capacity l.fn.out ≤ string_capacity l.out;
}
