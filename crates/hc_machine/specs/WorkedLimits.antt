-- The numbers of a slave machine: another value of a constant is refused here.
use Rattle.std.specs.Prelude.{◌≡◌, refl}
use Rattle.hc_machine.specs.declared.limits.TheConstants.{ACTIVATE_BYTE, FMMUS, MEMORY_BITS, MEMORY_BYTES}

-- a slave has 12,288 bytes of memory, 0x0000 to 0x2FFF (this project's profile)
memory-bytes : MEMORY_BYTES ≡ 12288
memory-bytes = refl

-- a slave's memory has 98,304 bits
memory-bits : MEMORY_BITS ≡ 98304
memory-bits = refl

-- a slave has at most 16 FMMUs (ETG.1000.4, 6.6)
fmmus : FMMUS ≡ 16
fmmus = refl

-- byte 12 of an FMMU's block activates it (ETG.1000.4, 6.6)
activate-byte : ACTIVATE_BYTE ≡ 12
activate-byte = refl
