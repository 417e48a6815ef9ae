-- The value of a machine, once the loan of its memory is over.
use Rattle.std.specs.Prelude.{ℕ, List, ◌++◌, length, take, drop}
use Rattle.std.specs.Borrow.{Lends, MutBor, Fml, Array, u8}
use Rattle.hc_machine.specs.contracts.machine.SlaveMachine as machine

-- bytes with what was written over their first ones: as many bytes as before
abbrev pub bytes_overwritten : List ℕ → List ℕ → List ℕ
bytes_overwritten bytes written = take (length bytes) (written ++ drop (length written) bytes)

-- the machine, with what was left written over its memory
abbrev pub LendsMemory : MutBor (List ℕ) → MutBor (List ℕ) → Fml
LendsMemory memory lent = Lends machine.the_row (Array u8 0) memory lent (bytes_overwritten memory.now)
