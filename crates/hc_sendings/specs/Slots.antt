-- Slots for frames of register writes that are awaited, each with one of them or with none. Contracts inside the crate cite it.
use Rattle.std.specs.Prelude.{ℕ, ◌==◌, not, List, [], ◌∷◌, ◌++◌, filter}
use Rattle.hc_sendings.specs.Waiting.{AwaitedWrite}

-- the writes of the slots, one slot after another
abbrev pub in_slots : List (List AwaitedWrite) → List AwaitedWrite
in_slots [] = []
in_slots (slot ∷ slots) = slot ++ in_slots slots

-- writes that are awaited no longer
abbrev pub none_of : List AwaitedWrite → List AwaitedWrite
none_of writes = []

-- writes without those that have a serial
abbrev pub writes_without : ℕ → List AwaitedWrite → List AwaitedWrite
writes_without serial writes = filter (λ write. not (write.serial == serial)) writes
