-- A list that lends an element.
use Rattle.std.specs.Prelude.{ℕ, List, slice_set}
use Rattle.std.specs.Borrow.{Lends, MutBor, Fml, RattleType}
use Rattle.hc_records.specs.contracts.items.Items.{the_row}

-- the list ends with the element at the index set to the last value after the loan
abbrev pub LendsItem : (T : RattleType) → MutBor (List T.Denot) → ℕ → MutBor T.Denot → Fml
LendsItem T list index loan = Lends (the_row T) T list loan (slice_set list.now index)
