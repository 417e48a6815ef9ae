-- The places of datagrams in a list that has one for each datagram that a line can have, task by task (this project's profile).
use Rattle.std.specs.Prelude.{ℕ, ◌+◌, ◌*◌}
use Rattle.hc_records.specs.declared.limits.TheConstants.{MOST_DATAGRAMS}

-- each of the eight tasks has sixteen
abbrev pub slot_number : ℕ → ℕ → ℕ
slot_number task d = MOST_DATAGRAMS * task + d
