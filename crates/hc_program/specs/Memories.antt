-- The commands `poke` and `peek`: the memory of a machine of the line.
use Rattle.std.specs.Prelude.{ℕ, ◌+◌, nat_lt, if◌then◌else◌, List, [], ◌++◌, length, slice_index_or, slice_range, Result, Ok, Err, codes}
use Rattle.hc_records.specs.declared.faults.EditFault.{EditFault}
use Rattle.hc_plan.specs.Configuration.{position_of}
use Rattle.hc_events.specs.declared.faults.CoreFault.{CoreFault}
use Rattle.hc_events.specs.declared.faults.CoreFault.TheVariants.{Absent}
use Rattle.hc_events.specs.Faults.{edit_refusal}
use Rattle.hc_events.specs.Points.{state_of}
use Rattle.hc_text.specs.Printing.{hex_register, spaced_bytes}
use Rattle.hc_segment.specs.Machines.{poked}
use Rattle.hc_text.specs.MemoryRanges.{Peeking, Poking}
use Rattle.hc_program.specs.Refusals.{refusal_text}
use Rattle.hc_program.specs.Standings.{SessionState, with_machines}

-- the position of a slave's machine, if the line has this many machines; else the fault
abbrev pub machine_within : ℕ → Result ℕ EditFault → Result ℕ CoreFault
machine_within count (Ok position) = if nat_lt position count then Ok position else Err Absent
machine_within count (Err fault) = Err (edit_refusal fault)

-- the position of the machine of the slave with a station address, or the fault if there is none
unfoldable pub machine_at : SessionState → ℕ → Result ℕ CoreFault
machine_at s station = machine_within (length s.machines) (position_of (state_of s.history) station)

-- the printed text of a poke
abbrev pub poke_answered : Result ℕ CoreFault → List ℕ
poke_answered (Ok position) = codes "poked\n"
poke_answered (Err fault) = refusal_text fault

-- the machines after a poke
abbrev pub poked_at : Result ℕ CoreFault → Poking → List (List ℕ) → List (List ℕ)
poked_at (Ok position) p machines = poked position p.at p.part machines
poked_at (Err fault) p machines = machines

-- the line `poked`, or the refusal
abbrev pub poke_text : SessionState → Poking → List ℕ
poke_text s p = poke_answered (machine_at s p.station)

-- the state after a poke
abbrev pub poked_session_state : SessionState → Poking → SessionState
poked_session_state s p = with_machines s (poked_at (machine_at s p.station) p s.machines)

-- the line `mem A: bytes`
unfoldable pub memory_text : ℕ → List ℕ → List ℕ
memory_text at bytes = codes "mem " ++ hex_register at ++ codes ":" ++ spaced_bytes bytes ++ codes "\n"

-- the printed text of a peek
abbrev pub peek_answered : Result ℕ CoreFault → Peeking → List (List ℕ) → List ℕ
peek_answered (Ok position) p machines = memory_text p.at (slice_range (slice_index_or machines position []) p.at (p.at + p.count))
peek_answered (Err fault) p machines = refusal_text fault

-- the line of the bytes, or the refusal
abbrev pub peek_text : SessionState → Peeking → List ℕ
peek_text s p = peek_answered (machine_at s p.station) p s.machines
