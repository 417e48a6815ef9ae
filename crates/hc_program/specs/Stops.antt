-- The state after a command that was stopped. A command of several calls leaves what its earlier calls did.
use Rattle.std.specs.Prelude.{◌≡◌, ◌⊎◌, ℕ, zero, suc, true, List, take, codes}
use Rattle.hc_events.specs.declared.faults.CoreFault.TheVariants as core
use Rattle.hc_segment.specs.declared.faults.ChainFault.{ChainFault}
use Rattle.hc_segment.specs.declared.faults.ChainFault.TheVariants as chain
use Rattle.hc_text.specs.declared.commands.Command.{Command}
use Rattle.hc_text.specs.declared.commands.Command.TheVariants as command
use Rattle.hc_program.specs.declared.stops.Stop.{Stop}
use Rattle.hc_program.specs.declared.stops.Stop.TheVariants as stop
use Rattle.hc_program.specs.declared.stops.RefusedGrowth.{RefusedGrowth}
use Rattle.hc_program.specs.declared.stops.RefusedGrowth.TheVariants as refused_growth
use Rattle.hc_program.specs.Cycles.{cycle_arrived, cycle_back, cycle_passed, cycle_sent}
use Rattle.hc_program.specs.Programs.{can_write, programming_is_done, write_passed, write_sent, block_programmed}
use Rattle.hc_program.specs.Refusals.{refusal_text}
use Rattle.hc_program.specs.Setups.{scanned}
use Rattle.hc_program.specs.Standings.{SessionState}

-- the line of a chain that was refused
unfoldable pub chain_fault_text : ChainFault → List ℕ
chain_fault_text chain.Memory = codes "chain fault 1 Memory\n"

-- the printed line of a failed allocation
abbrev pub refused_growth_text : RefusedGrowth → List ℕ
refused_growth_text refused_growth.Memory = refusal_text core.Memory
refused_growth_text (refused_growth.Chain fault) = chain_fault_text fault

-- the printed line of a seat that was given no view
unfoldable pub no_entry_text : List ℕ
no_entry_text = codes "refused 7 NoEntry\n"

-- the text that is printed in place of the command's text
abbrev pub stop_text : Stop → List ℕ
stop_text (stop.RefusedGrowth w) = refused_growth_text w
stop_text stop.NoEntry = no_entry_text

-- the state after a command of one call that was not carried out
abbrev pub Unchanged : SessionState → Stop → SessionState → Type 0
Unchanged s why next = (why ≡ stop.RefusedGrowth refused_growth.Memory) × (next ≡ s)

-- the state after a command for which a seat was asked for a view, and which was not carried out
abbrev pub Unviewed : SessionState → Stop → SessionState → Type 0
Unviewed s why next = ((why ≡ stop.RefusedGrowth refused_growth.Memory) ⊎ (why ≡ stop.NoEntry)) × (next ≡ s)

-- this many writes, each done
abbrev pub WritesAreDone : ℕ → SessionState → SessionState → Type 0
WritesAreDone zero s t = t ≡ s
WritesAreDone (suc n) s t = (m : SessionState) × WritesAreDone n s m × (can_write m.history ≡ true) × (programming_is_done m ≡ true) × (t ≡ block_programmed m)

-- an allocation failed, and so the command was stopped
abbrev pub StoppedForMemory : Stop → (RefusedGrowth → Type 0) → Type 0
StoppedForMemory why Stopped = (w : RefusedGrowth) × (why ≡ stop.RefusedGrowth w) × Stopped w

-- the next write was sent, and its frame was not made or did not go along the line; or the frame that came back was not taken in
abbrev pub StopsInWrite : SessionState → RefusedGrowth → SessionState → Type 0
StopsInWrite s w next = (next ≡ write_sent s) ⊎ ((w ≡ refused_growth.Memory) × (next ≡ write_passed s))

-- there was no room for the line; or some writes were done, and then one was stopped
abbrev pub StopsProgram : SessionState → RefusedGrowth → SessionState → Type 0
StopsProgram s w next = ((w ≡ refused_growth.Memory) × (next ≡ s)) ⊎ ((n : ℕ) × (m : SessionState) × WritesAreDone n s m × StopsInWrite m w next)

-- tasks were not sent; or they were, and their frames did not go along the line; or the frames did, and some of those that came back were taken in
abbrev pub StopsInCycle : SessionState → List ℕ → RefusedGrowth → SessionState → Type 0
StopsInCycle s tasks w next =
    ((w ≡ refused_growth.Memory) × (next ≡ s))
    ⊎ ((w ≡ refused_growth.Chain chain.Memory) × (next ≡ cycle_sent s tasks))
    ⊎ ((w ≡ refused_growth.Memory) × ((n : ℕ) × (next ≡ cycle_arrived (cycle_passed s tasks) (take n (cycle_back s tasks)))))

-- no alias was read; or all were, and they were not gathered or were not printed
abbrev pub StopsScan : SessionState → RefusedGrowth → SessionState → Type 0
StopsScan s w next = ((w ≡ refused_growth.Chain chain.Memory) × (next ≡ s)) ⊎ (next ≡ scanned s)

-- the state after a command that was stopped
abbrev pub StopsIn : SessionState → Command → Stop → SessionState → Type 0
StopsIn s command.Program why next = StoppedForMemory why (λ w. StopsProgram s w next)
StopsIn s (command.Cycle tasks) why next = StoppedForMemory why (λ w. StopsInCycle s tasks w next)
StopsIn s command.Scan why next = StoppedForMemory why (λ w. StopsScan s w next)
StopsIn s command.Name why next = StoppedForMemory why (λ w. next ≡ s)
StopsIn s (command.Post posting) why next = Unviewed s why next
StopsIn s (command.View task variable) why next = Unviewed s why next
StopsIn s other why next = Unchanged s why next
