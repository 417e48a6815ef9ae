use Rattle.std.proofs.Common.{◌≡◌, ℕ, ◌≤◌, List, sym, ap, ◌∙◌, arith}
use Rattle.std.specs.Prelude.{filter}
use Rattle.hc_records.specs.declared.keys.Key.{Key}
use Rattle.hc_records.specs.TaskList.{Keyed}
use Rattle.hc_bitsum.specs.Branch.{branch_slots}
use Rattle.hc_bitsum.specs.declared.filled.Filled.{Filled}
use Rattle.hc_records.specs.SpanLaws.{areas_from}
use Rattle.hc_bitsum.specs.Search.{datagram_begun, first_beyond, key_or_end, scan}
use Rattle.hc_bitsum.specs.Tree.{has_width}
use Rattle.hc_bitsum.proofs.From.{all-from_start, input-from, output-from, scan-beyond, scan-wide}
use Rattle.hc_bitsum.proofs.Unchanged.{holds-list}
use Rattle.hc_bitsum.proofs.tree.SumTree.last_fit.Goals as goal

-- a key of rank 0 is the front of the list

-- another has a place

-- a scan of all areas after some others is one of the list from a key on
scanned : (room phase : ℕ) (filled : Filled) (areas : List Keyed) (list : List Keyed) (from key : Key) → phase ≤ room → filled ≡ datagram_begun phase
    → filter has_width areas ≡ areas_from key list → from ≡ key → key_or_end (scan room filled areas) ≡ first_beyond room (datagram_begun phase) (areas_from from list)
scanned room phase filled areas list from key low begins same here =
    rw (begins, here, ← same) (ap key_or_end (sym (scan-wide room (datagram_begun phase) areas low)) ∙ scan-beyond room (datagram_begun phase) (filter has_width areas))

pub returns-then-from-eq0-clause-key : goal.returns-then-from-eq0-clause-key
returns-then-from-eq0-clause-key g c = grind (arith, all-from_start, scanned)

pub returns-in-Out-clause-key : goal.returns-in-Out-clause-key
returns-in-Out-clause-key g c = grind (arith, output-from, scanned)

pub returns-in-In-clause-key : goal.returns-in-In-clause-key
returns-in-In-clause-key g c = grind (arith, input-from, scanned)

pub returns-then-from-eq0-clause-holds : goal.returns-then-from-eq0-clause-holds
returns-then-from-eq0-clause-holds g c = rw (← c.self.view_is) (holds-list c.self.inside.slaves (branch_slots c.self.inside.outputs) (branch_slots c.self.inside.inputs) c.self.invariant.outs c.self.invariant.ins)

pub returns-in-Out-clause-holds : goal.returns-in-Out-clause-holds
returns-in-Out-clause-holds g c = rw (← c.self.view_is) (holds-list c.self.inside.slaves (branch_slots c.self.inside.outputs) (branch_slots c.self.inside.inputs) c.self.invariant.outs c.self.invariant.ins)

pub returns-in-In-clause-holds : goal.returns-in-In-clause-holds
returns-in-In-clause-holds g c = rw (← c.self.view_is) (holds-list c.self.inside.slaves (branch_slots c.self.inside.outputs) (branch_slots c.self.inside.inputs) c.self.invariant.outs c.self.invariant.ins)
