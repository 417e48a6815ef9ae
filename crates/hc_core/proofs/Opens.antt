-- The parts of a core at the opening agree with the record of the opening.
use Rattle.std.proofs.Common.{◌≡◌, ℕ, ◌<◌, ◌≤◌, List, [], arith, None, rules}
use Rattle.std.specs.Prelude.{slice_index}
use Rattle.std.proofs.lemmas.List.{append-nil}
use Rattle.hc_records.specs.declared.records.Group.{Group}
use Rattle.hc_records.specs.declared.limits.TheConstants.{TASKS}
use Rattle.hc_records.specs.Edits.{over_limit_task}
use Rattle.hc_records.specs.Line.{State, groups_of, line, opened}
use Rattle.hc_records.specs.Project.{lowest_fault}
use Rattle.hc_frames.specs.declared.limits.TheConstants.{SETUP_SERIAL}
use Rattle.hc_events.specs.Accepted.{just_opened}
use Rattle.hc_sendings.specs.Waiting.{nothing}
use Rattle.hc_images.specs.Image.{HasNone, DatagramImage}
use Rattle.hc_images.specs.Packed.{HoldsOutputValues, Packed}
use Rattle.hc_places.specs.Table.{table_of}
use Rattle.hc_owed.specs.declared.area.JudgedArea.{JudgedArea}
use Rattle.hc_owed.specs.Readiness.{none_unplugged, readiness_of, unknown_registers}
use Rattle.hc_owed.specs.RegisterState.{RegisterState, register_state_of, nothing_known}
use Rattle.hc_core.proofs.AreasKept.{areas-opened}
use Rattle.hc_core.proofs.Awaits.{waits-opened}
use Rattle.hc_core.proofs.Known.{unchanged-alike}
use Rattle.hc_core.specs.Agreement.{Agree}
use Rattle.hc_core.specs.Ages.{Ages, HaveNone}

none_sent : 0 ≤ SETUP_SERIAL
none_sent = omega arith

pub agree-opened : (groups : List Group) (inputs : DatagramImage) (ages : Ages) (epochs : List ℕ) (outputs : Packed) (owed : RegisterState) (readiness : List JudgedArea) → lowest_fault (groups_of (opened groups).groups) ≡ None → over_limit_task (line (opened groups)) ≡ None → HasNone inputs → HaveNone ages → ((task : ℕ) → task < TASKS → slice_index epochs task ≡ 0) → owed ≡ register_state_of nothing_known (opened groups) → readiness ≡ readiness_of nothing_known unknown_registers none_unplugged (opened groups) → HoldsOutputValues (table_of (line (opened groups))) (λ variable k. 0) outputs
    → Agree (record {
      plan = opened groups;
      serial = 0;
      awaited = nothing;
      inputs = inputs;
      ages = ages;
      epochs = epochs;
      outputs = outputs;
      owed = owed;
      readiness = readiness;
      changes = [];
    }) (just_opened groups) (just_opened groups)
agree-opened groups inputs ages epochs outputs owed readiness project uncrowded none undated first unknown ready zeros = search (rules, none_sent, waits-opened, unchanged-alike, append-nil, areas-opened)

abbrev pub IsProject : State → Type 0
IsProject state = lowest_fault (groups_of state.groups) ≡ None

abbrev pub IsUncrowded : State → Type 0
IsUncrowded state = over_limit_task (line state) ≡ None
