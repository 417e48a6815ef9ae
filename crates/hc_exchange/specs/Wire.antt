-- A wire: the machines of a line in its order, and other machines anywhere between them.
use Rattle.std.specs.Prelude.{◌≡◌, ℕ, ◌<◌, All, List, [], ◌∷◌, length}
use Rattle.hc_bits.specs.Bits.{AreBytes}
use Rattle.hc_records.specs.Line.{Member}
use Rattle.hc_machine.specs.declared.limits.TheConstants.{FMMUS, MEMORY_BYTES}
use Rattle.hc_machine.specs.Fmmus.{fmmu_block_at}
use Rattle.hc_machine.specs.Laws.{IsPair}
use Rattle.hc_machine.specs.Logical.{logical_data, logical_memory}
use Rattle.hc_exchange.specs.Carrying.{AreCarrying, IsBitOfTask}
use Rattle.hc_exchange.specs.Sequences.{Logical}

-- a machine on the wire by its memory: one of the line's slaves, or a machine outside the line
pub data WireMachine : Type 0 where
  InLine : List ℕ → WireMachine
  Outside : List ℕ → WireMachine

-- all machines in the order of the wire
abbrev pub wire_machines : List WireMachine → List (List ℕ)
wire_machines [] = []
wire_machines (InLine memory ∷ wire) = memory ∷ wire_machines wire
wire_machines (Outside memory ∷ wire) = memory ∷ wire_machines wire

-- the line's machines
abbrev pub line_machines : List WireMachine → List (List ℕ)
line_machines [] = []
line_machines (InLine memory ∷ wire) = memory ∷ line_machines wire
line_machines (Outside memory ∷ wire) = line_machines wire

-- the machines outside the line
abbrev pub outside_machines : List WireMachine → List (List ℕ)
outside_machines [] = []
outside_machines (InLine memory ∷ wire) = outside_machines wire
outside_machines (Outside memory ∷ wire) = memory ∷ outside_machines wire

-- a wire without machines outside the line
abbrev pub bare_wire : List (List ℕ) → List WireMachine
bare_wire [] = []
bare_wire (memory ∷ machines) = InLine memory ∷ bare_wire machines

-- the wire after a logical datagram: each machine meets it as those before it passed it on
abbrev pub wire_after : List WireMachine → ℕ → List ℕ → List WireMachine
wire_after [] from bytes = []
wire_after (InLine memory ∷ wire) from bytes = InLine (logical_memory memory from bytes) ∷ wire_after wire from (logical_data memory from bytes)
wire_after (Outside memory ∷ wire) from bytes = Outside (logical_memory memory from bytes) ∷ wire_after wire from (logical_data memory from bytes)

-- the wire after logical datagrams one after another, each in a frame of its own
abbrev pub wire_after_all : List WireMachine → List Logical → List WireMachine
wire_after_all wire [] = wire
wire_after_all wire (d ∷ ds) = wire_after_all (wire_after wire d.from d.bytes) ds

-- a machine outside the line passes the logical bits that are asked about: none of its FMMUs pairs one of them
pub record PassesAsked (Asked : ℕ → Type 0) (memory : List ℕ) : Type 0 where
  pub size : length memory ≡ MEMORY_BYTES
  pub idle : (i x m : ℕ) → i < FMMUS → Asked x → ¬ IsPair (fmmu_block_at memory i) x m
  pub all_bytes : AreBytes memory

-- the machines of the line carry the logical bits that are asked about, and the others on the wire pass them
pub record WireCarries (Asked : ℕ → Type 0) (line : List Member) (wire : List WireMachine) : Type 0 where
  pub carrying : AreCarrying Asked line (line_machines wire)
  pub passing : All (PassesAsked Asked) (outside_machines wire)

-- the wire carries a task of the line
abbrev pub WireCarriesTask : List Member → ℕ → List WireMachine → Type 0
WireCarriesTask line task wire = WireCarries (IsBitOfTask line task) line wire
