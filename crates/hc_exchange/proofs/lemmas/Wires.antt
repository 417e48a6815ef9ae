-- Logical datagrams on a wire: machines outside the line that pass their bits do nothing to them.
use Rattle.std.proofs.Common.{◌≡◌, ℕ, ◌+◌, ◌∙◌, List, [], ◌∷◌, length, refl, sym, ap, ap₂, subst, arith}
use Rattle.std.specs.Prelude.{All}
use Rattle.std.proofs.lemmas.List.Elements.{All-head, All-tail}
use Rattle.hc_bits.specs.Bits.{AreBytes}
use Rattle.hc_records.specs.Line.{State, line}
use Rattle.hc_exchange.specs.PairLaws.{IsConfigurable}
use Rattle.hc_machine.specs.Logical.{logical_count, logical_data, logical_memory}
use Rattle.hc_machine.proofs.lemmas.Logical.{unmapped-pass}
use Rattle.hc_machine.proofs.lemmas.Memories.{data-bytes, length-data}
use Rattle.hc_exchange.specs.AskedLaws.{AllAreAsked}
use Rattle.hc_exchange.specs.Carrying.{AreAsked, AreCarrying, count_through, data_through, memories_after}
use Rattle.hc_exchange.specs.Sequences.{Logical, all_after_frames, all_through}
use Rattle.hc_exchange.specs.Wire.{InLine, Outside, PassesAsked, WireCarries, WireMachine, bare_wire, line_machines, outside_machines, wire_after, wire_after_all, wire_machines}
use Rattle.hc_exchange.specs.WireLaws.{OutsidersPassDatagrams, PassesOutsiders, WiresStayCarrying}
use Rattle.hc_exchange.proofs.lemmas.Lines.{carrying-stays, same-asked}
use Rattle.hc_exchange.proofs.lemmas.Sequences.{first-asked, rest-asked}

-- one machine outside the line

pub record IsPassed (memory : List ℕ) (from : ℕ) (bytes : List ℕ) : Type 0 where
  pub data_is : logical_data memory from bytes ≡ bytes
  pub memory_is : logical_memory memory from bytes ≡ memory
  pub counter : logical_count memory from (length bytes) ≡ 0

pub outsider-passes : (Asked : ℕ → Type 0) (memory : List ℕ) (from : ℕ) (bytes : List ℕ) → PassesAsked Asked memory → AreAsked Asked from bytes → AreBytes bytes → IsPassed memory from bytes
outsider-passes Asked memory from bytes passes asked small =
    let all = unmapped-pass memory bytes from passes.size passes.all_bytes small (λ j n m low inside. passes.idle j (from + n) m low (asked n inside)) in
    record { data_is = all.0; memory_is = all.1; counter = all.2 }

-- all of them

outsiders-pass : (Asked : ℕ → Type 0) (wire : List WireMachine) (from : ℕ) (bytes : List ℕ) → All (PassesAsked Asked) (outside_machines wire) → AreAsked Asked from bytes → AreBytes bytes
    → PassesOutsiders wire from bytes
outsiders-pass Asked [] from bytes passing asked small = record { data_is = refl; counter = refl; all_machines = refl; of_line = refl; outside = refl }
outsiders-pass Asked (InLine memory ∷ wire) from bytes passing asked small =
    let next = logical_data memory from bytes in
    let rest = outsiders-pass Asked wire from next passing (same-asked Asked memory bytes from asked) (data-bytes memory bytes from) in
    let long : length next ≡ length bytes = length-data memory bytes from in
    record {
      data_is = rest.data_is;
      counter = ap (λ (n : ℕ). logical_count memory from (length bytes) + n)
          (ap (count_through (wire_machines wire) from) (sym long) ∙ rest.counter ∙ ap (count_through (line_machines wire) from) long);
      all_machines = ap (λ (ms : List (List ℕ)). logical_memory memory from bytes ∷ ms) rest.all_machines;
      of_line = ap (λ (ms : List (List ℕ)). logical_memory memory from bytes ∷ ms) rest.of_line;
      outside = rest.outside;
    }
outsiders-pass Asked (Outside memory ∷ wire) from bytes passing asked small =
    let first = outsider-passes Asked memory from bytes (All-head (PassesAsked Asked) memory (outside_machines wire) passing) asked small in
    let next = logical_data memory from bytes in
    let rest =
    outsiders-pass Asked wire from next (All-tail (PassesAsked Asked) memory (outside_machines wire) passing) (same-asked Asked memory bytes from asked) (data-bytes memory bytes from) in
    let long : length next ≡ length bytes = length-data memory bytes from in
    record {
      data_is = rest.data_is ∙ ap (data_through (line_machines wire) from) first.data_is;
      counter = ap₂ (λ (a b : ℕ). a + b) first.counter
          (ap (count_through (wire_machines wire) from) (sym long) ∙ rest.counter ∙ ap (count_through (line_machines wire) from) long) ∙ none-more (count_through (line_machines wire) from (length bytes));
      all_machines = ap (λ (ms : List (List ℕ)). logical_memory memory from bytes ∷ ms) rest.all_machines;
      of_line = rest.of_line ∙ ap (memories_after (line_machines wire) from) first.data_is;
      outside = ap₂ (λ (m : List ℕ) (ms : List (List ℕ)). m ∷ ms) first.memory_is rest.outside;
    }
  where
    none-more : (n : ℕ) → 0 + n ≡ n
    none-more n = omega arith

pub wires-pass : (Asked : ℕ → Type 0) (state : State) → OutsidersPassDatagrams Asked state
wires-pass Asked state wire bytes from carries asked small = outsiders-pass Asked wire from bytes carries.passing asked small

pub wire-stays : (Asked : ℕ → Type 0) (state : State) → WiresStayCarrying Asked state
wire-stays Asked state wire bytes from can carries asked small =
    let passes = outsiders-pass Asked wire from bytes carries.passing asked small in
    record {
      carrying = subst (AreCarrying Asked (line state)) (sym passes.of_line) (carrying-stays Asked state (line_machines wire) bytes from can carries.carrying asked).carrying;
      passing = subst (All (PassesAsked Asked)) (sym passes.outside) carries.passing;
    }

-- several datagrams

pub record PassesAll (wire : List WireMachine) (ds : List Logical) : Type 0 where
  pub datas : all_through (wire_machines wire) ds ≡ all_through (line_machines wire) ds
  pub all_machines : all_after_frames (wire_machines wire) ds ≡ wire_machines (wire_after_all wire ds)
  pub of_line : line_machines (wire_after_all wire ds) ≡ all_after_frames (line_machines wire) ds
  pub outside : outside_machines (wire_after_all wire ds) ≡ outside_machines wire

pub all-pass : (Asked : ℕ → Type 0) (state : State) (wire : List WireMachine) (ds : List Logical) → IsConfigurable state → WireCarries Asked (line state) wire → AllAreAsked Asked ds
    → All (λ d. AreBytes d.bytes) ds → PassesAll wire ds
all-pass Asked state wire [] can carries asked small = record { datas = refl; all_machines = refl; of_line = refl; outside = refl }
all-pass Asked state wire (d ∷ ds) can carries asked small =
    let now = first-asked Asked d ds asked in
    let own = All-head (λ (e : Logical). AreBytes e.bytes) d ds small in
    let first = wires-pass Asked state wire d.bytes d.from carries now own in
    let rest =
    all-pass Asked state (wire_after wire d.from d.bytes) ds can (wire-stays Asked state wire d.bytes d.from can carries now own) (rest-asked Asked d ds asked)
    (All-tail (λ (e : Logical). AreBytes e.bytes) d ds small) in
    record {
      datas = ap₂ (λ (bytes : List ℕ) (all : List (List ℕ)). bytes ∷ all) first.data_is
          (ap (λ (ms : List (List ℕ)). all_through ms ds) first.all_machines ∙ rest.datas ∙ ap (λ (ms : List (List ℕ)). all_through ms ds) first.of_line);
      all_machines = ap (λ (ms : List (List ℕ)). all_after_frames ms ds) first.all_machines ∙ rest.all_machines;
      of_line = rest.of_line ∙ ap (λ (ms : List (List ℕ)). all_after_frames ms ds) first.of_line;
      outside = rest.outside ∙ first.outside;
    }

-- the wire carries the bits after them too
pub all-carry : (Asked : ℕ → Type 0) (state : State) (wire : List WireMachine) (ds : List Logical) → IsConfigurable state → WireCarries Asked (line state) wire → AllAreAsked Asked ds
    → All (λ d. AreBytes d.bytes) ds → WireCarries Asked (line state) (wire_after_all wire ds)
all-carry Asked state wire [] can carries asked small = carries
all-carry Asked state wire (d ∷ ds) can carries asked small =
    all-carry Asked state (wire_after wire d.from d.bytes) ds can
    (wire-stays Asked state wire d.bytes d.from can carries (first-asked Asked d ds asked) (All-head (λ (e : Logical). AreBytes e.bytes) d ds small)) (rest-asked Asked d ds asked)
    (All-tail (λ (e : Logical). AreBytes e.bytes) d ds small)

-- the line alone

pub bare-wire : (machines : List (List ℕ)) → wire_machines (bare_wire machines) ≡ machines
bare-wire [] = refl
bare-wire (memory ∷ machines) = ap (λ (ms : List (List ℕ)). memory ∷ ms) (bare-wire machines)

pub bare-line : (machines : List (List ℕ)) → line_machines (bare_wire machines) ≡ machines
bare-line [] = refl
bare-line (memory ∷ machines) = ap (λ (ms : List (List ℕ)). memory ∷ ms) (bare-line machines)

pub bare-outside : (machines : List (List ℕ)) → outside_machines (bare_wire machines) ≡ []
bare-outside [] = refl
bare-outside (memory ∷ machines) = bare-outside machines
