use Rattle.std.proofs.Common.{rules, ◌≡◌, ℕ, ◌<◌, ◌≤◌, List, length, get_or, sym, ap, ◌∙◌, subst, arith}
use Rattle.std.proofs.lemmas.List.{take_all}
use Rattle.std.proofs.lemmas.List.Elements.{All-more, All-same}
use Rattle.hc_machine.specs.declared.limits.TheConstants.{MEMORY_BYTES}
use Rattle.hc_segment.proofs.segment.Segment.machines.Goals as goal

pub loop-machine-preserved : goal.loop-machine-preserved
loop-machine-preserved c =
    let i = c.loop-machine.machine-index in
    let item = c.machine-item.result in
    let same : c.as_slice-machines.result.now ≡ c.args.self.now = search rules in
    let within : i < length c.args.self.now = subst (λ (ms : List (List ℕ)). i < length ms) same (omega arith) in
    let here : item ≡ get_or c.args.self.now i item = c.machine-item.is ∙ ap (λ (ms : List (List ℕ)). get_or ms i item) same in
    let size : length (get_or c.args.self.now i item) ≡ MEMORY_BYTES = sym (ap length here) ∙ sym (ap length c.memory-bytes.ensures.bytes) ∙ c.memory-bytes.ensures.size in
    All-more (λ (m : List ℕ). length m ≡ MEMORY_BYTES) c.args.self.now i item within c.loop-machine.invariant size

pub returns-clause-sizes : goal.returns-clause-sizes
returns-clause-sizes c =
    let i = c.loop-machine.machine-index in
    let same : c.as_slice-machines.result.now ≡ c.args.self.now = search rules in
    let all : length c.args.self.now ≤ i = subst (λ (ms : List (List ℕ)). length ms ≤ i) same (omega arith) in
    All-same (λ (m : List ℕ). length m ≡ MEMORY_BYTES) c.args.self.now _ (sym (take_all i c.args.self.now all)) c.loop-machine.invariant
