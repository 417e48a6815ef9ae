use Rattle.std.proofs.Common.{◌≡◌, length, ap, get_or, ◌∙◌, arith, List, ℕ}
use Rattle.std.proofs.Math.ListN.{set}
use Rattle.std.proofs.lemmas.List.{length-set}
use Rattle.hc_segment.specs.Machines.{poked}
use Rattle.hc_segment.proofs.Written.{overwritten-whole, poked-set}
use Rattle.hc_segment.proofs.line.write_one.Goals as goal

pub returns : goal.returns
returns c =
    let ms = c.args.segment.now in
    let lent = c.machines_mut.result.now in
    let item = c.index-machines_mut-number.result in
    let same : lent ≡ ms = c.machines_mut.ensures.machines in
    let new = set lent c.args.number c.write_memory.new.self in
    overwritten-whole ms new (length-set lent c.args.number c.write_memory.new.self ∙ ap length same)
    ∙ ap (λ (m : List ℕ). set lent c.args.number m) c.write_memory.ensures
    ∙ poked-set lent c.args.number c.args.at c.args.bytes.now (get_or lent c.args.number item) (omega (arith, c.requires.machine, ap length same)) (ap (λ (m : List ℕ). get_or lent c.args.number m) c.index-machines_mut-number.is)
    ∙ ap (λ (l : List (List ℕ)). poked c.args.number c.args.at c.args.bytes.now l) same
