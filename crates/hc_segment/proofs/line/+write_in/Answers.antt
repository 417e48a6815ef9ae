use Rattle.std.proofs.Common.{◌-◌, ◌++◌, ◌∷◌, length, map, ap, ◌∙◌, sym, arith, List, ℕ}
use Rattle.hc_segment.specs.Line.{all_machines}
use Rattle.hc_segment.specs.Machines.{poked}
use Rattle.hc_segment.proofs.Written.{poked-back, poked-front}
use Rattle.hc_segment.proofs.line.+write_in.Goals as goal
use Rattle.hc_segment.proofs.lemmas.Counts.{poked-count}

pub returns-then-number-count : goal.returns-then-number-count
returns-then-number-count t c =
    let first = c.in-Some.first.now in
    let others = all_machines c.in-Some.others.now in
    let value = ap (λ (ms : List (List ℕ)). length ms) c.machines-count.ensures.value in
    record {
      memory =
          ap (λ (ms : List (List ℕ)). ms ++ others) c.write_one.ensures
          ∙ sym (poked-front first others c.args.number c.args.at c.args.bytes.now (omega (arith, value, c.if-number-count.true)))
          ∙ ap (λ (ss : List (List (List ℕ))). poked c.args.number c.args.at c.args.bytes.now (all_machines ss)) (sym c.in-Some.ensures.cases.0);
      sizes =
          ap (λ (ms : List (List ℕ)). length ms ∷ map (length {A = List ℕ}) c.in-Some.others.now) c.write_one.ensures
          ∙ ap (λ (n : ℕ). n ∷ map (length {A = List ℕ}) c.in-Some.others.now) (poked-count first c.args.number c.args.at c.args.bytes.now)
          ∙ ap (λ (ss : List (List (List ℕ))). map (length {A = List ℕ}) ss) (sym c.in-Some.ensures.cases.0);
    }

pub returns-else-number-count : goal.returns-else-number-count
returns-else-number-count t c =
    let first = c.in-Some.first.now in
    let others = all_machines c.in-Some.others.now in
    let value = ap (λ (ms : List (List ℕ)). length ms) c.machines-count.ensures.value in
    record {
      memory =
          ap (λ (ms : List (List ℕ)). first ++ ms) (c.write_in.ensures.memory ∙ ap (λ (n : ℕ). poked (c.args.number - n) c.args.at c.args.bytes.now others) value)
          ∙ sym (poked-back first others c.args.number c.args.at c.args.bytes.now (omega (arith, value, c.if-number-count.false)))
          ∙ ap (λ (ss : List (List (List ℕ))). poked c.args.number c.args.at c.args.bytes.now (all_machines ss)) (sym c.in-Some.ensures.cases.0);
      sizes =
          ap (λ (ns : List ℕ). length first ∷ ns) c.write_in.ensures.sizes
          ∙ ap (λ (ss : List (List (List ℕ))). map (length {A = List ℕ}) ss) (sym c.in-Some.ensures.cases.0);
    }
