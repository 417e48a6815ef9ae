use Rattle.std.proofs.Common.{◌+◌, ◌++◌, ◌∙◌, ap, drop, take, arith, ℕ}
use Rattle.std.specs.List.{copy_within}
use Rattle.std.proofs.lemmas.List.{length-map}
use Rattle.hc_records.specs.declared.records.Slave.{Slave}
use Rattle.hc_groups.specs.Index.{stations}
use Rattle.hc_groups.proofs.LineLists.{stretch-replaced}
use Rattle.hc_groups.proofs.line.replace.Goals as goal

pub returns : goal.returns
returns c =
    let stretch = c.args.stretch in
    let slaves = c.args.slaves.now in
    let old = c.args.list.now in
    let moved = c.copy_within.new.self in
    let many = length-map slaves (λ (slave : Slave). slave.station) in
    stretch-replaced stretch (stations slaves) old moved c.write_stations.new.list c.requires.inside c.requires.most (omega (arith, many, c.requires.room)) c.copy_within.ensures.len
    (c.copy_within.ensures.after ∙ ap (copy_within old (stretch.position + stretch.own) stretch.line) (omega (arith, many)))
    (c.write_stations.ensures ∙ ap (λ (k : ℕ). take stretch.position moved ++ (stations slaves ++ drop k moved)) (omega (arith, many)))
