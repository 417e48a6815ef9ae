use Rattle.std.proofs.Common.{length, ap, arith}
use Rattle.std.proofs.lemmas.List.{length-map}
use Rattle.hc_groups.specs.Index.{Index}
use Rattle.hc_groups.proofs.index.Index.group_room.Goals as goal

pub returns : goal.returns
returns c =
    let aliases = ap (λ (i : Index). length i.aliases) c.self.view_is in
    let fronts = ap (λ (i : Index). length i.fronts) c.self.view_is in
    let ranks = ap (λ (i : Index). length i.ranks) c.self.view_is in
    let slaves = ap (λ (i : Index). length i.slaves) c.self.view_is in
    let blocks = ap (λ (i : Index). length i.blocks) c.self.view_is in
    record {
      aliases = omega (arith, c.in_ok-for_more.ensures, aliases);
      fronts = omega (arith, c.in_ok-for_more-2.ensures, length-map c.self.inside.fronts.items (λ sums. sums.items), fronts);
      ranks = omega (arith, c.in_ok-for_more-3.ensures, ranks);
      slaves = omega (arith, c.in_ok-for_more-4.ensures, slaves);
      blocks = omega (arith, c.in_ok-for_more-5.ensures, blocks);
    }
