use Rattle.std.proofs.Common.{◌<◌, length, arith}
use Rattle.std.proofs.lemmas.List.Elements.{All-weaker}
use Rattle.hc_groups.specs.declared.addresses.Address.{Address}
use Rattle.hc_groups.proofs.addresses.add_ranks.Goals as goal

pub write_ranks-requires-clause-room : goal.write_ranks-requires-clause-room
write_ranks-requires-clause-room c =
    All-weaker (λ (address : Address). address.station < c.args.reach) (λ address. address.station < length c.lengthen.new.ranks.items)
    (λ address low. omega (arith, low, c.lengthen.ensures.reach)) c.args.addresses.now c.requires.reach

pub returns : goal.returns
returns c others are = c.write_ranks.ensures others (c.lengthen.ensures.same others are)
