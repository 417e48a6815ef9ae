use Rattle.std.proofs.Common.{◌≤◌, ◌∙◌, List, [], subst, sym}
use Rattle.std.specs.Prelude.{All}
use Rattle.hc_groups.specs.declared.addresses.Address.{Address}
use Rattle.hc_groups.specs.Index.{AreRanks}
use Rattle.hc_groups.proofs.Declaring.{addresses-some}
use Rattle.hc_groups.proofs.IndexStations.{no-ranks}
use Rattle.hc_groups.proofs.addresses.ranks_by_station.Goals as goal

pub write_ranks-requires-clause-some : goal.write_ranks-requires-clause-some
write_ranks-requires-clause-some c =
    subst (All (λ (address : Address). 1 ≤ address.rank)) (sym (c.deref-2.ensures.value ∙ c.in_ok-addresses.ensures)) (addresses-some c.args.groups.now)

pub returns : goal.returns
returns c =
    subst (λ (all : List Address). AreRanks all c.write_ranks.new.ranks.items) (c.deref-2.ensures.value ∙ c.in_ok-addresses.ensures)
    (c.write_ranks.ensures [] (no-ranks c.in_ok-ranks.ranks.items _ c.in_ok-ranks.ensures))
