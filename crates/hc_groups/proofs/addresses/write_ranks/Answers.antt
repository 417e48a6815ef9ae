use Rattle.std.proofs.Common.{◌≡◌, ◌∙◌, ◌++◌, List, [], drop, ap, sym, subst, arith}
use Rattle.std.proofs.lemmas.List.{drop_all}
use Rattle.hc_groups.specs.declared.addresses.Address.{Address}
use Rattle.hc_groups.specs.Index.{AreRanks}
use Rattle.hc_groups.proofs.IndexStations.{ranks-written, written}
use Rattle.hc_groups.proofs.addresses.write_ranks.Goals as goal

pub returns : goal.returns
returns c others before =
    let l = c.loop-address in
    let done : drop l.address-index c.args.addresses.now ≡ [] = drop_all l.address-index c.args.addresses.now (grind (arith, c.loop-address-test.false)) in
    let all : l.ranks.items ≡ written c.args.addresses.now c.args.ranks.now.items = ap (λ (rest : List Address). written rest l.ranks.items) (sym done) ∙ l.invariant.1 in
    subst (AreRanks (others ++ c.args.addresses.now)) (sym all) (ranks-written others c.args.addresses.now c.args.ranks.now.items c.requires.room c.requires.some before)
