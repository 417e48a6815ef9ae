use Rattle.std.proofs.Common.{◌≡◌, ◌≤◌, ◌∷◌, ◌∙◌, List, ap, length, subst, sym, arith, nat_lt, true, false}
use Rattle.std.specs.List.{insert}
use Rattle.std.specs.List.Sorted.{IsNonDecreasingBy, IsPartitionPoint, IsPermutation}
use Rattle.std.proofs.lemmas.Grind.{common_steps}
use Rattle.std.proofs.lemmas.List.Sorted.{IsPermutation-insert}
use Rattle.hc_groups.specs.declared.aliases.Alias.{Alias}
use Rattle.hc_groups.proofs.Aliased.{alias-inserted}
use Rattle.hc_groups.proofs.aliases.add_alias.Goals as goal

pub insert-added-requires : goal.insert-added-requires
insert-added-requires c = omega (arith, c.count_below-at.ensures.bound, ap length c.as_slice.ensures.value, c.widen.new.list.ok.0)

pub returns : goal.returns
returns c =
    let old = c.args.aliases.now.items in
    let at = c.count_below-at.result in
    let new : c.insert-added.new.self.items ≡ insert c.widen.new.list.items at c.args.alias = grind (arith, common_steps, c.insert-added.ensures.succeeds, c.widen.ensures.room) in
    let all : c.insert-added.new.self.items ≡ insert old at c.args.alias = new ∙ ap (λ (l : List Alias). insert l at c.args.alias) c.widen.ensures.items in
    let read : c.as_slice.result.now ≡ old = c.as_slice.ensures.value ∙ c.widen.ensures.items in
    let inside : at ≤ length old = omega (arith, c.count_below-at.ensures.bound, ap length read) in
    let parted = subst (λ (l : List Alias). IsPartitionPoint (λ own. nat_lt own.alias c.args.alias.alias ≡ true) (λ own. nat_lt own.alias c.args.alias.alias ≡ false) l at) read c.count_below-at.ensures.parted in
    record {
      same = subst (IsPermutation (c.args.alias ∷ old)) (sym all) (IsPermutation-insert old at c.args.alias);
      order = subst (IsNonDecreasingBy (λ (own : Alias). own.alias)) (sym all) (alias-inserted old at c.args.alias c.requires.order inside parted);
    }
