use Rattle.std.proofs.Common.{◌≡◌, ◌+◌, ◌-◌, ◌∙◌, ℕ, List, length, take, get_or, ap, subst, sym, arith, length-take}
use Rattle.std.specs.List.Sorted.{IsNonDecreasing}
use Rattle.std.proofs.lemmas.List.{get_or_default}
use Rattle.std.proofs.lemmas.List.Sorted.{IsNonDecreasingBy-take}
use Rattle.hc_groups.proofs.Merging.{MergedFrom, Parts, merged-end, merged-more, merged-start, parts, rises}
use Rattle.hc_groups.proofs.variables.add_variables.Goals as goal

pub loop-more-init : goal.loop-more-init
loop-more-init c =
    subst (λ (left : ℕ). MergedFrom c.args.variables.now.items c.args.names.now c.append.new.list.items left (length c.args.names.now)) (omega (arith, c.len-left.ensures, c.args.variables.now.ok.0))
    (merged-start c.args.variables.now.items c.args.names.now c.append.new.list.items c.append.ensures)

pub count_lower-at-requires : goal.count_lower-at-requires
count_lower-at-requires c =
    let l = c.loop-more in
    subst IsNonDecreasing (sym (ap (take l.left) c.deref.ensures.value ∙ l.invariant.front))
    (IsNonDecreasingBy-take (λ n. n) l.left c.args.variables.now.items c.requires.order)

pub put_below-requires : goal.put_below-requires
put_below-requires c =
    let l = c.loop-more in
    record {
      order = omega (arith, c.count_lower-at.ensures.bound, length-take l.left c.deref.result.now);
      bound = omega (arith, l.invariant.inside, l.invariant.some, l.invariant.size, c.loop-more-test.true);
    }

pub loop-more-preserved : goal.loop-more-preserved
loop-more-preserved c =
    let l = c.loop-more in
    let old = c.args.variables.now.items in
    let names = c.args.names.now in
    let all = l.variables.items in
    let more = l.more - 1 in
    let at = c.count_lower-at.result in
    let v = get_or names more 0 in
    let before : MergedFrom old names all l.left (more + 1) = subst (MergedFrom old names all l.left) (omega (arith, c.loop-more-test.true)) l.invariant in
    let parted : Parts (take l.left all) v at =
    subst (λ (xs : List ℕ). Parts (take l.left xs) v at) c.deref.ensures.value (parts (take l.left c.deref.result.now) v at c.count_lower-at.ensures.bound c.count_lower-at.ensures.parted) in
    merged-more old names all c.put_below.new.all.items l.left more at v (rises old c.requires.order) (rises names c.requires.own) before
    (get_or_default names more 0 v (omega (arith, l.invariant.some, c.loop-more-test.true))) (omega (arith, c.count_lower-at.ensures.bound, length-take l.left c.deref.result.now)) parted
    c.put_below.ensures.size c.put_below.ensures.front c.put_below.ensures.after_it

pub returns : goal.returns
returns c =
    let l = c.loop-more in
    let last : l.more ≡ 0 = omega (arith, c.loop-more-test.false) in
    let all = merged-end c.args.variables.now.items c.args.names.now l.variables.items l.left (rises c.args.variables.now.items c.requires.order)
    (subst (MergedFrom c.args.variables.now.items c.args.names.now l.variables.items l.left) last l.invariant) in
    record { same = all.0; order = all.1 }
