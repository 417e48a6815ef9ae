use Rattle.std.proofs.Common.{◌++◌, [], ◌∷◌, Bool, List, map, sym, ap, ◌∙◌, arith, rules}
use Rattle.std.specs.List.{range_with_len}
use Rattle.std.proofs.lemmas.List.{append_assoc, length-append}
use Rattle.std.proofs.lemmas.List.FromFn.{length-map-range_with_len, map-range_with_len_more}
use Rattle.hc_owed.specs.Flags.{Flags}
use Rattle.hc_owed.specs.Opening.{slave_has_block}
use Rattle.hc_owed.proofs.FlagLists.{flags_of}
use Rattle.hc_owed.proofs.Opened.{all-numbers}
use Rattle.hc_owed.proofs.opening.push_slave.Goals as goal

pub push-requires : goal.push-requires
push-requires c = search (rules, length-append, length-map-range_with_len)

pub loop-number-preserved : goal.loop-number-preserved
loop-number-preserved c =
    let flags = c.args.flags.now in
    let test = slave_has_block c.args.present c.args.slave.now in
    let n = c.loop-number.number in
    c.push.ensures
    ∙ ap (λ (f : Bool). flags_of (c.loop-number.flags.list ++ f ∷ []) c.loop-number.flags.room) c.has_block.ensures
    ∙ ap (λ (f : Flags). flags_of (f.list ++ test n ∷ []) f.room) c.loop-number.invariant
    ∙ ap (λ (list : List Bool). flags_of list flags.room)
    (append_assoc flags.list (map test (range_with_len 0 n)) (test n ∷ [])
    ∙ ap (λ (more : List Bool). flags.list ++ more) (sym (map-range_with_len_more test 0 n n (omega arith))))

pub returns : goal.returns
returns c = search (rules, all-numbers)
