use Rattle.std.proofs.Common.{rules, ◌∙◌, append-nil, sym}
use Rattle.std.proofs.lemmas.List.{append_assoc, length-append, drop_all}
use Rattle.hc_plan.proofs.lemmas.Replaced.{item-cons}
use Rattle.hc_owed.proofs.Opened.{length-slaves_flags}
use Rattle.hc_owed.proofs.opening.declared_flags.Goals as goal

pub push_slaves-requires : goal.push_slaves-requires
push_slaves-requires c = search (rules, item-cons, length-append)

pub loop-declared-preserved : goal.loop-declared-preserved
loop-declared-preserved c = search (rules, item-cons, length-append, length-slaves_flags, append_assoc)

pub returns : goal.returns
returns c = sym (append-nil c.loop-declared.flags.list) ∙ rw (drop_all c.loop-declared.declared-index c.args.groups.now c.loop-declared-test.false) at c.loop-declared.invariant.0
