use Rattle.std.proofs.Common.{◌≡◌, ◌∙◌, ℕ, Bool, true, Option, ap, subst, rules}
use Rattle.std.specs.Prelude.{IfSome}
use Rattle.hc_records.specs.declared.keys.Key.{Key}
use Rattle.hc_records.specs.declared.keys.TheConstants.Key.{END}
use Rattle.hc_records.specs.Keys.{is_before}
use Rattle.hc_records.specs.Line.{line_from}
use Rattle.hc_records.specs.Packing.{Placed}
use Rattle.hc_records.specs.TaskList.{task_list}
use Rattle.hc_cuts.specs.Keeping.{is_unchanged_up_to}
use Rattle.hc_changes.specs.inner.Found.{IsMaybeMovedTest}
use Rattle.hc_changes.proofs.lemmas.Finding.{unchanged-is}
use Rattle.hc_changes.proofs.finding.MaybeMovedTest.is_recut.Goals as goal

pub returns-in-Some : goal.returns-in-Some
returns-in-Some c =
    let it = c.args.self.now in
    let task = c.args.task in
    let placed = c.in-Some.placed in
    let unchanged : ℕ → Key → Bool = λ number key. is_unchanged_up_to (task_list task (line_from 1 it.old)) (task_list task (line_from 1 it.new)) number key in
    let test : IsMaybeMovedTest it c.self.inside.before.now c.self.inside.cuts.now = search rules in
    let below : is_before placed.key END ≡ true = subst (λ (place : Option Placed). IfSome place (λ p. is_before p.key END ≡ true)) c.in-Some.is c.requires in
    let answer_given : is_before placed.key c.unchanged_until-until.result ≡ unchanged placed.datagram placed.key =
    unchanged-is it c.self.inside.before.now c.self.inside.cuts.now test task c.datagram.result c.unchanged_until-until.result c.unchanged_until-until.ensures placed.key below
    ∙ ap (λ (number : ℕ). unchanged number placed.key) c.datagram.ensures in
    search rules
