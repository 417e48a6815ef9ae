use Rattle.std.proofs.Common.{◌≡◌, ℕ, ◌<◌, List, refl, sym, ap, subst, ◌∙◌, arith}
use Rattle.std.specs.Prelude.{IfOk}
use Rattle.std.proofs.Math.Seq.{map-set_same}
use Rattle.std.proofs.lemmas.Result.{IfOk-weaker}
use Rattle.hc_core.specs.State.{CoreState}
use Rattle.hc_events.specs.Accepted.{IsReachable}
use Rattle.hc_events.specs.Points.{opened_with}
use Rattle.hc_publish.specs.Laws.{ShowsHistory}
use Rattle.hc_publish.specs.ChangesSince.{ChangesSince}
use Rattle.hc_publish.specs.Stories.{Origin}
use Rattle.hc_rings.specs.declared.posts.PostSender.{PostSender}
use Rattle.hc_rings.specs.Ring as ring
use Rattle.hc_conductor.specs.Conducting.{PublishesAll, conductor_origin, conductor_published}
use Rattle.hc_conductor.specs.Seats.{seat_held, seat_known, task_seat_origin, sender, seat_task}
use Rattle.hc_conductor.specs.Together.{EachRing, LostNoBuffer, posts_waiting}
use Rattle.hc_conductor.specs.Mastering.{Mastering, master_history, master_shown, waiting}
use Rattle.hc_conductor.specs.Viewing.{IsViewAfter, IsViewOf}
use Rattle.hc_conductor.proofs.Seated.{each-at, number-at}
use Rattle.hc_conductor.proofs.lemmas.AnswerGiven.{answer_given-same, view-after_it}
use Rattle.hc_conductor.proofs.one_thread.master.Master.view.Goals as goal

pub replace_with-requires : goal.replace_with-requires
replace_with-requires c =
    let i = c.self.invariant in
    let items = c.self.inside.seats.items in
    let s = c.index_mut.result.now in
    let n = c.from.result in
    let low : n < 8 = omega (arith, c.from.ensures, c.requires) in
    let at = c.index_mut.ensures.value in
    let origin = ap task_seat_origin at ∙ each-at task_seat_origin items 8 (conductor_origin c.self.inside.conductor) n s i.origins low in
    let knows = ap seat_known at ∙ each-at seat_known items 8 (conductor_published c.self.inside.conductor) n s i.known low in
    (c.note-note.ensures.origin ∙ sym origin, knows ∙ sym c.note-note.ensures.carried)

pub invariant_of-self : goal.invariant_of-self
invariant_of-self c =
    let i = c.self.invariant in
    let items = c.self.inside.seats.items in
    let s = c.index_mut.result.now in
    let t = c.replace_with.new.dest in
    let n = c.from.result in
    let at = c.index_mut.ensures.value in
    let answer_given = c.replace_with.ensures in
    let senders = map-set_same sender items n t s (answer_given.1.1 ∙ ap sender at) in
    record {
      tasks = map-set_same seat_task items n t s (answer_given.1.0.2 ∙ ap seat_task at) ∙ i.tasks;
      known = map-set_same seat_known items n t s (answer_given.1.0.0 ∙ ap seat_known at) ∙ i.known;
      origins = map-set_same task_seat_origin items n t s (answer_given.1.0.1 ∙ ap task_seat_origin at) ∙ i.origins;
      none_held = map-set_same seat_held items n t s (ap ring.held (answer_given.1.1 ∙ ap sender at)) ∙ i.none_held;
      whole = subst (λ (ss : List PostSender). EachRing LostNoBuffer ss c.self.inside.conductor.rings) (sym senders) i.whole;
    }

pub returns-clause-viewed : goal.returns-clause-viewed
returns-clause-viewed c =
    let i = c.self.invariant in
    let items = c.self.inside.seats.items in
    let s = c.index_mut.result.now in
    let n = c.from.result in
    let low : n < 8 = omega (arith, c.from.ensures, c.requires) in
    let at = c.index_mut.ensures.value in
    let origin = ap task_seat_origin at ∙ each-at task_seat_origin items 8 (conductor_origin c.self.inside.conductor) n s i.origins low in
    let knows = ap seat_known at ∙ each-at seat_known items 8 (conductor_published c.self.inside.conductor) n s i.known low in
    let task = ap seat_task at ∙ (number-at seat_task items 8 n s i.tasks low ∙ c.from.ensures) in
    let seat : ChangesSince = record { groups = (task_seat_origin s).groups; changes = seat_known s } in
    let same : seat ≡ master_shown c.args.self.now = answer_given-same seat (master_shown (record { conductor = c.self.inside.conductor; seats = items })) (ap (λ (o : Origin). o.groups) origin) knows ∙ ap master_shown c.self.view_is in
    subst (λ (t : ChangesSince). IfOk c.replace_with.result (IsViewOf t c.args.task c.args.number)) same
    (subst (λ (k : ℕ). IfOk c.replace_with.result (IsViewOf seat k c.args.number)) task c.replace_with.ensures.0)

pub returns-clause-after_it : goal.returns-clause-after_it
returns-clause-after_it c = λ (says : PublishesAll c.args.self.now.conductor).
    let m = c.args.self.now in
    let history = master_history m in
    let reachable = subst (λ (s : CoreState). IsReachable s.history) (c.core.ensures.core ∙ ap (λ (x : Mastering). x.conductor.core) c.self.view_is) c.plan.ensures.reachable in
    let groups = subst (λ (x : Mastering). (conductor_origin x.conductor).groups ≡ opened_with (master_history x)) c.self.view_is c.core.ensures.conducting.groups in
    let answer_given : ChangesSince = record { groups = opened_with history; changes = conductor_published m.conductor } in
    let shows = subst (λ (t : ChangesSince). ShowsHistory history t) (answer_given-same answer_given (master_shown m) (sym groups) refl) (c.shows_what_is_read.ensures history (conductor_published m.conductor) reachable says.legal says.updates) in
    IfOk-weaker c.replace_with.result (IsViewOf (master_shown m) c.args.task c.args.number) (IsViewAfter history c.args.task c.args.number)
    (λ viewed is. view-after_it history (master_shown m) c.args.task c.args.number viewed shows is) (returns-clause-viewed c)

pub returns-clause-waiting : goal.returns-clause-waiting
returns-clause-waiting c =
    let items = c.self.inside.seats.items in
    let senders = map-set_same sender items c.from.result c.replace_with.new.dest c.index_mut.result.now (c.replace_with.ensures.1.1 ∙ ap sender c.index_mut.ensures.value) in
    ap (λ (ss : List PostSender). posts_waiting ss c.self.inside.conductor.rings) senders ∙ ap waiting c.self.view_is
