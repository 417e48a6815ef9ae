use Rattle.std.proofs.Common.{◌≡◌, ◌≢◌, ℕ, ◌<◌, length, map, set, sym, ap, subst, ◌∙◌, arith, Some}
use Rattle.std.specs.Prelude.{IfOk, slice_index_or}
use Rattle.std.proofs.lemmas.Result.{IfOk-weaker}
use Rattle.hc_publish.specs.ChangesSince.{ChangesSince, epoch_shown, table_shown}
use Rattle.hc_conductor.specs.Seats.{seat_epoch, outputs_size, seat_task}
use Rattle.hc_conductor.specs.declared.one_thread.refusals.PostRefusal.TheVariants as why
use Rattle.hc_conductor.specs.Mastering.{Mastering, master_shown, waiting}
use Rattle.hc_conductor.specs.Posting.{HasViewed, PostIsFilled, first_refused, known_to}
use Rattle.hc_conductor.proofs.Seated.{seen-at}
use Rattle.hc_conductor.proofs.OneThreadSeatings.{seat-unchanged, seat-of, waiting-unchanged}
use Rattle.hc_conductor.proofs.lemmas.AnswerGiven.{err-weaker}
use Rattle.hc_conductor.proofs.one_thread.master.Master.filled_for.Goals as goal

pub replace_with-requires : goal.replace_with-requires
replace_with-requires c =
    let m : Mastering = record { conductor = c.self.inside.conductor; seats = c.self.inside.seats.items } in
    let own = seat-of m c.args.task c.from.result c.index_mut.result.now c.index_mut.result.now c.self.invariant c.from.ensures c.requires c.index_mut.ensures.value in (c.note-note.ensures.origin ∙ sym own.origin, (own.knows ∙ sym c.note-note.ensures.carried, (own.task_is, c.requires)))

pub invariant_of-self : goal.invariant_of-self
invariant_of-self c =
    let m : Mastering = record { conductor = c.self.inside.conductor; seats = c.self.inside.seats.items } in
    let answer_given = c.replace_with.ensures.1.1.1 in
    seat-unchanged m c.from.result c.index_mut.result.now c.replace_with.new.dest c.index_mut.result.now c.self.invariant c.index_mut.ensures.value
    (record { task = answer_given.0.2; knows = answer_given.0.0; origin = answer_given.0.1; sends = answer_given.1 })

pub returns-clause-filled : goal.returns-clause-filled
returns-clause-filled c =
    let m : Mastering = record { conductor = c.self.inside.conductor; seats = c.self.inside.seats.items } in
    let s = c.index_mut.result.now in
    let own = seat-of m c.args.task c.from.result s s c.self.invariant c.from.ensures c.requires c.index_mut.ensures.value in
    subst (λ (t : ChangesSince). IfOk c.replace_with.result (λ bytes. PostIsFilled (table_shown t) c.args.task c.args.settings.now bytes.items)) (own.answer_given ∙ ap master_shown c.self.view_is)
    (subst (λ (k : ℕ). IfOk c.replace_with.result (λ bytes. PostIsFilled (table_shown (known_to s)) k c.args.settings.now bytes.items)) own.task_is c.replace_with.ensures.0)

pub returns-clause-viewed : goal.returns-clause-viewed
returns-clause-viewed c =
    let m : Mastering = record { conductor = c.self.inside.conductor; seats = c.self.inside.seats.items } in
    let task = c.args.task in
    let s = c.index_mut.result.now in
    let t = c.replace_with.new.dest in
    let n = c.from.result in
    let own = seat-of m task n s s c.self.invariant c.from.ensures c.requires c.index_mut.ensures.value in
    let inside : n < length m.seats = omega (arith, own.inside, c.from.ensures) in
    let epoch = ap (λ (k : ℕ). slice_index_or (map seat_epoch (set m.seats n t)) k 0) (sym c.from.ensures) ∙ seen-at seat_epoch m.seats n t inside in
    let size = ap (λ (k : ℕ). slice_index_or (map outputs_size (set m.seats n t)) k 0) (sym c.from.ensures) ∙ seen-at outputs_size m.seats n t inside in
    IfOk-weaker c.replace_with.result (λ bytes. (seat_epoch t ≡ epoch_shown (known_to s)) × (outputs_size t ≡ length bytes.items))
    (λ bytes. HasViewed (record { conductor = m.conductor; seats = set m.seats n t }) task (epoch_shown (master_shown c.args.self.now)) (length bytes.items))
    (λ bytes viewed. record { epoch_is = epoch ∙ (viewed.0 ∙ ap epoch_shown (own.answer_given ∙ ap master_shown c.self.view_is)); size_is = size ∙ viewed.1 }) c.replace_with.ensures.1.0

pub returns-clause-refused : goal.returns-clause-refused
returns-clause-refused c =
    let m : Mastering = record { conductor = c.self.inside.conductor; seats = c.self.inside.seats.items } in
    let s = c.index_mut.result.now in
    let settings = c.args.settings.now in
    let own = seat-of m c.args.task c.from.result s s c.self.invariant c.from.ensures c.requires c.index_mut.ensures.value in
    let same : known_to s ≡ master_shown c.args.self.now = own.answer_given ∙ ap master_shown c.self.view_is in
    let judged = ap (λ (t : ChangesSince). first_refused (table_shown t) c.args.task settings) (sym same) ∙ ap (λ (k : ℕ). first_refused (table_shown (known_to s)) k settings) (sym own.task_is) in
    err-weaker c.replace_with.result (λ refusal. refusal ≢ why.NoEntry → refusal ≢ why.Memory → first_refused (table_shown (known_to s)) (seat_task s) settings ≡ Some refusal)
    (λ refusal. refusal ≢ why.NoEntry → refusal ≢ why.Memory → first_refused (table_shown (master_shown c.args.self.now)) c.args.task settings ≡ Some refusal) (λ refusal is entry memory. judged ∙ is entry memory) c.replace_with.ensures.1.1.0

pub returns-clause-waiting : goal.returns-clause-waiting
returns-clause-waiting c =
    let m : Mastering = record { conductor = c.self.inside.conductor; seats = c.self.inside.seats.items } in
    let answer_given = c.replace_with.ensures.1.1.1 in
    waiting-unchanged m c.from.result c.index_mut.result.now c.replace_with.new.dest c.index_mut.result.now c.index_mut.ensures.value
    (record { task = answer_given.0.2; knows = answer_given.0.0; origin = answer_given.0.1; sends = answer_given.1 })
    ∙ ap waiting c.self.view_is
