use Rattle.std.proofs.Common.{◌≡◌, ◌≢◌, ℕ, List, sym, ap, ap₂, ◌∙◌, None, Some}
use Rattle.hc_places.specs.Table.{Table}
use Rattle.hc_events.specs.Entries.{History}
use Rattle.hc_publish.specs.ChangesSince.{epoch_shown, table_shown}
use Rattle.hc_rings.specs.Post.{Post}
use Rattle.hc_conductor.specs.declared.one_thread.refusals.PostRefusal.TheVariants as why
use Rattle.hc_conductor.specs.Mastering.{master_shown, waiting}
use Rattle.hc_conductor.specs.Posting.{post_made, post_refused, with_post}
use Rattle.hc_conductor.proofs.lemmas.AnswerGiven.{err-weaker}
use Rattle.hc_program.specs.Postings.{post_judged, with_posted}
use Rattle.hc_program.specs.Sessions.{session_state_in}
use Rattle.hc_program.specs.Standings.{SessionState}
use Rattle.hc_program.proofs.Posting.{on_ok, shown_line}
use Rattle.hc_program.proofs.session.Session.post.Goals as goal

pub returns-clause-next : goal.returns-clause-next
returns-clause-next c =
    let old = c.self.inside.master in
    let line = c.self.inside.line in
    let seen = c.self.inside.seen.value.history in
    let task = c.args.task in
    let settings = c.args.settings.now in
    let of = shown_line seen (master_shown old) c.changes_show_all.ensures c.self.invariant in
    on_ok c.post.result (waiting c.post.new.self ≡ with_post task (post_made (epoch_shown (master_shown old)) (table_shown (master_shown old)) task settings) (waiting old))
    (session_state_in (record { master = c.post.new.self; line = line; seen = c.self.inside.seen }) ≡ with_posted c.args.self.now task settings)
    (λ answer_given.
    let posts = answer_given ∙ ap₂ (λ (e : ℕ) (t : Table). with_post task (post_made e t task settings) (waiting old)) of.1 of.0 in
    ap₂ (λ (history : History) (ps : List (List Post)). record { history = history; machines = line; posts = ps; seen = seen }) c.post.ensures.record posts
    ∙ ap (λ (s : SessionState). with_posted s task settings) c.self.view_is) c.post.ensures.posted

pub returns-clause-accepted : goal.returns-clause-accepted
returns-clause-accepted c =
    let old = c.self.inside.master in
    let seen = c.self.inside.seen.value.history in
    let task = c.args.task in
    let settings = c.args.settings.now in
    let of = shown_line seen (master_shown old) c.changes_show_all.ensures c.self.invariant in
    let judged = ap (λ (s : SessionState). post_judged s task settings) (sym c.self.view_is) ∙ ap (λ (t : Table). post_refused t task settings (waiting old)) (sym of.0) in
    on_ok c.post.result (post_refused (table_shown (master_shown old)) task settings (waiting old) ≡ None) (post_judged c.args.self.now task settings ≡ None) (λ answer_given. judged ∙ answer_given) c.post.ensures.accepted

pub returns-clause-refused : goal.returns-clause-refused
returns-clause-refused c =
    let old = c.self.inside.master in
    let seen = c.self.inside.seen.value.history in
    let task = c.args.task in
    let settings = c.args.settings.now in
    let of = shown_line seen (master_shown old) c.changes_show_all.ensures c.self.invariant in
    let judged = ap (λ (s : SessionState). post_judged s task settings) (sym c.self.view_is) ∙ ap (λ (t : Table). post_refused t task settings (waiting old)) (sym of.0) in
    err-weaker c.post.result (λ refusal. refusal ≢ why.NoEntry → refusal ≢ why.Memory → post_refused (table_shown (master_shown old)) task settings (waiting old) ≡ Some refusal)
    (λ refusal. refusal ≢ why.NoEntry → refusal ≢ why.Memory → post_judged c.args.self.now task settings ≡ Some refusal) (λ refusal is entry memory. judged ∙ is entry memory) c.post.ensures.refused
