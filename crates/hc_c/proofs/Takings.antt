-- The newest of the posts that came since the owner looked before is taken and judged.
use Rattle.std.proofs.Common.{◌≡◌, ◌∙◌, ℕ, ◌<◌, Bool, true, false, [], ◌∷◌, length, refl, sym, ap, subst}
use Rattle.std.specs.Prelude.{not, ◌||◌}
use Rattle.std.specs.List.{list_any}
use Rattle.hc_events.specs.declared.answer.Answer.{Answer}
use Rattle.hc_events.specs.Steps.{answer_to, entries_after}
use Rattle.hc_core.specs.State.{CoreState}
use Rattle.hc_mail.specs.Contents.{StartsWith, last_after, newest}
use Rattle.hc_mail.specs.Ends.{ReceiverEnd, StaysAtTable, reported, seen}
use Rattle.hc_mail.specs.Posts.{MailedPost, post_kind}
use Rattle.hc_c.specs.TakenPosts.{TakesFrom, posting_of, is_posted, is_refused}
use Rattle.hc_c.specs.declared.seat.ends.OwnerEnd.{OwnerEnd}
use Rattle.hc_c.proofs.Mailed.{last-of-more, some-more}

or_none : (b : Bool) → (b || false) ≡ b
or_none true = refl
or_none false = refl

any_of_one : (is : Answer → Bool) (answer : Answer) → list_any is (answer ∷ []) ≡ is answer
any_of_one is answer = or_none (is answer)

pub took : (task : ℕ) (before after : CoreState) (old new : OwnerEnd) (looked : ReceiverEnd MailedPost) (post : MailedPost) (ok : Bool)
    → StartsWith (seen looked.place) (seen old.posts.place) → StartsWith (seen looked.place) (reported old.posts.place) → length (seen old.posts.place) < length (seen looked.place)
    → StaysAtTable old.posts.place looked.place → post ≡ newest post_kind looked.room (seen looked.place)
    → after ≡ record before { history = entries_after before.history (posting_of task post) } → is_posted (answer_to before.history (posting_of task post)) ≡ ok
    → new.posts ≡ looked → new.images ≡ old.images → new.is_refused ≡ not ok → TakesFrom task before after old new (ok, not ok)
took task before after old new looked post ok later noted longer table is_post core judged posts images refused =
    let more = some-more (seen old.posts.place) (seen looked.place) later longer in
    let last : post ≡ last_after more.0 more.1 = is_post ∙ (ap (newest post_kind looked.room) more.2 ∙ last-of-more (post_kind.blank looked.room) (seen old.posts.place) more.0 more.1) in
    let fate = sym judged ∙ ap (λ (p : MailedPost). is_posted (answer_to before.history (posting_of task p))) last in (
      more.0 ∷ more.1,
      record {
        came = ap (λ (end : ReceiverEnd MailedPost). seen end.place) posts ∙ more.2;
        noted = subst (λ (end : ReceiverEnd MailedPost). StartsWith (seen end.place) (reported old.posts.place)) (sym posts) noted;
        table = subst (λ (end : ReceiverEnd MailedPost). StaysAtTable old.posts.place end.place) (sym posts) table;
        fate = refused;
        images = images;
      },
      record {
        core = core ∙ ap (λ (p : MailedPost). record before { history = entries_after before.history (posting_of task p) }) last;
        any_accepted = fate ∙ sym (any_of_one is_posted (answer_to before.history (posting_of task (last_after more.0 more.1))));
        any_refused = ap not fate ∙ sym (any_of_one is_refused (answer_to before.history (posting_of task (last_after more.0 more.1))));
      },
    )
