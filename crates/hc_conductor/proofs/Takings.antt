-- Posts that are taken, one after another.
use Rattle.std.proofs.Common.{◌≡◌, ℕ, ◌+◌, ◌*◌, ◌<◌, ◌≤◌, ◌⊎◌, List, [], ◌∷◌, ◌++◌, filter, length, refl, sym, take, ap, subst, ◌∙◌, arith}
use Rattle.std.specs.Prelude.{All}
use Rattle.std.proofs.Math.Seq.{take-append_seam}
use Rattle.std.proofs.lemmas.List.{length-append, length-map}
use Rattle.std.proofs.lemmas.List.Elements.{All-head, filter-append}
use Rattle.hc_events.specs.Entries.{History}
use Rattle.hc_events.specs.Steps.{Step, answer_to, answers_to, entries_after, entries_after_all}
use Rattle.hc_rings.specs.declared.posts.TheConstants.{POSTS_WAITING}
use Rattle.hc_rings.specs.declared.posts.PostReceiver.{PostReceiver}
use Rattle.hc_rings.specs.Post.{Post}
use Rattle.hc_rings.specs.Ring.{taken}
use Rattle.hc_core.specs.State.{CoreState}
use Rattle.hc_conductor.specs.declared.taking.PostRule.{PostRule}
use Rattle.hc_conductor.specs.declared.taking.PostRule.TheVariants.{Present, Steady}
use Rattle.hc_conductor.specs.declared.taking.Taken.{Taken}
use Rattle.hc_conductor.specs.Conducting.{Conducting, core_history}
use Rattle.hc_conductor.specs.Taking.{AreTaken, CountsPosts, TakesFrom, TakesFromAll, TakesPostsBy, all_events_by, event_by, events_by, was_accepted, posted_in}

-- ---- one more post, before the others

-- four at most
pub four-taken : (rule : PostRule) (task most : ℕ) (before after : CoreState) (old new : PostReceiver) (taken : Taken) → most ≤ POSTS_WAITING → TakesFrom rule task most before after old new taken
    → TakesFrom rule task POSTS_WAITING before after old new taken
four-taken rule task most before after old new taken few takes = record {
  posts = takes.posts;
  ring = record {
    few = let own = takes.ring.few in omega (arith, own, few);
    ring = takes.ring.ring;
    taken = takes.ring.taken;
    back = takes.ring.back;
    no_more = takes.ring.no_more;
  };
  core = takes.core;
  counts = takes.counts;
}

-- ---- one ring before the others

entries_later : (history : History) (first second : List Step) → entries_after_all history (first ++ second) ≡ entries_after_all (entries_after_all history first) second
entries_later history [] second = refl
entries_later history (step ∷ first) second = entries_later (entries_after history step) first second

answers_after : (history : History) (first second : List Step) → answers_to history (first ++ second) ≡ answers_to history first ++ answers_to (entries_after_all history first) second
answers_after history [] second = refl
answers_after history (step ∷ first) second = ap (λ others. answer_to history step ∷ others) (answers_after (entries_after history step) first second)

posted_after : (history : History) (first second : List Step) → posted_in history (first ++ second) ≡ posted_in history first + posted_in (entries_after_all history first) second
posted_after history first second =
    let here = answers_to history first in
    let there = answers_to (entries_after_all history first) second in
    ap (λ answers. length (filter was_accepted answers)) (answers_after history first second)
    ∙ ap length (filter-append was_accepted here there)
    ∙ length-append (filter was_accepted here) (filter was_accepted there)

events-join : (rule : PostRule) (task : ℕ) (posts : List Post) (others : List (List Post)) → all_events_by rule task (posts ∷ others) ≡ events_by rule task posts ++ all_events_by rule (task + 1) others
events-join Present task posts others = refl
events-join Steady task posts others = refl

counts_with : (history : History) (here there : List Step) (answer_given first rest : Taken) → CountsPosts history here first → CountsPosts (entries_after_all history here) there rest
    → answer_given.accepted ≡ first.accepted + rest.accepted → answer_given.refused ≡ first.refused + rest.refused → CountsPosts history (here ++ there) answer_given
counts_with history here there answer_given first rest one others accepted refused = record {
  accepted = omega (arith, accepted, one.accepted, others.accepted, posted_after history here there);
  all = omega (arith, accepted, refused, one.all, others.all, length-append here there);
}

pub rings-taken : (rule : PostRule) (task : ℕ) (before middle after : CoreState) (old new : PostReceiver) (olds updates : List PostReceiver) (answer_given first rest : Taken)
    → TakesFrom rule task POSTS_WAITING before middle old new first → TakesFromAll rule (task + 1) middle after olds updates rest
    → answer_given.accepted ≡ first.accepted + rest.accepted → answer_given.refused ≡ first.refused + rest.refused
    → TakesFromAll rule task before after (old ∷ olds) (new ∷ updates) answer_given
rings-taken rule task before middle after old new olds updates answer_given first rest one others accepted refused =
    let here = events_by rule task one.posts in
    let there = all_events_by rule (task + 1) others.posts in
    let join = sym (events-join rule task one.posts others.posts) in
    record {
      posts = one.posts ∷ others.posts;
      rings = (one.ring, others.rings);
      core =
          others.core
          ∙ ap (λ (c : CoreState). record c { history = entries_after_all c.history there }) one.core
          ∙ ap (λ (history : History). record before { history = history }) (sym (entries_later before.history here there))
          ∙ ap (λ (steps : List Step). record before { history = entries_after_all before.history steps }) join;
      counts = subst (λ (steps : List Step). CountsPosts before.history steps answer_given) join
          (counts_with before.history here there answer_given first rest one.counts (subst (λ (c : CoreState). CountsPosts c.history there rest) one.core others.counts) accepted refused);
    }

-- ---- how many there are at most

pub first-few : (most rest : List ℕ) (n : ℕ) → most ≡ n ∷ rest → All (λ m. m ≤ POSTS_WAITING) most → n ≤ POSTS_WAITING
first-few most rest n is few =
    All-head (λ (m : ℕ). m ≤ POSTS_WAITING) n rest (subst (All (λ (m : ℕ). m ≤ POSTS_WAITING)) is few)

no_events : (rule : PostRule) (task : ℕ) → all_events_by rule task [] ≡ []
no_events Present task = refl
no_events Steady task = refl

pub few-events : (rule : PostRule) (task : ℕ) (olds updates : List PostReceiver) (posts : List (List Post)) → AreTaken olds updates posts → length (all_events_by rule task posts) ≤ POSTS_WAITING * length olds
few-events rule task [] [] [] are = omega (arith, ap length (no_events rule task))
few-events rule task (old ∷ olds) (new ∷ updates) (one ∷ others) are =
    let few = are.0.few in
    let rest = few-events rule (task + 1) olds updates others are.1 in
    omega (arith, few, rest, ap length (events-join rule task one others), length-append (events_by rule task one) (all_events_by rule (task + 1) others), length-map one (event_by rule task))
few-events rule task [] [] (one ∷ others) are = absurd are
few-events rule task [] (new ∷ updates) posts are = absurd are
few-events rule task (old ∷ olds) [] posts are = absurd are
few-events rule task (old ∷ olds) (new ∷ updates) [] are = absurd are

pub as-many-rings : (olds updates : List PostReceiver) (posts : List (List Post)) → AreTaken olds updates posts → length updates ≡ length olds
as-many-rings [] [] [] are = refl
as-many-rings (old ∷ olds) (new ∷ updates) (one ∷ others) are = let rest = as-many-rings olds updates others are.1 in omega (arith, rest)
as-many-rings [] [] (one ∷ others) are = absurd are
as-many-rings [] (new ∷ updates) posts are = absurd are
as-many-rings (old ∷ olds) [] posts are = absurd are
as-many-rings (old ∷ olds) (new ∷ updates) [] are = absurd are

-- what is written over as many is the whole
pub whole-list : {A : Type 0} (updates rest : List A) (n : ℕ) → length updates ≡ n → take n (updates ++ rest) ≡ updates
whole-list updates rest n e = subst (λ (k : ℕ). take k (updates ++ rest) ≡ updates) e (take-append_seam updates rest)

-- what a rule says of a conductor's rings and its core

pub takes-by : (rule : PostRule) (old new : Conducting) (answer_given : Taken) (posts : List (List Post)) → AreTaken old.rings new.rings posts
    → core_history new ≡ entries_after_all (core_history old) (all_events_by rule 0 posts) → CountsPosts (core_history old) (all_events_by rule 0 posts) answer_given → TakesPostsBy rule old new answer_given
takes-by Present old new answer_given posts rings entries counts = record { posts = posts; rings = rings; entries = entries; counts = counts }
takes-by Steady old new answer_given posts rings entries counts = record { posts = posts; rings = rings; entries = entries; counts = counts }
