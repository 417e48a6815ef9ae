-- What waits between a conductor and its seats, where both ends of each ring are in one hand.
use Rattle.std.proofs.Common.{rules, ◌≡◌, ℕ, zero, suc, Bool, true, false, cond, ◌⊎◌, inl, inr, filter, ◌+◌, ◌<◌, ◌≤◌, List, [], ◌∷◌, ◌++◌, length, map, take, drop, refl, sym, ap, subst, ◌∙◌, arith, append_assoc}
use Rattle.std.specs.Prelude.{All}
use Rattle.std.proofs.Math.Seq.{drop-append_seam, take-append_seam}
use Rattle.std.proofs.lemmas.List.{append-nil, append_cancel_left, length-append, length-map}
use Rattle.std.proofs.lemmas.List.Elements.{All-cons, All-nil}
use Rattle.std.proofs.lemmas.Grind.{common_steps}
use mathlib.Core.List.{IsPrefix}
use Rattle.hc_events.specs.declared.answer.Answer.{Answer}
use Rattle.hc_events.specs.Entries.{History}
use Rattle.hc_events.specs.Steps.{answer_to, answers_to, entries_after, entries_after_all}
use Rattle.hc_rings.specs.declared.posts.TheConstants.{POSTS_WAITING}
use Rattle.hc_rings.specs.declared.posts.PostReceiver.{PostReceiver}
use Rattle.hc_rings.specs.declared.posts.PostSender.{PostSender}
use Rattle.hc_rings.specs.Post.{Post}
use Rattle.hc_rings.specs.Ring.{SameReceiver, given_back, left, posted, spare_places, taken}
use Rattle.hc_rings.proofs.lemmas.Same.{ends-still, sender-same}
use Rattle.hc_core.specs.State.{CoreState}
use Rattle.hc_conductor.specs.declared.taking.PostRule.{PostRule}
use Rattle.hc_conductor.specs.declared.taking.Taken.{Taken}
use Rattle.hc_conductor.specs.Taking.{AreTaken, AreTakenFrom, EachTakesKnown, TakesFrom, TakesKnown, TakesWaiting, event_by, events_by, one_if, posted_in, was_accepted}
use Rattle.hc_conductor.specs.Together.{AreJoined, EachRing, LostNoBuffer, KnowAll, posts_waiting, waiting_between}

-- ---- one post that is known comes out

first_known : {X : Type 0} (n : ℕ) (l m : List X) (b : X) → suc n ≤ length l → IsPrefix l (b ∷ m) → (n ≤ length m) × (take (suc n) l ≡ b ∷ take n m)
first_known n [] m b few p = grind (arith, common_steps)
first_known n (x ∷ l) m b few p = grind (arith, common_steps)

pub one-known : (n : ℕ) (old mid back new : PostReceiver) (post : Post) → IsPrefix (left old) (post ∷ left mid) → taken mid ≡ taken old ++ post ∷ []
    → taken back ≡ taken mid → left back ≡ left mid → TakesKnown n back new → TakesKnown (suc n) old new
one-known n old mid back new post first one after_it still others few =
    let known = first_known n (left old) (left mid) post few first in
    others (omega (arith, known.0, ap length still))
    ∙ (ap (λ ps. ps ++ take n (left back)) (after_it ∙ one)
    ∙ (append_assoc (taken old) (post ∷ []) (take n (left back))
    ∙ ap (λ ps. taken old ++ ps) (ap (λ l. post ∷ take n l) still ∙ sym known.1)))

-- one post that came out became an event of the core

accepted_one : (accepted : Bool) (answer_given : Answer) (others : List Answer) → was_accepted answer_given ≡ accepted → length (filter was_accepted (answer_given ∷ others)) ≡ one_if accepted + length (filter was_accepted others)
accepted_one true answer_given others is = ap (λ b. length (cond b (answer_given ∷ filter was_accepted others) (filter was_accepted others))) is ∙ omega arith
accepted_one false answer_given others is = ap (λ b. length (cond b (answer_given ∷ filter was_accepted others) (filter was_accepted others))) is ∙ omega arith

one_back : (old mid back : List Post) (places : ℕ) (post : Post) → mid ≡ old → (back ≡ mid ++ post ∷ []) ⊎ ((back ≡ mid) × (places ≡ 0)) → length back ≤ length old + 1
one_back old mid back places post same (inl more) = omega (arith, ap length more, length-append mid (post ∷ []), ap length same)
one_back old mid back places post same (inr (none, full)) = omega (arith, ap length none, ap length same)

pub one-taken : (rule : PostRule) (task n most : ℕ) (before middle after : CoreState) (old mid back new : PostReceiver) (post : Post) (accepted : Bool) (others answer_given : Taken) → suc n ≡ most
    → middle ≡ record before { history = entries_after before.history (event_by rule task post) } → was_accepted (answer_to before.history (event_by rule task post)) ≡ accepted
    → SameReceiver old mid → taken mid ≡ taken old ++ post ∷ [] → spare_places mid ≡ spare_places old → given_back mid ≡ given_back old
    → SameReceiver mid back → taken back ≡ taken mid → (given_back back ≡ given_back mid ++ post ∷ []) ⊎ ((given_back back ≡ given_back mid) × (spare_places back ≡ 0))
    → (0 < spare_places mid → given_back back ≡ given_back mid ++ post ∷ []) → spare_places mid ≤ spare_places back + 1
    → TakesFrom rule task n middle after back new others → answer_given.accepted ≡ one_if accepted + others.accepted → answer_given.accepted + answer_given.refused ≡ 1 + (others.accepted + others.refused)
    → TakesFrom rule task most before after old new answer_given
one-taken rule task n most before middle after old mid back new post accepted others answer_given all moved answers ring one places given ring_too still gave gives room from counted sum =
    let next = entries_after before.history (event_by rule task post) in
    let history : middle.history ≡ next = ap (λ (core : CoreState). core.history) moved in
    let few = from.ring.few in
    let more = one_back (given_back old) (given_back mid) (given_back back) (spare_places back) post given gave in
    let no_more = from.ring.no_more in
    let length_is : length (events_by rule task from.posts) ≡ length from.posts = length-map from.posts (event_by rule task) in
    record {
      posts = post ∷ from.posts;
      ring = record {
        few = omega (arith, few, all);
        ring = same_receivers old mid back new ring ring_too from.ring.ring;
        taken = from.ring.taken ∙ ap (λ (posts : List Post). posts ++ from.posts) (still ∙ one) ∙ append_assoc (taken old) (post ∷ []) from.posts;
        back = λ enough.
            let back_too : given_back back ≡ given_back mid ++ post ∷ [] = gives (omega (arith, enough, places)) in
            from.ring.back (omega (arith, enough, places, room)) ∙ ap (λ (posts : List Post). posts ++ from.posts) (back_too ∙ ap (λ (posts : List Post). posts ++ post ∷ []) given) ∙ append_assoc (given_back old) (post ∷ []) from.posts;
        no_more = omega (arith, no_more, more);
      };
      core = from.core ∙ ap (λ (core : CoreState). let made : CoreState = record core { history = entries_after_all core.history (events_by rule task from.posts) } in made) moved;
      counts = record {
        accepted = counted ∙ ap (λ k. one_if accepted + k) (from.counts.accepted ∙ ap (λ (h : History). posted_in h (events_by rule task from.posts)) history)
            ∙ sym (accepted_one accepted (answer_to before.history (event_by rule task post)) (answers_to next (events_by rule task from.posts)) answers);
        all = sum ∙ ap (λ k. 1 + k) from.counts.all ∙ omega arith;
      };
    }
  where
    same_receivers : (a b c d : PostReceiver) → SameReceiver a b → SameReceiver b c → SameReceiver c d → SameReceiver a d
    same_receivers a b c d first second third = search rules

-- the front of a prefix is a prefix of the front
front_prefix : {X : Type 0} (n : ℕ) (l m : List X) → IsPrefix l m → IsPrefix (take n l) (take n m)
front_prefix zero l m p = ([], refl)
front_prefix (suc n) [] m p = (take (suc n) m, refl)
front_prefix {X = X} (suc n) (x ∷ l) m p =
    let rest = front_prefix n l (l ++ p.0) (p.0, refl) in
    subst (λ (ys : List X). IsPrefix (x ∷ take n l) (take (suc n) ys)) p.1 (rest.0, ap (λ ys. x ∷ ys) rest.1)

pub one-waiting : (n : ℕ) (old mid back new : PostReceiver) (post : Post) → IsPrefix (left old) (post ∷ left mid) → taken mid ≡ taken old ++ post ∷ []
    → taken back ≡ taken mid → left back ≡ left mid → TakesWaiting n back new → TakesWaiting (suc n) old new
one-waiting n old mid back new post first one after_it still others =
    let front = front_prefix (suc n) (left old) (post ∷ left mid) first in
    let begun : taken old ++ (post ∷ take n (left mid)) ≡ taken back ++ take n (left back) =
    sym (append_assoc (taken old) (post ∷ []) (take n (left mid)))
    ∙ (ap (λ ps. ps ++ take n (left mid)) (sym (after_it ∙ one)) ∙ ap (λ l. taken back ++ take n l) (sym still)) in (
      front.0 ++ others.0,
      sym (append_assoc (taken old ++ take (suc n) (left old)) front.0 others.0)
          ∙ (ap (λ ps. ps ++ others.0) (append_assoc (taken old) (take (suc n) (left old)) front.0 ∙ (ap (λ ps. taken old ++ ps) front.1 ∙ begun))
          ∙ others.1),
    )

take-nothing : {X : Type 0} (n : ℕ) → take {A = X} n [] ≡ []
take-nothing zero = refl
take-nothing (suc n) = refl

pub none-waiting : (n : ℕ) (old new : PostReceiver) → left old ≡ [] → taken new ≡ taken old → TakesWaiting n old new
none-waiting n old new none same =
    ([], append-nil (taken old ++ take n (left old)) ∙ (ap (λ l. taken old ++ take n l) none ∙ (ap (λ l. taken old ++ l) (take-nothing n) ∙ (append-nil (taken old) ∙ sym same))))

-- ---- a ring whose ends look at each other

-- ---- all that waits comes out

record AllTaken (s : PostSender) (r r' : PostReceiver) (posts : List Post) : Type 0 where
  pub posts_are : posts ≡ waiting_between s r
  pub joined : AreJoined s r'
  pub whole : LostNoBuffer s r → LostNoBuffer s r'
  pub none : waiting_between s r' ≡ []

drop_all : {X : Type 0} (xs : List X) → drop (length xs) xs ≡ []
drop_all xs = ap (drop (length xs)) (sym (append-nil xs)) ∙ drop-append_seam xs []

take_all : {X : Type 0} (xs : List X) → take (length xs) xs ≡ xs
take_all xs = ap (take (length xs)) (sym (append-nil xs)) ∙ take-append_seam xs []

-- what begins a list, and the rest of it
rest_of : {X : Type 0} (xs ys : List X) → IsPrefix xs ys → xs ++ drop (length xs) ys ≡ ys
rest_of {X = X} xs ys p = ap (λ (zs : List X). xs ++ drop (length xs) zs) (sym p.1) ∙ (ap (λ (zs : List X). xs ++ zs) (drop-append_seam xs p.0) ∙ p.1)

ring-taken : (n most : ℕ) (s : PostSender) (r r' : PostReceiver) (posts : List Post) → KnowAll s r → n ≡ length (waiting_between s r) → TakesKnown n r r' → AreTakenFrom most r r' posts
    → AllTaken s r r' posts
ring-taken n most s r r' posts all count takes came =
    let many : n ≡ length (left r) = count ∙ ap length (sym all.left_are) in
    let whole-left : take n (left r) ≡ waiting_between s r = ap (λ (k : ℕ). take k (left r)) many ∙ (take_all (left r) ∙ all.left_are) in
    let reach : taken r' ≡ taken r ++ waiting_between s r = takes (omega (arith, many)) ∙ ap (λ ps. taken r ++ ps) whole-left in
    let end : taken r' ≡ posted s = reach ∙ rest_of (taken r) (posted s) all.order in
    let long = ap length reach ∙ length-append (taken r) (waiting_between s r) in
    let are : posts ≡ waiting_between s r = append_cancel_left (taken r) posts (waiting_between s r) (sym came.taken ∙ reach) in
    let room = all.room in
    let grown = ap length (came.back (omega (arith, ap length are, count, many, room))) ∙ length-append (given_back r) posts in
    record {
      posts_are = are;
      joined = record {
        ends = ends-still s s r r' all.joined.ends (sender-same s) came.ring;
        each = all.joined.each;
        back = let before = all.joined.back in omega (arith, grown, before, long, ap length are);
      };
      whole = λ is. record {
        ends = ends-still s s r r' is.ends (sender-same s) came.ring;
        each = is.each;
        back = omega (arith, grown, is.back, long, ap length are);
        order = ([], append-nil (taken r') ∙ end);
      };
      none = ap (λ (ps : List Post). drop (length ps) (posted s)) end ∙ drop_all (posted s);
    }

-- so it is of each ring
pub record EachTaken (ss : List PostSender) (rs rs' : List PostReceiver) (posts : List (List Post)) : Type 0 where
  pub posts_are : posts ≡ posts_waiting ss rs
  pub joined : EachRing AreJoined ss rs'
  pub whole : EachRing LostNoBuffer ss rs → EachRing LostNoBuffer ss rs'
  pub none : All (λ ps. ps ≡ []) (posts_waiting ss rs')

abbrev IsEmpty : List Post → Type 0
IsEmpty posts = posts ≡ []

all-taken : (ss : List PostSender) (ns : List ℕ) (rs rs' : List PostReceiver) (posts : List (List Post)) → EachRing KnowAll ss rs → ns ≡ map length (posts_waiting ss rs)
    → EachTakesKnown ns rs rs' → AreTaken rs rs' posts → EachTaken ss rs rs' posts
all-taken [] [] [] [] [] know count takes came = record { posts_are = refl; joined = tt; whole = λ is. tt; none = All-nil IsEmpty }
all-taken (s ∷ ss) (n ∷ ns) (r ∷ rs) (r' ∷ rs') (ps ∷ posts) know count takes came =
    let head : n ≡ length (waiting_between s r) = cc (count) in
    let tail : ns ≡ map length (posts_waiting ss rs) = cc (count) in
    let one = ring-taken n POSTS_WAITING s r r' ps know.0 head takes.0 came.0 in
    let others = all-taken ss ns rs rs' posts know.1 tail takes.1 came.1 in
    record {
      posts_are = ap (λ (qs : List Post). qs ∷ posts) one.posts_are ∙ ap (λ (qs : List (List Post)). waiting_between s r ∷ qs) others.posts_are;
      joined = (one.joined, others.joined);
      whole = λ is. (one.whole is.0, others.whole is.1);
      none = All-cons IsEmpty (waiting_between s r') (posts_waiting ss rs') one.none others.none;
    }
all-taken [] (n ∷ ns) [] rs' posts know count takes came = cc
all-taken [] ns (r ∷ rs) rs' posts know count takes came = absurd know
all-taken [] [] [] (r' ∷ rs') posts know count takes came = absurd takes
all-taken [] [] [] [] (ps ∷ posts) know count takes came = absurd came
all-taken (s ∷ ss) ns [] rs' posts know count takes came = absurd know
all-taken (s ∷ ss) [] (r ∷ rs) rs' posts know count takes came = cc
all-taken (s ∷ ss) (n ∷ ns) (r ∷ rs) [] posts know count takes came = absurd takes
all-taken (s ∷ ss) (n ∷ ns) (r ∷ rs) (r' ∷ rs') [] know count takes came = absurd came

-- where each two ends have looked at each other, and just what then waits is taken
pub waiting-taken : (ss0 ss : List PostSender) (ns : List ℕ) (rs0 rs1 rs rs' : List PostReceiver) (posts : List (List Post)) → EachRing KnowAll ss rs1 → rs1 ≡ rs
    → posts_waiting ss rs1 ≡ posts_waiting ss0 rs0 → ns ≡ map length (posts_waiting ss0 rs0) → EachTakesKnown ns rs rs' → AreTaken rs rs' posts
    → (posts ≡ posts_waiting ss0 rs0) × EachTaken ss rs rs' posts
waiting-taken ss0 ss ns rs0 rs1 rs rs' posts know same waits count takes came =
    let unchanged = sym waits ∙ ap (posts_waiting ss) same in
    let all = all-taken ss ns rs rs' posts (subst (EachRing KnowAll ss) same know) (count ∙ ap (λ (pss : List (List Post)). map length pss) unchanged) takes came in (
      all.posts_are ∙ sym unchanged,
      all,
    )

-- ---- the lengths of lists that go together

pub as-many : (P : PostSender → PostReceiver → Type 0) (ss : List PostSender) (rs : List PostReceiver) → EachRing P ss rs → length ss ≡ length rs
as-many P [] [] each = refl
as-many P (s ∷ ss) (r ∷ rs) each = ap suc (as-many P ss rs each.1)
as-many P [] (r ∷ rs) each = absurd each
as-many P (s ∷ ss) [] each = absurd each

pub few-waiting : (ss : List PostSender) (rs : List PostReceiver) → EachRing KnowAll ss rs → All (λ n. n ≤ POSTS_WAITING) (map length (posts_waiting ss rs))
few-waiting [] [] each = All-nil (λ (n : ℕ). n ≤ POSTS_WAITING)
few-waiting (s ∷ ss) (r ∷ rs) each =
    All-cons (λ (n : ℕ). n ≤ POSTS_WAITING) (length (waiting_between s r)) (map length (posts_waiting ss rs)) (let spares = each.0.spares in let back = each.0.joined.back in omega (arith, spares, back, ap length each.0.left_are)) (few-waiting ss rs each.1)
few-waiting [] (r ∷ rs) each = absurd each
few-waiting (s ∷ ss) [] each = absurd each
