-- The table of newest frames, datagram by datagram.
use Rattle.std.proofs.Common.{◌≡◌, ◌≢◌, ℕ, ◌+◌, ◌*◌, ◌<◌, ◌==◌, Bool, true, false, cond, ◌&&◌, ◌||◌, List, length, take, get_or, set, sym, ap, ◌∙◌, arith, Option, Some, None}
use Rattle.std.specs.List.{list_any}
use Rattle.std.proofs.lemmas.Bool.{and_parts, eqb-true}
use Rattle.std.proofs.lemmas.Bool.Decides.{nat_tests}
use Rattle.std.proofs.lemmas.Grind.{get_or-set_at, common_steps}
use Rattle.std.proofs.lemmas.List.{get_or-set_other}
use Rattle.std.proofs.lemmas.List.Folds.{list_any_more}
use Rattle.hc_records.proofs.lemmas.Choices.{by_bool}
use Rattle.hc_records.specs.Slots.{slot_number}
use Rattle.hc_events.specs.Sendings.{Named}
use Rattle.hc_sendings.specs.Waiting.{IsTaskDatagram, is_named}
use Rattle.hc_sendings.specs.Stored.{LastSent, last_sent_of}

-- a datagram's place in the table
abbrev pub place_of : Named → ℕ
place_of named = slot_number named.0 named.1

same_place : (a b : Named) → is_named a b ≡ true → place_of a ≡ place_of b
same_place a b e =
    let parts = and_parts (a.0 == b.0) (a.1 == b.1) e in
    let task = eqb-true a.0 b.0 parts.0 in
    let number = eqb-true a.1 b.1 parts.1 in
    omega (arith, task, number)

-- datagrams that tasks can have are at places of their own
is_one : (a b c d : ℕ) → b < 16 → d < 16 → 16 * a + b ≡ 16 * c + d → (a ≡ c) × (b ≡ d)
is_one a b c d low high e = (omega (arith, low, high, e), omega (arith, low, high, e))

are_same : (a b c d : ℕ) → (a ≡ c) × (b ≡ d) → ((a == c) && (b == d)) ≡ true
are_same a b c d e = let task = e.0 in let number = e.1 in grind (arith, nat_tests)

own_place : (a b : Named) → IsTaskDatagram a → IsTaskDatagram b → is_named a b ≡ false → place_of a ≢ place_of b
own_place a b first second e same =
    let never : true ≡ false = sym (are_same a.0 a.1 b.0 b.1 (is_one a.0 a.1 b.0 b.1 first.number second.number same)) ∙ e in cc

-- one datagram is noted
noted : (last_sent : LastSent) (serial : ℕ) (d named : Named) → IsTaskDatagram d → IsTaskDatagram named → place_of d < length last_sent
    → last_sent_of (set last_sent (place_of d) (Some serial)) named ≡ cond (is_named named d) (Some serial) (last_sent_of last_sent named)
noted last_sent serial d named own other low =
    by_bool (is_named named d)
    (λ t. let same = same_place named d t in
    get_or-set_at last_sent (place_of d) (place_of named) (Some serial) None same low ∙ sym (ap (λ b. cond b (Some serial) (last_sent_of last_sent named)) t))
    (λ t. get_or-set_other last_sent (place_of d) (place_of named) (Some serial) None (own_place named d other own t)
    ∙ sym (ap (λ b. cond b (Some serial) (last_sent_of last_sent named)) t))

either : {X : Type 0} (a b : Bool) (x y : X) → cond a x (cond b x y) ≡ cond (b || a) x y
either a b x y = grind (arith, common_steps)

-- one more of a frame's datagrams
pub noted-more : (last_sent : LastSent) (before : Option ℕ) (serial i : ℕ) (ds : List Named) (named : Named) → i < length ds
    → IsTaskDatagram (get_or ds i (0, 0)) → IsTaskDatagram named → place_of (get_or ds i (0, 0)) < length last_sent
    → last_sent_of last_sent named ≡ cond (list_any (is_named named) (take i ds)) (Some serial) before
    → last_sent_of (set last_sent (place_of (get_or ds i (0, 0))) (Some serial)) named
    ≡ cond (list_any (is_named named) (take (i + 1) ds)) (Some serial) before
noted-more last_sent before serial i ds named within own other low held =
    noted last_sent serial (get_or ds i (0, 0)) named own other low
    ∙ ap (λ found. cond (is_named named (get_or ds i (0, 0))) (Some serial) found) held
    ∙ either (is_named named (get_or ds i (0, 0))) (list_any (is_named named) (take i ds)) (Some serial) before
    ∙ ap (λ b. cond b (Some serial) before) (sym (list_any_more (is_named named) ds i (0, 0) within))

-- a place of a datagram that a task can have
pub place-low : (d : Named) → IsTaskDatagram d → place_of d < 128
place-low d named = let task = named.task in let number = named.number in omega (arith, task, number)
