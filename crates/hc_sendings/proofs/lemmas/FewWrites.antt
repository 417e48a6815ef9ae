-- At most two register writes of the first owed blocks are awaited.
use Rattle.std.proofs.Common.{◌≡◌, ℕ, ◌<◌, ◌≤◌, List, [], ◌∷◌, length, arith, length-append, true, Some}
use Rattle.std.specs.Prelude.{All, AllPairs}
use Rattle.std.proofs.lemmas.List.Elements.{All-head, All-tail}
use Rattle.hc_records.proofs.lemmas.Lists.{All-append_right, AllPairs-head, AllPairs-tail}
use Rattle.hc_events.specs.Accepted.{carries_first}
use Rattle.hc_events.specs.Entries.{History}
use Rattle.hc_events.specs.Answering.{Sending}
use Rattle.hc_events.specs.AnswerLaws.{IsBesideOne}
use Rattle.hc_events.specs.Awaited.{awaited, is_write_sending}
use Rattle.hc_sendings.specs.declared.writes.AwaitedBlock.{AwaitedBlock}
use Rattle.hc_sendings.specs.Waiting.{AwaitedWrite, Waiting, all_writes, older_writes, wrote}
use Rattle.hc_sendings.specs.Judging.{found_write}
use Rattle.hc_sendings.specs.History.{KeepsAwaited}
use Rattle.hc_sendings.proofs.lemmas.Marked.{find-each}
use Rattle.hc_sendings.proofs.lemmas.Rewritten.{stored-write, stored-writes}

-- of two that the record awaits and that carry the first owed blocks the later one is of one block, and the earlier one of more
abbrev pub TwoAwaited : History → Type 0
TwoAwaited history =
    (low high : ℕ) (older newer : Sending) → carries_first history low → carries_first history high → low < high
    → awaited history low ≡ Some older → is_write_sending older ≡ true → awaited history high ≡ Some newer → is_write_sending newer ≡ true
    → IsBesideOne older newer

abbrev Ascend : AwaitedWrite → AwaitedWrite → Type 0
Ascend a b = a.serial < b.serial

abbrev First : History → AwaitedWrite → Type 0
First history write = carries_first history write.serial

abbrev Found : Waiting → AwaitedWrite → Type 0
Found stored write = found_write write.serial stored ≡ Some write

-- each is found with its serial
found_each : (history : History) (stored : Waiting) → KeepsAwaited history stored → All (Found stored) stored.writes
found_each history stored waits = All-append_right (Found stored) stored.further stored.writes (find-each (λ (write : AwaitedWrite). write.serial) (all_writes stored) waits.distinct)

third : (history : History) (stored : Waiting) (a b c : AwaitedWrite) (rest : List AwaitedWrite) → KeepsAwaited history stored → TwoAwaited history
    → AllPairs Ascend (a ∷ b ∷ c ∷ rest) → All (Found stored) (a ∷ b ∷ c ∷ rest) → All (First history) (a ∷ b ∷ c ∷ rest) → ⊥
third history stored a b c rest waits two order found first =
    let later = AllPairs-head Ascend a (b ∷ c ∷ rest) order in
    let after = AllPairs-tail Ascend a (b ∷ c ∷ rest) order in
    let low : a.serial < b.serial = All-head (Ascend a) b (c ∷ rest) later in
    let high : b.serial < c.serial = All-head (Ascend b) c rest (AllPairs-head Ascend b (c ∷ rest) after) in
    let found_later = All-tail (Found stored) a (b ∷ c ∷ rest) found in
    let first_later = All-tail (First history) a (b ∷ c ∷ rest) first in
    let one = stored-write history stored a.serial a waits (All-head (Found stored) a (b ∷ c ∷ rest) found) in
    let other = stored-write history stored b.serial b waits (All-head (Found stored) b (c ∷ rest) found_later) in
    let last = stored-write history stored c.serial c waits (All-head (Found stored) c rest (All-tail (Found stored) b (c ∷ rest) found_later)) in
    let of_a = All-head (First history) a (b ∷ c ∷ rest) first in
    let of_b = All-head (First history) b (c ∷ rest) first_later in
    let of_c = All-head (First history) c rest (All-tail (First history) b (c ∷ rest) first_later) in
    let before = two a.serial b.serial one.sending other.sending of_a of_b low one.there (stored-writes history a.serial a one) other.there (stored-writes history b.serial b other) in
    let further = two b.serial c.serial other.sending last.sending of_b of_c high other.there (stored-writes history b.serial b other) last.there (stored-writes history c.serial c last) in
    omega (arith, before.one, further.more)

few_of : (history : History) (stored : Waiting) (writes : List AwaitedWrite) → KeepsAwaited history stored → TwoAwaited history → AllPairs Ascend writes → All (Found stored) writes → All (First history) writes
    → length writes ≤ 2
few_of history stored [] waits two order found first = omega arith
few_of history stored (a ∷ []) waits two order found first = omega arith
few_of history stored (a ∷ b ∷ []) waits two order found first = omega arith
few_of history stored (a ∷ b ∷ c ∷ rest) waits two order found first = absurd (third history stored a b c rest waits two order found first)

few_writes : (history : History) (stored : Waiting) → KeepsAwaited history stored → TwoAwaited history → length stored.writes ≤ 2
few_writes history stored waits two = few_of history stored stored.writes waits two waits.in_order (found_each history stored waits) waits.first

-- so at most one older one stays where one is sent
pub few-older : (history : History) (stored : Waiting) (serial : ℕ) (blocks : List AwaitedBlock) → KeepsAwaited history (wrote serial blocks stored) → TwoAwaited history → length (older_writes blocks stored) < 2
few-older history stored serial blocks waits two =
    let few = few_writes history (wrote serial blocks stored) waits two in
    let new : AwaitedWrite = record { serial = serial; blocks = blocks } in
    let sum = length-append (older_writes blocks stored) (new ∷ []) in
    omega (arith, few, sum)
