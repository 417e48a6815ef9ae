use Rattle.std.proofs.Common.{◌≡◌, ℕ, ◌%◌, ◌<◌, ◌&&◌, Bool, false, List, length, map, nat_lt, ap, sym, ◌∙◌, arith, Some}
use Rattle.std.specs.List.{list_all}
use Rattle.hc_frames.specs.declared.reading.datagrams.Survey.{Survey}
use Rattle.hc_frames.specs.Arrived.{datagram_carried, datagram_tails, is_whole, more_between, serial_in}
use Rattle.hc_frames.specs.Survey.{nothing_seen, surveyed}
use Rattle.hc_frames.proofs.Faults.{filled, unfilled}
use Rattle.hc_frames.proofs.Surveys.{Found, found, not_found}
use Rattle.hc_frames.proofs.reading.frames.read_frame.Goals as goal

-- the pass, with the index of the frame
pub found_in : (serial : ℕ) (bytes left : List ℕ) (seen : Survey) → serial ≡ serial_in bytes → surveyed (serial % 256) nothing_seen (datagram_tails left) ≡ Some seen → Found (serial_in bytes % 256) (datagram_tails left) seen
found_in serial bytes left seen same e = found (serial_in bytes % 256) (datagram_tails left) seen (ap (λ (n : ℕ). surveyed (n % 256) nothing_seen (datagram_tails left)) (sym same) ∙ e)

some_there : (n m : ℕ) → n ≡ m → (n ≡ 0 → ⊥) → 0 < m
some_there n m e some = omega arith

none_there : (n m : ℕ) (b : Bool) → n ≡ m → n ≡ 0 → (nat_lt 0 m && b) ≡ false
none_there n m b e none = let zero : m ≡ 0 = omega arith in ap (λ (k : ℕ). nat_lt 0 k && b) zero

pub returns-in_default : goal.returns-in_default
returns-in_default c =
    let left : List ℕ = c.in_ok-region.region.now in
    unfilled c.args.frame.now left c.in_ok-region.ensures.found (not_found (c.serial_in-serial.result % 256) (datagram_tails left) (sym c.survey_of.ensures ∙ c.in_default.is))

pub returns-then-seen-eq0 : goal.returns-then-seen-eq0
returns-then-seen-eq0 c =
    let left : List ℕ = c.in_ok-region.region.now in
    let there = found_in c.serial_in-serial.result c.args.frame.now left c.in-Some.seen c.serial_in-serial.ensures.value (sym c.survey_of.ensures ∙ c.in-Some.is) in
    unfilled c.args.frame.now left c.in_ok-region.ensures.found
    (none_there c.in-Some.seen.count (length (datagram_tails left)) (list_all is_whole (datagram_tails left) && more_between (datagram_tails left)) there.count c.if-seen-eq0.true)

pub of-requires-clause-whole : goal.of-requires-clause-whole
of-requires-clause-whole c =
    (found_in c.serial_in-serial.result c.args.frame.now c.in_ok-region.region.now c.in-Some.seen c.serial_in-serial.ensures.value (sym c.survey_of.ensures ∙ c.in-Some.is)).whole

pub of-requires-clause-counted : goal.of-requires-clause-counted
of-requires-clause-counted c =
    (found_in c.serial_in-serial.result c.args.frame.now c.in_ok-region.region.now c.in-Some.seen c.serial_in-serial.ensures.value (sym c.survey_of.ensures ∙ c.in-Some.is)).count

pub returns-in-Some-fault_of : goal.returns-in-Some-fault_of
returns-in-Some-fault_of c =
    let left : List ℕ = c.in_ok-region.region.now in
    let there = found_in c.serial_in-serial.result c.args.frame.now left c.in-Some.seen c.serial_in-serial.ensures.value (sym c.survey_of.ensures ∙ c.in-Some.is) in
    filled c.args.frame.now left c.in-Some.seen c.in_ok-region.ensures.found there (some_there c.in-Some.seen.count (length (datagram_tails left)) there.count c.if-seen-eq0.false)
    ∙ sym c.fault_of.ensures ∙ c.in-Some-fault_of.is

pub returns-in-None : goal.returns-in-None
returns-in-None c =
    let left : List ℕ = c.in_ok-region.region.now in
    let there = found_in c.serial_in-serial.result c.args.frame.now left c.in-Some.seen c.serial_in-serial.ensures.value (sym c.survey_of.ensures ∙ c.in-Some.is) in (
      filled c.args.frame.now left c.in-Some.seen c.in_ok-region.ensures.found there (some_there c.in-Some.seen.count (length (datagram_tails left)) there.count c.if-seen-eq0.false)
          ∙ sym c.fault_of.ensures ∙ c.in-None.is,
      c.of.ensures
          ∙ ap (λ (n : ℕ). record { serial = n; parts = map datagram_carried (datagram_tails left) }) c.serial_in-serial.ensures.value
          ∙ ap (λ (bytes : List ℕ). record { serial = serial_in c.args.frame.now; parts = map datagram_carried (datagram_tails bytes) }) c.in_ok-region.ensures.found.found_there,
    )
