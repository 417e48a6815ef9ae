use Rattle.std.proofs.Common.{◌≡◌, ◌<◌, ◌≤◌, ◌+◌, ◌-◌, ℕ, List, true, length, drop, length-drop, ap, sym, ◌∙◌, arith}
use Rattle.std.proofs.lemmas.Bool.Decides.{nat_tests}
use Rattle.std.proofs.lemmas.Bool.{not-false, not-true}
use Rattle.hc_frames.specs.Arrived.{data_size, datagram_tails, is_whole}
use Rattle.hc_frames.specs.Survey.{noted, surveyed}
use Rattle.hc_frames.proofs.lemmas.Datagrams.{datagrams-none, whole-long}
use Rattle.hc_frames.proofs.Surveys.{survey_goes, survey_unpromised, survey_unwhole}
use Rattle.hc_frames.proofs.reading.datagrams.survey_of.Goals as goal
use Rattle.hc_frames.proofs.reading.datagrams.survey_of.Goals.{then-not-seen-via-then-not-seen, then-not-seen-via-else-not-seen+then-not-is_whole}

pub returns-then-not-seen : goal.returns-then-not-seen
returns-then-not-seen c =
    let bytes : List ℕ = c.loop-rest.rest.now in
    let some : 0 < length bytes = grind (arith, nat_tests) in
    let old = c.loop-rest.invariant.0 in
    elim c.then-not-seen.branch [ then-not-seen-via-then-not-seen w ↦ sym (survey_unpromised c.args.index c.loop-rest.seen bytes some (not-true c.loop-rest.seen.more w.if-not-seen.true)) ∙ old | then-not-seen-via-else-not-seen+then-not-is_whole w ↦ sym (survey_unwhole c.args.index c.loop-rest.seen bytes some (not-false c.loop-rest.seen.more w.if-not-seen.false) (sym w.is_whole.ensures ∙ w.if-not-is_whole.true)) ∙ old ]

pub loop-rest-preserved : goal.loop-rest-preserved
loop-rest-preserved c =
    let bytes : List ℕ = c.loop-rest.rest.now in
    let some : 0 < length bytes = grind (arith, nat_tests) in
    let old = c.loop-rest.invariant in
    let more : c.loop-rest.seen.more ≡ true = not-false c.loop-rest.seen.more c.if-not-seen.false in
    let whole : is_whole bytes ≡ true = sym c.is_whole.ensures ∙ c.if-not-is_whole.false in
    let left : c.after_it-rest.result.now ≡ drop (12 + data_size bytes) bytes = c.after_it-rest.ensures in
    let long : 12 + data_size bytes ≤ length bytes = whole-long bytes whole in
    let size : length c.after_it-rest.result.now ≡ length bytes - (12 + data_size bytes) = ap length left ∙ length-drop (12 + data_size bytes) bytes in
    let count : c.noted-seen.result.count ≡ c.loop-rest.seen.count + 1 = ap (λ s. s.count) c.noted-seen.ensures in (
      ap (λ s. surveyed c.args.index s (datagram_tails c.after_it-rest.result.now)) c.noted-seen.ensures
          ∙ ap (λ (rest : List ℕ). surveyed c.args.index (noted c.args.index c.loop-rest.seen bytes) (datagram_tails rest)) left
          ∙ sym (survey_goes c.args.index c.loop-rest.seen bytes some more whole) ∙ old.0,
      omega arith,
    )

pub returns : goal.returns
returns c =
    let bytes : List ℕ = c.loop-rest.rest.now in
    let none : length bytes ≡ 0 = grind (arith, nat_tests) in
    sym (ap (surveyed c.args.index c.loop-rest.seen) (datagrams-none bytes none)) ∙ c.loop-rest.invariant.0
