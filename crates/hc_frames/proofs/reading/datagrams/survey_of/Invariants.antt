use Rattle.std.proofs.Common.{◌≡◌, ◌+◌, ◌<◌, length}
use Rattle.hc_frames.specs.Arrived.{datagram_tails}
use Rattle.hc_frames.specs.Survey.{nothing_seen, surveyed}
use Rattle.hc_frames.proofs.reading.datagrams.survey_of.Given as goal

abbrev pub invariant-loop-rest : goal.invariant-loop-rest
invariant-loop-rest l =
    (surveyed l.index l.seen (datagram_tails l.rest) ≡ surveyed l.index nothing_seen (datagram_tails l.fn.region)) × (l.seen.count + length l.rest < 2048)

abbrev pub decreases-loop-rest : goal.decreases-loop-rest
decreases-loop-rest l = length l.rest
