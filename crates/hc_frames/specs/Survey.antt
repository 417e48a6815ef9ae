-- A pass over the datagrams of a frame.
use Rattle.std.specs.Prelude.{ℕ, ◌+◌, true, false, ◌&&◌, ◌||◌, List, [], ◌∷◌, Option, Some, None, if◌then◌else◌}
use Rattle.hc_frames.specs.declared.reading.datagrams.Survey.{Survey}
use Rattle.hc_frames.specs.Arrived.{circulates, has_other_index, is_unknown, is_whole, says_more}

-- the survey with one more datagram
abbrev pub noted : ℕ → Survey → List ℕ → Survey
noted index seen d = record {
  count = seen.count + 1;
  circulates = seen.circulates || circulates d;
  more = says_more d;
  unknown = seen.unknown || is_unknown d;
  mismatch = seen.mismatch || has_other_index index d;
}

-- the survey of all datagrams, one after another: none if one is not whole, or was not promised by the one before it
abbrev pub surveyed : ℕ → Survey → List (List ℕ) → Option Survey
surveyed index seen [] = Some seen
surveyed index seen (d ∷ ds) = if seen.more && is_whole d then surveyed index (noted index seen d) ds else None

-- the survey before the first datagram
abbrev pub nothing_seen : Survey
nothing_seen = record { count = 0; circulates = false; more = true; unknown = false; mismatch = false }
