-- Shares in expected working counters, in C.
use Rattle.std.specs.Prelude.{ℕ, Option}
use Rattle.hc_events.specs.Entries.{History}
use Rattle.hc_events.specs.Points.{line_of}
use Rattle.hc_plan.specs.Shares.{share_at}

-- the share of the slave with a station address in the working counter of a datagram of the present line; none if there is no
-- such datagram or slave
unfoldable pub slave_share : History → ℕ → ℕ → ℕ → Option ℕ
slave_share history task datagram station = share_at (line_of history) task datagram station
