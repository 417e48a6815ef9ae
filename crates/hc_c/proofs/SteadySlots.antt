-- Steady data of a datagram have as many bytes as the datagram has in the present line.
use Rattle.std.proofs.Common.{◌≡◌, ℕ, List, length, Option, Some, None, refl, subst}
use Rattle.std.specs.Prelude.{option_map}
use Rattle.hc_events.specs.Entries.{History}
use Rattle.hc_events.specs.Points.{line_of}
use Rattle.hc_events.specs.Sendings.{line_data_length}
use Rattle.hc_events.specs.Steady.{SteadyData, steady_data, steady_slot}
use Rattle.hc_events.proofs.lemmas.Steady.{steady-fits}

-- so many bytes, where there are some
abbrev Sized : ℕ → Option (List ℕ) → Type 0
Sized size None = Unit {0}
Sized size (Some bytes) = length bytes ≡ size

sized-data : (size : ℕ) (found : Option SteadyData) → ((one : SteadyData) → found ≡ Some one → length one.bytes ≡ size) → Sized size (option_map (λ (one : SteadyData). one.bytes) found)
sized-data size None fits = tt
sized-data size (Some one) fits = fits one refl

pub steady_slots-fit : (history : History) (task d : ℕ) (bytes : List ℕ) → steady_slot history task d ≡ Some bytes → length bytes ≡ line_data_length (line_of history) (task, d)
steady_slots-fit history task d bytes e =
    subst (Sized (line_data_length (line_of history) (task, d))) e
    (sized-data (line_data_length (line_of history) (task, d)) (steady_data history task d) (λ one is. (steady-fits history task d one is).size))
