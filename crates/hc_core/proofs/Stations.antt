-- The state of the areas of a slave.
use Rattle.std.proofs.Common.{◌≡◌, ℕ, ◌+◌, ◌*◌, true, false, ◌<◌, ◌≤◌, List, length, sym, ap, ◌∙◌, arith, Some}
use Rattle.std.specs.Prelude.{slice_get}
use Rattle.std.proofs.lemmas.List.FromFn.{length-map-range_with_len}
use Rattle.std.proofs.lemmas.Option.{slice_get_within}
use Rattle.hc_records.proofs.lemmas.Choices.{by_bool}
use Rattle.hc_registers.specs.RankPlaces.{stations}
use Rattle.hc_events.specs.Accepted.{AreAccepted}
use Rattle.hc_events.specs.Entries.{History}
use Rattle.hc_events.specs.Holding.{is_unplugged, may_hold}
use Rattle.hc_events.specs.Owed.{is_in_line, known_bytes}
use Rattle.hc_events.specs.Points.{state_of}
use Rattle.hc_events.proofs.lemmas.Comers.{unplugged-outside}
use Rattle.hc_owed.specs.declared.area.JudgedArea.{JudgedArea}
use Rattle.hc_owed.specs.Readiness.{judged_at}
use Rattle.hc_owed.specs.ReadinessSteps.{IsReadinessFor}
use Rattle.hc_core.specs.Agreement.{Agree, CoreParts}
use Rattle.hc_core.specs.Held.{areas_of}

-- a slave of the line isn't unplugged
pub plugged-line : (history : History) (station : ℕ) → AreAccepted history → is_in_line history station ≡ true → is_unplugged history station ≡ false
plugged-line history station accepted inside =
    by_bool (is_unplugged history station) (λ t. let never : false ≡ true = sym (unplugged-outside history station accepted t) ∙ inside in cc) (λ t. t)

pub kept-right : (unchanged : CoreParts) (history taken : History) → Agree unchanged history taken → IsReadinessFor (known_bytes history) (may_hold history) (is_unplugged history) (state_of history) unchanged.readiness
kept-right unchanged history taken agree =
    record { right = agree.ready; project = agree.project; uncrowded = agree.uncrowded; plugged = λ station inside. plugged-line history station agree.accepted inside }

-- the state of the areas has eight areas for each declared slave
pub areas-enough : (areas : List JudgedArea) (history : History) (station n : ℕ) → areas ≡ areas_of history → slice_get (stations (state_of history)) n ≡ Some station → 8 * n + 8 ≤ length areas
areas-enough areas history station n right at =
    let long : length areas ≡ 8 * length (stations (state_of history)) =
    ap length right ∙ length-map-range_with_len (judged_at (known_bytes history) (may_hold history) (is_unplugged history) (state_of history)) 0 (8 * length (stations (state_of history))) in
    let within : n < length (stations (state_of history)) = slice_get_within (stations (state_of history)) n station at in
    omega (arith, long, within)
