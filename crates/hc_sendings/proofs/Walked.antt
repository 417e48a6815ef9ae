-- The walk over what is due beside what came back.
use Rattle.std.proofs.Common.{◌≡◌, ℕ, ◌+◌, ◌<◌, List, [], ◌∷◌, ◌++◌, length, map, drop, get_or, refl, sym, ap, ◌∙◌, add-one, drop-cons, Option, Some, None}
use Rattle.std.specs.Prelude.{option_map}
use Rattle.hc_frames.specs.Arrived.{ArrivedDatagram, placed_from}
use Rattle.hc_records.specs.Line.{Member}
use Rattle.hc_events.specs.declared.answer.Outcome.{Outcome}
use Rattle.hc_events.specs.Arrivals.{Part}
use Rattle.hc_events.specs.Sendings.{Named}
use Rattle.hc_sendings.specs.declared.writes.AwaitedBlock.{AwaitedBlock}
use Rattle.hc_sendings.specs.Judging.{Due, block_due, due_of}
use Rattle.hc_sendings.specs.Stored.{LastSent, awaited_datagram}
use Rattle.hc_sendings.specs.Walk.{outcomes_in}

-- the parts without their places
abbrev pub parts_of : List ArrivedDatagram → List Part
parts_of placed = map (λ (one : ArrivedDatagram). one.carried) placed

parts-placed : (start : ℕ) (parts : List Part) → parts_of (placed_from start parts) ≡ parts
parts-placed start [] = refl
parts-placed start (part ∷ parts) = ap (λ (rest : List Part). part ∷ rest) (parts-placed (start + (12 + length part.bytes)) parts)

-- the due datagrams of a frame with a serial
abbrev pub due_by : List Member → LastSent → ℕ → List Named → List Due
due_by line last_sent serial datagrams = map (due_of line) (map (awaited_datagram last_sent serial) datagrams)

-- what was reported before, and what is reported then, if it is
abbrev pub after_it : List Outcome → Option (List Outcome) → Option (List Outcome)
after_it done rest = option_map (λ answer_given. done ++ answer_given) rest

-- none came back
pub walked-short : (line : List Member) (last_sent : LastSent) (serial i : ℕ) (datagrams : List Named) (done : List Outcome) (all : Option (List Outcome)) → i < length datagrams
    → all ≡ after_it done (outcomes_in (due_by line last_sent serial (drop i datagrams)) [])
    → all ≡ None
walked-short line last_sent serial i datagrams done all within e =
    let cut : drop i datagrams ≡ get_or datagrams i (0, 0) ∷ drop (i + 1) datagrams = rw add-one (drop-cons datagrams i (0, 0) within) in
    e ∙ ap (λ (rest : List Named). after_it done (outcomes_in (due_by line last_sent serial rest) [])) cut

-- what the walk begins with
pub walked-first : (dues : List Due) (parts : List Part) (placed : List ArrivedDatagram) (done : List Outcome) → placed ≡ placed_from 16 parts → done ≡ []
    → outcomes_in dues parts ≡ after_it done (outcomes_in dues (parts_of placed))
walked-first dues parts placed done is none =
    ap (outcomes_in dues) (sym (parts-placed 16 parts) ∙ ap parts_of (sym is))
    ∙ itself (outcomes_in dues (parts_of placed))
    ∙ ap (λ (front : List Outcome). after_it front (outcomes_in dues (parts_of placed))) (sym none)
  where
    itself : (all : Option (List Outcome)) → all ≡ after_it [] all
    itself None = refl
    itself (Some all) = refl

pub walked-none : (line : List Member) (last_sent : LastSent) (serial : ℕ) (datagrams : List Named) (parts : List Part) (placed : List ArrivedDatagram) (done : List Outcome)
    → placed ≡ placed_from 16 parts → done ≡ []
    → outcomes_in (due_by line last_sent serial datagrams) parts ≡ after_it done (outcomes_in (due_by line last_sent serial datagrams) (parts_of placed))
walked-none line last_sent serial datagrams parts placed done is none = walked-first (due_by line last_sent serial datagrams) parts placed done is none

-- none of a write's blocks came back
pub blocks-short : (i : ℕ) (blocks : List AwaitedBlock) (block : AwaitedBlock) (done : List Outcome) (all : Option (List Outcome)) → i < length blocks
    → all ≡ after_it done (outcomes_in (map block_due (drop i blocks)) [])
    → all ≡ None
blocks-short i blocks block done all within e =
    let cut : drop i blocks ≡ get_or blocks i block ∷ drop (i + 1) blocks = rw add-one (drop-cons blocks i block within) in
    e ∙ ap (λ (rest : List AwaitedBlock). after_it done (outcomes_in (map block_due rest) [])) cut
