-- The good answers of an arrival, outcome by outcome.
use Rattle.std.proofs.Common.{◌≡◌, ℕ, ◌+◌, ◌<◌, ◌≤◌, List, [], ◌∷◌, ◌++◌, drop, drop-cons, add-one, get_or, length, refl, ap, ◌∙◌, subst, rules}
use Rattle.std.specs.Prelude.{All}
use Rattle.std.proofs.lemmas.List.{drop_all}
use Rattle.std.proofs.lemmas.List.Elements.{All-head}
use Rattle.hc_frames.specs.Arrived.{ArrivedDatagram, placed_from}
use Rattle.hc_events.specs.declared.answer.Outcome.{Outcome}
use Rattle.hc_events.specs.declared.answer.Outcome.TheVariants.{Inputs}
use Rattle.hc_events.specs.Arrivals.{Part}
use Rattle.hc_events.specs.Images.{FitsImage}
use Rattle.hc_core.specs.GoodAnswers.{good_of, good_answers_in, parts_without_places}

-- the parts of a frame, without their places in it, are those that it carries
pub parts-back : (start : ℕ) (parts : List Part) → parts_without_places (placed_from start parts) ≡ parts
parts-back start [] = refl
parts-back start (part ∷ parts) = ap (λ rest. part ∷ rest) (parts-back (start + (12 + length part.bytes)) parts)

pub good_answers-step : (outcomes : List Outcome) (i : ℕ) (d : Outcome) (parts rest : List ArrivedDatagram) (part : ArrivedDatagram) → i < length outcomes → parts ≡ part ∷ rest
    → good_answers_in (drop i outcomes) (parts_without_places parts) ≡ good_of (get_or outcomes i d) part.carried ++ good_answers_in (drop (i + 1) outcomes) (parts_without_places rest)
good_answers-step outcomes i d parts rest part within split = search (rules, add-one, drop-cons)

no_parts : (outcomes : List Outcome) → good_answers_in outcomes [] ≡ []
no_parts [] = refl
no_parts (outcome ∷ outcomes) = refl

pub good_answers-short : (outcomes : List Outcome) (parts : List ArrivedDatagram) → parts ≡ [] → good_answers_in outcomes (parts_without_places parts) ≡ []
good_answers-short outcomes parts none = ap (λ all. good_answers_in outcomes (parts_without_places all)) none ∙ no_parts outcomes

pub good_answers-over : (outcomes : List Outcome) (i : ℕ) (parts : List ArrivedDatagram) → length outcomes ≤ i → good_answers_in (drop i outcomes) (parts_without_places parts) ≡ []
good_answers-over outcomes i parts over = ap (λ all. good_answers_in all (parts_without_places parts)) (drop_all i outcomes over)

-- if a good answer fits, its datagram is one that tasks can have
pub input-fits : (outcome : Outcome) (task d : ℕ) (part : Part) → outcome ≡ Inputs task d → All FitsImage (good_of outcome part) → FitsImage (record { task = task; datagram = d; bytes = part.bytes })
input-fits outcome task d part is all =
    All-head FitsImage (record { task = task; datagram = d; bytes = part.bytes }) [] (subst (λ one. All FitsImage (good_of one part)) is all)
