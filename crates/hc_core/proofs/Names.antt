-- In a project's line a block is given by its slave's station address and its number.
use Rattle.std.proofs.Common.{◌≡◌, ◌==◌, Bool, true, false, List, [], ◌∷◌, filter, refl, sym, ◌∙◌, None, rules}
use Rattle.std.specs.Prelude.{All, Contains}
use Rattle.std.proofs.lemmas.Bool.{and_parts, eqb-true}
use Rattle.std.proofs.lemmas.List.Elements.{All-head, All-tail, All-contains_itself, All-weaker}
use Rattle.hc_records.specs.Line.{Member, groups_of}
use Rattle.hc_records.specs.Project.{lowest_fault}
use Rattle.hc_records.proofs.lemmas.Stations.{project-distinct}
use Rattle.hc_records.specs.Lists.{has_repeat}
use Rattle.hc_records.proofs.lemmas.Stations.{stations}
use Rattle.hc_records.proofs.lemmas.Choices.{by_bool}
use Rattle.hc_registers.specs.Blocks.{LineBlock, line_blocks}
use Rattle.hc_plan.proofs.lemmas.Configured.{configured-block}
use Rattle.hc_events.specs.Entries.{History, Wrote}
use Rattle.hc_events.specs.Points.{line_of, state_of}
use Rattle.hc_events.specs.Heads.{block_item, same_item}
use Rattle.hc_events.specs.Owed.{is_owed, owed_blocks}
use Rattle.hc_events.specs.Accepted.{IsWrite}
use Rattle.hc_events.specs.Answering.{sends}
use Rattle.hc_events.specs.AnswerLaws.{HasOwnNames}
use Rattle.hc_events.proofs.lemmas.Live.{others-as_before, written-is_owed}
use Rattle.hc_events.proofs.lemmas.TwoWrites.{wrote-owes}

-- blocks of one name are one block
one-name : (line : List Member) → has_repeat (stations line) ≡ false → (a b : LineBlock) → Contains (line_blocks line) a → Contains (line_blocks line) b → same_item (block_item a) (block_item b) ≡ true → a ≡ b
one-name line distinct a b in_a in_b same =
    let both = and_parts (a.station == b.station) (a.number == b.number) same in
    let station : a.station ≡ b.station = eqb-true a.station b.station both.0 in
    let number : a.number ≡ b.number = eqb-true a.number b.number both.1 in
    let of_a = configured-block line line a distinct in_a in
    let of_b = configured-block line line b distinct in_b in
    let block : a.block ≡ b.block = search rules in
    search rules

-- a filter by what is the same of each element

filter-alike : {X : Type 0} (p q : X → Bool) (xs : List X) → All (λ x. p x ≡ q x) xs → filter p xs ≡ filter q xs
filter-alike p q [] all = refl
filter-alike {X} p q (x ∷ xs) all = search (rules, All-head, All-tail, filter-alike p q xs (All-tail (λ y. p y ≡ q y) x xs all))

pub own-names : (history : History) → lowest_fault (groups_of (state_of history).groups) ≡ None → HasOwnNames (line_of history)
own-names history project = λ a b in_a in_b same. one-name (line_of history) (project-distinct (state_of history).groups project) a b in_a in_b same

-- a frame of writes leaves the owed blocks

wrote_alike : (history : History) (blocks : List LineBlock) (other : LineBlock) → HasOwnNames (line_of history) → IsWrite history blocks → Contains (line_blocks (line_of history)) other
    → is_owed (Wrote blocks ∷ history) other ≡ is_owed history other
wrote_alike history blocks other names write inside =
    by_bool (sends (block_item other) (Wrote blocks))
    (λ t. let owed = written-is_owed history blocks other t in owed ∙ sym (wrote-owes history blocks other names write inside owed))
    (λ t. others-as_before history blocks other t)

pub owed-wrote : (history : History) (blocks : List LineBlock) → lowest_fault (groups_of (state_of history).groups) ≡ None → IsWrite history blocks
    → owed_blocks (Wrote blocks ∷ history) ≡ owed_blocks history
owed-wrote history blocks project write =
    let all = line_blocks (line_of history) in
    filter-alike (is_owed (Wrote blocks ∷ history)) (is_owed history) all
    (All-weaker (Contains all) (λ (x : LineBlock). is_owed (Wrote blocks ∷ history) x ≡ is_owed history x) (λ x inside. wrote_alike history blocks x (own-names history project) write inside) all (All-contains_itself all))
