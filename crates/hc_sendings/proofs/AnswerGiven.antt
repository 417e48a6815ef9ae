-- The answer to an arrival, by the frame or write that is awaited with its serial.
use Rattle.std.proofs.Common.{◌≡◌, ℕ, ◌==◌, Bool, true, false, cond, ◌||◌, ◌&&◌, List, [], ◌∷◌, length, map, refl, sym, ap, ◌∙◌, subst, Option, Some, None}
use Rattle.std.specs.Prelude.{All, find, option_map}
use Rattle.std.specs.List.{list_any, zip}
use Rattle.std.specs.Option.{option_map_or, option_or}
use Rattle.std.proofs.lemmas.Bool.{and_parts}
use Rattle.std.proofs.lemmas.List.Elements.{All-head, All-tail}
use Rattle.hc_records.specs.Line.{Member}
use Rattle.hc_records.proofs.lemmas.Lists.{All-unmap}
use Rattle.hc_records.proofs.lemmas.Choices.{by_bool}
use Rattle.hc_events.specs.declared.answer.Answer.TheVariants as answer
use Rattle.hc_events.specs.declared.answer.Outcome.{Outcome}
use Rattle.hc_events.specs.Accepted.{IsInLine}
use Rattle.hc_events.specs.Answering.{Judged, has_head, has_heads, is_current}
use Rattle.hc_events.specs.Arrivals.{Arrival, Part}
use Rattle.hc_events.specs.Steps.{outcome_for, judged_answer}
use Rattle.hc_sendings.specs.declared.writes.AwaitedBlock.{AwaitedBlock}
use Rattle.hc_sendings.specs.Judging.{Due, block_due, due_of, found_frame, found_write, frame_due, judge_due, judged_due, judged_in, write_due, written_head}
use Rattle.hc_sendings.specs.Stored.{StoredFrame, LastSent, awaited_datagram, frame_by}
use Rattle.hc_sendings.specs.Waiting.{AwaitedFrame, AwaitedWrite, AwaitedDatagram, Waiting, is_still_awaited}
use Rattle.hc_sendings.specs.Walk.{outcomes_in}

-- a frame

is-current : (due : Due) (part : Part) → is_current (judge_due (due, part)) ≡ due.last_sent
is-current due part = by_bool due.last_sent (λ t. by_bool (part.counter == due.head.expected) (λ u. rw (t, u) refl) (λ u. rw (t, u) refl)) (λ t. rw t refl)

any-updates : (dues : List Due) (parts : List Part) → has_heads (map (λ (one : Due). one.head) dues) parts ≡ true
    → list_any is_current (map judge_due (zip dues parts)) ≡ list_any (λ (one : Due). one.last_sent) dues
any-updates [] [] e = refl
any-updates [] (part ∷ parts) e = cc
any-updates (due ∷ dues) [] e = cc
any-updates (due ∷ dues) (part ∷ parts) e =
    ap (λ b. b || list_any is_current (map judge_due (zip dues parts))) (is-current due part)
    ∙ ap (λ b. due.last_sent || b) (any-updates dues parts (and_parts (has_head due.head part) (has_heads (map (λ (one : Due). one.head) dues) parts) e).1)

any-due : (line : List Member) (carried : List AwaitedDatagram) → list_any (λ (one : Due). one.last_sent) (map (due_of line) carried) ≡ list_any (λ (one : AwaitedDatagram). one.last_sent) carried
any-due line [] = refl
any-due line (one ∷ carried) = ap (λ b. one.last_sent || b) (any-due line carried)

map-twice : (pairs : List (Due × Part)) → map outcome_for (map judge_due pairs) ≡ map (λ (pair : Due × Part). outcome_for (judge_due pair)) pairs
map-twice [] = refl
map-twice (pair ∷ pairs) = ap (λ (rest : List Outcome). outcome_for (judge_due pair) ∷ rest) (map-twice pairs)

updates-answer_given : (line : List Member) (carried : AwaitedDatagram) (part : Part) (rest : List Judged) → list_any is_current (judge_due (due_of line carried, part) ∷ rest) ≡ true
    → judged_answer (judge_due (due_of line carried, part) ∷ rest) ≡ answer.Answered (map outcome_for (judge_due (due_of line carried, part) ∷ rest))
updates-answer_given line carried part rest updates = rw updates refl

frame-answered_either : (line : List Member) (carried : List AwaitedDatagram) (arrival : Arrival) → list_any (λ (one : AwaitedDatagram). one.last_sent) carried ≡ true
    → has_heads (map (λ (one : Due). one.head) (map (due_of line) carried)) arrival.parts ≡ true
    → answer.Answered (map (λ (pair : Due × Part). outcome_for (judge_due pair)) (zip (map (due_of line) carried) arrival.parts)) ≡ judged_answer (map judge_due (zip (map (due_of line) carried) arrival.parts))
frame-answered_either line [] arrival awaited_still back = cc
frame-answered_either line (one ∷ carried) arrival awaited_still back = by_parts line one carried arrival.parts awaited_still back
  where
    by_parts : (line : List Member) (one : AwaitedDatagram) (carried : List AwaitedDatagram) (parts : List Part) → list_any (λ (c : AwaitedDatagram). c.last_sent) (one ∷ carried) ≡ true
        → has_heads (map (λ (d : Due). d.head) (map (due_of line) (one ∷ carried))) parts ≡ true
        → answer.Answered (map (λ (pair : Due × Part). outcome_for (judge_due pair)) (zip (map (due_of line) (one ∷ carried)) parts)) ≡ judged_answer (map judge_due (zip (map (due_of line) (one ∷ carried)) parts))
    by_parts line one carried [] awaited_still back = cc
    by_parts line one carried (part ∷ parts) awaited_still back =
        let updates : list_any is_current (judge_due (due_of line one, part) ∷ map judge_due (zip (map (due_of line) carried) parts)) ≡ true =
        any-updates (due_of line one ∷ map (due_of line) carried) (part ∷ parts) back ∙ any-due line (one ∷ carried) ∙ awaited_still in
        ap answer.Answered (sym (map-twice (zip (map (due_of line) (one ∷ carried)) (part ∷ parts))))
        ∙ sym (updates-answer_given line one part (map judge_due (zip (map (due_of line) carried) parts)) updates)

-- all came back
pub frame-answer_given : (line : List Member) (frame : AwaitedFrame) (arrival : Arrival) (outcomes : List Outcome) → is_still_awaited frame ≡ true
    → Some outcomes ≡ outcomes_in (frame_due line frame) arrival.parts
    → answer.Answered outcomes ≡ judged_answer (judged_due arrival (frame_due line frame))
frame-answer_given line frame arrival outcomes awaited_still e =
    by_bool (has_heads (map (λ (one : Due). one.head) (frame_due line frame)) arrival.parts)
    (λ t. let same : outcomes ≡ map (λ (pair : Due × Part). outcome_for (judge_due pair)) (zip (frame_due line frame) arrival.parts) =
    same-some _ _ (e ∙ ap (λ b. cond b (Some (map (λ (pair : Due × Part). outcome_for (judge_due pair)) (zip (frame_due line frame) arrival.parts))) None) t) in
    ap answer.Answered same ∙ frame-answered_either line frame.datagrams arrival awaited_still t
    ∙ sym (ap (λ b. judged_answer (cond b (map judge_due (zip (frame_due line frame) arrival.parts)) [])) t))
    (λ t. absurd (never outcomes (e ∙ ap (λ b. cond b (Some (map (λ (pair : Due × Part). outcome_for (judge_due pair)) (zip (frame_due line frame) arrival.parts))) None) t)))
  where
    same-some : (a b : List Outcome) → Some a ≡ Some b → a ≡ b
    same-some a b e = cc

    never : (a : List Outcome) → Some a ≡ None → ⊥
    never a e = cc

-- a write of several blocks

any-block : (blocks : List AwaitedBlock) → list_any (λ (one : Due). one.last_sent) (map block_due blocks) ≡ list_any (λ (one : AwaitedBlock). one.last_sent) blocks
any-block [] = refl
any-block (block ∷ blocks) = ap (λ b. block.last_sent || b) (any-block blocks)

abbrev Several : List AwaitedBlock → Type 0
Several blocks = length blocks ≡ 1 → ⊥

blocks-answered_back : (blocks : List AwaitedBlock) (parts : List Part) → Several blocks → has_heads (map (λ (one : Due). one.head) (map block_due blocks)) parts ≡ true
    → judged_answer (map judge_due (zip (map block_due blocks) parts))
    ≡ cond (list_any (λ (one : AwaitedBlock). one.last_sent) blocks) (answer.Written (map (λ (pair : Due × Part). outcome_for (judge_due pair)) (zip (map block_due blocks) parts))) answer.Stale
blocks-answered_back [] parts several back = refl
blocks-answered_back (block ∷ []) parts several back = absurd (several refl)
blocks-answered_back (block ∷ next ∷ blocks) [] several back = cc
blocks-answered_back (block ∷ next ∷ blocks) (part ∷ []) several back = absurd (never (has_head (written_head block) part) back)
  where
    never : (b : Bool) → (b && false) ≡ true → ⊥
    never true e = cc
    never false e = cc
blocks-answered_back (block ∷ next ∷ blocks) (part ∷ more ∷ parts) several back =
    let updates : list_any is_current (map judge_due (zip (map block_due (block ∷ next ∷ blocks)) (part ∷ more ∷ parts))) ≡ list_any (λ (one : AwaitedBlock). one.last_sent) (block ∷ next ∷ blocks) =
    any-updates (map block_due (block ∷ next ∷ blocks)) (part ∷ more ∷ parts) back ∙ any-block (block ∷ next ∷ blocks) in
    ap (λ (b : Bool). cond b (answer.Written (map outcome_for (map judge_due (zip (map block_due (block ∷ next ∷ blocks)) (part ∷ more ∷ parts))))) answer.Stale) updates
    ∙ ap (λ (answer_given : List Outcome). cond (list_any (λ (one : AwaitedBlock). one.last_sent) (block ∷ next ∷ blocks)) (answer.Written answer_given) answer.Stale) (map-twice (zip (map block_due (block ∷ next ∷ blocks)) (part ∷ more ∷ parts)))

abbrev back_of : Arrival → List AwaitedBlock → Bool
back_of arrival blocks = has_heads (map (λ (one : Due). one.head) (map block_due blocks)) arrival.parts

same-some : (a b : List Outcome) → Some a ≡ Some b → a ≡ b
same-some a b e = cc

never-some : (a : List Outcome) → Some a ≡ None → ⊥
never-some a e = cc

-- all came back, and one is current
pub blocks-answer_given : (blocks : List AwaitedBlock) (arrival : Arrival) (outcomes : List Outcome) → Several blocks → Some outcomes ≡ outcomes_in (map block_due blocks) arrival.parts
    → judged_answer (judged_due arrival (map block_due blocks)) ≡ cond (list_any (λ (one : AwaitedBlock). one.last_sent) blocks) (answer.Written outcomes) answer.Stale
blocks-answer_given blocks arrival outcomes several e =
    let answer_given : List Outcome = map (λ (pair : Due × Part). outcome_for (judge_due pair)) (zip (map block_due blocks) arrival.parts) in
    by_bool (back_of arrival blocks)
    (λ t. let same : outcomes ≡ answer_given = same-some outcomes answer_given (e ∙ ap (λ b. cond b (Some answer_given) None) t) in
    ap (λ b. judged_answer (cond b (map judge_due (zip (map block_due blocks) arrival.parts)) [])) t
    ∙ blocks-answered_back blocks arrival.parts several t
    ∙ sym (ap (λ (all : List Outcome). cond (list_any (λ (one : AwaitedBlock). one.last_sent) blocks) (answer.Written all) answer.Stale) same))
    (λ t. absurd (never-some outcomes (e ∙ ap (λ b. cond b (Some answer_given) None) t)))

-- not all came back
pub blocks-missed : (blocks : List AwaitedBlock) (arrival : Arrival) → None ≡ outcomes_in (map block_due blocks) arrival.parts → judged_answer (judged_due arrival (map block_due blocks)) ≡ answer.Stale
blocks-missed blocks arrival e =
    let answer_given : List Outcome = map (λ (pair : Due × Part). outcome_for (judge_due pair)) (zip (map block_due blocks) arrival.parts) in
    by_bool (back_of arrival blocks)
    (λ t. absurd (never-some answer_given (sym (e ∙ ap (λ b. cond b (Some answer_given) None) t))))
    (λ t. ap (λ b. judged_answer (cond b (map judge_due (zip (map block_due blocks) arrival.parts)) [])) t)

-- what is found

pub judged-frame : (line : List Member) (waiting : Waiting) (arrival : Arrival) (found : Option AwaitedFrame) → found_write arrival.serial waiting ≡ None
    → found ≡ found_frame arrival.serial waiting
    → option_map_or (judged_due arrival) (option_map (frame_due line) found) [] ≡ judged_in line waiting arrival
judged-frame line waiting arrival found none there =
    ap (λ (one : Option AwaitedFrame). option_map_or (judged_due arrival) (option_map (frame_due line) one) []) there
    ∙ sym (ap (λ (write : Option AwaitedWrite). option_map_or (judged_due arrival) (option_or (option_map write_due write) (option_map (frame_due line) (found_frame arrival.serial waiting))) []) none)

judged-found : (line : List Member) (waiting : Waiting) (arrival : Arrival) (found : Option AwaitedWrite) (blocks : List AwaitedBlock) → option_map (λ (write : AwaitedWrite). write.blocks) found ≡ Some blocks
    → option_map_or (judged_due arrival) (option_or (option_map write_due found) (option_map (frame_due line) (found_frame arrival.serial waiting))) [] ≡ judged_due arrival (map block_due blocks)
judged-found line waiting arrival None blocks there = absurd (never there)
  where
    never : None ≡ Some blocks → ⊥
    never e = cc
judged-found line waiting arrival (Some write) blocks there = ap (λ (all : List AwaitedBlock). judged_due arrival (map block_due all)) (same write.blocks blocks there)
  where
    same : (a b : List AwaitedBlock) → Some a ≡ Some b → a ≡ b
    same a b e = cc

-- the blocks of the write with the arrival's serial are judged
pub judged-blocks : (line : List Member) (waiting : Waiting) (arrival : Arrival) (blocks : List AwaitedBlock) → option_map (λ (write : AwaitedWrite). write.blocks) (found_write arrival.serial waiting) ≡ Some blocks
    → judged_due arrival (map block_due blocks) ≡ judged_in line waiting arrival
judged-blocks line waiting arrival blocks there = sym (judged-found line waiting arrival (found_write arrival.serial waiting) blocks there)

none-found : (found : Option AwaitedWrite) → option_map (λ (write : AwaitedWrite). write.blocks) found ≡ None → found ≡ None
none-found None none = refl
none-found (Some write) none = cc

-- if no blocks are found, no write is
pub no-blocks : (serial : ℕ) (waiting : Waiting) → option_map (λ (write : AwaitedWrite). write.blocks) (found_write serial waiting) ≡ None → found_write serial waiting ≡ None
no-blocks serial waiting none = none-found (found_write serial waiting) none

-- a frame that is found is one of those that are awaited
pub found-holds : (P : AwaitedFrame → Type 0) (serial : ℕ) (frames : List AwaitedFrame) (frame : AwaitedFrame) → All P frames
    → Some frame ≡ find (λ (one : AwaitedFrame). one.serial == serial) frames → P frame
found-holds P serial [] frame all e = absurd (never frame e)
  where
    never : (a : AwaitedFrame) → Some a ≡ None → ⊥
    never a e = cc
found-holds P serial (one ∷ frames) frame all e =
    by_bool (one.serial == serial)
    (λ t. subst P (same one frame (sym (e ∙ ap (λ b. cond b (Some one) (find (λ (f : AwaitedFrame). f.serial == serial) frames)) t))) (All-head P one frames all))
    (λ t. found-holds P serial frames frame (All-tail P one frames all) (e ∙ ap (λ b. cond b (Some one) (find (λ (f : AwaitedFrame). f.serial == serial) frames)) t))
  where
    same : (a b : AwaitedFrame) → Some a ≡ Some b → a ≡ b
    same a b e = cc

-- the datagrams of the frame that is found are the line's
pub found-is_placed : (line : List Member) (last_sent : LastSent) (frame : StoredFrame) → All (λ (carried : AwaitedDatagram). IsInLine line carried.datagram) (frame_by last_sent frame).datagrams → All (IsInLine line) frame.datagrams
found-is_placed line last_sent frame all = All-unmap (λ (carried : AwaitedDatagram). IsInLine line carried.datagram) (awaited_datagram last_sent frame.serial) frame.datagrams all
