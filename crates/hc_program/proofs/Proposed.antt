-- Frames that are proposed: as they are printed by their own serials, and as the answer prints them.
use Rattle.std.proofs.Common.{◌≡◌, ℕ, ◌+◌, List, [], ◌∷◌, ◌++◌, map, length, refl, sym, ap, ◌∙◌, None}
use Rattle.std.specs.List.{flat_map, range_with_len}
use Rattle.hc_records.specs.Lists.{lowest}
use Rattle.hc_events.specs.declared.answer.Answer.TheVariants as answer
use Rattle.hc_events.specs.Entries.{History}
use Rattle.hc_events.specs.Points.{next_serial}
use Rattle.hc_events.specs.Sendings.{Frame}
use Rattle.hc_events.specs.Steps.{SendsTasks, proposal, sent_text, task_faults, unless}
use Rattle.hc_events.proofs.lemmas.Frames.{proposals-numbered}
use Rattle.hc_program.specs.Answers.{answer_text, frames_text, sent_lines, event_text}
use Rattle.hc_program.specs.Frames.{proposed_line, proposed_text, sent_line}

lines_as : (history : History) (frames : List Frame) (serial : ℕ) → map (λ frame. frame.serial) frames ≡ range_with_len serial (length frames)
    → sent_lines serial (map (sent_text history) frames) ≡ flat_map (proposed_line history) frames
lines_as history [] serial numbered = refl
lines_as history (frame ∷ frames) serial numbered =
    let first : frame.serial ≡ serial = cc in
    let others : map (λ (other : Frame). other.serial) frames ≡ range_with_len (serial + 1) (length frames) = cc in
    ap (λ n. sent_line n (sent_text history frame) ++ sent_lines (serial + 1) (map (sent_text history) frames)) (sym first)
    ∙ ap (λ rest. proposed_line history frame ++ rest) (lines_as history frames (serial + 1) others)

text_as : (history : History) (frames : List Frame) (serial : ℕ) → map (λ frame. frame.serial) frames ≡ range_with_len serial (length frames)
    → frames_text serial (map (sent_text history) frames) ≡ proposed_text history frames
text_as history [] serial numbered = refl
text_as history (frame ∷ frames) serial numbered = lines_as history (frame ∷ frames) serial numbered

-- frames that are accepted
pub proposed_answered : (history : History) (tasks : List ℕ) (frames : List Frame) → frames ≡ proposal history tasks → lowest (task_faults history tasks) ≡ None → event_text history (SendsTasks tasks) ≡ proposed_text history frames
unfolding event_text
proposed_answered history tasks frames whole accepted =
    let all = proposal history tasks in
    ap (λ found. answer_text (next_serial history) (unless found (answer.Sent (map (sent_text history) all)))) accepted
    ∙ text_as history all (next_serial history) (proposals-numbered history tasks)
    ∙ ap (proposed_text history) (sym whole)
