-- A task's part is filled with the data that the record sends.
use Rattle.std.proofs.Common.{◌≡◌, ◌+◌, ℕ, List, [], ◌∷◌, length, refl, sym, ap, ap₂, ◌∙◌, arith, None, rules}
use Rattle.std.specs.Prelude.{All}
use Rattle.std.proofs.lemmas.List.Elements.{All-head, All-tail, All-weaker}
use Rattle.std.proofs.lemmas.List.Sums.{sum_by-cons}
use Rattle.hc_records.specs.Edits.{over_limit_task}
use Rattle.hc_records.specs.Line.{groups_of}
use Rattle.hc_records.specs.Project.{lowest_fault}
use Rattle.hc_events.specs.Accepted.{IsInLine}
use Rattle.hc_events.specs.Entries.{History}
use Rattle.hc_events.specs.Outputs.{sent_data}
use Rattle.hc_events.specs.Points.{line_of, next_serial, state_of}
use Rattle.hc_events.specs.Sendings.{Frame, Named}
use Rattle.hc_events.proofs.lemmas.SentBits.{sent-data}
use Rattle.hc_images.specs.Packed.{Packed, sent_bytes}
use Rattle.hc_sendings.specs.PartTexts.{CanBeWritten, frame_part_text, own_texts, part_text}
use Rattle.hc_sendings.specs.Parts.{part_size}
use Rattle.hc_sendings.specs.Texts.{carried_bytes}
use Rattle.hc_sendings.proofs.lemmas.Listed.{standing-task}
use Rattle.hc_sendings.proofs.lemmas.PartTexts.{parts-join, parts-sized}
use Rattle.hc_core.proofs.Fills.{carried-counted, known-tasks}
use Rattle.hc_core.proofs.Values.{data-sent}
use Rattle.hc_core.specs.Filled.{CanBeFilled}
use Rattle.hc_core.specs.Laws.{PartsAreTheProposal}
use Rattle.hc_core.specs.Values.{HoldsValues}

-- a task's part has as many bytes as are reported
pub part-long : (history : History) (task : ℕ) (frames : List Frame) → length (part_text (sent_data history) task frames) ≡ part_size (line_of history) task frames
part-long history task frames = parts-sized (sent_data history) (line_of history) task frames (λ t d. (sent-data history t d).size)

module _ (history : History) (packed : Packed) (project : lowest_fault (groups_of (state_of history).groups) ≡ None) (uncrowded : over_limit_task (line_of history) ≡ None) (holds : HoldsValues history packed) where
  one_sent : (named : Named) → IsInLine (line_of history) named → sent_bytes packed named.0 named.1 ≡ sent_data history named.0 named.1
  one_sent named is_placed = data-sent history packed named.0 named.1 project uncrowded (standing-task (state_of history) named.0 named.1 project is_placed) is_placed holds

  own_sent : (serial task : ℕ) (names : List Named) → All (IsInLine (line_of history)) names → own_texts (sent_bytes packed) serial task names ≡ own_texts (sent_data history) serial task names
  own_sent serial task [] is_placed = refl
  own_sent serial task (named ∷ rest) is_placed =
      search (rules, one_sent, All-head, All-tail, own_sent serial task rest (All-tail (IsInLine (line_of history)) named rest is_placed))

  size_sent : (names : List Named) → All (IsInLine (line_of history)) names → carried_bytes (sent_bytes packed) names ≡ carried_bytes (sent_data history) names
  size_sent [] is_placed = refl
  size_sent (named ∷ rest) is_placed =
      sum_by-cons (λ (n : Named). 12 + length (sent_bytes packed n.0 n.1)) named rest
      ∙ ap₂ (λ bytes after_it. 12 + length {A = ℕ} bytes + after_it) (one_sent named (All-head (IsInLine (line_of history)) named rest is_placed)) (size_sent rest (All-tail (IsInLine (line_of history)) named rest is_placed))
      ∙ sym (sum_by-cons (λ (n : Named). 12 + length (sent_data history n.0 n.1)) named rest)

  frame_sent : (task : ℕ) (frame : Frame) → All (IsInLine (line_of history)) frame.datagrams → frame_part_text (sent_bytes packed) task frame ≡ frame_part_text (sent_data history) task frame
  frame_sent task frame is_placed = search (rules, size_sent, own_sent)

  pub part-sent : (task : ℕ) (frames : List Frame) → All (λ frame. All (IsInLine (line_of history)) frame.datagrams) frames → part_text (sent_bytes packed) task frames ≡ part_text (sent_data history) task frames
  part-sent task [] is_placed = refl
  part-sent task (frame ∷ frames) is_placed =
      search (rules, frame_sent, All-head, All-tail, part-sent task frames (All-tail (λ (f : Frame). All (IsInLine (line_of history)) f.datagrams) frame frames is_placed))

  -- the slice's size is the one that the line gives
  pub part-fits : (task : ℕ) (frames : List Frame) → All (λ frame. All (IsInLine (line_of history)) frame.datagrams) frames → length (part_text (sent_bytes packed) task frames) ≡ part_size (line_of history) task frames
  part-fits task frames is_placed =
      ap length (part-sent task frames is_placed) ∙ part-long history task frames

  -- a frame that can be filled can be written with these data
  pub part-can : (frames : List Frame) → All (CanBeFilled history) frames → All (CanBeWritten (sent_bytes packed)) frames
  part-can frames can =
      All-weaker (CanBeFilled history) (CanBeWritten (sent_bytes packed))
      (λ frame filled.
      record {
        serial = omega arith;
        known = known-tasks history frame.datagrams project filled.in_line;
        counted = carried-counted history packed frame.datagrams project uncrowded filled.in_line holds ∙ sym filled.counted;
      }) frames can

-- the datagrams of frames that can be filled are in the line
pub parts-are_placed : (history : History) (frames : List Frame) → All (CanBeFilled history) frames → All (λ frame. All (IsInLine (line_of history)) frame.datagrams) frames
parts-are_placed history frames can = search rules

pub parts : PartsAreTheProposal
parts history tasks together = parts-join (sent_data history) (line_of history) (next_serial history) tasks together.distinct
