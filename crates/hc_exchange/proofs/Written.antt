-- Blocks written one after another.
use Rattle.std.proofs.Common.{◌≡◌, ℕ, zero, suc, ◌+◌, ◌<◌, ◌≤◌, ◌∙◌, inl, inr, Option, Some, None, List, [], ◌∷◌, ◌++◌, length, take, drop, refl, sym, ap, ap₂, subst, arith, length-take}
use Rattle.std.specs.Prelude.{Err, Ok, Result, option_map, slice_get}
use Rattle.std.proofs.lemmas.List.{append-nil, drop_all}
use Rattle.std.proofs.lemmas.Option.{get_or_from_slice_get, slice_get_within}
use Rattle.hc_records.specs.Line.{Member}
use Rattle.hc_frames.specs.declared.building.Room.{Room}
use Rattle.hc_frames.specs.Builds.{Builds}
use Rattle.hc_frames.specs.FrameText.{block_write, frame_text}
use Rattle.hc_registers.specs.Blocks.{LineBlock, RegisterBlock, line_blocks, mapping_of}
use Rattle.hc_segment.specs.Line.{machines_after, machines_after_frame}
use Rattle.hc_plan.specs.Configuration.{at_station}
use Rattle.hc_exchange.specs.Pairs.{member_area_key}
use Rattle.hc_exchange.specs.Writing.{block_datagram, write_frames}
use Rattle.hc_exchange.proofs.lemmas.Shared.{length-fmmu}
use Rattle.hc_exchange.proofs.lemmas.Sources.{IsOfLine, Source, line-sources}

-- one more frame
after-one : (machines : List (List ℕ)) (fs : List (List ℕ)) (f : List ℕ) → machines_after machines (fs ++ f ∷ []) ≡ machines_after_frame (machines_after machines fs) f
after-one machines [] f = refl
after-one machines (g ∷ fs) f = after-one (machines_after_frame machines g) fs f

frames-one : (serial : ℕ) (blocks : List LineBlock) (block : LineBlock) → write_frames serial (blocks ++ block ∷ []) ≡ write_frames serial blocks ++ frame_text (serial + length blocks) (block_datagram block ∷ []) ∷ []
frames-one serial [] block = let none : serial ≡ serial + 0 = omega arith in ap (λ (n : ℕ). frame_text n (block_datagram block ∷ []) ∷ []) none
frames-one serial (first ∷ blocks) block =
    let next : serial + 1 + length blocks ≡ serial + suc (length blocks) = omega arith in
    ap (λ (rest : List (List ℕ)). frame_text serial (block_datagram first ∷ []) ∷ rest)
    (frames-one (serial + 1) blocks block ∙ ap (λ (n : ℕ). write_frames (serial + 1) blocks ++ frame_text n (block_datagram block ∷ []) ∷ []) next)

take-next : {X : Type 0} (xs : List X) (n : ℕ) (x : X) → slice_get xs n ≡ Some x → take (n + 1) xs ≡ take n xs ++ x ∷ []
take-next [] n x is = cc
take-next (z ∷ xs) zero x is = let same : z ≡ x = cc in ap (λ (y : _). y ∷ []) same
take-next (z ∷ xs) (suc n) x is =
    let next : suc n + 1 ≡ suc (n + 1) = omega arith in
    ap (λ (k : ℕ). take k (z ∷ xs)) next ∙ ap (λ rest. z ∷ rest) (take-next xs n x is)

-- the block that a plan has at a number
answer_given-by : (o : Option LineBlock) (station : ℕ) (block : RegisterBlock) → option_map (λ found. at_station found.station found.block) o ≡ Some (station, block)
    → (own : LineBlock) × (o ≡ Some own) × (own.station ≡ station) × (own.block ≡ block)
answer_given-by None station block is = cc
answer_given-by (Some own) station block is =
    let same : at_station own.station own.block ≡ (station, block) = cc in
    (own, refl, ap (λ (p : ℕ × RegisterBlock). p.0) same, ap (λ (p : ℕ × RegisterBlock). p.1) same)

-- the machines after one more write
pub written-next : (blocks : List LineBlock) (n station : ℕ) (block : RegisterBlock) (machines now new : List (List ℕ)) → option_map (λ found. at_station found.station found.block) (slice_get blocks n) ≡ Some (station, block)
    → now ≡ machines_after machines (write_frames 0 (take n blocks)) → new ≡ machines_after_frame now (frame_text n (block_write station block.register block.bytes ∷ []))
    → new ≡ machines_after machines (write_frames 0 (take (n + 1) blocks))
written-next blocks n station block machines now new at is_now is_new =
    let answer_given = answer_given-by (slice_get blocks n) station block at in
    let own = answer_given.0 in
    let within = slice_get_within blocks n own answer_given.1 in
    let long : length (take n blocks) ≡ n = omega (arith, length-take n blocks) in
    let number : 0 + length (take n blocks) ≡ n = omega arith in
    let same : frame_text n (block_write station block.register block.bytes ∷ []) ≡ frame_text (0 + length (take n blocks)) (block_datagram own ∷ []) =
    ap₂ (λ (s : ℕ) (b : RegisterBlock). frame_text n (block_write s b.register b.bytes ∷ [])) (sym answer_given.2) (sym answer_given.3) ∙ ap (λ (k : ℕ). frame_text k (block_datagram own ∷ [])) (sym number) in
    is_new ∙ ap₂ (λ (ms : List (List ℕ)) (f : List ℕ). machines_after_frame ms f) is_now same
    ∙ sym (after-one machines (write_frames 0 (take n blocks)) (frame_text (0 + length (take n blocks)) (block_datagram own ∷ [])))
    ∙ ap (machines_after machines) (sym (ap (write_frames 0) (take-next blocks n own answer_given.1) ∙ frames-one 0 (take n blocks) own))

pub none-at : (blocks : List LineBlock) (n : ℕ) → option_map (λ found. at_station found.station found.block) (slice_get blocks n) ≡ None → n < length blocks → ⊥
none-at [] n none low = omega arith
none-at (b ∷ blocks) zero none low = cc
none-at (b ∷ blocks) (suc n) none low = none-at blocks n none (omega arith)

-- a block of the line has 1 to 16 bytes

source-long : (line : List Member) (member : Member) (block : RegisterBlock) → Source line member block → (1 ≤ length block.bytes) × (length block.bytes ≤ 16)
source-long line member block (inl manager) =
    let long : length block.bytes ≡ 8 = ap (λ (b : RegisterBlock). length b.bytes) manager.is in
    (omega arith, omega arith)
source-long line member block (inr source) =
    let long : length block.bytes ≡ 16 =
    ap (λ (b : RegisterBlock). length b.bytes) source.is ∙ length-fmmu source.area (mapping_of line source.area.task (member_area_key member source.index source.area)) in
    (omega arith, omega arith)

pub block-long : (line : List Member) (n station : ℕ) (block : RegisterBlock) → option_map (λ found. at_station found.station found.block) (slice_get (line_blocks line) n) ≡ Some (station, block)
    → (1 ≤ length block.bytes) × (length block.bytes ≤ 16)
block-long line n station block at =
    let answer_given = answer_given-by (slice_get (line_blocks line) n) station block at in
    let within = slice_get_within (line_blocks line) n answer_given.0 answer_given.1 in
    let own : IsOfLine line answer_given.0 = subst (IsOfLine line) (get_or_from_slice_get (line_blocks line) n answer_given.0 answer_given.0 answer_given.1) (line-sources line n answer_given.0 within) in
    subst (λ (b : RegisterBlock). (1 ≤ length b.bytes) × (length b.bytes ≤ 16)) answer_given.3 (source-long line own.member answer_given.0.block own.of_member.source)

-- the frame in a slice of its size
frame-alone : (old new text : List ℕ) → length old ≡ 60 → new ≡ text ++ drop 60 old → new ≡ text
frame-alone old new text long is = is ∙ ap (λ (rest : List ℕ). text ++ rest) (drop_all 60 old (omega arith)) ∙ append-nil text

pub built-whole : (old new text : List ℕ) (result : Result ℕ Room) (size : ℕ) → Builds old new result text size → length old ≡ 60 → size ≡ 60 → new ≡ text
built-whole old new text (Ok n) size builds long is = frame-alone old new text long (builds.written ∙ ap (λ (k : ℕ). text ++ drop k old) is)
built-whole old new text (Err room) size builds long is = let short = builds.short.0 refl in absurd (omega arith)
