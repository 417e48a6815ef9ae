-- A frame that writes a register, through machines: each serves the datagram, which goes on as it came but for its counter.
use Rattle.std.proofs.Common.{◌≡◌, ℕ, ◌+◌, ◌^◌, ◌<◌, ◌≤◌, ◌∙◌, List, [], ◌∷◌, length, refl, sym, ap, ap₂, subst, arith}
use Rattle.std.specs.Prelude.{All, map}
use Rattle.std.proofs.lemmas.List.{append-nil}
use Rattle.std.proofs.lemmas.List.Elements.{All-cons, All-head, All-map, All-nil, All-tail, All-weaker}
use Rattle.hc_frames.specs.declared.commands.Command.{Command}
use Rattle.hc_frames.specs.declared.commands.Command.TheVariants.{Fpwr}
use Rattle.hc_frames.specs.FrameText.{WireDatagram, Datagram, frame_text, sent_on_wire, station_address}
use Rattle.hc_frames.specs.Laws.{CanBeCarried}
use Rattle.hc_frames.specs.Returned.{FitsLine, IsReturned}
use Rattle.hc_frames.proofs.lemmas.Returns.{returned-read, sent-returned}
use Rattle.hc_machine.specs.Commands.{address_after, data_after, memory_after_command, memory_after_datagram, served}
use Rattle.hc_machine.specs.Frames.{frame_after, memory_after}
use Rattle.hc_machine.proofs.lemmas.Returned.{returned-passes}
use Rattle.hc_registers.specs.Blocks.{LineBlock}
use Rattle.hc_segment.specs.Line.{machines_after, machines_after_frame}
use Rattle.hc_exchange.specs.Writing.{block_datagram, write_frames}
use Rattle.hc_exchange.proofs.Blocks.{block-size, blocks_after}
use Rattle.hc_exchange.proofs.Wrote.{IsPlain, block_after}
use Rattle.hc_exchange.proofs.lemmas.Frames.{after_it-read}

-- a datagram writes bytes at an address
record IsWrite (part : WireDatagram) (address : ℕ) (bytes : List ℕ) : Type 0 where
  command : part.command ≡ Fpwr
  address_is : part.address ≡ address
  bytes_are : part.bytes ≡ bytes

served-write : (memory : List ℕ) (part : WireDatagram) (address : ℕ) (bytes : List ℕ) → IsWrite part address bytes → IsWrite (served memory part) address bytes
unfolding served
served-write memory part address bytes is = record {
  command = is.command;
  address_is = subst (λ (c : Command). address_after c part.address ≡ address) (sym is.command) is.address_is;
  bytes_are = subst (λ (c : Command). data_after c memory part.address part.bytes ≡ bytes) (sym is.command) is.bytes_are;
}

after_it-write : (memory : List ℕ) (part : WireDatagram) (address : ℕ) (bytes : List ℕ) → IsWrite part address bytes
    → memory_after_datagram memory part ≡ memory_after_command Fpwr memory address bytes
unfolding memory_after_datagram
after_it-write memory part address bytes is =
    ap (λ (c : Command). memory_after_command c memory part.address part.bytes) is.command
    ∙ ap₂ (λ (a : ℕ) (b : List ℕ). memory_after_command Fpwr memory a b) is.address_is is.bytes_are

-- one write through machines

write-through : (ms : List (List ℕ)) (serial : ℕ) (w : Datagram) (part : WireDatagram) (frame : List ℕ) (address : ℕ) (bytes : List ℕ) → All (λ m. length m ≡ 12288) ms
    → IsReturned serial (w ∷ []) (part ∷ []) frame → CanBeCarried serial (part ∷ []) → IsWrite part address bytes
    → machines_after_frame ms frame ≡ map (λ m. memory_after_command Fpwr m address bytes) ms
write-through [] serial w part frame address bytes long back can is = refl
write-through (m ∷ ms) serial w part frame address bytes long back can is =
    let read = returned-read serial (w ∷ []) (part ∷ []) frame back can in
    let next = returned-passes m (All-head (λ (x : List ℕ). length x ≡ 12288) m ms long) serial (w ∷ []) (part ∷ []) frame back can in
    let here : memory_after m frame ≡ memory_after_command Fpwr m address bytes =
    after_it-read m frame serial (part ∷ []) read.0 read.1 ∙ after_it-write m part address bytes is in
    ap₂ (λ (x : List ℕ) (xs : List (List ℕ)). x ∷ xs) here
    (write-through ms serial w (served m part) (frame_after m frame) address bytes (All-tail (λ (x : List ℕ). length x ≡ 12288) m ms long) next.0 next.1
    (served-write m part address bytes is))

-- a block's datagram fits a frame
block-carried : (serial : ℕ) (block : LineBlock) → serial < 2 ^ 40 → IsPlain block → CanBeCarried serial (sent_on_wire (block_datagram block) ∷ [])
block-carried serial block low plain =
    let station = plain.station in
    let to = plain.to in
    let some = plain.some in
    let few = plain.few in
    record {
      some = omega arith;
      low = low;
      fits = All-cons FitsLine (sent_on_wire (block_datagram block)) []
          (record { address = omega arith; interrupt = omega arith; counter = omega arith; filled = some; size = omega arith }) (All-nil FitsLine);
      within = omega arith;
    }

block-through : (ms : List (List ℕ)) (serial : ℕ) (block : LineBlock) → serial < 2 ^ 40 → IsPlain block → All (λ m. length m ≡ 12288) ms
    → machines_after_frame ms (frame_text serial (block_datagram block ∷ [])) ≡ map (λ m. block_after m block) ms
block-through ms serial block low plain long =
    let ds : List Datagram = block_datagram block ∷ [] in
    let back : IsReturned serial ds (map sent_on_wire ds) (frame_text serial ds) = subst (IsReturned serial ds (map sent_on_wire ds)) (append-nil (frame_text serial ds)) (sent-returned serial ds []) in
    write-through ms serial (block_datagram block) (sent_on_wire (block_datagram block)) (frame_text serial ds) (station_address block.station block.block.register) block.block.bytes long back
    (block-carried serial block low plain) (record { command = refl; address_is = refl; bytes_are = refl })

same-map : (ms : List (List ℕ)) → ms ≡ map (λ m. m) ms
same-map [] = refl
same-map (m ∷ ms) = ap (λ (xs : List (List ℕ)). m ∷ xs) (same-map ms)

map-twice : (f g : List ℕ → List ℕ) (ms : List (List ℕ)) → map g (map f ms) ≡ map (λ m. g (f m)) ms
map-twice f g [] = refl
map-twice f g (m ∷ ms) = ap (λ (xs : List (List ℕ)). g (f m) ∷ xs) (map-twice f g ms)

-- so each machine has what the blocks leave of it
pub blocks-through : (blocks : List LineBlock) (ms : List (List ℕ)) (serial : ℕ) → serial + length blocks ≤ 2 ^ 40 → All IsPlain blocks → All (λ m. length m ≡ 12288) ms
    → machines_after ms (write_frames serial blocks) ≡ map (λ m. blocks_after m blocks) ms
blocks-through [] ms serial low plain long = same-map ms
blocks-through (block ∷ blocks) ms serial low plain long =
    let plain_first = All-head IsPlain block blocks plain in
    let first = block-through ms serial block (omega arith) plain_first long in
    let next = map (λ m. block_after m block) ms in
    let long_next : All (λ m. length m ≡ 12288) next =
    All-map (λ m. length m ≡ 12288) (λ m. block_after m block) ms
    (All-weaker (λ m. length m ≡ 12288) (λ m. length (block_after m block) ≡ 12288) (λ m size. block-size m block size plain_first) ms long) in
    ap (λ (xs : List (List ℕ)). machines_after xs (write_frames (serial + 1) blocks)) first
    ∙ blocks-through blocks next (serial + 1) (omega arith) (All-tail IsPlain block blocks plain) long_next
    ∙ map-twice (λ m. block_after m block) (λ m. blocks_after m blocks) ms
