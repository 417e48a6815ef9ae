-- A datagram changed in its place is the text of the changed datagram.
use Rattle.std.proofs.Common.{◌≡◌, ℕ, ◌+◌, ◌%◌, Bool, List, [], ◌++◌, length, take, drop, refl, sym, ap, ◌∙◌, append_assoc, append-nil, length-append}
use Rattle.std.specs.Int.{w16, w32, to_le_bytes}
use Rattle.hc_frames.specs.declared.commands.Command.{Command}
use Rattle.hc_frames.specs.FrameText.{WireDatagram, carried_head, carried_text}
use Rattle.hc_frames.proofs.lemmas.Replaced.{middle-replaced}
use Rattle.hc_machine.specs.Memory.{with_part}
use Rattle.hc_machine.specs.Rewriting.{rewritten}

-- the middle of three lists, replaced
middle-part : (front mid back new : List ℕ) (at : ℕ) → length front ≡ at → length mid ≡ length new → with_part at new (front ++ (mid ++ back)) ≡ front ++ (new ++ back)
middle-part front mid back new at before same =
    let all : List ℕ = front ++ (mid ++ back) in
    sym (append_assoc (take at all) new (drop (at + length new) all)) ∙ middle-replaced front mid back new at (length new) before same

module _ (index : ℕ) (command : Command) (more : Bool) (interrupt size : ℕ) where
  abbrev head : ℕ → List ℕ
  head address = carried_head index command address size more interrupt

  -- address, data and counter are changed one after another
  all-replaced : (address address' : ℕ) (bytes bytes' counter counter' : List ℕ) → length bytes' ≡ length bytes → length counter ≡ length counter'
      → with_part (10 + length bytes') counter' (with_part 2 (to_le_bytes w32 address') (with_part 10 bytes' (head address ++ (bytes ++ counter)))) ≡ head address' ++ (bytes' ++ counter')
  all-replaced address address' bytes bytes' counter counter' same same2 =
      let put : List ℕ → List ℕ = λ xs. with_part (10 + length bytes') counter' xs in
      ap (λ (xs : List ℕ). put (with_part 2 (to_le_bytes w32 address') xs)) (middle-part (head address) bytes counter bytes' 10 refl (sym same))
      ∙ ap put (sym (append_assoc (head address') bytes' counter) ∙ ap (λ (xs : List ℕ). head address' ++ bytes' ++ xs) (sym (append-nil counter)))
      ∙ middle-part (head address' ++ bytes') counter [] counter' (10 + length bytes') (length-append (head address') bytes') same2
      ∙ ap (λ (xs : List ℕ). head address' ++ bytes' ++ xs) (append-nil counter')
      ∙ append_assoc (head address') bytes' counter'

pub text-rewritten : (serial : ℕ) (more : Bool) (d e : WireDatagram) → e.command ≡ d.command → e.interrupt ≡ d.interrupt → length e.bytes ≡ length d.bytes
    → rewritten (carried_text serial more d) e ≡ carried_text serial more e
text-rewritten serial more d e same_command same_interrupt same_size =
    let index : ℕ = serial % 256 in
    let end : List ℕ = to_le_bytes w16 e.counter in
    let cut : (c : WireDatagram) → carried_text serial more c ≡ carried_head index c.command c.address (length c.bytes) more c.interrupt ++ (c.bytes ++ to_le_bytes w16 c.counter) =
    λ c. append_assoc (carried_head index c.command c.address (length c.bytes) more c.interrupt) c.bytes (to_le_bytes w16 c.counter) in
    ap (λ (xs : List ℕ). rewritten xs e) (cut d)
    ∙ all-replaced index d.command more d.interrupt (length d.bytes) d.address e.address d.bytes e.bytes (to_le_bytes w16 d.counter) end same_size refl
    ∙ ap (λ (n : ℕ). carried_head index d.command e.address n more d.interrupt ++ (e.bytes ++ end)) (sym same_size)
    ∙ ap (λ (n : ℕ). carried_head index d.command e.address (length e.bytes) more n ++ (e.bytes ++ end)) (sym same_interrupt)
    ∙ ap (λ (c : Command). carried_head index c e.address (length e.bytes) more e.interrupt ++ (e.bytes ++ end)) (sym same_command)
    ∙ sym (cut e)
