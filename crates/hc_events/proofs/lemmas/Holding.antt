-- A register of the line with known bytes may hold only these.
use Rattle.std.proofs.Common.{◌≡◌, ℕ, ◌==◌, ◌&&◌, not, Bool, true, false, cond, List, [], ◌∷◌, refl, sym, ap, ◌∙◌, subst, Option, Some, None}
use Rattle.std.specs.Prelude.{option_and_then, option_map}
use Rattle.std.specs.Option.{option_map_or, option_or}
use Rattle.std.specs.List.{list_any}
use Rattle.std.proofs.lemmas.Bool.{eqb-true}
use Rattle.hc_records.specs.declared.edit.Edit.{Edit}
use Rattle.hc_records.specs.declared.records.Group.{Group}
use Rattle.hc_records.proofs.lemmas.Choices.{by_bool}
use Rattle.hc_registers.specs.Blocks.{LineBlock}
use Rattle.hc_events.specs.Accepted.{AreAccepted, IsClearing, just_opened}
use Rattle.hc_events.specs.Answering.{judged_by}
use Rattle.hc_events.specs.Entries.{History, Opened, Edited, Posted, Sent, Wrote, Came, Forgot, Cleared, Unplugged}
use Rattle.hc_events.specs.Heads.{Block}
use Rattle.hc_events.specs.Holding.{MayHold, cleared_register, held_after_answer, held_after_coming, held_after_write, may_hold}
use Rattle.hc_events.specs.Owed.{block_among, confirms, if_confirmed, is_in_line, known_bytes, last_write, write_of}
use Rattle.hc_events.specs.Points.{next_serial}
use Rattle.hc_events.proofs.lemmas.Accepted.{StaysTrue, held-of_accepted}
use Rattle.hc_events.proofs.lemmas.Confirmed.{known-came}
use Rattle.hc_events.proofs.lemmas.Live.{at_least, unconfirmed}

-- a register that may hold these bytes alone
abbrev pub only : List ℕ → MayHold
only bytes = record { unknown = false; contents = bytes ∷ [] }

abbrev HeldIfKnown : History → Type 0
HeldIfKnown history = (station number : ℕ) (bytes : List ℕ) → is_in_line history station ≡ true → known_bytes history station number ≡ Some bytes → may_hold history station number ≡ only bytes

-- an edit, for a slave that was in the line before it and for one that wasn't

pub stays-held : (history : History) (edit : Edit) (station number : ℕ) → is_in_line history station ≡ true → may_hold (Edited edit ∷ history) station number ≡ may_hold history station number
stays-held history edit station number here = ap (λ b. held_after_coming (not b && is_in_line (Edited edit ∷ history) station) (may_hold history station number)) here

edited_held : (history : History) (edit : Edit) → HeldIfKnown history → HeldIfKnown (Edited edit ∷ history)
edited_held history edit before station number bytes here known =
    by_bool (is_in_line history station)
    (λ t. stays-held history edit station number t
    ∙ before station number bytes t (sym (ap (λ b. option_and_then (if_confirmed (Edited edit ∷ history) (Block station number)) (cond b (last_write history station number) None)) t) ∙ known))
    (λ t. let never : None ≡ Some bytes = sym (ap (λ b. option_and_then (if_confirmed (Edited edit ∷ history) (Block station number)) (cond b (last_write history station number) None)) t) ∙ known in cc)

-- a frame of writes: the block that it writes isn't known after it

wrote_if : (history : History) (blocks : List LineBlock) (station number : ℕ) (bytes : List ℕ) (found : Option LineBlock)
    → (known_bytes history station number ≡ Some bytes → may_hold history station number ≡ only bytes)
    → option_and_then (if_confirmed (Wrote blocks ∷ history) (Block station number)) (option_or (option_map (write_of (next_serial history)) found) (last_write history station number)) ≡ Some bytes
    → held_after_write found (may_hold history station number) ≡ only bytes
wrote_if history blocks station number bytes None before known = before known
wrote_if history blocks station number bytes (Some block) before known =
    let never : None ≡ Some bytes = sym (ap (λ b. cond b (Some block.block.bytes) None) (unconfirmed history (next_serial history) (Block station number) (at_least (next_serial history)))) ∙ known in cc

-- an arrival: a good one makes the bytes of the last write known, and leaves them alone

same_bytes : (write : Option (ℕ × List ℕ)) (bytes : List ℕ) → option_map (λ (found : ℕ × List ℕ). found.1) write ≡ Some bytes → option_map_or (λ (found : ℕ × List ℕ). found.1 ∷ []) write [] ≡ bytes ∷ []
same_bytes None bytes e = cc
same_bytes (Some write) bytes e = let same : write.1 ≡ bytes = cc in ap (λ one. one ∷ []) same

came_if : (good : Bool) (write : Option (ℕ × List ℕ)) (known : Option (List ℕ)) (held : MayHold) (bytes : List ℕ) → (known ≡ Some bytes → held ≡ only bytes)
    → cond good (option_map (λ (found : ℕ × List ℕ). found.1) write) known ≡ Some bytes → held_after_answer good write held ≡ only bytes
came_if true write known held bytes before e = ap (λ contents. record { unknown = false; contents = contents }) (same_bytes write bytes e)
came_if false write known held bytes before e = before e

forgot_if : (own : Bool) (history : History) (other station number : ℕ) (bytes : List ℕ) → (station == other) ≡ own → HeldIfKnown history → is_in_line history station ≡ true
    → known_bytes (Forgot other ∷ history) station number ≡ Some bytes → may_hold history station number ≡ only bytes
forgot_if true history other station number bytes same before here known =
    let never : None ≡ Some bytes = sym (ap (λ b. option_and_then (if_confirmed history (Block station number)) (cond b None (last_write history station number))) same) ∙ known in cc
forgot_if false history other station number bytes same before here known =
    before station number bytes here (sym (ap (λ b. option_and_then (if_confirmed history (Block station number)) (cond b None (last_write history station number))) same) ∙ known)

cleared_if : (own : Bool) (history : History) (other station number : ℕ) (bytes : List ℕ) → (station == other) ≡ own → IsClearing history other → HeldIfKnown history → is_in_line history station ≡ true
    → known_bytes history station number ≡ Some bytes → cond own cleared_register (may_hold history station number) ≡ only bytes
cleared_if true history other station number bytes same clearing before here known =
    let one : station ≡ other = eqb-true station other same in
    let none : last_write history station number ≡ None = subst (λ s. last_write history s number ≡ None) (sym one) (clearing.forgotten (subst (λ s. is_in_line history s ≡ true) one here) number) in
    let never : None ≡ Some bytes = sym (ap (option_and_then (if_confirmed history (Block station number))) none) ∙ known in cc
cleared_if false history other station number bytes same clearing before here known = before station number bytes here known

held_grows : StaysTrue HeldIfKnown
held_grows history (Opened groups) accepted before = absurd accepted
held_grows history (Edited edit) accepted before = edited_held history edit before
held_grows history (Posted task bytes) accepted before = before
held_grows history (Sent frame) accepted before = before
held_grows history (Wrote blocks) accepted before = λ station number bytes here known.
    wrote_if history blocks station number bytes (block_among station number blocks) (before station number bytes here) known
held_grows history (Came arrival) accepted before = λ station number bytes here known.
    came_if (list_any (confirms (Block station number)) (judged_by history arrival)) (last_write history station number) (known_bytes history station number) (may_hold history station number) bytes
    (before station number bytes here) (sym (known-came history arrival station number) ∙ known)
held_grows history (Forgot other) accepted before = λ station number bytes here known. forgot_if (station == other) history other station number bytes refl before here known
held_grows history (Cleared other) accepted before = λ station number bytes here known. cleared_if (station == other) history other station number bytes refl accepted before here known
held_grows history (Unplugged other) accepted before = before

just_held : (groups : List Group) → HeldIfKnown (just_opened groups)
just_held groups = λ station number bytes here known. cc

pub known-held : (history : History) (station number : ℕ) (bytes : List ℕ) → AreAccepted history → is_in_line history station ≡ true → known_bytes history station number ≡ Some bytes
    → may_hold history station number ≡ only bytes
known-held history station number bytes all here known = held-of_accepted HeldIfKnown held_grows just_held history all station number bytes here known
