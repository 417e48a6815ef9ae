-- Calls on C's handle. A contract says something of the handle's line if the handle holds one and the answer is not that
-- another call runs.
use Rattle.std.specs.Prelude.{◌≡◌, ◌≢◌, ◌==◌, ℕ, if◌then◌else◌, IfSome, MatchOption, Option, Some}
use Rattle.hc_events.specs.Entries.{History}
use Rattle.hc_c.specs.declared.embedded.Embedded.{Embedded}
use Rattle.hc_c.specs.declared.handle.Handle.{Handle}
use Rattle.hc_c.specs.declared.numbers.TheConstants.{BUSY, CLOSED, DONE, MISUSED, NOTHING}
use Rattle.hc_c.specs.Embedded.{embedded_history}

-- the answer of a handle that holds no line: 255 if its mark is 0, so that it is closed; 254 with any other mark, since it was
-- never zeroed
abbrev pub no_line_number : ℕ → ℕ
no_line_number mark = if mark == 0 then CLOSED else MISUSED

-- the handle has the same mark, and the line that it holds, if any, is unchanged
abbrev pub HoldsAsBefore : Handle → Handle → Type 0
HoldsAsBefore before after = (after.mark ≡ before.mark) × (after.holding.value ≡ before.holding.value)

-- if the handle had a line and no other call ran, this holds for the line
abbrev pub IfServed : Handle → ℕ → (Embedded → Type 0) → Type 0
IfServed handle number says = IfSome handle.holding.value (λ old. number ≢ BUSY → says old)

-- if the handle had a line and no other call ran, this holds for the history of the line
abbrev pub IfAnswered : Handle → ℕ → (History → Type 0) → Type 0
IfAnswered handle number says = IfServed handle number (λ old. says (embedded_history old))

-- if the handle had a line and no other call ran, this holds for the line before the call and after it
abbrev pub IfServedBoth : Handle → Handle → ℕ → (Embedded → Embedded → Type 0) → Type 0
IfServedBoth before after number says = IfSome before.holding.value (λ old. IfSome after.holding.value (λ new. number ≢ BUSY → says old new))

-- if the answer is this number, this holds for the history of the handle's line
abbrev pub IfAnsweredWith : ℕ → Handle → ℕ → (History → Type 0) → Type 0
IfAnsweredWith wanted handle number says = number ≡ wanted → IfSome handle.holding.value (λ old. says (embedded_history old))

-- if the answer is this number, this holds for the handle's line
abbrev pub IfServedWith : ℕ → Handle → ℕ → (Embedded → Type 0) → Type 0
IfServedWith wanted handle number says = number ≡ wanted → IfSome handle.holding.value says

-- the handle's line after the call is this step of the line before it
abbrev pub Becomes : Handle → Handle → (Embedded → Embedded) → Type 0
Becomes before after step = IfSome before.holding.value (λ old. after.holding.value ≡ Some (step old))

-- a thing is found and its C form is written, or there is none
abbrev pub GivesFound : {X Y : Type 0} → Option X → (X → Y) → ℕ → Y → Type 0
GivesFound found as_c number given = MatchOption found (number ≡ NOTHING) (λ x. (number ≡ DONE) × (given ≡ as_c x))
