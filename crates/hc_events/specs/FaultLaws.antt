-- The numbers of the core's faults, as they are listed.
use Rattle.std.specs.Prelude.{◌≡◌, ◌≢◌, ℕ, ◌+◌, [], ◌∷◌, map}
use Rattle.hc_records.specs.EditFault.{edit_fault_number}
use Rattle.hc_records.specs.declared.faults.EditFault.{EditFault}
use Rattle.hc_records.specs.declared.faults.EditFault.TheVariants as edit
use Rattle.hc_frames.specs.declared.reading.faults.FrameFault.{FrameFault}
use Rattle.hc_frames.specs.Arrived.{fault_number}
use Rattle.hc_events.specs.declared.faults.CoreFault.{CoreFault}
use Rattle.hc_events.specs.declared.faults.CoreFault.TheVariants.{StalePost, PostLength, Unprogrammed, NothingOwed, SerialsSpent, Memory, Room, Waits, UnderWay}
use Rattle.hc_events.specs.Faults.{core_fault_number, edit_refusal, frame_refusal}

-- 1 to 13, and 30 to 35, are the numbers that edits' faults have, 15 to 19 the core's own, 20 to 27 those of frames' faults from 1 on, 28 `Memory`, 29 `Room`, 36 `Waits`, 37 `UnderWay`
pub record AreNumbered (owed needed : ℕ) : Type 0 where
  pub edits : (fault : EditFault) → fault ≢ edit.Memory → core_fault_number (edit_refusal fault) ≡ edit_fault_number fault
  pub own :
      map core_fault_number (StalePost ∷ PostLength ∷ Unprogrammed owed ∷ NothingOwed ∷ SerialsSpent ∷ [])
      ≡ 15 ∷ 16 ∷ 17 ∷ 18 ∷ 19 ∷ []
  pub frames : (fault : FrameFault) → core_fault_number (frame_refusal fault) ≡ 19 + fault_number fault
  pub memory : core_fault_number (edit_refusal edit.Memory) ≡ 28
  pub wants : map core_fault_number (Memory ∷ Room needed ∷ []) ≡ 28 ∷ 29 ∷ []
  pub waits : (task blocks outside : ℕ) → core_fault_number (Waits task blocks outside) ≡ 36
  pub under_way : core_fault_number UnderWay ≡ 37
  pub unused : (fault : CoreFault) → core_fault_number fault ≢ 14

-- the core's faults have just these numbers
abbrev pub FaultsAreNumbered : Type 0
FaultsAreNumbered = (owed needed : ℕ) → AreNumbered owed needed
