-- Register writes along the line, one after another.
use Rattle.std.proofs.Common.{◌≡◌, ◌<◌, ◌≤◌, ◌+◌, ◌-◌, ◌++◌, ℕ, zero, suc, Bool, true, false, not, List, [], ◌∷◌, drop, length, take, refl, sym, ap, ◌∙◌, inl, inr, arith, Some, None, Ok, Err, IfErr, IfOk, OnOk, add-one, is_none, eqb}
use Rattle.std.specs.Prelude.{Option, Result, if◌then◌else◌, nat_lt}
use Rattle.std.proofs.lemmas.Bool.{ltb-false}
use Rattle.std.proofs.lemmas.List.{length-drop, take_at}
use Rattle.std.proofs.lemmas.Grind.{common_steps}
use Rattle.hc_core.specs.Written.{HoldsWrite}
use Rattle.hc_events.specs.declared.answer.Answer.TheVariants as answer
use Rattle.hc_frames.specs.declared.limits.TheConstants.{SETUP_SERIAL}
use Rattle.hc_frames.specs.declared.reading.faults.FrameFault.{FrameFault}
use Rattle.hc_records.specs.Lists.{lowest}
use Rattle.hc_registers.specs.Blocks.{LineBlock}
use Rattle.hc_events.specs.declared.faults.CoreFault.{CoreFault}
use Rattle.hc_events.specs.Arrivals.{Arrival, arrival_in}
use Rattle.hc_events.specs.Calls.{write_into_faults, write_size}
use Rattle.hc_events.specs.Entries.{History}
use Rattle.hc_events.specs.Owed.{owed_blocks}
use Rattle.hc_events.specs.Points.{next_serial}
use Rattle.hc_events.specs.Steps.{Arrives, SendsWrite, answer_to, entries_after, has_serials, unless_fault, with_arrival, with_write, write_faults}
use Rattle.hc_events.proofs.lemmas.Answers.{twice}
use Rattle.hc_segment.specs.Line.{frame_through}
use Rattle.hc_program.specs.Programs.{Programmed, WritesOnce, after_write, can_write, programming_is_done, programmed, programmed_within, says_done, serials_left_count, write_back, write_frame, write_in, write_passed, write_sent, block_programmed}
use Rattle.hc_program.specs.Standings.{SessionState, passed, stepped}
use Rattle.hc_program.specs.Stops.{WritesAreDone, StopsInWrite}
use Rattle.hc_program.specs.declared.stops.RefusedGrowth.{RefusedGrowth}
use Rattle.hc_program.specs.declared.stops.RefusedGrowth.TheVariants.{Memory}

none_is : {A : Type 0} (o : Option A) → is_none o ≡ true → o ≡ None
none_is None e = refl
none_is (Some x) e = cc

neither : {F : Type 0} (a b : Bool) (x y : F) → lowest ((a, x) ∷ (b, y) ∷ []) ≡ None → (a ≡ false) × (b ≡ false)
neither true b x y e = cc
neither false true x y e = cc
neither false false x y e = (refl, refl)

sent-serial : (history : History) (blocks : List LineBlock) → eqb (length blocks) 0 ≡ false → next_serial (with_write history blocks) ≡ next_serial history + 1
sent-serial history [] some = cc
sent-serial history (block ∷ blocks) some = refl

arrival-serial : (history : History) (found : Result Arrival FrameFault) → next_serial (with_arrival history found) ≡ next_serial history
arrival-serial history (Err fault) = refl
arrival-serial history (Ok arrival) = refl

-- a write that can be sent takes a serial, one of those that are left

no-faults : (history : History) → can_write history ≡ true → lowest (write_faults history (owed_blocks history)) ≡ None
no-faults history can = none_is (lowest (write_faults history (owed_blocks history))) can

taken : (history : History) → can_write history ≡ true → next_serial (entries_after history SendsWrite) ≡ next_serial history + 1
taken history can =
    let none = no-faults history can in
    let some = (neither (eqb (length (owed_blocks history)) 0) (not (has_serials history 1)) _ _ none).0 in
    ap (λ (found : Option CoreFault). next_serial (unless_fault found history (with_write history (owed_blocks history)))) none ∙ sent-serial history (owed_blocks history) some

is-left : (history : History) → can_write history ≡ true → next_serial history + 1 ≤ SETUP_SERIAL
is-left history can =
    let left = (neither (eqb (length (owed_blocks history)) 0) (not (has_serials history 1)) _ _ (no-faults history can)).1 in
    ltb-false SETUP_SERIAL (next_serial history + 1) (twice (nat_lt SETUP_SERIAL (next_serial history + 1)) left)

one-fewer : (most serial : ℕ) → serial + 1 ≤ most → most - serial ≡ suc (most - (serial + 1))
one-fewer most serial within = omega arith

pub serials-fall : (s : SessionState) → can_write s.history ≡ true → serials_left_count s.history ≡ suc (serials_left_count (block_programmed s).history)
unfolding block_programmed
serials-fall s can =
    one-fewer SETUP_SERIAL (next_serial s.history) (is-left s.history can)
    ∙ ap (λ (n : ℕ). suc (SETUP_SERIAL - n)) (sym (arrival-serial (write_sent s).history (arrival_in (write_back s)) ∙ taken s.history can))

-- one write more, and how programming ends

within-step : (most : ℕ) (s : SessionState) → can_write s.history ≡ true
    → programmed_within (suc most) s ≡ after_write (programming_is_done s) (block_programmed s) (programmed_within most (block_programmed s))
unfolding programmed_within
within-step most s can = ap (λ (b : Bool). if b then after_write (programming_is_done s) (block_programmed s) (programmed_within most (block_programmed s)) else record { session_state = s; written = 0 }) can

pub step : (s : SessionState) (done : Bool) → can_write s.history ≡ true → programming_is_done s ≡ done → programmed s ≡ after_write done (block_programmed s) (programmed (block_programmed s))
unfolding programmed
step s done can is =
    ap (λ (n : ℕ). programmed_within n s) (serials-fall s can)
    ∙ within-step (serials_left_count (block_programmed s).history) s can
    ∙ ap (λ (b : Bool). after_write b (block_programmed s) (programmed_within (serials_left_count (block_programmed s).history) (block_programmed s))) is

within-end : (most : ℕ) (s : SessionState) → can_write s.history ≡ false → programmed_within most s ≡ record { session_state = s; written = 0 }
unfolding programmed_within
within-end zero s cannot = refl
within-end (suc most) s cannot = ap (λ (b : Bool). if b then after_write (programming_is_done s) (block_programmed s) (programmed_within most (block_programmed s)) else record { session_state = s; written = 0 }) cannot

pub ended : (s : SessionState) → can_write s.history ≡ false → programmed s ≡ record { session_state = s; written = 0 }
unfolding programmed
ended s cannot = within-end (serials_left_count s.history) s cannot

-- with so many done before
abbrev pub plus : ℕ → Programmed → Programmed
plus count p = record { session_state = p.session_state; written = count + p.written }

plus-none : (p : Programmed) → plus 0 p ≡ p
plus-none p = let e : 0 + p.written ≡ p.written = omega arith in ap (λ (n : ℕ). record { session_state = p.session_state; written = n }) e

pub begun : (s : SessionState) → plus 0 (programmed s) ≡ programmed s
begun s = plus-none (programmed s)

pub one-done : (count : ℕ) (s next : SessionState) (all : Programmed) → can_write s.history ≡ true → programming_is_done s ≡ true → next ≡ block_programmed s → plus count (programmed s) ≡ all → plus (count + 1) (programmed next) ≡ all
one-done count s next all can done is whole =
    let p = programmed (block_programmed s) in
    let e : count + 1 + p.written ≡ count + (p.written + 1) = omega arith in
    ap (λ (t : SessionState). plus (count + 1) (programmed t)) is
    ∙ ap (λ (n : ℕ). record { session_state = p.session_state; written = n }) e
    ∙ ap (plus count) (sym (step s true can done))
    ∙ whole

ends-at : (count : ℕ) (s next : SessionState) (all : Programmed) → programmed s ≡ record { session_state = next; written = 0 } → plus count (programmed s) ≡ all → all ≡ record { session_state = next; written = count }
ends-at count s next all is whole =
    let e : count + 0 ≡ count = omega arith in
    sym whole ∙ ap (plus count) is ∙ ap (λ (n : ℕ). record { session_state = next; written = n }) e

none-sent : (count : ℕ) (s next : SessionState) (all : Programmed) → can_write s.history ≡ false → next ≡ s → plus count (programmed s) ≡ all → all ≡ record { session_state = next; written = count }
none-sent count s next all cannot is whole = ends-at count s next all (ended s cannot ∙ ap (λ (t : SessionState). record { session_state = t; written = 0 }) (sym is)) whole

missed : (count : ℕ) (s next : SessionState) (all : Programmed) → can_write s.history ≡ true → programming_is_done s ≡ false → next ≡ block_programmed s → plus count (programmed s) ≡ all
    → all ≡ record { session_state = next; written = count }
missed count s next all can not_done is whole = ends-at count s next all (step s false can not_done ∙ ap (λ (t : SessionState). record { session_state = t; written = 0 }) (sym is)) whole

pub fewer : (count : ℕ) (s next : SessionState) → can_write s.history ≡ true → next ≡ block_programmed s → count + serials_left_count s.history ≤ SETUP_SERIAL → count + 1 + serials_left_count next.history ≤ SETUP_SERIAL
fewer count s next can is within =
    let falls = serials-fall s can in
    let same = ap (λ (t : SessionState). serials_left_count t.history) is in
    omega (arith, falls, same)

pub falls : (s next : SessionState) → can_write s.history ≡ true → next ≡ block_programmed s → serials_left_count next.history < serials_left_count s.history
falls s next can is =
    let fall = serials-fall s can in
    let same = ap (λ (t : SessionState). serials_left_count t.history) is in
    omega (arith, fall, same)

-- one write: its frame, and what its call leaves

frame-answer_given : (history : History) (text : List ℕ) → answer_to history SendsWrite ≡ answer.WriteSent text → write_frame history ≡ text
unfolding write_frame
frame-answer_given history text is = ap write_in is

text-length : (whole text rest : List ℕ) (size all : ℕ) → whole ≡ text ++ rest → length whole ≡ all → length rest ≡ all - size → size ≤ all → length text ≡ size
text-length whole text rest size all is has left fits = grind (arith, common_steps)

pub frame-is : (history : History) (old new : List ℕ) (size : ℕ) → HoldsWrite history old new size → length new ≡ length old → size ≤ length old → take size new ≡ write_frame history
frame-is history old new size holds unchanged fits =
    let counts = text-length new holds.text (drop size old) size (length old) holds.holds unchanged (length-drop size old) fits in
    ap (take size) holds.holds ∙ take_at holds.text (drop size old) size counts ∙ sym (frame-answer_given history holds.text holds.answer)

-- the next write is sent, and its frame goes along the line
pub record IsPassed (s sent gone : SessionState) (frame back : List ℕ) : Type 0 where
  pub framed : frame ≡ write_frame s.history
  pub is_sent : sent ≡ write_sent s
  pub is_gone : gone ≡ passed sent (frame ∷ [])
  pub is_back : back ≡ frame_through sent.machines frame

passed-is : (s sent gone : SessionState) (frame : List ℕ) → frame ≡ write_frame s.history → sent ≡ write_sent s → gone ≡ passed sent (frame ∷ []) → gone ≡ write_passed s
passed-is s sent gone frame f is went = went ∙ ap (λ (t : SessionState). passed t (frame ∷ [])) is ∙ ap (λ (bytes : List ℕ). passed (write_sent s) (bytes ∷ [])) f

back-is : (s sent gone : SessionState) (frame back : List ℕ) → IsPassed s sent gone frame back → back ≡ write_back s
back-is s sent gone frame back p = p.is_back ∙ ap (λ (t : SessionState). frame_through t.machines frame) p.is_sent ∙ ap (frame_through s.machines) p.framed

written-is : (s sent gone next : SessionState) (frame back : List ℕ) → IsPassed s sent gone frame back → next ≡ stepped gone (Arrives back) → next ≡ block_programmed s
unfolding block_programmed
written-is s sent gone next frame back p came =
    came
    ∙ ap (λ (t : SessionState). stepped t (Arrives back)) (passed-is s sent gone frame p.framed p.is_sent p.is_gone)
    ∙ ap (λ (bytes : List ℕ). stepped (write_passed s) (Arrives bytes)) (back-is s sent gone frame back p)

done-is : (s sent gone : SessionState) (frame back : List ℕ) (done : Bool) → IsPassed s sent gone frame back → done ≡ says_done (answer_to gone.history (Arrives back)) → programming_is_done s ≡ done
unfolding programming_is_done
done-is s sent gone frame back done p d =
    ap (λ (bytes : List ℕ). says_done (answer_to (write_sent s).history (Arrives bytes))) (sym (back-is s sent gone frame back p))
    ∙ ap (λ (t : SessionState). says_done (answer_to t.history (Arrives back))) (sym (passed-is s sent gone frame p.framed p.is_sent p.is_gone))
    ∙ sym d

once : (s sent gone next : SessionState) (frame back : List ℕ) (done : Bool) → can_write s.history ≡ true → IsPassed s sent gone frame back → done ≡ says_done (answer_to gone.history (Arrives back))
    → next ≡ stepped gone (Arrives back) → WritesOnce s done next
once s sent gone next frame back true can p d came = (can, done-is s sent gone frame back true p d, written-is s sent gone next frame back p came)
once s sent gone next frame back false can p d came = inr (can, done-is s sent gone frame back false p d, written-is s sent gone next frame back p came)

-- the same of what was answered
pub once-ok : {E : Type 0} (result : Result Bool E) (s sent gone next : SessionState) (frame back : List ℕ) → can_write s.history ≡ true → IsPassed s sent gone frame back
    → IfOk result (λ done. done ≡ says_done (answer_to gone.history (Arrives back))) → OnOk result (next ≡ stepped gone (Arrives back)) → IfOk result (λ done. WritesOnce s done next)
once-ok (Ok done) s sent gone next frame back can p d came = once s sent gone next frame back done can p d came
once-ok (Err refused_growth) s sent gone next frame back can p d came = tt

pub stops-err : (result : Result Bool RefusedGrowth) (s sent gone next : SessionState) (frame back : List ℕ) → IsPassed s sent gone frame back → IfErr result (λ refused_growth. (refused_growth ≡ Memory) × (next ≡ gone))
    → IfErr result (λ refused_growth. StopsInWrite s refused_growth next)
stops-err (Ok done) s sent gone next frame back p stays = tt
stops-err (Err refused_growth) s sent gone next frame back p stays = let (is, same) = stays in inr (is, same ∙ passed-is s sent gone frame p.framed p.is_sent p.is_gone)

-- a write that wasn't sent
pub cannot : (history : History) (fault : CoreFault) → lowest (write_faults history (owed_blocks history)) ≡ Some fault → can_write history ≡ false
cannot history fault refused = ap is_none refused

pub none-accepted : (history : History) → lowest (write_faults history (owed_blocks history)) ≡ None → can_write history ≡ true
none-accepted history none = ap is_none none

-- a write that is accepted fits

third : {F : Type 0} (a b c : Bool) (x y z : F) → lowest ((a, x) ∷ (b, y) ∷ (c, z) ∷ []) ≡ None → c ≡ false
third true b c x y z e = cc
third false true c x y z e = cc
third false false true x y z e = cc
third false false false x y z e = refl

pub write-fits : (history : History) (bytes size : ℕ) → lowest (write_into_faults history bytes) ≡ None → size ≡ write_size (owed_blocks history) → size ≤ bytes
write-fits history bytes size none is =
    let needed = write_size (owed_blocks history) in
    let fits = ltb-false bytes needed (third (eqb (length (owed_blocks history)) 0) (not (has_serials history 1)) (nat_lt bytes needed) _ _ _ none) in
    omega (arith, is, fits)

-- what a write that was done says, and one that wasn't

pub done-so : (s next : SessionState) (done : Bool) → done ≡ true → WritesOnce s done next → (can_write s.history ≡ true) × (programming_is_done s ≡ true) × (next ≡ block_programmed s)
done-so s next true e one = one
done-so s next false e one = cc

pub ended-so : (count : ℕ) (s next : SessionState) (done : Bool) (all : Programmed) → done ≡ false → WritesOnce s done next → plus count (programmed s) ≡ all → all ≡ record { session_state = next; written = count }
ended-so count s next true all e one whole = cc
ended-so count s next false all e (inl (can, is)) whole = none-sent count s next all can is whole
ended-so count s next false all e (inr (can, not_done, is)) whole = missed count s next all can not_done is whole

pub one-written : (count : ℕ) (first s next : SessionState) → WritesAreDone count first s → can_write s.history ≡ true → programming_is_done s ≡ true → next ≡ block_programmed s → WritesAreDone (count + 1) first next
one-written count first s next are can done is = rw add-one (s, are, can, done, is)

pub few-first : (n : ℕ) → 0 + (SETUP_SERIAL - n) ≤ SETUP_SERIAL
few-first n = omega arith

pub counted : (count : ℕ) (s next : SessionState) → can_write s.history ≡ true → next ≡ block_programmed s → count + serials_left_count s.history ≤ SETUP_SERIAL → count + 1 ≤ SETUP_SERIAL
counted count s next can is within = let less = fewer count s next can is within in omega (arith, less)
