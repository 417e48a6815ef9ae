-- Where register writes along the line end.
use Rattle.std.proofs.Common.{◌≡◌, ◌+◌, ℕ, zero, suc, Bool, true, false, not, [], ◌∷◌, length, refl, sym, subst, inl, inr, arith, add-one, is_none, eqb}
use Rattle.std.specs.Prelude.{◌⊎◌, nat_lt}
use Rattle.std.proofs.lemmas.Bool.{eqb-true, ltb-true}
use Rattle.std.proofs.lemmas.List.{nil_from_length}
use Rattle.hc_frames.specs.declared.limits.TheConstants.{SETUP_SERIAL}
use Rattle.hc_records.specs.Lists.{lowest}
use Rattle.hc_events.specs.Entries.{History}
use Rattle.hc_events.specs.Owed.{owed_blocks}
use Rattle.hc_events.specs.Points.{next_serial}
use Rattle.hc_events.specs.Steps.{has_serials}
use Rattle.hc_program.specs.Laws.{HasNoWrite, MissesOne, ProgrammingEnds}
use Rattle.hc_program.specs.Programs.{Programmed, can_write, programming_is_done, one_block_more, programmed, serials_left_count, block_programmed}
use Rattle.hc_program.specs.Standings.{SessionState}
use Rattle.hc_program.specs.Stops.{WritesAreDone}
use Rattle.hc_program.proofs.Programming.{ended, serials-fall, step}

-- why no write can be sent

either : {F : Type 0} (a b : Bool) (x y : F) → is_none (lowest ((a, x) ∷ (b, y) ∷ [])) ≡ false → (a ≡ true) ⊎ (b ≡ true)
either true b x y e = inl refl
either false true x y e = inr refl
either false false x y e = cc

once : (b : Bool) → not (not b) ≡ true → b ≡ true
once true e = refl
once false e = cc

has-none : (history : History) → (eqb (length (owed_blocks history)) 0 ≡ true) ⊎ (not (has_serials history 1) ≡ true) → HasNoWrite history
has-none history (inl none) = inl (nil_from_length (owed_blocks history) (eqb-true (length (owed_blocks history)) 0 none))
has-none history (inr spent) =
    let history_last = ltb-true SETUP_SERIAL (next_serial history + 1) (once (nat_lt SETUP_SERIAL (next_serial history + 1)) spent) in
    inr (omega (arith, history_last))

no-write : (history : History) → can_write history ≡ false → HasNoWrite history
no-write history cannot = has-none history (either (eqb (length (owed_blocks history)) 0) (not (has_serials history 1)) _ _ cannot)

-- a write before others

first-of : (n : ℕ) (s t : SessionState) → can_write s.history ≡ true → programming_is_done s ≡ true → WritesAreDone n (block_programmed s) t → WritesAreDone (suc n) s t
first-of zero s t can done are = (s, refl, can, done, are)
first-of (suc n) s t can done (m, are, can_next, done_next, is) = (m, first-of n s m can done are, can_next, done_next, is)

written-first : (n : ℕ) (s t : SessionState) → can_write s.history ≡ true → programming_is_done s ≡ true → WritesAreDone n (block_programmed s) t → WritesAreDone (n + 1) s t
written-first n s t can done are = rw add-one (first-of n s t can done are)

-- how programming ends

abbrev Ends : SessionState → Programmed → Type 0
Ends s p = (WritesAreDone p.written s p.session_state × HasNoWrite p.session_state.history) ⊎ MissesOne s p

ends-later : (s : SessionState) (p : Programmed) → can_write s.history ≡ true → programming_is_done s ≡ true → Ends (block_programmed s) p → Ends s (one_block_more p)
ends-later s p can done (inl (are, none)) = inl (written-first p.written s p.session_state can done are, none)
ends-later s p can done (inr m) = inr (record { before = m.before; done = written-first p.written s m.before can done m.done; sent = m.sent; missed = m.missed; left = m.left })

ends-by : (s : SessionState) (can done : Bool) → can_write s.history ≡ can → programming_is_done s ≡ done → (can_write s.history ≡ true → Ends (block_programmed s) (programmed (block_programmed s))) → Ends s (programmed s)
ends-by s false done cannot is later = subst (Ends s) (sym (ended s cannot)) (inl (refl, no-write s.history cannot))
ends-by s true false can missed later = subst (Ends s) (sym (step s false can missed)) (inr (record { before = s; done = refl; sent = can; missed = missed; left = refl }))
ends-by s true true can done later = subst (Ends s) (sym (step s true can done)) (ends-later s (programmed (block_programmed s)) can done (later can))

ends-within : (n : ℕ) (s : SessionState) → serials_left_count s.history ≡ n → Ends s (programmed s)
ends-within zero s none = ends-by s (can_write s.history) (programming_is_done s) refl refl (λ can. let fall = serials-fall s can in absurd (omega (arith, none, fall)))
ends-within (suc n) s left =
    ends-by s (can_write s.history) (programming_is_done s) refl refl
    (λ can. let fall = serials-fall s can in ends-within n (block_programmed s) (omega (arith, left, fall)))

pub programming-ends : ProgrammingEnds
programming-ends s = ends-within (serials_left_count s.history) s refl
