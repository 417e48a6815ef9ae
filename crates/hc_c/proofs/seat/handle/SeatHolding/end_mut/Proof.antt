-- `end_mut` lends the end at the place, and what C holds follows it. There is one, since the caller says so.
use mathlib.Core.Path.{◌≡◌, refl, sym}
use mathlib.Core.List.{List, [], ◌∷◌}
use Prim.Native.Nat.{ℕ}
use seplogic.Ra.Ura.{Ura}
use base.Fraction.{full_share}
use mir.Raw.{raw as bare}
use mir.Syntax.{Body, named, seq, assign, return, place, copy, rv_opd}
use mir.Val.{Val, vptr}
use base.Logic.{SProp, ent, sep, snd∗, id⊢}
use base.Fml.{GName, Fml, ftrue, fsep, flft}
use types.Logic.{Logic, sem}
use contract.Monad.{fact, fact_use}
use contract.Running.{tables}
use types.Kit.{‵, raw, ◌⊛◌, some, later, at_ret, ◌$◌, ◌∵◌, !, qed, move, keep, drop, use1, join, split, split3, group, pick, rewrite, fsplit, fsplit3, fjoin, fpack, suffices, frame, await, done}
use types.Part.{whole, sub, look_in}
use types.Run.{stop, fld, addr, load, of_opd, first, blocks, exec, returns, enter}
use types.ByLocal.{alloc_all, pass_all, free_all, look_at, get, through, sets, sets_last, env}
use denote.Exit.{no}
use denote.Follow.{follows, Part, lends_Part}
use denote.Memory.{part_at, part_of, raw_all, mem, cell_at}
use denote.Param.{param}
use denote.Param.Laws.{Laws}
use denote.RattleType.{RattleType, owns}
use denote.RawPtr.{block_ptr}
use denote.Ref.{MutRef, mut_vals, mut_Tells}
use denote.Signature.{plain, mut_ref_to}
use denote.Steps.{nothing, opens}
use denote.Triple.Entry.{on_entry}
use denote.Triple.Walked.{says, Stays, stay_dropped, walk_of, ends_at, Goes-spent_ref}
use Rattle.std.specs.Prelude.{IsSome}
use Rattle.std.specs.declared.option.Option.{Option}
use Rattle.std.proofs.alloc.Calls.{token}
use Rattle.std.proofs.raw_atomic.Walks.{proved}
use Rattle.std_alloc.proofs.BoxSteps.Form.{D, X, τ, word, handle}
use Rattle.std_alloc.proofs.BoxSteps.Steps.{box_out, box_in}
use Rattle.hc_c.specs.LendingEnd.{with_end}
use Rattle.hc_c.specs.contracts.seat.ends.TaskEnd as End
use Rattle.hc_c.specs.contracts.seat.handle.SeatHolding as Held
use Rattle.hc_c.proofs.seat.ends.TaskEnd.TheLaws as end_laws
use Rattle.hc_c.proofs.Boxed.{some_of}
use Rattle.hc_c.proofs.BoxedEnd.{Own}
use Rattle.hc_c.specs.contracts.seat.handle.SeatHolding.end_mut as F
use Rattle.hc_c.specs.contracts.seat.handle.SeatHolding.end_mut.Key.{name as #self}
use Rattle.hc_c.proofs.seat.handle.SeatHolding.end_mut.Statement.{statement}
use Rattle.hc_c.proofs.seat.handle.SeatHolding.end_mut.Code as code

abbrev B : RattleType
B = Held.the_row

abbrev R : RattleType
R = End.the_row

abbrev stayed : Stays F.ended.signature.params F.ended.kept
stayed = (stay_dropped (mut_ref_to (0 ∷ []) tt (plain (λ κs. B))) no, tt)

abbrev rest : Body
rest = seq (assign (place 0 []) (rv_opd (copy (place 2 [])))) return

-- what lies at a box's place lies there as the end
as_param : (T : RattleType) → Laws T → (x : T.Denot) (b o : ℕ) → part_at T full_share x b o ≡ part_at (param 0 T) full_share x b o
as_param T L x b o j = part_of (raw_all (L.one j)) T.own_val full_share x b o

-- the same box with this end
abbrev boxed : B.Denot → R.Denot → D Own
boxed d x = record { ptr = d.at; alloc = d.alloc; value = x }

module _ {M : Type 1} {𝓤 : Ura M} (𝓛 : Logic 𝓤) (d : B.Denot) (b o b' o' : ℕ) (hv : Val) where
  -- all of what is held but the end
  abbrev Rest : Fml
  Rest = fsep (fsep (token Own.al d.alloc (bare (τ Own)) (block_ptr b' o')) (handle Own d.alloc hv)) (cell_at full_share B.mir (word Own hv b' o' ∷ []) b o)

  back : d.at ≡ block_ptr b' o' → (w : R.Denot) → ent 𝓤 (sep 𝓤 (sem 𝓛 ((mem R).own_at w b' o')) (sem 𝓛 Rest)) (sem 𝓛 ((mem B).own_at (with_end d w) b o))
  unfolding part_of
  back e w =
      qed 𝓛 (‵ (part_at R full_share w b' o') ∷ ‵ Rest ∷ []) ∵ rewrite ! 0 (λ (P : Fml). ‵ P) (as_param R end_laws.the_row_laws w b' o') refl $ move ! (1 ∷ []) $ fsplit ! $ fsplit ! $ move ! (3 ∷ []) $
      box_in Own ! (boxed d w) b' o' w e refl $ use1 𝓛 (‵ (B.own_val (with_end d w) (word Own hv b' o' ∷ []))) (id⊢ 𝓤 _) $ move ! (1 ∷ 0 ∷ []) $ fjoin ! $
      fpack ! (List Val) (λ us. fsep (cell_at full_share B.mir us b o) (B.own_val (with_end d w) us)) (word Own hv b' o' ∷ []) $ done !

pub end_mut_spec : {M : Type 1} → statement M
end_mut_spec 𝓤 𝓛 𝓜 𝓡 wired =
    let H = 𝓛.H in let 𝓣 = tables 𝓤 H 𝓜 𝓡 𝓡.env in let c = F.clauses 𝓛 𝓜.mem 𝓡.returns in
    proved 𝓛 F.ended stayed c 𝓜 𝓡 (Goes-spent_ref 𝓛 1 (0 ∷ []) tt (plain (λ κs. B)), tt) #self code.function (code.unfolded 𝓤 H 𝓜 𝓡 wired)
    (λ κs. (mut_vals, tt)) (λ κs. (mut_Tells (named 0) κs.0 B, tt)) (λ κs qs bounds a g are.
    let κ = κs.0 in let q = qs.0 in let self = a.0 in let d = self.now in let b = self.ref_ptr.0 in let o = self.ref_ptr.1 in let γ = self.ghost_name in
    let y : (walk_of 𝓛 F.ended stayed c).Ghost = ((κs, qs, bounds, a, (mut_vals self, tt)), g) in let Post : Val → SProp 𝓤 = (walk_of 𝓛 F.ended stayed c).post y in
    fact_use 𝓤 (IsSome d.value) (snd∗ 𝓤 (on_entry 𝓛 F.signature κs qs a (mut_vals self, tt)) (fact 𝓤 (IsSome d.value))) (λ is. let found = some_of d.value is in let x = found.0 in
    let code_of = B.coded.code d in
    qed 𝓛 (((‵ (flft κ q) ⊛ ‵ ftrue) ⊛ ‵ (owns (MutRef (named 0) κ B ∷ []) (self, tt) (vptr b o ∷ [], tt))) ∷ raw (fact 𝓤 (IsSome d.value)) ∷ []) ∵
    enter ! 𝓣.C 𝓣.Λ code.function (vptr b o ∷ []) Post $ alloc_all ! (λ l. pass_all ! refl ((tt, tt), tt) $ let En = env code.function.locals l in
    split ! $ split ! $ move ! (2 ∷ []) $ fsplit ! $ fsplit3 ! $ drop ! $ move ! (0 ∷ 1 ∷ 3 ∷ []) $
    opens ! tt B {h = d} b o (λ vs. move ! (1 ∷ []) $ rewrite ! 0 (λ (value : Option (X Own)). ‵ (B.own_val (record { at = d.at; alloc = d.alloc; value = value }) vs)) found.1 refl $
    box_out Own ! (boxed d x) vs (λ b' o' hv e ws fits. rewrite ! 3 (λ (us : List Val). ‵ (cell_at full_share B.mir us b o)) ws refl $
    -- [the end; the token; the allocator; the words; the open borrow; obs; auth; true; no other token; that there is one]
    first ! $ blocks ! $ sets ! (of_opd ! (load ! (through ! refl (fld ! refl (stop !))) (look_in ! 3 (sub ! 0 refl (whole !))))) refl (tt, tt) $ sets ! (of_opd ! (get ! refl)) refl (tt, tt) $
    sets_last ! (addr ! (through ! refl (stop !))) refl (tt, tt) $ exec ! 𝓣.C 𝓣.Λ En rest (at_ret En Post) $ sets ! (of_opd ! (get ! refl)) refl (tt, tt) $
    rewrite ! 0 (λ (P : Fml). ‵ P) (sym (as_param R end_laws.the_row_laws x b' o')) refl $ move ! (1 ∷ 2 ∷ []) $ fjoin ! $ move ! (0 ∷ 2 ∷ []) $ fjoin ! $ move ! (2 ∷ 3 ∷ 4 ∷ 1 ∷ 0 ∷ []) $ group ! 5 $
    use1 𝓛 (later (some (λ (γ' : GName). raw (Part 𝓛 B R (with_end d) (named 0) κ q b o b' o' γ (sem 𝓛 (Rest 𝓛 d b o b' o' hv)) (back 𝓛 d b o b' o' hv e) x γ'))))
    (lends_Part 𝓛 B R (with_end d) (named 0) κ q b o b' o' γ (sem 𝓛 (Rest 𝓛 d b o b' o' hv)) (back 𝓛 d b o b' o' hv e) code_of code_of x) $ await ! tt $ pick ! (λ γ'.
    use1 𝓛 (‵ ((MutRef (named 0) κ R).own_val (record { ref_ptr = (b', o'); ghost_name = γ'; now = x }) (vptr b' o' ∷ [])) ⊛ ‵ (flft κ q) ⊛ ‵ (follows B R γ γ' (with_end d))) (id⊢ 𝓤 _) $ split3 ! $
    returns ! (look_at ! 0 refl) $ free_all ! refl $ keep ! (0 ∷ 1 ∷ 2 ∷ []) $
    suffices ! _ (ends_at 𝓛 F.ended stayed c y (vptr b' o') (record { ref_ptr = (b', o'); ghost_name = γ'; now = x }) (tt, tt) (tt, tt)) $
    nothing ! $ nothing ! $ fjoin ! $ join ! $ nothing ! $ move ! (2 ∷ 0 ∷ []) $ join ! $ join ! $ frame ! $ says ! found.1 $ done !))))))
