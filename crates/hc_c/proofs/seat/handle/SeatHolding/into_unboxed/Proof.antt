-- `into_unboxed` renames two words back. There is something to own, since the caller says so.
use Rattle.std.proofs.Common.{List, [], ◌∷◌, ◌++◌, refl, sym, subst}
use Rattle.std.specs.Prelude.{IsSome}
use mir.Val.{Val}
use base.Logic.{SProp, ent, id⊢, snd∗}
use base.Fml.{ftrue, fsep}
use prog.Wp.{WpFn}
use types.Kit.{‵, raw, ◌⊛◌, ◌$◌, ◌∵◌, !, qed, keep, drop, use1, join, split, rewrite, fsplit, fjoin, suffices, done}
use types.Part.{whole, sub, agg}
use types.Run.{stop, fld, no_more, and_then, of_opd, returns, enter}
use types.ByLocal.{alloc_all, pass_all, free_all, look_at, get, get_in, sets}
use contract.Monad.{fact, fact_use}
use contract.Running.{tables}
use denote.Exit.{yes}
use denote.Signature.{type_at}
use denote.Steps.{nothing}
use denote.Triple.Entry.{on_entry}
use denote.Triple.Walked.{says, Stays, stay_dropped, walk_of, ends_at, Goes-dropped}
use Rattle.std.proofs.raw_atomic.Walks.{proved_at}
use Rattle.std.specs.declared.option.Option.{Option}
use Rattle.std_alloc.proofs.BoxSteps.Form.{D, X, word, box_typed}
use Rattle.std_alloc.proofs.BoxSteps.Steps.{box_out, box_in}
use Rattle.hc_c.proofs.Boxed.{some_of}
use Rattle.hc_c.proofs.BoxedEnd.{Own, Held}
use Rattle.hc_c.specs.contracts.seat.handle.SeatHolding.into_unboxed.{ended, clauses}
use Rattle.hc_c.specs.contracts.seat.handle.SeatHolding.into_unboxed.Key.{name as #self}
use Rattle.hc_c.proofs.seat.handle.SeatHolding.into_unboxed.Statement.{statement}
use Rattle.hc_c.proofs.seat.handle.SeatHolding.into_unboxed.Code as code

pub into_unboxed_spec : {M : Type 1} → statement M
into_unboxed_spec 𝓤 𝓛 𝓜 𝓡 wired =
    let H = 𝓛.H in let 𝓣 = tables 𝓤 H 𝓜 𝓡 𝓡.env in let c = clauses 𝓛 𝓜.mem 𝓡.returns in
    let stays : Stays ended.signature.params ended.kept = (stay_dropped Held yes, tt) in
    proved_at 𝓛 ended stays c 𝓜 𝓡 (Goes-dropped 𝓛 0 Held yes (λ κs x f. refl), tt) #self code.function (code.unfolded 𝓤 H 𝓜 𝓡 wired) (λ z are.
    let Post : Val → SProp 𝓤 = (walk_of 𝓛 ended stays c).post z in let Run : List Val → SProp 𝓤 = λ ws. WpFn 𝓤 H 𝓣.C 𝓣.Λ code.function ws Post in
    let holding = z.0.3.0 in let From = type_at Held tt in let To = type_at ended.signature.result tt in
    fact_use 𝓤 (IsSome holding.value) (snd∗ 𝓤 (on_entry 𝓛 ended.signature z.0.0 z.0.1 z.0.3 z.0.4) (fact 𝓤 (IsSome holding.value))) (λ is. let found = some_of holding.value is in
    let own : D Own = record { ptr = holding.at; alloc = holding.alloc; value = found.0 } in let made : To.Denot = record { at = own.ptr; alloc = own.alloc; value = own.value } in
    qed 𝓛 ((‵ ftrue ⊛ ‵ (fsep (From.own_val holding z.0.4.0) ftrue)) ∷ raw (fact 𝓤 (IsSome holding.value)) ∷ []) ∵ split ! $ drop ! $ fsplit ! $
    rewrite ! 0 (λ (value : Option (X Own)). ‵ (From.own_val (record { at = holding.at; alloc = holding.alloc; value = value }) z.0.4.0)) found.1 refl $
    box_out Own ! own z.0.4.0 (λ b o h e ws fits. box_in Own ! own b o own.value e refl $
    let w = word Own h b o in let typed = box_typed Own h b o fits in use1 𝓛 (‵ (To.own_val made (w ∷ []))) (id⊢ 𝓤 _) $ keep ! (0 ∷ []) $
    suffices ! (Run (w ∷ [])) (subst (λ (us : List Val). ent 𝓤 (Run (w ∷ [])) (Run us)) (sym (λ i. ws i ++ [])) (id⊢ 𝓤 (Run (w ∷ [])))) $
    enter ! 𝓣.C 𝓣.Λ code.function (w ∷ []) Post $ alloc_all ! (λ l. pass_all ! refl (typed, tt) $
    -- the place, the allocator, the place at its own type, the two together
    sets ! (of_opd ! (get_in ! (fld ! refl (stop !)) (sub ! 0 refl (whole !)))) refl (tt, tt) $ sets ! (of_opd ! (get_in ! (fld ! refl (stop !)) (sub ! 1 refl (whole !)))) refl fits $
    sets ! (of_opd ! (get ! refl)) refl (tt, tt) $ sets ! (agg ! (and_then ! (get ! refl) (and_then ! (get ! refl) (no_more !)))) refl typed $ returns ! (look_at ! 0 refl) $ free_all ! refl $
    suffices ! _ (ends_at 𝓛 ended stays c z w made (tt, tt) (tt, tt)) $ says ! found.1 $ nothing ! $ nothing ! $ fjoin ! $ join ! $ nothing ! $ join ! $ done !))))
