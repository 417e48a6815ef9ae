-- `into_box` hands place and allocator to `from_raw`, with what they own.
use Rattle.std.proofs.Common.{◌≡◌, List, [], ◌∷◌, ◌++◌, refl, sym, ap, subst}
use mir.Syntax.{a_type, dcons, dnil}
use mir.MapTy.{inst_fn}
use mir.Val.{Val, vptr}
use base.Logic.{SProp, ent, id⊢}
use base.Fml.{ftrue, fsep, flft}
use contract.BorrowLft.{◌⊑◌}
use contract.Monad.{fact}
use contract.Running.{tables}
use prog.Wp.{WpFn}
use types.Kit.{‵, raw, ◌⊛◌, some, later, at_ret, ◌$◌, ◌∵◌, !, qed, by, move, keep, drop, split, split3, join, fsplit, fjoin, pick, suffices, use1, await, rewrite, feq_i}
use types.Run.{stop, fld, of_opd, no_more, and_then, first, blocks, exec, returns, enter}
use types.ByLocal.{alloc_all, pass_all, free_all, look_at, get, get_in, sets, lands_last, env}
use types.Part.{sub, whole}
use denote.Exit.{no}
use denote.Param.{bounded}
use denote.RawPtr.{block_ptr}
use denote.Signature.{plain}
use denote.Steps.{nothing, only}
use denote.Triple.Call.{calls_at_last}
use denote.Triple.Clauses.{Lasts, lasts}
use denote.Triple.Spec.{triple_of}
use denote.Triple.Walked.{Stays, stay_dropped, walk_of}
use Rattle.std.proofs.alloc.Calls.{token, Goes-blank}
use Rattle.std.proofs.raw_atomic.Walks.{proved_at, leaves}
use Rattle.core.proofs.alloc.Shapes.{after}
use Rattle.core.proofs.atomic.Steps.{fm}
use Rattle.std_alloc.specs.Box.Ownership.{box_owns}
use Rattle.std_alloc.proofs.BoxSteps.Form.{Bx, B, D, P, R, box_ty, box_typed, word}
use Rattle.std_alloc.proofs.BoxSteps.Steps.{box_out, box_in}
use Rattle.std_alloc.specs.contracts.boxed.Box.from_raw as makes
use Rattle.std_alloc.proofs.boxed.Box.from_raw.Met.{met}
use Rattle.hc_c.specs.contracts.handle.unboxed.Unboxed as unboxed
use Rattle.hc_c.specs.contracts.handle.unboxed.Unboxed.into_box.{ended, clauses}
use Rattle.hc_c.specs.contracts.handle.unboxed.Unboxed.into_box.Key.{name as #self}
use Rattle.hc_c.proofs.handle.unboxed.Unboxed.into_box.Statement.{statement}
use Rattle.hc_c.proofs.handle.unboxed.Unboxed.into_box.Code as code

pub into_box_spec : {M : Type 1} → statement M
into_box_spec 𝓤 𝓛 𝓜 𝓡 wired X A L LA g d dx dd allocator glue glued =
    let H = 𝓛.H in let 𝓣 = tables 𝓤 H 𝓜 𝓡 𝓡.env in let c = clauses X A g d dx dd 𝓛 𝓜.mem 𝓡.returns in let ends = ended X A g d dx dd in
    let E : Bx = record { row = X; laws = L; al = record { row = A; laws = LA; g = g; d = d; drops = dd } } in
    let at_types = bounded (a_type ∷ a_type ∷ []) (X, (A, tt)) (dcons d (dcons dx (dcons dd dnil))) in let fn = inst_fn at_types code.function in
    let From = plain (λ _. unboxed.the_row (R E) (P E) g) in let stays : Stays ends.signature.params ends.kept = (stay_dropped From no, tt) in
    let making = triple_of 𝓛 (makes.signature X A g d dd) (makes.spec X A g d dd 𝓛 𝓜.mem 𝓡.returns) in
    let known = met 𝓤 𝓛 𝓜 𝓡 (code.calls-std_alloc::boxed::Box::from_raw 𝓡.env wired) X A L LA g d dd allocator glued in
    proved_at 𝓛 ends stays c 𝓜 𝓡 (Goes-blank 𝓛 2 From no (λ κs x f. tt), tt) (#self at_types) fn (code.unfolded 𝓤 H 𝓜 𝓡 wired (X, (A, tt)) d dx dd) (λ z are.
    let κs = z.0.0 in let qs = z.0.1 in let a = z.0.3.0.alloc in let x = z.0.3.0.value in let own : D E = record { ptr = z.0.3.0.at; alloc = a; value = x } in
    let Post : Val → SProp 𝓤 = (walk_of 𝓛 ends stays c).post z in let Run : List Val → SProp 𝓤 = λ ws. WpFn 𝓤 H 𝓣.C 𝓣.Λ fn ws Post in
    let tokens = ‵ (flft κs.0 qs.0) ⊛ ‵ (flft κs.1.0 qs.1.0) ⊛ ‵ ftrue in let outlives = raw (fact 𝓤 (κs.0 ⊑ X.lives)) ⊛ raw (fact 𝓤 (κs.1.0 ⊑ A.lives)) ⊛ ‵ ftrue in
    qed 𝓛 ((tokens ⊛ ‵ (fsep ((B E).own_val own z.0.4.0) ftrue)) ∷ outlives ∷ []) ∵ split ! $ move ! (1 ∷ []) $ fsplit ! $
    box_out E ! own z.0.4.0 (λ b o h e ws fits. fjoin ! $
    let w : Val = word E h b o in let y : making.Ghost = ((κs, qs, tt, (a, (block_ptr b o, tt)), (h ∷ [], (vptr b o ∷ [], tt))), x) in
    -- what `from_raw` takes: the tokens, its two arguments, and that the place is the value's
    use1 𝓛 (‵ (box_owns (token E.al a) (R E) (block_ptr b o) x)) (id⊢ 𝓤 _) $ move ! (4 ∷ []) $ split3 ! $ move ! (2 ∷ []) $ drop ! $ move ! (1 ∷ 2 ∷ []) $ join ! $ move ! (1 ∷ 0 ∷ []) $ join ! $
    move ! (2 ∷ []) $ feq_i ! (List Val) (vptr b o ∷ []) (vptr b o ∷ []) refl $ fjoin ! $ move ! (2 ∷ 0 ∷ []) $ fjoin ! $ move ! (2 ∷ 0 ∷ []) $ join ! $ join ! $ use1 𝓛 (raw (making.pre y)) (id⊢ 𝓤 _) $
    suffices ! (Run (w ∷ [])) (subst (λ (us : List Val). ent 𝓤 (Run (w ∷ [])) (Run us)) (sym (λ i. ws i ++ [])) (id⊢ 𝓤 (Run (w ∷ [])))) $
    enter ! 𝓣.C 𝓣.Λ fn (w ∷ []) Post $ alloc_all ! (λ l. pass_all ! refl (box_typed E h b o fits, tt) $
    sets ! (of_opd ! (get_in ! (fld ! refl (stop !)) (sub ! 0 refl (whole !)))) refl (tt, tt) $ sets ! (of_opd ! (get_in ! (fld ! refl (stop !)) (sub ! 1 refl (whole !)))) refl fits $
    first ! $ blocks ! $ sets ! (of_opd ! (get ! refl)) refl fits $
    calls_at_last ! (fm 𝓛 𝓜 𝓡) making known y (and_then ! (get ! refl) (and_then ! (get ! refl) (no_more !))) (λ u.
    use1 𝓛 (later (some (λ (r : D E). (tokens ⊛ ‵ ((B E).own_val r (u ∷ []))) ⊛ some (λ (ls : Lasts (makes.ended X A g d dd) κs y.0.3). ‵ (lasts (makes.ended X A g d dd) κs y.0.3 ls) ⊛ (raw (fact 𝓤 (r.value ≡ x)) ⊛ raw (fact 𝓤 (r.alloc ≡ a))))))) (id⊢ 𝓤 (making.post y u)) $
    await ! tt $ pick ! (λ r. split ! $ move ! (1 ∷ []) $ pick ! (λ _. split3 ! $ drop ! $ move ! (2 ∷ []) $ split ! $ move ! (1 ∷ []) $
    box_out E ! r (u ∷ []) (λ b' o' h' e' us fits'. box_in E ! r b' o' r.value e' refl $ rewrite ! 0 (λ (vs : List Val). ‵ ((B E).own_val r vs)) (sym us) refl $
    let typed = box_typed E h' b' o' fits' in let good = subst (λ (v : Val). lib.Dec.T (mir.Val.has_ty (box_ty E) v) × mir.Val.WT v) (sym (ap only us)) typed in
    lands_last ! refl good $ exec ! 𝓣.C 𝓣.Λ (env fn.locals l) (after 3 fn.body) (at_ret (env fn.locals l) Post) $ sets ! (of_opd ! (get ! refl)) refl good $ nothing ! $ nothing ! $ fjoin ! $
    returns ! (look_at ! 0 refl) $ free_all ! refl $ keep ! (2 ∷ 0 ∷ 1 ∷ 3 ∷ []) $ by ! (leaves 𝓛 ends stays c z u r ((tt, (tt, tt)), tt) (tt, tt)))))))))
