-- `build_lrw` hands on what `lend_lrw` lends, or leaves the slice as it was.
use Rattle.hc_frames.proofs.Steps.{◌≡◌, ℕ, ◌^◌, ◌<◌, ◌≤◌, List, [], ◌∷◌, length, replicate, refl, ap, subst, lit<, arith, w16, w32, w64, MutBor, proved, ftrue, flft, id⊢, fact, tables, u8, u16, u32, u64, usize, yes, no, shows, uint_vals, uint_Tells, owns, plain, mut_slice_of, MutSlice, slice_val, mut_slice_vals, mut_slice_Tells, nothing, heard, peeks, only, calls_at, lasts, triple_of, framed, Stays, stay_dropped, walk_of, ends_at, Goes-dropped, Goes-spent_slice, named, Val, vint, alloc_all, pass_all, free_all, look_at, look_in_at, get, get_in, sets, lands_as, env, at_ret, ‵, raw, ◌⊛◌, some, later, ◌$◌, ◌∵◌, !, qed, move, keep, drop, use0, use1, use2, split, split3, join, fsplit, fjoin, rewrite, await, pick, suffices, frame, whole, sub, agg, stop, fld, hop, from, of_opd, lit, bin, addr, and_then, no_more, returns, enter}
use Rattle.std.proofs.Common.{ltb→lt, nltb→le}
use Rattle.std.specs.declared.result.Result.TheVariants.{Ok, Err}
use Rattle.std.specs.contracts.result.Result as result
use base.Fml.{fobs}
use base.Logic.{emp}
use base.Stored.{coded_list}
use contract.Monad.{fact_i}
use denote.Follow.{follows_by}
use denote.FollowSlice.{heres_id}
use denote.Shadow.{makes_shadow}
use mir.Val.{vstruct, vcons, vnil, of_list}
use types.Match.{live}
use types.Tokens.{name_done}
use denote.Plain.{uint_Makes}
use denote.Steps.{owned}
use denote.Triple.Clauses.{Lasts}
use types.Kit.{by, fsplit3, feq_l, flt_l}
use types.Run.{first, branches, skips, exec, returns_within}
use Rattle.hc_frames.proofs.Results.{makes_ok, makes_err, says_three}
use Rattle.hc_frames.specs.Lending.{LendsFrameData}
use Rattle.hc_frames.specs.Sizes.{frame_size}
use Rattle.hc_frames.specs.contracts.building.Room as Room
use Rattle.hc_frames.specs.contracts.building.loans.build_lrw as f
use Rattle.hc_frames.proofs.building.loans.build_lrw.Statement.{statement}
use Rattle.hc_frames.proofs.building.loans.build_lrw.Code as code
use Rattle.hc_frames.specs.contracts.building.frames.frame_size as sized
use Rattle.hc_frames.proofs.building.frames.frame_size.Met as sized_met
use Rattle.hc_frames.specs.contracts.building.loans.lend_lrw as lent
use Rattle.hc_frames.proofs.building.loans.lend_lrw.Met as lent_met

abbrev stayed : Stays f.ended.signature.params f.ended.kept
stayed = (stay_dropped (mut_slice_of (0 ∷ []) tt (plain (λ _. u8))) no, (stay_dropped (plain (λ _. u64)) yes, (stay_dropped (plain (λ _. u32)) yes, (stay_dropped (plain (λ _. u16)) yes, tt))))

pub build_lrw_spec : {M : Type 1} → statement M
unfolding follows_by
build_lrw_spec 𝓤 𝓛 𝓜 𝓡 wired =
    let c = f.clauses 𝓛 𝓜.mem 𝓡.returns in let W = walk_of 𝓛 f.ended stayed c in let 𝓣 = tables 𝓤 𝓛.H 𝓜 𝓡 𝓡.env in
    proved 𝓛 f.ended stayed c 𝓜 𝓡
    (Goes-spent_slice 𝓛 1 (0 ∷ []) tt (plain (λ _. u8)), (Goes-dropped 𝓛 1 (plain (λ _. u64)) yes (λ κs x w. refl), (Goes-dropped 𝓛 1 (plain (λ _. u32)) yes (λ κs x w. refl), (Goes-dropped 𝓛 1 (plain (λ _. u16)) yes (λ κs x w. refl), tt))))
    f.Key.name code.function (code.unfolded 𝓤 𝓛.H 𝓜 𝓡 wired)
    (λ κs. (mut_slice_vals, (uint_vals w64, (uint_vals w32, (uint_vals w16, tt)))))
    (λ κs. (mut_slice_Tells (named 0) κs.0 u8, (uint_Tells w64, (uint_Tells w32, (uint_Tells w16, tt))))) (λ κs qs bounds a _ are.
    let κ = κs.0 in let q = qs.0 in let out = a.0 in let serial = a.1.0 in let address = a.1.1.0 in let size = a.1.1.1.0 in
    let vss : List Val × (List Val × (List Val × (List Val × Unit {0}))) = (mut_slice_vals out, (uint_vals w64 a.1.0, (uint_vals w32 a.1.1.0, (uint_vals w16 size, tt)))) in
    let y : W.Ghost = ((κs, qs, bounds, a, vss), tt) in
    let Out = result.the_row (MutSlice (named 0) κ u8) Room.the_row in
    let narrow : size < 2 ^ 16 = are.1.1.1.0.1 in
    qed 𝓛 (((‵ (flft κ q) ⊛ ‵ ftrue) ⊛ ‵ (owns (MutSlice (named 0) κ u8 ∷ u64 ∷ u32 ∷ u16 ∷ []) a vss)) ∷ (raw (fact 𝓤 (serial < 2 ^ 40)) ⊛ raw (fact 𝓤 (1 ≤ size)) ⊛ raw (fact 𝓤 (size ≤ 1486))) ∷ []) ∵
    move ! (1 ∷ []) $ split3 ! $ heard ! _ (λ bounded. heard ! _ (λ filled. heard ! _ (λ small. enter ! _ _ _ _ _ $
    alloc_all ! (λ l. pass_all ! refl ((tt, (tt, (record { fits = are.0.0.1.0 }, tt))), ((tt, record { fits = are.1.0.1 }), ((tt, record { fits = are.1.1.0.1 }), ((tt, record { fits = narrow }), tt)))) $
    let G = triple_of 𝓛 sized.signature (sized.spec 𝓛 𝓜.mem 𝓡.returns) in
    let z : G.Ghost = ((tt, tt, tt, (size, tt), (uint_vals w16 size, tt)), tt) in
    nothing ! $ owned ! u16 _ (uint_Makes 𝓛 w16) size _ (refl, narrow) $ fjoin ! $ nothing ! $ join ! $ nothing ! $ move ! (1 ∷ 0 ∷ []) $ use2 𝓛 (raw (G.pre z)) (id⊢ 𝓤 _) $
    calls_at ! (framed 𝓤 𝓛.H 𝓜 𝓣) G (sized_met.met 𝓤 𝓛 𝓜 𝓡 (code.calls-hc_frames::building::frames::frame_size 𝓡.env wired)) z (and_then ! (get ! refl) (no_more !)) (λ v.
    use1 𝓛 (later (some (λ (n : ℕ). (‵ ftrue ⊛ ‵ (usize.own_val n (v ∷ []))) ⊛ some (λ (ws : Lasts sized.ended tt (size, tt)). ‵ (lasts sized.ended tt (size, tt) ws) ⊛ raw (fact 𝓤 (n ≡ frame_size size)))))) (id⊢ 𝓤 _) $
    await ! tt $ pick ! (λ n. split ! $ move ! (1 ∷ []) $ pick ! (λ ws. split ! $ drop ! $ heard ! _ (λ needed. split ! $ drop ! $ fsplit ! $ feq_l ! (λ value. flt_l ! (λ fits.
    lands_as ! (ap only value) refl (tt, record { fits = fits }) $
    sets ! (of_opd ! (get_in ! (fld ! refl (stop !)) (sub ! 1 refl (whole !)))) refl (tt, record { fits = are.0.0.1.0 }) $
    sets ! (bin ! (get ! refl) (get ! refl) tt) refl (tt, tt) $
    first ! $ branches ! (get ! refl)
    (λ short.
    let size_known : length out.now < frame_size size = subst (λ (k : ℕ). length out.now < k) needed (ltb→lt (length out.now) n short) in
    let room : Val = vstruct (vcons (vint w64 n) vnil) in
    sets ! (agg ! (and_then ! (get ! refl) (no_more !))) refl (tt, (record { fits = fits }, tt)) $
    sets ! (agg ! (and_then ! (lit ! tt) (and_then ! (get ! refl) (no_more !)))) refl (tt, (record { fits = lit< tt }, ((record { fits = fits }, tt), tt))) $
    split ! $ move ! (1 ∷ []) $ fsplit ! $ fsplit3 ! $ drop ! $
    rewrite ! 0 (λ (bytes : List ℕ). ‵ (fobs out.ghost_name ((coded_list u8.coded).code bytes))) (heres_id u8 out.now) refl $ name_done ! tt $
    use0 𝓛 (‵ (Room.the_row.own_val (record { 0 = n }) (room ∷ []))) (makes_shadow 𝓛 (Room.the_row.own_val (record { 0 = n }) (room ∷ [])) (λ vals. (tt, ((tt, tt), tt))) ((vint w64 n ∷ [], tt), (refl, ((refl, fits), tt)))) $
    use1 𝓛 (‵ (Out.own_val (Err (record { 0 = n })) (live 1 (of_list (room ∷ [])) ∷ []))) (makes_err 𝓛 (MutSlice (named 0) κ u8) Room.the_row (record { 0 = n }) room) $
    returns_within ! (W.post y) refl (look_at ! 0 refl) $ free_all ! refl $ keep ! (0 ∷ 4 ∷ 1 ∷ []) $
    suffices ! _ (ends_at 𝓛 f.ended stayed c y (live 1 (of_list (room ∷ []))) (Err (record { 0 = n })) (tt, (tt, (tt, (tt, tt)))) (tt, (tt, (tt, (tt, tt))))) $
    nothing ! $ nothing ! $ fjoin ! $ nothing ! $ fjoin ! $ nothing ! $ fjoin ! $ nothing ! $ fjoin ! $ join ! $ move ! (1 ∷ 0 ∷ []) $ join ! $ frame ! $ frame ! $
    by ! (says_three 𝓛 (λ _. size_known, λ _. refl) needed tt))
    (λ enough.
    skips ! $ exec ! 𝓣.C 𝓣.Λ (env code.Mir.locals l) code.Mir.t-5 (at_ret _ (W.post y)) $
    sets ! (addr ! (from ! (fld ! refl (hop ! (look_in_at ! 1 (sub ! 0 refl (whole !))) (stop !))))) refl (tt, tt) $
    sets ! (agg ! (and_then ! (get ! refl) (and_then ! (get_in ! (fld ! refl (stop !)) (sub ! 1 refl (whole !))) (no_more !)))) refl (tt, (tt, (record { fits = are.0.0.1.0 }, tt))) $
    let room : frame_size size ≤ length out.now = subst (λ (k : ℕ). k ≤ length out.now) needed (nltb→le (length out.now) n enough) in
    let L = triple_of 𝓛 lent.signature (lent.spec 𝓛 𝓜.mem 𝓡.returns) in
    let x : L.Ghost = ((κs, qs, bounds, a, vss), tt) in
    use0 𝓛 (raw (fact 𝓤 (size ≤ 1486))) (fact_i 𝓤 _ (emp 𝓤) small) $ use0 𝓛 (raw (fact 𝓤 (1 ≤ size))) (fact_i 𝓤 _ (emp 𝓤) filled) $ join ! $
    use0 𝓛 (raw (fact 𝓤 (serial < 2 ^ 40))) (fact_i 𝓤 _ (emp 𝓤) bounded) $ join ! $ use0 𝓛 (raw (fact 𝓤 (frame_size size ≤ length out.now))) (fact_i 𝓤 _ (emp 𝓤) room) $ join ! $
    move ! (1 ∷ 0 ∷ []) $ use2 𝓛 (raw (L.pre x)) (id⊢ 𝓤 _) $
    calls_at ! (framed 𝓤 𝓛.H 𝓜 𝓣) L (lent_met.met 𝓤 𝓛 𝓜 𝓡 (code.calls-hc_frames::building::loans::lend_lrw 𝓡.env wired)) x
    (and_then ! (get ! refl) (and_then ! (get ! refl) (and_then ! (get ! refl) (and_then ! (get ! refl) (no_more !))))) (λ w.
    use1 𝓛 (later (some (λ (r : MutBor (List ℕ)). ((‵ (flft κ q) ⊛ ‵ ftrue) ⊛ ‵ ((MutSlice (named 0) κ u8).own_val r (w ∷ []))) ⊛
    some (λ (ws : Lasts lent.ended κs a). ‵ (lasts lent.ended κs a ws) ⊛ (‵ (LendsFrameData out serial address size r) ⊛ raw (fact 𝓤 (r.now ≡ replicate size 0))))))) (id⊢ 𝓤 _) $
    await ! tt $ pick ! (λ r. split ! $ move ! (1 ∷ []) $ pick ! (λ ws. split ! $ drop ! $ split ! $ move ! (1 ∷ []) $ heard ! _ (λ blank.
    move ! (1 ∷ []) $ split ! $ move ! (1 ∷ []) $ peeks ! (MutSlice (named 0) κ u8) _ (shows 𝓛 (MutSlice (named 0) κ u8)) r (w ∷ []) (λ said.
    let part : Val = slice_val r.ref_ptr (length r.now) in
    rewrite ! 0 (λ (vs : List Val). ‵ ((MutSlice (named 0) κ u8).own_val r vs)) said.0.0 refl $
    lands_as ! (ap only said.0.0) refl (tt, (tt, (record { fits = said.0.1.0 }, tt))) $
    sets ! (agg ! (and_then ! (lit ! tt) (and_then ! (get ! refl) (no_more !)))) refl (tt, (record { fits = lit< tt }, ((tt, (record { fits = said.0.1.0 }, tt)), tt))) $
    use1 𝓛 (‵ (Out.own_val (Ok r) (live 0 (of_list (part ∷ [])) ∷ []))) (makes_ok 𝓛 (MutSlice (named 0) κ u8) Room.the_row r part) $
    returns ! (look_at ! 0 refl) $ free_all ! refl $
    suffices ! _ (ends_at 𝓛 f.ended stayed c y (live 0 (of_list (part ∷ []))) (Ok r) (tt, (tt, (tt, (tt, tt)))) (tt, (tt, (tt, (tt, tt))))) $
    nothing ! $ nothing ! $ fjoin ! $ nothing ! $ fjoin ! $ nothing ! $ fjoin ! $ nothing ! $ fjoin ! $ join ! $ move ! (1 ∷ 0 ∷ []) $ join ! $ frame ! $ frame ! $
    by ! (says_three 𝓛 (λ none. cc, λ short. absurd (omega arith)) tt blank))))))))))))))))))
