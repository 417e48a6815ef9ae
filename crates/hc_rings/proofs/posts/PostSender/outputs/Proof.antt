-- `outputs` hands on what `held_mut` lends of the buffer that is then held, or ends the sender as it was.
use Rattle.hc_rings.proofs.lemmas.Steps.{◌≡◌, ℕ, ◌≤◌, Bool, true, false, List, [], ◌∷◌, refl, ap, lit<, w32, w64, MutBor, proved, ftrue, flft, full_share, id⊢, emp, fact, fact_i, tables, Array, u8, u32, usize, bool, yes, no, shows, lends_again, comes_back, LentAgain, uint_vals, uint_Tells, uint_Makes, owns, MutRef, mut_vals, mut_Tells, makes_shadow, plain, mut_ref_to, MutSlice, slice_val, nothing, owned, heard, peeks, only, calls_at, Lasts, lasts, triple_of, framed, Stays, stay_dropped, walk_of, ends_at, Goes-dropped, Goes-spent_ref, named, Val, vstruct, vnil, of_list, alloc_all, pass_all, free_all, look_at, get, through, sets, lands_as, env, at_ret, ‵, raw, ◌⊛◌, some, later, ◌$◌, ◌∵◌, !, qed, move, keep, drop, use0, use1, use2, use3, split, join, fsplit, fsplit3, fjoin, feq_l, rewrite, await, pick, suffices, frame, by, live, stop, lit, addr, agg, and_then, no_more, returns, returns_within, enter, first, branches, skips, exec, name_done, lft_new, lft_end}
use denote.Follow.{follows_by, such_by}
use mathlib.Core.Option as maybe
use Rattle.std.specs.Prelude.{length, Result, IsOk, OnErr, IsSome, IfSome}
use Rattle.std.specs.declared.result.Result.TheVariants.{Ok, Err}
use Rattle.std.specs.contracts.result.Result as result
use Rattle.hc_rings.proofs.lemmas.Results.{says_three, makes_ok, makes_err}
use Rattle.hc_rings.proofs.lemmas.Outputs.{is_true, is_false, left_outputs, zeros, never, lends_so}
use Rattle.hc_rings.specs.Post.{blank_post, post_with_written}
use Rattle.hc_rings.specs.Lending.{LendsHeld, LendsOutputs}
use Rattle.hc_rings.specs.Ring.{handed_out, held, posted, HoldsPost, HoldsNothing, PostsEach}
use Rattle.std.specs.Option.{option_map}
use Rattle.hc_rings.specs.declared.posts.PostSender.{PostSender}
use Rattle.hc_rings.specs.declared.posts.TheConstants.{SPARE_BUFFERS}
use Rattle.hc_rings.specs.declared.post_buffer.TheConstants.{LARGEST_IMAGE}
use Rattle.hc_rings.specs.contracts.posts.PostSender as sender
use Rattle.hc_rings.specs.contracts.posts.sending.NoSpare as NoSpare
use Rattle.hc_rings.specs.declared.posts.sending.NoSpare as declared
use Rattle.hc_rings.specs.contracts.posts.PostSender.outputs as f
use Rattle.hc_rings.proofs.posts.PostSender.outputs.Statement.{statement}
use Rattle.hc_rings.proofs.posts.PostSender.outputs.Code as code
use Rattle.hc_rings.specs.contracts.posts.PostSender.holds_zeros as g
use Rattle.hc_rings.proofs.posts.PostSender.holds_zeros.Met as g_met
use Rattle.hc_rings.specs.contracts.posts.PostSender.held_mut as lent
use Rattle.hc_rings.proofs.posts.PostSender.held_mut.Met as lent_met

abbrev stayed : Stays f.ended.signature.params f.ended.kept
stayed = (stay_dropped (mut_ref_to (0 ∷ []) tt (plain (λ _. sender.the_row))) no, (stay_dropped (plain (λ _. u32)) yes, (stay_dropped (plain (λ _. usize)) yes, tt)))

pub outputs_spec : {M : Type 1} → statement M
unfolding follows_by such_by
outputs_spec 𝓤 𝓛 𝓜 𝓡 wired =
    let c = f.clauses 𝓛 𝓜.mem 𝓡.returns in let W = walk_of 𝓛 f.ended stayed c in let 𝓣 = tables 𝓤 𝓛.H 𝓜 𝓡 𝓡.env in
    proved 𝓛 f.ended stayed c 𝓜 𝓡
    (Goes-spent_ref 𝓛 1 (0 ∷ []) tt (plain (λ _. sender.the_row)), (Goes-dropped 𝓛 1 (plain (λ _. u32)) yes (λ κs x w. refl), (Goes-dropped 𝓛 1 (plain (λ _. usize)) yes (λ κs x w. refl), tt)))
    f.Key.name code.function (code.unfolded 𝓤 𝓛.H 𝓜 𝓡 wired)
    (λ κs. (mut_vals, (uint_vals w32, (uint_vals w64, tt))))
    (λ κs. (mut_Tells (named 0) κs.0 sender.the_row, (uint_Tells w32, (uint_Tells w64, tt)))) (λ κs qs bounds a _ are.
    let κ = κs.0 in let q = qs.0 in let self : MutBor PostSender = a.0 in let epoch : ℕ = a.1.0 in let size : ℕ = a.1.1.0 in
    let b = self.ref_ptr.0 in let o = self.ref_ptr.1 in let vs = mut_vals self in
    let Ref = λ (κ' : List ℕ) (x : MutBor PostSender). (MutRef (named 0) κ' sender.the_row).own_val x vs in
    let y : W.Ghost = ((κs, qs, bounds, a, (vs, (uint_vals w32 epoch, (uint_vals w64 size, tt)))), tt) in
    let none_spare : declared.NoSpare = record {} in
    let refused : Result (MutBor (List ℕ)) declared.NoSpare = Err none_spare in
    let Out = result.the_row (MutSlice (named 0) κ u8) NoSpare.the_row in
    qed 𝓛 (((‵ (flft κ q) ⊛ ‵ ftrue) ⊛ ‵ (owns (MutRef (named 0) κ sender.the_row ∷ u32 ∷ usize ∷ []) a (vs, (uint_vals w32 epoch, (uint_vals w64 size, tt))))) ∷ raw (fact 𝓤 (size ≤ LARGEST_IMAGE)) ∷ []) ∵
    move ! (1 ∷ []) $ heard ! _ (λ small. split ! $ split ! $ move ! (2 ∷ []) $ fsplit ! $ keep ! (0 ∷ 2 ∷ []) $
    enter ! _ _ _ _ _ $ alloc_all ! (λ l. pass_all ! refl ((tt, tt), ((tt, record { fits = are.1.0.1 }), ((tt, record { fits = are.1.1.0.1 }), tt))) $
    sets ! (addr ! (through ! refl (stop !))) refl (tt, tt) $
    lft_new ! tt (λ α. move ! (1 ∷ 2 ∷ []) $
    use2 𝓛 (later (some (λ (δ : ℕ). ‵ (Ref (α ∷ []) (record self { ghost_name = δ })) ⊛ ‵ (LentAgain sender.the_row κ (α ∷ []) q self.ghost_name b o δ self.now))))
    (lends_again 𝓛 sender.the_row (named 0) κ (α ∷ []) q self.ghost_name b o (named 0) self.now) $ await ! tt $ pick ! (λ δ. split ! $
    let G = triple_of 𝓛 g.signature (g.spec 𝓛 𝓜.mem 𝓡.returns) in
    let z : G.Ghost = (((α ∷ [], tt), (full_share, tt), tt, (record self { ghost_name = δ }, (epoch, (size, tt))), (vs, (uint_vals w32 epoch, (uint_vals w64 size, tt)))), tt) in
    nothing ! $ owned ! usize _ (uint_Makes 𝓛 w64) size _ (refl, are.1.1.0.1) $ fjoin ! $ owned ! u32 _ (uint_Makes 𝓛 w32) epoch _ (refl, are.1.0.1) $ fjoin ! $
    move ! (1 ∷ 0 ∷ []) $ fjoin ! $ nothing ! $ move ! (3 ∷ 0 ∷ []) $ join ! $ join ! $
    use0 𝓛 (raw (fact 𝓤 (size ≤ LARGEST_IMAGE))) (fact_i 𝓤 _ (emp 𝓤) small) $ move ! (1 ∷ 0 ∷ []) $ use2 𝓛 (raw (G.pre z)) (id⊢ 𝓤 _) $
    calls_at ! (framed 𝓤 𝓛.H 𝓜 𝓣) G (g_met.met 𝓤 𝓛 𝓜 𝓡 (code.calls-hc_rings::posts::PostSender::holds_zeros 𝓡.env wired)) z
    (and_then ! (get ! refl) (and_then ! (get ! refl) (and_then ! (get ! refl) (no_more !)))) (λ v.
    use1 𝓛 (later (some (λ (ok : Bool). ((‵ (flft (α ∷ []) full_share) ⊛ ‵ ftrue) ⊛ ‵ (bool.own_val ok (v ∷ []))) ⊛
    some (λ (ws : Lasts g.ended z.0.0 z.0.3). ‵ (lasts g.ended z.0.0 z.0.3 ws) ⊛
    (raw (fact 𝓤 (ok ≡ true → HoldsPost self.now ws.0 (blank_post epoch size) × IsSome (held ws.0))) ⊛
    (raw (fact 𝓤 (ok ≡ false → HoldsNothing self.now ws.0 × (SPARE_BUFFERS ≤ handed_out self.now))) ⊛
    raw (fact 𝓤 (PostsEach self.now → ok ≡ false → SPARE_BUFFERS ≤ length (posted self.now))))))))) (id⊢ 𝓤 _) $
    await ! tt $ pick ! (λ ok. split ! $ split ! $ split ! $ lft_end ! tt $ move ! (2 ∷ []) $ feq_l ! (λ value.
    lands_as ! (ap only value) refl (tt, tt) $
    move ! (2 ∷ []) $ pick ! (λ ws. split ! $ move ! (1 ∷ []) $ split ! $ heard ! _ (λ held_one. split ! $ heard ! _ (λ held_none. heard ! _ (λ after_four. fsplit ! $ fsplit ! $
    move ! (3 ∷ 5 ∷ 0 ∷ []) $ use3 𝓛 (later (‵ (Ref κ (record self { now = ws.0 })) ⊛ ‵ (flft κ q)))
    (comes_back 𝓛 sender.the_row (named 0) κ (α ∷ []) q self.ghost_name b o δ self.now ws.0) $ await ! tt $ split ! $
    let self' : MutBor PostSender = record self { now = ws.0 } in
    first ! $ branches ! (get ! refl)
    (λ has.
    let found = held_one (is_true ok has) in
    sets ! (addr ! (through ! refl (stop !))) refl (tt, tt) $
    let L = triple_of 𝓛 lent.signature (lent.spec 𝓛 𝓜.mem 𝓡.returns) in
    let x : L.Ghost = ((κs, qs, bounds, (self', tt), (vs, tt)), tt) in
    nothing ! $ move ! (1 ∷ 0 ∷ []) $ fjoin ! $ nothing ! $ move ! (2 ∷ 0 ∷ []) $ join ! $ join ! $
    use0 𝓛 (raw (fact 𝓤 (IsSome (held ws.0)))) (fact_i 𝓤 _ (emp 𝓤) found.1) $ move ! (1 ∷ 0 ∷ []) $ use2 𝓛 (raw (L.pre x)) (id⊢ 𝓤 _) $
    calls_at ! (framed 𝓤 𝓛.H 𝓜 𝓣) L (lent_met.met 𝓤 𝓛 𝓜 𝓡 (code.calls-hc_rings::posts::PostSender::held_mut 𝓡.env wired)) x (and_then ! (get ! refl) (no_more !)) (λ w.
    use1 𝓛 (later (some (λ (r : MutBor (List ℕ)). ((‵ (flft κ q) ⊛ ‵ ftrue) ⊛ ‵ ((MutSlice (named 0) κ u8).own_val r (w ∷ []))) ⊛
    some (λ (us : Lasts lent.ended κs (self', tt)). ‵ (lasts lent.ended κs (self', tt) us) ⊛ (‵ (LendsHeld self' r) ⊛ raw (fact 𝓤 (IfSome (held ws.0) (λ post. r.now ≡ post.bytes)))))))) (id⊢ 𝓤 _) $
    await ! tt $ pick ! (λ r. split ! $ move ! (1 ∷ []) $ pick ! (λ us. split ! $ drop ! $ split ! $ move ! (1 ∷ []) $ heard ! _ (λ bytes.
    let F : List ℕ → PostSender = λ written. record ws.0 { held = option_map (λ post. post_with_written post written) ws.0.held } in
    let P : List ℕ → PostSender → Type 0 = λ written n. HoldsPost self.now n (post_with_written (blank_post epoch size) written) in
    move ! (1 ∷ []) $ split ! $ move ! (1 ∷ []) $ peeks ! (MutSlice (named 0) κ u8) _ (shows 𝓛 (MutSlice (named 0) κ u8)) r (w ∷ []) (λ says.
    let part : Val = slice_val r.ref_ptr (length r.now) in
    let answer : Result (MutBor (List ℕ)) declared.NoSpare = Ok r in
    rewrite ! 0 (λ (vals : List Val). ‵ ((MutSlice (named 0) κ u8).own_val r vals)) says.0.0 refl $
    lands_as ! (ap only says.0.0) refl (tt, (tt, (record { fits = says.0.1.0 }, tt))) $
    sets ! (agg ! (and_then ! (lit ! tt) (and_then ! (get ! refl) (no_more !)))) refl (tt, (record { fits = lit< tt }, ((tt, (record { fits = says.0.1.0 }, tt)), tt))) $
    use1 𝓛 (‵ (Out.own_val (Ok r) (live 0 (of_list (part ∷ [])) ∷ []))) (makes_ok 𝓛 (MutSlice (named 0) κ u8) NoSpare.the_row r part) $ move ! (2 ∷ []) $
    use1 𝓛 (‵ (LendsOutputs self epoch size (Ok r)))
    (lends_so 𝓛 sender.the_row (Array u8 0) self.ghost_name (maybe.some r.ghost_name) F ws.0 (λ written n. IsOk answer → P written n) (λ n. OnErr answer (HoldsNothing self.now n)) (λ written _. left_outputs self.now ws.0 epoch size written found.0) tt) $
    returns_within ! (W.post y) refl (look_at ! 0 refl) $ free_all ! refl $ keep ! (1 ∷ 2 ∷ 0 ∷ []) $
    suffices ! _ (ends_at 𝓛 f.ended stayed c y (live 0 (of_list (part ∷ []))) (Ok r) (tt, (tt, (tt, tt))) (tt, (tt, (tt, tt)))) $
    nothing ! $ nothing ! $ fjoin ! $ nothing ! $ fjoin ! $ nothing ! $ fjoin ! $ join ! $ move ! (1 ∷ 0 ∷ []) $ join ! $ frame ! $ frame ! $
    by ! (says_three 𝓛 (zeros (held ws.0) epoch size r.now found.0.2.0 bytes) tt (λ _. tt))))))))
    (λ none.
    let nothing_held = held_none (is_false ok none) in
    skips ! $ exec ! 𝓣.C 𝓣.Λ (env code.Mir.locals l) code.Mir.t-4 (at_ret _ (W.post y)) $
    sets ! (agg ! (no_more !)) refl (tt, tt) $
    sets ! (agg ! (and_then ! (lit ! tt) (and_then ! (get ! refl) (no_more !)))) refl (tt, (record { fits = lit< tt }, (tt, tt))) $
    fsplit3 ! $ drop ! $ name_done ! tt $
    use1 𝓛 (‵ (LendsOutputs self epoch size (Err none_spare)))
    (lends_so 𝓛 sender.the_row (Array u8 0) self.ghost_name maybe.none (λ _. ws.0) ws.0 (λ written n. IsOk refused → HoldsPost self.now n (post_with_written (blank_post epoch size) written)) (λ n. OnErr refused (HoldsNothing self.now n)) (λ written ok. never ok) nothing_held.0) $
    use0 𝓛 (‵ (NoSpare.the_row.own_val none_spare (vstruct vnil ∷ []))) (makes_shadow 𝓛 (NoSpare.the_row.own_val none_spare (vstruct vnil ∷ [])) (λ vals. (tt, tt)) (tt, (refl, tt))) $
    use1 𝓛 (‵ (Out.own_val (Err none_spare) (live 1 (of_list (vstruct vnil ∷ [])) ∷ []))) (makes_err 𝓛 (MutSlice (named 0) κ u8) NoSpare.the_row none_spare (vstruct vnil)) $
    returns ! (look_at ! 0 refl) $ free_all ! refl $ keep ! (0 ∷ 3 ∷ 1 ∷ []) $ nothing ! $ move ! (2 ∷ 0 ∷ []) $ join ! $ move ! (1 ∷ 0 ∷ []) $
    suffices ! _ (ends_at 𝓛 f.ended stayed c y (live 1 (of_list (vstruct vnil ∷ []))) (Err none_spare) (tt, (tt, (tt, tt))) (tt, (tt, (tt, tt)))) $
    nothing ! $ nothing ! $ fjoin ! $ nothing ! $ fjoin ! $ nothing ! $ fjoin ! $ join ! $ move ! (1 ∷ 0 ∷ []) $ join ! $ frame ! $ frame ! $
    by ! (says_three 𝓛 tt (nothing_held.0.3, nothing_held.1) (λ each. after_four each (is_false ok none))))))))))))))))
