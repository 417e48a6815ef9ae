-- `next` hands out the next data part and what is after its datagram.
use Rattle.hc_frames.proofs.Steps.{◌≡◌, ℕ, ◌+◌, ◌-◌, ◌%◌, ◌^◌, ◌<◌, ◌≤◌, List, [], ◌∷◌, ◌++◌, length, replicate, take, drop_list, refl, sym, ap, ◌∙◌, subst, lit<, arith, w64, MutBor, proved, at, at_mul, ftrue, flft, id⊢, fact, tables, u8, u16, u32, u64, usize, no, shows, mem, owns, plain, MutSlice, Room, slice_val, mut_slice_vals, nothing, heard, peeks, only, calls_at, lasts, triple_of, framed, Stays, stay_dropped, walk_of, ends_at, named, Val, vint, alloc_all, pass_all, free_all, look_at, look_in_at, get, get_in, through, sets, lands_as, is, env, at_ret, ‵, raw, ◌⊛◌, some, later, ◌$◌, ◌∵◌, !, qed, move, keep, drop, use0, use1, use2, split, split3, join, fsplit, fjoin, rewrite, await, pick, suffices, frame, done, whole, sub, agg, stop, fld, hop, from, of_opd, lit, bin, addr, and_then, no_more, returns, enter}
use denote.Signature.{named_lft}
use Rattle.std.proofs.Common.{eqb→eq}
use Rattle.std.specs.declared.option.Option.TheVariants.{Some, None}
use Rattle.std.specs.contracts.option.Option as option
use base.Fml.{fobs}
use base.Logic.{emp}
use contract.Monad.{fact_i}
use denote.Ref.{Bor}
use denote.Triple.Clauses.{Lasts}
use base.Stored.{coded_list}
use denote.Array.{Array}
use denote.Follow.{both_if_by, follows_both}
use denote.FollowSlice.{heres_id}
use denote.Plain.{uint_Makes}
use denote.Steps.{owned}
use denote.Slice.{ShrSlice, shr_slice_vals}
use denote.Struct.Tuple.{Tuple}
use mir.Val.{vstruct, vcons, vnil, of_list}
use denote.RattleType.{Valss}
use denote.Struct.Declared.{shape}
use denote.Struct.Struct.{within}
use types.Kit.{updating, now, by, fpack, feq_i, fpick, fsplit3, feq_l, flt_l}
use types.Match.{live}
use types.Run.{first, branches, skips, exec, returns_within}
use types.Tokens.{name_done}
use Rattle.hc_frames.proofs.lemmas.Opening.{none_left, some_left, first_fits, first_text, open_rest}
use Rattle.hc_frames.proofs.Lent.{part_lent, lends_part, both_through}
use Rattle.hc_frames.proofs.Spelled.{datagram_cut}
use Rattle.hc_frames.specs.FrameText.{datagram_head, sent_datagram_text, lrw}
use Rattle.hc_frames.specs.Handing.{first_address, more_follow}
use Rattle.hc_frames.specs.declared.commands.Command.TheVariants.{Lrw}
use Rattle.hc_frames.specs.declared.building.opened.Open as declared
use Rattle.std.proofs.lemmas.List.{length-replicate}
use Rattle.hc_frames.specs.OpenDatagrams.{first_size}
use Rattle.hc_frames.specs.contracts.building.opened.cut as cuts
use Rattle.hc_frames.proofs.building.opened.cut.Met as cuts_met
use Rattle.hc_frames.specs.contracts.building.opened.first_and_others as firsts
use Rattle.hc_frames.proofs.building.opened.first_and_others.Met as firsts_met
use Rattle.hc_frames.proofs.Results.{makes_some, makes_none, makes_pair, says_three}
use Rattle.hc_frames.specs.contracts.building.opened.Open as Open
use Rattle.hc_frames.proofs.building.opened.Open.TheLaws.{lowers, lowered}
use Rattle.hc_frames.specs.contracts.building.opened.Open.next as f
use Rattle.hc_frames.proofs.building.opened.Open.next.Statement.{statement}
use Rattle.hc_frames.proofs.building.opened.Open.next.Code as code

abbrev stayed : Stays f.ended.signature.params f.ended.kept
stayed = (stay_dropped (plain (λ κs. Open.the_row (named_lft 1 0 tt κs))) no, tt)

pub next_spec : {M : Type 1} → statement M
unfolding both_if_by
next_spec 𝓤 𝓛 𝓜 𝓡 wired =
    let c = f.clauses 𝓛 𝓜.mem 𝓡.returns in let W = walk_of 𝓛 f.ended stayed c in let 𝓣 = tables 𝓤 𝓛.H 𝓜 𝓡 𝓡.env in
    proved 𝓛 f.ended stayed c 𝓜 𝓡 (λ κs x w vs fits. qed 𝓛 (‵ ftrue ∷ []) ∵ updating ! $ nothing ! $ fjoin ! $ now ! $ done !, tt)
    f.Key.name code.function (code.unfolded 𝓤 𝓛.H 𝓜 𝓡 wired)
    (λ κs. (λ x. lowered x ∷ [], tt)) (λ κs. ((lowers (named_lft 1 0 tt κs)).val_is, tt)) (λ κs qs bounds a _ are.
    let κ = κs.0 in let q = qs.0 in let self = a.0 in let o = named_lft 1 0 tt κs in
    let rest = self.rest in let ds = self.datagrams.now in let serial = self.serial in let opened = self.standing in
    let Part = MutSlice (named 0) κ u8 in let Pairs = ShrSlice (named 0) κ (Tuple (u32 ∷ u16 ∷ [])) in
    let Frame = Open.the_row o in let Out = Tuple (Part ∷ Frame ∷ []) in
    let y : W.Ghost = ((κs, qs, bounds, a, (lowered self ∷ [], tt)), tt) in
    qed 𝓛 (((‵ (flft κ q) ⊛ ‵ ftrue) ⊛ ‵ (owns (Frame ∷ []) a (lowered self ∷ [], tt))) ∷ ‵ ftrue ∷ []) ∵
    move ! (1 ∷ []) $ drop ! $ split ! $ move ! (1 ∷ []) $ fsplit ! $ fpick ! (λ vss. fsplit ! $ feq_l ! (λ spelled. fsplit ! $
    peeks ! Part _ (shows 𝓛 Part) rest vss.0 (λ rest_is. rewrite ! 0 (λ (vs : List Val). ‵ (Part.own_val rest vs)) rest_is.0.0 refl $ move ! (1 ∷ []) $ fsplit ! $
    peeks ! Pairs _ (shows 𝓛 Pairs) self.datagrams vss.1.0 (λ list_is. rewrite ! 0 (λ (vs : List Val). ‵ (Pairs.own_val self.datagrams vs)) list_is.0.0 refl $ move ! (1 ∷ []) $ fsplit ! $ fsplit ! $ feq_l ! (λ serial_is. flt_l ! (λ serial_fits.
    drop ! $ keep ! (0 ∷ 1 ∷ 3 ∷ []) $
    -- [the datagrams; the rest; the token]
    enter ! _ _ _ _ _ $ alloc_all ! (λ l. pass_all ! refl ((tt, ((tt, (record { fits = rest_is.0.1.0 }, tt)), ((tt, (record { fits = list_is.0.1.0 }, tt)), (record { fits = serial_fits }, tt)))), tt) $
    sets ! (of_opd ! (get_in ! (fld ! refl (stop !)) (sub ! 0 refl (whole !)))) refl (tt, (tt, (record { fits = rest_is.0.1.0 }, tt))) $
    sets ! (of_opd ! (get_in ! (fld ! refl (stop !)) (sub ! 1 refl (whole !)))) refl (tt, (tt, (record { fits = list_is.0.1.0 }, tt))) $
    sets ! (of_opd ! (get_in ! (fld ! refl (stop !)) (sub ! 2 refl (whole !)))) refl (tt, record { fits = serial_fits }) $
    sets ! (of_opd ! (get_in ! (fld ! refl (stop !)) (sub ! 1 refl (whole !)))) refl (tt, record { fits = list_is.0.1.0 }) $
    sets ! (bin ! (get ! refl) (lit ! tt) tt) refl (tt, tt) $
    first ! $ branches ! (get ! refl)
    (λ empty.
    let none : ds ≡ [] = none_left ds (eqb→eq (length ds) 0 empty) in
    sets ! (agg ! (and_then ! (lit ! tt) (no_more !))) refl (tt, (record { fits = lit< tt }, tt)) $
    move ! (1 ∷ []) $ fsplit3 ! $ drop ! $
    rewrite ! 0 (λ (bytes : List ℕ). ‵ (fobs rest.ghost_name ((coded_list u8.coded).code bytes))) (heres_id u8 rest.now) refl $ name_done ! tt $
    use0 𝓛 (‵ ((option.the_row Out).own_val None (live 0 vnil ∷ []))) (makes_none 𝓛 Out) $
    returns_within ! (W.post y) refl (look_at ! 0 refl) $ free_all ! refl $ keep ! (0 ∷ 4 ∷ 1 ∷ []) $
    suffices ! _ (ends_at 𝓛 f.ended stayed c y (live 0 vnil) None ((tt, tt), tt) (tt, tt)) $
    nothing ! $ nothing ! $ fjoin ! $ join ! $ move ! (1 ∷ 0 ∷ []) $ join ! $ frame ! $ frame ! $ by ! (says_three 𝓛 (λ _. none, λ _. refl) tt tt))
    (λ filled.
    skips ! $ exec ! 𝓣.C 𝓣.Λ (env code.Mir.locals l) code.Mir.t-7 (at_ret _ (W.post y)) $
    let some_there : 0 < length ds = some_left (length ds) filled in
    let G = triple_of 𝓛 firsts.signature (firsts.spec 𝓛 𝓜.mem 𝓡.returns) in
    let z : G.Ghost = (((κ, tt), (q, tt), tt, (self.datagrams, tt), (shr_slice_vals self.datagrams, tt)), tt) in
    nothing ! $ move ! (1 ∷ 0 ∷ []) $ fjoin ! $ move ! (2 ∷ 0 ∷ []) $ join ! $ use0 𝓛 (raw (fact 𝓤 (0 < length ds))) (fact_i 𝓤 _ (emp 𝓤) some_there) $ move ! (1 ∷ 0 ∷ []) $ use2 𝓛 (raw (G.pre z)) (id⊢ 𝓤 _) $
    calls_at ! (framed 𝓤 𝓛.H 𝓜 𝓣) G (firsts_met.met 𝓤 𝓛 𝓜 𝓡 (code.calls-hc_frames::building::opened::first_and_others 𝓡.env wired)) z (and_then ! (get ! refl) (no_more !)) (λ v.
    use1 𝓛 (later (some (λ (first : ℕ × Bor (List (ℕ × ℕ))). ((‵ (flft κ q) ⊛ ‵ ftrue) ⊛ ‵ ((Tuple (usize ∷ Pairs ∷ [])).own_val first (v ∷ []))) ⊛
    some (λ (ws : Lasts firsts.ended (κ, tt) (self.datagrams, tt)). ‵ (lasts firsts.ended (κ, tt) (self.datagrams, tt) ws) ⊛ (raw (fact 𝓤 (first.0 ≡ first_size ds)) ⊛ raw (fact 𝓤 (first.1.now ≡ drop_list 1 ds))))))) (id⊢ 𝓤 _) $
    await ! tt $ pick ! (λ first. split ! $ move ! (1 ∷ []) $ pick ! (λ ws. split ! $ drop ! $ split ! $ heard ! _ (λ sized. heard ! _ (λ others.
    split ! $ move ! (1 ∷ []) $ fpick ! (λ us. fsplit ! $ feq_l ! (λ both. fsplit ! $ fsplit ! $ feq_l ! (λ size_is. flt_l ! (λ size_fits. fsplit ! $
    peeks ! Pairs _ (shows 𝓛 Pairs) first.1 us.1.0 (λ others_are. rewrite ! 0 (λ (vs : List Val). ‵ (Pairs.own_val first.1 vs)) others_are.0.0 refl $
    let n = first.0 in
    let first_val : v ≡ vstruct (vcons (vint w64 n) (vcons (slice_val first.1.ref_ptr (length first.1.now)) vnil)) = ap only (both ∙ (λ k. vstruct (of_list (size_is k ++ (others_are.0.0 k ++ []))) ∷ [])) in
    lands_as ! first_val refl (tt, (record { fits = size_fits }, ((tt, (record { fits = others_are.0.1.0 }, tt)), tt))) $
    sets ! (of_opd ! (get_in ! (fld ! refl (stop !)) (sub ! 0 refl (whole !)))) refl (tt, record { fits = size_fits }) $
    sets ! (of_opd ! (get_in ! (fld ! refl (stop !)) (sub ! 1 refl (whole !)))) refl (tt, (tt, (record { fits = others_are.0.1.0 }, tt))) $
    sets ! (addr ! (from ! (fld ! refl (hop ! (look_in_at ! 2 (sub ! 0 refl (whole !))) (stop !))))) refl (tt, tt) $
    sets ! (agg ! (and_then ! (get ! refl) (and_then ! (get_in ! (fld ! refl (stop !)) (sub ! 1 refl (whole !))) (no_more !)))) refl (tt, (tt, (record { fits = rest_is.0.1.0 }, tt))) $
    let long_rest : length rest.now < 2 ^ 64 = rest_is.0.1.0 in
    let within_rest : 12 + n ≤ length rest.now = subst (λ (k : ℕ). 12 + k ≤ length rest.now) (sym sized) (first_fits serial ds rest.now opened some_there) in
    let sum : 12 + n < 2 ^ 64 = omega arith in
    sets ! (bin ! (lit ! tt) (get ! refl) (record { fits = sum })) refl (tt, record { fits = sum }) $
    let G' = triple_of 𝓛 cuts.signature (cuts.spec 𝓛 𝓜.mem 𝓡.returns) in
    let z' : G'.Ghost = (((κ, tt), (q, tt), tt, (rest, (12 + n, tt)), (mut_slice_vals rest, (vint w64 (12 + n) ∷ [], tt))), tt) in
    nothing ! $ owned ! usize _ (uint_Makes 𝓛 w64) (12 + n) _ (refl, sum) $ fjoin ! $ move ! (4 ∷ 0 ∷ []) $ fjoin ! $ move ! (3 ∷ 0 ∷ []) $ join ! $
    use0 𝓛 (raw (fact 𝓤 (12 + n ≤ length rest.now))) (fact_i 𝓤 _ (emp 𝓤) within_rest) $ move ! (1 ∷ 0 ∷ []) $ use2 𝓛 (raw (G'.pre z')) (id⊢ 𝓤 _) $
    calls_at ! (framed 𝓤 𝓛.H 𝓜 𝓣) G' (cuts_met.met 𝓤 𝓛 𝓜 𝓡 (code.calls-hc_frames::building::opened::cut 𝓡.env wired)) z' (and_then ! (get ! refl) (and_then ! (get ! refl) (no_more !))) (λ w.
    use1 𝓛 (later (some (λ (two : MutBor (List ℕ) × MutBor (List ℕ)). ((‵ (flft κ q) ⊛ ‵ ftrue) ⊛ ‵ ((Tuple (Part ∷ Part ∷ [])).own_val two (w ∷ []))) ⊛
    some (λ (ws : Lasts cuts.ended (κ, tt) (rest, (12 + n, tt))). ‵ (lasts cuts.ended (κ, tt) (rest, (12 + n, tt)) ws) ⊛
    (‵ (follows_both (Array u8 0) (Array u8 0) (Array u8 0) rest.ghost_name two.0.ghost_name two.1.ghost_name ◌++◌) ⊛ (raw (fact 𝓤 (two.0.now ≡ take (12 + n) rest.now)) ⊛ raw (fact 𝓤 (two.1.now ≡ drop_list (12 + n) rest.now)))))))) (id⊢ 𝓤 _) $
    await ! tt $ pick ! (λ two. split ! $ move ! (1 ∷ []) $ pick ! (λ ws'. split ! $ drop ! $ split ! $ move ! (1 ∷ []) $ split ! $ heard ! _ (λ front_is. heard ! _ (λ back_is.
    move ! (1 ∷ []) $ split ! $ move ! (1 ∷ []) $ fpick ! (λ us'. fsplit ! $ feq_l ! (λ pair_is. fsplit ! $
    peeks ! Part _ (shows 𝓛 Part) two.0 us'.0 (λ text_is. rewrite ! 0 (λ (vs : List Val). ‵ (Part.own_val two.0 vs)) text_is.0.0 refl $ move ! (1 ∷ []) $ fsplit ! $
    peeks ! Part _ (shows 𝓛 Part) two.1 us'.1.0 (λ after_is. rewrite ! 0 (λ (vs : List Val). ‵ (Part.own_val two.1 vs)) after_is.0.0 refl $ move ! (1 ∷ []) $ drop ! $
    -- [what is after; the datagram; the token; the tie; the datagrams left; nothing]
    let two_val : w ≡ vstruct (vcons (slice_val two.0.ref_ptr (length two.0.now)) (vcons (slice_val two.1.ref_ptr (length two.1.now)) vnil)) = ap only (pair_is ∙ (λ k. vstruct (of_list (text_is.0.0 k ++ (after_is.0.0 k ++ []))) ∷ [])) in
    lands_as ! two_val refl (tt, ((tt, (record { fits = text_is.0.1.0 }, tt)), ((tt, (record { fits = after_is.0.1.0 }, tt)), tt))) $
    sets ! (of_opd ! (get_in ! (fld ! refl (stop !)) (sub ! 0 refl (whole !)))) refl (tt, (tt, (record { fits = text_is.0.1.0 }, tt))) $
    sets ! (of_opd ! (get_in ! (fld ! refl (stop !)) (sub ! 1 refl (whole !)))) refl (tt, (tt, (record { fits = after_is.0.1.0 }, tt))) $
    sets ! (addr ! (from ! (fld ! refl (hop ! (look_in_at ! 8 (sub ! 0 refl (whole !))) (stop !))))) refl (tt, tt) $
    sets ! (agg ! (and_then ! (get ! refl) (and_then ! (get_in ! (fld ! refl (stop !)) (sub ! 1 refl (whole !))) (no_more !)))) refl (tt, (tt, (record { fits = after_is.0.1.0 }, tt))) $
    sets ! (agg ! (and_then ! (get ! refl) (and_then ! (get ! refl) (and_then ! (get ! refl) (no_more !))))) refl (tt, ((tt, (record { fits = after_is.0.1.0 }, tt)), ((tt, (record { fits = others_are.0.1.0 }, tt)), (record { fits = serial_fits }, tt)))) $
    let n_fits : n < 2 ^ 64 = size_fits in
    let less : 10 + n < 2 ^ 64 = omega arith in
    let exact : 10 + n - 10 ≡ n = omega arith in
    sets ! (bin ! (lit ! tt) (get ! refl) (record { fits = less })) refl (tt, record { fits = less }) $
    sets ! (bin ! (get_in ! (fld ! refl (stop !)) (sub ! 0 refl (whole !))) (lit ! tt) tt) refl (tt, tt) $
    sets ! (is ! (bin ! (get ! refl) (lit ! tt) (omega arith)) (ap (vint w64) exact)) refl (tt, record { fits = n_fits }) $
    sets ! (addr ! (through ! refl (stop !))) refl (tt, tt) $
    sets ! (agg ! (and_then ! (get ! refl) (and_then ! (get ! refl) (no_more !)))) refl (tt, (tt, (record { fits = n_fits }, tt))) $
    sets ! (of_opd ! (get ! refl)) refl (tt, ((tt, (record { fits = after_is.0.1.0 }, tt)), ((tt, (record { fits = others_are.0.1.0 }, tt)), (record { fits = serial_fits }, tt)))) $
    sets ! (agg ! (and_then ! (get ! refl) (and_then ! (get ! refl) (no_more !)))) refl (tt, ((tt, (record { fits = n_fits }, tt)), (((tt, (record { fits = after_is.0.1.0 }, tt)), ((tt, (record { fits = others_are.0.1.0 }, tt)), (record { fits = serial_fits }, tt))), tt))) $
    sets ! (agg ! (and_then ! (lit ! tt) (and_then ! (get ! refl) (no_more !)))) refl (tt, (record { fits = lit< tt }, (((tt, (record { fits = n_fits }, tt)), (((tt, (record { fits = after_is.0.1.0 }, tt)), ((tt, (record { fits = others_are.0.1.0 }, tt)), (record { fits = serial_fits }, tt))), tt)), tt))) $
    let address = first_address ds in let more = more_follow ds in
    let b = two.0.ref_ptr.0 in let at_text = two.0.ref_ptr.1 in let p : ℕ = 10 + at_text in
    let front : List ℕ = datagram_head (serial % 256) Lrw address (first_size ds) more in
    let mid : List ℕ = replicate (first_size ds) 0 in
    let back : List ℕ = 0 ∷ 0 ∷ [] in
    let F : List ℕ → List ℕ = λ bytes. sent_datagram_text serial more (lrw address bytes) in
    let long : length mid ≡ first_size ds = length-replicate (first_size ds) 0 in
    let text : two.0.now ≡ F mid = front_is ∙ ap (λ (k : ℕ). take (12 + k) rest.now) sized ∙ first_text serial ds rest.now opened some_there in
    let cut_text : two.0.now ≡ front ++ (mid ++ back) = text ∙ datagram_cut serial address (first_size ds) more mid long in
    let fits : (bytes : List ℕ) → length bytes ≡ length mid → F bytes ≡ front ++ (bytes ++ back) = λ bytes e. datagram_cut serial address (first_size ds) more bytes (e ∙ long) in
    let on : at at_text (mem u8).size (length front) ≡ p = at_mul at_text 1 10 in
    let mid_n : length mid ≡ n = long ∙ sym sized in
    let room : Room u8 (length mid) = (omega arith, omega arith) in
    let part : ℕ → MutBor (List ℕ) = λ δ. record { ref_ptr = (b, p); ghost_name = δ; now = mid } in
    let after_said : two.1.now ≡ drop_list (12 + first_size ds) rest.now = back_is ∙ ap (λ (k : ℕ). drop_list (12 + k) rest.now) sized in
    let new : declared.Open = record { rest = two.1; datagrams = first.1; serial = serial; standing = open_rest serial ds rest.now first.1.now two.1.now opened some_there others after_said } in
    let after_val : Val = slice_val two.1.ref_ptr (length two.1.now) in let others_val : Val = slice_val first.1.ref_ptr (length first.1.now) in
    let part_val : Val = slice_val (b, p) n in
    let new_val : Val = vstruct (vcons after_val (vcons others_val (vcons (vint w64 serial) vnil))) in
    let out_val : Val = vstruct (vcons part_val (vcons new_val vnil)) in
    move ! (2 ∷ []) $ split ! $ move ! (3 ∷ 0 ∷ []) $
    use2 𝓛 (later (some (part_lent 𝓛 (named 0) κ q b at_text two.0.ghost_name u8 two.0.now front mid back cut_text F fits p on room)))
    (lends_part 𝓛 (named 0) κ q b at_text two.0.ghost_name u8 two.0.now front mid back cut_text F fits p on room (mut_slice_vals two.0)) $ await ! tt $ pick ! (λ δ. split3 ! $
    rewrite ! 0 (λ (k : ℕ). ‵ (Part.own_val (part δ) (slice_val (b, p) k ∷ []))) mid_n refl $
    -- [the part; the token, in two; its tie; nothing; what is after; the tie; the datagrams left; nothing]
    move ! (5 ∷ 2 ∷ []) $
    use2 𝓛 (‵ (follows_both (Array u8 0) (Array u8 0) (Array u8 0) rest.ghost_name δ two.1.ghost_name (λ bytes after_it. F bytes ++ after_it))) (both_through 𝓛 u8 F rest.ghost_name two.0.ghost_name two.1.ghost_name δ) $
    -- [the tie; the part; the token; nothing, twice; what is after; the datagrams left; nothing]
    nothing ! $ owned ! u64 _ (uint_Makes 𝓛 w64) serial _ (refl, serial_fits) $ fjoin ! $ move ! (6 ∷ 0 ∷ []) $ fjoin ! $ move ! (5 ∷ 0 ∷ []) $ fjoin ! $
    feq_i ! (List Val) (new_val ∷ []) (new_val ∷ []) refl $ fjoin ! $
    fpack ! (Valss (shape (Open.the_type o)).fields) (within (shape (Open.the_type o)) ((Open.the_type o).to new) (new_val ∷ [])) (after_val ∷ [], (others_val ∷ [], (vint w64 serial ∷ [], tt))) $
    use1 𝓛 (‵ (Frame.own_val new (new_val ∷ []))) (id⊢ 𝓤 _) $ move ! (2 ∷ 0 ∷ []) $
    use2 𝓛 (‵ (Out.own_val (part δ, new) (out_val ∷ []))) (makes_pair 𝓛 Part Frame (part δ) new part_val new_val) $
    use1 𝓛 (‵ ((option.the_row Out).own_val (Some (part δ, new)) (live 1 (of_list (out_val ∷ [])) ∷ []))) (makes_some 𝓛 Out (part δ, new) out_val) $
    -- [the result; the tie; the token, in two; ..]
    returns ! (look_at ! 0 refl) $ free_all ! refl $ keep ! (2 ∷ 3 ∷ 0 ∷ 1 ∷ []) $ join ! $
    suffices ! _ (ends_at 𝓛 f.ended stayed c y (live 1 (of_list (out_val ∷ []))) (Some (part δ, new)) ((tt, tt), tt) (tt, tt)) $
    nothing ! $ nothing ! $ fjoin ! $ move ! (0 ∷ 2 ∷ []) $ join ! $ move ! (1 ∷ 0 ∷ []) $ join ! $ frame ! $ frame ! $
    by ! (says_three 𝓛 (λ none. cc, λ none. absurd (omega (arith, ap length none))) refl
    (record { serial = refl; datagrams = others; rest = after_said })))))))))))))))))))))))))))))))
