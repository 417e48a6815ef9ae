-- `build_frame` hands out what is after the head of the frame that it wrote, or leaves the slice as it was.
use Rattle.hc_frames.proofs.Steps.{◌≡◌, ℕ, ◌+◌, ◌-◌, ◌*◌, ◌^◌, ◌<◌, ◌≤◌, List, [], ◌∷◌, ◌++◌, length, drop_list, refl, sym, ap, ◌∙◌, subst, lit<, arith, w64, MutBor, proved, at, at_mul, ftrue, flft, id⊢, fact, tables, u8, u16, u32, u64, usize, yes, no, shows, mem, uint_vals, uint_Tells, owns, plain, mut_slice_of, MutSlice, Room, slice_val, mut_slice_vals, mut_slice_Tells, nothing, heard, peeks, only, calls_at, lasts, triple_of, framed, Stays, stay_dropped, walk_of, ends_at, Goes-dropped, Goes-spent_slice, named, Val, vint, alloc_all, pass_all, free_all, look_at, look_in_at, get, get_in, through, sets, lands_as, env, at_ret, ‵, raw, ◌⊛◌, some, later, ◌$◌, ◌∵◌, !, qed, move, keep, drop, use0, use1, use2, split, split3, join, fsplit, fjoin, rewrite, await, pick, suffices, frame, whole, sub, agg, stop, fld, hop, from, of_opd, lit, bin, addr, and_then, no_more, returns, enter}
use Rattle.std.proofs.Common.{map, append-nil, ltb→lt, nltb→le}
use Rattle.std.proofs.lemmas.List.{length-drop}
use Rattle.std.specs.declared.result.Result.TheVariants.{Ok, Err}
use Rattle.std.specs.contracts.result.Result as result
use base.Fml.{fobs}
use base.Logic.{emp}
use base.Stored.{coded_list}
use contract.Monad.{fact_i}
use denote.Array.{Array}
use denote.Follow.{follows, follows_by}
use denote.FollowSlice.{heres_id}
use denote.Plain.{uint_Makes}
use denote.RattleType.{Valss}
use denote.Shadow.{makes_shadow}
use denote.Signature.{named_lft, shr_slice_of}
use denote.Slice.{ShrSlice, shr_slice_vals, shr_slice_Tells, shr_slice_copy}
use denote.Steps.{owned}
use denote.Struct.Declared.{shape}
use denote.Struct.Struct.{within}
use denote.Struct.Laws.{u16-copy, u32-copy}
use denote.Struct.Tuple.{Tuple, tuple_copy}
use denote.Triple.Clauses.{Lasts}
use mir.Val.{vstruct, vcons, vnil, of_list}
use types.Kit.{by, fpack, feq_i, fsplit3, feq_l, flt_l}
use types.Match.{live}
use types.Run.{first, branches, skips, exec, returns_within}
use types.Tokens.{name_done}
use Rattle.hc_frames.proofs.Lent.{part_lent, lends_part}
use Rattle.hc_frames.proofs.lemmas.Opening.{frame_rest, frame_opens, head_cut}
use Rattle.hc_frames.proofs.Results.{makes_ok, makes_err, says_three}
use Rattle.hc_frames.specs.FrameText.{frame_text, frame_head, blank_lrw}
use Rattle.hc_frames.specs.Sizes.{ShareFrame, datagrams_size, frame_bytes}
use Rattle.hc_frames.specs.declared.building.opened.Open as declared
use Rattle.hc_frames.specs.contracts.building.Room as Room
use Rattle.hc_frames.specs.contracts.building.opened.Open as Open
use Rattle.hc_frames.specs.contracts.building.opened.writing.build_frame as f
use Rattle.hc_frames.proofs.building.opened.writing.build_frame.Statement.{statement}
use Rattle.hc_frames.proofs.building.opened.writing.build_frame.Code as code
use Rattle.hc_frames.specs.contracts.building.opened.writing.whole_size as sized
use Rattle.hc_frames.proofs.building.opened.writing.whole_size.Met as sized_met
use Rattle.hc_frames.specs.contracts.building.opened.writing.with_blank_frame as blank
use Rattle.hc_frames.proofs.building.opened.writing.with_blank_frame.Met as blank_met

abbrev stayed : Stays f.ended.signature.params f.ended.kept
stayed = (stay_dropped (mut_slice_of (0 ∷ []) tt (plain (λ _. u8))) no, (stay_dropped (plain (λ _. u64)) yes, (stay_dropped (shr_slice_of (0 ∷ []) tt (plain (λ _. Tuple (u32 ∷ u16 ∷ [])))) yes, tt)))

pub build_frame_spec : {M : Type 1} → statement M
unfolding follows_by
build_frame_spec 𝓤 𝓛 𝓜 𝓡 wired =
    let c = f.clauses 𝓛 𝓜.mem 𝓡.returns in let W = walk_of 𝓛 f.ended stayed c in let 𝓣 = tables 𝓤 𝓛.H 𝓜 𝓡 𝓡.env in
    proved 𝓛 f.ended stayed c 𝓜 𝓡
    (Goes-spent_slice 𝓛 1 (0 ∷ []) tt (plain (λ _. u8)), (Goes-dropped 𝓛 1 (plain (λ _. u64)) yes (λ κs x w. refl), (Goes-dropped 𝓛 1 (shr_slice_of (0 ∷ []) tt (plain (λ _. Tuple (u32 ∷ u16 ∷ [])))) yes (λ κs x w. refl), tt)))
    f.Key.name code.function (code.unfolded 𝓤 𝓛.H 𝓜 𝓡 wired)
    (λ κs. (mut_slice_vals, (uint_vals w64, (shr_slice_vals, tt))))
    (λ κs. (mut_slice_Tells (named 0) κs.0 u8, (uint_Tells w64, (shr_slice_Tells (named 0) κs.0 (Tuple (u32 ∷ u16 ∷ [])), tt)))) (λ κs qs bounds a _ are.
    let κ = κs.0 in let q = qs.0 in let out = a.0 in let serial = a.1.0 in let list = a.1.1.0 in let ds = list.now in
    let Pair = Tuple (u32 ∷ u16 ∷ []) in
    let Part = MutSlice (named 0) κ u8 in let Pairs = ShrSlice (named 0) κ Pair in
    let o = named_lft 1 0 tt κs in let Frame = Open.the_row o in let Out = result.the_row Frame Room.the_row in
    let vss : List Val × (List Val × (List Val × Unit {0})) = (mut_slice_vals out, (uint_vals w64 serial, (shr_slice_vals list, tt))) in
    let y : W.Ghost = ((κs, qs, bounds, a, vss), tt) in
    let twice = (shr_slice_copy 𝓛 (named 0) κ Pair (tuple_copy (u32 ∷ u16 ∷ []) (u32-copy, (u16-copy, tt))).shr_laws).twice list (shr_slice_vals list) in
    let list_long : length ds < 2 ^ 64 = are.1.1.0.0.1.0 in
    let serial_fits : serial < 2 ^ 64 = are.1.0.1 in
    qed 𝓛 (((‵ (flft κ q) ⊛ ‵ ftrue) ⊛ ‵ (owns (Part ∷ u64 ∷ Pairs ∷ []) a vss)) ∷ (raw (fact 𝓤 (serial < 2 ^ 40)) ⊛ raw (fact 𝓤 (ShareFrame ds))) ∷ []) ∵
    move ! (1 ∷ []) $ split ! $ heard ! _ (λ bounded. heard ! _ (λ share. split ! $ move ! (1 ∷ []) $ fsplit ! $ move ! (1 ∷ []) $ fsplit ! $ drop ! $ fsplit ! $ move ! (1 ∷ []) $ drop ! $
    use1 𝓛 (‵ (Pairs.own_val list (shr_slice_vals list)) ⊛ ‵ (Pairs.own_val list (shr_slice_vals list))) twice $ split ! $
    use1 𝓛 (‵ (Pairs.own_val list (shr_slice_vals list)) ⊛ ‵ (Pairs.own_val list (shr_slice_vals list))) twice $ split ! $
    -- [the datagrams, three times; the slice; the token]
    enter ! _ _ _ _ _ $
    alloc_all ! (λ l. pass_all ! refl ((tt, (tt, (record { fits = are.0.0.1.0 }, tt))), ((tt, record { fits = serial_fits }), ((tt, (tt, (record { fits = list_long }, tt))), tt))) $
    let G = triple_of 𝓛 sized.signature (sized.spec 𝓛 𝓜.mem 𝓡.returns) in
    let z : G.Ghost = (((κ, tt), (q, tt), tt, (list, tt), (shr_slice_vals list, tt)), tt) in
    nothing ! $ move ! (1 ∷ 0 ∷ []) $ fjoin ! $ move ! (4 ∷ 0 ∷ []) $ join ! $ use0 𝓛 (raw (fact 𝓤 (ShareFrame ds))) (fact_i 𝓤 _ (emp 𝓤) share) $ move ! (1 ∷ 0 ∷ []) $ use2 𝓛 (raw (G.pre z)) (id⊢ 𝓤 _) $
    calls_at ! (framed 𝓤 𝓛.H 𝓜 𝓣) G (sized_met.met 𝓤 𝓛 𝓜 𝓡 (code.calls-hc_frames::building::opened::writing::whole_size 𝓡.env wired)) z (and_then ! (get ! refl) (no_more !)) (λ v.
    use1 𝓛 (later (some (λ (n : ℕ). ((‵ (flft κ q) ⊛ ‵ ftrue) ⊛ ‵ (usize.own_val n (v ∷ []))) ⊛ some (λ (ws : Lasts sized.ended (κ, tt) (list, tt)). ‵ (lasts sized.ended (κ, tt) (list, tt) ws) ⊛ raw (fact 𝓤 (n ≡ frame_bytes (datagrams_size ds))))))) (id⊢ 𝓤 _) $
    await ! tt $ pick ! (λ n. split ! $ move ! (1 ∷ []) $ pick ! (λ ws. split ! $ drop ! $ heard ! _ (λ needed. split ! $ move ! (1 ∷ []) $ fsplit ! $ feq_l ! (λ value. flt_l ! (λ fits.
    lands_as ! (ap only value) refl (tt, record { fits = fits }) $
    -- [the token; the datagrams, twice; the slice]
    sets ! (of_opd ! (get_in ! (fld ! refl (stop !)) (sub ! 1 refl (whole !)))) refl (tt, record { fits = are.0.0.1.0 }) $
    sets ! (bin ! (get ! refl) (get ! refl) tt) refl (tt, tt) $
    first ! $ branches ! (get ! refl)
    (λ short.
    let size_known : length out.now < frame_bytes (datagrams_size ds) = subst (λ (k : ℕ). length out.now < k) needed (ltb→lt (length out.now) n short) in
    let room : Val = vstruct (vcons (vint w64 n) vnil) in
    sets ! (agg ! (and_then ! (get ! refl) (no_more !))) refl (tt, (record { fits = fits }, tt)) $
    sets ! (agg ! (and_then ! (lit ! tt) (and_then ! (get ! refl) (no_more !)))) refl (tt, (record { fits = lit< tt }, ((record { fits = fits }, tt), tt))) $
    move ! (3 ∷ []) $ fsplit3 ! $ drop ! $
    rewrite ! 0 (λ (bytes : List ℕ). ‵ (fobs out.ghost_name ((coded_list u8.coded).code bytes))) (heres_id u8 out.now) refl $ name_done ! tt $
    use0 𝓛 (‵ (Room.the_row.own_val (record { 0 = n }) (room ∷ []))) (makes_shadow 𝓛 (Room.the_row.own_val (record { 0 = n }) (room ∷ [])) (λ vals. (tt, ((tt, tt), tt))) ((vint w64 n ∷ [], tt), (refl, ((refl, fits), tt)))) $
    use1 𝓛 (‵ (Out.own_val (Err (record { 0 = n })) (live 1 (of_list (room ∷ [])) ∷ []))) (makes_err 𝓛 Frame Room.the_row (record { 0 = n }) room) $
    returns_within ! (W.post y) refl (look_at ! 0 refl) $ free_all ! refl $ keep ! (0 ∷ 3 ∷ 1 ∷ []) $
    suffices ! _ (ends_at 𝓛 f.ended stayed c y (live 1 (of_list (room ∷ []))) (Err (record { 0 = n })) (tt, (tt, (tt, tt))) (tt, (tt, (tt, tt)))) $
    nothing ! $ nothing ! $ fjoin ! $ nothing ! $ fjoin ! $ nothing ! $ fjoin ! $ join ! $ move ! (1 ∷ 0 ∷ []) $ join ! $ frame ! $ frame ! $
    by ! (says_three 𝓛 (λ _. size_known, λ _. refl) needed tt))
    (λ enough.
    skips ! $ exec ! 𝓣.C 𝓣.Λ (env code.Mir.locals l) code.Mir.t-5 (at_ret _ (W.post y)) $
    sets ! (addr ! (from ! (fld ! refl (hop ! (look_in_at ! 1 (sub ! 0 refl (whole !))) (stop !))))) refl (tt, tt) $
    sets ! (agg ! (and_then ! (get ! refl) (and_then ! (get_in ! (fld ! refl (stop !)) (sub ! 1 refl (whole !))) (no_more !)))) refl (tt, (tt, (record { fits = are.0.0.1.0 }, tt))) $
    let room : frame_bytes (datagrams_size ds) ≤ length out.now = subst (λ (k : ℕ). k ≤ length out.now) needed (nltb→le (length out.now) n enough) in
    let tail : List ℕ = drop_list (frame_bytes (datagrams_size ds)) out.now in
    let B = triple_of 𝓛 blank.signature (blank.spec 𝓛 𝓜.mem 𝓡.returns) in
    let x : B.Ghost = ((κs, qs, bounds, a, vss), tt) in
    nothing ! $ move ! (2 ∷ 0 ∷ []) $ fjoin ! $ owned ! u64 _ (uint_Makes 𝓛 w64) serial _ (refl, serial_fits) $ fjoin ! $ move ! (3 ∷ 0 ∷ []) $ fjoin ! $ move ! (1 ∷ 0 ∷ []) $ join ! $
    use0 𝓛 (raw (fact 𝓤 (ShareFrame ds))) (fact_i 𝓤 _ (emp 𝓤) share) $ use0 𝓛 (raw (fact 𝓤 (serial < 2 ^ 40))) (fact_i 𝓤 _ (emp 𝓤) bounded) $ join ! $
    use0 𝓛 (raw (fact 𝓤 (frame_bytes (datagrams_size ds) ≤ length out.now))) (fact_i 𝓤 _ (emp 𝓤) room) $ join ! $ move ! (1 ∷ 0 ∷ []) $ use2 𝓛 (raw (B.pre x)) (id⊢ 𝓤 _) $
    calls_at ! (framed 𝓤 𝓛.H 𝓜 𝓣) B (blank_met.met 𝓤 𝓛 𝓜 𝓡 (code.calls-hc_frames::building::opened::writing::with_blank_frame 𝓡.env wired)) x
    (and_then ! (get ! refl) (and_then ! (get ! refl) (and_then ! (get ! refl) (no_more !)))) (λ w.
    use1 𝓛 (later (some (λ (r : MutBor (List ℕ)). ((‵ (flft κ q) ⊛ ‵ ftrue) ⊛ ‵ (Part.own_val r (w ∷ []))) ⊛
    some (λ (ws : Lasts blank.ended κs a). ‵ (lasts blank.ended κs a ws) ⊛ (raw (fact 𝓤 (r.ghost_name ≡ out.ghost_name)) ⊛ raw (fact 𝓤 (r.now ≡ frame_text serial (map blank_lrw ds) ++ tail))))))) (id⊢ 𝓤 _) $
    await ! tt $ pick ! (λ r. split ! $ move ! (1 ∷ []) $ pick ! (λ ws. split ! $ drop ! $ split ! $ heard ! _ (λ same. heard ! _ (λ text.
    split ! $ move ! (1 ∷ []) $ peeks ! Part _ (shows 𝓛 Part) r (w ∷ []) (λ said.
    rewrite ! 0 (λ (vs : List Val). ‵ (Part.own_val r vs)) said.0.0 refl $
    lands_as ! (ap only said.0.0) refl (tt, (tt, (record { fits = said.0.1.0 }, tt))) $
    -- [the frame; the token; the datagrams]
    let b = r.ref_ptr.0 in let start = r.ref_ptr.1 in let p : ℕ = 16 + start in
    let front : List ℕ = frame_head serial (datagrams_size ds) in
    let mid : List ℕ = drop_list 16 r.now in
    let F : List ℕ → List ℕ = λ after_it. front ++ after_it in
    let cut : r.now ≡ front ++ (mid ++ []) = head_cut serial ds tail r.now text in
    let long : length mid ≡ length r.now - 16 = length-drop 16 r.now in
    let full : length r.now ≡ 16 + length mid = ap length (cut ∙ ap F (append-nil mid)) ∙ omega arith in
    let most : length r.now < 2 ^ 64 = said.0.1.0 in
    let mid_fits : length r.now - 16 < 2 ^ 64 = omega arith in
    let bytes_fit : length r.now * 1 < 2 ^ 63 = said.0.1.1 in
    let room' : Room u8 (length mid) = (omega arith, omega arith) in
    let on : at start (mem u8).size (length front) ≡ p = at_mul start 1 16 in
    let opened = frame_rest serial ds tail r.now text in
    sets ! (bin ! (get_in ! (fld ! refl (stop !)) (sub ! 0 refl (whole !))) (lit ! tt) tt) refl (tt, tt) $
    sets ! (bin ! (get_in ! (fld ! refl (stop !)) (sub ! 1 refl (whole !))) (lit ! tt) (omega arith)) refl (tt, record { fits = mid_fits }) $
    sets ! (addr ! (through ! refl (stop !))) refl (tt, tt) $
    sets ! (agg ! (and_then ! (get ! refl) (and_then ! (get ! refl) (no_more !)))) refl (tt, (tt, (record { fits = mid_fits }, tt))) $
    sets ! (agg ! (and_then ! (get ! refl) (and_then ! (get ! refl) (and_then ! (get ! refl) (no_more !))))) refl (tt, ((tt, (record { fits = mid_fits }, tt)), ((tt, (record { fits = list_long }, tt)), (record { fits = serial_fits }, tt)))) $
    sets ! (agg ! (and_then ! (lit ! tt) (and_then ! (get ! refl) (no_more !)))) refl (tt, (record { fits = lit< tt }, (((tt, (record { fits = mid_fits }, tt)), ((tt, (record { fits = list_long }, tt)), (record { fits = serial_fits }, tt))), tt))) $
    let part : ℕ → MutBor (List ℕ) = λ δ. record { ref_ptr = (b, p); ghost_name = δ; now = mid } in
    let new : ℕ → declared.Open = λ δ. record { rest = part δ; datagrams = list; serial = serial; standing = frame_opens serial ds tail mid opened } in
    let part_val : Val = slice_val (b, p) (length r.now - 16) in let list_val : Val = slice_val list.ref_ptr (length ds) in
    let new_val : Val = vstruct (vcons part_val (vcons list_val (vcons (vint w64 serial) vnil))) in
    let whole_cut : (after_it : List ℕ) → length after_it ≡ length mid → F after_it ≡ front ++ (after_it ++ []) = λ after_it e. ap F (sym (append-nil after_it)) in
    move ! (1 ∷ []) $ split ! $ move ! (2 ∷ 0 ∷ []) $
    use2 𝓛 (later (some (part_lent 𝓛 (named 0) κ q b start r.ghost_name u8 r.now front mid [] cut F whole_cut p on room')))
    (lends_part 𝓛 (named 0) κ q b start r.ghost_name u8 r.now front mid [] cut F whole_cut p on room' (mut_slice_vals r)) $ await ! tt $ pick ! (λ δ. split3 ! $
    rewrite ! 0 (λ (k : ℕ). ‵ (Part.own_val (part δ) (slice_val (b, p) k ∷ []))) long refl $
    rewrite ! 2 (λ (γ : ℕ). ‵ (follows (Array u8 0) (Array u8 0) γ δ F)) same refl $
    -- [what is after the head; the token, in two; its tie; nothing; the datagrams]
    nothing ! $ owned ! u64 _ (uint_Makes 𝓛 w64) serial _ (refl, serial_fits) $ fjoin ! $ move ! (5 ∷ 0 ∷ []) $ fjoin ! $ move ! (1 ∷ 0 ∷ []) $ fjoin ! $
    feq_i ! (List Val) (new_val ∷ []) (new_val ∷ []) refl $ fjoin ! $
    fpack ! (Valss (shape (Open.the_type o)).fields) (within (shape (Open.the_type o)) ((Open.the_type o).to (new δ)) (new_val ∷ [])) (part_val ∷ [], (list_val ∷ [], (vint w64 serial ∷ [], tt))) $
    use1 𝓛 (‵ (Frame.own_val (new δ) (new_val ∷ []))) (id⊢ 𝓤 _) $
    use1 𝓛 (‵ (Out.own_val (Ok (new δ)) (live 0 (of_list (new_val ∷ [])) ∷ []))) (makes_ok 𝓛 Frame Room.the_row (new δ) new_val) $
    returns ! (look_at ! 0 refl) $ free_all ! refl $ keep ! (1 ∷ 3 ∷ 0 ∷ 2 ∷ []) $ join ! $
    suffices ! _ (ends_at 𝓛 f.ended stayed c y (live 0 (of_list (new_val ∷ []))) (Ok (new δ)) (tt, (tt, (tt, tt))) (tt, (tt, (tt, tt)))) $
    nothing ! $ nothing ! $ fjoin ! $ nothing ! $ fjoin ! $ nothing ! $ fjoin ! $ move ! (0 ∷ 2 ∷ []) $ join ! $ move ! (1 ∷ 0 ∷ []) $ join ! $ frame ! $ frame ! $
    by ! (says_three 𝓛 (λ none. cc, λ short. absurd (omega arith)) tt
    (record { serial_is = refl; datagrams_are = refl; text = opened }))))))))))))))))))))
