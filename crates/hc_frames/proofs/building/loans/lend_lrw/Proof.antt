-- `lend_lrw` lends the data part of the frame that it wrote.
use Rattle.hc_frames.proofs.Steps.{◌≡◌, ℕ, ◌+◌, ◌-◌, ◌^◌, ◌<◌, List, [], ◌∷◌, ◌++◌, length, replicate, drop_list, refl, ap, ◌∙◌, arith, w16, w32, w64, MutBor, proved, at, at_mul, ftrue, flft, id⊢, fact, tables, u8, u16, u32, u64, yes, no, shows, mem, uint_vals, uint_Tells, plain, mut_slice_of, MutSlice, Room, slice_val, mut_slice_vals, mut_slice_Tells, nothing, heard, peeks, only, calls_at, lasts, triple_of, framed, says, Stays, stay_dropped, walk_of, ends_at, Goes-dropped, Goes-spent_slice, named, Val, vint, alloc_all, pass_all, free_all, look_at, look_in_at, get, get_in, through, sets, lands_as, is, ‵, raw, ◌⊛◌, some, later, ◌$◌, ◌∵◌, !, qed, move, drop, use1, use2, split, split3, join, fjoin, rewrite, await, pick, suffices, frame, done, whole, sub, agg, stop, fld, hop, from, lit, un, bin, addr, and_then, no_more, returns, enter}
use Rattle.std.proofs.lemmas.List.{length-replicate}
use denote.Array.{Array}
use denote.Follow.{follows}
use denote.Triple.Clauses.{Lasts}
use Rattle.hc_frames.specs.FrameText.{frame_text, blank_lrw}
use Rattle.hc_frames.specs.Lending.{with_frame}
use Rattle.hc_frames.specs.Sizes.{frame_size}
use Rattle.hc_frames.proofs.Lent.{part_lent, lends_part}
use Rattle.hc_frames.proofs.Spelled.{frame_front, frame_back, frame_cut}
use Rattle.hc_frames.specs.contracts.building.loans.lend_lrw as f
use Rattle.hc_frames.proofs.building.loans.lend_lrw.Statement.{statement}
use Rattle.hc_frames.proofs.building.loans.lend_lrw.Code as code
use Rattle.hc_frames.specs.contracts.building.loans.with_blank_lrw as g
use Rattle.hc_frames.proofs.building.loans.with_blank_lrw.Met.{met}

abbrev stayed : Stays f.ended.signature.params f.ended.kept
stayed = (stay_dropped (mut_slice_of (0 ∷ []) tt (plain (λ _. u8))) no, (stay_dropped (plain (λ _. u64)) yes, (stay_dropped (plain (λ _. u32)) yes, (stay_dropped (plain (λ _. u16)) yes, tt))))

pub lend_lrw_spec : {M : Type 1} → statement M
lend_lrw_spec 𝓤 𝓛 𝓜 𝓡 wired =
    let c = f.clauses 𝓛 𝓜.mem 𝓡.returns in let W = walk_of 𝓛 f.ended stayed c in let 𝓣 = tables 𝓤 𝓛.H 𝓜 𝓡 𝓡.env in
    proved 𝓛 f.ended stayed c 𝓜 𝓡
    (Goes-spent_slice 𝓛 1 (0 ∷ []) tt (plain (λ _. u8)), (Goes-dropped 𝓛 1 (plain (λ _. u64)) yes (λ κs x w. refl), (Goes-dropped 𝓛 1 (plain (λ _. u32)) yes (λ κs x w. refl), (Goes-dropped 𝓛 1 (plain (λ _. u16)) yes (λ κs x w. refl), tt))))
    f.Key.name code.function (code.unfolded 𝓤 𝓛.H 𝓜 𝓡 wired)
    (λ κs. (mut_slice_vals, (uint_vals w64, (uint_vals w32, (uint_vals w16, tt)))))
    (λ κs. (mut_slice_Tells (named 0) κs.0 u8, (uint_Tells w64, (uint_Tells w32, (uint_Tells w16, tt))))) (λ κs qs bounds a _ are.
    let κ = κs.0 in let q = qs.0 in let out = a.0 in let serial = a.1.0 in let address = a.1.1.0 in let size = a.1.1.1.0 in let tail : List ℕ = drop_list (frame_size size) out.now in
    let vss : List Val × (List Val × (List Val × (List Val × Unit {0}))) = (mut_slice_vals out, (uint_vals w64 a.1.0, (uint_vals w32 a.1.1.0, (uint_vals w16 size, tt)))) in
    let y : W.Ghost = ((κs, qs, bounds, a, vss), tt) in
    let G = triple_of 𝓛 g.signature (g.spec 𝓛 𝓜.mem 𝓡.returns) in
    let z : G.Ghost = ((κs, qs, bounds, a, vss), tt) in
    qed 𝓛 (raw (G.pre z) ∷ []) ∵ enter ! _ _ _ _ _ $
    alloc_all ! (λ l. pass_all ! refl ((tt, (tt, (record { fits = are.0.0.1.0 }, tt))), ((tt, record { fits = are.1.0.1 }), ((tt, record { fits = are.1.1.0.1 }), ((tt, record { fits = are.1.1.1.0.1 }), tt)))) $
    sets ! (addr ! (from ! (fld ! refl (hop ! (look_in_at ! 1 (sub ! 0 refl (whole !))) (stop !))))) refl (tt, tt) $
    sets ! (agg ! (and_then ! (get ! refl) (and_then ! (get_in ! (fld ! refl (stop !)) (sub ! 1 refl (whole !))) (no_more !)))) refl (tt, (tt, (record { fits = are.0.0.1.0 }, tt))) $
    calls_at ! (framed 𝓤 𝓛.H 𝓜 𝓣) G (met 𝓤 𝓛 𝓜 𝓡 (code.calls-hc_frames::building::loans::with_blank_lrw 𝓡.env wired)) z
    (and_then ! (get ! refl) (and_then ! (get ! refl) (and_then ! (get ! refl) (and_then ! (get ! refl) (no_more !))))) (λ v.
    use1 𝓛 (later (some (λ (r : MutBor (List ℕ)). ((‵ (flft κ q) ⊛ ‵ ftrue) ⊛ ‵ ((MutSlice (named 0) κ u8).own_val r (v ∷ []))) ⊛
    some (λ (ws : Lasts g.ended κs a). ‵ (lasts g.ended κs a ws) ⊛ (raw (fact 𝓤 (r.ghost_name ≡ out.ghost_name)) ⊛ raw (fact 𝓤 (r.now ≡ frame_text serial (blank_lrw (address, size) ∷ []) ++ tail))))))) (id⊢ 𝓤 _) $
    await ! tt $ pick ! (λ r. split ! $ move ! (1 ∷ []) $ pick ! (λ ws. split ! $ drop ! $ split ! $ heard ! _ (λ same. heard ! _ (λ text.
    split ! $ move ! (1 ∷ []) $ peeks ! (MutSlice (named 0) κ u8) _ (shows 𝓛 (MutSlice (named 0) κ u8)) r (v ∷ []) (λ said.
    rewrite ! 0 (λ (vs : List Val). ‵ ((MutSlice (named 0) κ u8).own_val r vs)) said.0.0 refl $
    lands_as ! (ap only said.0.0) refl (tt, (tt, (record { fits = said.0.1.0 }, tt))) $
    let b = r.ref_ptr.0 in let o = r.ref_ptr.1 in
    let narrow : size < 2 ^ 16 = are.1.1.1.0.1 in
    let wide : size < 2 ^ 64 = omega arith in
    let sum : 26 + size < 2 ^ 64 = omega arith in
    let left : 26 + size - 26 ≡ size = omega arith in
    sets ! (un ! (get ! refl) (record { fits = wide })) refl (tt, record { fits = wide }) $
    sets ! (bin ! (lit ! tt) (get ! refl) (record { fits = sum })) refl (tt, record { fits = sum }) $
    sets ! (bin ! (get_in ! (fld ! refl (stop !)) (sub ! 0 refl (whole !))) (lit ! tt) tt) refl (tt, tt) $
    sets ! (is ! (bin ! (get ! refl) (lit ! tt) (omega arith)) (ap (vint w64) left)) refl (tt, record { fits = wide }) $
    sets ! (addr ! (through ! refl (stop !))) refl (tt, tt) $
    sets ! (agg ! (and_then ! (get ! refl) (and_then ! (get ! refl) (no_more !)))) refl (tt, (tt, (record { fits = wide }, tt))) $
    let front : List ℕ = frame_front serial address size in
    let mid : List ℕ = replicate size 0 in
    let back : List ℕ = frame_back size ++ tail in
    let F : List ℕ → List ℕ = with_frame out.now serial address size in
    let long : length mid ≡ size = length-replicate size 0 in
    let cut : r.now ≡ front ++ (mid ++ back) = text ∙ frame_cut serial address size mid tail long in
    let fits : (bytes : List ℕ) → length bytes ≡ length mid → F bytes ≡ front ++ (bytes ++ back) = λ bytes e. frame_cut serial address size bytes tail (e ∙ long) in
    let p : ℕ = 26 + o in
    let on : at o (mem u8).size (length front) ≡ p = at_mul o 1 26 in
    let room : Room u8 (length mid) = (omega arith, omega arith) in
    let part : ℕ → MutBor (List ℕ) = λ δ. record { ref_ptr = (b, p); ghost_name = δ; now = mid } in
    move ! (1 ∷ []) $ split ! $ move ! (2 ∷ 0 ∷ []) $
    use2 𝓛 (later (some (part_lent 𝓛 (named 0) κ q b o r.ghost_name u8 r.now front mid back cut F fits p on room)))
    (lends_part 𝓛 (named 0) κ q b o r.ghost_name u8 r.now front mid back cut F fits p on room (mut_slice_vals r)) $ await ! tt $ pick ! (λ δ.
    returns ! (look_at ! 0 refl) $ free_all ! refl $ split3 ! $
    rewrite ! 0 (λ (k : ℕ). ‵ ((MutSlice (named 0) κ u8).own_val (part δ) (slice_val (b, p) k ∷ []))) long refl $
    rewrite ! 2 (λ (γ : ℕ). ‵ (follows (Array u8 0) (Array u8 0) γ δ F)) same refl $
    suffices ! _ (ends_at 𝓛 f.ended stayed c y (slice_val (b, p) size) (part δ) (tt, (tt, (tt, (tt, tt)))) (tt, (tt, (tt, (tt, tt))))) $
    nothing ! $ nothing ! $ fjoin ! $ nothing ! $ fjoin ! $ nothing ! $ fjoin ! $ nothing ! $ fjoin ! $ join ! $
    move ! (1 ∷ 3 ∷ []) $ join ! $ join ! $ frame ! $ says ! refl $ done !)))))))))
