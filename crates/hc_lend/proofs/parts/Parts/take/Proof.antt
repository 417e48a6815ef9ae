-- `take` hands out the first part and the rest, and once both loans have ended the slice is the two joined.
-- By hand: the borrow checker follows no loan out of a slice that a struct passed by value holds.
-- The walk takes the struct apart, calls `split_lengths` (g) and `cut` (h), whose loans it hands on, and puts the rest into a new struct.
use Rattle.std.proofs.Common.{◌≡◌, ℕ, ◌<◌, ◌≤◌, List, [], ◌∷◌, ◌++◌, length, sum, refl, sym, ap, ◌∙◌, w32, Bor, MutBor, arith, length-append}
use Rattle.std.proofs.raw_atomic.Walks.{proved, leaves}
use base.Logic.{id⊢, emp}
use base.Fml.{ftrue, flft}
use mir.Syntax.{named}
use mir.Val.{Val, vint, vstruct, vcons, vnil, of_list}
use contract.Monad.{fact, fact_i}
use contract.Running.{tables}
use types.Kit.{‵, raw, ◌⊛◌, some, later, ◌$◌, ◌∵◌, !, qed, done, move, keep, drop, use0, use1, use2, split, join, fsplit, fjoin, fpick, fpack, feq_l, feq_i, pick, await, by, updating, now}
use types.Run.{enter, of_opd, addr, fld, hop, from, stop, and_then, no_more, returns}
use types.Part.{whole, sub, agg}
use types.ByLocal.{alloc_all, pass_all, free_all, look_at, look_in_at, get, get_in, sets, lands_as}
use denote.Builtin.{u8, u32}
use denote.Exit.{no}
use denote.Signature.{plain, named_lft}
use denote.Slice.{Room, MutSlice, ShrSlice, slice_val, mut_slice_at, shr_slice_at, mut_slice_vals, shr_slice_vals}
use denote.Shadow.{pure_l, pure_i}
use denote.Struct.Declared.{shape}
use denote.Struct.Struct.{within}
use denote.Struct.Tuple.{Tuple, tuple_type}
use denote.RattleType.{RattleType, Valss}
use denote.Steps.{nothing, heard, only, owned}
use denote.Plain.{uint_Makes}
use Rattle.std.specs.Borrow.{LendsBoth, Array}
use denote.Triple.Call.{calls_at}
use denote.Triple.Clauses.{lasts, Lasts}
use denote.Triple.Spec.{triple_of}
use denote.Triple.Table.{framed}
use denote.Triple.Walked.{Stays, stay_dropped}
use Rattle.std.proofs.lemmas.List.Sums.{sum_by-cons}
use Rattle.hc_lend.specs.declared.parts.Parts.{Parts}
use Rattle.hc_lend.specs.contracts.parts.Parts.take as f
use Rattle.hc_lend.specs.contracts.parts.Parts.{the_row as R, the_type}
use Rattle.hc_lend.proofs.parts.Parts.TheLaws.{lowers, lowered}
use Rattle.hc_lend.proofs.parts.Parts.take.Statement.{statement}
use Rattle.hc_lend.proofs.parts.Parts.take.Code as code
use Rattle.hc_lend.specs.contracts.parts.split_lengths as g
use Rattle.hc_lend.proofs.parts.split_lengths.Met.{met as g_met}
use Rattle.hc_lend.specs.contracts.parts.cut as h
use Rattle.hc_lend.proofs.parts.cut.Met.{met as h_met}

abbrev stayed : Stays f.ended.signature.params f.ended.kept
stayed = (stay_dropped (plain (λ κs. R (named_lft 1 0 tt κs))) no, tt)

pub take_spec : {M : Type 1} → statement M
take_spec 𝓤 𝓛 𝓜 𝓡 wired =
    let c = f.clauses 𝓛 𝓜.mem 𝓡.returns in
    let 𝓣 = tables 𝓤 𝓛.H 𝓜 𝓡 𝓡.env in
    proved 𝓛 f.ended stayed c 𝓜 𝓡 ((λ κs x w vs fits. qed 𝓛 (‵ ftrue ∷ []) ∵ updating ! $ now ! $ nothing ! $ fjoin ! $ done !), tt)
    f.Key.name code.function (code.unfolded 𝓤 𝓛.H 𝓜 𝓡 wired)
    (λ κs. ((λ p. lowered p ∷ []), tt)) (λ κs. ((lowers (named_lft 1 0 tt κs)).val_is, tt)) (λ κs qs bounds a e are.
    let κ = κs.0 in let q = qs.0 in let p = a.0 in let G = triple_of 𝓛 g.signature (g.spec 𝓛 𝓜.mem 𝓡.returns) in let G' = triple_of 𝓛 h.signature (h.spec 𝓛 𝓜.mem 𝓡.returns) in
    let room : Room u8 (length p.bytes.now) = are.0.1.1.0.0.1 in
    let lengths_room : Room u32 (length p.lengths.now) = are.0.1.1.1.0.0.1 in
    qed 𝓛 (((‵ (flft κ q) ⊛ ‵ ftrue) ⊛ ‵ ((R (named_lft 1 0 tt κs)).own_val p (lowered p ∷ [])) ⊛ ‵ ftrue) ∷ raw (fact 𝓤 (0 < length p.lengths.now)) ∷ []) ∵
    move ! (1 ∷ []) $ heard ! _ (λ one_left.
    split ! $ split ! $ move ! (2 ∷ []) $ split ! $ keep ! (0 ∷ 2 ∷ []) $
    fpick ! (λ vss. fsplit ! $ feq_l ! (λ _. fsplit ! $
    fsplit ! $ drop ! $ pure_i ! (mut_slice_at u8 p.bytes (mut_slice_vals p.bytes)) (tt, (tt, tt)) (refl, room) $ fjoin ! $
    move ! (1 ∷ []) $ fsplit ! $ move ! (1 ∷ []) $ drop ! $
    fsplit ! $ drop ! $ pure_i ! (shr_slice_at u32 p.lengths (shr_slice_vals p.lengths)) (tt, (tt, tt)) (refl, lengths_room) $ fjoin ! $
    -- [the lengths; the bytes; the token]. The code begins: both fields are read
    enter ! _ _ _ _ _ $ alloc_all ! (λ l. pass_all ! refl ((tt, ((tt, (record { fits = room.0 }, tt)), ((tt, (record { fits = lengths_room.0 }, tt)), tt))), tt) $
    sets ! (of_opd ! (get_in ! (fld ! refl (stop !)) (sub ! 0 refl (whole !)))) refl (tt, (tt, (record { fits = room.0 }, tt))) $
    sets ! (of_opd ! (get_in ! (fld ! refl (stop !)) (sub ! 1 refl (whole !)))) refl (tt, (tt, (record { fits = lengths_room.0 }, tt))) $
    -- split_lengths(lengths)
    nothing ! $ move ! (1 ∷ 0 ∷ []) $ join ! $ nothing ! $ move ! (3 ∷ 0 ∷ []) $ join ! $ join ! $
    use0 𝓛 (raw (fact 𝓤 (0 < length p.lengths.now))) (fact_i 𝓤 _ (emp 𝓤) one_left) $ move ! (1 ∷ 0 ∷ []) $
    let z : G.Ghost = ((κs, qs, bounds, (p.lengths, tt), (shr_slice_vals p.lengths, tt)), tt) in
    use2 𝓛 (raw (G.pre z)) (id⊢ 𝓤 _) $
    calls_at ! (framed 𝓤 𝓛.H 𝓜 𝓣) G (g_met 𝓤 𝓛 𝓜 𝓡 (code.calls-hc_lend::parts::split_lengths 𝓡.env wired)) z (and_then ! (get ! refl) (no_more !)) (λ v.
    use1 𝓛 (later (some (λ (r : ℕ × Bor (List ℕ)). ((‵ (flft κ q) ⊛ ‵ ftrue) ⊛ ‵ ((Tuple (u32 ∷ ShrSlice (named 0) κ u32 ∷ [])).own_val r (v ∷ []))) ⊛
    some (λ (ws : Lasts g.ended κs z.0.3). ‵ (lasts g.ended κs z.0.3 ws) ⊛ raw (fact 𝓤 (p.lengths.now ≡ r.0 ∷ r.1.now)))))) (id⊢ 𝓤 _) $
    await ! tt $ pick ! (λ r. split ! $ split ! $ split ! $ move ! (3 ∷ []) $ pick ! (λ ws. split ! $ move ! (1 ∷ []) $ heard ! _ (λ front.
    drop ! $ move ! (1 ∷ []) $ drop ! $ move ! (1 ∷ []) $
    fpick ! (λ us. fsplit ! $ feq_l ! (λ us_is. fsplit ! $ pure_l ! (u32.own_val r.0 us.0) (λ first. fsplit ! $ move ! (1 ∷ []) $ drop ! $
    fsplit ! $ pure_l ! (shr_slice_at u32 r.1 us.1.0) (λ others. pure_i ! (shr_slice_at u32 r.1 (shr_slice_vals r.1)) (tt, (tt, tt)) (refl, others.1) $ fjoin ! $
    -- [the other lengths; the token; the bytes]
    lands_as ! (ap only (us_is ∙ (λ k. vstruct (of_list (first.0 k ++ (others.0 k ++ []))) ∷ []))) refl (tt, (record { fits = first.1 }, ((tt, (record { fits = others.1.0 }, tt)), tt))) $
    sets ! (of_opd ! (get_in ! (fld ! refl (stop !)) (sub ! 0 refl (whole !)))) refl (tt, record { fits = first.1 }) $
    sets ! (of_opd ! (get_in ! (fld ! refl (stop !)) (sub ! 1 refl (whole !)))) refl (tt, (tt, (record { fits = others.1.0 }, tt))) $
    sets ! (addr ! (from ! (fld ! refl (hop ! (look_in_at ! 2 (sub ! 0 refl (whole !))) (stop !))))) refl (tt, tt) $
    sets ! (agg ! (and_then ! (get ! refl) (and_then ! (get_in ! (fld ! refl (stop !)) (sub ! 1 refl (whole !))) (no_more !)))) refl (tt, (tt, (record { fits = room.0 }, tt))) $
    -- cut(bytes, first): the first length is no more than all of them
    let inside : r.0 ≤ length p.bytes.now = omega (arith, ap sum front, sum_by-cons (λ (n : ℕ). n) r.0 r.1.now, p.all) in
    nothing ! $ owned ! u32 _ (uint_Makes 𝓛 w32) r.0 (vint w32 r.0 ∷ []) (refl, first.1) $ join ! $ move ! (3 ∷ 0 ∷ []) $ join ! $ nothing ! $ move ! (3 ∷ 0 ∷ []) $ join ! $ join ! $
    use0 𝓛 (raw (fact 𝓤 (r.0 ≤ length p.bytes.now))) (fact_i 𝓤 _ (emp 𝓤) inside) $ move ! (1 ∷ 0 ∷ []) $
    let z' : G'.Ghost = ((κs, qs, bounds, (p.bytes, (r.0, tt)), (mut_slice_vals p.bytes, (vint w32 r.0 ∷ [], tt))), tt) in
    use2 𝓛 (raw (G'.pre z')) (id⊢ 𝓤 _) $
    calls_at ! (framed 𝓤 𝓛.H 𝓜 𝓣) G' (h_met 𝓤 𝓛 𝓜 𝓡 (code.calls-hc_lend::parts::cut 𝓡.env wired)) z' (and_then ! (get ! refl) (and_then ! (get ! refl) (no_more !))) (λ v'.
    use1 𝓛 (later (some (λ (s : MutBor (List ℕ) × MutBor (List ℕ)). ((‵ (flft κ q) ⊛ ‵ ftrue) ⊛ ‵ ((Tuple (MutSlice (named 0) κ u8 ∷ MutSlice (named 0) κ u8 ∷ [])).own_val s (v' ∷ []))) ⊛
    some (λ (ws' : Lasts h.ended κs z'.0.3). ‵ (lasts h.ended κs z'.0.3 ws') ⊛ (‵ (LendsBoth (Array u8 0) (Array u8 0) (Array u8 0) p.bytes s ◌++◌) ⊛ (raw (fact 𝓤 (p.bytes.now ≡ s.0.now ++ s.1.now)) ⊛ raw (fact 𝓤 (length s.0.now ≡ r.0)))))))) (id⊢ 𝓤 _) $
    await ! tt $ pick ! (λ s. split ! $ split ! $ split ! $ move ! (3 ∷ []) $ pick ! (λ ws'. split ! $ move ! (1 ∷ []) $ split ! $ move ! (1 ∷ []) $ split ! $ heard ! _ (λ joined. heard ! _ (λ as_long.
    move ! (1 ∷ []) $ drop ! $ move ! (2 ∷ []) $ drop ! $ move ! (2 ∷ []) $
    fpick ! (λ us'. fsplit ! $ feq_l ! (λ us'_is. fsplit ! $
    fsplit ! $ pure_l ! (mut_slice_at u8 s.0 us'.0) (λ part_at. pure_i ! (mut_slice_at u8 s.0 (mut_slice_vals s.0)) (tt, (tt, tt)) (refl, part_at.1) $ fjoin ! $
    move ! (1 ∷ []) $ fsplit ! $ move ! (1 ∷ []) $ drop ! $
    fsplit ! $ pure_l ! (mut_slice_at u8 s.1 us'.1.0) (λ rest_at. pure_i ! (mut_slice_at u8 s.1 (mut_slice_vals s.1)) (tt, (tt, tt)) (refl, rest_at.1) $ fjoin ! $
    -- [the rest; the part; the loan's clause; the token; the other lengths]
    lands_as ! (ap only (us'_is ∙ (λ k. vstruct (of_list (part_at.0 k ++ (rest_at.0 k ++ []))) ∷ []))) refl (tt, ((tt, (record { fits = part_at.1.0 }, tt)), ((tt, (record { fits = rest_at.1.0 }, tt)), tt))) $
    sets ! (of_opd ! (get_in ! (fld ! refl (stop !)) (sub ! 0 refl (whole !)))) refl (tt, (tt, (record { fits = part_at.1.0 }, tt))) $
    sets ! (of_opd ! (get_in ! (fld ! refl (stop !)) (sub ! 1 refl (whole !)))) refl (tt, (tt, (record { fits = rest_at.1.0 }, tt))) $
    sets ! (addr ! (from ! (fld ! refl (hop ! (look_in_at ! 6 (sub ! 0 refl (whole !))) (stop !))))) refl (tt, tt) $
    sets ! (agg ! (and_then ! (get ! refl) (and_then ! (get_in ! (fld ! refl (stop !)) (sub ! 1 refl (whole !))) (no_more !)))) refl (tt, (tt, (record { fits = part_at.1.0 }, tt))) $
    sets ! (addr ! (from ! (fld ! refl (hop ! (look_in_at ! 7 (sub ! 0 refl (whole !))) (stop !))))) refl (tt, tt) $
    sets ! (agg ! (and_then ! (get ! refl) (and_then ! (get_in ! (fld ! refl (stop !)) (sub ! 1 refl (whole !))) (no_more !)))) refl (tt, (tt, (record { fits = rest_at.1.0 }, tt))) $
    sets ! (agg ! (and_then ! (get ! refl) (and_then ! (get ! refl) (no_more !)))) refl (tt, ((tt, (record { fits = rest_at.1.0 }, tt)), ((tt, (record { fits = others.1.0 }, tt)), tt))) $
    sets ! (agg ! (and_then ! (get ! refl) (and_then ! (get ! refl) (no_more !)))) refl (tt, ((tt, (record { fits = part_at.1.0 }, tt)), (((tt, (record { fits = rest_at.1.0 }, tt)), ((tt, (record { fits = others.1.0 }, tt)), tt)), tt))) $
    returns ! (look_at ! 0 refl) $ free_all ! refl $
    -- the new struct, and the pair of the part and the struct
    let after : Parts = record { bytes = s.1; lengths = r.1; all = omega (arith, ap sum front, sum_by-cons (λ (n : ℕ). n) r.0 r.1.now, p.all, ap length joined, length-append s.0.now s.1.now, as_long) } in
    let out : Val = vstruct (vcons (slice_val s.0.ref_ptr (length s.0.now)) (vcons (lowered after) vnil)) in
    let Row : RattleType = R (named_lft 1 0 tt κs) in
    nothing ! $ move ! (5 ∷ 0 ∷ []) $ fjoin ! $ move ! (1 ∷ 0 ∷ []) $ fjoin ! $
    feq_i ! (List Val) (lowered after ∷ []) (lowered after ∷ []) refl $ fjoin ! $
    fpack ! (Valss (MutSlice (named 0) κ u8 ∷ ShrSlice (named 0) κ u32 ∷ [])) (within (shape (the_type (named_lft 1 0 tt κs))) (s.1, (r.1, tt)) (lowered after ∷ [])) (mut_slice_vals s.1, (shr_slice_vals r.1, tt)) $
    nothing ! $ move ! (1 ∷ 0 ∷ []) $ fjoin ! $ move ! (1 ∷ 0 ∷ []) $ fjoin ! $
    feq_i ! (List Val) (out ∷ []) (out ∷ []) refl $ fjoin ! $
    fpack ! (Valss (MutSlice (named 0) κ u8 ∷ Row ∷ [])) (within (shape (tuple_type (MutSlice (named 0) κ u8 ∷ Row ∷ []))) (s.0, (after, tt)) (out ∷ [])) (mut_slice_vals s.0, (lowered after ∷ [], tt)) $
    -- [the pair; the loan's clause; the token]
    use0 𝓛 (raw (fact 𝓤 (p.bytes.now ≡ s.0.now ++ s.1.now))) (fact_i 𝓤 _ (emp 𝓤) joined) $
    use0 𝓛 (raw (fact 𝓤 (p.lengths.now ≡ length s.0.now ∷ r.1.now))) (fact_i 𝓤 _ (emp 𝓤) (front ∙ ap (λ (n : ℕ). n ∷ r.1.now) (sym as_long))) $ join ! $
    move ! (2 ∷ 0 ∷ []) $ join ! $ nothing ! $ move ! (3 ∷ 0 ∷ []) $ join ! $ nothing ! $ nothing ! $ fjoin ! $ keep ! (1 ∷ 0 ∷ 3 ∷ 2 ∷ []) $
    by ! (leaves 𝓛 f.ended stayed c ((κs, qs, bounds, a, (lowered p ∷ [], tt)), e) out (s.0, after) ((tt, tt), tt) (tt, tt))))))))))))))))))))))))
