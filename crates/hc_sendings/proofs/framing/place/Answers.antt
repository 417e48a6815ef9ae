use Rattle.std.proofs.Common.{◌≡◌, ◌∙◌, ◌+◌, ◌-◌, ◌^◌, ◌<◌, ◌≤◌, ℕ, length, get_or, ap, arith, subst, sym}
use Rattle.std.specs.Prelude.{Option, Some, IfSome}
use Rattle.std.proofs.lemmas.List.{get_or_default}
use Rattle.hc_events.specs.Sendings.{Frame, frame_of_one, frame_joined}
use Rattle.hc_sendings.specs.Framing.{closed, open_in}
use Rattle.hc_sendings.proofs.Framed.{open-at, push-next, set-joined}
use Rattle.hc_sendings.proofs.framing.place.Goals as goal

pub returns-then-has_room-clause-done : goal.returns-then-has_room-clause-done
returns-then-has_room-clause-done c =
    let frames = c.args.frames.now.items in
    let size = c.args.frames.now.ok.0 in
    let count : c.len-count.result ≡ length frames = omega (arith, c.len-count.ensures, size) in
    let some : 1 ≤ length frames = omega (arith, count, c.if-count-eq0.false) in
    let inside : c.len-count.result - 1 < length frames = omega (arith, count, some) in
    let last = c.index.result.now in
    let here : open_in frames ≡ Some last = open-at frames last some (c.index.ensures ∙ ap (λ (n : ℕ). get_or frames (n - 1) last) count) in
    let room = sym c.has_room.ensures ∙ c.if-has_room.true in
    let lent : c.index_mut.result.now ≡ last = c.index_mut.ensures.value ∙ get_or_default frames (c.len-count.result - 1) c.index_mut.result.now last inside ∙ sym c.index.ensures in
    let is = c.join.ensures ∙ ap (λ (frame : Frame). frame_joined frame c.args.datagram c.args.length) lent in
    rw count (set-joined frames last c.join.new.self c.args.serial c.args.length c.args.datagram here room is).0

pub returns-then-has_room-clause-open : goal.returns-then-has_room-clause-open
returns-then-has_room-clause-open c =
    let frames = c.args.frames.now.items in
    let size = c.args.frames.now.ok.0 in
    let count : c.len-count.result ≡ length frames = omega (arith, c.len-count.ensures, size) in
    let some : 1 ≤ length frames = omega (arith, count, c.if-count-eq0.false) in
    let inside : c.len-count.result - 1 < length frames = omega (arith, count, some) in
    let last = c.index.result.now in
    let here : open_in frames ≡ Some last = open-at frames last some (c.index.ensures ∙ ap (λ (n : ℕ). get_or frames (n - 1) last) count) in
    let room = sym c.has_room.ensures ∙ c.if-has_room.true in
    let lent : c.index_mut.result.now ≡ last = c.index_mut.ensures.value ∙ get_or_default frames (c.len-count.result - 1) c.index_mut.result.now last inside ∙ sym c.index.ensures in
    let is = c.join.ensures ∙ ap (λ (frame : Frame). frame_joined frame c.args.datagram c.args.length) lent in
    rw count (set-joined frames last c.join.new.self c.args.serial c.args.length c.args.datagram here room is).1

pub overflow_add-next : goal.overflow_add-next
overflow_add-next c =
    let frames = c.args.frames.now.items in
    let size = c.args.frames.now.ok.0 in
    let count : c.len-count.result ≡ length frames = omega (arith, c.len-count.ensures, size) in
    let some : 1 ≤ length frames = omega (arith, count, c.if-count-eq0.false) in
    let inside : c.len-count.result - 1 < length frames = omega (arith, count, some) in
    let last = c.index.result.now in
    let here : open_in frames ≡ Some last = open-at frames last some (c.index.ensures ∙ ap (λ (n : ℕ). get_or frames (n - 1) last) count) in
    let same : c.index-2.result.now ≡ last = c.index-2.ensures ∙ get_or_default frames (c.len-count.result - 1) c.index-2.result.now last inside ∙ sym c.index.ensures in
    let low : last.serial + 1 < 2 ^ 64 = subst (λ (o : Option Frame). IfSome o (λ frame. frame.serial + 1 < 2 ^ 64)) here c.requires.serial in
    let is = c.serial-next.ensures ∙ ap (λ (frame : Frame). frame.serial) same in
    omega (arith, low, is)

pub returns-clause-done : goal.returns-clause-done
returns-clause-done c =
    let frames = c.args.frames.now.items in
    let size = c.args.frames.now.ok.0 in
    let count : c.len-count.result ≡ length frames = omega (arith, c.len-count.ensures, size) in
    let some : 1 ≤ length frames = omega (arith, count, c.if-count-eq0.false) in
    let inside : c.len-count.result - 1 < length frames = omega (arith, count, some) in
    let last = c.index.result.now in
    let here : open_in frames ≡ Some last = open-at frames last some (c.index.ensures ∙ ap (λ (n : ℕ). get_or frames (n - 1) last) count) in
    let room = sym c.has_room.ensures ∙ c.if-has_room.false in
    let same : c.index-2.result.now ≡ last = c.index-2.ensures ∙ get_or_default frames (c.len-count.result - 1) c.index-2.result.now last inside ∙ sym c.index.ensures in
    let is = c.of-2.ensures ∙ ap (λ (serial : ℕ). frame_of_one (serial + 1) c.args.datagram c.args.length) (c.serial-next.ensures ∙ ap (λ (frame : Frame). frame.serial) same) in
    ap closed c.in_ok-push-2.ensures.items ∙ (push-next frames last c.of-2.result c.args.serial c.args.length c.args.datagram here room is).0

pub returns-clause-open : goal.returns-clause-open
returns-clause-open c =
    let frames = c.args.frames.now.items in
    let size = c.args.frames.now.ok.0 in
    let count : c.len-count.result ≡ length frames = omega (arith, c.len-count.ensures, size) in
    let some : 1 ≤ length frames = omega (arith, count, c.if-count-eq0.false) in
    let inside : c.len-count.result - 1 < length frames = omega (arith, count, some) in
    let last = c.index.result.now in
    let here : open_in frames ≡ Some last = open-at frames last some (c.index.ensures ∙ ap (λ (n : ℕ). get_or frames (n - 1) last) count) in
    let room = sym c.has_room.ensures ∙ c.if-has_room.false in
    let same : c.index-2.result.now ≡ last = c.index-2.ensures ∙ get_or_default frames (c.len-count.result - 1) c.index-2.result.now last inside ∙ sym c.index.ensures in
    let is = c.of-2.ensures ∙ ap (λ (serial : ℕ). frame_of_one (serial + 1) c.args.datagram c.args.length) (c.serial-next.ensures ∙ ap (λ (frame : Frame). frame.serial) same) in
    ap open_in c.in_ok-push-2.ensures.items ∙ (push-next frames last c.of-2.result c.args.serial c.args.length c.args.datagram here room is).1
