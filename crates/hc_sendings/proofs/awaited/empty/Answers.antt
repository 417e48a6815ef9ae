use Rattle.std.proofs.Common.{◌≡◌, ◌∙◌, ◌<◌, ℕ, List, [], ap, arith, get_or, length, set, subst, sym}
use Rattle.std.proofs.lemmas.List.{get_or_default}
use Rattle.hc_sendings.specs.Stored.{StoredFrame}
use Rattle.hc_sendings.proofs.Ended.{Reaches, none-emptied, set-emptied}
use Rattle.hc_sendings.proofs.awaited.empty.Goals as goal
use Rattle.hc_sendings.proofs.awaited.empty.Goals.{else-place-len-via-then-place-len+else-serial, else-place-len-via-else-place-len}

pub returns-then-serial-clause-frames : goal.returns-then-serial-clause-frames
returns-then-serial-clause-frames c =
    let frames : List StoredFrame = c.args.frames.now.items in
    let place : ℕ = c.count_below-place.result in
    let found : StoredFrame = c.index.result.now in
    let lent : StoredFrame = c.index_mut.result.now in
    let size = c.args.frames.now.ok.0 in
    let inside : place < length frames = omega (arith, c.if-place-len.true, c.len.ensures, size) in
    let reaches : Reaches frames c.args.serial place = subst (λ (all : List StoredFrame). Reaches all c.args.serial place) c.as_slice.ensures.value c.count_below-place.ensures in
    let same : lent ≡ get_or frames place found = c.index_mut.ensures.value ∙ get_or_default frames place lent found inside in
    let serial : (get_or frames place found).serial ≡ c.args.serial = ap (λ (one : StoredFrame). one.serial) (sym c.index.ensures) ∙ sym c.serial.ensures ∙ c.if-serial.true in
    ap (λ (one : StoredFrame). set frames place one) c.clear.ensures
    ∙ ap (λ (one : StoredFrame). set frames place (record { serial = one.serial; datagrams = [] })) same
    ∙ set-emptied frames c.args.serial place found c.requires reaches inside serial

pub returns-else-place-len-clause-frames : goal.returns-else-place-len-clause-frames
returns-else-place-len-clause-frames c =
    let frames : List StoredFrame = c.args.frames.now.items in
    let place : ℕ = c.count_below-place.result in
    let size = c.args.frames.now.ok.0 in
    let reaches : Reaches frames c.args.serial place = subst (λ (all : List StoredFrame). Reaches all c.args.serial place) c.as_slice.ensures.value c.count_below-place.ensures in
    elim c.else-place-len.branch [
      | else-place-len-via-then-place-len+else-serial w ↦
          none-emptied frames c.args.serial place c.requires reaches
          (λ d inside same. w.if-serial.false (w.serial.ensures ∙ ap (λ (one : StoredFrame). one.serial) (w.index.ensures ∙ get_or_default frames place w.index.result.now d inside) ∙ same))
      | else-place-len-via-else-place-len w ↦
          none-emptied frames c.args.serial place c.requires reaches (λ d inside same. omega (arith, inside, w.if-place-len.false, c.len.ensures, size))
    ]
