use Rattle.std.proofs.Common.{◌≡◌, ◌∙◌, ◌++◌, ◌∷◌, [], ap, arith, get_or, set, length, ℕ, List}
use Rattle.std.proofs.Math.Seq.{get_or-append_seam, set-append_seam}
use Rattle.hc_events.specs.Sendings.{Named}
use Rattle.hc_sendings.specs.Stored.{StoredFrame, stored_frame}
use Rattle.hc_sendings.proofs.awaited.push_frame.Goals as goal

abbrev made : ℕ → List Named → StoredFrame
made serial datagrams = record { serial = serial; datagrams = datagrams }

pub returns-clause-frames : goal.returns-clause-frames
returns-clause-frames c =
    let old : List StoredFrame = c.args.frames.now.items in
    let own : StoredFrame = c.fill.new.self in
    let blank : StoredFrame = c.index_mut.result.now in
    let datagrams : List Named = c.datagrams.result.now in
    let counted = c.args.frames.now.ok.0 in
    let place : c.len-place.result ≡ length old = omega (arith, counted, c.len-place.ensures) in
    let item = c.index_mut.ensures.value
    ∙ ap (λ (frames : List StoredFrame). get_or frames c.len-place.result blank) c.push_reserved.ensures.items
    ∙ ap (λ (n : ℕ). get_or (old ++ c.new.result ∷ []) n blank) place
    ∙ get_or-append_seam old c.new.result [] blank in
    let same : own ≡ stored_frame c.args.frame.now = c.fill.ensures
    ∙ ap (λ (frame : StoredFrame). made frame.serial datagrams) (item ∙ c.new.ensures)
    ∙ ap (λ (serial : ℕ). made serial datagrams) c.serial.ensures
    ∙ ap (λ (named : List Named). made c.args.frame.now.serial named) c.datagrams.ensures.datagrams in
    ap (λ (frames : List StoredFrame). set frames c.len-place.result own) c.push_reserved.ensures.items
    ∙ ap (λ (n : ℕ). set (old ++ c.new.result ∷ []) n own) place
    ∙ set-append_seam old c.new.result [] own
    ∙ ap (λ (stored : StoredFrame). old ++ stored ∷ []) same
