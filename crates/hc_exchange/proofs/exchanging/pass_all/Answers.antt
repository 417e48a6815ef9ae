use Rattle.std.proofs.Common.{◌≡◌, ℕ, ◌<◌, ◌∙◌, List, length, get_or, set, sym, ap, arith, Vec, Global}
use Rattle.std.specs.Prelude.{map}
use Rattle.std.proofs.lemmas.List.{get_or-map, length-map, map-set}
use Rattle.hc_segment.specs.Line.{frame_through, machines_after_frame}
use Rattle.hc_exchange.proofs.Collected.{gone-more}
use Rattle.hc_exchange.proofs.exchanging.pass_all.Goals as goal

abbrev texts : List (Vec ℕ Global) → List (List ℕ)
texts frames = map (λ frame. frame.items) frames

pub loop-frame-preserved : goal.loop-frame-preserved
loop-frame-preserved c =
    let l = c.loop-frame in
    let i = l.frame-index in
    let item = c.frame-item.result in
    let now = texts l.frames in
    let low : i < length l.frames = omega arith in
    let same : item.items ≡ get_or now i item.items = ap (λ (f : Vec ℕ Global). f.items) c.frame-item.is ∙ sym (get_or-map (λ (f : Vec ℕ Global). f.items) l.frames i item item.items low) in
    let count : i < length (texts c.args.frames.now) = omega (arith, length-map c.args.frames.now (λ (f : Vec ℕ Global). f.items)) in
    let next = gone-more i c.args.segment.now (texts c.args.frames.now) now l.segment item.items count same l.invariant.0 l.invariant.1 in (
      map-set (λ (f : Vec ℕ Global). f.items) l.frames i c.pass.new.frame ∙ ap (λ (f : List ℕ). set now i f) (c.pass.ensures.frame ∙ ap (λ (f : Vec ℕ Global). frame_through l.segment f.items) (sym c.frame-item.is)) ∙ next.0,
      c.pass.ensures.machines ∙ ap (λ (f : Vec ℕ Global). machines_after_frame l.segment f.items) (sym c.frame-item.is) ∙ next.1,
    )
