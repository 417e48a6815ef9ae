use Rattle.std.proofs.Common.{◌≡◌, ◌-◌, ◌∙◌, ℕ, List, length, take, drop, ap, subst, arith}
use Rattle.std.specs.Prelude.{is_none}
use Rattle.hc_frames.specs.Arrived.{datagram_bytes, fault_in, region}
use Rattle.hc_machine.specs.Rewriting.{ServesTexts}
use Rattle.hc_machine.proofs.lemmas.Passed.{served-read}
use Rattle.hc_machine.proofs.Framed.{frame-served, memory-served}
use Rattle.hc_machine.proofs.frames.serve_frame.Goals as goal

pub returns-clause-frame : goal.returns-clause-frame
returns-clause-frame c =
    let a = c.args in
    let frame = a.frame.now in
    let e = c.end_of_datagrams-end.ensures in
    let count : c.end_of_datagrams-end.result - 16 ≡ datagram_bytes frame = omega arith in
    let all : take (c.end_of_datagrams-end.result - 16) (drop 16 frame) ≡ region frame = ap (λ n. take n (drop 16 frame)) count in
    let same : length c.serve_datagrams.new.region ≡ length (take (c.end_of_datagrams-end.result - 16) (drop 16 frame)) = omega arith in
    let serves = subst (λ xs. ServesTexts a.memory.now c.serve_datagrams.new.memory xs c.serve_datagrams.new.region) all c.serve_datagrams.ensures in
    frame-served frame e.bytes c.requires.readable a.memory.now c.serve_datagrams.new.memory c.serve_datagrams.new.region (same ∙ ap length all) serves (c.end_of_datagrams-end.result - 16) count

pub returns-clause-memory : goal.returns-clause-memory
returns-clause-memory c =
    let a = c.args in
    let frame = a.frame.now in
    let e = c.end_of_datagrams-end.ensures in
    let count : c.end_of_datagrams-end.result - 16 ≡ datagram_bytes frame = omega arith in
    let all : take (c.end_of_datagrams-end.result - 16) (drop 16 frame) ≡ region frame = ap (λ n. take n (drop 16 frame)) count in
    let same : length c.serve_datagrams.new.region ≡ length (take (c.end_of_datagrams-end.result - 16) (drop 16 frame)) = omega arith in
    let serves = subst (λ xs. ServesTexts a.memory.now c.serve_datagrams.new.memory xs c.serve_datagrams.new.region) all c.serve_datagrams.ensures in
    memory-served frame e.bytes c.requires.readable a.memory.now c.serve_datagrams.new.memory c.serve_datagrams.new.region (same ∙ ap length all) serves

pub returns-clause-readable : goal.returns-clause-readable
returns-clause-readable c =
    let frame = c.args.frame.now in
    ap (λ (bytes : List ℕ). is_none (fault_in bytes)) (returns-clause-frame c)
    ∙ served-read c.args.memory.now frame c.requires.memory c.end_of_datagrams-end.ensures.bytes c.requires.readable
