use Rattle.std.proofs.Common.{◌≡◌, ◌+◌, ◌<◌, length, take, drop, ap, ◌∙◌, arith}
use Rattle.std.proofs.lemmas.Bool.Decides.{nat_tests}
use Rattle.hc_frames.specs.Arrived.{data_size}
use Rattle.hc_machine.proofs.Served.{none-served, texts-served}
use Rattle.hc_machine.proofs.datagrams.+serve_datagrams.Goals as goal

pub returns-then-is_empty : goal.returns-then-is_empty
returns-then-is_empty t c =
    let none : length c.args.region.now ≡ 0 = grind (arith, nat_tests) in
    none-served c.args.memory.now c.args.region.now none

pub returns : goal.returns
returns t c =
    let region = c.args.region.now in
    let first = c.split_at_mut-first.result.0.now in
    let rest = c.split_at_mut-first.result.1.now in
    let some : 0 < length region = grind (arith, nat_tests) in
    let size : c.first_size-size.result ≡ 12 + data_size region = c.first_size-size.ensures.size in
    texts-served c.args.memory.now c.serve_datagram.new.memory c.serve_datagrams.new.memory region first rest c.serve_datagram.new.datagram c.serve_datagrams.new.region
    c.requires.memory some
    (c.split_at_mut-first.ensures.front ∙ ap (λ n. take n region) size)
    (c.split_at_mut-first.ensures.back ∙ ap (λ n. drop n region) size)
    c.serve_datagram.ensures.datagram c.serve_datagram.ensures.memory c.serve_datagrams.ensures
