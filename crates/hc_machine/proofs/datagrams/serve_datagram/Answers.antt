use Rattle.std.proofs.Common.{◌≡◌, ◌-◌, ◌++◌, length, take, drop, ap, ◌∙◌, arith}
use Rattle.std.specs.Prelude.{unwrap_or}
use Rattle.hc_frames.specs.declared.commands.Command.TheVariants.{Lrw}
use Rattle.hc_frames.specs.Arrived.{datagram_carried}
use Rattle.hc_machine.specs.Memory.{with_part}
use Rattle.hc_machine.proofs.Served.{unchanged-in-place, served-in-place}
use Rattle.hc_machine.proofs.datagrams.serve_datagram.Goals as goal

pub returns-clause-datagram : goal.returns-clause-datagram
returns-clause-datagram c =
    let a = c.args in
    let old = a.datagram.now in
    let command : c.unwrap_or-command.result ≡ (datagram_carried old).command = c.unwrap_or-command.ensures ∙ ap (λ o. unwrap_or o Lrw) c.of.ensures in
    let size : length c.serve-count.new.bytes ≡ length old - 2 - 10 = omega arith in
    served-in-place a.memory.now old c.unwrap_or-command.result c.long_at-address.result c.requires.exact command c.long_at-address.ensures
    c.word_at-counter.result c.serve-count.result c.address_after.result c.serve-count.new.bytes c.put_part.new.bytes c.put_part-2.new.bytes
    c.word_at-counter.ensures c.serve-count.ensures.data size c.serve-count.ensures.count c.address_after.ensures
    (c.put_part.ensures ∙ ap (λ part. with_part 2 part (take 10 old ++ (c.serve-count.new.bytes ++ drop (length old - 2 - 10) (drop 10 old)))) c.to_le_bytes.ensures)
    (c.put_part-2.ensures ∙ ap (λ part. with_part (length old - 2) part c.put_part.new.bytes) c.to_le_bytes-2.ensures)

pub returns-clause-memory : goal.returns-clause-memory
returns-clause-memory c =
    let a = c.args in
    let old = a.datagram.now in
    let command : c.unwrap_or-command.result ≡ (datagram_carried old).command = c.unwrap_or-command.ensures ∙ ap (λ o. unwrap_or o Lrw) c.of.ensures in
    unchanged-in-place a.memory.now old c.unwrap_or-command.result c.long_at-address.result c.requires.exact command c.long_at-address.ensures c.serve-count.new.memory c.serve-count.ensures.memory
