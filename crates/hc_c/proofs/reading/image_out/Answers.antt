use Rattle.std.proofs.Common.{◌≡◌, ◌∙◌, ap, length, replicate, sym}
use Rattle.std.proofs.lemmas.List.FromFn.{length-map-range_with_len}
use Rattle.hc_records.specs.Line.{State}
use Rattle.hc_events.specs.Points.{epoch_of}
use Rattle.hc_events.specs.Steady.{steady_serial}
use Rattle.hc_c.specs.Reads.{serials_read}
use Rattle.hc_c.specs.States.{count_since, state_number, task_state}
use Rattle.hc_c.proofs.reading.image_out.Goals as goal

pub returns : goal.returns
returns c =
    let history = c.args.core.now.history in
    let task = c.args.task in
    let first = c.args.first in
    let count = length c.args.datagrams.now in
    let epoch : c.epoch.result ≡ epoch_of history = c.epoch.ensures ∙ ap (λ (state : State). state.epoch) c.plan.ensures.state ∙ c.plan.ensures.epoch in
    let task_epoch = c.task_epoch.ensures.epoch c.requires.task in
    let size = c.in_32_bits.ensures ∙ c.image_size.ensures.size in
    let state : c.state_number.result ≡ task_state first (serials_read history task 0 count) =
    c.state_number.ensures ∙ ap (λ n. state_number n count) (c.from.ensures ∙ c.count_since-since.ensures.count)
    ∙ ap (state_number (count_since first (serials_read history task 0 count))) (sym (length-map-range_with_len (steady_serial history task) 0 count)) in
    λ i. record {
      first_serial = first;
      epoch = epoch i;
      task_epoch = task_epoch i;
      size = size i;
      datagrams = c.in_16_bits.ensures i;
      has = c.mask.ensures.mask i;
      state = state i;
      reserved = replicate 7 0;
    }
