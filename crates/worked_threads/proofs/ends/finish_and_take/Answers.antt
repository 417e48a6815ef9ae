use Rattle.worked_threads.proofs.ends.finish_and_take.Goals as goal

pub take_up_to-requires : goal.take_up_to-requires
take_up_to-requires c = c.in_ok-end.ensures.end c.args.receiver.now c.requires
