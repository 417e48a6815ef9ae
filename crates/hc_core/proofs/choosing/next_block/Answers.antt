use Rattle.hc_core.proofs.choosing.next_block.Goals as goal

pub returns : goal.returns
returns c = λ unchanged.
    let found = c.in_ok-found.ensures.next unchanged.known unchanged.state unchanged.planned (record { right = unchanged.right; project = unchanged.project }) in
    record { from = found.from; at = found.is_placed; next = found.next }
