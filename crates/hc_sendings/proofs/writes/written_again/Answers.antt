use Rattle.std.proofs.Common.{rules, ◌≡◌, ◌&&◌, Bool, ap, map, not}
use Rattle.std.specs.List.{list_any}
use Rattle.hc_sendings.specs.declared.writes.AwaitedBlock.{AwaitedBlock}
use Rattle.hc_sendings.specs.Waiting.{awaited_block, is_same}
use Rattle.hc_sendings.proofs.Again.{any_same}
use Rattle.hc_sendings.proofs.writes.written_again.Goals as goal
use Rattle.hc_sendings.proofs.writes.written_again.Goals.{then-block, else-block}

pub returns : goal.returns
returns c =
    let block : AwaitedBlock = c.args.block.now in
    let same = any_same block c.args.again.now in
    let last_sent : c.if-block.result ≡ (block.last_sent && not (list_any (is_same block) (map awaited_block c.args.again.now))) =
    elim c.if-block.branch [
      | then-block w ↦ search (rules, same)
      | else-block w ↦ search rules
    ] in
    ap (λ (b : Bool). let now : AwaitedBlock = record block { last_sent = b } in now) last_sent
