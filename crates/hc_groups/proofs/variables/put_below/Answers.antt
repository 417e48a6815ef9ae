use Rattle.hc_groups.proofs.Merging.{put-below}
use Rattle.hc_groups.proofs.variables.put_below.Goals as goal

pub returns : goal.returns
returns c =
    let put = put-below c.args.all.now.items c.copy_within.new.self.items c.args.at c.args.left c.args.more c.args.variable c.requires.order c.requires.bound c.copy_within.ensures.items in
    record { size = put.size; front = put.front; after_it = put.after_it }
