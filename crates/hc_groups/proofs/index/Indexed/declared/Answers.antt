use Rattle.std.proofs.Common.{◌∙◌, ap, length, sym}
use Rattle.hc_records.proofs.lemmas.Slaves.{length-slaves}
use Rattle.hc_groups.proofs.Indexes.{seen}
use Rattle.hc_groups.proofs.Owned.{owners-length}
use Rattle.hc_groups.proofs.index.Indexed.declared.Goals as goal

pub returns : goal.returns
returns c =
    let groups = c.args.self.now in
    ap length (seen c.self.view_is c.self.invariant.0).declared.owners ∙ owners-length 0 groups ∙ sym (length-slaves groups)
