-- Which slaves leave the line with what an edit changes.
use Rattle.std.specs.Prelude.{if◌then◌else◌}
use Rattle.hc_groups.specs.declared.prepared.Prepared.{Prepared}
use Rattle.hc_groups.specs.declared.prepared.Prepared.TheVariants.{Presence, Areas}
use Rattle.hc_registers.specs.declared.ranked.Gone.{Gone}

-- no slave leaves
abbrev pub none_gone : Gone
none_gone = record { rank = 1; slaves = 0 }

-- the slaves of a group that goes leave; with a group that comes, or a slave that gets other areas, none does
abbrev pub gone_of : Prepared → Gone
gone_of (Presence change) = if change.present then none_gone else record { rank = change.first; slaves = change.slaves }
gone_of (Areas change) = none_gone
