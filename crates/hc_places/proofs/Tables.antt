-- The table of a task of a line, by the places of its areas.
use Rattle.std.proofs.Common.{◌≡◌, ℕ, ◌≤◌, List, refl, arith}
use Rattle.hc_records.specs.declared.limits.TheConstants.{MOST_DATAGRAMS}
use Rattle.hc_records.specs.Line.{Member}
use Rattle.hc_records.specs.TaskList.{task_list}
use Rattle.hc_records.specs.Packing.{empty_front}
use Rattle.hc_records.specs.Image.{datagram_count, task_places}
use Rattle.hc_records.proofs.lemmas.Inside.{packed-inside}
use Rattle.hc_records.proofs.lemmas.Lengths.{length-sendable}
use Rattle.hc_places.specs.declared.table.Datagram.{Datagram}
use Rattle.hc_places.specs.Table.{TaskTable, task_table}
use Rattle.hc_places.specs.DatagramUses.{table_at}
use Rattle.hc_places.specs.inner.Parts.{AreSendable}
use Rattle.hc_places.proofs.Project.{IsConfigurable}
use Rattle.hc_places.proofs.lemmas.DatagramUses.{datagram-same, datagram_at, is-loaded, map-agree}
use Rattle.hc_records.proofs.lemmas.Tiles.{outputs-inside}
use Rattle.hc_places.proofs.lemmas.Ranks.{expected-low}

-- the datagrams of a task that has at most 16 can be sent
pub places-sendable : (task : ℕ) (line : List Member) → IsConfigurable line → datagram_count (task_places task line) ≤ MOST_DATAGRAMS → AreSendable (task_places task line)
places-sendable task line configurable few = record {
  few = few;
  inside = packed-inside empty_front (task_list task line) (configurable.packable task);
  lengths = λ d within. length-sendable (task_list task line) d (configurable.packable task) within;
  counted = λ d.
      let same = configurable.counted task d in
      let low = expected-low task d line in
      omega (arith, same, low);
}

abbrev made : List Datagram → ℕ → ℕ → TaskTable
made datagrams outputs inputs = record { datagrams = datagrams; outputs = outputs; inputs = inputs }

same-fields : (ds ds' : List Datagram) (outs outs' ins ins' : ℕ) → ds ≡ ds' → outs ≡ outs' → ins ≡ ins' → made ds outs ins ≡ made ds' outs' ins'
same-fields ds ds' outs outs' ins ins' one two three = rw (one, two, three) refl

-- its table is put together from what its datagrams hold
pub table-same : (task : ℕ) (line : List Member) → IsConfigurable line → table_at task (task_places task line) ≡ task_table line task
table-same task line configurable =
    grind (arith, is-loaded, outputs-inside, map-agree, datagram_at, datagram-same, same-fields)
