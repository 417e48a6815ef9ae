use Rattle.std.proofs.Common.{◌≡◌, ◌∙◌, ap, ap₂, subst, sym, None, Some}
use Rattle.hc_records.specs.Project.{lowest_fault}
use Rattle.hc_places.specs.Table.{Table, place_in}
use Rattle.hc_publish.specs.ChangesSince.{ChangesSince, data_shown, table_shown}
use Rattle.hc_publish.proofs.Legal.{ends-in_data}
use Rattle.hc_publish.proofs.shown.Shown.value.Goals as goal

pub read_number-requires : goal.read_number-requires
read_number-requires c =
    let changes_since = c.args.self.now in
    let place = c.in-Some.place in
    let bytes = c.in-Some-data.bytes.now in
    let table : c.self.inside.places ≡ table_shown changes_since = c.self.invariant.table_is ∙ ap table_shown c.self.view_is in
    let there : place_in (table_shown changes_since) c.args.variable ≡ Some place = ap (λ (t : Table). place_in t c.args.variable) (sym table) ∙ sym c.in-Some.ensures in
    let task : c.place-2.inside.task ≡ place.task = ap (λ one. one.task) c.place-2.view_is in
    let d : c.place-2.inside.datagram ≡ place.datagram = ap (λ one. one.datagram) c.place-2.view_is in
    let has : data_shown changes_since place.task place.datagram ≡ Some bytes = ap₂ (data_shown changes_since) (sym task) (sym d) ∙ sym c.in-Some-data.ensures in
    ends-in_data changes_since c.args.variable place bytes (subst (λ (t : ChangesSince). lowest_fault t.groups ≡ None) c.self.view_is c.self.invariant.project) c.requires there has
