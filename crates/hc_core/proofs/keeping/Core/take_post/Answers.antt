use Rattle.std.proofs.Common.{◌≡◌, ◌∙◌, ap, sym, subst}
use Rattle.hc_records.specs.Line.{State, line}
use Rattle.hc_places.specs.Table.{Table, table_of}
use Rattle.hc_events.specs.Accepted.{IsPost}
use Rattle.hc_events.specs.Entries.{History}
use Rattle.hc_events.specs.Outputs.{value_bit}
use Rattle.hc_events.specs.Points.{line_of}
use Rattle.hc_images.specs.Packed.{HoldsOutputValues, IsLaidOut}
use Rattle.hc_images.specs.Values.{posted_values}
use Rattle.hc_images.proofs.lemmas.LaidOut.{line-laid_out}
use Rattle.hc_core.specs.Records.{history_read}
use Rattle.hc_core.proofs.Posts.{agree-posted}
use Rattle.hc_core.specs.Agreement.{Agree, core_parts}
use Rattle.hc_core.specs.State.{CoreState}
use Rattle.hc_core.proofs.keeping.Core.take_post.Goals as goal

pub post-requires : goal.post-requires
post-requires c =
    subst IsLaidOut (sym c.places.ensures.table) (line-laid_out c.self.inside.plan c.places.ensures.project c.places.ensures.uncrowded)

pub invariant_of-self : goal.invariant_of-self
invariant_of-self c =
    let inside = c.self.inside in
    let history = history_read inside.history in
    let task = c.args.task in
    let bytes = c.args.bytes.now in
    let taken = history_read inside.taken.value in
    let post : IsPost (line_of history) task bytes = subst (λ (state : CoreState). IsPost (line_of state.history) task bytes) (sym c.self.view_is) c.requires in
    let table : c.places.result.now ≡ table_of (line_of history) = c.places.ensures.table ∙ ap (λ (state : State). table_of (line state)) c.self.invariant.state in
    let before : HoldsOutputValues c.places.result.now (value_bit history) inside.outputs = subst (λ (t : Table). HoldsOutputValues t (value_bit history) inside.outputs) (sym table) c.self.invariant.values in
    let holds = subst (λ (t : Table). HoldsOutputValues t (posted_values t task bytes (value_bit history)) c.post.new.self) table (c.post.ensures (value_bit history) before) in
    subst (λ (grows : History). Agree (record (core_parts inside) { outputs = c.post.new.self }) grows taken) (sym c.posted.ensures)
    (agree-posted (core_parts inside) history taken task bytes c.post.new.self post holds c.self.invariant)
