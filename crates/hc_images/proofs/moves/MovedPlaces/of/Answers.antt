use Rattle.std.proofs.Common.{◌≡◌, ◌∷◌, ◌++◌, ◌∙◌, [], List, Option, Some, ap, ap₂, arith, length, refl, subst, sym}
use Rattle.std.specs.Prelude.{option_and_then, slice_get}
use Rattle.std.proofs.lemmas.List.{length-append}
use Rattle.std.proofs.lemmas.Option.{slice_get_read, slice_get_within}
use Rattle.hc_records.specs.Image.{VariablePlace}
use Rattle.hc_places.specs.Swap.{ChangedRow, Swap}
use Rattle.hc_places.specs.Table.{Table}
use Rattle.hc_images.specs.Moves.{Moves}
use Rattle.hc_images.specs.Pieces.{HoldsMoves, of_list, output_in, output_of}
use Rattle.hc_images.proofs.Placing.{next-is_placed}
use Rattle.hc_images.proofs.moves.MovedPlaces.of.Goals as goal

pub loop-row-preserved : goal.loop-row-preserved
loop-row-preserved c =
    let old = c.args.old.now in
    let rows = c.args.swap.now.change.rows in
    let items = c.changes-changed.result.now in
    let n = c.loop-row.row-index in
    let places = c.loop-row.places.items in
    let last = c.row-item.result in
    let there : slice_get rows n ≡ Some last =
    subst (λ (l : List ChangedRow). slice_get l n ≡ Some last) c.changes-changed.ensures.rows (slice_get_read items (length items) n last refl c.loop-row-test.true c.row-item.is) in
    let own : c.output.result ≡ output_in old last.0 = ◌∙◌ {A = Option VariablePlace} c.output.ensures (ap (option_and_then output_of) c.old_place.ensures) in
    let all = ◌∙◌ {A = List (Option VariablePlace)} c.in_ok-push.ensures.items (ap (λ (found : Option VariablePlace). places ++ found ∷ []) own) in
    let values = c.in_ok-push-2.ensures.items in
    record {
      count = let size = ap length all in let more = length-append places (output_in old last.0 ∷ []) in let count = c.loop-row.invariant.count in omega arith;
      room = let size = ap length values in let more = length-append c.loop-row.values.items (0 ∷ []) in let room = c.loop-row.invariant.room in omega arith;
      each = λ i row below at.
          subst (λ (l : List (Option VariablePlace)). of_list l i ≡ output_in old row.0) (sym all)
          (next-is_placed old rows places n last there c.loop-row.invariant.count c.loop-row.invariant.each i row below at);
    }

pub invariant_of-result : goal.invariant_of-result
invariant_of-result c =
    let old = c.args.old.now in
    let change = c.args.swap.now.change in
    let places = c.loop-row.places.items in
    let values = c.loop-row.values.items in
    let n : c.loop-row.row-index ≡ length change.rows = omega (arith, ap length c.changes-changed.ensures.rows) in
    let stays : HoldsMoves (record { before = old; change = change }) places values =
    record {
      table = c.is_table.ensures;
      are_placed = record {
        count = c.loop-row.invariant.count ∙ n;
        each = λ i row there. let inside = slice_get_within change.rows i row there in c.loop-row.invariant.each i row (omega arith) there;
      };
      room = c.loop-row.invariant.room ∙ n;
    } in
    subst (λ (moves : Moves). HoldsMoves moves places values) (ap₂ (λ (t : Table) (s : Swap). record { before = t; change = s.change }) (sym c.of.ensures) (sym c.of-2.ensures)) stays
