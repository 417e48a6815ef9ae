use Rattle.std.proofs.Common.{ℕ, ◌+◌, ◌*◌, ◌∙◌, List, length, subst, sym}
use Rattle.std.specs.Prelude.{slice_index_or}
use Rattle.std.specs.Int.{bit_at}
use Rattle.hc_records.specs.declared.limits.TheConstants.{MOST_DATAGRAMS}
use Rattle.hc_places.specs.Swap.{ChangedRow, ChangedTask, swapped}
use Rattle.hc_images.specs.Packed.{HasSizes}
use Rattle.hc_images.specs.Pieces.{PlacesAreApart, Fit, ReadsEach, ResizesEach, WritesEach, of_changed, of_list}
use Rattle.hc_images.proofs.Carrying.{AreMoved, Course, cut-sizes, moved-carries}
use Rattle.hc_images.proofs.Growing.{room-for}
use Rattle.hc_images.proofs.Placing.{new-are, old-are, outputs-apart, outputs-fit}
use Rattle.hc_images.proofs.moves.carry_over.Goals as goal

pub take_up-requires-clause-fit : goal.take_up-requires-clause-fit
take_up-requires-clause-fit c =
    let old = c.args.before.now.value in
    let places = c.args.places.now in
    let stays = c.requires.stays in
    subst (λ n. Fit n (of_list places) c.args.rows.now) (sym stays.are_placed.count)
    (outputs-fit old c.args.swap.now.change.rows (of_list places) c.args.rows.now c.requires.laid (old-are c.args.swap.now.change old places stays.are_placed) c.requires.sizes)

pub take_up-requires-clause-apart : goal.take_up-requires-clause-apart
take_up-requires-clause-apart c =
    let old = c.args.before.now.value in
    let places = c.args.places.now in
    let stays = c.requires.stays in
    subst (λ n. PlacesAreApart n (of_list places)) (sym stays.are_placed.count)
    (outputs-apart old c.args.swap.now.change.rows (of_list places) c.requires.laid c.changes-changed.ensures.ascends (old-are c.args.swap.now.change old places stays.are_placed))

pub resize-requires-clause-room : goal.resize-requires-clause-room
resize-requires-clause-room c =
    let old = c.args.before.now.value in
    let taken = c.take_up.new.rows in
    let sizes : HasSizes old taken = λ task d low few. c.take_up.ensures.writes.sizes (MOST_DATAGRAMS * task + d) ∙ c.requires.sizes task d low few in
    room-for old c.args.swap.now.change.tasks c.tasks-tasks.result.now taken c.args.room.now c.tasks-tasks.ensures.tasks sizes c.requires.room

pub put_down-requires-clause-fit : goal.put_down-requires-clause-fit
put_down-requires-clause-fit c =
    let old = c.args.before.now.value in
    let change = c.args.swap.now.change in
    let taken = c.take_up.new.rows in
    let cut = c.resize.new.rows in
    let sizes : HasSizes old taken = λ task d low few. c.take_up.ensures.writes.sizes (MOST_DATAGRAMS * task + d) ∙ c.requires.sizes task d low few in
    let cuts = subst (λ (l : List ChangedTask). ResizesEach (length l) l taken cut) c.tasks-tasks.ensures.tasks c.resize.ensures in
    subst (λ (l : List ChangedRow). Fit (length l) (of_changed l) cut) (sym c.changes-changed.ensures.rows)
    (outputs-fit (swapped change old) change.rows (of_changed change.rows) cut c.requires.laid_out (new-are change old c.requires.stays.table.ascends c.changes-changed.ensures.ascends)
    (cut-sizes old change taken cut c.requires.stays.table c.tasks-tasks.ensures.ascends sizes cuts))

pub put_down-requires-clause-apart : goal.put_down-requires-clause-apart
put_down-requires-clause-apart c =
    let old = c.args.before.now.value in
    let change = c.args.swap.now.change in
    subst (λ (l : List ChangedRow). PlacesAreApart (length l) (of_changed l)) (sym c.changes-changed.ensures.rows)
    (outputs-apart (swapped change old) change.rows (of_changed change.rows) c.requires.laid_out c.changes-changed.ensures.ascends
    (new-are change old c.requires.stays.table.ascends c.changes-changed.ensures.ascends))

pub returns-clause-carried : goal.returns-clause-carried
returns-clause-carried c = λ value before.
    let old = c.args.before.now.value in
    let change = c.args.swap.now.change in
    let places = c.args.places.now in
    let values = c.take_up.new.values in
    let stays = c.requires.stays in
    let course : Course = record { old = old; change = change; ones = c.args.ones; places = places; values = values; first = c.args.rows.now; taken = c.take_up.new.rows; cut = c.resize.new.rows; last = c.put_down.new.rows } in
    let moved : AreMoved course =
    record {
      table = stays.table;
      laid = c.requires.laid;
      laid_out = c.requires.laid_out;
      entries = c.requires.entries;
      rows = c.changes-changed.ensures.ascends;
      tasks = c.tasks-tasks.ensures.ascends;
      are_placed = stays.are_placed;
      sizes = c.requires.sizes;
      takes = c.take_up.ensures.writes;
      reads = subst (λ (word : ℕ). ReadsEach (length places) (of_list places) c.args.rows.now word values) c.word_of.ensures c.take_up.ensures.reads;
      cuts = subst (λ (l : List ChangedTask). ResizesEach (length l) l c.take_up.new.rows c.resize.new.rows) c.tasks-tasks.ensures.tasks c.resize.ensures;
      puts = subst (λ (l : List ChangedRow). WritesEach (length l) (of_changed l) (λ i. bit_at (slice_index_or values i 0)) c.resize.new.rows c.put_down.new.rows) c.changes-changed.ensures.rows c.put_down.ensures;
    } in
    moved-carries course value moved before

pub returns-clause-sizes : goal.returns-clause-sizes
returns-clause-sizes c =
    let old = c.args.before.now.value in
    let change = c.args.swap.now.change in
    let sizes : HasSizes old c.take_up.new.rows = λ task d low few. c.take_up.ensures.writes.sizes (MOST_DATAGRAMS * task + d) ∙ c.requires.sizes task d low few in
    let cuts = subst (λ (l : List ChangedTask). ResizesEach (length l) l c.take_up.new.rows c.resize.new.rows) c.tasks-tasks.ensures.tasks c.resize.ensures in
    λ task d low few.
    c.put_down.ensures.sizes (MOST_DATAGRAMS * task + d)
    ∙ cut-sizes old change c.take_up.new.rows c.resize.new.rows c.requires.stays.table c.tasks-tasks.ensures.ascends sizes cuts task d low few
