use Rattle.std.proofs.Common.{ℕ, ◌<◌, ◌∙◌, List, length, sym, ap, subst, Vec, Global}
use Rattle.std.specs.Prelude.{map}
use Rattle.hc_records.specs.Line.{Member, line}
use Rattle.hc_segment.specs.Line.{frames_through, machines_after}
use Rattle.hc_places.specs.Table.{Table, datagrams_in}
use Rattle.hc_images.specs.Packed.{IsLaidOut, sent_bytes}
use Rattle.hc_images.proofs.lemmas.LaidOut.{line-laid_out}
use Rattle.hc_exchange.specs.Sent.{IsSentOver, task_frames}
use Rattle.hc_exchange.specs.Wire.{WireCarriesTask}
use Rattle.hc_exchange.proofs.Bare.{exchanged-alone, stays-alone}
use Rattle.hc_exchange.proofs.Meaning.{exchanged}
use Rattle.hc_exchange.proofs.lemmas.ReadyTasks.{ready-carried}
use Rattle.hc_exchange.proofs.Packing.{can-configure, holds-in, lengths-sent, packed-data}
use Rattle.hc_exchange.proofs.exchanging.exchange_ready.Goals as goal

pub packed-requires : goal.packed-requires
packed-requires c =
    subst IsLaidOut (sym c.places-places.ensures.table) (line-laid_out c.args.plan.now c.places-places.ensures.project c.places-places.ensures.uncrowded)

pub frames_of-requires-clause-sizes : goal.frames_of-requires-clause-sizes
frames_of-requires-clause-sizes c d low =
    let state = c.args.plan.now in
    let places = c.places-places.ensures in
    let count = ap length (c.datagrams-count.ensures.datagrams ∙ ap (λ (t : Table). datagrams_in t c.args.task) places.table) in
    lengths-sent state c.args.task d c.args.outputs.now c.in_ok-packed.packed (can-configure state places.project places.uncrowded)
    (holds-in state c.args.task c.args.outputs.now c.in_ok-packed.packed c.places-places.result.now places.table c.in_ok-packed.ensures) (subst (λ (n : ℕ). d < n) count low)

pub returns-clause-sent : goal.returns-clause-sent
returns-clause-sent c =
    let state = c.args.plan.now in
    let task = c.args.task in
    let packed = c.in_ok-packed.packed in
    let places = c.places-places.ensures in
    let count = ap length (c.datagrams-count.ensures.datagrams ∙ ap (λ (t : Table). datagrams_in t task) places.table) in
    let frames = c.in_ok-returned.ensures ∙ ap (λ (n : ℕ). task_frames c.args.serial task n (sent_bytes packed task)) count in
    record {
      bytes = sent_bytes packed task;
      packed = λ d low. packed-data state task d c.args.outputs.now packed (can-configure state places.project places.uncrowded)
          (holds-in state task c.args.outputs.now packed c.places-places.result.now places.table c.in_ok-packed.ensures) low;
      returned = c.send_all.ensures.frames ∙ ap (frames_through c.args.segment.now) frames;
      left = c.send_all.ensures.machines ∙ ap (machines_after c.args.segment.now) frames;
    }

pub returns-clause-meant : goal.returns-clause-meant
returns-clause-meant c carrying =
    let state = c.args.plan.now in
    let places = c.places-places.ensures in
    exchanged-alone state c.args.task c.args.serial c.args.outputs.now c.args.segment.now _ c.send_all.new.segment
    (record { can = can-configure state places.project places.uncrowded; few = c.requires.serials; sent = returns-clause-sent c; carrying = carrying })

pub returns-clause-wire : goal.returns-clause-wire
returns-clause-wire c wire is carries =
    let state = c.args.plan.now in
    let places = c.places-places.ensures in
    let frames = map (λ (f : Vec ℕ Global). f.items) c.send_all.new.frames.items in
    exchanged state c.args.task c.args.serial c.args.outputs.now wire frames c.send_all.new.segment
    (record {
      can = can-configure state places.project places.uncrowded;
      few = c.requires.serials;
      sent = subst (λ (ms : List (List ℕ)). IsSentOver (line state) c.args.task c.args.serial c.args.outputs.now ms frames c.send_all.new.segment) is (returns-clause-sent c);
      carries = carries;
    })

pub returns-clause-ready : goal.returns-clause-ready
returns-clause-ready c history wire of_record same is holds ready =
    returns-clause-wire c wire is (subst (λ (members : List Member). WireCarriesTask members c.args.task wire) same (ready-carried history wire c.args.task of_record holds ready))

pub returns-clause-stays : goal.returns-clause-stays
returns-clause-stays c carrying =
    let state = c.args.plan.now in
    let places = c.places-places.ensures in
    stays-alone state c.args.task c.args.serial c.args.outputs.now c.args.segment.now _ c.send_all.new.segment
    (record { can = can-configure state places.project places.uncrowded; few = c.requires.serials; sent = returns-clause-sent c; carrying = carrying })
