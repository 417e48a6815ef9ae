use Rattle.std.proofs.Common.{◌≡◌, ◌+◌, ◌-◌, ◌≤◌, ◌∷◌, ◌∙◌, ℕ, List, length, length-drop, drop, map, ap, sym, arith}
use Rattle.std.specs.List.{list_all}
use Rattle.hc_frames.specs.Arrived.{datagram_carried, data_size, datagram_tails, is_whole, placed_from, ArrivedDatagram}
use Rattle.hc_frames.proofs.lemmas.Datagrams.{first-whole, placed-some, whole-long}
use Rattle.hc_frames.proofs.reading.returned.first_part.Goals as goal

pub part_at-requires : goal.part_at-requires
part_at-requires c = (first-whole c.args.bytes.now c.requires.some c.requires.whole).0

pub after_it-requires : goal.after_it-requires
after_it-requires c = (first-whole c.args.bytes.now c.requires.some c.requires.whole).0

pub returns : goal.returns
returns c =
    let bytes : List ℕ = c.args.bytes.now in
    let whole = first-whole bytes c.requires.some c.requires.whole in
    let left : c.after_it.result.now ≡ drop (12 + data_size bytes) bytes = c.after_it.ensures in
    let long : 12 + data_size bytes ≤ length bytes = whole-long bytes whole.0 in
    let size : length c.after_it.result.now ≡ length bytes - (12 + data_size bytes) = ap length left ∙ length-drop (12 + data_size bytes) bytes in
    let here : ArrivedDatagram = record { start = c.args.start; carried = datagram_carried bytes } in
    record {
      placed =
          placed-some c.args.start bytes c.requires.some whole.0
          ∙ ap (λ (n : ℕ). here ∷ placed_from n (map datagram_carried (datagram_tails (drop (12 + data_size bytes) bytes)))) (omega arith)
          ∙ ap (λ (rest : List ℕ). here ∷ placed_from (c.args.start + (length bytes - length c.after_it.result.now)) (map datagram_carried (datagram_tails rest))) (sym left)
          ∙ ap (λ (part : ArrivedDatagram). part ∷ placed_from (c.args.start + (length bytes - length c.after_it.result.now)) (map datagram_carried (datagram_tails c.after_it.result.now))) (sym c.part_at.ensures);
      whole = ap (λ (rest : List ℕ). list_all is_whole (datagram_tails rest)) left ∙ whole.1;
      shorter = omega arith;
    }
