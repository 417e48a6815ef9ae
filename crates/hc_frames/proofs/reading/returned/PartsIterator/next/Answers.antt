use Rattle.std.proofs.Common.{◌≡◌, List, ℕ, length, map, ap, ◌∙◌, sym, arith}
use Rattle.std.proofs.lemmas.Bool.Decides.{nat_tests}
use Rattle.hc_frames.specs.Arrived.{datagram_carried, placed_from}
use Rattle.hc_frames.proofs.lemmas.Datagrams.{datagrams-none}
use Rattle.hc_frames.proofs.reading.returned.PartsIterator.next.Goals as goal

pub returns-then-is_empty-clause-steps : goal.returns-then-is_empty-clause-steps
returns-then-is_empty-clause-steps c =
    let left = c.self.inside in
    let none : length left.rest.now ≡ 0 = grind (arith, nat_tests) in
    let all = sym c.self.view_is ∙ ap (λ (ds : List (List ℕ)). placed_from left.start (map datagram_carried ds)) (datagrams-none left.rest.now none) in
    (all, all)
