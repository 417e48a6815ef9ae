use Rattle.std.proofs.Common.{◌≡◌, ◌++◌, vec_len}
use Rattle.std.specs.Prelude.{reverse}
use Rattle.hc_publish.specs.PublishedState.{origin_of, pending, published}
use Rattle.hc_conductor.proofs.publishing.append_all.Given as goal

abbrev pub invariant-loop-change : goal.invariant-loop-change
invariant-loop-change l =
    (published l.publisher ≡ published l.initial.publisher)
    × (origin_of l.publisher ≡ origin_of l.initial.publisher)
    × (pending l.publisher ++ reverse l.waiting.items ≡ pending l.initial.publisher ++ reverse l.initial.waiting.items)

abbrev pub decreases-loop-change : goal.decreases-loop-change
decreases-loop-change l = vec_len l.waiting
