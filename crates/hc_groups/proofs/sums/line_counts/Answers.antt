use Rattle.std.proofs.Common.{ℕ, ◌+◌, ◌∙◌, Bool, List, [], length, get_or, ap, sym, arith, if◌then◌else◌, rules}
use Rattle.std.proofs.lemmas.Option.{get_or_from_slice_get}
use Rattle.hc_groups.specs.Index.{block_sum, block_sums, slave_block_count}
use Rattle.hc_groups.proofs.Summed.{sums-last, sums-length}
use Rattle.hc_groups.proofs.sums.line_counts.Goals as goal

pub bounds-sums-count : goal.bounds-sums-count
bounds-sums-count c = search (rules, sums-length)

pub returns-clause-blocks : goal.returns-clause-blocks
returns-clause-blocks c =
    let declared = c.args.declared.now in
    let slaves = declared.group.slaves in
    ap (λ (k : ℕ). get_or c.args.sums.now k 0) c.len-count.ensures
    ∙ ap (λ (sums : List ℕ). get_or sums (length slaves) 0) c.requires.sums
    ∙ get_or_from_slice_get (block_sums declared) (length slaves) (0 + block_sum slaves) 0 (sums-last slave_block_count 0 slaves)
    ∙ sym (ap (λ (present : Bool). 0 + block_sum (if present then slaves else [])) c.if-not-present.false)
    ∙ omega arith
