use Rattle.std.proofs.Common.{◌≡◌, ◌++◌, ◌∙◌, ℕ, List, [], None, ap, append-nil, arith, drop, length, sym, take}
use Rattle.std.proofs.Math.Seq.{take-append_seam}
use Rattle.std.proofs.lemmas.List.{drop_all}
use Rattle.std.proofs.lemmas.Result.{err_from_is_err_and}
use Rattle.hc_records.specs.Lists.{lowest}
use Rattle.hc_events.specs.declared.answer.Answer.TheVariants as answer
use Rattle.hc_events.specs.Calls.{write_into_faults}
use Rattle.hc_events.specs.Owed.{owed_blocks}
use Rattle.hc_events.specs.Steps.{write_faults}
use Rattle.hc_core.proofs.Writes.{some-owed}
use Rattle.hc_core.proofs.lemmas.BlockSizes.{write-has-room, write-sized}
use Rattle.hc_core.proofs.keeping.Core.write.Goals as goal

-- a frame that fills a slice is all that it has
filled : (text now new items : List ℕ) (size room : ℕ) → new ≡ text ++ drop size now → size ≡ room → length now ≡ room → length new ≡ room → take room (new ++ drop (length new) items) ≡ text
filled text now new items size room holds sized long same =
    let none : drop size now ≡ [] = drop_all size now (omega (arith, sized, long)) in
    ap (λ (n : ℕ). take n (new ++ drop (length new) items)) (sym same) ∙ take-append_seam new (drop (length new) items)
    ∙ holds ∙ ap (λ (rest : List ℕ). text ++ rest) none ∙ append-nil text

pub returns-in_err-write_into-clause-refused : goal.returns-in_err-write_into-clause-refused
returns-in_err-write_into-clause-refused c =
    let history = c.args.self.now.history in
    let long : length c.deref_mut.result.now ≡ 60 = grind (arith, c.deref_mut.ensures.len, c.deref_mut.ensures.value, c.in_ok-text.ensures.len, c.in_ok-text.ensures.items) in
    let refused = c.in_err-write_into.ensures.refused in
    let p = err_from_is_err_and c.from_residual-in_err-write_into.result c.from_residual-in_err-write_into.ensures.1 in
    rw (p.1, p.2) (λ other. sym (write-has-room history) ∙ sym (ap (λ (n : ℕ). lowest (write_into_faults history n)) long) ∙ refused)

pub returns-clause-answer : goal.returns-clause-answer
returns-clause-answer c =
    let history = c.args.self.now.history in
    let none : lowest (write_faults history (owed_blocks history)) ≡ None = c.in_ok-can_write.ensures.accepted in
    let written = c.in_ok-write_into.ensures.written in
    let long : length c.deref_mut.result.now ≡ 60 = grind (arith, c.deref_mut.ensures.len, c.deref_mut.ensures.value, c.in_ok-text.ensures.len, c.in_ok-text.ensures.items) in
    let same : length c.write_into.new.out ≡ 60 = grind (arith, long, c.write_into.auto.out) in
    let room : c.in_ok-text.text.len ≡ 60 = grind (arith, c.in_ok-text.ensures.len, c.in_ok-text.ensures.items) in
    ap answer.WriteSent
    (c.of.ensures
    ∙ ap (λ (n : ℕ). take n (c.write_into.new.out ++ drop (length c.write_into.new.out) c.in_ok-text.text.items)) room
    ∙ filled written.text c.deref_mut.result.now c.write_into.new.out c.in_ok-text.text.items c.in_ok-write_into.field-0 60 written.holds (written.counted ∙ write-sized history (some-owed history none)) long same)
    ∙ sym written.answer
