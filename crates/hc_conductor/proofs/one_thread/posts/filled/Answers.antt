use Rattle.std.proofs.Common.{◌≡◌, ℕ, List, length, sym, ap, subst, ◌∙◌}
use Rattle.std.specs.List.{fold}
use Rattle.std.proofs.lemmas.List.{length-replicate}
use Rattle.hc_bits.specs.Bits.{bit_of}
use Rattle.hc_bits.proofs.lemmas.Places.{bit_of-zeros}
use Rattle.hc_places.specs.Table.{part_in}
use Rattle.hc_publish.specs.ChangesSince.{table_shown}
use Rattle.hc_conductor.specs.Views as views
use Rattle.hc_conductor.specs.Posting.{BytesHoldOutputs, PostIsFilled, set_value_bit, set_bit}
use Rattle.hc_conductor.proofs.Held.{outputs-hold}
use Rattle.hc_conductor.proofs.Made.{answer_given-by-bits}
use Rattle.hc_conductor.proofs.one_thread.posts.filled.Goals as goal
use Rattle.hc_conductor.proofs.Takings.{whole-list}

pub put_settings-requires-clause-holds : goal.put_settings-requires-clause-holds
put_settings-requires-clause-holds c =
    let answer_given = views.answered_to c.args.view.now in
    let table = table_shown answer_given in
    let task = c.args.task in
    let size : length c.deref_mut.result.now ≡ (part_in table task).0 =
    ap length (c.deref_mut.ensures.value ∙ c.in_ok-bytes.ensures) ∙ (length-replicate c.from.result 0 ∙ (c.from.ensures ∙ ap (λ (part : ℕ × ℕ). part.0) (c.part-size.ensures ∙ ap (part_in table) (sym c.requires.task)))) in
    subst (BytesHoldOutputs table task) (sym size) (outputs-hold answer_given task c.requires.known c.args.view.now.openable c.requires.legal)

pub returns-clause-filled : goal.returns-clause-filled
returns-clause-filled c =
    let table = table_shown (views.answered_to c.args.view.now) in
    let task = c.args.task in
    let settings = c.args.settings.now in
    let updates = c.put_settings.new.bytes in
    let count = c.from.result in
    let outputs = (part_in table task).0 in
    let answer_given = c.in_default.ensures in
    let zeros = c.deref_mut.ensures.value ∙ c.in_ok-bytes.ensures in
    let long : length c.deref_mut.result.now ≡ count = ap length zeros ∙ length-replicate count 0 in
    let own : length updates ≡ c.in_ok-bytes.bytes.len = answer_given.size ∙ (ap length c.deref_mut.ensures.value ∙ sym c.in_ok-bytes.bytes.ok.0) in
    let size : length updates ≡ outputs = answer_given.size ∙ (long ∙ (c.from.ensures ∙ ap (λ (part : ℕ × ℕ). part.0) (c.part-size.ensures ∙ ap (part_in table) (sym c.requires.task)))) in
    let bits : (k : ℕ) → bit_of updates k ≡ set_value_bit table settings k =
    λ k. answer_given.bits k ∙ ap (λ (before : ℕ). fold (set_bit table k) before settings) (ap (λ (bytes : List ℕ). bit_of bytes k) zeros ∙ bit_of-zeros count k) in
    subst (PostIsFilled table task settings) (sym (whole-list updates _ c.in_ok-bytes.bytes.len own))
    (record {
      accepted = answer_given.judged;
      bytes_are = answer_given-by-bits updates outputs (set_value_bit table settings) answer_given.all_bytes size bits;
      size = size;
    })
