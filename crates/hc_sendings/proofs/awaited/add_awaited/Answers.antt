use Rattle.std.proofs.Common.{◌∙◌, ◌++◌, ◌∷◌, [], ap, sym, ℕ, Bool, List}
use Rattle.std.specs.Prelude.{if◌then◌else◌}
use Rattle.std.specs.List.{list_any}
use Rattle.std.proofs.lemmas.List.{append-nil}
use Rattle.hc_events.specs.Sendings.{Named}
use Rattle.hc_sendings.specs.Stored.{StoredFrame, is_last_sent, stored_frame, last_sent_of}
use Rattle.hc_sendings.proofs.AwaitedStill.{any-answer_given}
use Rattle.hc_sendings.proofs.awaited.add_awaited.Goals as goal

pub push_frame-requires : goal.push_frame-requires
push_frame-requires c =
    let answer_given = c.is_any.ensures
    ∙ ap (λ (serial : ℕ). list_any (is_last_sent c.args.last_sent.now serial) c.datagrams.result.now) c.serial.ensures
    ∙ ap (λ (datagrams : List Named). list_any (is_last_sent c.args.last_sent.now c.args.frame.now.serial) datagrams) c.datagrams.ensures.datagrams
    ∙ any-answer_given (last_sent_of c.args.last_sent.now) c.args.frame.now.serial c.args.frame.now.datagrams in
    c.requires (sym answer_given ∙ c.if-is_any.true)

pub returns-then-is_any-clause-frames : goal.returns-then-is_any-clause-frames
returns-then-is_any-clause-frames c =
    let old : List StoredFrame = c.args.frames.now.items in
    let own : StoredFrame = stored_frame c.args.frame.now in
    let answer_given = c.is_any.ensures
    ∙ ap (λ (serial : ℕ). list_any (is_last_sent c.args.last_sent.now serial) c.datagrams.result.now) c.serial.ensures
    ∙ ap (λ (datagrams : List Named). list_any (is_last_sent c.args.last_sent.now c.args.frame.now.serial) datagrams) c.datagrams.ensures.datagrams
    ∙ any-answer_given (last_sent_of c.args.last_sent.now) c.args.frame.now.serial c.args.frame.now.datagrams in
    c.push_frame.ensures.frames
    ∙ sym (ap (λ (awaited_still : Bool). old ++ (if awaited_still then own ∷ [] else [])) (sym answer_given ∙ c.if-is_any.true))

pub returns-else-is_any-clause-frames : goal.returns-else-is_any-clause-frames
returns-else-is_any-clause-frames c =
    let old : List StoredFrame = c.args.frames.now.items in
    let own : StoredFrame = stored_frame c.args.frame.now in
    let answer_given = c.is_any.ensures
    ∙ ap (λ (serial : ℕ). list_any (is_last_sent c.args.last_sent.now serial) c.datagrams.result.now) c.serial.ensures
    ∙ ap (λ (datagrams : List Named). list_any (is_last_sent c.args.last_sent.now c.args.frame.now.serial) datagrams) c.datagrams.ensures.datagrams
    ∙ any-answer_given (last_sent_of c.args.last_sent.now) c.args.frame.now.serial c.args.frame.now.datagrams in
    sym (append-nil old) ∙ sym (ap (λ (awaited_still : Bool). old ++ (if awaited_still then own ∷ [] else [])) (sym answer_given ∙ c.if-is_any.false))
