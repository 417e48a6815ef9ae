use Rattle.std.proofs.Common.{◌≡◌, ◌+◌, List, [], ◌∷◌, drop, refl, sym, ◌∙◌, Option, Some, None}
use Rattle.std.specs.List.{fold}
use Rattle.std.specs.Option.{option_or}
use Rattle.std.proofs.lemmas.List.{at_drop_more}
use Rattle.hc_publish.specs.ChangesSince.{table_shown}
use Rattle.hc_conductor.specs.Views.{answered_to}
use Rattle.hc_conductor.specs.declared.one_thread.refusals.PostRefusal.{PostRefusal}
use Rattle.hc_records.specs.declared.setting.Setting.{Setting}
use Rattle.hc_conductor.specs.Posting.{first_refused, setting_refused}
use Rattle.hc_conductor.proofs.one_thread.settings.put_settings.Goals as goal

-- the first refusal stays
first-stays : (judged : Setting → Option PostRefusal) (found : Option PostRefusal) (refusal : PostRefusal) (settings : List Setting) → found ≡ Some refusal
    → fold (λ found setting. option_or found (judged setting)) found settings ≡ Some refusal
first-stays judged found refusal [] is = is
first-stays judged None refusal (setting ∷ settings) is = absurd (cc (is))
first-stays judged (Some other) refusal (setting ∷ settings) is = first-stays judged (Some other) refusal settings is

pub returns-in-Err-clause-judged : goal.returns-in-Err-clause-judged
returns-in-Err-clause-judged c =
    let table = table_shown (answered_to c.args.view.now) in
    let task = c.args.task in
    let settings = c.args.settings.now in
    let i = c.loop-setting.setting-index in
    sym c.loop-setting.invariant.judged
    ∙ at_drop_more (first_refused table task) settings i (record { variable = 0; value = 0 }) c.loop-setting-test.true
    ∙ first-stays (setting_refused table task) _ c.in-Err.refusal (drop (i + 1) settings) c.in-Err.ensures.judged

pub loop-setting-init : goal.loop-setting-init
loop-setting-init c = record {
  judged = refl;
  bits = λ k. refl;
  size = refl;
  all_bytes = λ i low. (c.type_inv.bytes i).fits;
}
