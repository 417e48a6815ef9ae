use Rattle.std.proofs.Common.{subst, sym, ap, ◌∙◌}
use Rattle.std.specs.Option.{option_copied}
use Rattle.hc_text.specs.Cutting.{lines_after}
use Rattle.hc_program.specs.Declaring.{turns_of}
use Rattle.hc_program.specs.Opening.{IsRefusalOf, opening_of}
use Rattle.hc_program.specs.Runs.{run}
use Rattle.hc_program.specs.Standings.{SessionState, opened_session_state}
use Rattle.hc_program.specs.Text.{EndsAs}
use Rattle.hc_program.proofs.Outcomes.{opened_outcome, unopened_outcome}
use Rattle.hc_program.proofs.Starved.{starved_lines, starved_unopened}
use Rattle.hc_program.proofs.engine.run_input.Goals as goal

pub returns-in-Ok-clause-unstarved : goal.returns-in-Ok-clause-unstarved
returns-in-Ok-clause-unstarved g c unstarved =
    let history = c.in-Ok.session.history in
    let opens = ap opening_of (sym c.split_sections-sections.ensures.project) ∙ c.in-Ok.ensures.opened in
    let all =
    opened_outcome c.args.input.now history c.requires opens
    ∙ ap (λ lines. run (opened_session_state history) (turns_of lines)) (sym c.split_sections-sections.ensures.commands)
    ∙ ap (λ (s : SessionState). run s (turns_of (lines_after c.split_sections-sections.result.first (option_copied c.split_sections-sections.result.commands)))) (sym c.in-Ok.ensures.begun) in
    subst (EndsAs _ _ _) (sym all) (c.run_commands-end.ensures.unstarved unstarved)

pub returns-in-Ok-clause-starved : goal.returns-in-Ok-clause-starved
returns-in-Ok-clause-starved g c starved =
    let history = c.in-Ok.session.history in
    let opens = ap opening_of (sym c.split_sections-sections.ensures.project) ∙ c.in-Ok.ensures.opened in
    starved_lines _ _ _ c.args.input.now history _ _ c.requires opens c.split_sections-sections.ensures.commands c.in-Ok.ensures.begun (c.run_commands-end.ensures.starved starved)

pub returns-in-Err-clause-unstarved : goal.returns-in-Err-clause-unstarved
returns-in-Err-clause-unstarved g c unstarved =
    let opens = ap opening_of (sym c.split_sections-sections.ensures.project) ∙ c.in-Err.ensures.refused (c.end_unopened.ensures.unstarved unstarved) in
    subst (EndsAs _ _ _) (sym (unopened_outcome c.args.input.now c.in-Err.fault c.requires opens)) (c.end_unopened.ensures.ends unstarved)

pub returns-in-Err-clause-starved : goal.returns-in-Err-clause-starved
returns-in-Err-clause-starved g c starved =
    starved_unopened _ _ _ c.args.input.now c.in-Err.fault c.requires
    (subst (λ text. IsRefusalOf text c.in-Err.fault) c.split_sections-sections.ensures.project c.in-Err.ensures.reason)
    (c.end_unopened.ensures.starved starved)
