use Rattle.std.proofs.Common.{◌∙◌}
use Rattle.std.specs.Prelude.{replicate}
use Rattle.hc_records.specs.declared.limits.TheConstants.{TASKS}
use Rattle.hc_c.proofs.opening.open_project.Goals as goal

pub returns-in-Ok-new-4-clause-opened : goal.returns-in-Ok-new-4-clause-opened
returns-in-Ok-new-4-clause-opened c =
    c.in-Ok-new-4.ensures.ok
    ∙ (λ t. record {
      core = c.in-Ok.ensures.opened t;
      sent_from = replicate TASKS 0;
      counts = c.in-Ok-new.ensures t;
      ends = c.in-Ok-new-3.ensures t;
      spare = c.in-Ok-new-2.spare;
      calls = record { run = tt };
    })
