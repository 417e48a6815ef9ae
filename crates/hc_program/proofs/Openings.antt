-- Opening the project of a text.
use Rattle.std.proofs.Common.{◌≡◌, ℕ, true, List, refl, sym, subst, ap, Ok, Err, Some, None, arith}
use Rattle.std.specs.Prelude.{IfErr, IsOk, Result}
use Rattle.hc_records.specs.declared.records.Group.{Group}
use Rattle.hc_records.specs.declared.faults.ProjectFault.{ProjectFault}
use Rattle.hc_records.specs.declared.faults.ProjectFault.TheVariants.{Memory}
use Rattle.hc_records.specs.Edits.{over_limit_task}
use Rattle.hc_records.specs.Line.{line, opened}
use Rattle.hc_events.specs.Accepted.{just_opened}
use Rattle.hc_events.specs.Entries.{History}
use Rattle.hc_project.specs.Text.{project_in}
use Rattle.hc_program.specs.declared.opening.Unopened.{Unopened}
use Rattle.hc_program.specs.declared.opening.Unopened.TheVariants as unopened
use Rattle.hc_program.specs.Opening.{IsRefusalOf, IsRefusalOfOpening, over_limit_at_opening, with_refused_growth, is_project_memory, is_refused_growth, opened_project, opened_unless, opening_of}
use Rattle.hc_program.specs.Sessions.{IsShown}
use Rattle.hc_publish.specs.ChangesSince.{just_answered}

only_memory : (fault : ProjectFault) → is_project_memory fault ≡ true → Memory ≡ fault
only_memory Memory e = refl
only_memory _ e = cc

-- the fault names the lowest task over the limit
pub over_limit_named : (groups : List Group) (task : ℕ) → over_limit_task (line (opened groups)) ≡ Some task → opened_unless (over_limit_at_opening groups) groups ≡ Err (unopened.TooManyDatagrams task)
unfolding over_limit_at_opening
over_limit_named groups task e = ap (λ over_limit. opened_unless over_limit groups) e

pub over_limit_none : (groups : List Group) → over_limit_task (line (opened groups)) ≡ None → opened_unless (over_limit_at_opening groups) groups ≡ Ok (just_opened groups)
unfolding over_limit_at_opening
over_limit_none groups e = ap (λ over_limit. opened_unless over_limit groups) e

-- no task is over its limit
pub uncrowded_at_opening : (groups : List Group) → over_limit_task (line (opened groups)) ≡ None → over_limit_at_opening groups ≡ None
unfolding over_limit_at_opening
uncrowded_at_opening groups e = e

-- why the groups aren't opened says why their text isn't
pub refusal_of_text : {A : Type 0} (text : List ℕ) (groups : List Group) (result : Result A Unopened) → project_in text ≡ Ok groups → IfErr result (IsRefusalOfOpening groups) → IfErr result (IsRefusalOf text)
unfolding opening_of
refusal_of_text text groups (Ok opened) is answer_given = tt
refusal_of_text text groups (Err (unopened.Project refused)) is answer_given = absurd answer_given
refusal_of_text text groups (Err (unopened.TooManyDatagrams task)) is answer_given = subst (λ found. IsOk found) (sym is) refl
refusal_of_text text groups (Err unopened.Memory) is answer_given = subst (λ found. IsOk found) (sym is) refl
refusal_of_text text groups (Err unopened.NoSeat) is answer_given = subst (λ found. IsOk (opened_project found)) (sym is) (subst (λ over_limit. IsOk (opened_unless over_limit groups)) (sym answer_given) refl)

-- a want is reported as it is
pub in_refused_growth_same : (fault : Unopened) → is_refused_growth fault ≡ true → with_refused_growth fault ≡ fault
in_refused_growth_same (unopened.Project refused) e = ap unopened.Project (only_memory refused e)
in_refused_growth_same (unopened.TooManyDatagrams task) e = cc
in_refused_growth_same unopened.Memory e = refl
in_refused_growth_same unopened.NoSeat e = refl

-- what is opened is the project of a text
found_project : (found : Result (List Group) ProjectFault) (history : History) → opened_project found ≡ Ok history → IsOk found
found_project (Ok groups) history e = refl
found_project (Err fault) history e = cc

pub opened_is_project : (text : List ℕ) (history : History) → opening_of text ≡ Ok history → IsOk (project_in text)
unfolding opening_of
opened_is_project text history e = found_project (project_in text) history e

-- what is shown at the opening is what the record gives
pub opening_shown : (groups : List Group) → IsShown (just_opened groups) (just_answered groups)
opening_shown groups = record { reachable = record { accepted = refl; few = omega arith }; groups = refl; legal = tt; updates = refl }
