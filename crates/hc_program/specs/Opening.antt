-- Opening the project of an input.
use Rattle.std.specs.Prelude.{◌≡◌, ℕ, Bool, true, false, List, ◌++◌, Option, Some, None, Result, Ok, Err, IsOk, codes}
use Rattle.std.specs.Fmt.{decimal}
use Rattle.hc_records.specs.declared.records.Group.{Group}
use Rattle.hc_records.specs.declared.faults.ProjectFault.{ProjectFault}
use Rattle.hc_records.specs.declared.faults.ProjectFault.TheVariants as fault
use Rattle.hc_records.specs.Edits.{over_limit_task}
use Rattle.hc_records.specs.Line.{line, opened}
use Rattle.hc_project.specs.Text.{project_in}
use Rattle.hc_events.specs.Accepted.{just_opened}
use Rattle.hc_events.specs.Entries.{History}
use Rattle.hc_program.specs.declared.opening.Unopened.{Unopened}
use Rattle.hc_program.specs.declared.opening.Unopened.TheVariants.{Project, TooManyDatagrams, Memory, NoSeat}
use Rattle.hc_program.specs.Refusals.{project_fault_text}

-- the lowest task of the opening line that needs more than 16 datagrams
unfoldable pub over_limit_at_opening : List Group → Option ℕ
over_limit_at_opening groups = over_limit_task (line (opened groups))

-- the record of a core that just opened the groups, if no task is given; else TooManyDatagrams with that task
abbrev pub opened_unless : Option ℕ → List Group → Result History Unopened
opened_unless None groups = Ok (just_opened groups)
opened_unless (Some task) groups = Err (TooManyDatagrams task)

-- the record of a core that opens the groups, or the fault: TooManyDatagrams with the lowest task over the limit of the opening line, or the project's fault
abbrev pub opened_project : Result (List Group) ProjectFault → Result History Unopened
opened_project (Ok groups) = opened_unless (over_limit_at_opening groups) groups
opened_project (Err refused) = Err (Project refused)

-- the record of a core that opens the project of a text, or the fault
unfoldable pub opening_of : List ℕ → Result History Unopened
opening_of text = opened_project (project_in text)

-- the line of the fault by which nothing was opened: `project fault N Name`, `open fault 1 TooManyDatagrams T`, `open fault 2 Memory`, or `open fault 3 NoSeat`
unfoldable pub unopened_text : Unopened → List ℕ
unopened_text (Project refused) = project_fault_text refused
unopened_text (TooManyDatagrams task) = codes "open fault 1 TooManyDatagrams " ++ decimal task ++ codes "\n"
unopened_text Memory = codes "open fault 2 Memory\n"
unopened_text NoSeat = codes "open fault 3 NoSeat\n"

-- the fault of a project is a failed allocation
abbrev pub is_project_memory : ProjectFault → Bool
is_project_memory fault.Memory = true
is_project_memory _ = false

-- nothing was opened for want of memory, as a project's fault or while the project was opened, or of a seat
abbrev pub is_refused_growth : Unopened → Bool
is_refused_growth (Project refused) = is_project_memory refused
is_refused_growth (TooManyDatagrams task) = false
is_refused_growth Memory = true
is_refused_growth NoSeat = true

-- an opening of the groups may be refused for this reason, which is not the text's; a seat is refused only if no task is over its limit
abbrev pub IsRefusalOfOpening : List Group → Unopened → Type 0
IsRefusalOfOpening groups (Project refused) = ⊥
IsRefusalOfOpening groups (TooManyDatagrams task) = Unit {0}
IsRefusalOfOpening groups Memory = Unit {0}
IsRefusalOfOpening groups NoSeat = over_limit_at_opening groups ≡ None

-- the opening of a text may be refused for this reason: a seat is refused only of a project that can be opened, and each other reason that is not the text's comes only of a project
abbrev pub IsRefusalOf : List ℕ → Unopened → Type 0
IsRefusalOf text (Project refused) = Unit {0}
IsRefusalOf text (TooManyDatagrams task) = IsOk (project_in text)
IsRefusalOf text Memory = IsOk (project_in text)
IsRefusalOf text NoSeat = IsOk (opening_of text)

-- the fault that is reported if an allocation fails while a fault is reported
abbrev pub with_refused_growth : Unopened → Unopened
with_refused_growth (Project refused) = Project fault.Memory
with_refused_growth (TooManyDatagrams task) = Memory
with_refused_growth Memory = Memory
with_refused_growth NoSeat = NoSeat
