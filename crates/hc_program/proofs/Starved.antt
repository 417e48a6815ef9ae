-- Runs where memory was refused: one turn of them, and how they end.
use Rattle.std.proofs.Common.{◌≡◌, ◌≤◌, ◌<◌, inl, inr, ℕ, Bool, true, false, ◌||◌, List, [], ◌∷◌, length, refl, sym, ap, subst, ◌∙◌, Ok, Err, Some, None}
use Rattle.std.specs.Prelude.{◌⊎◌, is_err, Option, Result, IfSome, OnErr, OnOk}
use Rattle.std.proofs.KnownBytes.{Appends-nil}
use Rattle.hc_events.specs.Entries.{History}
use Rattle.hc_text.specs.declared.input.TheConstants.{MOST_INPUT}
use Rattle.hc_text.specs.Lines.{Line, command_lines, lines_of, project_text}
use Rattle.hc_program.specs.declared.opening.Unopened.{Unopened}
use Rattle.hc_program.specs.declared.opening.Unopened.TheVariants.{Project, TooManyDatagrams, Memory, NoSeat}
use Rattle.hc_program.specs.Declaring.{Turn, turns_of}
use Rattle.hc_program.specs.Opening.{IsRefusalOf, with_refused_growth, opening_of}
use Rattle.hc_program.specs.Runs.{Outcome, Reply, outcome_after_reply, reply_to, run, then_published}
use Rattle.hc_program.specs.Standings.{SessionState, opened_session_state, session_published}
use Rattle.hc_program.specs.Starved.{EndsAsOne, RunsWithRefusedGrowth, StarvedOutcome, StarvedRun, StarvedSections, Stops}
use Rattle.hc_text.specs.declared.input.Unread.{Unread}
use Rattle.hc_text.specs.declared.input.Unread.TheVariants as unread_fault
use Rattle.hc_program.specs.declared.engine.Broken.TheVariants as broken
use Rattle.hc_program.specs.declared.engine.RunEnd.{RunEnd}
use Rattle.hc_program.specs.Text.{Breaks, EndsAs, program_outcome, unopened, unread}
use Rattle.hc_program.specs.Turns.{Continues, Ends, GoesOn, run_end_of}
use Rattle.hc_program.proofs.Outcomes.{long_outcome}
use Rattle.hc_program.proofs.Turns.{begins, continues, done, ends}

-- what the turns that are left may give: memory was refused before, or is for one of them
abbrev pub Left : Bool → SessionState → List Turn → Outcome → Type 0
Left true = RunsWithRefusedGrowth
Left false = StarvedRun

-- whatever is left of a run, it and what was written are a whole run
abbrev pub Leads : Option (List ℕ) → Option (List ℕ) → (Outcome → Type 0) → (Outcome → Type 0) → Type 0
Leads old new Rest All = (left : Outcome) → Rest left → ((all : Outcome) × All all × Continues old new left all)

-- before the first turn
pub leads_all : (old : Option (List ℕ)) (All : Outcome → Type 0) → Leads old old All All
leads_all old All left is = (left, is, begins old left)

-- a run where memory isn't refused
unrefused : (s : SessionState) (turns : List Turn) → RunsWithRefusedGrowth s turns (run s turns)
unfolding RunsWithRefusedGrowth run
unrefused s [] = refl
unrefused s (turn ∷ turns) =
    let reply = reply_to s turn in
    inl (run reply.session_state turns, unrefused reply.session_state turns, refl)

-- a turn that gives its reply
replied : (before : Bool) (s : SessionState) (turns : List Turn) (turn : Turn) (after_it : List Turn) (rest : Outcome) → turns ≡ turn ∷ after_it
    → (before ≡ false → (reply_to s turn).goes_on ≡ true) → Left before (reply_to s turn).session_state after_it rest → Left before s turns (outcome_after_reply (reply_to s turn) rest)
unfolding RunsWithRefusedGrowth StarvedRun
replied true s turns turn after_it rest first on is = subst (λ t. RunsWithRefusedGrowth s t (outcome_after_reply (reply_to s turn) rest)) (sym first) (inl (rest, is, refl))
replied false s turns turn after_it rest first on is = subst (λ t. StarvedRun s t (outcome_after_reply (reply_to s turn) rest)) (sym first) (inl (on refl, (rest, is, refl)))

-- a turn that is stopped
stopped : (before : Bool) (s : SessionState) (turns : List Turn) (turn : Turn) (after_it : List Turn) (reply : Reply) (rest : Outcome) → turns ≡ turn ∷ after_it
    → Stops s turn reply → RunsWithRefusedGrowth reply.session_state after_it rest → Left before s turns (outcome_after_reply reply rest)
unfolding RunsWithRefusedGrowth StarvedRun
stopped true s turns turn after_it reply rest first stops is = subst (λ t. RunsWithRefusedGrowth s t (outcome_after_reply reply rest)) (sym first) (inr (reply, stops, (rest, is, refl)))
stopped false s turns turn after_it reply rest first stops is = subst (λ t. StarvedRun s t (outcome_after_reply reply rest)) (sym first) (inr (reply, stops, (rest, is, refl)))

-- a reply is written and the run goes on
leads_on : (old mid new : Option (List ℕ)) (Rest Next All : Outcome → Type 0) (reply : Reply) (next : SessionState)
    → Leads old mid Rest All → ((rest : Outcome) → Next rest → Rest (outcome_after_reply reply rest)) → GoesOn mid new next reply → Leads old new Next All
leads_on old mid new Rest Next All reply next leads first turn rest is =
    let (all, holds, c) = leads (outcome_after_reply reply rest) (first rest is) in
    (all, holds, continues old mid new (outcome_after_reply reply rest) all reply next (λ _. rest) c refl turn)

leads_stopped : (before : Bool) (old mid new : Option (List ℕ)) (All : Outcome → Type 0) (s next : SessionState) (turns : List Turn) (turn : Turn) (after_it : List Turn) (reply : Reply) → turns ≡ turn ∷ after_it
    → Leads old mid (Left before s turns) All → Stops s turn reply → GoesOn mid new next reply → Leads old new (RunsWithRefusedGrowth next after_it) All
leads_stopped before old mid new All s next turns turn after_it reply first leads stops taken =
    leads_on old mid new _ _ All reply next leads
    (λ left is. stopped before s turns turn after_it reply left first stops (subst (λ t. RunsWithRefusedGrowth t after_it left) taken.left is))
    taken

leads_replied : (before : Bool) (old mid new : Option (List ℕ)) (All : Outcome → Type 0) (s next : SessionState) (turns : List Turn) (turn : Turn) (after_it : List Turn) → turns ≡ turn ∷ after_it
    → Leads old mid (Left before s turns) All → GoesOn mid new next (reply_to s turn) → Leads old new (Left before next after_it) All
leads_replied before old mid new All s next turns turn after_it first leads taken =
    leads_on old mid new _ _ All (reply_to s turn) next leads
    (λ left is. replied before s turns turn after_it left first (λ _. taken.on) (subst (λ t. Left before t after_it left) taken.left is))
    taken

-- one turn, and then the run goes on
pub leads_turn : (before now : Bool) (old mid new : Option (List ℕ)) (All : Outcome → Type 0) (s next : SessionState) (turns : List Turn) (turn : Turn) (after_it : List Turn) → turns ≡ turn ∷ after_it
    → Leads old mid (Left before s turns) All
    → (now ≡ false → GoesOn mid new next (reply_to s turn))
    → (now ≡ true → (reply : Reply) × Stops s turn reply × GoesOn mid new next reply)
    → Leads old new (Left (before || now) next after_it) All
leads_turn true true old mid new All s next turns turn after_it first leads answered stops =
    let (reply, is, taken) = stops refl in leads_stopped true old mid new All s next turns turn after_it reply first leads is taken
leads_turn false true old mid new All s next turns turn after_it first leads answered stops =
    let (reply, is, taken) = stops refl in leads_stopped false old mid new All s next turns turn after_it reply first leads is taken
leads_turn true false old mid new All s next turns turn after_it first leads answered stops =
    leads_replied true old mid new All s next turns turn after_it first leads (answered refl)
leads_turn false false old mid new All s next turns turn after_it first leads answered stops =
    leads_replied false old mid new All s next turns turn after_it first leads (answered refl)

-- one turn, and then the run ends
leads_end : (old mid new : Option (List ℕ)) (Rest All : Outcome → Type 0) (reply : Reply) (rest : Outcome) (status : ℕ) (starved : Bool)
    → Leads old mid Rest All → Rest (outcome_after_reply reply rest) → Ends mid new status reply → EndsAsOne old new (run_end_of status starved) All
leads_end old mid new Rest All reply rest status starved leads is turn =
    let (all, holds, c) = leads (outcome_after_reply reply rest) is in
    (all, holds, ends old mid new (outcome_after_reply reply rest) all rest reply status starved c refl turn)

pub leads_ended : (before now : Bool) (old mid new : Option (List ℕ)) (All : Outcome → Type 0) (status : ℕ) (end_starved : Bool) (s : SessionState) (turns : List Turn) (turn : Turn) (after_it : List Turn) → turns ≡ turn ∷ after_it
    → (before || now) ≡ true → Leads old mid (Left before s turns) All
    → (now ≡ false → Ends mid new status (reply_to s turn))
    → (now ≡ true → (reply : Reply) × Stops s turn reply × Ends mid new status reply)
    → EndsAsOne old new (run_end_of status end_starved) All
leads_ended before true old mid new All status end_starved s turns turn after_it first starved leads answered stops =
    let (reply, is, taken) = stops refl in
    let rest = run reply.session_state after_it in
    leads_end old mid new _ All reply rest status end_starved leads (stopped before s turns turn after_it reply rest first is (unrefused reply.session_state after_it)) taken
leads_ended true false old mid new All status end_starved s turns turn after_it first starved leads answered stops =
    let next = (reply_to s turn).session_state in
    let rest = run next after_it in
    leads_end old mid new _ All (reply_to s turn) rest status end_starved leads (replied true s turns turn after_it rest first (λ e. cc) (unrefused next after_it)) (answered refl)
leads_ended false false old mid new All status end_starved s turns turn after_it first starved leads answered stops = cc

-- the same of an end that is reported
pub ended_one : (old new : Option (List ℕ)) (end other : RunEnd) (All : Outcome → Type 0) → end ≡ other → EndsAsOne old new other All → EndsAsOne old new end All
ended_one old new end other All is holds = subst (λ (e : RunEnd). EndsAsOne old new e All) (sym is) holds

-- a publishing that is refused or not
pub publishes : {A E : Type 0} (result : Result A E) (refused : Bool) (P : Type 0) → refused ≡ is_err result → refused ≡ false → OnOk result P → P
publishes (Ok x) refused P answer_given not answered_so = answered_so
publishes (Err e) refused P answer_given not answered_so = cc

pub refuses : {A E : Type 0} (result : Result A E) (refused : Bool) (P : Type 0) → refused ≡ is_err result → refused ≡ true → OnErr result P → P
refuses (Ok x) refused P answer_given is unchanged = cc
refuses (Err e) refused P answer_given is unchanged = unchanged

-- a turn in want: it was stopped, and what it left is published or not

pub published_or : {A E : Type 0} (result : Result A E) (reply : Reply) (mid next : SessionState) → reply.session_state ≡ mid → OnOk result (next ≡ session_published mid) → OnErr result (next ≡ mid)
    → (record reply { session_state = next } ≡ reply) ⊎ (record reply { session_state = next } ≡ then_published reply)
published_or (Ok x) reply mid next is answer_given unchanged = inr (ap (λ (t : SessionState). record reply { session_state = t }) (answer_given ∙ ap session_published (sym is)))
published_or (Err e) reply mid next is answer_given unchanged = inl (ap (λ (t : SessionState). record reply { session_state = t }) (unchanged ∙ sym is))

-- a run whose last turn was answered
finished : (s : SessionState) (turns : List Turn) → turns ≡ [] → RunsWithRefusedGrowth s turns (record { text = []; status = 0 })
unfolding RunsWithRefusedGrowth
finished s turns none = subst (λ t. RunsWithRefusedGrowth s t (record { text = []; status = 0 })) (sym none) refl

pub leads_done : (before end_starved : Bool) (old new : Option (List ℕ)) (All : Outcome → Type 0) (s : SessionState) (turns : List Turn) → before ≡ true → turns ≡ []
    → Leads old new (Left before s turns) All → EndsAsOne old new (run_end_of 0 end_starved) All
leads_done true end_starved old new All s turns starved none leads =
    let (all, holds, c) = leads (record { text = []; status = 0 }) (finished s turns none) in
    (all, holds, done old new end_starved (record { text = []; status = 0 }) all c refl)
leads_done false end_starved old new All s turns starved none leads = cc

-- a project that opens
pub starved_lines : (old new : Option (List ℕ)) (end : RunEnd) (input : List ℕ) (history : History) (s : SessionState) (lines : List Line) → length input ≤ MOST_INPUT → opening_of (project_text (lines_of input)) ≡ Ok history
    → lines ≡ command_lines (lines_of input) → s ≡ opened_session_state history → EndsAsOne old new end (StarvedRun s (turns_of lines)) → EndsAsOne old new end (StarvedOutcome input)
starved_lines old new end input history s lines within opens same is (all, starved, ends_so) =
    (all, inr (within, inr (inr (inr (history, opens, subst (λ l. StarvedRun (opened_session_state history) (turns_of l) all) same (subst (λ (t : SessionState). StarvedRun t (turns_of lines) all) is starved))))), ends_so)

starved_sections : (text : List ℕ) (lines : List Line) (fault : Unopened) → IsRefusalOf text fault → StarvedSections text lines (unopened (with_refused_growth fault))
starved_sections text lines (Project refused) reason = inl refl
starved_sections text lines (TooManyDatagrams task) reason = inr (inl (reason, refl))
starved_sections text lines Memory reason = inr (inl (reason, refl))
starved_sections text lines NoSeat reason = inr (inr (inl (reason, refl)))

-- a project that isn't opened
pub starved_unopened : (old new : Option (List ℕ)) (end : RunEnd) (input : List ℕ) (fault : Unopened) → length input ≤ MOST_INPUT
    → IsRefusalOf (project_text (lines_of input)) fault → EndsAs old new end (unopened (with_refused_growth fault)) → EndsAsOne old new end (StarvedOutcome input)
starved_unopened old new end input fault within reason ends_so =
    (unopened (with_refused_growth fault), inr (within, starved_sections (project_text (lines_of input)) (command_lines (lines_of input)) fault reason), ends_so)

-- how a run ends whose input isn't read
abbrev pub unread_end : Unread → Bool → RunEnd
unread_end fault starved = record { status = 4; starved = starved; broken = Some (broken.Unread fault) }

unread_breaks : (old : Option (List ℕ)) (fault : Unread) (outcome : Outcome) → (fault ≡ unread_fault.TooLong → outcome ≡ unread) → Breaks (Some (broken.Unread fault)) old old 4 outcome
unread_breaks old unread_fault.TooLong outcome long = (refl, long refl)
unread_breaks old unread_fault.Failed outcome long = (refl, Appends-nil old)
unread_breaks old unread_fault.Memory outcome long = (refl, Appends-nil old)

pub unread_ends : (old : Option (List ℕ)) (fault : Unread) (starved : Bool) (outcome : Outcome) → (fault ≡ unread_fault.TooLong → outcome ≡ unread) → EndsAs old old (unread_end fault starved) outcome
unread_ends old fault starved outcome long = record {
  whole = λ not_four. absurd (not_four refl);
  front = (0, Appends-nil old);
  broken = unread_breaks old fault outcome long;
}

pub starved_unread : (remaining old : Option (List ℕ)) (fault : Unread) (starved : Bool) → IfSome remaining (λ bytes. EndsAsOne old old (unread_end fault starved) (StarvedOutcome bytes))
starved_unread None old fault starved = tt
starved_unread (Some bytes) old fault starved = (unread, inl refl, unread_ends old fault starved unread (λ _. refl))

pub unstarved_unread : (remaining old : Option (List ℕ)) (fault : Unread) (starved : Bool) → (fault ≡ unread_fault.TooLong → IfSome remaining (λ all. MOST_INPUT < length all))
    → IfSome remaining (λ bytes. EndsAs old old (unread_end fault starved) (program_outcome bytes))
unstarved_unread None old fault starved long = tt
unstarved_unread (Some bytes) old fault starved long = unread_ends old fault starved (program_outcome bytes) (λ is. long_outcome bytes (long is))
