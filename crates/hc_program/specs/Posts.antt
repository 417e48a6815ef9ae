-- The command `post`: a task posts values.
use Rattle.std.specs.Prelude.{ℕ, nat_lt, if◌then◌else◌, List, ◌++◌, Option, Some, None, codes}
use Rattle.std.specs.Fmt.{decimal}
use Rattle.hc_records.specs.declared.limits.TheConstants.{TASKS}
use Rattle.hc_events.specs.declared.faults.CoreFault.TheVariants.{NoSuchTask}
use Rattle.hc_conductor.specs.declared.one_thread.refusals.PostRefusal.{PostRefusal}
use Rattle.hc_conductor.specs.declared.one_thread.refusals.PostRefusal.TheVariants.{NoSuchVariable, IsInput, OtherTask, TooWide, NoSpare, NoEntry, Memory}
use Rattle.hc_text.specs.declared.commands.post.Posting.{Posting}
use Rattle.hc_program.specs.Postings.{post_judged, with_posted}
use Rattle.hc_program.specs.Refusals.{refusal_text}
use Rattle.hc_program.specs.Standings.{SessionState}

-- the number of the reason for which nothing is posted
abbrev pub post_refusal_number : PostRefusal → ℕ
post_refusal_number NoSuchVariable = 1
post_refusal_number IsInput = 2
post_refusal_number OtherTask = 3
post_refusal_number TooWide = 4
post_refusal_number NoSpare = 5
post_refusal_number NoEntry = 7
post_refusal_number Memory = 28

-- the name of a post's refusal
abbrev pub post_refusal_name : PostRefusal → List ℕ
post_refusal_name NoSuchVariable = codes "NoSuchVariable"
post_refusal_name IsInput = codes "IsInput"
post_refusal_name OtherTask = codes "OtherTask"
post_refusal_name TooWide = codes "TooWide"
post_refusal_name NoSpare = codes "NoSpare"
post_refusal_name NoEntry = codes "NoEntry"
post_refusal_name Memory = codes "Memory"

-- the line of a post's refusal
unfoldable pub post_refusal_text : PostRefusal → List ℕ
post_refusal_text refusal = codes "refused " ++ decimal (post_refusal_number refusal) ++ codes " " ++ post_refusal_name refusal ++ codes "\n"

-- the line of a post's refusal, or `posted`
abbrev pub post_answered : Option PostRefusal → List ℕ
post_answered None = codes "posted\n"
post_answered (Some refusal) = post_refusal_text refusal

-- the printed text of a post; a task over 7 is refused before all
unfoldable pub post_text : SessionState → Posting → List ℕ
post_text s posting =
    if nat_lt posting.task TASKS then post_answered (post_judged s posting.task posting.settings) else refusal_text NoSuchTask

-- the state with the posted values, or as it was if there is a refusal
abbrev pub posted_unless : Option PostRefusal → SessionState → Posting → SessionState
posted_unless None s posting = with_posted s posting.task posting.settings
posted_unless (Some refusal) s posting = s

-- the state after a post
abbrev pub session_posted : SessionState → Posting → SessionState
session_posted s posting =
    if nat_lt posting.task TASKS then posted_unless (post_judged s posting.task posting.settings) s posting else s
