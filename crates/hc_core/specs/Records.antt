-- The record that a past stands for.
use Rattle.std.specs.Prelude.{◌∷◌, map}
use Rattle.hc_core.specs.declared.history.HistoryGhost.{HistoryGhost}
use Rattle.hc_core.specs.declared.history.HistoryGhost.TheVariants.{Opened, Edited', Posted', Sent', Wrote', Came', Forgot', Cleared', Unplugged'}
use Rattle.hc_events.specs.Accepted.{just_opened}
use Rattle.hc_events.specs.Arrivals.{arrival_in}
use Rattle.hc_events.specs.Entries.{History}
use Rattle.hc_events.specs.Entries as entry
use Rattle.hc_events.specs.Steps.{with_arrival}
use Rattle.hc_sendings.specs.WriteFrames.{block_of}
use Rattle.hc_core.specs.Texts.{text_bytes}

-- the record of a past, entry by entry: the project's opening, and bytes that arrived by what was read of them, if anything was
abbrev pub history_read : HistoryGhost → History
history_read (Opened project) = just_opened project.value
history_read (Edited' m history edit) = entry.Edited edit.value ∷ history_read history
history_read (Posted' m history task text) = entry.Posted task.value (text_bytes text.value) ∷ history_read history
history_read (Sent' m history frame) = entry.Sent frame.value.datagrams ∷ history_read history
history_read (Wrote' m history frame) = entry.Wrote (map block_of frame.value.blocks) ∷ history_read history
history_read (Forgot' m history station) = entry.Forgot station.value ∷ history_read history
history_read (Cleared' m history station) = entry.Cleared station.value ∷ history_read history
history_read (Unplugged' m history station) = entry.Unplugged station.value ∷ history_read history
history_read (Came' m history text) = with_arrival (history_read history) (arrival_in (text_bytes text.value))
