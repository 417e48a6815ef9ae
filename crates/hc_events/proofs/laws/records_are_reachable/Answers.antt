use Rattle.std.proofs.Common.{◌≡◌, List, refl}
use Rattle.hc_records.specs.declared.records.Group.{Group}
use Rattle.hc_events.specs.Entries.{History, Opened, Edited, Posted, Sent, Wrote, Came, Forgot, Cleared, Unplugged}
use Rattle.hc_events.specs.Points.{opened_with}
use Rattle.hc_events.specs.Accepted.{AreAccepted, just_opened}
use Rattle.hc_events.proofs.lemmas.Accepted.{StaysTrue, accepted-more, unchanged-after_all}
use Rattle.hc_events.proofs.Serials.{serials-left}
use Rattle.hc_events.proofs.laws.records_are_reachable.Goals as goal

abbrev OpenedWith : List Group → History → Type 0
OpenedWith groups history = opened_with history ≡ groups

opened_more : (groups : List Group) → StaysTrue (OpenedWith groups)
opened_more groups history (Opened others) accepted before = absurd accepted
opened_more groups history (Edited edit) accepted before = before
opened_more groups history (Posted task bytes) accepted before = before
opened_more groups history (Forgot station) accepted before = before
opened_more groups history (Cleared station) accepted before = before
opened_more groups history (Unplugged station) accepted before = before
opened_more groups history (Sent frame) accepted before = before
opened_more groups history (Wrote blocks) accepted before = before
opened_more groups history (Came arrival) accepted before = before

pub returns : goal.returns
returns c groups steps = record {
  reachable = record {
    accepted = unchanged-after_all AreAccepted accepted-more (just_opened groups) steps refl;
    few = serials-left groups steps;
  };
  groups_are = unchanged-after_all (OpenedWith groups) (opened_more groups) (just_opened groups) steps refl;
}
