-- Turns to other lines, and back.
use Rattle.std.specs.Prelude.{None}
use Rattle.std.proofs.Common.{◌≡◌, List, [], length, refl, subst, sym, append-nil}
use Rattle.hc_records.specs.declared.records.Area.{Area}
use Rattle.hc_cuts.specs.Starts.{TaskCuts}
use Rattle.hc_cuts.specs.TaskCuts.{IsProjectLine, over_limit_from, line_cuts}
use Rattle.hc_cuts.specs.ApplyWidths.{AreLines, AppliesWidths}
use Rattle.hc_cuts.specs.LineChange.{LineChange, back}

-- two lines that may differ in the areas of all their slaves
whole-lines : (old new : List (List Area)) → IsProjectLine old → IsProjectLine new → length new ≡ length old → AreLines (record { first = 1; areas_before = old; areas_after = new }) old new
whole-lines old new first second many = record {
  front = [];
  after_it = [];
  rank = refl;
  many = many;
  was = sym (append-nil old);
  is = sym (append-nil new);
  old_line = first;
  new_line = second;
}

-- the tasks of the one are turned into those of the other by all ranks
pub whole-apply_widths : (unchanged : List TaskCuts) (old new : List (List Area)) → IsProjectLine old → IsProjectLine new → length new ≡ length old → unchanged ≡ line_cuts old → over_limit_from 8 0 old ≡ None
    → AppliesWidths 8 0 unchanged (record { first = 1; areas_before = old; areas_after = new }) old new
whole-apply_widths unchanged old new first second many are_placed fits = record { lines = whole-lines old new first second many; of_old = are_placed; fits = fits }

-- two lines the other way round
abbrev pub back-lines : (change : LineChange) (old new : List (List Area)) → AreLines change old new → AreLines (back change) new old
back-lines change old new lines = record {
  front = lines.front;
  after_it = lines.after_it;
  rank = lines.rank;
  many = sym lines.many;
  was = lines.is;
  is = lines.was;
  old_line = lines.new_line;
  new_line = lines.old_line;
}

-- so by a change that is the one that leads back
pub answer_given-back : (change other : LineChange) (old new : List (List Area)) → other ≡ back change → AreLines change old new → AreLines other new old
answer_given-back change other old new is lines = subst (λ (c : LineChange). AreLines c new old) (sym is) (back-lines change old new lines)
