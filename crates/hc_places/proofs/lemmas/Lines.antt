-- The tables of the tasks of a project's line, and what is known of their datagrams.
use Rattle.std.proofs.Common.{◌≡◌, ◌∙◌, ap, ℕ, ◌<◌, Bool, cond, List, [], ◌∷◌, refl, sym, subst, arith}
use Rattle.std.specs.Prelude.{All, None, filter, ◌==◌}
use Rattle.std.proofs.lemmas.List.Elements.{All-filter}
use Rattle.hc_records.specs.declared.records.Declared.{Declared}
use Rattle.hc_records.specs.Image.{inside, task_places}
use Rattle.hc_records.specs.Laws.{LiesInside}
use Rattle.hc_records.specs.Line.{groups_of, line_from}
use Rattle.hc_records.specs.Packing.{Placed, empty_front, packed}
use Rattle.hc_records.specs.Project.{lowest_fault}
use Rattle.hc_records.specs.TaskList.{Keyed, task_list}
use Rattle.hc_records.proofs.lemmas.Inside.{packed-inside}
use Rattle.hc_cuts.specs.Areas.{areas_by_rank, list_by}
use Rattle.hc_cuts.proofs.lemmas.AnswerGiven.{task-listed}
use Rattle.hc_places.specs.DatagramUses.{datagram_use_in, datagram_use_of, table_at}
use Rattle.hc_places.specs.DatagramUses.{counted_inside}
use Rattle.hc_places.specs.Table.{task_table}
use Rattle.hc_places.proofs.Configurable.{project-configurable}
use Rattle.hc_places.proofs.lemmas.Ranks.{expected-low}
use Rattle.hc_places.proofs.Tables.{table-same}

-- the table of a task is put together from what its datagrams hold
pub table-loaded : (groups : List Declared) (task : ℕ) → lowest_fault (groups_of groups) ≡ None
    → task_table (line_from 1 groups) task ≡ table_at task (task_places task (line_from 1 groups))
table-loaded groups task none = sym (table-same task (line_from 1 groups) (project-configurable groups none))

-- so its list gives it
pub same-table : (old new : List Declared) (task : ℕ) → lowest_fault (groups_of old) ≡ None → lowest_fault (groups_of new) ≡ None
    → task_list task (line_from 1 old) ≡ task_list task (line_from 1 new) → task_table (line_from 1 old) task ≡ task_table (line_from 1 new) task
same-table old new task none none' same = grind (arith, table-loaded)

-- the areas of one datagram by themselves
pub record IsDatagramOf (groups : List Declared) (task datagram : ℕ) (areas : List Placed) : Type 0 where
  pub inside : All LiesInside areas
  pub counted : counted_inside datagram areas < 65536
  pub datagram_use : datagram_use_in areas datagram ≡ datagram_use_in (task_places task (line_from 1 groups)) datagram

unchanged-by : {X : Type 0} (here : Bool) (test : X → Bool) (x : X) (unchanged : List X) → test x ≡ here → filter test unchanged ≡ unchanged → filter test (cond here (x ∷ unchanged) unchanged) ≡ cond here (x ∷ unchanged) unchanged
unchanged-by here test x unchanged is rest = grind arith

unchanged-twice : {X : Type 0} (test : X → Bool) (xs : List X) → filter test (filter test xs) ≡ filter test xs
unchanged-twice test [] = refl
unchanged-twice test (x ∷ xs) = unchanged-by (test x) test x (filter test xs) refl (unchanged-twice test xs)

pub datagram-of : (groups : List Declared) (task datagram : ℕ) (areas : List Placed) → lowest_fault (groups_of groups) ≡ None
    → areas ≡ inside datagram (packed empty_front (list_by task (areas_by_rank groups))) → IsDatagramOf groups task datagram areas
datagram-of groups task datagram areas none is =
    let line = line_from 1 groups in
    let configurable = project-configurable groups none in
    let here : areas ≡ inside datagram (task_places task line) = is ∙ ap (λ (list : List Keyed). inside datagram (packed empty_front list)) (sym (task-listed task groups)) in
    let own : inside datagram areas ≡ inside datagram (task_places task line) =
    ap (inside datagram) here ∙ unchanged-twice (λ (area : Placed). area.datagram == datagram) (task_places task line) in
    let same : counted_inside datagram areas ≡ counted_inside datagram (task_places task line) = ap (λ (datagram_use : _). datagram_use.expected) (ap datagram_use_of own) in
    let expected = configurable.counted task datagram in
    let low = expected-low task datagram line in
    let slaves = configurable.few in
    record {
      inside = subst (λ (all : List Placed). All LiesInside all) (sym here)
          (All-filter (λ area. area.datagram == datagram) LiesInside (task_places task line) (packed-inside empty_front (task_list task line) (configurable.packable task)));
      counted = omega (arith, same, expected, low, slaves);
      datagram_use = ap datagram_use_of own;
    }
