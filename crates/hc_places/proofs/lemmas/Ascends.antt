-- The rows of a table ascend.
use Rattle.std.proofs.Common.{◌≡◌, arith}
use Rattle.std.specs.Prelude.{List, None}
use Rattle.hc_records.specs.declared.records.Declared.{Declared}
use Rattle.hc_records.specs.Line.{groups_of, line_from}
use Rattle.hc_records.specs.Project.{lowest_fault}
use Rattle.hc_places.specs.Table.{RowsAscend, table_of}
use Rattle.hc_places.proofs.lemmas.Once.{variable-once}
use Rattle.hc_places.proofs.Rising.{ascends-by_number, unchanged-length}

-- the table of a project's line has each variable once, in the order of their numbers
pub table-ascends : (groups : List Declared) → lowest_fault (groups_of groups) ≡ None → RowsAscend (table_of (line_from 1 groups)).variables
table-ascends groups none = grind (arith, ascends-by_number, unchanged-length, variable-once)
