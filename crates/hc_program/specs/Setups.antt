-- The commands `scan` and `name`.
use Rattle.std.specs.Prelude.{ℕ, ◌+◌, List, [], ◌∷◌, ◌++◌, codes}
use Rattle.std.specs.Fmt.{decimal}
use Rattle.hc_events.specs.Points.{line_of}
use Rattle.hc_segment.specs.Setup.{aliases_read, machines_named, machines_scanned, named_count}
use Rattle.hc_program.specs.Standings.{SessionState, with_machines}

-- the line `slot N alias A` of the slave at a position
unfoldable pub alias_text : ℕ → ℕ → List ℕ
alias_text position alias = codes "slot " ++ decimal position ++ codes " alias " ++ decimal alias ++ codes "\n"

-- the lines of slaves in a row, from this position on
abbrev pub aliases_text : ℕ → List ℕ → List ℕ
aliases_text position [] = []
aliases_text position (alias ∷ aliases) = alias_text position alias ++ aliases_text (position + 1) aliases

-- the printed text of a scan, position by position
unfoldable pub scan_text : SessionState → List ℕ
scan_text s = aliases_text 0 (aliases_read s.machines)

-- the state after a scan
abbrev pub scanned : SessionState → SessionState
scanned s = with_machines s (machines_scanned s.machines)

-- the line `named N`: the number of station writes that came back with the working counter 1
abbrev pub named_text : ℕ → List ℕ
named_text count = codes "named " ++ decimal count ++ codes "\n"

-- the printed text of naming
unfoldable pub name_text : SessionState → List ℕ
name_text s = named_text (named_count s.machines (line_of s.history))

-- the state after naming
abbrev pub named : SessionState → SessionState
named s = with_machines s (machines_named s.machines (line_of s.history))
