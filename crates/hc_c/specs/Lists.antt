-- Lists in slices of the caller's.
use Rattle.std.specs.Prelude.{List, ◌++◌, length, take, drop}

-- the first elements of a list are replaced by others, as many as fit
abbrev pub put_first : {X : Type 0} → List X → List X → List X
put_first new old = take (length old) new ++ drop (length new) old
