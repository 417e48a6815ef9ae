-- A copy by its fields.
use Rattle.hc_publish.specs.declared.copies.Copy.TheInside.{Inside}
use Rattle.hc_publish.specs.Stories.{Story}

-- the content, and the last seal
abbrev pub story_in : Inside → Story
story_in c = record { shown = c.shown; token = c.front }
