-- A copy, as contracts see it: its content, and the token of its last seal.
use Rattle.std.specs.Prelude.{List}
use Rattle.logbook.specs.Pages.{Book}
use Rattle.hc_records.specs.declared.records.Group.{Group}
use Rattle.hc_publish.specs.ChangesSince.{ChangesSince}
use Rattle.hc_publish.specs.PublicationLog.{TheSeen}

-- the content of a copy, and the entries of the publication log that were seen at its last seal
pub record Story : Type 0 where
  pub shown : ChangesSince
  pub token : TheSeen

-- the origin of a publisher, a seat, a view or a note: a publisher's publication log, and the groups that were opened
pub record Origin : Type 0 where
  pub publication_log : Book
  pub groups : List Group

-- the origin of a copy
abbrev pub origin : Story → Origin
origin s = record { publication_log = s.token.book; groups = s.shown.groups }
