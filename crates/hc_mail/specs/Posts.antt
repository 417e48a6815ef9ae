-- The posts of a task, as contents of a mailbox.
use Rattle.std.specs.Prelude.{ℕ, List, []}
use Rattle.hc_mail.specs.Contents.{Kind, Room}

-- the outputs that a task posts for an epoch, and the capacity in bytes
pub record MailedPost : Type 0 where
  pub epoch : ℕ
  pub bytes : List ℕ
  pub room : ℕ

-- a post of these outputs for an epoch
abbrev pub mailed_post : ℕ → List ℕ → ℕ → MailedPost
mailed_post epoch bytes room = record { epoch = epoch; bytes = bytes; room = room }

-- posts as contents of a mailbox: they have no datagram
abbrev pub post_kind : Kind MailedPost
post_kind = record { room = λ post. (post.room, 0); blank = λ room. mailed_post 0 [] room.0 }
