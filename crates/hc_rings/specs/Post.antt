-- The model of the buffer of a post.
use Rattle.std.specs.Prelude.{ℕ, List, ◌++◌, length, take, drop, replicate, Option, Some, None}

-- the epoch that a post is for, and its output bytes
pub record Post : Type 0 where
  pub epoch : ℕ
  pub bytes : List ℕ

-- the post of these bytes for this epoch
abbrev pub post_of : ℕ → List ℕ → Post
post_of epoch bytes = record { epoch = epoch; bytes = bytes }

-- a post for this epoch, of `size` bytes that are all 0
abbrev pub blank_post : ℕ → ℕ → Post
blank_post epoch size = post_of epoch (replicate size 0)

-- the bytes with others written over them from the first one on. As many stay as there were
abbrev pub overwritten : List ℕ → List ℕ → List ℕ
overwritten bytes written = take (length bytes) (written ++ drop (length written) bytes)

-- the post with other bytes written over its own
abbrev pub post_with_written : Post → List ℕ → Post
post_with_written post written = record { epoch = post.epoch; bytes = overwritten post.bytes written }

-- the number of posts of an option: one or none
abbrev pub post_count : Option Post → ℕ
post_count None = 0
post_count (Some post) = 1
