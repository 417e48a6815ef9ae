-- The two ends of a ring of posts: the posts that went in, and those that came out.
use Rattle.std.specs.Prelude.{List}
use Rattle.rtrb.specs.Ring.{sent, received, known_items}
use Rattle.hc_rings.specs.Post.{Post}
use Rattle.hc_rings.specs.Items.{posts_of}
use Rattle.hc_rings.specs.declared.outgoing.OutgoingPosts.{OutgoingPosts}
use Rattle.hc_rings.specs.declared.incoming.IncomingPosts.{IncomingPosts}

-- every post that went in, oldest first
abbrev pub put_in : OutgoingPosts → List Post
put_in outgoing = posts_of (sent outgoing.ring)

-- every post that came out, oldest first
abbrev pub came_out : IncomingPosts → List Post
came_out incoming = posts_of (received incoming.ring)

-- the posts that are known to be in the ring, oldest first
abbrev pub known_ahead : IncomingPosts → List Post
known_ahead incoming = posts_of (known_items incoming.ring)
