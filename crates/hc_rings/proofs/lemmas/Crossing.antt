-- The end of a ring where tasks post may go to another thread.
use denote.Param.Send.{IsSend}
use Rattle.hc_rings.proofs.posts.PostSender.TheSendSync as posts
use Rattle.hc_rings.specs.contracts.posts.PostSender as PostSender

pub post_sender_field_send : IsSend (PostSender.the_field).row
post_sender_field_send = posts.the_field_send
