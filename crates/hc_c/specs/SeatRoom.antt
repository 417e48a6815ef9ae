-- The capacity of the mailboxes between a line and its seats.
use Rattle.hc_records.specs.declared.limits.TheConstants.{MOST_DATAGRAMS}
use Rattle.hc_mail.specs.Contents.{Room}
use Rattle.hc_c.specs.declared.seat.limits.TheConstants.{LARGEST_IMAGE}

-- the capacity of the largest image of a task: 23,776 bytes and 16 datagrams
abbrev pub image_room : Room
image_room = (LARGEST_IMAGE, MOST_DATAGRAMS)

-- the capacity of a post of its outputs
abbrev pub post_room : Room
post_room = (LARGEST_IMAGE, 0)
