-- The model of the two ends of a ring of frames. A frame is the list of its bytes.
use Rattle.std.specs.Prelude.{ℕ, List}
use Rattle.rtrb.specs.Ring.{sent, received, known_items, producer_capacity, IsPair, SameProducer, SameConsumer}
use Rattle.hc_rings.specs.declared.frames.FrameSender.{FrameSender}
use Rattle.hc_rings.specs.declared.frames.FrameReceiver.{FrameReceiver}

-- every frame that was sent, oldest first
abbrev pub frames_sent : FrameSender → List (List ℕ)
frames_sent s = sent s.ring

-- the number of frames that the ring has room for
abbrev pub frame_room : FrameSender → ℕ
frame_room s = producer_capacity s.ring

-- every frame that was taken, oldest first
abbrev pub frames_taken : FrameReceiver → List (List ℕ)
frames_taken r = received r.ring

-- the frames that the receiver knows to be left, oldest first: the next that it takes
abbrev pub frames_left : FrameReceiver → List (List ℕ)
frames_left r = known_items r.ring

-- the two ends of one ring
abbrev pub AreFrameEnds : FrameSender → FrameReceiver → Type 0
AreFrameEnds s r = IsPair s.ring r.ring

-- two senders are one end of one ring
abbrev pub SameFrameSender : FrameSender → FrameSender → Type 0
SameFrameSender old new = SameProducer old.ring new.ring

-- both are the receiving end of one ring of frames, with room for as many; what was taken may differ
abbrev pub SameFrameReceiver : FrameReceiver → FrameReceiver → Type 0
SameFrameReceiver old new = SameConsumer old.ring new.ring
