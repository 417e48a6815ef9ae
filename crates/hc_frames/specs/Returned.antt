-- A sending that comes back (this project's profile of ETG.1000.4, frame and datagram structure). Slaves change data, working
-- counters, interrupt fields and the low word of a position's address, and set bit 1 of the first source byte.
use Rattle.std.specs.Prelude.{◌≡◌, ℕ, ◌/◌, ◌^◌, ◌<◌, ◌≤◌, List, [], ◌∷◌, length, replicate}
use Rattle.hc_frames.specs.declared.commands.Command.{Command}
use Rattle.hc_frames.specs.declared.commands.Command.TheVariants.{Aprd, Apwr, Fpwr, Lrw}
use Rattle.hc_frames.specs.declared.limits.TheConstants.{MAX_DATA}
use Rattle.hc_frames.specs.FrameText.{WireDatagram, Datagram, carried_frame}

-- the address of a command after the line: the slaves count a position up
abbrev pub KeepsAddress : Command → ℕ → ℕ → Type 0
KeepsAddress Aprd old new = new / 65536 ≡ old / 65536
KeepsAddress Apwr old new = new / 65536 ≡ old / 65536
KeepsAddress Fpwr old new = new ≡ old
KeepsAddress Lrw old new = new ≡ old

-- a datagram as it comes back
pub record ComesBack (d : Datagram) (part : WireDatagram) : Type 0 where
  pub command : part.command ≡ d.command
  pub address : KeepsAddress d.command d.address part.address
  pub size : length part.bytes ≡ length d.bytes

-- datagrams as they come back, one by one
abbrev pub AllComeBack : List Datagram → List WireDatagram → Type 0
AllComeBack [] [] = Unit {0}
AllComeBack [] (part ∷ parts) = ⊥
AllComeBack (d ∷ ds) [] = ⊥
AllComeBack (d ∷ ds) (part ∷ parts) = ComesBack d part × AllComeBack ds parts

-- a returned frame of a sending: its datagrams came back as these parts, and any bytes or none follow them
pub record IsReturned (serial : ℕ) (ds : List Datagram) (parts : List WireDatagram) (bytes : List ℕ) : Type 0 where
  pub back : AllComeBack ds parts
  pub text : (after_it : List ℕ) × (bytes ≡ carried_frame (replicate 6 255) 2 serial parts after_it)

-- a datagram whose fields fit their places, and which has data
pub record FitsLine (part : WireDatagram) : Type 0 where
  pub address : part.address < 2 ^ 32
  pub interrupt : part.interrupt < 2 ^ 16
  pub counter : part.counter < 2 ^ 16
  pub filled : 1 ≤ length part.bytes
  pub size : length part.bytes ≤ MAX_DATA

-- a command whose address is no position; each datagram has such a command
abbrev pub IsAddressed : Command → Type 0
IsAddressed Aprd = ⊥
IsAddressed Apwr = ⊥
IsAddressed Fpwr = Unit {0}
IsAddressed Lrw = Unit {0}

-- each datagram to be sent is an FPWR or LRW
abbrev pub AllAddressed : List Datagram → Type 0
AllAddressed [] = Unit {0}
AllAddressed (d ∷ ds) = IsAddressed d.command × AllAddressed ds
