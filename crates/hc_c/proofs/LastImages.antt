-- Each seat that was shown an image which says what became of the line shows it last.
use Rattle.std.proofs.Common.{◌∙◌, ℕ, ◌+◌, List, [], ◌∷◌, Option, None, Some, ap}
use Rattle.hc_events.specs.Entries.{History}
use Rattle.hc_mail.specs.Contents.{newest}
use Rattle.hc_mail.specs.Ends.{SenderEnd, seen}
use Rattle.hc_mail.specs.Images.{Image, image_kind}
use Rattle.hc_mail.specs.declared.image.LineState.{LineState}
use Rattle.hc_c.specs.SeatImages.{EachTold, LookersTold, SaysLast, SeatsTold, SendsImage, ShowsAll, ShowsEnds, ShowsLookers}
use Rattle.hc_c.specs.SeatRoom.{image_room}
use Rattle.hc_c.specs.declared.seat.ends.OwnerEnd.{OwnerEnd}
use Rattle.hc_c.specs.declared.seat.ends.OwnerEnds.{OwnerEnds}
use Rattle.hc_c.specs.declared.seat.lookers.LookerEnd.{LookerEnd}
use Rattle.hc_c.proofs.Mailed.{last-of-one-more}

last-shown : (image : Image) (old new : SenderEnd Image) → SendsImage image old new → SaysLast image.head.line new
last-shown image old new sends =
    ap (λ (it : List Image). (newest image_kind image_room it).head.line) sends.shown ∙ ap (λ (it : Image). it.head.line) (last-of-one-more (image_kind.blank image_room) (seen old.place) image)

seats_told : (history : History) (firsts : List ℕ) (line : LineState) (task : ℕ) (olds nexts : List (Option OwnerEnd)) → ShowsAll history firsts line task olds nexts → SeatsTold line nexts
seats_told history firsts line task [] [] shows = tt
seats_told history firsts line task [] (new ∷ nexts) shows = absurd shows
seats_told history firsts line task (old ∷ olds) [] shows = absurd shows
seats_told history firsts line task (None ∷ olds) (None ∷ nexts) shows = (tt, seats_told history firsts line (task + 1) olds nexts shows.1)
seats_told history firsts line task (None ∷ olds) (Some new ∷ nexts) shows = absurd shows.0
seats_told history firsts line task (Some old ∷ olds) (None ∷ nexts) shows = absurd shows.0
seats_told history firsts line task (Some old ∷ olds) (Some new ∷ nexts) shows = (last-shown _ old.images new.images shows.0.images, seats_told history firsts line (task + 1) olds nexts shows.1)

lookers_told : (history : History) (firsts : List ℕ) (line : LineState) (olds nexts : List (Option LookerEnd)) → ShowsLookers history firsts line olds nexts → LookersTold line nexts
lookers_told history firsts line [] [] shows = tt
lookers_told history firsts line [] (new ∷ nexts) shows = absurd shows
lookers_told history firsts line (None ∷ olds) [] shows = absurd shows
lookers_told history firsts line (Some old ∷ olds) [] shows = absurd shows
lookers_told history firsts line (None ∷ olds) (None ∷ nexts) shows = (tt, lookers_told history firsts line olds nexts shows)
lookers_told history firsts line (None ∷ olds) (Some new ∷ nexts) shows = absurd shows
lookers_told history firsts line (Some old ∷ olds) (None ∷ nexts) shows = absurd shows
lookers_told history firsts line (Some old ∷ olds) (Some new ∷ nexts) shows = (last-shown _ old.images new.images shows.0.images, lookers_told history firsts line olds nexts shows.1)

pub each-told : (history : History) (firsts : List ℕ) (line : LineState) (old new : OwnerEnds) → ShowsEnds history firsts line old new → EachTold line new
each-told history firsts line old new shows = (seats_told history firsts line 0 old.by_task new.by_task shows.0, lookers_told history firsts line old.lookers new.lookers shows.1)
