-- Nothing is said of an input that isn't read.
use Rattle.std.proofs.Common.{ℕ, Bool, List, inl, refl, Some, None}
use Rattle.std.specs.Prelude.{IfSome, Option}
use Rattle.hc_text.specs.declared.input.Unread.{Unread}
use Rattle.hc_program.specs.Checking.{CheckOutcome, StarvedCheck}
use Rattle.hc_program.specs.Starved.{EndsAsOne}
use Rattle.hc_program.specs.Text.{unread}
use Rattle.hc_program.proofs.Starved.{unread_end, unread_ends}

pub starved_unread : (old : Option (List ℕ)) (fault : Unread) (starved : Bool) → EndsAsOne old old (unread_end fault starved) StarvedCheck
starved_unread old fault starved = (unread, inl refl, unread_ends old fault starved unread (λ _. refl))

pub check_unread : (remaining old : Option (List ℕ)) (fault : Unread) (starved : Bool) → IfSome remaining (λ bytes. EndsAsOne old old (unread_end fault starved) (CheckOutcome bytes))
check_unread None old fault starved = tt
check_unread (Some bytes) old fault starved = (unread, inl refl, unread_ends old fault starved unread (λ _. refl))
