-- The bits of the tasks whose posts were taken.
use Rattle.std.proofs.Common.{◌≡◌, Bool, true, false, refl}
use mir.Val.{bool_byte}
use Rattle.hc_c.specs.TakenPosts.{one_if}

pub byte_is : (it : Bool) → bool_byte it ≡ one_if it
byte_is true = refl
byte_is false = refl
