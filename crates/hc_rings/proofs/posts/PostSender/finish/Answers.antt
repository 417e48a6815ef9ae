use Rattle.std.proofs.Common.{Option, IfSome}
use Rattle.std.specs.Prelude.{Some, None}
use Rattle.hc_rings.proofs.posts.PostSender.finish.Goals as goal

if_some : {X : Type 0} (o : Option X) (P Q : X → Type 0) → ((x : X) → P x → Q x) → IfSome o P → IfSome o Q
if_some None P Q h p = tt
if_some (Some x) P Q h p = h x p

pub returns-clause-end : goal.returns-clause-end
returns-clause-end c = if_some c.finish.result _ _ (λ end one receiver ends. one receiver.posts ends.0) c.finish.ensures.ring
