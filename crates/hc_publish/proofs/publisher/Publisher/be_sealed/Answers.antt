use Rattle.std.proofs.Common.{false, subst}
use Rattle.hc_publish.specs.Rule.{AreFew}
use Rattle.hc_publish.specs.Published.{IsReadyToShow, published_state_in}
use Rattle.hc_publish.proofs.publisher.Publisher.be_sealed.Goals as goal

pub returns-then-self-clause-ready : goal.returns-then-self-clause-ready
returns-then-self-clause-ready c = subst IsReadyToShow c.self.view_is (c.self.invariant.ready c.if-self.true)

pub seal-requires : goal.seal-requires
seal-requires c =
    subst (λ b. AreFew false b.steps) c.self.view_is (subst (λ s. AreFew s (published_state_in c.self.inside).steps) c.if-self.false c.self.invariant.few)
