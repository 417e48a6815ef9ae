use Rattle.std.proofs.Common.{◌≡◌, true, ◌∙◌}
use Rattle.hc_publish.proofs.Ruled.{admits, forks, merges}
use Rattle.hc_publish.proofs.publisher.Publisher.seat.Goals as goal

pub reader-requires : goal.reader-requires
reader-requires c = admits

pub tell-requires : goal.tell-requires
tell-requires c = forks _ _

pub learn-requires-clause-rule : goal.learn-requires-clause-rule
learn-requires-clause-rule c = merges _ _ _ _

-- the writer tells what it knows, and nothing else of it changes
pub invariant_of-self : goal.invariant_of-self
invariant_of-self c =
    let p = c.self.inside in
    let i = c.self.invariant in
    let unchanged = c.tell.ensures.kept in
    record {
      legal = rw (unchanged.0, unchanged.1, unchanged.2) i.legal;
      knows = rw unchanged.0 (unchanged.3 ∙ i.knows);
      is_sealed = rw unchanged.0 i.is_sealed;
      head_is = i.head_is;
      one_publication_log = rw unchanged.0 i.one_publication_log;
      extends = rw (unchanged.0, unchanged.1, unchanged.2) i.extends;
      few = rw (unchanged.1, unchanged.2) i.few;
      ready = λ (e : p.is_sealed ≡ true).
          let ready = i.ready e in
          record { before = ready.before; ends = rw (unchanged.1, unchanged.2) ready.ends; last = rw (unchanged.0, unchanged.1, unchanged.2) ready.last };
    }
