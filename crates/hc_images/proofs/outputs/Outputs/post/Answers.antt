use Rattle.std.proofs.Common.{subst, sym}
use Rattle.hc_images.specs.Packed.{Carries, Packed}
use Rattle.hc_images.proofs.Outcomes.{posted-carries}
use Rattle.hc_images.proofs.outputs.Outputs.post.Goals as goal

pub returns : goal.returns
returns c = λ value before.
    let table = c.args.places.now in
    let sent = subst (λ (p : Packed). Carries table value p.sent) (sym c.self.view_is) before.sent in
    let masks = subst (λ (p : Packed). Carries table (λ v j. 1) p.masks) (sym c.self.view_is) before.masks in
    record {
      sent = posted-carries table c.args.task c.args.bytes.now value c.self.inside.sent.items c.post_all.new.sent.items c.self.inside.masks.items c.requires sent masks c.post_all.ensures;
      masks = masks;
    }
