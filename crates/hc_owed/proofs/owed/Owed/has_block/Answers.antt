use Rattle.std.proofs.Common.{◌<◌, Bool, Some, Option, List, ℕ, length, refl, sym, ap, ◌∙◌, arith}
use Rattle.std.specs.Prelude.{option_map, slice_get}
use Rattle.std.proofs.lemmas.List.{length-map}
use Rattle.std.proofs.lemmas.Option.{slice_get-map, slice_get_read}
use Rattle.hc_registers.specs.Blocks.{RegisterBlock}
use Rattle.hc_owed.specs.RegisterState.{RegisterState}
use Rattle.hc_owed.proofs.Forgetting.{block-known, block-owed, mapped-some}
use Rattle.hc_owed.proofs.owed.Owed.has_block.Goals as goal

pub returns-then-get : goal.returns-then-get
returns-then-get c =
    block-owed c.args.self.now c.args.place
    (ap (λ (b : RegisterState). slice_get b.owed c.args.place) (sym c.self.view_is) ∙ c.get.ensures ∙ ap (λ (flag : Bool). Some flag) c.if-get.true)

pub returns : goal.returns
returns c =
    let items = c.self.inside.known.items in
    let place = c.args.place in
    let bytes : Option RegisterBlock → Option (List ℕ) = λ known. option_map (λ block. block.bytes) known in
    let own = ap (λ (b : RegisterState). length b.known) c.self.view_is in
    let size = length-map items bytes in
    let low : place < length items = omega (arith, c.requires, own, size) in
    let read = slice_get_read items (length items) place c.index.result.now refl low c.index.ensures in
    c.is_some.ensures ∙ mapped-some (λ (block : RegisterBlock). block.bytes) c.index.result.now
    ∙ block-known c.args.self.now place (bytes c.index.result.now)
    (ap (λ (b : RegisterState). slice_get b.owed place) (sym c.self.view_is) ∙ c.get.ensures ∙ ap (λ (flag : Bool). Some flag) c.if-get.false)
    (ap (λ (b : RegisterState). slice_get b.known place) (sym c.self.view_is) ∙ slice_get-map bytes items place ∙ ap (option_map bytes) read)
