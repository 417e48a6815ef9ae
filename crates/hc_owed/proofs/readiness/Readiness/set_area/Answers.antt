use Rattle.std.proofs.Common.{◌≡◌, ◌<◌, ℕ, List, Some, length, refl, sym, ap, subst, ◌∙◌, arith}
use Rattle.std.specs.Prelude.{slice_get, slice_index_or}
use Rattle.std.proofs.lemmas.Option.{slice_get_read}
use Rattle.hc_records.specs.Lists.{changed_at}
use Rattle.hc_owed.specs.declared.area.JudgedArea.{JudgedArea}
use Rattle.hc_owed.specs.Tally.{Tallies}
use Rattle.hc_owed.proofs.Counting.{area-put, can-put}
use Rattle.hc_plan.proofs.lemmas.Replaced.{length-changed, set-changed}
use Rattle.hc_owed.proofs.readiness.Readiness.set_area.Goals as goal

-- the area that was at the index
read : (items now : List JudgedArea) (n : ℕ) (was : JudgedArea) → items ≡ now → n < length now → was ≡ slice_index_or items n was → slice_get items n ≡ Some was
read items now n was same low is = slice_get_read items (length items) n was refl (subst (λ (l : List JudgedArea). n < length l) (sym same) low) is

pub replace-requires : goal.replace-requires
replace-requires c =
    let items = c.self.inside.areas.items in
    let was = c.index-was.result.now in
    can-put items c.self.inside.tally c.args.n was c.self.invariant.1 (read items c.args.self.now c.args.n was c.self.view_is c.requires c.index-was.ensures) c.self.invariant.0

pub returns : goal.returns
returns c = set-changed c.args.n c.args.now c.self.inside.areas.items ∙ ap (λ (l : List JudgedArea). changed_at c.args.n (λ _. c.args.now) l) c.self.view_is

pub invariant_of-self : goal.invariant_of-self
invariant_of-self c =
    let items = c.self.inside.areas.items in
    let was = c.index-was.result.now in
    let now = c.args.now in
    let at = read items c.args.self.now c.args.n was c.self.view_is c.requires c.index-was.ensures in
    let set = sym (set-changed c.args.n now items) in
    let size = ap length (sym set) ∙ length-changed c.args.n (λ _. now) items in
    let few = c.self.invariant.1 in (
      subst (λ (l : List JudgedArea). Tallies l c.replace.new.self) set (area-put items c.self.inside.tally c.replace.new.self c.args.n was now at c.self.invariant.0 c.replace.ensures),
      omega (arith, size, few),
    )
