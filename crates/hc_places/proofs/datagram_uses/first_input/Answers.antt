use Rattle.std.proofs.Common.{◌≡◌, ◌∙◌, Bool, true, false, cond, List, [], ◌∷◌, refl, sym, rules, tests}
use Rattle.std.specs.Prelude.{Option, Some, filter, find, ◌&&◌, ◌==◌}
use Rattle.std.proofs.lemmas.Iterator.{YieldsList-from_slice}
use Rattle.std.proofs.lemmas.Iterator.Search.{find_from_yields_List}
use Rattle.hc_records.specs.Keys.{same_dir}
use Rattle.hc_records.specs.declared.records.Dir.TheVariants.{In}
use Rattle.hc_records.specs.Packing.{Placed}
use Rattle.hc_places.proofs.datagram_uses.first_input.Goals as goal

-- the first of those that are kept is the first that is kept and passes
both-by : {X : Type 0} (unchanged passes : Bool) (x : X) (xs : List X) (found rest : Option X) (test : X → Bool) → test x ≡ passes → find test xs ≡ rest → found ≡ rest
    → cond (unchanged && passes) (Some x) found ≡ find test (cond unchanged (x ∷ xs) xs)
both-by true true x xs found rest test is last same = rw is refl
both-by true false x xs found rest test is last same = rw is (same ∙ sym last)
both-by false passes x xs found rest test is last same = same ∙ sym last

find-unchanged : {X : Type 0} (keep test : X → Bool) (xs : List X) → find (λ x. keep x && test x) xs ≡ find test (filter keep xs)
find-unchanged keep test [] = refl
find-unchanged keep test (x ∷ xs) =
    both-by (keep x) (test x) x (filter keep xs) (find (λ y. keep y && test y) xs) (find test (filter keep xs)) test refl refl (find-unchanged keep test xs)

pub returns : goal.returns
returns c =
    let number = c.args.number in
    let found = find_from_yields_List (λ area. (area.datagram == number) && same_dir area.key.dir In) _ _ c.find.result c.find.ensures.ran (YieldsList-from_slice c.args.areas.now cc)
    (λ x b q k. search (rules, tests)) in
    c.copied.ensures ∙ found ∙ find-unchanged (λ (area : Placed). area.datagram == number) (λ area. same_dir area.key.dir In) c.args.areas.now
