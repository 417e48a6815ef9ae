use denote.Enum.Bare.{sameb}
use Rattle.std.proofs.Common.{◌≡◌, ◌∙◌, ◌==◌, ◌||◌, ℕ, Bool, true, false, List, [], ◌∷◌, refl, sym, ap, arith}
use Rattle.std.specs.Prelude.{All, IsTrue, if◌then◌else◌}
use Rattle.std.proofs.lemmas.Bool.{or_left}
use Rattle.std.proofs.lemmas.Bool.Decides.{nat_tests}
use Rattle.std.proofs.lemmas.List.Elements.{All-head, All-tail}
use Rattle.hc_records.specs.contracts.records.Dir.{the_type}
use Rattle.hc_records.specs.declared.records.Dir.{Dir}
use Rattle.hc_records.specs.declared.records.Dir.TheVariants.{In}
use Rattle.hc_records.specs.Keys.{is_before, same_dir}
use Rattle.hc_records.specs.Laws.{Ascends, IsPackable}
use Rattle.hc_records.specs.TaskList.{Keyed}
use Rattle.hc_records.proofs.lemmas.Lists.{AllPairs-head, AllPairs-tail}
use Rattle.hc_bitsum.specs.declared.sum.Sum.{Sum}
use Rattle.hc_bitsum.specs.declared.sum.Sum.TheVariants.{Empty, Run}
use Rattle.hc_bitsum.specs.Sums.{sums_joined, sum_of}
use Rattle.hc_cuts.specs.Inputs.{has_inputs}
use Rattle.hc_cuts.specs.Starts.{TaskCuts}
use Rattle.hc_cuts.proofs.cuts.Cuts.has_inputs.Goals as goal

same-in : (dir : Dir) → sameb the_type dir In ≡ same_dir dir In
same-in dir = grind arith

-- the last area of a run is an input
abbrev ends_in : Sum → Bool
ends_in Empty = false
ends_in (Run first last ends) = same_dir last In

-- no output comes after an input

inputs-after_it : (area : Keyed) (areas : List Keyed) (first last : Dir) (ends : List ℕ) → All (λ (other : Keyed). IsTrue (is_before area.0 other.0)) areas
    → sum_of areas ≡ Run first last ends → same_dir area.0.dir In ≡ true → has_inputs areas ≡ true
inputs-after_it area [] first last ends after_it some input = cc
inputs-after_it area (next ∷ areas) first last ends after_it some input =
    grind (arith, or_left, All-head)

-- so the last area of a list is an input where any is
joined-in : (none : Bool) (dir : Dir) (ends : List ℕ) (later : Sum) (others : Bool) → none ≡ false → ends_in later ≡ others
    → ((first last : Dir) (laters : List ℕ) → later ≡ Run first last laters → same_dir dir In ≡ true → others ≡ true)
    → ends_in (sums_joined (if none then Empty else Run dir dir ends) later) ≡ (same_dir dir In || others)
joined-in none dir ends later others some is after_it = grind arith

sum-ends_in : (list : List Keyed) → All IsPackable list → Ascends list → ends_in (sum_of list) ≡ has_inputs list
sum-ends_in [] packable ascends = refl
sum-ends_in (area ∷ areas) packable ascends =
    let some = (All-head IsPackable area areas packable).some in
    let wide : (area.1 == 0) ≡ false = grind (arith, nat_tests) in
    joined-in (area.1 == 0) area.0.dir _ (sum_of areas) (has_inputs areas) wide
    (sum-ends_in areas (All-tail IsPackable area areas packable) (AllPairs-tail (λ (a b : Keyed). IsTrue (is_before a.0 b.0)) area areas ascends))
    (λ first last laters is input.
    inputs-after_it area areas first last laters (AllPairs-head (λ (a b : Keyed). IsTrue (is_before a.0 b.0)) area areas ascends) is input)

pub returns-in-Empty : goal.returns-in-Empty
returns-in-Empty c =
    let holds = c.self.invariant.list in
    ap ends_in (sym c.in-Empty.is ∙ c.total.ensures)
    ∙ sum-ends_in c.self.inside.tree.list holds.packable holds.ascends
    ∙ ap (λ (unchanged : TaskCuts). has_inputs unchanged.tree.list) c.self.view_is

pub returns-in-Run : goal.returns-in-Run
returns-in-Run c =
    let holds = c.self.invariant.list in
    c.eq.ensures
    ∙ same-in c.in-Run.last
    ∙ ap ends_in (sym c.in-Run.is ∙ c.total.ensures)
    ∙ sum-ends_in c.self.inside.tree.list holds.packable holds.ascends
    ∙ ap (λ (unchanged : TaskCuts). has_inputs unchanged.tree.list) c.self.view_is
