-- The declared group with an alias, by the aliases of all.
use Rattle.std.proofs.Common.{◌≡◌, ◌≢◌, ℕ, ◌+◌, ◌<◌, ◌≤◌, ◌==◌, Bool, true, false, List, [], ◌∷◌, length, get_or, Option, Some, None, sym, ap, subst, ◌∙◌, arith}
use Rattle.std.specs.Prelude.{All, AllPairs, Contains, MatchOption, nat_lt, position}
use Rattle.std.specs.List.{enumerate_from, insert}
use Rattle.std.specs.List.Sorted.{IsNonDecreasingBy, IsPartitionPoint}
use Rattle.std.proofs.lemmas.Bool.{eq-eqb, ltb-false, ltb-true}
use Rattle.std.proofs.lemmas.List.{get_or-map, length-map}
use Rattle.std.proofs.lemmas.List.FromFn.{get_or-enumerate_from, length-enumerate_from}
use Rattle.std.proofs.lemmas.List.Sorted.{All-permutation, Contains-permutation, IsNonDecreasingBy-insert, IsPermutation-sym}
use Rattle.std.proofs.lemmas.Option.{slice_get-get_or}
use Rattle.hc_records.specs.declared.records.Declared.{Declared}
use Rattle.hc_records.specs.declared.records.Group.{Group}
use Rattle.hc_records.specs.Line.{groups_of}
use Rattle.hc_records.specs.Project.{lowest_fault}
use Rattle.hc_records.proofs.lemmas.Limits.{project-inside}
use Rattle.hc_records.proofs.lemmas.Lists.{AllPairs-unmap, AllPairs-weaker}
use Rattle.hc_groups.specs.declared.aliases.Alias.{Alias}
use Rattle.hc_groups.specs.Index.{Index, IsIndexOfDeclared, alias_of, aliases}
use Rattle.hc_groups.proofs.IndexFound.{differs, differs-after_it, position-at, position-none}

abbrev has_alias : ℕ → Declared → Bool
has_alias alias declared = declared.group.alias == alias

pub aliases-length : (groups : List Declared) → length (aliases groups) ≡ length groups
aliases-length groups = length-map (enumerate_from 0 groups) alias_of ∙ length-enumerate_from 0 groups

alias-at : (groups : List Declared) (k : ℕ) (d : Declared) (e : Alias) → k < length groups → get_or (aliases groups) k e ≡ record { alias = (get_or groups k d).group.alias; group = k }
alias-at groups k d e within =
    let long : k < length (enumerate_from 0 groups) = let same = length-enumerate_from 0 groups in omega (arith, same) in
    let number : 0 + k ≡ k = omega arith in
    get_or-map alias_of (enumerate_from 0 groups) k (0, d) e long
    ∙ ap alias_of (get_or-enumerate_from 0 groups k (0, d) within)
    ∙ ap (λ (n : ℕ). record { alias = (get_or groups k d).group.alias; group = n }) number

others : (groups : List Declared) (index : Index) (alias : ℕ) → IsIndexOfDeclared groups index → All (λ own. own.alias ≢ alias) index.aliases → All (λ d. has_alias alias d ≡ false) groups
others groups index alias is none k d within =
    let nobody : Alias = record { alias = 0; group = 0 } in
    let all = All-permutation (λ (own : Alias). own.alias ≢ alias) index.aliases (aliases groups) (IsPermutation-sym (aliases groups) index.aliases is.aliases) none in
    let long : k < length (aliases groups) = let same = aliases-length groups in omega (arith, same, within) in
    differs (get_or groups k d).group.alias alias (subst (λ (own : Alias). own.alias ≢ alias) (alias-at groups k d nobody within) (all k nobody long))

pub alone : (groups : List Declared) (alias : ℕ) → lowest_fault (groups_of groups) ≡ None → AllPairs (λ a b. has_alias alias b ≡ true → has_alias alias a ≡ false) groups
alone groups alias none =
    AllPairs-weaker (λ (a b : Declared). a.group.alias ≢ b.group.alias) (λ a b. has_alias alias b ≡ true → has_alias alias a ≡ false)
    (λ a b other is. differs-after_it a.group.alias b.group.alias alias other is) groups
    (AllPairs-unmap (λ (a b : Group). a.alias ≢ b.alias) (λ (d : Declared). d.group) groups (project-inside (groups_of groups) none).aliases)

numbered : (groups : List Declared) (alias group : ℕ) (d : Declared) → lowest_fault (groups_of groups) ≡ None → Contains (aliases groups) (record { alias = alias; group = group })
    → position (has_alias alias) groups ≡ Some group
numbered groups alias group d none own =
    let k = own.0 in
    let within : k < length groups = let same = aliases-length groups in let low = own.1 in omega (arith, same, low) in
    let same = sym own.2 ∙ alias-at groups k d (record { alias = alias; group = group }) within in
    let named : alias ≡ (get_or groups k d).group.alias = ap (λ (a : Alias). a.alias) same in
    let number : group ≡ k = ap (λ (a : Alias). a.group) same in
    position-at (has_alias alias) groups k (get_or groups k d) (alone groups alias none) (slice_get-get_or groups k d within) (eq-eqb (get_or groups k d).group.alias alias (sym named))
    ∙ ap Some (sym number)

declared-at : (groups : List Declared) (alias group : ℕ) → lowest_fault (groups_of groups) ≡ None → Contains (aliases groups) (record { alias = alias; group = group })
    → position (has_alias alias) groups ≡ Some group
declared-at [] alias group none own = let low = own.1 in absurd (omega (arith, low))
declared-at (first ∷ rest) alias group none own = numbered (first ∷ rest) alias group first none own

-- its number, if there is one
pub group-is : (groups : List Declared) (index : Index) (alias : ℕ) (found : Option ℕ) → IsIndexOfDeclared groups index
    → MatchOption found (All (λ own. own.alias ≢ alias) index.aliases) (λ group. Contains index.aliases (record { alias = alias; group = group }))
    → found ≡ position (λ declared. declared.group.alias == alias) groups
group-is groups index alias None is none = sym (position-none (has_alias alias) groups (others groups index alias is none))
group-is groups index alias (Some group) is at =
    sym (declared-at groups alias group is.project
    (Contains-permutation index.aliases (aliases groups) (record { alias = alias; group = group }) (IsPermutation-sym (aliases groups) index.aliases is.aliases) at))

-- an alias is put after those that are lower

pub alias-inserted : (old : List Alias) (at : ℕ) (alias : Alias) → IsNonDecreasingBy (λ own. own.alias) old → at ≤ length old
    → IsPartitionPoint (λ own. nat_lt own.alias alias.alias ≡ true) (λ own. nat_lt own.alias alias.alias ≡ false) old at → IsNonDecreasingBy (λ own. own.alias) (insert old at alias)
alias-inserted old at alias order inside parted =
    IsNonDecreasingBy-insert (λ (own : Alias). own.alias) old at alias order inside
    (λ k d low. let less = ltb-true (get_or old k d).alias alias.alias (parted.0 k d (omega arith) low) in omega (arith, less))
    (λ k d after_it within. ltb-false (get_or old k d).alias alias.alias (parted.1 k d after_it within))
