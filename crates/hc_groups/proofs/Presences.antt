-- Whether the group with an alias is in the line.
use Rattle.std.proofs.Common.{◌≡◌, ℕ, zero, suc, ◌<◌, Bool, true, false, List, [], ◌∷◌, length, get_or, Some, None, refl, sym, ap, ◌∙◌}
use Rattle.std.specs.Prelude.{AllPairs, ◌&&◌, ◌||◌, position, slice_get}
use Rattle.std.specs.List.{list_any}
use Rattle.std.proofs.lemmas.List.Elements.{All-weaker}
use Rattle.std.proofs.lemmas.Option.{get_or_from_slice_get, slice_get_within}
use Rattle.hc_records.specs.declared.records.Declared.{Declared}
use Rattle.hc_records.specs.Line.{groups_of}
use Rattle.hc_records.specs.Project.{lowest_fault}
use Rattle.hc_records.proofs.lemmas.Lists.{All-from_none, AllPairs-head, AllPairs-tail}
use Rattle.hc_groups.specs.Changes.{has_alias}
use Rattle.hc_groups.proofs.Aliased.{alone}
use Rattle.hc_groups.proofs.Found.{IsFirstAt, first-at, none-found, there}
use Rattle.hc_groups.proofs.IndexFound.{any-none, any-some}

-- where one element at most passes a test, whether one passes it and another test

others-fail : (here there also : Bool) → here ≡ true → (there ≡ true → here ≡ false) → (there && also) ≡ false
others-fail here true also is other = let no = other refl in cc
others-fail here false also is other = refl

by-last : (also : Bool) → ((true && also) || false) ≡ also
by-last true = refl
by-last false = refl

pub any-also : {X : Type 0} (test also : X → Bool) (i : ℕ) (x : X) (xs : List X) → AllPairs (λ a b. test b ≡ true → test a ≡ false) xs → IsFirstAt test i xs → slice_get xs i ≡ Some x
    → list_any (λ y. test y && also y) xs ≡ also x
any-also test also i x [] single first at = absurd first
any-also test also zero x (y ∷ ys) single first at =
    let same : y ≡ x = cc in
    let rest = any-none (λ z. test z && also z) ys
    (All-weaker (λ z. test z ≡ true → test y ≡ false) (λ z. (test z && also z) ≡ false) (λ z other. others-fail (test y) (test z) (also z) first other) ys
    (AllPairs-head (λ a b. test b ≡ true → test a ≡ false) y ys single)) in
    rw (first, rest) (by-last (also y) ∙ ap also same)
any-also test also (suc i) x (y ∷ ys) single first at =
    let other = first.0 in
    rw other (any-also test also i x ys (AllPairs-tail (λ a b. test b ≡ true → test a ≡ false) y ys single) first.1 at)

-- what is found of the alias

pub presence-none : (groups : List Declared) (alias : ℕ) → position (has_alias alias) groups ≡ None → list_any (λ declared. has_alias alias declared && declared.present) groups ≡ false
presence-none groups alias none =
    any-none (λ declared. has_alias alias declared && declared.present) groups
    (All-weaker (λ declared. has_alias alias declared ≡ false) (λ declared. (has_alias alias declared && declared.present) ≡ false) (λ declared other. rw other refl) groups
    (All-from_none (has_alias alias) groups (none-found (has_alias alias) groups none)))

pub declared-some : (groups : List Declared) (alias group : ℕ) → position (has_alias alias) groups ≡ Some group → list_any (has_alias alias) groups ≡ true
declared-some groups alias group at =
    let it = there (λ d. d ≡ d) (has_alias alias) group groups (λ i d within. refl) (first-at (has_alias alias) group groups at) in
    any-some (has_alias alias) groups group it.found (slice_get_within groups group it.found it.at) (ap (has_alias alias) (get_or_from_slice_get groups group it.found it.found it.at) ∙ it.passes)

pub presence-some : (groups : List Declared) (alias group : ℕ) (d : Declared) → lowest_fault (groups_of groups) ≡ None → position (has_alias alias) groups ≡ Some group
    → (get_or groups group d).present ≡ list_any (λ declared. has_alias alias declared && declared.present) groups
presence-some groups alias group d none at =
    let first = first-at (has_alias alias) group groups at in
    let it = there (λ d. d ≡ d) (has_alias alias) group groups (λ i d within. refl) first in
    ap (λ (own : Declared). own.present) (get_or_from_slice_get groups group it.found d it.at)
    ∙ sym (any-also (has_alias alias) (λ declared. declared.present) group it.found groups (alone groups alias none) first it.at)

-- its number is inside
pub alias-inside : (groups : List Declared) (alias group : ℕ) → position (has_alias alias) groups ≡ Some group → group < length groups
alias-inside groups alias group at =
    let it = there (λ d. d ≡ d) (has_alias alias) group groups (λ i d within. refl) (first-at (has_alias alias) group groups at) in
    slice_get_within groups group it.found it.at
