-- The lines before and after an edit are of one project: a slave keeps its rank, and the areas of its record what no edit changes.
use Rattle.std.proofs.Common.{◌≡◌, ℕ, ◌+◌, ◌-◌, ◌<◌, zero, suc, Bool, List, [], ◌∷◌, length, Contains, Some, None, sym, ap, subst, ◌∙◌, ⊎_elim, inl, inr, arith, refl, if◌then◌else◌, rules}
use Rattle.std.specs.Prelude.{◌≢◌, AllPairs, map, option_map, slice_get}
use Rattle.std.specs.List.{enumerate_from}
use Rattle.std.proofs.lemmas.Bool.{cases_order}
use Rattle.std.proofs.lemmas.List.Elements.{Contains-append_cases}
use Rattle.std.proofs.lemmas.Option.{get_or_from_slice_get, slice_get-map, slice_get_within}
use Rattle.hc_records.specs.declared.edit.Edit.{Edit}
use Rattle.hc_records.specs.declared.edit.Edit.TheVariants.{Connect, Disconnect, Remap, Move, Declare}
use Rattle.hc_records.specs.declared.records.Area.{Area}
use Rattle.hc_records.specs.declared.records.Declared.{Declared}
use Rattle.hc_records.specs.declared.records.Slave.{Slave}
use Rattle.hc_records.specs.Edits.{groups_after}
use Rattle.hc_records.specs.Line.{Member, groups_of, line_from, members_from}
use Rattle.hc_records.specs.Project.{lowest_fault}
use Rattle.hc_records.proofs.lemmas.Declaring.{line-absent}
use Rattle.hc_records.proofs.lemmas.Finds.{mapped-some}
use Rattle.hc_records.proofs.lemmas.Limits.{project-inside}
use Rattle.hc_records.proofs.lemmas.Lines.{declared_slaves}
use Rattle.hc_records.proofs.lemmas.Lists.{get-back, get-front}
use Rattle.hc_changes.proofs.lemmas.Bare.{bare_slave, edit-stays}
use Rattle.hc_changes.proofs.lemmas.Lists.{contains-after_it}

-- elements that differ pairwise are at one index each

not-below : {X : Type 0} (f : X → ℕ) (xs : List X) (i j : ℕ) (a b : X) → AllPairs (λ x y. f x ≢ f y) xs → slice_get xs i ≡ Some a → slice_get xs j ≡ Some b → f a ≡ f b → i < j → i ≡ j
not-below f xs i j a b apart first second same below = search (rules, get_or_from_slice_get, slice_get_within)

pub one-index : {X : Type 0} (f : X → ℕ) (xs : List X) (i j : ℕ) (a b : X) → AllPairs (λ x y. f x ≢ f y) xs → slice_get xs i ≡ Some a → slice_get xs j ≡ Some b → f a ≡ f b → i ≡ j
one-index f xs i j a b apart first second same = elim (cases_order i j) [
  | inl equal ↦ equal
  | inr (inl below) ↦ not-below f xs i j a b apart first second same below
  | inr (inr above) ↦ sym (not-below f xs j i b a apart second first (sym same) above)
]

-- an element of a numbered list is at its number

numbered-at : {X : Type 0} (first : ℕ) (xs : List X) (e : ℕ × X) → Contains (enumerate_from first xs) e → (i : ℕ) × (e.0 ≡ first + i) × (slice_get xs i ≡ Some e.1)
numbered-at first [] e (k, within, is) = absurd (omega arith)
numbered-at first (x ∷ xs) e (zero, within, is) = search rules
numbered-at first (x ∷ xs) e (suc k, within, is) =
    let rest = numbered-at (first + 1) xs e (k, omega arith, is) in
    let number = rest.1 in
    (suc rest.0, omega arith, rest.2)

pub own-at : {X : Type 0} (xs : List X) (e : ℕ × X) → Contains (enumerate_from 0 xs) e → slice_get xs e.0 ≡ Some e.1
own-at xs e at =
    let found = numbered-at 0 xs e at in
    let number : found.0 ≡ e.0 = (let is = found.1 in omega arith) in
    subst (λ (i : ℕ). slice_get xs i ≡ Some e.1) number found.2

at-numbered : {X : Type 0} (first : ℕ) (xs : List X) (i : ℕ) (x : X) → slice_get xs i ≡ Some x → Contains (enumerate_from first xs) (first + i, x)
at-numbered first [] i x is = cc
at-numbered {X} first (y ∷ ys) zero x is = search rules
at-numbered {X} first (y ∷ ys) (suc i) x is = search (rules, contains-after_it, at-numbered (first + 1) ys i x is)

pub at-own : {X : Type 0} (xs : List X) (i : ℕ) (x : X) → slice_get xs i ≡ Some x → Contains (enumerate_from 0 xs) (i, x)
at-own xs i x is =
    let number : 0 + i ≡ i = omega arith in
    subst (λ (n : ℕ). Contains (enumerate_from 0 xs) (n, x)) number (at-numbered 0 xs i x is)

-- a slave of a line is the declared one with its rank
pub record IsDeclaredAt (first : ℕ) (slaves : List Slave) (member : Member) : Type 0 where
  pub index : ℕ
  pub rank : member.rank ≡ first + index
  pub is_placed : slice_get slaves index ≡ Some member.slave

members-declared : (first : ℕ) (slaves : List Slave) (member : Member) → Contains (members_from first slaves) member → IsDeclaredAt first slaves member
members-declared first [] member (k, within, is) = absurd (omega arith)
members-declared first (slave ∷ slaves) member (zero, within, is) = search rules
members-declared first (slave ∷ slaves) member (suc k, within, is) =
    let rest = members-declared (first + 1) slaves member (k, omega arith, is) in
    let rank = rest.rank in
    record { index = suc rest.index; rank = omega arith; is_placed = rest.is_placed }

present-declared : (present : Bool) (first : ℕ) (slaves : List Slave) (member : Member) → Contains (members_from first (if present then slaves else [])) member → IsDeclaredAt first slaves member
present-declared present first slaves member at = search (rules, members-declared)

pub line-declared : (first : ℕ) (groups : List Declared) (member : Member) → Contains (line_from first groups) member → IsDeclaredAt first (declared_slaves groups) member
line-declared first [] member (k, within, is) = absurd (omega arith)
line-declared first (declared ∷ groups) member at =
    let slaves = declared.group.slaves in
    let next = first + length slaves in
    ⊎_elim
    (λ own. let here = present-declared declared.present first slaves member own in
    record {
      index = here.index;
      rank = here.rank;
      is_placed = get-front slaves (declared_slaves groups) here.index (slice_get_within slaves here.index member.slave here.is_placed) ∙ here.is_placed;
    })
    (λ after_it. let there = line-declared next groups member after_it in
    let rank = there.rank in
    let back : length slaves + there.index - length slaves ≡ there.index = omega arith in
    record {
      index = length slaves + there.index;
      rank = omega arith;
      is_placed = get-back slaves (declared_slaves groups) (length slaves + there.index) (omega arith) ∙ ap (slice_get (declared_slaves groups)) back ∙ there.is_placed;
    })
    (Contains-append_cases (members_from first (if declared.present then slaves else [])) (line_from next groups) member at)

-- so slaves of both lines with one rank are bare the same, and those with one station address have one rank
pub record AreOfOneProject (old new : List Member) : Type 0 where
  pub alike : (a b : Member) → Contains old a → Contains new b → a.rank ≡ b.rank → bare_slave a.slave ≡ bare_slave b.slave
  pub ranks : (a b : Member) → Contains old a → Contains new b → a.slave.station ≡ b.slave.station → a.rank ≡ b.rank

-- the declared slave at an index is the same before and after, but for what an edit changes
unchanged-at : (olds updates : List Slave) (i : ℕ) (slave : Slave) → map bare_slave updates ≡ map bare_slave olds → slice_get updates i ≡ Some slave
    → (before : Slave) × (slice_get olds i ≡ Some before) × (bare_slave before ≡ bare_slave slave)
unchanged-at olds updates i slave same at =
    mapped-some bare_slave (slice_get olds i) (bare_slave slave)
    (sym (slice_get-map bare_slave olds i) ∙ ap (λ (l : List (ℕ × List Area)). slice_get l i) (sym same) ∙ slice_get-map bare_slave updates i ∙ ap (option_map bare_slave) at)

same-one-project : (groups updates : List Declared) → map bare_slave (declared_slaves updates) ≡ map bare_slave (declared_slaves groups) → lowest_fault (groups_of groups) ≡ None
    → AreOfOneProject (line_from 1 groups) (line_from 1 updates)
same-one-project groups after same none =
    let olds = declared_slaves groups in
    let updates = declared_slaves after in
    record {
      alike = λ a b at at' alike.
          let first = line-declared 1 groups a at in
          let second = line-declared 1 after b at' in
          let before = unchanged-at olds updates second.index b.slave same second.is_placed in
          let index : first.index ≡ second.index = (let one = first.rank in let two = second.rank in omega arith) in
          let here : a.slave ≡ before.0 = cc in
          ap bare_slave here ∙ before.2;
      ranks = λ a b at at' alike.
          let first = line-declared 1 groups a at in
          let second = line-declared 1 after b at' in
          let before = unchanged-at olds updates second.index b.slave same second.is_placed in
          let station : a.slave.station ≡ before.0.station = alike ∙ sym (ap (λ (p : ℕ × List Area). p.0) before.2) in
          let index = one-index (λ (slave : Slave). slave.station) olds first.index second.index a.slave before.0 (project-inside (groups_of groups) none).stations first.is_placed before.1 station in
          first.rank ∙ ap (λ (i : ℕ). 1 + i) index ∙ sym second.rank;
    }

-- a declared group leaves the line as it was
pub edit-one-project : (groups : List Declared) (edit : Edit) → lowest_fault (groups_of groups) ≡ None → AreOfOneProject (line_from 1 groups) (line_from 1 (groups_after groups edit))
edit-one-project groups (Connect alias) none = same-one-project groups (groups_after groups (Connect alias)) (edit-stays groups (Connect alias) refl) none
edit-one-project groups (Disconnect alias) none = same-one-project groups (groups_after groups (Disconnect alias)) (edit-stays groups (Disconnect alias) refl) none
edit-one-project groups (Remap station area pdos) none = same-one-project groups (groups_after groups (Remap station area pdos)) (edit-stays groups (Remap station area pdos) refl) none
edit-one-project groups (Move station area task) none = same-one-project groups (groups_after groups (Move station area task)) (edit-stays groups (Move station area task) refl) none
edit-one-project groups (Declare group) none =
    subst (AreOfOneProject (line_from 1 groups)) (sym (line-absent 1 groups group)) (same-one-project groups groups refl none)
