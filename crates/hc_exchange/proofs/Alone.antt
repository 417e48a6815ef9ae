-- A variable is once in a line.
use Rattle.std.proofs.Common.{◌≡◌, ◌∙◌, ℕ, zero, suc, ◌+◌, ◌*◌, ◌≤◌, Bool, cond, Option, Some, None, List, [], ◌∷◌, ◌++◌, refl, sym, ap, ap₂, subst, arith}
use Rattle.std.specs.Prelude.{Contains, slice_get}
use Rattle.std.specs.Option.{option_map_or}
use Rattle.std.proofs.lemmas.Bool.{eq-eqb}
use Rattle.hc_records.specs.declared.records.Area.{Area}
use Rattle.hc_records.specs.Area.{Entry, assigned_entries}
use Rattle.hc_records.specs.Image.{variables_from}
use Rattle.hc_records.specs.Line.{Member, State, line}
use Rattle.hc_places.proofs.lemmas.Once.{declared-once, held, line-declared, of_areas, own, weight}
use Rattle.hc_places.proofs.lemmas.Totals.{total}
use Rattle.hc_exchange.specs.PairLaws.{IsConfigurable}
use Rattle.hc_exchange.specs.Exchanged.{VariableLiesInMemory}
use Rattle.hc_exchange.proofs.lemmas.Variables.{Found}

-- what counts once in a list has one place there

total-at : {X : Type 0} (f : X → ℕ) (xs : List X) (i : ℕ) (x : X) → slice_get xs i ≡ Some x → f x ≤ total f xs
total-at f [] i x is = cc
total-at f (z ∷ xs) zero x is =
    let same : z ≡ x = cc in
    let here : f z ≡ f x = ap f same in
    omega arith
total-at f (z ∷ xs) (suc i) x is = let rest = total-at f xs i x is in omega arith

one-place : {X : Type 0} (f : X → ℕ) (xs : List X) (i j : ℕ) (x y : X) → total f xs ≤ 1 → slice_get xs i ≡ Some x → slice_get xs j ≡ Some y → 1 ≤ f x → 1 ≤ f y → i ≡ j
one-place f [] i j x y few is is' some some' = cc
one-place f (z ∷ xs) zero zero x y few is is' some some' = refl
one-place f (z ∷ xs) zero (suc j) x y few is is' some some' =
    let same : z ≡ x = cc in
    let here : f z ≡ f x = ap f same in
    let rest = total-at f xs j y is' in
    absurd (omega arith)
one-place f (z ∷ xs) (suc i) zero x y few is is' some some' =
    let same : z ≡ y = cc in
    let here : f z ≡ f y = ap f same in
    let rest = total-at f xs i x is in
    absurd (omega arith)
one-place f (z ∷ xs) (suc i) (suc j) x y few is is' some some' = ap suc (one-place f xs i j x y (omega arith) is is' some some')

-- and so has a variable among entries

abbrev led : Option ℕ → ℕ → ℕ → List Found → List Found
led name bit bits rest = option_map_or (λ (v : ℕ). (v, (bit, bits)) ∷ []) name [] ++ rest

own-one : (v w : ℕ) → w ≡ v → own v w ≡ 1
own-one v w same = ap (λ (b : Bool). cond b 1 0) (eq-eqb v w (sym same))

held-by : (v : ℕ) (name : Option ℕ) (bit bits n : ℕ) (rest : List Found) (f : Found) → f.0 ≡ v → Contains (led name bit bits rest) f → (Contains rest f → 1 ≤ n)
    → 1 ≤ option_map_or (own v) name 0 + n
held-by v None bit bits n rest f is has later = let some = later has in omega arith
held-by v (Some w) bit bits n rest f is (zero, within, same) later =
    let one = own-one v w (ap (λ (g : Found). g.0) same ∙ is) in
    omega (arith, one)
held-by v (Some w) bit bits n rest f is (suc k, within, same) later =
    let some = later (k, omega arith, same) in
    omega arith

held-some : (v bit : ℕ) (entries : List Entry) (f : Found) → f.0 ≡ v → Contains (variables_from bit entries) f → 1 ≤ total (held v) entries
held-some v bit [] f is (k, within, same) = absurd (omega arith)
held-some v bit (e ∷ es) f is has = held-by v e.0 bit e.1 (total (held v) es) (variables_from (bit + e.1) es) f is has (λ rest. held-some v (bit + e.1) es f is rest)

one-by : (v : ℕ) (name : Option ℕ) (bit bits n : ℕ) (rest : List Found) (a b : Found) → option_map_or (own v) name 0 + n ≤ 1 → a.0 ≡ v → b.0 ≡ v
    → Contains (led name bit bits rest) a → Contains (led name bit bits rest) b → ((f : Found) → f.0 ≡ v → Contains rest f → 1 ≤ n)
    → (n ≤ 1 → Contains rest a → Contains rest b → a ≡ b) → a ≡ b
one-by v None bit bits n rest a b few is is' has has' some next = next (omega arith) has has'
one-by v (Some w) bit bits n rest a b few is is' (zero, within, same) (zero, within', same') some next = sym same ∙ same'
one-by v (Some w) bit bits n rest a b few is is' (zero, within, same) (suc j, within', same') some next =
    let one = own-one v w (ap (λ (g : Found). g.0) same ∙ is) in
    let more = some b is' (j, omega arith, same') in
    absurd (omega (arith, one))
one-by v (Some w) bit bits n rest a b few is is' (suc i, within, same) (zero, within', same') some next =
    let one = own-one v w (ap (λ (g : Found). g.0) same' ∙ is') in
    let more = some a is (i, omega arith, same) in
    absurd (omega (arith, one))
one-by v (Some w) bit bits n rest a b few is is' (suc i, within, same) (suc j, within', same') some next =
    next (omega arith) (i, omega arith, same) (j, omega arith, same')

one-entry : (v bit : ℕ) (entries : List Entry) (a b : Found) → total (held v) entries ≤ 1 → a.0 ≡ v → b.0 ≡ v
    → Contains (variables_from bit entries) a → Contains (variables_from bit entries) b → a ≡ b
one-entry v bit [] a b few is is' (k, within, same) has' = absurd (omega arith)
one-entry v bit (e ∷ es) a b few is is' has has' =
    one-by v e.0 bit e.1 (total (held v) es) (variables_from (bit + e.1) es) a b few is is' has has' (λ f own_is rest. held-some v (bit + e.1) es f own_is rest)
    (λ fewer rest rest'. one-entry v (bit + e.1) es a b fewer is is' rest rest')

-- so a variable of a line is in one place of one slave's memory
pub is_placed-once : (state : State) (variable bits bits' position position' m m' : ℕ) → IsConfigurable state → VariableLiesInMemory (line state) variable bits position m
    → VariableLiesInMemory (line state) variable bits' position' m' → (position ≡ position') × (m ≡ m')
is_placed-once state variable bits bits' position position' m m' can s s' =
    let members = line state in
    let count = λ (member : Member). of_areas variable member.slave in
    let few : total count members ≤ 1 = omega (arith, line-declared (of_areas variable) 1 state.groups, declared-once state.groups can.project variable) in
    let some = held-some variable 0 (assigned_entries s.area) (variable, (s.offset, bits)) refl s.entry in
    let some' = held-some variable 0 (assigned_entries s'.area) (variable, (s'.offset, bits')) refl s'.entry in
    let here = total-at (weight variable) s.member.slave.areas s.index s.area s.in_record in
    let here' = total-at (weight variable) s'.member.slave.areas s'.index s'.area s'.in_record in
    let one : position ≡ position' = one-place count members position position' s.member s'.member few s.in_line s'.in_line (omega arith) (omega arith) in
    let slaves : Some s.member ≡ Some s'.member = sym s.in_line ∙ ap (slice_get members) one ∙ s'.in_line in
    let member : s'.member ≡ s.member = cc in
    let own : slice_get s.member.slave.areas s'.index ≡ Some s'.area = subst (λ (x : Member). slice_get x.slave.areas s'.index ≡ Some s'.area) member s'.in_record in
    let few_areas = total-at count members position s.member s.in_line in
    let index : s.index ≡ s'.index = one-place (weight variable) s.member.slave.areas s.index s'.index s.area s'.area (omega arith) s.in_record own some some' in
    let areas : Some s.area ≡ Some s'.area = sym s.in_record ∙ ap (slice_get s.member.slave.areas) index ∙ own in
    let area : s'.area ≡ s.area = cc in
    let entry = subst (λ (a : Area). Contains (variables_from 0 (assigned_entries a)) (variable, (s'.offset, bits'))) area s'.entry in
    let same = one-entry variable 0 (assigned_entries s.area) (variable, (s.offset, bits)) (variable, (s'.offset, bits')) (omega arith) refl refl s.entry entry in
    let offset : s.offset ≡ s'.offset = ap (λ (f : Found). f.1.0) same in
    (one, s.at ∙ ap₂ (λ (a : Area) (o : ℕ). 8 * a.phys + o) (sym area) offset ∙ sym s'.at)
