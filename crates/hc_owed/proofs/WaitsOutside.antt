-- The number of registers of slaves outside the line that a task waits for, counted area by area.
use Rattle.std.proofs.Common.{◌≡◌, ℕ, zero, suc, ◌+◌, ◌-◌, ◌*◌, ◌/◌, ◌%◌, ◌<◌, ◌≤◌, ◌==◌, ◌&&◌, Bool, true, false, cond, List, [], ◌∷◌, ◌++◌, drop, length, map, sum_by, take, refl, sym, ap, ap₂, ◌∙◌, arith, length-append}
use Rattle.std.specs.Prelude.{Some, Option, filter, is_some, nat_lt, not, slice_get}
use Rattle.std.specs.Int.{bit_at}
use Rattle.std.specs.List.{flat_map, range_with_len}
use Rattle.std.proofs.lemmas.Bool.{eqb-true, ltb-true, ltb-false}
use Rattle.std.proofs.lemmas.Bool.Decides.{nat_tests}
use Rattle.std.proofs.lemmas.Grind.{flat_map-append}
use Rattle.std.proofs.lemmas.List.Elements.{All-contains}
use Rattle.std.proofs.lemmas.List.{length-drop, length-map, length-take, take-append-drop}
use Rattle.std.proofs.lemmas.List.Sums.{sum_by-append, sum_by-cons}
use Rattle.std.proofs.lemmas.Nat.Bits.{bit_at-zero}
use Rattle.std.proofs.lemmas.Option.{same_Some, slice_get_past, slice_get_within}
use Rattle.hc_records.specs.declared.records.Declared.{Declared}
use Rattle.hc_records.specs.declared.records.Slave.{Slave}
use Rattle.hc_records.specs.Limits.{IsSlaveInside}
use Rattle.hc_records.specs.Line.{Member, State, groups_of, line, members_from}
use Rattle.hc_records.proofs.lemmas.Limits.{project-inside}
use Rattle.hc_records.proofs.lemmas.Lines.{declared_slaves}
use Rattle.hc_records.proofs.lemmas.Lists.{get-back, get-front}
use Rattle.hc_registers.specs.Blocks.{LineBlock, member_blocks}
use Rattle.hc_registers.specs.RankPlaces.{numbers, places_from, slave_places, stations}
use Rattle.hc_registers.proofs.lemmas.RanksGapless.{length-member}
use Rattle.hc_plan.proofs.lemmas.Configured.{at-contained}
use Rattle.hc_plan.proofs.lemmas.Differing.{there}
use Rattle.hc_events.specs.Holding.{MayHold}
use Rattle.hc_events.specs.Ready.{absent_slaves, fmmu_registers, names_among}
use Rattle.hc_owed.specs.declared.area.JudgedArea.{JudgedArea}
use Rattle.hc_owed.specs.declared.task_set.TaskSet.{TaskSet}
use Rattle.hc_owed.specs.Areas.{is_apart, register_concerns, registers_waited}
use Rattle.hc_owed.specs.Flags.{one}
use Rattle.hc_owed.specs.Readiness.{Holdings, counts_outside, fmmu_at, held_set, judged_at, readiness_of, slot, standing_of, registers_waited_for}
use Rattle.hc_owed.specs.ReadinessSteps.{IsReadinessFor}
use Rattle.hc_owed.specs.RegisterState.{Knowledge, owed_in}
use Rattle.hc_owed.specs.TaskSets.{has_task, some_task}
use Rattle.hc_owed.proofs.AreaPlaces.{area-is, get-range, length-range, no-area, slot-is}
use Rattle.hc_owed.proofs.Counting.{no-registers}
use Rattle.hc_owed.proofs.JudgedAreas.{area_of, judged-none, judged-some}
use Rattle.hc_owed.proofs.TaskLists.{has-where}
use Rattle.hc_owed.proofs.Waits.{set-counted}

-- the count of an area of a slave: 0 in the line; outside it 1 if its register concerns the task
abbrev own_count : (ℕ × ℕ → Bool) → Slave → ℕ → ℕ
own_count test slave j = cond (nat_lt j (length slave.areas)) (one (test (slave.station, 2 * j + 1))) 0

abbrev weight : (ℕ × ℕ → Bool) → Bool → Slave → ℕ → ℕ
weight test inside slave j = cond inside 0 (own_count test slave j)

filter-cons : {X : Type 0} (test : X → Bool) (x : X) (xs : List X) → length (filter test (x ∷ xs)) ≡ one (test x) + length (filter test xs)
filter-cons {X} test x xs = by (test x)
  where
    by : (b : Bool) → length (cond b (x ∷ filter test xs) (filter test xs)) ≡ one b + length (filter test xs)
    by true = omega arith
    by false = omega arith

filter-append : {X : Type 0} (test : X → Bool) (xs ys : List X) → length (filter test (xs ++ ys)) ≡ length (filter test xs) + length (filter test ys)
filter-append test [] ys = omega arith
filter-append test (x ∷ xs) ys =
    let rest = filter-append test xs ys in
    let first = filter-cons test x (xs ++ ys) in
    let second = filter-cons test x xs in
    omega (arith, rest, first, second)

-- the registers of one slave

module _ (test : ℕ × ℕ → Bool) where
  ranged : (slave : Slave) (a n : ℕ) → length (filter test (map (λ (index : ℕ). (slave.station, 2 * index + 1)) (range_with_len a n))) ≡ sum_by (λ (j : ℕ). one (test (slave.station, 2 * j + 1))) (range_with_len a n)
  ranged slave a zero = refl
  ranged slave a (suc n) =
      let first = filter-cons test (slave.station, 2 * a + 1) (map (λ (index : ℕ). (slave.station, 2 * index + 1)) (range_with_len (a + 1) n)) in
      let rest = ranged slave (a + 1) n in
      let sum = sum_by-cons (λ (j : ℕ). one (test (slave.station, 2 * j + 1))) a (range_with_len (a + 1) n) in
      omega (arith, first, rest, sum)

  -- the first numbers below a bound
  below : (u : ℕ → ℕ) (a n m : ℕ) → n ≤ m → sum_by u (range_with_len a n) ≡ sum_by (λ (j : ℕ). cond (nat_lt j (a + n)) (u j) 0) (range_with_len a m)
  below u a zero zero fits = refl
  below u a zero (suc m) fits =
      let rest = below-none u (a + 0) (a + 1) m (omega arith) in
      let sum = sum_by-cons (λ (j : ℕ). cond (nat_lt j (a + 0)) (u j) 0) a (range_with_len (a + 1) m) in
      let none : nat_lt a (a + 0) ≡ false = grind (arith, nat_tests) in
      let here = ap (λ (b : Bool). cond b (u a) 0) none in
      omega (arith, rest, sum, here)
    where
      below-none : (u : ℕ → ℕ) (top a m : ℕ) → top ≤ a → sum_by (λ (j : ℕ). cond (nat_lt j top) (u j) 0) (range_with_len a m) ≡ 0
      below-none u top a zero high = refl
      below-none u top a (suc m) high =
          let rest = below-none u top (a + 1) m (omega (arith, high)) in
          let sum = sum_by-cons (λ (j : ℕ). cond (nat_lt j top) (u j) 0) a (range_with_len (a + 1) m) in
          let none : nat_lt a top ≡ false = grind (arith, nat_tests) in
          let here = ap (λ (b : Bool). cond b (u a) 0) none in
          omega (arith, rest, sum, here)
  below u a (suc n) zero fits = absurd (omega (arith, fits))
  below u a (suc n) (suc m) fits =
      let next : a + 1 + n ≡ a + suc n = omega arith in
      let rest = below u (a + 1) n m (omega (arith, fits)) ∙ ap (λ (top : ℕ). sum_by (λ (j : ℕ). cond (nat_lt j top) (u j) 0) (range_with_len (a + 1) m)) next in
      let first = sum_by-cons u a (range_with_len (a + 1) n) in
      let second = sum_by-cons (λ (j : ℕ). cond (nat_lt j (a + suc n)) (u j) 0) a (range_with_len (a + 1) m) in
      let inside : nat_lt a (a + suc n) ≡ true = grind (arith, nat_tests) in
      let here = ap (λ (b : Bool). cond b (u a) 0) inside in
      omega (arith, rest, first, second, here)

  eight : (u : ℕ → ℕ) → sum_by u (range_with_len 0 8) ≡ u 0 + (u 1 + (u 2 + (u 3 + (u 4 + (u 5 + (u 6 + (u 7 + 0)))))))
  eight u =
      sum_by-cons u 0 (range_with_len 1 7) ∙ ap (λ (n : ℕ). u 0 + n) (sum_by-cons u 1 (range_with_len 2 6) ∙ ap (λ (n : ℕ). u 1 + n) (sum_by-cons u 2 (range_with_len 3 5) ∙ ap (λ (n : ℕ). u 2 + n)
      (sum_by-cons u 3 (range_with_len 4 4) ∙ ap (λ (n : ℕ). u 3 + n) (sum_by-cons u 4 (range_with_len 5 3) ∙ ap (λ (n : ℕ). u 4 + n) (sum_by-cons u 5 (range_with_len 6 2) ∙ ap (λ (n : ℕ). u 5 + n)
      (sum_by-cons u 6 (range_with_len 7 1) ∙ ap (λ (n : ℕ). u 6 + n) (sum_by-cons u 7 (range_with_len 8 0))))))))

  own-registers : (slave : Slave) → length slave.areas ≤ 8
      → length (filter test (fmmu_registers slave))
      ≡ own_count test slave 0 + (own_count test slave 1 + (own_count test slave 2 + (own_count test slave 3 + (own_count test slave 4 + (own_count test slave 5 + (own_count test slave 6 + (own_count test slave 7 + 0)))))))
  own-registers slave few =
      let none : 0 + length slave.areas ≡ length slave.areas = omega arith in
      ranged slave 0 (length slave.areas)
      ∙ below (λ (j : ℕ). one (test (slave.station, 2 * j + 1))) 0 (length slave.areas) 8 few
      ∙ ap (λ (top : ℕ). sum_by (λ (j : ℕ). cond (nat_lt j top) (one (test (slave.station, 2 * j + 1))) 0) (range_with_len 0 8)) none
      ∙ eight (own_count test slave)

  -- slaves that are all present or all absent

  abbrev EachCounts : List JudgedArea → List Slave → List (Option LineBlock) → (JudgedArea → ℕ) → Type 0
  EachCounts areas slaves all f =
      (n : ℕ) (area : JudgedArea) (slave : Slave) (fmmu : Option LineBlock) → slice_get areas n ≡ Some area → slice_get slaves (n / 8) ≡ Some slave → slice_get all (2 * n + 1) ≡ Some fmmu
      → f area ≡ weight test (is_some fmmu) slave (n % 8)

  abbrev left : Bool → List Slave → List Slave
  left present slaves = cond present [] slaves

  length-slave_places : (whole : List Member) (present : Bool) (member : Member) → length (slave_places whole present member) ≡ 16
  unfolding numbers
  length-slave_places whole present member = refl

  place-of : (whole : List Member) (present : Bool) (member : Member) (rest : List (Option LineBlock)) (j : ℕ) → j < 8
      → slice_get (slave_places whole present member ++ rest) (2 * j + 1) ≡ Some (slice_get (cond present (member_blocks whole member) []) (2 * j + 1))
  unfolding numbers
  place-of whole present member rest zero low = refl
  place-of whole present member rest (suc zero) low = refl
  place-of whole present member rest (suc (suc zero)) low = refl
  place-of whole present member rest (suc (suc (suc zero))) low = refl
  place-of whole present member rest (suc (suc (suc (suc zero)))) low = refl
  place-of whole present member rest (suc (suc (suc (suc (suc zero))))) low = refl
  place-of whole present member rest (suc (suc (suc (suc (suc (suc zero)))))) low = refl
  place-of whole present member rest (suc (suc (suc (suc (suc (suc (suc zero))))))) low = refl
  place-of whole present member rest (suc (suc (suc (suc (suc (suc (suc (suc n)))))))) low = absurd (omega (arith, low))

  -- an area of a slave, by its slave's presence
  weight-is : (whole : List Member) (present : Bool) (member : Member) (j : ℕ) → weight test (is_some (slice_get (cond present (member_blocks whole member) []) (2 * j + 1))) member.slave j ≡ cond present 0 (own_count test member.slave j)
  weight-is whole false member j = refl
  weight-is whole true member j = by (nat_lt j (length member.slave.areas)) refl
    where
      by : (inside : Bool) → nat_lt j (length member.slave.areas) ≡ inside → weight test (is_some (slice_get (member_blocks whole member) (2 * j + 1))) member.slave j ≡ 0
      by true is =
          let low = ltb-true j (length member.slave.areas) is in
          let size = length-member whole member in
          let one = there (member_blocks whole member) (2 * j + 1) (omega (arith, low, size)) in
          ap (λ (o : Option LineBlock). weight test (is_some o) member.slave j) one.1
      by false is =
          let high = ltb-false j (length member.slave.areas) is in
          let size = length-member whole member in
          ap (λ (o : Option LineBlock). weight test (is_some o) member.slave j) (slice_get_past (member_blocks whole member) (2 * j + 1) (omega (arith, high, size)))
          ∙ ap (λ (b : Bool). cond b (one (test (member.slave.station, 2 * j + 1))) 0) is

  eight-of : (present : Bool) (slave : Slave) (rest : List Slave) → length slave.areas ≤ 8
      → cond present 0 (own_count test slave 0) + (cond present 0 (own_count test slave 1) + (cond present 0 (own_count test slave 2) + (cond present 0 (own_count test slave 3) + (cond present 0 (own_count test slave 4) + (cond present 0 (own_count test slave 5) + (cond present 0 (own_count test slave 6) + (cond present 0 (own_count test slave 7) + length (filter test (flat_map fmmu_registers (left present rest))))))))))
      ≡ length (filter test (flat_map fmmu_registers (left present (slave ∷ rest))))
  eight-of true slave rest few = refl
  eight-of false slave rest few =
      let own = own-registers slave few in
      let all = filter-append test (fmmu_registers slave) (flat_map fmmu_registers rest) in
      omega (arith, own, all)

  slaves-count : (f : JudgedArea → ℕ) (whole : List Member) (present : Bool) (rank : ℕ) (slaves : List Slave) (areas : List JudgedArea) → ((n : ℕ) (slave : Slave) → slice_get slaves n ≡ Some slave → length slave.areas ≤ 8) → length areas ≡ 8 * length slaves
      → EachCounts areas slaves (flat_map (slave_places whole present) (members_from rank slaves)) f → sum_by f areas ≡ length (filter test (flat_map fmmu_registers (left present slaves)))
  slaves-count f whole true rank [] [] few size each = refl
  slaves-count f whole false rank [] [] few size each = refl
  slaves-count f whole present rank [] (a ∷ areas) few size each = absurd (omega (arith, size))
  slaves-count f whole present rank (slave ∷ slaves) (a ∷ b ∷ c ∷ d ∷ e ∷ g ∷ h ∷ k ∷ areas) few size each =
      let member : Member = record { rank = rank; slave = slave } in
      let later = flat_map (slave_places whole present) (members_from (rank + 1) slaves) in
      let at = λ (j : ℕ) (low : j < 8). place-of whole present member later j low in
      let is = λ (j : ℕ). weight-is whole present member j in
      let rest = slaves-count f whole present (rank + 1) slaves areas (λ n s at'. few (suc n) s at') (omega (arith, size)) (λ n area s fmmu found named placed.
      let shift : n + 8 ≡ suc (suc (suc (suc (suc (suc (suc (suc n))))))) = omega arith in
      let eighth : (n + 8) / 8 ≡ suc (n / 8) = omega arith in
      let part : (n + 8) % 8 ≡ n % 8 = omega arith in
      let sixteen = length-slave_places whole present member in
      let back : 2 * (n + 8) + 1 - length (slave_places whole present member) ≡ 2 * n + 1 = omega (arith, sixteen) in
      each (n + 8) area s fmmu (ap (slice_get (a ∷ b ∷ c ∷ d ∷ e ∷ g ∷ h ∷ k ∷ areas)) shift ∙ found) (ap (slice_get (slave ∷ slaves)) eighth ∙ named)
      (get-back (slave_places whole present member) later (2 * (n + 8) + 1) (omega (arith, sixteen)) ∙ ap (slice_get later) back ∙ placed)
      ∙ ap (weight test (is_some fmmu) s) part) in
      let c0 = each 0 a slave (slice_get (cond present (member_blocks whole member) []) 1) refl refl (at 0 (omega arith)) ∙ is 0 in
      let c1 = each 1 b slave (slice_get (cond present (member_blocks whole member) []) 3) refl refl (at 1 (omega arith)) ∙ is 1 in
      let c2 = each 2 c slave (slice_get (cond present (member_blocks whole member) []) 5) refl refl (at 2 (omega arith)) ∙ is 2 in
      let c3 = each 3 d slave (slice_get (cond present (member_blocks whole member) []) 7) refl refl (at 3 (omega arith)) ∙ is 3 in
      let c4 = each 4 e slave (slice_get (cond present (member_blocks whole member) []) 9) refl refl (at 4 (omega arith)) ∙ is 4 in
      let c5 = each 5 g slave (slice_get (cond present (member_blocks whole member) []) 11) refl refl (at 5 (omega arith)) ∙ is 5 in
      let c6 = each 6 h slave (slice_get (cond present (member_blocks whole member) []) 13) refl refl (at 6 (omega arith)) ∙ is 6 in
      let c7 = each 7 k slave (slice_get (cond present (member_blocks whole member) []) 15) refl refl (at 7 (omega arith)) ∙ is 7 in
      let s0 = sum_by-cons f a (b ∷ c ∷ d ∷ e ∷ g ∷ h ∷ k ∷ areas) in
      let s1 = sum_by-cons f b (c ∷ d ∷ e ∷ g ∷ h ∷ k ∷ areas) in
      let s2 = sum_by-cons f c (d ∷ e ∷ g ∷ h ∷ k ∷ areas) in
      let s3 = sum_by-cons f d (e ∷ g ∷ h ∷ k ∷ areas) in
      let s4 = sum_by-cons f e (g ∷ h ∷ k ∷ areas) in
      let s5 = sum_by-cons f g (h ∷ k ∷ areas) in
      let s6 = sum_by-cons f h (k ∷ areas) in
      let s7 = sum_by-cons f k areas in
      let all = eight-of present slave slaves (few 0 slave refl) in
      omega (arith, rest, c0, c1, c2, c3, c4, c5, c6, c7, s0, s1, s2, s3, s4, s5, s6, s7, all)
  slaves-count f whole present rank (slave ∷ slaves) [] few size each = absurd (omega (arith, size))
  slaves-count f whole present rank (slave ∷ slaves) (a ∷ []) few size each = absurd (omega (arith, size))
  slaves-count f whole present rank (slave ∷ slaves) (a ∷ b ∷ []) few size each = absurd (omega (arith, size))
  slaves-count f whole present rank (slave ∷ slaves) (a ∷ b ∷ c ∷ []) few size each = absurd (omega (arith, size))
  slaves-count f whole present rank (slave ∷ slaves) (a ∷ b ∷ c ∷ d ∷ []) few size each = absurd (omega (arith, size))
  slaves-count f whole present rank (slave ∷ slaves) (a ∷ b ∷ c ∷ d ∷ e ∷ []) few size each = absurd (omega (arith, size))
  slaves-count f whole present rank (slave ∷ slaves) (a ∷ b ∷ c ∷ d ∷ e ∷ g ∷ []) few size each = absurd (omega (arith, size))
  slaves-count f whole present rank (slave ∷ slaves) (a ∷ b ∷ c ∷ d ∷ e ∷ g ∷ h ∷ []) few size each = absurd (omega (arith, size))

  length-group : (whole : List Member) (present : Bool) (rank : ℕ) (slaves : List Slave) → length (flat_map (slave_places whole present) (members_from rank slaves)) ≡ 16 * length slaves
  length-group whole present rank [] = refl
  length-group whole present rank (slave ∷ slaves) =
      let member : Member = record { rank = rank; slave = slave } in
      let all = length-append (slave_places whole present member) (flat_map (slave_places whole present) (members_from (rank + 1) slaves)) in
      let first = length-slave_places whole present member in
      let rest = length-group whole present (rank + 1) slaves in
      omega (arith, all, first, rest)

  flat-append : (xs ys : List Slave) → flat_map fmmu_registers (xs ++ ys) ≡ flat_map fmmu_registers xs ++ flat_map fmmu_registers ys
  flat-append xs ys = flat_map-append fmmu_registers xs ys

  groups-count : (f : JudgedArea → ℕ) (whole : List Member) (rank : ℕ) (groups : List Declared) (areas : List JudgedArea) → ((n : ℕ) (slave : Slave) → slice_get (declared_slaves groups) n ≡ Some slave → length slave.areas ≤ 8)
      → length areas ≡ 8 * length (declared_slaves groups) → EachCounts areas (declared_slaves groups) (places_from whole rank groups) f → sum_by f areas ≡ length (filter test (flat_map fmmu_registers (flat_map absent_slaves groups)))
  groups-count f whole rank [] [] few size each = refl
  groups-count f whole rank [] (a ∷ areas) few size each = absurd (omega (arith, size))
  groups-count f whole rank (d ∷ groups) areas few size each =
      let slaves = d.group.slaves in
      let others = declared_slaves groups in
      let n = 8 * length slaves in
      let front = take n areas in
      let back = drop n areas in
      let whole-size = length-append slaves others in
      let front-size = length-take n areas in
      let back-size = length-drop n areas in
      let split : front ++ back ≡ areas = take-append-drop n areas in
      let first-places = flat_map (slave_places whole d.present) (members_from rank slaves) in
      let later-places = places_from whole (rank + length slaves) groups in
      let places-size = length-group whole d.present rank slaves in
      let front-is : length front ≡ n = omega (arith, front-size, size, whole-size) in
      let first = slaves-count f whole d.present rank slaves front
      (λ i s at. few i s (get-front slaves others i (slice_get_within slaves i s at) ∙ at)) front-is
      (λ i area s fmmu found named placed.
      let low = slice_get_within front i area found in
      let low-slave = slice_get_within slaves (i / 8) s named in
      let low-place = slice_get_within first-places (2 * i + 1) fmmu placed in
      each i area s fmmu (ap (λ (l : List JudgedArea). slice_get l i) (sym split) ∙ get-front front back i low ∙ found)
      (get-front slaves others (i / 8) low-slave ∙ named) (get-front first-places later-places (2 * i + 1) low-place ∙ placed)) in
      let rest = groups-count f whole (rank + length slaves) groups back
      (λ i s at. let shift : length slaves + i - length slaves ≡ i = omega arith in
      few (length slaves + i) s (get-back slaves others (length slaves + i) (omega arith) ∙ ap (slice_get others) shift ∙ at)) (omega (arith, back-size, size, whole-size))
      (λ i area s fmmu found named placed.
      let shift : n + i - length front ≡ i = omega (arith, front-is) in
      let eighth : (n + i) / 8 - length slaves ≡ i / 8 = omega arith in
      let part : (n + i) % 8 ≡ i % 8 = omega arith in
      let place : 2 * (n + i) + 1 - length first-places ≡ 2 * i + 1 = omega (arith, places-size) in
      each (n + i) area s fmmu
      (ap (λ (l : List JudgedArea). slice_get l (n + i)) (sym split) ∙ get-back front back (n + i) (omega (arith, front-is)) ∙ ap (slice_get back) shift ∙ found)
      (get-back slaves others ((n + i) / 8) (omega arith) ∙ ap (slice_get others) eighth ∙ named)
      (get-back first-places later-places (2 * (n + i) + 1) (omega (arith, places-size)) ∙ ap (slice_get later-places) place ∙ placed)
      ∙ ap (weight test (is_some fmmu) s) part) in
      let sum = ap (sum_by f) (sym split) ∙ sum_by-append f front back in
      let joined = ap (λ (l : List (ℕ × ℕ)). length (filter test l)) (flat-append (absent_slaves d) (flat_map absent_slaves groups))
      ∙ filter-append test (flat_map fmmu_registers (absent_slaves d)) (flat_map fmmu_registers (flat_map absent_slaves groups)) in
      omega (arith, sum, first, rest, joined)

-- one area

has-some : (t : ℕ) (set : TaskSet) → has_task t set ≡ true → some_task set ≡ true
unfolding has_task some_task
has-some t set has = by (set.bits == 0) refl
  where
    by : (none : Bool) → (set.bits == 0) ≡ none → not none ≡ true
    by false is = refl
    by true is =
        let zero-bits = eqb-true set.bits 0 is in
        let never : false ≡ true = sym (ap (λ (n : ℕ). bit_at n t == 1) zero-bits ∙ ap (λ (n : ℕ). n == 1) (bit_at-zero t)) ∙ has in cc

apart-of : (inside unknown apart : Bool) → is_apart (standing_of inside unknown apart) ≡ (not inside && not apart)
apart-of true true apart = refl
apart-of true false apart = refl
apart-of false unknown true = refl
apart-of false unknown false = refl

module _ (known : Knowledge) (held : Holdings) (unplugged : ℕ → Bool) (state : State) (t : ℕ) (low : t < 8) where
  flag-names : (inside plugged names some : Bool) → (names ≡ true → some ≡ true) → ((not inside && not (plugged && some)) && names) ≡ cond inside false (not plugged && names)
  flag-names true plugged names some same = refl
  flag-names false true true some same = let is = same refl in ap (λ (b : Bool). not b && true) is
  flag-names false true false some same = by (not (true && some))
    where
      by : (b : Bool) → (b && false) ≡ false
      by true = refl
      by false = refl
  flag-names false false names some same = refl

  -- the register of an area concerns the task outside the line
  pub area-flag : (a b : Bool) (second : Option LineBlock) (holds : MayHold) (plugged : Bool) → has_task t (register_concerns (area_of a b second holds plugged)) ≡ cond (is_some second) false (not plugged && names_among t holds)
  area-flag a b second holds plugged =
      let apart = plugged && some_task (held_set holds) in
      set-counted t (is_apart (standing_of (is_some second) holds.unknown apart)) (held_set holds) low
      ∙ ap₂ (λ (c d : Bool). c && d) (apart-of (is_some second) holds.unknown apart) (has-where (λ (s : ℕ). names_among s holds) t low)
      ∙ flag-names (is_some second) plugged (names_among t holds) (some_task (held_set holds)) (λ names. has-some t (held_set holds) (has-where (λ (s : ℕ). names_among s holds) t low ∙ names))

  area-registers : (a b : Bool) (second : Option LineBlock) (holds : MayHold) (plugged : Bool) → registers_waited t (area_of a b second holds plugged) ≡ cond (is_some second) 0 (one (not plugged && names_among t holds))
  area-registers a b second holds plugged = ap one (area-flag a b second holds plugged) ∙ inside-one (is_some second) (not plugged && names_among t holds)
    where
      inside-one : (inside flag : Bool) → one (cond inside false flag) ≡ cond inside 0 (one flag)
      inside-one true flag = refl
      inside-one false flag = refl

  abbrev test : ℕ × ℕ → Bool
  test = counts_outside held unplugged t

  area-counts : (n : ℕ) (slave : Slave) (fmmu : Option LineBlock) → slice_get (declared_slaves state.groups) (n / 8) ≡ Some slave → slot state (2 * n + 1) ≡ fmmu
      → (real : Bool) → nat_lt (n % 8) (length slave.areas) ≡ real → registers_waited t (judged_at known held unplugged state n) ≡ weight test (is_some fmmu) slave (n % 8)
  area-counts n slave fmmu named placed true real =
      let area = area-is state n slave named (ltb-true (n % 8) (length slave.areas) real) in
      ap (registers_waited t) (judged-some known held unplugged state n slave area)
      ∙ area-registers (owed_in known (slot state (2 * n))) (owed_in known (slot state (2 * n + 1))) (slot state (2 * n + 1)) (held slave.station (fmmu_at n)) (unplugged slave.station)
      ∙ ap (λ (o : Option LineBlock). cond (is_some o) 0 (one (test (slave.station, fmmu_at n)))) placed
      ∙ ap (λ (b : Bool). cond (is_some fmmu) 0 (cond b (one (test (slave.station, fmmu_at n))) 0)) (sym real)
  area-counts n slave fmmu named placed false real =
      let area = no-area state n slave named real in
      ap (registers_waited t) (judged-none known held unplugged state n area) ∙ no-registers t low
      ∙ zeros (is_some fmmu) ∙ ap (λ (b : Bool). cond (is_some fmmu) 0 (cond b (one (test (slave.station, fmmu_at n))) 0)) (sym real)
    where
      zeros : (b : Bool) → ◌≡◌ {A = ℕ} 0 (cond b 0 0)
      zeros true = refl
      zeros false = refl

pub outside-right : (known : Knowledge) (held : Holdings) (unplugged : ℕ → Bool) (state : State) (areas : List JudgedArea) (t : ℕ) → t < 8 → IsReadinessFor known held unplugged state areas
    → sum_by (registers_waited t) areas ≡ length (registers_waited_for held unplugged state t)
outside-right known held unplugged state areas t low is =
    ap (λ (l : List JudgedArea). sum_by (registers_waited t) l) is.right
    ∙ groups-count (counts_outside held unplugged t) (registers_waited t) (line state) 1 state.groups (readiness_of known held unplugged state)
    (λ n s at. (All-contains IsSlaveInside (declared_slaves state.groups) s (project-inside (groups_of state.groups) is.project).slaves
    (at-contained (declared_slaves state.groups) n s at)).few)
    (length-range (judged_at known held unplugged state) (8 * length (stations state)) ∙ ap (λ (n : ℕ). 8 * n) (length-map (declared_slaves state.groups) (λ (slave : Slave). slave.station)))
    (λ n area slave fmmu found named placed.
    let count = 8 * length (stations state) in
    let within = slice_get_within (readiness_of known held unplugged state) n area found in
    let size = length-range (judged_at known held unplugged state) count in
    let own = same_Some area (judged_at known held unplugged state n) (sym found ∙ get-range (judged_at known held unplugged state) count n (omega (arith, within, size))) in
    ap (registers_waited t) own ∙ area-counts known held unplugged state t low n slave fmmu named (slot-is state (2 * n + 1) fmmu placed) (nat_lt (n % 8) (length slave.areas)) refl)
