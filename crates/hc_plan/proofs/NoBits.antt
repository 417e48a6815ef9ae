-- A move of an area without bits leaves the line's configuration as it was.
use Rattle.std.proofs.Common.{◌≡◌, ◌∙◌, ◌==◌, ◌&&◌, ℕ, zero, suc, ◌+◌, Bool, true, false, cond, List, [], ◌∷◌, ◌++◌, length, map, refl, sym, ap, if◌then◌else◌}
use Rattle.std.specs.Prelude.{All, filter, nat_lt, slice_index_or}
use Rattle.std.specs.List.{enumerate_from, flat_map}
use Rattle.std.proofs.lemmas.List.{map-append, length-map}
use Rattle.std.proofs.lemmas.List.Elements.{All-head, All-tail}
use Rattle.hc_records.specs.declared.records.Area.{Area}
use Rattle.hc_records.specs.declared.records.Declared.{Declared}
use Rattle.hc_records.specs.declared.records.Dir.{Dir}
use Rattle.hc_records.specs.declared.records.Dir.TheVariants.{Out, In}
use Rattle.hc_records.specs.declared.records.Slave.{Slave}
use Rattle.hc_records.specs.Area.{width}
use Rattle.hc_records.specs.Edits.{with_area, with_slaves}
use Rattle.hc_records.specs.Keys.{same_dir}
use Rattle.hc_records.specs.Line.{Member, line_from, members_from, present_slaves}
use Rattle.hc_records.specs.Lists.{changed_at}
use Rattle.hc_plan.specs.inner.Prepared.{HasNoBits}
use Rattle.hc_records.specs.TaskList.{Listed, belongs, slave_areas, task_areas}

-- the line of groups whose slaves are changed is that line with its slaves changed

abbrev pub on_slave : (Slave → Slave) → Member → Member
on_slave change member = record { rank = member.rank; slave = change member.slave }

members-on : (change : Slave → Slave) (rank : ℕ) (slaves : List Slave) → members_from rank (map change slaves) ≡ map (on_slave change) (members_from rank slaves)
members-on change rank [] = refl
members-on change rank (slave ∷ slaves) =
    ap (λ (rest : List Member). record { rank = rank; slave = change slave } ∷ rest) (members-on change (rank + 1) slaves)

present-by : (here : Bool) (change : Slave → Slave) (slaves : List Slave) → (if here then map change slaves else []) ≡ map change (if here then slaves else [])
present-by true change slaves = refl
present-by false change slaves = refl

pub line-on : (change : Slave → Slave) (rank : ℕ) (groups : List Declared) → line_from rank (map (with_slaves change) groups) ≡ map (on_slave change) (line_from rank groups)
line-on change rank [] = refl
line-on change rank (declared ∷ groups) =
    let slaves = declared.group.slaves in
    let others = map (with_slaves change) groups in
    let here = members_from rank (present_slaves declared) in
    ap (λ (own : List Slave). members_from rank own ++ line_from (rank + length (map change slaves)) others) (present-by declared.present change slaves)
    ∙ ap (λ (own : List Member). own ++ line_from (rank + length (map change slaves)) others) (members-on change rank (present_slaves declared))
    ∙ ap (λ (n : ℕ). map (on_slave change) here ++ line_from (rank + n) others) (length-map slaves change)
    ∙ ap (λ (rest : List Member). map (on_slave change) here ++ rest) (line-on change (rank + length slaves) groups)
    ∙ sym (map-append (on_slave change) here (line_from (rank + length slaves) groups))

-- what each slave gives as before, the line does

pub flat-on : {X : Type 0} (f g : Member → List X) (change : Slave → Slave) (members : List Member) → All (λ member. f (on_slave change member) ≡ g member) members
    → flat_map f (map (on_slave change) members) ≡ flat_map g members
flat-on f g change [] all = refl
flat-on {X} f g change (member ∷ members) all =
    ap (λ (own : List X). own ++ flat_map f (map (on_slave change) members)) (All-head (λ (m : Member). f (on_slave change m) ≡ g m) member members all)
    ∙ ap (λ (rest : List X). g member ++ rest) (flat-on f g change members (All-tail (λ (m : Member). f (on_slave change m) ≡ g m) member members all))

-- an area in another task
abbrev pub to_task : ℕ → Area → Area
to_task task area = record area { task = task }

-- its areas with bits stay in their tasks

bitless : (wanted : Bool) (bits : ℕ) → bits ≡ 0 → (wanted && nat_lt 0 bits) ≡ false
bitless true zero is = refl
bitless false zero is = refl
bitless wanted (suc bits) is = cc

belongs-not : (task : ℕ) (dir : Dir) (area : Area) → width area ≡ 0 → belongs task dir area ≡ false
belongs-not task dir area none = bitless ((area.task == task) && same_dir area.dir dir) (width area) none

listed-same : (task to index first : ℕ) (dir : Dir) (areas : List Area) → HasNoBits index areas
    → filter (λ e. belongs task dir e.1) (enumerate_from first (changed_at index (to_task to) areas)) ≡ filter (λ e. belongs task dir e.1) (enumerate_from first areas)
listed-same task to index first dir [] none = refl
listed-same task to zero first dir (area ∷ areas) none =
    let rest = filter (λ (e : ℕ × Area). belongs task dir e.1) (enumerate_from (first + 1) areas) in
    ap (λ (b : Bool). cond b ((first, to_task to area) ∷ rest) rest) (belongs-not task dir (to_task to area) (none area refl))
    ∙ sym (ap (λ (b : Bool). cond b ((first, area) ∷ rest) rest) (belongs-not task dir area (none area refl)))
listed-same task to (suc index) first dir (area ∷ areas) none =
    ap (λ (rest : List (ℕ × Area)). cond (belongs task dir area) ((first, area) ∷ rest) rest) (listed-same task to index (first + 1) dir areas none)

slave-same : (here : Bool) (task to index rank : ℕ) (dir : Dir) (slave : Slave) → (here ≡ true → HasNoBits index slave.areas)
    → slave_areas task dir (record { rank = rank; slave = if here then record slave { areas = changed_at index (to_task to) slave.areas } else slave })
    ≡ slave_areas task dir (record { rank = rank; slave = slave })
slave-same true task to index rank dir slave none =
    ap (map (λ (e : ℕ × Area). record { key = record { dir = dir; rank = rank; area = e.0 }; area = e.1 })) (listed-same task to index 0 dir slave.areas (none refl))
slave-same false task to index rank dir slave none = refl

-- each slave of a line that has a station address has no bits there
abbrev pub HaveNoBits : ℕ → ℕ → List Member → Type 0
HaveNoBits station index members = All (λ member. (member.slave.station == station) ≡ true → HasNoBits index member.slave.areas) members

direction-same : (task station index to : ℕ) (dir : Dir) (members : List Member) → HaveNoBits station index members
    → flat_map (slave_areas task dir) (map (on_slave (with_area station index (to_task to))) members) ≡ flat_map (slave_areas task dir) members
direction-same task station index to dir members none =
    flat-on (slave_areas task dir) (slave_areas task dir) (with_area station index (to_task to)) members
    (λ k d inside.
    let member = slice_index_or members k d in
    slave-same (member.slave.station == station) task to index member.rank dir member.slave (none k d inside))

pub areas-same : (task station index to : ℕ) (members : List Member) → HaveNoBits station index members
    → task_areas task (map (on_slave (with_area station index (to_task to))) members) ≡ task_areas task members
areas-same task station index to members none =
    let change = with_area station index (to_task to) in
    ap (λ (outputs : List Listed). outputs ++ flat_map (slave_areas task In) (map (on_slave change) members)) (direction-same task station index to Out members none)
    ∙ ap (λ (inputs : List Listed). flat_map (slave_areas task Out) members ++ inputs) (direction-same task station index to In members none)
