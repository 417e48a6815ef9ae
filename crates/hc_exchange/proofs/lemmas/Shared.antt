-- No bit is in the pairs of two blocks of a line.
use Rattle.std.proofs.Common.{◌≡◌, ℕ, ◌+◌, ◌*◌, ◌<◌, ◌⊎◌, ◌∙◌, inl, inr, List, length, refl, sym, ap, subst, arith}
use Rattle.std.specs.Prelude.{AllPairs, Contains, None, Option, Some, slice_get, slice_index_or}
use Rattle.std.specs.List.{enumerate_from}
use Rattle.std.proofs.lemmas.List.Elements.{Contains-get_or}
use Rattle.hc_records.specs.declared.records.Area.{Area}
use Rattle.hc_records.specs.Line.{Member, line}
use Rattle.hc_records.proofs.lemmas.Lists.{AllPairs-map}
use Rattle.hc_registers.specs.declared.fmmu.Mapping.{Mapping}
use Rattle.hc_registers.specs.Blocks.{LineBlock, RegisterBlock, fmmu_bytes, line_blocks, member_blocks, slave_blocks}
use Rattle.hc_registers.specs.Laws.{AreApart}
use Rattle.hc_registers.proofs.lemmas.Registers.{blocks-apart}
use Rattle.hc_exchange.specs.PairLaws.{NoLogicalBitTwice, NoMemoryBitTwice, ShareNoLogicalBit, ShareNoMemoryBit}
use Rattle.hc_plan.proofs.lemmas.Elements.{AllPairs-joined, AllPairs-numbered}
use Rattle.hc_exchange.proofs.lemmas.Members.{KeepsLine, stays-line, one-index, one-station, slave-of}
use Rattle.hc_exchange.proofs.lemmas.Places.{mapped-place, one-area}
use Rattle.hc_exchange.proofs.lemmas.Sources.{IsOfMember, member-sources, own_fmmu, pair-of}

pub length-fmmu : (area : Area) (mapping : Option Mapping) → length (fmmu_bytes area mapping) ≡ 16
length-fmmu area None = refl
length-fmmu area (Some mapping) = refl

-- two blocks take no register in common, or are of two slaves
abbrev pub Differ : Member → Member → LineBlock → LineBlock → Type 0
Differ member other a b = AreApart a.block b.block ⊎ (member.rank < other.rank)

-- so they aren't both of the area at one index of one slave's record

meet-register : (a b : RegisterBlock) (line : List Member) (member other : Member) (i j : ℕ) (x y : Area) → a ≡ own_fmmu line member i x → b ≡ own_fmmu line other j y → i ≡ j
    → ¬ (AreApart a b)
meet-register a b line member other i j x y is is' same apart =
    let at_a : a.register ≡ 1536 + 16 * i = ap (λ (block : RegisterBlock). block.register) is in
    let at_b : b.register ≡ 1536 + 16 * j = ap (λ (block : RegisterBlock). block.register) is' in
    let long_a : length a.bytes ≡ 16 = ap (λ (block : RegisterBlock). length block.bytes) is ∙ length-fmmu x _ in
    let long_b : length b.bytes ≡ 16 = ap (λ (block : RegisterBlock). length block.bytes) is' ∙ length-fmmu y _ in
    apart (1536 + 16 * i) (record { from = omega arith; below = omega arith }) (record { from = omega arith; below = omega arith })

differ-no : (line : List Member) (member other : Member) (a b : LineBlock) (i j : ℕ) (x y : Area) → Differ member other a b → a.block ≡ own_fmmu line member i x
    → b.block ≡ own_fmmu line other j y → member.rank ≡ other.rank → i ≡ j → ⊥
differ-no line member other a b i j x y (inl apart) is is' ranks same = meet-register a.block b.block line member other i j x y is is' same apart
differ-no line member other a b i j x y (inr lower) is is' ranks same = omega arith

-- so they pair no bit both

logical-apart : (line : List Member) (member other : Member) (a b : LineBlock) → KeepsLine line → Contains line member → Contains line other → IsOfMember line member a
    → IsOfMember line other b → Differ member other a b → ShareNoLogicalBit a b
logical-apart line member other a b stays has has' own own' differ x m n pair pair' =
    let p = pair-of line member a x m stays has own pair in
    let q = pair-of line other b x n stays has' own' pair' in
    let same =
    one-area line member other p.index q.index p.area q.area p.mapping q.mapping x p.pair.k q.pair.k (mapped-place line member p.index p.area p.mapping stays has p.found p.mapped)
    (mapped-place line other q.index q.area q.mapping stays has' q.found q.mapped) p.pair.below p.pair.logical q.pair.below q.pair.logical in
    differ-no line member other a b p.index q.index p.area q.area differ p.is q.is same.0 same.1

memory-apart : (line : List Member) (member other : Member) (a b : LineBlock) → KeepsLine line → Contains line member → Contains line other → IsOfMember line member a
    → IsOfMember line other b → Differ member other a b → ShareNoMemoryBit a b
memory-apart line member other a b stays has has' own own' differ stations x y m pair pair' =
    let p = pair-of line member a x m stays has own pair in
    let q = pair-of line other b y m stays has' own' pair' in
    let one : member ≡ other = one-station line member other stays has has' (sym own.station_is ∙ stations ∙ own'.station_is) in
    let found : slice_get member.slave.areas q.index ≡ Some q.area = subst (λ (slave : Member). slice_get slave.slave.areas q.index ≡ Some q.area) (sym one) q.found in
    let same = one-index line member p.index q.index p.area q.area m p.pair.k q.pair.k stays has p.found found p.pair.below p.pair.memory q.pair.below q.pair.memory in
    differ-no line member other a b p.index q.index p.area q.area differ p.is q.is (ap (λ (slave : Member). slave.rank) one) same

-- any two blocks of a line differ so

abbrev pub Share : (LineBlock → LineBlock → Type 0) → List Member → Type 0
Share R line =
    (member other : Member) (a b : LineBlock) → Contains line member → Contains line other → IsOfMember line member a → IsOfMember line other b → Differ member other a b → R a b

member-apart : (line : List Member) (member : Member) → KeepsLine line → Contains line member → AllPairs (λ a b. AreApart a.block b.block) (member_blocks line member)
member-apart line member stays has =
    AllPairs-map (λ (a b : LineBlock). AreApart a.block b.block) (λ (e : ℕ × RegisterBlock). record { station = member.slave.station; number = e.0; block = e.1 })
    (enumerate_from 0 (slave_blocks line member))
    (AllPairs-numbered AreApart 0 (slave_blocks line member) (blocks-apart line member (slave-of line member stays has)))

pub all-share : (R : LineBlock → LineBlock → Type 0) (line : List Member) → KeepsLine line → Share R line → AllPairs R (line_blocks line)
all-share R line stays share =
    AllPairs-joined R (member_blocks line) line
    (λ j d low i k e lower within.
    let member = slice_index_or line j d in
    let has = Contains-get_or line j d low in
    let own = member-sources line member in
    share member member (slice_index_or (member_blocks line member) i e) (slice_index_or (member_blocks line member) k e) has has (own i e (omega arith)) (own k e within)
    (inl (member-apart line member stays has i k e lower within)))
    (λ i j d lower within p e low q f low'.
    let member = slice_index_or line i d in
    let other = slice_index_or line j d in
    share member other (slice_index_or (member_blocks line member) p e) (slice_index_or (member_blocks line other) q f)
    (Contains-get_or line i d (omega arith)) (Contains-get_or line j d within) (member-sources line member p e low) (member-sources line other q f low')
    (inr (stays.ranks i j d lower within)))

pub logical-once : NoLogicalBitTwice
logical-once state can =
    let stays = stays-line state can in
    all-share ShareNoLogicalBit (line state) stays (λ member other a b has has' own own' differ. logical-apart (line state) member other a b stays has has' own own' differ)

pub memory-once : NoMemoryBitTwice
memory-once state can =
    let stays = stays-line state can in
    all-share ShareNoMemoryBit (line state) stays (λ member other a b has has' own own' differ. memory-apart (line state) member other a b stays has has' own own' differ)
