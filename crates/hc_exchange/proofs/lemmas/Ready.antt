-- A line whose blocks are written is programmed.
use Rattle.std.proofs.Common.{◌≡◌, ℕ, ◌<◌, ◌≤◌, ◌⊎◌, ◌∙◌, inl, inr, List, length, get_or, sym, subst, arith}
use Rattle.std.specs.Prelude.{All, None, Some, slice_get}
use Rattle.std.proofs.lemmas.Option.{get_or_from_slice_get, slice_get_cases, slice_get_within}
use Rattle.hc_bits.specs.Bits.{AreBytes}
use Rattle.hc_records.specs.Line.{Member, State, line}
use Rattle.hc_exchange.specs.PairLaws.{IsConfigurable}
use Rattle.hc_exchange.specs.Writing.{AreMachinesOf, IsProgrammed}
use Rattle.hc_exchange.specs.WritingLaws.{machines_written}
use Rattle.hc_exchange.proofs.lemmas.Programmed.{writing-bytes, writing-counts, writing-programs}
use Rattle.hc_exchange.specs.Carrying.{IsProgrammedMachine}
use Rattle.hc_exchange.specs.CarryingLaws.{WrittenLinesAreProgrammed}

programmed-at : (state : State) (machines : List (List ℕ)) (k : ℕ) (member : Member) (memory' : List ℕ) → IsConfigurable state → AreMachinesOf (line state) machines → All AreBytes machines
    → slice_get (line state) k ≡ Some member → slice_get (machines_written (line state) machines) k ≡ Some memory' → IsProgrammedMachine (line state) member memory'
programmed-at state machines k member memory' can are small is is' = by (slice_get_cases machines k).1
  where
    by : ((memory : List ℕ) × (k < length machines) × (slice_get machines k ≡ Some memory) × (get_or machines k memory ≡ memory)) ⊎ ((length machines ≤ k) × (slice_get machines k ≡ None))
        → IsProgrammedMachine (line state) member memory'
    by (inl found) =
        let written = writing-programs state machines k member found.0 can are is found.2 in
        let equal : Some written.written ≡ Some memory' = sym written.machine ∙ is' in
        let same : written.written ≡ memory' = cc in
        let all = machines_written (line state) machines in
        record {
          programmed = subst (IsProgrammed (line state) member) same written.programmed;
          all_bytes = subst AreBytes (get_or_from_slice_get all k memory' memory' is') (writing-bytes state machines can are small k memory' (slice_get_within all k memory' is'));
        }
    by (inr history) =
        let count = are.count in
        let beyond = history.0 in
        let within = slice_get_within (line state) k member is in
        absurd (omega arith)

pub written-programmed : WrittenLinesAreProgrammed
written-programmed state machines can are small = record {
  count = writing-counts state machines can are ∙ are.count;
  each = λ k member memory is is'. programmed-at state machines k member memory can are small is is';
}
