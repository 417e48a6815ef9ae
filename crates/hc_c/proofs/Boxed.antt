-- The opened line with its allocator, under the names that a walk over a box asks for.
use mathlib.Core.List.{[]}
use Rattle.std.proofs.Common.{◌≡◌, refl}
use Rattle.std.specs.Prelude.{IsSome, true, false}
use Rattle.std.specs.declared.option.Option.{Option}
use Rattle.std.specs.declared.option.Option.TheVariants.{None, Some}
use mir.Syntax.{impl, tnil, dnil}
use denote.Signature.{Slot, plain}
use Rattle.std_alloc.proofs.BoxSteps.Form.{Bx}
use Rattle.std_heap.specs.contracts.Global as allocator
use Rattle.std_heap.specs.contracts.GlobalAllocator.TheImpl as allocates
use Rattle.std_heap.proofs.Global.TheLaws as allocator_laws
use Rattle.hc_c.specs.contracts.embedded.Embedded as line
use Rattle.hc_c.proofs.embedded.Embedded.TheLaws as line_laws
use Rattle.hc_c.specs.contracts.handle.unboxed.Unboxed as unboxed
use Rattle.hc_c.specs.contracts.handle.Holding as holding

-- a box of it
abbrev pub Own : Bx
Own = record {
  row = line.the_row;
  laws = line_laws.the_row_laws;
  al = record { row = allocator.the_row; laws = allocator_laws.the_row_laws; g = allocates.ghosts; d = allocates.dict; drops = impl [] tnil dnil };
}

-- that box taken apart, and what C holds of it, as a function's first parameter
abbrev pub Apart : Slot 0
Apart = plain (λ _. unboxed.the_row line.the_row allocator.the_row allocates.ghosts)

abbrev pub Held : Slot 0
Held = plain (λ _. holding.the_row)

nothing_there : false ≡ true → ⊥
nothing_there e = cc

-- what is there, where something is
pub some_of : {X : Type 0} (o : Option X) → IsSome o → (x : X) × (o ≡ Some x)
some_of (Some x) is = (x, refl)
some_of None is = absurd (nothing_there is)
