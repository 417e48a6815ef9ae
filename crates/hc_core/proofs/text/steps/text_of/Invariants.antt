use Rattle.std.proofs.Common.{◌≡◌, take}
use Rattle.hc_core.specs.Texts.{text_bytes}
use Rattle.hc_core.proofs.text.steps.text_of.Given as goal

abbrev pub invariant-loop-byte : goal.invariant-loop-byte
invariant-loop-byte l = text_bytes l.text ≡ take l.byte-index l.bytes
