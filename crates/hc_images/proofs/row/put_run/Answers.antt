use Rattle.std.proofs.Common.{ℕ, subst}
use Rattle.std.specs.Int.{bit_at}
use Rattle.hc_bits.specs.Bits.{ReplacesRun}
use Rattle.hc_images.proofs.Masks.{run-answer_given}
use Rattle.hc_images.proofs.row.put_run.Goals as goal

pub returns-clause-put : goal.returns-clause-put
returns-clause-put c =
    run-answer_given c.args.bytes.now c.put_bits.new.bytes c.args.at c.args.bits (bit_at c.lowest.result) (bit_at c.args.value) c.lowest.ensures.bits
    (subst (λ (n : ℕ). ReplacesRun c.args.bytes.now c.put_bits.new.bytes c.args.at n (bit_at c.lowest.result)) c.from.ensures c.put_bits.ensures)

pub returns-clause-bytes : goal.returns-clause-bytes
returns-clause-bytes c = λ i low. (c.type_inv.bytes i).fits
