use Rattle.std.proofs.Common.{◌/◌, ◌%◌, arith}
use Rattle.std.specs.Int.{bit_at}
use Rattle.hc_bits.proofs.Runs.{word-replaced}
use Rattle.hc_bits.proofs.run.put_bits.Goals as goal

pub returns-then-first-bytes : goal.returns-then-first-bytes
returns-then-first-bytes c =
    let a = c.args in
    let word = c.with_run-word.ensures in
    word-replaced a.bytes.now c.put_word.new.bytes (a.at / 8) a.at (a.at % 8) a.n c.with_run-word.result c.whole_word.result (bit_at a.value) (omega arith) (omega arith)
    c.put_word.ensures c.whole_word.ensures word.inside word.before word.after
