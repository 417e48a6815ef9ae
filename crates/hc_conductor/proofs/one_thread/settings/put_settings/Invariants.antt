use Rattle.std.proofs.Common.{◌≡◌, ℕ, drop, length}
use Rattle.std.specs.List.{fold}
use Rattle.hc_bits.specs.Bits.{AreBytes, bit_of}
use Rattle.hc_publish.specs.ChangesSince.{table_shown}
use Rattle.hc_conductor.specs.Views.{answered_to}
use Rattle.hc_conductor.specs.Posting.{first_refused, set_bit}
use Rattle.hc_conductor.proofs.one_thread.settings.put_settings.Given as goal

-- the values that are left decide, and once they are set too all are
abbrev pub invariant-loop-setting : goal.invariant-loop-setting
invariant-loop-setting l = record {
  judged : first_refused (table_shown (answered_to l.view)) l.task (drop l.setting-index l.settings) ≡ first_refused (table_shown (answered_to l.view)) l.task l.settings;
  bits : (k : ℕ)
      → fold (set_bit (table_shown (answered_to l.view)) k) (bit_of l.bytes k) (drop l.setting-index l.settings)
      ≡ fold (set_bit (table_shown (answered_to l.view)) k) (bit_of l.fn.bytes k) l.settings;
  size : length l.bytes ≡ length l.fn.bytes;
  all_bytes : AreBytes l.bytes;
}
