-- The first of several datagrams, and those after it.
use Rattle.std.proofs.Common.{◌≡◌, ◌∙◌, ◌+◌, ◌-◌, ◌<◌, ◌≤◌, ℕ, Bool, false, List, [], ◌∷◌, ◌++◌, sym, ap, arith, length, map, get_or, take, drop, append-nil}
use Rattle.std.specs.Prelude.{All, not, ◌==◌}
use Rattle.std.proofs.Math.Seq.{take-length}
use Rattle.std.proofs.lemmas.Bool.{ne_eqb}
use Rattle.std.proofs.lemmas.List.Elements.{All-same, All-tail}
use Rattle.std.proofs.lemmas.List.Sums.{sum_by-cons}
use Rattle.hc_records.specs.declared.limits.TheConstants.{TASKS}
use Rattle.hc_frames.specs.FrameText.{sent_datagram_text, sent_datagrams_text}
use Rattle.hc_events.specs.Sendings.{Named}
use Rattle.hc_sendings.specs.Texts.{Data, datagram_with_data, carried_bytes}

abbrev pub others : List Named → List Named
others datagrams = take (length datagrams - 1) (drop 1 datagrams)

pub others-is : (datagram : Named) (datagrams : List Named) → others (datagram ∷ datagrams) ≡ datagrams
others-is datagram datagrams =
    let less : length (datagram ∷ datagrams) - 1 ≡ length datagrams = omega arith in
    ap (λ (n : ℕ). take n datagrams) less ∙ take-length datagrams

pub others-known : (datagrams : List Named) → 1 ≤ length datagrams → All (λ named. named.0 < TASKS) datagrams → All (λ named. named.0 < TASKS) (others datagrams)
others-known [] some all = absurd (omega (arith, some))
others-known (datagram ∷ datagrams) some all =
    All-same (λ (named : Named). named.0 < TASKS) (others (datagram ∷ datagrams)) datagrams (others-is datagram datagrams) (All-tail (λ (named : Named). named.0 < TASKS) datagram datagrams all)

pub first-bytes : (bytes : Data) (datagrams : List Named) → 1 ≤ length datagrams
    → carried_bytes bytes datagrams ≡ 12 + length (bytes (get_or datagrams 0 (0, 0)).0 (get_or datagrams 0 (0, 0)).1) + carried_bytes bytes (others datagrams)
first-bytes bytes [] some = absurd (omega (arith, some))
first-bytes bytes (datagram ∷ datagrams) some =
    sum_by-cons (λ (named : Named). 12 + length (bytes named.0 named.1)) datagram datagrams
    ∙ ap (λ (names : List Named). 12 + length (bytes datagram.0 datagram.1) + carried_bytes bytes names) (sym (others-is datagram datagrams))

pub spelled : (bytes : Data) (serial : ℕ) (datagram : Named) (datagrams : List Named)
    → sent_datagram_text serial (not (length datagrams == 0)) (datagram_with_data bytes datagram) ++ sent_datagrams_text serial (map (datagram_with_data bytes) datagrams)
    ≡ sent_datagrams_text serial (map (datagram_with_data bytes) (datagram ∷ datagrams))
spelled bytes serial datagram [] = append-nil (sent_datagram_text serial false (datagram_with_data bytes datagram))
spelled bytes serial datagram (next ∷ datagrams) =
    let more : (length (next ∷ datagrams) == 0) ≡ false = ne_eqb (length (next ∷ datagrams)) 0 (λ none. omega (arith, none)) in
    ap (λ (last : Bool). sent_datagram_text serial (not last) (datagram_with_data bytes datagram) ++ sent_datagrams_text serial (map (datagram_with_data bytes) (next ∷ datagrams))) more

pub first-text : (bytes : Data) (serial : ℕ) (datagrams : List Named) → 1 ≤ length datagrams
    → sent_datagram_text serial (not (length (others datagrams) == 0)) (datagram_with_data bytes (get_or datagrams 0 (0, 0))) ++ sent_datagrams_text serial (map (datagram_with_data bytes) (others datagrams))
    ≡ sent_datagrams_text serial (map (datagram_with_data bytes) datagrams)
first-text bytes serial [] some = absurd (omega (arith, some))
first-text bytes serial (datagram ∷ datagrams) some =
    ap (λ (names : List Named). sent_datagram_text serial (not (length names == 0)) (datagram_with_data bytes datagram) ++ sent_datagrams_text serial (map (datagram_with_data bytes) names)) (others-is datagram datagrams)
    ∙ spelled bytes serial datagram datagrams
