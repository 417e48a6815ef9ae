-- What one pass over the datagrams finds is what the conditions look at.
use Rattle.std.proofs.Common.{◌≡◌, ℕ, ◌+◌, ◌<◌, Bool, true, false, ◌&&◌, ◌||◌, not, nat_lt, List, [], ◌∷◌, length, drop, refl, ap, ◌∙◌, sym, arith, Some, None, zero-add}
use Rattle.std.specs.List.{list_all, list_any}
use Rattle.std.proofs.Math.Bool.{or-false, or_assoc}
use Rattle.std.proofs.lemmas.Bool.{and_parts, not-false, not-true}
use Rattle.std.proofs.lemmas.Option.{same_Some}
use Rattle.hc_records.proofs.lemmas.Choices.{by_bool}
use Rattle.hc_frames.specs.declared.reading.datagrams.Survey.{Survey}
use Rattle.hc_frames.specs.Arrived.{circulates, data_size, datagram_tails, fill_region, has_other_index, is_unknown, is_whole, more_at_end, more_between, says_more}
use Rattle.hc_frames.specs.Survey.{noted, nothing_seen, surveyed}
use Rattle.hc_frames.proofs.lemmas.Datagrams.{datagrams-some}

-- one step of the pass
pub survey_goes : (index : ℕ) (seen : Survey) (bytes : List ℕ) → 0 < length bytes → seen.more ≡ true → is_whole bytes ≡ true
    → surveyed index seen (datagram_tails bytes) ≡ surveyed index (noted index seen bytes) (datagram_tails (drop (12 + data_size bytes) bytes))
survey_goes index seen bytes some more whole = ap (surveyed index seen) (datagrams-some bytes some) ∙ rw (more, whole) refl

pub survey_unpromised : (index : ℕ) (seen : Survey) (bytes : List ℕ) → 0 < length bytes → seen.more ≡ false → surveyed index seen (datagram_tails bytes) ≡ None
survey_unpromised index seen bytes some more = ap (surveyed index seen) (datagrams-some bytes some) ∙ rw more refl

pub survey_unwhole : (index : ℕ) (seen : Survey) (bytes : List ℕ) → 0 < length bytes → seen.more ≡ true → is_whole bytes ≡ false → surveyed index seen (datagram_tails bytes) ≡ None
survey_unwhole index seen bytes some more whole = ap (surveyed index seen) (datagrams-some bytes some) ∙ rw (more, whole) refl

-- each is promised by the one before it, the first one by the flag
abbrev chain : Bool → List (List ℕ) → Bool
chain promised [] = true
chain promised (d ∷ ds) = promised && chain (says_more d) ds

abbrev last_more : Bool → List (List ℕ) → Bool
last_more promised [] = promised
last_more promised (d ∷ ds) = last_more (says_more d) ds

chain_between : (d : List ℕ) (ds : List (List ℕ)) → chain (says_more d) ds ≡ more_between (d ∷ ds)
chain_between d [] = refl
chain_between d (e ∷ ds) = ap (λ (b : Bool). says_more d && b) (chain_between e ds)

chain_all : (ds : List (List ℕ)) → chain true ds ≡ more_between ds
chain_all [] = refl
chain_all (d ∷ ds) = chain_between d ds

last_end : (d : List ℕ) (ds : List (List ℕ)) → last_more (says_more d) ds ≡ more_at_end (d ∷ ds)
last_end d [] = refl
last_end d (e ∷ ds) = last_end e ds

-- what the pass leaves where it comes to the end
abbrev after : ℕ → Survey → List (List ℕ) → Survey
after index seen ds = record {
  count = seen.count + length ds;
  circulates = seen.circulates || list_any circulates ds;
  more = last_more seen.more ds;
  unknown = seen.unknown || list_any is_unknown ds;
  mismatch = seen.mismatch || list_any (has_other_index index) ds;
}

after_none : (index : ℕ) (seen : Survey) → after index seen [] ≡ seen
after_none index seen =
    let count : seen.count + 0 ≡ seen.count = omega arith in
    let a : (seen.circulates || false) ≡ seen.circulates = or-false seen.circulates in
    let b : (seen.unknown || false) ≡ seen.unknown = or-false seen.unknown in
    let c : (seen.mismatch || false) ≡ seen.mismatch = or-false seen.mismatch in
    ap (λ (n : ℕ). record { count = n; circulates = seen.circulates || false; more = seen.more; unknown = seen.unknown || false; mismatch = seen.mismatch || false }) count
    ∙ ap (λ (x : Bool). record { count = seen.count; circulates = x; more = seen.more; unknown = seen.unknown || false; mismatch = seen.mismatch || false }) a
    ∙ ap (λ (x : Bool). record { count = seen.count; circulates = seen.circulates; more = seen.more; unknown = x; mismatch = seen.mismatch || false }) b
    ∙ ap (λ (x : Bool). record { count = seen.count; circulates = seen.circulates; more = seen.more; unknown = seen.unknown; mismatch = x }) c

after_some : (index : ℕ) (seen : Survey) (d : List ℕ) (ds : List (List ℕ)) → after index (noted index seen d) ds ≡ after index seen (d ∷ ds)
after_some index seen d ds =
    let more : Bool = last_more (says_more d) ds in
    let n : ℕ = seen.count + 1 + length ds in
    let a : Bool = (seen.circulates || circulates d) || list_any circulates ds in
    let b : Bool = (seen.unknown || is_unknown d) || list_any is_unknown ds in
    let c : Bool = (seen.mismatch || has_other_index index d) || list_any (has_other_index index) ds in
    let count : n ≡ seen.count + length (d ∷ ds) = omega arith in
    let a' : a ≡ (seen.circulates || list_any circulates (d ∷ ds)) = or_assoc seen.circulates (circulates d) (list_any circulates ds) in
    let b' : b ≡ (seen.unknown || list_any is_unknown (d ∷ ds)) = or_assoc seen.unknown (is_unknown d) (list_any is_unknown ds) in
    let c' : c ≡ (seen.mismatch || list_any (has_other_index index) (d ∷ ds)) = or_assoc seen.mismatch (has_other_index index d) (list_any (has_other_index index) ds) in
    ap (λ (k : ℕ). record { count = k; circulates = a; more = more; unknown = b; mismatch = c }) count
    ∙ ap (λ (x : Bool). record { count = seen.count + length (d ∷ ds); circulates = x; more = more; unknown = b; mismatch = c }) a'
    ∙ ap (λ (x : Bool). record { count = seen.count + length (d ∷ ds); circulates = seen.circulates || list_any circulates (d ∷ ds); more = more; unknown = x; mismatch = c }) b'
    ∙ ap (λ (x : Bool). record { count = seen.count + length (d ∷ ds); circulates = seen.circulates || list_any circulates (d ∷ ds); more = more; unknown = seen.unknown || list_any is_unknown (d ∷ ds); mismatch = x }) c'

-- the pass comes to the end where all are whole and promised
passes : (index : ℕ) (seen : Survey) (ds : List (List ℕ)) → list_all is_whole ds ≡ true → chain seen.more ds ≡ true → surveyed index seen ds ≡ Some (after index seen ds)
passes index seen [] whole promised = ap Some (sym (after_none index seen))
passes index seen (d ∷ ds) whole promised =
    by_bool seen.more
    (λ m. by_bool (is_whole d)
    (λ w. let others : list_all is_whole ds ≡ true = rw w at whole in
    let rest : chain (says_more d) ds ≡ true = rw m at promised in
    let there : surveyed index (noted index seen d) ds ≡ Some (after index (noted index seen d) ds) = passes index (noted index seen d) ds others rest in
    rw (m, w) (there ∙ ap Some (after_some index seen d ds)))
    (λ w. let wrong : false ≡ true = rw w at whole in absurd (cc)))
    (λ m. let wrong : false ≡ true = rw m at promised in absurd (cc))

stops : (index : ℕ) (seen : Survey) (ds : List (List ℕ)) → (list_all is_whole ds && chain seen.more ds) ≡ false → surveyed index seen ds ≡ None
stops index seen [] wrong = absurd (cc)
stops index seen (d ∷ ds) wrong =
    by_bool seen.more
    (λ m. by_bool (is_whole d)
    (λ w. let rest : (list_all is_whole ds && chain (says_more d) ds) ≡ false = rw (w, m) at wrong in
    let there : surveyed index (noted index seen d) ds ≡ None = stops index (noted index seen d) ds rest in
    rw (m, w) there)
    (λ w. rw (m, w) refl))
    (λ m. rw m refl)

-- what a pass over all of them says
pub record Found (index : ℕ) (ds : List (List ℕ)) (seen : Survey) : Type 0 where
  pub count : seen.count ≡ length ds
  pub whole : list_all is_whole ds ≡ true
  pub between : more_between ds ≡ true
  pub circulates : seen.circulates ≡ list_any circulates ds
  pub more : 0 < length ds → seen.more ≡ more_at_end ds
  pub unknown : seen.unknown ≡ list_any is_unknown ds
  pub mismatch : seen.mismatch ≡ list_any (has_other_index index) ds

end_more : (ds : List (List ℕ)) → 0 < length ds → last_more true ds ≡ more_at_end ds
end_more [] some = absurd (omega arith)
end_more (d ∷ ds) some = last_end d ds

and_wrong : (a : Bool) → (a && false) ≡ false
and_wrong true = refl
and_wrong false = refl

none_some : {seen : Survey} → None ≡ Some seen → ⊥
none_some e = cc

pub found : (index : ℕ) (ds : List (List ℕ)) (seen : Survey) → surveyed index nothing_seen ds ≡ Some seen → Found index ds seen
found index ds seen e =
    by_bool (list_all is_whole ds && more_between ds)
    (λ good.
    let whole : list_all is_whole ds ≡ true = (and_parts _ _ good).0 in
    let between : more_between ds ≡ true = (and_parts _ _ good).1 in
    let same : seen ≡ after index nothing_seen ds = same_Some _ _ (sym e ∙ passes index nothing_seen ds whole (chain_all ds ∙ between)) in
    record {
      count = ap (λ (s : Survey). s.count) same ∙ zero-add (length ds);
      whole = whole;
      between = between;
      circulates = ap (λ (s : Survey). s.circulates) same;
      more = λ some. ap (λ (s : Survey). s.more) same ∙ end_more ds some;
      unknown = ap (λ (s : Survey). s.unknown) same;
      mismatch = ap (λ (s : Survey). s.mismatch) same;
    })
    (λ bad. let none : surveyed index nothing_seen ds ≡ None = stops index nothing_seen ds (ap (λ (b : Bool). list_all is_whole ds && b) (chain_all ds) ∙ bad) in absurd (cc))

pub not_found : (index : ℕ) (ds : List (List ℕ)) → surveyed index nothing_seen ds ≡ None → fill_region ds ≡ false
not_found index ds e =
    by_bool (list_all is_whole ds && more_between ds)
    (λ good.
    absurd (none_some (sym e ∙ passes index nothing_seen ds (and_parts _ _ good).0 (chain_all ds ∙ (and_parts _ _ good).1))))
    (λ bad. rw bad (and_wrong (nat_lt 0 (length ds))))
