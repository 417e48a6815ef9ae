-- A key's width among areas that may have other keys.
use Rattle.std.specs.Prelude.{All}
use Rattle.std.proofs.Common.{◌≡◌, Bool, true, false, List, [], ◌∷◌, ◌++◌, refl, sym, ◌∙◌}
use Rattle.std.proofs.lemmas.List.Elements.{All-head, All-tail}
use Rattle.hc_records.specs.declared.keys.Key.{Key}
use Rattle.hc_records.specs.Keys.{same_key}
use Rattle.hc_records.specs.TaskList.{Keyed}
use Rattle.hc_records.specs.Boundaries.{width_in}
use Rattle.hc_records.proofs.lemmas.Spans.{width-absent, width-here, width-skip}

-- no area of a list has the key
abbrev pub LacksKey : Key → List Keyed → Type 0
LacksKey key list = All (λ area. same_key area.0 key ≡ false) list

after_it-by : (same : Bool) (x : Keyed) (xs ys : List Keyed) (key : Key) → same_key x.0 key ≡ same → width_in (xs ++ ys) key ≡ width_in xs key
    → width_in (x ∷ (xs ++ ys)) key ≡ width_in (x ∷ xs) key
after_it-by true x xs ys key test rest = width-here x (xs ++ ys) key test ∙ sym (width-here x xs key test)
after_it-by false x xs ys key test rest = width-skip x (xs ++ ys) key test ∙ rest ∙ sym (width-skip x xs key test)

-- areas without the key change nothing, after others or before them

pub lacks-after_it : (xs ys : List Keyed) (key : Key) → LacksKey key ys → width_in (xs ++ ys) key ≡ width_in xs key
lacks-after_it [] ys key lacks = width-absent ys key lacks
lacks-after_it (x ∷ xs) ys key lacks = after_it-by (same_key x.0 key) x xs ys key refl (lacks-after_it xs ys key lacks)

pub lacks-before : (xs ys : List Keyed) (key : Key) → LacksKey key xs → width_in (xs ++ ys) key ≡ width_in ys key
lacks-before [] ys key lacks = refl
lacks-before (x ∷ xs) ys key lacks =
    width-skip x (xs ++ ys) key (All-head (λ area. same_key area.0 key ≡ false) x xs lacks)
    ∙ lacks-before xs ys key (All-tail (λ area. same_key area.0 key ≡ false) x xs lacks)
