-- The items of a ring of posts.
use Rattle.std.proofs.Common.{◌≡◌, ◌+◌, ◌<◌, Bool, true, false, List, [], ◌∷◌, ◌++◌, length, drop, refl, ap, sym, ◌∙◌, subst, arith}
use Rattle.std.proofs.lemmas.List.{append-nil, length-append, map-append, nil_from_length}
use mathlib.Core.List.{IsPrefix}
use Rattle.hc_rings.specs.Post.{Post}
use Rattle.hc_rings.specs.declared.item.Item.{Item}
use Rattle.hc_rings.specs.declared.item.Item.TheVariants.{Buffer, End}
use Rattle.hc_rings.specs.Items.{posts_of, is_open, items_of}

pub posts_of_append : (xs ys : List Item) → posts_of (xs ++ ys) ≡ posts_of xs ++ posts_of ys
posts_of_append [] ys = refl
posts_of_append (Buffer b ∷ xs) ys = ap (λ zs. b ∷ zs) (posts_of_append xs ys)
posts_of_append (End ∷ xs) ys = posts_of_append xs ys

-- a post keeps the ring open
pub is_open_post : (xs : List Item) (b : Post) → is_open xs ≡ true → is_open (xs ++ Buffer b ∷ []) ≡ true
is_open_post [] b none_yet = refl
is_open_post (Buffer c ∷ xs) b none_yet = is_open_post xs b none_yet
is_open_post (End ∷ xs) b none_yet = none_yet

-- what is before and after in an open ring is open
pub is_open_after : (xs ys : List Item) → is_open (xs ++ ys) ≡ true → is_open ys ≡ true
is_open_after [] ys none_yet = none_yet
is_open_after (Buffer b ∷ xs) ys none_yet = is_open_after xs ys none_yet
is_open_after (End ∷ xs) ys none_yet = absurd (cc)

pub is_open_before : (xs ys : List Item) → is_open (xs ++ ys) ≡ true → is_open xs ≡ true
is_open_before [] ys none_yet = refl
is_open_before (Buffer b ∷ xs) ys none_yet = is_open_before xs ys none_yet
is_open_before (End ∷ xs) ys none_yet = none_yet

-- an open ring has posts alone
pub length_posts_of : (xs : List Item) → is_open xs ≡ true → length (posts_of xs) ≡ length xs
length_posts_of [] none_yet = refl
length_posts_of (Buffer b ∷ xs) none_yet = omega (arith, length_posts_of xs none_yet)
length_posts_of (End ∷ xs) none_yet = absurd (cc)

pub posts_of_items : (posts : List Post) (ended : Bool) → posts_of (items_of posts ended) ≡ posts
posts_of_items [] false = refl
posts_of_items [] true = refl
posts_of_items (b ∷ posts) false = ap (λ zs. b ∷ zs) (posts_of_items posts false)
posts_of_items (b ∷ posts) true = ap (λ zs. b ∷ zs) (posts_of_items posts true)

-- an open ring, and the end after it
pub items_of_ended : (xs : List Item) → is_open xs ≡ true → xs ++ End ∷ [] ≡ items_of (posts_of (xs ++ End ∷ [])) true
items_of_ended [] none_yet = refl
items_of_ended (Buffer b ∷ xs) none_yet = ap (λ zs. Buffer b ∷ zs) (items_of_ended xs none_yet)
items_of_ended (End ∷ xs) none_yet = absurd (cc)

pub posts_of_ended : (xs : List Item) → posts_of (xs ++ End ∷ []) ≡ posts_of xs
posts_of_ended xs = posts_of_append xs (End ∷ []) ∙ append-nil (posts_of xs)

-- after the end the ring is not open
is_open_ended : (posts : List Post) → is_open (items_of posts true) ≡ false
is_open_ended [] = refl
is_open_ended (b ∷ posts) = is_open_ended posts

pub is_open_posts : (posts : List Post) → is_open (items_of posts false) ≡ true
is_open_posts [] = refl
is_open_posts (b ∷ posts) = is_open_posts posts

pub is_open_items : (posts : List Post) (ended : Bool) → is_open (items_of posts ended) ≡ true → ended ≡ false
is_open_items posts false none_yet = refl
is_open_items posts true none_yet = let shut = is_open_ended posts in absurd (cc)

pub posts_of_prefix : (xs ys : List Item) → IsPrefix xs ys → IsPrefix (posts_of xs) (posts_of ys)
posts_of_prefix xs ys h = (posts_of h.0, sym (posts_of_append xs h.0) ∙ ap posts_of h.1)

pub came_same : (xs ys : List Item) (ended : Bool) → ys ≡ xs → xs ≡ items_of (posts_of xs) ended → ys ≡ items_of (posts_of ys) ended
came_same xs ys ended same came = let P : List Item → Type 0 = λ zs. zs ≡ items_of (posts_of zs) ended in subst P (sym same) came

-- in an open ring the end did not come
pub none_ended : (xs : List Item) (ended : Bool) → xs ≡ items_of (posts_of xs) ended → is_open xs ≡ true → ended ≡ false
none_ended xs ended came none_yet = is_open_items (posts_of xs) ended (ap is_open (sym came) ∙ none_yet)

-- one post more came
pub came_post : (xs ys : List Item) (x : Item) (b : Post) (ended : Bool) → ended ≡ false → xs ≡ items_of (posts_of xs) ended → ys ≡ xs ++ x ∷ [] → x ≡ Buffer b → ys ≡ items_of (posts_of ys) ended
came_post xs ys x b ended not_yet came more is =
    let posts = posts_of_append xs (Buffer b ∷ []) in
    let one_more = map-append Buffer (posts_of xs) (b ∷ []) in
    let before : xs ≡ items_of (posts_of xs) false = let P : Bool → Type 0 = λ e. xs ≡ items_of (posts_of xs) e in subst P not_yet came in
    let after : ys ≡ items_of (posts_of ys) false = cc in
    let P : Bool → Type 0 = λ e. ys ≡ items_of (posts_of ys) e in subst P (sym not_yet) after

pub posts_of_post : (xs ys : List Item) (x : Item) (b : Post) → ys ≡ xs ++ x ∷ [] → x ≡ Buffer b → posts_of ys ≡ posts_of xs ++ b ∷ []
posts_of_post xs ys x b more is = let posts = posts_of_append xs (Buffer b ∷ []) in cc

pub known_post : (xs ys : List Item) (x : Item) (b : Post) → IsPrefix xs (x ∷ ys) → x ≡ Buffer b → IsPrefix (posts_of xs) (b ∷ posts_of ys)
known_post xs ys x b h is = posts_of_prefix xs (Buffer b ∷ ys) (h.0, h.1 ∙ ap (λ y. y ∷ ys) is)

-- the end came
pub came_end : (xs ys : List Item) (x : Item) (ended : Bool) → ended ≡ false → xs ≡ items_of (posts_of xs) ended → ys ≡ xs ++ x ∷ [] → x ≡ End → ys ≡ items_of (posts_of ys) true
came_end xs ys x ended not_yet came more is =
    let posts = posts_of_append xs (End ∷ []) ∙ append-nil (posts_of xs) in
    let before : xs ≡ items_of (posts_of xs) false = let P : Bool → Type 0 = λ e. xs ≡ items_of (posts_of xs) e in subst P not_yet came in cc

-- the end is no post
pub posts_of_end : (xs ys : List Item) (x : Item) → ys ≡ xs ++ x ∷ [] → x ≡ End → posts_of ys ≡ posts_of xs
posts_of_end xs ys x more is = ap posts_of (more ∙ ap (λ y. xs ++ y ∷ []) is) ∙ posts_of_append xs (End ∷ []) ∙ append-nil (posts_of xs)

-- after the end nothing comes
pub shut_by_end : (xs ys : List Item) (x : Item) → ys ≡ xs ++ x ∷ [] → x ≡ End → is_open ys ≡ true → ⊥
shut_by_end xs ys x more is none_yet =
    let same = is_open_after xs (End ∷ []) (ap is_open (sym (more ∙ ap (λ y. xs ++ y ∷ []) is)) ∙ none_yet) in absurd (cc)

-- no post is known before an end with nothing known after it
pub known_before_end : (known after_it : List Item) (x : Item) → IsPrefix known (x ∷ after_it) → x ≡ End → (0 < length after_it → false ≡ true) → posts_of known ≡ []
known_before_end known [] x h is none =
    let p = posts_of_prefix known (End ∷ []) (h.0, h.1 ∙ ap (λ y. y ∷ []) is) in
    nil_from_length (posts_of known) (omega (arith, ap length p.1, length-append (posts_of known) p.0))
known_before_end known (y ∷ after_it) x h is none = let no : false ≡ true = none (omega arith) in absurd (cc)

-- after the end nothing is sent
nothing_after : (posts all : List Post) (known : List Item) → items_of posts true ++ known ≡ items_of all true → known ≡ []
nothing_after [] [] known same = ap (drop 1) same
nothing_after [] (b ∷ all) known same = absurd (cc)
nothing_after (p ∷ posts) [] known same = absurd (cc)
nothing_after (p ∷ posts) (b ∷ all) known same = nothing_after posts all known (ap (drop 1) same)

length-items_of : (posts : List Post) → length (items_of posts true) ≡ length posts + 1
length-items_of [] = refl
length-items_of (p ∷ posts) = omega (arith, length-items_of posts)

length-open : (posts : List Post) → length (items_of posts false) ≡ length posts
length-open [] = refl
length-open (p ∷ posts) = omega (arith, length-open posts)

-- where the end is still to come, all that is sent besides are posts
pub known_posts : (items known whole : List Item) (ended : Bool) → ended ≡ false → items ≡ items_of (posts_of items) ended → items ++ known ≡ whole → whole ≡ items_of (posts_of whole) true
    → length (posts_of known) + 1 ≡ length known
known_posts items known whole true not_yet came sent all = absurd (cc)
known_posts items known whole false not_yet came sent all =
    omega (
      arith,
      ap length came,
      length-open (posts_of items),
      ap length all,
      length-items_of (posts_of whole),
      ap length sent,
      length-append items known,
      ap (λ xs. length (posts_of xs)) sent,
      ap length (posts_of_append items known),
      length-append (posts_of items) (posts_of known),
    )

-- where the end came, nothing else is sent
pub known_none : (items known whole : List Item) (ended : Bool) → items ≡ items_of (posts_of items) ended → items ++ known ≡ whole → whole ≡ items_of (posts_of whole) true → ended ≡ true → known ≡ []
known_none items known whole false came sent all ended = absurd (cc)
known_none items known whole true came sent all ended = nothing_after (posts_of items) (posts_of whole) known (ap (λ xs. xs ++ known) (sym came) ∙ sent ∙ all)
