-- The items of a ring of posts: posts, and after the last of them the end.
use Rattle.std.specs.Prelude.{◌≡◌, ◌-◌, Bool, true, false, List, [], ◌∷◌, ◌++◌, length, map, take}
use Rattle.hc_rings.specs.Post.{Post}
use Rattle.hc_rings.specs.declared.item.Item.{Item}
use Rattle.hc_rings.specs.declared.item.Item.TheVariants.{Buffer, End}

-- the posts among the items, in order
abbrev pub posts_of : List Item → List Post
posts_of [] = []
posts_of (Buffer post ∷ items) = post ∷ posts_of items
posts_of (End ∷ items) = posts_of items

-- no end is among the items
abbrev pub is_open : List Item → Bool
is_open [] = true
is_open (Buffer post ∷ items) = is_open items
is_open (End ∷ items) = false

-- nothing follows the end
abbrev pub EndIsLast : List Item → Item → Type 0
EndIsLast before item = is_open before ≡ true

-- the items of a ring through which these posts went, and after them its end or not yet
abbrev pub items_of : List Post → Bool → List Item
items_of posts false = map Buffer posts
items_of posts true = map Buffer posts ++ End ∷ []

-- the first of some posts, without as many of the last as there are others
abbrev pub all_but : List Post → List Post → List Post
all_but last posts = take (length posts - length last) posts
