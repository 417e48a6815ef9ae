-- Posts and buffers as numbers: another value of a constant is refused here.
use Rattle.std.specs.Prelude.{◌≡◌, refl}
use Rattle.hc_rings.specs.declared.posts.TheConstants.{POSTS_WAITING, SPARE_BUFFERS}
use Rattle.hc_rings.specs.declared.post_buffer.TheConstants.{LARGEST_IMAGE}

-- at most four posts of a task wait (this project's profile)
posts-waiting : POSTS_WAITING ≡ 4
posts-waiting = refl

-- four buffers are made for them
spare-buffers : SPARE_BUFFERS ≡ 4
spare-buffers = refl

-- a task's outputs have at most 16 datagrams of 1,486 bytes
largest-image : LARGEST_IMAGE ≡ 23776
largest-image = refl
