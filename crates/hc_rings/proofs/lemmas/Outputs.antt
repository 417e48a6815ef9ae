-- The final state of a sender that holds a buffer of zeros, once the loan of the buffer's bytes is over.
use Rattle.std.proofs.Common.{◌≡◌, ℕ, List, Bool, true, false, not, T, replicate, refl, sym, ap, ◌∙◌, subst, true≢false}
use seplogic.Ra.Ura.{Ura}
use base.Fml.{GName}
use base.Logic.{ent, ex_i}
use denote.Follow.{follows_if, follows_so, such_by}
use denote.RattleType.{RattleType}
use mathlib.Core.Option as maybe
use types.Logic.{Logic, sem}
use Rattle.std.specs.Prelude.{Option, None, Some, IfSome, length, ◌+◌}
use Rattle.std.specs.Option.{option_map}
use Rattle.hc_rings.specs.Post.{Post, blank_post, post_count, post_with_written}
use Rattle.hc_rings.specs.Ring.{posted, HoldsPost}
use Rattle.hc_rings.specs.declared.posts.PostSender.{PostSender}

pub is_true : (b : Bool) → T b → b ≡ true
is_true true t = refl
is_true false t = absurd t

pub is_false : (b : Bool) → T (not b) → b ≡ false
is_false true t = absurd t
is_false false t = refl

one_as_before : (f : Post → Post) (held : Option Post) → post_count held ≡ post_count (option_map f held)
one_as_before f None = refl
one_as_before f (Some post) = refl

-- the sender still holds such a post, whatever is written over its bytes
pub left_outputs : (old now : PostSender) (epoch size : ℕ) (written : List ℕ) → HoldsPost old now (blank_post epoch size)
    → HoldsPost old (record now { held = option_map (λ post. post_with_written post written) now.held }) (post_with_written (blank_post epoch size) written)
left_outputs old now epoch size written h =
    let write : Post → Post = λ post. post_with_written post written in
    (h.0, h.1, (ap (option_map write) h.2.0, h.2.1), λ each. h.3 each ∙ ap (λ (k : ℕ). length (posted now) + k) (one_as_before write now.held))

-- what is lent of a blank post
pub zeros : (now : Option Post) (epoch size : ℕ) (bytes : List ℕ) → now ≡ Some (blank_post epoch size) → IfSome now (λ post. bytes ≡ post.bytes) → bytes ≡ replicate size 0
zeros now epoch size bytes e h = subst (λ (x : Option Post). IfSome x (λ post. bytes ≡ post.bytes)) e h

-- no answer is both
pub never : {A : Type 0} → false ≡ true → A
never e = absurd (true≢false (sym e))

-- a loan by a function is one by what holds of it
pub lends_so : {M : Type 1} {𝓤 : Ura M} (𝓛 : Logic 𝓤) (R U : RattleType) (γ : GName) (m : maybe.Option GName) (F : U.Denot → R.Denot) (v : R.Denot)
    (P : U.Denot → R.Denot → Type 0) (P₀ : R.Denot → Type 0) → ((w : U.Denot) → P w (F w)) → P₀ v
    → ent 𝓤 (sem 𝓛 (follows_if R U γ m F v)) (sem 𝓛 (follows_so R U γ m P P₀))
unfolding such_by
lends_so {𝓤 = 𝓤} 𝓛 R U γ m F v P P₀ p p₀ =
    ex_i 𝓤 (λ (y : (s : (U.Denot → R.Denot) × R.Denot) × ((w : U.Denot) → P w (s.0 w)) × P₀ s.1). sem 𝓛 (follows_if R U γ m y.0.0 y.0.1)) ((F, v), p, p₀)
