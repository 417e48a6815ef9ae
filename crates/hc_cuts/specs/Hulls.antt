-- The hulls of an edit of a task, by a test that its touched keys pass.
use Rattle.std.specs.Prelude.{◌≡◌, ◌&&◌, ◌||◌, Bool, true, false, Option, Some, None}
use Rattle.std.specs.Option.{is_none}
use Rattle.hc_records.specs.declared.records.Dir.{Dir}
use Rattle.hc_records.specs.declared.records.Dir.TheVariants.{Out, In}
use Rattle.hc_records.specs.declared.keys.Key.{Key}
use Rattle.hc_records.specs.Keys.{is_within}
use Rattle.hc_records.specs.Boundaries.{Interval}
use Rattle.hc_cuts.specs.declared.hulls.Hulls.{Hulls}

-- a key of a direction that passes a test
abbrev pub IsOf : (Key → Bool) → Dir → Key → Type 0
IsOf test dir key = (key.dir ≡ dir) × (test key ≡ true)

-- the least and the greatest such key
pub record IsHullOf (test : Key → Bool) (dir : Dir) (interval : Interval) : Type 0 where
  pub first : IsOf test dir interval.0
  pub last : IsOf test dir interval.1
  pub least : (key : Key) → IsOf test dir key → is_within interval.0 key ≡ true
  pub greatest : (key : Key) → IsOf test dir key → is_within key interval.1 ≡ true

-- there is no hull if no key passes the test
abbrev pub IsHull : (Key → Bool) → Dir → Option Interval → Type 0
IsHull test dir None = (key : Key) → key.dir ≡ dir → test key ≡ false
IsHull test dir (Some interval) = IsHullOf test dir interval

-- the hulls of all keys that pass a test: of the outputs, and of the inputs
pub record AreHulls (test : Key → Bool) (hulls : Hulls) : Type 0 where
  pub outputs : IsHull test Out hulls.outputs
  pub inputs : IsHull test In hulls.inputs

-- hulls of no key
abbrev pub no_hulls : Hulls
no_hulls = record { outputs = None; inputs = None }

-- there is a hull of neither direction
abbrev pub are_none : Hulls → Bool
are_none hulls = is_none hulls.outputs && is_none hulls.inputs

-- hulls after further keys: those of the keys before, and of these
abbrev pub TakeIn : Hulls → Hulls → (Key → Bool) → Type 0
TakeIn old new keys = (test : Key → Bool) → AreHulls test old → AreHulls (λ key. test key || keys key) new
