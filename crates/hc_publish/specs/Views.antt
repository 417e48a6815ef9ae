-- A view shows a sealed copy.
use Rattle.std.specs.Prelude.{◌≡◌, [], ◌∷◌}
use Rattle.left_right.specs.Sides.{view}
use Rattle.hc_publish.specs.declared.view.View.TheInside.{Inside}
use Rattle.hc_publish.specs.Rule.{IsSealed}
use Rattle.hc_publish.specs.Looks.{Look}

-- a view, as contracts see it
abbrev pub look_of : Inside → Look
look_of v = record { task = v.task; changes_since = v.reading.part.value.shown; token = v.reading.part.value.token }

-- the copy is sealed, and the seat knows its publication log
pub record IsSoundView (v : Inside) : Type 0 where
  pub is_sealed : IsSealed v.reading.part.value
  pub knows : view v.reading.place ≡ v.reading.part.value.token ∷ []
