-- The invariant of a field.
use Rattle.std.specs.Prelude.{[], Some, None, Option}
use Rattle.guarantee.specs.Bounds.{Bounded}
use Rattle.field.specs.declared.open_field.OpenField.{OpenField}
use Rattle.field.specs.Views.{state_of}

-- the numbers of an open field are within their bounds, whatever log and table it is lent
abbrev pub BoundsHold : Option OpenField → Type 0
BoundsHold None = Unit {0}
BoundsHold (Some f) = Bounded (state_of f [] [])

-- the same, as a fact that has one proof
abbrev pub InBounds : Option OpenField → Type 0
InBounds f = ∥ BoundsHold f ∥₁
