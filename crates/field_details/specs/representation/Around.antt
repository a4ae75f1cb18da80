-- Representation: the next collection outwards.
use Rattle.std.specs.Prelude.{ℕ, ◌+◌, List, slice_get, Option, Some, None, option_and_then}
use Rattle.field_details.specs.declared.collection.Collection.{Collection}
use Rattle.field_details.specs.Around.{less_than}

abbrev pub outer_in : List Collection → ℕ → Option ℕ
outer_in groups number = option_and_then (less_than number) (option_and_then (λ c. c.outer) (slice_get groups number))

-- a number and one more, 0 for none: it falls from one to the next
abbrev pub height : Option ℕ → ℕ
height None = 0
height (Some number) = number + 1
