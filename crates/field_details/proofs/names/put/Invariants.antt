use Rattle.std.proofs.Common.{◌≡◌, ◌-◌, ℕ, List, length, vec_len}
use Rattle.field_details.specs.representation.Named.{AreGiven}
use Rattle.field_details.proofs.names.put.Given as goal

-- an empty part gives no range
abbrev pub invariant-loop-parts : goal.invariant-loop-parts
invariant-loop-parts l = (ranges : List (ℕ × ℕ)) (given : List (List (ℕ × ℕ))) → l.place ≡ length given → AreGiven ranges l.fn.parts.items given → AreGiven ranges l.parts.items given

abbrev pub decreases-loop-parts : goal.decreases-loop-parts
decreases-loop-parts l = l.place - vec_len l.parts
