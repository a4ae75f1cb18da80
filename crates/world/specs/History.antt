-- Trusted: what has happened: the flash at the start, and steps, newest first; the session that they end in, as its
-- keyboard has seen it; and what the host has heard.
use Rattle.shapes.specs.Shapes.{Bytes}
use Rattle.std.specs.Prelude.{Bool, not, Option, None, Some, List, [], ◌∷◌}
use Rattle.flash_model.specs.Sim.{SimValue}
use Rattle.keyboard.specs.Calls.{Call}
use Rattle.host.specs.Calls.{HostCall, lost}
use Rattle.world.specs.Heard.{heard, with_heard}
use Rattle.world.specs.Kinds.{Step, Kind, starts, calls, looks, kind}

-- the flash after these steps
abbrev pub flash_after : SimValue → List Step → SimValue
flash_after start [] = start
flash_after start (step ∷ before) = step.flash

-- its bytes
abbrev pub image_after : SimValue → List Step → Bytes
image_after start past = (flash_after start past).image

-- a session is what comes after a start, up to the next one: the image that the keyboard started on, and its calls since,
-- newest first
pub record Session : Type 0 where
  pub first : Bytes
  pub past : List Call

-- the session after a step of this kind, which leaves this image: a start begins one, and a look changes nothing
abbrev pub session_with : Kind → Bytes → Session → Session
session_with starts image before = record { first = image; past = [] }
session_with (calls call) image before = record { first = before.first; past = call ∷ before.past }
session_with looks image before = before

-- the session that a history ends in
abbrev pub session : SimValue → List Step → Session
session start [] = record { first = start.image; past = [] }
session start (step ∷ before) = session_with (kind step) step.flash.image (session start before)

-- what the host hears of a step: what it hears of a call, and that the keyboard was cut off
abbrev pub heard_in : Kind → Bool → Option HostCall
heard_in starts taken = Some lost
heard_in (calls call) taken = heard call taken
heard_in looks taken = None

-- all that the host has heard, over all sessions
abbrev pub host_calls : List Step → List HostCall
host_calls [] = []
host_calls (step ∷ before) = with_heard (heard_in (kind step) (not step.refused)) (host_calls before)

-- something holds of each step and of what came before it
abbrev pub EachStep : (SimValue → List Step → Step → Type 0) → SimValue → List Step → Type 0
EachStep P start [] = Unit {0}
EachStep P start (step ∷ before) = P start before step × EachStep P start before

-- something holds of a history at each of its points, from its first step on to its end
abbrev pub EachPoint : (SimValue → List Step → Type 0) → SimValue → List Step → Type 0
EachPoint P start [] = P start []
EachPoint P start (step ∷ before) = P start (step ∷ before) × EachPoint P start before
