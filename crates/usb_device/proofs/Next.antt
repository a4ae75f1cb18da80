-- What stands after one more event.
use Rattle.std.proofs.Common.{◌≡◌, List, ◌∷◌, ap, subst, ◌∙◌}
use Rattle.usb_device.specs.Calls.{EpCall}
use Rattle.usb_device.specs.Requests.{Lent}
use Rattle.usb_device.specs.Events.{Event}
use Rattle.usb_device.specs.Steps.{LayerState, state_then, state_of, IsAnswered, calls_then, session}
use Rattle.usb_device.specs.representation.Relation.{Refines}

pub next : (lent : Lent) (past : List Event) (s new : LayerState) (event : Event) → Refines lent past s → IsAnswered s event → new ≡ state_then s event
    → Refines lent (event ∷ past) new
unfolding state_of
next lent past s new event h a e =
    let P : LayerState → Type 0 = λ x. IsAnswered x event in
    record {
      answered = (subst P h.state a, h.answered);
      state = e ∙ ap (λ x. state_then x event) h.state;
    }

session-is : (lent : Lent) (past : List Event) (s : LayerState) (event : Event) → Refines lent past s → calls_then s event (session lent past) ≡ session lent (event ∷ past)
unfolding session
session-is lent past s event h = ap (λ x. calls_then x event (session lent past)) h.state

pub called : {A : Type 0} (refines : List EpCall → A → Type 0) (behind : A) (lent : Lent) (past : List Event) (s : LayerState) (event : Event)
    → Refines lent past s → refines (calls_then s event (session lent past)) behind → refines (session lent (event ∷ past)) behind
called refines behind lent past s event h c =
    let P : List EpCall → Type 0 = λ calls. refines calls behind in
    subst P (session-is lent past s event h) c
