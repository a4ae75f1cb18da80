-- What endpoint 1 is, is what the history function says.
use Rattle.std.proofs.lemmas.Grind.{common_steps}
use Rattle.std.proofs.Common.{arith}
use Rattle.std.proofs.Common.{◌≡◌, ℕ, ◌==◌, ◌&&◌, ◌||◌, not, Bool, false, List, [], ◌∷◌, Option, Some, None, refl, sym, ap, subst, ◌∙◌, if◌then◌else◌}
use Rattle.usb_device.specs.declared.answer.EpAnswer.{EpAnswer}
use Rattle.usb_device.specs.declared.answer.Endpoint1.{Endpoint1}
use Rattle.usb_device.specs.declared.answer.Change.{Change}
use Rattle.usb_device.specs.Requests.{Lent, Served, Reads, SetupFields, request_of, served, served_if, device_status, names}
use Rattle.usb_device.specs.Events.{Event, SetupCame, OutCame, InAsked, PollAsked, ResetCame, SuspendCame, ResumeCame, WakeAsked, StatusSeen, ScanCame}
use Rattle.usb_device.specs.Steps.{Stage, Theirs, Sending, Status, Over, state_of, AllAnswered, InAnswer, after_in, after_out, first_stage, change_of, endpoint_then, renewed_then, wakeup_then, wakes}
use Rattle.usb_device.specs.States.{setup_in, is_empty_packet, change_in, completed, endpoint_by, has_renewed, wakeup_by, is_suspended, has_woken, wakes_by}

pub By : Lent → Stage → Option (List ℕ) → Endpoint1 → Type 0
By lent Theirs setup e = (bytes : List ℕ) → setup ≡ Some bytes → change_in (served lent e false (request_of bytes)) ≡ None
By lent (Sending data_ asked sent) setup e = (bytes : List ℕ) → setup ≡ Some bytes → change_in (served lent e false (request_of bytes)) ≡ None
By lent (Status change) setup e = (bytes : List ℕ) × (setup ≡ Some bytes) × (change_in (served lent e false (request_of bytes)) ≡ change)
By lent Over setup e = Unit {0}

begun_by : (lent : Lent) → (e : Endpoint1) (setup : List ℕ) (what : Option Served) (asked : ℕ) → change_in (served lent e false (request_of setup)) ≡ change_in what
    → By lent (first_stage what asked) (Some setup) e
unfolding By
begun_by lent e setup what asked h1 = grind (arith, common_steps)

-- what a request sets does not depend on whether remote wakeup is enabled
status_sets : (is_right : Bool) (data_ : List ℕ) → change_in (served_if is_right (Reads data_)) ≡ None
status_sets is_right data_ = grind (arith, common_steps)

row_sets : (is_row : Bool) (one other rest : Option Served) → change_in one ≡ change_in other → change_in (if is_row then one else rest) ≡ change_in (if is_row then other else rest)
row_sets is_row one other rest h1 = grind (arith, common_steps)

same_change : (lent : Lent) (e : Endpoint1) (wakeup : Bool) (r : SetupFields) → change_in (served lent e false r) ≡ change_in (served lent e wakeup r)
unfolding served
same_change lent e wakeup r =
    row_sets ((r.kind == 0x80) && (r.code == 0x00)) (device_status false r) (device_status wakeup r) _
    (status_sets (names r 0 0) _ ∙ sym (status_sets (names r 0 0) _))

after_out_by : (lent : Lent) → (stage : Stage) (setup : Option (List ℕ)) (e : Endpoint1) → By lent stage setup e → By lent (after_out stage) setup e
unfolding By
after_out_by lent stage setup e h1 = grind (arith, common_steps)

after_in_by : (lent : Lent) → (stage : Stage) (answer : EpAnswer) (setup : Option (List ℕ)) (e : Endpoint1) → By lent stage setup e
    → By lent (after_in stage answer) setup (endpoint_then e (change_of stage))
unfolding By
after_in_by lent stage answer setup e h1 = grind (arith, common_steps)

in_change : (lent : Lent) → (stage : Stage) (answer : EpAnswer) (setup : Option (List ℕ)) (e : Endpoint1) → By lent stage setup e → InAnswer stage answer
    → completed lent (is_empty_packet answer) setup e ≡ change_of stage
unfolding By
in_change lent stage answer setup e h1 h2 = grind (arith, common_steps)

pub record Standing (lent : Lent) (past : List Event) : Type 0 where
  pub endpoint : (state_of lent past).endpoint ≡ endpoint_by lent past
  pub by : By lent (state_of lent past).stage (setup_in past) (state_of lent past).endpoint
  pub renewed : (state_of lent past).renewed ≡ has_renewed lent past
  pub wakeup : (state_of lent past).wakeup ≡ wakeup_by lent past
  pub suspended : (state_of lent past).suspended ≡ is_suspended past
  pub woken : (state_of lent past).woken ≡ has_woken past

start_by : (lent : Lent) → (e : Endpoint1) → By lent Theirs None e
unfolding By
start_by lent e = λ bytes q. cc

pub same_lent : (lent : Lent) (past : List Event) → (state_of lent past).lent ≡ lent
unfolding state_of
same_lent lent [] = refl
same_lent lent (SetupCame bytes ∷ past) = same_lent lent past
same_lent lent (OutCame packet answer ∷ past) = same_lent lent past
same_lent lent (InAsked answer ∷ past) = same_lent lent past
same_lent lent (PollAsked answer ∷ past) = same_lent lent past
same_lent lent (ResetCame ∷ past) = same_lent lent past
same_lent lent (SuspendCame ∷ past) = same_lent lent past
same_lent lent (ResumeCame ∷ past) = same_lent lent past
same_lent lent (StatusSeen ∷ past) = same_lent lent past
same_lent lent (ScanCame ∷ past) = same_lent lent past
same_lent lent (WakeAsked has_report answer ∷ past) = same_lent lent past

-- what follows a change of the state follows that of the history function
followed_from : (lent : Lent) (past : List Event) (A : Type 0) (f : A → Option Change → A) (x y : A) (change : Option Change) (answer : EpAnswer)
    → change ≡ completed lent (is_empty_packet answer) (setup_in past) (state_of lent past).endpoint → (state_of lent past).endpoint ≡ endpoint_by lent past → x ≡ y
    → f x change ≡ f y (completed lent (is_empty_packet answer) (setup_in past) (endpoint_by lent past))
followed_from lent past A f x y change answer c e h =
    let setup = setup_in past in
    ap (λ z. f z change) h ∙ ap (λ z. f y z) (c ∙ ap (λ z. completed lent (is_empty_packet answer) setup z) e)

pub standing : (lent : Lent) (past : List Event) → AllAnswered lent past → Standing lent past
unfolding state_of endpoint_by has_renewed wakeup_by is_suspended has_woken
standing lent [] all = record { endpoint = refl; by = start_by lent _; renewed = refl; wakeup = refl; suspended = refl; woken = refl }
standing lent (SetupCame bytes ∷ past) all =
    let s = standing lent past all.1 in
    let e = (state_of lent past).endpoint in
    let w = (state_of lent past).wakeup in
    record { endpoint = s.endpoint; by = begun_by lent e bytes (served (state_of lent past).lent e w (request_of bytes)) (request_of bytes).size (same_change lent e w (request_of bytes) ∙ ap (λ x. change_in (served x e w (request_of bytes))) (sym (same_lent lent past))); renewed = refl; wakeup = s.wakeup; suspended = refl; woken = s.woken }
standing lent (OutCame packet answer ∷ past) all =
    let s = standing lent past all.1 in
    record { endpoint = s.endpoint; by = after_out_by lent (state_of lent past).stage (setup_in past) (state_of lent past).endpoint s.by; renewed = s.renewed; wakeup = s.wakeup; suspended = s.suspended; woken = s.woken }
standing lent (InAsked answer ∷ past) all =
    let s = standing lent past all.1 in
    let c = in_change lent (state_of lent past).stage answer (setup_in past) (state_of lent past).endpoint s.by all.0 in
    let P : Endpoint1 → Type 0 = λ e. endpoint_then (state_of lent past).endpoint (change_of (state_of lent past).stage) ≡ endpoint_then e (completed lent (is_empty_packet answer) (setup_in past) e) in
    record {
      endpoint = subst P s.endpoint (ap (λ change. endpoint_then (state_of lent past).endpoint change) (sym c));
      by = after_in_by lent (state_of lent past).stage answer (setup_in past) (state_of lent past).endpoint s.by;
      renewed = followed_from lent past Bool renewed_then (state_of lent past).renewed (has_renewed lent past) (change_of (state_of lent past).stage) answer (sym c) s.endpoint s.renewed;
      wakeup = followed_from lent past Bool wakeup_then (state_of lent past).wakeup (wakeup_by lent past) (change_of (state_of lent past).stage) answer (sym c) s.endpoint s.wakeup;
      suspended = s.suspended;
      woken = s.woken;
    }
standing lent (PollAsked answer ∷ past) all = let s = standing lent past all.1 in record { endpoint = s.endpoint; by = s.by; renewed = s.renewed; wakeup = s.wakeup; suspended = s.suspended; woken = s.woken }
standing lent (ResetCame ∷ past) all = record { endpoint = refl; by = start_by lent _; renewed = refl; wakeup = refl; suspended = refl; woken = refl }
standing lent (SuspendCame ∷ past) all =
    let s = standing lent past all.1 in
    record { endpoint = s.endpoint; by = s.by; renewed = s.renewed; wakeup = s.wakeup; suspended = refl; woken = refl }
standing lent (ResumeCame ∷ past) all =
    let s = standing lent past all.1 in
    record { endpoint = s.endpoint; by = s.by; renewed = s.renewed; wakeup = s.wakeup; suspended = refl; woken = s.woken }
standing lent (StatusSeen ∷ past) all = let s = standing lent past all.1 in record { endpoint = s.endpoint; by = s.by; renewed = s.renewed; wakeup = s.wakeup; suspended = s.suspended; woken = s.woken }
standing lent (ScanCame ∷ past) all = let s = standing lent past all.1 in record { endpoint = s.endpoint; by = s.by; renewed = s.renewed; wakeup = s.wakeup; suspended = s.suspended; woken = s.woken }
standing lent (WakeAsked has_report answer ∷ past) all =
    let s = standing lent past all.1 in
    record { endpoint = s.endpoint; by = s.by; renewed = s.renewed; wakeup = s.wakeup; suspended = s.suspended; woken = ap (λ x. x || answer) s.woken }

pub wakes_looked : (lent : Lent) (past : List Event) (has_report : Bool) → AllAnswered lent past → wakes (state_of lent past) has_report ≡ wakes_by lent past has_report
wakes_looked lent past has_report all =
    let s = standing lent past all in
    let n = state_of lent past in
    ap (λ x. x && not n.woken && n.wakeup && has_report) s.suspended ∙ (ap (λ x. is_suspended past && not x && n.wakeup && has_report) s.woken
    ∙ ap (λ x. is_suspended past && not (has_woken past) && x && has_report) s.wakeup)

-- what an answer sets
pub changes_looked : (lent : Lent) (past : List Event) (answer : EpAnswer) → AllAnswered lent (InAsked answer ∷ past)
    → completed lent (is_empty_packet answer) (setup_in past) (endpoint_by lent past) ≡ change_of (state_of lent past).stage
changes_looked lent past answer all =
    let s = standing lent past all.1 in
    sym (ap (λ e. completed lent (is_empty_packet answer) (setup_in past) e) s.endpoint)
    ∙ in_change lent (state_of lent past).stage answer (setup_in past) (state_of lent past).endpoint s.by all.0
