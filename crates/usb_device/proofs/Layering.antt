-- What keeps a device with its layer and its buffers in step.
use Rattle.std.proofs.lemmas.Grind.{common_steps}
use Rattle.std.proofs.Common.{arith}
use Rattle.std.proofs.Common.{◌≡◌, ◌⊎◌, inl, inr, ℕ, Bool, true, false, List, [], ◌∷◌, ◌++◌, Option, Some, None, refl, sym, ap, subst, ◌∙◌, append_assoc}
use Rattle.usb_device.specs.declared.answer.Endpoint1.{Endpoint1}
use Rattle.usb_device.specs.declared.answer.Change.{Change}
use Rattle.usb_device.specs.declared.answer.Change.TheVariants.{Address, Endpoint, Wakeup}
use Rattle.usb_device.specs.declared.answer.EpAnswer.TheVariants.{Ack, Nak, Packet, Stall}
use Rattle.usb_device.specs.Calls.{EpCall, SetUp, Out, In, Polled, BusReset}
use Rattle.usb_device.specs.Bus.{Seen}
use Rattle.usb_device.specs.Confirmed.{asked_of, taken_of, ConfirmedBefore}
use Rattle.usb_device.specs.Given.{given_of, WereGiven}
use Rattle.usb_device.specs.Events.{Event, SuspendCame, ResumeCame, WakeAsked, StatusSeen, ScanCame}
use Rattle.usb_device.specs.Requests.{Lent}
use Rattle.usb_device.specs.Steps.{LayerState, session, state_of, renewed_then}
use Rattle.usb_device.specs.representation.Relation.{Refines}
use Rattle.usb_device.specs.Through.{calls_of}
use Rattle.usb_device.specs.representation.Layered.{PolledOnce, endpoint_set}
use Rattle.usb_device.specs.Bus1.{Bus1, Got, New, Anew, GivenUp, Known, Happens1, takes, loses, host_begins, resets1, Goes1, Does1, happens1, looks1, fills1, Through1, IsMarked, Looked1, agree, received, reported, unless_reset, filled, given_up, anew, known_if, no_polls, marks, Told, Is, HostBegan, told_of, InOrder, told, unheard, IsKnown}
use Rattle.usb_device.specs.representation.Link1.{InStep, KeepsMarks, KeepsStates, Leaves, Bides}
use Rattle.usb_device.proofs.Linked.{takes_as}
use Rattle.usb_device.proofs.Standing.{were_now}

-- what came beside packets
pub marks_then : (b mid new : Bus1) → KeepsMarks b mid → KeepsMarks mid new → KeepsMarks b new
marks_then b mid new k m r = let y = m r in let x = k y.0 in (x.0, y.1 ∙ x.1)

marks_received : (a : Bool) (packet : List ℕ) (got : List Got) → marks (received a packet got) ≡ marks got
marks_received true packet got = refl
marks_received false packet got = refl

marks_step1 : (b next : Bus1) → Happens1 b next → KeepsMarks b next
marks_step1 b next (takes packet rest i e) = λ r. (sym (ap (λ (x : Bus1). x.reset) e) ∙ r, ap (λ (x : Bus1). marks x.got) e ∙ marks_received (agree b) packet b.got)
marks_step1 b next (loses packet rest i e) = λ r. (sym (ap (λ (x : Bus1). x.reset) e) ∙ r, ap (λ (x : Bus1). marks x.got) e ∙ marks_received (agree b) packet b.got)
marks_step1 b next (host_begins o e) = λ r. (sym (ap (λ (x : Bus1). x.reset) e) ∙ r, ap (λ (x : Bus1). marks x.got) e)
marks_step1 b next (resets1 e) = λ r. absurd (let x : true ≡ false = sym (ap (λ (y : Bus1). y.reset) e) ∙ r in cc)

filled_by_marks : (reset : Bool) (b other : Bus1) → other.reset ≡ b.reset → other.got ≡ b.got → KeepsMarks b (unless_reset reset b other)
filled_by_marks true b other e f = λ r. (r, refl)
filled_by_marks false b other e f = λ r. (sym e ∙ r, ap (λ x. marks x) f)

does_marks : (b next : Bus1) → Does1 b next → KeepsMarks b next
does_marks b next (happens1 h) = marks_step1 b next h
does_marks b next (looks1 e) = let P : Bus1 → Type 0 = λ x. KeepsMarks b x in subst P (sym e) (λ r. (r, refl))
does_marks b next (fills1 packet e) = let P : Bus1 → Type 0 = λ x. KeepsMarks b x in subst P (sym e) (filled_by_marks b.reset b _ refl refl)

pub through_marks : (steps : List Bus1) (b next : Bus1) → Through1 steps b next → KeepsMarks b next
through_marks [] b next e = λ r. (sym (ap (λ (x : Bus1). x.reset) e) ∙ r, ap (λ (x : Bus1). marks x.got) e)
through_marks (mid ∷ rest) b next g = marks_then b mid next (does_marks b mid g.0) (through_marks rest mid next g.1)

-- what is done to the buffers
pub through_then : (steps rest : List Bus1) (b mid new : Bus1) → Through1 steps b mid → Through1 rest mid new → Through1 (steps ++ rest) b new
through_then [] rest b mid new e r = let P : Bus1 → Type 0 = λ x. Through1 rest x new in subst P e r
through_then (next ∷ steps) rest b mid new g r = (g.0, through_then steps rest next mid new g.1 r)

pub goes_through : (steps : List Bus1) (b next : Bus1) → Goes1 steps b next → Through1 steps b next
goes_through [] b next e = e
goes_through (mid ∷ rest) b next g = (happens1 g.0, goes_through rest mid next g.1)

pub filled_through : (steps : List Bus1) (b mid new : Bus1) (packet : List ℕ) → Goes1 steps b mid → new ≡ filled mid packet
    → (all : List Bus1) × Through1 all b new
filled_through steps b mid new packet g e = (steps ++ new ∷ [], through_then steps (new ∷ []) b mid new (goes_through steps b mid g) (fills1 packet e, refl))

leaves_then : (b mid new : Bus1) → mid.reset ≡ false → new.reset ≡ false → Leaves b mid → Leaves mid new → Leaves b new
leaves_then b mid new m r (inl x) (inl y) =
    inl (y.0, y.1 ++ x.0 ∷ x.1, y.2 ∙ ap (λ z. (y.0 ∷ y.1) ++ z) x.2 ∙ sym (append_assoc (y.0 ∷ y.1) (x.0 ∷ x.1) (marks b.got)))
leaves_then b mid new m r (inl x) (inr y) = inl (x.0, x.1, (through_marks y.0 mid new y.1 r).1 ∙ x.2)
leaves_then b mid new m r (inr x) (inl y) = inl (y.0, y.1, y.2 ∙ ap (λ z. (y.0 ∷ y.1) ++ z) (through_marks x.0 b mid x.1 m).1)
leaves_then b mid new m r (inr x) (inr y) = inr (x.0 ++ y.0, through_then x.0 y.0 b mid new x.1 y.1)

pub bides_then : (b mid new : Bus1) → Bides b mid → Bides mid new → Bides b new
bides_then b mid new k m r = let y = m r in let x = k y.0 in (x.0, leaves_then b mid new y.0 r x.1 y.1)

pub bides_same : (b new : Bus1) → new ≡ b → Bides b new
bides_same b new e = let P : Bus1 → Type 0 = λ x. Bides b x in subst P (sym e) (λ r. (r, inr ([], refl)))

pub stays_bides : (reset : Bool) (b mid new : Bus1) → new ≡ mid → (reset ≡ true) ⊎ Bides b mid → (reset ≡ true) ⊎ Bides b new
stays_bides reset b mid new e k = let P : Bus1 → Type 0 = λ x. (reset ≡ true) ⊎ Bides b x in subst P (sym e) k

bides_goes : (steps : List Bus1) (b next : Bus1) → Goes1 steps b next → Bides b next
bides_goes steps b next g r = let t = goes_through steps b next g in ((through_marks steps b next t r).0, inr (steps, t))

bides_unless : (reset : Bool) (b other : Bus1) → Bides b other → Bides b (unless_reset reset b other)
bides_unless true b other k = λ r. (r, inr ([], refl))
bides_unless false b other k = k

pub anew_bides : (steps : List Bus1) (b mid new : Bus1) (state : Endpoint1) → Goes1 steps b mid → new ≡ anew mid state → Bides b new
anew_bides steps b mid new state g e =
    let P : Bus1 → Type 0 = λ x. Bides mid x in
    bides_then b mid new (bides_goes steps b mid g) (subst P (sym e) (bides_unless mid.reset mid _ (λ r. (r, inl (Anew state, [], refl)))))

known_bides : (opened : Bool) (b : Bus1) → Bides b (known_if opened b)
known_bides true b = λ r. (r, inl (Known, [], refl))
known_bides false b = λ r. (r, inr ([], refl))

pub agreed_bides : (steps : List Bus1) (b mid new : Bus1) → Goes1 steps b mid → new ≡ known_if mid.opened mid → Bides b new
agreed_bides steps b mid new g e =
    let P : Bus1 → Type 0 = λ x. Bides mid x in bides_then b mid new (bides_goes steps b mid g) (subst P (sym e) (known_bides mid.opened mid))

-- what was taken is looked at
pub looked : (steps : List Bus1) (b mid seen new : Bus1) (fill : List Bus1) → Goes1 steps b mid → seen ≡ reported mid → Through1 fill seen new → Looked1 b new
looked steps b mid seen new fill g e t =
    let P : Bus1 → Type 0 = λ x. Through1 fill x new in (steps, fill, mid, goes_through steps b mid g, subst P e t)

pub looked_marks : (b new : Bus1) → Looked1 b new → KeepsMarks b new
looked_marks b new l =
    marks_then b l.2 new (through_marks l.0 b l.2 l.3) (marks_then l.2 (reported l.2) new (λ r. (r, refl)) (through_marks l.1 (reported l.2) new l.4))

looks_by : (b mid new : Bus1) → marks new.got ≡ marks mid.got → Leaves b mid → Looked1 mid new → IsMarked b new ⊎ Looked1 b new
looks_by b mid new e (inl x) l = inl (x.0, x.1, e ∙ x.2)
looks_by b mid new e (inr x) l = inr (x.0 ++ l.0, l.1, l.2, through_then x.0 l.0 b mid l.2 x.1 l.3, l.4)

pub looks_then : (b mid new : Bus1) → Bides b mid → Looked1 mid new → new.reset ≡ false → IsMarked b new ⊎ Looked1 b new
looks_then b mid new k l r = let m = looked_marks mid new l r in looks_by b mid new m.1 (k m.0).1 l

-- what was told, and that the host may begin anew
KeepsTold : Bus1 → Bus1 → Type 0
KeepsTold b new = new.reset ≡ false → (b.reset ≡ false) × (told_of new.got ≡ told_of b.got) × (b.opened ≡ true → new.opened ≡ true)

told_step : (b next : Bus1) → Happens1 b next → KeepsTold b next
unfolding KeepsTold
told_step b next h1 h2 = grind (arith, common_steps)

told_goes : (steps : List Bus1) (b next : Bus1) → Goes1 steps b next → KeepsTold b next
unfolding KeepsTold
told_goes [] b next e = let P : Bus1 → Type 0 = λ x. KeepsTold b x in subst P (sym e) (λ r. (r, refl, λ o. o))
told_goes (mid ∷ rest) b next g = λ r.
    let y = told_goes rest mid next g.1 r in let x = told_step b mid g.0 y.0 in (x.0, y.1 ∙ x.1, λ o. y.2 (x.2 o))

pub keeps_then : (b mid new : Bus1) → KeepsStates b mid → KeepsStates mid new → KeepsStates b new
keeps_then b mid new k m r = let y = m r in let x = k y.0 in (x.0, y.1 ∙ x.1, λ o. y.2 (x.2 o), leaves_then b mid new y.0 r x.3 y.3)

pub keeps_same : (b new : Bus1) → new ≡ b → KeepsStates b new
keeps_same b new e = let P : Bus1 → Type 0 = λ x. KeepsStates b x in subst P (sym e) (λ r. (r, refl, λ o. o, inr ([], refl)))

pub keeps_bides : (b new : Bus1) → KeepsStates b new → Bides b new
keeps_bides b new k r = let x = k r in (x.0, x.3)

keeps_goes : (steps : List Bus1) (b next : Bus1) → Goes1 steps b next → KeepsStates b next
unfolding KeepsTold
keeps_goes steps b next g r = let x = told_goes steps b next g r in (x.0, x.1, x.2, inr (steps, goes_through steps b next g))

keeps_unless : (reset : Bool) (b other : Bus1) → KeepsStates b other → KeepsStates b (unless_reset reset b other)
keeps_unless true b other k = keeps_same b b refl
keeps_unless false b other k = k

pub given_up_keeps : (steps : List Bus1) (b mid new : Bus1) → Goes1 steps b mid → new ≡ given_up mid → KeepsStates b new
given_up_keeps steps b mid new g e =
    let P : Bus1 → Type 0 = λ x. KeepsStates mid x in
    keeps_then b mid new (keeps_goes steps b mid g) (subst P (sym e) (keeps_unless mid.reset mid _ (λ r. (r, refl, λ o. o, inl (GivenUp, [], refl)))))

pub reported_keeps : (steps : List Bus1) (b mid new : Bus1) → Goes1 steps b mid → new ≡ reported mid → KeepsStates b new
reported_keeps steps b mid new g e =
    let P : Bus1 → Type 0 = λ x. KeepsStates mid x in
    keeps_then b mid new (keeps_goes steps b mid g) (subst P (sym e) (λ r. (r, refl, λ o. o, inr (reported mid ∷ [], (looks1 refl, refl)))))

pub states_in_step : (states : List Told) (b new : Bus1) → KeepsStates b new → InStep states b → InStep states new
states_in_step states b new k h r = let m = k r in subst (λ x. InOrder x states) (sym m.1) (h m.0)

pub reported_in_step : (steps : List Bus1) (states : List Told) (b mid new : Bus1) → Goes1 steps b mid → new ≡ reported mid → InStep states b → InStep states new
reported_in_step steps states b mid new g e h = states_in_step states b new (reported_keeps steps b mid new g e) h

unless_in_step : (reset : Bool) (others : List Told) (b other : Bus1) → b.reset ≡ reset → (reset ≡ false → InStep others other)
    → InStep others (unless_reset reset b other)
unless_in_step true others b other e k = λ r. absurd (let x : true ≡ false = sym e ∙ r in cc)
unless_in_step false others b other e k = k refl

pub anew_in_step : (steps : List Bus1) (states : List Told) (state : Endpoint1) (b mid new : Bus1) → Goes1 steps b mid → new ≡ anew mid state
    → InStep states b → InStep (Is state ∷ states) new
anew_in_step steps states state b mid new g e h =
    let P : Bus1 → Type 0 = λ x. InStep (Is state ∷ states) x in
    let m = states_in_step states b mid (keeps_goes steps b mid g) h in
    subst P (sym e) (unless_in_step mid.reset (Is state ∷ states) mid _ refl (λ f r. told (Is state) (told_of mid.got) states (m r)))

anew_by_opened : (reset : Bool) (b other : Bus1) → b.reset ≡ reset → other.opened ≡ true → (unless_reset reset b other).reset ≡ false
    → (unless_reset reset b other).opened ≡ true
anew_by_opened true b other e o r = absurd (let x : true ≡ false = sym e ∙ r in cc)
anew_by_opened false b other e o r = o

pub anew_opened : (mid new : Bus1) (state : Endpoint1) → new ≡ anew mid state → new.reset ≡ false → new.opened ≡ true
anew_opened mid new state e =
    let P : Bus1 → Type 0 = λ x. x.reset ≡ false → x.opened ≡ true in subst P (sym e) (anew_by_opened mid.reset mid _ refl refl)

known_in_step : (opened : Bool) (states : List Told) (b : Bus1) → InStep states b → InStep (HostBegan ∷ states) (known_if opened b)
known_in_step true states b h = λ r. told HostBegan (told_of b.got) states (h r)
known_in_step false states b h = λ r. unheard (told_of b.got) states (h r)

pub agreed_in_step : (steps : List Bus1) (states : List Told) (b mid new : Bus1) → Goes1 steps b mid → new ≡ known_if mid.opened mid
    → InStep states b → InStep (HostBegan ∷ states) new
agreed_in_step steps states b mid new g e h =
    let P : Bus1 → Type 0 = λ x. InStep (HostBegan ∷ states) x in
    subst P (sym e) (known_in_step mid.opened states mid (states_in_step states b mid (keeps_goes steps b mid g) h))

pub opened_then : (change : Option Change) (renewed : Bool) (b mid new : Bus1) → (endpoint_set change ≡ None → mid ≡ b)
    → ((state : Endpoint1) → endpoint_set change ≡ Some state → mid.reset ≡ false → mid.opened ≡ true) → KeepsStates mid new
    → (renewed ≡ true → b.reset ≡ false → b.opened ≡ true) → renewed_then renewed change ≡ true → new.reset ≡ false → new.opened ≡ true
opened_then (Some (Endpoint state)) renewed b mid new n s k h e r = let m = k r in m.2 (s state refl m.0)
opened_then (Some (Address address)) renewed b mid new n s k h e r =
    let P : Bus1 → Type 0 = λ x. KeepsStates x new in let m = (subst P (n refl) k) r in m.2 (h e m.0)
opened_then (Some (Wakeup on)) renewed b mid new n s k h e r =
    let P : Bus1 → Type 0 = λ x. KeepsStates x new in let m = (subst P (n refl) k) r in m.2 (h e m.0)
opened_then None renewed b mid new n s k h e r =
    let P : Bus1 → Type 0 = λ x. KeepsStates x new in let m = (subst P (n refl) k) r in m.2 (h e m.0)

-- what came beside packets
told_marks : (got : List Got) → told_of (marks got) ≡ told_of got
told_marks [] = refl
told_marks (New packet ∷ before) = told_marks before
told_marks (Anew state ∷ before) = ap (λ x. Is state ∷ x) (told_marks before)
told_marks (GivenUp ∷ before) = told_marks before
told_marks (Known ∷ before) = ap (λ x. HostBegan ∷ x) (told_marks before)

pub marks_in_step : (states : List Told) (b new : Bus1) → KeepsMarks b new → InStep states b → InStep states new
marks_in_step states b new k h r =
    let m = k r in subst (λ x. InOrder x states) (sym (sym (told_marks new.got) ∙ ap (λ x. told_of x) m.1 ∙ told_marks b.got)) (h m.0)

pub marks_known : (b new : Bus1) → KeepsMarks b new → (b.reset ≡ false → IsKnown b.got) → new.reset ≡ false → IsKnown new.got
marks_known b new k h r = let m = k r in let y = h m.0 in (y.0, m.1 ∙ y.1)

known_by : (opened : Bool) (b : Bus1) → opened ≡ true → IsKnown (known_if opened b).got
known_by true b o = (marks b.got, refl)
known_by false b o = absurd (let x : false ≡ true = o in cc)

reset_by : (opened : Bool) (b : Bus1) → (known_if opened b).reset ≡ b.reset
reset_by true b = refl
reset_by false b = refl

pub agreed_known : (steps : List Bus1) (b mid new : Bus1) → Goes1 steps b mid → new ≡ known_if mid.opened mid
    → (b.reset ≡ false → b.opened ≡ true) → new.reset ≡ false → IsKnown new.got
agreed_known steps b mid new g e o r =
    let P : Bus1 → Type 0 = λ x. IsKnown x.got in
    let mine = sym (reset_by mid.opened mid) ∙ sym (ap (λ (x : Bus1). x.reset) e) ∙ r in
    let k = keeps_goes steps b mid g mine in
    subst P (sym e) (known_by mid.opened mid (k.2 (o k.0)))

-- suspend, resume and wakeup are nothing to the device behind
pub suspend_session : (lent : Lent) (past : List Event) → session lent (SuspendCame ∷ past) ≡ session lent past
unfolding session
suspend_session lent past = refl

pub resume_session : (lent : Lent) (past : List Event) → session lent (ResumeCame ∷ past) ≡ session lent past
unfolding session
resume_session lent past = refl

pub wake_session : (lent : Lent) (past : List Event) (has_report answer : Bool) → session lent (WakeAsked has_report answer ∷ past) ≡ session lent past
unfolding session
wake_session lent past has_report answer = refl

-- nor is it to the layer that the host has a status packet, or that a scan comes
pub seen_session : (lent : Lent) (past : List Event) → session lent (StatusSeen ∷ past) ≡ session lent past
unfolding session
seen_session lent past = refl

pub scan_session : (lent : Lent) (past : List Event) → session lent (ScanCame ∷ past) ≡ session lent past
unfolding session
scan_session lent past = refl

pub seen_refines : (lent : Lent) (past : List Event) (layer : LayerState) → Refines lent past layer → Refines lent (StatusSeen ∷ past) layer
unfolding state_of
seen_refines lent past layer h = record { answered = (tt, h.answered); state = h.state }

pub scan_refines : (lent : Lent) (past : List Event) (layer : LayerState) → Refines lent past layer → Refines lent (ScanCame ∷ past) layer
unfolding state_of
scan_refines lent past layer h = record { answered = (tt, h.answered); state = h.state }

-- a poll is nothing to endpoint 0
pub polled_once : (past later : List Event) → PolledOnce past later → no_polls (calls_of later) ≡ no_polls (calls_of past)
polled_once past later h1 = grind (arith, common_steps)

asked_same : (calls : List EpCall) → asked_of (no_polls calls) ≡ asked_of calls
asked_same [] = refl
asked_same (SetUp bytes ∷ before) = refl
asked_same (Out packet answer ∷ before) = asked_same before
asked_same (In answer ∷ before) = asked_same before
asked_same (Polled answer ∷ before) = asked_same before
asked_same (BusReset ∷ before) = refl

taken_same : (calls : List EpCall) → taken_of (no_polls calls) ≡ taken_of calls
taken_same [] = refl
taken_same (SetUp bytes ∷ before) = refl
taken_same (Out packet Ack ∷ before) = refl
taken_same (Out packet Nak ∷ before) = taken_same before
taken_same (Out packet (Packet bytes) ∷ before) = taken_same before
taken_same (Out packet Stall ∷ before) = taken_same before
taken_same (In answer ∷ before) = taken_same before
taken_same (Polled answer ∷ before) = taken_same before
taken_same (BusReset ∷ before) = refl

confirmed_to : (sent : List Seen) (s d : List ℕ) (calls : List EpCall) → ConfirmedBefore sent s d calls → ConfirmedBefore sent s d (no_polls calls)
confirmed_to sent s d [] w = w
confirmed_to sent s d (SetUp bytes ∷ before) (inl e) = cc
confirmed_to sent s d (SetUp bytes ∷ before) (inr w) = inr (tt, confirmed_to sent s d before w.1)
confirmed_to sent s d (Out packet answer ∷ before) (inl e) = cc
confirmed_to sent s d (Out packet answer ∷ before) (inr w) =
    inr (takes_as sent packet answer (no_polls before) before (asked_same before) w.0, confirmed_to sent s d before w.1)
confirmed_to sent s d (In answer ∷ before) (inl e) = inl (e.0, asked_same before ∙ e.1, taken_same before ∙ e.2)
confirmed_to sent s d (In answer ∷ before) (inr w) = inr (tt, confirmed_to sent s d before w.1)
confirmed_to sent s d (Polled answer ∷ before) (inl e) = cc
confirmed_to sent s d (Polled answer ∷ before) (inr w) = confirmed_to sent s d before w.1
confirmed_to sent s d (BusReset ∷ before) (inl e) = cc
confirmed_to sent s d (BusReset ∷ before) (inr w) = inr (tt, confirmed_to sent s d before w.1)

confirmed_from : (sent : List Seen) (s d : List ℕ) (calls : List EpCall) → ConfirmedBefore sent s d (no_polls calls) → ConfirmedBefore sent s d calls
confirmed_from sent s d [] w = w
confirmed_from sent s d (SetUp bytes ∷ before) (inl e) = cc
confirmed_from sent s d (SetUp bytes ∷ before) (inr w) = inr (tt, confirmed_from sent s d before w.1)
confirmed_from sent s d (Out packet answer ∷ before) (inl e) = cc
confirmed_from sent s d (Out packet answer ∷ before) (inr w) =
    inr (takes_as sent packet answer before (no_polls before) (sym (asked_same before)) w.0, confirmed_from sent s d before w.1)
confirmed_from sent s d (In answer ∷ before) (inl e) = inl (e.0, sym (asked_same before) ∙ e.1, sym (taken_same before) ∙ e.2)
confirmed_from sent s d (In answer ∷ before) (inr w) = inr (tt, confirmed_from sent s d before w.1)
confirmed_from sent s d (Polled answer ∷ before) w = inr (tt, confirmed_from sent s d before w)
confirmed_from sent s d (BusReset ∷ before) (inl e) = cc
confirmed_from sent s d (BusReset ∷ before) (inr w) = inr (tt, confirmed_from sent s d before w.1)

-- but for polls the calls are the same
pub confirmed_same : (sent : List Seen) (s d : List ℕ) (calls others : List EpCall) → no_polls others ≡ no_polls calls → ConfirmedBefore sent s d calls → ConfirmedBefore sent s d others
confirmed_same sent s d calls others e w =
    let P : List EpCall → Type 0 = λ x. ConfirmedBefore sent s d x in confirmed_from sent s d others (subst P (sym e) (confirmed_to sent s d calls w))

pub given_same : (calls : List EpCall) → given_of (no_polls calls) ≡ given_of calls
given_same [] = refl
given_same (SetUp bytes ∷ before) = refl
given_same (Out packet answer ∷ before) = given_same before
given_same (In Ack ∷ before) = given_same before
given_same (In Nak ∷ before) = given_same before
given_same (In (Packet packet) ∷ before) = ap (λ x. packet.items ∷ x) (given_same before)
given_same (In Stall ∷ before) = given_same before
given_same (Polled answer ∷ before) = given_same before
given_same (BusReset ∷ before) = refl

were_to : (setup : List ℕ) (packets : List (List ℕ)) (calls : List EpCall) → WereGiven setup packets calls → WereGiven setup packets (no_polls calls)
were_to setup packets [] w = w
were_to setup packets (call ∷ before) (inl e) =
    were_now setup packets (no_polls (call ∷ before)) (asked_same (call ∷ before) ∙ e.0) (given_same (call ∷ before) ∙ e.1)
were_to setup packets (SetUp bytes ∷ before) (inr w) = inr (were_to setup packets before w)
were_to setup packets (Out packet answer ∷ before) (inr w) = inr (were_to setup packets before w)
were_to setup packets (In answer ∷ before) (inr w) = inr (were_to setup packets before w)
were_to setup packets (Polled answer ∷ before) (inr w) = were_to setup packets before w
were_to setup packets (BusReset ∷ before) (inr w) = inr (were_to setup packets before w)

were_from : (setup : List ℕ) (packets : List (List ℕ)) (calls : List EpCall) → WereGiven setup packets (no_polls calls) → WereGiven setup packets calls
were_from setup packets [] w = w
were_from setup packets (Polled answer ∷ before) w = inr (were_from setup packets before w)
were_from setup packets (SetUp bytes ∷ before) (inl e) = inl e
were_from setup packets (SetUp bytes ∷ before) (inr w) = inr (were_from setup packets before w)
were_from setup packets (Out packet answer ∷ before) (inl e) = inl (sym (asked_same before) ∙ e.0, sym (given_same before) ∙ e.1)
were_from setup packets (Out packet answer ∷ before) (inr w) = inr (were_from setup packets before w)
were_from setup packets (In answer ∷ before) (inl e) = inl (sym (asked_same before) ∙ e.0, sym (given_same (In answer ∷ before)) ∙ e.1)
were_from setup packets (In answer ∷ before) (inr w) = inr (were_from setup packets before w)
were_from setup packets (BusReset ∷ before) (inl e) = inl e
were_from setup packets (BusReset ∷ before) (inr w) = inr (were_from setup packets before w)

pub were_given : (setup : List ℕ) (packets : List (List ℕ)) (calls others : List EpCall) → no_polls others ≡ no_polls calls → WereGiven setup packets calls → WereGiven setup packets others
were_given setup packets calls others e w =
    let P : List EpCall → Type 0 = λ x. WereGiven setup packets x in were_from setup packets others (subst P (sym e) (were_to setup packets calls w))
