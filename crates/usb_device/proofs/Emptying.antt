-- What keeps the link of endpoint 1 where the buffers are emptied.
use Rattle.std.proofs.lemmas.Grind.{common_steps}
use Rattle.std.proofs.Common.{◌≡◌, ℕ, Bool, true, false, not, List, [], ◌∷◌, ◌++◌, length, ◌-◌, ◌&&◌, ◌<◌, ◌≤◌, refl, sym, ap, subst, ◌∙◌, nat_lt, arith}
use Rattle.usb_device.specs.declared.report_buffers.Course.{Course}
use Rattle.usb_device.specs.declared.report_buffers.Course.TheVariants.{Rests, Begins, Goes}
use Rattle.usb_device.specs.Calls.{EpCall}
use Rattle.usb_device.specs.Confirmed.{asked_of}
use Rattle.usb_device.specs.declared.answer.Endpoint1.{Endpoint1}
use Rattle.usb_device.specs.Bus1.{Got, Anew, GivenUp, Sent, Changed, sent_of, is_old, newest, sets_protocol, given_up, Bus1, unless_reset, anew}
use Rattle.usb_device.specs.Reports.{cut, count_of, packets_of, Carries, Begun}
use Rattle.usb_device.specs.representation.Link1.{core, ReportState, is_begun, to_hand, copies, Agrees, Resting, Going, Now1, Link1}
use Rattle.usb_device.proofs.Carrying.{true_false, marked_carries, any_carries, gives_up, newest_now, length-append, length-cut}

-- the device begins anew
pub anew_course : Course → Course
anew_course Rests = Rests
anew_course Begins = Begins
anew_course Goes = Begins

pub anew_begun : (state : Endpoint1) (size : ℕ) (report : List ℕ) (got : List Got) (earlier : List Sent) → Begun size report got earlier → Begun size report (Anew state ∷ got) earlier
anew_begun state size report got earlier b = record {
  pieces = Anew state ∷ b.pieces;
  before = b.before;
  got_is = ap (λ x. Anew state ∷ x) b.got_is;
  are = b.are;
  carried = b.carried;
}

pub set_anew : Bus1 → Endpoint1 → Bus1
set_anew b state = record { got = Anew state ∷ b.got; host = b.host; device = false; slots = []; taken = 0; opened = true; reset = b.reset }

pub anew_now : (course : Course) (s : ReportState) (left : ℕ) (state : Endpoint1) (b : Bus1) (calls : List EpCall) → (course ≡ Goes → s.old ≡ false)
    → Now1 course s b calls
    → Now1 (anew_course course) (record s { course = anew_course course; unsure = true; lost = false; left = left }) (set_anew b state) calls
unfolding anew_course set_anew anew_begun
anew_now Rests s left state b calls k h = record {
  free = record { empty = refl; reported = refl; agrees = (refl, refl) };
  carried = marked_carries (Anew state) false s.size b.got (sent_of calls) (λ r n. n) h.carried;
  marked = λ _. tt;
}
anew_now Begins s left state b calls k h = record {
  free = record { empty = refl; reported = refl; agrees = (refl, refl) };
  earlier = h.earlier;
  sent = h.sent;
  begun = anew_begun state s.size s.report b.got h.earlier h.begun;
  once = tt;
  marked = λ _. tt;
}
anew_now Goes s left state b calls k h = record {
  free = record { empty = refl; reported = refl; agrees = (refl, refl) };
  earlier = h.earlier;
  sent = sym (newest_now (sent_of calls) (h.old ∙ k refl)) ∙ h.sent;
  begun = anew_begun state s.size s.report b.got h.earlier h.begun;
  once = tt;
  marked = λ _. tt;
}

pub anew_by : (reset : Bool) (s : ReportState) (left : ℕ) (state : Endpoint1) (b : Bus1) (calls : List EpCall) → (s.course ≡ Goes → s.old ≡ false)
    → b.reset ≡ reset → Link1 s b calls
    → Link1 (record s { course = anew_course s.course; unsure = true; lost = false; left = left }) (unless_reset reset b (set_anew b state)) calls
unfolding set_anew
anew_by true s left state b calls k e h = record { asked = h.asked; fresh = h.fresh; current = λ r. absurd (true_false (sym e ∙ r)) }
anew_by false s left state b calls k e h =
    record { asked = h.asked; fresh = λ r. absurd (true_false (sym r ∙ e)); current = λ r. anew_now s.course (core s) 0 state b calls k (h.current e) }

pub anew_link : (s : ReportState) (left : ℕ) (state : Endpoint1) (b : Bus1) (calls : List EpCall) → (s.course ≡ Goes → s.old ≡ false) → Link1 s b calls
    → Link1 (record s { course = anew_course s.course; unsure = true; lost = false; left = left }) (anew b state) calls
unfolding set_anew
anew_link s left state b calls k h = anew_by b.reset s left state b calls k refl h

pub anew_went : (s : ReportState) (left : ℕ) (state : Endpoint1) (b : Bus1) (calls : List EpCall) → (s.course ≡ Goes → s.old ≡ false) → s.course ≡ Goes
    → Link1 s b calls → Link1 (record s { course = Begins; unsure = true; lost = false; left = left }) (anew b state) calls
unfolding anew_course
anew_went s left state b calls k e h =
    let P : Course → Type 0 = λ x. Link1 (record s { course = x; unsure = true; lost = false; left = left }) (anew b state) calls in
    subst P (ap (λ x. anew_course x) e) (anew_link s left state b calls k h)

pub anew_rested : (s : ReportState) (left : ℕ) (state : Endpoint1) (b : Bus1) (calls : List EpCall) → (s.course ≡ Goes → s.old ≡ false) → s.course ≡ Rests
    → Link1 s b calls → Link1 (record s { unsure = true; lost = false; left = left }) (anew b state) calls
unfolding anew_course
anew_rested s left state b calls k e h =
    let P : Course → Type 0 = λ x. Link1 (record s { course = x; unsure = true; lost = false; left = left }) (anew b state) calls in
    subst P (ap (λ x. anew_course x) e ∙ sym e) (anew_link s left state b calls k h)

pub anew_begins : (s : ReportState) (left : ℕ) (state : Endpoint1) (b : Bus1) (calls : List EpCall) → (s.course ≡ Goes → s.old ≡ false) → s.course ≡ Begins
    → Link1 s b calls → Link1 (record s { unsure = true; lost = false; left = left }) (anew b state) calls
unfolding anew_course
anew_begins s left state b calls k e h =
    let P : Course → Type 0 = λ x. Link1 (record s { course = x; unsure = true; lost = false; left = left }) (anew b state) calls in
    subst P (ap (λ x. anew_course x) e ∙ sym e) (anew_link s left state b calls k h)

-- a report is given up
pub set_given_up : Bus1 → Bus1
set_given_up b = record { got = GivenUp ∷ b.got; host = b.host; device = b.device; slots = []; taken = 0; opened = b.opened; reset = b.reset }

-- whether the toggles may differ then
pub unsure_by : Course → Bool → Bool
unsure_by Goes x = true
unsure_by _ x = x

given_up_agrees : (unsure lost : Bool) (b : Bus1) → Agrees unsure lost b → Agrees unsure lost (set_given_up b)
unfolding set_given_up
given_up_agrees unsure lost b h1 = grind (arith, common_steps)

pub given_up_now : (course : Course) (s : ReportState) (b : Bus1) (calls later : List EpCall) → (course ≡ Rests → ⊥)
    → ((course ≡ Goes → is_old (sent_of calls) ≡ s.old) → is_old (sent_of later) ≡ true) → newest (sent_of later) ≡ newest (sent_of calls) → Now1 course s b calls
    → Resting (record s { course = Rests; unsure = unsure_by course s.unsure; lost = unsure_by course s.lost }) (set_given_up b) later
unfolding set_given_up unsure_by
given_up_now Rests s b calls later k o n h = absurd (k refl)
given_up_now Begins s b calls later k o n h = record {
  free = record { empty = refl; reported = refl; agrees = given_up_agrees s.unsure s.lost b h.free.agrees };
  carried = gives_up s.size s.report (sent_of later) h.earlier b.got h.begun (o (λ x. (let y : Begins ≡ Goes = x in cc))) (n ∙ ap (λ x. newest x) h.sent);
  marked = λ _. tt;
}
given_up_now Goes s b calls later k o n h = record {
  free = record { empty = refl; reported = refl; agrees = h.closed };
  carried = gives_up s.size s.report (sent_of later) h.earlier b.got h.begun (o (λ _. h.old)) (n ∙ h.sent);
  marked = λ _. tt;
}

pub given_up_by : (reset : Bool) (s : ReportState) (b : Bus1) (calls later : List EpCall) → b.reset ≡ reset → (s.course ≡ Rests → ⊥)
    → ((s.course ≡ Goes → is_old (sent_of calls) ≡ s.old) → is_old (sent_of later) ≡ true) → newest (sent_of later) ≡ newest (sent_of calls) → asked_of later ≡ asked_of calls → Link1 s b calls
    → Link1 (record s { course = Rests; unsure = unsure_by s.course s.unsure; lost = unsure_by s.course s.lost }) (unless_reset reset b (set_given_up b)) later
unfolding set_given_up
given_up_by true s b calls later e k o n a h = record {
  asked = h.asked ∙ ap (λ x. sets_protocol x) (sym a);
  fresh = h.fresh;
  current = λ r. absurd (true_false (sym e ∙ r));
}
given_up_by false s b calls later e k o n a h = record {
  asked = h.asked ∙ ap (λ x. sets_protocol x) (sym a);
  fresh = λ r. absurd (true_false (sym r ∙ e));
  current = λ r. given_up_now s.course (core s) b calls later k o n (h.current e);
}

pub given_up_went : (s : ReportState) (b : Bus1) (calls later : List EpCall) → s.course ≡ Goes
    → ((s.course ≡ Goes → is_old (sent_of calls) ≡ s.old) → is_old (sent_of later) ≡ true) → newest (sent_of later) ≡ newest (sent_of calls) → asked_of later ≡ asked_of calls → Link1 s b calls
    → Link1 (record s { course = Rests; unsure = true; lost = true }) (given_up b) later
unfolding set_given_up unsure_by
given_up_went s b calls later e o n a h =
    let P : Bool → Bool → Type 0 = λ x y. Link1 (record s { course = Rests; unsure = x; lost = y }) (given_up b) later in
    let P1 : Bool → Type 0 = λ x. P x (unsure_by s.course s.lost) in
    let P2 : Bool → Type 0 = λ y. P true y in
    let k : s.course ≡ Rests → ⊥ = λ r. (let x : Goes ≡ Rests = sym e ∙ r in cc) in
    subst P2 (ap (λ x. unsure_by x s.lost) e) (subst P1 (ap (λ x. unsure_by x s.unsure) e) (given_up_by b.reset s b calls later refl k o n a h))

pub given_up_waited : (s : ReportState) (b : Bus1) (calls later : List EpCall) → s.course ≡ Begins
    → ((s.course ≡ Goes → is_old (sent_of calls) ≡ s.old) → is_old (sent_of later) ≡ true) → newest (sent_of later) ≡ newest (sent_of calls) → asked_of later ≡ asked_of calls → Link1 s b calls
    → Link1 (record s { course = Rests }) (given_up b) later
unfolding set_given_up unsure_by
given_up_waited s b calls later e o n a h =
    let P : Bool → Bool → Type 0 = λ x y. Link1 (record s { course = Rests; unsure = x; lost = y }) (given_up b) later in
    let P1 : Bool → Type 0 = λ x. P x (unsure_by s.course s.lost) in
    let P2 : Bool → Type 0 = λ y. P s.unsure y in
    let k : s.course ≡ Rests → ⊥ = λ r. (let x : Begins ≡ Rests = sym e ∙ r in cc) in
    subst P2 (ap (λ x. unsure_by x s.lost) e) (subst P1 (ap (λ x. unsure_by x s.unsure) e) (given_up_by b.reset s b calls later refl k o n a h))

-- the protocol is set, and a report goes on, of which the host has a packet
fewer_by : (again : Bool) (s : ReportState) (slots : List (List ℕ)) → s.again ≡ again → is_begun s ≡ true → length slots ≤ s.buffered
    → length (slots ++ to_hand s) < count_of s.size s.report
fewer_by true s slots a i l = absurd (true_false (sym i ∙ ap (λ x. not x && nat_lt s.buffered (count_of s.size s.report - s.due)) a))
fewer_by false s slots a i l =
    let lt : nat_lt s.buffered (count_of s.size s.report - s.due) ≡ true =
    sym (ap (λ x. not x && nat_lt s.buffered (count_of s.size s.report - s.due)) a) ∙ i in
    let F : Bool → Type 0 = λ x. length (slots ++ (cut s.size s.due s.rest ++ copies x (packets_of s.size s.report))) < count_of s.size s.report in
    let e = length-append slots (cut s.size s.due s.rest ++ []) in
    let f = length-append (cut s.size s.due s.rest) [] in
    let g = length-cut s.size s.due s.rest in
    subst F (sym a) (grind (arith, e, f, g, lt, l))

pub fewer_left : (s : ReportState) (slots : List (List ℕ)) → is_begun s ≡ true → length slots ≤ s.buffered
    → length (slots ++ to_hand s) < count_of s.size s.report
fewer_left s slots i l = fewer_by s.again s slots refl i l

pub goes_on_now : (s : ReportState) (b : Bus1) (calls later : List EpCall) → is_begun s ≡ true → sent_of later ≡ Changed ∷ sent_of calls → Going s b calls
    → Going (record s { old = true }) b later
goes_on_now s b calls later i e h =
    let counted = h.counted in
    let some : length b.slots ≤ s.buffered = omega (arith, counted) in
    record {
      counted = h.counted;
      closed = h.closed;
      sure = h.sure;
      earlier = h.earlier;
      sent = ap (λ x. newest x) e ∙ h.sent;
      old = ap (λ x. is_old x) e;
      begun = h.begun;
      has = λ _. h.fewer (fewer_left s b.slots i some);
      will = h.will;
      ours = h.ours;
      even = h.even;
      busy = h.busy;
      last = h.last;
      fewer = h.fewer;
    }

pub goes_on : (s : ReportState) (b : Bus1) (calls later : List EpCall) → s.course ≡ Goes → is_begun s ≡ true → sent_of later ≡ Changed ∷ sent_of calls
    → asked_of later ≡ asked_of calls → Link1 s b calls → Link1 (record s { old = true }) b later
goes_on s b calls later c i e a h =
    let N : Course → Type 0 = λ x. Now1 x (core s) b calls in
    let M : Course → Type 0 = λ x. Now1 x (core (record s { old = true })) b later in
    record {
      asked = h.asked ∙ ap (λ x. sets_protocol x) (sym a);
      fresh = h.fresh;
      current = λ r. subst M (sym c) (goes_on_now (core s) b calls later i e (subst N c (h.current r)));
    }

-- or none is under way
pub changed_rests : (s : ReportState) (b : Bus1) (calls later : List EpCall) → s.course ≡ Rests → sent_of later ≡ Changed ∷ sent_of calls
    → asked_of later ≡ asked_of calls → Link1 s b calls → Link1 s b later
changed_rests s b calls later c e a h =
    let N : Course → Type 0 = λ x. Now1 x (core s) b calls in
    let M : Course → Type 0 = λ x. Now1 x (core s) b later in
    let C : List Sent → Type 0 = λ x. Carries s.size b.got x in
    let rest : Resting (core s) b calls → Resting (core s) b later =
    λ k. record { free = k.free; carried = subst C (sym e) (any_carries s.size b.got (sent_of calls) k.carried); marked = k.marked } in
    record {
      asked = h.asked ∙ ap (λ x. sets_protocol x) (sym a);
      fresh = h.fresh;
      current = λ r. subst M (sym c) (rest (subst N c (h.current r)));
    }
