-- What keeps the link of endpoint 1.
use Rattle.std.proofs.lemmas.Grind.{common_steps}
use Rattle.std.proofs.Common.{◌≡◌, ℕ, ◌+◌, Bool, true, false, not, List, [], ◌∷◌, ◌++◌, length, ◌-◌, ◌==◌, ◌&&◌, ◌||◌, Some, None, refl, sym, ap, subst, ◌∙◌, ◌⊎◌, inl, inr, nat_lt, arith, suc}
use Rattle.usb_device.specs.declared.report_buffers.Course.{Course}
use Rattle.usb_device.specs.declared.report_buffers.Course.TheVariants.{Rests, Begins, Goes}
use Rattle.usb_device.specs.Calls.{EpCall, SetUp, Polled}
use Rattle.usb_device.specs.Confirmed.{asked_of}
use Rattle.usb_device.specs.Bus1.{Got, Known, Sent, Reported, sent_of, is_old, newest, sets_protocol, Bus1, blank, agree, received, with_taken1, with_lost1, with_host_anew, with_known, known_if, Happens1, takes, loses, host_begins, resets1, Goes1, reported}
use Rattle.usb_device.specs.Reports.{cut, HasNew, packets_of, with_new, Begun, Carries, GotInOrder, all, but_one}
use Rattle.usb_device.specs.representation.Link1.{core, ReportState, is_more, is_over, to_hand, copies, new_of, ArePackets, Agrees, Free, Resting, Beginning, Going, Now1, Link1}
use Rattle.usb_device.proofs.Carrying.{true_false, marked_carries, newest_carries, received_has, received_begun, received_will, same_self, same_not}

-- a packet is with the host
pub taken_step : (s : ReportState) (b : Bus1) (calls : List EpCall) (packet : List ℕ) (rest : List (List ℕ)) → b.slots ≡ packet ∷ rest → Going s b calls
    → Going s (with_taken1 b packet rest) calls
taken_step s b calls packet rest e h =
    let hand = to_hand s in
    let agrees = same_self (not b.device) in
    let O : List (List ℕ) → Type 0 = λ x. ArePackets s.size s.report (x ++ hand) in
    let W : List (List ℕ) → Type 0 = λ x. Carries s.size (with_new (new_of (agree b) (x ++ hand)) b.got) (Reported s.report ∷ h.earlier) in
    let C : List Got → Type 0 = λ x. Carries s.size x (Reported s.report ∷ h.earlier) in
    let K : Bool → Type 0 = λ x. Carries s.size (with_new (new_of x (rest ++ hand)) (received (agree b) packet b.got)) (Reported s.report ∷ h.earlier) in
    let ours = subst O e h.ours in
    let lengths = ap (λ (x : List (List ℕ)). length x) e in
    let fewer : length (b.slots ++ hand) ≡ suc (length (rest ++ hand)) = ap (λ (x : List (List ℕ)). length (x ++ hand)) e in
    let counted = h.counted in
    let host = λ (k : (agree b ≡ true) ⊎ HasNew h.begun.pieces). received_has (agree b) s.size s.report packet b.got h.earlier ours.0 h.begun k in
    record {
      counted = grind (arith, counted, lengths);
      closed = h.closed;
      sure = h.sure;
      earlier = h.earlier;
      sent = h.sent;
      old = h.old;
      begun = received_begun (agree b) s.size s.report packet b.got h.earlier ours.0 h.begun;
      has = λ o. host (inr (h.has o));
      will = subst K (sym agrees) (subst C (received_will (agree b) packet (rest ++ hand) b.got) (subst W e h.will));
      ours = ours.1;
      even = λ _. agrees;
      busy = h.busy;
      last = λ _. inl agrees;
      fewer = λ l. host (h.last (omega (arith, l, fewer)));
    }

pub lost_step : (s : ReportState) (b : Bus1) (calls : List EpCall) (packet : List ℕ) (rest : List (List ℕ)) → b.slots ≡ packet ∷ rest → Going s b calls
    → Going s (with_lost1 b packet) calls
lost_step s b calls packet rest e h =
    let hand = to_hand s in
    let differs = same_not b.device in
    let O : List (List ℕ) → Type 0 = λ x. ArePackets s.size s.report (x ++ hand) in
    let W : List (List ℕ) → Type 0 = λ x. Carries s.size (with_new (new_of (agree b) (x ++ hand)) b.got) (Reported s.report ∷ h.earlier) in
    let C : List Got → Type 0 = λ x. Carries s.size x (Reported s.report ∷ h.earlier) in
    let K : List (List ℕ) → Type 0 = λ x. Carries s.size (with_new (new_of false (x ++ hand)) (received (agree b) packet b.got)) (Reported s.report ∷ h.earlier) in
    let L : Bool → Type 0 = λ x. Carries s.size (with_new (new_of x (b.slots ++ hand)) (received (agree b) packet b.got)) (Reported s.report ∷ h.earlier) in
    let host = λ (k : (agree b ≡ true) ⊎ HasNew h.begun.pieces). received_has (agree b) s.size s.report packet b.got h.earlier (subst O e h.ours).0 h.begun k in
    record {
      counted = h.counted;
      closed = h.closed;
      sure = h.sure;
      earlier = h.earlier;
      sent = h.sent;
      old = h.old;
      begun = received_begun (agree b) s.size s.report packet b.got h.earlier (subst O e h.ours).0 h.begun;
      has = λ o. host (inr (h.has o));
      will = subst L (sym differs) (subst K (sym e) (subst C (received_will (agree b) packet (rest ++ hand) b.got) (subst W e h.will)));
      ours = h.ours;
      even = λ n. absurd (let x : [] ≡ packet ∷ rest = sym n ∙ e in cc);
      busy = h.busy;
      last = λ l. inr (host (h.last l));
      fewer = λ l. host (inr (h.fewer l));
    }

-- the host begins anew
pub host_agrees : (unsure lost : Bool) (b : Bus1) → b.opened ≡ true → Agrees unsure lost b → Agrees unsure lost (with_host_anew b)
host_agrees unsure lost b h1 h2 = grind (arith, common_steps)

pub host_free : (unsure lost : Bool) (b : Bus1) → b.opened ≡ true → Free unsure lost b → Free unsure lost (with_host_anew b)
host_free unsure lost b o f = record { empty = f.empty; reported = f.reported; agrees = host_agrees unsure lost b o f.agrees }

pub host_now : (course : Course) (s : ReportState) (b : Bus1) (calls : List EpCall) → b.opened ≡ true → Now1 course s b calls → Now1 course s (with_host_anew b) calls
host_now Rests s b calls o h = record { free = host_free s.unsure s.lost b o h.free; carried = h.carried; marked = h.marked }
host_now Begins s b calls o h = record { free = host_free s.unsure s.lost b o h.free; earlier = h.earlier; sent = h.sent; begun = h.begun; once = h.once; marked = h.marked }
host_now Goes s b calls o h = absurd (true_false (sym o ∙ h.closed))

pub took_now : (course : Course) (s : ReportState) (b : Bus1) (calls : List EpCall) (packet : List ℕ) (rest : List (List ℕ)) → b.slots ≡ packet ∷ rest
    → Now1 course s b calls → Now1 course s (with_taken1 b packet rest) calls × Now1 course s (with_lost1 b packet) calls
took_now Rests s b calls packet rest e h = absurd (let x : [] ≡ packet ∷ rest = sym h.free.empty ∙ e in cc)
took_now Begins s b calls packet rest e h = absurd (let x : [] ≡ packet ∷ rest = sym h.free.empty ∙ e in cc)
took_now Goes s b calls packet rest e h = (taken_step s b calls packet rest e h, lost_step s b calls packet rest e h)

pub blank_slots : (b : Bus1) (packet : List ℕ) (rest : List (List ℕ)) → b ≡ blank true → b.slots ≡ packet ∷ rest → ⊥
blank_slots b packet rest e s = let x : [] ≡ packet ∷ rest = sym (ap (λ (y : Bus1). y.slots) e) ∙ s in cc

pub step1 : (s : ReportState) (b next : Bus1) (calls : List EpCall) → Happens1 b next → Link1 s b calls → Link1 s next calls
step1 s b next calls (takes packet rest i e) h =
    let P : Bus1 → Type 0 = λ x. Link1 s x calls in
    subst P (sym e) (record {
      asked = h.asked;
      fresh = λ r. absurd (blank_slots b packet rest (h.fresh r) i);
      current = λ r. (took_now s.course (core s) b calls packet rest i (h.current r)).0;
    })
step1 s b next calls (loses packet rest i e) h =
    let P : Bus1 → Type 0 = λ x. Link1 s x calls in
    subst P (sym e) (record {
      asked = h.asked;
      fresh = λ r. absurd (blank_slots b packet rest (h.fresh r) i);
      current = λ r. (took_now s.course (core s) b calls packet rest i (h.current r)).1;
    })
step1 s b next calls (host_begins o e) h =
    let P : Bus1 → Type 0 = λ x. Link1 s x calls in
    subst P (sym e) (record {
      asked = h.asked;
      fresh = λ r. absurd (true_false (sym o ∙ ap (λ (y : Bus1). y.opened) (h.fresh r)));
      current = λ r. host_now s.course (core s) b calls o (h.current r);
    })
step1 s b next calls (resets1 e) h =
    let P : Bus1 → Type 0 = λ x. Link1 s x calls in
    subst P (sym e) (record { asked = h.asked; fresh = λ r. refl; current = λ r. absurd (true_false r) })

pub goes1 : (steps : List Bus1) (s : ReportState) (b next : Bus1) (calls : List EpCall) → Goes1 steps b next → Link1 s b calls → Link1 s next calls
goes1 [] s b next calls e h = let P : Bus1 → Type 0 = λ x. Link1 s x calls in subst P (sym e) h
goes1 (mid ∷ rest) s b next calls g h = goes1 rest s mid next calls g.1 (step1 s b mid calls g.0 h)

-- only the scans are others
pub left_same : (s : ReportState) (left : ℕ) (b : Bus1) (calls : List EpCall) → Link1 s b calls → Link1 (record s { left = left }) b calls
left_same s left b calls h = record { asked = h.asked; fresh = h.fresh; current = h.current }

-- nothing of endpoint 0 changes it
pub sent_now : (course : Course) (s : ReportState) (b : Bus1) (calls later : List EpCall) → sent_of later ≡ sent_of calls → Now1 course s b calls → Now1 course s b later
sent_now Rests s b calls later e h =
    let C : List Sent → Type 0 = λ x. Carries s.size b.got x in
    record { free = h.free; carried = subst C (sym e) h.carried; marked = h.marked }
sent_now Begins s b calls later e h = record { free = h.free; earlier = h.earlier; sent = e ∙ h.sent; begun = h.begun; once = h.once; marked = h.marked }
sent_now Goes s b calls later e h = record {
  counted = h.counted;
  closed = h.closed;
  sure = h.sure;
  earlier = h.earlier;
  sent = ap (λ x. newest x) e ∙ h.sent;
  old = ap (λ x. is_old x) e ∙ h.old;
  begun = h.begun;
  has = h.has;
  will = h.will;
  ours = h.ours;
  even = h.even;
  busy = h.busy;
  last = h.last;
  fewer = h.fewer;
}

pub same_reports : (s : ReportState) (b : Bus1) (calls later : List EpCall) → Link1 s b calls → sent_of later ≡ sent_of calls
    → asked_of later ≡ asked_of calls → Link1 s b later
same_reports s b calls later h e a = record {
  asked = h.asked ∙ ap (λ x. sets_protocol x) (sym a);
  fresh = h.fresh;
  current = λ r. sent_now s.course (core s) b calls later e (h.current r);
}

-- a SETUP packet
pub set_up : (s : ReportState) (left : ℕ) (protocol : Bool) (packet : List ℕ) (b : Bus1) (calls : List EpCall) → protocol ≡ sets_protocol (Some packet)
    → Link1 s b calls → Link1 (record s { left = left; protocol = protocol }) b (SetUp packet ∷ calls)
set_up s left protocol packet b calls e h =
    let n : ReportState = record s { left = left } in
    record {
      asked = e;
      fresh = h.fresh;
      current = λ r. sent_now s.course (core s) b calls (SetUp packet ∷ calls) refl (h.current r);
    }

-- the host is known to have begun anew. Where a report was lost it can't have, and the device stays unsure
abbrev pub SureBy : Bool → Bool → Bool → Type 0
SureBy unsure lost now = ((lost ≡ false) × (now ≡ false)) ⊎ ((lost ≡ true) × (now ≡ unsure))

known_agrees : (unsure lost now : Bool) (b : Bus1) → SureBy unsure lost now → b.opened ≡ true → Agrees unsure lost b → Agrees now lost (with_known b)
known_agrees unsure lost now b h1 h2 h3 = grind (arith, common_steps)

known_now : (unsure lost now : Bool) (b : Bus1) → SureBy unsure lost now → b.opened ≡ true → Agrees unsure lost b → now ≡ false
known_now unsure lost now b h1 h2 h3 = grind (arith, common_steps)

closed_agrees : (unsure lost now : Bool) (b : Bus1) → SureBy unsure lost now → b.opened ≡ false → Agrees unsure lost b → Agrees now lost b
closed_agrees unsure lost now b h1 h2 h3 = grind (arith, common_steps)

still_unsure : (unsure lost now : Bool) → SureBy unsure lost now → now ≡ true → unsure ≡ true
still_unsure unsure lost now h1 h2 = grind (arith, common_steps)

still_sure : (unsure lost now : Bool) → SureBy unsure lost now → unsure ≡ false → now ≡ false
still_sure unsure lost now h1 h2 = grind (arith, common_steps)

known_begun : (size : ℕ) (report : List ℕ) (got : List Got) (earlier : List Sent) → Begun size report got earlier → Begun size report (Known ∷ got) earlier
known_begun size report got earlier b = record {
  pieces = Known ∷ b.pieces;
  before = b.before;
  got_is = ap (λ x. Known ∷ x) b.got_is;
  are = b.are;
  carried = b.carried;
}

agreed_now : (opened : Bool) (course : Course) (s : ReportState) (now : Bool) (b : Bus1) (calls : List EpCall) → b.opened ≡ opened → SureBy s.unsure s.lost now
    → Now1 course s b calls → Now1 course (record s { unsure = now }) (known_if opened b) calls
unfolding known_begun
agreed_now true Rests s now b calls o k h = record {
  free = record { empty = h.free.empty; reported = h.free.reported; agrees = known_agrees s.unsure s.lost now b k o h.free.agrees };
  carried = marked_carries Known false s.size b.got (sent_of calls) (λ r n. n) h.carried;
  marked = λ x. absurd (true_false (sym x ∙ known_now s.unsure s.lost now b k o h.free.agrees));
}
agreed_now true Begins s now b calls o k h = record {
  free = record { empty = h.free.empty; reported = h.free.reported; agrees = known_agrees s.unsure s.lost now b k o h.free.agrees };
  earlier = h.earlier;
  sent = h.sent;
  begun = known_begun s.size s.report b.got h.earlier h.begun;
  once = tt;
  marked = λ x. absurd (true_false (sym x ∙ known_now s.unsure s.lost now b k o h.free.agrees));
}
agreed_now true Goes s now b calls o k h = absurd (true_false (sym o ∙ h.closed))
agreed_now false Rests s now b calls o k h = record {
  free = record { empty = h.free.empty; reported = h.free.reported; agrees = closed_agrees s.unsure s.lost now b k o h.free.agrees };
  carried = h.carried;
  marked = λ x. h.marked (still_unsure s.unsure s.lost now k x);
}
agreed_now false Begins s now b calls o k h = record {
  free = record { empty = h.free.empty; reported = h.free.reported; agrees = closed_agrees s.unsure s.lost now b k o h.free.agrees };
  earlier = h.earlier;
  sent = h.sent;
  begun = h.begun;
  once = h.once;
  marked = λ x. h.marked (still_unsure s.unsure s.lost now k x);
}
agreed_now false Goes s now b calls o k h = record {
  counted = h.counted;
  closed = h.closed;
  sure = still_sure s.unsure s.lost now k h.sure;
  earlier = h.earlier;
  sent = h.sent;
  old = h.old;
  begun = h.begun;
  has = h.has;
  will = h.will;
  ours = h.ours;
  even = h.even;
  busy = h.busy;
  last = h.last;
  fewer = h.fewer;
}

agreed_by : (opened : Bool) (s : ReportState) (now : Bool) (b : Bus1) (calls : List EpCall) → b.opened ≡ opened → SureBy s.unsure s.lost now
    → Link1 s b calls → Link1 (record s { unsure = now }) (known_if opened b) calls
agreed_by true s now b calls o k h = record {
  asked = h.asked;
  fresh = λ r. absurd (true_false (sym o ∙ ap (λ (y : Bus1). y.opened) (h.fresh r)));
  current = λ r. agreed_now true s.course (core s) now b calls o k (h.current r);
}
agreed_by false s now b calls o k h = record { asked = h.asked; fresh = h.fresh; current = λ r. agreed_now false s.course (core s) now b calls o k (h.current r) }

pub agreed_link : (steps : List Bus1) (s : ReportState) (now : Bool) (b mid new : Bus1) (calls : List EpCall) → SureBy s.unsure s.lost now → Goes1 steps b mid
    → new ≡ known_if mid.opened mid → Link1 s b calls → Link1 (record s { unsure = now }) new calls
agreed_link steps s now b mid new calls k g e h =
    let P : Bus1 → Type 0 = λ x. Link1 (record s { unsure = now }) x calls in
    subst P (sym e) (agreed_by mid.opened s now mid calls refl k (goes1 steps s b mid calls g h))

pub polled_none : (s : ReportState) (b : Bus1) (calls : List EpCall) → s.course ≡ Rests → Link1 s b calls → Link1 s b (Polled None ∷ calls)
polled_none s b calls e h = same_reports s b calls (Polled None ∷ calls) h refl refl

pub begin_by : (unsure : Bool) (s : ReportState) (b : Bus1) (calls : List EpCall) (report : List ℕ) → s.unsure ≡ unsure → Resting s b calls
    → Beginning (record s { course = Begins; report = report }) b (Polled (Some report) ∷ calls)
begin_by true s b calls report e h = record {
  free = h.free;
  earlier = sent_of calls;
  sent = refl;
  begun = record { pieces = []; before = b.got; got_is = refl; are = tt; carried = h.carried };
  once = tt;
  marked = λ x. h.marked x;
}
begin_by false s b calls report e h = record {
  free = h.free;
  earlier = sent_of calls;
  sent = refl;
  begun = record { pieces = []; before = b.got; got_is = refl; are = tt; carried = h.carried };
  once = tt;
  marked = λ x. absurd (true_false (sym x ∙ e));
}

pub polled_some : (s : ReportState) (b : Bus1) (calls : List EpCall) (report : List ℕ) → s.course ≡ Rests → Link1 s b calls
    → Link1 (record s { course = Begins; report = report }) b (Polled (Some report) ∷ calls)
polled_some s b calls report e h = record {
  asked = h.asked;
  fresh = h.fresh;
  current = λ r. (let N : Course → Type 0 = λ x. Now1 x (core s) b calls in begin_by s.unsure (core s) b calls report refl (subst N e (h.current r)));
}

-- the host has all reports, or all but the newest
pub in_order_now : (course : Course) (s : ReportState) (b : Bus1) (calls : List EpCall) → Now1 course s b calls → GotInOrder s.size b.got (sent_of calls)
in_order_now Rests s b calls h = all h.carried
in_order_now Begins s b calls h =
    but_one s.report h.earlier (ap (λ x. newest x) h.sent) h.begun (λ o. absurd (true_false (sym o ∙ ap (λ x. is_old x) h.sent)))
in_order_now Goes s b calls h = but_one s.report h.earlier h.sent h.begun (λ o. h.has (sym h.old ∙ o))

pub in_order : (s : ReportState) (b : Bus1) (calls : List EpCall) → b.reset ≡ false → Link1 s b calls → GotInOrder s.size b.got (sent_of calls)
in_order s b calls r h = in_order_now s.course (core s) b calls (h.current r)

-- what was taken is reported
pub reported_agrees : (unsure lost : Bool) (b : Bus1) → Agrees unsure lost b → Agrees unsure lost (reported b)
reported_agrees unsure lost b h1 = grind (arith, common_steps)

pub positive : (n : ℕ) → nat_lt 0 (n + 1) ≡ true
positive n = grind arith

pub lt_suc : (n : ℕ) → nat_lt 0 (suc n) ≡ true
lt_suc n = grind arith

pub cut_some : (size due : ℕ) (rest : List ℕ) (more : List (List ℕ)) → nat_lt 0 due ≡ true → cut size due rest ++ more ≡ [] → ⊥
cut_some size due rest more h1 h2 = grind (arith, common_steps)

pub append_some : {A : Type 0} (xs : List A) (y : A) (ys : List A) → xs ++ y ∷ ys ≡ [] → ⊥
append_some [] y ys e = cc
append_some (x ∷ xs) y ys e = cc

-- packets are to be handed over exactly where there are some
pub hand_some_by : (more again : Bool) (size due : ℕ) (rest report : List ℕ) → nat_lt 0 due ≡ more → (more || again) ≡ true
    → cut size due rest ++ copies again (packets_of size report) ≡ [] → ⊥
hand_some_by true again size due rest report d m e = cut_some size due rest (copies again (packets_of size report)) d e
hand_some_by false true size due rest report d m e = append_some (cut size due rest) _ _ e
hand_some_by false false size due rest report d m e = true_false (sym m)

pub hand_some : (s : ReportState) → is_more s ≡ true → to_hand s ≡ [] → ⊥
hand_some s m e = hand_some_by (nat_lt 0 s.due) s.again s.size s.due s.rest s.report refl m e

pub hand_none_by : (more again : Bool) (size due : ℕ) (rest report : List ℕ) → nat_lt 0 due ≡ more → (more || again) ≡ false
    → cut size due rest ++ copies again (packets_of size report) ≡ []
hand_none_by more again size due rest report h1 h2 = grind (arith, common_steps)

pub hand_none : (s : ReportState) → is_more s ≡ false → to_hand s ≡ []
hand_none s m = hand_none_by (nat_lt 0 s.due) s.again s.size s.due s.rest s.report refl m

pub bool_cases : (x : Bool) → (x ≡ true) ⊎ (x ≡ false)
bool_cases x = grind (arith, common_steps)

pub busy_by : (more : Bool) (n : ℕ) → ((n == 0) && not more) ≡ false → (more ≡ true) ⊎ (nat_lt 0 n ≡ true)
busy_by more n h1 = grind (arith, common_steps)

pub busy_of : (s : ReportState) (n : ℕ) → is_over (record s { buffered = n }) ≡ false → to_hand s ≡ [] → nat_lt 0 n ≡ true
busy_of s n o e = elim (busy_by (is_more s) n o) [ inl m ↦ absurd (hand_some s m e) | inr b ↦ b ]

pub over_none : (more : Bool) (n : ℕ) → ((n == 0) && not more) ≡ true → (more ≡ false) × (n ≡ 0)
over_none more n h1 = grind (arith, common_steps)

pub no_length : {A : Type 0} (xs : List A) → length xs ≡ 0 → xs ≡ []
no_length xs h1 = grind (arith, common_steps)

pub reported_goes : (s : ReportState) (n count : ℕ) (b : Bus1) (calls : List EpCall) → n ≡ s.buffered - count → b.taken ≡ count
    → is_over (record s { buffered = n }) ≡ false → Going s b calls → Going (record s { buffered = n }) (reported b) calls
reported_goes s n count b calls m t o g =
    let counted = g.counted in
    record {
      counted = omega (arith, counted, t, m);
      closed = g.closed;
      sure = g.sure;
      earlier = g.earlier;
      sent = g.sent;
      old = g.old;
      begun = g.begun;
      has = g.has;
      will = g.will;
      ours = g.ours;
      even = g.even;
      busy = λ x. busy_of s n o x;
      last = g.last;
      fewer = g.fewer;
    }

pub taken_goes : (s : ReportState) (n count : ℕ) (b : Bus1) (calls : List EpCall) → n ≡ s.buffered - count → s.course ≡ Goes → b.taken ≡ count
    → is_over (record s { buffered = n }) ≡ false → Link1 s b calls → Link1 (record s { buffered = n }) (reported b) calls
taken_goes s n count b calls m e t o h =
    let N : Course → Type 0 = λ x. Now1 x (core s) b calls in
    let M : Course → Type 0 = λ x. Now1 x (core (record s { buffered = n })) (reported b) calls in
    record {
      asked = h.asked;
      fresh = λ x. ap (λ y. reported y) (h.fresh x);
      current = λ r. subst M (sym e) (reported_goes (core s) n count b calls m t o (subst N e (h.current r)));
    }

pub new_none : (a : Bool) → new_of a [] ≡ []
new_none a = grind (arith, common_steps)

pub reported_over : (s : ReportState) (k count : ℕ) (b : Bus1) (calls : List EpCall) → k ≡ s.buffered - count → b.taken ≡ count
    → is_over (record s { buffered = k }) ≡ true → Going s b calls → Resting (record s { buffered = k; course = Rests }) (reported b) calls
reported_over s k count b calls m t o g =
    let n = over_none (is_more s) k o in
    let counted = g.counted in
    let left = n.1 in
    let none : length b.slots ≡ 0 = omega (arith, counted, t, left, m) in
    let empty : b.slots ≡ [] = no_length b.slots none in
    let W : List (List ℕ) → Type 0 = λ x. Carries s.size (with_new (new_of (agree b) (x ++ to_hand s)) b.got) (Reported s.report ∷ g.earlier) in
    let V : List (List ℕ) → Type 0 = λ x. Carries s.size (with_new (new_of (agree b) x) b.got) (Reported s.report ∷ g.earlier) in
    let U : List (List ℕ) → Type 0 = λ x. Carries s.size (with_new x b.got) (Reported s.report ∷ g.earlier) in
    let C : List Sent → Type 0 = λ x. Carries s.size b.got x in
    let A : Bool → Type 0 = λ x. Agrees x s.lost b in
    record {
      free = record { empty = empty; reported = refl; agrees = reported_agrees s.unsure s.lost b (subst A (sym g.sure) (g.even empty, λ x. absurd (true_false (sym x ∙ g.closed)))) };
      carried = newest_carries false s.size b.got (sent_of calls) (subst C (sym g.sent) (subst U (new_none (agree b)) (subst V (hand_none s n.0) (subst W empty g.will))));
      marked = λ x. absurd (true_false (sym x ∙ g.sure));
    }

pub taken_over : (s : ReportState) (k count : ℕ) (b : Bus1) (calls : List EpCall) → k ≡ s.buffered - count → s.course ≡ Goes → b.taken ≡ count
    → is_over (record s { buffered = k }) ≡ true → Link1 s b calls → Link1 (record s { buffered = k; course = Rests }) (reported b) calls
taken_over s k count b calls m e t o h =
    let N : Course → Type 0 = λ x. Now1 x (core s) b calls in
    record { asked = h.asked; fresh = λ x. ap (λ y. reported y) (h.fresh x); current = λ r. reported_over (core s) k count b calls m t o (subst N e (h.current r)) }
