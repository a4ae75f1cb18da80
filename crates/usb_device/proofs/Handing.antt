-- What is handed over to the buffers of endpoint 1.
use Rattle.std.proofs.lemmas.Grind.{common_steps}
use Rattle.std.proofs.Common.{◌==◌, ◌≡◌, ℕ, ◌+◌, Bool, true, false, List, [], ◌∷◌, ◌++◌, length, ◌&&◌, ◌||◌, ◌<◌, ◌≤◌, None, refl, sym, ap, subst, ◌∙◌, ◌⊎◌, inl, inr, arith}
use Rattle.usb_device.specs.declared.report_buffers.Course.{Course}
use Rattle.usb_device.specs.declared.report_buffers.Course.TheVariants.{Rests, Begins, Goes}
use Rattle.usb_device.specs.Calls.{EpCall, Polled}
use Rattle.usb_device.specs.Bus1.{Bus1, Reported, newest, is_old, blank, agree, Goes1, unless_reset, filled, room_of}
use Rattle.usb_device.specs.Reports.{cut, count_of, packets_of, with_new, HasNew, Carries}
use Rattle.usb_device.specs.representation.Link1.{core, may_send, IsHeld, NothingWithheld, was_reset, has_none, ReportState, is_more, to_hand, copies, new_of, ArePackets, Agrees, Beginning, Going, Now1, Link1}
use Rattle.usb_device.proofs.Carrying.{true_false, all_own, own-append, own_copies, snoc-append, snoc_some, snoc-length, length-append, length-cut, will}
use Rattle.usb_device.proofs.Reporting.{goes1, positive, lt_suc, bool_cases}

-- a packet is put into a buffer
pub set_full : Bus1 → List ℕ → Bus1
set_full b packet = record { got = b.got; host = b.host; device = b.device; slots = b.slots ++ packet ∷ []; taken = b.taken; opened = false; reset = b.reset }

pub agrees_sure : (unsure lost : Bool) (b : Bus1) → Agrees unsure lost b → unsure ≡ false → agree b ≡ true
agrees_sure unsure lost b h1 h2 = grind (arith, common_steps)

-- all packets of a report that begins are left; once more, where the toggles may differ
first_last : (unsure : Bool) (size : ℕ) (report : List ℕ) (xs : List (List ℕ)) → xs ≡ packets_of size report ++ copies unsure (packets_of size report)
    → length xs ≤ count_of size report → unsure ≡ false
first_last false size report xs e l = refl
first_last true size report xs e l =
    let p = packets_of size report in
    let x = ap (λ (y : List (List ℕ)). length y) e in
    let a = length-append p p in
    let c = length-cut size (count_of size report) report in
    let some : 0 < count_of size report = omega arith in
    absurd (omega (arith, x, a, c, l, some))

first_fewer : (unsure : Bool) (size : ℕ) (report : List ℕ) (xs : List (List ℕ)) → xs ≡ packets_of size report ++ copies unsure (packets_of size report)
    → length xs < count_of size report → ⊥
first_fewer unsure size report xs e l =
    let p = packets_of size report in
    let x = ap (λ (y : List (List ℕ)). length y) e in
    let a = length-append p (copies unsure p) in
    let c = length-cut size (count_of size report) report in
    omega (arith, x, a, c, l)

pub first_going : (s : ReportState) (b : Bus1) (calls : List EpCall) (packet rest : List ℕ) (due : ℕ) (again : Bool)
    → packets_of s.size s.report ++ copies s.unsure (packets_of s.size s.report) ≡ packet ∷ (cut s.size due rest ++ copies again (packets_of s.size s.report))
    → Beginning s b calls → Going (record s { rest = rest; due = due; again = again; unsure = false; lost = false; old = false; course = Goes; buffered = 1 }) (set_full b packet) calls
unfolding set_full
first_going s b calls packet rest due again e h =
    let p = packets_of s.size s.report in
    let hand = cut s.size due rest ++ copies again p in
    let empty = sym h.free.empty in
    let W : List (List ℕ) → Type 0 = λ x. Carries s.size (with_new (new_of (agree b) x) b.got) (Reported s.report ∷ h.earlier) in
    let X : List (List ℕ) → Type 0 = λ x. Carries s.size (with_new (new_of (agree b) ((x ++ packet ∷ []) ++ hand)) b.got) (Reported s.report ∷ h.earlier) in
    let O : List (List ℕ) → Type 0 = λ x. ArePackets s.size s.report x in
    let Q : List (List ℕ) → Type 0 = λ x. ArePackets s.size s.report ((x ++ packet ∷ []) ++ hand) in
    let L : List (List ℕ) → Type 0 = λ x. 1 ≡ length (x ++ packet ∷ []) + b.taken in
    let reported = h.free.reported in
    let sure : s.unsure ≡ false → agree b ≡ true = λ x. agrees_sure s.unsure s.lost b h.free.agrees x in
    let xs = (b.slots ++ packet ∷ []) ++ hand in
    let E : List (List ℕ) → Type 0 = λ x. (x ++ packet ∷ []) ++ hand ≡ p ++ copies s.unsure p in
    let left : xs ≡ p ++ copies s.unsure p = subst E empty (sym e) in
    record {
      counted = subst L empty (omega (arith, reported));
      closed = refl;
      sure = refl;
      earlier = h.earlier;
      sent = ap (λ x. newest x) h.sent;
      old = ap (λ x. is_old x) h.sent;
      begun = h.begun;
      has = λ o. absurd (true_false (sym o));
      will = subst X empty (subst W e (will s.unsure (agree b) s.size s.report b.got h.begun.pieces h.begun.before h.earlier h.begun.got_is h.begun.are h.once h.marked sure h.begun.carried));
      ours = subst Q empty (subst O e (own-append s.size s.report p (copies s.unsure p) (all_own s.size s.report) (own_copies s.size s.report s.unsure)));
      even = λ n. absurd (snoc_some b.slots packet n);
      busy = λ _. refl;
      last = λ l. inl (sure (first_last s.unsure s.size s.report xs left l));
      fewer = λ l. absurd (first_fewer s.unsure s.size s.report xs left l);
    }

pub more_going : (s : ReportState) (b : Bus1) (calls : List EpCall) (packet rest : List ℕ) (due : ℕ) (again : Bool)
    → to_hand s ≡ packet ∷ (cut s.size due rest ++ copies again (packets_of s.size s.report))
    → Going s b calls → Going (record s { rest = rest; due = due; again = again; buffered = s.buffered + 1 }) (set_full b packet) calls
unfolding set_full
more_going s b calls packet rest due again e h =
    let hand = cut s.size due rest ++ copies again (packets_of s.size s.report) in
    let same : b.slots ++ to_hand s ≡ (b.slots ++ packet ∷ []) ++ hand = ap (λ x. b.slots ++ x) e ∙ sym (snoc-append b.slots packet hand) in
    let W : List (List ℕ) → Type 0 = λ x. Carries s.size (with_new (new_of (agree b) x) b.got) (Reported s.report ∷ h.earlier) in
    let O : List (List ℕ) → Type 0 = λ x. ArePackets s.size s.report x in
    let F : List (List ℕ) → Type 0 = λ x. length x ≤ count_of s.size s.report → (agree b ≡ true) ⊎ HasNew h.begun.pieces in
    let G : List (List ℕ) → Type 0 = λ x. length x < count_of s.size s.report → HasNew h.begun.pieces in
    let counted = h.counted in
    let longer = snoc-length b.slots packet in
    record {
      counted = omega (arith, counted, longer);
      closed = refl;
      sure = h.sure;
      earlier = h.earlier;
      sent = h.sent;
      old = h.old;
      begun = h.begun;
      has = h.has;
      will = subst W same h.will;
      ours = subst O same h.ours;
      even = λ n. absurd (snoc_some b.slots packet n);
      busy = λ _. positive s.buffered;
      last = subst F same h.last;
      fewer = subst G same h.fewer;
    }

pub filled_by : (reset : Bool) (s n : ReportState) (b : Bus1) (calls : List EpCall) (packet : List ℕ) → b.reset ≡ reset → n.protocol ≡ s.protocol → Link1 s b calls
    → n.course ≡ Goes → (b.reset ≡ false → Going (core n) (set_full b packet) calls) → Link1 n (unless_reset reset b (set_full b packet)) calls
unfolding set_full
filled_by reset s n b calls packet h1 h2 h3 h4 h5 = grind (arith, common_steps)

pub slots_of_blank : (b : Bus1) → b ≡ blank true → b.slots ≡ []
slots_of_blank b e = ap (λ (y : Bus1). y.slots) e

pub one_room : (two : Bool) → 0 < room_of two
one_room two = grind (arith, common_steps)

-- the first packet of a report
pub first_link : (s r n : ReportState) (steps : List Bus1) (b mid new : Bus1) (calls : List EpCall) (packet : List ℕ) (two : Bool) → s.course ≡ Begins
    → r ≡ record s { rest = s.report; due = count_of s.size s.report; again = s.unsure; unsure = false; lost = false; old = false }
    → n ≡ record r { rest = n.rest; due = n.due; again = n.again } → (is_more r ≡ true → to_hand r ≡ packet ∷ to_hand n)
    → Goes1 steps b mid → (length mid.slots < room_of two → new ≡ filled mid packet) → Link1 s b calls
    → Link1 (record n { course = Goes; buffered = 1 }) new calls
unfolding set_full
first_link s r n steps b mid new calls packet two c er en p g f h =
    let m = goes1 steps s b mid calls g h in
    let N : Course → Type 0 = λ x. Now1 x (core s) mid calls in
    let start : ReportState = record s { rest = s.report; due = count_of s.size s.report; again = s.unsure; unsure = false; lost = false; old = false } in
    let M : ReportState → Type 0 = λ x. is_more x ≡ true in
    let more : is_more r ≡ true = subst M (sym er) (ap (λ x. x || s.unsure) (lt_suc _)) in
    let end : ReportState = record start { rest = n.rest; due = n.due; again = n.again } in
    let E : ReportState → Type 0 = λ x. n ≡ record x { rest = n.rest; due = n.due; again = n.again } in
    let same : n ≡ end = subst E er en in
    let F : ReportState → ReportState → Type 0 = λ x y. to_hand x ≡ packet ∷ to_hand y in
    let F1 : ReportState → Type 0 = λ x. F x n in
    let F2 : ReportState → Type 0 = λ x. F start x in
    let handed : F start end = subst F2 same (subst F1 er (p more)) in
    let L : ReportState → Type 0 = λ x. Link1 (record x { course = Goes; buffered = 1 }) (filled mid packet) calls in
    let empty : mid.slots ≡ [] = elim (bool_cases mid.reset) [ inl x ↦ slots_of_blank mid (m.fresh x) | inr x ↦ (subst N c (m.current x)).free.empty ] in
    let R : List (List ℕ) → Type 0 = λ x. length x < room_of two in
    let P : Bus1 → Type 0 = λ x. Link1 (record n { course = Goes; buffered = 1 }) x calls in
    subst P (sym (f (subst R (sym empty) (one_room two))))
    (subst L (sym same) (filled_by mid.reset s (record end { course = Goes; buffered = 1 }) mid calls packet refl refl m refl
    (λ x. first_going (core s) mid calls packet n.rest n.due n.again handed (subst N c (m.current x)))))

-- another packet of it
pub more_link : (s n : ReportState) (steps : List Bus1) (b mid new : Bus1) (calls : List EpCall) (packet : List ℕ) (two : Bool) → s.course ≡ Goes
    → n ≡ record s { rest = n.rest; due = n.due; again = n.again } → to_hand s ≡ packet ∷ to_hand n → s.buffered < room_of two
    → Goes1 steps b mid → (length mid.slots < room_of two → new ≡ filled mid packet) → Link1 s b calls
    → Link1 (record n { buffered = n.buffered + 1 }) new calls
unfolding set_full
more_link s n steps b mid new calls packet two c en p room g f h =
    let m = goes1 steps s b mid calls g h in
    let N : Course → Type 0 = λ x. Now1 x (core s) mid calls in
    let end : ReportState = record s { rest = n.rest; due = n.due; again = n.again } in
    let F : ReportState → Type 0 = λ x. to_hand s ≡ packet ∷ to_hand x in
    let L : ReportState → Type 0 = λ x. Link1 (record x { buffered = x.buffered + 1 }) (filled mid packet) calls in
    let E : List (List ℕ) → Type 0 = λ x. length x < room_of two in
    let fits : length mid.slots < room_of two = elim (bool_cases mid.reset) [
      | inl x ↦ subst E (sym (slots_of_blank mid (m.fresh x))) (one_room two)
      | inr x ↦ (let k = (subst N c (m.current x)).counted in omega (arith, k, room))
    ] in
    let P : Bus1 → Type 0 = λ x. Link1 (record n { buffered = n.buffered + 1 }) x calls in
    subst P (sym (f fits))
    (subst L (sym en) (filled_by mid.reset s (record end { buffered = s.buffered + 1 }) mid calls packet refl refl m c
    (λ x. more_going (core s) mid calls packet n.rest n.due n.again (subst F en p) (subst N c (m.current x)))))

-- nothing is withheld
pub going_held : (may : Bool) (two : Bool) (s : ReportState) (b : Bus1) (calls : List EpCall) → Going (core s) b calls → IsHeld (room_of two) s
    → NothingWithheld may (room_of two) s b calls
going_held may two s b calls h1 h2 = grind (arith, common_steps)

pub goes_held : (may : Bool) (two : Bool) (s : ReportState) (b : Bus1) (calls : List EpCall) → s.course ≡ Goes → Link1 s b calls → IsHeld (room_of two) s
    → NothingWithheld may (room_of two) s b calls
goes_held may two s b calls e h held = elim (bool_cases b.reset) [
  | inl r ↦ was_reset r
  | inr r ↦ (let N : Course → Type 0 = λ x. Now1 x (core s) b calls in going_held may two s b calls (subst N e (h.current r)) held)
]

pub rests_none : (may : Bool) (room : ℕ) (s : ReportState) (b : Bus1) (before calls : List EpCall) → s.course ≡ Rests → Link1 s b calls → calls ≡ Polled None ∷ before
    → NothingWithheld may room s b calls
rests_none may room s b before calls e h c = elim (bool_cases b.reset) [
  | inl r ↦ was_reset r
  | inr r ↦ (let N : Course → Type 0 = λ x. Now1 x (core s) b calls in has_none before (subst N e (h.current r)).free.empty c)
]

pub may_by : (is_ready : Bool) (left : ℕ) → is_ready ≡ true → (left == 0) ≡ true → may_send is_ready left ≡ true
may_by is_ready left r w = ap (λ x. x && (left == 0)) r ∙ ap (λ x. true && x) w

pub may_unready : (is_ready : Bool) (left : ℕ) → is_ready ≡ false → may_send is_ready left ≡ false
may_unready is_ready left e = ap (λ x. x && (left == 0)) e

pub may_unknown : (is_ready : Bool) (left : ℕ) → (left == 0) ≡ false → may_send is_ready left ≡ false
may_unknown is_ready left h1 = grind (arith, common_steps)

pub first_fits : (s : ReportState) (steps : List Bus1) (b mid : Bus1) (calls : List EpCall) (two : Bool) → s.course ≡ Begins → Goes1 steps b mid → Link1 s b calls
    → length mid.slots < room_of two
first_fits s steps b mid calls two c g h =
    let m = goes1 steps s b mid calls g h in
    let N : Course → Type 0 = λ x. Now1 x (core s) mid calls in
    let empty : mid.slots ≡ [] = elim (bool_cases mid.reset) [ inl x ↦ slots_of_blank mid (m.fresh x) | inr x ↦ (subst N c (m.current x)).free.empty ] in
    let R : List (List ℕ) → Type 0 = λ x. length x < room_of two in
    subst R (sym empty) (one_room two)

pub more_fits : (s : ReportState) (steps : List Bus1) (b mid : Bus1) (calls : List EpCall) (two : Bool) → s.course ≡ Goes → s.buffered < room_of two → Goes1 steps b mid
    → Link1 s b calls → length mid.slots < room_of two
more_fits s steps b mid calls two c room g h =
    let m = goes1 steps s b mid calls g h in
    let N : Course → Type 0 = λ x. Now1 x (core s) mid calls in
    let E : List (List ℕ) → Type 0 = λ x. length x < room_of two in
    elim (bool_cases mid.reset) [
      | inl x ↦ subst E (sym (slots_of_blank mid (m.fresh x))) (one_room two)
      | inr x ↦ (let k = (subst N c (m.current x)).counted in omega (arith, k, room))
    ]
