-- What a lock and a pace hold.
use Rattle.std.proofs.lemmas.Grind.{common_steps}
use Rattle.std.proofs.Common.{◌≡◌, ℕ, ◌+◌, ◌*◌, ◌≤◌, ◌<◌, ◌&&◌, ◌||◌, nat_lt, Bool, true, false, List, [], ◌∷◌, ◌++◌, Some, refl, sym, ap, subst, ◌∙◌, inl, inr, arith}
use Rattle.usb_device.specs.declared.answer.EpAnswer.{EpAnswer}
use Rattle.usb_device.specs.declared.answer.EpAnswer.TheVariants.{Ack, Nak, Packet, Stall}
use Rattle.usb_device.specs.Calls.{EpCall, SetUp, Out, In, Polled, BusReset}
use Rattle.usb_device.specs.Bus.{Seen}
use Rattle.usb_device.specs.Confirmed.{asked_of, taken_of, confirmation, TakesOnly, ConfirmedBefore}
use Rattle.usb_device.specs.Guarding.{GuardCall, Met, Locked, Scanned, calls_met, scans, is_feature, writes, is_command, one_if, commands_shown, commands_taken, is_locked, is_refused, zero_if, scans_since, Passage, Refuses, Waits, Passes, passage_by, passage, OutAnswer, StallIf, IsGuarded, AllGuarded, call_by, call_unless, passed, StaysLocked, IsStatusStage, DeviceCall, Serves, SetsLock, ScansRows, Else, OnlyMet, AllBring, locks, KeepsLock, rows_scanned}
use Rattle.usb_device.proofs.Linked.{takes_as}

-- ---- what goes on to the device behind is of the same transfer

asked_out : (p : Passage) (packet : List ℕ) (answer : EpAnswer) (calls : List EpCall) → asked_of (call_by p (Out packet answer) calls) ≡ asked_of calls
asked_out p packet answer calls = grind (arith, common_steps)

asked_in : (b : Bool) (answer : EpAnswer) (calls : List EpCall) → asked_of (call_unless b (In answer) calls) ≡ asked_of calls
asked_in b answer calls = grind (arith, common_steps)

same_asked : (pace : ℕ) (past : List GuardCall) → asked_of (passed pace past) ≡ asked_of (calls_met past)
unfolding passed
same_asked pace [] = refl
same_asked pace (Met (SetUp bytes) ∷ past) = refl
same_asked pace (Met (Out packet answer) ∷ past) = asked_out (passage pace past packet) packet answer (passed pace past) ∙ same_asked pace past
same_asked pace (Met (In answer) ∷ past) = asked_in (is_refused past) answer (passed pace past) ∙ same_asked pace past
same_asked pace (Met (Polled answer) ∷ past) = same_asked pace past
same_asked pace (Met BusReset ∷ past) = refl
same_asked pace (Locked on ∷ past) = same_asked pace past
same_asked pace (Scanned ∷ past) = same_asked pace past

same_command : (pace : ℕ) (past : List GuardCall) (packet : List ℕ) → is_command (passed pace past) packet ≡ is_command (calls_met past) packet
unfolding is_command
same_command pace past packet = ap (λ x. is_feature x && writes packet) (same_asked pace past)

-- ---- the lock

locked_passage : (refused command : Bool) (waits : Bool) → command ≡ true → passage_by (refused || (true && command)) (command && waits) ≡ Refuses
locked_passage refused command waits h1 = grind (arith, common_steps)

pub refused_if : (pace : ℕ) (past : List GuardCall) (packet : List ℕ) → is_locked past ≡ true → is_command (calls_met past) packet ≡ true → passage pace past packet ≡ Refuses
unfolding passage
refused_if pace past packet l c = rw l (locked_passage (is_refused past) (is_command (calls_met past) packet) (nat_lt (scans_since past) pace) c)

stall_of : (p : Passage) (answer : EpAnswer) → p ≡ Refuses → OutAnswer p answer → answer ≡ Stall
stall_of p answer h1 h2 = grind (arith, common_steps)

pub stalled : (pace : ℕ) (past : List GuardCall) (packet : List ℕ) (answer : EpAnswer) → AllGuarded pace (Met (Out packet answer) ∷ past) → is_locked past ≡ true → is_command (calls_met past) packet ≡ true
    → answer ≡ Stall
stalled pace past packet answer all l c = stall_of (passage pace past packet) answer (refused_if pace past packet l c) all.0

other : (b : Bool) (count : ℕ) → (b ≡ true → ⊥) → one_if b count ≡ count
other b count h1 = grind (arith, common_steps)

-- of a packet that is a command, where it is refused, nothing is counted; of any other packet neither
shown_out : (p : Passage) (packet : List ℕ) (answer : EpAnswer) (calls : List EpCall) → (is_command calls packet ≡ true → p ≡ Refuses)
    → commands_shown (call_by p (Out packet answer) calls) ≡ commands_shown calls
shown_out p packet answer calls h1 = grind (arith, common_steps)

shown_in : (b : Bool) (answer : EpAnswer) (calls : List EpCall) → commands_shown (call_unless b (In answer) calls) ≡ commands_shown calls
shown_in b answer calls = grind (arith, common_steps)

taken_out : (p : Passage) (packet : List ℕ) (answer : EpAnswer) (calls : List EpCall) → (is_command calls packet ≡ true → p ≡ Refuses)
    → commands_taken (call_by p (Out packet answer) calls) ≡ commands_taken calls
taken_out p packet answer calls h1 = grind (arith, common_steps)

taken_in : (b : Bool) (answer : EpAnswer) (calls : List EpCall) → commands_taken (call_unless b (In answer) calls) ≡ commands_taken calls
taken_in b answer calls = grind (arith, common_steps)

still_locked : (since before : List GuardCall) → is_locked before ≡ true → StaysLocked since → is_locked (since ++ before) ≡ true
still_locked [] before l s = l
still_locked (Met (SetUp bytes) ∷ since) before l s = still_locked since before l s
still_locked (Met (Out packet answer) ∷ since) before l s = still_locked since before l s
still_locked (Met (In answer) ∷ since) before l s = still_locked since before l s
still_locked (Met (Polled answer) ∷ since) before l s = still_locked since before l s
still_locked (Met BusReset ∷ since) before l s = still_locked since before l s
still_locked (Locked on ∷ since) before l s = s.0
still_locked (Scanned ∷ since) before l s = still_locked since before l s

refused_of : (pace : ℕ) (past : List GuardCall) (packet : List ℕ) → is_locked past ≡ true → is_command (passed pace past) packet ≡ true → passage pace past packet ≡ Refuses
refused_of pace past packet l c = refused_if pace past packet l (sym (same_command pace past packet) ∙ c)

pub shown : (pace : ℕ) (since before : List GuardCall) → is_locked before ≡ true → StaysLocked since → commands_shown (passed pace (since ++ before)) ≡ commands_shown (passed pace before)
unfolding passed
shown pace [] before l s = refl
shown pace (Met (SetUp bytes) ∷ since) before l s = shown pace since before l s
shown pace (Met (Out packet answer) ∷ since) before l s =
    let past = since ++ before in
    shown_out (passage pace past packet) packet answer (passed pace past) (refused_of pace past packet (still_locked since before l s)) ∙ shown pace since before l s
shown pace (Met (In answer) ∷ since) before l s = shown_in (is_refused (since ++ before)) answer (passed pace (since ++ before)) ∙ shown pace since before l s
shown pace (Met (Polled answer) ∷ since) before l s = shown pace since before l s
shown pace (Met BusReset ∷ since) before l s = shown pace since before l s
shown pace (Locked on ∷ since) before l s = shown pace since before l s.1
shown pace (Scanned ∷ since) before l s = shown pace since before l s

pub taken : (pace : ℕ) (since before : List GuardCall) → is_locked before ≡ true → StaysLocked since → commands_taken (passed pace (since ++ before)) ≡ commands_taken (passed pace before)
unfolding passed
taken pace [] before l s = refl
taken pace (Met (SetUp bytes) ∷ since) before l s = taken pace since before l s
taken pace (Met (Out packet answer) ∷ since) before l s =
    let past = since ++ before in
    taken_out (passage pace past packet) packet answer (passed pace past) (refused_of pace past packet (still_locked since before l s)) ∙ taken pace since before l s
taken pace (Met (In answer) ∷ since) before l s = taken_in (is_refused (since ++ before)) answer (passed pace (since ++ before)) ∙ taken pace since before l s
taken pace (Met (Polled answer) ∷ since) before l s = taken pace since before l s
taken pace (Met BusReset ∷ since) before l s = taken pace since before l s
taken pace (Locked on ∷ since) before l s = taken pace since before l s.1
taken pace (Scanned ∷ since) before l s = taken pace since before l s

-- ---- what goes on

no_command : (past : List GuardCall) (packet : List ℕ) → is_feature (asked_of (calls_met past)) ≡ false → is_command (calls_met past) packet ≡ false
unfolding is_command
no_command past packet e = rw e refl

neither_and : (r l : Bool) (c : Bool) → r ≡ false → c ≡ false → (r || (l && c)) ≡ false
neither_and r l c h1 h2 = grind (arith, common_steps)

pub not_refused : (past : List GuardCall) → is_feature (asked_of (calls_met past)) ≡ false → is_refused past ≡ false
unfolding is_refused
not_refused [] e = refl
not_refused (Met (SetUp bytes) ∷ past) e = refl
not_refused (Met (Out packet answer) ∷ past) e = neither_and (is_refused past) (is_locked past) (is_command (calls_met past) packet) (not_refused past e) (no_command past packet e)
not_refused (Met (In answer) ∷ past) e = not_refused past e
not_refused (Met (Polled answer) ∷ past) e = not_refused past e
not_refused (Met BusReset ∷ past) e = refl
not_refused (Locked on ∷ past) e = not_refused past e
not_refused (Scanned ∷ past) e = not_refused past e

pub goes_by : (pace : ℕ) (past : List GuardCall) (packet : List ℕ) → is_feature (asked_of (calls_met past)) ≡ false → passage pace past packet ≡ Passes
unfolding passage
goes_by pace past packet e =
    let r = not_refused past e in
    let c = no_command past packet e in
    rw (neither_and (is_refused past) (is_locked past) (is_command (calls_met past) packet) r c, c) refl

acked : (b w : Bool) → OutAnswer (passage_by b w) Ack → b ≡ false
acked b w h1 = grind (arith, common_steps)

taken_not_refused : (pace : ℕ) (past : List GuardCall) (packet : List ℕ) → IsGuarded pace past (Met (Out packet Ack)) → is_refused (Met (Out packet Ack) ∷ past) ≡ false
unfolding is_refused passage
taken_not_refused pace past packet g =
    acked (is_refused past || (is_locked past && is_command (calls_met past) packet)) (is_command (calls_met past) packet && nat_lt (scans_since past) pace) g

pub status : (pace : ℕ) (since before : List GuardCall) (packet : List ℕ) → AllGuarded pace (Met (Out packet Ack) ∷ before) → IsStatusStage since → is_refused (since ++ Met (Out packet Ack) ∷ before) ≡ false
unfolding is_refused
status pace [] before packet all s = taken_not_refused pace before packet all.0
status pace (Met (SetUp bytes) ∷ since) before packet all s = absurd s
status pace (Met (Out other answer) ∷ since) before packet all s = absurd s
status pace (Met (In answer) ∷ since) before packet all s = status pace since before packet all s
status pace (Met (Polled answer) ∷ since) before packet all s = status pace since before packet all s
status pace (Met BusReset ∷ since) before packet all s = absurd s
status pace (Locked on ∷ since) before packet all s = status pace since before packet all s
status pace (Scanned ∷ since) before packet all s = status pace since before packet all s

-- ---- what was confirmed

data_out : (p : Passage) (packet : List ℕ) (answer : EpAnswer) (calls met : List EpCall) → OutAnswer p answer → taken_of calls ≡ taken_of met → taken_of (call_by p (Out packet answer) calls) ≡ taken_of (Out packet answer ∷ met)
data_out p packet answer calls met h1 h2 = grind (arith, common_steps)

data_in : (b : Bool) (answer : EpAnswer) (calls : List EpCall) → taken_of (call_unless b (In answer) calls) ≡ taken_of calls
data_in b answer calls = grind (arith, common_steps)

same_data : (pace : ℕ) (past : List GuardCall) → AllGuarded pace past → taken_of (passed pace past) ≡ taken_of (calls_met past)
unfolding passed
same_data pace [] all = refl
same_data pace (Met (SetUp bytes) ∷ past) all = refl
same_data pace (Met (Out packet answer) ∷ past) all = data_out (passage pace past packet) packet answer (passed pace past) (calls_met past) all.0 (same_data pace past all.1)
same_data pace (Met (In answer) ∷ past) all = data_in (is_refused past) answer (passed pace past) ∙ same_data pace past all.1
same_data pace (Met (Polled answer) ∷ past) all = same_data pace past all.1
same_data pace (Met BusReset ∷ past) all = refl
same_data pace (Locked on ∷ past) all = same_data pace past all.1
same_data pace (Scanned ∷ past) all = same_data pace past all.1

deeper_out : (p : Passage) (call : EpCall) (calls : List EpCall) (sent : List Seen) (setup data_ : List ℕ) → TakesOnly sent calls call → ConfirmedBefore sent setup data_ calls
    → ConfirmedBefore sent setup data_ (call_by p call calls)
deeper_out p call calls sent setup data_ h1 h2 = grind (arith, common_steps)

deeper_in : (b : Bool) (answer : EpAnswer) (calls : List EpCall) (sent : List Seen) (setup data_ : List ℕ) → ConfirmedBefore sent setup data_ calls
    → ConfirmedBefore sent setup data_ (call_unless b (In answer) calls)
deeper_in b answer calls sent setup data_ h1 = grind (arith, common_steps)

confirmed_in : (b : Bool) (answer : EpAnswer) (calls : List EpCall) (sent : List Seen) (setup data_ : List ℕ) → StallIf b answer → In answer ≡ confirmation → asked_of calls ≡ Some setup → taken_of calls ≡ Some data_
    → ConfirmedBefore sent setup data_ (call_unless b (In answer) calls)
confirmed_in b answer calls sent setup data_ h1 h2 h3 h4 = grind (arith, common_steps)

pub confirmed : (pace : ℕ) (past : List GuardCall) (sent : List Seen) (setup data_ : List ℕ) → AllGuarded pace past → ConfirmedBefore sent setup data_ (calls_met past)
    → ConfirmedBefore sent setup data_ (passed pace past)
unfolding passed
confirmed pace [] sent setup data_ all w = absurd w
confirmed pace (Met (SetUp bytes) ∷ past) sent setup data_ all (inl w) = absurd (let e = w.0 in cc)
confirmed pace (Met (SetUp bytes) ∷ past) sent setup data_ all (inr w) = inr (tt, confirmed pace past sent setup data_ all.1 w.1)
confirmed pace (Met (Out packet answer) ∷ past) sent setup data_ all (inl w) = absurd (let e = w.0 in cc)
confirmed pace (Met (Out packet answer) ∷ past) sent setup data_ all (inr w) =
    deeper_out (passage pace past packet) (Out packet answer) (passed pace past) sent setup data_ (takes_as sent packet answer (passed pace past) (calls_met past) (same_asked pace past) w.0)
    (confirmed pace past sent setup data_ all.1 w.1)
confirmed pace (Met (In answer) ∷ past) sent setup data_ all (inl w) =
    confirmed_in (is_refused past) answer (passed pace past) sent setup data_ all.0 w.0 (same_asked pace past ∙ w.1) (same_data pace past all.1 ∙ w.2)
confirmed pace (Met (In answer) ∷ past) sent setup data_ all (inr w) = deeper_in (is_refused past) answer (passed pace past) sent setup data_ (confirmed pace past sent setup data_ all.1 w.1)
confirmed pace (Met (Polled answer) ∷ past) sent setup data_ all (inl w) = absurd (let e = w.0 in cc)
confirmed pace (Met (Polled answer) ∷ past) sent setup data_ all (inr w) = inr (tt, confirmed pace past sent setup data_ all.1 w.1)
confirmed pace (Met BusReset ∷ past) sent setup data_ all (inl w) = absurd (let e = w.0 in cc)
confirmed pace (Met BusReset ∷ past) sent setup data_ all (inr w) = inr (tt, confirmed pace past sent setup data_ all.1 w.1)
confirmed pace (Locked on ∷ past) sent setup data_ all w = confirmed pace past sent setup data_ all.1 w
confirmed pace (Scanned ∷ past) sent setup data_ all w = confirmed pace past sent setup data_ all.1 w

-- ---- the pace

-- what an OUT packet does to the number of commands and to the scans since the last one
data Counts (pace now since now_after since_after : ℕ) : Type 0 where
  stays : now_after ≡ now → since_after ≡ since → Counts pace now since now_after since_after
  counts : pace ≤ since → now_after ≡ now + 1 → since_after ≡ 0 → Counts pace now since now_after since_after

count_if : (command : Bool) (pace now since : ℕ) → (command && nat_lt since pace) ≡ false → Counts pace now since (one_if command now) (zero_if command since)
count_if command pace now since h1 = grind (arith, common_steps)

goes_on : (p : Passage) (b w : Bool) → passage_by b w ≡ p → p ≡ Passes → w ≡ false
goes_on p true w e q = cc
goes_on p false true e q = cc
goes_on p false false e q = refl

waits_no : (pace : ℕ) (past : List GuardCall) (packet : List ℕ) → passage pace past packet ≡ Passes → (is_command (calls_met past) packet && nat_lt (scans_since past) pace) ≡ false
unfolding passage
waits_no pace past packet q =
    goes_on (passage pace past packet) (is_refused past || (is_locked past && is_command (calls_met past) packet)) (is_command (calls_met past) packet && nat_lt (scans_since past) pace) refl q

counted : (pace : ℕ) (past : List GuardCall) (packet : List ℕ) (answer : EpAnswer) (p : Passage) → passage pace past packet ≡ p → OutAnswer p answer
    → Counts pace (commands_taken (passed pace past)) (scans_since past) (commands_taken (call_by p (Out packet answer) (passed pace past))) (scans_since (Met (Out packet answer) ∷ past))
unfolding scans_since
counted pace past packet Ack Refuses q a = cc
counted pace past packet Nak Refuses q a = stays refl refl
counted pace past packet (Packet bytes) Refuses q a = stays refl refl
counted pace past packet Stall Refuses q a = stays refl refl
counted pace past packet Ack Waits q a = cc
counted pace past packet Nak Waits q a = stays refl refl
counted pace past packet (Packet bytes) Waits q a = stays refl refl
counted pace past packet Stall Waits q a = stays refl refl
counted pace past packet Ack Passes q a =
    let P : Bool → Type 0 = λ x. Counts pace (commands_taken (passed pace past)) (scans_since past) (one_if x (commands_taken (passed pace past))) (zero_if (is_command (calls_met past) packet) (scans_since past)) in
    subst P (sym (same_command pace past packet)) (count_if (is_command (calls_met past) packet) pace (commands_taken (passed pace past)) (scans_since past) (waits_no pace past packet q))
counted pace past packet Nak Passes q a = stays refl refl
counted pace past packet (Packet bytes) Passes q a = stays refl refl
counted pace past packet Stall Passes q a = stays refl refl

distrib_one : (now pace : ℕ) → (now + 1) * pace ≡ now * pace + pace
distrib_one now pace = grind arith

more_by : (pace now since total : ℕ) → now * pace + since ≤ total → pace ≤ since → (now + 1) * pace + 0 ≤ total
more_by pace now since total h p =
    let e : (now + 1) * pace ≡ now * pace + pace = distrib_one now pace in
    rw e (omega (arith, h, p))

tally_by : (pace now since now_after since_after total : ℕ) → Counts pace now since now_after since_after → now * pace + since ≤ total → now_after * pace + since_after ≤ total
tally_by pace now since now_after since_after total (stays n s) h = rw (n, s) h
tally_by pace now since now_after since_after total (counts p n s) h = rw (n, s) (more_by pace now since total h p)

tally_in : (b : Bool) (answer : EpAnswer) (calls : List EpCall) (pace since total : ℕ) → commands_taken calls * pace + since ≤ total → commands_taken (call_unless b (In answer) calls) * pace + since ≤ total
tally_in b answer calls pace since total h1 = grind (arith, common_steps)

tally : (pace : ℕ) (past : List GuardCall) → AllGuarded pace past → commands_taken (passed pace past) * pace + scans_since past ≤ scans past
unfolding passed scans_since
tally pace [] all = omega arith
tally pace (Met (SetUp bytes) ∷ past) all = tally pace past all.1
tally pace (Met (Out packet answer) ∷ past) all =
    tally_by pace _ _ _ _ (scans past) (counted pace past packet answer (passage pace past packet) refl all.0) (tally pace past all.1)
tally pace (Met (In answer) ∷ past) all = tally_in (is_refused past) answer (passed pace past) pace (scans_since past) (scans past) (tally pace past all.1)
tally pace (Met (Polled answer) ∷ past) all = tally pace past all.1
tally pace (Met BusReset ∷ past) all = tally pace past all.1
tally pace (Locked on ∷ past) all = tally pace past all.1
tally pace (Scanned ∷ past) all = let h = tally pace past all.1 in omega (arith, h)

pub since_start : (pace : ℕ) (past : List GuardCall) → AllGuarded pace past → commands_taken (passed pace past) * pace ≤ scans past
since_start pace past all = let h = tally pace past all in omega (arith, h)

-- none was counted in these calls, or one, and since then fewer scans than these calls brought
data AtMostOne (first now since total : ℕ) : Type 0 where
  none : now ≡ first → AtMostOne first now since total
  one : now ≡ first + 1 → since ≤ total → AtMostOne first now since total

at_most_by : (pace first now since now_after since_after total : ℕ) → total < pace → Counts pace now since now_after since_after → AtMostOne first now since total → AtMostOne first now_after since_after total
at_most_by pace first now since now_after since_after total h1 h2 h3 = grind (arith, common_steps)

at_most_in : (b : Bool) (answer : EpAnswer) (calls : List EpCall) (first since total : ℕ) → AtMostOne first (commands_taken calls) since total → AtMostOne first (commands_taken (call_unless b (In answer) calls)) since total
at_most_in b answer calls first since total h1 = grind (arith, common_steps)

at_most_scan : (first now since total : ℕ) → AtMostOne first now since total → AtMostOne first now (since + 1) (total + 1)
at_most_scan first now since total h1 = grind (arith, common_steps)

at_most_one : (pace : ℕ) (since before : List GuardCall) → AllGuarded pace (since ++ before) → scans since < pace
    → AtMostOne (commands_taken (passed pace before)) (commands_taken (passed pace (since ++ before))) (scans_since (since ++ before)) (scans since)
unfolding passed scans_since
at_most_one pace [] before all l = none refl
at_most_one pace (Met (SetUp bytes) ∷ since) before all l = at_most_one pace since before all.1 l
at_most_one pace (Met (Out packet answer) ∷ since) before all l =
    at_most_by pace _ _ _ _ _ (scans since) l (counted pace (since ++ before) packet answer (passage pace (since ++ before) packet) refl all.0) (at_most_one pace since before all.1 l)
at_most_one pace (Met (In answer) ∷ since) before all l =
    at_most_in (is_refused (since ++ before)) answer (passed pace (since ++ before)) (commands_taken (passed pace before)) (scans_since (since ++ before)) (scans since) (at_most_one pace since before all.1 l)
at_most_one pace (Met (Polled answer) ∷ since) before all l = at_most_one pace since before all.1 l
at_most_one pace (Met BusReset ∷ since) before all l = at_most_one pace since before all.1 l
at_most_one pace (Locked on ∷ since) before all l = at_most_one pace since before all.1 l
at_most_one pace (Scanned ∷ since) before all l = at_most_scan _ _ _ _ (at_most_one pace since before all.1 (omega (arith, l)))

no_more : (first now since total : ℕ) → AtMostOne first now since total → now ≤ first + 1
no_more first now since total h1 = grind (arith, common_steps)

pub between : (pace : ℕ) (since before : List GuardCall) → AllGuarded pace (since ++ before) → scans since < pace → commands_taken (passed pace (since ++ before)) ≤ commands_taken (passed pace before) + 1
between pace since before all l = no_more _ _ _ _ (at_most_one pace since before all l)

-- ---- on the whole device

met_lock : (new old : List GuardCall) → OnlyMet new → is_locked (new ++ old) ≡ is_locked old
met_lock [] old m = refl
met_lock (Met call ∷ new) old m = met_lock new old m
met_lock (Locked on ∷ new) old m = absurd m
met_lock (Scanned ∷ new) old m = absurd m

met_stays : (new old : List GuardCall) → OnlyMet new → StaysLocked old → StaysLocked (new ++ old)
met_stays [] old m s = s
met_stays (Met call ∷ new) old m s = met_stays new old m s
met_stays (Locked on ∷ new) old m s = absurd m
met_stays (Scanned ∷ new) old m s = absurd m

met_scans : (new old : List GuardCall) → OnlyMet new → scans (new ++ old) ≡ scans old
met_scans [] old m = refl
met_scans (Met call ∷ new) old m = met_scans new old m
met_scans (Locked on ∷ new) old m = absurd m
met_scans (Scanned ∷ new) old m = absurd m

-- what a call brought that brings this alone
behind : (new old since these : List GuardCall) → since ≡ new ++ old → new ≡ these → since ≡ these ++ old
behind new old since these e n = e ∙ ap (λ (x : List GuardCall). x ++ old) n

pub lock_is : (calls : List DeviceCall) (past : List GuardCall) → AllBring calls past → is_locked past ≡ locks calls
lock_is [] past b = ap (λ (x : List GuardCall). is_locked x) b
lock_is (Serves ∷ calls) past b = ap (λ (x : List GuardCall). is_locked x) b.4 ∙ met_lock b.0 b.1 b.2 ∙ lock_is calls b.1 b.3
lock_is (SetsLock on ∷ calls) past b = ap (λ (x : List GuardCall). is_locked x) (behind b.0 b.1 past (Locked on ∷ []) b.4 b.2)
lock_is (ScansRows ∷ calls) past b = ap (λ (x : List GuardCall). is_locked x) (behind b.0 b.1 past (Scanned ∷ []) b.4 b.2) ∙ lock_is calls b.1 b.3
lock_is (Else ∷ calls) past b = ap (λ (x : List GuardCall). is_locked x) (behind b.0 b.1 past [] b.4 b.2) ∙ lock_is calls b.1 b.3

pub stays_locked : (calls : List DeviceCall) (since : List GuardCall) → AllBring calls since → KeepsLock calls → StaysLocked since
stays_locked [] since b k = let S : List GuardCall → Type 0 = λ x. StaysLocked x in subst S (sym b) tt
stays_locked (Serves ∷ calls) since b k =
    let S : List GuardCall → Type 0 = λ x. StaysLocked x in
    subst S (sym b.4) (met_stays b.0 b.1 b.2 (stays_locked calls b.1 b.3 k))
stays_locked (SetsLock on ∷ calls) since b k =
    let S : List GuardCall → Type 0 = λ x. StaysLocked x in
    subst S (sym (behind b.0 b.1 since (Locked on ∷ []) b.4 b.2)) (k.0, stays_locked calls b.1 b.3 k.1)
stays_locked (ScansRows ∷ calls) since b k =
    let S : List GuardCall → Type 0 = λ x. StaysLocked x in
    subst S (sym (behind b.0 b.1 since (Scanned ∷ []) b.4 b.2)) (stays_locked calls b.1 b.3 k)
stays_locked (Else ∷ calls) since b k =
    let S : List GuardCall → Type 0 = λ x. StaysLocked x in
    subst S (sym (behind b.0 b.1 since [] b.4 b.2)) (stays_locked calls b.1 b.3 k)

pub scans_are : (calls : List DeviceCall) (since : List GuardCall) → AllBring calls since → scans since ≡ rows_scanned calls
scans_are [] since b = ap (λ (x : List GuardCall). scans x) b
scans_are (Serves ∷ calls) since b = ap (λ (x : List GuardCall). scans x) b.4 ∙ met_scans b.0 b.1 b.2 ∙ scans_are calls b.1 b.3
scans_are (SetsLock on ∷ calls) since b = ap (λ (x : List GuardCall). scans x) (behind b.0 b.1 since (Locked on ∷ []) b.4 b.2) ∙ scans_are calls b.1 b.3
scans_are (ScansRows ∷ calls) since b =
    ap (λ (x : List GuardCall). scans x) (behind b.0 b.1 since (Scanned ∷ []) b.4 b.2) ∙ ap (λ (x : ℕ). x + 1) (scans_are calls b.1 b.3)
scans_are (Else ∷ calls) since b = ap (λ (x : List GuardCall). scans x) (behind b.0 b.1 since [] b.4 b.2) ∙ scans_are calls b.1 b.3

pub between_scans : (pace : ℕ) (calls : List DeviceCall) (since before : List GuardCall) → AllBring calls since → AllGuarded pace (since ++ before) → rows_scanned calls < pace
    → commands_taken (passed pace (since ++ before)) ≤ commands_taken (passed pace before) + 1
between_scans pace calls since before b all l = between pace since before all (rw (scans_are calls since b) l)

pub start_scans : (pace : ℕ) (calls : List DeviceCall) (past : List GuardCall) → AllBring calls past → AllGuarded pace past → commands_taken (passed pace past) * pace ≤ rows_scanned calls
start_scans pace calls past b all = let h = since_start pace past all in rw (scans_are calls past b) at h
