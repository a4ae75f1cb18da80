-- What a transfer brings is what the layer serves, or what the device behind gives.
use Rattle.std.proofs.lemmas.Grind.{common_steps}
use Rattle.std.proofs.Common.{arith}
use Rattle.std.proofs.Common.{◌≡◌, ℕ, suc, ◌+◌, ◌*◌, ◌≤◌, ◌<◌, add-one, length-append, ◌==◌, ◌&&◌, nat_lt, if◌then◌else◌, Bool, true, false, List, [], ◌∷◌, ◌++◌, length, take, drop, Option, Some, None, refl, sym, ap, subst, ◌∙◌, inl, inr}
use Rattle.std.proofs.lemmas.List.{take-append-drop, take-take, drop-take, drop_all, length-take, length-take-le}
use Rattle.std.proofs.lemmas.Bool.Decides.{nat_tests}
use Rattle.usb_device.specs.declared.answer.EpAnswer.{EpAnswer}
use Rattle.usb_device.specs.declared.answer.EpAnswer.TheVariants.{Ack, Nak, Packet, Stall}
use Rattle.usb_device.specs.declared.answer.Endpoint1.{Endpoint1}
use Rattle.usb_device.specs.Calls.{EpCall, SetUp, Out, In, Polled, BusReset}
use Rattle.usb_device.specs.Packets.{packet_at}
use Rattle.usb_device.specs.Requests.{Lent, Served, Reads, Sets, request_of, served, word_at}
use Rattle.usb_device.specs.Events.{Event, SetupCame, OutCame, InAsked, PollAsked, ResetCame, SuspendCame, ResumeCame, WakeAsked, StatusSeen, ScanCame}
use Rattle.usb_device.specs.Steps.{Stage, Theirs, Sending, Status, Over, state_of, session, AllAnswered, InAnswer, packet_or_stall, after_in, after_out, first_stage, call_if_theirs, call_if_ready, polled_of}
use Rattle.usb_device.specs.States.{setup_in, endpoint_by, wakeup_by}
use Rattle.usb_device.specs.Through.{calls_of}
use Rattle.usb_device.specs.WholeReads.{joined, is_last}
use Rattle.usb_device.specs.Bus.{Bus, InMode, Naks, Sends, Stalls, is_pending}
use Rattle.usb_device.specs.Bus1.{no_polls}
use Rattle.usb_device.specs.Given.{got_of, given_of, Hands, WereGiven}
use Rattle.usb_device.specs.Transfers.{TransferState}
use Rattle.usb_device.specs.representation.Link.{Link}
use Rattle.usb_device.specs.Answered.{served_in, Brings, AllStalled, WasAnswered}
use Rattle.usb_device.proofs.Stating.{standing, same_lent}
use Rattle.usb_device.proofs.Layering.{given_same}
use Rattle.usb_device.proofs.Pausing.{asked_in}

-- the packets of the layer, put together
take-add : (n m : ℕ) (s : List ℕ) → take (n + m) s ≡ take n s ++ take m (drop n s)
take-add n m s =
    let first = take-take n (n + m) s (omega arith) in
    let second = drop-take n m s in
    rw (← first, ← second) (sym (take-append-drop n (take (n + m) s)))

not_below : (k n : ℕ) → nat_lt k n ≡ false → n ≤ k
not_below k n e = grind (arith, nat_tests)

piece_by : (whole empty : Bool) (k : ℕ) (s packet : List ℕ) → (whole ≡ false → length s ≤ k)
    → (if whole then Some (take 8 (drop k s)) else (if empty then Some [] else None)) ≡ Some packet → packet ≡ take 8 (drop k s)
piece_by true empty k s packet past e = let x : Some (take 8 (drop k s)) ≡ Some packet = e in cc
piece_by false true k s packet past e = let x : Some [] ≡ Some packet = e in rw (drop_all k s (past refl)) (let y : packet ≡ [] = cc in y)
piece_by false false k s packet past e = cc

next_packet : (bytes packet : List ℕ) (asked sent : ℕ) → packet_at bytes asked sent ≡ Some packet
    → take (8 * sent) (take asked bytes) ++ packet ≡ take (8 * (sent + 1)) (take asked bytes)
unfolding packet_at
next_packet bytes packet asked sent e =
    let s = take asked bytes in
    let p = piece_by (nat_lt (8 * sent) (length s)) ((8 * sent == length s) && nat_lt (length s) asked) (8 * sent) s packet (not_below (8 * sent) (length s)) e in
    let n : 8 * (sent + 1) ≡ 8 * sent + 8 = omega arith in
    rw (p, n) (sym (take-add (8 * sent) 8 s))

-- the packets up to each are the first bytes, 8 for each
abbrev Pieces : List ℕ → List (List ℕ) → Type 0
Pieces s [] = Unit {0}
Pieces s (packet ∷ before) = (joined before ++ packet ≡ take (8 * (length before + 1)) s) × Pieces s before

pieces_joined : (s : List ℕ) (given : List (List ℕ)) → Pieces s given → joined given ≡ take (8 * length given) s
pieces_joined s [] h = refl
pieces_joined s (packet ∷ before) h = h.0 ∙ ap (λ x. take (8 * x) s) (add-one (length before))

goes_on : (asked : ℕ) (last : List ℕ) (before : List (List ℕ)) → length last ≡ 8 → length (joined before ++ last) < asked → is_last asked last before ≡ false
goes_on asked last before h1 h2 = grind (arith, common_steps)

ends_by : (more : Bool) (asked : ℕ) (s last : List ℕ) (before : List (List ℕ)) → nat_lt (8 * (length before + 1)) (length s) ≡ more → length s ≤ asked → Pieces s (last ∷ before)
    → is_last asked last before ≡ true → length s ≤ 8 * (length before + 1)
ends_by false asked s last before m l h e = not_below (8 * (length before + 1)) (length s) m
ends_by true asked s last before m l h e =
    let n = length before in
    let below : 8 * (n + 1) < length s = grind (arith, nat_tests, m) in
    let all : length (joined before ++ last) ≡ 8 * (n + 1) = ap length h.0 ∙ length-take-le (8 * (n + 1)) s (omega (arith, below)) in
    let first : length (joined before) ≡ 8 * n = ap length (pieces_joined s before h.1) ∙ length-take-le (8 * n) s (omega (arith, below)) in
    let both = length-append (joined before) last in
    let eight : length last ≡ 8 = omega (arith, all, first, both) in
    let f = goes_on asked last before eight (omega (arith, all, below, l)) in
    absurd (let x : true ≡ false = sym e ∙ f in cc)

-- by the stage of the layer
Inv : Stage → Option Served → ℕ → List (List ℕ) → List (List ℕ) → Type 0
Inv Theirs None asked given theirs = given ≡ theirs
Inv (Sending b a sent) (Some (Reads bytes)) asked given theirs = (b ≡ bytes) × (a ≡ asked) × (sent ≡ length given) × Pieces (take asked bytes) given
Inv (Status change) (Some (Reads bytes)) asked given theirs = (asked ≡ 0) × (given ≡ [])
Inv (Status change) (Some (Sets other)) asked given theirs = joined given ≡ []
Inv Over (Some (Reads bytes)) asked given theirs = Pieces (take asked bytes) given
Inv Over (Some (Sets other)) asked given theirs = joined given ≡ []
Inv stage what asked given theirs = ⊥

begun_by : (zero : Bool) (bytes : List ℕ) (asked : ℕ) → (asked == 0) ≡ zero → Inv (if zero then Status None else Sending bytes asked 0) (Some (Reads bytes)) asked [] []
unfolding Inv
begun_by true bytes asked e = (grind (arith, nat_tests, e), refl)
begun_by false bytes asked e = (refl, refl, refl, tt)

begun : (what : Option Served) (asked : ℕ) → Inv (first_stage what asked) what asked [] []
unfolding Inv
begun None asked = refl
begun (Some (Reads bytes)) asked = begun_by (asked == 0) bytes asked refl
begun (Some (Sets change)) asked = refl

out_came : (stage : Stage) (what : Option Served) (asked : ℕ) (given : List (List ℕ)) (packet : List ℕ) (answer : EpAnswer) (behind : List EpCall) → Inv stage what asked given (given_of behind)
    → Inv (after_out stage) what asked given (given_of (call_if_theirs stage (Out packet answer) behind))
unfolding Inv
out_came Theirs None asked given packet answer behind h = h
out_came (Sending b a sent) (Some (Reads bytes)) asked given packet answer behind h = h.3
out_came (Status change) (Some (Reads bytes)) asked given packet answer behind h = subst (λ x. Pieces (take asked bytes) x) (sym h.1) tt
out_came (Status change) (Some (Sets other)) asked given packet answer behind h = h
out_came Over (Some (Reads bytes)) asked given packet answer behind h = h
out_came Over (Some (Sets other)) asked given packet answer behind h = h
out_came Theirs (Some _) asked given packet answer behind h = absurd h
out_came (Sending b a sent) None asked given packet answer behind h = absurd h
out_came (Sending b a sent) (Some (Sets other)) asked given packet answer behind h = absurd h
out_came (Status change) None asked given packet answer behind h = absurd h
out_came Over None asked given packet answer behind h = absurd h

theirs_in : (answer : EpAnswer) (calls behind : List EpCall) → given_of calls ≡ given_of behind → given_of (In answer ∷ calls) ≡ given_of (In answer ∷ behind)
theirs_in Ack calls behind e = e
theirs_in Nak calls behind e = e
theirs_in (Packet packet) calls behind e = ap (λ x. packet.items ∷ x) e
theirs_in Stall calls behind e = e

sent_in : (o : Option (List ℕ)) (bytes : List ℕ) (asked sent : ℕ) (answer : EpAnswer) (calls behind : List EpCall) → packet_at bytes asked sent ≡ o → answer ≡ packet_or_stall o
    → sent ≡ length (given_of calls) → Pieces (take asked bytes) (given_of calls)
    → Inv (after_in (Sending bytes asked sent) answer) (Some (Reads bytes)) asked (given_of (In answer ∷ calls)) (given_of behind)
unfolding Inv
sent_in (Some packet) bytes asked sent answer calls behind e a n h =
    let P : EpAnswer → Type 0 = λ x. Inv (after_in (Sending bytes asked sent) x) (Some (Reads bytes)) asked (given_of (In x ∷ calls)) (given_of behind) in
    let s = take asked bytes in
    let first : joined (given_of calls) ≡ take (8 * sent) s = pieces_joined s (given_of calls) h ∙ ap (λ x. take (8 * x) s) (sym n) in
    let now : joined (given_of calls) ++ packet ≡ take (8 * (length (given_of calls) + 1)) s =
    ap (λ x. x ++ packet) first ∙ (next_packet bytes packet asked sent e ∙ ap (λ x. take (8 * (x + 1)) s) n) in
    subst P (sym a) (refl, refl, add-one sent ∙ ap (λ x. suc x) n, (now, h))
sent_in None bytes asked sent answer calls behind e a n h =
    let P : EpAnswer → Type 0 = λ x. Inv (after_in (Sending bytes asked sent) x) (Some (Reads bytes)) asked (given_of (In x ∷ calls)) (given_of behind) in
    subst P (sym a) h

in_asked : (stage : Stage) (what : Option Served) (asked : ℕ) (answer : EpAnswer) (calls behind : List EpCall) → InAnswer stage answer → Inv stage what asked (given_of calls) (given_of behind)
    → Inv (after_in stage answer) what asked (given_of (In answer ∷ calls)) (given_of (call_if_theirs stage (In answer) behind))
unfolding Inv
in_asked Theirs None asked answer calls behind a h = theirs_in answer calls behind h
in_asked (Sending b a sent) (Some (Reads bytes)) asked answer calls behind e h =
    let P : List ℕ → ℕ → Type 0 = λ x y. Inv (after_in (Sending x y sent) answer) (Some (Reads bytes)) asked (given_of (In answer ∷ calls)) (given_of behind) in
    let Q : List ℕ → ℕ → Type 0 = λ x y. answer ≡ packet_or_stall (packet_at x y sent) in
    let f = subst (λ y. Q bytes y) h.1 (subst (λ x. Q x a) h.0 e) in
    let r = sent_in (packet_at bytes asked sent) bytes asked sent answer calls behind refl f h.2 h.3 in
    subst (λ x. P x a) (sym h.0) (subst (λ y. P bytes y) (sym h.1) r)
in_asked (Status change) (Some (Reads bytes)) asked answer calls behind a h =
    let P : EpAnswer → Type 0 = λ x. Inv Over (Some (Reads bytes)) asked (given_of (In x ∷ calls)) (given_of behind) in
    let Q : List (List ℕ) → Type 0 = λ x. Pieces (take asked bytes) ([] ∷ x) in
    let Z : ℕ → Type 0 = λ x. Pieces (take x bytes) ([] ∷ []) in
    subst P (sym a) (subst Q (sym h.1) (subst Z (sym h.0) (refl, tt)))
in_asked (Status change) (Some (Sets other)) asked answer calls behind a h =
    let P : EpAnswer → Type 0 = λ x. Inv Over (Some (Sets other)) asked (given_of (In x ∷ calls)) (given_of behind) in
    subst P (sym a) (ap (λ x. x ++ []) h)
in_asked Over (Some (Reads bytes)) asked answer calls behind a h =
    let P : EpAnswer → Type 0 = λ x. Inv Over (Some (Reads bytes)) asked (given_of (In x ∷ calls)) (given_of behind) in subst P (sym a) h
in_asked Over (Some (Sets other)) asked answer calls behind a h =
    let P : EpAnswer → Type 0 = λ x. Inv Over (Some (Sets other)) asked (given_of (In x ∷ calls)) (given_of behind) in subst P (sym a) h
in_asked Theirs (Some _) asked answer calls behind a h = absurd h
in_asked (Sending b a sent) None asked answer calls behind e h = absurd h
in_asked (Sending b a sent) (Some (Sets other)) asked answer calls behind e h = absurd h
in_asked (Status change) None asked answer calls behind a h = absurd h
in_asked Over None asked answer calls behind a h = absurd h

polled_given : (endpoint : Endpoint1) (answer : Option (List ℕ)) (behind : List EpCall) → given_of (call_if_ready endpoint (Polled answer) behind) ≡ given_of behind
polled_given endpoint answer behind = grind (arith, common_steps)

abbrev size_by : Option (List ℕ) → ℕ
size_by None = 0
size_by (Some setup) = word_at setup 6

Brought : Lent → List Event → Type 0
Brought lent past = Inv (state_of lent past).stage (served_in lent past) (size_by (setup_in past)) (given_of (calls_of past)) (given_of (session lent past))

brought : (lent : Lent) (past : List Event) → AllAnswered lent past → Brought lent past
unfolding Brought Inv state_of session
brought lent [] all = refl
brought lent (SetupCame bytes ∷ past) all =
    let s = standing lent past all.1 in
    let n = state_of lent past in
    let r = request_of bytes in
    let same : served n.lent n.endpoint n.wakeup r ≡ served lent (endpoint_by lent past) (wakeup_by lent past) r =
    ap (λ x. served x n.endpoint n.wakeup r) (same_lent lent past) ∙ (ap (λ x. served lent x n.wakeup r) s.endpoint ∙ ap (λ x. served lent (endpoint_by lent past) x r) s.wakeup) in
    let P : Option Served → Type 0 = λ x. Inv (first_stage (served n.lent n.endpoint n.wakeup r) r.size) x r.size [] [] in
    subst P same (begun (served n.lent n.endpoint n.wakeup r) r.size)
brought lent (OutCame packet answer ∷ past) all =
    out_came (state_of lent past).stage (served_in lent past) (size_by (setup_in past)) (given_of (calls_of past)) packet answer (session lent past) (brought lent past all.1)
brought lent (InAsked answer ∷ past) all =
    in_asked (state_of lent past).stage (served_in lent past) (size_by (setup_in past)) answer (calls_of past) (session lent past) all.0 (brought lent past all.1)
brought lent (PollAsked answer ∷ past) all =
    let P : List (List ℕ) → Type 0 = λ x. Inv (state_of lent past).stage (served_in lent past) (size_by (setup_in past)) (given_of (calls_of past)) x in
    subst P (sym (polled_given (state_of lent past).endpoint (polled_of answer) (session lent past))) (brought lent past all.1)
brought lent (ResetCame ∷ past) all = refl
brought lent (SuspendCame ∷ past) all = brought lent past all.1
brought lent (ResumeCame ∷ past) all = brought lent past all.1
brought lent (StatusSeen ∷ past) all = brought lent past all.1
brought lent (ScanCame ∷ past) all = brought lent past all.1
brought lent (WakeAsked has_report answer ∷ past) all = brought lent past all.1

-- so it brings that
length-take-most : (n : ℕ) (s : List ℕ) → length (take n s) ≤ n
length-take-most n s = let e = length-take n s in grind (arith, common_steps, e)

reads_by : (bytes setup : List ℕ) (given theirs : List (List ℕ)) → Pieces (take (word_at setup 6) bytes) given → Brings (Some (Reads bytes)) setup given theirs
reads_by bytes setup given theirs h =
    let w = word_at setup 6 in
    let s = take w bytes in (
      drop (8 * length given) s,
      sym (take-append-drop (8 * length given) s) ∙ ap (λ x. x ++ drop (8 * length given) s) (sym (pieces_joined s given h)),
      λ last before e i.
          let P : List (List ℕ) → Type 0 = λ x. Pieces s x in
          let l = ends_by (nat_lt (8 * (length before + 1)) (length s)) w s last before refl (length-take-most w bytes) (subst P e h) i in
          drop_all (8 * length given) s (subst (λ x. length s ≤ 8 * x) (add-one (length before) ∙ ap length (sym e)) l),
    )

brings_by : (stage : Stage) (what : Option Served) (setup : List ℕ) (given theirs : List (List ℕ)) → Inv stage what (word_at setup 6) given theirs → Brings what setup given theirs
unfolding Inv
brings_by Theirs None setup given theirs h = h
brings_by (Sending b a sent) (Some (Reads bytes)) setup given theirs h = reads_by bytes setup given theirs h.3
brings_by (Status change) (Some (Reads bytes)) setup given theirs h =
    reads_by bytes setup given theirs (subst (λ x. Pieces (take (word_at setup 6) bytes) x) (sym h.1) tt)
brings_by (Status change) (Some (Sets other)) setup given theirs h = h
brings_by Over (Some (Reads bytes)) setup given theirs h = reads_by bytes setup given theirs h
brings_by Over (Some (Sets other)) setup given theirs h = h
brings_by Theirs (Some _) setup given theirs h = absurd h
brings_by (Sending b a sent) None setup given theirs h = absurd h
brings_by (Sending b a sent) (Some (Sets other)) setup given theirs h = absurd h
brings_by (Status change) None setup given theirs h = absurd h
brings_by Over None setup given theirs h = absurd h

brings : (lent : Lent) (past : List Event) (setup : List ℕ) (packets : List (List ℕ)) → AllAnswered lent past → setup_in past ≡ Some setup → given_of (calls_of past) ≡ packets
    → WasAnswered lent past setup packets
unfolding Brought
brings lent past setup packets all e g =
    let I : ℕ → Type 0 = λ x. Inv (state_of lent past).stage (served_in lent past) x (given_of (calls_of past)) (given_of (session lent past)) in
    let B : List (List ℕ) → Type 0 = λ x. Brings (served_in lent past) setup x (given_of (session lent past)) in
    record { since = []; moment = past; past_is = refl; asked = e; given = g; brings = subst B g (brings_by (state_of lent past).stage (served_in lent past) setup (given_of (calls_of past)) (given_of (session lent past)) (subst I (ap size_by e) (brought lent past all))) }

later : (event : Event) (lent : Lent) (past : List Event) (setup : List ℕ) (packets : List (List ℕ)) → WasAnswered lent past setup packets → WasAnswered lent (event ∷ past) setup packets
later event lent past setup packets w =
    record { since = event ∷ w.since; moment = w.moment; past_is = ap (λ x. event ∷ x) w.past_is; asked = w.asked; given = w.given; brings = w.brings }

pub was_answered : (lent : Lent) (past : List Event) (setup : List ℕ) (packets : List (List ℕ)) → AllAnswered lent past → WereGiven setup packets (calls_of past)
    → WasAnswered lent past setup packets
was_answered lent [] setup packets all w = absurd w
was_answered lent (SetupCame bytes ∷ past) setup packets all (inl e) = brings lent (SetupCame bytes ∷ past) setup packets all e.0 e.1
was_answered lent (SetupCame bytes ∷ past) setup packets all (inr w) = later (SetupCame bytes) lent past setup packets (was_answered lent past setup packets all.1 w)
was_answered lent (OutCame packet answer ∷ past) setup packets all (inl e) = brings lent (OutCame packet answer ∷ past) setup packets all (sym (asked_in past) ∙ e.0) e.1
was_answered lent (OutCame packet answer ∷ past) setup packets all (inr w) = later (OutCame packet answer) lent past setup packets (was_answered lent past setup packets all.1 w)
was_answered lent (InAsked answer ∷ past) setup packets all (inl e) = brings lent (InAsked answer ∷ past) setup packets all (sym (asked_in past) ∙ e.0) e.1
was_answered lent (InAsked answer ∷ past) setup packets all (inr w) = later (InAsked answer) lent past setup packets (was_answered lent past setup packets all.1 w)
was_answered lent (PollAsked answer ∷ past) setup packets all (inl e) = brings lent (PollAsked answer ∷ past) setup packets all (sym (asked_in past) ∙ e.0) e.1
was_answered lent (PollAsked answer ∷ past) setup packets all (inr w) = later (PollAsked answer) lent past setup packets (was_answered lent past setup packets all.1 w)
was_answered lent (ResetCame ∷ past) setup packets all (inl e) = brings lent (ResetCame ∷ past) setup packets all e.0 e.1
was_answered lent (ResetCame ∷ past) setup packets all (inr w) = later ResetCame lent past setup packets (was_answered lent past setup packets all.1 w)
was_answered lent (SuspendCame ∷ past) setup packets all w = later SuspendCame lent past setup packets (was_answered lent past setup packets all.1 w)
was_answered lent (ResumeCame ∷ past) setup packets all w = later ResumeCame lent past setup packets (was_answered lent past setup packets all.1 w)
was_answered lent (StatusSeen ∷ past) setup packets all w = later StatusSeen lent past setup packets (was_answered lent past setup packets all.1 w)
was_answered lent (ScanCame ∷ past) setup packets all w = later ScanCame lent past setup packets (was_answered lent past setup packets all.1 w)
was_answered lent (WakeAsked has_report answer ∷ past) setup packets all w = later (WakeAsked has_report answer) lent past setup packets (was_answered lent past setup packets all.1 w)

-- a request that is stalled brings nothing
none_given : (calls : List EpCall) → AllStalled calls → given_of calls ≡ []
none_given [] h = refl
none_given (SetUp bytes ∷ before) h = refl
none_given (BusReset ∷ before) h = refl
none_given (In answer ∷ before) h = let G : EpAnswer → Type 0 = λ x. given_of (In x ∷ before) ≡ [] in subst G (sym h.0) (none_given before h.1)
none_given (Out packet answer ∷ before) h = none_given before h.1
none_given (Polled answer ∷ before) h = none_given before h

theirs_by : (stage : Stage) (what : Option Served) (asked : ℕ) (given theirs : List (List ℕ)) → what ≡ None → Inv stage what asked given theirs → given ≡ theirs
unfolding Inv
theirs_by Theirs None asked given theirs e h = h
theirs_by Theirs (Some _) asked given theirs e h = absurd h
theirs_by (Sending b a sent) None asked given theirs e h = absurd h
theirs_by (Sending b a sent) (Some _) asked given theirs e h = cc
theirs_by (Status change) None asked given theirs e h = absurd h
theirs_by (Status change) (Some _) asked given theirs e h = cc
theirs_by Over None asked given theirs e h = absurd h
theirs_by Over (Some _) asked given theirs e h = cc

none_got : (mode : InMode) (got given : List (List ℕ)) → given ≡ [] → Hands mode got given → got ≡ []
none_got Naks got given e h = sym h ∙ e
none_got (Sends packet true) got given e h = sym h.2 ∙ e
none_got (Sends packet false) got given e h = let x : packet ∷ got ≡ [] = sym h ∙ e in cc
none_got Stalls got given e (inl h) = sym h ∙ e
none_got Stalls got given e (inr h) = let x : h.0 ∷ got ≡ [] = sym h.1 ∙ e in cc

pub stalled_brings : (t : TransferState) (b : Bus) (calls : List EpCall) (lent : Lent) (past : List Event) → Link t b calls → is_pending b.met ≡ false → AllAnswered lent past
    → no_polls (calls_of past) ≡ no_polls calls → served_in lent past ≡ None → AllStalled (session lent past) → got_of b.seen ≡ []
unfolding Brought
stalled_brings t b calls lent past h p all e n s =
    let theirs = theirs_by (state_of lent past).stage (served_in lent past) (size_by (setup_in past)) (given_of (calls_of past)) (given_of (session lent past)) n (brought lent past all) in
    let given : given_of calls ≡ [] = sym (given_same calls) ∙ (ap given_of (sym e) ∙ (given_same (calls_of past) ∙ (theirs ∙ none_given (session lent past) s))) in
    none_got b.input (got_of b.seen) (given_of calls) given (h.current p).hands
