-- A whole read brings what its request reads.
use Rattle.std.proofs.Common.{◌≡◌, ◌≢◌, ◌⊎◌, is_some, ◌==◌, ◌&&◌, ◌||◌, not, nat_lt, ℕ, zero, suc, ◌+◌, ◌*◌, ◌<◌, ◌≤◌, min, length, length-append, take, Bool, true, false, if◌then◌else◌, List, [], ◌∷◌, ◌++◌, Option, Some, None, Result, Ok, Err, inl, inr, refl, sym, ap, subst, ◌∙◌, append_assoc, arith}
use Rattle.std.specs.Prelude.{MatchResult, unwrap_or}
use Rattle.std.specs.List.{list_any}
use Rattle.std.proofs.lemmas.List.{length-take, take_all}
use Rattle.std.proofs.lemmas.Bool.Decides.{nat_tests}
use Rattle.arrayvec.specs.ArrayVec.{ArrayVec}
use Rattle.layers.specs.Codes.{DefaultCodes}
use Rattle.control_ep.specs.declared.why.Why.{Why}
use Rattle.control_ep.specs.declared.why.Why.TheVariants.{WrongStage}
use Rattle.control_ep.specs.declared.answer.EpAnswer.{EpAnswer as Answer}
use Rattle.control_ep.specs.declared.answer.EpAnswer.TheVariants as Answers
use Rattle.control_ep.specs.Answers.{in_answer, out_step, packet_or_stall}
use Rattle.control_ep.specs.Calls.{EpCall}
use Rattle.control_ep.specs.Packets.{packet_at, joined_packets}
use Rattle.control_ep.specs.Requests.{takes_length, request_of, transfer_of}
use Rattle.control_ep.specs.Stage.{Begins, calls_since, last_setup, first_stall, count_in, is_empty_out, stage}
use Rattle.control_ep.specs.Transfers.{Transfer, Reads, Takes, Sets, Stage, Sending}
use Rattle.control_ep.proofs.Joined.{joined-is}
use Rattle.control_ep.proofs.Stages.{stage-is}
use Rattle.keyboard.specs.Calls.{Call, SetUp, Out, In, image_after, EachCall}
use Rattle.keyboard.specs.Commands.{working}
use Rattle.keyboard.specs.Endpoint.{ep_calls, stage_after, view_after}
use Rattle.keyboard.specs.Conforming.{IsAnswered, OutAnswer}
use Rattle.usb_device.specs.declared.answer.EpAnswer.TheVariants as Plains
use Rattle.usb_device.specs.declared.whole_transfers.TransferError.{TransferError}
use Rattle.usb_device.specs.declared.whole_transfers.TransferError.TheVariants.{Refused, Busy, Unfinished}
use Rattle.usb_device.specs.WholeReads.{joined, is_last, GoOn, AreWhole, IsNoPacket}
use Rattle.usb_keyboard.specs.Checks.{read_answer}
use Rattle.usb_keyboard.specs.Plain.{plain}
use Rattle.usb_keyboard.specs.Whole.{in_calls, IsRead, IsUnread, stalled}
use Rattle.usb_keyboard.specs.representation.Whole.{Receives, NotReceived}
use Rattle.usb_keyboard.proofs.Checking.{first_stage, stage_begun}
use Rattle.usb_keyboard.proofs.Reading.{reads_sized, takes_its_length}

-- ---- answers

pub packet_is : (answer : Answer) (packet : ArrayVec ℕ) → plain answer ≡ Plains.Packet packet → answer ≡ Answers.Packet packet
packet_is Answers.Ack packet e = cc
packet_is Answers.Nak packet e = cc
packet_is (Answers.Packet p) packet e = cc
packet_is (Answers.Stall why) packet e = cc

pub nak_is : (answer : Answer) → plain answer ≡ Plains.Nak → answer ≡ Answers.Nak
nak_is Answers.Ack e = cc
nak_is Answers.Nak e = refl
nak_is (Answers.Packet p) e = cc
nak_is (Answers.Stall why) e = cc

abbrev bytes_in : Answer → List ℕ
bytes_in (Answers.Packet packet) = packet.items
bytes_in _ = []

packet_reported : (o : Option (List ℕ)) (packet : List ℕ) → Answers.Packet (record { items = packet }) ≡ packet_or_stall o → o ≡ Some packet
packet_reported None packet e = cc
packet_reported (Some other) packet e = let f : packet ≡ other = ap bytes_in e in ap Some (sym f)

nak_never : (o : Option (List ℕ)) → Answers.Nak ≡ packet_or_stall o → ⊥
nak_never None e = cc
nak_never (Some packet) e = cc

no_packet_none : (o : Option (List ℕ)) (answer : Answer) → IsNoPacket (plain answer) → answer ≡ packet_or_stall o → o ≡ None
no_packet_none None answer n e = refl
no_packet_none (Some packet) answer n e = absurd (subst (λ (a : Answer). IsNoPacket (plain a)) e n)

-- ---- the stage of a read

record Sends (calls : List EpCall) (bytes : List ℕ) (asked n : ℕ) : Type 0 where
  begins : last_setup calls ≡ Begins (Reads bytes) asked
  open_still : list_any is_empty_out (calls_since calls) ≡ false
  count : count_in (calls_since calls) ≡ n
  unstalled : first_stall (calls_since calls) ≡ None

stage_sends : (calls : List EpCall) (bytes : List ℕ) (asked n : ℕ) → Sends calls bytes asked n → (asked == 0) ≡ false → stage calls ≡ Sending bytes asked n
stage_sends calls bytes asked n s z = stage-is calls ∙ rw (s.begins, s.open_still, s.count, s.unstalled, z) refl

module _ (defaults : DefaultCodes) where
  sends : (start : List ℕ) (past : List Call) (setup bytes : List ℕ) (packets : List (List ℕ)) → transfer_of (request_of setup) (view_after defaults start past) ≡ Ok (Reads bytes)
      → Sends (ep_calls defaults start (in_calls packets ++ SetUp setup ∷ past)) bytes (request_of setup).length (length packets)
  unfolding ep_calls
  sends start past setup bytes [] e = record { begins = rw e refl; open_still = refl; count = refl; unstalled = refl }
  sends start past setup bytes (packet ∷ before) e =
      let s = sends start past setup bytes before e in
      record { begins = s.begins; open_still = s.open_still; count = omega (arith, s.count); unstalled = rw s.unstalled refl }

  now_sending : (start : List ℕ) (past : List Call) (setup bytes : List ℕ) (packets : List (List ℕ)) → transfer_of (request_of setup) (view_after defaults start past) ≡ Ok (Reads bytes) → ((request_of setup).length == 0) ≡ false
      → stage_after defaults start (in_calls packets ++ SetUp setup ∷ past) ≡ Sending bytes (request_of setup).length (length packets)
  now_sending start past setup bytes packets e z =
      stage_sends (ep_calls defaults start (in_calls packets ++ SetUp setup ∷ past)) bytes (request_of setup).length (length packets) (sends start past setup bytes packets e) z

  -- the packets put together
  joined_are : (start : List ℕ) (past : List Call) (setup bytes : List ℕ) (packets : List (List ℕ)) → transfer_of (request_of setup) (view_after defaults start past) ≡ Ok (Reads bytes) → ((request_of setup).length == 0) ≡ false
      → EachCall (IsAnswered defaults) start (in_calls packets ++ SetUp setup ∷ past) → joined packets ≡ joined_packets bytes (request_of setup).length (length packets)
  joined_are start past setup bytes [] e z h = refl
  joined_are start past setup bytes (packet ∷ before) e z h =
      let asked : ℕ = (request_of setup).length in
      let w : packet_at bytes asked (length before) ≡ Some packet = packet_reported (packet_at bytes asked (length before)) packet (h.0 ∙ ap in_answer (now_sending start past setup bytes before e z)) in
      ap (λ l. l ++ packet) (joined_are start past setup bytes before e z h.1) ∙ ap (λ (o : Option (List ℕ)). joined_packets bytes asked (length before) ++ unwrap_or o []) (sym w)

  taken_are : (start : List ℕ) (past : List Call) (setup bytes : List ℕ) (packets : List (List ℕ)) → transfer_of (request_of setup) (view_after defaults start past) ≡ Ok (Reads bytes) → ((request_of setup).length == 0) ≡ false
      → EachCall (IsAnswered defaults) start (in_calls packets ++ SetUp setup ∷ past) → joined packets ≡ take (8 * length packets) (take (request_of setup).length bytes)
  taken_are start past setup bytes packets e z h = joined_are start past setup bytes packets e z h ∙ joined-is bytes (request_of setup).length (length packets)

-- ---- where the packets end

or_split : (a b : Bool) → (a || b) ≡ true → (a ≡ true) ⊎ (b ≡ true)
or_split true b e = inl refl
or_split false b e = inr e

or_false : (a b : Bool) → (a || b) ≡ false → (a ≡ false) × (b ≡ false)
or_false true b e = cc
or_false false b e = (refl, e)

is_below : (k n : ℕ) → nat_lt k n ≡ true → k < n
is_below k n e = grind (arith, nat_tests)

not_below : (k n : ℕ) → nat_lt k n ≡ false → n ≤ k
not_below k n e = grind (arith, nat_tests)

not_true : (b : Bool) → not b ≡ true → b ≡ false
not_true true e = cc
not_true false e = refl

not_false : (b : Bool) → not b ≡ false → b ≡ true
not_false true e = refl
not_false false e = cc

enough : (sent last : List ℕ) (before : List (List ℕ)) (asked : ℕ) → length sent ≤ asked → joined before ≡ take (8 * length before) sent → joined before ++ last ≡ take (8 * suc (length before)) sent
    → is_last asked last before ≡ true → length sent ≤ 8 * suc (length before)
enough sent last before asked l b w e =
    let whole : length (joined before ++ last) ≡ min (8 * suc (length before)) (length sent) = ap length w ∙ length-take (8 * suc (length before)) sent in
    let first : length (joined before) ≡ min (8 * length before) (length sent) = ap length b ∙ length-take (8 * length before) sent in
    let both : length (joined before ++ last) ≡ length (joined before) + length last = length-append (joined before) last in
    elim (or_split (nat_lt (length last) 8) (not (nat_lt (length (joined before ++ last)) asked)) e) [
      | inl short ↦ (let s : length last < 8 = is_below (length last) 8 short in omega (arith, whole, first, both, s))
      | inr all ↦ (let s : asked ≤ length (joined before ++ last) = not_below (length (joined before ++ last)) asked (not_true (nat_lt (length (joined before ++ last)) asked) all) in omega (arith, whole, s, l))
    ]

read_whole : (bytes got : List ℕ) (asked : ℕ) (last : List ℕ) (before : List (List ℕ)) → joined before ≡ take (8 * length before) (take asked bytes)
    → joined (last ∷ before) ≡ take (8 * suc (length before)) (take asked bytes) → is_last asked last before ≡ true → got ≡ joined (last ∷ before) → got ≡ take asked bytes
read_whole bytes got asked last before b w e g =
    let l : length (take asked bytes) ≤ asked = (let m = length-take asked bytes in omega (arith, m)) in
    g ∙ w ∙ take_all (8 * suc (length before)) (take asked bytes) (enough (take asked bytes) last before asked l b w e)

-- behind packets of which none ends the read all are whole, and fewer than are asked for
full : (sent : List ℕ) (asked : ℕ) (packets : List (List ℕ)) → 1 ≤ length sent → 1 ≤ asked → length sent ≤ asked → GoOn asked packets
    → joined packets ≡ take (8 * length packets) sent → ((packet : List ℕ) (before : List (List ℕ)) → packets ≡ packet ∷ before → joined before ≡ take (8 * length before) sent)
    → (8 * length packets ≤ length sent) × (8 * length packets < asked)
full sent asked [] l k m g w b = (omega (arith, l), omega (arith, k))
full sent asked (packet ∷ before) l k m g w b =
    let whole : length (joined before ++ packet) ≡ min (8 * suc (length before)) (length sent) = ap length w ∙ length-take (8 * suc (length before)) sent in
    let first : length (joined before) ≡ min (8 * length before) (length sent) = ap length (b packet before refl) ∙ length-take (8 * length before) sent in
    let both : length (joined before ++ packet) ≡ length (joined before) + length packet = length-append (joined before) packet in
    let n = or_false (nat_lt (length packet) 8) (not (nat_lt (length (joined before ++ packet)) asked)) g.0 in
    let long : 8 ≤ length packet = not_below (length packet) 8 n.0 in
    let less : length (joined before ++ packet) < asked = is_below (length (joined before ++ packet)) asked (not_false (nat_lt (length (joined before ++ packet)) asked) n.1) in
    let all : 8 * suc (length before) ≤ length sent = omega (arith, whole, first, both, long) in
    (omega (arith, all), omega (arith, whole, all, less))

none_by : (a b : Bool) (x : List ℕ) → (if a then Some x else (if b then Some [] else None)) ≡ None → (a ≡ false) × (b ≡ false)
none_by true b x e = cc
none_by false true x e = cc
none_by false false x e = (refl, refl)

and_false : (k n asked : ℕ) → k ≡ n → n < asked → ((k == n) && nat_lt n asked) ≡ false → ⊥
and_false k n asked e l f =
    let a : (k == n) ≡ true = grind (arith, nat_tests, e) in
    let b : nat_lt n asked ≡ true = grind (arith, nat_tests, l) in
    let c : ((k == n) && nat_lt n asked) ≡ true = rw (a, b) refl in
    let d = sym c ∙ f in cc

-- the next packet is there
next_there : (bytes : List ℕ) (asked n : ℕ) → 8 * n ≤ length (take asked bytes) → 8 * n < asked → packet_at bytes asked n ≡ None → ⊥
unfolding packet_at
next_there bytes asked n l k e =
    let sent = take asked bytes in
    let f = none_by (nat_lt (8 * n) (length sent)) ((8 * n == length sent) && nat_lt (length sent) asked) _ e in
    let m : length sent ≤ 8 * n = not_below (8 * n) (length sent) f.0 in
    let same : 8 * n ≡ length sent = omega (arith, l, m) in
    and_false (8 * n) (length sent) asked same (omega (arith, same, k)) f.1

-- ---- the whole

-- what the first IN packet is answered where a byte is asked for
data First (r : Result Transfer Why) (asked : ℕ) : Type 0 where
  reads : (bytes : List ℕ) → r ≡ Ok (Reads bytes) → First r asked
  stalls : (why : Why) → in_answer (first_stage r asked) ≡ Answers.Stall why → read_answer r asked ≡ Err Refused → First r asked

first_of : (r : Result Transfer Why) (asked : ℕ) → ((transfer : Transfer) → r ≡ Ok transfer → takes_length transfer asked ≡ true) → (asked == 0) ≡ false → First r asked
first_of (Err why) asked t z = stalls why refl refl
first_of (Ok (Reads bytes)) asked t z = reads bytes refl
first_of (Ok (Takes report)) asked t z = stalls WrongStage refl refl
first_of (Ok (Sets effect)) asked t z = absurd (let e = sym z ∙ t (Sets effect) refl in cc)

pub nothing_asked : (r : Result Transfer Why) (asked : ℕ) → asked ≡ 0 → read_answer r asked ≡ Err Refused
nothing_asked (Err why) asked z = refl
nothing_asked (Ok (Reads bytes)) asked z = rw z refl
nothing_asked (Ok (Takes report)) asked z = refl
nothing_asked (Ok (Sets effect)) asked z = refl

sent_answer : (bytes : List ℕ) (asked : ℕ) → (asked == 0) ≡ false → read_answer (Ok (Reads bytes)) asked ≡ Ok (take asked bytes)
sent_answer bytes asked z = rw z refl

pub not_zero : (n : ℕ) → n ≢ 0 → (n == 0) ≡ false
not_zero n e = grind (arith, nat_tests, e)

some_asked : (n : ℕ) → (n == 0) ≡ false → 1 ≤ n
some_asked zero e = cc
some_asked (suc n) e = omega arith

module _ (defaults : DefaultCodes) where
  first : (start : List ℕ) (past : List Call) (setup : List ℕ) → ((request_of setup).length == 0) ≡ false → First (transfer_of (request_of setup) (view_after defaults start past)) (request_of setup).length
  first start past setup z =
      first_of (transfer_of (request_of setup) (view_after defaults start past)) (request_of setup).length (λ transfer e. takes_its_length defaults start past setup transfer e) z

  -- a read whose first packet is stalled has no packets
  no_packets : (start : List ℕ) (past : List Call) (setup : List ℕ) (why : Why) (packets : List (List ℕ)) → in_answer (first_stage (transfer_of (request_of setup) (view_after defaults start past)) (request_of setup).length) ≡ Answers.Stall why
      → EachCall (IsAnswered defaults) start (in_calls packets ++ SetUp setup ∷ past) → packets ≡ []
  no_packets start past setup why [] s h = refl
  no_packets start past setup why (packet ∷ []) s h = absurd (let e = h.0 ∙ ap in_answer (stage_begun defaults start past setup) ∙ s in cc)
  no_packets start past setup why (packet ∷ other ∷ before) s h = absurd (let e = no_packets start past setup why (other ∷ before) s h.1 in cc)

  whole_none : (asked : ℕ) (got : List ℕ) (packets : List (List ℕ)) → AreWhole asked got packets → packets ≡ [] → ⊥
  whole_none asked got packets w e = let f = sym e ∙ w.packets_are in cc

  got_by : (start : List ℕ) (past : List Call) (setup bytes got : List ℕ) (packets : List (List ℕ)) → transfer_of (request_of setup) (view_after defaults start past) ≡ Ok (Reads bytes) → ((request_of setup).length == 0) ≡ false
      → AreWhole (request_of setup).length got packets → EachCall (IsAnswered defaults) start (in_calls packets ++ SetUp setup ∷ past) → got ≡ take (request_of setup).length bytes
  got_by start past setup bytes got packets e z w h =
      let P : List (List ℕ) → Type 0 = λ l. EachCall (IsAnswered defaults) start (in_calls l ++ SetUp setup ∷ past) in
      let here : EachCall (IsAnswered defaults) start (in_calls (w.last ∷ w.before) ++ SetUp setup ∷ past) = subst P w.packets_are h in
      read_whole bytes got (request_of setup).length w.last w.before (taken_are defaults start past setup bytes w.before e z here.1) (taken_are defaults start past setup bytes (w.last ∷ w.before) e z here) w.ends
      (w.bytes_are ∙ ap joined w.packets_are)

  conforming_of : (start : List ℕ) (past : List Call) (setup : List ℕ) (received calls : List Call) → received ≡ calls → EachCall (IsAnswered defaults) start (received ++ SetUp setup ∷ past)
      → EachCall (IsAnswered defaults) start (calls ++ SetUp setup ∷ past)
  conforming_of start past setup received calls e h = (let P : List Call → Type 0 = λ l. EachCall (IsAnswered defaults) start (l ++ SetUp setup ∷ past) in subst P e h)

  pub read_got : (start : List ℕ) (past : List Call) (setup got : List ℕ) (received : List Call) → ((request_of setup).length == 0) ≡ false → Receives (request_of setup).length got received
      → EachCall (IsAnswered defaults) start (received ++ SetUp setup ∷ past) → read_answer (transfer_of (request_of setup) (view_after defaults start past)) (request_of setup).length ≡ Ok got
  read_got start past setup got received z w h = by_first (first start past setup z)
    where
      here : EachCall (IsAnswered defaults) start (in_calls w.0 ++ SetUp setup ∷ past)
      here = conforming_of start past setup received (in_calls w.0) w.2 h

      by_first : First (transfer_of (request_of setup) (view_after defaults start past)) (request_of setup).length → read_answer (transfer_of (request_of setup) (view_after defaults start past)) (request_of setup).length ≡ Ok got
      by_first (reads bytes e) =
          ap (λ r. read_answer r (request_of setup).length) e ∙ sent_answer bytes (request_of setup).length z ∙ ap Ok (sym (got_by start past setup bytes got w.0 e z w.1 here))
      by_first (stalls why s f) = absurd (whole_none (request_of setup).length got w.0 w.1 (no_packets start past setup why w.0 s here))

  pub closes : (start : List ℕ) (past : List Call) (setup got : List ℕ) (received : List Call) (answer : Answer) → ((request_of setup).length == 0) ≡ false → Receives (request_of setup).length got received
      → EachCall (IsAnswered defaults) start (Out [] answer ∷ received ++ SetUp setup ∷ past) → answer ≡ Answers.Ack
  closes start past setup got received answer z w h = by_first (first start past setup z)
    where
      here : EachCall (IsAnswered defaults) start (in_calls w.0 ++ SetUp setup ∷ past)
      here = conforming_of start past setup received (in_calls w.0) w.2 h.1

      closed : IsAnswered defaults start (in_calls w.0 ++ SetUp setup ∷ past) (Out [] answer)
      closed = let P : List Call → Type 0 = λ l. IsAnswered defaults start (l ++ SetUp setup ∷ past) (Out [] answer) in subst P w.2 h.0

      by_first : First (transfer_of (request_of setup) (view_after defaults start past)) (request_of setup).length → answer ≡ Answers.Ack
      by_first (reads bytes e) =
          let P : Stage → Type 0 = λ s. OutAnswer defaults (out_step s []) (image_after start (in_calls w.0 ++ SetUp setup ∷ past)) (is_some (working defaults start (in_calls w.0 ++ SetUp setup ∷ past))) answer in
          subst P (now_sending defaults start past setup bytes w.0 e z) closed
      by_first (stalls why s f) = absurd (whole_none (request_of setup).length got w.0 w.1 (no_packets start past setup why w.0 s here))

  -- where none ends the read the next one is there, and they are at most 12
  goes_on : (start : List ℕ) (past : List Call) (setup bytes : List ℕ) (packets : List (List ℕ)) → transfer_of (request_of setup) (view_after defaults start past) ≡ Ok (Reads bytes) → ((request_of setup).length == 0) ≡ false
      → GoOn (request_of setup).length packets → EachCall (IsAnswered defaults) start (in_calls packets ++ SetUp setup ∷ past)
      → (8 * length packets ≤ length (take (request_of setup).length bytes)) × (8 * length packets < (request_of setup).length)
  goes_on start past setup bytes packets e z g h =
      let asked : ℕ = (request_of setup).length in
      let size = reads_sized defaults start past setup bytes e in
      let sent = length-take asked bytes in
      let some = some_asked asked z in
      let P : List (List ℕ) → Type 0 = λ l. EachCall (IsAnswered defaults) start (in_calls l ++ SetUp setup ∷ past) in
      full (take asked bytes) asked packets (omega (arith, sent, some, size.0)) some (omega (arith, sent)) g (taken_are defaults start past setup bytes packets e z h)
      (λ packet before is. taken_are defaults start past setup bytes before e z (subst P is h).1)

  -- why no bytes came
  abbrev Ends : List ℕ → List Call → List ℕ → TransferError → List Call → Type 0
  Ends start past setup e received =
      (read_answer (transfer_of (request_of setup) (view_after defaults start past)) (request_of setup).length ≡ Err e) × IsUnread setup (received ++ (SetUp setup ∷ []))

  stalled_first : (start : List ℕ) (past : List Call) (setup : List ℕ) (answer : Answer) (packets : List (List ℕ)) (received : List Call) (why : Why) → received ≡ In answer ∷ in_calls packets
      → in_answer (first_stage (transfer_of (request_of setup) (view_after defaults start past)) (request_of setup).length) ≡ Answers.Stall why
      → EachCall (IsAnswered defaults) start (In answer ∷ in_calls packets ++ SetUp setup ∷ past) → IsUnread setup (received ++ (SetUp setup ∷ []))
  stalled_first start past setup answer packets received why is s h =
      let none : packets ≡ [] = no_packets start past setup why packets s h.1 in
      let P : List (List ℕ) → Type 0 = λ l. EachCall (IsAnswered defaults) start (In answer ∷ in_calls l ++ SetUp setup ∷ past) in
      let here : EachCall (IsAnswered defaults) start (In answer ∷ SetUp setup ∷ past) = subst P none h in
      let reported : answer ≡ Answers.Stall why = here.0 ∙ ap in_answer (stage_begun defaults start past setup) ∙ s in
      stalled why (ap (λ l. l ++ (SetUp setup ∷ [])) is ∙ ap (λ l. In answer ∷ in_calls l ++ (SetUp setup ∷ [])) none ∙ ap (λ a. In a ∷ SetUp setup ∷ []) reported)

  not_stalled_nak : (start : List ℕ) (past : List Call) (setup : List ℕ) (packets : List (List ℕ)) (why : Why) → in_answer (first_stage (transfer_of (request_of setup) (view_after defaults start past)) (request_of setup).length) ≡ Answers.Stall why
      → EachCall (IsAnswered defaults) start (In Answers.Nak ∷ in_calls packets ++ SetUp setup ∷ past) → ⊥
  not_stalled_nak start past setup packets why s h =
      let none : packets ≡ [] = no_packets start past setup why packets s h.1 in
      let P : List (List ℕ) → Type 0 = λ l. EachCall (IsAnswered defaults) start (In Answers.Nak ∷ in_calls l ++ SetUp setup ∷ past) in
      let here : EachCall (IsAnswered defaults) start (In Answers.Nak ∷ SetUp setup ∷ past) = subst P none h in
      let reported : Answers.Nak ≡ Answers.Stall why = here.0 ∙ ap in_answer (stage_begun defaults start past setup) ∙ s in cc

  pub not_got : (start : List ℕ) (past : List Call) (setup : List ℕ) (e : TransferError) (received : List Call) → ((request_of setup).length == 0) ≡ false → NotReceived e (request_of setup).length received
      → EachCall (IsAnswered defaults) start (received ++ SetUp setup ∷ past)
      → (read_answer (transfer_of (request_of setup) (view_after defaults start past)) (request_of setup).length ≡ Err e) × IsUnread setup (received ++ (SetUp setup ∷ []))
  not_got start past setup Refused received z n h = by_first (first start past setup z)
    where
      here : EachCall (IsAnswered defaults) start (In n.0 ∷ in_calls n.1 ++ SetUp setup ∷ past)
      here = conforming_of start past setup received (In n.0 ∷ in_calls n.1) n.4 h

      by_first : First (transfer_of (request_of setup) (view_after defaults start past)) (request_of setup).length → Ends start past setup Refused received
      by_first (reads bytes e) =
          let on = goes_on start past setup bytes n.1 e z n.3 here.1 in
          absurd (next_there bytes (request_of setup).length (length n.1) on.0 on.1
          (no_packet_none (packet_at bytes (request_of setup).length (length n.1)) n.0 n.2 (here.0 ∙ ap in_answer (now_sending defaults start past setup bytes n.1 e z))))
      by_first (stalls why s f) = (f, stalled_first start past setup n.0 n.1 received why n.4 s here)
  not_got start past setup Busy received z n h = by_first (first start past setup z)
    where
      here : EachCall (IsAnswered defaults) start (In Answers.Nak ∷ in_calls n.0 ++ SetUp setup ∷ past)
      here = conforming_of start past setup received (In Answers.Nak ∷ in_calls n.0) n.2 h

      by_first : First (transfer_of (request_of setup) (view_after defaults start past)) (request_of setup).length → Ends start past setup Busy received
      by_first (reads bytes e) = absurd (nak_never (packet_at bytes (request_of setup).length (length n.0)) (here.0 ∙ ap in_answer (now_sending defaults start past setup bytes n.0 e z)))
      by_first (stalls why s f) = absurd (not_stalled_nak start past setup n.0 why s here)
  not_got start past setup Unfinished received z n h = by_first (first start past setup z)
    where
      here : EachCall (IsAnswered defaults) start (in_calls n.0 ++ SetUp setup ∷ past)
      here = conforming_of start past setup received (in_calls n.0) n.3 h

      by_first : First (transfer_of (request_of setup) (view_after defaults start past)) (request_of setup).length → Ends start past setup Unfinished received
      by_first (reads bytes e) =
          let on = goes_on start past setup bytes n.0 e z n.1 here in
          let size = reads_sized defaults start past setup bytes e in
          let sent = length-take (request_of setup).length bytes in
          let count = n.2 in
          absurd (omega (arith, on.0, size.1, sent, count))
      by_first (stalls why s f) =
          let none = no_packets start past setup why n.0 s here in
          let count = n.2 in
          absurd (let l = ap length none in omega (arith, l, count))

-- ---- as the call answers

pub behind : (P : List Call → Type 0) (received past : List Call) (setup : List ℕ) → P (received ++ SetUp setup ∷ past) → P ((received ++ (SetUp setup ∷ [])) ++ past)
behind P received past setup p = subst P (sym (append_assoc received (SetUp setup ∷ []) past)) p

is_read : (setup got : List ℕ) (received : List Call) (answer : Answer) → Receives (request_of setup).length got received → answer ≡ Answers.Ack → IsRead setup got (Out [] answer ∷ received ++ (SetUp setup ∷ []))
is_read setup got received answer w a =
    record { packets = w.0; whole = w.1; since_is = ap (λ x. Out [] x ∷ received ++ (SetUp setup ∷ [])) a ∙ ap (λ l. Out [] Answers.Ack ∷ l ++ (SetUp setup ∷ [])) w.2 }

module _ (defaults : DefaultCodes) where
  pub closed_calls : {B : Type 0} (items : B → List ℕ) (start : List ℕ) (past : List Call) (setup : List ℕ) (bytes : B) (result : Result B TransferError) (answer : Answer) (received : List Call) → ((request_of setup).length == 0) ≡ false
      → Receives (request_of setup).length (items bytes) received → EachCall (IsAnswered defaults) start (Out [] answer ∷ received ++ SetUp setup ∷ past)
      → MatchResult result (λ given. given ≡ bytes) (λ e. answer ≢ Answers.Ack)
      → MatchResult result (λ given. IsRead setup (items given) (Out [] answer ∷ received ++ (SetUp setup ∷ []))) (λ e. IsUnread setup (Out [] answer ∷ received ++ (SetUp setup ∷ [])))
  closed_calls items start past setup bytes (Ok given) answer received z w h m =
      let P : List ℕ → Type 0 = λ x. IsRead setup x (Out [] answer ∷ received ++ (SetUp setup ∷ [])) in
      subst P (ap items (sym m)) (is_read setup (items bytes) received answer w (closes defaults start past setup (items bytes) received answer z w h))
  closed_calls items start past setup bytes (Err e) answer received z w h m = absurd (m (closes defaults start past setup (items bytes) received answer z w h))

  pub closed_answer : {B : Type 0} (items : B → List ℕ) (start : List ℕ) (past : List Call) (setup : List ℕ) (bytes : B) (result : Result B TransferError) (answer : Answer) (received : List Call) → ((request_of setup).length == 0) ≡ false
      → Receives (request_of setup).length (items bytes) received → EachCall (IsAnswered defaults) start (Out [] answer ∷ received ++ SetUp setup ∷ past)
      → MatchResult result (λ given. given ≡ bytes) (λ e. answer ≢ Answers.Ack)
      → MatchResult result (λ given. read_answer (transfer_of (request_of setup) (view_after defaults start past)) (request_of setup).length ≡ Ok (items given))
      (λ e. read_answer (transfer_of (request_of setup) (view_after defaults start past)) (request_of setup).length ≡ Err e)
  closed_answer items start past setup bytes (Ok given) answer received z w h m = read_got defaults start past setup (items bytes) received z w h.1 ∙ ap (λ b. Ok (items b)) (sym m)
  closed_answer items start past setup bytes (Err e) answer received z w h m = absurd (m (closes defaults start past setup (items bytes) received answer z w h))
