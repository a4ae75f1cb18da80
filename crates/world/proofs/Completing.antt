-- A fetch whose packets all came leaves the report descriptor kept.
use Rattle.std.proofs.Common.{◌≡◌, ℕ, suc, ◌+◌, ◌*◌, ◌≤◌, ◌<◌, ◌==◌, ◌&&◌, ◌||◌, not, nat_lt, nat_le, min, Bool, true, false, if◌then◌else◌, List, [], ◌∷◌, ◌++◌, Option, Some, None, is_some, length, take, length-append, refl, sym, ◌∙◌, ap, subst, arith}
use Rattle.std.specs.Prelude.{unwrap_or}
use Rattle.std.proofs.lemmas.Bool.{eq-eqb}
use Rattle.std.proofs.lemmas.Bool.Decides.{nat_tests}
use Rattle.std.proofs.lemmas.List.{length-take, take_all}
use Rattle.descriptor_build.specs.Served.{report_bytes}
use Rattle.control_ep.specs.declared.answer.EpAnswer.{EpAnswer}
use Rattle.control_ep.specs.declared.answer.EpAnswer.TheVariants.{Packet}
use Rattle.control_ep.specs.Calls.{EpCall}
use Rattle.control_ep.specs.Packets.{packet_at, joined_packets}
use Rattle.control_ep.specs.Stage.{calls_since, last_setup, first_stall, count_in, progress_of}
use Rattle.control_ep.specs.Answers.{in_answer}
use Rattle.control_ep.proofs.Stages.{stage-is}
use Rattle.control_ep.proofs.Joined.{joined-is}
use Rattle.host.specs.Calls.{HostCall, was_set_up, got_packet, lost}
use Rattle.host.specs.Faultless.{is_faultless}
use Rattle.host.specs.Kept.{Fetch, asks_for_report, wanted_length, with_packet, is_end, gathering, is_kept, kept_with, kept}
use Rattle.layers.specs.Codes.{DefaultCodes}
use Rattle.keyboard.specs.Calls.{Call, EachCall}
use Rattle.keyboard.specs.Endpoint.{ep_calls, stage_after}
use Rattle.keyboard.specs.Conforming.{IsAnswered}
use Rattle.world.proofs.Served.{served-faultless}
use Rattle.world.specs.Heard.{Hears}
use Rattle.world.specs.Fetched.{AreTaken, IsFetched}
use Rattle.world.proofs.Giving.{Given, stalls, gives, given}
use Rattle.world.proofs.Gathering.{Gathers, joined_more}
use Rattle.world.proofs.Fetching.{Fetches, fetches, served_size}
use Rattle.world.proofs.Listening.{Before, unheard}

-- ---- the bytes of a packet

-- as many bytes as so many packets have
joined_of : (text : List ℕ) (wanted n : ℕ) → length text ≡ 99 → 99 ≤ wanted → joined_packets text wanted n ≡ take (8 * n) text
joined_of text wanted n size enough =
    let whole : take wanted text ≡ text = take_all wanted text (omega (arith, size, enough)) in
    joined-is text wanted n ∙ ap (λ (l : List ℕ). take (8 * n) l) whole

same_count : (text : List ℕ) (k n : ℕ) → length text ≡ 99 → k ≤ 12 → take (8 * k) text ≡ take (8 * n) text → n ≡ k
same_count text k n size few e = omega (arith, ap length e, length-take (8 * k) text, length-take (8 * n) text, size, few)

-- the packet after k of them
next_bytes : (text : List ℕ) (calls : List EpCall) (wanted k : ℕ) (bytes : List ℕ) → length text ≡ 99 → 99 ≤ wanted → k ≤ 12
    → Gathers text calls (record { wanted = wanted; bytes = take (8 * k) text }) → first_stall (calls_since calls) ≡ None
    → unwrap_or (packet_at text wanted (count_in (calls_since calls))) [] ≡ bytes → take (8 * k) text ++ bytes ≡ take (8 * suc k) text
next_bytes text calls wanted k bytes size enough few g none b =
    let n = count_in (calls_since calls) in
    let here : take (8 * k) text ≡ take (8 * n) text = g.bytes_are none ∙ joined_of text wanted n size enough in
    let count : n ≡ k = same_count text k n size few here in
    joined_more text calls (record { wanted = wanted; bytes = take (8 * k) text }) bytes g none b
    ∙ joined_of text wanted (suc n) size enough ∙ ap (λ (m : ℕ). take (8 * suc m) text) count

next_size : (text : List ℕ) (k : ℕ) (bytes : List ℕ) → length text ≡ 99 → k ≤ 12 → take (8 * k) text ++ bytes ≡ take (8 * suc k) text
    → 8 * k + length bytes ≡ min (8 * suc k) 99
next_size text k bytes size few e =
    omega (arith, ap length e, length-append (take (8 * k) text) bytes, length-take (8 * k) text, length-take (8 * suc k) text, size, few)

not_lt : (a b : ℕ) → b ≤ a → nat_lt a b ≡ false
not_lt a b l = grind (arith, nat_tests, l)

not_le : (a b : ℕ) → b < a → nat_le a b ≡ false
not_le a b l = grind (arith, nat_tests, l)

is_lt : (a b : ℕ) → a < b → nat_lt a b ≡ true
is_lt a b l = grind (arith, nat_tests, l)

goes_by : (a b : Bool) (x y : Fetch) → a ≡ false → b ≡ false → x ≡ y → (if true && not (a || b) then Some x else None) ≡ Some y
goes_by true b x y e f g = cc
goes_by false true x y e f g = cc
goes_by false false x y e f g = ap Some g

keeps_by : (a b c d : Bool) (x : List ℕ) (before : Option (List ℕ)) → a ≡ true → c ≡ true → d ≡ true → (if true && ((a || b) && (c && d)) then Some x else before) ≡ Some x
keeps_by true b true true x before e f g = refl
keeps_by false b c d x before e f g = cc
keeps_by true b false d x before e f g = cc
keeps_by true b true false x before e f g = cc

-- ---- from packet to packet

pub record Next (start : List ℕ) (reported host : List HostCall) (wanted k : ℕ) (bytes : List ℕ) : Type 0 where
  adds : take (8 * k) report_bytes ++ bytes ≡ take (8 * suc k) report_bytes
  size : 8 * k + length bytes ≡ min (8 * suc k) 99

abbrev items_of : EpAnswer → List ℕ
items_of (Packet packet) = packet.items
items_of _ = []

next_by : (start : List ℕ) (reported host : List HostCall) (calls : List EpCall) (wanted k : ℕ) (bytes : List ℕ) → 99 ≤ wanted → k ≤ 12
    → Gathers report_bytes calls (record { wanted = wanted; bytes = take (8 * k) report_bytes })
    → Given report_bytes wanted (count_in (calls_since calls)) (first_stall (calls_since calls)) (Packet (record { items = bytes }))
    → Next start reported host wanted k bytes
next_by start reported host calls wanted k bytes enough few g (stalls why e) = cc
next_by start reported host calls wanted k bytes enough few g (gives packet none p e) =
    let same : packet ≡ bytes = sym (ap items_of e) in
    let adds = next_bytes report_bytes calls wanted k bytes served_size enough few g none (p ∙ same) in
    record { adds = adds; size = next_size report_bytes k bytes served_size few adds }

pub goes_next : (start : List ℕ) (reported host : List HostCall) (wanted k : ℕ) (bytes : List ℕ) → 99 ≤ wanted → k ≤ 11
    → gathering host ≡ Some (record { wanted = wanted; bytes = take (8 * k) report_bytes }) → Next start reported host wanted k bytes
    → gathering (got_packet bytes true ∷ host) ≡ Some (record { wanted = wanted; bytes = take (8 * suc k) report_bytes })
unfolding gathering
goes_next start reported host wanted k bytes enough few g n =
    let fetch : Fetch = record { wanted = wanted; bytes = take (8 * k) report_bytes } in
    let eight : length bytes ≡ 8 = omega (arith, n.size, few) in
    let all : length (take (8 * k) report_bytes ++ bytes) < wanted = omega (arith, ap length n.adds, length-take (8 * suc k) report_bytes, few, enough) in
    rw g (goes_by (nat_lt (length bytes) 8) (nat_le wanted (length (take (8 * k) report_bytes ++ bytes))) (with_packet fetch bytes) (record { wanted = wanted; bytes = take (8 * suc k) report_bytes })
    (not_lt (length bytes) 8 (omega (arith, eight))) (not_le wanted (length (take (8 * k) report_bytes ++ bytes)) all)
    (ap (λ (l : List ℕ). record { wanted = wanted; bytes = l }) n.adds))

keeps_last : (start : List ℕ) (reported host : List HostCall) (wanted : ℕ) (bytes : List ℕ)
    → gathering host ≡ Some (record { wanted = wanted; bytes = take (8 * 12) report_bytes }) → Next start reported host wanted 12 bytes
    → kept (got_packet bytes true ∷ host) ≡ Some report_bytes
unfolding gathering kept
keeps_last start reported host wanted bytes g n =
    let three : length bytes ≡ 3 = omega (arith, n.size) in
    let whole : take (8 * 12) report_bytes ++ bytes ≡ report_bytes = n.adds ∙ take_all (8 * 13) report_bytes (omega (arith, served_size)) in
    rw g (keeps_by (nat_lt (length bytes) 8) (nat_le wanted (length (take (8 * 12) report_bytes ++ bytes))) (length (take (8 * 12) report_bytes ++ bytes) == 99) (is_faultless (take (8 * 12) report_bytes ++ bytes))
    (take (8 * 12) report_bytes ++ bytes) (kept host)
    (is_lt (length bytes) 8 (omega (arith, three))) (eq-eqb (length (take (8 * 12) report_bytes ++ bytes)) 99 (ap length whole ∙ served_size)) (ap is_faultless whole ∙ served-faultless)
    ∙ ap Some whole)

longer : (xs ys zs : List HostCall) → length zs ≤ length (xs ++ (ys ++ zs))
longer xs ys zs = omega (arith, length-append xs (ys ++ zs), length-append ys zs)

keeps_some : (go : Bool) (text : List ℕ) (before : Option (List ℕ)) → is_some before ≡ true → is_some (if go then Some text else before) ≡ true
keeps_some true text before e = refl
keeps_some false text before e = e

packet_keeps : (fetch : Option Fetch) (bytes : List ℕ) (memory : Bool) (before : Option (List ℕ)) → is_some before ≡ true → is_some (kept_with fetch bytes memory before) ≡ true
packet_keeps None bytes memory before e = e
packet_keeps (Some fetch) bytes memory before e =
    keeps_some (memory && (is_end fetch bytes && is_kept (fetch.bytes ++ bytes))) (fetch.bytes ++ bytes) before e

pub stays_kept : (later host : List HostCall) → is_some (kept host) ≡ true → is_some (kept (later ++ host)) ≡ true
unfolding kept
stays_kept [] host e = e
stays_kept (was_set_up setup ∷ later) host e = stays_kept later host e
stays_kept (got_packet bytes memory ∷ later) host e = packet_keeps (gathering (later ++ host)) bytes memory (kept (later ++ host)) (stays_kept later host e)
stays_kept (lost ∷ later) host e = stays_kept later host e

module _ (defaults : DefaultCodes) where
  next : (start : List ℕ) (reported host : List HostCall) (past : List Call) (wanted k : ℕ) (bytes : List ℕ) → 99 ≤ wanted → k ≤ 12 → Fetches reported (ep_calls defaults start past) host
      → gathering host ≡ Some (record { wanted = wanted; bytes = take (8 * k) report_bytes })
      → Packet (record { items = bytes }) ≡ in_answer (stage_after defaults start past) → Next start reported host wanted k bytes
  next start reported host past wanted k bytes enough few f g e =
      let calls = ep_calls defaults start past in
      let now : Gathers report_bytes calls (record { wanted = wanted; bytes = take (8 * k) report_bytes }) = rw g at f.gathers in
      next_by start reported host calls wanted k bytes enough few now
      (given report_bytes wanted (first_stall (calls_since calls)) (last_setup calls) (progress_of (calls_since calls)) (Packet (record { items = bytes })) now.begins (e ∙ ap in_answer (stage-is calls)))

  -- so many packets, each taken, after a SETUP packet that asks for enough
  reaches : (start : List ℕ) (reported : List HostCall) (setup : List ℕ) (before packets : List HostCall) (past : List Call) → asks_for_report setup ≡ true → 99 ≤ wanted_length setup
      → Fetches reported [] reported → AreTaken packets → length packets ≤ 12 → Hears reported past (packets ++ (was_set_up setup ∷ before ++ reported)) → EachCall (IsAnswered defaults) start past
      → gathering (packets ++ (was_set_up setup ∷ before ++ reported)) ≡ Some (record { wanted = wanted_length setup; bytes = take (8 * length packets) report_bytes })
  unfolding gathering
  reaches start reported setup before [] past asks enough f taken few h a = rw asks refl
  reaches start reported setup before (got_packet bytes memory ∷ packets) past asks enough f (on, taken) few h a =
      let host = packets ++ (was_set_up setup ∷ before ++ reported) in
      let b : Before defaults start reported (got_packet bytes memory) host = unheard defaults start reported past (got_packet bytes memory ∷ host) (got_packet bytes memory) host h refl (longer packets (was_set_up setup ∷ before) reported) a in
      let short : length packets ≤ 11 = omega (arith, few) in
      let here = reaches start reported setup before packets b.past asks enough f taken (omega (arith, short)) b.hears b.answered in
      let now = fetches defaults start reported b.past host served_size b.hears b.answered f in
      rw on (goes_next start reported host (wanted_length setup) (length packets) bytes enough short here
      (next start reported host b.past (wanted_length setup) (length packets) bytes enough (omega (arith, short)) now here b.given))
  reaches start reported setup before (was_set_up other ∷ packets) past asks enough f taken few h a = absurd taken
  reaches start reported setup before (lost ∷ packets) past asks enough f taken few h a = absurd taken

  completes : (start : List ℕ) (reported : List HostCall) (setup : List ℕ) (before packets : List HostCall) (past : List Call) → asks_for_report setup ≡ true → 99 ≤ wanted_length setup
      → Fetches reported [] reported → AreTaken packets → length packets ≡ 13 → Hears reported past (packets ++ (was_set_up setup ∷ before ++ reported)) → EachCall (IsAnswered defaults) start past
      → kept (packets ++ (was_set_up setup ∷ before ++ reported)) ≡ Some report_bytes
  completes start reported setup before [] past asks enough f taken count h a = absurd (omega (arith, count))
  completes start reported setup before (got_packet bytes memory ∷ packets) past asks enough f (on, taken) count h a =
      let host = packets ++ (was_set_up setup ∷ before ++ reported) in
      let twelve : length packets ≡ 12 = omega (arith, count) in
      let size : length reported ≤ length host = longer packets (was_set_up setup ∷ before) reported in
      let b : Before defaults start reported (got_packet bytes memory) host = unheard defaults start reported past (got_packet bytes memory ∷ host) (got_packet bytes memory) host h refl size a in
      let reached = reaches start reported setup before packets b.past asks enough f taken (omega (arith, twelve)) b.hears b.answered in
      let here : gathering host ≡ Some (record { wanted = wanted_length setup; bytes = take (8 * 12) report_bytes }) = rw twelve at reached in
      let now = fetches defaults start reported b.past host served_size b.hears b.answered f in
      rw on (keeps_last start reported host (wanted_length setup) bytes here (next start reported host b.past (wanted_length setup) 12 bytes enough (omega arith) now here b.given))
  completes start reported setup before (was_set_up other ∷ packets) past asks enough f taken count h a = absurd taken
  completes start reported setup before (lost ∷ packets) past asks enough f taken count h a = absurd taken

  -- ---- and later

  -- the session up to what a host heard then
  record Upto (start : List ℕ) (reported host : List HostCall) : Type 0 where
    past : List Call
    hears : Hears reported past host
    answered : EachCall (IsAnswered defaults) start past

  upto : (start : List ℕ) (reported later host : List HostCall) (past : List Call) → length reported ≤ length host → Hears reported past (later ++ host) → EachCall (IsAnswered defaults) start past → Upto start reported host
  upto start reported [] host past l h a = record { past = past; hears = h; answered = a }
  upto start reported (call ∷ later) host past l h a =
      let b : Before defaults start reported call (later ++ host) = unheard defaults start reported past (call ∷ later ++ host) call (later ++ host) h refl (omega (arith, l, length-append later host)) a in
      upto start reported later host b.past l b.hears b.answered

  pub fetched_keeps : (start : List ℕ) (reported host : List HostCall) (past : List Call) → Fetches reported [] reported → Hears reported past host → EachCall (IsAnswered defaults) start past → IsFetched reported host
      → is_some (kept host) ≡ true
  fetched_keeps start reported host past f h a fetched =
      let last = fetched.packets ++ (was_set_up fetched.setup ∷ fetched.before ++ reported) in
      let size : length reported ≤ length last = longer fetched.packets (was_set_up fetched.setup ∷ fetched.before) reported in
      let u = upto start reported fetched.later last past size (subst (λ (x : List HostCall). Hears reported past x) fetched.split h) a in
      let kept_last = completes start reported fetched.setup fetched.before fetched.packets u.past fetched.asks fetched.enough f fetched.taken fetched.count u.hears u.answered in
      let some : is_some (kept last) ≡ true = ap is_some kept_last in
      rw fetched.split (stays_kept fetched.later last some)
