-- The moments of the reports that are due do not go back: what waits is a queue, in the order of its moments, and what comes
-- into it later is of a later moment.
use Rattle.std.proofs.Common.{◌≡◌, ℕ, ◌+◌, ◌-◌, ◌≤◌, zero, suc, min, Bool, true, false, cond, if◌then◌else◌, List, [], ◌∷◌, ◌++◌, Option, Some, None, length, map, filter, drop, slice_get, refl, sym, ◌∙◌, ap, subst, arith, length-append, append-nil, append_assoc}
use Rattle.std.specs.Prelude.{◌≢◌}
use Rattle.std.specs.List.{All}
use Rattle.std.specs.Option.{option_map, option_or}
use Rattle.std.proofs.lemmas.List.{drop-drop, drop_all, length-map}
use Rattle.std.proofs.lemmas.List.Elements.{All-append, All-nil, All-cons, All-head, All-tail, All-drop, All-map, All-weaker}
use Rattle.circular_buffer.specs.Buffer.{keep_last}
use Rattle.debounce.specs.declared.Scan.{Scan}
use Rattle.reports.specs.declared.Input.{Input}
use Rattle.reports.specs.declared.Input.TheVariants.{Boot, One, Two}
use Rattle.reports.specs.declared.Protocol.{Protocol}
use Rattle.reports.specs.declared.Protocol.TheVariants as protocol
use Rattle.reports.specs.Calls.{ticked}
use Rattle.reports.specs.Poll.{chosen}
use Rattle.reports.specs.Queue.{reports_of, pushed_by, pushed, waiting}
use Rattle.reports.proofs.Waiting.{keep_last-append, waiting-le, waiting-le8}
use Rattle.layers.specs.Codes.{DefaultCodes}
use Rattle.key_reports.specs.Calls.{KeyCall}
use Rattle.key_reports.specs.Past.{wanted_after, poller_calls}
use Rattle.control_ep.specs.declared.answer.Effect.{Effect}
use Rattle.control_ep.specs.declared.answer.Effect.TheVariants.{Nothing, Idle, SetProtocol}
use Rattle.keyboard.specs.Calls.{Call, Scanned, SetUp, Out, In, Polled, Worked, BusReset}
use Rattle.keyboard.specs.Effects.{effect_reported, protocol_after}
use Rattle.keyboard.specs.Keys.{with_effect, key_calls}
use Rattle.world.specs.Due.{Due, due_bytes, changes, put_by, is_choice, put, waits, ruled, due}
use Rattle.world.proofs.Waiting.{pushed_put, all_pushed}

-- ---- what waits is a queue

keep_last-less : (n : ℕ) (xs : List Due) → n ≤ length xs → keep_last (n - 1) xs ≡ drop 1 (keep_last n xs)
keep_last-less zero xs l =
    let none : length xs - (zero - 1) ≡ length xs - zero = omega arith in
    let all : drop (length xs - zero) xs ≡ [] = drop_all (length xs - zero) xs (omega arith) in
    rw (none, all) refl
keep_last-less (suc n) xs l = let e : length xs - suc n + 1 ≡ length xs - (suc n - 1) = omega arith in sym (drop-drop 1 (length xs - suc n) xs ∙ rw e refl)

waits_reported : (effect : Effect) (calls : List KeyCall) (dues : List Due) → keep_last (waiting (poller_calls (with_effect effect calls))) (if is_choice effect then [] else dues)
    ≡ (if is_choice effect then [] else keep_last (waiting (poller_calls calls)) dues)
unfolding poller_calls waiting pushed_by
waits_reported Nothing calls dues = refl
waits_reported (Idle id duration) calls dues =
    let same : min 8 (waiting (poller_calls calls) + 0) ≡ waiting (poller_calls calls) = omega (arith, waiting-le8 (poller_calls calls)) in
    ap (λ (k : ℕ). keep_last k dues) same
waits_reported (SetProtocol p) calls dues = refl

kept_reported : (b : Bool) (Q : List Due → Type 0) (dues : List Due) → Q [] → Q dues → Q (if b then [] else dues)
kept_reported true Q dues none all = none
kept_reported false Q dues none all = all

-- the calls go on from a moment
abbrev GoesOn : (moment past : List Call) → Type 0
GoesOn moment past = (between : List Call) × (past ≡ between ++ moment)

-- another report, of the same moment or a later one
abbrev Precedes : Due → Due → Type 0
Precedes one other = GoesOn one.moment other.moment × (one ≢ other)

-- each before all that come after it
abbrev InOrder : List Due → Type 0
InOrder [] = Unit {0}
InOrder (one ∷ later) = All (Precedes one) later × InOrder later

in_order-drop : (n : ℕ) (dues : List Due) → InOrder dues → InOrder (drop n dues)
in_order-drop zero dues h = h
in_order-drop (suc n) [] h = h
in_order-drop (suc n) (one ∷ later) h = in_order-drop n later h.1

in_order-append : (dues others : List Due) → InOrder dues → InOrder others → All (λ one. All (Precedes one) others) dues → InOrder (dues ++ others)
in_order-append [] others h i j = i
in_order-append (one ∷ later) others h i j = (
  All-append (Precedes one) later others h.0 (All-head (λ d. All (Precedes d) others) one later j),
  in_order-append later others h.1 i (All-tail (λ d. All (Precedes d) others) one later j),
)

-- ---- what a scan puts into it

-- two of one moment
one_before_two : (moment : List Call) → Precedes (record { moment = moment; input = One }) (record { moment = moment; input = Two })
one_before_two moment = (([], refl), λ e. (let f : One ≡ Two = ap (λ (d : Due). d.input) e in cc))

one_put : (moment : List Call) (input : Input) (b : Bool) → InOrder (map (λ input. record { moment = moment; input = input }) (cond b (input ∷ []) []))
one_put moment input true = (All-nil (Precedes (record { moment = moment; input = input })), tt)
one_put moment input false = tt

two_put : (moment : List Call) (a b : Bool) → InOrder (map (λ input. record { moment = moment; input = input }) (cond a (One ∷ cond b (Two ∷ []) []) (cond b (Two ∷ []) [])))
two_put moment true true =
    let two : Due = record { moment = moment; input = Two } in
    let one : Due = record { moment = moment; input = One } in
    (All-cons (Precedes one) two [] (one_before_two moment) (All-nil (Precedes one)), one_put moment Two true)
two_put moment true false = one_put moment One true
two_put moment false b = one_put moment Two b

all_in_order : (moment : List Call) (test : Input → Bool) (p : Protocol) → InOrder (map (λ input. record { moment = moment; input = input }) (filter test (reports_of p)))
all_in_order moment test protocol.Boot = one_put moment Boot (test Boot)
all_in_order moment test protocol.Report = two_put moment (test One) (test Two)

goes_further : (moment past since : List Call) → GoesOn moment past → GoesOn moment (since ++ past)
goes_further moment past since g = (since ++ g.0, ap (λ (l : List Call). since ++ l) g.1 ∙ sym (append_assoc since g.0 moment))

-- no calls go on from themselves with a call more
no_further : (past between moment since : List Call) (call : Call) → past ≡ between ++ moment → moment ≡ since ++ call ∷ past → ⊥
no_further past between moment since call e f = omega (arith, ap length e, ap length f, length-append between moment, length-append since (call ∷ past))

later_still : (one : Due) (past since : List Call) (call : Call) (input : Input) → GoesOn one.moment past → Precedes one (record { moment = since ++ call ∷ past; input = input })
later_still one past since call input g =
    (goes_further one.moment (call ∷ past) since (goes_further one.moment past (call ∷ []) g), λ e. no_further past g.0 one.moment since call g.1 (ap (λ (d : Due). d.moment) e))

-- ---- what waits is in order, and of the past

record IsQueue (past : List Call) (dues : List Due) : Type 0 where
  in_order : InOrder dues
  of_past : All (λ one. GoesOn one.moment past) dues

-- of what waits, or of now
due_of_those : (P : Due → Type 0) (past : List Call) (dues : List Due) (o : Option Input) (report : Due) → All P dues
    → ((input : Input) → P (record { moment = past; input = input })) → option_or (slice_get dues 0) (option_map (λ input. record { moment = past; input = input }) o) ≡ Some report → P report
due_of_those P past [] None report all now e = cc
due_of_those P past [] (Some input) report all now e = (let f : record { moment = past; input = input } ≡ report = cc in subst P f (now input))
due_of_those P past (one ∷ later) o report all now e = (let f : one ≡ report = cc in subst P f (All-head P one later all))

-- the report that is due: all that waits is of its moment or a later one, and without the first that waits none is this one
record IsFirst (past : List Call) (dues : List Due) (report : Due) : Type 0 where
  of_past : GoesOn report.moment past
  not_earlier : All (λ one. GoesOn report.moment one.moment) dues
  others : All (Precedes report) (drop 1 dues)

first_due : (past : List Call) (dues : List Due) (o : Option Input) (report : Due) → IsQueue past dues
    → option_or (slice_get dues 0) (option_map (λ input. record { moment = past; input = input }) o) ≡ Some report → IsFirst past dues report
first_due past [] None report q e = cc
first_due past [] (Some input) report q e =
    let f : record { moment = past; input = input } ≡ report = cc in
    subst (IsFirst past []) f (record { of_past = ([], refl); not_earlier = All-nil (λ one. GoesOn past one.moment); others = All-nil (Precedes (record { moment = past; input = input })) })
first_due past (one ∷ later) o report q e =
    let f : one ≡ report = cc in
    subst (IsFirst past (one ∷ later)) f (record {
      of_past = All-head (λ d. GoesOn d.moment past) one later q.of_past;
      not_earlier = All-cons (λ d. GoesOn one.moment d.moment) one later ([], refl) (All-weaker (Precedes one) (λ d. GoesOn one.moment d.moment) (λ d p. p.0) later q.in_order.0);
      others = q.in_order.0;
    })

module _ (defaults : DefaultCodes) where
  waiting_put : (start : List ℕ) (past : List Call) → waiting (poller_calls (key_calls defaults start past)) ≤ length (put defaults start past)
  waiting_put start past =
      let size : length (pushed (poller_calls (key_calls defaults start past))) ≡ length (put defaults start past) = ap length (all_pushed defaults start past) ∙ length-map (put defaults start past) (due_bytes defaults start) in
      omega (arith, waiting-le (poller_calls (key_calls defaults start past)))

  waits-scan : (start : List ℕ) (before : List Call) (scan : Scan) → waits defaults start (Scanned scan ∷ before) ≡ keep_last 8 (waits defaults start before ++ put_by defaults start before scan)
  unfolding waits put key_calls poller_calls waiting
  waits-scan start before scan =
      let size : length (pushed_by (ticked (protocol_after before) (wanted_after (key_calls defaults start before)) (wanted_after (key_calls defaults start (Scanned scan ∷ before))))) ≡ length (put_by defaults start before scan)
      = ap length (pushed_put defaults start before scan) ∙ length-map (put_by defaults start before scan) (due_bytes defaults start) in
      ap (λ (k : ℕ). keep_last (min 8 (waiting (poller_calls (key_calls defaults start before)) + k)) (put defaults start before ++ put_by defaults start before scan)) size
      ∙ sym (keep_last-append 8 (waiting (poller_calls (key_calls defaults start before))) (put defaults start before) (put_by defaults start before scan) (waiting_put start before))

  pub waits-poll : (start : List ℕ) (before : List Call) (answer : Option (List ℕ)) → waits defaults start (Polled answer ∷ before) ≡ drop 1 (waits defaults start before)
  unfolding waits put key_calls poller_calls waiting
  waits-poll start before answer = keep_last-less (waiting (poller_calls (key_calls defaults start before))) (put defaults start before) (waiting_put start before)

  waits-in : (start : List ℕ) (before : List Call) (effect : Effect) → keep_last (waiting (poller_calls (with_effect effect (key_calls defaults start before)))) (if is_choice effect then [] else put defaults start before)
      ≡ (if is_choice effect then [] else waits defaults start before)
  unfolding waits
  waits-in start before effect = waits_reported effect (key_calls defaults start before) (put defaults start before)

  -- ---- what is true of what waits, whatever the calls

  -- a property of a list of reports after some calls: an empty list has it, and where a list has it, so has the list without
  -- its first reports, the list after one call more, and, after a scan, the list with what that put
  record IsKept (start : List ℕ) (before : List Call) (Q : List Call → List Due → Type 0) : Type 0 where
    none : (past : List Call) → Q past []
    fewer : (past : List Call) (n : ℕ) (dues : List Due) → Q past dues → Q past (drop n dues)
    longer : (call : Call) (past : List Call) (dues : List Due) → Q past dues → Q (call ∷ past) dues
    more : (since : List Call) (scan : Scan) (dues : List Due) → Q (since ++ before) dues → Q (Scanned scan ∷ (since ++ before)) (dues ++ put_by defaults start (since ++ before) scan)

  kept : (start : List ℕ) (before : List Call) (Q : List Call → List Due → Type 0) → IsKept start before Q → Q before (waits defaults start before)
      → (since : List Call) → Q (since ++ before) (waits defaults start (since ++ before))
  unfolding waits put key_calls poller_calls waiting
  kept start before Q k now [] = now
  kept start before Q k now (Scanned scan ∷ since) =
      let all = waits defaults start (since ++ before) ++ put_by defaults start (since ++ before) scan in
      subst (λ (dues : List Due). Q (Scanned scan ∷ (since ++ before)) dues) (sym (waits-scan start (since ++ before) scan))
      (k.fewer (Scanned scan ∷ (since ++ before)) (length all - 8) all (k.more since scan (waits defaults start (since ++ before)) (kept start before Q k now since)))
  kept start before Q k now (SetUp bytes ∷ since) = k.longer (SetUp bytes) (since ++ before) (waits defaults start (since ++ before)) (kept start before Q k now since)
  kept start before Q k now (Out packet answer ∷ since) = k.longer (Out packet answer) (since ++ before) (waits defaults start (since ++ before)) (kept start before Q k now since)
  kept start before Q k now (In answer ∷ since) =
      let effect = effect_reported (since ++ before) answer in
      subst (λ (dues : List Due). Q (In answer ∷ (since ++ before)) dues) (sym (waits-in start (since ++ before) effect))
      (kept_reported (is_choice effect) (Q (In answer ∷ (since ++ before))) (waits defaults start (since ++ before)) (k.none (In answer ∷ (since ++ before)))
      (k.longer (In answer) (since ++ before) (waits defaults start (since ++ before)) (kept start before Q k now since)))
  kept start before Q k now (Polled answer ∷ since) =
      subst (λ (dues : List Due). Q (Polled answer ∷ (since ++ before)) dues) (sym (waits-poll start (since ++ before) answer))
      (k.fewer (Polled answer ∷ (since ++ before)) 1 (waits defaults start (since ++ before)) (k.longer (Polled answer) (since ++ before) (waits defaults start (since ++ before)) (kept start before Q k now since)))
  kept start before Q k now (Worked work image ∷ since) = k.longer (Worked work image) (since ++ before) (waits defaults start (since ++ before)) (kept start before Q k now since)
  kept start before Q k now (BusReset ∷ since) = k.none (BusReset ∷ (since ++ before))

  -- ---- the order of what waits

  all_put : (P : Due → Type 0) (start : List ℕ) (before : List Call) (scan : Scan) → ((input : Input) → P (record { moment = Scanned scan ∷ before; input = input }))
      → All P (put_by defaults start before scan)
  all_put P start before scan h =
      let inputs = filter (changes defaults start before scan) (reports_of (protocol_after before)) in
      All-map P (λ input. record { moment = Scanned scan ∷ before; input = input }) inputs (All-weaker (λ (_ : Input). Unit {0}) (λ input. P (record { moment = Scanned scan ∷ before; input = input })) (λ input u. h input) inputs (λ k d l. tt))

  -- ---- a moment and what comes after it

  put_after : (start : List ℕ) (before : List Call) (scan : Scan) (dues : List Due) → IsQueue before dues → IsQueue (Scanned scan ∷ before) (dues ++ put_by defaults start before scan)
  put_after start before scan dues q =
      let new = put_by defaults start before scan in
      record {
        in_order = in_order-append dues new q.in_order (all_in_order (Scanned scan ∷ before) (changes defaults start before scan) (protocol_after before))
            (All-weaker (λ one. GoesOn one.moment before) (λ one. All (Precedes one) new) (λ one g. all_put (Precedes one) start before scan (λ input. later_still one before [] (Scanned scan) input g)) dues q.of_past);
        of_past = All-append (λ one. GoesOn one.moment (Scanned scan ∷ before)) dues new
            (All-weaker (λ one. GoesOn one.moment before) (λ one. GoesOn one.moment (Scanned scan ∷ before)) (λ one g. goes_further one.moment before (Scanned scan ∷ []) g) dues q.of_past)
            (all_put (λ one. GoesOn one.moment (Scanned scan ∷ before)) start before scan (λ input. ([], refl)));
      }

  queue_kept : (start : List ℕ) → IsKept start [] IsQueue
  queue_kept start = record {
    none = λ past. record { in_order = tt; of_past = All-nil (λ one. GoesOn one.moment past) };
    fewer = λ past n dues q. record { in_order = in_order-drop n dues q.in_order; of_past = All-drop (λ one. GoesOn one.moment past) n dues q.of_past };
    longer = λ call past dues q. record {
      in_order = q.in_order;
      of_past = All-weaker (λ one. GoesOn one.moment past) (λ one. GoesOn one.moment (call ∷ past)) (λ one g. goes_further one.moment past (call ∷ []) g) dues q.of_past;
    };
    more = λ since scan dues q. put_after start (since ++ []) scan dues q;
  }

  none_at_start : (start : List ℕ) → IsQueue [] (waits defaults start [])
  unfolding waits put key_calls poller_calls waiting
  none_at_start start = record { in_order = tt; of_past = All-nil (λ one. GoesOn one.moment []) }

  queue_waits : (start : List ℕ) (past : List Call) → IsQueue past (waits defaults start past)
  queue_waits start past = subst (λ (l : List Call). IsQueue l (waits defaults start l)) (append-nil past) (kept start [] IsQueue (queue_kept start) (none_at_start start) past)

  -- ---- what is due

  -- what holds of the reports of any moment from now on, and of those that wait, holds of the one that is due later
  later_due : (P : Due → Type 0) (start : List ℕ) (before : List Call) → ((since : List Call) (input : Input) → P (record { moment = since ++ before; input = input }))
      → All P (waits defaults start before) → (since : List Call) (report : Due) → due defaults start (since ++ before) ≡ Some report → P report
  unfolding due ruled
  later_due P start before new all since report e =
      let past = since ++ before in
      let k : IsKept start before (λ _ dues. All P dues) = record {
        none = λ past. All-nil P;
        fewer = λ past n dues h. All-drop P n dues h;
        longer = λ call past dues h. h;
        more = λ since scan dues h. All-append P dues (put_by defaults start (since ++ before) scan) h (all_put P start (since ++ before) scan (λ input. new (Scanned scan ∷ since) input));
      } in
      due_of_those P past (waits defaults start past) (chosen (protocol_after past) (wanted_after (key_calls defaults start past)) (poller_calls (key_calls defaults start past))) report
      (kept start before (λ _ dues. All P dues) k all since) (λ input. new since input) e

  is_first : (start : List ℕ) (past : List Call) (report : Due) → due defaults start past ≡ Some report → IsFirst past (waits defaults start past) report
  unfolding due ruled
  is_first start past report e =
      first_due past (waits defaults start past) (chosen (protocol_after past) (wanted_after (key_calls defaults start past)) (poller_calls (key_calls defaults start past))) report (queue_waits start past) e

  -- ---- moments go on

  pub goes_on : (start : List ℕ) (before since : List Call) (first last : Due) → due defaults start before ≡ Some first → due defaults start (since ++ before) ≡ Some last
      → (between : List Call) × (last.moment ≡ between ++ first.moment)
  goes_on start before since first last e f =
      let i = is_first start before first e in
      later_due (λ d. GoesOn first.moment d.moment) start before (λ s input. goes_further first.moment before s i.of_past) i.not_earlier since last f

  pub not_again : (start : List ℕ) (before since : List Call) (answer : Option (List ℕ)) (report : Due) → due defaults start before ≡ Some report
      → due defaults start (since ++ Polled answer ∷ before) ≢ Some report
  not_again start before since answer report e f =
      let i = is_first start before report e in
      let at_poll : All (Precedes report) (waits defaults start (Polled answer ∷ before)) = subst (All (Precedes report)) (sym (waits-poll start before answer)) i.others in
      (later_due (Precedes report) start (Polled answer ∷ before) (λ s input. later_still report before s (Polled answer) input i.of_past) at_poll since report f).1 refl
