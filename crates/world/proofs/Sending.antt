-- What a poll is answered are the bytes of the report that is due.
use Rattle.std.proofs.Common.{◌≡◌, ℕ, ◌||◌, Bool, true, false, if◌then◌else◌, List, [], ◌∷◌, Option, Some, None, slice_get, refl, ◌∙◌, ap, subst, arith}
use Rattle.std.specs.Prelude.{Contains}
use Rattle.std.specs.List.{All}
use Rattle.std.specs.Option.{option_map, option_or}
use Rattle.reports.specs.declared.Input.{Input}
use Rattle.reports.specs.declared.Input.TheVariants.{Boot, One, Two}
use Rattle.reports.specs.declared.Protocol.{Protocol}
use Rattle.reports.specs.declared.Protocol.TheVariants as protocol
use Rattle.reports.specs.Calls.{PollerCall}
use Rattle.reports.specs.Poll.{is_changed, is_elapsed, sent_last, one_of_two, chosen, rule_answer, poll_answer}
use Rattle.reports.specs.Queue.{reports_of}
use Rattle.layers.specs.Codes.{DefaultCodes}
use Rattle.key_reports.specs.Past.{wanted_after, poller_calls, answer_after}
use Rattle.keyboard.specs.Calls.{Call}
use Rattle.keyboard.specs.Effects.{protocol_after}
use Rattle.keyboard.specs.Keys.{key_calls}
use Rattle.world.specs.Due.{Due, due_bytes, waits, ruled, due}
use Rattle.world.specs.Sent.{IsWantedAt}
use Rattle.world.proofs.Waiting.{first_waiting, waits_of}

-- ---- the report that the poll rule chooses is one of the protocol

one_is : Contains (One ∷ Two ∷ []) One
one_is = (0, omega arith, refl)

two_is : Contains (One ∷ Two ∷ []) Two
two_is = (1, omega arith, refl)

boot_is : Contains (Boot ∷ []) Boot
boot_is = (0, omega arith, refl)

-- one of two inputs, by two tests
first_of_two : (a b : Bool) (x y input : Input) → Contains (One ∷ Two ∷ []) x → Contains (One ∷ Two ∷ []) y
    → (if a then Some x else (if b then Some y else None)) ≡ Some input → Contains (One ∷ Two ∷ []) input
first_of_two true b x y input c d e = (let f : x ≡ input = cc in subst (λ (i : Input). Contains (One ∷ Two ∷ []) i) f c)
first_of_two false true x y input c d e = (let f : y ≡ input = cc in subst (λ (i : Input). Contains (One ∷ Two ∷ []) i) f d)
first_of_two false false x y input c d e = cc

one_of_two_is : (test : Input → Bool) (last : Option Input) (input : Input) → one_of_two test last ≡ Some input → Contains (One ∷ Two ∷ []) input
one_of_two_is test (Some One) input e = first_of_two (test Two) (test One) Two One input two_is one_is e
one_of_two_is test (Some Boot) input e = first_of_two (test One) (test Two) One Two input one_is two_is e
one_of_two_is test (Some Two) input e = first_of_two (test One) (test Two) One Two input one_is two_is e
one_of_two_is test None input e = first_of_two (test One) (test Two) One Two input one_is two_is e

by_either : (b : Bool) (changed elapsed : Input → Bool) (last : Option Input) (input : Input) → (if b then one_of_two changed last else one_of_two elapsed last) ≡ Some input
    → Contains (One ∷ Two ∷ []) input
by_either true changed elapsed last input e = one_of_two_is changed last input e
by_either false changed elapsed last input e = one_of_two_is elapsed last input e

by_boot : (b : Bool) (input : Input) → (if b then Some Boot else None) ≡ Some input → Contains (Boot ∷ []) input
by_boot true input e = (let f : Boot ≡ input = cc in subst (λ (i : Input). Contains (Boot ∷ []) i) f boot_is)
by_boot false input e = cc

chosen_of : (p : Protocol) (bytes : Input → List ℕ) (past : List PollerCall) (input : Input) → chosen p bytes past ≡ Some input → Contains (reports_of p) input
chosen_of protocol.Boot bytes past input e = by_boot (is_changed bytes past Boot || is_elapsed past Boot) input e
chosen_of protocol.Report bytes past input e =
    by_either (is_changed bytes past One || is_changed bytes past Two) (is_changed bytes past) (is_elapsed past) (sent_last past) input e

-- ---- the report that is due

either_map : (f : Due → List ℕ) (a b : Option Due) → option_or (option_map f a) (option_map f b) ≡ option_map f (option_or a b)
either_map f None b = refl
either_map f (Some x) b = refl

first_of : (P : Due → Type 0) (xs : List Due) (report : Due) → All P xs → slice_get xs 0 ≡ Some report → P report
first_of P [] report h e = cc
first_of P (x ∷ xs) report h e = (let f : x ≡ report = cc in subst P f (h 0 x (omega arith)))

ruled_of : (start : List ℕ) (past : List Call) (o : Option Input) (report : Due) → ((input : Input) → o ≡ Some input → Contains (reports_of (protocol_after past)) input)
    → option_map (λ input. record { moment = past; input = input }) o ≡ Some report → Contains (reports_of (protocol_after past)) report.input
ruled_of start past None report h e = cc
ruled_of start past (Some input) report h e =
    let f : record { moment = past; input = input } ≡ report = cc in
    subst (λ (r : Due). Contains (reports_of (protocol_after past)) r.input) f (h input refl)

either_of : (P : Due → Type 0) (a b : Option Due) (report : Due) → (a ≡ Some report → P report) → (b ≡ Some report → P report) → option_or a b ≡ Some report → P report
either_of P (Some x) b report f g e = f e
either_of P None b report f g e = g e

module _ (defaults : DefaultCodes) where
  due_map : (start : List ℕ) (past : List Call) (o : Option Input) → option_map (wanted_after (key_calls defaults start past)) o ≡ option_map (due_bytes defaults start) (option_map (λ input. record { moment = past; input = input }) o)
  due_map start past None = refl
  due_map start past (Some input) = refl

  by_rule : (start : List ℕ) (past : List Call) → rule_answer (protocol_after past) (wanted_after (key_calls defaults start past)) (poller_calls (key_calls defaults start past)) ≡ option_map (due_bytes defaults start) (ruled defaults start past)
  unfolding rule_answer ruled
  by_rule start past = due_map start past (chosen (protocol_after past) (wanted_after (key_calls defaults start past)) (poller_calls (key_calls defaults start past)))

  -- a poll is answered the bytes of the report that is due
  pub answer_is_due : (start : List ℕ) (past : List Call) → answer_after (protocol_after past) (key_calls defaults start past) ≡ option_map (due_bytes defaults start) (due defaults start past)
  unfolding answer_after poll_answer due
  answer_is_due start past =
      ap (λ (o : Option (List ℕ)). option_or o (rule_answer (protocol_after past) (wanted_after (key_calls defaults start past)) (poller_calls (key_calls defaults start past)))) (first_waiting defaults start past)
      ∙ ap (λ (o : Option (List ℕ)). option_or (option_map (due_bytes defaults start) (slice_get (waits defaults start past) 0)) o) (by_rule start past)
      ∙ either_map (due_bytes defaults start) (slice_get (waits defaults start past) 0) (ruled defaults start past)

  -- ---- it is one of the protocol in force

  due_of : (start : List ℕ) (past : List Call) (report : Due) → due defaults start past ≡ Some report → Contains (reports_of (protocol_after past)) report.input
  unfolding due ruled
  due_of start past report e =
      either_of (λ r. Contains (reports_of (protocol_after past)) r.input) (slice_get (waits defaults start past) 0) (ruled defaults start past) report
      (λ f. first_of (λ r. Contains (reports_of (protocol_after past)) r.input) (waits defaults start past) report (waits_of defaults start past) f)
      (λ f. ruled_of start past (chosen (protocol_after past) (wanted_after (key_calls defaults start past)) (poller_calls (key_calls defaults start past))) report
      (λ input c. chosen_of (protocol_after past) (wanted_after (key_calls defaults start past)) (poller_calls (key_calls defaults start past)) input c) f)
      e

  wanted_at : (start : List ℕ) (past : List Call) (bytes : List ℕ) (o : Option Due) → due defaults start past ≡ o → Some bytes ≡ option_map (due_bytes defaults start) o → IsWantedAt defaults start past bytes
  wanted_at start past bytes None d e = cc
  wanted_at start past bytes (Some report) d e = record {
    moment = report.moment;
    input = report.input;
    is_due = d;
    of_protocol = due_of start past report d;
    bytes_are = cc;
  }

  pub sent_is_wanted : (start : List ℕ) (past : List Call) (bytes : List ℕ) → Some bytes ≡ answer_after (protocol_after past) (key_calls defaults start past) → IsWantedAt defaults start past bytes
  sent_is_wanted start past bytes e = wanted_at start past bytes (due defaults start past) refl (e ∙ answer_is_due start past)
