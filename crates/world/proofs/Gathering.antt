-- What a host has gathered of the report descriptor, and the read of it that is under way.
use Rattle.std.specs.Option.{option_or}
use Rattle.std.proofs.Common.{◌≡◌, ◌⊎◌, ℕ, suc, ◌+◌, ◌==◌, ◌&&◌, not, Bool, true, false, if◌then◌else◌, List, [], ◌∷◌, ◌++◌, Option, Some, None, length, take, min, ◌*◌, ◌≤◌, refl, sym, ◌∙◌, ap, arith, inl}
use Rattle.std.specs.Prelude.{unwrap_or}
use Rattle.std.proofs.lemmas.Bool.{eqb-true}
use Rattle.std.proofs.Common.{inr}
use Rattle.std.proofs.lemmas.Bool.{cases_lt}
use Rattle.std.proofs.lemmas.List.{length-take, take_all, take_min, take-take}
use Rattle.control_ep.proofs.Joined.{joined-is}
use Rattle.control_ep.specs.declared.why.Why.{Why}
use Rattle.control_ep.specs.declared.answer.EpAnswer.{EpAnswer}
use Rattle.control_ep.specs.declared.answer.EpAnswer.TheVariants.{Packet, Stall}
use Rattle.control_ep.specs.declared.answer.Effect.{Effect}
use Rattle.control_ep.specs.declared.answer.OutStep.{OutStep}
use Rattle.control_ep.specs.declared.answer.OutStep.TheVariants.{Answered, Leds, Offer}
use Rattle.control_ep.specs.Transfers.{Reads}
use Rattle.control_ep.specs.Calls.{EpCall, In as EpIn, Settle, Fail}
use Rattle.control_ep.specs.Packets.{packet_at, joined_packets}
use Rattle.control_ep.specs.Stage.{Begins, calls_since, last_setup, first_stall, reason_in, count_in}
use Rattle.host.specs.Faultless.{is_faultless}
use Rattle.host.specs.Kept.{Fetch, with_packet, is_end, goes_on, is_kept, kept_with}
use Rattle.layers.specs.Codes.{DefaultCodes}
use Rattle.keyboard.specs.Endpoint.{with_out}
use Rattle.world.proofs.Giving.{all_came}

-- a host gathers what a read sends that is under way: the first bytes of the text; unless a packet was stalled, those that
-- came so far
pub record Gathers (text : List ℕ) (past : List EpCall) (fetch : Fetch) : Type 0 where
  pub begins : last_setup past ≡ Begins (Reads text) fetch.wanted
  pub bytes_are : first_stall (calls_since past) ≡ None → fetch.bytes ≡ joined_packets text fetch.wanted (count_in (calls_since past))
  pub so_far : fetch.bytes ≡ take (length fetch.bytes) text

abbrev pub IfGathers : List ℕ → List EpCall → Option Fetch → Type 0
IfGathers text past None = Unit {0}
IfGathers text past (Some fetch) = Gathers text past fetch

-- ---- calls that give no packet

pub record SameRead (old new : List EpCall) : Type 0 where
  pub setup : last_setup new ≡ last_setup old
  pub stalled : first_stall (calls_since new) ≡ None → first_stall (calls_since old) ≡ None
  pub count : count_in (calls_since new) ≡ count_in (calls_since old)

pub same_read : (text : List ℕ) (old new : List EpCall) (o : Option Fetch) → SameRead old new → IfGathers text old o → IfGathers text new o
same_read text old new None s h = tt
same_read text old new (Some fetch) s h = record {
  begins = s.setup ∙ h.begins;
  bytes_are = λ e. h.bytes_are (s.stalled e) ∙ ap (λ (n : ℕ). joined_packets text fetch.wanted n) (sym s.count);
  so_far = h.so_far;
}

pub none_before : (a b : Option Why) → option_or a b ≡ None → a ≡ None
none_before None b e = refl
none_before (Some why) b e = cc

pub same_settle : (calls : List EpCall) → SameRead calls (Settle ∷ calls)
same_settle calls = record { setup = refl; stalled = none_before (first_stall (calls_since calls)) None; count = refl }

pub same_fail : (calls : List EpCall) → SameRead calls (Fail ∷ calls)
same_fail calls = record { setup = refl; stalled = none_before (first_stall (calls_since calls)) None; count = refl }

-- ---- a STALL, and a packet

pub stalled_read : (text : List ℕ) (calls : List EpCall) (why : Why) (effect : Effect) (o : Option Fetch) → IfGathers text calls o → IfGathers text (EpIn (Stall why) effect ∷ calls) o
stalled_read text calls why effect None h = tt
stalled_read text calls why effect (Some fetch) h = record {
  begins = h.begins;
  bytes_are = λ e. absurd (now_stalled (first_stall (calls_since calls)) e);
  so_far = h.so_far;
}
  where
    now_stalled : (before : Option Why) → option_or before (Some why) ≡ None → ⊥
    now_stalled None e = cc
    now_stalled (Some w) e = cc

-- a packet that is added to what was gathered is the next of those that came
pub joined_more : (text : List ℕ) (calls : List EpCall) (fetch : Fetch) (bytes : List ℕ) → Gathers text calls fetch → first_stall (calls_since calls) ≡ None
    → unwrap_or (packet_at text fetch.wanted (count_in (calls_since calls))) [] ≡ bytes
    → fetch.bytes ++ bytes ≡ joined_packets text fetch.wanted (suc (count_in (calls_since calls)))
joined_more text calls fetch bytes h none p = rw (h.bytes_are none, ← p) refl

first_of : (m : ℕ) (xs text : List ℕ) → xs ≡ take m text → xs ≡ take (length xs) text
first_of m xs text e =
    let size : length xs ≡ min m (length text) = ap length e ∙ length-take m text in
    e ∙ sym (take_min m text) ∙ ap (λ (n : ℕ). take n text) (sym size)

-- the first bytes of the first bytes
first_of_first : (m n : ℕ) (text : List ℕ) → take m (take n text) ≡ take (min m n) text
first_of_first m n text = elim (cases_lt m n) [
  | inl l ↦ take-take m n text (omega (arith, l)) ∙ ap (λ (k : ℕ). take k text) (omega (arith, l))
  | inr l ↦ (let all : length (take n text) ≤ m = omega (arith, l, length-take n text) in take_all m (take n text) all ∙ ap (λ (k : ℕ). take k text) (omega (arith, l)))
]

joined_first : (text : List ℕ) (wanted n : ℕ) (bytes : List ℕ) → bytes ≡ joined_packets text wanted n → bytes ≡ take (length bytes) text
joined_first text wanted n bytes e = first_of (min (8 * n) wanted) bytes text (e ∙ joined-is text wanted n ∙ first_of_first (8 * n) wanted text)

pub goes_on_read : (text : List ℕ) (calls : List EpCall) (fetch : Fetch) (bytes : List ℕ) (effect : Effect) (memory : Bool) → Gathers text calls fetch → first_stall (calls_since calls) ≡ None
    → unwrap_or (packet_at text fetch.wanted (count_in (calls_since calls))) [] ≡ bytes
    → IfGathers text (EpIn (Packet (record { items = bytes })) effect ∷ calls) (goes_on (Some fetch) bytes memory)
goes_on_read text calls fetch bytes effect memory h none p = by_test (memory && not (is_end fetch bytes))
  where
    by_test : (b : Bool) → IfGathers text (EpIn (Packet (record { items = bytes })) effect ∷ calls) (if b then Some (with_packet fetch bytes) else None)
    by_test false = tt
    by_test true = record {
      begins = h.begins;
      bytes_are = λ e. (let more : count_in (calls_since calls) + 1 ≡ suc (count_in (calls_since calls)) = omega arith in
          joined_more text calls fetch bytes h none p ∙ ap (λ (n : ℕ). joined_packets text fetch.wanted n) (sym more));
      so_far = joined_first text fetch.wanted (suc (count_in (calls_since calls))) (fetch.bytes ++ bytes) (joined_more text calls fetch bytes h none p);
    }

-- ---- what is kept

kept_length : (a b : Bool) (text : List ℕ) (n : ℕ) → (length text == n) ≡ a → (a && b) ≡ true → length text ≡ n
kept_length true b text n e f = eqb-true (length text) n e
kept_length false b text n e f = cc

pub kept_size : (text : List ℕ) → is_kept text ≡ true → length text ≡ 99
kept_size text e = kept_length (length text == 99) (is_faultless text) text 99 refl e

all_three : (a b c : Bool) → (a && (b && c)) ≡ true → c ≡ true
all_three true true c e = e
all_three true false c e = cc
all_three false b c e = cc

abbrev pub NoneOr : List ℕ → Option (List ℕ) → Type 0
NoneOr text o = (o ≡ None) ⊎ (o ≡ Some text)

is_text : (text : List ℕ) (calls : List EpCall) (fetch : Fetch) (bytes : List ℕ) → length text ≡ 99 → Gathers text calls fetch → first_stall (calls_since calls) ≡ None
    → unwrap_or (packet_at text fetch.wanted (count_in (calls_since calls))) [] ≡ bytes → is_kept (fetch.bytes ++ bytes) ≡ true → fetch.bytes ++ bytes ≡ text
is_text text calls fetch bytes size h none p e =
    let next = suc (count_in (calls_since calls)) in
    let are : fetch.bytes ++ bytes ≡ joined_packets text fetch.wanted next = joined_more text calls fetch bytes h none p in
    let long : length (fetch.bytes ++ bytes) ≡ 99 = kept_size (fetch.bytes ++ bytes) e in
    let joined_long : length (joined_packets text fetch.wanted next) ≡ length text = ap length (sym are) ∙ long ∙ sym size in
    are ∙ all_came text fetch.wanted next joined_long

pub kept_read : (text : List ℕ) (calls : List EpCall) (fetch : Fetch) (bytes : List ℕ) (memory : Bool) (before : Option (List ℕ)) → length text ≡ 99 → Gathers text calls fetch
    → first_stall (calls_since calls) ≡ None → unwrap_or (packet_at text fetch.wanted (count_in (calls_since calls))) [] ≡ bytes
    → NoneOr text before → NoneOr text (kept_with (Some fetch) bytes memory before)
kept_read text calls fetch bytes memory before size h none p k = by_test (memory && (is_end fetch bytes && is_kept (fetch.bytes ++ bytes))) refl
  where
    by_test : (b : Bool) → (memory && (is_end fetch bytes && is_kept (fetch.bytes ++ bytes))) ≡ b → NoneOr text (if b then Some (fetch.bytes ++ bytes) else before)
    by_test false e = k
    by_test true e = inr (ap Some (is_text text calls fetch bytes size h none p (all_three memory (is_end fetch bytes) (is_kept (fetch.bytes ++ bytes)) e)))

module _ (defaults : DefaultCodes) where
  pub same_out : (step : OutStep) (packet : List ℕ) (entries : ℕ → ℕ → ℕ) (answer : EpAnswer) (calls : List EpCall) → SameRead calls (with_out defaults step packet entries answer calls)
  same_out (Answered a) packet entries answer calls = record { setup = refl; stalled = none_before (first_stall (calls_since calls)) (reason_in a); count = refl }
  same_out (Leds leds) packet entries answer calls = record { setup = refl; stalled = none_before (first_stall (calls_since calls)) None; count = refl }
  same_out (Offer bytes) packet entries answer calls = record {
    setup = refl;
    stalled = λ e. none_before (first_stall (calls_since calls)) None (none_before (option_or (first_stall (calls_since calls)) None) (reason_in answer) e);
    count = refl;
  }
