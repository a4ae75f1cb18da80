use Rattle.std.proofs.Common.{◌≡◌, ◌≢◌, ℕ, ◌<◌, ◌≤◌, Bool, true, false, List, ◌∷◌, ◌++◌, length, Option, Some, None, refl, sym, ◌∙◌, ap, inl, inr}
use Rattle.std.specs.Prelude.{◌&&◌, ◌||◌, ◌==◌, nat_lt}
use Rattle.std.proofs.lemmas.Bool.{cases_Bool, lt-ltb, le-ltb, lt-leb, le-leb}
use Rattle.descriptor_parse.specs.Descriptor.{DescriptorValue, Describes}
use Rattle.descriptor_parse.specs.Faults.{IsFaultless, all_items}
use Rattle.descriptor_parse.specs.Parse.{Refuses}
use Rattle.descriptor_parse.specs.declared.fault.ParseError.{ParseError}
use Rattle.descriptor_parse.specs.declared.fault.ParseFault.{ParseFault}
use Rattle.descriptor_parse.specs.declared.fault.ParseFault.TheVariants.{Memory}
use Rattle.host.specs.declared.gathering.Gathering.{Gathering}
use Rattle.host.specs.declared.gathering.Gathered.{Gathered}
use Rattle.host.specs.declared.gathering.Gathered.TheVariants.{Part, Text, Nothing}
use Rattle.host.specs.Calls.{HostCall, got_packet}
use Rattle.host.specs.Faultless.{is_faultless}
use Rattle.host.specs.Kept.{Fetch, gathering, kept, goes_on, kept_with, is_end, is_kept, text_length}
use Rattle.host.specs.representation.Relation.{Gathers, GathersSome, Becomes, Keeps}
use Rattle.host.proofs.Clean.{decided}

-- what a host gathers and what it keeps, after a packet
abbrev pub After : List HostCall → List ℕ → Bool → Option Gathering → Option DescriptorValue → Type 0
After past packet taken now d = GathersSome (gathering (got_packet packet taken ∷ past)) now × Keeps (kept (got_packet packet taken ∷ past)) d

step-none : (f : Option Fetch) (packet : List ℕ) (taken : Bool) (before : Option (List ℕ)) (d : Option DescriptorValue) → GathersSome f None → Keeps before d
    → GathersSome (goes_on f packet taken) None × Keeps (kept_with f packet taken before) d
step-none None packet taken before d g k = (tt, k)
step-none (Some f) packet taken before d g k = absurd g

step-refused : (f : Option Fetch) (packet : List ℕ) (now : Gathering) (before : Option (List ℕ)) (d : Option DescriptorValue) → GathersSome f (Some now) → Keeps before d
    → GathersSome (goes_on f packet false) None × Keeps (kept_with f packet false before) d
step-refused None packet now before d g k = absurd g
step-refused (Some f) packet now before d g k = (tt, k)

step-part : (f : Option Fetch) (packet : List ℕ) (old now : Gathering) (before : Option (List ℕ)) (d : Option DescriptorValue)
    → ((fetch : Fetch) → Gathers fetch old → Becomes fetch packet (Part now)) → GathersSome f (Some old) → Keeps before d
    → GathersSome (goes_on f packet true) (Some now) × Keeps (kept_with f packet true before) d
step-part None packet old now before d h g k = absurd g
step-part (Some f) packet old now before d h g k = let (e, n) = h f g in rw e (n, k)

step-text : (f : Option Fetch) (packet : List ℕ) (old : Gathering) (text : DescriptorValue) (before : Option (List ℕ))
    → ((fetch : Fetch) → Gathers fetch old → Becomes fetch packet (Text text)) → GathersSome f (Some old)
    → GathersSome (goes_on f packet true) None × Keeps (kept_with f packet true before) (Some text)
step-text None packet old text before h g = absurd g
step-text (Some f) packet old text before h g = let (e, k, t) = h f g in rw (e, k) (tt, t)

step-nothing : (f : Option Fetch) (packet : List ℕ) (old : Gathering) (before : Option (List ℕ)) (d : Option DescriptorValue)
    → ((fetch : Fetch) → Gathers fetch old → Becomes fetch packet Nothing) → GathersSome f (Some old) → Keeps before d
    → GathersSome (goes_on f packet true) None × Keeps (kept_with f packet true before) d
step-nothing None packet old before d h g k = absurd g
step-nothing (Some f) packet old before d h g k = let (e, n) = h f g in rw (e, n) (tt, k)

pub after-none : (past : List HostCall) (packet : List ℕ) (taken : Bool) (d : Option DescriptorValue) → GathersSome (gathering past) None → Keeps (kept past) d → After past packet taken None d
unfolding gathering kept
after-none past packet taken d g k = step-none (gathering past) packet taken (kept past) d g k

pub after-refused : (past : List HostCall) (packet : List ℕ) (now : Gathering) (d : Option DescriptorValue) → GathersSome (gathering past) (Some now) → Keeps (kept past) d
    → After past packet false None d
unfolding gathering kept
after-refused past packet now d g k = step-refused (gathering past) packet now (kept past) d g k

pub after-part : (past : List HostCall) (packet : List ℕ) (old now : Gathering) (d : Option DescriptorValue) → ((fetch : Fetch) → Gathers fetch old → Becomes fetch packet (Part now))
    → GathersSome (gathering past) (Some old) → Keeps (kept past) d → After past packet true (Some now) d
unfolding gathering kept
after-part past packet old now d h g k = step-part (gathering past) packet old now (kept past) d h g k

pub after-text : (past : List HostCall) (packet : List ℕ) (old : Gathering) (text : DescriptorValue) → ((fetch : Fetch) → Gathers fetch old → Becomes fetch packet (Text text))
    → GathersSome (gathering past) (Some old) → After past packet true None (Some text)
unfolding gathering kept
after-text past packet old text h g = step-text (gathering past) packet old text (kept past) h g

pub after-nothing : (past : List HostCall) (packet : List ℕ) (old : Gathering) (d : Option DescriptorValue) → ((fetch : Fetch) → Gathers fetch old → Becomes fetch packet Nothing)
    → GathersSome (gathering past) (Some old) → Keeps (kept past) d → After past packet true None d
unfolding gathering kept
after-nothing past packet old d h g k = step-nothing (gathering past) packet old (kept past) d h g k

or-true : (b : Bool) → (b || true) ≡ true
or-true true = refl
or-true false = refl

and-false : (b : Bool) → (b && false) ≡ false
and-false true = refl
and-false false = refl

-- a text with a fault is not kept
pub fault-not-kept : (text : List ℕ) (e : ParseError) → Refuses text e → e.fault ≢ Memory → is_kept text ≡ false
fault-not-kept text e r n = elim (cases_Bool (is_faultless text)) [
  | inl clean-all ↦ absurd ((decided text).0 clean-all e.fault e.offset (r.first n).0)
  | inr unclean ↦ rw unclean (and-false (length text == text_length))
]

-- ---- where a text ends

pub ends-short : (fetch : Fetch) (packet : List ℕ) → length packet < 8 → is_end fetch packet ≡ true
ends-short fetch packet l = rw (lt-ltb (length packet) 8 l) refl

pub ends-full : (fetch : Fetch) (packet : List ℕ) → fetch.wanted ≤ length (fetch.bytes ++ packet) → is_end fetch packet ≡ true
ends-full fetch packet l = rw (le-leb fetch.wanted (length (fetch.bytes ++ packet)) l) (or-true (nat_lt (length packet) 8))

pub goes-further : (fetch : Fetch) (packet : List ℕ) → 8 ≤ length packet → length (fetch.bytes ++ packet) < fetch.wanted → is_end fetch packet ≡ false
goes-further fetch packet l m = rw (le-ltb (length packet) 8 l, lt-leb fetch.wanted (length (fetch.bytes ++ packet)) m) refl

-- a text of the right length without a fault is kept
pub kept-text : (text : List ℕ) → length text ≡ 99 → IsFaultless text → is_kept text ≡ true
kept-text text l f = rw (l, (decided text).1 f) refl
