-- What is read in a report that was wanted at a moment of the session.
use Rattle.std.proofs.Common.{◌≡◌, ℕ, List, [], ◌∷◌, Option, Some, None, is_some, true, false, refl, sym, ◌∙◌, ap, subst}
use Rattle.std.specs.Prelude.{Contains, IsSome}
use Rattle.std.specs.List.{All}
use Rattle.std.proofs.lemmas.List.Elements.{All-cons, All-nil, All-contains}
use Rattle.descriptor_build.specs.Served.{report_bytes}
use Rattle.descriptor_parse.specs.Descriptor.{DescriptorValue, Describes}
use Rattle.descriptor_parse.specs.Faults.{all_items}
use Rattle.host_extract.specs.Boot.{boot_descriptor_bytes}
use Rattle.host_extract.specs.Found.{found}
use Rattle.host_extract.specs.Pressed.{ArePressed}
use Rattle.host_extract.specs.Refusals.{refusal}
use Rattle.host_extract.proofs.OneList.{one-list}
use Rattle.host.specs.Calls.{HostCall}
use Rattle.host.specs.Kept.{kept}
use Rattle.host.specs.Reads.{text_by, ReadsWith, Reads}
use Rattle.host.specs.declared.reading.Reading.{Reading}
use Rattle.host.specs.declared.reading.Reading.TheVariants.{Unread, NoMemory, Usages}
use Rattle.reports.specs.declared.Input.{Input}
use Rattle.reports.specs.declared.Input.TheVariants.{Boot, One, Two}
use Rattle.reports.specs.declared.Protocol.{Protocol}
use Rattle.reports.specs.declared.Protocol.TheVariants as protocol
use Rattle.reports.specs.Queue.{reports_of}
use Rattle.layers.specs.Codes.{DefaultCodes}
use Rattle.key_reports.specs.Past.{keys_after, consumer_after}
use Rattle.keyboard.specs.Calls.{Call}
use Rattle.keyboard.specs.Effects.{protocol_after}
use Rattle.keyboard.specs.Keys.{key_calls}
use Rattle.world.specs.Texts.{text_of}
use Rattle.world.specs.Usages.{wanted_usages}
use Rattle.world.proofs.All.{all-read, all-taken}
use Rattle.world.specs.Sent.{IsWantedAt}
use Rattle.world.specs.Heard.{NoneOrServed, none_kept, served_kept}
use Rattle.world.specs.Read.{NamesWanted, IsReadAs}

-- the text by which the reports of a protocol are read
abbrev text_for : Protocol → List ℕ
text_for protocol.Boot = boot_descriptor_bytes
text_for protocol.Report = report_bytes

all_of : (p : Protocol) → All (λ input. text_of input ≡ text_for p) (reports_of p)
all_of protocol.Boot = All-cons (λ input. text_of input ≡ boot_descriptor_bytes) Boot [] refl (All-nil (λ input. text_of input ≡ boot_descriptor_bytes))
all_of protocol.Report =
    All-cons (λ input. text_of input ≡ report_bytes) One (Two ∷ []) refl
    (All-cons (λ input. text_of input ≡ report_bytes) Two [] refl (All-nil (λ input. text_of input ≡ report_bytes)))

text_is : (p : Protocol) (input : Input) → Contains (reports_of p) input → text_of input ≡ text_for p
text_is p input c = All-contains (λ i. text_of i ≡ text_for p) (reports_of p) input (all_of p) c

some_is : (o : Option (List ℕ)) (text : List ℕ) → o ≡ Some text → IsSome o
some_is o text e = rw e refl

module _ (defaults : DefaultCodes) where
  -- what is read of wanted bytes by a descriptor of their text
  abbrev ReadWith : List ℕ → List Call → List ℕ → Reading → Type 0
  ReadWith start past bytes Unread = ⊥
  ReadWith start past bytes NoMemory = Unit {0}
  ReadWith start past bytes (Usages usages) = NamesWanted defaults start past bytes usages

  read_with : (start : List ℕ) (past : List Call) (bytes : List ℕ) (d : DescriptorValue) (reading : Reading) (sent : IsWantedAt defaults start past bytes) → Describes (all_items (text_of sent.input)) d
      → ReadsWith d bytes reading → ReadWith start past bytes reading
  read_with start past bytes d Unread sent h r =
      let keys = keys_after (key_calls defaults start sent.moment) in
      let consumer = consumer_after (key_calls defaults start sent.moment) in
      let taken : refusal d bytes ≡ None = ap (λ (b : List ℕ). refusal d b) sent.bytes_are ∙ all-taken keys consumer sent.input d h in
      let some : is_some (refusal d bytes) ≡ true = r in
      let none : is_some (refusal d bytes) ≡ false = ap is_some taken in
      cc
  read_with start past bytes d NoMemory sent h r = tt
  read_with start past bytes d (Usages usages) sent h r =
      let keys = keys_after (key_calls defaults start sent.moment) in
      let consumer = consumer_after (key_calls defaults start sent.moment) in
      let all : ArePressed (found d bytes) (wanted_usages keys consumer sent.input) =
      subst (λ (b : List ℕ). ArePressed (found d b) (wanted_usages keys consumer sent.input)) (sym sent.bytes_are) (all-read keys consumer sent.input d h) in
      record { sent = sent; usages_are = one-list (found d bytes) usages (wanted_usages keys consumer sent.input) r.1 all }

  by_text : (start : List ℕ) (past : List Call) (bytes text : List ℕ) (reading : Reading) (sent : IsWantedAt defaults start past bytes) → text_of sent.input ≡ text
      → Reads (Some text) bytes reading → ReadWith start past bytes reading
  by_text start past bytes text reading sent e (d, h, r) =
      read_with start past bytes d reading sent (subst (λ (t : List ℕ). Describes (all_items t) d) (sym e) h) r

  with_text : (start : List ℕ) (past : List Call) (host : List HostCall) (bytes : List ℕ) (reading : Reading) → IsSome (text_by (protocol_after past) host) → ReadWith start past bytes reading
      → IsReadAs defaults start past host bytes reading
  with_text start past host bytes Unread s r = absurd r
  with_text start past host bytes NoMemory s r = s
  with_text start past host bytes (Usages usages) s r = (s, r)

  -- where there is a text for the protocol in force
  by_some : (start : List ℕ) (past : List Call) (host : List HostCall) (bytes : List ℕ) (reading : Reading) → IsWantedAt defaults start past bytes
      → text_by (protocol_after past) host ≡ Some (text_for (protocol_after past)) → Reads (text_by (protocol_after past) host) bytes reading → IsReadAs defaults start past host bytes reading
  by_some start past host bytes reading sent e r =
      with_text start past host bytes reading (some_is (text_by (protocol_after past) host) (text_for (protocol_after past)) e)
      (by_text start past bytes (text_for (protocol_after past)) reading sent (text_is (protocol_after past) sent.input sent.of_protocol)
      (subst (λ (o : Option (List ℕ)). Reads o bytes reading) e r))

  by_none : (start : List ℕ) (past : List Call) (host : List HostCall) (bytes : List ℕ) (reading : Reading) → protocol_after past ≡ protocol.Report → kept host ≡ None
      → Reads (text_by (protocol_after past) host) bytes reading → IsReadAs defaults start past host bytes reading
  by_none start past host bytes reading p k r =
      let text : text_by (protocol_after past) host ≡ None = rw p k in
      let unread : reading ≡ Unread = subst (λ (o : Option (List ℕ)). Reads o bytes reading) text r in
      subst (λ (x : Reading). IsReadAs defaults start past host bytes x) (sym unread) (p, k)

  by_protocol : (start : List ℕ) (past : List Call) (host : List HostCall) (bytes : List ℕ) (reading : Reading) (p : Protocol) → protocol_after past ≡ p → IsWantedAt defaults start past bytes
      → NoneOrServed (kept host) → Reads (text_by (protocol_after past) host) bytes reading → IsReadAs defaults start past host bytes reading
  by_protocol start past host bytes reading protocol.Boot e sent k r = by_some start past host bytes reading sent (rw e refl) r
  by_protocol start past host bytes reading protocol.Report e sent (none_kept n) r = by_none start past host bytes reading e n r
  by_protocol start past host bytes reading protocol.Report e sent (served_kept s) r = by_some start past host bytes reading sent (rw e s) r

  pub read_is_wanted : (start : List ℕ) (past : List Call) (host : List HostCall) (bytes : List ℕ) (reading : Reading) → IsWantedAt defaults start past bytes → NoneOrServed (kept host)
      → Reads (text_by (protocol_after past) host) bytes reading → IsReadAs defaults start past host bytes reading
  read_is_wanted start past host bytes reading sent k r = by_protocol start past host bytes reading (protocol_after past) refl sent k r
