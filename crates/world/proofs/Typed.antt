-- A host reads the code that the maker chose, and of a standard keyboard it reads another.
use Rattle.std.proofs.Common.{◌≡◌, ℕ, ◌*◌, Bool, false, List, [], ◌∷◌, ◌++◌, Option, None, Some, refl, sym, ◌∙◌, ap, subst, arith}
use Rattle.std.specs.Prelude.{replicate, slice_index}
use Rattle.shapes.specs.Shapes.{Bytes, KeyCodes}
use Rattle.debounce.specs.Samples.{down, debounced}
use Rattle.debounce.specs.Scans.{has}
use Rattle.reports.specs.declared.Protocol.{Protocol}
use Rattle.reports.specs.declared.Protocol.TheVariants.{Boot}
use Rattle.reports.specs.Calls.{forgot}
use Rattle.reports.specs.Poll.{poll_answer}
use Rattle.reports.specs.Queue.{pushed_by, pushed, waiting, queue}
use Rattle.reports.specs.Wanted.{members, number_of, byte_of, boot_bytes}
use Rattle.layers.specs.Codes.{DefaultCodes}
use Rattle.layers.specs.Held.{any_below, code, resolved}
use Rattle.layers.specs.Standard.{standard}
use Rattle.key_reports.proofs.Tabled.{table-has, table-alone}
use Rattle.key_reports.specs.Calls.{KeyCall, Scanned, Asked}
use Rattle.key_reports.specs.Past.{scans_of, held_calls, those_below, keys_after, poller_calls, answer_after}
use Rattle.key_reports.specs.Tables.{table}
use Rattle.control_ep.specs.declared.answer.EpAnswer.TheVariants.{Packet as EpPacket}
use Rattle.control_ep.specs.Answers.{in_answer}
use Rattle.control_ep.specs.Requests.{transfer_of}
use Rattle.control_ep.specs.Stage.{stage}
use Rattle.keyboard.specs.Calls.{Call, Scanned as KeyboardScanned, SetUp, In, keymap}
use Rattle.keyboard.specs.Effects.{effect_asked, protocol_after}
use Rattle.keyboard.specs.Endpoint.{ep_calls, stage_after}
use Rattle.keyboard.specs.Keys.{key_calls}
use Rattle.host.proofs.BootLemmas.{boot_value, boot-describes}
use Rattle.host.specs.Calls.{HostCall}
use Rattle.host.specs.Reads.{ReadsWith}
use Rattle.host.specs.declared.reading.Reading.TheVariants.{Usages}
use Rattle.world.proofs.BootRead.{boot-read}
use Rattle.world.proofs.Taken.{boot-taken}
use Rattle.world.specs.Usages.{boot_key_usages, modifier_usages}
use Rattle.world.proofs.Promising.{promise}
use Rattle.world.specs.declared.event.Answer.{Answer}
use Rattle.world.specs.declared.event.Answer.TheVariants.{Sent}
use Rattle.world.specs.History.{host_calls}
use Rattle.world.specs.Conforming.{IsSent}
use Rattle.world.specs.Promise.{Promise}
use Rattle.world.proofs.Shown.{at_default}
use Rattle.world.specs.Pad.{pad, blank_pages, set_boot, first_down, five_scans, report_of_b, read_at_first}

-- ---- the calls of the keys

abbrev scanned : KeyCodes → KeyCall
scanned codes = Scanned first_down codes Boot

abbrev calls : KeyCodes → List KeyCall
calls codes = scanned codes ∷ scanned codes ∷ scanned codes ∷ scanned codes ∷ scanned codes ∷ Asked forgot ∷ []

abbrev held : List Call
held =
    KeyboardScanned first_down ∷ KeyboardScanned first_down ∷ KeyboardScanned first_down ∷ KeyboardScanned first_down
    ∷ KeyboardScanned first_down ∷ In (EpPacket (record { items = [] })) ∷ SetUp set_boot ∷ []

as_calls : (defaults : DefaultCodes) (image : List ℕ) → answer_after (protocol_after held) (key_calls defaults image held) ≡ answer_after Boot (calls (table (keymap defaults image)))
unfolding key_calls protocol_after effect_asked
as_calls defaults image = refl

same_table : (defaults : DefaultCodes) (pages : ℕ) → table (keymap defaults (replicate (4096 * pages) 255)) ≡ table defaults.at_first
same_table defaults pages =
    let h = table-has (keymap defaults (replicate (4096 * pages) 255)) in
    table-alone defaults.at_first (table (keymap defaults (replicate (4096 * pages) 255)))
    (record { whole = h.whole; each = λ layer key l k. h.each layer key l k ∙ at_default defaults pages layer key })

-- ---- the bytes of the poll

abbrev answered : DefaultCodes → Option Bytes
answered defaults = answer_after Boot (calls (table defaults.at_first))

abbrev report_of_a : Bytes
report_of_a = 0 ∷ 0 ∷ 0x04 ∷ 0 ∷ 0 ∷ 0 ∷ 0 ∷ 0 ∷ []

sends_b : answered pad ≡ Some report_of_b
unfolding answer_after poll_answer queue pushed pushed_by waiting poller_calls boot_bytes members number_of byte_of keys_after held_calls scans_of those_below down debounced has any_below code resolved table
sends_b = refl

sends_a : answered standard ≡ Some report_of_a
unfolding answer_after poll_answer queue pushed pushed_by waiting poller_calls boot_bytes members number_of byte_of keys_after held_calls scans_of those_below down debounced has any_below code resolved table
sends_a = refl

polled : (defaults : DefaultCodes) (pages : ℕ) → answer_after (protocol_after held) (key_calls defaults (replicate (4096 * pages) 255) held) ≡ answered defaults
polled defaults pages =
    as_calls defaults (replicate (4096 * pages) 255) ∙ ap (λ codes. answer_after Boot (calls codes)) (same_table defaults pages)

-- ---- what the host reads in them

abbrev usages : ℕ → Bool
usages = keys_after (calls (table pad.at_first))

bytes_are : boot_bytes usages ≡ report_of_b
unfolding boot_bytes members number_of byte_of keys_after held_calls scans_of those_below down debounced has any_below code resolved table
bytes_are = refl

usages_are : boot_key_usages usages ++ modifier_usages usages ≡ 0x70005 ∷ []
unfolding members keys_after held_calls scans_of those_below down debounced has any_below code resolved table
usages_are = refl

reads : ReadsWith boot_value report_of_b (Usages (0x70005 ∷ []))
reads =
    let by_bytes : ReadsWith boot_value (boot_bytes usages) (Usages (boot_key_usages usages ++ modifier_usages usages)) =
    (boot-taken usages boot_value boot-describes, boot-read usages boot_value boot-describes) in
    subst (λ (bytes : List ℕ). ReadsWith boot_value bytes (Usages (0x70005 ∷ []))) bytes_are
    (subst (λ (us : List ℕ). ReadsWith boot_value (boot_bytes usages) (Usages us)) usages_are by_bytes)

sent : (heard : List HostCall) → IsSent Boot heard (Some report_of_b) (Sent (record { items = report_of_b }) (Usages (0x70005 ∷ []))) false
sent heard = (Usages (0x70005 ∷ []), refl, (boot_value, boot-describes, reads), refl)

-- ---- each step is answered so

status : (image : List ℕ) → EpPacket (record { items = [] }) ≡ in_answer (stage_after pad image (SetUp set_boot ∷ []))
unfolding stage ep_calls transfer_of
status image = refl

pub holds : (pages : ℕ) → Promise pad (blank_pages pages) (read_at_first pages)
unfolding protocol_after effect_asked
holds pages = promise pad (blank_pages pages) (read_at_first pages) (
  (Some report_of_b, sym (polled pad pages ∙ sends_b), refl, sent (host_calls (five_scans pages))),
  (
    (refl, (refl, refl)),
    (
      (refl, (refl, refl)),
      (
        (refl, (refl, refl)),
        (
          (refl, (refl, refl)),
          (
            (refl, (refl, refl)),
            (
              (EpPacket (record { items = [] }), refl, status (replicate (4096 * pages) 255), refl, λ e. cc),
              ((refl, (refl, refl)), tt),
            ),
          ),
        ),
      ),
    ),
  ),
)

-- ---- a standard keyboard sends another letter

abbrev third_reported : Answer → ℕ
third_reported (Sent bytes reading) = slice_index bytes.items 2
third_reported _ = 0

abbrev third_of : Option Bytes → ℕ
third_of (Some bytes) = slice_index bytes 2
third_of None = 0

not_both : (n : ℕ) → n ≡ 4 → 5 ≡ n → ⊥
not_both n e f = omega (arith, e, f)

not_sent : (protocol : Protocol) (heard : List HostCall) (report : Option Bytes) → report ≡ Some report_of_a
    → IsSent protocol heard report (Sent (record { items = report_of_b }) (Usages (0x70005 ∷ []))) false → ⊥
not_sent protocol heard None e h = cc
not_sent protocol heard (Some bytes) e h = not_both (slice_index bytes 2) (ap third_of e) (ap third_reported h.1)

pub broken : (pages : ℕ) → Promise standard (blank_pages pages) (read_at_first pages) → ⊥
broken pages h =
    let poll = h.answered.0 in
    not_sent (protocol_after held) (host_calls (five_scans pages)) poll.0 (poll.1 ∙ polled standard pages ∙ sends_a) poll.3
