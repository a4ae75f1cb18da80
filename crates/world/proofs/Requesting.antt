-- A SETUP packet with which a host begins to gather a report descriptor begins a read of the keyboard's.
use Rattle.std.proofs.Common.{◌≡◌, ℕ, ◌+◌, ◌*◌, ◌==◌, ◌&&◌, Bool, true, false, List, slice_index, Ok, refl, arith}
use Rattle.std.proofs.lemmas.Bool.{eqb-true}
use Rattle.descriptor_build.specs.Served.{report_bytes}
use Rattle.control_ep.specs.declared.answer.DeviceView.{DeviceView}
use Rattle.control_ep.specs.Transfers.{Reads}
use Rattle.control_ep.specs.Requests.{request_of, requests, asked_at, checked, transfer_of}
use Rattle.host.specs.Kept.{asks_for_report}

both : (a b : Bool) → (a && b) ≡ true → (a ≡ true) × (b ≡ true)
both true b e = (refl, e)
both false b e = cc

-- the fields of such a packet
record Asks (setup : List ℕ) : Type 0 where
  kind : slice_index setup 0 ≡ 0x81
  code : slice_index setup 1 ≡ 0x06
  value_low : slice_index setup 2 ≡ 0x00
  value_high : slice_index setup 3 ≡ 0x22
  index_low : slice_index setup 4 ≡ 0x00
  index_high : slice_index setup 5 ≡ 0x00

asks_by : (setup : List ℕ) → asks_for_report setup ≡ true → Asks setup
asks_by setup e =
    let a = both (slice_index setup 0 == 0x81) (slice_index setup 1 == 0x06 && (slice_index setup 2 == 0x00 && (slice_index setup 3 == 0x22 && (slice_index setup 4 == 0x00 && slice_index setup 5 == 0x00)))) e in
    let b = both (slice_index setup 1 == 0x06) (slice_index setup 2 == 0x00 && (slice_index setup 3 == 0x22 && (slice_index setup 4 == 0x00 && slice_index setup 5 == 0x00))) a.1 in
    let c = both (slice_index setup 2 == 0x00) (slice_index setup 3 == 0x22 && (slice_index setup 4 == 0x00 && slice_index setup 5 == 0x00)) b.1 in
    let d = both (slice_index setup 3 == 0x22) (slice_index setup 4 == 0x00 && slice_index setup 5 == 0x00) c.1 in
    let f = both (slice_index setup 4 == 0x00) (slice_index setup 5 == 0x00) d.1 in
    record {
      kind = eqb-true (slice_index setup 0) 0x81 a.0;
      code = eqb-true (slice_index setup 1) 0x06 b.0;
      value_low = eqb-true (slice_index setup 2) 0x00 c.0;
      value_high = eqb-true (slice_index setup 3) 0x22 d.0;
      index_low = eqb-true (slice_index setup 4) 0x00 f.0;
      index_high = eqb-true (slice_index setup 5) 0x00 f.1;
    }

reads_by : (view : DeviceView) (kind code value index length : ℕ) → kind ≡ 0x81 → code ≡ 0x06 → value ≡ 0x2200 → index ≡ 0
    → checked (asked_at (requests view value) kind code) (record { kind = kind; code = code; value = value; index = index; length = length }) ≡ Ok (Reads report_bytes)
reads_by view kind code value index length k c v i = rw (k, c, v, i) refl

pub reads_report : (setup : List ℕ) (view : DeviceView) → asks_for_report setup ≡ true → transfer_of (request_of setup) view ≡ Ok (Reads report_bytes)
unfolding transfer_of
reads_report setup view e =
    let a = asks_by setup e in
    let value : slice_index setup 2 + 256 * slice_index setup 3 ≡ 0x2200 = omega (arith, a.value_low, a.value_high) in
    let index : slice_index setup 4 + 256 * slice_index setup 5 ≡ 0 = omega (arith, a.index_low, a.index_high) in
    reads_by view (slice_index setup 0) (slice_index setup 1) (slice_index setup 2 + 256 * slice_index setup 3) (slice_index setup 4 + 256 * slice_index setup 5)
    (slice_index setup 6 + 256 * slice_index setup 7) a.kind a.code value index
