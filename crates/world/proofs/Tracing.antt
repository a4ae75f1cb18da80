-- What a host gathers, and what it keeps, came in packets since a SETUP packet that asked for it.
use Rattle.std.proofs.Common.{◌≡◌, ◌⊎◌, ℕ, suc, ◌+◌, ◌*◌, ◌≤◌, ◌==◌, ◌&&◌, ◌||◌, not, nat_lt, nat_le, Bool, true, false, if◌then◌else◌, List, [], ◌∷◌, ◌++◌, Option, Some, None, is_some, length, take, drop, length-append, refl, ap, arith, inl, inr}
use Rattle.std.specs.Prelude.{unwrap_or}
use Rattle.std.proofs.lemmas.Bool.Decides.{nat_tests}
use Rattle.std.proofs.lemmas.List.{length-take}
use Rattle.control_ep.specs.Calls.{EpCall}
use Rattle.control_ep.specs.Packets.{packet_at, joined_packets}
use Rattle.control_ep.specs.Stage.{calls_since, first_stall, count_in}
use Rattle.control_ep.proofs.Joined.{joined-is}
use Rattle.host.specs.Calls.{HostCall, was_set_up, got_packet, lost}
use Rattle.host.specs.Kept.{Fetch, asks_for_report, wanted_length, with_packet, is_end, gathering, is_kept, kept}
use Rattle.world.specs.Fetched.{AreTaken, IsFetched}
use Rattle.world.proofs.Gathering.{Gathers, joined_more, kept_size}

-- the packets that came of what is gathered
pub record Came (reported host : List HostCall) (fetch : Fetch) : Type 0 where
  pub packets : List HostCall
  pub setup : List ℕ
  pub before : List HostCall
  pub split : host ≡ packets ++ (was_set_up setup ∷ before ++ reported)
  pub asks : asks_for_report setup ≡ true
  pub wanted : fetch.wanted ≡ wanted_length setup
  pub taken : AreTaken packets
  pub size : length fetch.bytes ≡ 8 * length packets

abbrev pub IfCame : List HostCall → List HostCall → Option Fetch → Type 0
IfCame reported host None = Unit {0}
IfCame reported host (Some fetch) = Came reported host fetch

-- the host's calls are those of before, and more; what it gathers and keeps came with them
pub record Traces (reported host : List HostCall) : Type 0 where
  pub more : List HostCall
  pub follows : host ≡ more ++ reported
  pub came : IfCame reported host (gathering host)
  pub fetched : is_some (kept host) ≡ true → (is_some (kept reported) ≡ true) ⊎ IsFetched reported host

pub traces_start : (reported : List HostCall) → gathering reported ≡ None → Traces reported reported
traces_start reported g = record { more = []; follows = refl; came = rw g tt; fetched = λ e. inl e }

fetched_later : (reported host : List HostCall) (call : HostCall) → IsFetched reported host → IsFetched reported (call ∷ host)
fetched_later reported host call f = record {
  later = call ∷ f.later;
  packets = f.packets;
  setup = f.setup;
  before = f.before;
  split = ap (λ (l : List HostCall). call ∷ l) f.split;
  asks = f.asks;
  enough = f.enough;
  count = f.count;
  taken = f.taken;
}

either_later : (reported host : List HostCall) (call : HostCall) → (is_some (kept reported) ≡ true) ⊎ IsFetched reported host → (is_some (kept reported) ≡ true) ⊎ IsFetched reported (call ∷ host)
either_later reported host call (inl e) = inl e
either_later reported host call (inr f) = inr (fetched_later reported host call f)

came_by : (reported host more : List HostCall) (setup : List ℕ) (asks : Bool) → host ≡ more ++ reported → asks_for_report setup ≡ asks
    → IfCame reported (was_set_up setup ∷ host) (if asks then Some (record { wanted = wanted_length setup; bytes = [] }) else None)
came_by reported host more setup false f e = tt
came_by reported host more setup true f e = record {
  packets = [];
  setup = setup;
  before = more;
  split = ap (λ (l : List HostCall). was_set_up setup ∷ l) f;
  asks = e;
  wanted = refl;
  taken = tt;
  size = refl;
}

pub traces_setup : (reported host : List HostCall) (setup : List ℕ) → Traces reported host → Traces reported (was_set_up setup ∷ host)
unfolding gathering kept
traces_setup reported host setup t = record {
  more = was_set_up setup ∷ t.more;
  follows = ap (λ (l : List HostCall). was_set_up setup ∷ l) t.follows;
  came = came_by reported host t.more setup (asks_for_report setup) t.follows refl;
  fetched = λ e. either_later reported host (was_set_up setup) (t.fetched e);
}

pub traces_lost : (reported host : List HostCall) → Traces reported host → Traces reported (lost ∷ host)
unfolding gathering kept
traces_lost reported host t = record {
  more = lost ∷ t.more;
  follows = ap (λ (l : List HostCall). lost ∷ l) t.follows;
  came = tt;
  fetched = λ e. either_later reported host lost (t.fetched e);
}

-- a packet where nothing is gathered
pub traces_idle : (reported host : List HostCall) (bytes : List ℕ) (memory : Bool) → gathering host ≡ None → Traces reported host → Traces reported (got_packet bytes memory ∷ host)
unfolding gathering kept
traces_idle reported host bytes memory g t = record {
  more = got_packet bytes memory ∷ t.more;
  follows = ap (λ (l : List HostCall). got_packet bytes memory ∷ l) t.follows;
  came = rw g tt;
  fetched = rw g (λ e. either_later reported host (got_packet bytes memory) (t.fetched e));
}

-- ---- a packet of what is gathered

size_by : (a b : Bool) (whole : List ℕ) → length whole ≤ 8 → length (unwrap_or (if a then Some whole else (if b then Some [] else None)) []) ≤ 8
size_by true b whole l = l
size_by false true whole l = omega arith
size_by false false whole l = omega arith

packet_size : (text : List ℕ) (wanted n : ℕ) → length (unwrap_or (packet_at text wanted n) []) ≤ 8
unfolding packet_at
packet_size text wanted n =
    let sent = take wanted text in
    size_by (nat_lt (8 * n) (length sent)) ((8 * n == length sent) && nat_lt (length sent) wanted) (take 8 (drop (8 * n) sent)) (omega (arith, length-take 8 (drop (8 * n) sent)))

joined_size : (text : List ℕ) (wanted n : ℕ) → length (joined_packets text wanted n) ≤ wanted
joined_size text wanted n =
    omega (arith, ap length (joined-is text wanted n), length-take (8 * n) (take wanted text), length-take wanted text)

-- a packet that ends nothing has eight bytes at least
not_end : (a b memory : Bool) → (memory && not (a || b)) ≡ true → (memory ≡ true) × (a ≡ false)
not_end false false true e = (refl, refl)
not_end true b true e = cc
not_end false true true e = cc
not_end a b false e = cc

not_below : (n : ℕ) → nat_lt n 8 ≡ false → 8 ≤ n
not_below n e = grind (arith, nat_tests)

memory_of : (a b c : Bool) → (a && (b && c)) ≡ true → (a ≡ true) × (c ≡ true)
memory_of true true c e = (refl, e)
memory_of true false c e = cc
memory_of false b c e = cc

-- so many packets of eight bytes, and one more
whole_size : (m l total : ℕ) → total ≡ 8 * m + l → total ≡ 99 → l ≤ 8 → suc m ≡ 13
whole_size m l total e f g = omega (arith, e, f, g)

-- what a packet's bytes are of a read
pub record Brings (calls : List EpCall) (text : List ℕ) (fetch : Fetch) (bytes : List ℕ) : Type 0 where
  pub gathers : Gathers text calls fetch
  pub unstalled : first_stall (calls_since calls) ≡ None
  pub bytes_are : unwrap_or (packet_at text fetch.wanted (count_in (calls_since calls))) [] ≡ bytes

bring_size : (calls : List EpCall) (text : List ℕ) (fetch : Fetch) (bytes : List ℕ) → Brings calls text fetch bytes → length bytes ≤ 8
bring_size calls text fetch bytes b =
    let l = packet_size text fetch.wanted (count_in (calls_since calls)) in
    rw b.bytes_are at l

bring_enough : (calls : List EpCall) (text : List ℕ) (fetch : Fetch) (bytes : List ℕ) → Brings calls text fetch bytes → length (fetch.bytes ++ bytes) ≤ fetch.wanted
bring_enough calls text fetch bytes b =
    let next = suc (count_in (calls_since calls)) in
    let are : fetch.bytes ++ bytes ≡ joined_packets text fetch.wanted next = joined_more text calls fetch bytes b.gathers b.unstalled b.bytes_are in
    rw are (joined_size text fetch.wanted next)

pub traces_packet : (reported host : List HostCall) (calls : List EpCall) (text : List ℕ) (fetch : Fetch) (bytes : List ℕ) (memory : Bool) → gathering host ≡ Some fetch → Brings calls text fetch bytes
    → Traces reported host → Traces reported (got_packet bytes memory ∷ host)
unfolding gathering kept
traces_packet reported host calls text fetch bytes memory g b t = record {
  more = got_packet bytes memory ∷ t.more;
  follows = ap (λ (l : List HostCall). got_packet bytes memory ∷ l) t.follows;
  came = rw g (came_on (memory && not (is_end fetch bytes)) refl);
  fetched = rw g (fetched_on (memory && (is_end fetch bytes && is_kept (fetch.bytes ++ bytes))) refl);
}
  where
    so_far : Came reported host fetch
    so_far = rw g at t.came

    sum : length (fetch.bytes ++ bytes) ≡ 8 * length so_far.packets + length bytes
    sum = omega (arith, length-append fetch.bytes bytes, so_far.size)

    came_on : (go : Bool) → (memory && not (is_end fetch bytes)) ≡ go → IfCame reported (got_packet bytes memory ∷ host) (if go then Some (with_packet fetch bytes) else None)
    came_on false e = tt
    came_on true e =
        let on = not_end (nat_lt (length bytes) 8) (nat_le fetch.wanted (length (fetch.bytes ++ bytes))) memory e in
        let eight : length bytes ≡ 8 = omega (arith, not_below (length bytes) on.1, bring_size calls text fetch bytes b) in
        record {
          packets = got_packet bytes memory ∷ so_far.packets;
          setup = so_far.setup;
          before = so_far.before;
          split = ap (λ (l : List HostCall). got_packet bytes memory ∷ l) so_far.split;
          asks = so_far.asks;
          wanted = so_far.wanted;
          taken = (on.0, so_far.taken);
          size = omega (arith, sum, eight);
        }

    fetched_on : (keeps : Bool) → (memory && (is_end fetch bytes && is_kept (fetch.bytes ++ bytes))) ≡ keeps
        → is_some (if keeps then Some (fetch.bytes ++ bytes) else kept host) ≡ true → (is_some (kept reported) ≡ true) ⊎ IsFetched reported (got_packet bytes memory ∷ host)
    fetched_on false e s = either_later reported host (got_packet bytes memory) (t.fetched s)
    fetched_on true e s =
        let on = memory_of memory (is_end fetch bytes) (is_kept (fetch.bytes ++ bytes)) e in
        let all : length (fetch.bytes ++ bytes) ≡ 99 = kept_size (fetch.bytes ++ bytes) on.1 in
        inr (record {
          later = [];
          packets = got_packet bytes memory ∷ so_far.packets;
          setup = so_far.setup;
          before = so_far.before;
          split = ap (λ (l : List HostCall). got_packet bytes memory ∷ l) so_far.split;
          asks = so_far.asks;
          enough = omega (arith, all, bring_enough calls text fetch bytes b, so_far.wanted);
          count = whole_size (length so_far.packets) (length bytes) (length (fetch.bytes ++ bytes)) sum all (bring_size calls text fetch bytes b);
          taken = (on.0, so_far.taken);
        })
