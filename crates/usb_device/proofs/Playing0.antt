-- What happens on the bus of a controller that a script plays.
use Rattle.std.proofs.lemmas.Grind.{common_steps}
use Rattle.std.proofs.Common.{arith}
use Rattle.std.proofs.Common.{◌≡◌, ℕ, Bool, true, false, List, [], ◌∷◌, Some, None, refl, ap, ◌∙◌}
use Rattle.usb_device.specs.Bus.{Bus, Seen, SetupSent, OutTaken, WasReset, InMode, Naks, Sends, NaksOut, Takes, got, sets_up, takes_in, loses_ack, brings_out, resets}
use Rattle.usb_device.specs.representation.Played0.{Moved0, address_by}
use Rattle.usb_device.specs.Addresses.{StaysBy}

pub set_up : (b : Bus) (bytes : List ℕ) (seen : List Seen) → seen ≡ SetupSent bytes ∷ b.seen
    → Moved0 b (record { seen = seen; input = Naks; output = NaksOut; met = record { reset = b.met.reset; setup = Some bytes; out = b.met.out; taken = b.met.taken } })
set_up b bytes seen e = (
  _ ∷ [],
  (sets_up bytes (ap (λ s. record { seen = s; input = Naks; output = NaksOut; met = record { reset = b.met.reset; setup = Some bytes; out = b.met.out; taken = b.met.taken } }) e), refl),
)

pub was_reset : (b : Bus) (seen : List Seen) → seen ≡ WasReset ∷ b.seen
    → Moved0 b (record { seen = seen; input = Naks; output = NaksOut; met = record { reset = true; setup = None; out = None; taken = false } })
was_reset b seen e = (
  _ ∷ [],
  (resets (ap (λ s. record { seen = s; input = Naks; output = NaksOut; met = record { reset = true; setup = None; out = None; taken = false } }) e), refl),
)

pub took : (b : Bus) (packet : List ℕ) (has : Bool) (seen : List Seen) → b.input ≡ Sends packet has → seen ≡ got packet has b.seen
    → Moved0 b (record { seen = seen; input = Naks; output = b.output; met = record { reset = b.met.reset; setup = b.met.setup; out = b.met.out; taken = true } })
took b packet has seen i e = (
  _ ∷ [],
  (takes_in packet has i (ap (λ s. record { seen = s; input = Naks; output = b.output; met = record { reset = b.met.reset; setup = b.met.setup; out = b.met.out; taken = true } }) e), refl),
)

pub lost : (b : Bus) (packet : List ℕ) (has : Bool) (seen : List Seen) (input : InMode) → b.input ≡ Sends packet has → input ≡ Sends packet true → seen ≡ got packet has b.seen
    → Moved0 b (record { seen = seen; input = input; output = b.output; met = b.met })
lost b packet has seen input i j e = (
  _ ∷ [],
  (loses_ack packet has i (ap (λ s. record { seen = s; input = input; output = b.output; met = b.met }) e ∙ ap (λ m. record { seen = got packet has b.seen; input = m; output = b.output; met = b.met }) j), refl),
)

pub brought : (b : Bus) (packet : List ℕ) (seen : List Seen) (out : List ℕ) → b.output ≡ Takes → out ≡ packet → seen ≡ OutTaken packet ∷ b.seen
    → Moved0 b (record { seen = seen; input = b.input; output = NaksOut; met = record { reset = b.met.reset; setup = b.met.setup; out = Some out; taken = b.met.taken } })
brought b packet seen out o p e = (
  _ ∷ [],
  (
    brings_out packet o (
        ap (λ s. record { seen = s; input = b.input; output = NaksOut; met = record { reset = b.met.reset; setup = b.met.setup; out = Some out; taken = b.met.taken } }) e
        ∙ ap (λ d. record { seen = OutTaken packet ∷ b.seen; input = b.input; output = NaksOut; met = record { reset = b.met.reset; setup = b.met.setup; out = Some d; taken = b.met.taken } }) p
        ),
    refl,
  ),
)

-- the address
pub address_stays : (r q : Bool) (x y : ℕ) → q ≡ r → y ≡ x → StaysBy q (address_by r x) (address_by q y)
address_stays r q x y h1 h2 = grind (arith, common_steps)

pub address_zero : (r q : Bool) (x y : ℕ) → q ≡ true → StaysBy q (address_by r x) (address_by q y)
address_zero r q x y h1 = grind (arith, common_steps)

pub address_looked : (m q : Bool) (x y z : ℕ) → q ≡ false → StaysBy m x (address_by m y) → (m ≡ true → z ≡ 0) → (m ≡ false → z ≡ y) → StaysBy m x (address_by q z)
address_looked m q x y z h1 h2 h3 h4 = grind (arith, common_steps)

pub address_reported : (r : Bool) (a b : ℕ) → (r ≡ true → b ≡ 0) → (r ≡ false → b ≡ a) → StaysBy r a (address_by r b)
address_reported r a b h1 h2 = grind (arith, common_steps)
