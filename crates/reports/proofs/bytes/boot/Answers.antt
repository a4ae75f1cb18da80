use Rattle.std.proofs.Common.{◌≡◌, ◌+◌, length, refl}
use Rattle.layers.specs.Usages.{has_key}
use Rattle.reports.specs.Wanted.{boot_bytes, listed, modifiers_of}
use Rattle.reports.proofs.Members.{six_parts, length-places_of}
use Rattle.reports.proofs.Bits.{byte_of-bits}
use Rattle.reports.proofs.bytes.boot.Goals as goal

pub returns : goal.returns
unfolding boot_bytes
returns c =
    let keys = has_key c.args.usages.now in
    let modifiers : c.modifiers.result ≡ modifiers_of keys = byte_of-bits c.modifiers.result (λ i. keys (224 + i)) c.modifiers.type_inv c.modifiers.ensures in
    let six : length c.places.result ≡ 6 = rw c.places.ensures (length-places_of (listed keys)) in
    rw (six_parts c.places.result six, modifiers, c.places.ensures) refl
