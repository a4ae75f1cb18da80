-- Where a unit's two bytes stand in a string descriptor, and how a packet of it is cut.
use Rattle.std.proofs.Common.{◌≡◌, ℕ, ◌+◌, ◌-◌, ◌*◌, ◌/◌, ◌%◌, ◌<◌, ◌≤◌, List, [], ◌∷◌, ◌++◌, length, take, drop, min, flat_map, slice_index}
use Rattle.std.proofs.Common.{refl, sym, ap, ◌∙◌, suc, zero, Some, None, arith}
use Rattle.std.proofs.lemmas.List.{drop-take, take_min, take-take, length-take, length-drop, take_more, get_or-drop}
use Rattle.usb_device.specs.Packets.{packet_at}
use Rattle.usb_device.specs.Strings.{unit_bytes, held_count, string_descriptor}

byte_at : (units : List ℕ) (place : ℕ) → place < 2 * length units
    → slice_index (flat_map unit_bytes units) place ≡ slice_index (unit_bytes (slice_index units (place / 2))) (place % 2)
byte_at [] place l = absurd (omega (arith, l))
byte_at (unit ∷ units) zero l = refl
byte_at (unit ∷ units) (suc zero) l = refl
byte_at (unit ∷ units) (suc (suc place)) l =
    let half : suc (suc place) / 2 ≡ suc (place / 2) = omega arith in
    let bit : suc (suc place) % 2 ≡ place % 2 = omega arith in
    rw half (rw bit (byte_at units place (omega (arith, l))))

pub byte_behind_head : (n : ℕ) (units : List ℕ) (place : ℕ) → 2 ≤ place → place < 2 + 2 * length units
    → slice_index (n ∷ 3 ∷ flat_map unit_bytes units) place ≡ slice_index (unit_bytes (slice_index units (place / 2 - 1))) (place % 2)
byte_behind_head n units zero m l = absurd (omega (arith, m))
byte_behind_head n units (suc zero) m l = absurd (omega (arith, m))
byte_behind_head n units (suc (suc place)) m l =
    let half : suc (suc place) / 2 - 1 ≡ place / 2 = omega arith in
    let bit : suc (suc place) % 2 ≡ place % 2 = omega arith in
    rw half (rw bit (byte_at units place (omega (arith, l))))

length-units : (units : List ℕ) → length (flat_map unit_bytes units) ≡ 2 * length units
length-units [] = refl
length-units (unit ∷ units) = let e = length-units units in omega (arith, e)

pub length-bytes : (n : ℕ) (units : List ℕ) → length (n ∷ 3 ∷ flat_map unit_bytes units) ≡ 2 + 2 * length units
length-bytes n units = let e = length-units units in omega (arith, e)

pub bytes_of : (k : ℕ) (text : List ℕ) → k ≤ length text → k ≡ held_count text
    → (2 + 2 * length (take k text)) ∷ 3 ∷ flat_map unit_bytes (take k text) ≡ string_descriptor text
bytes_of k text l e =
    let t = length-take k text in
    let n : length (take k text) ≡ k = omega (arith, t, l) in
    ap (λ m. (2 + 2 * m) ∷ 3 ∷ flat_map unit_bytes (take k text)) n ∙ ap (λ m. (2 + 2 * m) ∷ 3 ∷ flat_map unit_bytes (take m text)) e

pub one_more : (bytes : List ℕ) (start place : ℕ) → start ≤ place → place < length bytes
    → take (place + 1 - start) (drop start bytes) ≡ take (place - start) (drop start bytes) ++ slice_index bytes place ∷ []
one_more bytes start place m l =
    let left = length-drop start bytes in
    let next : place + 1 - start ≡ (place - start) + 1 = omega (arith, m) in
    let there : start + (place - start) ≡ place = omega (arith, m) in
    let read = get_or-drop start bytes (place - start) 0 ∙ ap (λ i. slice_index bytes i) there in
    rw next (take_more (drop start bytes) (place - start) 0 (omega (arith, left, l, m))
    ∙ ap (λ byte. take (place - start) (drop start bytes) ++ byte ∷ []) read)

-- what is sent ends where the bytes end, or no more were asked for
cut : (bytes : List ℕ) (asked start : ℕ) → start ≤ asked → start ≤ length bytes
    → take (min (min (length bytes) asked) (start + 8) - start) (drop start bytes) ≡ take 8 (drop start (take asked bytes))
cut bytes asked start l m =
    let more = asked - start in
    let xs = drop start bytes in
    let ys = take more xs in
    let a : asked ≡ start + more = omega (arith, l) in
    let left = length-drop start bytes in
    let some = length-take more xs in
    let n : min (min (length bytes) asked) (start + 8) - start ≡ min 8 (length ys) = omega (arith, l, m, left, some) in
    let taken = ap (λ k. drop start (take k bytes)) a ∙ drop-take start more bytes in
    rw n (sym (take-take (min 8 (length ys)) more xs (omega (arith, some))) ∙ take_min 8 ys ∙ sym (ap (λ zs. take 8 zs) taken))

pub packet_some : (bytes : List ℕ) (asked j : ℕ) → 8 * j < min (length bytes) asked
    → packet_at bytes asked j ≡ Some (take (min (min (length bytes) asked) (8 * j + 8) - 8 * j) (drop (8 * j) bytes))
unfolding packet_at
packet_some bytes asked j l =
    let n = length-take asked bytes in
    let e = cut bytes asked (8 * j) (omega (arith, l)) (omega (arith, l)) in
    grind (arith, n, e)

pub packet_empty : (bytes : List ℕ) (asked j : ℕ) → 8 * j ≡ length bytes → length bytes < asked → packet_at bytes asked j ≡ Some []
unfolding packet_at
packet_empty bytes asked j e l = let n = length-take asked bytes in grind (arith, n)

pub packet_none : (bytes : List ℕ) (asked j : ℕ) → min (length bytes) asked ≤ 8 * j → (8 * j ≡ length bytes → length bytes < asked → ⊥)
    → packet_at bytes asked j ≡ None
unfolding packet_at
packet_none bytes asked j l stop = let n = length-take asked bytes in grind (arith, n, stop)
