-- The packets of bytes that lie in words.
use Rattle.std.proofs.Common.{◌≡◌, ℕ, ◌+◌, ◌-◌, ◌*◌, ◌/◌, ◌%◌, ◌^◌, ◌≤◌, ◌<◌, ◌==◌, ◌&&◌, zero, suc, true, false, nat_lt, List, [], ◌∷◌, length, map, get_or, set, take, drop, min, Some, None, refl, sym, ap, ◌∙◌, arith}
use Rattle.std.specs.List.{range_with_len}
use Rattle.std.proofs.lemmas.List.{length-take, get_or-take}
use Rattle.std.proofs.lemmas.Grind.{same_number_lists}
use Rattle.std.proofs.lemmas.List.FromFn.{take-map-range_with_len}
use Rattle.std.proofs.lemmas.Bool.Decides.{nat_tests}
use Rattle.reports.specs.representation.Words.{byte_at, first_bytes, Packs}
use Rattle.reports.proofs.InWords.{length-first_bytes, first_bytes-at}
use Rattle.control_ep.specs.Packets.{packet_at}

drop_range : (f : ℕ → ℕ) (a n k : ℕ) → drop k (map f (range_with_len a n)) ≡ map f (range_with_len (a + k) (n - k))
drop_range f a n zero =
    let z : a + 0 ≡ a = omega arith in
    let y : n - 0 ≡ n = omega arith in
    rw (z, y) refl
drop_range f a zero (suc k) = let y : 0 - suc k ≡ 0 = omega arith in rw y refl
drop_range f a (suc n) (suc k) =
    let e : a + suc k ≡ a + 1 + k = omega arith in
    let d : suc n - suc k ≡ n - k = omega arith in
    rw (e, d) (drop_range f (a + 1) n k)

take_range : (f : ℕ → ℕ) (a n k : ℕ) → take k (map f (range_with_len a n)) ≡ map f (range_with_len a (min k n))
take_range f a n zero = let y : min 0 n ≡ 0 = omega arith in rw y refl
take_range f a zero (suc k) = let y : min (suc k) 0 ≡ 0 = omega arith in rw y refl
take_range f a (suc n) (suc k) =
    let y : min (suc k) (suc n) ≡ suc (min k n) = omega arith in
    rw y (ap (λ (l : List ℕ). f a ∷ l) (take_range f (a + 1) n k))

-- the bytes from place 8 * sent on, of the first n that lie in words, no more than asked
rest : (words : List ℕ) (n asked sent m : ℕ) → m ≡ min 8 (min asked n - 8 * sent)
    → take 8 (drop (8 * sent) (take asked (first_bytes words n))) ≡ map (byte_at words) (range_with_len (8 * sent) m)
unfolding first_bytes
rest words n asked sent m e =
    let z : 0 + 8 * sent ≡ 8 * sent = omega arith in
    rw (take_range (byte_at words) 0 n asked, drop_range (byte_at words) 0 (min asked n) (8 * sent), take_range (byte_at words) (0 + 8 * sent) (min asked n - 8 * sent) 8, z, e) refl

-- a packet with bytes
pub packet_is : (words packet : List ℕ) (n asked sent m : ℕ) → 8 * sent < min n asked → m ≡ min (min n asked - 8 * sent) 8
    → packet ≡ map (byte_at words) (range_with_len (4 * (2 * sent)) 8) → Some (take m packet) ≡ packet_at (first_bytes words n) asked sent
unfolding packet_at
packet_is words packet n asked sent m below is e =
    let size : length (take asked (first_bytes words n)) ≡ min asked n = length-take asked (first_bytes words n) ∙ ap (λ k. min asked k) (length-first_bytes words n) in
    let within : nat_lt (8 * sent) (length (take asked (first_bytes words n))) ≡ true = rw size (grind (arith, nat_tests)) in
    let few : m ≤ 8 = omega arith in
    let eight : 4 * (2 * sent) ≡ 8 * sent = omega arith in
    let same : take m packet ≡ take 8 (drop (8 * sent) (take asked (first_bytes words n))) =
    rw (e, eight) (take-map-range_with_len (byte_at words) (8 * sent) 8 m few ∙ sym (rest words n asked sent m (omega arith))) in
    rw (within, same) refl

-- the empty packet behind whole ones
pub empty_is : (words packet : List ℕ) (n asked sent : ℕ) → 8 * sent ≡ min n asked → min n asked < asked
    → Some (take 0 packet) ≡ packet_at (first_bytes words n) asked sent
unfolding packet_at
empty_is words packet n asked sent at more =
    let size : length (take asked (first_bytes words n)) ≡ min asked n = length-take asked (first_bytes words n) ∙ ap (λ k. min asked k) (length-first_bytes words n) in
    let over : nat_lt (8 * sent) (length (take asked (first_bytes words n))) ≡ false = rw size (grind (arith, nat_tests)) in
    let equal : (8 * sent == length (take asked (first_bytes words n))) ≡ true = rw size (grind (arith, nat_tests)) in
    let short : nat_lt (length (take asked (first_bytes words n))) asked ≡ true = rw size (grind (arith, nat_tests)) in
    rw (over, equal, short) refl

-- no packet: whole ones hold all that was asked for, or they end before it
pub none_whole : (words : List ℕ) (n asked sent : ℕ) → min n asked ≤ 8 * sent → asked ≤ min n asked → None ≡ packet_at (first_bytes words n) asked sent
unfolding packet_at
none_whole words n asked sent over all =
    let size : length (take asked (first_bytes words n)) ≡ min asked n = length-take asked (first_bytes words n) ∙ ap (λ k. min asked k) (length-first_bytes words n) in
    let behind : nat_lt (8 * sent) (length (take asked (first_bytes words n))) ≡ false = rw size (grind (arith, nat_tests)) in
    let ends : ((8 * sent == length (take asked (first_bytes words n))) && nat_lt (length (take asked (first_bytes words n))) asked) ≡ false = rw size (grind (arith, nat_tests)) in
    rw (behind, ends) refl

pub none_past : (words : List ℕ) (n asked sent : ℕ) → min n asked < 8 * sent → None ≡ packet_at (first_bytes words n) asked sent
unfolding packet_at
none_past words n asked sent past =
    let size : length (take asked (first_bytes words n)) ≡ min asked n = length-take asked (first_bytes words n) ∙ ap (λ k. min asked k) (length-first_bytes words n) in
    let behind : nat_lt (8 * sent) (length (take asked (first_bytes words n))) ≡ false = rw size (grind (arith, nat_tests)) in
    let ends : ((8 * sent == length (take asked (first_bytes words n))) && nat_lt (length (take asked (first_bytes words n))) asked) ≡ false = rw size (grind (arith, nat_tests)) in
    rw (behind, ends) refl

-- the bytes of two words that stand side by side
byte_is : (words : List ℕ) (k j r : ℕ) → k / 4 ≡ j → k % 4 ≡ r → byte_at words k ≡ get_or words j 0 / 2 ^ (8 * r) % 256
byte_is words k j r q e = rw (q, e) refl

ap8 : {a b c d e f g h i j k l m n o p : ℕ} → a ≡ i → b ≡ j → c ≡ k → d ≡ l → e ≡ m → f ≡ n → g ≡ o → h ≡ p
    → a ∷ b ∷ c ∷ d ∷ e ∷ f ∷ g ∷ h ∷ [] ≡ i ∷ j ∷ k ∷ l ∷ m ∷ n ∷ o ∷ p ∷ []
ap8 s t u v w x y z = rw (s, t, u, v, w, x, y, z) refl

pub eight_is : (words : List ℕ) (p : ℕ)
    → get_or words p 0 / 2 ^ 0 % 256 ∷ get_or words p 0 / 2 ^ 8 % 256 ∷ get_or words p 0 / 2 ^ 16 % 256 ∷ get_or words p 0 / 2 ^ 24 % 256
    ∷ get_or words (p + 1) 0 / 2 ^ 0 % 256 ∷ get_or words (p + 1) 0 / 2 ^ 8 % 256 ∷ get_or words (p + 1) 0 / 2 ^ 16 % 256 ∷ get_or words (p + 1) 0 / 2 ^ 24 % 256 ∷ []
    ≡ map (byte_at words) (range_with_len (4 * p) 8)
eight_is words p =
    let b0 = byte_is words (4 * p) p 0 (omega arith) (omega arith) in
    let b1 = byte_is words (4 * p + 1) p 1 (omega arith) (omega arith) in
    let b2 = byte_is words (4 * p + 1 + 1) p 2 (omega arith) (omega arith) in
    let b3 = byte_is words (4 * p + 1 + 1 + 1) p 3 (omega arith) (omega arith) in
    let b4 = byte_is words (4 * p + 1 + 1 + 1 + 1) (p + 1) 0 (omega arith) (omega arith) in
    let b5 = byte_is words (4 * p + 1 + 1 + 1 + 1 + 1) (p + 1) 1 (omega arith) (omega arith) in
    let b6 = byte_is words (4 * p + 1 + 1 + 1 + 1 + 1 + 1) (p + 1) 2 (omega arith) (omega arith) in
    let b7 = byte_is words (4 * p + 1 + 1 + 1 + 1 + 1 + 1 + 1) (p + 1) 3 (omega arith) (omega arith) in
    ap8 (sym b0) (sym b1) (sym b2) (sym b3) (sym b4) (sym b5) (sym b6) (sym b7)

-- the first bytes of two words that were put in front
front_each : (ws xs : List ℕ) (v w : ℕ) → 2 ≤ length ws → Packs v (get_or xs 0 0) (get_or xs 1 0) (get_or xs 2 0) (get_or xs 3 0)
    → Packs w (get_or xs 4 0) (get_or xs 5 0) (get_or xs 6 0) (get_or xs 7 0) → (k : ℕ) → k < 8 → byte_at (set (set ws 0 v) 1 w) k ≡ get_or xs k 0
front_each [] xs v w l p q k m = absurd (omega (arith, l))
front_each (y ∷ []) xs v w l p q k m = absurd (omega (arith, l))
front_each (y ∷ z ∷ ws) xs v w l p q zero m = p.p0
front_each (y ∷ z ∷ ws) xs v w l p q (suc zero) m = p.p1
front_each (y ∷ z ∷ ws) xs v w l p q (suc (suc zero)) m = p.p2
front_each (y ∷ z ∷ ws) xs v w l p q (suc (suc (suc zero))) m = p.p3
front_each (y ∷ z ∷ ws) xs v w l p q (suc (suc (suc (suc zero)))) m = q.p0
front_each (y ∷ z ∷ ws) xs v w l p q (suc (suc (suc (suc (suc zero))))) m = q.p1
front_each (y ∷ z ∷ ws) xs v w l p q (suc (suc (suc (suc (suc (suc zero)))))) m = q.p2
front_each (y ∷ z ∷ ws) xs v w l p q (suc (suc (suc (suc (suc (suc (suc zero))))))) m = q.p3
front_each (y ∷ z ∷ ws) xs v w l p q (suc (suc (suc (suc (suc (suc (suc (suc k)))))))) m = absurd (omega arith)

pub front_is : (ws xs : List ℕ) (v w n : ℕ) → 2 ≤ length ws → length xs ≡ 8 → n ≤ 8 → Packs v (get_or xs 0 0) (get_or xs 1 0) (get_or xs 2 0) (get_or xs 3 0)
    → Packs w (get_or xs 4 0) (get_or xs 5 0) (get_or xs 6 0) (get_or xs 7 0) → first_bytes (set (set ws 0 v) 1 w) n ≡ take n xs
front_is ws xs v w n two eight few p q =
    let made = set (set ws 0 v) 1 w in
    let long : length (take n xs) ≡ n = length-take n xs ∙ omega (arith, eight, few) in
    same_number_lists (first_bytes made n) (take n xs) (length-first_bytes made n ∙ sym long)
    (λ k m. let l : k < n = omega (arith, m, length-first_bytes made n) in
    first_bytes-at made n k l ∙ front_each ws xs v w two p q k (omega arith) ∙ sym (get_or-take n xs k 0 l))
