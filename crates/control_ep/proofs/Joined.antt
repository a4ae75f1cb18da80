-- The packets of a read, put together.
use Rattle.std.proofs.Common.{◌≡◌, ℕ, zero, suc, ◌+◌, ◌*◌, ◌≤◌, Bool, true, false, ◌==◌, ◌&&◌, nat_lt, if◌then◌else◌, List, [], ◌++◌, length, take, drop, Some, None, refl, sym, arith}
use Rattle.std.specs.Prelude.{unwrap_or}
use Rattle.std.proofs.lemmas.List.{take-append-drop, take-take, drop-take, drop_all}
use Rattle.std.proofs.lemmas.Bool.Decides.{nat_tests}
use Rattle.control_ep.specs.Packets.{packet_at, joined_packets}

take-add : (n m : ℕ) (s : List ℕ) → take (n + m) s ≡ take n s ++ take m (drop n s)
take-add n m s =
    let first = take-take n (n + m) s (omega arith) in
    let second = drop-take n m s in
    rw (← first, ← second) (sym (take-append-drop n (take (n + m) s)))

piece_by : (whole empty : Bool) (k : ℕ) (s : List ℕ) → (whole ≡ false → length s ≤ k)
    → unwrap_or (if whole then Some (take 8 (drop k s)) else (if empty then Some [] else None)) [] ≡ take 8 (drop k s)
piece_by true empty k s past = refl
piece_by false true k s past = rw (drop_all k s (past refl)) refl
piece_by false false k s past = rw (drop_all k s (past refl)) refl

not_below : (k n : ℕ) → nat_lt k n ≡ false → n ≤ k
not_below k n e = grind (arith, nat_tests)

piece : (bytes : List ℕ) (asked n : ℕ) → unwrap_or (packet_at bytes asked n) [] ≡ take 8 (drop (8 * n) (take asked bytes))
unfolding packet_at
piece bytes asked n =
    let s = take asked bytes in
    piece_by (nat_lt (8 * n) (length s)) ((8 * n == length s) && nat_lt (length s) asked) (8 * n) s (not_below (8 * n) (length s))

pub joined-is : (bytes : List ℕ) (asked n : ℕ) → joined_packets bytes asked n ≡ take (8 * n) (take asked bytes)
joined-is bytes asked zero = refl
joined-is bytes asked (suc n) =
    let e : 8 * suc n ≡ 8 * n + 8 = omega arith in
    rw (joined-is bytes asked n, piece bytes asked n, e) (sym (take-add (8 * n) 8 (take asked bytes)))
