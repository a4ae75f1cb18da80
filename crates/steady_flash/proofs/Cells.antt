-- Programs into a place that was erased.
use Rattle.std.proofs.Common.{◌≡◌, ℕ, ◌<◌, ◌≤◌, ◌⊎◌, replicate, List, length, get_or, bit_and, arith, sym, ◌∙◌, ap, refl, inl, inr}
use Rattle.std.specs.Int.{bit_at}
use Rattle.std.proofs.lemmas.List.{get_or_past, get_or-replicate, length-replicate}
use Rattle.std.proofs.lemmas.List.Elements.{All-nil, All-cons, All-weaker}
use Rattle.std.proofs.lemmas.Grind.{same_number_lists}
use Rattle.std.proofs.lemmas.Nat.Bits.{bit_at_and, bit_at-lt, bit_at-zero, bit_at_ones, bit_at_above, same_from_bits}
use Rattle.std.proofs.lemmas.Bool.{cases_lt}
use Rattle.flash_model.specs.Torn.{Within, ProgramMayLeave}
use Rattle.steady_flash.specs.Cells.{IsEight, IsCells, IsReading, Written, TakesSlot, TakesMark, IsProgrammed, MayBeProgrammed, blank, erased}
use Rattle.steady_flash.specs.Moves.{Holds, IsTorn}
use Rattle.steady_flash.specs.Claims.{IsMarked}

-- a bit of a byte is one of the eight of FFh
byte_bit : (n i : ℕ) → n < 256 → bit_at n i ≤ bit_at 255 i
byte_bit n i l = elim (cases_lt i 8) [
  | inl b ↦ omega (arith, bit_at_ones 8 i b, bit_at-lt n i)
  | inr b ↦ omega (arith, bit_at_above n 8 i l b)
]

pub within_blank : (bytes : List ℕ) → IsEight bytes → Within bytes blank
within_blank bytes e = record {
  same_length = e.eight ∙ sym (length-replicate {A = ℕ} 8 255);
  bits = λ k i. elim (cases_lt k 8) [
    | inl b ↦ rw (get_or-replicate {A = ℕ} 8 k 255 0 b) (byte_bit (get_or bytes k 0) i (e.each k))
    | inr b ↦ rw (get_or_past {X = ℕ} bytes k 0 (rw e.eight b)) (omega (arith, bit_at-zero i))
  ];
}

pub torn_erased : (bytes : List ℕ) → IsEight bytes → IsTorn bytes erased
torn_erased bytes e = record { takes = All-nil (λ (b : List ℕ). b ≡ bytes); least = within_blank bytes e; most = within_blank bytes e }

-- what is torn again still has each bit of the bytes
still_within : (bytes x y : List ℕ) → Within bytes x → ProgramMayLeave x bytes y → Within bytes y
still_within bytes x y w p = record {
  same_length = w.same_length ∙ sym p.clears_only.same_length;
  bits = λ k i. omega (arith, w.bits k i, p.keeps k i, bit_at_and (get_or x k 0) (get_or bytes k 0) i, bit_at-lt (get_or bytes k 0) i, bit_at-lt (get_or x k 0) i);
}

pub within_itself : (bytes : List ℕ) → Within bytes bytes
within_itself bytes = record { same_length = refl; bits = λ k i. omega arith }

pub within_then : (x y z : List ℕ) → Within x y → Within y z → Within x z
within_then x y z a b = record { same_length = a.same_length ∙ b.same_length; bits = λ k i. omega (arith, a.bits k i, b.bits k i) }

pub torn_again : (bytes : List ℕ) (mid new : Written) → IsTorn bytes mid → MayBeProgrammed mid bytes new → IsTorn bytes new
torn_again bytes mid new t p = record {
  takes = rw p.begun (All-cons (λ (b : List ℕ). b ≡ bytes) bytes mid.begun refl t.takes);
  least = still_within bytes mid.cells.least new.cells.least t.least p.least;
  most = still_within bytes mid.cells.most new.cells.most t.most p.most;
}

-- and what is then programmed as a whole has just these
pub same_byte : (m b : ℕ) → ((i : ℕ) → bit_at b i ≤ bit_at m i) → bit_and m b ≡ b
same_byte m b above = same_from_bits (bit_and m b) b (λ i. omega (arith, bit_at_and m b i, above i, bit_at-lt b i, bit_at-lt m i))

whole : (bytes x y : List ℕ) → IsEight bytes → IsEight y → Within bytes x → ((k : ℕ) → k < 8 → get_or y k 0 ≡ bit_and (get_or x k 0) (get_or bytes k 0)) → y ≡ bytes
whole bytes x y e f w h =
    same_number_lists y bytes (f.eight ∙ sym e.eight)
    (λ k l. h k (omega (arith, f.eight)) ∙ same_byte (get_or x k 0) (get_or bytes k 0) (w.bits k))

pub programmed : (bytes : List ℕ) (mid new : Written) → IsEight bytes → IsCells new.cells → IsTorn bytes mid → IsProgrammed mid bytes new → (bytes ≡ blank → ⊥) → Holds new bytes
programmed bytes mid new e c t p some = record {
  eight = e;
  least = whole bytes mid.cells.least new.cells.least e c.least t.least p.least;
  most = whole bytes mid.cells.most new.cells.most e c.most t.most p.most;
  erased_if_blank = λ is. absurd (some is);
}

-- and of a mark
pub takes_mark : (place : Written) (bytes : List ℕ) → TakesSlot place bytes → TakesMark place bytes
takes_mark place bytes t = All-weaker (λ (b : List ℕ). b ≡ bytes) (λ (b : List ℕ). (b ≡ bytes) ⊎ (b ≡ replicate 8 0)) (λ b e. inl e) place.begun t

pub marked : (bytes : List ℕ) (mid new : Written) → IsEight bytes → IsCells new.cells → IsTorn bytes mid → IsProgrammed mid bytes new → (bytes ≡ blank → ⊥) → IsMarked bytes new
marked bytes mid new e c t p some =
    let h = programmed bytes mid new e c t p some in
    record {
      takes = rw p.begun (All-cons (λ (b : List ℕ). b ≡ bytes) bytes mid.begun refl t.takes);
      least = h.least;
      most = h.most;
    }

pub blank_eight : IsEight blank
blank_eight = record {
  eight = length-replicate {A = ℕ} 8 255;
  each = λ k. elim (cases_lt k 8) [
    | inl b ↦ rw (get_or-replicate {A = ℕ} 8 k 255 0 b) (omega arith)
    | inr b ↦ rw (get_or_past {X = ℕ} blank k 0 (rw (length-replicate {A = ℕ} 8 255) b)) (omega arith)
  ];
}

pub holds_erased : Holds erased blank
holds_erased = record { eight = blank_eight; least = refl; most = refl; erased_if_blank = λ is. refl }

-- with no cell in doubt there is one reading
pub firm_reading : (place : Written) (bytes read : List ℕ) → place.cells.least ≡ bytes → place.cells.most ≡ bytes → IsReading place.cells read → read ≡ bytes
firm_reading place bytes read least most r =
    same_number_lists read bytes (r.clear.same_length ∙ ap length most)
    (λ k l. same_from_bits (get_or read k 0) (get_or bytes k 0) (λ i.
    let low : bit_at (get_or bytes k 0) i ≤ bit_at (get_or read k 0) i = rw least at (r.set.bits k i) in
    let high : bit_at (get_or read k 0) i ≤ bit_at (get_or bytes k 0) i = rw most at (r.clear.bits k i) in
    omega arith))

pub one_reading : (place : Written) (bytes read : List ℕ) → Holds place bytes → IsReading place.cells read → read ≡ bytes
one_reading place bytes read h r = firm_reading place bytes read h.least h.most r

-- what a torn program leaves reads as a torn program of steady cells
pub torn_reading : (bytes : List ℕ) (place : Written) (read : List ℕ) → IsEight bytes → IsEight read → IsTorn bytes place → IsReading place.cells read → ProgramMayLeave blank bytes read
torn_reading bytes place read e f t r = record {
  clears_only = within_blank read f;
  keeps = λ k i. omega (arith, bit_at_and (get_or blank k 0) (get_or bytes k 0) i, t.least.bits k i, r.set.bits k i, bit_at-lt (get_or bytes k 0) i, bit_at-lt (get_or blank k 0) i);
}

-- a mark that was whole stays so
pub marked_torn : (bytes : List ℕ) (mark : Written) → IsMarked bytes mark → IsTorn bytes mark
marked_torn bytes mark m = record { takes = m.takes; least = rw m.least (within_itself bytes); most = rw m.most (within_itself bytes) }

within_both : (x y : List ℕ) → Within x y → Within y x → x ≡ y
within_both x y a b = same_number_lists x y a.same_length (λ k l. same_from_bits (get_or x k 0) (get_or y k 0) (λ i. omega (arith, a.bits k i, b.bits k i)))

pub marked_again : (bytes : List ℕ) (mid new : Written) → IsMarked bytes mid → MayBeProgrammed mid bytes new → IsMarked bytes new
marked_again bytes mid new m p =
    let torn = torn_again bytes mid new (marked_torn bytes mid m) p in
    record {
      takes = torn.takes;
      least = within_both new.cells.least bytes (rw m.least at p.least.clears_only) torn.least;
      most = within_both new.cells.most bytes (rw m.most at p.most.clears_only) torn.most;
    }
