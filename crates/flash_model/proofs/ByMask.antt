use Rattle.std.proofs.Common.{◌≡◌, ℕ, ◌+◌, ◌*◌, ◌<◌, ◌≤◌, List, length, get_or, map, take, drop, arith, sym, ◌∙◌, bit_and, bit_or, inl, inr, refl, ◌==◌, false, length-take, length-drop}
use Rattle.std.specs.Int.{bit_at, bit_not, w8}
use Rattle.std.proofs.lemmas.List.{get_or-take, get_or-drop, get_or_past, get_or-map, get_or-replicate, length-map}
use Rattle.std.proofs.lemmas.Nat.Bits.{bit_at_and, bit_at_or, bit_at-lt, bit_at-zero, bit_at_ones, bit_at_above, same_from_bits}
use Rattle.std.proofs.Math.Nat.{mod-eq_of_lt}
use Rattle.std.proofs.lemmas.Bool.{cases_lt, ne_eqb}
use Rattle.std.proofs.lemmas.Bool.Decides.{eqb_tells}
use Rattle.flash_model.specs.Image.{place_of, slot_at, page_count, IsImage}
use Rattle.flash_model.specs.ByMask.{IsMask, mask_byte, ProgramsByMask, ErasesByMask}
use Rattle.flash_model.specs.Operations.{OneSlot, Programs, MayProgram, Erases, MayErase}
use Rattle.flash_model.proofs.Places.{same_slot, same_images, slot_byte, slot_room, slot_past, slot_length, slot_bytes}
use Rattle.flash_model.proofs.Writes.{one_slot, one_page}

-- what the loop of a torn program leaves
pub record ClearedByMask (old : List ℕ) (at : ℕ) (with mask new : List ℕ) : Type 0 where
  pub same_length : length new ≡ length old
  pub changed : (k : ℕ) → k < 8 → get_or new (at + k) 0 ≡ bit_and (get_or old (at + k) 0) (bit_or (get_or with k 0) (bit_not w8 (mask_byte mask k)))
  pub kept : (j : ℕ) → (at ≤ j → j < at + 8 → ⊥) → get_or new j 0 ≡ get_or old j 0

pub programs_by_mask : (old : List ℕ) (p s : ℕ) (with mask new : List ℕ) → s < 512 → ClearedByMask old (place_of p s) with mask new → ProgramsByMask old p s with mask new
programs_by_mask old p s with mask new l c = record {
  rest = one_slot old new p s l c.same_length c.kept;
  bytes = λ k b. slot_byte new p s k b ∙ c.changed k b ∙ rw (slot_byte old p s k b) refl;
}

-- what the loop of a torn erase leaves
pub record SetByMask (old : List ℕ) (at : ℕ) (mask new : List ℕ) : Type 0 where
  pub same_length : length new ≡ length old
  pub changed : (k : ℕ) → k < 4096 → get_or new (at + k) 0 ≡ bit_or (get_or old (at + k) 0) (mask_byte mask k)
  pub kept : (j : ℕ) → (at ≤ j → j < at + 4096 → ⊥) → get_or new j 0 ≡ get_or old j 0

pub erases_by_mask : (old : List ℕ) (p : ℕ) (mask new : List ℕ) → SetByMask old (4096 * p) mask new → ErasesByMask old p mask new
erases_by_mask old p mask new c = record {
  rest = one_page old new p c.same_length c.kept;
  bytes = λ s k l b. let f : place_of p s + k ≡ 4096 * p + (8 * s + k) = omega arith in
      rw (slot_byte new p s k b, slot_byte old p s k b, f) (c.changed (8 * s + k) (omega arith));
}

-- x AND a byte that has the bits of w lies between x AND w, and x
and_between : (x w n i : ℕ) → (bit_at (bit_and x (bit_or w n)) i ≤ bit_at x i) × (bit_at (bit_and x w) i ≤ bit_at (bit_and x (bit_or w n)) i)
and_between x w n i =
    let a = bit_at_and x (bit_or w n) i in
    let b = bit_at_or w n i in
    let c = bit_at_and x w i in
    (omega arith, omega arith)

or_above : (x m i : ℕ) → bit_at x i ≤ bit_at (bit_or x m) i
or_above x m i = let a = bit_at_or x m i in omega arith

same_room : (old new : List ℕ) (p s : ℕ) → length new ≡ length old → length (slot_at new p s) ≡ length (slot_at old p s)
same_room old new p s e = let a = slot_room old p s in let b = slot_room new p s in omega arith

-- what a mask leaves is a torn outcome
pub may_program : (old : List ℕ) (p s : ℕ) (with mask new : List ℕ) → ProgramsByMask old p s with mask new → MayProgram old p s with new
may_program old p s with mask new m = record {
  rest = m.rest;
  torn = record {
    clears_only = record {
      same_length = same_room old new p s m.rest.same_length;
      bits = λ k i. elim (cases_lt k 8) [
        | inl b ↦ rw (m.bytes k b) (and_between (get_or (slot_at old p s) k 0) (get_or with k 0) (bit_not w8 (mask_byte mask k)) i).0
        | inr b ↦ rw (slot_past new p s k b) (omega (arith, bit_at-zero i))
      ];
    };
    keeps = λ k i. elim (cases_lt k 8) [
      | inl b ↦ rw (m.bytes k b) (and_between (get_or (slot_at old p s) k 0) (get_or with k 0) (bit_not w8 (mask_byte mask k)) i).1
      | inr b ↦ rw (slot_past old p s k b) (omega (arith, bit_at-zero i))
    ];
  };
}

pub may_erase : (old : List ℕ) (p : ℕ) (mask new : List ℕ) → ErasesByMask old p mask new → MayErase old p new
may_erase old p mask new m = record {
  rest = m.rest;
  torn = λ s l. record {
    same_length = sym (same_room old new p s m.rest.same_length);
    bits = λ k i. elim (cases_lt k 8) [
      | inl b ↦ rw (m.bytes s k l b) (or_above (get_or (slot_at old p s) k 0) (mask_byte mask (8 * s + k)) i)
      | inr b ↦ rw (slot_past old p s k b) (omega (arith, bit_at-zero i))
    ];
  };
}

-- a mask that is as long as the operation
within_mask : (mask : List ℕ) (i : ℕ) → i < length mask → mask_byte mask i ≡ get_or mask i 0
within_mask mask i l =
    let n : (length mask == 0) ≡ false = ne_eqb (length mask) 0 (λ e. omega arith) in
    rw (n, mod-eq_of_lt l) refl

-- y by its own complement as the mask, where y is a torn outcome of x AND w
program_byte : (x w y : ℕ) → ((i : ℕ) → bit_at y i ≤ bit_at x i) → ((i : ℕ) → bit_at (bit_and x w) i ≤ bit_at y i) → bit_and x (bit_or w y) ≡ y
program_byte x w y below above =
    same_from_bits (bit_and x (bit_or w y)) y (λ i. omega (arith, bit_at_and x (bit_or w y) i, bit_at_or w y i, bit_at_and x w i, below i, above i, bit_at-lt y i, bit_at-lt x i, bit_at-lt w i))

-- and by itself, where it is one of an erase of x
erase_byte : (x y : ℕ) → ((i : ℕ) → bit_at x i ≤ bit_at y i) → bit_or x y ≡ y
erase_byte x y above = same_from_bits (bit_or x y) y (λ i. omega (arith, bit_at_or x y i, above i))

-- the complement of what is left is a mask that leaves it
pub program_mask : (old new : List ℕ) (p s : ℕ) (with : List ℕ) → IsImage old → IsImage new → p < page_count old → s < 512 → MayProgram old p s with new → (mask : List ℕ) × (IsMask mask × ProgramsByMask old p s with mask new)
program_mask old new p s with io inew l m t =
    let y = slot_at new p s in
    let eight : length y ≡ 8 = t.torn.clears_only.same_length ∙ slot_length old p s io l m in
    let mask : List ℕ = map (bit_not w8) y in
    let long : length mask ≡ 8 = length-map y (bit_not w8) ∙ eight in
    let is : (k : ℕ) → k < 8 → get_or mask k 0 ≡ bit_not w8 (get_or y k 0) = λ k b. get_or-map (bit_not w8) y k 0 0 (omega (arith, eight)) in (
      mask,
      (
        record {
          most = omega (arith, long);
          bytes = λ k. elim (cases_lt k 8) [
            | inl b ↦ rw (is k b) (omega arith)
            | inr b ↦ rw (get_or_past {X = ℕ} mask k 0 (rw long b)) (omega arith)
          ];
        },
        record {
          rest = t.rest;
          bytes = λ k b. let e : mask_byte mask k ≡ bit_not w8 (get_or y k 0) = within_mask mask k (omega (arith, long)) ∙ is k b in
              let f : bit_not w8 (mask_byte mask k) ≡ get_or y k 0 = rw e (omega (arith, slot_bytes new p s inew k)) in
              rw f (sym (program_byte (get_or (slot_at old p s) k 0) (get_or with k 0) (get_or y k 0) (t.torn.clears_only.bits k) (t.torn.keeps k)));
        },
      ),
    )

-- what is left is a mask that leaves it
pub erase_mask : (old new : List ℕ) (p : ℕ) → IsImage old → IsImage new → p < page_count old → MayErase old p new → (mask : List ℕ) × (IsMask mask × ErasesByMask old p mask new)
erase_mask old new p io inew l t =
    let mask : List ℕ = take 4096 (drop (4096 * p) new) in
    let w : length new ≡ 4096 * page_count new = inew.whole in
    let v : length new ≡ length old = t.rest.same_length in
    let long : length mask ≡ 4096 = length-take 4096 (drop (4096 * p) new) ∙ omega (arith, length-drop (4096 * p) new, io.whole) in
    let is : (j : ℕ) → j < 4096 → get_or mask j 0 ≡ get_or new (4096 * p + j) 0 = λ j b. get_or-take 4096 (drop (4096 * p) new) j 0 b ∙ get_or-drop (4096 * p) new j 0 in (
      mask,
      (
        record {
          most = omega (arith, long);
          bytes = λ k. elim (cases_lt k 4096) [
            | inl b ↦ rw (is k b) (inew.bytes (4096 * p + k))
            | inr b ↦ rw (get_or_past {X = ℕ} mask k 0 (rw long b)) (omega arith)
          ];
        },
        record {
          rest = t.rest;
          bytes = λ s k h b. let at : 4096 * p + (8 * s + k) ≡ place_of p s + k = omega arith in
              let e : mask_byte mask (8 * s + k) ≡ get_or (slot_at new p s) k 0 = within_mask mask (8 * s + k) (omega (arith, long)) ∙ is (8 * s + k) (omega arith) ∙ rw at (sym (slot_byte new p s k b)) in
              rw e (sym (erase_byte (get_or (slot_at old p s) k 0) (get_or (slot_at new p s) k 0) ((t.torn s h).bits k)));
        },
      ),
    )

-- no byte has a bit that FFh has not
pub byte_bits : (x i : ℕ) → x < 256 → bit_at x i ≤ bit_at 255 i
byte_bits x i l =
    elim (cases_lt i 8) [
      | inl b ↦ omega (arith, bit_at_ones 8 i b, bit_at-lt x i)
      | inr b ↦ omega (arith, bit_at_above x 8 i (omega arith) b)
    ]

-- slots of eight equal bytes each
same_eight : (new other : List ℕ) (p s : ℕ) → length other ≡ length new → ((k : ℕ) → k < 8 → get_or (slot_at other p s) k 0 ≡ get_or (slot_at new p s) k 0) → slot_at other p s ≡ slot_at new p s
same_eight new other p s e h = same_slot new other p s e (λ k b. sym (slot_byte other p s k b) ∙ h k b ∙ slot_byte new p s k b)

-- a mask has one outcome
pub one_program : (old new other : List ℕ) (p s : ℕ) (with mask : List ℕ) → ProgramsByMask old p s with mask new → ProgramsByMask old p s with mask other → other ≡ new
one_program old new other p s with mask m n =
    let e : length other ≡ length new = n.rest.same_length ∙ sym m.rest.same_length in
    same_images new other e (λ q t l.
    elim (eqb_tells q p) [
      | inl same_page ↦ elim (eqb_tells t s) [
        | inl same ↦ rw (same_page.1, same.1) (same_eight new other p s e (λ k b. n.bytes k b ∙ sym (m.bytes k b)))
        | inr apart ↦ n.rest.others q t l (λ _ f. apart.1 f) ∙ sym (m.rest.others q t l (λ _ f. apart.1 f))
      ]
      | inr apart ↦ n.rest.others q t l (λ f _. apart.1 f) ∙ sym (m.rest.others q t l (λ f _. apart.1 f))
    ])

pub one_erase : (old new other : List ℕ) (p : ℕ) (mask : List ℕ) → ErasesByMask old p mask new → ErasesByMask old p mask other → other ≡ new
one_erase old new other p mask m n =
    let e : length other ≡ length new = n.rest.same_length ∙ sym m.rest.same_length in
    same_images new other e (λ q t l.
    elim (eqb_tells q p) [
      | inl same ↦ rw same.1 (same_eight new other p t e (λ k b. n.bytes t k l b ∙ sym (m.bytes t k l b)))
      | inr apart ↦ n.rest.others q t l apart.1 ∙ sym (m.rest.others q t l apart.1)
    ])

-- a whole operation is a torn one of which nothing is missing
pub whole_program : (old : List ℕ) (p s : ℕ) (with new : List ℕ) → Programs old p s with new → MayProgram old p s with new
whole_program old p s with new w = record {
  rest = w.rest;
  torn = record {
    clears_only = record {
      same_length = same_room old new p s w.rest.same_length;
      bits = λ k i. elim (cases_lt k 8) [
        | inl b ↦ rw (w.bytes k b) (omega (arith, bit_at_and (get_or (slot_at old p s) k 0) (get_or with k 0) i))
        | inr b ↦ rw (slot_past new p s k b) (omega (arith, bit_at-zero i))
      ];
    };
    keeps = λ k i. elim (cases_lt k 8) [
      | inl b ↦ rw (w.bytes k b) (omega arith)
      | inr b ↦ rw (slot_past old p s k b) (omega (arith, bit_at-zero i))
    ];
  };
}

pub whole_erase : (old : List ℕ) (p : ℕ) (new : List ℕ) → IsImage old → Erases old p new → MayErase old p new
whole_erase old p new io w = record {
  rest = w.rest;
  torn = λ s l. record {
    same_length = sym (same_room old new p s w.rest.same_length);
    bits = λ k i. elim (cases_lt k 8) [
      | inl b ↦ (let f : bit_at (get_or (slot_at old p s) k 0) i ≤ bit_at 255 i = byte_bits (get_or (slot_at old p s) k 0) i (slot_bytes old p s io k) in rw (w.blank s l, get_or-replicate {A = ℕ} 8 k 255 0 b) f)
      | inr b ↦ rw (slot_past old p s k b) (omega (arith, bit_at-zero i))
    ];
  };
}

-- and none at all is one of which everything is missing
same_slots : (old : List ℕ) (p s : ℕ) → OneSlot old p s old
same_slots old p s = record { same_length = refl; others = λ q t l apart. refl }

pub no_program : (old : List ℕ) (p s : ℕ) (with : List ℕ) → MayProgram old p s with old
no_program old p s with = record {
  rest = same_slots old p s;
  torn = record {
    clears_only = record { same_length = refl; bits = λ k i. omega arith };
    keeps = λ k i. omega (arith, bit_at_and (get_or (slot_at old p s) k 0) (get_or with k 0) i);
  };
}

pub no_erase : (old : List ℕ) (p : ℕ) → MayErase old p old
no_erase old p = record {
  rest = record { same_length = refl; others = λ q t l apart. refl };
  torn = λ s l. record { same_length = refl; bits = λ k i. omega arith };
}
