use Rattle.std.proofs.Common.{◌≡◌, ℕ, ◌+◌, ◌*◌, ◌<◌, ◌≤◌, List, length, get_or, arith, sym, ◌∙◌, bit_and, replicate, take, drop, ◌++◌}
use Rattle.std.proofs.lemmas.List.{get_or-replicate, length-replicate}
use Rattle.std.proofs.lemmas.Grind.{same_number_lists, common_steps}
use Rattle.flash_model.specs.Image.{place_of, slot_at, page_count, IsImage}
use Rattle.flash_model.specs.Operations.{OneSlot, OnePage, Programs, Erases}
use Rattle.flash_model.proofs.Places.{slot_byte, slot_room, same_slot}

-- a write of the eight bytes from a slot's place on leaves each other slot
pub one_slot : (old new : List ℕ) (p s : ℕ) → s < 512 → length new ≡ length old → ((j : ℕ) → (place_of p s ≤ j → j < place_of p s + 8 → ⊥) → get_or new j 0 ≡ get_or old j 0) → OneSlot old p s new
one_slot old new p s l e kept = record {
  same_length = e;
  others = λ q t m apart. same_slot old new q t e (λ k h. kept (place_of q t + k) (λ low high. apart (omega arith) (omega arith)));
}

-- and a write of the bytes of a page each other page
pub one_page : (old new : List ℕ) (p : ℕ) → length new ≡ length old → ((j : ℕ) → (4096 * p ≤ j → j < 4096 * p + 4096 → ⊥) → get_or new j 0 ≡ get_or old j 0) → OnePage old p new
one_page old new p e kept = record {
  same_length = e;
  others = λ q t m apart. same_slot old new q t e (λ k h. kept (place_of q t + k) (λ low high. apart (omega arith)));
}

-- what the loop of a program leaves
pub record Cleared (old : List ℕ) (at : ℕ) (with new : List ℕ) : Type 0 where
  pub same_length : length new ≡ length old
  pub changed : (k : ℕ) → k < 8 → get_or new (at + k) 0 ≡ bit_and (get_or old (at + k) 0) (get_or with k 0)
  pub kept : (j : ℕ) → (at ≤ j → j < at + 8 → ⊥) → get_or new j 0 ≡ get_or old j 0

pub programs : (old : List ℕ) (p s : ℕ) (with new : List ℕ) → s < 512 → Cleared old (place_of p s) with new → Programs old p s with new
programs old p s with new l c = record {
  rest = one_slot old new p s l c.same_length c.kept;
  bytes = λ k b. slot_byte new p s k b ∙ c.changed k b ∙ rw (slot_byte old p s k b);
}

-- what the loop of an erase leaves
pub record Filled (old : List ℕ) (at : ℕ) (new : List ℕ) : Type 0 where
  pub same_length : length new ≡ length old
  pub changed : (k : ℕ) → k < 4096 → get_or new (at + k) 0 ≡ 255
  pub kept : (j : ℕ) → (at ≤ j → j < at + 4096 → ⊥) → get_or new j 0 ≡ get_or old j 0

pub erases : (old : List ℕ) (p : ℕ) (new : List ℕ) → p < page_count old → Filled old (4096 * p) new → Erases old p new
erases old p new q c = record {
  rest = one_page old new p c.same_length c.kept;
  blank = λ s l. let z = slot_room new p s in let e = c.same_length in
      same_number_lists (slot_at new p s) (replicate 8 255) (omega (arith, length-replicate {A = ℕ} 8 255))
      (λ k h. let b : k < 8 = omega arith in
      let f : place_of p s + k ≡ 4096 * p + (8 * s + k) = omega arith in
      rw (slot_byte new p s k b, f, c.changed (8 * s + k) (omega arith)) (sym (get_or-replicate {A = ℕ} 8 k 255 0 b)));
}

-- a vector that was written through its slice
pub written_back : (n : ℕ) (xs ys : List ℕ) → length xs ≡ n → take n (xs ++ drop (length xs) ys) ≡ xs
written_back n xs ys e = grind (arith, common_steps)

-- 2 to 8 whole pages
pub record IsWhole (image : List ℕ) : Type 0 where
  pub whole : length image ≡ 4096 * page_count image
  pub least : 2 ≤ page_count image
  pub most : page_count image ≤ 8

pub written_image : (n : ℕ) (old new : List ℕ) → IsWhole old → length new ≡ length old → length old ≡ n → ((k : ℕ) → get_or new k 0 < 256) → IsImage (take n (new ++ drop (length new) old))
written_image n old new w e f b = rw (written_back n new old (e ∙ f)) (record { whole = rw e w.whole; least = rw e w.least; most = rw e w.most; bytes = b })
