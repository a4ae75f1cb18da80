use Rattle.std.proofs.Common.{◌≡◌, ℕ, ◌+◌, ◌<◌, Option, None, Some, List, get_or, length, replicate, arith, sym, ◌∙◌, subst, ap, inl, inr, refl}
use Rattle.std.proofs.lemmas.Nat.Bits.{bit_at_ones, bit_at-lt, bit_at-zero, same_from_bits_below}
use Rattle.std.proofs.lemmas.Bool.{cases_lt}
use Rattle.std.proofs.lemmas.List.{get_or_past, get_or-replicate, get_or_append_left, length-replicate, replicate-append-replicate}
use Rattle.std.proofs.lemmas.Grind.{same_number_lists}
use Rattle.flash_model.specs.Torn.{Within}
use Rattle.ecc_flash.specs.Units.{IsEight, Lacks}
use Rattle.ecc_flash.specs.Reading.{blank}
use Rattle.ecc_flash.specs.Model.{WriteUnit, MayRead, IsProgrammed, MayBeErased}
use Rattle.ecc_flash.specs.Cells.{IsNear, IsCode, HasCells, ReadsCells, ProgramsCells, ErasesCells, code_word}
use Rattle.ecc_flash.proofs.Readings.{blank_eight}

near_self : (cells : List ℕ) → IsNear cells cells
near_self cells = record { same_length = refl; byte = 0; bit = 0; rest = λ k i _. refl }

-- cells read as one thing
pub reads_one : (size : ℕ) (check : List ℕ → List ℕ) (cells : List ℕ) (read again : Option (List ℕ)) → IsCode size check → ReadsCells check cells read → ReadsCells check cells again → read ≡ again
reads_one size check cells None None c r s = refl
reads_one size check cells None (Some b) c r s = let n = r b s.0 s.1 in absurd (n.1 (s.2 n.0))
reads_one size check cells (Some a) None c r s = let n = s a r.0 r.1 in absurd (n.1 (r.2 n.0))
reads_one size check cells (Some a) (Some b) c r s = ap Some (c.apart a b cells r.0 s.0 r.1 s.1)

-- the cells of a word read as its bytes
pub reads_word : (check : List ℕ → List ℕ) (bytes : List ℕ) → IsEight bytes → ReadsCells check (code_word check bytes) (Some bytes)
reads_word check bytes e = (e, near_self (code_word check bytes), λ h. ap (code_word check) h)

-- a word reads with each bit that is set in it, but for one
lacks : (check : List ℕ → List ℕ) (meant read cells : List ℕ) → IsEight meant → IsEight read → Within (code_word check meant) cells → (n : IsNear (code_word check read) cells) → Lacks meant read
lacks check meant read cells em er w n = record {
  byte = n.byte;
  bit = n.bit;
  others = λ k i apart. elim (cases_lt k 8) [
    | inl b ↦ (let s = n.rest k i apart in
        let t = w.bits k i in
        let u : get_or (code_word check meant) k 0 ≡ get_or meant k 0 = get_or_append_left meant (check meant) 0 k (rw em.eight b) in
        let v : get_or (code_word check read) k 0 ≡ get_or read k 0 = get_or_append_left read (check read) 0 k (rw er.eight b) in
        let s' = rw v at s in
        let t' = rw u at t in
        omega (arith, s', t'))
    | inr b ↦ (let u : get_or meant k 0 ≡ 0 = get_or_past {X = ℕ} meant k 0 (rw em.eight b) in rw u (omega (arith, bit_at-zero i)))
  ];
}

may_read : (check : List ℕ → List ℕ) (meant cells : List ℕ) (read : Option (List ℕ)) → IsEight meant → Within (code_word check meant) cells → ReadsCells check cells read → MayRead meant read
may_read check meant cells None e w r = tt
may_read check meant cells (Some read) e w r = (r.0, lacks check meant read cells e r.0 w r.1)

-- between a word and cells that are near to it
near_between : (word before after : List ℕ) → Within word before → Within before after → IsNear word after → IsNear word before
near_between word before after w v n = record {
  same_length = sym w.same_length;
  byte = n.byte;
  bit = n.bit;
  rest = λ k i apart. let a = n.rest k i apart in let b = w.bits k i in let c = v.bits k i in omega (arith, a, b, c);
}

-- where all cells are to be set, they are
word_of_blank : (size : ℕ) (check : List ℕ → List ℕ) → IsCode size check → code_word check blank ≡ replicate {A = ℕ} (8 + size) 255
unfolding blank
word_of_blank size check c = rw c.of_blank (replicate-append-replicate {A = ℕ} 8 size 255)

all_set : (size : ℕ) (check : List ℕ → List ℕ) (cells : List ℕ) → IsCode size check → Within (code_word check blank) cells → ((k : ℕ) → get_or cells k 0 < 256) → cells ≡ code_word check blank
all_set size check cells c w below =
    let is = word_of_blank size check c in
    let w' : Within (replicate {A = ℕ} (8 + size) 255) cells = subst (λ v. Within v cells) is w in
    let n : length (replicate {A = ℕ} (8 + size) 255) ≡ 8 + size = length-replicate {A = ℕ} (8 + size) 255 in
    same_number_lists cells (replicate {A = ℕ} (8 + size) 255) (sym w'.same_length)
    (λ k l.
    let there : k < 8 + size = omega (arith, w'.same_length, n) in
    let at = get_or-replicate {A = ℕ} (8 + size) k 255 0 there in
    rw at (same_from_bits_below 8 _ _ (below k) (omega arith) (λ i m. let b = w'.bits k i in let b' = rw at at b in omega (arith, b', bit_at_ones 8 i m, bit_at-lt (get_or cells k 0) i))))
    ∙ sym is

pub programmed : (size : ℕ) (check : List ℕ → List ℕ) (bytes cells : List ℕ) (new : WriteUnit) → IsCode size check → IsEight bytes → ProgramsCells check bytes cells → new.meant ≡ bytes → ReadsCells check cells new.reads → IsProgrammed bytes new
programmed size check bytes cells new c e p m r = record { meant = m; reads = may_read check bytes cells new.reads e p.set r }

pub programmed_cells : (check : List ℕ → List ℕ) (bytes cells : List ℕ) (new : WriteUnit) → IsEight bytes → ProgramsCells check bytes cells → new.meant ≡ bytes → ReadsCells check cells new.reads → HasCells check new cells
programmed_cells check bytes cells new e p m r = record { eight = rw m e; set = rw m p.set; bytes = p.bytes; reads = r }

within_trans : (a b c : List ℕ) → Within a b → Within b c → Within a c
within_trans a b c u v = record { same_length = u.same_length ∙ v.same_length; bits = λ k i. let x = u.bits k i in let y = v.bits k i in omega (arith, x, y) }

pub erased_cells : (check : List ℕ → List ℕ) (old new : WriteUnit) (before after : List ℕ) → HasCells check old before → ErasesCells before after → new.meant ≡ old.meant → ReadsCells check after new.reads → HasCells check new after
erased_cells check old new before after h e m r = record { eight = rw m h.eight; set = rw m (within_trans _ before after h.set e.set); bytes = e.bytes; reads = r }

-- near to what was meant after an erase: so it was before
was_meant : (size : ℕ) (check : List ℕ → List ℕ) (old : WriteUnit) (before after : List ℕ) → IsCode size check → HasCells check old before → Within before after → ReadsCells check after (Some old.meant) → old.reads ≡ Some old.meant
was_meant size check old before after c h e r =
    reads_one size check before old.reads (Some old.meant) c h.reads (h.eight, near_between _ before after h.set e r.1, λ b. all_set size check before c (subst (λ m. Within (code_word check m) before) b h.set) h.bytes)

-- each cell was set: so it is after an erase
stays_blank : (size : ℕ) (check : List ℕ → List ℕ) (old : WriteUnit) (before after : List ℕ) → IsCode size check → HasCells check old before → ErasesCells before after → ReadsCells check before (Some blank) → after ≡ code_word check blank
stays_blank size check old before after c h e r = all_set size check after c (rw (← r.2 refl) e.set) e.bytes

pub erased : (size : ℕ) (check : List ℕ → List ℕ) (old new : WriteUnit) (before after : List ℕ) → IsCode size check → HasCells check old before → ErasesCells before after → new.meant ≡ old.meant → ReadsCells check after new.reads → MayBeErased old new
erased size check old new before after c h e m r = record {
  meant = m;
  reads = λ _. may_read check old.meant after new.reads h.eight (within_trans _ before after h.set e.set) r;
  never_mended = λ is. was_meant size check old before after c h e.set (subst (ReadsCells check after) is r);
  still_blank = λ is. reads_one size check after new.reads (Some blank) c r (rw (stays_blank size check old before after c h e (subst (ReadsCells check before) is h.reads)) (reads_word check blank blank_eight));
}
