use Rattle.std.proofs.Common.{◌≡◌, ◌≢◌, ℕ, ◌+◌, ◌*◌, ◌<◌, ◌≤◌, ◌⊎◌, true, Option, Some, List, get_or, bit_and, arith, sym, ap, ◌∙◌, inl, inr, refl}
use Rattle.std.specs.Int.{bit_at}
use Rattle.std.proofs.lemmas.Bool.Decides.{eqb_tells}
use Rattle.std.proofs.lemmas.List.{get_or-replicate}
use Rattle.std.proofs.lemmas.Nat.{and_comm, and_mask}
use Rattle.std.proofs.lemmas.Nat.Bits.{bit_at_and}
use Rattle.std.proofs.Math.Nat.{mod-eq_of_lt}
use Rattle.flash_model.specs.Torn.{ProgramMayLeave}
use Rattle.flash_model.specs.Operations.{Programs, MayProgram, Erases, MayErase}
use Rattle.ecc_flash.specs.Units.{IsEight}
use Rattle.ecc_flash.specs.Reading.{blank, is_word, check_of, slot_read}
use Rattle.ecc_flash.specs.Model.{WriteUnit, IsProgrammed, MayHold, MayBeErased, OneUnit, OnePageOfUnits}
use Rattle.ecc_flash.specs.Paired.{IsChecked, IsKept, AllKept, slot_in, image_of}
use Rattle.ecc_flash.proofs.Readings.{is_free, is_good, is_spoiled, reads_as, free_read, good_read, kept_meant, kept_eight, within_blank, within_spoiled, within_self, erased_kept, erased_slot, not_blank, some_is, word_is}
use Rattle.ecc_flash.proofs.Images.{slot_is, one_slot_image, one_page_image}

abbrev pub Others : (ℕ → ℕ → WriteUnit) → ℕ → ℕ → (ℕ → ℕ → WriteUnit) → Type 0
Others old p s new = (q u : ℕ) → (q ≡ p → u ≡ 2 * s → ⊥) → (q ≡ p → u ≡ 2 * s + 1 → ⊥) → new q u ≡ old q u

pub kept_others : (old new : ℕ → ℕ → WriteUnit) (n p s : ℕ) → AllKept old n → Others old p s new → IsKept (new p (2 * s)) (new p (2 * s + 1)) → AllKept new n
kept_others old new n p s k o here q t l m =
    elim (eqb_tells q p) [
      | inr apart ↦ rw (o q (2 * t) (λ e _. apart.1 e) (λ e _. apart.1 e), o q (2 * t + 1) (λ e _. apart.1 e) (λ e _. apart.1 e)) (k q t l m)
      | inl page ↦ elim (eqb_tells t s) [
        | inl slot ↦ rw (page.1, slot.1) here
        | inr apart ↦ (let no : t ≢ s = apart.1 in rw (o q (2 * t) (λ _ e. no (omega arith)) (λ _ e. omega arith), o q (2 * t + 1) (λ _ e. omega arith) (λ _ e. no (omega arith))) (k q t l m))
      ]
    ]

-- what a program may leave of a free slot
leaves_blank : (bytes y : List ℕ) → IsEight y → ((k i : ℕ) → bit_at (get_or bytes k 0) i ≤ bit_at (get_or y k 0) i) → ProgramMayLeave blank bytes y
leaves_blank bytes y e above = record {
  clears_only = within_blank y e;
  keeps = λ k i. omega (arith, bit_at_and (get_or blank k 0) (get_or bytes k 0) i, above k i);
}

pub leaves : (first second : WriteUnit) (bytes : List ℕ) → IsKept first second → IsEight bytes → is_word bytes ≡ true → (first.meant ≡ bytes) ⊎ (first.reads ≡ Some blank) → ProgramMayLeave blank bytes (slot_read first.reads second.reads)
leaves first second bytes k e w m =
    let e' = kept_eight first second k in
    leaves_blank bytes (slot_read first.reads second.reads) e'
    (elim (reads_as first.reads second.reads) [
      | is_free _ _ f ↦ rw f (within_blank bytes e).bits
      | is_good u fa fb v f ↦ rw f (elim m [
        | inl is ↦ (let same : u ≡ bytes = (kept_meant first second u k fa fb v).word ∙ is in rw same (within_self bytes).bits)
        | inr free ↦ absurd (not_blank u v (some_is _ _ (sym fa ∙ free)))
      ])
      | is_spoiled f ↦ rw f (within_spoiled bytes e (word_is bytes w).1).bits
    ])

-- both units of the slot were free, and others are as they were
pub record Writes (old : ℕ → ℕ → WriteUnit) (n p s : ℕ) (bytes : List ℕ) (new : ℕ → ℕ → WriteUnit) : Type 0 where
  pub page : p < n
  pub slot : s < 512
  pub kept : AllKept old n
  pub word : is_word bytes ≡ true
  pub eight : IsEight bytes
  pub first : (old p (2 * s)).reads ≡ Some blank
  pub second : (old p (2 * s + 1)).reads ≡ Some blank
  pub others : Others old p s new
  pub kept_there : IsKept (new p (2 * s)) (new p (2 * s + 1))

free_slot : (old new : ℕ → ℕ → WriteUnit) (n p s : ℕ) (bytes : List ℕ) → Writes old n p s bytes new → slot_in old p s ≡ blank
free_slot old new n p s bytes w = rw (w.first, w.second) free_read

pub may_program : (old new : ℕ → ℕ → WriteUnit) (n p s : ℕ) (bytes : List ℕ) → Writes old n p s bytes new → ((new p (2 * s)).meant ≡ bytes) ⊎ ((new p (2 * s)).reads ≡ Some blank) → MayProgram (image_of old n) p s bytes (image_of new n)
may_program old new n p s bytes w m = record {
  rest = one_slot_image old new n p s w.slot w.others;
  torn = rw (slot_is old n p s w.kept w.page w.slot, slot_is new n p s (kept_others old new n p s w.kept w.others w.kept_there) w.page w.slot, free_slot old new n p s bytes w)
      (leaves (new p (2 * s)) (new p (2 * s + 1)) bytes w.kept_there w.eight w.word m);
}

and_blank : (bytes : List ℕ) (k : ℕ) → IsEight bytes → k < 8 → get_or bytes k 0 ≡ bit_and (get_or blank k 0) (get_or bytes k 0)
unfolding blank
and_blank bytes k e l = rw (get_or-replicate {A = ℕ} 8 k 255 0 l) (sym (and_comm 255 (get_or bytes k 0) ∙ and_mask (get_or bytes k 0) 8 ∙ mod-eq_of_lt (e.each k)))

pub programs : (old new : ℕ → ℕ → WriteUnit) (n p s : ℕ) (bytes : List ℕ) → Writes old n p s bytes new → (new p (2 * s)).reads ≡ Some bytes → (new p (2 * s + 1)).reads ≡ Some (check_of bytes) → Programs (image_of old n) p s bytes (image_of new n)
programs old new n p s bytes w f g =
    let is : slot_in new p s ≡ bytes = rw (f, g) (good_read bytes w.word) in
    record {
      rest = one_slot_image old new n p s w.slot w.others;
      bytes = λ k l. rw (slot_is old n p s w.kept w.page w.slot, slot_is new n p s (kept_others old new n p s w.kept w.others w.kept_there) w.page w.slot, free_slot old new n p s bytes w, is) (and_blank bytes k w.eight l);
    }

-- a slot that is to be programmed: a word, and two units that are free
pub record IsAsked (old : ℕ → ℕ → WriteUnit) (n p s : ℕ) (bytes : List ℕ) : Type 0 where
  pub page : p < n
  pub slot : s < 512
  pub kept : AllKept old n
  pub word : is_word bytes ≡ true
  pub eight : IsEight bytes
  pub first : (old p (2 * s)).reads ≡ Some blank
  pub second : (old p (2 * s + 1)).reads ≡ Some blank

writes : (old new : ℕ → ℕ → WriteUnit) (n p s : ℕ) (bytes : List ℕ) → IsAsked old n p s bytes → Others old p s new → IsKept (new p (2 * s)) (new p (2 * s + 1)) → Writes old n p s bytes new
writes old new n p s bytes a o k = record { page = a.page; slot = a.slot; kept = a.kept; word = a.word; eight = a.eight; first = a.first; second = a.second; others = o; kept_there = k }

both_units : (old mid new : ℕ → ℕ → WriteUnit) (p s : ℕ) → OneUnit old p (2 * s) mid → OneUnit mid p (2 * s + 1) new → Others old p s new
both_units old mid new p s f g q u x y = g q u y ∙ f q u x

first_stays : (mid new : ℕ → ℕ → WriteUnit) (p s : ℕ) → OneUnit mid p (2 * s + 1) new → new p (2 * s) ≡ mid p (2 * s)
first_stays mid new p s g = g p (2 * s) (λ _ e. omega arith)

second_was : (old mid : ℕ → ℕ → WriteUnit) (p s : ℕ) → OneUnit old p (2 * s) mid → mid p (2 * s + 1) ≡ old p (2 * s + 1)
second_was old mid p s f = f p (2 * s + 1) (λ _ e. omega arith)

-- a unit that was blank and now reads as a word was programmed with it
pub took : (a a' : WriteUnit) (bytes : List ℕ) → a.reads ≡ Some blank → is_word bytes ≡ true → MayHold a bytes a' → a'.reads ≡ Some bytes → IsProgrammed bytes a'
took a a' bytes f w m r = elim m [
  | inl same ↦ absurd (not_blank bytes w (some_is _ _ (sym r ∙ ap (λ (v : WriteUnit). v.reads) same ∙ f)))
  | inr is ↦ is
]

-- the first unit was written, and the second may have been
checked : (bytes : List ℕ) (a b : WriteUnit) → is_word bytes ≡ true → IsEight bytes → IsProgrammed bytes a → IsProgrammed (check_of bytes) b → IsChecked a b
checked bytes a b w e h t = record {
  bytes = rw h.meant e;
  word = rw h.meant w;
  check = rw (h.meant, t.meant) refl;
  first_reads = rw h.meant h.reads;
  second_reads = rw t.meant t.reads;
}

pub both_written : (old mid new : ℕ → ℕ → WriteUnit) (n p s : ℕ) (bytes : List ℕ) → IsAsked old n p s bytes → OneUnit old p (2 * s) mid → IsProgrammed bytes (mid p (2 * s)) → OneUnit mid p (2 * s + 1) new → MayHold (mid p (2 * s + 1)) (check_of bytes) (new p (2 * s + 1)) → Writes old n p s bytes new
both_written old mid new n p s bytes a f h g t =
    writes old new n p s bytes a (both_units old mid new p s f g)
    (elim t [
      | inl same ↦ inr (inl (rw (same, second_was old mid p s f) a.second))
      | inr torn ↦ inr (inr (checked bytes (new p (2 * s)) (new p (2 * s + 1)) a.word a.eight (rw (first_stays mid new p s g) h) torn))
    ])

pub nothing_first : (old mid new : ℕ → ℕ → WriteUnit) (n p s : ℕ) (bytes : List ℕ) → IsAsked old n p s bytes → OneUnit old p (2 * s) mid → (mid p (2 * s)).reads ≡ Some blank → OneUnit mid p (2 * s + 1) new → Writes old n p s bytes new
nothing_first old mid new n p s bytes a f h g =
    writes old new n p s bytes a (both_units old mid new p s f g) (inl (rw (first_stays mid new p s g) h))

pub torn_first : (old new : ℕ → ℕ → WriteUnit) (n p s : ℕ) (bytes : List ℕ) → IsAsked old n p s bytes → OneUnit old p (2 * s) new → Writes old n p s bytes new
torn_first old new n p s bytes a f =
    writes old new n p s bytes a (λ q u x _. f q u x) (inr (inl (rw (second_was old new p s f) a.second)))

-- what each of the four leaves
pub kept_then : (old new : ℕ → ℕ → WriteUnit) (n p s : ℕ) (bytes : List ℕ) → Writes old n p s bytes new → AllKept new n
kept_then old new n p s bytes w = kept_others old new n p s w.kept w.others w.kept_there

pub meant_first : (mid new : ℕ → ℕ → WriteUnit) (p s : ℕ) (bytes : List ℕ) → IsProgrammed bytes (mid p (2 * s)) → OneUnit mid p (2 * s + 1) new → (new p (2 * s)).meant ≡ bytes
meant_first mid new p s bytes h g = rw (first_stays mid new p s g) h.meant

pub reads_first : (mid new : ℕ → ℕ → WriteUnit) (p s : ℕ) (r : Option (List ℕ)) → (mid p (2 * s)).reads ≡ r → OneUnit mid p (2 * s + 1) new → (new p (2 * s)).reads ≡ r
reads_first mid new p s r h g = rw (first_stays mid new p s g) h

pub meant_or_free : (a a' : WriteUnit) (bytes : List ℕ) → a.reads ≡ Some blank → MayHold a bytes a' → (a'.meant ≡ bytes) ⊎ (a'.reads ≡ Some blank)
meant_or_free a a' bytes f m = elim m [ inl same ↦ inr (rw same f) | inr torn ↦ inl torn.meant ]

-- an erase
pub torn_all : (old new : ℕ → ℕ → WriteUnit) (n p : ℕ) → AllKept old n → ((u : ℕ) → u < 1024 → MayBeErased (old p u) (new p u)) → OnePageOfUnits old p new → AllKept new n
torn_all old new n p k h o q t l m =
    elim (eqb_tells q p) [
      | inr apart ↦ rw (o q (2 * t) apart.1, o q (2 * t + 1) apart.1) (k q t l m)
      | inl page ↦ rw page.1 (erased_kept (old p (2 * t)) (old p (2 * t + 1)) (new p (2 * t)) (new p (2 * t + 1)) (k p t (rw (← page.1) l) m) (h (2 * t) (omega arith)) (h (2 * t + 1) (omega arith)))
    ]

pub may_erase : (old new : ℕ → ℕ → WriteUnit) (n p : ℕ) → p < n → AllKept old n → ((u : ℕ) → u < 1024 → MayBeErased (old p u) (new p u)) → OnePageOfUnits old p new → MayErase (image_of old n) p (image_of new n)
may_erase old new n p l k h o = record {
  rest = one_page_image old new n p o;
  torn = λ s m. rw (slot_is old n p s k l m, slot_is new n p s (torn_all old new n p k h o) l m)
      (erased_slot (old p (2 * s)) (old p (2 * s + 1)) (new p (2 * s)) (new p (2 * s + 1)) (k p s l m) (h (2 * s) (omega arith)) (h (2 * s + 1) (omega arith)));
}

pub erases : (old new : ℕ → ℕ → WriteUnit) (n p : ℕ) → p < n → AllKept old n → ((u : ℕ) → u < 1024 → MayBeErased (old p u) (new p u)) → OnePageOfUnits old p new → ((u : ℕ) → u < 1024 → (new p u).reads ≡ Some blank) → Erases (image_of old n) p (image_of new n)
unfolding blank
erases old new n p l k h o r = record {
  rest = one_page_image old new n p o;
  blank = λ s m. slot_is new n p s (torn_all old new n p k h o) l m ∙ rw (r (2 * s) (omega arith), r (2 * s + 1) (omega arith)) free_read;
}
