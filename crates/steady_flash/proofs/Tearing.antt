-- What a torn program reads as.
use Rattle.std.proofs.Common.{◌≡◌, ℕ, ◌%◌, ◌<◌, ◌≤◌, List, length, get_or, bit_and, arith, sym, ◌∙◌, inl, inr}
use Rattle.std.specs.Int.{bit_at}
use Rattle.std.proofs.lemmas.List.{get_or_past, get_or-replicate, length-replicate}
use Rattle.std.proofs.lemmas.Nat.{and_comm, and_mask}
use Rattle.std.proofs.lemmas.Nat.Bits.{bit_at_and, bit_at-lt}
use Rattle.std.proofs.lemmas.Bool.{cases_lt}
use Rattle.std.proofs.lemmas.Bool.Decides.{eqb_tells}
use Rattle.flash_model.specs.Torn.{Within, ProgramMayLeave}
use Rattle.flash_model.specs.Operations.{MayProgram}
use Rattle.steady_flash.specs.Cells.{IsEight, Written, IsReading, MayBeProgrammed, blank, erased}
use Rattle.steady_flash.specs.Marked.{Size, OnePlace}
use Rattle.steady_flash.specs.Layout.{held_at, IsLaidOut}
use Rattle.steady_flash.specs.Moves.{Holds, IsTorn}
use Rattle.steady_flash.specs.Shown.{shown, image_of, IsSettled, IsReadImage}
use Rattle.steady_flash.specs.Claims.{IsOpenTold}
use Rattle.steady_flash.specs.declared.layout.Layout.{Layout}
use Rattle.steady_flash.proofs.Cells.{one_reading, torn_erased, torn_again, same_byte}
use Rattle.steady_flash.proofs.Images.{slot_at-bytes_of, one_slot_of, same_image}

-- what has no bit beside those of eight bytes FFh is eight bytes
small : (x : ℕ) → ((i : ℕ) → bit_at x i ≤ bit_at 255 i) → x < 256
small x h =
    let e : bit_and 255 x ≡ x = same_byte 255 x h in
    let f : bit_and 255 x ≡ x % 256 = and_comm 255 x ∙ and_mask x 8 in
    omega (arith, sym e ∙ f)

eight_within : (read : List ℕ) → Within read blank → IsEight read
eight_within read w =
    let l : length read ≡ 8 = w.same_length ∙ length-replicate {A = ℕ} 8 255 in
    record {
      eight = l;
      each = λ k. elim (cases_lt k 8) [
        | inl b ↦ small (get_or read k 0) (λ i. rw (get_or-replicate {A = ℕ} 8 k 255 0 b) at (w.bits k i))
        | inr b ↦ rw (get_or_past {X = ℕ} read k 0 (rw l b)) (omega arith)
      ];
    }

torn_read : (bytes : List ℕ) (place : Written) (read : List ℕ) → Within place.cells.most blank → IsTorn bytes place → IsReading place.cells read → ProgramMayLeave blank bytes read
torn_read bytes place read w t r = record {
  clears_only = record { same_length = r.clear.same_length ∙ w.same_length; bits = λ k i. omega (arith, r.clear.bits k i, w.bits k i) };
  keeps = λ k i. omega (arith, bit_at_and (get_or blank k 0) (get_or bytes k 0) i, t.least.bits k i, r.set.bits k i, bit_at-lt (get_or bytes k 0) i, bit_at-lt (get_or blank k 0) i);
}

torn_into_erased : (bytes : List ℕ) (old new : Written) (read : List ℕ) → IsEight bytes → old ≡ erased → MayBeProgrammed old bytes new → IsReading new.cells read → ProgramMayLeave blank bytes read
torn_into_erased bytes old new read e free m r =
    let from = rw free at m in
    torn_read bytes new read from.most.clears_only (torn_again bytes erased new (torn_erased bytes e) from) r

reading_as : (old new : Written) (bytes read : List ℕ) → new ≡ old → Holds old bytes → IsReading new.cells read → read ≡ bytes
reading_as old new bytes read e h r = one_reading old bytes read h (rw e at r)

pub torn_program : (size : Size) (old new : ℕ → ℕ → Written) (layout : Layout) (page slot : ℕ) (bytes image : List ℕ) → IsLaidOut size layout → IsSettled old layout → page < layout.pages → slot < 512 → IsEight bytes → shown old layout page slot ≡ blank
    → OnePlace old (held_at layout.held page).page slot new → MayBeProgrammed (old (held_at layout.held page).page slot) bytes (new (held_at layout.held page).page slot)
    → IsReadImage new layout image → MayProgram (image_of old layout) page slot bytes image
torn_program size old new layout page slot bytes image l settled b t eight free others torn k =
    let was : Holds (old (held_at layout.held page).page slot) (shown old layout page slot) = settled page slot b t in
    let leaves : ProgramMayLeave blank bytes (k.read page slot) = torn_into_erased bytes (old (held_at layout.held page).page slot) (new (held_at layout.held page).page slot) (k.read page slot) eight (was.erased_if_blank free) torn (k.reads page slot b t) in
    let read_eight : IsEight (k.read page slot) = eight_within (k.read page slot) leaves.clears_only in
    rw k.is_of (record {
      rest = one_slot_of (shown old layout) k.read layout.pages page slot t (λ q s c d apart. reading_as (old (held_at layout.held q).page s) (new (held_at layout.held q).page s) (shown old layout q s) (k.read q s) (others (held_at layout.held q).page s (λ e f. apart (l.apart q page c b e) f)) (settled q s c d) (k.reads q s c d));
      torn = rw (slot_at-bytes_of k.read layout.pages page slot b t read_eight, slot_at-bytes_of (shown old layout) layout.pages page slot b t was.eight, free) leaves;
    })

holds_as : (a b : Written) → b ≡ a → Holds a a.cells.least → Holds b b.cells.least
holds_as a b e h = rw e h

pub torn_told : (size : Size) (marks old new : ℕ → ℕ → Written) (layout : Layout) (page slot : ℕ) → IsLaidOut size layout → IsSettled old layout → page < layout.pages
    → OnePlace old (held_at layout.held page).page slot new → (IsReading (marks (held_at layout.held page).page 0).cells blank → ⊥)
    → (p : ℕ) → p < layout.pages → IsOpenTold marks new (held_at layout.held p).page
torn_told size marks old new layout page slot l settled b others opened p c reads s t = elim (eqb_tells p page) [
  | inl same ↦ absurd (opened (rw same.1 at reads))
  | inr apart ↦ holds_as (old (held_at layout.held p).page s) (new (held_at layout.held p).page s) (others (held_at layout.held p).page s (λ e f. apart.1 (l.apart p page c b e))) (settled p s c t)
]

pub settled_read : (slots : ℕ → ℕ → Written) (layout : Layout) (image : List ℕ) → IsSettled slots layout → IsReadImage slots layout image → image ≡ image_of slots layout
settled_read slots layout image settled k = k.is_of ∙ same_image (shown slots layout) k.read layout.pages (λ q s c d. one_reading (slots (held_at layout.held q).page s) (shown slots layout q s) (k.read q s) (settled q s c d) (k.reads q s c d))
