-- What the operations of a session leave of the log's slots.
use Rattle.std.proofs.Common.{◌≡◌, ◌≢◌, ℕ, ◌<◌, Option, Some, Result, Ok, Err, MatchResult, List, length, get_or, bit_and, arith, sym, ◌∙◌, ap, refl, inl, inr}
use Rattle.std.proofs.lemmas.Bool.Decides.{eqb_tells}
use Rattle.std.proofs.lemmas.List.{get_or-set_same, get_or-set_other, get_or-replicate, length-replicate}
use Rattle.std.proofs.lemmas.Grind.{same_number_lists}
use Rattle.std.proofs.lemmas.Nat.Bits.{bit_at_and, bit_at-lt}
use Rattle.std.proofs.lemmas.Nat.{and_comm, and_mask}
use Rattle.std.proofs.Math.Nat.{mod-eq_of_lt}
use Rattle.flash_model.specs.Torn.{ProgramMayLeave}
use Rattle.flash_model.specs.Operations.{Programs, MayProgram, Erases, MayErase}
use Rattle.flash_model.proofs.ByMask.{no_program, no_erase}
use Rattle.steady_flash.specs.Cells.{IsEight, Written, blank, erased}
use Rattle.steady_flash.specs.Marked.{Size, Same, OnePlace, OnePageOfPlaces}
use Rattle.steady_flash.specs.Layout.{held_at, IsLaidOut}
use Rattle.steady_flash.specs.Moves.{Holds, IsErasedPage, IsCopiedTo, IsCopy, moved}
use Rattle.steady_flash.specs.Shown.{shown, IsSettled, IsSettledBut, IsKept, IsChanged, IsBlanked, IsTornInto, IsDoubted, image_of}
use Rattle.steady_flash.specs.Faults.{LeavesEither}
use Rattle.steady_flash.specs.declared.writing.Failed.{Failed}
use Rattle.steady_flash.specs.declared.writing.Failed.TheVariants.{Torn, Lost, InDoubt}
use Rattle.steady_flash.specs.declared.layout.Held.{Held}
use Rattle.steady_flash.specs.declared.layout.Layout.{Layout}
use Rattle.steady_flash.specs.declared.moving.Changed.{Changed}
use Rattle.steady_flash.proofs.Cells.{holds_erased, one_reading}
use Rattle.steady_flash.proofs.Images.{slot_at-bytes_of, one_slot_of, one_page_of, same_image}

holds_as : (a b : Written) → b ≡ a → Holds a a.cells.least → Holds b b.cells.least
holds_as a b e h = rw e h

least_as : (a b : Written) → b ≡ a → b.cells.least ≡ a.cells.least
least_as a b e = ap (λ (w : Written). w.cells.least) e

pub kept_by_spare : (size : Size) (layout : Layout) (old new : ℕ → ℕ → Written) → IsLaidOut size layout → IsSettled old layout → OnePageOfPlaces old layout.spare new → IsKept old layout new layout
kept_by_spare size layout old new l settled o = record {
  settled = λ p s b t. holds_as _ _ (o (held_at layout.held p).page s (l.free p b)) (settled p s b t);
  pages = refl;
  same = λ p s b t. least_as _ _ (o (held_at layout.held p).page s (l.free p b));
}

same_place : (layout after : Layout) (old new : ℕ → ℕ → Written) (p s : ℕ) → Same old new → (held_at after.held p).page ≡ (held_at layout.held p).page → new (held_at after.held p).page s ≡ old (held_at layout.held p).page s
same_place layout after old new p s same page = ap (λ (q : ℕ). new q s) page ∙ same (held_at layout.held p).page s

pub kept_by_same : (layout after : Layout) (old new : ℕ → ℕ → Written) → IsSettled old layout → Same old new → after.pages ≡ layout.pages → ((p : ℕ) → (held_at after.held p).page ≡ (held_at layout.held p).page) → IsKept old layout new after
kept_by_same layout after old new settled same pages page = record {
  settled = λ p s b t. holds_as _ _ (same_place layout after old new p s same (page p)) (settled p s (rw (← pages) b) t);
  pages = pages;
  same = λ p s b t. least_as _ _ (same_place layout after old new p s same (page p));
}

-- which page of the flash holds which after a move
pub there_after : (size : Size) (layout : Layout) (new : ℕ → ℕ → Written) (page p s : ℕ) → IsLaidOut size layout → page < layout.pages → p ≡ page → new (held_at (moved layout page).held p).page s ≡ new layout.spare s
there_after size layout new page p s l b e =
    ap (λ (q : ℕ). new (held_at (moved layout page).held q).page s) e
    ∙ ap (λ (h : Held). new h.page s) (get_or-set_same {A = Held} layout.held page _ _ (omega (arith, l.placed.eight, l.placed.served.most)))

pub elsewhere_after : (size : Size) (layout : Layout) (old new : ℕ → ℕ → Written) (page p s : ℕ) → IsLaidOut size layout → p < layout.pages → p ≢ page → OnePageOfPlaces old layout.spare new → new (held_at (moved layout page).held p).page s ≡ old (held_at layout.held p).page s
elsewhere_after size layout old new page p s l b apart o =
    ap (λ (h : Held). new h.page s) (get_or-set_other {A = Held} layout.held page p _ _ apart)
    ∙ o (held_at layout.held p).page s (l.free p b)

pub changed_by_move : (size : Size) (layout : Layout) (old new : ℕ → ℕ → Written) (page : ℕ) (change : Changed) → IsLaidOut size layout → page < layout.pages → change.slot < 512
    → IsSettledBut old layout page change.slot → OnePageOfPlaces old layout.spare new → IsCopy old (held_at layout.held page).page (Some change) new layout.spare
    → IsChanged old layout page change.slot change.bytes new (moved layout page)
changed_by_move size layout old new page change l b m settled o copy = record {
  settled = λ p s c t. elim (eqb_tells p page) [
    | inl same ↦ holds_as _ _ (there_after size layout new page p s l b same.1) (copy s t).holds
    | inr apart ↦ holds_as _ _ (elsewhere_after size layout old new page p s l c apart.1 o) (settled p s c t (λ e _. apart.1 e))
  ];
  pages = refl;
  there = least_as _ _ (there_after size layout new page page change.slot l b refl) ∙ (copy change.slot m).copied.0 refl;
  others = λ p s c t apart. elim (eqb_tells p page) [
    | inl same ↦ (let here : (s ≡ change.slot → ⊥) = λ e. apart same.1 e in
        let reads = (copy s t).copied.1 (λ e. here (sym e)) in
        let was : shown old layout p s ≡ shown old layout page s = ap (λ (q : ℕ). shown old layout q s) same.1 in
        least_as _ _ (there_after size layout new page p s l b same.1) ∙ one_reading _ _ _ (settled page s b t (λ _ e. here e)) reads ∙ sym was)
    | inr elsewhere ↦ least_as _ _ (elsewhere_after size layout old new page p s l c elsewhere.1 o)
  ];
}

pub erased_holds : (place : Written) → place ≡ erased → Holds place place.cells.least
erased_holds place e = rw e holds_erased

pub blanked_by_move : (size : Size) (layout : Layout) (old new : ℕ → ℕ → Written) (page : ℕ) → IsLaidOut size layout → page < layout.pages → IsSettled old layout → OnePageOfPlaces old layout.spare new → IsErasedPage new layout.spare → IsBlanked old layout page new (moved layout page)
blanked_by_move size layout old new page l b settled o e = record {
  settled = λ p s c t. elim (eqb_tells p page) [
    | inl same ↦ holds_as _ _ (there_after size layout new page p s l b same.1) (erased_holds _ (e s t))
    | inr apart ↦ holds_as _ _ (elsewhere_after size layout old new page p s l c apart.1 o) (settled p s c t)
  ];
  pages = refl;
  blank_there = λ s t. least_as _ _ (there_after size layout new page page s l b refl) ∙ least_as erased _ (e s t);
  others = λ p s c t apart. least_as _ _ (elsewhere_after size layout old new page p s l c apart o);
}

-- a program in place
elsewhere : (size : Size) (layout : Layout) (old new : ℕ → ℕ → Written) (page slot p s : ℕ) → IsLaidOut size layout → page < layout.pages → p < layout.pages → OnePlace old (held_at layout.held page).page slot new → (p ≡ page → s ≡ slot → ⊥) → new (held_at layout.held p).page s ≡ old (held_at layout.held p).page s
elsewhere size layout old new page slot p s l b c o apart = o (held_at layout.held p).page s (λ x y. apart (l.apart p page c b x) y)

pub settled_but : (size : Size) (layout : Layout) (old new : ℕ → ℕ → Written) (page slot : ℕ) → IsLaidOut size layout → page < layout.pages → IsSettled old layout → OnePlace old (held_at layout.held page).page slot new → IsSettledBut new layout page slot
settled_but size layout old new page slot l b settled o p s c t apart = holds_as _ _ (elsewhere size layout old new page slot p s l b c o apart) (settled p s c t)

pub others_in_place : (size : Size) (layout : Layout) (old new : ℕ → ℕ → Written) (page slot p s : ℕ) → IsLaidOut size layout → page < layout.pages → p < layout.pages → OnePlace old (held_at layout.held page).page slot new → (p ≡ page → s ≡ slot → ⊥) → shown new layout p s ≡ shown old layout p s
others_in_place size layout old new page slot p s l b c o apart = least_as _ _ (elsewhere size layout old new page slot p s l b c o apart)

-- a fault is settled, after moves that failed
copied_from : (old mid new : ℕ → ℕ → Written) (from to s : ℕ) (changed : Option Changed) → mid from s ≡ old from s → IsCopiedTo (mid from s) changed s (new to s) → IsCopiedTo (old from s) changed s (new to s)
copied_from old mid new from to s changed e c = rw e at c

pub changed_by_moves : (size : Size) (layout : Layout) (old mid new : ℕ → ℕ → Written) (page : ℕ) (change : Changed) → IsLaidOut size layout → page < layout.pages → change.slot < 512
    → IsSettledBut old layout page change.slot → OnePageOfPlaces old layout.spare mid → OnePageOfPlaces mid layout.spare new → IsCopy mid (held_at layout.held page).page (Some change) new layout.spare
    → IsChanged old layout page change.slot change.bytes new (moved layout page)
changed_by_moves size layout old mid new page change l b m settled o p copy =
    changed_by_move size layout old new page change l b m settled (λ q s apart. p q s apart ∙ o q s apart)
    (λ s t. copied_from old mid new (held_at layout.held page).page layout.spare s (Some change) (o (held_at layout.held page).page s (l.free page b)) (copy s t))

pub settled_by_moves : (size : Size) (layout was after : Layout) (old mid new : ℕ → ℕ → Written) (page : ℕ) (change : Changed) → IsLaidOut size layout → page < layout.pages → change.slot < 512
    → IsSettledBut old layout page change.slot → was ≡ layout → OnePageOfPlaces old layout.spare mid → OnePageOfPlaces mid was.spare new → IsCopy mid (held_at was.held page).page (Some change) new was.spare → after ≡ moved was page
    → IsChanged old layout page change.slot change.bytes new after
settled_by_moves size layout was after old mid new page change l b m settled e o p copy f =
    let to : after ≡ moved layout page = f ∙ ap (λ (w : Layout). moved w page) e in
    let q = rw e at p in
    let c = rw e at copy in
    rw to (changed_by_moves size layout old mid new page change l b m settled o q c)

torn_blank : (bytes : List ℕ) → ProgramMayLeave blank bytes blank
torn_blank bytes = record {
  clears_only = record { same_length = refl; bits = λ k i. omega arith };
  keeps = λ k i. omega (arith, bit_at_and (get_or blank k 0) (get_or bytes k 0) i, bit_at-lt (get_or bytes k 0) i, bit_at-lt (get_or blank k 0) i);
}

pub kept_torn : (layout after : Layout) (old new : ℕ → ℕ → Written) (page slot : ℕ) (bytes : List ℕ) → page < layout.pages → slot < 512 → IsKept old layout new after → shown old layout page slot ≡ blank → IsTornInto old layout page slot bytes new after
kept_torn layout after old new page slot bytes b m k e = record {
  now = blank;
  changed = record { settled = k.settled; pages = k.pages; there = k.same page slot b m ∙ e; others = λ p s c t apart. k.same p s c t };
  torn = torn_blank bytes;
}

pub unchanged : (layout : Layout) (old : ℕ → ℕ → Written) (page slot : ℕ) (now : List ℕ) → IsSettled old layout → now ≡ shown old layout page slot → IsChanged old layout page slot now old layout
unchanged layout old page slot now settled e = record { settled = settled; pages = refl; there = sym e; others = λ p s b m apart. refl }

-- what was settled in place of what came before
pub torn_into : (layout after : Layout) (old mid new : ℕ → ℕ → Written) (was : Layout) (page slot : ℕ) (bytes : List ℕ) → ((p s : ℕ) → p < layout.pages → s < 512 → (p ≡ page → s ≡ slot → ⊥) → shown mid was p s ≡ shown old layout p s) → was.pages ≡ layout.pages
    → IsTornInto mid was page slot bytes new after → IsTornInto old layout page slot bytes new after
torn_into layout after old mid new was page slot bytes same pages t = record {
  now = t.now;
  changed = record {
    settled = t.changed.settled;
    pages = t.changed.pages ∙ pages;
    there = t.changed.there;
    others = λ p s b m apart. t.changed.others p s (rw pages b) m apart ∙ same p s b m apart;
  };
  torn = t.torn;
}

pub doubted_from : (layout after : Layout) (old mid new : ℕ → ℕ → Written) (was : Layout) (page slot : ℕ) → ((p s : ℕ) → p < layout.pages → s < 512 → (p ≡ page → s ≡ slot → ⊥) → shown mid was p s ≡ shown old layout p s) → was.pages ≡ layout.pages
    → IsDoubted mid was page slot new after → IsDoubted old layout page slot new after
doubted_from layout after old mid new was page slot same pages d = record {
  settled = d.settled;
  pages = d.pages ∙ pages;
  others = λ p s b m apart. d.others p s (rw pages b) m apart ∙ same p s b m apart;
}

-- what is left, under what its own says
pub left_as : (why : Failed) (P Q P' Q' : Type 0) → (P → P') → (Q → Q') → LeavesEither why P Q → LeavesEither why P' Q'
left_as Torn P Q P' Q' f g h = f h
left_as Lost P Q P' Q' f g h = f h
left_as InDoubt P Q P' Q' f g h = g h

-- the image
pub same_images_of : (layout after : Layout) (old new : ℕ → ℕ → Written) → IsKept old layout new after → image_of new after ≡ image_of old layout
same_images_of layout after old new k = rw k.pages (same_image (shown old layout) (shown new after) layout.pages k.same)

pub programs_of : (layout after : Layout) (old new : ℕ → ℕ → Written) (page slot : ℕ) (bytes now : List ℕ) → page < layout.pages → slot < 512 → IsSettled old layout → IsChanged old layout page slot now new after → ((k : ℕ) → k < 8 → get_or now k 0 ≡ bit_and (get_or (shown old layout page slot) k 0) (get_or bytes k 0)) → Programs (image_of old layout) page slot bytes (image_of new after)
programs_of layout after old new page slot bytes now b m settled c h = record {
  rest = rw c.pages (one_slot_of (shown old layout) (shown new after) layout.pages page slot m c.others);
  bytes = λ k l. rw (slot_at-bytes_of (shown new after) after.pages page slot (rw c.pages b) m (c.settled page slot (rw c.pages b) m).eight, slot_at-bytes_of (shown old layout) layout.pages page slot b m (settled page slot b m).eight, c.there) (h k l);
}

pub may_program_of : (layout after : Layout) (old new : ℕ → ℕ → Written) (page slot : ℕ) (bytes now : List ℕ) → page < layout.pages → slot < 512 → IsSettled old layout → IsChanged old layout page slot now new after → ProgramMayLeave (shown old layout page slot) bytes now → MayProgram (image_of old layout) page slot bytes (image_of new after)
may_program_of layout after old new page slot bytes now b m settled c h = record {
  rest = rw c.pages (one_slot_of (shown old layout) (shown new after) layout.pages page slot m c.others);
  torn = rw (slot_at-bytes_of (shown new after) after.pages page slot (rw c.pages b) m (c.settled page slot (rw c.pages b) m).eight, slot_at-bytes_of (shown old layout) layout.pages page slot b m (settled page slot b m).eight, c.there) h;
}

pub erases_of : (layout after : Layout) (old new : ℕ → ℕ → Written) (page : ℕ) → page < layout.pages → IsBlanked old layout page new after → Erases (image_of old layout) page (image_of new after)
erases_of layout after old new page b c = record {
  rest = rw c.pages (one_page_of (shown old layout) (shown new after) layout.pages page c.others);
  blank = λ s m. slot_at-bytes_of (shown new after) after.pages page s (rw c.pages b) m (c.settled page s (rw c.pages b) m).eight ∙ c.blank_there s m;
}

pub keeps_program : (layout after : Layout) (old new : ℕ → ℕ → Written) (page slot : ℕ) (bytes : List ℕ) → IsKept old layout new after → MayProgram (image_of old layout) page slot bytes (image_of new after)
keeps_program layout after old new page slot bytes k = rw (same_images_of layout after old new k) (no_program (image_of old layout) page slot bytes)

pub keeps_erase : (layout after : Layout) (old new : ℕ → ℕ → Written) (page : ℕ) → IsKept old layout new after → MayErase (image_of old layout) page (image_of new after)
keeps_erase layout after old new page k = rw (same_images_of layout after old new k) (no_erase (image_of old layout) page)

-- a program of FFh clears nothing
pub both_blank : (held bytes after : List ℕ) → IsEight after → ((k : ℕ) → k < 8 → get_or after k 0 ≡ bit_and (get_or held k 0) (get_or bytes k 0)) → held ≡ blank → bytes ≡ blank → after ≡ held
both_blank held bytes after e h f g =
    let length8 : length held ≡ 8 = rw f (length-replicate {A = ℕ} 8 255) in
    same_number_lists after held (e.eight ∙ sym length8)
    (λ k l. let b : k < 8 = omega (arith, e.eight) in
    let ones : get_or held k 0 ≡ 255 = rw f (get_or-replicate {A = ℕ} 8 k 255 0 b) in
    let others : get_or bytes k 0 ≡ 255 = rw g (get_or-replicate {A = ℕ} 8 k 255 0 b) in
    h k b ∙ rw (ones, others) refl)

-- each answer under what its own says
pub answered : {A E : Type 0} (r : Result A E) (P : A → Type 0) (Q : E → Type 0) (P' : A → Type 0) (Q' : E → Type 0) → ((a : A) → P a → P' a) → ((e : E) → Q e → Q' e) → MatchResult r P Q → MatchResult r P' Q'
answered (Ok a) P Q P' Q' f g h = f a h
answered (Err e) P Q P' Q' f g h = g e h

pub and_blank : (bytes : List ℕ) (k : ℕ) → IsEight bytes → k < 8 → get_or bytes k 0 ≡ bit_and (get_or blank k 0) (get_or bytes k 0)
and_blank bytes k e l = rw (get_or-replicate {A = ℕ} 8 k 255 0 l) (sym (and_comm 255 (get_or bytes k 0) ∙ and_mask (get_or bytes k 0) 8 ∙ mod-eq_of_lt (e.each k)))
