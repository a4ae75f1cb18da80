-- What a start may show behind an operation that was cut.
use Rattle.std.proofs.Common.{◌≡◌, ℕ, ◌<◌, Option, Some, None, Result, Ok, Err, IfErr, List, bit_and, get_or, arith, sym, ◌∙◌, ap, refl, inl, inr}
use Rattle.std.proofs.lemmas.Bool.Decides.{eqb_tells}
use Rattle.flash_model.specs.Image.{IsImage}
use Rattle.flash_model.specs.Operations.{MayProgram, MayErase}
use Rattle.flash_model.proofs.ByMask.{whole_program, whole_erase, no_program, no_erase}
use Rattle.steady_flash.specs.Cells.{IsEight, Written, IsReading, blank}
use Rattle.steady_flash.specs.Marked.{Size, Same, OnePlace, OnePageOfPlaces}
use Rattle.steady_flash.specs.Layout.{held_at, IsLaidOut}
use Rattle.steady_flash.specs.Moves.{Holds, IsTorn, IsCopy, IsCopiedTo, IsErasedPage, moved}
use Rattle.steady_flash.specs.Shown.{shown, image_of, image_as, IsSettled, IsKept, IsBlanked}
use Rattle.steady_flash.specs.Claims.{IsOpenTold}
use Rattle.steady_flash.specs.Sound.{Standing, IsSound, IsCalm, MayShow, IsShrunk, IsStopped, IsCut, IsOpen, steady_at, moving_at, Shrinks, IsStarted}
use Rattle.steady_flash.specs.declared.moving.Changed.{Changed}
use Rattle.steady_flash.specs.declared.moving.Stop.{Stop}
use Rattle.steady_flash.specs.declared.moving.Stop.TheVariants.{InDoubt}
use Rattle.steady_flash.specs.declared.layout.Doubt.{Doubt}
use Rattle.steady_flash.specs.declared.layout.Layout.{Layout}
use Rattle.steady_flash.proofs.Cells.{one_reading, torn_reading}
use Rattle.steady_flash.proofs.Images.{same_image, is_image, slot_at-bytes_of, one_slot_of}
use Rattle.steady_flash.proofs.Session.{there_after, elsewhere_after, kept_by_spare, blanked_by_move, erased_holds, erases_of, keeps_erase, changed_by_move, programs_of, keeps_program}
use Rattle.steady_flash.proofs.Doubts.{image_none}
use Rattle.steady_flash.proofs.Calm.{sound_same}
use Rattle.steady_flash.proofs.Shrinking.{one_image, started_behind, shrinks_then, shrinks_narrow, shrinks_spare, shrunk_stopped, shrunk_then}

-- what each page reads as
own_read : (slots : ℕ → ℕ → Written) (layout : Layout) (p at s : ℕ) (read : List ℕ) → IsSettled slots layout → p < layout.pages → s < 512 → at ≡ (held_at layout.held p).page → IsReading (slots at s).cells read → read ≡ shown slots layout p s
own_read slots layout p at s read settled b t own x =
    let r : IsReading (slots (held_at layout.held p).page s).cells read = rw own at x in
    one_reading (slots (held_at layout.held p).page s) (shown slots layout p s) read (settled p s b t) r

other_read : (slots : ℕ → ℕ → Written) (layout : Layout) (page p s : ℕ) (read : ℕ → ℕ → List ℕ) → IsSettled slots layout → MayShow slots (moving_at layout page) read → p < layout.pages → s < 512 → (p ≡ page → ⊥) → read p s ≡ shown slots layout p s
other_read slots layout page p s read settled h b t apart =
    let x = h p b in
    elim x.1 [
      | inl own ↦ own_read slots layout p x.0 s (read p s) settled b t own (x.2 s t)
      | inr it ↦ absurd (apart it.1)
    ]

settled_told : (marks slots : ℕ → ℕ → Written) (layout : Layout) (p at : ℕ) → IsSettled slots layout → p < layout.pages → at ≡ (held_at layout.held p).page → IsOpenTold marks slots at
settled_told marks slots layout p at settled b own _ s t = rw own (settled p s b t)

pub cut_calm : (size : Size) (marks slots : ℕ → ℕ → Written) (layout : Layout) (tells : Type 0) (may_be : List ℕ → Type 0) → IsCalm size marks layout → IsSettled slots layout → may_be (image_of slots layout) → IsCut size marks slots layout.pages tells may_be
cut_calm size marks slots layout tells may_be c settled m = record {
  standing = steady_at layout;
  sound = c.sound;
  pages_there = refl;
  told = λ _ p at b k. elim k [
    | inl own ↦ settled_told marks slots layout p at settled b own
    | inr it ↦ absurd (let e = it.1 in omega arith)
  ];
  shows = λ read _ h. rw (same_image (shown slots layout) read layout.pages (λ p s b t. one_image slots layout read p s settled h b t)) m;
}

pub cut_moving : (size : Size) (marks slots : ℕ → ℕ → Written) (layout : Layout) (page : ℕ) (tells : Type 0) (may_be : List ℕ → Type 0) → IsSound size marks (moving_at layout page) → page < layout.pages → IsSettled slots layout → ((s : ℕ) → s < 512 → Holds (slots layout.spare s) (slots layout.spare s).cells.least)
    → may_be (image_of slots layout) → may_be (image_of slots (moved layout page)) → IsCut size marks slots layout.pages tells may_be
cut_moving size marks slots layout page tells may_be c b settled there before behind =
    let l = c.laid_out in
    record {
      standing = moving_at layout page;
      sound = c;
      pages_there = refl;
      told = λ _ p at d k. elim k [
        | inl own ↦ settled_told marks slots layout p at settled d own
        | inr it ↦ (λ _ s t. rw (it.0) (there s t))
      ];
      shows = λ read _ h. (let x = h page b in elim x.1 [
        | inl own ↦ rw (same_image (shown slots layout) read layout.pages (λ p s d t. elim (eqb_tells p page) [
          | inl same ↦ rw (same.1) (own_read slots layout page x.0 s (read page s) settled b t own (x.2 s t))
          | inr apart ↦ other_read slots layout page p s read settled h d t apart.1
        ])) before
        | inr it ↦ rw (same_image (shown slots (moved layout page)) read layout.pages (λ p s d t. elim (eqb_tells p page) [
          | inl same ↦ rw (same.1) (let r : IsReading (slots layout.spare s).cells (read page s) = rw (it.0) at (x.2 s t) in
              one_reading (slots layout.spare s) (slots layout.spare s).cells.least (read page s) (there s t) r ∙ sym (ap (λ (w : Written). w.cells.least) (there_after size layout slots page page s l b refl)))
          | inr apart ↦ other_read slots layout page p s read settled h d t apart.1 ∙ sym (ap (λ (w : Written). w.cells.least) (elsewhere_after size layout slots slots page p s l d apart.1 (λ q i a. refl)))
        ])) behind
      ]);
    }

-- an erase that was refused or has failed, that is whole, or of which the move may count
pub cut_as : (size : Size) (marks old new : ℕ → ℕ → Written) (layout : Layout) (doubt : Option Doubt) (page pages : ℕ) → doubt ≡ None → IsCut size marks new pages (Unit {0}) (MayErase (image_of old layout) page) → IsCut size marks new pages (Unit {0}) (MayErase (image_as old layout doubt) page)
cut_as size marks old new layout doubt page pages none c = rw (image_none old layout doubt none) c

pub erase_refused : (size : Size) (marks slots : ℕ → ℕ → Written) (layout : Layout) (page : ℕ) → IsCalm size marks layout → IsSettled slots layout → IsCut size marks slots layout.pages (Unit {0}) (MayErase (image_of slots layout) page)
erase_refused size marks slots layout page c settled = cut_calm size marks slots layout (Unit {0}) (MayErase (image_of slots layout) page) c settled (no_erase (image_of slots layout) page)

pub erase_failed : (size : Size) (marks old new : ℕ → ℕ → Written) (layout : Layout) (page : ℕ) → IsCalm size marks layout → IsKept old layout new layout → IsCut size marks new layout.pages (Unit {0}) (MayErase (image_of old layout) page)
erase_failed size marks old new layout page c k = cut_calm size marks new layout (Unit {0}) (MayErase (image_of old layout) page) c k.settled (keeps_erase layout layout old new page k)

image_there : (size : Size) (slots : ℕ → ℕ → Written) (layout : Layout) → IsLaidOut size layout → IsSettled slots layout → IsImage (image_of slots layout)
image_there size slots layout l settled = is_image (shown slots layout) layout.pages (λ p s b t. (settled p s b t).eight) l.placed.served.least l.placed.served.most

pub erase_whole : (size : Size) (marks old new : ℕ → ℕ → Written) (layout after : Layout) (page : ℕ) → IsLaidOut size layout → page < layout.pages → IsSettled old layout → IsCalm size marks after → IsBlanked old layout page new after → IsCut size marks new layout.pages (Unit {0}) (MayErase (image_of old layout) page)
erase_whole size marks old new layout after page l b settled c x =
    rw x.pages at (cut_calm size marks new after (Unit {0}) (MayErase (image_of old layout) page) c x.settled (whole_erase (image_of old layout) page (image_of new after) (image_there size old layout l settled) (erases_of layout after old new page b x)))

pub erase_moving : (size : Size) (marks old new : ℕ → ℕ → Written) (layout : Layout) (page : ℕ) → IsSound size marks (moving_at layout page) → page < layout.pages → IsSettled old layout → OnePageOfPlaces old layout.spare new → IsErasedPage new layout.spare → IsCut size marks new layout.pages (Unit {0}) (MayErase (image_of old layout) page)
erase_moving size marks old new layout page c b settled others gone =
    let k = kept_by_spare size layout old new c.laid_out settled others in
    let x = blanked_by_move size layout old new page c.laid_out b settled others gone in
    cut_moving size marks new layout page (Unit {0}) (MayErase (image_of old layout) page) c b k.settled (λ s t. erased_holds (new layout.spare s) (gone s t)) (keeps_erase layout layout old new page k)
    (whole_erase (image_of old layout) page (image_of new (moved layout page)) (image_there size old layout c.laid_out settled) (erases_of layout (moved layout page) old new page b x))

-- a slot that is settled as it reads, and given up
copy_read : (old new : ℕ → ℕ → Written) (from to : ℕ) (change : Changed) → IsReading (old from change.slot).cells change.bytes → IsCopy old from (Some change) new to → IsCopy old from None new to
copy_read old new from to change r copy s t = elim (eqb_tells s change.slot) [
  | inl same ↦ record { holds = (copy s t).holds; copied = rw ((copy s t).copied.0 (sym same.1), same.1) r }
  | inr other ↦ record { holds = (copy s t).holds; copied = (copy s t).copied.1 (λ e. other.1 (sym e)) }
]

pub shrunk_same : (size : Size) (s : Standing) (marks slots marks' slots' marks'' slots'' : ℕ → ℕ → Written) → Same marks' marks'' → Same slots' slots'' → IsShrunk size s marks slots marks' slots' → IsShrunk size s marks slots marks'' slots''
shrunk_same size s marks slots marks' slots' marks'' slots'' e f x =
    (x.0, shrinks_then size s x.0 x.0 marks slots marks' slots' marks'' slots'' x.1 (shrinks_narrow size x.0 x.0 marks' slots' marks'' slots'' (sound_same size marks' marks'' x.0 e x.1.sound) (record { pages = refl; each = λ p at b h. h }) f (λ q. e q 0)))

reading_as : (a b : Written) (read : List ℕ) → b ≡ a → IsReading a.cells read → IsReading b.cells read
reading_as a b read e r = rw e r

pub given_up : (size : Size) (layout : Layout) (page : ℕ) (change : Changed) (stop : Stop) (marks slots marks' slots' marks'' slots'' marks''' slots''' : ℕ → ℕ → Written) → page < layout.pages → IsReading (slots (held_at layout.held page).page change.slot).cells change.bytes
    → IsCalm size marks' layout → OnePageOfPlaces slots layout.spare slots' → ((q : ℕ) → (q ≡ layout.spare → ⊥) → marks' q 0 ≡ marks q 0)
    → IsStopped size marks'' layout page stop → OnePageOfPlaces slots' layout.spare slots'' → ((q : ℕ) → (q ≡ layout.spare → ⊥) → marks'' q 0 ≡ marks' q 0)
    → (stop ≡ InDoubt → IsCopy slots' (held_at layout.held page).page (Some change) slots'' layout.spare) → Same marks'' marks''' → Same slots'' slots''' → IsShrunk size (steady_at layout) marks slots marks''' slots'''
given_up size layout page change stop marks slots marks' slots' marks'' slots'' marks''' slots''' b r calm others opened stopped others' opened' copy e f =
    let free = calm.sound.laid_out.free page b in
    let read : IsReading (slots' (held_at layout.held page).page change.slot).cells change.bytes = reading_as (slots (held_at layout.held page).page change.slot) (slots' (held_at layout.held page).page change.slot) change.bytes (others (held_at layout.held page).page change.slot free) r in
    shrunk_same size (steady_at layout) marks slots marks'' slots'' marks''' slots''' e f
    (shrunk_then size (steady_at layout) (steady_at layout) marks slots marks' slots' marks'' slots'' (shrinks_spare size layout page marks slots marks' slots' calm others opened)
    (shrunk_stopped size layout page marks' slots' marks'' slots'' stop stopped others' opened' (λ g. copy_read slots' slots'' (held_at layout.held page).page layout.spare change read (copy g))))

pub tired : (size : Size) (layout : Layout) (page : ℕ) (marks slots marks' slots' marks'' slots'' : ℕ → ℕ → Written) → IsCalm size marks' layout → OnePageOfPlaces slots layout.spare slots' → ((q : ℕ) → (q ≡ layout.spare → ⊥) → marks' q 0 ≡ marks q 0) → Same marks' marks'' → Same slots' slots'' → IsShrunk size (steady_at layout) marks slots marks'' slots''
tired size layout page marks slots marks' slots' marks'' slots'' calm others opened e f =
    shrunk_same size (steady_at layout) marks slots marks' slots' marks'' slots'' e f (steady_at layout, shrinks_spare size layout page marks slots marks' slots' calm others opened)

-- a program of a slot that was blank
pub fill_cut : (size : Size) (old mid torn new : ℕ → ℕ → Written) (marks marks' : ℕ → ℕ → Written) (layout after : Layout) (page slot : ℕ) (bytes : List ℕ) → IsLaidOut size layout → IsSettled old layout → page < layout.pages → slot < 512 → IsEight bytes → shown old layout page slot ≡ blank
    → Same old mid → after.pages ≡ layout.pages → ((p : ℕ) → (held_at after.held p).page ≡ (held_at layout.held p).page) → OnePlace mid (held_at layout.held page).page slot torn → IsTorn bytes (torn (held_at layout.held page).page slot)
    → marks' (held_at layout.held page).page 0 ≡ marks (held_at layout.held page).page 0
    → IsShrunk size (steady_at after) marks torn marks' new → IsCut size marks' new layout.pages (IsOpen marks' (held_at layout.held page).page) (MayProgram (image_of old layout) page slot bytes)
fill_cut size old mid torn new marks marks' layout after page slot bytes l settled b t eight free same pages places others is_torn mark x =
    let other : (p s : ℕ) → p < layout.pages → (p ≡ page → s ≡ slot → ⊥) → torn (held_at layout.held p).page s ≡ old (held_at layout.held p).page s = λ p s d apart. others (held_at layout.held p).page s (λ e f. apart (l.apart p page d b e) f) ∙ same (held_at layout.held p).page s in
    record {
      standing = x.0;
      sound = x.1.sound;
      pages_there = x.1.pages ∙ pages;
      told = λ opened. x.1.told (λ p at d k. (let d' : p < layout.pages = rw pages at d in elim k [
        | inl own ↦ elim (eqb_tells p page) [
          | inl it ↦ (λ r. absurd (opened (rw mark (rw (own ∙ places p, it.1) at r))))
          | inr apart ↦ (λ _ s u. rw (own ∙ places p, other p s d' (λ e f. apart.1 e)) (settled p s d' u))
        ]
        | inr it ↦ absurd (let e = it.1 in omega arith)
      ]));
      shows = λ read eights h.
          let reads = x.1.shows read h in
          let at : (p s : ℕ) → p < layout.pages → s < 512 → IsReading (torn (held_at layout.held p).page s).cells (read p s) = λ p s d u. (let y = reads p (rw pages d) in elim y.1 [
            | inl own ↦ rw (own ∙ places p) at (y.2 s u)
            | inr it ↦ absurd (let e = it.1 in omega (arith, e, d, pages))
          ]) in
          let was : Holds (old (held_at layout.held page).page slot) (shown old layout page slot) = settled page slot b t in
          record {
            rest = one_slot_of (shown old layout) read layout.pages page slot t (λ q s c d apart. one_reading (old (held_at layout.held q).page s) (shown old layout q s) (read q s) (settled q s c d) (rw (other q s c apart) at (at q s c d)));
            torn = rw (slot_at-bytes_of read layout.pages page slot b t (eights page slot b t), slot_at-bytes_of (shown old layout) layout.pages page slot b t was.eight, free) (torn_reading bytes (torn (held_at layout.held page).page slot) (read page slot) eight (eights page slot b t) is_torn (at page slot b t));
          };
    }

-- and of one that was not
pub copied_as : (from to to' : Written) (slot : ℕ) (change : Option Changed) → to' ≡ to → IsCopiedTo from change slot to → IsCopiedTo from change slot to'
copied_as from to to' slot change e c = rw e c

pub change_cut : (size : Size) (marks old new : ℕ → ℕ → Written) (layout : Layout) (page : ℕ) (tells : Type 0) (change : Changed) (bytes : List ℕ) → IsSound size marks (moving_at layout page) → page < layout.pages → change.slot < 512 → IsSettled old layout → OnePageOfPlaces old layout.spare new → IsCopy old (held_at layout.held page).page (Some change) new layout.spare
    → ((k : ℕ) → k < 8 → get_or change.bytes k 0 ≡ bit_and (get_or (shown old layout page change.slot) k 0) (get_or bytes k 0)) → IsCut size marks new layout.pages tells (MayProgram (image_of old layout) page change.slot bytes)
change_cut size marks old new layout page tells change bytes c b t settled others copy both =
    let k = kept_by_spare size layout old new c.laid_out settled others in
    let x = changed_by_move size layout old new page change c.laid_out b t (λ p s d u _. settled p s d u) others copy in
    cut_moving size marks new layout page tells (MayProgram (image_of old layout) page change.slot bytes) c b k.settled (λ s u. (copy s u).holds) (keeps_program layout layout old new page change.slot bytes k)
    (whole_program (image_of old layout) page change.slot bytes (image_of new (moved layout page)) (programs_of layout (moved layout page) old new page change.slot bytes change.bytes b t settled x both))

pub err_from : {A E : Type 0} (r : Result A E) (P Q : E → Type 0) → ((e : E) → P e → Q e) → IfErr r P → IfErr r Q
err_from (Ok a) P Q f x = x
err_from (Err e) P Q f x = f e x

pub program_as : (size : Size) (marks old new : ℕ → ℕ → Written) (layout : Layout) (doubt : Option Doubt) (page slot pages : ℕ) (bytes : List ℕ) (tells : Type 0) → doubt ≡ None → IsCut size marks new pages tells (MayProgram (image_of old layout) page slot bytes) → IsCut size marks new pages tells (MayProgram (image_as old layout doubt) page slot bytes)
program_as size marks old new layout doubt page slot pages bytes tells none c = rw (image_none old layout doubt none) c

pub program_refused : (size : Size) (marks slots : ℕ → ℕ → Written) (layout : Layout) (doubt : Option Doubt) (page slot : ℕ) (bytes : List ℕ) (tells : Type 0) → doubt ≡ None → IsCalm size marks layout → IsSettled slots layout → IsCut size marks slots layout.pages tells (MayProgram (image_as slots layout doubt) page slot bytes)
program_refused size marks slots layout doubt page slot bytes tells none c settled =
    program_as size marks slots slots layout doubt page slot layout.pages bytes tells none (cut_calm size marks slots layout tells (MayProgram (image_of slots layout) page slot bytes) c settled (no_program (image_of slots layout) page slot bytes))

image_now : (slots : ℕ → ℕ → Written) (layout : Layout) (now : Option Doubt) (old : List ℕ) (page slot : ℕ) (bytes : List ℕ) → now ≡ None → MayProgram old page slot bytes (image_as slots layout now) → MayProgram old page slot bytes (image_of slots layout)
image_now slots layout now old page slot bytes none m = rw (image_none slots layout now none) at m

pub program_done : (size : Size) (marks old new : ℕ → ℕ → Written) (layout after : Layout) (doubt now : Option Doubt) (page slot : ℕ) (bytes : List ℕ) (tells : Type 0) → after.pages ≡ layout.pages → now ≡ None → IsCalm size marks after → IsSettled new after → MayProgram (image_as old layout doubt) page slot bytes (image_as new after now)
    → IsCut size marks new layout.pages tells (MayProgram (image_as old layout doubt) page slot bytes)
program_done size marks old new layout after doubt now page slot bytes tells pages none c settled m =
    rw pages at (cut_calm size marks new after tells (MayProgram (image_as old layout doubt) page slot bytes) c settled (image_now new after now (image_as old layout doubt) page slot bytes none m))

-- starts behind it
pub cut_started : (size : Size) (marks slots marks' slots' marks'' slots'' : ℕ → ℕ → Written) (pages : ℕ) (tells : Type 0) (may_be : List ℕ → Type 0) (between : Standing) (layout : Layout) → (cut : IsCut size marks slots pages tells may_be) → Shrinks size cut.standing marks slots between marks' slots' → IsStarted size between marks' slots' layout marks'' slots'' → tells
    → IsSettled slots'' layout × may_be (image_of slots'' layout)
cut_started size marks slots marks' slots' marks'' slots'' pages tells may_be between layout cut shrinks started t =
    let x = started_behind size cut.standing between marks slots marks' slots' marks'' slots'' layout shrinks started (cut.told t) in
    let e : layout.pages ≡ pages = started.shrinks.pages ∙ shrinks.pages ∙ cut.pages_there in
    (x.0, rw e (cut.shows (shown slots'' layout) (λ p s b u. (x.0 p s (rw e b) u).eight) x.1))

pub rested : (size : Size) (marks slots marks' slots' marks'' slots'' : ℕ → ℕ → Written) (session layout : Layout) (between : Standing) → IsSettled slots session → Shrinks size (steady_at session) marks slots between marks' slots' → IsStarted size between marks' slots' layout marks'' slots''
    → IsSettled slots'' layout × (image_of slots'' layout ≡ image_of slots session)
rested size marks slots marks' slots' marks'' slots'' session layout between settled shrinks started =
    let x = started_behind size (steady_at session) between marks slots marks' slots' marks'' slots'' layout shrinks started (λ p at b k. elim k [
      | inl own ↦ settled_told marks slots session p at settled b own
      | inr it ↦ absurd (let e = it.1 in omega arith)
    ]) in
    let e : layout.pages ≡ session.pages = started.shrinks.pages ∙ shrinks.pages in
    (x.0, rw e (same_image (shown slots session) (shown slots'' layout) session.pages (λ p s b t. one_image slots session (shown slots'' layout) p s settled x.1 b t)))
