-- What a start leaves of what the cells may show.
use Rattle.std.proofs.Common.{◌≡◌, ℕ, ◌<◌, ◌⊎◌, None, List, length, arith, ◌∙◌, ap, refl, inl, inr}
use Rattle.steady_flash.specs.Cells.{Written, IsReading}
use Rattle.steady_flash.specs.Marked.{Size, Same, OnePageOfPlaces}
use Rattle.steady_flash.specs.Layout.{held_at, IsLaidOut}
use Rattle.steady_flash.specs.Moves.{Holds, IsCopy, IsCopiedTo, moved}
use Rattle.steady_flash.specs.Shown.{shown, IsSettled}
use Rattle.steady_flash.specs.Claims.{IsOpenTold, IsSameOpen, IsSettledPage}
use Rattle.steady_flash.specs.Sound.{Standing, IsSound, IsCalm, IsCandidate, Narrows, IsTold, MayShow, IsStill, IsStopped, Shrinks, IsShrunk, IsStarted, steady_at, moving_at}
use Rattle.steady_flash.specs.declared.layout.Held.{Held}
use Rattle.steady_flash.specs.declared.layout.Layout.{Layout}
use Rattle.steady_flash.specs.declared.moving.Stop.{Stop}
use Rattle.steady_flash.specs.declared.moving.Stop.TheVariants.{Fault, InDoubt, Named}
use Rattle.steady_flash.proofs.Cells.{one_reading, within_itself}
use Rattle.steady_flash.proofs.Layouts.{at_set}

pub shrinks_itself : (size : Size) (s : Standing) (marks slots : ℕ → ℕ → Written) → IsSound size marks s → Shrinks size s marks slots s marks slots
shrinks_itself size s marks slots c = record { sound = c; pages = refl; shows = λ read h. h; told = λ h. h }

pub shrinks_then : (size : Size) (s s' s'' : Standing) (marks slots marks' slots' marks'' slots'' : ℕ → ℕ → Written) → Shrinks size s marks slots s' marks' slots' → Shrinks size s' marks' slots' s'' marks'' slots'' → Shrinks size s marks slots s'' marks'' slots''
shrinks_then size s s' s'' marks slots marks' slots' marks'' slots'' a b = record { sound = b.sound; pages = b.pages ∙ a.pages; shows = λ read h. a.shows read (b.shows read h); told = λ h. b.told (a.told h) }

read_as : (a b : Written) (read : List ℕ) → b ≡ a → IsReading b.cells read → IsReading a.cells read
read_as a b read e r = rw e at r

open_told : (marks marks' slots slots' : ℕ → ℕ → Written) (at : ℕ) → marks' at 0 ≡ marks at 0 → ((s : ℕ) → slots' at s ≡ slots at s) → IsOpenTold marks slots at → IsOpenTold marks' slots' at
open_told marks marks' slots slots' at e f told = λ b s t. rw (f s) (told (rw e at b) s t)

-- no slot was programmed
pub shrinks_narrow : (size : Size) (s s' : Standing) (marks slots marks' slots' : ℕ → ℕ → Written) → IsSound size marks' s' → Narrows s s' → Same slots slots' → IsSameOpen marks marks' → Shrinks size s marks slots s' marks' slots'
shrinks_narrow size s s' marks slots marks' slots' c n same opened = record {
  sound = c;
  pages = n.pages;
  shows = λ read h p b. (let x = h p (rw n.pages b) in (x.0, n.each p x.0 b x.1, λ k t. read_as (slots x.0 k) (slots' x.0 k) (read p k) (same x.0 k) (x.2 k t)));
  told = λ h p at b k. (let d : p < s.layout.pages = rw n.pages at b in open_told marks marks' slots slots' at (opened at) (same at) (h p at d (n.each p at d k)));
}

-- a page that was copied
copied_read : (from to : Written) (slot : ℕ) (read : List ℕ) → IsCopiedTo from None slot to → IsReading to.cells read → IsReading from.cells read
copied_read from to slot read c r = rw (one_reading to to.cells.least read c.holds r) c.copied

from_page : (slots : ℕ → ℕ → Written) (layout : Layout) (page p k : ℕ) (read : List ℕ) → p ≡ page → IsReading (slots (held_at layout.held page).page k).cells read → IsReading (slots (held_at layout.held p).page k).cells read
from_page slots layout page p k read e r = rw e r

pub shrinks_by : (size : Size) (layout : Layout) (page : ℕ) (s' : Standing) (marks slots marks' slots' : ℕ → ℕ → Written) → IsSound size marks' s' → IsLaidOut size layout → s'.layout.pages ≡ layout.pages → OnePageOfPlaces slots layout.spare slots' → ((q : ℕ) → (q ≡ layout.spare → ⊥) → marks' q 0 ≡ marks q 0)
    → ((p at : ℕ) → p < layout.pages → IsCandidate s' p at → (at ≡ (held_at layout.held p).page) ⊎ ((at ≡ layout.spare) × (p ≡ page) × IsCopy slots (held_at layout.held page).page None slots' layout.spare))
    → Shrinks size (steady_at layout) marks slots s' marks' slots'
shrinks_by size layout page s' marks slots marks' slots' c l e others opened each = record {
  sound = c;
  pages = e;
  shows = λ read h p b. (let x = h p (rw e b) in elim (each p x.0 b x.1) [
    | inl own ↦ ((held_at layout.held p).page, inl refl, λ k t. read_as (slots (held_at layout.held p).page k) (slots' x.0 k) (read p k) (ap (λ (q : ℕ). slots' q k) own ∙ others (held_at layout.held p).page k (l.free p b)) (x.2 k t))
    | inr it ↦ (
      (held_at layout.held p).page,
      inl refl,
      λ k t. (let y : IsReading (slots' layout.spare k).cells (read p k) = read_as (slots' layout.spare k) (slots' x.0 k) (read p k) (ap (λ (q : ℕ). slots' q k) it.0) (x.2 k t) in
          from_page slots layout page p k (read p k) it.1 (copied_read (slots (held_at layout.held page).page k) (slots' layout.spare k) k (read p k) (it.2 k t) y)),
    )
  ]);
  told = λ h p at b k. (let d : p < layout.pages = rw e at b in elim (each p at d k) [
    | inl own ↦ rw own (open_told marks marks' slots slots' (held_at layout.held p).page (opened (held_at layout.held p).page (l.free p d)) (λ n. others (held_at layout.held p).page n (l.free p d)) (h p (held_at layout.held p).page d (inl refl)))
    | inr it ↦ (λ _ n t. rw (it.0) (it.2 n t).holds)
  ]);
}

no_spare : (layout : Layout) (page p at : ℕ) (X : Type 0) → p < layout.pages → IsCandidate (steady_at layout) p at → (at ≡ (held_at layout.held p).page) ⊎ ((at ≡ layout.spare) × (p ≡ page) × X)
no_spare layout page p at X b k = elim k [
  | inl own ↦ inl own
  | inr it ↦ absurd (let e = it.1 in omega arith)
]

pub shrinks_spare : (size : Size) (layout : Layout) (page : ℕ) (marks slots marks' slots' : ℕ → ℕ → Written) → IsCalm size marks' layout → OnePageOfPlaces slots layout.spare slots' → ((q : ℕ) → (q ≡ layout.spare → ⊥) → marks' q 0 ≡ marks q 0) → Shrinks size (steady_at layout) marks slots (steady_at layout) marks' slots'
shrinks_spare size layout page marks slots marks' slots' c others opened = shrinks_by size layout page (steady_at layout) marks slots marks' slots' c.sound c.sound.laid_out refl others opened (λ p at b k. no_spare layout page p at _ b k)

shrinks_moving : (size : Size) (layout : Layout) (page : ℕ) (marks slots marks' slots' : ℕ → ℕ → Written) → IsSound size marks' (moving_at layout page) → OnePageOfPlaces slots layout.spare slots' → ((q : ℕ) → (q ≡ layout.spare → ⊥) → marks' q 0 ≡ marks q 0) → IsCopy slots (held_at layout.held page).page None slots' layout.spare → Shrinks size (steady_at layout) marks slots (moving_at layout page) marks' slots'
shrinks_moving size layout page marks slots marks' slots' c others opened copy = shrinks_by size layout page (moving_at layout page) marks slots marks' slots' c c.laid_out refl others opened (λ p at b k. elim k [
  | inl own ↦ inl own
  | inr it ↦ inr (it.0, it.1, copy)
])

pub shrinks_moved : (size : Size) (layout after : Layout) (page : ℕ) (marks slots marks' slots' : ℕ → ℕ → Written) → after ≡ moved layout page → page < layout.pages → IsLaidOut size layout → IsCalm size marks' after → OnePageOfPlaces slots layout.spare slots' → ((q : ℕ) → (q ≡ layout.spare → ⊥) → marks' q 0 ≡ marks q 0) → IsCopy slots (held_at layout.held page).page None slots' layout.spare → Shrinks size (steady_at layout) marks slots (steady_at after) marks' slots'
shrinks_moved size layout after page marks slots marks' slots' e b l c others opened copy =
    let in_held : page < length layout.held = omega (arith, l.placed.eight, l.placed.served.most) in
    let to = moved layout page in
    let d : IsCalm size marks' to = rw e at c in
    rw e (shrinks_by size layout page (steady_at to) marks slots marks' slots' d.sound l refl others opened
    (λ p at f. at_set (λ (h : Held). (at ≡ h.page) ⊎ ((at ≡ (held_at layout.held page).page) × (p ≡ layout.pages)) → (at ≡ (held_at layout.held p).page) ⊎ ((at ≡ layout.spare) × (p ≡ page) × IsCopy slots (held_at layout.held page).page None slots' layout.spare)) layout.held page p _ in_held
    (λ same k. elim k [
      | inl own ↦ inr (own, same, copy)
      | inr it ↦ absurd (let g = it.1 in omega arith)
    ])
    (λ other k. elim k [
      | inl own ↦ inl own
      | inr it ↦ absurd (let g = it.1 in omega arith)
    ])))

pub shrunk_stopped : (size : Size) (layout : Layout) (page : ℕ) (marks slots marks' slots' : ℕ → ℕ → Written) (stop : Stop) → IsStopped size marks' layout page stop → OnePageOfPlaces slots layout.spare slots' → ((q : ℕ) → (q ≡ layout.spare → ⊥) → marks' q 0 ≡ marks q 0) → (stop ≡ InDoubt → IsCopy slots (held_at layout.held page).page None slots' layout.spare) → IsShrunk size (steady_at layout) marks slots marks' slots'
shrunk_stopped size layout page marks slots marks' slots' Fault c others opened copy = (steady_at layout, shrinks_spare size layout page marks slots marks' slots' c others opened)
shrunk_stopped size layout page marks slots marks' slots' (Named why) c others opened copy = (steady_at layout, shrinks_spare size layout page marks slots marks' slots' c others opened)
shrunk_stopped size layout page marks slots marks' slots' InDoubt c others opened copy = (moving_at layout page, shrinks_moving size layout page marks slots marks' slots' c others opened (copy refl))

-- all steps of a start
pub shrunk_then : (size : Size) (s s' : Standing) (marks slots marks' slots' marks'' slots'' : ℕ → ℕ → Written) → Shrinks size s marks slots s' marks' slots' → IsShrunk size s' marks' slots' marks'' slots'' → IsShrunk size s marks slots marks'' slots''
shrunk_then size s s' marks slots marks' slots' marks'' slots'' a x = (x.0, shrinks_then size s s' x.0 marks slots marks' slots' marks'' slots'' a x.1)

pub shrunk_itself : (size : Size) (s : Standing) (marks slots : ℕ → ℕ → Written) → IsSound size marks s → IsShrunk size s marks slots marks slots
shrunk_itself size s marks slots c = (s, shrinks_itself size s marks slots c)

pub shrunk_still : (size : Size) (s : Standing) (marks slots marks' slots' : ℕ → ℕ → Written) → IsStill size s marks' → Same slots slots' → IsSameOpen marks marks' → IsShrunk size s marks slots marks' slots'
shrunk_still size s marks slots marks' slots' x same opened = (x.0, shrinks_narrow size s x.0 marks slots marks' slots' x.1 x.2 same opened)

pub settled_pages : (old new : ℕ → ℕ → Written) (layout after : Layout) → after.pages ≡ layout.pages → ((p : ℕ) → p < layout.pages → IsSettledPage old (held_at layout.held p).page new after p) → IsSettled new after
settled_pages old new layout after e h = λ p s b t. (h p (rw e at b) s t).holds

-- a start that began anew, and then was completed
pub started_then : (size : Size) (s s' : Standing) (marks slots marks' slots' marks'' slots'' : ℕ → ℕ → Written) (layout : Layout) → Shrinks size s marks slots s' marks' slots' → IsStarted size s' marks' slots' layout marks'' slots'' → IsStarted size s marks slots layout marks'' slots''
started_then size s s' marks slots marks' slots' marks'' slots'' layout a x = record {
  calm = x.calm;
  shrinks = shrinks_then size s s' (steady_at layout) marks slots marks' slots' marks'' slots'' a x.shrinks;
  settled = λ h. x.settled (a.told h);
}

-- what is shown behind starts
shown_reads : (place : Written) → Holds place place.cells.least → IsReading place.cells place.cells.least
shown_reads place h = record { set = within_itself place.cells.least; clear = rw h.most (within_itself place.cells.least) }

pub started_behind : (size : Size) (before between : Standing) (marks slots marks' slots' marks'' slots'' : ℕ → ℕ → Written) (layout : Layout) → Shrinks size before marks slots between marks' slots' → IsStarted size between marks' slots' layout marks'' slots'' → IsTold marks slots before
    → IsSettled slots'' layout × MayShow slots before (shown slots'' layout)
started_behind size before between marks slots marks' slots' marks'' slots'' layout a x told =
    let all = started_then size before between marks slots marks' slots' marks'' slots'' layout a x in
    let settled = all.settled told in
    (settled, all.shrinks.shows (shown slots'' layout) (λ p b. ((held_at layout.held p).page, inl refl, λ s t. shown_reads (slots'' (held_at layout.held p).page s) (settled p s b t))))

pub one_image : (slots : ℕ → ℕ → Written) (layout : Layout) (read : ℕ → ℕ → List ℕ) (p s : ℕ) → IsSettled slots layout → MayShow slots (steady_at layout) read → p < layout.pages → s < 512 → read p s ≡ shown slots layout p s
one_image slots layout read p s settled h b t =
    let x = h p b in
    elim x.1 [
      | inl own ↦ (let r : IsReading (slots (held_at layout.held p).page s).cells (read p s) = rw own at (x.2 s t) in one_reading (slots (held_at layout.held p).page s) (shown slots layout p s) (read p s) (settled p s b t) r)
      | inr it ↦ absurd (let e = it.1 in omega arith)
    ]
