-- A start leaves no cell in doubt.
use Rattle.std.proofs.Common.{◌≡◌, ℕ, ◌+◌, ◌<◌, ◌≤◌, None, List, arith, ◌∙◌, ap, refl, inl, inr}
use Rattle.std.proofs.lemmas.List.{get_or-set_other}
use Rattle.flash_model.specs.Torn.{Within}
use Rattle.steady_flash.specs.Cells.{Written, IsReading, blank}
use Rattle.steady_flash.specs.Marked.{Size, Same, OnePageOfPlaces}
use Rattle.steady_flash.specs.Layout.{held_at, IsLaidOut}
use Rattle.steady_flash.specs.Moves.{Holds, IsCopy, moved}
use Rattle.steady_flash.specs.Claims.{IsFound, IsOpenTold, IsReadAs, IsSettledPage, IsSameOpen, IsUntouched, IsRaised, HasRoom}
use Rattle.steady_flash.specs.declared.layout.Held.{Held}
use Rattle.steady_flash.specs.declared.layout.Layout.{Layout}
use Rattle.steady_flash.proofs.Cells.{within_itself}
use Rattle.steady_flash.proofs.Session.{there_after}

within_same : (x y : List ℕ) → y ≡ x → Within x y
within_same x y e = rw e (within_itself x)

-- what has no cell in doubt reads as it is
pub read_itself : (place : Written) → Holds place place.cells.least → IsReadAs place place
read_itself place h = record { holds = h; read = record { set = within_itself place.cells.least; clear = within_same place.cells.least place.cells.most h.most } }

pub settled_itself : (marks slots : ℕ → ℕ → Written) (layout : Layout) (page : ℕ) → IsOpenTold marks slots (held_at layout.held page).page → IsReading (marks (held_at layout.held page).page 0).cells blank → IsSettledPage slots (held_at layout.held page).page slots layout page
settled_itself marks slots layout page told b s t = read_itself (slots (held_at layout.held page).page s) (told b s t)

pub settled_by_move : (size : Size) (layout after : Layout) (old new : ℕ → ℕ → Written) (page : ℕ) → IsLaidOut size layout → page < layout.pages → IsCopy old (held_at layout.held page).page None new layout.spare → after ≡ moved layout page
    → IsSettledPage old (held_at layout.held page).page new after page
settled_by_move size layout after old new page l b copy e s t = rw (e, there_after size layout new page page s l b refl) (record { holds = (copy s t).holds; read = (copy s t).copied })

pub untouched_itself : (marks slots : ℕ → ℕ → Written) (layout : Layout) (p : ℕ) → IsUntouched marks slots layout marks slots layout p
untouched_itself marks slots layout p = record { place = refl; slots_there = λ s. refl; open_there = refl }

place_after : (layout : Layout) (page p : ℕ) → (p ≡ page → ⊥) → (held_at (moved layout page).held p).page ≡ (held_at layout.held p).page
place_after layout page p apart = ap (λ (h : Held). h.page) (get_or-set_other {A = Held} layout.held page p _ _ apart)

pub untouched_by_move : (size : Size) (layout after : Layout) (marks slots marks' slots' : ℕ → ℕ → Written) (page p : ℕ) → IsLaidOut size layout → p < layout.pages → (p ≡ page → ⊥) → OnePageOfPlaces slots layout.spare slots' → ((q : ℕ) → (q ≡ layout.spare → ⊥) → marks' q 0 ≡ marks q 0) → after ≡ moved layout page
    → IsUntouched marks slots layout marks' slots' after p
untouched_by_move size layout after marks slots marks' slots' page p l b apart others opened e = record {
  place = ap (λ (w : Layout). (held_at w.held p).page) e ∙ place_after layout page p apart;
  slots_there = λ s. others (held_at layout.held p).page s (l.free p b);
  open_there = opened (held_at layout.held p).page (l.free p b);
}

pub untouched_then : (marks slots marks' slots' marks'' slots'' : ℕ → ℕ → Written) (layout mid after : Layout) (p : ℕ) → IsUntouched marks slots layout marks' slots' mid p → IsUntouched marks' slots' mid marks'' slots'' after p → IsUntouched marks slots layout marks'' slots'' after p
untouched_then marks slots marks' slots' marks'' slots'' layout mid after p u v = record {
  place = v.place ∙ u.place;
  slots_there = λ s. (let there = rw u.place at (v.slots_there s) in there ∙ u.slots_there s);
  open_there = (let there = rw u.place at v.open_there in there ∙ u.open_there);
}

as_read : (old mid new : Written) → new ≡ mid → IsReadAs old mid → IsReadAs old new
as_read old mid new e r = rw e r

-- a page that was settled stays so
pub settled_still : (old : ℕ → ℕ → Written) (at : ℕ) (marks slots marks' slots' : ℕ → ℕ → Written) (layout after : Layout) (p : ℕ) → IsSettledPage old at slots layout p → IsUntouched marks slots layout marks' slots' after p → IsSettledPage old at slots' after p
settled_still old at marks slots marks' slots' layout after p h u s t = as_read (old at s) (slots (held_at layout.held p).page s) (slots' (held_at after.held p).page s) (ap (λ (q : ℕ). slots' q s) u.place ∙ u.slots_there s) (h s t)

from_read : (old mid new : Written) → mid ≡ old → IsReadAs mid new → IsReadAs old new
from_read old mid new e r = rw e at r

pub told_there : (marks slots marks' slots' : ℕ → ℕ → Written) (at there : ℕ) → there ≡ at → marks' at 0 ≡ marks at 0 → ((s : ℕ) → slots' at s ≡ slots at s) → IsOpenTold marks slots at → IsOpenTold marks' slots' there
told_there marks slots marks' slots' at there e m k told = rw e (λ b s t. rw (k s) (told (rw m at b) s t))

-- and one that is settled now was as it is found
pub settled_now : (marks slots marks' slots' slots'' : ℕ → ℕ → Written) (layout mid after : Layout) (p : ℕ) → IsUntouched marks slots layout marks' slots' mid p
    → (IsOpenTold marks' slots' (held_at mid.held p).page → IsSettledPage slots' (held_at mid.held p).page slots'' after p)
    → IsOpenTold marks slots (held_at layout.held p).page → IsSettledPage slots (held_at layout.held p).page slots'' after p
settled_now marks slots marks' slots' slots'' layout mid after p u settles told s t =
    let now = settles (told_there marks slots marks' slots' (held_at layout.held p).page (held_at mid.held p).page u.place u.open_there u.slots_there told) s t in
    from_read (slots (held_at layout.held p).page s) (slots' (held_at mid.held p).page s) (slots'' (held_at after.held p).page s) (ap (λ (q : ℕ). slots' q s) u.place ∙ u.slots_there s) now

pub untouched_found : (before found mid : Layout) (marks slots marks' slots' : ℕ → ℕ → Written) (p : ℕ) → p < before.pages → IsFound before found → ((q : ℕ) → (held_at mid.held q).page ≡ (held_at found.held q).page) → Same slots slots' → IsSameOpen marks marks' → IsUntouched marks slots before marks' slots' mid p
untouched_found before found mid marks slots marks' slots' p b f place same opened = record {
  place = place p ∙ f.page p b;
  slots_there = λ s. same (held_at before.held p).page s;
  open_there = opened (held_at before.held p).page;
}

pub settled_there : (marks slots marks' slots' slots'' : ℕ → ℕ → Written) (layout mid after : Layout) (p page : ℕ) → p ≡ page → IsUntouched marks slots layout marks' slots' mid page
    → (IsOpenTold marks' slots' (held_at mid.held page).page → IsSettledPage slots' (held_at mid.held page).page slots'' after page)
    → IsOpenTold marks slots (held_at layout.held p).page → IsSettledPage slots (held_at layout.held p).page slots'' after p
settled_there marks slots marks' slots' slots'' layout mid after p page e u settles = rw e (settled_now marks slots marks' slots' slots'' layout mid after page u settles)

pub settled_found : (before found mid after : Layout) (marks slots marks' slots' slots'' : ℕ → ℕ → Written) (p : ℕ) → p < before.pages → IsFound before found → ((q : ℕ) → (held_at mid.held q).page ≡ (held_at found.held q).page) → Same slots slots' → IsSameOpen marks marks'
    → (IsOpenTold marks' slots' (held_at mid.held p).page → IsSettledPage slots' (held_at mid.held p).page slots'' after p)
    → IsOpenTold marks slots (held_at before.held p).page → IsSettledPage slots (held_at before.held p).page slots'' after p
settled_found before found mid after marks slots marks' slots' slots'' p b f place same opened settles =
    settled_now marks slots marks' slots' slots'' before mid after p (untouched_found before found mid marks slots marks' slots' p b f place same opened) settles

-- numbers that a bump raises
pub raised_left : (old new first : Held) (here : Type 0) → IsRaised old new here → (here → ⊥) → old ≡ first → new ≡ first
raised_left old new first here r never e = elim r [
  | inl same ↦ same ∙ e
  | inr raised ↦ absurd (never raised.0)
]

pub raised_still : (old new first : Held) (here : Type 0) → IsRaised old new here → old.number ≤ first.number + 2 → (here → old ≡ first) → new.number ≤ first.number + 2
raised_still old new first here r l e = elim r [
  | inl same ↦ rw same l
  | inr raised ↦ (let n : old.number ≡ first.number = ap (λ (h : Held). h.number) (e raised.0) in let m = raised.1 in omega arith)
]

pub room_as : (triples triples' : ℕ) (first now : Held) → triples' ≡ triples → now ≡ first → HasRoom triples first → HasRoom triples' now
room_as triples triples' first now t e r = rw (t, e) r

pub room_found : (triples : ℕ) (before found : Layout) → IsFound before found → ((p : ℕ) → p < before.pages → HasRoom triples (held_at before.held p)) → (p : ℕ) → p < found.pages → HasRoom triples (held_at found.held p)
room_found triples before found f room p b =
    let l : p < before.pages = rw f.pages at b in
    let r = room p l in
    record { mark = rw (f.index p l) r.mark; number = rw (f.number p l) r.number }
