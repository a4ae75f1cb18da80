-- Trusted: what the marks hold at each moment, also behind a power loss in any operation.
use Rattle.shapes.specs.Shapes.{Bytes}
use Rattle.std.specs.Prelude.{◌≡◌, ℕ, ◌+◌, ◌*◌, ◌<◌, ◌≤◌, ◌⊎◌, replicate, [], Bool, true, false}
use Rattle.flash_model.specs.Torn.{Within}
use Rattle.flash_model.specs.Operations.{MayProgram, MayErase}
use Rattle.flash_model.specs.FlashOperation.{FlashOperation, programs, erases}
use Rattle.flash_model.specs.declared.TheConstants.{PAGE_SLOTS}
use Rattle.steady_flash.specs.Cells.{IsEight, Written, IsReading, blank, erased}
use Rattle.steady_flash.specs.Marked.{Size}
use Rattle.steady_flash.specs.Layout.{held_at, IsLaidOut}
use Rattle.steady_flash.specs.Moves.{IsTorn}
use Rattle.steady_flash.specs.Shown.{IsSettled, bytes_of}
use Rattle.steady_flash.specs.Claims.{IsClaim, IsBegun, IsMarked, IsOpenTold}
use Rattle.steady_flash.specs.declared.layout.Held.{Held}
use Rattle.steady_flash.specs.declared.layout.Layout.{Layout}
use Rattle.steady_flash.specs.declared.writing.Failed as Faileds
use Rattle.steady_flash.specs.declared.writing.Failed.{Failed}
use Rattle.steady_flash.specs.declared.moving.Stop as Stops
use Rattle.steady_flash.specs.declared.moving.Stop.{Stop}

-- the claims that count, and one that may have been begun on the spare page: of which page of the log, and where it stands; there is
-- none where the log has no such page
pub record Standing : Type 0 where
  pub layout : Layout
  pub page : ℕ
  pub index : ℕ

-- eight bytes 0
abbrev pub zeros : Bytes
zeros = replicate 8 0

-- a mark that was programmed with this claim alone, whole or torn, or with nothing
abbrev pub IsClaimTorn : Written → ℕ → ℕ → ℕ → ℕ → Type 0
IsClaimTorn mark pages at page number = (mark ≡ erased) ⊎ ((bytes : Bytes) × IsClaim pages at page number bytes × IsTorn bytes mark)

-- a mark that was programmed with this claim alone, and as a whole
pub record IsClaimWhole (mark : Written) (pages at page number : ℕ) : Type 0 where
  pub bytes : Bytes
  pub claims : IsClaim pages at page number bytes
  pub marked : IsMarked bytes mark

-- a claim may have been begun here; what comes behind its whole program was not, and no mark behind
pub record IsPending (marks : ℕ → ℕ → Written) (triples pages at page index number : ℕ) : Type 0 where
  pub claim : IsClaimTorn (marks at (1 + 3 * index)) pages at page number
  pub done : marks at (2 + 3 * index) ≡ erased
  pub about : IsTorn zeros (marks at (3 + 3 * index))
  pub fresh : (m : ℕ) → 3 + 3 * index < m → m ≤ 3 * triples → marks at m ≡ erased

-- a page of the log is held by a whole claim; behind it only that of a bump may have been begun
pub record IsHeld (size : Size) (marks : ℕ → ℕ → Written) (pages page : ℕ) (held : Held) : Type 0 where
  pub some : 1 ≤ held.number
  pub claim : IsClaimWhole (marks held.page (1 + 3 * held.index)) pages held.page page held.number
  pub about : IsTorn zeros (marks held.page (3 + 3 * held.index))
  pub next : held.index + 1 < size.triples → IsPending marks size.triples pages held.page page (held.index + 1) (held.number + 2)

-- of the mark before a greater claim some cell is clear, so that it never reads as blank
abbrev pub IsAbout : (ℕ → ℕ → Written) → Held → Type 0
IsAbout marks held = Within blank (marks held.page (3 + 3 * held.index)).cells.most → ⊥

-- a claim above the one that counts: that of a bump, or the one on the spare page
abbrev pub IsAbove : Standing → ℕ → ℕ → ℕ → ℕ → Type 0
IsAbove standing page at index number = ((at ≡ (held_at standing.layout.held page).page) × (index ≡ (held_at standing.layout.held page).index + 1) × (number ≡ (held_at standing.layout.held page).number + 2))
    ⊎ ((at ≡ standing.layout.spare) × (page ≡ standing.page) × (index ≡ standing.index) × (number ≡ (held_at standing.layout.held page).number + 1))

-- a claim that was begun is lower than the one that counts, or is this one, or is above it, and then the mark before it is whole
abbrev pub IsAllowed : (ℕ → ℕ → Written) → Standing → ℕ → ℕ → ℕ → ℕ → Type 0
IsAllowed marks standing page at index number = (number < (held_at standing.layout.held page).number)
    ⊎ (((at ≡ (held_at standing.layout.held page).page) × (index ≡ (held_at standing.layout.held page).index) × (number ≡ (held_at standing.layout.held page).number))
    ⊎ (IsAbout marks (held_at standing.layout.held page) × IsAbove standing page at index number))

-- what holds of the marks at each moment
pub record IsSound (size : Size) (marks : ℕ → ℕ → Written) (standing : Standing) : Type 0 where
  pub laid_out : IsLaidOut size standing.layout
  pub held : (p : ℕ) → p < standing.layout.pages → IsHeld size marks standing.layout.pages p (held_at standing.layout.held p)
  pub begun : (p q j m : ℕ) → p < standing.layout.pages → q < size.pages → j < size.triples → IsBegun marks standing.layout.pages q j p m → IsAllowed marks standing p q j m
  pub room : standing.page < standing.layout.pages → standing.index < size.triples
  pub spare : standing.page < standing.layout.pages → IsPending marks size.triples standing.layout.pages standing.layout.spare standing.page standing.index ((held_at standing.layout.held standing.page).number + 1)

-- no claim on the spare page
abbrev pub steady_at : Layout → Standing
steady_at layout = record { layout = layout; page = layout.pages; index = 0 }

-- the first claim of the spare page, for this page of the log
abbrev pub moving_at : Layout → ℕ → Standing
moving_at layout page = record { layout = layout; page = page; index = 0 }

-- of a page of the log no claim was begun that is greater than this number
abbrev pub IsQuiet : Size → (ℕ → ℕ → Written) → ℕ → ℕ → ℕ → Type 0
IsQuiet size marks pages page number = (q j m : ℕ) → q < size.pages → j < size.triples → IsBegun marks pages q j page m → m ≤ number

-- and so between the operations of a session
pub record IsCalm (size : Size) (marks : ℕ → ℕ → Written) (layout : Layout) : Type 0 where
  pub sound : IsSound size marks (steady_at layout)
  pub quiet : (p : ℕ) → p < layout.pages → IsQuiet size marks layout.pages p (held_at layout.held p).number

-- a page of the flash that a start may find a page of the log on
abbrev pub IsCandidate : Standing → ℕ → ℕ → Type 0
IsCandidate standing page at = (at ≡ (held_at standing.layout.held page).page) ⊎ ((at ≡ standing.layout.spare) × (page ≡ standing.page))

-- each page is found on no other page than before
pub record Narrows (old new : Standing) : Type 0 where
  pub pages : new.layout.pages ≡ old.layout.pages
  pub each : (p at : ℕ) → p < old.layout.pages → IsCandidate new p at → IsCandidate old p at

-- where a start may find a page, and the mark of the page may read as blank, no slot has a cell in doubt
abbrev pub IsTold : (ℕ → ℕ → Written) → (ℕ → ℕ → Written) → Standing → Type 0
IsTold marks slots standing = (p at : ℕ) → p < standing.layout.pages → IsCandidate standing p at → IsOpenTold marks slots at

-- what a start may show of the log's slots
abbrev pub MayShow : (ℕ → ℕ → Written) → Standing → (ℕ → ℕ → Bytes) → Type 0
MayShow slots standing read = (p : ℕ) → p < standing.layout.pages → (at : ℕ) × IsCandidate standing p at × ((s : ℕ) → s < PAGE_SLOTS → IsReading (slots at s).cells (read p s))

-- a page is held by the same claim
abbrev pub IsSameClaim : Held → Held → Type 0
IsSameClaim old new = (new.page ≡ old.page) × (new.index ≡ old.index) × (new.number ≡ old.number)

-- a start has found a page by the claim that counts, or by one above it
abbrev pub IsFoundBy : (ℕ → ℕ → Written) → Standing → ℕ → Held → Type 0
IsFoundBy marks standing page held = IsSameClaim (held_at standing.layout.held page) held
    ⊎ (IsAbout marks (held_at standing.layout.held page) × IsAbove standing page held.page held.index held.number)

-- one page has been given another claim that counts, and each other one is as it was
pub record Follows (size : Size) (old : ℕ → ℕ → Written) (before : Standing) (page : ℕ) (new : ℕ → ℕ → Written) (after : Standing) : Type 0 where
  pub sound : IsSound size new after
  pub narrows : Narrows before after
  pub kept : (p : ℕ) → (p ≡ page → ⊥) → held_at after.layout.held p ≡ held_at before.layout.held p
  pub others : (p : ℕ) (held : Held) → p < before.layout.pages → (p ≡ page → ⊥) → IsFoundBy old before p held → IsFoundBy new after p held
  pub quiet : (p number : ℕ) → p < before.layout.pages → (p ≡ page → ⊥) → IsQuiet size old before.layout.pages p number → IsQuiet size new before.layout.pages p number

-- behind a step that failed
abbrev pub IsLeft : Size → (ℕ → ℕ → Written) → Standing → ℕ → (ℕ → ℕ → Written) → Type 0
IsLeft size old before page new = (after : Standing) × Follows size old before page new after

-- behind one that did not, the claim by which a start has found a page counts, and the mark before a greater one may not read as blank
abbrev pub IsFirmed : Size → (ℕ → ℕ → Written) → Standing → ℕ → (ℕ → ℕ → Written) → Held → Type 0
IsFirmed size old before page new held = (after : Standing) × Follows size old before page new after × IsSameClaim held (held_at after.layout.held page) × IsAbout new held

-- no greater one was begun
abbrev pub IsBumped : Size → (ℕ → ℕ → Written) → Standing → ℕ → (ℕ → ℕ → Written) → Held → Type 0
IsBumped size old before page new held = (after : Standing) × Follows size old before page new after × IsSameClaim held (held_at after.layout.held page) × IsQuiet size new before.layout.pages page held.number

-- a move of a page that ended early: the claim of the spare page may have been begun, or nothing was
abbrev pub IsStopped : Size → (ℕ → ℕ → Written) → Layout → ℕ → Stop → Type 0
IsStopped size marks layout page Stops.TheVariants.InDoubt = IsSound size marks (moving_at layout page)
IsStopped size marks layout page _ = IsCalm size marks layout

-- a program of the log's flash that failed: the marks are calm, or the flash was given up
abbrev pub IsEnded : Size → (ℕ → ℕ → Written) → Layout → Failed → Type 0
IsEnded size marks layout Faileds.TheVariants.Torn = IsCalm size marks layout
IsEnded size marks layout _ = (after : Standing) × IsSound size marks after

-- a session: until the flash is given up its marks are calm between operations, and from then on they stay sound
abbrev pub IsSteady : Size → (ℕ → ℕ → Written) → Layout → Bool → Type 0
IsSteady size marks layout true = (after : Standing) × IsSound size marks after
IsSteady size marks layout false = IsCalm size marks layout

-- a mark behind an erase, whole or torn: no word was begun that was not before
abbrev pub IsNoNewer : Written → Written → Type 0
IsNoNewer old new = (new.begun ≡ []) ⊎ (new.begun ≡ old.begun)

-- behind a start that failed: each page is found where it may have been found before
abbrev pub IsStill : Size → Standing → (ℕ → ℕ → Written) → Type 0
IsStill size before new = (after : Standing) × IsSound size new after × Narrows before after

-- a start has read the claims before a place: what it has found was begun, and each whole claim is found, or a greater one
pub record HasRead (size : Size) (marks : ℕ → ℕ → Written) (layout : Layout) (at index : ℕ) : Type 0 where
  pub begun : (p : ℕ) → p < layout.pages → 1 ≤ (held_at layout.held p).number → IsBegun marks layout.pages (held_at layout.held p).page (held_at layout.held p).index p (held_at layout.held p).number
  pub reached : (p q j m : ℕ) → p < layout.pages → j < size.triples → (q < at) ⊎ ((q ≡ at) × (j < index)) → IsClaimWhole (marks q (1 + 3 * j)) layout.pages q p m → m ≤ (held_at layout.held p).number

-- the cells show no more than they may have shown before, and each page still says whether a slot of it may have a cell in doubt
pub record Shrinks (size : Size) (before : Standing) (marks slots : ℕ → ℕ → Written) (after : Standing) (marks' slots' : ℕ → ℕ → Written) : Type 0 where
  pub sound : IsSound size marks' after
  pub pages : after.layout.pages ≡ before.layout.pages
  pub shows : (read : ℕ → ℕ → Bytes) → MayShow slots' after read → MayShow slots before read
  pub told : IsTold marks slots before → IsTold marks' slots' after

-- a start that ended early
abbrev pub IsShrunk : Size → Standing → (ℕ → ℕ → Written) → (ℕ → ℕ → Written) → (ℕ → ℕ → Written) → (ℕ → ℕ → Written) → Type 0
IsShrunk size before marks slots marks' slots' = (after : Standing) × Shrinks size before marks slots after marks' slots'

-- and one that was completed: no cell of a slot is in doubt then
pub record IsStarted (size : Size) (before : Standing) (marks slots : ℕ → ℕ → Written) (layout : Layout) (marks' slots' : ℕ → ℕ → Written) : Type 0 where
  pub calm : IsCalm size marks' layout
  pub shrinks : Shrinks size before marks slots (steady_at layout) marks' slots'
  pub settled : IsTold marks slots before → IsSettled slots' layout

-- behind an operation that the power was lost in: each image that a start may show is one of these, and where that is so no page hides
-- a cell in doubt
pub record IsCut (size : Size) (marks slots : ℕ → ℕ → Written) (pages : ℕ) (tells : Type 0) (may_be : Bytes → Type 0) : Type 0 where
  pub standing : Standing
  pub sound : IsSound size marks standing
  pub pages_there : standing.layout.pages ≡ pages
  pub told : tells → IsTold marks slots standing
  pub shows : (read : ℕ → ℕ → Bytes) → ((p s : ℕ) → p < pages → s < PAGE_SLOTS → IsEight (read p s)) → MayShow slots standing read → may_be (bytes_of read pages)

-- the mark of a page does not read as blank, so that its next start settles it
abbrev pub IsOpen : (ℕ → ℕ → Written) → ℕ → Type 0
IsOpen marks at = IsReading (marks at 0).cells blank → ⊥

-- of a program that is so where the page says that slots of it are programmed
abbrev pub IsOperationCut : Size → (ℕ → ℕ → Written) → (ℕ → ℕ → Written) → Layout → Bytes → FlashOperation → Type 0
IsOperationCut size marks slots layout old (erases page) = page < layout.pages → IsCut size marks slots layout.pages (Unit {0}) (MayErase old page)
IsOperationCut size marks slots layout old (programs page slot bytes) = page < layout.pages → slot < PAGE_SLOTS → IsCut size marks slots layout.pages (IsOpen marks (held_at layout.held page).page) (MayProgram old page slot bytes)
