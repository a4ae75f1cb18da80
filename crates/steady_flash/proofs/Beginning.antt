-- Pages that are made say whether they may have a cell in doubt.
use Rattle.std.proofs.Common.{◌≡◌, ℕ, ◌+◌, ◌*◌, ◌<◌, ◌≤◌, replicate, List, Result, Ok, Err, IfOk, get_or, arith, ◌∙◌, ap, refl, inl, inr}
use Rattle.std.proofs.lemmas.Bool.{cases_lt}
use Rattle.std.proofs.lemmas.Bool.Decides.{eqb_tells}
use Rattle.std.proofs.lemmas.List.{get_or-set_other}
use Rattle.steady_flash.specs.Cells.{Written, blank, erased}
use Rattle.steady_flash.specs.Marked.{Size, Same, OnePlace, OnePageOfPlaces}
use Rattle.steady_flash.specs.Layout.{held_at, IsLaidOut}
use Rattle.steady_flash.specs.Moves.{IsErasedPage, moved}
use Rattle.steady_flash.specs.Claims.{IsMarked, IsErasedMarks, IsOpenTold, IsSameOpen}
use Rattle.steady_flash.specs.Shown.{IsSettled}
use Rattle.steady_flash.specs.Told.{IsFoundTold}
use Rattle.steady_flash.specs.declared.layout.Held.{Held}
use Rattle.steady_flash.specs.declared.layout.Layout.{Layout}
use Rattle.steady_flash.proofs.Cells.{firm_reading}
use Rattle.steady_flash.proofs.Claiming.{none_begun}
use Rattle.steady_flash.proofs.Session.{erased_holds, there_after, elsewhere_after}
use Rattle.steady_flash.proofs.Settling.{told_there}

abbrev zeros : List ℕ
zeros = replicate 8 0

pub some_zeros : zeros ≡ blank → ⊥
some_zeros e = (let n : get_or zeros 0 0 ≡ get_or blank 0 0 = ap (λ (b : List ℕ). get_or b 0 0) e in omega (arith, n))

-- a mark of zeros does not read as blank
pub zeros_told : (marks slots : ℕ → ℕ → Written) (at : ℕ) → IsMarked zeros (marks at 0) → IsOpenTold marks slots at
zeros_told marks slots at m r s t =
    let e : blank ≡ zeros = firm_reading (marks at 0) zeros blank m.least m.most r in
    let n : get_or blank 0 0 ≡ get_or zeros 0 0 = ap (λ (b : List ℕ). get_or b 0 0) e in
    absurd (omega (arith, n))

-- and a page that is erased has no cell in doubt
pub erased_told : (marks slots : ℕ → ℕ → Written) (at : ℕ) → IsErasedPage slots at → IsOpenTold marks slots at
erased_told marks slots at e r s t = erased_holds (slots at s) (e s t)

-- one page more
pub told_more : (marks slots marks' slots' : ℕ → ℕ → Written) (at q : ℕ) → OnePlace marks at 0 marks' → OnePageOfPlaces slots at slots' → ((q : ℕ) → q < at → IsOpenTold marks slots q) → IsOpenTold marks' slots' at → q < at + 1 → IsOpenTold marks' slots' q
told_more marks slots marks' slots' at q m k was now b = elim (cases_lt q at) [
  | inl before ↦ told_there marks slots marks' slots' q q refl (m q 0 (λ e _. omega arith)) (λ s. k q s (λ e. omega arith)) (was q before)
  | inr other ↦ (let e : at ≡ q = omega arith in rw e at now)
]

pub erased_more : (marks marks' : ℕ → ℕ → Written) (triples at q : ℕ) → OnePageOfPlaces marks at marks' → ((q : ℕ) → q < at → IsErasedMarks marks triples q) → IsErasedMarks marks' triples at → q < at + 1 → IsErasedMarks marks' triples q
erased_more marks marks' triples at q o was now b m t = elim (cases_lt q at) [
  | inl before ↦ o q m (λ e. omega arith) ∙ was q before m t
  | inr other ↦ (let e : at ≡ q = omega arith in (rw e at now) m t)
]

-- the page behind those of the log has no claim
pub made_told : (size : Size) (marks marks' marks'' slots' slots'' : ℕ → ℕ → Written) (pages : ℕ) → size.pages ≡ pages + 1
    → ((q : ℕ) → q < size.pages → IsErasedMarks marks size.triples q) → ((m : ℕ) → (m ≡ 0 → ⊥) → marks' pages m ≡ marks pages m) → ((m : ℕ) → marks'' pages m ≡ marks' pages m)
    → ((q : ℕ) → q < pages → IsOpenTold marks' slots' q) → Same slots' slots'' → IsSameOpen marks' marks'' → IsFoundTold size marks'' slots'' pages
made_told size marks marks' marks'' slots' slots'' pages e gone begun claimed told same opened at index page number b t c k = elim (cases_lt at pages) [
  | inl here ↦ told_there marks' slots' marks'' slots'' at at refl (opened at) (λ s. same at s) (told at here)
  | inr other ↦ (let there : at ≡ pages = omega arith in
      let none : marks'' pages (1 + 3 * index) ≡ erased = claimed (1 + 3 * index) ∙ begun (1 + 3 * index) (λ z. omega arith) ∙ gone pages (omega arith) (1 + 3 * index) (omega arith) in
      absurd (none_begun (marks'' at (1 + 3 * index)) k.read.bytes (rw there none) (k.read.reads.no_other_word k.read.claims.word)))
]

-- pages that are erased one by one
pub blank_more : (size : Size) (layout : Layout) (old new : ℕ → ℕ → Written) (page p : ℕ) → IsLaidOut size layout → page < layout.pages → OnePageOfPlaces old layout.spare new → IsErasedPage new layout.spare
    → ((p : ℕ) → p < page → IsErasedPage old (held_at layout.held p).page) → p < page + 1 → IsErasedPage new (held_at (moved layout page).held p).page
blank_more size layout old new page p l b o e was c s t = elim (eqb_tells p page) [
  | inl same ↦ there_after size layout new page p s l b same.1 ∙ e s t
  | inr apart ↦ elsewhere_after size layout old new page p s l (omega (arith, c, apart.1)) apart.1 o ∙ was p (omega (arith, c, apart.1)) s t
]

pub small_still : (layout after : Layout) (page p limit : ℕ) → after ≡ moved layout page → (p ≡ page → ⊥) → (held_at layout.held p).number ≤ limit → (held_at after.held p).number ≤ limit
small_still layout after page p limit e apart l = rw (e, get_or-set_other {A = Held} layout.held page p _ _ apart) l

pub blank_settled : (slots : ℕ → ℕ → Written) (layout : Layout) → ((p : ℕ) → p < layout.pages → IsErasedPage slots (held_at layout.held p).page) → IsSettled slots layout
blank_settled slots layout e p s b t = erased_holds (slots (held_at layout.held p).page s) (e p b s t)

pub if_ok : {A E : Type 0} (r : Result A E) (P Q : A → Type 0) → ((a : A) → P a → Q a) → IfOk r P → IfOk r Q
if_ok (Ok a) P Q f h = f a h
if_ok (Err e) P Q f h = tt

pub if_any : {A E : Type 0} (r : Result A E) (P : Type 0) → P → IfOk r (λ _. P)
if_any (Ok a) P h = h
if_any (Err e) P h = tt
