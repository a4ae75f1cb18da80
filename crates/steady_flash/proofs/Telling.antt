-- A start finds pages that count, or may.
use Rattle.std.proofs.Common.{◌≡◌, ℕ, ◌+◌, ◌*◌, ◌<◌, ◌≤◌, ◌^◌, ◌⊎◌, List, arith, ap, inl, inr}
use Rattle.std.proofs.lemmas.Bool.{cases_lt}
use Rattle.steady_flash.specs.Cells.{Written}
use Rattle.steady_flash.specs.Marked.{Size, Same, IsMarkReading}
use Rattle.steady_flash.specs.Layout.{held_at, IsPlaced}
use Rattle.steady_flash.specs.Claims.{IsClaim, IsFirm, IsClaimed, IsTaken, IsOpenTold, IsSettledPage, IsSameOpen}
use Rattle.steady_flash.specs.Shown.{IsSettled}
use Rattle.steady_flash.specs.Sound.{Standing, IsSound, IsCandidate}
use Rattle.steady_flash.specs.Told.{MayRead, IsFoundTold, IsReadTo, MayBeFound}
use Rattle.steady_flash.specs.declared.layout.Held.{Held}
use Rattle.steady_flash.specs.declared.layout.Layout.{Layout}
use Rattle.steady_flash.proofs.Finding.{begun, firm_here, passed}
use Rattle.steady_flash.proofs.Settling.{told_there}

as_read : (marks : ℕ → ℕ → Written) (pages p : ℕ) (old new : Held) → new ≡ old → MayRead marks pages old.page old.index p old.number → MayRead marks pages new.page new.index p new.number
as_read marks pages p old new e r = rw e r

taken_read : (marks : ℕ → ℕ → Written) (pages at index p number page i : ℕ) (read : List ℕ) → page ≡ at → i ≡ index → IsMarkReading (marks at (1 + 3 * index)) read → IsClaim pages at p number read → MayRead marks pages page i p number
taken_read marks pages at index p number page i read e f r c = rw (e, f) (record { bytes = read; reads = r; claims = c })

read_now : (marks : ℕ → ℕ → Written) (pages at index p : ℕ) (old new : Held) (read : List ℕ) → IsMarkReading (marks at (1 + 3 * index)) read → IsTaken old new pages at index p read
    → (1 ≤ old.number → MayRead marks pages old.page old.index p old.number) → 1 ≤ new.number → MayRead marks pages new.page new.index p new.number
read_now marks pages at index p old new read r k was some = elim k [
  | inl same ↦ (let n : new.number ≡ old.number = ap (λ (h : Held). h.number) same in as_read marks pages p old new same (was (omega arith)))
  | inr taken ↦ taken_read marks pages at index p new.number new.page new.index read taken.0 taken.1 r taken.3
]

no_less : (old new : Held) (pages at index p : ℕ) (read : List ℕ) → IsTaken old new pages at index p read → old.number ≤ new.number
no_less old new pages at index p read k = elim k [
  | inl same ↦ (let n : new.number ≡ old.number = ap (λ (h : Held). h.number) same in omega arith)
  | inr taken ↦ (let l = taken.2 in omega arith)
]

least_now : (marks : ℕ → ℕ → Written) (pages at index p q j m : ℕ) (old new : Held) (read : List ℕ) → IsMarkReading (marks at (1 + 3 * index)) read → IsTaken old new pages at index p read
    → ((m : ℕ) → m < 2 ^ 21 → IsClaim pages at p m read → m ≤ new.number)
    → ((q < at) ⊎ ((q ≡ at) × (j < index)) → m ≤ old.number) → (q < at) ⊎ ((q ≡ at) × (j < index + 1)) → IsFirm (marks q (1 + 3 * j)) pages q p m → m ≤ new.number
least_now marks pages at index p q j m old new read r k greatest was now firm =
    let l = no_less old new pages at index p read k in
    elim now [
      | inl before ↦ (let b = was (inl before) in omega arith)
      | inr here ↦ elim (cases_lt j index) [
        | inl lower ↦ (let b = was (inr (here.0, lower)) in omega arith)
        | inr other ↦ greatest m firm.claims.small (firm_here marks pages at index p q j m read here.0 (omega (arith, here.1)) firm r.cells)
      ]
    ]

pub read_step : (size : Size) (marks : ℕ → ℕ → Written) (old new : Layout) (at index : ℕ) (read : List ℕ) → IsMarkReading (marks at (1 + 3 * index)) read → IsReadTo size.triples marks old at index → new.pages ≡ old.pages
    → ((p : ℕ) → p < old.pages → IsTaken (held_at old.held p) (held_at new.held p) old.pages at index p read)
    → ((p m : ℕ) → p < old.pages → m < 2 ^ 21 → IsClaim old.pages at p m read → m ≤ (held_at new.held p).number)
    → IsReadTo size.triples marks new at (index + 1)
read_step size marks old new at index read r f e taken greatest = record {
  read = λ p b. (let l : p < old.pages = rw e at b in rw e (read_now marks old.pages at index p (held_at old.held p) (held_at new.held p) read r (taken p l) (f.read p l)));
  least = λ p q j m b t now firm. (let l : p < old.pages = rw e at b in
      least_now marks old.pages at index p q j m (held_at old.held p) (held_at new.held p) read r (taken p l) (λ n s. greatest p n l s) (λ before. f.least p q j m l t before (rw e at firm)) now (rw e at firm));
}

pub read_page : (triples : ℕ) (marks : ℕ → ℕ → Written) (found : Layout) (at : ℕ) → IsReadTo triples marks found at triples → IsReadTo triples marks found (at + 1) 0
read_page triples marks found at f = record { read = f.read; least = λ p q j m b t now. f.least p q j m b t (passed q j at triples t now) }

pub read_none : (triples : ℕ) (marks : ℕ → ℕ → Written) (found : Layout) → ((p : ℕ) → (held_at found.held p).number ≡ 0) → IsReadTo triples marks found 0 0
read_none triples marks found none = record {
  read = λ p b some. absurd (omega (arith, none p));
  least = λ p q j m b t now firm. elim now [
    | inl x ↦ absurd (omega (arith, x))
    | inr x ↦ absurd (omega (arith, x.1))
  ];
}

pub read_all : (size : Size) (marks : ℕ → ℕ → Written) (found : Layout) (spare pages : ℕ) → size.pages ≡ pages + 1 → IsReadTo size.triples marks found (pages + 1) 0 → ((p : ℕ) → p < found.pages → 1 ≤ (held_at found.held p).number)
    → MayBeFound size marks (record { pages = found.pages; held = found.held; spare = spare })
read_all size marks found spare pages e f some p b = record {
  read = f.read p b (some p b);
  least = λ q j m d t firm. f.least p q j m b t (inl (omega arith)) firm;
}

-- so what a start finds is settled by it
pub settled_told : (size : Size) (marks slots marks' slots' slots'' : ℕ → ℕ → Written) (pages : ℕ) (found mid after : Layout) → IsFoundTold size marks slots pages → MayBeFound size marks found → IsPlaced size found → found.pages ≡ pages
    → ((q : ℕ) → (held_at mid.held q).page ≡ (held_at found.held q).page) → Same slots slots' → IsSameOpen marks marks' → after.pages ≡ found.pages
    → ((p : ℕ) → p < found.pages → IsOpenTold marks' slots' (held_at mid.held p).page → IsSettledPage slots' (held_at mid.held p).page slots'' after p)
    → IsSettled slots'' after
settled_told size marks slots marks' slots' slots'' pages found mid after told f l n place same opened m settles p s b t =
    let d : p < found.pages = rw m at b in
    let at : (held_at found.held p).page < size.pages = omega (arith, l.page p d, l.served.count) in
    let counts = rw n at (f p d) in
    let was = told (held_at found.held p).page (held_at found.held p).index p (held_at found.held p).number at (l.index p d) (rw n at d) counts in
    (settles p d (told_there marks slots marks' slots' (held_at found.held p).page (held_at mid.held p).page (place p) (opened (held_at found.held p).page) (λ r. same (held_at found.held p).page r) was) s t).holds

-- where claims count, and each page says whether it may have a cell in doubt
pub claimed_told : (size : Size) (marks slots : ℕ → ℕ → Written) (before : Layout) → IsClaimed size marks before → ((p : ℕ) → p < before.pages → IsOpenTold marks slots (held_at before.held p).page) → IsFoundTold size marks slots before.pages
claimed_told size marks slots before c told at index page number b t l k =
    let counts = c.counts page l in
    let at_least : (held_at before.held page).number ≤ number = k.least (held_at before.held page).page (held_at before.held page).index (held_at before.held page).number (omega (arith, c.laid_out.placed.page page l, c.laid_out.placed.served.count)) (c.laid_out.placed.index page l) counts.firm in
    let it = begun marks before.pages at index page number k.read.bytes k.read.reads k.read.claims in
    let at_most : number ≤ (held_at before.held page).number = counts.greatest at index number b t it in
    let same : number ≡ (held_at before.held page).number = omega arith in
    let here = counts.alone at index b t (rw same at it) in
    rw (here.0) (told page l)

-- and so behind power losses
pub sound_told : (size : Size) (marks slots : ℕ → ℕ → Written) (s : Standing) → IsSound size marks s → ((p at : ℕ) → p < s.layout.pages → IsCandidate s p at → IsOpenTold marks slots at) → IsFoundTold size marks slots s.layout.pages
sound_told size marks slots s c told at index page number b t l k =
    let held = held_at s.layout.held page in
    let claim = (c.held page l).claim in
    let least : held.number ≤ number = k.least held.page held.index held.number (omega (arith, c.laid_out.placed.page page l, c.laid_out.placed.served.count)) (c.laid_out.placed.index page l) (record { bytes = claim.bytes; claims = claim.claims; least = claim.marked.least; most = claim.marked.most }) in
    elim (c.begun page at index number l b t (begun marks s.layout.pages at index page number k.read.bytes k.read.reads k.read.claims)) [
      | inl lower ↦ absurd (omega arith)
      | inr r ↦ elim r [
        | inl it ↦ told page at l (inl it.0)
        | inr above ↦ elim above.1 [
          | inl it ↦ told page at l (inl it.0)
          | inr it ↦ told page at l (inr (it.0, it.1))
        ]
      ]
    ]
