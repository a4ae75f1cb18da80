-- A start finds the claims that count, whatever its reads are.
use Rattle.std.proofs.Common.{◌≡◌, ℕ, ◌+◌, ◌*◌, ◌<◌, ◌≤◌, ◌^◌, ◌⊎◌, false, replicate, List, arith, sym, ◌∙◌, ap, inl, inr}
use Rattle.std.proofs.lemmas.Bool.{cases_lt}
use Rattle.std.proofs.lemmas.List.{get_or_past, get_or-replicate, length-replicate}
use Rattle.steady_flash.specs.Cells.{Written, IsReading}
use Rattle.steady_flash.specs.Marked.{Size, IsMarkReading}
use Rattle.steady_flash.specs.Layout.{held_at}
use Rattle.steady_flash.specs.Claims.{IsClaim, IsBegun, IsFirm, Counts, IsClaimed, IsFound, IsFoundTo, IsTaken, IsUnheld}
use Rattle.steady_flash.specs.declared.layout.Held.{Held}
use Rattle.steady_flash.specs.declared.layout.Layout.{Layout}
use Rattle.steady_flash.proofs.Cells.{firm_reading}

-- what reads as a claim was begun as one
pub begun : (marks : ℕ → ℕ → Written) (pages at index page number : ℕ) (read : List ℕ) → IsMarkReading (marks at (1 + 3 * index)) read → IsClaim pages at page number read → IsBegun marks pages at index page number
begun marks pages at index page number read r c = record { bytes = read; begun = r.no_other_word c.word; claims = c }

-- and a firm claim reads as this claim
read_firm : (mark : Written) (pages at page number : ℕ) (read : List ℕ) → IsFirm mark pages at page number → IsReading mark.cells read → IsClaim pages at page number read
read_firm mark pages at page number read f r = rw (firm_reading mark f.bytes read f.least f.most r) f.claims

-- one page
below_now : (size : Size) (marks : ℕ → ℕ → Written) (pages at index p x i n : ℕ) (old new : Held) (read : List ℕ) → Counts size marks pages x i p n → at < size.pages → index < size.triples → IsMarkReading (marks at (1 + 3 * index)) read → IsTaken old new pages at index p read → old.number ≤ n → new.number ≤ n
below_now size marks pages at index p x i n old new read c b t r k l = elim k [
  | inl same ↦ rw same l
  | inr taken ↦ c.greatest at index new.number b t (begun marks pages at index p new.number read r taken.3)
]

same_now : (size : Size) (marks : ℕ → ℕ → Written) (pages at index p x i n : ℕ) (old new : Held) (read : List ℕ) → Counts size marks pages x i p n → at < size.pages → index < size.triples → IsMarkReading (marks at (1 + 3 * index)) read → IsTaken old new pages at index p read
    → (old.number ≡ n → (old.page ≡ x) × (old.index ≡ i)) → new.number ≡ n → (new.page ≡ x) × (new.index ≡ i)
same_now size marks pages at index p x i n old new read c b t r k l e = elim k [
  | inl same ↦ (let was : old.number ≡ n = sym (ap (λ (h : Held). h.number) same) ∙ e in (ap (λ (h : Held). h.page) same ∙ (l was).0, ap (λ (h : Held). h.index) same ∙ (l was).1))
  | inr taken ↦ (let here = c.alone at index b t (begun marks pages at index p n read r (rw e at taken.3)) in (taken.0 ∙ here.0, taken.1 ∙ here.1))
]

no_less : (a b n : ℕ) → a ≡ n → a < b → b ≤ n → b ≡ n
no_less a b n e l h = absurd (omega arith)

still : (old new : Held) (pages at index p n : ℕ) (read : List ℕ) → IsTaken old new pages at index p read → old.number ≡ n → new.number ≤ n → new.number ≡ n
still old new pages at index p n read k e l = elim k [
  | inl same ↦ ap (λ (h : Held). h.number) same ∙ e
  | inr taken ↦ no_less old.number new.number n e taken.2 l
]

pub firm_here : (marks : ℕ → ℕ → Written) (pages at index p x i n : ℕ) (read : List ℕ) → x ≡ at → i ≡ index → IsFirm (marks x (1 + 3 * i)) pages x p n → IsReading (marks at (1 + 3 * index)).cells read → IsClaim pages at p n read
firm_here marks pages at index p x i n read e f firm r =
    let k = rw (e, f) at firm in
    read_firm (marks at (1 + 3 * index)) pages at p n read k r

reached_now : (size : Size) (marks : ℕ → ℕ → Written) (pages at index p x i n : ℕ) (old new : Held) (read : List ℕ) → Counts size marks pages x i p n → IsMarkReading (marks at (1 + 3 * index)) read → IsTaken old new pages at index p read
    → ((m : ℕ) → m < 2 ^ 21 → IsClaim pages at p m read → m ≤ new.number) → new.number ≤ n
    → ((x < at) ⊎ ((x ≡ at) × (i < index)) → old.number ≡ n) → (x < at) ⊎ ((x ≡ at) × (i < index + 1)) → new.number ≡ n
reached_now size marks pages at index p x i n old new read c r k least l was now = elim now [
  | inl before ↦ still old new pages at index p n read k (was (inl before)) l
  | inr here ↦ elim (cases_lt i index) [
    | inl lower ↦ still old new pages at index p n read k (was (inr (here.0, lower))) l
    | inr other ↦ (let e : i ≡ index = omega arith in
        let m = least n c.small (firm_here marks pages at index p x i n read here.0 e c.firm r.cells) in
        omega arith)
  ]
]

pub found_step : (size : Size) (marks : ℕ → ℕ → Written) (before old new : Layout) (at index : ℕ) (read : List ℕ) → IsClaimed size marks before → at < size.pages → index < size.triples → IsMarkReading (marks at (1 + 3 * index)) read
    → IsFoundTo before old at index → new.pages ≡ old.pages
    → ((p : ℕ) → p < old.pages → IsTaken (held_at old.held p) (held_at new.held p) old.pages at index p read)
    → ((p m : ℕ) → p < old.pages → m < 2 ^ 21 → IsClaim old.pages at p m read → m ≤ (held_at new.held p).number)
    → IsFoundTo before new at (index + 1)
found_step size marks before old new at index read c b t r f e taken least =
    let taken_of : (p : ℕ) → p < before.pages → IsTaken (held_at old.held p) (held_at new.held p) before.pages at index p read = λ p l. rw f.pages at (taken p (rw f.pages l)) in
    let least_of : (p m : ℕ) → p < before.pages → m < 2 ^ 21 → IsClaim before.pages at p m read → m ≤ (held_at new.held p).number = λ p m l s. rw f.pages at (least p m (rw f.pages l) s) in
    let below : (p : ℕ) → p < before.pages → (held_at new.held p).number ≤ (held_at before.held p).number = λ p l. below_now size marks before.pages at index p _ _ _ (held_at old.held p) (held_at new.held p) read (c.counts p l) b t r (taken_of p l) (f.below p l) in
    record {
      pages = e ∙ f.pages;
      below = below;
      same = λ p l. same_now size marks before.pages at index p _ _ _ (held_at old.held p) (held_at new.held p) read (c.counts p l) b t r (taken_of p l) (f.same p l);
      reached = λ p l. reached_now size marks before.pages at index p _ _ _ (held_at old.held p) (held_at new.held p) read (c.counts p l) r (taken_of p l) (λ m s. least_of p m l s) (below p l) (f.reached p l);
    }

-- all claims of a page have been read
pub passed : (x i at triples : ℕ) → i < triples → (x < at + 1) ⊎ ((x ≡ at + 1) × (i < 0)) → (x < at) ⊎ ((x ≡ at) × (i < triples))
passed x i at triples l h = elim (cases_lt x at) [
  | inl before ↦ inl before
  | inr other ↦ elim h [
    | inl now ↦ inr (omega arith, l)
    | inr none ↦ absurd (omega (arith, none.1))
  ]
]

pub found_page : (size : Size) (marks : ℕ → ℕ → Written) (before found : Layout) (at : ℕ) → IsClaimed size marks before → IsFoundTo before found at size.triples → IsFoundTo before found (at + 1) 0
found_page size marks before found at c f = record {
  pages = f.pages;
  below = f.below;
  same = f.same;
  reached = λ p l h. f.reached p l (passed _ _ at size.triples (c.laid_out.placed.index p l) h);
}

pub found_none : (size : Size) (marks : ℕ → ℕ → Written) (before found : Layout) → IsClaimed size marks before → found.pages ≡ before.pages → ((p : ℕ) → (held_at found.held p).number ≡ 0) → IsFoundTo before found 0 0
found_none size marks before found c e none = record {
  pages = e;
  below = λ p l. omega (arith, none p);
  same = λ p l h. absurd (omega (arith, none p, (c.counts p l).some));
  reached = λ p l h. elim h [
    | inl x ↦ absurd (omega (arith, x))
    | inr x ↦ absurd (omega (arith, x.1))
  ];
}

pub found_all : (size : Size) (marks : ℕ → ℕ → Written) (before found : Layout) (pages : ℕ) → IsClaimed size marks before → before.pages ≡ pages → IsFoundTo before found (pages + 1) 0 → IsFound before found
found_all size marks before found pages c e f =
    let number : (p : ℕ) → p < before.pages → (held_at found.held p).number ≡ (held_at before.held p).number = λ p l. f.reached p l (inl (omega (arith, c.laid_out.placed.page p l))) in
    record {
      pages = f.pages;
      page = λ p l. (f.same p l (number p l)).0;
      index = λ p l. (f.same p l (number p l)).1;
      number = number;
    }

pub found_elsewhere : (before found : Layout) (spare : ℕ) → IsFound before found → IsFound before (record { pages = found.pages; held = found.held; spare = spare })
found_elsewhere before found spare f = record { pages = f.pages; page = f.page; index = f.index; number = f.number }

abbrev nowhere : Held
nowhere = record { page = 0; index = 0; number = 0; is_opened = false }

pub no_number : (p : ℕ) → (held_at (replicate 8 nowhere) p).number ≡ 0
no_number p = elim (cases_lt p 8) [
  | inl b ↦ ap (λ (h : Held). h.number) (get_or-replicate {A = Held} 8 p nowhere nowhere b)
  | inr b ↦ ap (λ (h : Held). h.number) (get_or_past {X = Held} (replicate 8 nowhere) p nowhere (rw (length-replicate {A = Held} 8 nowhere) b))
]

-- what is found is whole
pub number_found : (size : Size) (marks : ℕ → ℕ → Written) (before found : Layout) → IsClaimed size marks before → IsFound before found → (p : ℕ) → p < found.pages → 1 ≤ (held_at found.held p).number
number_found size marks before found c f p b =
    let l : p < before.pages = rw f.pages at b in
    rw (f.number p l) (c.counts p l).some

pub apart_found : (size : Size) (marks : ℕ → ℕ → Written) (before found : Layout) → IsClaimed size marks before → IsFound before found → (p q : ℕ) → p < found.pages → q < found.pages → (held_at found.held p).page ≡ (held_at found.held q).page → p ≡ q
apart_found size marks before found c f p q b d e =
    let l : p < before.pages = rw f.pages at b in
    let m : q < before.pages = rw f.pages at d in
    c.laid_out.apart p q l m (sym (f.page p l) ∙ e ∙ f.page q m)

pub unheld_found : (size : Size) (marks : ℕ → ℕ → Written) (before found : Layout) (spare : ℕ) → IsClaimed size marks before → IsFound before found → ((q : ℕ) → q ≤ found.pages → IsUnheld found q → IsUnheld found spare) → IsUnheld found spare
unheld_found size marks before found spare c f free =
    free before.spare (rw f.pages c.laid_out.placed.spare) (λ p b n e. (let l : p < before.pages = rw f.pages at b in c.laid_out.free p l (sym (f.page p l) ∙ e)))
