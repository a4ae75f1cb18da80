-- Which claims count after a move.
use Rattle.std.proofs.Common.{◌≡◌, ℕ, ◌+◌, ◌*◌, ◌<◌, ◌^◌, ◌⊎◌, List, Result, Ok, Err, IfOk, length, slice_set, arith, ◌∙◌, ap, refl, inl, inr}
use Rattle.std.proofs.lemmas.Bool.Decides.{eqb_tells}
use Rattle.std.proofs.lemmas.List.Elements.{All-contains}
use Rattle.std.specs.List.{Contains}
use Rattle.steady_flash.specs.Cells.{Written, erased}
use Rattle.steady_flash.specs.Marked.{Size, Same, OnePlace, OnePageOfPlaces}
use Rattle.steady_flash.specs.Layout.{held_at}
use Rattle.steady_flash.specs.Moves.{moved}
use Rattle.steady_flash.specs.Claims.{word_of, IsClaim, IsBegun, IsFirm, Counts, IsClaimed, IsErasedMarks, IsMarked}
use Rattle.steady_flash.specs.declared.layout.Held.{Held}
use Rattle.steady_flash.specs.declared.layout.Layout.{Layout}
use Rattle.steady_flash.proofs.Layouts.{at_set, laid_moved, laid_bumped}

pub begun_before : (marks marks' : ℕ → ℕ → Written) (pages q j p m : ℕ) → marks' q (1 + 3 * j) ≡ marks q (1 + 3 * j) → IsBegun marks' pages q j p m → IsBegun marks pages q j p m
begun_before marks marks' pages q j p m e b = record { bytes = b.bytes; begun = rw e at b.begun; claims = b.claims }

pub none_begun : (mark : Written) (x : List ℕ) → mark ≡ erased → Contains mark.begun x → ⊥
none_begun mark x e c = (let d = rw e at c in omega (arith, d.1))

firm_still : (mark mark' : Written) (pages at p n : ℕ) → mark' ≡ mark → IsFirm mark pages at p n → IsFirm mark' pages at p n
firm_still mark mark' pages at p n e f = rw e f

-- the marks of claims are as they were, or erased on a page that holds none that counts
counts_still : (size : Size) (marks marks' : ℕ → ℕ → Written) (pages x i p n spare : ℕ) → x < size.pages → i < size.triples → (x ≡ spare → ⊥)
    → ((q j : ℕ) → q < size.pages → j < size.triples → (marks' q (1 + 3 * j) ≡ marks q (1 + 3 * j)) ⊎ ((q ≡ spare) × (marks' q (1 + 3 * j) ≡ erased)))
    → Counts size marks pages x i p n → Counts size marks' pages x i p n
counts_still size marks marks' pages x i p n spare b t apart kept c = record {
  some = c.some;
  small = c.small;
  firm = elim (kept x i b t) [
    | inl same ↦ firm_still (marks x (1 + 3 * i)) (marks' x (1 + 3 * i)) pages x p n same c.firm
    | inr gone ↦ absurd (apart gone.0)
  ];
  greatest = λ q j m d e g. elim (kept q j d e) [
    | inl same ↦ c.greatest q j m d e (begun_before marks marks' pages q j p m same g)
    | inr gone ↦ absurd (none_begun (marks' q (1 + 3 * j)) g.bytes gone.1 g.begun)
  ];
  alone = λ q j d e g. elim (kept q j d e) [
    | inl same ↦ c.alone q j d e (begun_before marks marks' pages q j p n same g)
    | inr gone ↦ absurd (none_begun (marks' q (1 + 3 * j)) g.bytes gone.1 g.begun)
  ];
}

pub claimed_still : (size : Size) (marks marks' : ℕ → ℕ → Written) (layout : Layout) → IsClaimed size marks layout
    → ((q j : ℕ) → q < size.pages → j < size.triples → (marks' q (1 + 3 * j) ≡ marks q (1 + 3 * j)) ⊎ ((q ≡ layout.spare) × (marks' q (1 + 3 * j) ≡ erased)))
    → IsClaimed size marks' layout
claimed_still size marks marks' layout c kept = record {
  laid_out = c.laid_out;
  counts = λ p b. counts_still size marks marks' layout.pages (held_at layout.held p).page (held_at layout.held p).index p (held_at layout.held p).number layout.spare (omega (arith, c.laid_out.placed.page p b, c.laid_out.placed.served.count)) (c.laid_out.placed.index p b) (c.laid_out.free p b) kept (c.counts p b);
}

pub claimed_same : (size : Size) (marks marks' : ℕ → ℕ → Written) (layout : Layout) → Same marks marks' → IsClaimed size marks layout → IsClaimed size marks' layout
claimed_same size marks marks' layout same c = claimed_still size marks marks' layout c (λ q j d e. inl (same q (1 + 3 * j)))

pub claimed_prepared : (size : Size) (marks marks' : ℕ → ℕ → Written) (layout : Layout) → OnePageOfPlaces marks layout.spare marks' → IsErasedMarks marks' size.triples layout.spare → IsClaimed size marks layout → IsClaimed size marks' layout
claimed_prepared size marks marks' layout others gone c =
    claimed_still size marks marks' layout c (λ q j d e. elim (eqb_tells q layout.spare) [
      | inl here ↦ inr (here.1, rw (here.1) (gone (1 + 3 * j) (omega arith)))
      | inr apart ↦ inl (others q (1 + 3 * j) apart.1)
    ])

-- one claim more, on the spare page
pub same_number : (pages at p m p' m' : ℕ) (x y : List ℕ) → x ≡ y → IsClaim pages at p m x → IsClaim pages at p' m' y → (p ≡ p') × (m ≡ m')
same_number pages at p m p' m' x y e c d =
    let says : word_of x ≡ word_of y = ap word_of e in
    let one = c.says in
    let two = d.says in
    let small = c.small in
    let small' = d.small in
    (omega arith, omega arith)

-- the marks of claims are as they were but for the first of the spare page, in which this claim alone was begun
pub record IsClaimedBy (size : Size) (marks marks' : ℕ → ℕ → Written) (pages spare page number : ℕ) : Type 0 where
  pub bytes : List ℕ
  pub claims : IsClaim pages spare page number bytes
  pub there : IsMarked bytes (marks' spare 1)
  pub others : (q j : ℕ) → (q ≡ spare → j ≡ 0 → ⊥) → marks' q (1 + 3 * j) ≡ marks q (1 + 3 * j)

which : (marks marks' : ℕ → ℕ → Written) (pages spare page number q j p m : ℕ) (size : Size) → IsClaimedBy size marks marks' pages spare page number → IsBegun marks' pages q j p m
    → ((q ≡ spare) × (j ≡ 0) × (p ≡ page) × (m ≡ number)) ⊎ IsBegun marks pages q j p m
which marks marks' pages spare page number q j p m size k g = elim (eqb_tells q spare) [
  | inr apart ↦ inr (begun_before marks marks' pages q j p m (k.others q j (λ e f. apart.1 e)) g)
  | inl there ↦ elim (eqb_tells j 0) [
    | inr later ↦ inr (begun_before marks marks' pages q j p m (k.others q j (λ e f. later.1 f)) g)
    | inl first ↦ (let begun = rw (there.1, first.1) at g.begun in
        let claims = rw (there.1) at g.claims in
        let only : g.bytes ≡ k.bytes = All-contains (λ (b : List ℕ). b ≡ k.bytes) (marks' spare 1).begun g.bytes k.there.takes begun in
        let same = same_number pages spare p m page number g.bytes k.bytes only claims k.claims in
        inl (there.1, first.1, same.0, same.1))
  ]
]

counts_moved : (size : Size) (marks marks' : ℕ → ℕ → Written) (pages spare page number x i n : ℕ) → IsClaimedBy size marks marks' pages spare page number → n + 1 ≡ number → number < 2 ^ 21 → Counts size marks pages x i page n → Counts size marks' pages spare 0 page number
counts_moved size marks marks' pages spare page number x i n k e b c = record {
  some = omega arith;
  small = b;
  firm = record { bytes = k.bytes; claims = k.claims; least = k.there.least; most = k.there.most };
  greatest = λ q j m d t g. elim (which marks marks' pages spare page number q j page m size k g) [
    | inl it ↦ (let same = it.3 in omega arith)
    | inr before ↦ (let l = c.greatest q j m d t before in omega arith)
  ];
  alone = λ q j d t g. elim (which marks marks' pages spare page number q j page number size k g) [
    | inl it ↦ (it.0, it.1)
    | inr before ↦ (let l = c.greatest q j number d t before in absurd (omega arith))
  ];
}

counts_beside : (size : Size) (marks marks' : ℕ → ℕ → Written) (pages spare page number x i p n : ℕ) → IsClaimedBy size marks marks' pages spare page number → (x ≡ spare → ⊥) → (p ≡ page → ⊥) → Counts size marks pages x i p n → Counts size marks' pages x i p n
counts_beside size marks marks' pages spare page number x i p n k apart other c = record {
  some = c.some;
  small = c.small;
  firm = firm_still (marks x (1 + 3 * i)) (marks' x (1 + 3 * i)) pages x p n (k.others x i (λ e f. apart e)) c.firm;
  greatest = λ q j m d t g. elim (which marks marks' pages spare page number q j p m size k g) [
    | inl it ↦ absurd (other it.2)
    | inr before ↦ c.greatest q j m d t before
  ];
  alone = λ q j d t g. elim (which marks marks' pages spare page number q j p n size k g) [
    | inl it ↦ absurd (other it.2)
    | inr before ↦ c.alone q j d t before
  ];
}

pub claimed_moved : (size : Size) (marks marks' : ℕ → ℕ → Written) (layout : Layout) (page : ℕ) → page < layout.pages → (held_at layout.held page).number + 1 < 2 ^ 21 → IsClaimed size marks layout
    → IsClaimedBy size marks marks' layout.pages layout.spare page ((held_at layout.held page).number + 1) → IsClaimed size marks' (moved layout page)
claimed_moved size marks marks' layout page b n c k =
    let in_held : page < length layout.held = omega (arith, c.laid_out.placed.eight, c.laid_out.placed.served.most) in
    record {
      laid_out = laid_moved size layout page _ c.laid_out b refl (omega (arith, c.laid_out.placed.served.few)) n;
      counts = λ p d. at_set (λ (h : Held). Counts size marks' layout.pages h.page h.index p h.number) layout.held page p _ in_held
          (λ same. rw same (counts_moved size marks marks' layout.pages layout.spare page ((held_at layout.held page).number + 1) _ _ _ k refl n (c.counts page b)))
          (λ other. counts_beside size marks marks' layout.pages layout.spare page ((held_at layout.held page).number + 1) _ _ p _ k (c.laid_out.free p d) other (c.counts p d));
    }

-- the marks of a switch: about, the claim and done
pub switched : (size : Size) (marks one two three : ℕ → ℕ → Written) (pages spare page number x i : ℕ) (bytes : List ℕ) → OnePlace marks x (3 + 3 * i) one → OnePlace one spare 1 two → OnePlace two spare 2 three → IsClaim pages spare page number bytes → IsMarked bytes (two spare 1)
    → IsClaimedBy size marks three pages spare page number
switched size marks one two three pages spare page number x i bytes a b d c m = record {
  bytes = bytes;
  claims = c;
  there = rw (d spare 1 (λ e f. omega arith)) m;
  others = λ q j apart. d q (1 + 3 * j) (λ e f. omega arith) ∙ b q (1 + 3 * j) (λ e f. apart e (omega arith)) ∙ a q (1 + 3 * j) (λ e f. omega arith);
}

pub if_any : {A E : Type 0} (r : Result A E) (X : Type 0) → X → IfOk r (λ _. X)
if_any (Ok a) X x = x
if_any (Err e) X x = tt

-- a mark that no claim is
pub claimed_open_mark : (size : Size) (marks marks' : ℕ → ℕ → Written) (layout : Layout) (at : ℕ) → OnePlace marks at 0 marks' → IsClaimed size marks layout → IsClaimed size marks' layout
claimed_open_mark size marks marks' layout at others c = claimed_still size marks marks' layout c (λ q j d e. inl (others q (1 + 3 * j) (λ f h. omega arith)))

-- and what no claim says
pub claimed_flagged : (size : Size) (marks : ℕ → ℕ → Written) (layout : Layout) (page : ℕ) (x : Held) → page < layout.pages → x.page ≡ (held_at layout.held page).page → x.index ≡ (held_at layout.held page).index → x.number ≡ (held_at layout.held page).number
    → IsClaimed size marks layout → IsClaimed size marks (record { pages = layout.pages; held = slice_set layout.held page x; spare = layout.spare })
claimed_flagged size marks layout page x b e f n c =
    let in_held : page < length layout.held = omega (arith, c.laid_out.placed.eight, c.laid_out.placed.served.most) in
    record {
      laid_out = laid_bumped size layout page x c.laid_out b e (rw f (c.laid_out.placed.index page b)) (rw n (c.laid_out.placed.number page b));
      counts = λ p d. at_set (λ (h : Held). Counts size marks layout.pages h.page h.index p h.number) layout.held page p x in_held
          (λ same. rw (same, e, f, n) (c.counts page b))
          (λ other. c.counts p d);
    }
