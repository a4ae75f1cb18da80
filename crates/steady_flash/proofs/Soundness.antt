-- What each step of an operation leaves of the marks.
use Rattle.std.proofs.Common.{◌≡◌, ℕ, ◌+◌, ◌*◌, ◌<◌, ◌≤◌, ◌⊎◌, List, arith, sym, ◌∙◌, inl, inr}
use Rattle.std.proofs.lemmas.Bool.{cases_lt}
use Rattle.std.proofs.lemmas.Bool.Decides.{eqb_tells}
use Rattle.std.proofs.lemmas.List.{get_or-replicate, get_or_past, length-replicate}
use Rattle.std.proofs.lemmas.List.Elements.{All-contains}
use Rattle.std.specs.List.{Contains}
use Rattle.flash_model.specs.Torn.{Within}
use Rattle.steady_flash.specs.Cells.{IsEight, Written, blank, erased}
use Rattle.steady_flash.specs.Marked.{Size, OnePlace}
use Rattle.steady_flash.specs.Layout.{held_at}
use Rattle.steady_flash.specs.Moves.{IsTorn}
use Rattle.steady_flash.specs.Claims.{IsClaim, IsBegun, IsMarked}
use Rattle.steady_flash.specs.Sound.{Standing, zeros, IsClaimTorn, IsClaimWhole, IsPending, IsHeld, IsAbout, IsAllowed, IsSound, IsSameClaim, IsFoundBy}
use Rattle.steady_flash.specs.declared.layout.Held.{Held}
use Rattle.steady_flash.proofs.Cells.{torn_erased, marked_torn}
use Rattle.steady_flash.proofs.Words.{same_word}
use Rattle.steady_flash.proofs.Claiming.{begun_before, same_number}

-- marks of a page as they were, from a place on
abbrev pub SameFrom : (ℕ → ℕ → Written) → (ℕ → ℕ → Written) → ℕ → ℕ → ℕ → Type 0
SameFrom old new at from to = (m : ℕ) → from < m → m ≤ to → new at m ≡ old at m

pub torn_as : (old new : Written) (bytes : List ℕ) → new ≡ old → IsTorn bytes old → IsTorn bytes new
torn_as old new bytes e t = rw e t

claim_as : (old new : Written) (pages at page number : ℕ) → new ≡ old → IsClaimTorn old pages at page number → IsClaimTorn new pages at page number
claim_as old new pages at page number e t = rw e t

whole_as : (old new : Written) (pages at page number : ℕ) → new ≡ old → IsClaimWhole old pages at page number → IsClaimWhole new pages at page number
whole_as old new pages at page number e t = rw e t

pub pending_still : (marks marks' : ℕ → ℕ → Written) (triples pages at page index number : ℕ) → index < triples → SameFrom marks marks' at (3 * index) (3 * triples) → IsPending marks triples pages at page index number → IsPending marks' triples pages at page index number
pending_still marks marks' triples pages at page index number b same c = record {
  claim = claim_as (marks at (1 + 3 * index)) (marks' at (1 + 3 * index)) pages at page number (same (1 + 3 * index) (omega arith) (omega arith)) c.claim;
  done = same (2 + 3 * index) (omega arith) (omega arith) ∙ c.done;
  about = torn_as (marks at (3 + 3 * index)) (marks' at (3 + 3 * index)) zeros (same (3 + 3 * index) (omega arith) (omega arith)) c.about;
  fresh = λ m d e. same m (omega arith) e ∙ c.fresh m d e;
}

pub held_still : (size : Size) (marks marks' : ℕ → ℕ → Written) (pages page : ℕ) (held : Held) → held.index < size.triples → SameFrom marks marks' held.page (3 * held.index) (3 * size.triples) → IsHeld size marks pages page held → IsHeld size marks' pages page held
held_still size marks marks' pages page held b same c = record {
  some = c.some;
  claim = whole_as (marks held.page (1 + 3 * held.index)) (marks' held.page (1 + 3 * held.index)) pages held.page page held.number (same (1 + 3 * held.index) (omega arith) (omega arith)) c.claim;
  about = torn_as (marks held.page (3 + 3 * held.index)) (marks' held.page (3 + 3 * held.index)) zeros (same (3 + 3 * held.index) (omega arith) (omega arith)) c.about;
  next = λ d. pending_still marks marks' size.triples pages held.page page (held.index + 1) (held.number + 2) d (λ m e f. same m (omega arith) f) (c.next d);
}

pub zeros_eight : IsEight zeros
zeros_eight = record {
  eight = length-replicate {A = ℕ} 8 0;
  each = λ k. elim (cases_lt k 8) [
    | inl b ↦ rw (get_or-replicate {A = ℕ} 8 k 0 0 b) (omega arith)
    | inr b ↦ rw (get_or_past {X = ℕ} zeros k 0 (rw (length-replicate {A = ℕ} 8 0) b)) (omega arith)
  ];
}

-- marks that were erased and not programmed since
pub pending_erased : (marks : ℕ → ℕ → Written) (triples pages at page index number : ℕ) → index < triples → ((m : ℕ) → 3 * index < m → m ≤ 3 * triples → marks at m ≡ erased) → IsPending marks triples pages at page index number
pending_erased marks triples pages at page index number b gone = record {
  claim = inl (gone (1 + 3 * index) (omega arith) (omega arith));
  done = gone (2 + 3 * index) (omega arith) (omega arith);
  about = torn_as erased (marks at (3 + 3 * index)) zeros (gone (3 + 3 * index) (omega arith) (omega arith)) (torn_erased zeros zeros_eight);
  fresh = λ m d e. gone m (omega arith) e;
}

-- a claim that was begun has become whole
pub held_now : (size : Size) (marks : ℕ → ℕ → Written) (pages page : ℕ) (held : Held) → 1 ≤ held.number → IsPending marks size.triples pages held.page page held.index held.number → IsClaimWhole (marks held.page (1 + 3 * held.index)) pages held.page page held.number → IsHeld size marks pages page held
held_now size marks pages page held some c whole = record {
  some = some;
  claim = whole;
  about = c.about;
  next = λ d. pending_erased marks size.triples pages held.page page (held.index + 1) (held.number + 2) d (λ m e f. c.fresh m (omega arith) f);
}

-- the mark before a greater claim
pub about_as : (marks marks' : ℕ → ℕ → Written) (held : Held) → marks' held.page (3 + 3 * held.index) ≡ marks held.page (3 + 3 * held.index) → IsAbout marks held → IsAbout marks' held
about_as marks marks' held e a = λ r. a (rw e at r)

pub allowed_about : (marks marks' : ℕ → ℕ → Written) (s : Standing) (p q j m : ℕ) → (IsAbout marks (held_at s.layout.held p) → IsAbout marks' (held_at s.layout.held p)) → IsAllowed marks s p q j m → IsAllowed marks' s p q j m
allowed_about marks marks' s p q j m f a = elim a [
  | inl l ↦ inl l
  | inr r ↦ elim r [
    | inl e ↦ inr (inl e)
    | inr u ↦ inr (inr (f u.0, u.1))
  ]
]

-- no claim was programmed
pub sound_beside : (size : Size) (marks marks' : ℕ → ℕ → Written) (s : Standing) → ((q j : ℕ) → q < size.pages → j < size.triples → marks' q (1 + 3 * j) ≡ marks q (1 + 3 * j))
    → ((p : ℕ) → p < s.layout.pages → IsHeld size marks' s.layout.pages p (held_at s.layout.held p))
    → ((p : ℕ) → p < s.layout.pages → IsAbout marks (held_at s.layout.held p) → IsAbout marks' (held_at s.layout.held p))
    → (s.page < s.layout.pages → IsPending marks' size.triples s.layout.pages s.layout.spare s.page s.index ((held_at s.layout.held s.page).number + 1))
    → IsSound size marks s → IsSound size marks' s
sound_beside size marks marks' s same held about spare c = record {
  laid_out = c.laid_out;
  held = held;
  begun = λ p q j m b d e g. allowed_about marks marks' s p q j m (about p b) (c.begun p q j m b d e (begun_before marks marks' s.layout.pages q j p m (same q j d e) g));
  room = c.room;
  spare = spare;
}

-- a claim that was begun is the one that was programmed, or an earlier one
pub begun_which : (marks marks' : ℕ → ℕ → Written) (pages y k page number : ℕ) (bytes : List ℕ) (q j p m : ℕ) → OnePlace marks y (1 + 3 * k) marks' → IsClaim pages y page number bytes
    → ((x : List ℕ) → Contains (marks' y (1 + 3 * k)).begun x → x ≡ bytes) → IsBegun marks' pages q j p m
    → ((q ≡ y) × (j ≡ k) × (p ≡ page) × (m ≡ number)) ⊎ IsBegun marks pages q j p m
begun_which marks marks' pages y k page number bytes q j p m others claims only g = elim (eqb_tells q y) [
  | inr apart ↦ inr (begun_before marks marks' pages q j p m (others q (1 + 3 * j) (λ e f. apart.1 e)) g)
  | inl there ↦ elim (eqb_tells j k) [
    | inr other ↦ inr (begun_before marks marks' pages q j p m (others q (1 + 3 * j) (λ e f. other.1 (omega (arith, f)))) g)
    | inl here ↦ (let begun = rw (there.1, here.1) at g.begun in
        let says = rw (there.1) at g.claims in
        let same = same_number pages y p m page number g.bytes bytes (only g.bytes begun) says claims in
        inl (there.1, here.1, same.0, same.1))
  ]
]

allowed_at : (marks : ℕ → ℕ → Written) (s : Standing) (y k page number p q j m : ℕ) → q ≡ y → j ≡ k → p ≡ page → m ≡ number → IsAllowed marks s page y k number → IsAllowed marks s p q j m
allowed_at marks s y k page number p q j m a b c d h = rw (a, b, c, d) h

-- a claim was programmed, torn or as a whole
pub sound_claim : (size : Size) (marks marks' : ℕ → ℕ → Written) (s : Standing) (y k page number : ℕ) (bytes : List ℕ) → OnePlace marks y (1 + 3 * k) marks' → IsClaim s.layout.pages y page number bytes
    → ((x : List ℕ) → Contains (marks' y (1 + 3 * k)).begun x → x ≡ bytes)
    → IsAllowed marks s page y k number
    → ((p : ℕ) → p < s.layout.pages → IsHeld size marks' s.layout.pages p (held_at s.layout.held p))
    → (s.page < s.layout.pages → IsPending marks' size.triples s.layout.pages s.layout.spare s.page s.index ((held_at s.layout.held s.page).number + 1))
    → IsSound size marks s → IsSound size marks' s
sound_claim size marks marks' s y k page number bytes others claims only allowed held spare c =
    let about : (p : ℕ) → IsAbout marks (held_at s.layout.held p) → IsAbout marks' (held_at s.layout.held p) = λ p a. about_as marks marks' (held_at s.layout.held p) (others _ _ (λ e f. omega (arith, f))) a in
    record {
      laid_out = c.laid_out;
      held = held;
      begun = λ p q j m b d e g. allowed_about marks marks' s p q j m (about p) (elim (begun_which marks marks' s.layout.pages y k page number bytes q j p m others claims only g) [
        | inl it ↦ allowed_at marks s y k page number p q j m it.0 it.1 it.2 it.3 allowed
        | inr before ↦ c.begun p q j m b d e before
      ]);
      room = c.room;
      spare = spare;
    }

-- a mark was programmed that leaves a page held
pub held_beside : (size : Size) (marks marks' : ℕ → ℕ → Written) (pages page y m : ℕ) (held : Held) → OnePlace marks y m marks' → held.index < size.triples → (y ≡ held.page → (m < 3 + 3 * held.index) × (m ≡ 1 + 3 * held.index → ⊥)) → IsHeld size marks pages page held → IsHeld size marks' pages page held
held_beside size marks marks' pages page y m held others b apart c = record {
  some = c.some;
  claim = whole_as (marks held.page (1 + 3 * held.index)) (marks' held.page (1 + 3 * held.index)) pages held.page page held.number (others held.page (1 + 3 * held.index) (λ e f. (apart (sym e)).1 (sym f))) c.claim;
  about = torn_as (marks held.page (3 + 3 * held.index)) (marks' held.page (3 + 3 * held.index)) zeros (others held.page (3 + 3 * held.index) (λ e f. (let l = (apart (sym e)).0 in omega arith))) c.about;
  next = λ d. pending_still marks marks' size.triples pages held.page page (held.index + 1) (held.number + 2) d (λ n e f. others held.page n (λ g h. (let l = (apart (sym g)).0 in omega arith))) (c.next d);
}

-- the mark before a greater claim was
pub held_about : (size : Size) (marks marks' : ℕ → ℕ → Written) (pages page : ℕ) (held : Held) → OnePlace marks held.page (3 + 3 * held.index) marks' → IsTorn zeros (marks' held.page (3 + 3 * held.index)) → IsHeld size marks pages page held → IsHeld size marks' pages page held
held_about size marks marks' pages page held others torn c = record {
  some = c.some;
  claim = whole_as (marks held.page (1 + 3 * held.index)) (marks' held.page (1 + 3 * held.index)) pages held.page page held.number (others held.page (1 + 3 * held.index) (λ e f. omega (arith, f))) c.claim;
  about = torn;
  next = λ d. pending_still marks marks' size.triples pages held.page page (held.index + 1) (held.number + 2) d (λ n e f. others held.page n (λ g h. omega arith)) (c.next d);
}

pending_about : (marks marks' : ℕ → ℕ → Written) (triples pages at page index number : ℕ) → OnePlace marks at (3 + 3 * index) marks' → IsTorn zeros (marks' at (3 + 3 * index)) → IsPending marks triples pages at page index number → IsPending marks' triples pages at page index number
pending_about marks marks' triples pages at page index number others torn c = record {
  claim = claim_as (marks at (1 + 3 * index)) (marks' at (1 + 3 * index)) pages at page number (others at (1 + 3 * index) (λ e f. omega (arith, f))) c.claim;
  done = others at (2 + 3 * index) (λ e f. omega (arith, f)) ∙ c.done;
  about = torn;
  fresh = λ m d e. others at m (λ f g. omega arith) ∙ c.fresh m d e;
}

pending_claim : (marks marks' : ℕ → ℕ → Written) (triples pages at page index number : ℕ) → OnePlace marks at (1 + 3 * index) marks' → IsClaimTorn (marks' at (1 + 3 * index)) pages at page number → IsPending marks triples pages at page index number → IsPending marks' triples pages at page index number
pending_claim marks marks' triples pages at page index number others torn c = record {
  claim = torn;
  done = others at (2 + 3 * index) (λ e f. omega (arith, f)) ∙ c.done;
  about = torn_as (marks at (3 + 3 * index)) (marks' at (3 + 3 * index)) zeros (others at (3 + 3 * index) (λ e f. omega (arith, f))) c.about;
  fresh = λ m d e. others at m (λ f g. omega arith) ∙ c.fresh m d e;
}

pub held_next : (size : Size) (marks marks' : ℕ → ℕ → Written) (pages page m : ℕ) (held : Held) → held.index < size.triples → OnePlace marks held.page m marks' → 3 + 3 * held.index < m → (held.index + 1 < size.triples → IsPending marks' size.triples pages held.page page (held.index + 1) (held.number + 2)) → IsHeld size marks pages page held → IsHeld size marks' pages page held
held_next size marks marks' pages page m held b others above next c = record {
  some = c.some;
  claim = whole_as (marks held.page (1 + 3 * held.index)) (marks' held.page (1 + 3 * held.index)) pages held.page page held.number (others held.page (1 + 3 * held.index) (λ e f. omega arith)) c.claim;
  about = torn_as (marks held.page (3 + 3 * held.index)) (marks' held.page (3 + 3 * held.index)) zeros (others held.page (3 + 3 * held.index) (λ e f. omega arith)) c.about;
  next = next;
}

-- where no page is held but this one, each other one is as it was
held_apart : (size : Size) (marks marks' : ℕ → ℕ → Written) (s : Standing) (y m : ℕ) → IsSound size marks s → OnePlace marks y m marks' → (p : ℕ) → p < s.layout.pages → (y ≡ (held_at s.layout.held p).page → ⊥) → IsHeld size marks' s.layout.pages p (held_at s.layout.held p)
held_apart size marks marks' s y m c others p b apart = held_beside size marks marks' s.layout.pages p y m (held_at s.layout.held p) others (c.laid_out.placed.index p b) (λ e. absurd (apart e)) (c.held p b)

pub held_each : (size : Size) (marks marks' : ℕ → ℕ → Written) (s : Standing) (page m : ℕ) → page < s.layout.pages → IsSound size marks s → OnePlace marks (held_at s.layout.held page).page m marks' → IsHeld size marks' s.layout.pages page (held_at s.layout.held page) → (p : ℕ) → p < s.layout.pages → IsHeld size marks' s.layout.pages p (held_at s.layout.held p)
held_each size marks marks' s page m b c others here p d = elim (eqb_tells p page) [
  | inl same ↦ rw same.1 here
  | inr apart ↦ held_apart size marks marks' s (held_at s.layout.held page).page m c others p d (λ e. apart.1 (sym (c.laid_out.apart page p b d e)))
]

pub spare_still : (size : Size) (marks marks' : ℕ → ℕ → Written) (s : Standing) (y m : ℕ) → (y ≡ s.layout.spare → ⊥) → IsSound size marks s → OnePlace marks y m marks' → s.page < s.layout.pages → IsPending marks' size.triples s.layout.pages s.layout.spare s.page s.index ((held_at s.layout.held s.page).number + 1)
spare_still size marks marks' s y m apart c others b = pending_still marks marks' size.triples s.layout.pages s.layout.spare s.page s.index ((held_at s.layout.held s.page).number + 1) (c.room b) (λ n d e. others s.layout.spare n (λ f g. apart (sym f))) (c.spare b)

-- the marks before greater claims
pub abouts : (marks marks' : ℕ → ℕ → Written) (s : Standing) (y m : ℕ) → OnePlace marks y m marks' → (Within blank (marks' y m).cells.most → Within blank (marks y m).cells.most) → (p : ℕ) → IsAbout marks (held_at s.layout.held p) → IsAbout marks' (held_at s.layout.held p)
abouts marks marks' s y m others less p a = elim (eqb_tells (held_at s.layout.held p).page y) [
  | inr apart ↦ about_as marks marks' (held_at s.layout.held p) (others _ _ (λ e f. apart.1 e)) a
  | inl there ↦ elim (eqb_tells (3 + 3 * (held_at s.layout.held p).index) m) [
    | inr other ↦ about_as marks marks' (held_at s.layout.held p) (others _ _ (λ e f. other.1 f)) a
    | inl here ↦ (λ r. a (rw (there.1, here.1) (less (rw (there.1, here.1) at r))))
  ]
]

pub no_claim_there : (marks marks' : ℕ → ℕ → Written) (y m q j : ℕ) → OnePlace marks y m marks' → (m ≡ 1 + 3 * j → ⊥) → marks' q (1 + 3 * j) ≡ marks q (1 + 3 * j)
no_claim_there marks marks' y m q j others apart = others q (1 + 3 * j) (λ e f. apart (sym f))

-- the mark before a greater claim, where a start has found a page
pub sound_about : (size : Size) (marks marks' : ℕ → ℕ → Written) (s : Standing) (page : ℕ) (held : Held) → page < s.layout.pages → held.index < size.triples → IsFoundBy marks s page held → OnePlace marks held.page (3 + 3 * held.index) marks' → IsTorn zeros (marks' held.page (3 + 3 * held.index))
    → (Within blank (marks' held.page (3 + 3 * held.index)).cells.most → Within blank (marks held.page (3 + 3 * held.index)).cells.most) → IsSound size marks s → IsSound size marks' s
sound_about size marks marks' s page held b t f others torn less c =
    let now = held_at s.layout.held page in
    sound_beside size marks marks' s (λ q j d e. no_claim_there marks marks' held.page (3 + 3 * held.index) q j others (λ g. omega (arith, g)))
    (elim f [
      | inl it ↦ held_each size marks marks' s page (3 + 3 * now.index) b c (rw (it.0, it.1) at others) (held_about size marks marks' s.layout.pages page now (rw (it.0, it.1) at others) (rw (it.0, it.1) at torn) (c.held page b))
      | inr above ↦ elim above.1 [
        | inl it ↦ held_each size marks marks' s page (3 + 3 * (now.index + 1)) b c (rw (it.0, it.1) at others) (held_next size marks marks' s.layout.pages page (3 + 3 * (now.index + 1)) now (c.laid_out.placed.index page b) (rw (it.0, it.1) at others) (omega arith)
            (λ d. pending_about marks marks' size.triples s.layout.pages now.page page (now.index + 1) (now.number + 2) (rw (it.0, it.1) at others) (rw (it.0, it.1) at torn) ((c.held page b).next d)) (c.held page b))
        | inr it ↦ λ p d. held_apart size marks marks' s held.page (3 + 3 * held.index) c others p d (λ e. c.laid_out.free p d (sym e ∙ it.0))
      ]
    ])
    (λ p d. abouts marks marks' s held.page (3 + 3 * held.index) others less p)
    (λ d. elim f [
      | inl it ↦ spare_still size marks marks' s held.page (3 + 3 * held.index) (λ e. c.laid_out.free page b (sym it.0 ∙ e)) c others d
      | inr above ↦ elim above.1 [
        | inl it ↦ spare_still size marks marks' s held.page (3 + 3 * held.index) (λ e. c.laid_out.free page b (sym it.0 ∙ e)) c others d
        | inr it ↦ pending_about marks marks' size.triples s.layout.pages s.layout.spare s.page s.index ((held_at s.layout.held s.page).number + 1) (rw (it.0, it.2) at others) (rw (it.0, it.2) at torn) (c.spare d)
      ]
    ])
    c

-- the mark of an open page, and the one behind a whole claim
pub sound_open : (size : Size) (marks marks' : ℕ → ℕ → Written) (s : Standing) (page : ℕ) → page < s.layout.pages → OnePlace marks (held_at s.layout.held page).page 0 marks' → IsSound size marks s → IsSound size marks' s
sound_open size marks marks' s page b others c =
    let now = held_at s.layout.held page in
    sound_beside size marks marks' s (λ q j d e. no_claim_there marks marks' now.page 0 q j others (λ g. omega (arith, g)))
    (held_each size marks marks' s page 0 b c others (held_beside size marks marks' s.layout.pages page now.page 0 now others (c.laid_out.placed.index page b) (λ e. (omega arith, λ f. omega (arith, f))) (c.held page b)))
    (λ p d. about_as marks marks' (held_at s.layout.held p) (others _ _ (λ e f. omega (arith, f))))
    (λ d. spare_still size marks marks' s now.page 0 (λ e. c.laid_out.free page b e) c others d)
    c

pub sound_done : (size : Size) (marks marks' : ℕ → ℕ → Written) (s : Standing) (page : ℕ) → page < s.layout.pages → OnePlace marks (held_at s.layout.held page).page (2 + 3 * (held_at s.layout.held page).index) marks' → IsSound size marks s → IsSound size marks' s
sound_done size marks marks' s page b others c =
    let now = held_at s.layout.held page in
    sound_beside size marks marks' s (λ q j d e. no_claim_there marks marks' now.page (2 + 3 * now.index) q j others (λ g. omega (arith, g)))
    (held_each size marks marks' s page (2 + 3 * now.index) b c others (held_beside size marks marks' s.layout.pages page now.page (2 + 3 * now.index) now others (c.laid_out.placed.index page b) (λ e. (omega arith, λ f. omega (arith, f))) (c.held page b)))
    (λ p d. about_as marks marks' (held_at s.layout.held p) (others _ _ (λ e f. omega (arith, f))))
    (λ d. spare_still size marks marks' s now.page (2 + 3 * now.index) (λ e. c.laid_out.free page b e) c others d)
    c

-- a claim again, where a start has found a page
pub same_claim : (pages at page number : ℕ) (x y : List ℕ) → IsClaim pages at page number x → IsClaim pages at page number y → x ≡ y
same_claim pages at page number x y a b = same_word x y a.word b.word (a.says ∙ sym b.says)

whole_marked : (mark : Written) (pages at page number : ℕ) (bytes : List ℕ) → IsClaimWhole mark pages at page number → IsClaim pages at page number bytes → IsMarked bytes mark
whole_marked mark pages at page number bytes w c = rw (same_claim pages at page number bytes w.bytes c w.claims) w.marked

torn_claim : (mark : Written) (pages at page number : ℕ) (bytes : List ℕ) → IsClaimTorn mark pages at page number → IsClaim pages at page number bytes → IsTorn bytes mark
torn_claim mark pages at page number bytes t c = elim t [
  | inl free ↦ torn_as erased mark bytes free (torn_erased bytes c.word.eight)
  | inr begun ↦ rw (same_claim pages at page number bytes begun.0 c begun.1) begun.2
]

pub found_torn : (size : Size) (marks : ℕ → ℕ → Written) (s : Standing) (page : ℕ) (held : Held) (bytes : List ℕ) → page < s.layout.pages → held.index < size.triples → IsSound size marks s → IsFoundBy marks s page held → IsClaim s.layout.pages held.page page held.number bytes → IsTorn bytes (marks held.page (1 + 3 * held.index))
found_torn size marks s page held bytes b t c f k = elim f [
  | inl it ↦ rw (it.0, it.1) (marked_torn bytes (marks (held_at s.layout.held page).page (1 + 3 * (held_at s.layout.held page).index)) (whole_marked (marks (held_at s.layout.held page).page (1 + 3 * (held_at s.layout.held page).index)) s.layout.pages (held_at s.layout.held page).page page (held_at s.layout.held page).number bytes (c.held page b).claim (rw (it.0, it.2) at k)))
  | inr above ↦ elim above.1 [
    | inl it ↦ rw (it.0, it.1) (torn_claim (marks (held_at s.layout.held page).page (1 + 3 * ((held_at s.layout.held page).index + 1))) s.layout.pages (held_at s.layout.held page).page page ((held_at s.layout.held page).number + 2) bytes ((c.held page b).next (rw it.1 at t)).claim (rw (it.0, it.2) at k))
    | inr it ↦ rw (it.0, it.2) (torn_claim (marks s.layout.spare (1 + 3 * s.index)) s.layout.pages s.layout.spare s.page ((held_at s.layout.held s.page).number + 1) bytes (c.spare (rw it.1 at b)).claim (rw (it.0, it.3, it.1) at k))
  ]
]

pub found_marked : (size : Size) (marks : ℕ → ℕ → Written) (s : Standing) (page : ℕ) (held : Held) (bytes : List ℕ) → page < s.layout.pages → IsSound size marks s → IsSameClaim (held_at s.layout.held page) held → IsClaim s.layout.pages held.page page held.number bytes → IsMarked bytes (marks held.page (1 + 3 * held.index))
found_marked size marks s page held bytes b c it k = rw (it.0, it.1) (whole_marked (marks (held_at s.layout.held page).page (1 + 3 * (held_at s.layout.held page).index)) s.layout.pages (held_at s.layout.held page).page page (held_at s.layout.held page).number bytes (c.held page b).claim (rw (it.0, it.2) at k))

held_again : (size : Size) (marks marks' : ℕ → ℕ → Written) (pages page : ℕ) (held : Held) (bytes : List ℕ) → OnePlace marks held.page (1 + 3 * held.index) marks' → IsClaim pages held.page page held.number bytes → IsMarked bytes (marks' held.page (1 + 3 * held.index)) → IsHeld size marks pages page held → IsHeld size marks' pages page held
held_again size marks marks' pages page held bytes others claims marked c = record {
  some = c.some;
  claim = record { bytes = bytes; claims = claims; marked = marked };
  about = torn_as (marks held.page (3 + 3 * held.index)) (marks' held.page (3 + 3 * held.index)) zeros (others held.page (3 + 3 * held.index) (λ e f. omega (arith, f))) c.about;
  next = λ d. pending_still marks marks' size.triples pages held.page page (held.index + 1) (held.number + 2) d (λ n e f. others held.page n (λ g h. omega arith)) (c.next d);
}

pub sound_again : (size : Size) (marks marks' : ℕ → ℕ → Written) (s : Standing) (page : ℕ) (held : Held) (bytes : List ℕ) → page < s.layout.pages → held.index < size.triples → IsFoundBy marks s page held → OnePlace marks held.page (1 + 3 * held.index) marks' → IsClaim s.layout.pages held.page page held.number bytes
    → IsTorn bytes (marks' held.page (1 + 3 * held.index)) → (IsMarked bytes (marks held.page (1 + 3 * held.index)) → IsMarked bytes (marks' held.page (1 + 3 * held.index))) → IsSound size marks s → IsSound size marks' s
sound_again size marks marks' s page held bytes b t f others claims torn marked c =
    let now = held_at s.layout.held page in
    sound_claim size marks marks' s held.page held.index page held.number bytes others claims (λ x d. All-contains (λ (y : List ℕ). y ≡ bytes) (marks' held.page (1 + 3 * held.index)).begun x torn.takes d)
    (elim f [
      | inl it ↦ inr (inl it)
      | inr above ↦ inr (inr above)
    ])
    (elim f [
      | inl it ↦ (let there = marked (found_marked size marks s page held bytes b c it claims) in
          held_each size marks marks' s page (1 + 3 * now.index) b c (rw (it.0, it.1) at others) (held_again size marks marks' s.layout.pages page now bytes (rw (it.0, it.1) at others) (rw (it.0, it.2) at claims) (rw (it.0, it.1) at there) (c.held page b)))
      | inr above ↦ elim above.1 [
        | inl it ↦ held_each size marks marks' s page (1 + 3 * (now.index + 1)) b c (rw (it.0, it.1) at others) (held_next size marks marks' s.layout.pages page (1 + 3 * (now.index + 1)) now (c.laid_out.placed.index page b) (rw (it.0, it.1) at others) (omega arith)
            (λ d. pending_claim marks marks' size.triples s.layout.pages now.page page (now.index + 1) (now.number + 2) (rw (it.0, it.1) at others) (inr (bytes, rw (it.0, it.2) at claims, rw (it.0, it.1) at torn)) ((c.held page b).next d)) (c.held page b))
        | inr it ↦ λ p d. held_apart size marks marks' s held.page (1 + 3 * held.index) c others p d (λ e. c.laid_out.free p d (sym e ∙ it.0))
      ]
    ])
    (λ d. elim f [
      | inl it ↦ spare_still size marks marks' s held.page (1 + 3 * held.index) (λ e. c.laid_out.free page b (sym it.0 ∙ e)) c others d
      | inr above ↦ elim above.1 [
        | inl it ↦ spare_still size marks marks' s held.page (1 + 3 * held.index) (λ e. c.laid_out.free page b (sym it.0 ∙ e)) c others d
        | inr it ↦ pending_claim marks marks' size.triples s.layout.pages s.layout.spare s.page s.index ((held_at s.layout.held s.page).number + 1) (rw (it.0, it.2) at others) (inr (bytes, rw (it.0, it.3, it.1) at claims, rw (it.0, it.2) at torn)) (c.spare d)
      ]
    ])
    c
