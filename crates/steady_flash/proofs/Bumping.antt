-- What bumps leave of the marks, and what a start reads.
use Rattle.std.proofs.Common.{◌≡◌, ℕ, ◌+◌, ◌*◌, ◌<◌, ◌≤◌, ◌^◌, List, Result, Ok, Err, MatchResult, arith, sym, ◌∙◌, ap, refl, inl, inr}
use Rattle.std.proofs.lemmas.Bool.{cases_lt}
use Rattle.std.proofs.lemmas.Bool.Decides.{eqb_tells}
use Rattle.flash_model.specs.Torn.{Within}
use Rattle.steady_flash.specs.Cells.{Written, IsReading, blank, erased}
use Rattle.steady_flash.specs.Marked.{Size, IsMarkWord, IsMarkReading, OnePlace}
use Rattle.steady_flash.specs.Layout.{held_at, IsPlaced, IsLaidOut}
use Rattle.steady_flash.specs.Moves.{IsTorn}
use Rattle.steady_flash.specs.Claims.{IsClaim, IsBegun, IsMarked, IsTaken}
use Rattle.steady_flash.specs.Sound.{Standing, zeros, IsClaimWhole, IsHeld, IsAbout, IsSound, IsQuiet, IsCalm, Narrows, IsSameClaim, IsFoundBy, Follows, IsLeft, IsFirmed, IsBumped, IsStill, HasRead, steady_at}
use Rattle.steady_flash.specs.declared.layout.Held.{Held}
use Rattle.steady_flash.specs.declared.layout.Layout.{Layout}
use Rattle.steady_flash.specs.declared.moving.Stop.{Stop}
use Rattle.steady_flash.specs.declared.moving.Stop.TheVariants.{Fault, InDoubt}
use Rattle.steady_flash.proofs.Cells.{marked_torn, one_reading, holds_erased, firm_reading}
use Rattle.steady_flash.proofs.Words.{no_blank}
use Rattle.steady_flash.proofs.Claiming.{begun_before}
use Rattle.steady_flash.proofs.Soundness.{about_as, found_torn, no_claim_there}
use Rattle.steady_flash.proofs.Adopting.{AllowedBy, adopted, adopted_next, follows_itself, follows_then, found_still, step_about, step_again, step_done, zeros_read}

-- a bump, step by step
pub firm_one : (size : Size) (zero one : ℕ → ℕ → Written) (s : Standing) (page : ℕ) (held : Held) → page < s.layout.pages → held.index < size.triples → IsSound size zero s → IsFoundBy zero s page held → OnePlace zero held.page (3 + 3 * held.index) one → IsTorn zeros (one held.page (3 + 3 * held.index))
    → (Within blank (one held.page (3 + 3 * held.index)).cells.most → Within blank (zero held.page (3 + 3 * held.index)).cells.most) → Follows size zero s page one s × IsFoundBy one s page held
firm_one size zero one s page held b t c f others torn less = (step_about size zero one s page held b t f others torn less c, found_still zero one s page held.page (3 + 3 * held.index) held others less f)

pub left_unfirm : (size : Size) (zero one two : ℕ → ℕ → Written) (s : Standing) (page : ℕ) (held : Held) (bytes : List ℕ) → page < s.layout.pages → held.index < size.triples → IsSound size zero s → IsFoundBy zero s page held → OnePlace zero held.page (3 + 3 * held.index) one → IsTorn zeros (one held.page (3 + 3 * held.index))
    → (Within blank (one held.page (3 + 3 * held.index)).cells.most → Within blank (zero held.page (3 + 3 * held.index)).cells.most) → OnePlace one held.page (1 + 3 * held.index) two → IsClaim s.layout.pages held.page page held.number bytes
    → (IsMarked bytes (one held.page (1 + 3 * held.index)) → IsMarked bytes (two held.page (1 + 3 * held.index))) → IsTorn bytes (two held.page (1 + 3 * held.index)) → IsLeft size zero s page two
left_unfirm size zero one two s page held bytes b t c f others torn less others' claims marked torn' =
    let x = firm_one size zero one s page held b t c f others torn less in
    (s, follows_then size zero one two s s s page x.0 (step_again size one two s page held bytes b t x.1 others' claims torn' marked x.0.sound))

found_claim : (marks marks' : ℕ → ℕ → Written) (s : Standing) (page y k : ℕ) (held : Held) → OnePlace marks y (1 + 3 * k) marks' → IsFoundBy marks s page held → IsFoundBy marks' s page held
found_claim marks marks' s page y k held others f = elim f [
  | inl it ↦ inl it
  | inr above ↦ inr (about_as marks marks' (held_at s.layout.held page) (others _ _ (λ e g. omega (arith, g))) above.0, above.1)
]

pub left_firm : (size : Size) (zero one two : ℕ → ℕ → Written) (s : Standing) (page : ℕ) (held : Held) (bytes : List ℕ) → page < s.layout.pages → held.index < size.triples → IsSound size zero s → IsFoundBy zero s page held → OnePlace zero held.page (3 + 3 * held.index) one → IsMarked zeros (one held.page (3 + 3 * held.index))
    → (Within blank (one held.page (3 + 3 * held.index)).cells.most → Within blank (zero held.page (3 + 3 * held.index)).cells.most) → OnePlace one held.page (1 + 3 * held.index) two → IsClaim s.layout.pages held.page page held.number bytes
    → (IsMarked bytes (one held.page (1 + 3 * held.index)) → IsMarked bytes (two held.page (1 + 3 * held.index))) → IsMarked bytes (two held.page (1 + 3 * held.index)) → IsFirmed size zero s page two held
left_firm size zero one two s page held bytes b t c f others marked less others' claims again whole =
    let x = firm_one size zero one s page held b t c f others (marked_torn zeros _ marked) less in
    let y = step_again size one two s page held bytes b t x.1 others' claims (marked_torn bytes _ whole) again x.0.sound in
    let about : IsAbout two held = about_as one two held (others' held.page (3 + 3 * held.index) (λ e g. omega (arith, g))) (zeros_read _ marked) in
    let z = adopted size two s page held b t (found_claim one two s page held.page held.index held others' x.1) (record { bytes = bytes; claims = claims; marked = whole }) about y.sound in
    (z.0, follows_then size zero one two s s z.0 page x.0 (follows_then size one two two s s z.0 page y z.1), z.2, about)

pub next_torn : (size : Size) (zero : ℕ → ℕ → Written) (s : Standing) (page : ℕ) (now next : Held) (bytes : List ℕ) → page < s.layout.pages → IsSound size zero s → IsSameClaim now (held_at s.layout.held page) → IsAbout zero (held_at s.layout.held page) → next.page ≡ now.page → next.index ≡ now.index + 1 → next.number ≡ now.number + 2 → next.index < size.triples
    → IsClaim s.layout.pages next.page page next.number bytes → IsFoundBy zero s page next × IsTorn bytes (zero next.page (1 + 3 * next.index))
next_torn size zero s page now next bytes b c same about e f g t claims =
    let found : IsFoundBy zero s page next = inr (about, inl (e ∙ sym same.0, f ∙ ap (λ (n : ℕ). n + 1) (sym same.1), g ∙ ap (λ (n : ℕ). n + 2) (sym same.2))) in
    (found, found_torn size zero s page next bytes b t c found claims)

pub left_outbid : (size : Size) (zero one : ℕ → ℕ → Written) (s : Standing) (page : ℕ) (next : Held) (bytes : List ℕ) → page < s.layout.pages → next.index < size.triples → IsSound size zero s → IsFoundBy zero s page next → OnePlace zero next.page (1 + 3 * next.index) one → IsClaim s.layout.pages next.page page next.number bytes
    → IsTorn bytes (one next.page (1 + 3 * next.index)) → (IsMarked bytes (zero next.page (1 + 3 * next.index)) → IsMarked bytes (one next.page (1 + 3 * next.index))) → IsLeft size zero s page one
left_outbid size zero one s page next bytes b t c f others claims torn again = (s, step_again size zero one s page next bytes b t f others claims torn again c)

pub left_bumped : (size : Size) (zero one two : ℕ → ℕ → Written) (s : Standing) (page : ℕ) (now next : Held) (bytes : List ℕ) → page < s.layout.pages → next.index < size.triples → IsSound size zero s → IsSameClaim now (held_at s.layout.held page) → next.page ≡ now.page → next.index ≡ now.index + 1 → next.number ≡ now.number + 2
    → IsFoundBy zero s page next → OnePlace zero next.page (1 + 3 * next.index) one → IsClaim s.layout.pages next.page page next.number bytes
    → IsMarked bytes (one next.page (1 + 3 * next.index)) → (IsMarked bytes (zero next.page (1 + 3 * next.index)) → IsMarked bytes (one next.page (1 + 3 * next.index))) → OnePlace one next.page (2 + 3 * next.index) two → IsBumped size zero s page two next
left_bumped size zero one two s page now next bytes b t c same e f g found others claims whole again others' =
    let x = step_again size zero one s page next bytes b t found others claims (marked_torn bytes _ whole) again c in
    let y = adopted_next size one s page next b t (e ∙ sym same.0) (f ∙ ap (λ (n : ℕ). n + 1) (sym same.1)) (g ∙ ap (λ (n : ℕ). n + 2) (sym same.2)) (record { bytes = bytes; claims = claims; marked = whole }) x.sound in
    let z = step_done size one two y.0 page (rw y.1.narrows.pages b) (rw (y.2.0, y.2.1) others') y.1.sound in (
      y.0,
      follows_then size zero one two s s y.0 page x (follows_then size one one two s y.0 y.0 page y.1 z),
      y.2,
      λ q j m d u h. y.3 q j m d u (begun_before one two s.layout.pages q j page m (no_claim_there one two next.page (2 + 3 * next.index) q j others' (λ k. omega (arith, k))) h),
    )

pub bumped_left : (size : Size) (zero two : ℕ → ℕ → Written) (s : Standing) (page : ℕ) (next : Held) → IsBumped size zero s page two next → IsLeft size zero s page two
bumped_left size zero two s page next x = (x.0, x.1)

pub left_then : (size : Size) (zero one two : ℕ → ℕ → Written) (s s' : Standing) (page : ℕ) → Follows size zero s page one s' → IsLeft size one s' page two → IsLeft size zero s page two
left_then size zero one two s s' page f x = (x.0, follows_then size zero one two s s' x.0 page f x.1)

pub bumped_then : (size : Size) (zero one two : ℕ → ℕ → Written) (s s' : Standing) (page : ℕ) (next : Held) → Follows size zero s page one s' → IsBumped size one s' page two next → IsBumped size zero s page two next
bumped_then size zero one two s s' page next f x = (x.0, follows_then size zero one two s s' x.0 page f x.1, x.2, rw f.narrows.pages at x.3)

pub either : {A E : Type 0} (r : Result A E) (X Y : Type 0) → X → Y → MatchResult r (λ _. X) (λ _. Y)
either (Ok a) X Y x y = x
either (Err e) X Y x y = y

-- a page of which the mark behind the claim was programmed, and the one before a greater one reads as blank
within_clear : (mark : Written) → IsReading mark.cells blank → Within blank mark.cells.most
within_clear mark r = r.clear

erased_word : (mark : Written) (read : List ℕ) → mark ≡ erased → IsReading mark.cells read → IsMarkWord read → ⊥
erased_word mark read e r w = no_blank read w (one_reading mark blank read (rw e holds_erased) r)

pub nothing_above : (size : Size) (marks : ℕ → ℕ → Written) (s : Standing) (page : ℕ) (held : Held) (read : List ℕ) → page < s.layout.pages → held.index < size.triples → IsSound size marks s → IsFoundBy marks s page held → IsReading (marks held.page (2 + 3 * held.index)).cells read → IsMarkWord read → IsReading (marks held.page (3 + 3 * held.index)).cells blank
    → IsBumped size marks s page marks held
nothing_above size marks s page held read b t c f done word about = elim f [
  | inl it ↦ (
    s,
    follows_itself size marks s page c,
    (sym it.0, sym it.1, sym it.2),
    λ q j m d u g. elim (c.begun page q j m b d u g) [
      | inl l ↦ (let n = it.2 in omega arith)
      | inr r ↦ elim r [
        | inl same ↦ (let n = it.2 in let k = same.2 in omega arith)
        | inr above ↦ absurd (above.0 (rw (it.0, it.1) at (within_clear (marks held.page (3 + 3 * held.index)) about)))
      ]
    ],
  )
  | inr above ↦ elim above.1 [
    | inl it ↦ absurd (erased_word (marks (held_at s.layout.held page).page (2 + 3 * ((held_at s.layout.held page).index + 1))) read ((c.held page b).next (rw it.1 at t)).done (rw (it.0, it.1) at done) word)
    | inr it ↦ absurd (erased_word (marks s.layout.spare (2 + 3 * s.index)) read (c.spare (rw it.1 at b)).done (rw (it.0, it.2) at done) word)
  ]
]

-- all pages were bumped
held_as : (size : Size) (marks : ℕ → ℕ → Written) (pages page : ℕ) (old new : Held) → IsSameClaim new old → IsHeld size marks pages page old → IsHeld size marks pages page new
held_as size marks pages page old new e c = record {
  some = rw (← e.2) c.some;
  claim = rw (← e.0, ← e.1, ← e.2) c.claim;
  about = rw (← e.0, ← e.1) c.about;
  next = rw (← e.0, ← e.1, ← e.2) c.next;
}

calm_allowed : (marks : ℕ → ℕ → Written) (s s' : Standing) (old new : Held) (p q j m : ℕ) → IsSameClaim new old → m ≤ new.number → AllowedBy marks s old p q j m → AllowedBy marks s' new p q j m
calm_allowed marks s s' old new p q j m e l a = elim a [
  | inl below ↦ inl (let n = e.2 in omega arith)
  | inr r ↦ elim r [
    | inl it ↦ inr (inl (it.0 ∙ e.0, it.1 ∙ e.1, it.2 ∙ e.2))
    | inr u ↦ elim u.1 [
      | inl own ↦ absurd (let n = e.2 in let k = own.2 in omega arith)
      | inr it ↦ absurd (let n = e.2 in let k = it.3 in omega arith)
    ]
  ]
]

pub calm_bumped : (size : Size) (marks : ℕ → ℕ → Written) (s : Standing) (layout : Layout) → IsSound size marks s → IsLaidOut size layout → s.layout.pages ≡ layout.pages → ((p : ℕ) → p < layout.pages → IsSameClaim (held_at layout.held p) (held_at s.layout.held p)) → ((p : ℕ) → p < layout.pages → IsQuiet size marks layout.pages p (held_at layout.held p).number) → IsCalm size marks layout
calm_bumped size marks s layout c laid pages same quiet = record {
  quiet = quiet;
  sound = record {
    laid_out = laid;
    held = λ p b. held_as size marks layout.pages p (held_at s.layout.held p) (held_at layout.held p) (same p b) (rw pages at (c.held p (rw pages b)));
    begun = λ p q j m b d e g. calm_allowed marks s (steady_at layout) (held_at s.layout.held p) (held_at layout.held p) p q j m (same p b) (quiet p b q j m d e g) (c.begun p q j m (rw pages b) d e (rw pages g));
    room = λ b. absurd (omega (arith, b));
    spare = λ b. absurd (omega (arith, b));
  };
}

pub still_bumped : (before s : Standing) (layout : Layout) → Narrows before s → s.layout.pages ≡ layout.pages → ((p : ℕ) → p < layout.pages → IsSameClaim (held_at layout.held p) (held_at s.layout.held p)) → Narrows before (steady_at layout)
still_bumped before s layout n pages same = record {
  pages = sym pages ∙ n.pages;
  each = λ p at b k.
      let here : p < layout.pages = rw (sym pages ∙ n.pages) b in
      elim k [
        | inl own ↦ n.each p at b (inl (own ∙ sym (same p here).0))
        | inr it ↦ absurd (let e = it.1 in omega (arith, here, e))
      ];
}

-- what a start has read
pub reads_none : (size : Size) (marks : ℕ → ℕ → Written) (layout : Layout) → ((p : ℕ) → (held_at layout.held p).number ≡ 0) → HasRead size marks layout 0 0
reads_none size marks layout none = record {
  begun = λ p b some. absurd (omega (arith, none p));
  reached = λ p q j m b d before whole. elim before [
    | inl x ↦ absurd (omega (arith, x))
    | inr x ↦ absurd (omega (arith, x.1))
  ];
}

pub reads_page : (size : Size) (marks : ℕ → ℕ → Written) (layout : Layout) (at : ℕ) → HasRead size marks layout at size.triples → HasRead size marks layout (at + 1) 0
reads_page size marks layout at r = record {
  begun = r.begun;
  reached = λ p q j m b d before whole. r.reached p q j m b d (elim before [
    | inl x ↦ elim (cases_lt q at) [
      | inl lower ↦ inl lower
      | inr here ↦ inr (omega arith, d)
    ]
    | inr x ↦ absurd (omega (arith, x.1))
  ]) whole;
}

not_less : (old new : Held) (pages at index p : ℕ) (read : List ℕ) → IsTaken old new pages at index p read → old.number ≤ new.number
not_less old new pages at index p read t = elim t [
  | inl same ↦ rw same (omega arith)
  | inr taken ↦ omega (arith, taken.2)
]

begun_as : (marks : ℕ → ℕ → Written) (pages p at index : ℕ) (read : List ℕ) (held : Held) → held.page ≡ at → held.index ≡ index → IsMarkReading (marks at (1 + 3 * index)) read → IsClaim pages at p held.number read → IsBegun marks pages held.page held.index p held.number
begun_as marks pages p at index read held e f r c = rw (e, f) (record { bytes = read; begun = r.no_other_word c.word; claims = c })

read_claim : (marks : ℕ → ℕ → Written) (pages p q j at index m : ℕ) (read : List ℕ) → q ≡ at → j ≡ index → IsMarkReading (marks at (1 + 3 * index)) read → IsClaimWhole (marks q (1 + 3 * j)) pages q p m → IsClaim pages at p m read
read_claim marks pages p q j at index m read e f r whole =
    let w = rw (e, f) at whole in
    rw (firm_reading (marks at (1 + 3 * index)) w.bytes read w.marked.least w.marked.most r.cells) w.claims

taken_begun : (size : Size) (marks : ℕ → ℕ → Written) (pages p at index : ℕ) (read : List ℕ) (old new : Held) → IsTaken old new pages at index p read → IsMarkReading (marks at (1 + 3 * index)) read → (1 ≤ old.number → IsBegun marks pages old.page old.index p old.number) → 1 ≤ new.number → IsBegun marks pages new.page new.index p new.number
taken_begun size marks pages p at index read old new t r was some = elim t [
  | inl same ↦ rw same (was (rw same at some))
  | inr taken ↦ begun_as marks pages p at index read new taken.0 taken.1 r taken.3
]

pub reads_step : (size : Size) (marks : ℕ → ℕ → Written) (old new : Layout) (at index : ℕ) (read : List ℕ) → IsMarkReading (marks at (1 + 3 * index)) read → new.pages ≡ old.pages
    → ((p : ℕ) → p < old.pages → IsTaken (held_at old.held p) (held_at new.held p) old.pages at index p read) → ((p m : ℕ) → p < old.pages → m < 2 ^ 21 → IsClaim old.pages at p m read → m ≤ (held_at new.held p).number)
    → HasRead size marks old at index → HasRead size marks new at (index + 1)
reads_step size marks old new at index read r e taken greatest c = record {
  begun = λ p b some. (let d : p < old.pages = rw e at b in rw e (taken_begun size marks old.pages p at index read (held_at old.held p) (held_at new.held p) (taken p d) r (c.begun p d) some));
  reached = λ p q j m b t before whole.
      let d : p < old.pages = rw e at b in
      let w : IsClaimWhole (marks q (1 + 3 * j)) old.pages q p m = rw e at whole in
      let more = not_less (held_at old.held p) (held_at new.held p) old.pages at index p read (taken p d) in
      elim before [
        | inl x ↦ (let l = c.reached p q j m d t (inl x) w in omega arith)
        | inr x ↦ elim (cases_lt j index) [
          | inl lower ↦ (let l = c.reached p q j m d t (inr (x.0, lower)) w in omega arith)
          | inr other ↦ (let f : j ≡ index = omega (arith, x.1) in greatest p m d w.claims.small (read_claim marks old.pages p q j at index m read x.0 f r w))
        ]
      ];
}

found_allowed : (marks : ℕ → ℕ → Written) (s : Standing) (p : ℕ) (held : Held) → (held_at s.layout.held p).number ≤ held.number → AllowedBy marks s (held_at s.layout.held p) p held.page held.index held.number → IsFoundBy marks s p held
found_allowed marks s p held l a = elim a [
  | inl below ↦ absurd (omega arith)
  | inr r ↦ elim r [
    | inl it ↦ inl it
    | inr above ↦ inr above
  ]
]

pub found_read : (size : Size) (marks : ℕ → ℕ → Written) (s : Standing) (layout : Layout) (pages : ℕ) → IsSound size marks s → s.layout.pages ≡ pages → IsPlaced size layout → layout.pages ≡ pages → HasRead size marks layout (pages + 1) 0 → (p : ℕ) → p < pages → IsFoundBy marks s p (held_at layout.held p)
found_read size marks s layout pages c e placed f r p b =
    let now = held_at s.layout.held p in
    let d : p < s.layout.pages = rw e b in
    let k : p < layout.pages = rw f b in
    let x : now.page ≤ pages = rw e at (c.laid_out.placed.page p d) in
    let l : now.number ≤ (held_at layout.held p).number = r.reached p now.page now.index now.number k (c.laid_out.placed.index p d) (inl (omega arith)) (rw (f, sym e) (c.held p d).claim) in
    let some : 1 ≤ (held_at layout.held p).number = omega (arith, l, (c.held p d).some) in
    let at : (held_at layout.held p).page < size.pages = omega (arith, placed.page p k, placed.served.count) in
    let g : IsBegun marks s.layout.pages (held_at layout.held p).page (held_at layout.held p).index p (held_at layout.held p).number = rw (e, sym f) (r.begun p k some) in
    found_allowed marks s p (held_at layout.held p) l (c.begun p (held_at layout.held p).page (held_at layout.held p).index (held_at layout.held p).number d at (placed.index p k) g)

-- a loop over the pages, from the last to the first: those behind are bumped
pub record BumpedTo (size : Size) (before : Standing) (marks : ℕ → ℕ → Written) (layout : Layout) (pages behind : ℕ) : Type 0 where
  pub after : Standing
  pub sound : IsSound size marks after
  pub narrows : Narrows before after
  pub found : (p : ℕ) → p + behind < pages → IsFoundBy marks after p (held_at layout.held p)
  pub same : (p : ℕ) → p < pages → pages ≤ p + behind → IsSameClaim (held_at layout.held p) (held_at after.layout.held p)
  pub quiet : (p : ℕ) → p < pages → pages ≤ p + behind → IsQuiet size marks pages p (held_at layout.held p).number

narrows_itself : (s : Standing) → Narrows s s
narrows_itself s = record { pages = refl; each = λ p at b h. h }

pub narrows_then : (a b c : Standing) → Narrows a b → Narrows b c → Narrows a c
narrows_then a b c m n = record { pages = n.pages ∙ m.pages; each = λ p at d h. m.each p at d (n.each p at (rw m.pages d) h) }

pub bumped_none : (size : Size) (before : Standing) (marks : ℕ → ℕ → Written) (layout : Layout) (pages : ℕ) → IsSound size marks before → ((p : ℕ) → p < pages → IsFoundBy marks before p (held_at layout.held p)) → BumpedTo size before marks layout pages 0
bumped_none size before marks layout pages c f = record {
  after = before;
  sound = c;
  narrows = narrows_itself before;
  found = λ p b. f p (omega arith);
  same = λ p b d. absurd (omega arith);
  quiet = λ p b d. absurd (omega arith);
}

found_same : (marks : ℕ → ℕ → Written) (s : Standing) (p : ℕ) (old new : Held) → new ≡ old → IsFoundBy marks s p old → IsFoundBy marks s p new
found_same marks s p old new e f = rw e f

same_as : (old new held held' : Held) → new ≡ old → held' ≡ held → IsSameClaim old held → IsSameClaim new held'
same_as old new held held' e f s = rw (e, f) s

quiet_held : (size : Size) (marks : ℕ → ℕ → Written) (pages p : ℕ) (old new : Held) → new ≡ old → IsQuiet size marks pages p old.number → IsQuiet size marks pages p new.number
quiet_held size marks pages p old new e q = rw e q

same_at : (s : Standing) (layout : Layout) (page p : ℕ) → p ≡ page → IsSameClaim (held_at layout.held page) (held_at s.layout.held page) → IsSameClaim (held_at layout.held p) (held_at s.layout.held p)
same_at s layout page p e h = rw e h

quiet_at : (size : Size) (marks : ℕ → ℕ → Written) (layout : Layout) (pages page p : ℕ) → p ≡ page → IsQuiet size marks pages page (held_at layout.held page).number → IsQuiet size marks pages p (held_at layout.held p).number
quiet_at size marks layout pages page p e h = rw e h

behind_of : (p page behind pages : ℕ) → page + behind + 1 ≡ pages → pages ≤ p + (behind + 1) → (p ≡ page → ⊥) → pages ≤ p + behind
behind_of p page behind pages e l apart = elim (cases_lt (p + behind) pages) [
  | inl less ↦ absurd (apart (omega arith))
  | inr more ↦ more
]

pub bumped_more : (size : Size) (before : Standing) (marks marks' : ℕ → ℕ → Written) (layout layout' : Layout) (pages behind page : ℕ) → before.layout.pages ≡ pages → page + behind + 1 ≡ pages → ((p : ℕ) → (p ≡ page → ⊥) → held_at layout'.held p ≡ held_at layout.held p)
    → (b : BumpedTo size before marks layout pages behind) → IsBumped size marks b.after page marks' (held_at layout'.held page) → BumpedTo size before marks' layout' pages (behind + 1)
bumped_more size before marks marks' layout layout' pages behind page e f kept b x =
    let after_pages : b.after.layout.pages ≡ pages = b.narrows.pages ∙ e in
    record {
      after = x.0;
      sound = x.1.sound;
      narrows = narrows_then before b.after x.0 b.narrows x.1.narrows;
      found = λ p d. (let apart : (p ≡ page → ⊥) = λ g. omega arith in found_same marks' x.0 p (held_at layout.held p) (held_at layout'.held p) (kept p apart) (x.1.others p (held_at layout.held p) (rw after_pages (omega arith)) apart (b.found p (omega arith))));
      same = λ p d l. elim (eqb_tells p page) [
        | inl here ↦ same_at x.0 layout' page p here.1 x.2
        | inr apart ↦ same_as (held_at layout.held p) (held_at layout'.held p) (held_at b.after.layout.held p) (held_at x.0.layout.held p) (kept p apart.1) (x.1.kept p apart.1) (b.same p d (behind_of p page behind pages f l apart.1))
      ];
      quiet = λ p d l. elim (eqb_tells p page) [
        | inl here ↦ quiet_at size marks' layout' pages page p here.1 (rw after_pages at x.3)
        | inr apart ↦ quiet_held size marks' pages p (held_at layout.held p) (held_at layout'.held p) (kept p apart.1) (rw after_pages at (x.1.quiet p (held_at layout.held p).number (rw after_pages d) apart.1 (rw after_pages (b.quiet p d (behind_of p page behind pages f l apart.1)))))
      ];
    }

pub still_less : (size : Size) (before : Standing) (marks marks' : ℕ → ℕ → Written) (layout : Layout) (pages behind page : ℕ) → (b : BumpedTo size before marks layout pages behind) → IsLeft size marks b.after page marks' → IsStill size before marks'
still_less size before marks marks' layout pages behind page b x = (x.0, x.1.sound, narrows_then before b.after x.0 b.narrows x.1.narrows)

pub calm_all : (size : Size) (before : Standing) (marks : ℕ → ℕ → Written) (layout : Layout) (pages : ℕ) → IsLaidOut size layout → before.layout.pages ≡ pages → layout.pages ≡ pages → BumpedTo size before marks layout pages pages → IsCalm size marks layout × Narrows before (steady_at layout)
calm_all size before marks layout pages laid e f b =
    let after_pages : b.after.layout.pages ≡ layout.pages = b.narrows.pages ∙ e ∙ sym f in
    let same : (p : ℕ) → p < layout.pages → IsSameClaim (held_at layout.held p) (held_at b.after.layout.held p) = λ p d. b.same p (rw f at d) (omega arith) in (
      calm_bumped size marks b.after layout b.sound laid after_pages same (λ p d. rw (sym f) at (b.quiet p (rw f at d) (omega arith))),
      still_bumped before b.after layout b.narrows after_pages same,
    )

abbrev IsNoDoubt : Stop → Type 0
IsNoDoubt InDoubt = ⊥
IsNoDoubt _ = Unit {0}

no_doubt : (stop : Stop) → stop ≡ Fault → IsNoDoubt stop
no_doubt stop e = rw e tt

pub not_in_doubt : (stop : Stop) → stop ≡ Fault → stop ≡ InDoubt → ⊥
not_in_doubt stop e f = (let k = no_doubt stop e in let l : IsNoDoubt InDoubt = rw f at k in l)

pub either_way : {A E : Type 0} (r : Result A E) (X : Type 0) (Y : E → Type 0) → X → MatchResult r (λ _. X) (λ e. Y e → X)
either_way (Ok a) X Y x = x
either_way (Err e) X Y x = λ _. x
