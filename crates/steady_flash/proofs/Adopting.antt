-- How a claim that was begun comes to count.
use Rattle.std.proofs.Common.{◌≡◌, ℕ, ◌+◌, ◌*◌, ◌<◌, ◌⊎◌, false, List, length, slice_set, arith, sym, ◌∙◌, refl, inl, inr}
use Rattle.std.proofs.lemmas.Bool.{cases_lt}
use Rattle.std.proofs.lemmas.Bool.Decides.{eqb_tells}
use Rattle.std.proofs.lemmas.List.{get_or-set_same, get_or-set_other}
use Rattle.std.proofs.lemmas.List.Elements.{All-contains}
use Rattle.flash_model.specs.Torn.{Within}
use Rattle.steady_flash.specs.Cells.{Written, blank}
use Rattle.steady_flash.specs.Marked.{Size, OnePlace}
use Rattle.steady_flash.specs.Layout.{held_at}
use Rattle.steady_flash.specs.Moves.{IsTorn}
use Rattle.steady_flash.specs.Claims.{IsClaim, IsMarked}
use Rattle.steady_flash.specs.Sound.{Standing, zeros, IsClaimWhole, IsPending, IsHeld, IsAbout, IsSound, IsQuiet, IsSameClaim, IsFoundBy, Follows, IsBumped}
use Rattle.steady_flash.specs.declared.layout.Held.{Held}
use Rattle.steady_flash.proofs.Claiming.{begun_before}
use Rattle.steady_flash.proofs.Layouts.{at_set, laid_moved, laid_bumped}
use Rattle.steady_flash.proofs.Soundness.{about_as, abouts, begun_which, held_now, no_claim_there, sound_about, sound_again, sound_done}

-- a claim that was begun has become whole, and counts
abbrev pub AllowedBy : (ℕ → ℕ → Written) → Standing → Held → ℕ → ℕ → ℕ → ℕ → Type 0
AllowedBy marks standing held page at index number = (number < held.number)
    ⊎ (((at ≡ held.page) × (index ≡ held.index) × (number ≡ held.number))
    ⊎ (IsAbout marks held × (((at ≡ held.page) × (index ≡ held.index + 1) × (number ≡ held.number + 2))
    ⊎ ((at ≡ standing.layout.spare) × (page ≡ standing.page) × (index ≡ standing.index) × (number ≡ held.number + 1)))))

abbrev CandidateBy : Standing → Held → ℕ → ℕ → Type 0
CandidateBy standing held page at = (at ≡ held.page) ⊎ ((at ≡ standing.layout.spare) × (page ≡ standing.page))

abbrev FoundBy : (ℕ → ℕ → Written) → Standing → Held → ℕ → Held → Type 0
FoundBy marks standing now page held = IsSameClaim now held
    ⊎ (IsAbout marks now × (((held.page ≡ now.page) × (held.index ≡ now.index + 1) × (held.number ≡ now.number + 2))
    ⊎ ((held.page ≡ standing.layout.spare) × (page ≡ standing.page) × (held.index ≡ standing.index) × (held.number ≡ now.number + 1))))

pub allowed_as : (marks : ℕ → ℕ → Written) (s : Standing) (page p q j m : ℕ) → p ≡ page → AllowedBy marks s (held_at s.layout.held p) p q j m → AllowedBy marks s (held_at s.layout.held page) p q j m
allowed_as marks s page p q j m e a = rw (← e) a

-- of another page
pub allowed_beside : (marks : ℕ → ℕ → Written) (s s' : Standing) (h : Held) (p q j m : ℕ) → ((q ≡ s.layout.spare) → (p ≡ s.page) → (j ≡ s.index) → (q ≡ s'.layout.spare) × (p ≡ s'.page) × (j ≡ s'.index)) → AllowedBy marks s h p q j m → AllowedBy marks s' h p q j m
allowed_beside marks s s' h p q j m f a = elim a [
  | inl l ↦ inl l
  | inr r ↦ elim r [
    | inl e ↦ inr (inl e)
    | inr u ↦ elim u.1 [
      | inl own ↦ inr (inr (u.0, inl own))
      | inr it ↦ (let t = f it.0 it.1 it.2 in inr (inr (u.0, inr (t.0, t.1, t.2, it.3))))
    ]
  ]
]

found_beside : (marks : ℕ → ℕ → Written) (s s' : Standing) (now held : Held) (p : ℕ) → ((held.page ≡ s.layout.spare) → (p ≡ s.page) → (held.index ≡ s.index) → (held.page ≡ s'.layout.spare) × (p ≡ s'.page) × (held.index ≡ s'.index)) → FoundBy marks s now p held → FoundBy marks s' now p held
found_beside marks s s' now held p f a = elim a [
  | inl e ↦ inl e
  | inr u ↦ elim u.1 [
    | inl own ↦ inr (u.0, inl own)
    | inr it ↦ (let t = f it.0 it.1 it.2 in inr (u.0, inr (t.0, t.1, t.2, it.3)))
  ]
]

-- of the page that was bumped: no claim is above
allowed_bumped : (marks : ℕ → ℕ → Written) (s s' : Standing) (old new : Held) (p q j m : ℕ) → new.page ≡ old.page → new.index ≡ old.index + 1 → new.number ≡ old.number + 2 → AllowedBy marks s old p q j m → AllowedBy marks s' new p q j m
allowed_bumped marks s s' old new p q j m e f g a = elim a [
  | inl l ↦ inl (omega arith)
  | inr r ↦ elim r [
    | inl it ↦ inl (let n = it.2 in omega arith)
    | inr u ↦ elim u.1 [
      | inl own ↦ inr (inl (own.0 ∙ sym e, own.1 ∙ sym f, own.2 ∙ sym g))
      | inr it ↦ inl (let n = it.3 in omega arith)
    ]
  ]
]

pub bumped : (size : Size) (marks : ℕ → ℕ → Written) (s : Standing) (page pending : ℕ) (held : Held) → page < s.layout.pages → held.index < size.triples → held.page ≡ (held_at s.layout.held page).page → held.index ≡ (held_at s.layout.held page).index + 1 → held.number ≡ (held_at s.layout.held page).number + 2
    → IsClaimWhole (marks held.page (1 + 3 * held.index)) s.layout.pages held.page page held.number
    → (pending < s.layout.pages → (pending ≡ s.page) × (pending ≡ page → ⊥)) → ((p : ℕ) → (p ≡ page → ⊥) → p ≡ s.page → p ≡ pending) → IsSound size marks s
    → Follows size marks s page marks (record { layout = record { pages = s.layout.pages; held = slice_set s.layout.held page held; spare = s.layout.spare }; page = pending; index = s.index })
bumped size marks s page pending held b t e f g whole from to c =
    let l = s.layout in
    let old = held_at l.held page in
    let after : Standing = record { layout = record { pages = l.pages; held = slice_set l.held page held; spare = l.spare }; page = pending; index = s.index } in
    let in_held : page < length l.held = omega (arith, c.laid_out.placed.eight, c.laid_out.placed.served.most) in
    let next : IsPending marks size.triples l.pages held.page page held.index held.number = rw (e, f, g) ((c.held page b).next (rw (← f) t)) in
    record {
      sound = record {
        laid_out = laid_bumped size l page held c.laid_out b e t whole.claims.small;
        held = λ p d. at_set (λ (h : Held). IsHeld size marks l.pages p h) l.held page p held in_held (λ same. rw same (held_now size marks l.pages page held (omega arith) next whole)) (λ other. c.held p d);
        begun = λ p q j m d u v w. at_set (λ (h : Held). AllowedBy marks after h p q j m) l.held page p held in_held
            (λ same. allowed_bumped marks s after old held p q j m e f g (allowed_as marks s page p q j m same (c.begun p q j m d u v w)))
            (λ other. allowed_beside marks s after (held_at l.held p) p q j m (λ x y z. (x, to p other y, z)) (c.begun p q j m d u v w));
        room = λ d. (let k = from d in c.room (rw k.0 at d));
        spare = λ d. (let k = from d in at_set (λ (h : Held). IsPending marks size.triples l.pages l.spare pending s.index (h.number + 1)) l.held page pending held in_held (λ same. absurd (k.1 same)) (λ other. rw k.0 (c.spare (rw k.0 at d))));
      };
      narrows = record {
        pages = refl;
        each = λ p at d. at_set (λ (h : Held). CandidateBy after h p at → CandidateBy s (held_at l.held p) p at) l.held page p held in_held
            (λ same h. elim h [
              | inl own ↦ inl (rw same (own ∙ e))
              | inr it ↦ (let k = from (rw it.1 at d) in inr (it.0, it.1 ∙ k.0))
            ])
            (λ other h. elim h [
              | inl own ↦ inl own
              | inr it ↦ (let k = from (rw it.1 at d) in inr (it.0, it.1 ∙ k.0))
            ]);
      };
      others = λ p h d apart. at_set (λ (now : Held). FoundBy marks s (held_at l.held p) p h → FoundBy marks after now p h) l.held page p held in_held (λ same. absurd (apart same)) (λ other. found_beside marks s after (held_at l.held p) h p (λ x y z. (x, to p apart y, z)));
      kept = λ p apart. get_or-set_other {A = Held} l.held page p held (record { page = 0; index = 0; number = 0; is_opened = false }) apart;
      quiet = λ p n d apart h. h;
    }

-- of the page that has moved to the spare one
allowed_moved : (marks : ℕ → ℕ → Written) (s s' : Standing) (old new : Held) (page p q j m : ℕ) → p ≡ page → new.page ≡ s.layout.spare → new.index ≡ s.index → new.number ≡ old.number + 1 → s'.layout.spare ≡ old.page → IsAbout marks new → (j ≡ old.index + 1 → (page ≡ s'.page) × (j ≡ s'.index)) → AllowedBy marks s old p q j m → AllowedBy marks s' new p q j m
allowed_moved marks s s' old new page p q j m same e f g h about to a = elim a [
  | inl l ↦ inl (omega arith)
  | inr r ↦ elim r [
    | inl it ↦ inl (let n = it.2 in omega arith)
    | inr u ↦ elim u.1 [
      | inl own ↦ (let k = to own.1 in let n = own.2 in inr (inr (about, inr (own.0 ∙ sym h, same ∙ k.0, k.1, omega arith))))
      | inr it ↦ inr (inl (it.0 ∙ sym e, it.2 ∙ sym f, it.3 ∙ sym g))
    ]
  ]
]

two_more : (size : Size) (marks : ℕ → ℕ → Written) (pages page : ℕ) (old : Held) (number : ℕ) → number ≡ old.number + 1 → IsPending marks size.triples pages old.page page (old.index + 1) (old.number + 2) → IsPending marks size.triples pages old.page page (old.index + 1) (number + 1)
two_more size marks pages page old number e c = (let f : number + 1 ≡ old.number + 2 = omega arith in rw f c)

moved_there : (size : Size) (marks : ℕ → ℕ → Written) (s : Standing) (page pending index : ℕ) (held : Held) → page < s.layout.pages → held.index < size.triples → page ≡ s.page → held.page ≡ s.layout.spare → held.index ≡ s.index → held.number ≡ (held_at s.layout.held page).number + 1
    → IsClaimWhole (marks held.page (1 + 3 * held.index)) s.layout.pages held.page page held.number → IsAbout marks held
    → (pending < s.layout.pages → (pending ≡ page) × (index ≡ (held_at s.layout.held page).index + 1) × (index < size.triples)) → ((held_at s.layout.held page).index + 1 < size.triples → (page ≡ pending) × ((held_at s.layout.held page).index + 1 ≡ index)) → IsSound size marks s
    → Follows size marks s page marks (record { layout = record { pages = s.layout.pages; held = slice_set s.layout.held page held; spare = (held_at s.layout.held page).page }; page = pending; index = index })
moved_there size marks s page pending index held b t k e f g whole about from to c =
    let l = s.layout in
    let old = held_at l.held page in
    let after : Standing = record { layout = record { pages = l.pages; held = slice_set l.held page held; spare = old.page }; page = pending; index = index } in
    let in_held : page < length l.held = omega (arith, c.laid_out.placed.eight, c.laid_out.placed.served.most) in
    let there : IsPending marks size.triples l.pages held.page page held.index held.number = rw (e, f, g, k) (c.spare (rw (← k) b)) in
    record {
      sound = record {
        laid_out = laid_moved size l page held c.laid_out b e t whole.claims.small;
        held = λ p d. at_set (λ (h : Held). IsHeld size marks l.pages p h) l.held page p held in_held (λ same. rw same (held_now size marks l.pages page held (omega arith) there whole)) (λ other. c.held p d);
        begun = λ p q j m d u v w. at_set (λ (h : Held). AllowedBy marks after h p q j m) l.held page p held in_held
            (λ same. allowed_moved marks s after old held page p q j m same e f g refl about (λ x. (let y = to (rw x at v) in (y.0, x ∙ y.1))) (allowed_as marks s page p q j m same (c.begun p q j m d u v w)))
            (λ other. allowed_beside marks s after (held_at l.held p) p q j m (λ x y z. absurd (other (y ∙ sym k))) (c.begun p q j m d u v w));
        room = λ d. (from d).2;
        spare = λ d. (let y = from d in at_set (λ (h : Held). IsPending marks size.triples l.pages old.page pending index (h.number + 1)) l.held page pending held in_held
            (λ same. rw (y.0, y.1) (two_more size marks l.pages page old held.number g ((c.held page b).next (rw y.1 at y.2)))) (λ other. absurd (other y.0)));
      };
      narrows = record {
        pages = refl;
        each = λ p at d. at_set (λ (h : Held). CandidateBy after h p at → CandidateBy s (held_at l.held p) p at) l.held page p held in_held
            (λ same h. elim h [
              | inl own ↦ inr (own ∙ e, same ∙ k)
              | inr it ↦ inl (rw same it.0)
            ])
            (λ other h. elim h [
              | inl own ↦ inl own
              | inr it ↦ (let y = from (rw it.1 at d) in absurd (other (it.1 ∙ y.0)))
            ]);
      };
      others = λ p h d apart. at_set (λ (now : Held). FoundBy marks s (held_at l.held p) p h → FoundBy marks after now p h) l.held page p held in_held (λ same. absurd (apart same)) (λ other. found_beside marks s after (held_at l.held p) h p (λ x y z. absurd (other (y ∙ sym k))));
      kept = λ p apart. get_or-set_other {A = Held} l.held page p held (record { page = 0; index = 0; number = 0; is_opened = false }) apart;
      quiet = λ p n d apart h. h;
    }

-- a start's page counts
abbrev pub Adopts : Size → (ℕ → ℕ → Written) → Standing → ℕ → Held → Type 0
Adopts size marks s page held = (after : Standing) × Follows size marks s page marks after × IsSameClaim held (held_at after.layout.held page)

set_same : (s : Standing) (page : ℕ) (held : Held) → page < length s.layout.held → IsSameClaim held (held_at (slice_set s.layout.held page held) page)
set_same s page held b = rw (get_or-set_same {A = Held} s.layout.held page held (record { page = 0; index = 0; number = 0; is_opened = false }) b) (refl, refl, refl)

pub follows_itself : (size : Size) (marks : ℕ → ℕ → Written) (s : Standing) (page : ℕ) → IsSound size marks s → Follows size marks s page marks s
follows_itself size marks s page c = record { sound = c; kept = λ p apart. refl; narrows = record { pages = refl; each = λ p at b h. h }; others = λ p h b apart f. f; quiet = λ p n b apart h. h }

pub adopted_next : (size : Size) (marks : ℕ → ℕ → Written) (s : Standing) (page : ℕ) (held : Held) → page < s.layout.pages → held.index < size.triples → held.page ≡ (held_at s.layout.held page).page → held.index ≡ (held_at s.layout.held page).index + 1 → held.number ≡ (held_at s.layout.held page).number + 2
    → IsClaimWhole (marks held.page (1 + 3 * held.index)) s.layout.pages held.page page held.number → IsSound size marks s → IsBumped size marks s page marks held
adopted_next size marks s page held b t e f g whole c =
    let in_held : page < length s.layout.held = omega (arith, c.laid_out.placed.eight, c.laid_out.placed.served.most) in
    let quiet : IsQuiet size marks s.layout.pages page held.number = λ q j m d u w. elim (c.begun page q j m b d u w) [
      | inl l ↦ omega arith
      | inr r ↦ elim r [
        | inl it ↦ (let n = it.2 in omega arith)
        | inr above ↦ elim above.1 [
          | inl it ↦ (let n = it.2 in omega arith)
          | inr it ↦ (let n = it.3 in omega arith)
        ]
      ]
    ] in
    elim (eqb_tells s.page page) [
      | inl same ↦ (_, bumped size marks s page s.layout.pages held b t e f g whole (λ d. absurd (omega (arith, d))) (λ p apart x. absurd (apart (x ∙ same.1))) c, set_same s page held in_held, quiet)
      | inr other ↦ (_, bumped size marks s page s.page held b t e f g whole (λ d. (refl, other.1)) (λ p apart x. x) c, set_same s page held in_held, quiet)
    ]

pub adopted : (size : Size) (marks : ℕ → ℕ → Written) (s : Standing) (page : ℕ) (held : Held) → page < s.layout.pages → held.index < size.triples → IsFoundBy marks s page held → IsClaimWhole (marks held.page (1 + 3 * held.index)) s.layout.pages held.page page held.number → IsAbout marks held → IsSound size marks s → Adopts size marks s page held
adopted size marks s page held b t f whole about c =
    let in_held : page < length s.layout.held = omega (arith, c.laid_out.placed.eight, c.laid_out.placed.served.most) in
    elim f [
      | inl it ↦ (s, follows_itself size marks s page c, (sym it.0, sym it.1, sym it.2))
      | inr above ↦ elim above.1 [
        | inl it ↦ (let k = adopted_next size marks s page held b t it.0 it.1 it.2 whole c in (k.0, k.1, k.2))
        | inr it ↦ elim (cases_lt ((held_at s.layout.held page).index + 1) size.triples) [
          | inl room ↦ (_, moved_there size marks s page page ((held_at s.layout.held page).index + 1) held b t it.1 it.0 it.2 it.3 whole about (λ d. (refl, refl, room)) (λ d. (refl, refl)) c, set_same s page held in_held)
          | inr full ↦ (_, moved_there size marks s page s.layout.pages 0 held b t it.1 it.0 it.2 it.3 whole about (λ d. absurd (omega (arith, d))) (λ d. absurd (omega arith)) c, set_same s page held in_held)
        ]
      ]
    ]

-- steps
follows_beside : (size : Size) (marks marks' : ℕ → ℕ → Written) (s : Standing) (page : ℕ) → ((q j : ℕ) → marks' q (1 + 3 * j) ≡ marks q (1 + 3 * j)) → ((p : ℕ) → IsAbout marks (held_at s.layout.held p) → IsAbout marks' (held_at s.layout.held p)) → IsSound size marks' s → Follows size marks s page marks' s
follows_beside size marks marks' s page same about c = record {
  sound = c;
  kept = λ p apart. refl;
  narrows = record { pages = refl; each = λ p at b h. h };
  others = λ p h b apart f. elim f [
    | inl it ↦ inl it
    | inr above ↦ inr (about p above.0, above.1)
  ];
  quiet = λ p n b apart h q j m d e g. h q j m d e (begun_before marks marks' s.layout.pages q j p m (same q j) g);
}

follows_claim : (size : Size) (marks marks' : ℕ → ℕ → Written) (s : Standing) (y k page number : ℕ) (bytes : List ℕ) → OnePlace marks y (1 + 3 * k) marks' → IsClaim s.layout.pages y page number bytes → IsTorn bytes (marks' y (1 + 3 * k)) → IsSound size marks' s → Follows size marks s page marks' s
follows_claim size marks marks' s y k page number bytes others claims torn c = record {
  sound = c;
  kept = λ p apart. refl;
  narrows = record { pages = refl; each = λ p at b h. h };
  others = λ p h b apart f. elim f [
    | inl it ↦ inl it
    | inr above ↦ inr (about_as marks marks' (held_at s.layout.held p) (others _ _ (λ e g. omega (arith, g))) above.0, above.1)
  ];
  quiet = λ p n b apart h q j m d e g. elim (begun_which marks marks' s.layout.pages y k page number bytes q j p m others claims (λ x u. All-contains (λ (z : List ℕ). z ≡ bytes) (marks' y (1 + 3 * k)).begun x torn.takes u) g) [
    | inl it ↦ absurd (apart it.2)
    | inr before ↦ h q j m d e before
  ];
}

pub follows_then : (size : Size) (marks marks' marks'' : ℕ → ℕ → Written) (s s' s'' : Standing) (page : ℕ) → Follows size marks s page marks' s' → Follows size marks' s' page marks'' s'' → Follows size marks s page marks'' s''
follows_then size marks marks' marks'' s s' s'' page a b = record {
  sound = b.sound;
  kept = λ p apart. b.kept p apart ∙ a.kept p apart;
  narrows = record {
    pages = b.narrows.pages ∙ a.narrows.pages;
    each = λ p at d h. a.narrows.each p at d (b.narrows.each p at (rw a.narrows.pages d) h);
  };
  others = λ p h d apart f. b.others p h (rw a.narrows.pages d) apart (a.others p h d apart f);
  quiet = λ p n d apart h. rw a.narrows.pages at (b.quiet p n (rw a.narrows.pages d) apart (rw a.narrows.pages (a.quiet p n d apart h)));
}

pub step_about : (size : Size) (marks marks' : ℕ → ℕ → Written) (s : Standing) (page : ℕ) (held : Held) → page < s.layout.pages → held.index < size.triples → IsFoundBy marks s page held → OnePlace marks held.page (3 + 3 * held.index) marks' → IsTorn zeros (marks' held.page (3 + 3 * held.index))
    → (Within blank (marks' held.page (3 + 3 * held.index)).cells.most → Within blank (marks held.page (3 + 3 * held.index)).cells.most) → IsSound size marks s → Follows size marks s page marks' s
step_about size marks marks' s page held b t f others torn less c =
    follows_beside size marks marks' s page (λ q j. no_claim_there marks marks' held.page (3 + 3 * held.index) q j others (λ g. omega (arith, g))) (abouts marks marks' s held.page (3 + 3 * held.index) others less) (sound_about size marks marks' s page held b t f others torn less c)

pub step_done : (size : Size) (marks marks' : ℕ → ℕ → Written) (s : Standing) (page : ℕ) → page < s.layout.pages → OnePlace marks (held_at s.layout.held page).page (2 + 3 * (held_at s.layout.held page).index) marks' → IsSound size marks s → Follows size marks s page marks' s
step_done size marks marks' s page b others c =
    let now = held_at s.layout.held page in
    follows_beside size marks marks' s page (λ q j. no_claim_there marks marks' now.page (2 + 3 * now.index) q j others (λ g. omega (arith, g))) (λ p. about_as marks marks' (held_at s.layout.held p) (others _ _ (λ e f. omega (arith, f)))) (sound_done size marks marks' s page b others c)

pub step_again : (size : Size) (marks marks' : ℕ → ℕ → Written) (s : Standing) (page : ℕ) (held : Held) (bytes : List ℕ) → page < s.layout.pages → held.index < size.triples → IsFoundBy marks s page held → OnePlace marks held.page (1 + 3 * held.index) marks' → IsClaim s.layout.pages held.page page held.number bytes
    → IsTorn bytes (marks' held.page (1 + 3 * held.index)) → (IsMarked bytes (marks held.page (1 + 3 * held.index)) → IsMarked bytes (marks' held.page (1 + 3 * held.index))) → IsSound size marks s → Follows size marks s page marks' s
step_again size marks marks' s page held bytes b t f others claims torn marked c =
    follows_claim size marks marks' s held.page held.index page held.number bytes others claims torn (sound_again size marks marks' s page held bytes b t f others claims torn marked c)

-- what a start has found a page by, behind a step
pub found_still : (marks marks' : ℕ → ℕ → Written) (s : Standing) (page y m : ℕ) (held : Held) → OnePlace marks y m marks' → (Within blank (marks' y m).cells.most → Within blank (marks y m).cells.most) → IsFoundBy marks s page held → IsFoundBy marks' s page held
found_still marks marks' s page y m held others less f = elim f [
  | inl it ↦ inl it
  | inr above ↦ inr (abouts marks marks' s y m others less page above.0, above.1)
]

pub found_about : (size : Size) (marks : ℕ → ℕ → Written) (s : Standing) (page : ℕ) (held : Held) → page < s.layout.pages → held.index < size.triples → IsSound size marks s → IsFoundBy marks s page held → IsTorn zeros (marks held.page (3 + 3 * held.index))
found_about size marks s page held b t c f = elim f [
  | inl it ↦ rw (it.0, it.1) (c.held page b).about
  | inr above ↦ elim above.1 [
    | inl it ↦ rw (it.0, it.1) ((c.held page b).next (rw it.1 at t)).about
    | inr it ↦ rw (it.0, it.2) (c.spare (rw it.1 at b)).about
  ]
]

-- what was programmed with zeros as a whole does not read as blank
pub zeros_read : (mark : Written) → IsMarked zeros mark → Within blank mark.cells.most → ⊥
zeros_read mark m r =
    let clear : Within blank zeros = rw m.most at r in
    absurd (omega (arith, clear.bits 0 0))
