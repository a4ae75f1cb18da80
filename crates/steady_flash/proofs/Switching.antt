-- What a move of a page leaves of the marks.
use Rattle.std.proofs.Common.{◌≡◌, ℕ, ◌+◌, ◌*◌, ◌<◌, ◌≤◌, ◌⊎◌, false, List, [], length, get_or, arith, sym, ◌∙◌, ap, refl, inl, inr}
use Rattle.std.proofs.lemmas.Bool.Decides.{eqb_tells}
use Rattle.std.proofs.lemmas.List.Elements.{All-contains}
use Rattle.std.specs.List.{Contains}
use Rattle.flash_model.specs.Torn.{Within}
use Rattle.steady_flash.specs.Cells.{IsEight, Written, blank, erased}
use Rattle.steady_flash.specs.Marked.{Size, Same, OnePlace, OnePageOfPlaces}
use Rattle.steady_flash.specs.Layout.{held_at, IsLaidOut}
use Rattle.steady_flash.specs.Moves.{IsTorn, moved}
use Rattle.steady_flash.specs.Claims.{IsClaim, IsBegun, IsMarked, IsErasedMarks}
use Rattle.steady_flash.specs.Sound.{Standing, zeros, IsHeld, IsAbout, IsSound, IsQuiet, IsCalm, IsNoNewer, IsStopped, steady_at, moving_at}
use Rattle.steady_flash.specs.declared.layout.Held.{Held}
use Rattle.steady_flash.specs.declared.layout.Layout.{Layout}
use Rattle.steady_flash.specs.declared.moving.Stop.{Stop}
use Rattle.steady_flash.specs.declared.moving.Stop.TheVariants.{Fault, InDoubt}
use Rattle.steady_flash.proofs.Cells.{torn_erased}
use Rattle.steady_flash.proofs.Words.{no_blank}
use Rattle.steady_flash.proofs.Claiming.{begun_before}
use Rattle.steady_flash.proofs.Layouts.{at_set, laid_moved}
use Rattle.steady_flash.proofs.Soundness.{about_as, allowed_about, begun_which, held_now, held_still, no_claim_there, pending_erased, sound_about, sound_again, sound_done, sound_open, torn_as}
use Rattle.steady_flash.proofs.Adopting.{AllowedBy, allowed_as, allowed_beside}

-- a session
no_member : (x : List ℕ) → Contains [] x → ⊥
no_member x c = omega (arith, c.1)

begun_not_newer : (marks marks' : ℕ → ℕ → Written) (pages q j p m : ℕ) → IsNoNewer (marks q (1 + 3 * j)) (marks' q (1 + 3 * j)) → IsBegun marks' pages q j p m → IsBegun marks pages q j p m
begun_not_newer marks marks' pages q j p m n b = elim n [
  | inl none ↦ absurd (no_member b.bytes (rw none at b.begun))
  | inr same ↦ record { bytes = b.bytes; begun = rw same at b.begun; claims = b.claims }
]

begun_on_page : (size : Size) (marks marks' : ℕ → ℕ → Written) (pages spare q j p m : ℕ) → OnePageOfPlaces marks spare marks' → ((n : ℕ) → n ≤ 3 * size.triples → IsNoNewer (marks spare n) (marks' spare n)) → j < size.triples → IsBegun marks' pages q j p m → IsBegun marks pages q j p m
begun_on_page size marks marks' pages spare q j p m others newer d g = elim (eqb_tells q spare) [
  | inr apart ↦ begun_before marks marks' pages q j p m (others q (1 + 3 * j) apart.1) g
  | inl there ↦ begun_not_newer marks marks' pages q j p m (rw there.1 (newer (1 + 3 * j) (omega arith))) g
]

pub calm_prepared : (size : Size) (marks marks' : ℕ → ℕ → Written) (layout : Layout) → OnePageOfPlaces marks layout.spare marks' → ((m : ℕ) → m ≤ 3 * size.triples → IsNoNewer (marks layout.spare m) (marks' layout.spare m)) → IsCalm size marks layout → IsCalm size marks' layout
calm_prepared size marks marks' layout others newer c =
    let s = c.sound in
    record {
      sound = record {
        laid_out = s.laid_out;
        held = λ p b. held_still size marks marks' layout.pages p (held_at layout.held p) (s.laid_out.placed.index p b) (λ m d e. others (held_at layout.held p).page m (s.laid_out.free p b)) (s.held p b);
        begun = λ p q j m b d e g. allowed_about marks marks' (steady_at layout) p q j m (about_as marks marks' (held_at layout.held p) (others _ _ (s.laid_out.free p b))) (s.begun p q j m b d e (begun_on_page size marks marks' layout.pages layout.spare q j p m others newer e g));
        room = λ b. absurd (omega (arith, b));
        spare = λ b. absurd (omega (arith, b));
      };
      quiet = λ p b q j m d e g. c.quiet p b q j m d e (begun_on_page size marks marks' layout.pages layout.spare q j p m others newer e g);
    }

pub calm_same : (size : Size) (marks marks' : ℕ → ℕ → Written) (layout : Layout) → Same marks marks' → IsCalm size marks layout → IsCalm size marks' layout
calm_same size marks marks' layout same c = calm_prepared size marks marks' layout (λ q i apart. same q i) (λ m b. inr (ap (λ (w : Written). w.begun) (same layout.spare m))) c

-- the same claims, with no other mark in doubt
calm_beside : (size : Size) (marks marks' : ℕ → ℕ → Written) (layout : Layout) → ((q j : ℕ) → marks' q (1 + 3 * j) ≡ marks q (1 + 3 * j)) → IsSound size marks' (steady_at layout) → IsCalm size marks layout → IsCalm size marks' layout
calm_beside size marks marks' layout same sound c = record { sound = sound; quiet = λ p b q j m d e g. c.quiet p b q j m d e (begun_before marks marks' layout.pages q j p m (same q j) g) }

pub calm_about : (size : Size) (marks marks' : ℕ → ℕ → Written) (layout : Layout) (page : ℕ) → page < layout.pages → OnePlace marks (held_at layout.held page).page (3 + 3 * (held_at layout.held page).index) marks' → IsTorn zeros (marks' (held_at layout.held page).page (3 + 3 * (held_at layout.held page).index))
    → (Within blank (marks' (held_at layout.held page).page (3 + 3 * (held_at layout.held page).index)).cells.most → Within blank (marks (held_at layout.held page).page (3 + 3 * (held_at layout.held page).index)).cells.most) → IsCalm size marks layout → IsCalm size marks' layout
calm_about size marks marks' layout page b others torn less c =
    calm_beside size marks marks' layout (λ q j. no_claim_there marks marks' _ _ q j others (λ g. omega (arith, g))) (sound_about size marks marks' (steady_at layout) page (held_at layout.held page) b (c.sound.laid_out.placed.index page b) (inl (refl, refl, refl)) others torn less c.sound) c

pub calm_done : (size : Size) (marks marks' : ℕ → ℕ → Written) (layout : Layout) (page : ℕ) → page < layout.pages → OnePlace marks (held_at layout.held page).page (2 + 3 * (held_at layout.held page).index) marks' → IsCalm size marks layout → IsCalm size marks' layout
calm_done size marks marks' layout page b others c =
    calm_beside size marks marks' layout (λ q j. no_claim_there marks marks' _ _ q j others (λ g. omega (arith, g))) (sound_done size marks marks' (steady_at layout) page b others c.sound) c

pub calm_open : (size : Size) (marks marks' : ℕ → ℕ → Written) (layout : Layout) (page : ℕ) → page < layout.pages → OnePlace marks (held_at layout.held page).page 0 marks' → IsCalm size marks layout → IsCalm size marks' layout
calm_open size marks marks' layout page b others c =
    calm_beside size marks marks' layout (λ q j. no_claim_there marks marks' _ _ q j others (λ g. omega (arith, g))) (sound_open size marks marks' (steady_at layout) page b others c.sound) c

-- before the claim of the spare page
sound_moving : (size : Size) (marks : ℕ → ℕ → Written) (layout : Layout) (page : ℕ) → IsErasedMarks marks size.triples layout.spare → IsCalm size marks layout → IsSound size marks (moving_at layout page)
sound_moving size marks layout page gone c =
    let s = c.sound in
    let some : 0 < size.triples = omega (arith, s.laid_out.placed.served.few) in
    record {
      laid_out = s.laid_out;
      held = s.held;
      begun = λ p q j m b d e g. allowed_beside marks (steady_at layout) (moving_at layout page) (held_at layout.held p) p q j m (λ x y z. absurd (omega (arith, y))) (s.begun p q j m b d e g);
      room = λ b. some;
      spare = λ b. pending_erased marks size.triples layout.pages layout.spare page 0 ((held_at layout.held page).number + 1) some (λ m d e. gone m e);
    }

abbrev next_claim : Layout → ℕ → Held
next_claim layout page = record { page = layout.spare; index = 0; number = (held_at layout.held page).number + 1; is_opened = false }

pub sound_claimed : (size : Size) (marks marks' : ℕ → ℕ → Written) (layout : Layout) (page : ℕ) (bytes : List ℕ) → page < layout.pages → IsAbout marks (held_at layout.held page) → IsErasedMarks marks size.triples layout.spare → OnePlace marks layout.spare 1 marks' → IsClaim layout.pages layout.spare page ((held_at layout.held page).number + 1) bytes
    → IsTorn bytes (marks' layout.spare 1) → IsCalm size marks layout → IsSound size marks' (moving_at layout page)
sound_claimed size marks marks' layout page bytes b about gone others claims torn c =
    let free : marks layout.spare 1 ≡ erased = gone 1 (omega (arith, c.sound.laid_out.placed.served.few)) in
    sound_again size marks marks' (moving_at layout page) page (next_claim layout page) bytes b (omega (arith, c.sound.laid_out.placed.served.few)) (inr (about, inr (refl, refl, refl, refl))) others claims torn (λ m. absurd (no_blank bytes claims.word (sym (rw free at m.least)))) (sound_moving size marks layout page gone c)

quiet_as : (page p m new n n' : ℕ) → n ≡ n' → new ≡ n' + 1 → ((p ≡ page) × (m ≡ new)) ⊎ (m ≤ n) → m ≤ new
quiet_as page p m new n n' e f q = elim q [
  | inl it ↦ (let x = it.1 in omega arith)
  | inr l ↦ omega arith
]

allowed_first : (marks : ℕ → ℕ → Written) (s s' : Standing) (old new : Held) (p q j m : ℕ) → new.page ≡ s.layout.spare → new.index ≡ s.index → new.number ≡ old.number + 1 → m ≤ new.number → AllowedBy marks s old p q j m → AllowedBy marks s' new p q j m
allowed_first marks s s' old new p q j m e f g l a = elim a [
  | inl below ↦ inl (omega arith)
  | inr r ↦ elim r [
    | inl it ↦ inl (let n = it.2 in omega arith)
    | inr u ↦ elim u.1 [
      | inl own ↦ absurd (let n = own.2 in omega arith)
      | inr it ↦ inr (inl (it.0 ∙ sym e, it.2 ∙ sym f, it.3 ∙ sym g))
    ]
  ]
]

allowed_quiet : (marks : ℕ → ℕ → Written) (layout : Layout) (page : ℕ) (s' : Standing) (h : Held) (p q j m : ℕ) → (p ≡ page → ⊥) → AllowedBy marks (moving_at layout page) h p q j m → AllowedBy marks s' h p q j m
allowed_quiet marks layout page s' h p q j m other a = elim a [
  | inl l ↦ inl l
  | inr r ↦ elim r [
    | inl e ↦ inr (inl e)
    | inr u ↦ elim u.1 [
      | inl own ↦ inr (inr (u.0, inl own))
      | inr it ↦ absurd (other it.1)
    ]
  ]
]

-- behind it
pub calm_moved : (size : Size) (marks marks' : ℕ → ℕ → Written) (layout : Layout) (page : ℕ) (bytes : List ℕ) → page < layout.pages → OnePlace marks layout.spare 1 marks' → IsClaim layout.pages layout.spare page ((held_at layout.held page).number + 1) bytes → IsMarked bytes (marks' layout.spare 1)
    → IsSound size marks' (moving_at layout page) → IsCalm size marks layout → IsCalm size marks' (moved layout page)
calm_moved size marks marks' layout page bytes b others claims marked s c =
    let after = moved layout page in
    let new = next_claim layout page in
    let in_held : page < length layout.held = omega (arith, s.laid_out.placed.eight, s.laid_out.placed.served.most) in
    let few : 0 < size.triples = omega (arith, s.laid_out.placed.served.few) in
    let quiet : (p q j m : ℕ) → p < layout.pages → q < size.pages → j < size.triples → IsBegun marks' layout.pages q j p m → ((p ≡ page) × (m ≡ new.number)) ⊎ (m ≤ (held_at layout.held p).number) = λ p q j m d u v g. elim (begun_which marks marks' layout.pages layout.spare 0 page new.number bytes q j p m others claims (λ x w. All-contains (λ (z : List ℕ). z ≡ bytes) (marks' layout.spare 1).begun x marked.takes w) g) [
      | inl it ↦ inl (it.2, it.3)
      | inr before ↦ inr (c.quiet p d q j m u v before)
    ] in
    record {
      sound = record {
        laid_out = laid_moved size layout page new s.laid_out b refl few claims.small;
        held = λ p d. at_set (λ (h : Held). IsHeld size marks' layout.pages p h) layout.held page p new in_held (λ same. rw same (held_now size marks' layout.pages page new (omega arith) (s.spare b) (record { bytes = bytes; claims = claims; marked = marked }))) (λ other. s.held p d);
        begun = λ p q j m d u v g. at_set (λ (h : Held). AllowedBy marks' (steady_at after) h p q j m) layout.held page p new in_held
            (λ same. allowed_first marks' (moving_at layout page) (steady_at after) (held_at layout.held page) new p q j m refl refl refl (quiet_as page p m new.number (held_at layout.held p).number (held_at layout.held page).number (ap (λ (n : ℕ). (held_at layout.held n).number) same) refl (quiet p q j m d u v g)) (allowed_as marks' (moving_at layout page) page p q j m same (s.begun p q j m d u v g)))
            (λ other. allowed_quiet marks' layout page (steady_at after) (held_at layout.held p) p q j m other (s.begun p q j m d u v g));
        room = λ d. absurd (omega (arith, d));
        spare = λ d. absurd (omega (arith, d));
      };
      quiet = λ p d. at_set (λ (h : Held). IsQuiet size marks' layout.pages p h.number) layout.held page p new in_held
          (λ same q j m u v g. quiet_as page p m new.number (held_at layout.held p).number (held_at layout.held page).number (ap (λ (n : ℕ). (held_at layout.held n).number) same) refl (quiet p q j m d u v g))
          (λ other q j m u v g. elim (quiet p q j m d u v g) [
            | inl it ↦ absurd (other it.0)
            | inr l ↦ l
          ]);
    }

pub stopped_fault : (size : Size) (marks : ℕ → ℕ → Written) (layout : Layout) (page : ℕ) (stop : Stop) → stop ≡ Fault → IsCalm size marks layout → IsStopped size marks layout page stop
stopped_fault size marks layout page stop e c = rw e c

pub stopped_in_doubt : (size : Size) (marks : ℕ → ℕ → Written) (layout : Layout) (page : ℕ) (stop : Stop) → stop ≡ InDoubt → IsSound size marks (moving_at layout page) → IsStopped size marks layout page stop
stopped_in_doubt size marks layout page stop e c = rw e c

pub zeros_some : zeros ≡ blank → ⊥
zeros_some e = (let f : get_or zeros 0 0 ≡ get_or blank 0 0 = ap (λ (x : List ℕ). get_or x 0 0) e in omega (arith, f))

-- a switch, step by step
pub erased_still : (marks marks' : ℕ → ℕ → Written) (triples spare at m : ℕ) → (spare ≡ at → ⊥) → OnePlace marks at m marks' → IsErasedMarks marks triples spare → IsErasedMarks marks' triples spare
erased_still marks marks' triples spare at m apart others gone n l = others spare n (λ e f. apart e) ∙ gone n l

pub torn_there : (marks : ℕ → ℕ → Written) (size : Size) (layout : Layout) (bytes : List ℕ) → IsLaidOut size layout → IsErasedMarks marks size.triples layout.spare → IsEight bytes → IsTorn bytes (marks layout.spare 1)
torn_there marks size layout bytes l gone e = torn_as erased (marks layout.spare 1) bytes (gone 1 (omega (arith, l.placed.served.few))) (torn_erased bytes e)
