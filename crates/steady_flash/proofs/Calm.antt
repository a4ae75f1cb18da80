-- A session: which claims count between its calls.
use Rattle.std.proofs.Common.{◌≡◌, ℕ, ◌+◌, ◌*◌, ◌<◌, length, slice_set, arith, sym, refl}
use Rattle.steady_flash.specs.Cells.{Written}
use Rattle.steady_flash.specs.Marked.{Size, Same}
use Rattle.steady_flash.specs.Layout.{held_at}
use Rattle.steady_flash.specs.Sound.{Standing, IsSound, IsCalm, IsQuiet, IsSameClaim, IsStopped, IsEnded, steady_at, moving_at}
use Rattle.steady_flash.specs.declared.layout.Held.{Held}
use Rattle.steady_flash.specs.declared.layout.Layout.{Layout}
use Rattle.steady_flash.specs.declared.writing.Failed.{Failed}
use Rattle.steady_flash.specs.declared.writing.Failed.TheVariants.{Torn}
use Rattle.steady_flash.specs.declared.moving.Stop.{Stop}
use Rattle.steady_flash.specs.declared.moving.Stop.TheVariants.{Fault, InDoubt, Named}
use Rattle.steady_flash.proofs.Layouts.{at_set, laid_bumped}
use Rattle.steady_flash.proofs.Soundness.{sound_beside, held_still, about_as, pending_still}
use Rattle.steady_flash.proofs.Bumping.{calm_bumped}

pub sound_same : (size : Size) (marks marks' : ℕ → ℕ → Written) (s : Standing) → Same marks marks' → IsSound size marks s → IsSound size marks' s
sound_same size marks marks' s same c =
    sound_beside size marks marks' s (λ q j d e. same q (1 + 3 * j))
    (λ p b. held_still size marks marks' s.layout.pages p (held_at s.layout.held p) (c.laid_out.placed.index p b) (λ m d e. same (held_at s.layout.held p).page m) (c.held p b))
    (λ p b. about_as marks marks' (held_at s.layout.held p) (same _ _))
    (λ b. pending_still marks marks' size.triples s.layout.pages s.layout.spare s.page s.index ((held_at s.layout.held s.page).number + 1) (c.room b) (λ m d e. same s.layout.spare m) (c.spare b))
    c

pub stopped_sound : (size : Size) (marks : ℕ → ℕ → Written) (layout : Layout) (page : ℕ) (stop : Stop) → IsStopped size marks layout page stop → (after : Standing) × IsSound size marks after
stopped_sound size marks layout page Fault c = (steady_at layout, c.sound)
stopped_sound size marks layout page (Named why) c = (steady_at layout, c.sound)
stopped_sound size marks layout page InDoubt c = (moving_at layout page, c)

pub sound_after : (size : Size) (marks marks' : ℕ → ℕ → Written) → Same marks marks' → (after : Standing) × IsSound size marks after → (after : Standing) × IsSound size marks' after
sound_after size marks marks' same x = (x.0, sound_same size marks marks' x.0 same x.1)

-- what no claim says
pub calm_flagged : (size : Size) (marks : ℕ → ℕ → Written) (layout : Layout) (page : ℕ) (x : Held) → page < layout.pages → x.page ≡ (held_at layout.held page).page → x.index ≡ (held_at layout.held page).index → x.number ≡ (held_at layout.held page).number
    → IsCalm size marks layout → IsCalm size marks (record { pages = layout.pages; held = slice_set layout.held page x; spare = layout.spare })
calm_flagged size marks layout page x b e f n c =
    let l = c.sound.laid_out in
    let in_held : page < length layout.held = omega (arith, l.placed.eight, l.placed.served.most) in
    let after : Layout = record { pages = layout.pages; held = slice_set layout.held page x; spare = layout.spare } in
    calm_bumped size marks (steady_at layout) after c.sound
    (laid_bumped size layout page x l b e (rw f (l.placed.index page b)) (rw n (l.placed.number page b)))
    refl
    (λ p d. at_set (λ (h : Held). IsSameClaim h (held_at layout.held p)) layout.held page p x in_held (λ same. rw same (sym e, sym f, sym n)) (λ other. (refl, refl, refl)))
    (λ p d. at_set (λ (h : Held). IsQuiet size marks layout.pages p h.number) layout.held page p x in_held (λ same. rw (same, n) (c.quiet page b)) (λ other. c.quiet p d))

pub stopped_moving : (size : Size) (marks : ℕ → ℕ → Written) (layout : Layout) (page : ℕ) (stop : Stop) → stop ≡ InDoubt → IsStopped size marks layout page stop → IsSound size marks (moving_at layout page)
stopped_moving size marks layout page stop e c = rw e at c

pub stopped_calm : (size : Size) (marks : ℕ → ℕ → Written) (layout : Layout) (page : ℕ) (stop : Stop) → (stop ≡ InDoubt → ⊥) → IsStopped size marks layout page stop → IsCalm size marks layout
stopped_calm size marks layout page Fault apart c = c
stopped_calm size marks layout page (Named why) apart c = c
stopped_calm size marks layout page InDoubt apart c = absurd (apart refl)

pub ended_torn : (size : Size) (marks : ℕ → ℕ → Written) (layout : Layout) (why : Failed) → why ≡ Torn → IsEnded size marks layout why → IsCalm size marks layout
ended_torn size marks layout why e c = rw e at c
