-- The address of the controller: reported, or set to 0 by a reset.
use Rattle.std.proofs.lemmas.Grind.{common_steps}
use Rattle.std.proofs.Common.{arith}
use Rattle.std.proofs.Common.{◌≡◌, ℕ, Bool, true, false, List, [], ◌∷◌, ◌++◌, append_assoc, Option, refl, sym, ap, ◌∙◌}
use Rattle.usb_device.specs.Calls.{EpCall, SetUp, Out, In, Polled, BusReset}
use Rattle.usb_device.specs.Addresses.{StaysBy, Stays, StaysOrReset, Tells, Addressed}
use Rattle.usb_device.specs.Bus.{Bus, InMode, OutMode, Happens, Goes, is_pending, unless_pending, with_input, with_output}
use Rattle.usb_device.specs.Bus1.{beside, Adds, KeptOrReset, KeptUnless}

was_reset : (b next c : Bus) → next ≡ c → (b.met.reset ≡ true → c.met.reset ≡ true) → b.met.reset ≡ true → next.met.reset ≡ true
was_reset b next c e h r = ap (λ (x : Bus). x.met.reset) e ∙ h r

step : (b next : Bus) → Happens b next → b.met.reset ≡ true → next.met.reset ≡ true
step b next h1 h2 = grind (arith, common_steps)

pub reset_goes : (steps : List Bus) (b next : Bus) → Goes steps b next → b.met.reset ≡ true → next.met.reset ≡ true
reset_goes [] b next e r = was_reset b next b e (λ x. x) r
reset_goes (mid ∷ rest) b next g r = reset_goes rest mid next g.1 (step b mid g.0 r)

set_reset : (pending : Bool) (b next : Bus) → next.met ≡ b.met → b.met.reset ≡ true → (unless_pending pending b next).met.reset ≡ true
set_reset pending b next h1 h2 = grind (arith, common_steps)

pub input_stays : (steps : List Bus) (b mid new : Bus) (mode : InMode) (x y : ℕ) → Goes steps b mid → new ≡ with_input mid mode → StaysBy new.met.reset x y → Stays b new x y
input_stays steps b mid new mode x y g e s =
    ((λ r. ap (λ (n : Bus). n.met.reset) e ∙ set_reset (is_pending mid.met) mid _ refl (reset_goes steps b mid g r)), λ _. s)

pub output_stays : (steps : List Bus) (b mid new : Bus) (mode : OutMode) (x y : ℕ) → Goes steps b mid → new ≡ with_output mid mode → StaysBy new.met.reset x y → Stays b new x y
output_stays steps b mid new mode x y g e s =
    ((λ r. ap (λ (n : Bus). n.met.reset) e ∙ set_reset (is_pending mid.met) mid _ refl (reset_goes steps b mid g r)), λ _. s)

-- one behind the other
zeroed : (r : Bool) (x y : ℕ) → StaysBy r x y → r ≡ true → y ≡ 0
zeroed r x y h1 h2 = grind (arith, common_steps)

then_by : (r q : Bool) (x y z : ℕ) → (r ≡ true → q ≡ true) → StaysBy r x y → StaysBy q y z → StaysBy q x z
then_by r q x y z h1 h2 h3 = grind (arith, common_steps)

pub stays_then : (b c d : Bus) (x y z : ℕ) → Stays b c x y → Stays c d y z → Stays b d x z
stays_then b c d x y z (m, f) (n, k) =
    ((λ r. n (m r)), λ o. then_by c.met.reset d.met.reset x y z n (f o) (k (λ r. zeroed c.met.reset x y (f o) r)))

still_by : (r : Bool) (x : ℕ) → (r ≡ true → x ≡ 0) → StaysBy r x x
still_by r x h1 = grind (arith, common_steps)

pub stays_still : (b : Bus) (x : ℕ) → Stays b b x x
stays_still b x = ((λ r. r), λ o. still_by b.met.reset x o)

-- a look at what was met, and what was done behind it
pub served_stays : (reset now : Bool) (calls later : List EpCall) (x y z : ℕ) → StaysBy reset x y → StaysBy now y z → KeptUnless reset calls later
    → StaysOrReset now calls later x z
served_stays reset now calls later x y z h1 h2 h3 = grind (arith, common_steps)

beside_more : (more since : List EpCall) → beside more ≡ [] → beside (more ++ since) ≡ beside since
beside_more [] since e = refl
beside_more (SetUp bytes ∷ more) since e = beside_more more since e
beside_more (Out packet answer ∷ more) since e = beside_more more since e
beside_more (In answer ∷ more) since e = beside_more more since e
beside_more (Polled answer ∷ more) since e = cc
beside_more (BusReset ∷ more) since e = cc

pub adds_more : (others calls mid later : List EpCall) → Adds others calls mid → Adds [] mid later → Adds others calls later
adds_more others calls mid later a b =
    (b.0 ++ a.0, b.1 ∙ ap (λ x. b.0 ++ x) a.1 ∙ sym (append_assoc b.0 a.0 calls), beside_more b.0 a.0 b.2 ∙ a.2)

pub kept_further : (reset : Bool) (calls mid later : List EpCall) → KeptUnless reset calls mid → Adds [] mid later → KeptUnless reset calls later
kept_further true calls mid later k e = adds_more (BusReset ∷ []) calls mid later k e
kept_further false calls mid later k e = adds_more [] calls mid later k e

pub kept_or : (reset : Bool) (calls later : List EpCall) → KeptUnless reset calls later → KeptOrReset calls later
kept_or reset calls later h1 = grind (arith, common_steps)

pub addressed : (done : Bool) (due : Option ℕ) (b next : Bus) (calls later : List EpCall) (x y z : ℕ) → Tells done due b next y z
    → StaysOrReset b.met.reset calls later x y → Addressed done due next.met.reset calls later x z
addressed done due b next calls later x y z h1 h2 = grind (arith, common_steps)
