-- What a guard keeps, call by call.
use Rattle.std.proofs.lemmas.Grind.{common_steps}
use Rattle.std.proofs.Common.{◌≡◌, ℕ, ◌+◌, ◌-◌, ◌==◌, ◌&&◌, ◌||◌, nat_lt, not, Bool, true, false, List, [], ◌∷◌, ◌++◌, Option, Some, refl, sym, ap, subst, ◌∙◌, append_assoc, arith}
use Rattle.usb_device.specs.declared.answer.EpAnswer.{EpAnswer}
use Rattle.usb_device.specs.declared.answer.EpAnswer.TheVariants.{Nak, Stall}
use Rattle.usb_device.specs.declared.guard.Guard.{Guard}
use Rattle.usb_device.specs.declared.guarded.Guarded.{Guarded}
use Rattle.usb_device.specs.Calls.{EpCall, SetUp, Out, In, Polled, BusReset}
use Rattle.usb_device.specs.Guarding.{GuardCall, Met, Locked, Scanned, calls_met, is_feature, writes, is_command, is_locked, is_refused, scans_since, zero_if, Passage, Refuses, Waits, Passes, passage_by, passage, passed, DeviceCall, Serves, SetsLock, Else, Brings, AllBring}
use Rattle.usb_device.specs.representation.Guarded.{guard_of, is_taken, left_by, Guards, Went}

abbrev pub Relation : Type 0 → Type 1
Relation E = List EpCall → E → Type 0

pub begun : {E : Type 0} (refines : Relation E) (pace : ℕ) (behind : E) → refines [] behind
    → Guards refines pace [] (record { pace = pace; locked = false; feature = false; refused = false; left = pace }) behind
unfolding guard_of is_refused scans_since passed
begun refines pace behind s =
    let all : pace ≡ pace - 0 = omega arith in
    record { answered = tt; kept = ap (λ (x : ℕ). record { pace = pace; locked = false; feature = false; refused = false; left = x }) all; session = s }

pub on_lock : {E : Type 0} (refines : Relation E) (pace : ℕ) (past : List GuardCall) (on : Bool) (guard next : Guard) (behind : E) → next ≡ record guard { locked = on }
    → Guards refines pace past guard behind → Guards refines pace (Locked on ∷ past) next behind
unfolding guard_of is_refused scans_since passed
on_lock refines pace past on guard next behind n g = record {
  answered = (tt, g.answered);
  kept = n ∙ ap (λ (x : Guard). record x { locked = on }) g.kept;
  session = g.session;
}

less : (pace count : ℕ) → pace - count - 1 ≡ pace - (count + 1)
less pace count = omega arith

pub on_scan : {E : Type 0} (refines : Relation E) (pace : ℕ) (past : List GuardCall) (guard next : Guard) (behind new : E) → next ≡ record guard { left = guard.left - 1 }
    → (refines (passed pace past) behind → refines (passed pace past) new) → Guards refines pace past guard behind → Guards refines pace (Scanned ∷ past) next new
unfolding guard_of is_refused scans_since passed
on_scan refines pace past guard next behind new n s g = record {
  answered = (tt, g.answered);
  kept = n ∙ ap (λ (x : Guard). record x { left = x.left - 1 }) g.kept ∙ ap (λ (x : ℕ). record (guard_of pace past) { left = x }) (less pace (scans_since past));
  session = s g.session;
}

pub on_setup : {E : Type 0} (refines : Relation E) (pace : ℕ) (past : List GuardCall) (bytes : List ℕ) (guard next : Guard) (behind new : E)
    → next ≡ record guard { feature = is_feature (Some bytes); refused = false }
    → (refines (passed pace past) behind → refines (SetUp bytes ∷ passed pace past) new) → Guards refines pace past guard behind → Guards refines pace (Met (SetUp bytes) ∷ past) next new
unfolding guard_of is_refused scans_since passed
on_setup refines pace past bytes guard next behind new n s g = record {
  answered = (tt, g.answered);
  kept = n ∙ ap (λ (x : Guard). record x { feature = is_feature (Some bytes); refused = false }) g.kept;
  session = s g.session;
}

pub on_reset : {E : Type 0} (refines : Relation E) (pace : ℕ) (past : List GuardCall) (guard next : Guard) (behind new : E) → next ≡ record guard { feature = false; refused = false }
    → (refines (passed pace past) behind → refines (BusReset ∷ passed pace past) new) → Guards refines pace past guard behind → Guards refines pace (Met BusReset ∷ past) next new
unfolding guard_of is_refused scans_since passed
on_reset refines pace past guard next behind new n s g = record {
  answered = (tt, g.answered);
  kept = n ∙ ap (λ (x : Guard). record x { feature = false; refused = false }) g.kept;
  session = s g.session;
}

pub on_poll : {E : Type 0} (refines : Relation E) (pace : ℕ) (past : List GuardCall) (answer : Option (List ℕ)) (guard : Guard) (behind new : E)
    → (refines (passed pace past) behind → refines (Polled answer ∷ passed pace past) new) → Guards refines pace past guard behind → Guards refines pace (Met (Polled answer) ∷ past) guard new
unfolding guard_of is_refused scans_since passed
on_poll refines pace past answer guard behind new s g = record { answered = (tt, g.answered); kept = g.kept; session = s g.session }

pub on_work : {E : Type 0} (refines : Relation E) (pace : ℕ) (past : List GuardCall) (guard : Guard) (behind new : E)
    → (refines (passed pace past) behind → refines (passed pace past) new) → Guards refines pace past guard behind → Guards refines pace past guard new
on_work refines pace past guard behind new s g = record { answered = g.answered; kept = g.kept; session = s g.session }

refused_is : (pace : ℕ) (past : List GuardCall) (guard : Guard) → guard ≡ guard_of pace past → guard.refused ≡ is_refused past
unfolding guard_of
refused_is pace past guard k = ap (λ (x : Guard). x.refused) k

-- an IN token of a transfer that is the guard's own
pub on_in_refused : {E : Type 0} (refines : Relation E) (pace : ℕ) (past : List GuardCall) (guard : Guard) (behind : E) → guard.refused ≡ true
    → Guards refines pace past guard behind → Guards refines pace (Met (In Stall) ∷ past) guard behind
unfolding guard_of is_refused scans_since passed
on_in_refused refines pace past guard behind r g =
    let b : is_refused past ≡ true = sym (refused_is pace past guard g.kept) ∙ r in
    record {
      answered = (rw b refl, g.answered);
      kept = g.kept;
      session = rw b g.session;
    }

pub on_in : {E : Type 0} (refines : Relation E) (pace : ℕ) (past : List GuardCall) (answer : EpAnswer) (guard : Guard) (behind new : E) → guard.refused ≡ false
    → (refines (passed pace past) behind → refines (In answer ∷ passed pace past) new) → Guards refines pace past guard behind → Guards refines pace (Met (In answer) ∷ past) guard new
unfolding guard_of is_refused scans_since passed
on_in refines pace past answer guard behind new r s g =
    let b : is_refused past ≡ false = sym (refused_is pace past guard g.kept) ∙ r in
    record {
      answered = (rw b tt, g.answered);
      kept = g.kept;
      session = rw b (s g.session);
    }

-- ---- OUT packets

still : (pace count : ℕ) → not (pace - count == 0) ≡ nat_lt count pace
still pace count = grind arith

-- what the guard says of a packet
abbrev by : Guard → List ℕ → Passage
by guard packet = passage_by (guard.refused || (guard.locked && (guard.feature && writes packet))) ((guard.feature && writes packet) && not (guard.left == 0))

passage_is : (pace : ℕ) (past : List GuardCall) (packet : List ℕ) (guard : Guard) → guard ≡ guard_of pace past → by guard packet ≡ passage pace past packet
unfolding guard_of passage is_command
passage_is pace past packet guard k =
    ap (λ (x : Guard). by x packet) k
    ∙ ap (λ (x : Bool). passage_by (is_refused past || (is_locked past && is_command (calls_met past) packet)) (is_command (calls_met past) packet && x)) (still pace (scans_since past))

refuses_by : (b w : Bool) → passage_by b w ≡ Refuses → b ≡ true
refuses_by b w h1 = grind (arith, common_steps)

waits_by : (b w : Bool) → passage_by b w ≡ Waits → b ≡ false
waits_by b w h1 = grind (arith, common_steps)

passes_by : (b w : Bool) → passage_by b w ≡ Passes → b ≡ false
passes_by b w h1 = grind (arith, common_steps)

neither : (b c : Bool) → (b || c) ≡ false → (b || c) ≡ b
neither b c h1 = grind (arith, common_steps)

pub on_out_refused : {E : Type 0} (refines : Relation E) (pace : ℕ) (past : List GuardCall) (packet : List ℕ) (guard next : Guard) (behind : E) → by guard packet ≡ Refuses → next ≡ record guard { refused = true }
    → Guards refines pace past guard behind → Guards refines pace (Met (Out packet Stall) ∷ past) next behind
unfolding guard_of is_refused scans_since passed passage
on_out_refused refines pace past packet guard next behind p n g =
    let q : passage pace past packet ≡ Refuses = sym (passage_is pace past packet guard g.kept) ∙ p in
    let b : Bool = is_refused past || (is_locked past && is_command (calls_met past) packet) in
    let w : Bool = is_command (calls_met past) packet && nat_lt (scans_since past) pace in
    record {
      answered = (rw q refl, g.answered);
      kept = n ∙ ap (λ (x : Guard). record x { refused = true }) g.kept ∙ ap (λ (x : Bool). record (guard_of pace past) { refused = x }) (sym (refuses_by b w q));
      session = rw q g.session;
    }

pub on_out_waits : {E : Type 0} (refines : Relation E) (pace : ℕ) (past : List GuardCall) (packet : List ℕ) (guard : Guard) (behind : E) → by guard packet ≡ Waits
    → Guards refines pace past guard behind → Guards refines pace (Met (Out packet Nak) ∷ past) guard behind
unfolding guard_of is_refused scans_since passed passage
on_out_waits refines pace past packet guard behind p g =
    let q : passage pace past packet ≡ Waits = sym (passage_is pace past packet guard g.kept) ∙ p in
    let b : Bool = is_refused past || (is_locked past && is_command (calls_met past) packet) in
    let w : Bool = is_command (calls_met past) packet && nat_lt (scans_since past) pace in
    record {
      answered = (rw q refl, g.answered);
      kept = g.kept ∙ ap (λ (x : Bool). record (guard_of pace past) { refused = x }) (sym (neither (is_refused past) (is_locked past && is_command (calls_met past) packet) (waits_by b w q)));
      session = rw q g.session;
    }

left_is : (command : Bool) (pace count : ℕ) → left_by command pace (pace - count) ≡ pace - zero_if command count
left_is command pace count = grind (arith, common_steps)

since_out : (past : List GuardCall) (packet : List ℕ) (answer : EpAnswer) → scans_since (Met (Out packet answer) ∷ past) ≡ zero_if (is_taken answer && is_command (calls_met past) packet) (scans_since past)
unfolding scans_since
since_out past packet answer = grind (arith, common_steps)

pub on_out : {E : Type 0} (refines : Relation E) (pace : ℕ) (past : List GuardCall) (packet : List ℕ) (answer : EpAnswer) (guard next : Guard) (behind new : E) → by guard packet ≡ Passes
    → next ≡ record guard { left = left_by (is_taken answer && (guard.feature && writes packet)) guard.pace guard.left }
    → (refines (passed pace past) behind → refines (Out packet answer ∷ passed pace past) new) → Guards refines pace past guard behind → Guards refines pace (Met (Out packet answer) ∷ past) next new
unfolding guard_of is_refused passed passage is_command
on_out refines pace past packet answer guard next behind new p n s g =
    let q : passage pace past packet ≡ Passes = sym (passage_is pace past packet guard g.kept) ∙ p in
    let b : Bool = is_refused past || (is_locked past && is_command (calls_met past) packet) in
    let w : Bool = is_command (calls_met past) packet && nat_lt (scans_since past) pace in
    record {
      answered = (rw q tt, g.answered);
      kept = n
          ∙ ap (λ (x : Guard). record x { left = left_by (is_taken answer && (x.feature && writes packet)) x.pace x.left }) g.kept
          ∙ ap (λ (x : ℕ). record (guard_of pace past) { left = x }) (left_is (is_taken answer && is_command (calls_met past) packet) pace (scans_since past) ∙ ap (λ (x : ℕ). pace - x) (sym (since_out past packet answer)))
          ∙ ap (λ (x : Bool). record (guard_of pace past) { refused = x; left = pace - scans_since (Met (Out packet answer) ∷ past) }) (sym (neither (is_refused past) (is_locked past && is_command (calls_met past) packet) (passes_by b w q)));
      session = rw q (s g.session);
    }

-- ---- from one moment to another

abbrev pub GoesOn : {E : Type 0} → Relation E → EpCall → Guarded E → Guarded E → Type 0
GoesOn refines call old new = (pace : ℕ) (past : List GuardCall) → Guards refines pace past old.guard old.behind → Guards refines pace (Met call ∷ past) new.guard new.behind

-- a call of the bus, reported for any past, goes on from any moment
pub goes_on : {E : Type 0} (refines : Relation E) (call : EpCall) (old new : Guarded E) → GoesOn refines call old new
    → (from : Guarded E) → Went refines (Brings Serves) from old → Went refines (Brings Serves) from new
goes_on refines call old new t from k = λ pace past s. let a = k pace past s in (Met call ∷ a.0, a.1, t pace (a.0 ++ past) a.2)

pub served : {E : Type 0} (refines : Relation E) (old now : Guarded E) → ((from : Guarded E) → Went refines (Brings Serves) from old → Went refines (Brings Serves) from now)
    → Went refines (Brings Serves) old now
served refines old now k = k old (λ pace past g. ([], tt, g))

pub begins : {E : Type 0} (refines : Relation E) (g : Guarded E) → Went refines (AllBring []) g g
begins refines g = λ pace past s. ([], refl, s)

pub rested : {E : Type 0} (refines : Relation E) (old now : Guarded E) → now ≡ old → Went refines (Brings Else) old now
rested refines old now e = λ pace past s. ([], refl, subst (λ (x : Guarded _). Guards refines pace past x.guard x.behind) (sym e) s)

pub reported_lock : {E : Type 0} (refines : Relation E) (on : Bool) (old now : Guarded E)
    → ((pace : ℕ) (past : List GuardCall) → Guards refines pace past old.guard old.behind → Guards refines pace (Locked on ∷ past) now.guard now.behind)
    → Went refines (Brings (SetsLock on)) old now
reported_lock refines on old now t = λ pace past s. (Locked on ∷ [], refl, t pace past s)

pub went_on : {E : Type 0} (refines : Relation E) (call : DeviceCall) (calls : List DeviceCall) (from old now : Guarded E)
    → Went refines (AllBring calls) from old → Went refines (Brings call) old now → Went refines (AllBring (call ∷ calls)) from now
went_on refines call calls from old now h k = λ pace past s.
    let a = h pace past s in
    let b = k pace (a.0 ++ past) a.2 in
    let G : List GuardCall → Type 0 = λ x. Guards refines pace x now.guard now.behind in
    (b.0 ++ a.0, (b.0, a.0, b.1, a.1, refl), subst G (sym (append_assoc b.0 a.0 past)) b.2)
