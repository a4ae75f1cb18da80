-- At least 127 operations lie between two compactions.
use Rattle.std.proofs.Common.{◌≡◌, ℕ, suc, ◌≤◌, arith, Option, Some, None, List, [], ◌∷◌, ◌++◌, refl, sym, subst}
use Rattle.layers.specs.Codes.{DefaultCodes}
use Rattle.layers.specs.declared.command.Command.{Command}
use Rattle.keymap_store.specs.declared.store.Work.{Work as WorkAnswer}
use Rattle.keymap_store.specs.declared.store.Work.TheVariants.{Idle, Working, Settled, Failed}
use Rattle.keymap_store.specs.Turnovers.{TurnsOver, Wears, over, spares, fills, Follows, begin, spare, fill}
use Rattle.keymap_store.proofs.Between.{between}
use Rattle.keyboard.specs.Calls.{Call, Scanned, SetUp, Out, In, Polled, Worked, BusReset, image_after, EachCall}
use Rattle.keyboard.specs.Commands.{working}
use Rattle.keyboard.specs.Conforming.{IsAnswered, WorkedOn}
use Rattle.keyboard.specs.Turnovers.{with_step, operations, NoneTurnsOver}

-- operations one after another, no more than so many of which touch the tail of the active page
record FollowsIn (first : List ℕ) (most : ℕ) (last : List ℕ) : Type 0 where
  count : ℕ
  follows : Follows first count last
  few : count ≤ most

one_more : (work : WorkAnswer) (n m : ℕ) → n ≤ m → n ≤ with_step work m
one_more Idle n m l = l
one_more Working n m l = omega (arith, l)
one_more Settled n m l = omega (arith, l)
one_more Failed n m l = omega (arith, l)

one_filled : (work : WorkAnswer) (n m : ℕ) → (work ≡ Idle → ⊥) → n ≤ m → suc n ≤ with_step work m
one_filled Idle n m k l = absurd (k refl)
one_filled Working n m k l = omega (arith, l)
one_filled Settled n m k l = omega (arith, l)
one_filled Failed n m k l = omega (arith, l)

module _ (defaults : DefaultCodes) where
  worn : (first old new : List ℕ) (work : WorkAnswer) (most : ℕ) → (work ≡ Idle → ⊥) → (TurnsOver defaults old new → ⊥) → Wears defaults old new → FollowsIn first most old → FollowsIn first (with_step work most) new
  worn first old new work most k n (over t) f = absurd (n t)
  worn first old new work most k n (spares s) f = record { count = f.count; follows = spare f.count old new f.follows s; few = one_more work f.count most f.few }
  worn first old new work most k n (fills s) f = record { count = suc f.count; follows = fill f.count old new f.follows s; few = one_filled work f.count most k f.few }

  not_idle : (start : List ℕ) (before : List Call) (command : Command) (work : WorkAnswer) (new : List ℕ) → WorkedOn defaults start before (Some command) work new → work ≡ Idle → ⊥
  not_idle start before command work new h e = h.attempts.not_idle e

  worked : (start first : List ℕ) (before : List Call) (w : Option Command) (work : WorkAnswer) (new : List ℕ) (most : ℕ) → WorkedOn defaults start before w work new → (TurnsOver defaults (image_after start before) new → ⊥)
      → FollowsIn first most (image_after start before) → FollowsIn first (with_step work most) new
  worked start first before None work new most (idle, same) n f =
      subst (λ (image : List ℕ). FollowsIn first (with_step work most) image) (sym same) (record { count = f.count; follows = f.follows; few = one_more work f.count most f.few })
  worked start first before (Some command) work new most h n f =
      worn first (image_after start before) new work most (not_idle start before command work new h) n h.wears f

  -- the operations of these calls, after a compaction
  follows_in : (start first : List ℕ) (calls past : List Call) → image_after start past ≡ first → EachCall (IsAnswered defaults) start (calls ++ past) → NoneTurnsOver defaults start calls past
      → FollowsIn first (operations calls) (image_after start (calls ++ past))
  follows_in start first [] past e h n = rw e (record { count = 0; follows = begin; few = omega arith })
  follows_in start first (Scanned scan ∷ calls) past e h n = follows_in start first calls past e h.1 n
  follows_in start first (SetUp bytes ∷ calls) past e h n = follows_in start first calls past e h.1 n
  follows_in start first (Out packet answer ∷ calls) past e h n = follows_in start first calls past e h.1 n
  follows_in start first (In answer ∷ calls) past e h n = follows_in start first calls past e h.1 n
  follows_in start first (Polled answer ∷ calls) past e h n = follows_in start first calls past e h.1 n
  follows_in start first (Worked work image ∷ calls) past e h n =
      worked start first (calls ++ past) (working defaults start (calls ++ past)) work image (operations calls) h.0 n.0 (follows_in start first calls past e h.1 n.1)
  follows_in start first (BusReset ∷ calls) past e h n = follows_in start first calls past e h.1 n

  pub apart : (start : List ℕ) (before calls : List Call) (work : WorkAnswer) (first last : List ℕ) → EachCall (IsAnswered defaults) start (calls ++ Worked work first ∷ before)
      → TurnsOver defaults (image_after start before) first → NoneTurnsOver defaults start calls (Worked work first ∷ before) → TurnsOver defaults (image_after start (calls ++ Worked work first ∷ before)) last
      → (n : ℕ) × Follows first n (image_after start (calls ++ Worked work first ∷ before)) × (127 ≤ n) × (n ≤ operations calls)
  apart start before calls work first last h t n l =
      let f : FollowsIn first (operations calls) (image_after start (calls ++ Worked work first ∷ before)) = follows_in start first calls (Worked work first ∷ before) refl h n in
      let many : 127 ≤ f.count = between defaults (image_after start before) first (image_after start (calls ++ Worked work first ∷ before)) last f.count t f.follows l in
      (f.count, f.follows, many, f.few)
