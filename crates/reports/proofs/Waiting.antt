use Rattle.std.proofs.Common.{◌≡◌, if◌then◌else◌, ℕ, true, ◌+◌, ◌-◌, ◌≤◌, zero, suc, min, List, [], ◌∷◌, ◌++◌, Option, length, drop, arith, refl, sym, ◌∙◌, ap, inl, inr, length-append, length-drop, append_assoc, append-nil}
use Rattle.std.proofs.lemmas.Bool.{cases_lt, cases_Bool, eq-eqb}
use Rattle.std.proofs.lemmas.List.{drop-append-le, drop_all}
use Rattle.std.specs.Str.{bytes_eq}
use Rattle.circular_buffer.specs.Buffer.{keep_last}
use Rattle.reports.specs.declared.Protocol.{Protocol}
use Rattle.reports.specs.declared.Protocol.TheVariants as protocol
use Rattle.reports.specs.declared.IdleId.{IdleId}
use Rattle.reports.specs.declared.Input.{Input}
use Rattle.reports.specs.declared.Input.TheVariants.{Boot, One, Two}
use Rattle.reports.specs.Calls.{PollerCall, ticked, polled, idle_set, forgot, was_reset, forgets}
use Rattle.reports.specs.Queue.{changed_bytes, pushed_by, pushed, waiting, queue}

-- ---- the last of a list

module _ {X : Type 0} where
  drop-add : (a b : ℕ) (xs : List X) → drop a (drop b xs) ≡ drop (b + a) xs
  drop-add a zero xs = let e : 0 + a ≡ a = omega arith in rw e refl
  drop-add zero (suc b) [] = let e : suc b + 0 ≡ suc b = omega arith in rw e refl
  drop-add (suc a) (suc b) [] = let e : suc b + suc a ≡ suc (b + suc a) = omega arith in rw e refl
  drop-add a (suc b) (x ∷ xs) = let e : suc b + a ≡ suc (b + a) = omega arith in rw e (drop-add a b xs)

  pub length-keep_last : (n : ℕ) (xs : List X) → n ≤ length xs → length (keep_last n xs) ≡ n
  length-keep_last n xs l = omega (arith, length-drop (length xs - n) xs)

  pub keep_last-all : (n : ℕ) (xs : List X) → length xs ≤ n → keep_last n xs ≡ xs
  keep_last-all n xs l = let z : length xs - n ≡ 0 = omega arith in rw z refl

  -- the last of the last
  pub keep_last-append : (m n : ℕ) (xs ys : List X) → n ≤ length xs → keep_last m (keep_last n xs ++ ys) ≡ keep_last (min m (n + length ys)) (xs ++ ys)
  keep_last-append m n xs ys l =
      let gone = length xs - n in
      let whole : drop gone xs ++ ys ≡ drop gone (xs ++ ys) = sym (drop-append-le gone xs ys (omega arith)) in
      let size : length (drop gone xs ++ ys) ≡ n + length ys = omega (arith, length-append (drop gone xs) ys, length-drop gone xs) in
      let more : gone + (n + length ys - m) ≡ length (xs ++ ys) - min m (n + length ys) = omega (arith, length-append xs ys) in
      rw size (rw whole (rw (drop-add (n + length ys - m) gone (xs ++ ys), more) refl))

-- ---- what waits

-- a poll lowers the count
pub waiting-poll : (past : List PollerCall) (protocol : Protocol) (answer : Option (List ℕ)) → waiting (polled protocol answer ∷ past) ≡ waiting past - 1
unfolding waiting
waiting-poll past protocol answer = refl

pub waiting-tick : (past : List PollerCall) (protocol : Protocol) (before now : Input → List ℕ)
    → waiting (ticked protocol before now ∷ past) ≡ min 8 (waiting past + length (pushed_by (ticked protocol before now)))
unfolding waiting
waiting-tick past protocol before now = refl

pub waiting-le8 : (past : List PollerCall) → waiting past ≤ 8
unfolding waiting
waiting-le8 [] = omega arith
waiting-le8 (ticked protocol before now ∷ past) = omega arith
waiting-le8 (polled protocol answer ∷ past) = omega (arith, waiting-le8 past)
waiting-le8 (idle_set id duration ∷ past) = omega arith
waiting-le8 (forgot ∷ past) = omega arith
waiting-le8 (was_reset ∷ past) = omega arith

pub waiting-le : (past : List PollerCall) → waiting past ≤ length (pushed past)
unfolding waiting pushed
waiting-le [] = omega arith
waiting-le (ticked protocol before now ∷ past) =
    omega (arith, waiting-le past, length-append (pushed past) (pushed_by (ticked protocol before now)))
waiting-le (polled protocol answer ∷ past) =
    omega (arith, waiting-le past, length-append (pushed past) (pushed_by (polled protocol answer)))
waiting-le (idle_set id duration ∷ past) =
    omega (arith, waiting-le past, length-append (pushed past) (pushed_by (idle_set id duration)))
waiting-le (forgot ∷ past) = omega arith
waiting-le (was_reset ∷ past) = omega arith

pub length-queue : (past : List PollerCall) → length (queue past) ≡ waiting past
unfolding queue
length-queue past = length-keep_last (waiting past) (pushed past) (waiting-le past)

pub queue-tick : (past : List PollerCall) (protocol : Protocol) (before now : Input → List ℕ)
    → queue (ticked protocol before now ∷ past) ≡ keep_last 8 (queue past ++ pushed_by (ticked protocol before now))
unfolding queue waiting pushed
queue-tick past protocol before now = sym (keep_last-append 8 (waiting past) (pushed past) (pushed_by (ticked protocol before now)) (waiting-le past))

-- without the first of the last
keep_last-less : (n : ℕ) (xs : List (List ℕ)) → n ≤ length xs → keep_last (n - 1) xs ≡ drop 1 (keep_last n xs)
keep_last-less zero xs l =
    let none : length xs - (zero - 1) ≡ length xs - zero = omega arith in
    let all : drop (length xs - zero) xs ≡ [] = drop_all (length xs - zero) xs (omega arith) in
    rw (none, all) refl
keep_last-less (suc n) xs l = let e : length xs - suc n + 1 ≡ length xs - (suc n - 1) = omega arith in sym (drop-add 1 (length xs - suc n) xs ∙ rw e refl)

pub queue-poll : (past : List PollerCall) (protocol : Protocol) (answer : Option (List ℕ)) → queue (polled protocol answer ∷ past) ≡ drop 1 (queue past)
unfolding queue waiting pushed pushed_by
queue-poll past protocol answer = rw (append-nil (pushed past)) (keep_last-less (waiting past) (pushed past) (waiting-le past))

pub queue-idle : (past : List PollerCall) (id : IdleId) (duration : ℕ) → queue (idle_set id duration ∷ past) ≡ queue past
unfolding queue waiting pushed pushed_by
queue-idle past id duration =
    let same : min 8 (waiting past + 0) ≡ waiting past = omega (arith, waiting-le8 past) in
    rw (append-nil (pushed past), same) refl

pub queue-none : queue [] ≡ []
unfolding queue waiting pushed
queue-none = refl

pub queue-forgot : (past : List PollerCall) → queue (forgot ∷ past) ≡ []
unfolding queue waiting pushed
queue-forgot past = refl

pub queue-reset : (past : List PollerCall) → queue (was_reset ∷ past) ≡ []
unfolding queue waiting pushed
queue-reset past = refl

-- ---- a push

abbrev pub pushed_on : (waiting : List (List ℕ)) (before now : List ℕ) → List (List ℕ)
pushed_on waiting before now = if bytes_eq before now then waiting else keep_last 8 (waiting ++ now ∷ [])

pub pushed_on-few : (waiting : List (List ℕ)) (before now : List ℕ) → length waiting ≤ 8 → pushed_on waiting before now ≡ keep_last 8 (waiting ++ changed_bytes before now)
pushed_on-few waiting before now l = elim (cases_Bool (bytes_eq before now)) [
  | inl same ↦ rw same (rw (append-nil waiting) (sym (keep_last-all 8 waiting l)))
  | inr other ↦ rw other refl
]

few_last : (xs : List (List ℕ)) → length (keep_last 8 xs) ≤ 8
few_last xs = omega (arith, length-drop (length xs - 8) xs)

few-queue : (past : List PollerCall) → length (queue past) ≤ 8
few-queue past = omega (arith, length-queue past, waiting-le8 past)

-- ---- the pushes of a scan

pub keep_last-twice : (n : ℕ) (xs ys : List (List ℕ)) → keep_last n (keep_last n xs ++ ys) ≡ keep_last n (xs ++ ys)
keep_last-twice n xs ys = elim (cases_lt (length xs) n) [
  | inl few ↦ rw (keep_last-all n xs (omega arith)) refl
  | inr many ↦ (let e : min n (n + length ys) ≡ n = omega arith in keep_last-append n n xs ys many ∙ rw e refl)
]

pub queue-boot : (past : List PollerCall) (before now : Input → List ℕ)
    → queue (ticked protocol.Boot before now ∷ past) ≡ keep_last 8 (queue past ++ changed_bytes (before Boot) (now Boot))
unfolding pushed_by
queue-boot past before now = queue-tick past protocol.Boot before now ∙ rw (append-nil (changed_bytes (before Boot) (now Boot))) refl

pub queue-report : (past : List PollerCall) (before now : Input → List ℕ)
    → queue (ticked protocol.Report before now ∷ past)
    ≡ keep_last 8 (keep_last 8 (queue past ++ changed_bytes (before One) (now One)) ++ changed_bytes (before Two) (now Two))
unfolding pushed_by
queue-report past before now =
    let one = changed_bytes (before One) (now One) in
    let two = changed_bytes (before Two) (now Two) in
    queue-tick past protocol.Report before now
    ∙ rw (append-nil two) (rw (← append_assoc (queue past) one two) (sym (keep_last-twice 8 (queue past ++ one) two)))

bytes_eq-refl : (xs : List ℕ) → bytes_eq xs xs ≡ true
bytes_eq-refl [] = refl
bytes_eq-refl (x ∷ xs) = rw (eq-eqb x x refl, bytes_eq-refl xs) refl

same_bytes : (bytes : List ℕ) → changed_bytes bytes bytes ≡ []
same_bytes bytes = rw (bytes_eq-refl bytes) refl

pub queue-same : (past : List PollerCall) (protocol : Protocol) (wanted : Input → List ℕ) → queue (ticked protocol wanted wanted ∷ past) ≡ queue past
queue-same past protocol.Boot wanted = queue-boot past wanted wanted
    ∙ rw (same_bytes (wanted Boot), append-nil (queue past)) (keep_last-all 8 (queue past) (omega (arith, length-queue past, waiting-le8 past)))
queue-same past protocol.Report wanted = queue-report past wanted wanted
    ∙ rw (same_bytes (wanted One), same_bytes (wanted Two), append-nil (queue past), append-nil (keep_last 8 (queue past)))
    (ap (λ q. keep_last 8 q) (keep_last-all 8 (queue past) (omega (arith, length-queue past, waiting-le8 past))) ∙ keep_last-all 8 (queue past) (omega (arith, length-queue past, waiting-le8 past)))

pub queue-forgets : (past : List PollerCall) (call : PollerCall) → forgets call ≡ true → queue (call ∷ past) ≡ []
unfolding queue waiting pushed
queue-forgets past call e = rw e refl

pub queue-boot-pushed : (past : List PollerCall) (before now : Input → List ℕ)
    → pushed_on (queue past) (before Boot) (now Boot) ≡ queue (ticked protocol.Boot before now ∷ past)
queue-boot-pushed past before now = pushed_on-few (queue past) (before Boot) (now Boot) (few-queue past) ∙ sym (queue-boot past before now)

pub queue-report-pushed : (past : List PollerCall) (before now : Input → List ℕ)
    → pushed_on (pushed_on (queue past) (before One) (now One)) (before Two) (now Two) ≡ queue (ticked protocol.Report before now ∷ past)
queue-report-pushed past before now =
    let one = keep_last 8 (queue past ++ changed_bytes (before One) (now One)) in
    ap (λ waiting. pushed_on waiting (before Two) (now Two)) (pushed_on-few (queue past) (before One) (now One) (few-queue past))
    ∙ pushed_on-few one (before Two) (now Two) (few_last (queue past ++ changed_bytes (before One) (now One)))
    ∙ sym (queue-report past before now)
