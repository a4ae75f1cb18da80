-- What was sent last, found at the latest poll that sent it.
use Rattle.std.proofs.Common.{◌≡◌, ℕ, ◌+◌, suc, true, false, Some, None, is_some, if◌then◌else◌, List, [], ◌∷◌, ◌++◌, arith, refl, sym, ◌∙◌, ap}
use Rattle.std.proofs.lemmas.List.Sums.{sum_by-cons}
use Rattle.reports.specs.declared.Input.{Input}
use Rattle.reports.specs.Calls.{PollerCall, ticked, polled, idle_set, forgot, was_reset, forgets, is_tick}
use Rattle.reports.specs.History.{NoneSent, Last, scans}
use Rattle.reports.specs.Poll.{sent_by, last_bytes, age}
use Rattle.reports.specs.Wanted.{wanted}

none_now : (report : Input) (call : PollerCall) (later : List PollerCall) → NoneSent report (call ∷ later) → (forgets call ≡ false) × (sent_by report call ≡ None)
none_now report call later n = (n.kept 0 call (omega arith), n.none 0 call (omega arith))

none_later : (report : Input) (call : PollerCall) (later : List PollerCall) → NoneSent report (call ∷ later) → NoneSent report later
none_later report call later n = record { kept = λ k d l. n.kept (suc k) d (omega arith); none = λ k d l. n.none (suc k) d (omega arith) }

never : (bytes : List ℕ) → None ≡ Some bytes → ⊥
never bytes e = let b : false ≡ true = ap (λ o. is_some o) e in cc

-- a call that neither sends nor forgets it
step_bytes : (report : Input) (call : PollerCall) (past : List PollerCall) → forgets call ≡ false → sent_by report call ≡ None
    → last_bytes report (call ∷ past) ≡ last_bytes report past
unfolding last_bytes
step_bytes report call past f s = rw (f, s) refl

step_age : (report : Input) (call : PollerCall) (past : List PollerCall) (n : ℕ) → forgets call ≡ false → sent_by report call ≡ None
    → age report past ≡ n → age report (call ∷ past) ≡ (if is_tick call then 1 else 0) + n
unfolding age
step_age report call past n f s e = rw (f, s, e) (omega arith)

one_more : (report : Input) (call : PollerCall) (later past : List PollerCall) (bytes : List ℕ) → NoneSent report (call ∷ later) → Last report past bytes (scans later)
    → Last report (call ∷ past) bytes (scans (call ∷ later))
one_more report call later past bytes n l =
    let now = none_now report call later n in
    record {
      bytes_are = step_bytes report call past now.0 now.1 ∙ l.bytes_are;
      age_is = step_age report call past (scans later) now.0 now.1 l.age_is ∙ sym (sum_by-cons (λ call. if is_tick call then 1 else 0) call later);
    }

sent_now : (report : Input) (call : PollerCall) (before : List PollerCall) (bytes : List ℕ) → sent_by report call ≡ Some bytes → Last report (call ∷ before) bytes 0
unfolding last_bytes age
sent_now report (polled protocol answer) before bytes s = record { bytes_are = rw s refl; age_is = rw s refl }
sent_now report (ticked protocol b n) before bytes s = absurd (never bytes s)
sent_now report (idle_set id duration) before bytes s = absurd (never bytes s)
sent_now report forgot before bytes s = absurd (never bytes s)
sent_now report was_reset before bytes s = absurd (never bytes s)

pub last-sent : (report : Input) (later before : List PollerCall) (call : PollerCall) (bytes : List ℕ) → NoneSent report later → sent_by report call ≡ Some bytes
    → Last report (later ++ call ∷ before) bytes (scans later)
last-sent report [] before call bytes n s = sent_now report call before bytes s
last-sent report (c ∷ later) before call bytes n s = one_more report c later (later ++ call ∷ before) bytes n (last-sent report later before call bytes (none_later report c later n) s)

forgot_now : (report : Input) (call : PollerCall) (before : List PollerCall) → forgets call ≡ true → Last report (call ∷ before) (wanted (λ _. false) (λ _. false) report) 0
unfolding last_bytes age
forgot_now report call before f = record { bytes_are = rw f refl; age_is = rw f refl }

pub last-forgot : (report : Input) (later before : List PollerCall) (call : PollerCall) → NoneSent report later → forgets call ≡ true
    → Last report (later ++ call ∷ before) (wanted (λ _. false) (λ _. false) report) (scans later)
last-forgot report [] before call n f = forgot_now report call before f
last-forgot report (c ∷ later) before call n f =
    one_more report c later (later ++ call ∷ before) _ n (last-forgot report later before call (none_later report c later n) f)

never_now : (report : Input) → Last report [] (wanted (λ _. false) (λ _. false) report) 0
unfolding last_bytes age
never_now report = record { bytes_are = refl; age_is = refl }

pub last-never : (report : Input) (past : List PollerCall) → NoneSent report past → Last report past (wanted (λ _. false) (λ _. false) report) (scans past)
last-never report [] n = never_now report
last-never report (c ∷ past) n = one_more report c past past _ n (last-never report past (none_later report c past n))
