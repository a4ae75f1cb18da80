use Rattle.std.proofs.Common.{◌≡◌, ℕ, Bool, true, false, ◌||◌, List, Option, Some, None, if◌then◌else◌, refl, sym, ◌∙◌, ap, inl, inr}
use Rattle.std.specs.Option.{option_map}
use Rattle.std.proofs.lemmas.Bool.{cases_Bool}
use Rattle.reports.specs.declared.Protocol.TheVariants as protocol
use Rattle.reports.specs.declared.Input.{Input}
use Rattle.reports.specs.declared.Input.TheVariants.{Boot, One, Two}
use Rattle.reports.specs.Calls.{PollerCall}
use Rattle.reports.specs.Poll.{is_changed, is_elapsed, sent_last, one_of_two, chosen, rule_answer}

pub rule_answer-boot : (bytes : Input → List ℕ) (past : List PollerCall) (due : Bool) → due ≡ (is_changed bytes past Boot || is_elapsed past Boot)
    → rule_answer protocol.Boot bytes past ≡ (if due then Some (bytes Boot) else None)
unfolding rule_answer
rule_answer-boot bytes past true e = rw (← e) refl
rule_answer-boot bytes past false e = rw (← e) refl

-- of the reports 1 and 2 the boot report is none
abbrev is_boot : Option Input → Bool
is_boot (Some Boot) = true
is_boot _ = false

abbrev either : (test : Input → Bool) (a b : Input) → Option Input
either test a b = if test a then Some a else (if test b then Some b else None)

one_then_two : (test : Input → Bool) → is_boot (either test One Two) ≡ false
one_then_two test = elim (cases_Bool (test One)) [
  | inl y ↦ rw y refl
  | inr n ↦ elim (cases_Bool (test Two)) [ inl y ↦ rw (n, y) refl | inr m ↦ rw (n, m) refl ]
]

two_then_one : (test : Input → Bool) → is_boot (either test Two One) ≡ false
two_then_one test = elim (cases_Bool (test Two)) [
  | inl y ↦ rw y refl
  | inr n ↦ elim (cases_Bool (test One)) [ inl y ↦ rw (n, y) refl | inr m ↦ rw (n, m) refl ]
]

one_of_two-is_boot : (test : Input → Bool) (last : Option Input) → is_boot (one_of_two test last) ≡ false
one_of_two-is_boot test None = one_then_two test
one_of_two-is_boot test (Some Boot) = one_then_two test
one_of_two-is_boot test (Some One) = two_then_one test
one_of_two-is_boot test (Some Two) = one_then_two test

chosen-is_boot : (bytes : Input → List ℕ) (past : List PollerCall) → is_boot (chosen protocol.Report bytes past) ≡ false
chosen-is_boot bytes past = elim (cases_Bool (is_changed bytes past One || is_changed bytes past Two)) [
  | inl y ↦ rw y (one_of_two-is_boot (is_changed bytes past) (sent_last past))
  | inr n ↦ rw n (one_of_two-is_boot (is_elapsed past) (sent_last past))
]

pub never_boot : (bytes : Input → List ℕ) (past : List PollerCall) → chosen protocol.Report bytes past ≡ Some Boot → ⊥
never_boot bytes past e = let b : false ≡ true = sym (chosen-is_boot bytes past) ∙ ap is_boot e in cc

pub rule_answer-report : (bytes : Input → List ℕ) (past : List PollerCall) (found : Option Input) → found ≡ chosen protocol.Report bytes past
    → rule_answer protocol.Report bytes past ≡ option_map bytes found
unfolding rule_answer
rule_answer-report bytes past found e = ap (λ found. option_map bytes found) (sym e)
