-- What is kept for a host that is to forget, call by call.
use Rattle.std.proofs.Common.{◌≡◌, ℕ, ◌&&◌, ◌||◌, List, [], ◌∷◌, ◌++◌, Option, Some, None, sym, ap, subst, ◌∙◌}
use Rattle.usb_device.specs.declared.answer.EpAnswer.{EpAnswer}
use Rattle.usb_device.specs.declared.forgetting.Forgets.{Forgets}
use Rattle.usb_device.specs.Bus1.{sets_protocol}
use Rattle.usb_device.specs.Calls.{EpCall, SetUp, Out, In, Polled, BusReset}
use Rattle.usb_device.specs.Forgetting.{Shows, none, same, instead, Passes, owed, names_boot, is_keys, is_consumer, owed_by, owed_if, first_of, rest_of}
use Rattle.usb_device.specs.States.{is_empty_packet}
use Rattle.usb_device.specs.representation.Forgetting.{RefinesBehind, forgets_of}

abbrev Relation : Type 0 → Type 1
Relation E = List EpCall → E → Type 0

pub begun : {E : Type 0} (refines : Relation E) (n : Forgets) (behind : E) → n ≡ forgets_of [] → refines [] behind → RefinesBehind refines [] n behind
begun refines n behind e s = record { kept = e; passed = []; shows = none; session = s }

pub on_setup : {E : Type 0} (refines : Relation E) (calls : List EpCall) (bytes : List ℕ) (f n : Forgets) (behind new : E)
    → n ≡ record f { sets = sets_protocol (Some bytes); to_boot = names_boot (Some bytes) } → ((past : List EpCall) → refines past behind → refines (SetUp bytes ∷ past) new)
    → RefinesBehind refines calls f behind → RefinesBehind refines (SetUp bytes ∷ calls) n new
unfolding forgets_of
on_setup refines calls bytes f n behind new e s b = record {
  kept = e ∙ ap (λ (x : Forgets). record x { sets = sets_protocol (Some bytes); to_boot = names_boot (Some bytes) }) b.kept;
  passed = SetUp bytes ∷ b.passed;
  shows = same (SetUp bytes) calls b.passed tt b.shows;
  session = s b.passed b.session;
}

pub on_out : {E : Type 0} (refines : Relation E) (calls : List EpCall) (packet : List ℕ) (answer : EpAnswer) (f : Forgets) (behind new : E)
    → ((past : List EpCall) → refines past behind → refines (Out packet answer ∷ past) new)
    → RefinesBehind refines calls f behind → RefinesBehind refines (Out packet answer ∷ calls) f new
unfolding forgets_of
on_out refines calls packet answer f behind new s b = record {
  kept = b.kept;
  passed = Out packet answer ∷ b.passed;
  shows = same (Out packet answer) calls b.passed tt b.shows;
  session = s b.passed b.session;
}

pub on_in : {E : Type 0} (refines : Relation E) (calls : List EpCall) (answer : EpAnswer) (f n : Forgets) (behind new : E)
    → n ≡ record f { owed = owed_if (is_empty_packet answer && f.sets) (owed_by f.to_boot f.keys f.consumer) f.owed }
    → ((past : List EpCall) → refines past behind → refines (In answer ∷ past) new)
    → RefinesBehind refines calls f behind → RefinesBehind refines (In answer ∷ calls) n new
unfolding forgets_of
on_in refines calls answer f n behind new e s b = record {
  kept = e ∙ ap (λ (x : Forgets). record x { owed = owed_if (is_empty_packet answer && x.sets) (owed_by x.to_boot x.keys x.consumer) x.owed }) b.kept;
  passed = In answer ∷ b.passed;
  shows = same (In answer) calls b.passed tt b.shows;
  session = s b.passed b.session;
}

pub on_poll : {E : Type 0} (refines : Relation E) (calls : List EpCall) (answer : Option (List ℕ)) (f n : Forgets) (behind new : E)
    → n ≡ record f { keys = is_keys answer || f.keys; consumer = is_consumer answer || f.consumer; owed = rest_of f.owed } → first_of f.owed ≡ None
    → ((past : List EpCall) → refines past behind → refines (Polled answer ∷ past) new)
    → RefinesBehind refines calls f behind → RefinesBehind refines (Polled answer ∷ calls) n new
unfolding forgets_of
on_poll refines calls answer f n behind new e d s b = record {
  kept = e ∙ ap (λ (x : Forgets). record x { keys = is_keys answer || x.keys; consumer = is_consumer answer || x.consumer; owed = rest_of x.owed }) b.kept;
  passed = Polled answer ∷ b.passed;
  shows = same (Polled answer) calls b.passed (ap (λ (x : Forgets). first_of x.owed) (sym b.kept) ∙ d) b.shows;
  session = s b.passed b.session;
}

pub on_blank : {E : Type 0} (refines : Relation E) (calls : List EpCall) (report : List ℕ) (f n : Forgets) (behind : E)
    → n ≡ record f { keys = is_keys (Some report) || f.keys; consumer = is_consumer (Some report) || f.consumer; owed = rest_of f.owed } → first_of f.owed ≡ Some report
    → RefinesBehind refines calls f behind → RefinesBehind refines (Polled (Some report) ∷ calls) n behind
unfolding forgets_of
on_blank refines calls report f n behind e d b = record {
  kept = e ∙ ap (λ (x : Forgets). record x { keys = is_keys (Some report) || x.keys; consumer = is_consumer (Some report) || x.consumer; owed = rest_of x.owed }) b.kept;
  passed = b.passed;
  shows = instead report calls b.passed (ap (λ (x : Forgets). first_of x.owed) (sym b.kept) ∙ d) b.shows;
  session = b.session;
}

pub on_reset : {E : Type 0} (refines : Relation E) (calls : List EpCall) (f n : Forgets) (behind new : E)
    → n ≡ forgets_of [] → ((past : List EpCall) → refines past behind → refines (BusReset ∷ past) new)
    → RefinesBehind refines calls f behind → RefinesBehind refines (BusReset ∷ calls) n new
unfolding forgets_of
on_reset refines calls f n behind new e s b = record {
  kept = e;
  passed = BusReset ∷ b.passed;
  shows = same BusReset calls b.passed tt b.shows;
  session = s b.passed b.session;
}

-- what is owed is given first
pub given_first : (calls kept after before : List EpCall) (answer : Option (List ℕ)) (report : List ℕ) → Shows calls kept → calls ≡ after ++ (Polled answer ∷ before)
    → first_of (owed before) ≡ Some report → answer ≡ Some report
given_first _ _ [] before answer report none e f = cc
given_first _ _ (x ∷ after) before answer report none e f = cc
given_first _ _ [] before answer report (same call calls kept p s) e f =
    let first : call ≡ Polled answer = cc in
    let rest : calls ≡ before = cc in
    let P : List EpCall → Type 0 = λ x. Passes (Polled answer) x in
    let none_owed : first_of (owed before) ≡ None = subst P rest (subst (λ x. Passes x calls) first p) in
    absurd (let x : None ≡ Some report = sym none_owed ∙ f in cc)
given_first _ _ (x ∷ after) before answer report (same call calls kept p s) e f =
    given_first calls kept after before answer report s (let rest : calls ≡ after ++ (Polled answer ∷ before) = cc in rest) f
given_first _ _ [] before answer report (instead other calls kept d s) e f =
    let first : Some other ≡ answer = cc in
    let rest : calls ≡ before = cc in
    let owes : Some other ≡ first_of (owed before) = sym d ∙ ap (λ x. first_of (owed x)) rest in
    sym first ∙ (owes ∙ f)
given_first _ _ (x ∷ after) before answer report (instead other calls kept d s) e f =
    given_first calls kept after before answer report s (let rest : calls ≡ after ++ (Polled answer ∷ before) = cc in rest) f
