-- A run, event by event.
use Rattle.std.proofs.Common.{◌≡◌, ℕ, ◌+◌, ◌<◌, ◌≤◌, Bool, true, false, Result, Ok, Err, is_ok, is_err, List, [], ◌∷◌, ◌++◌, map, reverse, length, take, get_or, refl, arith, sym, ◌∙◌, ap, append_assoc}
use Rattle.std.proofs.lemmas.List.{take_more, append-nil, map-append}
use Rattle.std.proofs.lemmas.Grind.{reverse_onto}
use Rattle.flash_model.specs.Sim.{SimValue}
use Rattle.world.specs.declared.event.Event.{Event}
use Rattle.world.specs.declared.event.Answer.{Answer}
use Rattle.world.specs.declared.event.Reported.{Reported}
use Rattle.world.specs.Kinds.{Step}
use Rattle.world.specs.Conforming.{IsConforming}
use Rattle.world.specs.representation.Value.{WorldValue}
use Rattle.world.specs.Relation.{NoneRefused, EndsAfter, no_room, host_refused, LongerHistory}
use Rattle.world.specs.representation.Relation.{Refines}
use Rattle.world.specs.representation.Private.{Takes, Went}
use Rattle.layers.specs.Codes.{DefaultCodes}

pub not_ok : {A E : Type 0} (r : Result A E) → is_err r ≡ true → is_ok r ≡ false
not_ok (Ok x) e = cc
not_ok (Err x) e = refl

mapped_more : {B : Type 0} (f : Step → B) (s : Step) (steps : List Step) → map f (reverse (s ∷ steps)) ≡ map f (reverse steps) ++ f s ∷ []
mapped_more f s steps = rw (reverse_onto steps s []) (map-append f (reverse steps) (s ∷ []))

module _ (defaults : DefaultCodes) where
  -- the first n events were taken, and the host was refused no memory in them
  pub record Going (start : SimValue) (past : List Step) (n : ℕ) (world : WorldValue) (events : List Event) (before after : List Answer) : Type 0 where
    pub steps : List Step
    pub count : length steps ≡ n
    pub refines : Refines defaults start (steps ++ past) world
    pub events_are : map (λ (s : Step). s.event) (reverse steps) ≡ take n events
    pub answers_are : after ≡ before ++ map (λ (s : Step). s.answer) (reverse steps)
    pub none : NoneRefused steps

  pub going_none : (start : SimValue) (past : List Step) (world : WorldValue) (events : List Event) (before : List Answer) → Refines defaults start past world → Going start past 0 world events before before
  going_none start past world events before s = record { steps = []; count = refl; refines = s; events_are = refl; answers_are = sym (append-nil before); none = tt }

  ended : (start : SimValue) (past : List Step) (n : ℕ) (world : WorldValue) (events : List Event) (room : ℕ) (before after : List Answer) (ok : Bool) (g : Going start past n world events before after) → EndsAfter room ok g.steps events
      → Went defaults start past world events room before after ok
  ended start past n world events room before after ok g e = record {
    steps = g.steps;
    refines = g.refines;
    events_are = rw g.count g.events_are;
    answers_are = g.answers_are;
    ends = e;
  }

  pub went_all : (start : SimValue) (past : List Step) (n : ℕ) (world : WorldValue) (events : List Event) (room : ℕ) (before after : List Answer) → n ≡ length events → Going start past n world events before after
      → Went defaults start past world events room before after true
  went_all start past n world events room before after l g = ended start past n world events room before after true g (g.count ∙ l, g.none)

  pub went_no_room : (start : SimValue) (past : List Step) (n : ℕ) (world : WorldValue) (events : List Event) (room : ℕ) (before after : List Answer) → n < length events → room ≤ n → Going start past n world events before after
      → Went defaults start past world events room before after false
  went_no_room start past n world events room before after l used g =
      let all_used : room ≤ length g.steps = omega (arith, g.count) in
      let fewer : length g.steps < length events = omega (arith, g.count) in
      ended start past n world events room before after false g (no_room all_used fewer g.none)

  -- one event more
  record OneMore (start : SimValue) (past : List Step) (n : ℕ) (world : WorldValue) (events : List Event) (before after : List Answer) (steps : List Step) : Type 0 where
    count : length steps ≡ n
    refines : Refines defaults start (steps ++ past) world
    events_are : map (λ (s : Step). s.event) (reverse steps) ≡ take n events
    answers_are : after ≡ before ++ map (λ (s : Step). s.answer) (reverse steps)

  one_more : (start : SimValue) (past : List Step) (n : ℕ) (world next : WorldValue) (events : List Event) (before after : List Answer) (event : Event) (reported : Reported)
      → n < length events → event ≡ get_or events n event
      → (g : Going start past n world events before after) → Takes defaults event world reported next
      → OneMore start past (n + 1) next events before (after ++ reported.answer ∷ []) ((record { event = event; answer = reported.answer; flash = next.flash; refused = reported.refused }) ∷ g.steps)
  one_more start past n world next events before after event reported l e g step =
      let new : Step = record { event = event; answer = reported.answer; flash = next.flash; refused = reported.refused } in
      let more : take (n + 1) events ≡ take n events ++ event ∷ [] = take_more events n event l ∙ ap (λ (x : Event). take n events ++ x ∷ []) (sym e) in
      record {
        count = omega (arith, g.count);
        refines = step start (g.steps ++ past) g.refines;
        events_are = mapped_more (λ (s : Step). s.event) new g.steps ∙ ap (λ (xs : List Event). xs ++ event ∷ []) g.events_are ∙ sym more;
        answers_are = ap (λ xs. xs ++ reported.answer ∷ []) g.answers_are ∙ append_assoc before (map (λ (s : Step). s.answer) (reverse g.steps)) (reported.answer ∷ []) ∙ ap (λ xs. before ++ xs) (sym (mapped_more (λ (s : Step). s.answer) new g.steps));
      }

  pub going_more : (start : SimValue) (past : List Step) (n : ℕ) (world next : WorldValue) (events : List Event) (before after : List Answer) (event : Event) (reported : Reported)
      → n < length events → event ≡ get_or events n event → reported.refused ≡ false
      → Going start past n world events before after → Takes defaults event world reported next → Going start past (n + 1) next events before (after ++ reported.answer ∷ [])
  going_more start past n world next events before after event reported l e r g step =
      let more = one_more start past n world next events before after event reported l e g step in
      record {
        steps = (record { event = event; answer = reported.answer; flash = next.flash; refused = reported.refused }) ∷ g.steps;
        count = more.count;
        refines = more.refines;
        events_are = more.events_are;
        answers_are = more.answers_are;
        none = (r, g.none);
      }

  -- in the last one the host was refused memory
  pub went_refused : (start : SimValue) (past : List Step) (n : ℕ) (world next : WorldValue) (events : List Event) (room : ℕ) (before after : List Answer) (event : Event) (reported : Reported)
      → n < length events → event ≡ get_or events n event → reported.refused ≡ true
      → Going start past n world events before after → Takes defaults event world reported next → Went defaults start past next events room before (after ++ reported.answer ∷ []) false
  went_refused start past n world next events room before after event reported l e r g step =
      let new : Step = record { event = event; answer = reported.answer; flash = next.flash; refused = reported.refused } in
      let more = one_more start past n world next events before after event reported l e g step in
      record {
        steps = new ∷ g.steps;
        refines = more.refines;
        events_are = more.events_are ∙ ap (λ (k : ℕ). take k events) (sym more.count);
        answers_are = more.answers_are;
        ends = host_refused new g.steps refl r g.none;
      }

  -- so a run makes a longer history, of which holds what follows from the answers
  pub runs_longer : (P : SimValue → List Step → Type 0) → ((start : SimValue) (history : List Step) → IsConforming defaults start history → P start history)
      → (start : SimValue) (past : List Step) (world : WorldValue) (events : List Event) (room : ℕ) (before after : List Answer) (ok : Bool) → Went defaults start past world events room before after ok
      → LongerHistory defaults P start past world events room before after ok
  runs_longer P follows start past world events room before after ok g = record {
    steps = g.steps;
    refines = g.refines;
    flash_is = g.refines.flash;
    events_are = g.events_are;
    answers_are = g.answers_are;
    ends = g.ends;
    holds = follows start (g.steps ++ past) g.refines.answered;
  }
