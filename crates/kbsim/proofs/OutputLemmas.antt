-- Running the lines of a script, one by one.
use Rattle.std.proofs.Common.{◌≡◌, ◌≢◌, true, false, ℕ, ◌+◌, ◌⊎◌, inl, inr, List, [], ◌∷◌, ◌++◌, map, reverse, length, take, get_or, ◌<◌, Option, None, Some, Result, Ok, Err, refl, ap, sym, subst, ◌∙◌, arith, append_assoc, append-nil, length-append}
use Rattle.std.proofs.Math.Seq.{take-length}
use Rattle.std.proofs.lemmas.List.{length-map, length-reverse, take_more}
use Rattle.std.specs.Prelude.{IfOk, IfSome, MatchResult, alloc_error, is_ok}
use Rattle.std.specs.Str.Lines.{lines}
use Rattle.script.specs.Scripts.{Script}
use Rattle.std.specs.declared.alloc.AllocError.{AllocError}
use Rattle.std.specs.Option.{ok_or, option_to_list}
use Rattle.std.proofs.lemmas.List.Elements.{All-nil, All-cons}
use Rattle.std.specs.List.{All}
use Rattle.std.specs.Io.KnownBytes.{Appends}
use Rattle.std.proofs.KnownBytes.{Appends-nil, Appends-trans}
use Rattle.world.specs.declared.event.Event.{Event}
use Rattle.world.specs.declared.event.Event.TheVariants as event
use Rattle.world.specs.declared.event.Answer.{Answer}
use Rattle.world.specs.declared.event.Answer.TheVariants.{Ack, Worked}
use Rattle.layers.specs.Standard.{standard}
use Rattle.keymap_store.specs.declared.store.Work.TheVariants.{Working}
use Rattle.flash_model.specs.Image.{page_count}
use Rattle.flash_model.specs.Sim.{SimValue}
use Rattle.world.specs.Kinds.{Step}
use Rattle.world.specs.History.{flash_after}
use Rattle.world.proofs.Promising.{promise}
use Rattle.world.proofs.Timing.{stays_in_time}
use Rattle.world.specs.Relation.{NoneRefused, LongerHistory, Runs}
use Rattle.world.specs.representation.Relation.{Refines}
use Rattle.world.specs.representation.Value.{WorldValue}
use Rattle.keyboard.specs.Bounded.{most_steps}
use Rattle.kbsim.proofs.WorkLemmas.{working_few}
use Rattle.kbsim.specs.Outputs.{set_feature, set_report, AllWorking, IsFlashWork, ShowsStatus, IsRepeated, IsRefusedSet, IsTakenSet, LineRuns, Prints, GoesOn, Takes, IsPassed, IsRun, IsBegun}
use Rattle.kbsim.specs.Prints.{printed_line}
use Rattle.kbsim.specs.Actions.{IsEventOf}
use Rattle.kbsim.specs.declared.fault.RunError.{RunError}
use Rattle.kbsim.specs.declared.fault.RunError.TheVariants as error
use Rattle.kbsim.specs.declared.outcome.Outcome.{Outcome}
use Rattle.kbsim.specs.declared.outcome.Outcome.TheVariants.{Answered}
use Rattle.script.specs.declared.read.Line.{Line}
use Rattle.script.specs.declared.statement.Action.{Action}
use Rattle.script.specs.declared.statement.Statement.{Statement}
use Rattle.script.specs.declared.statement.Statement.TheVariants.{One}

-- the host was refused no memory in these steps and in those
pub none_refused-append : (xs ys : List Step) → NoneRefused xs → NoneRefused ys → NoneRefused (xs ++ ys)
none_refused-append [] ys h k = k
none_refused-append (x ∷ xs) ys (n, h) k = (n, none_refused-append xs ys h k)

-- one line more
pub prints_more : (lines : List Line) (steps : List Step) (text : List ℕ) (line : Line) (first : List Step) (outcome : Outcome)
    → Prints lines steps text → LineRuns line.statement first outcome
    → Prints (lines ++ line ∷ []) (first ++ steps) (text ++ printed_line line.number outcome)
prints_more [] steps text line first outcome (none, nothing) runs = (
  first,
  [],
  outcome,
  [],
  ap (λ (xs : List Step). first ++ xs) none ∙ append-nil first,
  runs,
  ap (λ xs. xs ++ printed_line line.number outcome) nothing ∙ sym (append-nil (printed_line line.number outcome)),
  (refl, refl),
)
prints_more (l ∷ ls) steps text line first outcome (begin, later, shown, rest, steps_are, begins, text_is, more) runs = (
  begin,
  first ++ later,
  shown,
  rest ++ printed_line line.number outcome,
  ap (λ (xs : List Step). first ++ xs) steps_are ∙ sym (append_assoc first later begin),
  begins,
  ap (λ xs. xs ++ printed_line line.number outcome) text_is ∙ append_assoc (printed_line l.number shown) rest (printed_line line.number outcome),
  prints_more ls later rest line first outcome more runs,
)

one_of : {A : Type 0} (xs : List A) → length xs ≡ 1 → (x : A) × (xs ≡ x ∷ [])
one_of [] h = absurd (omega (arith, h))
one_of (x ∷ []) h = (x, refl)
one_of (x ∷ y ∷ more) h = absurd (omega (arith, h))

none_of : {A : Type 0} (xs : List A) → length xs ≡ 0 → xs ≡ []
none_of [] h = refl
none_of (x ∷ xs) h = absurd (omega (arith, h))

step_is : (s : Step) (e : Event) (a : Answer) (f : SimValue) → s.event ≡ e → s.answer ≡ a → s.flash ≡ f → s.refused ≡ false
    → s ≡ record { event = e; answer = a; flash = f; refused = false }
step_is s e a f p q r n = rw (← p, ← q, ← r, ← n) refl

-- a run of one event is that event's step
pub took_one : (P : SimValue → List Step → Type 0) (old new : WorldValue) (e : Event) (room : ℕ) (before after rest : List Answer) (answer : Answer)
    → Runs standard P old new (e ∷ []) room before after true → before ≡ [] → length after ≡ 1 → after ≡ rest ++ answer ∷ [] → Takes e answer old new
took_one P old new e room before after rest answer runs none one last start past refines =
    let g : LongerHistory standard P start past new (e ∷ []) room before after true = runs start past refines in
    let reported : after ≡ map (λ (s : Step). s.answer) (reverse g.steps) = g.answers_are ∙ ap (λ (xs : List Answer). xs ++ map (λ (s : Step). s.answer) (reverse g.steps)) none in
    let count : length g.steps ≡ 1 = sym (length-reverse g.steps) ∙ sym (length-map (reverse g.steps) (λ (s : Step). s.answer)) ∙ sym (ap length reported) ∙ one in
    let (s, is) = one_of g.steps count in
    let event_is : s.event ∷ [] ≡ e ∷ [] = rw is at g.events_are in
    let no_more : rest ≡ [] = none_of rest (omega (arith, one, ap length last, length-append rest (answer ∷ []))) in
    let answer_is : s.answer ∷ [] ≡ answer ∷ [] = sym (rw is at reported) ∙ last ∙ ap (λ (xs : List Answer). xs ++ answer ∷ []) no_more in
    let stood : Refines standard start (s ∷ past) new = rw is at g.refines in
    let flash_is : new.flash ≡ s.flash = g.flash_is ∙ ap (λ (xs : List Step). flash_after start (xs ++ past)) is in
    let (none_refused, rest_none) = rw is at g.ends.1 in
    let event_same : s.event ≡ e = cc in
    let answer_same : s.answer ≡ answer = cc in
    subst (λ (x : Step). Refines standard start (x ∷ past) new) (step_is s e answer new.flash event_same answer_same (sym flash_is) none_refused) stood

-- the same, where all that is known of the answers is that there is one
pub passed_one : (P : SimValue → List Step → Type 0) (old new : WorldValue) (e : Event) (room : ℕ) (before after : List Answer)
    → Runs standard P old new (e ∷ []) room before after true → before ≡ [] → length after ≡ length before + 1 → IsPassed e after old new
passed_one P old new e room before after runs none one =
    let only : length after ≡ 1 = omega (arith, one, ap length none) in
    let (answer, is) = one_of after only in
    (answer, is, took_one P old new e room before after [] answer runs none only is)

-- the answer is what popping it gives
pub popped_one : (old new : WorldValue) (e : Event) (after rest : List Answer) (popped : Option Answer) (result : Result Answer AllocError)
    → IsPassed e after old new → after ≡ rest ++ option_to_list popped → result ≡ ok_or popped alloc_error
    → IfOk result (λ answer. Takes e answer old new)
popped_one old new e after rest None result passed last is = rw is tt
popped_one old new e after rest (Some answer) result (reported, one, takes) last is =
    let whole : reported ∷ [] ≡ rest ++ answer ∷ [] = sym one ∙ last in
    let no_more : rest ≡ [] = none_of rest (omega (arith, ap length whole, length-append rest (answer ∷ []))) in
    let same : reported ∷ [] ≡ answer ∷ [] = whole ∙ ap (λ (xs : List Answer). xs ++ answer ∷ []) no_more in
    let answer_same : reported ≡ answer = cc in
    rw is (subst (λ (a : Answer). Takes e a old new) answer_same takes)

-- a line of one event
pub one_runs : (e : Event) (answer : Answer) (old new : WorldValue) (P : List Step → Type 0) → Takes e answer old new
    → ((step : Step) → step.event ≡ e → step.answer ≡ answer → P (step ∷ [])) → GoesOn P old new
one_runs e answer old new P takes holds start past refines =
    let step : Step = record { event = e; answer = answer; flash = new.flash; refused = false } in
    (step ∷ [], holds step refl refl, (refl, tt), takes start past refines)

pub line_one : (statement : Statement) (action : Action) (e : Event) (answer : Answer) (old new : WorldValue) → statement ≡ One action
    → IsEventOf action e → Takes e answer old new → GoesOn (λ steps. LineRuns statement steps (Answered answer)) old new
line_one statement action e answer old new one is takes =
    one_runs e answer old new (λ steps. LineRuns statement steps (Answered answer)) takes
    (λ step event_is answer_is. rw one (step, refl, subst (IsEventOf action) (sym event_is) is, sym answer_is))

-- an event that was taken again and again; the count is one ahead
abbrev pub RepeatedSoFar : Event → ℕ → WorldValue → WorldValue → Type 0
RepeatedSoFar e count old new = GoesOn (λ steps. All (λ (step : Step). step.event ≡ e) steps × (length steps + 1 ≡ count)) old new

pub repeated_none : (e : Event) (world : WorldValue) → RepeatedSoFar e 1 world world
repeated_none e world start past refines = ([], (All-nil (λ (step : Step). step.event ≡ e), refl), tt, refines)

pub repeated_more : (e taken : Event) (count : ℕ) (old world new : WorldValue) (answer : Answer) → taken ≡ e → RepeatedSoFar e count old world
    → Takes taken answer world new → RepeatedSoFar e (count + 1) old new
repeated_more e taken count old world new answer same so_far takes start past refines =
    let (steps, (all, long), none, stood) = so_far start past refines in
    let step : Step = record { event = taken; answer = answer; flash = new.flash; refused = false } in
    (step ∷ steps, (All-cons (λ (s : Step). s.event ≡ e) step steps same all, omega (arith, long)), (refl, none), takes start (steps ++ past) stood)

pub repeated : (e taken : Event) (count total : ℕ) (old world new : WorldValue) (r : Result Answer AllocError) → taken ≡ e → RepeatedSoFar e count old world
    → count ≡ total → IfOk r (λ answer. Takes taken answer world new) → IfOk r (λ answer. GoesOn (λ steps. IsRepeated e total steps answer) old new)
repeated e taken count total old world new (Err error) same so_far whole takes = tt
repeated e taken count total old world new (Ok answer) same so_far whole takes = λ start past refines.
    let (steps, (all, long), none, stood) = so_far start past refines in
    let step : Step = record { event = taken; answer = answer; flash = new.flash; refused = false } in (
      step ∷ steps,
      record { last = step; before = steps; steps_are = refl; last_is = same; equal = all; count_is = omega (arith, long, whole); shows = refl },
      (refl, none),
      takes start (steps ++ past) stood,
    )

-- the flash work so far: each step needed more
abbrev pub WorkedSoFar : ℕ → WorldValue → WorldValue → Type 0
WorkedSoFar count old new = GoesOn (λ steps. AllWorking steps × (length steps ≡ count)) old new

pub worked_none : (world : WorldValue) → WorkedSoFar 0 world world
worked_none world start past refines = ([], (tt, refl), tt, refines)

pub worked_more : (count : ℕ) (old world new : WorldValue) (answer : Answer) → WorkedSoFar count old world → Takes event.Work answer world new
    → answer ≡ Worked Working → WorkedSoFar (count + 1) old new
worked_more count old world new answer so_far takes needs start past refines =
    let (steps, (all, long), none, stood) = so_far start past refines in
    let step : Step = record { event = event.Work; answer = answer; flash = new.flash; refused = false } in
    (step ∷ steps, ((refl, needs, all), omega (arith, long)), (refl, none), takes start (steps ++ past) stood)

pub worked_off : (count : ℕ) (old world new : WorldValue) (answer : Answer) → WorkedSoFar count old world → Takes event.Work answer world new
    → answer ≢ Worked Working → GoesOn IsFlashWork old new
worked_off count old world new answer so_far takes done start past refines =
    let (steps, (all, long), none, stood) = so_far start past refines in
    let step : Step = record { event = event.Work; answer = answer; flash = new.flash; refused = false } in (
      step ∷ steps,
      record { last = step; before = steps; steps_are = refl; last_is = refl; done = done; needed = all },
      (refl, none),
      takes start (steps ++ past) stood,
    )

-- that many steps never all need more
pub worked_all : (count : ℕ) (old new : WorldValue) → count ≡ most_steps → WorkedSoFar count old new → GoesOn IsFlashWork old new
worked_all count old new whole so_far start past refines =
    let (steps, (all, long), none, stood) = so_far start past refines in
    let few : length steps < 387 = working_few start past steps stood.answered (stays_in_time standard start (steps ++ past) stood.answered) all in
    absurd (omega (arith, few, long, whole))

-- the two ways in which a `set` goes
abbrev pub SetRuns : ℕ → ℕ → ℕ → Answer → WorldValue → WorldValue → Type 0
SetRuns layer key code answer old new =
    GoesOn (λ steps. IsRefusedSet layer key code steps answer ⊎ IsTakenSet layer key code steps answer) old new

pub set_refused : (layer key code : ℕ) (old first new : WorldValue) (reported answer : Answer) (report : List ℕ) → report ≡ set_report layer key code
    → Takes (event.Setup set_feature) reported old first → Takes (event.OutPacket (record { items = report })) answer first new
    → answer ≢ Ack → SetRuns layer key code answer old new
set_refused layer key code old first new reported answer report is opens sends refused start past refines =
    let setup : Step = record { event = event.Setup set_feature; answer = reported; flash = first.flash; refused = false } in
    let out : Step = record { event = event.OutPacket (record { items = report }); answer = answer; flash = new.flash; refused = false } in (
      out ∷ setup ∷ [],
      inl (record {
        setup = setup;
        report = out;
        steps_are = refl;
        setup_is = refl;
        report_is = ap (λ (xs : List ℕ). event.OutPacket (record { items = xs })) is;
        refused = refused;
        shows = refl;
      }),
      (refl, (refl, tt)),
      sends start (setup ∷ past) (opens start past refines),
    )

pub set_taken : (layer key code : ℕ) (old first second worked new : WorldValue) (reported taken status shown : Answer) (report : List ℕ) → report ≡ set_report layer key code
    → Takes (event.Setup set_feature) reported old first → Takes (event.OutPacket (record { items = report })) taken first second
    → taken ≡ Ack → GoesOn IsFlashWork second worked → Takes event.InPacket status worked new → ShowsStatus status shown
    → SetRuns layer key code shown old new
set_taken layer key code old first second worked new reported taken status shown report is opens sends ack works asks shows start past refines =
    let setup : Step = record { event = event.Setup set_feature; answer = reported; flash = first.flash; refused = false } in
    let out : Step = record { event = event.OutPacket (record { items = report }); answer = taken; flash = second.flash; refused = false } in
    let last : Step = record { event = event.InPacket; answer = status; flash = new.flash; refused = false } in
    let (work, done, none, stood) = works start (out ∷ setup ∷ past) (sends start (setup ∷ past) (opens start past refines)) in (
      last ∷ work ++ out ∷ setup ∷ [],
      inr (record {
        setup = setup;
        report = out;
        work = work;
        status = last;
        steps_are = refl;
        setup_is = refl;
        report_is = ap (λ (xs : List ℕ). event.OutPacket (record { items = xs })) is;
        taken = ack;
        worked = done;
        status_is = refl;
        shows = shows;
      }),
      (refl, none_refused-append work (out ∷ setup ∷ []) none (refl, (refl, tt))),
      subst (λ (xs : List Step). Refines standard start (last ∷ xs) new) (sym (append_assoc work (out ∷ setup ∷ []) past)) (asks start (work ++ out ∷ setup ∷ past) stood),
    )

-- the lines so far, on a device that started on this flash, and what was printed of them
pub record RunSoFar (start : SimValue) (lines : List Line) (world : WorldValue) (first now : Option (List ℕ)) : Type 0 where
  pub steps : List Step
  pub text : List ℕ
  pub refines : Refines standard start steps world
  pub none_refused : NoneRefused steps
  pub prints : Prints lines steps text
  pub appends : Appends first now text

pub run_none : (start : SimValue) (world : WorldValue) (first : Option (List ℕ)) → Refines standard start [] world → RunSoFar start [] world first first
run_none start world first starts = record { steps = []; text = []; refines = starts; none_refused = tt; prints = (refl, refl); appends = Appends-nil first }

pub run_more : (start : SimValue) (lines : List Line) (world next : WorldValue) (first now after : Option (List ℕ)) (line : Line) (outcome : Outcome)
    → RunSoFar start lines world first now → GoesOn (λ steps. LineRuns line.statement steps outcome) world next
    → Appends now after (printed_line line.number outcome) → RunSoFar start (lines ++ line ∷ []) next first after
run_more start lines world next first now after line outcome so_far runs printed =
    let (steps, line_runs, none, refines) = runs start so_far.steps so_far.refines in
    record {
      steps = steps ++ so_far.steps;
      text = so_far.text ++ printed_line line.number outcome;
      refines = refines;
      none_refused = none_refused-append steps so_far.steps none so_far.none_refused;
      prints = prints_more lines so_far.steps so_far.text line steps outcome so_far.prints line_runs;
      appends = Appends-trans first now after so_far.text (printed_line line.number outcome) so_far.appends printed;
    }

-- the line at this place
pub run_on : (start : SimValue) (lines : List Line) (i : ℕ) (world next : WorldValue) (first now after : Option (List ℕ)) (line : Line) (outcome : Outcome)
    → i < length lines → line ≡ get_or lines i line → RunSoFar start (take i lines) world first now
    → GoesOn (λ steps. LineRuns line.statement steps outcome) world next
    → Appends now after (printed_line line.number outcome) → RunSoFar start (take (i + 1) lines) next first after
run_on start lines i world next first now after line outcome l is so_far runs printed =
    let more : take (i + 1) lines ≡ take i lines ++ line ∷ [] = take_more lines i line l ∙ ap (λ (x : Line). take i lines ++ x ∷ []) (sym is) in
    rw more (run_more start (take i lines) world next first now after line outcome so_far runs printed)

pub run_all : (start : SimValue) (lines : List Line) (world : WorldValue) (first now : Option (List ℕ)) → RunSoFar start lines world first now
    → (text : List ℕ) × IsRun start lines text world.flash × Appends first now text
run_all start lines world first now so_far = (
  so_far.text,
  record {
    steps = so_far.steps;
    promise = promise standard start so_far.steps so_far.refines.answered;
    none_refused = so_far.none_refused;
    prints = so_far.prints;
    leaves = so_far.refines.flash;
  },
  so_far.appends,
)

-- the run of all lines
pub run_whole : (start : SimValue) (lines : List Line) (i : ℕ) (world : WorldValue) (first now : Option (List ℕ)) → i ≡ length lines → RunSoFar start (take i lines) world first now
    → (text : List ℕ) × IsRun start lines text world.flash × Appends first now text
run_whole start lines i world first now whole so_far =
    let all : take i lines ≡ lines = ap (λ (n : ℕ). take n lines) whole ∙ take-length lines in
    run_all start lines world first now (subst (λ (xs : List Line). RunSoFar start xs world first now) all so_far)

-- what was printed when a run stops at some line
abbrev pub StoppedAt : SimValue → List Line → Option (List ℕ) → Option (List ℕ) → Type 0
StoppedAt start lines first now =
    (count : ℕ) × (text : List ℕ) × (after : SimValue) × (count < length lines) × IsRun start (take count lines) text after × Appends first now text

-- the same, or before the first line
abbrev pub Stopped : SimValue → List Line → Option (List ℕ) → Option (List ℕ) → Type 0
Stopped start lines first now =
    (count : ℕ) × (text : List ℕ) × (after : SimValue) × ((text ≡ []) ⊎ (count < length lines)) × IsRun start (take count lines) text after × Appends first now text

pub stopped_at : (start : SimValue) (lines : List Line) (i : ℕ) (world : WorldValue) (first now : Option (List ℕ)) → RunSoFar start (take i lines) world first now
    → i < length lines → StoppedAt start lines first now
stopped_at start lines i world first now so_far more =
    let (text, run, appends) = run_all start (take i lines) world first now so_far in
    (i, text, world.flash, more, run, appends)

pub stopped_none : (start : SimValue) (lines : List Line) (first : Option (List ℕ)) → Stopped start lines first first
stopped_none start lines first =
    (0, [], start, inl refl, record { steps = []; promise = promise standard start [] tt; none_refused = tt; prints = (refl, refl); leaves = refl }, Appends-nil first)

pub stopped_some : (start : SimValue) (lines : List Line) (first now : Option (List ℕ)) → StoppedAt start lines first now → Stopped start lines first now
stopped_some start lines first now (count, text, after, fewer, run, appends) = (count, text, after, inr fewer, run, appends)

-- a result that was mapped to an error was that error
pub mapped_err : {A B E : Type 0} (was : Result A E) (now : Result B E) (e : E) (P : A → Type 0)
    → MatchResult was P (λ d. now ≡ Err d) → is_ok now ≡ is_ok was → now ≡ Err e → was ≡ Err e
mapped_err (Ok x) now e P cases same is = cc
mapped_err (Err d) now e P cases same is = cc

-- and then a fault's line
pub reported_stopped : (start : SimValue) (lines : List Line) (first now after : Option (List ℕ)) (more : List ℕ) → Stopped start lines first now → Appends now after more
    → (count : ℕ) × (text : List ℕ) × (left : SimValue) × ((text ≡ []) ⊎ (count < length lines)) × IsRun start (take count lines) text left × Appends first after (text ++ more)
reported_stopped start lines first now after more (count, text, left, fewer, run, appends) reported = (count, text, left, fewer, run, Appends-trans first now after text more appends reported)

pub error_reported : (reported was : RunError) → (reported ≡ was) ⊎ (reported ≡ error.Output) → reported ≡ error.Memory → (was ≡ error.Memory) × (reported ≢ error.Output)
error_reported reported was (inl e) m = (sym e ∙ m, λ o. cc)
error_reported reported was (inr e) m = cc

-- what was printed when a run stopped, of the script that the reader gave
pub begun : (start : SimValue) (known : Option (List ℕ)) (items : List ℕ) (said : List Line) (first now : Option (List ℕ)) (more : List ℕ)
    → IfSome known (λ all. items ≡ all) → Script (page_count start.image) 1 (lines items) said
    → ((count : ℕ) × (text : List ℕ) × (after : SimValue) × ((text ≡ []) ⊎ (count < length said)) × IsRun start (take count said) text after × Appends first now (text ++ more))
    → IfSome known (λ script. (text : List ℕ) × ((text ≡ []) ⊎ IsBegun start script text) × Appends first now (text ++ more))
begun start None items said first now more read sound stops = tt
begun start (Some all) items said first now more read sound (count, text, after, inl none, run, appends) = (text, inl none, appends)
begun start (Some all) items said first now more read sound (count, text, after, inr fewer, run, appends) = (
  text,
  inr (record {
    said = said;
    sound = subst (λ (x : List ℕ). Script (page_count start.image) 1 (lines x) said) read sound;
    count = count;
    some_left = fewer;
    after = after;
    run = run;
  }),
  appends,
)
