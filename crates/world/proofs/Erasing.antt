-- A page is erased at most once more than headers are committed, cuts catch a command and commands fail.
use Rattle.std.proofs.lemmas.Grind.{common_steps}
use Rattle.std.proofs.Common.{◌≡◌, ◌∙◌, ℕ, zero, suc, ◌+◌, ◌≤◌, ◌==◌, ◌&&◌, Bool, true, false, if◌then◌else◌, Option, Some, None, List, [], ◌∷◌, ◌++◌, refl, sym, ap, subst, arith}
use Rattle.std.specs.Prelude.{slice_get}
use Rattle.std.proofs.lemmas.Bool.{ne_eqb}
use Rattle.flash_model.specs.Image.{slot_at}
use Rattle.flash_model.specs.Sim.{SimValue}
use Rattle.layers.specs.Codes.{DefaultCodes}
use Rattle.layers.specs.Commands.{word_of}
use Rattle.layers.specs.declared.command.Command.{Command}
use Rattle.page_turnover.specs.declared.operation.Operation.{Operation}
use Rattle.page_turnover.specs.declared.operation.Operation.TheVariants.{Program, Erase}
use Rattle.page_turnover.specs.Active.{active}
use Rattle.page_turnover.specs.Blank.{is_blank}
use Rattle.page_turnover.specs.Turn.{seq_after, next_seq, target_page}
use Rattle.page_turnover.specs.Words.{HasRoom}
use Rattle.keymap_store.specs.declared.store.Work.{Work as WorkAnswer}
use Rattle.keymap_store.specs.declared.store.Work.TheVariants.{Idle, Working, Settled, Failed}
use Rattle.keymap_store.specs.Keymap.{entries_of}
use Rattle.keymap_store.specs.Next.{all_copies}
use Rattle.keymap_store.specs.Operations.{has_room, record_on, erase_if_used, programs_from, header_and_record, operations_of}
use Rattle.keymap_store.specs.Turnovers.{TurnsOver, Turns, stays as turn_stays, turns as turn_ends, Spares}
use Rattle.keyboard.specs.Bounded.{counted, steps_since, accepted_image}
use Rattle.keyboard.specs.Calls.{Call, Scanned, SetUp, Out, In, Polled, Worked, BusReset, image_after as call_image, EachCall}
use Rattle.keyboard.specs.Commands.{working}
use Rattle.keyboard.specs.Fate.{works, settled, failed, ended_by}
use Rattle.keyboard.specs.Conforming.{IsAnswered as IsCallAnswered, WorkedOn}
use Rattle.keyboard.specs.Operated.{Works}
use Rattle.keyboard.proofs.Bounding.{steps_since-same, steps_since-more}
use Rattle.keyboard.proofs.Effects as keyboard
use Rattle.keyboard.proofs.Sessions.{orderly, working_after, after_stays}
use Rattle.world.specs.declared.event.Event.{Event}
use Rattle.world.specs.declared.event.Answer.{Answer}
use Rattle.world.specs.Kinds.{Step, Kind, starts, calls, looks, kind_of, kind}
use Rattle.world.specs.History.{Session, session_with, session, host_calls, flash_after, image_after, EachStep}
use Rattle.world.specs.Conforming.{IsAnswered}
use Rattle.world.specs.Order.{found_by}
use Rattle.world.specs.Erases.{next_in, made_in, with_erase, erases, is_same, unless_same, commits, with_cut, cuts, with_failure, failures, ErasesSeldom}
use Rattle.world.proofs.Here.{Effect, starts_anew, is_called, is_look, effect, Here, here}
use Rattle.world.proofs.Wearing.{not_active, spared_by}

-- ---- an erase comes first

abbrev IsProgram : Operation → Type 0
IsProgram (Program page slot word) = Unit {0}
IsProgram (Erase page) = ⊥

abbrev ArePrograms : List Operation → Type 0
ArePrograms [] = Unit {0}
ArePrograms (operation ∷ more) = IsProgram operation × ArePrograms more

programs_get : (operations : List Operation) (k : ℕ) (operation : Operation) → ArePrograms operations → slice_get operations k ≡ Some operation → IsProgram operation
programs_get [] zero operation p e = cc
programs_get [] (suc k) operation p e = cc
programs_get (first ∷ more) zero operation p e = (let same : first ≡ operation = cc in subst (λ (o : Operation). IsProgram o) same p.0)
programs_get (first ∷ more) (suc k) operation p e = programs_get more k operation p.1 e

programs_append : (a b : List Operation) → ArePrograms a → ArePrograms b → ArePrograms (a ++ b)
programs_append [] b p q = q
programs_append (first ∷ more) b p q = (p.0, programs_append more b p.1 q)

are_programs : (page slot : ℕ) (words : List ℕ) → ArePrograms (programs_from page slot words)
are_programs page slot [] = tt
are_programs page slot (word ∷ words) = (tt, are_programs page (suc slot) words)

of_record : (place : Option (ℕ × ℕ)) (image : List ℕ) (word : ℕ) → ArePrograms (record_on image place word)
of_record None image word = tt
of_record (Some place) image word = (tt, tt)

behind_erase : (used : Bool) (image : List ℕ) (page : ℕ) (rest : List Operation) (k : ℕ) (operation : Operation) → is_blank image page ≡ used → ArePrograms rest
    → slice_get (erase_if_used image page ++ rest) (suc k) ≡ Some operation → IsProgram operation
unfolding erase_if_used
behind_erase true image page rest k operation u p e =
    programs_get rest (suc k) operation p (subst (λ (b : Bool). slice_get ((if b then [] else Erase page ∷ []) ++ rest) (suc k) ≡ Some operation) u e)
behind_erase false image page rest k operation u p e =
    programs_get rest k operation p (subst (λ (b : Bool). slice_get ((if b then [] else Erase page ∷ []) ++ rest) (suc k) ≡ Some operation) u e)

one_at_most : (made : Option Operation) (n : ℕ) → with_erase made n ≤ suc n
one_at_most None n = omega arith
one_at_most (Some (Erase page)) n = omega arith
one_at_most (Some (Program page slot word)) n = omega arith

of_program : (made : Option Operation) (n : ℕ) → ((operation : Operation) → made ≡ Some operation → IsProgram operation) → with_erase made n ≡ n
of_program None n p = refl
of_program (Some (Erase page)) n p = absurd (p (Erase page) refl)
of_program (Some (Program page slot word)) n p = refl

none_fewer : (same : Bool) (n : ℕ) → n ≤ unless_same same n
none_fewer true n = omega arith
none_fewer false n = omega arith

no_cut_less : (k : Kind) (w : Option Command) (n : ℕ) → n ≤ with_cut k w n
no_cut_less starts None n = omega arith
no_cut_less starts (Some command) n = omega arith
no_cut_less (calls call) w n = omega arith
no_cut_less looks w n = omega arith

by_work : (work : WorkAnswer) (image : List ℕ) (n : ℕ) → n ≤ with_failure (calls (Worked work image)) n
by_work Idle image n = omega arith
by_work Working image n = omega arith
by_work Settled image n = omega arith
by_work Failed image n = omega arith

no_failure_less : (k : Kind) (n : ℕ) → n ≤ with_failure k n
no_failure_less starts n = omega arith
no_failure_less looks n = omega arith
no_failure_less (calls (Scanned scan)) n = omega arith
no_failure_less (calls (SetUp bytes)) n = omega arith
no_failure_less (calls (Out packet answer)) n = omega arith
no_failure_less (calls (In answer)) n = omega arith
no_failure_less (calls (Polled answer)) n = omega arith
no_failure_less (calls (Worked work image)) n = by_work work image n
no_failure_less (calls BusReset) n = omega arith

-- the number after a page's is another one
other_number : (o : Option (ℕ × ℕ)) (page : ℕ) → is_same (Some (page, seq_after o)) o ≡ false
other_number None page = refl
other_number (Some place) page = second (page == place.0) (place.1 + 1 == place.1) (ne_eqb (place.1 + 1) place.1 (λ e. omega (arith, e)))
  where
    second : (a b : Bool) → b ≡ false → (a && b) ≡ false
    second true b e = e
    second false b e = refl

spare_room : (old new : List ℕ) → Spares old new → HasRoom new → HasRoom old
spare_room old new s r =
    let a : active old ≡ Some (r.page, r.seq) = sym s.active_is ∙ r.is_active in
    let same : slot_at new r.page 511 ≡ slot_at old r.page 511 = s.same r.page r.seq 511 a (omega arith) in
    record { page = r.page; seq = r.seq; is_active = a; current = sym s.format_is ∙ r.current; free = rw same at r.free }

-- only flash work makes an operation
abbrev OnlyWorks : Option SimValue → Kind → Type 0
OnlyWorks found starts = Unit {0}
OnlyWorks found (calls (Worked work image)) = Unit {0}
OnlyWorks found _ = found ≡ None

only_works : (event : Event) (answer : Answer) (flash : SimValue) (image : List ℕ) → OnlyWorks (found_by event flash) (kind_of event answer image)
only_works event answer flash image = grind (arith, common_steps)

module _ (defaults : DefaultCodes) where
  by_room : (room : Bool) (image : List ℕ) (command : Command) (k : ℕ) (operation : Operation) → has_room image ≡ room → slice_get (operations_of defaults image command) (suc k) ≡ Some operation → IsProgram operation
  unfolding operations_of
  by_room true image command k operation r e =
      programs_get (record_on image (active image) (word_of command)) (suc k) operation (of_record (active image) image (word_of command)) (rw r at e)
  by_room false image command k operation r e =
      behind_erase (is_blank image (target_page image)) image (target_page image) (programs_from (target_page image) 1 (all_copies defaults (entries_of defaults image)) ++ header_and_record image _ (word_of command)) k operation refl
      (programs_append (programs_from (target_page image) 1 (all_copies defaults (entries_of defaults image))) _ (are_programs (target_page image) 1 (all_copies defaults (entries_of defaults image))) (tt, (tt, tt))) (rw r at e)

  later_programs : (image : List ℕ) (command : Command) (n : ℕ) (operation : Operation) → 1 ≤ n → slice_get (operations_of defaults image command) n ≡ Some operation → IsProgram operation
  later_programs image command zero operation l e = absurd (omega (arith, l))
  later_programs image command (suc k) operation l e = by_room (has_room image) image command k operation refl e

  -- ---- what a count comes to

  commits_one : (old new : List ℕ) → TurnsOver defaults old new → is_same (active new) (active old) ≡ false
  unfolding next_seq
  commits_one old new t = rw t.active_is (other_number (active old) (target_page old))

  -- ---- a compaction that is under way

  -- the command at work has made an operation, and there is no room yet
  record Opened (now : Session) (image : List ℕ) : Type 0 where
    command : Command
    works_on : working defaults now.first now.past ≡ Some command
    begun : 1 ≤ steps_since now.past
    full : HasRoom image → ⊥

  -- as many erases at most; or one more, while a compaction is under way
  data Bound (now : Session) (image : List ℕ) (erased ended : ℕ) : Type 0 where
    closed : erased ≤ ended → Bound now image erased ended
    opened : Opened now image → erased ≤ suc ended → Bound now image erased ended

  -- the operation of the command at work is no erase where it is not its first
  not_first : (now : Session) (image : List ℕ) → Opened now image → (found : Option SimValue) (operation : Operation) → made_in defaults now found ≡ Some operation → IsProgram operation
  not_first now image o None operation m = cc
  not_first now image o (Some found) operation m =
      later_programs (accepted_image now.first now.past) o.command (steps_since now.past) operation o.begun (subst (λ (w : Option Command). next_in defaults now w ≡ Some operation) o.works_on m)

  -- the commits, cuts and failures after a step
  record Ends (now : Session) (old new : List ℕ) (k : Kind) (before after : ℕ) : Type 0 where
    same : before ≤ after
    commit : is_same (active new) (active old) ≡ false → suc before ≤ after
    cut : (command : Command) → k ≡ starts → working defaults now.first now.past ≡ Some command → suc before ≤ after
    failure : (image : List ℕ) → k ≡ calls (Worked Failed image) → suc before ≤ after

  -- ---- by what a step is

  -- calls that are no flash work, as they end no command
  no_work : (now : Session) (call : Call) (old new : List ℕ) (erased before after : ℕ) → Here defaults now (record { image = old; armed = None; operations = 0; faults = 0 }) → ((count : ℕ) → counted call count ≡ count) → ended_by defaults call works ≡ works
      → keyboard.Effect defaults now.first now.past call → new ≡ old → before ≤ after → Bound now old erased before → Bound (record { first = now.first; past = call ∷ now.past }) new erased after
  no_work now call old new erased before after h c n e i m (closed l) = closed (omega (arith, l, m))
  no_work now call old new erased before after h c n (keyboard.stays k a s) i m (opened o l) =
      let works_on : working defaults now.first (call ∷ now.past) ≡ working defaults now.first now.past = working_after defaults now.first now.past call (working defaults now.first now.past) (after_stays defaults now.first now.past call (orderly defaults now.first now.past h.conforming) k a s) in
      let made : steps_since (call ∷ now.past) ≡ steps_since now.past = steps_since-same call now.past c a in
      opened (record { command = o.command; works_on = works_on ∙ o.works_on; begun = omega (arith, made, o.begun); full = λ r. o.full (subst (λ (x : List ℕ). HasRoom x) i r) }) (omega (arith, l, m))
  no_work now call old new erased before after h c n (keyboard.takes command k a s f) i m (opened o l) = absurd (f (rw o.works_on refl))
  no_work now call old new erased before after h c n (keyboard.settles command k a w e) i m (opened o l) = (let never : works ≡ settled = sym n ∙ k in cc)
  no_work now call old new erased before after h c n (keyboard.fails command k a w e) i m (opened o l) = (let never : works ≡ failed = sym n ∙ k in cc)

  still_works : (now : Session) (command : Command) (new : List ℕ) → EachCall (IsCallAnswered defaults) now.first now.past → keyboard.Effect defaults now.first now.past (Worked Working new) → working defaults now.first now.past ≡ Some command
      → working defaults now.first (Worked Working new ∷ now.past) ≡ Some command
  still_works now command new h (keyboard.stays k a s) w = working_after defaults now.first now.past (Worked Working new) (working defaults now.first now.past) (after_stays defaults now.first now.past (Worked Working new) (orderly defaults now.first now.past h) k a s) ∙ w
  still_works now command new h (keyboard.takes other k a s f) w = absurd (f (rw w refl))
  still_works now command new h (keyboard.settles other k a s e) w = cc
  still_works now command new h (keyboard.fails other k a s e) w = cc

  -- a step of a compaction that goes on
  goes_on : (now : Session) (command : Command) (old new : List ℕ) (erased before after : ℕ) → working defaults now.first (Worked Working new ∷ now.past) ≡ Some command
      → (HasRoom old → ⊥) → ((seq : ℕ) → active old ≡ Some (target_page old, seq) → ⊥) → Turns defaults old new → erased ≤ suc before → Ends now old new (calls (Worked Working new)) before after
      → Bound (record { first = now.first; past = Worked Working new ∷ now.past }) new erased after
  goes_on now command old new erased before after w full none (turn_ends t) l m = (let one = m.commit (commits_one old new t) in closed (omega (arith, l, one)))
  goes_on now command old new erased before after w full none (turn_stays p) l m =
      let more : steps_since (Worked Working new ∷ now.past) ≡ suc (steps_since now.past) = steps_since-more (Worked Working new) now.past (λ count. refl) (keyboard.accepts-work now.past Working new) in
      let fewer = m.same in
      opened (record { command = command; works_on = w; begun = omega (arith, more); full = λ r. full (spare_room old new (spared_by old new p.elsewhere none p.keeps.active_is p.keeps.format_is) r) })
      (omega (arith, l, fewer))

  at_most : (now : Session) (old : List ℕ) (found : Option SimValue) (erased before : ℕ) → Bound now old erased before → with_erase (made_in defaults now found) erased ≤ suc before
  at_most now old found erased before (closed l) = (let one = one_at_most (made_in defaults now found) erased in omega (arith, l, one))
  at_most now old found erased before (opened o l) = (let none : with_erase (made_in defaults now found) erased ≡ erased = of_program (made_in defaults now found) erased (not_first now old o found) in omega (arith, l, none))

  -- what is made is that operation, which is a program
  only_program : (now : Session) (found : Option SimValue) (which : Operation) (page tail word : ℕ) → next_in defaults now (working defaults now.first now.past) ≡ Some which → which ≡ Program page tail word
      → (operation : Operation) → made_in defaults now found ≡ Some operation → IsProgram operation
  only_program now None which page tail word n p operation m = cc
  only_program now (Some flash) which page tail word n p operation m = (let same : Program page tail word ≡ operation = cc in subst (λ (o : Operation). IsProgram o) same tt)

  -- the record of a command is no erase, and there is room for it
  of_last : (now : Session) (command : Command) (old new : List ℕ) (work : WorkAnswer) (found : Option SimValue) (erased before : ℕ) → working defaults now.first now.past ≡ Some command → (w : Works defaults now.first now.past command old work new)
      → suc (steps_since now.past) ≡ w.advances.needed → Bound now old erased before → with_erase (made_in defaults now found) erased ≤ before
  of_last now command old new work found erased before on w e (closed l) =
      let r = w.advances.record_last e in
      let next : next_in defaults now (working defaults now.first now.past) ≡ Some w.operation = subst (λ (o : Option Command). next_in defaults now o ≡ Some w.operation) (sym on) w.advances.in_order in
      let none : with_erase (made_in defaults now found) erased ≡ erased = of_program (made_in defaults now found) erased (only_program now found w.operation r.page r.tail _ next r.operation_is) in
      omega (arith, l, none)
  of_last now command old new work found erased before on w e (opened o l) = absurd (o.full (w.advances.record_last e).room)

  by_answer : (now : Session) (command : Command) (work : WorkAnswer) (old new : List ℕ) (found : Option SimValue) (erased before after : ℕ) → Here defaults now (record { image = old; armed = None; operations = 0; faults = 0 })
      → working defaults now.first now.past ≡ Some command → IsCallAnswered defaults now.first now.past (Worked work new) → Works defaults now.first now.past command old work new → Ends now old new (calls (Worked work new)) before after → Bound now old erased before
      → Bound (record { first = now.first; past = Worked work new ∷ now.past }) new (with_erase (made_in defaults now found) erased) after
  by_answer now command Idle old new found erased before after h on a w m b = absurd w.outcome
  by_answer now command Failed old new found erased before after h on a w m b = (let most = at_most now old found erased before b in let more = m.failure new refl in closed (omega (arith, most, more)))
  by_answer now command Settled old new found erased before after h on a w m b =
      let most = of_last now command old new Settled found erased before on w (w.advances.last refl) b in
      let fewer = m.same in
      closed (omega (arith, most, fewer))
  by_answer now command Working old new found erased before after h on a w m b =
      let few = (w.advances.before_last refl).0 in
      goes_on now command old new (with_erase (made_in defaults now found) erased) before after (still_works now command new h.conforming (keyboard.effect defaults now.first now.past (Worked Working new) a) on) (w.advances.no_room few)
      (not_active defaults now.first now.past command old Working new w (w.advances.turn_before few)) (w.advances.before_last refl).1 (at_most now old found erased before b) m

  -- where no command works nothing is made
  none_made : (now : Session) (found : Option SimValue) (erased : ℕ) → working defaults now.first now.past ≡ None → with_erase (made_in defaults now found) erased ≡ erased
  none_made now None erased e = refl
  none_made now (Some flash) erased e = ap (λ (w : Option Command). with_erase (next_in defaults now w) erased) e

  rests : (now : Session) (old new : List ℕ) (erased before : ℕ) → working defaults now.first now.past ≡ None → Bound now old erased before → erased ≤ before
  rests now old new erased before e (closed l) = l
  rests now old new erased before e (opened o l) = absurd (none_some (working defaults now.first now.past) o.command e o.works_on)
    where
      none_some : (w : Option Command) (command : Command) → w ≡ None → w ≡ Some command → ⊥
      none_some w command e f = cc

  by_command : (now : Session) (w : Option Command) (work : WorkAnswer) (old new : List ℕ) (found : Option SimValue) (erased before after : ℕ) → Here defaults now (record { image = old; armed = None; operations = 0; faults = 0 })
      → working defaults now.first now.past ≡ w → IsCallAnswered defaults now.first now.past (Worked work new) → WorkedOn defaults now.first now.past w work new → Ends now old new (calls (Worked work new)) before after → Bound now old erased before
      → Bound (record { first = now.first; past = Worked work new ∷ now.past }) new (with_erase (made_in defaults now found) erased) after
  by_command now None work old new found erased before after h e a on m b =
      let none = none_made now found erased e in
      let few = rests now old new erased before e b in
      let fewer = m.same in
      closed (omega (arith, none, few, fewer))
  by_command now (Some command) work old new found erased before after h e a on m b =
      by_answer now command work old new found erased before after h e a (subst (λ (x : List ℕ). Works defaults now.first now.past command x work new) h.image on) m b

  cut_off : (now : Session) (w : Option Command) (old new : List ℕ) (found : Option SimValue) (erased before after : ℕ) → working defaults now.first now.past ≡ w → Ends now old new starts before after → Bound now old erased before → with_erase (made_in defaults now found) erased ≤ after
  cut_off now None old new found erased before after e m b = (let none = none_made now found erased e in let few = rests now old new erased before e b in let fewer = m.same in omega (arith, none, few, fewer))
  cut_off now (Some command) old new found erased before after e m b = (let most = at_most now old found erased before b in let more = m.cut command refl e in omega (arith, most, more))

  bare : (now : Session) (flash : SimValue) → Here defaults now flash → Here defaults now (record { image = flash.image; armed = None; operations = 0; faults = 0 })
  bare now flash h = record { conforming = h.conforming; image = h.image }

  called : (now : Session) (old new : SimValue) (call : Call) (found : Option SimValue) (erased before after : ℕ) → Here defaults now old → IsCallAnswered defaults now.first now.past call → call_image now.first (call ∷ now.past) ≡ new.image → OnlyWorks found (calls call)
      → Ends now old.image new.image (calls call) before after → Bound now old.image erased before → Bound (record { first = now.first; past = call ∷ now.past }) new.image (with_erase (made_in defaults now found) erased) after
  called now old new (Scanned scan) found erased before after h a i n m b = rw n (no_work now (Scanned scan) old.image new.image erased before after (bare now old h) (λ count. refl) refl (keyboard.effect defaults now.first now.past (Scanned scan) a) (sym i ∙ h.image) m.same b)
  called now old new (SetUp bytes) found erased before after h a i n m b = rw n (no_work now (SetUp bytes) old.image new.image erased before after (bare now old h) (λ count. refl) refl (keyboard.effect defaults now.first now.past (SetUp bytes) a) (sym i ∙ h.image) m.same b)
  called now old new (Out packet answer) found erased before after h a i n m b = rw n (no_work now (Out packet answer) old.image new.image erased before after (bare now old h) (λ count. refl) refl (keyboard.effect defaults now.first now.past (Out packet answer) a) (sym i ∙ h.image) m.same b)
  called now old new (In answer) found erased before after h a i n m b = rw n (no_work now (In answer) old.image new.image erased before after (bare now old h) (λ count. refl) refl (keyboard.effect defaults now.first now.past (In answer) a) (sym i ∙ h.image) m.same b)
  called now old new (Polled answer) found erased before after h a i n m b = rw n (no_work now (Polled answer) old.image new.image erased before after (bare now old h) (λ count. refl) refl (keyboard.effect defaults now.first now.past (Polled answer) a) (sym i ∙ h.image) m.same b)
  called now old new BusReset found erased before after h a i n m b = rw n (no_work now BusReset old.image new.image erased before after (bare now old h) (λ count. refl) refl (keyboard.effect defaults now.first now.past BusReset a) (sym i ∙ h.image) m.same b)
  called now old new (Worked work image) found erased before after h a i n m b =
      let P : List ℕ → Type 0 = λ x. Ends now old.image x (calls (Worked work x)) before after in
      let Q : List ℕ → Type 0 = λ x. Bound (record { first = now.first; past = Worked work image ∷ now.past }) x (with_erase (made_in defaults now found) erased) after in
      let ends : Ends now old.image image (calls (Worked work image)) before after = subst (λ (x : List ℕ). Ends now old.image x (calls (Worked work image)) before after) (sym i) m in
      subst Q i (by_command now (working defaults now.first now.past) work old.image image found erased before after (bare now old h) refl a a ends b)

  by_kind : (now : Session) (old new : SimValue) (k : Kind) (found : Option SimValue) (erased before after : ℕ) → Here defaults now old → Effect defaults now.first now.past old new k → OnlyWorks found k → Ends now old.image new.image k before after → Bound now old.image erased before
      → Bound (session_with k new.image now) new.image (with_erase (made_in defaults now found) erased) after
  by_kind now old new starts found erased before after h starts_anew n m b = closed (cut_off now (working defaults now.first now.past) old.image new.image found erased before after refl m b)
  by_kind now old new (calls call) found erased before after h (is_called same a i) n m b = called now old new call found erased before after h a (i h.image) n m b
  by_kind now old new looks found erased before after h (is_look e) n m (closed l) = (let fewer = m.same in rw n (closed (omega (arith, l, fewer))))
  by_kind now old new looks found erased before after h (is_look e) n m (opened o l) =
      let fewer = m.same in
      rw n (opened (record { command = o.command; works_on = o.works_on; begun = o.begun; full = λ r. o.full (subst (λ (x : SimValue). HasRoom x.image) e r) }) (omega (arith, l, fewer)))

  -- ---- over a history

  ends : SimValue → List Step → ℕ
  ends start past = commits start past + cuts defaults start past + failures past

  ends_after : (start : SimValue) (step : Step) (before : List Step) → Ends (session start before) (image_after start before) step.flash.image (kind step) (ends start before) (ends start (step ∷ before))
  unfolding ends commits cuts failures
  ends_after start step before =
      let now : Session = session start before in
      let a = none_fewer (is_same (active step.flash.image) (active (image_after start before))) (commits start before) in
      let b = no_cut_less (kind step) (working defaults now.first now.past) (cuts defaults start before) in
      let c = no_failure_less (kind step) (failures before) in
      record {
        same = omega (arith, a, b, c);
        commit = λ e. (let d : unless_same (is_same (active step.flash.image) (active (image_after start before))) (commits start before) ≡ suc (commits start before) = rw e refl in omega (arith, b, c, d));
        cut = λ command e w. (let d : with_cut (kind step) (working defaults now.first now.past) (cuts defaults start before) ≡ suc (cuts defaults start before) = rw (e, w) refl in omega (arith, a, c, d));
        failure = λ image e. (let d : with_failure (kind step) (failures before) ≡ suc (failures before) = rw e refl in omega (arith, a, b, d));
      }

  bound : (start : SimValue) (past : List Step) → EachStep (IsAnswered defaults) start past → Bound (session start past) (image_after start past) (erases defaults start past) (ends start past)
  unfolding erases ends commits cuts failures
  bound start [] h = closed (omega arith)
  bound start (step ∷ before) h =
      by_kind (session start before) (flash_after start before) step.flash (kind step) (found_by step.event (flash_after start before)) (erases defaults start before) (ends start before) (ends start (step ∷ before))
      (here defaults start before h.1) (effect defaults (session start before) (host_calls before) (flash_after start before) step.event step.answer step.refused step.flash h.0)
      (only_works step.event step.answer (flash_after start before) step.flash.image) (ends_after start step before) (bound start before h.1)

  few : (now : Session) (image : List ℕ) (erased ended : ℕ) → Bound now image erased ended → erased ≤ suc ended
  few now image erased ended (closed l) = omega (arith, l)
  few now image erased ended (opened o l) = l

  pub erases_seldom : (start : SimValue) (history : List Step) → EachStep (IsAnswered defaults) start history → ErasesSeldom defaults start history
  unfolding ends
  erases_seldom start history h = few (session start history) (image_after start history) (erases defaults start history) (ends start history) (bound start history h)
