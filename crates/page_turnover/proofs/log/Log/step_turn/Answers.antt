use Rattle.std.proofs.Common.{◌≡◌, ◌∙◌, ◌<◌, ◌+◌, ◌^◌, true, false, sym, subst, ◌⊎◌, inl}
use Rattle.records.specs.Slots.{encoded}
use Rattle.page_turnover.specs.declared.log.stepping.Step.TheVariants.{Moved}
use Rattle.page_turnover.specs.declared.operation.Operation.TheVariants.{Program, Erase}
use Rattle.page_turnover.specs.Header.{header_word}
use Rattle.page_turnover.specs.Next.{is_ready}
use Rattle.page_turnover.specs.Steps.{IsStep}
use Rattle.page_turnover.specs.Turn.{target_page, next_seq, copied}
use Rattle.page_turnover.specs.Value.{Task, Copy, Seal}
use Rattle.page_turnover.specs.representation.Turn.{task_of}
use Rattle.page_turnover.specs.representation.Value.{target_value, task_value}
use Rattle.page_turnover.proofs.Endings.{under_way, seq_is, seq_small}
use Rattle.page_turnover.proofs.Headers.{header_word-short}
use Rattle.page_turnover.proofs.Making.{next_taken}
use Rattle.page_turnover.proofs.Planning.{can_make, next_of_copy, next_of_seal, next_of_unready, some_same}
use Rattle.page_turnover.proofs.Stepping.{copy_done, seal_done, erase_done, step_failed, inside_new}
use Rattle.page_turnover.proofs.log.Log.step_turn.Goals as goal

pub fail-requires : goal.fail-requires
fail-requires g c = inside_new (g.F.NorFlash.image c.args.flash.now) (g.F.NorFlash.image c.erase.new.flash) c.args.self.now c.requires.describes c.erase.ensures.same_pages

pub fail-requires-then-not-program : goal.fail-requires-then-not-program
fail-requires-then-not-program g c = inside_new (g.F.NorFlash.image c.args.flash.now) (g.F.NorFlash.image c.program.new.flash) c.args.self.now c.requires.describes c.program.ensures.same_pages

pub fail-requires-then-not-program-2 : goal.fail-requires-then-not-program-2
fail-requires-then-not-program-2 g c = inside_new (g.F.NorFlash.image c.args.flash.now) (g.F.NorFlash.image c.program-in-None.new.flash) c.args.self.now c.requires.describes c.program-in-None.ensures.same_pages

-- a target that is not ready is erased
pub returns-then-not-erase-clause-steps : goal.returns-then-not-erase-clause-steps
returns-then-not-erase-clause-steps g c =
    let old = g.F.NorFlash.image c.args.flash.now in
    let target = target_value c.offer_of-target.result.0 in
    let unready : is_ready old target ≡ false = sym c.is_ready.ensures ∙ c.if-not-is_ready.true in
    step_failed old c.args.self.now (Erase (target_page old)) c.fail.result (g.F.NorFlash.image c.erase.new.flash) c.fail.new.self c.requires.describes
    (next_of_unready old c.args.self.now target c.offer_of-target.result.1 (rw (← c.self.view_is) c.offer_of-target.ensures) unready) c.erase.ensures.whole
    (rw c.target-page.ensures.page at c.if-not-erase.ensures.made) c.fail.ensures.active c.fail.ensures.unsound c.fail.ensures.rests c.fail.ensures.failed

pub returns-then-not-is_ready-clause-steps : goal.returns-then-not-is_ready-clause-steps
returns-then-not-is_ready-clause-steps g c =
    let old = g.F.NorFlash.image c.args.flash.now in
    let new = g.F.NorFlash.image c.erase.new.flash in
    let target = target_value c.offer_of-target.result.0 in
    let unready : is_ready old target ≡ false = sym c.is_ready.ensures ∙ c.if-not-is_ready.true in
    let P : Task → Type 0 = λ t. IsStep old (record { active = c.self.inside.active; unsound = c.self.inside.unsound; task = task_value c.self.inside.task }) Moved new (record { active = c.self.inside.active; unsound = c.self.inside.unsound; task = t }) in
    rw (← c.self.view_is) (subst P (sym c.task_of-self-inside.ensures) (erase_done old _ target c.offer_of-target.result.1 new (rw (← c.self.view_is) at c.requires.describes)
    c.offer_of-target.ensures unready c.erase.ensures.whole (rw c.target-page.ensures.page at c.if-not-erase.ensures.made)))

-- a copy
pub program-requires : goal.program-requires
program-requires g c =
    let old = g.F.NorFlash.image c.args.flash.now in
    let target = target_value c.offer_of-target.result.0 in
    let ready : is_ready old target ≡ true = sym c.is_ready.ensures ∙ c.if-not-is_ready.false in
    let task : c.args.self.now.task ≡ task_of target c.offer_of-target.result.1 = rw (← c.self.view_is) c.offer_of-target.ensures in
    rw (c.target-page.ensures.page, c.copies_of-slot.ensures) (can_make old c.args.self.now (Program (target_page old) (copied target + 1) c.in-Some.word) c.requires.describes
    (next_of_copy old c.args.self.now target c.in-Some.word (rw c.in-Some.is at task) ready))

pub returns-then-not-program-clause-steps : goal.returns-then-not-program-clause-steps
returns-then-not-program-clause-steps g c =
    let old = g.F.NorFlash.image c.args.flash.now in
    let target = target_value c.offer_of-target.result.0 in
    let ready : is_ready old target ≡ true = sym c.is_ready.ensures ∙ c.if-not-is_ready.false in
    let task : c.args.self.now.task ≡ task_of target c.offer_of-target.result.1 = rw (← c.self.view_is) c.offer_of-target.ensures in
    step_failed old c.args.self.now (Program (target_page old) (copied target + 1) c.in-Some.word) c.fail-then-not-program.result (g.F.NorFlash.image c.program.new.flash) c.fail-then-not-program.new.self c.requires.describes
    (next_of_copy old c.args.self.now target c.in-Some.word (rw c.in-Some.is at task) ready) c.program.ensures.whole
    (rw (c.target-page.ensures.page, c.copies_of-slot.ensures) at c.if-not-program.ensures.made) c.fail-then-not-program.ensures.active c.fail-then-not-program.ensures.unsound c.fail-then-not-program.ensures.rests c.fail-then-not-program.ensures.failed

pub returns-else-not-program-clause-steps : goal.returns-else-not-program-clause-steps
returns-else-not-program-clause-steps g c =
    let old = g.F.NorFlash.image c.args.flash.now in
    let target = target_value c.offer_of-target.result.0 in
    let ready : is_ready old target ≡ true = sym c.is_ready.ensures ∙ c.if-not-is_ready.false in
    rw (← c.self.view_is, c.copies_of-slot.ensures) (copy_done old _ target c.in-Some.word (g.F.NorFlash.image c.program.new.flash) (rw (← c.self.view_is) at c.requires.describes)
    (rw c.in-Some.is at c.offer_of-target.ensures) ready c.program.ensures.whole (rw (c.target-page.ensures.page, c.copies_of-slot.ensures) at c.if-not-program.ensures.made))

-- the flash takes the copy: its word is short, or among those that it takes besides
pub returns-then-not-program-clause-faultless : goal.returns-then-not-program-clause-faultless
returns-then-not-program-clause-faultless g c n f s =
    let old = g.F.NorFlash.image c.args.flash.now in
    let target = target_value c.offer_of-target.result.0 in
    let ready : is_ready old target ≡ true = sym c.is_ready.ensures ∙ c.if-not-is_ready.false in
    let offered : c.args.self.now.task ≡ task_of target c.offer_of-target.result.1 = rw (← c.self.view_is) c.offer_of-target.ensures in
    let task : c.args.self.now.task ≡ Copy target c.in-Some.word = rw c.in-Some.is at offered in
    let next = next_of_copy old c.args.self.now target c.in-Some.word task ready in
    let takes = g.F.NorFlash.takes_also c.args.flash.now in
    let taken : (c.in-Some.word < 2 ^ 31) ⊎ takes c.target-page.result (c.copies_of-slot.result + 1) (encoded c.in-Some.word) = rw (c.target-page.ensures.page, c.copies_of-slot.ensures) (next_taken takes old c.args.self.now (target_page old) (copied target + 1) c.in-Some.word (λ x. rw task at x) next s) in
    let e = (c.if-not-program.ensures.faultless n f taken).1 in
    cc

pub returns-else-not-program-clause-faultless : goal.returns-else-not-program-clause-faultless
returns-else-not-program-clause-faultless g c n f s =
    let old = g.F.NorFlash.image c.args.flash.now in
    let target = target_value c.offer_of-target.result.0 in
    let ready : is_ready old target ≡ true = sym c.is_ready.ensures ∙ c.if-not-is_ready.false in
    let offered : c.args.self.now.task ≡ task_of target c.offer_of-target.result.1 = rw (← c.self.view_is) c.offer_of-target.ensures in
    let task : c.args.self.now.task ≡ Copy target c.in-Some.word = rw c.in-Some.is at offered in
    let next = next_of_copy old c.args.self.now target c.in-Some.word task ready in
    let takes = g.F.NorFlash.takes_also c.args.flash.now in
    let taken : (c.in-Some.word < 2 ^ 31) ⊎ takes c.target-page.result (c.copies_of-slot.result + 1) (encoded c.in-Some.word) = rw (c.target-page.ensures.page, c.copies_of-slot.ensures) (next_taken takes old c.args.self.now (target_page old) (copied target + 1) c.in-Some.word (λ x. rw task at x) next s) in
    ((c.if-not-program.ensures.faultless n f taken).0, λ e. cc)

-- the commit header
pub next_seq-seq-requires : goal.next_seq-seq-requires
next_seq-seq-requires g c = seq_small (g.F.NorFlash.image c.args.flash.now) c.args.self.now c.requires.describes

pub header-requires : goal.header-requires
header-requires g c =
    let old = g.F.NorFlash.image c.args.flash.now in
    let target = target_value c.offer_of-target.result.0 in
    let seq : c.next_seq-seq.result ≡ next_seq old = seq_is old c.args.self.now c.next_seq-seq.result c.requires.describes c.next_seq-seq.ensures in
    let task : c.args.self.now.task ≡ task_of target c.offer_of-target.result.1 = rw (← c.self.view_is) c.offer_of-target.ensures in
    rw seq ((under_way old c.args.self.now (Seal target) c.requires.describes (rw c.in-None.is at task)).can.numbered)

pub program-requires-in-None : goal.program-requires-in-None
program-requires-in-None g c =
    let old = g.F.NorFlash.image c.args.flash.now in
    let target = target_value c.offer_of-target.result.0 in
    let ready : is_ready old target ≡ true = sym c.is_ready.ensures ∙ c.if-not-is_ready.false in
    let seq : c.next_seq-seq.result ≡ next_seq old = seq_is old c.args.self.now c.next_seq-seq.result c.requires.describes c.next_seq-seq.ensures in
    let task : c.args.self.now.task ≡ task_of target c.offer_of-target.result.1 = rw (← c.self.view_is) c.offer_of-target.ensures in
    rw (c.target-page.ensures.page, c.header.ensures, seq) (can_make old c.args.self.now (Program (target_page old) 0 (header_word 2 (next_seq old))) c.requires.describes
    (next_of_seal old c.args.self.now target (rw c.in-None.is at task) ready))

pub returns-then-not-program-2-clause-steps : goal.returns-then-not-program-2-clause-steps
returns-then-not-program-2-clause-steps g c =
    let old = g.F.NorFlash.image c.args.flash.now in
    let target = target_value c.offer_of-target.result.0 in
    let ready : is_ready old target ≡ true = sym c.is_ready.ensures ∙ c.if-not-is_ready.false in
    let seq : c.next_seq-seq.result ≡ next_seq old = seq_is old c.args.self.now c.next_seq-seq.result c.requires.describes c.next_seq-seq.ensures in
    let task : c.args.self.now.task ≡ task_of target c.offer_of-target.result.1 = rw (← c.self.view_is) c.offer_of-target.ensures in
    step_failed old c.args.self.now (Program (target_page old) 0 (header_word 2 (next_seq old))) c.fail-then-not-program-2.result (g.F.NorFlash.image c.program-in-None.new.flash) c.fail-then-not-program-2.new.self c.requires.describes
    (next_of_seal old c.args.self.now target (rw c.in-None.is at task) ready) c.program-in-None.ensures.whole
    (rw (c.target-page.ensures.page, c.header.ensures, seq) at c.if-not-program-2.ensures.made) c.fail-then-not-program-2.ensures.active c.fail-then-not-program-2.ensures.unsound c.fail-then-not-program-2.ensures.rests c.fail-then-not-program-2.ensures.failed

pub returns-else-not-program-2-clause-steps : goal.returns-else-not-program-2-clause-steps
returns-else-not-program-2-clause-steps g c =
    let old = g.F.NorFlash.image c.args.flash.now in
    let target = target_value c.offer_of-target.result.0 in
    let ready : is_ready old target ≡ true = sym c.is_ready.ensures ∙ c.if-not-is_ready.false in
    let seq : c.next_seq-seq.result ≡ next_seq old = seq_is old c.args.self.now c.next_seq-seq.result c.requires.describes c.next_seq-seq.ensures in
    rw (← c.self.view_is, c.copies_of-slot.ensures, c.target-page.ensures.page, seq) (seal_done old _ target (g.F.NorFlash.image c.program-in-None.new.flash) (rw (← c.self.view_is) at c.requires.describes)
    (rw c.in-None.is at c.offer_of-target.ensures) ready c.program-in-None.ensures.whole (rw (c.target-page.ensures.page, c.header.ensures, seq) at c.if-not-program-2.ensures.made))

pub returns-then-not-program-2-clause-faultless : goal.returns-then-not-program-2-clause-faultless
returns-then-not-program-2-clause-faultless g c n f s =
    let old = g.F.NorFlash.image c.args.flash.now in
    let target = target_value c.offer_of-target.result.0 in
    let seq : c.next_seq-seq.result ≡ next_seq old = seq_is old c.args.self.now c.next_seq-seq.result c.requires.describes c.next_seq-seq.ensures in
    let task : c.args.self.now.task ≡ task_of target c.offer_of-target.result.1 = rw (← c.self.view_is) c.offer_of-target.ensures in
    let short : c.header.result < 2 ^ 31 = rw (c.header.ensures, seq) (header_word-short (next_seq old) (under_way old c.args.self.now (Seal target) c.requires.describes (rw c.in-None.is at task)).can.numbered) in
    let e = (c.if-not-program-2.ensures.faultless n f (inl short)).1 in
    cc

pub returns-else-not-program-2-clause-faultless : goal.returns-else-not-program-2-clause-faultless
returns-else-not-program-2-clause-faultless g c n f s =
    let old = g.F.NorFlash.image c.args.flash.now in
    let target = target_value c.offer_of-target.result.0 in
    let seq : c.next_seq-seq.result ≡ next_seq old = seq_is old c.args.self.now c.next_seq-seq.result c.requires.describes c.next_seq-seq.ensures in
    let task : c.args.self.now.task ≡ task_of target c.offer_of-target.result.1 = rw (← c.self.view_is) c.offer_of-target.ensures in
    let short : c.header.result < 2 ^ 31 = rw (c.header.ensures, seq) (header_word-short (next_seq old) (under_way old c.args.self.now (Seal target) c.requires.describes (rw c.in-None.is at task)).can.numbered) in
    ((c.program-in-None.ensures.faultless n f (inl short)).0, λ e. cc)

pub returns-then-not-program-2-clause-operated : goal.returns-then-not-program-2-clause-operated
returns-then-not-program-2-clause-operated g c operation e =
    let old = g.F.NorFlash.image c.args.flash.now in
    let target = target_value c.offer_of-target.result.0 in
    let ready : is_ready old target ≡ true = sym c.is_ready.ensures ∙ c.if-not-is_ready.false in
    let seq : c.next_seq-seq.result ≡ next_seq old = seq_is old c.args.self.now c.next_seq-seq.result c.requires.describes c.next_seq-seq.ensures in
    let task : c.args.self.now.task ≡ task_of target c.offer_of-target.result.1 = rw (← c.self.view_is) c.offer_of-target.ensures in
    let o = some_same _ operation (sym (next_of_seal old c.args.self.now target (rw c.in-None.is at task) ready) ∙ e) in
    rw o (rw (c.target-page.ensures.page, c.header.ensures, seq) at c.program-in-None.ensures.operated)

pub returns-else-not-program-2-clause-operated : goal.returns-else-not-program-2-clause-operated
returns-else-not-program-2-clause-operated g c operation e =
    let old = g.F.NorFlash.image c.args.flash.now in
    let target = target_value c.offer_of-target.result.0 in
    let ready : is_ready old target ≡ true = sym c.is_ready.ensures ∙ c.if-not-is_ready.false in
    let seq : c.next_seq-seq.result ≡ next_seq old = seq_is old c.args.self.now c.next_seq-seq.result c.requires.describes c.next_seq-seq.ensures in
    let task : c.args.self.now.task ≡ task_of target c.offer_of-target.result.1 = rw (← c.self.view_is) c.offer_of-target.ensures in
    let o = some_same _ operation (sym (next_of_seal old c.args.self.now target (rw c.in-None.is at task) ready) ∙ e) in
    rw o (rw (c.target-page.ensures.page, c.header.ensures, seq) at c.program-in-None.ensures.operated)
