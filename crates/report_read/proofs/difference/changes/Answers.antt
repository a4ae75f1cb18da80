use Rattle.std.proofs.Common.{◌∙◌, sym, ap}
use Rattle.std.proofs.lemmas.Result.{err_from_is_err_and}
use Rattle.report_read.specs.Changes.{on_in}
use Rattle.report_read.specs.Values.{ReadingValue}
use Rattle.report_read.proofs.Kept.{only_is}
use Rattle.report_read.proofs.Compared.{id_read, same_ids, other_ids, left_some, right_some, rising_some}
use Rattle.report_read.proofs.Asked.{each_error, never_memory}
use Rattle.report_read.proofs.difference.changes.Goals as goal

pub returns-then-id-clause-refused : goal.returns-then-id-clause-refused
returns-then-id-clause-refused c = λ _.
    let r = c.args.reader.now in
    let one = c.id.ensures ∙ ap (λ (x : ReadingValue). x.id) c.in_ok-earlier.ensures.read ∙ id_read r c.args.kind c.args.before.now in
    let other = c.id-2.ensures ∙ ap (λ (x : ReadingValue). x.id) c.in_ok-later.ensures.read ∙ id_read r c.args.kind c.args.now.now in
    other_ids r.descriptor c.args.kind c.args.before.now c.args.now.now c.in_ok-earlier.ensures.taken c.in_ok-later.ensures.taken
    (λ e. c.if-id.true (one ∙ e ∙ sym other))

pub returns-clause-taken : goal.returns-clause-taken
returns-clause-taken c =
    let r = c.args.reader.now in
    let one = c.id.ensures ∙ ap (λ (x : ReadingValue). x.id) c.in_ok-earlier.ensures.read ∙ id_read r c.args.kind c.args.before.now in
    let other = c.id-2.ensures ∙ ap (λ (x : ReadingValue). x.id) c.in_ok-later.ensures.read ∙ id_read r c.args.kind c.args.now.now in
    same_ids r.descriptor c.args.kind c.args.before.now c.args.now.now c.in_ok-earlier.ensures.taken c.in_ok-later.ensures.taken
    (sym one ∙ c.if-id.false ∙ other)

pub returns-clause-pressed : goal.returns-clause-pressed
returns-clause-pressed c =
    let r = c.args.reader.now in
    only_is (on_in r c.args.kind c.args.now.now) (on_in r c.args.kind c.args.before.now) c.in_ok-are.are.items c.in_ok-were.were.items c.in_ok-only_in.field-0.items
    c.in_ok-are.ensures.pressed c.in_ok-were.ensures.pressed (rw (c.deref.ensures.value, c.deref-2.ensures.value) at c.in_ok-only_in.ensures.only)

pub returns-clause-released : goal.returns-clause-released
returns-clause-released c =
    let r = c.args.reader.now in
    only_is (on_in r c.args.kind c.args.before.now) (on_in r c.args.kind c.args.now.now) c.in_ok-were.were.items c.in_ok-are.are.items c.in_ok-only_in-2.field-0.items
    c.in_ok-were.ensures.pressed c.in_ok-are.ensures.pressed (rw (c.deref-3.ensures.value, c.deref-4.ensures.value) at c.in_ok-only_in-2.ensures.only)

pub returns-in_err-earlier-clause-memory : goal.returns-in_err-earlier-clause-memory
returns-in_err-earlier-clause-memory c =
    let p = err_from_is_err_and c.from_residual.result c.from_residual.ensures.1 in
    rw (p.1, p.2) (λ m. absurd (never_memory c.args.reader.now.descriptor c.args.kind c.args.before.now c.in_err-earlier.field-0.0 c.in_err-earlier.ensures.refused m))

pub returns-in_err-earlier-clause-wanted : goal.returns-in_err-earlier-clause-wanted
returns-in_err-earlier-clause-wanted c =
    let p = err_from_is_err_and c.from_residual.result c.from_residual.ensures.1 in
    rw (p.1, p.2) (λ m. absurd (never_memory c.args.reader.now.descriptor c.args.kind c.args.before.now c.in_err-earlier.field-0.0 c.in_err-earlier.ensures.refused m))

pub returns-in_err-later-clause-memory : goal.returns-in_err-later-clause-memory
returns-in_err-later-clause-memory c =
    let p = err_from_is_err_and c.from_residual-in_err-later.result c.from_residual-in_err-later.ensures.1 in
    rw (p.1, p.2) (λ m. absurd (never_memory c.args.reader.now.descriptor c.args.kind c.args.now.now c.in_err-later.field-0.0 c.in_err-later.ensures.refused m))

pub returns-in_err-later-clause-wanted : goal.returns-in_err-later-clause-wanted
returns-in_err-later-clause-wanted c =
    let p = err_from_is_err_and c.from_residual-in_err-later.result c.from_residual-in_err-later.ensures.1 in
    rw (p.1, p.2) (λ m. absurd (never_memory c.args.reader.now.descriptor c.args.kind c.args.now.now c.in_err-later.field-0.0 c.in_err-later.ensures.refused m))

pub returns-in_err-were-clause-memory : goal.returns-in_err-were-clause-memory
returns-in_err-were-clause-memory c =
    let r = c.args.reader.now in
    let one = c.id.ensures ∙ ap (λ (x : ReadingValue). x.id) c.in_ok-earlier.ensures.read ∙ id_read r c.args.kind c.args.before.now in
    let other = c.id-2.ensures ∙ ap (λ (x : ReadingValue). x.id) c.in_ok-later.ensures.read ∙ id_read r c.args.kind c.args.now.now in
    each_error _ _ _ (same_ids r.descriptor c.args.kind c.args.before.now c.args.now.now c.in_ok-earlier.ensures.taken c.in_ok-later.ensures.taken
    (sym one ∙ c.if-id.false ∙ other))

pub returns-in_err-are-clause-memory : goal.returns-in_err-are-clause-memory
returns-in_err-are-clause-memory c =
    let r = c.args.reader.now in
    let one = c.id.ensures ∙ ap (λ (x : ReadingValue). x.id) c.in_ok-earlier.ensures.read ∙ id_read r c.args.kind c.args.before.now in
    let other = c.id-2.ensures ∙ ap (λ (x : ReadingValue). x.id) c.in_ok-later.ensures.read ∙ id_read r c.args.kind c.args.now.now in
    each_error _ _ _ (same_ids r.descriptor c.args.kind c.args.before.now c.args.now.now c.in_ok-earlier.ensures.taken c.in_ok-later.ensures.taken
    (sym one ∙ c.if-id.false ∙ other))

pub returns-in_err-only_in-clause-memory : goal.returns-in_err-only_in-clause-memory
returns-in_err-only_in-clause-memory c =
    let r = c.args.reader.now in
    let one = c.id.ensures ∙ ap (λ (x : ReadingValue). x.id) c.in_ok-earlier.ensures.read ∙ id_read r c.args.kind c.args.before.now in
    let other = c.id-2.ensures ∙ ap (λ (x : ReadingValue). x.id) c.in_ok-later.ensures.read ∙ id_read r c.args.kind c.args.now.now in
    each_error _ _ _ (same_ids r.descriptor c.args.kind c.args.before.now c.args.now.now c.in_ok-earlier.ensures.taken c.in_ok-later.ensures.taken
    (sym one ∙ c.if-id.false ∙ other))

pub returns-in_err-only_in-2-clause-memory : goal.returns-in_err-only_in-2-clause-memory
returns-in_err-only_in-2-clause-memory c =
    let r = c.args.reader.now in
    let one = c.id.ensures ∙ ap (λ (x : ReadingValue). x.id) c.in_ok-earlier.ensures.read ∙ id_read r c.args.kind c.args.before.now in
    let other = c.id-2.ensures ∙ ap (λ (x : ReadingValue). x.id) c.in_ok-later.ensures.read ∙ id_read r c.args.kind c.args.now.now in
    each_error _ _ _ (same_ids r.descriptor c.args.kind c.args.before.now c.args.now.now c.in_ok-earlier.ensures.taken c.in_ok-later.ensures.taken
    (sym one ∙ c.if-id.false ∙ other))

pub returns-in_err-were-clause-wanted : goal.returns-in_err-were-clause-wanted
returns-in_err-were-clause-wanted c =
    let r = c.args.reader.now in
    let p = err_from_is_err_and c.from_residual-in_err-were.result c.from_residual-in_err-were.ensures.1 in
    rw (p.1, p.2) (λ m. left_some (on_in r c.args.kind c.args.before.now) (on_in r c.args.kind c.args.now.now) (c.in_err-were.ensures.wanted m))

pub returns-in_err-are-clause-wanted : goal.returns-in_err-are-clause-wanted
returns-in_err-are-clause-wanted c =
    let r = c.args.reader.now in
    let p = err_from_is_err_and c.from_residual-in_err-are.result c.from_residual-in_err-are.ensures.1 in
    rw (p.1, p.2) (λ m. right_some (on_in r c.args.kind c.args.before.now) (on_in r c.args.kind c.args.now.now) (c.in_err-are.ensures.wanted m))

pub returns-in_err-only_in-clause-wanted : goal.returns-in_err-only_in-clause-wanted
returns-in_err-only_in-clause-wanted c =
    let r = c.args.reader.now in
    each_error _ _ _ (right_some (on_in r c.args.kind c.args.before.now) (on_in r c.args.kind c.args.now.now)
    (rising_some (on_in r c.args.kind c.args.now.now) c.in_ok-are.are.items c.in_ok-are.ensures.pressed (rw c.deref.ensures.value at c.in_err-only_in.ensures.refused)))

pub returns-in_err-only_in-2-clause-wanted : goal.returns-in_err-only_in-2-clause-wanted
returns-in_err-only_in-2-clause-wanted c =
    let r = c.args.reader.now in
    each_error _ _ _ (left_some (on_in r c.args.kind c.args.before.now) (on_in r c.args.kind c.args.now.now)
    (rising_some (on_in r c.args.kind c.args.before.now) c.in_ok-were.were.items c.in_ok-were.ensures.pressed (rw c.deref-3.ensures.value at c.in_err-only_in-2.ensures.refused)))
