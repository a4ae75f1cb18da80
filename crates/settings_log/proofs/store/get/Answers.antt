use Rattle.std.proofs.Common.{◌≡◌, ◌∙◌, ◌≤◌, ◌<◌, ◌+◌, ◌*◌, List, length, take, sym, ap, refl, arith, get_or, ℕ}
use Rattle.settings_log.specs.Words.{data_words}
use Rattle.settings_log.specs.Values.{bytes_behind, value_of}
use Rattle.settings_log.proofs.Lookup.{copied_none, copied_more, copied_all, value_length, word_held, read_too_long, read_all}
use Rattle.settings_log.proofs.store.get.Goals as goal

pub returns-then-len-into-clause-value : goal.returns-then-len-into-clause-value
returns-then-len-into-clause-value g c =
    let image = g.F.NorFlash.image c.args.flash.now in
    let s = c.in-Some.ensures.some in
    let long = value_length image c.args.id c.in-Some.place c.in-Some.head s in
    read_too_long (value_of image c.args.id) _ c.args.into.now s.value (omega (arith, long, c.if-len-into.true))

pub loop-at-init : goal.loop-at-init
loop-at-init g c =
    let image = g.F.NorFlash.image c.args.flash.now in
    copied_none (take c.in-Some.head.len (bytes_behind image c.in-Some.place.page c.in-Some.place.slot (data_words c.in-Some.head.len))) c.args.into.now 0 refl

pub returns-in-None-clause-value : goal.returns-in-None-clause-value
returns-in-None-clause-value g c =
    let image = g.F.NorFlash.image c.args.flash.now in
    let s = c.in-Some.ensures.some in
    let few : c.loop-at.at < data_words c.in-Some.head.len = omega (arith, c.loop-at-test.true, c.data_words-at-end.ensures.words) in
    absurd (word_held image c.in-Some.place.page (c.in-Some.place.slot + 1) (data_words c.in-Some.head.len) c.loop-at.at s.words few
    (sym (c.word_in.ensures (s.words c.loop-at.at few).0) ∙ c.in-None.is))

pub loop-at-preserved : goal.loop-at-preserved
loop-at-preserved g c =
    let image = g.F.NorFlash.image c.args.flash.now in
    let s = c.in-Some.ensures.some in
    let few : c.loop-at.at < data_words c.in-Some.head.len = omega (arith, c.loop-at-test.true, c.data_words-at-end.ensures.words) in
    copied_more image c.args.id c.in-Some.place c.in-Some.head c.args.into.now c.loop-at.into c.copy_three.new.into c.loop-at.at c.in-Some-word_in.word s few
    (sym (c.word_in.ensures (s.words c.loop-at.at few).0) ∙ c.in-Some-word_in.is)
    c.loop-at.invariant c.copy_three.ensures.length
    (λ k a b. c.copy_three.ensures.here k a b ∙ ap (λ (bs : List ℕ). get_or bs k 0) c.word_bytes.ensures)
    c.copy_three.ensures.others

pub returns-clause-value : goal.returns-clause-value
returns-clause-value g c =
    let image = g.F.NorFlash.image c.args.flash.now in
    let s = c.in-Some.ensures.some in
    let value = take c.in-Some.head.len (bytes_behind image c.in-Some.place.page c.in-Some.place.slot (data_words c.in-Some.head.len)) in
    let long : length value ≡ c.in-Some.head.len = value_length image c.args.id c.in-Some.place c.in-Some.head s in
    let all : data_words c.in-Some.head.len ≤ c.loop-at.at = omega (arith, c.loop-at-test.false, c.data_words-at-end.ensures.words) in
    read_all (value_of image c.args.id) value c.args.into.now c.loop-at.into c.in-Some.head.len s.value long c.if-len-into.false
    (copied_all value c.args.into.now c.loop-at.into (3 * c.loop-at.at) (omega (arith, long, all)) (omega (arith, long, c.if-len-into.false)) c.loop-at.invariant)
