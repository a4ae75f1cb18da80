use Rattle.std.proofs.lemmas.Bool.{iff_false}
use Rattle.settings.proofs.Packing.{some_words}
use Rattle.settings.proofs.Turning.{turning, offered_before, word_inside, can_take, offered_word, offered_seal}
use Rattle.settings.proofs.store.Settings.offer_next.Goals as goal

pub returns-then-not-wants : goal.returns-then-not-wants
returns-then-not-wants g c =
    rw (← c.self.view_is) (offered_before (g.F.NorFlash.image c.args.flash.now) c.args.changes.now _ c.args.from c.args.at (rw (← c.self.view_is) at c.requires.refines) (rw (← c.self.view_is) at c.requires.job) (iff_false c.wants.ensures c.if-not-wants.true))

pub word_at-requires : goal.word_at-requires
word_at-requires g c =
    let s = rw (← c.self.view_is) at c.requires.refines in
    let j = turning (g.F.NorFlash.image c.args.flash.now) c.args.changes.now _ c.args.from c.args.at s (rw (← c.self.view_is) at c.requires.job) in
    word_inside (g.F.NorFlash.image c.args.flash.now) c.args.changes.now _ c.args.from c.args.at c.in-Some.change j c.in-Some.ensures (some_words c.in-Some.change)

pub behind-self-inside-requires : goal.behind-self-inside-requires
behind-self-inside-requires g c =
    let s = rw (← c.self.view_is) at c.requires.refines in
    let j = turning (g.F.NorFlash.image c.args.flash.now) c.args.changes.now _ c.args.from c.args.at s (rw (← c.self.view_is) at c.requires.job) in
    word_inside (g.F.NorFlash.image c.args.flash.now) c.args.changes.now _ c.args.from c.args.at c.in-Some.change j c.in-Some.ensures (some_words c.in-Some.change)

pub offer_copy-requires : goal.offer_copy-requires
offer_copy-requires g c =
    let s = rw (← c.self.view_is) at c.requires.refines in
    let j = turning (g.F.NorFlash.image c.args.flash.now) c.args.changes.now _ c.args.from c.args.at s (rw (← c.self.view_is) at c.requires.job) in
    let l = word_inside (g.F.NorFlash.image c.args.flash.now) c.args.changes.now _ c.args.from c.args.at c.in-Some.change j c.in-Some.ensures (some_words c.in-Some.change) in
    can_take (g.F.NorFlash.image c.args.flash.now) c.args.changes.now _ c.args.from c.args.at c.in-Some.change j s.log_is (c.wants.ensures.0 c.if-not-wants.false) c.in-Some.ensures l

pub returns-in-Some : goal.returns-in-Some
returns-in-Some g c =
    let image = g.F.NorFlash.image c.args.flash.now in
    let s = rw (← c.self.view_is) at c.requires.refines in
    let j = turning image c.args.changes.now _ c.args.from c.args.at s (rw (← c.self.view_is) at c.requires.job) in
    let l = word_inside image c.args.changes.now _ c.args.from c.args.at c.in-Some.change j c.in-Some.ensures (some_words c.in-Some.change) in
    rw (← c.self.view_is) (offered_word image c.args.changes.now _ _ c.args.from c.args.at c.word_at.result c.in-Some.change j (c.wants.ensures.0 c.if-not-wants.false) (c.offer_copy.ensures.describes image s.log_is) c.offer_copy.ensures.pending
    c.in-Some.ensures l c.word_at.ensures.word c.word_at.ensures.small c.behind-self-inside.ensures.more c.behind-self-inside.ensures.last)

pub returns-in-None : goal.returns-in-None
returns-in-None g c =
    let image = g.F.NorFlash.image c.args.flash.now in
    let s = rw (← c.self.view_is) at c.requires.refines in
    let e = rw (← c.self.view_is) at c.requires.job in
    let j = turning image c.args.changes.now _ c.args.from c.args.at s e in
    rw (← c.self.view_is) (offered_seal image c.args.changes.now _ _ c.args.from c.args.at j (c.wants.ensures.0 c.if-not-wants.false) (c.seal.ensures.describes image s.log_is) c.seal.ensures.pending e c.in-None.ensures)
