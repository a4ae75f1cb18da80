use Rattle.std.proofs.Common.{◌≡◌, ◌∙◌, ◌+◌, ◌^◌, sym, arith, length, ap, List, ℕ, ◌++◌, refl}
use Rattle.std.proofs.lemmas.List.{length-append}
use Rattle.settings.specs.Settings.{changed}
use Rattle.settings.specs.Words.{words_of}
use Rattle.settings.specs.Copies.{copies_below}
use Rattle.settings.proofs.Naming.{copies_next, copies_gap, copies_grow, copies_none}
use Rattle.settings.proofs.lookup.words_alive.Goals as goal

pub loop-from-init : goal.loop-from-init
loop-from-init g c = (omega arith, copies_none (changed (g.F.NorFlash.image c.args.flash.now) c.args.changes.now))

pub loop-from-preserved : goal.loop-from-preserved
loop-from-preserved g c =
    let values = changed (g.F.NorFlash.image c.args.flash.now) c.args.changes.now in
    let n = c.in-Some.ensures in
    let i : c.from-from.result ≡ c.in-Some.change.id = c.from-from.ensures in
    let k : length (copies_below values c.loop-from.from ++ words_of c.in-Some.change) ≡ length (copies_below values c.loop-from.from) + length (words_of c.in-Some.change) = length-append (copies_below values c.loop-from.from) (words_of c.in-Some.change) in
    let s : c.loop-from.sum ≡ length (copies_below values c.loop-from.from) = c.loop-from.invariant.1 in (
      omega (arith, i, n.small),
      rw (i, copies_next values c.loop-from.from c.in-Some.change n, k, s, c.size.ensures.words) refl,
    )

pub returns-in-None-clause-exact : goal.returns-in-None-clause-exact
returns-in-None-clause-exact g c few =
    let values = changed (g.F.NorFlash.image c.args.flash.now) c.args.changes.now in
    c.loop-from.invariant.1 ∙ sym (ap (λ (ws : List ℕ). length ws) (copies_gap values c.loop-from.from (2 ^ 16) c.loop-from.invariant.0 c.in-None.ensures))

pub returns-else-sum-clause-beyond : goal.returns-else-sum-clause-beyond
returns-else-sum-clause-beyond g c many =
    let values = changed (g.F.NorFlash.image c.args.flash.now) c.args.changes.now in
    let grown = copies_grow values c.loop-from.from (2 ^ 16) c.loop-from.invariant.0 in
    omega (arith, many, c.loop-from.invariant.1, grown)
