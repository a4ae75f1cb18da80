use Rattle.std.proofs.Common.{◌≡◌, ◌∙◌, ◌≤◌, ◌<◌, ◌+◌, ◌*◌, ℕ, List, sym, ap, refl, arith, get_or, true, false, subst}
use Rattle.settings_log.specs.Words.{data_words}
use Rattle.settings_log.specs.Values.{bytes_behind}
use Rattle.settings_log.specs.representation.Here.{SameTo}
use Rattle.settings_log.proofs.Lookup.{three_of, same_more, same_all, word_held}
use Rattle.settings_log.proofs.store.has_bytes.Goals as goal

pub loop-at-init : goal.loop-at-init
loop-at-init g c k a b = absurd (omega (arith, a))

pub returns-then-not-has_three : goal.returns-then-not-has_three
returns-then-not-has_three g c =
    let image = g.F.NorFlash.image c.args.flash.now in
    let few : c.loop-at.at < data_words c.args.head.len = omega (arith, c.loop-at-test.true, c.data_words-words.ensures.words) in
    let e = sym (c.word_in.ensures (c.requires.words c.loop-at.at few).0) ∙ c.in-Some.is in (
      (λ t. absurd (let f : false ≡ true = t in cc)),
      (λ same. absurd (
          let t = c.has_three.ensures.1 (λ k a b. three_of image c.args.place.page c.args.place.slot c.args.head.len c.args.bytes.now c.requires.length c.requires.words c.loop-at.at c.in-Some.word few e same k a b
          ∙ ap (λ (bs : List ℕ). get_or bs k 0) (sym c.word_bytes.ensures)) in
          let f : c.has_three.result ≡ false = c.if-not-has_three.true in cc)),
    )

pub returns-in-None : goal.returns-in-None
returns-in-None g c =
    let image = g.F.NorFlash.image c.args.flash.now in
    let few : c.loop-at.at < data_words c.args.head.len = omega (arith, c.loop-at-test.true, c.data_words-words.ensures.words) in
    absurd (word_held image c.args.place.page (c.args.place.slot + 1) (data_words c.args.head.len) c.loop-at.at c.requires.words few
    (sym (c.word_in.ensures (c.requires.words c.loop-at.at few).0) ∙ c.in-None.is))

pub loop-at-preserved : goal.loop-at-preserved
loop-at-preserved g c =
    let image = g.F.NorFlash.image c.args.flash.now in
    let few : c.loop-at.at < data_words c.args.head.len = omega (arith, c.loop-at-test.true, c.data_words-words.ensures.words) in
    let e = sym (c.word_in.ensures (c.requires.words c.loop-at.at few).0) ∙ c.in-Some.is in
    let P : ℕ → ℕ → Type 0 = λ n m. SameTo (bytes_behind image c.args.place.page c.args.place.slot n) c.args.bytes.now m in
    subst (λ (n : ℕ). P n (3 * (c.loop-at.at + 1))) (sym c.data_words-words.ensures.words)
    (same_more image c.args.place.page c.args.place.slot c.args.head.len c.args.bytes.now c.requires.length c.requires.words c.loop-at.at c.in-Some.word few e
    (λ k a b. c.has_three.ensures.0 c.if-not-has_three.false k a b ∙ ap (λ (bs : List ℕ). get_or bs k 0) c.word_bytes.ensures)
    (subst (λ (n : ℕ). P n (3 * c.loop-at.at)) c.data_words-words.ensures.words c.loop-at.invariant))

pub returns : goal.returns
returns g c =
    let image = g.F.NorFlash.image c.args.flash.now in
    let all : data_words c.args.head.len ≤ c.loop-at.at = omega (arith, c.loop-at-test.false, c.data_words-words.ensures.words) in
    let P : ℕ → Type 0 = λ n. SameTo (bytes_behind image c.args.place.page c.args.place.slot n) c.args.bytes.now (3 * c.loop-at.at) in (
      (λ t. same_all image c.args.place.page c.args.place.slot c.args.head.len c.args.bytes.now c.requires.length c.requires.words c.loop-at.at all
          (subst P c.data_words-words.ensures.words c.loop-at.invariant)),
      (λ same. refl),
    )
