use Rattle.std.proofs.Common.{All, ◌≡◌, ◌++◌, true}
use Rattle.page_turnover.specs.Words.{words}
use Rattle.settings.specs.Words.{is_known}
use Rattle.settings.proofs.lookup.all_known.Given as goal

abbrev pub invariant-loop-word : goal.invariant-loop-word
invariant-loop-word g l = All (λ word. is_known word ≡ true) l.yielded × (l.yielded ++ l.word-iterator ≡ words (g.F.NorFlash.image l.flash))
