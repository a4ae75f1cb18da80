use Rattle.layers.proofs.HeldKeys.{code-press_new, code-press_held, code-press_other, code-release_same, code-release_other}
use Rattle.layers.proofs.theorems.fixed_at_press.Goals as goal

pub returns-clause-pressed : goal.returns-clause-pressed
returns-clause-pressed c past keymap key e = code-press_new past keymap key e

pub returns-clause-stays : goal.returns-clause-stays
returns-clause-stays c past keymap key other is e = code-press_held past keymap key other is e

pub returns-clause-released : goal.returns-clause-released
returns-clause-released c past key = code-release_same past key

pub returns-clause-others_pressed : goal.returns-clause-others_pressed
returns-clause-others_pressed c past keymap key other d = code-press_other past keymap key other d

pub returns-clause-others_released : goal.returns-clause-others_released
returns-clause-others_released c past key other d = code-release_other past key other d
