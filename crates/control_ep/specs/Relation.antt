-- Trusted where this crate is called: the calls of a control endpoint are answered by the tables.
use Rattle.std.specs.Prelude.{◌≡◌, Bool, true, false, List, [], ◌∷◌, IsTrue}
use Rattle.control_ep.specs.declared.answer.OutStep.TheVariants.{Offer}
use Rattle.control_ep.specs.Calls.{EpCall, Setup, Out, Checked, In, Settle, Fail, Reset}
use Rattle.control_ep.specs.Stage.{stage}
use Rattle.control_ep.specs.Answers.{in_answer, in_effect, out_step, checked_answer}

-- the latest call is an OUT packet that was offered
abbrev pub is_offered : List EpCall → Bool
is_offered (Out _ (Offer _) ∷ _) = true
is_offered _ = false

-- the answer of a call is that of the tables, after these calls
abbrev pub IsAnswered : List EpCall → EpCall → Type 0
IsAnswered past (Setup _ _) = Unit {0}
IsAnswered past (Out packet step) = step ≡ out_step (stage past) packet
IsAnswered past (Checked verdict answer) = IsTrue (is_offered past) × (answer ≡ checked_answer verdict)
IsAnswered past (In answer effect) = (answer ≡ in_answer (stage past)) × (effect ≡ in_effect (stage past))
IsAnswered past Settle = Unit {0}
IsAnswered past Fail = Unit {0}
IsAnswered past Reset = Unit {0}

-- each call was answered so
abbrev pub AllAnswered : List EpCall → Type 0
AllAnswered [] = Unit {0}
AllAnswered (call ∷ past) = IsAnswered past call × AllAnswered past
