use Rattle.layers.proofs.EntryCodes.{entry_in-is_code}
use Rattle.layers.proofs.theorems.entries_are_codes.Goals as goal

pub returns : goal.returns
returns c defaults format words layer key l = entry_in-is_code defaults format words layer key l
