use Rattle.std.proofs.Common.{vec_len, ◌-◌}
use Rattle.text_io.proofs.ReadLemmas.{ReadSoFar}
use Rattle.text_io.proofs.read.read_whole.Given as goal

abbrev pub invariant-loop-count : goal.invariant-loop-count
invariant-loop-count g l = ReadSoFar l.most (g.R.Read.remaining l.fn.reader) (g.R.Read.remaining l.reader) l.text.items

abbrev pub decreases-loop-count : goal.decreases-loop-count
decreases-loop-count g l = l.most - vec_len l.text
