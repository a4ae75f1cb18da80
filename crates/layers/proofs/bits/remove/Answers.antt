use Rattle.layers.proofs.BitSets.{has_bit-cleared_word}
use Rattle.layers.proofs.bits.remove.Goals as goal

pub returns : goal.returns
returns c other = has_bit-cleared_word c.args.words.now c.args.number other c.requires
