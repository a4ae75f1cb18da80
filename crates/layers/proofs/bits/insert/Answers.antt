use Rattle.layers.proofs.BitSets.{has_bit-set_word}
use Rattle.layers.proofs.bits.insert.Goals as goal

pub returns : goal.returns
returns c other = has_bit-set_word c.args.words.now c.args.number other c.requires
