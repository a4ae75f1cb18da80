use Rattle.control_ep.proofs.Left.{eight_is}
use Rattle.control_ep.proofs.data.eight_at.Goals as goal

pub returns : goal.returns
returns c = rw (c.four.ensures, c.four-2.ensures) (eight_is c.args.words.now c.args.place)
