use Rattle.std.proofs.Common.{[]}
use Rattle.descriptor_parse.proofs.ItemLemmas.{size_pos}
use Rattle.descriptor_parse.proofs.ReadingLemmas.{at_start}
use Rattle.descriptor_parse.proofs.reading.Reading.new.Goals as goal

pub returns : goal.returns
returns c = record {
  at = rw c.new-2.ensures (at_start _ c.new.ensures);
  short = rw c.new-2.ensures (size_pos []);
}
