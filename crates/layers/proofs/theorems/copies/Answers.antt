use Rattle.layers.proofs.Copying.{AreCopies-start, AreCopies-next, AreCopies-end, AreCopies-length, entry-copies}
use Rattle.layers.proofs.theorems.copies.Goals as goal

pub returns-clause-start : goal.returns-clause-start
returns-clause-start c defaults entries = AreCopies-start defaults entries

pub returns-clause-next : goal.returns-clause-next
returns-clause-next c defaults entries from place command words a n is = AreCopies-next defaults entries from place command words a n is

pub returns-clause-end : goal.returns-clause-end
returns-clause-end c defaults entries from words l a d = AreCopies-end defaults entries from words l a d

pub returns-clause-same_entries : goal.returns-clause-same_entries
returns-clause-same_entries c defaults entries words layer key a l k = entry-copies defaults entries words layer key a l k

pub returns-clause-count : goal.returns-clause-count
returns-clause-count c defaults entries place words a = AreCopies-length defaults entries place words a
