use Rattle.std.proofs.Common.{arith}
use Rattle.reports.proofs.InWords.{differ, kind_decides, SameWords}
use Rattle.reports.proofs.input_report.InputReport.is_same.Goals as goal

pub returns-then-a-g : goal.returns-then-a-g
returns-then-a-g c =
    rw (← c.self.view_is, ← c.other.view_is)
    (differ c.self.inside.input c.other.inside.input c.self.inside.words c.other.inside.words 0 c.self.invariant c.other.invariant (omega arith) (omega arith) (omega arith) c.if-a-g.true)

pub returns-then-b-h : goal.returns-then-b-h
returns-then-b-h c =
    rw (← c.self.view_is, ← c.other.view_is)
    (differ c.self.inside.input c.other.inside.input c.self.inside.words c.other.inside.words 1 c.self.invariant c.other.invariant (omega arith) (omega arith) (omega arith) c.if-b-h.true)

pub returns-then-c-i : goal.returns-then-c-i
returns-then-c-i c =
    rw (← c.self.view_is, ← c.other.view_is)
    (differ c.self.inside.input c.other.inside.input c.self.inside.words c.other.inside.words 2 c.self.invariant c.other.invariant (omega arith) (omega arith) (omega arith) c.if-c-i.true)

pub returns-then-d-j : goal.returns-then-d-j
returns-then-d-j c =
    rw (← c.self.view_is, ← c.other.view_is)
    (differ c.self.inside.input c.other.inside.input c.self.inside.words c.other.inside.words 3 c.self.invariant c.other.invariant (omega arith) (omega arith) (omega arith) c.if-d-j.true)

pub returns-then-e-k : goal.returns-then-e-k
returns-then-e-k c =
    rw (← c.self.view_is, ← c.other.view_is)
    (differ c.self.inside.input c.other.inside.input c.self.inside.words c.other.inside.words 4 c.self.invariant c.other.invariant (omega arith) (omega arith) (omega arith) c.if-e-k.true)

pub returns-then-f-l : goal.returns-then-f-l
returns-then-f-l c =
    rw (← c.self.view_is, ← c.other.view_is)
    (differ c.self.inside.input c.other.inside.input c.self.inside.words c.other.inside.words 5 c.self.invariant c.other.invariant (omega arith) (omega arith) (omega arith) c.if-f-l.true)

pub returns : goal.returns
returns c =
    let same : SameWords c.self.inside.words c.other.inside.words = record {
      w0 = c.if-a-g.false;
      w1 = c.if-b-h.false;
      w2 = c.if-c-i.false;
      w3 = c.if-d-j.false;
      w4 = c.if-e-k.false;
      w5 = c.if-f-l.false;
    } in
    rw (← c.self.view_is, ← c.other.view_is)
    (kind_decides c.self.inside.input c.other.inside.input c.self.inside.words c.other.inside.words c.are_one.result c.self.invariant c.other.invariant same c.are_one.ensures.same c.are_one.ensures.is)
