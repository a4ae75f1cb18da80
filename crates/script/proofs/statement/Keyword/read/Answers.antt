use Rattle.std.proofs.Common.{◌≢◌, arith}
use Rattle.script.specs.Statements.{spelling}
use Rattle.script.specs.declared.statement.Keyword.TheVariants as keyword
use Rattle.script.proofs.statement.Keyword.read.Goals as goal

pub returns : goal.returns
returns c = λ k. elim k as (λ k. spelling k ≢ c.args.word.now) [
  | keyword.Scan ↦ c.loop-keyword.invariant 0 (omega arith)
  | keyword.Scans ↦ c.loop-keyword.invariant 1 (omega arith)
  | keyword.Poll ↦ c.loop-keyword.invariant 2 (omega arith)
  | keyword.Setup ↦ c.loop-keyword.invariant 3 (omega arith)
  | keyword.Out ↦ c.loop-keyword.invariant 4 (omega arith)
  | keyword.In ↦ c.loop-keyword.invariant 5 (omega arith)
  | keyword.Work ↦ c.loop-keyword.invariant 6 (omega arith)
  | keyword.WorkFault ↦ c.loop-keyword.invariant 7 (omega arith)
  | keyword.Cut ↦ c.loop-keyword.invariant 8 (omega arith)
  | keyword.CutWork ↦ c.loop-keyword.invariant 9 (omega arith)
  | keyword.Reset ↦ c.loop-keyword.invariant 10 (omega arith)
  | keyword.Entry ↦ c.loop-keyword.invariant 11 (omega arith)
  | keyword.Slot ↦ c.loop-keyword.invariant 12 (omega arith)
  | keyword.Leds ↦ c.loop-keyword.invariant 13 (omega arith)
  | keyword.Set ↦ c.loop-keyword.invariant 14 (omega arith)
  | keyword.Fetch ↦ c.loop-keyword.invariant 15 (omega arith)
]
