use Rattle.std.proofs.Common.{◌≡◌, ◌<◌, ap, arith}
use Rattle.report_read.proofs.Refused.{refused_empty, refused_unknown, refused_short, long_enough, is_reading}
use Rattle.report_read.proofs.reader.ReportReader.read.Goals as goal

pub returns-then-is_empty-clause-refused : goal.returns-then-is_empty-clause-refused
returns-then-is_empty-clause-refused c = refused_empty c.args.self.now.descriptor c.args.kind c.args.report.now c.if-is_empty.ensures

pub returns-then-len-eq0-clause-refused : goal.returns-then-len-eq0-clause-refused
returns-then-len-eq0-clause-refused c =
    let same : c.self.inside.descriptor ≡ c.args.self.now.descriptor = ap (λ r. r.descriptor) c.self.view_is in
    refused_unknown c.args.self.now.descriptor c.args.kind c.args.report.now c.split-id.result.0 c.plan-len.result.0 c.if-is_empty.ensures
    (rw same at c.split-id.ensures.id) c.plan-len.ensures.len c.if-len-eq0.true

pub returns-then-report-len-clause-refused : goal.returns-then-report-len-clause-refused
returns-then-report-len-clause-refused c =
    let same : c.self.inside.descriptor ≡ c.args.self.now.descriptor = ap (λ r. r.descriptor) c.self.view_is in
    let some : 0 < c.plan-len.result.0 = omega (arith, c.if-len-eq0.false) in
    refused_short c.args.self.now.descriptor c.args.kind c.args.report.now c.split-id.result.0 c.plan-len.result.0 c.if-is_empty.ensures
    (rw same at c.split-id.ensures.id) c.plan-len.ensures.len some c.if-report-len.true

pub returns-clause-read : goal.returns-clause-read
returns-clause-read c =
    let same : c.self.inside.descriptor ≡ c.args.self.now.descriptor = ap (λ r. r.descriptor) c.self.view_is in
    let some : 0 < c.plan-len.result.0 = omega (arith, c.if-len-eq0.false) in
    is_reading c.args.self.now c.args.kind c.args.report.now c.split-id.result.1.now c.split_at.result.1.now c.split-id.result.0 c.plan-len.result.0 c.plan-len.result.1.now
    c.new.result (rw same at c.split-id.ensures.id) (rw same at c.split-id.ensures.bytes) c.plan-len.ensures.len c.split_at.ensures.back (c.plan-len.ensures.fields some)
    (rw same at c.new.ensures)

pub returns-clause-taken : goal.returns-clause-taken
returns-clause-taken c =
    let same : c.self.inside.descriptor ≡ c.args.self.now.descriptor = ap (λ r. r.descriptor) c.self.view_is in
    let some : 0 < c.plan-len.result.0 = omega (arith, c.if-len-eq0.false) in
    long_enough c.args.self.now.descriptor c.args.kind c.args.report.now c.split-id.result.0 c.plan-len.result.0 c.if-is_empty.ensures
    (rw same at c.split-id.ensures.id) c.plan-len.ensures.len some c.if-report-len.false
