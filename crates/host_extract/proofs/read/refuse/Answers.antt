use Rattle.host_extract.proofs.RefusalLemmas.{refused-empty, refused-short, long-enough, refused-unknown, nothing-declared}
use Rattle.host_extract.proofs.read.refuse.Goals as goal

pub returns-then-is_empty-clause-refusal : goal.returns-then-is_empty-clause-refusal
returns-then-is_empty-clause-refusal c = refused-empty c.args.descriptor.now c.args.report.now c.if-is_empty.ensures

pub returns-in-Some-clause-refusal : goal.returns-in-Some-clause-refusal
returns-in-Some-clause-refusal c =
    refused-short c.args.descriptor.now c.args.report.now c.split_id-id.result.0 c.in-Some.len c.if-is_empty.ensures c.split_id-id.ensures.id c.in-Some.ensures c.if-report-len.true

pub returns-in-None-clause-refusal : goal.returns-in-None-clause-refusal
returns-in-None-clause-refusal c =
    refused-unknown c.args.descriptor.now c.args.report.now c.split_id-id.result.0 c.if-is_empty.ensures c.split_id-id.ensures.id c.in-None.ensures c.if-uses_ids.ensures

pub returns-in_default-clause-refusal : goal.returns-in_default-clause-refusal
returns-in_default-clause-refusal c =
    long-enough c.args.descriptor.now c.args.report.now c.split_id-id.result.0 c.in-Some.len c.if-is_empty.ensures c.split_id-id.ensures.id c.in-Some.ensures c.if-report-len.false

pub returns-in_default-2-clause-refusal : goal.returns-in_default-2-clause-refusal
returns-in_default-2-clause-refusal c =
    nothing-declared c.args.descriptor.now c.args.report.now c.split_id-id.result.0 c.if-is_empty.ensures c.split_id-id.ensures.id c.in-None.ensures c.if-uses_ids.ensures
