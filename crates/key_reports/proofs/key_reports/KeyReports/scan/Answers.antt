use Rattle.std.proofs.Common.{refl}
use Rattle.key_reports.proofs.Standing.{refines-passed, fed-refines}
use Rattle.key_reports.proofs.Tabled.{table-alone}
use Rattle.key_reports.proofs.key_reports.KeyReports.scan.Goals as goal

pub returns-then-is_empty-clause-refines : goal.returns-then-is_empty-clause-refines
returns-then-is_empty-clause-refines g c past s =
    refines-passed past c.args.scan c.feed-flips.result c.args.keymap.now c.args.protocol (record { debouncer = c.self.inside.matrix; held = c.self.inside.held; poller = c.self.inside.poller })
    (record { debouncer = c.feed-flips.new.self; held = c.self.inside.held; poller = c.pass.new.self })
    (record {
      fed = c.feed-flips.ensures.refines;
      flips_are = c.feed-flips.ensures.flips;
      none = c.is_empty.ensures c.if-is_empty.true;
      held = refl;
      ticks = c.pass.ensures.refines;
      made = c.pass.ensures.made;
    })
    (rw c.self.view_is s)

pub returns-then-is_empty-clause-entries : goal.returns-then-is_empty-clause-entries
returns-then-is_empty-clause-entries g c past entries h s = rw (← table-alone entries c.args.keymap.now h) (returns-then-is_empty-clause-refines g c past s)

pub returns-else-is_empty-clause-refines : goal.returns-else-is_empty-clause-refines
returns-else-is_empty-clause-refines g c past s =
    c.take.ensures past c.args.scan
    (fed-refines past c.args.scan c.feed-flips.result _ c.feed-flips.new.self c.feed-flips.ensures.refines c.feed-flips.ensures.flips (rw c.self.view_is s))

pub returns-else-is_empty-clause-entries : goal.returns-else-is_empty-clause-entries
returns-else-is_empty-clause-entries g c past entries h s = rw (← table-alone entries c.args.keymap.now h) (returns-else-is_empty-clause-refines g c past s)
