use Rattle.acceptance.proofs.surface.keyboards.Goals as goal

-- each call before leaves a keyboard that runs on the flash it started on
pub work-work-requires : goal.work-work-requires
work-work-requires g c = c.bus_reset.ensures.runs_on _ (c.poll-sent.ensures.runs_on _ (c.in_packet-in.ensures.runs_on _ (c.out-out.ensures.runs_on _ (c.setup.ensures.runs_on _ (c.scan.ensures.runs_on _ c.in_ok-keyboard.ensures.runs_on)))))
