use Rattle.std.proofs.Common.{◌∷◌, ◌++◌, subst}
use Rattle.usb_device.specs.declared.whole_transfers.Status.{Status}
use Rattle.usb_device.specs.representation.Whole.{Gives}
use Rattle.usb_device.specs.Calls.{SetUp}
use Rattle.usb_device.proofs.Wholes.{whole, put_off_data, refused_data}
use Rattle.usb_device.proofs.whole_transfers.write.Goals as goal

pub returns-in-Done : goal.returns-in-Done
returns-in-Done g c = λ past s.
    let t = c.give.ensures (SetUp c.args.setup ∷ past) (c.setup.ensures.refines past s) in
    let f = c.confirm.ensures (t.0 ++ SetUp c.args.setup ∷ past) t.1 in
    let P : Status → Type 0 = λ x. Gives x c.args.bytes.now t.0 in
    whole g.E.Endpoints.refines g.E.Works.works c.confirm.new.device c.args.steps c.args.setup c.args.bytes.now past t.0 f.0 c.confirm.result (subst P c.in-Done.is t.2) f.1 f.2 f.3

pub returns-in-Waits : goal.returns-in-Waits
returns-in-Waits g c = λ past s.
    let t = c.give.ensures (SetUp c.args.setup ∷ past) (c.setup.ensures.refines past s) in
    let P : Status → Type 0 = λ x. Gives x c.args.bytes.now t.0 in
    put_off_data g.E.Endpoints.refines g.E.Works.works c.give.new.device c.args.steps c.args.setup c.args.bytes.now past t.0 (subst P c.in-Waits.is t.2) t.1

pub returns-in-Refuses : goal.returns-in-Refuses
returns-in-Refuses g c = λ past s.
    let t = c.give.ensures (SetUp c.args.setup ∷ past) (c.setup.ensures.refines past s) in
    let P : Status → Type 0 = λ x. Gives x c.args.bytes.now t.0 in
    refused_data g.E.Endpoints.refines g.E.Works.works c.give.new.device c.args.steps c.args.setup c.args.bytes.now past t.0 (subst P c.in-Refuses.is t.2) t.1
