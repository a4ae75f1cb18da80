use Rattle.std.proofs.Common.{◌∙◌, refl}
use Rattle.reports.specs.representation.Words.{first_bytes}
use Rattle.control_ep.proofs.data.ReadData.lend.Goals as goal

pub returns-in-Device : goal.returns-in-Device
unfolding first_bytes
returns-in-Device c = rw c.in-Device.is (c.lend_words.ensures ∙ refl)

pub returns-in-Configuration : goal.returns-in-Configuration
unfolding first_bytes
returns-in-Configuration c = rw c.in-Configuration.is (c.lend_words-in-Configuration.ensures ∙ refl)

pub returns-in-Hid : goal.returns-in-Hid
unfolding first_bytes
returns-in-Hid c = rw c.in-Hid.is (c.lend_words-in-Hid.ensures ∙ refl)

pub returns-in-Report : goal.returns-in-Report
unfolding first_bytes
returns-in-Report c = rw c.in-Report.is (c.lend_words-in-Report.ensures ∙ refl)
