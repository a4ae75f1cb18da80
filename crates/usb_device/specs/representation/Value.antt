-- Representation: what the device layer's own types refine.
use Rattle.std.specs.Prelude.{ℕ, List, Option, Some, None}
use Rattle.usb_device.specs.declared.device_layer.Stage as Kept
use Rattle.usb_device.specs.declared.request.Request.{Request}
use Rattle.usb_device.specs.declared.request.Served as KeptServed
use Rattle.usb_device.specs.declared.descriptors.Descriptors.{Descriptors}
use Rattle.usb_device.specs.declared.descriptors.Data as KeptData
use Rattle.usb_device.specs.Strings.{string_descriptor}
use Rattle.usb_device.specs.Requests.{SetupFields, Lent, Served, Reads, Sets}
use Rattle.usb_device.specs.Steps.{Stage, Theirs, Sending, Status, Over}

abbrev pub fields_view : Request → SetupFields
fields_view r = record { kind = r.kind; code = r.code; value = r.value; index = r.index; size = r.length }

abbrev pub lent_view : Descriptors → Lent
lent_view d = record {
  device = d.device.now;
  configuration = d.configuration.now;
  hid = d.hid.now;
  manufacturer = d.manufacturer.now;
  product = d.product.now;
  serial_number = d.serial_number.now;
}

abbrev pub data_bytes : KeptData.Data → List ℕ
data_bytes (KeptData.TheVariants.Lent bytes) = bytes.now
data_bytes (KeptData.TheVariants.Text text) = string_descriptor text.now
data_bytes (KeptData.TheVariants.Copied bytes) = bytes.items

abbrev pub served_view : KeptServed.Served → Served
served_view (KeptServed.TheVariants.Reads bytes) = Reads (data_bytes bytes)
served_view (KeptServed.TheVariants.Sets change) = Sets change

abbrev pub begun_view : Option KeptServed.Served → Option Served
begun_view (Some served) = Some (served_view served)
begun_view None = None

abbrev pub stage_view : Kept.Stage → Stage
stage_view Kept.TheVariants.Theirs = Theirs
stage_view (Kept.TheVariants.Sending read) = Sending (data_bytes read.bytes) read.asked read.sent
stage_view (Kept.TheVariants.Status change) = Status change
stage_view Kept.TheVariants.Over = Over
