use Rattle.std.proofs.Common.{◌≡◌, refl, true}
use Rattle.descriptor_parse.specs.Items.{items_at, first_items}
use Rattle.descriptor_parse.specs.Faults.{all_items, shows, fault_at}
use Rattle.descriptor_parse.specs.Tags.{tag_of}
use Rattle.descriptor_parse.specs.Globals.{signed, in_force}
use Rattle.descriptor_parse.specs.Locals.{usages_since_main, unpaired}
use Rattle.descriptor_parse.specs.Fields.{fields, field_usages, report_bits, has_bare_data}
use Rattle.host_extract.specs.Boot.{boot_descriptor_bytes}
use Rattle.host.proofs.BootLemmas.{boot_items}
use Rattle.world.specs.DescriptorFields.{boot_fields, boot_usages}
use Rattle.host.specs.Faultless.{all_clean, is_faultless}

pub boot-fields : fields boot_items ≡ boot_fields
unfolding fields boot_items boot_fields tag_of signed in_force report_bits
boot-fields = refl

pub boot-usages : field_usages boot_items ≡ boot_usages
unfolding field_usages boot_items boot_usages tag_of signed in_force usages_since_main
boot-usages = refl

pub boot-faultless : is_faultless boot_descriptor_bytes ≡ true
unfolding is_faultless all_clean all_items items_at first_items boot_descriptor_bytes fault_at shows tag_of signed in_force report_bits unpaired usages_since_main fields has_bare_data
boot-faultless = refl
