use Rattle.std.proofs.Common.{◌≡◌, refl, List, [], ◌∷◌, true, length}
use Rattle.descriptor_parse.specs.Items.{ItemValue, items_at, first_items}
use Rattle.descriptor_parse.specs.Faults.{all_items, shows, fault_at}
use Rattle.descriptor_parse.specs.Tags.{tag_of}
use Rattle.descriptor_parse.specs.Globals.{signed, in_force}
use Rattle.descriptor_parse.specs.Locals.{usages_since_main, unpaired}
use Rattle.descriptor_parse.specs.Fields.{fields, field_usages, report_bits, has_bare_data}
use Rattle.descriptor_build.specs.Served.{report_bytes}
use Rattle.world.specs.DescriptorFields.{served_fields, served_usages}
use Rattle.host.specs.Faultless.{all_clean, is_faultless}

unfoldable pub served_items : List ItemValue
served_items =
    record { offset = 98; prefix = 192; bytes = [] } ∷
    record { offset = 96; prefix = 177; bytes = 2 ∷ [] } ∷
    record { offset = 94; prefix = 149; bytes = 5 ∷ [] } ∷
    record { offset = 92; prefix = 117; bytes = 8 ∷ [] } ∷
    record { offset = 89; prefix = 38; bytes = 255 ∷ 0 ∷ [] } ∷
    record { offset = 87; prefix = 21; bytes = 0 ∷ [] } ∷
    record { offset = 85; prefix = 9; bytes = 2 ∷ [] } ∷
    record { offset = 83; prefix = 133; bytes = 3 ∷ [] } ∷
    record { offset = 81; prefix = 161; bytes = 1 ∷ [] } ∷
    record { offset = 79; prefix = 9; bytes = 1 ∷ [] } ∷
    record { offset = 76; prefix = 6; bytes = 0 ∷ 255 ∷ [] } ∷
    record { offset = 75; prefix = 192; bytes = [] } ∷
    record { offset = 73; prefix = 129; bytes = 0 ∷ [] } ∷
    record { offset = 71; prefix = 149; bytes = 4 ∷ [] } ∷
    record { offset = 69; prefix = 117; bytes = 16 ∷ [] } ∷
    record { offset = 66; prefix = 42; bytes = 255 ∷ 3 ∷ [] } ∷
    record { offset = 64; prefix = 25; bytes = 0 ∷ [] } ∷
    record { offset = 61; prefix = 38; bytes = 255 ∷ 3 ∷ [] } ∷
    record { offset = 59; prefix = 21; bytes = 0 ∷ [] } ∷
    record { offset = 57; prefix = 133; bytes = 2 ∷ [] } ∷
    record { offset = 55; prefix = 161; bytes = 1 ∷ [] } ∷
    record { offset = 53; prefix = 9; bytes = 1 ∷ [] } ∷
    record { offset = 51; prefix = 5; bytes = 12 ∷ [] } ∷
    record { offset = 50; prefix = 192; bytes = [] } ∷
    record { offset = 48; prefix = 145; bytes = 3 ∷ [] } ∷
    record { offset = 46; prefix = 149; bytes = 3 ∷ [] } ∷
    record { offset = 44; prefix = 145; bytes = 2 ∷ [] } ∷
    record { offset = 42; prefix = 149; bytes = 5 ∷ [] } ∷
    record { offset = 40; prefix = 41; bytes = 5 ∷ [] } ∷
    record { offset = 38; prefix = 25; bytes = 1 ∷ [] } ∷
    record { offset = 36; prefix = 5; bytes = 8 ∷ [] } ∷
    record { offset = 34; prefix = 129; bytes = 3 ∷ [] } ∷
    record { offset = 32; prefix = 149; bytes = 7 ∷ [] } ∷
    record { offset = 30; prefix = 129; bytes = 2 ∷ [] } ∷
    record { offset = 28; prefix = 149; bytes = 161 ∷ [] } ∷
    record { offset = 26; prefix = 41; bytes = 164 ∷ [] } ∷
    record { offset = 24; prefix = 25; bytes = 4 ∷ [] } ∷
    record { offset = 22; prefix = 129; bytes = 2 ∷ [] } ∷
    record { offset = 20; prefix = 149; bytes = 8 ∷ [] } ∷
    record { offset = 18; prefix = 117; bytes = 1 ∷ [] } ∷
    record { offset = 16; prefix = 37; bytes = 1 ∷ [] } ∷
    record { offset = 14; prefix = 21; bytes = 0 ∷ [] } ∷
    record { offset = 12; prefix = 41; bytes = 231 ∷ [] } ∷
    record { offset = 10; prefix = 25; bytes = 224 ∷ [] } ∷
    record { offset = 8; prefix = 5; bytes = 7 ∷ [] } ∷
    record { offset = 6; prefix = 133; bytes = 1 ∷ [] } ∷
    record { offset = 4; prefix = 161; bytes = 1 ∷ [] } ∷
    record { offset = 2; prefix = 9; bytes = 6 ∷ [] } ∷
    record { offset = 0; prefix = 5; bytes = 1 ∷ [] } ∷
    []

pub served-items : all_items report_bytes ≡ served_items
unfolding all_items items_at first_items served_items
served-items = refl

pub served-fields : fields served_items ≡ served_fields
unfolding fields served_items served_fields tag_of signed in_force report_bits
served-fields = refl

pub served-usages : field_usages served_items ≡ served_usages
unfolding field_usages served_items served_usages tag_of signed in_force usages_since_main
served-usages = refl

pub served-faultless : is_faultless report_bytes ≡ true
unfolding is_faultless all_clean all_items items_at first_items fault_at shows tag_of signed in_force report_bits unpaired usages_since_main fields has_bare_data
served-faultless = refl

pub served-length : length report_bytes ≡ 99
served-length = refl
