-- Representation: what is kept of reports.
use Rattle.std.specs.Prelude.{◌≡◌, ℕ, ◌<◌, ◌≤◌, if◌then◌else◌, Bool, List, [], ◌∷◌, ◌++◌, All, map, length, slice_get, unwrap_or, Some}
use Rattle.descriptor_parse.specs.declared.field.Kind.{Kind}
use Rattle.descriptor_parse.specs.declared.field.Kind.TheVariants.{Input, Output, Feature}
use Rattle.descriptor_parse.specs.Descriptor.{DescriptorValue, report_len}
use Rattle.descriptor_parse.specs.Tags.{same_kind}
use Rattle.report_write.specs.Fields.{kept_below, kept_fields}
use Rattle.report_read.specs.declared.lane.Lane.{Lane}
use Rattle.report_read.specs.declared.reader.Plan.{Plan}
use Rattle.report_read.specs.declared.reader.Plans.{Plans}
use Rattle.report_read.specs.representation.Lanes.{IsLane}

abbrev pub plan_on : Kind → Plans → Plan
plan_on Input plans = plans.input
plan_on Output plans = plans.output
plan_on Feature plans = plans.feature

-- the bytes of a report, and its fields, if there is one
pub record IsPlan (d : DescriptorValue) (null_states : List Bool) (kind : Kind) (id : ℕ) (plan : Plan) : Type 0 where
  pub len : plan.len ≡ unwrap_or (report_len d kind id) 0
  pub fields : 0 < plan.len → map (λ lane. lane.kept) plan.lanes.items ≡ kept_fields d null_states kind id
  pub lanes : All (IsLane d) plan.lanes.items

-- a report, with those of its fields that are among the first of the descriptor
pub record IsFilled (d : DescriptorValue) (null_states : List Bool) (kind : Kind) (id number : ℕ) (plan : Plan) : Type 0 where
  pub len : plan.len ≡ unwrap_or (report_len d kind id) 0
  pub fields : map (λ lane. lane.kept) plan.lanes.items ≡ kept_below d null_states kind id number
  pub lanes : All (IsLane d) plan.lanes.items

abbrev pub AreFilled : DescriptorValue → List Bool → ℕ → List Plans → Type 0
AreFilled d null_states number by_id = (id : ℕ) (plans : Plans) → slice_get by_id id ≡ Some plans → (kind : Kind) → IsFilled d null_states kind id number (plan_on kind plans)

-- a field was added to the report of a kind
pub record IsAdded (kind : Kind) (lane : Lane) (old new : Plans) : Type 0 where
  pub len : (other : Kind) → (plan_on other new).len ≡ (plan_on other old).len
  pub lanes : (other : Kind) → (plan_on other new).lanes.items ≡ (plan_on other old).lanes.items ++ (if same_kind kind other then lane ∷ [] else [])

-- the reports of the first IDs; past these no report has a field
pub record ArePlans (d : DescriptorValue) (null_states : List Bool) (by_id : List Plans) : Type 0 where
  pub here : (id : ℕ) (plans : Plans) → slice_get by_id id ≡ Some plans → (kind : Kind) → IsPlan d null_states kind id (plan_on kind plans)
  pub past : (id : ℕ) (kind : Kind) → length by_id ≤ id → kept_fields d null_states kind id ≡ []
