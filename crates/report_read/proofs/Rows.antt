-- What is kept of all reports.
use Rattle.std.proofs.Common.{◌≡◌, ℕ, zero, suc, ◌+◌, ◌<◌, ◌≤◌, Bool, true, false, List, [], ◌∷◌, ◌++◌, length, get_or, set, arith, refl, sym, ◌∙◌, ap, Some, None, eqb, inl, inr, take, length-append}
use Rattle.std.proofs.Math.Seq.{take-append_seam}
use Rattle.std.specs.Prelude.{All, Option, slice_get, unwrap_or, map, ◌&&◌, if◌then◌else◌}
use Rattle.std.proofs.lemmas.Bool.{cases_eq, eq-eqb, ne_eqb}
use Rattle.std.proofs.lemmas.List.{append-nil, length-set, get_or-set_same, get_or-set_other}
use Rattle.std.proofs.lemmas.List.Elements.{All-nil, All-push}
use Rattle.std.proofs.lemmas.Option.{slice_get_within, slice_get-get_or, get_or_from_slice_get}
use Rattle.descriptor_parse.specs.declared.field.Kind.{Kind}
use Rattle.descriptor_parse.specs.declared.field.Field.{Field}
use Rattle.descriptor_parse.specs.Tags.{same_kind}
use Rattle.descriptor_parse.specs.Descriptor.{DescriptorValue, report_len}
use Rattle.report_write.specs.Fields.{kept, kept_if, kept_below}
use Rattle.report_read.specs.declared.lane.Lane.{Lane}
use Rattle.report_read.specs.declared.reader.Plan.{Plan}
use Rattle.report_read.specs.declared.reader.Plans.{Plans}
use Rattle.report_read.specs.representation.Lanes.{IsLane}
use Rattle.report_read.specs.representation.Plans.{IsFilled, AreFilled, IsAdded, ArePlans, plan_on}
use Rattle.report_read.proofs.Lists.{map_push}

other_id : (a b : ℕ) → a < b → eqb a b ≡ false
other_id a b l = grind arith

not_both : (a : Bool) → (a && false) ≡ false
not_both true = refl
not_both false = refl

none_kept : (null_states : List Bool) (kind : Kind) (id number : ℕ) (o : Option Field) → ((field : Field) → o ≡ Some field → field.id < id) → kept_if null_states kind id number o ≡ []
none_kept null_states kind id number None h = refl
none_kept null_states kind id number (Some field) h =
    rw (other_id field.id id (h field refl), not_both (same_kind field.kind kind)) refl

pub no_fields : (d : DescriptorValue) (null_states : List Bool) (kind : Kind) (id rows number : ℕ) → All (λ (field : Field). field.id < rows) d.fields → rows ≤ id
    → kept_below d null_states kind id number ≡ []
unfolding kept_below
no_fields d null_states kind id rows zero all l = refl
no_fields d null_states kind id rows (suc number) all l =
    let here : kept_if null_states kind id number (slice_get d.fields number) ≡ [] =
    none_kept null_states kind id number (slice_get d.fields number)
    (λ field e. let at = all number field (slice_get_within d.fields number field e) in
    let same : get_or d.fields number field ≡ field = get_or_from_slice_get d.fields number field field e in
    let lt : field.id < rows = rw same at at in omega arith) in
    rw (no_fields d null_states kind id rows number all l, here) refl

pub pushed : {A : Type 0} (P : ℕ → A → Type 0) (xs : List A) (x : A) → ((k : ℕ) (y : A) → slice_get xs k ≡ Some y → P k y) → P (length xs) x
    → (k : ℕ) (y : A) → slice_get (xs ++ x ∷ []) k ≡ Some y → P k y
pushed P [] x h p zero y e = let same : y ≡ x = cc in rw same p
pushed P [] x h p (suc k) y e = cc
pushed P (z ∷ xs) x h p zero y e = h zero y e
pushed P (z ∷ xs) x h p (suc k) y e = pushed (λ n. P (suc n)) xs x (λ n w. h (suc n) w) p k y e

pub one_longer : (xs items : List Plans) (x : Plans) (n : ℕ) → items ≡ xs ++ x ∷ [] → length xs ≡ n → length items ≡ n + 1
one_longer xs items x n e l = let long = length-append xs (x ∷ []) in rw e (omega (arith, long, l))

pub written_back : (n : ℕ) (xs ys : List Plans) → length xs ≡ n → take n (xs ++ ys) ≡ xs
written_back n xs ys l = rw (← l) (take-append_seam xs ys)

-- ---- without fields

pub none_filled : (d : DescriptorValue) (null_states : List Bool) (kind : Kind) (id : ℕ) (plan : Plan) → plan.len ≡ unwrap_or (report_len d kind id) 0 → plan.lanes.items ≡ []
    → IsFilled d null_states kind id 0 plan
unfolding kept_below
none_filled d null_states kind id plan l e = record { len = l; fields = rw e refl; lanes = rw e (All-nil (IsLane d)) }

pub each_kind : (d : DescriptorValue) (null_states : List Bool) (id number : ℕ) (plans : Plans) → IsFilled d null_states Kind.Input id number plans.input
    → IsFilled d null_states Kind.Output id number plans.output → IsFilled d null_states Kind.Feature id number plans.feature
    → (kind : Kind) → IsFilled d null_states kind id number (plan_on kind plans)
each_kind d null_states id number plans i o f Kind.Input = i
each_kind d null_states id number plans i o f Kind.Output = o
each_kind d null_states id number plans i o f Kind.Feature = f

pub plans_more : (d : DescriptorValue) (null_states : List Bool) (by_id items : List Plans) (plans : Plans) (id : ℕ) → items ≡ by_id ++ plans ∷ [] → length by_id ≡ id
    → AreFilled d null_states 0 by_id → IsFilled d null_states Kind.Input id 0 plans.input → IsFilled d null_states Kind.Output id 0 plans.output
    → IsFilled d null_states Kind.Feature id 0 plans.feature → AreFilled d null_states 0 items
plans_more d null_states by_id items plans id e l h i o f =
    let last : (kind : Kind) → IsFilled d null_states kind (length by_id) 0 (plan_on kind plans) = rw l (each_kind d null_states id 0 plans i o f) in
    rw e (pushed (λ k one. (kind : Kind) → IsFilled d null_states kind k 0 (plan_on kind one)) by_id plans h last)

-- ---- one field more

kept_more : (d : DescriptorValue) (null_states : List Bool) (kind : Kind) (id number : ℕ) (field : Field) → slice_get d.fields number ≡ Some field
    → kept_below d null_states kind id (number + 1) ≡ kept_below d null_states kind id number ++ kept_if null_states kind id number (Some field)
unfolding kept_below
kept_more d null_states kind id number field e = let next : number + 1 ≡ suc number = omega arith in rw (next, e) refl

another_id : (null_states : List Bool) (kind : Kind) (id number : ℕ) (field : Field) → (id ≡ field.id → ⊥) → kept_if null_states kind id number (Some field) ≡ []
another_id null_states kind id number field n =
    let no : eqb field.id id ≡ false = ne_eqb field.id id (λ e. n (sym e)) in
    rw (no, not_both (same_kind field.kind kind)) refl

other_filled : (d : DescriptorValue) (null_states : List Bool) (kind : Kind) (id number : ℕ) (field : Field) (plan : Plan) → slice_get d.fields number ≡ Some field
    → (id ≡ field.id → ⊥) → IsFilled d null_states kind id number plan → IsFilled d null_states kind id (number + 1) plan
other_filled d null_states kind id number field plan e n f =
    record { len = f.len; fields = f.fields ∙ sym (kept_more d null_states kind id number field e ∙ rw (another_id null_states kind id number field n) (append-nil (kept_below d null_states kind id number))); lanes = f.lanes }

fields_added : (b : Bool) (lanes : List Lane) (lane : Lane) → map (λ (one : Lane). one.kept) (lanes ++ (if b then lane ∷ [] else [])) ≡ map (λ (one : Lane). one.kept) lanes ++ (if b && true then lane.kept ∷ [] else [])
fields_added true lanes lane = map_push lanes lane
fields_added false lanes lane = rw (append-nil lanes) (sym (append-nil (map (λ (one : Lane). one.kept) lanes)))

lanes_added : (d : DescriptorValue) (b : Bool) (lanes : List Lane) (lane : Lane) → All (IsLane d) lanes → IsLane d lane → All (IsLane d) (lanes ++ (if b then lane ∷ [] else []))
lanes_added d true lanes lane all is = All-push (IsLane d) lanes lane all is
lanes_added d false lanes lane all is = rw (append-nil lanes) all

own_filled : (d : DescriptorValue) (null_states : List Bool) (kind : Kind) (number : ℕ) (field : Field) (lane : Lane) (old new : Plan) → slice_get d.fields number ≡ Some field
    → lane.kept ≡ kept null_states number field → IsLane d lane → new.len ≡ old.len
    → new.lanes.items ≡ old.lanes.items ++ (if same_kind field.kind kind then lane ∷ [] else [])
    → IsFilled d null_states kind field.id number old → IsFilled d null_states kind field.id (number + 1) new
own_filled d null_states kind number field lane old new e k is l items f =
    let own : eqb field.id field.id ≡ true = eq-eqb field.id field.id refl in
    let more : kept_below d null_states kind field.id (number + 1) ≡ kept_below d null_states kind field.id number ++ (if same_kind field.kind kind && true then lane.kept ∷ [] else []) =
    kept_more d null_states kind field.id number field e ∙ rw (own, k) refl in
    record {
      len = l ∙ f.len;
      fields = rw (items, more, ← f.fields) (fields_added (same_kind field.kind kind) old.lanes.items lane);
      lanes = rw items (lanes_added d (same_kind field.kind kind) old.lanes.items lane f.lanes is);
    }

pub field_added : (d : DescriptorValue) (null_states : List Bool) (number : ℕ) (field : Field) (lane : Lane) (old new : List Plans) (before plans : Plans)
    → slice_get d.fields number ≡ Some field → field.id < length old → lane.kept ≡ kept null_states number field → IsLane d lane
    → new ≡ set old field.id plans → get_or old field.id before ≡ before → IsAdded field.kind lane before plans
    → AreFilled d null_states number old → AreFilled d null_states (number + 1) new
field_added d null_states number field lane old new before plans e l k is n b added all id found at kind =
    let within : id < length new = slice_get_within new id found at in
    let long : length new ≡ length old = rw n (length-set old field.id plans) in
    let is_found : get_or new id found ≡ found = get_or_from_slice_get new id found found at in
    elim (cases_eq id field.id) [
      | inl own ↦
          let here : found ≡ plans = sym is_found ∙ rw (n, own) (get_or-set_same old field.id plans found l) in
          let was = all field.id before (slice_get-get_or old field.id before l ∙ ap (λ (one : Plans). Some one) b) kind in
          rw (own, here) (own_filled d null_states kind number field lane (plan_on kind before) (plan_on kind plans) e k is (added.len kind) (added.lanes kind) was)
      | inr other ↦
          let there : get_or old id found ≡ found = sym (get_or-set_other old field.id id plans found other) ∙ rw n at is_found in
          other_filled d null_states kind id number field (plan_on kind found) e other
          (all id found (slice_get-get_or old id found (omega (arith, within, long)) ∙ ap (λ (one : Plans). Some one) there) kind)
    ]

-- ---- all fields

pub all_filled : (d : DescriptorValue) (null_states : List Bool) (by_id : List Plans) → AreFilled d null_states (length d.fields) by_id
    → All (λ (field : Field). field.id < length by_id) d.fields → ArePlans d null_states by_id
all_filled d null_states by_id f all = record {
  here = λ id plans at kind. let one = f id plans at kind in record { len = one.len; fields = λ _. one.fields; lanes = one.lanes };
  past = λ id kind l. no_fields d null_states kind id (length by_id) (length d.fields) all l;
}
