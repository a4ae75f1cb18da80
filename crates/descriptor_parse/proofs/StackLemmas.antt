-- What an item changes in the values of Global items that are in force and saved.
use Rattle.std.proofs.lemmas.Grind.{common_steps}
use Rattle.std.proofs.Common.{◌≡◌, ◌<◌, List, [], ◌∷◌, ◌++◌, length, refl, arith, sym, ◌∙◌, ap, Bool, true, false, cond, length-append, inl, inr}
use Rattle.std.proofs.lemmas.Bool.{cases_Bool}
use Rattle.std.specs.Prelude.{filter}
use Rattle.std.specs.List.{list_any}
use Rattle.descriptor_parse.specs.declared.stack.Stack.{Stack}
use Rattle.descriptor_parse.specs.declared.tag.Tag.TheVariants.{Global}
use Rattle.descriptor_parse.specs.declared.tag.GlobalTag.{GlobalTag}
use Rattle.descriptor_parse.specs.declared.tag.GlobalTag.TheVariants.{Push, Pop}
use Rattle.descriptor_parse.specs.Items.{ItemValue}
use Rattle.descriptor_parse.specs.Tags.{tag, is_push, is_pop}
use Rattle.descriptor_parse.specs.Globals.{before_push, in_force, pushes}
use Rattle.descriptor_parse.specs.representation.StackRefines.{saved_of, StackRefines}

-- ---- the items in force

-- one Push at least is left
any_push : (items : List ItemValue) → 0 < length (filter (λ item. is_push (tag item)) items) → list_any (λ item. is_push (tag item)) items ≡ true
any_push [] some = absurd (omega arith)
any_push (item ∷ before) some =
    elim (cases_Bool (is_push (tag item))) [
      | inl e ↦ rw e refl
      | inr e ↦ (let some' : 0 < length (filter (λ i. is_push (tag i)) before) = (rw e at some) in rw e (any_push before some'))
    ]

-- none is
no_push : (items : List ItemValue) → length (filter (λ item. is_push (tag item)) items) ≡ 0 → list_any (λ item. is_push (tag item)) items ≡ false
no_push [] none = refl
no_push (item ∷ before) none =
    elim (cases_Bool (is_push (tag item))) [
      | inl e ↦ (let none' = rw e at none in absurd (omega (arith, none')))
      | inr e ↦ (let none' : length (filter (λ i. is_push (tag i)) before) ≡ 0 = (rw e at none) in rw e (no_push before none'))
    ]

-- a Pop takes out the latest Push and what follows it
in_force_pop : (before : List ItemValue) (item : ItemValue) → tag item ≡ Global Pop → 0 < pushes before → in_force (item ∷ before) ≡ before_push (in_force before)
unfolding in_force
in_force_pop before item e some = rw (e, any_push (in_force before) some) refl

-- without a Push left it takes nothing out
in_force_none : (before : List ItemValue) (item : ItemValue) → tag item ≡ Global Pop → pushes before ≡ 0 → in_force (item ∷ before) ≡ in_force before
unfolding in_force
in_force_none before item e none = rw (e, no_push (in_force before) none) refl

-- any other item stays
in_force_more : (before : List ItemValue) (item : ItemValue) → is_pop (tag item) ≡ false → in_force (item ∷ before) ≡ item ∷ in_force before
unfolding in_force
in_force_more before item e = rw e refl

-- ---- those that are saved

-- they are as many as the Pushes
length_saved : {T : Type 0} (values : List ItemValue → T) (items : List ItemValue) → length (saved_of values items) ≡ length (filter (λ item. is_push (tag item)) items)
unfolding saved_of
length_saved values [] = refl
length_saved values (item ∷ before) =
    let P : Bool → Type 0 = λ b. length (cond b (saved_of values before ++ values before ∷ []) (saved_of values before)) ≡ length (cond b (item ∷ filter (λ i. is_push (tag i)) before) (filter (λ i. is_push (tag i)) before)) in
    elim (is_push (tag item)) as P [
      | true ↦ length-append (saved_of values before) (values before ∷ []) ∙ (let ih = length_saved values before in omega arith)
      | false ↦ length_saved values before
    ]

pub none_saved : {T : Type 0} (values : List ItemValue → T) (before : List ItemValue) (stack : Stack T) → StackRefines values before stack → length stack.saved.items ≡ pushes before
none_saved values before stack s = ap length s.saved ∙ length_saved values (in_force before)

-- the last are those of the latest Push
saved_split : {T : Type 0} (values : List ItemValue → T) (items : List ItemValue) → 0 < length (saved_of values items)
    → saved_of values items ≡ saved_of values (before_push items) ++ values (before_push items) ∷ []
unfolding saved_of before_push
saved_split values [] some = absurd (omega arith)
saved_split values (item ∷ before) some =
    elim (cases_Bool (is_push (tag item))) [
      | inl e ↦ rw (e) refl
      | inr e ↦ (let some' : 0 < length (saved_of values before) = (rw e at some) in rw (e) (saved_split values before some'))
    ]

saved_same : {T : Type 0} (values : List ItemValue → T) (item : ItemValue) (items : List ItemValue) → is_push (tag item) ≡ false → saved_of values (item ∷ items) ≡ saved_of values items
unfolding saved_of
saved_same values item items n = rw n refl

saved_more : {T : Type 0} (values : List ItemValue → T) (item : ItemValue) (items : List ItemValue) → is_push (tag item) ≡ true → saved_of values (item ∷ items) ≡ saved_of values items ++ values items ∷ []
unfolding saved_of
saved_more values item items n = rw n refl

-- the same front and the same last
same_last : {A : Type 0} (xs ys : List A) (x y : A) → xs ++ x ∷ [] ≡ ys ++ y ∷ [] → (xs ≡ ys) × (x ≡ y)
same_last [] [] x y e = (refl, cc)
same_last [] (b ∷ ys) x y e = absurd (omega (arith, ap length e, length-append ys (y ∷ [])))
same_last (a ∷ xs) [] x y e = absurd (omega (arith, ap length e, length-append xs (x ∷ [])))
same_last (a ∷ xs) (b ∷ ys) x y e =
    let tails : xs ++ x ∷ [] ≡ ys ++ y ∷ [] = cc in
    let heads : a ≡ b = cc in
    let rest : (xs ≡ ys) × (x ≡ y) = same_last xs ys x y tails in
    (cc (rest.0), rest.1)

-- ---- what an item changes

pub refine_new : {T : Type 0} (values : List ItemValue → T) (stack : Stack T) → stack.now ≡ values [] → stack.saved.items ≡ [] → StackRefines values [] stack
unfolding in_force saved_of
refine_new values stack now saved = record { now = now; saved = saved }

-- an item that stays in force, and saves nothing
pub refine_more : {T : Type 0} (values : List ItemValue → T) (before : List ItemValue) (item : ItemValue) (old new : Stack T) → is_push (tag item) ≡ false → is_pop (tag item) ≡ false
    → new.now ≡ values (item ∷ in_force before) → new.saved.items ≡ old.saved.items → StackRefines values before old → StackRefines values (item ∷ before) new
refine_more values before item old new push pop now saved s =
    let more : in_force (item ∷ before) ≡ item ∷ in_force before = in_force_more before item pop in
    record {
      now = now ∙ sym (ap values more);
      saved = saved ∙ s.saved ∙ sym (ap (saved_of values) more ∙ saved_same values item (in_force before) push);
    }

pub refine_push : {T : Type 0} (values : List ItemValue → T) (before : List ItemValue) (item : ItemValue) (old new : Stack T) → ((items : List ItemValue) → values (item ∷ items) ≡ values items)
    → tag item ≡ Global Push → new.now ≡ old.now → new.saved.items ≡ old.saved.items ++ old.now ∷ [] → StackRefines values before old → StackRefines values (item ∷ before) new
refine_push values before item old new same e now saved s =
    let more : in_force (item ∷ before) ≡ item ∷ in_force before = in_force_more before item (ap is_pop e) in
    record {
      now = now ∙ s.now ∙ sym (ap values more ∙ same (in_force before));
      saved = saved ∙ (rw (s.now, s.saved) (sym (ap (saved_of values) more ∙ saved_more values item (in_force before) (ap is_push e))));
    }

pub refine_pop : {T : Type 0} (values : List ItemValue → T) (before : List ItemValue) (item : ItemValue) (old new : Stack T) → tag item ≡ Global Pop
    → old.saved.items ≡ new.saved.items ++ new.now ∷ [] → StackRefines values before old → StackRefines values (item ∷ before) new
refine_pop values before item old new e split s =
    let us = in_force before in
    let len : length (saved_of values us) ≡ pushes before = length_saved values us in
    let some : 0 < length (saved_of values us) = omega (arith, ap length s.saved, ap length split, length-append new.saved.items (new.now ∷ [])) in
    let same : (new.saved.items ≡ saved_of values (before_push us)) × (new.now ≡ values (before_push us)) =
    same_last _ _ _ _ (sym split ∙ s.saved ∙ saved_split values us some) in
    let popped : in_force (item ∷ before) ≡ before_push us = in_force_pop before item e (omega arith) in
    record { now = same.1 ∙ sym (ap values popped); saved = same.0 ∙ sym (ap (saved_of values) popped) }

-- a Pop without a Push left
pub refine_no_pop : {T : Type 0} (values : List ItemValue → T) (before : List ItemValue) (item : ItemValue) (old new : Stack T) → tag item ≡ Global Pop
    → length old.saved.items ≡ 0 → new.now ≡ old.now → new.saved.items ≡ old.saved.items → StackRefines values before old → StackRefines values (item ∷ before) new
refine_no_pop values before item old new e none now saved s =
    let as_many : length old.saved.items ≡ pushes before = none_saved values before old s in
    let same : in_force (item ∷ before) ≡ in_force before = in_force_none before item e (omega arith) in
    record { now = now ∙ s.now ∙ sym (ap values same); saved = saved ∙ s.saved ∙ sym (ap (saved_of values) same) }

pub not_push : (t : GlobalTag) → (t ≡ Push → ⊥) → is_push (Global t) ≡ false
not_push t h1 = grind (arith, common_steps)

pub not_pop : (t : GlobalTag) → (t ≡ Pop → ⊥) → is_pop (Global t) ≡ false
not_pop t h1 = grind (arith, common_steps)
