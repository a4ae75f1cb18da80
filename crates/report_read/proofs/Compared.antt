-- What the values of a report say is on, and reports that are compared.
use Rattle.std.proofs.Common.{◌≡◌, ◌≢◌, ℕ, Bool, true, false, List, [], ◌∷◌, ◌++◌, ◌+◌, length, length-append, append_assoc, arith, refl, sym, ◌∙◌, ap, Some, None}
use Rattle.std.specs.Prelude.{Option, Result, Ok, Err, OnErr, ◌==◌, if◌then◌else◌}
use Rattle.std.proofs.lemmas.Bool.{eq-eqb, ne_eqb}
use Rattle.std.proofs.lemmas.List.{append-nil}
use Rattle.std.proofs.lemmas.List.Concat.{flat_map-cons}
use Rattle.descriptor_parse.specs.declared.field.Kind.{Kind}
use Rattle.descriptor_parse.specs.Descriptor.{DescriptorValue}
use Rattle.host_extract.specs.Found.{id_of}
use Rattle.report_read.specs.declared.value.Value.{Value}
use Rattle.report_read.specs.declared.error.ReadingError.TheVariants.{OtherId}
use Rattle.report_read.specs.Refusals.{refusal}
use Rattle.report_read.specs.Values.{ReaderValue, reading}
use Rattle.report_read.specs.Changes.{AreRising, on_by, on_by_all, changes_refusal}
use Rattle.report_read.specs.representation.Listed.{listed}

pub gathered_none : (d : DescriptorValue) (left : List Value) (now all : List ℕ) → left ≡ [] → now ++ on_by_all d left ≡ all → now ≡ all
unfolding on_by_all
gathered_none d left now all e g = sym (append-nil now) ∙ rw e at g

pub gathered_one : (d : DescriptorValue) (value : Value) (left more : List Value) (old now all : List ℕ) (usage : Option ℕ) → left ≡ value ∷ more
    → listed usage ≡ on_by d value → now ≡ old ++ listed usage → old ++ on_by_all d left ≡ all → now ++ on_by_all d more ≡ all
unfolding on_by_all
gathered_one d value left more old now all usage e l n g =
    ap (λ xs. xs ++ on_by_all d more) (n ∙ ap (λ xs. old ++ xs) l) ∙ append_assoc old (on_by d value) (on_by_all d more)
    ∙ ap (λ xs. old ++ xs) (sym (flat_map-cons (on_by d) value more)) ∙ ap (λ vs. old ++ on_by_all d vs) (sym e) ∙ g

-- a value that says a usage is on
pub gathered_some : (d : DescriptorValue) (value : Value) (left more : List Value) (old all : List ℕ) (usage : ℕ) → left ≡ value ∷ more
    → listed (Some usage) ≡ on_by d value → old ++ on_by_all d left ≡ all → all ≢ []
unfolding on_by_all
gathered_some d value left more old all usage e l g z =
    let step : on_by_all d left ≡ on_by d value ++ on_by_all d more = ap (on_by_all d) e ∙ flat_map-cons (on_by d) value more in
    let one : 1 ≡ length (on_by d value) = ap length l in
    let parts : length (on_by_all d left) ≡ length (on_by d value) + length (on_by_all d more) = ap length step ∙ length-append (on_by d value) (on_by_all d more) in
    let whole : length old + length (on_by_all d left) ≡ length all = sym (length-append old (on_by_all d left)) ∙ ap length g in
    let none : length all ≡ 0 = ap length z in
    absurd (omega arith)

pub each_failure : {A E P : Type 0} (result : Result A E) → P → OnErr result P
each_failure (Ok x) p = tt
each_failure (Err e) p = p

-- ---- lists that are not empty

pub left_some : (xs ys : List ℕ) → xs ≢ [] → xs ++ ys ≢ []
left_some [] ys n z = n refl
left_some (x ∷ xs) ys n z = absurd (cc)

pub right_some : (xs ys : List ℕ) → ys ≢ [] → xs ++ ys ≢ []
right_some [] ys n z = n z
right_some (x ∷ xs) ys n z = absurd (cc)

pub rising_some : (all usages : List ℕ) → AreRising all usages → usages ≢ [] → all ≢ []
rising_some all [] r n z = n refl
rising_some all (u ∷ us) r n z =
    let (k, l, e) = (r.members u).0 (0, omega arith, refl) in
    let none : length all ≡ 0 = ap length z in
    absurd (omega arith)

pub id_read : (reader : ReaderValue) (kind : Kind) (report : List ℕ) → (reading reader kind report).id ≡ id_of reader.descriptor report
unfolding reading
id_read reader kind report = refl

by_ids : (d : DescriptorValue) (kind : Kind) (old now : List ℕ) → refusal d kind old ≡ None → refusal d kind now ≡ None
    → changes_refusal d kind old now ≡ (if id_of d old == id_of d now then None else Some OtherId)
by_ids d kind old now a b = rw (a, b) refl

pick : {X : Type 0} (b c : Bool) (x y : X) → b ≡ c → (if b then x else y) ≡ (if c then x else y)
pick b c x y e = ap (λ k. if k then x else y) e

pub same_ids : (d : DescriptorValue) (kind : Kind) (old now : List ℕ) → refusal d kind old ≡ None → refusal d kind now ≡ None → id_of d old ≡ id_of d now
    → changes_refusal d kind old now ≡ None
same_ids d kind old now a b e = by_ids d kind old now a b ∙ pick (id_of d old == id_of d now) true None (Some OtherId) (eq-eqb _ _ e)

pub other_ids : (d : DescriptorValue) (kind : Kind) (old now : List ℕ) → refusal d kind old ≡ None → refusal d kind now ≡ None → id_of d old ≢ id_of d now
    → changes_refusal d kind old now ≡ Some OtherId
other_ids d kind old now a b e = by_ids d kind old now a b ∙ pick (id_of d old == id_of d now) false None (Some OtherId) (ne_eqb _ _ e)
