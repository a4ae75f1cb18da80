-- The collections around a data item, by the numbers that are reported.
use Rattle.std.proofs.Common.{◌≡◌, ℕ, zero, suc, ◌+◌, ◌-◌, ◌<◌, List, [], ◌∷◌, ◌++◌, length, take, refl, arith, sym, ◌∙◌, ap, subst, true, false, cond, Some, None, inl, inr, length-append, reverse}
use Rattle.std.proofs.lemmas.Bool.{cases_Bool, cases_lt, lt-ltb, ltb-true}
use Rattle.std.proofs.lemmas.List.{reverse-append, reverse-reverse, take-append-le, append-nil}
use Rattle.std.proofs.lemmas.Option.{slice_get_past}
use Rattle.std.specs.Prelude.{nat_lt, slice_get, Option, option_and_then, unwrap_or}
use Rattle.descriptor_parse.specs.Items.{ItemValue}
use Rattle.descriptor_parse.specs.declared.tag.Tag.{Tag}
use Rattle.descriptor_parse.specs.declared.tag.Tag.TheVariants.{Main, Global, Local, Skipped}
use Rattle.descriptor_parse.specs.declared.tag.MainTag.TheVariants.{Data, Collection, EndCollection}
use Rattle.descriptor_parse.specs.Tags.{tag, is_collection, is_end_collection}
use Rattle.field_details.specs.declared.collection.Collection.{Collection as Group}
use Rattle.field_details.specs.declared.detail.Detail.{Detail}
use Rattle.field_details.specs.Collections.{open_now, collections, collection_count, without_last, innermost, declared_collection}
use Rattle.field_details.specs.Details.{has_place, details, declared_detail}
use Rattle.field_details.specs.Around.{all_around, around, inside_in, less_than}
use Rattle.field_details.specs.representation.Around.{outer_in, height}
use Rattle.field_details.proofs.WalkLemmas.{count_is, open_more, open_fewer, open_same, collections_more, collections_same}

-- ---- lists

get_before : {A : Type 0} (xs ys : List A) (i : ℕ) → i < length xs → slice_get (xs ++ ys) i ≡ slice_get xs i
get_before [] ys i l = absurd (omega arith)
get_before (x ∷ xs) ys zero l = refl
get_before (x ∷ xs) ys (suc i) l = get_before xs ys i (omega arith)

get_last : {A : Type 0} (xs : List A) (x : A) → slice_get (xs ++ x ∷ []) (length xs) ≡ Some x
get_last [] x = refl
get_last (y ∷ xs) x = get_last xs x

abbrev pub first_of : List ℕ → Option ℕ
first_of [] = None
first_of (x ∷ xs) = Some x

innermost_more : (xs : List ℕ) (x : ℕ) → innermost (xs ++ x ∷ []) ≡ Some x
innermost_more xs x =
    let len : length (xs ++ x ∷ []) ≡ length xs + 1 = length-append xs (x ∷ []) in
    let one : length (xs ++ x ∷ []) - 1 ≡ length xs = omega arith in
    rw one (get_last xs x)

all_taken : (xs : List ℕ) → take (length xs) xs ≡ xs
all_taken [] = refl
all_taken (x ∷ xs) = ap (λ ys. x ∷ ys) (all_taken xs)

without_more : (xs : List ℕ) (x : ℕ) → without_last (xs ++ x ∷ []) ≡ xs
without_more xs x =
    let len : length (xs ++ x ∷ []) ≡ length xs + 1 = length-append xs (x ∷ []) in
    let one : length (xs ++ x ∷ []) - 1 ≡ length xs = omega arith in
    ap (λ n. take n (xs ++ x ∷ [])) one ∙ take-append-le (length xs) xs (x ∷ []) (omega arith) ∙ all_taken xs

-- ---- the numbers outwards from one, innermost first

abbrev pub IsChain : List Group → Option ℕ → List ℕ → Type 0
IsChain groups next [] = next ≡ None
IsChain groups next (x ∷ xs) = (next ≡ Some x) × (x < length groups) × IsChain groups (outer_in groups x) xs

chain_first : (groups : List Group) (next : Option ℕ) (xs : List ℕ) → IsChain groups next xs → next ≡ first_of xs
chain_first groups next [] c = c
chain_first groups next (x ∷ xs) c = c.0

chain_more : (groups more : List Group) (next : Option ℕ) (xs : List ℕ) → IsChain groups next xs → IsChain (groups ++ more) next xs
chain_more groups more next [] c = c
chain_more groups more next (x ∷ xs) c =
    let same : outer_in (groups ++ more) x ≡ outer_in groups x = ap (λ (o : Option Group). option_and_then (less_than x) (option_and_then (λ g. g.outer) o)) (get_before groups more x c.1) in
    let within : x < length (groups ++ more) = (let l = c.1 in omega (arith, length-append groups more)) in
    (c.0, within, subst (λ (o : Option ℕ). IsChain (groups ++ more) o xs) (sym same) (chain_more groups more (outer_in groups x) xs c.2))

-- a number within is less than that of the next collection
guarded : (groups : List Group) (next : Option ℕ) (xs : List ℕ) → IsChain groups next xs → option_and_then (less_than (length groups)) next ≡ next
guarded groups next [] c = ap (option_and_then (less_than (length groups))) c ∙ sym c
guarded groups next (x ∷ xs) c =
    let l : x < length groups = c.1 in
    let yes : nat_lt x (length groups) ≡ true = lt-ltb _ _ l in
    ap (option_and_then (less_than (length groups))) c.0 ∙ ap (λ b. cond b (Some x) None) yes ∙ sym c.0

chain_opened : (groups : List Group) (group : Group) (opened : List ℕ) → group.outer ≡ innermost opened → IsChain groups (innermost opened) (reverse opened)
    → IsChain (groups ++ group ∷ []) (innermost (opened ++ length groups ∷ [])) (reverse (opened ++ length groups ∷ []))
chain_opened groups group opened outer c =
    let turned : reverse (opened ++ length groups ∷ []) ≡ length groups ∷ reverse opened = reverse-append opened (length groups ∷ []) in
    let same : outer_in (groups ++ group ∷ []) (length groups) ≡ innermost opened =
    ap (λ (o : Option Group). option_and_then (less_than (length groups)) (option_and_then (λ g. g.outer) o)) (get_last groups group)
    ∙ ap (option_and_then (less_than (length groups))) outer ∙ guarded groups (innermost opened) (reverse opened) c in
    let within : length groups < length (groups ++ group ∷ []) = omega (arith, length-append groups (group ∷ [])) in
    subst (λ (xs : List ℕ). IsChain (groups ++ group ∷ []) (innermost (opened ++ length groups ∷ [])) xs) (sym turned)
    (innermost_more opened (length groups), within, subst (λ (o : Option ℕ). IsChain (groups ++ group ∷ []) o (reverse opened)) (sym same) (chain_more groups (group ∷ []) (innermost opened) (reverse opened) c))

first_innermost : (xs : List ℕ) → innermost (reverse xs) ≡ first_of xs
first_innermost [] = refl
first_innermost (x ∷ xs) =
    let turned : reverse (x ∷ xs) ≡ reverse xs ++ x ∷ [] = reverse-append (x ∷ []) xs in
    ap innermost turned ∙ innermost_more (reverse xs) x

closed_by : (groups : List Group) (opened turned : List ℕ) → reverse opened ≡ turned → IsChain groups (innermost opened) turned
    → IsChain groups (innermost (without_last opened)) (reverse (without_last opened))
closed_by groups opened [] e c =
    let none : opened ≡ [] = sym (reverse-reverse opened) ∙ ap reverse e in
    rw none refl
closed_by groups opened (x ∷ xs) e c =
    let split : opened ≡ reverse xs ++ x ∷ [] = sym (reverse-reverse opened) ∙ ap reverse e ∙ reverse-append (x ∷ []) xs in
    let left : without_last opened ≡ reverse xs = ap without_last split ∙ without_more (reverse xs) x in
    let first : outer_in groups x ≡ innermost (reverse xs) = chain_first groups (outer_in groups x) xs c.2 ∙ sym (first_innermost xs) in
    rw (left, reverse-reverse xs, ← first) c.2

chain_closed : (groups : List Group) (opened : List ℕ) → IsChain groups (innermost opened) (reverse opened) → IsChain groups (innermost (without_last opened)) (reverse (without_last opened))
chain_closed groups opened c = closed_by groups opened (reverse opened) refl c

-- those that are open
open_by : (t : Tag) (before : List ItemValue) (item : ItemValue) → tag item ≡ t → IsChain (collections before) (innermost (open_now before)) (reverse (open_now before))
    → IsChain (collections (item ∷ before)) (innermost (open_now (item ∷ before))) (reverse (open_now (item ∷ before)))
open_by (Main Collection) before item e c =
    let number : length (collections before) ≡ collection_count before = count_is before in
    rw (collections_more before item e, open_more before item e, ← number) (chain_opened (collections before) (declared_collection before item) (open_now before) refl c)
open_by (Main EndCollection) before item e c =
    rw (collections_same before item (ap is_collection e), open_fewer before item e) (chain_closed (collections before) (open_now before) c)
open_by (Main (Data k)) before item e c = rw (collections_same before item (ap is_collection e), open_same before item (ap is_collection e) (ap is_end_collection e)) c
open_by (Global g) before item e c = rw (collections_same before item (ap is_collection e), open_same before item (ap is_collection e) (ap is_end_collection e)) c
open_by (Local l) before item e c = rw (collections_same before item (ap is_collection e), open_same before item (ap is_collection e) (ap is_end_collection e)) c
open_by Skipped before item e c = rw (collections_same before item (ap is_collection e), open_same before item (ap is_collection e) (ap is_end_collection e)) c

chain_open : (before : List ItemValue) → IsChain (collections before) (innermost (open_now before)) (reverse (open_now before))
unfolding open_now collections
chain_open [] = refl
chain_open (item ∷ before) = open_by (tag item) before item refl (chain_open before)

-- ---- those around a data item

as_many : (items : List ItemValue) → length (all_around items) ≡ length (details items)
unfolding all_around details
as_many [] = refl
as_many (item ∷ before) =
    elim (has_place before item) as (λ b. length (cond b (all_around before ++ open_now before ∷ []) (all_around before)) ≡ length (cond b (details before ++ declared_detail before item ∷ []) (details before))) [
      | true ↦ length-append (all_around before) (open_now before ∷ []) ∙ (let ih = as_many before in omega (arith, length-append (details before) (declared_detail before item ∷ [])))
      | false ↦ as_many before
    ]

around_more : (before : List ItemValue) (item : ItemValue) → has_place before item ≡ true → all_around (item ∷ before) ≡ all_around before ++ open_now before ∷ []
unfolding all_around
around_more before item p = rw p refl

around_same : (before : List ItemValue) (item : ItemValue) → has_place before item ≡ false → all_around (item ∷ before) ≡ all_around before
unfolding all_around
around_same before item p = rw p refl

reported_more : (before : List ItemValue) (item : ItemValue) → has_place before item ≡ true → details (item ∷ before) ≡ details before ++ declared_detail before item ∷ []
unfolding details
reported_more before item p = rw p refl

reported_same : (before : List ItemValue) (item : ItemValue) → has_place before item ≡ false → details (item ∷ before) ≡ details before
unfolding details
reported_same before item p = rw p refl

-- a later item leaves the chain
kept : (t : Tag) (before : List ItemValue) (item : ItemValue) (next : Option ℕ) (xs : List ℕ) → tag item ≡ t → IsChain (collections before) next xs → IsChain (collections (item ∷ before)) next xs
kept (Main Collection) before item next xs e c = rw (collections_more before item e) (chain_more (collections before) (declared_collection before item ∷ []) next xs c)
kept (Main EndCollection) before item next xs e c = rw (collections_same before item (ap is_collection e)) c
kept (Main (Data k)) before item next xs e c = rw (collections_same before item (ap is_collection e)) c
kept (Global g) before item next xs e c = rw (collections_same before item (ap is_collection e)) c
kept (Local l) before item next xs e c = rw (collections_same before item (ap is_collection e)) c
kept Skipped before item next xs e c = rw (collections_same before item (ap is_collection e)) c

by_lists : (groups : List Group) (reported : List Detail) (all : List (List ℕ)) (detail : Detail) (opened : List ℕ) (place : ℕ) → length all ≡ length reported
    → IsChain groups (inside_in reported place) (reverse (unwrap_or (slice_get all place) [])) → IsChain groups detail.inside (reverse opened)
    → IsChain groups (inside_in (reported ++ detail ∷ []) place) (reverse (unwrap_or (slice_get (all ++ opened ∷ []) place) []))
by_lists groups reported all detail opened place same old new =
    elim (cases_lt place (length reported)) [
      | inl l ↦ (let l' : place < length all = omega arith in rw (get_before reported (detail ∷ []) place l, get_before all (opened ∷ []) place l') old)
      | inr g ↦ (elim (cases_lt (length reported) place) [
        | inl past ↦ (let a : slice_get (reported ++ detail ∷ []) place ≡ None = slice_get_past (reported ++ detail ∷ []) place (let n : length (reported ++ detail ∷ []) ≡ length reported + 1 = length-append reported (detail ∷ []) in omega arith) in
            let b : slice_get (all ++ opened ∷ []) place ≡ None = slice_get_past (all ++ opened ∷ []) place (let n : length (all ++ opened ∷ []) ≡ length all + 1 = length-append all (opened ∷ []) in omega arith) in
            rw (a, b) refl)
        | inr h ↦ (let a : place ≡ length reported = omega arith in
            let a' : slice_get (reported ++ detail ∷ []) place ≡ Some detail = ap (slice_get (reported ++ detail ∷ [])) a ∙ get_last reported detail in
            let b : place ≡ length all = omega arith in
            let b' : slice_get (all ++ opened ∷ []) place ≡ Some opened = ap (slice_get (all ++ opened ∷ [])) b ∙ get_last all opened in
            rw (a', b') new)
      ])
    ]

chain_start : (place : ℕ) → IsChain (collections []) (inside_in (details []) place) (reverse (around [] place))
unfolding all_around details
chain_start place = refl

pub chain_around : (items : List ItemValue) (place : ℕ) → IsChain (collections items) (inside_in (details items) place) (reverse (around items place))
chain_around [] place = chain_start place
chain_around (item ∷ before) place =
    let old : IsChain (collections (item ∷ before)) (inside_in (details before) place) (reverse (around before place)) =
    kept (tag item) before item _ _ refl (chain_around before place) in
    let new : IsChain (collections (item ∷ before)) (innermost (open_now before)) (reverse (open_now before)) =
    kept (tag item) before item _ _ refl (chain_open before) in
    elim (cases_Bool (has_place before item)) [
      | inl p ↦ rw (around_more before item p, reported_more before item p)
          (by_lists (collections (item ∷ before)) (details before) (all_around before) (declared_detail before item) (open_now before) place (as_many before) old new)
      | inr p ↦ rw (around_same before item p, reported_same before item p) old
    ]

-- ---- heights

by_option : (number : ℕ) (o : Option ℕ) → height (option_and_then (less_than number) o) < number + 1
by_option number None = omega arith
by_option number (Some x) =
    elim (cases_Bool (nat_lt x number)) [
      | inl w ↦ (let l : x < number = ltb-true _ _ w in rw w (omega arith))
      | inr w ↦ rw w (omega arith)
    ]

pub lower : (groups : List Group) (number : ℕ) → height (outer_in groups number) < number + 1
lower groups number = by_option number (option_and_then (λ g. g.outer) (slice_get groups number))
