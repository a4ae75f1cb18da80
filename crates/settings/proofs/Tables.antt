-- Tables of values.
use Rattle.std.proofs.lemmas.Grind.{common_steps}
use Rattle.std.proofs.Common.{◌≡◌, ◌≢◌, ◌∙◌, ℕ, zero, suc, ◌+◌, ◌^◌, ◌<◌, ◌≤◌, ◌-◌, refl, sym, arith, List, [], ◌∷◌, ◌++◌, length, take, drop, set, get_or, Option, Some, None, inl, inr, ◌==◌}
use Rattle.std.proofs.lemmas.Bool.{cases_Bool, cases_lt, eq-eqb, ne_eqb}
use Rattle.std.proofs.lemmas.List.{take_more, take_more_set, take_all, length-set}
use Rattle.settings.specs.declared.change.Change.{Change}
use Rattle.settings.specs.Copies.{NoneBetween, IsNext}
use Rattle.settings.specs.Table.{value_or, kept, ids_below}
use Rattle.settings.specs.representation.Table.{IsEntry, is_next, is_last, end_of}

or_none : (value : Option (List ℕ)) → value_or value None ≡ value
or_none value = grind (arith, common_steps)

or_assoc : (a b c : Option (List ℕ)) → value_or a (value_or b c) ≡ value_or (value_or a b) c
or_assoc a b c = grind (arith, common_steps)

none_parts : (a b : Option (List ℕ)) → value_or a b ≡ None → (a ≡ None) × (b ≡ None)
none_parts a b h1 = grind (arith, common_steps)

-- what one entry alone says of an id
abbrev pub own : Change → ℕ → Option (List ℕ)
own entry id = kept (entry ∷ []) id

pub kept-none : (id : ℕ) → kept [] id ≡ None
unfolding kept
kept-none id = refl

pub own-is : (entry : Change) (id : ℕ) → entry.id ≡ id → own entry id ≡ entry.value
unfolding kept
own-is entry id e = rw (eq-eqb entry.id id e) (or_none entry.value)

pub own-other : (entry : Change) (id : ℕ) → (entry.id ≡ id → ⊥) → own entry id ≡ None
unfolding kept
own-other entry id n = rw (ne_eqb entry.id id n) refl

pub own-free : (entry : Change) (id : ℕ) → entry.value ≡ None → own entry id ≡ None
unfolding kept
own-free entry id h1 = grind (arith, common_steps, cases_Bool)

-- the first entry, and the others
pub kept-first : (entry : Change) (rest : List Change) (id : ℕ) → kept (entry ∷ rest) id ≡ value_or (own entry id) (kept rest id)
unfolding kept
kept-first entry rest id = grind (arith, common_steps, cases_Bool, or_none)

-- an entry more
pub kept-last : (table : List Change) (entry : Change) (id : ℕ) → kept (table ++ entry ∷ []) id ≡ value_or (kept table id) (own entry id)
kept-last [] entry id = rw (kept-none id) refl
kept-last (first ∷ rest) entry id =
    kept-first first (rest ++ entry ∷ []) id
    ∙ rw (kept-last rest entry id, kept-first first rest id) (or_assoc (own first id) (kept rest id) (own entry id))

pub kept_set : (table : List Change) (at : ℕ) (entry : Change) (id : ℕ) → at < length table → kept (take (at + 1) (set table at entry)) id ≡ value_or (kept (take at table) id) (own entry id)
kept_set table at entry id l = rw (take_more_set table at entry l) (kept-last (take at table) entry id)

pub kept_same : (table : List Change) (at : ℕ) (entry : Change) (id : ℕ) → at < length table → kept (take (at + 1) table) id ≡ value_or (kept (take at table) id) (own (get_or table at entry) id)
kept_same table at entry id l = rw (take_more table at entry l) (kept-last (take at table) (get_or table at entry) id)

-- an entry that says nothing of an id, in place of one
pub set_other : (table : List Change) (at : ℕ) (entry d : Change) (id : ℕ) → at < length table → own (get_or table at d) id ≡ None → own entry id ≡ None → kept (set table at entry) id ≡ kept table id
set_other [] at entry d id l m n = absurd (omega arith)
set_other (first ∷ rest) zero entry d id l m n = kept-first entry rest id ∙ rw n (sym (kept-first first rest id ∙ rw m refl))
set_other (first ∷ rest) (suc at) entry d id l m n =
    kept-first first (set rest at entry) id ∙ rw (set_other rest at entry d id (omega arith) m n) (sym (kept-first first rest id))

-- an entry of an id of which nothing else says something
pub set_own : (table : List Change) (at : ℕ) (entry : Change) (id : ℕ) → at < length table → kept table id ≡ None → kept (set table at entry) id ≡ own entry id
set_own [] at entry id l n = absurd (omega arith)
set_own (first ∷ rest) zero entry id l n =
    let p = none_parts (own first id) (kept rest id) (sym (kept-first first rest id) ∙ n) in
    kept-first entry rest id ∙ rw p.1 (or_none (own entry id))
set_own (first ∷ rest) (suc at) entry id l n =
    let p = none_parts (own first id) (kept rest id) (sym (kept-first first rest id) ∙ n) in
    kept-first first (set rest at entry) id ∙ rw (p.0, set_own rest at entry id (omega arith) p.1) refl

-- how many ids have a value
one_more : (values : ℕ → Option (List ℕ)) (id : ℕ) (bytes : List ℕ) → values id ≡ Some bytes → ids_below values (id + 1) ≡ ids_below values id + 1
unfolding ids_below
one_more values id bytes e = let s : id + 1 ≡ suc id = omega arith in rw (s, e) refl

none_more : (values : ℕ → Option (List ℕ)) (id : ℕ) → values id ≡ None → ids_below values (suc id) ≡ ids_below values id
unfolding ids_below
none_more values id e = let z : ids_below values id + 0 ≡ ids_below values id = omega arith in rw e z

ids_gap : (values : ℕ → Option (List ℕ)) (from to : ℕ) → from ≤ to → NoneBetween values from to → ids_below values to ≡ ids_below values from
ids_gap values from zero l n = let e : from ≡ 0 = omega arith in rw e refl
ids_gap values from (suc to) l n =
    elim (cases_lt to from) [
      | inl m ↦ (let e : from ≡ suc to = omega arith in rw e refl)
      | inr m ↦ none_more values to (n to m (omega arith)) ∙ ids_gap values from to m (λ id a b. n id a (omega arith))
    ]

ids_grow : (values : ℕ → Option (List ℕ)) (from to : ℕ) → from ≤ to → ids_below values from ≤ ids_below values to
unfolding ids_below
ids_grow values from zero l = let e : from ≡ 0 = omega arith in rw e (omega arith)
ids_grow values from (suc to) l =
    elim (cases_lt to from) [
      | inl m ↦ (let e : from ≡ suc to = omega arith in rw e (omega arith))
      | inr m ↦ (let h = ids_grow values from to m in omega (arith, h))
    ]

none_below : (values : ℕ → Option (List ℕ)) → ids_below values 0 ≡ 0
unfolding ids_below
none_below values = refl

-- the first entries have the values of the ids below one; while an id is left, there are as many entries as ids below it with a value
pub record Filled (values : ℕ → Option (List ℕ)) (table : List Change) (at from : ℕ) : Type 0 where
  pub there : at ≤ length table
  pub small : from ≤ 2 ^ 16
  pub same : (id : ℕ) → id < from → kept (take at table) id ≡ values id
  pub none : (id : ℕ) → from ≤ id → kept (take at table) id ≡ None
  pub few : ids_below values from ≤ at
  pub all : from < 2 ^ 16 → ids_below values from ≡ at

pub filled_none : (values : ℕ → Option (List ℕ)) (table : List Change) → Filled values table 0 0
filled_none values table =
    let z = none_below values in
    record {
      there = omega arith;
      small = omega arith;
      same = λ id l. absurd (omega arith);
      none = λ id l. kept-none id;
      few = omega (arith, z);
      all = λ l. z;
    }

by_next : (values : ℕ → Option (List ℕ)) (table : List Change) (at from : ℕ) (entry : Change) → at < length table → Filled values table at from → IsNext values from entry → Filled values (set table at entry) (at + 1) (entry.id + 1)
by_next values table at from entry l f n =
    let a = n.after in
    let s = n.small in
    let w = f.small in
    let more : ids_below values (entry.id + 1) ≡ ids_below values entry.id + 1 = one_more values entry.id n.bytes n.is in
    let gap : ids_below values entry.id ≡ ids_below values from = ids_gap values from entry.id a n.first in
    let all : ids_below values from ≡ at = f.all (omega arith) in
    let size : length (set table at entry) ≡ length table = length-set table at entry in
    record {
      there = omega (arith, size);
      small = omega arith;
      same = λ id b. kept_set table at entry id l
          ∙ elim (cases_lt id from) [
            | inl m ↦ rw (f.same id m, own-other entry id (λ e. omega (arith, e))) (or_none (values id))
            | inr m ↦ elim (cases_lt id entry.id) [
              | inl k ↦ rw (f.none id m, own-other entry id (λ e. omega (arith, e))) (sym (n.first id m k))
              | inr k ↦ (let e : entry.id ≡ id = omega arith in rw (f.none id m, own-is entry id e, n.value_is) (sym (rw e at n.is)))
            ]
          ];
      none = λ id b. kept_set table at entry id l ∙ rw (f.none id (omega arith), own-other entry id (λ e. omega (arith, e))) refl;
      few = omega (arith, more, gap, all);
      all = λ m. omega (arith, more, gap, all);
    }

by_free : (values : ℕ → Option (List ℕ)) (table : List Change) (at from : ℕ) (entry : Change) → at < length table → Filled values table at from → NoneBetween values from (2 ^ 16) → entry.value ≡ None → Filled values (set table at entry) (at + 1) (2 ^ 16)
by_free values table at from entry l f n e =
    let w = f.small in
    let few = f.few in
    let gap : ids_below values (2 ^ 16) ≡ ids_below values from = ids_gap values from (2 ^ 16) w n in
    let size : length (set table at entry) ≡ length table = length-set table at entry in
    record {
      there = omega (arith, size);
      small = omega arith;
      same = λ id b. kept_set table at entry id l
          ∙ rw (own-free entry id e) (or_none (kept (take at table) id)
          ∙ elim (cases_lt id from) [
            | inl m ↦ f.same id m
            | inr m ↦ f.none id m ∙ sym (n id m b)
          ]);
      none = λ id b. kept_set table at entry id l ∙ rw (f.none id (omega arith), own-free entry id e) refl;
      few = omega (arith, gap, few);
      all = λ m. absurd (omega arith);
    }

end_next : (values : ℕ → Option (List ℕ)) (from : ℕ) (entry : Change) → IsNext values from entry → end_of entry ≡ entry.id + 1
end_next values from entry n = rw n.value_is refl

end_free : (entry : Change) → entry.value ≡ None → end_of entry ≡ 2 ^ 16
end_free entry e = rw e refl

pub filled_more : (values : ℕ → Option (List ℕ)) (table : List Change) (at from : ℕ) (entry : Change) → at < length table → Filled values table at from → IsEntry values from entry → Filled values (set table at entry) (at + 1) (end_of entry)
filled_more values table at from entry l f (is_next n) = rw (end_next values from entry n) (by_next values table at from entry l f n)
filled_more values table at from entry l f (is_last n e) = rw (end_free entry e) (by_free values table at from entry l f n e)

-- no id is left
nothing_left : (values : ℕ → Option (List ℕ)) (from : ℕ) (entry : Change) → IsEntry values from entry → entry.value ≡ None → NoneBetween values from (2 ^ 16)
nothing_left values from entry h1 h2 = grind (arith, common_steps)

pub filled_all : (values : ℕ → Option (List ℕ)) (table : List Change) (at from : ℕ) (entry : Change) → length table ≤ at → Filled values table at from → IsEntry values from entry → entry.value ≡ None → (id : ℕ) → id < 2 ^ 16 → kept table id ≡ values id
filled_all values table at from entry h1 h2 h3 h4 id h5 = grind (arith, common_steps, nothing_left, take_all, cases_lt)

pub filled_fits : (values : ℕ → Option (List ℕ)) (table : List Change) (at from : ℕ) (entry : Change) → length table ≤ at → Filled values table at from → IsEntry values from entry → entry.value ≡ None → ids_below values (2 ^ 16) ≤ length table
filled_fits values table at from entry l f n e =
    let gap : ids_below values (2 ^ 16) ≡ ids_below values from = ids_gap values from (2 ^ 16) f.small (nothing_left values from entry n e) in
    let few = f.few in
    let there = f.there in
    omega (arith, gap, few, there)

-- or one is
pub filled_short : (values : ℕ → Option (List ℕ)) (table : List Change) (at from : ℕ) (entry : Change) (bytes : List ℕ) → length table ≤ at → Filled values table at from → IsEntry values from entry → entry.value ≡ Some bytes → ids_below values (2 ^ 16) ≤ length table → ⊥
filled_short values table at from entry bytes l f (is_last n m) e few = let s : None ≡ Some bytes = sym m ∙ e in cc
filled_short values table at from entry bytes l f (is_next n) e few =
    let a = n.after in
    let s = n.small in
    let more : ids_below values (entry.id + 1) ≡ ids_below values entry.id + 1 = one_more values entry.id n.bytes n.is in
    let gap : ids_below values entry.id ≡ ids_below values from = ids_gap values from entry.id a n.first in
    let all : ids_below values from ≡ at = f.all (omega arith) in
    let grown = ids_grow values (entry.id + 1) (2 ^ 16) (omega arith) in
    omega (arith, more, gap, all, grown)

-- an id is taken out of a table, an entry at a time
pub record Forgotten (old table : List Change) (id at : ℕ) : Type 0 where
  pub length_is : length table ≡ length old
  pub there : at ≤ length table
  pub gone : kept (take at table) id ≡ None
  pub others : (other : ℕ) → other ≢ id → kept table other ≡ kept old other

pub forgotten_none : (table : List Change) (id : ℕ) → Forgotten table table id 0
forgotten_none table id = record {
  length_is = refl;
  there = omega arith;
  gone = kept-none id;
  others = λ other n. refl;
}

pub forgotten_set : (old table : List Change) (id at : ℕ) (entry d : Change) → at < length table → Forgotten old table id at → (get_or table at d).id ≡ id → entry.value ≡ None → Forgotten old (set table at entry) id (at + 1)
forgotten_set old table id at entry d l f i e =
    let size : length (set table at entry) ≡ length table = length-set table at entry in
    record {
      length_is = size ∙ f.length_is;
      there = omega (arith, size);
      gone = kept_set table at entry id l ∙ rw (f.gone, own-free entry id e) refl;
      others = λ other n. set_other table at entry d other l (own-other (get_or table at d) other (λ k. n (sym k ∙ i))) (own-free entry other e) ∙ f.others other n;
    }

pub forgotten_other : (old table : List Change) (id at : ℕ) (d : Change) → at < length table → Forgotten old table id at → ((get_or table at d).id ≡ id → ⊥) → Forgotten old table id (at + 1)
forgotten_other old table id at d l f n = record {
  length_is = f.length_is;
  there = omega arith;
  gone = kept_same table at d id l ∙ rw (f.gone, own-other (get_or table at d) id n) refl;
  others = f.others;
}

pub forgotten_all : (old table : List Change) (id at : ℕ) → length table ≤ at → Forgotten old table id at → kept table id ≡ None
forgotten_all old table id at l f = rw (take_all at table l) at f.gone

-- the first entry of a table
pub front : (table : List Change) (entry d : Change) → 1 ≤ length table → entry ≡ get_or table 0 d → table ≡ entry ∷ take (length table - 1) (drop 1 table)
front table entry d h1 h2 = grind (arith, common_steps)

pub front_value : (table : List Change) (entry d : Change) (id : ℕ) (bytes : List ℕ) → 1 ≤ length table → entry ≡ get_or table 0 d → entry.id ≡ id → entry.value ≡ Some bytes → kept table id ≡ Some bytes
front_value table entry d id bytes h1 h2 h3 h4 = grind (arith, common_steps, front, kept-first, own-is)

pub front_other : (table : List Change) (entry d : Change) (id : ℕ) → 1 ≤ length table → entry ≡ get_or table 0 d → own entry id ≡ None → kept (take (length table - 1) (drop 1 table)) id ≡ kept table id
front_other table entry d id h1 h2 h3 = grind (arith, common_steps, front, kept-first)

pub nothing_kept : (table : List Change) (id : ℕ) → length table < 1 → kept table id ≡ None
nothing_kept table id h1 = grind (arith, common_steps, kept-none)
