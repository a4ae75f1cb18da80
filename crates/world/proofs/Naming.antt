-- The usages of a report are those that the codes of the keys name that are down.
use Rattle.std.proofs.Common.{◌≡◌, ◌⊎◌, ◌↔◌, ℕ, ◌+◌, ◌-◌, ◌<◌, ◌≤◌, ◌==◌, ◌&&◌, ◌||◌, nat_le, Bool, true, false, List, [], ◌∷◌, ◌++◌, length, take, map, min, get_or, slice_index_or, refl, sym, ◌∙◌, ap, subst, arith, inl, inr}
use Rattle.std.specs.Prelude.{Contains}
use Rattle.std.specs.List.{All}
use Rattle.std.specs.List.Sorted.{IsStrictlyIncreasing}
use Rattle.std.proofs.lemmas.Bool.{eqb-true, cases_lt}
use Rattle.std.proofs.lemmas.Bool.Decides.{nat_tests}
use Rattle.std.proofs.lemmas.Grind.{get_or_default_zero}
use Rattle.std.proofs.lemmas.List.{take_all, length-map, length-take, get_or-map, get_or-take}
use Rattle.std.proofs.lemmas.List.Kept.{AllPairs-from_increasing}
use Rattle.std.proofs.lemmas.List.Elements.{Contains-append_left, Contains-append_right, Contains-append_cases, All-map, All-take, All-contains, All-contains_itself}
use Rattle.layers.specs.Codes.{is_between, is_key_usage, is_modifier, is_consumer, names_consumer}
use Rattle.reports.specs.declared.Input.{Input}
use Rattle.reports.specs.declared.Input.TheVariants.{Boot, One, Two}
use Rattle.reports.specs.Wanted.{listed, consumer_listed}
use Rattle.reports.proofs.Members.{le_test, gt_test}
use Rattle.reports.proofs.Rising.{members-rising, members-sound, members-complete}
use Rattle.key_reports.specs.Calls.{KeyCall}
use Rattle.key_reports.specs.Codes.{SomeKeyHas}
use Rattle.key_reports.specs.Past.{keys_after, consumer_after}
use Rattle.key_reports.proofs.Pressed.{keys_after-some, consumer_after-some}
use Rattle.world.specs.Usages.{key_usages, modifier_usages, boot_key_usages, consumer_usages, wanted_usages}
use Rattle.world.specs.Named.{IsKeyNamed, IsConsumerNamed}

-- ---- the numbers of codes

both : (a b : Bool) → (a && b) ≡ true → (a ≡ true) × (b ≡ true)
both true b e = (refl, e)
both false b e = cc

either : (a b : Bool) → (a || b) ≡ true → (a ≡ true) ⊎ (b ≡ true)
either true b e = inl refl
either false b e = inr e

is_le : (a b : ℕ) → nat_le a b ≡ true → a ≤ b
is_le a b e = grind (arith, nat_tests)

between : (low high n : ℕ) → is_between low high n ≡ true → (low ≤ n) × (n ≤ high)
between low high n e = (let t = both (nat_le low n) (nat_le n high) e in (is_le low n t.0, is_le n high t.1))

-- ---- page 07h

key_named : (past : List KeyCall) (usage : ℕ) → 0x70000 ≤ usage → keys_after past (usage - 0x70000) ≡ true → IsKeyNamed past usage
key_named past usage l e = record { number = usage - 0x70000; usage_is = omega (arith, l); named = (keys_after-some past (usage - 0x70000)).0 e }

-- a usage that is named is a key's or a modifier's
record IsKept (past : List KeyCall) (usage : ℕ) : Type 0 where
  low : 0x70000 ≤ usage
  ranges : ((0x70004 ≤ usage) × (usage < 0x70004 + 161)) ⊎ ((0x700E0 ≤ usage) × (usage < 0x700E0 + 8))
  on : keys_after past (usage - 0x70000) ≡ true

kept_range : (code number usage : ℕ) → code ≡ number → usage ≡ 0x70000 + number → (is_key_usage code ≡ true) ⊎ (is_modifier code ≡ true)
    → ((0x70004 ≤ usage) × (usage < 0x70004 + 161)) ⊎ ((0x700E0 ≤ usage) × (usage < 0x700E0 + 8))
kept_range code number usage e u (inl k) = (let b = between 0x0004 0x00A4 code k in inl (omega (arith, b.0, e, u), omega (arith, b.1, e, u)))
kept_range code number usage e u (inr m) = (let b = between 0x00E0 0x00E7 code m in inr (omega (arith, b.0, e, u), omega (arith, b.1, e, u)))

key_kept : (past : List KeyCall) (usage : ℕ) → IsKeyNamed past usage → IsKept past usage
key_kept past usage n =
    let code = n.named.code in
    let t = both (is_key_usage code || is_modifier code) (code == n.number) n.named.does in
    let number : usage - 0x70000 ≡ n.number = omega (arith, n.usage_is) in
    record {
      low = omega (arith, n.usage_is);
      ranges = kept_range code n.number usage (eqb-true code n.number t.1) n.usage_is (either (is_key_usage code) (is_modifier code) t.0);
      on = rw number ((keys_after-some past n.number).1 n.named);
    }

modifiers-named : (past : List KeyCall) (usage : ℕ) → Contains (modifier_usages (keys_after past)) usage → (0x700E0 ≤ usage) × IsKeyNamed past usage
modifiers-named past usage c =
    let m = members-sound (λ u. keys_after past (u - 0x70000)) 0x700E0 8 usage c in
    (m.0, key_named past usage (omega (arith, m.0)) m.2)

keys-named : (past : List KeyCall) (usage : ℕ) → Contains (key_usages (keys_after past)) usage → IsKeyNamed past usage
keys-named past usage c =
    let m = members-sound (λ u. keys_after past (u - 0x70000)) 0x70004 161 usage c in
    key_named past usage (omega (arith, m.0)) m.2

both-named : (past : List KeyCall) (usage : ℕ) → Contains (key_usages (keys_after past) ++ modifier_usages (keys_after past)) usage → IsKeyNamed past usage
both-named past usage c = elim (Contains-append_cases (key_usages (keys_after past)) (modifier_usages (keys_after past)) usage c) [
  | inl k ↦ keys-named past usage k
  | inr m ↦ (modifiers-named past usage m).1
]

modifier-listed : (past : List KeyCall) (usage : ℕ) → 0x700E0 ≤ usage → usage < 0x700E0 + 8 → keys_after past (usage - 0x70000) ≡ true → Contains (modifier_usages (keys_after past)) usage
modifier-listed past usage l h on = members-complete (λ u. keys_after past (u - 0x70000)) 0x700E0 8 usage (l, h, on)

named-both : (past : List KeyCall) (usage : ℕ) → IsKeyNamed past usage → Contains (key_usages (keys_after past) ++ modifier_usages (keys_after past)) usage
named-both past usage n = (let k = key_kept past usage n in elim k.ranges [
  | inl r ↦ Contains-append_left (key_usages (keys_after past)) (modifier_usages (keys_after past)) usage (members-complete (λ u. keys_after past (u - 0x70000)) 0x70004 161 usage (r.0, r.1, k.on))
  | inr r ↦ Contains-append_right (key_usages (keys_after past)) (modifier_usages (keys_after past)) usage (modifier-listed past usage r.0 r.1 k.on)
])

named-modifier : (past : List KeyCall) (usage : ℕ) → 0x700E0 ≤ usage → IsKeyNamed past usage → Contains (modifier_usages (keys_after past)) usage
named-modifier past usage l n = (let k = key_kept past usage n in elim k.ranges [
  | inl r ↦ absurd (omega (arith, l, r.1))
  | inr r ↦ modifier-listed past usage r.0 r.1 k.on
])

-- ---- the reports

pub bitmap_names : (past : List KeyCall) (consumer : ℕ → Bool) (input : Input) (usages : List ℕ) → usages ≡ wanted_usages (keys_after past) consumer input → input ≡ One
    → (usage : ℕ) → Contains usages usage ↔ IsKeyNamed past usage
bitmap_names past consumer input usages e i usage =
    let are : usages ≡ key_usages (keys_after past) ++ modifier_usages (keys_after past) = e ∙ ap (λ (x : Input). wanted_usages (keys_after past) consumer x) i in
    (λ c. both-named past usage (subst (λ (l : List ℕ). Contains l usage) are c), λ n. subst (λ (l : List ℕ). Contains l usage) (sym are) (named-both past usage n))

pub boot_names : (past : List KeyCall) (consumer : ℕ → Bool) (input : Input) (usages : List ℕ) → usages ≡ wanted_usages (keys_after past) consumer input → input ≡ Boot
    → length (listed (keys_after past)) ≤ 6 → (usage : ℕ) → Contains usages usage ↔ IsKeyNamed past usage
boot_names past consumer input usages e i few usage =
    let keys : boot_key_usages (keys_after past) ≡ key_usages (keys_after past) = rw (le_test (length (listed (keys_after past))) 6 few) refl in
    let are : usages ≡ key_usages (keys_after past) ++ modifier_usages (keys_after past) =
    e ∙ ap (λ (x : Input). wanted_usages (keys_after past) consumer x) i ∙ ap (λ (l : List ℕ). l ++ modifier_usages (keys_after past)) keys in
    (λ c. both-named past usage (subst (λ (l : List ℕ). Contains l usage) are c), λ n. subst (λ (l : List ℕ). Contains l usage) (sym are) (named-both past usage n))

one_item : (x u : ℕ) → Contains (x ∷ []) u → u ≡ x
one_item x u (k, l, e) = (let z : k ≡ 0 = omega arith in let f : x ≡ u = rw z at e in sym f)

rolled_over : (past : List KeyCall) (usage : ℕ) → Contains (0x70001 ∷ modifier_usages (keys_after past)) usage → (usage ≡ 0x70001) ⊎ ((0x700E0 ≤ usage) × IsKeyNamed past usage)
rolled_over past usage c = elim (Contains-append_cases (0x70001 ∷ []) (modifier_usages (keys_after past)) usage c) [
  | inl k ↦ inl (one_item 0x70001 usage k)
  | inr m ↦ inr (modifiers-named past usage m)
]

rolls_over : (past : List KeyCall) (usage : ℕ) → (usage ≡ 0x70001) ⊎ ((0x700E0 ≤ usage) × IsKeyNamed past usage) → Contains (0x70001 ∷ modifier_usages (keys_after past)) usage
rolls_over past usage (inl e) = Contains-append_left (0x70001 ∷ []) (modifier_usages (keys_after past)) usage (0, omega arith, sym e)
rolls_over past usage (inr (l, n)) = Contains-append_right (0x70001 ∷ []) (modifier_usages (keys_after past)) usage (named-modifier past usage l n)

pub overflow_names : (past : List KeyCall) (consumer : ℕ → Bool) (input : Input) (usages : List ℕ) → usages ≡ wanted_usages (keys_after past) consumer input → input ≡ Boot
    → 6 < length (listed (keys_after past)) → (usage : ℕ) → Contains usages usage ↔ ((usage ≡ 0x70001) ⊎ ((0x700E0 ≤ usage) × IsKeyNamed past usage))
overflow_names past consumer input usages e i many usage =
    let keys : boot_key_usages (keys_after past) ≡ 0x70001 ∷ [] = rw (gt_test (length (listed (keys_after past))) 6 many) refl in
    let are : usages ≡ 0x70001 ∷ modifier_usages (keys_after past) =
    e ∙ ap (λ (x : Input). wanted_usages (keys_after past) consumer x) i ∙ ap (λ (l : List ℕ). l ++ modifier_usages (keys_after past)) keys in
    (λ c. rolled_over past usage (subst (λ (l : List ℕ). Contains l usage) are c), λ n. subst (λ (l : List ℕ). Contains l usage) (sym are) (rolls_over past usage n))

-- ---- page 0Ch

consumer_named : (past : List KeyCall) (number : ℕ) → Contains (consumer_listed (consumer_after past)) number → IsConsumerNamed past (0xC0000 + number)
consumer_named past number c =
    let m = members-sound (consumer_after past) 1 1023 number c in
    record { number = number; usage_is = refl; named = (consumer_after-some past number).0 m.2 }

all_named : (past : List KeyCall) → All (IsConsumerNamed past) (consumer_usages (consumer_after past))
all_named past =
    let whole = consumer_listed (consumer_after past) in
    let first = All-take (Contains whole) 4 whole (All-contains_itself whole) in
    All-map (IsConsumerNamed past) (λ (u : ℕ). 0xC0000 + u) (take 4 whole) (λ k d l. consumer_named past (slice_index_or (take 4 whole) k d) (first k d l))

consumer_listed_of : (past : List KeyCall) (number : ℕ) → SomeKeyHas past (names_consumer number) → Contains (consumer_listed (consumer_after past)) number
consumer_listed_of past number s =
    let t = both (is_consumer s.code) (s.code == 0x4000 + number) s.does in
    let b = between 0x4001 0x43FF s.code t.0 in
    let code : s.code ≡ 0x4000 + number = eqb-true s.code (0x4000 + number) t.1 in
    members-complete (consumer_after past) 1 1023 number (omega (arith, b.0, code), omega (arith, b.1, code), (consumer_after-some past number).1 s)

pub consumer_is_named : (past : List KeyCall) (keys : ℕ → Bool) (input : Input) (usages : List ℕ) → usages ≡ wanted_usages keys (consumer_after past) input → input ≡ Two
    → (usage : ℕ) → Contains usages usage → IsConsumerNamed past usage
consumer_is_named past keys input usages e i usage c =
    let are : usages ≡ consumer_usages (consumer_after past) = e ∙ ap (λ (x : Input). wanted_usages keys (consumer_after past) x) i in
    All-contains (IsConsumerNamed past) (consumer_usages (consumer_after past)) usage (all_named past) (subst (λ (l : List ℕ). Contains l usage) are c)

contains_map : (f : ℕ → ℕ) (xs : List ℕ) (x : ℕ) → Contains xs x → Contains (map f xs) (f x)
contains_map f xs x (k, l, e) = (k, omega (arith, l, length-map xs f), get_or-map f xs k x (f x) l ∙ ap f e)

pub consumer_names : (past : List KeyCall) (keys : ℕ → Bool) (input : Input) (usages : List ℕ) → usages ≡ wanted_usages keys (consumer_after past) input → input ≡ Two
    → length (consumer_listed (consumer_after past)) ≤ 4 → (usage : ℕ) → IsConsumerNamed past usage → Contains usages usage
consumer_names past keys input usages e i few usage n =
    let whole = consumer_listed (consumer_after past) in
    let all : take 4 whole ≡ whole = take_all 4 whole few in
    let are : usages ≡ map (λ (u : ℕ). 0xC0000 + u) whole =
    e ∙ ap (λ (x : Input). wanted_usages keys (consumer_after past) x) i ∙ ap (λ (l : List ℕ). map (λ (u : ℕ). 0xC0000 + u) l) all in
    let there = contains_map (λ (u : ℕ). 0xC0000 + u) whole n.number (consumer_listed_of past n.number n.named) in
    rw (are, n.usage_is) there

-- what is less than an item of the first of a rising list is among them
less_in_front : (xs : List ℕ) (n u v : ℕ) → IsStrictlyIncreasing xs → Contains (take n xs) u → Contains xs v → v < u → Contains (take n xs) v
less_in_front xs n u v r (k, l, e) (j, m, f) less =
    let size = length-take n xs in
    let front : k < n = omega (arith, l, size) in
    let long : k < length xs = omega (arith, l, size) in
    let at_k : get_or xs k 0 ≡ u = sym (get_or_default_zero xs k u long) ∙ sym (get_or-take n xs k u front) ∙ e in
    let at_j : get_or xs j 0 ≡ v = sym (get_or_default_zero xs j v m) ∙ f in
    elim (cases_lt j k) [
      | inl before ↦ (let in_front : j < n = omega (arith, before, front) in (j, omega (arith, m, in_front, size), get_or-take n xs j v in_front ∙ f))
      | inr after ↦ absurd (not_after k j after at_k at_j m)
    ]
  where
    not_after : (k j : ℕ) → k ≤ j → get_or xs k 0 ≡ u → get_or xs j 0 ≡ v → j < length xs → ⊥
    not_after k j l at_k at_j m = elim (cases_lt k j) [
      | inl before ↦ omega (arith, AllPairs-from_increasing xs r k j 0 before m, at_k, at_j, less)
      | inr same ↦ (let one : k ≡ j = omega (arith, l, same) in omega (arith, ap (λ (i : ℕ). get_or xs i 0) one, at_k, at_j, less))
    ]

least_named : (whole : List ℕ) → IsStrictlyIncreasing whole → All (λ usage. (number : ℕ) → Contains whole number → 0xC0000 + number < usage → Contains (map (λ (u : ℕ). 0xC0000 + u) (take 4 whole)) (0xC0000 + number)) (map (λ (u : ℕ). 0xC0000 + u) (take 4 whole))
least_named whole r =
    let front = take 4 whole in
    let first = All-contains_itself front in
    All-map (λ usage. (number : ℕ) → Contains whole number → 0xC0000 + number < usage → Contains (map (λ (u : ℕ). 0xC0000 + u) front) (0xC0000 + number)) (λ (u : ℕ). 0xC0000 + u) front
    (λ k d l number c less. contains_map (λ (u : ℕ). 0xC0000 + u) front number
    (less_in_front whole 4 (slice_index_or front k d) number r (first k d l) c (omega (arith, less))))

-- the four least: with a usage that is read each lesser one is
pub consumer_least : (past : List KeyCall) (keys : ℕ → Bool) (input : Input) (usages : List ℕ) → usages ≡ wanted_usages keys (consumer_after past) input → input ≡ Two
    → (usage lesser : ℕ) → Contains usages usage → IsConsumerNamed past lesser → lesser < usage → Contains usages lesser
consumer_least past keys input usages e i usage lesser c n less =
    let whole = consumer_listed (consumer_after past) in
    let are : usages ≡ consumer_usages (consumer_after past) = e ∙ ap (λ (x : Input). wanted_usages keys (consumer_after past) x) i in
    let here : Contains (consumer_usages (consumer_after past)) usage = subst (λ (l : List ℕ). Contains l usage) are c in
    let all = All-contains (λ usage. (number : ℕ) → Contains whole number → 0xC0000 + number < usage → Contains (consumer_usages (consumer_after past)) (0xC0000 + number))
    (consumer_usages (consumer_after past)) usage (least_named whole (members-rising (consumer_after past) 1 1023)) here in
    let there = all n.number (consumer_listed_of past n.number n.named) (omega (arith, less, n.usage_is)) in
    rw (are, n.usage_is) there

pub consumer_size : (consumer keys : ℕ → Bool) (input : Input) (usages : List ℕ) → usages ≡ wanted_usages keys consumer input → input ≡ Two
    → length usages ≡ min 4 (length (consumer_listed consumer))
consumer_size consumer keys input usages e i =
    let front = take 4 (consumer_listed consumer) in
    ap length (e ∙ ap (λ (x : Input). wanted_usages keys consumer x) i) ∙ length-map front (λ (u : ℕ). 0xC0000 + u) ∙ length-take 4 (consumer_listed consumer)
