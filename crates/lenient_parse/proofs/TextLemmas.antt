-- A whole text.
use Rattle.std.proofs.Common.{◌≡◌, ◌≢◌, ℕ, zero, suc, ◌+◌, ◌-◌, ◌<◌, ◌≤◌, ◌%◌, List, [], ◌∷◌, ◌++◌, length, take, drop, refl, ◌∙◌, ap, arith, false, inl, inr, length-drop}
use Rattle.std.proofs.lemmas.Bool.{cases_Bool, cond_both, ne_eqb, lt-ltb, le-ltb, ltb-false}
use Rattle.std.proofs.lemmas.List.{length-take}
use Rattle.std.specs.Prelude.{◌==◌, nat_lt, min, replicate, None}
use Rattle.descriptor_parse.specs.declared.fault.ParseError.{ParseError}
use Rattle.descriptor_parse.specs.Items.{ItemValue, data_size, item_size, front_item, first_items, items_at}
use Rattle.lenient_parse.specs.Late.{has_id}
use Rattle.lenient_parse.specs.Lenient.{text_from, origins_from, passed_from, whole, end_of, items_of, passed_over, rewritten, origins, lenient_of}
use Rattle.lenient_parse.specs.representation.Relation.{AreShort}

-- ---- the items of a text are short

data_few : (prefix : ℕ) → data_size prefix ≤ 4
data_few prefix = cond_both (prefix % 4 == 3) 4 (prefix % 4) (λ n. n ≤ 4) (λ e. omega arith) (λ e. omega arith)

front_few : (offset b : ℕ) (bs : List ℕ) → b ≢ 254 → item_size (b ∷ bs) ≤ length (b ∷ bs) → length (front_item offset (b ∷ bs)).bytes ≤ 4
front_few offset b bs short full =
    let no : (b == 254) ≡ false = ne_eqb b 254 short in
    let few = data_few b in
    let fits : 1 + data_size b ≤ length (b ∷ bs) = (rw no at full) in
    let all : length (drop 1 (take (1 + data_size b) (b ∷ bs))) ≡ data_size b =
    (let d : length (drop 1 (take (1 + data_size b) (b ∷ bs))) ≡ length (take (1 + data_size b) (b ∷ bs)) - 1 = length-drop 1 (take (1 + data_size b) (b ∷ bs)) in
    let t : length (take (1 + data_size b) (b ∷ bs)) ≡ min (1 + data_size b) (length (b ∷ bs)) = length-take (1 + data_size b) (b ∷ bs) in
    omega arith) in
    rw (no, all) few

first_short : (n offset : ℕ) (text : List ℕ) → AreShort (whole (first_items n offset text))
unfolding first_items
first_short zero offset text = tt
first_short (suc n) offset [] = tt
first_short (suc n) offset (b ∷ bs) =
    elim (cases_Bool (nat_lt (length (b ∷ bs)) (item_size (b ∷ bs)))) [
      | inl cut ↦ rw cut tt
      | inr full ↦ rw full (λ short. front_few offset b bs short (ltb-false _ _ full), first_short n (offset + item_size (b ∷ bs)) (drop (item_size (b ∷ bs)) (b ∷ bs)))
    ]

pub all_short : (text : List ℕ) → AreShort (items_of text)
unfolding items_at
all_short text = first_short (length text) 0 text

-- ---- what stands in place of a text

pub long_passes : (text : List ℕ) → 4096 < length text → passed_over text ≡ []
unfolding passed_over
long_passes text long = rw (lt-ltb _ _ long) refl

pub passed_is : (text : List ℕ) (items : List ItemValue) (passed : List ParseError) → length text ≤ 4096 → items ≡ items_of text
    → passed ≡ passed_from (has_id items) None [] items → passed ≡ passed_over text
unfolding passed_over
passed_is text items passed few e p = rw (le-ltb _ _ few) (p ∙ ap (λ xs. passed_from (has_id xs) None [] xs) e)

pub text_is : (text : List ℕ) (items : List ItemValue) (end : ℕ) (front part all : List ℕ) → items ≡ items_of text → end ≡ end_of (length text) (items_at 0 text)
    → part ≡ drop end text → front ≡ text_from (has_id items) None [] items → all ≡ front ++ part → all ≡ rewritten text
unfolding rewritten
text_is text items end front part all e n p f a = rw (a, f, p, n, e) refl

pub origins_is : (text : List ℕ) (items : List ItemValue) (end : ℕ) (front part all : List ℕ) → items ≡ items_of text → end ≡ end_of (length text) (items_at 0 text)
    → part ≡ drop end text → front ≡ origins_from (has_id items) None [] items → all ≡ front ++ replicate (length part) end → all ≡ origins text
unfolding origins
origins_is text items end front part all e n p f a = rw (a, f, p, n, e) refl

pub same_value : (text : List ℕ) (t o : List ℕ) (p : List ParseError) → t ≡ rewritten text → o ≡ origins text → p ≡ passed_over text
    → record { text = t; origins = o; passed = p; len = length text } ≡ lenient_of text
same_value text t o p a b c = rw (a, b, c) refl
