-- What packets a host took as new, and what reports they are.
use Rattle.std.proofs.lemmas.Grind.{common_steps}
use Rattle.std.proofs.Common.{◌≡◌, ℕ, ◌+◌, Bool, true, false, not, List, [], ◌∷◌, ◌++◌, length, drop, zero, suc, refl, sym, ap, subst, ◌∙◌, ◌⊎◌, inl, inr, arith}
use Rattle.usb_device.specs.Bus1.{Got, New, Anew, GivenUp, Known, same, received, Sent, Reported, Changed, is_old, newest}
use Rattle.usb_device.specs.Reports.{cut, packets_of, with_new, IsPacket, ArePieces, HasNew, MayRepeat, MayFollow, NothingCame, CarriesBy, Carries, Begun}
use Rattle.usb_device.specs.representation.Link1.{copies, new_of, ArePackets}

pub true_false : true ≡ false → ⊥
true_false e = cc

-- what the host took as new
pub with_new-append : (xs ys : List (List ℕ)) (got : List Got) → with_new (xs ++ ys) got ≡ with_new ys (with_new xs got)
with_new-append [] ys got = refl
with_new-append (x ∷ xs) ys got = with_new-append xs ys (New x ∷ got)

pub with_new-behind : (xs : List (List ℕ)) (pieces before : List Got) → with_new xs (pieces ++ before) ≡ with_new xs pieces ++ before
with_new-behind [] pieces before = refl
with_new-behind (x ∷ xs) pieces before = with_new-behind xs (New x ∷ pieces) before

pub pieces_new : (size : ℕ) (report : List ℕ) (xs : List (List ℕ)) (pieces : List Got) → ArePackets size report xs → ArePieces size report pieces
    → ArePieces size report (with_new xs pieces)
pieces_new size report [] pieces a p = p
pieces_new size report (x ∷ xs) pieces a p = pieces_new size report xs (New x ∷ pieces) a.1 (a.0, p)

may_still : (xs : List (List ℕ)) (pieces before : List Got) → MayRepeat pieces before → MayRepeat (with_new xs pieces) before
may_still [] pieces before h = h
may_still (x ∷ xs) pieces before h = may_still xs (New x ∷ pieces) before h

may_follow : (pieces before : List Got) → MayRepeat pieces before → MayFollow pieces before
may_follow [] before h = tt
may_follow (New packet ∷ rest) before h = h
may_follow (Anew state ∷ rest) before h = tt
may_follow (GivenUp ∷ rest) before h = tt
may_follow (Known ∷ rest) before h = tt

pub own : (size : ℕ) (report : List ℕ) (xs : List (List ℕ)) → ((x : List ℕ) → IsPacket x xs → IsPacket x (packets_of size report)) → ArePackets size report xs
own size report [] k = tt
own size report (x ∷ xs) k = (k x (inl refl), own size report xs (λ y i. k y (inr i)))

pub all_own : (size : ℕ) (report : List ℕ) → ArePackets size report (packets_of size report)
all_own size report = own size report (packets_of size report) (λ x i. i)

pub own-append : (size : ℕ) (report : List ℕ) (xs ys : List (List ℕ)) → ArePackets size report xs → ArePackets size report ys → ArePackets size report (xs ++ ys)
own-append size report [] ys a b = b
own-append size report (x ∷ xs) ys a b = (a.0, own-append size report xs ys a.1 b)

pub own_copies : (size : ℕ) (report : List ℕ) (again : Bool) → ArePackets size report (copies again (packets_of size report))
own_copies size report true = all_own size report
own_copies size report false = tt

pub nil-right : {A : Type 0} (xs : List A) → xs ++ [] ≡ xs
nil-right [] = refl
nil-right (x ∷ xs) = ap (λ r. x ∷ r) (nil-right xs)

pub snoc-append : {A : Type 0} (xs : List A) (x : A) (ys : List A) → (xs ++ x ∷ []) ++ ys ≡ xs ++ x ∷ ys
snoc-append [] x ys = refl
snoc-append (z ∷ xs) x ys = ap (λ r. z ∷ r) (snoc-append xs x ys)

pub snoc_some : {A : Type 0} (xs : List A) (x : A) → xs ++ x ∷ [] ≡ [] → ⊥
snoc_some xs x h1 = grind (arith, common_steps)

pub snoc-length : {A : Type 0} (xs : List A) (x : A) → length (xs ++ x ∷ []) ≡ length xs + 1
snoc-length [] x = omega arith
snoc-length (z ∷ xs) x = let e = snoc-length xs x in omega (arith, e)

pub marked_carries : (mark : Got) (old : Bool) (size : ℕ) (got : List Got) (sent : List Sent) → ((rest : List Got) → NothingCame rest → NothingCame (mark ∷ rest))
    → CarriesBy old size got sent → CarriesBy old size (mark ∷ got) sent
marked_carries mark old size got [] n c = n got c
marked_carries mark old size got (Changed ∷ earlier) n c = marked_carries mark true size got earlier n c
marked_carries mark old size got (Reported r ∷ earlier) n (inl c) = inl (mark ∷ c.0, c.1, c.2, ap (λ x. mark ∷ x) c.3, n c.0 c.4, c.5, c.6, c.7)
marked_carries mark old size got (Reported r ∷ earlier) n (inr c) =
    inr (c.0, mark ∷ c.1, c.2, c.3, ap (λ x. mark ∷ x) c.4, n c.1 c.5, c.6, c.7)

-- what the host has, it has also where the protocol was set behind it
pub any_carries : (size : ℕ) (got : List Got) (sent : List Sent) → Carries size got sent → CarriesBy true size got sent
any_carries size got [] c = c
any_carries size got (Changed ∷ earlier) c = c
any_carries size got (Reported r ∷ earlier) (inl c) = inl c
any_carries size got (Reported r ∷ earlier) (inr c) = absurd (true_false (sym c.0))

-- a report that came whole counts, whether or not the protocol was set behind it
pub newest_carries : (old : Bool) (size : ℕ) (got : List Got) (sent : List Sent) → Carries size got (newest sent) → CarriesBy old size got sent
newest_carries old size got [] c = c
newest_carries old size got (Changed ∷ earlier) c = newest_carries true size got earlier c
newest_carries old size got (Reported r ∷ earlier) (inl c) = inl c
newest_carries old size got (Reported r ∷ earlier) (inr c) = absurd (true_false (sym c.0))

-- where the protocol was set the newest report may be given up
given_by : (o : Bool) (size : ℕ) (report : List ℕ) (sent earlier : List Sent) (pieces before : List Got) → o ≡ true → newest sent ≡ Reported report ∷ earlier
    → ArePieces size report pieces → Carries size before earlier → CarriesBy o size (GivenUp ∷ (pieces ++ before)) sent
given_by o size report [] earlier pieces before t n a c = cc
given_by o size report (Changed ∷ sent) earlier pieces before t n a c = given_by true size report sent earlier pieces before refl n a c
given_by o size report (Reported r ∷ sent) earlier pieces before t n a c =
    let R : report ≡ r = let x = n in cc in
    let E : earlier ≡ sent = let x = n in cc in
    let A : List ℕ → Type 0 = λ x. ArePieces size x pieces in
    let C : List Sent → Type 0 = λ x. Carries size before x in
    inr (t, [], pieces, before, refl, tt, subst A R a, subst C E c)

pub gives_up : (size : ℕ) (report : List ℕ) (sent earlier : List Sent) (got : List Got) (b : Begun size report got earlier) → is_old sent ≡ true
    → newest sent ≡ Reported report ∷ earlier → Carries size (GivenUp ∷ got) sent
gives_up size report [] earlier got b o n = absurd (true_false (sym o))
gives_up size report (Changed ∷ sent) earlier got b o n =
    let P : List Got → Type 0 = λ x. CarriesBy true size (GivenUp ∷ x) sent in
    subst P (sym b.got_is) (given_by true size report sent earlier b.pieces b.before refl n b.are b.carried)
gives_up size report (Reported r ∷ sent) earlier got b o n = absurd (true_false (sym o))

-- where it was not set
pub newest_now : (sent : List Sent) → is_old sent ≡ false → newest sent ≡ sent
newest_now sent h1 = grind (arith, common_steps)

pub whole : (size : ℕ) (report : List ℕ) (got pieces before : List Got) (earlier : List Sent) → got ≡ pieces ++ before → ArePieces size report pieces
    → MayFollow pieces before → Carries size before earlier → Carries size (with_new (packets_of size report) got) (Reported report ∷ earlier)
whole size report got pieces before earlier e a o k = inl ([], pieces, before, ap (λ x. with_new (packets_of size report) x) e, tt, a, o, k)

-- behind other packets of the report
pub whole_behind : (size : ℕ) (report : List ℕ) (xs : List (List ℕ)) (got pieces before : List Got) (earlier : List Sent) → ArePackets size report xs
    → got ≡ pieces ++ before → ArePieces size report pieces → MayRepeat pieces before → Carries size before earlier
    → Carries size (with_new (xs ++ packets_of size report) got) (Reported report ∷ earlier)
whole_behind size report xs got pieces before earlier x e a o k =
    let C : List Got → Type 0 = λ y. Carries size y (Reported report ∷ earlier) in
    subst C (sym (with_new-append xs (packets_of size report) got))
    (whole size report (with_new xs got) (with_new xs pieces) before earlier (ap (λ y. with_new xs y) e ∙ with_new-behind xs pieces before)
    (pieces_new size report xs pieces x a) (may_follow (with_new xs pieces) before (may_still xs pieces before o)) k)

-- what is to be handed over brings the report whole, once more where the toggles may differ
pub will : (unsure a : Bool) (size : ℕ) (report : List ℕ) (got pieces before : List Got) (earlier : List Sent) → got ≡ pieces ++ before
    → ArePieces size report pieces → MayFollow pieces before → (unsure ≡ true → MayRepeat pieces before) → (unsure ≡ false → a ≡ true)
    → Carries size before earlier
    → Carries size (with_new (new_of a (packets_of size report ++ copies unsure (packets_of size report))) got) (Reported report ∷ earlier)
will false true size report got pieces before earlier e p o u s k =
    let C : List (List ℕ) → Type 0 = λ y. Carries size (with_new y got) (Reported report ∷ earlier) in
    subst C (sym (nil-right (packets_of size report))) (whole size report got pieces before earlier e p o k)
will false false size report got pieces before earlier e p o u s k = absurd (true_false (sym (s refl)))
will true true size report got pieces before earlier e p o u s k =
    whole_behind size report (packets_of size report) got pieces before earlier (all_own size report) e p (u refl) k
will true false size report got pieces before earlier e p o u s k =
    whole_behind size report (new_of false (packets_of size report)) got pieces before earlier (all_own size report).1 e p (u refl) k

pub received_begun : (a : Bool) (size : ℕ) (report packet : List ℕ) (got : List Got) (earlier : List Sent) → IsPacket packet (packets_of size report)
    → Begun size report got earlier → Begun size report (received a packet got) earlier
received_begun true size report packet got earlier i b = record {
  pieces = New packet ∷ b.pieces;
  before = b.before;
  got_is = ap (λ x. New packet ∷ x) b.got_is;
  are = (i, b.are);
  carried = b.carried;
}
received_begun false size report packet got earlier i b = b

-- the host has a packet, where it takes this one as new or has one already
pub received_has : (a : Bool) (size : ℕ) (report packet : List ℕ) (got : List Got) (earlier : List Sent) (i : IsPacket packet (packets_of size report))
    (b : Begun size report got earlier) → (a ≡ true) ⊎ HasNew b.pieces → HasNew (received_begun a size report packet got earlier i b).pieces
unfolding received_begun
received_has true size report packet got earlier i b h = tt
received_has false size report packet got earlier i b (inl e) = absurd (true_false (sym e))
received_has false size report packet got earlier i b (inr h) = h

pub length-append : {A : Type 0} (xs ys : List A) → length (xs ++ ys) ≡ length xs + length ys
length-append [] ys = omega arith
length-append (x ∷ xs) ys = let e = length-append xs ys in omega (arith, e)

pub length-cut : (size count : ℕ) (bytes : List ℕ) → length (cut size count bytes) ≡ count
length-cut size zero bytes = refl
length-cut size (suc count) bytes = let e = length-cut size count (drop size bytes) in omega (arith, e)

pub received_will : (a : Bool) (packet : List ℕ) (rest : List (List ℕ)) (got : List Got) → with_new (new_of a (packet ∷ rest)) got ≡ with_new rest (received a packet got)
received_will a packet rest got = grind (arith, common_steps)

pub same_self : (x : Bool) → same x x ≡ true
same_self x = grind (arith, common_steps)

pub same_not : (x : Bool) → same (not x) x ≡ false
same_not x = grind (arith, common_steps)
