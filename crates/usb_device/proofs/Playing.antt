-- What happens on the bus of buffers that a script plays.
use Rattle.std.proofs.Common.{◌≡◌, ℕ, Bool, true, false, not, List, [], ◌∷◌, ◌++◌, Option, Some, refl, subst, ap, ◌∙◌}
use Rattle.usb_device.specs.Bus1.{Bus1, Got, received, same, takes, loses, host_begins, Happens1, Goes1}
use Rattle.usb_device.specs.representation.Played.{Moved, begun_if, slots_of, count_of_taken}

-- one thing more happens
pub moved_then : (steps : List Bus1) (b mid next : Bus1) → Goes1 steps b mid → Happens1 mid next → Goes1 (steps ++ next ∷ []) b next
moved_then [] b mid next e h = (subst (λ x. Happens1 x next) e h, refl)
moved_then (first ∷ rest) b mid next p h = (p.0, moved_then rest first mid next p.1 h)

pub noted : (got later : List Got) (is_new agrees : Bool) (bytes packet : List ℕ) → later ≡ received is_new bytes got → is_new ≡ agrees
    → bytes ≡ packet → later ≡ received agrees packet got
noted got later is_new agrees bytes packet e a b = e ∙ ap (λ x. received x bytes got) a ∙ ap (λ x. received agrees x got) b

pub takes_one : (got later : List Got) (host device taken opened reset : Bool) (slot : Option (List ℕ)) (packet : List ℕ)
    → slot ≡ Some packet → taken ≡ false → later ≡ received (same host device) packet got
    → Moved
    (record { got = got; host = host; device = device; slots = slots_of slot; taken = count_of_taken taken; opened = opened; reset = reset })
    (record { got = later; host = not device; device = not device; slots = []; taken = 1; opened = opened; reset = reset })
takes_one got later host device taken opened reset slot packet s t g = (_ ∷ [], (takes packet [] (ap slots_of s) (let x = s in let y = t in let z = g in cc), refl))

pub loses_one : (got later : List Got) (host device taken opened reset : Bool) (slot : Option (List ℕ)) (packet : List ℕ)
    → slot ≡ Some packet → later ≡ received (same host device) packet got
    → Moved
    (record { got = got; host = host; device = device; slots = slots_of slot; taken = count_of_taken taken; opened = opened; reset = reset })
    (record { got = later; host = not device; device = device; slots = slots_of slot; taken = count_of_taken taken; opened = opened; reset = reset })
loses_one got later host device taken opened reset slot packet s g = (_ ∷ [], (loses packet [] (ap slots_of s) (let z = g in cc), refl))

pub began : (opened : Bool) (b next : Bus1) → b.opened ≡ opened → next ≡ begun_if opened b → Moved b next
began true b next o e = (next ∷ [], (host_begins o e, refl))
began false b next o e = ([], e)
