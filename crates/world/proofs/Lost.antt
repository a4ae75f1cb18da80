-- A command that is settled, and that a restart loses.
use Rattle.std.proofs.Common.{◌≡◌, List, [], ◌∷◌, ◌++◌, refl, ◌∙◌, ap, subst, arith}
use Rattle.layers.specs.Standard.{standard}
use Rattle.layers.specs.Entries.{last_written, changed, commands_in, entry_in}
use Rattle.layers.specs.Held.{any_below}
use Rattle.page_turnover.specs.Active.{newer, newest, active, format}
use Rattle.page_turnover.specs.Words.{words}
use Rattle.keymap_store.specs.Keymap.{entries_of}
use Rattle.keymap_store.specs.declared.store.Work.TheVariants.{Settled}
use Rattle.control_ep.specs.declared.answer.EpAnswer.TheVariants.{Ack as EpAck}
use Rattle.host.specs.Kept.{gathering}
use Rattle.keyboard.specs.Calls.{Call, Out, Worked as KeyboardWorked, keymap}
use Rattle.keyboard.specs.Commands.{Accepted, accepts, accepted, settled_of, commands_of}
use Rattle.keyboard.specs.Effects.{report_named}
use Rattle.keyboard.specs.Fate.{changes}
use Rattle.keyboard.specs.Restart.{LegalRestart}
use Rattle.world.specs.History.{EachStep, EachPoint}
use Rattle.world.specs.Moments.{MovesOn}
use Rattle.world.specs.Readings.{ReadsWanted, GathersServed}
use Rattle.world.specs.Restart.{StartsLegally, ShowsSettled}
use Rattle.world.proofs.Broken.{asked, done, set_key, default_code, four_not}
use Rattle.world.specs.Histories.{blank, set_report, settled_and_lost}

-- the session before the cut, as the keyboard sees it
abbrev ended : List Call
ended = KeyboardWorked Settled [] ∷ Out set_report EpAck ∷ asked

is_settled : accepted standard [] ended ≡ done ∷ []
unfolding accepted accepts report_named changes any_below last_written changed commands_in entry_in newer newest active format words entries_of
is_settled = refl

sets_five : changed standard (keymap standard []) (set_key ∷ []) 0 0 ≡ 5
unfolding last_written changed
sets_five = refl

abbrev first_of : List Accepted → Accepted
first_of [] = done
first_of (one ∷ later) = one

-- the prefix has to hold the command, and with it the entry is another
lost_by : (kept lost : List Accepted) → kept ++ lost ≡ done ∷ [] → settled_of lost ≡ [] → keymap standard [] 0 0 ≡ changed standard (keymap standard []) (commands_of kept) 0 0 → ⊥
lost_by [] lost p s c = (let e : settled_of lost ≡ set_key ∷ [] = ap settled_of p in cc)
lost_by (one ∷ []) lost p s c =
    let same : one ≡ done = ap first_of p in
    let five = subst (λ (a : Accepted). keymap standard [] 0 0 ≡ changed standard (keymap standard []) (a.command ∷ []) 0 0) same c in
    four_not (keymap standard [] 0 0) default_code (five ∙ sets_five)
lost_by (one ∷ two ∷ kept) lost p s c = cc

lost_one : LegalRestart standard (keymap standard []) (done ∷ []) (keymap standard []) → ⊥
lost_one r = lost_by r.kept r.lost r.prefix r.holds_settled (r.changed_by 0 0 (omega arith) (omega arith))

pub not_legal : EachStep (StartsLegally standard) blank settled_and_lost → ⊥
not_legal h = lost_one (subst (λ (session : List Accepted). LegalRestart standard (keymap standard []) session (keymap standard [])) is_settled (h.0 refl))

-- nothing is looked at, read or gathered
pub looks : EachStep (ShowsSettled standard) blank settled_and_lost
looks = ((λ layer key l k e. cc), ((λ layer key l k e. cc), ((λ layer key l k e. cc), ((λ layer key l k e. cc), tt))))

pub reads : EachStep (ReadsWanted standard) blank settled_and_lost
reads = ((λ bytes reading e. cc), ((λ bytes reading e. cc), ((λ bytes reading e. cc), ((λ bytes reading e. cc), tt))))

pub moments : EachStep (MovesOn standard) blank settled_and_lost
moments = ((λ bytes reading e. cc), ((λ bytes reading e. cc), ((λ bytes reading e. cc), ((λ bytes reading e. cc), tt))))

pub gathers : EachPoint GathersServed blank settled_and_lost
unfolding gathering
gathers = ((λ fetch e. cc), ((λ fetch e. cc), ((λ fetch e. cc), ((λ fetch e. cc), (λ fetch e. cc)))))
