use Rattle.std.proofs.Common.{◌≡◌, ◌∙◌, sym, Ok, Err, rules}
use Rattle.settings_log.specs.declared.store.SettingsError.TheVariants.{Foreign, Damaged}
use Rattle.settings_log.proofs.store.transaction.Goals as goal

pub returns-in_err-usable-clause-foreign : goal.returns-in_err-usable-clause-foreign
returns-in_err-usable-clause-foreign g c page f short =
    let refused : c.usable.result ≡ Err Foreign = c.usable.ensures.foreign page f in
    search rules

pub returns-then-all_hold-clause-foreign : goal.returns-then-all_hold-clause-foreign
returns-then-all_hold-clause-foreign g c page f short =
    let refused : c.usable.result ≡ Err Foreign = c.usable.ensures.foreign page f in
    search rules

pub returns-then-words-end-clause-foreign : goal.returns-then-words-end-clause-foreign
returns-then-words-end-clause-foreign g c page f short =
    let refused : c.usable.result ≡ Err Foreign = c.usable.ensures.foreign page f in
    search rules

pub returns-in_err-at-clause-foreign : goal.returns-in_err-at-clause-foreign
returns-in_err-at-clause-foreign g c page f short =
    let refused : c.usable.result ≡ Err Foreign = c.usable.ensures.foreign page f in
    search rules

pub returns-clause-foreign : goal.returns-clause-foreign
returns-clause-foreign g c page f short =
    let refused : c.usable.result ≡ Err Foreign = c.usable.ensures.foreign page f in
    search rules

pub returns-in_err-usable-clause-damaged : goal.returns-in_err-usable-clause-damaged
returns-in_err-usable-clause-damaged g c none broken short =
    let refused : c.usable.result ≡ Err Damaged = c.usable.ensures.damaged none broken in
    search rules

pub returns-then-all_hold-clause-damaged : goal.returns-then-all_hold-clause-damaged
returns-then-all_hold-clause-damaged g c none broken short =
    let refused : c.usable.result ≡ Err Damaged = c.usable.ensures.damaged none broken in
    search rules

pub returns-then-words-end-clause-damaged : goal.returns-then-words-end-clause-damaged
returns-then-words-end-clause-damaged g c none broken short =
    let refused : c.usable.result ≡ Err Damaged = c.usable.ensures.damaged none broken in
    search rules

pub returns-in_err-at-clause-damaged : goal.returns-in_err-at-clause-damaged
returns-in_err-at-clause-damaged g c none broken short =
    let refused : c.usable.result ≡ Err Damaged = c.usable.ensures.damaged none broken in
    search rules

pub returns-clause-damaged : goal.returns-clause-damaged
returns-clause-damaged g c none broken short =
    let refused : c.usable.result ≡ Err Damaged = c.usable.ensures.damaged none broken in
    search rules

pub returns-in_err-usable-clause-same : goal.returns-in_err-usable-clause-same
returns-in_err-usable-clause-same g c none whole short same =
    let ok : c.usable.result ≡ Ok tt = c.usable.ensures.usable none whole in
    let failed : c.usable.result ≡ Err c.in_err-usable.field-0.0 = c.in_err-usable.was in
    absurd (let t : Err c.in_err-usable.field-0.0 ≡ Ok tt = sym failed ∙ ok in cc)
