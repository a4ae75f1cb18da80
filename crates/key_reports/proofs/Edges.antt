-- The held keys after some of the keys of a set, one key more.
use Rattle.std.proofs.Common.{◌≡◌, ℕ, List, [], ◌∷◌, ◌++◌, map, reverse, append-nil, sym, ◌∙◌}
use Rattle.debounce.specs.declared.Scan.{Scan}
use Rattle.debounce.specs.Scans.{set_keys}
use Rattle.layers.specs.Held.{HeldCall}
use Rattle.layers.specs.representation.HeldRelation.{HeldValue, with_names, HeldRefines}
use Rattle.debounce.specs.declared.debouncer.Edges.{Edges}
use Rattle.key_reports.specs.representation.Edges.{with_releases, with_presses, with_edges, Takes}
use Rattle.key_reports.proofs.Those.{reverse-more}

-- `call` was made for each of these keys, in order
pub record Called (call : ℕ → HeldCall) (done : List ℕ) (old new : HeldValue) : Type 0 where
  pub each : (past : List HeldCall) → HeldRefines past old → HeldRefines (map call (reverse done) ++ past) new

pub called-none : (call : ℕ → HeldCall) (held : HeldValue) → Called call [] held held
called-none call held = record { each = λ past s. s }

pub called-more : (call : ℕ → HeldCall) (done : List ℕ) (key : ℕ) (old between new : HeldValue) → Called call done old between
    → ((past : List HeldCall) → HeldRefines past between → HeldRefines (call key ∷ past) new) → Called call (done ++ key ∷ []) old new
called-more call done key old between new c step =
    record { each = λ past s. rw (reverse-more done key) (step (map call (reverse done) ++ past) (c.each past s)) }

-- the keys that were yielded and those that are left are those of the set, and the call was made for each that was
-- yielded
pub record SoFar (split called : Type 0) : Type 0 where
  pub split_is : split
  pub called_is : called

-- and for each key of the set
pub called-all : (call : ℕ → HeldCall) (set : Scan) (done rest : List ℕ) (old new : HeldValue) → rest ≡ [] → done ++ rest ≡ set_keys set → Called call done old new
    → (past : List HeldCall) → HeldRefines past old → HeldRefines (map call (reverse (set_keys set)) ++ past) new
called-all call set done rest old new none split c past s =
    let e : done ≡ set_keys set = sym (append-nil done) ∙ (rw none at split) in
    rw (← e) (c.each past s)

pub takes_edges : (keymap : List ℕ) (edges : Edges) (old between new : HeldValue) → Takes (with_releases edges.released) old between → Takes (with_presses keymap edges.pressed) between new
    → Takes (with_edges keymap edges) old new
unfolding with_edges
takes_edges keymap edges old between new r p = record { each = λ past s. p.each (with_releases edges.released past) (r.each past s) }

-- and what the codes name is named
pub takes_named : (calls : List HeldCall → List HeldCall) (old new : HeldValue) → Takes calls old new → Takes calls old (with_names new)
takes_named calls old new t = record { each = λ past s. (let h = t.each past s in record { each = h.each }) }
