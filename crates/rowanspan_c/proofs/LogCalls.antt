-- What comes of calls on the log that a handle holds, case by case.
use Rattle.std.proofs.Common.{◌≡◌, ℕ, Bool, refl, sym, subst, inl}
use Rattle.std.specs.Prelude.{Option, Some, None}
use Rattle.mt_index.specs.declared.options.Options.{Options}
use Rattle.mt_map.specs.Tidies.{MapView}
use Rattle.rowanspan_c.specs.declared.file_log.FileLog.{FileLog}
use Rattle.rowanspan_c.specs.Logs.{AdvancesFile, AdvancesLog, HasRows, OpensFolder, SyncsFile, SyncsLog, WritesFile, WritesLog}

pub syncs_done : (held next : Option FileLog) (s t : FileLog) (status told : ℕ) → held ≡ Some s → next ≡ Some t
    → SyncsFile s t status told → SyncsLog held next status told
syncs_done held next s t status told is after syncs =
    subst (λ (h : Option FileLog). SyncsLog h next status told) (sym is) (t, after, syncs)

pub writes_done : (index : Option MapView) (held next : Option FileLog) (m : MapView) (s t : FileLog) (status told : ℕ)
    → index ≡ Some m → held ≡ Some s → next ≡ Some t → WritesFile m s t status told → WritesLog index held next status told
writes_done index held next m s t status told there is after writes =
    subst (λ (i : Option MapView). WritesLog i held next status told) (sym there)
    (subst (λ (h : Option FileLog). WritesLog (Some m) h next status told) (sym is) (t, after, writes))

pub advances_done : (index : Option MapView) (begins : Bool) (held next : Option FileLog) (m : MapView) (s t : FileLog) (status told : ℕ)
    → index ≡ Some m → held ≡ Some s → next ≡ Some t → AdvancesFile m begins s t status told → AdvancesLog index begins held next status told
advances_done index begins held next m s t status told there is after advances =
    subst (λ (i : Option MapView). AdvancesLog i begins held next status told) (sym there)
    (subst (λ (h : Option FileLog). AdvancesLog (Some m) begins h next status told) (sym is) (t, after, advances))

-- the rows of a folder are loaded if the handles hold none
pub opens_done : (index next : Option MapView) (log after : Option FileLog) (options : Options) → index ≡ None → log ≡ None
    → (m : MapView) (s : FileLog) → next ≡ Some m → after ≡ Some s → HasRows options m s → OpensFolder index log options next after 0
opens_done index next log after options free log_free m s there kept rows =
    subst (λ (i : Option MapView). OpensFolder i log options next after 0) (sym free)
    (subst (λ (l : Option FileLog). OpensFolder None l options next after 0) (sym log_free) (inl (m, s, there, kept, refl, rows)))
