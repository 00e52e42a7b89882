-- Which of two files has the newer log.
use Rattle.std.specs.Prelude.{◌↔◌, ◌≡◌, ◌<◌, ◌≤◌, Bool, true, false, IsTrue, Option, Some, None}
use Rattle.mt_frame.specs.declared.entry.LogHeader.{LogHeader}

-- the log of the first header is newer than that of the other, or the only one
abbrev pub IsNewer : Bool → Option LogHeader → Option LogHeader → Type 0
IsNewer is_newer (Some header) (Some other) = IsTrue is_newer ↔ (other.generation < header.generation)
IsNewer is_newer (Some header) None = is_newer ≡ true
IsNewer is_newer None other = is_newer ≡ false

-- the log of the first header isn't newer than that of the other, or there is none
abbrev pub IsNoNewer : Option LogHeader → Option LogHeader → Type 0
IsNoNewer None other = Unit {0}
IsNoNewer (Some header) None = ⊥
IsNoNewer (Some header) (Some other) = header.generation ≤ other.generation
