-- How a tidy reads the borders on its way: as a get does, but no row.
use Rattle.std.specs.Prelude.{ℕ, ◌≡◌, List, []}
use Rattle.mt_border.specs.declared.field.ValuePart.{ValuePart}
use Rattle.mt_arena.specs.declared.part.Part.{Part}
use Rattle.mt_arena.specs.declared.part.Part.TheVariants.{Head as HeadPart, Interior as InteriorPart, Version as VersionPart, Right as RightPart, Order as OrderPart, Key as KeyPart, Value as ValuePartOf}
use Rattle.mt_tree.specs.Descent.{visit_head, visit_interior}
use Rattle.mt_slice.specs.Place.{slice_number}
use Rattle.mt_steps.specs.declared.finding.Kind.TheVariants.{Row as RowKind, Link as LinkKind}
use Rattle.mt_steps.specs.declared.finding.Sight.TheVariants.{Absent}
use Rattle.mt_steps.specs.declared.reader.Reader.TheVariants.{AtValue}
use Rattle.mt_steps.specs.declared.reader.Reading.TheVariants.{Repeats, GoesOn}
use Rattle.mt_arena.specs.Arena.{ArenaView}
use Rattle.mt_steps.specs.Standing.{Lends}
use Rattle.mt_steps.specs.Reader.{wants, by_visit, at_version, at_right}
use Rattle.mt_steps.specs.Finding.{Finding, FindReading, settles, value_read, at_order, at_key}

-- it needs no row: if the key that is sought has one, it has read all that it needs
abbrev pub without_row : FindReading → FindReading
without_row (GoesOn (AtValue notes RowKind)) = settles notes.glance.counters Absent
without_row reading = reading

-- the value of a key that leads below
abbrev pub at_link : Finding → ValuePart → FindReading
at_link (AtValue notes kind) part = value_read [] notes.glance.counters LinkKind part
at_link _ part = Repeats

-- WHAT IT DOES, by what it is lent of the node at which it is, and by nothing else
abbrev pub seek_reading : Finding → List ℕ → Part → FindReading
seek_reading finding rest (HeadPart part) = by_visit (visit_head part.now)
seek_reading finding rest (InteriorPart part) = by_visit (visit_interior (slice_number rest) part.now)
seek_reading finding rest (VersionPart version) = at_version finding version
seek_reading finding rest (RightPart right) = at_right finding right (slice_number rest)
seek_reading finding rest (OrderPart order) = at_order finding order
seek_reading finding rest (KeyPart part) = without_row (at_key finding part rest)
seek_reading finding rest (ValuePartOf part) = at_link finding part

-- it reads one field, or visits one head or interior
pub record SeekReads (a : ArenaView) (number : ℕ) (rest : List ℕ) (finding : Finding) (reading : FindReading) : Type 0 where
  pub part : Part
  pub lent : Lends a number (wants finding) part
  pub does : reading ≡ seek_reading finding rest part
