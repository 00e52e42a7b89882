-- A tidy finds nothing before it looks at the version again.
use Rattle.std.proofs.Common.{ℕ, ◌+◌, List, [], length, drop, Bool, true, false, if◌then◌else◌}
use Rattle.std.specs.Prelude.{nat_lt}
use Rattle.std.specs.Str.{bytes_eq}
use Rattle.mt_slice.specs.Place.{slice_number}
use Rattle.mt_slice.specs.Classes.{class_number, class_of}
use Rattle.mt_word.specs.Version.{VersionView}
use Rattle.mt_border.specs.Keys.{part_bytes}
use Rattle.mt_border.specs.declared.field.KeyPart.{KeyPart}
use Rattle.mt_border.specs.declared.field.Mark.{Mark}
use Rattle.mt_border.specs.declared.field.Mark.TheVariants.{Plain, Unstable, Layer}
use Rattle.mt_border.specs.declared.field.ValuePart.{ValuePart}
use Rattle.mt_border.specs.declared.field.ValuePart.TheVariants.{Row as RowPart, Link as LinkPart}
use Rattle.mt_arena.specs.declared.part.Part.{Part}
use Rattle.mt_arena.specs.declared.part.Part.TheVariants.{Head as HeadPart, Interior as InteriorPart, Version as VersionPart, Right as RightPart, Order as OrderPart, Key as KeyPartOf, Value as ValuePartOf}
use Rattle.mt_tree.specs.Descent.{visit_head, visit_interior}
use Rattle.mt_tree.specs.declared.visit.Visit.{Visit}
use Rattle.mt_tree.specs.declared.visit.Visit.TheVariants.{Again as VisitAgain, To as VisitTo, Below as VisitBelow, Here as VisitHere}
use Rattle.mt_steps.specs.declared.finding.Kind.TheVariants.{Link as LinkKind}
use Rattle.mt_steps.specs.declared.finding.Sight.TheVariants.{Absent as AbsentSight}
use Rattle.mt_steps.specs.declared.reader.Counters.{Counters}
use Rattle.mt_steps.specs.declared.reader.Reader.TheVariants.{Begins, Looked, Bounded, Reads, AtValue, Settles}
use Rattle.mt_steps.specs.declared.reader.Reading.TheVariants.{GoesOn, Finds}
use Rattle.mt_steps.specs.Reader.{by_visit, by_mark, looked}
use Rattle.mt_steps.specs.Finding.{Finding, FindNotes, FindReading, next_key, key_found, is_before, key_compared, notes_at, value_read, settles}
use Rattle.mt_steps.proofs.ReaderLemmas.{looked_by, bounded_by, marked_by}
use Rattle.mt_remove.specs.Reading.{without_row, seek_reading}

abbrev pub NoFinds : FindReading → Type 0
NoFinds (Finds sight) = ⊥
NoFinds _ = Unit {0}

visit_none : (visit : Visit) → NoFinds (by_visit visit)
visit_none VisitAgain = tt
visit_none (VisitTo next) = tt
visit_none (VisitBelow head) = tt
visit_none VisitHere = tt

looked_none : (version : VersionView) → NoFinds (looked version)
looked_none version = looked_by NoFinds version (λ e. tt) (λ e. tt) (λ e. tt)

next_none : (notes : FindNotes) → NoFinds (next_key notes)
next_none notes = go (nat_lt notes.place (length notes.glance.order.live))
  where
    go : (c : Bool) → NoFinds (if c then GoesOn (Reads notes) else settles notes.glance.counters AbsentSight)
    go true = tt
    go false = tt

key_none : (rest : List ℕ) (notes : FindNotes) (part : KeyPart) → NoFinds (without_row (by_mark part.mark (key_compared rest notes part)))
key_none rest notes part = marked_by (λ r. NoFinds (without_row r)) part.mark (key_compared rest notes part) (λ set. tt)
    (λ clear. go (is_before part.slice (class_number part.class) (slice_number rest) (class_number (class_of (length rest)))) (is_before (slice_number rest) (class_number (class_of (length rest))) part.slice (class_number part.class)) part.mark (bytes_eq (part_bytes part) (drop 8 rest)))
  where
    next : (c : Bool) → NoFinds (without_row (if c then GoesOn (Reads (record notes { place = notes.place + 1 })) else settles notes.glance.counters AbsentSight))
    next true = tt
    next false = tt

    go : (less more : Bool) (mark : Mark) (same : Bool) → NoFinds (without_row (if less then next_key (record notes { place = notes.place + 1 }) else if more then settles notes.glance.counters AbsentSight else key_found notes mark same))
    go true more mark same = next (nat_lt (notes.place + 1) (length notes.glance.order.live))
    go false true mark same = tt
    go false false Plain true = tt
    go false false Plain false = tt
    go false false Layer same = tt
    go false false Unstable same = tt

value_none : (counters : Counters) (part : ValuePart) → NoFinds (value_read [] counters LinkKind part)
value_none counters (RowPart row) = tt
value_none counters (LinkPart head) = tt

-- it looks at the version again
abbrev pub LooksLast : Finding → Type 0
LooksLast (Settles counters sight) = Unit {0}
LooksLast _ = ⊥

pub seek_none : (finding : Finding) → (LooksLast finding → ⊥) → (rest : List ℕ) (part : Part) → NoFinds (seek_reading finding rest part)
seek_none finding before rest (HeadPart own) = visit_none (visit_head own.now)
seek_none finding before rest (InteriorPart own) = visit_none (visit_interior (slice_number rest) own.now)
seek_none Begins before rest (VersionPart version) = looked_none version
seek_none (Looked counters) before rest (VersionPart version) = looked_none version
seek_none (Bounded counters right) before rest (VersionPart version) = looked_none version
seek_none (Reads notes) before rest (VersionPart version) = looked_none version
seek_none (AtValue notes kind) before rest (VersionPart version) = looked_none version
seek_none (Settles counters sight) before rest (VersionPart version) = absurd (before tt)
seek_none Begins before rest (RightPart right) = tt
seek_none (Looked counters) before rest (RightPart right) = bounded_by NoFinds (slice_number rest) counters right (λ next e least. tt) (λ e. tt)
seek_none (Bounded counters link) before rest (RightPart right) = tt
seek_none (Reads notes) before rest (RightPart right) = tt
seek_none (AtValue notes kind) before rest (RightPart right) = tt
seek_none (Settles counters sight) before rest (RightPart right) = tt
seek_none Begins before rest (OrderPart order) = tt
seek_none (Looked counters) before rest (OrderPart order) = tt
seek_none (Bounded counters right) before rest (OrderPart order) = next_none (notes_at counters right order 0)
seek_none (Reads notes) before rest (OrderPart order) = tt
seek_none (AtValue notes kind) before rest (OrderPart order) = tt
seek_none (Settles counters sight) before rest (OrderPart order) = tt
seek_none Begins before rest (KeyPartOf part) = tt
seek_none (Looked counters) before rest (KeyPartOf part) = tt
seek_none (Bounded counters right) before rest (KeyPartOf part) = tt
seek_none (Reads notes) before rest (KeyPartOf part) = key_none rest notes part
seek_none (AtValue notes kind) before rest (KeyPartOf part) = tt
seek_none (Settles counters sight) before rest (KeyPartOf part) = tt
seek_none Begins before rest (ValuePartOf part) = tt
seek_none (Looked counters) before rest (ValuePartOf part) = tt
seek_none (Bounded counters right) before rest (ValuePartOf part) = tt
seek_none (Reads notes) before rest (ValuePartOf part) = tt
seek_none (AtValue notes kind) before rest (ValuePartOf part) = value_none notes.glance.counters part
seek_none (Settles counters sight) before rest (ValuePartOf part) = tt
