-- What a tidy reads on its way to its place: what it leads to, why it waits, and what others leave of it.
use Rattle.std.proofs.Common.{ℕ, suc, ◌≡◌, ◌<◌, ◌+◌, List, [], ◌∷◌, length, drop, Option, Some, None, Bool, true, false, if◌then◌else◌, sym, subst, arith, add-one}
use Rattle.std.specs.Prelude.{nat_lt, nat_le}
use Rattle.std.specs.Str.{bytes_eq}
use Rattle.mt_types.specs.declared.numbers.NodeNo.{NodeNo}
use Rattle.mt_word.specs.Version.{VersionView, is_flagged}
use Rattle.mt_slice.specs.Place.{AreBytes, slices_above, slice_number, rest_at}
use Rattle.mt_slice.specs.Classes.{class_number, class_of}
use Rattle.mt_border.specs.declared.entry.RightLink.{RightLink}
use Rattle.mt_border.specs.declared.field.KeyPart.{KeyPart}
use Rattle.mt_border.specs.declared.field.Mark.{Mark}
use Rattle.mt_border.specs.declared.field.Mark.TheVariants.{Plain, Unstable, Layer}
use Rattle.mt_border.specs.declared.field.ValuePart.{ValuePart}
use Rattle.mt_border.specs.declared.field.ValuePart.TheVariants.{Row as RowPart, Link as LinkPart}
use Rattle.mt_border.specs.Keys.{part_bytes}
use Rattle.mt_arena.specs.Arena.{ArenaView}
use Rattle.mt_arena.specs.declared.part.Field.TheVariants.{Version as VersionField}
use Rattle.mt_arena.specs.declared.part.Part.{Part}
use Rattle.mt_arena.specs.declared.part.Part.TheVariants.{Head as HeadPart, Interior as InteriorPart, Version as VersionPart, Right as RightPart, Order as OrderPart, Key as KeyPartOf, Value as ValuePartOf}
use Rattle.mt_chart.specs.Tree.{Arena}
use Rattle.mt_chart.specs.Chart.{Holds, Evolves}
use Rattle.mt_chart.proofs.HeldNodes.{known_holds}
use Rattle.mt_tree.specs.Seen.{arena_seen}
use Rattle.mt_tree.specs.Descent.{visit_head, visit_interior}
use Rattle.mt_tree.specs.declared.visit.Visit.{Visit}
use Rattle.mt_tree.specs.declared.visit.Visit.TheVariants.{Again as VisitAgain, To as VisitTo, Below as VisitBelow, Here as VisitHere}
use Rattle.mt_steps.specs.declared.finding.Kind.TheVariants.{Row as RowKind, Link as LinkKind}
use Rattle.mt_steps.specs.declared.finding.Sight.{Sight}
use Rattle.mt_steps.specs.declared.finding.Sight.TheVariants.{Absent as AbsentSight, Row as RowSight, Link as LinkSight}
use Rattle.mt_steps.specs.declared.reader.Counters.{Counters}
use Rattle.mt_steps.specs.declared.reader.Reader.TheVariants.{Begins, Looked, Bounded, Reads, AtValue, Settles}
use Rattle.mt_steps.specs.declared.reader.Reading.TheVariants.{Restarts, Repeats, GoesOn, To, Finds}
use Rattle.mt_steps.specs.declared.way.Way.{Way}
use Rattle.mt_steps.specs.Reader.{by_visit, by_mark, looked, bounded, settled, counters_of, wants}
use Rattle.mt_steps.specs.Finding.{Finding, FindNotes, FindReading, find_reading, next_key, key_found, is_before, key_compared, notes_at, value_read, settles}
use Rattle.mt_steps.specs.Getting.{AtBorder, reads_made}
use Rattle.mt_steps.specs.Standing.{Lends, Still}
use Rattle.mt_steps.specs.Way.{IsOnWay, IsHeadOf, prefix_of, rest_of}
use Rattle.mt_steps.specs.World.{World, IsWorld, BordersAge}
use Rattle.mt_steps.proofs.FieldLemmas.{LeadsTo}
use Rattle.mt_steps.proofs.GetStays.{finding_stays}
use Rattle.mt_steps.proofs.GetSteps.{leads}
use Rattle.mt_steps.proofs.PartLemmas.{lends_field, version_part}
use Rattle.mt_steps.proofs.ReaderLemmas.{settled_by}
use Rattle.mt_steps.proofs.StandLemmas.{still_so}
use Rattle.mt_steps.proofs.WayLemmas.{layer_below}
use Rattle.mt_remove.specs.Reading.{without_row, seek_reading}
use Rattle.mt_remove.specs.Known.{SeekFinding, SeekIsTrue}

-- ---- what a reading leads to
module _ (a : ArenaView) (now : ℕ) (w : World) (world : IsWorld a now w) (begun : ℕ) (key : List ℕ) (way : Way) (past : List Arena) where
  abbrev slice : ℕ
  slice = slice_number (rest_of key way)

  -- it reads on, or advances, or is at its place, at a border that is not marked deleted
  abbrev pub SeekLeads : Finding → FindReading → Type 0
  SeekLeads finding Restarts = Unit {0}
  SeekLeads finding Repeats = Unit {0}
  SeekLeads finding (GoesOn next) = SeekFinding key way next begun (arena_seen a ∷ (arena_seen a ∷ past)) a w × (reads_made finding < reads_made next)
  SeekLeads finding (To node) = IsOnWay begun key (record { node = node; layer = way.layer }) w
  SeekLeads finding (Finds (LinkSight head)) = IsOnWay begun key (record { node = head; layer = way.layer + 1 }) w
      × IsHeadOf w begun head.0 (slice ∷ prefix_of key way)
  SeekLeads finding (Finds sight) = (counters : Counters) × (at : AtBorder begun key way counters a w) × (at.here.b.version.deleted ≡ false)

  abbrev GetLeads : Finding → FindReading → Type 0
  GetLeads finding reading = LeadsTo key [] way finding begun past a w reading

  -- what a get's reading leads it to
  as_visit : (finding : Finding) (visit : Visit) → GetLeads finding (by_visit visit) → SeekLeads finding (by_visit visit)
  as_visit finding VisitAgain led = tt
  as_visit finding (VisitTo next) led = led.on
  as_visit finding (VisitBelow head) led = tt
  as_visit finding VisitHere led = tt

  as_looked : (finding : Finding) (version : VersionView) → GetLeads finding (looked version) → SeekLeads finding (looked version)
  as_looked finding version = go version.deleted (is_flagged version)
    where
      go : (d f : Bool) → GetLeads finding (if d then Restarts else if f then Repeats else GoesOn (Looked (counters_of version))) → SeekLeads finding (if d then Restarts else if f then Repeats else GoesOn (Looked (counters_of version)))
      go true f led = tt
      go false true led = tt
      go false false led = led

  as_bounded : (finding : Finding) (counters : Counters) (right : Option RightLink) → GetLeads finding (bounded slice counters right) → SeekLeads finding (bounded slice counters right)
  as_bounded finding counters None led = led
  as_bounded finding counters (Some next) led = go (nat_le next.low slice) led
    where
      go : (c : Bool) → GetLeads finding (if c then To next.node else GoesOn (Bounded counters (Some next))) → SeekLeads finding (if c then To next.node else GoesOn (Bounded counters (Some next)))
      go true led = led.on
      go false led = led

  as_next : (finding : Finding) (notes : FindNotes) → GetLeads finding (next_key notes) → SeekLeads finding (next_key notes)
  as_next finding notes = go (nat_lt notes.place (length notes.glance.order.live))
    where
      go : (c : Bool) → GetLeads finding (if c then GoesOn (Reads notes) else settles notes.glance.counters AbsentSight) → SeekLeads finding (if c then GoesOn (Reads notes) else settles notes.glance.counters AbsentSight)
      go true led = led
      go false led = (led.0.0, led.1)

  as_key : (finding : Finding) (notes : FindNotes) (part : KeyPart) → GetLeads finding (by_mark part.mark (key_compared (rest_of key way) notes part)) → SeekLeads finding (without_row (by_mark part.mark (key_compared (rest_of key way) notes part)))
  as_key finding notes part = by part.mark
    where
      found : (mark : Mark) (same : Bool) → GetLeads finding (key_found notes mark same) → SeekLeads finding (without_row (key_found notes mark same))
      found Layer same led = led
      found Plain true led = let (at, within, deep, is_true) = led.0 in let more = led.1 in (at, omega (arith, within.0, within.1, more))
      found Plain false led = (led.0.0, led.1)
      found Unstable same led = tt

      next : (c : Bool) → GetLeads finding (if c then GoesOn (Reads (record notes { place = notes.place + 1 })) else settles notes.glance.counters AbsentSight)
          → SeekLeads finding (without_row (if c then GoesOn (Reads (record notes { place = notes.place + 1 })) else settles notes.glance.counters AbsentSight))
      next true led = led
      next false led = (led.0.0, led.1)

      told : (mark : Mark) (less more same : Bool) → GetLeads finding (if less then next_key (record notes { place = notes.place + 1 }) else if more then settles notes.glance.counters AbsentSight else key_found notes mark same)
          → SeekLeads finding (without_row (if less then next_key (record notes { place = notes.place + 1 }) else if more then settles notes.glance.counters AbsentSight else key_found notes mark same))
      told mark true more same led = next (nat_lt (notes.place + 1) (length notes.glance.order.live)) led
      told mark false true same led = (led.0.0, led.1)
      told mark false false same led = found mark same led

      by : (mark : Mark) → GetLeads finding (by_mark mark (if is_before part.slice (class_number part.class) slice (class_number (class_of (length (rest_of key way)))) then next_key (record notes { place = notes.place + 1 })
          else if is_before slice (class_number (class_of (length (rest_of key way)))) part.slice (class_number part.class) then settles notes.glance.counters AbsentSight else key_found notes mark (bytes_eq (part_bytes part) (drop 8 (rest_of key way)))))
          → SeekLeads finding (without_row (by_mark mark (if is_before part.slice (class_number part.class) slice (class_number (class_of (length (rest_of key way)))) then next_key (record notes { place = notes.place + 1 })
          else if is_before slice (class_number (class_of (length (rest_of key way)))) part.slice (class_number part.class) then settles notes.glance.counters AbsentSight else key_found notes mark (bytes_eq (part_bytes part) (drop 8 (rest_of key way))))))
      by Unstable led = tt
      by Plain led = told Plain (is_before part.slice (class_number part.class) slice (class_number (class_of (length (rest_of key way))))) (is_before slice (class_number (class_of (length (rest_of key way)))) part.slice (class_number part.class)) (bytes_eq (part_bytes part) (drop 8 (rest_of key way))) led
      by Layer led = told Layer (is_before part.slice (class_number part.class) slice (class_number (class_of (length (rest_of key way))))) (is_before slice (class_number (class_of (length (rest_of key way)))) part.slice (class_number part.class)) (bytes_eq (part_bytes part) (drop 8 (rest_of key way))) led

  as_link : (finding : Finding) (counters : Counters) (part : ValuePart) → GetLeads finding (value_read [] counters LinkKind part) → SeekLeads finding (value_read [] counters LinkKind part)
  as_link finding counters (RowPart row) led = (led.0.0, led.1)
  as_link finding counters (LinkPart head) led = led

  -- ---- at the version again
  abbrev known_below : NodeNo → Type 0
  known_below head = IsHeadOf w begun head.0 (slice ∷ prefix_of key way)

  to_below : (head : NodeNo) (counters : Counters) → AtBorder begun key way counters a w → 8 < length (rest_of key way) → known_below head → SeekLeads (Settles counters (LinkSight head)) (Finds (LinkSight head))
  to_below head counters at long known = (
    record {
      layer = layer_below key way head long at.layer;
      held = subst (λ (m : ℕ). Holds w.chart begun head.0 (slices_above m key) (slice_number (rest_at m key))) (sym (add-one way.layer))
          (known_holds w.chart begun head.0 (slice ∷ prefix_of key way) known (slice_number (rest_at (suc way.layer) key)));
    },
    known,
  )

  as_settled : (counters : Counters) (sight : Sight) (at : AtBorder begun key way counters a w) → (Still counters at.here.b → at.here.b.version.deleted ≡ false → SeekLeads (Settles counters sight) (Finds sight)) → SeekLeads (Settles counters sight) (settled counters sight at.here.b.version)
  as_settled counters sight at finds = settled_by (SeekLeads (Settles counters sight)) counters sight at.here.b.version (λ is. tt) (λ set. tt) (λ other. tt) (λ alive flags same. finds (still_so counters at.here.b alive flags same) alive)

  as_lent : (counters : Counters) (sight : Sight) (at : AtBorder begun key way counters a w) → SeekLeads (Settles counters sight) (settled counters sight at.here.b.version) → (part : Part) → Lends a way.node.0 VersionField part → SeekLeads (Settles counters sight) (seek_reading (Settles counters sight) (rest_of key way) part)
  as_lent counters sight at leads_so part lent =
      let field = lends_field a way.node.0 VersionField part lent at.here.b at.here.named in
      subst (λ (p : Part). SeekLeads (Settles counters sight) (seek_reading (Settles counters sight) (rest_of key way) p)) (sym (version_part at.here.b part field.is)) leads_so

  at_settled : (counters : Counters) (sight : Sight) → SeekFinding key way (Settles counters sight) begun (arena_seen a ∷ past) a w → (at : AtBorder begun key way counters a w) × ((part : Part) → Lends a way.node.0 VersionField part → SeekLeads (Settles counters sight) (seek_reading (Settles counters sight) (rest_of key way) part))
  at_settled counters AbsentSight at = (at, (λ part lent. as_lent counters AbsentSight at (as_settled counters AbsentSight at (λ still alive. (counters, at, alive))) part lent))
  at_settled counters (RowSight row) at = (at, (λ part lent. as_lent counters (RowSight row) at (as_settled counters (RowSight row) at (λ still alive. (counters, at, alive))) part lent))
  at_settled counters (LinkSight head) (at, long, is_true) =
      (at, (λ part lent. as_lent counters (LinkSight head) at (as_settled counters (LinkSight head) at (λ still alive. to_below head counters at long (is_true still))) part lent))

  of_begins : (part : Part) → GetLeads Begins (find_reading Begins (rest_of key way) [] part) → SeekLeads Begins (seek_reading Begins (rest_of key way) part)
  of_begins (HeadPart own) led = as_visit Begins (visit_head own.now) led
  of_begins (InteriorPart own) led = as_visit Begins (visit_interior slice own.now) led
  of_begins (VersionPart version) led = as_looked Begins version led
  of_begins (RightPart right) led = tt
  of_begins (OrderPart order) led = tt
  of_begins (KeyPartOf own) led = tt
  of_begins (ValuePartOf own) led = tt

  of_looked : (counters : Counters) (part : Part) → GetLeads (Looked counters) (find_reading (Looked counters) (rest_of key way) [] part) → SeekLeads (Looked counters) (seek_reading (Looked counters) (rest_of key way) part)
  of_looked counters (HeadPart own) led = as_visit (Looked counters) (visit_head own.now) led
  of_looked counters (InteriorPart own) led = as_visit (Looked counters) (visit_interior slice own.now) led
  of_looked counters (VersionPart version) led = as_looked (Looked counters) version led
  of_looked counters (RightPart right) led = as_bounded (Looked counters) counters right led
  of_looked counters (OrderPart order) led = tt
  of_looked counters (KeyPartOf own) led = tt
  of_looked counters (ValuePartOf own) led = tt

  of_bounded : (counters : Counters) (right : Option RightLink) (part : Part) → GetLeads (Bounded counters right) (find_reading (Bounded counters right) (rest_of key way) [] part) → SeekLeads (Bounded counters right) (seek_reading (Bounded counters right) (rest_of key way) part)
  of_bounded counters right (HeadPart own) led = as_visit (Bounded counters right) (visit_head own.now) led
  of_bounded counters right (InteriorPart own) led = as_visit (Bounded counters right) (visit_interior slice own.now) led
  of_bounded counters right (VersionPart version) led = as_looked (Bounded counters right) version led
  of_bounded counters right (RightPart link) led = tt
  of_bounded counters right (OrderPart order) led = as_next (Bounded counters right) (notes_at counters right order 0) led
  of_bounded counters right (KeyPartOf own) led = tt
  of_bounded counters right (ValuePartOf own) led = tt

  of_reads : (notes : FindNotes) (part : Part) → GetLeads (Reads notes) (find_reading (Reads notes) (rest_of key way) [] part) → SeekLeads (Reads notes) (seek_reading (Reads notes) (rest_of key way) part)
  of_reads notes (HeadPart own) led = as_visit (Reads notes) (visit_head own.now) led
  of_reads notes (InteriorPart own) led = as_visit (Reads notes) (visit_interior slice own.now) led
  of_reads notes (VersionPart version) led = as_looked (Reads notes) version led
  of_reads notes (RightPart right) led = tt
  of_reads notes (OrderPart order) led = tt
  of_reads notes (KeyPartOf own) led = as_key (Reads notes) notes own led
  of_reads notes (ValuePartOf own) led = tt

  of_value : (notes : FindNotes) (part : Part) → GetLeads (AtValue notes LinkKind) (find_reading (AtValue notes LinkKind) (rest_of key way) [] part) → SeekLeads (AtValue notes LinkKind) (seek_reading (AtValue notes LinkKind) (rest_of key way) part)
  of_value notes (HeadPart own) led = as_visit (AtValue notes LinkKind) (visit_head own.now) led
  of_value notes (InteriorPart own) led = as_visit (AtValue notes LinkKind) (visit_interior slice own.now) led
  of_value notes (VersionPart version) led = as_looked (AtValue notes LinkKind) version led
  of_value notes (RightPart right) led = tt
  of_value notes (OrderPart order) led = tt
  of_value notes (KeyPartOf own) led = tt
  of_value notes (ValuePartOf own) led = as_link (AtValue notes LinkKind) notes.glance.counters own led

  -- WHAT IT READS LEADS where it says
  pub seek_leads : AreBytes key → (finding : Finding) → SeekFinding key way finding begun (arena_seen a ∷ past) a w → (part : Part) → Lends a way.node.0 (wants finding) part → SeekLeads finding (seek_reading finding (rest_of key way) part)
  seek_leads bytes Begins truth part lent = of_begins part (leads a now w world begun key [] way past bytes Begins truth part lent)
  seek_leads bytes (Looked counters) truth part lent = of_looked counters part (leads a now w world begun key [] way past bytes (Looked counters) truth part lent)
  seek_leads bytes (Bounded counters right) truth part lent = of_bounded counters right part (leads a now w world begun key [] way past bytes (Bounded counters right) truth part lent)
  seek_leads bytes (Reads notes) truth part lent = of_reads notes part (leads a now w world begun key [] way past bytes (Reads notes) truth part lent)
  seek_leads bytes (AtValue notes RowKind) truth part lent = absurd truth
  seek_leads bytes (AtValue notes LinkKind) truth part lent = of_value notes part (leads a now w world begun key [] way past bytes (AtValue notes LinkKind) truth part lent)
  seek_leads bytes (Settles counters sight) truth part lent = (at_settled counters sight truth).1 part lent

-- ---- what others' steps leave
module _ (a after : ArenaView) (now : ℕ) (w next : World) (world : IsWorld after now next) (age : BordersAge a after w next) (begun : ℕ) (evolves : Evolves begun w.chart next.chart) (key : List ℕ) (way : Way) where
  stays : (past : List Arena) (finding : Finding) → SeekFinding key way finding begun (arena_seen a ∷ past) a w → SeekFinding key way finding begun (arena_seen after ∷ (arena_seen a ∷ past)) after next
  stays past Begins truth = finding_stays a after now w next world age begun evolves past key [] way Begins truth
  stays past (Looked counters) truth = finding_stays a after now w next world age begun evolves past key [] way (Looked counters) truth
  stays past (Bounded counters right) truth = finding_stays a after now w next world age begun evolves past key [] way (Bounded counters right) truth
  stays past (Reads notes) truth = finding_stays a after now w next world age begun evolves past key [] way (Reads notes) truth
  stays past (AtValue notes RowKind) truth = absurd truth
  stays past (AtValue notes LinkKind) truth = finding_stays a after now w next world age begun evolves past key [] way (AtValue notes LinkKind) truth
  stays past (Settles counters AbsentSight) at = finding_stays a after now w next world age begun evolves past key [] way (Looked counters) at
  stays past (Settles counters (RowSight row)) at = finding_stays a after now w next world age begun evolves past key [] way (Looked counters) at
  stays past (Settles counters (LinkSight head)) truth = finding_stays a after now w next world age begun evolves past key [] way (Settles counters (LinkSight head)) truth

  pub seek_stays : (finding : Finding) → SeekIsTrue begun key way finding a w → SeekIsTrue begun key way finding after next
  seek_stays finding (past, truth) = (arena_seen a ∷ past, stays past finding truth)
