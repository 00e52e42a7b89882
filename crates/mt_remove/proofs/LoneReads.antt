-- What a tidy reads, if it runs alone: what it has noted of a border is what the border has, and it doesn't wait.
use Rattle.std.proofs.Common.{ℕ, ◌≡◌, ◌<◌, ◌≤◌, List, [], length, Some, Bool, true, false, if◌then◌else◌, sym, subst}
use Rattle.std.specs.Option.{option_map}
use Rattle.mt_word.specs.Version.{VersionView, is_flagged}
use Rattle.mt_slice.specs.Place.{slice_number}
use Rattle.mt_border.specs.Border.{BorderView}
use Rattle.mt_interior.specs.Interior.{InteriorView}
use Rattle.mt_arena.specs.Node.{node_at, interior_at, border_at}
use Rattle.mt_arena.specs.Arena.{ArenaView}
use Rattle.mt_arena.specs.declared.node.Node.{Node}
use Rattle.mt_arena.specs.declared.part.Field.TheVariants.{Right as RightField}
use Rattle.mt_arena.specs.declared.part.Part.{Part}
use Rattle.mt_arena.specs.declared.part.Part.TheVariants.{Head as HeadPart, Interior as InteriorPart, Version as VersionPart, Right as RightPart, Order as OrderPart, Key as KeyPartOf, Value as ValuePartOf}
use Rattle.mt_chart.specs.Tree.{Below}
use Rattle.mt_chart.specs.Walk.{Moves}
use Rattle.mt_tree.specs.Descent.{is_marked, visit_head, visit_interior}
use Rattle.mt_tree.specs.Seen.{arena_seen, right_seen}
use Rattle.mt_tree.specs.declared.visit.Visit.{Visit}
use Rattle.mt_tree.specs.declared.visit.Visit.TheVariants.{Again as VisitAgain, To as VisitTo, Below as VisitBelow, Here as VisitHere}
use Rattle.mt_steps.specs.declared.finding.Kind.TheVariants.{Row as RowKind, Link as LinkKind}
use Rattle.mt_steps.specs.declared.finding.Sight.{Sight}
use Rattle.mt_steps.specs.declared.getting.Get.{Get}
use Rattle.mt_steps.specs.declared.reader.Counters.{Counters}
use Rattle.mt_steps.specs.declared.reader.Reader.TheVariants.{Begins, Looked, Bounded, Reads, AtValue, Settles}
use Rattle.mt_steps.specs.declared.reader.Reading.TheVariants.{Restarts, Repeats, GoesOn, To, Finds}
use Rattle.mt_steps.specs.declared.way.Way.{Way}
use Rattle.mt_steps.specs.Reader.{by_visit, looked, counters_of, wants}
use Rattle.mt_steps.specs.Finding.{Finding, FindReading, find_reading}
use Rattle.mt_steps.specs.Standing.{Lends}
use Rattle.mt_steps.specs.Way.{rest_of}
use Rattle.mt_steps.specs.World.{is_locked}
use Rattle.mt_steps.proofs.LoneFields.{IsNow, right_moves, border_alive}
use Rattle.mt_steps.proofs.LoneFinding.{FindStands, FindGoes, FindMay, find_goes}
use Rattle.mt_steps.proofs.PartLemmas.{lends_field, right_part}
use Rattle.mt_steps.proofs.ReaderLemmas.{bounded_by, settled_by}
use Rattle.mt_types.specs.declared.numbers.NodeNo.{NodeNo}
use Rattle.mt_remove.specs.Reading.{without_row, seek_reading}
use Rattle.mt_remove.specs.Known.{AtLock}

-- it reads no row's value
abbrev pub NoRow : Finding → Type 0
NoRow (AtValue notes RowKind) = ⊥
NoRow _ = Unit {0}

module _ (a : ArenaView) (key : List ℕ) (way : Way) (alive : (node : Node) → node_at a.nodes way.node.0 ≡ Some node → is_marked node ≡ false) (unlocked : (node : Node) → node_at a.nodes way.node.0 ≡ Some node → is_locked node ≡ false) where
  abbrev number : ℕ
  number = way.node.0

  abbrev as_get : Finding → Get
  as_get finding = record { key = key; columns = []; way = way; finding = finding }

  abbrev Goes : FindReading → Type 0
  Goes reading = FindGoes a number reading

  without : (reading : FindReading) → Goes reading → Goes (without_row reading)
  without (GoesOn (AtValue notes RowKind)) (b, now, order, fits) = (b, now, tt)
  without (GoesOn (AtValue notes LinkKind)) goes = goes
  without (GoesOn Begins) goes = goes
  without (GoesOn (Looked counters)) goes = goes
  without (GoesOn (Bounded counters right)) goes = goes
  without (GoesOn (Reads notes)) goes = goes
  without (GoesOn (Settles counters sight)) goes = goes
  without Restarts goes = goes
  without Repeats goes = goes
  without (To node) goes = goes
  without (Finds sight) goes = goes

  of_part : (finding : Finding) → NoRow finding → (part : Part) → Goes (find_reading finding (rest_of key way) [] part) → Goes (seek_reading finding (rest_of key way) part)
  of_part finding no_row (HeadPart own) goes = goes
  of_part finding no_row (InteriorPart own) goes = goes
  of_part finding no_row (VersionPart version) goes = goes
  of_part finding no_row (RightPart right) goes = goes
  of_part finding no_row (OrderPart order) goes = goes
  of_part finding no_row (KeyPartOf own) goes = without _ goes
  of_part Begins no_row (ValuePartOf own) goes = goes
  of_part (Looked counters) no_row (ValuePartOf own) goes = goes
  of_part (Bounded counters right) no_row (ValuePartOf own) goes = goes
  of_part (Reads notes) no_row (ValuePartOf own) goes = goes
  of_part (AtValue notes RowKind) no_row (ValuePartOf own) goes = absurd no_row
  of_part (AtValue notes LinkKind) no_row (ValuePartOf own) goes = goes
  of_part (Settles counters sight) no_row (ValuePartOf own) goes = goes

  -- WHAT IT READS leads it on, and it doesn't wait
  pub seek_goes : (finding : Finding) → NoRow finding → FindMay a (as_get Begins) finding → FindStands a number finding → (part : Part) → Lends a number (wants finding) part → Goes (seek_reading finding (rest_of key way) part)
  seek_goes finding no_row may stands part lent = of_part finding no_row part (find_goes a (as_get Begins) alive unlocked finding may stands part lent)

-- ---- once it looks at the version again it reads no more
abbrev pub NotOn : FindReading → Type 0
NotOn (GoesOn next) = ⊥
NotOn _ = Unit {0}

visit_not : (visit : Visit) → NotOn (by_visit visit)
visit_not VisitAgain = tt
visit_not (VisitTo next) = tt
visit_not (VisitBelow head) = tt
visit_not VisitHere = tt

pub settles_not : (counters : Counters) (sight : Sight) (rest : List ℕ) (part : Part) → NotOn (seek_reading (Settles counters sight) rest part)
settles_not counters sight rest (HeadPart own) = visit_not (visit_head own.now)
settles_not counters sight rest (InteriorPart own) = visit_not (visit_interior (slice_number rest) own.now)
settles_not counters sight rest (VersionPart version) = settled_by NotOn counters sight version (λ e. tt) (λ e. tt) (λ e. tt) (λ alive flags same. tt)
settles_not counters sight rest (RightPart right) = tt
settles_not counters sight rest (OrderPart order) = tt
settles_not counters sight rest (KeyPartOf own) = tt
settles_not counters sight rest (ValuePartOf own) = tt

-- ---- of the border before the one that it unlinks
-- it has its counters, and then the slice is before its right link
abbrev pub LeftStands : ArenaView → ℕ → ℕ → Finding → Type 0
LeftStands a slice border Begins = Unit {0}
LeftStands a slice border (Looked counters) = (b : BorderView) × IsNow a border counters b
LeftStands a slice border (Bounded counters right) = (b : BorderView) × (border_at a.nodes border ≡ Some b) × Below slice (option_map right_seen b.right)
LeftStands a slice border _ = ⊥

module _ (a : ArenaView) (node : NodeNo) (rest : List ℕ) (slice : ℕ) (same : slice_number rest ≡ slice) (alive : (x : Node) → node_at a.nodes node.0 ≡ Some x → is_marked x ≡ false) (unlocked : (x : Node) → node_at a.nodes node.0 ≡ Some x → is_locked x ≡ false) where
  abbrev at : ℕ
  at = node.0

  abbrev way : Way
  way = record { node = node; layer = 0 }

  abbrev get : Get
  get = record { key = rest; columns = []; way = way; finding = Begins }

  -- it reads on, or advances
  abbrev pub LeftGoes : FindReading → Type 0
  LeftGoes (GoesOn next) = LeftStands a slice at next
  LeftGoes (To next) = Moves (arena_seen a) at next.0
  LeftGoes _ = ⊥

  as_visit : (visit : Visit) → FindGoes a at (by_visit visit) → LeftGoes (by_visit visit)
  as_visit VisitAgain goes = goes
  as_visit (VisitTo next) goes = goes
  as_visit (VisitBelow head) goes = goes
  as_visit VisitHere goes = goes

  as_looked : (version : VersionView) → FindGoes a at (looked version) → LeftGoes (looked version)
  as_looked version = go version.deleted (is_flagged version)
    where
      go : (d f : Bool) → FindGoes a at (if d then Restarts else if f then Repeats else GoesOn (Looked (counters_of version))) → LeftGoes (if d then Restarts else if f then Repeats else GoesOn (Looked (counters_of version)))
      go true f goes = goes
      go false true goes = goes
      go false false goes = goes

  of_begins : (part : Part) → FindGoes a at (find_reading Begins rest [] part) → LeftGoes (seek_reading Begins rest part)
  of_begins (HeadPart own) goes = as_visit (visit_head own.now) goes
  of_begins (InteriorPart own) goes = as_visit (visit_interior (slice_number rest) own.now) goes
  of_begins (VersionPart version) goes = as_looked version goes
  of_begins (RightPart right) goes = goes
  of_begins (OrderPart order) goes = goes
  of_begins (KeyPartOf own) goes = goes
  of_begins (ValuePartOf own) goes = goes

  -- its slice is one of those of an interior node there
  abbrev pub HasChild : Type 0
  HasChild = (i : InteriorView) → interior_at a.nodes at ≡ Some i → i.version.deleted ≡ false → (0 < length i.children) × (i.low ≤ slice)

  -- WHAT IT READS leads it on, and it doesn't wait
  pub left_goes : HasChild → (finding : Finding) → (AtLock finding → ⊥) → LeftStands a slice at finding → (part : Part) → Lends a at (wants finding) part → LeftGoes (seek_reading finding rest part)
  left_goes child Begins before stands part lent = of_begins part (find_goes a get alive unlocked Begins (subst (λ (s : ℕ). (i : InteriorView) → interior_at a.nodes at ≡ Some i → i.version.deleted ≡ false → (0 < length i.children) × (i.low ≤ s)) (sym same) child) tt part lent)
  left_goes child (Looked counters) before (b, now) part lent =
      let field = lends_field a at RightField part lent b now.named in
      subst (λ (p : Part). LeftGoes (seek_reading (Looked counters) rest p)) (sym (right_part b part field.is))
      (bounded_by LeftGoes (slice_number rest) counters b.right (λ next is least. right_moves a at b now.named field.sound (border_alive a at alive b now.named) next is)
      (λ below. (b, now.named, subst (λ (s : ℕ). Below s (option_map right_seen b.right)) same below)))
  left_goes child (Bounded counters right) before stands part lent = absurd (before tt)
  left_goes child (Reads notes) before stands part lent = absurd stands
  left_goes child (AtValue notes kind) before stands part lent = absurd stands
  left_goes child (Settles counters sight) before stands part lent = absurd stands
