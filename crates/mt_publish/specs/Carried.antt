-- What a publisher, a told and a reader carry.
use Rattle.std.specs.Prelude.{ℕ, ◌≡◌, ◌<◌, ◌⊎◌, List, [], ◌∷◌, ◌++◌, length, drop, Option, Some}
use Rattle.left_right.specs.Sides.{view}
use Rattle.mt_types.specs.declared.row.Delta.{Delta}
use Rattle.mt_types.specs.declared.refusal.Refusal.{Refusal}
use Rattle.mt_types.specs.declared.refusal.Refusal.TheVariants.{NoMemory, NoSuchView, Behind}
use Rattle.mt_view.specs.State.{StateView}
use Rattle.mt_publish.specs.declared.shown.Step.{Step}
use Rattle.mt_publish.specs.declared.shown.Step.TheVariants.{Marks}
use Rattle.mt_publish.specs.declared.carriers.Publisher.{Publisher}
use Rattle.mt_publish.specs.declared.carriers.ViewReader.{ViewReader}
use Rattle.mt_publish.specs.declared.carriers.Told.{Told}
use Rattle.mt_publish.specs.Marks.{Source}
use Rattle.mt_publish.specs.Rule.{state_in}
use Rattle.mt_publish.specs.Shown.{deltas_in}

-- the state that it began with
abbrev pub opening_of : {R : Type 0} → Publisher R → Option StateView
opening_of p = state_in (view p.writer.desk.place).opening

-- the deltas that are published
abbrev pub list_of : {R : Type 0} → Publisher R → List Delta
list_of p = p.writer.desk.shown.value.mark.list

-- the deltas that readers don't see yet
abbrev pub pending_of : {R : Type 0} → Publisher R → List Delta
pending_of p = deltas_in (drop p.writer.behind p.writer.log.items)

-- the number at which what is published stands
abbrev pub number_of : {R : Type 0} → Publisher R → ℕ
number_of p = p.writer.desk.shown.value.state.at

-- the chain of its deltas, which its readers and tolds share with it, and no other publisher
abbrev pub source_of : {R : Type 0} → Publisher R → Source
source_of p = p.writer.desk.shown.value.mark.source

abbrev pub PublisherKeeps : {R : Type 0} → Publisher R → Publisher R → Type 0
PublisherKeeps p q =
    (opening_of q ≡ opening_of p) × (list_of q ≡ list_of p) × (number_of q ≡ number_of p)
    × (source_of q ≡ source_of p)

-- a publisher that began with this state, and has published nothing
abbrev pub IsAt : {R : Type 0} → Publisher R → StateView → Type 0
IsAt p o = (opening_of p ≡ Some o) × (list_of p ≡ []) × (number_of p ≡ o.at)

-- the last that is pending is the mark of what is published with what is pending
abbrev pub IsMarked : {R : Type 0} → Publisher R → Type 0
IsMarked p =
    (earlier : List Step) × (drop p.writer.behind p.writer.log.items
    ≡ earlier ++ Marks (record { source = source_of p; list = list_of p ++ deltas_in earlier }) ∷ [])

-- the state that its publisher began with
abbrev pub reader_opening : ViewReader → Option StateView
reader_opening r = state_in (view r.reader.place).opening

-- the deltas after which it read last
abbrev pub reader_list : ViewReader → List Delta
reader_list r = (view r.reader.place).list

-- the longest list that it has learnt of
abbrev pub reader_heard : ViewReader → List Delta
reader_heard r = r.heard.list

abbrev pub reader_source : ViewReader → Source
reader_source r = r.heard.source

-- the list that was published at the tell
abbrev pub told_list : Told → List Delta
told_list t = t.mark.list

abbrev pub told_source : Told → Source
told_source t = t.mark.source

-- a reader that knows this opening state, is of this publisher's chain, and has read nothing
abbrev pub IsReaderOf : Source → StateView → ViewReader → Type 0
IsReaderOf source o r =
    (reader_opening r ≡ Some o) × (reader_list r ≡ []) × (reader_heard r ≡ []) × (reader_source r ≡ source)

-- why a read that the limit allows may be refused: it is out of memory; the publisher is gone; or the list after which
-- the state was shown is shorter than the longest that the reader has learnt of
abbrev pub MayRefuse : List Delta → List Delta → Refusal → Type 0
MayRefuse list heard refusal =
    (refusal ≡ NoMemory) ⊎ ((refusal ≡ NoSuchView)
    ⊎ ((at : ℕ) × (refusal ≡ Behind at) × (length list < length heard)))
