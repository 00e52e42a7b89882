-- Which values hold no bytes and no list, so that a copy of one takes no memory.
use Rattle.mt_types.specs.declared.event.Event.{Event}
use Rattle.mt_types.specs.declared.event.Event.TheVariants.{Begin, ViewRead}
use Rattle.mt_types.specs.declared.event.Answer.{Answer}
use Rattle.mt_types.specs.declared.event.Answer.TheVariants.{Found, Rows}
use Rattle.mt_types.specs.declared.event.Outcome.{Outcome}
use Rattle.mt_types.specs.declared.event.Outcome.TheVariants.{Done, View}
use Rattle.mt_types.specs.declared.view.RowTest.{RowTest}
use Rattle.mt_types.specs.declared.view.RowTest.TheVariants.{Equals}

abbrev pub IsBareTest : RowTest → Type 0
IsBareTest (Equals column bytes) = ⊥
IsBareTest _ = Unit {0}

abbrev pub IsBareEvent : Event → Type 0
IsBareEvent (Begin pass request) = ⊥
IsBareEvent (ViewRead view floor start limit) = ⊥
IsBareEvent _ = Unit {0}

abbrev pub IsBareAnswer : Answer → Type 0
IsBareAnswer (Found row) = ⊥
IsBareAnswer (Rows pairs) = ⊥
IsBareAnswer _ = Unit {0}

abbrev pub IsBareOutcome : Outcome → Type 0
IsBareOutcome (Done reply) = IsBareAnswer reply.answer
IsBareOutcome (View page) = ⊥
IsBareOutcome _ = Unit {0}
