-- What a caller must know before it fills a border.
use Rattle.std.specs.Prelude.{◌≡◌, List, [], Option, false}
use Rattle.std.specs.List.{list_any}
use Rattle.mt_border.specs.Border.{BorderView, with_entries}
use Rattle.mt_border.specs.Order.{IsBorder}
use Rattle.mt_border.specs.declared.entry.Entry.{Entry}
use Rattle.mt_border.specs.declared.entry.RightLink.{RightLink}

-- the border has no live entry, none of its slots held a key, and with these entries it is in order and in its interval
pub record MayFill (b : BorderView) (entries : List Entry) (right : Option RightLink) : Type 0 where
  pub empty : b.live ≡ []
  pub fresh : list_any (λ slot. slot.held_key) b.unused ≡ false
  pub sound : IsBorder (with_entries b entries right)
