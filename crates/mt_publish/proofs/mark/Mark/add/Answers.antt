use Rattle.std.proofs.Common.{sym, ◌∙◌, ap}
use Rattle.mt_publish.proofs.Adding.{adds_moves}
use Rattle.mt_publish.proofs.mark.Mark.add.Goals as goal

pub compare_exchange-found-requires : goal.compare_exchange-found-requires
compare_exchange-found-requires c =
    let seen = c.again-seen.ensures in
    let book = ap (λ s. s.book) seen ∙ (ap (λ m. m.source) c.self.view_is ∙ sym (ap (λ w. w.book) c.requires)) in
    let offer = c.plain-offer.ensures in
    let pen = c.no_pen-pen.ensures in (
      ap (λ w. w.tracked) c.requires,
      book,
      pen.0 ∙ book,
      offer.0,
      rw (ap (λ w. w.key) c.requires, pen.1, offer.1, offer.3, ap (λ s. s.log) seen) (adds_moves c.self.inside.seen.log c.args.delta.now c.self.inside.count (sym c.self.invariant)),
    )
