use Rattle.mt_check.proofs.WorthLemmas.{replies_are_sound, pages_are_sound}
use Rattle.mt_check.proofs.laws.legal_histories_give_sound_receipts.Goals as goal

pub returns-clause-replies : goal.returns-clause-replies
returns-clause-replies c = replies_are_sound

pub returns-clause-pages : goal.returns-clause-pages
returns-clause-pages c = pages_are_sound
