-- The request of a put or remove, what it answers, and what it has at each of its stages.
use Rattle.std.specs.Prelude.{ℕ, List, [], ◌∷◌, Option, Some, None}
use Rattle.mt_types.specs.declared.event.Request.{Request}
use Rattle.mt_types.specs.declared.event.Request.TheVariants.{Put as PutRequest, PutIf as PutIfRequest, Remove as RemoveRequest}
use Rattle.mt_types.specs.declared.event.Answer.{Answer}
use Rattle.mt_types.specs.declared.event.Answer.TheVariants.{Stored as StoredAnswer, Removed}
use Rattle.mt_write.specs.declared.writing.Write.{Write}
use Rattle.mt_write.specs.declared.writing.Edit.{Edit}
use Rattle.mt_write.specs.declared.writing.Edit.TheVariants.{Put as PutEdit, Remove as RemoveEdit}
use Rattle.mt_write.specs.declared.writing.Stage.{Stage}
use Rattle.mt_write.specs.declared.writing.Stage.TheVariants.{Seeks, Enters, Rightward, Searched, Copies, GivesBack, Spared, HalfFilled, HalfLinked, Halved, Posts, LayerSpared, LayerFilled, LayerReady, LayerMarked, LayerLinked, Layered, Reserved, KeyWritten, Filled, Made, Taken, Stored, Hidden, Forgets, Failed}
use Rattle.mt_write.specs.declared.writing.Halves.{Halves}
use Rattle.mt_write.specs.declared.writing.Ending.{Ending}
use Rattle.mt_write.specs.declared.writing.Ending.TheVariants.{Stored as EndStored, Failed as EndFailed}
use Rattle.mt_post.specs.Posting.{owned as posting_owned}
use Rattle.mt_write.specs.declared.writing.Layer.{Layer}
use Rattle.mt_steps.specs.Step.{Held, nothing, blocked_by}

abbrev pub put_request : List ℕ → List (ℕ × List ℕ) → Option ℕ → Request
put_request key sets None = PutRequest key sets
put_request key sets (Some version) = PutIfRequest key sets version

abbrev pub edit_request : List ℕ → Edit → Request
edit_request key (PutEdit sets only) = put_request key sets only
edit_request key RemoveEdit = RemoveRequest key

abbrev pub write_request : Write → Request
write_request write = edit_request write.key write.edit

-- what a write answers that has made its commit
abbrev pub written_answer : Edit → ℕ → Answer
written_answer (PutEdit sets only) number = StoredAnswer number
written_answer RemoveEdit number = Removed number

-- the border that a write has locked, or the two halves of the border that it has split
abbrev pub owned : ℕ → Option Halves → List ℕ
owned number None = number ∷ []
owned number (Some split) = split.half.0 ∷ split.left.0 ∷ []

-- the border, and the head and the root of the layer that it makes below it
abbrev pub layer_owned : ℕ → Layer → List ℕ
layer_owned number layer = layer.head.0 ∷ layer.root.0 ∷ number ∷ []

-- the commit that a write has made, if it is to answer one
abbrev pub ending_commit : Ending → Option ℕ
ending_commit (EndStored commit) = Some commit
ending_commit (EndFailed refusal) = None

-- the number at which a write was blocked that is to fail
abbrev pub ending_blocked : Ending → Option ℕ
ending_blocked (EndStored commit) = None
ending_blocked (EndFailed refusal) = blocked_by refusal

-- the stage from which it ends so
abbrev pub ending_stage : Ending → Option Halves → Stage
ending_stage (EndStored commit) split = Stored commit split
ending_stage (EndFailed refusal) split = Failed refusal split

-- what a write has: from the lock on its border, and from a stage that is ready on room in the log
abbrev pub stage_held : ℕ → Stage → Held
stage_held number Seeks = nothing
stage_held number (Enters entering) = record { owns = number ∷ []; reserves = 0; committed = None; blocked = None }
stage_held number (Rightward next) = record { owns = number ∷ []; reserves = 0; committed = None; blocked = None }
stage_held number (Searched there) = record { owns = number ∷ []; reserves = 0; committed = None; blocked = None }
stage_held number (Copies half cut place outline entries) =
    record { owns = half.0 ∷ number ∷ []; reserves = 0; committed = None; blocked = None }
stage_held number (GivesBack half) =
    record { owns = half.0 ∷ number ∷ []; reserves = 0; committed = None; blocked = None }
stage_held number (Spared half cut place right entries) =
    record { owns = half.0 ∷ number ∷ []; reserves = 0; committed = None; blocked = None }
stage_held number (HalfFilled half cut place) =
    record { owns = half.0 ∷ number ∷ []; reserves = 0; committed = None; blocked = None }
stage_held number (HalfLinked half cut place) =
    record { owns = half.0 ∷ number ∷ []; reserves = 0; committed = None; blocked = None }
stage_held number (Halved split place) =
    record { owns = owned number (Some split); reserves = 0; committed = None; blocked = None }
stage_held number (LayerSpared layer entries) =
    record { owns = layer_owned number layer; reserves = 0; committed = None; blocked = None }
stage_held number (LayerFilled layer) =
    record { owns = layer_owned number layer; reserves = 0; committed = None; blocked = None }
stage_held number (LayerReady layer) =
    record { owns = layer_owned number layer; reserves = 0; committed = None; blocked = None }
stage_held number (LayerMarked layer) =
    record { owns = layer_owned number layer; reserves = 0; committed = None; blocked = None }
stage_held number (LayerLinked head) = record { owns = number ∷ []; reserves = 0; committed = None; blocked = None }
stage_held number (Layered head) = record { owns = number ∷ []; reserves = 0; committed = None; blocked = None }
stage_held number (Reserved new slot_key row) =
    record { owns = owned number new.split; reserves = 1; committed = None; blocked = None }
stage_held number (KeyWritten new row) =
    record { owns = owned number new.split; reserves = 1; committed = None; blocked = None }
stage_held number (Filled place stored logged split) =
    record { owns = owned number split; reserves = 1; committed = None; blocked = None }
stage_held number (Made place stored columns logged) =
    record { owns = number ∷ []; reserves = 1; committed = None; blocked = None }
stage_held number (Taken place stored before) =
    record { owns = number ∷ []; reserves = 1; committed = None; blocked = None }
stage_held number (Posts posting ending) =
    record {
      owns = posting_owned posting;
      reserves = 0;
      committed = ending_commit ending;
      blocked = ending_blocked ending;
    }
stage_held number (Stored commit split) =
    record { owns = owned number split; reserves = 0; committed = Some commit; blocked = None }
stage_held number (Hidden commit) =
    record { owns = number ∷ []; reserves = 0; committed = Some commit; blocked = None }
stage_held number (Forgets commit) =
    record { owns = number ∷ []; reserves = 0; committed = Some commit; blocked = None }
stage_held number (Failed refusal split) =
    record { owns = owned number split; reserves = 0; committed = None; blocked = blocked_by refusal }

abbrev pub write_held : Write → Held
write_held write = stage_held write.way.node.0 write.stage
