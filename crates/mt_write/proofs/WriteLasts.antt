-- Since when an interior is gone that a put or remove owns: none is.
use Rattle.std.proofs.Common.{ℕ, ◌≡◌, inl, inr, sym, subst, List, [], ◌∷◌, Option, Some, Bool, true, false}
use Rattle.mt_border.specs.Border.{BorderView}
use Rattle.mt_arena.specs.Node.{border_at}
use Rattle.mt_arena.specs.Arena.{ArenaView}
use Rattle.mt_chart.specs.Tree.{Arena, first, later}
use Rattle.mt_steps.specs.World.{World, IsWorld, GoneSince}
use Rattle.mt_steps.specs.declared.way.Way.{Way}
use Rattle.mt_steps.proofs.CollectLemmas.{border_no, unknown_no, only_since}
use Rattle.mt_post.proofs.PostingLasts.{posting_since}
use Rattle.mt_write.specs.declared.writing.Write.{Write}
use Rattle.mt_write.specs.declared.writing.Edit.{Edit}
use Rattle.mt_write.specs.declared.writing.Stage.{Stage}
use Rattle.mt_write.specs.declared.writing.Stage.TheVariants.{Seeks, Enters, Rightward, Searched, Copies, GivesBack, Spared, HalfFilled, HalfLinked, Halved, Posts, LayerSpared, LayerFilled, LayerReady, LayerMarked, LayerLinked, Layered, Reserved, KeyWritten, Filled, Made, Taken, Stored, Hidden, Forgets, Failed}
use Rattle.mt_write.specs.declared.writing.Halves.{Halves}
use Rattle.mt_write.specs.declared.writing.Layer.{Layer}
use Rattle.mt_chart.proofs.Basics.{same_number}
use Rattle.mt_write.specs.Held.{stage_held, owned, layer_owned, write_held}
use Rattle.mt_write.specs.Writing.{StageIsTrue, HasLocked, HasOthers, HasLayer, WriteIsTrue}

module _ (C : ℕ) (a : ArenaView) (now begun : ℕ) (w : World) (world : IsWorld a now w) where
  border_since : (number : ℕ) (b : BorderView) → border_at a.nodes number ≡ Some b → GoneSince begun w (number ∷ [])
  border_since number b named = only_since begun w number (border_no a now w number b world named)

  both_since : (one : ℕ) (rest : List ℕ) → GoneSince begun w (one ∷ []) → GoneSince begun w rest → GoneSince begun w (one ∷ rest)
  both_since one rest here there number first = here one first
  both_since one rest here there number (later i) = there number i

  locked_since : (prefix : List ℕ) (number : ℕ) (split : Option Halves) → HasLocked prefix a w number split → GoneSince begun w (owned number split)
  locked_since prefix number split has other i = let k = has.locked other i in border_since other k.b k.named other first

  others_since : (prefix : List ℕ) (way : Way) (b : BorderView) (split : Option Halves) → border_at a.nodes way.node.0 ≡ Some b → HasOthers prefix a w way.node.0 split → GoneSince begun w (owned way.node.0 split)
  others_since prefix way b split named has other i = elim (same_number other way.node.0) [
    | inl e ↦ subst (λ (m : ℕ). GoneSince begun w (m ∷ [])) (sym e) (border_since way.node.0 b named) other first
    | inr differ ↦ (let k = has.locked other i differ in border_since other k.b k.named other first)
  ]

  layer_since : (number : ℕ) (b : BorderView) (layer : Layer) (locked : Bool) (root : BorderView) → border_at a.nodes number ≡ Some b → HasLayer a w layer locked root → GoneSince begun w (layer_owned number layer)
  layer_since number b layer locked root named has =
      both_since layer.head.0 _ (only_since begun w layer.head.0 (unknown_no begun w layer.head.0 has.head_unknown)) (both_since layer.root.0 _ (only_since begun w layer.root.0 (unknown_no begun w layer.root.0 has.root_unknown)) (border_since number b named))

  stage_since : (key : List ℕ) (edit : Edit) (way : Way) (stage : Stage) → StageIsTrue C key edit way stage begun a w → GoneSince begun w (stage_held way.node.0 stage).owns
  stage_since key edit way Seeks truth = λ number i. elim i [ ]
  stage_since key edit way (Enters entering) truth = border_since way.node.0 truth.0.b truth.0.named
  stage_since key edit way (Rightward next) truth = border_since way.node.0 truth.0.b truth.0.named
  stage_since key edit way (Searched there) truth = let (b, at, found) = truth in border_since way.node.0 b at.named
  stage_since key edit way (Copies half cut place outline entries) truth = let (b, at, f, c, s, r, e, p) = truth in both_since half.0 _ (border_since half.0 _ s.named) (border_since way.node.0 b at.named)
  stage_since key edit way (GivesBack half) truth = both_since half.0 _ (border_since half.0 _ truth.2.named) (border_since way.node.0 _ truth.0.named)
  stage_since key edit way (Spared half cut place right entries) truth = let (b, at, f, c, s, e, p, noted) = truth in both_since half.0 _ (border_since half.0 _ s.named) (border_since way.node.0 b at.named)
  stage_since key edit way (HalfFilled half cut place) truth = let (b, at, f, c, s, p) = truth in both_since half.0 _ (border_since half.0 _ s.named) (border_since way.node.0 b at.named)
  stage_since key edit way (HalfLinked half cut place) truth = let (h, p) = truth in both_since half.0 _ (border_since half.0 _ h.filled) (border_since way.node.0 _ h.named)
  stage_since key edit way (Halved split place) truth = let (b, at, h, has, p) = truth in locked_since _ way.node.0 (Some split) has
  stage_since key edit way (LayerSpared layer entries) truth = let (b, at, f) = truth in layer_since way.node.0 b layer true _ at.named f.has
  stage_since key edit way (LayerFilled layer) truth = let (b, at, f) = truth in layer_since way.node.0 b layer true _ at.named f.has
  stage_since key edit way (LayerReady layer) truth = let (b, at, f) = truth in layer_since way.node.0 b layer false _ at.named f.has
  stage_since key edit way (LayerMarked layer) truth = let (b, at, f, u) = truth in layer_since way.node.0 b layer false _ at.named f.has
  stage_since key edit way (LayerLinked head) truth = border_since way.node.0 truth.0.b truth.0.named
  stage_since key edit way (Layered head) truth = border_since way.node.0 truth.0.border.b truth.0.border.named
  stage_since key edit way (Reserved new slot_key row) truth = let (b, at, p, f, k, has) = truth in locked_since _ way.node.0 new.split has
  stage_since key edit way (KeyWritten new row) truth = let (b, at, p, f, k, has) = truth in others_since _ way b new.split at.named has
  stage_since key edit way (Filled place stored logged split) truth = let (b, at, p, f, has) = truth in locked_since _ way.node.0 split has
  stage_since key edit way (Made place stored columns logged) truth = let (b, at, p, f) = truth in border_since way.node.0 b at.named
  stage_since key edit way (Taken place stored before) truth = let (b, at, f) = truth in border_since way.node.0 b at.named
  stage_since key edit way (Posts posting ending) truth = posting_since a now begun w world posting truth.0
  stage_since key edit way (Stored number split) truth = locked_since _ way.node.0 split truth
  stage_since key edit way (Hidden number) truth = border_since way.node.0 truth.b truth.named
  stage_since key edit way (Forgets number) truth = border_since way.node.0 truth.b truth.named
  stage_since key edit way (Failed refusal split) truth = locked_since _ way.node.0 split truth.0

  pub write_since : (write : Write) (moves : ℕ) (past : List Arena) → WriteIsTrue C write begun moves past a w → GoneSince begun w (write_held write).owns
  write_since write moves past truth = stage_since write.key write.edit write.way write.stage truth.0
