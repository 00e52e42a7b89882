-- The steps keep the rule.
use Rattle.std.proofs.Common.{◌≡◌, ◌≢◌, ℕ, List, [], ◌∷◌, ◌++◌, fold, set, refl, sym, ap, ◌∙◌, subst, ⊎_elim, Option, Some, None, IfSome, append_assoc, Result, Ok, MatchResult}
use Rattle.std.proofs.lemmas.List.{append-nil}
use Rattle.std.proofs.lemmas.List.Sums.{fold-append}
use mathlib.Core.Option.{some, some-ne-none}
use lib.ListN.{get_elem?}
use Rattle.crossbeam_utils.specs.Register.{Admits, TurnsAt, Forks, Merges}
use Rattle.atomic_table.proofs.Lists.{at_set, at_snoc}
use Rattle.mt_types.specs.declared.row.Delta.{Delta}
use Rattle.mt_view.specs.State.{StateView, applied}
use Rattle.mt_publish.specs.declared.shown.Shown.{Shown}
use Rattle.mt_publish.specs.declared.shown.Step.{Step}
use Rattle.mt_publish.specs.declared.shown.Step.TheVariants.{Takes, Marks}
use Rattle.mt_publish.specs.declared.rule.Known.{Known}
use Rattle.mt_publish.specs.Folds.{applied_all}
use Rattle.mt_publish.specs.Marks.{MarkView}
use Rattle.mt_publish.specs.Shown.{took, deltas_in, shown_after}
use Rattle.mt_publish.specs.Rule.{Agrees, AllAgree, Keeps, Opened, Stays, Read, first_of, state_in}

state_took : (x : Shown) (steps : List Step) → (fold took x steps).state ≡ applied_all x.state (deltas_in steps)
state_took x [] = refl
state_took x (Takes d ∷ steps) = state_took (took x (Takes d)) steps
state_took x (Marks m ∷ steps) = state_took (took x (Marks m)) steps

abbrev shown_as : StateView → MarkView → Shown
shown_as state mark = record { state = state; mark = mark }

-- what is shown after steps of which the last is a mark
pub marked : (x : Shown) (steps : List Step) (m : MarkView) → fold took x (steps ++ Marks m ∷ []) ≡ record { state = applied_all x.state (deltas_in steps); mark = m }
marked x steps m = fold-append took x steps (Marks m ∷ []) ∙ ap (λ (z : StateView). shown_as z m) (state_took x steps)

deltas_both : (a b : List Step) → deltas_in (a ++ b) ≡ deltas_in a ++ deltas_in b
deltas_both [] b = refl
deltas_both (Takes d ∷ a) b = ap (λ (z : List Delta). d ∷ z) (deltas_both a b)
deltas_both (Marks m ∷ a) b = deltas_both a b

-- a delta more, and a mark more
pub deltas_one : (steps : List Step) (d : Delta) → deltas_in (steps ++ Takes d ∷ []) ≡ deltas_in steps ++ d ∷ []
deltas_one steps d = deltas_both steps (Takes d ∷ [])

pub deltas_mark : (steps : List Step) (m : MarkView) → deltas_in (steps ++ Marks m ∷ []) ≡ deltas_in steps
deltas_mark steps m = deltas_both steps (Marks m ∷ []) ∙ append-nil (deltas_in steps)

-- an AllAgree where one seat has a new view
agree_set : (o : Shown) (l : List Delta) (views : List Known) (seat : ℕ) (w : Known) → AllAgree o l views → Agrees o l w → AllAgree o l (set views seat w)
agree_set o l views seat w all new j u e =
    ⊎_elim (λ (t : (j ≡ seat) × (w ≡ u)). subst (λ (z : Known). Agrees o l z) t.1 new) (λ (t : (j ≢ seat) × (get_elem? views j ≡ some u)). all j u t.1)
    (at_set views seat j w u e)

agree_snoc : (o : Shown) (l : List Delta) (views : List Known) (w : Known) → AllAgree o l views → Agrees o l w → AllAgree o l (views ++ w ∷ [])
agree_snoc o l views w all new j u e =
    ⊎_elim (λ (t : get_elem? views j ≡ some u). all j u t) (λ (t : w ≡ u). subst (λ (z : Known). Agrees o l z) t new) (at_snoc views w u j e)

agrees_first : (o : Shown) (l : List Delta) → Agrees o l (record { opening = None; list = [] })
agrees_first o l = (tt, (l, refl))

pub admits : Admits Keeps (record { opening = None; list = [] })
admits x views h = (h.0, h.1, h.2, h.3, agree_snoc h.0 h.1 views _ h.4 (agrees_first h.0 h.1))

-- what was shown first, as the opening after no deltas
itself : (x : Shown) → x.mark.list ≡ [] → x ≡ shown_after x []
itself x e = ap (λ (z : List Delta). shown_as x.state (record { source = x.mark.source; list = z })) e

pub begins : (x : Shown) → x.mark.list ≡ [] → Keeps x (record { opening = None; list = [] } ∷ [])
begins x e = (x, [], e, itself x e, agree_snoc x [] [] _ (λ j u f. absurd (some-ne-none u (sym f))) (agrees_first x []))

pub opens : (seat : ℕ) (v : Known) (x y : Shown) → x.mark.list ≡ [] → y ≡ x → TurnsAt Keeps seat v x y Opened
opens seat v x y empty same views h at =
    let o = h.0 in let l = h.1 in
    let none : l ≡ [] = sym (ap (λ (z : Shown). z.mark.list) h.3) ∙ empty in
    let is : y ≡ o = same ∙ (h.3 ∙ (ap (λ (z : List Delta). shown_after o z) none ∙ sym (itself o h.2))) in
    let w : Known = record { opening = Some y; list = [] } in
    (w, (o, l, h.2, same ∙ h.3, agree_set o l views seat w h.4 (is, (l, refl))), (refl, refl))

pub reads : (seat : ℕ) (v : Known) (x : Shown) → TurnsAt Keeps seat v x x Read
reads seat v x views h at =
    let o = h.0 in let l = h.1 in let a = h.4 seat v at in
    let w : Known = record { opening = Some o; list = l } in
    (w, (o, l, h.2, h.3, agree_set o l views seat w h.4 (refl, ([], sym (append-nil l)))), (o, refl, a.0, h.3, a.1))

agrees_longer : (o : Shown) (l more : List Delta) (v : Known) → Agrees o l v → Agrees o (l ++ more) v
agrees_longer o l more v h = (h.0, (h.1.0 ++ more, ap (λ (z : List Delta). z ++ more) h.1.1 ∙ append_assoc v.list h.1.0 more))

-- if x is what is shown after a list, then x with more deltas is what is shown after the list and these deltas
shown_on : (o x : Shown) (l ds : List Delta) → x ≡ shown_after o l
    → shown_as (applied_all x.state ds) (record { source = x.mark.source; list = x.mark.list ++ ds }) ≡ shown_after o (l ++ ds)
shown_on o x l ds is =
    ap (λ (z : Shown). shown_as (applied_all z.state ds) (record { source = z.mark.source; list = z.mark.list ++ ds })) is
    ∙ ap (λ (z : StateView). shown_as z (record { source = o.mark.source; list = l ++ ds })) (sym (fold-append (λ s d. applied d s) o.state l ds))

-- steps of which the last is the mark of what they come to
abbrev pub AreMarked : Shown → List Step → List Step → Type 0
AreMarked x steps earlier = steps ≡ earlier ++ Marks (record { source = x.mark.source; list = x.mark.list ++ deltas_in earlier }) ∷ []

-- what is shown after them
pub shown_then : (x y : Shown) (steps earlier : List Step) → AreMarked x steps earlier → y ≡ fold took x steps
    → y ≡ record { state = applied_all x.state (deltas_in earlier); mark = record { source = x.mark.source; list = x.mark.list ++ deltas_in earlier } }
shown_then x y steps earlier e is = is ∙ (ap (λ (z : List Step). fold took x z) e ∙ marked x earlier _)

pub publishes : (steps earlier : List Step) (seat : ℕ) (v : Known) (x y : Shown) → AreMarked x steps earlier → y ≡ fold took x steps
    → TurnsAt Keeps seat v x y Stays
publishes steps earlier seat v x y e is views h at =
    let o = h.0 in let l = h.1 in let ds = deltas_in earlier in
    let value : y ≡ shown_after o (l ++ ds) = shown_then x y steps earlier e is ∙ shown_on o x l ds h.3 in
    (v, (o, l ++ ds, h.2, value, agree_set o (l ++ ds) views seat v (λ j u f. agrees_longer o l ds u (h.4 j u f)) (agrees_longer o l ds v (h.4 seat v at))), refl)

-- what was shown, and what is shown after these steps; what is pending then
pub record IsPublished (x y : Shown) (steps after : List Step) : Type 0 where
  pub source : y.mark.source ≡ x.mark.source
  pub list : y.mark.list ≡ x.mark.list ++ deltas_in steps
  pub whole : y.mark.list ++ deltas_in after ≡ x.mark.list ++ deltas_in steps
  pub state : y.state ≡ applied_all x.state (deltas_in steps)
  pub none : after ≡ []

-- after them the mark has the deltas of all of them
pub published : (x y : Shown) (steps earlier after : List Step) → AreMarked x steps earlier → (y ≡ fold took x steps) × (after ≡ [])
    → IsPublished x y steps after
published x y steps earlier after e h =
    let now = shown_then x y steps earlier e h.0 in
    let ds : deltas_in steps ≡ deltas_in earlier = ap deltas_in e ∙ deltas_mark earlier _ in
    let list : y.mark.list ≡ x.mark.list ++ deltas_in steps = ap (λ (z : Shown). z.mark.list) now ∙ ap (λ (z : List Delta). x.mark.list ++ z) (sym ds) in
    record {
      source = ap (λ (z : Shown). z.mark.source) now;
      list = list;
      whole = ap (λ (z : List Step). y.mark.list ++ deltas_in z) h.1 ∙ (append-nil y.mark.list ∙ list);
      state = ap (λ (z : Shown). z.state) now ∙ ap (λ (z : List Delta). applied_all x.state z) (sym ds);
      none = h.1;
    }

-- a chain that has a delta more, as what is pending has
pub one_more : (list old new : List Delta) (steps after : List Step) (d e : Delta) → old ≡ list ++ deltas_in steps → new ≡ old ++ d ∷ []
    → after ≡ steps ++ Takes e ∷ [] → e ≡ d → new ≡ list ++ deltas_in after
one_more list old new steps after d e was is more same =
    is ∙ (ap (λ (z : List Delta). z ++ d ∷ []) was ∙ (append_assoc list (deltas_in steps) (d ∷ [])
    ∙ ap (λ (z : List Delta). list ++ z) (ap (λ (z : Delta). deltas_in steps ++ z ∷ []) (sym same) ∙ (sym (deltas_one steps e) ∙ ap deltas_in (sym more)))))

pub ok_of : {A B : Type 0} (r : Result A B) (a : A) (P : A → Type 0) (Q : B → Type 0) → r ≡ Ok a → MatchResult r P Q → P a
ok_of r a P Q is h = subst (λ z. MatchResult z P Q) is h

pub forks : (seat : ℕ) (v : Known) → Forks Keeps seat v v (record { opening = v.opening; list = [] })
forks seat v x views h at = let a = h.4 seat v at in
    (h.0, h.1, h.2, h.3, agree_snoc h.0 h.1 (set views seat v) _ (agree_set h.0 h.1 views seat v h.4 a) (a.0, (h.1, refl)))

first_agrees : (o : Shown) (a b : Option Shown) → IfSome a (λ z. z ≡ o) → IfSome b (λ z. z ≡ o) → IfSome (first_of a b) (λ z. z ≡ o)
first_agrees o None b h k = k
first_agrees o (Some s) b h k = h

pub merges : (seat : ℕ) (v : Known) (other : ℕ) (w : Known) → Merges Keeps seat v other w (record { opening = first_of v.opening w.opening; list = v.list }) (record { opening = None; list = [] })
merges seat v other w x views h at apart there =
    let o = h.0 in let l = h.1 in let a = h.4 seat v at in
    let both : Known = record { opening = first_of v.opening w.opening; list = v.list } in
    let b : Agrees o l w = ⊎_elim (λ (t : (other ≡ seat) × (both ≡ w)). absurd (apart t.0)) (λ (t : (other ≢ seat) × (get_elem? views other ≡ some w)). h.4 other w t.1) (at_set views seat other both w there) in
    let c : Agrees o l both = (first_agrees o v.opening w.opening a.0 b.0, a.1) in
    (o, l, h.2, h.3, agree_set o l (set views seat both) other _ (agree_set o l views seat both h.4 c) (agrees_first o l))

-- what a reader knows of the opening state is so of what is read
opening_state : (a : Option Shown) (z : Shown) (o : StateView) → state_in a ≡ Some o → IfSome a (λ k. k ≡ z) → z.state ≡ o
opening_state None z o h k = absurd cc
opening_state (Some s) z o h k = let e : s.state ≡ o = cc h in sym (ap (λ (t : Shown). t.state) k) ∙ e

pub read_state : (v w : Known) (x y : Shown) (o : StateView) → Read v x y w → state_in v.opening ≡ Some o → x.state ≡ applied_all o w.list
read_state v w x y o r is = ap (λ (z : Shown). z.state) r.3 ∙ ap (λ (z : StateView). applied_all z w.list) (opening_state v.opening r.0 o is r.2)
