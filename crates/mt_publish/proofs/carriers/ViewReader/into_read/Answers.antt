use Rattle.std.proofs.Common.{◌≡◌, ◌⊎◌, ◌<◌, ⊎_elim, Some, IfOk, IfErr, length, ap, ◌∙◌, sym, subst}
use Rattle.left_right.specs.Sides.{view}
use Rattle.mt_types.specs.declared.refusal.Refusal.TheVariants.{NoMemory, Behind}
use Rattle.mt_types.specs.declared.view.Page.{Page}
use Rattle.mt_view.specs.State.{StateView, page_of_state}
use Rattle.mt_publish.specs.Folds.{applied_all}
use Rattle.mt_publish.specs.Carried.{reader_opening}
use Rattle.mt_publish.proofs.Kept.{reads, read_state}
use Rattle.mt_publish.proofs.Pages.{page_after, at_after}
use Rattle.mt_publish.proofs.carriers.ViewReader.into_read.Goals as goal

pub enter_as-requires : goal.enter_as-requires
enter_as-requires c x = reads _ _ x

-- the state that is read is the opening one after the list
state : (c : goal.After-result-in-Ok-1) (o : StateView) → reader_opening c.args.self ≡ Some o
    → c.get.result.now.state ≡ applied_all o (view c.leave-reader.result.place).list
state c o is =
    let x = c.in-Ok.reading.part.value in
    ap (λ s. s.state) c.get.ensures ∙ (read_state _ _ x x o c.in-Ok.ensures.1 is ∙ ap (λ v. applied_all o v.list) (sym c.leave-reader.ensures.1))

page : (c : goal.After-result-in-Ok-1) (o : StateView) → reader_opening c.args.self ≡ Some o
    → IfOk c.page-page.result (λ p. p ≡ page_of_state (applied_all o (view c.leave-reader.result.place).list) c.args.start.now c.args.limit)
page c o is = subst (λ (s : StateView). IfOk c.page-page.result (λ p. p ≡ page_of_state s c.args.start.now c.args.limit)) (state c o is) c.page-page.ensures.page

pub returns-in-Ok-clause-page : goal.returns-in-Ok-clause-page
returns-in-Ok-clause-page c o is = page c o is

pub returns-in-Ok-clause-rows : goal.returns-in-Ok-clause-rows
returns-in-Ok-clause-rows c o rows is h =
    subst (λ (q : Page). IfOk c.page-page.result (λ p. p ≡ q)) (page_after o rows (view c.leave-reader.result.place).list c.args.start.now c.args.limit h) (page c o is)

pub returns-in-Ok-clause-behind : goal.returns-in-Ok-clause-behind
returns-in-Ok-clause-behind c o at is refused =
    let s = c.get.result.now.state in
    let far : Type 0 = length c.get.result.now.mark.list < length c.args.self.heard.list in
    let why : (Behind at ≡ NoMemory) ⊎ ((Behind at ≡ Behind s.at) × far) =
    subst (λ r. IfErr r (λ e. (e ≡ NoMemory) ⊎ ((e ≡ Behind s.at) × far))) refused c.page-page.ensures.fault in
    let here : at ≡ s.at = ⊎_elim (λ (t : Behind at ≡ NoMemory). absurd (cc t)) (λ (t : (Behind at ≡ Behind s.at) × far). let e = t.0 in cc e) why in
    here ∙ (ap (λ (z : StateView). z.at) (state c o is) ∙ at_after o (view c.leave-reader.result.place).list)
