use Rattle.std.proofs.Common.{◌≡◌, List, ℕ, Bool, [], ◌∷◌, ◌++◌, map, refl, ap, ◌∙◌}
use Rattle.std.proofs.lemmas.List.{map-append}
use Rattle.std.proofs.lemmas.Result.{IfOk-weaker}
use Rattle.std.specs.Borrow.{Bor}
use Rattle.clap.specs.Adds.{AddsAliases}
use Rattle.clap.specs.Words.{Rule, rule_of}
use Rattle.clap.specs.declared.builder.arg.Arg.{Arg}
use Rattle.mt_command_line.specs.Opening.{aliased_rule}
use Rattle.mt_command_line.specs.Numbers.{number_rule}
use Rattle.mt_command_line.proofs.opening.aliased_option.Goals as goal

abbrev text_of : Bor (List ℕ) × Bool → List ℕ
text_of alias = alias.0.now

with_alias : (old new : Arg) (name alias : List ℕ) (least most : ℕ) (added : Bor (List ℕ) × Bool)
    → rule_of old ≡ number_rule name least most → text_of added ≡ alias → AddsAliases old new (added ∷ [])
    → rule_of new ≡ aliased_rule name alias least most
with_alias old new name alias least most added was named adds =
    ap rule_of adds.0
    ∙ ap (λ (aliases : List (List ℕ)). record (rule_of old) { aliases = aliases }) (ap (map text_of) adds.1 ∙ map-append text_of old.aliases.items (added ∷ []))
    ∙ ap (λ (rule : Rule). record rule { aliases = rule.aliases ++ text_of added ∷ [] }) was
    ∙ ap (λ (text : List ℕ). aliased_rule name text least most) named

pub returns-clause-rule : goal.returns-clause-rule
returns-clause-rule c =
    IfOk-weaker c.visible_alias.result _ _
    (λ (new : Arg). with_alias c.number_option.result new c.args.name.now c.args.alias.now c.args.least c.args.most _ c.number_option.ensures.rule refl)
    c.visible_alias.ensures
