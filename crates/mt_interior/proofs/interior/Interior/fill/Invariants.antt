use Rattle.std.proofs.Common.{◌≡◌, take}
use Rattle.mt_interior.proofs.interior.Interior.fill.Given as goal

abbrev pub invariant-loop-child : goal.invariant-loop-child
invariant-loop-child l = l.self-inside ≡ record l.initial.self-inside { children = record { items = take l.child-index l.children } }
