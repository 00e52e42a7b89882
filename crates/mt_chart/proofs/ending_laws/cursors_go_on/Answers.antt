-- The law, by its lemmas.
use Rattle.std.proofs.Common.{◌+◌, arith}
use Rattle.mt_types.specs.declared.limits.TheConstants.{MAX_LAYER}
use Rattle.mt_chart.proofs.Cursor.{leaves_border, leaves_layer}
use Rattle.mt_chart.proofs.ending_laws.cursors_go_on.Goals as goal

pub returns-clause-right : goal.returns-clause-right
returns-clause-right c = λ prefix digits digit slice low layer are most less. leaves_border (MAX_LAYER + 1) prefix digits digit slice low (omega arith) are most less

pub returns-clause-layer : goal.returns-clause-layer
returns-clause-layer c = λ prefix digits slice layer are. leaves_layer (MAX_LAYER + 1) prefix digits slice (omega arith) are
