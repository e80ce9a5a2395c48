use Rattle.field.proofs.Begins.{entered}
use Rattle.field.proofs.open_field.OpenField.enter.Goals as goal

pub returns : goal.returns
returns c = λ log. entered c.args.self.now log c.args.table.now c.args.operation
