use Rattle.std.proofs.Common.{◌∙◌}
use Rattle.index.proofs.Laying.{measured_length}
use Rattle.index.proofs.index.Measured.len.Goals as goal

pub returns : goal.returns
returns g c = c.index_len.ensures ∙ measured_length (g.B.Items.items c.args.self.now.bank.now) c.args.self.now.measure c.args.self.now.is
