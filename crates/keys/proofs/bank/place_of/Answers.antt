use Rattle.keys.proofs.Tables.{table_laws}
use Rattle.keys.proofs.bank.place_of.Goals as goal

pub returns-clause-laws : goal.returns-clause-laws
returns-clause-laws g c = table_laws g.B.Key.Key.sameness
