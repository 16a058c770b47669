use Rattle.rules.proofs.Windows.{lawful_at}
use Rattle.depot.proofs.Points.{open_points, void_points}
use Rattle.depot.proofs.hours.Hours.cut.Goals as goal

pub quarters-requires : goal.quarters-requires
quarters-requires c = lawful_at c.args.windows.now c.args.self.now.column c.requires.lawful c.requires.there

pub returns-in-Some : goal.returns-in-Some
returns-in-Some c = open_points c.args.self.now c.args.windows.now c.requires.lawful c.requires.there c.in-Some.window c.in-Some.ensures

pub returns-in-None : goal.returns-in-None
returns-in-None c = void_points c.args.self.now c.args.windows.now c.requires.lawful c.requires.there c.in-None.ensures
