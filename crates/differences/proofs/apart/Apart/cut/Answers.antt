use Rattle.std.proofs.Common.{arith, w32, SFits, rules}
use Rattle.std.proofs.lemmas.Int.{ints, to_z-of_z}
use Rattle.differences.specs.Apart.{far}
use Rattle.rules.proofs.Windows.{lawful_at}
use Rattle.differences.proofs.Columns.{columns_left, no_plan}
use Rattle.differences.proofs.apart.Apart.cut.Goals as goal

pub keep_apart-requires : goal.keep_apart-requires
keep_apart-requires c =
    record {
      lawful = (lawful_at _ _ c.requires.lawful c.requires.there.0, lawful_at _ _ c.requires.lawful c.requires.there.1);
      range = (omega (arith, ints, c.requires.range), omega (arith, ints, c.requires.range));
    }

pub returns-in-Some : goal.returns-in-Some
returns-in-Some c =
    let fits : SFits w32 c.args.self.now.gap = search rules in
    record {
      left =
          columns_left (far c.args.self.now.gap) c.args.self.now.one c.args.self.now.other c.args.windows.now c.requires.there.0 c.requires.there.1 c.requires.two c.requires.lawful _ _
          (simp to_z-of_z at c.in-Some.ensures);
      stays = search rules;
    }

pub returns-in-None : goal.returns-in-None
returns-in-None c =
    let fits : SFits w32 c.args.self.now.gap = search rules in
    record {
      left = no_plan (far c.args.self.now.gap) c.args.self.now.one c.args.self.now.other c.args.windows.now c.requires.there.0 c.requires.there.1 (simp to_z-of_z at c.in-None.ensures);
      stays = search rules;
    }
