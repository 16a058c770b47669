use Rattle.std.proofs.Common.{rules}
use Rattle.std.proofs.lemmas.Slice.{overwrites}
use Rattle.rules.proofs.short_list.ShortList.of.Goals as goal

pub returns : goal.returns
returns g c = search (rules, overwrites)
