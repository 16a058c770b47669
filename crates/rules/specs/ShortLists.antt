-- Lists in fixed memory.
use Rattle.std.specs.Prelude.{ℕ, cond, List, [], take, nat_le}
use Rattle.rules.specs.declared.short_list.ShortList.{ShortList}

-- the entries: those in the first `count` places, and none where the count is beyond the places
abbrev pub listed : {T : Type 0} {N : ℕ} → ShortList T N → List T
listed {N = N} s = cond (nat_le s.count N) (take s.count s.places) []
