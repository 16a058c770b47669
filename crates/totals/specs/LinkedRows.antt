-- What a sum with links means.
use Rattle.std.specs.Prelude.{List}
use Rattle.rules.specs.ShortLists.{listed}
use Rattle.rules.specs.Meaning.{Meaning}
use Rattle.differences.specs.declared.link.Link.{Link}
use Rattle.totals.specs.declared.linked.LinkedSum.{LinkedSum}
use Rattle.totals.specs.Linked.{linked_sums}
use Rattle.totals.specs.Sums.{Kind}
use Rattle.totals.specs.Terms.{row_meaning}

-- the links that were set
abbrev pub kept_links : LinkedSum → List Link
kept_links r = listed r.links.links

abbrev pub linked_kind : List Link → Kind
linked_kind ls t ss = linked_sums t ss ls

-- the meaning is read off the terms and the links that were set
abbrev pub linked_meaning : LinkedSum → Meaning
linked_meaning r = row_meaning (linked_kind (kept_links r)) r.terms
