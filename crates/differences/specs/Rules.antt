-- What a rule of links means.
use Rattle.rules.specs.Meaning.{Meaning}
use Rattle.rules.specs.ShortLists.{listed}
use Rattle.differences.specs.declared.links.Links.{Links}
use Rattle.differences.specs.Links.{links_meaning}

-- the meaning is read off the links that were set
abbrev pub meaning_of : Links → Meaning
meaning_of r = links_meaning r.columns (listed r.links)
