-- From what the closed table shows to rings and ties.
use Rattle.std.proofs.Common.{◌≡◌, ℕ, ◌<◌, true, List, ℤ, Some, None, Option, arith}
use Rattle.std.specs.List.{ContainsAt}
use Rattle.std.proofs.lemmas.Bool.{and_parts, and_from, both_ways, ltb-true, lt-ltb}
use Rattle.rules.specs.declared.fault.Fault.TheVariants.{NegativeRing, TiedSummands}
use Rattle.differences.specs.declared.link.Link.{Link}
use Rattle.rings.specs.Rings.{RingPlace, TiedSummand, RingsJudged, ring_below, tied, neither}
use Rattle.rings.specs.Tables.{Walks, GoodLinks, on_ring_below, is_tied, FirstBelow}
use Rattle.rings.proofs.Closed.{ring, no_ring, tie_shown, shown_tie}
use Rattle.rings.proofs.Ties.{tie_some, some_tie, tied_parts, tied_from}

module _ (k : ℕ) (links : List Link) (g : GoodLinks k links) (d : ℕ → ℕ → Option ℤ) (w : Walks k links k d) (ss : List ℕ) where
  good : (l : Link) → ContainsAt links l → (l.right < k) × (l.left < k)
  good l a = (g.right l a, g.left l a)

  pub judged_ring : (i : ℕ) → FirstBelow k (on_ring_below k d) (Some i) → RingsJudged k links ss (Some (NegativeRing i))
  judged_ring i f =
      ring_below i (f.0, ring k links good d w i f.0 f.1, λ j l. no_ring k links good d w j (let h = f.0 in omega arith) (f.2 j l))

  module _ (free : FirstBelow k (on_ring_below k d) None) where
    no_ring_found : RingPlace k links None
    no_ring_found i l = no_ring k links good d w i l (free i l)

    shown : (p : ℕ) → p < k → is_tied k d ss p ≡ true → TiedSummand k links ss p
    shown p hp s =
        let (named, among) = tied_parts k d p ss s in
        let (q, h, t) = tie_some k d p ss among in
        let both = and_parts _ _ t in
        let hq = ltb-true q k both.0 in
        let r = shown_tie k links good d w p q hp hq both.1 in
        record { other = q; there = hq; named = named; also = h; apart = r.0; tied = r.1 }

    shows : (p : ℕ) → p < k → TiedSummand k links ss p → is_tied k d ss p ≡ true
    shows p hp t =
        tied_from k d p ss t.named
        (some_tie k d p ss t.other t.also
        (and_from _ _ (lt-ltb t.other k t.there) (tie_shown k links good d w free p t.other hp t.there t.apart t.tied)))

    pub judged_tied : (p : ℕ) → FirstBelow k (is_tied k d ss) (Some p) → RingsJudged k links ss (Some (TiedSummands p))
    judged_tied p f =
        tied p no_ring_found f.0 (shown p f.0 f.1) (λ q l h. both_ways _ (f.2 q l) (shows q (let lt = f.0 in omega arith) h))

    pub judged_neither : FirstBelow k (is_tied k d ss) None → RingsJudged k links ss None
    judged_neither f = neither no_ring_found (λ p l h. both_ways _ (f p l) (shows p l h))
