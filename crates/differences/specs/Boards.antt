-- Worked boards: which plans are allowed, which windows are given, and what is left of them.
use Rattle.std.specs.Prelude.{◌≡◌, ℕ, Bool, List, [], ◌∷◌, map, ℤ, pos, negsuc, Some, None, Option}
use Rattle.rules.specs.declared.window.Window.{Window}
use Rattle.rules.specs.Enumeration.{hull}
use Rattle.differences.specs.declared.link.Link.{Link}
use Rattle.differences.specs.Links.{all_linked}
use Rattle.differences.specs.Apart.{apart}

pub record Board : Type 0 where
  pub allows : List ℤ → Bool
  pub given : List Window
  pub left : Option (List Window)

-- the window from a to b
abbrev to : ℕ → ℕ → Window
to a b = record { first = pos a; last = pos b }

abbrev link : ℕ → ℕ → ℤ → Link
link a b c = record { left = a; right = b; bound = c }

abbrev pub boards : List Board
boards =
    record { allows = all_linked (link 0 1 (negsuc 2) ∷ []); given = to 0 5 ∷ to 0 9 ∷ []; left = Some (to 0 5 ∷ to 3 9 ∷ []) }
    -- a ring below 0
    ∷ record { allows = all_linked (link 0 1 (pos 1) ∷ link 1 0 (negsuc 1) ∷ []); given = to 0 5 ∷ to 0 5 ∷ []; left = None }
    ∷ record { allows = apart 0 1 (pos 4); given = to 0 5 ∷ to 2 4 ∷ []; left = Some (to 0 0 ∷ to 4 4 ∷ []) }
    -- nothing is struck, though 5 in column 0 is in no plan
    ∷ record { allows = apart 0 1 (pos 4); given = to 0 9 ∷ to 4 5 ∷ []; left = Some (to 0 9 ∷ to 4 5 ∷ []) }
    ∷ record { allows = apart 0 1 (pos 4); given = to 5 5 ∷ to 4 5 ∷ []; left = None }
    ∷ []

-- each board leaves what is said
abbrev pub BoardsStand : Type 0
BoardsStand = map (λ b. hull b.allows b.given) boards ≡ map (λ b. b.left) boards
