use Rattle.std.proofs.Common.{Option, subst}
use Rattle.rules.specs.declared.window.Window.{Window}
use Rattle.differences.specs.Pairs.{PairLeaves}
use Rattle.differences.proofs.Pairing.{joined_both, joined_left, joined_right}
use Rattle.differences.proofs.pairs.join.Goals as goal

pub returns-in-Some-Some : goal.returns-in-Some-Some
returns-in-Some-Some c R S a b r s =
    rw (c.span.ensures, c.span-in-Some-Some.ensures)
    (joined_both R S a b _ _ _ _
    (subst (λ (o : Option (Window × Window)). PairLeaves R a b o) c.in-Some-Some.is-0 r)
    (subst (λ (o : Option (Window × Window)). PairLeaves S a b o) c.in-Some-Some.is-1 s))

pub returns-in-Some-None : goal.returns-in-Some-None
returns-in-Some-None c R S a b r s =
    joined_left R S a b c.args.these r (subst (λ (o : Option (Window × Window)). PairLeaves S a b o) c.in-Some-None.is-1 s)

pub returns-in-None-default : goal.returns-in-None-default
returns-in-None-default c R S a b r s =
    joined_right R S a b c.args.those (subst (λ (o : Option (Window × Window)). PairLeaves R a b o) c.in-None-default.is-0 r) s
