-- Every record but a script eats a token of its own.
use Rattle.std.proofs.Common.{◌≤◌, Bool, true, false, cond, T, List, arith}
use Rattle.token.specs.declared.Token.{Token}
use Rattle.kinds.specs.Levels.{Standing}
use Rattle.grammar.specs.Codes.{comma}
use Rattle.grammar.proofs.Tests.{and_l, and_r}
use Rattle.grammar.specs.Parser.{Do, fail, fin, eat, sub, peek, more, items, stms, operand, names, behind, starts, at_stop, first_opens, settle, prefix, frame_do, After}
use Rattle.reader.specs.Table.{goal_of}
use Rattle.reader.specs.Reads.{eats, own}
use Rattle.reader.specs.declared.goal.Goal.{Goal}
use Rattle.reader.proofs.Begun.{either, prefix_both, frame_both}

settled : (s : Do) (ks : List Token) → T (eats s) → T (eats (settle s ks))
settled fail ks h = tt
settled (fin f) ks h = h
settled (eat c s) ks h = tt
settled (sub m q s) ks h = h
settled (peek c s t) ks h = either eats (starts c ks) _ _ (settled s ks (and_l (eats s) _ h)) (settled t ks (and_r (eats s) _ h))
settled (more m q s) ks h = either eats (starts comma ks) (eat comma (sub m q (more m q s))) _ tt (settled s ks h)
settled (items q c s) ks h = either eats (starts c ks) (settle s ks) _ (settled s ks h) h
settled (stms s) ks h = either eats (at_stop ks) (settle s ks) _ (settled s ks h) h
settled (operand s t) ks h = either eats (first_opens ks) _ _ (settled s ks (and_l (eats s) _ h)) (settled t ks (and_r (eats s) _ h))
settled (names s) ks h = h
settled (behind s) ks h = either eats (starts comma ks) (eat comma (names s)) _ tt (settled s ks h)

own_by : (b d : Bool) → (T b → T d) → cond b 1 0 ≤ cond d 1 0
own_by true true h = omega arith
own_by true false h = absurd (h tt)
own_by false d h = omega arith

pub own_settle : (s : Do) (ks : List Token) → own s ≤ own (settle s ks)
own_settle s ks = own_by (eats s) (eats (settle s ks)) (settled s ks)

pub own_one : (s : Do) → own s ≤ 1
own_one s = one (eats s)
  where
    one : (b : Bool) → cond b 1 0 ≤ 1
    one true = omega arith
    one false = omega arith

pub own_true : (s : Do) → T (eats s) → 1 ≤ own s
own_true s h = is (eats s) h
  where
    is : (b : Bool) → T b → 1 ≤ cond b 1 0
    is true h = omega arith
    is false h = absurd h

pub prefix_eats : (q : Goal) (ks : List Token) → T (eats (prefix (goal_of q) ks))
prefix_eats q ks = and_l (eats (prefix (goal_of q) ks)) _ (prefix_both q ks)

pub frame_eats : (a : After) (s : Standing) → T (eats (frame_do a s))
frame_eats a s = and_l (eats (frame_do a s)) _ (frame_both a s)
