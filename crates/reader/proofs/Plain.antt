-- No child of a record is read as a script.
use Rattle.std.proofs.Common.{T, List}
use Rattle.token.specs.declared.Token.{Token}
use Rattle.kinds.specs.Levels.{Standing}
use Rattle.grammar.specs.Codes.{comma}
use Rattle.grammar.proofs.Tests.{and_l, and_r, and_i}
use Rattle.grammar.specs.Parser.{Goal, ex, stm, blk, dec, prp, nam, scr, Do, fail, fin, eat, sub, peek, more, items, stms, operand, names, behind, starts, at_stop, first_opens, settle, prefix, frame_do, After}
use Rattle.reader.specs.Width.{plain, not_script}
use Rattle.reader.specs.Reads.{eats}
use Rattle.reader.proofs.Begun.{either, prefix_both, frame_both}
use Rattle.reader.proofs.Eats.{prefix_eats}
use Rattle.reader.specs.declared.goal.Goal.TheVariants.{Expression, Statement}

pub settled : (s : Do) (ks : List Token) → T (plain s) → T (plain (settle s ks))
settled fail ks h = tt
settled (fin f) ks h = h
settled (eat c s) ks h = h
settled (sub m q s) ks h = h
settled (peek c s t) ks h = either plain (starts c ks) _ _ (settled s ks (and_l (plain s) _ h)) (settled t ks (and_r (plain s) _ h))
settled (more m q s) ks h = either plain (starts comma ks) (eat comma (sub m q (more m q s))) _ (and_i (not_script q) _ (and_l (not_script q) _ h) h) (settled s ks (and_r (not_script q) _ h))
settled (items q c s) ks h = either plain (starts c ks) (settle s ks) _ (settled s ks (and_r (not_script q) _ h)) (and_i (not_script q) _ (and_l (not_script q) _ h) h)
settled (stms s) ks h = either plain (at_stop ks) (settle s ks) _ (settled s ks h) h
settled (operand s t) ks h = either plain (first_opens ks) _ _ (settled s ks (and_l (plain s) _ h)) (settled t ks (and_r (plain s) _ h))
settled (names s) ks h = and_i (plain s) _ h h
settled (behind s) ks h = either plain (starts comma ks) (eat comma (names s)) _ h (settled s ks h)

pub prefix_plain : (q : Goal) (ks : List Token) → T (plain (prefix q ks))
prefix_plain (ex p) ks = and_r (eats (prefix (ex p) ks)) _ (prefix_both (Expression p) ks)
prefix_plain stm ks = and_r (eats (prefix stm ks)) _ (prefix_both Statement ks)
prefix_plain blk ks = tt
prefix_plain dec ks = tt
prefix_plain prp ks = tt
prefix_plain nam ks = tt
prefix_plain scr ks = tt

-- and every goal but a script eats
pub goal_eats : (q : Goal) (ks : List Token) → T (not_script q) → T (eats (prefix q ks))
goal_eats (ex p) ks h = prefix_eats (Expression p) ks
goal_eats stm ks h = prefix_eats Statement ks
goal_eats blk ks h = tt
goal_eats dec ks h = tt
goal_eats prp ks h = tt
goal_eats nam ks h = tt
goal_eats scr ks h = absurd h

pub frame_plain : (a : After) (s : Standing) → T (plain (frame_do a s))
frame_plain a s = and_r (eats (frame_do a s)) _ (frame_both a s)
