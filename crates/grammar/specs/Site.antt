-- What a tree is, as far as the place where it stands can ask, and which sites take what.
--
--   Attr             the sort of a tree (an expression, a statement ..); of an expression its standing, whether an `in` stands
--                    in the open in it, and what it begins with; of a statement whether an `else` behind it would be its own;
--                    of a Var whether it is a single Name without a value, of a Name, a Num and a Str that
--                    it is a single token
--   Site             where a tree can stand: an expression in one of the slots, and a dozen others
--   ok s a           a tree with the attributes a may stand at the site s
--
-- Assumes nothing.
use Rattle.std.specs.Prelude.{ℕ, Bool, true, false, not, ◌&&◌, ◌||◌, eqb}
use Rattle.kinds.specs.Levels.{Standing, fits}
use Rattle.kinds.specs.declared.level.Slot.{Slot}
use Rattle.kinds.specs.declared.level.Slot.TheVariants as slot

pub data Sort : Type 0 where
  expression statement block declaration property valued script nothing : Sort

abbrev pub sort_rank : Sort → ℕ
sort_rank expression = 0
sort_rank statement = 1
sort_rank block = 2
sort_rank declaration = 3
sort_rank property = 4
sort_rank valued = 5
sort_rank script = 6
sort_rank nothing = 7

-- The first token, as far as start rules ask: `{`, `function`, or another.
pub data Begin : Type 0 where
  brace function other : Begin

abbrev pub is_brace : Begin → Bool
is_brace brace = true
is_brace function = false
is_brace other = false

abbrev pub is_other : Begin → Bool
is_other brace = false
is_other function = false
is_other other = true

pub record Attr : Type 0 where
  pub sort : Sort
  pub standing : Standing
  pub bare_in : Bool
  pub begin : Begin
  pub dangles : Bool
  pub single : Bool

abbrev pub is_sort : Sort → Attr → Bool
is_sort s a = eqb (sort_rank s) (sort_rank a.sort)

abbrev pub is_expression : Attr → Bool
is_expression a = is_sort expression a

-- A Block and a Var are statements too.
abbrev pub is_statement : Attr → Bool
is_statement a = is_sort statement a || (is_sort block a || is_sort declaration a)

pub data Site : Type 0 where
  -- an expression in a slot
  at : Slot → Site
  -- the expression of an ExprStmt: it does not begin with `{` or `function`
  start : Site
  -- the body of an Arrow: a Block, or an expression that does not begin with `{`
  body : Site
  -- the Block of a Fn
  block_only : Site
  -- a statement in a list, or as a body
  stmt : Site
  -- the first body of an If with else
  closed : Site
  -- an expression that is the init of a For: no `in` in the open
  init : Site
  -- a Var that is the init of a For: no `in` in the open
  var_init : Site
  -- a Var on the left of a ForIn: one Name without value
  var_in : Site
  -- a Prop
  prop : Site
  -- a plain Name; a Name of a Var with a value next to it; a key that is not computed
  plain_name valued_name key_name : Site
  -- the whole script
  root : Site

abbrev pub ok : Site → Attr → Bool
ok (at p) a = is_expression a && fits p a.standing
ok start a = is_expression a && is_other a.begin
ok body a = is_sort block a || (is_expression a && (fits slot.Assignment a.standing && not (is_brace a.begin)))
ok block_only a = is_sort block a
ok stmt a = is_statement a
ok closed a = is_statement a && not a.dangles
ok init a = is_expression a && not a.bare_in
ok var_init a = is_sort declaration a && not a.bare_in
ok var_in a = is_sort declaration a && a.single
ok prop a = is_sort property a
ok plain_name a = is_expression a && (a.single && fits slot.Identifier a.standing)
ok key_name a = is_expression a && (a.single && fits slot.PropertyName a.standing)
ok valued_name a = is_sort valued a
ok root a = is_sort script a

-- A Var in the head of a For or a ForIn is written without its `;`.
abbrev pub in_head : Site → Bool
in_head (at p) = false
in_head start = false
in_head body = false
in_head block_only = false
in_head stmt = false
in_head closed = false
in_head init = false
in_head var_init = true
in_head var_in = true
in_head prop = false
in_head plain_name = false
in_head key_name = false
in_head valued_name = false
in_head root = false
