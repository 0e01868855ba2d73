-- The tables that the code is proved equal to, and the standings that the grammar is stated with, say the same.
--
--   class_rank c        a number for each class, and 0 for none
--   Agree f c t         of a form f whose first child is (c) of the class C, (t) a target: its level, its class and whether it is a target are
--                       those of its standing
--   TablesAgree         so for every operator and every form. Forms that are no expressions agree too; nothing asks them
--
-- Assumes nothing.
use Rattle.std.specs.Prelude.{◌≡◌, ℕ, Bool, Some, None, Option, nat_eq}
use Rattle.kinds.specs.declared.form.Form.{Form}
use Rattle.kinds.specs.declared.operator.BinaryOperator.{BinaryOperator}
use Rattle.kinds.specs.declared.level.Class.{Class}
use Rattle.kinds.specs.declared.level.Class.TheVariants as class
use Rattle.kinds.specs.Levels.{binary_level, form_level, class_of, target_of, level, binary_standing, standing, is_n, is_c, is_o, is_m, is_target}

abbrev pub class_rank : Option Class → ℕ
class_rank None = 0
class_rank (Some class.N) = 1
class_rank (Some class.C) = 2
class_rank (Some class.O) = 3
class_rank (Some class.M) = 4

pub record Agree (f : Form) (c t : Bool) : Type 0 where
  pub same_level : form_level f ≡ level (standing f c t)
  pub same_n : nat_eq (class_rank (class_of f c)) 1 ≡ is_n (standing f c t)
  pub same_c : nat_eq (class_rank (class_of f c)) 2 ≡ is_c (standing f c t)
  pub same_o : nat_eq (class_rank (class_of f c)) 3 ≡ is_o (standing f c t)
  pub same_m : nat_eq (class_rank (class_of f c)) 4 ≡ is_m (standing f c t)
  pub same_target : target_of f t ≡ is_target (standing f c t)

abbrev pub TablesAgree : Type 0
TablesAgree = ((o : BinaryOperator) → binary_level o ≡ level (binary_standing o)) × ((f : Form) (c t : Bool) → Agree f c t)
