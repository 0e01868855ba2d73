-- Laws of the tables: what may stand behind an expression where it ends. Each is found by computing over all slots, standings and frames.
use mathlib.Core.Path.{◌≡◌}
use mathlib.Core.Bool.{Bool, true, false, not, ◌&&◌, ◌||◌}
use mathlib.Core.List.{List, [], ◌∷◌}
use lib.Dec.{T}
use Rattle.kinds.specs.Levels.{Standing, sequence, assignment, conditional, coalescing, disjunction, conjunction, bit_or, bit_xor, bit_and, equality, relation, shift, sum, product, power, unary, update, bare_new, optional, call, call_member, primary, literal, member, name, is_n, is_o, binary_standing, fits}
use Rattle.kinds.specs.declared.level.Slot.{Slot}
use Rattle.kinds.specs.declared.level.Slot.TheVariants as slot
use Rattle.kinds.specs.declared.operator.BinaryOperator.{BinaryOperator}
use Rattle.kinds.specs.declared.operator.BinaryOperator.TheVariants as binary
use Rattle.kinds.specs.Levels.{right_slot}
use Rattle.grammar.specs.Parser.{Frame, f_seq, f_asg, f_cnd, f_nul, f_or, f_and, f_bor, f_xor, f_band, f_eq, f_rel, f_in, f_shf, f_add, f_mul, f_pow, f_post, f_mem, f_call, f_link, f_end, f_never, first_slot, grown, is_frame, takes}
use Rattle.grammar.proofs.Tests.{and_l, and_r, and_i, or_l, or_r, is_false, imp, mp, all, pick}

abbrev pub standings : List Standing
standings = sequence ∷ assignment ∷ conditional ∷ coalescing ∷ disjunction ∷ conjunction ∷ bit_or ∷ bit_xor ∷ bit_and ∷ equality ∷ relation ∷ shift ∷ sum ∷ product ∷ power ∷ unary ∷ update ∷ bare_new ∷ optional ∷ call ∷ call_member ∷ primary ∷ literal ∷ member ∷ name ∷ []

pub at_standing : (P : Standing → Bool) → T (all P standings) → (x : Standing) → T (P x)
at_standing P h sequence = pick P standings 0 h
at_standing P h assignment = pick P standings 1 h
at_standing P h conditional = pick P standings 2 h
at_standing P h coalescing = pick P standings 3 h
at_standing P h disjunction = pick P standings 4 h
at_standing P h conjunction = pick P standings 5 h
at_standing P h bit_or = pick P standings 6 h
at_standing P h bit_xor = pick P standings 7 h
at_standing P h bit_and = pick P standings 8 h
at_standing P h equality = pick P standings 9 h
at_standing P h relation = pick P standings 10 h
at_standing P h shift = pick P standings 11 h
at_standing P h sum = pick P standings 12 h
at_standing P h product = pick P standings 13 h
at_standing P h power = pick P standings 14 h
at_standing P h unary = pick P standings 15 h
at_standing P h update = pick P standings 16 h
at_standing P h bare_new = pick P standings 17 h
at_standing P h optional = pick P standings 18 h
at_standing P h call = pick P standings 19 h
at_standing P h call_member = pick P standings 20 h
at_standing P h primary = pick P standings 21 h
at_standing P h literal = pick P standings 22 h
at_standing P h member = pick P standings 23 h
at_standing P h name = pick P standings 24 h

abbrev pub slots : List Slot
slots = slot.Expression ∷ slot.Assignment ∷ slot.ShortCircuit ∷ slot.LogicalOr ∷ slot.Coalesce ∷ slot.LogicalAnd ∷ slot.BitwiseOr ∷ slot.BitwiseXor ∷ slot.BitwiseAnd ∷ slot.Equality ∷ slot.Relational ∷ slot.Shift ∷ slot.Additive ∷ slot.Multiplicative ∷ slot.Exponentiation ∷ slot.Unary ∷ slot.Update ∷ slot.New ∷ slot.Member ∷ slot.Call ∷ slot.Optional ∷ slot.Chain ∷ slot.Target ∷ slot.Identifier ∷ slot.PropertyName ∷ []

pub at_slot : (P : Slot → Bool) → T (all P slots) → (x : Slot) → T (P x)
at_slot P h slot.Expression = pick P slots 0 h
at_slot P h slot.Assignment = pick P slots 1 h
at_slot P h slot.ShortCircuit = pick P slots 2 h
at_slot P h slot.LogicalOr = pick P slots 3 h
at_slot P h slot.Coalesce = pick P slots 4 h
at_slot P h slot.LogicalAnd = pick P slots 5 h
at_slot P h slot.BitwiseOr = pick P slots 6 h
at_slot P h slot.BitwiseXor = pick P slots 7 h
at_slot P h slot.BitwiseAnd = pick P slots 8 h
at_slot P h slot.Equality = pick P slots 9 h
at_slot P h slot.Relational = pick P slots 10 h
at_slot P h slot.Shift = pick P slots 11 h
at_slot P h slot.Additive = pick P slots 12 h
at_slot P h slot.Multiplicative = pick P slots 13 h
at_slot P h slot.Exponentiation = pick P slots 14 h
at_slot P h slot.Unary = pick P slots 15 h
at_slot P h slot.Update = pick P slots 16 h
at_slot P h slot.New = pick P slots 17 h
at_slot P h slot.Member = pick P slots 18 h
at_slot P h slot.Call = pick P slots 19 h
at_slot P h slot.Optional = pick P slots 20 h
at_slot P h slot.Chain = pick P slots 21 h
at_slot P h slot.Target = pick P slots 22 h
at_slot P h slot.Identifier = pick P slots 23 h
at_slot P h slot.PropertyName = pick P slots 24 h

abbrev pub frames : List Frame
frames = f_seq ∷ f_asg ∷ f_cnd ∷ f_nul ∷ f_or ∷ f_and ∷ f_bor ∷ f_xor ∷ f_band ∷ f_eq ∷ f_rel ∷ f_in ∷ f_shf ∷ f_add ∷ f_mul ∷ f_pow ∷ f_post ∷ f_mem ∷ f_call ∷ f_link ∷ f_end ∷ f_never ∷ []

pub at_frame : (P : Frame → Bool) → T (all P frames) → (x : Frame) → T (P x)
at_frame P h f_seq = pick P frames 0 h
at_frame P h f_asg = pick P frames 1 h
at_frame P h f_cnd = pick P frames 2 h
at_frame P h f_nul = pick P frames 3 h
at_frame P h f_or = pick P frames 4 h
at_frame P h f_and = pick P frames 5 h
at_frame P h f_bor = pick P frames 6 h
at_frame P h f_xor = pick P frames 7 h
at_frame P h f_band = pick P frames 8 h
at_frame P h f_eq = pick P frames 9 h
at_frame P h f_rel = pick P frames 10 h
at_frame P h f_in = pick P frames 11 h
at_frame P h f_shf = pick P frames 12 h
at_frame P h f_add = pick P frames 13 h
at_frame P h f_mul = pick P frames 14 h
at_frame P h f_pow = pick P frames 15 h
at_frame P h f_post = pick P frames 16 h
at_frame P h f_mem = pick P frames 17 h
at_frame P h f_call = pick P frames 18 h
at_frame P h f_link = pick P frames 19 h
at_frame P h f_end = pick P frames 20 h
at_frame P h f_never = pick P frames 21 h

abbrev bools : List Bool
bools = true ∷ false ∷ []

at_bool : (P : Bool → Bool) → T (all P bools) → (x : Bool) → T (P x)
at_bool P h true = pick P bools 0 h
at_bool P h false = pick P bools 1 h

-- The slots that the reader reads for. A target, and what a tail stands on, are read otherwise and then looked at.
abbrev pub called : Slot → Bool
called slot.Expression = true
called slot.Assignment = true
called slot.ShortCircuit = true
called slot.LogicalOr = true
called slot.Coalesce = true
called slot.LogicalAnd = true
called slot.BitwiseOr = true
called slot.BitwiseXor = true
called slot.BitwiseAnd = true
called slot.Equality = true
called slot.Relational = true
called slot.Shift = true
called slot.Additive = true
called slot.Multiplicative = true
called slot.Exponentiation = true
called slot.Unary = true
called slot.Update = true
called slot.New = true
called slot.Member = true
called slot.Call = true
called slot.Optional = true
called slot.Chain = false
called slot.Target = false
called slot.Identifier = true
called slot.PropertyName = true

abbrev is_end : Frame → Bool
is_end f_seq = false
is_end f_asg = false
is_end f_cnd = false
is_end f_nul = false
is_end f_or = false
is_end f_and = false
is_end f_bor = false
is_end f_xor = false
is_end f_band = false
is_end f_eq = false
is_end f_rel = false
is_end f_in = false
is_end f_shf = false
is_end f_add = false
is_end f_mul = false
is_end f_pow = false
is_end f_post = false
is_end f_mem = false
is_end f_call = false
is_end f_link = false
is_end f_end = true
is_end f_never = false

abbrev pub is_never : Frame → Bool
is_never f_seq = false
is_never f_asg = false
is_never f_cnd = false
is_never f_nul = false
is_never f_or = false
is_never f_and = false
is_never f_bor = false
is_never f_xor = false
is_never f_band = false
is_never f_eq = false
is_never f_rel = false
is_never f_in = false
is_never f_shf = false
is_never f_add = false
is_never f_mul = false
is_never f_pow = false
is_never f_post = false
is_never f_mem = false
is_never f_call = false
is_never f_link = false
is_never f_end = false
is_never f_never = true

abbrev pub is_comma : Frame → Bool
is_comma f_seq = true
is_comma f_asg = false
is_comma f_cnd = false
is_comma f_nul = false
is_comma f_or = false
is_comma f_and = false
is_comma f_bor = false
is_comma f_xor = false
is_comma f_band = false
is_comma f_eq = false
is_comma f_rel = false
is_comma f_in = false
is_comma f_shf = false
is_comma f_add = false
is_comma f_mul = false
is_comma f_pow = false
is_comma f_post = false
is_comma f_mem = false
is_comma f_call = false
is_comma f_link = false
is_comma f_end = false
is_comma f_never = false

abbrev pub is_call : Frame → Bool
is_call f_seq = false
is_call f_asg = false
is_call f_cnd = false
is_call f_nul = false
is_call f_or = false
is_call f_and = false
is_call f_bor = false
is_call f_xor = false
is_call f_band = false
is_call f_eq = false
is_call f_rel = false
is_call f_in = false
is_call f_shf = false
is_call f_add = false
is_call f_mul = false
is_call f_pow = false
is_call f_post = false
is_call f_mem = false
is_call f_call = true
is_call f_link = false
is_call f_end = false
is_call f_never = false

-- Behind a `new` without a list none of these stands.
abbrev is_suffix : Frame → Bool
is_suffix f_seq = false
is_suffix f_asg = false
is_suffix f_cnd = false
is_suffix f_nul = false
is_suffix f_or = false
is_suffix f_and = false
is_suffix f_bor = false
is_suffix f_xor = false
is_suffix f_band = false
is_suffix f_eq = false
is_suffix f_rel = false
is_suffix f_in = false
is_suffix f_shf = false
is_suffix f_add = false
is_suffix f_mul = false
is_suffix f_pow = false
is_suffix f_post = false
is_suffix f_mem = true
is_suffix f_call = true
is_suffix f_link = true
is_suffix f_end = false
is_suffix f_never = false

-- What can both begin an expression and stand behind one.
abbrev pub is_both : Frame → Bool
is_both f_seq = false
is_both f_asg = false
is_both f_cnd = false
is_both f_nul = false
is_both f_or = false
is_both f_and = false
is_both f_bor = false
is_both f_xor = false
is_both f_band = false
is_both f_eq = false
is_both f_rel = false
is_both f_in = false
is_both f_shf = false
is_both f_add = true
is_both f_mul = false
is_both f_pow = false
is_both f_post = true
is_both f_mem = true
is_both f_call = true
is_both f_link = false
is_both f_end = false
is_both f_never = true

-- Can the frame be taken at all, for the slot p?
abbrev can : Bool → Slot → Frame → Bool
can b p g = is_frame b g && (fits p (grown g member) || fits p (grown g call_member))

-- What may stand behind an expression of the standing s that is being read for the slot p.
unfoldable pub guard : Bool → Slot → Standing → Frame → Bool
guard b p s g = not (is_never g) && (is_end g || (fits (first_slot g) s || (not (can b p g) && not (is_n s && is_suffix g))))

-- The frame g ends an expression of the standing s that was read for the slot q; ends each.
unfoldable pub ends : Bool → Slot → Standing → Frame → Bool
ends b q s g = guard b q s g && not (takes b q s g)

unfoldable pub closes : Bool → Slot → Frame → Bool
closes b q g = all (λ s. imp (fits q s) (ends b q s g)) standings

pub closes_ends : (b : Bool) (q : Slot) (s : Standing) (g : Frame) → T (closes b q g) → T (fits q s) → T (ends b q s g)
unfolding closes
closes_ends b q s g h k = mp (fits q s) _ (at_standing (λ s. imp (fits q s) (ends b q s g)) h s) k

pub ends_guard : (b : Bool) (q : Slot) (s : Standing) (g : Frame) → T (ends b q s g) → T (guard b q s g)
unfolding ends
ends_guard b q s g h = and_l (guard b q s g) _ h

pub ends_stop : (b : Bool) (q : Slot) (s : Standing) (g : Frame) → T (ends b q s g) → takes b q s g ≡ false
unfolding ends
ends_stop b q s g h = is_false (takes b q s g) (and_r (guard b q s g) _ h)

pub guard_real : (b : Bool) (p : Slot) (s : Standing) (g : Frame) → T (guard b p s g) → T (not (is_never g))
unfolding guard
guard_real b p s g h = and_l (not (is_never g)) _ h

pub guard_first : (b : Bool) (p : Slot) (s : Standing) (g : Frame) → T (not (is_never g)) → T (fits (first_slot g) s) → T (guard b p s g)
unfolding guard
guard_first b p s g n h = and_i (not (is_never g)) _ n (or_r (is_end g) _ (or_l (fits (first_slot g) s) _ h))

abbrev closure_at : Bool → Slot → Standing → Frame → Bool
closure_at b p s g = imp (called p && takes b p s g) (fits p s)

pub closure : (b : Bool) (p : Slot) (s : Standing) (g : Frame) → T (called p) → T (takes b p s g) → T (fits p s)
closure b p s g c h =
    mp (called p && takes b p s g) (fits p s)
    (at_frame (closure_at b p s) (at_standing (λ s. all (closure_at b p s) frames) (at_slot (λ p. all (λ s. all (closure_at b p s) frames) standings) (at_bool (λ b. all (λ p. all (λ s. all (closure_at b p s) frames) standings) slots) tt b) p) s) g)
    (and_i (called p) _ c h)

-- A form of the standing k that ends with a child in the slot q: what may stand behind it ends the child.
abbrev edge_at : Standing → Slot → Bool → Slot → Frame → Bool
edge_at k q b p g = imp (called p && (fits p k && guard b p k g)) (closes b q g)

abbrev edge_of : Standing → Slot → Bool
edge_of k q = all (λ b. all (λ p. all (edge_at k q b p) frames) slots) bools

edge_at_lem : (k : Standing) (q : Slot) → T (edge_of k q) → (b : Bool) (p : Slot) (g : Frame) → T (called p) → T (fits p k) → T (guard b p k g) → T (closes b q g)
edge_at_lem k q h b p g c f d =
    mp (called p && (fits p k && guard b p k g)) (closes b q g)
    (at_frame (edge_at k q b p) (at_slot (λ p. all (edge_at k q b p) frames) (at_bool (λ b. all (λ p. all (edge_at k q b p) frames) slots) h b) p) g)
    (and_i (called p) _ c (and_i (fits p k) _ f d))

pub edge_unary : (b : Bool) (p : Slot) (g : Frame) → T (called p) → T (fits p unary) → T (guard b p unary g) → T (closes b slot.Unary g)
unfolding guard ends closes
edge_unary = edge_at_lem unary slot.Unary tt

pub edge_assignment : (b : Bool) (p : Slot) (g : Frame) → T (called p) → T (fits p assignment) → T (guard b p assignment g) → T (closes b slot.Assignment g)
unfolding guard ends closes
edge_assignment = edge_at_lem assignment slot.Assignment tt

pub edge_conditional : (b : Bool) (p : Slot) (g : Frame) → T (called p) → T (fits p conditional) → T (guard b p conditional g) → T (closes b slot.Assignment g)
unfolding guard ends closes
edge_conditional = edge_at_lem conditional slot.Assignment tt

pub edge_bare_new : (b : Bool) (p : Slot) (g : Frame) → T (called p) → T (fits p bare_new) → T (guard b p bare_new g) → T (closes b slot.New g)
unfolding guard ends closes
edge_bare_new = edge_at_lem bare_new slot.New tt

pub edge_update : (b : Bool) (p : Slot) (g : Frame) → T (called p) → T (fits p update) → T (guard b p update g) → T (closes b slot.Call g)
unfolding guard ends closes
edge_update = edge_at_lem update slot.Call tt

edge_operator : (o : BinaryOperator) → T (edge_of (binary_standing o) (right_slot o))
unfolding guard ends closes
edge_operator binary.Coalesce = tt
edge_operator binary.Or = tt
edge_operator binary.And = tt
edge_operator binary.BitOr = tt
edge_operator binary.BitXor = tt
edge_operator binary.BitAnd = tt
edge_operator binary.Equal = tt
edge_operator binary.NotEqual = tt
edge_operator binary.StrictEqual = tt
edge_operator binary.StrictNotEqual = tt
edge_operator binary.Less = tt
edge_operator binary.LessOrEqual = tt
edge_operator binary.Greater = tt
edge_operator binary.GreaterOrEqual = tt
edge_operator binary.In = tt
edge_operator binary.Instanceof = tt
edge_operator binary.LeftShift = tt
edge_operator binary.RightShift = tt
edge_operator binary.UnsignedRightShift = tt
edge_operator binary.Add = tt
edge_operator binary.Subtract = tt
edge_operator binary.Multiply = tt
edge_operator binary.Divide = tt
edge_operator binary.Remainder = tt
edge_operator binary.Exponent = tt

pub edge_binary : (o : BinaryOperator) (b : Bool) (p : Slot) (g : Frame) → T (called p) → T (fits p (binary_standing o)) → T (guard b p (binary_standing o) g) → T (closes b (right_slot o) g)
edge_binary o = edge_at_lem (binary_standing o) (right_slot o) (edge_operator o)

-- A sequence: no comma follows it, and what follows ends its last element.
abbrev seq_at : Bool → Slot → Frame → Bool
seq_at b p g = imp (called p && (fits p sequence && guard b p sequence g)) (not (is_comma g) && closes b slot.Assignment g)

pub edge_sequence : (b : Bool) (p : Slot) (g : Frame) → T (called p) → T (fits p sequence) → T (guard b p sequence g) → T (not (is_comma g) && closes b slot.Assignment g)
unfolding guard ends closes
edge_sequence b p g c f d =
    mp (called p && (fits p sequence && guard b p sequence g)) (not (is_comma g) && closes b slot.Assignment g)
    (at_frame (seq_at b p) (at_slot (λ p. all (seq_at b p) frames) (at_bool (λ b. all (λ p. all (seq_at b p) frames) slots) tt b) p) g)
    (and_i (called p) _ c (and_i (fits p sequence) _ f d))

-- A Name that ends its form is ended by whatever may stand behind an expression.
abbrev name_at : Frame → Bool
name_at g = imp (not (is_never g)) (closes true slot.Identifier g)

pub edge_name : (g : Frame) → T (not (is_never g)) → T (closes true slot.Identifier g)
unfolding guard ends closes
edge_name g n = mp (not (is_never g)) (closes true slot.Identifier g) (at_frame name_at tt g) n

-- A `new` without a list has no `(` behind it.
abbrev new_at : Bool → Slot → Frame → Bool
new_at b p g = imp (guard b p bare_new g) (not (is_call g))

pub no_list : (b : Bool) (p : Slot) (g : Frame) → T (guard b p bare_new g) → T (not (is_call g))
unfolding guard
no_list b p g h = mp (guard b p bare_new g) (not (is_call g)) (at_frame (new_at b p) (at_slot (λ p. all (new_at b p) frames) (at_bool (λ b. all (λ p. all (new_at b p) frames) slots) tt b) p) g) h

-- A callee with a list behind it is read whole for the slot New.
abbrev callee_at : Bool → Standing → Bool
callee_at b s = imp (fits slot.Member s) (fits slot.New s && ends b slot.New s f_call)

pub callee : (b : Bool) (s : Standing) → T (fits slot.Member s) → T (fits slot.New s && ends b slot.New s f_call)
unfolding guard ends
callee b s h = mp (fits slot.Member s) _ (at_standing (callee_at b) (at_bool (λ b. all (callee_at b) standings) tt b) s) h

-- A `yield` without operand has nothing behind it that could begin one.
abbrev yield_at : Bool → Slot → Frame → Bool
yield_at b p g = imp (called p && (fits p assignment && guard b p assignment g)) (not (is_both g))

pub no_operand : (b : Bool) (p : Slot) (g : Frame) → T (called p) → T (fits p assignment) → T (guard b p assignment g) → T (not (is_both g))
unfolding guard
no_operand b p g c f d =
    mp (called p && (fits p assignment && guard b p assignment g)) (not (is_both g))
    (at_frame (yield_at b p) (at_slot (λ p. all (yield_at b p) frames) (at_bool (λ b. all (λ p. all (yield_at b p) frames) slots) tt b) p) g)
    (and_i (called p) _ c (and_i (fits p assignment) _ f d))

-- What ends an expression of each slot: a closing token; a comma, an item.
abbrev end_at : Bool → Slot → Bool
end_at b p = closes b p f_end

pub end_closes : (b : Bool) (p : Slot) → T (closes b p f_end)
unfolding guard ends closes
end_closes b p = at_slot (end_at b) (at_bool (λ b. all (end_at b) slots) tt b) p

pub comma_closes : (b : Bool) → T (closes b slot.Assignment f_seq)
unfolding guard ends closes
comma_closes true = tt
comma_closes false = tt

pub in_closes_item : T (closes false slot.Assignment f_in)
unfolding guard ends closes
in_closes_item = tt

pub in_closes : T (closes false slot.Expression f_in)
unfolding guard ends closes
in_closes = tt

-- Everything that can be assigned to is a callee; a Name fits every slot that is read for; all fit Expression.
pub target_call : (s : Standing) → T (fits slot.Target s) → T (fits slot.Call s)
target_call s h = mp (fits slot.Target s) _ (at_standing (λ s. imp (fits slot.Target s) (fits slot.Call s)) tt s) h

pub call_optional : (s : Standing) → T (fits slot.Call s) → T (fits slot.Optional s && not (is_o s))
call_optional s h = mp (fits slot.Call s) _ (at_standing (λ s. imp (fits slot.Call s) (fits slot.Optional s && not (is_o s))) tt s) h

pub chain_optional : (s : Standing) → T (fits slot.Chain s) → T (fits slot.Optional s && is_o s)
chain_optional s h = mp (fits slot.Chain s) _ (at_standing (λ s. imp (fits slot.Chain s) (fits slot.Optional s && is_o s)) tt s) h
