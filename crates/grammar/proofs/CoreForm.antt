-- The core form is what the rules come to, in whatever order.
use mathlib.Core.Path.{◌≡◌, refl, sym, ◌∙◌, ap, ap₂, subst}
use mathlib.Core.Bool.{Bool, true, false, cond}
use mathlib.Core.Logic.{◌⊎◌, inl, inr}
use Prim.Native.Nat.{ℕ, zero, suc, ◌+◌, ◌≤◌, ◌<◌}
use native.Mathlib.Omega.{arith}
use lib.Dec.{T}
use Rattle.grammar.specs.Tree.{Head, head, Tree, Forest, node, nil, ◌▸◌, ◌⊕◌, size, sizes}
use Rattle.grammar.specs.Core.{Link, conjoins, disjoins, coalesces, Role, r_par, r_seq, r_void, r_idle, r_if, r_block, r_rest, r_chain, role, is_block, same_link, chains, counts, clear, clears, effs, effss, lasts, flat, items, operands, opened, openeds, first_body, join, settled, settleds}
use Rattle.grammar.specs.Rewriting.{some?, Redex, joined_in, gives_way, goes, Step, pair_out, chain_in, settles, unblocks, inside, Comes, done, more, full, Full, Fulls, CoreLaw}
use Rattle.grammar.proofs.CoreParts.{⊕_nil, ⊕_assoc, cores_⊕, flat_cores_⊕, effs_void, effs_seq, effs_idle, lasts_seq}

op_refl : (o : Link) → same_link o o ≡ true
op_refl conjoins = refl
op_refl disjoins = refl
op_refl coalesces = refl

-- each step keeps the settled form
some_⊕ : (us vs : Forest) → T (some? vs) → T (some? (us ⊕ vs))
some_⊕ nil vs h = h
some_⊕ (u ▸ us) vs h = tt

some_⊕_l : (us vs : Forest) → T (some? us) → T (some? (us ⊕ vs))
some_⊕_l nil vs h = absurd h
some_⊕_l (u ▸ us) vs h = tt

redex_some : {ys zs : Forest} → Redex ys zs → T (some? ys) × T (some? zs)
redex_some (joined_in M ws vs q s) = (tt, some_⊕_l ws vs s)
redex_some (gives_way M ws v vs q) = (tt, some_⊕ ws (v ▸ vs) tt)
redex_some (goes M ws v vs q) = (tt, tt)

flat_more : (u v : Tree) (us : Forest) → flat (settleds (u ▸ (v ▸ us))) ≡ effs (settled u) ⊕ flat (settleds (v ▸ us))
unfolding flat settleds
flat_more u v us = refl

joined_keeps : (M : Head) (ws vs : Forest) → role M ≡ r_seq → flat (settleds (node M ws ▸ vs)) ≡ flat (settleds (ws ⊕ vs))
unfolding flat settleds
joined_keeps M ws nil q = lasts_seq M ws q ∙ ap (λ (w : Forest). flat (settleds w)) (sym (⊕_nil ws))
joined_keeps M ws (v ▸ vs) q = ap (λ (w : Forest). w ⊕ flat (settleds (v ▸ vs))) (effs_seq M ws q) ∙ sym (flat_cores_⊕ ws (v ▸ vs) tt)

redex_keeps : {ys zs : Forest} → Redex ys zs → flat (settleds ys) ≡ flat (settleds zs)
redex_keeps (joined_in M ws vs q s) = joined_keeps M ws vs q
redex_keeps (gives_way M ws v vs q) = flat_more (node M ws) v vs ∙ ap (λ (w : Forest). w ⊕ flat (settleds (v ▸ vs))) (effs_void M ws q) ∙ sym (flat_cores_⊕ ws (v ▸ vs) tt)
redex_keeps (goes M ws v vs q) = flat_more (node M ws) v vs ∙ ap (λ (w : Forest). w ⊕ flat (settleds (v ▸ vs))) (effs_idle M ws q)

operands_⊕ : (o : Link) (us vs : Forest) → operands o (us ⊕ vs) ≡ operands o us ⊕ operands o vs
unfolding operands
operands_⊕ o nil vs = refl
operands_⊕ o (u ▸ us) vs = ap (λ (w : Forest). items o u ⊕ w) (operands_⊕ o us vs) ∙ sym (⊕_assoc (items o u) (operands o us) (operands o vs))

chain_core : (L : Head) (o : Link) (us : Forest) → role L ≡ r_chain o → settled (node L us) ≡ node L (operands o (settleds us))
unfolding settled
chain_core L o us q = rw q refl

own_items : (M : Head) (o : Link) (xs : Forest) → role M ≡ r_chain o → items o (node M xs) ≡ xs
own_items M o xs q = rw (q, op_refl o) refl

chain_items : (M : Head) (o : Link) (ws : Forest) → role M ≡ r_chain o → items o (settled (node M ws)) ≡ operands o (settleds ws)
chain_items M o ws q = ap (items o) (chain_core M o ws q) ∙ own_items M o (operands o (settleds ws)) q

chain_keeps : (M : Head) (o : Link) (us ws vs : Forest) → role M ≡ r_chain o → operands o (settleds (us ⊕ (node M ws ▸ vs))) ≡ operands o (settleds (us ⊕ (ws ⊕ vs)))
unfolding settleds operands
chain_keeps M o us ws vs q =
    ap (operands o) (cores_⊕ us (node M ws ▸ vs)) ∙ operands_⊕ o (settleds us) (settleds (node M ws ▸ vs))
    ∙ ap (λ (w : Forest). operands o (settleds us) ⊕ (w ⊕ operands o (settleds vs))) (chain_items M o ws q)
    ∙ sym (ap (operands o) (cores_⊕ us (ws ⊕ vs) ∙ ap (λ (w : Forest). settleds us ⊕ w) (cores_⊕ ws vs)) ∙ operands_⊕ o (settleds us) (settleds ws ⊕ settleds vs) ∙ ap (λ (w : Forest). operands o (settleds us) ⊕ w) (operands_⊕ o (settleds ws) (settleds vs)))

seq_core : (L : Head) (us : Forest) → role L ≡ r_seq → settled (node L us) ≡ node L (flat (settleds us))
unfolding settled
seq_core L us q = rw q refl

par_core : (L : Head) (u : Tree) (us : Forest) → role L ≡ r_par → settled (node L (u ▸ us)) ≡ settled u
unfolding settled
par_core L u us q = rw q refl

same_core : (L : Head) (us vs : Forest) → settleds us ≡ settleds vs → settled (node L us) ≡ settled (node L vs)
unfolding settled
same_core L us vs e = ap (join (role L) L) e

one_changed : (us : Forest) (u w : Tree) (vs : Forest) → settled u ≡ settled w → settleds (us ⊕ (u ▸ vs)) ≡ settleds (us ⊕ (w ▸ vs))
unfolding settleds
one_changed us u w vs e = cores_⊕ us (u ▸ vs) ∙ ap (λ (x : Tree). settleds us ⊕ (x ▸ settleds vs)) e ∙ sym (cores_⊕ us (w ▸ vs))

if_core : (L : Head) (us : Forest) → role L ≡ r_if → settled (node L us) ≡ node L (first_body (settleds us))
unfolding settled
if_core L us q = rw q refl

block_core : (M : Head) (us : Forest) → role M ≡ r_block → settled (node M us) ≡ node M (settleds us)
unfolding settled
block_core M us q = rw q refl

open_one : (M : Head) (x : Tree) → role M ≡ r_block → opened (node M (x ▸ nil)) ≡ opened x
unfolding opened openeds
open_one M x q = rw q refl

unblock_keeps : (L M : Head) (e x : Tree) (vs : Forest) → role L ≡ r_if → role M ≡ r_block → settled (node L (e ▸ (node M (x ▸ nil) ▸ vs))) ≡ settled (node L (e ▸ (x ▸ vs)))
unfolding settleds
unblock_keeps L M e x vs p q = if_core L (e ▸ (node M (x ▸ nil) ▸ vs)) p ∙ ap (λ (y : Tree). node L (settled e ▸ (y ▸ settleds vs))) (ap opened (block_core M (x ▸ nil) q) ∙ open_one M (settled x) q) ∙ sym (if_core L (e ▸ (x ▸ vs)) p)

pub step_keeps : {t u : Tree} → Step t u → settled t ≡ settled u
step_keeps (pair_out L u us q) = par_core L u us q
step_keeps (chain_in L M o us ws vs p q) = chain_core L o _ p ∙ ap (node L) (chain_keeps M o us ws vs q) ∙ sym (chain_core L o _ p)
step_keeps (settles L us {ys = ys} {zs = zs} p r) =
    let (a, b) = redex_some r in
    seq_core L _ p ∙ ap (node L) (flat_cores_⊕ us ys a ∙ ap (λ (w : Forest). effss (settleds us) ⊕ w) (redex_keeps r) ∙ sym (flat_cores_⊕ us zs b)) ∙ sym (seq_core L _ p)
step_keeps (unblocks L M e x vs p q) = unblock_keeps L M e x vs p q
step_keeps (inside L us {u = u} {w = w} vs s) = same_core L _ _ (one_changed us u w vs (step_keeps s))

-- each step makes the tree smaller
sizes_⊕ : (us vs : Forest) → sizes (us ⊕ vs) ≡ sizes us + sizes vs
unfolding sizes
sizes_⊕ nil vs = omega arith
sizes_⊕ (u ▸ us) vs = omega (arith, sizes_⊕ us vs)

redex_less : {ys zs : Forest} → Redex ys zs → sizes zs < sizes ys
unfolding size sizes
redex_less (joined_in M ws vs q s) = omega (arith, sizes_⊕ ws vs)
redex_less (gives_way M ws v vs q) = omega (arith, sizes_⊕ ws (v ▸ vs))
redex_less (goes M ws v vs q) = omega arith

pub step_less : {t u : Tree} → Step t u → size u < size t
unfolding size sizes
step_less (pair_out L u us q) = omega arith
step_less (chain_in L M o us ws vs p q) = omega (arith, sizes_⊕ us (node M ws ▸ vs), sizes_⊕ us (ws ⊕ vs), sizes_⊕ ws vs)
step_less (settles L us {ys = ys} {zs = zs} p r) = omega (arith, sizes_⊕ us ys, sizes_⊕ us zs, redex_less r)
step_less (unblocks L M e x vs p q) = omega arith
step_less (inside L us {u = u} {w = w} vs s) = omega (arith, sizes_⊕ us (u ▸ vs), sizes_⊕ us (w ▸ vs), step_less s)

-- each step leaves sequences with elements
fulls_⊕ : (us vs : Forest) → Fulls us → Fulls vs → Fulls (us ⊕ vs)
unfolding Fulls
fulls_⊕ nil vs f g = g
fulls_⊕ (u ▸ us) vs f g = (f.0, fulls_⊕ us vs f.1 g)

fulls_l : (us vs : Forest) → Fulls (us ⊕ vs) → Fulls us
unfolding Fulls
fulls_l nil vs f = tt
fulls_l (u ▸ us) vs f = (f.0, fulls_l us vs f.1)

fulls_r : (us vs : Forest) → Fulls (us ⊕ vs) → Fulls vs
unfolding Fulls
fulls_r nil vs f = f
fulls_r (u ▸ us) vs f = fulls_r us vs f.1

redex_full : {ys zs : Forest} → Redex ys zs → Fulls ys → Fulls zs
unfolding Fulls
redex_full (joined_in M ws vs q s) f = fulls_⊕ ws vs f.0.1 f.1
redex_full (gives_way M ws v vs q) f = fulls_⊕ ws (v ▸ vs) f.0.1 f.1
redex_full (goes M ws v vs q) f = f.1

pub any_full : (r : Role) (us : Forest) → T (some? us) → T (full r us)
any_full r_par us h = tt
any_full r_seq us h = h
any_full r_void us h = tt
any_full r_idle us h = tt
any_full r_rest us h = tt
any_full r_if us h = tt
any_full r_block us h = tt
any_full (r_chain o) us h = tt

pub step_full : {t u : Tree} → Step t u → Full t → Full u
unfolding Fulls
step_full (pair_out L u us q) f = f.1.0
step_full (chain_in L M o us ws vs p q) f =
    let g = fulls_r us (node M ws ▸ vs) f.1 in
    (rw p tt, fulls_⊕ us (ws ⊕ vs) (fulls_l us (node M ws ▸ vs) f.1) (fulls_⊕ ws vs g.0.1 g.1))
step_full (settles L us {ys = ys} {zs = zs} p r) f =
    (any_full (role L) (us ⊕ zs) (some_⊕ us zs (redex_some r).1), fulls_⊕ us zs (fulls_l us ys f.1) (redex_full r (fulls_r us ys f.1)))
step_full (unblocks L M e x vs p q) f = (rw p tt, (f.1.0, (f.1.1.0.1.0, f.1.1.1)))
step_full (inside L us {u = u} {w = w} vs s) f =
    let g = fulls_r us (u ▸ vs) f.1 in
    (any_full (role L) (us ⊕ (w ▸ vs)) (some_⊕ us (w ▸ vs) tt), fulls_⊕ us (w ▸ vs) (fulls_l us (u ▸ vs) f.1) (step_full s g.0, g.1))

-- where no step is left, the tree is its core form
is_block_lem : (r : Role) → is_block r ≡ true → r ≡ r_block
is_block_lem r_par e = absurd (subst T (sym e) tt)
is_block_lem r_seq e = absurd (subst T (sym e) tt)
is_block_lem r_void e = absurd (subst T (sym e) tt)
is_block_lem r_idle e = absurd (subst T (sym e) tt)
is_block_lem r_if e = absurd (subst T (sym e) tt)
is_block_lem r_block e = refl
is_block_lem r_rest e = absurd (subst T (sym e) tt)
is_block_lem (r_chain o) e = absurd (subst T (sym e) tt)

link_path : (o p : Link) → T (same_link o p) → p ≡ o
link_path conjoins conjoins h = refl
link_path conjoins disjoins h = absurd h
link_path conjoins coalesces h = absurd h
link_path disjoins conjoins h = absurd h
link_path disjoins disjoins h = refl
link_path disjoins coalesces h = absurd h
link_path coalesces conjoins h = absurd h
link_path coalesces disjoins h = absurd h
link_path coalesces coalesces h = refl

chains_role : (r : Role) (o : Link) → T (chains o r) → r ≡ r_chain o
chains_role r_par o h = absurd h
chains_role r_seq o h = absurd h
chains_role r_void o h = absurd h
chains_role r_idle o h = absurd h
chains_role r_if o h = absurd h
chains_role r_block o h = absurd h
chains_role r_rest o h = absurd h
chains_role (r_chain p) o h = ap r_chain (link_path o p h)

abbrev Some : Tree → Type 0
Some t = (u : Tree) × Step t u

abbrev Linked : Link → Forest → Type 0
Linked o us = (xs : Forest) × (M : Head) × (ws vs : Forest) × (role M ≡ r_chain o) × (us ≡ xs ⊕ (node M ws ▸ vs))

link_by : (b : Bool) (o : Link) (M : Head) (ws us : Forest) → chains o (role M) ≡ b → (operands o us ≡ us) ⊎ Linked o us → (cond b ws (node M ws ▸ nil) ⊕ operands o us ≡ node M ws ▸ us) ⊎ Linked o (node M ws ▸ us)
link_by true o M ws us q h = inr (nil, M, ws, us, chains_role (role M) o (subst T (sym q) tt), refl)
link_by false o M ws us q (inl e) = inl (ap (λ (w : Forest). node M ws ▸ w) e)
link_by false o M ws us q (inr (xs, N, ys, vs, p, e)) = inr (node M ws ▸ xs, N, ys, vs, p, ap (λ (w : Forest). node M ws ▸ w) e)

links : (o : Link) (us : Forest) → (operands o us ≡ us) ⊎ Linked o us
unfolding operands
links o nil = inl refl
links o (node M ws ▸ us) = link_by (chains o (role M)) o M ws us refl (links o us)

abbrev SeqRed : Forest → Type 0
SeqRed us = (xs ys zs : Forest) × Redex ys zs × (us ≡ xs ⊕ ys)

full_of : (r : Role) (M : Head) (ws : Forest) → role M ≡ r → Full (node M ws) → T (full r ws)
unfolding Full
full_of r M ws q f = rw q at f.0

last_by : (r : Role) (M : Head) (ws : Forest) → role M ≡ r → Full (node M ws) → (lasts (node M ws) ≡ node M ws ▸ nil) ⊎ SeqRed (node M ws ▸ nil)
last_by r_par M ws q f = inl (rw q refl)
last_by r_seq M ws q f = inr (nil, node M ws ▸ nil, ws ⊕ nil, joined_in M ws nil q (full_of r_seq M ws q f), refl)
last_by r_void M ws q f = inl (rw q refl)
last_by r_idle M ws q f = inl (rw q refl)
last_by r_rest M ws q f = inl (rw q refl)
last_by r_if M ws q f = inl (rw q refl)
last_by r_block M ws q f = inl (rw q refl)
last_by (r_chain o) M ws q f = inl (rw q refl)

on : (u : Tree) (us : Forest) → (flat us ≡ us) ⊎ SeqRed us → (u ▸ flat us ≡ u ▸ us) ⊎ SeqRed (u ▸ us)
on u us (inl e) = inl (ap (λ (w : Forest). u ▸ w) e)
on u us (inr (xs, ys, zs, r, e)) = inr (u ▸ xs, ys, zs, r, ap (λ (w : Forest). u ▸ w) e)

head_by : (r : Role) (M : Head) (ws : Forest) (v : Tree) (us : Forest) → role M ≡ r → Full (node M ws) → (flat (v ▸ us) ≡ v ▸ us) ⊎ SeqRed (v ▸ us) → (effs (node M ws) ⊕ flat (v ▸ us) ≡ node M ws ▸ (v ▸ us)) ⊎ SeqRed (node M ws ▸ (v ▸ us))
unfolding effs
head_by r_par M ws v us q f h = rw q (on (node M ws) (v ▸ us) h)
head_by r_seq M ws v us q f h = inr (nil, node M ws ▸ (v ▸ us), ws ⊕ (v ▸ us), joined_in M ws (v ▸ us) q (full_of r_seq M ws q f), refl)
head_by r_void M ws v us q f h = inr (nil, node M ws ▸ (v ▸ us), ws ⊕ (v ▸ us), gives_way M ws v us q, refl)
head_by r_idle M ws v us q f h = inr (nil, node M ws ▸ (v ▸ us), v ▸ us, goes M ws v us q, refl)
head_by r_rest M ws v us q f h = rw q (on (node M ws) (v ▸ us) h)
head_by r_if M ws v us q f h = rw q (on (node M ws) (v ▸ us) h)
head_by r_block M ws v us q f h = rw q (on (node M ws) (v ▸ us) h)
head_by (r_chain o) M ws v us q f h = rw q (on (node M ws) (v ▸ us) h)

reds : (us : Forest) → Fulls us → (flat us ≡ us) ⊎ SeqRed us
unfolding flat Fulls
reds nil f = inl refl
reds (node M ws ▸ nil) f = last_by (role M) M ws refl f.0
reds (node M ws ▸ (v ▸ us)) f = head_by (role M) M ws v us refl f.0 (reds (v ▸ us) f.1)

chain_top : (L : Head) (o : Link) (us : Forest) → role L ≡ r_chain o → settleds us ≡ us → (operands o us ≡ us) ⊎ Linked o us → (settled (node L us) ≡ node L us) ⊎ Some (node L us)
chain_top L o us q e (inl h) = inl (chain_core L o us q ∙ ap (λ (w : Forest). node L (operands o w)) e ∙ ap (node L) h)
chain_top L o us q e (inr (xs, M, ws, vs, p, h)) = inr (node L (xs ⊕ (ws ⊕ vs)), subst (λ (w : Forest). Step (node L w) (node L (xs ⊕ (ws ⊕ vs)))) (sym h) (chain_in L M o xs ws vs q p))

seq_top : (L : Head) (us : Forest) → role L ≡ r_seq → settleds us ≡ us → (flat us ≡ us) ⊎ SeqRed us → (settled (node L us) ≡ node L us) ⊎ Some (node L us)
seq_top L us q e (inl h) = inl (seq_core L us q ∙ ap (λ (w : Forest). node L (flat w)) e ∙ ap (node L) h)
seq_top L us q e (inr (xs, ys, zs, r, h)) = inr (node L (xs ⊕ zs), subst (λ (w : Forest). Step (node L w) (node L (xs ⊕ zs))) (sym h) (settles L xs q r))

par_top : (L : Head) (us : Forest) → role L ≡ r_par → (settled (node L us) ≡ node L us) ⊎ Some (node L us)
unfolding settled
par_top L nil q = inl (rw q refl)
par_top L (u ▸ us) q = inr (u, pair_out L u us q)

if_by : (b : Bool) (L M : Head) (e : Tree) (ws vs : Forest) → role L ≡ r_if → is_block (role M) ≡ b → settleds (e ▸ (node M ws ▸ vs)) ≡ e ▸ (node M ws ▸ vs) → (settled (node L (e ▸ (node M ws ▸ vs))) ≡ node L (e ▸ (node M ws ▸ vs))) ⊎ Some (node L (e ▸ (node M ws ▸ vs)))
unfolding opened openeds
if_by true L M e nil vs q p h = inl (if_core L _ q ∙ ap (λ (w : Forest). node L (first_body w)) h ∙ rw p refl)
if_by true L M e (x ▸ nil) vs q p h = inr (node L (e ▸ (x ▸ vs)), unblocks L M e x vs q (is_block_lem (role M) p))
if_by true L M e (x ▸ (y ▸ ws)) vs q p h = inl (if_core L _ q ∙ ap (λ (w : Forest). node L (first_body w)) h ∙ rw p refl)
if_by false L M e ws vs q p h = inl (if_core L _ q ∙ ap (λ (w : Forest). node L (first_body w)) h ∙ rw p refl)

if_top : (L : Head) (us : Forest) → role L ≡ r_if → settleds us ≡ us → (settled (node L us) ≡ node L us) ⊎ Some (node L us)
if_top L nil q e = inl (if_core L nil q ∙ ap (λ (w : Forest). node L (first_body w)) e)
if_top L (u ▸ nil) q e = inl (if_core L (u ▸ nil) q ∙ ap (λ (w : Forest). node L (first_body w)) e)
if_top L (u ▸ (node M ws ▸ vs)) q e = if_by (is_block (role M)) L M u ws vs q refl e

tops : (r : Role) (L : Head) (us : Forest) → role L ≡ r → settleds us ≡ us → Fulls us → (settled (node L us) ≡ node L us) ⊎ Some (node L us)
unfolding settled
tops r_par L us q e f = par_top L us q
tops r_seq L us q e f = seq_top L us q e (reds us f)
tops r_void L us q e f = inl (rw q (ap (node L) e))
tops r_idle L us q e f = inl (rw q (ap (node L) e))
tops r_rest L us q e f = inl (rw q (ap (node L) e))
tops r_if L us q e f = if_top L us q e
tops r_block L us q e f = inl (rw q (ap (node L) e))
tops (r_chain o) L us q e f = chain_top L o us q e (links o us)

abbrev Inner : Forest → Type 0
Inner us = (xs : Forest) × (u w : Tree) × (vs : Forest) × Step u w × (us ≡ xs ⊕ (u ▸ vs))

both : (u : Tree) (us : Forest) → (settled u ≡ u) ⊎ Some u → (settleds us ≡ us) ⊎ Inner us → (settled u ▸ settleds us ≡ u ▸ us) ⊎ Inner (u ▸ us)
both u us (inr (w, s)) k = inr (nil, u, w, us, s, refl)
both u us (inl e) (inl h) = inl (ap₂ ◌▸◌ e h)
both u us (inl e) (inr (xs, v, w, vs, s, h)) = inr (u ▸ xs, v, w, vs, s, ap (λ (x : Forest). u ▸ x) h)

node_progress : (L : Head) (us : Forest) → Fulls us → (settleds us ≡ us) ⊎ Inner us → (settled (node L us) ≡ node L us) ⊎ Some (node L us)
node_progress L us f (inl e) = tops (role L) L us refl e f
node_progress L us f (inr (xs, u, w, vs, s, h)) = inr (node L (xs ⊕ (w ▸ vs)), subst (λ (x : Forest). Step (node L x) (node L (xs ⊕ (w ▸ vs)))) (sym h) (inside L xs vs s))

mutual
  unfolding settleds Full

  pub progress : (t : Tree) → Full t → (settled t ≡ t) ⊎ ((u : Tree) × Step t u)
  progress (node L us) f = node_progress L us f.1 (progresses us f.1)

  progresses : (us : Forest) → Fulls us → (settleds us ≡ us) ⊎ Inner us
  progresses nil f = inl refl
  progresses (u ▸ us) f = both u us (progress u f.0) (progresses us f.1)

-- so the rules, repeated until nothing changes, come to the settled form: some run does, every run that can go no further does, and no run goes on for ever (step_less)
runs_keep : {t n : Tree} → Comes t n → settled t ≡ settled n
runs_keep done = refl
runs_keep (more s r) = step_keeps s ∙ runs_keep r

runs_full : {t n : Tree} → Comes t n → Full t → Full n
runs_full done f = f
runs_full (more s r) f = runs_full r (step_full s f)

runs_less : {t n : Tree} → Comes t n → size n ≤ size t
runs_less done = omega arith
runs_less (more s r) = omega (arith, step_less s, runs_less r)

reach_by : (k : ℕ) (t : Tree) → ((u : Tree) → size u < k → Full u → Comes u (settled u)) → size t < suc k → Full t → (settled t ≡ t) ⊎ ((u : Tree) × Step t u) → Comes t (settled t)
reach_by k t ih h f (inl e) = subst (λ (n : Tree). Comes t n) (sym e) done
reach_by k t ih h f (inr (u, s)) = subst (λ (n : Tree). Comes t n) (sym (step_keeps s)) (more s (ih u (omega (arith, step_less s)) (step_full s f)))

reach : (k : ℕ) (t : Tree) → size t < k → Full t → Comes t (settled t)
reach zero t h f = let z : ⊥ = omega arith in absurd z
reach (suc k) t h f = reach_by k t (reach k) h f (progress t f)

pub runs_to_core : (t : Tree) → Full t → Comes t (settled t)
runs_to_core t f = reach (suc (size t)) t (omega arith) f

pub core_twice : (t : Tree) → Full t → settled (settled t) ≡ settled t
core_twice t f = sym (runs_keep (runs_to_core t f))

pub core_rests : (t u : Tree) → Full t → Step (settled t) u → ⊥
core_rests t u f s =
    let g = step_full s (runs_full (runs_to_core t f) f) in
    let a = runs_less (runs_to_core u g) in
    let e : size (settled u) ≡ size (settled t) = ap size (sym (step_keeps s) ∙ core_twice t f) in
    omega (arith, step_less s)

stuck : (t n : Tree) → settled t ≡ settled n → ((u : Tree) → Step n u → ⊥) → (settled n ≡ n) ⊎ ((u : Tree) × Step n u) → n ≡ settled t
stuck t n e h (inl q) = sym (e ∙ q)
stuck t n e h (inr (u, s)) = absurd (h u s)

pub rests_at_core : (t n : Tree) → Full t → Comes t n → ((u : Tree) → Step n u → ⊥) → n ≡ settled t
rests_at_core t n f r h = stuck t n (runs_keep r) h (progress n (runs_full r f))

-- The places that do not count play no part.
clear_role : (b : Bool) (h : Head) → role (cond b h (head h.form 0 0)) ≡ role h
clear_role true h = refl
clear_role false h = refl

some_clear : (us : Forest) (r : Role) → T (full r us) → T (full r (clears us))
unfolding clears
some_clear nil r h = h
some_clear (u ▸ us) r h = any_full r (clear u ▸ clears us) tt

mutual
  unfolding clear clears Full Fulls

  full_clear : (t : Tree) → Full t → Full (clear t)
  full_clear (node h us) f = (subst (λ (r : Role). T (full r (clears us))) (sym (clear_role (counts h.form) h)) (some_clear us (role h) f.0), fulls_clear us f.1)

  fulls_clear : (us : Forest) → Fulls us → Fulls (clears us)
  fulls_clear nil f = tt
  fulls_clear (u ▸ us) f = (full_clear u f.0, fulls_clear us f.1)

pub core_law : CoreLaw
core_law t f = let g : Full (clear t) = full_clear t f in (runs_to_core (clear t) g, λ n r h. rests_at_core (clear t) n g r h, λ u s. core_rests (clear t) u g s)
