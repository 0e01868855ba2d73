-- The laws of the core form's parts.
use mathlib.Core.Path.{◌≡◌, refl, sym, ◌∙◌, ap, ap₂}
use mathlib.Core.Bool.{cond}
use lib.Dec.{T}
use Rattle.grammar.specs.Tree.{Head, Tree, Forest, node, nil, ◌▸◌, ◌⊕◌}
use Rattle.grammar.specs.Core.{Role, r_par, r_seq, r_void, r_idle, r_if, r_block, r_rest, r_chain, role, is_seq, left, effs, effss, lasts, flat, settled, settleds}
use Rattle.grammar.specs.Rewriting.{some?}

pub ⊕_nil : (us : Forest) → us ⊕ nil ≡ us
⊕_nil nil = refl
⊕_nil (u ▸ us) = ap (λ (w : Forest). u ▸ w) (⊕_nil us)

pub ⊕_assoc : (us vs ws : Forest) → (us ⊕ vs) ⊕ ws ≡ us ⊕ (vs ⊕ ws)
⊕_assoc nil vs ws = refl
⊕_assoc (u ▸ us) vs ws = ap (λ (w : Forest). u ▸ w) (⊕_assoc us vs ws)

pub effss_⊕ : (us vs : Forest) → effss (us ⊕ vs) ≡ effss us ⊕ effss vs
unfolding effss
effss_⊕ nil vs = refl
effss_⊕ (u ▸ us) vs = ap (λ (w : Forest). effs u ⊕ w) (effss_⊕ us vs) ∙ sym (⊕_assoc (effs u) (effss us) (effss vs))

pub cores_⊕ : (us vs : Forest) → settleds (us ⊕ vs) ≡ settleds us ⊕ settleds vs
unfolding settleds
cores_⊕ nil vs = refl
cores_⊕ (u ▸ us) vs = ap (λ (w : Forest). settled u ▸ w) (cores_⊕ us vs)

-- what is left is left again
left_again : (r : Role) (L : Head) (us : Forest) → role L ≡ r → effss (effss us) ≡ effss us → effss (left r (node L us) (effss us)) ≡ left r (node L us) (effss us)
unfolding effs effss
left_again r_par L us q a = rw q refl
left_again r_seq L us q a = a
left_again r_void L us q a = a
left_again r_idle L us q a = refl
left_again r_rest L us q a = rw q refl
left_again r_if L us q a = rw q refl
left_again r_block L us q a = rw q refl
left_again (r_chain o) L us q a = rw q refl

mutual
  unfolding effs effss

  pub effs_again : (t : Tree) → effss (effs t) ≡ effs t
  effs_again (node L us) = left_again (role L) L us refl (effss_again us)

  pub effss_again : (us : Forest) → effss (effss us) ≡ effss us
  effss_again nil = refl
  effss_again (u ▸ us) = effss_⊕ (effs u) (effss us) ∙ ap₂ ◌⊕◌ (effs_again u) (effss_again us)

-- before the last, an element settled or not leaves the same
lasts_effs : (r : Role) (L : Head) (us : Forest) → role L ≡ r → effss (cond (is_seq r) us (node L us ▸ nil)) ≡ effs (node L us)
unfolding effs effss
lasts_effs r_par L us q = rw q refl
lasts_effs r_seq L us q = rw q refl
lasts_effs r_void L us q = ⊕_nil (effs (node L us))
lasts_effs r_idle L us q = ⊕_nil (effs (node L us))
lasts_effs r_rest L us q = rw q refl
lasts_effs r_if L us q = rw q refl
lasts_effs r_block L us q = rw q refl
lasts_effs (r_chain o) L us q = rw q refl

lasts_effs' : (t : Tree) → effss (lasts t) ≡ effs t
lasts_effs' (node L us) = lasts_effs (role L) L us refl

pub effss_flat : (us : Forest) → effss (flat us) ≡ effss us
unfolding effss flat
effss_flat nil = refl
effss_flat (u ▸ nil) = lasts_effs' u ∙ sym (⊕_nil (effs u))
effss_flat (u ▸ (v ▸ us)) = effss_⊕ (effs u) (flat (v ▸ us)) ∙ ap₂ ◌⊕◌ (effs_again u) (effss_flat (v ▸ us))

-- a list in front of a sequence's tail
pub flat_⊕ : (us : Forest) (v : Tree) (vs : Forest) → flat (us ⊕ (v ▸ vs)) ≡ effss us ⊕ flat (v ▸ vs)
unfolding effss flat
flat_⊕ nil v vs = refl
flat_⊕ (u ▸ nil) v vs = ap (λ (w : Forest). w ⊕ flat (v ▸ vs)) (sym (⊕_nil (effs u)))
flat_⊕ (u ▸ (w ▸ us)) v vs = ap (λ (x : Forest). effs u ⊕ x) (flat_⊕ (w ▸ us) v vs) ∙ sym (⊕_assoc (effs u) (effss (w ▸ us)) (flat (v ▸ vs)))

pub flat_cores_⊕ : (us vs : Forest) → T (some? vs) → flat (settleds (us ⊕ vs)) ≡ effss (settleds us) ⊕ flat (settleds vs)
unfolding settleds
flat_cores_⊕ us nil h = absurd h
flat_cores_⊕ us (v ▸ vs) h = ap flat (cores_⊕ us (v ▸ vs)) ∙ flat_⊕ (settleds us) (settled v) (settleds vs)

pub effs_void : (L : Head) (us : Forest) → role L ≡ r_void → effs (settled (node L us)) ≡ effss (settleds us)
unfolding settled effs
effs_void L us q = rw q (rw q refl)

pub effs_seq : (L : Head) (us : Forest) → role L ≡ r_seq → effs (settled (node L us)) ≡ effss (settleds us)
unfolding settled effs
effs_seq L us q = rw q (rw q (effss_flat (settleds us)))

pub effs_idle : (L : Head) (us : Forest) → role L ≡ r_idle → effs (settled (node L us)) ≡ nil
unfolding settled effs
effs_idle L us q = rw q (rw q refl)

pub lasts_seq : (L : Head) (us : Forest) → role L ≡ r_seq → lasts (settled (node L us)) ≡ flat (settleds us)
unfolding settled
lasts_seq L us q = rw q (rw q refl)
