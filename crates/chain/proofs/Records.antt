-- From records to their links: what is read and what is written at a slot.
use Rattle.std.proofs.Common.{◌≡◌, ℕ, ◌+◌, ◌-◌, ◌<◌, ◌≤◌, ltb, cond, ◌≢◌, ⊎_elim, List, [], ◌∷◌, map, length, get_or, drop, set, sym, ap, ◌∙◌, subst, arith, length-set}
use Rattle.std.proofs.lemmas.List.{length-map, get_or-map, map-set, get_or-set_same, get_or-set_other, set-set, drop-set-lt}
use Rattle.std.proofs.lemmas.Bool.{cases_eq, cond-true, lt-ltb}
use Rattle.chain.specs.Chain.{room, Slot, link_at, Chain, times, after, relinked, Beyond}
use Rattle.chain.proofs.Laws.{chain_push}

-- a slot of the records is a slot of their links
pub slot_links : {X : Type 0} (f : X → ℕ) (s : List X) (k : ℕ) → Slot (length s) k → Slot (length (map f s)) k
slot_links f s k h = rw length-map h

pub slot_records : {X : Type 0} (f : X → ℕ) (s : List X) (k : ℕ) → Slot (length (map f s)) k → Slot (length s) k
slot_records f s k h = rw length-map at h

-- the link of what is read at a slot
pub link_read : {X : Type 0} (f : X → ℕ) (s : List X) (k : ℕ) (x : X) → Slot (length s) k → x ≡ get_or s (k - 1) x → link_at (map f s) k ≡ f x
link_read f s k x h e = get_or-map f s (k - 1) x 0 (omega (arith, h.0, h.1)) ∙ ap f (sym e)

-- a record linked anew has its link set, and no other has
pub links_relinked :
    {X : Type 0}
    (f : X → ℕ)
    (g : X → ℕ → X)
    → ((x : X) (v : ℕ) → f (g x v) ≡ v)
    → (s : List X) (k v : ℕ) (d : X) → map f (relinked g s k v d) ≡ set (map f s) (k - 1) v
links_relinked f g reads s k v d =
    map-set f s (k - 1) (g (get_or s (k - 1) d) v) ∙ ap (λ (x : ℕ). set (map f s) (k - 1) x) (reads (get_or s (k - 1) d) v)

-- giving a slot back puts it first on the chain
pub given_back :
    {X : Type 0}
    (f : X → ℕ)
    (g : X → ℕ → X)
    → ((x : X) (v : ℕ) → f (g x v) ≡ v)
    → (s t : List X) (h k : ℕ) (ks : List ℕ)
    → Slot (length s) k
    → times k ks ≡ 0
    → ((d : X) → t ≡ relinked g s k h d)
    → Chain (map f s) h ks
    → Chain (map f t) k (k ∷ ks)
given_back f g reads [] t h k ks sl off e c = absurd (omega (arith, sl.0, sl.1))
given_back f g reads (x ∷ s) t h k ks sl off e c =
    subst (λ (m : List ℕ). Chain m k (k ∷ ks)) (sym (ap (map f) (e x) ∙ links_relinked f g reads (x ∷ s) k h x))
    (chain_push (map f (x ∷ s)) h k ks (slot_links f (x ∷ s) k sl) off c)

-- a record that was linked anew, then written, then linked anew again
pub released :
    {X : Type 0}
    (g : X → ℕ → X)
    (s t u v : List X)
    (k h : ℕ)
    (x : X)
    → Slot (length s) k
    → ((d : X) → t ≡ relinked g s k h d)
    → u ≡ set t (k - 1) x
    → ((d : X) → v ≡ relinked g u k h d)
    → v ≡ set s (k - 1) (g x h)
released {X} g s t u v k h x sl et eu ev =
    ev x
    ∙ ap (λ (y : X). set u (k - 1) (g y h)) (ap (λ (w : List X). get_or w (k - 1) x) again ∙ get_or-set_same s (k - 1) x x (omega (arith, sl.0, sl.1)))
    ∙ ap (λ (w : List X). set w (k - 1) (g x h)) again
    ∙ set-set s (k - 1) x (g x h)
  where
    again : u ≡ set s (k - 1) x
    again = eu ∙ ap (λ (w : List X). set w (k - 1) x) (et x) ∙ set-set s (k - 1) (g (get_or s (k - 1) x) h) x

-- writes at slots leave the records that have none
pub beyond_set : {X : Type 0} (s : List X) (k : ℕ) (x : X) → Slot (length s) k → Beyond s (set s (k - 1) x)
beyond_set s k x h = (length-set s (k - 1) x, drop-set-lt (room (length s)) s (k - 1) x (omega (arith, h.0, h.1)))

pub beyond_more : {X : Type 0} (s t u : List X) → Beyond s t → Beyond t u → Beyond s u
beyond_more {X} s t u a b = (
  b.0 ∙ a.0,
  subst (λ (n : ℕ). drop (room n) u ≡ drop (room n) t) a.0 b.1 ∙ a.1,
)

-- what `make` has done when the first i of n records are left: the chain of those behind them begins at h
pub record Made {X : Type 0} (g : X → ℕ → X) (s : List X) (n i h : ℕ) (t : List X) : Type 0 where
  pub head : h ≡ cond (ltb i n) (i + 1) 0
  pub linked : (k : ℕ) (d : X) → i ≤ k → k < n → get_or t k d ≡ g (get_or s k d) (after n k)
  pub left : (k : ℕ) (d : X) → k < i → get_or t k d ≡ get_or s k d
  pub beyond : Beyond s t

module _ {X : Type 0} (g : X → ℕ → X) (s : List X) (n : ℕ) where
  pub made_more :
      (k h : ℕ) (t u : List X)
      → n ≡ room (length s)
      → 1 ≤ k
      → k ≤ n
      → ((d : X) → u ≡ relinked g t k h d)
      → Made g s n k h t
      → Made g s n (k - 1) k u
  made_more k h [] u e p q w m = absurd (omega (arith, m.beyond.0))
  made_more k h (x ∷ t) u e p q w m =
      record {
        head = up ∙ sym (cond-true (ltb (k - 1) n) (k - 1 + 1) 0 (lt-ltb (k - 1) n (omega arith)));
        linked = λ j d l r. ⊎_elim (λ here. at_k j here d) (λ ne. other j d ne ∙ m.linked j d (omega arith) r) (cases_eq j (k - 1));
        left = λ j d r. other j d (λ z. omega arith) ∙ m.left j d (omega arith);
        beyond = subst (λ (v : List X). Beyond s v) (sym (w x)) (beyond_more s (x ∷ t) _ m.beyond (beyond_set (x ∷ t) k _ (omega arith, omega (arith, e, ap room m.beyond.0))));
      }
    where
      up : k ≡ k - 1 + 1
      up = omega arith

      behind : h ≡ after n (k - 1)
      behind = m.head ∙ ap (λ (j : ℕ). cond (ltb j n) (j + 1) 0) up ∙ ap (λ (j : ℕ). cond (ltb (k - 1 + 1) n) j 0) (omega arith)

      other : (j : ℕ) (d : X) → j ≢ k - 1 → get_or u j d ≡ get_or (x ∷ t) j d
      other j d ne = ap (λ (v : List X). get_or v j d) (w x) ∙ get_or-set_other (x ∷ t) (k - 1) j _ d ne

      at_k : (j : ℕ) → j ≡ k - 1 → (d : X) → get_or u j d ≡ g (get_or s j d) (after n j)
      at_k j here d =
          subst (λ (i : ℕ). get_or u i d ≡ g (get_or s i d) (after n i)) (sym here)
          (ap (λ (v : List X). get_or v (k - 1) d) (w d)
          ∙ get_or-set_same (x ∷ t) (k - 1) _ d (omega (arith, e, m.beyond.0))
          ∙ ap (λ (y : X). g y h) (m.left (k - 1) d (omega arith))
          ∙ ap (g (get_or s (k - 1) d)) behind)

-- the links of the records that `make` has linked
pub made_links :
    {X : Type 0}
    (f : X → ℕ)
    (g : X → ℕ → X)
    → ((x : X) (v : ℕ) → f (g x v) ≡ v)
    → (s t : List X) (n h : ℕ)
    → n ≤ length t
    → Made g s n 0 h t
    → (i : ℕ) → i < n → get_or (map f t) i 0 ≡ after n i
made_links f g reads s [] n h l m i q = absurd (omega arith)
made_links f g reads s (x ∷ t) n h l m i q =
    get_or-map f (x ∷ t) i x 0 (omega arith) ∙ ap f (m.linked i x (omega arith) q) ∙ reads (get_or s i x) (after n i)
