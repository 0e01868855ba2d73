-- A row of siblings grows: a parent is put over it, a tree comes behind it.
use Rattle.std.proofs.Common.{◌≡◌, ℕ, ◌+◌, ◌-◌, ◌<◌, ◌≤◌, ◌≢◌, List, [], ◌∷◌, length, set, sym, refl, ap, ◌∙◌, subst, arith, length-set}
use Rattle.chain.specs.Chain.{room, Slot, Chain, is, times}
use Rattle.chain.proofs.Counting.{is_same}
use Rattle.grammar.specs.Tree.{Head, Tree, Forest, node, nil, ◌▸◌, ◌⊕◌, sizes}
use Rattle.records.specs.declared.record.Record.{Record}
use Rattle.records.specs.declared.record.Mark.TheVariants as mark
use Rattle.records.specs.Record.{head_of, at, links, relinked}
use Rattle.records.specs.Siblings.{Siblings, none, sibling, forest, size, count, Holds, Loose}
use Rattle.records.specs.Building.{last_of, behind, Row}
use Rattle.records.proofs.AtSlots.{length_links, link_of_lem, at_same, at_other}
use Rattle.records.proofs.Measures.{size_forest}
use Rattle.records.proofs.Frame.{alike, frame, outside, outside_chain, in_range, plain_write}

pub count_behind : (k : ℕ) (f g : Siblings) → count k (behind f g) ≡ count k f + count k g
count_behind k none g = omega arith
count_behind k (sibling j d A B) g = omega (arith, count_behind k B g)

pub size_behind : (f g : Siblings) → size (behind f g) ≡ size f + size g
size_behind none g = omega arith
size_behind (sibling j d A B) g = omega (arith, size_behind B g)

pub forest_behind : (f g : Siblings) → forest (behind f g) ≡ forest f ⊕ forest g
forest_behind none g = refl
forest_behind (sibling j d A B) g = ap (λ us. node d (forest A) ▸ us) (forest_behind B g)

pub last_behind : (f : Siblings) (k : ℕ) (d : Head) (A B : Siblings) → last_of (behind f (sibling k d A B)) ≡ last_of (sibling k d A B)
last_behind none k d A B = refl
last_behind (sibling j e C none) k d A B = refl
last_behind (sibling j e C (sibling i b D E)) k d A B = last_behind (sibling i b D E) k d A B

-- the last of siblings is one of them
pub last_in : (f : Siblings) → 0 < last_of f → 0 < count (last_of f) f
last_in none p = p
last_in (sibling k d A none) p = omega (arith, is_same k)
last_in (sibling k d A (sibling j e B C)) p = omega (arith, last_in (sibling j e B C) p)

-- the last of the siblings f is led to g
pub led :
    (s : List Record)
    (h j l : ℕ)
    (f g : Siblings)
    → last_of f ≡ l
    → 0 < l
    → ((k : ℕ) → count k f + count k g ≤ 1)
    → Holds s h f
    → Holds s j g
    → Holds (set s (l - 1) (relinked (at s l) j)) h (behind f g)
led s h j l none g e p ap' x y = absurd (omega arith)
led s h j l (sibling k d A none) g e p apart x y =
    subst (λ i. Holds (set s (i - 1) (relinked (at s i) j)) h (sibling k d A g)) e (
      x.0,
      x.1,
      omega (arith, x.2, length-set s (k - 1) r),
      ap head_of tk ∙ x.3,
      subst (λ i. Holds t i A) (sym (ap (λ (q : Record). q.first) tk)) (outside s (at s k).first A k r x.1 (omega (arith, apart k, is_same k)) x.4),
      subst (λ i. Holds t i g) (sym (ap (λ (q : Record). q.next) tk)) (outside s j g k r x.1 (omega (arith, apart k, is_same k)) y),
    )
  where
    r : Record
    r = relinked (at s k) j

    t : List Record
    t = set s (k - 1) r

    tk : at t k ≡ r
    tk = at_same s k r x.1 x.2
led s h j l (sibling k d A (sibling i b B C)) g e p apart x y = (
  x.0,
  x.1,
  omega (arith, x.2, length-set s (l - 1) r),
  ap head_of tk ∙ x.3,
  subst (λ n. Holds t n A) (sym (ap (λ (q : Record). q.first) tk)) (outside s (at s k).first A l r p (omega (arith, apart l, inl')) x.4),
  subst (λ n. Holds t n (behind (sibling i b B C) g)) (sym (ap (λ (q : Record). q.next) tk))
      (led s (at s k).next j l (sibling i b B C) g e p (λ n. omega (arith, apart n)) x.5 y),
)
  where
    r : Record
    r = relinked (at s l) j

    t : List Record
    t = set s (l - 1) r

    inl' : 0 < count l (sibling i b B C)
    inl' = subst (λ n. 0 < count n (sibling i b B C)) e (last_in (sibling i b B C) (subst (λ n. 0 < n) (sym e) p))

    ne : k ≢ l
    ne z = let u : is l k ≡ 1 = subst (λ n. is n k ≡ 1) z (is_same k) in omega (arith, apart l, inl')

    tk : at t k ≡ at s k
    tk = at_other s l k r p x.1 ne

-- nothing is put up yet
pub row_none : (s : List Record) (ks : List ℕ) (free : ℕ) → Chain (links s) free ks → ((k : ℕ) → times k ks ≤ 1) → Row s s ks free 0 0 nil
row_none s ks free c once =
    record {
      siblings = none;
      chain = ks;
      loose = (refl, c, λ k. omega (arith, once k));
      trees = refl;
      ends = refl;
      drawn = λ k. omega arith;
      left = omega arith;
      length = refl;
      same = λ k p z. refl;
      plain = λ k p z. z;
    }

-- a parent is drawn, and put over the row
pub row_nested :
    (s t u : List Record)
    (ks : List ℕ)
    (free free' first last k : ℕ)
    (us : Forest)
    (r : Record)
    → Slot (length t) free
    → k ≡ free
    → free' ≡ (at t k).next
    → u ≡ set t (k - 1) r
    → r.first ≡ first
    → r.next ≡ 0
    → r.mark ≡ mark.Unmarked
    → Row s t ks free first last us
    → Row s u ks free' k k (node (head_of r) us ▸ nil)
row_nested s t u ks free free' first last k us r sl ek ef eu e1 e2 em x = go x.chain x.loose x.drawn x.left
  where
    go : (js : List ℕ) → Loose t free first x.siblings js → ((j : ℕ) → count j x.siblings + times j js ≡ times j ks) → length ks ≡ size x.siblings + length js → Row s u ks free' k k (node (head_of r) us ▸ nil)
    go [] l c n = absurd (omega (arith, l.1, sl.0))
    go (j ∷ js) l c n =
        subst (λ v. Row s v ks free' k k (node (head_of r) us ▸ nil)) (sym eu)
        (subst (λ v. Row s (set t (k - 1) r) ks v k k (node (head_of r) us ▸ nil)) (sym ef)
        record {
          siblings = sibling k (head_of r) g none;
          chain = js;
          loose = (
            (refl, p, omega (arith, q, lz), ap head_of zk, subst (λ i. Holds z i g) (sym (ap (λ (v : Record). v.first) zk ∙ e1)) (outside t first g k r p (omega (arith, l.2 k, is_jk)) l.0), ap (λ (v : Record). v.next) zk ∙ e2),
            outside_chain t (at t k).next js k r p (omega (arith, l.2 k, is_jk)) (subst (λ i. Chain (links t) i js) (link_of_lem t j ∙ ap (λ i. (at t i).next) jk) l.1.2),
            λ i. omega (arith, l.2 i, ap (is i) jk),
          );
          trees = ap (λ vs. node (head_of r) vs ▸ nil) x.trees;
          ends = refl;
          drawn = λ i. omega (arith, c i, ap (is i) jk);
          left = omega (arith, n);
          length = lz ∙ x.length;
          same = λ i w m. at_other t k i r p w (λ e. let y : is i k ≡ 1 = subst (λ v. is i v ≡ 1) e (is_same i) in omega (arith, c i, m, ap (is i) jk)) ∙ x.same i w m;
          plain = λ i w m. plain_write t k r p q (λ _. em) i w (x.plain i w m);
        })
      where
        g : Siblings
        g = x.siblings

        z : List Record
        z = set t (k - 1) r

        jk : j ≡ k
        jk = sym l.1.0 ∙ sym ek

        p : 0 < k
        p = omega (arith, ek, sl.0)

        q : k ≤ room (length t)
        q = omega (arith, ek, sl.1)

        lz : length z ≡ length t
        lz = length-set t (k - 1) r

        zk : at z k ≡ r
        zk = at_same t k r p q

        is_jk : is k j ≡ 1
        is_jk = subst (λ v. is k v ≡ 1) (sym jk) (is_same k)

-- a tree comes behind the row
pub row_behind :
    (s t e z : List Record)
    (ks : List ℕ)
    (free free' first last child : ℕ)
    (us : Forest)
    (v : Tree)
    → 0 < last
    → z ≡ set e (last - 1) (relinked (at e last) child)
    → (x : Row s t ks free first last us)
    → Row t e x.chain free' child child (v ▸ nil)
    → Row s z ks free' first child (us ⊕ (v ▸ nil))
row_behind s t e z ks free free' first last child us v p ez x y = subst (λ w. Row s w ks free' first child (us ⊕ (v ▸ nil))) (sym ez) row
  where
    g : Siblings
    g = x.siblings

    c : Siblings
    c = y.siblings

    r : Record
    r = relinked (at e last) child

    z' : List Record
    z' = set e (last - 1) r

    lz : length z' ≡ length e
    lz = length-set e (last - 1) r

    inside : 0 < count last g
    inside = subst (λ n. 0 < count n g) x.ends (last_in g (subst (λ n. 0 < n) (sym x.ends) p))

    held : Holds e first g
    held = frame t e first g y.length (λ k q n. alike (y.same k q (omega (arith, x.loose.2 k)))) x.loose.0

    apart : (k : ℕ) → count k g + count k c ≤ 1
    apart k = omega (arith, x.loose.2 k, y.drawn k)

    slot : last ≤ room (length e)
    slot = (in_range e first g last held inside).1

    ending : (c : Siblings) → forest c ≡ v ▸ nil → last_of c ≡ child → last_of (behind g c) ≡ child
    ending none n m = let w : ◌≡◌ {A = ℕ} 0 1 = cc in absurd (omega arith)
    ending (sibling k d A B) n m = last_behind g k d A B ∙ m

    row : Row s z' ks free' first child (us ⊕ (v ▸ nil))
    row =
        record {
          siblings = behind g c;
          chain = y.chain;
          loose = (
            led e first child last g c x.ends p apart held y.loose.0,
            outside_chain e free' y.chain last r p (omega (arith, x.loose.2 last, y.drawn last, inside)) y.loose.1,
            λ k. omega (arith, count_behind k g c, x.loose.2 k, y.drawn k),
          );
          trees = forest_behind g c ∙ ap (λ ws. forest g ⊕ ws) y.trees ∙ ap (λ ws. ws ⊕ (v ▸ nil)) x.trees;
          ends = ending c y.trees y.ends;
          drawn = λ k. omega (arith, count_behind k g c, x.drawn k, y.drawn k);
          left = omega (arith, size_behind g c, x.left, y.left);
          length = lz ∙ y.length ∙ x.length;
          same = λ k q m.
              at_other e last k r p q (λ w. let n : 0 < count k g = subst (λ i. 0 < count i g) (sym w) inside in omega (arith, x.drawn k, m))
              ∙ y.same k q (omega (arith, x.drawn k, m))
              ∙ x.same k q m;
          plain = λ k q m. plain_write e last r p slot (λ n. n) k q (y.plain k q (x.plain k q m));
        }

-- where the row has fewer records than were free, one is left to draw
pub row_room : (s t : List Record) (ks : List ℕ) (free first last : ℕ) (us : Forest) → Row s t ks free first last us → sizes us < length ks → Slot (length t) free
row_room s t ks free first last us x n = go x.chain x.loose.1 x.left
  where
    go : (js : List ℕ) → Chain (links t) free js → length ks ≡ size x.siblings + length js → Slot (length t) free
    go [] c l = absurd (let e : sizes us ≡ size x.siblings = ap sizes (sym x.trees) ∙ size_forest x.siblings in omega (arith, n))
    go (j ∷ js) c l = subst (λ i. Slot (length t) i) (sym c.0) (subst (λ m. Slot m j) (length_links t) c.1)

-- the last of siblings that stand is a slot
last_slot : (s : List Record) (h : ℕ) (k : ℕ) (d : Head) (A B : Siblings) → Holds s h (sibling k d A B) → Slot (length s) (last_of (sibling k d A B))
last_slot s h k d A none x = (x.1, x.2)
last_slot s h k d A (sibling j e C D) x = last_slot s (at s k).next j e C D x.5

pub row_last : (s t e : List Record) (ks : List ℕ) (free first last : ℕ) (us : Forest) → Row s t ks free first last us → length e ≡ length t → last ≢ 0 → Slot (length e) last
row_last s t e ks free first last us x l ne = subst (λ n. Slot n last) (sym l) (go x.siblings x.loose.0 x.ends)
  where
    go : (g : Siblings) → Holds t first g → last_of g ≡ last → Slot (length t) last
    go none h z = absurd (ne (sym z))
    go (sibling k d A B) h z = subst (λ i. Slot (length t) i) z (last_slot t first k d A B h)

-- a tree comes first
pub row_first :
    (s t e : List Record)
    (ks : List ℕ)
    (free free' first last child : ℕ)
    (us : Forest)
    (v : Tree)
    → last ≡ 0
    → (x : Row s t ks free first last us)
    → Row t e x.chain free' child child (v ▸ nil)
    → Row s e ks free' child child (us ⊕ (v ▸ nil))
row_first s t e ks free free' first last child us v z x y = go x.siblings x.loose.0 x.ends x.trees x.drawn x.left
  where
    go : (g : Siblings) → Holds t first g → last_of g ≡ last → forest g ≡ us → ((k : ℕ) → count k g + times k x.chain ≡ times k ks) → length ks ≡ size g + length x.chain → Row s e ks free' child child (us ⊕ (v ▸ nil))
    go none h m f c n =
        subst (λ ws. Row s e ks free' child child (ws ⊕ (v ▸ nil))) f
        record {
          siblings = y.siblings;
          chain = y.chain;
          loose = y.loose;
          trees = y.trees;
          ends = y.ends;
          drawn = λ k. omega (arith, y.drawn k, c k);
          left = omega (arith, y.left, n);
          length = y.length ∙ x.length;
          same = λ k q m. y.same k q (omega (arith, c k, m)) ∙ x.same k q m;
          plain = λ k q m. y.plain k q (x.plain k q m);
        }
    go (sibling k d A B) h m f c n = absurd (omega (arith, (last_slot t first k d A B h).0, m, z))
