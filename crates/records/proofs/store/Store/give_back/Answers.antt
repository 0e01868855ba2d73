use Rattle.std.proofs.Common.{◌≡◌, ℕ, List, length, sym, refl, ap, ◌∙◌, subst, arith, length-set}
use mathlib.Core.Logic.{∥∥₁_map}
use Rattle.records.specs.declared.record.Mark.TheVariants as mark
use Rattle.records.specs.Siblings.{Siblings, Loose, Given}
use Rattle.records.proofs.Stamps.{loose_stamped}
use Rattle.records.proofs.store.Store.give_back.Goals as goal

pub give_back_tree-requires : goal.give_back_tree-requires
give_back_tree-requires c =
    let s = c.args.self.now.slots.now in
    let free = c.args.self.now.free in
    let root = c.args.root in
    subst (λ t. ∥ ((f : Siblings) × (ks : List ℕ) × Loose t free root f ks) ∥₁) (sym c.stamp.ensures)
    (∥∥₁_map c.requires.loose (λ x. (x.0, x.1, loose_stamped s free root mark.Unmarked x.0 x.1 root c.requires.inside x.2)))

pub returns : goal.returns
returns c =
    let s = c.args.self.now.slots.now in
    let free = c.args.self.now.free in
    let root = c.args.root in
    record {
      length = (let l : length c.stamp.new.slots ≡ length s = ap length c.stamp.ensures ∙ simp length-set in omega arith);
      given = λ f ks x.
          subst
          (λ t. Loose t free root f ks → Given t c.give_back_tree.new.slots f ks c.give_back_tree.new.free)
          c.stamp.ensures
          (c.give_back_tree.ensures f ks)
          (loose_stamped s free root mark.Unmarked f ks root c.requires.inside x);
      lender = refl;
    }
