use Rattle.std.proofs.Common.{sym, subst, arith}
use Rattle.grammar.specs.Tree.{nil, ◌▸◌, ◌⊕◌}
use Rattle.records.specs.declared.build.Children.{Children}
use Rattle.records.specs.Building.{Stands}
use Rattle.records.specs.Record.{vacant}
use Rattle.records.proofs.Rows.{row_first, row_behind}
use Rattle.records.proofs.Standing.{stands_behind}
use Rattle.records.proofs.build.Children.push.Goals as goal

pub returns-then-self-eq0 : goal.returns-then-self-eq0
returns-then-self-eq0 c =
    record {
      row = λ s t from free rest us v x y.
          subst (λ (row : Children). Stands s from c.args.slots.now rest row.first row.last (us ⊕ (v ▸ nil))) (sym c.one.ensures)
          (stands_behind s t c.args.slots.now from free c.args.self.first c.args.self.last us x c.args.slots.now rest c.args.child c.args.child c.args.child v y
          (λ slot ks r w. row_first s t c.args.slots.now ks free rest c.args.self.first c.args.self.last c.args.child us v c.if-self-eq0.true r w));
    }

pub returns-then-self-last_slot : goal.returns-then-self-last_slot
returns-then-self-last_slot c =
    record {
      row = λ s t from free rest us v x y.
          stands_behind s t c.args.slots.now from free c.args.self.first c.args.self.last us x c.args.slots.now rest c.args.child c.args.self.first c.args.self.last v y
          (λ slot ks r w. absurd (omega (arith, (slot c.if-self-eq0.false).1, c.if-self-last_slot.true, c.last_slot.ensures)));
    }

pub returns : goal.returns
returns c =
    record {
      row = λ s t from free rest us v x y.
          stands_behind s t c.link_to.new.slots from free c.args.self.first c.args.self.last us x c.args.slots.now rest c.args.child c.args.self.first c.args.child v y
          (λ slot ks r w. row_behind s t c.args.slots.now c.link_to.new.slots ks free rest c.args.self.first c.args.self.last c.args.child us v (slot c.if-self-eq0.false).0 (c.link_to.ensures.records (vacant 0)) r w);
    }
