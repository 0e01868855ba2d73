use Rattle.std.proofs.Common.{◌≡◌, ℕ, sym, ◌∙◌, arith}
use Rattle.reader.specs.Table.{turn_of}
use Rattle.recognizer.specs.Reads.{standing_of}
use Rattle.reader.proofs.Taking.{taken_is}
use Rattle.recognizer.proofs.tree.taken.Goals.{then-stands, else-stands}
use Rattle.recognizer.proofs.tree.taken.Goals as goal

pub returns-then-suits : goal.returns-then-suits
returns-then-suits c =
    elim c.if-stands.branch [
      | then-stands w ↦ taken_is c.args.allow_in c.args.slot (standing_of c.args.left) (turn_of c.args.turn) _ c.grown-form.result (sym c.stands.ensures ∙ w.if-stands.true) (rw w.first_slot.ensures at (sym w.suits.ensures ∙ sym w.value-is ∙ c.if-suits.true)) (rw c.is_chain.ensures at c.grown-form.ensures) (rw (c.is_call.ensures, c.is_target.ensures) at c.fits.ensures)
      | else-stands w ↦ let e = sym w.value-is ∙ c.if-suits.true in let z : ◌≡◌ {A = ℕ} 0 1 = cc in absurd (omega arith)
    ]
