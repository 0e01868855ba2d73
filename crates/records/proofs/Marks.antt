-- A mark is known by its number.
use Rattle.std.proofs.Common.{◌≡◌, refl, arith}
use Rattle.records.specs.declared.record.Mark.{Mark}
use Rattle.records.specs.declared.record.Mark.TheVariants as mark
use Rattle.records.specs.Record.{mark_number}

pub same_mark : (m n : Mark) → mark_number m ≡ mark_number n → m ≡ n
same_mark mark.Unmarked mark.Unmarked e = refl
same_mark mark.Unmarked mark.Loaded e = absurd (omega arith)
same_mark mark.Unmarked mark.Fixed e = absurd (omega arith)
same_mark mark.Unmarked mark.Piece e = absurd (omega arith)
same_mark mark.Loaded mark.Unmarked e = absurd (omega arith)
same_mark mark.Loaded mark.Loaded e = refl
same_mark mark.Loaded mark.Fixed e = absurd (omega arith)
same_mark mark.Loaded mark.Piece e = absurd (omega arith)
same_mark mark.Fixed mark.Unmarked e = absurd (omega arith)
same_mark mark.Fixed mark.Loaded e = absurd (omega arith)
same_mark mark.Fixed mark.Fixed e = refl
same_mark mark.Fixed mark.Piece e = absurd (omega arith)
same_mark mark.Piece mark.Unmarked e = absurd (omega arith)
same_mark mark.Piece mark.Loaded e = absurd (omega arith)
same_mark mark.Piece mark.Fixed e = absurd (omega arith)
same_mark mark.Piece mark.Piece e = refl
