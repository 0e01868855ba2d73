use Rattle.records.proofs.Suits.{derived_sound}
use Rattle.records.proofs.laws.derived_is_sound.Goals as goal

pub returns : goal.returns
returns c = derived_sound
