use Rattle.bd_turns.proofs.HeldTranslations.{held_translations_are_current}
use Rattle.bd_turns.proofs.promises.held_translations_are_current.Goals as goal

pub returns : goal.returns
returns c = held_translations_are_current
