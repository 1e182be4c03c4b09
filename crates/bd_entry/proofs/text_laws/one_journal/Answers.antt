use Rattle.std.proofs.Common.{[], ◌∷◌, ◌++◌}
use Rattle.std.proofs.lemmas.List.{append_cancel_left}
use Rattle.bd_blocks.specs.declared.text.TheConstants.{LF}
use Rattle.bd_entry.specs.Texts.{header, lines_text}
use Rattle.bd_entry.proofs.OneEntry.{lines_injective}
use Rattle.bd_entry.proofs.text_laws.one_journal.Goals as goal

pub returns : goal.returns
returns c = λ j k are other same. lines_injective j k are other (append_cancel_left (header ++ LF ∷ []) (lines_text j) (lines_text k) same)
