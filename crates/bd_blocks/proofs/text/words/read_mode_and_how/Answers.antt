use Rattle.bd_blocks.specs.Words.{how_text, mode_text}
use Rattle.bd_blocks.proofs.Spellings.{Every, mode-field, no-first}
use Rattle.bd_blocks.proofs.text.words.read_mode_and_how.Goals as goal

pub returns-in_err-read_mode : goal.returns-in_err-read_mode
returns-in_err-read_mode c =
    rw c.from_residual-in_err-read_mode.ensures
    (λ p _ same. no-first mode_text Every mode-field c.args.text.now c.in_ok-mode.mode.now c.in_ok-mode.how.now
    c.in_ok-mode.ensures.split c.in_ok-mode.ensures.first (λ m _. c.in_err-read_mode.ensures m tt) p.0 (how_text p.1) tt same)
