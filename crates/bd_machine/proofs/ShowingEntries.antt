-- What one more entry of a call leaves of its commands, and where entries come from.
use Rattle.std.proofs.Common.{◌≡◌, ℕ, Bool, true, false, ◌||◌, List, [], ◌∷◌, ◌++◌, Option, None, Some, refl, sym, ap, ◌∙◌}
use Rattle.std.specs.Option.{option_and_then, option_map}
use Rattle.std.proofs.lemmas.List.Folds.{list_any-append}
use Rattle.std.proofs.lemmas.Option.{none-some}
use Rattle.bd_base.specs.declared.script.Call.{Call}
use Rattle.bd_base.specs.declared.script.Call.TheVariants.{Enter}
use Rattle.bd_base.specs.Pieces.{Piece}
use Rattle.bd_entry.specs.declared.entry.Entry.{Entry}
use Rattle.bd_entry.specs.Calls.{Place, fd_of_call, has_missed, is_miss_of, piece_of_call}
use Rattle.bd_machine.specs.Shows.{IsCommandOf, IsHandOf, IsOutcome, tells}
use Rattle.bd_machine.specs.declared.process.Hand.{Hand}
use Rattle.bd_queue_pair.specs.declared.command.Command.{Command}
use Rattle.bd_queue_pair.specs.declared.command.DoneKind.{DoneKind}
use Rattle.bd_turns.specs.Engines.{request_for}
use Rattle.bd_turns.specs.State.{Phase}

-- the place after one more entry
abbrev pub with_one_more : Place → Entry → Place
with_one_more p e = record p { before = p.before ++ e ∷ [] }

-- a call with pieces keeps its descriptor
fd_more : (call : Call) (entries : List Entry) (e : Entry) (number : ℕ) (piece : Piece) → piece_of_call call number ≡ Some piece →
    fd_of_call call (entries ++ e ∷ []) ≡ fd_of_call call entries
fd_more (Enter name mode how) entries e number piece there = absurd (none-some piece there)
fd_more call entries e number piece there = refl

-- a command stays that of its piece
pub command_more : (p : Place) (e : Entry) (c : Command) → IsCommandOf p c → IsCommandOf (with_one_more p e) c
command_more p e c is =
    record {
      piece = is.piece;
      piece_is = is.piece_is;
      range = is.range;
      request =
          ap (option_and_then (λ fd. option_map (request_for p fd) (piece_of_call p.call c.piece)))
          (fd_more p.call p.before e c.piece is.piece is.piece_is)
          ∙ is.request;
    }

-- an entry that is no miss of a piece leaves whether it missed
pub missed_more : (number : ℕ) (before : List Entry) (e : Entry) → is_miss_of number e ≡ false →
    has_missed number (before ++ e ∷ []) ≡ has_missed number before
missed_more number before e other =
    list_any-append (is_miss_of number) before (e ∷ []) ∙ ap (λ (b : Bool). has_missed number before || (b || false)) other
    ∙ or_none (has_missed number before)
  where
    or_none : (b : Bool) → (b || (false || false)) ≡ b
    or_none true = refl
    or_none false = refl

-- what became of a command in hand is kept where the journal says the same of it
pub outcome_same : (told missed more : Bool) (o : Option DoneKind) → (told ≡ true → more ≡ missed) → IsOutcome told missed o →
    IsOutcome told more o
outcome_same false missed more None same is = tt
outcome_same false missed more (Some kind) same is = is
outcome_same true missed more None same is = is
outcome_same true missed more (Some kind) same is = is ∙ sym (same refl)

-- the command in hand stays so, where the entry is no miss of one that the journal tells of already
pub hand_more : (p : Place) (e : Entry) (phase : Option Phase) (hand : Hand) →
    (tells phase ≡ true → is_miss_of hand.command.piece e ≡ false) →
    IsHandOf p phase hand → IsHandOf (with_one_more p e) phase hand
hand_more p e phase hand told is =
    record {
      command = command_more p e hand.command is.command;
      outcome =
          outcome_same (tells phase) (has_missed hand.command.piece p.before)
          (has_missed hand.command.piece (p.before ++ e ∷ [])) hand.outcome
          (λ is_told. missed_more hand.command.piece p.before e (told is_told)) is.outcome;
    }
