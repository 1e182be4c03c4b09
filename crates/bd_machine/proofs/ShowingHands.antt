-- The commands of a process, whether its engine has entered for the one in its hand or not.
use Rattle.std.proofs.Common.{◌≡◌, ℕ, List, [], ◌∷◌, ◌++◌, append_assoc, map, Option, None, Some, refl, sym, ap, ◌∙◌}
use Rattle.std.proofs.lemmas.List.{append-nil}
use Rattle.std.specs.Option.{option_map, option_to_list}
use Rattle.bd_machine.specs.declared.process.Hand.{Hand}
use Rattle.bd_machine.specs.declared.process.Process.{Process}
use Rattle.bd_machine.specs.Shows.{completed_of, hand_shown, pieces_of_commands, progress_shown, taken_shown}
use Rattle.bd_turns.specs.State.{Completed, Phase, outstanding, pieces_in_hand}

-- the piece of the command in a hand
abbrev pub pieces_held : Option Hand → List ℕ
pieces_held hand = option_to_list (option_map (λ (h : Hand). h.command.piece) hand)

-- the command in a hand is in the hand that is shown, or among those that are submitted there
pub held_or_taken : (done : List ℕ) (phase : Option Phase) (hand : Option Hand) (rest : List ℕ) →
    done ++ pieces_in_hand (hand_shown phase hand) ++ (taken_shown phase hand ++ rest) ≡ done ++ pieces_held hand ++ rest
held_or_taken done None None rest = refl
held_or_taken done None (Some h) rest =
    ap (λ (front : List ℕ). front ++ h.command.piece ∷ rest) (append-nil done)
    ∙ sym (append_assoc done (h.command.piece ∷ []) rest)
held_or_taken done (Some phase) None rest = refl
held_or_taken done (Some phase) (Some h) rest = refl

-- what is outstanding does not depend on the phase
pub outstanding_shown : {P : Type 0} (held : Option ℕ) (phase : Option Phase) (z : Process P) →
    outstanding (progress_shown held phase z)
    ≡ map (λ (done : Completed). done.piece) (map completed_of z.queue.completed)
    ++ pieces_held z.hand ++ pieces_of_commands z.queue.submitted
outstanding_shown held phase z =
    held_or_taken (map (λ (done : Completed). done.piece) (map completed_of z.queue.completed)) phase z.hand
    (pieces_of_commands z.queue.submitted)
