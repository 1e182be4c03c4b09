use Rattle.bd_entry.proofs.AnsweredPieces.{each_piece_once, raw_command_once}
use Rattle.bd_entry.proofs.promises.pieces_are_answered_once.Goals as goal

pub returns-clause-pieces : goal.returns-clause-pieces
returns-clause-pieces c = each_piece_once

pub returns-clause-raw_commands : goal.returns-clause-raw_commands
returns-clause-raw_commands c = raw_command_once
