use Rattle.bd_blocks.proofs.RunLists.{are-runs, bytes-of_runs}
use Rattle.bd_blocks.proofs.laws.runs_expand_to_their_bytes.Goals as goal

pub returns-clause-runs : goal.returns-clause-runs
returns-clause-runs c = are-runs

pub returns-clause-bytes : goal.returns-clause-bytes
returns-clause-bytes c = bytes-of_runs
